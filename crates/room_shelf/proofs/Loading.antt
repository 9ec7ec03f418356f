-- Loads through a view that is out, and what the live parts tell.
use Rattle.std.proofs.Common.{◌≡◌, ◌∙◌, inl, ℕ, ◌+◌, ◌≤◌, true, List, Option, Some, None, sym, ap, subst, arith}
use Rattle.std.specs.Prelude.{Any, Contains, IfSome, option_map, slice_get, slice_set}
use Rattle.std.specs.List.{AllByRecursion, list_all}
use Rattle.fine_model.specs.declared.FetchFault.{FetchFault}
use Rattle.fine_model.specs.declared.FetchFault.TheVariants as fetch_fault
use Rattle.fine_model.specs.declared.Part.{Part}
use Rattle.fine_model.specs.declared.Row.{Row}
use Rattle.fine_model.specs.declared.law.RoomState.{RoomState}
use Rattle.fine_model.specs.Boards.{buffer_at, is_empty, set_of}
use Rattle.fine_model.specs.Chain.{regions_of}
use Rattle.fine_model.specs.Faults.{HasRisen}
use Rattle.fine_model.specs.Regions.{HasHeader, Image}
use Rattle.fine_model.specs.Views.{SameSeen, TellsRowsOf}
use Rattle.fine_model.proofs.Chain.Owning.{tells_alike}
use Rattle.log_disk.specs.Disk.{IsToldOf, Told}
use Rattle.log_disk.specs.Moments.{IsLeft}
use Rattle.node_fetch.specs.Fetched.{HasBadEntry, HasBadRow}
use Rattle.partition_hold.specs.Sources as source
use Rattle.partition_hold.specs.Views.{ViewValue, opened}
use Rattle.epoch_room.specs.Meaning.{Stands, StandsTold, StandsWhere}
use Rattle.epoch_room.specs.Value.{RoomValue}
use Rattle.epoch_room.specs.Whole.{HoldsParts}
use Rattle.fine_model.proofs.Ordered.Zip.{all_left}
use Rattle.room_shelf.specs.Shelves.{Fails, HasView, IsClean, IsOut, LogLaw, ReadsLaw, SeesLive, ShowsLog, TellsLaw, shelf, tells_log, total}

-- ---- a view tells the rows of the live parts

as_view : (told : Option Image) (len length : ℕ) (parts others : List Part) (rows : List Row) → length ≡ len → others ≡ parts → TellsRowsOf told len parts rows → TellsRowsOf told length others rows
as_view told len length parts others rows long same t = subst (λ n. TellsRowsOf told n others rows) (sym long) (subst (λ ps. TellsRowsOf told len ps rows) (sym same) t)

pub tells_law : TellsLaw
tells_law room out view rows shows told =
    let sees = shows.sees in
    as_view view.eye.told room.room.region_len view.region_len room.room.parts view.parts rows shows.region_len shows.parts
    (tells_alike sees.regions room.room.image view.eye.told room.room.region_len room.room.parts rows sees.same sees.named told)

-- a view that is out shows it
pub shows_out : (room : RoomState) (view : ViewValue) → IsOut room view → SeesLive room view.eye → ShowsLog room view
shows_out room view out sees = record { upto = out.upto; parts = out.parts; region_len = out.region_len; opened = out.opened; sees = sees }

-- ---- loads

rises : (d a b : ℕ) → HasRisen a b → HasRisen (d + a) (d + b)
rises d a b r = grind (arith, r)

risen : (a b c : ℕ) → a ≤ b → HasRisen b c → HasRisen a c
risen a b c low r = grind (arith, low, r)

module _ (old : RoomValue) (out : Option ViewValue) (new : RoomValue) (view read : ViewValue) (has : HasView old out new view) (later : source.IsLater view read) where
  eye_same : opened read.eye ≡ opened view.eye
  eye_same =
      ap (λ n. record { number = n; regions = set_of read.eye.regions; told = read.eye.told }) later.same.eye.number
      ∙ ap (λ rs. record { number = view.eye.number; regions = set_of rs; told = read.eye.told }) later.same.eye.regions
      ∙ ap (λ (t : Option Image). record { number = view.eye.number; regions = set_of view.eye.regions; told = t }) later.same.eye.told

  place : buffer_at read.seat read.buffer ≡ buffer_at view.seat view.buffer
  place = ap (λ n. buffer_at n read.buffer) later.same.place.0 ∙ ap (buffer_at view.seat) later.same.place.1

  is_out : IsOut new.room read
  is_out = record {
    seat = later.same.place.0 ∙ has.is_out.seat;
    upto = later.same.upto ∙ has.is_out.upto;
    parts = later.same.parts ∙ has.is_out.parts;
    region_len = later.same.region_len ∙ has.is_out.region_len;
    opened = has.is_out.opened;
    posted = ap (slice_get new.room.board) place ∙ has.is_out.posted ∙ ap (λ e. Some (Some e)) (sym eye_same);
    alone = subst (λ n. list_all is_empty (slice_set new.room.board n None) ≡ true) (sym place) has.is_out.alone;
  }

  sees : SeesLive new.room read.eye
  sees = record {
    regions = has.sees.regions;
    same = subst (λ t. SameSeen has.sees.regions new.room.image t) (sym later.same.eye.told) has.sees.same;
    named = has.sees.named;
    region_len = later.same.eye.region_len ∙ has.sees.region_len;
  }

  grows : total (shelf new (Some view)) ≤ total (shelf new (Some read))
  grows = let low = later.no_lower in omega (arith, low)

  clean : source.IsClean view read → IsClean (shelf old out) (shelf new (Some read))
  clean same = record { count = ap (λ n. new.disk.faults + n) same ∙ has.clean.count; own = has.clean.own; shut = has.clean.shut }

  -- what is said of the view's parts is said of the live parts as the shelf was
  image_same : new.room.image ≡ old.room.image
  image_same = ap (λ (r : RoomState). r.image) has.later.room

  len_same : view.region_len ≡ old.room.region_len
  len_same = has.is_out.region_len ∙ ap (λ (r : RoomState). r.region_len) has.later.room

  parts_same : view.parts ≡ old.room.parts
  parts_same = has.is_out.parts ∙ ap (λ (r : RoomState). r.parts) has.later.room

  sees_old : SeesLive old.room view.eye
  sees_old = record {
    regions = has.sees.regions;
    same = subst (λ o. SameSeen has.sees.regions o view.eye.told) image_same has.sees.same;
    named = subst (λ ps. AllByRecursion (λ p. AllByRecursion (Contains has.sees.regions) (regions_of p)) ps) (ap (λ (r : RoomState). r.parts) has.later.room) has.sees.named;
    region_len = has.sees.region_len ∙ ap (λ (r : RoomState). r.region_len) has.later.room;
  }

  tells_none : source.TellsNone view → (rows : List Row) → tells_log (shelf old out) rows → ⊥
  tells_none none rows told =
      none rows (as_view view.eye.told old.room.region_len view.region_len old.room.parts view.parts rows len_same parts_same
      (tells_alike sees_old.regions old.room.image view.eye.told old.room.region_len old.room.parts rows sees_old.same sees_old.named told))

  fails : (fault : FetchFault) → source.Fails view fault read → Fails (shelf old out) fault (shelf new (Some read))
  fails fetch_fault.Failed f = inl (risen (total (shelf old out)) (total (shelf new (Some view))) (total (shelf new (Some read))) (let e = has.clean.count in omega (arith, e)) (rises new.disk.faults view.eye.faults read.eye.faults f))
  fails (fetch_fault.BadRow region at) f = (
    tells_none f.0,
    (
      view.eye,
      sees_old,
      (
        f.1.0,
        subst (Any (λ p. HasBadRow view.eye.told old.room.region_len p f.1.0 (record { region = region; at = at }))) parts_same
            (subst (λ n. Any (λ p. HasBadRow view.eye.told n p f.1.0 (record { region = region; at = at })) view.parts) len_same f.1.1),
      ),
    ),
  )
  fails (fetch_fault.BadIndex region at) f = (
    tells_none f.0,
    (
      view.eye,
      sees_old,
      subst (Any (λ p. HasBadEntry view.eye.told old.room.region_len p (record { region = region; at = at }))) parts_same
          (subst (λ n. Any (λ p. HasBadEntry view.eye.told n p (record { region = region; at = at })) view.parts) len_same f.1),
    ),
  )
  fails fetch_fault.NoMemory f = tt

pub reads_law : ReadsLaw
reads_law old out new view read has later = record {
  has = λ same. record { is_out = is_out old out new view read has later; sees = sees old out new view read has later; later = has.later; clean = clean old out new view read has later same };
  is_out = is_out old out new view read has later;
  sees = sees old out new view read has later;
  later = has.later;
  no_lower = let e = has.clean.count in let g = grows old out new view read has later in omega (arith, e, g);
  own = has.clean.own;
  shut = has.clean.shut;
  fails = fails old out new view read has later;
}

-- ---- what the live parts tell

pub log_law : LogLaw
unfolding Stands
log_law room out before told first e history whole open_room at_entry now stands = (
  s.stands.live.rows,
  record {
    image = told.bytes;
    is_told = image_is;
    headers = subst (λ n. AllByRecursion (λ (p : Part). HasHeader n told.bytes p.region p.header) room.room.parts) (sym len) (all_left (λ (p : Part). HasHeader room.disk.region_len told.bytes p.region p.header) room.room.parts room.room.retired held.headers);
    are_rows = s.stands.live.are_rows;
  },
  s.stands.live.agrees,
)
  where
    s : StandsTold room.room before told first e history
    s = subst (λ t. StandsWhere room.room (Some before) t first e history) now (subst (λ t. StandsWhere room.room t room.disk.told first e history) at_entry stands)

    image_is : room.room.image ≡ Some told.bytes
    image_is = ap (λ (x : RoomState). x.image) whole.of_disk ∙ ap (option_map (λ (t : Told). t.bytes)) now

    len : room.room.region_len ≡ room.disk.region_len
    len = ap (λ (x : RoomState). x.region_len) whole.of_disk

    held : HoldsParts room.disk.region_len told.bytes room.room.parts room.room.retired
    held = subst (λ t. IfSome t (IsLeft (λ image. HoldsParts room.disk.region_len image room.room.parts room.room.retired))) now (whole.told (whole.lost open_room)) told.bytes sound.image
      where
        sound : IsToldOf room.disk told
        sound = subst (λ t. IfSome t (IsToldOf room.disk)) now whole.sound.told

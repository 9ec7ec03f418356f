-- What a room stands for while its open epoch is sealed, and behind each answer.
use Rattle.std.proofs.Common.{◌≡◌, ◌⊎◌, ℕ, Bool, ◌+◌, ◌<◌, ◌≤◌, ◌==◌, true, false, IsTrue, List, [], ◌∷◌, ◌++◌, length, map, Ok, sym, ap, subst, ◌∙◌, inl, inr, arith, append_assoc}
use Rattle.std.specs.Prelude.{Option, filter}
use Rattle.std.specs.List.{AllByRecursion}
use Rattle.std.proofs.lemmas.List.Sums.{sum_by-append}
use Rattle.fine_model.specs.declared.Job.{Job}
use Rattle.fine_model.specs.declared.Part.{Part}
use Rattle.fine_model.specs.declared.Row.{Row}
use Rattle.fine_model.specs.declared.Mark.TheVariants as mark
use Rattle.fine_model.specs.RowBytes.{FitsRow, row_len, rows_len, greatest}
use Rattle.fine_model.specs.Merge.{is_ordered, encoded_len}
use Rattle.fine_model.specs.Nodes.{Agrees}
use Rattle.fine_model.specs.Trees.{IsSound}
use Rattle.fine_model.specs.Regions.{Image, region_of, is_sealed, header_of, partition_bytes, HasHeader, IsSealed}
use Rattle.fine_model.specs.Chain.{AreRowsOf, chain, chain_end, is_free}
use Rattle.fine_model.specs.ChainLaws.{DiffersAt, DiffersBehind, ShowsAlike, IsLonger, part_of}
use Rattle.fine_model.specs.History.{Commit, IsLegal, all_rows, upto, last_epoch}
use Rattle.fine_model.specs.Headline.{ShowsSome}
use Rattle.fine_model.specs.declared.law.RoomState.{RoomState}
use Rattle.fine_model.specs.Boards.{posted, named, held_of}
use Rattle.fine_model.specs.Room.{CountsHistory, HoldsLive, KeepsImages, SameMembers}
use Rattle.fine_model.specs.VersionLaws.{VersionsFollow, HaveSameRows}
use Rattle.fine_model.proofs.Ordered.Arranged.{arranged_agrees}
use Rattle.fine_model.proofs.Trees.CallVersions.{legal_versions}
use Rattle.fine_model.proofs.Histories.HistoryLaws.{upto-last}
use Rattle.fine_model.proofs.Chain.Unique.{Shows-unique}
use Rattle.log_disk.specs.Disk.{Disk, Told, SameOutside, IsImageNow, IsImageSince, clock_of, with_bytes}
use Rattle.log_disk.specs.Moments.{LeavesOnly}
use Rattle.log_disk.proofs.Moments.{now_since}
use Rattle.epoch_room.specs.Gate.{gate, IsAtGate, IsBehind, IsSealing}
use Rattle.epoch_room.specs.Meaning.{StandsTold}
use Rattle.epoch_room.specs.Partition.{IsArranged}
use Rattle.epoch_room.specs.Value.{on}
use Rattle.epoch_room.proofs.OpenEpochs.Arranging.{same_rows, arranged_order}
use Rattle.fine_model.proofs.Histories.Epochs.{rows_together, last_open, none_behind, split_history, follow_split, sealed_by}
use Rattle.epoch_room.proofs.OpenEpochs.Longer.{range_of, base_closed, closed_alike, has_header, longer, own_rows, live_kept}
use Rattle.epoch_room.proofs.OpenEpochs.Partitions.{alike}
use Rattle.epoch_room.proofs.OpenEpochs.Torn.{HasClosed, HasOpened, torn_closed, at_gate, sealed_bytes}

-- the state behind the sealing of the open epoch in a region
abbrev pub sealed_room : RoomState → ℕ → RoomState
sealed_room room region = record room {
  sealed = room.sealed + 1;
  parts = room.parts ++ part_of region (header_of (range_of room.sealed) room.open_rows) ∷ [];
  open_rows = [];
  waiting = 0;
  used = 0;
}

-- what a room stands for does not change with the disk's counts and bytes
module _ (room : RoomState) (disk : Disk) (before told : Told) (first : List Row) (e : ℕ) (history : List Commit) (len : disk.region_len ≡ room.region_len)
    (eyes : map (λ eye. (eye.number, eye.regions)) disk.eyes ≡ room.eyes) (old : StandsTold room before told first e history) where
  pub on_stands : StandsTold (on room disk) before told first e history
  on_stands =
      let counts = old.stands.counts in
      let live = old.stands.live in
      let images = subst (λ n. KeepsImages n first e room.sealed history (IsImageSince (clock_of before) told) (IsImageNow told)) (sym len) old.stands.images in
      record {
        stands = record {
          legal = old.stands.legal;
          counts = record {
            places = counts.places;
            epochs = counts.epochs;
            sealed = counts.sealed;
            open_epoch = counts.open_epoch;
            eyes = subst (λ es. SameMembers (map named es) (map held_of (posted room.board))) (sym eyes) counts.eyes;
          };
          live = record { rows = live.rows; are_rows = subst (λ n. AreRowsOf n told.bytes room.parts live.rows) (sym len) live.are_rows; agrees = live.agrees; no_longer = live.no_longer };
          images = images;
        };
        waiting = old.waiting;
        small = old.small;
        none_open = subst (λ n. room.is_shut ≡ false → (image : Image) → IsImageSince (clock_of before) told image → ShowsSome n first history e room.sealed image) (sym len) old.none_open;
      }

-- a state with the same history
pub still_counted : {parts retired : List Part} {free lost : List ℕ} {job : Option Job} {shut : Bool} (room : RoomState) (e : ℕ) (history : List Commit) → CountsHistory room e history
    → CountsHistory (record room { parts = parts; retired = retired; free = free; lost = lost; job = job; is_shut = shut }) e history
still_counted room e history c = record { places = c.places; epochs = c.epochs; sealed = c.sealed; open_epoch = c.open_epoch; eyes = c.eyes }

wider : (region_len : ℕ) (first : List Row) (history : List Commit) (low high low' high' : ℕ) (image : Image) → low' ≤ low → high ≤ high' → ShowsSome region_len first history low high image → ShowsSome region_len first history low' high' image
wider region_len first history low high low' high' image l h some = record { e = some.e; rows = some.rows; shows = some.shows; from = omega (arith, some.from, l); to = omega (arith, some.to, h); agrees = some.agrees }

-- what is known of a room whose open epoch is sealed in a region
pub record CanSeal (room : RoomState) (sorted : List Row) (bytes : List ℕ) : Type 0 where
  pub open_room : room.is_shut ≡ false
  pub some : 1 ≤ room.waiting
  pub small : room.region_len ≤ 67108864
  pub end : room.sealed ≡ chain_end room.parts
  pub epoch : room.sealed + 1 ≤ greatest
  pub fit : AllByRecursion (FitsRow mark.Two) room.open_rows
  pub arranged : IsArranged room.open_rows sorted
  pub within : encoded_len sorted ≤ room.region_len
  pub spelled : bytes ≡ partition_bytes room.region_len (range_of room.sealed) sorted

-- and of each image that a crash could leave before
pub record IsBase (room : RoomState) (region : ℕ) (bytes : List ℕ) (base : Image) : Type 0 where
  pub is_chain : chain room.region_len base ≡ Ok room.parts
  pub free : is_free base region ≡ true
  pub there : region < length base
  pub long : 1 + length bytes ≤ length (region_of base region)

module _ (room : RoomState) (region : ℕ) (sorted : List Row) (bytes : List ℕ) (can : CanSeal room sorted bytes) (base : Image) (is : IsBase room region bytes base) where
  pub shut_before : is_sealed (region_of base region) ≡ false
  shut_before = base_closed room.region_len region room.sealed room.parts room.open_rows sorted bytes base can.small is.is_chain is.free can.end can.epoch can.arranged can.within can.spelled

  pub behind_closed : (image : Image) → DiffersBehind (region ∷ []) base image → HasClosed region base image
  behind_closed image differs = torn_closed region base image shut_before differs

  pub gate_either : (image : Image) → SameOutside region 0 1 (with_bytes base region 1 bytes) image → HasClosed region base image ⊎ HasOpened region bytes base image
  gate_either image same = at_gate region bytes base is.there is.long image same

  pub gate_opened : HasOpened region bytes base (with_bytes (with_bytes base region 1 bytes) region 0 gate)
  gate_opened = sealed_bytes region bytes base is.there is.long

  pub alike_closed : (image : Image) → HasClosed region base image → ShowsAlike room.region_len base image
  alike_closed image h = closed_alike room.region_len region room.sealed room.parts room.open_rows sorted bytes base can.small is.is_chain is.free can.end can.epoch can.arranged can.within can.spelled image h

  pub longer_opened : (image : Image) → HasOpened region bytes base image → IsLonger room.region_len region base image room.parts (header_of (range_of room.sealed) room.open_rows)
  longer_opened image h = longer room.region_len region room.sealed room.parts room.open_rows sorted bytes base can.small is.is_chain is.free can.end can.epoch can.arranged can.within can.spelled image h

  pub header_opened : (image : Image) → HasOpened region bytes base image → HasHeader room.region_len image region (header_of (range_of room.sealed) room.open_rows)
  header_opened image h = has_header room.region_len region room.sealed room.parts room.open_rows sorted bytes base can.small is.is_chain is.free can.end can.epoch can.arranged can.within can.spelled image h

  own_opened : IsTrue (is_ordered sorted) → (image : Image) → HasOpened region bytes base image → IsSealed room.region_len image region (range_of room.sealed) sorted
  own_opened ordered image h = own_rows room.region_len region room.sealed room.parts room.open_rows sorted bytes base can.small is.is_chain is.free can.end can.epoch can.arranged can.within can.spelled can.fit ordered image h

  live_either : (image : Image) → HasClosed region base image ⊎ HasOpened region bytes base image → (live : List Row) → AreRowsOf room.region_len base room.parts live → AreRowsOf room.region_len image room.parts live
  live_either image h live are = live_kept room.region_len region room.sealed room.parts room.open_rows sorted bytes base can.small is.is_chain is.free can.end can.epoch can.arranged can.within can.spelled image h live are

module _ (room : RoomState) (region : ℕ) (sorted : List Row) (bytes : List ℕ) (can : CanSeal room sorted bytes) (before a : Told) (first : List Row) (e : ℕ) (history : List Commit)
    (bases : (was : Image) → IsImageNow a was → IsBase room region bytes was) (read_now : IsImageNow a a.bytes) (passed : clock_of before ≤ clock_of a) (old : StandsTold room before a first e history) where
  last : last_epoch e history ≡ room.sealed + 1
  last = last_open e room.sealed history old.stands.counts.epochs old.stands.counts.sealed (omega (arith, can.some, old.waiting))

  more_rows : all_rows history ≡ all_rows (upto history room.sealed) ++ room.open_rows
  more_rows =
      ap all_rows (sym (split_history e room.sealed history old.stands.counts.epochs (omega (arith, last)))) ∙ rows_together (upto history room.sealed) (filter (λ d. d.epoch == room.sealed + 1) history)
      ∙ ap (λ rs. all_rows (upto history room.sealed) ++ rs) (sym old.stands.counts.open_epoch)

  log_more : first ++ all_rows (upto history (room.sealed + 1)) ≡ (first ++ all_rows (upto history room.sealed)) ++ room.open_rows
  log_more =
      ap (λ h. first ++ all_rows h) (upto-last e (room.sealed + 1) history old.stands.counts.epochs (omega (arith, last))) ∙ ap (λ rs. first ++ rs) more_rows
      ∙ sym (append_assoc first (all_rows (upto history room.sealed)) room.open_rows)

  legal : IsSound first × IsLegal first history
  legal = elim old.stands.legal as (λ _. IsSound first × IsLegal first history) [
    | inl none ↦ absurd (omega (arith, can.some, old.waiting, ap (λ (h : List Commit). length (filter (λ d. d.epoch == room.sealed + 1) h)) none))
    | inr is ↦ is
  ]

  versions : VersionsFollow (first ++ all_rows (upto history room.sealed)) room.open_rows
  versions = follow_split first (all_rows (upto history room.sealed)) room.open_rows (subst (VersionsFollow first) more_rows (legal_versions first history old.small legal.0 legal.1))

  same : HaveSameRows room.open_rows sorted
  same = same_rows (first ++ all_rows (upto history room.sealed)) room.open_rows sorted versions can.arranged

  ordered : IsTrue (is_ordered sorted)
  ordered = arranged_order (first ++ all_rows (upto history room.sealed)) room.open_rows sorted versions can.arranged

  agrees_more : (rows : List Row) → Agrees rows (first ++ all_rows (upto history room.sealed)) → Agrees (rows ++ sorted) (first ++ all_rows (upto history (room.sealed + 1)))
  agrees_more rows agrees = subst (Agrees (rows ++ sorted)) (sym log_more) (arranged_agrees rows (first ++ all_rows (upto history room.sealed)) room.open_rows sorted same agrees)

  base : IsBase room region bytes a.bytes
  base = bases a.bytes read_now

  -- before the call the disk shows what is sealed
  early : (was : Image) → IsImageNow a was → ShowsSome room.region_len first history e room.sealed was
  early was now = old.none_open can.open_room was (now_since (clock_of before) a was passed now)

  early_is : (was : Image) (now : IsImageNow a was) → (early was now).e ≡ room.sealed
  early_is was now =
      let some = early was now in
      let least = old.stands.images.now_sealed was now in
      let one : some.e ≡ least.e = (Shows-unique room.region_len was some.e least.e some.rows least.rows some.shows least.shows).0 in omega (arith, one, least.from, some.to)

  low : e ≤ room.sealed
  low = let some = early a.bytes read_now in omega (arith, some.from, some.to)

  closed_shows : (was : Image) → IsImageNow a was → (image : Image) → HasClosed region was image → ShowsSome room.region_len first history room.sealed room.sealed image
  closed_shows was now image is =
      let some = early was now in
      record { e = some.e; rows = some.rows; shows = (alike_closed room region sorted bytes can was (bases was now) image is).shown some.e some.rows some.shows; from = omega (arith, early_is was now); to = some.to; agrees = some.agrees }

  opened_shows : (image : Image) → HasOpened region bytes a.bytes image → ShowsSome room.region_len first history (room.sealed + 1) (room.sealed + 1) image
  opened_shows image is =
      let some = early a.bytes read_now in
      let long = longer_opened room region sorted bytes can a.bytes base image is in
      let own = own_opened room region sorted bytes can a.bytes base ordered image is in
      record {
        e = room.sealed + 1;
        rows = some.rows ++ sorted;
        shows = long.shown some.e some.rows sorted some.shows own;
        from = omega arith;
        to = omega arith;
        agrees = agrees_more some.rows (subst (λ n. Agrees some.rows (first ++ all_rows (upto history n))) (early_is a.bytes read_now) some.agrees);
      }

  behind_shows : (image : Image) → IsBehind (region ∷ []) a image → ShowsSome room.region_len first history room.sealed room.sealed image
  behind_shows image b = closed_shows b.was b.is_was image (behind_closed room region sorted bytes can b.was (bases b.was b.is_was) image b.differs)

  at_gate_is : (image : Image) → IsAtGate region (λ was. was ≡ with_bytes a.bytes region 1 bytes) image → HasClosed region a.bytes image ⊎ HasOpened region bytes a.bytes image
  at_gate_is image at = gate_either room region sorted bytes can a.bytes base image (subst (λ (i : Image). SameOutside region 0 1 i image) at.is_was at.same)

  pub sealing_shows : (image : Image) → IsSealing region bytes a image → ShowsSome room.region_len first history room.sealed (last_epoch e history) image
  sealing_shows image (inl b) = wider room.region_len first history room.sealed room.sealed room.sealed (last_epoch e history) image (omega arith) (omega (arith, last)) (behind_shows image b)
  sealing_shows image (inr at) = elim (at_gate_is image at) as (λ _. ShowsSome room.region_len first history room.sealed (last_epoch e history) image) [
    | inl shut ↦ wider room.region_len first history room.sealed room.sealed room.sealed (last_epoch e history) image (omega arith) (omega (arith, last)) (closed_shows a.bytes read_now image shut)
    | inr opened ↦ wider room.region_len first history (room.sealed + 1) (room.sealed + 1) room.sealed (last_epoch e history) image (omega arith) (omega (arith, last)) (opened_shows image opened)
  ]

  kept_live : (image : Image) → HasClosed region a.bytes image ⊎ HasOpened region bytes a.bytes image → HoldsLive room image (first ++ all_rows (upto history room.sealed))
  kept_live image is = record {
    rows = old.stands.live.rows;
    are_rows = live_either room region sorted bytes can a.bytes base image is old.stands.live.rows old.stands.live.are_rows;
    agrees = old.stands.live.agrees;
    no_longer = old.stands.live.no_longer;
  }

  -- what a read gives then differs in the region alone
  module _ (b : Told) (differs : DiffersAt region a.bytes b.bytes) (now : IsImageNow b b.bytes) where
    read_behind : IsBehind (region ∷ []) a b.bytes → HasClosed region a.bytes b.bytes
    read_behind t = record { differs = differs; closed = (behind_closed room region sorted bytes can t.was (bases t.was t.is_was) b.bytes t.differs).closed }

    module _ (run : LeavesOnly (IsSealing region bytes a) a b) where
      pub shown_inside : (image : Image) → IsImageSince (clock_of a) b image → ShowsSome room.region_len first history room.sealed (last_epoch e history) image
      shown_inside image since = sealing_shows image (run.each image since)

      every : (image : Image) → IsImageSince (clock_of before) b image → ShowsSome room.region_len first history e (last_epoch e history) image
      every image since = elim (run.before (clock_of before) image passed since) as (λ _. ShowsSome room.region_len first history e (last_epoch e history) image) [
        | inl earlier ↦ old.stands.images.every_image image earlier
        | inr is ↦ wider room.region_len first history room.sealed (last_epoch e history) e (last_epoch e history) image low (omega arith) (sealing_shows image is)
      ]

      last_gate : HasClosed region a.bytes b.bytes ⊎ HasOpened region bytes a.bytes b.bytes
      last_gate = elim (run.each b.bytes (now_since (clock_of a) b b.bytes run.later now)) as (λ _. HasClosed region a.bytes b.bytes ⊎ HasOpened region bytes a.bytes b.bytes) [ inl t ↦ inl (read_behind t) | inr at ↦ at_gate_is b.bytes at ]

      -- the disk failed
      pub shut_stands : (lost : List ℕ) (disk : Disk) → disk.region_len ≡ room.region_len → map (λ eye. (eye.number, eye.regions)) disk.eyes ≡ room.eyes
          → StandsTold (on (record room { is_shut = true; lost = lost }) disk) before b first e history
      shut_stands lost disk len eyes = on_stands (record room { is_shut = true; lost = lost }) disk before b first e history len eyes (
          let live : HoldsLive room b.bytes (first ++ all_rows (upto history room.sealed)) = kept_live b.bytes last_gate in
          record {
            stands = record {
              legal = old.stands.legal;
              counts = still_counted room e history old.stands.counts;
              live = record { rows = live.rows; are_rows = live.are_rows; agrees = live.agrees; no_longer = live.no_longer };
              images = record { every_image = every; now_sealed = λ image is. shown_inside image (now_since (clock_of a) b image run.later is) };
            };
            waiting = old.waiting;
            small = old.small;
            none_open = λ h. absurd (cc);
          }
          )

      -- the epoch was sealed
      pub sealed_stands : (disk : Disk) → disk.region_len ≡ room.region_len → map (λ eye. (eye.number, eye.regions)) disk.eyes ≡ room.eyes
          → b.bytes ≡ with_bytes (with_bytes a.bytes region 1 bytes) region 0 gate → ((image : Image) → IsImageNow b image → image ≡ b.bytes) → StandsTold (on (sealed_room room region) disk) before b first e history
      sealed_stands disk len eyes written still = on_stands (sealed_room room region) disk before b first e history len eyes opened_stands
        where
          opened : HasOpened region bytes a.bytes b.bytes
          opened = subst (HasOpened region bytes a.bytes) (sym written) (gate_opened room region sorted bytes can a.bytes base)

          beyond : filter (λ d. d.epoch == room.sealed + 1 + 1) history ≡ []
          beyond = none_behind e (room.sealed + 1) history old.stands.counts.epochs (omega (arith, last))

          opened_stands : StandsTold (sealed_room room region) before b first e history
          opened_stands =
              let long = longer_opened room region sorted bytes can a.bytes base b.bytes opened in
              let own = own_opened room region sorted bytes can a.bytes base ordered b.bytes opened in
              record {
                stands = record {
                  legal = old.stands.legal;
                  counts = record {
                    places = old.stands.counts.places;
                    epochs = old.stands.counts.epochs;
                    sealed = sealed_by e (room.sealed + 1) history last;
                    open_epoch = sym (ap all_rows beyond);
                    eyes = old.stands.counts.eyes;
                  };
                  live = record {
                    rows = old.stands.live.rows ++ sorted;
                    are_rows = long.rows old.stands.live.rows sorted old.stands.live.are_rows own;
                    agrees = agrees_more old.stands.live.rows old.stands.live.agrees;
                    no_longer =
                        omega (
                          arith,
                          sum_by-append row_len old.stands.live.rows sorted,
                          (alike room.open_rows sorted can.arranged).same_len,
                          ap rows_len log_more,
                          sum_by-append row_len (first ++ all_rows (upto history room.sealed)) room.open_rows,
                          old.stands.live.no_longer,
                        );
                  };
                  images = record {
                    every_image = every;
                    now_sealed = λ image is.
                        wider room.region_len first history (room.sealed + 1) (room.sealed + 1) (room.sealed + 1) (last_epoch e history) image (omega arith) (omega (arith, last))
                        (opened_shows image (subst (HasOpened region bytes a.bytes) (sym (still image is)) opened));
                  };
                };
                waiting = sym (ap length beyond);
                small = old.small;
                none_open = λ h image since. wider room.region_len first history e (last_epoch e history) e (room.sealed + 1) image (omega arith) (omega (arith, last)) (every image since);
              }

    -- memory ran out
    module _ (run : LeavesOnly (IsBehind (region ∷ []) a) a b) where
      behind_since : (image : Image) → IsImageSince (clock_of before) b image → ShowsSome room.region_len first history e room.sealed image
      behind_since image since = elim (run.before (clock_of before) image passed since) as (λ _. ShowsSome room.region_len first history e room.sealed image) [
        | inl earlier ↦ old.none_open can.open_room image earlier
        | inr torn ↦ wider room.region_len first history room.sealed room.sealed e room.sealed image low (omega arith) (behind_shows image torn)
      ]

      pub open_stands : (disk : Disk) → disk.region_len ≡ room.region_len → map (λ eye. (eye.number, eye.regions)) disk.eyes ≡ room.eyes → StandsTold (on room disk) before b first e history
      open_stands disk len eyes = on_stands room disk before b first e history len eyes (
          let live : HoldsLive room b.bytes (first ++ all_rows (upto history room.sealed)) = kept_live b.bytes (inl (read_behind (run.each b.bytes (now_since (clock_of a) b b.bytes run.later now)))) in
          record {
            stands = record {
              legal = old.stands.legal;
              counts = old.stands.counts;
              live = live;
              images = record {
                every_image = λ image since. wider room.region_len first history e room.sealed e (last_epoch e history) image (omega arith) (omega (arith, last)) (behind_since image since);
                now_sealed = λ image is.
                    wider room.region_len first history room.sealed room.sealed room.sealed (last_epoch e history) image (omega arith) (omega (arith, last))
                    (behind_shows image (run.each image (now_since (clock_of a) b image run.later is)));
              };
            };
            waiting = old.waiting;
            small = old.small;
            none_open = λ h image since. behind_since image since;
          }
          )

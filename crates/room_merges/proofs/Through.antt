-- A view is made, neighbours are merged through it, and it is taken back; what is retired is erased.
use Rattle.std.proofs.Common.{◌≡◌, ℕ, ◌+◌, ◌*◌, ◌/◌, ◌%◌, ◌<◌, ◌≤◌, ◌==◌, Bool, true, false, cond, List, [], ◌∷◌, ◌++◌, drop, length, set, Some, None, Ok, Err, refl, sym, ap, subst, ◌∙◌, inl, inr, arith, true≢false}
use Rattle.std.specs.Prelude.{if◌then◌else◌, nat_le, Contains, IsSome, filter, is_some, Option, Result, option_map, slice_get, slice_set}
use Rattle.std.specs.List.{list_all, position_or_len}
use Rattle.std.proofs.lemmas.List.Edits.{length-remove}
use Rattle.std.proofs.lemmas.List.{length-set}
use Rattle.std.proofs.lemmas.List.Elements.{All-contains, All-from_recursion, Contains-append_left}
use Rattle.std.proofs.lemmas.Option.{get_or_from_slice_get, slice_get_within}
use Rattle.fine_model.specs.declared.FetchFault.{FetchFault}
use Rattle.fine_model.specs.declared.Part.{Part}
use Rattle.fine_model.specs.declared.Row.{Row}
use Rattle.fine_model.specs.declared.law.RoomState.{RoomState}
use Rattle.fine_model.specs.Boards.{Buffer, buffer_at, empty_of, first_from, is_empty, names_region, naming_of, regions_by, set_of}
use Rattle.fine_model.specs.Merge.{FitsFree, cost, is_ordered, merged, regions_for}
use Rattle.fine_model.specs.Chain.{AreRowsOf, regions_of}
use Rattle.fine_model.specs.ChainLaws.{part_of}
use Rattle.fine_model.specs.Regions.{HasHeader, Image, body_bytes}
use Rattle.fine_model.specs.Jobs.{held_for}
use Rattle.fine_model.specs.Views.{SameSeen, TellsRowsOf}
use Rattle.log_disk.specs.Disk.{Told}
use Rattle.partition_merge.specs.declared.merger.Measure.{Measure}
use Rattle.partition_merge.specs.Mergers.{measure_of}
use Rattle.partition_hold.specs.SourceLaws.{same_itself}
use Rattle.partition_hold.specs.Views.{IsView, SameView, ViewValue, opened}
use Rattle.epoch_room.specs.Closing.{ReadsButGates}
use Rattle.epoch_room.specs.Erasing.{ErasesAllOr, FreesThese, erased_state, held, led_by, left_state, unheld}
use Rattle.epoch_room.specs.Meaning.{Keeps}
use Rattle.epoch_room.specs.MergeSealing.{merged_state, replaced, retire}
use Rattle.epoch_room.specs.MergeSteps.{header_over, if_enough, neighbours_from, regions_for_job, regions_needed}
use Rattle.epoch_room.specs.Returns.{IsPosted, TakesBack}
use Rattle.epoch_room.specs.Steps.{KeepsCounts, shut_state}
use Rattle.epoch_room.specs.Value.{RoomValue, all_regions, on}
use Rattle.epoch_room.specs.Views.{Views, ViewsOr}
use Rattle.epoch_room.specs.Whole.{IsWhole}
use Rattle.epoch_room.specs.declared.answers.RoomFault.{RoomFault}
use Rattle.epoch_room.specs.declared.answers.RoomFault.TheVariants as room_fault
use Rattle.epoch_room.proofs.OpenEpochs.Behind.{keeps_none}
use Rattle.epoch_room.proofs.RegionSets.Freeing.{held_now}
use Rattle.epoch_room.proofs.Joining.{keeps_then}
use Rattle.epoch_room.proofs.Merges.Retired.{lead_place, replaced_two}
use Rattle.epoch_room.proofs.Views.Boarding.{board_shows}
use Rattle.room_merges.specs.declared.fault.MergeFault.{MergeFault}
use Rattle.room_merges.specs.declared.fault.MergeFault.TheVariants as merge_fault
use Rattle.room_merges.specs.Live.{KeepsLive}
use Rattle.room_merges.specs.Merging.{EyeTells, IsOut, OfBytes, OfTold}
use Rattle.room_merges.specs.Near.{AllInVain, BlamedAny, BlamedFirst, BlamesTwo, Empties, InVain, IsReadRefused, IsShutNow, IsViewOf, IsWell, KeepsRest, LosesAny, LosesFirst, MergesAny, MergesThrough, MergesTwo, NoneBefore, NoneFitNow, OfNeighbours, StandIn, TellsJoined, TellsStill, TriesAll, Unfit, MayTry}
use Rattle.room_merges.specs.Pairs.{Merges, header_for, job_for}
use Rattle.room_merges.specs.Work.{FallsShut, Looks, StaysOpen}
use Rattle.room_merges.proofs.Chained.{shown_by_eye, told_before}
use Rattle.room_merges.proofs.Living.{erased_live, live_itself, live_same, seen_then}
use Rattle.room_merges.proofs.Nearing.{all_on, before_on, loses_on, of_at, of_each, read_back, regions_same, stand_in}
use Rattle.room_merges.proofs.Pairing.{some_none, some_same}
use Rattle.room_merges.proofs.Telling.{both_fit, erased_tells, held_image, measured_rows, merged_rows, part_in, seen_back, seen_by, seen_within, tells_itself, tells_same, told_by_disk}
use Rattle.room_merges.proofs.Working.{blames_back, posted_then, view_back}

-- ---- what stays

pub rest_itself : (value : RoomValue) → IsWhole value → value.room.job ≡ None → KeepsRest value value
rest_itself value whole none =
    record { job = none; board = refl; sealed = refl; places = refl; waiting = refl; open_rows = refl; used = refl; target = refl; entry = refl; keeps = keeps_none value whole }

pub rest_then : (a b c : RoomValue) → KeepsRest a b → KeepsRest b c → KeepsRest a c
rest_then a b c first second = record {
  job = second.job;
  board = second.board ∙ first.board;
  sealed = second.sealed ∙ first.sealed;
  places = second.places ∙ first.places;
  waiting = second.waiting ∙ first.waiting;
  open_rows = second.open_rows ∙ first.open_rows;
  used = second.used ∙ first.used;
  target = second.target ∙ first.target;
  entry = second.entry ∙ first.entry;
  keeps = keeps_then a b c first.keeps second.keeps;
}

-- a room with no job, and with what another one has beside its chain
abbrev with_rest : RoomState → RoomState → RoomState
with_rest room old = record room { job = None; board = old.board; sealed = old.sealed; places = old.places; waiting = old.waiting; open_rows = old.open_rows; used = old.used }

rest_as : (room : RoomState) (old new : RoomValue) → new.room ≡ room → room ≡ with_rest room old.room → new.target ≡ old.target → new.entry ≡ old.entry → Keeps old new → KeepsRest old new
rest_as room old new is rest target entry keeps = record {
  job = ap (λ (r : RoomState). r.job) (is ∙ rest);
  board = ap (λ (r : RoomState). r.board) (is ∙ rest);
  sealed = ap (λ (r : RoomState). r.sealed) (is ∙ rest);
  places = ap (λ (r : RoomState). r.places) (is ∙ rest);
  waiting = ap (λ (r : RoomState). r.waiting) (is ∙ rest);
  open_rows = ap (λ (r : RoomState). r.open_rows) (is ∙ rest);
  used = ap (λ (r : RoomState). r.used) (is ∙ rest);
  target = target;
  entry = entry;
  keeps = keeps;
}

rest_stays : (free : List ℕ) (old new : RoomValue) → StaysOpen None free old new → KeepsRest old new
rest_stays free old new stays = rest_as _ old new stays.room refl stays.target stays.entry stays.keeps

rest_falls : (free : List ℕ) (old new : RoomValue) → FallsShut None free old new → KeepsRest old new
rest_falls free old new falls = rest_as _ old new falls.room refl falls.target falls.entry falls.keeps

rest_merges : (from : ℕ) (old new : RoomValue) (view : ViewValue) → Merges from old new view → KeepsRest old new
unfolding merged_state
rest_merges from old new view m = rest_as _ old new m.room.1.room refl m.room.1.target m.room.1.entry m.keeps

-- ---- the two that were merged

-- one part in place of two is one less
replaced_less : (parts : List Part) (two : Part × Part) (p : Part) → StandIn parts two → length (replaced two.0.region p parts) + 1 ≡ length parts
replaced_less parts two p stand =
    let place : position_or_len (λ q. q.region == two.0.region) parts + 1 < length parts =
    subst (λ (ps : List Part). position_or_len (λ q. q.region == two.0.region) ps + 1 < length ps) (sym stand.neighbours) (lead_place stand.before two.0 two.1 stand.after) in
    let long = length-set parts (position_or_len (λ q. q.region == two.0.region) parts) p in
    let less = length-remove (set parts (position_or_len (λ q. q.region == two.0.region) parts) p) (position_or_len (λ q. q.region == two.0.region) parts + 1) (omega (arith, place, long)) in
    let is = ap length (replaced_two parts two.0.region p place) in
    omega (arith, long, less, is)

two_merged : (from : ℕ) (old new : RoomValue) (view : ViewValue) → Merges from old new view → MergesTwo old.room.parts new.room.parts
unfolding merged_state header_over
two_merged from old new view m =
    let stand = stand_in from old.room.parts m.two m.tried.first in
    let job = job_for m.two m.measure m.regions old.room.free in
    let p = part_of job.target (header_for m.two m.measure m.regions old.room.free) in
    let is : new.room.parts ≡ replaced m.two.0.region p old.room.parts = ap (λ (r : RoomState). r.parts) m.room.1.room in
    let less = replaced_less old.room.parts m.two p stand in
    let as_long = ap length is in
    record { two = m.two; stand = stand; part = p; range = refl; is = is; less = omega (arith, less, as_long) }

-- so of the same parts by other names
unfoldable pub two_from : (old old' new new' : List Part) → old ≡ old' → new' ≡ new → MergesTwo old new → MergesTwo old' new'
two_from old old' new new' was is merges = record {
  two = merges.two;
  stand = record { before = merges.stand.before; after = merges.stand.after; neighbours = sym was ∙ merges.stand.neighbours };
  part = merges.part;
  range = merges.range;
  is = is ∙ merges.is ∙ ap (replaced merges.two.0.region merges.part) was;
  less = (let less = merges.less in let m = ap length was in let n = ap length is in omega (arith, less, m, n));
}

-- rows for which regions were taken fit what is free
taken_fits : (room : RoomState) (a b : List Row) (measure : Measure) (regions : ℕ) → regions_for_job room measure ≡ Some regions → measure ≡ measure_of (merged a b) → FitsFree room.region_len (length room.free) a b
unfolding regions_for
taken_fits room a b measure regions taken is = by (is_ordered (merged a b)) refl (ap (regions_for_job room) (sym is) ∙ taken)
  where
    enough : (o : Option ℕ) → if_enough (length room.free) o ≡ Some regions → (o ≡ Some regions) × (regions ≤ length room.free)
    enough None e = absurd (some_none regions (sym e))
    enough (Some k) e = by_test (nat_le k (length room.free)) refl e
      where
        by_test : (t : Bool) → nat_le k (length room.free) ≡ t → cond t (Some k) None ≡ Some regions → (Some k ≡ Some regions) × (regions ≤ length room.free)
        by_test true h e = let same : k ≡ regions = some_same k regions e in (e, (let low : k ≤ length room.free = grind (arith, h) in omega (arith, low, same)))
        by_test false h e = absurd (some_none regions (sym e))

    by : (o : Bool) → is_ordered (merged a b) ≡ o → (if o then if_enough (length room.free) (regions_needed room.region_len (cost (merged a b))) else None) ≡ Some regions → FitsFree room.region_len (length room.free) a b
    by true o e = let is_enough = enough (regions_needed room.region_len (cost (merged a b))) e in record { ordered = o; regions = regions; needed = is_enough.0; enough = is_enough.1 }
    by false o e = absurd (some_none regions (sym e))

-- ---- an empty board

first_empty : (board : List Buffer) → list_all is_empty board ≡ true → 3 ≤ length board → (rest : List Buffer) × (board ≡ None ∷ rest) × (empty_of board 1 ≡ Some 0)
first_empty [] all long = absurd (omega (arith, long))
first_empty (Some eye ∷ rest) all long = absurd (true≢false (sym all))
first_empty (None ∷ rest) all long = (rest, refl, refl)

long_board : (value : RoomValue) → IsWhole value → 3 ≤ length value.room.board
long_board value whole = let n = whole.board.seats.0 in let low = whole.board.seats.1 in let long = whole.board.seats.3 in omega (arith, low, long)

pub seats_there : (value : RoomValue) → IsWhole value → 3 * 1 ≤ length value.room.board
seats_there value whole = let long = long_board value whole in omega (arith, long)

pub empty_there : (value : RoomValue) → IsWhole value → list_all is_empty value.room.board ≡ true → IsSome (empty_of value.room.board 1)
empty_there value whole all = subst (λ (o : Option ℕ). IsSome o) (sym (first_empty value.room.board all (long_board value whole)).2) refl

none_names : (region at : ℕ) (board : List Buffer) → list_all is_empty board ≡ true → first_from (names_region region) at board ≡ None
none_names region at [] all = refl
none_names region at (Some eye ∷ rest) all = absurd (true≢false (sym all))
none_names region at (None ∷ rest) all = none_names region (at + 1) rest all

none_held : (board : List Buffer) (parts : List Part) → list_all is_empty board ≡ true → filter (λ (p : Part). is_some (naming_of board p.region)) parts ≡ []
none_held board [] all = refl
none_held board (p ∷ parts) all =
    ap (λ (o : Option ℕ). cond (is_some {T = ℕ × ℕ} (option_map (λ (at : ℕ). (1 + at / 3, at % 3)) o)) (p ∷ filter (λ (q : Part). is_some (naming_of board q.region)) parts) (filter (λ (q : Part). is_some (naming_of board q.region)) parts)) (none_names p.region 0 board all)
    ∙ none_held board parts all

-- ---- erasing

erased_rest : (state : RoomState) (old new : RoomValue) → old.room.job ≡ None → state.job ≡ old.room.job → state.board ≡ old.room.board → state.sealed ≡ old.room.sealed → state.places ≡ old.room.places
    → state.waiting ≡ old.room.waiting → state.open_rows ≡ old.room.open_rows → state.used ≡ old.room.used → new.room ≡ on state new.disk → new.target ≡ old.target → new.entry ≡ old.entry → Keeps old new → KeepsRest old new
erased_rest state old new none job board sealed places waiting open_rows used is target entry keeps = record {
  job = ap (λ (r : RoomState). r.job) is ∙ job ∙ none;
  board = ap (λ (r : RoomState). r.board) is ∙ board;
  sealed = ap (λ (r : RoomState). r.sealed) is ∙ sealed;
  places = ap (λ (r : RoomState). r.places) is ∙ places;
  waiting = ap (λ (r : RoomState). r.waiting) is ∙ waiting;
  open_rows = ap (λ (r : RoomState). r.open_rows) is ∙ open_rows;
  used = ap (λ (r : RoomState). r.used) is ∙ used;
  target = target;
  entry = entry;
  keeps = keeps;
}

cons_none : {A : Type 0} (x : A) (xs : List A) → x ∷ xs ≡ [] → ⊥
cons_none x xs is = cc

-- what erasing leaves, where nothing failed
pub record ErasesWell (old new : RoomValue) : Type 0 where
  pub rest : KeepsRest old new
  pub parts : new.room.parts ≡ old.room.parts
  pub well : IsWell old new
  pub image : new.room.image ≡ option_map (λ (t : Told). t.bytes) new.disk.told

erases_none : (value : RoomValue) → IsWhole value → value.room.job ≡ None → value.room.is_shut ≡ false → ErasesWell value value
erases_none value whole none opened_room =
    record {
      rest = rest_itself value whole none;
      parts = refl;
      well = record { opened = opened_room; stays = opened_room; counts = record { faults = refl; own_faults = refl } };
      image = ap (λ (r : RoomState). r.image) whole.of_disk;
    }

erases_these : (leads : List ℕ) (old new : RoomValue) → IsWhole old → old.room.job ≡ None → old.room.is_shut ≡ false → Keeps old new → FreesThese leads old new → ErasesWell old new
erases_these [] old new whole none opened_room keeps frees = subst (ErasesWell old) (sym (frees.0 refl)) (erases_none old whole none opened_room)
erases_these (lead ∷ leads) old new whole none opened_room keeps frees =
    let does = (frees.1 (cons_none lead leads)).1 in
    let steps = does.1 in
    record {
      rest = erased_rest (erased_state old.room (lead ∷ leads)) old new none refl refl refl refl refl refl refl steps.room steps.target steps.entry keeps;
      parts = ap (λ (r : RoomState). r.parts) steps.room;
      well = record { opened = does.0; stays = ap (λ (r : RoomState). r.is_shut) steps.room ∙ opened_room; counts = does.2 };
      image = ap (λ (r : RoomState). r.image) steps.room;
    }

module _ (old new : RoomValue) (whole : IsWhole old) (none : old.room.job ≡ None) (all : list_all is_empty old.room.board ≡ true) (keeps : Keeps old new) (read : ReadsButGates (unheld old.room) old.disk new.disk) where
  told_still : new.room.image ≡ option_map (λ (t : Told). t.bytes) new.disk.told → TellsStill old new
  told_still image = erased_tells old whole new image keeps.becomes.region_len read

  live_still : new.room.image ≡ option_map (λ (t : Told). t.bytes) new.disk.told → KeepsLive old new
  live_still image = erased_live old whole new image read

  pub emptied : (erased : ℕ) (u : Unit {0}) → new.room.retired ≡ held old.room → ErasesAllOr old new (Ok erased) → Empties old new (Ok u)
  emptied erased u left erases =
      let is = erases_these (unheld old.room) old new whole none erases.0 keeps erases.2 in
      record { rest = is.rest; parts = is.parts; told = told_still is.image; live = live_still is.image; empties = (is.well, left ∙ none_held old.room.board old.room.retired all); all = (erased, erases) }

  pub not_emptied : (fault : RoomFault) → ErasesAllOr old new (Err fault) → Empties old new (Err (merge_fault.Room fault))
  not_emptied room_fault.Disk (begun, more, are, some, unsynced, shuts) =
      let steps = shuts.1 in
      record {
        rest = erased_rest (shut_state (left_state old.room begun) (all_regions (led_by begun old.room.retired))) old new none refl refl refl refl refl refl refl steps.room steps.target steps.entry keeps;
        parts = ap (λ (r : RoomState). r.parts) steps.room;
        told = told_still (ap (λ (r : RoomState). r.image) steps.room);
        live = live_still (ap (λ (r : RoomState). r.image) steps.room);
        empties = record { opened = shuts.0; shut = ap (λ (r : RoomState). r.is_shut) steps.room; fails = shuts.2 };
        all = (begun, more, are, some, unsynced, shuts);
      }
  not_emptied (room_fault.Shut epoch) was =
      record {
        rest = subst (KeepsRest old) (sym was.2) (rest_itself old whole none);
        parts = ap (λ (v : RoomValue). v.room.parts) was.2;
        told = subst (TellsStill old) (sym was.2) (tells_itself old);
        live = subst (KeepsLive old) (sym was.2) (live_itself old);
        empties = was;
        all = was;
      }
  not_emptied room_fault.NoMemory (opened_room, (begun, more, are, some, frees)) =
      let is = erases_these begun old new whole none opened_room keeps frees in
      record { rest = is.rest; parts = is.parts; told = told_still is.image; live = live_still is.image; empties = is.well; all = (opened_room, (begun, more, are, some, frees)) }

-- ---- no view

none_lost : set_of [] ≡ []
unfolding regions_by
none_lost = refl

module _ (old new : RoomValue) (whole : IsWhole old) (none : old.room.job ≡ None) (keeps : Keeps old new) (from : ℕ) where
  pub no_view : (fault : RoomFault) → ViewsOr old new 1 (Err fault) → MergesThrough from old new (Err (merge_fault.Room fault))
  no_view room_fault.Disk (shuts, told) =
      let steps = shuts.1 in
      record {
        rest = erased_rest (shut_state old.room []) old new none refl refl refl refl refl refl refl steps.room steps.target steps.entry keeps;
        told =
            tells_same old new
            (ap (λ (r : RoomState). r.image) steps.room ∙ ap (λ told. option_map (λ (t : Told). t.bytes) told) told ∙ sym (ap (λ (r : RoomState). r.image) whole.of_disk)) keeps.becomes.region_len;
        live =
            live_same old new
            (ap (λ (r : RoomState). r.image) steps.room ∙ ap (λ told. option_map (λ (t : Told). t.bytes) told) told ∙ sym (ap (λ (r : RoomState). r.image) whole.of_disk));
        answers = (
          record { opened = shuts.0; shut = ap (λ (r : RoomState). r.is_shut) steps.room; fails = shuts.2 },
          ap (λ (r : RoomState). r.parts) steps.room,
          (ap (λ (r : RoomState). r.retired) steps.room, inl (ap (λ (r : RoomState). r.lost) steps.room ∙ none_lost)),
        );
      }
  no_view (room_fault.Shut epoch) was = record { rest = subst (KeepsRest old) (sym was.2) (rest_itself old whole none); told = subst (TellsStill old) (sym was.2) (tells_itself old); live = subst (KeepsLive old) (sym was.2) (live_itself old); answers = was }
  no_view room_fault.NoMemory (opened_room, same) =
      let is : ErasesWell old new = subst (ErasesWell old) (sym same) (erases_none old whole none opened_room) in
      record { rest = is.rest; told = subst (TellsStill old) (sym same) (tells_itself old); live = subst (KeepsLive old) (sym same) (live_itself old); answers = (is.well, is.parts, (ap (λ (v : RoomValue). v.room.retired) same, ap (λ (v : RoomValue). v.room.free) same)) }

-- ---- a view

module _ (old mid : RoomValue) (view : ViewValue) (whole : IsWhole old) (all : list_all is_empty old.room.board ≡ true) (views : Views old mid 1 view) where
  abbrev rest_of : List Buffer
  rest_of = (first_empty old.room.board all (long_board old whole)).0

  was_board : old.room.board ≡ None ∷ rest_of
  was_board = (first_empty old.room.board all (long_board old whole)).1

  at_first : view.buffer ≡ 0
  at_first = some_same view.buffer 0 (sym views.buffer ∙ (first_empty old.room.board all (long_board old whole)).2)

  now_board : mid.room.board ≡ Some (opened view.eye) ∷ rest_of
  now_board =
      ap (λ (r : RoomState). r.board) views.posts.1.room
      ∙ (λ i. slice_set (was_board i) (buffer_at 1 (at_first i)) (Some (opened view.eye)))

  pub view_posted : IsPosted mid.room view
  view_posted = ap (λ b. slice_get b (buffer_at view.seat view.buffer)) now_board ∙ (λ i. slice_get (Some (opened view.eye) ∷ rest_of) (buffer_at (views.of_seat i) (at_first i)))

  pub view_len : view.region_len ≡ mid.room.region_len
  view_len = views.region_len ∙ ap (λ (r : RoomState). r.region_len) whole.of_disk ∙ sym views.posts.1.region_len ∙ sym (ap (λ (r : RoomState). r.region_len) views.posts.1.room)

  pub view_parts : view.parts ≡ mid.room.parts
  view_parts = views.parts ∙ sym (ap (λ (r : RoomState). r.parts) views.posts.1.room)

  pub view_open : mid.room.is_shut ≡ false
  view_open = ap (λ (r : RoomState). r.is_shut) views.posts.1.room ∙ views.posts.0

  pub view_tries : old.room.job ≡ None → MayTry mid view
  view_tries none = record { idle = record { no_job = ap (λ (r : RoomState). r.job) views.posts.1.room ∙ none; posted = view_posted; region_len = view_len }; opened = view_open; parts = view_parts }

-- ---- what a whole room tells of its live parts

contains_at : (parts : List Part) (at : ℕ) (p : Part) → slice_get parts at ≡ Some p → Contains parts p
contains_at parts at p is = (at, slice_get_within parts at p is, get_or_from_slice_get parts at p p is)

module _ (new : RoomValue) (whole : IsWhole new) (open_room : new.room.is_shut ≡ false) where
  live_header : (image : Image) → new.room.image ≡ Some image → (p : Part) → Contains new.room.parts p → HasHeader new.room.region_len image p.region p.header
  live_header image told p there =
      let holds = (held_now new whole (whole.lost open_room) image told).1 in
      let header : HasHeader new.disk.region_len image p.region p.header =
      All-contains (λ (q : Part). HasHeader new.disk.region_len image q.region q.header) (new.room.parts ++ new.room.retired) p (All-from_recursion _ (new.room.parts ++ new.room.retired) holds.headers)
      (Contains-append_left new.room.parts new.room.retired p there) in
      subst (λ n. HasHeader n image p.region p.header) (sym (ap (λ (r : RoomState). r.region_len) whole.of_disk)) header

  -- the rows of a live part are told with its header
  tells_live : (image : Image) → new.room.image ≡ Some image → (p : Part) (rows : List Row) → Contains new.room.parts p → AreRowsOf new.room.region_len image (p ∷ []) rows
      → TellsRowsOf new.room.image new.room.region_len (p ∷ []) rows
  tells_live image told p rows there are = record { image = image; is_told = told; headers = (live_header image told p there, tt); are_rows = are }

-- No neighbours fit, where all were tried in vain through a view that tells of each live part what a read of the disk does.
pub none_fits : (new mid : RoomValue) (view : ViewValue) → IsWhole new → new.room.is_shut ≡ false → new.room.parts ≡ mid.room.parts → new.room.free ≡ mid.room.free → new.room.region_len ≡ mid.room.region_len
    → ((p : Part) (rows : List Row) → Contains new.room.parts p → TellsRowsOf new.room.image new.room.region_len (p ∷ []) rows → EyeTells view p rows)
    → OfNeighbours (InVain mid view) mid.room.parts → NoneFitNow new
none_fits new mid view whole open_room same free len shown vain image told older newer near fits =
    let none : OfNeighbours (Unfit mid view) mid.room.parts = of_each (InVain mid view) (Unfit mid view) (λ p q in_vain. in_vain.unfit) mid.room.parts vain in
    let unfit : Unfit mid view near.a near.b =
    of_at (Unfit mid view) mid.room.parts near.at near.a near.b none (subst (λ (ps : List Part). slice_get ps near.at ≡ Some near.a) same near.is_a) (subst (λ (ps : List Part). slice_get ps (near.at + 1) ≡ Some near.b) same near.is_b) in
    let has_a = contains_at new.room.parts near.at near.a near.is_a in
    let has_b = contains_at new.room.parts (near.at + 1) near.b near.is_b in
    unfit older newer
    (shown near.a older has_a (tells_live new whole open_room image told near.a older has_a near.older_rows))
    (shown near.b newer has_b (tells_live new whole open_room image told near.b newer has_b near.newer_rows))
    (subst (λ n. FitsFree n (length mid.room.free) older newer) len (subst (λ (f : List ℕ). FitsFree new.room.region_len (length f) older newer) free fits))

-- ---- a view that was taken back

-- a view was made, something was done through it, and it was taken back
pub record Passes (old mid tried new : RoomValue) (view view' : ViewValue) : Type 0 where
  pub none : old.room.job ≡ None
  pub all : list_all is_empty old.room.board ≡ true
  pub whole : IsWhole old
  pub views : Views old mid 1 view
  pub first : Keeps old mid
  pub made : IsWhole mid
  pub made_view : IsView view
  pub same : SameView view view'
  pub middle : IsWhole tried
  pub is_view : IsView view'
  pub posted : IsPosted tried.room view'
  pub region_len : view'.region_len ≡ tried.room.region_len
  pub back : TakesBack tried new view'
  pub last : Keeps tried new
  pub ends : IsWhole new

module _ (old mid tried new : RoomValue) (view view' : ViewValue) (is : Passes old mid tried new view view') where
  fresh : view.eye.faults ≡ 0
  fresh = is.views.opens.fresh.0

  -- what is behind, when the board is as it was
  rest_all : KeepsRest mid tried → KeepsRest old new
  rest_all rest = record {
    job = ap (λ (r : RoomState). r.job) is.back.room.room ∙ rest.job;
    board =
        ap (λ (r : RoomState). r.board) is.back.room.room
        ∙ (λ i. slice_set ((rest.board ∙ now_board old mid view is.whole is.all is.views) i) (buffer_at ((is.same.place.0 ∙ is.views.of_seat) i) ((is.same.place.1 ∙ at_first old mid view is.whole is.all is.views) i)) None)
        ∙ sym (was_board old mid view is.whole is.all is.views);
    sealed = ap (λ (r : RoomState). r.sealed) is.back.room.room ∙ rest.sealed ∙ ap (λ (r : RoomState). r.sealed) is.views.posts.1.room;
    places = ap (λ (r : RoomState). r.places) is.back.room.room ∙ rest.places ∙ ap (λ (r : RoomState). r.places) is.views.posts.1.room;
    waiting = ap (λ (r : RoomState). r.waiting) is.back.room.room ∙ rest.waiting ∙ ap (λ (r : RoomState). r.waiting) is.views.posts.1.room;
    open_rows = ap (λ (r : RoomState). r.open_rows) is.back.room.room ∙ rest.open_rows ∙ ap (λ (r : RoomState). r.open_rows) is.views.posts.1.room;
    used = ap (λ (r : RoomState). r.used) is.back.room.room ∙ rest.used ∙ ap (λ (r : RoomState). r.used) is.views.posts.1.room;
    target = is.back.room.target ∙ rest.target ∙ is.views.posts.1.target;
    entry = is.back.room.entry ∙ rest.entry ∙ is.views.posts.1.entry;
    keeps = keeps_then old mid new is.first (keeps_then mid tried new rest.keeps is.last);
  }

  closed_same : view'.eye.faults ≡ 0 → new.disk.faults ≡ tried.disk.faults
  closed_same none = let f = is.back.closes.faults in let l = is.back.closes.no_lower in omega (arith, f, l, none)

  well_all : tried.room.is_shut ≡ false → KeepsCounts mid.disk tried.disk → view'.eye.faults ≡ view.eye.faults → IsWell old new
  well_all open_room counts steady = record {
    opened = is.views.posts.0;
    stays = ap (λ (r : RoomState). r.is_shut) is.back.room.room ∙ open_room;
    counts = record {
      faults = closed_same (steady ∙ fresh) ∙ counts.faults ∙ is.views.posts.2.faults;
      own_faults = is.back.closes.others.3 ∙ counts.own_faults ∙ is.views.posts.2.own_faults;
    };
  }

  parts_all : tried.room.parts ≡ mid.room.parts → new.room.parts ≡ old.room.parts
  parts_all same = ap (λ (r : RoomState). r.parts) is.back.room.room ∙ same ∙ ap (λ (r : RoomState). r.parts) is.views.posts.1.room

  retired_all : tried.room.retired ≡ mid.room.retired → new.room.retired ≡ old.room.retired
  retired_all same = ap (λ (r : RoomState). r.retired) is.back.room.room ∙ same ∙ ap (λ (r : RoomState). r.retired) is.views.posts.1.room

  free_all : tried.room.free ≡ mid.room.free → new.room.free ≡ old.room.free
  free_all same = ap (λ (r : RoomState). r.free) is.back.room.room ∙ same ∙ ap (λ (r : RoomState). r.free) is.views.posts.1.room

  same_image : new.room.image ≡ tried.room.image
  same_image =
      ap (λ (r : RoomState). r.image) is.back.room.room
      ∙ ap (λ told. option_map (λ (t : Told). t.bytes) told) is.back.closes.told
      ∙ sym (ap (λ (r : RoomState). r.image) is.middle.of_disk)

  before_image : mid.room.image ≡ old.room.image
  before_image =
      ap (λ (r : RoomState). r.image) is.views.posts.1.room
      ∙ ap (λ told. option_map (λ (t : Told). t.bytes) told) is.views.opens.told
      ∙ sym (ap (λ (r : RoomState). r.image) is.whole.of_disk)

  -- what a read of the disk tells of a live part, the view tells
  shown_all : tried.room.parts ≡ mid.room.parts → (p : Part) (rows : List Row) → Contains new.room.parts p → TellsRowsOf new.room.image new.room.region_len (p ∷ []) rows → EyeTells view' p rows
  shown_all parts p rows there tells =
      shown_by_eye tried view' p rows (record { whole = is.middle; is_view = is.is_view; posted = is.posted; region_len = is.region_len })
      (subst (λ ps. Contains ps p) (parts_all parts ∙ sym is.views.parts ∙ sym is.same.parts) there)
      (subst (λ image. TellsRowsOf image tried.room.region_len (p ∷ []) rows) same_image (subst (λ n. TellsRowsOf new.room.image n (p ∷ []) rows) is.last.becomes.region_len tells))

  -- the view is of the chain as it stood before, and as it stands behind, where nothing was merged
  of_chain_first : IsViewOf old view
  of_chain_first = record { is_view = is.made_view; parts = is.views.parts; region_len = is.views.region_len; sees = sees }
    where
      sees : (p : Part) → Contains old.room.parts p → SameSeen (regions_of p) old.room.image view.eye.told
      sees p there =
          subst (λ image. SameSeen (regions_of p) image view.eye.told) before_image
          (seen_by mid view p
          (record { whole = is.made; is_view = is.made_view; posted = view_posted old mid view is.whole is.all is.views; region_len = view_len old mid view is.whole is.all is.views })
          (subst (λ ps. Contains ps p) (sym is.views.parts) there))

  of_chain_last : tried.room.parts ≡ mid.room.parts → IsViewOf new view
  of_chain_last same = record {
    is_view = is.made_view;
    parts = is.views.parts ∙ sym (parts_all same);
    region_len = sym is.same.region_len ∙ is.region_len ∙ sym is.last.becomes.region_len;
    sees = sees;
  }
    where
      sees : (p : Part) → Contains new.room.parts p → SameSeen (regions_of p) new.room.image view.eye.told
      sees p there =
          subst (λ told. SameSeen (regions_of p) new.room.image told) is.same.eye.told
          (subst (λ image. SameSeen (regions_of p) image view'.eye.told) (sym same_image)
          (seen_by tried view' p (record { whole = is.middle; is_view = is.is_view; posted = is.posted; region_len = is.region_len })
          (subst (λ ps. Contains ps p) (parts_all same ∙ sym is.views.parts ∙ sym is.same.parts) there)))

  none_fit : new.room.is_shut ≡ false → StaysOpen None mid.room.free mid tried → OfNeighbours (InVain mid view) mid.room.parts → NoneFitNow new
  none_fit open_room stays vain =
      let parts : tried.room.parts ≡ mid.room.parts = ap (λ (r : RoomState). r.parts) stays.room in
      none_fits new mid view is.ends open_room (ap (λ (r : RoomState). r.parts) is.back.room.room ∙ parts)
      (ap (λ (r : RoomState). r.free) is.back.room.room ∙ ap (λ (r : RoomState). r.free) stays.room) (is.last.becomes.region_len ∙ stays.keeps.becomes.region_len)
      (λ p rows there tells. told_before view view' p rows is.same (shown_all parts p rows there tells)) vain

  refused_all : (fault : FetchFault) → StaysOpen None mid.room.free mid tried → Looks {A = Bool} view view' (Err (merge_fault.Fetch fault)) → BlamesTwo mid view' fault → IsReadRefused old new fault
  refused_all fault stays looks blames =
      let parts : tried.room.parts ≡ mid.room.parts = ap (λ (r : RoomState). r.parts) stays.room in
      let risen = is.back.closes.faults in
      let before : mid.disk.faults ≡ old.disk.faults = is.views.posts.2.faults in
      let between : tried.disk.faults ≡ mid.disk.faults = stays.counts.faults in
      let start = fresh in
      record {
        opened = is.views.posts.0;
        stays = ap (λ (r : RoomState). r.is_shut) is.back.room.room ∙ ap (λ (r : RoomState). r.is_shut) stays.room ∙ view_open old mid view is.whole is.all is.views;
        own_faults = is.back.closes.others.3 ∙ stays.counts.own_faults ∙ is.views.posts.2.own_faults;
        rises = λ failed. (let eye = looks.counts.rises (ap (λ f. Err (merge_fault.Fetch f)) failed) in omega (arith, eye, risen, before, between, start));
        no_lower = (let low = is.back.closes.no_lower in omega (arith, low, before, between));
        else_same = λ other. closed_same (looks.counts.else_same (λ failed. other cc) ∙ fresh) ∙ between ∙ before;
        view = view';
        shown = shown_all parts;
        blames = record { two = blames.two; stand = subst (λ ps. StandIn ps blames.two) (sym (ap (λ (r : RoomState). r.parts) is.back.room.room ∙ parts)) blames.stand; blames = blames.blames };
      }

  shut_all : FallsShut None tried.room.free mid tried → IsShutNow old new
  shut_all falls =
      let low = is.back.closes.no_lower in
      let own = is.back.closes.others.3 in
      let before = is.views.posts.2.faults in
      let own_before = is.views.posts.2.own_faults in
      let rose = falls.fails.faults in
      let own_rose = falls.fails.own_faults in
      let not_lower = falls.fails.no_lower.0 in
      let own_not_lower = falls.fails.no_lower.1 in
      record {
        opened = is.views.posts.0;
        shut = ap (λ (r : RoomState). r.is_shut) is.back.room.room ∙ ap (λ (r : RoomState). r.is_shut) falls.room;
        fails = record { faults = omega (arith, rose, before, low); own_faults = omega (arith, own_rose, own_before, own); no_lower = (omega (arith, not_lower, before, low), omega (arith, own_not_lower, own_before, own)) };
      }

  -- what the room before tells of parts and of what is free
  parts_first : mid.room.parts ≡ old.room.parts
  parts_first = ap (λ (r : RoomState). r.parts) is.views.posts.1.room

  free_first : mid.room.free ≡ old.room.free
  free_first = ap (λ (r : RoomState). r.free) is.views.posts.1.room

  same_before : (from at : ℕ) → NoneBefore from at mid view → NoneBefore from at old view
  same_before from at before = before_on old mid view view parts_first is.first.becomes.region_len free_first (same_itself view) from at before

  len_last : StaysOpen None mid.room.free mid tried → new.room.region_len ≡ mid.room.region_len
  len_last stays = is.last.becomes.region_len ∙ stays.keeps.becomes.region_len

  parts_last : StaysOpen None mid.room.free mid tried → new.room.parts ≡ mid.room.parts
  parts_last stays = ap (λ (r : RoomState). r.parts) is.back.room.room ∙ ap (λ (r : RoomState). r.parts) stays.room

  free_last : StaysOpen None mid.room.free mid tried → new.room.free ≡ mid.room.free
  free_last stays = ap (λ (r : RoomState). r.free) is.back.room.room ∙ ap (λ (r : RoomState). r.free) stays.room

  -- all neighbours were tried in vain
  all_in_vain : StaysOpen None mid.room.free mid tried → OfNeighbours (InVain mid view) mid.room.parts → AllInVain new
  all_in_vain stays none = record {
    view = view;
    of_chain = of_chain_last (ap (λ (r : RoomState). r.parts) stays.room);
    none = all_on new mid view view (sym (parts_last stays)) (sym (len_last stays)) (sym (free_last stays)) (same_itself view) none;
  }

  -- or one was refused
  blamed_first : (from : ℕ) (fault : FetchFault) → StaysOpen None mid.room.free mid tried → BlamedAny from mid view view' fault → BlamedFirst from new fault
  blamed_first from fault stays (at, before, blamed) = record {
    view = view;
    of_chain = of_chain_last (ap (λ (r : RoomState). r.parts) stays.room);
    blamed = (
      at,
      before_on new mid view view (sym (parts_last stays)) (sym (len_last stays)) (sym (free_last stays)) (same_itself view) from at before,
      record {
        two = blamed.two;
        first = subst (λ ps. neighbours_from at ps ≡ Some blamed.two) (sym (parts_last stays)) blamed.first;
        blames = blames_back view view' blamed.two.0 blamed.two.1 (merge_fault.Fetch fault) is.same blamed.blames;
      },
    );
  }

  -- or its part could not be written
  loses_first : (from : ℕ) → LosesAny from mid tried view → LosesFirst from old new
  loses_first from (at, before, loses) = record {
    view = view;
    of_chain = of_chain_first;
    loses = (
      at,
      same_before from at before,
      loses_on old mid view view parts_first is.first.becomes.region_len free_first (same_itself view) at new tried (ap (λ (r : RoomState). r.lost) is.back.room.room) loses,
    );
  }

  -- what a read of the disk told of a live part, the view told
  shown_first : (p : Part) (rows : List Row) → Contains old.room.parts p → TellsRowsOf old.room.image old.room.region_len (p ∷ []) rows → EyeTells view p rows
  shown_first p rows there tells =
      shown_by_eye mid view p rows (record { whole = is.made; is_view = is.made_view; posted = view_posted old mid view is.whole is.all is.views; region_len = view_len old mid view is.whole is.all is.views })
      (subst (λ ps. Contains ps p) (sym is.views.parts) there)
      (subst (λ image. TellsRowsOf image mid.room.region_len (p ∷ []) rows) (sym before_image) (subst (λ n. TellsRowsOf old.room.image n (p ∷ []) rows) (sym is.first.becomes.region_len) tells))

  -- so does a read of the disk once the view is taken back
  told_all : TellsStill old new
  told_all p rows there still tells =
      let seen = told_before view' view p rows (view_back view view' is.same) (shown_first p rows there tells) in
      let out : IsOut tried view' = record { whole = is.middle; is_view = is.is_view; posted = is.posted; region_len = is.region_len } in
      subst (λ image. TellsRowsOf image new.room.region_len (p ∷ []) rows) (sym same_image)
      (subst (λ n. TellsRowsOf tried.room.image n (p ∷ []) rows) (sym is.last.becomes.region_len)
      (told_by_disk tried view' p rows out (subst (λ ps. Contains ps p) (sym (is.same.parts ∙ is.views.parts)) there) seen))

  -- and gives of it the bytes that it gave
  live_all : KeepsLive old new
  live_all = record {
    told = from_view [] (seen_within (set_of view.eye.regions) [] mid.room.image view.eye.told tt shown_before) (seen_within (set_of view'.eye.regions) [] tried.room.image view'.eye.told tt shown_behind);
    each = λ p there still.
        from_view (regions_of p) (seen_by mid view p out_before (subst (λ ps. Contains ps p) (sym is.views.parts) there))
        (seen_by tried view' p out_behind (subst (λ ps. Contains ps p) (sym (is.same.parts ∙ is.views.parts)) there));
  }
    where
      out_before : IsOut mid view
      out_before = record { whole = is.made; is_view = is.made_view; posted = view_posted old mid view is.whole is.all is.views; region_len = view_len old mid view is.whole is.all is.views }

      out_behind : IsOut tried view'
      out_behind = record { whole = is.middle; is_view = is.is_view; posted = is.posted; region_len = is.region_len }

      shown_before : SameSeen (set_of view.eye.regions) mid.room.image view.eye.told
      shown_before = board_shows mid (buffer_at view.seat view.buffer) (opened view.eye) out_before.whole out_before.posted

      shown_behind : SameSeen (set_of view'.eye.regions) tried.room.image view'.eye.told
      shown_behind = board_shows tried (buffer_at view'.seat view'.buffer) (opened view'.eye) out_behind.whole out_behind.posted

      -- what the eye told all the time, a read told before and tells behind
      from_view : (regions : List ℕ) → SameSeen regions mid.room.image view.eye.told → SameSeen regions tried.room.image view'.eye.told → SameSeen regions old.room.image new.room.image
      from_view regions first last =
          subst (SameSeen regions old.room.image) (sym same_image)
          (subst (λ image. SameSeen regions image tried.room.image) before_image
          (seen_then regions mid.room.image view.eye.told tried.room.image first (seen_back regions tried.room.image view.eye.told (subst (SameSeen regions tried.room.image) is.same.eye.told last))))

  -- the new part holds the merged rows
  merged_told : (at : ℕ) (was : RoomValue) (seen : ViewValue) (m : Merges at was tried seen) → SameView view seen → new.room.is_shut ≡ false
      → Contains new.room.parts (part_of (job_for m.two m.measure m.regions was.room.free).target (header_for m.two m.measure m.regions was.room.free))
      → OfTold view m.two.0 m.two.1 (λ a b.
      TellsRowsOf new.room.image new.room.region_len (part_of (job_for m.two m.measure m.regions was.room.free).target (header_for m.two m.measure m.regions was.room.free) ∷ []) (merged a b))
  merged_told at was seen m same open_room there a b a_told b_told =
      let job = job_for m.two m.measure m.regions was.room.free in
      let p = part_of job.target (header_for m.two m.measure m.regions was.room.free) in
      let a_seen = told_before seen view m.two.0 a (view_back view seen same) a_told in
      let b_seen = told_before seen view m.two.1 b (view_back view seen same) b_told in
      let body = held_image new.room.image job (body_bytes (merged a b)) (ap (λ image. held_for image job) same_image ∙ m.body a b a_seen b_seen) in
      tells_live new is.ends open_room body.0 body.1 p (merged a b) there
      (merged_rows new.room.region_len body.0 m.two m.measure m.regions was.room.free a b
      (both_fit view.region_len a_told.image m.two.0 a a_told.are_rows) (both_fit view.region_len b_told.image m.two.1 b b_told.are_rows)
      (m.measured a b a_seen b_seen) m.ordered (live_header new is.ends open_room body.0 body.1 p there) body.2)

  -- of any two, the rows that were read and merged
  joined_told : (at : ℕ) (was : RoomValue) (seen : ViewValue) (m : Merges at was tried seen) → SameView view seen → new.room.is_shut ≡ false
      → Contains new.room.parts (part_of (job_for m.two m.measure m.regions was.room.free).target (header_for m.two m.measure m.regions was.room.free))
      → OfBytes view (λ image. TellsJoined new image m.two (part_of (job_for m.two m.measure m.regions was.room.free).target (header_for m.two m.measure m.regions was.room.free)))
  joined_told at was seen m same open_room there image told =
      let job = job_for m.two m.measure m.regions was.room.free in
      let p = part_of job.target (header_for m.two m.measure m.regions was.room.free) in
      let joined = m.joined image (same.eye.told ∙ told) in
      let b = joined.1 in
      let body = held_image new.room.image job (body_bytes b.rows) (ap (λ image. held_for image job) same_image ∙ joined.2 ∙ ap (λ bytes. Some bytes) b.body) in
      record {
        rows = b.rows;
        told = tells_live new is.ends open_room body.0 body.1 p b.rows there
            (measured_rows new.room.region_len body.0 m.two m.measure m.regions was.room.free b.rows b.fit b.measured m.ordered (live_header new is.ends open_room body.0 body.1 p there) body.2);
        each = b.each;
      }

  merged_all : (from : ℕ) (some : MergesAny from mid tried view) → Looks {A = Bool} view view' (Ok true) → MergesThrough from old new (Ok true)
  unfolding merged_state two_from two_merged
  merged_all from (at, before, some) looks =
      let m = some.merges in
      let rest = rest_then mid some.mid tried (rest_stays mid.room.free mid some.mid some.stays) (rest_merges at some.mid tried some.seen m) in
      let were : some.mid.room.parts ≡ old.room.parts = ap (λ (r : RoomState). r.parts) some.stays.room ∙ ap (λ (r : RoomState). r.parts) is.views.posts.1.room in
      let free : some.mid.room.free ≡ old.room.free = ap (λ (r : RoomState). r.free) some.stays.room ∙ ap (λ (r : RoomState). r.free) is.views.posts.1.room in
      let len : some.mid.room.region_len ≡ old.room.region_len = some.stays.keeps.becomes.region_len ∙ is.first.becomes.region_len in
      let well =
      well_all (ap (λ (r : RoomState). r.is_shut) m.room.1.room ∙ m.room.0)
      (record { faults = m.room.2.faults ∙ some.stays.counts.faults; own_faults = m.room.2.own_faults ∙ some.stays.counts.own_faults }) (looks.counts.else_same (λ failed. cc)) in
      let two = two_from some.mid.room.parts old.room.parts tried.room.parts new.room.parts were (ap (λ (r : RoomState). r.parts) is.back.room.room) (two_merged at some.mid tried some.seen m) in
      let retired : some.mid.room.retired ≡ old.room.retired = ap (λ (r : RoomState). r.retired) some.stays.room ∙ ap (λ (r : RoomState). r.retired) is.views.posts.1.room in
      let back = is.back.room.room in
      record {
        rest = rest_all rest;
        told = told_all;
        live = live_all;
        answers = (
          well,
          record {
            first = record {
              merged = two;
              view = view;
              shown = shown_first;
              at = at;
              first = subst (λ ps. neighbours_from at ps ≡ Some m.two) were m.tried.first;
              before = same_before from at before;
              fits = λ a b a_told b_told.
                  subst (λ n. FitsFree n (length old.room.free) a b) len
                  (subst (λ (f : List ℕ). FitsFree some.mid.room.region_len (length f) a b) free
                  (taken_fits some.mid.room a b m.measure m.regions m.taken (m.measured a b (told_on some.seen some.same m.two.0 a a_told) (told_on some.seen some.same m.two.1 b b_told))));
              holds = merged_told at some.mid some.seen m some.same well.stays (part_in old.room.parts new.room.parts two);
              tells = joined_told at some.mid some.seen m some.same well.stays (part_in old.room.parts new.room.parts two);
              of_chain = of_chain_first;
              measure = m.measure;
              read = read_back view some.seen m.two.0 m.two.1 m.measure some.same m.read;
              ordered = m.ordered;
              regions = m.regions;
              taken = sym (regions_same old.room some.mid.room m.measure len free) ∙ m.taken;
              placed = ap (λ f. part_of (job_for m.two m.measure m.regions f).target (header_for m.two m.measure m.regions f)) free;
              done = new;
              free = ap (λ (r : RoomState). r.free) back ∙ ap (λ (r : RoomState). r.free) m.room.1.room ∙ ap (drop m.regions) free;
              retired = ap (λ (r : RoomState). r.retired) back ∙ ap (λ (r : RoomState). r.retired) m.room.1.room ∙ ap (λ ps. retire m.two.1 (retire m.two.0 ps)) retired;
            };
            is_done = refl;
          },
        );
      }
    where
      told_on : (seen : ViewValue) → SameView view seen → (p : Part) (rows : List Row) → EyeTells view p rows → EyeTells seen p rows
      told_on seen same p rows tells = told_before seen view p rows (view_back view seen same) tells

  -- whatever was answered
  pub passed : (from : ℕ) (result : Result Bool MergeFault) → TriesAll from mid tried view view' result → MergesThrough from old new result
  passed from (Ok true) tries = merged_all from tries.room tries.looks
  passed from (Ok false) tries =
      let stays = tries.room.0 in
      let open_room : tried.room.is_shut ≡ false = ap (λ (r : RoomState). r.is_shut) stays.room ∙ view_open old mid view is.whole is.all is.views in
      let well = well_all open_room stays.counts (tries.looks.counts.else_same (λ failed. cc)) in
      record {
        rest = rest_all (rest_stays mid.room.free mid tried stays);
        told = told_all;
        live = live_all;
        answers = (well, parts_all (ap (λ (r : RoomState). r.parts) stays.room), retired_all (ap (λ (r : RoomState). r.retired) stays.room), none_fit well.stays stays tries.room.1, all_in_vain stays tries.room.1);
      }
  passed from (Err (merge_fault.Fetch fault)) tries =
      let stays = tries.room.0 in
      record {
        rest = rest_all (rest_stays mid.room.free mid tried stays);
        told = told_all;
        live = live_all;
        answers = (refused_all fault stays tries.looks tries.room.1, parts_all (ap (λ (r : RoomState). r.parts) stays.room), retired_all (ap (λ (r : RoomState). r.retired) stays.room), blamed_first from fault stays tries.room.2);
      }
  passed from (Err (merge_fault.Room room_fault.NoMemory)) tries =
      let stays = tries.room in
      let open_room : tried.room.is_shut ≡ false = ap (λ (r : RoomState). r.is_shut) stays.room ∙ view_open old mid view is.whole is.all is.views in
      record {
        rest = rest_all (rest_stays mid.room.free mid tried stays);
        told = told_all;
        live = live_all;
        answers = (
          well_all open_room stays.counts (tries.looks.counts.else_same (λ failed. cc)),
          parts_all (ap (λ (r : RoomState). r.parts) stays.room),
          (retired_all (ap (λ (r : RoomState). r.retired) stays.room), free_all (ap (λ (r : RoomState). r.free) stays.room)),
        );
      }
  passed from (Err (merge_fault.Room room_fault.Disk)) tries =
      let falls = tries.room.0 in
      record {
        rest = rest_all (rest_falls tried.room.free mid tried falls);
        told = told_all;
        live = live_all;
        answers = (
          shut_all falls,
          parts_all (ap (λ (r : RoomState). r.parts) falls.room),
          (retired_all (ap (λ (r : RoomState). r.retired) falls.room), inr (loses_first from tries.room.1)),
        );
      }
  passed from (Err (merge_fault.Room (room_fault.Shut epoch))) tries = absurd tries.room

-- what every answer leaves as it was
pub tries_rest : (from : ℕ) (mid tried : RoomValue) (view view' : ViewValue) (result : Result Bool MergeFault) → TriesAll from mid tried view view' result → KeepsRest mid tried
tries_rest from mid tried view view' (Ok true) tries =
    let some = tries.room.2 in
    rest_then mid some.mid tried (rest_stays mid.room.free mid some.mid some.stays) (rest_merges tries.room.0 some.mid tried some.seen some.merges)
tries_rest from mid tried view view' (Ok false) tries = rest_stays mid.room.free mid tried tries.room.0
tries_rest from mid tried view view' (Err (merge_fault.Fetch fault)) tries = rest_stays mid.room.free mid tried tries.room.0
tries_rest from mid tried view view' (Err (merge_fault.Room room_fault.NoMemory)) tries = rest_stays mid.room.free mid tried tries.room
tries_rest from mid tried view view' (Err (merge_fault.Room room_fault.Disk)) tries = rest_falls tried.room.free mid tried tries.room.0
tries_rest from mid tried view view' (Err (merge_fault.Room (room_fault.Shut epoch))) tries = absurd tries.room

-- the board of what is left, for taking it back
pub still_posted : (from : ℕ) (mid tried : RoomValue) (view view' : ViewValue) → IsPosted mid.room view → view.region_len ≡ mid.room.region_len → (result : Result Bool MergeFault) → TriesAll from mid tried view view' result
    → IsPosted tried.room view' × (view'.region_len ≡ tried.room.region_len)
still_posted from mid tried view view' posted region_len result tries =
    let rest = tries_rest from mid tried view view' result tries in
    let same = tries.looks.same in
    (posted_then mid.room tried.room view view' rest.board same posted, same.region_len ∙ region_len ∙ sym rest.keeps.becomes.region_len)

-- Gathering the youngest parts, and erasing what is retired then.
use Rattle.std.proofs.Common.{◌≡◌, ◌∙◌, ◌⊎◌, ℕ, true, false, List, [], inl, inr, Some, None, Ok, Err, refl, sym, ap, subst}
use Rattle.std.specs.Prelude.{Bool, OnOk, Result, take}
use Rattle.std.specs.List.{list_all}
use Rattle.fine_model.specs.declared.Part.{Part}
use Rattle.fine_model.specs.declared.RunFault.{RunFault}
use Rattle.fine_model.specs.declared.law.RoomState.{RoomState}
use Rattle.fine_model.specs.Boards.{Buffer, is_empty}
use Rattle.epoch_room.specs.Gathering.{GathersOr, gathered_state}
use Rattle.epoch_room.specs.Gathering.{GathersYoung as RoomGathers}
use Rattle.epoch_room.specs.Value.{RoomValue}
use Rattle.epoch_room.specs.Whole.{IsWhole}
use Rattle.epoch_room.specs.declared.answers.RoomFault.{RoomFault}
use Rattle.epoch_room.specs.declared.answers.RoomFault.TheVariants as room_fault
use Rattle.room_merges.specs.Near.{Empties}
use Rattle.room_merges.specs.declared.fault.MergeFault.{MergeFault}
use Rattle.room_merges.specs.declared.fault.MergeFault.TheVariants as merge_fault
use Rattle.room_shelf.specs.Shelves.{IsShelf, ShelfValue}
use Rattle.run_laws.specs.Needs.{Unsealed}
use Rattle.room_steps.specs.Made.{LivesOn, MadeOn}
use Rattle.room_steps.specs.Merging.{GathersFrom, GathersNamed, MergesNamed, of_merge, of_room}
use Rattle.room_steps.specs.Steps.{FaultOf, IsNamed, IsWell, Leaves, NamesSome, Tidies, TidyOr}
use Rattle.room_steps.proofs.BesideMade.{kept_made}
use Rattle.room_steps.proofs.Facts.{Rested, failed_on, fault_on, has_failed, leaves_on, leaves_staying, none_failed_on, unsealed_on, was_shut, well_counts, well_on}
use Rattle.room_steps.proofs.GatheredMade.{free_apart, gathered_lives}
use Rattle.room_steps.proofs.MadeOn.{made_none, made_same}
use Rattle.room_steps.proofs.Merges.{merges_stay}
use Rattle.room_steps.proofs.Stepping.{lives_same, still}

-- ---- gathering

-- parts were gathered or not, and nothing was erased yet
pub record IsGathered (old new : ShelfValue) : Type 0 where
  pub leaves : Leaves old new
  pub unsealed : Unsealed old.room.room new.room.room
  pub well : IsWell old new

-- what of a room is as it was
record SameRest (old new : RoomState) : Type 0 where
  job : new.job ≡ old.job
  board : new.board ≡ old.board
  sealed : new.sealed ≡ old.sealed
  places : new.places ≡ old.places
  waiting : new.waiting ≡ old.waiting
  used : new.used ≡ old.used
  open_rows : new.open_rows ≡ old.open_rows

gathered_rest : (room : RoomState) (before : List Part) (oldest : Part) (newer : List Part) (p : Part) → SameRest room (gathered_state room before oldest newer p)
unfolding gathered_state
gathered_rest room before oldest newer p = record { job = refl; board = refl; sealed = refl; places = refl; waiting = refl; used = refl; open_rows = refl }

gathered_shut : (room : RoomState) (before : List Part) (oldest : Part) (newer : List Part) (p : Part) → (gathered_state room before oldest newer p).is_shut ≡ room.is_shut
unfolding gathered_state
gathered_shut room before oldest newer p = refl

-- with what a disk gives, that stays
rest_on : (old state : RoomState) (new : RoomState) → SameRest old state → new.job ≡ state.job → new.board ≡ state.board → new.sealed ≡ state.sealed → new.places ≡ state.places → new.waiting ≡ state.waiting → new.used ≡ state.used → new.open_rows ≡ state.open_rows → SameRest old new
rest_on old state new r job board sealed places waiting used rows = record { job = job ∙ r.job; board = board ∙ r.board; sealed = sealed ∙ r.sealed; places = places ∙ r.places; waiting = waiting ∙ r.waiting; used = used ∙ r.used; open_rows = rows ∙ r.open_rows }

itself : (room : RoomState) → SameRest room room
itself room = record { job = refl; board = refl; sealed = refl; places = refl; waiting = refl; used = refl; open_rows = refl }

module _ (old mid new : ShelfValue) (r : Rested old mid) (none : new.view ≡ None) (whole : IsWhole new.room) (from : ℕ) where
  rest : (result : Result Bool RoomFault) → GathersOr from mid.room new.room result → SameRest mid.room.room new.room.room
  rest (Ok true) g =
      let same = gathered_rest mid.room.room g.before g.oldest g.newer _ in let e = g.room.1.room in
      rest_on mid.room.room _ new.room.room same (ap (λ (x : RoomState). x.job) e) (ap (λ (x : RoomState). x.board) e) (ap (λ (x : RoomState). x.sealed) e) (ap (λ (x : RoomState). x.places) e) (ap (λ (x : RoomState). x.waiting) e) (ap (λ (x : RoomState). x.used) e)
      (ap (λ (x : RoomState). x.open_rows) e)
  rest (Ok false) g =
      let e = ap (λ (v : RoomValue). v.room) g.1 in
      rest_on mid.room.room mid.room.room new.room.room (itself mid.room.room) (ap (λ (x : RoomState). x.job) e) (ap (λ (x : RoomState). x.board) e) (ap (λ (x : RoomState). x.sealed) e) (ap (λ (x : RoomState). x.places) e) (ap (λ (x : RoomState). x.waiting) e)
      (ap (λ (x : RoomState). x.used) e) (ap (λ (x : RoomState). x.open_rows) e)
  rest (Err room_fault.Disk) (inl g) =
      let e = g.0.1.room in
      rest_on mid.room.room mid.room.room new.room.room (itself mid.room.room) (ap (λ (x : RoomState). x.job) e) (ap (λ (x : RoomState). x.board) e) (ap (λ (x : RoomState). x.sealed) e) (ap (λ (x : RoomState). x.places) e) (ap (λ (x : RoomState). x.waiting) e)
      (ap (λ (x : RoomState). x.used) e) (ap (λ (x : RoomState). x.open_rows) e)
  rest (Err room_fault.Disk) (inr g) =
      let e = g.0.1.room in
      rest_on mid.room.room mid.room.room new.room.room (itself mid.room.room) (ap (λ (x : RoomState). x.job) e) (ap (λ (x : RoomState). x.board) e) (ap (λ (x : RoomState). x.sealed) e) (ap (λ (x : RoomState). x.places) e) (ap (λ (x : RoomState). x.waiting) e)
      (ap (λ (x : RoomState). x.used) e) (ap (λ (x : RoomState). x.open_rows) e)
  rest (Err (room_fault.Shut epoch)) g =
      let e = ap (λ (v : RoomValue). v.room) g.2 in
      rest_on mid.room.room mid.room.room new.room.room (itself mid.room.room) (ap (λ (x : RoomState). x.job) e) (ap (λ (x : RoomState). x.board) e) (ap (λ (x : RoomState). x.sealed) e) (ap (λ (x : RoomState). x.places) e) (ap (λ (x : RoomState). x.waiting) e)
      (ap (λ (x : RoomState). x.used) e) (ap (λ (x : RoomState). x.open_rows) e)
  rest (Err room_fault.NoMemory) g =
      let e = g.1.room in
      rest_on mid.room.room mid.room.room new.room.room (itself mid.room.room) (ap (λ (x : RoomState). x.job) e) (ap (λ (x : RoomState). x.board) e) (ap (λ (x : RoomState). x.sealed) e) (ap (λ (x : RoomState). x.places) e) (ap (λ (x : RoomState). x.waiting) e)
      (ap (λ (x : RoomState). x.used) e) (ap (λ (x : RoomState). x.open_rows) e)

  entry : (result : Result Bool RoomFault) → GathersOr from mid.room new.room result → new.room.entry ≡ mid.room.entry
  entry (Ok true) g = g.room.1.entry
  entry (Ok false) g = ap (λ (v : RoomValue). v.entry) g.1
  entry (Err room_fault.Disk) (inl g) = g.0.1.entry
  entry (Err room_fault.Disk) (inr g) = g.0.1.entry
  entry (Err (room_fault.Shut epoch)) g = ap (λ (v : RoomValue). v.entry) g.2
  entry (Err room_fault.NoMemory) g = g.1.entry

  -- what the live parts are made of
  makes : (result : Result Bool RoomFault) → RoomGathers from mid.room new.room result → MadeOn mid.room new.room
  makes (Ok true) g = made_none mid.room new.room (rest (Ok true) g.room).open_rows (gathered_lives mid.room new.room r.leaves.whole whole from g.room g.read)
  makes (Ok false) g = made_same mid.room new.room (ap (λ (v : RoomValue). v.room.open_rows) g.room.1) (ap (λ (v : RoomValue). v.room.image) g.room.1) (ap (λ (v : RoomValue). v.room.parts) g.room.1)
  makes (Err room_fault.Disk) g = by g.room
    where
      by : GathersOr from mid.room new.room (Err room_fault.Disk) → MadeOn mid.room new.room
      by (inl s) =
          kept_made mid.room new.room r.leaves.whole whole s.0.0 s.0.1.regions (take 1 mid.room.room.free) (free_apart mid.room r.leaves.whole) g.read (ap (λ (x : RoomState). x.open_rows) s.0.1.room) (ap (λ (x : RoomState). x.parts) s.0.1.room)
      by (inr s) =
          kept_made mid.room new.room r.leaves.whole whole s.0.0 s.0.1.regions (take 1 mid.room.room.free) (free_apart mid.room r.leaves.whole) g.read (ap (λ (x : RoomState). x.open_rows) s.0.1.room) (ap (λ (x : RoomState). x.parts) s.0.1.room)
  makes (Err (room_fault.Shut epoch)) g =
      made_same mid.room new.room (ap (λ (v : RoomValue). v.room.open_rows) g.room.2) (ap (λ (v : RoomValue). v.room.image) g.room.2) (ap (λ (v : RoomValue). v.room.parts) g.room.2)
  makes (Err room_fault.NoMemory) g =
      kept_made mid.room new.room r.leaves.whole whole g.room.0 g.room.1.regions (take 1 mid.room.room.free) (free_apart mid.room r.leaves.whole) g.read (ap (λ (x : RoomState). x.open_rows) g.room.1.room) (ap (λ (x : RoomState). x.parts) g.room.1.room)

  pub board_then : (result : Result Bool RoomFault) → RoomGathers from mid.room new.room result → list_all is_empty new.room.room.board ≡ true
  board_then result g = subst (λ (board : List Buffer). list_all is_empty board ≡ true) (sym (rest result g.room).board) r.board

  pub job_then : (result : Result Bool RoomFault) → RoomGathers from mid.room new.room result → new.room.room.job ≡ None
  job_then result g = (rest result g.room).job ∙ r.leaves.no_job

  leaves : (result : Result Bool RoomFault) → RoomGathers from mid.room new.room result → Leaves old new
  leaves result g =
      let s = rest result g.room in
      leaves_on old mid new r.leaves
      (leaves_staying mid new (record { entry = entry result g.room; job = s.job; sealed = s.sealed; places = s.places; waiting = s.waiting; stands = g.keeps.stands; becomes = g.keeps.becomes }) (makes result g) r.leaves.no_job
      (subst (λ v. IsShelf new.room.room v) (sym none) (board_then result g)) whole)

  unsealed : (result : Result Bool RoomFault) → RoomGathers from mid.room new.room result → Unsealed old.room.room new.room.room
  unsealed result g = let s = rest result g.room in unsealed_on old.room.room mid.room.room new.room.room r.unsealed (record { sealed = s.sealed; waiting = s.waiting; used = s.used })

  well : (b : Bool) → GathersOr from mid.room new.room (Ok b) → IsWell old new
  well true g =
      well_on old mid new r.none_failed (well_counts mid new r.none none g.room.2 g.room.0 (ap (λ (x : RoomState). x.is_shut) g.room.1.room ∙ gathered_shut mid.room.room g.before g.oldest g.newer _ ∙ g.room.0))
  well false g =
      well_on old mid new r.none_failed
      (well_counts mid new r.none none (record { faults = ap (λ (v : RoomValue). v.disk.faults) g.1; own_faults = ap (λ (v : RoomValue). v.disk.own_faults) g.1 }) g.0 (ap (λ (v : RoomValue). v.room.is_shut) g.1 ∙ g.0))

  pub gathered_ok : (b : Bool) → RoomGathers from mid.room new.room (Ok b) → IsGathered old new
  gathered_ok b g = record { leaves = leaves (Ok b) g; unsealed = unsealed (Ok b) g; well = well b g.room }

  faults : (fault : RoomFault) → GathersOr from mid.room new.room (Err fault) → (new.room ≡ mid.room → new ≡ mid) → FaultOf old new (of_room fault)
  faults room_fault.Disk (inl g) same = inr (failed_on old mid new r.none_failed (has_failed mid new r.none none g.0.2.faults g.0.2.no_lower.0 g.0.2.no_lower.1))
  faults room_fault.Disk (inr g) same = inr (failed_on old mid new r.none_failed (has_failed mid new r.none none g.0.2.faults g.0.2.no_lower.0 g.0.2.no_lower.1))
  faults (room_fault.Shut epoch) g same = inl (was_shut old mid new r g.0 (same g.2))
  faults room_fault.NoMemory g same = well_on old mid new r.none_failed (well_counts mid new r.none none g.2 g.0 (ap (λ (x : RoomState). x.is_shut) g.1.room ∙ g.0))

  pub gathered_err : (fault : RoomFault) (told : RunFault) (result : Result Bool RoomFault) → told ≡ of_room fault → result ≡ Err fault → RoomGathers from mid.room new.room result → (new.room ≡ mid.room → new ≡ mid) → GathersFrom old new (Err told)
  gathered_err fault told result is ended g same =
      let h = subst (RoomGathers from mid.room new.room) ended g in
      subst (λ (f : RunFault). GathersFrom old new (Err f)) (sym is) (record { leaves = leaves (Err fault) h; unsealed = unsealed (Err fault) h; gather = faults fault h.room same })

-- ---- erasing

module _ (old new : ShelfValue) (none_was : old.view ≡ None) (none : new.view ≡ None) (was : IsWhole old.room) (whole : IsWhole new.room) (no_job : old.room.room.job ≡ None) (board : list_all is_empty old.room.room.board ≡ true) where
  erased_lives : (result : Result (Unit {0}) MergeFault) → Empties old.room new.room result → LivesOn [] old.room new.room
  erased_lives (Ok u) e = still old.room new.room was whole e.empties.0.opened e.live e.parts
  erased_lives (Err (merge_fault.Fetch fault)) e = absurd e.empties
  erased_lives (Err (merge_fault.Room room_fault.NoMemory)) e = still old.room new.room was whole e.empties.opened e.live e.parts
  erased_lives (Err (merge_fault.Room room_fault.Disk)) e = still old.room new.room was whole e.empties.opened e.live e.parts
  erased_lives (Err (merge_fault.Room (room_fault.Shut epoch))) e = lives_same old.room new.room (ap (λ (v : RoomValue). v.room.image) e.empties.2) (ap (λ (v : RoomValue). v.room.parts) e.empties.2)

  erased_leaves : (result : Result (Unit {0}) MergeFault) → Empties old.room new.room result → Leaves old new
  erased_leaves result e =
      leaves_staying old new (merges_stay old.room new.room no_job e.rest) (made_none old.room new.room e.rest.open_rows (erased_lives result e)) no_job
      (subst (λ v. IsShelf new.room.room v) (sym none) (subst (λ (b : List Buffer). list_all is_empty b ≡ true) (sym e.rest.board) board)) whole

  erased_unsealed : (result : Result (Unit {0}) MergeFault) → Empties old.room new.room result → Unsealed old.room.room new.room.room
  erased_unsealed result e = record { sealed = e.rest.sealed; waiting = e.rest.waiting; used = e.rest.used }

  erased_fault : (fault : MergeFault) → Empties old.room new.room (Err fault) → (new.room ≡ old.room → new ≡ old) → FaultOf old new (of_merge fault)
  erased_fault (merge_fault.Fetch fault) e same = absurd e.empties
  erased_fault (merge_fault.Room room_fault.NoMemory) e same = well_counts old new none_was none e.empties.counts e.empties.opened e.empties.stays
  erased_fault (merge_fault.Room room_fault.Disk) e same = inr (has_failed old new none_was none e.empties.fails.faults e.empties.fails.no_lower.0 e.empties.fails.no_lower.1)
  erased_fault (merge_fault.Room (room_fault.Shut epoch)) e same = inl (record { shut = e.empties.0; same = same e.empties.2 })

  module _ (first : ShelfValue) (g : IsGathered first old) where
    pub then_erased : (u : Unit {0}) → Empties old.room new.room (Ok u) → GathersFrom first new (Ok tt)
    then_erased u e = record {
      leaves = leaves_on first old new g.leaves (erased_leaves (Ok u) e);
      unsealed = unsealed_on first.room.room old.room.room new.room.room g.unsealed (erased_unsealed (Ok u) e);
      gather = (well_on first old new g.well.none_failed (well_counts old new none_was none e.empties.0.counts e.empties.0.opened e.empties.0.stays), e.empties.1);
    }

    pub then_failed : (fault : MergeFault) (told : RunFault) (result : Result (Unit {0}) MergeFault) → told ≡ of_merge fault → result ≡ Err fault → Empties old.room new.room result → (new.room ≡ old.room → new ≡ old) → GathersFrom first new (Err told)
    then_failed fault told result is ended e same =
        let h = subst (Empties old.room new.room) ended e in
        subst (λ (f : RunFault). GathersFrom first new (Err f)) (sym is) (record {
          leaves = leaves_on first old new g.leaves (erased_leaves (Err fault) h);
          unsealed = unsealed_on first.room.room old.room.room new.room.room g.unsealed (erased_unsealed (Err fault) h);
          gather = fault_on first old new (of_merge fault) g.well (erased_fault fault h same);
        })

-- ---- and then merging

pub then_merged : (old mid new : ShelfValue) (result : Result (Unit {0}) RunFault) → GathersNamed old mid (Ok tt) → MergesNamed mid new result → Tidies old new result
then_merged old mid new result (inl same) m =
    subst (λ s. Tidies s new result) same.0
    (record { leaves = m.leaves; unsealed = m.unsealed; called = by m.called; tidy = m.tidy; erased = m.erased })
  where
    by : (new ≡ mid) ⊎ ((from : ℕ) × IsNamed mid.room.room (Some from)) → (new ≡ mid) ⊎ NamesSome mid.room.room
    by (inl e) = inl e
    by (inr n) = inr (n.0, inr n.1)
then_merged old mid new result (inr g) m = record {
  leaves = leaves_on old mid new g.1.leaves m.leaves;
  unsealed = unsealed_on old.room.room mid.room.room new.room.room g.1.unsealed m.unsealed;
  called = inr (g.0.0, inl g.0.1);
  tidy = by result m.tidy;
  erased = all result m.tidy m.erased;
}
  where
    by : (result : Result (Unit {0}) RunFault) → TidyOr mid new result → TidyOr old new result
    by (Ok u) t = (none_failed_on old mid new g.1.gather.0.none_failed t.0, t.1)
    by (Err fault) t = fault_on old mid new fault g.1.gather.0 t

    all : (result : Result (Unit {0}) RunFault) → TidyOr mid new result → OnOk result ((new ≡ mid) ⊎ (new.room.room.retired ≡ [])) → OnOk result ((new ≡ old) ⊎ (new.room.room.retired ≡ []))
    all (Ok u) t (inl same) = inr (ap (λ (s : ShelfValue). s.room.room.retired) same ∙ g.1.gather.1)
    all (Ok u) t (inr none) = inr none
    all (Err fault) t e = tt

pub not_gathered : (old new : ShelfValue) (fault : RunFault) → GathersNamed old new (Err fault) → Tidies old new (Err fault)
not_gathered old new fault (inl same) = absurd (let e = same.1 in cc)
not_gathered old new fault (inr g) = record { leaves = g.1.leaves; unsealed = g.1.unsealed; called = inr (g.0.0, inl g.0.1); tidy = g.1.gather; erased = tt }

-- Merging neighbours between transactions.
use Rattle.std.proofs.Common.{◌≡◌, ◌∙◌, ℕ, ◌≤◌, Bool, true, false, List, [], length, inl, inr, Option, Some, None, Ok, Err, refl, sym, ap, subst, arith}
use Rattle.std.specs.Prelude.{◌⊎◌, Result, nat_le}
use Rattle.std.specs.List.{list_all}
use Rattle.fine_model.specs.declared.Damage.TheVariants as damage
use Rattle.fine_model.specs.declared.FetchFault.{FetchFault}
use Rattle.fine_model.specs.declared.FetchFault.TheVariants as fetch_fault
use Rattle.fine_model.specs.declared.Part.{Part}
use Rattle.fine_model.specs.declared.RunFault.{RunFault}
use Rattle.fine_model.specs.declared.law.RoomState.{RoomState}
use Rattle.fine_model.specs.Boards.{Buffer, is_empty}
use Rattle.fine_model.specs.History.{Commit}
use Rattle.epoch_room.specs.Fitting.{counts_of, is_pressed}
use Rattle.epoch_room.specs.Value.{RoomValue}
use Rattle.epoch_room.specs.Whole.{IsWhole}
use Rattle.epoch_room.specs.declared.answers.Counts.{Counts}
use Rattle.epoch_room.specs.declared.answers.RoomFault.TheVariants as room_fault
use Rattle.merge_policy.specs.Choices.{Picks, aims_of, neighbours, question}
use Rattle.merge_policy.specs.declared.figures.Space.{Space}
use Rattle.room_merges.specs.declared.fault.MergeFault.{MergeFault}
use Rattle.room_merges.specs.declared.fault.MergeFault.TheVariants as merge_fault
use Rattle.room_merges.specs.Near.{BlamedFirst, IsReadRefused, KeepsRest, MergesNear}
use Rattle.room_merges.specs.Merging.{OfTold}
use Rattle.room_merges.proofs.Nearing.{has_newer, has_older}
use Rattle.room_merges.proofs.PartRows.{own_told}
use Rattle.room_shelf.specs.Shelves.{IsShelf, ShelfValue, TellsNone, shelf}
use Rattle.run_laws.specs.Going.{StaysOn}
use Rattle.run_laws.specs.Runs.{OfSound}
use Rattle.run_laws.specs.SoFar.{GoesOn}
use Rattle.run_laws.proofs.Readings.{unsound_law}
use Rattle.room_steps.specs.Laws.{MergesStay}
use Rattle.room_steps.specs.Merging.{FreeOr, Frees, IsMerging, IsTidying, MergesNamed, MergesOne, of_merge}
use Rattle.run_laws.specs.Needs.{Unsealed}
use Rattle.room_steps.specs.Steps.{FaultOf, IsNamed, IsWell, Leaves, NamesPlace, space_of}
use Rattle.room_steps.proofs.MadeOn.{made_none}
use Rattle.room_steps.proofs.Stepping.{near_lives}
use Rattle.room_steps.proofs.Facts.{Rested, failed_on, fault_on, has_failed, leaves_itself, leaves_on, leaves_staying, none_failed_itself, unsealed_itself, unsealed_on, was_shut, well_counts, well_on}

-- ---- what a read was refused for

-- the live parts tell no rows, where a read of two of them was refused that would not have been of told ones
pub tells_none : (before new : RoomValue) (fault : FetchFault) (refused : IsReadRefused before new fault) → OfTold refused.view refused.blames.two.0 refused.blames.two.1 (λ a b. ⊥) → TellsNone (shelf new None)
tells_none before new fault refused none rows tells =
    let two = refused.blames.two in
    let older = has_older new.room.parts two refused.blames.stand in
    let newer = has_newer new.room.parts two refused.blames.stand in
    let a = own_told new.room.image new.room.region_len new.room.parts two.0 rows tells older in
    let b = own_told new.room.image new.room.region_len new.room.parts two.1 rows tells newer in
    none a.0 b.0 (refused.shown two.0 a.0 older a.1) (refused.shown two.1 b.0 newer b.1)

unsound : (before new : RoomValue) (fault : FetchFault) (refused : IsReadRefused before new fault) → OfTold refused.view refused.blames.two.0 refused.blames.two.1 (λ a b. ⊥)
    → (entry : RoomValue) (history : List Commit) → GoesOn entry new history → OfSound entry (λ first e. ⊥)
unsound before new fault refused none entry history g = unsound_law entry new None history g refused.stays (tells_none before new fault refused none)

-- a place that a read names, of a row or of an index entry, on bytes that no told parts have
bad_place : (before new : RoomValue) (from region at : ℕ) (fault : FetchFault) → (fault ≡ fetch_fault.BadRow region at) ⊎ (fault ≡ fetch_fault.BadIndex region at) → (refused : IsReadRefused before new fault) → BlamedFirst from new fault
    → OfTold refused.view refused.blames.two.0 refused.blames.two.1 (λ a b. ⊥) → NamesPlace new (damage.Region region at)
bad_place before new from region at fault of_read refused blamed none = record {
  read = record { region = region; at = at; is = refl; fault = fault; of_read = of_read };
  before = before;
  refused = refused;
  from = from;
  blamed = blamed;
  unsound = unsound before new fault refused none;
}

-- ---- one merge

pub merges_stay : MergesStay
merges_stay old new none k = record {
  entry = k.entry;
  job = k.job ∙ sym none;
  sealed = k.sealed;
  places = k.places;
  waiting = k.waiting;
  stands = k.keeps.stands;
  becomes = k.keeps.becomes;
}

module _ (old mid new : ShelfValue) (r : Rested old mid) (none : new.view ≡ None) (whole : IsWhole new.room) where
  stays : KeepsRest mid.room new.room → StaysOn mid.room new.room
  stays k = merges_stay mid.room new.room r.leaves.no_job k

  merge_leaves : (from : ℕ) (result : Result Bool MergeFault) → MergesNear from mid.room new.room result → Leaves old new
  merge_leaves from result m =
      let k = m.rest in
      leaves_on old mid new r.leaves
      (leaves_staying mid new (stays k) (made_none mid.room new.room k.open_rows (near_lives mid.room new.room r.leaves.whole whole from result m)) r.leaves.no_job (subst (λ v. IsShelf new.room.room v) (sym none) (subst (λ (board : List Buffer). list_all is_empty board ≡ true) (sym k.board) r.board)) whole)

  merge_unsealed : KeepsRest mid.room new.room → Unsealed old.room.room new.room.room
  merge_unsealed k = unsealed_on old.room.room mid.room.room new.room.room r.unsealed (record { sealed = k.sealed; waiting = k.waiting; used = k.used })

  -- a read was refused, and no call failed
  refused_well : (fault : FetchFault) → IsReadRefused mid.room new.room fault → (fault ≡ fetch_fault.Failed → ⊥) → IsWell old new
  refused_well fault refused not_failed =
      well_on old mid new r.none_failed (well_counts mid new r.none none (record { faults = refused.else_same not_failed; own_faults = refused.own_faults }) refused.opened refused.stays)

  pub merged_one : (from : ℕ) (merged : Bool) → MergesNear from mid.room new.room (Ok merged) → MergesOne old new (Ok merged)
  merged_one from true m = record {
    leaves = merge_leaves from _ m;
    unsealed = merge_unsealed m.rest;
    merge = (
      well_on old mid new r.none_failed (well_counts mid new r.none none m.near.0.counts m.near.0.opened m.near.0.stays),
      m.near.1.less ∙ ap length r.parts,
      m.near.2,
    );
  }
  merged_one from false m = record {
    leaves = merge_leaves from _ m;
    unsealed = merge_unsealed m.rest;
    merge = (
      well_on old mid new r.none_failed (well_counts mid new r.none none m.near.0.counts m.near.0.opened m.near.0.stays),
      record { none_retired = m.near.2; none_fit = m.near.3 },
    );
  }

  merge_refused : (from : ℕ) (fault : MergeFault) → MergesNear from mid.room new.room (Err fault) → (new.room ≡ mid.room → new ≡ mid) → MergesOne old new (Err (of_merge fault))
  merge_refused from (merge_fault.Room room_fault.Disk) m same = record {
    leaves = merge_leaves from _ m;
    unsealed = merge_unsealed m.rest;
    merge = inr (failed_on old mid new r.none_failed (has_failed mid new r.none none m.near.0.fails.faults m.near.0.fails.no_lower.0 m.near.0.fails.no_lower.1));
  }
  merge_refused from (merge_fault.Room (room_fault.Shut epoch)) m same = record {
    leaves = merge_leaves from _ m;
    unsealed = merge_unsealed m.rest;
    merge = inl (was_shut old mid new r m.near.0 (same m.near.2));
  }
  merge_refused from (merge_fault.Room room_fault.NoMemory) m same = record {
    leaves = merge_leaves from _ m;
    unsealed = merge_unsealed m.rest;
    merge = well_on old mid new r.none_failed (well_counts mid new r.none none m.near.0.counts m.near.0.opened m.near.0.stays);
  }
  merge_refused from (merge_fault.Fetch fetch_fault.Failed) m same = record {
    leaves = merge_leaves from _ m;
    unsealed = merge_unsealed m.rest;
    merge = inr (failed_on old mid new r.none_failed (has_failed mid new r.none none (m.near.0.rises refl) m.near.0.no_lower (let e = m.near.0.own_faults in omega (arith, e))));
  }
  merge_refused from (merge_fault.Fetch (fetch_fault.BadRow region at)) m same = record {
    leaves = merge_leaves from _ m;
    unsealed = merge_unsealed m.rest;
    merge = (refused_well (fetch_fault.BadRow region at) m.near.0 (λ e. absurd (let x = e in cc)), bad_place mid.room new.room from region at (fetch_fault.BadRow region at) (inl refl) m.near.0 m.near.3 m.near.0.blames.blames.1);
  }
  merge_refused from (merge_fault.Fetch (fetch_fault.BadIndex region at)) m same = record {
    leaves = merge_leaves from _ m;
    unsealed = merge_unsealed m.rest;
    merge = (refused_well (fetch_fault.BadIndex region at) m.near.0 (λ e. absurd (let x = e in cc)), bad_place mid.room new.room from region at (fetch_fault.BadIndex region at) (inr refl) m.near.0 m.near.3 m.near.0.blames.blames.1);
  }
  merge_refused from (merge_fault.Fetch fetch_fault.NoMemory) m same = record {
    leaves = merge_leaves from _ m;
    unsealed = merge_unsealed m.rest;
    merge = refused_well fetch_fault.NoMemory m.near.0 (λ e. absurd (let x = e in cc));
  }

  -- so a merge that ended with a fault, by what is told of it
  pub merge_failed : (from : ℕ) (fault : MergeFault) (told : RunFault) (result : Result Bool MergeFault) → told ≡ of_merge fault → result ≡ Err fault → MergesNear from mid.room new.room result → (new.room ≡ mid.room → new ≡ mid)
      → MergesOne old new (Err told)
  merge_failed from fault told result is ended m same = subst (λ (f : RunFault). MergesOne old new (Err f)) (sym is) (merge_refused from fault (subst (MergesNear from mid.room new.room) ended m) same)

-- ---- the policy

pub counts_free : (room : RoomState) → (counts_of room).free ≡ length room.free
unfolding counts_of
counts_free room = refl

pub counts_sealed : (room : RoomState) → (counts_of room).sealed ≡ room.sealed
unfolding counts_of
counts_sealed room = refl

-- what the policy is asked of the regions
abbrev asked : ℕ → Counts → Bool → Space
asked region_len counts pressed = record { region_len = region_len; free = counts.free; is_pressed = pressed; spare = 2; sealed = counts.sealed }

pub space_by : (room : RoomState) (region_len : ℕ) (counts : Counts) (pressed : Bool) → region_len ≡ room.region_len → counts ≡ counts_of room → pressed ≡ is_pressed room → asked region_len counts pressed ≡ space_of room
space_by room region_len counts pressed len count press = λ i. record { region_len = len i; free = free i; is_pressed = press i; spare = 2; sealed = sealed i }
  where
    free : counts.free ≡ length room.free
    free = ap (λ (c : Counts). c.free) count ∙ counts_free room

    sealed : counts.sealed ≡ room.sealed
    sealed = ap (λ (c : Counts). c.sealed) count ∙ counts_sealed room

pub named_by : (room : RoomState) (parts : List Part) (space : Space) (answer : Option ℕ) → space ≡ space_of room → parts ≡ room.parts → Picks (question space []) (neighbours parts) (aims_of space parts) answer → IsNamed room answer
named_by room parts space answer is same h =
    subst (λ x. Picks (question x []) (neighbours room.parts) (aims_of x room.parts) answer) is (subst (λ ps. Picks (question space []) (neighbours ps) (aims_of space ps) answer) same h)

-- ---- merging on

pub merging_itself : (s : ShelfValue) → IsShelf s.room.room s.view → IsWhole s.room → s.room.room.job ≡ None → IsMerging s s
merging_itself s on_shelf whole none = record { leaves = leaves_itself s on_shelf whole none; unsealed = unsealed_itself s.room.room; so_far = inl refl }

module _ (a b c : ShelfValue) (p : IsMerging a b) where
  well_after : IsWell b c → IsWell a c
  well_after w = by p.so_far
    where
      by : (b ≡ a) ⊎ IsWell a b → IsWell a c
      by (inl same) = subst (λ s. IsWell s c) same w
      by (inr before) = well_on a b c before.none_failed w

  fault_after : (fault : RunFault) → FaultOf b c fault → FaultOf a c fault
  fault_after fault f = by p.so_far
    where
      by : (b ≡ a) ⊎ IsWell a b → FaultOf a c fault
      by (inl same) = subst (λ s. FaultOf s c fault) same f
      by (inr before) = fault_on a b c fault before f

  pub merging_on : MergesOne b c (Ok true) → IsMerging a c
  merging_on m = record {
    leaves = leaves_on a b c p.leaves m.leaves;
    unsealed = unsealed_on a.room.room b.room.room c.room.room p.unsealed m.unsealed;
    so_far = inr (well_after m.merge.0);
  }

-- ---- as the policy names the neighbours

pub tidying_itself : (s : ShelfValue) → IsShelf s.room.room s.view → IsWhole s.room → s.room.room.job ≡ None → IsTidying s s
tidying_itself s on_shelf whole none = record { merging = merging_itself s on_shelf whole none; erased = inl refl; called = inl refl }

module _ (a b : ShelfValue) (p : IsTidying a b) where
  named_before : (from : ℕ) → IsNamed b.room.room (Some from) → (from : ℕ) × IsNamed a.room.room (Some from)
  named_before from named = by p.called
    where
      by : (b ≡ a) ⊎ ((from : ℕ) × IsNamed a.room.room (Some from)) → (from : ℕ) × IsNamed a.room.room (Some from)
      by (inl same) = (from, subst (λ (s : ShelfValue). IsNamed s.room.room (Some from)) same named)
      by (inr before) = before

  pub tidying_on : (c : ShelfValue) (from : ℕ) → IsNamed b.room.room (Some from) → MergesOne b c (Ok true) → IsTidying a c
  tidying_on c from named m = record { merging = merging_on a b c p.merging m; erased = inr m.merge.2; called = inr (named_before from named) }

  -- it names some, and none fit
  pub none_fitted : (c : ShelfValue) (from : ℕ) → IsNamed b.room.room (Some from) → MergesOne b c (Ok false) → MergesNamed a c (Ok tt)
  none_fitted c from named m = record {
    leaves = leaves_on a b c p.merging.leaves m.leaves;
    unsealed = unsealed_on a.room.room b.room.room c.room.room p.merging.unsealed m.unsealed;
    called = inr (named_before from named);
    tidy = ((well_after a b c p.merging m.merge.0).none_failed, inr m.merge.1);
    erased = inr m.merge.1.none_retired;
  }

  pub tidy_failed : (c : ShelfValue) (from : ℕ) (fault : RunFault) → IsNamed b.room.room (Some from) → MergesOne b c (Err fault) → MergesNamed a c (Err fault)
  tidy_failed c from fault named m = record {
    leaves = leaves_on a b c p.merging.leaves m.leaves;
    unsealed = unsealed_on a.room.room b.room.room c.room.room p.merging.unsealed m.unsealed;
    called = inr (named_before from named);
    tidy = fault_after a b c p.merging fault m.merge;
    erased = tt;
  }

-- ---- until a region is free

module _ (a b : ShelfValue) (p : IsMerging a b) where
  well_so_far : a.room.room.is_shut ≡ false → IsWell a b
  well_so_far opened = by p.so_far
    where
      by : (b ≡ a) ⊎ IsWell a b → IsWell a b
      by (inl same) = subst (λ s. IsWell a s) (sym same) (record { none_failed = none_failed_itself a; opened = opened })
      by (inr w) = w

  pub freed : a.room.room.is_shut ≡ false → 2 ≤ length b.room.room.free → Frees a b (Ok true)
  freed opened free = record { leaves = p.leaves; unsealed = p.unsealed; free = (well_so_far opened, free) }

  pub none_freed : (c : ShelfValue) (t : Bool) → nat_le 2 (length c.room.room.free) ≡ t → MergesOne b c (Ok false) → Frees a c (Ok t)
  none_freed c t is m = record {
    leaves = leaves_on a b c p.leaves m.leaves;
    unsealed = unsealed_on a.room.room b.room.room c.room.room p.unsealed m.unsealed;
    free = by t is;
  }
    where
      by : (t : Bool) → nat_le 2 (length c.room.room.free) ≡ t → FreeOr a c (Ok t)
      by true e = (well_after a b c p m.merge.0, grind (arith, e))
      by false e = (well_after a b c p m.merge.0, grind (arith, e), m.merge.1)

  pub free_failed : (c : ShelfValue) (fault : RunFault) → MergesOne b c (Err fault) → Frees a c (Err fault)
  free_failed c fault m = record {
    leaves = leaves_on a b c p.leaves m.leaves;
    unsealed = unsealed_on a.room.room b.room.room c.room.room p.unsealed m.unsealed;
    free = fault_after a b c p fault m.merge;
  }

-- What was met for a lane.
use Rattle.std.proofs.Common.{◌≡◌, ◌⊎◌, inl, inr, ℕ, zero, suc, ◌+◌, ◌<◌, ◌≤◌, List, [], ◌∷◌, ◌++◌, length, refl, sym, ap, subst, ◌∙◌, ⊎_elim, arith}
use Rattle.std.specs.Prelude.{Contains}
use Rattle.fine_model.specs.declared.Damage.{Damage}
use Rattle.fine_model.specs.declared.RunFault.{RunFault}
use Rattle.fine_model.specs.declared.RunFault.TheVariants as run_fault
use Rattle.fine_model.specs.declared.law.RoomState.{RoomState}
use Rattle.fine_model.specs.Damages.{IsPlaceOrNode}
use Rattle.fine_places.specs.declared.model.Placed.{Placed}
use Rattle.fine_hall.specs.declared.law.Beginning.{Beginning}
use Rattle.fine_hall.specs.declared.turn.Turn.{Turn}
use Rattle.fine_hall.specs.Passes.{turns, troubles, last_room}
use Rattle.fine_hall.specs.Turns.{room_after}
use Rattle.hall_rooms.specs.Rooms.{RoomPass}
use Rattle.hall_rooms.specs.Turning.{NotBegan}
use Rattle.partition_hold.specs.Views.{state_of}
use Rattle.lane_laws.specs.Lanes.{GoesOn, HasMet, LaneValue, SawShut}
use Rattle.lane_laws.specs.Quiet.{OpenOf}
use Rattle.txn_tries.specs.Turns.{MeetsNothing}
use Rattle.lane_runs.specs.Lane.{with_fault}
use Rattle.lane_runs.specs.Steps.{IsClean}

pub open_on : (seat : ℕ) (before : RoomState) (a more : List (Placed Turn)) → OpenOf seat before a → OpenOf seat (room_after before a) more → OpenOf seat before (a ++ more)
open_on seat before [] more o then = then
open_on seat before (t ∷ a) more o then = (o.0, open_on seat t.item.room a more o.1 then)

-- a pass that met nothing is as clean as it was
pub clean_then : (x : Beginning) (p p' : RoomPass) (more : List (Placed Turn)) → p'.number ≡ p.number → turns p' ≡ turns p ++ more → MeetsNothing x p p' more → IsClean x p → IsClean x p'
clean_then x p p' more number is m c = record {
  troubles = m.meets ∙ c.troubles;
  opened = subst (λ n. OpenOf n x.room (turns p')) (sym number) (subst (OpenOf p.number x.room) (sym is) (open_on p.number x.room (turns p) more c.opened m.opened));
}

-- the only fault of a list
pub only_fault : (a b : RunFault) → Contains (a ∷ []) b → a ≡ b
only_fault a b (zero, lt, is) = is
only_fault a b (suc k, lt, is) = absurd (omega (arith, lt))

pub this_fault : (a : RunFault) → Contains (a ∷ []) a
this_fault a = (0, omega arith, refl)

pub none_of : (w : LaneValue) → GoesOn w → (f : RunFault) → Contains w.work.left f → ⊥
none_of w on f at = let lt = (subst (λ (l : List RunFault). Contains l f) on at).1 in omega (arith, lt)

-- no fault ended it
pub met_none : (x : Beginning) (p : RoomPass) (w : LaneValue) → GoesOn w → IsClean x p → HasMet x p w
met_none x p w on c = record {
  clean = inl c.troubles;
  opened = inl c.opened;
  failed = λ at. absurd (none_of w on run_fault.Disk at);
  unsound = λ what at. absurd (none_of w on (run_fault.Damaged what) at);
  one = let n = ap length on in omega (arith, n);
}

-- a failed disk ended it
pub met_disk : (x : Beginning) (p : RoomPass) (w : LaneValue) → (0 < troubles state_of x p) ⊎ SawShut p → HasMet x p (with_fault w run_fault.Disk)
met_disk x p w why = record {
  clean = inr (inl (this_fault run_fault.Disk));
  opened = inr (inl (this_fault run_fault.Disk));
  failed = λ at. why;
  unsound = λ what at. absurd (let e : run_fault.Disk ≡ run_fault.Damaged what = only_fault run_fault.Disk (run_fault.Damaged what) at in cc);
  one = omega arith;
}

-- want of memory ended it
pub met_memory : (x : Beginning) (p : RoomPass) (w : LaneValue) → HasMet x p (with_fault w run_fault.Memory)
met_memory x p w = record {
  clean = inr (inr (this_fault run_fault.Memory));
  opened = inr (inr (this_fault run_fault.Memory));
  failed = λ at. absurd (let e : run_fault.Memory ≡ run_fault.Disk = only_fault run_fault.Memory run_fault.Disk at in cc);
  unsound = λ what at. absurd (let e : run_fault.Memory ≡ run_fault.Damaged what = only_fault run_fault.Memory (run_fault.Damaged what) at in cc);
  one = omega arith;
}

pub same_damage : (a b : Damage) → run_fault.Damaged a ≡ run_fault.Damaged b → a ≡ b
same_damage a b e = cc

-- damage ended it
pub met_damage : (x : Beginning) (p : RoomPass) (w : LaneValue) (what : Damage) → IsClean x p → NotBegan x → IsPlaceOrNode what → HasMet x p (with_fault w (run_fault.Damaged what))
met_damage x p w what c not place = record {
  clean = inl c.troubles;
  opened = inl c.opened;
  failed = λ at. absurd (let e : run_fault.Damaged what ≡ run_fault.Disk = only_fault (run_fault.Damaged what) run_fault.Disk at in cc);
  unsound = λ other at. (not, subst IsPlaceOrNode (same_damage what other (only_fault (run_fault.Damaged what) (run_fault.Damaged other) at)) place);
  one = omega arith;
}

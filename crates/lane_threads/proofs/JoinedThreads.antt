-- What is left after the threads of lanes were joined.
use Rattle.std.proofs.Common.{◌≡◌, ℕ, zero, suc, ◌+◌, ◌<◌, List, [], ◌∷◌, ◌++◌, length, map, Some, refl, sym, ap, subst, ◌∙◌, arith, length-append}
use Rattle.std.specs.Prelude.{slice_get, slice_index_or}
use Rattle.std.proofs.lemmas.Option.{same_Some, slice_get_within}
use mathlib.Core.Option.{some, some-injective, some-ne-none}
use lib.ListN.{get_elem?}
use Rattle.fine_model.specs.declared.ScriptTxn.{ScriptTxn}
use Rattle.node_cache.specs.Cache.{Cache}
use Rattle.partition_hold.specs.Views.{ViewValue}
use Rattle.epoch_room.specs.Value.{RoomValue}
use Rattle.fine_places.specs.declared.model.Placed.{Placed}
use Rattle.fine_hall.specs.declared.turn.Turn.{Turn}
use Rattle.fine_hall.specs.Halls.{HallOf}
use Rattle.fine_hall.specs.Passes.{mine, turns}
use Rattle.fine_hall.specs.Turns.{commits}
use Rattle.hall_rooms.specs.Rooms.{IsIdle, RoomPass, beginning_of}
use Rattle.lane_laws.specs.Quiet.{OpenOf, QuietOf}
use Rattle.lane_runs.specs.Rest.{IsFirst}
use Rattle.lane_threads.specs.Beginning.{GetPasses, IsNewPass}
use Rattle.lane_threads.specs.Means.{AreNewParts}
use Rattle.lane_threads.specs.Resting.{AreJoined, IsCallers}
use Rattle.lane_threads.specs.Workers.{HasStopped, HasStoppedWith, HaveStopped}
use Rattle.lane_threads.specs.declared.worker.Part.{Part}
use Rattle.lane_threads.specs.declared.worker.Worker.{Worker}
use Rattle.lane_threads.proofs.AllPasses.{at_end_or}
use Rattle.lane_threads.proofs.Mapped.{mapped_long, unmapped}

-- an item of what a function makes of the items of a list
of_mapped : {A B : Type 0} (f : A → B) (l : List A) (k : ℕ) (b : B) → get_elem? (map f l) k ≡ some b → (a : A) × (get_elem? l k ≡ some a) × (f a ≡ b)
of_mapped f [] k b is = absurd (some-ne-none b (sym is))
of_mapped f (x ∷ l) zero b is = (x, refl, some-injective (f x) b is)
of_mapped f (x ∷ l) (suc k) b is = of_mapped f l k b is

-- the two ways to read an item
read_as : {A : Type 0} (l : List A) (k : ℕ) (a d : A) → get_elem? l k ≡ some a → (k < length l) × (slice_index_or l k d ≡ a) × (slice_get l k ≡ Some a)
read_as [] k a d is = absurd (some-ne-none a (sym is))
read_as (x ∷ l) zero a d is = (omega arith, some-injective x a is, ap Some (some-injective x a is))
read_as (x ∷ l) (suc k) a d is = let r = read_as l k a d is in let low = r.0 in (omega (arith, low), r.1, r.2)

pub at_or : {A : Type 0} (l : List A) (k : ℕ) (d : A) → k < length l → slice_get l k ≡ Some (slice_index_or l k d)
at_or [] k d low = absurd (omega (arith, low))
at_or (x ∷ l) zero d low = refl
at_or (x ∷ l) (suc k) d low = at_or l k d (omega (arith, low))

-- what stands before, and at, the last place
in_front : {A : Type 0} (l : List A) (a : A) (k : ℕ) (p : A) → k < length l → get_elem? (l ++ a ∷ []) k ≡ some p → get_elem? l k ≡ some p
in_front [] a k p low is = absurd (omega (arith, low))
in_front (x ∷ l) a zero p low is = is
in_front (x ∷ l) a (suc k) p low is = in_front l a k p (omega (arith, low)) is

at_last : {A : Type 0} (l : List A) (a : A) (k : ℕ) (p : A) → k ≡ length l → get_elem? (l ++ a ∷ []) k ≡ some p → a ≡ p
at_last [] a zero p long is = some-injective a p is
at_last [] a (suc k) p long is = absurd (omega (arith, long))
at_last (x ∷ l) a zero p long is = absurd (omega (arith, long))
at_last (x ∷ l) a (suc k) p long is = at_last l a k p (omega (arith, long)) is

-- a pass that saw nothing added nothing, and is quiet and open
module _ {Q : Type 0} (hall : HallOf RoomValue Cache ViewValue Q) (n : ℕ) (p : RoomPass) (new : IsNewPass hall n p) where
  none_mine : mine p ≡ []
  unfolding commits
  none_mine = ap commits new.mine_none

  pub is_quiet : QuietOf p.number (beginning_of hall).room (turns p)
  is_quiet = subst (λ (l : List (Placed Turn)). QuietOf p.number (beginning_of hall).room l) (sym new.seen_none) tt

  pub is_open : OpenOf p.number (beginning_of hall).room (turns p)
  is_open = subst (λ (l : List (Placed Turn)). OpenOf p.number (beginning_of hall).room l) (sym new.seen_none) tt

  pub is_callers : IsCallers (beginning_of hall) p
  is_callers = record { none_mine = none_mine; quiet = is_quiet; opened = is_open; clean = new.clean }

  pub is_first : n ≡ 1 → IsFirst hall p
  is_first one = record { idle = new.idle; number = new.numbered ∙ one; none_mine = none_mine; quiet = is_quiet }

same_lanes : {D E : Type 0} (old new : List (Worker D E)) (parts : List Part) → length new ≡ length old → length old ≡ length parts → ((i : ℕ) (w : Worker D E) → i < length old → (slice_index_or new i w).part.lane.lane ≡ (slice_index_or old i w).part.lane.lane)
    → ((i : ℕ) (w : Worker D E) → slice_get old i ≡ Some w → slice_get parts i ≡ Some w.part) → map (λ (p : Part). p.lane.lane) (map (λ (w : Worker D E). w.part) new) ≡ map (λ (p : Part). p.lane.lane) parts
same_lanes [] [] [] long many same given = refl
same_lanes [] [] (p ∷ parts) long many same given = absurd (omega (arith, many))
same_lanes [] (w ∷ new) parts long many same given = absurd (omega (arith, long))
same_lanes (v ∷ old) [] parts long many same given = absurd (omega (arith, long))
same_lanes (v ∷ old) (w ∷ new) [] long many same given = absurd (omega (arith, many))
same_lanes (v ∷ old) (w ∷ new) (p ∷ parts) long many same given =
    let first : w.part.lane.lane ≡ p.lane.lane = same 0 w (omega arith) ∙ ap (λ (q : Part). q.lane.lane) (sym (same_Some p v.part (given 0 v refl))) in
    let rest = same_lanes old new parts (omega (arith, long)) (omega (arith, many)) (λ i u lt. same (suc i) u (omega (arith, lt))) (λ i u at. given (suc i) u at) in
    λ i. first i ∷ rest i

module _ {Q D E : Type 0} (hall : HallOf RoomValue Cache ViewValue Q) (script : List ScriptTxn) (group : ℕ) (first last : RoomPass) (parts : List Part) (old new : List (Worker D E))
    (new_parts : AreNewParts script parts) (first_new : IsNewPass hall 1 first) (last_new : IsNewPass hall (length parts + 2) last) (gets : GetPasses hall parts old) (stopped : HaveStopped hall script group old new) where
  -- a worker that came to its end, and what it was before
  stopped_at : (i : ℕ) (w : Worker D E) → get_elem? new i ≡ some w → (v : Worker D E) × (slice_get old i ≡ Some v) × HasStopped hall script group v w
  stopped_at i w at =
      let r = read_as new i w w at in
      let low = r.0 in
      let many = stopped.count in
      let lt : i < length old = omega (arith, low, many) in
      (slice_index_or old i w, at_or old i w lt, subst (λ (u : Worker D E). HasStopped hall script group (slice_index_or old i w) u) r.1 (stopped.each i w lt))

  long : length new ≡ length parts
  long = stopped.count ∙ gets.count

  numbered : (i : ℕ) (p : RoomPass) → get_elem? (map (λ (w : Worker D E). w.pass) new ++ last ∷ []) i ≡ some p → p.number ≡ i + 2
  numbered = at_end_or (map (λ (w : Worker D E). w.pass) new) last (λ i p. p.number ≡ i + 2)
      (λ i p at.
      let w = of_mapped (λ (w : Worker D E). w.pass) new i p at in
      let s = stopped_at i w.0 w.1 in
      ap (λ (q : RoomPass). q.number) (sym w.2) ∙ (s.2.number ∙ (gets.each i s.0 s.1).numbered))
      (let n = last_new.numbered in let l = long in let m = mapped_long (λ (w : Worker D E). w.pass) new in omega (arith, n, l, m))

  idle : (i : ℕ) (p : RoomPass) → get_elem? (map (λ (w : Worker D E). w.pass) new ++ last ∷ []) i ≡ some p → IsIdle hall p
  idle = at_end_or (map (λ (w : Worker D E). w.pass) new) last (λ i p. IsIdle hall p)
      (λ i p at.
      let w = of_mapped (λ (w : Worker D E). w.pass) new i p at in
      subst (λ (q : RoomPass). IsIdle hall q) w.2 (stopped_at i w.0 w.1).2.stopped.ends.so_far.idle)
      last_new.idle

  pub are_joined : AreJoined hall script group first (map (λ (w : Worker D E). w.pass) new ++ last ∷ []) (map (λ (w : Worker D E). w.part) new)
  are_joined = record {
    seated = record {
      first_is = is_first hall 1 first first_new refl;
      others_are = record { idle = idle; numbers = numbered };
      count = length-append (map (λ (w : Worker D E). w.pass) new) (last ∷ []) ∙ ap (λ n. n + 1) (mapped_long (λ (w : Worker D E). w.pass) new ∙ sym (mapped_long (λ (w : Worker D E). w.part) new));
      lanes = same_lanes old new parts stopped.count gets.count (λ i w lt. (stopped.each i w lt).lane) gets.same ∙ new_parts.lanes;
      last = λ p at.
          let same = at_last (map (λ (w : Worker D E). w.pass) new) last (length (map (λ (w : Worker D E). w.part) new)) p (mapped_long (λ (w : Worker D E). w.part) new ∙ sym (mapped_long (λ (w : Worker D E). w.pass) new)) at in
          subst (λ (q : RoomPass). IsCallers (beginning_of hall) q) same (is_callers hall (length parts + 2) last last_new);
    };
    first_clean = first_new.clean;
    first_opened = is_open hall 1 first first_new;
    stopped = λ k p part at_p at.
        let w = unmapped (λ (w : Worker D E). w.part) new k part at in
        let low = slice_get_within new k w.0 w.1 in
        let m = mapped_long (λ (w : Worker D E). w.pass) new in
        let v = of_mapped (λ (w : Worker D E). w.pass) new k p (in_front (map (λ (w : Worker D E). w.pass) new) last k p (omega (arith, low, m)) at_p) in
        let same : v.0 ≡ w.0 = same_Some v.0 w.0 (sym (read_as new k v.0 v.0 v.1).2 ∙ w.1) in
        subst (λ (q : RoomPass). HasStoppedWith hall script group q part) v.2
        (subst (λ (y : Part). HasStoppedWith hall script group v.0.pass y) (ap (λ (u : Worker D E). u.part) same ∙ w.2) (stopped_at k v.0 v.1).2.stopped);
  }

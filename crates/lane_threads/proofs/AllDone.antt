-- All was done for the lanes, and their faults are told.
use Rattle.std.proofs.Common.{◌≡◌, cond, ◌⊎◌, inl, inr, ⊎_elim, ℕ, zero, suc, ◌+◌, ◌-◌, ◌<◌, ◌≤◌, List, [], ◌∷◌, ◌++◌, length, Option, Some, None, refl, sym, ap, subst, ◌∙◌, arith}
use Rattle.std.specs.Prelude.{Contains, count_by, option_to_list, slice_get, sum_by, take, unwrap_or}
use Rattle.std.proofs.lemmas.List.Sums.{fold-append, sum_by-append, sum_by-cons, sum_by-take-le}
use Rattle.std.proofs.lemmas.Option.{none-some, same_Some, slice_get_within}
use mathlib.Core.Option.{some}
use lib.ListN.{get_elem?}
use Rattle.fine_model.specs.declared.RunFault.{RunFault}
use Rattle.fine_model.specs.declared.RunFault.TheVariants as run_fault
use Rattle.fine_model.specs.declared.ScriptTxn.{ScriptTxn}
use Rattle.node_cache.specs.Cache.{Cache}
use Rattle.partition_hold.specs.Views.{ViewValue, state_of}
use Rattle.epoch_room.specs.Value.{RoomValue}
use Rattle.fine_hall.specs.Halls.{HallOf}
use Rattle.fine_hall.specs.Passes.{troubles, turns}
use Rattle.fine_places.proofs.Elements.{read_at}
use Rattle.hall_rooms.specs.Rooms.{RoomPass, beginning_of}
use Rattle.run_laws.specs.Lanes.{fault_of, is_disk}
use Rattle.lane_laws.specs.Joined.{SomeSawShut}
use Rattle.lane_laws.specs.Lanes.{LaneValue}
use Rattle.lane_laws.specs.Quiet.{OpenOf}
use Rattle.lane_laws.proofs.Faults.{failed_are}
use Rattle.lane_threads.specs.declared.worker.Part.{Part}
use Rattle.lane_threads.specs.Means.{lanes_of}
use Rattle.lane_threads.specs.Resting.{AreAllDone, AreLanes, EndedSoFar, RestedSoFar, SomeEnded, has_failed}
use Rattle.lane_threads.proofs.AllPasses.{at_end_or, before_last, last_there}
use Rattle.lane_threads.proofs.Mapped.{mapped, unmapped}
use Rattle.lane_threads.proofs.LanesOf.{lanes_apart, lanes_are}

-- ---- lists

contains_at : {A : Type 0} (l : List A) (k : ℕ) (a : A) → slice_get l k ≡ Some a → Contains l a
contains_at [] k a is = absurd (none-some a is)
contains_at (x ∷ l) zero a is = (0, omega arith, same_Some x a is)
contains_at (x ∷ l) (suc k) a is = let c = contains_at l k a is in let low = c.1 in (suc c.0, omega (arith, low), c.2)

at_contained : {A : Type 0} (l : List A) (a : A) → Contains l a → (k : ℕ) × (slice_get l k ≡ Some a)
at_contained [] a c = absurd (let low = c.1 in omega (arith, low))
at_contained (x ∷ l) a (zero, low, is) = (0, ap Some is)
at_contained (x ∷ l) a (suc k, low, is) = let r = at_contained l a (k, omega (arith, low), is) in (suc r.0, r.1)

-- before one more at the end
contained_before : {A : Type 0} (l more : List A) (a : A) → Contains l a → Contains (l ++ more) a
contained_before [] more a c = absurd (let low = c.1 in omega (arith, low))
contained_before (x ∷ l) more a (zero, low, is) = (0, omega arith, is)
contained_before (x ∷ l) more a (suc k, low, is) = let r = contained_before l more a (k, omega (arith, low), is) in let lt = r.1 in (suc r.0, omega (arith, lt), r.2)

-- what is a fault is not the last one, which is none
fault_before : (l : List (Option RunFault)) (f : RunFault) → Contains (l ++ None ∷ []) (Some f) → Contains l (Some f)
fault_before [] f (zero, low, is) = absurd (none-some f is)
fault_before [] f (suc k, low, is) = absurd (omega (arith, low))
fault_before (x ∷ l) f (zero, low, is) = (0, omega arith, is)
fault_before (x ∷ l) f (suc k, low, is) = let r = fault_before l f (k, omega (arith, low), is) in let lt = r.1 in (suc r.0, omega (arith, lt), r.2)

counted_with_none : (l : List (Option RunFault)) → count_by is_disk (l ++ None ∷ []) ≡ count_by is_disk l
counted_with_none l = fold-append (λ a x. a + cond (is_disk x) 1 0) 0 l (None ∷ []) ∙ nothing_more (count_by is_disk l)
  where
    nothing_more : (n : ℕ) → n + 0 ≡ n
    nothing_more n = omega arith

none_summed : (f : RoomPass → ℕ) (l : List RoomPass) → ((i : ℕ) (p : RoomPass) → get_elem? l i ≡ some p → f p ≡ 0) → sum_by f l ≡ 0
none_summed f [] each = refl
none_summed f (p ∷ l) each = let head = each 0 p refl in let rest = none_summed f l (λ i q at. each (suc i) q at) in let sum = sum_by-cons f p l in omega (arith, head, rest, sum)

-- ---- the faults of lanes

fault_at : (ended : List (Option RunFault)) (lane : ℕ) (f : RunFault) → fault_of ended lane ≡ Some f → Contains ended (Some f)
fault_at ended lane f is = contains_at ended (lane - 1) (Some f) (by (slice_get ended (lane - 1)) is)
  where
    by : (o : Option (Option RunFault)) → unwrap_or o None ≡ Some f → o ≡ Some (Some f)
    by None e = absurd (none-some f e)
    by (Some p) e = ap Some e

-- of a lane that one fault ended at most
only_fault : (o : Option RunFault) (f : RunFault) → Contains (option_to_list o) f → o ≡ Some f
only_fault None f (k, low, is) = absurd (omega (arith, low))
only_fault (Some g) f (zero, low, is) = ap Some is
only_fault (Some g) f (suc k, low, is) = absurd (omega (arith, low))

module _ {Q : Type 0} (hall : HallOf RoomValue Cache ViewValue Q) (script : List ScriptTxn) (group : ℕ) (first : RoomPass) (others : List RoomPass) (parts : List Part) (r : RestedSoFar hall script group (length parts) first others parts) where
  lane_at : (k : ℕ) (p : Part) → slice_get parts k ≡ Some p → slice_get (lanes_of script) k ≡ Some p.lane.lane
  lane_at k p at = ap (λ (l : List ℕ). slice_get l k) (sym r.lanes) ∙ mapped (λ (q : Part). q.lane.lane) parts k p at

  pub are_lanes : AreLanes parts
  are_lanes = record {
    within = λ k p at. (lanes_are script k p.lane.lane (lane_at k p at)).0;
    apart = λ j k p q at_j at_k same. lanes_apart script j k q.lane.lane (lane_at j p at_j ∙ ap Some same) (lane_at k q at_k);
    one = λ k p at. r.met.one k p (slice_get_within parts k p at) at;
  }

  module _ (ended : List (Option RunFault)) (e : EndedSoFar (length parts) parts ended) where
    abbrev passes : List RoomPass
    passes = others ++ first ∷ []

    told_of : (f : RunFault) → SomeEnded f (length parts) parts → Contains (ended ++ None ∷ []) (Some f)
    told_of f s =
        let is = only_fault (fault_of ended s.1.lane.lane) f (subst (λ (l : List RunFault). Contains l f) (e.are s.0 s.1 s.2 s.3) s.4) in
        contained_before ended (None ∷ []) (Some f) (fault_at ended s.1.lane.lane f is)

    who_ended : (f : RunFault) → Contains (ended ++ None ∷ []) (Some f) → SomeEnded f (length parts) parts
    who_ended f c =
        let at = at_contained ended (Some f) (fault_before ended f c) in
        let low = slice_get_within ended at.0 (Some f) at.1 in
        let long = e.count in
        let is : fault_of ended (at.0 + 1) ≡ Some f = ap (λ (o : Option (Option RunFault)). unwrap_or o None) (ap (slice_get ended) (omega arith) ∙ at.1) in
        let o = e.only (at.0 + 1) f (omega arith, omega (arith, low, long)) is in
        (o.0, o.1, o.2, o.3, subst (λ (l : List RunFault). Contains l f) (sym (e.are o.0 o.1 o.2 o.3 ∙ ap option_to_list (ap (fault_of ended) o.4 ∙ is))) (0, omega arith, refl))

    at_most : (count_by is_disk (ended ++ None ∷ []) ≤ sum_by (troubles state_of (beginning_of hall)) passes) ⊎ SomeSawShut passes
    at_most = ⊎_elim (λ few. inl (few_told few)) (λ shut. inr (⊎_elim (λ f. (length others, first, last_there others first, f)) (λ o. (o.0, o.1, before_last others first o.0 o.1 o.3, o.4)) shut)) r.met.at_most
      where
        t : RoomPass → ℕ
        t p = troubles state_of (beginning_of hall) p

        nothing_before : (n : ℕ) → 0 + n ≡ n
        nothing_before n = omega arith

        few_told : count_by has_failed (take (length parts) parts) ≤ t first + sum_by (troubles state_of (beginning_of hall)) (take (length parts) others) → count_by is_disk (ended ++ None ∷ []) ≤ sum_by (troubles state_of (beginning_of hall)) passes
        few_told few =
            let failed = e.failed in
            let are = failed_are ended e.count in
            let none = counted_with_none ended in
            let some = sum_by-take-le (troubles state_of (beginning_of hall)) others (length parts) in
            let all = sum_by-append (troubles state_of (beginning_of hall)) others (first ∷ []) in
            let one : sum_by (troubles state_of (beginning_of hall)) (first ∷ []) ≡ t first = nothing_before (t first) in
            omega (arith, few, failed, are, none, some, all, one)

    which : (i : ℕ) (p : RoomPass) → get_elem? others i ≡ some p → (i < length parts) ⊎ (i ≡ length parts)
    which i p at = let low = (read_at others i p p at).0 in let long = r.count in either i (length parts) (omega (arith, low, long))
      where
        either : (i n : ℕ) → i < n + 1 → (i < n) ⊎ (i ≡ n)
        either i n lt = grind (arith, lt)

    -- P of each pass, where it holds of those of the lanes and of the seat 1, and of the caller's
    of_all : (P : RoomPass → Type 0) → P first → ((k : ℕ) (p : RoomPass) → k < length parts → get_elem? others k ≡ some p → P p) → ((p : RoomPass) → get_elem? others (length parts) ≡ some p → P p) → (i : ℕ) (p : RoomPass) → get_elem? (others ++ first ∷ []) i ≡ some p → P p
    of_all P of_first each of_last = at_end_or others first (λ i p. P p) (λ i p at. ⊎_elim (λ low. each i p low at) (λ last. of_last p (subst (λ k. get_elem? others k ≡ some p) last at)) (which i p at)) of_first

    ended_by_either : SomeEnded run_fault.Disk (length parts) parts ⊎ SomeEnded run_fault.Memory (length parts) parts → Contains (ended ++ None ∷ []) (Some run_fault.Disk) ⊎ Contains (ended ++ None ∷ []) (Some run_fault.Memory)
    ended_by_either met = ⊎_elim (λ s. inl (told_of run_fault.Disk s)) (λ s. inr (told_of run_fault.Memory s)) met

    all_clean : (sum_by (troubles state_of (beginning_of hall)) (others ++ first ∷ []) ≡ 0) ⊎ Contains (ended ++ None ∷ []) (Some run_fault.Disk) ⊎ Contains (ended ++ None ∷ []) (Some run_fault.Memory)
    all_clean = ⊎_elim (λ c. inl (none_summed (troubles state_of (beginning_of hall)) (others ++ first ∷ []) (of_all (λ p. troubles state_of (beginning_of hall) p ≡ 0) c.0 c.1 (λ p at. (r.last p at).clean)))) (λ met. inr (ended_by_either met)) r.met.clean

    all_opened : ((i : ℕ) (p : RoomPass) → get_elem? (others ++ first ∷ []) i ≡ some p → OpenOf p.number (beginning_of hall).room (turns p)) ⊎ Contains (ended ++ None ∷ []) (Some run_fault.Disk) ⊎ Contains (ended ++ None ∷ []) (Some run_fault.Memory)
    all_opened = ⊎_elim (λ c. inl (of_all (λ p. OpenOf p.number (beginning_of hall).room (turns p)) c.0 c.1 (λ p at. (r.last p at).opened))) (λ met. inr (ended_by_either met)) r.met.opened

    pub all_done : AreAllDone hall script group first others parts ended
    all_done = record {
      seated = r.seated;
      done = λ k p part at_p at. r.done k p part (slice_get_within parts k part at) at_p at;
      are_ended = record {
        count = e.count;
        goes_on = λ k w at none.
            let p = unmapped (λ (q : Part). q.lane) parts k w at in
            sym (ap (λ (v : LaneValue). v.work.left) p.2) ∙ (e.are k p.0 (slice_get_within parts k p.0 p.1) p.1 ∙ ap option_to_list (ap (λ (v : LaneValue). fault_of ended v.lane) p.2 ∙ none));
      };
      joined = record {
        at_most = at_most;
        clean = all_clean;
        opened = all_opened;
        unsound = λ what c. r.met.unsound what (who_ended (run_fault.Damaged what) c);
      };
    }

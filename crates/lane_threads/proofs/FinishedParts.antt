-- All was done for one part more, with what the caller left of it.
use Rattle.std.proofs.Common.{◌≡◌, ◌≢◌, ◌⊎◌, inl, inr, ⊎_elim, ℕ, ◌+◌, ◌<◌, ◌≤◌, Bool, true, false, true≢false, List, [], ◌∷◌, length, map, Option, Some, None, refl, sym, ap, subst, ◌∙◌, arith, append-nil}
use Rattle.std.specs.Prelude.{Contains, count_by, get_or, is_some, option_to_list, slice_get, slice_set, sum_by, take}
use Rattle.std.proofs.lemmas.List.{length-set}
use Rattle.std.proofs.lemmas.List.Sums.{count_by_more_no, count_by_more_yes}
use Rattle.std.proofs.lemmas.Option.{get_or_from_slice_get, same_Some, slice_get_within}
use mathlib.Core.Option.{some}
use lib.ListN.{get_elem?}
use Rattle.fine_model.specs.declared.Damage.{Damage}
use Rattle.fine_model.specs.declared.RunFault.{RunFault}
use Rattle.fine_model.specs.declared.RunFault.TheVariants as run_fault
use Rattle.fine_model.specs.declared.ScriptTxn.{ScriptTxn}
use Rattle.fine_model.specs.Damages.{IsPlaceOrNode}
use Rattle.fine_places.proofs.Lists.{decide}
use Rattle.node_cache.specs.Cache.{Cache}
use Rattle.partition_hold.specs.Views.{ViewValue, state_of}
use Rattle.epoch_room.specs.Value.{RoomValue}
use Rattle.fine_hall.specs.Halls.{HallOf}
use Rattle.fine_hall.specs.Passes.{troubles, turns}
use Rattle.hall_rooms.specs.Making.{Renews}
use Rattle.hall_rooms.specs.Rooms.{RoomPass, beginning_of}
use Rattle.hall_rooms.specs.Turning.{NotBegan}
use Rattle.hall_rooms.proofs.Naming.{set_there}
use Rattle.lane_laws.specs.Joined.{LaneDone}
use Rattle.lane_laws.specs.Lanes.{EndedBy, GoesOn, LaneRuns, SawShut}
use Rattle.lane_laws.specs.Quiet.{OpenOf}
use Rattle.lane_runs.specs.Rest.{IsAside, MeetsRest, RunsRest}
use Rattle.lane_runs.proofs.Moved.{set_elsewhere}
use Rattle.lane_runs.proofs.Seeking.{shut_then}
use Rattle.lane_threads.specs.declared.worker.Part.{Part}
use Rattle.lane_threads.specs.Resting.{AreJoined, AreSeated, MetSoFar, RestedSoFar, SomeEnded, SomeShut, has_failed, is_failed}
use Rattle.lane_threads.specs.Workers.{HasStoppedWith}
use Rattle.lane_threads.proofs.RestedParts.{as_slice, callers_then, met_then, opened_then, renews_itself, runs_then, same_front, same_mapped, same_some, same_sum, shut_too, sum_next, there}

-- what a failed disk ended
failed_by : (l : List RunFault) → is_failed l ≡ true → Contains l run_fault.Disk
failed_by [] h = absurd (true≢false (sym h))
failed_by (run_fault.Disk ∷ []) h = (0, omega arith, refl)
failed_by (run_fault.Disk ∷ f ∷ l) h = absurd (true≢false (sym h))
failed_by (run_fault.Memory ∷ l) h = absurd (true≢false (sym h))
failed_by (run_fault.Damaged what ∷ l) h = absurd (true≢false (sym h))

-- a lane has a fault or goes on
pub goes_on_by : (o : Option RunFault) → is_some o ≡ false → option_to_list o ≡ []
goes_on_by None h = refl
goes_on_by (Some f) h = absurd (true≢false h)

pub ended_by : (o : Option RunFault) → is_some o ≡ true → option_to_list o ≡ [] → ⊥
ended_by None h none = true≢false (sym h)
ended_by (Some f) h none = let long = ap length none in omega (arith, long)

module _ {Q : Type 0} (hall : HallOf RoomValue Cache ViewValue Q) (script : List ScriptTxn) (group at : ℕ) (some_group : 1 ≤ group) (first : RoomPass) (others : List RoomPass) (parts : List Part) (r : RestedSoFar hall script group at first others parts)
    (part : Part) (here : slice_get parts at ≡ Some part) where
  low : at < length parts
  low = slice_get_within parts at part here

  pub own : (p : RoomPass) × (get_elem? others at ≡ some p)
  own = there others at (let l = low in let n = r.count in omega (arith, l, n))

  pub stopped_here : HasStoppedWith hall script group own.0 part
  stopped_here = r.stopped at own.0 part (omega arith) own.1 here

  -- what its worker left is what the caller leaves of it, where nothing is left to do
  runs_here : LaneRuns (beginning_of hall) (turns first) script group own.0 part.lane
  runs_here =
      let s = stopped_here.ends.so_far in
      runs_then (beginning_of hall) own.0 own.0 (renews_itself (beginning_of hall) own.0) hall refl s.idle s.idle script group some_group [] (turns first) part.lane s.runs

  meets_here : MeetsRest (beginning_of hall) first first own.0 part.lane
  meets_here =
      let m = stopped_here.ends.so_far.met in
      record {
        no_lower = inl (omega arith);
        clean = ⊎_elim (λ c. inl (refl, c)) (λ e. inr e) m.clean;
        opened = ⊎_elim (λ c. inl ((λ o. o), c)) (λ e. inr e) m.opened;
        failed = λ e. ⊎_elim (λ t. inr (inl t)) (λ s. inr (inr (inr s))) (m.failed e);
        unsound = m.unsound;
        one = m.one;
      }

  pub nothing_left : (GoesOn part.lane → length part.lane.work.done ≡ length part.lane.work.at) → RunsRest hall script group at first first others others part.lane
  nothing_left finished = record {
    first_is = r.first_is;
    others_are = (r.others_are, refl);
    saw = ([], sym (append-nil (turns first)));
    renews = λ i p other at_p. (p, at_p, renews_itself (beginning_of hall) p);
    own = own.0;
    own_is = own.1;
    done = record { runs = runs_here; finished = finished };
    meets = meets_here;
  }

  -- it is set aside, and no fault ended it
  pub is_left : GoesOn part.lane → (p : RoomPass) × (get_elem? others at ≡ some p) × IsAside (beginning_of hall) first script group p part.lane
  is_left goes_on =
      let m = stopped_here.ends.so_far.met in (
        own.0,
        own.1,
        record {
          goes_on = goes_on;
          none_full = stopped_here.none_full;
          runs = runs_here;
          clean = ⊎_elim (λ c. c) (λ e. absurd (not_ended e)) m.clean;
          opened = ⊎_elim (λ c. c) (λ e. absurd (not_ended e)) m.opened;
        },
      )
    where
      none : (f : RunFault) → EndedBy f part.lane → ⊥
      none f c = let low' = c.1 in let long = ap length goes_on in omega (arith, low', long)

      not_ended : EndedBy run_fault.Disk part.lane ⊎ EndedBy run_fault.Memory part.lane → ⊥
      not_ended (inl e) = none run_fault.Disk e
      not_ended (inr e) = none run_fault.Memory e

  module _ (part' : Part) (first' : RoomPass) (others' : List RoomPass) (same_lane : part'.lane.lane ≡ part.lane.lane) (rest : RunsRest hall script group at first first' others others' part'.lane) where
    here' : slice_get (slice_set parts at part') at ≡ Some part'
    here' = set_there parts at part part' here

    beside : (k : ℕ) → k ≢ at → slice_get (slice_set parts at part') k ≡ slice_get parts k
    beside k other = set_elsewhere parts at k part' other

    long : length (slice_set parts at part') ≡ length parts
    long = length-set parts at part'

    -- a pass as it was, with the other one
    before : (k : ℕ) (p' : RoomPass) → k ≢ at → get_elem? others' k ≡ some p' → (p : RoomPass) × (get_elem? others k ≡ some p) × Renews (beginning_of hall) p p'
    before k p' other at_p' =
        let n = rest.others_are.1 in
        let lt = slice_get_within others' k p' (as_slice others' k p' at_p') in
        let p = there others k (omega (arith, lt, n)) in
        let q = rest.renews k p.0 other p.1 in
        (p.0, p.1, subst (λ (u : RoomPass). Renews (beginning_of hall) p.0 u) (same_some others' k q.0 p' q.1 at_p') q.2)

    lanes_same : map (λ (p : Part). p.lane.lane) (slice_set parts at part') ≡ map (λ (p : Part). p.lane.lane) parts
    lanes_same = same_mapped (λ (p : Part). p.lane.lane) parts (slice_set parts at part') long
        (λ k a b at_a at_b. ⊎_elim
        (λ (same : k ≡ at).
        let is_a : a ≡ part = same_Some a part (sym at_a ∙ (ap (slice_get parts) same ∙ here)) in
        let is_b : b ≡ part' = same_Some b part' (sym at_b ∙ (ap (slice_get (slice_set parts at part')) same ∙ here')) in
        ap (λ (p : Part). p.lane.lane) is_b ∙ (same_lane ∙ sym (ap (λ (p : Part). p.lane.lane) is_a)))
        (λ (other : k ≢ at). ap (λ (p : Part). p.lane.lane) (same_Some b a (sym at_b ∙ (beside k other ∙ at_a))))
        (decide k at))

    seated_then : AreSeated hall script first' others' (slice_set parts at part')
    seated_then = record {
      first_is = rest.first_is;
      others_are = rest.others_are.0;
      count = rest.others_are.1 ∙ (r.count ∙ ap (λ n. n + 1) (sym long));
      lanes = lanes_same ∙ r.lanes;
      last = λ p' at_p'.
          let l = long in
          let lt = low in
          let b = before (length (slice_set parts at part')) p' (λ e. omega (arith, e, l, lt)) at_p' in
          callers_then (beginning_of hall) b.0 p' b.2 (r.last b.0 (subst (λ n. get_elem? others n ≡ some b.0) long b.1));
    }

    done_then : (k : ℕ) (p' : RoomPass) (q : Part) → k < at + 1 → get_elem? others' k ≡ some p' → slice_get (slice_set parts at part') k ≡ Some q → LaneDone (beginning_of hall) (turns first') script group p' q.lane
    done_then k p' q lt at_p' at_q = by (decide k at)
      where
        by : (k ≡ at) ⊎ (k ≢ at) → LaneDone (beginning_of hall) (turns first') script group p' q.lane
        by (inl same) =
            let is_q : part' ≡ q = same_Some part' q (sym here' ∙ (ap (slice_get (slice_set parts at part')) (sym same) ∙ at_q)) in
            let is_p : rest.own ≡ p' = same_some others' at rest.own p' rest.own_is (subst (λ n. get_elem? others' n ≡ some p') same at_p') in
            subst (λ (u : RoomPass). LaneDone (beginning_of hall) (turns first') script group u q.lane) is_p (subst (λ (u : Part). LaneDone (beginning_of hall) (turns first') script group rest.own u.lane) is_q rest.done)
        by (inr other) =
            let b = before k p' other at_p' in
            let d = r.done k b.0 q (grind (arith, lt, other)) b.1 (sym (beside k other) ∙ at_q) in
            record {
              runs = subst (λ l. LaneRuns (beginning_of hall) l script group p' q.lane) (sym rest.saw.1)
                  (runs_then (beginning_of hall) b.0 p' b.2 hall refl (r.others_are.idle k b.0 b.1) (rest.others_are.0.idle k p' at_p') script group some_group (turns first) rest.saw.0 q.lane d.runs);
              finished = d.finished;
            }

    stopped_then : (k : ℕ) (p' : RoomPass) (q : Part) → at + 1 ≤ k → get_elem? others' k ≡ some p' → slice_get (slice_set parts at part') k ≡ Some q → HasStoppedWith hall script group p' q
    stopped_then k p' q above at_p' at_q =
        let other : k ≢ at = λ e. omega (arith, e, above) in
        let b = before k p' other at_p' in
        let s = r.stopped k b.0 q (omega (arith, above)) b.1 (sym (beside k other) ∙ at_q) in
        let f = s.ends.so_far in
        let idle' = rest.others_are.0.idle k p' at_p' in
        record {
          ends = record {
            so_far = record {
              idle = idle';
              seat = λ one. f.seat (sym b.2.number ∙ one);
              runs = runs_then (beginning_of hall) b.0 p' b.2 hall refl f.idle idle' script group some_group [] [] q.lane f.runs;
              met = met_then (beginning_of hall) b.0 p' b.2 q.lane f.met;
            };
            finished = s.ends.finished;
          };
          none_full = s.none_full;
          blank = s.blank;
        }

    -- what ended one of the first parts ended it still
    ended_still : (f : RunFault) → SomeEnded f at parts → SomeEnded f (at + 1) (slice_set parts at part')
    ended_still f s = let lt = s.2 in (s.0, s.1, omega (arith, lt), beside s.0 (λ e. omega (arith, e, lt)) ∙ s.3, s.4)

    ended_here : (f : RunFault) → EndedBy f part'.lane → SomeEnded f (at + 1) (slice_set parts at part')
    ended_here f e = (at, part', omega arith, here', e)

    either_still : SomeEnded run_fault.Disk at parts ⊎ SomeEnded run_fault.Memory at parts → SomeEnded run_fault.Disk (at + 1) (slice_set parts at part') ⊎ SomeEnded run_fault.Memory (at + 1) (slice_set parts at part')
    either_still e = ⊎_elim (λ s. inl (ended_still run_fault.Disk s)) (λ s. inr (ended_still run_fault.Memory s)) e

    either_here : EndedBy run_fault.Disk part'.lane ⊎ EndedBy run_fault.Memory part'.lane → SomeEnded run_fault.Disk (at + 1) (slice_set parts at part') ⊎ SomeEnded run_fault.Memory (at + 1) (slice_set parts at part')
    either_here e = ⊎_elim (λ s. inl (ended_here run_fault.Disk s)) (λ s. inr (ended_here run_fault.Memory s)) e

    -- P of each of the first passes and of the next one
    each_then : (P : RoomPass → Type 0) → P rest.own → ((k : ℕ) (p : RoomPass) (p' : RoomPass) → k < at → get_elem? others k ≡ some p → Renews (beginning_of hall) p p' → P p') → (k : ℕ) (p' : RoomPass) → k < at + 1 → get_elem? others' k ≡ some p' → P p'
    each_then P of_own each k p' lt at_p' = by (decide k at)
      where
        by : (k ≡ at) ⊎ (k ≢ at) → P p'
        by (inl same) = subst P (same_some others' at rest.own p' rest.own_is (subst (λ n. get_elem? others' n ≡ some p') same at_p')) of_own
        by (inr other) = let b = before k p' other at_p' in each k b.0 p' (grind (arith, lt, other)) b.1 b.2

    t : RoomPass → ℕ
    t p = troubles state_of (beginning_of hall) p

    shut_still : SomeShut at first others → SomeShut (at + 1) first' others'
    shut_still (inl s) = inl (shut_then first first' rest.saw s)
    shut_still (inr o) =
        let lt = o.2 in
        let q = rest.renews o.0 o.1 (λ e. omega (arith, e, lt)) o.3 in
        inr (o.0, q.0, omega (arith, lt), q.1, shut_too (beginning_of hall) o.1 q.0 q.2 o.4)

    own_shut : SawShut rest.own → SomeShut (at + 1) first' others'
    own_shut s = inr (at, rest.own, omega arith, rest.own_is, s)

    same_count : count_by has_failed (take at (slice_set parts at part')) ≡ count_by has_failed (take at parts)
    same_count = ap (count_by has_failed) (same_front at parts (slice_set parts at part') (let l = low in omega (arith, l)) long (λ k lt. beside k (λ e. omega (arith, e, lt))))

    same_met : sum_by (troubles state_of (beginning_of hall)) (take at others') ≡ sum_by (troubles state_of (beginning_of hall)) (take at others)
    same_met = same_sum (troubles state_of (beginning_of hall)) at others others' (let l = low in let n = r.count in omega (arith, l, n)) rest.others_are.1
        (λ k p q lt at_p at_q. let b = before k q (λ e. omega (arith, e, lt)) at_q in b.2.meets ∙ ap (troubles state_of (beginning_of hall)) (same_some others k b.0 p b.1 at_p))

    at_most : (count_by has_failed (take (at + 1) (slice_set parts at part')) ≤ troubles state_of (beginning_of hall) first' + sum_by (troubles state_of (beginning_of hall)) (take (at + 1) others')) ⊎ SomeShut (at + 1) first' others'
    at_most = ⊎_elim (λ few. ⊎_elim (λ up. by (has_failed part') refl few up) (λ shut. inr (inl shut)) rest.meets.no_lower) (λ shut. inr (shut_still shut)) r.met.at_most
      where
        here_low : at < length (slice_set parts at part')
        here_low = let lt = low in let n = long in omega (arith, lt, n)

        is_here : has_failed (get_or (slice_set parts at part') at part') ≡ has_failed part'
        is_here = ap has_failed (get_or_from_slice_get (slice_set parts at part') at part' part' here')

        by : (b : Bool) → has_failed part' ≡ b → count_by has_failed (take at parts) ≤ troubles state_of (beginning_of hall) first + sum_by (troubles state_of (beginning_of hall)) (take at others)
            → troubles state_of (beginning_of hall) first ≤ troubles state_of (beginning_of hall) first'
            → (count_by has_failed (take (at + 1) (slice_set parts at part')) ≤ troubles state_of (beginning_of hall) first' + sum_by (troubles state_of (beginning_of hall)) (take (at + 1) others')) ⊎ SomeShut (at + 1) first' others'
        by false is few up =
            let count = count_by_more_no has_failed (slice_set parts at part') at part' here_low (is_here ∙ is) in
            let sum = sum_next (troubles state_of (beginning_of hall)) others' at rest.own rest.own_is in
            let c = same_count in
            let m = same_met in
            inl (omega (arith, few, up, count, sum, c, m))
        by true is few up =
            let count = count_by_more_yes has_failed (slice_set parts at part') at part' here_low (is_here ∙ is) in
            let sum = sum_next (troubles state_of (beginning_of hall)) others' at rest.own rest.own_is in
            let c = same_count in
            let m = same_met in
            ⊎_elim (λ rose. inl (omega (arith, few, up, rose, count, sum, c, m)))
            (λ rest'. ⊎_elim (λ some. inl (omega (arith, few, up, some, count, sum, c, m))) (λ shut. ⊎_elim (λ s. inr (inl s)) (λ s. inr (own_shut s)) shut) rest')
            (rest.meets.failed (failed_by part'.lane.work.left is))

    met_so_far : MetSoFar (beginning_of hall) (at + 1) first' others' (slice_set parts at part')
    met_so_far = record {
      at_most = at_most;
      clean = ⊎_elim
          (λ c. ⊎_elim
          (λ now. inl (now.0 ∙ c.0, each_then (λ p. troubles state_of (beginning_of hall) p ≡ 0) now.1 (λ k p p' lt at_p s. s.meets ∙ c.1 k p lt at_p)))
          (λ e. inr (either_here e)) rest.meets.clean)
          (λ e. inr (either_still e)) r.met.clean;
      opened = ⊎_elim
          (λ c. ⊎_elim
          (λ now. inl (now.0 c.0, each_then (λ p. OpenOf p.number (beginning_of hall).room (turns p)) now.1 (λ k p p' lt at_p s. opened_then (beginning_of hall) p p' s (c.1 k p lt at_p))))
          (λ e. inr (either_here e)) rest.meets.opened)
          (λ e. inr (either_still e)) r.met.opened;
      unsound = λ what s. unsound_by what s (decide s.0 at);
      one = λ k q lt at_q. one_by k q lt at_q (decide k at);
    }
      where
        unsound_by : (what : Damage) (s : SomeEnded (run_fault.Damaged what) (at + 1) (slice_set parts at part')) → (s.0 ≡ at) ⊎ (s.0 ≢ at) → NotBegan (beginning_of hall) × IsPlaceOrNode what
        unsound_by what s (inl same) =
            let is : s.1 ≡ part' = same_Some s.1 part' (sym s.3 ∙ (ap (slice_get (slice_set parts at part')) same ∙ here')) in
            rest.meets.unsound what (subst (λ (u : Part). EndedBy (run_fault.Damaged what) u.lane) is s.4)
        unsound_by what s (inr other) = let lt = s.2 in r.met.unsound what (s.0, s.1, grind (arith, lt, other), sym (beside s.0 other) ∙ s.3, s.4)

        one_by : (k : ℕ) (q : Part) → k < at + 1 → slice_get (slice_set parts at part') k ≡ Some q → (k ≡ at) ⊎ (k ≢ at) → length q.lane.work.left ≤ 1
        one_by k q lt at_q (inl same) = subst (λ (u : Part). length u.lane.work.left ≤ 1) (same_Some part' q (sym here' ∙ (ap (slice_get (slice_set parts at part')) (sym same) ∙ at_q))) rest.meets.one
        one_by k q lt at_q (inr other) = r.met.one k q (grind (arith, lt, other)) (sym (beside k other) ∙ at_q)

    pub rested_more : RestedSoFar hall script group (at + 1) first' others' (slice_set parts at part')
    rested_more = record { seated = seated_then; done = done_then; stopped = stopped_then; met = met_so_far }

-- nothing was done yet for any part
pub none_finished : {Q : Type 0} (hall : HallOf RoomValue Cache ViewValue Q) (script : List ScriptTxn) (group : ℕ) (first : RoomPass) (others : List RoomPass) (parts : List Part) → AreJoined hall script group first others parts → RestedSoFar hall script group 0 first others parts
none_finished hall script group first others parts j = record {
  seated = j.seated;
  done = λ k p part lt. absurd (omega (arith, lt));
  stopped = λ k p part above at_p at. j.stopped k p part at_p at;
  met = record {
    at_most = inl (omega arith);
    clean = inl (j.first_clean, λ k p lt. absurd (omega (arith, lt)));
    opened = inl (j.first_opened, λ k p lt. absurd (omega (arith, lt)));
    unsound = λ what s. absurd (let lt = s.2 in omega (arith, lt));
    one = λ k part lt. absurd (omega (arith, lt));
  };
}

-- The faults of parts, one after another.
use Rattle.std.proofs.Common.{◌≡◌, ◌≢◌, ◌⊎◌, ⊎_elim, ℕ, zero, suc, ◌+◌, ◌-◌, ◌<◌, if◌then◌else◌, true, false, List, [], ◌∷◌, length, Option, Some, None, refl, sym, ap, ◌∙◌, arith}
use Rattle.std.specs.Prelude.{count_by, get_or, option_to_list, replicate, slice_get, slice_set, take, unwrap_or}
use Rattle.std.proofs.lemmas.List.{length-set}
use Rattle.std.proofs.lemmas.List.Sums.{count_by_more_no, count_by_more_yes}
use Rattle.std.proofs.lemmas.Option.{get_or_from_slice_get, none-some, same_Some, slice_get_within}
use Rattle.fine_model.specs.declared.RunFault.{RunFault}
use Rattle.fine_model.specs.declared.RunFault.TheVariants as run_fault
use Rattle.fine_places.proofs.Lists.{decide}
use Rattle.run_laws.specs.Lanes.{EndsLane, fault_of, is_disk, most_lanes, none_ended}
use Rattle.lane_threads.specs.declared.worker.Part.{Part}
use Rattle.lane_threads.specs.Resting.{AreLanes, EndedSoFar, has_failed, is_failed}

abbrev no_fault : Option RunFault
no_fault = None

never : (n i : ℕ) → unwrap_or (slice_get (replicate n None) i) no_fault ≡ None
never zero i = refl
never (suc n) zero = refl
never (suc n) (suc i) = never n i

pub none_so_far : (parts : List Part) → EndedSoFar 0 parts none_ended
none_so_far parts = record {
  count = refl;
  are = λ k part low. absurd (omega (arith, low));
  only = λ lane f within is. absurd (none-some f (sym (never most_lanes (lane - 1)) ∙ is));
  failed = omega arith;
}

failed_is : (f : RunFault) → is_failed (f ∷ []) ≡ is_disk (Some f)
failed_is run_fault.Memory = refl
failed_is run_fault.Disk = refl
failed_is (run_fault.Damaged what) = refl

module _ (parts : List Part) (lanes : AreLanes parts) (at : ℕ) (part : Part) (here : slice_get parts at ≡ Some part) (ended : List (Option RunFault)) (e : EndedSoFar at parts ended) where
  low : at < length parts
  low = slice_get_within parts at part here

  -- the lane of the next part has none yet
  free : fault_of ended part.lane.lane ≡ None
  free = by (fault_of ended part.lane.lane) refl
    where
      by : (o : Option RunFault) → fault_of ended part.lane.lane ≡ o → fault_of ended part.lane.lane ≡ None
      by None is = is
      by (Some f) is =
          let o = e.only part.lane.lane f (lanes.within at part here) is in
          let same = lanes.apart o.0 at o.1 part o.3 here o.4 in
          let before = o.2 in
          absurd (omega (arith, same, before))

  which : (k : ℕ) → k < at + 1 → (k < at) ⊎ (k ≡ at)
  which k lt = grind (arith, lt)

  pub none_more : part.lane.work.left ≡ [] → EndedSoFar (at + 1) parts ended
  none_more none = record {
    count = e.count;
    are = λ k p lt is. ⊎_elim (λ before. e.are k p before is)
        (λ same.
        let q : p ≡ part = same_Some p part (sym is ∙ (ap (slice_get parts) same ∙ here)) in
        ap (λ (x : Part). x.lane.work.left) q ∙ (none ∙ sym (ap option_to_list (ap (λ (x : Part). fault_of ended x.lane.lane) q ∙ free))))
        (which k lt);
    only = λ lane f within is. let o = e.only lane f within is in let lt = o.2 in (o.0, o.1, omega (arith, lt), o.3, o.4);
    failed =
        let f = e.failed in
        let n = count_by_more_no has_failed parts at part low (ap has_failed (get_or_from_slice_get parts at part part here) ∙ ap is_failed none) in
        omega (arith, f, n);
  }

  module _ (fault : RunFault) (by_one : part.lane.work.left ≡ fault ∷ []) (new : List (Option RunFault)) (set : new ≡ slice_set ended (part.lane.lane - 1) (Some fault)) (ends : EndsLane ended new part.lane.lane fault) where
    of_other : (k : ℕ) (p : Part) → k < at → slice_get parts k ≡ Some p → fault_of new p.lane.lane ≡ fault_of ended p.lane.lane
    of_other k p before is = ends.others p.lane.lane (lanes.within k p is).0 (λ same. let one = lanes.apart k at p part is here same in omega (arith, one, before))

    more_failed : count_by has_failed (take (at + 1) parts) ≡ count_by has_failed (take at parts) + (if is_disk (Some fault) then 1 else 0)
    more_failed = by (is_disk (Some fault)) (ap has_failed (get_or_from_slice_get parts at part part here) ∙ (ap is_failed by_one ∙ failed_is fault))
      where
        by : (b : _) → has_failed (get_or parts at part) ≡ b → count_by has_failed (take (at + 1) parts) ≡ count_by has_failed (take at parts) + (if b then 1 else 0)
        by true is = count_by_more_yes has_failed parts at part low is
        by false is = let n = count_by_more_no has_failed parts at part low is in omega (arith, n)

    pub one_more : EndedSoFar (at + 1) parts new
    one_more = record {
      count = ap length set ∙ (length-set ended (part.lane.lane - 1) (Some fault) ∙ e.count);
      are = λ k p lt is. ⊎_elim (λ before. e.are k p before is ∙ ap option_to_list (sym (of_other k p before is)))
          (λ same.
          let q : p ≡ part = same_Some p part (sym is ∙ (ap (slice_get parts) same ∙ here)) in
          ap (λ (x : Part). x.lane.work.left) q ∙ (by_one ∙ sym (ap option_to_list (ap (λ (x : Part). fault_of new x.lane.lane) q ∙ ends.ended))))
          (which k lt);
      only = λ lane f within is. ⊎_elim
          (λ (same : lane ≡ part.lane.lane). (at, part, omega arith, here, sym same))
          (λ (other : lane ≢ part.lane.lane). let o = e.only lane f within (sym (ends.others lane within.0 other) ∙ is) in let lt = o.2 in (o.0, o.1, omega (arith, lt), o.3, o.4))
          (decide lane part.lane.lane);
      failed = let f = e.failed in let c = ends.counted in let m = more_failed in omega (arith, f, c, m);
    }

-- What is so of the faults of lanes once a lane has ended.
use Rattle.std.proofs.Common.{◌≡◌, ◌≢◌, ℕ, zero, suc, ◌+◌, ◌-◌, ◌<◌, ◌≤◌, ◌==◌, Bool, true, false, List, length, Option, Some, None, cond, refl, sym, ap, ◌∙◌, subst, arith, true≢false}
use Rattle.std.specs.Prelude.{count_by, slice_set}
use Rattle.std.specs.List.{range_with_len}
use Rattle.std.proofs.lemmas.List.{get_or-set_other, get_or-set_same}
use Rattle.std.proofs.lemmas.List.Sums.{sum_by-cons}
use Rattle.std.proofs.lemmas.Option.{unwrap_or-slice_get}
use Rattle.fine_model.specs.declared.RunFault.{RunFault}
use Rattle.run_laws.specs.Lanes.{EndsLane, IsLane, fault_of, is_disk, lanes_failed, most_lanes}

-- ---- counting with one number more

is_same : (n m : ℕ) → (n == m) ≡ true → n ≡ m
is_same n m h = grind (arith, h)

is_other : (n m : ℕ) → (n == m) ≡ false → n ≢ m
is_other n m h e = absurd (true≢false (sym (same n m e) ∙ h))
  where
    same : (n m : ℕ) → n ≡ m → (n == m) ≡ true
    same n m e = grind (arith, e)

-- two tests that agree on all numbers but one
module _ (p q : ℕ → Bool) (lane : ℕ) (same : (m : ℕ) → 1 ≤ m → m ≢ lane → q m ≡ p m) where
  past : (k a : ℕ) → 1 ≤ a → lane < a → count_by q (range_with_len a k) ≡ count_by p (range_with_len a k)
  past zero a low above = refl
  past (suc k) a low above =
      let x = sum_by-cons (λ m. cond (q m) 1 0) a (range_with_len (a + 1) k) in
      let y = sum_by-cons (λ m. cond (p m) 1 0) a (range_with_len (a + 1) k) in
      let not : a ≢ lane = λ e. omega (arith, above, e) in
      let next : 1 ≤ a + 1 = omega (arith, low) in
      let beyond : lane < a + 1 = omega (arith, above) in
      let here : cond (q a) 1 0 ≡ cond (p a) 1 0 = ap {B = ℕ} (λ b. cond b 1 0) (same a low not) in
      let rest = past k (a + 1) next beyond in
      omega (arith, x, y, here, rest)

  more : (k a : ℕ) → 1 ≤ a → count_by q (range_with_len a k) ≤ count_by p (range_with_len a k) + cond (q lane) 1 0
  more zero a low = omega arith
  more (suc k) a low = by (a == lane) refl (more k (a + 1) (omega (arith, low)))
    where
      x : count_by q (range_with_len a (suc k)) ≡ cond (q a) 1 0 + count_by q (range_with_len (a + 1) k)
      x = sum_by-cons (λ m. cond (q m) 1 0) a (range_with_len (a + 1) k)

      y : count_by p (range_with_len a (suc k)) ≡ cond (p a) 1 0 + count_by p (range_with_len (a + 1) k)
      y = sum_by-cons (λ m. cond (p m) 1 0) a (range_with_len (a + 1) k)

      by : (t : Bool) → (a == lane) ≡ t → count_by q (range_with_len (a + 1) k) ≤ count_by p (range_with_len (a + 1) k) + cond (q lane) 1 0
          → count_by q (range_with_len a (suc k)) ≤ count_by p (range_with_len a (suc k)) + cond (q lane) 1 0
      by true here left =
          let e = is_same a lane here in
          let rest = past k (a + 1) (omega (arith, low)) (omega (arith, e)) in
          let head : cond (q a) 1 0 ≡ cond (q lane) 1 0 = ap {B = ℕ} (λ m. cond (q m) 1 0) e in
          omega (arith, x, y, rest, head)
      by false here left =
          let head : cond (q a) 1 0 ≡ cond (p a) 1 0 = ap {B = ℕ} (λ b. cond b 1 0) (same a low (is_other a lane here)) in
          omega (arith, x, y, left, head)

-- ---- a lane ends

module _ (faults : List (Option RunFault)) (lane : ℕ) (fault : RunFault) (whole : length faults ≡ most_lanes) (is_lane : IsLane lane) where
  abbrev new : List (Option RunFault)
  new = slice_set faults (lane - 1) (Some fault)

  low : 1 ≤ lane
  low = is_lane.0

  high : lane ≤ most_lanes
  high = is_lane.1

  ended : fault_of new lane ≡ Some fault
  ended = unwrap_or-slice_get new (lane - 1) None ∙ get_or-set_same faults (lane - 1) (Some fault) None (omega (arith, whole, low, high))

  apart : (other : ℕ) → 1 ≤ other → other ≢ lane → (other - 1) ≢ (lane - 1)
  apart other from not e = not (omega (arith, low, from, e))

  others : (other : ℕ) → 1 ≤ other → other ≢ lane → fault_of new other ≡ fault_of faults other
  others other from not = unwrap_or-slice_get new (other - 1) None ∙ get_or-set_other faults (lane - 1) (other - 1) (Some fault) None (apart other from not) ∙ sym (unwrap_or-slice_get faults (other - 1) None)

  pub ends_lane : EndsLane faults new lane fault
  ends_lane = record {
    ended = ended;
    others = others;
    counted = subst (λ (o : Option RunFault). lanes_failed new ≤ lanes_failed faults + cond (is_disk o) 1 0) ended
        (more (λ m. is_disk (fault_of faults m)) (λ m. is_disk (fault_of new m)) lane (λ m from not. ap is_disk (others m from not)) most_lanes 1 (omega arith));
  }

-- The lanes of a script.
use Rattle.std.proofs.Common.{◌≡◌, ◌⊎◌, inl, inr, ⊎_elim, ℕ, zero, suc, ◌+◌, ◌<◌, ◌≤◌, ◌==◌, Bool, true, false, true≢false, ◌||◌, cond, List, [], ◌∷◌, length, Some, refl, sym, ap, ◌∙◌, arith}
use Rattle.std.specs.Prelude.{Any, filter, slice_get}
use Rattle.std.specs.List.{range_with_len}
use Rattle.std.proofs.lemmas.Option.{none-some, same_Some}
use Rattle.std.proofs.lemmas.List.FromFn.{length-range_with_len}
use Rattle.fine_model.specs.declared.ScriptTxn.{ScriptTxn}
use Rattle.fine_model.proofs.Trees.Small.{length-filter_le}
use Rattle.run_laws.specs.Lanes.{IsLane, most_lanes}
use Rattle.lane_threads.specs.Means.{lanes_of, names}

-- ---- numbers of a range that pass a test

-- each is of the range, and passes
chosen : (p : ℕ → Bool) (a n i x : ℕ) → slice_get (filter p (range_with_len a n)) i ≡ Some x → (a ≤ x) × (x < a + n) × (p x ≡ true)
chosen p a zero i x is = absurd (none-some x is)
chosen p a (suc n) i x is = by (p a) refl i is (λ k at. chosen p (a + 1) n k x at)
  where
    by : (b : Bool) → p a ≡ b → (i : ℕ) → slice_get (cond b (a ∷ filter p (range_with_len (a + 1) n)) (filter p (range_with_len (a + 1) n))) i ≡ Some x
        → ((k : ℕ) → slice_get (filter p (range_with_len (a + 1) n)) k ≡ Some x → (a + 1 ≤ x) × (x < (a + 1) + n) × (p x ≡ true)) → (a ≤ x) × (x < a + suc n) × (p x ≡ true)
    by true passes zero is rest = let same : a ≡ x = same_Some a x is in (omega (arith, same), omega (arith, same), ap p (sym same) ∙ passes)
    by true passes (suc k) is rest = let r = rest k is in let low = r.0 in let high = r.1 in (omega (arith, low), omega (arith, high), r.2)
    by false fails k is rest = let r = rest k is in let low = r.0 in let high = r.1 in (omega (arith, low), omega (arith, high), r.2)

-- they ascend
ascend : (p : ℕ → Bool) (a n i j x y : ℕ) → i < j → slice_get (filter p (range_with_len a n)) i ≡ Some x → slice_get (filter p (range_with_len a n)) j ≡ Some y → x < y
ascend p a zero i j x y before is_x is_y = absurd (none-some x is_x)
ascend p a (suc n) i j x y before is_x is_y = by (p a) i j before is_x is_y (λ k l lt. ascend p (a + 1) n k l x y lt) (λ k at. (chosen p (a + 1) n k y at).0)
  where
    by : (b : Bool) (i j : ℕ) → i < j → slice_get (cond b (a ∷ filter p (range_with_len (a + 1) n)) (filter p (range_with_len (a + 1) n))) i ≡ Some x
        → slice_get (cond b (a ∷ filter p (range_with_len (a + 1) n)) (filter p (range_with_len (a + 1) n))) j ≡ Some y
        → ((k l : ℕ) → k < l → slice_get (filter p (range_with_len (a + 1) n)) k ≡ Some x → slice_get (filter p (range_with_len (a + 1) n)) l ≡ Some y → x < y)
        → ((k : ℕ) → slice_get (filter p (range_with_len (a + 1) n)) k ≡ Some y → a + 1 ≤ y) → x < y
    by true k zero before is_x is_y rest low = absurd (omega (arith, before))
    by true zero (suc l) before is_x is_y rest low = let same : a ≡ x = same_Some a x is_x in let above = low l is_y in omega (arith, same, above)
    by true (suc k) (suc l) before is_x is_y rest low = rest k l (omega (arith, before)) is_x is_y
    by false k l before is_x is_y rest low = rest k l before is_x is_y

-- each that passes is among them
among : (p : ℕ → Bool) (a n x : ℕ) → a ≤ x → x < a + n → p x ≡ true → (j : ℕ) × (slice_get (filter p (range_with_len a n)) j ≡ Some x)
among p a zero x low high passes = absurd (omega (arith, low, high))
among p a (suc n) x low high passes = ⊎_elim
    (λ same. (0, ap (λ b. slice_get (cond b (a ∷ filter p (range_with_len (a + 1) n)) (filter p (range_with_len (a + 1) n))) 0) (ap p same ∙ passes) ∙ ap Some same))
    (λ above. by (p a) (among p (a + 1) n x above (omega (arith, high)) passes))
    (which a x low)
  where
    which : (a x : ℕ) → a ≤ x → (a ≡ x) ⊎ (a + 1 ≤ x)
    which a x low = grind (arith, low)

    by : (b : Bool) → (j : ℕ) × (slice_get (filter p (range_with_len (a + 1) n)) j ≡ Some x) → (j : ℕ) × (slice_get (cond b (a ∷ filter p (range_with_len (a + 1) n)) (filter p (range_with_len (a + 1) n))) j ≡ Some x)
    by true at = (suc at.0, at.1)
    by false at = at

-- ---- a script that names a lane

is_same : (n m : ℕ) → n ≡ m → (n == m) ≡ true
is_same n m h = grind (arith, h)

same_is : (n m : ℕ) → (n == m) ≡ true → n ≡ m
same_is n m h = grind (arith, h)

named_by : (script : List ScriptTxn) (lane i : ℕ) (txn : ScriptTxn) → slice_get script i ≡ Some txn → txn.lane ≡ lane → names script lane ≡ true
named_by [] lane i txn is of_lane = absurd (none-some txn is)
named_by (t ∷ script) lane zero txn is of_lane = ap (λ b. b || names script lane) (is_same t.lane lane (ap (λ (x : ScriptTxn). x.lane) (same_Some t txn is) ∙ of_lane))
named_by (t ∷ script) lane (suc i) txn is of_lane = by (t.lane == lane) (named_by script lane i txn is of_lane)
  where
    by : (b : Bool) → names script lane ≡ true → (b || names script lane) ≡ true
    by true h = refl
    by false h = h

some_named : (script : List ScriptTxn) (lane : ℕ) → names script lane ≡ true → Any (λ (txn : ScriptTxn). txn.lane ≡ lane) script
some_named [] lane h = absurd (true≢false (sym h))
some_named (t ∷ script) lane h = by (t.lane == lane) refl h (some_named script lane)
  where
    by : (b : Bool) → (t.lane == lane) ≡ b → (b || names script lane) ≡ true → (names script lane ≡ true → Any (λ (txn : ScriptTxn). txn.lane ≡ lane) script) → Any (λ (txn : ScriptTxn). txn.lane ≡ lane) (t ∷ script)
    by true e h rest = (0, t, omega arith, refl, same_is t.lane lane e)
    by false e h rest = let a = rest h in let low = a.2 in (suc a.0, a.1, omega (arith, low), a.3, a.4)

-- ---- the lanes

-- they are lanes, which the script names
pub lanes_are : (script : List ScriptTxn) (k lane : ℕ) → slice_get (lanes_of script) k ≡ Some lane → IsLane lane × (names script lane ≡ true)
unfolding lanes_of
lanes_are script k lane at = let c = chosen (names script) 1 most_lanes k lane at in let low = c.0 in let high = c.1 in ((low, omega (arith, high)), c.2)

-- no two are the same
pub lanes_apart : (script : List ScriptTxn) (j k lane : ℕ) → slice_get (lanes_of script) j ≡ Some lane → slice_get (lanes_of script) k ≡ Some lane → j ≡ k
unfolding lanes_of
lanes_apart script j k lane at_j at_k = by (which j k)
  where
    which : (j m : ℕ) → (j < m) ⊎ (m < j) ⊎ (j ≡ m)
    which j m = grind arith

    by : (j < k) ⊎ (k < j) ⊎ (j ≡ k) → j ≡ k
    by (inl before) = let lt = ascend (names script) 1 most_lanes j k lane lane before at_j at_k in absurd (omega (arith, lt))
    by (inr (inl behind)) = let lt = ascend (names script) 1 most_lanes k j lane lane behind at_k at_j in absurd (omega (arith, lt))
    by (inr (inr same)) = same

-- each lane of a transaction is among them
pub lane_among : (script : List ScriptTxn) (i : ℕ) (txn : ScriptTxn) → slice_get script i ≡ Some txn → IsLane txn.lane → (k : ℕ) × (slice_get (lanes_of script) k ≡ Some txn.lane)
unfolding lanes_of
lane_among script i txn is within = let low = within.0 in let high = within.1 in among (names script) 1 most_lanes txn.lane low (omega (arith, high)) (named_by script txn.lane i txn is refl)

-- and each is that of some transaction
pub lane_used : (script : List ScriptTxn) (k lane : ℕ) → slice_get (lanes_of script) k ≡ Some lane → Any (λ (txn : ScriptTxn). txn.lane ≡ lane) script
lane_used script k lane at = some_named script lane (lanes_are script k lane at).1

-- they are few
pub lanes_few : (script : List ScriptTxn) → length (lanes_of script) ≤ most_lanes
unfolding lanes_of
lanes_few script = let few = length-filter_le (names script) (range_with_len 1 most_lanes) in let all = length-range_with_len 1 most_lanes in omega (arith, few, all)

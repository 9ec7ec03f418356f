-- The places of a lane's transactions in the script.
use Rattle.std.proofs.Common.{◌≡◌, ◌⊎◌, inl, inr, ⊎_elim, ℕ, zero, suc, ◌+◌, ◌<◌, ◌≤◌, ◌==◌, Bool, true, false, cond, List, ◌∷◌, length, Some, refl, sym, ap, ◌∙◌, arith}
use Rattle.std.specs.Prelude.{filter, slice_get, unwrap_or, option_map}
use Rattle.std.specs.List.{range_with_len}
use Rattle.std.proofs.lemmas.Option.{none-some, same_Some, slice_get_cases, slice_get_within}
use Rattle.fine_model.specs.declared.ScriptTxn.{ScriptTxn}
use Rattle.lane_laws.specs.Lanes.{lane_at, places_in}

-- ---- numbers of a range that pass a test

-- each is of the range, and passes
chosen : (p : ℕ → Bool) (a n i x : ℕ) → slice_get (filter p (range_with_len a n)) i ≡ Some x → (a ≤ x) × (x < a + n) × (p x ≡ true)
chosen p a zero i x is = absurd (none-some x is)
chosen p a (suc n) i x is = by (p a) refl i is (λ k at. chosen p (a + 1) n k x at)
  where
    by : (b : Bool) → p a ≡ b → (i : ℕ) → slice_get (cond b (a ∷ filter p (range_with_len (a + 1) n)) (filter p (range_with_len (a + 1) n))) i ≡ Some x
        → ((k : ℕ) → slice_get (filter p (range_with_len (a + 1) n)) k ≡ Some x → (a + 1 ≤ x) × (x < (a + 1) + n) × (p x ≡ true)) → (a ≤ x) × (x < a + suc n) × (p x ≡ true)
    by true passes zero is rest = let same : a ≡ x = same_Some a x is in (omega (arith, same), omega (arith, same), ap p (sym same) ∙ passes)
    by true passes (suc k) is rest = let r = rest k is in let low = r.0 in let high = r.1 in (omega (arith, low), omega (arith, high), r.2)
    by false fails k is rest = let r = rest k is in let low = r.0 in let high = r.1 in (omega (arith, low), omega (arith, high), r.2)

-- they ascend
ascend : (p : ℕ → Bool) (a n i j x y : ℕ) → i < j → slice_get (filter p (range_with_len a n)) i ≡ Some x → slice_get (filter p (range_with_len a n)) j ≡ Some y → x < y
ascend p a zero i j x y before is_x is_y = absurd (none-some x is_x)
ascend p a (suc n) i j x y before is_x is_y = by (p a) i j before is_x is_y (λ k l lt. ascend p (a + 1) n k l x y lt) (λ k at. (chosen p (a + 1) n k y at).0)
  where
    by : (b : Bool) (i j : ℕ) → i < j → slice_get (cond b (a ∷ filter p (range_with_len (a + 1) n)) (filter p (range_with_len (a + 1) n))) i ≡ Some x
        → slice_get (cond b (a ∷ filter p (range_with_len (a + 1) n)) (filter p (range_with_len (a + 1) n))) j ≡ Some y
        → ((k l : ℕ) → k < l → slice_get (filter p (range_with_len (a + 1) n)) k ≡ Some x → slice_get (filter p (range_with_len (a + 1) n)) l ≡ Some y → x < y)
        → ((k : ℕ) → slice_get (filter p (range_with_len (a + 1) n)) k ≡ Some y → a + 1 ≤ y) → x < y
    by true k zero before is_x is_y rest low = absurd (omega (arith, before))
    by true zero (suc l) before is_x is_y rest low = let same : a ≡ x = same_Some a x is_x in let above = low l is_y in omega (arith, same, above)
    by true (suc k) (suc l) before is_x is_y rest low = rest k l (omega (arith, before)) is_x is_y
    by false k l before is_x is_y rest low = rest k l before is_x is_y

-- each that passes is among them
among : (p : ℕ → Bool) (a n x : ℕ) → a ≤ x → x < a + n → p x ≡ true → (j : ℕ) × (slice_get (filter p (range_with_len a n)) j ≡ Some x)
among p a zero x low high passes = absurd (omega (arith, low, high))
among p a (suc n) x low high passes = ⊎_elim
    (λ same. (0, ap (λ b. slice_get (cond b (a ∷ filter p (range_with_len (a + 1) n)) (filter p (range_with_len (a + 1) n))) 0) (ap p same ∙ passes) ∙ ap Some same))
    (λ above. by (p a) (among p (a + 1) n x above (omega (arith, high)) passes))
    (which a x low)
  where
    which : (a x : ℕ) → a ≤ x → (a ≡ x) ⊎ (a + 1 ≤ x)
    which a x low = grind (arith, low)

    by : (b : Bool) → (j : ℕ) × (slice_get (filter p (range_with_len (a + 1) n)) j ≡ Some x) → (j : ℕ) × (slice_get (cond b (a ∷ filter p (range_with_len (a + 1) n)) (filter p (range_with_len (a + 1) n))) j ≡ Some x)
    by true at = (suc at.0, at.1)
    by false at = at

-- ---- those of a lane

is_same : (n m : ℕ) → n ≡ m → (n == m) ≡ true
is_same n m h = grind (arith, h)

same_is : (n m : ℕ) → (n == m) ≡ true → n ≡ m
same_is n m h = grind (arith, h)

lane_is : (script : List ScriptTxn) (i : ℕ) (txn : ScriptTxn) → slice_get script i ≡ Some txn → lane_at script i ≡ txn.lane
lane_is script i txn is = ap (λ o. unwrap_or (option_map (λ (t : ScriptTxn). t.lane) o) 0) is

-- they ascend
pub places_ascend : (script : List ScriptTxn) (lane i j a b : ℕ) → i < j → slice_get (places_in script lane) i ≡ Some a → slice_get (places_in script lane) j ≡ Some b → a < b
unfolding places_in
places_ascend script lane i j a b before is_a is_b = ascend (λ n. lane_at script n == lane) 0 (length script) i j a b before is_a is_b

-- each is that of a transaction of the lane
pub places_are : (script : List ScriptTxn) (lane j i : ℕ) → slice_get (places_in script lane) j ≡ Some i → (txn : ScriptTxn) × (slice_get script i ≡ Some txn) × (txn.lane ≡ lane)
unfolding places_in
places_are script lane j i at =
    let c = chosen (λ n. lane_at script n == lane) 0 (length script) j i at in
    let high = c.1 in
    ⊎_elim
    (λ t. (t.0, t.2, sym (lane_is script i t.0 t.2) ∙ same_is (lane_at script i) lane c.2))
    (λ past. let low = past.0 in absurd (omega (arith, high, low)))
    (slice_get_cases script i).1

-- each transaction of the lane is at one of them
pub place_of : (script : List ScriptTxn) (lane i : ℕ) (txn : ScriptTxn) → slice_get script i ≡ Some txn → txn.lane ≡ lane → (j : ℕ) × (slice_get (places_in script lane) j ≡ Some i)
unfolding places_in
place_of script lane i txn is of_lane =
    among (λ n. lane_at script n == lane) 0 (length script) i (omega arith) (let w = slice_get_within script i txn is in omega (arith, w)) (is_same (lane_at script i) lane (lane_is script i txn is ∙ of_lane))

-- of two of its transactions the first is at the earlier one
pub places_in_order : (script : List ScriptTxn) (lane j m a b : ℕ) → slice_get (places_in script lane) j ≡ Some a → slice_get (places_in script lane) m ≡ Some b → a < b → j < m
places_in_order script lane j m a b at_j at_m before = by (which j m)
  where
    which : (j m : ℕ) → (j < m) ⊎ (m < j) ⊎ (j ≡ m)
    which j m = grind arith

    by : (j < m) ⊎ (m < j) ⊎ (j ≡ m) → j < m
    by (inl first) = first
    by (inr (inl behind)) = let lt = places_ascend script lane m j b a behind at_m at_j in absurd (omega (arith, lt, before))
    by (inr (inr same)) = let e = same_Some a b (sym at_j ∙ (ap (slice_get (places_in script lane)) same ∙ at_m)) in absurd (omega (arith, e, before))

-- Reading fields one after the other, as a loop does.
use Rattle.std.proofs.Common.{◌≡◌, ℕ, suc, ◌-◌, ◌+◌, ◌≤◌, ◌<◌, List, [], ◌∷◌, ◌++◌, Option, Some, None, refl, sym, ap, ◌∙◌, append_assoc, append-nil, arith}
use Rattle.node_record.specs.declared.fault.RowFault.{RowFault}
use Rattle.node_record.specs.declared.fault.RowFault.TheVariants as fault
use Rattle.node_record.specs.Reading.{◌>>=◌, Fails, items_at}

-- what was read before, and what is still read
abbrev pub with_front : {A : Type 0} → List A → Option (List A × List ℕ) → Option (List A × List ℕ)
with_front front read = read >>= λ x. Some (front ++ x.0, x.1)

module _ {A : Type 0} (one : List ℕ → Option (A × List ℕ)) where
  regroup : (front : List A) (x : A) (read : Option (List A × List ℕ)) → with_front front (read >>= λ xs. Some (x ∷ xs.0, xs.1)) ≡ with_front (front ++ x ∷ []) read
  regroup front x (Some xs) = ap (λ (ys : List A). Some (ys, xs.1)) (sym (append_assoc front (x ∷ []) xs.0))
  regroup front x None = refl

  pub goes_on : (front : List A) (count i : ℕ) (bytes : List ℕ) (x : A) (after : List ℕ) (total : Option (List A × List ℕ)) → i < count → one bytes ≡ Some (x, after)
      → with_front front (items_at one (count - i) bytes) ≡ total → with_front (front ++ x ∷ []) (items_at one (count - (i + 1)) after) ≡ total
  unfolding items_at
  goes_on front count i bytes x after total lt h so_far =
      let k : count - i ≡ suc (count - (i + 1)) = omega arith in
      let step : with_front front (items_at one (count - i) bytes) ≡ with_front (front ++ x ∷ []) (items_at one (count - (i + 1)) after) = rw (k, h) (regroup front x (items_at one (count - (i + 1)) after)) in
      sym step ∙ so_far

  pub ends : (start : ℕ) (e : RowFault) (front : List A) (count i : ℕ) (bytes : List ℕ) (total : Option (List A × List ℕ)) → i < count → Fails start e (one bytes)
      → with_front front (items_at one (count - i) bytes) ≡ total → Fails start e total
  unfolding items_at
  ends start fault.NoMemory front count i bytes total lt h so_far = tt
  ends start (fault.Bad at) front count i bytes total lt h so_far =
      let k : count - i ≡ suc (count - (i + 1)) = omega arith in
      let e = h.1 in
      let none : with_front front (items_at one (count - i) bytes) ≡ None = rw (k, e) refl in
      (h.0, sym so_far ∙ none)

  pub is_done : (front : List A) (count i : ℕ) (bytes : List ℕ) (total : Option (List A × List ℕ)) → count ≤ i → with_front front (items_at one (count - i) bytes) ≡ total → total ≡ Some (front, bytes)
  unfolding items_at
  is_done front count i bytes total le so_far =
      let k : count - i ≡ 0 = omega arith in
      let done : with_front front (items_at one (count - i) bytes) ≡ Some (front, bytes) = rw k (ap (λ (xs : List A). Some (xs, bytes)) (append-nil front)) in
      sym so_far ∙ done

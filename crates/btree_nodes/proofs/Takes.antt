-- The first pairs of lists, as many as are wanted.
use Rattle.std.proofs.Common.{◌≡◌, ℕ, zero, suc, ◌-◌, ◌==◌, Bool, true, false, cond, ◌&&◌, not, List, [], ◌∷◌, ◌++◌, length, take, Some, Result, Ok, refl, sym, ap, ◌∙◌, true≢false, arith, eqb-true, append-nil, append_assoc}
use Rattle.std.specs.List.{AllByRecursion}
use Rattle.std.proofs.lemmas.List.{length-append}
use Rattle.std.proofs.lemmas.List.Elements.{filter-append}
use Rattle.std.proofs.Math.Bool.{and-false}
use Rattle.fine_model.specs.Map.{Pair, is_below, between}
use Rattle.fine_model.specs.Paths.{meets, scan_kids}
use Rattle.fine_model.specs.Trees.{Bounds}
use Rattle.fine_model.proofs.Ordered.Order.{filter_none}
use Rattle.fine_model.proofs.Trees.Bounded.{not_lower}
use Rattle.btree_nodes.specs.Scans.{IsTaken}

pub take_nothing : {A : Type 0} (n : ℕ) → take {A = A} n [] ≡ []
take_nothing zero = refl
take_nothing (suc n) = refl

-- the first items of two lists
pub take_both : {A : Type 0} (n : ℕ) (xs ys : List A) → take n (xs ++ ys) ≡ take n xs ++ take (n - length xs) ys
take_both {A = A} n [] ys = ap (λ k. take k ys) (let e : n ≡ n - 0 = omega arith in e) ∙ ap (λ (zs : List A). zs ++ take (n - 0) ys) (sym (take_nothing n))
take_both {A = A} zero (x ∷ xs) ys = ap (λ k. take k ys) (let e : 0 ≡ 0 - length (x ∷ xs) = omega arith in e)
take_both {A = A} (suc n) (x ∷ xs) ys = ap (λ (zs : List A). x ∷ zs) (take_both n xs ys) ∙ ap (λ k. x ∷ (take n xs ++ take k ys)) (let e : n - length xs ≡ suc n - length (x ∷ xs) = omega arith in e)

-- nothing is taken where nothing is wanted, or nothing stands
pub taken_none : (wanted : ℕ) (old : List Pair) → IsTaken wanted wanted old old []
taken_none wanted old = record { is = sym (append-nil old) ∙ ap (λ (xs : List Pair). old ++ xs) (sym (take_nothing wanted)); rest = omega arith }

pub taken_full : (old pairs : List Pair) → IsTaken 0 0 old old pairs
taken_full old pairs = record { is = sym (append-nil old); rest = omega arith }

pub taken_on : (wanted mid left : ℕ) (a b c xs ys : List Pair) → IsTaken wanted mid a b xs → IsTaken mid left b c ys → IsTaken wanted left a c (xs ++ ys)
taken_on wanted mid left a b c xs ys first second = record {
  is = second.is ∙ ap (λ (zs : List Pair). zs ++ take mid ys) first.is ∙ append_assoc a (take wanted xs) (take mid ys)
      ∙ ap (λ (zs : List Pair). a ++ zs) (ap (λ k. take wanted xs ++ take k ys) first.rest ∙ sym (take_both wanted xs ys));
  rest = let l = length-append xs ys in let f = first.rest in let s = second.rest in omega (arith, l, f, s);
}

pub between-append : (low high : List ℕ) (xs ys : List Pair) → between low high (xs ++ ys) ≡ between low high xs ++ between low high ys
unfolding between
between-append low high xs ys = filter-append (λ p. not (is_below p.0 low) && is_below p.0 high) xs ys

pub between_none : (low high : List ℕ) → between low high [] ≡ []
unfolding between
between_none low high = refl

-- no pair lies in a range that is empty
pub no_range : (low high : List ℕ) (xs : List Pair) → is_below low high ≡ false → between low high xs ≡ []
unfolding between
no_range low high xs none = filter_none (λ p. not (is_below p.0 low) && is_below p.0 high) xs (each xs)
  where
    one : (k : List ℕ) (b : Bool) → is_below k low ≡ b → (not b && is_below k high) ≡ false
    one k true e = refl
    one k false e = not_lower k high low none e

    each : (xs : List Pair) → AllByRecursion (λ p. (not (is_below p.0 low) && is_below p.0 high) ≡ false) xs
    each [] = tt
    each (x ∷ xs) = (one x.0 (is_below x.0 low) refl, each xs)

-- nothing is taken where the range is empty, or nothing is wanted
pub none_taken : (low high : List ℕ) (limit : ℕ) (xs : List Pair) → (is_below low high && not (limit == 0)) ≡ false → take limit (between low high xs) ≡ []
none_taken low high limit xs none = by (is_below low high) refl (limit == 0) refl none
  where
    by : (r : Bool) → is_below low high ≡ r → (z : Bool) → (limit == 0) ≡ z → (r && not z) ≡ false → take limit (between low high xs) ≡ []
    by true e true z none = ap (λ k. take k (between low high xs)) (eqb-true limit 0 z)
    by true e false z none = absurd (true≢false none)
    by false e z z' none = ap (take limit) (no_range low high xs e) ∙ take_nothing limit

-- the same first pairs of two lists, and so many wanted still
pub record IsSame (wanted left : ℕ) (xs ys : List Pair) : Type 0 where
  pub same : take wanted xs ≡ take wanted ys
  pub rest : left ≡ wanted - length xs
  pub rest' : left ≡ wanted - length ys

pub same_on : (wanted mid left : ℕ) (xs ys xs' ys' : List Pair) → IsSame wanted mid xs ys → IsSame mid left xs' ys' → IsSame wanted left (xs ++ xs') (ys ++ ys')
same_on wanted mid left xs ys xs' ys' first second = record {
  same = take_both wanted xs xs' ∙ (λ i. first.same i ++ take (sym first.rest i) xs') ∙ (λ i. take wanted ys ++ second.same i) ∙ ap (λ k. take wanted ys ++ take k ys') first.rest' ∙ sym (take_both wanted ys ys');
  rest = let l = length-append xs xs' in let f = first.rest in let s = second.rest in omega (arith, l, f, s);
  rest' = let l = length-append ys ys' in let f = first.rest' in let s = second.rest' in omega (arith, l, f, s);
}

pub same_empty : (wanted : ℕ) → IsSame wanted wanted [] []
same_empty wanted = record { same = refl; rest = omega arith; rest' = omega arith }

pub same_full : (xs ys : List Pair) → IsSame 0 0 xs ys
same_full xs ys = record { same = refl; rest = omega arith; rest' = omega arith }

-- nothing is scanned where nothing is wanted
pub full : (below : Bounds → ℕ → ℕ → Result ℕ ℕ) (low high : List ℕ) (bounds : Bounds) (seps : List (List ℕ)) (kids : List ℕ) → scan_kids below low high bounds seps kids 0 ≡ Ok 0
full below low high bounds seps [] = refl
full below low high bounds [] (kid ∷ kids) = ap (λ b. cond b (below bounds kid 0) (Ok 0)) (and-false (meets low high bounds))
full below low high bounds (sep ∷ seps) (kid ∷ kids) =
    let first : cond (meets low high (record { low = bounds.low; high = Some sep }) && not (0 == 0)) (below (record { low = bounds.low; high = Some sep }) kid 0) (Ok 0) ≡ Ok 0 =
    ap (λ b. cond b (below (record { low = bounds.low; high = Some sep }) kid 0) (Ok 0)) (and-false (meets low high (record { low = bounds.low; high = Some sep }))) in
    rw first (full below low high (record { low = Some sep; high = bounds.high }) seps kids)

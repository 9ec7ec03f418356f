-- Rows whose versions follow, sorted by node and version in any way.
use Rattle.std.proofs.Common.{◌≡◌, ◌⊎◌, inl, inr, ℕ, zero, suc, ◌+◌, ◌<◌, ◌≤◌, ◌==◌, Bool, true, false, cond, List, [], ◌∷◌, length, get_or, refl, sym, ap, ◌∙◌, subst, arith, true≢false, Less, Equal, Greater, is_lt, nat_cmp, lt-ltb}
use Rattle.std.specs.Prelude.{filter, sum_by, IsSortedBy, IsPermutation}
use Rattle.std.specs.List.{AllByRecursion, Contains}
use Rattle.std.specs.Ordering.{ordering_then}
use Rattle.std.specs.Cmp.{IsTotalOrder, IsStrictWeakOrder}
use Rattle.std.proofs.lemmas.Bool.{cases_lt}
use Rattle.std.proofs.lemmas.Cmp.{nat_cmp_total, on_total, then_total, tied_itself}
use Rattle.std.proofs.lemmas.List.Sorted.{ranks_by, sorted_far, Contains-permutation, sum_by-IsPermutation}
use Rattle.std.proofs.lemmas.List.Sums.{sum_by-cons}
use Rattle.std.proofs.lemmas.List.Elements.{All-from_get_or, recursion_from_All}
use Rattle.fine_model.specs.Types.{NodeId, Row}
use Rattle.fine_model.specs.Nodes.{is_node, rows_of, content}
use Rattle.fine_model.specs.Merge.{node_cmp, is_row_below}
use Rattle.fine_model.specs.VersionLaws.{VersionsFollow, AreOrders, UnstableLaw}
use Rattle.fine_model.proofs.Ordered.Sets.{all_filter, all_pass}
use Rattle.fine_model.proofs.Merging.NodesIn.{nodes_total, same_node}
use Rattle.fine_model.proofs.Ordered.Arranged.{Ascend, versions_ascend}

-- ---- the orders

rows_total : IsTotalOrder (λ (a : Row) (b : Row). ordering_then (node_cmp a.node b.node) (nat_cmp a.version b.version))
rows_total = then_total (on_total (λ r. r.node) nodes_total) (on_total (λ r. r.version) nat_cmp_total)

row_order : IsStrictWeakOrder is_row_below
row_order = ranks_by rows_total (λ (r : Row). r)

pub are_orders : AreOrders
are_orders = record { lower = ranks_by nodes_total (λ (r : Row). r.node); row_below = row_order }

-- ---- rows among others

Among : Row → List Row → Type 0
Among x [] = ⊥
Among x (y ∷ ys) = (x ≡ y) ⊎ Among x ys

among_from : (xs : List Row) (x : Row) (k : ℕ) → k < length xs → get_or xs k x ≡ x → Among x xs
unfolding Among
among_from [] x k h is = absurd (omega (arith, h))
among_from (y ∷ ys) x zero h is = inl (sym is)
among_from (y ∷ ys) x (suc k) h is = inr (among_from ys x k (omega (arith, h)) is)

contains_from : (xs : List Row) (x : Row) → Among x xs → Contains xs x
unfolding Among
contains_from [] x among = absurd among
contains_from (y ∷ ys) x (inl e) = (0, omega arith, sym e)
contains_from (y ∷ ys) x (inr more) = let c = contains_from ys x more in let h = c.1 in (suc c.0, omega (arith, h), c.2)

among_kept : (p : Row → Bool) (xs : List Row) (x : Row) → p x ≡ true → Among x xs → Among x (filter p xs)
unfolding Among
among_kept p [] x passes among = among
among_kept p (y ∷ ys) x passes (inl e) = subst (λ t. Among x (cond t (y ∷ filter p ys) (filter p ys))) (sym (ap p (sym e) ∙ passes)) (inl e)
among_kept p (y ∷ ys) x passes (inr more) = by (p y) (among_kept p ys x passes more)
  where
    by : (t : Bool) → Among x (filter p ys) → Among x (cond t (y ∷ filter p ys) (filter p ys))
    by true rest = inr rest
    by false rest = rest

among_before : (p : Row → Bool) (xs : List Row) → AllByRecursion (λ x. Among x xs) (filter p xs)
unfolding Among
among_before p [] = tt
among_before p (y ∷ ys) = by (p y) (wider (filter p ys) (among_before p ys))
  where
    wider : (zs : List Row) → AllByRecursion (λ x. Among x ys) zs → AllByRecursion (λ x. Among x (y ∷ ys)) zs
    wider [] all = tt
    wider (z ∷ zs) all = (inr all.0, wider zs all.1)

    by : (t : Bool) → AllByRecursion (λ x. Among x (y ∷ ys)) (filter p ys) → AllByRecursion (λ x. Among x (y ∷ ys)) (cond t (y ∷ filter p ys) (filter p ys))
    by true rest = (inl refl, rest)
    by false rest = rest

-- ---- rows that do not fall

Far : List Row → Type 0
Far [] = Unit {0}
Far (a ∷ rows) = AllByRecursion (λ b. is_row_below b a ≡ false) rows × Far rows

far : (rows : List Row) → IsSortedBy is_row_below rows → Far rows
unfolding Far
far [] up = tt
far (a ∷ rows) up = (
  recursion_from_All (λ b. is_row_below b a ≡ false) rows (All-from_get_or (λ b. is_row_below b a ≡ false) rows a (λ k h. sorted_far is_row_below row_order (a ∷ rows) up 0 (suc k) a (omega arith) (omega (arith, h)))),
  far rows (λ k d low high. let e : suc k + 1 ≡ suc (k + 1) = omega arith in subst (λ n. is_row_below (get_or (a ∷ rows) n d) (get_or rows k d) ≡ false) e (up (suc k) d (omega arith) (omega (arith, high)))),
)

far_kept : (p : Row → Bool) (rows : List Row) → Far rows → Far (filter p rows)
unfolding Far
far_kept p [] up = tt
far_kept p (a ∷ rows) up = by (p a) (far_kept p rows up.1)
  where
    by : (t : Bool) → Far (filter p rows) → Far (cond t (a ∷ filter p rows) (filter p rows))
    by true rest = (all_filter (λ b. is_row_below b a ≡ false) p rows up.0, rest)
    by false rest = rest

-- versions that do not fall
Rise : List Row → Type 0
Rise [] = Unit {0}
Rise (a ∷ rows) = AllByRecursion (λ b. a.version ≤ b.version) rows × Rise rows

rise : (id : NodeId) (rows : List Row) → AllByRecursion (λ r. is_node id r.node ≡ true) rows → Far rows → Rise rows
unfolding Far Rise
rise id [] own up = tt
rise id (a ∷ rows) own up = (each rows own.1 up.0, rise id rows own.1 up.1)
  where
    no_lower : (b : Row) → is_node id b.node ≡ true → is_row_below b a ≡ false → a.version ≤ b.version
    no_lower b same h = elim (cases_lt b.version a.version) as (λ _. a.version ≤ b.version) [
      | inl less ↦ absurd (true≢false (sym (ap (λ n. is_lt (ordering_then (node_cmp n a.node) (nat_cmp b.version a.version))) (sym (same_node id b.node same) ∙ same_node id a.node own.0)
          ∙ ap (λ o. is_lt (ordering_then o (nat_cmp b.version a.version))) (tied_itself nodes_total a.node)
          ∙ ap (λ t. is_lt (cond t Less (cond (b.version == a.version) Equal Greater))) (lt-ltb b.version a.version less)) ∙ h))
      | inr more ↦ more
    ]

    each : (bs : List Row) → AllByRecursion (λ r. is_node id r.node ≡ true) bs → AllByRecursion (λ b. is_row_below b a ≡ false) bs → AllByRecursion (λ b. a.version ≤ b.version) bs
    each [] same none = tt
    each (b ∷ bs) same none = (no_lower b same.0 none.0, each bs same.1 none.1)

-- ---- rows that ascend, among as many that do not fall, are these

ascend_above : (v : ℕ) (rows : List Row) → Ascend v rows → AllByRecursion (λ r. v < r.version) rows
unfolding Ascend
ascend_above v [] up = tt
ascend_above v (r ∷ rows) up = (up.0, wider rows (ascend_above r.version rows up.1))
  where
    wider : (rs : List Row) → AllByRecursion (λ q. r.version < q.version) rs → AllByRecursion (λ q. v < q.version) rs
    wider [] all = tt
    wider (q ∷ rs) all = (let a = all.0 in let b = up.0 in omega (arith, a, b), wider rs all.1)

-- rows above a version are behind a row that is not above it
behind_first : (v : ℕ) (y : Row) (ys xs : List Row) → y.version ≤ v → AllByRecursion (λ r. v < r.version) xs → AllByRecursion (λ x. Among x (y ∷ ys)) xs → AllByRecursion (λ x. Among x ys) xs
unfolding Among
behind_first v y ys [] low above among = tt
behind_first v y ys (x ∷ xs) low above among = (by among.0, behind_first v y ys xs low above.1 among.1)
  where
    by : (x ≡ y) ⊎ Among x ys → Among x ys
    by (inl e) = let a = above.0 in let s = ap (λ r. r.version) e in absurd (omega (arith, a, s, low))
    by (inr more) = more

among_high : (v : ℕ) (x : Row) (ys : List Row) → AllByRecursion (λ b. v ≤ b.version) ys → Among x ys → v ≤ x.version
unfolding Among
among_high v x [] all among = absurd among
among_high v x (y ∷ ys) all (inl e) = let a = all.0 in let s = ap (λ r. r.version) e in omega (arith, a, s)
among_high v x (y ∷ ys) all (inr more) = among_high v x ys all.1 more

as_many : (v : ℕ) (xs ys : List Row) → Ascend v xs → Rise ys → AllByRecursion (λ x. Among x ys) xs → length xs ≤ length ys
unfolding Ascend Rise Among
as_many v [] ys up rises among = omega arith
as_many v (x ∷ xs) [] up rises among = absurd among.0
as_many v (x ∷ xs) (y ∷ ys) up rises among = by among.0 (λ w qs up' more. as_many w qs ys up' rises.1 more)
  where
    rest : y.version ≤ x.version → AllByRecursion (λ q. Among q ys) xs
    rest low = behind_first x.version y ys xs low (ascend_above x.version xs up.1) among.1

    by : (x ≡ y) ⊎ Among x ys → ((w : ℕ) (qs : List Row) → Ascend w qs → AllByRecursion (λ q. Among q ys) qs → length qs ≤ length ys) → length (x ∷ xs) ≤ length (y ∷ ys)
    by (inl e) many = let s = ap (λ r. r.version) e in let m = many x.version xs up.1 (rest (omega (arith, s))) in omega (arith, m)
    by (inr more) many = let m = many v (x ∷ xs) up (more, rest (among_high y.version x ys rises.0 more)) in omega (arith, m)

same_rows : (v : ℕ) (xs ys : List Row) → Ascend v xs → Rise ys → AllByRecursion (λ x. Among x ys) xs → length ys ≡ length xs → ys ≡ xs
unfolding Ascend Rise Among
same_rows v [] [] up rises among long = refl
same_rows v [] (y ∷ ys) up rises among long = absurd (omega (arith, long))
same_rows v (x ∷ xs) [] up rises among long = absurd among.0
same_rows v (x ∷ xs) (y ∷ ys) up rises among long = by among.0 (λ more. same_rows x.version xs ys up.1 rises.1 more (omega (arith, long)))
  where
    rest : y.version ≤ x.version → AllByRecursion (λ q. Among q ys) xs
    rest low = behind_first x.version y ys xs low (ascend_above x.version xs up.1) among.1

    by : (x ≡ y) ⊎ Among x ys → (AllByRecursion (λ q. Among q ys) xs → ys ≡ xs) → y ∷ ys ≡ x ∷ xs
    by (inl e) same = let t = same (rest (let s = ap (λ r. r.version) e in omega (arith, s))) in λ k. sym e k ∷ t k
    by (inr more) same = let m = as_many v (x ∷ xs) ys up rises.1 (more, rest (among_high y.version x ys rises.0 more)) in absurd (omega (arith, m, long))

-- ---- the law

count : (p : Row → Bool) (xs : List Row) → length (filter p xs) ≡ sum_by (λ r. cond (p r) 1 0) xs
count p [] = refl
count p (x ∷ xs) = by (p x) (count p xs) ∙ sym (sum_by-cons (λ r. cond (p r) 1 0) x xs)
  where
    by : (t : Bool) → length (filter p xs) ≡ sum_by (λ r. cond (p r) 1 0) xs → length (cond t (x ∷ filter p xs) (filter p xs)) ≡ cond t 1 0 + sum_by (λ r. cond (p r) 1 0) xs
    by true e = omega (arith, e)
    by false e = omega (arith, e)

module _ (before rows sorted : List Row) (follow : VersionsFollow before rows) (p : IsPermutation rows sorted) (up : IsSortedBy is_row_below sorted) (id : NodeId) where
  abbrev test : Row → Bool
  test row = is_node id row.node

  moved : (xs : List Row) → AllByRecursion (λ x. Among x rows) xs → AllByRecursion (λ x. test x ≡ true) xs → AllByRecursion (λ x. Among x (rows_of id sorted)) xs
  moved [] among own = tt
  moved (x ∷ xs) among own = (
    (let c = Contains-permutation rows sorted x p (contains_from rows x among.0) in among_kept test sorted x own.0 (among_from sorted x c.0 c.1 c.2)),
    moved xs among.1 own.1,
  )

  same_of_node : rows_of id sorted ≡ rows_of id rows
  same_of_node =
      same_rows (content before id).1 (rows_of id rows) (rows_of id sorted) (versions_ascend before rows follow id)
      (rise id (rows_of id sorted) (all_pass test sorted) (far_kept test sorted (far sorted up)))
      (moved (rows_of id rows) (among_before test rows) (all_pass test rows))
      (count test sorted ∙ sum_by-IsPermutation (λ r. cond (test r) 1 0) rows sorted p ∙ sym (count test rows))

pub unstable_law : UnstableLaw
unstable_law before rows sorted follow p up = record { of_each = same_of_node before rows sorted follow p up }

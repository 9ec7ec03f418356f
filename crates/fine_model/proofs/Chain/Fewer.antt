-- The walk over fewer parts: without one that it does not take, it takes the same.
use Rattle.std.proofs.Common.{◌≡◌, ◌≢◌, ◌⊎◌, inl, inr, ℕ, zero, suc, ◌+◌, ◌<◌, ◌≤◌, ◌==◌, nat_lt, Bool, true, false, cond, ◌||◌, List, [], ◌∷◌, ◌++◌, length, refl, sym, ap, ◌∙◌, subst, Option, Some, None, arith, true≢false, eq-eqb, eqb-true, lt-ltb, length-append}
use Rattle.std.specs.Prelude.{fold, filter}
use Rattle.std.specs.List.{AllByRecursion, list_any}
use Rattle.std.proofs.lemmas.Bool.{cases_Bool, le-ltb, ltb-true, ltb-false}
use Rattle.std.proofs.lemmas.List.Sums.{fold-append}
use Rattle.fine_model.specs.Types.{Part}
use Rattle.fine_model.specs.Chain.{later, longest_at, taken}
use Rattle.fine_model.proofs.Ordered.Order.{all_map}
use Rattle.fine_model.proofs.Trees.Small.{length-filter_le}
use Rattle.fine_model.proofs.Ordered.Nothing.{any_none}
use Rattle.fine_model.proofs.Chain.Chains.{step, longest_is, longest_none, taken_none, taken_some}

-- ---- the longest part without another

module _ (next : ℕ) (p : Part) where
  -- the best so far with the part, and without it: the same, or the part and none that is longer
  abbrev pub AreBest : Option Part → Option Part → Type 0
  AreBest with_it without = (with_it ≡ without) ⊎ ((with_it ≡ Some p) × ((b : Part) → without ≡ Some b → b.header.range.last ≤ p.header.range.last))

  later_both : (without : Option Part) (q : Part) → ((b : Part) → without ≡ Some b → b.header.range.last ≤ p.header.range.last) → AreBest (later (Some p) q) (later without q)
  later_both without q short = by (nat_lt p.header.range.last q.header.range.last) refl without short
    where
      taken_q : p.header.range.last < q.header.range.last → (w : Option Part) → ((b : Part) → w ≡ Some b → b.header.range.last ≤ p.header.range.last) → later w q ≡ Some q
      taken_q above None short' = refl
      taken_q above (Some b) short' = let s = short' b refl in ap (λ t. cond {A = Option Part} t (Some q) (Some b)) (lt-ltb b.header.range.last q.header.range.last (omega (arith, s, above)))

      still : q.header.range.last ≤ p.header.range.last → (w : Option Part) → ((b : Part) → w ≡ Some b → b.header.range.last ≤ p.header.range.last) → (b : Part) → later w q ≡ Some b → b.header.range.last ≤ p.header.range.last
      still below None short' b is = let e : q ≡ b = cc in subst (λ x. x.header.range.last ≤ p.header.range.last) e below
      still below (Some w) short' b is = of (nat_lt w.header.range.last q.header.range.last) is
        where
          of : (t : Bool) → cond {A = Option Part} t (Some q) (Some w) ≡ Some b → b.header.range.last ≤ p.header.range.last
          of true is' = let e : q ≡ b = cc in subst (λ x. x.header.range.last ≤ p.header.range.last) e below
          of false is' = short' b is'

      by : (t : Bool) → nat_lt p.header.range.last q.header.range.last ≡ t → (w : Option Part) → ((b : Part) → w ≡ Some b → b.header.range.last ≤ p.header.range.last) → AreBest (cond {A = Option Part} t (Some q) (Some p)) (later w q)
      by true e w short' = inl (sym (taken_q (ltb-true p.header.range.last q.header.range.last e) w short'))
      by false e w short' = inr (refl, still (ltb-false p.header.range.last q.header.range.last e) w short')

  step_both : (a b : Option Part) (q : Part) → AreBest a b → AreBest (step next a q) (step next b q)
  step_both a b q (inl same) = inl (ap (λ o. step next o q) same)
  step_both a b q (inr other) = by (q.header.range.first == next)
    where
      by : (t : Bool) → AreBest (cond t (later a q) a) (cond t (later b q) b)
      by true = subst (λ o. AreBest (later o q) (later b q)) (sym other.0) (later_both b q other.1)
      by false = inr other

  fold_both : (parts : List Part) (a b : Option Part) → AreBest a b → AreBest (fold (step next) a parts) (fold (step next) b parts)
  fold_both [] a b both = both
  fold_both (q ∷ parts) a b both = fold_both parts (step next a q) (step next b q) (step_both a b q both)

  first_both : (best : Option Part) → AreBest (step next best p) best
  first_both best = by (p.header.range.first == next) best
    where
      by : (t : Bool) (o : Option Part) → AreBest (cond t (later o p) o) o
      by false o = inl refl
      by true None = inr (refl, λ b is. absurd cc)
      by true (Some b) = of (nat_lt b.header.range.last p.header.range.last) refl
        where
          of : (t : Bool) → nat_lt b.header.range.last p.header.range.last ≡ t → AreBest (cond {A = Option Part} t (Some p) (Some b)) (Some b)
          of true e = inr (refl, λ c is. let s : b ≡ c = cc in subst (λ x. x.header.range.last ≤ p.header.range.last) s (let l = ltb-true b.header.range.last p.header.range.last e in omega (arith, l)))
          of false e = inl refl

  pub longest_both : (left right : List Part) → AreBest (longest_at next (left ++ p ∷ right)) (longest_at next (left ++ right))
  unfolding longest_at
  longest_both left right =
      let both = fold_both right (step next (fold (step next) None left) p) (fold (step next) None left) (first_both (fold (step next) None left)) in
      subst (λ o. AreBest o (longest_at next (left ++ right))) (sym (fold-append (step next) None left (p ∷ right)))
      (subst (AreBest (fold (step next) (step next (fold (step next) None left) p) right)) (sym (fold-append (step next) None left right)) both)

  pub longest_fewer : (left right : List Part) (o : Option Part) → longest_at next (left ++ p ∷ right) ≡ o → (o ≡ Some p → ⊥) → longest_at next (left ++ right) ≡ o
  longest_fewer left right o is other = by (longest_both left right)
    where
      by : AreBest (longest_at next (left ++ p ∷ right)) (longest_at next (left ++ right)) → longest_at next (left ++ right) ≡ o
      by (inl same) = sym same ∙ is
      by (inr h) = absurd (other (sym is ∙ h.0))

-- ---- the parts that are taken

pub taken_fewer : (left right : List Part) (p : Part) (turns next : ℕ) (chain : List Part) → taken turns (left ++ p ∷ right) next ≡ chain → AllByRecursion (λ q. q.region ≢ p.region) chain → taken turns (left ++ right) next ≡ chain
unfolding taken
taken_fewer left right p zero next chain is other = is
taken_fewer left right p (suc turns) next chain is other = by (longest_at next (left ++ p ∷ right)) refl (λ n rest e o. taken_fewer left right p turns n rest e o)
  where
    by : (o : Option Part) → longest_at next (left ++ p ∷ right) ≡ o
        → ((n : ℕ) (rest : List Part) → taken turns (left ++ p ∷ right) n ≡ rest → AllByRecursion (λ q. q.region ≢ p.region) rest → taken turns (left ++ right) n ≡ rest) → taken (suc turns) (left ++ right) next ≡ chain
    by None none rest =
        taken_none (suc turns) (left ++ right) next (longest_fewer next p left right None none (λ e. cc)) ∙ sym (taken_none (suc turns) (left ++ p ∷ right) next none) ∙ is
    by (Some q) some rest =
        let whole : q ∷ taken turns (left ++ p ∷ right) (q.header.range.last + 1) ≡ chain = sym (taken_some turns (left ++ p ∷ right) next q some) ∙ is in
        let each = subst (AllByRecursion (λ q. q.region ≢ p.region)) (sym whole) other in
        taken_some turns (left ++ right) next q (longest_fewer next p left right (Some q) some (λ e. each.0 (let s : q ≡ p = cc in ap (λ x. x.region) s)))
        ∙ ap (λ ps. q ∷ ps) (rest (q.header.range.last + 1) (taken turns (left ++ p ∷ right) (q.header.range.last + 1)) refl each.1) ∙ whole

-- the parts that begin behind an epoch
abbrev behind : ℕ → List Part → ℕ
behind e parts = length (filter (λ p. nat_lt e p.header.range.first) parts)

cond_le : (a b : Bool) (p : Part) (xs ys : List Part) → (a ≡ true → b ≡ true) → length xs ≤ length ys → length (cond a (p ∷ xs) xs) ≤ length (cond b (p ∷ ys) ys)
cond_le true true p xs ys imply le = omega (arith, le)
cond_le true false p xs ys imply le = absurd (true≢false (sym (imply refl)))
cond_le false true p xs ys imply le = omega (arith, le)
cond_le false false p xs ys imply le = le

behind_falls : (e f : ℕ) (parts : List Part) → e ≤ f → behind f parts ≤ behind e parts
behind_falls e f [] le = omega arith
behind_falls e f (p ∷ parts) le =
    cond_le (nat_lt f p.header.range.first) (nat_lt e p.header.range.first) p (filter (λ q. nat_lt f q.header.range.first) parts) (filter (λ q. nat_lt e q.header.range.first) parts)
    (λ h. let l = ltb-true f p.header.range.first h in lt-ltb e p.header.range.first (omega (arith, l, le))) (behind_falls e f parts le)

behind_less : (e f : ℕ) (parts : List Part) → e + 1 ≤ f → list_any (λ p. p.header.range.first == e + 1) parts ≡ true → behind f parts + 1 ≤ behind e parts
behind_less e f [] le there = absurd (true≢false (sym there))
behind_less e f (p ∷ parts) le there = by (p.header.range.first == e + 1) refl there (behind_less e f parts le)
  where
    by : (t : Bool) → (p.header.range.first == e + 1) ≡ t → (t || list_any (λ p. p.header.range.first == e + 1) parts) ≡ true
        → (list_any (λ p. p.header.range.first == e + 1) parts ≡ true → behind f parts + 1 ≤ behind e parts) → behind f (p ∷ parts) + 1 ≤ behind e (p ∷ parts)
    by true here h rest =
        let at = eqb-true p.header.range.first (e + 1) here in
        let a = ap (λ t. length (cond t (p ∷ filter (λ q. nat_lt f q.header.range.first) parts) (filter (λ q. nat_lt f q.header.range.first) parts))) (le-ltb f p.header.range.first (omega (arith, at, le))) in
        let b = ap (λ t. length (cond t (p ∷ filter (λ q. nat_lt e q.header.range.first) parts) (filter (λ q. nat_lt e q.header.range.first) parts))) (lt-ltb e p.header.range.first (omega (arith, at))) in
        let m = behind_falls e f parts (omega (arith, le)) in omega (arith, a, b, m)
    by false here h rest = of (nat_lt f p.header.range.first) (nat_lt e p.header.range.first) (λ g. let l = ltb-true f p.header.range.first g in lt-ltb e p.header.range.first (omega (arith, l, le))) (rest h)
      where
        of : (s t : Bool) → (s ≡ true → t ≡ true) → behind f parts + 1 ≤ behind e parts
            → length (cond s (p ∷ filter (λ q. nat_lt f q.header.range.first) parts) (filter (λ q. nat_lt f q.header.range.first) parts)) + 1
            ≤ length (cond t (p ∷ filter (λ q. nat_lt e q.header.range.first) parts) (filter (λ q. nat_lt e q.header.range.first) parts))
        of true true imply m = omega (arith, m)
        of true false imply m = absurd (true≢false (sym (imply refl)))
        of false true imply m = omega (arith, m)
        of false false imply m = m

-- no more parts are taken than begin behind the epoch
taken_few : (turns e : ℕ) (parts : List Part) → AllByRecursion (λ p. p.header.range.first ≤ p.header.range.last) parts → length (taken turns parts (e + 1)) ≤ behind e parts
unfolding taken
taken_few zero e parts ordered = omega arith
taken_few (suc turns) e parts ordered = by (longest_at (e + 1) parts) refl (λ f. taken_few turns f parts ordered)
  where
    there : (q : Part) → longest_at (e + 1) parts ≡ Some q → list_any (λ p. p.header.range.first == e + 1) parts ≡ true
    there q some = elim (cases_Bool (list_any (λ p. p.header.range.first == e + 1) parts)) as (λ _. list_any (λ p. p.header.range.first == e + 1) parts ≡ true) [
      | inl found ↦ found
      | inr missed ↦ absurd (let n = longest_none (e + 1) parts (all_map (λ p. (p.header.range.first == e + 1) ≡ false) (λ p. p.header.range.first ≢ e + 1) (λ p h is. true≢false (sym (eq-eqb p.header.range.first (e + 1) is) ∙ h)) parts
          (any_none (λ p. p.header.range.first == e + 1) parts missed)) in let c : ◌≡◌ {A = Option Part} None (Some q) = sym n ∙ some in cc)
    ]

    by : (o : Option Part) → longest_at (e + 1) parts ≡ o → ((f : ℕ) → length (taken turns parts (f + 1)) ≤ behind f parts) → length (taken (suc turns) parts (e + 1)) ≤ behind e parts
    by None none rest = let l = ap length (taken_none (suc turns) parts (e + 1) none) in omega (arith, l)
    by (Some q) some rest =
        let l = ap length (taken_some turns parts (e + 1) q some) in
        let i = longest_is (λ p. p.header.range.first ≤ p.header.range.last) (e + 1) parts q ordered some in
        let o = i.0 in let f = i.1 in
        let r = rest q.header.range.last in
        let b = behind_less e q.header.range.last parts (omega (arith, o, f)) (there q some) in omega (arith, l, r, b)

-- so as many turns as there are parts are enough
pub enough : (turns next : ℕ) (parts : List Part) → length (taken (suc turns) parts next) ≤ turns → taken turns parts next ≡ taken (suc turns) parts next
unfolding taken
enough zero next parts few = none (taken 1 parts next) few
  where
    none : (xs : List Part) → length xs ≤ 0 → [] ≡ xs
    none [] le = refl
    none (x ∷ xs) le = absurd (omega (arith, le))
enough (suc turns) next parts few = by (longest_at next parts) refl (λ n. enough turns n parts)
  where
    by : (o : Option Part) → longest_at next parts ≡ o → ((n : ℕ) → length (taken (suc turns) parts n) ≤ turns → taken turns parts n ≡ taken (suc turns) parts n) → taken (suc turns) parts next ≡ taken (suc (suc turns)) parts next
    by None none rest = taken_none (suc turns) parts next none ∙ sym (taken_none (suc (suc turns)) parts next none)
    by (Some q) some rest =
        let l = ap length (taken_some (suc turns) parts next q some) in
        taken_some turns parts next q some ∙ ap (λ ps. q ∷ ps) (rest (q.header.range.last + 1) (omega (arith, few, l))) ∙ sym (taken_some (suc turns) parts next q some)

-- as many turns as there are parts
pub as_many_turns : (parts : List Part) → AllByRecursion (λ p. p.header.range.first ≤ p.header.range.last) parts → length (taken (suc (length parts)) parts 1) ≤ length parts
as_many_turns parts ordered =
    let f = taken_few (suc (length parts)) 0 parts ordered in let l = length-filter_le (λ q. nat_lt 0 q.header.range.first) parts in omega (arith, f, l)

-- the walk without a part that it does not take
pub walk_fewer : (left right : List Part) (p : Part) (chain : List Part) → AllByRecursion (λ q. q.header.range.first ≤ q.header.range.last) (left ++ right) → AllByRecursion (λ q. q.region ≢ p.region) chain
    → taken (length (left ++ p ∷ right)) (left ++ p ∷ right) 1 ≡ chain → taken (length (left ++ right)) (left ++ right) 1 ≡ chain
walk_fewer left right p chain ordered other is =
    let a = length-append left (p ∷ right) in let b = length-append left right in
    let n : length (left ++ p ∷ right) ≡ suc (length (left ++ right)) = omega (arith, a, b) in
    let more = taken_fewer left right p (suc (length (left ++ right))) 1 chain (ap (λ k. taken k (left ++ p ∷ right) 1) (sym n) ∙ is) other in
    enough (length (left ++ right)) 1 (left ++ right) (as_many_turns (left ++ right) ordered) ∙ more

-- The walk over the parts once a part of the epochs of neighbours stands beside them.
use Rattle.std.proofs.Common.{◌≡◌, ◌⊎◌, inl, inr, ℕ, zero, suc, ◌+◌, ◌≤◌, ◌<◌, ◌==◌, nat_le, nat_lt, Bool, true, false, cond, ◌&&◌, ◌||◌, List, [], ◌∷◌, ◌++◌, length, refl, sym, ap, ◌∙◌, subst, Option, Some, None, option_map, arith, true≢false, eq-eqb}
use Rattle.std.specs.Prelude.{fold, find}
use Rattle.std.specs.List.{AllByRecursion, list_any}
use Rattle.std.proofs.lemmas.Bool.{leb-true, le-leb, ltb-true, ltb-false, and_parts, or_left, or_right, cases_Bool, cases_lt}
use Rattle.std.proofs.lemmas.List.Folds.{list_any-append}
use Rattle.fine_model.specs.Types.{Part}
use Rattle.fine_model.specs.Types.damage
use Rattle.fine_model.specs.Chain.{later, longest_at, taken, chain_end, is_within, holds_first_of, fault_beside}
use Rattle.fine_model.specs.ChainLaws.{PartsFollow}
use Rattle.fine_model.proofs.Ordered.Sets.{all_append}
use Rattle.fine_model.proofs.Ordered.Zip.{all_left, all_right}
use Rattle.fine_model.proofs.Ordered.Nothing.{none_found, finds_none, map_none, none_any}
use Rattle.fine_model.proofs.Chain.Chains.{step, longest_other, taken_none, taken_some, end_from, follow_end}
use Rattle.fine_model.proofs.Chain.Fewer.{AreBest, longest_both, enough, as_many_turns}

-- ---- the longest part is the longest

longest_most : (next : ℕ) (parts : List Part) (best : Option Part) (q : Part) → fold (step next) best parts ≡ Some q
    → ((b : Part) → best ≡ Some b → b.header.range.last ≤ q.header.range.last) × AllByRecursion (λ p. p.header.range.first ≡ next → p.header.range.last ≤ q.header.range.last) parts
longest_most next [] best q is = (λ b e. let s : ◌≡◌ {A = Option Part} (Some b) (Some q) = sym e ∙ is in let same : b ≡ q = cc in let l = ap (λ x. x.header.range.last) same in omega (arith, l), tt)
longest_most next (p ∷ parts) best q is = by (p.header.range.first == next) refl best (longest_most next parts (step next best p) q is)
  where
    by : (t : Bool) → (p.header.range.first == next) ≡ t → (best : Option Part)
        → ((b : Part) → cond t (later best p) best ≡ Some b → b.header.range.last ≤ q.header.range.last) × AllByRecursion (λ r. r.header.range.first ≡ next → r.header.range.last ≤ q.header.range.last) parts
        → ((b : Part) → best ≡ Some b → b.header.range.last ≤ q.header.range.last) × AllByRecursion (λ r. r.header.range.first ≡ next → r.header.range.last ≤ q.header.range.last) (p ∷ parts)
    by false e best rest = (rest.0, (λ here. absurd (true≢false (sym (eq_first here) ∙ e)), rest.1))
      where
        eq_first : p.header.range.first ≡ next → (p.header.range.first == next) ≡ true
        eq_first here = eq-eqb p.header.range.first next here
    by true e None rest = (λ b is'. absurd cc, (λ here. rest.0 p refl, rest.1))
    by true e (Some w) rest = of (nat_lt w.header.range.last p.header.range.last) refl rest.0
      where
        of : (t : Bool) → nat_lt w.header.range.last p.header.range.last ≡ t → ((b : Part) → cond {A = Option Part} t (Some p) (Some w) ≡ Some b → b.header.range.last ≤ q.header.range.last)
            → ((b : Part) → Some w ≡ Some b → b.header.range.last ≤ q.header.range.last) × AllByRecursion (λ r. r.header.range.first ≡ next → r.header.range.last ≤ q.header.range.last) (p ∷ parts)
        of true f all =
            let short = all p refl in let l = ltb-true w.header.range.last p.header.range.last f in
            (λ b is'. let same : w ≡ b = cc in let s = ap (λ x. x.header.range.last) same in omega (arith, s, short, l), (λ here. short, rest.1))
        of false f all =
            let short = all w refl in let l = ltb-false w.header.range.last p.header.range.last f in
            (λ b is'. let same : w ≡ b = cc in let s = ap (λ x. x.header.range.last) same in omega (arith, s, short), (λ here. omega (arith, short, l), rest.1))

-- a part that begins where the longest one does, and ends later, is the longest
pub longest_later : (next : ℕ) (left right : List Part) (p q : Part) → longest_at next (left ++ right) ≡ Some q → p.header.range.first ≡ next → q.header.range.last < p.header.range.last
    → longest_at next (left ++ p ∷ right) ≡ Some p
unfolding longest_at
longest_later next left right p q is here above = by (longest_both next p left right)
  where
    most : longest_at next (left ++ p ∷ right) ≡ Some q → p.header.range.first ≡ next → p.header.range.last ≤ q.header.range.last
    most e = let m = (longest_most next (left ++ p ∷ right) None q e).1 in let r = all_right (λ r. r.header.range.first ≡ next → r.header.range.last ≤ q.header.range.last) left (p ∷ right) m in r.0

    by : AreBest next p (longest_at next (left ++ p ∷ right)) (longest_at next (left ++ right)) → longest_at next (left ++ p ∷ right) ≡ Some p
    by (inl same) = absurd (let m = most (same ∙ is) here in omega (arith, m, above))
    by (inr h) = h.0

-- ---- walks that end where no part goes on

-- a walk from the end of an epoch on, to where no part goes on
abbrev pub Walks : List Part → ℕ → List Part → Type 0
Walks all e [] = longest_at (e + 1) all ≡ None
Walks all e (q ∷ chain) = (longest_at (e + 1) all ≡ Some q) × Walks all q.header.range.last chain

walks_from : (turns : ℕ) (all : List Part) (e : ℕ) → length (taken (suc turns) all (e + 1)) ≤ turns → Walks all e (taken (suc turns) all (e + 1))
walks_from zero all e few = by (longest_at (e + 1) all) refl
  where
    by : (o : Option Part) → longest_at (e + 1) all ≡ o → Walks all e (taken 1 all (e + 1))
    by None none = subst (Walks all e) (sym (taken_none 1 all (e + 1) none)) none
    by (Some q) some = let l = ap length (taken_some zero all (e + 1) q some) in absurd (omega (arith, l, few))
walks_from (suc n) all e few = by (longest_at (e + 1) all) refl (λ f le. walks_from n all f le)
  where
    by : (o : Option Part) → longest_at (e + 1) all ≡ o → ((f : ℕ) → length (taken (suc n) all (f + 1)) ≤ n → Walks all f (taken (suc n) all (f + 1))) → Walks all e (taken (suc (suc n)) all (e + 1))
    by None none rest = subst (Walks all e) (sym (taken_none (suc (suc n)) all (e + 1) none)) none
    by (Some q) some rest =
        let l = ap length (taken_some (suc n) all (e + 1) q some) in
        subst (Walks all e) (sym (taken_some (suc n) all (e + 1) q some)) (some, rest q.header.range.last (omega (arith, l, few)))

pub taken_walks : (all : List Part) (e : ℕ) (chain : List Part) (turns : ℕ) → Walks all e chain → length chain ≤ turns → taken turns all (e + 1) ≡ chain
taken_walks all e [] turns walks le = taken_none turns all (e + 1) walks
taken_walks all e (q ∷ chain) zero walks le = absurd (omega (arith, le))
taken_walks all e (q ∷ chain) (suc turns) walks le = taken_some turns all (e + 1) q walks.0 ∙ ap (λ ps. q ∷ ps) (taken_walks all q.header.range.last chain turns walks.1 (omega (arith, le)))

pub walk_ends : (all chain : List Part) → AllByRecursion (λ p. p.header.range.first ≤ p.header.range.last) all → taken (length all) all 1 ≡ chain → Walks all 0 chain × (length chain ≤ length all)
walk_ends all chain ordered is =
    let few = as_many_turns all ordered in
    let same : taken (suc (length all)) all 1 ≡ chain = sym (enough (length all) 1 all few) ∙ is in
    (subst (Walks all 0) same (walks_from (length all) all 0 few), subst (λ ps. length ps ≤ length all) same few)

-- ---- the walk with the new part

module _ (left right : List Part) (p : Part) where
  abbrev few : List Part
  few = left ++ right

  abbrev all : List Part
  all = left ++ p ∷ right

  -- behind the new part the walk is the same
  walk_behind : (e : ℕ) (after : List Part) → p.header.range.first ≤ e → PartsFollow e after → Walks few e after → Walks all e after
  walk_behind e [] before follow walks = longest_other left p right (e + 1) (λ same. absurd (omega (arith, same, before))) ∙ walks
  walk_behind e (q ∷ after) before follow walks =
      let f = follow.0 in let o = follow.1 in (
        longest_other left p right (e + 1) (λ same. absurd (omega (arith, same, before))) ∙ walks.0,
        walk_behind q.header.range.last after (omega (arith, before, f, o)) follow.2 walks.1,
      )

  -- the walk past neighbours
  walk_past : (e : ℕ) (run after : List Part) → PartsFollow e (run ++ after) → Walks few e (run ++ after) → PartsFollow (end_from e run) after × Walks few (end_from e run) after
  walk_past e [] after follow walks = (follow, walks)
  walk_past e (q ∷ run) after follow walks = walk_past q.header.range.last run after follow.2 walks.1

  module _ (oldest : Part) (newer after : List Part) (first : p.header.range.first ≡ oldest.header.range.first) (last : p.header.range.last ≡ end_from oldest.header.range.last newer)
      (longer : oldest.header.range.last < p.header.range.last) (ordered : p.header.range.first ≤ p.header.range.last) where
    pub walk_replaced : (e : ℕ) (before : List Part) → PartsFollow e (before ++ ((oldest ∷ newer) ++ after)) → Walks few e (before ++ ((oldest ∷ newer) ++ after))
        → (e + 1 ≤ p.header.range.first) × Walks all e (before ++ p ∷ after)
    walk_replaced e [] follow walks =
        let f = follow.0 in
        let past = walk_past oldest.header.range.last newer after follow.2 walks.1 in (
          omega (arith, f, first),
          (
            longest_later (e + 1) left right p oldest walks.0 (omega (arith, first, f)) longer,
            walk_behind p.header.range.last after ordered (subst (λ n. PartsFollow n after) (sym last) past.0) (subst (λ n. Walks few n after) (sym last) past.1),
          ),
        )
    walk_replaced e (q ∷ before) follow walks =
        let f = follow.0 in let o = follow.1 in
        let rest = walk_replaced q.header.range.last before follow.2 walks.1 in
        let low = rest.0 in (
          omega (arith, low, f, o),
          (longest_other left p right (e + 1) (λ same. absurd (omega (arith, same, low, f, o))) ∙ walks.0, rest.1),
        )

-- ---- no fault beside the chain

-- neighbours hold each epoch between them
covered : (x : ℕ) (e : ℕ) (run : List Part) → PartsFollow e run → e < x → x ≤ end_from e run → list_any (λ c. nat_le c.header.range.first x && nat_le x c.header.range.last) run ≡ true
covered x e [] follow above below = absurd (omega (arith, above, below))
covered x e (p ∷ run) follow above below = by (cases_lt p.header.range.last x) (covered x p.header.range.last run follow.2)
  where
    by : (p.header.range.last < x) ⊎ (x ≤ p.header.range.last)
        → (p.header.range.last < x → x ≤ end_from p.header.range.last run → list_any (λ c. nat_le c.header.range.first x && nat_le x c.header.range.last) run ≡ true)
        → list_any (λ c. nat_le c.header.range.first x && nat_le x c.header.range.last) (p ∷ run) ≡ true
    by (inl behind) rest =
        or_right (nat_le p.header.range.first x && nat_le x p.header.range.last) (list_any (λ c. nat_le c.header.range.first x && nat_le x c.header.range.last) run) (rest behind below)
    by (inr here) rest =
        let f = follow.0 in
        or_left (nat_le p.header.range.first x && nat_le x p.header.range.last) (list_any (λ c. nat_le c.header.range.first x && nat_le x c.header.range.last) run)
        (ap (λ b. b && nat_le x p.header.range.last) (le-leb p.header.range.first x (omega (arith, f, above))) ∙ le-leb x p.header.range.last here)

-- and each of them lies within their epochs
within_run : (e : ℕ) (run : List Part) → PartsFollow e run → AllByRecursion (λ c. (e < c.header.range.first) × (c.header.range.last ≤ end_from e run)) run
within_run e [] follow = tt
within_run e (p ∷ run) follow =
    let f = follow.0 in let o = follow.1 in
    let ends = follow_end p.header.range.last run follow.2 in (
      (omega (arith, f), ends.0),
      all_behind run (within_run p.header.range.last run follow.2),
    )
  where
    all_behind : (some : List Part) → AllByRecursion (λ c. (p.header.range.last < c.header.range.first) × (c.header.range.last ≤ end_from p.header.range.last run)) some
        → AllByRecursion (λ c. (e < c.header.range.first) × (c.header.range.last ≤ end_from p.header.range.last run)) some
    all_behind [] each = tt
    all_behind (c ∷ some) each = let low = each.0.0 in let f = follow.0 in let o = follow.1 in ((omega (arith, low, f, o), each.0.1), all_behind some each.1)

module _ (before : List Part) (run after : List Part) (p : Part) (e : ℕ) (first : p.header.range.first ≡ e + 1) (last : p.header.range.last ≡ end_from e run) (follow : PartsFollow e run)
    (same_end : chain_end (before ++ p ∷ after) ≡ chain_end (before ++ (run ++ after))) where
  abbrev was : List Part
  was = before ++ (run ++ after)

  abbrev now : List Part
  now = before ++ p ∷ after

  -- what a part of the old chain passes, one of the new chain passes
  found : (test : Part → Bool) → AllByRecursion (λ c. test c ≡ true → test p ≡ true) run → list_any test was ≡ true → list_any test now ≡ true
  found test each there =
      list_any-append test before (p ∷ after) ∙ by (list_any test before) (list_any test after) (test p) run each
      (ap (λ b. list_any test before || b) (sym (list_any-append test run after)) ∙ sym (list_any-append test before (run ++ after)) ∙ there)
    where
      by : (a c t : Bool) (run : List Part) → AllByRecursion (λ c. test c ≡ true → t ≡ true) run → (a || (list_any test run || c)) ≡ true → (a || (t || c)) ≡ true
      by true c t run each h = refl
      by false c true run each h = refl
      by false c false [] each h = h
      by false c false (q ∷ run) each h = of (test q) refl each.0 h (by false c false run each.1)
        where
          of : (b : Bool) → test q ≡ b → (test q ≡ true → false ≡ true) → ((b || list_any test run) || c) ≡ true → ((list_any test run || c) ≡ true → c ≡ true) → c ≡ true
          of true e imply h' rest = absurd (true≢false (sym (imply e)))
          of false e imply h' rest = rest h'

  within_new : (q : Part) → AllByRecursion (λ c. is_within q c ≡ true → is_within q p ≡ true) run
  within_new q = each run (within_run e run follow)
    where
      each : (some : List Part) → AllByRecursion (λ c. (e < c.header.range.first) × (c.header.range.last ≤ end_from e run)) some → AllByRecursion (λ c. is_within q c ≡ true → is_within q p ≡ true) some
      each [] all = tt
      each (c ∷ some) all = (
        λ h. let both = and_parts (nat_le c.header.range.first q.header.range.first) (nat_le q.header.range.last c.header.range.last) h in
            let a = leb-true c.header.range.first q.header.range.first both.0 in let b = leb-true q.header.range.last c.header.range.last both.1 in
            let low = all.0.0 in let high = all.0.1 in
            ap (λ t. t && nat_le q.header.range.last p.header.range.last) (le-leb p.header.range.first q.header.range.first (omega (arith, a, low, first)))
            ∙ le-leb q.header.range.last p.header.range.last (omega (arith, b, high, last)),
        each some all.1,
      )

  within_none : (chain : List Part) (q : Part) → list_any (is_within q) chain ≡ true → fault_beside chain q ≡ None
  unfolding fault_beside
  within_none chain q within = rw within refl

  -- the new part lies within itself
  pub no_fault_itself : fault_beside now p ≡ None
  no_fault_itself =
      within_none now p
      (list_any-append (is_within p) before (p ∷ after)
      ∙ or_right (list_any (is_within p) before) (list_any (is_within p) (p ∷ after)) (or_left (is_within p p) (list_any (is_within p) after)
      (ap (λ b. b && nat_le p.header.range.last p.header.range.last) (le-leb p.header.range.first p.header.range.first (omega arith)) ∙ le-leb p.header.range.last p.header.range.last (omega arith))))

  pub no_fault_now : (q : Part) → fault_beside was q ≡ None → fault_beside now q ≡ None
  unfolding fault_beside
  no_fault_now q none = by (list_any (is_within q) was) refl none
    where
      -- no part of the new chain holds the first epoch of a part, where none of the old chain does
      none_holds : find (holds_first_of q) was ≡ None → find (holds_first_of q) now ≡ None
      none_holds none' =
          let each = none_found (holds_first_of q) was none' in
          let back = all_right (λ c. holds_first_of q c ≡ false) before (run ++ after) each in
          finds_none (holds_first_of q) now
          (all_append (λ c. holds_first_of q c ≡ false) before (p ∷ after) (all_left (λ c. holds_first_of q c ≡ false) before (run ++ after) each)
          (not_new (all_left (λ c. holds_first_of q c ≡ false) run after back), all_right (λ c. holds_first_of q c ≡ false) run after back))
        where
          not_new : AllByRecursion (λ c. holds_first_of q c ≡ false) run → holds_first_of q p ≡ false
          not_new clear = of (holds_first_of q p) refl
            where
              of : (b : Bool) → holds_first_of q p ≡ b → holds_first_of q p ≡ false
              of false h = h
              of true h =
                  let both = and_parts (nat_le p.header.range.first q.header.range.first) (nat_le q.header.range.first p.header.range.last) h in
                  let a = leb-true p.header.range.first q.header.range.first both.0 in let b = leb-true q.header.range.first p.header.range.last both.1 in
                  absurd (true≢false (sym (covered q.header.range.first e run follow (omega (arith, a, first)) (omega (arith, b, last))) ∙ none_any (holds_first_of q) run clear))

      gap : list_any (is_within q) now ≡ false → (t : Bool) → nat_lt (chain_end was) q.header.range.first ≡ t
          → cond t (Some (damage.Gap (chain_end was) q.region)) (option_map (λ r. damage.Overlap q.region r.region) (find (holds_first_of q) was)) ≡ None → fault_beside now q ≡ None
      gap outside true e' h = absurd cc
      gap outside false e' h = rw (outside, ap (λ n. nat_lt n q.header.range.first) same_end ∙ e', none_holds (map_none (λ r. damage.Overlap q.region r.region) (find (holds_first_of q) was) h)) refl

      by : (t : Bool) → list_any (is_within q) was ≡ t
          → cond t None (cond (nat_lt (chain_end was) q.header.range.first) (Some (damage.Gap (chain_end was) q.region)) (option_map (λ r. damage.Overlap q.region r.region) (find (holds_first_of q) was))) ≡ None
          → fault_beside now q ≡ None
      by true e' h = within_none now q (found (is_within q) (within_new q) e')
      by false e' h = of (cases_Bool (list_any (is_within q) now))
        where
          of : (list_any (is_within q) now ≡ true) ⊎ (list_any (is_within q) now ≡ false) → fault_beside now q ≡ None
          of (inl inside) = within_none now q inside
          of (inr outside) = gap outside (nat_lt (chain_end was) q.header.range.first) refl h

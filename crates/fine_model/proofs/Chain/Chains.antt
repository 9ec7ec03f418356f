-- The walk from part to part that a chain is.
use Rattle.std.proofs.Common.{◌≡◌, ◌≢◌, ℕ, zero, suc, ◌+◌, ◌≤◌, ◌==◌, nat_le, nat_lt, Bool, true, false, cond, ◌||◌, List, [], ◌∷◌, ◌++◌, length, refl, sym, ap, ◌∙◌, subst, Some, None, Ok, arith, true≢false, eqb-true, eq-eqb, ne_eqb}
use Rattle.std.specs.Prelude.{Option, fold, find, filter_map, option_map}
use Rattle.std.specs.List.{AllByRecursion, list_any}
use Rattle.std.proofs.lemmas.Bool.{leb-true, ltb-false, and_parts}
use Rattle.std.proofs.lemmas.List.Sums.{fold-append}
use Rattle.fine_model.specs.Types.{Part, Damage}
use Rattle.fine_model.specs.Types.damage
use Rattle.fine_model.specs.Chain.{first_fault, later, longest_at, taken, chain_end, is_within, holds_first_of, fault_beside, chain_of}
use Rattle.fine_model.specs.ChainLaws.{PartsFollow}
use Rattle.fine_model.proofs.Ordered.Nothing.{none_kept, keeps_none}

-- ---- the longest part at an epoch

abbrev pub step : ℕ → Option Part → Part → Option Part
step next best p = cond (p.header.range.first == next) (later best p) best

later_all : (P : Part → Type 0) (best : Option Part) (p q : Part) → ((b : Part) → best ≡ Some b → P b) → P p → later best p ≡ Some q → P q
later_all P None p q was here is = let e : p ≡ q = cc in subst P e here
later_all P (Some b) p q was here is = by (nat_lt b.header.range.last p.header.range.last) is
  where
    by : (t : Bool) → cond {A = Option Part} t (Some p) (Some b) ≡ Some q → P q
    by true e = let f : p ≡ q = cc in subst P f here
    by false e = was q e

-- what is found begins at the epoch, and is one of the parts
longest_all : (P : Part → Type 0) (next : ℕ) (parts : List Part) (best : Option Part) (q : Part) → AllByRecursion P parts
    → ((b : Part) → best ≡ Some b → P b × (b.header.range.first ≡ next)) → fold (step next) best parts ≡ Some q → P q × (q.header.range.first ≡ next)
longest_all P next [] best q all was is = was q is
longest_all P next (p ∷ parts) best q all was is = longest_all P next parts (step next best p) q all.1 (λ b e. by (p.header.range.first == next) refl b e) is
  where
    by : (t : Bool) → (p.header.range.first == next) ≡ t → (b : Part) → cond t (later best p) best ≡ Some b → P b × (b.header.range.first ≡ next)
    by true here b e = later_all (λ b. P b × (b.header.range.first ≡ next)) best p b was (all.0, eqb-true p.header.range.first next here) e
    by false other b e = was b e

pub longest_is : (P : Part → Type 0) (next : ℕ) (parts : List Part) (q : Part) → AllByRecursion P parts → longest_at next parts ≡ Some q → P q × (q.header.range.first ≡ next)
unfolding longest_at
longest_is P next parts q all is = longest_all P next parts None q all (λ b e. absurd cc) is

none_longer : (next : ℕ) (parts : List Part) (best : Option Part) → AllByRecursion (λ p. p.header.range.first ≢ next) parts → fold (step next) best parts ≡ best
none_longer next [] best all = refl
none_longer next (p ∷ parts) best all = ap (λ t. fold (step next) (cond t (later best p) best) parts) (ne_eqb p.header.range.first next all.0) ∙ none_longer next parts best all.1

pub longest_none : (next : ℕ) (parts : List Part) → AllByRecursion (λ p. p.header.range.first ≢ next) parts → longest_at next parts ≡ None
unfolding longest_at
longest_none next parts all = none_longer next parts None all

module _ (left : List Part) (p : Part) (right : List Part) where
  round : (next : ℕ) → longest_at next (left ++ p ∷ right) ≡ fold (step next) (step next (longest_at next left) p) right
  unfolding longest_at
  round next = fold-append (step next) None left (p ∷ right)

  -- one part more, that begins at another epoch, and the only one that begins there
  pub longest_other : (next : ℕ) → p.header.range.first ≢ next → longest_at next (left ++ p ∷ right) ≡ longest_at next (left ++ right)
  unfolding longest_at
  longest_other next other =
      round next ∙ ap (λ t. fold (step next) (cond t (later (longest_at next left) p) (longest_at next left)) right) (ne_eqb p.header.range.first next other)
      ∙ sym (fold-append (step next) None left right)

  pub longest_only : (next : ℕ) → p.header.range.first ≡ next → AllByRecursion (λ q. q.header.range.first ≢ next) left → AllByRecursion (λ q. q.header.range.first ≢ next) right → longest_at next (left ++ p ∷ right) ≡ Some p
  longest_only next here no_left no_right =
      round next ∙ ap (λ best. fold (step next) (step next best p) right) (longest_none next left no_left)
      ∙ ap (λ t. fold (step next) (cond {A = Option Part} t (Some p) None) right) (eq-eqb p.header.range.first next here) ∙ none_longer next right (Some p) no_right

-- ---- parts taken one after the other

pub taken_none : (turns : ℕ) (parts : List Part) (next : ℕ) → longest_at next parts ≡ None → taken turns parts next ≡ []
unfolding taken
taken_none zero parts next none = refl
taken_none (suc turns) parts next none = rw none refl

pub taken_some : (turns : ℕ) (parts : List Part) (next : ℕ) (p : Part) → longest_at next parts ≡ Some p → taken (suc turns) parts next ≡ p ∷ taken turns parts (p.header.range.last + 1)
unfolding taken
taken_some turns parts next p some = rw some refl

abbrev pub end_from : ℕ → List Part → ℕ
end_from e parts = fold (λ e p. p.header.range.last) e parts

pub taken_follow : (turns : ℕ) (parts : List Part) (e : ℕ) → AllByRecursion (λ p. p.header.range.first ≤ p.header.range.last) parts → PartsFollow e (taken turns parts (e + 1))
unfolding taken
taken_follow zero parts e ordered = tt
taken_follow (suc turns) parts e ordered = by (longest_at (e + 1) parts) refl (λ last. taken_follow turns parts last ordered)
  where
    by : (o : Option Part) → longest_at (e + 1) parts ≡ o → ((last : ℕ) → PartsFollow last (taken turns parts (last + 1))) → PartsFollow e (taken (suc turns) parts (e + 1))
    by None none rest = subst (PartsFollow e) (sym (taken_none (suc turns) parts (e + 1) none)) tt
    by (Some p) some rest =
        let is = longest_is (λ p. p.header.range.first ≤ p.header.range.last) (e + 1) parts p ordered some in
        subst (PartsFollow e) (sym (taken_some turns parts (e + 1) p some)) (is.1, is.0, rest p.header.range.last)

-- what is taken are parts
pub taken_all : (P : Part → Type 0) (turns : ℕ) (parts : List Part) (next : ℕ) → AllByRecursion P parts → AllByRecursion P (taken turns parts next)
unfolding taken
taken_all P zero parts next all = tt
taken_all P (suc turns) parts next all = by (longest_at next parts) refl (λ n. taken_all P turns parts n all)
  where
    by : (o : Option Part) → longest_at next parts ≡ o → ((n : ℕ) → AllByRecursion P (taken turns parts n)) → AllByRecursion P (taken (suc turns) parts next)
    by None none rest = subst (AllByRecursion P) (sym (taken_none (suc turns) parts next none)) tt
    by (Some p) some rest = subst (AllByRecursion P) (sym (taken_some turns parts next p some)) ((longest_is P next parts p all some).0, rest (p.header.range.last + 1))

-- parts that follow end where the last one ends, and none of them later
pub follow_end : (e : ℕ) (parts : List Part) → PartsFollow e parts → (e ≤ end_from e parts) × AllByRecursion (λ p. p.header.range.last ≤ end_from e parts) parts
follow_end e [] follow = (omega arith, tt)
follow_end e (p ∷ parts) follow =
    let rest = follow_end p.header.range.last parts follow.2 in
    let here = rest.0 in let f = follow.0 in let o = follow.1 in (omega (arith, here, f, o), (here, rest.1))

-- ---- a chain without faults

pub no_fault : (ds : List Damage) (parts chain : List Part) → first_fault ds parts ≡ Ok chain → (ds ≡ []) × (parts ≡ chain)
no_fault [] parts chain is = (refl, cc)
no_fault (d ∷ ds) parts chain is = absurd cc

pub record Walked (parts chain : List Part) : Type 0 where
  pub walk : taken (length parts) parts 1 ≡ chain
  pub faultless : AllByRecursion (λ p. fault_beside chain p ≡ None) parts

pub walked : (parts chain : List Part) → chain_of parts ≡ Ok chain → Walked parts chain
unfolding chain_of
walked parts chain is =
    let both = no_fault (filter_map (fault_beside (taken (length parts) parts 1)) parts) (taken (length parts) parts 1) chain is in record {
      walk = both.1;
      faultless = subst (λ c. AllByRecursion (λ p. fault_beside c p ≡ None) parts) both.1 (none_kept (fault_beside (taken (length parts) parts 1)) parts both.0);
    }

pub walks : (parts chain : List Part) → Walked parts chain → chain_of parts ≡ Ok chain
unfolding chain_of
walks parts chain w =
    ap (λ c. first_fault (filter_map (fault_beside c) parts) c) w.walk ∙ ap (λ ds. first_fault ds chain) (keeps_none (fault_beside chain) parts w.faultless)

module _ (chain : List Part) (follow : PartsFollow 0 chain) where
  within_end : (p : Part) (parts : List Part) → AllByRecursion (λ q. q.header.range.last ≤ chain_end chain) parts → list_any (is_within p) parts ≡ true → p.header.range.last ≤ chain_end chain
  within_end p [] all there = absurd (true≢false (sym there))
  within_end p (q ∷ parts) all there = by (is_within p q) refl there (within_end p parts all.1)
    where
      by : (t : Bool) → is_within p q ≡ t → (t || list_any (is_within p) parts) ≡ true → (list_any (is_within p) parts ≡ true → p.header.range.last ≤ chain_end chain) → p.header.range.last ≤ chain_end chain
      by true e h rest = let l = leb-true p.header.range.last q.header.range.last (and_parts (nat_le q.header.range.first p.header.range.first) (nat_le p.header.range.last q.header.range.last) e).1 in omega (arith, l, all.0)
      by false e h rest = rest h

  -- no part begins behind a chain without faults
  pub begins_before : (p : Part) → p.header.range.first ≤ p.header.range.last → fault_beside chain p ≡ None → p.header.range.first ≤ chain_end chain
  unfolding fault_beside
  begins_before p ordered none = by (list_any (is_within p) chain) refl none
    where
      gap : (t : Bool) → nat_lt (chain_end chain) p.header.range.first ≡ t
          → cond t (Some (damage.Gap (chain_end chain) p.region)) (option_map (λ q. damage.Overlap p.region q.region) (find (holds_first_of p) chain)) ≡ None → p.header.range.first ≤ chain_end chain
      gap true e h = absurd cc
      gap false e h = ltb-false (chain_end chain) p.header.range.first e

      by : (t : Bool) → list_any (is_within p) chain ≡ t
          → cond t None (cond (nat_lt (chain_end chain) p.header.range.first) (Some (damage.Gap (chain_end chain) p.region)) (option_map (λ q. damage.Overlap p.region q.region) (find (holds_first_of p) chain))) ≡ None
          → p.header.range.first ≤ chain_end chain
      by true e h = let l = within_end p chain (follow_end 0 chain follow).1 e in omega (arith, l, ordered)
      by false e h = gap (nat_lt (chain_end chain) p.header.range.first) refl h

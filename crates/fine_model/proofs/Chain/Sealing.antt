-- A free region that becomes a partition of the next epochs.
use Rattle.std.proofs.Common.{◌≡◌, ◌≢◌, ℕ, zero, suc, ◌+◌, ◌<◌, ◌≤◌, nat_le, Bool, true, false, cond, ◌&&◌, ◌||◌, List, [], ◌∷◌, ◌++◌, refl, sym, ap, ◌∙◌, subst, Some, None, arith}
use Rattle.std.specs.Prelude.{Option, filter, find}
use Rattle.std.specs.List.{AllByRecursion, list_any}
use Rattle.std.proofs.lemmas.Bool.{lt-leb, le-ltb, le-leb}
use Rattle.std.proofs.lemmas.List.Folds.{list_any-append}
use Rattle.std.proofs.lemmas.List.Sums.{fold-append}
use Rattle.fine_model.specs.Types.{Part}
use Rattle.fine_model.specs.Types.damage
use Rattle.fine_model.specs.Chain.{taken, chain_end, is_within, holds_first_of, longest_at, fault_beside, chain}
use Rattle.fine_model.proofs.Ordered.Order.{all_map}
use Rattle.fine_model.proofs.Ordered.Sets.{all_append}
use Rattle.fine_model.proofs.Ordered.Zip.{all_left, all_right}
use Rattle.fine_model.proofs.Ordered.Nothing.{map_none, finds_none, none_found}
use Rattle.fine_model.proofs.Chain.Chains.{longest_is, longest_none, longest_other, longest_only, taken_none, taken_some, end_from}

pub any_without : {A : Type 0} (p : A → Bool) (left : List A) (x : A) (right : List A) → p x ≡ false → list_any p (left ++ x ∷ right) ≡ list_any p (left ++ right)
any_without p left x right none =
    list_any-append p left (x ∷ right) ∙ ap (λ b. list_any p left || (b || list_any p right)) none ∙ sym (list_any-append p left right)

pub filter_twice : {A : Type 0} (p q : A → Bool) (xs : List A) → filter (λ x. p x && q x) xs ≡ filter q (filter p xs)
filter_twice p q [] = refl
filter_twice {A} p q (x ∷ xs) = by (p x) (filter_twice p q xs)
  where
    by : (b : Bool) → filter (λ y. p y && q y) xs ≡ filter q (filter p xs) → cond (b && q x) (x ∷ filter (λ y. p y && q y) xs) (filter (λ y. p y && q y) xs) ≡ filter q (cond b (x ∷ filter p xs) (filter p xs))
    by true rest = ap (λ ys. cond (q x) (x ∷ ys) ys) rest
    by false rest = rest

pub round : {A : Type 0} (P : A → Type 0) (left : List A) (x : A) (right : List A) → AllByRecursion P (left ++ right) → P x → AllByRecursion P (left ++ x ∷ right)
round P left x right all here = all_append P left (x ∷ right) (all_left P left right all) (here, all_right P left right all)

-- ---- the walk over one part more, that begins behind the chain's end

module _ (left right : List Part) (p : Part) (end : ℕ) (first : p.header.range.first ≡ end + 1) (ordered : p.header.range.first ≤ p.header.range.last)
    (others : AllByRecursion (λ q. q.header.range.first ≤ end) (left ++ right)) where
  abbrev few : List Part
  few = left ++ right

  abbrev more : List Part
  more = left ++ p ∷ right

  no_other : (next : ℕ) → end < next → AllByRecursion (λ q. q.header.range.first ≢ next) few
  no_other next behind = all_map (λ q. q.header.range.first ≤ end) (λ q. q.header.range.first ≢ next) (λ q h e. absurd (omega (arith, h, e, behind))) few others

  -- at the end it is the part's turn, and then none is left
  at_end : (turns e : ℕ) → e ≡ end → taken (suc turns) more (e + 1) ≡ p ∷ []
  at_end turns e is =
      let no = no_other (e + 1) (omega (arith, is)) in
      let last = no_other (p.header.range.last + 1) (omega (arith, first, ordered)) in
      taken_some turns more (e + 1) p
      (longest_only left p right (e + 1) (omega (arith, first, is)) (all_left (λ q. q.header.range.first ≢ e + 1) left right no) (all_right (λ q. q.header.range.first ≢ e + 1) left right no))
      ∙ ap (λ ps. p ∷ ps) (taken_none turns more (p.header.range.last + 1)
      (longest_none (p.header.range.last + 1) more (round (λ q. q.header.range.first ≢ p.header.range.last + 1) left p right last (λ e. absurd (omega (arith, ordered, e))))))

  pub taken_more : (turns e : ℕ) → end_from e (taken turns few (e + 1)) ≡ end → taken (suc turns) more (e + 1) ≡ taken turns few (e + 1) ++ p ∷ []
  unfolding taken
  taken_more zero e is = at_end zero e is
  taken_more (suc turns) e is = by (longest_at (e + 1) few) refl (λ last ends. taken_more turns last ends)
    where
      by : (o : Option Part) → longest_at (e + 1) few ≡ o → ((last : ℕ) → end_from last (taken turns few (last + 1)) ≡ end → taken (suc turns) more (last + 1) ≡ taken turns few (last + 1) ++ p ∷ [])
          → taken (suc (suc turns)) more (e + 1) ≡ taken (suc turns) few (e + 1) ++ p ∷ []
      by None none rest =
          let stop = taken_none (suc turns) few (e + 1) none in
          at_end (suc turns) e (sym (ap (end_from e) stop) ∙ is) ∙ ap (λ ps. ps ++ p ∷ []) (sym stop)
      by (Some q) some rest =
          let go = taken_some turns few (e + 1) q some in
          let found = longest_is (λ q. q.header.range.first ≤ end) (e + 1) few q others some in
          let low = found.0 in let here = found.1 in
          taken_some (suc turns) more (e + 1) q (longest_other left p right (e + 1) (λ same. absurd (omega (arith, same, first, low, here))) ∙ some)
          ∙ ap (λ ps. q ∷ ps) (rest q.header.range.last (sym (ap (end_from e) go) ∙ is)) ∙ ap (λ ps. ps ++ p ∷ []) (sym go)

-- ---- no fault beside the longer chain

module _ (chain : List Part) (p : Part) (first : p.header.range.first ≡ chain_end chain + 1) (ordered : p.header.range.first ≤ p.header.range.last) where
  abbrev longer : List Part
  longer = chain ++ p ∷ []

  pub end_is : chain_end longer ≡ p.header.range.last
  end_is = fold-append (λ e q. q.header.range.last) 0 chain (p ∷ [])

  fault_within : (chain : List Part) (q : Part) → list_any (is_within q) chain ≡ true → fault_beside chain q ≡ None
  unfolding fault_beside
  fault_within chain q within = rw within refl

  pub itself : fault_beside longer p ≡ None
  itself = fault_within longer p
      (list_any-append (is_within p) chain (p ∷ [])
      ∙ ap (λ b. list_any (is_within p) chain || (b || false)) (ap (λ b. b && nat_le p.header.range.last p.header.range.last) (le-leb p.header.range.first p.header.range.first (omega arith)) ∙ le-leb p.header.range.last p.header.range.last (omega arith))
      ∙ or_true (list_any (is_within p) chain))
    where
      or_true : (b : Bool) → (b || true) ≡ true
      or_true true = refl
      or_true false = refl

  pub no_fault_beside : (q : Part) → q.header.range.first ≤ chain_end chain → fault_beside chain q ≡ None → fault_beside longer q ≡ None
  unfolding fault_beside
  no_fault_beside q low none = by (list_any (is_within q) chain) refl
    where
      not_here : nat_le p.header.range.first q.header.range.first ≡ false
      not_here = lt-leb p.header.range.first q.header.range.first (omega (arith, low, first))

      clear : list_any (is_within q) chain ≡ false → list_any (is_within q) longer ≡ false
      clear e = list_any-append (is_within q) chain (p ∷ []) ∙ ap (λ b. b || (is_within q p || false)) e ∙ ap (λ b. (b && nat_le q.header.range.last p.header.range.last) || false) not_here

      none_holds : list_any (is_within q) chain ≡ false → find (holds_first_of q) chain ≡ None
      none_holds e = map_none (λ r. damage.Overlap q.region r.region) (find (holds_first_of q) chain)
          (sym (rw (e, le-ltb (chain_end chain) q.header.range.first low) refl) ∙ none)

      still_none : list_any (is_within q) chain ≡ false → find (holds_first_of q) longer ≡ None
      still_none e = finds_none (holds_first_of q) longer
          (all_append (λ r. holds_first_of q r ≡ false) chain (p ∷ []) (none_found (holds_first_of q) chain (none_holds e)) (ap (λ b. b && nat_le q.header.range.first p.header.range.last) not_here, tt))

      by : (t : Bool) → list_any (is_within q) chain ≡ t → fault_beside longer q ≡ None
      by true e = fault_within longer q (list_any-append (is_within q) chain (p ∷ []) ∙ ap (λ b. b || (is_within q p || false)) e)
      by false e =
          let low' : q.header.range.first ≤ chain_end longer = subst (λ n. q.header.range.first ≤ n) (sym end_is) (omega (arith, low, first, ordered)) in
          rw (clear e, le-ltb (chain_end longer) q.header.range.first low', still_none e) refl

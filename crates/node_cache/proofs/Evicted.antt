-- Published nodes that are taken out, the least recently used first.
use Rattle.std.proofs.Common.{◌≡◌, ℕ, ◌-◌, ◌<◌, ◌≤◌, Bool, true, false, cond, not, ◌&&◌, if◌then◌else◌, List, [], ◌∷◌, nat_le, nat_lt, nat_eq, count_by, Option, Some, None, IfSome, ◌+◌, subst, true≢false, refl, sym, ap, ◌∙◌, arith}
use Rattle.std.specs.List.{AllByRecursion, IsDistinct}
use Rattle.std.specs.Map.{keys_of, lookup}
use Rattle.std.proofs.lemmas.Bool.{cond-true, cond-false, eqb-true, ltb-true, ltb-false, leb-true}
use Rattle.std.proofs.lemmas.List.Sums.{sum_by-cons}
use Rattle.std.specs.Map.Calls.{RetainsPairs}
use Rattle.node_cache.specs.declared.cached.Cached.{Cached}
use Rattle.node_cache.specs.Entries.{is_published, without_first}

abbrev goes : ℕ → ℕ → Cached → Bool
goes published n kept = nat_le kept.epoch published && nat_lt 0 n

-- what is published is not above
not_above : {published : ℕ} (epoch n : ℕ) → (nat_le epoch published && nat_lt 0 n) ≡ true → published < epoch → ⊥
not_above {published} epoch n out above = by (nat_le epoch published) refl out
  where
    by : (b : Bool) → nat_le epoch published ≡ b → (b && nat_lt 0 n) ≡ true → ⊥
    by true is out = omega (arith, leb-true epoch published is)
    by false is out = true≢false (sym out)

module _ {F : Type 0} (T : F → ℕ → Cached → Bool → Cached → F → Type 0) (left limit : F → ℕ) (published : ℕ)
    (says : (f : F) (k : ℕ) (v : Cached) (b : Bool) (w : Cached) (g : F) → limit f ≡ published → T f k v b w g
    → (b ≡ not (goes published (left f) v)) × (w ≡ v) × (left g ≡ (if goes published (left f) v then left f - 1 else left f)) × (limit g ≡ published)) where
  -- what a `retain` leaves that takes out published nodes as long as some are left to be taken out
  pub retained : (f : F) (es kept : List (ℕ × Cached)) → limit f ≡ published → RetainsPairs T f es kept → kept ≡ without_first published (left f) es
  retained f [] kept set h = h
  retained f (e ∷ es) kept set h =
      let s = says f e.0 e.1 h.0 h.1 h.2 set h.4 in
      h.6 ∙ by (goes published (left f) e.1) s.0 s.2 (retained h.2 es h.3 s.3 h.5)
    where
      by : (b : Bool) → h.0 ≡ not b → left h.2 ≡ (if b then left f - 1 else left f) → h.3 ≡ without_first published (left h.2) es
          → cond h.0 ((e.0, h.1) ∷ h.3) h.3 ≡ cond b (without_first published (left f - 1) es) (e ∷ without_first published (left f) es)
      by true answer then_left rest = ap (λ a. cond a ((e.0, h.1) ∷ h.3) h.3) answer ∙ rest ∙ ap (λ n. without_first published n es) then_left
      by false answer then_left rest = ap (λ a. cond a ((e.0, h.1) ∷ h.3) h.3) answer
          ∙ (λ i. (e.0, (says f e.0 e.1 h.0 h.1 h.2 set h.4).1 i) ∷ (rest ∙ ap (λ n. without_first published n es) then_left) i)

-- none is taken out where none is to be
pub without_none : (published : ℕ) (es : List (ℕ × Cached)) → without_first published 0 es ≡ es
without_none published [] = refl
without_none published (e ∷ es) = by (is_published published e) (without_none published es)
  where
    by : (b : Bool) → without_first published 0 es ≡ es → (if b && nat_lt 0 0 then without_first published (0 - 1) es else e ∷ without_first published 0 es) ≡ e ∷ es
    by true rest = ap (λ l. e ∷ l) rest
    by false rest = ap (λ l. e ∷ l) rest

module _ (published : ℕ) where
  -- what is not there does not come back
  gone : (q n : ℕ) (es : List (ℕ × Cached)) → AllByRecursion (λ m. nat_eq q m ≡ false) (keys_of es) → lookup (nat_eq q) (without_first published n es) ≡ None
  gone q n [] apart = refl
  gone q n (e ∷ es) apart = by (goes published n e.1) (gone q (n - 1) es apart.1) (gone q n es apart.1)
    where
      by : (b : Bool) → lookup (nat_eq q) (without_first published (n - 1) es) ≡ None → lookup (nat_eq q) (without_first published n es) ≡ None
          → lookup (nat_eq q) (if b then without_first published (n - 1) es else e ∷ without_first published n es) ≡ None
      by true rest rest' = rest
      by false rest rest' = cond-false (nat_eq q e.0) (Some e.1) (lookup (nat_eq q) (without_first published n es)) apart.0 ∙ rest'

  -- a node that is not published stays
  pub stays : (q n : ℕ) (es : List (ℕ × Cached)) → IfSome (lookup (nat_eq q) es) (λ kept. published < kept.epoch → lookup (nat_eq q) (without_first published n es) ≡ Some kept)
  stays q n [] = tt
  stays q n (e ∷ es) = by (nat_eq q e.0) refl (goes published n e.1) refl (stays q (n - 1) es) (stays q n es)
    where
      Stays : Option Cached → List (ℕ × Cached) → Type 0
      Stays o fs = IfSome o (λ kept. published < kept.epoch → lookup (nat_eq q) fs ≡ Some kept)

      behind : nat_eq q e.0 ≡ false → (o : Option Cached) (fs : List (ℕ × Cached)) → Stays o fs → Stays o (e ∷ fs)
      behind differs None fs h = tt
      behind differs (Some kept) fs h = λ above. cond-false (nat_eq q e.0) (Some e.1) (lookup (nat_eq q) fs) differs ∙ h above

      by : (s : Bool) → nat_eq q e.0 ≡ s → (b : Bool) → goes published n e.1 ≡ b → Stays (lookup (nat_eq q) es) (without_first published (n - 1) es) → Stays (lookup (nat_eq q) es) (without_first published n es)
          → Stays (cond s (Some e.1) (lookup (nat_eq q) es)) (if b then without_first published (n - 1) es else e ∷ without_first published n es)
      by true equal true out rest rest' = λ above. absurd (not_above e.1.epoch n out above)
      by true equal false out rest rest' = λ above. cond-true (nat_eq q e.0) (Some e.1) (lookup (nat_eq q) (without_first published n es)) equal
      by false differs true out rest rest' = rest
      by false differs false out rest rest' = behind differs (lookup (nat_eq q) es) (without_first published n es) rest'

  -- and what is there then is what was there
  pub unchanged : (q n : ℕ) (es : List (ℕ × Cached)) → IsDistinct nat_eq (keys_of es) → IfSome (lookup (nat_eq q) (without_first published n es)) (λ kept. lookup (nat_eq q) es ≡ Some kept)
  unfolding IsDistinct
  unchanged q n [] d = tt
  unchanged q n (e ∷ es) d = by (nat_eq q e.0) refl (goes published n e.1) (unchanged q (n - 1) es d.1) (unchanged q n es d.1)
    where
      Was : Option Cached → Option Cached → Type 0
      Was was o = IfSome o (λ kept. was ≡ Some kept)

      none : nat_eq q e.0 ≡ true → lookup (nat_eq q) (without_first published (n - 1) es) ≡ None
      none equal = gone q (n - 1) es (subst (λ j. AllByRecursion (λ m. nat_eq j m ≡ false) (keys_of es)) (sym (eqb-true q e.0 equal)) d.0)

      by : (s : Bool) → nat_eq q e.0 ≡ s → (b : Bool) → Was (lookup (nat_eq q) es) (lookup (nat_eq q) (without_first published (n - 1) es)) → Was (lookup (nat_eq q) es) (lookup (nat_eq q) (without_first published n es))
          → Was (cond s (Some e.1) (lookup (nat_eq q) es)) (lookup (nat_eq q) (if b then without_first published (n - 1) es else e ∷ without_first published n es))
      by true equal true rest rest' = subst (Was (Some e.1)) (sym (none equal)) tt
      by true equal false rest rest' = subst (Was (Some e.1)) (sym (cond-true (nat_eq q e.0) (Some e.1) (lookup (nat_eq q) (without_first published n es)) equal)) refl
      by false differs true rest rest' = rest
      by false differs false rest rest' = subst (Was (lookup (nat_eq q) es)) (sym (cond-false (nat_eq q e.0) (Some e.1) (lookup (nat_eq q) (without_first published n es)) differs)) rest'

  -- so many are fewer
  counted : (n : ℕ) (es : List (ℕ × Cached)) → count_by (is_published published) (without_first published n es) ≡ count_by (is_published published) es - n
  counted n [] = omega arith
  counted n (e ∷ es) = by (is_published published e) refl (nat_lt 0 n) refl (counted (n - 1) es) (counted n es)
    where
      count : List (ℕ × Cached) → ℕ
      count fs = count_by (is_published published) fs

      one : (b : Bool) → is_published published e ≡ b → (fs : List (ℕ × Cached)) → count (e ∷ fs) ≡ cond b 1 0 + count fs
      one b is fs = sum_by-cons (λ x. cond (is_published published x) 1 0) e fs ∙ ap (λ d. cond d 1 0 + count fs) is

      by : (b : Bool) → is_published published e ≡ b → (c : Bool) → nat_lt 0 n ≡ c → count (without_first published (n - 1) es) ≡ count es - (n - 1) → count (without_first published n es) ≡ count es - n
          → count (if b && c then without_first published (n - 1) es else e ∷ without_first published n es) ≡ count (e ∷ es) - n
      by true is true left rest rest' = omega (arith, rest, one true is es, ltb-true 0 n left)
      by true is false left rest rest' = omega (arith, rest', one true is (without_first published n es), one true is es, ltb-false 0 n left)
      by false is c left rest rest' = omega (arith, rest', one false is (without_first published n es), one false is es)

  pub few : (keep : ℕ) (es : List (ℕ × Cached)) → count_by (is_published published) (without_first published (count_by (is_published published) es - keep) es) ≤ keep
  few keep es = omega (arith, counted (count_by (is_published published) es - keep) es)

-- The first original and the others.
use Rattle.std.proofs.Common.{◌≡◌, ℕ, Bool, true, false, cond, List, [], ◌∷◌, ◌++◌, Option, Some, None, Result, Ok, Err, OnOk, OnErr, IfSome, is_some, nat_eq, eqb-true, true≢false, refl, sym, ap, subst, ◌∙◌}
use Rattle.std.specs.List.{AllByRecursion, IsDistinct}
use Rattle.std.specs.Map.{keys_of, lookup}
use Rattle.std.specs.Option.{option_to_list}
use Rattle.std.proofs.lemmas.Bool.{cond-false}
use Rattle.node_cache.specs.declared.cached.Cached.{Cached}
use Rattle.node_cache.specs.declared.original.Original.{Original}
use Rattle.node_cache.specs.declared.original.Original.TheVariants as original
use Rattle.node_cache.specs.declared.saved.Saved.{Saved}
use Rattle.node_cache.specs.declared.undo.UndoLog.{UndoLog}
use Rattle.node_cache.specs.Originals.{noted, noted_at, whole_at, with_change, Stands, IsKept}
use Rattle.node_cache.specs.Saves.{saved_in, IsOnce}
use Rattle.node_cache.proofs.Kept.{other_pushed, other_set, other_whole, stands_but}
use Rattle.node_cache.proofs.Restored.{found_last}

abbrev Originals : Type 0
Originals = List (ℕ × Original)

-- what is not found has no key
absent : (t : ℕ → Bool) (es : Originals) → lookup t es ≡ None → AllByRecursion (λ m. t m ≡ false) (keys_of es)
absent t [] none = tt
absent t (e ∷ es) none = by (t e.0) refl none (absent t es)
  where
    by : (b : Bool) → t e.0 ≡ b → cond b (Some e.1) (lookup t es) ≡ None → (lookup t es ≡ None → AllByRecursion (λ m. t m ≡ false) (keys_of es)) → (t e.0 ≡ false) × AllByRecursion (λ m. t m ≡ false) (keys_of es)
    by true same none rest = cc
    by false other none rest = (other, rest none)

-- a number stands once in the list of all
pub once_distinct : (s : Saved) → IsOnce s → IsDistinct nat_eq (keys_of (saved_in s))
unfolding IsDistinct
once_distinct s once = by s.first once.apart
  where
    by : (first : Option (ℕ × Original)) → IfSome first (λ p. lookup (nat_eq p.0) s.others.entries ≡ None) → IsDistinct nat_eq (keys_of (option_to_list first ++ s.others.entries))
    by None apart = once.others
    by (Some p) apart = (absent (nat_eq p.0) s.others.entries apart, once.others)

pub unequal : (n k : ℕ) → (n ≡ k → ⊥) → nat_eq n k ≡ false
unequal n k differs = by (nat_eq n k) refl
  where
    by : (b : Bool) → nat_eq n k ≡ b → b ≡ false
    by true same = absurd (differs (eqb-true n k same))
    by false other = refl

-- ---- one number is changed

other_noted : (n q : ℕ) → nat_eq n q ≡ false → (undo : UndoLog) (es : Originals) → lookup (nat_eq q) (noted n undo es) ≡ lookup (nat_eq q) es
other_noted n q differs undo es = by (lookup (nat_eq n) es)
  where
    by : (f : Option Original) → lookup (nat_eq q) (noted_at f n undo es) ≡ lookup (nat_eq q) es
    by None = other_pushed n q differs es (original.Changed undo)
    by (Some o) = other_set n q differs es (with_change o undo)

-- all others are found as before, also where it was refused
abbrev pub SameOthers : ℕ → Originals → Originals → Type 0
SameOthers n es es' = (q : ℕ) → nat_eq n q ≡ false → lookup (nat_eq q) es' ≡ lookup (nat_eq q) es

pub others_noted : {A E : Type 0} (n : ℕ) (undo : UndoLog) (es es' : Originals) (r : Result A E) → OnOk r (es' ≡ noted n undo es) → OnErr r (es' ≡ es) → SameOthers n es es'
others_noted n undo es es' (Ok a) ok err = λ q differs. ap (lookup (nat_eq q)) ok ∙ other_noted n q differs undo es
others_noted n undo es es' (Err e) ok err = λ q differs. ap (lookup (nat_eq q)) err

pub others_whole : {A E : Type 0} (n : ℕ) (es es' : Originals) (r : Result A E) → OnOk r (es' ≡ whole_at (nat_eq n) es) → OnErr r (es' ≡ es) → SameOthers n es es'
others_whole n es es' (Ok a) ok err = λ q differs. ap (lookup (nat_eq q)) ok ∙ other_whole n q differs es
others_whole n es es' (Err e) ok err = λ q differs. ap (lookup (nat_eq q)) err

-- the first number is not the one that is changed
abbrev IsBehind : ℕ → Saved → Type 0
IsBehind n s = IfSome s.first (λ p. nat_eq n p.0 ≡ false)

pub once_but : (n : ℕ) (s t : Saved) → IsOnce s → t.first ≡ s.first → IsBehind n s → IsDistinct nat_eq (keys_of t.others.entries) → SameOthers n s.others.entries t.others.entries → IsOnce t
once_but n s t once same behind distinct finds = record {
  others = distinct;
  apart = subst (λ f. IfSome f (λ p. lookup (nat_eq p.0) t.others.entries ≡ None)) (sym same) (by s.first behind once.apart);
}
  where
    by : (f : Option (ℕ × Original)) → IfSome f (λ p. nat_eq n p.0 ≡ false) → IfSome f (λ p. lookup (nat_eq p.0) s.others.entries ≡ None) → IfSome f (λ p. lookup (nat_eq p.0) t.others.entries ≡ None)
    by None behind apart = tt
    by (Some p) behind apart = finds p.0 behind ∙ apart

-- ---- a number that is not saved

pub behind_first : (n : ℕ) (s : Saved) → lookup (nat_eq n) (saved_in s) ≡ None → IsBehind n s
behind_first n s none = by s.first none
  where
    at : (b : Bool) (o : Original) → cond b (Some o) (lookup (nat_eq n) s.others.entries) ≡ None → b ≡ false
    at true o none = cc
    at false o none = refl

    by : (f : Option (ℕ × Original)) → lookup (nat_eq n) (option_to_list f ++ s.others.entries) ≡ None → IfSome f (λ p. nat_eq n p.0 ≡ false)
    by None none = tt
    by (Some p) none = at (nat_eq n p.0) p.1 none

pub none_behind : (n : ℕ) (s : Saved) → lookup (nat_eq n) (saved_in s) ≡ None → lookup (nat_eq n) s.others.entries ≡ None
none_behind n s none = by s.first none
  where
    at : (b : Bool) (o : Original) → cond b (Some o) (lookup (nat_eq n) s.others.entries) ≡ None → lookup (nat_eq n) s.others.entries ≡ None
    at true o none = cc
    at false o none = none

    by : (f : Option (ℕ × Original)) → lookup (nat_eq n) (option_to_list f ++ s.others.entries) ≡ None → lookup (nat_eq n) s.others.entries ≡ None
    by None none = none
    by (Some p) none = at (nat_eq n p.0) p.1 none

pub pushed_behind : (first : Option (ℕ × Original)) (es es' : Originals) (e : ℕ × Original) → es' ≡ es ++ e ∷ [] → option_to_list first ++ es' ≡ (option_to_list first ++ es) ++ e ∷ []
pushed_behind None es es' e is = is
pushed_behind (Some p) es es' e is = ap (λ l. p ∷ l) is

-- what was cached is saved, or nothing is where that was refused
pub kept_saved : {A E : Type 0} (k : ℕ) (nodes : List (ℕ × Cached)) (saved saved' : Originals) (r : Result A E) → IsKept nodes saved → lookup (nat_eq k) saved ≡ None
    → OnOk r (saved' ≡ saved ++ (k, original.Whole (lookup (nat_eq k) nodes)) ∷ []) → OnErr r (saved' ≡ saved) → IsDistinct nat_eq (keys_of saved') → IsKept nodes saved'
kept_saved k nodes saved saved' (Err e) kept none ok same once = subst (IsKept nodes) (sym same) kept
kept_saved k nodes saved saved' (Ok a) kept none is same once = record {
  distinct = kept.distinct;
  once = once;
  stands =
      subst (λ es. (q : ℕ) → IfSome (lookup (nat_eq q) es) (λ o. Stands o (lookup (nat_eq q) nodes))) (sym is)
      (stands_but k nodes nodes saved (saved ++ (k, original.Whole (lookup (nat_eq k) nodes)) ∷ []) kept (λ q differs. refl) (λ q differs. other_pushed k q differs saved (original.Whole (lookup (nat_eq k) nodes)))
      (subst (λ f. IfSome f (λ o. Stands o (lookup (nat_eq k) nodes))) (sym (found_last saved k (original.Whole (lookup (nat_eq k) nodes)) none)) (by (lookup (nat_eq k) nodes))));
}
  where
    by : (f : Option Cached) → Stands (original.Whole f) f
    by None = tt
    by (Some kept) = refl

-- ---- the last one is taken off

pub finds_behind : (first : Option (ℕ × Original)) (es rest : Originals) (k : ℕ) (o : Original) → IfSome first (λ p. lookup (nat_eq p.0) es ≡ None) → lookup (nat_eq k) es ≡ Some o
    → ((q : ℕ) → lookup (nat_eq q) rest ≡ cond (nat_eq k q) None (lookup (nat_eq q) es)) → (q : ℕ) → lookup (nat_eq q) (option_to_list first ++ rest) ≡ cond (nat_eq k q) None (lookup (nat_eq q) (option_to_list first ++ es))
finds_behind None es rest k o apart here finds q = finds q
finds_behind (Some p) es rest k o apart here finds q = by (nat_eq q p.0) refl
  where
    differs : nat_eq q p.0 ≡ true → (b : Bool) → nat_eq k q ≡ b → b ≡ false
    differs same true equal = absurd (true≢false (sym (ap is_some here) ∙ ap is_some (subst (λ n. lookup (nat_eq n) es ≡ None) (sym (eqb-true k q equal ∙ eqb-true q p.0 same)) apart)))
    differs same false equal = refl

    by : (b : Bool) → nat_eq q p.0 ≡ b → cond b (Some p.1) (lookup (nat_eq q) rest) ≡ cond (nat_eq k q) None (cond b (Some p.1) (lookup (nat_eq q) es))
    by true same = sym (cond-false (nat_eq k q) None (Some p.1) (differs same (nat_eq k q) refl))
    by false other = finds q

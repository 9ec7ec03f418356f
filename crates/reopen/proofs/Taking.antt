-- What is taken into a chain.
use Rattle.std.proofs.Common.{◌≡◌, ℕ, zero, suc, ◌+◌, ◌==◌, nat_lt, true, false, if◌then◌else◌, List, [], ◌∷◌, fold, Option, Some, None, IfSome, Err, refl, sym, ap, ◌∙◌, ◌<◌, length, drop, get_or, drop-cons}
use Rattle.std.specs.List.{AllByRecursion, filter_map, cons_option}
use Rattle.fine_model.specs.declared.Part.{Part}
use Rattle.fine_model.specs.declared.Damage.{Damage}
use Rattle.fine_model.specs.declared.Damage.TheVariants as damage
use Rattle.reopen.specs.declared.fault.OpenFault.{OpenFault}
use Rattle.reopen.specs.declared.fault.OpenFault.TheVariants as fault
use Rattle.reopen.specs.Opening.{damage_of, IsDamage, Tells}
use Rattle.fine_model.specs.Chain.{later, longest_at, taken, first_fault}

module _ (P : Part → Type 0) where
  later_keeps : (best : Option Part) (p : Part) → IfSome best P → P p → IfSome (later best p) P
  later_keeps None p h q = q
  later_keeps (Some b) p h q = elim (nat_lt b.header.range.last p.header.range.last) as (λ v. IfSome (if v then Some p else Some b) P) [ true ↦ q | false ↦ h ]

  abbrev step : ℕ → Option Part → Part → Option Part
  step next best p = if p.header.range.first == next then later best p else best

  step_keeps : (next : ℕ) (best : Option Part) (p : Part) → IfSome best P → P p → IfSome (step next best p) P
  step_keeps next best p h q = elim (p.header.range.first == next) as (λ v. IfSome (if v then later best p else best) P) [ true ↦ later_keeps best p h q | false ↦ h ]

  fold_keeps : (next : ℕ) (best : Option Part) (parts : List Part) → IfSome best P → AllByRecursion P parts → IfSome (fold (step next) best parts) P
  fold_keeps next best [] h all = h
  fold_keeps next best (p ∷ parts) h all = fold_keeps next (step next best p) parts (step_keeps next best p h all.0) all.1

  -- what holds of all parts holds of the longest one
  pub longest_is : (next : ℕ) (parts : List Part) → AllByRecursion P parts → IfSome (longest_at next parts) P
  unfolding longest_at
  longest_is next parts all = fold_keeps next None parts tt all

-- a part that begins where the chain ends is taken, and no other part then
pub taken_some : (n turns : ℕ) (parts : List Part) (next : ℕ) (p : Part) → n ≡ suc turns → longest_at next parts ≡ Some p
    → taken n parts next ≡ p ∷ taken turns parts (p.header.range.last + 1)
unfolding taken
taken_some n turns parts next p more is = rw more (rw is refl)

pub taken_none : (n : ℕ) (parts : List Part) (next : ℕ) → longest_at next parts ≡ None → taken n parts next ≡ []
unfolding taken
taken_none zero parts next is = refl
taken_none (suc n) parts next is = rw is refl

pub taken_zero : (parts : List Part) (next : ℕ) → taken zero parts next ≡ []
unfolding taken
taken_zero parts next = refl

-- the first damage among parts, of which those before one have none
pub first_told : (f : Part → Option Damage) (parts chain : List Part) (i : ℕ) (d : Part) (what : Damage) → i < length parts → Some what ≡ f (get_or parts i d)
    → filter_map f parts ≡ filter_map f (drop i parts) → first_fault (filter_map f parts) chain ≡ Err what
first_told f parts chain i d what within found same =
    ap (λ ds. first_fault ds chain)
    (same ∙ ap (filter_map f) (drop-cons parts i d within) ∙ ap (λ o. cons_option o (filter_map f (drop (suc i) parts))) (sym found))

-- what a fault tells that is damage
pub told_by : (f : OpenFault) → IsDamage f → (what : Damage) × (damage_of f ≡ Some what)
told_by (fault.BadRegion region at) h = (damage.Region region at, refl)
told_by (fault.Gap after region) h = (damage.Gap after region, refl)
told_by (fault.Overlap region other) h = (damage.Overlap region other, refl)
told_by fault.Disk h = absurd h
told_by fault.NoMemory h = absurd h

-- so what was found at that part is what is told of all of them
pub tells_first : (f : Part → Option Damage) (parts chain : List Part) (i : ℕ) (d : Part) (found : OpenFault) → IsDamage found → i < length parts → damage_of found ≡ f (get_or parts i d)
    → filter_map f parts ≡ filter_map f (drop i parts) → IsDamage found × Tells (first_fault (filter_map f parts) chain) found
tells_first f parts chain i d found is_damage within is same =
    let told = told_by found is_damage in (is_damage, (told.0, told.1, first_told f parts chain i d told.0 within (sym told.1 ∙ is) same))

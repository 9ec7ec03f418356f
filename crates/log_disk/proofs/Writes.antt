-- What a write does to the images.
use Rattle.std.proofs.Common.{◌≡◌, ◌≢◌, ℕ, ◌+◌, ◌-◌, ◌<◌, ◌≤◌, List, [], ◌∷◌, ◌++◌, length, get_or, take, drop, set, sym, ap, refl, ◌∙◌, inl, inr, arith, subst}
use Rattle.std.specs.Prelude.{Any, slice_index}
use Rattle.std.proofs.lemmas.Option.{unwrap_or-slice_get}
use Rattle.std.proofs.lemmas.List.{get_or_append_left, get_or_push, length-set, length-append, length-take, length-drop, get_or-set_same, get_or-set_other, take_at, length-take-le, drop_at, get_or-take, get_or-drop, append_assoc}
use Rattle.std.proofs.lemmas.Bool.{cases_lt, cases_eq}
use Rattle.log_disk.specs.Disk.{Image, region_of, IsInSpan, Moment, IsImageAt, SameOutside, with_bytes, unsynced_too}

-- an element that P holds of in the first of two lists
pub any_left : {A : Type 0} (P : A → Type 0) (xs ys : List A) → Any P xs → Any P (xs ++ ys)
any_left P xs ys any =
    (any.0, any.1, omega (arith, any.2, length-append xs ys), get_or_append_left xs ys any.1 any.0 any.2 ∙ any.3, any.4)

-- or as the last
pub any_last : {A : Type 0} (P : A → Type 0) (xs : List A) (x : A) → P x → Any P (xs ++ x ∷ [])
any_last P xs x p = (length xs, x, omega (arith, length-append xs (x ∷ [])), get_or_push xs x x (length xs) refl, p)

pub region_of-set_same : (image : Image) (r : ℕ) (bytes : List ℕ) → r < length image → region_of (set image r bytes) r ≡ bytes
region_of-set_same image r bytes h =
    unwrap_or-slice_get (set image r bytes) r [] ∙ get_or-set_same image r bytes [] h

region_of-set_other : (image : Image) (r q : ℕ) (bytes : List ℕ) → q ≢ r → region_of (set image r bytes) q ≡ region_of image q
region_of-set_other image r q bytes h =
    unwrap_or-slice_get (set image r bytes) q [] ∙ get_or-set_other image r q bytes [] h ∙ sym (unwrap_or-slice_get image q [])

-- what holds of each region but one, where it also holds of that one
region_cases : (P : ℕ → Type 0) (r : ℕ) → P r → ((q : ℕ) → q ≢ r → P q) → (q : ℕ) → P q
region_cases P r here there q = elim (cases_eq q r) [ inl same ↦ subst P (sym same) here | inr other ↦ there q other ]

-- bytes over a part of a list
module _ (old bytes : List ℕ) (at : ℕ) (within : at + length bytes ≤ length old) where
  over-length : length (take at old ++ bytes ++ drop (at + length bytes) old) ≡ length old
  over-length =
      omega (arith, length-append (take at old ++ bytes) (drop (at + length bytes) old), length-append (take at old) bytes, length-take at old, length-drop (at + length bytes) old)

  over-before : take at (take at old ++ bytes ++ drop (at + length bytes) old) ≡ take at old
  over-before =
      ap (take at) (append_assoc (take at old) bytes (drop (at + length bytes) old))
      ∙ take_at (take at old) (bytes ++ drop (at + length bytes) old) at (length-take-le at old (omega arith))

  over-after : drop (at + length bytes) (take at old ++ bytes ++ drop (at + length bytes) old) ≡ drop (at + length bytes) old
  over-after =
      drop_at (take at old ++ bytes) (drop (at + length bytes) old) (at + length bytes) (omega (arith, length-append (take at old) bytes, length-take at old))

-- a write changes nothing outside of its range
pub same_outside_written : (image : Image) (r at : ℕ) (bytes : List ℕ) → r < length image → at + length bytes ≤ length (region_of image r)
    → SameOutside r at (at + length bytes) image (with_bytes image r at bytes)
same_outside_written image r at bytes in' within = record {
  regions = length-set image r (take at (region_of image r) ++ bytes ++ drop (at + length bytes) (region_of image r));
  lengths =
      region_cases (λ q. length (region_of (with_bytes image r at bytes) q) ≡ length (region_of image q)) r (ap length here ∙ over-length (region_of image r) bytes at within)
      (λ q other. ap length (region_of-set_other image r q (take at (region_of image r) ++ bytes ++ drop (at + length bytes) (region_of image r)) other));
  others = λ q other. region_of-set_other image r q (take at (region_of image r) ++ bytes ++ drop (at + length bytes) (region_of image r)) other;
  before = ap (take at) here ∙ over-before (region_of image r) bytes at within;
  after = ap (drop (at + length bytes)) here ∙ over-after (region_of image r) bytes at within;
}
  where
    here : region_of (with_bytes image r at bytes) r ≡ take at (region_of image r) ++ bytes ++ drop (at + length bytes) (region_of image r)
    here = region_of-set_same image r (take at (region_of image r) ++ bytes ++ drop (at + length bytes) (region_of image r)) in'

-- nothing is changed outside of a range where nothing is changed
pub same_outside_same : (r from end : ℕ) (image : Image) → SameOutside r from end image image
same_outside_same r from end image = record { regions = refl; lengths = λ _. refl; others = λ _ _. refl; before = refl; after = refl }

-- a byte outside of the range stays
pub outside_byte : {r from end : ℕ} {old new : Image} → SameOutside r from end old new → (q at : ℕ) → (IsInSpan q at (record { region = r; from = from; end = end }) → ⊥)
    → slice_index (region_of new q) at ≡ slice_index (region_of old q) at
outside_byte {r} {from} {end} {old} {new} same q at outside =
    elim (cases_eq q r) [
      | inl here ↦ subst (λ p. slice_index (region_of new p) at ≡ slice_index (region_of old p) at) (sym here) (elim (cases_lt at from) [
        | inl low ↦ sym (get_or-take from (region_of new r) at 0 low) ∙ ap (λ xs. get_or xs at 0) same.before ∙ get_or-take from (region_of old r) at 0 low
        | inr high ↦ elim (cases_lt at end) [ inl inside ↦ absurd (outside (sym here, high, inside)) | inr past ↦ behind past ]
      ])
      | inr other ↦ ap (λ xs. slice_index xs at) (same.others q other)
    ]
  where
    behind : end ≤ at → slice_index (region_of new r) at ≡ slice_index (region_of old r) at
    behind past =
        let there : end + (at - end) ≡ at = omega arith in
        ap (λ k. get_or (region_of new r) k 0) (sym there) ∙ sym (get_or-drop end (region_of new r) (at - end) 0) ∙ ap (λ xs. get_or xs (at - end) 0) same.after
        ∙ get_or-drop end (region_of old r) (at - end) 0 ∙ ap (λ k. get_or (region_of old r) k 0) there

-- What differs from an image only in a range is an image once the range is unsynced too.
pub image_after : (moment : Moment) (old new : Image) (r from end : ℕ) → SameOutside r from end old new → IsImageAt moment old
    → IsImageAt (unsynced_too moment (record { region = r; from = from; end = end })) new
image_after moment old new r from end same is = record {
  regions = same.regions ∙ is.regions;
  lengths = λ q. same.lengths q ∙ is.lengths q;
  elsewhere = λ q at none.
      outside_byte same q at (λ inside. none (any_last (IsInSpan q at) moment.unsynced _ inside))
      ∙ is.elsewhere q at (λ any. none (any_left (IsInSpan q at) moment.unsynced _ any));
}

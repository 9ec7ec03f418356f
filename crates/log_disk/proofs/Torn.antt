-- What a crash may leave after a write was begun: an image that it might have left before, with any bytes in the range.
use Rattle.std.proofs.Common.{◌≡◌, ◌≢◌, ℕ, ◌+◌, ◌<◌, ◌≤◌, List, [], ◌∷◌, ◌++◌, length, map, get_or, take, drop, set, refl, sym, ap, subst, ◌∙◌, inl, inr, arith, ◌⊎◌}
use Rattle.std.specs.Prelude.{Any, slice_index}
use Rattle.std.specs.List.{range_with_len}
use Rattle.std.proofs.lemmas.Bool.{cases_lt, cases_eq}
use Rattle.std.proofs.lemmas.Option.{unwrap_or-slice_get}
use Rattle.std.proofs.lemmas.List.{same_lists, get_or_default, get_or_past, get_or-take, get_or-drop, length-take, length-drop, length-set, get_or-set_same, get_or-set_other, nil_from_length}
use Rattle.std.proofs.lemmas.List.FromFn.{get_or-map-range_with_len, length-map-range_with_len}
use Rattle.log_disk.proofs.Moments.{any_either}
use Rattle.log_disk.specs.Disk.{Image, region_of, IsInSpan, Moment, IsImageAt, SameOutside, unsynced_too}

-- b holds of neither or one of two cases
choice : (k from end : ℕ) → ((from ≤ k) × (k < end)) ⊎ ((k < from) ⊎ (end ≤ k))
choice k from end = elim (cases_lt k from) [ inl low ↦ inr (inl low) | inr high ↦ elim (cases_lt k end) [ inl in' ↦ inl (high, in') | inr past ↦ inr (inr past) ] ]

at_choice : {A B : Type 0} → A ⊎ B → ℕ → ℕ → ℕ
at_choice (inl _) x y = x
at_choice (inr _) x y = y

module _ (moment : Moment) (image : Image) (r from end : ℕ) where
  -- the byte that the last sync left in the range, and the image's outside of it
  back_byte : ℕ → ℕ
  back_byte k = at_choice (choice k from end) (slice_index (region_of moment.synced r) k) (slice_index (region_of image r) k)

  back_region : List ℕ
  back_region = map back_byte (range_with_len 0 (length (region_of image r)))

  back_inside : (k : ℕ) → from ≤ k → k < end → back_byte k ≡ slice_index (region_of moment.synced r) k
  unfolding back_byte at_choice
  back_inside k low high = by_case (choice k from end)
    where
      by_case : (c : ((from ≤ k) × (k < end)) ⊎ ((k < from) ⊎ (end ≤ k))) → at_choice c (slice_index (region_of moment.synced r) k) (slice_index (region_of image r) k) ≡ slice_index (region_of moment.synced r) k
      by_case (inl _) = refl
      by_case (inr (inl less)) = absurd (omega arith)
      by_case (inr (inr past)) = absurd (omega arith)

  back_outside : (k : ℕ) → (k < from) ⊎ (end ≤ k) → back_byte k ≡ slice_index (region_of image r) k
  unfolding back_byte at_choice
  back_outside k out = by_case (choice k from end) out
    where
      by_case : (c : ((from ≤ k) × (k < end)) ⊎ ((k < from) ⊎ (end ≤ k))) → (k < from) ⊎ (end ≤ k) → at_choice c (slice_index (region_of moment.synced r) k) (slice_index (region_of image r) k) ≡ slice_index (region_of image r) k
      by_case (inl both) (inl less) = absurd (omega (arith, both.0))
      by_case (inl both) (inr past) = absurd (omega (arith, both.1))
      by_case (inr _) o = refl

  back_length : length back_region ≡ length (region_of image r)
  unfolding back_region
  back_length = length-map-range_with_len back_byte 0 (length (region_of image r))

  back_at : (k d : ℕ) → k < length (region_of image r) → get_or back_region k d ≡ back_byte k
  unfolding back_region
  back_at k d h = get_or-map-range_with_len back_byte 0 (length (region_of image r)) k k d h (omega arith)

  -- the image before the write
  pub image_back : Image
  image_back = set image r back_region

  back_here : region_of image_back r ≡ back_region
  unfolding image_back
  back_here = unwrap_or-slice_get (set image r back_region) r [] ∙ elim (cases_lt r (length image)) [ inl in' ↦ get_or-set_same image r back_region [] in' | inr past ↦ empty past ]
    where
      empty : length image ≤ r → get_or (set image r back_region) r [] ≡ back_region
      empty past =
          let none : region_of image r ≡ [] = unwrap_or-slice_get image r [] ∙ get_or_past image r [] past in
          get_or_past (set image r back_region) r [] (omega (arith, past, length-set image r back_region)) ∙ sym (nil_from_length back_region (back_length ∙ ap length none))

  back_there : (q : ℕ) → q ≢ r → region_of image_back q ≡ region_of image q
  unfolding image_back
  back_there q other = unwrap_or-slice_get (set image r back_region) q [] ∙ get_or-set_other image r q back_region [] other ∙ sym (unwrap_or-slice_get image q [])

  -- The image and the one before the write differ in the range alone.
  pub torn_outside : SameOutside r from end image_back image
  unfolding image_back
  torn_outside = record {
    regions = sym (length-set image r back_region);
    lengths = λ q. elim (cases_eq q r) [ inl same ↦ sym (ap (λ n. length (region_of image_back n)) same ∙ ap length back_here ∙ back_length ∙ ap (λ n. length (region_of image n)) (sym same)) | inr other ↦ ap length (sym (back_there q other)) ];
    others = λ q other. sym (back_there q other);
    before = sym (ap (take from) back_here ∙ front);
    after = sym (ap (drop end) back_here ∙ rest);
  }
    where
      front : take from back_region ≡ take from (region_of image r)
      front =
          same_lists (take from back_region) (take from (region_of image r)) (omega (arith, length-take from back_region, length-take from (region_of image r), back_length))
          (λ k d h. let low : k < from = omega (arith, h, length-take from back_region) in let in' : k < length (region_of image r) = omega (arith, h, length-take from back_region, back_length) in
          get_or-take from back_region k d low ∙ back_at k d in' ∙ back_outside k (inl low) ∙ get_or_default (region_of image r) k 0 d in' ∙ sym (get_or-take from (region_of image r) k d low))

      rest : drop end back_region ≡ drop end (region_of image r)
      rest =
          same_lists (drop end back_region) (drop end (region_of image r)) (omega (arith, length-drop end back_region, length-drop end (region_of image r), back_length))
          (λ k d h. let in' : end + k < length (region_of image r) = omega (arith, h, length-drop end back_region, back_length) in
          get_or-drop end back_region k d ∙ back_at (end + k) d in' ∙ back_outside (end + k) (inr (omega arith)) ∙ get_or_default (region_of image r) (end + k) 0 d in' ∙ sym (get_or-drop end (region_of image r) k d))

  -- A crash might have left it before the write.
  pub torn_before : IsImageAt (unsynced_too moment (record { region = r; from = from; end = end })) image → IsImageAt moment image_back
  unfolding image_back
  torn_before is = record {
    regions = length-set image r back_region ∙ is.regions;
    lengths = λ q. elim (cases_eq q r) [ inl same ↦ ap (λ n. length (region_of image_back n)) same ∙ ap length back_here ∙ back_length ∙ is.lengths r ∙ ap (λ n. length (region_of moment.synced n)) (sym same) | inr other ↦ ap length (back_there q other) ∙ is.lengths q ];
    elsewhere = λ q at none. elim (cases_eq q r) [
      | inl same ↦ subst (λ n. slice_index (region_of image_back n) at ≡ slice_index (region_of moment.synced n) at) (sym same) (here at (λ out. is.elsewhere r at (λ any. outer at out (subst (λ n. Any (IsInSpan n at) moment.unsynced → ⊥) same none) any)))
      | inr other ↦ ap (λ xs. slice_index xs at) (back_there q other) ∙ is.elsewhere q at (λ any. elim (any_either (IsInSpan q at) moment.unsynced _ any) [ inl old ↦ none old | inr new ↦ other (sym new.0) ])
    ];
  }
    where
      outer : (at : ℕ) → (at < from) ⊎ (end ≤ at) → (Any (IsInSpan r at) moment.unsynced → ⊥) → Any (IsInSpan r at) (moment.unsynced ++ record { region = r; from = from; end = end } ∷ []) → ⊥
      outer at out none any = elim (any_either (IsInSpan r at) moment.unsynced _ any) [ inl old ↦ none old | inr new ↦ elim out [ inl less ↦ omega (arith, less, new.1) | inr past ↦ omega (arith, past, new.2) ] ]

      here : (at : ℕ) → ((at < from) ⊎ (end ≤ at) → slice_index (region_of image r) at ≡ slice_index (region_of moment.synced r) at) → slice_index (region_of image_back r) at ≡ slice_index (region_of moment.synced r) at
      here at outside =
          ap (λ xs. slice_index xs at) back_here ∙ elim (cases_lt at (length (region_of image r))) [
            | inl in' ↦ back_at at 0 in' ∙ elim (choice at from end) [ inl both ↦ back_inside at both.0 both.1 | inr out ↦ back_outside at out ∙ outside out ]
            | inr past ↦ get_or_past back_region at 0 (omega (arith, past, back_length)) ∙ sym (get_or_past (region_of moment.synced r) at 0 (omega (arith, past, is.lengths r)))
          ]

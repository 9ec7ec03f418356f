-- The header of a region depends on its first 70 bytes alone.
use Rattle.std.proofs.Common.{◌≡◌, ℕ, ◌+◌, ◌<◌, ◌≤◌, Bool, true, false, List, [], ◌∷◌, ◌++◌, length, take, drop, Option, Some, None, Ok, Err, refl, sym, ap, ◌∙◌, arith, length-drop}
use Rattle.std.specs.Prelude.{slice_index, unwrap_or}
use Rattle.std.specs.Int.{Width, byte_len, from_be_bytes, w32, w64}
use Rattle.std.proofs.lemmas.List.{take-append-le, drop-append-le, get_or_append_left}
use Rattle.fine_model.specs.declared.Header.{Header}
use Rattle.fine_model.specs.declared.Mark.{Mark}
use Rattle.fine_model.specs.declared.Mark.TheVariants as mark
use Rattle.fine_model.specs.Regions.{is_sealed, mark_of, number_in, regions_at, more_at, header_at, header_tests, bad_field, header_in}
use Rattle.log_partition.specs.Headers.{first_bad, HeaderLaw}
use Rattle.fine_model.proofs.Chain.Headers.{header_bad}
pub use Rattle.fine_model.proofs.Chain.Headers.{header_closed as in_closed, header_good as in_good}

pub in_bad : (region_len regions lead : ℕ) (bytes : List ℕ) (at : ℕ) → is_sealed bytes ≡ true → bad_field region_len regions lead bytes ≡ Some at → header_in region_len regions lead bytes ≡ Err at
in_bad region_len regions lead bytes at = header_bad region_len regions lead at bytes

range_same : (n at : ℕ) (bytes rest : List ℕ) → at + n ≤ length bytes → take n (drop at (bytes ++ rest)) ≡ take n (drop at bytes)
range_same n at bytes rest long =
    ap (take n) (drop-append-le at bytes rest (omega arith)) ∙ take-append-le n (drop at bytes) rest (omega (arith, length-drop at bytes))

byte_same : (at : ℕ) (bytes rest : List ℕ) → at < length bytes → slice_index (bytes ++ rest) at ≡ slice_index bytes at
byte_same at bytes rest long = get_or_append_left bytes rest 0 at long

number_same : (w : Width) (at : ℕ) (bytes rest : List ℕ) → at + byte_len w ≤ length bytes → number_in w at (bytes ++ rest) ≡ number_in w at bytes
number_same w at bytes rest long = ap (from_be_bytes w) (range_same (byte_len w) at bytes rest long)

module _ (bytes rest : List ℕ) (long : 70 ≤ length bytes) where
  spelled_mark : mark_of (take 4 (drop 1 (bytes ++ rest))) ≡ mark_of (take 4 (drop 1 bytes))
  spelled_mark = ap mark_of (range_same 4 1 bytes rest (omega arith))

  same_regions : (m : Mark) → regions_at m (bytes ++ rest) ≡ regions_at m bytes
  same_regions mark.One = refl
  same_regions mark.Two = refl
  same_regions mark.Three = byte_same 41 bytes rest (omega arith)

  same_more : (m : Mark) → more_at m (bytes ++ rest) ≡ more_at m bytes
  same_more mark.One = refl
  same_more mark.Two = refl
  same_more mark.Three =
      let a = number_same w32 42 bytes rest (omega arith) in
      let b = number_same w32 46 bytes rest (omega arith) in
      let c = number_same w32 50 bytes rest (omega arith) in
      let d = number_same w32 54 bytes rest (omega arith) in
      let e = number_same w32 58 bytes rest (omega arith) in
      let f = number_same w32 62 bytes rest (omega arith) in
      let g = number_same w32 66 bytes rest (omega arith) in λ i. a i ∷ b i ∷ c i ∷ d i ∷ e i ∷ f i ∷ g i ∷ []

  pub same_header : header_at (bytes ++ rest) ≡ header_at bytes
  unfolding header_at
  same_header =
      let m : unwrap_or (mark_of (take 4 (drop 1 (bytes ++ rest)))) mark.Two ≡ unwrap_or (mark_of (take 4 (drop 1 bytes))) mark.Two = ap (λ o. unwrap_or o mark.Two) spelled_mark in
      let first = number_same w64 13 bytes rest (omega arith) in
      let last = number_same w64 21 bytes rest (omega arith) in
      let rows = number_same w32 29 bytes rest (omega arith) in
      let nodes = number_same w32 33 bytes rest (omega arith) in
      let area = number_same w32 37 bytes rest (omega arith) in
      let regions = ap (λ k. regions_at k (bytes ++ rest)) m ∙ same_regions (unwrap_or (mark_of (take 4 (drop 1 bytes))) mark.Two) in
      let more = ap (λ k. more_at k (bytes ++ rest)) m ∙ same_more (unwrap_or (mark_of (take 4 (drop 1 bytes))) mark.Two) in
      λ i. record { mark = m i; range = record { first = first i; last = last i }; rows = rows i; nodes = nodes i; area = area i; regions = regions i; more = more i }

  same_tests : (region_len regions lead : ℕ) (header : Header) → header_tests region_len regions lead (bytes ++ rest) header ≡ header_tests region_len regions lead bytes header
  unfolding header_tests
  same_tests region_len regions lead header = rw (spelled_mark, number_same w64 5 bytes rest (omega arith)) refl

  pub same_field : (region_len regions lead : ℕ) → bad_field region_len regions lead (bytes ++ rest) ≡ bad_field region_len regions lead bytes
  unfolding bad_field
  same_field region_len regions lead =
      ap first_bad (ap (header_tests region_len regions lead (bytes ++ rest)) same_header ∙ same_tests region_len regions lead (header_at bytes))

  pub same_gate : is_sealed (bytes ++ rest) ≡ is_sealed bytes
  same_gate = rw (byte_same 0 bytes rest (omega arith)) refl

pub header_same : HeaderLaw
header_same region_len regions lead bytes rest long = by (is_sealed bytes) (bad_field region_len regions lead bytes) refl refl
  where
    gate : is_sealed (bytes ++ rest) ≡ is_sealed bytes
    gate = same_gate bytes rest long

    field : bad_field region_len regions lead (bytes ++ rest) ≡ bad_field region_len regions lead bytes
    field = same_field bytes rest long region_len regions lead

    by : (s : Bool) (o : Option ℕ) → is_sealed bytes ≡ s → bad_field region_len regions lead bytes ≡ o → header_in region_len regions lead (bytes ++ rest) ≡ header_in region_len regions lead bytes
    by false o s b = in_closed region_len regions lead (bytes ++ rest) (gate ∙ s) ∙ sym (in_closed region_len regions lead bytes s)
    by true None s b =
        in_good region_len regions lead (bytes ++ rest) (gate ∙ s) (field ∙ b) ∙ ap (λ (h : Header). Ok (Some h)) (same_header bytes rest long)
        ∙ sym (in_good region_len regions lead bytes s b)
    by true (Some at) s b = in_bad region_len regions lead (bytes ++ rest) at (gate ∙ s) (field ∙ b) ∙ sym (in_bad region_len regions lead bytes at s b)

-- Where the bytes of a part's body stand.
use Rattle.std.proofs.Common.{◌≡◌, ◌⊎◌, ℕ, suc, ◌+◌, ◌-◌, ◌*◌, ◌/◌, ◌%◌, ◌<◌, ◌≤◌, ◌==◌, IsTrue, nat_le, ◌&&◌, List, [], ◌∷◌, length, drop, sym, ap, ◌∙◌, arith, refl, length-append, length-drop, length-take, inl, inr}
use Rattle.std.specs.Prelude.{flat_map, slice_index, slice_range, Contains}
use Rattle.std.specs.List.{AllByRecursion}
use Rattle.std.proofs.lemmas.Nat.{div_below, div-mul-add, mod-mul-add, div-add-mod'}
use Rattle.std.proofs.lemmas.Bool.{cases_lt, lt-ltb, le-ltb}
use Rattle.std.proofs.lemmas.Bool.Decides.{nat_tests}
use Rattle.std.proofs.lemmas.List.{get_or-take, get_or_default, get_or-drop, ext_get_or}
use Rattle.fine_model.specs.declared.Header.{Header}
use Rattle.fine_model.specs.declared.Part.{Part}
use Rattle.fine_model.specs.declared.Mark.{Mark}
use Rattle.fine_model.specs.declared.Mark.TheVariants as mark
use Rattle.fine_model.specs.Merge.{fits_in}
use Rattle.fine_model.specs.Chain.{regions_of}
use Rattle.fine_model.specs.Regions.{Image, region_of, continuations, body_start, body_in, place_of, body_len}
use Rattle.fine_model.proofs.Chain.BodyPlaces.{holds_byte}
use Rattle.fine_model.proofs.Ordered.Order.{all_map}
use Rattle.partition_index.specs.Parts.{is_counted, LiesIn}

-- what a header's counts say of its regions, whatever its mark
pub record Laid (m : Mark) (region_len regions len : ℕ) : Type 0 where
  pub some : 1 ≤ regions
  pub few : regions ≤ 8
  pub room : body_start m + len ≤ region_len + (regions - 1) * (region_len - 1)

single : (region_len regions len : ℕ) → IsTrue (regions == 1) → IsTrue (fits_in region_len regions len) → (1 ≤ regions) × (regions ≤ 8) × (41 + len ≤ region_len + (regions - 1) * (region_len - 1))
single region_len regions len one fits = grind (arith, nat_tests)

several : (region_len regions len : ℕ) → IsTrue (nat_le 2 regions && nat_le regions 8) → IsTrue (fits_in region_len regions len) → (1 ≤ regions) × (regions ≤ 8) × (70 + len ≤ region_len + (regions - 1) * (region_len - 1))
several region_len regions len some fits = grind (arith, nat_tests)

pub laid_out : (m : Mark) (region_len regions len : ℕ) → IsTrue (is_counted m regions) → IsTrue (fits_in region_len regions len) → Laid m region_len regions len
laid_out mark.One region_len regions len counted fits = let s = single region_len regions len counted fits in record { some = s.0; few = s.1; room = s.2 }
laid_out mark.Two region_len regions len counted fits = let s = single region_len regions len counted fits in record { some = s.0; few = s.1; room = s.2 }
laid_out mark.Three region_len regions len counted fits = let s = several region_len regions len counted fits in record { some = s.0; few = s.1; room = s.2 }

pub laid : (region_len : ℕ) (header : Header) → LiesIn region_len header → Laid header.mark region_len header.regions (body_len header)
laid region_len header l = laid_out header.mark region_len header.regions (body_len header) l.counted l.lies

pub start_small : (m : Mark) → body_start m ≤ 70
start_small mark.One = omega arith
start_small mark.Two = omega arith
start_small mark.Three = omega arith

-- the continuation of a byte behind the lead is one of the part's
pub quotient_below : (region_len : ℕ) (header : Header) (at : ℕ) → LiesIn region_len header → at < body_len header → region_len - body_start header.mark ≤ at
    → (at - (region_len - body_start header.mark)) / (region_len - 1) < header.regions - 1
quotient_below region_len header at l here high =
    let r = laid region_len header l in
    let s = start_small header.mark in
    let large = l.large in
    div_below (at - (region_len - body_start header.mark)) (region_len - 1) (header.regions - 1) (omega arith) (omega (arith, r.room))

pub names_region : (region_len : ℕ) (p : Part) (at : ℕ) → LiesIn region_len p.header → at < body_len p.header → region_len - body_start p.header.mark ≤ at
    → Contains (regions_of p) (slice_index p.header.more ((at - (region_len - body_start p.header.mark)) / (region_len - 1)))
names_region region_len p at l here high =
    let q : ℕ = (at - (region_len - body_start p.header.mark)) / (region_len - 1) in
    let below : q < p.header.regions - 1 = quotient_below region_len p.header at l here high in
    let r = laid region_len p.header l in (
      suc q,
      omega (arith, below, r.few, l.listed, length-take (p.header.regions - 1) p.header.more),
      get_or-take (p.header.regions - 1) p.header.more q (slice_index p.header.more q) below ∙ get_or_default p.header.more q _ 0 (omega (arith, below, r.few, l.listed)),
    )

-- the same, with the numbers as the code has them
pub names_region_at : (region_len : ℕ) (p : Part) (at start from : ℕ) → LiesIn region_len p.header → at < body_len p.header → start ≡ body_start p.header.mark → from ≡ at → region_len - start ≤ from
    → Contains (regions_of p) (slice_index p.header.more ((from - (region_len - start)) / (region_len - 1)))
names_region_at region_len p at start from l here s f high =
    let low : region_len - body_start p.header.mark ≤ at = omega arith in
    rw (s, f) (names_region region_len p at l here low)

-- the place of a byte in the lead, and of one behind it
pub low_place : (region_len lead : ℕ) (header : Header) (at : ℕ) → at < region_len - body_start header.mark
    → place_of region_len lead header at ≡ record { region = lead; at = body_start header.mark + at }
unfolding place_of
low_place region_len lead header at low = rw (lt-ltb at (region_len - body_start header.mark) low) refl

pub high_place : (region_len lead : ℕ) (header : Header) (at : ℕ) → region_len - body_start header.mark ≤ at
    → place_of region_len lead header at ≡ record {
      region = slice_index header.more ((at - (region_len - body_start header.mark)) / (region_len - 1));
      at = 1 + (at - (region_len - body_start header.mark)) % (region_len - 1);
    }
unfolding place_of
high_place region_len lead header at high = rw (le-ltb at (region_len - body_start header.mark) high) refl

-- a number further on in the same row
same_row : (n w k : ℕ) → n % w + k < w → ((n + k) / w ≡ n / w) × ((n + k) % w ≡ n % w + k)
same_row n w k within =
    let e : n + k ≡ n / w * w + (n % w + k) = omega (arith, div-add-mod' n w) in
    (ap (λ m. m / w) e ∙ div-mul-add (n / w) w (n % w + k) within, ap (λ m. m % w) e ∙ mod-mul-add (n / w) w (n % w + k) within)

-- the bytes behind a byte of the body stand behind it in its region, up to the region's end
pub place_more : (region_len lead : ℕ) (header : Header) (at k : ℕ) → 70 < region_len → (place_of region_len lead header at).at + k < region_len
    → place_of region_len lead header (at + k) ≡ record { region = (place_of region_len lead header at).region; at = (place_of region_len lead header at).at + k }
place_more region_len lead header at k large within = by (cases_lt at (region_len - body_start header.mark))
  where
    start : ℕ
    start = body_start header.mark

    by : (at < region_len - body_start header.mark) ⊎ (region_len - body_start header.mark ≤ at)
        → place_of region_len lead header (at + k) ≡ record { region = (place_of region_len lead header at).region; at = (place_of region_len lead header at).at + k }
    by (inl low) =
        let here = low_place region_len lead header at low in
        let at_here : (place_of region_len lead header at).at ≡ start + at = ap (λ p. p.at) here in
        let there = low_place region_len lead header (at + k) (omega (arith, at_here, within)) in
        let sums : start + (at + k) ≡ start + at + k = omega arith in
        there ∙ ap (λ n. record { region = lead; at = n }) sums ∙ sym (ap (λ p. record { region = p.region; at = p.at + k }) here)
    by (inr high) =
        let here = high_place region_len lead header at high in
        let at_here : (place_of region_len lead header at).at ≡ 1 + (at - (region_len - start)) % (region_len - 1) = ap (λ p. p.at) here in
        let row = same_row (at - (region_len - start)) (region_len - 1) k (omega (arith, at_here, within, large)) in
        let back : at + k - (region_len - start) ≡ at - (region_len - start) + k = omega (arith, high) in
        let there = high_place region_len lead header (at + k) (omega (arith, high)) in
        let quotient : (at + k - (region_len - start)) / (region_len - 1) ≡ (at - (region_len - start)) / (region_len - 1) = ap (λ n. n / (region_len - 1)) back ∙ row.0 in
        let rest : 1 + (at + k - (region_len - start)) % (region_len - 1) ≡ 1 + (at - (region_len - start)) % (region_len - 1) + k = omega (arith, ap (λ n. n % (region_len - 1)) back, row.1) in
        there ∙ ap (λ q. record { region = slice_index header.more q; at = 1 + (at + k - (region_len - start)) % (region_len - 1) }) quotient
        ∙ ap (λ n. record { region = slice_index header.more ((at - (region_len - start)) / (region_len - 1)); at = n }) rest
        ∙ sym (ap (λ p. record { region = p.region; at = p.at + k }) here)

pub all_long : (len : ℕ) (f : ℕ → List ℕ) (ks : List ℕ) → AllByRecursion (λ k. length (f k) ≡ len) ks → length (flat_map f ks) ≡ length ks * len
all_long len f [] long = omega arith
all_long len f (k ∷ ks) long = omega (arith, length-append (f k) (flat_map f ks), all_long len f ks long.1, long.0)

-- each region of a part has its length in an image
abbrev pub AreLong : ℕ → Image → Part → Type 0
AreLong region_len image p = AllByRecursion (λ region. length (region_of image region) ≡ region_len) (regions_of p)

pub behind_long : (region_len : ℕ) (image : Image) (p : Part) → AreLong region_len image p → AllByRecursion (λ k. length (drop 1 (region_of image k)) ≡ region_len - 1) (continuations p.header)
behind_long region_len image p long =
    all_map (λ k. length (region_of image k) ≡ region_len) (λ k. length (drop 1 (region_of image k)) ≡ region_len - 1)
    (λ k h. length-drop 1 (region_of image k) ∙ ap (λ n. n - 1) h) (continuations p.header) long.1

-- the body of a part has its rows and its index
pub body_long : (region_len : ℕ) (image : Image) (p : Part) → LiesIn region_len p.header → AreLong region_len image p → body_len p.header ≤ length (body_in image p.region p.header)
unfolding body_in
body_long region_len image p l long =
    let r = laid region_len p.header l in
    let front = drop (body_start p.header.mark) (region_of image p.region) in
    let behind : List ℕ = flat_map (λ region. drop 1 (region_of image region)) (continuations p.header) in
    let count : length (continuations p.header) ≡ p.header.regions - 1 = omega (arith, length-take (p.header.regions - 1) p.header.more, r.few, l.listed) in
    let all : length behind ≡ (p.header.regions - 1) * (region_len - 1) = all_long (region_len - 1) (λ region. drop 1 (region_of image region)) (continuations p.header) (behind_long region_len image p long) ∙ ap (λ n. n * (region_len - 1)) count in
    omega (arith, all, r.room, length-append front behind, length-drop (body_start p.header.mark) (region_of image p.region), long.0)

-- a byte of a range, and two ranges with the same bytes
get_range : (xs : List ℕ) (a n k : ℕ) → k < n → slice_index (slice_range xs a (a + n)) k ≡ slice_index xs (a + k)
get_range xs a n k low = get_or-take (a + n - a) (drop a xs) k 0 (omega (arith, low)) ∙ get_or-drop a xs k 0

pub range_long : (xs : List ℕ) (a n : ℕ) → a + n ≤ length xs → length (slice_range xs a (a + n)) ≡ n
range_long xs a n within = omega (arith, length-take (a + n - a) (drop a xs), length-drop a xs)

same_range : (xs ys : List ℕ) (a b n : ℕ) → length (slice_range xs a (a + n)) ≡ n → length (slice_range ys b (b + n)) ≡ n → ((k : ℕ) → k < n → slice_index xs (a + k) ≡ slice_index ys (b + k))
    → slice_range xs a (a + n) ≡ slice_range ys b (b + n)
same_range xs ys a b n x y same =
    ext_get_or 0 (slice_range xs a (a + n)) (slice_range ys b (b + n)) (x ∙ sym y)
    (λ k h. let low : k < n = omega (arith, h, x) in get_range xs a n k low ∙ same k low ∙ sym (get_range ys b n k low))

-- a range of the body that lies in one region
pub range_of_body : (region_len : ℕ) (image : Image) (p : Part) (at n : ℕ) → LiesIn region_len p.header → AreLong region_len image p
    → at + n ≤ body_len p.header → (place_of region_len p.region p.header at).at + n ≤ region_len
    → length (slice_range (region_of image (place_of region_len p.region p.header at).region) (place_of region_len p.region p.header at).at ((place_of region_len p.region p.header at).at + n)) ≡ n
    → slice_range (region_of image (place_of region_len p.region p.header at).region) (place_of region_len p.region p.header at).at ((place_of region_len p.region p.header at).at + n)
    ≡ slice_range (body_in image p.region p.header) at (at + n)
range_of_body region_len image p at n l long within room full =
    let whole = body_long region_len image p l long in
    same_range (region_of image (place_of region_len p.region p.header at).region) (body_in image p.region p.header) (place_of region_len p.region p.header at).at at n full (range_long (body_in image p.region p.header) at n (omega (arith, within, whole)))
    (λ k low.
    let more = place_more region_len p.region p.header at k l.large (omega (arith, low, room)) in
    sym (holds_byte region_len image p.region p.header (at + k) l.large long.0 (behind_long region_len image p long) (omega (arith, low, within, whole))
    ∙ ap (λ q. slice_index (region_of image q.region) q.at) more))

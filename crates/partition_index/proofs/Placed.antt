-- Bytes that are written where an offset of a body stands.
use Rattle.std.proofs.Common.{◌≡◌, ◌≢◌, ◌⊎◌, ℕ, zero, suc, ◌+◌, ◌-◌, ◌*◌, ◌/◌, ◌%◌, ◌<◌, ◌≤◌, Bool, true, false, not, List, [], ◌∷◌, ◌++◌, get_or, length, take, drop, set, refl, sym, ap, ◌∙◌, subst, inl, inr, arith, append_assoc, append-nil, length-append, length-drop, length-take}
use Rattle.std.specs.Prelude.{flat_map, nat_eq, slice_index, Contains}
use Rattle.std.specs.List.{AllByRecursion, list_any}
use Rattle.std.proofs.lemmas.Bool.{cases_lt, cases_eq, true≢false, eq-eqb}
use Rattle.std.proofs.lemmas.List.{set-get_or, get_or-take, get_or-drop, get_or_append_left, get_or-append_right, ext_get_or, take-take, take-append-drop, drop-drop, length-take-le}
use Rattle.std.proofs.lemmas.List.Folds.{list_any_at}
use Rattle.std.proofs.lemmas.List.Elements.{All-contains, All-from_recursion}
use Rattle.std.proofs.lemmas.Nat.{div_below, div-add-mod'}
use Rattle.std.proofs.lemmas.Option.{unwrap_or-slice_get}
use Rattle.log_disk.specs.Disk.{IsInSpan, SameOutside, with_bytes}
use Rattle.log_disk.proofs.Writes.{region_of-set_same, outside_byte, same_outside_written}
use Rattle.fine_model.specs.declared.Header.{Header}
use Rattle.fine_model.specs.declared.Part.{Part}
use Rattle.fine_model.specs.declared.Mark.{Mark}
use Rattle.fine_model.specs.declared.Mark.TheVariants as mark
use Rattle.fine_model.specs.Trees.{is_distinct}
use Rattle.fine_model.specs.Regions.{Image, region_of, continuations, body_start, body_in, place_of, body_len}
use Rattle.fine_model.specs.Chain.{regions_of}
use Rattle.fine_model.proofs.Chain.BodyPlaces.{holds_byte}
use Rattle.fine_model.proofs.Ordered.Nothing.{any_none}
use Rattle.fine_model.proofs.Ordered.Order.{all_map, first_of_both}
use Rattle.partition_index.specs.Parts.{LiesIn}
use Rattle.partition_index.specs.Placing.{HasRoomFor, HasBody, PlacedLaw, FrontLaw}
use Rattle.partition_index.proofs.BodyPlaces.{AreLong, laid, start_small, names_region, low_place, high_place, place_more, behind_long, all_long, body_long}

-- ---- the regions of a part, each once

not_true : (b : Bool) → not b ≡ true → b ≡ false
not_true true h = absurd (true≢false (sym h))
not_true false h = refl

apart_at : (x : ℕ) (xs : List ℕ) (j : ℕ) → list_any (nat_eq x) xs ≡ false → j < length xs → x ≢ get_or xs j 0
apart_at x xs j none here same = true≢false (sym (list_any_at (nat_eq x) xs j 0 here (eq-eqb x (get_or xs j 0) same)) ∙ none)

pub distinct_at : (xs : List ℕ) (i j : ℕ) → is_distinct xs ≡ true → i < length xs → j < length xs → get_or xs i 0 ≡ get_or xs j 0 → i ≡ j
unfolding is_distinct
distinct_at [] i j d a b same = absurd (omega (arith, a))
distinct_at (x ∷ xs) zero zero d a b same = refl
distinct_at (x ∷ xs) zero (suc j) d a b same = absurd (apart_at x xs j (not_true (list_any (nat_eq x) xs) (first_of_both (not (list_any (nat_eq x) xs)) (is_distinct xs) d).0) (omega (arith, b)) same)
distinct_at (x ∷ xs) (suc i) zero d a b same = absurd (apart_at x xs i (not_true (list_any (nat_eq x) xs) (first_of_both (not (list_any (nat_eq x) xs)) (is_distinct xs) d).0) (omega (arith, a)) (sym same))
distinct_at (x ∷ xs) (suc i) (suc j) d a b same =
    ap suc (distinct_at xs i j (first_of_both (not (list_any (nat_eq x) xs)) (is_distinct xs) d).1 (omega (arith, a)) (omega (arith, b)) same)

-- the lead is none of its continuations
pub lead_apart : (p : Part) → is_distinct (regions_of p) ≡ true → AllByRecursion (λ r. r ≢ p.region) (continuations p.header)
unfolding is_distinct
lead_apart p d =
    all_map (λ r. nat_eq p.region r ≡ false) (λ r. r ≢ p.region) (λ r h same. true≢false (sym (eq-eqb p.region r (sym same)) ∙ h)) (continuations p.header)
    (any_none (nat_eq p.region) (continuations p.header) (not_true (list_any (nat_eq p.region) (continuations p.header)) (first_of_both (not (list_any (nat_eq p.region) (continuations p.header))) (is_distinct (continuations p.header)) d).0))

-- ---- how long a body is, with what stands behind its index

abbrev pub all_len : ℕ → Header → ℕ
all_len region_len header = region_len - body_start header.mark + (header.regions - 1) * (region_len - 1)

pub body_exact : (region_len : ℕ) (image : Image) (p : Part) → LiesIn region_len p.header → AreLong region_len image p → length (body_in image p.region p.header) ≡ all_len region_len p.header
unfolding body_in
body_exact region_len image p l long =
    let r = laid region_len p.header l in
    let front : List ℕ = drop (body_start p.header.mark) (region_of image p.region) in
    let behind : List ℕ = flat_map (λ region. drop 1 (region_of image region)) (continuations p.header) in
    let count : length (continuations p.header) ≡ p.header.regions - 1 = omega (arith, length-take (p.header.regions - 1) p.header.more, r.few, l.listed) in
    let all : length behind ≡ (p.header.regions - 1) * (region_len - 1) = all_long (region_len - 1) (λ region. drop 1 (region_of image region)) (continuations p.header) (behind_long region_len image p long) ∙ ap (λ n. n * (region_len - 1)) count in
    length-append front behind ∙ ap (λ n. n + length behind) (length-drop (body_start p.header.mark) (region_of image p.region) ∙ ap (λ n. n - body_start p.header.mark) long.0) ∙ ap (λ n. region_len - body_start p.header.mark + n) all

module _ (region_len : ℕ) (p : Part) (l : LiesIn region_len p.header) where
  abbrev start : ℕ
  start = body_start p.header.mark

  abbrev in_lead : ℕ
  in_lead = region_len - start

  abbrev step : ℕ
  step = region_len - 1

  -- the continuation of an offset behind the lead is one of the part's
  few : (k : ℕ) → k < all_len region_len p.header → in_lead ≤ k → (k - in_lead) / step < p.header.regions - 1
  few k here high = let large = l.large in let s = start_small p.header.mark in div_below (k - in_lead) step (p.header.regions - 1) (omega arith) (omega (arith, here, high))

  named : (q : ℕ) → q < p.header.regions - 1 → (suc q < length (regions_of p)) × (get_or (regions_of p) (suc q) 0 ≡ slice_index p.header.more q)
  named q below =
      let r = laid region_len p.header l in (omega (arith, below, r.few, l.listed, length-take (p.header.regions - 1) p.header.more), get_or-take (p.header.regions - 1) p.header.more q 0 below)

  -- two offsets of the body stand at two places
  module _ (apart : is_distinct (regions_of p) ≡ true) where
    abbrev at_place : ℕ → ℕ → Type 0
    at_place k m = place_of region_len p.region p.header k ≡ place_of region_len p.region p.header m

    never : (k m : ℕ) → m < all_len region_len p.header → k < in_lead → in_lead ≤ m → at_place k m → ⊥
    never k m here low high same =
        let n = named ((m - in_lead) / step) (few m here high) in
        let e : p.region ≡ slice_index p.header.more ((m - in_lead) / step) = sym (ap (λ q. q.region) (low_place region_len p.region p.header k low)) ∙ ap (λ q. q.region) same ∙ ap (λ q. q.region) (high_place region_len p.region p.header m high) in
        let z : zero ≡ suc ((m - in_lead) / step) = distinct_at (regions_of p) zero (suc ((m - in_lead) / step)) apart (omega arith) n.0 (e ∙ sym n.1) in omega (arith, z)

    both_high : (k m : ℕ) → k < all_len region_len p.header → m < all_len region_len p.header → in_lead ≤ k → in_lead ≤ m → at_place k m → k ≡ m
    both_high k m here there high high' same =
        let a : ℕ = (k - in_lead) / step in
        let b : ℕ = (m - in_lead) / step in
        let n = named a (few k here high) in
        let n' = named b (few m there high') in
        let e : slice_index p.header.more a ≡ slice_index p.header.more b = sym (ap (λ q. q.region) (high_place region_len p.region p.header k high)) ∙ ap (λ q. q.region) same ∙ ap (λ q. q.region) (high_place region_len p.region p.header m high') in
        let z : suc a ≡ suc b = distinct_at (regions_of p) (suc a) (suc b) apart n.0 n'.0 (n.1 ∙ e ∙ sym n'.1) in
        let w : 1 + (k - in_lead) % step ≡ 1 + (m - in_lead) % step = sym (ap (λ q. q.at) (high_place region_len p.region p.header k high)) ∙ ap (λ q. q.at) same ∙ ap (λ q. q.at) (high_place region_len p.region p.header m high') in
        let rows : a * step ≡ b * step = ap (λ n. n * step) (let y : a ≡ b = omega (arith, z) in y) in
        let d = div-add-mod' (k - in_lead) step in
        let d' = div-add-mod' (m - in_lead) step in
        let same_rest : k - in_lead ≡ m - in_lead = omega (arith, d, d', rows, w) in omega (arith, same_rest, high, high')

    pub one_place : (k m : ℕ) → k < all_len region_len p.header → m < all_len region_len p.header → at_place k m → k ≡ m
    one_place k m here there same =
        elim (cases_lt k in_lead) as (λ _. k ≡ m) [
          | inl low ↦ elim (cases_lt m in_lead) as (λ _. k ≡ m) [
            | inl low' ↦
                let e : start + k ≡ start + m = sym (ap (λ q. q.at) (low_place region_len p.region p.header k low)) ∙ ap (λ q. q.at) same ∙ ap (λ q. q.at) (low_place region_len p.region p.header m low') in omega (arith, e)
            | inr high' ↦ absurd (never k m there low high' same)
          ]
          | inr high ↦ elim (cases_lt m in_lead) as (λ _. k ≡ m) [
            | inl low' ↦ absurd (never m k here low' high (sym same))
            | inr high' ↦ both_high k m here there high high' same
          ]
        ]

-- the region of an offset of the body is one of the part's, and its place is behind the gate
pub place_named : (region_len : ℕ) (p : Part) (at : ℕ) → LiesIn region_len p.header → at < body_len p.header → Contains (regions_of p) (place_of region_len p.region p.header at).region
place_named region_len p at l here = by (cases_lt at (region_len - body_start p.header.mark))
  where
    by : (at < region_len - body_start p.header.mark) ⊎ (region_len - body_start p.header.mark ≤ at) → Contains (regions_of p) (place_of region_len p.region p.header at).region
    by (inl low) = subst (Contains (regions_of p)) (sym (ap (λ q. q.region) (low_place region_len p.region p.header at low))) (0, omega arith, refl)
    by (inr high) = subst (Contains (regions_of p)) (sym (ap (λ q. q.region) (high_place region_len p.region p.header at high))) (names_region region_len p at l here high)

start_some : (m : Mark) → 1 ≤ body_start m
start_some mark.One = omega arith
start_some mark.Two = omega arith
start_some mark.Three = omega arith

behind_gate : (region_len : ℕ) (p : Part) (at : ℕ) → 1 ≤ (place_of region_len p.region p.header at).at
behind_gate region_len p at = by (cases_lt at (region_len - body_start p.header.mark))
  where
    by : (at < region_len - body_start p.header.mark) ⊎ (region_len - body_start p.header.mark ≤ at) → 1 ≤ (place_of region_len p.region p.header at).at
    by (inl low) = let e = ap (λ q. q.at) (low_place region_len p.region p.header at low) in let s = start_some p.header.mark in omega (arith, e, s)
    by (inr high) = let e = ap (λ q. q.at) (high_place region_len p.region p.header at high) in omega (arith, e)

-- ---- bytes over a part of a list

abbrev over : List ℕ → ℕ → List ℕ → List ℕ
over old at bytes = take at old ++ bytes ++ drop (at + length bytes) old

over_none : (old : List ℕ) (at : ℕ) (bytes : List ℕ) → length bytes ≡ 0 → over old at bytes ≡ old
over_none old at [] none = ap (λ n. take at old ++ [] ++ drop n old) (let e : at + 0 ≡ at = omega arith in e) ∙ ap (λ t. t ++ drop at old) (append-nil (take at old)) ∙ take-append-drop at old
over_none old at (b ∷ bytes) none = absurd (omega (arith, none))

module _ (old bytes : List ℕ) (at : ℕ) (within : at + length bytes ≤ length old) where
  front_long : length (take at old) ≡ at
  front_long = length-take-le at old (omega (arith, within))

  inner_long : length (take at old ++ bytes) ≡ at + length bytes
  inner_long = length-append (take at old) bytes ∙ ap (λ n. n + length bytes) front_long

  over_long : length (over old at bytes) ≡ length old
  over_long = omega (arith, within, inner_long, length-append (take at old ++ bytes) (drop (at + length bytes) old), length-drop (at + length bytes) old)

  over_inside : (j : ℕ) → j < length bytes → get_or (over old at bytes) (at + j) 0 ≡ get_or bytes j 0
  over_inside j here =
      get_or_append_left (take at old ++ bytes) (drop (at + length bytes) old) 0 (at + j) (omega (arith, inner_long, here))
      ∙ get_or-append_right (take at old) bytes at (at + j) 0 front_long (omega arith) ∙ ap (λ n. get_or bytes n 0) (let e : at + j - at ≡ j = omega arith in e)

  over_before : (k : ℕ) → k < at → get_or (over old at bytes) k 0 ≡ get_or old k 0
  over_before k low =
      get_or_append_left (take at old ++ bytes) (drop (at + length bytes) old) 0 k (omega (arith, inner_long, low))
      ∙ get_or_append_left (take at old) bytes 0 k (omega (arith, front_long, low)) ∙ get_or-take at old k 0 low

  over_behind : (k : ℕ) → at + length bytes ≤ k → get_or (over old at bytes) k 0 ≡ get_or old k 0
  over_behind k high =
      get_or-append_right (take at old ++ bytes) (drop (at + length bytes) old) (at + length bytes) k 0 inner_long high
      ∙ get_or-drop (at + length bytes) old (k - (at + length bytes)) 0 ∙ ap (λ n. get_or old n 0) (let e : at + length bytes + (k - (at + length bytes)) ≡ k = omega (arith, high) in e)

-- ---- bytes that are written to a part

-- no bytes change nothing
nothing_written : (image : Image) (region at : ℕ) (bytes : List ℕ) → length bytes ≡ 0 → with_bytes image region at bytes ≡ image
nothing_written image region at bytes none =
    ap (set image region) (over_none (region_of image region) at bytes none ∙ unwrap_or-slice_get image region []) ∙ set-get_or image region []

not_among : (regions : List ℕ) (r region : ℕ) → list_any (nat_eq r) regions ≡ false → Contains regions region → r ≢ region
not_among regions r region none named same =
    let f : nat_eq r region ≡ false = All-contains (λ x. nat_eq r x ≡ false) regions region (All-from_recursion (λ x. nat_eq r x ≡ false) regions (any_none (nat_eq r) regions none)) named in
    true≢false (sym (eq-eqb r region same) ∙ f)

module _ (region_len : ℕ) (image : Image) (p : Part) (at : ℕ) (bytes : List ℕ) (room : HasRoomFor region_len image p) (within : at + length bytes ≤ body_len p.header)
    (inside : (place_of region_len p.region p.header at).at + length bytes ≤ region_len) (some : 1 ≤ length bytes) where
  abbrev region : ℕ
  region = (place_of region_len p.region p.header at).region

  abbrev from : ℕ
  from = (place_of region_len p.region p.header at).at

  abbrev new : Image
  new = with_bytes image region from bytes

  is_named : Contains (regions_of p) region
  is_named = place_named region_len p at room.lies (omega (arith, within, some))

  there : (region < length image) × (length (region_of image region) ≡ region_len)
  there = All-contains (λ r. (r < length image) × (length (region_of image r) ≡ region_len)) (regions_of p) region (All-from_recursion (λ r. (r < length image) × (length (region_of image r) ≡ region_len)) (regions_of p) room.long) is_named

  same : SameOutside region from (from + length bytes) image new
  same = let t = there in same_outside_written image region from bytes t.0 (omega (arith, inside, t.1))

  old_long : AreLong region_len image p
  old_long = all_map (λ r. (r < length image) × (length (region_of image r) ≡ region_len)) (λ r. length (region_of image r) ≡ region_len) (λ r h. h.1) (regions_of p) room.long

  new_long : AreLong region_len new p
  new_long = all_map (λ r. length (region_of image r) ≡ region_len) (λ r. length (region_of new r) ≡ region_len) (λ r h. same.lengths r ∙ h) (regions_of p) old_long

  old_byte : (k : ℕ) → k < all_len region_len p.header → get_or (body_in image p.region p.header) k 0 ≡ slice_index (region_of image (place_of region_len p.region p.header k).region) (place_of region_len p.region p.header k).at
  old_byte k here = holds_byte region_len image p.region p.header k room.lies.large old_long.0 (behind_long region_len image p old_long) (omega (arith, here, body_exact region_len image p room.lies old_long))

  new_byte : (k : ℕ) → k < all_len region_len p.header → get_or (body_in new p.region p.header) k 0 ≡ slice_index (region_of new (place_of region_len p.region p.header k).region) (place_of region_len p.region p.header k).at
  new_byte k here = holds_byte region_len new p.region p.header k room.lies.large new_long.0 (behind_long region_len new p new_long) (omega (arith, here, body_exact region_len new p room.lies new_long))

  fits : at + length bytes ≤ all_len region_len p.header
  fits = let whole = body_long region_len image p room.lies old_long in omega (arith, whole, within, body_exact region_len image p room.lies old_long)

  place_at : (j : ℕ) → j < length bytes → place_of region_len p.region p.header (at + j) ≡ record { region = region; at = from + j }
  place_at j low = place_more region_len p.region p.header at j room.lies.large (omega (arith, low, inside))

  written : (j : ℕ) → j < length bytes → get_or (body_in new p.region p.header) (at + j) 0 ≡ get_or bytes j 0
  written j low =
      let t = there in
      new_byte (at + j) (omega (arith, low, fits)) ∙ ap (λ q. slice_index (region_of new q.region) q.at) (place_at j low)
      ∙ ap (λ xs. get_or xs (from + j) 0) (region_of-set_same image region (over (region_of image region) from bytes) t.0)
      ∙ over_inside (region_of image region) bytes from (omega (arith, inside, t.1)) j low

  stays : (k : ℕ) → k < all_len region_len p.header → (k < at) ⊎ (at + length bytes ≤ k) → get_or (body_in new p.region p.header) k 0 ≡ get_or (body_in image p.region p.header) k 0
  stays k here outside =
      new_byte k here ∙ outside_byte same (place_of region_len p.region p.header k).region (place_of region_len p.region p.header k).at not_in ∙ sym (old_byte k here)
    where
      not_in : IsInSpan (place_of region_len p.region p.header k).region (place_of region_len p.region p.header k).at (record { region = region; from = from; end = from + length bytes }) → ⊥
      not_in i =
          let j : ℕ = (place_of region_len p.region p.header k).at - from in
          let low : j < length bytes = omega (arith, i.1, i.2) in
          let up : (place_of region_len p.region p.header k).at ≡ from + j = omega (arith, i.1) in
          let is : place_of region_len p.region p.header k ≡ record { region = region; at = from + j } = (λ w. record { region = sym i.0 w; at = up w }) in
          let m : k ≡ at + j = one_place region_len p room.lies room.apart k (at + j) here (omega (arith, low, fits)) (is ∙ sym (place_at j low)) in
          elim outside as (λ _. ⊥) [ inl before ↦ omega (arith, m, before) | inr behind ↦ omega (arith, m, behind, low) ]

  pub body_written : HasBody p at bytes image new
  body_written = record {
    differs = record {
      as_many = same.regions;
      others = λ r none. same.others r (not_among (regions_of p) r region none is_named);
      lengths = same.lengths;
      gates = λ r. elim (cases_eq r region) as (λ _. take 1 (region_of new r) ≡ take 1 (region_of image r)) [
        | inl here ↦ subst (λ q. take 1 (region_of new q) ≡ take 1 (region_of image q)) (sym here)
            (let g = behind_gate region_len p at in sym (take-take 1 from (region_of new region) g) ∙ ap (take 1) same.before ∙ take-take 1 from (region_of image region) g)
        | inr other ↦ ap (take 1) (same.others r other)
      ];
    };
    body = ext_get_or 0 (body_in new p.region p.header) (over (body_in image p.region p.header) at bytes) (long ∙ sym (over_long (body_in image p.region p.header) bytes at (omega (arith, fits, was)))) each ∙ append_assoc (take at (body_in image p.region p.header)) bytes (drop (at + length bytes) (body_in image p.region p.header));
  }
    where
      was : length (body_in image p.region p.header) ≡ all_len region_len p.header
      was = body_exact region_len image p room.lies old_long

      is : length (body_in new p.region p.header) ≡ all_len region_len p.header
      is = body_exact region_len new p room.lies new_long

      long : length (body_in new p.region p.header) ≡ length (body_in image p.region p.header)
      long = is ∙ sym was

      each : (k : ℕ) → k < length (body_in new p.region p.header) → get_or (body_in new p.region p.header) k 0 ≡ get_or (over (body_in image p.region p.header) at bytes) k 0
      each k here = by (cases_lt k at) (cases_lt k (at + length bytes))
        where
          lower : k < all_len region_len p.header
          lower = omega (arith, here, is)

          fit : at + length bytes ≤ length (body_in image p.region p.header)
          fit = omega (arith, fits, was)

          by : (k < at) ⊎ (at ≤ k) → (k < at + length bytes) ⊎ (at + length bytes ≤ k) → get_or (body_in new p.region p.header) k 0 ≡ get_or (over (body_in image p.region p.header) at bytes) k 0
          by (inl low) other = stays k lower (inl low) ∙ sym (over_before (body_in image p.region p.header) bytes at fit k low)
          by (inr high) (inr behind) = stays k lower (inr behind) ∙ sym (over_behind (body_in image p.region p.header) bytes at fit k behind)
          by (inr high) (inl inner) =
              let j : ℕ = k - at in
              let low : j < length bytes = omega (arith, inner, high) in
              let e : k ≡ at + j = omega (arith, high) in
              ap (λ n. get_or (body_in new p.region p.header) n 0) e ∙ written j low ∙ sym (over_inside (body_in image p.region p.header) bytes at fit j low)
              ∙ ap (λ n. get_or (over (body_in image p.region p.header) at bytes) n 0) (sym e)

unwritten : (p : Part) (at : ℕ) (bytes : List ℕ) (old after : Image) → length bytes ≡ 0 → after ≡ old → HasBody p at bytes old after
unwritten p at bytes old after none alike = subst (HasBody p at bytes old) (sym alike) (record {
  differs = record { as_many = refl; others = λ r h. refl; lengths = λ r. refl; gates = λ r. refl };
  body = sym (over_none (body_in old p.region p.header) at bytes none) ∙ append_assoc (take at (body_in old p.region p.header)) bytes (drop (at + length bytes) (body_in old p.region p.header));
})

pub placed : PlacedLaw
placed region_len image p at bytes room within inside = elim (cases_lt 0 (length bytes)) as (λ _. HasBody p at bytes image (with_bytes image (place_of region_len p.region p.header at).region (place_of region_len p.region p.header at).at bytes)) [
  | inl some ↦ body_written region_len image p at bytes room within inside some
  | inr none ↦ unwritten p at bytes image (with_bytes image (place_of region_len p.region p.header at).region (place_of region_len p.region p.header at).at bytes) (omega (arith, none)) (nothing_written image (place_of region_len p.region p.header at).region (place_of region_len p.region p.header at).at bytes (omega (arith, none)))
]

-- ---- bytes before a body

behind_same : (old after : Image) (rs : List ℕ) → AllByRecursion (λ r. region_of after r ≡ region_of old r) rs → flat_map (λ r. drop 1 (region_of after r)) rs ≡ flat_map (λ r. drop 1 (region_of old r)) rs
behind_same old after [] alike = refl
behind_same old after (r ∷ rs) alike = ap (λ bytes. drop 1 bytes ++ flat_map (λ r. drop 1 (region_of after r)) rs) alike.0 ∙ ap (λ rest. drop 1 (region_of old r) ++ rest) (behind_same old after rs alike.1)

pub front_stays : FrontLaw
unfolding body_in
front_stays region_len image p at bytes room before =
    let first = let a = room.long in a.0 in
    let start = body_start p.header.mark in
    let large = room.lies.large in
    let s = start_small p.header.mark in
    let w = same_outside_written image p.region at bytes first.0 (omega (arith, before, first.1, s, large)) in
    let new : Image = with_bytes image p.region at bytes in
    let cut : at + length bytes + (start - (at + length bytes)) ≡ start = omega (arith, before) in
    let n : ℕ = start - (at + length bytes) in
    let lead : drop start (region_of new p.region) ≡ drop start (region_of image p.region) = ap (λ k. drop k (region_of new p.region)) (sym cut) ∙ sym (drop-drop n (at + length bytes) (region_of new p.region)) ∙ ap (drop n) w.after ∙ drop-drop n (at + length bytes) (region_of image p.region) ∙ ap (λ k. drop k (region_of image p.region)) cut in
    let rest = behind_same image new (continuations p.header) (all_map (λ r. r ≢ p.region) (λ r. region_of new r ≡ region_of image r) (λ r other. w.others r other) (continuations p.header) (lead_apart p room.apart)) in
    λ i. lead i ++ rest i

-- Fields that are put one behind the other.
use Rattle.std.proofs.Common.{◌≡◌, ◌≢◌, ℕ, zero, suc, ◌+◌, ◌-◌, ◌*◌, ◌<◌, ◌≤◌, List, [], ◌∷◌, ◌++◌, length, take, drop, refl, sym, ap, ◌∙◌, subst, arith, append_assoc, append-nil, take_at}
use Rattle.std.specs.Prelude.{replicate, flat_map, slice_index}
use Rattle.std.specs.Int.{to_be_bytes, w32, w64}
use Rattle.std.proofs.lemmas.List.{take_all, drop-drop, drop-replicate, take-append-drop}
use Rattle.std.proofs.lemmas.Slice.{take-put_mid, drop-put_mid}
use borrow.Rule.Slice.PartMut.{put_mid}
use Rattle.fine_model.specs.declared.Header.{Header}
use Rattle.fine_model.specs.declared.Mark.{Mark}
use Rattle.fine_model.specs.declared.Mark.TheVariants as mark
use Rattle.fine_model.specs.Regions.{header_bytes, mark_bytes, regions_bytes}
use Rattle.log_partition.specs.Headers.{Holds, front, padding}

pub put_field : (bytes field : List ℕ) (at n : ℕ) (text : List ℕ) → at + length field ≤ 69 → length bytes ≡ 69 → n ≡ length field → Holds bytes at text → Holds (put_mid at n bytes field) (at + length field) (text ++ field)
put_field bytes field at n text room long e h = record {
  front = take-put_mid at n bytes field (at + length field) refl (omega arith) ∙ ap (λ t. t ++ field) h.front;
  behind = drop-put_mid at n bytes field (at + length field) (omega arith) (omega arith) (sym e)
      ∙ sym (drop-drop (length field) at bytes) ∙ ap (drop (length field)) h.behind ∙ drop-replicate (length field) (69 - at) 0
      ∙ ap (λ k. replicate k 0) (let k : 69 - at - length field ≡ 69 - (at + length field) = omega arith in k);
}

pub whole : (bytes : List ℕ) (at : ℕ) (text : List ℕ) → Holds bytes at text → bytes ≡ text ++ replicate (69 - at) 0
whole bytes at text h = sym (take-append-drop at bytes) ∙ (λ i. h.front i ++ h.behind i)

-- seven fields, as they were put and as they are spelled
pub regrouped : (t m a b c d e f : List ℕ) → ((((((t ++ m) ++ a) ++ b) ++ c) ++ d) ++ e) ++ f ≡ t ++ ((((((m ++ a) ++ b) ++ c) ++ d) ++ e) ++ f)
regrouped t m a b c d e f =
    ap (λ x. ((((x ++ b) ++ c) ++ d) ++ e) ++ f) (append_assoc t m a) ∙ ap (λ x. (((x ++ c) ++ d) ++ e) ++ f) (append_assoc t (m ++ a) b)
    ∙ ap (λ x. ((x ++ d) ++ e) ++ f) (append_assoc t ((m ++ a) ++ b) c) ∙ ap (λ x. (x ++ e) ++ f) (append_assoc t (((m ++ a) ++ b) ++ c) d)
    ∙ ap (λ x. x ++ f) (append_assoc t ((((m ++ a) ++ b) ++ c) ++ d) e) ∙ append_assoc t (((((m ++ a) ++ b) ++ c) ++ d) ++ e) f

-- what was put, in the words of the format
pub spelled : (new : List ℕ) (at : ℕ) (text put field : List ℕ) → put ≡ field → Holds new (at + length put) (text ++ put) → Holds new (at + length field) (text ++ field)
spelled new at text put field e h = subst (λ x. Holds new (at + length x) (text ++ x)) e h

-- one item more
pub item_more : (f : ℕ → List ℕ) (ns : List ℕ) (i : ℕ) → i < length ns → flat_map f (take i ns) ++ f (slice_index ns i) ≡ flat_map f (take (suc i) ns)
item_more f [] i lt = absurd (omega (arith, lt))
item_more f (n ∷ ns) zero lt = sym (append-nil (f n))
item_more f (n ∷ ns) (suc i) lt = append_assoc (f n) (flat_map f (take i ns)) (f (slice_index ns i)) ∙ ap (λ t. f n ++ t) (item_more f ns i (omega (arith, lt)))

pub number_more : (old new : List ℕ) (text first : List ℕ) (ns : List ℕ) (i : ℕ) → i < length ns → Holds new (41 + 4 * i + 4) ((text ++ (first ++ flat_map (to_be_bytes w32) (take i ns))) ++ to_be_bytes w32 (slice_index ns i))
    → Holds new (41 + 4 * (i + 1)) (text ++ (first ++ flat_map (to_be_bytes w32) (take (i + 1) ns)))
number_more old new text first ns i lt h =
    let place : 41 + 4 * i + 4 ≡ 41 + 4 * (i + 1) = omega arith in
    let next : suc i ≡ i + 1 = omega arith in
    let words : (text ++ (first ++ flat_map (to_be_bytes w32) (take i ns))) ++ to_be_bytes w32 (slice_index ns i) ≡ text ++ (first ++ flat_map (to_be_bytes w32) (take (i + 1) ns)) = append_assoc text (first ++ flat_map (to_be_bytes w32) (take i ns)) (to_be_bytes w32 (slice_index ns i))
    ∙ ap (λ t. text ++ t) (append_assoc first (flat_map (to_be_bytes w32) (take i ns)) (to_be_bytes w32 (slice_index ns i)) ∙ ap (λ t. first ++ t) (item_more (to_be_bytes w32) ns i lt ∙ ap (λ k. flat_map (to_be_bytes w32) (take k ns)) next)) in
    subst (λ n. Holds new n (text ++ (first ++ flat_map (to_be_bytes w32) (take (i + 1) ns)))) place (subst (Holds new (41 + 4 * i + 4)) words h)

pub all_numbers : (new : List ℕ) (text first : List ℕ) (ns : List ℕ) (i : ℕ) → length ns ≡ 7 → i ≡ 7 → Holds new (41 + 4 * i) (text ++ (first ++ flat_map (to_be_bytes w32) (take i ns))) → Holds new 69 (text ++ (first ++ flat_map (to_be_bytes w32) ns))
all_numbers new text first ns i long end h =
    let place : 41 + 4 * i ≡ 69 = omega (arith, end) in
    subst (λ n. Holds new n (text ++ (first ++ flat_map (to_be_bytes w32) ns))) place
    (subst (λ xs. Holds new (41 + 4 * i) (text ++ (first ++ flat_map (to_be_bytes w32) xs))) (take_all i ns (omega (arith, long, end))) h)

-- the bytes of a header
pub whole_header : (region_len : ℕ) (header : Header) → header_bytes region_len header ≡ front region_len header ++ regions_bytes header.mark header
unfolding header_bytes front
whole_header region_len header = refl

pub three : (region_len : ℕ) (header : Header) → header.mark ≡ mark.Three → header_bytes region_len header ++ padding header.mark ≡ front region_len header ++ (header.regions ∷ flat_map (to_be_bytes w32) header.more)
three region_len header m =
    ap (λ k. header_bytes region_len header ++ padding k) m ∙ append-nil (header_bytes region_len header) ∙ whole_header region_len header ∙ ap (λ k. front region_len header ++ regions_bytes k header) m

pub older : (region_len : ℕ) (header : Header) → header.mark ≢ mark.Three → header_bytes region_len header ++ padding header.mark ≡ front region_len header ++ replicate 29 0
older region_len header m = by header.mark refl
  where
    by : (k : Mark) → header.mark ≡ k → header_bytes region_len header ++ padding header.mark ≡ front region_len header ++ replicate 29 0
    by mark.One e = ap (λ k. header_bytes region_len header ++ padding k) e ∙ ap (λ t. t ++ replicate 29 0) (whole_header region_len header ∙ ap (λ k. front region_len header ++ regions_bytes k header) e ∙ append-nil (front region_len header))
    by mark.Two e = ap (λ k. header_bytes region_len header ++ padding k) e ∙ ap (λ t. t ++ replicate 29 0) (whole_header region_len header ∙ ap (λ k. front region_len header ++ regions_bytes k header) e ∙ append-nil (front region_len header))
    by mark.Three e = absurd (m e)

pub nothing_yet : Holds (replicate 69 0) 0 []
nothing_yet = record { front = refl; behind = refl }

pub mark_long : (m : Mark) → length (mark_bytes m) ≡ 4
mark_long mark.One = refl
mark_long mark.Two = refl
mark_long mark.Three = refl

front_long : (region_len : ℕ) (header : Header) → header.mark ≡ mark.Two → length (front region_len header) ≡ 40
unfolding front
front_long region_len header m =
    ap (λ k. length (mark_bytes k ++ to_be_bytes w64 region_len ++ to_be_bytes w64 header.range.first ++ to_be_bytes w64 header.range.last ++ to_be_bytes w32 header.rows ++ to_be_bytes w32 header.nodes ++ to_be_bytes w32 header.area)) m

short_header : (region_len : ℕ) (header : Header) → header.mark ≡ mark.Two → header_bytes region_len header ≡ front region_len header
short_header region_len header m = whole_header region_len header ∙ ap (λ k. front region_len header ++ regions_bytes k header) m ∙ append-nil (front region_len header)

-- of a header of one region, the first 40 bytes count
pub first_forty : (region_len : ℕ) (header : Header) (bytes : List ℕ) → header.mark ≡ mark.Two → bytes ≡ header_bytes region_len header ++ padding header.mark → take 40 bytes ≡ header_bytes region_len header
first_forty region_len header bytes m e =
    ap (take 40) e ∙ take_at (header_bytes region_len header) (padding header.mark) 40 (ap length (short_header region_len header m) ∙ front_long region_len header m)

pub forty_long : (region_len : ℕ) (header : Header) (bytes : List ℕ) → header.mark ≡ mark.Two → bytes ≡ header_bytes region_len header ++ padding header.mark → length (take 40 bytes) ≡ 40
forty_long region_len header bytes m e = ap length (first_forty region_len header bytes m e ∙ short_header region_len header m) ∙ front_long region_len header m

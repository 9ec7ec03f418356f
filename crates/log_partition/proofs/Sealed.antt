-- What is written behind an open gate is in the grammar.
use Rattle.std.proofs.Common.{◌≡◌, ℕ, zero, suc, ◌+◌, ◌*◌, ◌≤◌, ◌==◌, Bool, true, false, cond, ◌&&◌, List, [], ◌∷◌, ◌++◌, map, length, drop, Some, None, Ok, refl, sym, ap, ◌∙◌, arith, append_assoc, append-nil, length-append, eq-eqb}
use Rattle.std.specs.Prelude.{filter, fold, replicate}
use Rattle.std.specs.Int.{w64}
use Rattle.std.proofs.Math.Dec.{eqb-suc-zero}
use Rattle.std.proofs.lemmas.Bool.{le-leb, true≢false}
use Rattle.std.proofs.lemmas.List.{length-map}
use Rattle.std.proofs.lemmas.List.Sums.{sum_by-cons}
use Rattle.std.proofs.lemmas.Nat.{from_be_bytes-to_be_bytes_4, from_be_bytes-to_be_bytes_8}
use Rattle.fine_model.specs.declared.Header.{Header}
use Rattle.fine_model.specs.declared.Mark.TheVariants as mark
use Rattle.fine_model.specs.declared.NodeId.{NodeId}
use Rattle.fine_model.specs.declared.Range.{Range}
use Rattle.fine_model.specs.declared.Row.{Row}
use Rattle.fine_model.specs.RowBytes.{row_len, rows_len, greatest}
use Rattle.fine_model.specs.Merge.{is_node_below, with_node, nodes_in, encoded_len}
use Rattle.fine_model.specs.Regions.{region_of, sealed_gate, header_of, header_bytes, body_bytes, body_in, partition_bytes, number_in, header_at, alike, header_tests, bad_field, header_in}
use Rattle.partition_index.proofs.NodeOrder.{below-asym}
use Rattle.log_partition.specs.Headers.{first_bad}
use Rattle.log_partition.specs.Encoding.{FitsRange, EncodeLaw}
use Rattle.fine_model.proofs.Chain.Headers.{header_good}

-- ---- rows and the nodes that they name

abbrev lower : NodeId → List NodeId → ℕ
lower id ids = length (filter (λ i. is_node_below i id) ids)

abbrev higher : NodeId → List NodeId → ℕ
higher id ids = length (filter (λ i. is_node_below id i) ids)

lower_of : (id i : NodeId) (ids : List NodeId) (t : Bool) → is_node_below i id ≡ t → lower id (i ∷ ids) ≡ cond t (suc (lower id ids)) (lower id ids)
lower_of id i ids true e = ap (λ t. length (cond t (i ∷ filter (λ j. is_node_below j id) ids) (filter (λ j. is_node_below j id) ids))) e
lower_of id i ids false e = ap (λ t. length (cond t (i ∷ filter (λ j. is_node_below j id) ids) (filter (λ j. is_node_below j id) ids))) e

higher_of : (id i : NodeId) (ids : List NodeId) (t : Bool) → is_node_below id i ≡ t → higher id (i ∷ ids) ≡ cond t (suc (higher id ids)) (higher id ids)
higher_of id i ids true e = ap (λ t. length (cond t (i ∷ filter (λ j. is_node_below id j) ids) (filter (λ j. is_node_below id j) ids))) e
higher_of id i ids false e = ap (λ t. length (cond t (i ∷ filter (λ j. is_node_below id j) ids) (filter (λ j. is_node_below id j) ids))) e

side : (id i : NodeId) (ids : List NodeId) → lower id ids + higher id ids ≤ length ids → (a b : Bool) → is_node_below i id ≡ a → is_node_below id i ≡ b → lower id (i ∷ ids) + higher id (i ∷ ids) ≤ length (i ∷ ids)
side id i ids so_far true true e f = absurd (true≢false (sym f ∙ below-asym i id e))
side id i ids so_far true false e f = omega (arith, so_far, lower_of id i ids true e, higher_of id i ids false f)
side id i ids so_far false true e f = omega (arith, so_far, lower_of id i ids false e, higher_of id i ids true f)
side id i ids so_far false false e f = omega (arith, so_far, lower_of id i ids false e, higher_of id i ids false f)

sides : (id : NodeId) (ids : List NodeId) → lower id ids + higher id ids ≤ length ids
sides id [] = omega arith
sides id (i ∷ ids) = side id i ids (sides id ids) (is_node_below i id) (is_node_below id i) refl refl

with_node_long : (ids : List NodeId) (id : NodeId) → (1 ≤ length (with_node ids id)) × (length (with_node ids id) ≤ length ids + 1)
with_node_long ids id =
    let both = length-append (filter (λ i. is_node_below i id) ids) (id ∷ filter (λ i. is_node_below id i) ids) in (omega (arith, both), omega (arith, both, sides id ids))

fold_long : (acc js : List NodeId) → (length (fold with_node acc js) ≤ length acc + length js) × (1 ≤ length acc → 1 ≤ length (fold with_node acc js))
fold_long acc [] = (omega arith, λ h. h)
fold_long acc (j ∷ js) =
    let more = with_node_long acc j in
    let rest = fold_long (with_node acc j) js in (omega (arith, rest.0, more.1), λ h. rest.1 more.0)

pub nodes_few : (rows : List Row) → length (nodes_in rows) ≤ length rows
unfolding nodes_in
nodes_few rows = omega (arith, (fold_long [] (map (λ r. r.node) rows)).0, length-map rows (λ r. r.node))

pub nodes_some : (row : Row) (rows : List Row) → 1 ≤ length (nodes_in (row ∷ rows))
unfolding nodes_in
nodes_some row rows = (fold_long (with_node [] row.node) (map (λ r. r.node) rows)).1 (with_node_long [] row.node).0

pub rows_most : (rows : List Row) → 19 * length rows ≤ rows_len rows
rows_most [] = omega arith
rows_most (row ∷ rows) = omega (arith, rows_most rows, sum_by-cons row_len row rows)

pub both_zero : (a b : ℕ) → (a ≡ 0 → b ≡ 0) → (b ≡ 0 → a ≡ 0) → alike (a == 0) (b == 0) ≡ true
both_zero zero zero f g = refl
both_zero zero (suc b) f g = absurd (omega (arith, f refl))
both_zero (suc a) zero f g = absurd (omega (arith, g refl))
both_zero (suc a) (suc b) f g = let x : (suc a == 0) ≡ false = eqb-suc-zero a in let y : (suc b == 0) ≡ false = eqb-suc-zero b in rw (x, y) refl

pub and_true : (a b : Bool) → a ≡ true → b ≡ true → (a && b) ≡ true
and_true true b e f = f
and_true false b e f = absurd (true≢false (sym e))

-- ---- the header

module _ (region_len : ℕ) (range : Range) (rows : List Row) (behind : List ℕ) (small : region_len ≤ 67108864) (epochs : FitsRange range) (room : encoded_len rows ≤ region_len) where
  abbrev bytes : List ℕ
  bytes = sealed_gate ∷ (header_bytes region_len (header_of range rows) ++ behind)

  pub spelled_header : header_at bytes ≡ header_of range rows
  unfolding header_at header_bytes
  spelled_header =
      let first = from_be_bytes-to_be_bytes_8 range.first (omega (arith, epochs.order, epochs.high)) in
      let last = from_be_bytes-to_be_bytes_8 range.last (omega (arith, epochs.high)) in
      let count = from_be_bytes-to_be_bytes_4 (length rows) (omega (arith, rows_most rows, room, small)) in
      let nodes = from_be_bytes-to_be_bytes_4 (length (nodes_in rows)) (omega (arith, room, small)) in
      let area = from_be_bytes-to_be_bytes_4 (rows_len rows) (omega (arith, room, small)) in
      λ i. record { mark = mark.Two; range = record { first = first i; last = last i }; rows = count i; nodes = nodes i; area = area i; regions = 1; more = replicate 7 0 }

  spelled_length : number_in w64 5 bytes ≡ region_len
  unfolding header_bytes
  spelled_length = from_be_bytes-to_be_bytes_8 region_len (omega (arith, small))

  none_or_some : (rs : List Row) → (length (nodes_in rs) ≡ 0 → length rs ≡ 0) × (rows_len rs ≡ 0 → length rs ≡ 0)
  none_or_some [] = (λ e. refl, λ e. refl)
  none_or_some (r ∷ rs) = (λ e. absurd (omega (arith, e, nodes_some r rs)), λ e. absurd (omega (arith, e, rows_most (r ∷ rs))))

  no_rows_long : (rs : List Row) → length rs ≡ 0 → rows_len rs ≡ 0
  no_rows_long [] e = refl
  no_rows_long (r ∷ rs) e = absurd (omega (arith, e))

  no_bad_field : (regions lead : ℕ) → bad_field region_len regions lead bytes ≡ None
  unfolding bad_field header_tests header_bytes
  no_bad_field regions lead =
      let t5 : (number_in w64 5 bytes == region_len) ≡ true = eq-eqb (number_in w64 5 bytes) region_len spelled_length in
      let t13 = and_true _ _ (le-leb 1 range.first epochs.low) (le-leb range.first greatest (omega (arith, epochs.order, epochs.high))) in
      let t21 = and_true _ _ (le-leb range.first range.last epochs.order) (le-leb range.last greatest epochs.high) in
      let t33 = and_true _ _ (le-leb (length (nodes_in rows)) (length rows) (nodes_few rows)) (both_zero (length (nodes_in rows)) (length rows) (none_or_some rows).0 (λ e. omega (arith, e, nodes_few rows))) in
      let t37 = and_true _ _ (le-leb (41 + (rows_len rows + 14 * length (nodes_in rows))) region_len (omega (arith, room))) (both_zero (rows_len rows) (length rows) (none_or_some rows).1 (no_rows_long rows)) in
      ap (λ h. first_bad (header_tests region_len regions lead bytes h)) spelled_header ∙ rw (t5, t13, t21, t33, t37) refl

  pub good_header : (regions lead : ℕ) → header_in region_len regions lead bytes ≡ Ok (Some (header_of range rows))
  good_header regions lead = header_good region_len regions lead bytes refl (no_bad_field regions lead) ∙ ap (λ (h : Header). Ok (Some h)) spelled_header

pub sealed_again : EncodeLaw
unfolding partition_bytes body_in header_bytes
sealed_again region_len range rows image lead rest small epochs fit ordered room e =
    let h : List ℕ = header_bytes region_len (header_of range rows) in
    let words : region_of image lead ≡ sealed_gate ∷ (h ++ (body_bytes rows ++ rest)) = e ∙ ap (λ t. sealed_gate ∷ t) (append_assoc h (body_bytes rows) rest) in
    record {
      header = header_of range rows;
      has_header = ap (header_in region_len (length image) lead) words ∙ good_header region_len range rows (body_bytes rows ++ rest) small epochs room (length image) lead;
      of_range = refl;
      of_rows = (refl, refl, refl);
      rows_fit = fit;
      ordered = ordered;
      spelled = (rest, append-nil (drop 41 (region_of image lead)) ∙ ap (drop 41) words);
    }

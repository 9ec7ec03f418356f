-- Rows that are read one after the other.
use Rattle.std.proofs.Common.{◌≡◌, ℕ, suc, ◌+◌, ◌-◌, ◌<◌, ◌≤◌, Bool, true, false, ◌&&◌, List, [], ◌∷◌, ◌++◌, length, drop, Option, Some, refl, sym, ap, ◌∙◌, inl, inr, arith, append_assoc, append-nil, length-append, length-drop, drop_at}
use Rattle.std.specs.Prelude.{slice_get, flat_map, not}
use Rattle.std.specs.List.{AllByRecursion}
use Rattle.std.specs.Ordering.{nat_cmp, ordering_reverse, ordering_then, is_lt}
use Rattle.std.specs.declared.cmp.Ordering.{Ordering}
use Rattle.std.specs.declared.cmp.Ordering.TheVariants.{Less, Equal, Greater}
use Rattle.std.specs.Cmp.{IsTotalOrder}
use Rattle.std.proofs.lemmas.Cmp.{nat_cmp_total, on_total, then_total}
use Rattle.std.proofs.Math.ListN.{drop_of_length-le}
use Rattle.std.proofs.lemmas.Bool.{true≢false}
use Rattle.std.proofs.lemmas.Grind.{flat_map-append}
use Rattle.std.proofs.lemmas.List.Sums.{sum_by-append}
use Rattle.fine_model.specs.declared.Header.{Header}
use Rattle.fine_model.specs.declared.Mark.{Mark}
use Rattle.fine_model.specs.declared.Row.{Row}
use Rattle.fine_model.specs.RowBytes.{row_bytes, row_len, rows_bytes, rows_len, FitsRow, FitsRec, BeginsWithRow}
use Rattle.fine_model.specs.Merge.{node_cmp, is_row_below, is_ordered}
use Rattle.fine_model.specs.Regions.{row_area, BeginsWithRows, IsBadRow}
use Rattle.fine_model.proofs.Merging.NodesIn.{nodes_total}
use Rattle.fine_model.proofs.Ordered.Order.{first_of_both, all_map}
use Rattle.fine_model.proofs.Ordered.Sets.{all_append}
use Rattle.fine_model.proofs.Chain.Spelling.{row_spelling}
use Rattle.fine_model.proofs.Chain.Grammar.{rows_long}
use Rattle.node_record.specs.Rows.{IsRowAt, IsNoRowAt}
use Rattle.partition_index.specs.Index.{is_rising}
use Rattle.log_partition.specs.Bodies.{ReadSoFar, AreTheRows, HaveLengths}

and_true : (b : Bool) → (b && true) ≡ b
and_true true = refl
and_true false = refl

some_same : {A : Type 0} (a b : A) → ◌≡◌ {A = Option A} (Some a) (Some b) → a ≡ b
some_same a b e = cc

-- rows in order, with one more behind the last
pub ordered_more : (rows : List Row) (last row : Row) → is_ordered rows ≡ true → slice_get rows (length rows - 1) ≡ Some last → is_ordered (rows ++ row ∷ []) ≡ is_row_below last row
ordered_more [] last row o e = absurd (cc)
ordered_more (a ∷ []) last row o e = and_true (is_row_below a row) ∙ ap (λ r. is_row_below r row) (some_same a last e)
ordered_more (a ∷ b ∷ rows) last row o e =
    let s = first_of_both (is_row_below a b) (is_ordered (b ∷ rows)) o in
    let k : length (a ∷ b ∷ rows) - 1 ≡ suc (length (b ∷ rows) - 1) = omega arith in
    let e' : slice_get (b ∷ rows) (length (b ∷ rows) - 1) ≡ Some last = sym (ap (slice_get (a ∷ b ∷ rows)) k) ∙ e in
    ap (λ t. t && is_ordered (b ∷ (rows ++ row ∷ []))) s.0 ∙ ordered_more (b ∷ rows) last row s.1 e'

-- rows that ascend strictly ascend
rows_total : IsTotalOrder (λ (a b : Row). ordering_then (node_cmp a.node b.node) (nat_cmp a.version b.version))
rows_total = then_total (on_total (λ r. r.node) nodes_total) (on_total (λ r. r.version) nat_cmp_total)

less : (o : Ordering) → is_lt o ≡ true → o ≡ Less
less Less h = refl
less Equal h = absurd (true≢false (sym h))
less Greater h = absurd (true≢false (sym h))

not_back : (a b : Row) → is_row_below a b ≡ true → is_row_below b a ≡ false
not_back a b h = ap is_lt (rows_total.antisymm b a ∙ ap ordering_reverse (less (ordering_then (node_cmp a.node b.node) (nat_cmp a.version b.version)) h))

pub rises : (rows : List Row) → is_ordered rows ≡ true → is_rising rows ≡ true
rises [] o = refl
rises (a ∷ []) o = refl
rises (a ∷ b ∷ rows) o =
    let s = first_of_both (is_row_below a b) (is_ordered (b ∷ rows)) o in
    ap (λ t. not t && is_rising (b ∷ rows)) (not_back a b s.0) ∙ rises (b ∷ rows) s.1

-- ---- the rows so far

rows_more : (rows : List Row) (row : Row) → rows_bytes (rows ++ row ∷ []) ≡ rows_bytes rows ++ row_bytes row
unfolding rows_bytes
rows_more rows row = flat_map-append row_bytes rows (row ∷ []) ∙ ap (λ t. flat_map row_bytes rows ++ t) (append-nil (row_bytes row))

len_more : (rows : List Row) (row : Row) → rows_len (rows ++ row ∷ []) ≡ rows_len rows + row_len row
len_more rows row = sum_by-append row_len rows (row ∷ []) ∙ (let e : rows_len (row ∷ []) ≡ row_len row = omega arith in ap (λ n. rows_len rows + n) e)

pub none_read : (mark : Mark) (area : List ℕ) → ReadSoFar mark area [] 0
unfolding rows_bytes
none_read mark area = record { fit = tt; ordered = refl; spelled = refl; place = refl; within = omega arith }

pub read_more : (mark : Mark) (area : List ℕ) (rows : List Row) (at : ℕ) (row : Row) (end : ℕ) → ReadSoFar mark area rows at → IsRowAt mark area at row end → is_ordered (rows ++ row ∷ []) ≡ true → ReadSoFar mark area (rows ++ row ∷ []) end
read_more mark area rows at row end s r o = record {
  fit = all_append (FitsRow mark) rows (row ∷ []) s.fit (r.begins.fits, tt);
  ordered = o;
  spelled = s.spelled ∙ ap (λ t. rows_bytes rows ++ t) r.begins.spelled ∙ sym (append_assoc (rows_bytes rows) (row_bytes row) (drop end area)) ∙ ap (λ t. t ++ drop end area) (sym (rows_more rows row));
  place = r.ends ∙ ap (λ n. n + row_len row) s.place ∙ sym (len_more rows row);
  within = r.within;
}

last_fits : (P : Row → Type 0) (rows : List Row) (row : Row) → AllByRecursion P (rows ++ row ∷ []) → P row
last_fits P [] row all = all.0
last_fits P (r ∷ rows) row all = last_fits P rows row all.1

good_front : (header : Header) (body : List ℕ) (rows : List Row) (at : ℕ) → ReadSoFar header.mark (row_area header body) rows at → length rows ≤ header.rows → BeginsWithRows header body rows (drop at (row_area header body))
good_front header body rows at s few = record { fit = s.fit; ordered = s.ordered; spelled = s.spelled; counted = few }

-- a row that would go on is what stands there
goes_on : (header : Header) (body : List ℕ) (rows : List Row) (at : ℕ) (row : Row) (more : List ℕ) → ReadSoFar header.mark (row_area header body) rows at → BeginsWithRows header body (rows ++ row ∷ []) more
    → BeginsWithRow header.mark (drop at (row_area header body)) row more
goes_on header body rows at row more s b =
    let words : row_area header body ≡ rows_bytes rows ++ (row_bytes row ++ more) = b.spelled ∙ ap (λ t. t ++ more) (rows_more rows row) ∙ append_assoc (rows_bytes rows) (row_bytes row) more in
    record {
      fits = last_fits (FitsRow header.mark) rows row b.fit;
      spelled = ap (drop at) words ∙ drop_at (rows_bytes rows) (row_bytes row ++ more) at (rows_long rows ∙ sym s.place);
    }

pub bad_row : (header : Header) (body : List ℕ) (rows : List Row) (at : ℕ) → ReadSoFar header.mark (row_area header body) rows at → length rows < header.rows → IsNoRowAt header.mark (row_area header body) at → IsBadRow header body at
bad_row header body rows at s few none = record {
  rows = rows;
  rest = drop at (row_area header body);
  good = good_front header body rows at s (omega (arith, few));
  place = s.place;
  unfinished = inl few;
  last = λ row more b. none.none row more (goes_on header body rows at row more s b);
}

pub unordered_row : (header : Header) (body : List ℕ) (rows : List Row) (at : ℕ) (row : Row) (end : ℕ) → ReadSoFar header.mark (row_area header body) rows at → length rows < header.rows → IsRowAt header.mark (row_area header body) at row end
    → is_ordered (rows ++ row ∷ []) ≡ false → IsBadRow header body at
unordered_row header body rows at row end s few r o = record {
  rows = rows;
  rest = drop at (row_area header body);
  good = good_front header body rows at s (omega (arith, few));
  place = s.place;
  unfinished = inl few;
  last = λ other more b.
      let w = goes_on header body rows at other more s b in
      let same = row_spelling header.mark row other (drop end (row_area header body)) more r.begins.fits w.fits (sym r.begins.spelled ∙ w.spelled) in
      true≢false (sym b.ordered ∙ ap (λ x. is_ordered (rows ++ x ∷ [])) (sym same.0) ∙ o);
}

pub bytes_left : (header : Header) (body : List ℕ) (rows : List Row) (at : ℕ) → ReadSoFar header.mark (row_area header body) rows at → length rows ≡ header.rows → at < length (row_area header body) → IsBadRow header body at
bytes_left header body rows at s all left = record {
  rows = rows;
  rest = drop at (row_area header body);
  good = good_front header body rows at s (omega (arith, all));
  place = s.place;
  unfinished = inr (λ none. let n = ap length none in omega (arith, n, left, length-drop at (row_area header body)));
  last = λ row more b. let c = b.counted in omega (arith, c, all, length-append rows (row ∷ []));
}

pub all_read : (header : Header) (body : List ℕ) (rows : List Row) (at : ℕ) → ReadSoFar header.mark (row_area header body) rows at → length rows ≡ header.rows → length (row_area header body) ≡ header.area → length (row_area header body) ≤ at
    → AreTheRows header body rows
all_read header body rows at s all long end =
    let same : at ≡ length (row_area header body) = omega (arith, s.within, end) in
    let none : drop at (row_area header body) ≡ [] = drop_none at (row_area header body) end in
    record {
      good = record { fit = s.fit; ordered = s.ordered; spelled = s.spelled ∙ ap (λ t. rows_bytes rows ++ t) none; counted = omega (arith, all) };
      all = all;
      area = sym long ∙ sym same ∙ s.place;
    }
  where
    drop_none : (n : ℕ) (xs : List ℕ) → length xs ≤ n → drop n xs ≡ []
    drop_none n xs le = drop_of_length-le xs le

-- rows of a format have bodies that have a spelling
pub lengths : (mark : Mark) (rows : List Row) → AllByRecursion (FitsRow mark) rows → HaveLengths rows
lengths mark rows fit = all_map (FitsRow mark) (λ row. FitsRec row.rec) (λ row h. h.rec) rows fit

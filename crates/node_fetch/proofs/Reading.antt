-- Rows of one node that are read one after the other.
use Rattle.std.proofs.Common.{◌≡◌, ◌≢◌, ℕ, ◌+◌, ◌<◌, ◌≤◌, nat_lt, Bool, true, false, cond, ◌==◌, ◌&&◌, List, [], ◌∷◌, ◌++◌, length, drop, refl, sym, ap, ◌∙◌, subst, inl, inr, arith, append_assoc, append-nil, length-append, length-drop, Less, Equal, Greater}
use Rattle.std.specs.Prelude.{flat_map, Option, Some, None}
use Rattle.std.specs.List.{AllByRecursion}
use Rattle.std.specs.Ordering.{is_lt, nat_cmp, ordering_then}
use Rattle.std.proofs.lemmas.Cmp.{tied_itself}
use Rattle.std.proofs.lemmas.List.{nil_from_length}
use Rattle.std.proofs.Math.Bool.{and_assoc}
use Rattle.std.proofs.lemmas.List.Sums.{sum_by-append}
use Rattle.fine_model.specs.declared.Mark.{Mark}
use Rattle.fine_model.specs.declared.NodeId.{NodeId}
use Rattle.fine_model.specs.declared.Row.{Row}
use Rattle.fine_model.specs.RowBytes.{row_bytes, row_len, rows_bytes, rows_len, FitsRow}
use Rattle.fine_model.specs.Merge.{is_ordered, is_row_below, node_cmp}
use Rattle.fine_model.proofs.Chain.Grammar.{rows_begin, rows_bytes-append}
use Rattle.fine_model.proofs.Merging.NodesIn.{nodes_total}
use Rattle.fine_model.proofs.Ordered.Sets.{all_append}
use Rattle.fine_model.proofs.Chain.Spelling.{row_spelling}
use Rattle.fine_model.proofs.Ordered.Zip.{all_right}
use Rattle.node_record.specs.Rows.{IsRowAt, IsFrameOf, IsFrameAt}
use Rattle.node_record.specs.declared.frames.Frame.{Frame}
use Rattle.node_fetch.specs.declared.frames.Frames.{Frames}
use Rattle.node_fetch.specs.Spans.{ReadSoFar, ReadsAll, IsStop, AreFramesOf, FramedSoFar, last_row, with_frame}

pub rows_more : (rows : List Row) (row : Row) → rows_bytes (rows ++ row ∷ []) ≡ rows_bytes rows ++ row_bytes row
unfolding rows_bytes
rows_more rows row = rows_bytes-append rows (row ∷ []) ∙ ap (λ t. flat_map row_bytes rows ++ t) (append-nil (row_bytes row))

len_more : (rows : List Row) (row : Row) → rows_len (rows ++ row ∷ []) ≡ rows_len rows + row_len row
len_more rows row = sum_by-append row_len rows (row ∷ []) ∙ (let e : rows_len (row ∷ []) ≡ row_len row = omega arith in ap (λ n. rows_len rows + n) e)

pub read_none : (mark : Mark) (bytes : List ℕ) (id : NodeId) → ReadSoFar mark bytes id [] 0
unfolding rows_bytes
read_none mark bytes id = record { fit = tt; of_node = tt; spelled = refl; place = refl; within = omega arith }

pub read_more : (mark : Mark) (bytes : List ℕ) (id : NodeId) (rows : List Row) (at : ℕ) (row : Row) (end : ℕ) → ReadSoFar mark bytes id rows at → IsRowAt mark bytes at row end → row.node ≡ id → ReadSoFar mark bytes id (rows ++ row ∷ []) end
read_more mark bytes id rows at row end s r same = record {
  fit = all_append (FitsRow mark) rows (row ∷ []) s.fit (r.begins.fits, tt);
  of_node = all_append (λ x. x.node ≡ id) rows (row ∷ []) s.of_node (same, tt);
  spelled = s.spelled ∙ ap (λ t. rows_bytes rows ++ t) r.begins.spelled ∙ sym (append_assoc (rows_bytes rows) (row_bytes row) (drop end bytes)) ∙ ap (λ t. t ++ drop end bytes) (sym (rows_more rows row));
  place = r.ends ∙ ap (λ n. n + row_len row) s.place ∙ sym (len_more rows row);
  within = r.within;
}

-- the row there is of another node
pub stops_at_other : (mark : Mark) (bytes : List ℕ) (id : NodeId) (rows : List Row) (at count : ℕ) (row : Row) (end : ℕ) → ReadSoFar mark bytes id rows at → length rows < count → IsRowAt mark bytes at row end → row.node ≢ id → IsStop mark bytes id count at
stops_at_other mark bytes id rows at count row end s few r other = record {
  rows = rows;
  so_far = s;
  why = inl (
    few,
    record {
      none = λ row' rest begins same.
          let e = row_spelling mark row row' (drop end bytes) rest r.begins.fits begins.fits (sym r.begins.spelled ∙ begins.spelled) in
          other (ap (λ x. x.node) e.0 ∙ same);
    },
  );
}

-- bytes are so many rows of a node in one way
pub reads_once : (mark : Mark) (bytes : List ℕ) (id : NodeId) (count : ℕ) (a b : List Row) → ReadsAll mark bytes id count a → ReadsAll mark bytes id count b → a ≡ b
reads_once mark bytes id count a b r s =
    let begin = rows_begin mark a b (drop (length bytes) bytes) (drop (length bytes) bytes) (omega (arith, r.counted, s.counted)) r.so_far.fit s.so_far.fit (sym r.so_far.spelled ∙ s.so_far.spelled) in
    let none : begin.0 ≡ [] = nil_from_length begin.0 (omega (arith, ap length begin.1, length-append a begin.0, r.counted, s.counted)) in
    sym (begin.1 ∙ ap (λ xs. a ++ xs) none ∙ append-nil a)

-- reading does not stop in bytes that are so many rows of a node
pub reads_on : (mark : Mark) (bytes : List ℕ) (id : NodeId) (count at : ℕ) (own : List Row) → ReadsAll mark bytes id count own → IsStop mark bytes id count at → ⊥
unfolding rows_bytes
reads_on mark bytes id count at own r stop =
    let few : length stop.rows ≤ count = elim stop.why as (λ _. length stop.rows ≤ count) [
      | inl missing ↦ let less = missing.0 in omega (arith, less)
      | inr left ↦ let all = left.0 in omega (arith, all)
    ] in
    by (rows_begin mark stop.rows own (drop at bytes) (drop (length bytes) bytes) (omega (arith, few, r.counted)) stop.so_far.fit r.so_far.fit (sym stop.so_far.spelled ∙ r.so_far.spelled))
  where
    by : (more : List Row) × (own ≡ stop.rows ++ more) × (drop at bytes ≡ rows_bytes more ++ drop (length bytes) bytes) → ⊥
    by ([], all, rest) =
        let long = ap length all in
        let left = ap length rest in
        elim stop.why as (λ _. ⊥) [
          | inl missing ↦ let less = missing.0 in omega (arith, less, long, length-append stop.rows [], r.counted)
          | inr over ↦ let behind = over.1 in omega (arith, behind, left, length-drop at bytes, length-drop (length bytes) bytes)
        ]
    by (row ∷ more, all, rest) =
        let fit = all_right (FitsRow mark) stop.rows (row ∷ more) (subst (AllByRecursion (FitsRow mark)) all r.so_far.fit) in
        let same = all_right (λ x. x.node ≡ id) stop.rows (row ∷ more) (subst (AllByRecursion (λ x. x.node ≡ id)) all r.so_far.of_node) in
        let long = ap length all in
        elim stop.why as (λ _. ⊥) [
          | inl missing ↦ missing.1.none row (rows_bytes more ++ drop (length bytes) bytes) (record { fits = fit.0; spelled = rest ∙ append_assoc (row_bytes row) (rows_bytes more) (drop (length bytes) bytes) }) same.0
          | inr over ↦ let full = over.0 in omega (arith, full, long, length-append stop.rows (row ∷ more), r.counted)
        ]

-- ---- rows that are framed

-- a row is below one of the same node where its version is
pub below_version : (a b : Row) → a.node ≡ b.node → is_row_below a b ≡ nat_lt a.version b.version
below_version a b same =
    ap (λ n. is_lt (ordering_then (node_cmp a.node n) (nat_cmp a.version b.version))) (sym same) ∙ ap (λ o. is_lt (ordering_then o (nat_cmp a.version b.version))) (tied_itself nodes_total a.node)
    ∙ by (nat_lt a.version b.version) (a.version == b.version)
  where
    by : (less tied : Bool) → is_lt (cond less Less (cond tied Equal Greater)) ≡ less
    by true tied = refl
    by false true = refl
    by false false = refl

-- rows of a node with one more behind them
ordered_more : (id : NodeId) (row : Row) (rows : List Row) (next : Row) → row.node ≡ id → AllByRecursion (λ x. x.node ≡ id) rows → next.node ≡ id
    → is_ordered (row ∷ (rows ++ next ∷ [])) ≡ (is_ordered (row ∷ rows) && nat_lt (last_row row rows).version next.version)
ordered_more id row [] next own all same = and_true (is_row_below row next) ∙ below_version row next (own ∙ sym same)
  where
    and_true : (a : Bool) → (a && true) ≡ a
    and_true true = refl
    and_true false = refl
ordered_more id row (x ∷ rows) next own all same = ap (λ t. is_row_below row x && t) (ordered_more id x rows next all.0 all.1 same) ∙ sym (and_assoc (is_row_below row x) (is_ordered (x ∷ rows)) (nat_lt (last_row x rows).version next.version))

last_more : (row : Row) (rows : List Row) (next : Row) → last_row row (rows ++ next ∷ []) ≡ next
last_more row [] next = refl
last_more row (x ∷ rows) next = last_more x rows next

frames_more : (id : NodeId) (rows : List Row) (frames : Option Frames) (row : Row) (frame : Frame) → AllByRecursion (λ x. x.node ≡ id) rows → row.node ≡ id → AreFramesOf rows frames → IsFrameOf row frame
    → AreFramesOf (rows ++ row ∷ []) (Some (with_frame frames frame))
frames_more id [] None row frame all own is f = record { first = f.version; last = f.version; image = f.image; ascend = refl }
frames_more id [] (Some a) row frame all own is f = absurd is
frames_more id (x ∷ rows) None row frame all own is f = absurd is
frames_more id (x ∷ rows) (Some a) row frame all own is f = record {
  first = is.first;
  image = is.image;
  last = f.version ∙ sym (ap (λ (r : Row). r.version) (last_more x rows row));
  ascend = (λ i. is.ascend i && nat_lt (is.last i) (f.version i)) ∙ sym (ordered_more id x rows row all.0 all.1 own);
}

pub framed_none : (mark : Mark) (bytes : List ℕ) (id : NodeId) → FramedSoFar mark bytes id 0 0 None
framed_none mark bytes id = record { rows = []; so_far = read_none mark bytes id; counted = refl; are_frames = tt }

pub framed_more : (mark : Mark) (bytes : List ℕ) (id : NodeId) (count at : ℕ) (frames : Option Frames) (frame : Frame) → FramedSoFar mark bytes id count at frames → IsFrameAt mark bytes at frame → frame.node ≡ id
    → FramedSoFar mark bytes id (count + 1) frame.end (Some (with_frame frames frame))
framed_more mark bytes id count at frames frame s f same = record {
  rows = s.rows ++ f.row ∷ [];
  so_far = read_more mark bytes id s.rows at f.row frame.end s.so_far f.is_row (sym f.is_of.node ∙ same);
  counted = length-append s.rows (f.row ∷ []) ∙ ap (λ n. n + 1) s.counted;
  are_frames = frames_more id s.rows frames f.row frame s.so_far.of_node (sym f.is_of.node ∙ same) s.are_frames f.is_of;
}

pub framed_other : (mark : Mark) (bytes : List ℕ) (id : NodeId) (count done at : ℕ) (frames : Option Frames) (frame : Frame) → FramedSoFar mark bytes id done at frames → done < count → IsFrameAt mark bytes at frame → frame.node ≢ id
    → IsStop mark bytes id count at
framed_other mark bytes id count done at frames frame s few f other = stops_at_other mark bytes id s.rows at count f.row frame.end s.so_far (omega (arith, s.counted, few)) f.is_row (λ same. other (f.is_of.node ∙ same))

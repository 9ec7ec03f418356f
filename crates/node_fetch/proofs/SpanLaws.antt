-- The rows that a span holds: they are the only ones, and then no place of it is bad.
use Rattle.std.proofs.Common.{◌≡◌, ◌⊎◌, ℕ, ◌+◌, ◌<◌, ◌≤◌, List, [], ◌∷◌, ◌++◌, length, drop, sym, ap, ◌∙◌, subst, inl, inr, arith, append_assoc, append-nil, length-append, length-drop, drop_at}
use Rattle.std.specs.List.{AllByRecursion}
use Rattle.std.proofs.lemmas.List.{nil_from_length}
use Rattle.fine_model.specs.declared.Header.{Header}
use Rattle.fine_model.specs.declared.NodeId.{NodeId}
use Rattle.fine_model.specs.declared.Row.{Row}
use Rattle.fine_model.specs.RowBytes.{row_bytes, rows_bytes, FitsRow}
use Rattle.fine_model.specs.Seek.{RowSpan, SpanBegins, SpanHolds, IsBadInSpan, span_bytes}
use Rattle.fine_model.proofs.Chain.Grammar.{all_finished, following, rows_begin, rows_long}
use Rattle.fine_model.proofs.Ordered.Zip.{all_left, all_right}
use Rattle.node_fetch.specs.Spans.{ReadSoFar, ReadsAll, IsStop, IsNoRowOf}
use Rattle.node_fetch.proofs.Reading.{rows_more}

module _ (header : Header) (body : List ℕ) (span : RowSpan) (id : NodeId) (own : List Row) (h : SpanHolds header body span id own) where
  -- good rows are the front of all rows
  front : (good : List Row) (more : List ℕ) → SpanBegins header body span id good more → (others : List Row) × (own ≡ good ++ others) × (more ≡ rows_bytes others ++ [])
  front good more b = rows_begin header.mark good own more [] (omega (arith, b.counted, h.all)) b.fit h.begins.fit (sym b.spelled ∙ h.begins.spelled)

  pub holds_same : (rows : List Row) → SpanHolds header body span id rows → rows ≡ own
  holds_same rows r =
      let f = front rows [] r.begins in
      let none : f.0 ≡ [] = nil_from_length f.0 (omega (arith, ap length f.1, length-append rows f.0, r.all, h.all)) in
      sym (f.1 ∙ ap (λ xs. rows ++ xs) none ∙ append-nil rows)

  pub never_bad : (at : ℕ) → IsBadInSpan header body span id at → ⊥
  unfolding rows_bytes
  never_bad at b = by (front b.rows b.rest b.good)
    where
      by : (others : List Row) × (own ≡ b.rows ++ others) × (b.rest ≡ rows_bytes others ++ []) → ⊥
      by ([], all, none) = all_finished own b.rows b.rest span.rows (sym h.all) all none b.unfinished
      by (row ∷ others, all, more) =
          let f = following header.mark own b.rows row others all h.begins.fit in
          b.last row (rows_bytes others) (record {
            fit = f.fit;
            of_node = all_left (λ r. r.node ≡ id) (b.rows ++ row ∷ []) others (subst (AllByRecursion (λ r. r.node ≡ id)) f.whole h.begins.of_node);
            spelled = h.begins.spelled ∙ append-nil (rows_bytes own) ∙ f.spelled;
            counted = let c = f.counted in omega (arith, c, h.all);
          })

-- what was read of the bytes of a span
module _ (header : Header) (body : List ℕ) (span : RowSpan) (id : NodeId) (bytes : List ℕ) (is : bytes ≡ span_bytes header body span) where
  begun : (rows : List Row) (at : ℕ) → ReadSoFar header.mark bytes id rows at → length rows ≤ span.rows → SpanBegins header body span id rows (drop at bytes)
  begun rows at s few = record { fit = s.fit; of_node = s.of_node; spelled = sym is ∙ s.spelled; counted = few }

  pub all_held : (rows : List Row) → ReadsAll header.mark bytes id span.rows rows → SpanHolds header body span id rows
  all_held rows r =
      let none : drop (length bytes) bytes ≡ [] = nil_from_length (drop (length bytes) bytes) (omega (arith, length-drop (length bytes) bytes)) in
      record {
        begins = subst (SpanBegins header body span id rows) none (begun rows (length bytes) r.so_far (omega (arith, r.counted)));
        all = r.counted;
      }

  -- a row that would go on is what stands there
  goes_on : (rows : List Row) (at : ℕ) (row : Row) (more : List ℕ) → ReadSoFar header.mark bytes id rows at → SpanBegins header body span id (rows ++ row ∷ []) more → drop at bytes ≡ row_bytes row ++ more
  goes_on rows at row more s b =
      let words : bytes ≡ rows_bytes rows ++ (row_bytes row ++ more) = is ∙ b.spelled ∙ ap (λ t. t ++ more) (rows_more rows row) ∙ append_assoc (rows_bytes rows) (row_bytes row) more in
      ap (drop at) words ∙ drop_at (rows_bytes rows) (row_bytes row ++ more) at (rows_long rows ∙ sym s.place)

  pub stop_is_bad : (at : ℕ) → IsStop header.mark bytes id span.rows at → IsBadInSpan header body span id (span.at + at)
  stop_is_bad at t = by t.why
    where
      by : ((length t.rows < span.rows) × IsNoRowOf header.mark bytes id at) ⊎ ((length t.rows ≡ span.rows) × (at < length bytes)) → IsBadInSpan header body span id (span.at + at)
      by (inl missing) = record {
        rows = t.rows;
        rest = drop at bytes;
        good = begun t.rows at t.so_far (omega (arith, missing.0));
        place = ap (λ n. span.at + n) t.so_far.place;
        unfinished = inl missing.0;
        last = λ row more b.
            missing.1.none row more (record { fits = (all_right (FitsRow header.mark) t.rows (row ∷ []) b.fit).0; spelled = goes_on t.rows at row more t.so_far b }) (all_right (λ r. r.node ≡ id) t.rows (row ∷ []) b.of_node).0;
      }
      by (inr left) = record {
        rows = t.rows;
        rest = drop at bytes;
        good = begun t.rows at t.so_far (omega (arith, left.0));
        place = ap (λ n. span.at + n) t.so_far.place;
        unfinished = inr (λ none. let n = ap length none in omega (arith, n, left.1, length-drop at bytes));
        last = λ row more b. let c = b.counted in omega (arith, c, left.0, length-append t.rows (row ∷ []));
      }

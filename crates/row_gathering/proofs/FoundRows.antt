-- Rows that are found one after the other, with their keys.
use Rattle.std.proofs.Common.{◌≡◌, ℕ, ◌+◌, ◌-◌, ◌<◌, ◌≤◌, true, false, List, [], ◌∷◌, ◌++◌, length, Option, Some, None, refl, sym, ap, ◌∙◌, arith, append_assoc, append-nil, length-append, is_lt, nat_cmp}
use Rattle.std.specs.Prelude.{slice_get}
use Rattle.std.specs.Ordering.{ordering_then}
use Rattle.fine_model.specs.declared.Header.{Header}
use Rattle.fine_model.specs.declared.Row.{Row}
use Rattle.fine_model.specs.Merge.{is_ordered, node_cmp}
use Rattle.fine_model.specs.Regions.{IsBadRow, row_area}
use Rattle.fine_model.specs.RowBytes.{rows_len}
use Rattle.node_record.specs.Rows.{IsNoRowAt, IsRowAt}
use Rattle.node_record.specs.declared.key.RowAt.{RowAt}
use Rattle.log_partition.proofs.RowsRead.{all_read, bad_row, bytes_left, none_read, ordered_more, read_more, unordered_row}
use Rattle.row_gathering.specs.Steps.{FindsRows, FoundSoFar, IsLast, is_next, key_from, keys_from}
use Rattle.row_gathering.proofs.KeysFrom.{keys_both}

last_get : (rows : List Row) (row : Row) → slice_get (rows ++ row ∷ []) (length rows) ≡ Some row
last_get [] row = refl
last_get (r ∷ rows) row = last_get rows row

-- a key above the last one is that of a row above the last one
next_is : (rows : List Row) (last : Option RowAt) (key : RowAt) (row : Row) → IsLast rows last → is_ordered rows ≡ true → key.node ≡ row.node → key.version ≡ row.version → is_next last key ≡ is_ordered (rows ++ row ∷ [])
next_is rows None key row none up node version = sym (ap (λ rs. is_ordered (rs ++ row ∷ [])) none)
next_is rows (Some last) key row is up node version =
    (λ i. is_lt (ordering_then (node_cmp (is.2 i) (node i)) (nat_cmp (is.3 i) (version i)))) ∙ sym (ordered_more rows is.0 row up is.1)

module _ (header : Header) (body : List ℕ) (start : ℕ) (old : List RowAt) where
  pub found_none : FoundSoFar header body start old old None 0 0
  found_none = record { rows = []; so_far = none_read header.mark (row_area header body); counted = refl; keys = sym (append-nil old); is_last = refl }

  pub found_more : (keys new : List RowAt) (last : Option RowAt) (key : RowAt) (count at end : ℕ) (row : Row) → FoundSoFar header body start old keys last count at → IsRowAt header.mark (row_area header body) at row end
      → key ≡ key_from (start + at) row → is_next last key ≡ true → new ≡ keys ++ key ∷ [] → FoundSoFar header body start old new (Some key) (count + 1) end
  found_more keys new last key count at end row s stands is above pushed =
      let place : start + rows_len s.rows ≡ start + at = omega (arith, s.so_far.place) in
      let long : length (s.rows ++ row ∷ []) - 1 ≡ length s.rows = omega (arith, length-append s.rows (row ∷ [])) in
      record {
        rows = s.rows ++ row ∷ [];
        so_far = read_more header.mark (row_area header body) s.rows at row end s.so_far stands
            (sym (next_is s.rows last key row s.is_last s.so_far.ordered (ap (λ (k : RowAt). k.node) is) (ap (λ (k : RowAt). k.version) is)) ∙ above);
        counted = omega (arith, s.counted, length-append s.rows (row ∷ []));
        keys = pushed ∙ ap (λ ks. ks ++ key ∷ []) s.keys ∙ append_assoc old (keys_from start s.rows) (key ∷ [])
            ∙ ap (λ k. old ++ (keys_from start s.rows ++ k ∷ [])) (is ∙ ap (λ n. key_from n row) (sym place)) ∙ ap (λ ks. old ++ ks) (sym (keys_both start s.rows (row ∷ [])));
        is_last = (row, ap (slice_get (s.rows ++ row ∷ [])) long ∙ last_get s.rows row, ap (λ (k : RowAt). k.node) is, ap (λ (k : RowAt). k.version) is);
      }

  pub no_row : (keys : List RowAt) (last : Option RowAt) (count at : ℕ) → FoundSoFar header body start old keys last count at → count < header.rows → IsNoRowAt header.mark (row_area header body) at → (at : ℕ) × IsBadRow header body at
  no_row keys last count at s few none = (at, bad_row header body s.rows at s.so_far (omega (arith, few, s.counted)) none)

  pub not_next : (keys : List RowAt) (last : Option RowAt) (key : RowAt) (count at end : ℕ) (row : Row) → FoundSoFar header body start old keys last count at → count < header.rows → IsRowAt header.mark (row_area header body) at row end
      → key.node ≡ row.node → key.version ≡ row.version → is_next last key ≡ false → (at : ℕ) × IsBadRow header body at
  not_next keys last key count at end row s few stands node version low = (
    at,
    unordered_row header body s.rows at row end s.so_far (omega (arith, few, s.counted)) stands (sym (next_is s.rows last key row s.is_last s.so_far.ordered node version) ∙ low),
  )

  pub found_all : (keys : List RowAt) (last : Option RowAt) (count at : ℕ) → FoundSoFar header body start old keys last count at → count ≡ header.rows → length (row_area header body) ≡ header.area → length (row_area header body) ≤ at
      → FindsRows header body start old keys
  found_all keys last count at s all long end = record { rows = s.rows; are = all_read header body s.rows at s.so_far (s.counted ∙ all) long end; keys = s.keys }

  pub more_left : (keys : List RowAt) (last : Option RowAt) (count at : ℕ) → FoundSoFar header body start old keys last count at → count ≡ header.rows → at < length (row_area header body) → (at : ℕ) × IsBadRow header body at
  more_left keys last count at s all less = (at, bytes_left header body s.rows at s.so_far (s.counted ∙ all) less)

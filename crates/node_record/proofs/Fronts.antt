-- Rows that are found by their fronts, and keys that were sorted.
use Rattle.std.proofs.Common.{◌≡◌, ℕ, zero, suc, ◌+◌, ◌<◌, ◌≤◌, List, [], ◌∷◌, ◌++◌, length, take, drop, refl, sym, ap, ◌∙◌, arith}
use Rattle.std.specs.Prelude.{slice_set, slice_index_or}
use Rattle.std.specs.List.{swap}
use Rattle.std.specs.Int.{to_be_bytes, from_be_bytes, w16, w32, w64}
use Rattle.std.proofs.lemmas.List.{drop-drop, take-append-le, take_all}
use Rattle.std.proofs.lemmas.List.Sorted.{IsPermutation-refl, IsPermutation-swap, IsPermutation-trans, IsPermutation-keeps}
use Rattle.std.proofs.lemmas.Nat.{from_be_bytes-to_be_bytes_2, from_be_bytes-to_be_bytes_4, from_be_bytes-to_be_bytes_8}
use Rattle.fine_model.specs.declared.Row.{Row}
use Rattle.fine_model.specs.RowBytes.{body, row_bytes, row_len}
use Rattle.node_record.specs.Keys.{IsKeyOf, AreKeysOf, AreSorted, SortedLaw, StartsAt}
use Rattle.node_record.specs.declared.key.RowAt.{RowAt}
use Rattle.fine_model.proofs.Chain.Grammar.{row_long}
use Rattle.node_record.proofs.RowLaws.{body_short}

-- ---- the fields of a front

front_is : (bytes : List ℕ) (at : ℕ) (row : Row) → StartsAt bytes at row → (rest : List ℕ) × (drop at bytes ≡ row_bytes row ++ rest)
front_is bytes at row starts = (drop (at + row_len row) bytes, starts.begins.spelled)

field_at : (bytes : List ℕ) (at n k : ℕ) (row : Row) (rest : List ℕ) → drop at bytes ≡ row_bytes row ++ rest → take n (drop (at + k) bytes) ≡ take n (drop k (row_bytes row ++ rest))
field_at bytes at n k row rest is = ap (take n) (sym (drop-drop k at bytes)) ∙ ap (λ xs. take n (drop k xs)) is

bucket_is : (row : Row) (rest : List ℕ) → take 2 (drop 1 (row_bytes row ++ rest)) ≡ to_be_bytes w16 row.node.bucket
unfolding row_bytes
bucket_is row rest = refl

number_is : (row : Row) (rest : List ℕ) → take 4 (drop 3 (row_bytes row ++ rest)) ≡ to_be_bytes w32 row.node.number
unfolding row_bytes
number_is row rest = refl

version_is : (row : Row) (rest : List ℕ) → take 8 (drop 7 (row_bytes row ++ rest)) ≡ to_be_bytes w64 row.version
unfolding row_bytes
version_is row rest = refl

len_is : (row : Row) (rest : List ℕ) → take 4 (drop 15 (row_bytes row ++ rest)) ≡ to_be_bytes w32 (length (body row.rec))
unfolding row_bytes
len_is row rest = refl

pub read_bucket : (bytes : List ℕ) (at : ℕ) (row : Row) → StartsAt bytes at row → from_be_bytes w16 (take 2 (drop (at + 1) bytes)) ≡ row.node.bucket
read_bucket bytes at row starts =
    let is = front_is bytes at row starts in
    ap (from_be_bytes w16) (field_at bytes at 2 1 row is.0 is.1 ∙ bucket_is row is.0) ∙ from_be_bytes-to_be_bytes_2 row.node.bucket (omega (arith, starts.begins.fits.bucket))

pub read_number : (bytes : List ℕ) (at : ℕ) (row : Row) → StartsAt bytes at row → from_be_bytes w32 (take 4 (drop (at + 3) bytes)) ≡ row.node.number
read_number bytes at row starts =
    let is = front_is bytes at row starts in
    ap (from_be_bytes w32) (field_at bytes at 4 3 row is.0 is.1 ∙ number_is row is.0) ∙ from_be_bytes-to_be_bytes_4 row.node.number (omega (arith, starts.begins.fits.number))

pub read_version : (bytes : List ℕ) (at : ℕ) (row : Row) → StartsAt bytes at row → from_be_bytes w64 (take 8 (drop (at + 7) bytes)) ≡ row.version
read_version bytes at row starts =
    let is = front_is bytes at row starts in
    ap (from_be_bytes w64) (field_at bytes at 8 7 row is.0 is.1 ∙ version_is row is.0) ∙ from_be_bytes-to_be_bytes_8 row.version (omega (arith, starts.begins.fits.version_high))

pub read_len : (bytes : List ℕ) (at : ℕ) (row : Row) → StartsAt bytes at row → from_be_bytes w32 (take 4 (drop (at + 15) bytes)) ≡ length (body row.rec)
read_len bytes at row starts =
    let is = front_is bytes at row starts in
    ap (from_be_bytes w32) (field_at bytes at 4 15 row is.0 is.1 ∙ len_is row is.0) ∙ from_be_bytes-to_be_bytes_4 (length (body row.rec)) (omega (arith, body_short row.rec starts.begins.fits.rec))

pub len_small : (bytes : List ℕ) (at : ℕ) (row : Row) → StartsAt bytes at row → length (body row.rec) ≤ 10337
len_small bytes at row starts = body_short row.rec starts.begins.fits.rec

pub spelled_at : (bytes : List ℕ) (at len : ℕ) (row : Row) → StartsAt bytes at row → len ≡ row_len row → take len (drop at bytes) ≡ row_bytes row
spelled_at bytes at len row starts is =
    let f = front_is bytes at row starts in
    ap (take len) f.1 ∙ ap (λ n. take n (row_bytes row ++ f.0)) (is ∙ sym (row_long row)) ∙ take-append-le (length (row_bytes row)) (row_bytes row) f.0 (omega arith) ∙ take_all (length (row_bytes row)) (row_bytes row) (omega arith)

-- ---- sorting

keys_long : (bytes : List ℕ) (rows : List Row) (keys : List RowAt) → AreKeysOf bytes rows keys → length rows ≡ length keys
keys_long bytes [] [] are = refl
keys_long bytes [] (k ∷ ks) are = elim are [ ]
keys_long bytes (r ∷ rs) [] are = elim are [ ]
keys_long bytes (r ∷ rs) (k ∷ ks) are = ap suc (keys_long bytes rs ks are.1)

key_at : (bytes : List ℕ) (rows : List Row) (keys : List RowAt) (i : ℕ) (r : Row) (k : RowAt) → AreKeysOf bytes rows keys → i < length keys → IsKeyOf bytes (slice_index_or rows i r) (slice_index_or keys i k)
key_at bytes [] [] i r k are here = absurd (omega (arith, here))
key_at bytes [] (y ∷ ks) i r k are here = elim are [ ]
key_at bytes (x ∷ rs) [] i r k are here = elim are [ ]
key_at bytes (x ∷ rs) (y ∷ ks) zero r k are here = are.0
key_at bytes (x ∷ rs) (y ∷ ks) (suc i) r k are here = key_at bytes rs ks i r k are.1 (omega (arith, here))

keys_set : (bytes : List ℕ) (rows : List Row) (keys : List RowAt) (i : ℕ) (r : Row) (k : RowAt) → AreKeysOf bytes rows keys → IsKeyOf bytes r k → AreKeysOf bytes (slice_set rows i r) (slice_set keys i k)
keys_set bytes [] [] i r k are is = tt
keys_set bytes [] (y ∷ ks) i r k are is = elim are [ ]
keys_set bytes (x ∷ rs) [] i r k are is = elim are [ ]
keys_set bytes (x ∷ rs) (y ∷ ks) zero r k are is = (is, are.1)
keys_set bytes (x ∷ rs) (y ∷ ks) (suc i) r k are is = (are.0, keys_set bytes rs ks i r k are.1 is)

keys_swap : (bytes : List ℕ) (rows : List Row) (keys : List RowAt) (i j : ℕ) → AreKeysOf bytes rows keys → i < length keys → j < length keys → AreKeysOf bytes (swap rows i j) (swap keys i j)
keys_swap bytes [] [] i j are low high = tt
keys_swap bytes [] (k ∷ ks) i j are low high = elim are [ ]
keys_swap bytes (r ∷ rs) [] i j are low high = elim are [ ]
keys_swap bytes (r ∷ rs) (k ∷ ks) i j are low high =
    keys_set bytes _ _ j _ _ (keys_set bytes (r ∷ rs) (k ∷ ks) i _ _ are (key_at bytes (r ∷ rs) (k ∷ ks) j r k are high)) (key_at bytes (r ∷ rs) (k ∷ ks) i r k are low)

swapped : (bytes : List ℕ) (rows : List Row) (keys : List RowAt) (i j : ℕ) → i < length keys → j < length keys → AreSorted bytes rows keys → AreSorted bytes rows (swap keys i j)
swapped bytes rows keys i j low high are =
    let long = keys_long bytes are.arranged keys are.keys in record {
      arranged = swap are.arranged i j;
      permuted = IsPermutation-trans rows are.arranged (swap are.arranged i j) are.permuted
          (IsPermutation-swap are.arranged (swap are.arranged i j) i j (omega (arith, low, long)) (omega (arith, high, long)) refl);
      keys = keys_swap bytes are.arranged keys i j are.keys low high;
    }

pub sorted_law : SortedLaw
sorted_law bytes rows keys sorted are permuted =
    IsPermutation-keeps keys (AreSorted bytes rows) (record { arranged = rows; permuted = IsPermutation-refl rows; keys = are })
    (λ l i j low high so_far. swapped bytes rows l i j low high so_far) sorted permuted

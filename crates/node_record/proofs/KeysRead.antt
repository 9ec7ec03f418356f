-- The keys of rows that stand one after the other, read off their bytes.
use Rattle.std.proofs.Common.{◌≡◌, ℕ, ◌+◌, ◌<◌, ◌≤◌, List, [], ◌∷◌, ◌++◌, length, drop, refl, sym, ap, ◌∙◌, arith, append_assoc, append-nil, length-append, length-drop, drop_at, subst}
use Rattle.std.specs.List.{AllByRecursion}
use Rattle.std.proofs.lemmas.List.{drop-drop}
use Rattle.fine_model.specs.declared.Row.{Row}
use Rattle.fine_model.specs.declared.Mark.TheVariants as mark
use Rattle.fine_model.specs.RowBytes.{row_bytes, row_len, rows_bytes, FitsRow}
use Rattle.fine_model.proofs.Chain.Grammar.{row_long}
use Rattle.node_record.specs.Keys.{IsKeyOf, AreKeysOf, AreRows, StartsAt}
use Rattle.node_record.specs.declared.key.RowAt.{RowAt}

-- the rows up to a place have these keys, and the bytes from there on are those of the rows that are left
pub record KeyedTo (all : List Row) (bytes : List ℕ) (keys : List RowAt) (at : ℕ) : Type 0 where
  pub done : List Row
  pub rest : List Row
  pub all_rows : all ≡ done ++ rest
  pub are : AreKeysOf bytes done keys
  pub left : drop at bytes ≡ rows_bytes rest
  pub fit : AllByRecursion (FitsRow mark.Two) rest
  pub within : at ≤ length bytes

pub keyed_none : (all : List Row) (bytes : List ℕ) (keys : List RowAt) → AreRows bytes all → keys ≡ [] → KeyedTo all bytes keys 0
keyed_none all bytes keys are none = record { done = []; rest = all; all_rows = refl; are = subst (AreKeysOf bytes []) (sym none) tt; left = are.spelled; fit = are.fit; within = omega arith }

nothing_left : (bytes : List ℕ) (at : ℕ) → drop at bytes ≡ [] → length bytes ≤ at
nothing_left bytes at e = omega (arith, length-drop at bytes, ap length e)

-- the row that starts where some bytes are left
record NextAt (all : List Row) (bytes : List ℕ) (keys : List RowAt) (at : ℕ) : Type 0 where
  done : List Row
  row : Row
  rest : List Row
  all_rows : all ≡ done ++ row ∷ rest
  are : AreKeysOf bytes done keys
  starts : StartsAt bytes at row
  left : drop (at + row_len row) bytes ≡ rows_bytes rest
  fit : AllByRecursion (FitsRow mark.Two) rest

next_at : (all : List Row) (bytes : List ℕ) (keys : List RowAt) (at : ℕ) → KeyedTo all bytes keys at → at < length bytes → NextAt all bytes keys at
unfolding rows_bytes
next_at all bytes keys at read more = by read.rest read.all_rows read.left read.fit
  where
    by : (rest : List Row) → all ≡ read.done ++ rest → drop at bytes ≡ rows_bytes rest → AllByRecursion (FitsRow mark.Two) rest → NextAt all bytes keys at
    by [] e left fit = absurd (omega (arith, nothing_left bytes at left, more))
    by (row ∷ rest) e left fit =
        let behind : drop (at + row_len row) bytes ≡ rows_bytes rest = sym (drop-drop (row_len row) at bytes) ∙ ap (drop (row_len row)) left ∙ drop_at (row_bytes row) (rows_bytes rest) (row_len row) (row_long row) in
        record {
          done = read.done;
          row = row;
          rest = rest;
          all_rows = e;
          are = read.are;
          starts = record {
            begins = record { fits = fit.0; spelled = left ∙ ap (λ xs. row_bytes row ++ xs) (sym behind) };
            ends = refl;
            within = omega (arith, ap length left, length-append (row_bytes row) (rows_bytes rest), row_long row, length-drop at bytes, more);
          };
          left = behind;
          fit = fit.1;
        }

pub starts : (all : List Row) (bytes : List ℕ) (keys : List RowAt) (at : ℕ) → KeyedTo all bytes keys at → at < length bytes → (row : Row) × StartsAt bytes at row
starts all bytes keys at read more = let next = next_at all bytes keys at read more in (next.row, next.starts)

keys_more : (bytes : List ℕ) (rows : List Row) (keys : List RowAt) (row : Row) (key : RowAt) → AreKeysOf bytes rows keys → IsKeyOf bytes row key → AreKeysOf bytes (rows ++ row ∷ []) (keys ++ key ∷ [])
keys_more bytes [] [] row key are is = (is, tt)
keys_more bytes [] (k ∷ ks) row key are is = elim are [ ]
keys_more bytes (r ∷ rs) [] row key are is = elim are [ ]
keys_more bytes (r ∷ rs) (k ∷ ks) row key are is = (are.0, keys_more bytes rs ks row key are.1 is)

module _ (all : List Row) (bytes : List ℕ) (keys : List RowAt) (at : ℕ) (key : RowAt) (read : KeyedTo all bytes keys at) (more : at < length bytes) (place : key.at ≡ at)
    (is : (row : Row) → StartsAt bytes at row → IsKeyOf bytes row key) where
  next : NextAt all bytes keys at
  next = next_at all bytes keys at read more

  of_key : IsKeyOf bytes next.row key
  of_key = is next.row next.starts

  pub key_within : at + key.len ≤ length bytes
  key_within = omega (arith, of_key.within, place)

  pub key_some : 1 ≤ key.len
  key_some = omega (arith, of_key.len)

  pub keyed_more : (new : List RowAt) → new ≡ keys ++ key ∷ [] → KeyedTo all bytes new (at + key.len)
  keyed_more new pushed = record {
    done = next.done ++ next.row ∷ [];
    rest = next.rest;
    all_rows = next.all_rows ∙ sym (append_assoc next.done (next.row ∷ []) next.rest);
    are = subst (AreKeysOf bytes (next.done ++ next.row ∷ [])) (sym pushed) (keys_more bytes next.done keys next.row key next.are of_key);
    left = ap (λ n. drop (at + n) bytes) of_key.len ∙ next.left;
    fit = next.fit;
    within = key_within;
  }

pub keyed_all : (all : List Row) (bytes : List ℕ) (keys : List RowAt) (at : ℕ) → KeyedTo all bytes keys at → length bytes ≤ at → AreKeysOf bytes all keys
unfolding rows_bytes
keyed_all all bytes keys at read end = by read.rest read.all_rows read.left
  where
    by : (rest : List Row) → all ≡ read.done ++ rest → drop at bytes ≡ rows_bytes rest → AreKeysOf bytes all keys
    by [] e left = subst (λ rows. AreKeysOf bytes rows keys) (sym (e ∙ append-nil read.done)) read.are
    by (row ∷ rest) e left = absurd (omega (arith, ap length left, length-drop at bytes, length-append (row_bytes row) (rows_bytes rest), row_long row, end))

-- The keys that follow from rows.
use Rattle.std.proofs.Common.{◌≡◌, ℕ, ◌+◌, List, [], ◌∷◌, ◌++◌, length, refl, sym, ap, ◌∙◌, subst, arith, append_assoc, length-append, take_at, drop_at, take}
use Rattle.std.proofs.lemmas.List.Sums.{sum_by-cons}
use Rattle.fine_model.specs.declared.Row.{Row}
use Rattle.fine_model.specs.RowBytes.{row_bytes, row_len, rows_bytes, rows_len}
use Rattle.fine_model.proofs.Chain.Grammar.{row_long}
use Rattle.node_record.specs.Keys.{AreKeysOf}
use Rattle.row_gathering.specs.Steps.{key_from, keys_from}

-- the keys of rows and of others behind them
pub keys_both : (at : ℕ) (a b : List Row) → keys_from at (a ++ b) ≡ keys_from at a ++ keys_from (at + rows_len a) b
keys_both at [] b = ap (λ n. keys_from n b) (let e : at ≡ at + rows_len [] = omega arith in e)
keys_both at (row ∷ a) b =
    let e : at + row_len row + rows_len a ≡ at + rows_len (row ∷ a) = omega (arith, sum_by-cons row_len row a) in
    ap (λ ks. key_from at row ∷ ks) (keys_both (at + row_len row) a b ∙ ap (λ n. keys_from (at + row_len row) a ++ keys_from n b) e)

-- they are those of the rows where these lie so in bytes
pub keys_are : (before : List ℕ) (at : ℕ) (rows : List Row) → at ≡ length before → AreKeysOf (before ++ rows_bytes rows) rows (keys_from at rows)
unfolding rows_bytes
keys_are before at [] first = tt
keys_are before at (row ∷ rows) first = (
  record {
    node = refl;
    version = refl;
    len = refl;
    within = omega (arith, first, length-append before (row_bytes row ++ rows_bytes rows), length-append (row_bytes row) (rows_bytes rows), row_long row);
    spelled = ap (λ bytes. take (row_len row) bytes) (drop_at before (row_bytes row ++ rows_bytes rows) at (sym first)) ∙ take_at (row_bytes row) (rows_bytes rows) (row_len row) (row_long row);
  },
  subst (λ bytes. AreKeysOf bytes rows (keys_from (at + row_len row) rows)) (append_assoc before (row_bytes row) (rows_bytes rows))
      (keys_are (before ++ row_bytes row) (at + row_len row) rows (omega (arith, first, length-append before (row_bytes row), row_long row))),
)

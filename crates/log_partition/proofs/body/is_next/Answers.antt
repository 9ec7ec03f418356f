use Rattle.std.proofs.Common.{◌≡◌, ◌-◌, ◌∙◌, sym, ap, length, rules, List, Some}
use Rattle.std.specs.Prelude.{slice_get}
use Rattle.fine_model.specs.declared.Row.{Row}
use Rattle.fine_model.specs.Merge.{is_row_below}
use Rattle.log_partition.proofs.RowsRead.{ordered_more}
use Rattle.log_partition.proofs.body.is_next.Goals as goal

pub returns-in-Some : goal.returns-in-Some
returns-in-Some c =
    let below : c.is_lt.result ≡ is_row_below c.in-Some.last.now c.args.row.now = search rules in
    let e : slice_get c.args.rows.now (length c.args.rows.now - 1) ≡ Some c.in-Some.last.now = ap (λ (rs : List Row). slice_get rs (length rs - 1)) (sym c.as_slice.ensures) ∙ sym c.in-Some.ensures.value in
    below ∙ sym (ordered_more c.args.rows.now c.in-Some.last.now c.args.row.now c.requires e)

use Rattle.std.proofs.Common.{◌≡◌, true, cond, ℕ, Some, sym, ap, subst, is_lt}
use Rattle.fine_model.specs.Merge.{is_node_below}
use Rattle.log_partition.specs.Encoding.{IsGreatestOf}
use Rattle.log_partition.proofs.Counted.{above_all}
use Rattle.log_partition.proofs.encoding.entry_len.Goals as goal

pub returns-in-Less : goal.returns-in-Less
returns-in-Less c =
    let g : IsGreatestOf c.args.rows.now (Some c.in-Some.greatest) = subst (IsGreatestOf c.args.rows.now) c.in-Some.is c.requires in
    let above : is_node_below c.in-Some.greatest c.args.node ≡ true = ap is_lt (sym c.in-Less.ensures) in
    ap (λ t. cond {A = ℕ} t 0 14) (sym (above_all c.in-Some.greatest c.args.node c.args.rows.now g.1 above))

use Rattle.std.proofs.Common.{subst}
use Rattle.fine_model.specs.declared.Mark.TheVariants as mark
use Rattle.node_record.specs.Rows.{IsRowAt}
use Rattle.node_record_tests.proofs.tests.key_of.Goals as goal

pub front_at-requires : goal.front_at-requires
front_at-requires c =
    let found = c.in-Ok.ensures.found in
    (c.in-Ok._found.0, subst (IsRowAt mark.Two c.args.text.now 0 c.in-Ok._found.0) found.ends found)

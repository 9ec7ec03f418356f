use Rattle.std.proofs.Common.{w64, to_z, of_z, to_z-of_z, sym, ap, ◌∙◌}
use Rattle.fine_model.specs.declared.Reply.TheVariants as reply
use Rattle.fine_model.specs.NumberText.{number_of}
use Rattle.fine_model.specs.Store.{add_answer}
use Rattle.node_record.proofs.Texts.{test_from_fits}
use Rattle.btree_nodes.proofs.Sums.{answer_there, answer_absent}
use Rattle.btree_nodes.proofs.adding.reply_in.Goals as goal

pub returns-in-Some : goal.returns-in-Some
returns-in-Some c =
    let key = c.args.key.now in
    c.sum_reply.ensures key ∙ ap (λ t. (add_answer key (number_of t) (to_z w64 (of_z w64 c.args.by))).0) c.as_slice.ensures
    ∙ ap (λ z. (add_answer key (number_of c.in-Some.text.now) z).0) (to_z-of_z c.ranges.by)
    ∙ sym (answer_there _ key c.in-Some.text.now c.args.by (sym (c.in-Some.ensures)))

pub returns-in-None : goal.returns-in-None
returns-in-None c = ap reply.Sum (to_z-of_z c.ranges.by) ∙ sym (answer_absent _ c.args.key.now c.args.by (sym (c.in-None.ensures)) (test_from_fits c.args.by c.ranges.by))

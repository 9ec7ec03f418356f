use Rattle.std.proofs.Common.{◌+◌, ◌/◌, ap, sym, subst, ◌∙◌, arith}
use Rattle.fine_model.specs.Generator.{txn_of}
use Rattle.script_text.specs.Generating.{IsMade}
use Rattle.script_text.proofs.Making.{starts, one_more, is_whole, all_fit}
use Rattle.script_text.proofs.generating.generate.Goals as goal

pub loop-i-init : goal.loop-i-init
loop-i-init c = subst (λ s. IsMade c.args.start c.args.count c.args.lanes 0 s c.args.start) (sym c.new-script.ensures) (starts c.args.start c.args.count c.args.lanes)

pub loop-i-preserved : goal.loop-i-preserved
loop-i-preserved c =
    let is = c.in_ok-txn_of.ensures.is ∙ ap (λ x. txn_of c.args.lanes (c.loop-i.i + 1) (x / 8589934592)) c.next_state-state.ensures in
    subst (λ x. IsMade c.args.start c.args.count c.args.lanes (c.loop-i.i + 1) c.push.new.self x) (sym c.next_state-state.ensures)
    (one_more c.args.start c.args.count c.args.lanes c.loop-i.i c.loop-i.script c.push.new.self c.loop-i.state c.in_ok-txn_of.field-0 (omega (arith, c.loop-i-test.true, c.from-i-end.ensures)) c.loop-i.invariant c.in_ok-push.ensures.ok is c.in_ok-txn_of.ensures.fits)

pub returns-clause-is : goal.returns-clause-is
returns-clause-is c = is_whole c.args.start c.args.count c.args.lanes c.loop-i.script c.loop-i.state c.loop-i.i (omega (arith, c.loop-i-test.false, c.from-i-end.ensures)) c.loop-i.invariant

pub returns-clause-fits : goal.returns-clause-fits
returns-clause-fits c = all_fit c.args.start c.args.count c.args.lanes c.loop-i.script c.loop-i.state c.loop-i.i c.requires.count c.loop-i.invariant

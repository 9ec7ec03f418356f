use Rattle.std.proofs.Common.{Ok, subst, ap, ◌∙◌}
use Rattle.room_merges_tests.specs.Turns.{EndsTurn}
use Rattle.room_merges_tests.proofs.Turned.{underway_out}
use Rattle.room_merges_tests.proofs.turns.write_part.Goals as goal

pub loop-number-init : goal.loop-number-init
loop-number-init c = c.requires

pub write_turn-requires-clause-writing : goal.write_turn-requires-clause-writing
write_turn-requires-clause-writing c = c.loop-number.invariant

pub loop-number-preserved : goal.loop-number-preserved
loop-number-preserved c =
    subst (λ r. EndsTurn c.args.header c.write_turn.new.room c.write_turn.new.view c.write_turn.new.blocks c.write_turn.new.job r) (c.in-Ok.is ∙ ap (λ b. Ok b) c.if-not-more.false) c.write_turn.ensures

pub seal_part-requires : goal.seal_part-requires
seal_part-requires c =
    subst (λ r. EndsTurn c.args.header c.write_turn.new.room c.write_turn.new.view c.write_turn.new.blocks c.write_turn.new.job r) (c.in-Ok.is ∙ ap (λ b. Ok b) c.if-not-more.true) c.write_turn.ensures

pub returns-then-not-more : goal.returns-then-not-more
returns-then-not-more c = c.seal_part.ensures

pub returns-in-Err : goal.returns-in-Err
returns-in-Err c =
    subst (λ r. EndsTurn c.args.header c.write_turn.new.room c.write_turn.new.view c.write_turn.new.blocks c.write_turn.new.job r) c.in-Err.is c.write_turn.ensures

pub returns : goal.returns
returns c = underway_out c.loop-number.room c.loop-number.view c.loop-number.job c.loop-number.blocks c.args.header c.loop-number.invariant

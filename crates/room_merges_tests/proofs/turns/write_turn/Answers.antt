use Rattle.std.proofs.Common.{Ok, Result, subst, ap, ◌∙◌}
use Rattle.room_merges.specs.Work.{WritesNext}
use Rattle.room_merges.specs.declared.body.Progress.{Progress}
use Rattle.room_merges.specs.declared.fault.MergeFault.{MergeFault}
use Rattle.room_merges_tests.proofs.Turned.{turn_ended, turn_stopped, turn_written, turned, turned_stopped}
use Rattle.room_merges_tests.proofs.turns.write_turn.Goals as goal

pub write_next-requires-clause-out : goal.write_next-requires-clause-out
write_next-requires-clause-out c κs = c.requires.writing.with_view.out

pub write_next-requires-clause-open : goal.write_next-requires-clause-open
write_next-requires-clause-open c κs = c.requires.writing.opened

pub write_next-requires-clause-taken : goal.write_next-requires-clause-taken
write_next-requires-clause-taken c κs = c.requires.writing.taken

pub write_next-requires-clause-older : goal.write_next-requires-clause-older
write_next-requires-clause-older c κs = c.requires.writing.with_view.older

pub write_next-requires-clause-newer : goal.write_next-requires-clause-newer
write_next-requires-clause-newer c κs = c.requires.writing.with_view.newer

pub write_next-requires-clause-writing : goal.write_next-requires-clause-writing
write_next-requires-clause-writing c κs = c.requires.writing.writing

pub returns-in-Ok-seal_some : goal.returns-in-Ok-seal_some
returns-in-Ok-seal_some c =
    turned c.write_next.new.room c.seal_some.new.room c.write_next.new.view c.write_next.new.job c.seal_some.ensures.turns c.write_next.new.blocks c.args.header c.in-Ok-seal_some.ensures.open
    (turn_written c.args.header c.args.room.now c.write_next.new.room c.args.view.now c.write_next.new.view c.args.blocks.now c.write_next.new.blocks c.args.job.now c.write_next.new.job c.requires.writing (subst (λ (r : Result Progress MergeFault). WritesNext c.args.header c.args.room.now c.write_next.new.room c.args.view.now c.write_next.new.view c.write_next.new.blocks c.args.job.now c.write_next.new.job r) (c.in-Ok.is ∙ ap (λ p. Ok p) c.in-Written.is) c.write_next.ensures))

pub returns-in-Err-seal_some : goal.returns-in-Err-seal_some
returns-in-Err-seal_some c =
    turned_stopped c.write_next.new.room c.seal_some.new.room c.write_next.new.view c.write_next.new.job c.seal_some.ensures.turns c.write_next.new.blocks c.args.header
    (turn_written c.args.header c.args.room.now c.write_next.new.room c.args.view.now c.write_next.new.view c.args.blocks.now c.write_next.new.blocks c.args.job.now c.write_next.new.job c.requires.writing (subst (λ (r : Result Progress MergeFault). WritesNext c.args.header c.args.room.now c.write_next.new.room c.args.view.now c.write_next.new.view c.write_next.new.blocks c.args.job.now c.write_next.new.job r) (c.in-Ok.is ∙ ap (λ p. Ok p) c.in-Written.is) c.write_next.ensures))

pub returns-then-is_whole : goal.returns-then-is_whole
returns-then-is_whole c = turn_ended c.args.header c.args.room.now c.write_next.new.room c.args.view.now c.write_next.new.view c.args.blocks.now c.write_next.new.blocks c.args.job.now c.write_next.new.job c.requires.writing (c.is_whole.ensures c.if-is_whole.true) (subst (λ (r : Result Progress MergeFault). WritesNext c.args.header c.args.room.now c.write_next.new.room c.args.view.now c.write_next.new.view c.write_next.new.blocks c.args.job.now c.write_next.new.job r) (c.in-Ok.is ∙ ap (λ p. Ok p) c.in-Ended.is) c.write_next.ensures)

pub returns-else-is_whole : goal.returns-else-is_whole
returns-else-is_whole c = turn_stopped c.args.header c.args.room.now c.write_next.new.room c.args.view.now c.write_next.new.view c.args.blocks.now c.write_next.new.blocks c.args.job.now c.write_next.new.job c.requires.writing c.write_next.result c.write_next.ensures

pub returns-in-TooLong : goal.returns-in-TooLong
returns-in-TooLong c = turn_stopped c.args.header c.args.room.now c.write_next.new.room c.args.view.now c.write_next.new.view c.args.blocks.now c.write_next.new.blocks c.args.job.now c.write_next.new.job c.requires.writing c.write_next.result c.write_next.ensures

pub returns-in-Err : goal.returns-in-Err
returns-in-Err c = turn_stopped c.args.header c.args.room.now c.write_next.new.room c.args.view.now c.write_next.new.view c.args.blocks.now c.write_next.new.blocks c.args.job.now c.write_next.new.job c.requires.writing c.write_next.result c.write_next.ensures

use Rattle.std.proofs.Common.{ap, sym, ◌∙◌}
use Rattle.room_shelf.specs.Shelves.{shelf}
use Rattle.room_steps.specs.Merging.{is_epoch_full}
use Rattle.room_steps.proofs.Fitting.{some_wait}
use Rattle.room_steps.proofs.Rooms.{not_full, sealed_as_full}
use Rattle.room_steps.proofs.making.seal_if_full.Goals as goal

pub seal_and_tidy-requires-clause-waiting : goal.seal_and_tidy-requires-clause-waiting
seal_and_tidy-requires-clause-waiting g c κs within =
    some_wait c.args.room.now c.args.cost c.sealed-whole.ensures.whole (ap is_epoch_full (sym c.fit.ensures) ∙ sym c.is_epoch_full.ensures ∙ c.if-is_epoch_full.true)

pub returns-then-is_epoch_full : goal.returns-then-is_epoch_full
returns-then-is_epoch_full g c =
    sealed_as_full c.args.cost (shelf c.args.room.now c.args.out.now) (shelf c.seal_and_tidy.new.room c.seal_and_tidy.new.out) c.seal_and_tidy.result
    (ap is_epoch_full (sym c.fit.ensures) ∙ sym c.is_epoch_full.ensures ∙ c.if-is_epoch_full.true) c.seal_and_tidy.ensures

pub returns-else-is_epoch_full : goal.returns-else-is_epoch_full
returns-else-is_epoch_full g c =
    not_full c.args.cost (shelf c.args.room.now c.args.out.now) (ap is_epoch_full (sym c.fit.ensures) ∙ sym c.is_epoch_full.ensures ∙ c.if-is_epoch_full.false) c.requires.shelf c.sealed-whole.ensures.whole c.requires.no_job

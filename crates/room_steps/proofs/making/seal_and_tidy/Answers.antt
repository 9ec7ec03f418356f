use Rattle.std.proofs.Common.{Result, subst, ℕ}
use Rattle.fine_model.specs.declared.RunFault.{RunFault}
use Rattle.room_shelf.specs.Shelves.{shelf}
use Rattle.room_steps.specs.Steps.{SealsWaiting}
use Rattle.room_steps.proofs.Rooms.{not_sealed, then_tidied}
use Rattle.room_steps.proofs.making.seal_and_tidy.Goals as goal

pub tidy-requires-clause-shelf : goal.tidy-requires-clause-shelf
tidy-requires-clause-shelf g c κs within = c.seal_waiting.ensures.leaves.shelf

pub tidy-requires-clause-no_job : goal.tidy-requires-clause-no_job
tidy-requires-clause-no_job g c κs within = c.seal_waiting.ensures.leaves.no_job

pub returns-in-Ok : goal.returns-in-Ok
returns-in-Ok g c =
    then_tidied (shelf c.args.room.now c.args.out.now) (shelf c.seal_waiting.new.room c.seal_waiting.new.out) (shelf c.tidy.new.room c.tidy.new.out) c.in-Ok._epoch c.tidy.result
    (subst (λ (r : Result ℕ RunFault). SealsWaiting (shelf c.args.room.now c.args.out.now) (shelf c.seal_waiting.new.room c.seal_waiting.new.out) r) c.in-Ok.is c.seal_waiting.ensures) c.tidy.ensures

pub returns-in-Err : goal.returns-in-Err
returns-in-Err g c =
    not_sealed (shelf c.args.room.now c.args.out.now) (shelf c.seal_waiting.new.room c.seal_waiting.new.out) c.in-Err.fault
    (subst (λ (r : Result ℕ RunFault). SealsWaiting (shelf c.args.room.now c.args.out.now) (shelf c.seal_waiting.new.room c.seal_waiting.new.out) r) c.in-Err.is c.seal_waiting.ensures)

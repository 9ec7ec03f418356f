use Rattle.std.proofs.Common.{Result, subst}
use Rattle.fine_model.specs.declared.RunFault.{RunFault}
use Rattle.room_shelf.specs.Shelves.{shelf}
use Rattle.room_steps.specs.Merging.{GathersNamed}
use Rattle.room_steps.proofs.Gatherings.{not_gathered, then_merged}
use Rattle.room_steps.proofs.merging.tidy.Goals as goal

pub returns-in-Ok : goal.returns-in-Ok
returns-in-Ok g c =
    then_merged (shelf c.args.room.now c.args.out.now) (shelf c.gather_young.new.room c.gather_young.new.out) (shelf c.merge_named.new.room c.merge_named.new.out) c.merge_named.result
    (subst (λ (r : Result (Unit {0}) RunFault). GathersNamed (shelf c.args.room.now c.args.out.now) (shelf c.gather_young.new.room c.gather_young.new.out) r) c.in-Ok.is c.gather_young.ensures) c.merge_named.ensures

pub returns-in-Err : goal.returns-in-Err
returns-in-Err g c =
    not_gathered (shelf c.args.room.now c.args.out.now) (shelf c.gather_young.new.room c.gather_young.new.out) c.in-Err.fault
    (subst (λ (r : Result (Unit {0}) RunFault). GathersNamed (shelf c.args.room.now c.args.out.now) (shelf c.gather_young.new.room c.gather_young.new.out) r) c.in-Err.is c.gather_young.ensures)

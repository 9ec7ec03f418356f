use Rattle.std.proofs.Common.{Err, List, Result, subst, sym}
use Rattle.fine_model.specs.declared.RunFault.{RunFault}
use Rattle.fine_model.specs.Map.{Pair}
use Rattle.log_commands.specs.Maps.{ReadsMap}
use Rattle.log_commands.proofs.Rooms.{read_out, reads, reads_none}
use Rattle.log_commands.proofs.map.read_room.Goals as goal

pub rest-requires-clause-shelf : goal.rest-requires-clause-shelf
rest-requires-clause-shelf g c κs within = read_out c.args.room.now c.view_of.new.room c.in-Ok.view c.read_all-pairs.new.source c.in-Ok.ensures c.read_all-pairs.ensures.later

pub returns-in-Ok : goal.returns-in-Ok
returns-in-Ok g c =
    subst (λ (r : Result (List Pair) RunFault). ReadsMap c.args.room.now c.rest.new.room r) (sym c.told.ensures)
    (reads c.args.room.now c.view_of.new.room c.in-Ok.view c.read_all-pairs.new.source c.parts-seen.ensures.whole c.in-Ok.ensures c.read_all-pairs.ensures.later c.rest.new.room c.rest.ensures c.read_all-pairs.result
    c.read_all-pairs.ensures.clean c.read_all-pairs.ensures.answer)

pub returns-in-Err : goal.returns-in-Err
returns-in-Err g c =
    subst (λ (fault : RunFault). ReadsMap c.args.room.now c.view_of.new.room (Err fault)) (sym c.of_fetch.ensures)
    (reads_none c.args.room.now c.view_of.new.room c.in-Err.fault c.sealed-before.ensures.whole c.sealed-behind.ensures.whole c.in-Err.ensures)

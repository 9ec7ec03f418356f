-- The parts that were seen are those of a room.
use Rattle.std.proofs.Common.{sym, subst}
use Rattle.epoch_room.specs.Whole.{AreParts}
use Rattle.reopen.proofs.RoomParts.{room_parts}
use Rattle.reopen.proofs.open.open_log.Goals as goal

pub make-requires-clause-parts : goal.make-requires-clause-parts
make-requires-clause-parts g c κs within =
    subst (λ d. AreParts d c.in-Ok.chain.parts c.in-Ok.chain.retired) (sym (c.in-Ok.ensures.same (λ e. cc))) (room_parts (g.D.LogDisk.state c.args.disk) c.in-Ok.chain c.requires.geometry c.in-Ok.ensures.ok)

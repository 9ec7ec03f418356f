use denote.Param.Send.{arg_send, param_send, shr_send}
use Rattle.std.proofs.Crossing.{Vec-send, sync}
use Rattle.fine_hall.proofs.pass.Pass.TheSendSync as passes
use Rattle.txn_engine.proofs.txn.Committed.TheSendSync as committed
use Rattle.hall_accounts.proofs.Crossing.{hall_sync, room_of_disk, routes_sync, seven_send, small_sync, view_of_eye}
use Rattle.hall_accounts.proofs.threads.both.Goals as goal

pub join-requires-send-F : goal.join-requires-send-F
join-requires-send-F g c κs within =
    let r = c.type_bounds.sync-R in search (param_send, arg_send, seven_send, shr_send, sync, hall_sync, room_of_disk, view_of_eye, passes.the_send, Vec-send, committed.the_send, routes_sync, small_sync) depth 20

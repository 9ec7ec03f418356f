use denote.Param.Send.{arg_sync, param_sync, shr_sync}
use Rattle.std.proofs.Crossing.{sync}
use Rattle.hall_accounts.proofs.Crossing.{four_sync, hall_sync, room_of_disk, view_of_eye}
use Rattle.hall_accounts.proofs.many.Workload.TheSendSync as loads
use Rattle.hall_accounts.proofs.many.at_once.Goals as goal

pub map_vec-requires-sync-F : goal.map_vec-requires-sync-F
map_vec-requires-sync-F g c κs within = let r = c.type_bounds.sync-R in search (param_sync, arg_sync, four_sync, shr_sync, sync, hall_sync, room_of_disk, view_of_eye, loads.the_sync) depth 20

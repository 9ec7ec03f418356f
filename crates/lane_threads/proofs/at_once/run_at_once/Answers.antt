use denote.Exit.{no}
use denote.Param.{param}
use denote.Param.Send.{arg_send, arg_sync, param_send, param_sync, shr_sync}
use Rattle.std.proofs.Common.{sym, subst}
use Rattle.std.specs.Prelude.{slice_index_or}
use Rattle.fine_model.proofs.Options.TheSendSync as options
use Rattle.txn_tries.proofs.signals.Signals.TheSendSync as signals
use Rattle.lane_threads.specs.contracts.worker.Worker as worker
use Rattle.lane_threads.specs.Workers.{HasStopped, IsWorker}
use Rattle.lane_threads.proofs.Crossing.{hall_sync, room_send, script_sync, six_sync, view_send_of, worker_send}
use Rattle.lane_threads.proofs.at_once.run_at_once.Goals as goal

pub for_each_mut-requires-send-T : goal.for_each_mut-requires-send-T
for_each_mut-requires-send-T g c κs within = param_send 1 _ (arg_send _ no (worker.the_row (param 1 g.row.D) (param 3 g.row.D-Eye) g.D.Eye.LogEye) (worker_send (param 1 g.row.D) (param 3 g.row.D-Eye) g.D.Eye.LogEye c.type_bounds.send-D-Eye))

pub for_each_mut-requires-sync-F : goal.for_each_mut-requires-sync-F
for_each_mut-requires-sync-F g c κs within =
    let r = c.type_bounds.sync-R in let s = c.type_bounds.sync-G in let d = c.type_bounds.send-D in let e = c.type_bounds.send-D-Eye in
    search (param_sync, arg_sync, six_sync, shr_sync, hall_sync, room_send, view_send_of, script_sync, signals.the_sync, options.the_sync) depth 20

pub for_each_mut-requires-clause-accepts : goal.for_each_mut-requires-clause-accepts
for_each_mut-requires-clause-accepts g c κs within i p lt is =
    let b = c.type_bounds in
    ((c.requires.may, subst (λ w. IsWorker c.args.hall.now c.args.script.now c.args.options.now.group w) (sym is) (c.requires.workers i p.now lt)), (param_send 1 _ (arg_send _ no _ b.send-D), param_send 3 _ (arg_send _ no _ b.send-D-Eye), param_sync 0 _ (arg_sync _ no _ b.sync-R), param_sync 2 _ (arg_sync _ no _ b.sync-G)))

pub returns : goal.returns
returns g c =
    let hall = c.args.hall.now in
    let script = c.args.script.now in
    let group = c.args.options.now.group in
    record {
      count = c.for_each_mut.auto.s;
      each = λ i w lt. let e = (c.for_each_mut.ensures i w lt).1 in
          subst (λ u. HasStopped hall script group (slice_index_or c.args.workers.now i w) u) e.left (subst (λ u. HasStopped hall script group u e.after_call.now) e.argument_is e.call);
    }

-- A run on the room of a chain that was found.
use Rattle.reopen.proofs.RoomParts.{room_parts}
use Rattle.fine_top.proofs.Between.{ready_of, runs_from}
use Rattle.fine_top.proofs.running.run_chain.Goals as goal

pub make-requires-clause-parts : goal.make-requires-clause-parts
make-requires-clause-parts g c κs within = room_parts (g.D.LogDisk.state c.args.disk) c.args.chain c.requires.ready.idle.geometry c.requires.ready.sees

pub run_cached-ran-requires-clause-ready : goal.run_cached-ran-requires-clause-ready
run_cached-ran-requires-clause-ready g c κs within =
    ready_of (g.D.LogDisk.state c.args.disk) c.args.chain.parts c.args.chain.retired c.in-Ok.room c.in-Ok.ensures.made c.counts-made.ensures.whole c.in-Ok.ensures.stands

pub returns-in-Ok-clause-ok : goal.returns-in-Ok-clause-ok
returns-in-Ok-clause-ok g c =
    runs_from c.args.options.now c.args.script.now (g.D.LogDisk.state c.args.disk) c.args.chain c.run_cached-ran.result.0 c.in-Ok.room c.run_cached-ran.result.1 c.in-Ok.ensures.made c.counts-made.ensures.whole c.in-Ok.ensures.stands
    c.run_cached-ran.ensures.run

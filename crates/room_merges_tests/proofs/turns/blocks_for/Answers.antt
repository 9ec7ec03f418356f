use Rattle.std.proofs.Common.{arith}
use Rattle.room_merges.proofs.Working.{begins, long_regions}
use Rattle.room_merges_tests.proofs.Turned.{begun, posted}
use Rattle.room_merges_tests.proofs.turns.blocks_for.Goals as goal

pub returns-in-Ok : goal.returns-in-Ok
returns-in-Ok c =
    let at = c.requires.with_view.at in
    let long = long_regions c.args.room.now c.counts-counts.ensures.whole in
    let len = c.region_len.ensures in
    begun c.args.room.now c.args.view.now c.in-Ok.blocks c.args.job.now c.args.header
    (begins c.args.room.now c.args.view.now c.in-Ok.blocks c.args.job.now c.region_len.result 4095
    (record { whole = c.counts-counts.ensures.whole; is_view = c.parts-parts.ensures.whole; posted = posted c.args.room.now c.args.view.now at; region_len = at.region_len })
    c.requires.with_view.older c.requires.with_view.newer c.requires.none c.region_len.ensures (omega (arith, long, len)) c.in-Ok.ensures.made c.in-Ok.ensures.kept c.in-Ok.ensures.ahead c.in-Ok.ensures.joined)
    c.requires

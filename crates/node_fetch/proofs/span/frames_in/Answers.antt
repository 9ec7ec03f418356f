use Rattle.std.proofs.Common.{◌≡◌, ◌+◌, Some, sym, ap, subst, rules}
use Rattle.std.specs.Prelude.{Option}
use Rattle.node_fetch.specs.declared.frames.Frames.{Frames}
use Rattle.node_fetch.specs.Spans.{FramedSoFar}
use Rattle.node_fetch.proofs.Reading.{framed_none, framed_more, framed_other}
use Rattle.node_fetch.proofs.span.frames_in.Goals as goal

pub loop-init : goal.loop-init
loop-init c = framed_none c.args.mark c.args.bytes.now c.args.node

pub returns-then-ne-clause-bad : goal.returns-then-ne-clause-bad
returns-then-ne-clause-bad c =
    framed_other c.args.mark c.args.bytes.now c.args.node c.args.count c.loop.counter c.loop.at c.loop.frames c.in-Ok.frame c.loop.invariant c.loop-test.true c.in-Ok.ensures.found (λ same. search rules)

pub loop-preserved : goal.loop-preserved
loop-preserved c =
    let same : c.in-Ok.frame.node ≡ c.args.node = search rules in
    subst (λ (frames : Option Frames). FramedSoFar c.args.mark c.args.bytes.now c.args.node (c.loop.counter + 1) c.in-Ok.frame.end frames) (ap Some (sym c.with_frame.ensures))
    (framed_more c.args.mark c.args.bytes.now c.args.node c.loop.counter c.loop.at c.loop.frames c.in-Ok.frame c.loop.invariant c.in-Ok.ensures.found same)

use Rattle.std.proofs.Common.{arith}
use Rattle.std.proofs.lemmas.Iterator.{YieldsList-from_slice, YieldsList-from_zip}
use Rattle.std.proofs.lemmas.Iterator.Consumers.{YieldsList-end}
use Rattle.script_text.proofs.Reporting.{sends_zipped}
use Rattle.script_text.proofs.report.say_replies.Goals as goal

pub returns : goal.returns
returns g c =
    let e = YieldsList-end {s = c.into_iter-call-iterator.result} (YieldsList-from_zip (YieldsList-from_slice c.args.entry.now.calls (grind arith)) (YieldsList-from_slice c.args.entry.now.replies (grind arith))) c.loop-call.yielded c.loop-call.call-iterator c.loop-call.yielded_by c.next.result c.next.new.self c.in-None.is c.next.ensures.steps in
    sends_zipped c.args.entry.now.calls c.args.entry.now.replies c.loop-call.yielded _ _ e.0 c.loop-call.invariant

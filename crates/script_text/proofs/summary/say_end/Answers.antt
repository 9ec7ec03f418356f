use Rattle.script_text.proofs.Summing.{sends_end, sends_no_end}
use Rattle.script_text.proofs.summary.say_end.Goals as goal

pub returns-in-Some : goal.returns-in-Some
returns-in-Some g c = sends_end c.args.fault.now _ _ _ c.in-Some.is c.say_fault.ensures

pub returns-in-None : goal.returns-in-None
returns-in-None g c = sends_no_end c.args.fault.now _ c.in-None.is

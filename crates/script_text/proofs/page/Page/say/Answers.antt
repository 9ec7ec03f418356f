use Rattle.script_text.proofs.Paging.{sends_gather}
use Rattle.script_text.proofs.page.Page.say.Goals as goal

pub returns-then-gather : goal.returns-then-gather
returns-then-gather g c = sends_gather c.args.bytes.now _ _ _ _ c.gather.ensures.failed c.if-gather.ensures.bytes

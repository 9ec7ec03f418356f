use Rattle.std.proofs.Common.{[], ◌∷◌}
use Rattle.script_text.proofs.Paging.{sends_gather}
use Rattle.script_text.proofs.page.Page.say_byte.Goals as goal

pub returns-then-gather_byte : goal.returns-then-gather_byte
returns-then-gather_byte g c = sends_gather (c.args.byte ∷ []) _ _ _ _ c.gather_byte.ensures.failed c.if-gather_byte.ensures.bytes

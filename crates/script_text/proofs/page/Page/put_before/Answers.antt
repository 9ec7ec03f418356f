use Rattle.std.proofs.Common.{◌≡◌, []}
use Rattle.script_text.proofs.Paging.{sends_gather, sends_then}
use Rattle.script_text.proofs.page.Page.put_before.Goals as goal

pub returns-then-gather : goal.returns-then-gather
returns-then-gather g c =
    sends_then [] c.args.bytes.now _ _ _ c.flush.ensures.sends (sends_gather c.args.bytes.now _ _ _ _ c.gather.ensures.failed c.if-gather.ensures.bytes)

pub returns : goal.returns
returns g c =
    let same : c.gather.new.self ≡ c.flush.new.self = λ i. record { bytes = c.if-gather.ensures.bytes i; failed = c.gather.ensures.failed i } in
    sends_then [] c.args.bytes.now _ _ _ c.flush.ensures.sends (rw same at c.pass.ensures)

use Rattle.std.proofs.Common.{◌+◌, arith, subst, sym}
use Rattle.partition_index.specs.Search.{IsRangeAt}
use Rattle.partition_merge.specs.Windows.{WindowValue}
use Rattle.partition_merge.proofs.Streams.{range_on}
use Rattle.partition_merge.proofs.window.Window.extend.Goals as goal

pub returns-clause-range : goal.returns-clause-range
returns-clause-range g c range =
    let known = (g.E.LogEye.state c.args.eye.now).told in
    let from = c.self.inside.from in
    range_on c.read_on.result known c.args.part.now from (from + c.len-kept.result) c.self.inside.bytes c.read_on.new.self (omega (arith, c.len-kept.ensures)) c.read_on.ensures.kept c.read_on.ensures.front c.read_on.ensures.read
    (subst (λ (w : WindowValue). IsRangeAt known c.args.part.now w.from w.bytes) (sym c.self.view_is) range)

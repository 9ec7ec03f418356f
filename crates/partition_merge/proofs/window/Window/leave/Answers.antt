use Rattle.std.proofs.Common.{◌≡◌, ◌+◌, ◌-◌, subst, sym, arith}
use Rattle.partition_index.specs.Search.{IsRangeAt}
use Rattle.partition_merge.specs.Windows.{WindowValue}
use Rattle.partition_merge.proofs.Streams.{range_behind}
use Rattle.partition_merge.proofs.window.Window.leave.Goals as goal

pub returns-clause-range : goal.returns-clause-range
returns-clause-range c known part range =
    let from = c.self.inside.from in
    let bytes = c.self.inside.bytes in
    let passed = c.args.at - from in
    let there : from + passed ≡ c.args.at = omega (arith, c.if-at-self.false) in
    let here : IsRangeAt known part from bytes = subst (λ (w : WindowValue). IsRangeAt known part w.from w.bytes) (sym c.self.view_is) range in
    subst (λ at. IsRangeAt known part at c.drop_front.new.self) there
    (subst (IsRangeAt known part (from + passed)) (sym c.drop_front.ensures) (range_behind known part from passed bytes (omega (arith, c.if-end-at.false)) here))

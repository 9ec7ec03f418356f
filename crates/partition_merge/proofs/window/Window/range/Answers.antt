use Rattle.std.proofs.Common.{◌≡◌, ◌+◌, ◌-◌, ◌≤◌, drop, take, ap, subst, sym, arith, ◌∙◌}
use Rattle.partition_index.specs.Search.{IsRangeAt}
use Rattle.partition_merge.specs.Windows.{WindowValue, window_end}
use Rattle.partition_merge.proofs.Streams.{range_as, range_within}
use Rattle.partition_merge.proofs.window.Window.range.Goals as goal

pub returns-clause-range : goal.returns-clause-range
returns-clause-range c known part range =
    let from = c.self.inside.from in
    let bytes = c.self.inside.bytes in
    let passed = c.args.at - from in
    let here : IsRangeAt known part from bytes = subst (λ (w : WindowValue). IsRangeAt known part w.from w.bytes) (sym c.self.view_is) range in
    let reached = subst (λ (w : WindowValue). (w.from ≤ c.args.at) × (c.args.at + c.args.len ≤ window_end w)) (sym c.self.view_is) c.requires.reached in
    let len : passed + c.args.len - passed ≡ c.args.len = omega arith in
    range_as known part c.args.at _ (take c.args.len (drop passed bytes)) (ap (λ n. take n (drop passed c.as_slice.result.now)) len ∙ ap (λ xs. take c.args.len (drop passed xs)) c.as_slice.ensures)
    (range_within known part from c.args.at c.args.len bytes (omega (arith, reached.0)) (omega (arith, reached.1)) here)

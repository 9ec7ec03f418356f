use Rattle.std.proofs.Common.{◌≡◌, List, [], ◌∷◌, length, sym, ap, subst, arith, rules, length-append}
use Rattle.fine_model.specs.declared.Row.{Row}
use Rattle.node_fetch.specs.Spans.{ReadSoFar}
use Rattle.node_fetch.proofs.Reading.{read_none, read_more}
use Rattle.node_fetch.proofs.span.rows_in.Goals as goal

pub loop-init : goal.loop-init
loop-init c = record {
  count = ap length c.new-rows.ensures;
  so_far = subst (λ (rs : List Row). ReadSoFar c.args.mark c.args.bytes.now c.args.node rs 0) (sym c.new-rows.ensures) (read_none c.args.mark c.args.bytes.now c.args.node);
}

pub loop-preserved : goal.loop-preserved
loop-preserved c =
    let same : c.in-Ok.found.0.node ≡ c.args.node = search rules in
    record {
      count = omega (arith, ap length c.in_ok-push.ensures.ok, length-append c.loop.rows (c.in-Ok.found.0 ∷ []), c.loop.invariant.count);
      so_far = subst (λ (rs : List Row). ReadSoFar c.args.mark c.args.bytes.now c.args.node rs c.in-Ok.found.1) (sym c.in_ok-push.ensures.ok)
          (read_more c.args.mark c.args.bytes.now c.args.node c.loop.rows c.loop.at c.in-Ok.found.0 c.in-Ok.found.1 c.loop.invariant.so_far c.in-Ok.ensures.found same);
    }

use Rattle.std.proofs.Common.{◌∙◌, ap, arith, replicate}
use Rattle.fine_model.specs.declared.Outcome.TheVariants as outcome
use Rattle.lane_threads.proofs.means.make_means.Goals as goal

pub returns : goal.returns
returns g c =
    let counted = c.in_ok-parts.parts.ok.0 in
    record {
      outcomes = c.outcomes.view_is ∙ (c.in_ok-outcomes.ensures ∙ ap (λ n. replicate n outcome.NotRun) c.len.ensures);
      parts = c.in_ok-parts.ensures;
      workers = (c.in_ok-with_capacity.ensures.items, omega (arith, counted, c.in_ok-with_capacity.ensures.capacity));
      stopped = (c.in_ok-with_capacity-2.ensures.items, omega (arith, counted, c.in_ok-with_capacity-2.ensures.capacity));
      passes = (c.in_ok-with_capacity-3.ensures.items, omega (arith, counted, c.in_ok-with_capacity-3.ensures.capacity));
    }

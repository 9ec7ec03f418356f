use Rattle.std.proofs.Common.{inl}
use Rattle.lane_laws.proofs.Causes.{causes}
use Rattle.lane_laws.proofs.Durable.{adds, all_durable, history, seals_last}
use Rattle.lane_laws.proofs.Faults.{all_run, tells}
use Rattle.lane_laws.proofs.History.{few_each, outcomes, replied}
use Rattle.lane_laws.proofs.Needs.{in_need, last_need}
use Rattle.lane_laws.proofs.laws.lanes_law.Goals as goal

pub returns : goal.returns
returns c x script options old back new passes workers ended merger last ran j = record {
  run = record {
    history = history x script options old back new passes workers ended merger last ran j;
    adds = adds x script options old back new passes workers ended merger last ran j;
    outcomes = outcomes j;
    each_told = inl j.outcomes.count;
    replied = replied j;
    all_run = all_run x script options old back new passes workers ended merger last ran j;
    few_each = few_each j;
    in_need = in_need j;
    last_need = last_need j;
    durable = j.durable;
    all_durable = all_durable x script options old back new passes workers ended merger last ran j;
    causes = causes j;
    fault = tells x script options old back new passes workers ended merger last ran j;
  };
  seals_last = seals_last x script options old back new passes workers ended merger last ran j;
}

use Rattle.run_laws.proofs.Going.{few_end, few_less, few_more, few_wait}
use Rattle.run_laws.proofs.laws.few_law.Goals as goal

pub returns : goal.returns
returns c = record { wait = few_wait; more = few_more; end = few_end; less = few_less }

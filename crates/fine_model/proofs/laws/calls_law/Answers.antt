use Rattle.fine_model.proofs.Trees.PushedCalls.{pushed_behind, pushed_last, pushed_stops}
use Rattle.fine_model.proofs.laws.calls_law.Goals as goal

pub returns : goal.returns
returns c = record { behind = pushed_behind; last = pushed_last; stops = pushed_stops }

use Rattle.std.proofs.Common.{refl, subst}
use Rattle.node_cache.specs.Changing.{StepsBack}
use Rattle.node_cache.proofs.changing.change_kept.Goals as goal

pub returns-clause-noted : goal.returns-clause-noted
returns-clause-noted c = record {
  undo = _;
  original = c.of-original.ensures;
  version = refl;
  epoch = refl;
  first = c.new.ensures;
  step = subst (λ o. StepsBack o c.args.kept.now c.step_pair.new.kept c.args.row.now) c.in-Some.is (c.in_ok-last.ensures).step;
  entries = (c.in_default-note.ensures).ok;
}

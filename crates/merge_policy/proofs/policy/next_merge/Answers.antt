use Rattle.merge_policy.specs.Choices.{aims_of, neighbours, question}
use Rattle.merge_policy.specs.Figures.{figures, is_low, is_short}
use Rattle.merge_policy.proofs.Choosing.{none_fits, picks_none, picks_older}
use Rattle.merge_policy.proofs.policy.next_merge.Goals as goal

pub returns-clause-older : goal.returns-clause-older
returns-clause-older c = picks_older (question c.args.space c.args.known.now) c.args.parts.now (aims_of c.args.space c.args.parts.now) c.pick.result c.pick.ensures

pub returns-clause-at_ease : goal.returns-clause-at_ease
returns-clause-at_ease c = picks_none (question c.args.space c.args.known.now) (neighbours c.args.parts.now) (is_low c.args.space c.args.parts.now) (is_short c.args.space) c.pick.result c.pick.ensures

pub returns-clause-nothing_fits : goal.returns-clause-nothing_fits
unfolding figures
returns-clause-nothing_fits c = none_fits (question c.args.space c.args.known.now) (neighbours c.args.parts.now) (is_low c.args.space c.args.parts.now) (is_short c.args.space) c.pick.result c.pick.ensures

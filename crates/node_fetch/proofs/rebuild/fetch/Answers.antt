use Rattle.std.proofs.Common.{rules, sym, subst}
use Rattle.node_fetch.specs.Fetched.{TellsParts}
use Rattle.node_fetch.proofs.rebuild.fetch.Goals as goal

pub rebuilt-requires : goal.rebuilt-requires
rebuilt-requires g c = record { seen = search rules; len = search rules }

pub returns-clause-exact : goal.returns-clause-exact
returns-clause-exact g c rows tells = c.rebuilt.ensures.fetched.exact rows (subst (λ parts. TellsParts (g.E.LogEye.state c.args.eye.now) parts rows) (sym c.as_slice.ensures) tells)

use Rattle.std.proofs.Common.{◌≡◌, rules}
use Rattle.std.specs.Prelude.{IfOk}
use Rattle.fine_model.specs.Nodes.{replay}
use Rattle.node_fetch.proofs.Parts.{version_low}
use Rattle.node_fetch.proofs.rebuild.after.Goals as goal

pub returns-clause-version : goal.returns-clause-version
returns-clause-version c low all =
    let exact : IfOk c.map_err.result (λ after. after ≡ replay c.args.before c.args.rows) = search rules in
    version_low c.map_err.result c.args.before c.args.rows exact low all

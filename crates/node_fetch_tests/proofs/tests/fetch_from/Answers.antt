use Rattle.std.proofs.Common.{◌≡◌, sym, subst, rules}
use Rattle.std.specs.List.{AllByRecursion}
use Rattle.partition_index.specs.Parts.{IsSeen}
use Rattle.node_fetch_tests.proofs.tests.fetch_from.Goals as goal

pub fetch-requires-clause-seen : goal.fetch-requires-clause-seen
fetch-requires-clause-seen c =
    let same : c.from_vec.result ≡ c.args.parts.now = search rules in
    subst (AllByRecursion (IsSeen _)) (sym same) (c.requires _ _)

use Rattle.std.proofs.Common.{◌≡◌, Result, sym, subst}
use Rattle.std.specs.Prelude.{MatchResult}
use Rattle.fine_model.specs.declared.FetchFault.{FetchFault}
use Rattle.fine_model.specs.Merge.{merged}
use Rattle.node_fetch.specs.Fetched.{NoDamage}
use Rattle.partition_index.specs.Search.{TellsRows as TellsPart}
use Rattle.partition_merge.specs.declared.merger.Measure.{Measure}
use Rattle.partition_merge.specs.Mergers.{measure_of}
use Rattle.room_merges.proofs.Chained.{measure_is_told}
use Rattle.room_merges_tests.proofs.turns.measured.Goals as goal

pub returns-in-Ok-clause-measured : goal.returns-in-Ok-clause-measured
returns-in-Ok-clause-measured c =
    let view = c.args.view.now in
    let job = c.args.job.now in
    measure_is_told view job.older job.newer c.in-Ok.measure c.parts-parts.ensures.whole c.requires.older c.requires.newer
    (λ a b p q small. subst (λ (r : Result Measure FetchFault). MatchResult r (λ m. m ≡ measure_of (merged a b)) NoDamage) c.in-Ok.is
    (c.measure.ensures.exact a b (subst (λ part. TellsPart view.eye part a) (sym c.new-merger.ensures.older) p) (subst (λ part. TellsPart view.eye part b) (sym c.new-merger.ensures.newer) q) small))

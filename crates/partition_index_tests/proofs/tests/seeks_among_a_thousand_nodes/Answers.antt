use Rattle.std.proofs.Common.{◌∙◌}
use Rattle.partition_index_tests.specs.declared.tests.TheConstants.{THOUSAND}
use Rattle.partition_index.proofs.Looking.{seen_same}
use Rattle.partition_index_tests.proofs.tests.seeks_among_a_thousand_nodes.Goals as goal

pub loop-number-preserved : goal.loop-number-preserved
loop-number-preserved g c =
    let same = c.seek.ensures.eye.same in
    record {
      seen = seen_same c.loop-number.eye.eye c.seek.new.eye.eye THOUSAND same c.loop-number.invariant.seen;
      len = same.region_len ∙ c.loop-number.invariant.len;
    }

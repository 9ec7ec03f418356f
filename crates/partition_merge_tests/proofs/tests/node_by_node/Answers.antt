use Rattle.std.proofs.Common.{◌∙◌, rules, refl}
use Rattle.partition_index.proofs.Looking.{same_then}
use Rattle.partition_merge.proofs.StillSeen.{still_seen}
use Rattle.partition_merge_tests.proofs.tests.node_by_node.Goals as goal

pub loop-rows-init : goal.loop-rows-init
loop-rows-init g c = record { same = record { number = refl; regions = refl; region_len = refl; told = refl }; older = refl; newer = refl; region_len = refl; kept = c.requires.kept }

pub next_node-requires-clause-older : goal.next_node-requires-clause-older
next_node-requires-clause-older g c = still_seen (g.E.LogEye.state c.args.eye.now) (g.E.LogEye.state c.loop-rows.eye) _ _ c.loop-rows.invariant.same c.loop-rows.invariant.older c.requires.older

pub next_node-requires-clause-newer : goal.next_node-requires-clause-newer
next_node-requires-clause-newer g c = still_seen (g.E.LogEye.state c.args.eye.now) (g.E.LogEye.state c.loop-rows.eye) _ _ c.loop-rows.invariant.same c.loop-rows.invariant.newer c.requires.newer

pub loop-rows-preserved : goal.loop-rows-preserved
loop-rows-preserved g c =
    let i = c.loop-rows.invariant in
    record {
      same = same_then (g.E.LogEye.state c.args.eye.now) (g.E.LogEye.state c.loop-rows.eye) (g.E.LogEye.state c.next_node.new.eye) i.same c.next_node.ensures.eye.same;
      older = c.next_node.ensures.older ∙ i.older;
      newer = c.next_node.ensures.newer ∙ i.newer;
      region_len = c.next_node.ensures.region_len ∙ i.region_len;
      kept = search rules;
    }

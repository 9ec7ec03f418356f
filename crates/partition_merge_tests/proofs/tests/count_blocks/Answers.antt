use Rattle.std.proofs.Common.{◌∙◌, subst, refl}
use Rattle.partition_index.proofs.Looking.{same_then}
use Rattle.partition_merge.proofs.StillSeen.{still_seen}
use Rattle.partition_merge.specs.Mergers.{AreKept}
use Rattle.partition_merge_tests.proofs.tests.count_blocks.Goals as goal

pub loop-count-init : goal.loop-count-init
loop-count-init g c = record { eye = record { number = refl; regions = refl; region_len = refl; told = refl }; same = record { older = refl; newer = refl; region_len = refl; most = refl }; kept = c.requires.kept }

pub next-requires-clause-older : goal.next-requires-clause-older
next-requires-clause-older g c = still_seen (g.E.LogEye.state c.args.eye.now) (g.E.LogEye.state c.loop-count.eye) _ _ c.loop-count.invariant.eye c.loop-count.invariant.same.older c.requires.older

pub next-requires-clause-newer : goal.next-requires-clause-newer
next-requires-clause-newer g c = still_seen (g.E.LogEye.state c.args.eye.now) (g.E.LogEye.state c.loop-count.eye) _ _ c.loop-count.invariant.eye c.loop-count.invariant.same.newer c.requires.newer

pub loop-count-preserved : goal.loop-count-preserved
loop-count-preserved g c =
    let i = c.loop-count.invariant in
    record {
      eye = same_then (g.E.LogEye.state c.args.eye.now) (g.E.LogEye.state c.loop-count.eye) (g.E.LogEye.state c.next.new.eye) i.eye c.next.ensures.eye;
      same = record { older = c.next.ensures.same.older ∙ i.same.older; newer = c.next.ensures.same.newer ∙ i.same.newer; region_len = c.next.ensures.same.region_len ∙ i.same.region_len; most = c.next.ensures.same.most ∙ i.same.most };
      kept = subst (λ k. AreKept k c.next.new.self.merger) i.eye.told c.next.ensures.kept;
    }

use Rattle.std.proofs.Common.{ℕ, ◌+◌, ◌++◌, ap, ◌∙◌, subst, sym}
use Rattle.std.specs.Prelude.{take}
use Rattle.fine_model.specs.Map.{between}
use Rattle.fine_model.specs.ScanLaws.{IsKept}
use Rattle.fine_model.specs.Trees.{tree_map}
use Rattle.btree_nodes.specs.Calls.{IsFoundBetween}
use Rattle.txn_draft.specs.Scans.{IsCut}
use Rattle.txn_draft.proofs.Gathered.{gathered_on}
use Rattle.txn_draft.proofs.Used.{used_loaded, served, still_there}
use Rattle.txn_draft.proofs.scanning.RangeScan.gather.Goals as goal

pub returns-in-Ok-clause-sound : goal.returns-in-Ok-clause-sound
returns-in-Ok-clause-sound g c = λ rows log serves holds sound.
    let s = c.in-Ok.ensures.sound rows log serves holds sound in (
      λ kept. subst (λ (n : ℕ). IsKept (rows ++ log) c.args.low.now c.args.high.now c.args.limit (n + 1) c.cut.result) (sym (ap (λ s. s.next) c.self.view_is))
          (gathered_on (rows ++ log) c.args.low.now c.args.high.now c.args.limit c.args.self.now.next c.args.self.now.pairs c.scan.new.out c.cut.result sound c.requires.next
          (s.0 ∙ (λ i. ap (λ s. s.pairs) c.self.view_is i ++ take c.args.limit (between c.args.low.now c.args.high.now (tree_map (rows ++ log) (c.requires.bucket i)))))
          (subst (λ ps. IsCut c.args.limit ps c.cut.result) c.replace-gathered.ensures.value c.cut.ensures.cut) kept),
      s.1,
    )

pub returns-in-Ok-clause-answer : goal.returns-in-Ok-clause-answer
returns-in-Ok-clause-answer g c = record {
  longer = c.scan.new.out;
  found = subst (λ ps. IsFoundBetween c.scan.new.bucket c.args.low.now c.args.high.now c.args.limit ps c.scan.new.out) (ap (λ s. s.pairs) c.self.view_is) c.in-Ok.ensures.answer;
  cut = subst (λ ps. IsCut c.args.limit ps c.cut.result) c.replace-gathered.ensures.value c.cut.ensures.cut;
}

pub returns-in-Ok-clause-used : goal.returns-in-Ok-clause-used
returns-in-Ok-clause-used g c = λ low taken rows used most. used_loaded _ _ _ low most taken _ _ c.in-Ok.ensures.loaded rows used

pub returns-in-Err-clause-used : goal.returns-in-Err-clause-used
returns-in-Err-clause-used g c = λ low taken rows used most. used_loaded _ _ _ low most taken _ _ c.in-Err.ensures.loaded rows used

pub returns-in-Ok-clause-serves : goal.returns-in-Ok-clause-serves
returns-in-Ok-clause-serves g c = λ rows serves.
    served _ _ c.args.bucket.now c.scan.new.bucket rows (λ known. g.met.S.NodeSource.later_tells _ _ known c.in-Ok.ensures.later) c.in-Ok.ensures.loaded.bucket (still_there _ _ _ _ _ c.in-Ok.ensures.loaded) serves

pub returns-in-Err-clause-serves : goal.returns-in-Err-clause-serves
returns-in-Err-clause-serves g c = λ rows serves.
    served _ _ c.args.bucket.now c.scan.new.bucket rows (λ known. g.met.S.NodeSource.later_tells _ _ known c.in-Err.ensures.later) c.in-Err.ensures.loaded.bucket (still_there _ _ _ _ _ c.in-Err.ensures.loaded) serves

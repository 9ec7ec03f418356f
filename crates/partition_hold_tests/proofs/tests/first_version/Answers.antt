use Rattle.std.proofs.Common.{◌≡◌, ℕ, ◌==◌, Bool, true, false, if◌then◌else◌, [], refl, ap, subst}
use Rattle.std.specs.Prelude.{IfOk, IfSome}
use Rattle.fine_model.specs.declared.Node.TheVariants as node
use Rattle.fine_model.specs.Nodes.{Content, content, replay}
use Rattle.fine_model.specs.Trees.{nodes_of}
use Rattle.node_cache.specs.Cache.{cached}
use Rattle.partition_hold_tests.proofs.tests.first_version.Goals as goal

at_first : (bucket number : ℕ) → (nodes_of [] bucket number).1 ≡ 0
unfolding content replay
at_first bucket number = by (number == 0)
  where
    by : (t : Bool) → (if◌then◌else◌ {A = Content} t (node.Head 1 2 1, 0) (node.Leaf [], 0)).1 ≡ 0
    by true = refl
    by false = refl

pub returns : goal.returns
returns c =
    subst (λ n. IfOk c.version_by.result (λ found. IfSome found (λ version. version ≡ n))) (at_first c.new-bucket.result.bucket c.args.number)
    (c.version_by.ensures.exact [] c.requires.tells (ap (λ b. cached b c.args.number) c.new-bucket.ensures))

use Rattle.std.proofs.Common.{◌≡◌, ◌∙◌, ◌&&◌, true, ap, subst, option_copied, sym, refl}
use Rattle.std.specs.List.{list_all}
use Rattle.std.specs.Prelude.{◌==◌}
use Rattle.fine_model.specs.Trees.{bucket_of}
use Rattle.std.specs.Bool.{OnTrue}
use Rattle.node_cache.specs.Marked.{HasOwnKeys}
use Rattle.btree_nodes.proofs.InBounds.{fit_leaf}
use Rattle.btree_nodes.proofs.fitness.is_fit_leaf.Goals as goal

pub returns-then-are_within : goal.returns-then-are_within
returns-then-are_within c =
    ap (λ b. b && c.are_of.result) (sym c.if-are_within.true)
    ∙ fit_leaf c.args.bucket (record { low = option_copied c.args.low; high = option_copied c.args.high }) c.args.node.now c.in-Leaf.pairs c.as_slice-pairs.result.now c.are_within.result c.are_of.result c.requires.fits c.in-Leaf.is c.as_slice-pairs.ensures c.are_within.ensures c.are_of.ensures

pub returns-else-are_within : goal.returns-else-are_within
returns-else-are_within c =
    let of_bucket = list_all (λ p. bucket_of p.0 == c.args.bucket) c.as_slice-pairs.result.now in
    c.if-are_within.false ∙ ap (λ b. b && of_bucket) (sym c.if-are_within.false)
    ∙ fit_leaf c.args.bucket (record { low = option_copied c.args.low; high = option_copied c.args.high }) c.args.node.now c.in-Leaf.pairs c.as_slice-pairs.result.now c.are_within.result of_bucket c.requires.fits c.in-Leaf.is c.as_slice-pairs.ensures c.are_within.ensures refl

pub are_of-requires : goal.are_of-requires
are_of-requires c =
    subst (λ ps. OnTrue c.args.are_own (list_all (λ p. bucket_of p.0 == c.args.bucket) ps ≡ true)) (sym c.as_slice-pairs.ensures)
    (subst (λ n. OnTrue c.args.are_own (HasOwnKeys c.args.bucket n)) c.in-Leaf.is c.requires.own)

use Rattle.std.proofs.Common.{sym, subst, ◌∙◌}
use Rattle.node_cache.specs.Given.{given}
use Rattle.btree_nodes.specs.Descent.{bounds_by}
use Rattle.btree_nodes.specs.Scans.{IsUnfitUnder}
use Rattle.btree_nodes.proofs.OwnKeys.{own_leaf, own_cached}
use Rattle.btree_nodes.proofs.Scanned.{leaf_unfit, leaf_scanned}
use Rattle.btree_nodes.proofs.scanning.scan_leaf.Goals as goal

pub returns-then-not-is_leaf_within-clause-way : goal.returns-then-not-is_leaf_within-clause-way
returns-then-not-is_leaf_within-clause-way c = λ next.
    let b = c.args.bucket.now in
    let bounds = bounds_by (given b) c.args.at.low c.args.at.high in
    subst (IsUnfitUnder b 0 next c.args.low.now c.args.high.now bounds c.args.at.number c.args.wanted) (sym c.node_in-node.ensures)
    (leaf_unfit b next c.args.low.now c.args.high.now bounds c.args.at.number c.args.wanted (sym c.is_leaf_within.ensures ∙ c.if-not-is_leaf_within.true) c.requires.there)

pub returns-clause-way : goal.returns-clause-way
returns-clause-way c = λ next.
    let b = c.args.bucket.now in
    leaf_scanned b next c.args.low.now c.args.high.now (bounds_by (given b) c.args.at.low c.args.at.high) c.args.at.number c.args.wanted c.in_ok-left.left c.args.out.now c.take_from.new.out
    (sym c.is_leaf_within.ensures ∙ c.if-not-is_leaf_within.false) (c.in_ok-left.ensures).taken

pub note_own_keys-requires : goal.note_own_keys-requires
note_own_keys-requires c =
    let b = c.args.bucket.now in
    own_cached b c.args.at.number (own_leaf b.bucket (bounds_by (given b) c.args.at.low c.args.at.high) (given b c.args.at.number).0 (sym c.is_leaf_within.ensures ∙ c.if-not-is_leaf_within.false))

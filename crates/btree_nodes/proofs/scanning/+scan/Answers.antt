use Rattle.std.proofs.Common.{◌<◌, ◌-◌, sym, subst, ◌∙◌, arith, rules}
use Rattle.std.proofs.lemmas.Result.{err_from_is_err_and}
use Rattle.fine_model.specs.Trees.{kids_of}
use Rattle.node_cache.specs.Given.{given}
use Rattle.btree_nodes.specs.Descent.{bounds_by}
use Rattle.btree_nodes.specs.Scans.{IsUnfitUnder, IsScanned}
use Rattle.btree_nodes.proofs.Scanned.{leaf_answer, inner_unfit, kids_answer, inner_stays, inner_behind, none_wanted, none_behind, child_of, child_small, still_meets, scanned_stays, passed_over, scanned_on, fault_below, past_all}
use Rattle.btree_nodes.proofs.Changed.{on_ok, of_ok}
use Rattle.btree_nodes.proofs.Loads.{loaded_then}
use Rattle.btree_nodes.proofs.OnWalks.{first_among, leaf_used, inner_among, inner_used, none_used, behind_used, past_among, past_used, part_among, on_among, on_used}
use Rattle.btree_nodes.proofs.scanning.+scan.Goals as goal

pub scan_from-returns-then-height-eq0-clause-way :
    goal.scan_from-returns-then-height-eq0-clause-way
scan_from-returns-then-height-eq0-clause-way g t c =
    let b = c.reach.new.bucket in
    rw c.scan_leaf.ensures.same (leaf_answer b c.args.height c.args.next c.args.low.now c.args.high.now (bounds_by (given b) c.args.at.low c.args.at.high) c.args.at.number c.args.wanted c.args.out.now c.scan_leaf.new.out _ c.if-height-eq0.true c.scan_leaf.result (c.scan_leaf.ensures.way c.args.next))

pub scan_from-returns-then-not-is_inner_within-clause-way :
    goal.scan_from-returns-then-not-is_inner_within-clause-way
scan_from-returns-then-not-is_inner_within-clause-way g t c =
    let b = c.reach.new.bucket in
    let bounds = bounds_by (given b) c.args.at.low c.args.at.high in
    let above : 0 < c.args.height = omega arith in
    subst (IsUnfitUnder b c.args.height c.args.next c.args.low.now c.args.high.now bounds c.args.at.number c.args.wanted) (sym c.node_in-node.ensures)
    (inner_unfit b c.args.next c.args.low.now c.args.high.now bounds c.args.at.number c.args.wanted c.args.height above (sym c.is_inner_within.ensures ∙ c.if-not-is_inner_within.true) (c.in_ok-reach.ensures).there)

pub scan_from-returns-clause-way : goal.scan_from-returns-clause-way
scan_from-returns-clause-way g t c =
    let above : 0 < c.args.height = omega arith in
    let inner = inner_behind _ _ _ _ _ _ _ c.reach.new.bucket c.scan_kids.new.bucket c.reach.ensures.loaded c.scan_kids.ensures.loaded c.args.next c.args.at c.requires.low c.requires.high (c.in_ok-reach.ensures).there (sym c.is_inner_within.ensures ∙ c.if-not-is_inner_within.false) in
    kids_answer c.scan_kids.new.bucket c.args.height c.args.next c.args.low.now c.args.high.now c.args.at c.args.wanted c.args.out.now c.scan_kids.new.out _ _ (λ f h. g.met.S.NodeSource.fails_earlier _ _ _ f c.reach.ensures.later h) above inner c.scan_kids.result c.scan_kids.ensures.way

pub scan_kids-returns-then-wanted-eq0-clause-way :
    goal.scan_kids-returns-then-wanted-eq0-clause-way
scan_kids-returns-then-wanted-eq0-clause-way g t c =
    none_wanted c.args.bucket.now (c.args.height - 1) c.args.next c.args.low.now c.args.high.now c.args.at c.args.place c.args.wanted c.args.out.now c.if-wanted-eq0.true

pub scan_kids-returns-in_default-clause-way : goal.scan_kids-returns-in_default-clause-way
scan_kids-returns-in_default-clause-way g t c =
    none_behind c.args.bucket.now (c.args.height - 1) c.args.next c.args.low.now c.args.high.now c.args.at c.args.place c.args.wanted c.args.out.now (c.in_default.ensures).child

pub scan_kids-returns-then-not-child_meets-clause-way :
    goal.scan_kids-returns-then-not-child_meets-clause-way
scan_kids-returns-then-not-child_meets-clause-way g t c =
    let of = child_of c.args.bucket.now c.args.next c.args.at c.args.place c.in-Some.child c.requires.there c.requires.low c.requires.high c.requires.inner (c.in-Some.ensures).child (c.in-Some.ensures).kept in
    let met = still_meets _ _ _ c.args.bucket.now c.scan_kids.new.bucket c.scan_kids.ensures.loaded c.args.next c.args.low.now c.args.high.now c.args.at c.args.place c.in-Some.child _ of (sym c.child_meets.ensures ∙ c.if-not-child_meets.true) in
    passed_over c.scan_kids.new.bucket (c.args.height - 1) c.args.next c.args.low.now c.args.high.now c.args.at c.args.place c.in-Some.child met.of
    c.args.wanted c.args.out.now c.scan_kids.new.out _ met.holds c.scan_kids.result c.scan_kids.ensures.way

pub scan_kids-scan_from-requires : goal.scan_kids-scan_from-requires
scan_kids-scan_from-requires g t c κs within =
    let small = child_small (given c.args.bucket.now) (bounds_by (given c.args.bucket.now) c.args.at.low c.args.at.high) c.args.next c.args.at c.args.place c.in-Some.child c.requires.inner (c.in-Some.ensures).child in
    search (rules, small)

pub scan_kids-returns-in_err-left-clause-way : goal.scan_kids-returns-in_err-left-clause-way
scan_kids-returns-in_err-left-clause-way g t c =
    let of = child_of c.args.bucket.now c.args.next c.args.at c.args.place c.in-Some.child c.requires.there c.requires.low c.requires.high c.requires.inner (c.in-Some.ensures).child (c.in-Some.ensures).kept in
    let met = still_meets _ _ _ c.args.bucket.now c.scan_from.new.bucket c.scan_from.ensures.loaded c.args.next c.args.low.now c.args.high.now c.args.at c.args.place c.in-Some.child _ of (sym c.child_meets.ensures ∙ c.if-not-child_meets.false) in
    let p = err_from_is_err_and c.from_residual.result c.from_residual.ensures.1 in
    rw (p.1, p.2)
    (fault_below c.scan_from.new.bucket (c.args.height - 1) c.args.next c.args.low.now c.args.high.now c.args.at c.args.place c.in-Some.child met.of
    c.args.wanted met.holds c.if-wanted-eq0.false c.args.out.now c.scan_from.new.out _ c.in_err-left.field-0.0 (c.in_err-left.ensures).way)

pub scan_kids-scan_kids-requires-2 : goal.scan_kids-scan_kids-requires-2
scan_kids-scan_kids-requires-2 g t c κs within =
    let inner = inner_stays _ _ _ c.args.bucket.now c.scan_from.new.bucket c.scan_from.ensures.loaded c.args.next c.args.at c.requires.there c.requires.low c.requires.high c.requires.inner in
    search (rules, inner)

pub scan_kids-returns-clause-way : goal.scan_kids-returns-clause-way
scan_kids-returns-clause-way g t c =
    let of = child_of c.args.bucket.now c.args.next c.args.at c.args.place c.in-Some.child c.requires.there c.requires.low c.requires.high c.requires.inner (c.in-Some.ensures).child (c.in-Some.ensures).kept in
    let met = still_meets _ _ _ c.args.bucket.now c.scan_from.new.bucket c.scan_from.ensures.loaded c.args.next c.args.low.now c.args.high.now c.args.at c.args.place c.in-Some.child _ of (sym c.child_meets.ensures ∙ c.if-not-child_meets.false) in
    let on = still_meets _ _ _ c.scan_from.new.bucket c.scan_kids-2.new.bucket c.scan_kids-2.ensures.loaded c.args.next c.args.low.now c.args.high.now c.args.at c.args.place c.in-Some.child _ met.of met.holds in
    let one = scanned_stays _ _ _ c.scan_from.new.bucket c.scan_kids-2.new.bucket c.scan_kids-2.ensures.loaded (c.args.height - 1) c.args.next c.args.low.now c.args.high.now (bounds_by (given c.scan_from.new.bucket) c.in-Some.child.low c.in-Some.child.high) c.in-Some.child.number c.args.wanted c.in_ok-left.left c.args.out.now c.scan_from.new.out (c.in_ok-left.ensures).way in
    scanned_on c.scan_kids-2.new.bucket (c.args.height - 1) c.args.next c.args.low.now c.args.high.now c.args.at c.args.place c.in-Some.child on.of c.args.wanted on.holds c.if-wanted-eq0.false c.in_ok-left.left c.args.out.now c.scan_from.new.out c.scan_kids-2.new.out _ _
    (λ f h. g.met.S.NodeSource.fails_earlier _ _ _ f c.scan_from.ensures.later h)
    (subst (λ k. IsScanned c.scan_kids-2.new.bucket (c.args.height - 1) c.args.next c.args.low.now c.args.high.now k c.in-Some.child.number c.args.wanted c.in_ok-left.left c.args.out.now c.scan_from.new.out) (sym on.bounds) one) c.scan_kids-2.result c.scan_kids-2.ensures.way

pub scan_kids-returns-clause-loaded : goal.scan_kids-returns-clause-loaded
scan_kids-returns-clause-loaded g t c =
    loaded_then _ _ _ _ _ _ _ c.scan_from.new.bucket _ (λ rows. g.met.S.NodeSource.later_tells _ _ rows c.scan_from.ensures.later) (λ id found. g.met.S.NodeSource.finds_before _ _ id found c.scan_from.ensures.later) (g.met.S.NodeSource.later_upper _ _ c.scan_from.ensures.later) c.scan_from.ensures.loaded c.scan_kids-2.ensures.loaded

pub scan_from-returns-in_err-reach-clause-on_walk : goal.scan_from-returns-in_err-reach-clause-on_walk
scan_from-returns-in_err-reach-clause-on_walk g t c =
    first_among c.args.low.now c.args.high.now _ c.args.next _ _ c.args.at.number c.args.wanted _ _ c.args.height c.reach.ensures.among

pub scan_from-returns-then-height-eq0-clause-on_walk : goal.scan_from-returns-then-height-eq0-clause-on_walk
scan_from-returns-then-height-eq0-clause-on_walk g t c =
    rw c.scan_leaf.ensures.same (first_among c.args.low.now c.args.high.now _ c.args.next _ _ c.args.at.number c.args.wanted _ _ c.args.height c.reach.ensures.among)

pub scan_from-returns-then-height-eq0-clause-loaded : goal.scan_from-returns-then-height-eq0-clause-loaded
scan_from-returns-then-height-eq0-clause-loaded g t c = rw c.scan_leaf.ensures.same c.reach.ensures.loaded

pub scan_from-returns-then-not-is_inner_within-clause-on_walk : goal.scan_from-returns-then-not-is_inner_within-clause-on_walk
scan_from-returns-then-not-is_inner_within-clause-on_walk g t c =
    first_among c.args.low.now c.args.high.now _ c.args.next _ _ c.args.at.number c.args.wanted _ _ c.args.height c.reach.ensures.among

pub scan_from-returns-then-height-eq0-clause-used : goal.scan_from-returns-then-height-eq0-clause-used
scan_from-returns-then-height-eq0-clause-used g t c =
    let b = c.reach.new.bucket in
    rw c.scan_leaf.ensures.same (of_ok c.scan_leaf.result (leaf_used c.args.low.now c.args.high.now b.bucket c.args.next (given b) (bounds_by (given b) c.args.at.low c.args.at.high) c.args.at.number c.args.wanted c.args.bucket.now b c.args.height c.if-height-eq0.true (c.in_ok-reach.ensures).used))

pub scan_from-returns-clause-on_walk : goal.scan_from-returns-clause-on_walk
scan_from-returns-clause-on_walk g t c =
    let above : 0 < c.args.height = omega arith in
    let inner = inner_behind _ _ _ _ _ _ _ c.reach.new.bucket c.scan_kids.new.bucket c.reach.ensures.loaded c.scan_kids.ensures.loaded c.args.next c.args.at c.requires.low c.requires.high (c.in_ok-reach.ensures).there (sym c.is_inner_within.ensures ∙ c.if-not-is_inner_within.false) in
    inner_among c.args.low.now c.args.high.now c.args.bucket.now c.reach.new.bucket c.scan_kids.new.bucket c.args.height c.args.next c.args.at c.args.wanted above inner c.reach.ensures.among c.scan_kids.ensures.on_walk

pub scan_from-returns-clause-used : goal.scan_from-returns-clause-used
scan_from-returns-clause-used g t c =
    let above : 0 < c.args.height = omega arith in
    let inner = inner_behind _ _ _ _ _ _ _ c.reach.new.bucket c.scan_kids.new.bucket c.reach.ensures.loaded c.scan_kids.ensures.loaded c.args.next c.args.at c.requires.low c.requires.high (c.in_ok-reach.ensures).there (sym c.is_inner_within.ensures ∙ c.if-not-is_inner_within.false) in
    on_ok c.scan_kids.result (inner_used c.args.low.now c.args.high.now c.args.bucket.now c.reach.new.bucket c.scan_kids.new.bucket c.args.height c.args.next c.args.at c.args.wanted above inner (c.in_ok-reach.ensures).used) c.scan_kids.ensures.used

pub scan_kids-returns-then-wanted-eq0-clause-used : goal.scan_kids-returns-then-wanted-eq0-clause-used
scan_kids-returns-then-wanted-eq0-clause-used g t c =
    none_used c.args.low.now c.args.high.now c.args.bucket.now (c.args.height - 1) c.args.next c.args.at c.args.place c.args.wanted c.if-wanted-eq0.true

pub scan_kids-returns-in_default-clause-used : goal.scan_kids-returns-in_default-clause-used
scan_kids-returns-in_default-clause-used g t c =
    behind_used c.args.low.now c.args.high.now c.args.bucket.now (c.args.height - 1) c.args.next c.args.at c.args.place c.args.wanted
    (past_all (kids_of (given c.args.bucket.now c.args.at.number).0) c.args.place (c.in_default.ensures).child)

pub scan_kids-returns-then-not-child_meets-clause-on_walk : goal.scan_kids-returns-then-not-child_meets-clause-on_walk
scan_kids-returns-then-not-child_meets-clause-on_walk g t c =
    let of = child_of c.args.bucket.now c.args.next c.args.at c.args.place c.in-Some.child c.requires.there c.requires.low c.requires.high c.requires.inner (c.in-Some.ensures).child (c.in-Some.ensures).kept in
    let met = still_meets _ _ _ c.args.bucket.now c.scan_kids.new.bucket c.scan_kids.ensures.loaded c.args.next c.args.low.now c.args.high.now c.args.at c.args.place c.in-Some.child _ of (sym c.child_meets.ensures ∙ c.if-not-child_meets.true) in
    past_among c.args.low.now c.args.high.now c.scan_kids.new.bucket (c.args.height - 1) c.args.next c.args.at c.args.place c.in-Some.child met.of c.args.wanted c.args.bucket.now met.holds c.scan_kids.ensures.on_walk

pub scan_kids-returns-then-not-child_meets-clause-used : goal.scan_kids-returns-then-not-child_meets-clause-used
scan_kids-returns-then-not-child_meets-clause-used g t c =
    let of = child_of c.args.bucket.now c.args.next c.args.at c.args.place c.in-Some.child c.requires.there c.requires.low c.requires.high c.requires.inner (c.in-Some.ensures).child (c.in-Some.ensures).kept in
    let met = still_meets _ _ _ c.args.bucket.now c.scan_kids.new.bucket c.scan_kids.ensures.loaded c.args.next c.args.low.now c.args.high.now c.args.at c.args.place c.in-Some.child _ of (sym c.child_meets.ensures ∙ c.if-not-child_meets.true) in
    on_ok c.scan_kids.result (past_used c.args.low.now c.args.high.now c.scan_kids.new.bucket (c.args.height - 1) c.args.next c.args.at c.args.place c.in-Some.child met.of c.args.wanted c.args.bucket.now met.holds) c.scan_kids.ensures.used

pub scan_kids-returns-in_err-left-clause-on_walk : goal.scan_kids-returns-in_err-left-clause-on_walk
scan_kids-returns-in_err-left-clause-on_walk g t c =
    let of = child_of c.args.bucket.now c.args.next c.args.at c.args.place c.in-Some.child c.requires.there c.requires.low c.requires.high c.requires.inner (c.in-Some.ensures).child (c.in-Some.ensures).kept in
    let met = still_meets _ _ _ c.args.bucket.now c.scan_from.new.bucket c.scan_from.ensures.loaded c.args.next c.args.low.now c.args.high.now c.args.at c.args.place c.in-Some.child _ of (sym c.child_meets.ensures ∙ c.if-not-child_meets.false) in
    part_among c.args.low.now c.args.high.now c.scan_from.new.bucket (c.args.height - 1) c.args.next c.args.at c.args.place c.in-Some.child met.of c.args.wanted met.holds c.if-wanted-eq0.false c.args.bucket.now c.scan_from.ensures.on_walk

pub scan_kids-returns-clause-on_walk : goal.scan_kids-returns-clause-on_walk
scan_kids-returns-clause-on_walk g t c =
    let of = child_of c.args.bucket.now c.args.next c.args.at c.args.place c.in-Some.child c.requires.there c.requires.low c.requires.high c.requires.inner (c.in-Some.ensures).child (c.in-Some.ensures).kept in
    let met = still_meets _ _ _ c.args.bucket.now c.scan_from.new.bucket c.scan_from.ensures.loaded c.args.next c.args.low.now c.args.high.now c.args.at c.args.place c.in-Some.child _ of (sym c.child_meets.ensures ∙ c.if-not-child_meets.false) in
    let on = still_meets _ _ _ c.scan_from.new.bucket c.scan_kids-2.new.bucket c.scan_kids-2.ensures.loaded c.args.next c.args.low.now c.args.high.now c.args.at c.args.place c.in-Some.child _ met.of met.holds in
    on_among c.args.low.now c.args.high.now c.scan_kids-2.new.bucket (c.args.height - 1) c.args.next c.args.at c.args.place c.in-Some.child on.of c.args.wanted on.holds c.if-wanted-eq0.false _ _ _ c.args.bucket.now c.scan_from.new.bucket c.scan_kids-2.ensures.loaded
    c.in_ok-left.left on.bounds ((c.in_ok-left.ensures).way).fit c.scan_from.ensures.on_walk c.scan_kids-2.ensures.on_walk

pub scan_kids-returns-clause-used : goal.scan_kids-returns-clause-used
scan_kids-returns-clause-used g t c =
    let of = child_of c.args.bucket.now c.args.next c.args.at c.args.place c.in-Some.child c.requires.there c.requires.low c.requires.high c.requires.inner (c.in-Some.ensures).child (c.in-Some.ensures).kept in
    let met = still_meets _ _ _ c.args.bucket.now c.scan_from.new.bucket c.scan_from.ensures.loaded c.args.next c.args.low.now c.args.high.now c.args.at c.args.place c.in-Some.child _ of (sym c.child_meets.ensures ∙ c.if-not-child_meets.false) in
    let on = still_meets _ _ _ c.scan_from.new.bucket c.scan_kids-2.new.bucket c.scan_kids-2.ensures.loaded c.args.next c.args.low.now c.args.high.now c.args.at c.args.place c.in-Some.child _ met.of met.holds in
    on_ok c.scan_kids-2.result (on_used c.args.low.now c.args.high.now c.scan_kids-2.new.bucket (c.args.height - 1) c.args.next c.args.at c.args.place c.in-Some.child on.of c.args.wanted on.holds c.if-wanted-eq0.false _ _ _ c.args.bucket.now c.scan_from.new.bucket c.scan_kids-2.ensures.loaded
    c.in_ok-left.left on.bounds ((c.in_ok-left.ensures).way).fit (c.in_ok-left.ensures).used) c.scan_kids-2.ensures.used

use Rattle.std.proofs.Common.{◌≡◌, ◌<◌, sym, ◌∙◌, arith, refl}
use Rattle.node_cache.specs.Given.{given}
use Rattle.btree_nodes.specs.Descent.{bounds_by}
use Rattle.btree_nodes.proofs.Ways.{way_leaf, unfit_leaf, unfit_inner, descends_on, step_behind, among_first, among_step, used_first, used_step}
use Rattle.btree_nodes.proofs.Changed.{on_ok}
use Rattle.btree_nodes.proofs.Loads.{loaded_then}
use Rattle.btree_nodes.proofs.SoundCalls.{clean_map}
use Rattle.btree_nodes.proofs.descent.+descend.Goals as goal

pub returns-then-is_leaf_within-clause-way : goal.returns-then-is_leaf_within-clause-way
returns-then-is_leaf_within-clause-way g t c =
    way_leaf c.reach.new.bucket c.args.next c.args.key.now (bounds_by (given c.reach.new.bucket) c.args.low c.args.high) c.args.number c.args.height (omega arith) (sym c.is_leaf_within.ensures ∙ c.if-is_leaf_within.true) (c.in_ok-reach.ensures).there

pub returns-else-is_leaf_within-clause-way : goal.returns-else-is_leaf_within-clause-way
returns-else-is_leaf_within-clause-way g t c =
    rw c.node_in-unfit.ensures
    (unfit_leaf c.reach.new.bucket c.args.next c.args.key.now (bounds_by (given c.reach.new.bucket) c.args.low c.args.high) c.args.number c.args.height c.reach.new.bucket.bucket (omega arith) refl (sym c.is_leaf_within.ensures ∙ c.if-is_leaf_within.false) (c.in_ok-reach.ensures).there)

pub returns-in_default-clause-way : goal.returns-in_default-clause-way
returns-in_default-clause-way g t c =
    rw c.node_in-unfit.ensures
    (unfit_inner c.reach.new.bucket c.args.next c.args.key.now (bounds_by (given c.reach.new.bucket) c.args.low c.args.high) c.args.number c.args.height c.reach.new.bucket.bucket (omega arith) refl (c.in_default.ensures).step (c.in_ok-reach.ensures).there)

pub returns-clause-way : goal.returns-clause-way
returns-clause-way g t c =
    let mid = c.reach.new.bucket in
    let above : 0 < c.args.height = omega arith in
    let step = step_behind _ _ _ _ _ _ _ mid c.descend.new.bucket c.reach.ensures.loaded c.descend.ensures.loaded c.args.next c.args.key.now c.args.low c.args.high c.args.number c.in-Some.step c.requires.low c.requires.high (c.in_ok-reach.ensures).there (c.in-Some.ensures).kept (c.in-Some.ensures).step in
    descends_on c.descend.new.bucket c.args.next c.args.key.now c.args.low c.args.high c.args.number c.in-Some.step step c.args.height _ _ (λ f h. g.met.S.NodeSource.fails_earlier _ _ _ f c.reach.ensures.later h) above c.descend.result c.descend.ensures.way

pub returns-in_err-reach-clause-on_way : goal.returns-in_err-reach-clause-on_way
returns-in_err-reach-clause-on_way g t c = among_first _ _ _ _ c.args.height c.args.number c.reach.ensures.among

pub returns-then-is_leaf_within-clause-on_way : goal.returns-then-is_leaf_within-clause-on_way
returns-then-is_leaf_within-clause-on_way g t c = among_first _ _ _ _ c.args.height c.args.number c.reach.ensures.among

pub returns-else-is_leaf_within-clause-on_way : goal.returns-else-is_leaf_within-clause-on_way
returns-else-is_leaf_within-clause-on_way g t c = among_first _ _ _ _ c.args.height c.args.number c.reach.ensures.among

pub returns-in_default-clause-on_way : goal.returns-in_default-clause-on_way
returns-in_default-clause-on_way g t c = among_first _ _ _ _ c.args.height c.args.number c.reach.ensures.among

pub returns-clause-on_way : goal.returns-clause-on_way
returns-clause-on_way g t c =
    let mid = c.reach.new.bucket in
    let above : 0 < c.args.height = omega arith in
    let step = step_behind _ _ _ _ _ _ _ mid c.descend.new.bucket c.reach.ensures.loaded c.descend.ensures.loaded c.args.next c.args.key.now c.args.low c.args.high c.args.number c.in-Some.step c.requires.low c.requires.high (c.in_ok-reach.ensures).there (c.in-Some.ensures).kept (c.in-Some.ensures).step in
    among_step c.args.bucket.now mid c.descend.new.bucket c.args.key.now c.args.height c.args.number c.in-Some.step.number above step.number c.reach.ensures.among c.descend.ensures.on_way

pub returns-clause-loaded : goal.returns-clause-loaded
returns-clause-loaded g t c =
    loaded_then _ _ _ _ _ _ _ c.reach.new.bucket _ (λ rows. g.met.S.NodeSource.later_tells _ _ rows c.reach.ensures.later) (λ id found. g.met.S.NodeSource.finds_before _ _ id found c.reach.ensures.later) (g.met.S.NodeSource.later_upper _ _ c.reach.ensures.later) c.reach.ensures.loaded c.descend.ensures.loaded

pub returns-clause-clean : goal.returns-clause-clean
returns-clause-clean g t c =
    clean_map c.descend.result _ _ (g.met.S.NodeSource.clean_on _ _ _ (c.in_ok-reach.ensures).clean) c.descend.ensures.clean

pub returns-then-is_leaf_within-clause-used : goal.returns-then-is_leaf_within-clause-used
returns-then-is_leaf_within-clause-used g t c =
    let ground_floor : c.args.height ≡ 0 = omega arith in
    used_first c.args.bucket.now c.reach.new.bucket _ _ c.args.height c.args.number ground_floor (c.in_ok-reach.ensures).used

pub returns-clause-used : goal.returns-clause-used
returns-clause-used g t c =
    let mid = c.reach.new.bucket in
    let above : 0 < c.args.height = omega arith in
    let step = step_behind _ _ _ _ _ _ _ mid c.descend.new.bucket c.reach.ensures.loaded c.descend.ensures.loaded c.args.next c.args.key.now c.args.low c.args.high c.args.number c.in-Some.step c.requires.low c.requires.high (c.in_ok-reach.ensures).there (c.in-Some.ensures).kept (c.in-Some.ensures).step in
    on_ok c.descend.result (used_step c.args.bucket.now mid c.descend.new.bucket c.args.key.now c.args.height c.args.number c.in-Some.step.number above step.number (c.in_ok-reach.ensures).used) c.descend.ensures.used

use Rattle.std.proofs.Common.{ℕ, Err, refl, sym, subst, ◌∙◌, rules}
use Rattle.std.proofs.lemmas.Result.{err_from_is_err_and}
use Rattle.node_cache.specs.Given.{given, IsCached}
use Rattle.node_cache.specs.Marked.{HasOwnKeys}
use Rattle.btree_nodes.specs.Calls.{IsFirstUnfit}
use Rattle.btree_nodes.specs.declared.tree.Path.{Path}
use Rattle.btree_nodes.proofs.Loads.{loaded_kept, loaded_then}
use Rattle.btree_nodes.proofs.SoundCalls.{clean_map, clean_fault}
use Rattle.btree_nodes.proofs.Ways.{among_head, used_under}
use Rattle.btree_nodes.proofs.Paths.{key_bucket, head_behind, head_none, way_path, way_from_head, fault_under}
use Rattle.btree_nodes.proofs.OwnKeys.{own_cached, own_end}
use Rattle.btree_nodes.proofs.tree.find_leaf.Goals as goal

pub returns-in_default-clause-path : goal.returns-in_default-clause-path
returns-in_default-clause-path g c =
    let b = c.reach.new.bucket in
    subst (IsFirstUnfit b c.args.key.now) (sym c.node_in-unfit.ensures)
    (record { of_bucket = refl; first = head_none b.bucket (given b) c.args.key.now (given b 0).0 c.in_default.ensures; there = (c.in_ok-reach.ensures).there })

pub returns-in_err-leaf-clause-path : goal.returns-in_err-leaf-clause-path
returns-in_err-leaf-clause-path g c =
    let b = c.descend.new.bucket in
    let here : IsCached c.reach.new.bucket 0 = (c.in_ok-reach.ensures).there in
    let then_here = loaded_kept _ _ _ c.reach.new.bucket b c.descend.ensures.loaded 0 here in
    let says = head_behind _ _ _ c.reach.new.bucket b c.descend.ensures.loaded c.in-Some.root c.in-Some.next c.in-Some.depth here c.in-Some.ensures in
    let p = err_from_is_err_and c.from_residual-in_err-leaf.result c.from_residual-in_err-leaf.ensures.1 in
    rw (p.1, p.2)
    (fault_under b c.args.key.now c.in-Some.root c.in-Some.next c.in-Some.depth then_here says _ _ (λ f h. g.met.S.NodeSource.fails_earlier _ _ _ f c.reach.ensures.later h) c.in_err-leaf.field-0.0 (c.in_err-leaf.ensures).way)

pub returns-clause-path : goal.returns-clause-path
returns-clause-path g c =
    let b = c.descend.new.bucket in
    let here : IsCached c.reach.new.bucket 0 = (c.in_ok-reach.ensures).there in
    let then_here = loaded_kept _ _ _ c.reach.new.bucket b c.descend.ensures.loaded 0 here in
    let says = head_behind _ _ _ c.reach.new.bucket b c.descend.ensures.loaded c.in-Some.root c.in-Some.next c.in-Some.depth here c.in-Some.ensures in
    let of_key = c.descend.ensures.loaded.bucket ∙ c.reach.ensures.loaded.bucket ∙ c.requires in
    rw c.note_own_keys.ensures (way_path b c.args.key.now c.in-Some.root c.in-Some.next c.in-Some.depth then_here says c.in_ok-leaf.leaf of_key (c.in_ok-leaf.ensures).way)

pub returns-in_err-reach-clause-on_way : goal.returns-in_err-reach-clause-on_way
returns-in_err-reach-clause-on_way g c = among_head _ _ _ _ _ c.reach.ensures.among

pub returns-in_default-clause-on_way : goal.returns-in_default-clause-on_way
returns-in_default-clause-on_way g c = among_head _ _ _ _ _ c.reach.ensures.among

pub returns-in_err-leaf-clause-on_way : goal.returns-in_err-leaf-clause-on_way
returns-in_err-leaf-clause-on_way g c =
    let b = c.descend.new.bucket in
    let here : IsCached c.reach.new.bucket 0 = (c.in_ok-reach.ensures).there in
    let says = head_behind _ _ _ c.reach.new.bucket b c.descend.ensures.loaded c.in-Some.root c.in-Some.next c.in-Some.depth here c.in-Some.ensures in
    way_from_head c.args.bucket.now c.reach.new.bucket b c.args.key.now c.in-Some.root c.in-Some.next c.in-Some.depth says c.reach.ensures.among c.descend.ensures.on_way

pub returns-clause-on_way : goal.returns-clause-on_way
returns-clause-on_way g c =
    let b = c.descend.new.bucket in
    let here : IsCached c.reach.new.bucket 0 = (c.in_ok-reach.ensures).there in
    let says = head_behind _ _ _ c.reach.new.bucket b c.descend.ensures.loaded c.in-Some.root c.in-Some.next c.in-Some.depth here c.in-Some.ensures in
    rw c.note_own_keys.ensures (way_from_head c.args.bucket.now c.reach.new.bucket b c.args.key.now c.in-Some.root c.in-Some.next c.in-Some.depth says c.reach.ensures.among c.descend.ensures.on_way)

pub returns-in_err-leaf-clause-loaded : goal.returns-in_err-leaf-clause-loaded
returns-in_err-leaf-clause-loaded g c =
    loaded_then _ _ _ _ _ _ _ c.reach.new.bucket _ (λ rows. g.met.S.NodeSource.later_tells _ _ rows c.reach.ensures.later) (λ id found. g.met.S.NodeSource.finds_before _ _ id found c.reach.ensures.later) (g.met.S.NodeSource.later_upper _ _ c.reach.ensures.later) c.reach.ensures.loaded c.descend.ensures.loaded

pub returns-clause-loaded : goal.returns-clause-loaded
returns-clause-loaded g c =
    rw c.note_own_keys.ensures (loaded_then _ _ _ _ _ _ _ c.reach.new.bucket _ (λ rows. g.met.S.NodeSource.later_tells _ _ rows c.reach.ensures.later) (λ id found. g.met.S.NodeSource.finds_before _ _ id found c.reach.ensures.later) (g.met.S.NodeSource.later_upper _ _ c.reach.ensures.later) c.reach.ensures.loaded c.descend.ensures.loaded)

pub returns-in_err-leaf-clause-clean : goal.returns-in_err-leaf-clause-clean
returns-in_err-leaf-clause-clean g c =
    let p = err_from_is_err_and c.from_residual-in_err-leaf.result c.from_residual-in_err-leaf.ensures.1 in
    rw (p.1, p.2)
    (clean_fault ℕ Path c.in_err-leaf.field-0.0 _ (clean_map {A = ℕ} (Err c.in_err-leaf.field-0.0) _ _ (g.met.S.NodeSource.clean_on _ _ _ (c.in_ok-reach.ensures).clean) (c.in_err-leaf.ensures).clean))

pub returns-clause-clean : goal.returns-clause-clean
returns-clause-clean g c = g.met.S.NodeSource.clean_on _ _ _ (c.in_ok-reach.ensures).clean (c.in_ok-leaf.ensures).clean

pub returns-clause-used : goal.returns-clause-used
returns-clause-used g c =
    let b = c.descend.new.bucket in
    let here : IsCached c.reach.new.bucket 0 = (c.in_ok-reach.ensures).there in
    let says = head_behind _ _ _ c.reach.new.bucket b c.descend.ensures.loaded c.in-Some.root c.in-Some.next c.in-Some.depth here c.in-Some.ensures in
    rw c.note_own_keys.ensures (used_under c.args.bucket.now c.reach.new.bucket b c.args.key.now c.in-Some.root c.in-Some.next c.in-Some.depth says.is (c.in_ok-reach.ensures).used (c.in_ok-leaf.ensures).used)

pub note_own_keys-requires : goal.note_own_keys-requires
note_own_keys-requires g c =
    let b = c.descend.new.bucket in
    let way = (c.in_ok-leaf.ensures).way in
    own_cached b c.in_ok-leaf.leaf (subst (λ n. HasOwnKeys b.bucket (given b n).0) (sym way.ends) (own_end (given b) b.bucket c.in-Some.next c.args.key.now _ _ c.in-Some.root way.fit))

pub reach-requires : goal.reach-requires
reach-requires g c =
    let small = key_bucket c.args.bucket.now.bucket c.args.key.now c.requires in
    search (rules, small)

pub descend-requires : goal.descend-requires
descend-requires g c =
    let small = key_bucket c.reach.new.bucket.bucket c.args.key.now (c.reach.ensures.loaded.bucket ∙ c.requires) in
    search (rules, small)

-- What a row that sets or removes a pair, or cuts pairs off, makes of a leaf.
use Rattle.std.proofs.Common.{◌≡◌, ℕ, ◌+◌, ◌≤◌, Bool, true, false, cond, List, length, Option, Some, None, is_some, refl, sym, ap, subst, ◌∙◌, eq-eqb, true≢false}
use Rattle.std.proofs.Common.{Result, Ok, Err, IfOk, OnErr, nat_eq}
use Rattle.std.specs.Map.{lookup, set_value}
use Rattle.std.proofs.lemmas.Map.Steps.{set_value_same}
use Rattle.fine_model.specs.declared.list.NoMemory.{NoMemory}
use Rattle.node_cache.specs.declared.original.Original.{Original}
use Rattle.fine_model.specs.BoundLaws.{FitsNode}
use Rattle.fine_model.specs.RowBytes.{FitsRec}
use Rattle.fine_model.specs.Map.{Pair, set}
use Rattle.fine_model.specs.Nodes.{step, step_node, changed}
use Rattle.fine_model.specs.Trees.{pairs_of}
use Rattle.fine_model.specs.declared.Node.{Node}
use Rattle.fine_model.specs.declared.Node.TheVariants as node
use Rattle.fine_model.specs.declared.Rec.{Rec}
use Rattle.fine_model.specs.declared.Rec.TheVariants as rec
use Rattle.fine_model.specs.declared.Row.{Row}
use Rattle.fine_model.proofs.Trees.NodeBounds.{step_fits}
use Rattle.fine_model.proofs.Trees.GrowLeaf.{fits_leaf}
use Rattle.node_cache.specs.declared.cached.Cached.{Cached}
use Rattle.node_cache.specs.declared.undo.Step.{Step}
use Rattle.node_cache.specs.Undo.{TakesBack, CanTakeBack, back}
use Rattle.node_cache.specs.Changing.{changes_leaf, changes_pair, changes_cached, changed_pairs, StepsBack, IsNoted, ChangesPair}
use Rattle.node_cache.proofs.Equal.{same_kept}

-- what a change of a pair leaves
pub changed_leaf : (pairs : List Pair) (r : Rec) → changes_leaf pairs r ≡ true → length (changed_pairs pairs r) ≤ 32 → changed (node.Leaf pairs) r ≡ node.Leaf (changed_pairs pairs r)
unfolding changed
changed_leaf pairs (rec.Put key value) does few = fits_leaf (set pairs key value) few
changed_leaf pairs (rec.Del key) does few = refl
changed_leaf pairs (rec.CutLeaf key) does few = refl
changed_leaf pairs _ does few = absurd (true≢false (sym does))

stepped : (old : Node) (v version : ℕ) (r : Rec) (pairs : List Pair) → changes_leaf pairs r ≡ true → version ≡ v + 1 → step_node (old, v) version r ≡ changed old r
stepped old v version (rec.Put key value) pairs does next = ap (λ b. cond b (changed old (rec.Put key value)) node.Broken) (eq-eqb version (v + 1) next)
stepped old v version (rec.Del key) pairs does next = ap (λ b. cond b (changed old (rec.Del key)) node.Broken) (eq-eqb version (v + 1) next)
stepped old v version (rec.CutLeaf key) pairs does next = ap (λ b. cond b (changed old (rec.CutLeaf key)) node.Broken) (eq-eqb version (v + 1) next)
stepped old v version _ pairs does next = absurd (true≢false (sym does))

-- a leaf stays within bounds
pub changed_fits : (pairs pairs' : List Pair) (r : Rec) → FitsNode (node.Leaf pairs) → FitsRec r → changes_leaf pairs r ≡ true → pairs' ≡ changed_pairs pairs r → length pairs' ≤ 32 → FitsNode (node.Leaf pairs')
changed_fits pairs pairs' r fits fit does is few =
    let same = changed_leaf pairs r does (subst (λ ps. length ps ≤ 32) is few) in
    subst FitsNode (stepped (node.Leaf pairs) 0 1 r pairs does refl ∙ same ∙ ap node.Leaf (sym is)) (step_fits (node.Leaf pairs, 0) 1 r fits fit)

-- how a leaf is changed, and what takes it back
pub steps_back : (s : Option Step) (old new : Cached) (pairs pairs' : List Pair) (row : Row) → old.node ≡ node.Leaf pairs → new.node ≡ node.Leaf pairs' → new.epoch ≡ old.epoch → (is_some s ≡ true → new.version ≡ row.version)
    → (is_some s ≡ false → new.version ≡ old.version) → row.version ≡ old.version + 1 → is_some s ≡ changes_leaf pairs row.rec → length pairs' ≤ 32 → TakesBack s pairs pairs' (changed_pairs pairs row.rec) → StepsBack s old new row
unfolding step
steps_back None old new pairs pairs' row was now epoch some none next done few takes = same_kept new old (now ∙ ap node.Leaf takes ∙ sym was) (none refl) epoch
steps_back (Some s) old new pairs pairs' row was now epoch some none next done few takes =
    let olds : pairs_of old.node ≡ pairs = ap pairs_of was in
    let news : pairs_of new.node ≡ pairs' = ap pairs_of now in
    let made : step_node (old.node, old.version) row.version row.rec ≡ new.node =
    stepped old.node old.version row.version row.rec pairs (sym done) next
    ∙ ap (λ n. changed n row.rec) was
    ∙ changed_leaf pairs row.rec (sym done) (subst (λ ps. length ps ≤ 32) takes.0 few)
    ∙ ap node.Leaf (sym takes.0)
    ∙ sym now in
    record {
      was = was ∙ ap node.Leaf (sym olds);
      leaf = now ∙ ap node.Leaf (sym news);
      can = subst (CanTakeBack s) (sym news) takes.1;
      back = ap (back s) news ∙ takes.2 ∙ sym olds;
      made = λ i. (sym made i, some refl i);
      epoch = epoch;
    }

pub takes_is : (old new wanted : List Pair) (s : Option Step) → is_some s ≡ true → TakesBack s old new wanted → new ≡ wanted
takes_is old new wanted None some takes = absurd (true≢false (sym some))
takes_is old new wanted (Some s) some takes = takes.0

-- a change of a cached leaf, by what it was and is
pub changes : (r : Result Bool NoMemory) (nodes nodes' : List (ℕ × Cached)) (saved saved' : List (ℕ × Original)) (row : Row) (old new : Cached) → lookup (nat_eq row.node.number) nodes ≡ Some old → nodes' ≡ set_value (nat_eq row.node.number) nodes new
    → IfOk r (λ done. done ≡ changes_pair old row) → IfOk r (λ done. IsNoted done old new saved saved' row) → OnErr r (new ≡ old) → OnErr r (saved' ≡ saved) → ChangesPair r nodes nodes' saved saved' row
changes (Ok true) nodes nodes' saved saved' row old new there written done noted same same' =
    (ap (λ o. changes_cached o row) there ∙ sym done, record { old = old; new = new; there = there; written = written; noted = noted })
changes (Ok false) nodes nodes' saved saved' row old new there written done noted same same' =
    (ap (λ o. changes_cached o row) there ∙ sym done, record { same_nodes = written ∙ ap (set_value (nat_eq row.node.number) nodes) noted.kept ∙ set_value_same (nat_eq row.node.number) nodes old there; same_saved = noted.entries })
changes (Err e) nodes nodes' saved saved' row old new there written done noted same same' =
    record { same_nodes = written ∙ ap (set_value (nat_eq row.node.number) nodes) same ∙ set_value_same (nat_eq row.node.number) nodes old there; same_saved = same' }

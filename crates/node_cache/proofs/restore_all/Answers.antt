use Rattle.std.proofs.Common.{◌≡◌, nat_eq, [], ◌∷◌, ◌++◌, IfSome, refl, sym, ap, subst, ◌∙◌}
use Rattle.std.specs.List.{filter_map}
use Rattle.std.specs.Map.{lookup}
use Rattle.std.specs.Option.{option_to_list}
use Rattle.node_cache.specs.Entries.{as_saved}
use Rattle.node_cache.specs.Originals.{original_of, originals, Stands}
use Rattle.node_cache.proofs.Kept.{last_popped, stands_changed, popped_here, popped_stands, other_restored}
use Rattle.node_cache.proofs.Marked.{marked_but}
use Rattle.node_cache.proofs.Restored.{restored_one, none_saved}
use Rattle.node_cache.specs.Saves.{saved_in}
use Rattle.node_cache.proofs.restore_all.Goals as goal

pub loop-number-init : goal.loop-number-init
loop-number-init c = record { nodes = refl; unique = c.requires.kept.distinct; once = c.requires.once; marks = λ bucket marked. marked; stands = c.requires.kept.stands }

pub restore-requires : goal.restore-requires
restore-requires c =
    let saved = (saved_in c.loop-number.saved) in
    let rest = (saved_in c.pop.new.self) in
    let k = c.in-Some.number in
    let o = c.in-Some.original in
    let whole : saved ≡ rest ++ (k, o) ∷ [] = c.pop.ensures.entries ∙ ap (λ r. rest ++ option_to_list r) c.in-Some.is in
    let here = popped_here saved rest k o whole (c.in-Some.ensures).finds in
    stands_changed o (lookup (nat_eq k) c.loop-number.nodes.entries) (subst (λ s. IfSome s (λ o. Stands o (lookup (nat_eq k) c.loop-number.nodes.entries))) here (c.loop-number.invariant.stands k))

pub loop-number-preserved : goal.loop-number-preserved
loop-number-preserved c =
    let saved = (saved_in c.loop-number.saved) in
    let rest = (saved_in c.pop.new.self) in
    let k = c.in-Some.number in
    let o = c.in-Some.original in
    let last = last_popped saved rest k o _ c.pop.ensures.entries c.in-Some.is (c.in-Some.ensures).finds in
    record {
      nodes = ap (filter_map (as_saved (originals rest))) c.restore.ensures.nodes ∙ restored_one (originals saved) (originals rest) k (original_of o) last c.loop-number.nodes.entries c.loop-number.invariant.unique ∙ c.loop-number.invariant.nodes;
      unique = c.restore.ensures.unique;
      once = c.pop.ensures.once;
      marks = λ bucket marked.
          marked_but bucket c.loop-number.marks c.take.new.self c.loop-number.nodes.entries c.restore.new.nodes.entries (c.loop-number.invariant.marks bucket marked) k c.take.ensures
          (λ q differs. ap (lookup (nat_eq q)) c.restore.ensures.nodes ∙ other_restored k q differs (original_of o) c.loop-number.nodes.entries);
      stands = popped_stands saved rest k (original_of o) c.loop-number.nodes.entries c.restore.new.nodes.entries (c.in-Some.ensures).finds c.restore.ensures.nodes c.loop-number.invariant.stands;
    }

pub returns-clause-nodes : goal.returns-clause-nodes
returns-clause-nodes c =
    let es = c.loop-number.nodes.entries in
    let none = c.pop.ensures.none c.in_default.is in
    sym (none_saved es) ∙ ap (λ s. filter_map (as_saved (originals s)) es) (sym none) ∙ c.loop-number.invariant.nodes

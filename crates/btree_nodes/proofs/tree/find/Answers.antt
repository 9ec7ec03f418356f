use Rattle.std.proofs.Common.{Ok, sym, ap, ◌∙◌, rules}
use Rattle.fine_model.specs.Map.{get}
use Rattle.btree_nodes.specs.Trees.{IsPath}
use Rattle.btree_nodes.proofs.Paths.{path_pairs}
use Rattle.btree_nodes.proofs.SoundCalls.{found_soundly}
use Rattle.btree_nodes.proofs.tree.find.Goals as goal

pub returns-clause-answer : goal.returns-clause-answer
returns-clause-answer g c =
    let b = c.find_leaf.new.bucket in
    let key = c.args.key.now in
    let is : IsPath b key c.in_ok-path.path = (c.in_ok-path.ensures).path in
    record {
      here = is.here;
      fit = is.fit;
      stands = (c.in_ok-copy_of.ensures) ∙ c.value_in.ensures ∙ ap (λ m. get m key) (sym (path_pairs b key c.in_ok-path.path is));
    }

pub returns-clause-sound : goal.returns-clause-sound
returns-clause-sound g c =
    found_soundly _ _ _ c.args.bucket.now c.find_leaf.new.bucket c.args.key.now (λ _. ⊥) (Ok c.in_ok-copy_of.field-0) c.requires.bucket c.find_leaf.ensures.loaded c.find_leaf.ensures.on_way (returns-clause-answer g c)

pub returns-in_err-copy_of-clause-answer : goal.returns-in_err-copy_of-clause-answer
returns-in_err-copy_of-clause-answer g c = search rules

pub returns-in_err-copy_of-clause-sound : goal.returns-in_err-copy_of-clause-sound
returns-in_err-copy_of-clause-sound g c =
    found_soundly _ _ _ c.args.bucket.now c.find_leaf.new.bucket c.args.key.now _ _ c.requires.bucket c.find_leaf.ensures.loaded c.find_leaf.ensures.on_way (returns-in_err-copy_of-clause-answer g c)

pub returns-in_err-path-clause-answer : goal.returns-in_err-path-clause-answer
returns-in_err-path-clause-answer g c = search rules

pub returns-in_err-path-clause-sound : goal.returns-in_err-path-clause-sound
returns-in_err-path-clause-sound g c =
    found_soundly _ _ _ c.args.bucket.now c.find_leaf.new.bucket c.args.key.now _ _ c.requires.bucket c.find_leaf.ensures.loaded c.find_leaf.ensures.on_way (returns-in_err-path-clause-answer g c)

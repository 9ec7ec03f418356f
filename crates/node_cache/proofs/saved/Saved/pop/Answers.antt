use Rattle.std.proofs.Common.{◌≡◌, ◌++◌, [], ◌∷◌, ap, ◌∙◌}
use Rattle.std.specs.Option.{option_to_list}
use Rattle.node_cache.proofs.Kept.{popped_here}
use Rattle.node_cache.proofs.Saves.{finds_behind}
use Rattle.node_cache.proofs.saved.Saved.pop.Goals as goal

pub returns-in-Some-clause-finds : goal.returns-in-Some-clause-finds
returns-in-Some-clause-finds c =
    let s = c.args.self.now in
    let rest = c.pop.new.self.entries in
    let last = c.in-Some.last in
    let whole : s.others.entries ≡ rest ++ last ∷ [] = c.pop.ensures.entries ∙ ap (λ r. rest ++ option_to_list r) c.in-Some.is in
    let finds = (c.in-Some.ensures).updates.0 in
    finds_behind s.first s.others.entries rest last.0 last.1 c.requires.once.apart (popped_here s.others.entries rest last.0 last.1 whole finds) finds

use Rattle.std.proofs.Common.{ℕ, ◌-◌, List, nat_eq, sym, ap, ◌∙◌}
use Rattle.indexmap.specs.IndexMap.{move_index}
use Rattle.node_cache.specs.Cache.{Cache}
use Rattle.node_cache.specs.Originals.{originals}
use Rattle.node_cache.specs.declared.cached.Cached.{Cached}
use Rattle.node_cache.proofs.Moved.{moved, unmoved, none_found}
use Rattle.node_cache.specs.Saves.{saved_in}
use Rattle.node_cache.proofs.Bucket.touch.Goals as goal

pub returns-in-Some-clause-nodes : goal.returns-in-Some-clause-nodes
returns-in-Some-clause-nodes c =
    let inside = c.self.inside in
    let with_nodes : List (ℕ × Cached) → Cache = λ es. record { bucket = inside.bucket; nodes = es; saved = originals (saved_in inside.saved) } in
    rw (← c.self.view_is) (ap with_nodes (c.move_index.ensures.entries ∙ ap (λ n. move_index inside.nodes.entries c.in-Some.i (n - 1)) c.len-last.ensures.len ∙ moved (nat_eq c.args.number) inside.nodes.entries c.in-Some.i (sym c.in-Some.ensures.index)))

pub returns-in-None-clause-nodes : goal.returns-in-None-clause-nodes
returns-in-None-clause-nodes c =
    let inside = c.self.inside in
    let with_nodes : List (ℕ × Cached) → Cache = λ es. record { bucket = inside.bucket; nodes = es; saved = originals (saved_in inside.saved) } in
    rw (← c.self.view_is) (ap with_nodes (sym (unmoved (nat_eq c.args.number) inside.nodes.entries (none_found _ (sym c.in-None.ensures.found)))))

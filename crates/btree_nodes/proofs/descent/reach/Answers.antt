use Rattle.std.proofs.Common.{◌≡◌, false, is_some, sym, ◌∙◌}
use Rattle.node_cache.specs.Cache.{cached}
use Rattle.btree_nodes.proofs.LastUsed.{touched_used, loaded_used}
use Rattle.node_cache.proofs.Loading.{none_there}
use Rattle.btree_nodes.proofs.descent.reach.Goals as goal

pub returns-then-touch-clause-used : goal.returns-then-touch-clause-used
returns-then-touch-clause-used g c = touched_used c.args.bucket.now c.touch.new.self c.args.number c.touch.ensures.nodes (sym c.touch.ensures.there ∙ c.if-touch.true)

pub returns-in-Ok-clause-used : goal.returns-in-Ok-clause-used
returns-in-Ok-clause-used g c =
    let absent : is_some (cached c.args.bucket.now c.args.number) ≡ false = sym c.touch.ensures.there ∙ c.if-touch.false in
    loaded_used _ _ _ c.args.number c.args.bucket.now c.touch.new.self c.load.new.bucket c.touch.ensures.nodes (none_there (cached c.args.bucket.now c.args.number) absent) c.load.ensures.load (c.in-Ok.ensures).there

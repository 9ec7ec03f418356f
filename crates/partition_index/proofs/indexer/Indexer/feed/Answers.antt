use Rattle.std.proofs.Common.{◌++◌, ◌∷◌, [], refl, Some, ap, sym, subst, arith, length}
use Rattle.partition_index.specs.Indexer.{Indexes, HasNext}
use Rattle.partition_index.proofs.Fed.{fed, fed_indexes, indexes_alike, next_counts, next_room}
use Rattle.partition_index.proofs.indexer.Indexer.feed.Goals as goal

pub next_entry-requires-clause-counted : goal.next_entry-requires-clause-counted
next_entry-requires-clause-counted c = next_counts _ c.args.node c.args.len (subst (λ v. HasNext v c.args.node c.args.len) (sym c.self.view_is) c.requires)

pub invariant_of-self : goal.invariant_of-self
invariant_of-self c =
    let room = next_room _ c.args.node c.args.len (subst (λ v. HasNext v c.args.node c.args.len) (sym c.self.view_is) c.requires) in
    omega (arith, room, ap length c.next_entry.ensures.bytes, c.next_entry.ensures.room)

pub returns-clause-rows : goal.returns-clause-rows
returns-clause-rows c before rows row so_far node spelled rising =
    indexes_alike before (rows ++ row ∷ []) (fed _ c.args.node c.args.len) _ (fed_indexes before rows row _ c.args.node c.args.len (subst (Indexes before rows) (sym c.self.view_is) so_far) node spelled rising)
    c.next_entry.ensures.bytes (ap Some c.next_entry.ensures.last) refl

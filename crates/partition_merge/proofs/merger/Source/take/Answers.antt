use Rattle.std.proofs.Common.{◌≡◌, ◌∙◌, ◌+◌, List, None, Some, sym, ap, subst, arith, refl, inl}
use Rattle.partition_index.proofs.Exact.{nodes_small}
use Rattle.fine_model.specs.declared.Row.{Row}
use Rattle.fine_model.specs.Nodes.{rows_of}
use Rattle.fine_model.specs.RowBytes.{rows_len}
use Rattle.partition_index.specs.Search.{span_for}
use Rattle.partition_merge.specs.Merging.{node_at_head}
use Rattle.partition_merge.specs.Mergers.{IsEntryOf, IsLeft, KeepsHead, SourceAt, TakesRows, behind, kept_count, node_kept}
use Rattle.partition_merge.proofs.Sources.{none_of_node, other_node, same_at_head, span_kept, step_left, own_left, fit_read, source_later, nodes_differ, nodes_same, taken_of, past_entry, some_read, Lowest}
use Rattle.partition_merge.specs.declared.merger.Source.{Source}
use Rattle.partition_merge.proofs.merger.Source.take.Given.{Over}
use Rattle.partition_merge.proofs.merger.Source.take.Goals.{After-read_span}
use Rattle.partition_merge.proofs.merger.Source.take.Goals as goal

-- the entry that is kept, where it is that of the node
kept_entry : (g : Over) (c : After-read_span g) → IsEntryOf (g.E.LogEye.state c.args.eye.now).told c.args.self.now (c.in-Some.entry, c.in-Some.span)
kept_entry g c = subst (KeepsHead (g.E.LogEye.state c.args.eye.now).told c.args.self.now) c.in-Some.is c.requires.readable.kept.0

own_node : (g : Over) (c : After-read_span g) → c.in-Some.entry.node ≡ c.args.node
own_node g c = nodes_same c.in-Some.entry.node c.args.node c.if-ne.ensures

own_span : (g : Over) (c : After-read_span g) (left : List Row) (at : SourceAt (g.E.LogEye.state c.args.eye.now) c.args.self.now left) → c.in-Some.span ≡ span_for at.rows c.args.node
own_span g c left at =
    let k = kept_entry g c in
    span_kept (g.E.LogEye.state c.args.eye.now) c.args.self.now.part c.args.self.now.next at.rows c.in-Some.entry c.in-Some.span c.args.node c.requires.readable.seen at.tells k.there k.entry k.span (own_node g c)

left_behind : (g : Over) (c : After-read_span g) (left : List Row) (at : SourceAt (g.E.LogEye.state c.args.eye.now) c.args.self.now left) → node_kept c.args.self.now.head ≡ node_at_head left
    → (rows_of c.args.node at.rows ≡ rows_of c.args.node left) × IsLeft at.rows (c.args.self.now.next + 1) (behind c.args.node left)
left_behind g c left at kept =
    step_left at.rows c.args.self.now.next left c.args.node at.is_left (same_at_head c.args.self.now.head c.in-Some.entry c.in-Some.span left c.args.node c.in-Some.is kept (own_node g c))

pub returns-then-ne-clause-exact : goal.returns-then-ne-clause-exact
returns-then-ne-clause-exact g c left at from kept =
    let other : c.in-Some.entry.node ≡ c.args.node → ⊥ = nodes_differ c.in-Some.entry.node c.args.node c.if-ne.ensures in
    c.new-then-ne.ensures ∙ sym (none_of_node c.args.node left at.is_left.ordered from (other_node c.args.self.now.head c.in-Some.entry c.in-Some.span left c.args.node c.in-Some.is kept other)).0

pub returns-then-ne-clause-left : goal.returns-then-ne-clause-left
returns-then-ne-clause-left g c left at from kept =
    let other : c.in-Some.entry.node ≡ c.args.node → ⊥ = nodes_differ c.in-Some.entry.node c.args.node c.if-ne.ensures in
    subst (SourceAt (g.E.LogEye.state c.args.eye.now) c.args.self.now)
    (sym (none_of_node c.args.node left at.is_left.ordered from (other_node c.args.self.now.head c.in-Some.entry c.in-Some.span left c.args.node c.in-Some.is kept other)).1) at

pub overflow_add-self : goal.overflow_add-self
overflow_add-self g c =
    let eye = g.E.LogEye.state c.args.eye.now in
    let s = c.args.self.now in
    let kept : IsEntryOf eye.told s (c.in-Some.entry, c.in-Some.span) = subst (KeepsHead eye.told s) c.in-Some.is c.requires.readable.kept.0 in
    let there = kept.there in
    let most = nodes_small eye.region_len s.part.header c.requires.readable.seen.lies in omega arith

pub returns-clause-fit : goal.returns-clause-fit
returns-clause-fit g c = fit_read c.args.self.now.part c.read_span.result c.read_span.ensures.fit

pub returns-clause-exact : goal.returns-clause-exact
returns-clause-exact g c left at from kept =
    let read = (goal.at.returns-clause-exact g c).After-read_span in
    own_left c.read_span.result at.rows left c.args.node (left_behind g read left at kept).0 (c.read_span.ensures.exact at.rows at.tells (own_span g read left at))

pub returns-clause-left : goal.returns-clause-left
returns-clause-left g c left at from kept =
    source_later (g.E.LogEye.state c.args.eye.now) (g.E.LogEye.state c.read_span.new.eye) c.args.self.now _ at.rows (behind c.args.node left) c.read_span.ensures.eye.same refl at.tells
    (left_behind g (goal.at.returns-clause-left g c).After-read_span left at kept).1

pub returns-clause-unread : goal.returns-clause-unread
returns-clause-unread g c = let one : kept_count c.args.self.now.head ≡ 1 = ap kept_count c.in-Some.is in omega (arith, one)

pub returns-clause-taken : goal.returns-clause-taken
returns-clause-taken g c left at from kept =
    let read = (goal.at.returns-clause-taken g c).After-read_span in
    let is = own_span g read left at in
    omega (arith, c.read_span.ensures.eye.taken, ap (λ x. x.end) is, ap (λ x. x.at) is, ap rows_len (left_behind g read left at kept).0)

pub returns-clause-read : goal.returns-clause-read
returns-clause-read g c =
    let eye = g.E.LogEye.state c.args.eye.now in
    let s = c.args.self.now in
    let k = kept_entry g (goal.at.returns-clause-read g c).After-read_span in
    let there = k.there in
    let after : Source = record { part = s.part; next = s.next + 1; head = None; ahead = s.ahead } in
    taken_of c.read_span.result eye.told c.args.node s after c.in-Some.entry c.in-Some.span there k.entry (own_node g (goal.at.returns-clause-read g c).After-read_span) k.span c.read_span.ensures.holds refl (omega (arith, there))

pub returns-then-ne-clause-read : goal.returns-then-ne-clause-read
unfolding TakesRows
returns-then-ne-clause-read g c =
    let eye = g.E.LogEye.state c.args.eye.now in
    let s = c.args.self.now in
    let k : IsEntryOf eye.told s (c.in-Some.entry, c.in-Some.span) = subst (KeepsHead eye.told s) c.in-Some.is c.requires.readable.kept.0 in
    let lowest : Lowest c.args.node (Some (c.in-Some.entry, c.in-Some.span)) = subst (Lowest c.args.node) c.in-Some.is c.requires.lowest in
    inl (record { none = c.new-then-ne.ensures; past = past_entry eye.told s c.in-Some.entry c.args.node k.entry lowest (nodes_differ c.in-Some.entry.node c.args.node c.if-ne.ensures); stays = refl; as_many = refl })

pub returns-clause-some : goal.returns-clause-some
returns-clause-some g c =
    some_read c.read_span.result (g.E.LogEye.state c.args.eye.now).told c.args.self.now.part c.args.node c.in-Some.span _ (let n = (kept_entry g (goal.at.returns-clause-some g c).After-read_span).span in n.counted.0) c.read_span.ensures.holds

pub returns-in_default-clause-read : goal.returns-in_default-clause-read
unfolding TakesRows
returns-in_default-clause-read g c = inl (record { none = c.new.ensures; past = inl (c.requires.ready c.in_default.is); stays = refl; as_many = refl })

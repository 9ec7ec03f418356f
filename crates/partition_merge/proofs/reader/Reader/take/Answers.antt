use Rattle.std.proofs.Common.{◌≡◌, ◌+◌, ◌≤◌, List, None, Some, sym, subst, arith, refl}
use Rattle.std.specs.Prelude.{IfErr, IfOk, Option}
use Rattle.fine_model.specs.declared.Row.{Row}
use Rattle.fine_model.specs.Regions.{Image}
use Rattle.partition_index.specs.Index.{AllFrom}
use Rattle.partition_index.specs.Parts.{IsSeen}
use Rattle.partition_index.proofs.Exact.{nodes_small}
use Rattle.node_fetch.specs.Fetched.{NoDamage}
use Rattle.partition_merge.specs.declared.merger.Source.{Source}
use Rattle.partition_merge.specs.declared.through.NumberedEntry.{NumberedEntry}
use Rattle.partition_merge.specs.Merging.{node_at_head}
use Rattle.partition_merge.specs.Mergers.{IsEntryOf, KeepsHead, SourceAt, behind, node_kept, nodes_left}
use Rattle.partition_merge.specs.Pieces.{IsTaken}
use Rattle.partition_merge.specs.Streams.{IsInOrder, bytes_left}
use Rattle.partition_merge.specs.Windows.{WindowValue}
use Rattle.partition_merge.proofs.Found.{behind_node, none_taken, other_taken, span_taken}
use Rattle.partition_merge.proofs.Sources.{Lowest, nodes_differ, nodes_same, none_of_node, other_node, same_at_head, source_later, span_kept, step_left}
use Rattle.partition_merge.proofs.Streams.{begins_behind, if_ok, order_taken}
use Rattle.partition_merge.proofs.reader.Reader.take.Given.{Over}
use Rattle.partition_merge.proofs.reader.Reader.take.Goals.{After-find_rows}
use Rattle.partition_merge.proofs.reader.Reader.take.Goals as goal

abbrev with_ahead : Source → WindowValue → WindowValue → Option NumberedEntry → Source
with_ahead s rows index next = record { part = s.part; next = s.next; head = s.head; ahead = record { rows = rows; index = index; next = next } }

-- the entry that is kept, where rows are looked for
kept_entry : (g : Over) (c : After-find_rows g) → IsEntryOf (g.E.LogEye.state c.args.eye.now).told (with_ahead c.self.inside.source c.self.inside.rows c.self.inside.index c.self.inside.next) (c.in-Some.entry, c.in-Some.span)
kept_entry g c =
    let known = (g.E.LogEye.state c.args.eye.now).told in
    let kept = subst (λ (s : Source). KeepsHead known s s.head) (sym c.self.view_is) c.requires.kept.0 in
    subst (KeepsHead known _) c.in-Some.is kept

pub returns-in_default-clause-taken_is : goal.returns-in_default-clause-taken_is
returns-in_default-clause-taken_is g c =
    let eye = g.E.LogEye.state c.args.eye.now in
    let ready = subst (λ (s : Source). s.head ≡ None → nodes_left s ≡ 0) (sym c.self.view_is) c.requires.ready in
    subst (λ (s : Source). IsTaken eye c.args.node s s None) c.self.view_is (none_taken eye c.args.node (with_ahead c.self.inside.source c.self.inside.rows c.self.inside.index c.self.inside.next) c.in_default.is ready)

pub returns-then-ne-clause-taken_is : goal.returns-then-ne-clause-taken_is
returns-then-ne-clause-taken_is g c =
    let eye = g.E.LogEye.state c.args.eye.now in
    let kept = subst (λ (s : Source). KeepsHead eye.told s s.head) (sym c.self.view_is) c.requires.kept.0 in
    let k : IsEntryOf eye.told _ (c.in-Some.entry, c.in-Some.span) = subst (KeepsHead eye.told _) c.in-Some.is kept in
    let lowest : Lowest c.args.node (Some (c.in-Some.entry, c.in-Some.span)) = subst (Lowest c.args.node) c.in-Some.is (subst (λ (s : Source). Lowest c.args.node s.head) (sym c.self.view_is) c.requires.lowest) in
    subst (λ (s : Source). IsTaken eye c.args.node s s None) c.self.view_is
    (other_taken eye c.args.node (with_ahead c.self.inside.source c.self.inside.rows c.self.inside.index c.self.inside.next) c.in-Some.entry c.in-Some.span c.in-Some.is k lowest (nodes_differ c.in-Some.entry.node c.args.node c.if-ne.ensures))

pub returns-then-ne-clause-left : goal.returns-then-ne-clause-left
returns-then-ne-clause-left g c =
    let eye = g.E.LogEye.state c.args.eye.now in
    let other : c.in-Some.entry.node ≡ c.args.node → ⊥ = nodes_differ c.in-Some.entry.node c.args.node c.if-ne.ensures in
    subst (λ (s : Source). (left : List Row) → SourceAt eye s left → AllFrom c.args.node left → node_kept s.head ≡ node_at_head left → SourceAt eye s (behind c.args.node left)) c.self.view_is
    (λ left at from kept. subst (SourceAt eye _) (sym (none_of_node c.args.node left at.is_left.ordered from (other_node _ c.in-Some.entry c.in-Some.span left c.args.node c.in-Some.is kept other)).1) at)

pub overflow_add-self : goal.overflow_add-self
overflow_add-self g c =
    let eye = g.E.LogEye.state c.args.eye.now in
    let kept = subst (λ (s : Source). KeepsHead eye.told s s.head) (sym c.self.view_is) c.requires.kept.0 in
    let k : IsEntryOf eye.told _ (c.in-Some.entry, c.in-Some.span) = subst (KeepsHead eye.told _) c.in-Some.is kept in
    let seen = subst (λ (s : Source). IsSeen eye s.part) (sym c.self.view_is) c.requires.seen in
    let there = k.there in
    let most = nodes_small eye.region_len c.self.inside.source.part.header seen.lies in omega (arith, there, most)

pub returns-clause-taken_is : goal.returns-clause-taken_is
returns-clause-taken_is g c =
    let eye = g.E.LogEye.state c.args.eye.now in
    let kept = subst (λ (s : Source). KeepsHead eye.told s s.head) (sym c.self.view_is) c.requires.kept.0 in
    let k : IsEntryOf eye.told _ (c.in-Some.entry, c.in-Some.span) = subst (KeepsHead eye.told _) c.in-Some.is kept in
    let seen = subst (λ (s : Source). IsSeen eye s.part) (sym c.self.view_is) c.requires.seen in
    let there = k.there in
    let before = with_ahead c.self.inside.source c.self.inside.rows c.self.inside.index c.self.inside.next in
    let same : c.in-Some.entry.node ≡ c.args.node = nodes_same c.in-Some.entry.node c.args.node c.if-ne.ensures in
    subst (λ (s : Source). IfOk c.find_rows.result (IsTaken eye c.args.node s (behind_node before c.find_rows.new.rows))) c.self.view_is
    (span_taken eye c.args.node before c.find_rows.result c.find_rows.new.rows c.in-Some.entry c.in-Some.span seen c.in-Some.is k same (omega (arith, there)) c.find_rows.ensures.found)

pub returns-clause-exact : goal.returns-clause-exact
returns-clause-exact g c =
    let eye = g.E.LogEye.state c.args.eye.now in
    let s = c.self.inside.source in
    let seen = subst (λ (s : Source). IsSeen eye s.part) (sym c.self.view_is) c.requires.seen in
    let kept = subst (λ (s : Source). KeepsHead eye.told s s.head) (sym c.self.view_is) c.requires.kept.0 in
    let k : IsEntryOf eye.told _ (c.in-Some.entry, c.in-Some.span) = subst (KeepsHead eye.told _) c.in-Some.is kept in
    let same : c.in-Some.entry.node ≡ c.args.node = nodes_same c.in-Some.entry.node c.args.node c.if-ne.ensures in
    subst (λ (s : Source). (left : List Row) → SourceAt eye s left → AllFrom c.args.node left → node_kept s.head ≡ node_at_head left → IfErr c.find_rows.result NoDamage) c.self.view_is
    (λ left at from head. c.find_rows.ensures.exact at.rows at.tells (span_kept eye s.part s.next at.rows c.in-Some.entry c.in-Some.span c.args.node seen at.tells k.there k.entry k.span same))

pub returns-clause-left : goal.returns-clause-left
returns-clause-left g c =
    let eye = g.E.LogEye.state c.args.eye.now in
    let before = with_ahead c.self.inside.source c.self.inside.rows c.self.inside.index c.self.inside.next in
    let after = behind_node before c.find_rows.new.rows in
    let s = c.self.inside.source in
    let same : c.in-Some.entry.node ≡ c.args.node = nodes_same c.in-Some.entry.node c.args.node c.if-ne.ensures in
    subst (λ (s : Source). (left : List Row) → SourceAt eye s left → AllFrom c.args.node left → node_kept s.head ≡ node_at_head left → SourceAt (g.E.LogEye.state c.find_rows.new.eye) after (behind c.args.node left)) c.self.view_is
    (λ left at from head.
    let step = step_left at.rows s.next left c.args.node at.is_left (same_at_head s.head c.in-Some.entry c.in-Some.span left c.args.node c.in-Some.is head same) in
    source_later eye (g.E.LogEye.state c.find_rows.new.eye) before after at.rows (behind c.args.node left) c.find_rows.ensures.same refl at.tells step.1)

pub returns-clause-order : goal.returns-clause-order
returns-clause-order g c =
    let k = kept_entry g (goal.at.returns-clause-order g c).After-find_rows in
    subst (λ (s : Source). (image : Image) → (g.E.LogEye.state c.args.eye.now).told ≡ Some image → IsInOrder image s → IfOk c.find_rows.result (λ piece. IsInOrder image (behind_node (with_ahead c.self.inside.source c.self.inside.rows c.self.inside.index c.self.inside.next) c.find_rows.new.rows))) c.self.view_is
    (λ image told order.
    if_ok c.find_rows.result _ _ (order_taken image (g.E.LogEye.state c.args.eye.now).told _ c.in-Some.entry c.in-Some.span told k c.find_rows.new.rows c.in-Some.is order)
    (c.find_rows.ensures.order (begins_behind image (g.E.LogEye.state c.args.eye.now).told _ c.in-Some.entry c.in-Some.span told k order)))

pub returns-clause-ahead : goal.returns-clause-ahead
returns-clause-ahead g c =
    let k = kept_entry g (goal.at.returns-clause-ahead g c).After-find_rows in
    subst (λ (s : Source). (image : Image) → (g.E.LogEye.state c.args.eye.now).told ≡ Some image → IsInOrder image s → IfOk c.find_rows.result (λ piece. (g.E.LogEye.state c.find_rows.new.eye).taken + bytes_left (behind_node (with_ahead c.self.inside.source c.self.inside.rows c.self.inside.index c.self.inside.next) c.find_rows.new.rows) ≤ (g.E.LogEye.state c.args.eye.now).taken + bytes_left s)) c.self.view_is
    (λ image told order.
    if_ok c.find_rows.result _ _ (λ less. omega (arith, less)) (c.find_rows.ensures.ahead (begins_behind image (g.E.LogEye.state c.args.eye.now).told _ c.in-Some.entry c.in-Some.span told k order)))

pub returns-clause-taken : goal.returns-clause-taken
returns-clause-taken g c =
    let k = kept_entry g (goal.at.returns-clause-taken g c).After-find_rows in
    subst (λ (s : Source). (image : Image) → (g.E.LogEye.state c.args.eye.now).told ≡ Some image → IsInOrder image s → (g.E.LogEye.state c.find_rows.new.eye).taken ≤ (g.E.LogEye.state c.args.eye.now).taken + bytes_left s) c.self.view_is
    (λ image told order. let most = c.find_rows.ensures.taken (begins_behind image (g.E.LogEye.state c.args.eye.now).told _ c.in-Some.entry c.in-Some.span told k order) in omega (arith, most))

use Rattle.std.proofs.Common.{◌≡◌, Err, List, Some, None, ap, rules, subst, sym}
use Rattle.std.specs.Prelude.{MatchResult, Option}
use Rattle.fine_model.specs.declared.NodeId.{NodeId}
use Rattle.fine_model.specs.declared.Row.{Row}
use Rattle.partition_index.specs.Parts.{IsSeen}
use Rattle.partition_index.proofs.Exact.{never_bad}
use Rattle.node_fetch.specs.Fetched.{NoDamage}
use Rattle.partition_merge.specs.declared.merger.Source.{Source}
use Rattle.partition_merge.specs.Merging.{node_at_head}
use Rattle.partition_merge.specs.Mergers.{IsEntryOf, KeepsHead, SourceAt}
use Rattle.partition_merge.proofs.Sources.{err_clause, peeked, peeked_none}
use Rattle.partition_merge.proofs.Streams.{no_damage}
use Rattle.partition_merge.proofs.reader.Reader.peek.Goals as goal

pub returns-in-Some-clause-exact : goal.returns-in-Some-clause-exact
returns-in-Some-clause-exact g c =
    let eye = g.E.LogEye.state c.args.eye.now in
    let s = c.self.inside.source in
    let kept = subst (λ (s : Source). KeepsHead eye.told s s.head) (sym c.self.view_is) c.requires.kept.0 in
    let seen = subst (λ (s : Source). IsSeen eye s.part) (sym c.self.view_is) c.requires.seen in
    let entry : IsEntryOf eye.told _ (c.in-Some.entry, c.in-Some.field-0-1) = subst (KeepsHead eye.told _) c.in-Some.is kept in
    subst (λ (s : Source). (left : List Row) → SourceAt eye s left → ◌≡◌ {A = Option NodeId} (Some c.in-Some.entry.node) (node_at_head left)) c.self.view_is
    (λ left at. peeked eye s.part s.next at.rows left c.in-Some.entry seen at.tells at.is_left entry.there entry.entry)

pub returns-then-self-clause-exact : goal.returns-then-self-clause-exact
returns-then-self-clause-exact g c =
    let eye = g.E.LogEye.state c.args.eye.now in
    let s = c.self.inside.source in
    let seen = subst (λ (s : Source). IsSeen eye s.part) (sym c.self.view_is) c.requires.seen in
    subst (λ (s : Source). (left : List Row) → SourceAt eye s left → ◌≡◌ {A = Option NodeId} None (node_at_head left)) c.self.view_is
    (λ left at. peeked_none eye s.part s.next at.rows left seen at.tells at.is_left c.if-self.true)

pub returns-in_err-entry-clause-exact : goal.returns-in_err-entry-clause-exact
returns-in_err-entry-clause-exact g c =
    let eye = g.E.LogEye.state c.args.eye.now in
    let s = c.self.inside.source in
    let seen = subst (λ (s : Source). IsSeen eye s.part) (sym c.self.view_is) c.requires.seen in
    let same : c.from_residual.result ≡ Err c.in_err-entry.field-0.0 = search rules in
    subst (λ (s : Source). (left : List Row) → SourceAt eye s left → MatchResult c.from_residual.result (λ node. node ≡ node_at_head left) NoDamage) c.self.view_is
    (λ left at.
    err_clause c.from_residual.result c.in_err-entry.field-0.0 _ same
    (no_damage c.in_err-entry.field-0.0 (λ region at e. c.in_err-entry.ensures.reads.good_row region at (ap Err e))
    (λ region place e. let bad = c.in_err-entry.ensures.reads.bad_index region place (ap Err e) in never_bad eye s.part at.rows bad.at seen at.tells bad.is_bad)))

pub returns-clause-exact : goal.returns-clause-exact
returns-clause-exact g c =
    let eye = g.E.LogEye.state c.args.eye.now in
    let s = c.self.inside.source in
    let seen = subst (λ (s : Source). IsSeen eye s.part) (sym c.self.view_is) c.requires.seen in
    subst (λ (s : Source). (left : List Row) → SourceAt eye s left → ◌≡◌ {A = Option NodeId} (Some c.in_ok-entry.entry.node) (node_at_head left)) c.self.view_is
    (λ left at. peeked eye s.part s.next at.rows left c.in_ok-entry.entry seen at.tells at.is_left c.if-self.false c.in_ok-entry.ensures.entry)

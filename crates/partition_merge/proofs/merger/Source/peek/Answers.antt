use Rattle.std.proofs.Common.{Err, ap, subst}
use Rattle.partition_index.proofs.Exact.{never_bad}
use Rattle.node_fetch.proofs.PartRows.{bad_within}
use Rattle.partition_merge.specs.Mergers.{IsEntryOf, KeepsHead}
use Rattle.partition_merge.proofs.Sources.{peeked, peeked_none}
use Rattle.partition_merge.proofs.merger.Source.peek.Goals as goal

pub returns-in-Some-clause-exact : goal.returns-in-Some-clause-exact
returns-in-Some-clause-exact g c left at =
    let eye = g.E.LogEye.state c.args.eye.now in
    let s = c.args.self.now in
    let kept : IsEntryOf eye.told s (c.in-Some.entry, c.in-Some.field-0-1) = subst (KeepsHead eye.told s) c.in-Some.is c.requires.readable.kept.0 in
    peeked eye s.part s.next at.rows left c.in-Some.entry c.requires.readable.seen at.tells at.is_left kept.there kept.entry

pub returns-then-self-clause-exact : goal.returns-then-self-clause-exact
returns-then-self-clause-exact g c left at = peeked_none (g.E.LogEye.state c.args.eye.now) c.args.self.now.part c.args.self.now.next at.rows left c.requires.readable.seen at.tells at.is_left c.if-self.true

pub bad_index-requires-clause-within : goal.bad_index-requires-clause-within
bad_index-requires-clause-within g c =
    bad_within (g.E.LogEye.state c.args.eye.now).told c.args.self.now.part c.in-Err-BadIndex.at (c.in-Err-BadIndex.ensures.bad c.in-Err-BadIndex.at (ap Err c.in-Err-BadIndex.field-0-is))

pub returns-in-Ok-clause-exact : goal.returns-in-Ok-clause-exact
returns-in-Ok-clause-exact g c left at =
    peeked (g.E.LogEye.state c.args.eye.now) c.args.self.now.part c.args.self.now.next at.rows left c.in-Ok.entry c.requires.readable.seen at.tells at.is_left c.if-self.false c.in-Ok.ensures.entry

pub returns-in-Err-BadIndex-clause-exact : goal.returns-in-Err-BadIndex-clause-exact
returns-in-Err-BadIndex-clause-exact g c left at =
    absurd (never_bad (g.E.LogEye.state c.args.eye.now) c.args.self.now.part at.rows c.in-Err-BadIndex.at c.requires.readable.seen at.tells (c.in-Err-BadIndex.ensures.bad c.in-Err-BadIndex.at (ap Err c.in-Err-BadIndex.field-0-is)))

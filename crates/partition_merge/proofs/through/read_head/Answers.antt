use Rattle.std.proofs.Common.{Err, ap, rules, subst, sym}
use Rattle.partition_index.specs.Search.{IsEndOf}
use Rattle.partition_index.proofs.Looking.{seen_same}
use Rattle.node_fetch.proofs.PartRows.{bad_within}
use Rattle.partition_merge.specs.Heads.{end_before}
use Rattle.partition_merge.proofs.Streams.{body_small}
use Rattle.partition_merge.proofs.through.read_head.Goals as goal

pub entry_behind-requires-clause-asked : goal.entry_behind-requires-clause-asked
entry_behind-requires-clause-asked g c = record {
  seen = seen_same (g.E.LogEye.state c.args.eye.now) (g.E.LogEye.state c.read_entry.new.eye) c.args.part.now c.read_entry.ensures.reads.same c.requires.asked.seen;
  region_len = search rules;
  there = c.requires.asked.there;
}

pub span_in-requires-clause-small : goal.span_in-requires-clause-small
span_in-requires-clause-small g c = body_small _ c.args.part.now.header c.requires.asked.seen.lies

pub bad_index-requires-clause-within : goal.bad_index-requires-clause-within
bad_index-requires-clause-within g c =
    let known = (g.E.LogEye.state c.args.eye.now).told in
    let p = c.args.part.now in
    let at = c.in-Err-BadIndex.at in
    let end : IsEndOf known p c.args.i c.end_before.result = subst (IsEndOf known p c.args.i) (sym c.end_before.ensures) (subst (λ k. IsEndOf k p c.args.i (end_before p c.in_ok-behind.behind)) c.read_entry.ensures.reads.same.told c.in_ok-behind.ensures.end) in
    rw c.in-Err-BadIndex.field-0-is (bad_within known p at (c.in-Err-BadIndex.ensures.bad known c.in_ok-entry.ensures.ok end at (ap Err c.in-Err-BadIndex.field-0-is)))

use Rattle.std.proofs.Common.{◌∙◌, ap, refl, subst, sym}
use Rattle.partition_merge.specs.declared.merger.Merger.{Merger}
use Rattle.partition_merge.specs.Mergers.{AreKept, StandsAt}
use Rattle.partition_merge.specs.Streams.{AreInOrder, both_bytes_left}
use Rattle.partition_merge.proofs.Ahead.{at_start}
use Rattle.partition_merge.proofs.Joining.{start_joined}
use Rattle.partition_merge.proofs.Streams.{bytes_front, kept_front, order_front, stands_front}
use Rattle.partition_merge.proofs.blocks.Blocks.new.Goals as goal

pub returns-clause-kept : goal.returns-clause-kept
returns-clause-kept c known = subst (AreKept known) (sym c.in_ok-new.ensures) (kept_front known c.args.older c.args.newer c.args.region_len)

pub returns-clause-ahead : goal.returns-clause-ahead
returns-clause-ahead c eye a b older newer small =
    at_start eye _ a b (subst (λ (m : Merger). StandsAt eye m a b) (sym c.in_ok-new.ensures) (stands_front eye c.args.older c.args.newer c.args.region_len a b older newer)) small c.new-2.ensures.items c.in_ok-with_capacity-2.ensures.items refl refl

pub returns-clause-joined : goal.returns-clause-joined
returns-clause-joined c known = start_joined known _ _ c.in_ok-new.ensures c.new-2.ensures.items c.in_ok-with_capacity-2.ensures.items refl refl

pub returns-clause-order : goal.returns-clause-order
returns-clause-order c image = subst (AreInOrder image) (sym c.in_ok-new.ensures) (order_front image c.args.older c.args.newer c.args.region_len)

pub returns-clause-unread : goal.returns-clause-unread
returns-clause-unread c = ap both_bytes_left c.in_ok-new.ensures ∙ bytes_front c.args.older c.args.newer c.args.region_len

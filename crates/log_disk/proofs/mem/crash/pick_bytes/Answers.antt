use Rattle.std.proofs.Common.{◌<◌, length, sym, ◌∙◌, arith}
use Rattle.log_disk.proofs.Crashes.{nothing_picked, no_picks_taken, PickedTo-none, PickedTo-skip, PickedTo-pick, pending_from_any}
use Rattle.log_disk.proofs.mem.crash.pick_bytes.Goals as goal
use Rattle.log_disk.proofs.mem.crash.pick_bytes.Goals.{then-is_written, else-is_written}

pub loop-at-init : goal.loop-at-init
loop-at-init c = PickedTo-none _ _ _ _

pub loop-at-preserved : goal.loop-at-preserved
loop-at-preserved c =
    let said = sym (pending_from_any c.args.unsynced.now c.args.region c.loop-at.at) ∙ sym c.is_written.ensures in
    let within : c.loop-at.at < length c.loop-at.bytes = omega arith in
    elim c.if-is_written.branch [
      | then-is_written w ↦ rw (w.bytes-is, w.rest-is) (PickedTo-pick c.loop-at.invariant (said ∙ w.if-is_written.true) within _ _ w.pick-rest.ensures.byte w.pick-rest.ensures.rest)
      | else-is_written w ↦ rw (w.bytes-is, w.rest-is) (PickedTo-skip c.loop-at.invariant (said ∙ w.if-is_written.false))
    ]

pub returns-then-not-has_written-clause-bytes : goal.returns-then-not-has_written-clause-bytes
returns-then-not-has_written-clause-bytes c =
    λ at h. nothing_picked c.args.unsynced.now c.args.region _ c.args.picks.now at (sym c.has_written.ensures ∙ c.if-not-has_written.true)

pub returns-then-not-has_written-clause-rest : goal.returns-then-not-has_written-clause-rest
returns-then-not-has_written-clause-rest c =
    no_picks_taken c.args.unsynced.now c.args.region _ c.args.picks.now (sym c.has_written.ensures ∙ c.if-not-has_written.true)

use Rattle.std.proofs.Common.{◌≡◌, ◌∷◌, [], ap, inl, inr, rules}
use Rattle.std.proofs.lemmas.Result.{err_from_is_err_and}
use Rattle.log_disk.specs.Disk.{Disk}
use Rattle.log_disk.proofs.Sound.{sound_write}
use Rattle.log_disk.proofs.Times.{continues_then, continues_write}
use Rattle.epoch_room.specs.Gate.{LeavesSealing}
use Rattle.epoch_room.proofs.OpenEpochs.Gates.{still_unseen, sealing_none, sealing_torn, sealing_gated, behind_none, behind_gated, written_then, by_refusal, still_sound}
use Rattle.epoch_room.proofs.RegionSets.Touching.{dirties_more, dirties_then, first_is, last_is, refused_time, refused_beside, refused_dirties, beside_then, beside_write, own_region}
use Rattle.epoch_room.proofs.sealing.seal_region.Goals as goal

-- the write was refused
pub returns-in_err-write-clause-touches : goal.returns-in_err-write-clause-touches
returns-in_err-write-clause-touches g c = record {
  beside = search rules;
  counts = search rules;
  sound = still_sound c.args.lead 1 c.args.bytes.now (g.D.LogDisk.state c.args.disk.now) (g.D.LogDisk.state c.write.new.self) c.in_err-write.field-0.0 c.in_err-write.ensures.begun c.in_err-write.ensures.no_memory
      c.requires.sound;
  time = refused_time c.args.lead 1 c.args.bytes.now (g.D.LogDisk.state c.args.disk.now) (g.D.LogDisk.state c.write.new.self) c.in_err-write.field-0.0 c.in_err-write.ensures.begun c.in_err-write.ensures.no_memory;
  dirties = refused_dirties c.args.lead 1 c.args.bytes.now (g.D.LogDisk.state c.args.disk.now) (g.D.LogDisk.state c.write.new.self) c.in_err-write.field-0.0 c.in_err-write.ensures.begun c.in_err-write.ensures.no_memory;
}

pub returns-in_err-write-clause-read : goal.returns-in_err-write-clause-read
returns-in_err-write-clause-read g c =
    refused_beside c.args.lead 1 c.args.bytes.now (g.D.LogDisk.state c.args.disk.now) (g.D.LogDisk.state c.write.new.self) c.in_err-write.field-0.0 c.in_err-write.ensures.begun c.in_err-write.ensures.no_memory

pub returns-in_err-write-clause-leaves : goal.returns-in_err-write-clause-leaves
returns-in_err-write-clause-leaves g c =
    let start = g.D.LogDisk.state c.args.disk.now in
    let new = g.D.LogDisk.state c.write.new.self in
    by_refusal c.args.lead 1 c.args.bytes.now start new (LeavesSealing c.args.lead c.args.bytes.now start new) c.in_err-write.field-0.0 c.in_err-write.ensures.begun c.in_err-write.ensures.no_memory
    (λ w. sealing_torn c.args.lead c.args.bytes.now start new w)
    (λ same. sealing_none c.args.lead c.args.bytes.now start new (ap (λ (d : Disk). d.told) same))

pub returns-in_err-write-clause-untouched : goal.returns-in_err-write-clause-untouched
returns-in_err-write-clause-untouched g c = λ e.
    let p = err_from_is_err_and c.from_residual.result c.from_residual.ensures.1 in
    let same : g.D.LogDisk.state c.write.new.self ≡ g.D.LogDisk.state c.args.disk.now = c.in_err-write.ensures.no_memory (cc (p.1, p.2, e)) in
    behind_none c.args.lead c.args.bytes.now (g.D.LogDisk.state c.args.disk.now) (g.D.LogDisk.state c.write.new.self) (ap (λ (d : Disk). d.told) same)

pub returns-in_err-write-clause-no_memory : goal.returns-in_err-write-clause-no_memory
returns-in_err-write-clause-no_memory g c = λ e.
    let p = err_from_is_err_and c.from_residual.result c.from_residual.ensures.1 in inl (c.in_err-write.ensures.no_memory (cc (p.1, p.2, e)))

pub returns-in_err-write-clause-unsynced : goal.returns-in_err-write-clause-unsynced
returns-in_err-write-clause-unsynced g c e =
    let p = err_from_is_err_and c.from_residual.result c.from_residual.ensures.1 in
    last_is _ _ c.args.lead (c.in_err-write.ensures.begun (λ h. cc (p.1, p.2, e, h))).unsynced

-- the bytes were written
pub open_gate-requires-clause-sound : goal.open_gate-requires-clause-sound
open_gate-requires-clause-sound g c = λ _ _. sound_write (c.in_ok-write.ensures.begun (λ e. cc)) c.requires.sound

pub open_gate-requires-clause-unseen : goal.open_gate-requires-clause-unseen
open_gate-requires-clause-unseen g c =
    λ _ _. still_unseen c.args.lead (g.D.LogDisk.state c.args.disk.now) (g.D.LogDisk.state c.write.new.self) (c.in_ok-write.ensures.begun (λ e. cc)).beside.eyes c.requires.unseen

pub returns-clause-touches : goal.returns-clause-touches
returns-clause-touches g c = record {
  beside = search rules;
  counts = search rules;
  sound = search rules;
  time = continues_then (g.D.LogDisk.state c.args.disk.now) (g.D.LogDisk.state c.write.new.self) (g.D.LogDisk.state c.open_gate.new.disk) (continues_write (c.in_ok-write.ensures.begun (λ e. cc))) c.open_gate.ensures.touches.time;
  dirties = dirties_then (c.args.lead ∷ []) (g.D.LogDisk.state c.args.disk.now) (g.D.LogDisk.state c.write.new.self) (g.D.LogDisk.state c.open_gate.new.disk)
      (dirties_more (c.args.lead ∷ []) (g.D.LogDisk.state c.args.disk.now) (g.D.LogDisk.state c.write.new.self) c.args.lead (first_is c.args.lead) (c.in_ok-write.ensures.begun (λ e. cc)).unsynced) c.open_gate.ensures.touches.dirties;
}

pub returns-clause-read : goal.returns-clause-read
returns-clause-read g c =
    beside_then (c.args.lead ∷ []) (g.D.LogDisk.state c.args.disk.now) (g.D.LogDisk.state c.write.new.self) (g.D.LogDisk.state c.open_gate.new.disk)
    (beside_write (c.args.lead ∷ []) (own_region c.args.lead) (c.in_ok-write.ensures.begun (λ e. cc))) c.open_gate.ensures.read

pub returns-clause-leaves : goal.returns-clause-leaves
returns-clause-leaves g c =
    sealing_gated c.args.lead c.args.bytes.now (g.D.LogDisk.state c.args.disk.now) (g.D.LogDisk.state c.write.new.self) (g.D.LogDisk.state c.open_gate.new.disk)
    (c.in_ok-write.ensures.begun (λ e. cc)) (λ failed. cc) c.open_gate.ensures.leaves

pub returns-clause-no_memory : goal.returns-clause-no_memory
returns-clause-no_memory g c = λ e. inr (
  c.open_gate.ensures.kept e,
  written_then c.args.lead c.args.bytes.now (g.D.LogDisk.state c.args.disk.now) (λ image. image) (g.D.LogDisk.state c.write.new.self) (g.D.LogDisk.state c.open_gate.new.disk) (c.in_ok-write.ensures.begun (λ h. cc)) (λ failed. cc) (c.open_gate.ensures.no_memory e),
)

pub returns-clause-unsynced : goal.returns-clause-unsynced
returns-clause-unsynced g c e = c.open_gate.ensures.unsynced (last_is _ _ c.args.lead (c.in_ok-write.ensures.begun (λ h. cc)).unsynced) e

pub returns-clause-untouched : goal.returns-clause-untouched
returns-clause-untouched g c = λ e.
    behind_gated c.args.lead c.args.bytes.now (g.D.LogDisk.state c.args.disk.now) (g.D.LogDisk.state c.write.new.self) (g.D.LogDisk.state c.open_gate.new.disk)
    (c.in_ok-write.ensures.begun (λ h. cc)) (c.open_gate.ensures.untouched e)

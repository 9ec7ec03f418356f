use Rattle.std.proofs.Common.{◌≡◌, ℕ, List, ◌∷◌, [], ap, subst, sym, ◌∙◌, rules}
use Rattle.std.specs.Prelude.{Contains}
use Rattle.std.proofs.lemmas.Result.{err_from_is_err_and}
use Rattle.log_disk.specs.Disk.{Disk}
use Rattle.log_disk.proofs.Sound.{sound_failure, sound_write, sound_sync}
use Rattle.log_disk.proofs.Times.{continues_told, continues_then, continues_write, continues_sync}
use Rattle.epoch_room.specs.Gate.{gate, DirtiesOnly, LeavesOpening}
use Rattle.epoch_room.proofs.OpenEpochs.Gates.{still_unseen, opening_none, opening_same, opening_synced, opening_begun, opening_done, by_refusal, still_sound, now_same, now_synced}
use Rattle.epoch_room.proofs.RegionSets.Touching.{dirties_none, dirties_synced, dirties_anew, first_is, last_is, refused_time, refused_synced, beside_told, beside_then, beside_write, beside_sync, own_region, refused_beside}
use Rattle.epoch_room.proofs.sealing.open_gate.Goals as goal

pub write-requires-clause-unseen : goal.write-requires-clause-unseen
write-requires-clause-unseen g c = still_unseen c.args.lead (g.D.LogDisk.state c.args.disk.now) (g.D.LogDisk.state c.sync.new.self) c.in_ok-sync.ensures.ok.beside.eyes c.requires.unseen

-- the first sync failed
pub returns-in_err-sync-clause-touches : goal.returns-in_err-sync-clause-touches
returns-in_err-sync-clause-touches g c = record {
  beside = search rules;
  counts = search rules;
  sound = search rules;
  time = search rules;
  dirties = dirties_none (c.args.lead ∷ []) (g.D.LogDisk.state c.args.disk.now) (g.D.LogDisk.state c.sync.new.self) c.in_err-sync.ensures.err.unsynced;
}

pub returns-in_err-sync-clause-read : goal.returns-in_err-sync-clause-read
returns-in_err-sync-clause-read g c = beside_told (c.args.lead ∷ []) (g.D.LogDisk.state c.args.disk.now) (g.D.LogDisk.state c.sync.new.self) c.in_err-sync.ensures.err.told

pub returns-in_err-sync-clause-leaves : goal.returns-in_err-sync-clause-leaves
returns-in_err-sync-clause-leaves g c = opening_none c.args.lead (g.D.LogDisk.state c.args.disk.now) (g.D.LogDisk.state c.sync.new.self) c.in_err-sync.ensures.err.told

pub returns-in_err-sync-clause-unsynced : goal.returns-in_err-sync-clause-unsynced
returns-in_err-sync-clause-unsynced g c was e = subst (λ (rs : List ℕ). Contains rs c.args.lead) (sym c.in_err-sync.ensures.err.unsynced) was

-- the write was refused
pub returns-in_err-write-clause-touches : goal.returns-in_err-write-clause-touches
returns-in_err-write-clause-touches g c = record {
  beside = search rules;
  counts = search rules;
  sound = still_sound c.args.lead 0 gate (g.D.LogDisk.state c.sync.new.self) (g.D.LogDisk.state c.write.new.self) c.in_err-write.field-0.0 c.in_err-write.ensures.begun c.in_err-write.ensures.no_memory
      (sound_sync c.in_ok-sync.ensures.ok c.requires.sound);
  time = continues_then (g.D.LogDisk.state c.args.disk.now) (g.D.LogDisk.state c.sync.new.self) (g.D.LogDisk.state c.write.new.self) (continues_sync c.in_ok-sync.ensures.ok)
      (refused_time c.args.lead 0 gate (g.D.LogDisk.state c.sync.new.self) (g.D.LogDisk.state c.write.new.self) c.in_err-write.field-0.0 c.in_err-write.ensures.begun c.in_err-write.ensures.no_memory);
  dirties = by_refusal c.args.lead 0 gate (g.D.LogDisk.state c.sync.new.self) (g.D.LogDisk.state c.write.new.self) (DirtiesOnly (c.args.lead ∷ []) (g.D.LogDisk.state c.args.disk.now) (g.D.LogDisk.state c.write.new.self)) c.in_err-write.field-0.0 c.in_err-write.ensures.begun c.in_err-write.ensures.no_memory
      (λ w. dirties_anew (c.args.lead ∷ []) (g.D.LogDisk.state c.args.disk.now) (g.D.LogDisk.state c.sync.new.self) (g.D.LogDisk.state c.write.new.self) c.args.lead (first_is c.args.lead) c.in_ok-sync.ensures.ok.unsynced w.unsynced)
      (λ same. dirties_synced (c.args.lead ∷ []) (g.D.LogDisk.state c.args.disk.now) (g.D.LogDisk.state c.write.new.self) (refused_synced (g.D.LogDisk.state c.sync.new.self) (g.D.LogDisk.state c.write.new.self) same c.in_ok-sync.ensures.ok.unsynced));
}

pub returns-in_err-write-clause-read : goal.returns-in_err-write-clause-read
returns-in_err-write-clause-read g c =
    beside_then (c.args.lead ∷ []) (g.D.LogDisk.state c.args.disk.now) (g.D.LogDisk.state c.sync.new.self) (g.D.LogDisk.state c.write.new.self) (beside_sync (c.args.lead ∷ []) c.in_ok-sync.ensures.ok)
    (refused_beside c.args.lead 0 gate (g.D.LogDisk.state c.sync.new.self) (g.D.LogDisk.state c.write.new.self) c.in_err-write.field-0.0 c.in_err-write.ensures.begun c.in_err-write.ensures.no_memory)

pub returns-in_err-write-clause-leaves : goal.returns-in_err-write-clause-leaves
returns-in_err-write-clause-leaves g c =
    let start = g.D.LogDisk.state c.args.disk.now in
    let synced = g.D.LogDisk.state c.sync.new.self in
    let new = g.D.LogDisk.state c.write.new.self in
    by_refusal c.args.lead 0 gate synced new (LeavesOpening c.args.lead start new) c.in_err-write.field-0.0 c.in_err-write.ensures.begun c.in_err-write.ensures.no_memory
    (λ w. opening_begun c.args.lead start synced c.requires.sound c.in_ok-sync.ensures.ok new w)
    (λ same. opening_same c.args.lead start synced new (ap (λ (d : Disk). d.told) same) (opening_synced c.args.lead start synced c.requires.sound c.in_ok-sync.ensures.ok))

pub returns-in_err-write-clause-untouched : goal.returns-in_err-write-clause-untouched
returns-in_err-write-clause-untouched g c = λ e.
    let p = err_from_is_err_and c.from_residual-in_err-write.result c.from_residual-in_err-write.ensures.1 in
    let same : g.D.LogDisk.state c.write.new.self ≡ g.D.LogDisk.state c.sync.new.self = c.in_err-write.ensures.no_memory (cc (p.1, p.2, e)) in
    now_same (g.D.LogDisk.state c.args.disk.now) (g.D.LogDisk.state c.sync.new.self) (g.D.LogDisk.state c.write.new.self) (ap (λ (d : Disk). d.told) same)
    (now_synced (g.D.LogDisk.state c.args.disk.now) (g.D.LogDisk.state c.sync.new.self) c.requires.sound c.in_ok-sync.ensures.ok)

pub returns-in_err-write-clause-unsynced : goal.returns-in_err-write-clause-unsynced
returns-in_err-write-clause-unsynced g c was e =
    let p = err_from_is_err_and c.from_residual-in_err-write.result c.from_residual-in_err-write.ensures.1 in
    last_is _ _ c.args.lead (c.in_err-write.ensures.begun (λ h. cc (p.1, p.2, e, h))).unsynced

-- the second sync failed
pub returns-in_err-sync-2-clause-touches : goal.returns-in_err-sync-2-clause-touches
returns-in_err-sync-2-clause-touches g c = record {
  beside = search rules;
  counts = search rules;
  sound = sound_failure c.in_err-sync-2.ensures.err
      (sound_write (c.in_ok-write.ensures.begun (λ e. cc)) (sound_sync c.in_ok-sync.ensures.ok c.requires.sound));
  time = continues_then (g.D.LogDisk.state c.args.disk.now) (g.D.LogDisk.state c.sync.new.self) (g.D.LogDisk.state c.sync-2.new.self) (continues_sync c.in_ok-sync.ensures.ok)
      (continues_then (g.D.LogDisk.state c.sync.new.self) (g.D.LogDisk.state c.write.new.self) (g.D.LogDisk.state c.sync-2.new.self) (continues_write (c.in_ok-write.ensures.begun (λ e. cc)))
      (continues_told (g.D.LogDisk.state c.write.new.self) (g.D.LogDisk.state c.sync-2.new.self) c.in_err-sync-2.ensures.err.told));
  dirties = dirties_anew (c.args.lead ∷ []) (g.D.LogDisk.state c.args.disk.now) (g.D.LogDisk.state c.sync.new.self) (g.D.LogDisk.state c.sync-2.new.self) c.args.lead (first_is c.args.lead) c.in_ok-sync.ensures.ok.unsynced
      (c.in_err-sync-2.ensures.err.unsynced ∙ (c.in_ok-write.ensures.begun (λ e. cc)).unsynced);
}

pub returns-in_err-sync-2-clause-read : goal.returns-in_err-sync-2-clause-read
returns-in_err-sync-2-clause-read g c =
    beside_then (c.args.lead ∷ []) (g.D.LogDisk.state c.args.disk.now) (g.D.LogDisk.state c.sync.new.self) (g.D.LogDisk.state c.sync-2.new.self) (beside_sync (c.args.lead ∷ []) c.in_ok-sync.ensures.ok)
    (beside_then (c.args.lead ∷ []) (g.D.LogDisk.state c.sync.new.self) (g.D.LogDisk.state c.write.new.self) (g.D.LogDisk.state c.sync-2.new.self) (beside_write (c.args.lead ∷ []) (own_region c.args.lead) (c.in_ok-write.ensures.begun (λ e. cc)))
    (beside_told (c.args.lead ∷ []) (g.D.LogDisk.state c.write.new.self) (g.D.LogDisk.state c.sync-2.new.self) c.in_err-sync-2.ensures.err.told))

pub returns-in_err-sync-2-clause-leaves : goal.returns-in_err-sync-2-clause-leaves
returns-in_err-sync-2-clause-leaves g c =
    opening_same c.args.lead (g.D.LogDisk.state c.args.disk.now) (g.D.LogDisk.state c.write.new.self) (g.D.LogDisk.state c.sync-2.new.self) c.in_err-sync-2.ensures.err.told
    (opening_begun c.args.lead (g.D.LogDisk.state c.args.disk.now) (g.D.LogDisk.state c.sync.new.self) c.requires.sound c.in_ok-sync.ensures.ok (g.D.LogDisk.state c.write.new.self) (c.in_ok-write.ensures.begun (λ e. cc)))

pub returns-in_err-sync-2-clause-unsynced : goal.returns-in_err-sync-2-clause-unsynced
returns-in_err-sync-2-clause-unsynced g c was e = last_is _ _ c.args.lead (c.in_err-sync-2.ensures.err.unsynced ∙ (c.in_ok-write.ensures.begun (λ h. cc)).unsynced)

-- the gate is open
pub returns-clause-touches : goal.returns-clause-touches
returns-clause-touches g c = record {
  beside = search rules;
  counts = search rules;
  sound = search rules;
  time = continues_then (g.D.LogDisk.state c.args.disk.now) (g.D.LogDisk.state c.sync.new.self) (g.D.LogDisk.state c.sync-2.new.self) (continues_sync c.in_ok-sync.ensures.ok)
      (continues_then (g.D.LogDisk.state c.sync.new.self) (g.D.LogDisk.state c.write.new.self) (g.D.LogDisk.state c.sync-2.new.self) (continues_write (c.in_ok-write.ensures.begun (λ e. cc)))
      (continues_sync c.in_ok-sync-2.ensures.ok));
  dirties = dirties_synced (c.args.lead ∷ []) (g.D.LogDisk.state c.args.disk.now) (g.D.LogDisk.state c.sync-2.new.self) c.in_ok-sync-2.ensures.ok.unsynced;
}

pub returns-clause-read : goal.returns-clause-read
returns-clause-read g c =
    beside_then (c.args.lead ∷ []) (g.D.LogDisk.state c.args.disk.now) (g.D.LogDisk.state c.sync.new.self) (g.D.LogDisk.state c.sync-2.new.self) (beside_sync (c.args.lead ∷ []) c.in_ok-sync.ensures.ok)
    (beside_then (c.args.lead ∷ []) (g.D.LogDisk.state c.sync.new.self) (g.D.LogDisk.state c.write.new.self) (g.D.LogDisk.state c.sync-2.new.self) (beside_write (c.args.lead ∷ []) (own_region c.args.lead) (c.in_ok-write.ensures.begun (λ e. cc)))
    (beside_sync (c.args.lead ∷ []) c.in_ok-sync-2.ensures.ok))

pub returns-clause-leaves : goal.returns-clause-leaves
returns-clause-leaves g c =
    opening_done c.args.lead (g.D.LogDisk.state c.args.disk.now) (g.D.LogDisk.state c.sync.new.self) c.requires.sound c.in_ok-sync.ensures.ok (g.D.LogDisk.state c.write.new.self) (g.D.LogDisk.state c.sync-2.new.self)
    (c.in_ok-write.ensures.begun (λ e. cc)) (sound_write (c.in_ok-write.ensures.begun (λ e. cc)) (sound_sync c.in_ok-sync.ensures.ok c.requires.sound)) c.in_ok-sync-2.ensures.ok

use Rattle.std.proofs.Common.{◌<◌, Err, refl, ap, arith}
use Rattle.std.specs.Prelude.{slice_index_or}
use Rattle.log_disk.specs.Disk.{IsUnseen}
use Rattle.log_disk.specs.declared.refusal.DiskRefusal.{DiskRefusal}
use Rattle.epoch_room.proofs.Erasures.GateSteps.{all_there, begun_all, begun_failed, begun_memory, begun_more, begun_none, failed_other}
use Rattle.epoch_room.proofs.OpenEpochs.Gates.{still_unseen}
use Rattle.epoch_room.proofs.closing.write_gates.Goals as goal

pub loop-begun-init : goal.loop-begun-init
loop-begun-init g c = begun_none c.args.leads.now (g.D.LogDisk.state c.args.disk.now) c.requires.sound

pub write-requires-clause-within : goal.write-requires-clause-within
write-requires-clause-within g c =
    let low = all_there (λ r. r < (g.D.LogDisk.state c.args.disk.now).regions) c.args.leads.now c.loop-begun.begun c.loop-begun-test.true c.requires.there in
    let beside = c.loop-begun.invariant.touches.beside in
    (omega (arith, low, beside.regions), (let l = c.requires.long in omega (arith, l, beside.region_len)))

pub write-requires-clause-unseen : goal.write-requires-clause-unseen
write-requires-clause-unseen g c =
    let lead = slice_index_or c.args.leads.now c.loop-begun.begun 0 in
    still_unseen lead (g.D.LogDisk.state c.args.disk.now) (g.D.LogDisk.state c.loop-begun.disk) c.loop-begun.invariant.touches.beside.eyes
    (all_there (IsUnseen (g.D.LogDisk.state c.args.disk.now)) c.args.leads.now c.loop-begun.begun c.loop-begun-test.true c.requires.unseen)

pub returns-in-Failed : goal.returns-in-Failed
returns-in-Failed g c =
    begun_failed c.args.leads.now c.loop-begun.begun (g.D.LogDisk.state c.args.disk.now) (g.D.LogDisk.state c.loop-begun.disk) (g.D.LogDisk.state c.write.new.self) c.loop-begun.invariant c.loop-begun-test.true (c.in-Err.ensures.begun (failed_other c.in-Err.refusal c.in-Failed.is)) refl

pub returns-in-NoMemory : goal.returns-in-NoMemory
returns-in-NoMemory g c =
    begun_memory c.args.leads.now c.loop-begun.begun (g.D.LogDisk.state c.args.disk.now) (g.D.LogDisk.state c.loop-begun.disk) (g.D.LogDisk.state c.write.new.self) c.loop-begun.invariant c.loop-begun-test.true
    (c.in-Err.ensures.no_memory (ap (λ (r : DiskRefusal). Err r) c.in-NoMemory.is))

pub loop-begun-preserved : goal.loop-begun-preserved
loop-begun-preserved g c =
    let low = all_there (λ r. r < (g.D.LogDisk.state c.args.disk.now).regions) c.args.leads.now c.loop-begun.begun c.loop-begun-test.true c.requires.there in
    begun_more c.args.leads.now c.loop-begun.begun (g.D.LogDisk.state c.args.disk.now) (g.D.LogDisk.state c.loop-begun.disk) (g.D.LogDisk.state c.write.new.self) c.loop-begun.invariant c.loop-begun-test.true (c.in_default.ensures.begun (λ e. cc)) (λ f. cc)
    (omega (arith, low, c.loop-begun.invariant.touches.beside.regions))

pub returns : goal.returns
returns g c = begun_all c.args.leads.now c.loop-begun.begun (g.D.LogDisk.state c.args.disk.now) (g.D.LogDisk.state c.loop-begun.disk) c.loop-begun.invariant (omega (arith, c.loop-begun-test.false, c.loop-begun.auto.begun-end))

use Rattle.std.proofs.Common.{◌≡◌, ◌≤◌, ℕ, List, [], ◌++◌, length, take, Some, None, Ok, Err, Result, true, refl, sym, subst, ap, ◌∙◌, arith}
use Rattle.std.specs.Prelude.{IsErrOf, OnOk}
use Rattle.fine_model.specs.declared.Part.{Part}
use Rattle.fine_model.specs.Boards.{set_of}
use Rattle.fine_model.specs.Jobs.{job_regions, taken_by}
use Rattle.fine_model.specs.Regions.{header_bytes}
use Rattle.log_disk.specs.Disk.{with_bytes}
use Rattle.log_disk.specs.declared.refusal.DiskRefusal.{DiskRefusal}
use Rattle.log_disk.specs.declared.refusal.DiskRefusal.TheVariants as refusal
use Rattle.log_partition.specs.Headers.{padding}
use Rattle.epoch_room.specs.Gate.{gate, HasBytes, IsUngated, LeavesSealing}
use Rattle.epoch_room.specs.MergeSealing.{IsWrittenOut, SealsJob, retire}
use Rattle.epoch_room.specs.Value.{RoomValue, value_of}
use Rattle.epoch_room.specs.Whole.{IsWhole}
use Rattle.epoch_room.specs.declared.answers.RoomFault.TheVariants as room_fault
use Rattle.epoch_room.proofs.OpenEpochs.Behind.{is_failed, is_no_memory, not_failed, not_failed_ok}
use Rattle.epoch_room.proofs.Merges.MergedHeaders.{header_cut}
use Rattle.epoch_room.proofs.Merges.SealedJobs.{merged_whole, older_place, once_more, retired_room, seals_disk, seals_ok, shut_whole}
use Rattle.epoch_room.proofs.Merges.SealingJobs.{lead_unseen}
use Rattle.epoch_room.proofs.Merges.UnsealedJobs.{open_whole, seals_memory, seals_none}
use Rattle.epoch_room.proofs.Merges.Written.{none_lost, own_small, own_taken}
use Rattle.epoch_room.proofs.Inside.{Ends, ends, kept_in, room_in}
use Rattle.epoch_room.proofs.room.Room.seal_job.Given.{Over}
use Rattle.epoch_room.proofs.room.Room.seal_job.Goals.{After-seal_region, Else-self}
use Rattle.epoch_room.proofs.room.Room.seal_job.Goals as goal

-- the job is the one that is out, and is all written
out : (g : Over) (c : Else-self g) → c.self.inside.job ≡ Some c.args.job
out g c = ap (λ (v : RoomValue). v.room.job) c.self.view_is ∙ c.requires.out

written : (g : Over) (c : Else-self g) → IsWrittenOut (room_in g.D.LogDisk.state c.self.inside).room c.args.job c.args.header
written g c = subst (λ (v : RoomValue). IsWrittenOut v.room c.args.job c.args.header) (sym c.self.view_is) c.requires.written

-- what is sealed are the bytes of the header
cut : (g : Over) (c : After-seal_region g) → c.self.inside.job ≡ Some c.args.job → take c.header_len.result c.header_bytes-bytes.result ≡ header_bytes (g.D.LogDisk.state c.self.inside.disk).region_len c.args.header
cut g c out =
    let header = c.args.header in
    let region_len = (g.D.LogDisk.state c.self.inside.disk).region_len in
    let taken = own_taken (g.D.LogDisk.state c.self.inside.disk) (g.D.LogDisk.state c.self.inside.entry.value) (kept_in c.self.inside) c.self.invariant.0 c.if-self.false c.args.job out header c.requires.taken in
    header_cut region_len header c.header_bytes-bytes.result (padding header.mark) c.header_len.result taken.lies.listed c.header_len.ensures
    (c.header_bytes-bytes.ensures ∙ ap (λ n. header_bytes n header ++ padding header.mark) c.region_len.ensures.region_len)

leaves : (g : Over) (c : After-seal_region g) → c.self.inside.job ≡ Some c.args.job → LeavesSealing c.args.job.target (header_bytes (g.D.LogDisk.state c.self.inside.disk).region_len c.args.header) (g.D.LogDisk.state c.self.inside.disk) (g.D.LogDisk.state c.seal_region.new.disk)
leaves g c out = subst (λ bytes. LeavesSealing c.args.job.target bytes (g.D.LogDisk.state c.self.inside.disk) (g.D.LogDisk.state c.seal_region.new.disk)) (cut g c out) c.seal_region.ensures.leaves

pub returns-then-self : goal.returns-then-self
returns-then-self g c =
    let whole : IsWhole c.args.self.now = subst IsWhole c.self.view_is c.self.invariant.0 in
    let sealed : c.args.self.now.room.sealed ≡ c.self.inside.sealed = ap (λ (v : RoomValue). v.room.sealed) (sym c.self.view_is) in
    subst (λ epoch. SealsJob c.args.self.now c.args.self.now c.args.job c.args.header (Err (room_fault.Shut epoch, c.args.job))) sealed
    (seals_none c.args.self.now c.args.job c.args.header whole (ap (λ (v : RoomValue). v.room.is_shut) (sym c.self.view_is) ∙ c.if-self.true))

pub seal_region-requires-clause-unseen : goal.seal_region-requires-clause-unseen
seal_region-requires-clause-unseen g c κs within =
    lead_unseen _ _ (kept_in c.self.inside) c.self.invariant.0 c.if-self.false c.args.job (out g (goal.at.seal_region-requires-clause-unseen g c).Else-self) c.args.header c.requires.taken (written g (goal.at.seal_region-requires-clause-unseen g c).Else-self)

pub replace_two-requires : goal.replace_two-requires
replace_two-requires g c =
    older_place _ _ (kept_in c.self.inside) c.self.invariant.0 c.if-self.false c.args.job (out g (goal.at.replace_two-requires g c).Else-self) c.args.header c.requires.taken (written g (goal.at.replace_two-requires g c).Else-self)

pub retire-requires : goal.retire-requires
retire-requires g c =
    let room = retired_room _ _ (kept_in c.self.inside) c.self.invariant.0 c.if-self.false c.args.job (out g (goal.at.retire-requires g c).Else-self) c.args.header c.requires.taken (written g (goal.at.retire-requires g c).Else-self) in
    let most = c.self.invariant.2 in
    omega (arith, room, most)

pub retire-requires-in-Ok : goal.retire-requires-in-Ok
retire-requires-in-Ok g c =
    let at = (goal.at.retire-requires-in-Ok g c).Else-self in
    let room = retired_room _ _ (kept_in c.self.inside) c.self.invariant.0 c.if-self.false c.args.job (out g at) c.args.header c.requires.taken (written g at) in
    let more = once_more _ _ (kept_in c.self.inside) c.self.invariant.0 c.if-self.false c.args.job (out g at) c.args.header c.requires.taken (written g at) in
    let most = c.self.invariant.2 in
    let long = ap (λ (ps : List Part). length ps) c.retire.ensures.items in
    let same = c.retire.ensures.capacity in
    omega (arith, room, more, most, long, same)

-- the part stands in place of the two
sealed : (g : Over) (c : goal.After-self-1 g) → Ends (λ v w. SealsJob v w c.args.job c.args.header (Ok tt)) c.args.self.now (room_in g.D.LogDisk.state (record c.self.inside { disk = c.seal_region.new.disk; parts = c.replace_two.new.parts; retired = c.retire-in-Ok.new.parts; job = None }))
sealed g c =
    let at = goal.at.returns-in-Ok g c in
    let out = out g at.Else-self in
    let new = g.D.LogDisk.state c.seal_region.new.disk in
    let e = c.seal_region.ensures in
    let synced = subst (λ (r : Result (Unit {0}) DiskRefusal). OnOk r (new.unsynced ≡ [])) c.in-Ok.is e.synced in
    let bytes = subst (λ xs. HasBytes (λ image. with_bytes (with_bytes image c.args.job.target 1 xs) c.args.job.target 0 gate) (g.D.LogDisk.state c.self.inside.disk) new) (cut g at.After-seal_region out)
    (subst (λ (r : Result (Unit {0}) DiskRefusal). OnOk r (HasBytes (λ image. with_bytes (with_bytes image c.args.job.target 1 (take c.header_len.result c.header_bytes-bytes.result)) c.args.job.target 0 gate) (g.D.LogDisk.state c.self.inside.disk) new)) c.in-Ok.is e.bytes) in
    let retired : c.retire-in-Ok.new.parts.items ≡ retire c.args.job.newer (retire c.args.job.older c.self.inside.retired.items) = c.retire-in-Ok.ensures.items ∙ ap (retire c.args.job.newer) c.retire.ensures.items in
    ends (λ v w. SealsJob v w c.args.job c.args.header (Ok tt)) c.self.view_is
    (λ i. value_of new (g.D.LogDisk.state c.self.inside.entry.value) (record (kept_in c.self.inside) { parts = c.replace_two.ensures i; retired = retired i; job = None }))
    (merged_whole _ _ (kept_in c.self.inside) c.self.invariant.0 c.if-self.false c.args.job out c.args.header c.requires.taken (written g at.Else-self) _ e.touches.beside e.touches.sound e.touches.time (IsErrOf c.seal_region.result refusal.Failed) e.touches.counts e.read (leaves g at.After-seal_region out) synced bytes, seals_ok _ _ (kept_in c.self.inside) c.self.invariant.0 c.if-self.false c.args.job out c.args.header c.requires.taken (written g at.Else-self) _ e.touches.beside e.touches.sound e.touches.time (IsErrOf c.seal_region.result refusal.Failed) e.touches.counts e.read (leaves g at.After-seal_region out) synced bytes (not_failed_ok c.seal_region.result c.in-Ok.is) e.touches.dirties tt)

pub invariant_of-self : goal.invariant_of-self
invariant_of-self g c = ((sealed g c).0, c.self.invariant.1 ∙ sym c.seal_region.ensures.touches.beside.region_len, subst (λ n. 64 ≤ n) (sym (c.retire-in-Ok.ensures.capacity ∙ c.retire.ensures.capacity)) c.self.invariant.2)

pub returns-in-Ok : goal.returns-in-Ok
returns-in-Ok g c = (sealed g c).1

pub lose_job-requires-clause-small : goal.lose_job-requires-clause-small
lose_job-requires-clause-small g c =
    own_small _ _ (kept_in c.self.inside) c.self.invariant.0 c.if-self.false c.args.job (out g (goal.at.lose_job-requires-clause-small g c).Else-self) c.args.header c.requires.taken

-- the disk failed: the regions of the job are lost
lost : (g : Over) (c : goal.After-self-in-Failed-1 g) → Ends (λ v w. SealsJob v w c.args.job c.args.header (Err (room_fault.Disk, c.args.job))) c.args.self.now (room_in g.D.LogDisk.state (record c.self.inside { disk = c.seal_region.new.disk; lost = c.lose_job.new.lost; is_shut = true }))
lost g c =
    let at = goal.at.returns-in-Failed g c in
    let out = out g at.Else-self in
    let e = c.seal_region.ensures in
    let failed = is_failed c.seal_region.result c.in-Err.refusal c.in-Err.is c.in-Failed.is in
    let none = none_lost (g.D.LogDisk.state c.self.inside.disk) (g.D.LogDisk.state c.self.inside.entry.value) (kept_in c.self.inside) c.self.invariant.0 c.if-self.false c.args.job out c.args.header c.requires.taken in
    let lost : c.lose_job.new.lost ≡ set_of (job_regions (Some c.args.job)) =
    c.lose_job.ensures ∙ ap (λ (l : List ℕ). set_of (l ++ taken_by c.args.job.target (Some c.args.header))) none ∙ ap (λ h. set_of (taken_by c.args.job.target h)) (sym c.requires.taken) in
    ends (λ v w. SealsJob v w c.args.job c.args.header (Err (room_fault.Disk, c.args.job))) c.self.view_is
    refl
    (shut_whole _ _ (kept_in c.self.inside) c.self.invariant.0 c.if-self.false c.args.job out c.args.header c.requires.taken (written g at.Else-self) _ e.touches.beside e.touches.sound e.touches.time (IsErrOf c.seal_region.result refusal.Failed) e.touches.counts e.read (leaves g at.After-seal_region out) failed c.lose_job.new.lost lost, seals_disk _ _ (kept_in c.self.inside) c.self.invariant.0 c.if-self.false c.args.job out c.args.header c.requires.taken (written g at.Else-self) _ e.touches.beside e.touches.sound e.touches.time (IsErrOf c.seal_region.result refusal.Failed) e.touches.counts e.read (leaves g at.After-seal_region out) failed c.lose_job.new.lost lost e.touches.dirties)

pub invariant_of-self-in-Failed : goal.invariant_of-self-in-Failed
invariant_of-self-in-Failed g c = ((lost g c).0, c.self.invariant.1 ∙ sym c.seal_region.ensures.touches.beside.region_len, c.self.invariant.2)

pub returns-in-Failed : goal.returns-in-Failed
returns-in-Failed g c = (lost g c).1

-- no memory: the job stays out
kept_out : (g : Over) (c : goal.In-NoMemory g) → Ends (λ v w. SealsJob v w c.args.job c.args.header (Err (room_fault.NoMemory, c.args.job))) c.args.self.now (room_in g.D.LogDisk.state (record c.self.inside { disk = c.seal_region.new.disk }))
kept_out g c =
    let at = goal.at.returns-in-NoMemory g c in
    let out = out g at.Else-self in
    let e = c.seal_region.ensures in
    let none = is_no_memory c.seal_region.result c.in-Err.refusal c.in-Err.is c.in-NoMemory.is in
    let ungated = subst (λ bytes. IsUngated c.args.job.target bytes (g.D.LogDisk.state c.self.inside.disk) (g.D.LogDisk.state c.seal_region.new.disk)) (cut g at.After-seal_region out) (e.no_memory none) in
    ends (λ v w. SealsJob v w c.args.job c.args.header (Err (room_fault.NoMemory, c.args.job))) c.self.view_is
    refl
    (open_whole _ _ (kept_in c.self.inside) c.self.invariant.0 c.if-self.false c.args.job out c.args.header c.requires.taken (written g at.Else-self) _ e.touches.beside e.touches.sound e.touches.time (IsErrOf c.seal_region.result refusal.Failed) e.touches.counts e.read (leaves g at.After-seal_region out) ungated (e.untouched none) e.touches.dirties, seals_memory _ _ (kept_in c.self.inside) c.self.invariant.0 c.if-self.false c.args.job out c.args.header c.requires.taken (written g at.Else-self) _ e.touches.beside e.touches.sound e.touches.time (IsErrOf c.seal_region.result refusal.Failed) e.touches.counts e.read (leaves g at.After-seal_region out) ungated (e.untouched none) (not_failed c.seal_region.result none) e.touches.dirties)

pub invariant_of-self-in-NoMemory : goal.invariant_of-self-in-NoMemory
invariant_of-self-in-NoMemory g c = ((kept_out g c).0, c.self.invariant.1 ∙ sym c.seal_region.ensures.touches.beside.region_len, c.self.invariant.2)

pub returns-in-NoMemory : goal.returns-in-NoMemory
returns-in-NoMemory g c = (kept_out g c).1

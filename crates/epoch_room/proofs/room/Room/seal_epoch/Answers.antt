use Rattle.std.proofs.Common.{◌≡◌, ◌+◌, ◌≤◌, ◌++◌, ◌∷◌, [], List, Some, None, Ok, Err, refl, sym, subst, ap, ◌∙◌, arith, true}
use Rattle.std.specs.Prelude.{IsErrOf}
use Rattle.fine_model.specs.declared.Header.{Header}
use Rattle.fine_model.specs.declared.Part.{Part}
use Rattle.fine_model.specs.Regions.{partition_bytes}
use Rattle.fine_model.specs.ChainLaws.{part_of}
use Rattle.log_disk.specs.declared.refusal.DiskRefusal.{DiskRefusal}
use Rattle.epoch_room.specs.Epoch.{Open}
use Rattle.epoch_room.specs.Value.{RoomValue, value_of}
use Rattle.epoch_room.specs.Whole.{IsWhole}
use Rattle.epoch_room.specs.Partition.{IsPartitionOf}
use Rattle.epoch_room.specs.Meaning.{Seals}
use Rattle.epoch_room.specs.declared.answers.RoomFault.TheVariants as room_fault
use Rattle.epoch_room.proofs.OpenEpochs.Behind.{bytes_fit, does_none, is_failed, is_no_memory, not_failed_ok, not_failed, popped, seals_none, seals_ok, seals_open, seals_shut, target_at, there, whole_ok, whole_open, whole_shut}
use Rattle.epoch_room.proofs.Views.Boarding.{unseen}
use Rattle.epoch_room.proofs.OpenEpochs.Ending.{own_part, target_beside}
use Rattle.epoch_room.proofs.OpenEpochs.Longer.{range_of}
use Rattle.epoch_room.proofs.RegionSets.OneRegion.{set_one}
use Rattle.epoch_room.proofs.Inside.{Ends, ends, kept_in, no_memory, room_in}
use Rattle.epoch_room.proofs.room.Room.seal_epoch.Given.{Over}
use Rattle.epoch_room.proofs.room.Room.seal_epoch.Goals.{After-as_slice, After-truncate, Else-self, In-NoMemory}
use Rattle.epoch_room.proofs.room.Room.seal_epoch.Goals as goal

-- no memory: the room is as it was
none : (g : Over) (c : Else-self g) → Seals c.args.self.now c.args.self.now (Err room_fault.NoMemory)
none g c =
    let whole : IsWhole c.args.self.now = subst IsWhole c.self.view_is c.self.invariant.0 in
    seals_none c.args.self.now room_fault.NoMemory whole (does_none c.args.self.now whole (ap (λ (v : RoomValue). v.room.is_shut) (sym c.self.view_is) ∙ c.if-self.false))

-- the epoch has entries and a target, and its partition is what is written there
waits : (g : Over) (c : After-as_slice g) → 1 ≤ c.self.inside.epoch.waiting
waits g c = subst (λ (v : RoomValue). 1 ≤ v.room.waiting) (sym c.self.view_is) c.requires.waiting

target : (g : Over) (c : After-as_slice g) → c.self.inside.target ≡ Some c.unwrap_or-region.result
target g c = target_at c.self.inside.target (c.self.invariant.0.epoch.some (c.self.invariant.0.lost c.if-self.false) (waits g c)) c.unwrap_or-region.result c.unwrap_or-region.ensures

part : (g : Over) (c : After-as_slice g) → IsPartitionOf (g.D.LogDisk.state c.self.inside.disk).region_len (range_of c.self.inside.sealed) c.self.inside.epoch.rows c.in_ok-partition.partition
part g c = subst (λ n. IsPartitionOf n (range_of c.self.inside.sealed) c.self.inside.epoch.rows c.in_ok-partition.partition) c.region_len-region_len.ensures.region_len c.in_ok-partition.ensures

spelled : (g : Over) (c : After-as_slice g) → c.as_slice.result.now ≡ partition_bytes (g.D.LogDisk.state c.self.inside.disk).region_len (range_of c.self.inside.sealed) (part g c).sorted
spelled g c = c.as_slice.ensures.value ∙ (part g c).bytes

-- the parts are those before, once the new one is taken off
back : (g : Over) (c : After-truncate g) → c.truncate.new.self ≡ c.self.inside.parts
back g c = popped c.self.inside.parts c.push.new.self c.truncate.new.self (part_of c.unwrap_or-region.result c.in_ok-partition.partition.header) c.len.result c.in_ok-push.ensures.ok c.len.ensures c.truncate.ensures

pub returns-then-self : goal.returns-then-self
returns-then-self g c =
    let whole : IsWhole c.args.self.now = subst IsWhole c.self.view_is c.self.invariant.0 in
    seals_none c.args.self.now (room_fault.Shut c.self.inside.sealed) whole (ap (λ (v : RoomValue). v.room.is_shut) (sym c.self.view_is) ∙ c.if-self.true, ap (λ (v : RoomValue). v.room.sealed) c.self.view_is, refl)

pub returns-in_err-partition : goal.returns-in_err-partition
returns-in_err-partition g c =
    no_memory (Seals c.args.self.now c.args.self.now) c.from_residual.result c.from_residual.ensures.1 (none g (goal.at.returns-in_err-partition g c).Else-self)

pub returns-in_err-push : goal.returns-in_err-push
returns-in_err-push g c =
    let is = ap (λ (ps : List Part). value_of (g.D.LogDisk.state c.self.inside.disk) (g.D.LogDisk.state c.self.inside.entry.value) (record (kept_in c.self.inside) { parts = ps })) c.in_err-push.ensures.err ∙ c.self.view_is in
    no_memory (Seals c.args.self.now (room_in g.D.LogDisk.state (record c.self.inside { parts = c.push.new.self }))) c.from_residual-in_err-push.result c.from_residual-in_err-push.ensures.1
    (subst (λ (v : RoomValue). Seals c.args.self.now v (Err room_fault.NoMemory)) (sym is) (none g (goal.at.returns-in_err-push g c).Else-self))

pub seal_region-requires-clause-there : goal.seal_region-requires-clause-there
seal_region-requires-clause-there g c κs within =
    let at = (goal.at.seal_region-requires-clause-there g c).After-as_slice in
    there _ _ (kept_in c.self.inside) c.self.invariant.0 c.if-self.false (waits g at) c.unwrap_or-region.result (target g at) (part g at).sorted c.as_slice.result.now (part g at).is_arranged (part g at).within (spelled g at)

pub seal_region-requires-clause-within : goal.seal_region-requires-clause-within
seal_region-requires-clause-within g c κs within =
    let at = (goal.at.seal_region-requires-clause-within g c).After-as_slice in
    bytes_fit _ _ (kept_in c.self.inside) c.self.invariant.0 c.if-self.false (waits g at) c.unwrap_or-region.result (target g at) (part g at).sorted c.as_slice.result.now (part g at).is_arranged (part g at).within (spelled g at)

pub seal_region-requires-clause-unseen : goal.seal_region-requires-clause-unseen
seal_region-requires-clause-unseen g c κs within =
    let apart = target_beside (g.D.LogDisk.state c.self.inside.disk) (g.D.LogDisk.state c.self.inside.entry.value) (kept_in c.self.inside) c.self.invariant.0 c.unwrap_or-region.result (target g (goal.at.seal_region-requires-clause-unseen g c).After-as_slice) c.if-self.false in
    unseen (g.D.LogDisk.state c.self.inside.disk) (c.self.inside.parts ++ c.self.inside.retired.items) c.unwrap_or-region.result c.self.invariant.0.board.of_parts apart

-- the epoch is a part, and the next one is open
sealed : (g : Over) (c : goal.After-drop-partition-in-Ok g) → Ends (λ v w. Seals v w (Ok (c.self.inside.sealed + 1))) c.args.self.now (room_in g.D.LogDisk.state (record c.self.inside { disk = c.seal_region.new.disk; parts = c.push.new.self; target = None; epoch = c.clear.new.self; sealed = c.self.inside.sealed + 1 }))
sealed g c =
    let at = (goal.at.returns-in-Ok g c).After-as_slice in
    let done = c.seal_region.ensures in
    let most = c.self.inside.epoch.most in
    let pushed : c.push.new.self ≡ c.self.inside.parts ++ own_part (kept_in c.self.inside) c.unwrap_or-region.result ∷ [] = c.in_ok-push.ensures.ok ∙ ap (λ (h : Header). c.self.inside.parts ++ part_of c.unwrap_or-region.result h ∷ []) (part g at).header in
    ends (λ v w. Seals v w (Ok (c.self.inside.sealed + 1))) c.self.view_is
    (λ i. value_of (g.D.LogDisk.state c.seal_region.new.disk) (g.D.LogDisk.state c.self.inside.entry.value) (record (kept_in c.self.inside) { parts = pushed i; target = None; epoch = c.clear.ensures i; sealed = c.self.inside.sealed + 1 }))
    (whole_ok _ _ (kept_in c.self.inside) c.self.invariant.0 c.if-self.false (waits g at) c.unwrap_or-region.result (target g at) (part g at).sorted c.as_slice.result.now (part g at).is_arranged (part g at).within (spelled g at) _ done.touches.beside done.touches.sound done.touches.time (IsErrOf c.seal_region.result DiskRefusal.Failed) done.touches.counts done.read done.leaves c.in-Ok.ensures.synced c.in-Ok.ensures.bytes most, seals_ok _ _ (kept_in c.self.inside) c.self.invariant.0 c.if-self.false (waits g at) c.unwrap_or-region.result (target g at) (part g at).sorted c.as_slice.result.now (part g at).is_arranged (part g at).within (spelled g at) _ done.touches.beside done.touches.sound done.touches.time (IsErrOf c.seal_region.result DiskRefusal.Failed) done.touches.counts done.read done.leaves c.in-Ok.ensures.synced c.in-Ok.ensures.bytes most (not_failed_ok c.seal_region.result c.in-Ok.is))

pub invariant_of-self-in-Ok : goal.invariant_of-self-in-Ok
invariant_of-self-in-Ok g c =
    let done = c.seal_region.ensures in
    ((sealed g c).0, omega (arith, ap (λ (o : Open). o.most) c.clear.ensures, done.touches.beside.region_len, c.self.invariant.1), c.self.invariant.2)

pub returns-in-Ok : goal.returns-in-Ok
returns-in-Ok g c = (sealed g c).1

-- the disk failed: the target is lost
lost : (g : Over) (c : goal.After-drop-partition-in-Failed g) → Ends (λ v w. Seals v w (Err room_fault.Disk)) c.args.self.now (room_in g.D.LogDisk.state (record c.self.inside { disk = c.seal_region.new.disk; parts = c.truncate.new.self; lost = c.of-self-inside.result; target = None; is_shut = true }))
lost g c =
    let at = (goal.at.returns-in-Failed g c).After-as_slice in
    let done = c.seal_region.ensures in
    let low = there _ _ (kept_in c.self.inside) c.self.invariant.0 c.if-self.false (waits g at) c.unwrap_or-region.result (target g at) (part g at).sorted c.as_slice.result.now (part g at).is_arranged (part g at).within (spelled g at) in
    let back = back g (goal.at.returns-in-Failed g c).After-truncate in
    let lost : c.of-self-inside.result ≡ c.unwrap_or-region.result ∷ [] = c.of-self-inside.ensures ∙ set_one c.unwrap_or-region.result (omega (arith, low, c.self.invariant.0.geometry.regions_high)) in
    let failed = is_failed c.seal_region.result c.in-Err.refusal c.in-Err.is c.in-Failed.is in
    ends (λ v w. Seals v w (Err room_fault.Disk)) c.self.view_is
    (λ i. value_of (g.D.LogDisk.state c.seal_region.new.disk) (g.D.LogDisk.state c.self.inside.entry.value) (record (kept_in c.self.inside) { parts = back i; lost = lost i; target = None; is_shut = true }))
    (whole_shut _ _ (kept_in c.self.inside) c.self.invariant.0 c.if-self.false (waits g at) c.unwrap_or-region.result (target g at) (part g at).sorted c.as_slice.result.now (part g at).is_arranged (part g at).within (spelled g at) _ done.touches.beside done.touches.sound done.touches.time (IsErrOf c.seal_region.result DiskRefusal.Failed) done.touches.counts done.read done.leaves failed, seals_shut _ _ (kept_in c.self.inside) c.self.invariant.0 c.if-self.false (waits g at) c.unwrap_or-region.result (target g at) (part g at).sorted c.as_slice.result.now (part g at).is_arranged (part g at).within (spelled g at) _ done.touches.beside done.touches.sound done.touches.time (IsErrOf c.seal_region.result DiskRefusal.Failed) done.touches.counts done.read done.leaves failed)

pub invariant_of-self-in-Failed : goal.invariant_of-self-in-Failed
invariant_of-self-in-Failed g c =
    let done = c.seal_region.ensures in
    ((lost g c).0, omega (arith, done.touches.beside.region_len, c.self.invariant.1), c.self.invariant.2)

pub returns-in-Failed : goal.returns-in-Failed
returns-in-Failed g c = (lost g c).1

-- no memory: the epoch is open and whole
kept_open : (g : Over) (c : In-NoMemory g) → Ends (λ v w. Seals v w (Err room_fault.NoMemory)) c.args.self.now (room_in g.D.LogDisk.state (record c.self.inside { disk = c.seal_region.new.disk; parts = c.truncate.new.self }))
kept_open g c =
    let at = (goal.at.invariant_of-self-in-NoMemory g c).After-as_slice in
    let done = c.seal_region.ensures in
    let none = is_no_memory c.seal_region.result c.in-Err.refusal c.in-Err.is c.in-NoMemory.is in
    ends (λ v w. Seals v w (Err room_fault.NoMemory)) c.self.view_is
    (λ i. value_of (g.D.LogDisk.state c.seal_region.new.disk) (g.D.LogDisk.state c.self.inside.entry.value) (record (kept_in c.self.inside) { parts = back g (goal.at.invariant_of-self-in-NoMemory g c).After-truncate i }))
    (whole_open _ _ (kept_in c.self.inside) c.self.invariant.0 c.if-self.false (waits g at) c.unwrap_or-region.result (target g at) (part g at).sorted c.as_slice.result.now (part g at).is_arranged (part g at).within (spelled g at) _ done.touches.beside done.touches.sound done.touches.time (IsErrOf c.seal_region.result DiskRefusal.Failed) done.touches.counts done.read done.leaves (done.untouched none) done.touches.dirties, seals_open _ _ (kept_in c.self.inside) c.self.invariant.0 c.if-self.false (waits g at) c.unwrap_or-region.result (target g at) (part g at).sorted c.as_slice.result.now (part g at).is_arranged (part g at).within (spelled g at) _ done.touches.beside done.touches.sound done.touches.time (IsErrOf c.seal_region.result DiskRefusal.Failed) done.touches.counts done.read done.leaves (done.untouched none) (not_failed c.seal_region.result none))

pub invariant_of-self-in-NoMemory : goal.invariant_of-self-in-NoMemory
invariant_of-self-in-NoMemory g c =
    let done = c.seal_region.ensures in
    ((kept_open g c).0, omega (arith, done.touches.beside.region_len, c.self.invariant.1), c.self.invariant.2)

pub returns : goal.returns
returns g c =
    (kept_open g (goal.at.returns g c).In-NoMemory).1

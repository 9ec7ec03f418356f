use Rattle.std.proofs.Common.{◌≡◌, ℕ, ◌≤◌, ◌++◌, ◌∷◌, [], List, drop, length, take, Ok, Err, true, false, refl, sym, subst, ap, ◌∙◌, arith}
use Rattle.std.specs.Prelude.{IsErrOf}
use Rattle.fine_model.specs.declared.Header.{Header}
use Rattle.fine_model.specs.declared.Part.{Part}
use Rattle.fine_model.specs.ChainLaws.{part_of}
use Rattle.fine_model.specs.Regions.{header_of}
use Rattle.log_disk.specs.declared.refusal.DiskRefusal.{DiskRefusal}
use Rattle.epoch_room.specs.Gathering.{GathersYoung, gathered_part, range_over, retire_all, young_at}
use Rattle.epoch_room.specs.Value.{RoomValue, value_of}
use Rattle.epoch_room.specs.Youngest.{CanSealYoung, SealsYoung}
use Rattle.epoch_room.specs.declared.answers.RoomFault.TheVariants as room_fault
use Rattle.epoch_room.proofs.OpenEpochs.Behind.{does_none, is_failed, is_no_memory, not_failed, not_failed_ok}
use Rattle.epoch_room.proofs.Inside.{Ends, ends, kept_in, no_memory, room_in}
use Rattle.epoch_room.proofs.Young.YoungKept.{CanGather, bytes_fit, lost_is, no_eye, retired_room, there}
use Rattle.epoch_room.proofs.Young.YoungParts.{AreTwo, AreYoungAt, are_young}
use Rattle.epoch_room.proofs.Young.YoungRooms.{gathered_whole, gathers_lost, gathers_none, gathers_ok, gathers_still, lost_whole, still_whole}
use Rattle.epoch_room.proofs.Young.YoungTold.{can_gather, same_header, two, were_gathered}
use Rattle.epoch_room.proofs.room.Room.seal_young.Given.{Over}
use Rattle.epoch_room.proofs.room.Room.seal_young.Goals.{After-as_slice, After-region_len-region_len, In-NoMemory}
use Rattle.epoch_room.proofs.room.Room.seal_young.Goals as goal

-- the room was open, and what is asked, of the fields
early : (g : Over) (c : After-region_len-region_len g) → c.self.inside.is_shut ≡ false
early g c = ap (λ (v : RoomValue). v.room.is_shut) c.self.view_is ∙ c.requires.open_room

asked : (g : Over) (c : After-as_slice g) → CanSealYoung (room_in g.D.LogDisk.state c.self.inside) c.args.at c.args.region c.args.gathered.now
asked g c = subst (λ (v : RoomValue). CanSealYoung v c.args.at c.args.region c.args.gathered.now) (sym c.self.view_is) c.requires

-- the parts from the place on
abbrev found : (g : Over) (c : After-as_slice g) → AreTwo (drop c.args.at c.self.inside.parts)
found g c = two (g.D.LogDisk.state c.self.inside.disk) (g.D.LogDisk.state c.self.inside.entry.value) (kept_in c.self.inside) c.self.invariant.0 c.args.at c.args.region c.args.gathered.now (asked g c)

-- what is sealed are their rows
can : (g : Over) (c : After-as_slice g)
    → CanGather (g.D.LogDisk.state c.self.inside.disk) (g.D.LogDisk.state c.self.inside.entry.value) (kept_in c.self.inside) (take c.args.at c.self.inside.parts) (found g c).oldest (found g c).newer c.args.region
    (drop 1 c.self.inside.free) (asked g c).gathers.rows c.as_slice.result.now
can g c =
    can_gather (g.D.LogDisk.state c.self.inside.disk) (g.D.LogDisk.state c.self.inside.entry.value) (kept_in c.self.inside) c.self.invariant.0 c.args.at c.args.region c.args.gathered.now (asked g c) c.at.result.now
    c.region_len-region_len.result c.as_slice-bytes.result.now c.as_slice-keys.result.now c.in_ok-partition.partition c.as_slice.result.now c.at.ensures c.region_len-region_len.ensures.region_len c.as_slice-bytes.ensures.value c.as_slice-keys.ensures.value
    c.in_ok-partition.ensures c.as_slice.ensures.value

header_is : (g : Over) (c : After-as_slice g)
    → c.in_ok-partition.partition.header ≡ header_of (range_over (found g c).oldest (found g c).newer) (asked g c).gathers.rows
header_is g c =
    same_header (g.D.LogDisk.state c.self.inside.disk) (g.D.LogDisk.state c.self.inside.entry.value) (kept_in c.self.inside) c.self.invariant.0 c.args.at c.args.region c.args.gathered.now (asked g c) c.at.result.now
    c.region_len-region_len.result c.as_slice-bytes.result.now c.as_slice-keys.result.now c.in_ok-partition.partition c.as_slice.result.now c.at.ensures c.region_len-region_len.ensures.region_len c.as_slice-bytes.ensures.value c.as_slice-keys.ensures.value
    c.in_ok-partition.ensures c.as_slice.ensures.value

pub returns-in_err-partition : goal.returns-in_err-partition
returns-in_err-partition g c from is =
    no_memory (GathersYoung from c.args.self.now c.args.self.now) c.from_residual.result c.from_residual.ensures.1
    (subst (λ (v : RoomValue). GathersYoung from v v (Err room_fault.NoMemory)) c.self.view_is (gathers_still from (room_in g.D.LogDisk.state c.self.inside) (Err room_fault.NoMemory) c.self.invariant.0 (does_none _ c.self.invariant.0 (early g (goal.at.returns-in_err-partition g c).After-region_len-region_len))))

pub seal_region-requires-clause-there : goal.seal_region-requires-clause-there
seal_region-requires-clause-there g c κs within = there _ _ _ _ _ _ _ _ _ _ (can g (goal.at.seal_region-requires-clause-there g c).After-as_slice)

pub seal_region-requires-clause-within : goal.seal_region-requires-clause-within
seal_region-requires-clause-within g c κs within = bytes_fit _ _ _ _ _ _ _ _ _ _ (can g (goal.at.seal_region-requires-clause-within g c).After-as_slice)

pub seal_region-requires-clause-unseen : goal.seal_region-requires-clause-unseen
seal_region-requires-clause-unseen g c κs within = no_eye _ _ _ _ _ _ _ _ _ _ (can g (goal.at.seal_region-requires-clause-unseen g c).After-as_slice)

pub replace_young-requires-clause-room : goal.replace_young-requires-clause-room
replace_young-requires-clause-room g c =
    let at = goal.at.replace_young-requires-clause-room g c in
    let room = retired_room _ _ _ _ _ _ _ _ _ _ (can g at.After-as_slice) in
    let most = c.self.invariant.2 in
    let long = ap (λ (ps : List Part). length ps) (found g at.After-as_slice).is in
    omega (arith, room, most, long)

-- the part stands in place of those
sealed : (g : Over) (c : goal.After-drop-partition g)
    → Ends (λ v w. SealsYoung c.args.at v w (Ok true)) c.args.self.now
    (room_in g.D.LogDisk.state (record c.self.inside { disk = c.seal_region.new.disk; parts = c.replace_young.new.parts; retired = c.replace_young.new.retired; free = c.take_lowest-taken.new.self }))
sealed g c =
    let at = goal.at.returns-in-Ok g c in
    let can' = can g at.After-as_slice in
    let two' = found g at.After-as_slice in
    let new = g.D.LogDisk.state c.seal_region.new.disk in
    let e = c.seal_region.ensures in
    let parts : c.replace_young.new.parts ≡ take c.args.at c.self.inside.parts ++ gathered_part c.args.region two'.oldest two'.newer (asked g at.After-as_slice).gathers.rows ∷ [] =
    c.replace_young.ensures.parts ∙ ap (λ (h : Header). take c.args.at c.self.inside.parts ++ part_of c.args.region h ∷ []) (header_is g at.After-as_slice) in
    let young : (from : ℕ) → c.args.at ≡ young_at from c.self.inside.parts → AreYoungAt from c.self.inside.parts c.args.at =
    λ from is. subst (AreYoungAt from c.self.inside.parts) (sym is) (are_young from c.self.inside.parts) in
    let retired : c.replace_young.new.retired.items ≡ retire_all (two'.oldest ∷ two'.newer) c.self.inside.retired.items = c.replace_young.ensures.retired ∙ ap (λ (ps : List Part). retire_all ps c.self.inside.retired.items) two'.is in
    ends (λ v w. SealsYoung c.args.at v w (Ok true)) c.self.view_is
    (λ i. value_of new (g.D.LogDisk.state c.self.inside.entry.value) (record (kept_in c.self.inside) { parts = parts i; retired = retired i; free = c.take_lowest-taken.ensures.left i }))
    (gathered_whole _ _ _ _ _ _ _ _ _ _ can' _ e.touches.beside e.touches.sound e.touches.time (IsErrOf c.seal_region.result DiskRefusal.Failed) e.touches.counts e.read e.leaves c.in-Ok.ensures.synced c.in-Ok.ensures.bytes, λ from is. gathers_ok _ _ _ _ _ _ _ _ _ _ can' _ e.touches.beside e.touches.sound e.touches.time (IsErrOf c.seal_region.result DiskRefusal.Failed) e.touches.counts e.read e.leaves c.in-Ok.ensures.synced c.in-Ok.ensures.bytes (not_failed_ok c.seal_region.result c.in-Ok.is) from ((young from is).young two'.oldest two'.newer two'.is) (young from is).older)

pub invariant_of-self : goal.invariant_of-self
invariant_of-self g c = ((sealed g c).0, c.self.invariant.1 ∙ sym c.seal_region.ensures.touches.beside.region_len, subst (λ n. 64 ≤ n) (sym c.replace_young.ensures.capacity) c.self.invariant.2)

pub returns-in-Ok : goal.returns-in-Ok
returns-in-Ok g c = (sealed g c).1

-- the disk failed: the region is lost
lost : (g : Over) (c : goal.After-drop-partition-in-Failed g)
    → Ends (λ v w. SealsYoung c.args.at v w (Err room_fault.Disk)) c.args.self.now
    (room_in g.D.LogDisk.state (record c.self.inside { disk = c.seal_region.new.disk; free = c.take_lowest-taken-in-Failed.new.self; lost = c.of-self-inside.result; is_shut = true }))
lost g c =
    let at = goal.at.returns-in-Failed g c in
    let can' = can g at.After-as_slice in
    let e = c.seal_region.ensures in
    let failed = is_failed c.seal_region.result c.in-Err.refusal c.in-Err.is c.in-Failed.is in
    let lost : c.of-self-inside.result ≡ c.args.region ∷ [] = c.of-self-inside.ensures ∙ lost_is _ _ _ _ _ _ _ _ _ _ can' in
    ends (λ v w. SealsYoung c.args.at v w (Err room_fault.Disk)) c.self.view_is
    (λ i. value_of (g.D.LogDisk.state c.seal_region.new.disk) (g.D.LogDisk.state c.self.inside.entry.value) (record (kept_in c.self.inside) { free = c.take_lowest-taken-in-Failed.ensures.left i; lost = lost i; is_shut = true }))
    (lost_whole _ _ _ _ _ _ _ _ _ _ can' _ e.touches.beside e.touches.sound e.touches.time (IsErrOf c.seal_region.result DiskRefusal.Failed) e.touches.counts e.read e.leaves failed, λ from is. gathers_lost _ _ _ _ _ _ _ _ _ _ can' _ e.touches.beside e.touches.sound e.touches.time (IsErrOf c.seal_region.result DiskRefusal.Failed) e.touches.counts e.read e.leaves failed from (were_gathered _ _ _ _ (asked g at.After-as_slice) from is) (e.unsynced failed))

pub invariant_of-self-in-Failed : goal.invariant_of-self-in-Failed
invariant_of-self-in-Failed g c = ((lost g c).0, c.self.invariant.1 ∙ sym c.seal_region.ensures.touches.beside.region_len, c.self.invariant.2)

pub returns-in-Failed : goal.returns-in-Failed
returns-in-Failed g c = (lost g c).1

-- no memory: the region is free still
kept_free : (g : Over) (c : In-NoMemory g) → Ends (λ v w. SealsYoung c.args.at v w (Err room_fault.NoMemory)) c.args.self.now (room_in g.D.LogDisk.state (record c.self.inside { disk = c.seal_region.new.disk }))
kept_free g c =
    let at = goal.at.invariant_of-self-in-NoMemory g c in
    let can' = can g at.After-as_slice in
    let e = c.seal_region.ensures in
    let none = is_no_memory c.seal_region.result c.in-Err.refusal c.in-Err.is c.in-NoMemory.is in
    ends (λ v w. SealsYoung c.args.at v w (Err room_fault.NoMemory)) c.self.view_is
    refl
    (still_whole _ _ _ _ _ _ _ _ _ _ can' _ e.touches.beside e.touches.sound e.touches.time (IsErrOf c.seal_region.result DiskRefusal.Failed) e.touches.counts e.read e.leaves (e.no_memory none) (e.untouched none) e.touches.dirties, λ from is. gathers_none _ _ _ _ _ _ _ _ _ _ can' _ e.touches.beside e.touches.sound e.touches.time (IsErrOf c.seal_region.result DiskRefusal.Failed) e.touches.counts e.read e.leaves (e.no_memory none) (e.untouched none) (not_failed c.seal_region.result none) from)

pub invariant_of-self-in-NoMemory : goal.invariant_of-self-in-NoMemory
invariant_of-self-in-NoMemory g c = ((kept_free g c).0, c.self.invariant.1 ∙ sym c.seal_region.ensures.touches.beside.region_len, c.self.invariant.2)

pub returns : goal.returns
returns g c = (kept_free g (goal.at.returns g c).In-NoMemory).1

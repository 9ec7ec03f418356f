use Rattle.std.proofs.Common.{◌≡◌, ◌<◌, List, length, Ok, Err, false, true, refl, sym, subst, ap, ◌∙◌}
use Rattle.fine_model.specs.declared.Part.{Part}
use Rattle.fine_model.proofs.Ordered.Zip.{all_left}
use Rattle.log_disk.specs.Disk.{Disk}
use Rattle.partition_index.specs.Parts.{LiesIn}
use Rattle.epoch_room.specs.Gathering.{DeclinesYoung, GathersYoung, young_at}
use Rattle.epoch_room.specs.Value.{RoomValue, value_of}
use Rattle.epoch_room.specs.declared.answers.RoomFault.TheVariants as room_fault
use Rattle.epoch_room.proofs.OpenEpochs.Behind.{does_none}
use Rattle.epoch_room.proofs.Inside.{kept_in, room_in}
use Rattle.epoch_room.proofs.Views.Viewed.{failed_whole, live_below}
use Rattle.epoch_room.proofs.Young.YoungParts.{all_behind, all_from, leads_below}
use Rattle.epoch_room.proofs.Young.YoungRooms.{gathers_still, gathers_unread}
use Rattle.epoch_room.proofs.Young.YoungTold.{none_free, not_gathered, read_all, read_failed, read_none, too_few}
use Rattle.epoch_room.proofs.room.Room.gather_young.Given.{Over}
use Rattle.epoch_room.proofs.room.Room.gather_young.Goals.{Else-self, In-Ok}
use Rattle.epoch_room.proofs.room.Room.gather_young.Goals as goal

-- nothing was changed
same : (g : Over) (c : Else-self g) → DeclinesYoung c.args.from (room_in g.D.LogDisk.state c.self.inside) → GathersYoung c.args.from (room_in g.D.LogDisk.state c.self.inside) (room_in g.D.LogDisk.state c.self.inside) (Ok false)
same g c why = gathers_still c.args.from (room_in g.D.LogDisk.state c.self.inside) (Ok false) c.self.invariant.0 (c.if-self.false, refl, why)

none : (g : Over) (c : Else-self g) → GathersYoung c.args.from (room_in g.D.LogDisk.state c.self.inside) (room_in g.D.LogDisk.state c.self.inside) (Err room_fault.NoMemory)
none g c = gathers_still c.args.from (room_in g.D.LogDisk.state c.self.inside) (Err room_fault.NoMemory) c.self.invariant.0 (does_none _ c.self.invariant.0 c.if-self.false)

-- all was read, and the disk is as it was
still : (g : Over) (c : In-Ok g) → g.D.LogDisk.state c.gather.new.disk ≡ g.D.LogDisk.state c.self.inside.disk
still g c = read_all c.gather.result c.in-Ok.found (g.D.LogDisk.state c.self.inside.disk) (g.D.LogDisk.state c.gather.new.disk) c.gather.ensures.disk c.in-Ok.is

pub returns-then-self : goal.returns-then-self
returns-then-self g c =
    subst (λ (v : RoomValue). GathersYoung c.args.from v v (Err (room_fault.Shut c.self.inside.sealed))) c.self.view_is
    (gathers_still c.args.from (room_in g.D.LogDisk.state c.self.inside) (Err (room_fault.Shut c.self.inside.sealed)) c.self.invariant.0 (c.if-self.true, refl, refl))

pub returns-in_default : goal.returns-in_default
returns-in_default g c = subst (λ (v : RoomValue). GathersYoung c.args.from v v (Ok false)) c.self.view_is
    (same g (goal.at.returns-in_default g c).Else-self (none_free (room_in g.D.LogDisk.state c.self.inside) c.args.from c.self.inside.free c.lowest.result refl c.lowest.ensures.lowest c.in_default.is))

pub returns-then-parts-at-lt2 : goal.returns-then-parts-at-lt2
returns-then-parts-at-lt2 g c = subst (λ (v : RoomValue). GathersYoung c.args.from v v (Ok false)) c.self.view_is
    (same g (goal.at.returns-then-parts-at-lt2 g c).Else-self (too_few (room_in g.D.LogDisk.state c.self.inside) c.args.from _ c.young_at-at.result (ap (λ (ps : List Part). length ps) c.as_slice-parts.ensures) (c.young_at-at.ensures.at ∙ ap (young_at c.args.from) c.as_slice-parts.ensures) c.if-parts-at-lt2.true))

pub gather-requires-clause-lie : goal.gather-requires-clause-lie
gather-requires-clause-lie g c κs within =
    let len = (g.D.LogDisk.state c.self.inside.disk).region_len in
    all_from (λ (p : Part). LiesIn len p.header) c.self.inside.parts c.as_slice-parts.result.now c.young_at-at.result c.as_slice-parts.ensures
    (all_left (λ (p : Part). LiesIn len p.header) c.self.inside.parts c.self.inside.retired.items c.self.invariant.0.lie)

pub gather-requires-clause-there : goal.gather-requires-clause-there
gather-requires-clause-there g c κs within =
    let disk = g.D.LogDisk.state c.self.inside.disk in
    all_from (λ (p : Part). p.region < disk.regions) c.self.inside.parts c.as_slice-parts.result.now c.young_at-at.result c.as_slice-parts.ensures
    (leads_below disk.regions c.self.inside.parts (live_below disk (g.D.LogDisk.state c.self.inside.entry.value) (kept_in c.self.inside) c.self.invariant.0))

pub invariant_of-self-in-Failed : goal.invariant_of-self-in-Failed
invariant_of-self-in-Failed g c =
    let fails = read_failed c.gather.result c.in-Err.refusal (g.D.LogDisk.state c.self.inside.disk) (g.D.LogDisk.state c.gather.new.disk) c.gather.ensures.disk c.in-Err.is c.in-Failed.is in
    (failed_whole (g.D.LogDisk.state c.self.inside.disk) _ (g.D.LogDisk.state c.self.inside.entry.value) (kept_in c.self.inside) c.self.invariant.0 c.if-self.false fails, c.self.invariant.1 ∙ sym fails.beside.region_len, c.self.invariant.2)

pub returns-in-Failed : goal.returns-in-Failed
returns-in-Failed g c =
    let fails = read_failed c.gather.result c.in-Err.refusal (g.D.LogDisk.state c.self.inside.disk) (g.D.LogDisk.state c.gather.new.disk) c.gather.ensures.disk c.in-Err.is c.in-Failed.is in
    subst (λ (v : RoomValue). GathersYoung c.args.from v (room_in g.D.LogDisk.state (record c.self.inside { disk = c.gather.new.disk; is_shut = true })) (Err room_fault.Disk)) c.self.view_is
    (gathers_unread (g.D.LogDisk.state c.self.inside.disk) _ (g.D.LogDisk.state c.self.inside.entry.value) (kept_in c.self.inside) c.self.invariant.0 c.if-self.false fails c.args.from)

pub returns-in-Some-found : goal.returns-in-Some-found
returns-in-Some-found g c =
    let at = goal.at.returns-in-Some-found g c in
    subst (λ (v : RoomValue). GathersYoung c.args.from v c.seal_young.new.self c.seal_young.result)
    (ap (λ (d : Disk). value_of d (g.D.LogDisk.state c.self.inside.entry.value) (kept_in c.self.inside)) (still g at.In-Ok) ∙ c.self.view_is) (c.seal_young.ensures c.args.from (c.young_at-at.ensures.at ∙ ap (young_at c.args.from) c.as_slice-parts.ensures))

pub returns-in-None : goal.returns-in-None
returns-in-None g c =
    let at = goal.at.returns-in-None g c in
    subst (λ (v : RoomValue). GathersYoung c.args.from v (room_in g.D.LogDisk.state (record c.self.inside { disk = c.gather.new.disk })) (Ok false)) c.self.view_is
    (subst (λ (d : Disk). GathersYoung c.args.from (room_in g.D.LogDisk.state c.self.inside) (value_of d (g.D.LogDisk.state c.self.inside.entry.value) (kept_in c.self.inside)) (Ok false)) (sym (still g at.In-Ok)) (same g at.Else-self (not_gathered (room_in g.D.LogDisk.state c.self.inside) c.args.from c.young_at-at.result _ c.in-Ok.found (all_behind c.self.inside.parts c.as_slice-parts.result.now c.young_at-at.result c.as_slice-parts.ensures) (c.young_at-at.ensures.at ∙ ap (young_at c.args.from) c.as_slice-parts.ensures) c.in-None.is c.in-Ok.ensures.none)))

pub returns-in-NoMemory : goal.returns-in-NoMemory
returns-in-NoMemory g c =
    let at = goal.at.returns-in-NoMemory g c in
    let is = read_none c.gather.result c.in-Err.refusal (g.D.LogDisk.state c.self.inside.disk) (g.D.LogDisk.state c.gather.new.disk) c.gather.ensures.disk c.in-Err.is c.in-NoMemory.is in
    subst (λ (v : RoomValue). GathersYoung c.args.from v (room_in g.D.LogDisk.state (record c.self.inside { disk = c.gather.new.disk })) (Err room_fault.NoMemory)) c.self.view_is
    (subst (λ (d : Disk). GathersYoung c.args.from (room_in g.D.LogDisk.state c.self.inside) (value_of d (g.D.LogDisk.state c.self.inside.entry.value) (kept_in c.self.inside)) (Err room_fault.NoMemory)) (sym is) (none g at.Else-self))

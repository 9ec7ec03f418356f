use Rattle.std.proofs.Common.{◌<◌, List, Some, Ok, Err, refl, sym, subst, ap, ◌∙◌, true}
use Rattle.std.specs.Prelude.{All, Contains, slice_set}
use Rattle.std.specs.List.{AllByRecursion}
use Rattle.std.proofs.lemmas.List.Elements.{All-from_recursion}
use Rattle.fine_model.specs.Boards.{Buffer, buffer_at}
use Rattle.log_disk.specs.Disk.{Disk, OnlyFails, Opens}
use Rattle.log_disk.specs.declared.refusal.DiskRefusal.{DiskRefusal}
use Rattle.partition_index.specs.Parts.{IsSeen}
use Rattle.partition_hold.specs.Views.{ViewValue, opened}
use Rattle.epoch_room.specs.Value.{RoomValue, all_regions, value_of}
use Rattle.epoch_room.specs.Views.{MakesView}
use Rattle.epoch_room.specs.Whole.{IsWhole}
use Rattle.epoch_room.specs.declared.answers.RoomFault.TheVariants as room_fault
use Rattle.epoch_room.proofs.Counting.{live_have}
use Rattle.epoch_room.proofs.Views.Viewed.{failed_view, failed_whole, live_below, live_small, live_synced, makes_view, viewed_seen, viewed_small, viewed_whole, views_none}
use Rattle.epoch_room.proofs.Inside.{Ends, ends, kept_in, no_memory, room_in}
use Rattle.epoch_room.proofs.room.Room.make_view.Given.{Over}
use Rattle.epoch_room.proofs.room.Room.make_view.Goals.{Else-self, In-Failed, In-Ok}
use Rattle.epoch_room.proofs.room.Room.make_view.Goals as goal

-- no memory: the room is as it was
none : (g : Over) (c : Else-self g) → MakesView c.args.self.now c.args.self.now c.args.seat (Err room_fault.NoMemory)
none g c =
    let whole : IsWhole c.args.self.now = subst IsWhole c.self.view_is c.self.invariant.0 in
    views_none c.args.self.now c.args.seat room_fault.NoMemory whole (ap (λ (v : RoomValue). v.room.is_shut) (sym c.self.view_is) ∙ c.if-self.false, refl)

-- the eye is one of the regions of all live parts
opens : (g : Over) (c : In-Ok g) → Opens (all_regions c.self.inside.parts) (g.D.Eye.LogEye.state c.in-Ok.eye) (g.D.LogDisk.state c.self.inside.disk) (g.D.LogDisk.state c.eye.new.self)
opens g c = subst (λ rs. Opens rs (g.D.Eye.LogEye.state c.in-Ok.eye) (g.D.LogDisk.state c.self.inside.disk) (g.D.LogDisk.state c.eye.new.self)) (c.as_slice.ensures.value ∙ c.in_ok-regions.ensures) c.in-Ok.ensures.ok

-- the disk only failed
fails : (g : Over) (c : In-Failed g) → OnlyFails (g.D.LogDisk.state c.self.inside.disk) (g.D.LogDisk.state c.eye.new.self)
fails g c = c.in-Err.ensures.failed (ap (λ (r : DiskRefusal). Err r) c.in-Failed.is)

pub returns-then-self : goal.returns-then-self
returns-then-self g c =
    let whole : IsWhole c.args.self.now = subst IsWhole c.self.view_is c.self.invariant.0 in
    views_none c.args.self.now c.args.seat (room_fault.Shut c.self.inside.sealed) whole (ap (λ (v : RoomValue). v.room.is_shut) (sym c.self.view_is) ∙ c.if-self.true, ap (λ (v : RoomValue). v.room.sealed) c.self.view_is, refl)

pub returns-in_err-parts : goal.returns-in_err-parts
returns-in_err-parts g c =
    no_memory (MakesView c.args.self.now c.args.self.now c.args.seat) c.from_residual.result c.from_residual.ensures.1 (none g (goal.at.returns-in_err-parts g c).Else-self)

pub returns-in_err-regions : goal.returns-in_err-regions
returns-in_err-regions g c =
    no_memory (MakesView c.args.self.now c.args.self.now c.args.seat) c.from_residual-in_err-regions.result c.from_residual-in_err-regions.ensures.1 (none g (goal.at.returns-in_err-regions g c).Else-self)

pub all_regions-requires : goal.all_regions-requires
all_regions-requires g c = record { each = live_have _ c.self.invariant.0 }

pub eye-requires-clause-there : goal.eye-requires-clause-there
eye-requires-clause-there g c =
    let disk = g.D.LogDisk.state c.self.inside.disk in
    let below = live_below disk (g.D.LogDisk.state c.self.inside.entry.value) (kept_in c.self.inside) c.self.invariant.0 in
    subst (All (λ r. r < disk.regions)) (sym (c.as_slice.ensures.value ∙ c.in_ok-regions.ensures)) (All-from_recursion (λ r. r < disk.regions) (all_regions c.self.inside.parts) below)

pub eye-requires-clause-synced : goal.eye-requires-clause-synced
eye-requires-clause-synced g c =
    let disk = g.D.LogDisk.state c.self.inside.disk in
    subst (All (λ r. Contains disk.unsynced r → ⊥)) (sym (c.as_slice.ensures.value ∙ c.in_ok-regions.ensures)) (live_synced disk (g.D.LogDisk.state c.self.inside.entry.value) (kept_in c.self.inside) c.self.invariant.0 c.if-self.false)

pub post-buffer-requires-clause-regions : goal.post-buffer-requires-clause-regions
post-buffer-requires-clause-regions g c =
    subst (AllByRecursion (λ r. r < 64)) (sym (c.as_slice-in-Ok.ensures.value ∙ c.in_ok-regions.ensures)) (live_small (g.D.LogDisk.state c.self.inside.disk) (g.D.LogDisk.state c.self.inside.entry.value) (kept_in c.self.inside) c.self.invariant.0)

pub new-requires-clause-seen : goal.new-requires-clause-seen
new-requires-clause-seen g c =
    subst (AllByRecursion (IsSeen (g.D.Eye.LogEye.state c.in-Ok.eye))) (sym c.in_ok-parts.ensures)
    (viewed_seen _ _ (g.D.LogDisk.state c.self.inside.entry.value) (kept_in c.self.inside) c.self.invariant.0 c.if-self.false c.args.seat c.post-buffer.result (g.D.Eye.LogEye.state c.in-Ok.eye) (opens g (goal.at.new-requires-clause-seen g c).In-Ok) c.post-buffer.ensures.lowest)

pub new-requires-clause-small : goal.new-requires-clause-small
new-requires-clause-small g c =
    viewed_small _ _ (g.D.LogDisk.state c.self.inside.entry.value) (kept_in c.self.inside) c.self.invariant.0 c.if-self.false c.args.seat c.post-buffer.result (g.D.Eye.LogEye.state c.in-Ok.eye) (opens g (goal.at.new-requires-clause-small g c).In-Ok) c.post-buffer.ensures.lowest

-- the view that is made, and the room with its eye on the board
viewed : (g : Over) (c : goal.After-drop-regions g) → Ends (λ v w. MakesView v w c.args.seat (Ok c.new.result)) c.args.self.now (room_in g.D.LogDisk.state (record c.self.inside { disk = c.eye.new.self; board = c.post-buffer.new.self }))
viewed g c =
    let kept = kept_in c.self.inside in
    let opens = opens g (goal.at.returns-in-Ok g c).In-Ok in
    let lowest = c.post-buffer.ensures.lowest in
    let board : List Buffer = slice_set kept.board (buffer_at c.args.seat c.post-buffer.result) (Some (opened (g.D.Eye.LogEye.state c.in-Ok.eye))) in
    let made = c.new.ensures.made ∙ (λ i. record { eye = g.D.Eye.LogEye.state c.in-Ok.eye; parts = c.in_ok-parts.ensures i; upto = kept.sealed; seat = c.args.seat; buffer = c.post-buffer.result; region_len = c.region_len-region_len.ensures.region_len i }) in
    let shown = makes_view _ _ (g.D.LogDisk.state c.self.inside.entry.value) kept c.self.invariant.0 c.if-self.false c.args.seat c.post-buffer.result (g.D.Eye.LogEye.state c.in-Ok.eye) opens lowest in
    ends (λ v w. MakesView v w c.args.seat (Ok c.new.result)) c.self.view_is
    (λ i. value_of (g.D.LogDisk.state c.eye.new.self) (g.D.LogDisk.state c.self.inside.entry.value) (record kept { board = c.post-buffer.ensures.filled i }))
    (viewed_whole _ _ (g.D.LogDisk.state c.self.inside.entry.value) kept c.self.invariant.0 c.if-self.false c.args.seat c.post-buffer.result (g.D.Eye.LogEye.state c.in-Ok.eye) opens lowest, subst (λ (x : ViewValue). MakesView (room_in g.D.LogDisk.state c.self.inside) (value_of (g.D.LogDisk.state c.eye.new.self) (g.D.LogDisk.state c.self.inside.entry.value) (record kept { board = board })) c.args.seat (Ok x)) (sym made) shown)

pub invariant_of-self : goal.invariant_of-self
invariant_of-self g c = ((viewed g c).0, c.self.invariant.1 ∙ sym (opens g (goal.at.invariant_of-self g c).In-Ok).others.1, c.self.invariant.2)

pub returns-in-Ok : goal.returns-in-Ok
returns-in-Ok g c = (viewed g c).1

pub invariant_of-self-in-Failed : goal.invariant_of-self-in-Failed
invariant_of-self-in-Failed g c =
    let fails = fails g (goal.at.invariant_of-self-in-Failed g c).In-Failed in
    (failed_whole (g.D.LogDisk.state c.self.inside.disk) _ (g.D.LogDisk.state c.self.inside.entry.value) (kept_in c.self.inside) c.self.invariant.0 c.if-self.false fails, c.self.invariant.1 ∙ sym fails.beside.region_len, c.self.invariant.2)

pub returns-in-Failed : goal.returns-in-Failed
returns-in-Failed g c =
    subst (λ (v : RoomValue). MakesView v (room_in g.D.LogDisk.state (record c.self.inside { disk = c.eye.new.self; is_shut = true })) c.args.seat (Err room_fault.Disk)) c.self.view_is
    (failed_view (g.D.LogDisk.state c.self.inside.disk) _ (g.D.LogDisk.state c.self.inside.entry.value) (kept_in c.self.inside) c.self.invariant.0 c.if-self.false (fails g (goal.at.returns-in-Failed g c).In-Failed) c.args.seat)

pub returns : goal.returns
returns g c =
    let same = c.in-Err.ensures.no_memory (ap (λ (r : DiskRefusal). Err r) c.in-NoMemory.is) in
    subst (λ (v : RoomValue). MakesView c.args.self.now v c.args.seat (Err room_fault.NoMemory)) (sym (ap (λ (d : Disk). value_of d (g.D.LogDisk.state c.self.inside.entry.value) (kept_in c.self.inside)) same ∙ c.self.view_is)) (none g (goal.at.returns g c).Else-self)

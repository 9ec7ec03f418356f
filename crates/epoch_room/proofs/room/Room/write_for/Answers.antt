use Rattle.std.proofs.Common.{◌≡◌, ◌++◌, Err, Ok, Some, length, sym, subst, ap, ◌∙◌, arith, true}
use Rattle.fine_model.specs.Boards.{set_of}
use Rattle.epoch_room.specs.MergeSteps.{WritesJob, touched, written_on}
use Rattle.epoch_room.specs.Value.{RoomValue}
use Rattle.epoch_room.specs.Whole.{IsWhole}
use Rattle.epoch_room.specs.declared.answers.RoomFault.TheVariants as room_fault
use Rattle.epoch_room.proofs.OpenEpochs.Behind.{is_failed, is_no_memory}
use Rattle.epoch_room.proofs.Merges.Written.{body_fits, moved, none_lost, ok_whole, own_place, own_small, own_taken, shut_whole, writes_disk, writes_memory, writes_none, writes_ok}
use Rattle.epoch_room.proofs.Inside.{kept_in, room_in}
use Rattle.epoch_room.proofs.room.Room.write_for.Given.{Over}
use Rattle.epoch_room.proofs.room.Room.write_for.Goals.{After-lose_touched, Else-self}
use Rattle.epoch_room.proofs.room.Room.write_for.Goals as goal

-- the job is the one that is out
out : (g : Over) (c : Else-self g) → c.self.inside.job ≡ Some c.args.job.now
out g c = ap (λ (v : RoomValue). v.room.job) c.self.view_is ∙ c.requires.out

-- the regions of what was being written are lost, and no others
lost : (g : Over) (c : After-lose_touched g) → c.self.inside.job ≡ Some c.args.job.now → c.lose_touched.new.lost ≡ set_of (touched (g.D.LogDisk.state c.self.inside.disk).region_len c.args.job.now c.args.header (length c.args.bytes.now))
lost g c out =
    let job = c.args.job.now in
    let header = c.args.header in
    let many = length c.args.bytes.now in
    let none = none_lost (g.D.LogDisk.state c.self.inside.disk) (g.D.LogDisk.state c.self.inside.entry.value) (kept_in c.self.inside) c.self.invariant.0 c.if-self.false job out header c.requires.taken in
    c.lose_touched.ensures ∙ ap (λ l. set_of (l ++ touched c.region_len-region_len.result job header many)) none
    ∙ ap (λ n. set_of (touched n job header many)) (c.region_len-region_len.ensures.region_len ∙ c.write_body.ensures.beside.region_len)

pub returns-then-self : goal.returns-then-self
returns-then-self g c =
    let whole : IsWhole c.args.self.now = subst IsWhole c.self.view_is c.self.invariant.0 in
    let sealed : c.args.self.now.room.sealed ≡ c.self.inside.sealed = ap (λ (v : RoomValue). v.room.sealed) (sym c.self.view_is) in
    subst (λ epoch. WritesJob c.args.bytes.now c.args.self.now c.args.self.now c.args.job.now c.args.job.now c.args.header (Err (room_fault.Shut epoch))) sealed
    (writes_none c.args.bytes.now c.args.self.now c.args.job.now c.args.header whole c.requires.out (ap (λ (v : RoomValue). v.room.is_shut) (sym c.self.view_is) ∙ c.if-self.true))

pub write_body-requires-clause-place : goal.write_body-requires-clause-place
write_body-requires-clause-place g c κs within =
    own_place _ _ (kept_in c.self.inside) c.self.invariant.0 c.if-self.false c.args.job.now (out g (goal.at.write_body-requires-clause-place g c).Else-self) c.args.header c.requires.taken

pub overflow_add-job : goal.overflow_add-job
overflow_add-job g c =
    let fits = body_fits c.args.job.now.written (length c.args.bytes.now) (g.D.LogDisk.state c.self.inside.disk).region_len c.args.header (own_taken _ _ (kept_in c.self.inside) c.self.invariant.0 c.if-self.false c.args.job.now (out g (goal.at.overflow_add-job g c).Else-self) c.args.header c.requires.taken).lies c.requires.within in
    omega (arith, fits)

pub invariant_of-self : goal.invariant_of-self
invariant_of-self g c =
    (ok_whole _ _ (kept_in c.self.inside) c.self.invariant.0 c.if-self.false c.args.job.now (out g (goal.at.invariant_of-self g c).Else-self) c.args.header c.requires.taken c.args.bytes.now c.requires.within _ c.write_body.result c.write_body.ensures, c.self.invariant.1 ∙ sym c.write_body.ensures.beside.region_len, c.self.invariant.2)

pub lose_touched-requires-clause-small : goal.lose_touched-requires-clause-small
lose_touched-requires-clause-small g c =
    own_small _ _ (kept_in c.self.inside) c.self.invariant.0 c.if-self.false c.args.job.now (out g (goal.at.lose_touched-requires-clause-small g c).Else-self) c.args.header c.requires.taken

pub invariant_of-self-in-Failed : goal.invariant_of-self-in-Failed
invariant_of-self-in-Failed g c =
    (shut_whole _ _ (kept_in c.self.inside) c.self.invariant.0 c.if-self.false c.args.job.now (out g (goal.at.invariant_of-self-in-Failed g c).Else-self) c.args.header c.requires.taken c.args.bytes.now c.requires.within _ c.write_body.result c.write_body.ensures (is_failed c.write_body.result c.in-Err.refusal c.in-Err.is c.in-Failed.is) c.lose_touched.new.lost (lost g (goal.at.invariant_of-self-in-Failed g c).After-lose_touched (out g (goal.at.invariant_of-self-in-Failed g c).Else-self)), c.self.invariant.1 ∙ sym c.write_body.ensures.beside.region_len, c.self.invariant.2)

pub invariant_of-self-in-NoMemory : goal.invariant_of-self-in-NoMemory
invariant_of-self-in-NoMemory g c =
    (moved _ _ (kept_in c.self.inside) c.self.invariant.0 c.if-self.false c.args.job.now (out g (goal.at.invariant_of-self-in-NoMemory g c).Else-self) c.args.header c.requires.taken c.args.bytes.now c.requires.within _ c.write_body.result c.write_body.ensures, c.self.invariant.1 ∙ sym c.write_body.ensures.beside.region_len, c.self.invariant.2)

pub returns-in-Ok : goal.returns-in-Ok
returns-in-Ok g c =
    subst (λ (v : RoomValue). WritesJob c.args.bytes.now v (room_in g.D.LogDisk.state (record c.self.inside { disk = c.write_body.new.disk; job = Some (written_on c.args.job.now (length c.args.bytes.now)) })) c.args.job.now (written_on c.args.job.now (length c.args.bytes.now)) c.args.header (Ok tt)) c.self.view_is
    (writes_ok _ _ (kept_in c.self.inside) c.self.invariant.0 c.if-self.false c.args.job.now (out g (goal.at.returns-in-Ok g c).Else-self) c.args.header c.requires.taken c.args.bytes.now c.requires.within _ c.write_body.result c.write_body.ensures c.in-Ok.field-0 c.in-Ok.is)

pub returns-in-Failed : goal.returns-in-Failed
returns-in-Failed g c =
    subst (λ (v : RoomValue). WritesJob c.args.bytes.now v (room_in g.D.LogDisk.state (record c.self.inside { disk = c.write_body.new.disk; lost = c.lose_touched.new.lost; is_shut = true })) c.args.job.now c.args.job.now c.args.header (Err room_fault.Disk)) c.self.view_is
    (writes_disk _ _ (kept_in c.self.inside) c.self.invariant.0 c.if-self.false c.args.job.now (out g (goal.at.returns-in-Failed g c).Else-self) c.args.header c.requires.taken c.args.bytes.now c.requires.within _ c.write_body.result c.write_body.ensures (is_failed c.write_body.result c.in-Err.refusal c.in-Err.is c.in-Failed.is) c.lose_touched.new.lost (lost g (goal.at.returns-in-Failed g c).After-lose_touched (out g (goal.at.returns-in-Failed g c).Else-self)))

pub returns-in-NoMemory : goal.returns-in-NoMemory
returns-in-NoMemory g c =
    subst (λ (v : RoomValue). WritesJob c.args.bytes.now v (room_in g.D.LogDisk.state (record c.self.inside { disk = c.write_body.new.disk })) c.args.job.now c.args.job.now c.args.header (Err room_fault.NoMemory)) c.self.view_is
    (writes_memory _ _ (kept_in c.self.inside) c.self.invariant.0 c.if-self.false c.args.job.now (out g (goal.at.returns-in-NoMemory g c).Else-self) c.args.header c.requires.taken c.args.bytes.now c.requires.within _ c.write_body.result c.write_body.ensures (is_no_memory c.write_body.result c.in-Err.refusal c.in-Err.is c.in-NoMemory.is))

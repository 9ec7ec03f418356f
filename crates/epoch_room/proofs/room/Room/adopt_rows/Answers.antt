use Rattle.std.proofs.Common.{◌≡◌, ◌+◌, ◌-◌, ◌*◌, ◌≤◌, ◌++◌, ◌∷◌, [], ℕ, Some, Ok, Err, Result, true, take, refl, sym, subst, ap, ◌∙◌, arith}
use Rattle.std.specs.Prelude.{IsErrOf, OnOk}
use Rattle.fine_model.specs.declared.Mark.TheVariants as mark
use Rattle.fine_model.specs.Boards.{set_of}
use Rattle.fine_model.specs.Merge.{regions_for}
use Rattle.log_disk.specs.Disk.{BothTold}
use Rattle.log_disk.specs.declared.refusal.DiskRefusal.{DiskRefusal}
use Rattle.log_partition.proofs.RowsRead.{lengths}
use Rattle.epoch_room.specs.Adopting.{Adoption}
use Rattle.epoch_room.specs.RowWrites.{HasPart}
use Rattle.epoch_room.specs.Value.{RoomValue, value_of}
use Rattle.epoch_room.specs.Whole.{IsWhole}
use Rattle.epoch_room.specs.declared.answers.AdoptFault.TheVariants as adopt_fault
use Rattle.epoch_room.specs.declared.answers.RoomFault.TheVariants as room_fault
use Rattle.epoch_room.proofs.Adopting.Adopted.{adoption_memory, adoption_none, adoption_ok, adoption_shut, whole_memory, whole_ok, whole_shut}
use Rattle.epoch_room.proofs.Adopting.AdoptedParts.{CanAdopt, back, cost_small, least, none_lost, part_added, part_made, part_place}
use Rattle.epoch_room.proofs.OpenEpochs.Behind.{does_none, is_failed, is_no_memory, not_failed_ok, popped}
use Rattle.epoch_room.proofs.Merges.LongBodies.{is_err_then, not_err}
use Rattle.epoch_room.proofs.Inside.{Ends, ends, kept_in, room_in}
use Rattle.epoch_room.proofs.room.Room.adopt_rows.Given.{Over}
use Rattle.epoch_room.proofs.room.Room.adopt_rows.Goals.{After-truncate, Else-len-from}
use Rattle.epoch_room.proofs.room.Room.adopt_rows.Goals as goal

-- the rows may be taken in, over so many regions
can : (g : Over) (c : Else-len-from g) → CanAdopt (g.D.LogDisk.state c.self.inside.disk) (g.D.LogDisk.state c.self.inside.entry.value) (kept_in c.self.inside) c.args.range c.args.rows.now c.in-Some.regions
can g c = record {
  whole = c.self.invariant.0;
  open_room = c.if-self.false;
  no_job = ap (λ (v : RoomValue). v.room.job) c.self.view_is ∙ c.requires.no_job;
  none = ap (λ (v : RoomValue). v.room.places) c.self.view_is ∙ c.requires.none;
  next = c.requires.next ∙ ap (λ (v : RoomValue). v.room.sealed + 1) (sym c.self.view_is);
  order = c.requires.order;
  high = c.requires.high;
  ordered = c.requires.ordered;
  fit = c.requires.rows;
  needed = sym (c.regions_for.ensures c.args.rows.now c.encoded_len-len.ensures ∙ ap (λ n. regions_for n c.args.rows.now) c.region_len-region_len.ensures.region_len) ∙ c.in-Some.is;
  enough = omega (arith, c.if-len-from.false, c.len.ensures.count, c.from.ensures);
}

-- the parts are those before, once the new one is taken off
cut : (g : Over) (c : After-truncate g) → c.truncate.new.self ≡ c.self.inside.parts
cut g c = popped c.self.inside.parts c.push.new.self c.truncate.new.self c.part_over-part.result c.len-in-Err.result (not_err c.push.result (sym c.is_err.ensures.value ∙ c.if-is_err.false) c.push.ensures.ok) c.len-in-Err.ensures c.truncate.ensures

pub returns-then-self : goal.returns-then-self
returns-then-self g c =
    let whole : IsWhole c.args.self.now = subst IsWhole c.self.view_is c.self.invariant.0 in
    adoption_none c.args.self.now c.args.range c.args.rows.now (adopt_fault.Room (room_fault.Shut c.self.inside.sealed)) whole
    (ap (λ (v : RoomValue). v.room.is_shut) (sym c.self.view_is) ∙ c.if-self.true, ap (λ (v : RoomValue). v.room.sealed) c.self.view_is, refl)

pub returns-in_default : goal.returns-in_default
returns-in_default g c =
    let range = c.args.range in
    let rows = c.args.rows.now in
    let len = c.region_len-region_len.ensures.region_len in
    let found = c.regions_for.ensures rows c.encoded_len-len.ensures ∙ ap (λ n. regions_for n rows) len in
    subst (λ (v : RoomValue). Adoption range rows v v (Err (adopt_fault.TooLarge c.need_of.result c.room_of_most.result))) c.self.view_is
    (adoption_none (room_in g.D.LogDisk.state c.self.inside) range rows (adopt_fault.TooLarge c.need_of.result c.room_of_most.result) c.self.invariant.0
    (c.if-self.false, sym found ∙ c.in_default.is, c.need_of.ensures rows c.encoded_len-len.ensures, c.room_of_most.ensures ∙ ap (λ n. n + 7 * (n - 1)) len, refl))

pub returns-then-len-from : goal.returns-then-len-from
returns-then-len-from g c =
    let range = c.args.range in
    let rows = c.args.rows.now in
    let found = c.regions_for.ensures rows c.encoded_len-len.ensures ∙ ap (λ n. regions_for n rows) c.region_len-region_len.ensures.region_len in
    let few : c.len-then-len-from.result ≤ c.from-then-len-from.result = omega (arith, c.if-len-from.true, c.len.ensures.count, c.from.ensures, c.len-then-len-from.ensures.count, c.from-then-len-from.ensures) in
    subst (λ (v : RoomValue). Adoption range rows v v (Err (adopt_fault.Full c.len-then-len-from.result c.from-then-len-from.result))) c.self.view_is
    (adoption_none (room_in g.D.LogDisk.state c.self.inside) range rows (adopt_fault.Full c.len-then-len-from.result c.from-then-len-from.result) c.self.invariant.0
    (c.if-self.false, sym found ∙ c.in-Some.is ∙ ap (λ (n : ℕ). Some n) (sym c.from-then-len-from.ensures), c.len-then-len-from.ensures.count, few, refl))

pub part_over-part-requires-clause-some : goal.part_over-part-requires-clause-some
part_over-part-requires-clause-some g c =
    let can = can g (goal.at.part_over-part-requires-clause-some g c).Else-len-from in
    (least _ _ _ _ _ _ can).0

pub part_over-part-requires-clause-most : goal.part_over-part-requires-clause-most
part_over-part-requires-clause-most g c =
    let can = can g (goal.at.part_over-part-requires-clause-most g c).Else-len-from in
    let l = (least _ _ _ _ _ _ can).1 in
    omega (arith, l)

pub part_over-part-requires-clause-fit : goal.part_over-part-requires-clause-fit
part_over-part-requires-clause-fit g c =
    lengths mark.Two c.args.rows.now c.requires.rows

pub part_over-part-requires-clause-len : goal.part_over-part-requires-clause-len
part_over-part-requires-clause-len g c =
    let can = can g (goal.at.part_over-part-requires-clause-len g c).Else-len-from in
    let s = cost_small _ _ _ _ _ _ can in
    omega (arith, c.encoded_len-len.ensures, s)

pub part_over-part-requires-clause-small : goal.part_over-part-requires-clause-small
part_over-part-requires-clause-small g c =
    let can = can g (goal.at.part_over-part-requires-clause-small g c).Else-len-from in
    let s = cost_small _ _ _ _ _ _ can in
    omega (arith, s)

pub add_part-requires : goal.add_part-requires
add_part-requires g c = let adds = part_added _ _ _ _ _ _ (can g (goal.at.add_part-requires g c).Else-len-from) c.part_over-part.result c.part_over-part.ensures.part in record { has = adds.0; small = adds.1 }

pub add_part-requires-in-Failed : goal.add_part-requires-in-Failed
add_part-requires-in-Failed g c = let adds = part_added _ _ _ _ _ _ (can g (goal.at.add_part-requires-in-Failed g c).Else-len-from) c.part_over-part.result c.part_over-part.ensures.part in record { has = adds.0; small = adds.1 }

pub add_part-requires-in-NoMemory : goal.add_part-requires-in-NoMemory
add_part-requires-in-NoMemory g c = let adds = part_added _ _ _ _ _ _ (can g (goal.at.add_part-requires-in-NoMemory g c).Else-len-from) c.part_over-part.result c.part_over-part.ensures.part in record { has = adds.0; small = adds.1 }

-- no memory to keep the part: its regions are free again
none_kept : (g : Over) (c : goal.After-add_part g) → Ends (λ v w. Adoption c.args.range c.args.rows.now v w (Err (adopt_fault.Room room_fault.NoMemory))) c.args.self.now (room_in g.D.LogDisk.state (record c.self.inside { parts = c.push.new.self; free = c.add_part.new.set }))
none_kept g c =
    let in' = c.self.inside in
    let can = can g (goal.at.returns-then-is_err g c).Else-len-from in
    let own = part_made _ _ _ _ _ _ can c.part_over-part.result c.part_over-part.ensures.part in
    let same : c.push.new.self ≡ in'.parts = is_err_then c.push.result (sym c.is_err.ensures.value ∙ c.if-is_err.true) c.push.ensures.err in
    let freed : c.add_part.new.set ≡ in'.free = c.add_part.ensures ∙ (λ i. set_of (c.part_over-part.ensures.free i ++ own.regions_is i)) ∙ back _ _ _ _ _ _ can in
    ends (λ v w. Adoption c.args.range c.args.rows.now v w (Err (adopt_fault.Room room_fault.NoMemory))) c.self.view_is
    (λ i. room_in g.D.LogDisk.state (record in' { parts = same i; free = freed i }))
    (can.whole, adoption_none (room_in g.D.LogDisk.state in') c.args.range c.args.rows.now (adopt_fault.Room room_fault.NoMemory) can.whole (does_none _ can.whole can.open_room))

pub invariant_of-self : goal.invariant_of-self
invariant_of-self g c = ((none_kept g c).0, c.self.invariant.1, c.self.invariant.2)

pub returns-then-is_err : goal.returns-then-is_err
returns-then-is_err g c = (none_kept g c).1

pub seal_rows-requires-clause-place : goal.seal_rows-requires-clause-place
seal_rows-requires-clause-place g c κs within =
    let can = can g (goal.at.seal_rows-requires-clause-place g c).Else-len-from in
    let own = part_made _ _ _ _ _ _ can c.part_over-part.result c.part_over-part.ensures.part in
    part_place _ _ _ _ _ _ can _ own

pub seal_rows-requires-clause-counted : goal.seal_rows-requires-clause-counted
seal_rows-requires-clause-counted g c κs within =
    let can = can g (goal.at.seal_rows-requires-clause-counted g c).Else-len-from in
    let own = part_made _ _ _ _ _ _ can c.part_over-part.result c.part_over-part.ensures.part in
    own.counted

-- the part is live
taken_in : (g : Over) (c : goal.After-drop-self-inside g) → Ends (λ v w. Adoption c.args.range c.args.rows.now v w (Ok tt)) c.args.self.now (room_in g.D.LogDisk.state (record c.self.inside { disk = c.seal_rows.new.disk; entry = c.of.result; parts = c.push.new.self; free = c.part_over-part.new.free; sealed = c.args.range.last }))
taken_in g c =
    let in' = c.self.inside in
    let can = can g (goal.at.returns-in-Ok g c).Else-len-from in
    let own = part_made _ _ _ _ _ _ can c.part_over-part.result c.part_over-part.ensures.part in
    let new = g.D.LogDisk.state c.seal_rows.new.disk in
    let run = c.seal_rows.ensures in
    let synced : new.unsynced ≡ [] = subst (λ (r : Result (Unit {0}) DiskRefusal). OnOk r (new.unsynced ≡ [])) c.in-Ok.is run.synced in
    let sealed = subst (λ (r : Result (Unit {0}) DiskRefusal). OnOk r (BothTold (HasPart (g.D.LogDisk.state in'.disk).region_len c.part_over-part.result c.args.rows.now) (g.D.LogDisk.state in'.disk).told new.told)) c.in-Ok.is run.sealed in
    let pushed : c.push.new.self ≡ in'.parts ++ c.part_over-part.result ∷ [] = not_err c.push.result (sym c.is_err.ensures.value ∙ c.if-is_err.false) c.push.ensures.ok in
    ends (λ v w. Adoption c.args.range c.args.rows.now v w (Ok tt)) c.self.view_is
    (λ i. value_of new (g.D.LogDisk.state (c.of.ensures i)) (record (kept_in in') { parts = pushed i; free = c.part_over-part.ensures.free i; sealed = c.args.range.last }))
    (whole_ok _ _ _ _ _ _ _ can _ own _ run synced sealed, adoption_ok _ _ _ _ _ _ _ can _ own _ run synced sealed tt (not_failed_ok c.seal_rows.result c.in-Ok.is) c.part_over-part.ensures.part)

pub invariant_of-self-in-Ok : goal.invariant_of-self-in-Ok
invariant_of-self-in-Ok g c = let run = c.seal_rows.ensures in ((taken_in g c).0, omega (arith, run.beside.region_len, c.self.invariant.1), c.self.invariant.2)

pub returns-in-Ok : goal.returns-in-Ok
returns-in-Ok g c = (taken_in g c).1

-- the disk failed: its regions are lost
lost : (g : Over) (c : goal.After-self-in-Failed-1 g) → Ends (λ v w. Adoption c.args.range c.args.rows.now v w (Err (adopt_fault.Room room_fault.Disk))) c.args.self.now (room_in g.D.LogDisk.state (record c.self.inside { disk = c.seal_rows.new.disk; parts = c.truncate.new.self; free = c.part_over-part.new.free; lost = c.add_part-in-Failed.new.set; is_shut = true }))
lost g c =
    let can = can g (goal.at.returns-in-Failed g c).Else-len-from in
    let own = part_made _ _ _ _ _ _ can c.part_over-part.result c.part_over-part.ensures.part in
    let lost : c.add_part-in-Failed.new.set ≡ set_of (take c.in-Some.regions c.self.inside.free) = c.add_part-in-Failed.ensures ∙ (λ i. set_of (none_lost _ _ _ _ _ _ can i ++ own.regions_is i)) in
    let failed : IsErrOf c.seal_rows.result DiskRefusal.Failed = is_failed c.seal_rows.result c.in-Err.refusal c.in-Err.is c.in-Failed.is in
    ends (λ v w. Adoption c.args.range c.args.rows.now v w (Err (adopt_fault.Room room_fault.Disk))) c.self.view_is
    (λ i. room_in g.D.LogDisk.state (record c.self.inside { disk = c.seal_rows.new.disk; parts = cut g (goal.at.returns-in-Failed g c).After-truncate i; free = c.part_over-part.ensures.free i; lost = lost i; is_shut = true }))
    (whole_shut _ _ _ _ _ _ _ can _ own _ c.seal_rows.ensures failed, adoption_shut _ _ _ _ _ _ _ can _ own _ c.seal_rows.ensures failed)

pub invariant_of-self-in-Failed : goal.invariant_of-self-in-Failed
invariant_of-self-in-Failed g c = let run = c.seal_rows.ensures in ((lost g c).0, omega (arith, run.beside.region_len, c.self.invariant.1), c.self.invariant.2)

pub returns-in-Failed : goal.returns-in-Failed
returns-in-Failed g c = (lost g c).1

-- no memory to seal it: its regions are free again
given_back : (g : Over) (c : goal.After-add_part-in-NoMemory g) → Ends (λ v w. Adoption c.args.range c.args.rows.now v w (Err (adopt_fault.Room room_fault.NoMemory))) c.args.self.now (room_in g.D.LogDisk.state (record c.self.inside { disk = c.seal_rows.new.disk; parts = c.truncate.new.self; free = c.add_part-in-NoMemory.new.set }))
given_back g c =
    let can = can g (goal.at.returns-in-NoMemory g c).Else-len-from in
    let own = part_made _ _ _ _ _ _ can c.part_over-part.result c.part_over-part.ensures.part in
    let freed : c.add_part-in-NoMemory.new.set ≡ c.self.inside.free = c.add_part-in-NoMemory.ensures ∙ (λ i. set_of (c.part_over-part.ensures.free i ++ own.regions_is i)) ∙ back _ _ _ _ _ _ can in
    let none : IsErrOf c.seal_rows.result DiskRefusal.NoMemory = is_no_memory c.seal_rows.result c.in-Err.refusal c.in-Err.is c.in-NoMemory.is in
    ends (λ v w. Adoption c.args.range c.args.rows.now v w (Err (adopt_fault.Room room_fault.NoMemory))) c.self.view_is
    (λ i. room_in g.D.LogDisk.state (record c.self.inside { disk = c.seal_rows.new.disk; parts = cut g (goal.at.returns-in-NoMemory g c).After-truncate i; free = freed i }))
    (whole_memory _ _ _ _ _ _ _ can _ own _ c.seal_rows.ensures none, adoption_memory _ _ _ _ _ _ _ can _ own _ c.seal_rows.ensures none)

pub invariant_of-self-in-NoMemory : goal.invariant_of-self-in-NoMemory
invariant_of-self-in-NoMemory g c = let run = c.seal_rows.ensures in ((given_back g c).0, omega (arith, run.beside.region_len, c.self.invariant.1), c.self.invariant.2)

pub returns-in-NoMemory : goal.returns-in-NoMemory
returns-in-NoMemory g c = (given_back g c).1

use Rattle.std.proofs.Common.{◌≡◌, Err, None, refl, false, sym, subst, ap, ◌∙◌}
use Rattle.fine_model.specs.Boards.{naming_of}
use Rattle.epoch_room.specs.Value.{RoomValue}
use Rattle.epoch_room.specs.Whole.{IsWhole}
use Rattle.epoch_room.specs.declared.answers.EraseFault.TheVariants as erase_fault
use Rattle.epoch_room.proofs.OpenEpochs.Behind.{is_failed, is_no_memory}
use Rattle.epoch_room.proofs.Erasures.Led.{erases_disk, erases_memory, erases_none, lead_small}
use Rattle.epoch_room.proofs.room.Room.erase_part.Goals as goal

pub returns-then-self : goal.returns-then-self
returns-then-self g c =
    let whole : IsWhole c.args.self.now = subst IsWhole c.self.view_is c.self.invariant.0 in
    erases_none c.args.region c.args.self.now (Err (erase_fault.Shut c.self.inside.sealed)) whole
    (ap (λ (v : RoomValue). v.room.is_shut) (sym c.self.view_is) ∙ c.if-self.true, ap (λ (v : RoomValue). v.room.sealed) c.self.view_is, refl)

pub names-requires : goal.names-requires
names-requires g c = lead_small c.args.self.now (subst IsWhole c.self.view_is c.self.invariant.0) c.args.region c.requires.retired

pub returns-in-Some : goal.returns-in-Some
returns-in-Some g c =
    let whole : IsWhole c.args.self.now = subst IsWhole c.self.view_is c.self.invariant.0 in
    let open_room : c.args.self.now.room.is_shut ≡ false = ap (λ (v : RoomValue). v.room.is_shut) (sym c.self.view_is) ∙ c.if-self.false in
    erases_none c.args.region c.args.self.now (Err (erase_fault.Held c.in-Some.seat c.in-Some.buffer)) whole
    (open_room, ap (λ (v : RoomValue). naming_of v.room.board c.args.region) (sym c.self.view_is) ∙ sym c.names.ensures ∙ c.in-Some.is, refl)

pub returns-in-Failed : goal.returns-in-Failed
returns-in-Failed g c =
    let unnamed : naming_of c.args.self.now.room.board c.args.region ≡ None = ap (λ (v : RoomValue). naming_of v.room.board c.args.region) (sym c.self.view_is) ∙ sym c.names.ensures ∙ c.in_default.is in
    erases_disk c.args.region c.args.self.now c.erase_led.new.self c.erase_led.result c.erase_led.ensures unnamed (is_failed c.erase_led.result c.in-Err.refusal c.in-Err.is c.in-Failed.is)

pub returns-in-NoMemory : goal.returns-in-NoMemory
returns-in-NoMemory g c =
    let open_room : c.args.self.now.room.is_shut ≡ false = ap (λ (v : RoomValue). v.room.is_shut) (sym c.self.view_is) ∙ c.if-self.false in
    let unnamed : naming_of c.args.self.now.room.board c.args.region ≡ None = ap (λ (v : RoomValue). naming_of v.room.board c.args.region) (sym c.self.view_is) ∙ sym c.names.ensures ∙ c.in_default.is in
    erases_memory c.args.region c.args.self.now c.erase_led.new.self c.erase_led.result c.erase_led.ensures unnamed open_room (is_no_memory c.erase_led.result c.in-Err.refusal c.in-Err.is c.in-NoMemory.is)

use Rattle.std.proofs.Common.{◌≡◌, ◌<◌, ◌==◌, List, length, None, true, refl, sym, subst, ap, ◌∙◌, arith}
use Rattle.std.specs.List.{AllByRecursion, list_any}
use Rattle.fine_model.specs.declared.Part.{Part}
use Rattle.fine_model.specs.Boards.{naming_of}
use Rattle.epoch_room.specs.Erasing.{unheld, unheld_of}
use Rattle.epoch_room.specs.Value.{RoomValue}
use Rattle.epoch_room.specs.Whole.{IsWhole}
use Rattle.epoch_room.specs.declared.answers.RoomFault.TheVariants as room_fault
use Rattle.epoch_room.proofs.Erasures.AllErased.{all_disk, all_less, all_memory, all_none, all_ok, leads_small, unheld_few, unheld_lead, unheld_unnamed}
use Rattle.epoch_room.proofs.OpenEpochs.Behind.{is_failed, is_no_memory}
use Rattle.epoch_room.proofs.room.Room.erase_unheld.Goals as goal

pub returns-then-self : goal.returns-then-self
returns-then-self g c =
    let whole : IsWhole c.args.self.now = subst IsWhole c.self.view_is c.self.invariant.0 in
    all_none c.args.self.now (room_fault.Shut c.self.inside.sealed) whole (ap (λ (v : RoomValue). v.room.is_shut) (sym c.self.view_is) ∙ c.if-self.true, ap (λ (v : RoomValue). v.room.sealed) c.self.view_is, refl)

pub unheld_leads-requires : goal.unheld_leads-requires
unheld_leads-requires g c = record { small = subst (λ (ps : List Part). AllByRecursion (λ p. p.region < 64) ps) (sym c.as_slice.ensures.value) (leads_small _ c.self.invariant.0) }

pub returns-in_default : goal.returns-in_default
returns-in_default g c = all_memory c.args.self.now (subst IsWhole c.self.view_is c.self.invariant.0) (ap (λ (v : RoomValue). v.room.is_shut) (sym c.self.view_is) ∙ c.if-self.false)

pub erase_led-requires-clause-retired : goal.erase_led-requires-clause-retired
erase_led-requires-clause-retired g c κs within =
    let room = c.args.self.now.room in
    let are : c.as_slice-2.result.now ≡ unheld room = c.as_slice-2.ensures.value ∙ c.in-Ok.ensures ∙ ap (λ (ps : List Part). unheld_of c.self.inside.board ps) c.as_slice.ensures.value ∙ ap (λ (v : RoomValue). unheld v.room) c.self.view_is in
    subst (AllByRecursion (λ r. list_any (λ p. p.region == r) room.retired ≡ true)) (sym are) (unheld_lead room.board room.retired)

pub erase_led-requires-clause-unnamed : goal.erase_led-requires-clause-unnamed
erase_led-requires-clause-unnamed g c κs within =
    let room = c.args.self.now.room in
    let are : c.as_slice-2.result.now ≡ unheld room = c.as_slice-2.ensures.value ∙ c.in-Ok.ensures ∙ ap (λ (ps : List Part). unheld_of c.self.inside.board ps) c.as_slice.ensures.value ∙ ap (λ (v : RoomValue). unheld v.room) c.self.view_is in
    subst (AllByRecursion (λ r. naming_of room.board r ≡ None)) (sym are) (unheld_unnamed room.board room.retired)

pub overflow_cast-result : goal.overflow_cast-result
overflow_cast-result g c =
    let room = c.args.self.now.room in
    let are : c.as_slice-2.result.now ≡ unheld room = c.as_slice-2.ensures.value ∙ c.in-Ok.ensures ∙ ap (λ (ps : List Part). unheld_of c.self.inside.board ps) c.as_slice.ensures.value ∙ ap (λ (v : RoomValue). unheld v.room) c.self.view_is in
    let many : c.len.result ≡ length c.as_slice-2.result.now = c.len.ensures ∙ sym c.as_slice-2.ensures.len in
    let few = unheld_few c.args.self.now (subst IsWhole c.self.view_is c.self.invariant.0) in
    let as_many = ap length are in
    omega (arith, many, as_many, few)

pub returns-in-Ok-erase_led : goal.returns-in-Ok-erase_led
returns-in-Ok-erase_led g c =
    let room = c.args.self.now.room in
    let are : c.as_slice-2.result.now ≡ unheld room = c.as_slice-2.ensures.value ∙ c.in-Ok.ensures ∙ ap (λ (ps : List Part). unheld_of c.self.inside.board ps) c.as_slice.ensures.value ∙ ap (λ (v : RoomValue). unheld v.room) c.self.view_is in
    let many : c.len.result ≡ length c.as_slice-2.result.now = c.len.ensures ∙ sym c.as_slice-2.ensures.len in
    let open_room = ap (λ (v : RoomValue). v.room.is_shut) (sym c.self.view_is) ∙ c.if-self.false in
    all_ok c.as_slice-2.result.now c.args.self.now c.erase_led.new.self c.erase_led.result are c.erase_led.ensures open_room c.len.result many c.in-Ok-erase_led.is

pub returns-in-Failed : goal.returns-in-Failed
returns-in-Failed g c =
    let room = c.args.self.now.room in
    let are : c.as_slice-2.result.now ≡ unheld room = c.as_slice-2.ensures.value ∙ c.in-Ok.ensures ∙ ap (λ (ps : List Part). unheld_of c.self.inside.board ps) c.as_slice.ensures.value ∙ ap (λ (v : RoomValue). unheld v.room) c.self.view_is in
    let open_room = ap (λ (v : RoomValue). v.room.is_shut) (sym c.self.view_is) ∙ c.if-self.false in
    all_disk c.as_slice-2.result.now c.args.self.now c.erase_led.new.self c.erase_led.result are c.erase_led.ensures open_room (is_failed c.erase_led.result c.in-Err.refusal c.in-Err.is c.in-Failed.is)

pub returns : goal.returns
returns g c =
    let room = c.args.self.now.room in
    let are : c.as_slice-2.result.now ≡ unheld room = c.as_slice-2.ensures.value ∙ c.in-Ok.ensures ∙ ap (λ (ps : List Part). unheld_of c.self.inside.board ps) c.as_slice.ensures.value ∙ ap (λ (v : RoomValue). unheld v.room) c.self.view_is in
    let open_room = ap (λ (v : RoomValue). v.room.is_shut) (sym c.self.view_is) ∙ c.if-self.false in
    all_less c.as_slice-2.result.now c.args.self.now c.erase_led.new.self c.erase_led.result are c.erase_led.ensures open_room (is_no_memory c.erase_led.result c.in-Err.refusal c.in-Err.is c.in-NoMemory.is)

use Rattle.std.proofs.Common.{◌≡◌, ◌<◌, ◌≤◌, ◌==◌, ◌++◌, List, None, true, false, take, sym, subst, ap, ◌∙◌}
use Rattle.std.specs.List.{AllByRecursion, list_any}
use Rattle.fine_model.specs.declared.Part.{Part}
use Rattle.fine_model.specs.Boards.{naming_of, posted, set_of}
use Rattle.fine_model.specs.Chain.{regions_of}
use Rattle.log_disk.specs.Disk.{Disk}
use Rattle.epoch_room.specs.Erasing.{ErasesLed, led_by}
use Rattle.epoch_room.specs.Value.{RoomValue, all_regions, value_of}
use Rattle.epoch_room.specs.Whole.{HasRegions, IsWhole}
use Rattle.epoch_room.proofs.Counting.{retired_have}
use Rattle.epoch_room.proofs.Erasures.Erasing.{NamesNone, leads_below, leads_unseen, names_none}
use Rattle.epoch_room.proofs.Erasures.Led.{free_ordered, led_failed, led_fine, led_none, lost_ordered, retired_parts_small, whole_failed, whole_fine}
use Rattle.epoch_room.proofs.Inside.{Ends, ends, kept_in, room_in}
use Rattle.epoch_room.proofs.room.Room.erase_led.Given.{Over}
use Rattle.epoch_room.proofs.room.Room.erase_led.Goals.{After-self}
use Rattle.epoch_room.proofs.room.Room.erase_led.Goals as goal

-- the room is open, and the leads are those of retired parts, which no view names
open_room : (g : Over) (c : After-self g) → c.self.inside.is_shut ≡ false
open_room g c = ap (λ (v : RoomValue). v.room.is_shut) c.self.view_is ∙ c.requires.open_room

lead : (g : Over) (c : After-self g) → AllByRecursion (λ r. list_any (λ p. p.region == r) c.self.inside.retired.items ≡ true) c.args.leads.now
lead g c = subst (λ (v : RoomValue). AllByRecursion (λ r. list_any (λ p. p.region == r) v.room.retired ≡ true) c.args.leads.now) (sym c.self.view_is) c.requires.retired

unnamed : (g : Over) (c : After-self g) → NamesNone c.args.leads.now (posted c.self.inside.board)
unnamed g c = names_none c.self.inside.board c.args.leads.now (subst (λ (v : RoomValue). AllByRecursion (λ r. naming_of v.room.board r ≡ None) c.args.leads.now) (sym c.self.view_is) c.requires.unnamed)

pub close_gates-begun-requires-clause-there : goal.close_gates-begun-requires-clause-there
close_gates-begun-requires-clause-there g c κs within =
    let at = (goal.at.close_gates-begun-requires-clause-there g c).After-self in
    leads_below (g.D.LogDisk.state c.self.inside.disk) (g.D.LogDisk.state c.self.inside.entry.value) (kept_in c.self.inside) c.self.invariant.0 (open_room g at) c.args.leads.now (lead g at)

pub close_gates-begun-requires-clause-unseen : goal.close_gates-begun-requires-clause-unseen
close_gates-begun-requires-clause-unseen g c κs within =
    let at = (goal.at.close_gates-begun-requires-clause-unseen g c).After-self in
    leads_unseen (g.D.LogDisk.state c.self.inside.disk) (g.D.LogDisk.state c.self.inside.entry.value) (kept_in c.self.inside) c.self.invariant.0 (open_room g at) c.args.leads.now (lead g at) (unnamed g at)

pub returns-then-begun-eq0 : goal.returns-then-begun-eq0
returns-then-begun-eq0 g c =
    let none : c.close_gates-begun.result.0 ≡ 0 = c.if-begun-eq0.true in
    let same : (g.D.LogDisk.state c.close_gates-begun.new.disk) ≡ (g.D.LogDisk.state c.self.inside.disk) = c.close_gates-begun.ensures.gates.none none in
    subst (λ (v : RoomValue). ErasesLed c.args.leads.now c.args.self.now v c.close_gates-begun.result.1) (sym (ap (λ (d : Disk). value_of d (g.D.LogDisk.state c.self.inside.entry.value) (kept_in c.self.inside)) same ∙ c.self.view_is))
    (led_none c.args.self.now c.args.leads.now c.close_gates-begun.result.0 c.close_gates-begun.result.1 (g.D.LogDisk.state c.self.inside.disk) (g.D.LogDisk.state c.close_gates-begun.new.disk) (subst IsWhole c.self.view_is c.self.invariant.0) c.close_gates-begun.ensures none)

pub add_led-requires-clause-each : goal.add_led-requires-clause-each
add_led-requires-clause-each g c =
    subst (AllByRecursion HasRegions) (sym c.as_slice.ensures.value) (retired_have _ c.self.invariant.0)

pub add_led-requires-clause-small : goal.add_led-requires-clause-small
add_led-requires-clause-small g c =
    subst (AllByRecursion (λ p. AllByRecursion (λ region. region < 64) (regions_of p))) (sym c.as_slice.ensures.value) (retired_parts_small _ c.self.invariant.0)

pub add_led-requires-clause-ordered : goal.add_led-requires-clause-ordered
add_led-requires-clause-ordered g c =
    lost_ordered _ c.self.invariant.0 (open_room g (goal.at.add_led-requires-clause-ordered g c).After-self)

-- the disk failed: the regions of the parts that were begun are lost
failed : (g : Over) (c : goal.After-self-1 g) → Ends (λ v w. ErasesLed c.args.leads.now v w c.close_gates-begun.result.1) c.args.self.now (room_in g.D.LogDisk.state (record c.self.inside { disk = c.close_gates-begun.new.disk; retired = c.keep_others.new.parts; lost = c.add_led.new.set; is_shut = true }))
failed g c =
    let at = (goal.at.returns-then-has_failed g c).After-self in
    let begun = take c.close_gates-begun.result.0 c.args.leads.now in
    let lost : c.add_led.new.set ≡ set_of (c.self.inside.lost ++ all_regions (led_by begun c.self.inside.retired.items)) = c.add_led.ensures ∙ ap (λ (ps : List Part). set_of (c.self.inside.lost ++ all_regions (led_by begun ps))) c.as_slice.ensures.value in
    ends (λ v w. ErasesLed c.args.leads.now v w c.close_gates-begun.result.1) c.self.view_is
    (λ i. value_of (g.D.LogDisk.state c.close_gates-begun.new.disk) (g.D.LogDisk.state c.self.inside.entry.value) (record (kept_in c.self.inside) { retired = c.keep_others.ensures.others i; lost = lost i; is_shut = true }))
    (whole_failed (g.D.LogDisk.state c.self.inside.disk) (g.D.LogDisk.state c.self.inside.entry.value) (kept_in c.self.inside) c.self.invariant.0 (open_room g at) c.args.leads.now (lead g at) (unnamed g at) (g.D.LogDisk.state c.close_gates-begun.new.disk) c.close_gates-begun.result.0 c.close_gates-begun.result.1 c.close_gates-begun.ensures c.if-begun-eq0.false (c.has_failed.ensures.yes c.if-has_failed.true), led_failed (g.D.LogDisk.state c.self.inside.disk) (g.D.LogDisk.state c.self.inside.entry.value) (kept_in c.self.inside) c.self.invariant.0 (open_room g at) c.args.leads.now (lead g at) (unnamed g at) (g.D.LogDisk.state c.close_gates-begun.new.disk) c.close_gates-begun.result.0 c.close_gates-begun.result.1 c.close_gates-begun.ensures c.if-begun-eq0.false (c.has_failed.ensures.yes c.if-has_failed.true))

pub invariant_of-self-then-has_failed : goal.invariant_of-self-then-has_failed
invariant_of-self-then-has_failed g c = ((failed g c).0, c.self.invariant.1 ∙ sym c.close_gates-begun.ensures.gates.touches.beside.region_len, subst (λ n. 64 ≤ n) (sym c.keep_others.ensures.capacity) c.self.invariant.2)

pub returns-then-has_failed : goal.returns-then-has_failed
returns-then-has_failed g c = (failed g c).1

pub add_led-requires-2-clause-each : goal.add_led-requires-2-clause-each
add_led-requires-2-clause-each g c =
    subst (AllByRecursion HasRegions) (sym c.as_slice-2.ensures.value) (retired_have _ c.self.invariant.0)

pub add_led-requires-2-clause-small : goal.add_led-requires-2-clause-small
add_led-requires-2-clause-small g c =
    subst (AllByRecursion (λ p. AllByRecursion (λ region. region < 64) (regions_of p))) (sym c.as_slice-2.ensures.value) (retired_parts_small _ c.self.invariant.0)

pub add_led-requires-2-clause-ordered : goal.add_led-requires-2-clause-ordered
add_led-requires-2-clause-ordered g c =
    free_ordered _ c.self.invariant.0

-- their regions are free
erased : (g : Over) (c : goal.After-keep_others-2 g) → Ends (λ v w. ErasesLed c.args.leads.now v w c.close_gates-begun.result.1) c.args.self.now (room_in g.D.LogDisk.state (record c.self.inside { disk = c.close_gates-begun.new.disk; retired = c.keep_others-2.new.parts; free = c.add_led-2.new.set }))
erased g c =
    let at = (goal.at.returns g c).After-self in
    let begun = take c.close_gates-begun.result.0 c.args.leads.now in
    let free : c.add_led-2.new.set ≡ set_of (c.self.inside.free ++ all_regions (led_by begun c.self.inside.retired.items)) = c.add_led-2.ensures ∙ ap (λ (ps : List Part). set_of (c.self.inside.free ++ all_regions (led_by begun ps))) c.as_slice-2.ensures.value in
    ends (λ v w. ErasesLed c.args.leads.now v w c.close_gates-begun.result.1) c.self.view_is
    (λ i. value_of (g.D.LogDisk.state c.close_gates-begun.new.disk) (g.D.LogDisk.state c.self.inside.entry.value) (record (kept_in c.self.inside) { retired = c.keep_others-2.ensures.others i; free = free i }))
    (whole_fine (g.D.LogDisk.state c.self.inside.disk) (g.D.LogDisk.state c.self.inside.entry.value) (kept_in c.self.inside) c.self.invariant.0 (open_room g at) c.args.leads.now (lead g at) (unnamed g at) (g.D.LogDisk.state c.close_gates-begun.new.disk) c.close_gates-begun.result.0 c.close_gates-begun.result.1 c.close_gates-begun.ensures c.if-begun-eq0.false (c.has_failed.ensures.no c.if-has_failed.false), led_fine (g.D.LogDisk.state c.self.inside.disk) (g.D.LogDisk.state c.self.inside.entry.value) (kept_in c.self.inside) c.self.invariant.0 (open_room g at) c.args.leads.now (lead g at) (unnamed g at) (g.D.LogDisk.state c.close_gates-begun.new.disk) c.close_gates-begun.result.0 c.close_gates-begun.result.1 c.close_gates-begun.ensures c.if-begun-eq0.false (c.has_failed.ensures.no c.if-has_failed.false))

pub invariant_of-self-2 : goal.invariant_of-self-2
invariant_of-self-2 g c = ((erased g c).0, c.self.invariant.1 ∙ sym c.close_gates-begun.ensures.gates.touches.beside.region_len, subst (λ n. 64 ≤ n) (sym c.keep_others-2.ensures.capacity) c.self.invariant.2)

pub returns : goal.returns
returns g c = (erased g c).1

use Rattle.std.proofs.Common.{◌≡◌, ◌<◌, drop, take}
use Rattle.std.specs.List.{AllByRecursion}
use Rattle.epoch_room.specs.Erasing.{unheld_of}
use Rattle.epoch_room.proofs.led_parts.unheld_leads.Given as goal

-- the leads of the parts so far, and what holds of those that are left
abbrev pub invariant-loop-part : goal.invariant-loop-part
invariant-loop-part g l = record { small : AllByRecursion (λ p. p.region < 64) (drop l.part-index l.parts); leads : l.leads.items ≡ unheld_of l.board (take l.part-index l.parts) }

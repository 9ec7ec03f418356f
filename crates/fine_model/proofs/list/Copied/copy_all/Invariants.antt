use Rattle.std.proofs.Common.{◌≡◌, take}
use Rattle.fine_model.proofs.list.Copied.copy_all.Given as goal

-- what was copied so far
abbrev pub invariant-loop-item : goal.invariant-loop-item
invariant-loop-item g l = l.copies.items ≡ take l.item-index l.items

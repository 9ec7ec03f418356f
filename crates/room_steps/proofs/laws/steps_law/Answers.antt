use Rattle.room_steps.proofs.Merges.{merges_stay}
use Rattle.room_steps.proofs.Telling.{told_still, told_with}
use Rattle.room_steps.proofs.laws.steps_law.Goals as goal

pub returns : goal.returns
returns c = record { merges = merges_stay; still = told_still; fault = told_with }

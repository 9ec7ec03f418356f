use Rattle.log_disk.specs.Eyes.{numbers_to}
use Rattle.log_disk.proofs.Numbers.{numbered_none}
use Rattle.log_disk.proofs.eyes.OpenEyes.none.Goals as goal

pub returns-clause-numbered : goal.returns-clause-numbered
returns-clause-numbered c = rw c.new.ensures.items (numbered_none (numbers_to 0))

use Rattle.std.proofs.Common.{◌∙◌}
use Rattle.log_disk.proofs.Seeing.{opens_open, closable}
use Rattle.log_disk_tests.proofs.tests.look.Goals as goal

pub close-requires : goal.close-requires
close-requires c = closable c.read-in-Ok.new.self.eye (opens_open c.in-Ok.ensures.ok) (c.read-in-Ok.ensures.looks.same.0 ∙ c.read.ensures.looks.same.0)

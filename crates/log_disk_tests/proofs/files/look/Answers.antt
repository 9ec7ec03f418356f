use Rattle.log_disk.proofs.Seeing.{opens_open, closable}
use Rattle.log_disk_tests.proofs.files.look.Goals as goal

pub close-requires : goal.close-requires
close-requires c = closable c.read-read.new.self.eye (opens_open c.in_ok-eye.ensures.ok) c.read-read.ensures.looks.same.0

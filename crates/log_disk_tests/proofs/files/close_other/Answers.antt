use Rattle.std.proofs.Common.{◌∙◌, sym}
use Rattle.log_disk.proofs.Seeing.{opens_open, closable}
use Rattle.log_disk_tests.proofs.files.close_other.Goals as goal

pub close-requires : goal.close-requires
close-requires c = closable c.in_ok-stranger.stranger.eye (opens_open c.in_ok-own.ensures.ok) (sym c.number.ensures ∙ c.if-is_alike.true ∙ c.number-2.ensures)

use Rattle.script_text.proofs.Telling.{text_tells}
use Rattle.script_text.proofs.NoFeedRuns.{run_tells, maps_stay}
use Rattle.script_text.proofs.report_law.text_law.Goals as goal

pub returns : goal.returns
returns c = record { text = text_tells; run = run_tells; maps = maps_stay }

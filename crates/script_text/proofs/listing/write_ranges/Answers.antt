use Rattle.script_text.proofs.Paging.{puts_all}
use Rattle.script_text.proofs.listing.write_ranges.Goals as goal

pub returns-clause-puts : goal.returns-clause-puts
returns-clause-puts g c = (puts_all _ _ _ _ _ _ _ _ c.new-page.ensures c.say_ranges.ensures c.finish.ensures).0

pub returns-clause-counts : goal.returns-clause-counts
returns-clause-counts g c = (puts_all _ _ _ _ _ _ _ _ c.new-page.ensures c.say_ranges.ensures c.finish.ensures).1

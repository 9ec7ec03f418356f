use Rattle.hall_rooms.proofs.Idle.{merges_idle, renews_idle, seals_idle, settles_idle, shows_idle, tries_idle}
use Rattle.hall_rooms.proofs.laws.idle_law.Goals as goal

pub returns : goal.returns
returns c = record { seals = seals_idle; shows = shows_idle; settles = settles_idle; merges = merges_idle; tries = tries_idle; renews = renews_idle }

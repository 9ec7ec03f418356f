-- A pass that held nothing before a turn holds nothing after it, and has no merge out.
use Rattle.std.proofs.Common.{◌≡◌, ◌∙◌, None, ap, sym}
use lib.ListN.{get_elem?}
use Rattle.fine_model.specs.declared.law.RoomState.{RoomState}
use Rattle.fine_model.specs.Jobs.{KeepsJob}
use Rattle.fine_hall.specs.declared.law.Beginning.{Beginning}
use Rattle.fine_hall.specs.Passes.{known, HoldsNothing, LacksJob}
use Rattle.fine_hall.proofs.Troubles.{sees_law}
use Rattle.partition_hold.specs.Views.{state_of}
use Rattle.hall_rooms.specs.Rooms.{RoomPass}
use Rattle.hall_rooms.specs.Turning.{SealsIdle, SettlesIdle, TakesTurn}
use Rattle.hall_rooms.specs.Posting.{ShowsIdle}
use Rattle.hall_rooms.specs.Merging.{MergesIdle}
use Rattle.hall_rooms.specs.Making.{RenewsIdle, TriesIdle}
use Rattle.hall_rooms.proofs.Left.{job_left, last_is}

idle : (x : Beginning) (found room : RoomState) (p p' : RoomPass) → p'.number ≡ p.number → TakesTurn x found None 0 room p p' → KeepsJob found room → (known p').held ≡ (known p).held → HoldsNothing p → LacksJob x p → HoldsNothing p' × LacksJob x p'
idle x found room p p' number t job held nothing lacks = (
  λ k low. ap (λ l. get_elem? l k) held ∙ nothing k low,
  job_left x found None 0 room p p' number t.one job lacks,
)

pub seals_idle : SealsIdle
seals_idle r x p p' number s nothing lacks = idle x s.found s.room p p' number s.turn s.job s.same_held nothing lacks

pub shows_idle : ShowsIdle
shows_idle r x p p' number s nothing lacks = idle x s.found s.room p p' number s.turn s.job s.same_held nothing lacks

pub settles_idle : SettlesIdle
settles_idle r x p p' number s nothing lacks = idle x s.found s.room p p' number s.turn s.job s.same_held nothing lacks

pub merges_idle : MergesIdle
merges_idle from r x p p' number s nothing lacks = idle x s.found.room s.room.room p p' number s.turn s.job s.same_held nothing lacks

pub tries_idle : TriesIdle
tries_idle x from r p p' number s nothing lacks = (
  λ k low. ap (λ l. get_elem? l k) s.turn.same_held ∙ nothing k low,
  λ one. ap (λ (r : RoomState). r.job) (last_is x s.found.room None 0 s.room.room p p' s.turn.one) ∙ s.no_job.1,
)

pub renews_idle : RenewsIdle
renews_idle x p p' lawful r nothing lacks = (
  λ k low. ap (λ l. get_elem? l k) r.same_held ∙ nothing k low,
  λ one. let was = sym r.number ∙ one in ((sees_law state_of).job x p p' lawful was r.sees).job ∙ lacks was,
)

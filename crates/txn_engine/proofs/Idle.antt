-- What a pass has out after a transaction, and when a transaction is open.
use Rattle.std.proofs.Common.{◌≡◌, ◌≢◌, ⊎_elim, ◌∙◌, None, sym, inl, subst, arith}
use Rattle.fine_places.specs.History as places
use Rattle.fine_places.proofs.Lists.{decide}
use Rattle.fine_model.proofs.Histories.Goings.{job_itself}
use Rattle.partition_hold.specs.Views.{state_of}
use Rattle.fine_hall.specs.Passes.{LacksPlace}
use Rattle.fine_hall.proofs.Troubles.{sees_law}
use Rattle.hall_rooms.proofs.Left.{job_left}
use Rattle.key_locks.proofs.Held.{far, held_alike}
use Rattle.txn_engine.specs.Laws.{AbortsIdle, BeginsLaw, CommitsIdle, RefusedJob, SeenLaw}
use Rattle.txn_engine.proofs.Open.{open_seen}
use Rattle.txn_engine.proofs.Releasing.{open_blank}

pub commits_idle : CommitsIdle
commits_idle x keep t t' p p' stamp number c lacks = (c.nothing, job_left x c.found _ stamp.epoch c.room p p' number c.turn.one c.job lacks)

pub refused_job : RefusedJob
refused_job x t t' p p' cause number r lacks = job_left x r.room None 0 r.room p p' number r.turn.one (job_itself r.room) lacks

pub aborts_idle : AbortsIdle
aborts_idle x keep t t' p p' number lawful a free lacks = (
  λ k low. ⊎_elim
      (λ (same : k ≡ places.room). subst (LacksPlace p') (sym same) (a.room ∙ free))
      (λ (other : k ≢ places.room). a.nothing k (far k (grind (arith, low, other))))
      (decide k places.room),
  λ one. let was = sym number ∙ one in ((sees_law state_of).job x p p' lawful was a.sees).job ∙ lacks was,
)

pub begins_law : BeginsLaw
begins_law x t p lane turn is none lawful free = open_blank x t p lane turn is lawful (λ k low. inl (none k low, free k low)) none

pub seen_law : SeenLaw
seen_law x t p p' sees before after held o = record { locks = held_alike t.locks p p' o.locks held; open_on = open_seen x p p' sees before after t.draft t.locks o.locks o.open_on }

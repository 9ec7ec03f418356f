-- An open transaction over a turn of its pass without an entry.
use Rattle.std.proofs.Common.{◌≡◌, ℕ, false, true, List, [], ◌∷◌, ◌++◌, None, refl, sym, ap, ◌∙◌, subst, append-nil}
use mathlib.Core.Option.{some}
use lib.ListN.{get_elem?}
use Rattle.fine_places.specs.declared.model.Placed.{Placed}
use Rattle.fine_places.specs.History as places
use Rattle.fine_model.specs.declared.law.RoomState.{RoomState}
use Rattle.fine_model.specs.History.{IsLegal}
use Rattle.fine_hall.specs.declared.turn.Turn.{Turn}
use Rattle.fine_hall.specs.Turns.{commits}
use Rattle.fine_hall.specs.Passes.{known, reads, turns, seen, published, HasPlace, LacksPlace}
use Rattle.fine_hall.specs.Halls.{SeesMore, turn_of}
use Rattle.fine_hall.proofs.Turning.{commits_one}
use Rattle.hall_rooms.specs.Rooms.{RoomPass}
use Rattle.hall_rooms.proofs.Left.{job_left, last_is}
use Rattle.key_locks.proofs.Held.{held_alike}
use Rattle.txn_engine.specs.Laws.{SealsLaw, SealsNoJob, ShowsLaw, ShowsNoJob, TriesLaw, TriesNoJob, TurnLaw}
use Rattle.txn_engine.specs.Txns.{IsOpenOn}
use Rattle.txn_engine.proofs.Open.{open_legal}

-- the pass as it is once it saw the turns of others, ahead of its own
between : RoomPass → List (Placed Turn) → ℕ → RoomPass
between p others number = record p { badge = record p.badge { views = record { places = record (known p) { seen = turns p ++ others; published = number }; beside = reads p } ∷ [] } }

not_both : (p : RoomPass) → LacksPlace p places.room → HasPlace p places.room → ⊥
not_both p off on = let e : some false ≡ some true = sym off ∙ on in cc

pub turn_law : TurnLaw
unfolding known between
turn_law x t p p' found room turn before after free o = record {
  locks = held_alike t.locks p p' o.locks (λ k low. ap (λ l. get_elem? l k) turn.same_held);
  open_on = subst (λ h. IsOpenOn x.log (published p') h t.draft t.locks) (sym same) (open_legal x p q sees before (λ e first began. subst (λ h. IsLegal first h) same (after.legal e first began)) t.draft t.locks o.locks o.open_on);
}
  where
    q : RoomPass
    q = between p turn.others (published p')

    sees : SeesMore p q
    sees = record { longer = (turn.others, refl, turn.not_own); same_own = refl; kept = turn.kept; whole = λ has. absurd (not_both p free has); no_earlier = turn.no_earlier }

    same : seen p' ≡ commits (turns p ++ turn.others)
    same = ap commits turn.turns_more ∙ (commits_one (turns p ++ turn.others) (record { seat = p.number; item = turn_of None 0 room turn.returned }) ∙ append-nil (commits (turns p ++ turn.others)))

pub seals_law : SealsLaw
seals_law x t p p' r s = turn_law x t p p' s.found s.room (record { one = s.turn.one; same_held = s.same_held })

pub shows_law : ShowsLaw
shows_law x t p p' r s = turn_law x t p p' s.found s.room (record { one = s.turn.one; same_held = s.same_held })

pub tries_law : TriesLaw
tries_law x t p p' from r m = turn_law x t p p' m.found.room m.room.room m.turn

-- ---- the merge that is out

pub tries_no_job : TriesNoJob
tries_no_job x p p' from r m one = ap (λ (r : RoomState). r.job) (last_is x m.found.room None 0 m.room.room p p' m.turn.one) ∙ m.no_job.1

pub seals_no_job : SealsNoJob
seals_no_job x p p' r number s lacks = job_left x s.found None 0 s.room p p' number s.turn.one s.job lacks

pub shows_no_job : ShowsNoJob
shows_no_job x p p' r number s lacks = job_left x s.found None 0 s.room p p' number s.turn.one s.job lacks

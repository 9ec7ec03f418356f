-- Turns that add and seal nothing.
use Rattle.std.proofs.Common.{◌≡◌, ℕ, ◌<◌, ◌≤◌, cond, List, [], ◌∷◌, ◌++◌, length, refl, sym, ap, ◌∙◌, ⊎_elim, arith}
use Rattle.std.proofs.lemmas.Bool.Decides.{eqb_tells}
use Rattle.std.proofs.lemmas.List.Elements.{All-head, All-tail}
use Rattle.fine_model.specs.declared.law.RoomState.{RoomState}
use Rattle.fine_places.specs.declared.model.Placed.{Placed}
use Rattle.fine_places.specs.History.{by_seat}
use Rattle.fine_hall.specs.declared.turn.Turn.{Turn}
use Rattle.fine_hall.specs.Turns.{added, commits}
use Rattle.lane_laws.specs.Quiet.{OpenOf, OpenStays, OpenTogether, QuietBut, QuietFirst, QuietOf, QuietStays, QuietTogether}

not_empty : (u : Placed Turn) (l : List (Placed Turn)) → u ∷ l ≡ [] → ⊥
not_empty u l e = let n = ap length e in absurd (omega arith)

-- turns of others alone
quiet_none : (seat : ℕ) (before : RoomState) (more : List (Placed Turn)) → by_seat seat more ≡ [] → QuietOf seat before more
quiet_none seat before [] none = tt
quiet_none seat before (u ∷ more) none = ⊎_elim
    (λ is. absurd (not_empty u (by_seat seat more) (ap (λ b. cond b (u ∷ by_seat seat more) (by_seat seat more)) (sym is.0) ∙ none)))
    (λ is. ((λ same. absurd (is.1 same)), quiet_none seat u.item.room more (ap (λ b. cond b (u ∷ by_seat seat more) (by_seat seat more)) (sym is.0) ∙ none)))
    (eqb_tells u.seat seat)

pub quiet_stays : QuietStays
quiet_stays seat before [] more none q = quiet_none seat before more none
quiet_stays seat before (u ∷ turns) more none q = (q.0, quiet_stays seat u.item.room turns more none q.1)

pub quiet_first : QuietFirst
quiet_first seat before [] more q = tt
quiet_first seat before (u ∷ turns) more q = (q.0, quiet_first seat u.item.room turns more q.1)

pub quiet_together : QuietTogether
quiet_together seat seats before [] who each = tt
quiet_together seat seats before (u ∷ turns) who each = (
  (λ other. let h = All-head (λ (t : Placed Turn). (0 < t.seat) × (t.seat ≤ seats)) u turns who in (each u.seat h.0 h.1 other).0 refl),
  quiet_together seat seats u.item.room turns (All-tail (λ (t : Placed Turn). (0 < t.seat) × (t.seat ≤ seats)) u turns who) (λ o some few other. (each o some few other).1),
)

-- turns of others alone leave the room as open as a seat found it
open_none : (seat : ℕ) (before : RoomState) (more : List (Placed Turn)) → by_seat seat more ≡ [] → OpenOf seat before more
open_none seat before [] none = tt
open_none seat before (u ∷ more) none = ⊎_elim
    (λ is. absurd (not_empty u (by_seat seat more) (ap (λ b. cond b (u ∷ by_seat seat more) (by_seat seat more)) (sym is.0) ∙ none)))
    (λ is. ((λ same. absurd (is.1 same)), open_none seat u.item.room more (ap (λ b. cond b (u ∷ by_seat seat more) (by_seat seat more)) (sym is.0) ∙ none)))
    (eqb_tells u.seat seat)

pub open_stays : OpenStays
open_stays seat before [] more none q = open_none seat before more none
open_stays seat before (u ∷ turns) more none q = (q.0, open_stays seat u.item.room turns more none q.1)

pub open_together : OpenTogether
open_together seats before [] who each = refl
open_together seats before (u ∷ turns) who each =
    let h = All-head (λ (t : Placed Turn). (0 < t.seat) × (t.seat ≤ seats)) u turns who in
    open_together seats u.item.room turns (All-tail (λ (t : Placed Turn). (0 < t.seat) × (t.seat ≤ seats)) u turns who) (λ s some few. (each s some few).1) ∙ (each u.seat h.0 h.1).0 refl

-- where the turns of all others are quiet a seat made the whole history
pub quiet_commits : (seat : ℕ) (before : RoomState) (turns : List (Placed Turn)) → QuietBut seat before turns → commits turns ≡ commits (by_seat seat turns)
unfolding commits
quiet_commits seat before [] q = refl
quiet_commits seat before (u ∷ turns) q =
    let rest = quiet_commits seat u.item.room turns q.1 in
    ⊎_elim
    (λ is. ap (λ l. added u.item.entry u.item.epoch ++ l) rest ∙ ap (λ b. commits (cond b (u ∷ by_seat seat turns) (by_seat seat turns))) (sym is.0))
    (λ is. ap (λ o. added o u.item.epoch ++ commits turns) (q.0 is.1).no_entry ∙ (rest ∙ ap (λ b. commits (cond b (u ∷ by_seat seat turns) (by_seat seat turns))) (sym is.0)))
    (eqb_tells u.seat seat)

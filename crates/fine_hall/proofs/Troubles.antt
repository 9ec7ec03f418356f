-- What each call does to the troubles of a pass, and how a pass goes on that sees more.
use Rattle.std.proofs.Common.{◌≡◌, ℕ, ◌+◌, Bool, true, false, List, [], ◌∷◌, ◌++◌, refl, sym, ap, ◌∙◌, subst, arith}
use Rattle.std.specs.Prelude.{MatchBool}
use Rattle.fine_model.specs.declared.law.RoomState.{RoomState}
use Rattle.fine_model.specs.declared.law.ViewState.{ViewState}
use Rattle.fine_model.specs.Jobs.{KeepsJob}
use Rattle.fine_places.specs.declared.model.Placed.{Placed}
use Rattle.fine_places.specs.History.{by_seat}
use Rattle.fine_hall.specs.declared.turn.Turn.{Turn}
use Rattle.fine_hall.specs.declared.law.Beginning.{Beginning}
use Rattle.fine_hall.specs.declared.pass.Pass.{Pass}
use Rattle.fine_hall.specs.Turns.{failed_in, failed_of, room_after, RoomsGoOn}
use Rattle.fine_hall.specs.Laws.{AreTurns}
use Rattle.fine_hall.specs.Passes.{first_given, view_of, known, reads, turns, last_room, given_up, failed, front_of, troubles}
use Rattle.fine_hall.specs.Halls.{turn_of, SeesMore, Refreshes, FindsStale, UsedFront}
use Rattle.fine_hall.specs.EngineLaws.{SameTroubles, TroublesLaw, SeesLaw}
use Rattle.fine_hall.proofs.Seeing.{sees_itself, sees_on}
use Rattle.fine_hall.proofs.Sums.{failed_of_more, hit}
use Rattle.fine_hall.proofs.Turning.{keeps_job}

-- ---- what failed in turns

failed_last : (seat : ℕ) (before : RoomState) (a : List (Placed Turn)) (t : Placed Turn) → t.seat ≡ seat → failed_of seat before (a ++ t ∷ []) ≡ failed_of seat before a + failed_in (room_after before a) t.item
failed_last seat before [] t own = let h = hit (failed_in before t.item) t.seat seat own in omega (arith, h)
failed_last seat before (u ∷ a) t own = let h = failed_last seat u.item.room a t own in omega (arith, h)

module _ {V : Type 0} (view : V → ViewState) (x : Beginning) where
  module _ (p p' : Pass V) (number : p'.number ≡ p.number) where
    failed_seen : SeesMore p p' → failed x p' ≡ failed x p
    failed_seen s = (λ i. failed_of (number i) x.room (s.longer.1 i)) ∙ failed_of_more p.number x.room (turns p) s.longer.0 s.longer.2

    failed_same : turns p' ≡ turns p → failed x p' ≡ failed x p
    failed_same same = λ i. failed_of (number i) x.room (same i)

    given_same : (reads p').notes ≡ (reads p).notes → given_up p' ≡ given_up p
    given_same same = ap first_given same

    all_same : failed x p' ≡ failed x p → given_up p' ≡ given_up p → p'.front ≡ p.front → troubles view x p' ≡ troubles view x p
    all_same f g front = λ i. (f i + g i) + (view_of view (front i)).faults

    looked : (b : Bool) → MatchBool b (Refreshes view x p p') (FindsStale p p') → troubles view x p' ≡ troubles view x p
    looked true r =
        let f = failed_seen r.sees in
        let g = r.given_more in
        let clean = r.clean in
        omega (arith, f, g, clean)
    looked false r = all_same (failed_seen r.sees) r.same_marks.1 r.front.0

    pub same : SameTroubles view x p p'
    same = record {
      takes = λ k t. all_same (failed_seen t.sees) (given_same t.notes) t.front.0;
      stays = λ places views. all_same (failed_same places.same_turns) (given_same (ap (λ y. y.notes) views.reads)) views.front.0;
      sees = λ s views. all_same (failed_seen s) (given_same (ap (λ y. y.notes) views.reads)) views.front.0;
      turns_stay = λ still views. all_same (failed_same still) (given_same (ap (λ y. y.notes) views.reads)) views.front.0;
      gives = λ k g. all_same (failed_same g.same_turns) (given_same (ap (λ y. y.notes) g.views.reads)) g.views.front.0;
      reads = λ r. all_same (failed_seen r.sees) (given_same (ap (λ y. y.notes) r.views.reads)) r.views.front.0;
      looks = looked;
      posts = λ seat t new old s. all_same (failed_same s.places.same_turns) (given_same s.notes) s.front.0;
      publishes = λ epoch s. all_same (failed_same s.same_turns) (given_same (ap (λ y. y.notes) s.views.reads)) s.views.front.0;
    }

  used : (p p' : Pass V) → UsedFront view p p' → troubles view x p' + (front_of view p).faults ≡ troubles view x p + (front_of view p').faults
  unfolding known reads
  used p p' u = subst (λ q. troubles view x q + (front_of view p).faults ≡ troubles view x p + (front_of view q).faults) (sym u.is) (swapped (failed x p + given_up p) (front_of view p).faults (view u.after).faults)
    where
      swapped : (a b c : ℕ) → (a + c) + b ≡ (a + b) + c
      swapped a b c = omega arith

  pub troubles_law : TroublesLaw view x
  troubles_law = record {
    same = same;
    turn = λ room entry epoch t p p' number g.
        let step : Placed Turn = record { seat = p.number; item = turn_of entry epoch room t.in_hand } in
        let f = (λ i. failed_of (number i) x.room (g.turns_more i)) ∙ failed_last p.number x.room (turns p) step refl in
        let given = given_same p p' number g.notes in
        let front = ap (λ v. (view_of view v).faults) g.front.0 in
        omega (arith, f, given, front);
    front = used;
  }

-- ---- a pass that sees more

module _ {V : Type 0} (view : V → ViewState) where
  seen_job : (x : Beginning) (p p' : Pass V) → AreTurns x (turns p') → p.number ≡ 1 → SeesMore p p' → KeepsJob (last_room x p) (last_room x p')
  seen_job x p p' lawful one sees =
      let more = sees.longer.0 in
      let is = sees.longer.1 in
      subst (λ l. KeepsJob (last_room x p) (room_after x.room l)) (sym is)
      (keeps_job x.room (turns p) more (subst (RoomsGoOn x.room) is lawful.rooms) (ap (λ n. by_seat n more) (sym one) ∙ sees.longer.2))

  either : (b : Bool) (x : Beginning) (p p' : Pass V) → MatchBool b (Refreshes view x p p') (FindsStale p p') → SeesMore p p' × ((known p').held ≡ (known p).held)
  either true x p p' r = (r.sees, r.same_held)
  either false x p p' r = (r.sees, r.same_held)

  pub sees_law : SeesLaw view
  sees_law = record { job = seen_job; look = either; itself = sees_itself; on = sees_on }

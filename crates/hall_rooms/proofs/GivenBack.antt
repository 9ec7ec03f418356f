-- What a turn without an entry did, once the room was given back.
use Rattle.std.proofs.Common.{◌≡◌, inl, inr, ⊎_elim, ℕ, suc, zero, ◌+◌, ◌-◌, ◌≤◌, true, false, List, [], ◌∷◌, ◌++◌, set, None, refl, sym, ap, ◌∙◌, subst, arith, append-nil}
use Rattle.std.specs.Prelude.{Option, slice_set}
use mathlib.Core.Option.{some, some-injective}
use lib.ListN.{get_elem?}
use Rattle.fine_model.specs.declared.law.RoomState.{RoomState}
use Rattle.fine_model.specs.Faults.{last_count}
use Rattle.partition_hold.specs.Views.{ViewValue, state_of}
use Rattle.epoch_room.specs.Value.{RoomValue}
use Rattle.fine_places.specs.History as places
use Rattle.fine_boxes.specs.declared.model.TurnNote.{TurnNote}
use Rattle.fine_hall.specs.declared.law.Beginning.{Beginning}
use Rattle.fine_hall.specs.Turns.{commits, in_bucket, room_after}
use Rattle.fine_hall.specs.Laws.{IsViewFor}
use Rattle.fine_hall.specs.Passes.{first_given, front_of, known, seen, turns, troubles, last_room, view_of}
use Rattle.fine_hall.specs.Halls.{turn_of, GivesRoom, IsAhead}
use Rattle.fine_hall.proofs.Since.{gives_law}
use Rattle.fine_hall.proofs.Troubles.{troubles_law}
use Rattle.hall_rooms.specs.Rooms.{RoomPass}
use Rattle.hall_rooms.specs.Steps.{BeginsTurn, NoneFailed, SomeFailed, Stays}
use Rattle.hall_rooms.specs.Turning.{MeetsNone, MeetsSome, TakesTurn}
use Rattle.hall_rooms.specs.Making.{AddsTurn, TurnsOn}
use Rattle.hall_rooms.proofs.Renewing.{stays_on}

-- a place that was taken and given back is as it was
held_back : {A : Type 0} (l : List A) (k : ℕ) (a b : A) → get_elem? l k ≡ some a → set (set l k b) k a ≡ l
held_back [] k a b e = refl
held_back (x ∷ l) zero a b e = ap (λ y. y ∷ l) (sym (some-injective x a e))
held_back (x ∷ l) (suc k) a b e = ap (λ m. x ∷ m) (held_back l k a b e)

module _ (x : Beginning) (found new : RoomValue) (p p₁ q r : RoomPass) (begun : BeginsTurn x p p₁ found) (second : q.number ≡ p₁.number) (third : r.number ≡ q.number) where
  module _ (on : TurnsOn x p₁ q) (t : TurnNote) (gave : GivesRoom new.room None 0 t q r) where
    turns_are : turns q ≡ turns p ++ begun.takes.takes.sees.longer.0
    turns_are = on.turns ∙ begun.takes.takes.sees.longer.1

    number : q.number ≡ p.number
    number = second ∙ begun.number

    pub turn_added : AddsTurn x found.room new.room p r
    turn_added = let sees = begun.takes.takes.sees in record {
      one = record {
        others = sees.longer.0;
        not_own = sees.longer.2;
        kept = λ j near has. sees.kept j near has ∙ ap (λ ts. in_bucket j (commits ts)) sees.longer.1;
        found_is = begun.is_room.last ∙ ap (room_after x.room) sees.longer.1;
        found_job = begun.takes.same_job;
        returned = t.in_hand;
        turns_more = gave.turns_more ∙ (λ i. turns_are i ++ record { seat = number i; item = turn_of None 0 new.room t.in_hand } ∷ []);
        own_more = gave.own_more ∙ (λ i. (on.own ∙ sees.same_own) i ++ record { seat = number i; item = turn_of None 0 new.room t.in_hand } ∷ []);
        no_earlier = let a = sees.no_earlier in let b = on.no_earlier in let c = gave.same_published in omega (arith, a, b, c);
      };
      same_held = gave.held ∙ (ap (λ l. slice_set l places.room false) (on.held ∙ begun.takes.takes.held) ∙ held_back (known p).held places.room false true begun.free);
    }

    met : troubles state_of x q ≡ troubles state_of x p
    met = on.meets ∙ ((troubles_law state_of x).same p p₁ begun.number).takes places.room begun.takes.takes

    ended : troubles state_of x r ≡ troubles state_of x q + (new.room.faults - ((last_room x q).faults + t.in_hand))
    ended = (troubles_law state_of x).turn new.room None 0 t q r third gave

    pub met_none : NoneFailed x new q t → MeetsNone x p r
    met_none n = let e = ended in let m = met in omega (arith, e, m, n)

    pub met_some : SomeFailed x new q t → MeetsSome x p r
    met_some s = ⊎_elim (λ up. inl (let e = ended in let m = met in omega (arith, e, m, up)))
        (λ last. inr (subst (λ (s : RoomState). last_count ≤ s.faults) (sym (gives_law x new.room None 0 t q r gave).last) last)) s

    -- a front that was ahead is so at the end
    pub ahead_still : IsAhead state_of x q → IsAhead state_of x r
    ahead_still a = record {
      shows = subst (λ s. IsViewFor x s (front_of state_of r)) (sym ((gives_law x new.room None 0 t q r gave).seen_more ∙ append-nil (seen q))) (subst (λ (o : Option ViewValue). IsViewFor x (seen q) (view_of state_of o)) (sym gave.front.0) a.shows);
      reaches = let b = a.reaches in let s = gave.same_published in let f = ap (λ (o : Option ViewValue). (view_of state_of o).upto) gave.front.0 in omega (arith, b, s, f);
    }

  -- where the pass kept its front in the turn, and what it gave up
  module _ (stays : Stays p₁ q) (t : TurnNote) (gave : GivesRoom new.room None 0 t q r) where
    pub turn_taken : TakesTurn x found.room None 0 new.room p r × ((known r).held ≡ (known p).held)
    turn_taken = let a = turn_added (stays_on x p₁ q second stays) t gave in (
      record {
        one = a.one;
        front = (gave.front.0 ∙ (stays.front.0 ∙ begun.takes.takes.front.0), gave.front.1 ∙ (stays.front.1 ∙ begun.takes.takes.front.1));
        given_same = ap first_given gave.notes ∙ (stays.given_up ∙ ap first_given begun.takes.takes.notes);
      },
      a.same_held,
    )

-- What a pass added by the turns that it saw, and what these left of the room.
use Rattle.std.proofs.Common.{◌≡◌, ◌≢◌, ◌⊎◌, ℕ, ◌+◌, ◌<◌, ◌≤◌, ◌==◌, Bool, true, false, cond, List, [], ◌∷◌, ◌++◌, length, map, None, Option, Some, refl, sym, ap, ◌∙◌, subst, ⊎_elim, arith, append_assoc, append-nil, eq-eqb, length-append}
use Rattle.std.specs.Prelude.{Contains}
use Rattle.std.proofs.lemmas.Bool.Decides.{eqb_tells}
use Rattle.std.proofs.lemmas.List.Elements.{Contains-append_right}
use Rattle.fine_model.specs.declared.Entry.{Entry}
use Rattle.fine_model.specs.declared.law.RoomState.{RoomState}
use Rattle.fine_model.specs.History.{Commit}
use Rattle.fine_places.specs.declared.model.Placed.{Placed}
use Rattle.fine_places.specs.History.{by_seat}
use Rattle.fine_hall.specs.declared.law.Beginning.{Beginning}
use Rattle.fine_hall.specs.declared.turn.Turn.{Turn}
use Rattle.fine_hall.specs.Turns.{added, commits, room_after}
use Rattle.fine_hall.specs.Halls.{SeesMore, turn_of}
use Rattle.fine_hall.specs.Passes.{last_room, mine, own_turns, seen, turns}
use Rattle.fine_hall.proofs.Bucket.{commits_more}
use Rattle.fine_hall.proofs.Turning.{commits_one}
use Rattle.hall_rooms.specs.Rooms.{RoomPass}
use Rattle.hall_rooms.specs.Turning.{OneTurn}
use Rattle.hall_rooms.proofs.Left.{last_is}
use Rattle.run_laws.specs.Needs.{Unsealed}
use Rattle.lane_laws.specs.Placing.{placed_by, placed_if}
use Rattle.lane_laws.specs.Quiet.{IsQuiet, OpenOf, QuietBut}
use Rattle.lane_laws.proofs.Placing.{placed_on, placed_others}
use Rattle.lane_laws.proofs.Quiet.{open_stays}
use Rattle.txn_tries.specs.Turns.{AddsPlaced, MeetsNothing}

-- ---- turns behind turns

pub after_append : (before : RoomState) (a b : List (Placed Turn)) → room_after before (a ++ b) ≡ room_after (room_after before a) b
after_append before [] b = refl
after_append before (t ∷ a) b = after_append t.item.room a b

open_append : (seat : ℕ) (before : RoomState) (a b : List (Placed Turn)) → OpenOf seat before a → OpenOf seat (room_after before a) b → OpenOf seat before (a ++ b)
open_append seat before [] b one two = two
open_append seat before (t ∷ a) b one two = (one.0, open_append seat t.item.room a b one.1 two)

quiet_behind : (seat : ℕ) (before : RoomState) (a b : List (Placed Turn)) → QuietBut seat before (a ++ b) → QuietBut seat (room_after before a) b
quiet_behind seat before [] b q = q
quiet_behind seat before (t ∷ a) b q = quiet_behind seat t.item.room a b q.1

pub quiet_front : (seat : ℕ) (before : RoomState) (a b : List (Placed Turn)) → QuietBut seat before (a ++ b) → QuietBut seat before a
quiet_front seat before [] b q = tt
quiet_front seat before (t ∷ a) b q = (q.0, quiet_front seat t.item.room a b q.1)

-- ---- turns of others alone

not_empty : (u : Placed Turn) (l : List (Placed Turn)) → u ∷ l ≡ [] → ⊥
not_empty u l e = let n = ap length e in absurd (omega arith)

unsealed_on : (a b c : RoomState) → Unsealed a b → Unsealed b c → Unsealed a c
unsealed_on a b c one two = record { sealed = two.sealed ∙ one.sealed; waiting = two.waiting ∙ one.waiting; used = two.used ∙ one.used }

pub unsealed_none : (a : RoomState) → Unsealed a a
unsealed_none a = record { sealed = refl; waiting = refl; used = refl }

-- turns of others that add and seal nothing leave the open epoch
quiet_others : (seat : ℕ) (before : RoomState) (more : List (Placed Turn)) → by_seat seat more ≡ [] → QuietBut seat before more → Unsealed before (room_after before more) × (commits more ≡ [])
unfolding commits
quiet_others seat before [] none q = (unsealed_none before, refl)
quiet_others seat before (u ∷ more) none q = ⊎_elim
    (λ is. absurd (not_empty u (by_seat seat more) (ap (λ b. cond b (u ∷ by_seat seat more) (by_seat seat more)) (sym is.0) ∙ none)))
    (λ is.
    let rest = quiet_others seat u.item.room more (ap (λ b. cond b (u ∷ by_seat seat more) (by_seat seat more)) (sym is.0) ∙ none) q.1 in
    let here = q.0 is.1 in
    (unsealed_on before u.item.room (room_after u.item.room more) (record { sealed = here.sealed; waiting = here.waiting; used = here.used }) rest.0, (λ i. added (here.no_entry i) u.item.epoch ++ rest.1 i)))
    (eqb_tells u.seat seat)

-- ---- what a pass adds

module _ (p q r : RoomPass) (number : q.number ≡ p.number) (a b : List (ℕ × Commit)) (one : AddsPlaced p q a) (two : AddsPlaced q r b) where
  pub whole : turns r ≡ turns p ++ (one.more ++ two.more)
  whole = two.turns_more ∙ (ap (λ l. l ++ two.more) one.turns_more ∙ append_assoc (turns p) one.more two.more)

  pub long : length (seen q) ≡ length (seen p) + length (commits one.more)
  long = ap (λ l. length (commits l)) one.turns_more ∙ (ap length (commits_more (turns p) one.more) ∙ length-append (seen p) (commits one.more))

  abbrev pub adds_on : AddsPlaced p r (a ++ b)
  adds_on = record {
    more = one.more ++ two.more;
    turns_more = whole;
    placed_is = placed_on p.number (length (seen p)) one.more two.more ∙ (ap (λ l. l ++ placed_by p.number (length (seen p) + length (commits one.more)) two.more) one.placed_is ∙ (sym (λ i. a ++ placed_by (number i) (long i) two.more) ∙ ap (λ l. a ++ l) two.placed_is));
  }

  module _ (x : Beginning) where
    room_of : last_room x q ≡ room_after (last_room x p) one.more
    room_of = ap (room_after x.room) one.turns_more ∙ after_append x.room (turns p) one.more

    pub meets_on : MeetsNothing x p q one.more → MeetsNothing x q r two.more → MeetsNothing x p r (one.more ++ two.more)
    meets_on m n = record {
      meets = n.meets ∙ m.meets;
      opened = open_append p.number (last_room x p) one.more two.more m.opened (subst (λ (s : RoomState). OpenOf p.number s two.more) room_of (subst (λ (k : ℕ). OpenOf k (last_room x q) two.more) number n.opened));
    }

    -- what is quiet to the end was so before
    pub quiet_before : QuietBut p.number x.room (turns r) → QuietBut p.number x.room (turns q)
    quiet_before h = quiet_front p.number x.room (turns q) two.more (subst (QuietBut p.number x.room) two.turns_more h)

-- ---- turns of others

module _ (x : Beginning) (p p' : RoomPass) (sees : SeesMore p p') where
  abbrev pub sees_adds : AddsPlaced p p' []
  sees_adds = record { more = sees.longer.0; turns_more = sees.longer.1; placed_is = placed_others p.number (length (seen p)) sees.longer.0 sees.longer.2 }

  pub sees_open : OpenOf p.number (last_room x p) sees.longer.0
  sees_open = open_stays p.number (last_room x p) [] sees.longer.0 sees.longer.2 tt

  pub sees_still : QuietBut p.number x.room (turns p') → Unsealed (last_room x p) (last_room x p') × (seen p' ≡ seen p)
  sees_still h =
      let q = quiet_others p.number (last_room x p) sees.longer.0 sees.longer.2 (quiet_behind p.number x.room (turns p) sees.longer.0 (subst (QuietBut p.number x.room) sees.longer.1 h)) in (
        subst (Unsealed (last_room x p)) (sym (ap (room_after x.room) sees.longer.1 ∙ after_append x.room (turns p) sees.longer.0)) q.0,
        ap commits sees.longer.1 ∙ (commits_more (turns p) sees.longer.0 ∙ (ap (λ l. seen p ++ l) q.1 ∙ append-nil (seen p))),
      )

-- ---- a turn of its own

module _ (x : Beginning) (found room : RoomState) (entry : Option Entry) (epoch : ℕ) (p p' : RoomPass) (t : OneTurn x found entry epoch room p p') where
  abbrev pub own : Placed Turn
  own = record { seat = p.number; item = turn_of entry epoch room t.returned }

  pub longer : turns p' ≡ turns p ++ (t.others ++ own ∷ [])
  longer = t.turns_more ∙ append_assoc (turns p) t.others (own ∷ [])

  pub turn_seen : seen p' ≡ commits (turns p ++ t.others) ++ added entry epoch
  unfolding commits
  turn_seen = ap commits t.turns_more ∙ (commits_more (turns p ++ t.others) (own ∷ []) ∙ ap (λ l. commits (turns p ++ t.others) ++ l) (append-nil (added entry epoch)))

  pub turn_own : mine p' ≡ mine p ++ added entry epoch
  turn_own = ap commits t.own_more ∙ commits_one (own_turns p) own

  -- its turn is among those that it saw
  pub turn_there : Contains (turns p') own
  turn_there = subst (λ (l : List (Placed Turn)). Contains l own) (sym t.turns_more) (Contains-append_right (turns p ++ t.others) (own ∷ []) own (0, omega arith, refl))

  pub placed_own : (before : ℕ) → placed_by p.number before (own ∷ []) ≡ map (λ c. (before + 1, c)) (added entry epoch)
  placed_own before = append-nil (placed_if (p.number == p.number) before (added entry epoch)) ∙ ap (λ b. placed_if b before (added entry epoch)) (eq-eqb p.number p.number refl)

  abbrev pub turn_adds : (placed : List (ℕ × Commit)) → map (λ c. (length (commits (turns p ++ t.others)) + 1, c)) (added entry epoch) ≡ placed → AddsPlaced p p' placed
  turn_adds placed is = record {
    more = t.others ++ own ∷ [];
    turns_more = longer;
    placed_is = placed_on p.number (length (seen p)) t.others (own ∷ []) ∙ (ap (λ l. l ++ placed_by p.number (length (seen p) + length (commits t.others)) (own ∷ [])) (placed_others p.number (length (seen p)) t.others t.not_own)
        ∙ (placed_own (length (seen p) + length (commits t.others)) ∙ (ap (λ n. map (λ c. (n + 1, c)) (added entry epoch)) (sym (ap length (commits_more (turns p) t.others) ∙ length-append (seen p) (commits t.others))) ∙ is)));
  }

  pub turn_open : room.is_shut ≡ found.is_shut → OpenOf p.number (last_room x p) (t.others ++ own ∷ [])
  turn_open same = open_append p.number (last_room x p) t.others (own ∷ []) (open_stays p.number (last_room x p) [] t.others t.not_own tt)
      ((λ e. same ∙ ap (λ (s : RoomState). s.is_shut) (t.found_is ∙ after_append x.room (turns p) t.others)), tt)

  pub turn_still : QuietBut p.number x.room (turns p') → Unsealed (last_room x p) found × (commits (turns p ++ t.others) ≡ seen p)
  turn_still h =
      let q = quiet_others p.number (last_room x p) t.others t.not_own
      (quiet_front p.number (last_room x p) t.others (own ∷ []) (quiet_behind p.number x.room (turns p) (t.others ++ own ∷ []) (subst (QuietBut p.number x.room) longer h))) in
      (subst (Unsealed (last_room x p)) (sym (t.found_is ∙ after_append x.room (turns p) t.others)) q.0, commits_more (turns p) t.others ∙ (ap (λ l. seen p ++ l) q.1 ∙ append-nil (seen p)))

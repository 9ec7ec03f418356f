-- Where all other seats are quiet.
use Rattle.std.proofs.Common.{◌≡◌, ◌≢◌, ◌⊎◌, ℕ, ◌+◌, ◌<◌, ◌≤◌, ◌==◌, Bool, true, false, cond, List, [], ◌∷◌, ◌++◌, length, map, Option, Some, None, refl, sym, ap, subst, ◌∙◌, ⊎_elim, arith, append-nil, inl, inr, length-append}
use Rattle.std.proofs.lemmas.List.{length-map}
use Rattle.std.proofs.lemmas.Bool.Decides.{eqb_tells}
use Rattle.fine_model.specs.declared.Outcome.{Outcome}
use Rattle.fine_model.specs.declared.law.RoomState.{RoomState}
use Rattle.fine_model.specs.History.{Commit}
use Rattle.fine_places.specs.declared.model.Placed.{Placed}
use Rattle.fine_places.specs.History.{by_seat}
use Rattle.fine_hall.specs.declared.law.Beginning.{Beginning}
use Rattle.fine_hall.specs.declared.turn.Turn.{Turn}
use Rattle.fine_hall.specs.Passes.{turns, seen, last_room}
use Rattle.fine_hall.specs.Turns.{added, commits, room_after}
use Rattle.hall_rooms.specs.Rooms.{RoomPass}
use Rattle.lane_laws.specs.Placing.{placed_by}
use Rattle.lane_laws.specs.Quiet.{IsQuiet, QuietBut}
use Rattle.lane_laws.specs.Works.{placed_of}
use Rattle.lane_laws.proofs.Placing.{placed_commits}
use Rattle.lane_laws.proofs.Quiet.{quiet_first}
use Rattle.lane_runs.proofs.Going.{Goes, last_then, placed_then, seen_more}

not_empty : (u : Placed Turn) (l : List (Placed Turn)) → u ∷ l ≡ [] → ⊥
not_empty u l e = let n = ap length e in absurd (omega arith)

none_added : (t : Turn) → t.entry ≡ None → added t.entry t.epoch ≡ []
none_added t none = ap (λ o. added o t.epoch) none

own_or_none : (own : Bool) (t : Placed Turn) (ts a : List (Placed Turn)) → (own ≡ true) ⊎ (added t.item.entry t.item.epoch ≡ []) → commits a ≡ commits ts → commits (cond own (t ∷ a) a) ≡ commits (t ∷ ts)
unfolding commits
own_or_none true t ts a either same = ap (λ l. added t.item.entry t.item.epoch ++ l) same
own_or_none false t ts a either same = ⊎_elim (λ e. absurd (is_not e)) (λ none. same ∙ ap (λ l. l ++ commits ts) (sym none)) either
  where
    is_not : false ≡ true → ⊥
    is_not e = absurd (let h = e in cc)

-- all that is committed is the seat's own
pub all_own : (seat : ℕ) (before : RoomState) (ts : List (Placed Turn)) → QuietBut seat before ts → commits (by_seat seat ts) ≡ commits ts
unfolding commits
all_own seat before [] q = refl
all_own seat before (t ∷ ts) q = own_or_none (t.seat == seat) t ts (by_seat seat ts)
    (⊎_elim (λ is. inl is.0) (λ is. inr (none_added t.item (q.0 is.1).no_entry)) (eqb_tells t.seat seat))
    (all_own seat t.item.room ts q.1)

quiet_after : (seat : ℕ) (before : RoomState) (a more : List (Placed Turn)) → QuietBut seat before (a ++ more) → QuietBut seat (room_after before a) more
quiet_after seat before [] more q = q
quiet_after seat before (t ∷ a) more q = quiet_after seat t.item.room a more q.1

-- what is sealed, waits and is used in two rooms is the same
pub record IsStill (before now : RoomState) : Type 0 where
  pub sealed : now.sealed ≡ before.sealed
  pub waiting : now.waiting ≡ before.waiting
  pub used : now.used ≡ before.used

still_others : (seat : ℕ) (before : RoomState) (ts : List (Placed Turn)) → by_seat seat ts ≡ [] → QuietBut seat before ts → IsStill before (room_after before ts)
still_others seat before [] none q = record { sealed = refl; waiting = refl; used = refl }
still_others seat before (t ∷ ts) none q = ⊎_elim
    (λ is. absurd (not_empty t (by_seat seat ts) (ap (λ b. cond b (t ∷ by_seat seat ts) (by_seat seat ts)) (sym is.0) ∙ none)))
    (λ is.
    let s = still_others seat t.item.room ts (ap (λ b. cond b (t ∷ by_seat seat ts) (by_seat seat ts)) (sym is.0) ∙ none) q.1 in
    let h = q.0 is.1 in
    record { sealed = s.sealed ∙ h.sealed; waiting = s.waiting ∙ h.waiting; used = s.used ∙ h.used })
    (eqb_tells t.seat seat)

none_commits : commits [] ≡ []
unfolding commits
none_commits = refl

-- a history of the seat alone is what its places tell
pub own_length : (seat : ℕ) (before : RoomState) (ts : List (Placed Turn)) → QuietBut seat before ts → length (commits ts) ≡ length (placed_by seat 0 ts)
own_length seat before ts q =
    let second : ℕ × Commit → Commit = λ e. e.1 in
    sym (ap length (all_own seat before ts q)) ∙ (ap length (sym (placed_commits seat 0 ts)) ∙ length-map (placed_by seat 0 ts) second)

module _ (x : Beginning) (p p' : RoomPass) (os : List Outcome) (g : Goes x p p' os) (q : QuietBut p'.number x.room (turns p')) where
  quiet_whole : QuietBut p.number x.room (turns p ++ g.more)
  quiet_whole = subst (QuietBut p.number x.room) g.turns_more (subst (λ n. QuietBut n x.room (turns p')) g.number q)

  -- others were quiet before
  pub quiet_before : QuietBut p.number x.room (turns p)
  quiet_before = quiet_first p.number x.room (turns p) g.more quiet_whole

  -- where the pass saw turns of others alone, the history and the open epoch are as they were
  pub same_seen : by_seat p.number g.more ≡ [] → seen p' ≡ seen p
  same_seen none =
      let of_more = sym (all_own p.number (last_room x p) g.more (quiet_after p.number x.room (turns p) g.more quiet_whole)) ∙ ap commits none in
      seen_more x p p' os g ∙ (ap (λ l. seen p ++ l) (of_more ∙ none_commits) ∙ append-nil (seen p))

  pub still : by_seat p.number g.more ≡ [] → IsStill (last_room x p) (last_room x p')
  still none =
      subst (IsStill (last_room x p)) (sym (last_then x p p' os g)) (still_others p.number (last_room x p) g.more none (quiet_after p.number x.room (turns p) g.more quiet_whole))

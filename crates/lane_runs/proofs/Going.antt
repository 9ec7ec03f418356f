-- A pass that goes on by turns of its own and of others: what it then saw, and what is its own of that.
use Rattle.std.proofs.Common.{◌≡◌, ◌⊎◌, ℕ, ◌+◌, ◌<◌, ◌≤◌, ◌==◌, Bool, true, false, cond, List, [], ◌∷◌, ◌++◌, length, map, Option, Some, None, refl, sym, ap, subst, ◌∙◌, ⊎_elim, arith, length-append}
use Rattle.std.specs.Prelude.{All, Contains, take}
use Rattle.std.proofs.lemmas.List.{map-append, take-append-le}
use Rattle.std.proofs.lemmas.List.Elements.{All-append, All-cons, All-nil, All-weaker, Contains-append_cases}
use Rattle.fine_model.specs.declared.Entry.{Entry}
use Rattle.fine_model.specs.declared.Outcome.{Outcome}
use Rattle.fine_model.specs.declared.law.RoomState.{RoomState}
use Rattle.fine_model.specs.History.{Commit}
use Rattle.fine_model.specs.Becomes.{Becomes}
use Rattle.fine_model.specs.Outcomes.{IsCommittedAt}
use Rattle.fine_places.specs.declared.model.Placed.{Placed}
use Rattle.fine_places.specs.History.{by_seat}
use Rattle.fine_hall.specs.declared.law.Beginning.{Beginning}
use Rattle.fine_hall.specs.declared.turn.Turn.{Turn}
use Rattle.fine_hall.specs.Laws.{AreTurns}
use Rattle.fine_hall.specs.Passes.{turns, own_turns, seen, mine, last_room}
use Rattle.fine_hall.specs.Turns.{IsOfOpenEpoch, RoomsGoOn, added, commits, committed, room_after}
use Rattle.fine_hall.proofs.Bucket.{commits_more}
use Rattle.fine_hall.proofs.Since.{since_law}
use Rattle.hall_rooms.specs.Rooms.{RoomPass}
use Rattle.lane_laws.specs.Placing.{placed_by, placed_if}
use Rattle.lane_laws.specs.Works.{placed_of}
use Rattle.lane_laws.proofs.Placing.{first_or, placed_commits, placed_on}
use Rattle.lane_runs.proofs.Lists.{none_in}

-- The pass saw more turns, of which its own committed just what these outcomes tell.
pub record Goes (x : Beginning) (p p' : RoomPass) (os : List Outcome) : Type 0 where
  pub number : p'.number ≡ p.number
  pub more : List (Placed Turn)
  pub turns_more : turns p' ≡ turns p ++ more
  pub placed_is : placed_by p.number (length (seen p)) more ≡ placed_of os
  pub own : own_turns p ≡ by_seat p.number (turns p)
  pub own_then : own_turns p' ≡ by_seat p'.number (turns p')
  pub lawful : AreTurns x (turns p)
  pub lawful_then : AreTurns x (turns p')

-- ---- places

if_beyond : (own : Bool) (n place epoch : ℕ) (o : Option Entry) (c : Commit) → Contains (placed_if own n (added o epoch)) (place, c) → n < place
if_beyond false n place epoch o c at = absurd (none_in {A = ℕ × Commit} (place, c) at)
if_beyond true n place epoch None c at = absurd (none_in {A = ℕ × Commit} (place, c) at)
if_beyond true n place epoch (Some e) c at = ⊎_elim
    (λ same. let p = ap (λ (q : ℕ × Commit). q.0) same in omega (arith, p))
    (λ more. absurd (none_in {A = ℕ × Commit} (place, c) more))
    (first_or {A = ℕ × Commit} (n + 1, committed e epoch) (place, c) [] at)

-- a commit after n others has a place above n
pub beyond : (seat n place : ℕ) (c : Commit) (turns : List (Placed Turn)) → Contains (placed_by seat n turns) (place, c) → n < place
beyond seat n place c [] at = absurd (none_in {A = ℕ × Commit} (place, c) at)
beyond seat n place c (t ∷ turns) at =
    let here = added t.item.entry t.item.epoch in
    ⊎_elim
    (λ now. if_beyond (t.seat == seat) n place t.item.epoch t.item.entry c now)
    (λ later. let lt = beyond seat (n + length here) place c turns later in omega (arith, lt))
    (Contains-append_cases {X = ℕ × Commit} (placed_if (t.seat == seat) n here) (placed_by seat (n + length here) turns) (place, c) at)

-- ---- epochs

rooms_first : (before : RoomState) (a more : List (Placed Turn)) → RoomsGoOn before (a ++ more) → RoomsGoOn (room_after before a) more
rooms_first before [] more r = r
rooms_first before (t ∷ a) more r = rooms_first t.item.room a more r.1

abbrev Between : ℕ → ℕ → Commit → Type 0
Between low high c = (low < c.epoch) × (c.epoch ≤ high + 1)

one_between : (low high : ℕ) (t : Turn) (o : Option Entry) → low ≤ t.room.sealed → t.room.sealed ≤ high → IsOfOpenEpoch t o → All (Between low high) (added o t.epoch)
one_between low high t None up on is = All-nil (Between low high)
one_between low high t (Some e) up on is = All-cons (Between low high) (committed e t.epoch) [] (omega (arith, up, is), omega (arith, on, is)) (All-nil (Between low high))

own_between : (own : Bool) (low high : ℕ) (t : Placed Turn) (ts : List (Placed Turn)) → All (Between low high) (added t.item.entry t.item.epoch) → All (Between low high) (commits ts) → All (Between low high) (commits (cond own (t ∷ ts) ts))
unfolding commits
own_between true low high t ts here later = All-append (Between low high) (added t.item.entry t.item.epoch) (commits ts) here later
own_between false low high t ts here later = later

-- what a seat committed in some turns is of later epochs than the one that was sealed before, and of none after the open one
pub commits_between : (seat : ℕ) (before : RoomState) (ts : List (Placed Turn)) → RoomsGoOn before ts → All (λ c. (before.sealed < c.epoch) × (c.epoch ≤ (room_after before ts).sealed + 1)) (commits (by_seat seat ts))
unfolding commits
commits_between seat before [] r = All-nil (Between before.sealed before.sealed)
commits_between seat before (t ∷ ts) r =
    let up = r.0.becomes.sealed in
    let high = (room_after t.item.room ts).sealed in
    let on = (since_law t.item.room [] ts r.1).sealed in
    own_between (t.seat == seat) before.sealed high t (by_seat seat ts) (one_between before.sealed high t.item t.item.entry up on r.0.open_epoch)
    (All-weaker (Between t.item.room.sealed high) (Between before.sealed high) (λ c h. let a = h.0 in let b = h.1 in (omega (arith, a, up), b)) (commits (by_seat seat ts)) (commits_between seat t.item.room ts r.1))

-- ---- a pass that goes on

module _ (x : Beginning) (p p' : RoomPass) (os : List Outcome) (g : Goes x p p' os) where
  pub seen_more : seen p' ≡ seen p ++ commits g.more
  seen_more = ap commits g.turns_more ∙ commits_more (turns p) g.more

  pub seen_least : length (seen p) ≤ length (seen p')
  seen_least = let e = ap length seen_more in let l = length-append (seen p) (commits g.more) in omega (arith, e, l)

  pub took : (k : ℕ) → k ≤ length (seen p) → take k (seen p') ≡ take k (seen p)
  took k low = ap (take k) seen_more ∙ take-append-le k (seen p) (commits g.more) low

  pub placed_then : placed_by p'.number 0 (turns p') ≡ placed_by p.number 0 (turns p) ++ placed_of os
  placed_then =
      let none : 0 + length (seen p) ≡ length (seen p) = omega arith in
      ap (λ n. placed_by n 0 (turns p')) g.number
      ∙ (ap (placed_by p.number 0) g.turns_more
      ∙ (placed_on p.number 0 (turns p) g.more
      ∙ (ap (λ n. placed_by p.number 0 (turns p) ++ placed_by p.number n g.more) none
      ∙ ap (λ l. placed_by p.number 0 (turns p) ++ l) g.placed_is)))

  pub mine_then : mine p' ≡ mine p ++ map (λ (e : ℕ × Commit). e.1) (placed_of os)
  mine_then =
      let second : ℕ × Commit → Commit = λ e. e.1 in
      ap commits g.own_then
      ∙ (sym (placed_commits p'.number 0 (turns p'))
      ∙ (ap (map second) placed_then
      ∙ (map-append second (placed_by p.number 0 (turns p)) (placed_of os)
      ∙ ap (λ l. l ++ map second (placed_of os)) (placed_commits p.number 0 (turns p) ∙ ap commits (sym g.own)))))

  pub rooms_on : RoomsGoOn (last_room x p) g.more
  rooms_on = rooms_first x.room (turns p) g.more (subst (RoomsGoOn x.room) g.turns_more g.lawful_then.rooms)

  pub last_then : last_room x p' ≡ room_after (last_room x p) g.more
  last_then = ap (room_after x.room) g.turns_more ∙ after x.room (turns p) g.more
    where
      after : (before : RoomState) (a more : List (Placed Turn)) → room_after before (a ++ more) ≡ room_after (room_after before a) more
      after before [] more = refl
      after before (t ∷ a) more = after t.item.room a more

  pub sealed_least : (last_room x p).sealed ≤ (last_room x p').sealed
  sealed_least = let b = (since_law (last_room x p) [] g.more rooms_on).sealed in let e = ap (λ (r : RoomState). r.sealed) last_then in omega (arith, b, e)

  -- its own commits so far are of no epoch after the open one
  pub mine_below : All (λ c. c.epoch ≤ (last_room x p).sealed + 1) (mine p)
  mine_below =
      subst (All (λ c. c.epoch ≤ (last_room x p).sealed + 1)) (ap commits (sym g.own))
      (All-weaker (λ c. (x.room.sealed < c.epoch) × (c.epoch ≤ (last_room x p).sealed + 1)) (λ c. c.epoch ≤ (last_room x p).sealed + 1) (λ c h. h.1) (commits (by_seat p.number (turns p))) (commits_between p.number x.room (turns p) g.lawful.rooms))

  -- and those since are of the open one or a later one
  pub more_above : All (λ c. (last_room x p).sealed < c.epoch) (map (λ (e : ℕ × Commit). e.1) (placed_of os))
  more_above =
      subst (All (λ c. (last_room x p).sealed < c.epoch)) (sym (placed_commits p.number (length (seen p)) g.more) ∙ ap (map (λ (e : ℕ × Commit). e.1)) g.placed_is)
      (All-weaker (λ c. ((last_room x p).sealed < c.epoch) × (c.epoch ≤ (room_after (last_room x p) g.more).sealed + 1)) (λ c. (last_room x p).sealed < c.epoch) (λ c h. h.0) (commits (by_seat p.number g.more))
      (commits_between p.number (last_room x p) g.more rooms_on))

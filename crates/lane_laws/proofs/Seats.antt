-- The seats of a hall whose lanes were joined, and the turns of each.
use Rattle.std.proofs.Common.{◌≡◌, ◌≢◌, ◌⊎◌, inl, inr, ⊎_elim, ℕ, ◌+◌, ◌-◌, ◌<◌, ◌≤◌, List, [], ◌++◌, length, map, Option, Some, sym, ap, subst, ◌∙◌, arith}
use Rattle.std.specs.Prelude.{Contains, slice_get}
use Rattle.std.proofs.lemmas.List.{length-map, nil_from_length}
use Rattle.std.proofs.lemmas.List.Elements.{All-from_recursion}
use Rattle.std.proofs.lemmas.Option.{slice_get_cases}
use mathlib.Core.Option.{some}
use lib.ListN.{get_elem?}
use Rattle.fine_model.specs.declared.Options.{Options}
use Rattle.fine_model.specs.declared.Ran.{Ran}
use Rattle.fine_model.specs.declared.RunFault.{RunFault}
use Rattle.fine_model.specs.declared.ScriptTxn.{ScriptTxn}
use Rattle.fine_model.specs.History.{Commit}
use Rattle.fine_model.specs.Outcomes.{IsOneLane}
use Rattle.epoch_room.specs.Value.{RoomValue}
use Rattle.fine_places.specs.declared.model.Placed.{Placed}
use Rattle.fine_places.specs.History.{by_seat}
use Rattle.fine_hall.specs.declared.law.Beginning.{Beginning}
use Rattle.fine_hall.specs.declared.turn.Turn.{Turn}
use Rattle.fine_hall.specs.Passes.{mine, own_turns, turns}
use Rattle.fine_hall.specs.Turns.{commits, room_after}
use Rattle.fine_hall.proofs.Boarding.{of_number}
use Rattle.fine_hall.proofs.Turning.{none_own}
use Rattle.hall_rooms.specs.Rooms.{RoomPass}
use Rattle.lane_laws.specs.Joined.{LanesJoined}
use Rattle.lane_laws.specs.Lanes.{LaneValue}
use Rattle.lane_laws.specs.Placing.{placed_by}
use Rattle.lane_laws.specs.Quiet.{OpenOf, QuietBut, QuietOf}
use Rattle.lane_laws.proofs.Placing.{placed_commits, placed_only, placed_stays}
use Rattle.lane_laws.proofs.Quiet.{open_stays, open_together, quiet_first, quiet_stays, quiet_together}

-- ---- lists

-- a list whose items stand for none
none_of : {A B : Type 0} (f : A → B) (xs : List A) → map f xs ≡ [] → xs ≡ []
none_of f xs none = let n = ap length none in let m = length-map xs f in nil_from_length xs (omega (arith, n, m))

which_seat : (n m : ℕ) → 0 < n → n ≤ m + 2 → (n ≡ 1) ⊎ (n ≡ m + 2) ⊎ ((1 < n) × (n < m + 2))
which_seat n m above few = grind (arith, above, few)

module _ {x : Beginning} {script : List ScriptTxn} {options : Options} {old back new : RoomValue} {passes : List RoomPass} {workers : List LaneValue} {ended : List (Option RunFault)} {merger last : Option RunFault} {ran : Ran}
    (j : LanesJoined x script options old back new passes workers ended merger last ran) where
  -- ---- the passes

  -- each seat has a pass
  pub seat_pass : (n : ℕ) → 0 < n → n ≤ x.seats → (i : ℕ) × (p : RoomPass) × (get_elem? passes i ≡ some p) × (p.number ≡ n)
  seat_pass n above few = of_number x.seats passes j.all n above few

  -- a seat is the first one, the last one, or that of a worker
  pub seat_cases : (n : ℕ) → 0 < n → n ≤ x.seats → (n ≡ 1) ⊎ (n ≡ length workers + 2) ⊎ ((k : ℕ) × (w : LaneValue) × (slice_get workers k ≡ Some w) × (n ≡ k + 2))
  seat_cases n above few = by (which_seat n (length workers) above (let s = j.opens.seats_are in omega (arith, few, s)))
    where
      by : (n ≡ 1) ⊎ (n ≡ length workers + 2) ⊎ ((1 < n) × (n < length workers + 2)) → (n ≡ 1) ⊎ (n ≡ length workers + 2) ⊎ ((k : ℕ) × (w : LaneValue) × (slice_get workers k ≡ Some w) × (n ≡ k + 2))
      by (inl first) = inl first
      by (inr (inl end)) = inr (inl end)
      by (inr (inr (low, high))) = ⊎_elim
          (λ w. inr (inr (n - 2, w.0, w.2, omega (arith, low))))
          (λ past. let no = past.0 in absurd (omega (arith, low, high, no)))
          (slice_get_cases workers (n - 2)).1

  -- ---- the turns

  -- all turns begin with those that a pass saw, and none after these is its own
  pub saw_own : (i : ℕ) (p : RoomPass) → get_elem? passes i ≡ some p → (more : List (Placed Turn)) × (j.closes.all ≡ turns p ++ more) × (by_seat p.number more ≡ [])
  saw_own i p at = let s = j.closes.saw i p at in (s.0, s.1, none_own p.number (turns p) s.0 j.closes.all (own_turns p) s.1 (j.own i p at) (j.closes.parts i p at))

  -- so a pass knows all commits of its seat, with their places
  pub placed_all : (i : ℕ) (p : RoomPass) → get_elem? passes i ≡ some p → placed_by p.number 0 j.closes.all ≡ placed_by p.number 0 (turns p)
  placed_all i p at = let s = saw_own i p at in ap (placed_by p.number 0) s.1 ∙ placed_stays p.number (turns p) s.0 s.2

  pub mine_all : (i : ℕ) (p : RoomPass) → get_elem? passes i ≡ some p → map (λ (e : ℕ × Commit). e.1) (placed_by p.number 0 j.closes.all) ≡ mine p
  mine_all i p at = placed_commits p.number 0 j.closes.all ∙ ap commits (sym (j.closes.parts i p at))

  -- the seats beside those of workers commit nothing
  pub none_placed : (n : ℕ) → 0 < n → n ≤ x.seats → (n ≡ 1) ⊎ (n ≡ length workers + 2) → placed_by n 0 j.closes.all ≡ []
  none_placed n above few which =
      let s = seat_pass n above few in
      let none = (j.others s.0 s.1 s.2 (⊎_elim (λ e. inl (s.3 ∙ e)) (λ e. inr (s.3 ∙ e)) which)).0 in
      subst (λ m. placed_by m 0 j.closes.all ≡ []) s.3 (none_of (λ (e : ℕ × Commit). e.1) (placed_by s.1.number 0 j.closes.all) (mine_all s.0 s.1 s.2 ∙ none))

  -- so a commit is of a worker's seat
  pub worker_seat : (n : ℕ) → 0 < n → n ≤ x.seats → (e : ℕ × Commit) → Contains (placed_by n 0 j.closes.all) e → (k : ℕ) × (w : LaneValue) × (slice_get workers k ≡ Some w) × (n ≡ k + 2)
  worker_seat n above few e at = by (seat_cases n above few)
    where
      none : (n ≡ 1) ⊎ (n ≡ length workers + 2) → ⊥
      none which = let lt = (subst (λ (l : List (ℕ × Commit)). Contains l e) (none_placed n above few which) at).1 in omega (arith, lt)

      by : (n ≡ 1) ⊎ (n ≡ length workers + 2) ⊎ ((k : ℕ) × (w : LaneValue) × (slice_get workers k ≡ Some w) × (n ≡ k + 2)) → (k : ℕ) × (w : LaneValue) × (slice_get workers k ≡ Some w) × (n ≡ k + 2)
      by (inl first) = absurd (none (inl first))
      by (inr (inl end)) = absurd (none (inr end))
      by (inr (inr is)) = is

  pub turn_seat : (t : Placed Turn) → Contains j.closes.all t → (0 < t.seat) × (t.seat ≤ x.seats)
  turn_seat t at = subst (λ (u : Placed Turn). (0 < u.seat) × (u.seat ≤ x.seats)) at.2 (j.closes.authors at.0 t at.1)

  -- each commit of the history is at its place among those of a worker's seat
  pub worker_commit : (place : ℕ) (c : Commit) → slice_get (commits j.closes.all) place ≡ Some c → (k : ℕ) × (w : LaneValue) × (slice_get workers k ≡ Some w) × Contains (placed_by (k + 2) 0 j.closes.all) (place + 1, c)
  worker_commit place c is =
      let (t, within, at) = placed_only place c j.closes.all is in
      let seat = turn_seat t within in
      let s = worker_seat t.seat seat.0 seat.1 (place + 1, c) at in
      (s.0, s.1, s.2, subst (λ n. Contains (placed_by n 0 j.closes.all) (place + 1, c)) s.3 at)

  -- ---- quiet turns

  -- the first and the last seat's are
  pub quiet_beside : (n : ℕ) → 0 < n → n ≤ x.seats → (n ≡ 1) ⊎ (n ≡ length workers + 2) → QuietOf n x.room j.closes.all
  quiet_beside n above few which =
      let s = seat_pass n above few in
      let quiet = (j.others s.0 s.1 s.2 (⊎_elim (λ e. inl (s.3 ∙ e)) (λ e. inr (s.3 ∙ e)) which)).1 in
      let saw = saw_own s.0 s.1 s.2 in
      subst (λ m. QuietOf m x.room j.closes.all) s.3 (subst (QuietOf s.1.number x.room) (sym saw.1) (quiet_stays s.1.number x.room (turns s.1) saw.0 saw.2 quiet))

  -- so with one worker all are but the worker's
  pub quiet_alone : (k : ℕ) → ((m : ℕ) (v : LaneValue) → slice_get workers m ≡ Some v → m ≡ k) → QuietBut (k + 2) x.room j.closes.all
  quiet_alone k alone = quiet_together (k + 2) x.seats x.room j.closes.all j.closes.authors (λ n above few other. by n above few other (seat_cases n above few))
    where
      by : (n : ℕ) → 0 < n → n ≤ x.seats → n ≢ k + 2 → (n ≡ 1) ⊎ (n ≡ length workers + 2) ⊎ ((m : ℕ) × (v : LaneValue) × (slice_get workers m ≡ Some v) × (n ≡ m + 2)) → QuietOf n x.room j.closes.all
      by n above few other (inl first) = quiet_beside n above few (inl first)
      by n above few other (inr (inl end)) = quiet_beside n above few (inr end)
      by n above few other (inr (inr (m, v, at, is))) = absurd (other (is ∙ ap (λ i. i + 2) (alone m v at)))

  -- a script of one lane has one worker
  pub one_worker : IsOneLane script → (k : ℕ) (w : LaneValue) → slice_get workers k ≡ Some w → (m : ℕ) (v : LaneValue) → slice_get workers m ≡ Some v → m ≡ k
  one_worker one k w at m v at' = j.workers_are.once m k v w at' at (lane_of m v at' ∙ sym (lane_of k w at))
    where
      lane_of : (i : ℕ) (u : LaneValue) → slice_get workers i ≡ Some u → u.lane ≡ one.0
      lane_of i u is =
          let a = j.workers_are.only i u is in sym a.4 ∙ (ap (λ (t : ScriptTxn). t.lane) (sym a.3) ∙ All-from_recursion (λ (t : ScriptTxn). t.lane ≡ one.0) script one.1 a.0 a.1 a.2)

  -- so all turns are quiet but the worker's
  pub quiet_one : IsOneLane script → (k : ℕ) (w : LaneValue) → slice_get workers k ≡ Some w → QuietBut (k + 2) x.room j.closes.all
  quiet_one one k w at = quiet_alone k (one_worker one k w at)

  -- and those that its pass saw
  pub quiet_seen : IsOneLane script → (k : ℕ) (w : LaneValue) → slice_get workers k ≡ Some w → (i : ℕ) (p : RoomPass) → get_elem? passes i ≡ some p → p.number ≡ k + 2 → QuietBut p.number x.room (turns p)
  quiet_seen one k w at i p is number =
      let s = j.closes.saw i p is in
      quiet_first p.number x.room (turns p) s.0 (subst (QuietBut p.number x.room) s.1 (subst (λ n. QuietBut n x.room j.closes.all) (sym number) (quiet_one one k w at)))

  -- ---- a room that is left open

  -- where no seat's turns shut the room, it is as open at the end as at the beginning
  pub opened_all : ((i : ℕ) (p : RoomPass) → get_elem? passes i ≡ some p → OpenOf p.number x.room (turns p)) → (room_after x.room j.closes.all).is_shut ≡ x.room.is_shut
  opened_all each = open_together x.seats x.room j.closes.all j.closes.authors (λ n above few.
      let s = seat_pass n above few in
      let saw = saw_own s.0 s.1 s.2 in
      subst (λ m. OpenOf m x.room j.closes.all) s.3 (subst (OpenOf s.1.number x.room) (sym saw.1) (open_stays s.1.number x.room (turns s.1) saw.0 saw.2 (each s.0 s.1 s.2))))

-- The history of a run whose lanes were joined.
use Rattle.std.proofs.Common.{◌≡◌, ◌⊎◌, inl, inr, ⊎_elim, ℕ, zero, suc, ◌+◌, ◌<◌, ◌≤◌, ◌==◌, ◌&&◌, Bool, true, false, cond, List, [], ◌∷◌, ◌++◌, length, map, Option, Some, None, refl, sym, ap, subst, ◌∙◌, arith}
use Rattle.std.specs.Prelude.{All, Contains, count_by, option_map, slice_get, sum_by}
use Rattle.std.specs.List.{AllByRecursion, AllZip, cons_option, range_with_len}
use Rattle.std.proofs.lemmas.Bool.Decides.{eqb_tells}
use Rattle.std.proofs.lemmas.List.{length-map}
use Rattle.std.proofs.lemmas.List.Elements.{All-contains, All-contains_itself, All-from_recursion, All-head, All-tail, All-weaker, Contains-append_left, Contains-append_right}
use Rattle.std.proofs.lemmas.List.FromFn.{get_or-range_with_len, length-map-range_with_len, length-range_with_len}
use Rattle.std.proofs.lemmas.List.Sums.{sum_by-cons}
use Rattle.std.proofs.lemmas.Option.{none-some, same_Some, slice_get-get_or, slice_get-map, slice_get_cases, slice_get_read, slice_get_within}
use Rattle.fine_model.specs.declared.Entry.{Entry}
use Rattle.fine_model.specs.declared.Options.{Options}
use Rattle.fine_model.specs.declared.Outcome.{Outcome}
use Rattle.fine_model.specs.declared.Outcome.TheVariants as outcome
use Rattle.fine_model.specs.declared.Ran.{Ran}
use Rattle.fine_model.specs.declared.RunFault.{RunFault}
use Rattle.fine_model.specs.declared.ScriptTxn.{ScriptTxn}
use Rattle.fine_model.specs.History.{Commit}
use Rattle.fine_model.specs.Outcomes.{AreOutcomes, HasRun, InLaneOrder, IsCommittedAt, IsHistoryOf, IsOutcomeOf}
use Rattle.fine_model.specs.Report.{all_outcomes}
use Rattle.epoch_room.specs.Value.{RoomValue}
use Rattle.fine_places.specs.declared.model.Placed.{Placed}
use Rattle.fine_places.specs.History.{by_seat}
use Rattle.fine_hall.specs.declared.law.Beginning.{Beginning}
use Rattle.fine_hall.specs.declared.turn.Turn.{Turn}
use Rattle.fine_hall.specs.Passes.{mine}
use Rattle.fine_hall.specs.Turns.{added, commits, committed}
use Rattle.hall_rooms.specs.Rooms.{RoomPass}
use Rattle.run_laws.specs.Runs.{AreFewOfLanes, IsReplied}
use Rattle.lane_laws.specs.Joined.{LanesJoined}
use Rattle.lane_laws.specs.Lanes.{LaneValue, places_in}
use Rattle.lane_laws.specs.Placing.{placed_by, placed_if}
use Rattle.lane_laws.specs.Works.{ArePlaced, HasDone, Work, placed_in, placed_of}
use Rattle.lane_laws.proofs.Durable.{adds}
use Rattle.lane_laws.proofs.Faults.{as_told}
use Rattle.lane_laws.proofs.Places.{place_of, places_are, places_ascend, places_in_order}
use Rattle.lane_laws.proofs.Placing.{first_or, placed_at, placed_rise}
use Rattle.lane_laws.proofs.Seats.{mine_all, placed_all, turn_seat, worker_commit, worker_seat}
use Rattle.lane_laws.proofs.Works.{few_law, from_placed, in_placed, works_law, zip_from}

-- ---- lists

range_at : (a n k : ℕ) → k < n → slice_get (range_with_len a n) k ≡ Some (a + k)
range_at a n k lt = let long = length-range_with_len a n in slice_get-get_or (range_with_len a n) k 0 (omega (arith, long, lt)) ∙ ap Some (get_or-range_with_len a n k 0 lt)

mapped : {A B : Type 0} (f : A → B) (xs : List A) (k : ℕ) (y : B) → slice_get (map f xs) k ≡ Some y → (x : A) × (slice_get xs k ≡ Some x) × (f x ≡ y)
mapped f [] k y is = absurd (none-some y is)
mapped f (x ∷ xs) zero y is = (x, refl, same_Some (f x) y is)
mapped f (x ∷ xs) (suc k) y is = mapped f xs k y is

contains_map : {A B : Type 0} (f : A → B) (xs : List A) (x : A) → Contains xs x → Contains (map f xs) (f x)
contains_map f [] x (k, lt, is) = absurd (omega (arith, lt))
contains_map f (y ∷ xs) x (zero, lt, is) = (0, omega arith, ap f is)
contains_map f (y ∷ xs) x (suc k, lt, is) = let r = contains_map f xs x (k, omega (arith, lt), is) in (suc r.0, (let below = r.1 in omega (arith, below)), r.2)

at_contained : {A : Type 0} (xs : List A) (x : A) → Contains xs x → (k : ℕ) × (slice_get xs k ≡ Some x)
at_contained xs x at = (at.0, slice_get_read xs (length xs) at.0 x refl at.1 (sym at.2))

by_place : {A : Type 0} (P : A → Type 0) (xs : List A) → ((k : ℕ) (x : A) → slice_get xs k ≡ Some x → P x) → AllByRecursion P xs
by_place P [] each = tt
by_place P (x ∷ xs) each = (each 0 x refl, by_place P xs (λ k. each (suc k)))

some_counts : {A : Type 0} (f : A → ℕ) (xs : List A) → 0 < sum_by f xs → (k : ℕ) × (x : A) × (slice_get xs k ≡ Some x) × (0 < f x)
some_counts f [] lt = absurd (omega (arith, lt))
some_counts f (x ∷ xs) lt = by (f x) refl (some_counts f xs)
  where
    by : (n : ℕ) → f x ≡ n → (0 < sum_by f xs → (k : ℕ) × (y : _) × (slice_get xs k ≡ Some y) × (0 < f y)) → (k : ℕ) × (y : _) × (slice_get (x ∷ xs) k ≡ Some y) × (0 < f y)
    by zero is rest = let s = sum_by-cons f x xs in let r = rest (omega (arith, lt, s, is)) in (suc r.0, r.1, r.2, r.3)
    by (suc n) is rest = (0, x, refl, omega (arith, is))

-- ---- commits of outcomes, in their order

record InOrder (placed : List (ℕ × Commit)) (p q : ℕ) (a b : Commit) : Type 0 where
  r : ℕ
  s : ℕ
  before : r < s
  first : slice_get placed r ≡ Some (p, a)
  second : slice_get placed s ≡ Some (q, b)

with_first : (m : Option (ℕ × Commit)) (placed : List (ℕ × Commit)) (p q : ℕ) (a b : Commit) → InOrder placed p q a b → InOrder (cons_option m placed) p q a b
with_first None placed p q a b o = o
with_first (Some e) placed p q a b o = let lt = o.before in record { r = suc o.r; s = suc o.s; before = omega (arith, lt); first = o.first; second = o.second }

in_order : (done : List Outcome) (m n p q : ℕ) (a b : Commit) → m < n → IsCommittedAt done m p a → IsCommittedAt done n q b → InOrder (placed_of done) p q a b
in_order [] m n p q a b lt is_a is_b = absurd (none-some (outcome.Committed p a.epoch a.entry) is_a)
in_order (o ∷ done) m zero p q a b lt is_a is_b = absurd (omega (arith, lt))
in_order (o ∷ done) zero (suc n) p q a b lt is_a is_b =
    let t = at_contained {A = ℕ × Commit} (placed_of done) (q, b) (in_placed done n q b is_b) in
    subst (λ (u : Outcome). InOrder (cons_option (placed_in u) (placed_of done)) p q a b) (sym (same_Some o (outcome.Committed p a.epoch a.entry) is_a))
    (record { r = 0; s = suc t.0; before = omega arith; first = refl; second = t.1 })
in_order (o ∷ done) (suc m) (suc n) p q a b lt is_a is_b = with_first (placed_in o) (placed_of done) p q a b (in_order done m n p q a b (omega (arith, lt)) is_a is_b)

-- ---- entries of turns

is_itself : (m : ℕ) → (m == m) ≡ true
is_itself m = grind arith

-- a turn's entry is among the commits of its seat
turn_placed : (n : ℕ) (turns : List (Placed Turn)) (t : Placed Turn) (entry : Entry) → Contains turns t → t.item.entry ≡ Some entry → (place : ℕ) × Contains (placed_by t.seat n turns) (place, committed entry t.item.epoch)
turn_placed n [] t entry at is = let lt = at.1 in absurd (omega (arith, lt))
turn_placed n (u ∷ turns) t entry at is = ⊎_elim
    (λ same.
    let e : ℕ × Commit = (n + 1, committed entry t.item.epoch) in
    let here : Contains (placed_if true n (added (Some entry) t.item.epoch)) e = (0, omega arith, refl) in
    let rest = placed_by t.seat (n + length (added t.item.entry t.item.epoch)) turns in (
      n + 1,
      subst (λ (v : Placed Turn). Contains (placed_by t.seat n (v ∷ turns)) e) (sym same)
          (Contains-append_left (placed_if (t.seat == t.seat) n (added t.item.entry t.item.epoch)) rest e
          (subst (λ b. Contains (placed_if b n (added t.item.entry t.item.epoch)) e) (sym (is_itself t.seat)) (subst (λ (o : Option Entry). Contains (placed_if true n (added o t.item.epoch)) e) (sym is) here))),
    ))
    (λ later.
    let here = added u.item.entry u.item.epoch in
    let r = turn_placed (n + length here) turns t entry later is in
    (r.0, Contains-append_right (placed_if (u.seat == t.seat) n here) (placed_by t.seat (n + length here) turns) (r.0, committed entry t.item.epoch) r.1))
    (first_or u t turns at)

abbrev of_lane : ℕ → ℕ → Commit → Bool
of_lane lane e c = (c.entry.lane == lane) && (c.epoch == e)

abbrev of_epoch : ℕ → Commit → Bool
of_epoch e c = c.epoch == e

abbrev IsOfSeat : ℕ → ℕ → Placed Turn → Type 0
IsOfSeat seat lane t = (entry : Entry) → t.item.entry ≡ Some entry → entry.lane ≡ lane → t.seat ≡ seat

no_more : (a b : Bool) → cond (a && b) 1 0 ≤ cond b 1 0
no_more true b = omega arith
no_more false true = omega arith
no_more false false = omega arith

none_counts : (lane e : ℕ) (c : Commit) → (c.entry.lane == lane) ≡ false → ◌≡◌ {A = ℕ} (cond (of_lane lane e c) 1 0) 0
none_counts lane e c other = ap (λ b. cond (b && (c.epoch == e)) 1 0) other

-- where all entries of a lane are of one seat, this has no fewer
few_commit : (seat lane e : ℕ) (t : Placed Turn) (c : Commit) (rest own : List Commit) → (c.entry.lane ≡ lane → t.seat ≡ seat) → count_by (of_lane lane e) rest ≤ count_by (of_epoch e) own
    → count_by (of_lane lane e) (c ∷ rest) ≤ count_by (of_epoch e) (cond (t.seat == seat) (c ∷ own) own)
few_commit seat lane e t c rest own of few = ⊎_elim
    (λ here. subst (λ b. count_by (of_lane lane e) (c ∷ rest) ≤ count_by (of_epoch e) (cond b (c ∷ own) own)) (sym here.0)
    (let a = counted in let b = sum_by-cons (λ (d : Commit). cond (of_epoch e d) 1 0) c own in let m = no_more (c.entry.lane == lane) (c.epoch == e) in omega (arith, a, b, m, few)))
    (λ there. subst (λ b. count_by (of_lane lane e) (c ∷ rest) ≤ count_by (of_epoch e) (cond b (c ∷ own) own)) (sym there.0)
    (⊎_elim (λ is. absurd (there.1 (of is.1))) (λ is. let a = counted in let z = none_counts lane e c is.0 in omega (arith, a, z, few)) (eqb_tells c.entry.lane lane)))
    (eqb_tells t.seat seat)
  where
    counted : count_by (of_lane lane e) (c ∷ rest) ≡ cond (of_lane lane e c) 1 0 + count_by (of_lane lane e) rest
    counted = sum_by-cons (λ (d : Commit). cond (of_lane lane e d) 1 0) c rest

few_turn : (seat lane e : ℕ) (t : Placed Turn) (o : Option Entry) (rest own : List Commit) → ((entry : Entry) → o ≡ Some entry → entry.lane ≡ lane → t.seat ≡ seat) → count_by (of_lane lane e) rest ≤ count_by (of_epoch e) own
    → count_by (of_lane lane e) (added o t.item.epoch ++ rest) ≤ count_by (of_epoch e) (cond (t.seat == seat) (added o t.item.epoch ++ own) own)
few_turn seat lane e t (Some entry) rest own of few = few_commit seat lane e t (committed entry t.item.epoch) rest own (of entry refl) few
few_turn seat lane e t None rest own of few = by (t.seat == seat)
  where
    by : (b : Bool) → count_by (of_lane lane e) rest ≤ count_by (of_epoch e) (cond b own own)
    by true = few
    by false = few

few_turns : (seat lane e : ℕ) (turns : List (Placed Turn)) → All (IsOfSeat seat lane) turns → count_by (of_lane lane e) (commits turns) ≤ count_by (of_epoch e) (commits (by_seat seat turns))
unfolding commits
few_turns seat lane e [] all = omega arith
few_turns seat lane e (t ∷ turns) all =
    let rest = few_turns seat lane e turns (All-tail (IsOfSeat seat lane) t turns all) in
    subst (λ (l : List Commit). count_by (of_lane lane e) (commits (t ∷ turns)) ≤ count_by (of_epoch e) l) (by (t.seat == seat))
    (few_turn seat lane e t t.item.entry (commits turns) (commits (by_seat seat turns)) (All-head (IsOfSeat seat lane) t turns all) rest)
  where
    by : (b : Bool) → cond b (added t.item.entry t.item.epoch ++ commits (by_seat seat turns)) (commits (by_seat seat turns)) ≡ commits (cond b (t ∷ by_seat seat turns) (by_seat seat turns))
    by true = refl
    by false = refl

is_of_lane : (lane e : ℕ) (c : Commit) → 0 < cond (of_lane lane e c) 1 0 → c.entry.lane ≡ lane
is_of_lane lane e c some = ⊎_elim (λ is. is.1) (λ is. let z = none_counts lane e c is.0 in absurd (omega (arith, some, z))) (eqb_tells c.entry.lane lane)

-- ---- the run

module _ {x : Beginning} {script : List ScriptTxn} {options : Options} {old back new : RoomValue} {passes : List RoomPass} {workers : List LaneValue} {ended : List (Option RunFault)} {merger last : Option RunFault} {ran : Ran}
    (j : LanesJoined x script options old back new passes workers ended merger last ran) where
  -- ---- its works

  abbrev worker_places : List (List (ℕ × Commit))
  worker_places = map (λ k. placed_by (k + 2) 0 j.closes.all) (range_with_len 0 (length workers))

  places_at : (k : ℕ) → k < length workers → slice_get worker_places k ≡ Some (placed_by (k + 2) 0 j.closes.all)
  places_at k lt =
      let e : 0 + k ≡ k = omega arith in
      slice_get-map (λ n. placed_by (n + 2) 0 j.closes.all) (range_with_len 0 (length workers)) k
      ∙ ap (option_map (λ n. placed_by (n + 2) 0 j.closes.all)) (range_at 0 (length workers) k lt ∙ ap Some e)

  at_places : (k : ℕ) (own : List (ℕ × Commit)) → slice_get worker_places k ≡ Some own → (k < length workers) × (own ≡ placed_by (k + 2) 0 j.closes.all)
  at_places k own at =
      let long = length-map-range_with_len (λ n. placed_by (n + 2) 0 j.closes.all) 0 (length workers) in
      let lt = slice_get_within worker_places k own at in
      let below : k < length workers = omega (arith, long, lt) in
      (below, same_Some own (placed_by (k + 2) 0 j.closes.all) (sym at ∙ places_at k below))

  -- what a worker did, with the places that its commits have in the history
  pub worker_done : (k : ℕ) (w : LaneValue) → slice_get workers k ≡ Some w → HasDone script (placed_by (k + 2) 0 j.closes.all) w.work
  worker_done k w at =
      let l = j.lanes k w at in
      subst (λ (ps : List (ℕ × Commit)). HasDone script ps w.work) (sym (placed_all j l.0 l.1 l.2) ∙ ap (λ n. placed_by n 0 j.closes.all) l.3) l.4.has.done

  pub worker_at : (k : ℕ) (w : LaneValue) → slice_get workers k ≡ Some w → w.work.at ≡ places_in script w.lane
  worker_at k w at = (j.lanes k w at).4.has.at

  all_done : AllZip (HasDone script) worker_places (map (λ (w : LaneValue). w.work) workers)
  all_done = zip_from (HasDone script) worker_places (map (λ (w : LaneValue). w.work) workers)
      (length-map-range_with_len (λ n. placed_by (n + 2) 0 j.closes.all) 0 (length workers) ∙ sym (length-map workers (λ (w : LaneValue). w.work)))
      (λ k own v at is.
      let w = mapped (λ (u : LaneValue). u.work) workers k v is in
      subst (λ (ps : List (ℕ × Commit)). HasDone script ps v) (sym (at_places k own at).1) (subst (HasDone script (placed_by (k + 2) 0 j.closes.all)) w.2 (worker_done k w.0 w.1)))

  are_placed : ArePlaced (commits j.closes.all) worker_places
  are_placed = record {
    there = λ k place c own at within. placed_at (k + 2) place c j.closes.all (subst (λ (ps : List (ℕ × Commit)). Contains ps (place, c)) (at_places k own at).1 within);
    all = λ place c is. let s = worker_commit j place c is in (s.0, placed_by (s.0 + 2) 0 j.closes.all, places_at s.0 (slice_get_within workers s.0 s.1 s.2), s.3);
  }

  of_works : AllZip IsOutcomeOf script ran.outcomes × IsHistoryOf ran.outcomes (commits j.closes.all)
  of_works = works_law script (commits j.closes.all) worker_places (map (λ (w : LaneValue). w.work) workers) ran.outcomes all_done are_placed j.outcomes

  -- ---- its outcomes

  pub one_each : AllZip IsOutcomeOf script ran.outcomes
  one_each = of_works.0

  pub history_of : IsHistoryOf ran.outcomes (commits j.closes.all)
  history_of = of_works.1

  -- it has at most one commit a transaction
  pub few_commits : length (commits j.closes.all) ≤ length script
  few_commits = let few = few_law ran.outcomes (commits j.closes.all) history_of in let count = j.outcomes.count in omega (arith, few, count)

  -- some worker did a transaction, with this outcome
  pub record DoneBy (i : ℕ) (o : Outcome) : Type 0 where
    pub k : ℕ
    pub w : LaneValue
    pub worker : slice_get workers k ≡ Some w
    pub place : ℕ
    pub at : slice_get w.work.at place ≡ Some i
    pub done : slice_get w.work.done place ≡ Some o

  pub done_by : (i : ℕ) (o : Outcome) → slice_get ran.outcomes i ≡ Some o → (o ≡ outcome.NotRun) ⊎ DoneBy i o
  done_by i o is = ⊎_elim (λ none. inl none)
      (λ d.
      let w = mapped (λ (u : LaneValue). u.work) workers d.work d.is d.there in
      inr (record {
        k = d.work;
        w = w.0;
        worker = w.1;
        place = d.place;
        at = subst (λ (v : Work). slice_get v.at d.place ≡ Some i) (sym w.2) d.at;
        done = subst (λ (v : Work). slice_get v.done d.place ≡ Some o) (sym w.2) d.done;
      }))
      (j.outcomes.only i o is)

  pub done_outcome : (k : ℕ) (w : LaneValue) → slice_get workers k ≡ Some w → (place i : ℕ) (o : Outcome) → slice_get w.work.at place ≡ Some i → slice_get w.work.done place ≡ Some o → slice_get ran.outcomes i ≡ Some o
  done_outcome k w worker place i o at done = j.outcomes.done i o (record {
    work = k;
    place = place;
    is = w.work;
    there = slice_get-map (λ (u : LaneValue). u.work) workers k ∙ ap (option_map (λ (u : LaneValue). u.work)) worker;
    at = at;
    done = done;
  })

  pub lane_of_place : (k : ℕ) (w : LaneValue) → slice_get workers k ≡ Some w → (place i : ℕ) → slice_get w.work.at place ≡ Some i → (txn : ScriptTxn) × (slice_get script i ≡ Some txn) × (txn.lane ≡ w.lane)
  lane_of_place k w worker place i at = places_are script w.lane place i (subst (λ (l : List ℕ). slice_get l place ≡ Some i) (worker_at k w worker) at)

  -- what a worker did was run
  pub did_run : (k : ℕ) (w : LaneValue) → slice_get workers k ≡ Some w → (place i : ℕ) (o : Outcome) → slice_get w.work.at place ≡ Some i → slice_get w.work.done place ≡ Some o → HasRun o
  did_run k w worker place i o at done = let t = lane_of_place k w worker place i at in ((worker_done k w worker).each place i t.0 o at t.1 done).1

  none_left : (k : ℕ) (w : LaneValue) → slice_get workers k ≡ Some w → (place i : ℕ) (o : Outcome) → slice_get w.work.at place ≡ Some i → slice_get w.work.done place ≡ Some o → slice_get ran.outcomes i ≡ Some outcome.NotRun → ⊥
  none_left k w worker place i o at done not_run = subst HasRun (same_Some o outcome.NotRun (sym (done_outcome k w worker place i o at done) ∙ not_run)) (did_run k w worker place i o at done)

  -- of two transactions of its lane a worker has the earlier one before
  pub worker_order : (k : ℕ) (w : LaneValue) → slice_get workers k ≡ Some w → (m n a b : ℕ) → slice_get w.work.at m ≡ Some a → slice_get w.work.at n ≡ Some b → a < b → m < n
  worker_order k w worker m n a b at_m at_n before =
      places_in_order script w.lane m n a b (subst (λ (l : List ℕ). slice_get l m ≡ Some a) (worker_at k w worker) at_m) (subst (λ (l : List ℕ). slice_get l n ≡ Some b) (worker_at k w worker) at_n) before

  -- and the earlier one has the lower place in the script
  pub worker_ascend : (k : ℕ) (w : LaneValue) → slice_get workers k ≡ Some w → (m n a b : ℕ) → m < n → slice_get w.work.at m ≡ Some a → slice_get w.work.at n ≡ Some b → a < b
  worker_ascend k w worker m n a b before at_m at_n =
      places_ascend script w.lane m n a b before (subst (λ (l : List ℕ). slice_get l m ≡ Some a) (worker_at k w worker) at_m) (subst (λ (l : List ℕ). slice_get l n ≡ Some b) (worker_at k w worker) at_n)

  -- what is committed of a transaction's lane was done by its worker
  pub same_worker : (i l place : ℕ) (o : Outcome) (c : Commit) (a b : ScriptTxn) (d : DoneBy i o) → slice_get script i ≡ Some a → slice_get script l ≡ Some b → a.lane ≡ b.lane → IsCommittedAt ran.outcomes l place c
      → (m : ℕ) × (slice_get d.w.work.at m ≡ Some l) × IsCommittedAt d.w.work.done m place c
  same_worker i l place o c a b d is_a is_b lanes is = ⊎_elim
      (λ none. absurd (let e : outcome.Committed place c.epoch c.entry ≡ outcome.NotRun = none in cc))
      (λ (e : DoneBy l (outcome.Committed place c.epoch c.entry)).
      let s = lane_of_place d.k d.w d.worker d.place i d.at in
      let t = lane_of_place e.k e.w e.worker e.place l e.at in
      let lane : d.w.lane ≡ e.w.lane = sym s.2 ∙ (ap (λ (u : ScriptTxn). u.lane) (same_Some s.0 a (sym s.1 ∙ is_a)) ∙ (lanes ∙ (ap (λ (u : ScriptTxn). u.lane) (same_Some b t.0 (sym is_b ∙ t.1)) ∙ t.2))) in
      let k = j.workers_are.once d.k e.k d.w e.w d.worker e.worker lane in
      let w = same_Some d.w e.w (sym d.worker ∙ (ap (slice_get workers) k ∙ e.worker)) in
      (e.place, subst (λ (v : LaneValue). slice_get v.work.at e.place ≡ Some l) (sym w) e.at, subst (λ (v : LaneValue). IsCommittedAt v.work.done e.place place c) (sym w) e.done))
      (done_by l (outcome.Committed place c.epoch c.entry) is)

  -- places rise within a lane
  lanes_rise : (i l p q : ℕ) (a b : Commit) → InLaneOrder script i l → IsCommittedAt ran.outcomes i p a → IsCommittedAt ran.outcomes l q b → p < q
  lanes_rise i l p q a b order is_a is_b = ⊎_elim
      (λ none. absurd (let e : outcome.Committed p a.epoch a.entry ≡ outcome.NotRun = none in cc))
      (λ (d : DoneBy i (outcome.Committed p a.epoch a.entry)).
      let s = same_worker i l q (outcome.Committed p a.epoch a.entry) b order.1 order.2 d order.3 order.4 order.5 is_b in
      let o = in_order d.w.work.done d.place s.0 p q a b (worker_order d.k d.w d.worker d.place s.0 i l d.at s.1 order.0) d.done s.2 in
      let places = (worker_done d.k d.w d.worker).places in
      placed_rise (d.k + 2) o.r o.s p q a b j.closes.all o.before (subst (λ (ps : List (ℕ × Commit)). slice_get ps o.r ≡ Some (p, a)) (sym places) o.first)
      (subst (λ (ps : List (ℕ × Commit)). slice_get ps o.s ≡ Some (q, b)) (sym places) o.second))
      (done_by i (outcome.Committed p a.epoch a.entry) is_a)

  -- what a lane did not run are its last transactions
  last_ones : (i l : ℕ) → InLaneOrder script i l → slice_get ran.outcomes i ≡ Some outcome.NotRun → slice_get ran.outcomes l ≡ Some outcome.NotRun
  last_ones i l order not_run = ⊎_elim
      (λ u. ⊎_elim (λ none. u.2 ∙ ap Some none) (λ d. absurd (ran_first u.0 d)) (done_by l u.0 u.2))
      (λ past. let no = past.0 in let count = j.outcomes.count in let within = slice_get_within script l order.2 order.4 in absurd (omega (arith, no, count, within)))
      (slice_get_cases ran.outcomes l).1
    where
      ran_first : (o : Outcome) → DoneBy l o → ⊥
      ran_first o d =
          let t = lane_of_place d.k d.w d.worker d.place l d.at in
          let lane = sym t.2 ∙ (ap (λ (u : ScriptTxn). u.lane) (same_Some t.0 order.2 (sym t.1 ∙ order.4)) ∙ sym order.5) in
          let m = place_of script d.w.lane i order.1 order.3 (sym lane) in
          let at = subst (λ (l : List ℕ). slice_get l m.0 ≡ Some i) (sym (worker_at d.k d.w d.worker)) m.1 in
          let before = worker_order d.k d.w d.worker m.0 d.place i l at d.at order.0 in
          let within = slice_get_within d.w.work.done d.place o d.done in
          ⊎_elim
          (λ u. none_left d.k d.w d.worker m.0 i u.0 at u.2 not_run)
          (λ past. let no = past.0 in omega (arith, before, within, no))
          (slice_get_cases d.w.work.done m.0).1

  -- ---- its lanes

  -- what a worker commits is of its lane
  pub lane_of_commit : (k : ℕ) (w : LaneValue) → slice_get workers k ≡ Some w → (place : ℕ) (c : Commit) → Contains (placed_by (k + 2) 0 j.closes.all) (place, c) → c.entry.lane ≡ w.lane
  lane_of_commit k w worker place c at =
      let d = worker_done k w worker in
      let f = from_placed w.work.done place c (subst (λ (ps : List (ℕ × Commit)). Contains ps (place, c)) d.places at) in
      let short = slice_get_within w.work.done f.0 (outcome.Committed place c.epoch c.entry) f.1 in
      let count = d.count in
      ⊎_elim
      (λ i. let t = lane_of_place k w worker f.0 i.0 i.2 in (d.each f.0 i.0 t.0 (outcome.Committed place c.epoch c.entry) i.2 t.1 f.1).0.1 ∙ t.2)
      (λ past. let no = past.0 in absurd (omega (arith, short, count, no)))
      (slice_get_cases w.work.at f.0).1

  -- so each entry of a lane is of its worker's seat
  seat_of_lane : (k : ℕ) (w : LaneValue) → slice_get workers k ≡ Some w → All (IsOfSeat (k + 2) w.lane) j.closes.all
  seat_of_lane k w worker = All-weaker (Contains j.closes.all) (IsOfSeat (k + 2) w.lane) of (j.closes.all) (All-contains_itself j.closes.all)
    where
      of : (t : Placed Turn) → Contains j.closes.all t → IsOfSeat (k + 2) w.lane t
      of t at entry is lane =
          let placed = turn_placed 0 j.closes.all t entry at is in
          let seat = turn_seat j t at in
          let s = worker_seat j t.seat seat.0 seat.1 (placed.0, committed entry t.item.epoch) placed.1 in
          let other = lane_of_commit s.0 s.1 s.2 placed.0 (committed entry t.item.epoch) (subst (λ n. Contains (placed_by n 0 j.closes.all) (placed.0, committed entry t.item.epoch)) s.3 placed.1) in
          s.3 ∙ ap (λ n. n + 2) (j.workers_are.once s.0 k s.1 w s.2 worker (sym other ∙ lane))

  pub few_each : AreFewOfLanes options.group (commits j.closes.all)
  few_each lane e = by (count_by (of_lane lane e) (commits j.closes.all)) refl
    where
      few_of : (k : ℕ) (w : LaneValue) → slice_get workers k ≡ Some w → w.lane ≡ lane → count_by (of_lane lane e) (commits j.closes.all) ≤ options.group
      few_of k w worker same =
          let l = j.lanes k w worker in
          let mine_is : commits (by_seat (k + 2) j.closes.all) ≡ mine l.1 = ap (λ n. commits (by_seat n j.closes.all)) (sym l.3) ∙ ap commits (sym (j.closes.parts l.0 l.1 l.2)) in
          let few = few_turns (k + 2) w.lane e j.closes.all (seat_of_lane k w worker) in
          let most = l.4.few.most e in
          let own = ap (count_by (of_epoch e)) mine_is in
          let of_same = ap (λ n. count_by (of_lane n e) (commits j.closes.all)) same in
          omega (arith, few, most, own, of_same)

      by : (n : ℕ) → count_by (of_lane lane e) (commits j.closes.all) ≡ n → count_by (of_lane lane e) (commits j.closes.all) ≤ options.group
      by zero none = omega (arith, none)
      by (suc n) is =
          let c = some_counts (λ (d : Commit). cond (of_lane lane e d) 1 0) (commits j.closes.all) (omega (arith, is)) in
          let s = worker_commit j c.0 c.1 c.2 in
          few_of s.0 s.1 s.2 (sym (lane_of_commit s.0 s.1 s.2 (c.0 + 1) c.1 s.3) ∙ is_of_lane lane e c.1 c.3)

  -- ---- its replies

  pub replied : AllByRecursion IsReplied (commits j.closes.all)
  replied = by_place IsReplied (commits j.closes.all) (λ place c is.
      let s = worker_commit j place c is in
      let l = j.lanes s.0 s.1 s.2 in
      let at = contains_map (λ (e : ℕ × Commit). e.1) (placed_by (s.0 + 2) 0 j.closes.all) (place + 1, c) s.3 in
      let own = ap (λ n. map (λ (e : ℕ × Commit). e.1) (placed_by n 0 j.closes.all)) (sym l.3) ∙ mine_all j l.0 l.1 l.2 in
      All-contains IsReplied (mine l.1) c (All-from_recursion IsReplied (mine l.1) l.4.has.replied) (subst (λ (cs : List Commit). Contains cs c) own at))

  -- ---- the fields of a run

  pub outcomes : AreOutcomes script old.room.sealed (all_outcomes script ran.outcomes) (commits j.closes.all)
  outcomes = subst (λ (os : List Outcome). AreOutcomes script old.room.sealed os (commits j.closes.all)) (sym (as_told x script options old back new passes workers ended merger last ran j)) (record {
    one_each = one_each;
    history_of = history_of;
    epochs = (adds x script options old back new passes workers ended merger last ran j).epochs;
    lanes = lanes_rise;
    last_ones = last_ones;
  })

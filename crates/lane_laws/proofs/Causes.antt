-- Why transactions of a run of lanes were refused.
use Rattle.std.proofs.Common.{◌≡◌, ◌⊎◌, inl, inr, ⊎_elim, ℕ, zero, suc, ◌+◌, ◌<◌, ◌≤◌, nat_le, true, false, cond, List, [], ◌∷◌, ◌++◌, length, map, Option, Some, Ok, Err, refl, sym, ap, subst, ◌∙◌, arith}
use Rattle.std.specs.Prelude.{Contains, count_by, option_map, slice_get, take}
use Rattle.std.proofs.lemmas.List.{length-append, take-append-le}
use Rattle.std.proofs.lemmas.List.Elements.{Contains-append_cases}
use Rattle.std.proofs.lemmas.List.Sums.{sum_by-cons}
use Rattle.std.proofs.lemmas.Option.{same_Some, slice_get_cases, slice_get_within}
use mathlib.Core.Option.{some}
use lib.ListN.{get_elem?}
use Rattle.log_disk.specs.Disk.{Told}
use Rattle.fine_model.specs.declared.Options.{Options}
use Rattle.fine_model.specs.declared.Outcome.{Outcome}
use Rattle.fine_model.specs.declared.Outcome.TheVariants as outcome
use Rattle.fine_model.specs.declared.Ran.{Ran}
use Rattle.fine_model.specs.declared.Row.{Row}
use Rattle.fine_model.specs.declared.RunFault.{RunFault}
use Rattle.fine_model.specs.declared.ScriptTxn.{ScriptTxn}
use Rattle.fine_model.specs.declared.Why.{Why}
use Rattle.fine_model.specs.declared.Why.TheVariants as why
use Rattle.fine_model.specs.declared.law.Origin.{Origin}
use Rattle.fine_model.specs.declared.law.RoomState.{RoomState}
use Rattle.fine_model.specs.Becomes.{IsStuck}
use Rattle.fine_model.specs.Buckets.{Began}
use Rattle.fine_model.specs.Causes.{AfterSome, HasCause, HasNoRoom, HaveCauses, IsLastOfLane}
use Rattle.fine_model.specs.History.{Commit, all_rows}
use Rattle.fine_model.specs.Merge.{cost}
use Rattle.fine_model.specs.Outcomes.{IsCommittedAt, IsOneLane}
use Rattle.fine_model.specs.Pushed.{all_pushed}
use Rattle.fine_model.specs.Report.{all_outcomes}
use Rattle.fine_model.specs.Room.{HoldsLive}
use Rattle.fine_model.specs.RowBytes.{greatest, short_header}
use Rattle.fine_model.proofs.Histories.Goings.{stuck_full}
use Rattle.epoch_room.specs.Meaning.{Stands, StandsTold, origin_of}
use Rattle.epoch_room.specs.Value.{RoomValue}
use Rattle.fine_places.specs.declared.model.Placed.{Placed}
use Rattle.fine_hall.specs.declared.law.Beginning.{Beginning}
use Rattle.fine_hall.specs.declared.turn.Turn.{Turn}
use Rattle.fine_hall.specs.Passes.{seen, turns}
use Rattle.fine_hall.specs.Turns.{commits}
use Rattle.fine_hall.proofs.Bucket.{commits_more}
use Rattle.fine_hall.proofs.Counting.{counts_all}
use Rattle.hall_rooms.specs.Rooms.{RoomPass}
use Rattle.run_laws.specs.Runs.{AddsHistory, OfSound}
use Rattle.run_laws.proofs.Runs.{image_told, told_of}
use Rattle.lane_laws.specs.Joined.{LaneDone, LanesJoined}
use Rattle.lane_laws.specs.Lanes.{CauseAt, IsSpentAt, LaneValue, RefusedAt}
use Rattle.lane_laws.specs.Works.{placed_of}
use Rattle.lane_laws.proofs.Durable as durable
use Rattle.lane_laws.proofs.Faults.{as_told}
use Rattle.lane_laws.proofs.History.{DoneBy, done_by, few_commits, same_worker, worker_ascend, worker_order}
use Rattle.lane_laws.proofs.Needs.{history_mine}
use Rattle.lane_laws.proofs.Placing.{placed_commits}
use Rattle.lane_laws.proofs.Rooms as rooms
use Rattle.lane_laws.proofs.Seats.{quiet_seen}

-- ---- commits whose turns are at most a number

low_turn : (n m : ℕ) → n ≤ m → nat_le n m ≡ true
low_turn n m h = grind (arith, h)

high_turn : (n m : ℕ) → m < n → nat_le n m ≡ false
high_turn n m h = grind (arith, h)

counted_in : (n : ℕ) (c : Commit) (cs : List Commit) → c.entry.turn ≤ n → count_by (λ (d : Commit). nat_le d.entry.turn n) (c ∷ cs) ≡ count_by (λ (d : Commit). nat_le d.entry.turn n) cs + 1
counted_in n c cs low =
    let s = sum_by-cons (λ (d : Commit). cond (nat_le d.entry.turn n) 1 0) c cs in
    let one : ◌≡◌ {A = ℕ} (cond (nat_le c.entry.turn n) 1 0) 1 = ap {B = ℕ} (λ b. cond b 1 0) (low_turn c.entry.turn n low) in
    omega (arith, s, one)

counted_out : (n : ℕ) (c : Commit) (cs : List Commit) → n < c.entry.turn → count_by (λ (d : Commit). nat_le d.entry.turn n) (c ∷ cs) ≡ count_by (λ (d : Commit). nat_le d.entry.turn n) cs
counted_out n c cs high =
    let s = sum_by-cons (λ (d : Commit). cond (nat_le d.entry.turn n) 1 0) c cs in
    let none : ◌≡◌ {A = ℕ} (cond (nat_le c.entry.turn n) 1 0) 0 = ap {B = ℕ} (λ b. cond b 1 0) (high_turn c.entry.turn n high) in
    omega (arith, s, none)

-- the commits of outcomes, without their places
abbrev commits_of : List Outcome → List Commit
commits_of done = map (λ (e : ℕ × Commit). e.1) (placed_of done)

none_counted : (n : ℕ) (done : List Outcome) → ((m place : ℕ) (c : Commit) → IsCommittedAt done m place c → n < c.entry.turn) → count_by (λ (c : Commit). nat_le c.entry.turn n) (commits_of done) ≡ 0
none_counted n [] high = refl
none_counted n (outcome.Committed place epoch entry ∷ done) high =
    counted_out n (record { entry = entry; epoch = epoch }) (commits_of done) (high 0 place (record { entry = entry; epoch = epoch }) refl) ∙ none_counted n done (λ m. high (suc m))
none_counted n (outcome.Aborted ∷ done) high = none_counted n done (λ m. high (suc m))
none_counted n (outcome.Refused word ∷ done) high = none_counted n done (λ m. high (suc m))
none_counted n (outcome.NotRun ∷ done) high = none_counted n done (λ m. high (suc m))

-- those of the first outcomes, where their turns are at most the number, and all later ones are greater
counted : (n k : ℕ) (done : List Outcome) → ((m place : ℕ) (c : Commit) → m < k → IsCommittedAt done m place c → c.entry.turn ≤ n) → ((m place : ℕ) (c : Commit) → k ≤ m → IsCommittedAt done m place c → n < c.entry.turn)
    → length (placed_of (take k done)) ≡ count_by (λ (c : Commit). nat_le c.entry.turn n) (commits_of done)
counted n zero done low high = sym (none_counted n done (λ m place c is. high m place c (omega arith) is))
counted n (suc k) [] low high = refl
counted n (suc k) (outcome.Committed place epoch entry ∷ done) low high =
    let here = counted_in n (record { entry = entry; epoch = epoch }) (commits_of done) (low 0 place (record { entry = entry; epoch = epoch }) (omega arith) refl) in
    let rest = counted n k done (λ m place c lt. low (suc m) place c (omega (arith, lt))) (λ m place c le. high (suc m) place c (omega (arith, le))) in
    omega (arith, here, rest)
counted n (suc k) (outcome.Aborted ∷ done) low high = counted n k done (λ m place c lt. low (suc m) place c (omega (arith, lt))) (λ m place c le. high (suc m) place c (omega (arith, le)))
counted n (suc k) (outcome.Refused word ∷ done) low high = counted n k done (λ m place c lt. low (suc m) place c (omega (arith, lt))) (λ m place c le. high (suc m) place c (omega (arith, le)))
counted n (suc k) (outcome.NotRun ∷ done) low high = counted n k done (λ m place c lt. low (suc m) place c (omega (arith, lt))) (λ m place c le. high (suc m) place c (omega (arith, le)))

module _ {x : Beginning} {script : List ScriptTxn} {options : Options} {old back new : RoomValue} {passes : List RoomPass} {workers : List LaneValue} {ended : List (Option RunFault)} {merger last : Option RunFault} {ran : Ran}
    (j : LanesJoined x script options old back new passes workers ended merger last ran) where
  abbrev history : List Commit
  history = commits j.closes.all

  -- ---- the room at the end

  new_counts : new.room.places ≡ length history
  new_counts = j.seals.places ∙ j.closes.places

  -- a turn without a number left, or with a room that takes nothing, leaves the end so
  spent_end : (t : Placed Turn) → Contains j.closes.all t → IsSpentAt t.item.room → ran.durable ≡ greatest
  spent_end t there spent =
      let b = (rooms.of_turn x script options old back new passes workers ended merger last ran j t there).1 in
      let same = j.durable in
      ⊎_elim
      (λ high. let up = b.sealed in let most = rooms.sealed_few x script options old back new passes workers ended merger last ran j in omega (arith, high, up, most, same))
      (λ high. let up = b.places in let few = few_commits j in let short = j.fits.few in let count = new_counts in absurd (omega (arith, high, up, few, short, count)))
      spent

  stuck_end : (t : Placed Turn) → Contains j.closes.all t → IsStuck t.item.room → IsStuck new.room
  stuck_end t there is = ((rooms.of_turn x script options old back new passes workers ended merger last ran j t there).1.stuck is).stuck

  -- on a sound log such a room has no room for what was pushed
  no_room : (after : Told) → new.disk.told ≡ Some after → (first : List Row) (e : ℕ) → Began (origin_of old.entry) e first → Stands old first e [] → IsStuck new.room → HasNoRoom old.room.region_len after.bytes (first ++ all_rows history)
  no_room after told first e began stands is =
      subst (λ n. HasNoRoom n after.bytes (first ++ all_rows history)) len
      (stuck_full new.room after.bytes (first ++ all_rows history) (ap (λ (r : RoomState). r.image) j.seals.whole.of_disk ∙ ap (option_map (λ (t : Told). t.bytes)) told) is live)
    where
      adds : AddsHistory old new history
      adds = durable.adds x script options old back new passes workers ended merger last ran j

      len : new.room.region_len ≡ old.room.region_len
      len = (rooms.becomes x script options old back new passes workers ended merger last ran j).region_len

      now : (before : Told) × StandsTold new.room before after first e history
      now =
          let again = image_told new.entry began.image (ap (λ (o : Origin). o.image) adds.beside.origin ∙ began.told) in
          (again.0, told_of new again.0 after first e history again.1 told (adds.has.stands first e began stands))

      live : HoldsLive new.room after.bytes (first ++ all_rows history)
      live = subst (λ (h : List Commit). HoldsLive new.room after.bytes (first ++ all_rows h))
          (counts_all x new.room history (durable.counts x script options old back new passes workers ended merger last ran j) is.none_waits) now.1.stands.live

  -- ---- a transaction that was refused

  module _ (i : ℕ) (txn : ScriptTxn) (word : Why) (is_txn : slice_get script i ≡ Some txn) (d : DoneBy j i (outcome.Refused word)) where
    -- its worker's pass
    abbrev n : ℕ
    n = (j.lanes d.k d.w d.worker).0

    abbrev p : RoomPass
    p = (j.lanes d.k d.w d.worker).1

    at : get_elem? passes n ≡ some p
    at = (j.lanes d.k d.w d.worker).2

    number : p.number ≡ d.k + 2
    number = (j.lanes d.k d.w d.worker).3

    lane : LaneDone x (turns j.first) script options.group p d.w
    lane = (j.lanes d.k d.w d.worker).4

    refused : RefusedAt x (turns j.first) p d.w.work.done d.place txn.calls word
    refused = lane.has.refused d.place i txn word d.at is_txn d.done

    -- ---- the commits before it

    saw : (more : List Commit) × (history ≡ seen p ++ more)
    saw = let s = j.closes.saw n p at in (commits s.0, ap commits s.1 ∙ commits_more (turns p) s.0)

    within : refused.k ≤ length history
    within = let long = ap length saw.1 ∙ length-append (seen p) saw.0 in let few = refused.within in omega (arith, long, few)

    taken : take refused.k (seen p) ≡ take refused.k history
    taken = sym (ap (take refused.k) saw.1 ∙ take-append-le refused.k (seen p) saw.0 refused.within)

    -- the turn of a commit of its worker is the number of its transaction
    turn_of : (m place : ℕ) (c : Commit) → IsCommittedAt d.w.work.done m place c → (l : ℕ) × (slice_get d.w.work.at m ≡ Some l) × (c.entry.turn ≡ l + 1)
    turn_of m place c is = ⊎_elim
        (λ l. (l.0, l.2, lane.has.done.numbered m l.0 place c l.2 is))
        (λ past. let no = past.0 in let short = slice_get_within d.w.work.done m (outcome.Committed place c.epoch c.entry) is in let count = lane.has.done.count in absurd (omega (arith, no, short, count)))
        (slice_get_cases d.w.work.at m).1

    low : (m place : ℕ) (c : Commit) → m < d.place → IsCommittedAt d.w.work.done m place c → c.entry.turn ≤ i
    low m place c before is = let t = turn_of m place c is in let lt = worker_ascend j d.k d.w d.worker m d.place t.0 i before t.1 d.at in let turn = t.2 in omega (arith, lt, turn)

    high : (m place : ℕ) (c : Commit) → d.place ≤ m → IsCommittedAt d.w.work.done m place c → i < c.entry.turn
    high m place c from is =
        let t = turn_of m place c is in
        let turn = t.2 in
        ⊎_elim
        (λ same. let e = same_Some i t.0 (sym d.at ∙ (ap (slice_get d.w.work.at) same ∙ t.1)) in omega (arith, e, turn))
        (λ later. let lt = worker_ascend j d.k d.w d.worker d.place m i t.0 later d.at t.1 in omega (arith, lt, turn))
        (which d.place m from)
      where
        which : (a b : ℕ) → a ≤ b → (a ≡ b) ⊎ (a < b)
        which a b le = grind (arith, le)

    -- of one lane they are those that its worker committed before
    exact : IsOneLane script → refused.k ≡ count_by (λ (c : Commit). nat_le c.entry.turn i) history
    exact one =
        refused.exact (quiet_seen j one d.k d.w d.worker n p at number)
        ∙ (counted i d.place d.w.work.done low high
        ∙ ap (count_by (λ (c : Commit). nat_le c.entry.turn i))
        (ap (map (λ (e : ℕ × Commit). e.1)) (sym lane.has.done.places) ∙ (placed_commits p.number 0 (turns p) ∙ (ap commits (sym (j.own n p at)) ∙ sym (history_mine j one d.k d.w d.worker n p at number)))))

    after_some : (P : ℕ → Type 0) → P refused.k → AfterSome script ran.outcomes history i P
    after_some P holds = record {
      k = refused.k;
      within = within;
      behind = λ l place c order is.
          let s = same_worker j i l place (outcome.Refused word) c order.2 order.1 d order.4 order.3 (sym order.5) is in refused.behind s.0 place c (worker_order j d.k d.w d.worker s.0 d.place l i s.1 d.at order.0) s.2;
      ahead = λ l place c order is.
          let s = same_worker j i l place (outcome.Refused word) c order.1 order.2 d order.3 order.4 order.5 is in refused.ahead s.0 place c (worker_order j d.k d.w d.worker d.place s.0 i l d.at s.1 order.0) s.2;
      exact = exact;
      holds = holds;
    }

    -- ---- its cause

    -- after one for a full log its lane committed nothing more
    last_of_lane : word ≡ why.Full → IsLastOfLane script ran.outcomes i
    last_of_lane full l place c order is =
        let s = same_worker j i l place (outcome.Refused word) c order.1 order.2 d order.3 order.4 order.5 is in
        let later = worker_order j d.k d.w d.worker d.place s.0 i l d.at s.1 order.0 in
        let before = lane.has.full_last d.place s.0 place c (d.done ∙ ap (λ o. Some (outcome.Refused o)) full) s.2 in
        omega (arith, later, before)

    -- the turns that showed it are among all
    shown : (t : Placed Turn) → Contains (turns p ++ turns j.first) t → Contains j.closes.all t
    shown t there = ⊎_elim
        (λ own. rooms.saw_turn x script options old back new passes workers ended merger last ran j n p t at own)
        (λ of_first. rooms.saw_turn x script options old back new passes workers ended merger last ran j j.first_is.0 j.first t j.first_is.1 of_first)
        (Contains-append_cases (turns p) (turns j.first) t there)

    module _ (after : Told) (told : new.disk.told ≡ Some after) (first : List Row) (e : ℕ) (began : Began (origin_of old.entry) e first) (stands : Stands old first e []) where
      same_len : x.room.region_len ≡ old.room.region_len
      same_len = rooms.same_len x script options old back new passes workers ended merger last ran j

      cause : (o : Why) → CauseAt x.room.region_len (first ++ all_rows (take refused.k (seen p))) (turns p ++ turns j.first) txn.calls o → (o ≡ why.Full → IsLastOfLane script ran.outcomes i)
          → HasCause old.room.region_len first after.bytes script ran.outcomes history ran.durable i txn.calls o
      cause why.Large (rows, pushed, long) is_last =
          after_some _ (rows, subst (λ (h : List Commit). all_pushed (first ++ all_rows h) txn.calls ≡ Ok rows) taken pushed, subst (λ m. m < short_header + cost rows) same_len long)
      cause why.Bucket is is_last = after_some _ (subst (λ (h : List Commit). all_pushed (first ++ all_rows h) txn.calls ≡ Err why.Bucket) taken is)
      cause why.Number (inl is) is_last = inl (after_some _ (subst (λ (h : List Commit). all_pushed (first ++ all_rows h) txn.calls ≡ Err why.Number) taken is))
      cause why.Number (inr (t, there, spent)) is_last = inr (spent_end t (shown t there) spent)
      cause why.Full (t, there, is) is_last = (no_room after told first e began stands (stuck_end t (shown t there) is), is_last refl)

      has_cause : HasCause old.room.region_len first after.bytes script ran.outcomes history ran.durable i txn.calls word
      has_cause = cause word (refused.holds e first (subst (λ (log : Origin). Began log e first) (sym j.opens.log) began)) last_of_lane

  pub causes : (after : Told) → new.disk.told ≡ Some after → OfSound old (λ first e. HaveCauses old.room.region_len first after.bytes script (all_outcomes script ran.outcomes) (commits j.closes.all) ran.durable)
  causes after told first e began stands =
      subst (λ (os : List Outcome). HaveCauses old.room.region_len first after.bytes script os (commits j.closes.all) ran.durable) (sym (as_told x script options old back new passes workers ended merger last ran j))
      (record {
        each = λ i txn word is_txn is. ⊎_elim
            (λ none. absurd (let e : outcome.Refused word ≡ outcome.NotRun = none in cc))
            (λ d. has_cause i txn word is_txn d after told first e began stands)
            (done_by j i (outcome.Refused word) is);
      })

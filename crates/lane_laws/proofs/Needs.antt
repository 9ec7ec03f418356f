-- Why epochs were sealed, in a run of a script of one lane.
use Rattle.std.proofs.Common.{◌≡◌, ⊎_elim, ℕ, ◌+◌, List, [], ◌∷◌, Option, Some, refl, sym, ap, subst, ◌∙◌, arith}
use Rattle.std.specs.Prelude.{slice_get}
use Rattle.std.proofs.lemmas.Option.{none-some, slice_get_cases, slice_get_within}
use mathlib.Core.Option.{some}
use lib.ListN.{get_elem?}
use Rattle.fine_model.specs.declared.Options.{Options}
use Rattle.fine_model.specs.declared.Outcome.{Outcome}
use Rattle.fine_model.specs.declared.Outcome.TheVariants as outcome
use Rattle.fine_model.specs.declared.Ran.{Ran}
use Rattle.fine_model.specs.declared.Row.{Row}
use Rattle.fine_model.specs.declared.RunFault.{RunFault}
use Rattle.fine_model.specs.declared.ScriptTxn.{ScriptTxn}
use Rattle.fine_model.specs.declared.Why.TheVariants as why
use Rattle.fine_model.specs.declared.law.Origin.{Origin}
use Rattle.fine_model.specs.Buckets.{Began}
use Rattle.fine_model.specs.Causes.{IsFirstFull, IsFullInNeed, IsRefusedInNeed}
use Rattle.fine_model.specs.History.{Commit}
use Rattle.fine_model.specs.Outcomes.{IsOneLane}
use Rattle.fine_model.specs.Report.{all_outcomes}
use Rattle.epoch_room.specs.Meaning.{origin_of}
use Rattle.epoch_room.specs.Value.{RoomValue}
use Rattle.fine_hall.specs.declared.law.Beginning.{Beginning}
use Rattle.fine_hall.specs.Passes.{mine, seen, turns}
use Rattle.fine_hall.specs.Turns.{commits}
use Rattle.hall_rooms.specs.Rooms.{RoomPass}
use Rattle.run_laws.specs.Needs.{AreSealedInNeed}
use Rattle.run_laws.specs.Runs.{OfSound}
use Rattle.lane_laws.specs.Joined.{LanesJoined}
use Rattle.lane_laws.specs.Lanes.{LaneValue, NeedsSoFar}
use Rattle.lane_laws.specs.Quiet.{QuietBut}
use Rattle.lane_laws.proofs.Faults.{as_told}
use Rattle.lane_laws.proofs.History.{DoneBy, done_by, done_outcome, worker_ascend}
use Rattle.lane_laws.proofs.Quiet.{quiet_commits}
use Rattle.lane_laws.proofs.Rooms.{same_len, same_sealed}
use Rattle.lane_laws.proofs.Seats.{quiet_one, quiet_seen, worker_commit}

-- a history without a first commit is empty
empty : (history : List Commit) → ((c : Commit) → slice_get history 0 ≡ Some c → ⊥) → history ≡ []
empty [] none = refl
empty (c ∷ history) none = absurd (none c refl)

-- an empty one has no epoch
none_sealed : (region_len group above : ℕ) → AreSealedInNeed region_len group above []
none_sealed region_len group above e next high is = absurd (none-some next is)

module _ {x : Beginning} {script : List ScriptTxn} {options : Options} {old back new : RoomValue} {passes : List RoomPass} {workers : List LaneValue} {ended : List (Option RunFault)} {merger last : Option RunFault} {ran : Ran}
    (j : LanesJoined x script options old back new passes workers ended merger last ran) (one : IsOneLane script) where
  -- ---- the worker

  module _ (k : ℕ) (w : LaneValue) (worker : slice_get workers k ≡ Some w) where
    -- it made the whole history
    pub history_mine : (i : ℕ) (p : RoomPass) → get_elem? passes i ≡ some p → p.number ≡ k + 2 → commits j.closes.all ≡ mine p
    history_mine i p at number =
        quiet_commits p.number x.room j.closes.all (subst (λ n. QuietBut n x.room j.closes.all) (sym number) (quiet_one j one k w worker)) ∙ ap commits (sym (j.closes.parts i p at))

    -- and its pass saw it
    pub history_seen : (i : ℕ) (p : RoomPass) → get_elem? passes i ≡ some p → p.number ≡ k + 2 → commits j.closes.all ≡ seen p
    history_seen i p at number =
        history_mine i p at number ∙ (ap commits (j.own i p at) ∙ sym (quiet_commits p.number x.room (turns p) (quiet_seen j one k w worker i p at number)))

    -- on a sound log it sealed epochs in need
    record HasNeeds (first : List Row) : Type 0 where
      p : RoomPass
      saw : commits j.closes.all ≡ seen p
      needs : NeedsSoFar script options.group x p w first

    has_needs : (e : ℕ) (first : List Row) → Began x.log e first → HasNeeds first
    has_needs e first began =
        let (i, p, at, number, done) = j.lanes k w worker in
        record { p = p; saw = history_seen i p at number; needs = done.needs (quiet_seen j one k w worker i p at number) e first began }

  began_by : (e : ℕ) (first : List Row) → Began (origin_of old.entry) e first → Began x.log e first
  began_by e first began = subst (λ (log : Origin). Began log e first) (sym j.opens.log) began

  len_is : x.room.region_len ≡ old.room.region_len
  len_is = same_len x script options old back new passes workers ended merger last ran j

  sealed_is : x.room.sealed ≡ old.room.sealed
  sealed_is = same_sealed x script options old back new passes workers ended merger last ran j

  -- ---- each epoch that another one follows

  pub in_need : OfSound old (λ first e. AreSealedInNeed old.room.region_len options.group old.room.sealed (commits j.closes.all))
  in_need first e began stands = subst (λ n. AreSealedInNeed n options.group old.room.sealed (commits j.closes.all)) len_is
      (subst (λ n. AreSealedInNeed x.room.region_len options.group n (commits j.closes.all)) sealed_is
      (⊎_elim
      (λ w. let n = has_needs 0 w.0 w.2 e first (began_by e first began) in subst (AreSealedInNeed x.room.region_len options.group x.room.sealed) (sym n.saw) n.needs.so_far.each)
      (λ past. let no = past.0 in
      subst (AreSealedInNeed x.room.region_len options.group x.room.sealed)
      (sym (empty (commits j.closes.all) (λ c is. let s = worker_commit j 0 c is in let lt = slice_get_within workers s.0 s.1 s.2 in omega (arith, lt, no))))
      (none_sealed x.room.region_len options.group x.room.sealed))
      (slice_get_cases workers 0).1))

  -- ---- the epoch before the first transaction that is refused as full

  -- the first one of the script is the first one of its worker
  first_of_worker : (i : ℕ) (d : DoneBy j i (outcome.Refused why.Full)) → IsFirstFull ran.outcomes i → IsFirstFull d.w.work.done d.place
  first_of_worker i d is_first = (
    d.done,
    λ m before is. ⊎_elim
        (λ a. is_first.1 a.0 (worker_ascend j d.k d.w d.worker m d.place a.0 i before a.2 d.at) (done_outcome j d.k d.w d.worker m a.0 (outcome.Refused why.Full) a.2 is))
        (λ past. let no = past.0 in let within = slice_get_within d.w.work.done d.place (outcome.Refused why.Full) d.done in let count = (j.lanes d.k d.w d.worker).4.has.done.count in omega (arith, no, before, within, count))
        (slice_get_cases d.w.work.at m).1,
  )

  refused_in_need : (first : List Row) (e : ℕ) → Began x.log e first → (i : ℕ) (txn : ScriptTxn) → IsFirstFull ran.outcomes i → slice_get script i ≡ Some txn
      → IsRefusedInNeed x.room.region_len options.group x.room.sealed first (commits j.closes.all) txn.calls
  refused_in_need first e began i txn is_first is_txn = ⊎_elim
      (λ none. absurd (let e : outcome.Refused why.Full ≡ outcome.NotRun = none in cc))
      (λ d.
      let n = has_needs d.k d.w d.worker e first began in
      subst (λ (h : List Commit). IsRefusedInNeed x.room.region_len options.group x.room.sealed first h txn.calls) (sym n.saw) (n.needs.full d.place i txn (first_of_worker i d is_first) d.at is_txn))
      (done_by j i (outcome.Refused why.Full) is_first.0)

  pub last_need : OfSound old (λ first e. IsFullInNeed old.room.region_len options.group old.room.sealed first script (all_outcomes script ran.outcomes) (commits j.closes.all))
  last_need first e began stands =
      subst (λ (os : List Outcome). IsFullInNeed old.room.region_len options.group old.room.sealed first script os (commits j.closes.all)) (sym (as_told x script options old back new passes workers ended merger last ran j))
      (subst (λ n. IsFullInNeed n options.group old.room.sealed first script ran.outcomes (commits j.closes.all)) len_is
      (subst (λ n. IsFullInNeed x.room.region_len options.group n first script ran.outcomes (commits j.closes.all)) sealed_is (refused_in_need first e (began_by e first began))))

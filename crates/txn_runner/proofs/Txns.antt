-- What a transaction leaves at its exits, from what the calls in it said.
use Rattle.std.proofs.Common.{◌≡◌, inl, inr, ℕ, ◌-◌, ◌<◌, ◌≤◌, Bool, true, false, is_some, List, refl, sym, ap, ◌∙◌, subst, Option, Some, None, Ok, Err, arith}
use Rattle.std.specs.Prelude.{Result, slice_set}
use Rattle.std.specs.List.{AllByRecursion}
use Rattle.fine_model.specs.declared.Call.{Call}
use Rattle.fine_model.specs.declared.Ending.TheVariants as ending
use Rattle.fine_model.specs.declared.Mark.TheVariants as mark
use Rattle.fine_model.specs.declared.Outcome.{Outcome}
use Rattle.fine_model.specs.declared.Outcome.TheVariants as outcome
use Rattle.fine_model.specs.declared.RunFault.{RunFault}
use Rattle.fine_model.specs.declared.ScriptTxn.{ScriptTxn}
use Rattle.fine_model.specs.declared.Why.{Why}
use Rattle.fine_model.specs.declared.law.RoomState.{RoomState}
use Rattle.fine_model.specs.RowBytes.{FitsRow, greatest}
use Rattle.txn_draft.specs.Drafts.{DraftValue, blank}
use Rattle.open_txn.specs.Buckets.{BucketsValue}
use Rattle.open_txn.proofs.Ended.{abort_law}
use Rattle.run_laws.specs.Lanes.{EndsLane, IsLane, fault_of}
use Rattle.txn_runner.specs.Body.{IsHeld, RunnerValue, body}
use Rattle.txn_runner.specs.Steps.{Answers, BehindTxns, EndsGroup, Reads, RunsTxn, SealsAll, TakesBack, Tries, TriesToCommit, refused_as}
use Rattle.txn_runner.proofs.Running as running
use Rattle.txn_runner.proofs.Trying as trying

-- ---- its calls, and its commit

module _ (old read : RunnerValue) (before mid : BucketsValue) (d : DraftValue) (txn : ScriptTxn) (turn : ℕ) (calls : List Call) (same : calls ≡ txn.calls) (answered : Result (Option Why) RunFault)
    (answers : (group : ℕ) → Answers group (body old before) (body read mid) d calls answered) (no_job : old.room.room.job ≡ None) where
  as_is : (r : Result (Option Why) RunFault) → answered ≡ r → (group : ℕ) → Answers group (body old before) (body read mid) d txn.calls r
  as_is r is group = subst (Answers group (body old before) (body read mid) d txn.calls) is (subst (λ cs. Answers group (body old before) (body read mid) d cs answered) same (answers group))

  held_by : Reads (body old before) (body read mid) → IsHeld read.room.room read.view
  held_by r = (r.shelf, ap (λ (x : RoomState). x.job) r.later.room ∙ no_job)

  module _ (refusal : Option Why) (ok : answered ≡ Ok refusal) where
    module _ (none : refusal ≡ None) where
      all : (group : ℕ) → Answers group (body old before) (body read mid) d txn.calls (Ok None)
      all group = as_is (Ok None) (ok ∙ ap (λ r. Ok r) none) group

      pub held : IsHeld read.room.room read.view
      held = held_by (all 1).0

      pub places : old.room.room.places < greatest → read.room.room.places < greatest
      places few = let e = ap (λ (x : RoomState). x.places) (all 1).0.later.room in omega (arith, e, few)

      pub rows : AllByRecursion (FitsRow mark.Two) d.rows
      rows = (all 1).2.fits.fit

      pub is_open : d.failed ≡ false
      is_open = (all 1).2.not_failed

      pub commits : (started : DraftValue) → (d.lane ≡ started.lane) × (d.turn ≡ started.turn) → started ≡ blank txn.lane turn → txn.ending ≡ ending.Commit → (new : RunnerValue) (after : BucketsValue) (result : Result Outcome RunFault)
          → IsHeld new.room.room new.view × ((group : ℕ) → 1 ≤ group → TriesToCommit group (body read mid) (body new after) d result)
          → IsHeld new.room.room new.view × ((group : ℕ) → 1 ≤ group → Tries group (body old before) (body new after) txn turn result)
      commits started place is_blank is new after result t = (
        t.0,
        λ group some. trying.commits abort_law group (body old before) (body read mid) d txn turn (all group) (body new after) (place.0 ∙ ap (λ (x : DraftValue). x.lane) is_blank) (place.1 ∙ ap (λ (x : DraftValue). x.turn) is_blank) is result
            (t.1 group some),
      )

      pub aborts : txn.ending ≡ ending.Abort → (after : BucketsValue) → TakesBack (body read mid) (body read after) → IsHeld read.room.room read.view × ((group : ℕ) → 1 ≤ group → Tries group (body old before) (body read after) txn turn (Ok outcome.Aborted))
      aborts is after back = (held, λ group some. trying.aborts abort_law group (body old before) (body read mid) d txn turn (all group) (body read after) back is)

    pub refuses : (word : Why) → refusal ≡ Some word → (next : Outcome) → next ≡ refused_as txn.ending word → IsHeld read.room.room read.view × ((group : ℕ) → 1 ≤ group → Tries group (body old before) (body read mid) txn turn (Ok next))
    refuses word some_word next is = (
      held_by (refused 1).0,
      λ group some. subst (λ o. Tries group (body old before) (body read mid) txn turn (Ok o)) (sym is) (trying.refuses_reading group (body old before) (body read mid) d txn turn word (refused group)),
    )
      where
        refused : (group : ℕ) → Answers group (body old before) (body read mid) d txn.calls (Ok (Some word))
        refused group = as_is (Ok (Some word)) (ok ∙ ap (λ r. Ok r) some_word) group

  pub fails : (fault : RunFault) → answered ≡ Err fault → IsHeld read.room.room read.view × ((group : ℕ) → 1 ≤ group → Tries group (body old before) (body read mid) txn turn (Err fault))
  fails fault err = (held_by (as_is (Err fault) err 1).0, λ group some. trying.fails_reading group (body old before) (body read mid) d txn turn fault (as_is (Err fault) err group))

-- ---- behind it

module _ (group turn : ℕ) (some : 1 ≤ group) (txn : ScriptTxn) (is_lane : IsLane txn.lane) (old mid : RunnerValue) (before between : BucketsValue) (none : fault_of old.ended txn.lane ≡ None) (result : Result Outcome RunFault)
    (tries : IsHeld mid.room.room mid.view × ((group : ℕ) → 1 ≤ group → Tries group (body old before) (body mid between) txn turn result)) where
  pub ran : (next : Outcome) → result ≡ Ok next → (new : RunnerValue) → ((buckets : BucketsValue) → EndsGroup group (body mid buckets) (body new buckets) txn.lane)
      → BehindTxns group turn (body old before) (λ entry done. RunsTxn group entry done txn next (body old before) (body new between))
  ran next ok new ends = running.ran group turn some txn is_lane (body old before) none (body mid between) next (subst (Tries group (body old before) (body mid between) txn turn) ok (tries.1 group some)) (body new between) (ends between)

  pub lane_ended : (fault : RunFault) → result ≡ Err fault → (inside : RunnerValue) → inside ≡ mid → (ended : List (Option RunFault)) → ended ≡ slice_set inside.ended (txn.lane - 1) (Some fault) → EndsLane inside.ended ended txn.lane fault
      → BehindTxns group turn (body old before) (λ entry done. RunsTxn group entry done txn outcome.NotRun (body old before) (body (record { room = inside.room; view = inside.view; full = inside.full; ended = ended }) between))
  lane_ended fault err inside is ended set ends = running.ended group turn some txn is_lane (body old before) none (body mid between) fault (subst (Tries group (body old before) (body mid between) txn turn) err (tries.1 group some))
      (body (record { room = inside.room; view = inside.view; full = inside.full; ended = ended }) between)
      (ap (λ (v : RunnerValue). body (record { room = v.room; view = v.view; full = v.full; ended = ended }) between) is)
      (subst (λ (v : RunnerValue). EndsLane v.ended ended txn.lane fault) is ends)
      (subst (λ (v : RunnerValue). ended ≡ slice_set v.ended (txn.lane - 1) (Some fault)) is set)

-- its lane had ended
pub not_run : (group turn : ℕ) → 1 ≤ group → (txn : ScriptTxn) → IsLane txn.lane → (inside old : RunnerValue) → inside ≡ old → (buckets : BucketsValue) (has : Bool) → has ≡ is_some (fault_of inside.ended txn.lane) → has ≡ true
    → BehindTxns group turn (body old buckets) (λ entry done. RunsTxn group entry done txn outcome.NotRun (body old buckets) (body old buckets))
not_run group turn some txn is_lane inside old is buckets has told ended = running.not_run group turn some txn is_lane (body old buckets) (sym (ap (λ (v : RunnerValue). is_some (fault_of v.ended txn.lane)) is) ∙ sym told ∙ ended)

-- a group is not full
pub not_full : (inside old : RunnerValue) → inside ≡ old → (group lane : ℕ) (buckets : BucketsValue) (waiting : ℕ) → waiting ≡ inside.room.room.waiting → (n : ℕ) → n ≡ group → waiting < n → EndsGroup group (body old buckets) (body old buckets) lane
not_full inside old is group lane buckets waiting counted n same few = inl (refl, (let e = ap (λ (v : RunnerValue). v.room.room.waiting) is in omega (arith, e, counted, same, few)))

-- a full group was sealed, or its seal failed and ended the lane
pub full_group : (inside old : RunnerValue) → inside ≡ old → (group waiting : ℕ) → waiting ≡ inside.room.room.waiting → (n : ℕ) → n ≡ group → n ≤ waiting → group ≤ old.room.room.waiting
full_group inside old is group waiting counted n same full = let e = ap (λ (v : RunnerValue). v.room.room.waiting) is in omega (arith, e, counted, same, full)

pub group_sealed : (group : ℕ) (old sealed : RunnerValue) → group ≤ old.room.room.waiting → (lane : ℕ) (buckets : BucketsValue) (result : Result (Unit {0}) RunFault)
    → ((buckets : BucketsValue) → SealsAll (body old buckets) (body sealed buckets) result) → (u : Unit {0}) → result ≡ Ok u → EndsGroup group (body old buckets) (body sealed buckets) lane
group_sealed group old sealed full lane buckets result seals u ok = inr (full, inl (subst (SealsAll (body old buckets) (body sealed buckets)) ok (seals buckets)))

pub group_failed : (old sealed : RunnerValue) (buckets : BucketsValue) (result : Result (Unit {0}) RunFault) → ((buckets : BucketsValue) → SealsAll (body old buckets) (body sealed buckets) result) → (fault : RunFault) → result ≡ Err fault
    → (inside : RunnerValue) → inside ≡ sealed → (group lane : ℕ) → group ≤ old.room.room.waiting → (ended : List (Option RunFault)) → ended ≡ slice_set inside.ended (lane - 1) (Some fault) → EndsLane inside.ended ended lane fault
    → EndsGroup group (body old buckets) (body (record { room = inside.room; view = inside.view; full = inside.full; ended = ended }) buckets) lane
group_failed old sealed buckets result seals fault err inside is group lane full ended set ends = inr (
  full,
  inr (
    body sealed buckets,
    fault,
    record {
      seals = subst (SealsAll (body old buckets) (body sealed buckets)) err (seals buckets);
      ends = subst (λ (v : RunnerValue). EndsLane v.ended ended lane fault) is ends;
      set = subst (λ (v : RunnerValue). ended ≡ slice_set v.ended (lane - 1) (Some fault)) is set;
      rest = ap (λ (v : RunnerValue). body (record { room = v.room; view = v.view; full = v.full; ended = ended }) buckets) is;
    },
  ),
)

-- where the group is full some wait
pub enough : (inside old : RunnerValue) → inside ≡ old → (waiting : ℕ) → waiting ≡ inside.room.room.waiting → (n group : ℕ) → n ≡ group → 1 ≤ group → n ≤ waiting → 1 ≤ old.room.room.waiting
enough inside old is waiting counted n group same some full = let e = ap (λ (v : RunnerValue). v.room.room.waiting) is in omega (arith, e, counted, same, some, full)

-- What the calls of a transaction leave at their exits, from what the calls in them said.
use Rattle.std.proofs.Common.{◌≡◌, ℕ, false, ◌<◌, ◌≤◌, List, refl, sym, ap, ◌∙◌, subst, Option, Some, None, Ok, Err}
use Rattle.std.specs.Prelude.{OnOk, IfErr, Result}
use Rattle.fine_model.specs.declared.Call.{Call}
use Rattle.fine_model.specs.declared.FetchFault.{FetchFault}
use Rattle.fine_model.specs.declared.FetchFault.TheVariants as fetch_fault
use Rattle.fine_model.specs.declared.Outcome.{Outcome}
use Rattle.fine_model.specs.declared.Outcome.TheVariants as outcome
use Rattle.fine_model.specs.declared.Row.{Row}
use Rattle.fine_model.specs.declared.RunFault.{RunFault}
use Rattle.fine_model.specs.declared.Why.{Why}
use Rattle.fine_model.specs.declared.law.Origin.{Origin}
use Rattle.fine_model.specs.History.{Commit}
use Rattle.fine_model.specs.Merge.{cost}
use Rattle.fine_model.specs.RowBytes.{greatest}
use Rattle.btree_nodes.specs.Calls.{OnCleanAnswer}
use Rattle.btree_nodes.specs.declared.fault.TreeFault.{TreeFault}
use Rattle.txn_draft.specs.Answers.{FailsBy}
use Rattle.txn_draft.specs.Drafts.{DraftValue}
use Rattle.partition_hold.specs.Sources as source
use Rattle.partition_hold.specs.Sources.{tells_rows}
use Rattle.partition_hold.specs.Views.{ViewValue}
use Rattle.epoch_room.specs.Fitting.{fit_of}
use Rattle.epoch_room.specs.Steps.{appended}
use Rattle.epoch_room.specs.Value.{RoomValue}
use Rattle.epoch_room.specs.Whole.{IsWhole}
use Rattle.epoch_room.specs.declared.answers.Fit.TheVariants as fit
use Rattle.room_shelf.specs.Shelves.{IsShelf, sight}
use Rattle.open_txn.specs.Buckets.{BucketsValue}
use Rattle.open_txn.specs.Opened as opened
use Rattle.open_txn.specs.Opened.{AnswersCalls, IsOpen, IsRefusal}
use Rattle.open_txn.proofs.Ended.{abort_law, follows_law}
use Rattle.txn_runner.specs.Body.{Body, IsHeld, RunnerValue, body}
use Rattle.txn_runner.specs.Steps.{Answers, AnswersCached, Appends, Looks, MakesPlace, TakesBack, TriesToCommit, of_fetch, of_tree}
use Rattle.txn_runner.proofs.Answering as answering
use Rattle.txn_runner.proofs.Commits as commit

-- ---- answering calls

module _ (old looked : RunnerValue) (looking : Result ViewValue FetchFault) (looks : (buckets : BucketsValue) → Looks (body old buckets) (body looked buckets) looking) (before : BucketsValue) (d : DraftValue) (calls : List Call) where
  pub lacks : (fault : FetchFault) → looking ≡ Err fault → (told : RunFault) → told ≡ of_fetch fault → (group : ℕ) → Answers group (body old before) (body looked before) d calls (Err told)
  lacks fault err told is group = subst (λ t. Answers group (body old before) (body looked before) d calls (Err t)) (sym is)
      (answering.lacks_view group (body old before) (body looked before) d calls fault (subst (Looks (body old before) (body looked before)) err (looks before)))

  module _ (inside : RunnerValue) (is : inside ≡ looked) (view : ViewValue) (ok : looking ≡ Ok view) (read : ViewValue) (later : source.IsLater view read) (now : BucketsValue) (answer : Result (Unit {0}) TreeFault)
      (clean : OnCleanAnswer answer (source.IsClean view read)) where
    -- the runner with its view in its place again
    abbrev again : RunnerValue
    again = record { room = inside.room; view = Some read; full = inside.full; ended = inside.ended }

    looks_ok : Looks (body old before) (body looked before) (Ok view)
    looks_ok = subst (Looks (body old before) (body looked before)) ok (looks before)

    through : answering.Through (body old before) (body (record { room = looked.room; view = Some read; full = looked.full; ended = looked.ended }) before) view (source.IsClean view read) (λ failed. source.Fails view failed read)
    through = answering.through_view (body old before) (body looked before) view read looks_ok later

    pub answers : (u : Unit {0}) → answer ≡ Ok u → OnOk answer (AnswersCalls calls d)
        → OnOk answer ((log : Origin) (low : ℕ) (history : List Commit) → opened.IsReady (tells_rows view) view.upto log low before history → IsOpen log low history before now d)
        → (group : ℕ) → Answers group (body old before) (body again now) d calls (Ok None)
    answers u is_ok all open_now group = subst (λ (v : RunnerValue). Answers group (body old before) (body (record { room = v.room; view = Some read; full = v.full; ended = v.ended }) now) d calls (Ok None)) (sym is)
        (answering.answered (body old before) (body (record { room = looked.room; view = Some read; full = looked.full; ended = looked.ended }) before) view (source.IsClean view read) (λ failed. source.Fails view failed read) through now d calls group
        (subst (λ (a : Result (Unit {0}) TreeFault). OnCleanAnswer a (source.IsClean view read)) is_ok clean)
        (subst (λ (a : Result (Unit {0}) TreeFault). OnOk a (AnswersCalls calls d)) is_ok all)
        (subst (λ (a : Result (Unit {0}) TreeFault).
        OnOk a ((log : Origin) (low : ℕ) (history : List Commit) → opened.IsReady (tells_rows view) view.upto log low before history → IsOpen log low history before now d)) is_ok open_now))

    pub refuses : (fault : TreeFault) → answer ≡ Err fault → IfErr answer (FailsBy (λ failed. source.Fails view failed read))
        → IfErr answer (λ f. (log : Origin) (low : ℕ) (history : List Commit) → opened.IsReady (tells_rows view) view.upto log low before history → IsRefusal log low history before now calls f)
        → (new : BucketsValue) → TakesBack (body again now) (body again new) → (told : Result (Option Why) RunFault) → told ≡ of_tree fault → (group : ℕ) → Answers group (body old before) (body again new) d calls told
    refuses fault is_err fails refused new back told is_told group = subst (Answers group (body old before) (body again new) d calls) (sym is_told)
        (subst (λ (v : RunnerValue).
        TakesBack (body (record { room = v.room; view = Some read; full = v.full; ended = v.ended }) now) (body (record { room = v.room; view = Some read; full = v.full; ended = v.ended }) new)
        → Answers group (body old before) (body (record { room = v.room; view = Some read; full = v.full; ended = v.ended }) new) d calls (of_tree fault)) (sym is)
        (λ taken. answering.takes_back (body old before) (body (record { room = looked.room; view = Some read; full = looked.full; ended = looked.ended }) before) view (source.IsClean view read) (λ failed. source.Fails view failed read) through now d calls (body (record { room = looked.room; view = Some read; full = looked.full; ended = looked.ended }) new) taken fault
        (subst (λ (a : Result (Unit {0}) TreeFault).
        IfErr a (λ f. (log : Origin) (low : ℕ) (history : List Commit) → opened.IsReady (tells_rows view) view.upto log low before history → IsRefusal log low history before now calls f)) is_err refused)
        group
        (subst (λ (a : Result (Unit {0}) TreeFault). OnCleanAnswer a (source.IsClean view read)) is_err clean)
        (subst (λ (a : Result (Unit {0}) TreeFault). IfErr a (FailsBy (λ failed. source.Fails view failed read))) is_err fails)) back)

-- ---- by the nodes that are cached

module _ (old : RunnerValue) (whole : IsWhole old.room) (on_shelf : IsShelf old.room.room old.view) (open_room : old.room.room.is_shut ≡ false) (before now : BucketsValue) (d : DraftValue) (calls : List Call) (Clean : Type 0) where
  through_cached : answering.Through (body old before) (body old before) (sight old.room) Clean (λ failed. failed ≡ fetch_fault.NoMemory)
  through_cached = answering.through_cached (body old before) Clean whole on_shelf open_room

  all_answered : (group : ℕ) → Clean → AnswersCalls calls d
      → ((log : Origin) (low : ℕ) (history : List Commit) → opened.IsReady (tells_rows (sight old.room)) old.room.room.sealed log low before history → IsOpen log low history before now d)
      → Answers group (body old before) (body old now) d calls (Ok None)
  all_answered group clean all open_now = answering.answered (body old before) (body old before) (sight old.room) Clean (λ failed. failed ≡ fetch_fault.NoMemory) through_cached now d calls group clean all open_now

  module _ (new : BucketsValue) (back : TakesBack (body old now) (body old new)) (fault : TreeFault)
      (refused : (log : Origin) (low : ℕ) (history : List Commit) → opened.IsReady (tells_rows (sight old.room)) old.room.room.sealed log low before history → IsRefusal log low history before now calls fault) where
    one_refused : (group : ℕ) → OnCleanAnswer {A = Unit {0}} (Err fault) Clean → FailsBy (λ failed. failed ≡ fetch_fault.NoMemory) fault → Answers group (body old before) (body old new) d calls (of_tree fault)
    one_refused group clean fails = answering.takes_back (body old before) (body old before) (sight old.room) Clean (λ failed. failed ≡ fetch_fault.NoMemory) through_cached now d calls (body old new) back fault refused group clean fails

    one_missed : (group : ℕ) → AnswersCached group (body old before) (body old new) d calls None
    one_missed group entry history ready b =
        answering.stand_back (body old before) (body old before) (sight old.room) Clean (λ failed. failed ≡ fetch_fault.NoMemory) through_cached now d calls (body old new) back fault refused entry history ready b.going.goes b.stand

-- what the source is made of: the room of the runner, which is opened before its parts are used
module _ (old inside : RunnerValue) (is : inside ≡ old) (nodes : RoomValue) (of_room : nodes ≡ inside.room) (whole : IsWhole inside.room) (on_shelf : IsShelf old.room.room old.view) (open_room : old.room.room.is_shut ≡ false) (before now : BucketsValue) (d : DraftValue) (calls : List Call)
    (answer : Result (Unit {0}) TreeFault) (Clean : Type 0) (clean : OnCleanAnswer answer Clean) where
  whole_old : IsWhole old.room
  whole_old = subst (λ (v : RunnerValue). IsWhole v.room) is whole

  nodes_are : nodes ≡ old.room
  nodes_are = of_room ∙ ap (λ (v : RunnerValue). v.room) is

  pub answers_cached : (u : Unit {0}) → answer ≡ Ok u → OnOk answer (AnswersCalls calls d)
      → OnOk answer ((log : Origin) (low : ℕ) (history : List Commit) → opened.IsReady (tells_rows (sight nodes)) nodes.room.sealed log low before history → IsOpen log low history before now d)
      → (group : ℕ) → AnswersCached group (body old before) (body old now) d calls (Some (Ok None))
  answers_cached u is_ok all open_now group = all_answered old whole_old on_shelf open_room before now d calls Clean group
      (subst (λ (a : Result (Unit {0}) TreeFault). OnCleanAnswer a Clean) is_ok clean)
      (subst (λ (a : Result (Unit {0}) TreeFault). OnOk a (AnswersCalls calls d)) is_ok all)
      (subst (λ (a : Result (Unit {0}) TreeFault).
      OnOk a ((log : Origin) (low : ℕ) (history : List Commit) → opened.IsReady (tells_rows (sight old.room)) old.room.room.sealed log low before history → IsOpen log low history before now d)) is_ok
      (subst (λ (r : RoomValue).
      OnOk answer ((log : Origin) (low : ℕ) (history : List Commit) → opened.IsReady (tells_rows (sight r)) r.room.sealed log low before history → IsOpen log low history before now d)) nodes_are open_now))

  module _ (fault : TreeFault) (is_err : answer ≡ Err fault) (fails : IfErr answer (FailsBy (λ failed. failed ≡ fetch_fault.NoMemory)))
      (refused : IfErr answer (λ f. (log : Origin) (low : ℕ) (history : List Commit) → opened.IsReady (tells_rows (sight nodes)) nodes.room.sealed log low before history → IsRefusal log low history before now calls f))
      (new : BucketsValue) (back : TakesBack (body old now) (body old new)) where
    refused_by : (log : Origin) (low : ℕ) (history : List Commit) → opened.IsReady (tells_rows (sight old.room)) old.room.room.sealed log low before history → IsRefusal log low history before now calls fault
    refused_by = subst (λ (a : Result (Unit {0}) TreeFault).
        IfErr a (λ f. (log : Origin) (low : ℕ) (history : List Commit) → opened.IsReady (tells_rows (sight old.room)) old.room.room.sealed log low before history → IsRefusal log low history before now calls f)) is_err
        (subst (λ (r : RoomValue).
        IfErr answer (λ f. (log : Origin) (low : ℕ) (history : List Commit) → opened.IsReady (tells_rows (sight r)) r.room.sealed log low before history → IsRefusal log low history before now calls f)) nodes_are refused)

    pub refuses_cached : (told : Result (Option Why) RunFault) → told ≡ of_tree fault → (group : ℕ) → AnswersCached group (body old before) (body old new) d calls (Some told)
    refuses_cached told is_told group = subst (Answers group (body old before) (body old new) d calls) (sym is_told)
        (one_refused old whole_old on_shelf open_room before now d calls Clean new back fault refused_by group
        (subst (λ (a : Result (Unit {0}) TreeFault). OnCleanAnswer a Clean) is_err clean)
        (subst (λ (a : Result (Unit {0}) TreeFault). IfErr a (FailsBy (λ failed. failed ≡ fetch_fault.NoMemory))) is_err fails))

    pub misses_cached : (group : ℕ) → AnswersCached group (body old before) (body old new) d calls None
    misses_cached = one_missed old whole_old on_shelf open_room before now d calls Clean new back fault refused_by

-- ---- and then through the view

pub answered_cached : (group : ℕ) (old new : Body) (d : DraftValue) (calls : List Call) (tried : Option (Result (Option Why) RunFault)) (result : Result (Option Why) RunFault) → tried ≡ Some result → AnswersCached group old new d calls tried → Answers group old new d calls result
answered_cached group old new d calls tried result some a = subst (AnswersCached group old new d calls) some a

pub answered_then : (group : ℕ) (old : RunnerValue) (before between : BucketsValue) (tried : DraftValue) (calls : List Call) (cached : Option (Result (Option Why) RunFault)) → cached ≡ None → AnswersCached group (body old before) (body old between) tried calls cached
    → (new : RunnerValue) (after : BucketsValue) (d : DraftValue) (result : Result (Option Why) RunFault) → Answers group (body old between) (body new after) d calls result → Answers group (body old before) (body new after) d calls result
answered_then group old before between tried calls cached none a new after d result answers = answering.answers_from group (body old before) between (body new after) d calls result
    (subst (AnswersCached group (body old before) (body old between) tried calls) none a) answers

-- ---- the commit

appended_held : (room : RoomValue) (rows : List Row) → (appended room rows).room.job ≡ room.room.job
unfolding appended
appended_held room rows = refl

module _ (old made : RunnerValue) (n : ℕ) (d : DraftValue) (is_cost : n ≡ cost d.rows) (result : Result (Option Why) RunFault) (makes : (buckets : BucketsValue) → MakesPlace n (body old buckets) (body made buckets) result) (before : BucketsValue) where
  makes_as : (r : Result (Option Why) RunFault) → result ≡ r → MakesPlace (cost d.rows) (body old before) (body made before) r
  makes_as r is = subst (MakesPlace (cost d.rows) (body old before) (body made before)) is (subst (λ k. MakesPlace k (body old before) (body made before) result) is_cost (makes before))

  pub fits : (refusal : Option Why) → result ≡ Ok refusal → refusal ≡ None → fit_of made.room.room (cost d.rows) ≡ fit.Fits
  fits refusal ok none = (makes_as (Ok None) (ok ∙ ap (λ r. Ok r) none)).makes.makes.1

  held : IsHeld made.room.room made.view
  held = let l = (makes before).makes.leaves in (l.shelf, l.no_job)

  pub commits : (refusal : Option Why) → result ≡ Ok refusal → refusal ≡ None → (new : RunnerValue) (after : BucketsValue) (next : Outcome) → Appends d (body made before) (body new after) next
      → IsHeld new.room.room new.view × ((group : ℕ) → 1 ≤ group → TriesToCommit group (body old before) (body new after) d (Ok next))
  commits refusal ok none new after next a = (
    (
      subst (IsShelf new.room.room) (sym (ap (λ (b : Body). b.view) a.rest)) (subst (λ (r : RoomValue). IsShelf r.room made.view) (sym a.room) (commit.appended_shelf made.room d.rows made.view held.0)),
      ap (λ (r : RoomValue). r.room.job) a.room ∙ appended_held made.room d.rows ∙ held.1,
    ),
    λ group some. commit.commits_it abort_law follows_law group (body old before) (body made before) d some (makes_as (Ok None) (ok ∙ ap (λ r. Ok r) none)) (body new after) next a,
  )

  module _ (places : old.room.room.places < greatest) (after : BucketsValue) (back : TakesBack (body made before) (body made after)) where
    pub refuses_it : (refusal : Option Why) → result ≡ Ok refusal → (word : Why) → refusal ≡ Some word → IsHeld made.room.room made.view × ((group : ℕ) → 1 ≤ group → TriesToCommit group (body old before) (body made after) d (Ok (outcome.Refused word)))
    refuses_it refusal ok word some_word =
        (held, λ group some. commit.refuses_it abort_law follows_law group (body old before) (body made before) d some places word (makes_as (Ok (Some word)) (ok ∙ ap (λ r. Ok r) some_word)) (body made after) back)

    pub fails_it : (fault : RunFault) → result ≡ Err fault → IsHeld made.room.room made.view × ((group : ℕ) → 1 ≤ group → TriesToCommit group (body old before) (body made after) d (Err fault))
    fails_it fault err = (held, λ group some. commit.fails_it abort_law follows_law group (body old before) (body made before) d some fault (makes_as (Err fault) err) (body made after) back)

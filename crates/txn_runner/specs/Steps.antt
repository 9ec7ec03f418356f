-- What a transaction does, step by step. Each step is said of every entry at which a run began, and of every history that the body has since.
use Rattle.std.specs.Prelude.{◌≡◌, ◌≢◌, ◌⊎◌, ℕ, ◌+◌, ◌-◌, ◌<◌, ◌≤◌, slice_set, Bool, true, false, List, [], ◌∷◌, ◌++◌, length, Option, Some, None, Result, Ok, Err}
use Rattle.std.specs.List.{AllByRecursion, list_all}
use Rattle.fine_model.specs.declared.Call.{Call}
use Rattle.fine_model.specs.declared.Damage.TheVariants as damage
use Rattle.fine_model.specs.declared.Ending.{Ending}
use Rattle.fine_model.specs.declared.Ending.TheVariants as ending
use Rattle.fine_model.specs.declared.FetchFault.{FetchFault}
use Rattle.fine_model.specs.declared.FetchFault.TheVariants as fetch_fault
use Rattle.fine_model.specs.declared.Outcome.{Outcome}
use Rattle.fine_model.specs.declared.Outcome.TheVariants as outcome
use Rattle.fine_model.specs.declared.RunFault.{RunFault}
use Rattle.fine_model.specs.declared.RunFault.TheVariants as run_fault
use Rattle.fine_model.specs.declared.ScriptTxn.{ScriptTxn}
use Rattle.fine_model.specs.declared.Why.{Why}
use Rattle.fine_model.specs.declared.Why.TheVariants as why
use Rattle.fine_model.specs.Becomes.{Becomes}
use Rattle.fine_model.specs.Boards.{is_empty}
use Rattle.fine_model.specs.Causes.{IsRefusedInNeed}
use Rattle.fine_model.specs.History.{Commit, all_rows}
use Rattle.fine_model.specs.Outcomes.{IsOutcomeOf}
use Rattle.btree_nodes.specs.declared.fault.TreeFault.{TreeFault}
use Rattle.btree_nodes.specs.declared.fault.TreeFault.TheVariants.{BucketFull, NoMemory, Number, Source, Unfit}
use Rattle.txn_draft.specs.Drafts.{DraftValue, entry_of}
use Rattle.epoch_room.specs.Meaning.{StandsForMore, origin_of}
use Rattle.epoch_room.specs.Steps.{appended}
use Rattle.epoch_room.specs.Value.{RoomValue}
use Rattle.epoch_room.specs.Whole.{IsWhole}
use Rattle.partition_hold.specs.Views.{ViewValue}
use Rattle.room_shelf.specs.Shelves.{IsClean, IsLater, IsShelf, ViewOr}
use Rattle.open_txn.specs.Buckets.{BucketsValue}
use Rattle.open_txn.specs.Opened.{AnswersCalls, IsOpen, SettlesAll, UndoesAll}
use Rattle.room_steps.specs.Laws.{TellsNow}
use Rattle.room_steps.specs.Steps.{MakesRoom}
use Rattle.run_laws.specs.Lanes.{EndsLane, with_last}
use Rattle.run_laws.specs.Needs.{EndsInNeed, IsInNeed, IsSealed, RunsInNeed, Unsealed}
use Rattle.run_laws.specs.Runs.{IsReady, IsReplied, OfSound}
use Rattle.run_laws.specs.SoFar.{AreFewSoFar, AreTold, ComesNext, GoesOn, KeepsFlag}
use Rattle.run_laws.specs.Turns.{AreNumbered, RefusesBehind, commits_of}
use Rattle.txn_runner.specs.Body.{Body, Goes, IsBetween, IsGoing, Stand, count_of, shelf_of}

-- ---- faults

-- what is told of the body with this fault more, whether it ends a lane or is told beside those of lanes
abbrev pub TellsWith : RoomValue → Body → RunFault → Type 0
TellsWith entry b fault = (after more : List (Option RunFault)) → TellsNow b.ended after b.ended more fault → AreTold entry b.room (count_of b) after more

-- what a fault of a load is told as
abbrev pub of_fetch : FetchFault → RunFault
of_fetch fetch_fault.Failed = run_fault.Disk
of_fetch fetch_fault.NoMemory = run_fault.Memory
of_fetch (fetch_fault.BadRow region at) = run_fault.Damaged (damage.Region region at)
of_fetch (fetch_fault.BadIndex region at) = run_fault.Damaged (damage.Region region at)

-- a refused call refuses its transaction, or ends its lane
abbrev pub of_tree : TreeFault → Result (Option Why) RunFault
of_tree (BucketFull next depth) = Ok (Some why.Bucket)
of_tree (Number id) = Ok (Some why.Number)
of_tree (Source fault) = Err (of_fetch fault)
of_tree (Unfit id) = Err (run_fault.Damaged (damage.Node id))
of_tree NoMemory = Err run_fault.Memory

-- a fault that is want of memory
abbrev pub is_memory : Option RunFault → Bool
is_memory (Some run_fault.Memory) = true
is_memory _ = false

-- a transaction that the script aborts is not refused
abbrev pub refused_as : Ending → Why → Outcome
refused_as ending.Commit word = outcome.Refused word
refused_as ending.Abort word = outcome.Aborted

-- ---- answering calls

-- only the room with its view and the buckets are others, and of the room only what loads change
pub record Reads (old new : Body) : Type 0 where
  pub full : new.full ≡ old.full
  pub ended : new.ended ≡ old.ended
  pub whole : IsWhole new.room
  pub shelf : IsShelf new.room.room new.view
  pub later : IsLater (shelf_of old) (shelf_of new)

-- what was done to the buckets is taken back, and nothing else is changed
pub record TakesBack (old new : Body) : Type 0 where
  pub buckets : UndoesAll old.room.room.sealed old.buckets new.buckets
  pub rest : new ≡ record old { buckets = new.buckets }
  pub whole : IsWhole new.room

-- the view is taken from its place, or made where none was out
pub record Looks (old new : Body) (result : Result ViewValue FetchFault) : Type 0 where
  pub room : ViewOr old.room old.view new.room result
  pub rest : new ≡ record old { room = new.room; view = None }
  pub whole : IsWhole new.room

-- P of each entry and history behind which the body is between transactions
abbrev pub Behind : ℕ → Body → (RoomValue → List Commit → Type 0) → Type 0
Behind group old P = (entry : RoomValue) (history : List Commit) → IsReady entry → IsBetween group entry old history → P entry history

-- The calls were all answered, or refused for a reason that the definitions have too, or a fault came. The buckets are open in the first case alone, over some that stood for the history.
abbrev pub Answers : ℕ → Body → Body → DraftValue → List Call → Result (Option Why) RunFault → Type 0
Answers group old new d calls (Ok None) =
    Reads old new × IsClean (shelf_of old) (shelf_of new) × AnswersCalls calls d × Behind group old (λ entry history. (taken : BucketsValue) × IsOpen (origin_of entry.entry) old.room.room.sealed history taken new.buckets d)
Answers group old new d calls (Ok (Some word)) =
    Reads old new × IsClean (shelf_of old) (shelf_of new) × (word ≢ why.Full)
    × Behind group old (λ entry history. Stand entry new history × OfSound entry (λ first e. RefusesBehind new.room.room (first ++ all_rows history) calls word))
Answers group old new d calls (Err fault) = Reads old new × Behind group old (λ entry history. Stand entry new history × TellsWith entry new fault)

-- They were answered so, or a node is not cached that they need, and the body is between transactions again.
abbrev pub AnswersCached : ℕ → Body → Body → DraftValue → List Call → Option (Result (Option Why) RunFault) → Type 0
AnswersCached group old new d calls (Some result) = Answers group old new d calls result
AnswersCached group old new d calls None = Behind group old (λ entry history. Stand entry new history)

-- ---- a commit

-- what epochs were sealed for, as it is while a lane goes on
abbrev pub WasInNeed : ℕ → RoomValue → Body → List Commit → Type 0
WasInNeed group entry b history = IsInNeed group entry b.room b.full history × EndsInNeed group entry b.room b.full history

-- What a step leaves behind a history, with what it committed: the lanes that have ended are those of before, and few entries waited without the commit.
pub record Leaves (group : ℕ) (entry : RoomValue) (old new : Body) (history more : List Commit) : Type 0 where
  pub goes : Goes entry new (history ++ more)
  pub few : AreFewSoFar group new.room.room.sealed new.ended history
  pub becomes : Becomes old.room.room new.room.room
  pub ended : new.ended ≡ old.ended

-- nothing of a transaction is left, or its commit, and nothing more is told
pub record LeavesWell (group : ℕ) (entry : RoomValue) (old new : Body) (history more : List Commit) : Type 0 where
  pub leaves : Leaves group entry old new history more
  pub stand : Stand entry new (history ++ more)
  pub in_need : WasInNeed group entry old history → WasInNeed group entry new (history ++ more)
  pub told : AreTold entry new.room (count_of new) new.ended new.ended

-- nothing of it is left, and a fault of its calls, or of what was done for them, is to end its lane
pub record LeavesFault (group : ℕ) (entry : RoomValue) (old new : Body) (history : List Commit) (fault : RunFault) : Type 0 where
  pub leaves : Leaves group entry old new history []
  pub stand : Stand entry new history
  pub in_need : WasInNeed group entry old history → IsInNeed group entry new.room new.full history
  pub told : TellsWith entry new fault
  pub full : new.full ≡ old.full

-- on a sound log, what calls push behind a history fits a region alone, and the epoch before was sealed in need
abbrev pub HadNeedOf : ℕ → RoomValue → List Commit → List Call → Type 0
HadNeedOf group entry history calls = OfSound entry (λ first e. IsRefusedInNeed entry.room.region_len group entry.room.sealed first history calls)

-- The flag of a full log with an outcome, and the need of the first transaction that is refused as full.
pub record MarksFull (group : ℕ) (entry : RoomValue) (old new : Body) (history : List Commit) (calls : List Call) (next : Outcome) : Type 0 where
  pub flag : KeepsFlag old.full new.full next
  pub full_need : next ≡ outcome.Refused why.Full → old.full ≡ false → WasInNeed group entry old history → HadNeedOf group entry history calls

-- room is made for rows of a cost, or not: only the room with its view, and the flag, are others
pub record MakesPlace (cost : ℕ) (old new : Body) (result : Result (Option Why) RunFault) : Type 0 where
  pub makes : MakesRoom cost (shelf_of old) (shelf_of new) old.full new.full result
  pub rest : new ≡ record old { room = new.room; view = new.view; full = new.full }

-- the rows of a draft are an entry more of the open epoch, and the buckets are settled under this epoch
pub record Appends (d : DraftValue) (old new : Body) (next : Outcome) : Type 0 where
  pub is : next ≡ outcome.Committed (old.room.room.places + 1) (old.room.room.sealed + 1) (entry_of d)
  pub room : new.room ≡ appended old.room d.rows
  pub stands : StandsForMore old.room new.room d.rows
  pub becomes : Becomes old.room.room new.room.room
  pub whole : IsWhole new.room
  pub buckets : SettlesAll (old.room.room.sealed + 1) old.room.room.sealed old.buckets new.buckets
  pub rest : new ≡ record old { room = new.room; buckets = new.buckets }

-- P of each entry and history behind which a transaction is open, all of whose calls were answered
abbrev pub WhileOpen : ℕ → Body → DraftValue → (RoomValue → List Commit → Type 0) → Type 0
WhileOpen group b d P = (entry : RoomValue) (history : List Commit) (low : ℕ) (taken : BucketsValue) → IsReady entry → IsGoing group entry b history → low ≤ b.room.room.sealed
    → IsOpen (origin_of entry.entry) low history taken b.buckets d → P entry history

-- committed at the next place, in the open epoch, or refused for a reason that the definitions have too
abbrev pub IsEndOf : RoomValue → List Commit → DraftValue → Body → Outcome → Type 0
IsEndOf entry history d new (outcome.Committed place epoch e) = (place ≡ length history + 1) × (epoch ≡ new.room.room.sealed + 1) × (e ≡ entry_of d)
IsEndOf entry history d new (outcome.Refused word) = OfSound entry (λ first e. RefusesBehind new.room.room (first ++ all_rows history) d.calls word)
IsEndOf entry history d new _ = ⊥

abbrev pub TriesToCommit : ℕ → Body → Body → DraftValue → Result Outcome RunFault → Type 0
TriesToCommit group old new d (Ok next) =
    WhileOpen group old d (λ entry history. LeavesWell group entry old new history (commits_of (next ∷ [])) × IsEndOf entry history d new next × MarksFull group entry old new history d.calls next)
TriesToCommit group old new d (Err fault) = WhileOpen group old d (λ entry history. LeavesFault group entry old new history fault)

-- ---- a transaction

-- Of a transaction that was run behind some others: its outcome, as that of the next one, with its commit in the open epoch.
pub record IsTried (entry : RoomValue) (done : List Outcome) (txn : ScriptTxn) (next : Outcome) (new : Body) : Type 0 where
  pub is : IsOutcomeOf txn next
  pub number : AreNumbered (length done) (length (commits_of done)) (next ∷ [])
  pub ran : next ≢ outcome.NotRun
  pub replied : AllByRecursion IsReplied (commits_of (next ∷ []))
  pub committed : AllByRecursion (λ c. (c.epoch ≡ new.room.room.sealed + 1) × (c.entry.lane ≡ txn.lane)) (commits_of (next ∷ []))
  pub refused : (word : Why) → next ≡ outcome.Refused word → OfSound entry (λ first e. RefusesBehind new.room.room (first ++ all_rows (commits_of done)) txn.calls word)

-- P of each entry and the outcomes of the transactions before one with this number
abbrev pub BehindTxns : ℕ → ℕ → Body → (RoomValue → List Outcome → Type 0) → Type 0
BehindTxns group turn old P = (entry : RoomValue) (done : List Outcome) → IsReady entry → IsBetween group entry old (commits_of done) → turn ≡ length done + 1 → P entry done

-- it was run, or a fault is to end its lane, and then nothing of it is left
abbrev pub Tries : ℕ → Body → Body → ScriptTxn → ℕ → Result Outcome RunFault → Type 0
Tries group old new txn turn (Ok next) =
    BehindTxns group turn old (λ entry done. LeavesWell group entry old new (commits_of done) (commits_of (next ∷ [])) × IsTried entry done txn next new × MarksFull group entry old new (commits_of done) txn.calls next)
Tries group old new txn turn (Err fault) = BehindTxns group turn old (λ entry done. LeavesFault group entry old new (commits_of done) fault)

-- ---- the seal of a group

-- the seal of a group and what is merged behind it leave a body that goes on
pub record SealsOn (entry : RoomValue) (old new : Body) (history : List Commit) : Type 0 where
  pub goes : Goes entry new history
  pub stand : Stand entry new history
  pub becomes : Becomes old.room.room new.room.room
  pub full : new.full ≡ old.full
  pub ended : new.ended ≡ old.ended

-- What waited was sealed. With a fault nothing was, or it came behind the seal.
abbrev pub SealsGroup : Body → Body → Result (Unit {0}) RunFault → RoomValue → List Commit → Type 0
SealsGroup old new (Ok u) entry history = SealsOn entry old new history × AreTold entry new.room (count_of new) new.ended new.ended × IsSealed old.room.room new.room.room
SealsGroup old new (Err fault) entry history = SealsOn entry old new history × TellsWith entry new fault × (Unsealed old.room.room new.room.room ⊎ IsSealed old.room.room new.room.room)

-- for each entry and history behind which the body goes on
abbrev pub SealsAll : Body → Body → Result (Unit {0}) RunFault → Type 0
SealsAll old new result = (entry : RoomValue) (history : List Commit) → IsReady entry → Goes entry old history → AreTold entry old.room (count_of old) old.ended old.ended → Stand entry old history → SealsGroup old new result entry history

-- a full group was not sealed, or what came behind it failed, and this fault ended a lane
pub record EndsBy (old sealed new : Body) (lane : ℕ) (fault : RunFault) : Type 0 where
  pub seals : SealsAll old sealed (Err fault)
  pub ends : EndsLane sealed.ended new.ended lane fault
  pub set : new.ended ≡ slice_set sealed.ended (lane - 1) (Some fault)
  pub rest : new ≡ record sealed { ended = new.ended }

-- The group is not full yet, or it is, and was sealed.
abbrev pub EndsGroup : ℕ → Body → Body → ℕ → Type 0
EndsGroup group old new lane =
    ((new ≡ old) × (old.room.room.waiting < group)) ⊎ ((group ≤ old.room.room.waiting) × (SealsAll old new (Ok tt) ⊎ ((sealed : Body) × (fault : RunFault) × EndsBy old sealed new lane fault)))

-- ---- all of a transaction

-- The lanes that have ended are those of before, or that of the transaction has ended too: before it was run, or behind its commit.
abbrev pub Comes : List Outcome → List (Option RunFault) → List (Option RunFault) → ScriptTxn → Outcome → Type 0
Comes done before after txn next =
    ((after ≡ before) × ComesNext done after txn next) ⊎ ((fault : RunFault) × EndsLane before after txn.lane fault × (ComesNext done before txn next ⊎ ComesNext done after txn next))

-- all of it, with the seal of a group and what is done behind it
pub record RunsTxn (group : ℕ) (entry : RoomValue) (done : List Outcome) (txn : ScriptTxn) (next : Outcome) (old new : Body) : Type 0 where
  pub between : IsBetween group entry new (commits_of done ++ commits_of (next ∷ []))
  pub becomes : Becomes old.room.room new.room.room
  pub comes : Comes done old.ended new.ended txn next
  -- what waits is sealed for a full group, and where the rows of this transaction do not fit its region, and for nothing else
  pub in_need : RunsInNeed group txn.lane entry old.room old.full old.ended (commits_of done) → RunsInNeed group txn.lane entry new.room new.full new.ended (commits_of done ++ commits_of (next ∷ []))
  pub flag : KeepsFlag old.full new.full next
  pub full_need : next ≡ outcome.Refused why.Full → old.full ≡ false → RunsInNeed group txn.lane entry old.room old.full old.ended (commits_of done) → HadNeedOf group entry (commits_of done) txn.calls
  pub refused : (word : Why) → next ≡ outcome.Refused word → OfSound entry (λ first e. RefusesBehind new.room.room (first ++ all_rows (commits_of done)) txn.calls word)

-- ---- the end

-- The view was taken back, and what waited was sealed, unless the room is shut or memory ran out, and then it waits still: the fault of this last seal is told beside those of lanes.
pub record IsClosed (entry : RoomValue) (old new : Body) (history : List Commit) (last : Option RunFault) : Type 0 where
  pub goes_on : GoesOn entry new.room history
  pub tells : AreTold entry new.room new.room.disk.faults old.ended (with_last old.ended last)
  pub becomes : Becomes old.room.room new.room.room
  pub board : list_all is_empty new.room.room.board ≡ true
  pub sealed : new.room.room.is_shut ≡ false → (last ≡ Some run_fault.Memory → ⊥) → new.room.room.waiting ≡ 0
  pub some_wait : last ≡ Some run_fault.Memory → 1 ≤ new.room.room.waiting
  pub ended : new.ended ≡ old.ended

-- of a body between transactions, for each entry and history
abbrev pub Closes : Body → Body → Option RunFault → Type 0
Closes old new last = (entry : RoomValue) (history : List Commit) → IsReady entry → Goes entry old history → AreTold entry old.room (count_of old) old.ended old.ended → IsClosed entry old new history last

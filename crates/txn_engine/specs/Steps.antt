-- The steps within a call, and at an end: one bucket of a set, read through a view.
use Rattle.std.specs.Prelude.{◌≡◌, ◌⊎◌, ℕ, ◌<◌, ◌≤◌, false, List, [], ◌∷◌, ◌++◌, slice_get, slice_set, Option, Some, OnOk, IfErr, Result, Ok, Err}
use Rattle.fine_model.specs.declared.Call.{Call}
use Rattle.fine_model.specs.declared.Call.TheVariants as call
use Rattle.fine_model.specs.declared.NodeId.{NodeId}
use Rattle.fine_model.specs.declared.Row.{Row}
use Rattle.fine_model.specs.declared.Why.{Why}
use Rattle.fine_model.specs.declared.Why.TheVariants as why
use Rattle.fine_model.specs.declared.law.Origin.{Origin}
use Rattle.fine_model.specs.Buckets.{Began}
use Rattle.fine_model.specs.History.{Commit, IsLegal, all_rows, upto}
use Rattle.fine_model.specs.Map.{Pair}
use Rattle.fine_model.specs.Nodes.{Agrees}
use Rattle.fine_model.specs.Pushed.{all_pushed, key_of}
use Rattle.fine_model.specs.ScanLaws.{IsKept}
use Rattle.fine_model.specs.Trees.{IsSound}
use Rattle.node_cache.specs.Cache.{Cache}
use Rattle.btree_nodes.specs.declared.fault.TreeFault.{TreeFault}
use Rattle.btree_nodes.specs.declared.fault.TreeFault.TheVariants.{Source, Unfit, BucketFull, Number, NoMemory}
use Rattle.btree_nodes.specs.Calls.{IsFirstUnfit, IsFirstUnfitBetween, Reads}
use Rattle.btree_nodes.specs.Faults.{OnFault}
use Rattle.btree_nodes.specs.Trees.{Holds, Serves}
use Rattle.txn_draft.specs.Answers.{AnswersSoundly, LeavesDraft}
use Rattle.txn_draft.specs.Drafts.{DraftValue, FitsDraft, IsAnswered, IsLost, Keeps, is_here}
use Rattle.txn_draft.specs.Scans.{IsGathered, KeepsFound, ScanValue}
use Rattle.txn_draft.specs.Uses.{IsUsed, UsedAfter}
use Rattle.partition_hold.specs.Sources.{tells_rows}
use Rattle.partition_hold.specs.Views.{ViewValue}
use Rattle.key_locks.specs.Locks.{HasLock, LacksLock}
use Rattle.txn_engine.specs.Reads.{ChangesIn, OnlyWalks}
use Rattle.txn_engine.specs.Txns.{IsOpenOn, IsOver, IsUnfitIn, KeepsCall, SaysFull}

-- what an answer says of the node that it names as unfit
abbrev pub UnfitBy : (NodeId → Type 0) → Result (Unit {0}) TreeFault → Type 0
UnfitBy P r = (id : NodeId) → r ≡ Err (Unfit id) → P id

-- ---- a call that is no scan

-- It was answered in one bucket of the set, through a view.
pub record AnswersIn (v : ViewValue) (k : ℕ) (locks locks' : List (Option Cache)) (d d' : DraftValue) (c : Call) (r : Result (Unit {0}) TreeFault) : Type 0 where
  pub old : Cache
  pub new : Cache
  pub there : HasLock locks k old
  pub locks_are : locks' ≡ slice_set locks k (Some new)
  pub kept : OnOk r (Keeps c d d')
  pub left : IfErr r (LeavesDraft d d')
  pub number : new.bucket ≡ old.bucket
  pub unfit : UnfitBy (IsFirstUnfit new (key_of c)) r
  pub change : ChangesIn v d d' c r old new
  pub fits : OnOk r (FitsDraft d → FitsDraft d')
  pub used : (low : ℕ) (taken : Cache) → IsUsed low taken old d.rows → low ≤ v.upto → UsedAfter low taken new d'.rows r
  pub sound : (rows : List Row) → Serves (tells_rows v) old rows → IsAnswered rows d → Holds old rows d.rows → AnswersSoundly rows c d d' new r

-- ---- a scan

-- A bucket was read through a view: nothing was done to it but loads.
pub record IsRead (v v' : ViewValue) (b b' : Cache) : Type 0 where
  pub used : (low : ℕ) (taken : Cache) (rows : List Row) → IsUsed low taken b rows → low ≤ v.upto → IsUsed low taken b' rows
  pub serves : (rows : List Row) → Serves (tells_rows v) b rows → Serves (tells_rows v') b' rows
  pub holds : (rows log : List Row) → Serves (tells_rows v) b rows → Holds b rows log → IsSound (rows ++ log) → Holds b' rows log

-- Each bucket of a set below a number was read, and the others are as they were.
pub record AreRead (upto : ℕ) (v v' : ViewValue) (locks locks' : List (Option Cache)) : Type 0 where
  pub below : (k : ℕ) (b : Cache) → k < upto → HasLock locks k b → (b' : Cache) × HasLock locks' k b' × IsRead v v' b b'
  pub above : (k : ℕ) → upto ≤ k → slice_get locks' k ≡ slice_get locks k

-- what rows and a transaction's leave in the buckets of a set, each served by a view
pub record AreServed (v : ViewValue) (rows log : List Row) (locks : List (Option Cache)) : Type 0 where
  pub serves : (k : ℕ) (b : Cache) → k < 256 → HasLock locks k b → Serves (tells_rows v) b rows
  pub holds : (k : ℕ) (b : Cache) → k < 256 → HasLock locks k b → Holds b rows log
  pub sound : IsSound (rows ++ log)

-- the first pairs of a range were gathered from one bucket more
abbrev pub GathersMore : ViewValue → List (Option Cache) → List ℕ → List ℕ → ℕ → ScanValue → ScanValue → Type 0
GathersMore v locks low high limit s s' = (rows log : List Row) → AreServed v rows log locks → IsKept (rows ++ log) low high limit s.next s.pairs → IsKept (rows ++ log) low high limit s'.next s'.pairs

-- a bucket was gone through, or could not be
pub record GathersIn (v v' : ViewValue) (k : ℕ) (locks locks' : List (Option Cache)) (low high : List ℕ) (limit : ℕ) (s s' : ScanValue) (r : Result (Unit {0}) TreeFault) : Type 0 where
  pub old : Cache
  pub new : Cache
  pub there : HasLock locks k old
  pub locks_are : locks' ≡ slice_set locks k (Some new)
  pub read : IsRead v v' old new
  pub walks : OnlyWalks v low high limit old new
  pub finds : Reads (λ done. IsGathered new low high limit s.pairs s'.pairs) (λ _. Unit {0}) (λ _. Unit {0}) r
  pub more : OnOk r (GathersMore v locks low high limit s s')
  pub unfit : UnfitBy (IsFirstUnfitBetween new low high limit) r
  pub cause : IfErr r (λ fault. (rows log : List Row) → AreServed v rows log locks → OnFault fault (λ _. Unit {0}) (λ _. ⊥) (Unit {0}))

-- all of them were, or a fault came
pub record GathersOr (v v' : ViewValue) (locks locks' : List (Option Cache)) (low high : List ℕ) (limit : ℕ) (s s' : ScanValue) (r : Result (Unit {0}) TreeFault) : Type 0 where
  pub read : AreRead 256 v v' locks locks'
  pub next : OnOk r (s'.next ≡ 256)
  pub more : OnOk r (GathersMore v locks low high limit s s')
  pub unfit : UnfitBy (IsUnfitIn locks' (call.Scan low high limit)) r
  pub cause : IfErr r (λ fault. (rows log : List Row) → AreServed v rows log locks → OnFault fault (λ _. Unit {0}) (λ _. ⊥) (Unit {0}))

-- The buckets of a set were read for a scan, which is kept behind the calls of the draft, or a fault came.
pub record ScansIn (v v' : ViewValue) (locks locks' : List (Option Cache)) (d d' : DraftValue) (c : Call) (r : Result (Unit {0}) TreeFault) : Type 0 where
  pub read : (k : ℕ) (b : Cache) → k < 256 → HasLock locks k b → (b' : Cache) × HasLock locks' k b' × IsRead v v' b b'
  pub kept : OnOk r ((pairs : List Pair) × KeepsFound c pairs d d')
  pub fits : OnOk r (FitsDraft d → FitsDraft d')
  pub answered : OnOk r ((rows : List Row) → AreServed v rows d.rows locks → IsAnswered rows d → IsAnswered rows d')
  pub left : IfErr r (λ fault. (d' ≡ d) ⊎ ((fault ≡ NoMemory) × IsLost d d'))
  pub unfit : UnfitBy (IsUnfitIn locks' c) r
  pub cause : IfErr r (λ fault. (rows log : List Row) → AreServed v rows log locks → OnFault fault (λ _. Unit {0}) (λ _. ⊥) (Unit {0}))

-- ---- any call

-- A view shows a history, which is legal, up to an epoch that is not below the published one.
pub record IsShown (log : Origin) (published : ℕ) (history : List Commit) (v : ViewValue) : Type 0 where
  pub reaches : published ≤ v.upto
  pub legal : (e : ℕ) (first : List Row) → Began log e first → IsLegal first history
  pub tells : (e : ℕ) (first : List Row) → Began log e first → (rows : List Row) × tells_rows v rows × Agrees rows (first ++ all_rows (upto history v.upto))

-- the log at entry was not told, or not sound
abbrev pub HasNotBegun : Origin → Type 0
HasNotBegun log = (e : ℕ) (first : List Row) → Began log e first → ⊥

-- Behind the history, the definitions refuse the calls for this reason, and P of what it and the draft's rows leave.
abbrev pub IsRefusedFor : Origin → List Commit → DraftValue → Call → Why → (List Row → Type 0) → Type 0
IsRefusedFor log history d c cause P =
    (e : ℕ) (first : List Row) → Began log e first → (all_pushed (first ++ all_rows history) (d.calls ++ c ∷ []) ≡ Err cause) × P ((first ++ all_rows history) ++ d.rows)

abbrev pub ReadsOr : Origin → List Commit → Call → DraftValue → DraftValue → Result (Unit {0}) TreeFault → Type 0
ReadsOr log history c d d' (Ok done) = KeepsCall c d d'
ReadsOr log history c d d' (Err (Source fault)) = d' ≡ d
ReadsOr log history c d d' (Err (Unfit id)) = (d' ≡ d) × HasNotBegun log
ReadsOr log history c d d' (Err (BucketFull next depth)) = (d' ≡ d) × IsRefusedFor log history d c why.Bucket (SaysFull c next depth)
ReadsOr log history c d d' (Err (Number id)) = (d' ≡ d) × IsRefusedFor log history d c why.Number (IsOver c id)
ReadsOr log history c d d' (Err NoMemory) = IsLost d d' ⊎ (d' ≡ d)

-- a set has the same buckets
pub record SameBuckets (locks locks' : List (Option Cache)) : Type 0 where
  pub lacks : (k : ℕ) → k < 256 → LacksLock locks k → LacksLock locks' k
  pub has : (k : ℕ) (b : Cache) → k < 256 → HasLock locks k b → (b' : Cache) × HasLock locks' k b'

-- A call was answered through a view on buckets of a set, whatever the history on which the draft is open.
pub record ReadsIn (v : ViewValue) (locks locks' : List (Option Cache)) (d d' : DraftValue) (c : Call) (r : Result (Unit {0}) TreeFault) : Type 0 where
  pub same : SameBuckets locks locks'
  pub others : (k : ℕ) → k < 256 → is_here k c ≡ false → slice_get locks' k ≡ slice_get locks k
  pub unfit : UnfitBy (IsUnfitIn locks' c) r
  pub open_on : (log : Origin) (published : ℕ) (history : List Commit) → IsShown log published history v → IsOpenOn log published history d locks → IsOpenOn log published history d' locks' × ReadsOr log history c d d' r

-- ---- the ends

-- each content of the set is made into another, exactly
pub record EachBecomes (f : Cache → Cache) (Left : Cache → Cache → Type 0) (locks locks' : List (Option Cache)) : Type 0 where
  pub lacks : (k : ℕ) → LacksLock locks k → LacksLock locks' k
  pub each : (k : ℕ) (b : Cache) → k < 256 → HasLock locks k b → HasLock locks' k (f b) × Left b (f b)

-- What a call read, loaded and changed in its buckets, whatever the log is.
use Rattle.std.specs.Prelude.{◌≡◌, ◌⊎◌, ℕ, ◌+◌, ◌<◌, true, List, [], Option, Some, OnOk, Result, Ok, Err}
use Rattle.fine_model.specs.declared.Call.{Call}
use Rattle.fine_model.specs.declared.Call.TheVariants as call
use Rattle.fine_model.specs.Map.{Pair}
use Rattle.fine_model.specs.Pushed.{key_of}
use Rattle.node_cache.specs.Cache.{Cache}
use Rattle.node_cache.specs.Given.{IsLoaded}
use Rattle.btree_nodes.specs.declared.fault.TreeFault.{TreeFault}
use Rattle.btree_nodes.specs.Calls.{IsChange}
use Rattle.btree_nodes.specs.Faults.{OnFault}
use Rattle.btree_nodes.specs.Trees.{pairs_in}
use Rattle.btree_nodes.specs.Walks.{LoadsOnWalk}
use Rattle.txn_draft.specs.Answers.{KeepsBy}
use Rattle.txn_draft.specs.Drafts.{DraftValue, is_here}
use Rattle.txn_draft.specs.Scans.{IsGathered, KeepsFound}
use Rattle.txn_draft.specs.Standing.{StandsFor}
use Rattle.open_txn.specs.Traces.{Scans}
use Rattle.partition_hold.specs.Sources.{IsLater, finds_in, tells_rows}
use Rattle.partition_hold.specs.Views.{ViewValue}
use Rattle.fine_hall.specs.declared.law.Beginning.{Beginning}
use Rattle.fine_hall.specs.Passes.{seen, published}
use Rattle.key_locks.specs.Locks.{HasLock, LacksLock}
use Rattle.hall_rooms.specs.Rooms.{RoomPass}
use Rattle.txn_engine.specs.declared.txn.Txn.{Txn}
use Rattle.txn_engine.specs.declared.txn.TxnFault.{TxnFault}
use Rattle.txn_engine.specs.Faults.{fault_of}

-- ---- in one bucket

-- Nothing was done to a bucket but loads through a view, of nodes on the walk of a scan; in which order its nodes were used is not told.
abbrev pub OnlyWalks : ViewValue → List ℕ → List ℕ → ℕ → Cache → Cache → Type 0
OnlyWalks v low high limit b b' = IsLoaded (tells_rows v) (finds_in v) v.upto b b' × LoadsOnWalk b b' low high limit

-- What a scan did in a bucket: nothing but loads. Where it was answered, the whole walk is loaded and fit. It is refused neither with `BucketFull` nor with `Number`.
abbrev pub WalksIn : ViewValue → List ℕ → List ℕ → ℕ → Result (Unit {0}) TreeFault → Cache → Cache → Type 0
WalksIn v low high limit (Ok done) b b' = Scans (tells_rows v) (finds_in v) v.upto low high limit b b'
WalksIn v low high limit (Err fault) b b' = OnFault fault (λ _. OnlyWalks v low high limit b b') (λ _. OnlyWalks v low high limit b b') (OnlyWalks v low high limit b b')

-- What a call of a key did in its bucket: nodes on the key's way were loaded through a view, which makes the bucket `mid`. With Ok the way is fit there, the reply and the writes are the
-- definitions' on the pairs of its leaf, and the call's rows, as they are pushed on what `mid` gives, were pushed on it. A refusal but want of memory leaves `mid`, and has its cause in it.
abbrev pub ChangesIn : ViewValue → DraftValue → DraftValue → Call → Result (Unit {0}) TreeFault → Cache → Cache → Type 0
ChangesIn v d d' c r b b' = IsChange (tells_rows v) (finds_in v) v.upto b b' d.rows d'.rows c (λ mid _. KeepsBy (pairs_in mid (key_of c)) c d d') (λ _. Unit {0}) r

-- what a call did in one of its buckets
abbrev pub DoesIn : ViewValue → DraftValue → DraftValue → Call → Result (Unit {0}) TreeFault → Cache → Cache → Type 0
DoesIn v d d' (call.Scan low high limit) r b b' = WalksIn v low high limit r b b'
DoesIn v d d' c r b b' = ChangesIn v d d' c r b b'

-- the same of a scan, in each bucket of a set below a number
abbrev pub EachWalks : ℕ → ViewValue → List (Option Cache) → List (Option Cache) → List ℕ → List ℕ → ℕ → Result (Unit {0}) TreeFault → Type 0
EachWalks upto v locks locks' low high limit r = (k : ℕ) (b : Cache) → k < upto → HasLock locks k b → (b' : Cache) × HasLock locks' k b' × WalksIn v low high limit r b b'

-- ---- the pairs of a scan

-- Pairs were gathered from the buckets of a set below a number, in their order, as each gives them.
pub record GathersBelow (upto : ℕ) (locks : List (Option Cache)) (low high : List ℕ) (limit : ℕ) (first pairs : List Pair) : Type 0 where
  pub so_far : ℕ → List Pair
  pub before : so_far 0 ≡ first
  pub all : so_far upto ≡ pairs
  pub next : (k : ℕ) (b : Cache) → k < upto → HasLock locks k b → IsGathered b low high limit (so_far k) (so_far (k + 1))

-- A scan is answered with the first pairs of those that were gathered from all buckets.
abbrev pub AnswersScan : List (Option Cache) → DraftValue → DraftValue → Call → Type 0
AnswersScan locks d d' (call.Scan low high limit) = (pairs : List Pair) × GathersBelow 256 locks low high limit [] pairs × KeepsFound (call.Scan low high limit) pairs d d'
AnswersScan locks d d' c = Unit {0}

-- ---- in all buckets of a call

-- A call was answered or refused through a view on the buckets of a set.
pub record Traces (v : ViewValue) (locks locks' : List (Option Cache)) (d d' : DraftValue) (c : Call) (r : Result (Unit {0}) TreeFault) : Type 0 where
  pub each : (k : ℕ) (b' : Cache) → k < 256 → is_here k c ≡ true → HasLock locks' k b' → (b : Cache) × HasLock locks k b × DoesIn v d d' c r b b'
  pub finds : OnOk r (AnswersScan locks' d d' c)

-- A bucket as a call had it before it read: the transaction held it so, or it held none, and took one that stands for all that the pass then saw.
abbrev pub WasThere : Beginning → Txn → RoomPass → ℕ → Cache → Type 0
WasThere x t p' k b = HasLock t.locks k b ⊎ (LacksLock t.locks k × StandsFor x.log k (published p') b (seen p'))

-- the buckets of a set are those that a transaction held, and others that were taken
abbrev pub WereHeldOrTaken : Beginning → Txn → List (Option Cache) → RoomPass → Type 0
WereHeldOrTaken x t locks p' = (k : ℕ) (b : Cache) → k < 256 → HasLock locks k b → WasThere x t p' k b

-- the answer of a call whose trees answered so
abbrev pub answer_of : Result (Unit {0}) TreeFault → Result (Unit {0}) TxnFault
answer_of (Ok done) = Ok done
answer_of (Err fault) = Err (fault_of fault)

-- What a call did that no conflict refused, through the front of its pass, which is then the same but for its counts: each bucket of the call is what the call made of the one that was there.
pub record ReadsBuckets (x : Beginning) (c : Call) (t t' : Txn) (p' : RoomPass) (r : Result (Unit {0}) TxnFault) : Type 0 where
  pub front : ViewValue
  pub now : ViewValue
  pub later : IsLater front now
  pub is_now : p'.front ≡ Some now
  pub trees : Result (Unit {0}) TreeFault
  pub answer : r ≡ answer_of trees
  pub each : (k : ℕ) (b' : Cache) → k < 256 → is_here k c ≡ true → HasLock t'.locks k b' → (b : Cache) × WasThere x t p' k b × DoesIn front t.draft t'.draft c trees b b'
  pub finds : OnOk trees (AnswersScan t'.locks t.draft t'.draft c)

-- The steps of a pass within a call, and at an end.
use Rattle.std.specs.Prelude.{◌≡◌, ℕ, ◌<◌, true, false, List, slice_get, Option, Some, IfErr, Result, Ok, Err}
use Rattle.fine_model.specs.declared.Call.{Call}
use Rattle.node_cache.specs.Cache.{Cache, IsResting, kept_at}
use Rattle.btree_nodes.specs.declared.fault.TreeFault.{TreeFault}
use Rattle.btree_nodes.specs.Calls.{OnCleanAnswer}
use Rattle.txn_draft.specs.Answers.{FailsBy}
use Rattle.txn_draft.specs.Drafts.{is_here}
use Rattle.partition_hold.specs.Sources.{Fails, IsClean, IsLater}
use Rattle.partition_hold.specs.Views.{ViewValue, state_of}
use Rattle.fine_hall.specs.declared.law.Beginning.{Beginning}
use Rattle.fine_hall.specs.declared.pass.Conflict.{Conflict}
use Rattle.fine_hall.specs.Halls.{IsAhead, FindsHeld}
use Rattle.key_locks.specs.Locks.{Gathers, LacksLock}
use Rattle.txn_engine.specs.declared.txn.Txn.{Txn}
use Rattle.hall_rooms.specs.Rooms.{RoomPass, bucket_number}
use Rattle.hall_rooms.specs.Turning.{MeetsNone}
use Rattle.txn_engine.specs.Txns.{FoundLast, HasBuckets, IsOpenTxn, SeesCall, StopsBefore, TakesBuckets}
use Rattle.txn_engine.specs.Reads.{Traces}
use Rattle.txn_engine.specs.Steps.{ReadsIn}

-- buckets were gathered
abbrev pub GathersBuckets : Beginning → List (Option Cache) → List (Option Cache) → RoomPass → RoomPass → Type 0
GathersBuckets x locks locks' p p' = Gathers bucket_number kept_at IsResting x.log locks locks' p p'

-- A bucket of a call was found held by another seat, by the last try. Those before it may have been taken, for a scan alone.
pub record StopsFor (x : Beginning) (c : Call) (locks locks' : List (Option Cache)) (p p' : RoomPass) (conflict : Conflict) : Type 0 where
  pub within : conflict.bucket < 256
  pub here : is_here conflict.bucket c ≡ true
  pub lacks : LacksLock locks conflict.bucket
  pub between : RoomPass
  pub same_number : between.number ≡ p.number
  pub gathers : GathersBuckets x locks locks' p between
  pub finds : FindsHeld x conflict.bucket conflict.owner between p'
  pub before : StopsBefore c conflict.bucket locks locks'

-- the buckets of a call are in the set, and the others are as they were
pub record TakesFor (x : Beginning) (c : Call) (locks locks' : List (Option Cache)) (p p' : RoomPass) : Type 0 where
  pub gathers : GathersBuckets x locks locks' p p'
  pub all : HasBuckets c locks'
  pub others : (k : ℕ) → k < 256 → is_here k c ≡ false → slice_get locks' k ≡ slice_get locks k

abbrev pub LocksOr : Beginning → Call → List (Option Cache) → List (Option Cache) → RoomPass → RoomPass → Result (Unit {0}) Conflict → Type 0
LocksOr x c locks locks' p p' (Ok done) = TakesFor x c locks locks' p p'
LocksOr x c locks locks' p p' (Err conflict) = StopsFor x c locks locks' p p' conflict

-- the transaction is open on what the pass then saw; no fault was met
pub record StaysOpen (x : Beginning) (t t' : Txn) (p p' : RoomPass) : Type 0 where
  pub open_now : IsOpenTxn x t' p'
  pub draft : t'.draft ≡ t.draft
  pub sees : SeesCall x p p'
  pub meets : MeetsNone x p p'

-- what taking the buckets of a call comes to
abbrev pub TakesOr : Beginning → Call → Txn → Txn → RoomPass → RoomPass → Result (Unit {0}) Conflict → Type 0
TakesOr x c t t' p p' (Ok done) = StaysOpen x t t' p p' × TakesBuckets c t t' p p' × IsAhead state_of x p'
TakesOr x c t t' p p' (Err conflict) =
    StaysOpen x t t' p p' × (is_here conflict.bucket c ≡ true) × LacksLock t.locks conflict.bucket × FoundLast x conflict.bucket conflict.owner p p' × StopsBefore c conflict.bucket t.locks t'.locks

-- a call was answered through the front
pub record ReadsFront (c : Call) (t t' : Txn) (p p' : RoomPass) (r : Result (Unit {0}) TreeFault) : Type 0 where
  pub before : ViewValue
  pub after : ViewValue
  pub is_before : p.front ≡ Some before
  pub is : p' ≡ record p { front = Some after }
  pub later : IsLater before after
  pub clean : OnCleanAnswer r (IsClean before after)
  pub fails : IfErr r (FailsBy (λ failed. Fails before failed after))
  pub reads : ReadsIn before t.locks t'.locks t.draft t'.draft c r
  pub traces : Traces before t.locks t'.locks t.draft t'.draft c r

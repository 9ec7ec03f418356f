-- An open transaction on a hall, and what its calls make of it and of its pass.
use Rattle.std.specs.Prelude.{◌≡◌, ◌≢◌, ◌⊎◌, ℕ, ◌+◌, ◌<◌, ◌≤◌, Bool, true, false, List, [], ◌∷◌, ◌++◌, length, slice_get, Option, Some, None, Result, Ok, Err}
use Rattle.std.specs.List.{list_any}
use lib.ListN.{get_elem?}
use Rattle.fine_model.specs.declared.Call.{Call}
use Rattle.fine_model.specs.declared.FetchFault.{FetchFault}
use Rattle.fine_model.specs.declared.FetchFault.TheVariants as fetch_fault
use Rattle.fine_model.specs.declared.NodeId.{NodeId}
use Rattle.fine_model.specs.declared.Row.{Row}
use Rattle.fine_model.specs.declared.Why.{Why}
use Rattle.fine_model.specs.declared.Why.TheVariants as why
use Rattle.fine_model.specs.declared.law.Origin.{Origin}
use Rattle.fine_model.specs.declared.law.RoomState.{RoomState}
use Rattle.fine_model.specs.Buckets.{Began}
use Rattle.fine_model.specs.Faults.{last_count}
use Rattle.fine_model.specs.History.{Commit, all_rows}
use Rattle.fine_model.specs.Jobs.{KeepsJob}
use Rattle.fine_model.specs.Map.{Pair}
use Rattle.fine_model.specs.Merge.{cost}
use Rattle.fine_model.specs.Pushed.{all_pushed, key_of, push_of}
use Rattle.fine_model.specs.Store.{replies_to}
use Rattle.fine_model.specs.Trees.{bucket_of, map_of, nodes_of}
use Rattle.node_cache.specs.Cache.{Cache, evicted, settled, undone}
use Rattle.btree_nodes.specs.Trees.{HeadSays, Holds, Restores, first_over}
use Rattle.txn_draft.specs.Drafts.{DraftValue, IsAnswered, FitsDraft, IsLost, Keeps, blank, entry_of, is_here, is_scan}
use Rattle.txn_draft.specs.Scans.{KeepsFound}
use Rattle.txn_draft.specs.Standing.{StandsFor}
use Rattle.txn_draft.specs.Uses.{IsUsed, Undoes}
use Rattle.open_txn.specs.Traces.{Looks}
use Rattle.partition_hold.specs.Sources.{Fails}
use Rattle.partition_hold.specs.Views.{ViewValue, state_of}
use Rattle.epoch_room.specs.Fitting.{fit_of}
use Rattle.epoch_room.specs.Steps.{appended}
use Rattle.epoch_room.specs.Value.{RoomValue}
use Rattle.epoch_room.specs.declared.answers.Fit.TheVariants as fit
use Rattle.epoch_room.specs.declared.answers.Stamp.{Stamp}
use Rattle.fine_places.specs.History as places
use Rattle.fine_hall.specs.declared.law.Beginning.{Beginning}
use Rattle.fine_hall.specs.Laws.{CountsEpochs}
use Rattle.fine_hall.specs.Passes.{known, seen, published, found_held, front_of, troubles, HasPlace, LacksPlace, HoldsNothing}
use Rattle.fine_hall.specs.Halls.{SeesMore}
use Rattle.key_locks.specs.Locks.{HasLock, LacksLock, AreLocksOf}
use Rattle.txn_engine.specs.declared.txn.Committed.{Committed}
use Rattle.txn_engine.specs.declared.txn.Txn.{Txn}
use Rattle.txn_engine.specs.declared.txn.TxnFault.{TxnFault}
use Rattle.txn_engine.specs.declared.txn.TxnFault.TheVariants as fault
use Rattle.txn_engine.specs.declared.txn.CommitFault.{CommitFault}
use Rattle.txn_engine.specs.Faults.{refusal_of}
use Rattle.hall_rooms.specs.Rooms.{RoomPass}
use Rattle.hall_rooms.specs.Turning.{TakesTurn, MeetsNone, NotBegan}

-- ---- what is open

-- A bucket that the transaction holds: taken while the epoch `low` was published, it stood for the whole history, and none of what was
-- committed since is in it. Undoing leaves what the history leaves; unless memory ran out, it holds what the history and then the draft leave.
pub record IsHeld (log : Origin) (published : ℕ) (history : List Commit) (d : DraftValue) (k : ℕ) (b : Cache) : Type 0 where
  pub taken : Cache
  pub low : ℕ
  pub reached : low ≤ published
  pub stood : StandsFor log k low taken history
  pub undoes : Undoes low taken b
  pub restores : (e : ℕ) (first : List Row) → Began log e first → Restores b (first ++ all_rows history)
  pub used : d.failed ≡ false → IsUsed low taken b d.rows
  pub holds : d.failed ≡ false → (e : ℕ) (first : List Row) → Began log e first → Holds b (first ++ all_rows history) d.rows

-- The calls that were answered are in buckets that the transaction holds, and are answered on the whole history.
pub record IsAnsweredOn (log : Origin) (history : List Commit) (d : DraftValue) (locks : List (Option Cache)) : Type 0 where
  pub fits : FitsDraft d
  pub here : (k : ℕ) → k < 256 → LacksLock locks k → list_any (is_here k) d.calls ≡ false
  pub answered : (e : ℕ) (first : List Row) → Began log e first → IsAnswered (first ++ all_rows history) d

-- A draft is open on a history, with the buckets that it holds. After want of memory only what was taken is known, and that undoing restores it.
pub record IsOpenOn (log : Origin) (published : ℕ) (history : List Commit) (d : DraftValue) (locks : List (Option Cache)) : Type 0 where
  pub held : (k : ℕ) (b : Cache) → k < 256 → HasLock locks k b → IsHeld log published history d k b
  pub answers : d.failed ≡ false → IsAnsweredOn log history d locks

-- An open transaction of a pass: it holds just the buckets that the pass holds, and is open on all that the pass saw.
pub record IsOpenTxn (x : Beginning) (t : Txn) (p : RoomPass) : Type 0 where
  pub locks : AreLocksOf t.locks p
  pub open_on : IsOpenOn x.log (published p) (seen p) t.draft t.locks

abbrev pub HoldsNone : List (Option Cache) → Type 0
HoldsNone locks = (k : ℕ) → k < 256 → LacksLock locks k

-- a transaction that holds nothing, and of which no call was answered
pub record IsBlankTxn (t : Txn) : Type 0 where
  pub lane : ℕ
  pub turn : ℕ
  pub is_blank : t.draft ≡ blank lane turn
  pub none : HoldsNone t.locks

-- the replies of an open transaction that is not failed are the store's to its calls, on all that the pass saw
abbrev pub AreReplies : Beginning → Txn → RoomPass → Type 0
AreReplies x t p = (e : ℕ) (first : List Row) → Began x.log e first → t.draft.replies ≡ replies_to (map_of (first ++ all_rows (seen p))) t.draft.calls

-- nothing is left of the transaction but its lane and number
abbrev pub IsBlank : Txn → Txn → Type 0
IsBlank t t' = (t'.draft ≡ blank t.draft.lane t.draft.turn) × HoldsNone t'.locks

-- ---- a call

-- each bucket of a set is in the place of its number
abbrev pub AreNumbered : List (Option Cache) → Type 0
AreNumbered locks = (k : ℕ) (b : Cache) → k < 256 → HasLock locks k b → b.bucket ≡ k

-- a set has all buckets, each in the place of its number
abbrev pub HasAll : List (Option Cache) → Type 0
HasAll locks = (k : ℕ) → k < 256 → (b : Cache) × HasLock locks k b × (b.bucket ≡ k)

-- The pass saw more, holds what it held and the room where it did, and what it met did not fall.
pub record SeesCall (x : Beginning) (p p' : RoomPass) : Type 0 where
  pub sees : SeesMore p p'
  pub held : (k : ℕ) → k < 256 → HasPlace p k → HasPlace p' k
  pub room : get_elem? (known p').held places.room ≡ get_elem? (known p).held places.room
  pub no_fewer : troubles state_of x p ≤ troubles state_of x p'

-- the one try of this call that found a place held
pub record FoundLast (x : Beginning) (bucket owner : ℕ) (p p' : RoomPass) : Type 0 where
  pub tried : found_held p' ≡ found_held p ++ record { place = bucket; owner = owner } ∷ []
  pub another : (0 < owner) × (owner ≤ x.seats) × (owner ≢ p.number)

-- the buckets of a call are in a set
abbrev pub HasBuckets : Call → List (Option Cache) → Type 0
HasBuckets c locks = (k : ℕ) → k < 256 → is_here k c ≡ true → (b : Cache) × HasLock locks k b

-- What is taken before a conflict: nothing of a call that is no scan, and for a scan all buckets below the one that another seat held.
pub record StopsBefore (c : Call) (bucket : ℕ) (locks locks' : List (Option Cache)) : Type 0 where
  pub one : is_scan c ≡ false → locks' ≡ locks
  pub below : is_scan c ≡ true → (k : ℕ) → k < bucket → (b : Cache) × HasLock locks' k b
  pub above : (k : ℕ) → bucket ≤ k → slice_get locks' k ≡ slice_get locks k

-- no try of the call found a place held, the buckets of the call are held, and the others are as they were
pub record TakesBuckets (c : Call) (t t' : Txn) (p p' : RoomPass) : Type 0 where
  pub all : HasBuckets c t'.locks
  pub others : (k : ℕ) → k < 256 → is_here k c ≡ false → slice_get t'.locks k ≡ slice_get t.locks k
  pub found : found_held p' ≡ found_held p

-- the call stands behind the others, with its reply, its writes and its rows
pub record KeepsCall (c : Call) (d d' : DraftValue) : Type 0 where
  pub one : is_scan c ≡ false → Keeps c d d'
  pub scan : is_scan c ≡ true → (pairs : List Pair) × KeepsFound c pairs d d'

-- the draft is as it was, and no read failed
abbrev pub IsLeft : Beginning → Txn → Txn → RoomPass → RoomPass → Type 0
IsLeft x t t' p p' = (t'.draft ≡ t.draft) × MeetsNone x p p'

-- a read failed: what the pass met has risen, or the count of its front stands at its last value
abbrev pub MeetsRead : Beginning → RoomPass → RoomPass → Type 0
MeetsRead x p p' = (troubles state_of x p < troubles state_of x p') ⊎ (last_count ≤ (front_of state_of p').faults)

-- Behind the history that the pass saw, the definitions refuse the calls for this reason, and P of what it and the transaction's rows leave.
abbrev pub Refuses : Beginning → Txn → Call → RoomPass → Why → (List Row → Type 0) → Type 0
Refuses x t c p cause P =
    (e : ℕ) (first : List Row) → Began x.log e first → (all_pushed (first ++ all_rows (seen p)) (t.draft.calls ++ c ∷ []) ≡ Err cause) × P ((first ++ all_rows (seen p)) ++ t.draft.rows)

-- what the head of a call's bucket says where the bucket is full, by what rows leave
abbrev pub SaysFull : Call → ℕ → ℕ → List Row → Type 0
SaysFull c next depth rows = HeadSays (nodes_of rows (bucket_of (key_of c)) 0).0 next depth

-- the first node of the rows of a call that is over its bounds
abbrev pub IsOver : Call → NodeId → List Row → Type 0
IsOver c id rows = first_over (push_of rows c).rows ≡ Some id

-- The first node that is not fit on the way of a call, by what a bucket of a set gives.
pub record IsUnfitIn (locks : List (Option Cache)) (c : Call) (id : NodeId) : Type 0 where
  pub bucket : ℕ
  pub content : Cache
  pub within : bucket < 256
  pub held : HasLock locks bucket content
  pub first : Looks c content id

-- What a fault of a load says of the front that a pass reads: a place of one of its parts is bad by what was read, and it tells no rows.
pub record BlamesFront (p : RoomPass) (fault : FetchFault) : Type 0 where
  pub front : ViewValue
  pub is : p.front ≡ Some front
  pub fails : Fails front fault front

-- Memory ran out: the draft is failed, with its lane and number. Unless it was failed before, the call's buckets were taken.
pub record WantsMemory (c : Call) (t t' : Txn) (p p' : RoomPass) : Type 0 where
  pub lost : IsLost t.draft t'.draft
  pub takes : t.draft.failed ≡ false → TakesBuckets c t t' p p'

-- memory had run out before, and nothing changed
abbrev pub StaysFailed : Txn → Txn → RoomPass → RoomPass → Result (Unit {0}) TxnFault → Type 0
StaysFailed t t' p p' r = (r ≡ Err fault.NoMemory) × (t' ≡ t) × (p' ≡ p)

-- a call answered want of memory
abbrev pub wants_memory : Result (Unit {0}) TxnFault → Bool
wants_memory (Err fault.NoMemory) = true
wants_memory _ = false

-- How a call is answered. A conflict leaves the draft, and the whole transaction where the call is no scan; want of memory leaves a failed draft.
abbrev pub CallsOr : Beginning → Call → Txn → Txn → RoomPass → RoomPass → Result (Unit {0}) TxnFault → Type 0
CallsOr x c t t' p p' (Ok done) = KeepsCall c t.draft t'.draft × TakesBuckets c t t' p p' × MeetsNone x p p'
CallsOr x c t t' p p' (Err (fault.Conflict bucket owner)) =
    IsLeft x t t' p p' × (is_here bucket c ≡ true) × LacksLock t.locks bucket × FoundLast x bucket owner p p' × StopsBefore c bucket t.locks t'.locks
CallsOr x c t t' p p' (Err fault.Disk) = (t'.draft ≡ t.draft) × TakesBuckets c t t' p p' × MeetsRead x p p'
CallsOr x c t t' p p' (Err (fault.BadRow region at)) = IsLeft x t t' p p' × TakesBuckets c t t' p p' × NotBegan x × BlamesFront p' (fetch_fault.BadRow region at)
CallsOr x c t t' p p' (Err (fault.BadIndex region at)) = IsLeft x t t' p p' × TakesBuckets c t t' p p' × NotBegan x × BlamesFront p' (fetch_fault.BadIndex region at)
CallsOr x c t t' p p' (Err (fault.Unfit id)) = IsLeft x t t' p p' × TakesBuckets c t t' p p' × NotBegan x × IsUnfitIn t'.locks c id
CallsOr x c t t' p p' (Err (fault.BucketFull next depth)) = IsLeft x t t' p p' × TakesBuckets c t t' p p' × Refuses x t c p' why.Bucket (SaysFull c next depth)
CallsOr x c t t' p p' (Err (fault.Number id)) = IsLeft x t t' p p' × TakesBuckets c t t' p p' × Refuses x t c p' why.Number (IsOver c id)
CallsOr x c t t' p p' (Err fault.NoMemory) = WantsMemory c t t' p p'

-- a call was refused by a conflict
abbrev pub is_conflict : Result (Unit {0}) TxnFault → Bool
is_conflict (Err (fault.Conflict bucket owner)) = true
is_conflict _ = false

-- ---- the ends

-- Each bucket that was held was given back as f makes it of what it was, and no other one.
pub record GivesBack (f : Cache → Cache) (t t' : Txn) : Type 0 where
  pub none : (k : ℕ) → k < 256 → LacksLock t.locks k → LacksLock t'.given_back.value k
  pub each : (k : ℕ) (b : Cache) → k < 256 → HasLock t.locks k b → HasLock t'.given_back.value k (f b)

-- Each was given back settled, and what was published evicted, but for so many nodes: up to an epoch that is not below the published one that the pass
-- knew, nor above the one that it then knows.
pub record GivesBackSettled (keep epoch : ℕ) (t t' : Txn) (p p' : RoomPass) : Type 0 where
  pub upto : ℕ
  pub no_earlier : published p ≤ upto
  pub no_later : upto ≤ published p'
  pub gives : GivesBack (λ b. evicted upto keep (settled epoch b)) t t'

-- The entry was committed in one turn, at the end of what the pass then saw, and all buckets were given back, settled and evicted.
pub record Commits (x : Beginning) (keep : ℕ) (t t' : Txn) (p p' : RoomPass) (stamp : Stamp) : Type 0 where
  pub found : RoomState
  pub room : RoomState
  pub turn : TakesTurn x found (Some (entry_of t.draft)) stamp.epoch room p p'
  pub fits : fit_of found (cost t.draft.rows) ≡ fit.Fits
  pub appends : (value : RoomValue) × (value.room ≡ found) × (room ≡ (appended value t.draft.rows).room)
  pub job : KeepsJob found room
  pub epoch : stamp.epoch ≡ found.sealed + 1
  pub place : stamp.place ≡ length (seen p')
  pub blank_now : IsBlank t t'
  pub nothing : HoldsNothing p'
  pub evicts : GivesBackSettled keep stamp.epoch t t' p p'
  pub meets : MeetsNone x p p'

-- The room had no place for it, by its own numbers; it was given back as it was, and the transaction is as it was.
pub record IsRefused (x : Beginning) (t t' : Txn) (p p' : RoomPass) (cause : CommitFault) : Type 0 where
  pub room : RoomState
  pub turn : TakesTurn x room None 0 room p p'
  pub is_cause : fit_of room (cost t.draft.rows) ≡ refusal_of cause
  pub same : t' ≡ t
  pub held : (known p').held ≡ (known p).held
  pub meets : MeetsNone x p p'

-- It is handed out with its entry, and with how many entries then wait in the open epoch, by the epochs of all that the pass saw.
pub record CommitsCounted (x : Beginning) (keep : ℕ) (t t' : Txn) (p p' : RoomPass) (done : Committed) : Type 0 where
  pub commits : Commits x keep t t' p p' done.stamp
  pub entry : done.entry ≡ entry_of t.draft
  pub counts : CountsEpochs x commits.room (seen p')
  pub waits : done.waiting ≡ commits.room.waiting

abbrev pub CommitsOr : Beginning → ℕ → Txn → Txn → RoomPass → RoomPass → Result Committed CommitFault → Type 0
CommitsOr x keep t t' p p' (Ok done) = CommitsCounted x keep t t' p p' done
CommitsOr x keep t t' p p' (Err cause) = IsRefused x t t' p p' cause

-- All was taken back, and all buckets were given back, without what is published, but for so many nodes; the pass had no turn.
pub record Aborts (x : Beginning) (keep : ℕ) (t t' : Txn) (p p' : RoomPass) : Type 0 where
  pub blank_now : IsBlank t t'
  pub nothing : (k : ℕ) → k < 256 → LacksPlace p' k
  pub evicts : GivesBack (λ b. evicted (published p') keep (undone b)) t t'
  pub room : get_elem? (known p').held places.room ≡ get_elem? (known p).held places.room
  pub sees : SeesMore p p'
  pub found : found_held p' ≡ found_held p
  pub front : (p'.front ≡ p.front) × (p'.buffer ≡ p.buffer)
  pub meets : MeetsNone x p p'

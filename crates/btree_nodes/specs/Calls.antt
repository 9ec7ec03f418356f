-- What calls of a tree do and answer.
use Rattle.std.specs.Prelude.{◌≡◌, ℕ, Bool, true, false, List, ◌++◌, take, Option, None, Some, Result, Ok, Err}
use Rattle.fine_model.specs.declared.Call.{Call}
use Rattle.fine_model.specs.declared.FetchFault.{FetchFault}
use Rattle.fine_model.specs.declared.NodeId.{NodeId}
use Rattle.fine_model.specs.declared.Reply.{Reply}
use Rattle.fine_model.specs.declared.Reply.TheVariants as reply
use Rattle.fine_model.specs.declared.Row.{Row}
use Rattle.fine_model.specs.declared.Why.{Why}
use Rattle.fine_model.specs.declared.Why.TheVariants as why
use Rattle.fine_model.specs.Map.{Pair, get}
use Rattle.fine_model.specs.Paths.{unfit_between}
use Rattle.fine_model.specs.Pushed.{call_push, within_limits, pushed, push_of, key_of}
use Rattle.fine_model.specs.Trees.{nodes_of, bucket_of}
use Rattle.node_cache.specs.Cache.{Cache}
use Rattle.node_cache.specs.Given.{Finds, given, IsCached, IsLoaded, OnCleanFault}
use Rattle.btree_nodes.specs.declared.fault.TreeFault.{TreeFault}
use Rattle.btree_nodes.specs.declared.fault.TreeFault.TheVariants.{Source, Unfit, BucketFull, Number, NoMemory}
use Rattle.btree_nodes.specs.Faults.{OnFault}
use Rattle.btree_nodes.specs.Trees.{unfit_in, pairs_in, way_in, pairs_between, Restores, Holds, LoadsOnWay, AreUsed, FitsLog, HeadSays, first_over}
use Rattle.btree_nodes.specs.Changes.{Saves, Pushes}

-- a reply that says a sum
abbrev pub is_sum : Reply → Bool
is_sum (reply.Sum sum) = true
is_sum _ = false

-- ---- on every disk

-- the rows that a call pushes on the nodes that a bucket gives
abbrev pub pushed_in : Cache → Call → Result (List Row) Why
pushed_in b c = within_limits (call_push b.bucket (given b) c)

-- The call is done: its rows stand behind the log's, each node is what they make of it, and they fit the format and are of this
-- bucket.
pub record IsDone (mid new : Cache) (log log' : List Row) (c : Call) : Type 0 where
  pub rows : List Row
  pub is_pushed : pushed_in mid c ≡ Ok rows
  pub behind : log' ≡ log ++ rows
  pub pushes : Pushes mid new rows
  pub fits : FitsLog mid.bucket rows

-- nothing is changed
pub record IsAsBefore (mid new : Cache) (log log' : List Row) : Type 0 where
  pub nodes : new ≡ mid
  pub rows : log' ≡ log

-- all nodes on the way to a key are fit
pub record IsReached (mid : Cache) (key : List ℕ) : Type 0 where
  pub here : IsCached mid 0
  pub fit : unfit_in mid key ≡ None

-- the first node on a key's way that is not fit
pub record IsFirstUnfit (b : Cache) (key : List ℕ) (id : NodeId) : Type 0 where
  pub of_bucket : id.bucket ≡ b.bucket
  pub first : unfit_in b key ≡ Some id.number
  pub there : IsCached b id.number

-- The outcome of a call on a key, once the way to it is loaded. With want of memory some of it may be done, but nothing of what was
-- saved is lost.
abbrev pub Outcome : {A : Type 0} → Cache → Cache → List Row → List Row → Call → (A → Type 0) → (FetchFault → Type 0) → Result A TreeFault → Type 0
Outcome mid new log log' c P Failed (Ok a) = P a × IsReached mid (key_of c) × IsDone mid new log log' c
Outcome mid new log log' c P Failed (Err (Source fault)) = Failed fault × IsAsBefore mid new log log'
Outcome mid new log log' c P Failed (Err (Unfit id)) = IsFirstUnfit mid (key_of c) id × IsAsBefore mid new log log'
Outcome mid new log log' c P Failed (Err (BucketFull next depth)) =
    (pushed_in mid c ≡ Err why.Bucket) × HeadSays (given mid 0).0 next depth × IsReached mid (key_of c) × IsAsBefore mid new log log'
Outcome mid new log log' c P Failed (Err (Number id)) =
    (pushed_in mid c ≡ Err why.Number) × (first_over (call_push mid.bucket (given mid) c).rows ≡ Some id) × IsReached mid (key_of c) × IsAsBefore mid new log log'
Outcome mid new log log' c P Failed (Err NoMemory) = Saves mid new

-- with an answer for which the key's leaf was reached
abbrev pub OnReached : {A : Type 0} → Result A TreeFault → Type 0 → Type 0
OnReached (Ok a) P = P
OnReached (Err (BucketFull next depth)) P = P
OnReached (Err (Number id)) P = P
OnReached (Err _) P = Unit {0}

-- A change of a tree: nodes on the way are loaded, and no others, and the way is what was used last, before anything is pushed; then
-- the call has its outcome.
pub record IsChange {A : Type 0} (tells : List Row → Type 0) (finds : Finds) (upper : ℕ) (old new : Cache) (log log' : List Row) (c : Call) (P : Cache → A → Type 0) (Failed : FetchFault → Type 0) (r : Result A TreeFault) : Type 0 where
  pub mid : Cache
  pub loaded : IsLoaded tells finds upper old mid
  pub on_way : LoadsOnWay old mid (key_of c)
  pub used : OnReached r (AreUsed old mid (way_in mid (key_of c)))
  pub outcome : Outcome mid new log log' c (P mid) Failed r

-- an answer of a call that changes nothing
abbrev pub Reads : {A : Type 0} → (A → Type 0) → (FetchFault → Type 0) → (NodeId → Type 0) → Result A TreeFault → Type 0
Reads P Failed IsUnfit (Ok a) = P a
Reads P Failed IsUnfit (Err fault) = OnFault fault Failed IsUnfit (Unit {0})

-- an answer of a call that goes down a tree to a key
abbrev pub Answers : {A : Type 0} → Cache → List ℕ → (A → Type 0) → (FetchFault → Type 0) → Result A TreeFault → Type 0
Answers b key P Failed r = Reads P Failed (IsFirstUnfit b key) r

-- what is found of a key: the value in its leaf, with all nodes on the way fit
pub record IsFound (b : Cache) (key : List ℕ) (value : Option (List ℕ)) : Type 0 where
  pub here : IsCached b 0
  pub fit : unfit_in b key ≡ None
  pub stands : value ≡ get (pairs_in b key) key

-- the first node that is not fit on the way of a scan, by what the bucket gives
pub record IsFirstUnfitBetween (b : Cache) (low high : List ℕ) (limit : ℕ) (id : NodeId) : Type 0 where
  pub of_bucket : id.bucket ≡ b.bucket
  pub first : unfit_between b.bucket (given b) low high limit (given b 0).0 ≡ Some id.number
  pub there : IsCached b id.number

-- the first pairs of a range stand behind a list, with all nodes on the way fit
pub record IsFoundBetween (b : Cache) (low high : List ℕ) (limit : ℕ) (old new : List Pair) : Type 0 where
  pub here : IsCached b 0
  pub fit : unfit_between b.bucket (given b) low high limit (given b 0).0 ≡ None
  pub behind : new ≡ old ++ take limit (pairs_between (given b) low high (given b 0).0)

-- with every answer but that of a failed load, no load failed: want of memory of the call's own included
abbrev pub OnCleanAnswer : {A : Type 0} → Result A TreeFault → Type 0 → Type 0
OnCleanAnswer (Ok a) P = P
OnCleanAnswer (Err (Source fault)) P = OnCleanFault fault P
OnCleanAnswer (Err _) P = P

-- ---- on sound rows, for which the source serves the bucket

-- the rows that a call pushes on sound rows stand behind the log's, and the bucket holds what all these leave
pub record IsSoundlyDone (rows log log' : List Row) (new : Cache) (c : Call) : Type 0 where
  pub own : List Row
  pub is_pushed : pushed (rows ++ log) c ≡ Ok own
  pub behind : log' ≡ log ++ own
  pub holds : Holds new rows log'

-- nothing was pushed, and the bucket holds what it held
pub record Stays (rows log log' : List Row) (new : Cache) : Type 0 where
  pub same : log' ≡ log
  pub holds : Holds new rows log

-- The outcome where the rows that the bucket holds are sound: no node is unfit, and a refusal is that of the pushed rows. After want
-- of memory, what undoing restores is what the rows leave.
abbrev pub SoundOutcome : {A : Type 0} → List Row → List Row → List Row → Cache → Call → (A → Type 0) → Result A TreeFault → Type 0
SoundOutcome rows log log' new c P (Ok a) = P a × IsSoundlyDone rows log log' new c
SoundOutcome rows log log' new c P (Err (Source fault)) = Stays rows log log' new
SoundOutcome rows log log' new c P (Err (Unfit id)) = ⊥
SoundOutcome rows log log' new c P (Err (BucketFull next depth)) =
    (pushed (rows ++ log) c ≡ Err why.Bucket) × HeadSays (nodes_of (rows ++ log) (bucket_of (key_of c)) 0).0 next depth × Stays rows log log' new
SoundOutcome rows log log' new c P (Err (Number id)) =
    (pushed (rows ++ log) c ≡ Err why.Number) × (first_over (push_of (rows ++ log) c).rows ≡ Some id) × Stays rows log log' new
SoundOutcome rows log log' new c P (Err NoMemory) = Restores new rows

-- the same of a call that changes nothing: with each answer the bucket holds what it held
abbrev pub SoundReading : {A : Type 0} → List Row → List Row → Cache → (A → Type 0) → Result A TreeFault → Type 0
SoundReading rows log new P (Ok a) = P a × Holds new rows log
SoundReading rows log new P (Err fault) = OnFault fault (λ _. Holds new rows log) (λ _. ⊥) (Holds new rows log)

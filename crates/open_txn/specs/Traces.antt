-- What the calls of a transaction loaded and changed in each bucket, on every disk, be the log sound or not. What is loaded is as a source gives it:
-- `tells` are the rows that the source tells, `finds` the contents that it may find in a node, and `upper` is its last epoch.
use Rattle.std.specs.Prelude.{◌≡◌, ◌≢◌, ◌⊎◌, ℕ, ◌<◌, ◌≤◌, ◌==◌, List, [], ◌∷◌, ◌++◌, filter, None, Err}
use Rattle.fine_model.specs.declared.Call.{Call}
use Rattle.fine_model.specs.declared.Call.TheVariants as call
use Rattle.fine_model.specs.declared.NodeId.{NodeId}
use Rattle.fine_model.specs.declared.Row.{Row}
use Rattle.fine_model.specs.Paths.{unfit_between}
use Rattle.fine_model.specs.Pushed.{key_of}
use Rattle.fine_model.specs.RowBytes.{buckets}
use Rattle.fine_model.specs.Trees.{bucket_of}
use Rattle.node_cache.specs.Cache.{Cache, IsResting, IsSaved, before}
use Rattle.node_cache.specs.Given.{Finds, given, IsCached, IsLoaded}
use Rattle.btree_nodes.specs.declared.fault.TreeFault.{TreeFault}
use Rattle.btree_nodes.specs.declared.fault.TreeFault.TheVariants.{Unfit}
use Rattle.btree_nodes.specs.Calls.{IsDone, IsFirstUnfit, IsFirstUnfitBetween, IsReached, Outcome}
use Rattle.btree_nodes.specs.Faults.{OnFault}
use Rattle.btree_nodes.specs.Trees.{LoadsOnWay}
use Rattle.btree_nodes.specs.Walks.{LoadsOnWalk}
use Rattle.open_txn.specs.Buckets.{BucketsValue, EachPair}

-- ---- one call in one bucket

-- A call of a key was done: nodes on the key's way were loaded and no others, all nodes on the way are fit, and then the bucket is what these rows make of
-- it, which are those that the call pushes on the nodes that the bucket gives.
pub record Changes (tells : List Row → Type 0) (finds : Finds) (upper : ℕ) (c : Call) (rows : List Row) (old new : Cache) : Type 0 where
  pub mid : Cache
  pub loaded : IsLoaded tells finds upper old mid
  pub on_way : LoadsOnWay old mid (key_of c)
  pub reached : IsReached mid (key_of c)
  pub done : IsDone mid new [] rows c

-- A scan went through: nodes on its walk were loaded and no others, all nodes on the walk are fit, and nothing is changed.
pub record Scans (tells : List Row → Type 0) (finds : Finds) (upper : ℕ) (low high : List ℕ) (limit : ℕ) (old new : Cache) : Type 0 where
  pub loaded : IsLoaded tells finds upper old new
  pub on_walk : LoadsOnWalk old new low high limit
  pub here : IsCached new 0
  pub fit : unfit_between new.bucket (given new) low high limit (given new 0).0 ≡ None

-- What a call did in a bucket, with the rows that it pushed there: a scan goes through every bucket, and a call of a key changes the bucket of this key and leaves all
-- others as they were.
abbrev pub Does : (List Row → Type 0) → Finds → ℕ → Call → List Row → Cache → Cache → Type 0
Does tells finds upper (call.Scan low high limit) rows old new = (rows ≡ []) × Scans tells finds upper low high limit old new
Does tells finds upper c rows old new =
    ((bucket_of (key_of c) ≡ old.bucket) × Changes tells finds upper c rows old new) ⊎ ((bucket_of (key_of c) ≢ old.bucket) × (rows ≡ []) × (new ≡ old))

-- The same of calls in their order, one after the other, with all rows that they pushed there.
abbrev pub DoAll : (List Row → Type 0) → Finds → ℕ → List Call → List Row → Cache → Cache → Type 0
DoAll tells finds upper [] rows old new = (rows ≡ []) × (new ≡ old)
DoAll tells finds upper (c ∷ cs) rows old new =
    (mid : Cache) × (own : List Row) × (more : List Row) × (rows ≡ own ++ more) × Does tells finds upper c own old mid × DoAll tells finds upper cs more mid new

-- ---- a call that was refused

-- A call of a key was refused in the bucket of this key: nodes on the key's way were loaded and no others, and then the bucket is as this fault leaves it: as it
-- was, or after want of memory with no original lost. `Unfit` names the first node on the way that is not fit.
pub record IsRefused (tells : List Row → Type 0) (finds : Finds) (upper : ℕ) (c : Call) (fault : TreeFault) (old new : Cache) : Type 0 where
  pub mid : Cache
  pub loaded : IsLoaded tells finds upper old mid
  pub on_way : LoadsOnWay old mid (key_of c)
  pub outcome : Outcome {A = Unit {0}} mid new [] [] c (λ _. Unit {0}) (λ _. Unit {0}) (Err fault)

-- A scan was refused, in this bucket or another one: nodes on its walk were loaded and no others, and nothing is changed. Where `Unfit` names a node of this
-- bucket, it is the first on the walk that is not fit. No scan is refused for a full bucket or a version.
pub record IsCutOff (tells : List Row → Type 0) (finds : Finds) (upper : ℕ) (low high : List ℕ) (limit : ℕ) (fault : TreeFault) (old new : Cache) : Type 0 where
  pub loaded : IsLoaded tells finds upper old new
  pub on_walk : LoadsOnWalk old new low high limit
  pub cause : OnFault fault (λ _. Unit {0}) (λ id. id.bucket ≡ old.bucket → IsFirstUnfitBetween new low high limit id) (Unit {0})

-- what holds of a node that is named as unfit
abbrev pub OnUnfit : TreeFault → (NodeId → Type 0) → Type 0
OnUnfit (Unfit id) P = P id
OnUnfit _ P = Unit {0}

-- What a call that was refused did in a bucket: a call of a key leaves all buckets but that of the key as they were, and names no node of theirs.
abbrev pub Refused : (List Row → Type 0) → Finds → ℕ → Call → TreeFault → Cache → Cache → Type 0
Refused tells finds upper (call.Scan low high limit) fault old new = IsCutOff tells finds upper low high limit fault old new
Refused tells finds upper c fault old new =
    ((bucket_of (key_of c) ≡ old.bucket) × IsRefused tells finds upper c fault old new) ⊎ ((bucket_of (key_of c) ≢ old.bucket) × (new ≡ old) × OnUnfit fault (λ id. id.bucket ≢ old.bucket))

-- ---- in all buckets

-- the rows of one bucket
abbrev pub rows_in : ℕ → List Row → List Row
rows_in k rows = filter (λ row. row.node.bucket == k) rows

-- All calls were answered: each did in each bucket, in their order, what it does there, and these are the rows that they pushed.
abbrev pub AllDone : (List Row → Type 0) → Finds → ℕ → List Call → List Row → BucketsValue → BucketsValue → Type 0
AllDone tells finds upper calls rows old new = EachPair (λ k b b'. DoAll tells finds upper calls (rows_in k rows) b b') old new

-- One of the calls was refused with this fault: those before it were done, with these rows, and those behind it were not begun. A node that is unfit is of one of the buckets.
pub record StopsAt (tells : List Row → Type 0) (finds : Finds) (upper : ℕ) (calls : List Call) (fault : TreeFault) (old new : BucketsValue) : Type 0 where
  pub done : List Call
  pub refused : Call
  pub rest : List Call
  pub order : calls ≡ done ++ refused ∷ rest
  pub rows : List Row
  pub each : EachPair (λ k b b'. (mid : Cache) × DoAll tells finds upper done (rows_in k rows) b mid × Refused tells finds upper refused fault mid b') old new
  pub named : OnUnfit fault (λ id. id.bucket < buckets)

-- ---- on the way

-- calls were answered, and the rows that they pushed stand behind those of a draft
pub record AddsDone (tells : List Row → Type 0) (finds : Finds) (upper : ℕ) (calls : List Call) (log log' : List Row) (old new : BucketsValue) : Type 0 where
  pub rows : List Row
  pub behind : log' ≡ log ++ rows
  pub each : AllDone tells finds upper calls rows old new

-- a scan went through all buckets
abbrev pub ScansAll : (List Row → Type 0) → Finds → ℕ → List ℕ → List ℕ → ℕ → BucketsValue → BucketsValue → Type 0
ScansAll tells finds upper low high limit old new = EachPair (λ k b b'. Scans tells finds upper low high limit b b') old new

-- through one of them, and the others are as they were
abbrev pub ScansAt : (List Row → Type 0) → Finds → ℕ → ℕ → List ℕ → List ℕ → ℕ → BucketsValue → BucketsValue → Type 0
ScansAt tells finds upper at low high limit old new = EachPair (λ k b b'. (k < buckets) × (k ≡ at → Scans tells finds upper low high limit b b') × (k ≢ at → b' ≡ b)) old new

-- through those below a number, of which each has its place among the buckets
abbrev pub ScansBelow : (List Row → Type 0) → Finds → ℕ → ℕ → List ℕ → List ℕ → ℕ → BucketsValue → BucketsValue → Type 0
ScansBelow tells finds upper at low high limit old new = EachPair (λ k b b'. (0 < at → k < buckets) × (k < at → Scans tells finds upper low high limit b b') × (at ≤ k → b' ≡ b)) old new

-- a scan was refused in some bucket
pub record CutsOff (tells : List Row → Type 0) (finds : Finds) (upper : ℕ) (low high : List ℕ) (limit : ℕ) (fault : TreeFault) (old new : BucketsValue) : Type 0 where
  pub each : EachPair (λ k b b'. IsCutOff tells finds upper low high limit fault b b') old new
  pub named : OnUnfit fault (λ id. id.bucket < buckets)

-- in this one, of which alone a node is named, and the others are as they were
pub record CutsOffAt (tells : List Row → Type 0) (finds : Finds) (upper at : ℕ) (low high : List ℕ) (limit : ℕ) (fault : TreeFault) (old new : BucketsValue) : Type 0 where
  pub each : EachPair (λ k b b'. (k ≡ at → IsCutOff tells finds upper low high limit fault b b') × (k ≢ at → (b.bucket ≢ at) × (b' ≡ b))) old new
  pub named : OnFault fault (λ _. Unit {0}) (λ id. id.bucket ≡ at) (Unit {0})

-- ---- laws, of every source

-- calls behind calls
abbrev pub BehindLaw : {S : Type 0} → (S → List Row → Type 0) → (S → Finds) → (S → ℕ) → Type 0
BehindLaw tells finds upper =
    (s : _) (cs ds : List Call) (rows more : List Row) (a b c : Cache) → DoAll (tells s) (finds s) (upper s) cs rows a b → DoAll (tells s) (finds s) (upper s) ds more b c
    → DoAll (tells s) (finds s) (upper s) (cs ++ ds) (rows ++ more) a c

-- a bucket keeps its number
abbrev pub NumberLaw : {S : Type 0} → (S → List Row → Type 0) → (S → Finds) → (S → ℕ) → Type 0
NumberLaw tells finds upper = (s : _) (calls : List Call) (rows : List Row) (old new : Cache) → DoAll (tells s) (finds s) (upper s) calls rows old new → new.bucket ≡ old.bucket

-- On a bucket that rested each node that is saved is cached, and so none that is loaded later was saved.
abbrev pub SavedLaw : {S : Type 0} → (S → List Row → Type 0) → (S → Finds) → (S → ℕ) → Type 0
SavedLaw tells finds upper =
    (s : _) (calls : List Call) (rows : List Row) (old new : Cache) → IsResting old → DoAll (tells s) (finds s) (upper s) calls rows old new → (n : ℕ) → IsSaved new n → IsCached new n

-- what a look of a call names: the first node that is not fit, on the scan's walk or on the key's way, in the bucket of this key
abbrev pub Looks : Call → Cache → NodeId → Type 0
Looks (call.Scan low high limit) b id = IsFirstUnfitBetween b low high limit id
Looks c b id = (bucket_of (key_of c) ≡ b.bucket) × IsFirstUnfit b (key_of c) id

-- Of a refused call, whichever it is: nodes were loaded, and behind these loads undoing restores what it restores now. A node of this bucket that is named is the
-- first that is not fit, as the bucket is then.
pub record OnlyLoaded (tells : List Row → Type 0) (finds : Finds) (upper : ℕ) (c : Call) (fault : TreeFault) (old new : Cache) : Type 0 where
  pub mid : Cache
  pub loaded : IsLoaded tells finds upper old mid
  pub bucket : new.bucket ≡ mid.bucket
  pub undoes : (n : ℕ) → before new n ≡ before mid n
  pub named : OnUnfit fault (λ id. id.bucket ≡ old.bucket → Looks c mid id)

abbrev pub RefusedLaw : {S : Type 0} → (S → List Row → Type 0) → (S → Finds) → (S → ℕ) → Type 0
RefusedLaw tells finds upper =
    (s : _) (c : Call) (fault : TreeFault) (old new : Cache) → Refused (tells s) (finds s) (upper s) c fault old new → OnlyLoaded (tells s) (finds s) (upper s) c fault old new

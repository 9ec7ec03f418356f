-- What the laws of the definitions say. Each is the contract of a function of its name.
use Rattle.std.specs.Prelude.{◌≡◌, ◌≢◌, ℕ, ◌+◌, ◌<◌, ◌≤◌, ◌==◌, Bool, true, nat_le, IsTrue, List, [], ◌∷◌, ◌++◌, length, filter, count_by, All, Some, None, Ok, Err}
use Rattle.std.specs.List.{AllByRecursion}
use Rattle.fine_model.specs.Types.{NodeId, Rec, Row, Call, Range, Mark, Why}
use Rattle.fine_model.specs.Types.rec
use Rattle.fine_model.specs.Types.node
use Rattle.fine_model.specs.RowBytes.{most_in_node, FitsRow, BeginsWithRow, buckets}
use Rattle.fine_model.specs.Nodes.{Content, replay, rows_of, content, Agrees}
use Rattle.fine_model.specs.Map.{Pair, get, set, map_after}
use Rattle.fine_model.specs.Store.{after_call, writes_of}
use Rattle.fine_model.specs.Merge.{merged}
use Rattle.fine_model.specs.Pushed.{pairs_beside, pushed, all_pushed, and_then}
use Rattle.fine_model.specs.Trees.{IsSound, map_of, bucket_of, nodes_of, tree_numbers}
use Rattle.fine_model.specs.History.{Commit, IsNext, IsLegal, all_rows, map_at, upto, last_epoch}
use Rattle.fine_model.specs.Paths.{first_unfit, first_unfit_between}
use Rattle.fine_model.specs.Outcomes.{EpochsFollow}
use Rattle.fine_model.specs.Room.{IsSealedUpTo}
use Rattle.fine_model.specs.Regions.{Image, IsRegion, sealed, bad}
use Rattle.fine_model.specs.Chain.{Shows}

-- ---- maps

-- a key that was set has its value, and the other keys keep theirs
abbrev pub SetSame : Type 0
SetSame = (m : List Pair) (key value : List ℕ) → get (set m key value) key ≡ Some value

-- the other keys keep what they have
abbrev pub SetOther : Type 0
SetOther = (m : List Pair) (key other value : List ℕ) → key ≢ other → get (set m key value) other ≡ get m other

-- ---- rows and bytes

-- Bytes begin with one row at most: a row has one spelling, and no row begins another.
abbrev pub RowLaw : Type 0
RowLaw = (mark : Mark) (bytes : List ℕ) (row row' : Row) (rest rest' : List ℕ) → BeginsWithRow mark bytes row rest → BeginsWithRow mark bytes row' rest' → (row ≡ row') × (rest ≡ rest')

-- an image of the disk shows one epoch and one list of rows
abbrev pub ShownLaw : Type 0
ShownLaw = (region_len : ℕ) (image : Image) (e e' : ℕ) (rows rows' : List Row) → Shows region_len image e rows → Shows region_len image e' rows' → (e ≡ e') × (rows ≡ rows')

-- a sealed region is bad at no place
abbrev pub SealedLaw : Type 0
SealedLaw = (region_len : ℕ) (image : Image) (lead region at : ℕ) (range : Range) (rows : List Row)
    → IsRegion region_len image lead (sealed range rows) → IsRegion region_len image lead (bad region at) → ⊥

-- ---- replay and agreement

-- later rows go on from what the earlier ones leave
abbrev pub ReplayLaw : Type 0
ReplayLaw = (c : Content) (a b : List Row) → replay c (a ++ b) ≡ replay (replay c a) b

-- the same of each node of a log
abbrev pub ContentLaw : Type 0
ContentLaw = (a b : List Row) (id : NodeId) → content (a ++ b) id ≡ replay (content a id) (rows_of id b)

-- rows agree with themselves, with what agrees with what they agree with, and also with the same rows behind both
abbrev pub AgreesItself : Type 0
AgreesItself = (rows : List Row) → Agrees rows rows

-- agreement is transitive
abbrev pub AgreesOn : Type 0
AgreesOn = (a b c : List Row) → Agrees c b → Agrees b a → Agrees c a

-- agreement stays with the same rows behind both
abbrev pub AgreesBehind : Type 0
AgreesBehind = (new old rows : List Row) → Agrees new old → Agrees (new ++ rows) (old ++ rows)

-- rows that agree with sound ones are sound, and have their map
pub record IsSameLog (new old : List Row) : Type 0 where
  pub sound : IsSound new
  pub map : map_of new ≡ map_of old

-- what agrees with sound rows is sound, and has their map
abbrev pub AgreementLaw : Type 0
AgreementLaw = (new old : List Row) → Agrees new old → IsSound old → IsSameLog new old

-- merged rows in place of the two lists that they were merged from change no node that is not left broken
abbrev pub MergeLaw : Type 0
MergeLaw = (before older newer after : List Row) (id : NodeId) → AllByRecursion (λ row. row.version ≢ 0) before
    → (content (before ++ ((older ++ newer) ++ after)) id).0 ≢ node.Broken
    → content (before ++ (merged older newer ++ after)) id ≡ content (before ++ ((older ++ newer) ++ after)) id

-- ---- trees

-- sound rows leave no node broken that a tree reaches
abbrev pub WholeLaw : Type 0
WholeLaw = (rows : List Row) (bucket : ℕ) → IsSound rows → bucket < buckets → AllByRecursion (λ number. (nodes_of rows bucket number).0 ≢ node.Broken) (tree_numbers rows bucket)

-- on sound rows, each node on the path of a key is fit
abbrev pub FitLaw : Type 0
FitLaw = (rows : List Row) (key : List ℕ) → IsSound rows → first_unfit rows key ≡ None

-- and so is each on the path of a scan
abbrev pub ScanLaw : Type 0
ScanLaw = (rows : List Row) (bucket : ℕ) (low high : List ℕ) (limit : ℕ) → IsSound rows → bucket < buckets → first_unfit_between rows bucket low high limit ≡ None

-- on sound rows, the map has of a key what the leaf has in which the key belongs
abbrev pub LeafLaw : Type 0
LeafLaw = (rows : List Row) (key : List ℕ) → IsSound rows → get (map_of rows) key ≡ get (pairs_beside (nodes_of rows (bucket_of key)) key (nodes_of rows (bucket_of key) 0).0) key

-- ---- pushed rows

-- an image has at most 32 pairs or separators, as the format says
abbrev pub is_small : Rec → Bool
is_small (rec.LeafImage pairs) = nat_le (length pairs) most_in_node
is_small (rec.InnerImage seps kids) = nat_le (length seps) most_in_node
is_small _ = true

-- no image among the rows has more than 32 pairs or separators
pub record AreSmall (rows : List Row) : Type 0 where
  pub each : AllByRecursion (λ row. IsTrue (is_small row.rec)) rows

-- a row within the format's bounds is such a row
abbrev pub SmallLaw : Type 0
SmallLaw = (mark : Mark) (row : Row) → FitsRow mark row → IsTrue (is_small row.rec)

-- and so are all that an image shows
abbrev pub ShownSmall : Type 0
ShownSmall = (region_len : ℕ) (image : Image) (e : ℕ) (rows : List Row) → Shows region_len image e rows → AreSmall rows

-- rows are sound, and have this map
pub record HasMap (rows : List Row) (m : List Pair) : Type 0 where
  pub sound : IsSound rows
  pub map : map_of rows ≡ m

-- what rows and the rows that were pushed on top of them leave: a sound log with this map
pub record IsPushed (rows new : List Row) (m : List Pair) : Type 0 where
  pub has_map : HasMap (rows ++ new) m
  pub small : AreSmall (rows ++ new)

-- Where rows are sound and the rows that a call pushes are defined, both together are sound, and their map is the map of the
-- answer.
abbrev pub PushedLaw : Type 0
PushedLaw = (rows new : List Row) (c : Call) → AreSmall rows → IsSound rows → pushed rows c ≡ Ok new → IsPushed rows new (after_call (map_of rows) c)

-- the same of calls in order
abbrev pub AllPushedLaw : Type 0
AllPushedLaw = (rows new : List Row) (calls : List Call) → AreSmall rows → IsSound rows → all_pushed rows calls ≡ Ok new
    → IsPushed rows new (map_after (map_of rows) (writes_of (map_of rows) calls))

-- what calls push behind other calls, and what one more pushes
abbrev pub PushedBehind : Type 0
PushedBehind = (rows own : List Row) (calls more : List Call) → all_pushed rows calls ≡ Ok own → all_pushed rows (calls ++ more) ≡ and_then (all_pushed (rows ++ own) more) (λ new. Ok (own ++ new))

abbrev pub PushedLast : Type 0
PushedLast = (rows own new : List Row) (calls : List Call) (c : Call) → all_pushed rows calls ≡ Ok own → pushed (rows ++ own) c ≡ Ok new → all_pushed rows (calls ++ c ∷ []) ≡ Ok (own ++ new)

-- where a call is refused, all are, whatever follows
abbrev pub PushedStops : Type 0
PushedStops = (rows own : List Row) (calls more : List Call) (c : Call) (why : Why) → all_pushed rows calls ≡ Ok own → pushed (rows ++ own) c ≡ Err why → all_pushed rows (calls ++ c ∷ more) ≡ Err why

-- ---- histories

-- up to an epoch, a history is a front of itself
abbrev pub FrontLaw : Type 0
FrontLaw = (history : List Commit) (e : ℕ) → (rest : List Commit) × (history ≡ upto history e ++ rest)

-- it grows with the epoch
abbrev pub GrowthLaw : Type 0
GrowthLaw = (history : List Commit) (e e' : ℕ) → e ≤ e' → (rest : List Commit) × (upto history e' ≡ upto history e ++ rest)

-- and is whole from the last epoch on
abbrev pub WholeHistoryLaw : Type 0
WholeHistoryLaw = (e last : ℕ) (history : List Commit) → EpochsFollow e history → last_epoch e history ≤ last → upto history last ≡ history

-- a legal history is legal at every front, and with one more commit that may follow
abbrev pub LegalFront : Type 0
LegalFront = (first : List Row) (before after : List Commit) → IsLegal first (before ++ after) → IsLegal first before

-- a legal history stays legal with one more commit that may follow
abbrev pub LegalNext : Type 0
LegalNext = (first : List Row) (history : List Commit) (c : Commit) → IsLegal first history → IsNext first history c → IsLegal first (history ++ c ∷ [])

-- what a legal history leaves on sound rows: a sound log with the map after its writes
abbrev pub LegalMap : Type 0
LegalMap = (first : List Row) (history : List Commit) → AreSmall first → IsSound first → IsLegal first history → IsPushed first (all_rows history) (map_at first history)

-- ---- epochs

-- with a commit of the open epoch a history still follows, and is sealed up to where it was
abbrev pub FollowsOn : Type 0
FollowsOn =
    (e sealed : ℕ) (history : List Commit) (c : Commit) → EpochsFollow e history → IsSealedUpTo e history sealed → c.epoch ≡ sealed + 1
    → EpochsFollow e (history ++ c ∷ []) × IsSealedUpTo e (history ++ c ∷ []) sealed

-- no epoch is above the open one
abbrev pub EpochsBelow : Type 0
EpochsBelow = (e : ℕ) (history : List Commit) (sealed : ℕ) → EpochsFollow e history → IsSealedUpTo e history sealed → All (λ c. c.epoch ≤ sealed + 1) history

-- a history is what is sealed, and then what is open
abbrev pub SplitLaw : Type 0
SplitLaw = (e sealed : ℕ) (history : List Commit) → EpochsFollow e history → IsSealedUpTo e history sealed → upto history sealed ++ filter (λ c. c.epoch == sealed + 1) history ≡ history

-- one commit more waits with one of the open epoch
abbrev pub WaitsMore : Type 0
WaitsMore = (history : List Commit) (c : Commit) (n : ℕ) → c.epoch ≡ n → count_by (λ d. d.epoch == n) (history ++ c ∷ []) ≡ count_by (λ d. d.epoch == n) history + 1

-- where some commit waits, a history is sealed up to one epoch more once this is sealed, and none waits behind it
abbrev pub SealsOn : Type 0
SealsOn =
    (e : ℕ) (history : List Commit) (sealed : ℕ) → EpochsFollow e history → IsSealedUpTo e history sealed → 0 < count_by (λ c. c.epoch == sealed + 1) history
    → IsSealedUpTo e history (sealed + 1)

abbrev pub NoneWaits : Type 0
NoneWaits = (e : ℕ) (history : List Commit) (sealed : ℕ) → EpochsFollow e history → IsSealedUpTo e history sealed → 0 ≡ count_by (λ c. c.epoch == (sealed + 1) + 1) history

-- where none waits, all of a history is sealed
abbrev pub AllUpTo : Type 0
AllUpTo = (e : ℕ) (history : List Commit) (sealed : ℕ) → EpochsFollow e history → IsSealedUpTo e history sealed → 0 ≡ count_by (λ c. c.epoch == sealed + 1) history → upto history sealed ≡ history

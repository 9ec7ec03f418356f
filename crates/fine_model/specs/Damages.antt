-- What status 7 means on any log.
use Rattle.std.specs.Prelude.{◌≡◌, ◌⊎◌, ℕ, ◌-◌, ◌<◌, ◌≤◌, Bool, true, false, IsTrue, List, [], ◌∷◌, ◌++◌, map, flat_map, Option, None, Some, IsSome, unwrap_or, Result, Ok, Err, Contains, ◌+◌}
use Rattle.std.specs.List.{AllByRecursion, list_any}
use Rattle.fine_model.specs.Types.{Row, Header, Part, Damage, NodeId, RunFault, ScriptTxn, Ran}
use Rattle.fine_model.specs.Types.damage
use Rattle.fine_model.specs.Types.node
use Rattle.fine_model.specs.Types.run_fault
use Rattle.fine_model.specs.Nodes.{Content, base, replay, rows_of}
use Rattle.fine_model.specs.Merge.{is_image, is_node_below, starts_afresh}
use Rattle.fine_model.specs.RowBytes.{buckets}
use Rattle.fine_model.specs.Trees.{IsSound, bucket_of, nodes_of}
use Rattle.fine_model.specs.Paths.{unfit_under, unfit_between}
use Rattle.fine_model.specs.Regions.{Image, Place, place_of, body_in, HasHeader, HoldsBadItem, IsSealed}
use Rattle.fine_model.specs.Seek.{RowSpan, entry_at, is_entry, sought_entry, span_at, SpanHolds, IsBadInSpan}
use Rattle.fine_model.specs.Chain.{chain, chain_end, Shows}
use Rattle.fine_model.specs.History.{Commit, last_epoch}
use Rattle.fine_model.specs.Outcomes.{AreOutcomes, AllRun}
use Rattle.fine_model.specs.Script.{Refusal}
use Rattle.fine_model.specs.Report.{all_outcomes, damage_line, fault_line, report}
use Rattle.fine_model.specs.Headline.{Return, DiskRose, TellsFaults, OneOf, HasStatus, IsFrontOf, ReasonFor}

-- nothing that an image shows is a sound log
abbrev pub IsUnsound : ℕ → Image → Type 0
IsUnsound region_len image = (e : ℕ) (rows : List Row) → Shows region_len image e rows → IsSound rows → ⊥

-- ---- places

-- an index entry of a part that is none, or whose span does not end behind its start
pub record HasBadSpan (region_len : ℕ) (image : Image) (p : Part) (place : Place) : Type 0 where
  pub entry : ℕ
  pub there : entry < p.header.nodes
  pub at : ℕ
  pub is_bad : span_at p.header (body_in image p.region p.header) entry ≡ Err at
  pub stands : place ≡ place_of region_len p.region p.header at

-- the span of an index entry of a part has a bad row
pub record HasBadRowInSpan (region_len : ℕ) (image : Image) (p : Part) (place : Place) : Type 0 where
  pub entry : ℕ
  pub there : entry < p.header.nodes
  pub span : RowSpan
  pub is_span : span_at p.header (body_in image p.region p.header) entry ≡ Ok span
  pub at : ℕ
  pub is_bad : IsBadInSpan p.header (body_in image p.region p.header) span (entry_at p.header (body_in image p.region p.header) entry).node at
  pub stands : place ≡ place_of region_len p.region p.header at

-- What a reader may call bad in a part: its first bad row or index entry, or what a look for one node meets there, an entry or a row of its
-- span. In the grammar there is none of them.
abbrev pub IsBadPlace : ℕ → Image → Part → Place → Type 0
IsBadPlace region_len image p place = HoldsBadItem region_len image p.region place ⊎ HasBadSpan region_len image p place ⊎ HasBadRowInSpan region_len image p place

-- a part of the chain is bad there
abbrev pub HasBadPlace : ℕ → Image → List Part → Place → Type 0
HasBadPlace region_len image parts place = (p : Part) × Contains parts p × IsBadPlace region_len image p place

-- ---- nodes

-- An index without a node, as a search sees it: there is a number before whose entry one stands that names a lower node, and whose own
-- entry names a higher one, as far as there are entries. The search comes to none.
pub record LacksEntry (header : Header) (body : List ℕ) (id : NodeId) : Type 0 where
  pub number : ℕ
  pub within : number ≤ header.nodes
  pub before : (number ≡ 0) ⊎ ((is_entry header (entry_at header body (number - 1)) ≡ true) × (is_node_below (entry_at header body (number - 1)).node id ≡ true))
  pub behind : (number ≡ header.nodes) ⊎ ((is_entry header (entry_at header body number) ≡ true) × (is_node_below id (entry_at header body number).node ≡ true))
  pub sought : sought_entry header body id ≡ Ok None

-- the span of the entry to which a search for a node comes, and which names it, is exactly these rows of it
pub record HasEntryWith (header : Header) (body : List ℕ) (id : NodeId) (rows : List Row) : Type 0 where
  pub entry : ℕ
  pub there : entry < header.nodes
  pub names : (entry_at header body entry).node ≡ id
  pub span : RowSpan
  pub is_span : span_at header body entry ≡ Ok span
  pub holds : SpanHolds header body span id rows
  pub sought : sought_entry header body id ≡ Ok (Some entry)

-- The rows of a node that a reader finds in a part: none, or those of an entry's span, as the search in its index decides, so that one list of rows is found at most; in
-- the grammar they are the node's rows there, whatever other parts are.
pub record FindsRows (region_len : ℕ) (image : Image) (id : NodeId) (p : Part) (rows : List Row) : Type 0 where
  pub found : ((rows ≡ []) × LacksEntry p.header (body_in image p.region p.header) id) ⊎ HasEntryWith p.header (body_in image p.region p.header) id rows
  pub exact : (own : List Row) → HasHeader region_len image p.region p.header → IsSealed region_len image p.region p.header.range own → rows ≡ rows_of id own

-- the first of the parts that were read has an image of the node
abbrev pub has_image_first : List (Part × List Row) → Bool
has_image_first [] = false
has_image_first (r ∷ read) = list_any (λ row. is_image row.rec) r.1

-- A content that a reader of parts finds in a node: the replay of the rows of all parts, or of those from one with an image of it on.
-- Parts before that one need not be good.
pub record FindsContent (region_len : ℕ) (image : Image) (parts : List Part) (id : NodeId) (found : Content) : Type 0 where
  pub skipped : List Part
  pub read : List (Part × List Row)
  pub whole : parts ≡ skipped ++ map (λ r. r.0) read
  pub each : AllByRecursion (λ r. FindsRows region_len image id r.0 r.1) read
  pub why : (skipped ≡ []) ⊎ IsTrue (has_image_first read)
  pub replayed : found ≡ replay (base id) (flat_map (λ r. r.1) read)

-- a node is the first that is not fit on the path of some key, or of some scan, over contents of its bucket
abbrev pub IsUnfitNode : (ℕ → Content) → NodeId → Type 0
IsUnfitNode nodes id =
    ((key : List ℕ) × (bucket_of key ≡ id.bucket) × (unfit_under id.bucket nodes key (nodes 0).0 ≡ Some id.number))
    ⊎ ((low : List ℕ) × (high : List ℕ) × (limit : ℕ) × (unfit_between id.bucket nodes low high limit (nodes 0).0 ≡ Some id.number))

-- A node that a reader finds unfit. It found the contents of this node and of those before it on the path, which are fit; what it did not
-- find counts as broken, and no path goes on behind it.
pub record FindsUnfit (region_len : ℕ) (image : Image) (parts : List Part) (id : NodeId) : Type 0 where
  pub in_bucket : id.bucket < buckets
  pub nodes : ℕ → Content
  pub each : (number : ℕ) → FindsContent region_len image parts (record { bucket = id.bucket; number = number }) (nodes number) ⊎ (nodes number ≡ (node.Broken, 0))
  pub itself : FindsContent region_len image parts id (nodes id.number)
  pub unfit : IsUnfitNode nodes id

-- Contents of which each is the node's own, or broken as nothing was found: a node that is unfit over them, and is there itself, is unfit over
-- all of its own.
abbrev pub FoundUnfit : Type 0
FoundUnfit =
    (nodes own : ℕ → Content) (id : NodeId) → ((number : ℕ) → (nodes number ≡ own number) ⊎ (nodes number ≡ (node.Broken, 0))) → nodes id.number ≡ own id.number
    → IsUnfitNode nodes id → IsUnfitNode own id

-- and so on sound rows no node is unfit
abbrev pub SoundlyFit : Type 0
SoundlyFit = (rows : List Row) (id : NodeId) → id.bucket < buckets → IsSound rows → IsUnfitNode (nodes_of rows id.bucket) id → ⊥

-- What may be named as damaged where the chain is defined: a bad place of its parts, or a node that is found unfit.
abbrev pub IsDamageOf : ℕ → Image → List Part → Damage → Type 0
IsDamageOf region_len image parts (damage.Region region at) = HasBadPlace region_len image parts (record { region = region; at = at })
IsDamageOf region_len image parts (damage.Node id) = FindsUnfit region_len image parts id
IsDamageOf region_len image parts _ = ⊥

-- Damage that may be printed of a log: that of its chain, or, where it has one, damage of which P holds by its parts.
abbrev pub IsDamage : ℕ → Image → (List Part → Damage → Type 0) → Damage → Type 0
IsDamage region_len entry P what = (chain region_len entry ≡ Err what) ⊎ ((parts : List Part) × (chain region_len entry ≡ Ok parts) × P parts what)

-- ---- what is found where neighbours were merged

-- A content that a reader finds in a node by the bytes at entry, whatever neighbours were merged since: beside those of `FindsContent` the replay
-- of the rows from a part on that need nothing before them, since merging makes an image of such rows.
pub record FindsMerged (region_len : ℕ) (image : Image) (parts : List Part) (id : NodeId) (found : Content) : Type 0 where
  pub skipped : List Part
  pub read : List (Part × List Row)
  pub whole : parts ≡ skipped ++ map (λ r. r.0) read
  pub each : AllByRecursion (λ r. FindsRows region_len image id r.0 r.1) read
  pub why : (skipped ≡ []) ⊎ IsTrue (has_image_first read) ⊎ IsTrue (starts_afresh (flat_map (λ r. r.1) read))
  pub replayed : found ≡ replay (base id) (flat_map (λ r. r.1) read)

-- What may be named as damaged by one who reads whole parts and no tree, as merging does: a bad place of the parts at entry.
abbrev pub IsBadOf : ℕ → Image → List Part → Damage → Type 0
IsBadOf region_len image parts (damage.Region region at) = HasBadPlace region_len image parts (record { region = region; at = at })
IsBadOf region_len image parts _ = ⊥

-- damage of a place in a region, or of a node, and not of the chain
abbrev pub IsPlaceOrNode : Damage → Type 0
IsPlaceOrNode (damage.Region region at) = Unit {0}
IsPlaceOrNode (damage.Node id) = Unit {0}
IsPlaceOrNode _ = ⊥

-- where the chain is undefined, what the disk tells stays, and nothing is done; with status 7 the chain's damage is printed
pub record HasNoChain (still_told : Type 0) (what : Damage) (status : ℕ) (written : List ℕ) : Type 0 where
  pub disk : still_told
  pub status_is : OneOf (1 ∷ 3 ∷ 4 ∷ 5 ∷ 6 ∷ 7 ∷ []) status
  pub printed : status ≡ 7 → written ≡ damage_line what

-- What `run` and `gen` are, as far as it matters here: their script, the statuses that they may end with, and what they print, with a status, of a
-- run behind these parts with this history and this fault.
pub record Running : Type 1 where
  pub script : Result (List ScriptTxn) Refusal
  pub statuses : List ℕ
  pub prints : List Part → List Commit → Option RunFault → ℕ → List ℕ → Type 0

-- Damage of which a status 7 tells, of a log that is not sound: the chain's, or, where there is one, a place or a node, and nothing is said of
-- which. Its line is printed alone, where nothing was committed and the disk's clock stands still, or behind what was run.
abbrev pub PrintsDamage : Running → ℕ → Image → Return → List ℕ → Type 0
PrintsDamage r region_len entry back written =
    (what : Damage) × IsUnsound region_len entry × (((chain region_len entry ≡ Err what) × (written ≡ damage_line what))
    ⊎ ((parts : List Part) × (history : List Commit) × (chain region_len entry ≡ Ok parts) × IsPlaceOrNode what
    × (((history ≡ []) × back.still × (written ≡ damage_line what)) ⊎ r.prints parts history (Some (run_fault.Damaged what)) 7 written)))

-- what was run without a fault, behind the chain at entry
abbrev pub PrintsRun : Running → ℕ → Image → ℕ → List ℕ → Type 0
PrintsRun r region_len entry status written = (parts : List Part) × (history : List Commit) × (chain region_len entry ≡ Ok parts) × r.prints parts history None status written

-- a fault's line alone, where the disk's clock stands still, or what was run, with the line behind it
abbrev pub PrintsFaultOf : Running → ℕ → Image → Return → RunFault → ℕ → List ℕ → Type 0
PrintsFaultOf r region_len entry back fault status written =
    (back.still × (written ≡ fault_line fault)) ⊎ ((parts : List Part) × (history : List Commit) × (chain region_len entry ≡ Ok parts) × r.prints parts history (Some fault) status written)

-- a text that one of the other statuses prints, where its cause is there
abbrev pub PrintsWhole : Running → ℕ → Image → Return → List ℕ → Type 0
PrintsWhole r region_len entry back text =
    PrintsDamage r region_len entry back text ⊎ PrintsRun r region_len entry 0 text ⊎ PrintsRun r region_len entry 8 text
    ⊎ PrintsFaultOf r region_len entry back run_fault.Memory 1 text ⊎ (DiskRose back × PrintsFaultOf r region_len entry back run_fault.Disk 6 text)
    ⊎ ReasonFor 3 r.script text ⊎ (back.source_rose × ReasonFor 4 r.script text)

-- What holds of `run` and `gen` on every log that the disk tells, sound or not, by its bytes at entry. The status is one of the command's, and tells
-- what is printed; 7 comes on an unsound log alone. On no log a rise of the disk's count of faults is passed over. Of replies nothing is said.
pub record DamagedTheorem (r : Running) (region_len : ℕ) (entry : Image) (back : Return) (still_told : Type 0) (status : ℕ) (written : List ℕ) : Type 0 where
  pub known : OneOf r.statuses status
  pub unsound : status ≡ 7 → IsUnsound region_len entry
  pub damaged : status ≡ 7 → PrintsDamage r region_len entry back written
  pub done : (status ≡ 0) ⊎ (status ≡ 8) → PrintsRun r region_len entry status written
  pub memory : status ≡ 1 → PrintsFaultOf r region_len entry back run_fault.Memory status written
  pub failed : status ≡ 6 → PrintsFaultOf r region_len entry back run_fault.Disk status written
  pub refused : (status ≡ 3) ⊎ (status ≡ 4) → ReasonFor status r.script written
  pub cut_short : status ≡ 5 → (text : List ℕ) × PrintsWhole r region_len entry back text × IsFrontOf written text
  pub no_chain : (what : Damage) → chain region_len entry ≡ Err what → HasNoChain still_told what status written
  pub faults : TellsFaults back status

-- What is printed durable is between the chain's end and the history's last epoch, and with no fault it is the last.
pub record IsDurableFor (parts : List Part) (history : List Commit) (fault : Option RunFault) (durable : ℕ) : Type 0 where
  pub from_entry : chain_end parts ≤ durable
  pub to_last : durable ≤ last_epoch (chain_end parts) history
  pub all : fault ≡ None → durable ≡ last_epoch (chain_end parts) history

-- The report of a run of a script: its outcomes have this history, which goes on behind the parts, and with no fault all was run.
pub record Reports (script : Result (List ScriptTxn) Refusal) (parts : List Part) (history : List Commit) (fault : Option RunFault) (status : ℕ) (written : List ℕ) : Type 0 where
  pub txns : List ScriptTxn
  pub ran : Ran
  pub read : script ≡ Ok txns
  pub outcomes : AreOutcomes txns (chain_end parts) (all_outcomes txns ran.outcomes) history
  pub durable : IsDurableFor parts history fault ran.durable
  pub fault_is : ran.fault ≡ fault
  pub status_is : HasStatus status (all_outcomes txns ran.outcomes) fault
  pub all_run : fault ≡ None → AllRun (all_outcomes txns ran.outcomes)
  pub printed : written ≡ report txns ran

-- a run of the command `run` on every log that the disk tells, sound or not
abbrev pub RunDamagedTheorem : Result (List ScriptTxn) Refusal → ℕ → Image → Return → Type 0 → ℕ → List ℕ → Type 0
RunDamagedTheorem script region_len entry back still_told status written = DamagedTheorem running region_len entry back still_told status written
  where
    running : Running
    running = record { script = script; statuses = 0 ∷ 1 ∷ 3 ∷ 4 ∷ 5 ∷ 6 ∷ 7 ∷ 8 ∷ []; prints = Reports script }

-- ---- laws

-- Contents of nodes that a reader found in parts, and nothing of the others: a node that is unfit over them, and was found itself, is one that
-- a reader finds unfit.
abbrev pub UnfitLaw : Type 0
UnfitLaw =
    (region_len : ℕ) (image : Image) (parts : List Part) (id : NodeId) (found : ℕ → Option Content) → id.bucket < buckets
    → ((number : ℕ) (c : Content) → found number ≡ Some c → FindsContent region_len image parts (record { bucket = id.bucket; number = number }) c)
    → IsSome (found id.number) → IsUnfitNode (λ number. unwrap_or (found number) (node.Broken, 0)) id → FindsUnfit region_len image parts id

-- Changes of the pairs of a cached leaf.
use Rattle.std.specs.Prelude.{◌≡◌, ◌≤◌, ℕ, ◌+◌, ◌==◌, nat_eq, nat_lt, Bool, true, false, ◌&&◌, ◌||◌, List, [], length, Option, Some, None, Result, Ok, Err, option_map, unwrap_or}
use Rattle.std.specs.Map.{lookup, set_value}
use Rattle.fine_model.specs.Map.{Pair, set, unset, has, pairs_below}
use Rattle.fine_model.specs.Nodes.{step}
use Rattle.fine_model.specs.Trees.{pairs_of}
use Rattle.fine_model.specs.declared.list.NoMemory.{NoMemory}
use Rattle.fine_model.specs.declared.Node.{Node}
use Rattle.fine_model.specs.declared.Node.TheVariants as node
use Rattle.fine_model.specs.declared.Rec.{Rec}
use Rattle.fine_model.specs.declared.Rec.TheVariants as rec
use Rattle.fine_model.specs.declared.Row.{Row}
use Rattle.fine_model.specs.RowBytes.{FitsRec, greatest, most_in_node}
use Rattle.node_cache.specs.declared.cached.Cached.{Cached}
use Rattle.node_cache.specs.declared.original.Original.{Original}
use Rattle.node_cache.specs.declared.undo.Step.{Step}
use Rattle.node_cache.specs.declared.undo.UndoLog.{UndoLog}
use Rattle.node_cache.specs.Cache.{Cache, cached, saving, rewritten}
use Rattle.node_cache.specs.Undo.{CanTakeBack, back}
use Rattle.node_cache.specs.Originals.{noted}

-- a leaf has the key that is set or removed, or has room for the one that is set; each can be cut
abbrev pub changes_leaf : List Pair → Rec → Bool
changes_leaf pairs (rec.Put key value) = has pairs key || nat_lt (length pairs) most_in_node
changes_leaf pairs (rec.Del key) = has pairs key
changes_leaf pairs (rec.CutLeaf key) = true
changes_leaf pairs _ = false

abbrev pub changes_node : Node → Rec → Bool
changes_node (node.Leaf pairs) change = changes_leaf pairs change
changes_node _ change = false

-- a row is the next one of a cached leaf, and sets or removes one of its pairs, or cuts pairs off
abbrev pub changes_pair : Cached → Row → Bool
changes_pair kept row = (row.version == kept.version + 1) && changes_node kept.node row.rec

-- a row is within the format's bounds
pub record FitsChange (row : Row) : Type 0 where
  pub rec : FitsRec row.rec
  pub version : row.version ≤ greatest

abbrev pub changed_pairs : List Pair → Rec → List Pair
changed_pairs pairs (rec.Put key value) = set pairs key value
changed_pairs pairs (rec.Del key) = unset pairs key
changed_pairs pairs (rec.CutLeaf key) = pairs_below key pairs
changed_pairs pairs _ = pairs

-- a leaf was changed as a row says, and as a step takes back
pub record IsStep (s : Step) (old new : Cached) (row : Row) : Type 0 where
  pub was : old.node ≡ node.Leaf (pairs_of old.node)
  pub leaf : new.node ≡ node.Leaf (pairs_of new.node)
  pub can : CanTakeBack s (pairs_of new.node)
  pub back : back s (pairs_of new.node) ≡ pairs_of old.node
  pub made : (new.node, new.version) ≡ step (old.node, old.version) row
  pub epoch : new.epoch ≡ old.epoch

abbrev pub StepsBack : Option Step → Cached → Cached → Row → Type 0
StepsBack None old new row = new ≡ old
StepsBack (Some s) old new row = IsStep s old new row

-- the change is noted
pub record IsNotedBy (old new : Cached) (saved saved' : List (ℕ × Original)) (row : Row) : Type 0 where
  pub undo : UndoLog
  pub original : undo.original.value ≡ old
  pub version : undo.version ≡ old.version
  pub epoch : undo.epoch ≡ old.epoch
  pub first : undo.earlier ≡ []
  pub step : IsStep undo.last old new row
  pub entries : saved' ≡ noted row.node.number undo saved

pub record IsSame (old new : Cached) (saved saved' : List (ℕ × Original)) : Type 0 where
  pub kept : new ≡ old
  pub entries : saved' ≡ saved

abbrev pub IsNoted : Bool → Cached → Cached → List (ℕ × Original) → List (ℕ × Original) → Row → Type 0
IsNoted true old new saved saved' row = IsNotedBy old new saved saved' row
IsNoted false old new saved saved' row = IsSame old new saved saved'

pub record IsChanged (nodes nodes' : List (ℕ × Cached)) (saved saved' : List (ℕ × Original)) (row : Row) : Type 0 where
  pub old : Cached
  pub new : Cached
  pub there : lookup (nat_eq row.node.number) nodes ≡ Some old
  pub written : nodes' ≡ set_value (nat_eq row.node.number) nodes new
  pub noted : IsNotedBy old new saved saved' row

pub record IsUnchanged (nodes nodes' : List (ℕ × Cached)) (saved saved' : List (ℕ × Original)) : Type 0 where
  pub same_nodes : nodes' ≡ nodes
  pub same_saved : saved' ≡ saved

-- a row changes pairs of what is cached of a number
abbrev pub changes_cached : Option Cached → Row → Bool
changes_cached kept row = unwrap_or (option_map (λ k. changes_pair k row) kept) false

abbrev pub ChangesPair : Result Bool NoMemory → List (ℕ × Cached) → List (ℕ × Cached) → List (ℕ × Original) → List (ℕ × Original) → Row → Type 0
ChangesPair (Ok true) nodes nodes' saved saved' row = (changes_cached (lookup (nat_eq row.node.number) nodes) row ≡ true) × IsChanged nodes nodes' saved saved' row
ChangesPair (Ok false) nodes nodes' saved saved' row = (changes_cached (lookup (nat_eq row.node.number) nodes) row ≡ false) × IsUnchanged nodes nodes' saved saved'
ChangesPair (Err e) nodes nodes' saved saved' row = IsUnchanged nodes nodes' saved saved'

-- ---- what a bucket is then

-- a cached leaf is saved, and is what a row makes of it, in its place
pub record IsPairChange (old new : Cache) (row : Row) : Type 0 where
  pub kept : Cached
  pub there : cached old row.node.number ≡ Some kept
  pub leaf : kept.node ≡ node.Leaf (pairs_of kept.node)
  pub now : Cached
  pub made : (now.node, now.version) ≡ step (kept.node, kept.version) row
  pub epoch : now.epoch ≡ kept.epoch
  pub is : new ≡ rewritten (saving old row.node.number) row.node.number now

-- What takes back the changes of a leaf's pairs.
use Rattle.std.specs.Prelude.{◌≡◌, ℕ, ◌<◌, ◌≤◌, List, [], ◌∷◌, ◌++◌, length, map, IsTrue, reverse, Option, Some, None, option_map, unwrap_or, slice_get, slice_set, vec_len, vec_capacity, ◌+◌, ⊤}
use Rattle.std.specs.List.{insert, remove}
use Rattle.fine_model.specs.Map.{Pair, is_ascending}
use Rattle.fine_model.specs.RowBytes.{most_in_node}
use Rattle.fine_model.specs.Trees.{pairs_of}
use Rattle.fine_model.specs.declared.Node.TheVariants as node
use Rattle.node_cache.specs.declared.cached.Cached.{Cached}
use Rattle.node_cache.specs.declared.undo.Step.{Step}
use Rattle.node_cache.specs.declared.undo.Step.TheVariants as step
use Rattle.node_cache.specs.declared.undo.UndoLog.{UndoLog}

-- pairs as a leaf has them: few, and in the order of their keys
pub record IsOfLeaf (pairs : List Pair) : Type 0 where
  pub few : length pairs ≤ most_in_node
  pub order : IsTrue (is_ascending (map (λ p. p.0) pairs))

-- the pair at a place has another value
abbrev pub with_value : List Pair → ℕ → List ℕ → List Pair
with_value pairs at value = unwrap_or (option_map (λ p. slice_set pairs at (p.0, value)) (slice_get pairs at)) pairs

-- the pairs before a change
abbrev pub back : Step → List Pair → List Pair
back (step.Replaced at value) pairs = with_value pairs at value
back (step.Inserted at) pairs = remove pairs at
back (step.Removed at pair room) pairs = insert pairs at pair
back (step.Cut cut) pairs = pairs ++ reverse cut.items

-- a step stands for a change that left these pairs
abbrev pub CanTakeBack : Step → List Pair → Type 0
CanTakeBack (step.Replaced at value) pairs = at < length pairs
CanTakeBack (step.Inserted at) pairs = at < length pairs
CanTakeBack (step.Removed at pair room) pairs = (at ≤ length pairs) × (length pairs < vec_capacity room) × (room.items ≡ [])
CanTakeBack (step.Cut cut) pairs = vec_len cut + length pairs ≤ vec_capacity cut

-- the pairs before changes, of which the latest comes first
abbrev pub all_back : List Step → List Pair → List Pair
all_back [] pairs = pairs
all_back (s ∷ steps) pairs = all_back steps (back s pairs)

abbrev pub CanTakeAll : List Step → List Pair → Type 0
CanTakeAll [] pairs = ⊤
CanTakeAll (s ∷ steps) pairs = CanTakeBack s pairs × CanTakeAll steps (back s pairs)

-- pairs were changed to others, as the step takes back; where there is none, they are as they were
abbrev pub TakesBack : Option Step → List Pair → List Pair → List Pair → Type 0
TakesBack None old new wanted = new ≡ old
TakesBack (Some s) old new wanted = (new ≡ wanted) × CanTakeBack s new × (back s new ≡ old)

abbrev pub latest_first : UndoLog → List Step
latest_first undo = undo.last ∷ reverse undo.earlier

-- with a later change
abbrev pub pushed : UndoLog → Step → UndoLog
pushed undo s = record undo { earlier = undo.earlier ++ undo.last ∷ []; last = s }

-- a leaf that was changed as this log takes back
pub record IsChangedBy (kept : Cached) (undo : UndoLog) : Type 0 where
  pub leaf : kept.node ≡ node.Leaf (pairs_of kept.node)
  pub can : CanTakeAll (latest_first undo) (pairs_of kept.node)
  pub was : undo.original.value.node ≡ node.Leaf (all_back (latest_first undo) (pairs_of kept.node))
  pub version : undo.original.value.version ≡ undo.version
  pub epoch : undo.original.value.epoch ≡ undo.epoch

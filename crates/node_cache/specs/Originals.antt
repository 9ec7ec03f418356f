-- How the originals of saved numbers are kept.
use Rattle.std.specs.Prelude.{ℕ, nat_eq, Bool, true, false, List, [], ◌∷◌, ◌++◌, map, Option, Some, None, option_map, unwrap_or, IsSome, IsSomeAnd, IfSome, ⊤}
use Rattle.std.specs.List.{IsDistinct}
use Rattle.std.specs.Map.{keys_of, lookup, set_value}
use Rattle.node_cache.specs.declared.cached.Cached.{Cached}
use Rattle.node_cache.specs.declared.original.Original.{Original}
use Rattle.node_cache.specs.declared.original.Original.TheVariants as original
use Rattle.node_cache.specs.declared.undo.UndoLog.{UndoLog}
use Rattle.node_cache.specs.Undo.{pushed, IsChangedBy}

abbrev pub is_changed : Original → Bool
is_changed (original.Whole kept) = false
is_changed (original.Changed undo) = true

-- what was cached
abbrev pub original_of : Original → Option Cached
original_of (original.Whole kept) = kept
original_of (original.Changed undo) = Some undo.original.value

-- of each number that was saved what was cached then
abbrev pub originals : List (ℕ × Original) → List (ℕ × Option Cached)
originals es = map (λ e. (e.0, original_of e.1)) es

abbrev pub made_whole : Original → Original
made_whole o = original.Whole (original_of o)

-- the first original whose number passes is kept whole
abbrev pub whole_at : (ℕ → Bool) → List (ℕ × Original) → List (ℕ × Original)
whole_at test es = unwrap_or (option_map (λ o. set_value test es (made_whole o)) (lookup test es)) es

-- with a later change
abbrev pub with_change : Original → UndoLog → Original
with_change (original.Whole kept) undo = original.Whole kept
with_change (original.Changed known) undo = original.Changed (pushed known undo.last)

abbrev pub noted_at : Option Original → ℕ → UndoLog → List (ℕ × Original) → List (ℕ × Original)
noted_at None number undo es = es ++ (number, original.Changed undo) ∷ []
noted_at (Some o) number undo es = set_value (nat_eq number) es (with_change o undo)

-- a change of a number's node is noted
abbrev pub noted : ℕ → UndoLog → List (ℕ × Original) → List (ℕ × Original)
noted number undo es = noted_at (lookup (nat_eq number) es) number undo es

-- a cached node was changed as its original takes back
abbrev pub ChangedAt : Original → Cached → Type 0
ChangedAt (original.Whole o) kept = ⊤
ChangedAt (original.Changed undo) kept = IsChangedBy kept undo

-- what is cached of a number goes with its original: a node that was cached still is
abbrev pub Stands : Original → Option Cached → Type 0
Stands (original.Whole None) found = ⊤
Stands (original.Whole (Some kept)) found = IsSome found
Stands (original.Changed undo) found = IsSomeAnd found (λ kept. IsChangedBy kept undo)

-- what holds of each bucket: a number stands once, and what is cached goes with what was saved
pub record IsKept (nodes : List (ℕ × Cached)) (saved : List (ℕ × Original)) : Type 0 where
  pub distinct : IsDistinct nat_eq (keys_of nodes)
  pub once : IsDistinct nat_eq (keys_of saved)
  pub stands : (number : ℕ) → IfSome (lookup (nat_eq number) saved) (λ o. Stands o (lookup (nat_eq number) nodes))

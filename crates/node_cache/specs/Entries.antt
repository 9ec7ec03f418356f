-- The entries of a bucket, and what becomes of them.
use Rattle.std.specs.Prelude.{ℕ, ◌-◌, nat_eq, nat_le, nat_lt, Bool, ◌&&◌, if◌then◌else◌, List, [], ◌∷◌, Option, Some, None, option_map, is_some, unwrap_or}
use Rattle.std.specs.Map.{lookup, remove_entry, set_value}
use Rattle.node_cache.specs.declared.cached.Cached.{Cached}

-- a node with another epoch
abbrev pub stamped : ℕ → Cached → Cached
stamped epoch kept = record kept { epoch = epoch }

-- a node as it was saved, or without it where its absence was saved
abbrev pub restored : (ℕ → Bool) → Option Cached → List (ℕ × Cached) → List (ℕ × Cached)
restored test None es = remove_entry test es
restored test (Some kept) es = set_value test es kept

-- a node as it was saved, in its place; none where its absence was saved
abbrev pub as_saved : List (ℕ × Option Cached) → ℕ × Cached → Option (ℕ × Cached)
as_saved saved e = option_map (λ kept. (e.0, kept)) (unwrap_or (lookup (nat_eq e.0) saved) (Some e.1))

-- the first node whose number passes has this epoch
abbrev pub stamped_at : (ℕ → Bool) → ℕ → List (ℕ × Cached) → List (ℕ × Cached)
stamped_at test epoch [] = []
stamped_at test epoch (e ∷ es) = if test e.0 then (e.0, stamped epoch e.1) ∷ es else e ∷ stamped_at test epoch es

-- a node that was saved has this epoch
abbrev pub settled_entry : ℕ → List (ℕ × Option Cached) → ℕ × Cached → ℕ × Cached
settled_entry epoch saved e =
    if is_some (lookup (nat_eq e.0) saved) then (e.0, stamped epoch e.1) else e

-- the node's last change is published
abbrev pub is_published : ℕ → ℕ × Cached → Bool
is_published published e = nat_le e.1.epoch published

-- without the first n of the nodes that are published
abbrev pub without_first : ℕ → ℕ → List (ℕ × Cached) → List (ℕ × Cached)
without_first published n [] = []
without_first published n (e ∷ es) =
    if is_published published e && nat_lt 0 n then without_first published (n - 1) es else e ∷ without_first published n es

-- What a bucket caches and what it saved, and what each call makes of it.
use Rattle.std.specs.Prelude.{◌≡◌, ℕ, ◌-◌, nat_eq, if◌then◌else◌, List, [], ◌∷◌, ◌++◌, map, count_by, Option, option_map, is_some, unwrap_or, IsSome, Some}
use Rattle.std.specs.List.{IsDistinct, filter_map}
use Rattle.std.specs.Map.{keys_of, lookup, lookup_entry, remove_entry, set_value}
use Rattle.std.specs.Option.{option_to_list}
use Rattle.fine_model.specs.Nodes.{Content}
use Rattle.node_cache.specs.declared.cached.Cached.{Cached}
use Rattle.node_cache.specs.Entries.{stamped, as_saved, settled_entry, is_published, without_first}

-- the bucket's number, its nodes by number with the least recently used first, and of each number that was saved what was
-- cached then
pub record Cache : Type 0 where
  pub bucket : ℕ
  pub nodes : List (ℕ × Cached)
  pub saved : List (ℕ × Option Cached)

-- ---- look-ups

-- what is cached of a number
abbrev pub cached : Cache → ℕ → Option Cached
cached c number = lookup (nat_eq number) c.nodes

-- what a number was saved as, where it was saved
abbrev pub original : Cache → ℕ → Option (Option Cached)
original c number = lookup (nat_eq number) c.saved

abbrev pub IsSaved : Cache → ℕ → Type 0
IsSaved c number = IsSome (original c number)

-- what is cached of a number once all that was saved is restored
abbrev pub before : Cache → ℕ → Option Cached
before c number = unwrap_or (original c number) (cached c number)

-- what is cached of a number once what was saved has this epoch
abbrev pub after : Cache → ℕ → ℕ → Option Cached
after c epoch number =
    if is_some (original c number) then option_map (stamped epoch) (cached c number) else cached c number

-- what a bucket stands for at a number: content and version, and the epoch
abbrev pub kept_at : Cache → ℕ → Option (Content × ℕ)
kept_at c number = option_map (λ kept. ((kept.node, kept.version), kept.epoch)) (cached c number)

-- nothing is saved
abbrev pub IsResting : Cache → Type 0
IsResting c = c.saved ≡ []

-- ---- what the calls leave

-- a number is the last used
abbrev pub touched : Cache → ℕ → Cache
touched c number = record c { nodes = remove_entry (nat_eq number) c.nodes ++ option_to_list (lookup_entry (nat_eq number) c.nodes) }

-- a node is cached, as the last used
abbrev pub with_node : Cache → ℕ → Cached → Cache
with_node c number kept = record c { nodes = remove_entry (nat_eq number) c.nodes ++ (number, kept) ∷ [] }

-- a node is changed in its place
abbrev pub rewritten : Cache → ℕ → Cached → Cache
rewritten c number kept = record c { nodes = set_value (nat_eq number) c.nodes kept }

-- a number is saved, unless it was
abbrev pub saving : Cache → ℕ → Cache
saving c number =
    if is_some (original c number) then c else record c { saved = c.saved ++ (number, cached c number) ∷ [] }

-- each node is as it was saved
abbrev pub undone : Cache → Cache
undone c = record c { nodes = filter_map (as_saved c.saved) c.nodes; saved = [] }

-- each node that was saved has this epoch
abbrev pub settled : ℕ → Cache → Cache
settled epoch c = record c { nodes = map (settled_entry epoch c.saved) c.nodes; saved = [] }

-- without the least recently used of the published nodes, so that at most so many of these are kept
abbrev pub evicted : ℕ → ℕ → Cache → Cache
evicted published keep c =
    record c { nodes = without_first published (count_by (is_published published) c.nodes - keep) c.nodes }

-- ---- what holds of each bucket

-- a number stands once, and what was saved as cached is cached
pub record IsCache (nodes : List (ℕ × Cached)) (saved : List (ℕ × Option Cached)) : Type 0 where
  pub distinct : IsDistinct nat_eq (keys_of nodes)
  pub once : IsDistinct nat_eq (keys_of saved)
  pub there : (number : ℕ) (kept : Cached) → lookup (nat_eq number) saved ≡ Some (Some kept) → IsSome (lookup (nat_eq number) nodes)

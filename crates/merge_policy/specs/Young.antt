-- Which of the youngest parts of the chain are gathered into one.
use Rattle.std.specs.Prelude.{ℕ, ◌+◌, ◌*◌, nat_le, min, Bool, ◌&&◌, ◌||◌, if◌then◌else◌, List, [], ◌∷◌, length, Option, Some, None}
use Rattle.std.specs.List.{sum_by}
use Rattle.fine_model.specs.declared.Part.{Part}
use Rattle.merge_policy.specs.declared.figures.Space.{Space}
use Rattle.merge_policy.specs.Figures.{is_low, part_len}

-- a part is at most one and a half times as long as all parts behind it together, of which there are three at least, and all of them have at most so many bytes
abbrev pub is_young : ℕ → Part → List Part → Bool
is_young most part behind = nat_le 3 (length behind) && (nat_le (2 * part_len part) (3 * sum_by part_len behind) && nat_le (part_len part + sum_by part_len behind) most)

-- the first epoch of the oldest such part
unfoldable pub young_from : ℕ → List Part → Option ℕ
young_from most [] = None
young_from most (part ∷ parts) = if is_young most part parts then Some part.header.range.first else young_from most parts

-- the room is pressed and the chain has many parts, or not so many and few regions are free for the bytes of all
abbrev pub is_crowded : Space → List Part → Bool
is_crowded space parts = (space.is_pressed && nat_le 17 (length parts)) || (nat_le 9 (length parts) && is_low space parts)

-- none as long as the chain is not crowded
abbrev pub young_run : Space → List Part → Option ℕ
young_run space parts = if is_crowded space parts then young_from (min 4194304 space.region_len) parts else None

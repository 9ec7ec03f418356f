-- Two neighbours of the chain in numbers.
use Rattle.std.specs.Prelude.{ℕ, ◌+◌, ◌-◌, ◌*◌, ◌/◌, ◌%◌, ◌==◌, nat_le, nat_lt, min, max, Bool, ◌&&◌, ◌||◌, List, Option, Some, None, find}
use Rattle.std.specs.List.{sum_by}
use Rattle.fine_model.specs.declared.Part.{Part}
use Rattle.fine_model.specs.Merge.{fits_in}
use Rattle.fine_model.specs.Regions.{body_start, body_len}
use Rattle.fine_model.specs.RowBytes.{index_entry}
use Rattle.merge_policy.specs.declared.figures.Measured.{Measured}
use Rattle.merge_policy.specs.declared.figures.Pair.{Pair}
use Rattle.merge_policy.specs.declared.figures.Space.{Space}

-- the length of a part with its header
abbrev pub part_len : Part → ℕ
part_len part = body_start part.header.mark + body_len part.header

-- two neighbours were measured
abbrev pub is_of : Part → Part → Measured → Bool
is_of older newer measured =
    (measured.older == older.header.range.first) && (measured.newer == newer.header.range.first) && (measured.last == newer.header.range.last)

abbrev pub measured_len : Measured → ℕ
measured_len measured = measured.area + index_entry * measured.nodes

-- the least that the merged rows of two neighbours may take: what was measured, or nothing
abbrev pub len_or_none : Option Measured → ℕ
len_or_none None = 0
len_or_none (Some measured) = measured_len measured

abbrev pub least_len : List Measured → Part → Part → ℕ
least_len known older newer = len_or_none (find (is_of older newer) known)

-- two neighbours in numbers
unfoldable pub figures : List Measured → Part → Part → Pair
figures known older newer = record {
  older = part_len older;
  newer = part_len newer;
  longer = max (part_len older) (part_len newer);
  shorter = min (part_len older) (part_len newer);
  together = body_len older.header + body_len newer.header;
  least = least_len known older newer;
  regions = older.header.regions + newer.header.regions;
}

-- so many bytes fit at most so many regions, of which a partition has up to eight
abbrev pub fits_up_to : ℕ → ℕ → ℕ → Bool
fits_up_to region_len most len = nat_le 1 most && fits_in region_len (min most 8) len

-- so many bytes fit the free regions
abbrev pub fits_free : Space → ℕ → Bool
fits_free space len = fits_up_to space.region_len space.free len

-- a merged part of so many bytes fits the free regions, and fewer regions than the pair holds
abbrev pub frees : Space → Pair → ℕ → Bool
frees space pair len = fits_up_to space.region_len (min space.free (pair.regions - 1)) len

-- the older part is at most twice the newer
abbrev pub is_level : Pair → Bool
is_level pair = nat_le pair.older (2 * pair.newer)

-- how many times the shorter part the longer one is, in parts of 16,777,216
abbrev pub unevenness : Pair → ℕ
unevenness pair = (pair.longer * 16777216) / pair.shorter

-- the bytes of a pair's regions that neither part uses
abbrev pub unused : Space → Pair → ℕ
unused space pair = space.region_len * pair.regions - (pair.longer + pair.shorter)

-- fewer regions are free than are to be spared
abbrev pub is_short : Space → Bool
is_short space = nat_lt space.free space.spare

-- So few regions are free that lengths are to fall: all parts, written once more, would not leave two.
abbrev pub is_low : Space → List Part → Bool
is_low space parts = space.is_pressed && nat_lt (space.region_len * (space.free - 2)) (sum_by part_len parts)

-- A pair that fits only where its rows fold is tried where it is short, or the last sealed epoch is a multiple of eight: that it was tried in vain is not kept.
abbrev pub is_trial : Space → ℕ → Bool
is_trial space together = nat_le together 1048576 || ((space.sealed % 8) == 0)

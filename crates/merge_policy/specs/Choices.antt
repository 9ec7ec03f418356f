-- Which pair of neighbours an aim picks.
use Rattle.std.specs.Prelude.{◌≡◌, ℕ, ◌-◌, ◌<◌, ◌≤◌, max, Bool, true, false, ◌&&◌, ◌⊎◌, if◌then◌else◌, List, [], ◌∷◌, ◌++◌, Option, Some, None}
use Rattle.std.specs.List.{AllByRecursion}
use Rattle.fine_model.specs.declared.Part.{Part}
use Rattle.merge_policy.specs.declared.figures.Aim.{Aim}
use Rattle.merge_policy.specs.declared.figures.Aim.TheVariants as aim
use Rattle.merge_policy.specs.declared.figures.Measured.{Measured}
use Rattle.merge_policy.specs.declared.figures.Pair.{Pair}
use Rattle.merge_policy.specs.declared.figures.Space.{Space}
use Rattle.merge_policy.specs.Figures.{figures, fits_free, frees, is_level, is_low, is_short, is_trial, unevenness, unused}

-- the pairs of neighbours, from the oldest
abbrev pub with_next : Part → List Part → List (Part × Part)
with_next older [] = []
with_next older (newer ∷ parts) = (older, newer) ∷ []

abbrev pub neighbours : List Part → List (Part × Part)
neighbours [] = []
neighbours (part ∷ parts) = with_next part parts ++ neighbours parts

-- a pair serves an aim
abbrev pub serves : Aim → Space → Pair → Bool
serves aim.Level space pair = is_level pair && fits_free space (max pair.together pair.least)
serves aim.Fold space pair = is_trial space pair.together && is_level pair && fits_free space (max pair.longer pair.least)
serves aim.Gain space pair = frees space pair pair.least
serves aim.Fit space pair = fits_free space pair.least

-- of the pairs that serve an aim that of the least rank is the best: that of the fewest bytes, the most even one, or that with the most unused bytes
abbrev pub rank : Aim → Space → Pair → ℕ
rank aim.Level space pair = pair.together
rank aim.Fold space pair = pair.together
rank aim.Gain space pair = unevenness pair
rank aim.Fit space pair = 18446744073709551615 - unused space pair

-- what a choice goes by
pub record Question : Type 0 where
  pub space : Space
  pub known : List Measured

abbrev pub question : Space → List Measured → Question
question space known = record { space = space; known = known }

abbrev pub serves_for : Question → Aim → Part × Part → Bool
serves_for q aim two = serves aim q.space (figures q.known two.0 two.1)

abbrev pub rank_for : Question → Aim → Part × Part → ℕ
rank_for q aim two = rank aim q.space (figures q.known two.0 two.1)

abbrev pub NoneServes : Question → Aim → List (Part × Part) → Type 0
NoneServes q aim pairs = AllByRecursion (λ two. serves_for q aim two ≡ false) pairs

-- A pair serves an aim, and no other that does is better: none before it has a lower rank, and none behind it, which are newer, has as low a one.
pub record IsBest (q : Question) (aim : Aim) (pairs : List (Part × Part)) (two : Part × Part) : Type 0 where
  pub before : List (Part × Part)
  pub behind : List (Part × Part)
  pub stands : pairs ≡ before ++ two ∷ behind
  pub serving : serves_for q aim two ≡ true
  pub older : AllByRecursion (λ other. serves_for q aim other ≡ true → rank_for q aim two ≤ rank_for q aim other) before
  pub newer : AllByRecursion (λ other. serves_for q aim other ≡ true → rank_for q aim two < rank_for q aim other) behind

-- a number is the first epoch of the pair that is the best for an aim
pub record PicksBest (q : Question) (aim : Aim) (pairs : List (Part × Part)) (first : ℕ) : Type 0 where
  pub two : Part × Part
  pub best : IsBest q aim pairs two
  pub is : first ≡ two.0.header.range.first

-- the aims of a merge, in their order: those while few regions are free, and those while regions are short
abbrev pub low_aims : Bool → List Aim
low_aims low = if low then aim.Level ∷ aim.Fold ∷ [] else []

abbrev pub short_aims : Bool → List Aim
short_aims short = if short then aim.Gain ∷ aim.Fit ∷ [] else []

abbrev pub aims_of : Space → List Part → List Aim
aims_of space parts = low_aims (is_low space parts) ++ short_aims (is_short space)

-- The first aim that some pair serves decides: its best pair is taken. Where no aim is served, none is.
abbrev pub Picks : Question → List (Part × Part) → List Aim → Option ℕ → Type 0
Picks q pairs [] answer = answer ≡ None
Picks q pairs (aim ∷ aims) None = NoneServes q aim pairs × Picks q pairs aims None
Picks q pairs (aim ∷ aims) (Some first) = PicksBest q aim pairs first ⊎ (NoneServes q aim pairs × Picks q pairs aims (Some first))

-- a number is the first epoch of a part that is not the last
pub record IsOlder (parts : List Part) (first : ℕ) : Type 0 where
  pub before : List Part
  pub older : Part
  pub newer : Part
  pub behind : List Part
  pub stands : parts ≡ before ++ older ∷ newer ∷ behind
  pub is : first ≡ older.header.range.first

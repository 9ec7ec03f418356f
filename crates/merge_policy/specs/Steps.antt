-- The best pair as far as a walk over them has come.
use Rattle.std.specs.Prelude.{◌≡◌, ℕ, nat_lt, Bool, if◌then◌else◌, List, Option, Some, None}
use Rattle.fine_model.specs.declared.Part.{Part}
use Rattle.merge_policy.specs.declared.figures.Aim.{Aim}
use Rattle.merge_policy.specs.declared.policy.Choice.{Choice}
use Rattle.merge_policy.specs.Choices.{Question, IsBest, NoneServes, PicksBest, rank_for, serves_for}

abbrev pub choice_if : Question → Aim → Part × Part → Bool → Option Choice
choice_if q aim two b = if b then Some (record { first = two.0.header.range.first; rank = rank_for q aim two }) else None

-- a pair that serves an aim
abbrev pub choice_of : Question → Aim → Part × Part → Option Choice
choice_of q aim two = choice_if q aim two (serves_for q aim two)

-- the better one of an older and of a newer choice
abbrev pub better : Option Choice → Option Choice → Option Choice
better best None = best
better None (Some newer) = Some newer
better (Some older) (Some newer) = Some (if nat_lt older.rank newer.rank then older else newer)

-- a choice is the best pair for an aim
pub record IsBestChoice (q : Question) (aim : Aim) (pairs : List (Part × Part)) (choice : Choice) : Type 0 where
  pub two : Part × Part
  pub best : IsBest q aim pairs two
  pub first : choice.first ≡ two.0.header.range.first
  pub rank : choice.rank ≡ rank_for q aim two

abbrev pub BestSoFar : Question → Aim → List (Part × Part) → Option Choice → Type 0
BestSoFar q aim pairs None = NoneServes q aim pairs
BestSoFar q aim pairs (Some choice) = IsBestChoice q aim pairs choice

-- the answer for one aim
abbrev pub PicksFor : Question → Aim → List (Part × Part) → Option ℕ → Type 0
PicksFor q aim pairs None = NoneServes q aim pairs
PicksFor q aim pairs (Some first) = PicksBest q aim pairs first

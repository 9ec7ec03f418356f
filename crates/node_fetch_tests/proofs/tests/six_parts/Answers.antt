use Rattle.std.proofs.Common.{◌∷◌, [], ℕ, refl, lit<, lit≤}
use Rattle.fine_model.specs.declared.Part.{Part}
use Rattle.partition_index.specs.Parts.{IsSeen}
use Rattle.node_fetch_tests.specs.Eyes.{AreSeen, ten_regions}
use Rattle.node_fetch_tests.specs.declared.tests.TheConstants.{FIRST, WITH_ANOTHER, OF_ANOTHER, SEVERAL, FOLDED, PLAIN, LAST}
use Rattle.node_fetch_tests.proofs.tests.six_parts.Goals as goal

-- all parts but the fifth one
six_seen : (fifth : Part) → ((faults taken : ℕ) → IsSeen (ten_regions faults taken) fifth) → AreSeen (FIRST ∷ WITH_ANOTHER ∷ OF_ANOTHER ∷ SEVERAL ∷ fifth ∷ LAST ∷ [])
six_seen fifth seen faults taken = (
  record { named = ((0, lit< tt, refl), tt); long = tt; lies = record { large = lit< tt; small = lit≤ tt; listed = refl; counted = refl; lies = refl } },
  (
    record { named = ((1, lit< tt, refl), tt); long = tt; lies = record { large = lit< tt; small = lit≤ tt; listed = refl; counted = refl; lies = refl } },
    (
      record { named = ((2, lit< tt, refl), tt); long = tt; lies = record { large = lit< tt; small = lit≤ tt; listed = refl; counted = refl; lies = refl } },
      (
        record { named = ((3, lit< tt, refl), ((4, lit< tt, refl), tt)); long = tt; lies = record { large = lit< tt; small = lit≤ tt; listed = refl; counted = refl; lies = refl } },
        (seen faults taken, (record { named = ((6, lit< tt, refl), tt); long = tt; lies = record { large = lit< tt; small = lit≤ tt; listed = refl; counted = refl; lies = refl } }, tt)),
      ),
    ),
  ),
)

pub returns-then-folded : goal.returns-then-folded
returns-then-folded c = six_seen FOLDED (λ faults taken. record { named = ((5, lit< tt, refl), tt); long = tt; lies = record { large = lit< tt; small = lit≤ tt; listed = refl; counted = refl; lies = refl } })

pub returns-else-folded : goal.returns-else-folded
returns-else-folded c = six_seen PLAIN (λ faults taken. record { named = ((5, lit< tt, refl), tt); long = tt; lies = record { large = lit< tt; small = lit≤ tt; listed = refl; counted = refl; lies = refl } })

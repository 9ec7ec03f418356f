use Rattle.std.proofs.Common.{refl, lit<, lit≤}
use Rattle.node_fetch_tests.proofs.tests.few_bytes_are_taken_among_a_thousand_nodes.Goals as goal

pub fetch_from-found-requires : goal.fetch_from-found-requires
fetch_from-found-requires c = λ _ faults taken. (
  record {
    named = ((7, lit< tt, refl), ((8, lit< tt, refl), ((9, lit< tt, refl), tt)));
    long = tt;
    lies = record { large = lit< tt; small = lit≤ tt; listed = refl; counted = refl; lies = refl };
  },
  tt,
)

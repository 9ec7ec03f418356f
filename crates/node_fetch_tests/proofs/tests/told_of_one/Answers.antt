use Rattle.std.proofs.Common.{refl, lit<, lit≤}
use Rattle.node_fetch_tests.proofs.tests.told_of_one.Goals as goal

pub fetch_from-requires : goal.fetch_from-requires
fetch_from-requires c = λ faults taken. (record { named = ((5, lit< tt, refl), tt); long = tt; lies = record { large = lit< tt; small = lit≤ tt; listed = refl; counted = refl; lies = refl } }, tt)

use Rattle.std.proofs.Common.{[], ◌∷◌, refl, lit<}
use Rattle.log_disk.proofs.Seeing.{names_at}
use Rattle.log_disk_tests.proofs.tests.seen_by_two.Goals as goal

pub seen-requires-clause-named : goal.seen-requires-clause-named
seen-requires-clause-named c = names_at _ (0 ∷ 1 ∷ []) 1 1 c.in_ok-first.ensures.ok.of_regions.0 (lit< tt) refl

pub seen-requires-2-clause-named : goal.seen-requires-2-clause-named
seen-requires-2-clause-named c = names_at _ (1 ∷ 2 ∷ []) 0 1 c.in_ok-second.ensures.ok.of_regions.0 (lit< tt) refl

use Rattle.std.proofs.Common.{◌≡◌, ◌==◌, ◌<◌, ℕ, drop, take}
use Rattle.std.specs.Prelude.{nat_eq}
use Rattle.std.specs.Int.{bit_at}
use Rattle.std.specs.List.{AllByRecursion, list_any}
use Rattle.partition_hold.proofs.regions.word_of.Given as goal

abbrev pub invariant-loop-region : goal.invariant-loop-region
invariant-loop-region l = record {
  small : AllByRecursion (λ region. region < 64) (drop l.region-index l.regions);
  bits : (region : ℕ) → region < 64 → (bit_at l.word region == 1) ≡ list_any (nat_eq region) (take l.region-index l.regions);
}

use Rattle.std.proofs.Common.{◌≡◌, refl, rules, arith}
use Rattle.partition_index_tests.specs.declared.tests.TheConstants.{SEVERAL}
use Rattle.partition_index_tests.proofs.Looks.{seen_at}
use Rattle.partition_index_tests.proofs.tests.look_at_both.Goals as goal

pub returns-clause-seen : goal.returns-clause-seen
returns-clause-seen c =
    let count : c.sync.new.self.disk.regions ≡ 2 = search rules in
    seen_at c.sync.new.self.disk c.eye.new.self.disk c.in_ok-eye.eye.eye SEVERAL 4096 c.regions-regions.ensures.sound c.in_ok-eye.ensures.ok (omega arith, (omega arith, tt)) (search rules)
    (record { large = omega arith; small = omega arith; listed = refl; counted = refl; lies = refl })

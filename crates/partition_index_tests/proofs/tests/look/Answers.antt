use Rattle.std.proofs.Common.{◌≡◌, refl, rules, arith, length}
use Rattle.partition_index_tests.specs.declared.tests.TheConstants.{ALONE, THOUSAND}
use Rattle.partition_index_tests.proofs.Looks.{seen_at}
use Rattle.partition_index_tests.proofs.tests.look.Goals as goal

pub write-requires-clause-unseen : goal.write-requires-clause-unseen
write-requires-clause-unseen c k d within named =
    let none : length c.in_ok-disk.disk.disk.eyes ≡ 0 = search rules in omega (arith, none, within)

pub returns-clause-seen : goal.returns-clause-seen
returns-clause-seen c =
    let count : c.sync.new.self.disk.regions ≡ 1 = search rules in
    seen_at c.sync.new.self.disk c.eye.new.self.disk c.in_ok-eye.eye.eye THOUSAND 16384 c.regions-regions.ensures.sound c.in_ok-eye.ensures.ok (omega arith, tt) (search rules)
    (record { large = omega arith; small = omega arith; listed = refl; counted = refl; lies = refl })

pub returns-clause-seen_alone : goal.returns-clause-seen_alone
returns-clause-seen_alone c =
    let count : c.sync.new.self.disk.regions ≡ 1 = search rules in
    seen_at c.sync.new.self.disk c.eye.new.self.disk c.in_ok-eye.eye.eye ALONE 16384 c.regions-regions.ensures.sound c.in_ok-eye.ensures.ok (omega arith, tt) (search rules)
    (record { large = omega arith; small = omega arith; listed = refl; counted = refl; lies = refl })

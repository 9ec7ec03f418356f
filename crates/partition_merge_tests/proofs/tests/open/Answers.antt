use Rattle.std.proofs.Common.{◌≡◌, ◌∙◌, [], ◌∷◌, sym, subst, refl, arith, lit<, lit≤}
use Rattle.fine_model.specs.declared.Mark.TheVariants as mark
use Rattle.fine_model.specs.declared.Part.{Part}
use Rattle.partition_index.specs.Parts.{LiesIn, IsSeen}
use Rattle.partition_index.proofs.Looking.{seen_opened}
use Rattle.node_fetch.proofs.Told.{map_told}
use Rattle.log_disk.specs.Disk.{Disk, Eye, IsSound, Opens}
use Rattle.partition_merge_tests.specs.declared.tests.TheConstants.{OLDER, NEWER}
use Rattle.partition_merge_tests.proofs.tests.open.Goals as goal

old_lies : LiesIn 524288 OLDER.header
old_lies = record { large = lit< tt; small = lit≤ tt; listed = refl; counted = refl; lies = refl }

new_lies : LiesIn 524288 NEWER.header
new_lies = record { large = lit< tt; small = lit≤ tt; listed = refl; counted = refl; lies = refl }

-- a part over both regions
abbrev both : Part
both = record {
  region = 0;
  header = record { mark = mark.Three; range = record { first = 1; last = 1 }; rows = 10000; nodes = 10000; area = 240000; regions = 2; more = 1 ∷ 0 ∷ 0 ∷ 0 ∷ 0 ∷ 0 ∷ 0 ∷ [] };
}

both_lie : LiesIn 524288 both.header
both_lie = record { large = lit< tt; small = lit≤ tt; listed = refl; counted = refl; lies = refl }

-- an eye that was opened on both regions sees both parts
both_seen : (old new : Disk) (eye : Eye) → IsSound old → Opens (0 ∷ 1 ∷ []) eye old new → old.regions ≡ 2 → old.region_len ≡ 524288 → IsSeen eye OLDER × IsSeen eye NEWER
both_seen old new eye sound opens count len =
    let s = seen_opened old new eye both sound opens (omega (arith, count), (omega (arith, count), tt)) (subst (λ n. LiesIn n both.header) (sym len) both_lie) in
    let at = sym (opens.of_regions.1 ∙ len) in (
      record { named = (s.named.0, tt); long = map_told _ _ eye.told (λ image h. (h.0, tt)) s.long; lies = subst (λ n. LiesIn n OLDER.header) at old_lies },
      record { named = (s.named.1.0, tt); long = map_told _ _ eye.told (λ image h. (h.1.0, tt)) s.long; lies = subst (λ n. LiesIn n NEWER.header) at new_lies },
    )

pub returns-clause-seen : goal.returns-clause-seen
returns-clause-seen c = both_seen c.fill.new.disk.disk c.eye.new.self.disk c.in_ok-eye.eye.eye c.regions-regions.ensures.sound c.in_ok-eye.ensures.ok c.in_ok-fill.ensures.count c.in_ok-fill.ensures.len

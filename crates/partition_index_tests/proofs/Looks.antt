-- An eye that was just opened on the regions of a part sees it.
use Rattle.std.proofs.Common.{◌≡◌, ℕ, ◌<◌, sym, subst}
use Rattle.std.specs.List.{AllByRecursion}
use Rattle.fine_model.specs.declared.Part.{Part}
use Rattle.log_disk.specs.Disk.{Disk, Eye, IsSound, Opens}
use Rattle.fine_model.specs.Chain.{regions_of}
use Rattle.partition_index.specs.Parts.{IsSeen, LiesIn}
use Rattle.partition_index.proofs.Looking.{seen_opened}

pub seen_at : (old new : Disk) (eye : Eye) (p : Part) (len : ℕ) → IsSound old → Opens (regions_of p) eye old new → AllByRecursion (λ r. r < old.regions) (regions_of p) → old.region_len ≡ len → LiesIn len p.header → IsSeen eye p
seen_at old new eye p len sound opens there is lies = seen_opened old new eye p sound opens there (subst (λ n. LiesIn n p.header) (sym is) lies)

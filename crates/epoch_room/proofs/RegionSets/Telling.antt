-- What two moments tell, with what is known of the first.
use Rattle.std.proofs.Common.{Some, None}
use Rattle.std.specs.Prelude.{IfSome, Option}
use Rattle.log_disk.specs.Disk.{BothTold, Told}

pub both_told : (F : Told → Type 0) (P : Told → Told → Type 0) (y z : Option Told) → BothTold P y z → IfSome y F → BothTold (λ a b. F a × P a b) y z
both_told F P None None p f = tt
both_told F P None (Some b) p f = absurd p
both_told F P (Some a) None p f = absurd p
both_told F P (Some a) (Some b) p f = (f, p)

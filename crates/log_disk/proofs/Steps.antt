-- What calls of a disk leave of the images that a crash could have left since, on states of the disk.
use Rattle.std.proofs.Common.{◌≡◌, ℕ, List, [], Some, None, refl, sym, subst, inl, inr, arith}
use Rattle.std.specs.Prelude.{Option}
use Rattle.log_disk.specs.Disk.{Image, Told, Disk, BothTold, HasGoneOn, HasSynced, Moment, IsToldOf, IsImageNow, Writes, Syncs}
use Rattle.log_disk.specs.Moments.{Grows, GrowsOn}
use Rattle.log_disk.proofs.Moments.{since_on, since_kept, clock_on, synced_now, synced_is_now}

-- Facts of what is told, on states of a disk.
pub both_same : (P : Told → Told → Type 0) → ((a : Told) → P a a) → (old new : Option Told) → new ≡ old → BothTold P old new
both_same P each old new e = subst (BothTold P old) (sym e) (here old)
  where
    here : (t : Option Told) → BothTold P t t
    here None = tt
    here (Some a) = each a

pub both_weaker : (P Q : Told → Told → Type 0) → ((a b : Told) → P a b → Q a b) → (old new : Option Told) → BothTold P old new → BothTold Q old new
both_weaker P Q each None None p = tt
both_weaker P Q each None (Some b) p = absurd p
both_weaker P Q each (Some a) None p = absurd p
both_weaker P Q each (Some a) (Some b) p = each a b p

pub both_then : (P Q S : Told → Told → Type 0) → ((a b c : Told) → P a b → Q b c → S a c) → (old mid new : Option Told) → BothTold P old mid → BothTold Q mid new → BothTold S old new
both_then P Q S each None None None p q = tt
both_then P Q S each None None (Some c) p q = absurd q
both_then P Q S each None (Some b) c p q = absurd p
both_then P Q S each (Some a) None c p q = absurd p
both_then P Q S each (Some a) (Some b) None p q = absurd q
both_then P Q S each (Some a) (Some b) (Some c) p q = each a b c p q

-- Images since earlier clock values.
grows_same : (told : Told) → Grows told told
grows_same told = record { later = omega arith; since = λ _ _ _ is. inl is; kept = λ _ _ _ is. is }

grows_on : (old new : Told) (moment : Moment) → HasGoneOn old new moment → Grows old new
grows_on old new moment gone = record {
  later = omega (arith, clock_on old new moment gone);
  since = λ clock image h is. since_on clock old new moment image h gone is;
  kept = λ clock image h is. since_kept clock old new moment image h gone is;
}

pub grows_told : (old new : Disk) → new.told ≡ old.told → GrowsOn old new
grows_told old new e = both_same Grows grows_same old.told new.told e

pub grows_write : {r at : ℕ} {bytes : List ℕ} {failed : Type 0} {old new : Disk} → Writes r at bytes failed old new → GrowsOn old new
grows_write {old = old} {new = new} w = both_weaker _ Grows (λ a b gone. grows_on a b _ gone) old.told new.told w.time

-- a sync leaves what is told, or goes on to one more moment
pub both_sync : (R : Told → Told → Type 0) → ((told : Told) → R told told) → ((a b : Told) (moment : Moment) → HasGoneOn a b moment → R a b) → {old new : Disk} → Syncs old new → BothTold R old.told new.told
both_sync R same gone {old} {new} s = both_weaker (HasSynced old) R one old.told new.told s.time
  where
    one : (a b : Told) → HasSynced old a b → R a b
    one a b (inl nothing) = subst (R a) (sym nothing.1) (same a)
    one a b (inr some) = gone a b _ some.2

pub grows_sync : {old new : Disk} → Syncs old new → GrowsOn old new
grows_sync s = both_sync Grows grows_same grows_on s

-- Where nothing is unsynced, an image is exactly what a read gives.
pub all_synced : (disk : Disk) (told : Told) (image : Image) → IsToldOf disk told → disk.unsynced ≡ [] → IsImageNow told image → image ≡ told.bytes
all_synced disk told image is none now = synced_now disk told told image is (inl (none, refl)) now

pub all_synced_is_now : (disk : Disk) (told : Told) (image : Image) → IsToldOf disk told → disk.unsynced ≡ [] → image ≡ told.bytes → IsImageNow told image
all_synced_is_now disk told image is none e = synced_is_now disk told told image is (inl (none, refl)) e

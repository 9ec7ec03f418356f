-- What a crash leaves behind a write that was begun, and behind a sync that succeeded.
use Rattle.std.proofs.Common.{◌≡◌, ℕ, ◌+◌, subst}
use Rattle.log_disk.specs.Disk.{Image, Told, Disk, SameOutside, HasGoneOn, HasSynced, IsToldOf, IsImageAt, unsynced_too, span_of}
use Rattle.log_disk.specs.Moments.{Leaves, IsLeft}
use Rattle.log_disk.proofs.Moments.{synced_now}
use Rattle.log_disk.proofs.Torn.{image_back, torn_before, torn_outside}

-- After a write was begun, a crash leaves what it might have left before, with any bytes in the range.
pub left_write : (P : Image → Type 0) (r at len : ℕ) (old new : Told) → IsLeft P old → HasGoneOn old new (unsynced_too old.present (span_of r at len))
    → IsLeft (λ image. (before : Image) × P before × SameOutside r at (at + len) before image) new
left_write P r at len old new left gone image is =
    let torn = subst (λ m. IsImageAt m image) gone.1 is in
    (image_back old.present image r at (at + len), left _ (torn_before old.present image r at (at + len) torn), torn_outside old.present image r at (at + len))

-- After a sync that succeeded, it leaves what a read gives.
pub left_sync : (disk : Disk) (old new : Told) → IsToldOf disk old → HasSynced disk old new → IsLeft (λ image. image ≡ new.bytes) new
left_sync disk old new told synced image is = synced_now disk old new image told synced is

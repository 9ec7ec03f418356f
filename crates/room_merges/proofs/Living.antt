-- Parts that stay live have the bytes that they had.
use Rattle.std.proofs.Common.{◌≡◌, ℕ, List, [], ◌∷◌, Some, None, refl, sym, ap, subst, ◌∙◌}
use Rattle.std.specs.Prelude.{Contains, Option, option_map}
use Rattle.std.specs.List.{AllByRecursion}
use Rattle.std.proofs.lemmas.List.Elements.{All-contains, All-from_recursion}
use Rattle.fine_model.specs.declared.Part.{Part}
use Rattle.fine_model.specs.declared.law.RoomState.{RoomState}
use Rattle.fine_model.specs.Chain.{regions_of}
use Rattle.fine_model.specs.Regions.{Image, region_of}
use Rattle.fine_model.specs.Views.{SameSeen}
use Rattle.log_disk.specs.Disk.{Told}
use Rattle.epoch_room.specs.Closing.{ReadsButGates}
use Rattle.epoch_room.specs.Erasing.{unheld}
use Rattle.epoch_room.specs.Value.{RoomValue, all_regions}
use Rattle.epoch_room.specs.Whole.{IsWhole}
use Rattle.epoch_room.proofs.Views.Viewing.{all_parts}
use Rattle.room_merges.specs.Live.{KeepsLive}
use Rattle.room_merges.proofs.Telling.{live_shown, seen_within}

same_bytes : (regions : List ℕ) (a : Image) → AllByRecursion (λ r. region_of a r ≡ region_of a r) regions
same_bytes [] a = tt
same_bytes (r ∷ regions) a = (refl, same_bytes regions a)

pub seen_itself : (regions : List ℕ) (a : Option Image) → SameSeen regions a a
seen_itself regions None = tt
seen_itself regions (Some a) = record { as_many = refl; same = same_bytes regions a }

bytes_then : (regions : List ℕ) (a b c : Image) → AllByRecursion (λ r. region_of b r ≡ region_of a r) regions → AllByRecursion (λ r. region_of c r ≡ region_of b r) regions → AllByRecursion (λ r. region_of c r ≡ region_of a r) regions
bytes_then [] a b c first second = tt
bytes_then (r ∷ regions) a b c first second = (second.0 ∙ first.0, bytes_then regions a b c first.1 second.1)

pub seen_then : (regions : List ℕ) (a b c : Option Image) → SameSeen regions a b → SameSeen regions b c → SameSeen regions a c
seen_then regions None None None first second = tt
seen_then regions None None (Some c) first second = absurd second
seen_then regions None (Some b) c first second = absurd first
seen_then regions (Some a) None c first second = absurd first
seen_then regions (Some a) (Some b) None first second = absurd second
seen_then regions (Some a) (Some b) (Some c) first second = record { as_many = second.as_many ∙ first.as_many; same = bytes_then regions a b c first.same second.same }

pub live_itself : (value : RoomValue) → KeepsLive value value
live_itself value = record { told = seen_itself [] value.room.image; each = λ p there still. seen_itself (regions_of p) value.room.image }

-- where a read gives the same
pub live_same : (old new : RoomValue) → new.room.image ≡ old.room.image → KeepsLive old new
live_same old new image = record { told = same []; each = λ p there still. same (regions_of p) }
  where
    same : (regions : List ℕ) → SameSeen regions old.room.image new.room.image
    same regions = subst (SameSeen regions old.room.image) (sym image) (seen_itself regions old.room.image)

-- parts that are live all the time
pub live_then : (a b c : RoomValue) → ((p : Part) → Contains a.room.parts p → Contains c.room.parts p → Contains b.room.parts p) → KeepsLive a b → KeepsLive b c → KeepsLive a c
live_then a b c between first second = record {
  told = seen_then [] a.room.image b.room.image c.room.image first.told second.told;
  each = λ p there still. let stays = between p there still in seen_then (regions_of p) a.room.image b.room.image c.room.image (first.each p there stays) (second.each p stays still);
}

-- where all live regions have the bytes that they had
pub live_of : (old new : RoomValue) → SameSeen (all_regions old.room.parts) old.room.image new.room.image → KeepsLive old new
live_of old new same = record { told = seen_within (all_regions old.room.parts) [] old.room.image new.room.image tt same; each = each }
  where
    each : (p : Part) → Contains old.room.parts p → Contains new.room.parts p → SameSeen (regions_of p) old.room.image new.room.image
    each p there still =
        seen_within (all_regions old.room.parts) (regions_of p) old.room.image new.room.image
        (All-contains (λ (q : Part). AllByRecursion (Contains (all_regions old.room.parts)) (regions_of q)) old.room.parts p (All-from_recursion _ old.room.parts (all_parts old.room.parts)) there) same

-- where gates of retired parts alone are another
pub erased_live : (value : RoomValue) → IsWhole value → (new : RoomValue) → new.room.image ≡ option_map (λ (t : Told). t.bytes) new.disk.told → ReadsButGates (unheld value.room) value.disk new.disk → KeepsLive value new
erased_live value whole new image read =
    live_of value new
    (subst (λ told. SameSeen (all_regions value.room.parts) told new.room.image) (sym (ap (λ (r : RoomState). r.image) whole.of_disk))
    (subst (λ told. SameSeen (all_regions value.room.parts) (option_map (λ (t : Told). t.bytes) value.disk.told) told) (sym image) (live_shown value whole value.disk.told new.disk.told read)))

-- What a disk in memory holds.
use Rattle.std.proofs.Common.{Vec, Global, ◌≡◌, ℕ, ◌<◌, List, [], ◌∷◌, ◌++◌, length, map, replicate, get_or, sym, ap, subst, ◌∙◌, arith, inr}
use Rattle.std.specs.Prelude.{All, vec_len, vec_capacity, Some}
use Rattle.log_disk.specs.MemEye.{IsEyeKeptWell}
use Rattle.log_disk.specs.declared.mem.MemEye.TheInside.{Inside as EyeInside}
use Rattle.log_disk.proofs.Regions.{region_of-map}
use Rattle.std.specs.declared.sync.Arc.{Arc}
use Rattle.std.proofs.lemmas.List.{map_push, length-map, length-replicate, get_or-replicate}
use Rattle.std.proofs.lemmas.Option.{unwrap_or-slice_get}
use Rattle.log_disk.specs.Disk.{Image, region_of, Span, Moment, IsImageAt, AreNumbered, SameOutside, Syncs, zeros, new_disk, told_anew}
use Rattle.log_disk.specs.Eyes.{eyes_in, numbers_to}
use Rattle.log_disk.specs.MemDisk.{range_of, image_of, synced_image_of, moment_of, disk_of, IsKeptWell}
use Rattle.log_disk.specs.declared.mem.Present.{Present}
use Rattle.std.specs.declared.snapshot.Snapshot.{Snapshot}
use Rattle.log_disk.specs.declared.mem.MemDisk.TheInside.{Inside}
use Rattle.log_disk.specs.Region.{bytes_of, synced_of}
use Rattle.log_disk.specs.declared.mem.region.Region.{Region}
use Rattle.log_disk.specs.declared.mem.Written.{Written}
use Rattle.log_disk.proofs.Writes.{image_after}

-- what the last sync left is an image
pub synced_is_image : (synced image : Image) (spans : List Span) → image ≡ synced → IsImageAt (record { synced = synced; unsynced = spans }) image
synced_is_image synced image spans e = record {
  regions = ap length e;
  lengths = λ q. ap (λ i. length (region_of i q)) e;
  elsewhere = λ q at _. ap (λ i. get_or (region_of i q) at 0) e;
}

-- the image after a write whose range was put behind the others
pub image_noted : (synced synced' image image' : Image) (before after : List Written) (w : Written) → after ≡ before ++ w ∷ [] → synced' ≡ synced
    → SameOutside w.region w.from w.end image image' → IsImageAt (record { synced = synced; unsynced = map range_of before }) image
    → IsImageAt (record { synced = synced'; unsynced = map range_of after }) image'
image_noted synced synced' image image' before after w e same outside is =
    let P : Moment → Type 0 = λ moment. IsImageAt moment image' in
    let moment_is : ◌≡◌ {A = Moment} (record { synced = synced; unsynced = map range_of before ++ range_of w ∷ [] }) (record { synced = synced'; unsynced = map range_of after }) =
    ap (λ i. record { synced = i; unsynced = map range_of before ++ range_of w ∷ [] }) (sym same)
    ∙ ap (λ spans. record { synced = synced'; unsynced = spans }) (sym (ap (map range_of) e ∙ map_push range_of before w)) in
    subst P moment_is (image_after _ image image' w.region w.from w.end outside is)

-- the length of a region of zeros
pub zeros_length : (regions len r : ℕ) → r < regions → length (region_of (zeros regions len) r) ≡ len
zeros_length regions len r h =
    ap length (unwrap_or-slice_get (zeros regions len) r [] ∙ get_or-replicate regions r (replicate len 0) [] h) ∙ length-replicate len 0

-- the same regions and ranges are kept as well
pub kept_alike : (a b : Inside) → IsKeptWell a → b.present.regions.items ≡ a.present.regions.items → b.present.unsynced.items ≡ a.present.unsynced.items
    → b.region_len ≡ a.region_len → (0 < vec_len b.present.unsynced → vec_len b.past < vec_capacity b.past) → b.eyes ≡ a.eyes → IsKeptWell b
kept_alike a b kept rows ranges len room eyes = record {
  few = subst (λ n. n < 4294967296) (sym (ap length rows)) kept.few;
  lengths = λ r h. ap (λ xs. length (region_of (map bytes_of xs) r)) rows ∙ kept.lengths r (omega (arith, h, ap length rows)) ∙ sym len;
  image =
      let P : List Region → List Written → Type 0 = λ xs spans. IsImageAt (record { synced = map synced_of xs; unsynced = map range_of spans }) (map bytes_of xs) in
      subst (λ spans. P b.present.regions.items spans) (sym ranges) (subst (λ xs. P xs a.present.unsynced.items) (sym rows) kept.image);
  room = room;
  eyes = subst (λ e. AreNumbered (eyes_in e) (numbers_to e.given)) (sym eyes) kept.eyes;
}

-- and so are regions that differ only in a range that was noted
pub kept_written : (a b : Inside) (before : List Written) (w : Written) → IsKeptWell a → length b.present.regions.items ≡ length a.present.regions.items → b.region_len ≡ a.region_len
    → SameOutside w.region w.from w.end (image_of a.present) (image_of b.present) → synced_image_of b.present ≡ synced_image_of a.present
    → b.present.unsynced.items ≡ before ++ w ∷ [] → before ≡ a.present.unsynced.items → (0 < vec_len b.present.unsynced → vec_len b.past < vec_capacity b.past) → b.eyes ≡ a.eyes → IsKeptWell b
kept_written a b before w kept count len outside synced ranges same room eyes = record {
  few = subst (λ n. n < 4294967296) (sym count) kept.few;
  lengths = λ r h. outside.lengths r ∙ kept.lengths r (omega (arith, h, count)) ∙ sym len;
  image = image_noted _ _ _ _ _ _ w (ranges ∙ ap (λ xs. xs ++ w ∷ []) same) synced outside kept.image;
  room = room;
  eyes = subst (λ e. AreNumbered (eyes_in e) (numbers_to e.given)) (sym eyes) kept.eyes;
}

-- how many regions there are, by what they show
pub count_shown : {A : Type 0} (f : A → List ℕ) (rows : List A) (image : Image) → map f rows ≡ image → length rows ≡ length image
count_shown f rows image e = sym (length-map rows f) ∙ ap length e

-- a new disk that shows an image
pub new_disk_is : (disk : Inside) (image : Image) (regions len : ℕ) → length image ≡ regions → map bytes_of disk.present.regions.items ≡ image → map synced_of disk.present.regions.items ≡ image
    → disk.present.unsynced.items ≡ [] → disk.past.items ≡ [] → eyes_in disk.eyes ≡ [] → disk.eyes.given ≡ 0 → disk.faults.all ≡ 0 → disk.faults.own ≡ 0 → disk.region_len ≡ len
    → disk_of disk ≡ new_disk regions len (Some (told_anew image))
new_disk_is disk image regions len number bytes synced ranges past eyes given all own size =
    let count = count_shown bytes_of disk.present.regions.items image bytes in
    let spans : map range_of disk.present.unsynced.items ≡ [] = ap (map range_of) ranges in
    let unsynced : map (λ (span : Span). span.region) (map range_of disk.present.unsynced.items) ≡ [] = ap (map (λ (span : Span). span.region)) spans in
    let moments : map (λ (kept : Snapshot Present). moment_of kept.value) disk.past.items ≡ [] = ap (map (λ (kept : Snapshot Present). moment_of kept.value)) past in
    let numbers : numbers_to disk.eyes.given ≡ [] = ap numbers_to given in
    cc

-- a disk that is new is kept well
pub new_kept : (disk : Inside) (image : Image) → length image < 4294967296 → ((r : ℕ) → r < length image → length (region_of image r) ≡ disk.region_len)
    → map bytes_of disk.present.regions.items ≡ image → map synced_of disk.present.regions.items ≡ image → vec_len disk.present.unsynced ≡ 0
    → AreNumbered (eyes_in disk.eyes) (numbers_to disk.eyes.given) → IsKeptWell disk
new_kept disk image few lengths bytes synced none eyes = record {
  few = subst (λ n. n < 4294967296) (sym (count_shown bytes_of disk.present.regions.items image bytes)) few;
  lengths = λ r h. ap (λ i. length (region_of i r)) bytes ∙ lengths r (omega (arith, h, count_shown bytes_of disk.present.regions.items image bytes));
  image = synced_is_image _ _ _ (bytes ∙ sym synced);
  room = λ some. absurd (omega (arith, some, none));
  eyes = eyes;
}

-- an eye that shares all regions, whose bytes have their length, is kept well
pub eye_kept : (eye : EyeInside) (rows : List Region) → map (λ (shared : Arc (Vec ℕ Global) Global). shared.value.items) eye.bytes.items ≡ map bytes_of rows
    → ((r : ℕ) → r < length rows → length (region_of (map bytes_of rows) r) ≡ eye.region_len) → All (λ r. r < length rows) eye.regions.items → IsEyeKeptWell eye
eye_kept eye rows same lengths named = record {
  lengths = λ k d h.
      ap length (sym (region_of-map (λ (shared : Arc (Vec ℕ Global) Global). shared.value.items) eye.bytes.items k d h))
      ∙ ap (λ image. length (region_of image k)) same ∙ lengths k (omega (arith, h, count));
  named = λ k d h. omega (arith, named k d h, count);
}
  where
    count : length eye.bytes.items ≡ length rows
    count = sym (length-map eye.bytes.items (λ (shared : Arc (Vec ℕ Global) Global). shared.value.items)) ∙ ap length same ∙ length-map rows bytes_of

-- a disk whose bytes were settled, after its moment was put behind the others
pub settled : (a b : Inside) (rows : List Region) (before : Snapshot Present) → 0 < length a.present.unsynced.items → b.present.regions.items ≡ rows
    → map bytes_of rows ≡ map bytes_of a.present.regions.items → map synced_of rows ≡ map bytes_of a.present.regions.items → b.present.unsynced.items ≡ []
    → b.past.items ≡ a.past.items ++ before ∷ [] → before.value ≡ a.present → b.region_len ≡ a.region_len → b.eyes ≡ a.eyes → b.faults ≡ a.faults → Syncs (disk_of a) (disk_of b)
settled a b rows before some are bytes synced none past value size eyes faults = record {
  unsynced = ap (λ xs. map (λ (span : Span). span.region) (map range_of xs)) none;
  beside = record {
    regions = ap length are ∙ sym (length-map rows bytes_of) ∙ ap length bytes ∙ length-map a.present.regions.items bytes_of;
    region_len = size;
    eyes = ap eyes_in eyes;
    given = ap (λ e. numbers_to e.given) eyes;
  };
  counts = (ap (λ f. f.all) faults, ap (λ f. f.own) faults);
  time = inr (
    λ empty. absurd (omega (arith, some, ap length empty, length-map (map range_of a.present.unsynced.items) (λ (span : Span). span.region), length-map a.present.unsynced.items range_of)),
    ap (map bytes_of) are ∙ bytes,
    (
      ap (map (λ (kept : Snapshot Present). moment_of kept.value)) past ∙ map_push (λ (kept : Snapshot Present). moment_of kept.value) a.past.items before
          ∙ ap (λ m. map (λ (kept : Snapshot Present). moment_of kept.value) a.past.items ++ moment_of m ∷ []) value,
      ap (λ xs. record { synced = xs; unsynced = map range_of b.present.unsynced.items }) (ap (map synced_of) are ∙ synced)
          ∙ ap (λ xs. record { synced = map bytes_of a.present.regions.items; unsynced = map range_of xs }) none,
    ),
  );
}

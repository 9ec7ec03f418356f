-- Regions of a disk in memory.
use Rattle.std.proofs.Common.{◌≡◌, ℕ, ◌+◌, ◌<◌, List, [], ◌++◌, None, length, get_or, set, map, take, drop, sym, ap, ◌∙◌}
use Rattle.std.specs.Prelude.{Option}
use Rattle.std.proofs.lemmas.Option.{unwrap_or-slice_get}
use Rattle.std.proofs.lemmas.List.{map-set, get_or-map}
use Rattle.log_disk.specs.Disk.{region_of, with_bytes}
use Rattle.log_disk.specs.Region.{kept_or, bytes_of, synced_of}
use Rattle.log_disk.specs.declared.mem.region.Region.{Region}

kept_or-none : {A : Type 0} (bytes : A → List ℕ) (there : List ℕ) (kept : Option A) → kept ≡ None → kept_or bytes there kept ≡ there
kept_or-none bytes there kept e = ap (kept_or bytes there) e

-- where nothing is kept apart, what is there was synced
pub synced_if_none : (region : Region) → region.synced ≡ None → synced_of region ≡ bytes_of region
synced_if_none region e = kept_or-none (λ kept. kept.value.items) (bytes_of region) region.synced e

-- a region of an image that regions show
pub region_of-map : {A : Type 0} (f : A → List ℕ) (rows : List A) (i : ℕ) (d : A) → i < length rows → region_of (map f rows) i ≡ f (get_or rows i d)
region_of-map f rows i d h = unwrap_or-slice_get (map f rows) i [] ∙ get_or-map f rows i d [] h

-- the image after a write to one region, which was read as y
pub written_image : {A : Type 0} (f : A → List ℕ) (rows : List A) (i at : ℕ) (bytes : List ℕ) (x y : A) → i < length rows → y ≡ get_or rows i y
    → f x ≡ take at (f y) ++ bytes ++ drop (at + length bytes) (f y) → map f (set rows i x) ≡ with_bytes (map f rows) i at bytes
written_image f rows i at bytes x y h is e =
    map-set f rows i x ∙ ap (set (map f rows) i) (e ∙ ap (λ b. take at b ++ bytes ++ drop (at + length bytes) b) (ap f is ∙ sym (region_of-map f rows i y h)))

-- Reads of a part's body, piece by piece.
use Rattle.std.proofs.Common.{◌≡◌, ℕ, suc, ◌+◌, ◌-◌, ◌<◌, ◌≤◌, List, [], ◌∷◌, ◌++◌, length, take, drop, refl, sym, ap, ◌∙◌, subst, arith, length-append, Option, Some, None}
use Rattle.std.specs.Prelude.{slice_range, slice_index_or, Contains, IfSome}
use Rattle.std.specs.List.{AllByRecursion}
use Rattle.std.proofs.Math.Seq.{take-add}
use Rattle.std.proofs.lemmas.List.{drop-drop, get_or_default}
use Rattle.log_disk.specs.Disk.{Eye, Looks, HasRisen, Disk, Told, IsToldOf, IsSound, Opens, BothSee}
use Rattle.fine_model.specs.declared.Part.{Part}
use Rattle.fine_model.specs.Chain.{regions_of}
use Rattle.fine_model.specs.Regions.{Image, region_of, body_in, body_len}
use Rattle.fine_model.specs.Regions.{Place, place_of}
use Rattle.partition_index.specs.Parts.{SameEye, LooksAt, IsSeen, LiesIn}
use Rattle.partition_index.proofs.BodyPlaces.{AreLong, range_of_body}
use Rattle.partition_index.proofs.Sorted.{all_at}

pub seen_same : (old new : Eye) (p : Part) → SameEye old new → IsSeen old p → IsSeen new p
seen_same old new p same seen = record {
  named = subst (λ regions. AllByRecursion (Contains regions) (regions_of p)) (sym same.regions) seen.named;
  long = subst (λ len. IfSome new.told (λ image. AllByRecursion (λ region. length (region_of image region) ≡ len) (regions_of p))) (sym same.region_len)
      (subst (λ told. IfSome told (λ image. AllByRecursion (λ region. length (region_of image region) ≡ old.region_len) (regions_of p))) (sym same.told) seen.long);
  lies = subst (λ len. LiesIn len p.header) (sym same.region_len) seen.lies;
}

pub same_then : (old mid new : Eye) → SameEye old mid → SameEye mid new → SameEye old new
same_then old mid new a b = record { number = b.number ∙ a.number; regions = b.regions ∙ a.regions; region_len = b.region_len ∙ a.region_len; told = b.told ∙ a.told }

looks_same : (region from : ℕ) (out : List ℕ) (failed : Type 0) (old new : Eye) → Looks region from out failed old new → SameEye old new
looks_same region from out failed old new l = record { number = l.same.0; regions = l.same.1; region_len = l.same.2; told = l.same.3 }

-- P of what is told, for whatever is told
pub each_told : (P : Image → Type 0) (told : Option Image) → ((image : Image) → told ≡ Some image → P image) → IfSome told P
each_told P None each = tt
each_told P (Some image) each = each image refl

pub told_as : (P : Image → Type 0) (told : Option Image) (image : Image) → told ≡ Some image → IfSome told P → P image
told_as P told image is holds = let h : IfSome (Some image) P = subst (λ t. IfSome t P) is holds in h

pub range_is : (xs : List ℕ) (a b n : ℕ) → b ≡ a + n → slice_range xs a b ≡ take n (drop a xs)
range_is xs a b n e = let k : b - a ≡ n = omega arith in ap (λ m. take m (drop a xs)) k

-- a range is its front and what is behind it
pub range_split : (xs : List ℕ) (a m n : ℕ) → slice_range xs a (a + (m + n)) ≡ slice_range xs a (a + m) ++ slice_range xs (a + m) (a + m + n)
range_split xs a m n =
    range_is xs a (a + (m + n)) (m + n) refl ∙ take-add m n (drop a xs)
    ∙ ap (λ ys. take m (drop a xs) ++ take n ys) (drop-drop m a xs)
    ∙ sym (ap (λ ys. ys ++ take n (drop (a + m) xs)) (range_is xs a (a + m) m refl))
    ∙ sym (ap (λ ys. slice_range xs a (a + m) ++ ys) (range_is xs (a + m) (a + m + n) n refl))

-- One piece more, which the eye gives from a region; where it fails, the whole failed.
pub look_more : (p : Part) (at : ℕ) (front piece : List ℕ) (region from : ℕ) (failed : Type 0) (old mid new : Eye) → LooksAt p at front ⊥ old mid → Looks region from piece failed mid new
    → ((failed → ⊥) → (image : Image) → old.told ≡ Some image → piece ≡ slice_range (region_of image region) from (from + length piece)
    → slice_range (region_of image region) from (from + length piece) ≡ slice_range (body_in image p.region p.header) (at + length front) (at + length front + length piece))
    → LooksAt p at (front ++ piece) failed old new
look_more p at front piece region from failed old mid new a b stands =
    let long = length-append front piece in
    let steady : mid.faults ≡ old.faults = a.counts.else_same (λ f. f) in
    let taken = b.taken in
    let most = a.at_most in record {
      same = same_then old mid new a.same (looks_same region from piece failed mid new b);
      counts = record {
        rises = λ f. subst (λ n. HasRisen n new.faults) steady (b.rises f);
        no_lower = omega (arith, b.no_lower, steady);
        else_same = λ f. b.else_same f ∙ steady;
      };
      taken = λ low f. omega (arith, a.taken low (λ g. g), taken, long);
      at_most = omega (arith, most, taken, long);
      no_less = λ low. (omega (arith, (a.no_less low).0, (a.no_less low).1, taken), omega (arith, taken));
      bytes = λ f. each_told (λ image. front ++ piece ≡ slice_range (body_in image p.region p.header) at (at + length (front ++ piece))) old.told
          (λ image is.
          let first : front ≡ slice_range (body_in image p.region p.header) at (at + length front) = told_as (λ i. front ≡ slice_range (body_in i p.region p.header) at (at + length front)) old.told image is (a.bytes (λ g. g)) in
          let read : piece ≡ slice_range (region_of image region) from (from + length piece) = told_as (λ i. piece ≡ slice_range (region_of i region) from (from + length piece)) mid.told image (a.same.told ∙ is) (b.bytes f) in
          let second : piece ≡ slice_range (body_in image p.region p.header) (at + length front) (at + length front + length piece) = read ∙ stands f image is read in
          ap (λ xs. xs ++ piece) first ∙ ap (λ xs. slice_range (body_in image p.region p.header) at (at + length front) ++ xs) second
          ∙ sym (range_split (body_in image p.region p.header) at (length front) (length piece))
          ∙ sym (ap (λ n. slice_range (body_in image p.region p.header) at (at + n)) long));
    }

-- what a read of a region gives is a range of the body
piece_of_body : (region_len : ℕ) (image : Image) (p : Part) (at n region from : ℕ) → LiesIn region_len p.header → AreLong region_len image p
    → at + n ≤ body_len p.header → region ≡ (place_of region_len p.region p.header at).region → from ≡ (place_of region_len p.region p.header at).at → from + n ≤ region_len
    → length (slice_range (region_of image region) from (from + n)) ≡ n
    → slice_range (region_of image region) from (from + n) ≡ slice_range (body_in image p.region p.header) at (at + n)
piece_of_body region_len image p at n region from lies long within e f room full =
    let place : Place = place_of region_len p.region p.header at in
    let same : slice_range (region_of image region) from (from + n) ≡ slice_range (region_of image place.region) place.at (place.at + n) =
    ap (λ r. slice_range (region_of image r) from (from + n)) e ∙ ap (λ i. slice_range (region_of image place.region) i (i + n)) f in
    same ∙ range_of_body region_len image p at n lies long within (omega (arith, f, room)) (sym (ap length same) ∙ full)

-- One piece more, from the place of the next byte.
pub look_next : (p : Part) (at done region_len : ℕ) (front piece : List ℕ) (region from : ℕ) (failed : Type 0) (old mid new : Eye) → IsSeen old p → region_len ≡ old.region_len
    → length front ≡ done → at + done + length piece ≤ body_len p.header → region ≡ (place_of region_len p.region p.header (at + done)).region → from ≡ (place_of region_len p.region p.header (at + done)).at
    → from + length piece ≤ region_len → LooksAt p at front ⊥ old mid → Looks region from piece failed mid new → LooksAt p at (front ++ piece) failed old new
look_next p at done region_len front piece region from failed old mid new seen len long within e f room a b =
    look_more p at front piece region from failed old mid new a b
    (λ g image is read.
    let lies : LiesIn region_len p.header = subst (λ n. LiesIn n p.header) (sym len) seen.lies in
    let tall : AreLong old.region_len image p = told_as (λ i. AllByRecursion (λ r. length (region_of i r) ≡ old.region_len) (regions_of p)) old.told image is seen.long in
    let tall_here : AreLong region_len image p = subst (λ n. AreLong n image p) (sym len) tall in
    let full : length (slice_range (region_of image region) from (from + length piece)) ≡ length piece = sym (ap length read) in
    piece_of_body region_len image p (at + done) (length piece) region from lies tall_here within e f room full
    ∙ sym (ap (λ n. slice_range (body_in image p.region p.header) (at + n) (at + n + length piece)) long))

-- a region of the part is one that the eye names
pub is_named : (eye : Eye) (p : Part) (region : ℕ) → IsSeen eye p → Contains (regions_of p) region → Contains eye.regions region
is_named eye p region seen has = subst (Contains eye.regions) has.2 (all_at (Contains eye.regions) (regions_of p) has.0 region seen.named has.1)

-- what has not failed
pub look_whole : (p : Part) (at : ℕ) (out front : List ℕ) (failed failed' : Type 0) (old new : Eye) → LooksAt p at front failed old new → (failed → ⊥) → (failed' → ⊥) → front ≡ out → LooksAt p at out failed' old new
look_whole p at out front failed failed' old new l is is' same = subst (λ xs. LooksAt p at xs failed' old new) same (record {
  same = l.same;
  counts = record { rises = λ f. absurd (is' f); no_lower = l.counts.no_lower; else_same = λ f. l.counts.else_same is };
  taken = λ low f. l.taken low is;
  at_most = l.at_most;
  no_less = l.no_less;
  bytes = λ f. l.bytes is;
})

-- ---- an eye that was opened on the regions of a part

all_among : (ks xs : List ℕ) → ((i : ℕ) → i < length xs → Contains ks (slice_index_or xs i 0)) → AllByRecursion (Contains ks) xs
all_among ks [] has = tt
all_among ks (x ∷ xs) has = (has 0 (omega arith), all_among ks xs (λ i h. has (suc i) (omega (arith, h))))

all_self : (xs : List ℕ) → AllByRecursion (Contains xs) xs
all_self xs = all_among xs xs (λ i h. (i, h, get_or_default xs i (slice_index_or xs i 0) 0 h))

all_lengths : (disk : Disk) (told : Told) (xs : List ℕ) → IsToldOf disk told → AllByRecursion (λ r. r < disk.regions) xs → AllByRecursion (λ r. length (region_of told.bytes r) ≡ disk.region_len) xs
all_lengths disk told [] sound there = tt
all_lengths disk told (x ∷ xs) sound there = (sound.lengths x there.0, all_lengths disk told xs sound there.1)

seen_lengths : (disk : Disk) (xs : List ℕ) (told : Option Told) (image : Option Image) → IfSome told (IsToldOf disk) → BothSee told image → AllByRecursion (λ r. r < disk.regions) xs
    → IfSome image (λ i. AllByRecursion (λ r. length (region_of i r) ≡ disk.region_len) xs)
seen_lengths disk xs None None sound sees there = tt
seen_lengths disk xs None (Some image) sound sees there = absurd sees
seen_lengths disk xs (Some told) None sound sees there = tt
seen_lengths disk xs (Some told) (Some image) sound sees there = subst (λ i. AllByRecursion (λ r. length (region_of i r) ≡ disk.region_len) xs) (sym sees) (all_lengths disk told xs sound there)

pub seen_opened : (old new : Disk) (eye : Eye) (p : Part) → IsSound old → Opens (regions_of p) eye old new → AllByRecursion (λ r. r < old.regions) (regions_of p) → LiesIn old.region_len p.header → IsSeen eye p
seen_opened old new eye p sound opens there lies = record {
  named = subst (λ ks. AllByRecursion (Contains ks) (regions_of p)) (sym opens.of_regions.0) (all_self (regions_of p));
  long = subst (λ n. IfSome eye.told (λ i. AllByRecursion (λ r. length (region_of i r) ≡ n) (regions_of p))) (sym opens.of_regions.1) (seen_lengths old (regions_of p) old.told eye.told sound.told opens.sees there);
  lies = subst (λ n. LiesIn n p.header) (sym opens.of_regions.1) lies;
}

-- Headers that were seen one after the other.
use Rattle.std.proofs.Common.{◌≡◌, ℕ, ◌+◌, ◌-◌, ◌<◌, ◌≤◌, List, [], ◌∷◌, ◌++◌, length, take, drop, replicate, Option, Some, None, IfSome, Result, Ok, Err, refl, sym, ap, ◌∙◌, subst, append_assoc, append-nil, length-append, length-drop, take-append-drop, slice_range, arith, nat_le}
use Rattle.std.specs.List.{AllByRecursion}
use Rattle.std.proofs.lemmas.Bool.{and_parts, leb-true}
use Rattle.std.proofs.lemmas.List.{take_more, length-replicate}
use Rattle.std.proofs.Math.Seq.{take-length}
use Rattle.std.proofs.lemmas.Option.{unwrap_or-slice_get}
use Rattle.fine_model.specs.declared.Header.{Header}
use Rattle.fine_model.specs.declared.Part.{Part}
use Rattle.fine_model.specs.declared.Damage.{Damage}
use Rattle.fine_model.specs.declared.Damage.TheVariants as damage
use Rattle.fine_model.specs.RowBytes.{greatest}
use Rattle.fine_model.specs.Pushed.{and_then}
use Rattle.fine_model.specs.Regions.{Image, region_of, header_in, header_tests}
use Rattle.fine_model.specs.Chain.{parts_from, apart, chain_of, chain}
use Rattle.fine_model.specs.ChainLaws.{part_of}
use Rattle.fine_model.proofs.Chain.Images.{parts_none, parts_bad, parts_good}
use Rattle.fine_model.proofs.Chain.Headers.{good}
use Rattle.log_disk.specs.Disk.{Disk, Told, IsSound, IsToldOf}
use Rattle.reopen.specs.declared.chain.Chain.{Chain}
use Rattle.reopen.specs.declared.fault.OpenFault.{OpenFault}
use Rattle.reopen.specs.declared.fault.OpenFault.TheVariants as fault
use Rattle.reopen.specs.Opening.{SeesHeader, SeesParts, SeesChain, FindsDamage, TellsDamage, IsBadHeader, with_part, Tells, EndsInTime, beside}

-- ---- one header

-- the bytes that stand for a region: those that were read at its front, or all of them where they are told
seen_bytes : Option Told → ℕ → List ℕ → List ℕ
seen_bytes None region out = out
seen_bytes (Some t) region out = region_of t.bytes region

seen_told : (told : Option Told) (region : ℕ) (out : List ℕ) → IfSome told (λ t. seen_bytes told region out ≡ region_of t.bytes region)
unfolding seen_bytes
seen_told None region out = tt
seen_told (Some t) region out = refl

-- the front of a list
front_of : (n : ℕ) (out xs : List ℕ) → out ≡ slice_range xs 0 (0 + n) → out ≡ take n xs
front_of n out xs is = is ∙ grind arith

seen_whole : (told : Option Told) (region : ℕ) (out : List ℕ) → IfSome told (λ t. out ≡ slice_range (region_of t.bytes region) 0 (0 + length out)) → (rest : List ℕ) × (seen_bytes told region out ≡ out ++ rest)
unfolding seen_bytes
seen_whole None region out is = ([], sym (append-nil out))
seen_whole (Some t) region out is =
    let front : out ≡ take (length out) (region_of t.bytes region) = front_of (length out) out (region_of t.bytes region) is in
    (drop (length out) (region_of t.bytes region), sym (take-append-drop (length out) (region_of t.bytes region)) ∙ ap (λ xs. xs ++ drop (length out) (region_of t.bytes region)) (sym front))

-- a header that answers to bytes that were read at the front of a region
pub seen_header : (disk : Disk) (region : ℕ) (out : List ℕ) (answer : Result (Option Header) ℕ) → ((rest : List ℕ) → header_in disk.region_len disk.regions region (out ++ rest) ≡ answer)
    → IfSome disk.told (λ t. out ≡ slice_range (region_of t.bytes region) 0 (0 + length out)) → SeesHeader disk region answer
seen_header disk region out answer whole told =
    let w = seen_whole disk.told region out told in
    record {
      seen = seen_bytes disk.told region out;
      answers = ap (header_in disk.region_len disk.regions region) w.1 ∙ whole w.0;
      told = seen_told disk.told region out;
    }

-- what was read of the regions below one
pub record HasRead (disk : Disk) (region : ℕ) (parts : List Part) : Type 0 where
  pub front : Image
  pub long : length front ≡ region
  pub law : (rest : Image) → parts_from disk.region_len disk.regions 0 (front ++ rest) ≡ and_then (parts_from disk.region_len disk.regions region rest) (λ more. Ok (parts ++ more))
  pub told : IfSome disk.told (λ told. front ≡ take region told.bytes)
  pub in_time : AllByRecursion EndsInTime parts

-- nothing is read yet
plain : (r : Result (List Part) Damage) → r ≡ and_then r (λ more. Ok ([] ++ more))
plain (Ok parts) = refl
plain (Err what) = refl

none_told : (told : Option Told) → IfSome told (λ t. [] ≡ take 0 t.bytes)
none_told None = tt
none_told (Some t) = refl

pub nothing_read : (disk : Disk) → HasRead disk 0 []
nothing_read disk = record {
  front = [];
  long = refl;
  law = λ rest. plain (parts_from disk.region_len disk.regions 0 rest);
  told = none_told disk.told;
  in_time = tt;
}

-- one more region is told
more_told : (told : Option Told) (regions region : ℕ) (front : Image) (seen : List ℕ) → region < regions → IfSome told (λ t. length t.bytes ≡ regions)
    → IfSome told (λ t. front ≡ take region t.bytes) → IfSome told (λ t. seen ≡ region_of t.bytes region) → IfSome told (λ t. front ++ seen ∷ [] ≡ take (region + 1) t.bytes)
more_told None regions region front seen below long is at = tt
more_told (Some t) regions region front seen below long is at =
    (λ i. is i ++ at i ∷ []) ∙ ap (λ x. take region t.bytes ++ x ∷ []) (unwrap_or-slice_get t.bytes region [])
    ∙ sym (take_more t.bytes region [] (let e = long in omega (arith, e, below)))

-- a closed region
pub closed_read : (disk : Disk) (region : ℕ) (parts : List Part) → region < disk.regions → IfSome disk.told (λ t. length t.bytes ≡ disk.regions) → SeesHeader disk region (Ok None) → HasRead disk region parts → HasRead disk (region + 1) parts
closed_read disk region parts below long s r = record {
  front = r.front ++ s.seen ∷ [];
  long = length-append r.front (s.seen ∷ []) ∙ ap (λ n. n + 1) r.long;
  law = λ rest.
      ap (parts_from disk.region_len disk.regions 0) (append_assoc r.front (s.seen ∷ []) rest) ∙ r.law (s.seen ∷ rest)
      ∙ ap (λ x. and_then x (λ more. Ok (parts ++ more))) (parts_none disk.region_len disk.regions region s.seen rest s.answers);
  told = more_told disk.told disk.regions region r.front s.seen below long r.told s.told;
  in_time = r.in_time;
}

-- a good header ends within the format's bounds
ends_in_time : (region_len regions lead : ℕ) (bytes : List ℕ) (header : Header) → header_in region_len regions lead bytes ≡ Ok (Some header) → header.range.last ≤ greatest
unfolding header_tests
ends_in_time region_len regions lead bytes header is =
    let t = (good region_len regions lead bytes header is).tests in
    leb-true header.range.last greatest (and_parts (nat_le header.range.first header.range.last) (nat_le header.range.last greatest) t.1.1.1.0).1

-- a sealed region
behind : (parts : List Part) (p : Part) (r : Result (List Part) Damage)
    → and_then (and_then r (λ ps. Ok (p ∷ ps))) (λ more. Ok (parts ++ more)) ≡ and_then r (λ more. Ok ((parts ++ p ∷ []) ++ more))
behind parts p (Ok ps) = ap Ok (sym (append_assoc parts (p ∷ []) ps))
behind parts p (Err what) = refl

all_more : (P : Part → Type 0) (parts : List Part) (p : Part) → AllByRecursion P parts → P p → AllByRecursion P (parts ++ p ∷ [])
all_more P [] p all h = (h, tt)
all_more P (q ∷ parts) p all h = (all.0, all_more P parts p all.1 h)

pub sealed_read : (disk : Disk) (region : ℕ) (parts : List Part) (header : Header) → region < disk.regions → IfSome disk.told (λ t. length t.bytes ≡ disk.regions) → SeesHeader disk region (Ok (Some header))
    → HasRead disk region parts → HasRead disk (region + 1) (parts ++ part_of region header ∷ [])
sealed_read disk region parts header below long s r = record {
  front = r.front ++ s.seen ∷ [];
  long = length-append r.front (s.seen ∷ []) ∙ ap (λ n. n + 1) r.long;
  law = λ rest.
      ap (parts_from disk.region_len disk.regions 0) (append_assoc r.front (s.seen ∷ []) rest) ∙ r.law (s.seen ∷ rest)
      ∙ ap (λ x. and_then x (λ more. Ok (parts ++ more))) (parts_good disk.region_len disk.regions region s.seen header rest s.answers)
      ∙ behind parts (part_of region header) (parts_from disk.region_len disk.regions (region + 1) rest);
  told = more_told disk.told disk.regions region r.front s.seen below long r.told s.told;
  in_time = all_more EndsInTime parts (part_of region header) r.in_time (ends_in_time disk.region_len disk.regions region s.seen header s.answers);
}

-- a region with a bad header; what stands behind it is the disk's, or closed where it is not told
rest_of : Option Told → ℕ → ℕ → Image
rest_of None regions region = replicate (regions - region - 1) []
rest_of (Some t) regions region = drop (region + 1) t.bytes

rest_long : (told : Option Told) (regions region : ℕ) → IfSome told (λ t. length t.bytes ≡ regions) → length (rest_of told regions region) ≡ regions - region - 1
unfolding rest_of
rest_long None regions region long = length-replicate (regions - region - 1) []
rest_long (Some t) regions region long = length-drop (region + 1) t.bytes ∙ (let e = long in omega (arith, e))

rest_told : (told : Option Told) (regions region : ℕ) (front : Image) (seen : List ℕ) → region < regions → IfSome told (λ t. length t.bytes ≡ regions) → IfSome told (λ t. front ≡ take region t.bytes)
    → IfSome told (λ t. seen ≡ region_of t.bytes region) → IfSome told (λ t. front ++ seen ∷ rest_of told regions region ≡ t.bytes)
unfolding rest_of
rest_told None regions region front seen below long is at = tt
rest_told (Some t) regions region front seen below long is at =
    sym (append_assoc front (seen ∷ []) (drop (region + 1) t.bytes))
    ∙ ap (λ xs. xs ++ drop (region + 1) t.bytes) (more_told (Some t) regions region front seen below long is at) ∙ take-append-drop (region + 1) t.bytes

pub bad_read : (disk : Disk) (region at : ℕ) (parts : List Part) → region < disk.regions → IfSome disk.told (λ t. length t.bytes ≡ disk.regions) → SeesHeader disk region (Err at) → HasRead disk region parts
    → FindsDamage disk (fault.BadRegion region at)
unfolding chain
bad_read disk region at parts below long s r =
    let image : Image = r.front ++ s.seen ∷ rest_of disk.told disk.regions region in
    let regions : length image ≡ disk.regions =
    length-append r.front (s.seen ∷ rest_of disk.told disk.regions region)
    ∙ (let f = r.long in let l = rest_long disk.told disk.regions region long in omega (arith, f, l, below)) in
    let bad : parts_from disk.region_len (length image) 0 image ≡ Err (damage.Region region at) =
    ap (λ n. parts_from disk.region_len n 0 image) regions ∙ r.law (s.seen ∷ rest_of disk.told disk.regions region)
    ∙ ap (λ x. and_then x (λ more. Ok (parts ++ more))) (parts_bad disk.region_len disk.regions region at s.seen (rest_of disk.told disk.regions region) s.answers) in
    record {
      image = image;
      is_seen = record { regions = regions; told = rest_told disk.told disk.regions region r.front s.seen below long r.told s.told };
      tells = (damage.Region region at, refl, ap (λ x. and_then (and_then x apart) chain_of) bad);
    }

pub header_read : (disk : Disk) (region : ℕ) (parts : List Part) (header : Option Header) → region < disk.regions → IfSome disk.told (λ t. length t.bytes ≡ disk.regions) → SeesHeader disk region (Ok header)
    → HasRead disk region parts → HasRead disk (region + 1) (with_part parts region header)
header_read disk region parts None = closed_read disk region parts
header_read disk region parts (Some header) = sealed_read disk region parts header

-- the length of what a sound disk tells
sound_told : (disk : Disk) (told : Option Told) → IfSome told (IsToldOf disk) → IfSome told (λ t. length t.bytes ≡ disk.regions)
sound_told disk None s = tt
sound_told disk (Some t) s = s.regions

pub sound_regions : (disk : Disk) → IsSound disk → IfSome disk.told (λ t. length t.bytes ≡ disk.regions)
sound_regions disk s = sound_told disk disk.told s.told

-- a bad header is damage of the chain
pub fault_read : (disk : Disk) (region : ℕ) (parts : List Part) (f : OpenFault) → region < disk.regions → IfSome disk.told (λ t. length t.bytes ≡ disk.regions) → IsBadHeader disk region f
    → HasRead disk region parts → TellsDamage disk f
fault_read disk region parts (fault.BadRegion bad at) below long b r = λ d. subst (λ n. FindsDamage disk (fault.BadRegion n at)) (sym b.0) (bad_read disk region at parts below long b.1 r)
fault_read disk region parts (fault.Gap after bad) below long b r = absurd b
fault_read disk region parts (fault.Overlap bad other) below long b r = absurd b
fault_read disk region parts fault.Disk below long b r = λ d. absurd d
fault_read disk region parts fault.NoMemory below long b r = absurd b

-- all regions are read
whole_told : (told : Option Told) (regions : ℕ) (front : Image) → IfSome told (λ t. length t.bytes ≡ regions) → IfSome told (λ t. front ≡ take regions t.bytes) → IfSome told (λ t. front ≡ t.bytes)
whole_told None regions front long is = tt
whole_told (Some t) regions front long is = is ∙ ap (λ n. take n t.bytes) (sym long) ∙ take-length t.bytes

pub all_read : (disk : Disk) (parts : List Part) → IfSome disk.told (λ t. length t.bytes ≡ disk.regions) → HasRead disk disk.regions parts → SeesParts disk parts
unfolding parts_from
all_read disk parts long r = record {
  image = r.front;
  is_seen = record { regions = r.long; told = whole_told disk.told disk.regions r.front long r.told };
  are_parts = ap (parts_from disk.region_len disk.regions 0) (sym (append-nil r.front)) ∙ r.law [] ∙ ap Ok (append-nil parts);
}

-- ---- what follows on the parts

pub chain_ok : (disk : Disk) (sealed : List Part) (found : Chain) → SeesParts disk sealed → apart sealed ≡ Ok sealed → chain_of sealed ≡ Ok found.parts → found.retired ≡ beside found.parts sealed → SeesChain disk found
unfolding chain
chain_ok disk sealed found s disjoint walk retired =
    let are : parts_from disk.region_len (length s.image) 0 s.image ≡ Ok sealed = ap (λ n. parts_from disk.region_len n 0 s.image) s.is_seen.regions ∙ s.are_parts in
    record {
      image = s.image;
      is_seen = s.is_seen;
      is_chain = ap (λ x. and_then (and_then x apart) chain_of) are ∙ ap (λ x. and_then x chain_of) disjoint ∙ walk;
      sealed = sealed;
      are_sealed = s.are_parts;
      retired = retired;
    }

pub shared_told : (disk : Disk) (sealed : List Part) (f : OpenFault) → SeesParts disk sealed → Tells (apart sealed) f → FindsDamage disk f
unfolding chain
shared_told disk sealed f s t =
    let are : parts_from disk.region_len (length s.image) 0 s.image ≡ Ok sealed = ap (λ n. parts_from disk.region_len n 0 s.image) s.is_seen.regions ∙ s.are_parts in
    record {
      image = s.image;
      is_seen = s.is_seen;
      tells = (t.0, t.1, ap (λ x. and_then (and_then x apart) chain_of) are ∙ ap (λ x. and_then x chain_of) t.2);
    }

pub walk_told : (disk : Disk) (sealed : List Part) (f : OpenFault) → SeesParts disk sealed → apart sealed ≡ Ok sealed → Tells (chain_of sealed) f → FindsDamage disk f
unfolding chain
walk_told disk sealed f s disjoint t =
    let are : parts_from disk.region_len (length s.image) 0 s.image ≡ Ok sealed = ap (λ n. parts_from disk.region_len n 0 s.image) s.is_seen.regions ∙ s.are_parts in
    record {
      image = s.image;
      is_seen = s.is_seen;
      tells = (t.0, t.1, ap (λ x. and_then (and_then x apart) chain_of) are ∙ ap (λ x. and_then x chain_of) disjoint ∙ t.2);
    }

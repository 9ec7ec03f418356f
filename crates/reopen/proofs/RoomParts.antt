-- The parts of a chain that was seen are those of a room.
use Rattle.std.proofs.Common.{◌≡◌, ℕ, ◌+◌, ◌<◌, ◌≤◌, ◌==◌, ◌&&◌, IsTrue, true, false, List, [], ◌∷◌, ◌++◌, length, map, refl, sym, ap, ◌∙◌, subst, Option, Some, None, Ok, arith, eq-eqb}
use Rattle.std.specs.Prelude.{IfSome, flat_map, nat_le, Result}
use Rattle.std.specs.List.{AllByRecursion, list_any}
use Rattle.fine_model.specs.declared.Part.{Part}
use Rattle.fine_model.specs.declared.Mark.{Mark}
use Rattle.fine_model.specs.declared.Mark.TheVariants as mark
use Rattle.fine_model.specs.declared.Damage.{Damage}
use Rattle.fine_model.specs.Regions.{Image, region_of, is_sealed, HasHeader}
use Rattle.fine_model.specs.Chain.{parts_from, chain, regions_of, is_free}
use Rattle.fine_model.specs.ChainLaws.{PartsFollow, IsPart, IsChain}
use Rattle.fine_model.proofs.Ordered.Order.{all_map}
use Rattle.fine_model.proofs.Ordered.Sets.{all_append}
use Rattle.fine_model.proofs.Chain.Headers.{Lies, good, lies, in_bounds}
use Rattle.fine_model.proofs.Chain.ReadChain.{ReadChain, read_chain, chain_read}
use Rattle.fine_model.proofs.Chain.ChainFacts.{Fact, all_facts, facts, each_part, chain_law}
use Rattle.log_disk.specs.Disk.{Disk, Told}
use Rattle.epoch_room.specs.Value.{all_regions}
use Rattle.partition_index.specs.Parts.{LiesIn, is_counted}
use Rattle.epoch_room.specs.Whole.{FollowOn, AreInChain, AreApart, AreRising, HasGeometry, HoldsParts, AreParts}
use Rattle.reopen.specs.declared.chain.Chain.{Chain}
use Rattle.reopen.specs.Opening.{SeesChain, beside}
use Rattle.reopen.proofs.SealedParts.{AreLeads, leads, all_beside, rising_beside, apart_beside, all_leads, distinct}

-- the parts of a chain follow one another, with epochs within the format's bounds
follow_on : (region_len : ℕ) (image : Image) (e : ℕ) (parts : List Part) → PartsFollow e parts → AllByRecursion (IsPart region_len image) parts → FollowOn (e + 1) parts
follow_on region_len image e [] follow each = tt
follow_on region_len image e (p ∷ parts) follow each =
    let part = each.0 in
    let b = in_bounds region_len (length image) p.region (region_of image p.region) p.header (good region_len (length image) p.region (region_of image p.region) p.header part.has_header) in
    let first = follow.0 in let ordered = follow.1 in
    (first, omega (arith, first, ordered), b.1, follow_on region_len image p.header.range.last parts follow.2 each.1)

all_flat : (P : ℕ → Type 0) (parts : List Part) → AllByRecursion (λ p. AllByRecursion P (regions_of p)) parts → AllByRecursion P (flat_map regions_of parts)
all_flat P [] all = tt
all_flat P (p ∷ parts) all = all_append P (regions_of p) (flat_map regions_of parts) all.0 (all_flat P parts all.1)

-- a part with its header lies in its regions
lies_in : (region_len : ℕ) (image : Image) (p : Part) → 4096 ≤ region_len → region_len ≤ 67108864 → HasHeader region_len image p.region p.header → LiesIn region_len p.header
lies_in region_len image p low high has =
    let l = lies region_len (length image) p.region (region_of image p.region) p.header (good region_len (length image) p.region (region_of image p.region) p.header has) in
    record { large = omega (arith, low); small = high; listed = l.long; counted = by p.header.mark refl l; lies = l.fits }
  where
    by : (m : Mark) → p.header.mark ≡ m → Lies region_len p.header → IsTrue (is_counted m p.header.regions)
    by mark.One is l = eq-eqb p.header.regions 1 (l.alone (λ three. let c : mark.One ≡ mark.Three = sym is ∙ three in cc))
    by mark.Two is l = eq-eqb p.header.regions 1 (l.alone (λ three. let c : mark.Two ≡ mark.Three = sym is ∙ three in cc))
    by mark.Three is l = let two = l.several is in let few = l.few.1 in between p.header.regions two few
      where
        between : (n : ℕ) → 2 ≤ n → n ≤ 8 → (nat_le 2 n && nat_le n 8) ≡ true
        between n a b = grind (arith, a, b)

module _ (region_len : ℕ) (image : Image) (live : List Part) (c : ReadChain region_len image live) where
  is_chain : IsChain region_len image live
  is_chain = chain_law region_len image live (chain_read region_len image live c)

  abbrev sealed : List Part
  sealed = c.all

  abbrev retired : List Part
  retired = beside live sealed

  live_facts : AllByRecursion (Fact region_len image sealed) live
  live_facts = facts region_len image live c

  retired_facts : AllByRecursion (Fact region_len image sealed) retired
  retired_facts = all_beside (Fact region_len image sealed) live sealed (all_facts region_len image live c)

  both_facts : AllByRecursion (Fact region_len image sealed) (live ++ retired)
  both_facts = all_append (Fact region_len image sealed) live retired live_facts retired_facts

  among : AllByRecursion (λ p. list_any (λ q. q.region == p.region) sealed ≡ true) live
  among = all_map (Fact region_len image sealed) (λ p. list_any (λ q. q.region == p.region) sealed ≡ true) (λ p f. f.here (λ q. q.region == p.region) (eq-eqb p.region p.region refl)) live live_facts

  are_leads : AreLeads 0 image sealed
  are_leads = leads region_len (length image) 0 image sealed c.are

  headers : AllByRecursion (λ p. HasHeader region_len image p.region p.header) (live ++ retired)
  headers = all_map (Fact region_len image sealed) (λ p. HasHeader region_len image p.region p.header) (λ p f. f.has) (live ++ retired) both_facts

  below : AllByRecursion (λ r. r < length image) (all_regions (live ++ retired))
  below =
      all_flat (λ r. r < length image) (live ++ retired)
      (all_append (λ p. AllByRecursion (λ r. r < length image) (regions_of p)) live retired
      (all_map (IsPart region_len image) (λ p. AllByRecursion (λ r. r < length image) (regions_of p)) within live is_chain.each)
      (all_beside (λ p. AllByRecursion (λ r. r < length image) (regions_of p)) live sealed
      (all_map (IsPart region_len image) (λ p. AllByRecursion (λ r. r < length image) (regions_of p)) within sealed (each_part region_len image live c))))
    where
      within : (p : Part) → IsPart region_len image p → AllByRecursion (λ r. r < length image) (regions_of p)
      within p part = all_map (λ r. (r < length image) × (is_free image r ≡ false)) (λ r. r < length image) (λ r h. h.0) (regions_of p) part.regions

  lead_of : (region : ℕ) → region < length image → is_sealed (region_of image region) ≡ list_any (λ p. p.region == region) (live ++ retired)
  lead_of region there =
      let e : 0 + region ≡ region = omega arith in
      are_leads.all region there ∙ ap (λ n. list_any (λ p. p.region == n) sealed) e ∙ sym (all_leads live sealed among region)

  holds : chain region_len image ≡ Ok live → HoldsParts region_len image live retired
  holds is = record { is_chain = is; leads = lead_of; headers = headers }

  are_parts : (is : chain region_len image ≡ Ok live) → 4096 ≤ region_len → region_len ≤ 67108864 → (regions : ℕ) → length image ≡ regions → AreInChain live × AreApart regions (all_regions (live ++ retired)) × AllByRecursion (λ p. LiesIn region_len p.header) (live ++ retired) × AreRising (map (λ p. p.region) retired)
  are_parts is low high regions long = (
    record { follow = follow_on region_len image 0 live is_chain.follow is_chain.each },
    record {
      distinct = distinct region_len image sealed live retired (apart_beside live sealed) live_facts retired_facts is_chain.distinct (rising_beside live sealed are_leads.rising);
      below = subst (λ n. AllByRecursion (λ r. r < n) (all_regions (live ++ retired))) long below;
    },
    all_map (λ p. HasHeader region_len image p.region p.header) (λ p. LiesIn region_len p.header) (λ p has. lies_in region_len image p low high has) (live ++ retired) headers,
    rising_beside live sealed are_leads.rising,
  )

told_parts : (region_len : ℕ) (image : Image) (live retired : List Part) (told : Option Told) → IfSome told (λ t. image ≡ t.bytes) → HoldsParts region_len image live retired → IfSome told (λ t. HoldsParts region_len t.bytes live retired)
told_parts region_len image live others None same h = tt
told_parts region_len image live others (Some t) same h = subst (λ i. HoldsParts region_len i live others) same h

-- a chain that was seen, and the other sealed parts, are the parts of a room
pub room_parts : (disk : Disk) (found : Chain) → HasGeometry disk → SeesChain disk found → AreParts disk found.parts found.retired
room_parts disk found geometry s =
    let c = read_chain disk.region_len s.image found.parts s.is_chain in
    let same : c.all ≡ s.sealed =
    let e : ◌≡◌ {A = Result (List Part) Damage} (Ok c.all) (Ok s.sealed) = sym c.are ∙ ap (λ n. parts_from disk.region_len n 0 s.image) s.is_seen.regions ∙ s.are_sealed in cc in
    let retired : beside found.parts c.all ≡ found.retired = ap (beside found.parts) same ∙ sym s.retired in
    subst (AreParts disk found.parts) retired
    (let p = are_parts disk.region_len s.image found.parts c s.is_chain geometry.len_low geometry.len_high disk.regions s.is_seen.regions in
    record {
      in_chain = p.0;
      apart = p.1;
      lie = p.2;
      rising = p.3;
      told = told_parts disk.region_len s.image found.parts (beside found.parts c.all) disk.told s.is_seen.told (holds disk.region_len s.image found.parts c s.is_chain);
    })

-- Parts that are kept have the bytes that they had at entry.
use Rattle.std.proofs.Common.{◌≡◌, ◌⊎◌, inl, inr, ℕ, List, [], ◌∷◌, ◌++◌, drop, Option, Some, Ok, Err, refl, sym, ap, ◌∙◌, subst}
use Rattle.std.specs.Prelude.{Result, Contains, flat_map}
use Rattle.std.specs.List.{AllByRecursion}
use Rattle.std.proofs.lemmas.List.Elements.{All-contains, All-from_recursion}
use Rattle.log_disk.specs.Disk.{Eye}
use Rattle.fine_model.specs.declared.Header.{Header}
use Rattle.fine_model.specs.declared.Part.{Part}
use Rattle.fine_model.specs.Chain.{regions_of}
use Rattle.fine_model.specs.Damages.{HasBadPlace, HasEntryWith, IsBadPlace, LacksEntry}
use Rattle.fine_model.specs.Regions.{HasHeader, HoldsBadItem, Image, IsBadItem, Place, body_in, body_start, continuations, place_of, region_of}
use Rattle.fine_model.specs.Seek.{IsBadInSpan, entry_at, span_at}
use Rattle.fine_model.proofs.Chain.Owning.{own_law}
use Rattle.node_fetch.specs.Fetched.{HasBadEntry, HasBadRow}
use Rattle.node_fetch.proofs.Blames.{entry_law, good_law, row_law, same_header}
use Rattle.partition_index.specs.Parts.{IsSeen}
use Rattle.damage_laws.specs.Places.{BodyLaw, EntryLaw, FoundLaw, IsGood, IsKept, IsUnchanged, PlaceLaw, RowLaw, SeesKeptOrGood}

behind_now : (old new : Image) (regions : List ℕ) → AllByRecursion (λ r. region_of new r ≡ region_of old r) regions → flat_map (λ r. drop 1 (region_of new r)) regions ≡ flat_map (λ r. drop 1 (region_of old r)) regions
behind_now old new [] same = refl
behind_now old new (r ∷ rs) same = ap (λ bytes. drop 1 bytes ++ flat_map (λ r. drop 1 (region_of new r)) rs) same.0 ∙ ap (λ rest. drop 1 (region_of old r) ++ rest) (behind_now old new rs same.1)

body_now : (old new : Image) (p : Part) → AllByRecursion (λ r. region_of new r ≡ region_of old r) (regions_of p) → body_in new p.region p.header ≡ body_in old p.region p.header
unfolding body_in
body_now old new p same =
    ap (λ bytes. drop (body_start p.header.mark) bytes ++ flat_map (λ r. drop 1 (region_of new r)) (continuations p.header)) same.0
    ∙ ap (λ rest. drop (body_start p.header.mark) (region_of old p.region) ++ rest) (behind_now old new (continuations p.header) same.1)

pub body_law : BodyLaw
body_law region_len entry now p u = body_now entry now p u.same.same

header_is : (a b : Header) → ◌≡◌ {A = Result (Option Header) ℕ} (Ok (Some a)) (Ok (Some b)) → a ≡ b
header_is a b e = cc

-- its header is the one that it had
header_now : (region_len : ℕ) (entry now : Image) (p : Part) → IsUnchanged region_len entry now p → HasHeader region_len now p.region p.header
header_now region_len entry now p u = let alike = own_law region_len entry now p u.same u.header in alike.header u.header

pub place_law : PlaceLaw
place_law region_len entry now p place u (inl bad) = inl (at_entry bad.header (header_is bad.header p.header (sym bad.has_header ∙ header_now region_len entry now p u)) bad.at bad.is_bad bad.stands)
  where
    at_entry : (header : Header) → header ≡ p.header → (at : ℕ) → IsBadItem header (body_in now p.region header) at → place ≡ place_of region_len p.region header at → HoldsBadItem region_len entry p.region place
    at_entry header is at bad stands = record {
      header = p.header;
      has_header = u.header;
      at = at;
      is_bad = subst (λ body. IsBadItem p.header body at) (body_law region_len entry now p u) (subst (λ h. IsBadItem h (body_in now p.region h) at) is bad);
      stands = subst (λ h. place ≡ place_of region_len p.region h at) is stands;
    }
place_law region_len entry now p place u (inr (inl bad)) = inr (inl (record {
  entry = bad.entry;
  there = bad.there;
  at = bad.at;
  is_bad = subst (λ body. span_at p.header body bad.entry ≡ Err bad.at) (body_law region_len entry now p u) bad.is_bad;
  stands = bad.stands;
}))
place_law region_len entry now p place u (inr (inr bad)) = inr (inr (record {
  entry = bad.entry;
  there = bad.there;
  span = bad.span;
  is_span = subst (λ body. span_at p.header body bad.entry ≡ Ok bad.span) (body_law region_len entry now p u) bad.is_span;
  at = bad.at;
  is_bad = subst (λ body. IsBadInSpan p.header body bad.span (entry_at p.header body bad.entry).node bad.at) (body_law region_len entry now p u) bad.is_bad;
  stands = bad.stands;
}))

pub found_law : FoundLaw
found_law region_len entry now p id rows u f = record {
  found = subst (λ body. ((rows ≡ []) × LacksEntry p.header body id) ⊎ HasEntryWith p.header body id rows) (body_law region_len entry now p u) f.found;
  exact = λ own has sealed. let alike = own_law region_len entry now p u.same u.header in f.exact own (alike.header has) (alike.rows own sealed);
}

-- ---- all parts that an eye sees

module _ (eye : Eye) (entry : Image) (parts present : List Part) (s : SeesKeptOrGood eye entry parts present) where
  -- a bad place of one of them
  named : (p : Part) (place : Place) → Contains present p → IsBadPlace eye.region_len s.now p place → HasBadPlace eye.region_len entry parts place
  named p place among bad = by (All-contains Q present p (All-from_recursion Q present s.each) among)
    where
      Q : Part → Type 0
      Q q = IsKept eye.region_len entry s.now parts q ⊎ IsGood eye.region_len s.now q

      seen : IsSeen eye p
      seen = All-contains (IsSeen eye) present p (All-from_recursion (IsSeen eye) present s.seen) among

      by : Q p → HasBadPlace eye.region_len entry parts place
      by (inl kept) = (p, kept.there, place_law eye.region_len entry s.now p place kept.unchanged bad)
      by (inr good) = absurd (good_law eye p good.rows place seen (record {
        image = s.now;
        told = s.told;
        sealed = good.sealed;
        of_part = same_header eye.region_len s.now p good.rows good.sealed good.header;
      }) bad)

pub row_blamed : RowLaw
row_blamed eye entry parts present id place s (k, p, low, is, bad) =
    named eye entry parts present s p place (k, low, is) (row_law s.now eye.region_len p id place (subst (λ o. HasBadRow o eye.region_len p id place) s.told bad))

pub entry_blamed : EntryLaw
entry_blamed eye entry parts present place s (k, p, low, is, bad) =
    named eye entry parts present s p place (k, low, is) (entry_law s.now eye.region_len p place (subst (λ o. HasBadEntry o eye.region_len p place) s.told bad))

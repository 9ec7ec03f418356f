-- What merging names as damaged, by the bytes at entry.
use Rattle.std.proofs.Common.{◌≡◌, ◌⊎◌, ◌∙◌, ℕ, false, List, [], ◌∷◌, ◌++◌, inl, inr, Option, Some, None, refl, sym, ap, subst, arith}
use Rattle.std.specs.Prelude.{Contains}
use Rattle.std.specs.List.{AllByRecursion}
use Rattle.std.proofs.lemmas.List.Elements.{All-contains, All-from_recursion, Contains-append_left, Contains-append_right}
use Rattle.log_disk.specs.Disk.{Eye}
use Rattle.fine_model.specs.declared.Damage.{Damage}
use Rattle.fine_model.specs.declared.Damage.TheVariants as damage
use Rattle.fine_model.specs.declared.FetchFault.{FetchFault}
use Rattle.fine_model.specs.declared.FetchFault.TheVariants as fetch_fault
use Rattle.fine_model.specs.declared.NodeId.{NodeId}
use Rattle.fine_model.specs.declared.Part.{Part}
use Rattle.fine_model.specs.declared.Row.{Row}
use Rattle.fine_model.specs.Chain.{AreRowsOf, regions_of}
use Rattle.fine_model.specs.ChainLaws.{SameIn}
use Rattle.fine_model.specs.Damages.{HasBadPlace, IsBadOf}
use Rattle.fine_model.specs.Regions.{HasHeader, Image, Place, region_of}
use Rattle.fine_model.specs.Views.{SameSeen, TellsRowsOf}
use Rattle.fine_model.proofs.Chain.Owning.{own_law}
use Rattle.node_fetch.specs.Fetched.{HasBadEntry, HasBadRow}
use Rattle.partition_index.specs.Parts.{IsSeen}
use Rattle.partition_hold.specs.Views.{ViewValue}
use Rattle.partition_merge.specs.Mergers.{BlamesEntry, BlamesRow, at_front}
use Rattle.damage_laws.specs.Places.{SeesKeptOrGood}
use Rattle.damage_laws.proofs.Kept.{entry_blamed, row_blamed}
use Rattle.epoch_room.specs.Value.{RoomValue}
use Rattle.epoch_room.specs.Whole.{HoldsParts, IsWhole}
use Rattle.epoch_room.proofs.RegionSets.Freeing.{held_now}
use Rattle.room_merges.specs.Near.{StandIn}
use Rattle.room_merges.specs.Work.{BlamedBy}
use Rattle.room_merges.specs.declared.fault.MergeFault.TheVariants as merge_fault
use Rattle.room_merges.proofs.Living.{seen_then}
use Rattle.room_merges.proofs.Nearing.{stand_in}
use Rattle.log_commands.specs.Merged.{NamesPlace}
use Rattle.log_commands.specs.Origins.{AreFrom, ComesFrom}
use Rattle.log_commands.proofs.Origins.{from_part, part_alike}

-- ---- one part that an eye sees

-- a bad row of a node, or a bad entry, by what an eye tells
abbrev IsBlamed : Eye → Part → Place → Type 0
IsBlamed eye p place = ((id : NodeId) × HasBadRow eye.told eye.region_len p id place) ⊎ HasBadEntry eye.told eye.region_len p place

one_seen : (eye : Eye) (p : Part) → IsSeen eye p → AllByRecursion (IsSeen eye) (p ∷ [])
one_seen eye p seen = (seen, tt)

blamed_place : (eye : Eye) (base : Image) (parts : List Part) (p : Part) (place : Place) → SeesKeptOrGood eye base parts (p ∷ []) → IsBlamed eye p place → HasBadPlace eye.region_len base parts place
blamed_place eye base parts p place sees (inl row) = row_blamed eye base parts (p ∷ []) row.0 place sees (0, p, omega arith, refl, row.1)
blamed_place eye base parts p place sees (inr entry) = entry_blamed eye base parts (p ∷ []) place sees (0, p, omega arith, refl, entry)

-- where the eye tells of the part what an image has, the place is bad in it
blamed_in : (eye : Eye) (base : Image) (parts : List Part) (p : Part) (place : Place) → IsSeen eye p → Contains parts p → HasHeader eye.region_len base p.region p.header → SameSeen (regions_of p) (Some base) eye.told → IsBlamed eye p place
    → HasBadPlace eye.region_len base parts place
blamed_in eye base parts p place seen there header same bad = by eye.told refl same
  where
    by : (told : Option Image) → eye.told ≡ told → SameSeen (regions_of p) (Some base) told → HasBadPlace eye.region_len base parts place
    by None is s = absurd s
    by (Some now) is s =
        blamed_place eye base parts p place (record { now = now; told = is; seen = one_seen eye p seen; each = (inl (record { there = there; unchanged = record { header = header; same = s } }), tt) }) bad

-- and where the eye tells its rows, nothing is blamed in it
never_blamed : (eye : Eye) (p : Part) (place : Place) (rows : List Row) → IsSeen eye p → TellsRowsOf eye.told eye.region_len (p ∷ []) rows → IsBlamed eye p place → ⊥
unfolding AreRowsOf
never_blamed eye p place rows seen tells bad =
    let found = blamed_place eye tells.image [] p place
    (record { now = tells.image; told = tells.is_told; seen = one_seen eye p seen; each = (inr (record { header = tells.headers.0; rows = tells.are_rows.0; sealed = tells.are_rows.3 }), tt) }) bad in
    omega (arith, found.1.1)

-- ---- the bytes the other way round

bytes_back : (regions : List ℕ) (a b : Image) → AllByRecursion (λ r. region_of b r ≡ region_of a r) regions → AllByRecursion (λ r. region_of a r ≡ region_of b r) regions
bytes_back [] a b same = tt
bytes_back (r ∷ regions) a b same = (sym same.0, bytes_back regions a b same.1)

header_back : (region_len : ℕ) (entry now : Image) (p : Part) → SameIn (regions_of p) entry now → HasHeader region_len now p.region p.header → HasHeader region_len entry p.region p.header
header_back region_len entry now p same has =
    let back : SameIn (regions_of p) now entry = record { as_many = sym same.as_many; same = bytes_back (regions_of p) entry now same.same } in
    let alike = own_law region_len now entry p back has in alike.header has

-- ---- a place that merging names

module _ (region_len : ℕ) (entry now : Image) (before : List Part) (new : RoomValue) (whole : IsWhole new) (opened : new.room.is_shut ≡ false) (is_now : new.room.image ≡ Some now)
    (disk_len : new.disk.region_len ≡ region_len) (room_len : new.room.region_len ≡ region_len) (from : AreFrom region_len (Some entry) (Some now) before new.room.parts) where
  held : HoldsParts region_len now new.room.parts new.room.retired
  held = subst (λ n. HoldsParts n now new.room.parts new.room.retired) disk_len (held_now new whole (whole.lost opened) now is_now).1

  header_of_live : (p : Part) → Contains new.room.parts p → HasHeader region_len now p.region p.header
  header_of_live p there =
      All-contains (λ (q : Part). HasHeader region_len now q.region q.header) (new.room.parts ++ new.room.retired) p (All-from_recursion _ (new.room.parts ++ new.room.retired) held.headers)
      (Contains-append_left new.room.parts new.room.retired p there)

  module _ (eye : Eye) (eye_len : eye.region_len ≡ region_len) (p : Part) (there : Contains new.room.parts p) (seen : IsSeen eye p) (shown : SameSeen (regions_of p) (Some now) eye.told) (place : Place) (bad : IsBlamed eye p place) where
    bad_in : (base : Image) (parts : List Part) → Contains parts p → HasHeader region_len base p.region p.header → SameSeen (regions_of p) (Some base) eye.told → HasBadPlace region_len base parts place
    bad_in base parts among header same =
        subst (λ n. HasBadPlace n base parts place) eye_len (blamed_in eye base parts p place seen among (subst (λ n. HasHeader n base p.region p.header) (sym eye_len) header) same bad)

    none_good : (rows : List Row) → TellsRowsOf (Some now) region_len (p ∷ []) rows → ⊥
    none_good rows tells = never_blamed eye p place rows seen (subst (λ n. TellsRowsOf eye.told n (p ∷ []) rows) (sym eye_len) (part_alike region_len (Some now) eye.told p rows shown tells)) bad

    named : IsBadOf region_len entry before (damage.Region place.region place.at)
    named = by (from_part region_len (Some entry) (Some now) before new.room.parts p from there)
      where
        by : (front own rest : List Part) × (before ≡ front ++ (own ++ rest)) × ComesFrom region_len (Some entry) (Some now) own p → IsBadOf region_len entry before (damage.Region place.region place.at)
        by (front, own, rest, is, inl stays) =
            let among : Contains before p =
            subst (λ ps. Contains ps p) (sym (is ∙ ap (λ ps. front ++ (ps ++ rest)) stays.0)) (Contains-append_right front (p ∷ rest) p (0, omega arith, refl)) in
            bad_in entry before among (header_back region_len entry now p stays.1 (header_of_live p there)) (seen_then (regions_of p) (Some entry) (Some now) eye.told stays.1 shown)
        by (front, own, rest, is, inr made) = let m = made.good entry refl in absurd (none_good m.0 m.1)

  older_in : (two : Part × Part) → StandIn new.room.parts two → Contains new.room.parts two.0
  older_in two stand = subst (λ ps. Contains ps two.0) (sym stand.neighbours) (Contains-append_right stand.before (two.0 ∷ two.1 ∷ stand.after) two.0 (0, omega arith, refl))

  newer_in : (two : Part × Part) → StandIn new.room.parts two → Contains new.room.parts two.1
  newer_in two stand = subst (λ ps. Contains ps two.1) (sym stand.neighbours) (Contains-append_right stand.before (two.0 ∷ two.1 ∷ stand.after) two.1 (1, omega arith, refl))

  module _ (what : Damage) (names : NamesPlace new what) where
    abbrev place : Place
    place = record { region = names.region; at = names.at }

    abbrev view : ViewValue
    view = names.blamed.view

    abbrev two : Part × Part
    two = names.blamed.blamed.2.two

    view_len : view.region_len ≡ view.eye.region_len
    view_len = names.blamed.of_chain.is_view.long

    eye_len : view.eye.region_len ≡ region_len
    eye_len = sym view_len ∙ names.blamed.of_chain.region_len ∙ room_len

    stand : StandIn new.room.parts two
    stand = stand_in names.blamed.blamed.0 new.room.parts two names.blamed.blamed.2.first

    abbrev Named : Type 0
    Named = IsBadOf region_len entry before (damage.Region names.region names.at)

    of_part : (p : Part) → Contains new.room.parts p → IsBlamed view.eye p place → Named
    of_part p there bad =
        named view.eye eye_len p there
        (All-contains (IsSeen view.eye) view.parts p (All-from_recursion (IsSeen view.eye) view.parts names.blamed.of_chain.is_view.seen) (subst (λ ps. Contains ps p) (sym names.blamed.of_chain.parts) there))
        (subst (λ o. SameSeen (regions_of p) o view.eye.told) is_now (names.blamed.of_chain.sees p there)) place bad

    of_row : BlamesRow view.eye.told (at_front two.0 two.1 view.region_len) place → Named
    of_row blames = each blames.is_bad
      where
        each : HasBadRow view.eye.told view.region_len two.0 blames.node place ⊎ HasBadRow view.eye.told view.region_len two.1 blames.node place → Named
        each (inl bad) = of_part two.0 (older_in two stand) (inl (blames.node, subst (λ n. HasBadRow view.eye.told n two.0 blames.node place) view_len bad))
        each (inr bad) = of_part two.1 (newer_in two stand) (inl (blames.node, subst (λ n. HasBadRow view.eye.told n two.1 blames.node place) view_len bad))

    of_entry : BlamesEntry view.eye.told (at_front two.0 two.1 view.region_len) place → Named
    of_entry blames = each blames.is_bad
      where
        each : HasBadEntry view.eye.told view.region_len two.0 place ⊎ HasBadEntry view.eye.told view.region_len two.1 place → Named
        each (inl bad) = of_part two.0 (older_in two stand) (inr (subst (λ n. HasBadEntry view.eye.told n two.0 place) view_len bad))
        each (inr bad) = of_part two.1 (newer_in two stand) (inr (subst (λ n. HasBadEntry view.eye.told n two.1 place) view_len bad))

    by_read : (names.fault ≡ fetch_fault.BadRow names.region names.at) ⊎ (names.fault ≡ fetch_fault.BadIndex names.region names.at) → Named
    by_read (inl row) = of_row (subst (λ (f : FetchFault). BlamedBy view two.0 two.1 (merge_fault.Fetch f)) row names.blamed.blamed.2.blames).0
    by_read (inr index) = of_entry (subst (λ (f : FetchFault). BlamedBy view two.0 two.1 (merge_fault.Fetch f)) index names.blamed.blamed.2.blames).0

    pub may_name : IsBadOf region_len entry before what
    may_name = subst (IsBadOf region_len entry before) (sym names.is) (by_read names.of_read)

-- What one merge makes of the live parts of a room, and what these are made of behind it.
use Rattle.std.proofs.Common.{◌≡◌, ◌∙◌, ℕ, ◌≤◌, true, false, List, [], ◌∷◌, ◌++◌, inl, inr, Some, None, Ok, Err, refl, sym, ap, subst, arith, append-nil}
use Rattle.std.specs.Prelude.{Bool, Contains, Option, Result, option_to_list}
use Rattle.std.specs.List.{AllByRecursion}
use Rattle.std.proofs.lemmas.List.Elements.{All-contains, All-from_recursion, Contains-append_left, Contains-append_right}
use Rattle.log_disk.specs.Disk.{Disk}
use Rattle.fine_model.specs.declared.Part.{Part}
use Rattle.fine_model.specs.declared.Row.{Row}
use Rattle.fine_model.specs.declared.law.RoomState.{RoomState}
use Rattle.fine_model.specs.Chain.{AreRowsOf, regions_of}
use Rattle.fine_model.specs.Jobs.{job_left}
use Rattle.fine_model.specs.Regions.{HasHeader, Image, IsSealed, continuations}
use Rattle.fine_model.specs.Views.{SameSeen}
use Rattle.fine_model.proofs.Ordered.Times.{distinct_times, times, times-append, times-same, times_absent}
use Rattle.partition_index.specs.Parts.{IsSeen}
use Rattle.damage_laws.specs.Made.{AreMadeOf, IsMadeOf as IsMade, joined}
use Rattle.damage_laws.specs.Places.{AreKeptOrGood, IsUnchanged}
use Rattle.damage_laws.proofs.Joins.{joins}
use Rattle.epoch_room.specs.MergeSealing.{replaced}
use Rattle.epoch_room.specs.Value.{RoomValue, all_regions, taken}
use Rattle.epoch_room.specs.Whole.{IsWhole}
use Rattle.epoch_room.specs.declared.answers.RoomFault.TheVariants as room_fault
use Rattle.epoch_room.proofs.RegionSets.Beside.{regions_together}
use Rattle.epoch_room.proofs.RegionSets.Freeing.{held_now}
use Rattle.epoch_room.proofs.Erasures.LedParts.{lead_apart}
use Rattle.epoch_room.proofs.Merges.Retired.{replaced_is}
use Rattle.room_merges.proofs.Living.{seen_then}
use Rattle.room_merges.proofs.Telling.{seen_within}
use Rattle.room_merges.specs.declared.fault.MergeFault.{MergeFault}
use Rattle.room_merges.specs.declared.fault.MergeFault.TheVariants as merge_fault
use Rattle.room_merges.specs.Live.{KeepsLive}
use Rattle.room_merges.specs.Near.{Empties, KeepsRest, MergesFirst, MergesNear, SameOrErased}
use Rattle.room_steps.specs.Made.{KeepsGood, LivesOn, MakesWith}
use Rattle.room_steps.proofs.JoinedMade.{all_good, merge_good, merge_made, none_made, still_made}

-- where the disk told its bytes, it tells some still
pub told_then : (was now : Option Image) (image : Image) → SameSeen [] was now → was ≡ Some image → (other : Image) × (now ≡ Some other)
told_then (Some was) (Some now) image same is = (now, refl)
told_then (Some was) None image same is = absurd same
told_then None now image same is = absurd (let x = is in cc)

-- nothing was sealed since
pub none_more : (region_len : ℕ) (entry last : Image) (parts : List Part) (sealed : List (List Row)) (present : List Part) → AreMadeOf region_len entry last parts sealed present → AreMadeOf region_len entry last parts (sealed ++ []) present
none_more region_len entry last parts sealed present made = subst (λ xs. AreMadeOf region_len entry last parts xs present) (sym (append-nil sealed)) made

-- where a read gives the same of the same parts
pub makes_same : (old new : RoomValue) → new.room.image ≡ old.room.image → new.room.parts ≡ old.room.parts → MakesWith [] old new
makes_same old new image same entry first last parts sealed is_first is_last made =
    none_more old.room.region_len entry last parts sealed new.room.parts
    (subst (AreMadeOf old.room.region_len entry last parts sealed) (sym same)
    (subst (λ i. AreMadeOf old.room.region_len entry i parts sealed old.room.parts) (let both : ◌≡◌ {A = Option Image} (Some first) (Some last) = sym is_first ∙ sym image ∙ is_last in cc) made))

pub lives_same : (old new : RoomValue) → new.room.image ≡ old.room.image → new.room.parts ≡ old.room.parts → LivesOn [] old new
lives_same old new image same = record {
  makes = makes_same old new image same;
  good = λ entry first last parts is_first is_last good.
      subst (AreKeptOrGood old.room.region_len entry last parts) (sym same)
      (subst (λ i. AreKeptOrGood old.room.region_len entry i parts old.room.parts) (let both : ◌≡◌ {A = Option Image} (Some first) (Some last) = sym is_first ∙ sym image ∙ is_last in cc) good);
}

module _ (old new : RoomValue) (was : IsWhole old) (whole : IsWhole new) where
  -- the regions have the length that they had
  pub same_length : KeepsRest old new → new.room.region_len ≡ old.room.region_len
  same_length k =
      ap (λ (r : RoomState). r.region_len) whole.of_disk ∙ sym whole.entry.region_len ∙ ap (λ (d : Disk). d.region_len) k.entry ∙ was.entry.region_len ∙ sym (ap (λ (r : RoomState). r.region_len) was.of_disk)

  -- a live part has its header, and where it has the bytes that it had it is unchanged
  module _ (opened : old.room.is_shut ≡ false) (first : Image) (is_first : old.room.image ≡ Some first) where
    header_of : (p : Part) → Contains old.room.parts p → HasHeader old.room.region_len first p.region p.header
    header_of p there =
        let holds = (held_now old was (was.lost opened) first is_first).1 in
        subst (λ n. HasHeader n first p.region p.header) (sym (ap (λ (r : RoomState). r.region_len) was.of_disk))
        (All-contains (λ (q : Part). HasHeader old.disk.region_len first q.region q.header) (old.room.parts ++ old.room.retired) p (All-from_recursion _ (old.room.parts ++ old.room.retired) holds.headers)
        (Contains-append_left old.room.parts old.room.retired p there))

    unchanged : (last : Image) (told : Option Image) (p : Part) → told ≡ Some last → Contains old.room.parts p → SameSeen (regions_of p) old.room.image told → IsUnchanged old.room.region_len first last p
    unchanged last told p is_last there same =
        record { header = header_of p there; same = subst (λ o. SameSeen (regions_of p) (Some first) o) is_last (subst (λ o. SameSeen (regions_of p) o told) is_first same) }

  still_makes : old.room.is_shut ≡ false → KeepsLive old new → new.room.parts ≡ old.room.parts → MakesWith [] old new
  still_makes opened live same entry first last parts sealed is_first is_last made =
      none_more old.room.region_len entry last parts sealed new.room.parts
      (subst (AreMadeOf old.room.region_len entry last parts sealed) (sym same)
      (none_made old.room.region_len entry first last parts sealed old.room.parts
      (λ p there. unchanged opened first is_first last new.room.image p is_last there (live.each p there (subst (λ ps. Contains ps p) (sym same) there))) made))

  pub still : old.room.is_shut ≡ false → KeepsLive old new → new.room.parts ≡ old.room.parts → LivesOn [] old new
  still opened live same = record {
    makes = still_makes opened live same;
    good = λ entry first last parts is_first is_last good.
        subst (AreKeptOrGood old.room.region_len entry last parts) (sym same)
        (all_good old.room.region_len entry first last parts old.room.parts
        (λ p there. unchanged opened first is_first last new.room.image p is_last there (live.each p there (subst (λ ps. Contains ps p) (sym same) there))) good);
  }

  held_once : (n : ℕ) → times n (all_regions (old.room.parts ++ old.room.retired)) ≤ 1
  held_once n =
      let held = all_regions (old.room.parts ++ old.room.retired) in
      let d = distinct_times (taken old.room old.target) was.apart.distinct n in
      let a = times-append n (option_to_list old.target) (job_left old.room ++ (old.room.lost ++ held)) in
      let b = times-append n (job_left old.room) (old.room.lost ++ held) in
      let c = times-append n old.room.lost held in
      omega (arith, d, a, b, c)

  -- the lead of the older of two neighbours leads no part before it
  pub older_apart : (before : List Part) (older newer : Part) (after : List Part) → old.room.parts ≡ before ++ older ∷ newer ∷ after → AllByRecursion (λ q. q.region ≡ older.region → ⊥) before
  older_apart before older newer after is =
      lead_apart older.region before (times_absent older.region (all_regions before)
      (let h = held_once older.region in
      let a = ap (times older.region) (regions_together old.room.parts old.room.retired) ∙ times-append older.region (all_regions old.room.parts) (all_regions old.room.retired) in
      let b = ap (λ ps. times older.region (all_regions ps)) is ∙ ap (times older.region) (regions_together before (older ∷ newer ∷ after)) ∙ times-append older.region (all_regions before) (all_regions (older ∷ newer ∷ after)) in
      let c = times-append older.region (regions_of older) (all_regions (newer ∷ after)) in
      let s = times-same older.region (continuations older.header) in
      omega (arith, h, a, b, c, s)))

  module _ (from : ℕ) (k : KeepsRest old new) (live : KeepsLive old new) (erased : RoomValue) (e : Empties old erased (Ok tt)) (f : MergesFirst from erased new) where
    abbrev older : Part
    older = f.merged.two.0

    abbrev newer : Part
    newer = f.merged.two.1

    abbrev before : List Part
    before = f.merged.stand.before

    abbrev after : List Part
    after = f.merged.stand.after

    pub parts_were : old.room.parts ≡ before ++ older ∷ newer ∷ after
    parts_were = sym e.parts ∙ f.merged.stand.neighbours

    pub parts_are : new.room.parts ≡ before ++ f.merged.part ∷ after
    parts_are = f.merged.is ∙ ap (replaced older.region f.merged.part) f.merged.stand.neighbours ∙ replaced_is before older newer after f.merged.part (older_apart before older newer after parts_were)

    pub stays : (p : Part) → Contains (before ++ older ∷ newer ∷ after) p → Contains (before ++ f.merged.part ∷ after) p → SameSeen (regions_of p) old.room.image new.room.image
    stays p there still = live.each p (subst (λ ps. Contains ps p) (sym parts_were) there) (subst (λ ps. Contains ps p) (sym parts_are) still)

    pub in_front : (p : Part) (more : List Part) → Contains before p → Contains (before ++ more) p
    in_front p more there = Contains-append_left before more p there

    pub in_back : (p : Part) (front : List Part) (more : List Part) → Contains after p → Contains (front ++ (more ++ after)) p
    in_back p front more there = Contains-append_right front (more ++ after) p (Contains-append_right more after p there)

    -- where a read of the disk told bytes, the eye of the view tells some
    pub shown : (image : Image) → old.room.image ≡ Some image → (other : Image) × (f.view.eye.told ≡ Some other)
    shown image is =
        let mid = told_then old.room.image erased.room.image image e.live.told is in
        let there = subst (λ ps. Contains ps older) (sym f.merged.stand.neighbours) (Contains-append_right before (older ∷ newer ∷ after) older (0, omega arith, refl)) in
        told_then erased.room.image f.view.eye.told mid.0 (seen_within (regions_of older) [] erased.room.image f.view.eye.told tt (f.of_chain.sees older there)) mid.1

    -- one of the two is seen through the view, with the bytes that it had
    module _ (opened : old.room.is_shut ≡ false) (first : Image) (is_first : old.room.image ≡ Some first) (seen : Image) (is_seen : f.view.eye.told ≡ Some seen) (p : Part) (there : Contains (before ++ older ∷ newer ∷ after) p) where
      among : Contains old.room.parts p
      among = subst (λ ps. Contains ps p) (sym parts_were) there

      erased_there : Contains erased.room.parts p
      erased_there = subst (λ ps. Contains ps p) (sym e.parts) among

      sees : IsSeen f.view.eye p
      sees = All-contains (IsSeen f.view.eye) f.view.parts p (All-from_recursion (IsSeen f.view.eye) f.view.parts f.of_chain.is_view.seen) (subst (λ ps. Contains ps p) (sym f.of_chain.parts) erased_there)

      seen_same : IsUnchanged old.room.region_len first seen p
      seen_same = unchanged opened first is_first seen f.view.eye.told p is_seen among (seen_then (regions_of p) old.room.image erased.room.image f.view.eye.told (e.live.each p among erased_there) (f.of_chain.sees p erased_there))

    eye_len : f.view.eye.region_len ≡ old.room.region_len
    eye_len = sym f.of_chain.is_view.long ∙ f.of_chain.region_len ∙ e.rest.keeps.becomes.region_len

    makes_two : old.room.is_shut ≡ false → MakesWith [] old new
    unfolding AreRowsOf
    makes_two opened entry first last parts sealed is_first is_last were =
        let eye = shown first is_first in
        let t = f.tells eye.0 eye.1 in
        let image : t.told.image ≡ last = (let both : ◌≡◌ {A = Option Image} (Some t.told.image) (Some last) = sym t.told.is_told ∙ is_last in cc) in
        let n = same_length k in
        let all : t.told.are_rows.0 ≡ t.rows = sym (t.told.are_rows.2 ∙ ap (λ xs. t.told.are_rows.0 ++ xs) t.told.are_rows.4 ∙ append-nil t.told.are_rows.0) in
        let p = f.merged.part in
        let stays_at : (q : Part) → Contains (before ++ older ∷ newer ∷ after) q → Contains (before ++ p ∷ after) q → IsUnchanged old.room.region_len first last q =
        λ q there still. unchanged opened first is_first last new.room.image q is_last (subst (λ ps. Contains ps q) (sym parts_were) there) (stays q there still) in
        none_more old.room.region_len entry last parts sealed new.room.parts
        (subst (AreMadeOf old.room.region_len entry last parts sealed) (sym parts_are)
        (merge_made old.room.region_len entry first last parts sealed before older newer p after
        (λ q there. stays_at q (in_front q (older ∷ newer ∷ after) there) (in_front q (p ∷ after) there))
        (λ q there. stays_at q (in_back q before (older ∷ newer ∷ []) there) (in_back q before (p ∷ []) there))
        (λ a b of_a of_b.
        let at : Contains (before ++ older ∷ newer ∷ after) older = Contains-append_right before (older ∷ newer ∷ after) older (0, omega arith, refl) in
        let next : Contains (before ++ older ∷ newer ∷ after) newer = Contains-append_right before (older ∷ newer ∷ after) newer (1, omega arith, refl) in
        let len = sym eye_len in
        subst (λ m. IsMade m entry last (joined a b) p) eye_len
        (joins f.view.eye entry eye.0 last a b older newer p t.rows (sees opened first is_first eye.0 eye.1 older at) (sees opened first is_first eye.0 eye.1 newer next) eye.1
        (subst (λ m. IsMade m entry eye.0 a older) len (still_made old.room.region_len entry first eye.0 a older (seen_same opened first is_first eye.0 eye.1 older at) of_a))
        (subst (λ m. IsMade m entry eye.0 b newer) len (still_made old.room.region_len entry first eye.0 b newer (seen_same opened first is_first eye.0 eye.1 newer next) of_b))
        (subst (λ m. HasHeader m last p.region p.header) (n ∙ len) (subst (λ i. HasHeader new.room.region_len i p.region p.header) image t.told.headers.0))
        (subst (λ m. IsSealed m last p.region p.header.range t.rows) (n ∙ len) (subst (λ i. IsSealed new.room.region_len i p.region p.header.range t.rows) image (subst (λ rows. IsSealed new.room.region_len t.told.image p.region p.header.range rows) all t.told.are_rows.3)))
        t.each))
        (subst (AreMadeOf old.room.region_len entry first parts sealed) parts_were were)))

    good_two : old.room.is_shut ≡ false → KeepsGood old new
    unfolding AreRowsOf
    good_two opened entry first last parts is_first is_last good =
        let eye = shown first is_first in
        let t = f.tells eye.0 eye.1 in
        let image : t.told.image ≡ last = (let both : ◌≡◌ {A = Option Image} (Some t.told.image) (Some last) = sym t.told.is_told ∙ is_last in cc) in
        let n = same_length k in
        let p = f.merged.part in
        let stays_at : (q : Part) → Contains (before ++ older ∷ newer ∷ after) q → Contains (before ++ p ∷ after) q → IsUnchanged old.room.region_len first last q =
        λ q there still. unchanged opened first is_first last new.room.image q is_last (subst (λ ps. Contains ps q) (sym parts_were) there) (stays q there still) in
        subst (AreKeptOrGood old.room.region_len entry last parts) (sym parts_are)
        (merge_good old.room.region_len entry first last parts before older newer p after
        (λ q there. stays_at q (in_front q (older ∷ newer ∷ after) there) (in_front q (p ∷ after) there))
        (λ q there. stays_at q (in_back q before (older ∷ newer ∷ []) there) (in_back q before (p ∷ []) there))
        (record {
          header = subst (λ m. HasHeader m last p.region p.header) n (subst (λ i. HasHeader new.room.region_len i p.region p.header) image t.told.headers.0);
          rows = t.told.are_rows.0;
          sealed = subst (λ m. IsSealed m last p.region p.header.range t.told.are_rows.0) n (subst (λ i. IsSealed new.room.region_len i p.region p.header.range t.told.are_rows.0) image t.told.are_rows.3);
        })
        (subst (AreKeptOrGood old.room.region_len entry first parts) parts_were good))

    lives_two : old.room.is_shut ≡ false → LivesOn [] old new
    lives_two opened = record { makes = makes_two opened; good = good_two opened }

  lives_or : (from : ℕ) → old.room.is_shut ≡ false → KeepsRest old new → KeepsLive old new → SameOrErased from old new → LivesOn [] old new
  lives_or from opened k live (inl same) = still opened live same
  lives_or from opened k live (inr merged) = lives_two from k live merged.1.erased merged.1.erases merged.1.merges opened

  -- what becomes of the live parts by a merge, whatever it answers
  pub near_lives : (from : ℕ) (result : Result Bool MergeFault) → MergesNear from old new result → LivesOn [] old new
  near_lives from (Ok true) m = lives_two from m.rest m.live m.near.3.erased m.near.3.erases m.near.3.merges m.near.0.opened
  near_lives from (Ok false) m = still m.near.0.opened m.live m.near.1
  near_lives from (Err (merge_fault.Fetch fault)) m = still m.near.0.opened m.live m.near.1
  near_lives from (Err (merge_fault.Room room_fault.NoMemory)) m = lives_or from m.near.0.opened m.rest m.live m.near.1
  near_lives from (Err (merge_fault.Room room_fault.Disk)) m = lives_or from m.near.0.opened m.rest m.live m.near.1
  near_lives from (Err (merge_fault.Room (room_fault.Shut epoch))) m = lives_same old new (ap (λ (v : RoomValue). v.room.image) m.near.2) (ap (λ (v : RoomValue). v.room.parts) m.near.2)

-- What the live parts are made of behind a gathering of the youngest.
use Rattle.std.proofs.Common.{◌≡◌, ◌∙◌, ◌≢◌, ◌⊎◌, inl, inr, Bool, ℕ, ◌<◌, ◌≤◌, ◌||◌, not, true, false, List, [], ◌∷◌, ◌++◌, length, map, take, Option, Some, None, refl, sym, ap, subst, arith, append-nil, true≢false}
use Rattle.std.specs.Prelude.{Contains, IfSome, Ok, Result, nat_eq, filter, flat_map, option_map, option_to_list}
use Rattle.std.specs.List.{AllByRecursion, list_any, range_with_len}
use Rattle.std.proofs.lemmas.Bool.{cases_lt}
use Rattle.std.proofs.lemmas.Grind.{flat_map-append}
use Rattle.std.proofs.lemmas.List.{map-append}
use Rattle.std.proofs.lemmas.List.Elements.{All-contains, All-from_recursion, Contains-append_left, Contains-append_right, filter_passes}
use Rattle.log_disk.specs.Disk.{Eye, IsToldOf, Told}
use Rattle.fine_model.specs.declared.Header.{Header}
use Rattle.fine_model.specs.declared.Part.{Part}
use Rattle.fine_model.specs.declared.Row.{Row}
use Rattle.fine_model.specs.declared.law.RoomState.{RoomState}
use Rattle.fine_model.specs.Chain.{AreRowsOf, regions_of}
use Rattle.fine_model.specs.Jobs.{job_left}
use Rattle.fine_model.specs.Regions.{HasHeader, Image, IsSealed, region_of}
use Rattle.fine_model.proofs.Ordered.Times.{absent_times, below_times, times, times-append}
use Rattle.partition_index.specs.Parts.{IsSeen, LiesIn}
use Rattle.damage_laws.specs.Made.{AreMadeOf, AreRowsAs, IsMadeOf, Made, Source, beside, sources}
use Rattle.damage_laws.specs.Places.{AreKeptOrGood, IsUnchanged}
use Rattle.damage_laws.proofs.GoodFinds.{good_finds}
use Rattle.damage_laws.proofs.Heads.{head_same, not_empty, tail_same}
use Rattle.damage_laws.proofs.MergedFinds.{beside_law, gathered_law}
use Rattle.epoch_room.specs.Gate.{KeepsBeside}
use Rattle.epoch_room.specs.Gathering.{Gathers, HoldsGathered, gathered_part, gathered_state}
use Rattle.epoch_room.specs.Value.{RoomValue, all_regions, regions_outside, taken}
use Rattle.epoch_room.specs.Whole.{IsWhole}
use Rattle.epoch_room.proofs.RegionSets.Beside.{regions_together}
use Rattle.epoch_room.proofs.RegionSets.Freeing.{held_now}
use Rattle.epoch_room.proofs.Views.Viewing.{all_parts}
use Rattle.room_steps.specs.Made.{LivesOn}
use Rattle.room_steps.proofs.BesideMade.{bytes_are, each_counted, images, in_parts, unchanged}
use Rattle.room_steps.proofs.JoinedMade.{all_good, all_still, seal_good}
use Rattle.room_steps.proofs.Stepping.{none_more}

-- ---- the lowest free region

differs : (m n : ℕ) → m ≢ n → (nat_eq m n || false) ≡ false
differs m n h = grind (arith, h)

passes : (b : Bool) → not b ≡ true → b ≡ false
passes true h = absurd (true≢false (sym h))
passes false h = refl

-- a region of a live part stands among those that are taken
in_use : (value : RoomValue) (p : Part) → Contains value.room.parts p → (r : ℕ) → times r (regions_of p) ≤ times r (taken value.room value.target)
in_use value p there r =
    let live = value.room.parts in
    let held = all_regions (live ++ value.room.retired) in
    let a = times-append r (option_to_list value.target) (job_left value.room ++ (value.room.lost ++ held)) in
    let b = times-append r (job_left value.room) (value.room.lost ++ held) in
    let c = times-append r value.room.lost held in
    let e = ap (times r) (regions_together live value.room.retired) ∙ times-append r (all_regions live) (all_regions value.room.retired) in
    let own = in_parts p live r there in
    omega (arith, a, b, c, e, own)

-- a free region does not
outside : (value : RoomValue) → IsWhole value → (f : ℕ) (free : List ℕ) → value.room.free ≡ f ∷ free → not (list_any (nat_eq f) (taken value.room value.target)) ≡ true
unfolding regions_outside
outside value whole f free is =
    All-contains (λ r. not (list_any (nat_eq r) (taken value.room value.target)) ≡ true) (filter (λ r. not (list_any (nat_eq r) (taken value.room value.target))) (range_with_len 0 value.disk.regions)) f
    (filter_passes (λ r. not (list_any (nat_eq r) (taken value.room value.target))) (range_with_len 0 value.disk.regions)) (subst (λ rs. Contains rs f) (sym is ∙ whole.free) (0, omega arith, refl))

-- no live part has it
pub free_apart : (value : RoomValue) → IsWhole value → (p : Part) → Contains value.room.parts p → AllByRecursion (λ r. list_any (nat_eq r) (take 1 value.room.free) ≡ false) (regions_of p)
free_apart value whole p there = each_counted (λ r. list_any (nat_eq r) (take 1 value.room.free) ≡ false) (regions_of p) (λ r low. by value.room.free refl r low)
  where
    by : (free : List ℕ) → value.room.free ≡ free → (r : ℕ) → 1 ≤ times r (regions_of p) → list_any (nat_eq r) (take 1 free) ≡ false
    by [] is r low = refl
    by (f ∷ free) is r low = differs r f (λ same. clash (subst (λ n. 1 ≤ times n (regions_of p)) same low))
      where
        clash : 1 ≤ times f (regions_of p) → ⊥
        clash low = let none = absent_times f (taken value.room value.target) (passes _ (outside value whole f free is)) in let some = in_use value p there f in omega (arith, low, none, some)

-- ---- a live part as an eye would see it

module _ (value : RoomValue) (whole : IsWhole value) (image : Image) (is_image : value.room.image ≡ Some image) (open_disk : value.room.lost ≡ []) (p : Part) (there : Contains value.room.parts p) where
  abbrev eye : Eye
  eye = record { number = 0; regions = all_regions (p ∷ []); region_len = value.disk.region_len; told = Some image; faults = 0; taken = 0 }

  below : AllByRecursion (λ r. r < value.disk.regions) (regions_of p)
  below = each_counted (λ r. r < value.disk.regions) (regions_of p) (λ r low. by r low (cases_lt r value.disk.regions))
    where
      by : (r : ℕ) → 1 ≤ times r (regions_of p) → (r < value.disk.regions) ⊎ (value.disk.regions ≤ r) → r < value.disk.regions
      by r low (inl h) = h
      by r low (inr h) = absurd (let none = below_times value.disk.regions (taken value.room value.target) whole.apart.below r h in let some = in_use value p there r in omega (arith, low, none, some))

  lengths : AllByRecursion (λ r. length (region_of image r) ≡ value.disk.region_len) (regions_of p)
  lengths = by value.disk.told whole.sound.told (images value whole image is_image)
    where
      each : (t : Told) → IsToldOf value.disk t → t.bytes ≡ image → (rs : List ℕ) → AllByRecursion (λ r. r < value.disk.regions) rs → AllByRecursion (λ r. length (region_of image r) ≡ value.disk.region_len) rs
      each t told is [] all = tt
      each t told is (r ∷ rs) all = (ap (λ i. length (region_of i r)) (sym is) ∙ told.lengths r all.0, each t told is rs all.1)

      by : (t : Option Told) → IfSome t (IsToldOf value.disk) → option_map (λ (t : Told). t.bytes) t ≡ Some image → AllByRecursion (λ r. length (region_of image r) ≡ value.disk.region_len) (regions_of p)
      by None told e = absurd (let x = e in cc)
      by (Some t) told e = each t told (bytes_are t image e) (regions_of p) below

  seen : IsSeen eye p
  seen = record {
    named = (all_parts (p ∷ [])).0;
    long = lengths;
    lies = All-contains (λ (q : Part). LiesIn value.disk.region_len q.header) (value.room.parts ++ value.room.retired) p (All-from_recursion _ (value.room.parts ++ value.room.retired) whole.lie) (Contains-append_left value.room.parts value.room.retired p there);
  }

  pub has_header : HasHeader value.disk.region_len image p.region p.header
  has_header =
      All-contains (λ (q : Part). HasHeader value.disk.region_len image q.region q.header) (value.room.parts ++ value.room.retired) p
      (All-from_recursion _ (value.room.parts ++ value.room.retired) (held_now value whole open_disk image is_image).1.headers) (Contains-append_left value.room.parts value.room.retired p there)

  -- what it was made of has its rows
  pub made_rows : (entry : Image) (m : Made) (rows : List Row) → IsMadeOf value.disk.region_len entry image m p → IsSealed value.disk.region_len image p.region p.header.range rows → AreRowsAs value.disk.region_len entry m rows
  made_rows entry m rows made sealed id =
      let of_part : sealed.header ≡ p.header = (let e : ◌≡◌ {A = Result (Option Header) ℕ} (Ok (Some sealed.header)) (Ok (Some p.header)) = sym sealed.has_header ∙ has_header in cc) in made.each id _ (good_finds eye p rows id seen (record { image = image; told = refl; sealed = sealed; of_part = of_part }))

  pub made_rows_at : (n : ℕ) → n ≡ value.disk.region_len → (entry : Image) (m : Made) (rows : List Row) → IsMadeOf n entry image m p → IsSealed n image p.region p.header.range rows → AreRowsAs n entry m rows
  made_rows_at n is entry m rows =
      subst (λ k. IsMadeOf k entry image m p → IsSealed k image p.region p.header.range rows → AreRowsAs k entry m rows) (sym is) (made_rows entry m rows)

-- ---- some of the last parts, with what they are made of

-- what is made of one and of those behind it, one behind the other
abbrev run_made : Made → List (Made × Part) → Made
run_made m [] = m
run_made m (n ∷ rest) = beside m (run_made n.0 rest)

abbrev Of : Made × Part → List Source
Of m = sources m.0

run_sources : (m : Made × Part) (rest : List (Made × Part)) → sources (run_made m.0 rest) ≡ flat_map Of (m ∷ rest)
run_sources m [] = sym (append-nil (sources m.0))
run_sources m (n ∷ rest) = ap (λ xs. sources m.0 ++ xs) (run_sources n rest)

-- a list of parts with what they are made of, cut in front of one
record IsCut (made : List (Made × Part)) (before : List Part) (oldest : Part) (newer : List Part) : Type 0 where
  front : List (Made × Part)
  first : Made
  back : List (Made × Part)
  whole : made ≡ front ++ (first, oldest) ∷ back
  of_front : map (λ m. m.1) front ≡ before
  of_back : map (λ m. m.1) back ≡ newer

cut_at : (before : List Part) (oldest : Part) (newer : List Part) (made : List (Made × Part)) → map (λ m. m.1) made ≡ before ++ oldest ∷ newer → IsCut made before oldest newer
cut_at [] oldest newer [] is = absurd (not_empty oldest newer (sym is))
cut_at [] oldest newer (m ∷ made) is =
    let first : m.1 ≡ oldest = head_same m.1 oldest (map (λ m. m.1) made) newer is in
    record { front = []; first = m.0; back = made; whole = λ i. (m.0, first i) ∷ made; of_front = refl; of_back = tail_same m.1 oldest (map (λ m. m.1) made) newer is }
cut_at (p ∷ before) oldest newer [] is = absurd (not_empty p (before ++ oldest ∷ newer) (sym is))
cut_at (p ∷ before) oldest newer (m ∷ made) is =
    let c = cut_at before oldest newer made (tail_same m.1 p (map (λ m. m.1) made) (before ++ oldest ∷ newer) is) in
    let same : m.1 ≡ p = head_same m.1 p (map (λ m. m.1) made) (before ++ oldest ∷ newer) is in
    record { front = m ∷ c.front; first = c.first; back = c.back; whole = ap (λ xs. m ∷ xs) c.whole; of_front = λ i. same i ∷ c.of_front i; of_back = c.of_back }

-- ---- the parts behind

gathered_parts : (room : RoomState) (before : List Part) (oldest : Part) (newer : List Part) (p : Part) → (gathered_state room before oldest newer p).parts ≡ before ++ p ∷ []
unfolding gathered_state
gathered_parts room before oldest newer p = refl

module _ (old new : RoomValue) (was : IsWhole old) (whole : IsWhole new) (from : ℕ) (g : Gathers from old new) (read : KeepsBeside (take 1 old.room.free) old.disk new.disk) where
  opened : old.room.is_shut ≡ false
  opened = g.room.0

  abbrev p : Part
  p = gathered_part g.region g.oldest g.newer g.rows

  abbrev young : List Part
  young = g.oldest ∷ g.newer

  parts_now : new.room.parts ≡ g.before ++ p ∷ []
  parts_now = ap (λ (r : RoomState). r.parts) g.room.1.room ∙ gathered_parts old.room g.before g.oldest g.newer p

  len : old.room.region_len ≡ old.disk.region_len
  len = ap (λ (r : RoomState). r.region_len) was.of_disk

  module _ (first last : Image) (is_first : old.room.image ≡ Some first) (is_last : new.room.image ≡ Some last) where
    holds : HoldsGathered old.room.region_len g.region g.oldest g.newer g.rows first last
    holds = by old.room.image new.room.image g.holds is_first is_last
      where
        by : (x y : Option Image) → IfSome x (λ was. IfSome y (HoldsGathered old.room.region_len g.region g.oldest g.newer g.rows was)) → x ≡ Some first → y ≡ Some last → HoldsGathered old.room.region_len g.region g.oldest g.newer g.rows first last
        by (Some a) (Some b) h e f = subst (λ i. HoldsGathered old.room.region_len g.region g.oldest g.newer g.rows i last) (let x : a ≡ first = cc in x) (subst (λ i. HoldsGathered old.room.region_len g.region g.oldest g.newer g.rows a i) (let x : b ≡ last = cc in x) h)
        by None y h e f = absurd (let x = e in cc)
        by (Some a) None h e f = absurd (let x = f in cc)

    still : (q : Part) → Contains g.before q → Contains old.room.parts q
    still q there = subst (λ ps. Contains ps q) (sym g.are.split) (Contains-append_left g.before young q there)

    in_young : (q : Part) → Contains young q → Contains old.room.parts q
    in_young q there = subst (λ ps. Contains ps q) (sym g.are.split) (Contains-append_right g.before young q there)

    -- what the young parts were made of, one behind the other, has their rows
    run_rows : (entry : Image) (m : Made × Part) (rest : List (Made × Part)) (own : List Row) → ((q : Part) → Contains (map (λ m. m.1) (m ∷ rest)) q → Contains old.room.parts q)
        → AllByRecursion (λ m. IsMadeOf old.room.region_len entry first m.0 m.1) (m ∷ rest) → AreRowsOf old.room.region_len first (map (λ m. m.1) (m ∷ rest)) own → AreRowsAs old.room.region_len entry (run_made m.0 rest) own
    unfolding AreRowsOf
    run_rows entry m [] own there made are =
        subst (AreRowsAs old.room.region_len entry m.0) (sym (are.2 ∙ ap (λ xs. are.0 ++ xs) are.4 ∙ append-nil are.0))
        (made_rows_at old was first is_first (was.lost opened) m.1 (there m.1 (0, omega arith, refl)) old.room.region_len len entry m.0 are.0 made.0 are.3)
    run_rows entry m (n ∷ rest) own there made are =
        subst (AreRowsAs old.room.region_len entry (run_made m.0 (n ∷ rest))) (sym are.2)
        (beside_law old.room.region_len entry m.0 (run_made n.0 rest) are.0 are.1
        (made_rows_at old was first is_first (was.lost opened) m.1 (there m.1 (0, omega arith, refl)) old.room.region_len len entry m.0 are.0 made.0 are.3)
        (run_rows entry n rest are.1 (λ q here. there q (Contains-append_right (m.1 ∷ []) (map (λ m. m.1) (n ∷ rest)) q here)) made.1 are.4))

    header_now : HasHeader old.room.region_len last p.region p.header
    header_now = holds.has_header

    sealed_now : IsSealed old.room.region_len last p.region p.header.range g.rows
    sealed_now = holds.sealed

    unchanged_before : (q : Part) → Contains g.before q → IsUnchanged old.room.region_len first last q
    unchanged_before q there = unchanged old new was whole opened g.room.1.regions (take 1 old.room.free) (free_apart old was) read first last is_first is_last q (still q there)

    good : (entry : Image) (parts : List Part) → AreKeptOrGood old.room.region_len entry first parts (g.before ++ young) → AreKeptOrGood old.room.region_len entry last parts (g.before ++ p ∷ [])
    good entry parts all =
        seal_good old.room.region_len entry last parts g.before p (record { header = header_now; rows = g.rows; sealed = sealed_now })
        (all_good old.room.region_len entry first last parts g.before unchanged_before (front g.before all))
      where
        front : (ps : List Part) → AreKeptOrGood old.room.region_len entry first parts (ps ++ young) → AreKeptOrGood old.room.region_len entry first parts ps
        front [] all = tt
        front (q ∷ ps) all = (all.0, front ps all.1)

    makes : (entry : Image) (parts : List Part) (sealed : List (List Row)) → AreMadeOf old.room.region_len entry first parts sealed (g.before ++ young) → AreMadeOf old.room.region_len entry last parts sealed (g.before ++ p ∷ [])
    makes entry parts sealed am = record {
      made = c.front ++ own ∷ [];
      are = sym (map-append (λ (m : Made × Part). m.1) c.front (own ∷ []) ∙ ap (λ ps. ps ++ p ∷ []) c.of_front);
      of_all = flat_map-append Of c.front (own ∷ []) ∙ ap (λ xs. flat_map Of c.front ++ xs) (append-nil (sources own.0) ∙ run_sources (c.first, g.oldest) c.back)
          ∙ sym (flat_map-append Of c.front ((c.first, g.oldest) ∷ c.back)) ∙ sym (ap (flat_map Of) c.whole) ∙ am.of_all;
      each = both c.front (all_still old.room.region_len entry first last c.front (λ q there. unchanged_before q (subst (λ ps. Contains ps q) c.of_front there)) s.0);
    }
      where
        c : IsCut am.made g.before g.oldest g.newer
        c = cut_at g.before g.oldest g.newer am.made (sym am.are)

        own : Made × Part
        own = (run_made c.first c.back, p)

        split : (xs ys : List (Made × Part)) → AllByRecursion (λ m. IsMadeOf old.room.region_len entry first m.0 m.1) (xs ++ ys) → AllByRecursion (λ m. IsMadeOf old.room.region_len entry first m.0 m.1) xs × AllByRecursion (λ m. IsMadeOf old.room.region_len entry first m.0 m.1) ys
        split [] ys all = (tt, all)
        split (x ∷ xs) ys all = let r = split xs ys all.1 in ((all.0, r.0), r.1)

        s : AllByRecursion (λ m. IsMadeOf old.room.region_len entry first m.0 m.1) c.front × AllByRecursion (λ m. IsMadeOf old.room.region_len entry first m.0 m.1) ((c.first, g.oldest) ∷ c.back)
        s = split c.front ((c.first, g.oldest) ∷ c.back) (subst (AllByRecursion (λ m. IsMadeOf old.room.region_len entry first m.0 m.1)) c.whole am.each)

        names : map (λ (m : Made × Part). m.1) ((c.first, g.oldest) ∷ c.back) ≡ young
        names = ap (λ ps. g.oldest ∷ ps) c.of_back

        own_made : IsMadeOf old.room.region_len entry last own.0 p
        own_made =
            gathered_law old.room.region_len entry last own.0 p holds.gathered.own g.rows header_now sealed_now holds.gathered.same
            (run_rows entry (c.first, g.oldest) c.back holds.gathered.own (λ q there. in_young q (subst (λ ps. Contains ps q) names there)) s.1
            (subst (λ ps. AreRowsOf old.room.region_len first ps holds.gathered.own) (sym names) holds.gathered.are_rows))

        both : (xs : List (Made × Part)) → AllByRecursion (λ m. IsMadeOf old.room.region_len entry last m.0 m.1) xs → AllByRecursion (λ m. IsMadeOf old.room.region_len entry last m.0 m.1) (xs ++ own ∷ [])
        both [] all = (own_made, tt)
        both (x ∷ xs) all = (all.0, both xs all.1)

  pub gathered_lives : LivesOn [] old new
  gathered_lives = record {
    makes = λ entry first last parts sealed is_first is_last made.
        none_more old.room.region_len entry last parts sealed new.room.parts
        (subst (AreMadeOf old.room.region_len entry last parts sealed) (sym parts_now) (makes first last is_first is_last entry parts sealed (subst (AreMadeOf old.room.region_len entry first parts sealed) g.are.split made)));
    good = λ entry first last parts is_first is_last kept.
        subst (AreKeptOrGood old.room.region_len entry last parts) (sym parts_now) (good first last is_first is_last entry parts (subst (AreKeptOrGood old.room.region_len entry first parts) g.are.split kept));
  }

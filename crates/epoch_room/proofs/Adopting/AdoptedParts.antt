-- The part that rows become which a room takes in.
use Rattle.std.proofs.Common.{◌≡◌, ℕ, ◌+◌, ◌-◌, ◌<◌, ◌≤◌, ◌==◌, Bool, true, false, cond, not, List, [], ◌∷◌, ◌++◌, length, take, drop, Some, None, refl, sym, ap, subst, ◌∙◌, arith, length-append, length-take}
use Rattle.std.specs.Prelude.{if◌then◌else◌, IsTrue, filter, nat_eq, option_to_list, replicate}
use Rattle.std.specs.List.{AllByRecursion, list_any}
use Rattle.std.proofs.lemmas.List.{drop_at, length-replicate}
use Rattle.std.proofs.lemmas.Nat.{mul-le}
use Rattle.std.proofs.lemmas.List.Elements.{All-from_recursion}
use Rattle.fine_model.specs.declared.Mark.{Mark}
use Rattle.fine_model.specs.declared.Mark.TheVariants as mark
use Rattle.fine_model.specs.declared.Part.{Part}
use Rattle.fine_model.specs.declared.Range.{Range}
use Rattle.fine_model.specs.declared.Row.{Row}
use Rattle.fine_model.specs.Becomes.{IsStuck}
use Rattle.fine_model.specs.Boards.{set_of}
use Rattle.fine_model.specs.Chain.{regions_of}
use Rattle.fine_model.specs.Jobs.{job_left, job_regions}
use Rattle.fine_model.specs.Merge.{cost, fits_in, is_ordered, nodes_in, regions_for}
use Rattle.fine_model.specs.Regions.{body_len}
use Rattle.fine_model.specs.RowBytes.{FitsRow, greatest, rows_len}
use Rattle.fine_model.specs.Trees.{is_distinct}
use Rattle.fine_model.proofs.Ordered.Nothing.{each_there}
use Rattle.fine_model.proofs.Ordered.Order.{all_map}
use Rattle.fine_model.proofs.Chain.Owning.{mark_fits}
use Rattle.fine_model.proofs.Ordered.Times.{times, times-append, times-none}
use Rattle.log_disk.specs.Disk.{Disk, IsUnseen}
use Rattle.log_partition.specs.Written.{IsGood}
use Rattle.log_partition.proofs.Sealed.{nodes_few, nodes_some, rows_most}
use Rattle.partition_index.specs.Parts.{LiesIn}
use Rattle.partition_index.proofs.BodyPlaces.{laid}
use Rattle.epoch_room.specs.Adopting.{part_over}
use Rattle.epoch_room.specs.BodyWrites.{HasPlace}
use Rattle.epoch_room.specs.RowWrites.{AreCounted}
use Rattle.epoch_room.specs.Value.{Kept, all_regions, regions_outside, taken, value_of}
use Rattle.epoch_room.specs.Whole.{AreApart, HasRegions, IsWhole}
use Rattle.epoch_room.proofs.RegionSets.Beside.{regions_together}
use Rattle.epoch_room.proofs.Views.Boarding.{AreBeside, unseen}
use Rattle.epoch_room.proofs.Counting.{regions_of_header}
use Rattle.epoch_room.proofs.RegionSets.Freeing.{free_in_image}
use Rattle.epoch_room.proofs.Merges.JobRegions.{found_least, freed_outside, lowest_taken}
use Rattle.epoch_room.proofs.Erasures.LedParts.{fewer_apart, set_times}
use Rattle.epoch_room.proofs.Merges.MergedHeaders.{entries_good}
use Rattle.epoch_room.proofs.Merges.Picking.{counted_by, drop_zeros, own_regions}
use Rattle.epoch_room.proofs.RegionSets.Taken.{SameTimes, other_list}

-- a room that may take rows in, over so many regions
pub record CanAdopt (old entry : Disk) (kept : Kept) (range : Range) (rows : List Row) (k : ℕ) : Type 0 where
  pub whole : IsWhole (value_of old entry kept)
  pub open_room : kept.is_shut ≡ false
  pub no_job : kept.job ≡ None
  pub none : kept.places ≡ 0
  pub next : range.first ≡ kept.sealed + 1
  pub order : range.first ≤ range.last
  pub high : range.last ≤ greatest
  pub ordered : IsTrue (is_ordered rows)
  pub fit : AllByRecursion (FitsRow mark.Two) rows
  pub needed : regions_for old.region_len rows ≡ Some k
  pub enough : k < length kept.free

-- a part over the lowest of its free regions that counts these rows
pub record IsPartFor (old : Disk) (free : List ℕ) (range : Range) (rows : List Row) (k : ℕ) (p : Part) : Type 0 where
  pub regions_is : regions_of p ≡ take k free
  pub of_range : p.header.range ≡ range
  pub counted : AreCounted p.header rows
  pub fit : AllByRecursion (FitsRow p.header.mark) rows
  pub lies : LiesIn old.region_len p.header
  pub good : IsGood old.region_len old.regions p.region p.header

module _ (old entry : Disk) (kept : Kept) (range : Range) (rows : List Row) (k : ℕ) (c : CanAdopt old entry kept range rows k) where
  pub none_waits : kept.epoch.waiting ≡ 0
  none_waits = let w = c.whole.epoch.entries in let n = c.none in omega (arith, w, n)

  pub none_open : (kept.target ≡ None) × (kept.epoch.rows ≡ []) × (kept.epoch.used ≡ 0)
  none_open = c.whole.epoch.none none_waits

  pub none_lost : kept.lost ≡ []
  none_lost = c.whole.lost c.open_room

  pub least : (1 ≤ k) × (k < 1 + 8) × (fits_in old.region_len k (cost rows) ≡ true) × ((i : ℕ) → 1 ≤ i → i < k → fits_in old.region_len i (cost rows) ≡ false)
  unfolding regions_for
  least = found_least (λ n. fits_in old.region_len n (cost rows)) 1 8 k c.needed

  abbrev all_taken : List ℕ
  all_taken = taken (value_of old entry kept).room kept.target

  abbrev held : List ℕ
  held = all_regions (kept.parts ++ kept.retired)

  pub lowest : AreApart old.regions (take k kept.free ++ taken (value_of old entry kept).room kept.target) × (drop k kept.free ≡ regions_outside old.regions (take k kept.free ++ taken (value_of old entry kept).room kept.target))
  lowest = lowest_taken old.regions k kept.free all_taken (let e = c.enough in omega (arith, e)) c.whole.apart c.whole.free

  pub own_apart : AreApart old.regions (take k kept.free)
  own_apart = fewer_apart old.regions (take k kept.free ++ all_taken) (take k kept.free) (λ n. let a = times-append n (take k kept.free) all_taken in omega (arith, a)) lowest.0

  with_held : AreApart old.regions (take k kept.free ++ held)
  with_held =
      fewer_apart old.regions (take k kept.free ++ all_taken) (take k kept.free ++ held)
      (λ n.
      let a = times-append n (take k kept.free) all_taken in
      let b = times-append n (take k kept.free) held in
      let d = times-append n (option_to_list kept.target) (job_left (value_of old entry kept).room ++ (kept.lost ++ held)) in
      let e = times-append n (job_left (value_of old entry kept).room) (kept.lost ++ held) in
      let f = times-append n kept.lost held in
      omega (arith, a, b, d, e, f)) lowest.0

  pub own_beside : AreBeside (take k kept.free) (kept.parts ++ kept.retired)
  own_beside r there = other_list old.regions (take k kept.free) held r with_held there

  pub own_small : AllByRecursion (λ r. r < 64) (take k kept.free)
  own_small = all_map (λ r. r < old.regions) (λ r. r < 64) (λ r h. let m = c.whole.geometry.regions_high in omega (arith, h, m)) (take k kept.free) own_apart.below

  -- the regions are free again after want of memory
  pub back : set_of (drop k kept.free ++ take k kept.free) ≡ kept.free
  back =
      freed_outside old.regions c.whole.geometry.regions_high (take k kept.free ++ all_taken) (take k kept.free) all_taken (λ n. refl) lowest.0 (drop k kept.free) lowest.1 ∙ sym c.whole.free

  -- such a room can take something
  pub not_stuck : IsStuck (value_of old entry kept).room → ⊥
  not_stuck s =
      let f = free_in_image (value_of old entry kept) c.whole none_lost s.image s.told in
      let few = s.few_free in
      let e = c.enough in
      let l = least.0 in
      omega (arith, f, few, e, l)

  -- ---- the part itself

  behind_long : length (take (k - 1) (drop 1 kept.free)) ≡ k - 1
  behind_long = let e = c.enough in omega (arith, length-take (k - 1) (drop 1 kept.free), drop_one kept.free, e)
    where
      drop_one : (xs : List ℕ) → length (drop 1 xs) ≡ length xs - 1
      drop_one [] = refl
      drop_one (x ∷ xs) = omega arith

  rows_fit : AllByRecursion (FitsRow (if k == 1 then mark.Two else mark.Three)) rows
  rows_fit = by (k == 1)
    where
      by : (b : Bool) → AllByRecursion (FitsRow (cond b mark.Two mark.Three)) rows
      by true = c.fit
      by false = all_map (FitsRow mark.Two) (FitsRow mark.Three) (λ row fits. (mark_fits mark.Two row fits).1) rows c.fit

  none_or_some : (rs : List Row) → (length (nodes_in rs) ≡ 0 → length rs ≡ 0) × (rows_len rs ≡ 0 → length rs ≡ 0) × (length rs ≡ 0 → rows_len rs ≡ 0)
  none_or_some [] = (λ e. refl, λ e. refl, λ e. refl)
  none_or_some (r ∷ rs) = (λ e. absurd (omega (arith, e, nodes_some r rs)), λ e. absurd (omega (arith, e, rows_most (r ∷ rs))), λ e. absurd (omega (arith, e)))

  pub part_lies : LiesIn old.region_len (part_over k kept.free range rows).header
  unfolding part_over
  part_lies = record {
    large = let l = c.whole.geometry.len_low in omega (arith, l);
    small = c.whole.geometry.len_high;
    listed = let l = least.1 in omega (arith, length-append (take (k - 1) (drop 1 kept.free)) (replicate (7 - (k - 1)) 0), behind_long, length-replicate {A = ℕ} (7 - (k - 1)) 0, l);
    counted = counted_by k least.0 least.1;
    lies = least.2;
  }

  own_is : regions_of (part_over k kept.free range rows) ≡ take k kept.free
  unfolding part_over
  own_is = own_regions k kept.free least.0 (let e = c.enough in omega (arith, e))

  body_bounded : body_len (part_over k kept.free range rows).header ≤ 536870912
  body_bounded =
      let r = laid old.region_len (part_over k kept.free range rows).header part_lies in
      let small = part_lies.small in
      let most = mul-le ((part_over k kept.free range rows).header.regions - 1) (old.region_len - 1) 7 67108864 (omega (arith, r.few)) (omega (arith, small)) in
      omega (arith, r.room, most, small)

  pub cost_small : cost rows ≤ 536870912
  unfolding part_over
  cost_small = body_bounded

  zeros_behind : AllByRecursion (λ (r : ℕ). r ≡ 0) (drop (k - 1) (take (k - 1) (drop 1 kept.free) ++ replicate (7 - (k - 1)) 0))
  zeros_behind = subst (AllByRecursion (λ (r : ℕ). r ≡ 0)) (sym (drop_at (take (k - 1) (drop 1 kept.free)) (replicate (7 - (k - 1)) 0) (k - 1) behind_long)) (drop_zeros (7 - (k - 1)))

  several : ◌≡◌ {A = Mark} (if k == 1 then mark.Two else mark.Three) mark.Three → 2 ≤ k
  several e = by (k == 1) refl e
    where
      many : (n : ℕ) → (n == 1) ≡ false → 1 ≤ n → 2 ≤ n
      many n h low = grind (arith, h, low)

      by : (b : Bool) → (k == 1) ≡ b → ◌≡◌ {A = Mark} (cond b mark.Two mark.Three) mark.Three → 2 ≤ k
      by true h is = absurd (cc)
      by false h is = many k h least.0

  once : is_distinct (regions_of (part_over k kept.free range rows)) ≡ true
  once = subst (λ rs. is_distinct rs ≡ true) (sym own_is) own_apart.distinct

  there : AllByRecursion (λ r. r < old.regions) (regions_of (part_over k kept.free range rows))
  there = subst (AllByRecursion (λ r. r < old.regions)) (sym own_is) own_apart.below

  good : IsGood old.region_len old.regions (part_over k kept.free range rows).region (part_over k kept.free range rows).header
  unfolding part_over
  good = record {
    few = c.whole.geometry.regions_high;
    range = (let n = c.next in omega (arith, n), c.order, c.high);
    counted = (
      let s = cost_small in omega (arith, rows_most rows, s),
      nodes_few rows,
      ((none_or_some rows).0, λ e. omega (arith, e, nodes_few rows)),
      ((none_or_some rows).1, (none_or_some rows).2),
    );
    lies = part_lies;
    least = λ m. let two = several m in least.3 (k - 1) (omega (arith, two)) (omega (arith, two));
    entries = entries_good old.regions (part_over k kept.free range rows).region (part_over k kept.free range rows).header (regions_of_header old.region_len (part_over k kept.free range rows) part_lies) once there zeros_behind;
  }

  pub part_for : IsPartFor old kept.free range rows k (part_over k kept.free range rows)
  unfolding part_over
  part_for = record {
    regions_is = own_is;
    of_range = refl;
    counted = record { ordered = c.ordered; fit = c.fit; rows = refl; nodes = refl; area = refl };
    fit = rows_fit;
    lies = part_lies;
    good = good;
  }

  pub part_made : (p : Part) → p ≡ part_over k kept.free range rows → IsPartFor old kept.free range rows k p
  part_made p is = subst (IsPartFor old kept.free range rows k) (sym is) part_for

  -- ---- any such part

  module _ (p : Part) (o : IsPartFor old kept.free range rows k p) where
    pub part_beside : AreBeside (regions_of p) (kept.parts ++ kept.retired)
    part_beside r there = own_beside r (ap (list_any (nat_eq r)) (sym o.regions_is) ∙ there)

    pub part_below : AllByRecursion (λ r. r < old.regions) (regions_of p)
    part_below = subst (AllByRecursion (λ r. r < old.regions)) (sym o.regions_is) own_apart.below

    pub part_small : AllByRecursion (λ r. r < 64) (regions_of p)
    part_small = subst (AllByRecursion (λ r. r < 64)) (sym o.regions_is) own_small

    pub part_distinct : is_distinct (regions_of p) ≡ true
    part_distinct = subst (λ rs. is_distinct rs ≡ true) (sym o.regions_is) own_apart.distinct

    pub part_has : HasRegions p
    part_has = regions_of_header old.region_len p o.lies

    pub part_place : HasPlace old p
    part_place = record {
      sound = c.whole.sound;
      lies = o.lies;
      apart = part_distinct;
      there = part_below;
      unseen = All-from_recursion (IsUnseen old) (regions_of p)
          (all_map (λ r. list_any (nat_eq r) (regions_of p) ≡ true) (IsUnseen old) (λ r there. unseen old (kept.parts ++ kept.retired) r c.whole.board.of_parts (part_beside r there)) (regions_of p) (each_there (regions_of p)));
    }

    pub adopted_times : (new now : Disk) → SameTimes (take k kept.free ++ taken (value_of old entry kept).room kept.target) (taken (value_of new now (record kept { parts = kept.parts ++ p ∷ []; free = drop k kept.free; sealed = range.last })).room kept.target)
    adopted_times new now n =
        let t : List ℕ = option_to_list kept.target in
        let j : List ℕ = job_left (value_of old entry kept).room in
        let a = times-append n (take k kept.free) all_taken in
        let b = times-append n t (j ++ (kept.lost ++ held)) in
        let d = times-append n j (kept.lost ++ held) in
        let e = times-append n kept.lost held in
        let f = ap (times n) (regions_together kept.parts kept.retired) ∙ times-append n (all_regions kept.parts) (all_regions kept.retired) in
        let g = times-append n t (j ++ (kept.lost ++ all_regions ((kept.parts ++ p ∷ []) ++ kept.retired))) in
        let h = times-append n j (kept.lost ++ all_regions ((kept.parts ++ p ∷ []) ++ kept.retired)) in
        let l = times-append n kept.lost (all_regions ((kept.parts ++ p ∷ []) ++ kept.retired)) in
        let m = ap (times n) (regions_together (kept.parts ++ p ∷ []) kept.retired) ∙ times-append n (all_regions (kept.parts ++ p ∷ [])) (all_regions kept.retired) in
        let q = ap (times n) (regions_together kept.parts (p ∷ [])) ∙ times-append n (all_regions kept.parts) (all_regions (p ∷ [])) in
        let r : times n (all_regions (p ∷ [])) ≡ times n (regions_of p) + times n [] = times-append n (regions_of p) [] in
        let s = ap (times n) o.regions_is in
        let z = times-none n in
        omega (arith, a, b, d, e, f, g, h, l, m, q, r, s, z)

    -- its regions are lost
    pub shut_times : (new : Disk) → SameTimes (take k kept.free ++ taken (value_of old entry kept).room kept.target) (taken (value_of new entry (record kept { free = drop k kept.free; lost = set_of (take k kept.free); is_shut = true })).room kept.target)
    shut_times new n =
        let t : List ℕ = option_to_list kept.target in
        let none : List ℕ = set_of (take k kept.free) in
        let left' : List ℕ = job_left (value_of new entry (record kept { free = drop k kept.free; lost = set_of (take k kept.free); is_shut = true })).room in
        let j : times n (job_left (value_of old entry kept).room) ≡ times n [] = ap (λ job. times n (filter (λ r. not (list_any (nat_eq r) kept.lost)) (job_regions job))) c.no_job in
        let j' : times n left' ≡ times n [] = ap (λ job. times n (filter (λ r. not (list_any (nat_eq r) none)) (job_regions job))) c.no_job in
        let a = times-append n (take k kept.free) all_taken in
        let b = times-append n t (job_left (value_of old entry kept).room ++ (kept.lost ++ held)) in
        let d = times-append n (job_left (value_of old entry kept).room) (kept.lost ++ held) in
        let e = ap (λ lost. times n (lost ++ held)) none_lost in
        let b' = times-append n t (left' ++ (none ++ held)) in
        let d' = times-append n left' (none ++ held) in
        let e' = times-append n none held in
        let s = set_times old.regions (take k kept.free) c.whole.geometry.regions_high own_apart n in
        omega (arith, j, j', a, b, d, e, b', d', e', s)

  -- the part may be added to a set
  pub part_added : (p : Part) → p ≡ part_over k kept.free range rows → HasRegions p × AllByRecursion (λ r. r < 64) (regions_of p)
  part_added p is = let own = part_made p is in (part_has p own, part_small p own)

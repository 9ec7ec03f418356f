-- A merge that is picked, that takes its regions, and that is given up.
use Rattle.std.proofs.Common.{◌≡◌, ℕ, zero, suc, ◌+◌, ◌-◌, ◌^◌, ◌<◌, ◌≤◌, ◌==◌, Bool, true, false, cond, not, List, [], ◌∷◌, ◌++◌, length, take, drop, Some, None, refl, sym, ap, subst, ◌∙◌, arith, length-append, length-take}
use Rattle.std.specs.Prelude.{Option, IfSome, IsTrue, filter, nat_eq, nat_le, option_map, option_to_list, replicate, slice_get, slice_index, unwrap_or}
use Rattle.std.specs.List.{AllByRecursion, list_any}
use Rattle.std.proofs.lemmas.Bool.{or_parts}
use Rattle.std.proofs.lemmas.List.{length-replicate, drop-replicate, take_at, drop_at}
use Rattle.std.proofs.lemmas.List.Folds.{list_any-append}
use Rattle.fine_model.specs.declared.Header.{Header}
use Rattle.fine_model.specs.declared.Job.{Job}
use Rattle.fine_model.specs.declared.Mark.{Mark}
use Rattle.fine_model.specs.declared.Mark.TheVariants as mark
use Rattle.fine_model.specs.declared.Part.{Part}
use Rattle.fine_model.specs.ChainLaws.{part_of}
use Rattle.fine_model.specs.Jobs.{job_left, job_regions, taken_by}
use Rattle.fine_model.specs.Boards.{set_of}
use Rattle.fine_model.specs.Merge.{fits_in}
use Rattle.fine_model.proofs.Ordered.Lists.{all_take}
use Rattle.fine_model.proofs.Ordered.Order.{all_map, filter_all}
use Rattle.fine_model.proofs.Ordered.Times.{times, times-append}
use Rattle.fine_model.proofs.Ordered.Zip.{all_left, all_right}
use Rattle.partition_index.specs.Parts.{is_counted}
use Rattle.partition_merge.specs.Mergers.{IsCounted}
use Rattle.partition_merge.specs.declared.merger.Measure.{Measure}
use Rattle.epoch_room.specs.MergeSteps.{free_dropped, fresh_job, header_over, if_enough, measured_len, neighbours_from, picked, regions_for_job, regions_needed, taken_job, with_job, with_next}
use Rattle.epoch_room.specs.Meaning.{Keeps}
use Rattle.epoch_room.specs.Value.{RoomValue, all_regions, regions_outside, taken}
use Rattle.epoch_room.specs.Whole.{AreApart, IsJob, IsTaken, IsWhole}
use Rattle.epoch_room.proofs.Counting.{regions_of_header}
use Rattle.epoch_room.proofs.Merges.JobRegions.{below_both, found_least, freed_outside, lowest_taken, outside_all, outside_set, rest_apart}
use Rattle.epoch_room.proofs.Spare.{spare_keeps, spare_whole}
use Rattle.epoch_room.proofs.RegionSets.Taken.{SameTimes, same_apart, same_outside}

-- ---- picking

-- two neighbours of a chain, and the parts before and behind them
pub record StandsIn (parts : List Part) (two : Part × Part) : Type 0 where
  pub before : List Part
  pub after : List Part
  pub neighbours : parts ≡ before ++ two.0 ∷ two.1 ∷ after

found_two : (from : ℕ) (parts : List Part) (two : Part × Part) → neighbours_from from parts ≡ Some two → StandsIn parts two
unfolding neighbours_from
found_two from [] two is = absurd (let e : ◌≡◌ {A = Option (Part × Part)} None (Some two) = is in cc)
found_two from (p ∷ parts) two is = by (nat_le from p.header.range.first) refl is (found_two from parts two)
  where
    next : (parts : List Part) → with_next p parts ≡ Some two → StandsIn (p ∷ parts) two
    next [] e = absurd (let q : ◌≡◌ {A = Option (Part × Part)} None (Some two) = e in cc)
    next (q ∷ parts) e = let same : (p, q) ≡ two = cc in record { before = []; after = parts; neighbours = λ i. (same i).0 ∷ (same i).1 ∷ parts }

    by : (b : Bool) → nat_le from p.header.range.first ≡ b → cond b (with_next p parts) (neighbours_from from parts) ≡ Some two → (neighbours_from from parts ≡ Some two → StandsIn parts two) → StandsIn (p ∷ parts) two
    by true e is rest = next parts is
    by false e is rest = let more = rest is in record { before = p ∷ more.before; after = more.after; neighbours = ap (λ ps. p ∷ ps) more.neighbours }

-- what was picked has taken no region
pub picked_untaken : (shut : Bool) (from : ℕ) (parts : List Part) → IfSome (cond shut None (option_map fresh_job (neighbours_from from parts))) (λ job. job.header ≡ None)
picked_untaken true from parts = tt
picked_untaken false from parts = by (neighbours_from from parts)
  where
    by : (two : Option (Part × Part)) → IfSome (option_map fresh_job two) (λ job. job.header ≡ None)
    by None = tt
    by (Some two) = refl

module _ (value : RoomValue) (whole : IsWhole value) (from : ℕ) (no_job : value.room.job ≡ None) where
  none_left : job_left value.room ≡ []
  none_left = ap (λ j. filter (λ r. not (list_any (nat_eq r) value.room.lost)) (job_regions j)) no_job

  fresh_left : (job : Option (Part × Part)) → job_left (with_job value (option_map fresh_job job) value.room.free).room ≡ []
  fresh_left None = refl
  fresh_left (Some two) = refl

  picked_left : job_left (with_job value (picked value.room from) value.room.free).room ≡ []
  picked_left = by value.room.is_shut
    where
      by : (b : Bool) → job_left (with_job value (cond b None (option_map fresh_job (neighbours_from from value.room.parts))) value.room.free).room ≡ []
      by true = refl
      by false = fresh_left (neighbours_from from value.room.parts)

  is_job : IfSome (picked value.room from) (IsJob (with_job value (picked value.room from) value.room.free).room)
  is_job = by value.room.is_shut
    where
      at : (two : Option (Part × Part)) → neighbours_from from value.room.parts ≡ two → (job : Option Job) → IfSome (option_map fresh_job two) (IsJob (with_job value job value.room.free).room)
      at None e job = tt
      at (Some two) e job =
          let found = found_two from value.room.parts two e in
          record { before = found.before; after = found.after; neighbours = found.neighbours; untaken = λ h. (refl, refl); is_taken = λ header h. absurd (let q : ◌≡◌ {A = Option Header} None (Some header) = h in cc) }

      by : (b : Bool) → IfSome (cond b None (option_map fresh_job (neighbours_from from value.room.parts))) (IsJob (with_job value (picked value.room from) value.room.free).room)
      by true = tt
      by false = at (neighbours_from from value.room.parts) refl (picked value.room from)

  same_taken : taken value.room value.target ≡ taken (with_job value (picked value.room from) value.room.free).room value.target
  same_taken = ap (λ left. option_to_list value.target ++ (left ++ (value.room.lost ++ all_regions (value.room.parts ++ value.room.retired)))) (none_left ∙ sym picked_left)

  pub picked_whole : IsWhole (with_job value (picked value.room from) value.room.free)
  picked_whole = spare_whole value whole (picked value.room from) value.room.free (subst (AreApart value.disk.regions) same_taken whole.apart) (whole.free ∙ ap (regions_outside value.disk.regions) same_taken) is_job

  pub picked_keeps : Keeps value (with_job value (picked value.room from) value.room.free)
  picked_keeps = spare_keeps value whole (picked value.room from) value.room.free

-- ---- taking regions

enough_is : (most : ℕ) (needed : Option ℕ) (k : ℕ) → if_enough most needed ≡ Some k → (needed ≡ Some k) × (k ≤ most)
enough_is most None k is = absurd (let e : ◌≡◌ {A = Option ℕ} None (Some k) = is in cc)
enough_is most (Some n) k is = by (nat_le n most) refl is
  where
    below : nat_le n most ≡ true → n ≡ k → k ≤ most
    below e same = grind (arith, e, same)

    by : (b : Bool) → nat_le n most ≡ b → cond b (Some n) None ≡ Some k → (◌≡◌ {A = Option ℕ} (Some n) (Some k)) × (k ≤ most)
    by true e is = let same : n ≡ k = cc in (is, below e same)
    by false e is = absurd (let q : ◌≡◌ {A = Option ℕ} None (Some k) = is in cc)

-- rows that take regions are in order
ordered_is : (ordered : Bool) (most : ℕ) (needed : Option ℕ) (k : ℕ) → cond ordered (if_enough most needed) None ≡ Some k → if_enough most needed ≡ Some k
ordered_is true most needed k is = is
ordered_is false most needed k is = absurd (let e : ◌≡◌ {A = Option ℕ} None (Some k) = is in cc)

pub own_regions : (k : ℕ) (free : List ℕ) → 1 ≤ k → k ≤ length free → slice_index free 0 ∷ take (k - 1) (take (k - 1) (drop 1 free) ++ replicate (7 - (k - 1)) 0) ≡ take k free
own_regions zero free low enough = absurd (omega (arith, low))
own_regions (suc m) [] low enough = absurd (omega (arith, enough))
own_regions (suc m) (x ∷ xs) low enough =
    let e : suc m - 1 ≡ m = omega arith in
    ap (λ n. x ∷ take n (take n xs ++ replicate (7 - n) 0)) e
    ∙ ap (λ ys. x ∷ ys) (take_at (take m xs) (replicate (7 - m) 0) m (omega (arith, enough, length-take m xs)))

pub drop_zeros : (n : ℕ) → AllByRecursion (λ (r : ℕ). r ≡ 0) (replicate n 0)
drop_zeros zero = tt
drop_zeros (suc n) = (refl, drop_zeros n)

pub counted_by : (k : ℕ) → 1 ≤ k → k < 9 → IsTrue (is_counted (cond (k == 1) mark.Two mark.Three) k)
counted_by k low high = by (k == 1) refl
  where
    many : (k == 1) ≡ false → 2 ≤ k
    many e = grind (arith, e, low)

    by : (b : Bool) → (k == 1) ≡ b → IsTrue (is_counted (cond b mark.Two mark.Three) k)
    by true e = e
    by false e = let m = many e in grind (arith, m, high)

-- what the fields of a job say that has taken its regions
pub header_made : (job : Job) (measure : Measure) (k n : ℕ) (free behind out : List ℕ) (m : Mark) (target : ℕ) (lowest : Option ℕ) → k ≤ 8 → k ≤ length free → 1 ≤ k → m ≡ cond (k == 1) mark.Two mark.Three → n ≡ k - 1
    → lowest ≡ slice_get free 0 → target ≡ unwrap_or lowest 0 → behind ≡ drop 1 free → out ≡ take (length {A = ℕ} (take n (0 ∷ 0 ∷ 0 ∷ 0 ∷ 0 ∷ 0 ∷ 0 ∷ []))) behind
    → record job {
      header = Some (record {
        mark = m;
        range = record { first = job.older.header.range.first; last = job.newer.header.range.last };
        rows = measure.rows;
        nodes = measure.nodes;
        area = measure.area;
        regions = k;
        more = out ++ drop n (0 ∷ 0 ∷ 0 ∷ 0 ∷ 0 ∷ 0 ∷ 0 ∷ []);
      });
      target = target;
    }
    ≡ taken_job job measure k free
unfolding header_over
header_made job measure k n free behind out m target lowest most enough some is_mark is_n is_lowest is_target is_behind is_out =
    λ i. record job {
      header = Some (record {
        mark = is_mark i;
        range = record { first = job.older.header.range.first; last = job.newer.header.range.last };
        rows = measure.rows;
        nodes = measure.nodes;
        area = measure.area;
        regions = k;
        more = more i;
      });
      target = first i;
    }
  where
    few : length {A = ℕ} (take n (0 ∷ 0 ∷ 0 ∷ 0 ∷ 0 ∷ 0 ∷ 0 ∷ [])) ≡ k - 1
    few = omega (arith, length-take {A = ℕ} n (0 ∷ 0 ∷ 0 ∷ 0 ∷ 0 ∷ 0 ∷ 0 ∷ []), is_n, most)

    zeros : ◌≡◌ {A = List ℕ} (drop n (replicate 7 0)) (replicate (7 - n) 0)
    zeros = drop-replicate n 7 0

    more : out ++ drop n (0 ∷ 0 ∷ 0 ∷ 0 ∷ 0 ∷ 0 ∷ 0 ∷ []) ≡ take (k - 1) (drop 1 free) ++ replicate (7 - (k - 1)) 0
    more = ap (λ xs. xs ++ drop n (replicate 7 0)) (is_out ∙ ap (λ b. take b behind) few ∙ ap (take (k - 1)) is_behind) ∙ ap (λ xs. take (k - 1) (drop 1 free) ++ xs) (zeros ∙ ap (λ b. replicate (7 - b) 0) is_n)

    head : (xs : List ℕ) → 1 ≤ length xs → unwrap_or (slice_get xs 0) 0 ≡ slice_index xs 0
    head [] h = absurd (omega (arith, h))
    head (x ∷ xs) h = refl

    first : target ≡ slice_index free 0
    first = is_target ∙ ap (λ (o : Option ℕ). unwrap_or o 0) is_lowest ∙ head free (omega (arith, enough, some))

module _ (value : RoomValue) (whole : IsWhole value) (job : Job) (measure : Measure) (out : value.room.job ≡ Some job) (untaken : job.header ≡ None) (counted : IsCounted measure) (few : measure.rows < 2 ^ 32)
    (k : ℕ) (found : regions_for_job value.room measure ≡ Some k) where
  enough : (regions_needed value.room.region_len (measured_len measure) ≡ Some k) × (k ≤ length value.room.free)
  enough =
      enough_is (length value.room.free) (regions_needed value.room.region_len (measured_len measure)) k
      (ordered_is measure.ordered (length value.room.free) (regions_needed value.room.region_len (measured_len measure)) k found)

  least : (1 ≤ k) × (k < 1 + 8) × (fits_in value.room.region_len k (measured_len measure) ≡ true) × ((i : ℕ) → 1 ≤ i → i < k → fits_in value.room.region_len i (measured_len measure) ≡ false)
  least = found_least (λ n. fits_in value.room.region_len n (measured_len measure)) 1 8 k enough.0

  abbrev header : Header
  header = header_over job measure k value.room.free

  abbrev after : RoomValue
  after = with_job value (Some (taken_job job measure k value.room.free)) (drop k value.room.free)

  own : taken_by (slice_index value.room.free 0) (Some (header_over job measure k value.room.free)) ≡ take k value.room.free
  unfolding header_over
  own = own_regions k value.room.free least.0 enough.1

  untaken_left : job_left value.room ≡ []
  untaken_left = ap (λ j. filter (λ r. not (list_any (nat_eq r) value.room.lost)) (job_regions j)) out ∙ ap (λ h. filter (λ r. not (list_any (nat_eq r) value.room.lost)) (taken_by job.target h)) untaken

  not_lost : (r : ℕ) → list_any (nat_eq r) (taken value.room value.target) ≡ false → not (list_any (nat_eq r) value.room.lost) ≡ true
  not_lost r h =
      let a = or_parts (list_any (nat_eq r) (option_to_list value.target)) _ (sym (list_any-append (nat_eq r) (option_to_list value.target) (job_left value.room ++ (value.room.lost ++ all_regions (value.room.parts ++ value.room.retired)))) ∙ h) in
      let b = or_parts (list_any (nat_eq r) (job_left value.room)) _ (sym (list_any-append (nat_eq r) (job_left value.room) (value.room.lost ++ all_regions (value.room.parts ++ value.room.retired))) ∙ a.1) in
      ap not (or_parts (list_any (nat_eq r) value.room.lost) _ (sym (list_any-append (nat_eq r) value.room.lost (all_regions (value.room.parts ++ value.room.retired))) ∙ b.1)).0

  taken_left : job_left (with_job value (Some (taken_job job measure k value.room.free)) (drop k value.room.free)).room ≡ take k value.room.free
  taken_left =
      ap (filter (λ r. not (list_any (nat_eq r) value.room.lost))) own
      ∙ filter_all (λ r. not (list_any (nat_eq r) value.room.lost)) (take k value.room.free)
      (all_take (λ r. not (list_any (nat_eq r) value.room.lost) ≡ true) k value.room.free
      (all_map (λ r. list_any (nat_eq r) (taken value.room value.target) ≡ false) (λ r. not (list_any (nat_eq r) value.room.lost) ≡ true) not_lost value.room.free
      (subst (AllByRecursion (λ r. list_any (nat_eq r) (taken value.room value.target) ≡ false)) (sym whole.free) (outside_all value.disk.regions (taken value.room value.target)))))

  moved : SameTimes (take k value.room.free ++ taken value.room value.target) (taken (with_job value (Some (taken_job job measure k value.room.free)) (drop k value.room.free)).room value.target)
  moved n =
      let held : List ℕ = value.room.lost ++ all_regions (value.room.parts ++ value.room.retired) in
      let a = times-append n (take k value.room.free) (taken value.room value.target) in
      let b = times-append n (option_to_list value.target) (job_left value.room ++ held) in
      let c = ap (λ left. times n (left ++ held)) untaken_left in
      let d = times-append n (option_to_list value.target) (job_left (with_job value (Some (taken_job job measure k value.room.free)) (drop k value.room.free)).room ++ held) in
      let e = ap (λ left. times n (left ++ held)) taken_left in
      let f = times-append n (take k value.room.free) held in
      omega (arith, a, b, c, d, e, f)

  lowest : AreApart value.disk.regions (take k value.room.free ++ taken value.room value.target) × (drop k value.room.free ≡ regions_outside value.disk.regions (take k value.room.free ++ taken value.room value.target))
  lowest = lowest_taken value.disk.regions k value.room.free (taken value.room value.target) enough.1 whole.apart whole.free

  same_len : value.room.region_len ≡ value.disk.region_len
  same_len = ap (λ r. r.region_len) whole.of_disk

  behind_long : length (take (k - 1) (drop 1 value.room.free)) ≡ k - 1
  behind_long = omega (arith, length-take (k - 1) (drop 1 value.room.free), drop_one value.room.free, enough.1)
    where
      drop_one : (xs : List ℕ) → length (drop 1 xs) ≡ length xs - 1
      drop_one [] = refl
      drop_one (x ∷ xs) = omega arith

  is_taken : IsTaken value.room.region_len (taken_job job measure k value.room.free) (header_over job measure k value.room.free)
  unfolding header_over
  is_taken = record {
    range = refl;
    of_mark = refl;
    lies = record {
      large = omega (arith, same_len, whole.geometry.len_low);
      small = omega (arith, same_len, whole.geometry.len_high);
      listed = omega (arith, length-append (take (k - 1) (drop 1 value.room.free)) (replicate (7 - (k - 1)) 0), behind_long, length-replicate {A = ℕ} (7 - (k - 1)) 0, least.1);
      counted = counted_by k least.0 least.1;
      lies = least.2;
    };
    least = λ some. least.3 (k - 1) (omega (arith, some)) (omega (arith, some));
    counted = (few, counted.few, counted.nodes, counted.area);
    behind = subst (AllByRecursion (λ (r : ℕ). r ≡ 0)) (sym (drop_at (take (k - 1) (drop 1 value.room.free)) (replicate (7 - (k - 1)) 0) (k - 1) behind_long)) (drop_zeros (7 - (k - 1)));
    within = let w = untaken_is.1 in omega (arith, w);
  }
    where
      untaken_is : (job.target ≡ 0) × (job.written ≡ 0)
      untaken_is = (subst (λ j. IfSome j (IsJob value.room)) out whole.job).untaken untaken

  pub taken_whole : IsWhole (with_job value (Some (taken_job job measure k value.room.free)) (drop k value.room.free))
  taken_whole =
      let was : IsJob value.room job = subst (λ j. IfSome j (IsJob value.room)) out whole.job in
      spare_whole value whole (Some (taken_job job measure k value.room.free)) (drop k value.room.free)
      (same_apart value.disk.regions _ _ moved lowest.0)
      (lowest.1 ∙ same_outside value.disk.regions _ _ moved)
      (record {
        before = was.before;
        after = was.after;
        neighbours = was.neighbours;
        untaken = λ h. absurd (let q : ◌≡◌ {A = Option Header} (Some (header_over job measure k value.room.free)) None = h in cc);
        is_taken = λ h e. let q : ◌≡◌ {A = Option Header} (Some (header_over job measure k value.room.free)) (Some h) = e in let same : header_over job measure k value.room.free ≡ h = cc in
            subst (IsTaken value.room.region_len (taken_job job measure k value.room.free)) same is_taken;
      })

-- ---- giving a job up

module _ (value : RoomValue) (whole : IsWhole value) where
  given : SameTimes (taken value.room value.target) (job_left value.room ++ (option_to_list value.target ++ (value.room.lost ++ all_regions (value.room.parts ++ value.room.retired))))
  given n =
      let held : List ℕ = value.room.lost ++ all_regions (value.room.parts ++ value.room.retired) in
      let a = times-append n (option_to_list value.target) (job_left value.room ++ held) in
      let b = times-append n (job_left value.room) held in
      let c = times-append n (job_left value.room) (option_to_list value.target ++ held) in
      let d = times-append n (option_to_list value.target) held in
      omega (arith, a, b, c, d)

  pub dropped_whole : IsWhole (with_job value None (free_dropped value.room))
  dropped_whole =
      spare_whole value whole None (free_dropped value.room)
      (rest_apart value.disk.regions whole.geometry.regions_high (taken value.room value.target) (job_left value.room) _ given whole.apart)
      (freed_outside value.disk.regions whole.geometry.regions_high (taken value.room value.target) (job_left value.room) _ given whole.apart value.room.free whole.free)
      tt

  pub dropped_keeps : Keeps value (with_job value None (free_dropped value.room))
  dropped_keeps = spare_keeps value whole None (free_dropped value.room)

  pub free_set : set_of value.room.free ≡ value.room.free
  free_set = subst (λ xs. set_of xs ≡ xs) (sym whole.free) (outside_set value.disk.regions (taken value.room value.target) whole.geometry.regions_high)

  -- the regions of a merge are lost or left
  pub job_below : AllByRecursion (λ r. r < 64) (job_regions value.room.job)
  job_below =
      all_map (λ r. r < value.disk.regions) (λ r. r < 64) (λ r low. omega (arith, low, whole.geometry.regions_high)) (job_regions value.room.job)
      (below_both value.disk.regions value.room.lost (job_regions value.room.job) (all_left (λ r. r < value.disk.regions) value.room.lost _ behind_job)
      (all_left (λ r. r < value.disk.regions) (job_left value.room) _ behind_target))
    where
      behind_target : AllByRecursion (λ r. r < value.disk.regions) (job_left value.room ++ (value.room.lost ++ all_regions (value.room.parts ++ value.room.retired)))
      behind_target = all_right (λ r. r < value.disk.regions) (option_to_list value.target) _ whole.apart.below

      behind_job : AllByRecursion (λ r. r < value.disk.regions) (value.room.lost ++ all_regions (value.room.parts ++ value.room.retired))
      behind_job = all_right (λ r. r < value.disk.regions) (job_left value.room) _ (all_right (λ r. r < value.disk.regions) (option_to_list value.target) _ whole.apart.below)

  pub job_counted : (job : Job) → value.room.job ≡ Some job → (header : Header) → job.header ≡ Some header → (1 ≤ header.regions) × (header.regions ≤ 8)
  job_counted job out header h =
      let is : IsJob value.room job = subst (λ j. IfSome j (IsJob value.room)) out whole.job in
      let has = regions_of_header value.room.region_len (part_of job.target header) (is.is_taken header h).lies in
      (has.low, has.high)

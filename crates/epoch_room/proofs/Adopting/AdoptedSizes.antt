-- How many regions rows need, and the header of their part.
use Rattle.std.proofs.Common.{◌≡◌, ℕ, ◌+◌, ◌-◌, ◌*◌, ◌<◌, ◌≤◌, ◌==◌, nat_le, Bool, true, false, cond, List, [], ◌∷◌, ◌++◌, length, take, drop, Some, None, refl, sym, ap, ◌∙◌, arith}
use Rattle.std.specs.Prelude.{Option, if◌then◌else◌, find, slice_get, unwrap_or}
use Rattle.std.specs.List.{AllByRecursion, range_with_len}
use Rattle.std.proofs.lemmas.Nat.{mul-le}
use Rattle.fine_model.specs.declared.Header.{Header}
use Rattle.fine_model.specs.declared.Job.{Job}
use Rattle.fine_model.specs.declared.Mark.{Mark}
use Rattle.fine_model.specs.declared.Mark.TheVariants as mark
use Rattle.fine_model.specs.declared.Part.{Part}
use Rattle.fine_model.specs.declared.Range.{Range}
use Rattle.fine_model.specs.declared.Row.{Row}
use Rattle.fine_model.specs.Merge.{cost, encoded_len, fits_in, nodes_in, regions_for}
use Rattle.fine_model.specs.RowBytes.{rows_len}
use Rattle.log_partition.specs.Encoding.{saturated}
use Rattle.partition_merge.specs.declared.merger.Measure.{Measure}
use Rattle.epoch_room.specs.Adopting.{part_over}
use Rattle.epoch_room.specs.MergeSteps.{header_over, regions_needed, taken_job}
use Rattle.epoch_room.proofs.Merges.MergeFits.{not_fit}
use Rattle.epoch_room.proofs.Merges.Picking.{header_made}

fits_not : (region_len k len : ℕ) → region_len ≤ 67108864 → 1 ≤ k → k ≤ 8 → 34359738368 ≤ 41 + len → fits_in region_len k len ≡ false
fits_not region_len k len small low high many = by (k == 1)
  where
    room : (k - 1) * (region_len - 1) ≤ 7 * 67108864
    room = mul-le (k - 1) (region_len - 1) 7 67108864 (omega (arith, high)) (omega (arith, small))

    wide : (x : ℕ) → x ≤ 7 * 67108864 → region_len + x < 70 + len
    wide x h = omega (arith, h, small, many)

    by : (b : Bool) → (if b then nat_le (41 + len) region_len else nat_le (70 + len) (region_len + (k - 1) * (region_len - 1))) ≡ false
    by true = not_fit (41 + len) region_len (omega (arith, small, many))
    by false = not_fit (70 + len) (region_len + (k - 1) * (region_len - 1)) (wide ((k - 1) * (region_len - 1)) room)

none_found : (p : ℕ → Bool) (xs : List ℕ) → AllByRecursion (λ k. p k ≡ false) xs → find p xs ≡ None
none_found p [] all = refl
none_found p (x ∷ xs) all = ap (λ b. cond b (Some x) (find p xs)) all.0 ∙ none_found p xs all.1

pub none_needed : (region_len len : ℕ) (rows : List Row) → region_len ≤ 67108864 → 34359738368 ≤ len → len ≡ saturated (encoded_len rows) → ◌≡◌ {A = Option ℕ} None (regions_for region_len rows)
unfolding regions_for
none_needed region_len len rows small many is = sym (none_found (λ k. fits_in region_len k (cost rows)) (range_with_len 1 8) (
  at 1 (omega arith) (omega arith),
  (
    at 2 (omega arith) (omega arith),
    (
      at 3 (omega arith) (omega arith),
      (
        at 4 (omega arith) (omega arith),
        (at 5 (omega arith) (omega arith), (at 6 (omega arith) (omega arith), (at 7 (omega arith) (omega arith), (at 8 (omega arith) (omega arith), tt)))),
      ),
    ),
  ),
))
  where
    at : (k : ℕ) → 1 ≤ k → k ≤ 8 → fits_in region_len k (cost rows) ≡ false
    at k low high = fits_not region_len k (cost rows) small low high (omega (arith, many, is))

pub some_needed : (region_len len : ℕ) (rows : List Row) → len < 34359738368 → len ≡ saturated (encoded_len rows) → regions_needed region_len (len - 41) ≡ regions_for region_len rows
unfolding regions_for
some_needed region_len len rows few is = ap (λ n. find (λ k. fits_in region_len k n) (range_with_len 1 8)) (let e : len - 41 ≡ cost rows = omega (arith, few, is) in e)

-- a part's fields
pub part_made : (range : Range) (rows : List Row) (k n : ℕ) (free behind out : List ℕ) (m : Mark) (target : ℕ) (lowest : Option ℕ) (count nodes area : ℕ) → k ≤ 8 → k ≤ length free → 1 ≤ k → m ≡ cond (k == 1) mark.Two mark.Three → n ≡ k - 1
    → lowest ≡ slice_get free 0 → target ≡ unwrap_or lowest 0 → behind ≡ drop 1 free → out ≡ take (length {A = ℕ} (take n (0 ∷ 0 ∷ 0 ∷ 0 ∷ 0 ∷ 0 ∷ 0 ∷ []))) behind → count ≡ length rows → nodes ≡ length (nodes_in rows) → area ≡ rows_len rows
    → ◌≡◌ {A = Part} (record { region = target; header = record { mark = m; range = range; rows = count; nodes = nodes; area = area; regions = k; more = out ++ drop n (0 ∷ 0 ∷ 0 ∷ 0 ∷ 0 ∷ 0 ∷ 0 ∷ []) } }) (part_over k free range rows)
unfolding part_over header_over
part_made range rows k n free behind out m target lowest count nodes area most enough some is_mark is_n is_lowest is_target is_behind is_out is_count is_nodes is_area =
    λ i. record {
      region = (made i).target;
      header = record (unwrap_or (made i).header header) { rows = is_count i; nodes = is_nodes i; area = is_area i };
    }
  where
    header : Header
    header = record { mark = m; range = range; rows = count; nodes = nodes; area = area; regions = k; more = out ++ drop n (0 ∷ 0 ∷ 0 ∷ 0 ∷ 0 ∷ 0 ∷ 0 ∷ []) }

    part : Part
    part = record { region = target; header = header }

    job : Job
    job = record { older = part; newer = part; header = None; target = 0; written = 0 }

    measure : Measure
    measure = record { rows = count; nodes = nodes; area = area; ordered = true }

    made : record job { header = Some header; target = target } ≡ taken_job job measure k free
    made = header_made job measure k n free behind out m target lowest most enough some is_mark is_n is_lowest is_target is_behind is_out

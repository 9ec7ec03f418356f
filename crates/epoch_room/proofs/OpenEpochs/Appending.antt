-- A room with an entry more.
use Rattle.std.proofs.Common.{◌≡◌, ℕ, zero, suc, ◌+◌, ◌≤◌, ◌==◌, cond, List, [], ◌∷◌, ◌++◌, drop, length, Some, None, refl, sym, ap, ◌∙◌, subst, arith}
use Rattle.std.specs.Prelude.{Option, option_to_list, slice_get}
use Rattle.std.specs.List.{AllByRecursion}
use Rattle.std.proofs.Math.Dec.{eqb-suc-zero}
use Rattle.std.proofs.lemmas.Option.{IfSome_then}
use Rattle.fine_model.specs.declared.Header.{Header}
use Rattle.fine_model.specs.declared.Job.{Job}
use Rattle.fine_model.specs.declared.Row.{Row}
use Rattle.fine_model.specs.declared.Mark.TheVariants as mark
use Rattle.fine_model.specs.Becomes.{Becomes}
use Rattle.fine_model.specs.Jobs.{KeepsJob, job_left}
use Rattle.fine_model.specs.RowBytes.{FitsRow}
use Rattle.fine_model.specs.Merge.{cost}
use Rattle.fine_model.proofs.Ordered.Sets.{all_append}
use Rattle.log_disk.specs.Disk.{Disk}
use Rattle.epoch_room.specs.Epoch.{Open, with_entry}
use Rattle.epoch_room.specs.Fitting.{one_taken, taken_once}
use Rattle.epoch_room.specs.Value.{RoomValue, Kept, value_of, all_regions, regions_outside}
use Rattle.epoch_room.specs.Whole.{AreApart, IsJob, IsWhole}
use Rattle.epoch_room.specs.Steps.{appended}
use Rattle.log_partition.proofs.Costs.{cost_together}
use Rattle.epoch_room.proofs.OpenEpochs.Fits.{MayAppend}
use Rattle.epoch_room.proofs.RegionSets.Freeing.{free_in_image}
use Rattle.epoch_room.proofs.RegionSets.Taken.{first_free, left_free, apart_more}
use Rattle.epoch_room.proofs.Moved.{becomes_still}

once_most : (header : Option Header) → taken_once header ≤ 1
once_most None = omega arith
once_most (Some header) = omega arith

one_most : (job : Option Job) → one_taken job ≤ 1
one_most None = omega arith
one_most (Some job) = once_most job.header

-- the target that an entry finds or takes
module _ (regions : ℕ) (rest : List ℕ) where
  takes : (free : List ℕ) (target : Option ℕ) (waiting : ℕ) → (waiting ≡ 0 → target ≡ None) → (waiting ≡ 0 → 1 ≤ length free) → AreApart regions (option_to_list target ++ rest)
      → free ≡ regions_outside regions (option_to_list target ++ rest)
      → AreApart regions (option_to_list (cond (waiting == 0) (slice_get free 0) target) ++ rest)
      × (cond (waiting == 0) (drop 1 free) free ≡ regions_outside regions (option_to_list (cond (waiting == 0) (slice_get free 0) target) ++ rest))
  takes [] target zero none some apart is = absurd (omega (arith, some refl))
  takes (x ∷ xs) (Some t) zero none some apart is = absurd (let e : ◌≡◌ {A = Option ℕ} (Some t) None = none refl in cc)
  takes (x ∷ xs) None zero none some apart is = let first = first_free regions x xs rest is in (apart_more regions x rest apart first.there first.in_none, left_free regions x xs rest is)
  takes free target (suc n) none some apart is = (
    subst (λ b. AreApart regions (option_to_list (cond b (slice_get free 0) target) ++ rest)) (sym (eqb-suc-zero n)) apart,
    subst (λ b. cond b (drop 1 free) free ≡ regions_outside regions (option_to_list (cond b (slice_get free 0) target) ++ rest)) (sym (eqb-suc-zero n)) is,
  )

has_target : (free : List ℕ) (target : Option ℕ) (waiting : ℕ) → (1 ≤ waiting → (region : ℕ) × (target ≡ Some region)) → (waiting ≡ 0 → 1 ≤ length free)
    → (region : ℕ) × (cond (waiting == 0) (slice_get free 0) target ≡ Some region)
has_target [] target zero some two = absurd (omega (arith, two refl))
has_target (x ∷ xs) target zero some two = (x, refl)
has_target free target (suc n) some two =
    let found = some (omega arith) in
    (found.0, ap (λ b. cond b (slice_get free 0) target) (eqb-suc-zero n) ∙ found.1)

module _ (value : RoomValue) (rows : List Row) (whole : IsWhole value) (may : MayAppend value.room (cost rows)) where
  some_free : value.room.waiting ≡ 0 → 1 ≤ length value.room.free
  some_free none = let f = may.free none in let m = one_most value.room.job in omega (arith, f, m)

  abbrev rest : List ℕ
  rest = job_left value.room ++ (value.room.lost ++ all_regions (value.room.parts ++ value.room.retired))

  taking : AreApart value.disk.regions (option_to_list (cond (value.room.waiting == 0) (slice_get value.room.free 0) value.target) ++ rest)
      × (cond (value.room.waiting == 0) (drop 1 value.room.free) value.room.free ≡ regions_outside value.disk.regions (option_to_list (cond (value.room.waiting == 0) (slice_get value.room.free 0) value.target) ++ rest))
  taking = takes value.disk.regions rest value.room.free value.target value.room.waiting (λ e. (whole.epoch.none e).0) some_free whole.apart whole.free

  pub appended_whole : AllByRecursion (FitsRow mark.Two) rows → IsWhole (appended value rows)
  unfolding appended
  appended_whole fit = record {
    geometry = whole.geometry;
    sound = whole.sound;
    of_disk = ap (λ r. (appended (record value { room = r }) rows).room) whole.of_disk;
    in_chain = whole.in_chain;
    ends = whole.ends;
    lie = whole.lie;
    apart = taking.0;
    free = taking.1;
    rising = whole.rising;
    board = record { seats = whole.board.seats; eyes = whole.board.eyes; once = whole.board.once; given = whole.board.given; of_parts = whole.board.of_parts; shows = whole.board.shows };
    epoch = record {
      none = λ e. absurd (omega (arith, e));
      some = λ l h. has_target value.room.free value.target value.room.waiting (whole.epoch.some l) some_free;
      fits = all_append (FitsRow mark.Two) value.room.open_rows rows whole.epoch.fits fit;
      costs = omega (arith, cost_together value.room.open_rows rows, whole.epoch.costs);
      within = omega (arith, may.room_for);
      entries = omega (arith, whole.epoch.entries);
      places = omega (arith, may.place);
      epoch = λ h. may.epoch;
    };
    job = IfSome_then value.room.job {P = IsJob value.room} {Q = IsJob (appended value rows).room} whole.job (λ job is. record { before = is.before; after = is.after; neighbours = is.neighbours; untaken = is.untaken; is_taken = is.is_taken });
    entry = record { regions = whole.entry.regions; region_len = whole.entry.region_len; time = whole.entry.time; no_lower = whole.entry.no_lower; failed = whole.entry.failed };
    lost = whole.lost;
    unsynced = whole.unsynced;
    told = whole.told;
  }

  pub appended_becomes : Becomes value.room (appended value rows).room
  unfolding appended
  appended_becomes =
      becomes_still value.room (appended value rows).room (omega arith) (omega arith) (λ h. absurd (let o = may.open_room in cc))
      (λ s. absurd (
      let two = may.free s.none_waits in
      let all = free_in_image value whole (whole.lost may.open_room) s.image s.told in
      let few = s.few_free in
      omega (arith, two, all, few)
      ))

  pub appended_job : KeepsJob value.room (appended value rows).room
  unfolding appended
  appended_job = record { job = refl; held = λ job is. refl }

-- what the fields say after an entry was put there
pub appended_is : (disk entry : Disk) (kept : Kept) (rows : List Row) (free' : List ℕ) (target' : Option ℕ) (epoch' : Open) → free' ≡ cond (kept.epoch.waiting == 0) (drop 1 kept.free) kept.free
    → target' ≡ cond (kept.epoch.waiting == 0) (slice_get kept.free 0) kept.target → epoch' ≡ with_entry kept.epoch rows
    → value_of disk entry (record kept { free = free'; target = target'; epoch = epoch'; places = kept.places + 1 }) ≡ appended (value_of disk entry kept) rows
unfolding appended
appended_is disk entry kept rows free' target' epoch' f t e = λ i. value_of disk entry (record kept { free = f i; target = t i; epoch = e i; places = kept.places + 1 })

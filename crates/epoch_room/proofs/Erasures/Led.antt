-- What holds behind each answer of erasing parts by their leads.
use Rattle.std.proofs.Common.{◌≡◌, ◌≢◌, ℕ, zero, suc, ◌<◌, ◌≤◌, ◌==◌, Bool, true, false, List, [], ◌∷◌, ◌++◌, length, take, drop, Err, None, ◌||◌, length-append, Result, refl, sym, ap, subst, ◌∙◌, arith, true≢false}
use Rattle.std.specs.Prelude.{IsErrOf, OnOk, nat_eq, not, option_to_list, slice_index}
use Rattle.std.specs.List.{AllByRecursion, list_any}
use Rattle.fine_model.specs.declared.law.OpenedEye.{OpenedEye}
use Rattle.fine_model.specs.Boards.{naming_of, posted, set_of}
use Rattle.fine_model.specs.declared.Part.{Part}
use Rattle.fine_model.specs.Chain.{regions_of}
use Rattle.fine_model.specs.Jobs.{KeepsJob, job_left}
use Rattle.fine_model.proofs.Histories.Goings.{job_itself}
use Rattle.partition_hold.proofs.Sets.{none_passes}
use Rattle.fine_model.proofs.Ordered.Lists.{all_take}
use Rattle.fine_model.proofs.Ordered.Order.{all_map}
use Rattle.fine_model.proofs.Ordered.Zip.{all_left, all_right}
use Rattle.log_disk.specs.Disk.{Disk, HasRisen}
use Rattle.log_disk.specs.declared.refusal.DiskRefusal.{DiskRefusal}
use Rattle.log_disk.specs.declared.refusal.DiskRefusal.TheVariants as refusal
use Rattle.epoch_room.specs.Closing.{ClosesGates, LeavesClosing, ReadsButGates}
use Rattle.epoch_room.specs.Erasing.{Erases, ErasesLed, ErasesOr, erased_state, led_by, left_state, without}
use Rattle.epoch_room.specs.Meaning.{Keeps}
use Rattle.epoch_room.specs.Steps.{Does, Shuts}
use Rattle.epoch_room.specs.declared.answers.EraseFault.{EraseFault}
use Rattle.epoch_room.specs.declared.answers.EraseFault.TheVariants as erase_fault
use Rattle.epoch_room.specs.Value.{Kept, RoomValue, all_regions, on, regions_outside, taken, value_of}
use Rattle.epoch_room.specs.Whole.{AreApart, IsWhole}
use Rattle.epoch_room.proofs.OpenEpochs.Behind.{keeps_none}
use Rattle.epoch_room.proofs.RegionSets.Beside.{regions_together}
use Rattle.epoch_room.proofs.RegionSets.FreeSets.{set_below}
use Rattle.epoch_room.proofs.RegionSets.Taken.{apart_back}
use Rattle.epoch_room.proofs.Erasures.GateSteps.{beside_none, closing_none, closing_wider, reads_none, reads_wider}
use Rattle.epoch_room.proofs.Erasures.Erasing.{NamesNone, erased_job, erased_keeps, erased_whole, lost_now, lost_some, shut_whole}
use Rattle.epoch_room.proofs.Moved.{does, shuts}

front_some : (k : ℕ) (xs : List ℕ) → (k ≡ 0 → ⊥) → k ≤ length xs → take k xs ≢ []
front_some zero xs none few e = none refl
front_some (suc k) [] none few e = absurd (omega (arith, few))
front_some (suc k) (x ∷ xs) none few e = let c : ◌≡◌ {A = List ℕ} (x ∷ take k xs) [] = e in cc

back_none : (k : ℕ) (xs : List ℕ) → k ≡ length xs → drop k xs ≡ []
back_none zero [] e = refl
back_none zero (x ∷ xs) e = absurd (omega (arith, e))
back_none (suc k) [] e = refl
back_none (suc k) (x ∷ xs) e = back_none k xs (omega (arith, e))

back_some : (k : ℕ) (xs : List ℕ) → k < length xs → drop k xs ≢ []
back_some zero [] low e = absurd (omega (arith, low))
back_some zero (x ∷ xs) low e = let c : ◌≡◌ {A = List ℕ} (x ∷ xs) [] = e in cc
back_some (suc k) [] low e = absurd (omega (arith, low))
back_some (suc k) (x ∷ xs) low e = back_some k xs (omega (arith, low)) e

both_parts : (k : ℕ) (xs : List ℕ) → xs ≡ take k xs ++ drop k xs
both_parts zero xs = refl
both_parts (suc k) [] = refl
both_parts (suc k) (x ∷ xs) = ap (λ ys. x ∷ ys) (both_parts k xs)

abbrev Answer : Type 0
Answer = Result (Unit {0}) DiskRefusal

-- no gate was begun
pub led_none : (value : RoomValue) (leads : List ℕ) (k : ℕ) (result : Answer) (old new : Disk) → IsWhole value → ClosesGates leads k result old new → k ≡ 0 → ErasesLed leads value value result
led_none value leads k result old new whole closes is = record {
  begun = [];
  more = leads;
  are = refl;
  all = λ e. let long : k ≡ length leads = subst (λ (r : Answer). OnOk r (k ≡ length leads)) e closes.gates.all in empty leads (omega (arith, long, is));
  some = λ f. absurd (let h = closes.gates.some f in omega (arith, h, is));
  wanted = λ m e. let h = closes.gates.more m in let z = ap length e in absurd (omega (arith, h, z));
  none = λ e. refl;
  synced = λ n ne. absurd (ne refl);
  does = λ n ne. absurd (ne refl);
  unsynced = λ f. absurd (let h = closes.gates.some f in omega (arith, h, is));
  shuts = λ f. absurd (let h = closes.gates.some f in omega (arith, h, is));
  read = reads_none [] value.disk;
  leaves = closing_none [] value.disk;
  beside = beside_none value.disk;
  keeps = keeps_none value whole;
  job = job_itself value.room;
}
  where
    empty : (xs : List ℕ) → 0 ≡ length xs → xs ≡ []
    empty [] e = refl
    empty (x ∷ xs) e = absurd (omega (arith, e))

module _ (old entry : Disk) (kept : Kept) (whole : IsWhole (value_of old entry kept)) (open_room : kept.is_shut ≡ false) (leads : List ℕ) (are : AllByRecursion (λ r. list_any (λ p. p.region == r) kept.retired ≡ true) leads) (unnamed : NamesNone leads (posted kept.board))
    (new : Disk) (k : ℕ) (result : Answer) (closes : ClosesGates leads k result old new) (some : k ≡ 0 → ⊥) where
  abbrev begun : List ℕ
  begun = take k leads

  are_begun : AllByRecursion (λ r. list_any (λ p. p.region == r) kept.retired ≡ true) begun
  are_begun = all_take (λ r. list_any (λ p. p.region == r) kept.retired ≡ true) k leads are

  unnamed_begun : NamesNone begun (posted kept.board)
  unnamed_begun = all_map (λ (eye : OpenedEye). AllByRecursion (λ r. list_any (nat_eq r) eye.regions ≡ false) leads) (λ eye. AllByRecursion (λ r. list_any (nat_eq r) eye.regions ≡ false) begun) (λ eye h. all_take (λ r. list_any (nat_eq r) eye.regions ≡ false) k leads h) (posted kept.board) unnamed

  some_begun : begun ≢ []
  some_begun = front_some k leads some closes.gates.few

  abbrev led_regions : List ℕ
  led_regions = all_regions (led_by begun kept.retired)

  abbrev fine_kept : Kept
  fine_kept = record kept { retired = without begun kept.retired; free = set_of (kept.free ++ led_regions) }

  abbrev shut_kept : Kept
  shut_kept = record kept { retired = without begun kept.retired; lost = set_of (kept.lost ++ led_regions); is_shut = true }

  long_enough : 1 ≤ k
  long_enough = low k some
    where
      low : (n : ℕ) → (n ≡ 0 → ⊥) → 1 ≤ n
      low zero none = absurd (none refl)
      low (suc n) none = omega arith

  -- what is so whether the disk failed or not
  led : (kept' : Kept) → ((IsErrOf result refusal.Failed → ⊥) → begun ≢ [] → Does (erased_state (value_of old entry kept).room begun) kept.target (value_of old entry kept) (value_of new entry kept'))
      → (IsErrOf result refusal.Failed → Shuts (left_state (value_of old entry kept).room begun) kept.target led_regions (value_of old entry kept) (value_of new entry kept'))
      → Keeps (value_of old entry kept) (value_of new entry kept') → KeepsJob (value_of old entry kept).room (value_of new entry kept').room → ErasesLed leads (value_of old entry kept) (value_of new entry kept') result
  led kept' does shuts keeps job = record {
    begun = begun;
    more = drop k leads;
    are = both_parts k leads;
    all = λ e. back_none k leads (subst (λ (r : Answer). OnOk r (k ≡ length leads)) e closes.gates.all);
    some = λ f. some_begun;
    wanted = λ m. back_some k leads (closes.gates.more m);
    none = λ e. absurd (some_begun e);
    synced = λ n ne. closes.synced n long_enough;
    does = does;
    unsynced = closes.unsynced;
    shuts = shuts;
    read = closes.gates.touches.read;
    leaves = closes.gates.touches.leaves;
    beside = closes.gates.touches.beside;
    keeps = keeps;
    job = job;
  }

  module _ (fine : IsErrOf result refusal.Failed → ⊥) where
    pub whole_fine : IsWhole (value_of new entry fine_kept)
    whole_fine = erased_whole old entry kept whole open_room begun are_begun unnamed_begun new closes.gates.touches some_begun (IsErrOf result refusal.Failed) closes.gates.counts (closes.synced fine long_enough) (closes.gates.closed fine)

    pub led_fine : ErasesLed leads (value_of old entry kept) (value_of new entry fine_kept) result
    led_fine = led fine_kept (λ n ne. does _ _ open_room refl refl refl closes.gates.touches.beside closes.gates.touches.time closes.gates.counts fine) (λ f. absurd (fine f)) (erased_keeps old entry kept whole open_room begun are_begun unnamed_begun new closes.gates.touches some_begun (IsErrOf result refusal.Failed) closes.gates.counts (set_of (kept.free ++ led_regions)) kept.lost kept.is_shut (λ h. absurd (true≢false (sym h ∙ open_room))))
        (erased_job old entry kept whole open_room begun are_begun unnamed_begun new closes.gates.touches some_begun (IsErrOf result refusal.Failed) closes.gates.counts (set_of (kept.free ++ led_regions)) kept.lost kept.is_shut)

  module _ (f : IsErrOf result refusal.Failed) where
    risen : HasRisen old.own_faults new.own_faults × HasRisen old.faults new.faults
    risen = (closes.gates.counts.own_faults f, closes.gates.counts.faults f)

    pub whole_failed : IsWhole (value_of new entry shut_kept)
    whole_failed =
        shut_whole old entry kept whole open_room begun are_begun unnamed_begun new closes.gates.touches some_begun (IsErrOf result refusal.Failed) closes.gates.counts risen.1 risen.0
        (lost_some old entry kept whole open_room begun are_begun unnamed_begun new closes.gates.touches some_begun (IsErrOf result refusal.Failed) closes.gates.counts)

    pub led_failed : ErasesLed leads (value_of old entry kept) (value_of new entry shut_kept) result
    led_failed = led shut_kept (λ n ne. absurd (n f)) (λ h. shuts _ _ open_room (ap (λ lost. on (record (left_state (value_of old entry kept).room begun) { is_shut = true; lost = lost }) new) (lost_now old entry kept whole open_room begun are_begun unnamed_begun new closes.gates.touches some_begun (IsErrOf result refusal.Failed) closes.gates.counts)) refl refl closes.gates.touches.beside closes.gates.touches.time closes.gates.counts f) (erased_keeps old entry kept whole open_room begun are_begun unnamed_begun new closes.gates.touches some_begun (IsErrOf result refusal.Failed) closes.gates.counts kept.free (set_of (kept.lost ++ led_regions)) true (λ h. risen))
        (erased_job old entry kept whole open_room begun are_begun unnamed_begun new closes.gates.touches some_begun (IsErrOf result refusal.Failed) closes.gates.counts kept.free (set_of (kept.lost ++ led_regions)) true)

-- ---- sets of a room

module _ (value : RoomValue) (whole : IsWhole value) where
  pub free_ordered : set_of value.room.free ≡ value.room.free
  unfolding regions_outside
  free_ordered = ap set_of whole.free ∙ set_below (λ r. not (list_any (nat_eq r) (taken value.room value.target))) value.disk.regions whole.geometry.regions_high ∙ sym whole.free

  pub lost_ordered : value.room.is_shut ≡ false → set_of value.room.lost ≡ value.room.lost
  lost_ordered open_room = ap set_of (whole.lost open_room) ∙ none_passes (λ r. false) (λ r low. refl) ∙ sym (whole.lost open_room)

  pub retired_parts_small : AllByRecursion (λ p. AllByRecursion (λ r. r < 64) (regions_of p)) value.room.retired
  retired_parts_small = parted value.room.retired (all_right (λ r. r < value.disk.regions) (all_regions value.room.parts) (all_regions value.room.retired) (subst (AllByRecursion (λ r. r < value.disk.regions)) (regions_together value.room.parts value.room.retired) held.below))
    where
      held : AreApart value.disk.regions (all_regions (value.room.parts ++ value.room.retired))
      held =
          apart_back value.disk.regions value.room.lost (all_regions (value.room.parts ++ value.room.retired))
          (apart_back value.disk.regions (job_left value.room) (value.room.lost ++ all_regions (value.room.parts ++ value.room.retired))
          (apart_back value.disk.regions (option_to_list value.target) (job_left value.room ++ (value.room.lost ++ all_regions (value.room.parts ++ value.room.retired))) whole.apart))

      parted : (ps : List Part) → AllByRecursion (λ r. r < value.disk.regions) (all_regions ps) → AllByRecursion (λ p. AllByRecursion (λ r. r < 64) (regions_of p)) ps
      parted [] all = tt
      parted (p ∷ ps) all = (
        all_map (λ r. r < value.disk.regions) (λ r. r < 64) (λ r h. let m = whole.geometry.regions_high in omega (arith, h, m)) (regions_of p) (all_left (λ r. r < value.disk.regions) (regions_of p) (all_regions ps) all),
        parted ps (all_right (λ r. r < value.disk.regions) (regions_of p) (all_regions ps) all),
      )

  -- the lead of a retired part is a region
  pub lead_small : (region : ℕ) → list_any (λ p. p.region == region) value.room.retired ≡ true → region < 64
  lead_small region there = find value.room.retired retired_parts_small there
    where
      find : (ps : List Part) → AllByRecursion (λ p. AllByRecursion (λ r. r < 64) (regions_of p)) ps → list_any (λ p. p.region == region) ps ≡ true → region < 64
      find [] all h = absurd (true≢false (sym h))
      find (p ∷ ps) all h = by (p.region == region) refl h (λ rest. find ps all.1 rest)
        where
          is : (m n : ℕ) → (m == n) ≡ true → m ≡ n
          is m n e = grind (arith, e)

          by : (b : Bool) → (p.region == region) ≡ b → (b || list_any (λ q. q.region == region) ps) ≡ true → (list_any (λ q. q.region == region) ps ≡ true → region < 64) → region < 64
          by true e h rest = subst (λ n. n < 64) (is p.region region e) all.0.0
          by false e h rest = rest h

-- ---- one part

first_alone : (r : ℕ) (begun more : List ℕ) → r ∷ [] ≡ begun ++ more → begun ≢ [] → begun ≡ r ∷ []
first_alone r [] more e ne = absurd (ne refl)
first_alone r (x ∷ []) more e ne = let h : r ≡ x = ap (λ xs. slice_index xs 0) e in ap (λ n. n ∷ []) (sym h)
first_alone r (x ∷ y ∷ xs) more e ne = absurd (let l = ap length e in omega (arith, l))

none_begun : (r : ℕ) (begun more : List ℕ) → r ∷ [] ≡ begun ++ more → more ≢ [] → begun ≡ []
none_begun r [] more e ne = refl
none_begun r (x ∷ xs) [] e ne = absurd (ne refl)
none_begun r (x ∷ xs) (m ∷ more) e ne = absurd (let l = ap length e in let k = length-append xs (m ∷ more) in omega (arith, l, k))

pub erases_none : (region : ℕ) (value : RoomValue) (result : Result (Unit {0}) EraseFault) → IsWhole value → ErasesOr region value value result → Erases region value value result
erases_none region value result whole room = record { room = room; read = reads_none (region ∷ []) value.disk; leaves = closing_none (region ∷ []) value.disk; beside = beside_none value.disk; keeps = keeps_none value whole; job = job_itself value.room }

module _ (region : ℕ) (old new : RoomValue) (result : Answer) (led : ErasesLed (region ∷ []) old new result) (unnamed : naming_of old.room.board region ≡ None) where
  read_one : ReadsButGates (region ∷ []) old.disk new.disk
  read_one = subst (λ rs. ReadsButGates rs old.disk new.disk) (sym led.are) (reads_wider led.begun led.more old.disk new.disk led.read)

  leaves_one : LeavesClosing (region ∷ []) old.disk new.disk
  leaves_one = subst (λ rs. LeavesClosing rs old.disk new.disk) (sym led.are) (closing_wider led.begun led.more old.disk new.disk led.leaves)

  pub erases_disk : IsErrOf result refusal.Failed → Erases region old new (Err erase_fault.Disk)
  erases_disk f =
      let begun : led.begun ≡ region ∷ [] = first_alone region led.begun led.more led.are (led.some f) in
      record { room = (unnamed, subst (λ rs. new.disk.unsynced ≡ old.disk.unsynced ++ rs) begun (led.unsynced f), subst (λ rs. Shuts (left_state old.room rs) old.target (all_regions (led_by rs old.room.retired)) old new) begun (led.shuts f)); read = read_one; leaves = leaves_one; beside = led.beside; keeps = led.keeps; job = led.job }

  pub erases_memory : old.room.is_shut ≡ false → IsErrOf result refusal.NoMemory → Erases region old new (Err erase_fault.NoMemory)
  erases_memory open_room m =
      let begun : led.begun ≡ [] = none_begun region led.begun led.more led.are (led.wanted m) in
      record { room = (open_room, unnamed, led.none begun); read = read_one; leaves = leaves_one; beside = led.beside; keeps = led.keeps; job = led.job }

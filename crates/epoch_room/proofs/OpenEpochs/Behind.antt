-- What holds behind each answer of sealing, whether the disk tells its bytes or not.
use Rattle.std.proofs.Common.{◌≡◌, ◌≢◌, ℕ, ◌+◌, ◌-◌, ◌<◌, ◌≤◌, true, false, List, [], ◌∷◌, ◌++◌, length, length-append, take, map, Some, None, Err, Ok, Result, ◌||◌, refl, sym, ap, subst, ◌∙◌, inl, arith}
use Rattle.std.specs.Prelude.{Option, IfSome, IsErrOf, OnOk, is_some, nat_eq, option_map, option_to_list, unwrap_or}
use Rattle.std.specs.List.{list_any}
use Rattle.std.proofs.lemmas.List.{take_at}
use Rattle.fine_model.specs.declared.Job.{Job}
use Rattle.fine_model.specs.declared.Row.{Row}
use Rattle.fine_model.specs.Becomes.{Becomes}
use Rattle.fine_model.specs.Jobs.{held_for, job_regions, taken_by}
use Rattle.fine_model.specs.Boards.{set_of}
use Rattle.fine_model.specs.Merge.{encoded_len}
use Rattle.fine_model.specs.Regions.{Image, partition_bytes, region_of}
use Rattle.fine_model.specs.ChainLaws.{DiffersAt}
use Rattle.fine_model.specs.History.{Commit}
use Rattle.fine_model.proofs.Histories.Goings.{becomes_itself, job_itself}
use Rattle.fine_model.proofs.Ordered.Nothing.{any_none}
use Rattle.fine_model.proofs.Ordered.Order.{all_map}
use Rattle.log_disk.specs.Disk.{Disk, Told, BothTold, HasRisen, SameBeside, IsSound, IsToldOf, IsImageNow, CountsOwn, clock_of, with_bytes}
use Rattle.log_disk.specs.declared.refusal.DiskRefusal.{DiskRefusal}
use Rattle.log_disk.specs.declared.refusal.DiskRefusal.TheVariants as refusal
use Rattle.log_disk.specs.Moments.{Continues, ContinuesOn, IsLeft, LeavesOnly}
use Rattle.log_disk.proofs.Moments.{now_since, only_now, synced_now}
use Rattle.log_disk.proofs.Times.{continued_later, continues_none}
use Rattle.epoch_room.specs.Gate.{gate, IsBehind, IsSealing, KeepsBeside, LeavesBehind, LeavesSealing, DirtiesOnly, HasBytes}
use Rattle.epoch_room.specs.Meaning.{GoesOnStanding, HoldsEpoch, Keeps, Seals, ShownInside, Stands, StandsWhere}
use Rattle.epoch_room.specs.Partition.{IsArranged}
use Rattle.epoch_room.specs.Steps.{Does, SealsOr, next_part, sealed_state}
use Rattle.epoch_room.specs.Value.{RoomValue, Kept, value_of, on}
use Rattle.epoch_room.specs.Whole.{HoldsParts, IsWhole}
use Rattle.epoch_room.specs.declared.answers.RoomFault.{RoomFault}
use Rattle.epoch_room.specs.declared.answers.RoomFault.TheVariants as room_fault
use Rattle.epoch_room.proofs.RegionSets.Bodies.{holds_still}
use Rattle.epoch_room.proofs.Views.Boarding.{AreAlike}
use Rattle.epoch_room.proofs.OpenEpochs.Ending.{alike_told, beside_target, ended_kept, ended_whole, moved_whole, none_lost, not_job, own_part, shut_kept, shut_whole, target_beside, target_there}
use Rattle.epoch_room.proofs.OpenEpochs.Holding.{free_of, held_closed, held_opened}
use Rattle.epoch_room.proofs.OpenEpochs.Kept.{CanSeal, IsBase, alike_closed, behind_closed, gate_opened, header_opened, longer_opened, open_stands, sealed_room, sealed_stands, shown_inside, shut_before, shut_stands}
use Rattle.epoch_room.proofs.OpenEpochs.Longer.{range_of}
use Rattle.epoch_room.proofs.OpenEpochs.Partitions.{partition_long}
use Rattle.epoch_room.proofs.RegionSets.OneRegion.{set_one}
use Rattle.epoch_room.proofs.OpenEpochs.Torn.{HasOpened}
use Rattle.epoch_room.proofs.RegionSets.Touching.{beside_told}
use Rattle.epoch_room.proofs.Moved.{becomes_open, does, shuts}

-- ---- what is told at entry, before and then

pub both_and : (P Q : Told → Told → Type 0) (y z : Option Told) → BothTold P y z → BothTold Q y z → BothTold (λ a b. P a b × Q a b) y z
both_and P Q None None p q = tt
both_and P Q None (Some b) p q = absurd p
both_and P Q (Some a) None p q = absurd p
both_and P Q (Some a) (Some b) p q = (p, q)

pub some_behind : {R : Told → Told → Type 0} (Q : Told → Type 0) (y z : Option Told) → BothTold R y z → ((a b : Told) → R a b → Q b) → IfSome z Q
some_behind Q None None r each = tt
some_behind Q None (Some b) r each = absurd r
some_behind Q (Some a) None r each = absurd r
some_behind Q (Some a) (Some b) r each = each a b r

pub all_told : {R : Told → Told → Type 0} (P : Option Told → Option Told → Option Told → Type 0) (x y z : Option Told) → BothTold Continues x y → BothTold R y z → P None None None
    → ((before a b : Told) → Continues before a → R a b → P (Some before) (Some a) (Some b)) → P x y z
all_told P None None None p r none some = none
all_told P None None (Some b) p r none some = absurd r
all_told P None (Some a) z p r none some = absurd p
all_told P (Some x) None z p r none some = absurd p
all_told P (Some x) (Some a) None p r none some = absurd r
all_told P (Some x) (Some a) (Some b) p r none some = some x a b p r

pub as_told : (R : Told → Told → Type 0) (y z : Option Told) → BothTold R y z → is_some (option_map (λ (t : Told). t.bytes) z) ≡ is_some (option_map (λ (t : Told). t.bytes) y)
as_told R None None r = refl
as_told R None (Some b) r = absurd r
as_told R (Some a) None r = absurd r
as_told R (Some a) (Some b) r = refl

-- where nothing happened, what a crash leaves now shows what is sealed
pub inside_none : (value : RoomValue) (first : List Row) (e : ℕ) (history : List Commit) → ContinuesOn value.entry value.disk → StandsWhere value.room value.entry.told value.disk.told first e history
    → ShownInside value value.disk.told value.disk.told first e history
inside_none value first e history passed stands = on' value.entry.told value.disk.told passed stands
  where
    on' : (x y : Option Told) → BothTold Continues x y → StandsWhere value.room x y first e history → ShownInside value y y first e history
    on' None None p s = tt
    on' None (Some b) p s = absurd p
    on' (Some a) None p s = absurd p
    on' (Some a) (Some b) p s = λ image since. s.stands.images.now_sealed image (only_now b image since)

pub keeps_none : (value : RoomValue) → IsWhole value → Keeps value value
unfolding Stands
keeps_none value whole = record {
  stands = λ first e history stands. stands;
  inside = λ first e history stands. inside_none value first e history whole.entry.time stands;
  becomes = becomes_itself value.room;
  time = continues_none value.disk;
}

pub same_beside : (disk : Disk) → SameBeside disk disk
same_beside disk = record { regions = refl; region_len = refl; eyes = refl; given = refl }

-- an earlier failure, and want of memory before the disk was called
pub seals_none : (value : RoomValue) (fault : RoomFault) → IsWhole value → SealsOr value value (Err fault) → Seals value value (Err fault)
seals_none value fault whole room = record { room = room; body = tt; read = beside_told (option_to_list value.target) value.disk value.disk refl; beside = same_beside value.disk; keeps = keeps_none value whole; job = job_itself value.room }

pub does_none : (value : RoomValue) → IsWhole value → value.room.is_shut ≡ false → Does value.room value.target value value
does_none value whole open_room = (
  open_room,
  record { room = whole.of_disk; target = refl; entry = refl; regions = refl; region_len = refl; time = continues_none value.disk },
  record { faults = refl; own_faults = refl },
)

-- ---- a region was to be sealed

module _ (old entry : Disk) (kept : Kept) (whole : IsWhole (value_of old entry kept)) (open_room : kept.is_shut ≡ false) (some : 1 ≤ kept.epoch.waiting) (region : ℕ) (at : kept.target ≡ Some region)
    (sorted : List Row) (bytes : List ℕ) (arranged : IsArranged kept.epoch.rows sorted) (within : encoded_len sorted ≤ old.region_len) (spelled : bytes ≡ partition_bytes old.region_len (range_of kept.sealed) sorted) where
  abbrev value : RoomValue
  value = value_of old entry kept

  pub bytes_fit : 1 + length bytes ≤ old.region_len
  bytes_fit = omega (arith, ap length spelled, partition_long old.region_len (range_of kept.sealed) sorted, within)

  can : CanSeal (value_of old entry kept).room sorted bytes
  can = record { open_room = open_room; some = some; small = whole.geometry.len_high; end = whole.ends; epoch = whole.epoch.epoch some; fit = whole.epoch.fits; arranged = arranged; within = within; spelled = spelled }

  abbrev Holds : Image → Type 0
  Holds image = HoldsParts old.region_len image kept.parts kept.retired

  pub there : region < old.regions
  there = target_there old entry kept whole region at open_room

  base_of : (a : Told) → IsToldOf old a → IsLeft Holds a → (was : Image) → IsImageNow a was → IsBase (value_of old entry kept).room region bytes was
  base_of a told left was now =
      let long : length was ≡ old.regions = now.regions ∙ sym told.image.regions ∙ told.regions in
      let holds = left was now in
      record {
        is_chain = holds.is_chain;
        free = free_of old.region_len was kept.parts kept.retired region holds (omega (arith, there, long)) (target_beside old entry kept whole region at open_room);
        there = omega (arith, there, long);
        long = let e : length (region_of was region) ≡ old.region_len = now.lengths region ∙ sym (told.image.lengths region) ∙ told.lengths region there in omega (arith, bytes_fit, e);
      }

  module _ (new : Disk) (same : SameBeside old new) (sound : IsSound new) (time : ContinuesOn old new) (failed : Type 0) (counts : CountsOwn failed old new) (read : KeepsBeside (region ∷ []) old new) where
    lower : (old.faults ≤ new.faults) × (old.own_faults ≤ new.own_faults)
    lower = counts.no_lower

    -- what is told before, and then
    record Run (a b : Told) : Type 0 where
      told : IsToldOf old a
      told' : IsToldOf new b
      left : IsLeft Holds a
      differs : DiffersAt region a.bytes b.bytes

    runs : BothTold Run old.told new.told
    runs = on' old.told new.told (alike_told old new (region ∷ []) whole.sound sound same read) whole.sound.told sound.told (whole.told (none_lost old entry kept whole region at open_room))
      where
        other : (m n : ℕ) → m ≢ n → (nat_eq m n || false) ≡ false
        other m n h = grind (arith, h)

        on' : (y z : Option Told) → BothTold (AreAlike (region ∷ [])) y z → IfSome y (IsToldOf old) → IfSome z (IsToldOf new) → IfSome y (IsLeft Holds) → BothTold Run y z
        on' None None p s t h = tt
        on' None (Some b) p s t h = absurd p
        on' (Some a) None p s t h = absurd p
        on' (Some a) (Some b) p s t h = record { told = s; told' = t; left = h; differs = record { as_many = p.0; others = λ r ne. p.1 r (other r region ne) } }

    target_read : KeepsBeside (option_to_list kept.target) old new
    target_read = subst (λ t. KeepsBeside (option_to_list t) old new) (sym at) read

    abbrev eyes_of : Disk → List (ℕ × List ℕ)
    eyes_of disk = map (λ eye. (eye.number, eye.regions)) disk.eyes

    same_eyes : eyes_of new ≡ eyes_of old
    same_eyes = ap (map (λ eye. (eye.number, eye.regions))) same.eyes

    -- what a merge holds stays
    job_held : (job : Job) → kept.job ≡ Some job → held_for (option_map (λ (t : Told). t.bytes) new.told) job ≡ held_for (option_map (λ (t : Told). t.bytes) old.told) job
    job_held job is =
        holds_still (region ∷ []) job old.told new.told
        (all_map (λ r. nat_eq region r ≡ false) (λ r. (nat_eq r region || false) ≡ false) (λ r h. turned region r h) (taken_by job.target job.header)
        (any_none (nat_eq region) (taken_by job.target job.header) (subst (λ o. list_any (nat_eq region) (job_regions o) ≡ false) is (not_job old entry kept whole region at open_room)))) read
      where
        turned : (m n : ℕ) → nat_eq m n ≡ false → (nat_eq n m || false) ≡ false
        turned m n h = grind (arith, h)

    same_told : is_some (option_map (λ (t : Told). t.bytes) new.told) ≡ is_some (option_map (λ (t : Told). t.bytes) old.told)
    same_told = as_told Run old.told new.told runs

    -- which state becomes of the room, where an entry waits
    becomes : (kept' : Kept) → kept.sealed ≤ kept'.sealed → kept.places ≡ kept'.places → (kept'.is_shut ≡ true → HasRisen old.own_faults new.own_faults × HasRisen old.faults new.faults) → Becomes (value_of old entry kept).room (value_of new entry kept').room
    becomes kept' sealed places risen = becomes_open old new kept kept' same lower same_told open_room sealed places risen (λ s. absurd (let n : kept.epoch.waiting ≡ 0 = s.none_waits in omega (arith, some, n)))

    module _ (leaves : LeavesSealing region bytes old new) where
      inside : (first : List Row) (e : ℕ) (history : List Commit) → Stands (value_of old entry kept) first e history → ShownInside (value_of old entry kept) old.told new.told first e history
      unfolding Stands
      inside first e history stands =
          all_told (λ x y z. StandsWhere (value_of old entry kept).room x y first e history → ShownInside (value_of old entry kept) y z first e history) entry.told old.told new.told whole.entry.time (both_and Run (λ a b. LeavesOnly (IsSealing region bytes a) a b) old.told new.told runs leaves) (λ s. tt)
          (λ before a b p run s.
          shown_inside (value_of old entry kept).room region sorted bytes can before a first e history (base_of a run.0.told run.0.left) run.0.told.image (continued_later before a p) s b run.0.differs run.0.told'.image run.1)
          stands

      -- what is so of each answer
      seals : (kept' : Kept) (result : Result ℕ RoomFault) → SealsOr (value_of old entry kept) (value_of new entry kept') result → OnOk result (HoldsEpoch (value_of old entry kept) (value_of new entry kept')) → GoesOnStanding (value_of old entry kept) (value_of new entry kept')
          → kept'.job ≡ kept.job → kept.sealed ≤ kept'.sealed → kept.places ≡ kept'.places → (kept'.is_shut ≡ true → HasRisen old.own_faults new.own_faults × HasRisen old.faults new.faults) → Seals (value_of old entry kept) (value_of new entry kept') result
      seals kept' result room body stands job sealed places risen = record {
        room = room;
        body = body;
        read = target_read;
        beside = same;
        keeps = record { stands = stands; inside = inside; becomes = becomes kept' sealed places risen; time = time };
        job = record { job = job; held = job_held };
      }

      -- the epoch was sealed
      module _ (synced : new.unsynced ≡ []) (written : HasBytes (λ image. with_bytes (with_bytes image region 1 bytes) region 0 gate) old new) where
        held : IfSome new.told (IsLeft (λ image. HoldsParts new.region_len image (kept.parts ++ own_part kept region ∷ []) kept.retired))
        held = some_behind (IsLeft (λ image. HoldsParts new.region_len image (kept.parts ++ own_part kept region ∷ []) kept.retired)) old.told new.told (both_and Run (λ a b. b.bytes ≡ with_bytes (with_bytes a.bytes region 1 bytes) region 0 gate) old.told new.told runs written) one
          where
            one : (a b : Told) → Run a b × (b.bytes ≡ with_bytes (with_bytes a.bytes region 1 bytes) region 0 gate) → IsLeft (λ image. HoldsParts new.region_len image (kept.parts ++ own_part kept region ∷ []) kept.retired) b
            one a b run image now =
                let base = base_of a run.0.told run.0.left a.bytes run.0.told.image in
                let is : image ≡ with_bytes (with_bytes a.bytes region 1 bytes) region 0 gate = synced_now new b b image run.0.told' (inl (synced, refl)) now ∙ run.1 in
                let opened : HasOpened region bytes a.bytes image = subst (HasOpened region bytes a.bytes) (sym is) (gate_opened (value_of old entry kept).room region sorted bytes can a.bytes base) in
                subst (λ n. HoldsParts n image (kept.parts ++ own_part kept region ∷ []) kept.retired) (sym same.region_len)
                (held_opened old.region_len region bytes a.bytes image kept.parts kept.retired (own_part kept region).header (run.0.left a.bytes run.0.told.image) opened
                (longer_opened (value_of old entry kept).room region sorted bytes can a.bytes base image opened) (header_opened (value_of old entry kept).room region sorted bytes can a.bytes base image opened))

        pub whole_ok : (most : ℕ) → IsWhole (value_of new entry (ended_kept kept region most))
        whole_ok most = ended_whole old new entry kept whole same sound time lower region at open_room some read synced most held

        pub stands_ok : (first : List Row) (e : ℕ) (history : List Commit) → Stands (value_of old entry kept) first e history → StandsWhere (on (sealed_room (value_of old entry kept).room region) new) entry.told new.told first e history
        unfolding Stands
        stands_ok first e history stands =
            all_told (λ x y z. StandsWhere (value_of old entry kept).room x y first e history → StandsWhere (on (sealed_room (value_of old entry kept).room region) new) x z first e history) entry.told old.told new.told whole.entry.time
            (both_and (λ a b. Run a b × LeavesOnly (IsSealing region bytes a) a b) (λ a b. b.bytes ≡ with_bytes (with_bytes a.bytes region 1 bytes) region 0 gate) old.told new.told (both_and Run (λ a b. LeavesOnly (IsSealing region bytes a) a b) old.told new.told runs leaves) written) (λ s. tt)
            (λ before a b p run s.
            sealed_stands (value_of old entry kept).room region sorted bytes can before a first e history (base_of a run.0.0.told run.0.0.left) run.0.0.told.image (continued_later before a p) s b run.0.0.differs run.0.0.told'.image run.0.1 new same.region_len
            same_eyes run.1 (λ image now. synced_now new b b image run.0.0.told' (inl (synced, refl)) now))
            stands

        pub seals_ok : (most : ℕ) → (failed → ⊥) → Seals (value_of old entry kept) (value_of new entry (ended_kept kept region most)) (Ok (kept.sealed + 1))
        unfolding Stands sealed_state next_part
        seals_ok most fine =
            seals (ended_kept kept region most) (Ok (kept.sealed + 1)) (refl, synced, does _ _ open_room (sym (ap (λ r. on (sealed_room (value_of old entry kept).room r) new) (ap (λ t. unwrap_or t 0) at))) refl refl same time counts fine)
            (record {
              sorted = sorted;
              is_arranged = arranged;
              bytes = subst (λ t. HasBytes (λ image. with_bytes (with_bytes image (unwrap_or t 0) 1 (partition_bytes old.region_len (range_of kept.sealed) sorted)) (unwrap_or t 0) 0 gate) old new) (sym at)
                  (subst (λ bs. HasBytes (λ image. with_bytes (with_bytes image region 1 bs) region 0 gate) old new) spelled written);
            }) stands_ok refl (omega arith) refl (λ h. absurd (cc))

      -- the disk failed
      pub whole_shut : failed → IsWhole (value_of new entry (shut_kept kept region))
      whole_shut f = shut_whole old new entry kept whole same sound time lower region at open_room some read (counts.faults f) (counts.own_faults f)

      stands_shut : (first : List Row) (e : ℕ) (history : List Commit) → Stands (value_of old entry kept) first e history → StandsWhere (on (record (value_of old entry kept).room { is_shut = true; lost = region ∷ [] }) new) entry.told new.told first e history
      unfolding Stands
      stands_shut first e history stands =
          all_told (λ x y z. StandsWhere (value_of old entry kept).room x y first e history → StandsWhere (on (record (value_of old entry kept).room { is_shut = true; lost = region ∷ [] }) new) x z first e history) entry.told old.told new.told whole.entry.time
          (both_and Run (λ a b. LeavesOnly (IsSealing region bytes a) a b) old.told new.told runs leaves) (λ s. tt)
          (λ before a b p run s.
          shut_stands (value_of old entry kept).room region sorted bytes can before a first e history (base_of a run.0.told run.0.left) run.0.told.image (continued_later before a p) s b run.0.differs run.0.told'.image run.1 (region ∷ []) new same.region_len same_eyes)
          stands

      pub seals_shut : failed → Seals (value_of old entry kept) (value_of new entry (shut_kept kept region)) (Err room_fault.Disk)
      unfolding Stands
      seals_shut f =
          seals (shut_kept kept region) (Err room_fault.Disk) (shuts _ _ open_room (ap (λ lost. on (record (value_of old entry kept).room { is_shut = true; lost = lost }) new) (sym lost_is)) refl refl same time counts f) tt stands_shut refl (omega arith) refl
          (λ h. (counts.own_faults f, counts.faults f))
        where
          lost_is : set_of (option_to_list kept.target) ≡ region ∷ []
          lost_is = ap (λ t. set_of (option_to_list t)) at ∙ set_one region (let h = whole.geometry.regions_high in omega (arith, there, h))

      -- memory ran out
      module _ (torn : LeavesBehind (region ∷ []) old new) where
        still_held : IfSome new.told (IsLeft (λ image. HoldsParts new.region_len image kept.parts kept.retired))
        still_held = some_behind (IsLeft (λ image. HoldsParts new.region_len image kept.parts kept.retired)) old.told new.told (both_and Run (λ a b. LeavesOnly (IsBehind (region ∷ []) a) a b) old.told new.told runs torn) one
          where
            one : (a b : Told) → Run a b × LeavesOnly (IsBehind (region ∷ []) a) a b → IsLeft (λ image. HoldsParts new.region_len image kept.parts kept.retired) b
            one a b run image now =
                let t = run.1.each image (now_since (clock_of a) b image run.1.later now) in
                let base = base_of a run.0.told run.0.left t.was t.is_was in
                let closed = behind_closed (value_of old entry kept).room region sorted bytes can t.was base image t.differs in
                subst (λ n. HoldsParts n image kept.parts kept.retired) (sym same.region_len)
                (held_closed old.region_len region t.was image kept.parts kept.retired (run.0.left t.was t.is_was) closed (alike_closed (value_of old entry kept).room region sorted bytes can t.was base image closed)
                (shut_before (value_of old entry kept).room region sorted bytes can t.was base))

        pub whole_open : DirtiesOnly (region ∷ []) old new → IsWhole (value_of new entry kept)
        whole_open dirties = moved_whole old new entry kept whole same sound time lower (region ∷ []) (beside_target old new entry kept whole same sound time lower region at open_room some read) read open_room dirties still_held

        stands_open : (first : List Row) (e : ℕ) (history : List Commit) → Stands (value_of old entry kept) first e history → StandsWhere (on (value_of old entry kept).room new) entry.told new.told first e history
        unfolding Stands
        stands_open first e history stands =
            all_told (λ x y z. StandsWhere (value_of old entry kept).room x y first e history → StandsWhere (on (value_of old entry kept).room new) x z first e history) entry.told old.told new.told whole.entry.time
            (both_and Run (λ a b. LeavesOnly (IsBehind (region ∷ []) a) a b) old.told new.told runs torn) (λ s. tt)
            (λ before a b p run s.
            open_stands (value_of old entry kept).room region sorted bytes can before a first e history (base_of a run.0.told run.0.left) run.0.told.image (continued_later before a p) s b run.0.differs run.0.told'.image run.1 new same.region_len same_eyes)
            stands

        pub seals_open : (failed → ⊥) → Seals (value_of old entry kept) (value_of new entry kept) (Err room_fault.NoMemory)
        unfolding Stands
        seals_open fine = seals kept (Err room_fault.NoMemory) (does _ _ open_room refl refl refl same time counts fine) tt stands_open refl (omega arith) refl (λ h. absurd (cc))

-- ---- the fields behind each answer

pub popped : {A : Type 0} (xs all new : List A) (y : A) (n : ℕ) → all ≡ xs ++ y ∷ [] → n ≡ length all → new ≡ take (n - 1) all → new ≡ xs
popped xs all new y n is long cut =
    let k : length xs ≡ n - 1 = omega (arith, long, ap length is, length-append xs (y ∷ [])) in
    cut ∙ ap (λ m. take m all) (sym k) ∙ ap (take (length xs)) is ∙ take_at xs (y ∷ []) (length xs) refl

-- the target that an open epoch has
pub target_at : (target : Option ℕ) → (region : ℕ) × (target ≡ Some region) → (result : ℕ) → result ≡ unwrap_or target 0 → target ≡ Some result
target_at target found result is = found.1 ∙ ap (λ (n : ℕ). Some n) (sym (is ∙ ap (λ (t : Option ℕ). unwrap_or t 0) found.1))

pub is_failed : (result : Result (Unit {0}) DiskRefusal) (r : DiskRefusal) → result ≡ Err r → r ≡ refusal.Failed → IsErrOf result refusal.Failed
is_failed result r is e = cc

pub is_no_memory : (result : Result (Unit {0}) DiskRefusal) (r : DiskRefusal) → result ≡ Err r → r ≡ refusal.NoMemory → IsErrOf result refusal.NoMemory
is_no_memory result r is e = cc

pub not_failed : (result : Result (Unit {0}) DiskRefusal) → IsErrOf result refusal.NoMemory → IsErrOf result refusal.Failed → ⊥
not_failed result is e = let h : ◌≡◌ {A = Result (Unit {0}) DiskRefusal} (Err refusal.NoMemory) (Err refusal.Failed) = sym is ∙ e in cc

pub not_failed_ok : (result : Result (Unit {0}) DiskRefusal) {u : Unit {0}} → result ≡ Ok u → IsErrOf result refusal.Failed → ⊥
not_failed_ok result {u} is e = let h : ◌≡◌ {A = Result (Unit {0}) DiskRefusal} (Ok u) (Err refusal.Failed) = sym is ∙ e in cc

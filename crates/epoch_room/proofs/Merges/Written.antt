-- A room behind each answer of writing for its merge.
use Rattle.std.proofs.Common.{◌≡◌, ℕ, ◌+◌, ◌-◌, ◌<◌, ◌≤◌, Bool, true, false, cond, not, ◌&&◌, List, [], ◌∷◌, ◌++◌, length, take, drop, Some, None, Ok, Err, Result, refl, sym, ap, subst, ◌∙◌, arith, append_assoc, length-append, length-take, true≢false}
use Rattle.std.specs.Prelude.{Option, IfSome, IsErrOf, OnOk, filter, is_err, nat_eq, option_map, option_to_list}
use Rattle.std.specs.List.{AllByRecursion, list_any}
use Rattle.std.proofs.lemmas.Bool.{eqb-true}
use Rattle.std.proofs.lemmas.List.{take_at}
use Rattle.std.proofs.lemmas.Nat.{mul-le}
use Rattle.std.proofs.lemmas.List.Elements.{All-from_recursion}
use Rattle.std.proofs.lemmas.Map.Views.{any-filter_same, list_any-from_Contains}
use Rattle.fine_model.specs.declared.Header.{Header}
use Rattle.fine_model.specs.declared.Job.{Job}
use Rattle.fine_model.specs.Boards.{set_of}
use Rattle.fine_model.specs.Chain.{regions_of}
use Rattle.fine_model.specs.ChainLaws.{part_of}
use Rattle.fine_model.specs.Jobs.{KeepsJob, held_by, held_for, job_left, job_regions, taken_by}
use Rattle.fine_model.specs.Regions.{body_in, place_of, region_of, body_len}
use Rattle.fine_model.proofs.Ordered.Nothing.{all_at, each_there}
use Rattle.fine_model.proofs.Ordered.Order.{all_map}
use Rattle.fine_model.proofs.Ordered.Times.{distinct_times, times, times-append, times-none, times_distinct}
use Rattle.partition_hold.proofs.Bits.{among, same_regions}
use Rattle.partition_index.specs.Parts.{LiesIn}
use Rattle.partition_index.specs.Placing.{HasBody}
use Rattle.partition_index.proofs.BodyPlaces.{body_long, laid}
use Rattle.partition_index.proofs.Placed.{place_named}
use Rattle.log_disk.specs.Disk.{BothTold, Disk, HasRisen, IsToldOf, IsUnseen, Told}
use Rattle.log_disk.specs.declared.refusal.DiskRefusal.{DiskRefusal}
use Rattle.log_disk.specs.declared.refusal.DiskRefusal.TheVariants as refusal
use Rattle.epoch_room.specs.BodyWrites.{HasPlace, KeepsFront, WritesBody}
use Rattle.epoch_room.specs.Gate.{KeepsBeside}
use Rattle.epoch_room.specs.Meaning.{Keeps}
use Rattle.epoch_room.specs.MergeSteps.{WritesJob, touched, with_job, written_on}
use Rattle.epoch_room.specs.Steps.{Does}
use Rattle.epoch_room.specs.Value.{Kept, RoomValue, all_regions, on, regions_outside, taken, value_of}
use Rattle.epoch_room.specs.Whole.{AreApart, IsJob, IsTaken, IsWhole}
use Rattle.epoch_room.specs.declared.answers.RoomFault.TheVariants as room_fault
use Rattle.epoch_room.proofs.OpenEpochs.Behind.{keeps_none, same_beside}
use Rattle.epoch_room.proofs.Merges.BodyPieces.{all_lying, first_lies, leaves_behind_none, reads_none}
use Rattle.epoch_room.proofs.Views.Boarding.{AreBeside, unseen}
use Rattle.epoch_room.proofs.OpenEpochs.Ending.{moved_board, moved_entry, moved_job, moved_lie, moved_whole, risen_since, still_geometry}
use Rattle.epoch_room.proofs.RegionSets.Freeing.{job_regions_left, job_apart, nat_alike}
use Rattle.epoch_room.proofs.Erasures.LedParts.{fewer_apart, set_times}
use Rattle.epoch_room.proofs.Spare.{spare_whole}
use Rattle.epoch_room.proofs.RegionSets.Taken.{SameTimes, same_apart, same_outside}
use Rattle.epoch_room.proofs.RegionSets.Touching.{dirties_none}
use Rattle.epoch_room.proofs.Merges.Writing.{keeps_beside, still_held, written_keeps}
use Rattle.epoch_room.proofs.Moved.{does, epoch_stays, shuts}

-- what passes a test and what does not stand together as often as all
times_parted : (n : ℕ) (p : ℕ → Bool) (xs : List ℕ) → times n (filter p xs) + times n (filter (λ x. not (p x)) xs) ≡ times n xs
times_parted n p [] = omega (arith, times-none n)
times_parted n p (x ∷ xs) = by (p x) (times_parted n p xs)
  where
    by : (b : Bool) → times n (filter p xs) + times n (filter (λ x. not (p x)) xs) ≡ times n xs
        → times n (cond b (x ∷ filter p xs) (filter p xs)) + times n (cond (not b) (x ∷ filter (λ x. not (p x)) xs) (filter (λ x. not (p x)) xs)) ≡ times n (x ∷ xs)
    by true rest =
        let a = times-append n (x ∷ []) (filter p xs) in
        let b = times-append n (x ∷ []) xs in
        omega (arith, a, b, rest)
    by false rest =
        let a = times-append n (x ∷ []) (filter (λ x. not (p x)) xs) in
        let b = times-append n (x ∷ []) xs in
        omega (arith, a, b, rest)

module _ (old entry : Disk) (kept : Kept) (whole : IsWhole (value_of old entry kept)) (open_room : kept.is_shut ≡ false) (job : Job) (out : kept.job ≡ Some job) (header : Header) (has : job.header ≡ Some header) where
  abbrev rs : List ℕ
  rs = regions_of (part_of job.target header)

  pub none_lost : kept.lost ≡ []
  none_lost = whole.lost open_room

  pub rs_is : job_regions kept.job ≡ rs
  rs_is = ap job_regions out ∙ ap (taken_by job.target) has

  pub left_is : job_left (value_of old entry kept).room ≡ rs
  left_is = job_regions_left (value_of old entry kept) whole none_lost ∙ rs_is

  in_left : (r : ℕ) → list_any (nat_eq r) rs ≡ true → list_any (nat_eq r) (job_left (value_of old entry kept).room) ≡ true
  in_left r h = ap (list_any (nat_eq r)) left_is ∙ h

  pub own_beside : AreBeside rs (kept.parts ++ kept.retired)
  own_beside r there = (job_apart (value_of old entry kept) whole none_lost r (in_left r there)).0

  pub own_below : AllByRecursion (λ r. r < old.regions) rs
  own_below = all_map (λ r. list_any (nat_eq r) rs ≡ true) (λ r. r < old.regions) (λ r h. (job_apart (value_of old entry kept) whole none_lost r (in_left r h)).1) rs (each_there rs)

  abbrev held : List ℕ
  held = all_regions (kept.parts ++ kept.retired)

  pub own_once : (n : ℕ) → times n rs ≤ 1
  own_once n =
      let d = distinct_times (taken (value_of old entry kept).room kept.target) whole.apart.distinct n in
      let a = times-append n (option_to_list kept.target) (job_left (value_of old entry kept).room ++ (kept.lost ++ held)) in
      let b = times-append n (job_left (value_of old entry kept).room) (kept.lost ++ held) in
      let e = ap (times n) left_is in
      omega (arith, d, a, b, e)

  pub own_apart : AreApart old.regions rs
  own_apart = record { distinct = times_distinct rs own_once; below = own_below }

  pub own_small : AllByRecursion (λ r. r < 64) rs
  own_small = all_map (λ r. r < old.regions) (λ r. r < 64) (λ r h. let m = whole.geometry.regions_high in omega (arith, h, m)) rs own_below

  pub is_job : IsJob (value_of old entry kept).room job
  is_job = subst (λ j. IfSome j (IsJob (value_of old entry kept).room)) out whole.job

  pub own_taken : IsTaken old.region_len job header
  own_taken = is_job.is_taken header has

  pub own_place : HasPlace old (part_of job.target header)
  own_place = record {
    sound = whole.sound;
    lies = own_taken.lies;
    apart = own_apart.distinct;
    there = own_below;
    unseen = All-from_recursion (IsUnseen old) rs (all_map (λ r. list_any (nat_eq r) rs ≡ true) (IsUnseen old) (λ r there. unseen old (kept.parts ++ kept.retired) r whole.board.of_parts (own_beside r there)) rs (each_there rs));
  }

  module _ (bytes : List ℕ) (within : job.written + length bytes ≤ body_len header) (new : Disk) (result : Result (Unit {0}) DiskRefusal) (run : WritesBody (touched old.region_len job header (length bytes)) (part_of job.target header) job.written bytes result old new) where
    abbrev ts : List ℕ
    ts = touched old.region_len job header (length bytes)

    -- the bytes lie in regions of the merge
    touched_own : AllByRecursion (λ r. list_any (nat_eq r) rs ≡ true) ts
    touched_own =
        all_lying (λ r. list_any (nat_eq r) rs ≡ true) old.region_len job.target header job.written (length bytes) within
        (λ at low. list_any-from_Contains nat_alike _ rs (place_named old.region_len (part_of job.target header) at own_taken.lies low))

    ts_beside : AreBeside ts (kept.parts ++ kept.retired)
    ts_beside r there = own_beside r (all_at (λ q. list_any (nat_eq q) rs ≡ true) r ts touched_own there)

    ts_below : AllByRecursion (λ r. r < old.regions) ts
    ts_below = all_map (λ r. list_any (nat_eq r) rs ≡ true) (λ r. r < old.regions) (λ r h. (job_apart (value_of old entry kept) whole none_lost r (in_left r h)).1) ts touched_own

    keeps_of : (job' : Option Job) (lost : List ℕ) (shut : Bool) → (shut ≡ true → HasRisen old.own_faults new.own_faults × HasRisen old.faults new.faults)
        → Keeps (value_of old entry kept) (value_of new entry (record kept { job = job'; lost = lost; is_shut = shut }))
    keeps_of job' lost shut risen =
        written_keeps old new entry kept whole open_room ts ts_beside ts_below run.beside run.sound run.time (IsErrOf result refusal.Failed) run.counts run.read run.leaves job' lost shut risen

    -- nothing but the disk is another
    pub moved : IsWhole (value_of new entry kept)
    moved =
        moved_whole old new entry kept whole run.beside run.sound run.time run.counts.no_lower ts ts_beside
        (keeps_beside old new entry kept whole open_room ts ts_beside ts_below run.beside run.sound run.time (IsErrOf result refusal.Failed) run.counts run.read run.leaves) open_room run.dirties
        (still_held old new entry kept whole open_room ts ts_beside ts_below run.beside run.sound run.time (IsErrOf result refusal.Failed) run.counts run.read run.leaves)

    does_of : (job' : Option Job) → (IsErrOf result refusal.Failed → ⊥) → Does (record (value_of old entry kept).room { job = job' }) kept.target (value_of old entry kept) (value_of new entry (record kept { job = job' }))
    does_of job' fine = does _ _ open_room refl refl refl run.beside run.time run.counts fine

    -- ---- all is written

    pub ok_whole : IsWhole (value_of new entry (record kept { job = Some (written_on job (length bytes)) }))
    ok_whole =
        spare_whole (value_of new entry kept) moved (Some (written_on job (length bytes))) kept.free
        (subst (λ (j : Option Job). AreApart new.regions (taken (with_job (value_of new entry kept) j kept.free).room kept.target)) out moved.apart)
        (subst (λ (j : Option Job). kept.free ≡ regions_outside new.regions (taken (with_job (value_of new entry kept) j kept.free).room kept.target)) out moved.free)
        (record {
          before = is_job.before;
          after = is_job.after;
          neighbours = is_job.neighbours;
          untaken = λ e. absurd (let h : ◌≡◌ {A = Option Header} None (Some header) = sym e ∙ has in cc);
          is_taken = λ header' e. taken_more header' e;
        })
      where
        some_is : (x y : Header) → ◌≡◌ {A = Option Header} (Some x) (Some y) → x ≡ y
        some_is x y e = cc

        taken_more : (header' : Header) → job.header ≡ Some header' → IsTaken new.region_len (written_on job (length bytes)) header'
        taken_more header' e =
            let t = is_job.is_taken header' e in
            let same : header ≡ header' = some_is header header' (sym has ∙ e) in
            subst (λ n. IsTaken n (written_on job (length bytes)) header') (sym run.beside.region_len)
            (record { range = t.range; of_mark = t.of_mark; lies = t.lies; least = t.least; counted = t.counted; behind = t.behind; within = subst (λ (h : Header). job.written + length bytes ≤ body_len h) same within })

    held_ok : BothTold (λ a b. HasBody (part_of job.target header) job.written bytes a.bytes b.bytes) old.told new.told
        → held_for (option_map (λ (t : Told). t.bytes) new.told) (written_on job (length bytes)) ≡ option_map (λ held. held ++ bytes) (held_for (option_map (λ (t : Told). t.bytes) old.told) job)
    held_ok done = on' old.told new.told done whole.sound.told
      where
        on' : (x y : Option Told) → BothTold (λ a b. HasBody (part_of job.target header) job.written bytes a.bytes b.bytes) x y → IfSome x (IsToldOf old)
            → held_for (option_map (λ (t : Told). t.bytes) y) (written_on job (length bytes)) ≡ option_map (λ held. held ++ bytes) (held_for (option_map (λ (t : Told). t.bytes) x) job)
        on' None None d s = refl
        on' None (Some b) d s = absurd d
        on' (Some a) None d s = absurd d
        on' (Some a) (Some b) d s =
            let w : ℕ = job.written in
            let before : List ℕ = body_in a.bytes job.target header in
            let full = body_long old.region_len a.bytes (part_of job.target header) own_taken.lies (all_map (λ r. r < old.regions) (λ r. length (region_of a.bytes r) ≡ old.region_len) s.lengths rs own_below) in
            let long : length (take w before ++ bytes) ≡ w + length bytes = omega (arith, length-append (take w before) bytes, length-take w before, full, within) in
            let core : take (w + length bytes) (body_in b.bytes job.target header) ≡ take w before ++ bytes =
            ap (take (w + length bytes)) (d.body ∙ sym (append_assoc (take w before) bytes (drop (w + length bytes) before))) ∙ take_at (take w before ++ bytes) (drop (w + length bytes) before) (w + length bytes) long in
            ap (λ h. Some (held_by b.bytes job.target (w + length bytes) h)) has ∙ ap (λ bs. Some bs) core ∙ ap (λ h. Some (held_by a.bytes job.target w h ++ bytes)) (sym has)

    -- ---- memory ran out

    held_memory : KeepsFront (part_of job.target header) job.written old new → held_for (option_map (λ (t : Told). t.bytes) new.told) job ≡ held_for (option_map (λ (t : Told). t.bytes) old.told) job
    held_memory front = on' old.told new.told front
      where
        on' : (x y : Option Told) → BothTold (λ a b. take job.written (body_in b.bytes job.target header) ≡ take job.written (body_in a.bytes job.target header)) x y
            → held_for (option_map (λ (t : Told). t.bytes) y) job ≡ held_for (option_map (λ (t : Told). t.bytes) x) job
        on' None None d = refl
        on' None (Some b) d = absurd d
        on' (Some a) None d = absurd d
        on' (Some a) (Some b) d =
            ap (λ h. Some (held_by b.bytes job.target job.written h)) has ∙ ap (λ bs. Some bs) d ∙ ap (λ h. Some (held_by a.bytes job.target job.written h)) (sym has)

    memory_job : KeepsFront (part_of job.target header) job.written old new → KeepsJob (value_of old entry kept).room (value_of new entry kept).room
    memory_job front = record { job = refl; held = λ other e. subst (λ (j : Job). held_for (option_map (λ (t : Told). t.bytes) new.told) j ≡ held_for (option_map (λ (t : Told). t.bytes) old.told) j) (some_is job other (sym out ∙ e)) (held_memory front) }
      where
        some_is : (x y : Job) → ◌≡◌ {A = Option Job} (Some x) (Some y) → x ≡ y
        some_is x y e = cc

    -- ---- the disk failed

    module _ (failed : IsErrOf result refusal.Failed) (lost : List ℕ) (lost_is : lost ≡ set_of (touched old.region_len job header (length bytes))) where
      abbrev gone : List ℕ
      gone = filter (λ r. list_any (nat_eq r) lost) rs

      some : 1 ≤ length bytes
      some = run.some (ap (λ (r : Result (Unit {0}) DiskRefusal). is_err r) failed)

      in_lost : (r : ℕ) → r < 64 → list_any (nat_eq r) lost ≡ list_any (nat_eq r) (touched old.region_len job header (length bytes))
      in_lost r low = ap (list_any (nat_eq r)) lost_is ∙ among (λ n. list_any (nat_eq n) (touched old.region_len job header (length bytes))) r low

      lost_gone : lost ≡ set_of gone
      lost_gone = lost_is ∙ same_regions (λ r. list_any (nat_eq r) (touched old.region_len job header (length bytes))) (λ r. list_any (nat_eq r) gone) one
        where
          one : (r : ℕ) → r < 64 → list_any (nat_eq r) (touched old.region_len job header (length bytes)) ≡ list_any (nat_eq r) gone
          one r low =
              by (list_any (nat_eq r) (touched old.region_len job header (length bytes))) refl
              ∙ sym (any-filter_same (nat_eq r) (λ q. list_any (nat_eq q) lost) (list_any (nat_eq r) lost) (λ k e. ap (λ q. list_any (nat_eq q) lost) (sym (eqb-true r k e))) rs)
            where
              by : (b : Bool) → list_any (nat_eq r) (touched old.region_len job header (length bytes)) ≡ b → list_any (nat_eq r) (touched old.region_len job header (length bytes)) ≡ (list_any (nat_eq r) lost && list_any (nat_eq r) rs)
              by false e = e ∙ sym (ap (λ b. b && list_any (nat_eq r) rs) (in_lost r low ∙ e))
              by true e =
                  e ∙ sym (ap (λ b. b && list_any (nat_eq r) rs) (in_lost r low ∙ e) ∙ all_at (λ q. list_any (nat_eq q) rs ≡ true) r (touched old.region_len job header (length bytes)) touched_own e)

      gone_apart : AreApart old.regions gone
      gone_apart = fewer_apart old.regions rs gone (λ n. let p = times_parted n (λ r. list_any (nat_eq r) lost) rs in omega (arith, p)) own_apart

      pub lost_some : lost ≡ [] → ⊥
      lost_some e =
          let first : ℕ = (place_of old.region_len job.target header job.written).region in
          let there : list_any (nat_eq first) (touched old.region_len job header (length bytes)) ≡ true = first_lies old.region_len job.target header job.written (length bytes) some in
          let low : first < 64 = all_at (λ r. r < 64) first rs own_small (all_at (λ q. list_any (nat_eq q) rs ≡ true) first ts touched_own there) in
          true≢false (sym there ∙ sym (in_lost first low) ∙ ap (list_any (nat_eq first)) e)

      abbrev shut : Kept
      shut = record kept { lost = lost; is_shut = true }

      shut_times : SameTimes (taken (value_of old entry kept).room kept.target) (taken (value_of new entry (record kept { lost = lost; is_shut = true })).room kept.target)
      shut_times n =
          let t : List ℕ = option_to_list kept.target in
          let left' : List ℕ = job_left (value_of new entry (record kept { lost = lost; is_shut = true })).room in
          let a = times-append n t (job_left (value_of old entry kept).room ++ (kept.lost ++ held)) in
          let b = times-append n (job_left (value_of old entry kept).room) (kept.lost ++ held) in
          let c = times-append n kept.lost held in
          let z = ap (times n) none_lost ∙ times-none n in
          let l = ap (times n) left_is in
          let a' = times-append n t (left' ++ (lost ++ held)) in
          let b' = times-append n left' (lost ++ held) in
          let c' = times-append n lost held in
          let l' : times n left' ≡ times n (filter (λ r. not (list_any (nat_eq r) lost)) rs) = ap (λ xs. times n (filter (λ r. not (list_any (nat_eq r) lost)) xs)) rs_is in
          let p = times_parted n (λ r. list_any (nat_eq r) lost) rs in
          let s = ap (times n) lost_gone ∙ set_times old.regions gone whole.geometry.regions_high gone_apart n in
          omega (arith, a, b, c, z, l, a', b', c', l', p, s)

      pub risen : HasRisen old.own_faults new.own_faults × HasRisen old.faults new.faults
      risen = (run.counts.own_faults failed, run.counts.faults failed)

      read' : KeepsBeside ts old new
      read' = keeps_beside old new entry kept whole open_room ts ts_beside ts_below run.beside run.sound run.time (IsErrOf result refusal.Failed) run.counts run.read run.leaves

      pub shut_whole : IsWhole (value_of new entry (record kept { lost = lost; is_shut = true }))
      shut_whole = record {
        geometry = still_geometry old new run.beside whole.geometry;
        sound = run.sound;
        of_disk = refl;
        in_chain = whole.in_chain;
        ends = whole.ends;
        lie = moved_lie old new entry kept whole run.beside run.sound run.time run.counts.no_lower ts ts_beside read' (kept.parts ++ kept.retired) whole.lie;
        apart = subst (λ n. AreApart n (taken (value_of new entry shut).room kept.target)) (sym run.beside.regions)
            (same_apart old.regions (taken (value_of old entry kept).room kept.target) (taken (value_of new entry shut).room kept.target) shut_times whole.apart);
        free = whole.free ∙ same_outside old.regions (taken (value_of old entry kept).room kept.target) (taken (value_of new entry shut).room kept.target) shut_times ∙ ap (λ n. regions_outside n (taken (value_of new entry shut).room kept.target)) (sym run.beside.regions);
        rising = whole.rising;
        board = moved_board old new entry kept whole run.beside run.sound run.time run.counts.no_lower ts ts_beside read' shut refl whole.board.of_parts;
        epoch = epoch_stays (value_of old entry kept) (value_of new entry shut) whole.epoch run.beside.region_len whole.epoch.none (λ l. absurd (lost_some l)) whole.epoch.epoch;
        job = moved_job old new entry kept whole run.beside run.sound run.time run.counts.no_lower ts ts_beside read' shut refl refl;
        entry = moved_entry old new entry kept whole run.beside run.sound run.time run.counts.no_lower ts ts_beside read' shut
            (λ h. (risen_since entry.own_faults old.own_faults new.own_faults whole.entry.no_lower.1 risen.0, risen_since entry.faults old.faults new.faults whole.entry.no_lower.0 risen.1));
        lost = λ h. absurd (let e : true ≡ false = h in cc);
        unsynced = λ l. absurd (lost_some l);
        told = λ l. absurd (lost_some l);
      }

      pub writes_disk : WritesJob bytes (value_of old entry kept) (value_of new entry (record kept { lost = lost; is_shut = true })) job job header (Err room_fault.Disk)
      writes_disk = record {
        room = (
          refl,
          shuts _ _ open_room (ap (λ l. on (record (value_of old entry kept).room { is_shut = true; lost = l }) new) lost_is) refl refl run.beside run.time run.counts failed,
        );
        out = out;
        some = λ h e. some;
        dirties = run.dirties;
        read = run.read;
        leaves = run.leaves;
        beside = run.beside;
        keeps = keeps_of kept.job lost true (λ h. risen);
      }

    open_still : kept.is_shut ≡ true → HasRisen old.own_faults new.own_faults × HasRisen old.faults new.faults
    open_still h = absurd (cc)

    pub writes_memory : IsErrOf result refusal.NoMemory → WritesJob bytes (value_of old entry kept) (value_of new entry kept) job job header (Err room_fault.NoMemory)
    writes_memory e = record {
      room = (refl, does_of kept.job (λ f. let h : ◌≡◌ {A = Result (Unit {0}) DiskRefusal} (Err refusal.NoMemory) (Err refusal.Failed) = sym e ∙ f in cc), memory_job (run.kept e));
      out = out;
      some = λ h f. run.some (ap (λ (r : Result (Unit {0}) DiskRefusal). is_err r) e);
      dirties = run.dirties;
      read = run.read;
      leaves = run.leaves;
      beside = run.beside;
      keeps = keeps_of kept.job kept.lost kept.is_shut open_still;
    }

    pub writes_ok : (u : Unit {0}) → result ≡ Ok u → WritesJob bytes (value_of old entry kept) (value_of new entry (record kept { job = Some (written_on job (length bytes)) })) job (written_on job (length bytes)) header (Ok u)
    writes_ok u e = record {
      room = (
        refl,
        does_of (Some (written_on job (length bytes))) (λ f. let h : ◌≡◌ {A = Result (Unit {0}) DiskRefusal} (Ok u) (Err refusal.Failed) = sym e ∙ f in cc),
        held_ok (subst (λ (r : Result (Unit {0}) DiskRefusal). OnOk r (BothTold (λ a b. HasBody (part_of job.target header) job.written bytes a.bytes b.bytes) old.told new.told)) e run.done),
      );
      out = refl;
      some = λ h f. absurd (true≢false (sym f));
      dirties = run.dirties;
      read = run.read;
      leaves = run.leaves;
      beside = run.beside;
      keeps = keeps_of (Some (written_on job (length bytes))) kept.lost kept.is_shut open_still;
    }

-- offsets of a body are of 32 bits
pub body_fits : (at n region_len : ℕ) (header : Header) → LiesIn region_len header → at + n ≤ body_len header → at + n < 4294967296
body_fits at n region_len header l within =
    let r = laid region_len header l in
    let small = l.small in
    let most = mul-le (header.regions - 1) (region_len - 1) 7 67108864 (omega (arith, r.few)) (omega arith) in
    omega (arith, r.room, most, within)

-- a room that was shut before
pub writes_none : (bytes : List ℕ) (value : RoomValue) (job : Job) (header : Header) → IsWhole value → value.room.job ≡ Some job → value.room.is_shut ≡ true → WritesJob bytes value value job job header (Err (room_fault.Shut value.room.sealed))
writes_none bytes value job header whole out shut = record {
  room = (refl, (shut, refl, refl));
  out = out;
  some = λ open_room e. absurd (true≢false (sym shut ∙ open_room));
  dirties = dirties_none _ value.disk value.disk refl;
  read = reads_none _ value.disk value.disk refl;
  leaves = leaves_behind_none _ value.disk value.disk refl;
  beside = same_beside value.disk;
  keeps = keeps_none value whole;
}

-- A room behind each answer of sealing its merge.
use Rattle.std.proofs.Common.{◌≡◌, ◌≢◌, ℕ, suc, ◌+◌, ◌<◌, ◌≤◌, ◌||◌, true, false, List, [], ◌∷◌, ◌++◌, length, map, Some, None, Ok, Err, Result, refl, sym, ap, subst, ◌∙◌, inl, inr, arith, length-append, eq-eqb, true≢false}
use Rattle.std.specs.Prelude.{Any, Contains, IfSome, IsPermutation, OnOk, Option, cond, filter, nat_eq, nat_lt, not, option_map, option_to_list, ◌==◌}
use Rattle.std.specs.List.{AllByRecursion, list_any, position_or_len}
use Rattle.std.proofs.lemmas.List.Sorted.{IsPermutation-insert}
use Rattle.fine_model.specs.declared.Header.{Header}
use Rattle.fine_model.specs.declared.Job.{Job}
use Rattle.fine_model.specs.declared.Part.{Part}
use Rattle.fine_model.specs.declared.Row.{Row}
use Rattle.fine_model.specs.Becomes.{Becomes}
use Rattle.fine_model.specs.Boards.{set_of}
use Rattle.fine_model.specs.Chain.{AreRowsOf, chain_end, regions_of}
use Rattle.fine_model.specs.ChainLaws.{DiffersAt, part_of}
use Rattle.fine_model.specs.Headline.{ShowsSome}
use Rattle.fine_model.specs.History.{Commit}
use Rattle.fine_model.specs.Jobs.{held_for, job_left, job_regions, taken_by}
use Rattle.fine_model.specs.Merge.{merged}
use Rattle.fine_model.specs.Regions.{Image, continuations, header_bytes, region_of}
use Rattle.fine_model.specs.Room.{HoldsLive}
use Rattle.fine_model.proofs.Ordered.Nothing.{all_at, each_there}
use Rattle.fine_model.proofs.Ordered.Order.{all_map}
use Rattle.fine_model.proofs.Ordered.Times.{distinct_times, times, times-append, times-none, times-same, times_absent}
use Rattle.partition_hold.proofs.Bits.{among}
use Rattle.log_partition.specs.Written.{IsGood}
use Rattle.partition_index.specs.Parts.{LiesIn}
use Rattle.log_disk.specs.Disk.{BothTold, CountsOwn, Disk, HasRisen, IsImageNow, IsSound, IsToldOf, SameBeside, SameOutside, Told, clock_of, with_bytes}
use Rattle.log_disk.specs.Moments.{ContinuesOn, IsLeft, LeavesOnly}
use Rattle.log_disk.proofs.Moments.{now_since, synced_now}
use Rattle.log_disk.proofs.Writes.{same_outside_written}
use Rattle.epoch_room.specs.Gate.{DirtiesOnly, gate, HasBytes, IsSealing, KeepsBeside, LeavesSealing}
use Rattle.epoch_room.specs.Meaning.{GoesOnStanding, ShownInside, Stands}
use Rattle.epoch_room.specs.MergeSealing.{IsWrittenOut, SealsJob, SealsJobOr, merged_state, replaced, retire}
use Rattle.epoch_room.specs.Value.{Kept, all_regions, on, regions_outside, taken, value_of}
use Rattle.epoch_room.specs.Whole.{AreApart, AreRising, FollowOn, HoldsParts, IsJob, IsWhole, NamesWhole}
use Rattle.epoch_room.specs.declared.answers.RoomFault.TheVariants as room_fault
use Rattle.epoch_room.proofs.OpenEpochs.Behind.{as_told, both_and, some_behind}
use Rattle.epoch_room.proofs.RegionSets.Beside.{regions_together}
use Rattle.epoch_room.proofs.Views.Boarding.{AreAlike, AreBeside}
use Rattle.epoch_room.proofs.Counting.{both_few}
use Rattle.epoch_room.proofs.OpenEpochs.Ending.{alike_told, moved_board, moved_entry, moved_job, moved_lie, no_parts_unsynced, risen_since, still_geometry}
use Rattle.epoch_room.proofs.Erasures.LedParts.{lead_apart, set_times}
use Rattle.epoch_room.proofs.Merges.OpenedOver.{held_replaced, leads_keep, mergeable, now_agrees, now_no_longer, now_rows, over}
use Rattle.epoch_room.proofs.Merges.Retired.{all_moved, any_moved, end_merged, follow_merged, lead_place, merged_moves, regions_many, replaced_is, retire_long, retire_rising, times_moved}
use Rattle.epoch_room.proofs.Merges.SealingJobs.{IsOver, all_free, as_job, good, held_same, holds_both, later_mark, lead_beside, lead_there, long, not_stuck, over_gate, read_is, sealing_shows, written_now}
use Rattle.epoch_room.proofs.RegionSets.Taken.{SameTimes, same_apart, same_outside}
use Rattle.epoch_room.proofs.OpenEpochs.Torn.{HasOpened, sealed_bytes}
use Rattle.epoch_room.proofs.Merges.Written.{left_is, none_lost, own_apart, own_small, own_taken, rs_is}
use Rattle.epoch_room.proofs.Moved.{becomes_open, does, epoch_stays, shuts}
use Rattle.epoch_room.proofs.Carrying.{still_inside, still_stands}
use Rattle.epoch_room.specs.declared.answers.RoomFault.{RoomFault}

module _ (old entry : Disk) (kept : Kept) (whole : IsWhole (value_of old entry kept)) (open_room : kept.is_shut ≡ false) (job : Job) (out : kept.job ≡ Some job) (header : Header) (has : job.header ≡ Some header)
    (written : IsWrittenOut (value_of old entry kept).room job header) where
  abbrev rs : List ℕ
  rs = regions_of (part_of job.target header)

  abbrev pub own_job : IsJob (value_of old entry kept).room job
  own_job = as_job old entry kept whole open_room job out header has written

  abbrev pub both : List Part
  both = own_job.before ++ job.older ∷ job.newer ∷ own_job.after

  -- ---- the parts

  abbrev pub parts_now : List Part
  parts_now = replaced job.older.region (part_of job.target header) kept.parts

  abbrev pub retired_now : List Part
  retired_now = retire job.newer (retire job.older kept.retired)

  abbrev pub merged_kept : Kept
  merged_kept = record kept { parts = replaced job.older.region (part_of job.target header) kept.parts; retired = retire job.newer (retire job.older kept.retired); job = None }

  abbrev held : List ℕ
  held = all_regions (kept.parts ++ kept.retired)

  held_once : (n : ℕ) → times n held ≤ 1
  held_once n =
      let d = distinct_times (taken (value_of old entry kept).room kept.target) whole.apart.distinct n in
      let a = times-append n (option_to_list kept.target) (job_left (value_of old entry kept).room ++ (kept.lost ++ held)) in
      let b = times-append n (job_left (value_of old entry kept).room) (kept.lost ++ held) in
      let c = times-append n kept.lost held in
      omega (arith, d, a, b, c)

  -- how often a region stands in the parts: in those before, in both, behind them, and in the retired ones
  parted : (n : ℕ) → times n held ≡ times n (all_regions own_job.before) + (times n (regions_of job.older) + (times n (regions_of job.newer) + times n (all_regions own_job.after))) + times n (all_regions kept.retired)
  parted n =
      let a = ap (times n) (regions_together kept.parts kept.retired) ∙ times-append n (all_regions kept.parts) (all_regions kept.retired) in
      let b = ap (λ ps. times n (all_regions ps)) own_job.neighbours ∙ ap (times n) (regions_together own_job.before (job.older ∷ job.newer ∷ own_job.after)) ∙ times-append n (all_regions own_job.before) (all_regions (job.older ∷ job.newer ∷ own_job.after)) in
      let c = times-append n (regions_of job.older) (all_regions (job.newer ∷ own_job.after)) in
      let d = times-append n (regions_of job.newer) (all_regions own_job.after) in
      omega (arith, a, b, c, d)

  lead_once : (p : Part) → 1 ≤ times p.region (regions_of p)
  lead_once p = let s = times-same p.region (continuations p.header) in omega (arith, s)

  older_apart : AllByRecursion (λ q. q.region ≢ job.older.region) own_job.before
  older_apart = lead_apart job.older.region own_job.before
      (times_absent job.older.region (all_regions own_job.before) (let a = parted job.older.region in let b = held_once job.older.region in let c = lead_once job.older in omega (arith, a, b, c)))

  retired_apart : (p : Part) → 1 ≤ times p.region (regions_of job.older) + times p.region (regions_of job.newer) → AllByRecursion (λ q. q.region ≢ p.region) kept.retired
  retired_apart p some = lead_apart p.region kept.retired (times_absent p.region (all_regions kept.retired) (let a = parted p.region in let b = held_once p.region in omega (arith, a, b, some)))

  newer_apart : AllByRecursion (λ q. q.region ≢ job.newer.region) (retire job.older kept.retired)
  newer_apart = all_moved (λ q. q.region ≢ job.newer.region) (job.older ∷ kept.retired) (retire job.older kept.retired) moves (differ, retired_apart job.newer (let c = lead_once job.newer in omega (arith, c)))
    where
      moves : IsPermutation (job.older ∷ kept.retired) (retire job.older kept.retired)
      moves = IsPermutation-insert kept.retired (position_or_len (λ q. nat_lt job.older.region q.region) kept.retired) job.older

      differ : job.older.region ≢ job.newer.region
      differ e =
          let a = parted job.newer.region in
          let b = held_once job.newer.region in
          let c = lead_once job.newer in
          let d = subst (λ n. 1 ≤ times n (regions_of job.older)) e (lead_once job.older) in
          omega (arith, a, b, c, d)

  pub parts_is : replaced job.older.region (part_of job.target header) kept.parts ≡ own_job.before ++ part_of job.target header ∷ own_job.after
  parts_is = ap (replaced job.older.region (part_of job.target header)) own_job.neighbours ∙ replaced_is own_job.before job.older job.newer own_job.after (part_of job.target header) older_apart

  -- the older part is in the chain, and not the last one
  pub older_place : position_or_len (λ q. q.region == job.older.region) kept.parts + 1 < length kept.parts
  older_place = subst (λ ps. position_or_len (λ q. q.region == job.older.region) ps + 1 < length ps) (sym own_job.neighbours) (lead_place own_job.before job.older job.newer own_job.after)

  -- there is room for both among the retired ones
  pub retired_room : length kept.retired + 2 ≤ 64
  retired_room =
      let f = both_few (value_of old entry kept) whole in
      let p = regions_many kept.parts in
      let r = regions_many kept.retired in
      let l = ap length own_job.neighbours in
      let a = length-append own_job.before (job.older ∷ job.newer ∷ own_job.after) in
      let g = whole.geometry.regions_high in
      omega (arith, f, p, r, l, a, g)

  pub once_more : length (retire job.older kept.retired) ≡ length kept.retired + 1
  once_more = retire_long job.older kept.retired

  rising_now : AreRising (map (λ q. q.region) (retire job.newer (retire job.older kept.retired)))
  rising_now = retire_rising job.newer (retire job.older kept.retired) newer_apart (retire_rising job.older kept.retired (retired_apart job.older (let c = lead_once job.older in omega (arith, c))) whole.rising)

  moves_both : IsPermutation (part_of job.target header ∷ (both ++ kept.retired)) ((own_job.before ++ part_of job.target header ∷ own_job.after) ++ retired_now)
  moves_both = merged_moves own_job.before job.older job.newer own_job.after kept.retired (part_of job.target header)

  pub moves_now : IsPermutation (part_of job.target header ∷ (both ++ kept.retired)) (parts_now ++ retired_now)
  moves_now = subst (λ ps. IsPermutation (part_of job.target header ∷ (both ++ kept.retired)) (ps ++ retired_now)) (sym parts_is) moves_both

  moves : IsPermutation (part_of job.target header ∷ (kept.parts ++ kept.retired)) (parts_now ++ retired_now)
  moves = subst (λ ps. IsPermutation (part_of job.target header ∷ (ps ++ kept.retired)) (parts_now ++ retired_now)) (sym own_job.neighbours) moves_now

  first_now : header.range.first ≡ job.older.header.range.first
  first_now = ap (λ r. r.first) (own_taken old entry kept whole open_room job out header has).range

  last_now : header.range.last ≡ job.newer.header.range.last
  last_now = ap (λ r. r.last) (own_taken old entry kept whole open_room job out header has).range

  same_end : chain_end parts_now ≡ chain_end kept.parts
  same_end = ap chain_end parts_is ∙ end_merged own_job.before job.older job.newer own_job.after (part_of job.target header) 0 last_now ∙ ap chain_end (sym own_job.neighbours)

  follow_now : FollowOn 1 parts_now
  follow_now =
      subst (FollowOn 1) (sym parts_is)
      (follow_merged own_job.before job.older job.newer own_job.after (part_of job.target header) 1 first_now last_now (subst (FollowOn 1) own_job.neighbours whole.in_chain.follow))

  -- ---- the disk

  module _ (new : Disk) (same : SameBeside old new) (sound : IsSound new) (time : ContinuesOn old new) (failed : Type 0) (counts : CountsOwn failed old new) (read : KeepsBeside (job.target ∷ []) old new)
      (leaves : LeavesSealing job.target (header_bytes old.region_len header) old new) where
    abbrev Holds : Image → Type 0
    Holds image = HoldsParts old.region_len image kept.parts kept.retired

    beside : AreBeside (job.target ∷ []) (kept.parts ++ kept.retired)
    beside = lead_beside old entry kept whole open_room job out header has written

    record Run (a b : Told) : Type 0 where
      told : IsToldOf old a
      told' : IsToldOf new b
      left : IsLeft Holds a
      is_now : (value_of old entry kept).room.image ≡ Some a.bytes
      differs : DiffersAt job.target a.bytes b.bytes
      crashes : LeavesOnly (IsSealing job.target (header_bytes old.region_len header) a) a b

    runs : BothTold Run old.told new.told
    runs = on' old.told new.told refl (alike_told old new (job.target ∷ []) whole.sound sound same read) leaves whole.sound.told sound.told (whole.told (whole.lost open_room))
      where
        other : (m n : ℕ) → m ≢ n → (nat_eq m n || false) ≡ false
        other m n h = grind (arith, h)

        on' : (y z : Option Told) → option_map (λ (t : Told). t.bytes) old.told ≡ option_map (λ (t : Told). t.bytes) y → BothTold (AreAlike (job.target ∷ [])) y z → BothTold (λ a b. LeavesOnly (IsSealing job.target (header_bytes old.region_len header) a) a b) y z
            → IfSome y (IsToldOf old) → IfSome z (IsToldOf new) → IfSome y (IsLeft Holds) → BothTold Run y z
        on' None None e p q s t h = tt
        on' None (Some b) e p q s t h = absurd p
        on' (Some a) None e p q s t h = absurd p
        on' (Some a) (Some b) e p q s t h = record { told = s; told' = t; left = h; is_now = e; differs = record { as_many = p.0; others = λ r ne. p.1 r (other r job.target ne) }; crashes = q }

    shows_at : (a b : Told) → Run a b → (first : List Row) (history : List Commit) (low high : ℕ) → ((was : Image) → IsImageNow a was → ShowsSome old.region_len first history low high was)
        → (image : Image) → IsSealing job.target (header_bytes old.region_len header) a image → ShowsSome old.region_len first history low high image
    shows_at a b r first history low high shown image sealing = sealing_shows old entry kept whole open_room job out header has written a r.told r.left r.is_now first history low high shown image sealing

    pub inside : (first : List Row) (e : ℕ) (history : List Commit) → Stands (value_of old entry kept) first e history → ShownInside (value_of old entry kept) old.told new.told first e history
    inside = still_inside old new entry kept whole open_room same Run runs (IsSealing job.target (header_bytes old.region_len header)) (λ a b r. r.crashes) shows_at

    -- such a room could take something, so it may become any that is not behind it
    becomes : (kept' : Kept) → kept.sealed ≡ kept'.sealed → kept.places ≡ kept'.places → (kept'.is_shut ≡ true → HasRisen old.own_faults new.own_faults × HasRisen old.faults new.faults) → Becomes (value_of old entry kept).room (value_of new entry kept').room
    becomes kept' sealed places risen = becomes_open old new kept kept' same counts.no_lower (as_told Run old.told new.told runs) open_room (omega (arith, sealed)) places risen (λ s. absurd (not_stuck old entry kept whole open_room job out header has written s))

    -- what is so of each answer
    seals : (kept' : Kept) (result : Result (Unit {0}) (RoomFault × Job)) → SealsJobOr (value_of old entry kept) (value_of new entry kept') job header result → DirtiesOnly (job.target ∷ []) old new
        → OnOk result (HasBytes (λ image. with_bytes (with_bytes image job.target 1 (header_bytes old.region_len header)) job.target 0 gate) old new) → GoesOnStanding (value_of old entry kept) (value_of new entry kept') → kept.sealed ≡ kept'.sealed → kept.places ≡ kept'.places
        → (kept'.is_shut ≡ true → HasRisen old.own_faults new.own_faults × HasRisen old.faults new.faults) → SealsJob (value_of old entry kept) (value_of new entry kept') job header result
    seals kept' result room dirties bytes stands sealed places risen = record {
      room = room;
      beside = same;
      read = read;
      dirties = dirties;
      leaves = leaves;
      bytes = bytes;
      keeps = record { stands = stands; inside = inside; becomes = becomes kept' sealed places risen; time = time };
    }

    -- ---- the disk failed

    module _ (f : failed) (lost : List ℕ) (lost_is : lost ≡ set_of (job_regions (Some job))) where
      lost_rs : lost ≡ set_of rs
      lost_rs = lost_is ∙ ap set_of (ap (λ h. taken_by job.target h) has)

      abbrev shut : Kept
      shut = record kept { lost = lost; is_shut = true }

      lead_lost : list_any (nat_eq job.target) lost ≡ true
      lead_lost =
          ap (list_any (nat_eq job.target)) lost_rs ∙ among (λ n. list_any (nat_eq n) rs) job.target (own_small old entry kept whole open_room job out header has).0
          ∙ ap (λ b. b || list_any (nat_eq job.target) (continuations header)) (eq-eqb job.target job.target refl)

      lost_some : lost ≡ [] → ⊥
      lost_some e = true≢false (sym lead_lost ∙ ap (list_any (nat_eq job.target)) e)

      -- nothing of the job is left
      none_left : (n : ℕ) → times n (job_left (value_of new entry shut).room) ≡ 0
      none_left n = ap (λ xs. times n (filter (λ r. not (list_any (nat_eq r) lost)) xs)) (rs_is old entry kept whole open_room job out header has) ∙ absent n (own_small old entry kept whole open_room job out header has)
        where
          in_lost : (r : ℕ) → r < 64 → list_any (nat_eq r) rs ≡ true → list_any (nat_eq r) lost ≡ true
          in_lost r low there = ap (list_any (nat_eq r)) lost_rs ∙ among (λ m. list_any (nat_eq m) rs) r low ∙ there

          dropped : (xs : List ℕ) → AllByRecursion (λ r. list_any (nat_eq r) lost ≡ true) xs → filter (λ r. not (list_any (nat_eq r) lost)) xs ≡ []
          dropped [] all = refl
          dropped (x ∷ xs) all = ap (λ b. cond (not b) (x ∷ filter (λ r. not (list_any (nat_eq r) lost)) xs) (filter (λ r. not (list_any (nat_eq r) lost)) xs)) all.0 ∙ dropped xs all.1

          absent : (n : ℕ) → AllByRecursion (λ r. r < 64) rs → times n (filter (λ r. not (list_any (nat_eq r) lost)) rs) ≡ 0
          absent n small =
              ap (times n)
              (dropped rs (all_map (λ r. list_any (nat_eq r) rs ≡ true) (λ r. list_any (nat_eq r) lost ≡ true) (λ r there. in_lost r (all_at (λ q. q < 64) r rs small there) there) rs (each_there rs)))
              ∙ times-none n

      shut_times : SameTimes (taken (value_of old entry kept).room kept.target) (taken (value_of new entry shut).room kept.target)
      shut_times n =
          let t : List ℕ = option_to_list kept.target in
          let left' : List ℕ = job_left (value_of new entry shut).room in
          let a = times-append n t (job_left (value_of old entry kept).room ++ (kept.lost ++ held)) in
          let b = times-append n (job_left (value_of old entry kept).room) (kept.lost ++ held) in
          let c = times-append n kept.lost held in
          let z = ap (times n) (none_lost old entry kept whole open_room job out header has) ∙ times-none n in
          let l = ap (times n) (left_is old entry kept whole open_room job out header has) in
          let a' = times-append n t (left' ++ (lost ++ held)) in
          let b' = times-append n left' (lost ++ held) in
          let c' = times-append n lost held in
          let l' = none_left n in
          let s = ap (times n) lost_rs ∙ set_times old.regions rs whole.geometry.regions_high (own_apart old entry kept whole open_room job out header has) n in
          omega (arith, a, b, c, z, l, a', b', c', l', s)

      risen : HasRisen old.own_faults new.own_faults × HasRisen old.faults new.faults
      risen = (counts.own_faults f, counts.faults f)

      pub shut_whole : IsWhole (value_of new entry (record kept { lost = lost; is_shut = true }))
      shut_whole = record {
        geometry = still_geometry old new same whole.geometry;
        sound = sound;
        of_disk = refl;
        in_chain = whole.in_chain;
        ends = whole.ends;
        lie = moved_lie old new entry kept whole same sound time counts.no_lower (job.target ∷ []) beside read (kept.parts ++ kept.retired) whole.lie;
        apart = subst (λ n. AreApart n (taken (value_of new entry shut).room kept.target)) (sym same.regions)
            (same_apart old.regions (taken (value_of old entry kept).room kept.target) (taken (value_of new entry shut).room kept.target) shut_times whole.apart);
        free = whole.free ∙ same_outside old.regions (taken (value_of old entry kept).room kept.target) (taken (value_of new entry shut).room kept.target) shut_times ∙ ap (λ n. regions_outside n (taken (value_of new entry shut).room kept.target)) (sym same.regions);
        rising = whole.rising;
        board = moved_board old new entry kept whole same sound time counts.no_lower (job.target ∷ []) beside read shut refl whole.board.of_parts;
        epoch = epoch_stays (value_of old entry kept) (value_of new entry shut) whole.epoch same.region_len whole.epoch.none (λ l. absurd (lost_some l)) whole.epoch.epoch;
        job = moved_job old new entry kept whole same sound time counts.no_lower (job.target ∷ []) beside read shut refl refl;
        entry = moved_entry old new entry kept whole same sound time counts.no_lower (job.target ∷ []) beside read shut
            (λ h. (risen_since entry.own_faults old.own_faults new.own_faults whole.entry.no_lower.1 risen.0, risen_since entry.faults old.faults new.faults whole.entry.no_lower.0 risen.1));
        lost = λ h. absurd (true≢false h);
        unsynced = λ l. absurd (lost_some l);
        told = λ l. absurd (lost_some l);
      }

      -- the parts keep their rows, whether the gate is open or not
      kept_rows : (a b : Told) → Run a b → (rows : List Row) → AreRowsOf old.region_len a.bytes kept.parts rows → AreRowsOf old.region_len b.bytes kept.parts rows
      kept_rows a b r rows are =
          elim (read_is old entry kept whole open_room job out header has written a r.told r.left r.is_now b.bytes r.differs (r.crashes.each b.bytes (now_since (clock_of a) b b.bytes r.crashes.later r.told'.image))) as (λ _. AreRowsOf old.region_len b.bytes kept.parts rows) [
            | inl alike ↦ alike.rows kept.parts rows are
            | inr o ↦ leads_keep old.region_len a.bytes b.bytes
                (over old.region_len a.bytes job header has own_job.before job.older job.newer own_job.after kept.retired (good_at a r.told) (later_mark old entry kept whole open_room job out header has written) (own_taken old entry kept whole open_room job out header has).range
                (holds_both old entry kept whole open_room job out header has written a.bytes (r.left a.bytes r.told.image)) (all_free old entry kept whole open_room job out header has written a.bytes r.told.regions (r.left a.bytes r.told.image)) b.bytes o.opened).leads kept.parts rows are
          ]
        where
          good_at : (a : Told) → IsToldOf old a → IsGood old.region_len (length a.bytes) job.target header
          good_at a told = subst (λ n. IsGood old.region_len n job.target header) (sym told.regions) (good old entry kept whole open_room job out header has written)

      shut_stands : GoesOnStanding (value_of old entry kept) (value_of new entry shut)
      shut_stands =
          still_stands old new entry kept whole open_room same Run runs (IsSealing job.target (header_bytes old.region_len header)) (λ a b r. r.crashes) shows_at
          (λ a b r log h. record { rows = h.rows; are_rows = kept_rows a b r h.rows h.are_rows; agrees = h.agrees; no_longer = h.no_longer })

      pub seals_disk : DirtiesOnly (job.target ∷ []) old new → SealsJob (value_of old entry kept) (value_of new entry (record kept { lost = lost; is_shut = true })) job header (Err (room_fault.Disk, job))
      seals_disk dirties = seals shut (Err (room_fault.Disk, job)) (refl, shuts _ _ open_room (ap (λ l. on (record (value_of old entry kept).room { is_shut = true; lost = l }) new) lost_is) refl refl same time counts f) dirties tt shut_stands refl refl (λ h. risen)

    -- ---- the part was sealed

    module _ (synced : new.unsynced ≡ []) (bytes : HasBytes (λ image. with_bytes (with_bytes image job.target 1 (header_bytes old.region_len header)) job.target 0 gate) old new) where
      abbrev Opens : Told → Told → Type 0
      Opens a b = Run a b × (b.bytes ≡ with_bytes (with_bytes a.bytes job.target 1 (header_bytes old.region_len header)) job.target 0 gate)

      opens : BothTold Opens old.told new.told
      opens = both_and Run (λ a b. b.bytes ≡ with_bytes (with_bytes a.bytes job.target 1 (header_bytes old.region_len header)) job.target 0 gate) old.told new.told runs bytes

      is_over : (a b : Told) → Opens a b → IsOver old.region_len job header a.bytes b.bytes
      is_over a b o =
          let there : job.target < length a.bytes = let t = lead_there old entry kept whole open_room job out header has written in let l = o.0.told.regions in omega (arith, t, l) in
          let room : 1 + length (header_bytes old.region_len header) ≤ length (region_of a.bytes job.target) = long old entry kept whole open_room job out header has written a o.0.told o.0.left o.0.is_now in
          let w = same_outside_written a.bytes job.target 1 (header_bytes old.region_len header) there room in
          let g : SameOutside job.target 0 1 (with_bytes a.bytes job.target 1 (header_bytes old.region_len header)) (with_bytes (with_bytes a.bytes job.target 1 (header_bytes old.region_len header)) job.target 0 gate) =
          same_outside_written (with_bytes a.bytes job.target 1 (header_bytes old.region_len header)) job.target 0 gate (let l = w.regions in omega (arith, there, l)) (let l = w.lengths job.target in omega (arith, room, l)) in
          over_gate old entry kept whole open_room job out header has written a o.0.told o.0.left o.0.is_now b.bytes
          (subst (λ (i : Image). SameOutside job.target 0 1 (with_bytes a.bytes job.target 1 (header_bytes old.region_len header)) i) (sym o.1) g)
          (subst (HasOpened job.target (header_bytes old.region_len header) a.bytes) (sym o.1) (sealed_bytes job.target (header_bytes old.region_len header) a.bytes there room))

      good_of : (a : Told) → IsToldOf old a → IsGood old.region_len (length a.bytes) job.target header
      good_of a told = subst (λ n. IsGood old.region_len n job.target header) (sym told.regions) (good old entry kept whole open_room job out header has written)

      held_now' : IfSome new.told (IsLeft (λ image. HoldsParts new.region_len image parts_now retired_now))
      held_now' = some_behind (IsLeft (λ image. HoldsParts new.region_len image parts_now retired_now)) old.told new.told opens one
        where
          one : (a b : Told) → Opens a b → IsLeft (λ image. HoldsParts new.region_len image parts_now retired_now) b
          one a b o image now =
              let still : image ≡ b.bytes = synced_now new b b image o.0.told' (inl (synced, refl)) now in
              subst (λ n. HoldsParts n image parts_now retired_now) (sym same.region_len)
              (subst (λ (i : Image). HoldsParts old.region_len i parts_now retired_now) (sym still)
              (held_replaced old.region_len a.bytes job header has own_job.before job.older job.newer own_job.after kept.retired (good_of a o.0.told) (later_mark old entry kept whole open_room job out header has written) (own_taken old entry kept whole open_room job out header has).range
              (holds_both old entry kept whole open_room job out header has written a.bytes (o.0.left a.bytes o.0.told.image)) (all_free old entry kept whole open_room job out header has written a.bytes o.0.told.regions (o.0.left a.bytes o.0.told.image)) b.bytes (is_over a b o).opened
              parts_now retired_now parts_is moves_now))

      -- the job's regions are the new part's
      merged_times : SameTimes (taken (value_of old entry kept).room kept.target) (taken (value_of new entry merged_kept).room kept.target)
      merged_times n =
          let t : List ℕ = option_to_list kept.target in
          let now : List ℕ = all_regions (parts_now ++ retired_now) in
          let a = times-append n t (job_left (value_of old entry kept).room ++ (kept.lost ++ held)) in
          let b = times-append n (job_left (value_of old entry kept).room) (kept.lost ++ held) in
          let c = times-append n kept.lost held in
          let l = ap (times n) (left_is old entry kept whole open_room job out header has) in
          let a' = times-append n t (job_left (value_of new entry merged_kept).room ++ (kept.lost ++ now)) in
          let c' = times-append n kept.lost now in
          let m = times_moved n (part_of job.target header ∷ (kept.parts ++ kept.retired)) (parts_now ++ retired_now) moves in
          let p = times-append n rs held in
          omega (arith, a, b, c, l, a', c', m, p)

      pub merged_whole : IsWhole (value_of new entry (record kept { parts = replaced job.older.region (part_of job.target header) kept.parts; retired = retire job.newer (retire job.older kept.retired); job = None }))
      merged_whole = record {
        geometry = still_geometry old new same whole.geometry;
        sound = sound;
        of_disk = refl;
        in_chain = record { follow = follow_now };
        ends = whole.ends ∙ sym same_end;
        lie = moved_lie old new entry kept whole same sound time counts.no_lower (job.target ∷ []) beside read (parts_now ++ retired_now)
            (all_moved (λ (p : Part). LiesIn old.region_len p.header) (part_of job.target header ∷ (kept.parts ++ kept.retired)) (parts_now ++ retired_now) moves ((own_taken old entry kept whole open_room job out header has).lies, whole.lie));
        apart = subst (λ n. AreApart n (taken (value_of new entry merged_kept).room kept.target)) (sym same.regions)
            (same_apart old.regions (taken (value_of old entry kept).room kept.target) (taken (value_of new entry merged_kept).room kept.target) merged_times whole.apart);
        free = whole.free ∙ same_outside old.regions (taken (value_of old entry kept).room kept.target) (taken (value_of new entry merged_kept).room kept.target) merged_times ∙ ap (λ n. regions_outside n (taken (value_of new entry merged_kept).room kept.target)) (sym same.regions);
        rising = rising_now;
        board = moved_board old new entry kept whole same sound time counts.no_lower (job.target ∷ []) beside read merged_kept refl
            (all_map (NamesWhole (kept.parts ++ kept.retired)) (NamesWhole (parts_now ++ retired_now)) named_still (value_of old entry kept).room.eyes whole.board.of_parts);
        epoch = epoch_stays (value_of old entry kept) (value_of new entry merged_kept) whole.epoch same.region_len whole.epoch.none whole.epoch.some whole.epoch.epoch;
        job = tt;
        entry = moved_entry old new entry kept whole same sound time counts.no_lower (job.target ∷ []) beside read merged_kept (λ h. absurd (true≢false (sym h ∙ open_room)));
        lost = whole.lost;
        unsynced = λ l. no_parts_unsynced new (parts_now ++ retired_now) synced;
        told = λ l. held_now';
      }
        where
          any_more : (P : Part → Type 0) → Any P (kept.parts ++ kept.retired) → Any P (part_of job.target header ∷ (kept.parts ++ kept.retired))
          any_more P any = (suc any.0, any.1, let l = any.2 in omega (arith, l), any.3, any.4)

          named_still : (eye : ℕ × List ℕ) → NamesWhole (kept.parts ++ kept.retired) eye → NamesWhole (parts_now ++ retired_now) eye
          named_still eye names =
              all_map (λ r. Any (λ p. Contains (regions_of p) r × AllByRecursion (Contains eye.1) (regions_of p)) (kept.parts ++ kept.retired)) (λ r. Any (λ p. Contains (regions_of p) r × AllByRecursion (Contains eye.1) (regions_of p)) (parts_now ++ retired_now))
              (λ r any. any_moved (λ p. Contains (regions_of p) r × AllByRecursion (Contains eye.1) (regions_of p)) (part_of job.target header ∷ (kept.parts ++ kept.retired)) (parts_now ++ retired_now) moves (any_more (λ p. Contains (regions_of p) r × AllByRecursion (Contains eye.1) (regions_of p)) any)) eye.1 names

      -- what was written for the job is the new part's body
      held_still : held_for (option_map (λ (t : Told). t.bytes) new.told) job ≡ held_for (option_map (λ (t : Told). t.bytes) old.told) job
      held_still = held_same job header has old.told new.told opens (λ a b o. (is_over a b o).body)

      live_now : (a b : Told) → Opens a b → (log : List Row) → HoldsLive (value_of old entry kept).room a.bytes log → HoldsLive (record (value_of old entry kept).room { parts = parts_now; retired = retired_now; job = None }) b.bytes log
      live_now a b o log live =
          let are = mergeable old.region_len a.bytes job header own_job.before job.older job.newer own_job.after (written_now old entry kept whole open_room job out header has written a.bytes o.0.is_now) live.rows
          (subst (λ ps. AreRowsOf old.region_len a.bytes ps live.rows) own_job.neighbours live.are_rows) in
          let over' = is_over a b o in
          let range = (own_taken old entry kept whole open_room job out header has).range in
          let later = later_mark old entry kept whole open_room job out header has written in
          let holds = holds_both old entry kept whole open_room job out header has written a.bytes (o.0.left a.bytes o.0.told.image) in
          let free = all_free old entry kept whole open_room job out header has written a.bytes o.0.told.regions (o.0.left a.bytes o.0.told.image) in
          record {
            rows = are.first ++ (merged are.o are.n ++ are.last);
            are_rows = subst (λ ps. AreRowsOf old.region_len b.bytes ps (are.first ++ (merged are.o are.n ++ are.last))) (sym parts_is)
                (now_rows old.region_len a.bytes job header has own_job.before job.older job.newer own_job.after kept.retired (good_of a o.0.told) later range holds free b.bytes over'.opened over'.body live.rows are);
            agrees = now_agrees old.region_len a.bytes job header has own_job.before job.older job.newer own_job.after kept.retired (good_of a o.0.told) later range holds free b.bytes over'.opened over'.body live.rows are log live.agrees;
            no_longer = let l = now_no_longer old.region_len a.bytes job header has own_job.before job.older job.newer own_job.after kept.retired (good_of a o.0.told) later range holds free b.bytes over'.opened over'.body live.rows are in
                let m = live.no_longer in omega (arith, l, m);
          }

      merged_stands : GoesOnStanding (value_of old entry kept) (value_of new entry merged_kept)
      merged_stands = still_stands old new entry kept whole open_room same Opens opens (IsSealing job.target (header_bytes old.region_len header)) (λ a b o. o.0.crashes) (λ a b o. shows_at a b o.0) live_now

      pub seals_ok : (failed → ⊥) → DirtiesOnly (job.target ∷ []) old new → (u : Unit {0})
          → SealsJob (value_of old entry kept) (value_of new entry (record kept { parts = replaced job.older.region (part_of job.target header) kept.parts; retired = retire job.newer (retire job.older kept.retired); job = None })) job header (Ok u)
      unfolding merged_state
      seals_ok fine dirties u = seals merged_kept (Ok u) (synced, does _ _ open_room refl refl refl same time counts fine, held_still) dirties bytes merged_stands refl refl (λ h. absurd (true≢false (sym h ∙ open_room)))

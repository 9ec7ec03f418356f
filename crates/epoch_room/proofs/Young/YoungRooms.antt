-- A room behind each answer of sealing the gathered rows of its youngest parts.
use Rattle.std.proofs.Common.{◌≡◌, ◌≢◌, ◌⊎◌, ℕ, suc, ◌+◌, ◌<◌, ◌≤◌, ◌||◌, Bool, true, false, List, [], ◌∷◌, ◌++◌, drop, length, take, Some, None, Ok, Err, Result, refl, sym, ap, subst, ◌∙◌, inl, inr, arith, true≢false}
use Rattle.std.specs.Prelude.{Any, Contains, IfSome, IsPermutation, Option, nat_eq, option_map}
use Rattle.std.specs.List.{AllByRecursion}
use Rattle.std.proofs.lemmas.Bool.{not-true}
use Rattle.fine_model.specs.declared.Job.{Job}
use Rattle.fine_model.specs.declared.Part.{Part}
use Rattle.fine_model.specs.declared.Row.{Row}
use Rattle.fine_model.specs.Becomes.{Becomes}
use Rattle.fine_model.specs.Boards.{set_of}
use Rattle.fine_model.specs.Chain.{AreRowsOf, is_free, regions_of}
use Rattle.fine_model.specs.ChainLaws.{DiffersAt, DiffersBehind, ShowsAlike}
use Rattle.fine_model.specs.Headline.{ShowsSome}
use Rattle.fine_model.specs.History.{Commit}
use Rattle.fine_model.specs.Nodes.{Agrees}
use Rattle.fine_model.specs.Regions.{Image, is_sealed, region_of}
use Rattle.fine_model.specs.RowBytes.{rows_len}
use Rattle.fine_model.specs.Room.{HoldsLive}
use Rattle.fine_model.proofs.Chain.Closed.{closed_law}
use Rattle.fine_model.proofs.Ordered.Order.{all_map, first_of_both}
use Rattle.partition_index.specs.Parts.{LiesIn}
use Rattle.row_gathering.specs.Gathering.{AreGathered}
use Rattle.log_disk.specs.Disk.{BothTold, CountsOwn, Disk, HasRisen, IsImageNow, IsSound, IsToldOf, OnlyFails, SameBeside, SameOutside, Told, clock_of, with_bytes}
use Rattle.log_disk.specs.Moments.{ContinuesOn, IsLeft, LeavesOnly}
use Rattle.log_disk.proofs.Moments.{now_since, synced_now}
use Rattle.log_disk.proofs.Writes.{same_outside_written}
use Rattle.epoch_room.specs.Gate.{DirtiesOnly, HasBytes, IsAtGate, IsSealing, IsUngated, KeepsBeside, LeavesBehind, LeavesSealing, ReadsBehind, gate}
use Rattle.epoch_room.specs.Gathering.{AreYoung, GathersOr, GathersYoung, HoldsGathered, WereGathered, gathered_part, gathered_state, retire_all}
use Rattle.epoch_room.specs.Meaning.{GoesOnStanding, Keeps, ShownInside, Stands}
use Rattle.epoch_room.specs.Steps.{Does}
use Rattle.epoch_room.specs.Value.{Kept, RoomValue, on, regions_outside, taken, value_of}
use Rattle.epoch_room.specs.Whole.{AreApart, HoldsParts, IsJob, IsWhole, NamesWhole}
use Rattle.epoch_room.specs.declared.answers.RoomFault.{RoomFault}
use Rattle.epoch_room.specs.declared.answers.RoomFault.TheVariants as room_fault
use Rattle.epoch_room.proofs.OpenEpochs.Behind.{as_told, both_and, keeps_none, same_beside, some_behind}
use Rattle.epoch_room.proofs.OpenEpochs.BehindGates.{torn_alike}
use Rattle.epoch_room.proofs.Views.Boarding.{AreAlike, AreBeside}
use Rattle.epoch_room.proofs.Carrying.{still_inside, still_stands}
use Rattle.epoch_room.proofs.OpenEpochs.Ending.{alike_told, moved_board, moved_entry, moved_lie, moved_whole, no_parts_unsynced, risen_since, still_geometry}
use Rattle.epoch_room.proofs.OpenEpochs.Gates.{behind}
use Rattle.epoch_room.proofs.OpenEpochs.Holding.{free_of}
use Rattle.epoch_room.proofs.Moved.{becomes_open, does, epoch_stays, shuts}
use Rattle.epoch_room.proofs.Merges.OpenedOver.{leads_keep}
use Rattle.epoch_room.proofs.Merges.Retired.{all_moved, any_moved}
use Rattle.epoch_room.proofs.RegionSets.Taken.{SameTimes, same_apart, same_outside}
use Rattle.epoch_room.proofs.OpenEpochs.Torn.{HasClosed, HasOpened, at_gate, sealed_bytes, torn_closed}
use Rattle.epoch_room.proofs.RegionSets.Touching.{beside_told}
use Rattle.epoch_room.proofs.Views.Viewed.{failed_keeps, failed_shuts}
use Rattle.epoch_room.proofs.Merges.Writing.{still_held, written_keeps}
use Rattle.epoch_room.proofs.Young.YoungImages.{young_header, young_held, young_over, young_rows, young_sealed, young_shows}
use Rattle.epoch_room.proofs.Young.YoungKept.{CanGather, beside, bytes_fit, follow_now, gathered_times, left, lies, lost_is, lost_times, moves, moves_both, not_held, not_stuck, own_apart, rising_now, same_end, there, young}
use Rattle.epoch_room.proofs.Young.YoungRows.{alike, are_joined, young_agrees, young_no_longer}

module _ (old entry : Disk) (kept : Kept) (before : List Part) (oldest : Part) (newer : List Part) (region : ℕ) (free : List ℕ) (rows : List Row) (bytes : List ℕ) (c : CanGather old entry kept before oldest newer region free rows bytes) where
  abbrev own : Part
  own = gathered_part region oldest newer rows

  abbrev Holds : Image → Type 0
  Holds image = HoldsParts old.region_len image kept.parts kept.retired

  low : region < old.regions
  low = there old entry kept before oldest newer region free rows bytes c

  -- ---- images while the part is sealed

  module _ (a : Told) (told : IsToldOf old a) (held : IsLeft (λ image. HoldsParts old.region_len image kept.parts kept.retired) a) (gathered : AreGathered old.region_len a.bytes (oldest ∷ newer) rows) where
    long_now : (was : Image) → IsImageNow a was → length was ≡ old.regions
    long_now was now = now.regions ∙ sym told.image.regions ∙ told.regions

    pub within : region < length a.bytes
    within = let l = told.regions in omega (arith, low, l)

    pub long : 1 + length bytes ≤ length (region_of a.bytes region)
    long = let l = told.lengths region low in let f = bytes_fit old entry kept before oldest newer region free rows bytes c in omega (arith, f, l)

    lead_free : (was : Image) → IsImageNow a was → is_free was region ≡ true
    lead_free was now = free_of old.region_len was kept.parts kept.retired region (held was now) (let l = long_now was now in omega (arith, low, l)) (not_held old entry kept before oldest newer region free rows bytes c)

    alike_closed : (image : Image) → HasClosed region a.bytes image → ShowsAlike old.region_len a.bytes image
    alike_closed image closed = closed_law old.region_len region a.bytes image (record { differs = closed.differs; free = lead_free a.bytes told.image; closed = closed.closed })

    at_gate_is : (image : Image) → IsAtGate region (λ was. was ≡ with_bytes a.bytes region 1 bytes) image → HasClosed region a.bytes image ⊎ HasOpened region bytes a.bytes image
    at_gate_is image at = at_gate region bytes a.bytes within long image (subst (λ (i : Image). SameOutside region 0 1 i image) at.is_was at.same)

    pub opened_last : HasOpened region bytes a.bytes (with_bytes (with_bytes a.bytes region 1 bytes) region 0 gate)
    opened_last = sealed_bytes region bytes a.bytes within long

    pub holds_run : HoldsParts old.region_len a.bytes (before ++ oldest ∷ newer) kept.retired
    holds_run = subst (λ ps. HoldsParts old.region_len a.bytes ps kept.retired) c.split (held a.bytes told.image)

    pub free_now : is_free a.bytes region ≡ true
    free_now = lead_free a.bytes told.image

    -- each image shows what one of before showed
    pub sealing_shows : (first : List Row) (history : List Commit) (low high : ℕ) → ((was : Image) → IsImageNow a was → ShowsSome old.region_len first history low high was)
        → (image : Image) → IsSealing region bytes a image → ShowsSome old.region_len first history low high image
    sealing_shows first history low' high shown image (inl torn) =
        let s = shown torn.was torn.is_was in
        let alike = torn_alike old.region_len old.regions kept.parts kept.retired (region ∷ []) (beside old entry kept before oldest newer region free rows bytes c) (low, tt) torn.was image (long_now torn.was torn.is_was) (held torn.was torn.is_was) torn.differs in
        record { e = s.e; rows = s.rows; shows = alike.shown s.e s.rows s.shows; from = s.from; to = s.to; agrees = s.agrees }
    sealing_shows first history low' high shown image (inr at) = elim (at_gate_is image at) as (λ _. ShowsSome old.region_len first history low' high image) [
      | inl closed ↦
          let s = shown a.bytes told.image in
          record { e = s.e; rows = s.rows; shows = (alike_closed image closed).shown s.e s.rows s.shows; from = s.from; to = s.to; agrees = s.agrees }
      | inr opened ↦
          young_shows old.region_len region before oldest newer kept.retired rows bytes (young old entry kept before oldest newer region free rows bytes c) a.bytes holds_run free_now image opened gathered first history low' high
          (shown a.bytes told.image)
    ]

    -- the parts keep their rows, whether the gate is open or not
    pub kept_rows : (image : Image) → DiffersAt region a.bytes image → IsSealing region bytes a image → (live : List Row) → AreRowsOf old.region_len a.bytes kept.parts live → AreRowsOf old.region_len image kept.parts live
    unfolding is_free
    kept_rows image differs (inl torn) live are = (alike_closed image (record { differs = differs; closed = (torn_closed region torn.was image (shut torn.was torn.is_was) torn.differs).closed })).rows kept.parts live are
      where
        shut : (was : Image) → IsImageNow a was → is_sealed (region_of was region) ≡ false
        shut was now = not-true _ (first_of_both _ _ (lead_free was now)).0
    kept_rows image differs (inr at) live are = elim (at_gate_is image at) as (λ _. AreRowsOf old.region_len image kept.parts live) [
      | inl closed ↦ (alike_closed image closed).rows kept.parts live are
      | inr opened ↦ leads_keep old.region_len a.bytes image
          (young_over old.region_len region before oldest newer kept.retired rows bytes (young old entry kept before oldest newer region free rows bytes c) a.bytes holds_run free_now image opened).leads kept.parts live are
    ]

  -- ---- the disk

  module _ (new : Disk) (same : SameBeside old new) (sound : IsSound new) (time : ContinuesOn old new) (failed : Type 0) (counts : CountsOwn failed old new) (read : KeepsBeside (region ∷ []) old new) (leaves : LeavesSealing region bytes old new) where
    record Run (a b : Told) : Type 0 where
      told : IsToldOf old a
      told' : IsToldOf new b
      held : IsLeft Holds a
      gathered : AreGathered old.region_len a.bytes (oldest ∷ newer) rows
      differs : DiffersAt region a.bytes b.bytes
      crashes : LeavesOnly (IsSealing region bytes a) a b

    runs : BothTold Run old.told new.told
    runs = on' old.told new.told (alike_told old new (region ∷ []) c.whole.sound sound same read) leaves c.whole.sound.told sound.told (c.whole.told (c.whole.lost c.open_room)) c.gathered
      where
        other : (m n : ℕ) → m ≢ n → (nat_eq m n || false) ≡ false
        other m n h = grind (arith, h)

        on' : (y z : Option Told) → BothTold (AreAlike (region ∷ [])) y z → BothTold (λ a b. LeavesOnly (IsSealing region bytes a) a b) y z → IfSome y (IsToldOf old) → IfSome z (IsToldOf new) → IfSome y (IsLeft Holds)
            → IfSome y (λ told. AreGathered old.region_len told.bytes (oldest ∷ newer) rows) → BothTold Run y z
        on' None None p q s t h g = tt
        on' None (Some b) p q s t h g = absurd p
        on' (Some a) None p q s t h g = absurd p
        on' (Some a) (Some b) p q s t h g = record { told = s; told' = t; held = h; gathered = g; differs = record { as_many = p.0; others = λ r ne. p.1 r (other r region ne) }; crashes = q }

    read_taken : KeepsBeside (take 1 kept.free) old new
    read_taken = subst (λ (xs : List ℕ). KeepsBeside (take 1 xs) old new) (sym c.lowest) read

    shows_at : (a b : Told) → Run a b → (first : List Row) (history : List Commit) (low high : ℕ) → ((was : Image) → IsImageNow a was → ShowsSome old.region_len first history low high was) → (image : Image) → IsSealing region bytes a image
        → ShowsSome old.region_len first history low high image
    shows_at a b r first history low high shown image sealing = sealing_shows a r.told r.held r.gathered first history low high shown image sealing

    inside : (first : List Row) (e : ℕ) (history : List Commit) → Stands (value_of old entry kept) first e history → ShownInside (value_of old entry kept) old.told new.told first e history
    inside = still_inside old new entry kept c.whole c.open_room same Run runs (IsSealing region bytes) (λ a b r. r.crashes) shows_at

    becomes : (kept' : Kept) → kept.sealed ≡ kept'.sealed → kept.places ≡ kept'.places → (kept'.is_shut ≡ true → HasRisen old.own_faults new.own_faults × HasRisen old.faults new.faults) → Becomes (value_of old entry kept).room (value_of new entry kept').room
    becomes kept' sealed places risen =
        becomes_open old new kept kept' same counts.no_lower (as_told Run old.told new.told runs) c.open_room (omega (arith, sealed)) places risen (λ s. absurd (not_stuck old entry kept before oldest newer region free rows bytes c s))

    -- what is so of each answer
    gathers : (from : ℕ) (kept' : Kept) (result : Result Bool RoomFault) → GathersOr from (value_of old entry kept) (value_of new entry kept') result → Keeps (value_of old entry kept) (value_of new entry kept') → GathersYoung from (value_of old entry kept) (value_of new entry kept') result
    gathers from kept' result room keeps = record { room = room; read = read_taken; beside = same; keeps = keeps }

    keeps : (kept' : Kept) → GoesOnStanding (value_of old entry kept) (value_of new entry kept') → kept.sealed ≡ kept'.sealed → kept.places ≡ kept'.places
        → (kept'.is_shut ≡ true → HasRisen old.own_faults new.own_faults × HasRisen old.faults new.faults) → Keeps (value_of old entry kept) (value_of new entry kept')
    keeps kept' stands sealed places risen = record { stands = stands; inside = inside; becomes = becomes kept' sealed places risen; time = time }

    -- the region lies beside those of all parts
    by_side : AreBeside (region ∷ []) (kept.parts ++ kept.retired)
    by_side = beside old entry kept before oldest newer region free rows bytes c

    -- each region that is taken then is taken once, and the others are free
    abbrev IsOwned : List ℕ → Type 0
    IsOwned all = AreApart new.regions all × (free ≡ regions_outside new.regions all)

    owned_now : (all : List ℕ) → SameTimes (region ∷ taken (value_of old entry kept).room kept.target) all → IsOwned all
    owned_now all times =
        let own = region ∷ taken (value_of old entry kept).room kept.target in (
          subst (λ n. AreApart n all) (sym same.regions) (same_apart old.regions own all times (own_apart old entry kept before oldest newer region free rows bytes c)),
          left old entry kept before oldest newer region free rows bytes c ∙ same_outside old.regions own all times ∙ ap (λ n. regions_outside n all) (sym same.regions),
        )

    -- ---- the disk failed

    module _ (f : failed) where
      abbrev shut : Kept
      shut = record kept { free = free; lost = region ∷ []; is_shut = true }

      risen : HasRisen old.own_faults new.own_faults × HasRisen old.faults new.faults
      risen = (counts.own_faults f, counts.faults f)

      some_lost : ◌≡◌ {A = List ℕ} (region ∷ []) [] → ⊥
      some_lost l = cc

      pub lost_whole : IsWhole (value_of new entry (record kept { free = free; lost = region ∷ []; is_shut = true }))
      lost_whole =
          record {
            geometry = still_geometry old new same c.whole.geometry;
            sound = sound;
            of_disk = refl;
            in_chain = c.whole.in_chain;
            ends = c.whole.ends;
            lie = moved_lie old new entry kept c.whole same sound time counts.no_lower (region ∷ []) by_side read (kept.parts ++ kept.retired) c.whole.lie;
            apart = owned.0;
            free = owned.1;
            rising = c.whole.rising;
            board = moved_board old new entry kept c.whole same sound time counts.no_lower (region ∷ []) by_side read shut refl c.whole.board.of_parts;
            epoch = epoch_stays (value_of old entry kept) (value_of new entry shut) c.whole.epoch same.region_len c.whole.epoch.none (λ l. absurd (some_lost l)) c.whole.epoch.epoch;
            job = subst (λ (j : Option Job). IfSome j (IsJob (value_of new entry shut).room)) (sym c.no_job) tt;
            entry = moved_entry old new entry kept c.whole same sound time counts.no_lower (region ∷ []) by_side read shut
                (λ h. (risen_since entry.own_faults old.own_faults new.own_faults c.whole.entry.no_lower.1 risen.0, risen_since entry.faults old.faults new.faults c.whole.entry.no_lower.0 risen.1));
            lost = λ h. absurd (true≢false h);
            unsynced = λ l. absurd (some_lost l);
            told = λ l. absurd (some_lost l);
          }
        where
          owned : IsOwned (taken (value_of new entry shut).room kept.target)
          owned = owned_now _ (lost_times old entry kept before oldest newer region free rows bytes c new)

      lost_stands : GoesOnStanding (value_of old entry kept) (value_of new entry shut)
      lost_stands =
          still_stands old new entry kept c.whole c.open_room same Run runs (IsSealing region bytes) (λ a b r. r.crashes) shows_at
          (λ a b r log h. record {
            rows = h.rows;
            are_rows = kept_rows a r.told r.held r.gathered b.bytes r.differs (r.crashes.each b.bytes (now_since (clock_of a) b b.bytes r.crashes.later r.told'.image)) h.rows h.are_rows;
            agrees = h.agrees;
            no_longer = h.no_longer;
          })

      pub gathers_lost : (from : ℕ) → WereGathered from (value_of old entry kept) → Contains new.unsynced region → GathersYoung from (value_of old entry kept) (value_of new entry (record kept { free = free; lost = region ∷ []; is_shut = true })) (Err room_fault.Disk)
      gathers_lost from were last =
          gathers from shut (Err room_fault.Disk)
          (inr (
            (shuts _ _ c.open_room
                (ap (λ (l : List ℕ). on (record (value_of old entry kept).room { free = free; is_shut = true; lost = l }) new) (sym (lost_is old entry kept before oldest newer region free rows bytes c))
                ∙ ap (λ (xs : List ℕ). on (record (value_of old entry kept).room { free = drop 1 xs; is_shut = true; lost = set_of (take 1 xs) }) new) (sym c.lowest)) refl refl same time counts f),
            were,
            subst (λ (xs : List ℕ). AllByRecursion (Contains new.unsynced) (take 1 xs)) (sym c.lowest) (last, tt),
          )) (keeps shut lost_stands refl refl (λ h. risen))

    -- ---- the part was sealed

    module _ (synced : new.unsynced ≡ []) (written : HasBytes (λ image. with_bytes (with_bytes image region 1 bytes) region 0 gate) old new) where
      abbrev now : Kept
      now = record kept { parts = before ++ gathered_part region oldest newer rows ∷ []; retired = retire_all (oldest ∷ newer) kept.retired; free = free }

      abbrev Opens : Told → Told → Type 0
      Opens a b = Run a b × (b.bytes ≡ with_bytes (with_bytes a.bytes region 1 bytes) region 0 gate)

      opens : BothTold Opens old.told new.told
      opens = both_and Run (λ a b. b.bytes ≡ with_bytes (with_bytes a.bytes region 1 bytes) region 0 gate) old.told new.told runs written

      opened : (a b : Told) → Opens a b → HasOpened region bytes a.bytes b.bytes
      opened a b o = subst (HasOpened region bytes a.bytes) (sym o.1) (opened_last a o.0.told o.0.held o.0.gathered)

      holds_now : IfSome new.told (IsLeft (λ image. HoldsParts new.region_len image (before ++ gathered_part region oldest newer rows ∷ []) (retire_all (oldest ∷ newer) kept.retired)))
      holds_now = some_behind (IsLeft (λ image. HoldsParts new.region_len image now.parts now.retired)) old.told new.told opens one
        where
          one : (a b : Told) → Opens a b → IsLeft (λ image. HoldsParts new.region_len image now.parts now.retired) b
          one a b o image is =
              let still : image ≡ b.bytes = synced_now new b b image o.0.told' (inl (synced, refl)) is in
              subst (λ n. HoldsParts n image now.parts now.retired) (sym same.region_len)
              (subst (λ (i : Image). HoldsParts old.region_len i now.parts now.retired) (sym still)
              (young_held old.region_len region before oldest newer kept.retired rows bytes (young old entry kept before oldest newer region free rows bytes c) a.bytes (holds_run a o.0.told o.0.held o.0.gathered) (free_now a o.0.told o.0.held o.0.gathered) b.bytes (opened a b o) now.retired
              (moves_both old entry kept before oldest newer region free rows bytes c)))

      pub gathered_whole : IsWhole (value_of new entry (record kept { parts = before ++ gathered_part region oldest newer rows ∷ []; retired = retire_all (oldest ∷ newer) kept.retired; free = free }))
      gathered_whole =
          record {
            geometry = still_geometry old new same c.whole.geometry;
            sound = sound;
            of_disk = refl;
            in_chain = record { follow = follow_now old entry kept before oldest newer region free rows bytes c };
            ends = c.whole.ends ∙ sym (same_end old entry kept before oldest newer region free rows bytes c);
            lie = moved_lie old new entry kept c.whole same sound time counts.no_lower (region ∷ []) by_side read (now.parts ++ now.retired)
                (all_moved (λ (p : Part). LiesIn old.region_len p.header) (own ∷ (kept.parts ++ kept.retired)) (now.parts ++ now.retired) moved (lies old entry kept before oldest newer region free rows bytes c, c.whole.lie));
            apart = owned.0;
            free = owned.1;
            rising = rising_now old entry kept before oldest newer region free rows bytes c;
            board = moved_board old new entry kept c.whole same sound time counts.no_lower (region ∷ []) by_side read now refl
                (all_map (NamesWhole (kept.parts ++ kept.retired)) (NamesWhole (now.parts ++ now.retired)) named_still (value_of old entry kept).room.eyes c.whole.board.of_parts);
            epoch = epoch_stays (value_of old entry kept) (value_of new entry now) c.whole.epoch same.region_len c.whole.epoch.none c.whole.epoch.some c.whole.epoch.epoch;
            job = subst (λ (j : Option Job). IfSome j (IsJob (value_of new entry now).room)) (sym c.no_job) tt;
            entry = moved_entry old new entry kept c.whole same sound time counts.no_lower (region ∷ []) by_side read now (λ h. absurd (true≢false (sym h ∙ c.open_room)));
            lost = c.whole.lost;
            unsynced = λ l. no_parts_unsynced new (now.parts ++ now.retired) synced;
            told = λ l. holds_now;
          }
        where
          owned : IsOwned (taken (value_of new entry now).room kept.target)
          owned = owned_now _ (gathered_times old entry kept before oldest newer region free rows bytes c new)

          moved : IsPermutation (own ∷ (kept.parts ++ kept.retired)) (now.parts ++ now.retired)
          moved = moves old entry kept before oldest newer region free rows bytes c

          any_more : (P : Part → Type 0) → Any P (kept.parts ++ kept.retired) → Any P (own ∷ (kept.parts ++ kept.retired))
          any_more P any = (suc any.0, any.1, let l = any.2 in omega (arith, l), any.3, any.4)

          named_still : (eye : ℕ × List ℕ) → NamesWhole (kept.parts ++ kept.retired) eye → NamesWhole (now.parts ++ now.retired) eye
          named_still eye names =
              all_map (λ r. Any (λ p. Contains (regions_of p) r × AllByRecursion (Contains eye.1) (regions_of p)) (kept.parts ++ kept.retired)) (λ r. Any (λ p. Contains (regions_of p) r × AllByRecursion (Contains eye.1) (regions_of p)) (now.parts ++ now.retired))
              (λ r any. any_moved (λ p. Contains (regions_of p) r × AllByRecursion (Contains eye.1) (regions_of p)) (own ∷ (kept.parts ++ kept.retired)) (now.parts ++ now.retired) moved
              (any_more (λ p. Contains (regions_of p) r × AllByRecursion (Contains eye.1) (regions_of p)) any)) eye.1 names

      live_now : (a b : Told) → Opens a b → (log : List Row) → HoldsLive (value_of old entry kept).room a.bytes log → HoldsLive (record (value_of old entry kept).room { parts = now.parts; retired = now.retired; free = free }) b.bytes log
      live_now a b o log live =
          let g = o.0.gathered in
          let are = are_joined old.region_len a.bytes before oldest newer rows g live.rows (subst (λ ps. AreRowsOf old.region_len a.bytes ps live.rows) c.split live.are_rows) in
          let same' = alike old.region_len a.bytes before oldest newer rows g in
          record {
            rows = are.first ++ rows;
            are_rows = young_rows old.region_len region before oldest newer kept.retired rows bytes (young old entry kept before oldest newer region free rows bytes c) a.bytes (holds_run a o.0.told o.0.held o.0.gathered) (free_now a o.0.told o.0.held o.0.gathered) b.bytes (opened a b o) g are.first are.of_before;
            agrees = young_agrees rows g.own g.same same' c.ordered are.first log (subst (λ rs. Agrees rs log) are.joined live.agrees);
            no_longer = let l = young_no_longer rows g.own g.same same' c.ordered are.first in let m = live.no_longer in omega (arith, l, m, ap rows_len are.joined);
          }

      gathered_stands : GoesOnStanding (value_of old entry kept) (value_of new entry now)
      gathered_stands = still_stands old new entry kept c.whole c.open_room same Opens opens (IsSealing region bytes) (λ a b o. o.0.crashes) (λ a b o. shows_at a b o.0) live_now

      holds_gathered : IfSome (option_map (λ (t : Told). t.bytes) old.told) (λ was. IfSome (option_map (λ (t : Told). t.bytes) new.told) (HoldsGathered old.region_len region oldest newer rows was))
      holds_gathered = on' old.told new.told opens
        where
          on' : (y z : Option Told) → BothTold Opens y z → IfSome (option_map (λ (t : Told). t.bytes) y) (λ was. IfSome (option_map (λ (t : Told). t.bytes) z) (HoldsGathered old.region_len region oldest newer rows was))
          on' None z o = tt
          on' (Some a) None o = tt
          on' (Some a) (Some b) o =
              let w = young old entry kept before oldest newer region free rows bytes c in
              let h = holds_run a o.0.told o.0.held o.0.gathered in
              let f = free_now a o.0.told o.0.held o.0.gathered in
              record {
                gathered = o.0.gathered;
                has_header = young_header old.region_len region before oldest newer kept.retired rows bytes w a.bytes h f b.bytes (opened a b o);
                sealed = young_sealed old.region_len region before oldest newer kept.retired rows bytes w a.bytes h f b.bytes (opened a b o);
              }

      gathered_room : (failed → ⊥) → Does (gathered_state (value_of old entry kept).room before oldest newer (gathered_part region oldest newer rows)) kept.target (value_of old entry kept) (value_of new entry now)
      unfolding gathered_state
      gathered_room fine = does _ _ c.open_room (ap (λ (xs : List ℕ). on (record (value_of old entry kept).room { parts = now.parts; retired = now.retired; free = drop 1 xs }) new) (sym c.lowest)) refl refl same time counts fine

      pub gathers_ok : (failed → ⊥) → (from : ℕ) → from ≤ oldest.header.range.first → AllByRecursion (λ p. p.header.range.first < from) before
          → GathersYoung from (value_of old entry kept) (value_of new entry (record kept { parts = before ++ gathered_part region oldest newer rows ∷ []; retired = retire_all (oldest ∷ newer) kept.retired; free = free })) (Ok true)
      gathers_ok fine from begins older =
          let are : AreYoung from kept.parts before oldest newer = record { split = c.split; several = c.several; young = begins; older = older } in
          gathers from now (Ok true)
          (record { before = before; oldest = oldest; newer = newer; are = are; region = region; free = free; lowest = c.lowest; rows = rows; holds = holds_gathered; synced = synced; room = gathered_room fine })
          (keeps now gathered_stands refl refl (λ h. absurd (true≢false (sym h ∙ c.open_room))))

    -- ---- memory ran out

    module _ (ungated : IsUngated region bytes old new) (untouched : LeavesBehind (region ∷ []) old new) where
      reads : ReadsBehind (region ∷ []) old new
      reads = by ungated
        where
          itself : (y : Option Told) → BothTold (λ a b. DiffersBehind (region ∷ []) a.bytes b.bytes) y y
          itself None = tt
          itself (Some a) = record { as_many = refl; others = λ r h. refl; lengths = λ r. refl; gates = λ r. refl }

          on' : (y z : Option Told) → BothTold Run y z → BothTold (λ a b. b.bytes ≡ with_bytes a.bytes region 1 bytes) y z → BothTold (λ a b. DiffersBehind (region ∷ []) a.bytes b.bytes) y z
          on' None None r p = tt
          on' None (Some b) r p = absurd p
          on' (Some a) None r p = absurd p
          on' (Some a) (Some b) r p =
              subst (λ (i : Image). DiffersBehind (region ∷ []) a.bytes i) (sym p)
              (behind region 1 (1 + length bytes) a.bytes (with_bytes a.bytes region 1 bytes) (omega arith) (same_outside_written a.bytes region 1 bytes (within a r.told r.held r.gathered) (long a r.told r.held r.gathered)))

          by : IsUngated region bytes old new → BothTold (λ a b. DiffersBehind (region ∷ []) a.bytes b.bytes) old.told new.told
          by (inl is) = subst (λ (d : Disk). BothTold (λ a b. DiffersBehind (region ∷ []) a.bytes b.bytes) old.told d.told) (sym is) (itself old.told)
          by (inr some) = on' old.told new.told runs some.1

      pub still_whole : DirtiesOnly (region ∷ []) old new → IsWhole (value_of new entry kept)
      still_whole dirties =
          moved_whole old new entry kept c.whole same sound time counts.no_lower (region ∷ []) (beside old entry kept before oldest newer region free rows bytes c) read c.open_room dirties
          (still_held old new entry kept c.whole c.open_room (region ∷ []) (beside old entry kept before oldest newer region free rows bytes c) (low, tt) same sound time failed counts reads untouched)

      pub gathers_none : (failed → ⊥) → (from : ℕ) → GathersYoung from (value_of old entry kept) (value_of new entry kept) (Err room_fault.NoMemory)
      gathers_none fine from =
          gathers from kept (Err room_fault.NoMemory) (does _ _ c.open_room refl refl refl same time counts fine)
          (written_keeps old new entry kept c.whole c.open_room (region ∷ []) (beside old entry kept before oldest newer region free rows bytes c) (low, tt) same sound time failed counts reads untouched kept.job kept.lost kept.is_shut
          (λ h. absurd (true≢false (sym h ∙ c.open_room))))

-- ---- nothing was changed

pub gathers_still : (from : ℕ) (value : RoomValue) (result : Result Bool RoomFault) → IsWhole value → GathersOr from value value result → GathersYoung from value value result
gathers_still from value result whole room = record { room = room; read = beside_told (take 1 value.room.free) value.disk value.disk refl; beside = same_beside value.disk; keeps = keeps_none value whole }

-- a read failed: nothing is lost
pub gathers_unread : (old new entry : Disk) (kept : Kept) (whole : IsWhole (value_of old entry kept)) (open_room : kept.is_shut ≡ false) (fails : OnlyFails old new) (from : ℕ)
    → GathersYoung from (value_of old entry kept) (value_of new entry (record kept { is_shut = true })) (Err room_fault.Disk)
gathers_unread old new entry kept whole open_room fails from = record {
  room = inl (failed_shuts old new entry kept whole open_room fails, fails.told, fails.unsynced);
  read = beside_told (take 1 kept.free) old new fails.told;
  beside = fails.beside;
  keeps = failed_keeps old new entry kept whole open_room fails;
}

-- A room behind each answer of taking rows in.
use Rattle.std.proofs.Common.{◌≡◌, ◌⊎◌, ℕ, ◌+◌, ◌<◌, ◌≤◌, true, false, List, [], ◌∷◌, ◌++◌, take, drop, map, ◌||◌, eq-eqb, Some, None, Ok, Err, Result, refl, sym, ap, subst, ◌∙◌, inl, inr, arith, true≢false}
use Rattle.std.specs.Prelude.{Option, IfSome, IsErrOf, IsTrue, is_some, nat_eq, option_map, slice_index, unwrap_or}
use Rattle.std.specs.List.{AllByRecursion, list_any}
use Rattle.std.proofs.lemmas.List.Sums.{sum_by-append}
use Rattle.fine_model.specs.declared.Part.{Part}
use Rattle.fine_model.specs.declared.Range.{Range}
use Rattle.fine_model.specs.declared.Row.{Row}
use Rattle.fine_model.specs.declared.Mark.TheVariants as mark
use Rattle.fine_model.specs.declared.Job.{Job}
use Rattle.fine_model.specs.Becomes.{Becomes}
use Rattle.fine_model.specs.Boards.{held_of, named, posted, set_of}
use Rattle.fine_model.specs.Chain.{AreRowsOf, regions_of}
use Rattle.fine_model.specs.Headline.{ShowsSome}
use Rattle.fine_model.specs.Laws.{is_small}
use Rattle.fine_model.specs.Nodes.{Agrees}
use Rattle.fine_model.specs.Regions.{Image, IsSealed, continuations, header_bytes}
use Rattle.fine_model.specs.Room.{SameMembers}
use Rattle.fine_model.specs.RowBytes.{FitsRow, greatest, row_len, rows_len}
use Rattle.fine_model.proofs.Histories.Goings.{becomes_itself}
use Rattle.fine_model.proofs.Trees.NodeLaws.{Agrees-append}
use Rattle.fine_model.proofs.Ordered.Order.{all_map}
use Rattle.fine_model.proofs.Ordered.Sets.{all_append}
use Rattle.fine_model.proofs.Histories.Stated.{small_law}
use Rattle.fine_model.proofs.Ordered.Zip.{all_left, all_right}
use Rattle.log_disk.specs.Disk.{BothTold, Disk, HasRisen, IsImageNow, IsImageSince, IsToldOf, SameOutside, Told, clock_of, with_bytes}
use Rattle.log_disk.specs.Moments.{Continues, IsLeft, LeavesOnly}
use Rattle.log_disk.specs.declared.refusal.DiskRefusal.{DiskRefusal}
use Rattle.log_disk.specs.declared.refusal.DiskRefusal.TheVariants as refusal
use Rattle.log_disk.proofs.Moments.{now_since, only_now, synced_now}
use Rattle.log_disk.proofs.Times.{continues_none}
use Rattle.epoch_room.specs.Adopting.{Adoption, AdoptsOr, ShowsEither, adopted_state, part_over, taken_for}
use Rattle.epoch_room.specs.Gate.{IsBehind, KeepsBeside}
use Rattle.partition_hold.proofs.Bits.{among}
use Rattle.partition_index.specs.Parts.{LiesIn}
use Rattle.epoch_room.specs.Meaning.{Keeps, Stands, StandsTold, StandsWhere}
use Rattle.epoch_room.specs.RowWrites.{HasPart, IsSealingRows, SealsRows}
use Rattle.epoch_room.specs.Value.{Kept, RoomValue, on, regions_outside, taken, value_of}
use Rattle.epoch_room.specs.Whole.{AreApart, HoldsParts, IsJob, IsWhole, NamesWhole}
use Rattle.epoch_room.specs.declared.answers.AdoptFault.{AdoptFault}
use Rattle.epoch_room.specs.declared.answers.AdoptFault.TheVariants as adopt_fault
use Rattle.epoch_room.specs.declared.answers.RoomFault.TheVariants as room_fault
use Rattle.epoch_room.proofs.Adopting.AdoptedImages.{all_live, gate_either, holds_more, last_same, opened_last, own_rows, shows_both, shows_still}
use Rattle.epoch_room.proofs.Adopting.AdoptedParts.{CanAdopt, IsPartFor, adopted_times, lowest, none_lost, none_open, none_waits, not_stuck, part_below, part_beside, part_small, shut_times}
use Rattle.epoch_room.proofs.OpenEpochs.BehindGates.{torn_alike}
use Rattle.epoch_room.proofs.OpenEpochs.Behind.{all_told, as_told, both_and, same_beside, some_behind}
use Rattle.epoch_room.proofs.Views.Boarding.{AreBeside}
use Rattle.epoch_room.proofs.OpenEpochs.Ending.{end_next, follow_next, moved_board, moved_entry, moved_lie, moved_whole, names_more, no_parts_unsynced, risen_since, still_geometry}
use Rattle.epoch_room.proofs.Standing.{nothing_more}
use Rattle.epoch_room.proofs.RegionSets.Taken.{same_apart, same_outside}
use Rattle.epoch_room.proofs.OpenEpochs.Torn.{HasOpened}
use Rattle.epoch_room.proofs.RegionSets.Touching.{beside_told}
use Rattle.epoch_room.proofs.Merges.Writing.{still_held, written_keeps}
use Rattle.epoch_room.proofs.Moved.{becomes_open, does, epoch_stays, shuts}

module _ (old new entry : Disk) (kept : Kept) (range : Range) (rows : List Row) (k : ℕ) (c : CanAdopt old entry kept range rows k) (p : Part) (o : IsPartFor old kept.free range rows k p) (result : Result (Unit {0}) DiskRefusal)
    (run : SealsRows p rows result old new) where
  abbrev rs : List ℕ
  rs = regions_of p

  abbrev value : RoomValue
  value = value_of old entry kept

  abbrev Holds : Image → Type 0
  Holds image = HoldsParts old.region_len image kept.parts kept.retired

  lower : (old.faults ≤ new.faults) × (old.own_faults ≤ new.own_faults)
  lower = run.counts.no_lower

  abbrev eyes_of : Disk → List (ℕ × List ℕ)
  eyes_of disk = map (λ eye. (eye.number, eye.regions)) disk.eyes

  same_eyes : eyes_of new ≡ eyes_of old
  same_eyes = ap (map (λ eye. (eye.number, eye.regions))) run.beside.eyes

  -- what is told before, and then
  record Run (a b : Told) : Type 0 where
    told : IsToldOf old a
    told' : IsToldOf new b
    left : IsLeft Holds a
    crashes : LeavesOnly (IsSealingRows old.region_len p rows a) a b

  runs : BothTold Run old.told new.told
  runs = on' old.told new.told run.leaves c.whole.sound.told run.sound.told (c.whole.told (none_lost old entry kept range rows k c))
    where
      on' : (y z : Option Told) → BothTold (λ a b. LeavesOnly (IsSealingRows old.region_len p rows a) a b) y z → IfSome y (IsToldOf old) → IfSome z (IsToldOf new) → IfSome y (IsLeft Holds) → BothTold Run y z
      on' None None q s t h = tt
      on' None (Some b) q s t h = absurd q
      on' (Some a) None q s t h = absurd q
      on' (Some a) (Some b) q s t h = record { told = s; told' = t; left = h; crashes = q }

  -- ---- what images show inside

  shows_torn : (a : Told) → IsToldOf old a → IsLeft Holds a → (first : List Row) (low high : ℕ) → ((was : Image) → IsImageNow a was → ShowsSome old.region_len first [] low high was) → (image : Image) → IsBehind rs a image
      → ShowsSome old.region_len first [] low high image
  shows_torn a told left first low high shown image at =
      let s = shown at.was at.is_was in
      let alike = torn_alike old.region_len old.regions kept.parts kept.retired rs (part_beside old entry kept range rows k c p o) (part_below old entry kept range rows k c p o) at.was image
      (at.is_was.regions ∙ sym told.image.regions ∙ told.regions) (left at.was at.is_was) at.differs in
      record { e = s.e; rows = s.rows; shows = alike.shown s.e s.rows s.shows; from = s.from; to = s.to; agrees = s.agrees }

  either : (a b : Told) → Run a b → (first : List Row) → ((was : Image) → IsImageNow a was → ShowsSome old.region_len first [] kept.sealed kept.sealed was) → (image : Image) → IsSealingRows old.region_len p rows a image
      → ShowsSome old.region_len first [] kept.sealed kept.sealed image ⊎ ShowsSome old.region_len (first ++ rows) [] range.last range.last image
  either a b r first shown image (inl torn) = inl (shows_torn a r.told r.left first kept.sealed kept.sealed shown image torn)
  either a b r first shown image (inr at) =
      elim (gate_either old entry kept range rows k c p o a r.told r.left at.base at.has_body image at.same) as (λ _. ShowsSome old.region_len first [] kept.sealed kept.sealed image ⊎ ShowsSome old.region_len (first ++ rows) [] range.last range.last image) [
        | inl closed ↦ inl (shows_still old entry kept range rows k c p o a r.told r.left at.base at.has_body image closed first kept.sealed kept.sealed (shown a.bytes r.told.image))
        | inr opened ↦
            inr (shows_both old entry kept range rows k c p o a r.told r.left at.base at.has_body image opened (own_rows old entry kept range rows k c p o a r.told r.left at.base at.has_body image opened at.same) first kept.sealed kept.sealed
            (shown a.bytes r.told.image))
      ]

  pub inside : (first : List Row) (e : ℕ) → Stands (value_of old entry kept) first e [] → ShowsEither (value_of old entry kept) old.told new.told range first rows
  unfolding Stands
  inside first e h =
      all_told (λ x y z. StandsWhere (value_of old entry kept).room x y first e [] → ShowsEither (value_of old entry kept) y z range first rows) entry.told old.told new.told c.whole.entry.time runs (λ s. tt)
      (λ before a b q r s image since. either a b r first (λ was now. at_most s was (s.stands.images.now_sealed was now)) image (r.crashes.each image since)) h
    where
      at_most : {before a : Told} → StandsTold (value_of old entry kept).room before a first e [] → (was : Image) → ShowsSome old.region_len first [] kept.sealed e was → ShowsSome old.region_len first [] kept.sealed kept.sealed was
      at_most s was some = record { e = some.e; rows = some.rows; shows = some.shows; from = some.from; to = (let t = some.to in let n = s.stands.counts.sealed in omega (arith, t, n)); agrees = some.agrees }

  -- ---- what becomes of the state

  same_told : is_some (option_map (λ (t : Told). t.bytes) new.told) ≡ is_some (option_map (λ (t : Told). t.bytes) old.told)
  same_told = as_told Run old.told new.told runs

  becomes : (kept' : Kept) → kept.sealed ≤ kept'.sealed → kept.places ≡ kept'.places → (kept'.is_shut ≡ true → HasRisen old.own_faults new.own_faults × HasRisen old.faults new.faults) → Becomes (value_of old entry kept).room (value_of new entry kept').room
  becomes kept' sealed places risen = becomes_open old new kept kept' run.beside lower same_told c.open_room sealed places risen (λ s. absurd (not_stuck old entry kept range rows k c s))

  -- the regions that are read differently
  read_taken : KeepsBeside (taken_for (value_of old entry kept).room rows) old new
  read_taken = subst (λ xs. KeepsBeside xs old new) (o.regions_is ∙ sym (ap (λ n. take (unwrap_or n 0) kept.free) c.needed)) run.read

  beside : AreBeside rs (kept.parts ++ kept.retired)
  beside = part_beside old entry kept range rows k c p o

  below : AllByRecursion (λ r. r < old.regions) rs
  below = part_below old entry kept range rows k c p o

  abbrev before_taken : List ℕ
  before_taken = take k kept.free ++ taken (value_of old entry kept).room kept.target

  parts_lie : AllByRecursion (λ (q : Part). LiesIn old.region_len q.header) ((kept.parts ++ p ∷ []) ++ kept.retired)
  parts_lie =
      all_append (λ (q : Part). LiesIn old.region_len q.header) (kept.parts ++ p ∷ []) kept.retired
      (all_append (λ (q : Part). LiesIn old.region_len q.header) kept.parts (p ∷ []) (all_left (λ (q : Part). LiesIn old.region_len q.header) kept.parts kept.retired c.whole.lie) (o.lies, tt))
      (all_right (λ (q : Part). LiesIn old.region_len q.header) kept.parts kept.retired c.whole.lie)

  -- ---- the part is live

  module _ (synced : new.unsynced ≡ []) (sealed : BothTold (HasPart old.region_len p rows) old.told new.told) where
    abbrev now : RoomValue
    now = value_of new new (record kept { parts = kept.parts ++ p ∷ []; free = drop k kept.free; sealed = range.last })

    both : BothTold (λ a b. Run a b × HasPart old.region_len p rows a b) old.told new.told
    both = both_and Run (HasPart old.region_len p rows) old.told new.told runs sealed

    module _ (a b : Told) (r : Run a b) (h : HasPart old.region_len p rows a b) where
      opened : HasOpened p.region (header_bytes old.region_len p.header) h.base b.bytes
      opened = subst (HasOpened p.region (header_bytes old.region_len p.header) h.base) (sym h.bytes) (opened_last old entry kept range rows k c p o a r.told r.left h.base h.has_body)

      own : IsSealed old.region_len b.bytes p.region p.header.range rows
      own =
          own_rows old entry kept range rows k c p o a r.told r.left h.base h.has_body b.bytes opened
          (subst (λ (i : Image). SameOutside p.region 0 1 (with_bytes h.base p.region 1 (header_bytes old.region_len p.header)) i) (sym h.bytes) (last_same old entry kept range rows k c p o a r.told r.left h.base h.has_body))

      holds_now : HoldsParts old.region_len b.bytes (kept.parts ++ p ∷ []) kept.retired
      holds_now = holds_more old entry kept range rows k c p o a r.told r.left h.base h.has_body b.bytes opened

      still : (image : Image) → IsImageNow b image → image ≡ b.bytes
      still image is = synced_now new b b image r.told' (inl (synced, refl)) is

      module _ (before : Told) (first : List Row) (e : ℕ) (s : StandsTold (value_of old entry kept).room before a first e []) where
        was_shown : ShowsSome old.region_len first [] kept.sealed e a.bytes
        was_shown = s.stands.images.now_sealed a.bytes r.told.image

        shown_now : ShowsSome old.region_len (first ++ rows) [] range.last range.last b.bytes
        shown_now = shows_both old entry kept range rows k c p o a r.told r.left h.base h.has_body b.bytes opened own first kept.sealed e was_shown

        shown : (image : Image) → IsImageSince (clock_of b) b image → ShowsSome new.region_len (first ++ rows) [] range.last range.last image
        shown image since =
            subst (λ n. ShowsSome n (first ++ rows) [] range.last range.last image) (sym run.beside.region_len)
            (subst (λ (i : Image). ShowsSome old.region_len (first ++ rows) [] range.last range.last i) (sym (still image (only_now b image since))) shown_now)

        live_agrees : Agrees (s.stands.live.rows ++ rows) (first ++ rows)
        live_agrees = Agrees-append s.stands.live.rows first rows (subst (Agrees s.stands.live.rows) (nothing_more first kept.sealed) s.stands.live.agrees)

        small_all : AllByRecursion (λ (row : Row). IsTrue (is_small row.rec)) (first ++ rows)
        small_all = all_append (λ (row : Row). IsTrue (is_small row.rec)) first rows s.small.each (all_map (FitsRow mark.Two) (λ row. IsTrue (is_small row.rec)) (λ row fits. small_law mark.Two row fits) rows c.fit)

        told_stands : StandsTold (value_of new new (record kept { parts = kept.parts ++ p ∷ []; free = drop k kept.free; sealed = range.last })).room b b (first ++ rows) range.last []
        told_stands = record {
          stands = record {
            legal = inl refl;
            counts = record {
              places = c.none;
              epochs = tt;
              sealed = refl;
              open_epoch = (none_open old entry kept range rows k c).1;
              eyes = subst (λ es. SameMembers (map named es) (map held_of (posted kept.board))) (sym same_eyes) s.stands.counts.eyes;
            };
            live = record {
              rows = s.stands.live.rows ++ rows;
              are_rows = subst (λ n. AreRowsOf n b.bytes (kept.parts ++ p ∷ []) (s.stands.live.rows ++ rows)) (sym run.beside.region_len)
                  (all_live old entry kept range rows k c p o a r.told r.left h.base h.has_body b.bytes opened own s.stands.live.rows s.stands.live.are_rows);
              agrees = subst (Agrees (s.stands.live.rows ++ rows)) (sym (nothing_more (first ++ rows) range.last)) live_agrees;
              no_longer =
                  let l = s.stands.live.no_longer in
                  omega (arith, l, ap rows_len (nothing_more first kept.sealed), ap rows_len (nothing_more (first ++ rows) range.last), sum_by-append row_len s.stands.live.rows rows, sum_by-append row_len first rows);
            };
            images = record { every_image = shown; now_sealed = λ image is. shown image (now_since (clock_of b) b image (omega arith) is) };
          };
          waiting = none_waits old entry kept range rows k c;
          small = record { each = small_all };
          none_open = λ h image since. shown image since;
        }

    stands_ok : (first : List Row) (e : ℕ) → Stands (value_of old entry kept) first e [] → Stands (value_of new new (record kept { parts = kept.parts ++ p ∷ []; free = drop k kept.free; sealed = range.last })) (first ++ rows) range.last []
    unfolding Stands
    stands_ok first e h =
        all_told (λ x y z. StandsWhere (value_of old entry kept).room x y first e [] → StandsWhere (value_of new new (record kept { parts = kept.parts ++ p ∷ []; free = drop k kept.free; sealed = range.last })).room z z (first ++ rows) range.last [])
        entry.told old.told new.told c.whole.entry.time both (λ s. tt) (λ before a b q r s. told_stands a b r.0 r.1 before first e s) h

    held_now : IfSome new.told (IsLeft (λ image. HoldsParts new.region_len image (kept.parts ++ p ∷ []) kept.retired))
    held_now = some_behind (IsLeft (λ image. HoldsParts new.region_len image (kept.parts ++ p ∷ []) kept.retired)) old.told new.told both
        (λ a b r image is. subst (λ n. HoldsParts n image (kept.parts ++ p ∷ []) kept.retired) (sym run.beside.region_len)
        (subst (λ (i : Image). HoldsParts old.region_len i (kept.parts ++ p ∷ []) kept.retired) (sym (still a b r.0 r.1 image is)) (holds_now a b r.0 r.1)))

    holds_ok : p.region ≡ slice_index kept.free 0 → IfSome new.told (λ t. IsSealed new.region_len t.bytes (slice_index kept.free 0) range rows)
    holds_ok e = some_behind (λ t. IsSealed new.region_len t.bytes (slice_index kept.free 0) range rows) old.told new.told both
        (λ a b r.
        subst (λ n. IsSealed n b.bytes (slice_index kept.free 0) range rows) (sym run.beside.region_len)
        (subst (λ lead. IsSealed old.region_len b.bytes lead range rows) e (subst (λ epochs. IsSealed old.region_len b.bytes p.region epochs rows) o.of_range (own a b r.0 r.1))))

    pub whole_ok : IsWhole (value_of new new (record kept { parts = kept.parts ++ p ∷ []; free = drop k kept.free; sealed = range.last }))
    whole_ok =
        let times = adopted_times old entry kept range rows k c p o new new in
        let low = lowest old entry kept range rows k c in
        record {
          geometry = still_geometry old new run.beside c.whole.geometry;
          sound = run.sound;
          of_disk = refl;
          in_chain = record {
            follow = follow_next kept.parts p (ap (λ (r : Range). r.first) o.of_range ∙ c.next ∙ ap (λ n. n + 1) c.whole.ends) (subst (λ (r : Range). r.first ≤ r.last) (sym o.of_range) c.order)
                (subst (λ (r : Range). r.last ≤ greatest) (sym o.of_range) c.high) c.whole.in_chain.follow;
          };
          ends = sym (end_next kept.parts p ∙ ap (λ (r : Range). r.last) o.of_range);
          lie = moved_lie old new entry kept c.whole run.beside run.sound run.time lower rs beside run.read ((kept.parts ++ p ∷ []) ++ kept.retired) parts_lie;
          apart = subst (λ n. AreApart n (taken now.room kept.target)) (sym run.beside.regions) (same_apart old.regions before_taken (taken now.room kept.target) times low.0);
          free = low.1 ∙ same_outside old.regions before_taken (taken now.room kept.target) times ∙ ap (λ n. regions_outside n (taken now.room kept.target)) (sym run.beside.regions);
          rising = c.whole.rising;
          board = moved_board old new entry kept c.whole run.beside run.sound run.time lower rs beside run.read (record kept { parts = kept.parts ++ p ∷ []; free = drop k kept.free; sealed = range.last }) refl
              (all_map (NamesWhole (kept.parts ++ kept.retired)) (NamesWhole ((kept.parts ++ p ∷ []) ++ kept.retired)) (names_more kept.parts p kept.retired) (value_of old entry kept).room.eyes c.whole.board.of_parts);
          epoch = epoch_stays (value_of old entry kept) (value_of new new (record kept { parts = kept.parts ++ p ∷ []; free = drop k kept.free; sealed = range.last })) c.whole.epoch run.beside.region_len c.whole.epoch.none c.whole.epoch.some (λ h. absurd (let n = none_waits old entry kept range rows k c in omega (arith, h, n)));
          job = subst (λ (j : Option Job). IfSome j (IsJob now.room)) (sym c.no_job) tt;
          entry = record { regions = refl; region_len = refl; time = continues_none new; no_lower = (omega arith, omega arith); failed = λ h. absurd (true≢false (sym h ∙ c.open_room)) };
          lost = c.whole.lost;
          unsynced = λ l. no_parts_unsynced new ((kept.parts ++ p ∷ []) ++ kept.retired) synced;
          told = λ l. held_now;
        }

    pub adoption_ok : (u : Unit {0}) → (IsErrOf result refusal.Failed → ⊥) → p ≡ part_over k kept.free range rows
        → Adoption range rows (value_of old entry kept) (value_of new new (record kept { parts = kept.parts ++ p ∷ []; free = drop k kept.free; sealed = range.last })) (Ok u)
    unfolding adopted_state part_over
    adoption_ok u fine e = record {
      room = record {
        regions = k;
        needed = c.needed;
        enough = c.enough;
        was_open = c.open_room;
        room = ap (λ (q : Part). on (record (value_of old entry kept).room { sealed = range.last; parts = kept.parts ++ q ∷ []; free = drop k kept.free }) new) e;
        target = refl;
        entry = refl;
        synced = synced;
        counts = record { faults = (run.counts.else_same fine).0; own_faults = (run.counts.else_same fine).1 };
      };
      stands = stands_ok;
      holds = holds_ok (ap (λ (q : Part). q.region) e);
      refused = tt;
      inside = inside;
      becomes = becomes (record kept { parts = kept.parts ++ p ∷ []; free = drop k kept.free; sealed = range.last }) (let n = c.next in let l = c.order in omega (arith, n, l)) refl (λ h. absurd (true≢false (sym h ∙ c.open_room)));
      time = run.time;
      beside = run.beside;
      read = read_taken;
    }

  -- ---- the disk failed

  module _ (failed : IsErrOf result refusal.Failed) where
    abbrev shut : Kept
    shut = record kept { free = drop k kept.free; lost = set_of (take k kept.free); is_shut = true }

    risen : HasRisen old.own_faults new.own_faults × HasRisen old.faults new.faults
    risen = (run.counts.own_faults failed, run.counts.faults failed)

    lost_some : set_of (take k kept.free) ≡ [] → ⊥
    lost_some e =
        let there : list_any (nat_eq p.region) rs ≡ true = ap (λ b. b || list_any (nat_eq p.region) (continuations p.header)) (eq-eqb p.region p.region refl) in
        let low : p.region < 64 = (part_small old entry kept range rows k c p o).0 in
        let in_set = among (λ n. list_any (nat_eq n) (take k kept.free)) p.region low in
        true≢false (sym there ∙ ap (list_any (nat_eq p.region)) o.regions_is ∙ sym in_set ∙ ap (list_any (nat_eq p.region)) e)

    pub whole_shut : IsWhole (value_of new entry (record kept { free = drop k kept.free; lost = set_of (take k kept.free); is_shut = true }))
    whole_shut =
        let times = shut_times old entry kept range rows k c p o new in
        let low = lowest old entry kept range rows k c in
        record {
          geometry = still_geometry old new run.beside c.whole.geometry;
          sound = run.sound;
          of_disk = refl;
          in_chain = c.whole.in_chain;
          ends = c.whole.ends;
          lie = moved_lie old new entry kept c.whole run.beside run.sound run.time lower rs beside run.read (kept.parts ++ kept.retired) c.whole.lie;
          apart = subst (λ n. AreApart n (taken (value_of new entry shut).room kept.target)) (sym run.beside.regions) (same_apart old.regions before_taken (taken (value_of new entry shut).room kept.target) times low.0);
          free = low.1 ∙ same_outside old.regions before_taken (taken (value_of new entry shut).room kept.target) times ∙ ap (λ n. regions_outside n (taken (value_of new entry shut).room kept.target)) (sym run.beside.regions);
          rising = c.whole.rising;
          board = moved_board old new entry kept c.whole run.beside run.sound run.time lower rs beside run.read shut refl c.whole.board.of_parts;
          epoch = epoch_stays (value_of old entry kept) (value_of new entry shut) c.whole.epoch run.beside.region_len c.whole.epoch.none (λ l. absurd (lost_some l)) c.whole.epoch.epoch;
          job = subst (λ (j : Option Job). IfSome j (IsJob (value_of new entry shut).room)) (sym c.no_job) tt;
          entry = moved_entry old new entry kept c.whole run.beside run.sound run.time lower rs beside run.read shut
              (λ h. (risen_since entry.own_faults old.own_faults new.own_faults c.whole.entry.no_lower.1 risen.0, risen_since entry.faults old.faults new.faults c.whole.entry.no_lower.0 risen.1));
          lost = λ h. absurd (let e : true ≡ false = h in cc);
          unsynced = λ l. absurd (lost_some l);
          told = λ l. absurd (lost_some l);
        }

    pub adoption_shut : Adoption range rows (value_of old entry kept) (value_of new entry (record kept { free = drop k kept.free; lost = set_of (take k kept.free); is_shut = true })) (Err (adopt_fault.Room room_fault.Disk))
    adoption_shut = record {
      room = (
        k,
        c.needed,
        c.enough,
        shuts _ _ c.open_room refl refl refl run.beside run.time run.counts failed,
      );
      stands = tt;
      holds = tt;
      refused = λ other. absurd (other refl);
      inside = inside;
      becomes = becomes shut (omega arith) refl (λ h. risen);
      time = run.time;
      beside = run.beside;
      read = read_taken;
    }

  -- ---- memory ran out

  module _ (e : IsErrOf result refusal.NoMemory) where
    fine : IsErrOf result refusal.Failed → ⊥
    fine f = let h : ◌≡◌ {A = Result (Unit {0}) DiskRefusal} (Err refusal.NoMemory) (Err refusal.Failed) = sym e ∙ f in cc

    pub whole_memory : IsWhole (value_of new entry kept)
    whole_memory =
        moved_whole old new entry kept c.whole run.beside run.sound run.time lower rs beside run.read c.open_room run.dirties
        (still_held old new entry kept c.whole c.open_room rs beside below run.beside run.sound run.time (IsErrOf result refusal.Failed) run.counts (run.behind e) (run.torn e))

    keeps : Keeps (value_of old entry kept) (value_of new entry kept)
    keeps =
        written_keeps old new entry kept c.whole c.open_room rs beside below run.beside run.sound run.time (IsErrOf result refusal.Failed) run.counts (run.behind e) (run.torn e) kept.job kept.lost kept.is_shut
        (λ h. absurd (true≢false (sym h ∙ c.open_room)))

    pub adoption_memory : Adoption range rows (value_of old entry kept) (value_of new entry kept) (Err (adopt_fault.Room room_fault.NoMemory))
    adoption_memory = record {
      room = does _ _ c.open_room refl refl refl run.beside run.time run.counts fine;
      stands = tt;
      holds = tt;
      refused = λ other. keeps.stands;
      inside = inside;
      becomes = keeps.becomes;
      time = run.time;
      beside = run.beside;
      read = read_taken;
    }

-- ---- the disk was not called

pub adoption_none : (value : RoomValue) (range : Range) (rows : List Row) (fault : AdoptFault) → IsWhole value → AdoptsOr range rows value value (Err fault) → Adoption range rows value value (Err fault)
unfolding Stands
adoption_none value range rows fault whole room = record {
  room = room;
  stands = tt;
  holds = tt;
  refused = λ other first e history h. h;
  inside = λ first e h. on' first e value.entry.told value.disk.told whole.entry.time h;
  becomes = becomes_itself value.room;
  time = continues_none value.disk;
  beside = same_beside value.disk;
  read = beside_told (taken_for value.room rows) value.disk value.disk refl;
}
  where
    on' : (first : List Row) (e : ℕ) (x y : Option Told) → BothTold Continues x y → StandsWhere value.room x y first e [] → ShowsEither value y y range first rows
    on' first e None None q s = tt
    on' first e None (Some b) q s = absurd q
    on' first e (Some a) None q s = absurd q
    on' first e (Some a) (Some b) q s = λ image since.
        let some = s.stands.images.now_sealed image (only_now b image since) in
        let n = s.stands.counts.sealed in
        inl (record { e = some.e; rows = some.rows; shows = some.shows; from = some.from; to = (let t = some.to in omega (arith, t, n)); agrees = some.agrees })

-- What holds behind each answer of making a view.
use Rattle.std.proofs.Common.{◌≡◌, ℕ, ◌<◌, true, false, List, [], ◌∷◌, ◌++◌, length, map, Some, None, Ok, Err, refl, sym, ap, subst, ◌∙◌, inl, inr, arith, true≢false}
use Rattle.std.specs.Prelude.{Option, IfSome, All, Contains, IsPermutation, IsTrue, nat_eq, option_map, option_to_list, slice_set, ◌||◌}
use Rattle.std.specs.List.{AllByRecursion, list_any, range_with_len}
use Rattle.std.proofs.lemmas.List.{length-set, map-append}
use Rattle.std.proofs.lemmas.List.Elements.{All-contains, All-from_recursion}
use Rattle.std.proofs.lemmas.List.Folds.{list_any-append}
use Rattle.fine_model.specs.declared.Part.{Part}
use Rattle.fine_model.specs.declared.law.OpenedEye.{OpenedEye}
use Rattle.fine_model.specs.Boards.{Buffer, buffer_at, empty_of, posted, named, held_of, regions_by, set_of}
use Rattle.fine_model.specs.Chain.{AreRowsOf, regions_of}
use Rattle.fine_model.specs.Jobs.{job_left}
use Rattle.fine_model.specs.Regions.{Image, HasHeader, region_of}
use Rattle.fine_model.specs.Trees.{is_distinct}
use Rattle.fine_model.specs.Views.{SameSeen}
use Rattle.fine_model.proofs.Histories.Goings.{job_itself}
use Rattle.fine_model.proofs.Ordered.Nothing.{each_there}
use Rattle.fine_model.proofs.Ordered.Order.{all_map, filter_none}
use Rattle.fine_model.proofs.Ordered.Sets.{all_append}
use Rattle.fine_model.proofs.Ordered.Zip.{all_left, all_right}
use Rattle.partition_index.specs.Parts.{IsSeen, LiesIn}
use Rattle.partition_hold.specs.Views.{ViewValue, opened}
use Rattle.log_disk.specs.Disk.{BothSee, BothTold, Disk, Eye, OnlyFails, Opens, Told, IsSound, IsToldOf}
use Rattle.log_disk.specs.Moments.{Continues, IsLeft}
use Rattle.log_disk.proofs.Sound.{sound_failure, sound_opens}
use Rattle.log_disk.proofs.Times.{continues_told}
use Rattle.epoch_room.specs.Meaning.{Keeps, Stands, StandsWhere}
use Rattle.epoch_room.specs.Steps.{Does, Shuts}
use Rattle.epoch_room.specs.Value.{RoomValue, Kept, all_regions, on, value_of}
use Rattle.epoch_room.specs.Views.{AgreesUpTo, MakesView, ViewsLog, ViewsOr}
use Rattle.epoch_room.specs.Whole.{AreOnBoard, HoldsParts, IsWhole, NamesWhole}
use Rattle.epoch_room.specs.declared.answers.RoomFault.{RoomFault}
use Rattle.epoch_room.specs.declared.answers.RoomFault.TheVariants as room_fault
use Rattle.epoch_room.proofs.OpenEpochs.Behind.{keeps_none}
use Rattle.epoch_room.proofs.RegionSets.Beside.{regions_together}
use Rattle.epoch_room.proofs.Views.Seating.{SameBytes, boarded, boarded_job, boarded_keeps, boarded_whole, bytes_stay}
use Rattle.epoch_room.proofs.RegionSets.Taken.{apart_back}
use Rattle.epoch_room.proofs.Views.Viewing.{SplitsAt, all_parts, empty_is, given_more, names_all, new_number, one_more, splits_at}
use Rattle.epoch_room.proofs.Moved.{shuts}

-- an earlier failure, and want of memory
pub views_none : (value : RoomValue) (seat : ℕ) (fault : RoomFault) → IsWhole value → ViewsOr value value seat (Err fault) → MakesView value value seat (Err fault)
views_none value seat fault whole room = record { room = room; log = tt; keeps = keeps_none value whole; job = job_itself value.room }

module _ (old entry : Disk) (kept : Kept) (whole : IsWhole (value_of old entry kept)) where
  -- all regions of live parts are on the disk
  pub live_below : AllByRecursion (λ r. r < old.regions) (all_regions kept.parts)
  live_below =
      let job : List ℕ = job_left (value_of old entry kept).room in
      let a = apart_back old.regions (option_to_list kept.target) (job ++ (kept.lost ++ all_regions (kept.parts ++ kept.retired))) whole.apart in
      let b = apart_back old.regions job (kept.lost ++ all_regions (kept.parts ++ kept.retired)) a in
      let c = apart_back old.regions kept.lost (all_regions (kept.parts ++ kept.retired)) b in
      all_left (λ r. r < old.regions) (all_regions kept.parts) (all_regions kept.retired) (subst (AllByRecursion (λ r. r < old.regions)) (regions_together kept.parts kept.retired) c.below)

  pub live_small : AllByRecursion (λ r. r < 64) (all_regions kept.parts)
  live_small = all_map (λ r. r < old.regions) (λ r. r < 64) (λ r h. let m = whole.geometry.regions_high in omega (arith, h, m)) (all_regions kept.parts) live_below

  -- and nothing of them is unsynced
  pub live_synced : kept.is_shut ≡ false → All (λ r. Contains old.unsynced r → ⊥) (all_regions kept.parts)
  live_synced open_room = All-from_recursion (λ r. Contains old.unsynced r → ⊥) (all_regions kept.parts) (all_map (λ r. list_any (nat_eq r) (all_regions kept.parts) ≡ true) (λ r. Contains old.unsynced r → ⊥) one (all_regions kept.parts) (each_there (all_regions kept.parts)))
    where
      one : (r : ℕ) → list_any (nat_eq r) (all_regions kept.parts) ≡ true → Contains old.unsynced r → ⊥
      one r there dirty =
          true≢false (
          sym (ap (list_any (nat_eq r)) (regions_together kept.parts kept.retired) ∙ list_any-append (nat_eq r) (all_regions kept.parts) (all_regions kept.retired) ∙ ap (λ b. b || list_any (nat_eq r) (all_regions kept.retired)) there)
          ∙ All-contains (λ q. list_any (nat_eq q) (all_regions (kept.parts ++ kept.retired)) ≡ false) old.unsynced r (whole.unsynced (whole.lost open_room)) dirty
          )

-- ---- a view was made

module _ (old new entry : Disk) (kept : Kept) (whole : IsWhole (value_of old entry kept)) (open_room : kept.is_shut ≡ false) (seat buffer : ℕ) (eye : Eye) (opens : Opens (all_regions kept.parts) eye old new) (lowest : empty_of kept.board seat ≡ Some buffer) where
  abbrev eyes_of : Disk → List (ℕ × List ℕ)
  eyes_of disk = map (λ eye. (eye.number, eye.regions)) disk.eyes

  same : SameBytes old new
  same = bytes_stay old new opens.others.0 opens.others.1 opens.others.2 opens.told (let f = opens.others.3 in omega (arith, f), let f = opens.others.4 in omega (arith, f))

  sound : IsSound new
  sound = sound_opens opens whole.sound

  split : SplitsAt kept.board (buffer_at seat buffer) (opened eye)
  split = splits_at kept.board (buffer_at seat buffer) (opened eye) (empty_is kept.board seat buffer lowest)

  new_eyes : eyes_of new ≡ eyes_of old ++ (eye.number, all_regions kept.parts) ∷ []
  new_eyes = ap (map (λ eye. (eye.number, eye.regions))) opens.listed ∙ map-append (λ eye. (eye.number, eye.regions)) old.eyes (record { number = eye.number; regions = all_regions kept.parts } ∷ [])

  abbrev board : List Buffer
  board = slice_set kept.board (buffer_at seat buffer) (Some (opened eye))

  abbrev shows : OpenedEye → Type 0
  shows e = SameSeen e.regions (option_map (λ (t : Told). t.bytes) new.told) e.told

  own_shows : SameSeen (set_of eye.regions) (option_map (λ (t : Told). t.bytes) new.told) eye.told
  own_shows = subst (λ (t : Option Told). SameSeen (set_of eye.regions) (option_map (λ (x : Told). x.bytes) t) eye.told) (sym opens.told) (by old.told eye.told opens.sees)
    where
      alike : (a b : Image) → b ≡ a → (rs : List ℕ) → AllByRecursion (λ r. region_of b r ≡ region_of a r) rs
      alike a b e [] = tt
      alike a b e (r ∷ rs) = (ap (λ i. region_of i r) e, alike a b e rs)

      by : (t : Option Told) (o : Option Image) → BothSee t o → SameSeen (set_of eye.regions) (option_map (λ (x : Told). x.bytes) t) o
      by None None h = tt
      by None (Some image) h = absurd h
      by (Some t) None h = absurd h
      by (Some t) (Some image) h = record { as_many = ap length h; same = alike t.bytes image h (set_of eye.regions) }

  on_board : AreOnBoard (value_of new entry (boarded kept board kept.is_shut)).room
  on_board = record {
    seats = let s = whole.board.seats in (s.0, s.1, s.2, length-set kept.board (buffer_at seat buffer) (Some (opened eye)) ∙ s.3);
    eyes = subst (λ es. IsPermutation (map named es) (map held_of (posted board))) (sym new_eyes)
        (subst (λ ps. IsPermutation (map named (eyes_of old ++ (eye.number, all_regions kept.parts) ∷ [])) (map held_of ps)) (sym split.is)
        (one_more (eyes_of old) (eye.number, all_regions kept.parts) (opened eye) split.front split.back (ap (λ rs. (eye.number, set_of rs)) (sym opens.of_regions.0)) (subst (λ ps. IsPermutation (map named (eyes_of old)) (map held_of ps)) split.was whole.board.eyes)));
    once = subst (λ es. IsTrue (is_distinct (map (λ (e : ℕ × List ℕ). e.0) es))) (sym new_eyes) (new_number old.given (eyes_of old) eye.number whole.board.given opens.is_new whole.board.once (all_regions kept.parts));
    given = subst (λ es. AllByRecursion (λ (e : ℕ × List ℕ). Contains new.given e.0) es) (sym new_eyes)
        (subst (λ ns. AllByRecursion (λ (e : ℕ × List ℕ). Contains ns e.0) (eyes_of old ++ (eye.number, all_regions kept.parts) ∷ [])) (sym opens.given) (given_more old.given eye.number (eyes_of old) whole.board.given (all_regions kept.parts)));
    of_parts = subst (AllByRecursion (NamesWhole (kept.parts ++ kept.retired))) (sym new_eyes)
        (all_append (NamesWhole (kept.parts ++ kept.retired)) (eyes_of old) ((eye.number, all_regions kept.parts) ∷ []) whole.board.of_parts (names_all eye.number kept.parts kept.retired, tt));
    shows = subst (AllByRecursion shows) (sym split.is) (insert split.front split.back (subst (AllByRecursion shows) split.was still));
  }
    where
      still : AllByRecursion shows (posted kept.board)
      still = subst (λ (t : Option Told). AllByRecursion (λ (e : OpenedEye). SameSeen e.regions (option_map (λ (x : Told). x.bytes) t) e.told) (posted kept.board)) (sym opens.told) whole.board.shows

      insert : (front back : List OpenedEye) → AllByRecursion shows (front ++ back) → AllByRecursion shows (front ++ opened eye ∷ back)
      insert [] back all = (own_shows, all)
      insert (e ∷ front) back all = (all.0, insert front back all.1)

  pub viewed_whole : IsWhole (value_of new entry (boarded kept board kept.is_shut))
  viewed_whole = boarded_whole old new entry kept whole same sound board kept.is_shut on_board (λ h. h) (λ h. inl h)

  -- what a view needs
  pub viewed_seen : AllByRecursion (IsSeen eye) kept.parts
  viewed_seen = each kept.parts (all_parts kept.parts) (by kept.parts live_lie live_long)
    where
      live_lie : AllByRecursion (λ (p : Part). LiesIn old.region_len p.header) kept.parts
      live_lie = all_left (λ (p : Part). LiesIn old.region_len p.header) kept.parts kept.retired whole.lie

      long_in : (t : Option Told) (o : Option Image) → BothSee t o → IfSome t (IsToldOf old) → (rs : List ℕ) → AllByRecursion (λ r. r < old.regions) rs → IfSome o (λ image. AllByRecursion (λ r. length (region_of image r) ≡ eye.region_len) rs)
      long_in None None h s rs low = tt
      long_in None (Some image) h s rs low = absurd h
      long_in (Some t) None h s rs low = absurd h
      long_in (Some t) (Some image) h s rs low = all_map (λ r. r < old.regions) (λ r. length (region_of image r) ≡ eye.region_len) (λ r below. ap (λ i. length (region_of i r)) h ∙ s.lengths r below ∙ sym opens.of_regions.1) rs low

      live_long : AllByRecursion (λ (p : Part). AllByRecursion (λ r. r < old.regions) (regions_of p)) kept.parts
      live_long = parted kept.parts (live_below old entry kept whole)
        where
          parted : (ps : List Part) → AllByRecursion (λ r. r < old.regions) (all_regions ps) → AllByRecursion (λ (p : Part). AllByRecursion (λ r. r < old.regions) (regions_of p)) ps
          parted [] all = tt
          parted (p ∷ ps) all = (all_left (λ r. r < old.regions) (regions_of p) (all_regions ps) all, parted ps (all_right (λ r. r < old.regions) (regions_of p) (all_regions ps) all))

      by : (ps : List Part) → AllByRecursion (λ (p : Part). LiesIn old.region_len p.header) ps → AllByRecursion (λ (p : Part). AllByRecursion (λ r. r < old.regions) (regions_of p)) ps
          → AllByRecursion (λ (p : Part). LiesIn old.region_len p.header × AllByRecursion (λ r. r < old.regions) (regions_of p)) ps
      by [] a b = tt
      by (p ∷ ps) a b = ((a.0, b.0), by ps a.1 b.1)

      each : (ps : List Part) → AllByRecursion (λ (p : Part). AllByRecursion (Contains (all_regions kept.parts)) (regions_of p)) ps → AllByRecursion (λ (p : Part). LiesIn old.region_len p.header × AllByRecursion (λ r. r < old.regions) (regions_of p)) ps
          → AllByRecursion (IsSeen eye) ps
      each [] a b = tt
      each (p ∷ ps) a b = (
        record {
          named = subst (λ rs. AllByRecursion (Contains rs) (regions_of p)) (sym opens.of_regions.0) a.0;
          long = long_in old.told eye.told opens.sees whole.sound.told (regions_of p) b.0.1;
          lies = subst (λ n. LiesIn n p.header) (sym opens.of_regions.1) b.0.0;
        },
        each ps a.1 b.1,
      )

  pub viewed_small : AllByRecursion (λ r. r < 64) eye.regions
  viewed_small = subst (AllByRecursion (λ r. r < 64)) (sym opens.of_regions.0) (live_small old entry kept whole)

  abbrev view : ViewValue
  view = record { eye = eye; parts = kept.parts; upto = kept.sealed; seat = seat; buffer = buffer; region_len = old.region_len }

  -- its rows are those of the log up to the sealed epoch
  log : ViewsLog (value_of old entry kept) view
  unfolding Stands
  log first e history stands = by entry.told old.told eye.told whole.entry.time opens.sees whole.sound.told (whole.told (whole.lost open_room)) stands
    where
      by : (x t : Option Told) (o : Option Image) → BothTold Continues x t → BothSee t o → IfSome t (IsToldOf old) → IfSome t (IsLeft (λ image. HoldsParts old.region_len image kept.parts kept.retired)) → StandsWhere (value_of old entry kept).room x t first e history
          → AgreesUpTo t (record { eye = record eye { told = o }; parts = kept.parts; upto = kept.sealed; seat = seat; buffer = buffer; region_len = old.region_len }) first history
      by x None o p h s left st = tt
      by x (Some t) None p h s left st = absurd h
      by None (Some t) (Some image) p h s left st = absurd p
      by (Some b) (Some t) (Some image) p h s left st = (
        st.stands.live.rows,
        record {
          image = image;
          is_told = refl;
          headers = subst (λ i. AllByRecursion (λ (p : Part). HasHeader old.region_len i p.region p.header) kept.parts) (sym h) (all_left (λ (p : Part). HasHeader old.region_len t.bytes p.region p.header) kept.parts kept.retired (left t.bytes s.image).headers);
          are_rows = subst (λ i. AreRowsOf old.region_len i kept.parts st.stands.live.rows) (sym h) st.stands.live.are_rows;
        },
        st.stands.live.agrees,
      )

  posts : Does (record (value_of old entry kept).room { board = board }) kept.target (value_of old entry kept) (value_of new entry (boarded kept board kept.is_shut))
  posts = (
    open_room,
    record { room = refl; target = refl; entry = refl; regions = opens.others.0; region_len = opens.others.1; time = continues_told old new opens.told },
    record { faults = opens.others.3; own_faults = opens.others.4 },
  )

  pub makes_view : MakesView (value_of old entry kept) (value_of new entry (boarded kept board kept.is_shut)) seat (Ok view)
  makes_view = record {
    room = record { of_seat = refl; buffer = lowest; parts = refl; upto = refl; region_len = refl; opens = opens; posts = posts };
    log = log;
    keeps = boarded_keeps old new entry kept whole same sound board kept.is_shut on_board (λ h. h) (λ h. inl h);
    job = boarded_job old new entry kept whole same sound board kept.is_shut on_board (λ h. h) (λ h. inl h);
  }

-- ---- the eye failed

set_none : set_of [] ≡ []
unfolding regions_by
set_none = filter_none (λ r. false) (range_with_len 0 64) (all_false (range_with_len 0 64))
  where
    all_false : (xs : List ℕ) → AllByRecursion (λ x. false ≡ false) xs
    all_false [] = tt
    all_false (x ∷ xs) = (refl, all_false xs)

module _ (old new entry : Disk) (kept : Kept) (whole : IsWhole (value_of old entry kept)) (open_room : kept.is_shut ≡ false) (fails : OnlyFails old new) where
  abbrev eyes_in : Disk → List (ℕ × List ℕ)
  eyes_in disk = map (λ eye. (eye.number, eye.regions)) disk.eyes

  same_failed : SameBytes old new
  same_failed = record { regions = fails.beside.regions; region_len = fails.beside.region_len; told = fails.told; unsynced = fails.unsynced; no_lower = fails.counts.no_lower }

  same_eyes : eyes_in new ≡ eyes_in old
  same_eyes = ap (map (λ eye. (eye.number, eye.regions))) fails.beside.eyes

  failed_board : AreOnBoard (value_of new entry (boarded kept kept.board true)).room
  failed_board = record {
    seats = whole.board.seats;
    eyes = subst (λ es. IsPermutation (map named es) (map held_of (posted kept.board))) (sym same_eyes) whole.board.eyes;
    once = subst (λ es. IsTrue (is_distinct (map (λ (e : ℕ × List ℕ). e.0) es))) (sym same_eyes) whole.board.once;
    given = subst (λ es. AllByRecursion (λ (e : ℕ × List ℕ). Contains new.given e.0) es) (sym same_eyes) (subst (λ ns. AllByRecursion (λ (e : ℕ × List ℕ). Contains ns e.0) (eyes_in old)) (sym fails.beside.given) whole.board.given);
    of_parts = subst (AllByRecursion (NamesWhole (kept.parts ++ kept.retired))) (sym same_eyes) whole.board.of_parts;
    shows = subst (λ (t : Option Told). AllByRecursion (λ (e : OpenedEye). SameSeen e.regions (option_map (λ (x : Told). x.bytes) t) e.told) (posted kept.board)) (sym fails.told) whole.board.shows;
  }

  pub failed_whole : IsWhole (value_of new entry (boarded kept kept.board true))
  failed_whole = boarded_whole old new entry kept whole same_failed (sound_failure fails whole.sound) kept.board true failed_board (λ h. refl) (λ h. inr (fails.counts.own_faults tt, fails.counts.faults tt))

  pub failed_keeps : Keeps (value_of old entry kept) (value_of new entry (boarded kept kept.board true))
  failed_keeps = boarded_keeps old new entry kept whole same_failed (sound_failure fails whole.sound) kept.board true failed_board (λ h. refl) (λ h. inr (fails.counts.own_faults tt, fails.counts.faults tt))

  pub failed_shuts : Shuts (value_of old entry kept).room kept.target [] (value_of old entry kept) (value_of new entry (boarded kept kept.board true))
  failed_shuts = shuts _ _ open_room (ap (λ lost. on (record (value_of old entry kept).room { is_shut = true; lost = lost }) new) (whole.lost open_room ∙ sym set_none)) refl refl fails.beside (continues_told old new fails.told) fails.counts tt

  pub failed_view : (seat : ℕ) → MakesView (value_of old entry kept) (value_of new entry (boarded kept kept.board true)) seat (Err room_fault.Disk)
  failed_view seat = record {
    room = (failed_shuts, fails.told);
    log = tt;
    keeps = failed_keeps;
    job = boarded_job old new entry kept whole same_failed (sound_failure fails whole.sound) kept.board true failed_board (λ h. refl) (λ h. inr (fails.counts.own_faults tt, fails.counts.faults tt));
  }

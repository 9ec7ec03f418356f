-- A room with another board, on a disk that tells what it told.
use Rattle.std.proofs.Common.{◌≡◌, ℕ, zero, suc, ◌*◌, ◌%◌, ◌≤◌, Bool, true, false, List, [], ◌∷◌, ◌++◌, map, Some, None, refl, sym, ap, subst, ◌∙◌, inl, inr, arith, ◌⊎◌}
use Rattle.std.specs.Prelude.{Option, IfSome, All, IsPermutation, is_some, nat_eq, option_map, replicate}
use Rattle.std.specs.List.{AllByRecursion, list_all, list_any}
use Rattle.std.proofs.lemmas.List.{length-replicate}
use Rattle.std.proofs.lemmas.List.Sorted.{Contains-permutation, IsPermutation-sym}
use Rattle.std.proofs.lemmas.Option.{IfSome_then}
use Rattle.fine_model.specs.declared.Part.{Part}
use Rattle.fine_model.specs.declared.Row.{Row}
use Rattle.fine_model.specs.declared.law.OpenedEye.{OpenedEye}
use Rattle.fine_model.specs.Becomes.{Becomes}
use Rattle.fine_model.specs.Boards.{Buffer, is_empty, posted, named, held_of}
use Rattle.fine_model.specs.Jobs.{KeepsJob, held_for}
use Rattle.fine_model.specs.History.{Commit}
use Rattle.fine_model.specs.Causes.{NoNeighboursFit}
use Rattle.fine_model.specs.Chain.{AreRowsOf, chain}
use Rattle.fine_model.specs.Views.{SameSeen}
use Rattle.partition_index.specs.Parts.{LiesIn}
use Rattle.log_disk.specs.Disk.{Disk, Told, HasRisen, IsSound}
use Rattle.log_disk.specs.Moments.{ContinuesOn, IsLeft}
use Rattle.log_disk.proofs.Times.{continues_told, continues_then}
use Rattle.epoch_room.specs.Meaning.{Keeps, ShownInside, Stands, StandsTold, StandsWhere}
use Rattle.epoch_room.specs.Value.{Kept, all_regions, regions_outside, taken, value_of}
use Rattle.epoch_room.specs.Whole.{AreApart, AreOnBoard, HoldsParts, IsJob, IsTaken, IsWhole}
use Rattle.epoch_room.proofs.OpenEpochs.Behind.{inside_none}
use Rattle.epoch_room.proofs.OpenEpochs.Kept.{on_stands}
use Rattle.epoch_room.proofs.Moved.{epoch_stays}

-- ---- boards

pub none_posted : (n : ℕ) → posted (replicate n None) ≡ []
none_posted zero = refl
none_posted (suc n) = none_posted n

pub empty_posted : (board : List Buffer) → list_all is_empty board ≡ true → posted board ≡ []
empty_posted [] all = refl
empty_posted (None ∷ board) all = empty_posted board all
empty_posted (Some eye ∷ board) all = absurd (let e : false ≡ true = all in cc)

-- ---- a room with another board

-- a disk that tells what it told, with the same regions unsynced
pub record SameBytes (old new : Disk) : Type 0 where
  pub regions : new.regions ≡ old.regions
  pub region_len : new.region_len ≡ old.region_len
  pub told : new.told ≡ old.told
  pub unsynced : new.unsynced ≡ old.unsynced
  pub no_lower : (old.faults ≤ new.faults) × (old.own_faults ≤ new.own_faults)

pub bytes_stay : (old new : Disk) → new.regions ≡ old.regions → new.region_len ≡ old.region_len → new.unsynced ≡ old.unsynced → new.told ≡ old.told → (old.faults ≤ new.faults) × (old.own_faults ≤ new.own_faults) → SameBytes old new
bytes_stay old new regions region_len unsynced told lower = record { regions = regions; region_len = region_len; told = told; unsynced = unsynced; no_lower = lower }

abbrev pub boarded : Kept → List Buffer → Bool → Kept
boarded kept board shut = record kept { board = board; is_shut = shut }

module _ (old new entry : Disk) (kept : Kept) (whole : IsWhole (value_of old entry kept)) (same : SameBytes old new) (sound : IsSound new) (board : List Buffer) (shut : Bool) (on_board : AreOnBoard (value_of new entry (boarded kept board shut)).room)
    (stays : kept.is_shut ≡ true → shut ≡ true) (failed : shut ≡ true → (kept.is_shut ≡ true) ⊎ (HasRisen old.own_faults new.own_faults × HasRisen old.faults new.faults)) where
  abbrev eyes_of : Disk → List (ℕ × List ℕ)
  eyes_of disk = map (λ eye. (eye.number, eye.regions)) disk.eyes

  open_before : shut ≡ false → kept.is_shut ≡ false
  open_before h = by kept.is_shut refl
    where
      by : (b : Bool) → kept.is_shut ≡ b → kept.is_shut ≡ false
      by false e = e
      by true e = absurd (let s = stays e in cc)

  time : ContinuesOn old new
  time = continues_told old new same.told

  risen : (a b c : ℕ) → a ≤ b → HasRisen b c → HasRisen a c
  risen a b c low r = grind (arith, low, r)

  later : (a b c : ℕ) → HasRisen a b → b ≤ c → HasRisen a c
  later a b c r low = grind (arith, low, r)

  pub boarded_whole : IsWhole (value_of new entry (boarded kept board shut))
  boarded_whole = record {
    geometry = record {
      regions_low = omega (arith, same.regions, whole.geometry.regions_low);
      regions_high = omega (arith, same.regions, whole.geometry.regions_high);
      len_low = omega (arith, same.region_len, whole.geometry.len_low);
      len_high = omega (arith, same.region_len, whole.geometry.len_high);
      whole = ap (λ n. n % 1024) same.region_len ∙ whole.geometry.whole;
    };
    sound = sound;
    of_disk = refl;
    in_chain = whole.in_chain;
    ends = whole.ends;
    lie = subst (λ n. AllByRecursion (λ (p : Part). LiesIn n p.header) (kept.parts ++ kept.retired)) (sym same.region_len) whole.lie;
    apart = subst (λ n. AreApart n (taken (value_of old entry kept).room kept.target)) (sym same.regions) whole.apart;
    free = whole.free ∙ ap (λ n. regions_outside n (taken (value_of old entry kept).room kept.target)) (sym same.regions);
    rising = whole.rising;
    board = on_board;
    epoch = epoch_stays (value_of old entry kept) (value_of new entry (boarded kept board shut)) whole.epoch same.region_len whole.epoch.none whole.epoch.some whole.epoch.epoch;
    job = IfSome_then kept.job {P = IsJob (value_of old entry kept).room} {Q = IsJob (value_of new entry (boarded kept board shut)).room} whole.job
        (λ job is. record { before = is.before; after = is.after; neighbours = is.neighbours; untaken = is.untaken; is_taken = λ header h. subst (λ n. IsTaken n job header) (sym same.region_len) (is.is_taken header h) });
    entry = record {
      regions = whole.entry.regions ∙ sym same.regions;
      region_len = whole.entry.region_len ∙ sym same.region_len;
      time = continues_then entry old new whole.entry.time time;
      no_lower = (let a = whole.entry.no_lower.0 in let b = same.no_lower.0 in omega (arith, a, b), let a = whole.entry.no_lower.1 in let b = same.no_lower.1 in omega (arith, a, b));
      failed = λ h. by (failed h);
    };
    lost = λ h. whole.lost (open_before h);
    unsynced = λ l. subst (All (λ r. list_any (nat_eq r) (all_regions (kept.parts ++ kept.retired)) ≡ false)) (sym same.unsynced) (whole.unsynced l);
    told = λ l. subst (λ t. IfSome t (IsLeft (λ image. HoldsParts new.region_len image kept.parts kept.retired))) (sym same.told)
        (subst (λ n. IfSome old.told (IsLeft (λ image. HoldsParts n image kept.parts kept.retired))) (sym same.region_len) (whole.told l));
  }
    where
      by : (kept.is_shut ≡ true) ⊎ (HasRisen old.own_faults new.own_faults × HasRisen old.faults new.faults) → HasRisen entry.own_faults new.own_faults × HasRisen entry.faults new.faults
      by (inl h) = (later entry.own_faults old.own_faults new.own_faults (whole.entry.failed h).0 same.no_lower.1, later entry.faults old.faults new.faults (whole.entry.failed h).1 same.no_lower.0)
      by (inr h) = (risen entry.own_faults old.own_faults new.own_faults whole.entry.no_lower.1 h.0, risen entry.faults old.faults new.faults whole.entry.no_lower.0 h.1)

  boarded_told : (before told : Told) (first : List Row) (e : ℕ) (history : List Commit) → StandsTold (value_of old entry kept).room before told first e history → StandsTold (value_of new entry (boarded kept board shut)).room before told first e history
  boarded_told before told first e history s = on_stands (record (value_of old entry kept).room { board = board; is_shut = shut; eyes = eyes_of new }) new before told first e history same.region_len refl (record {
    stands = record {
      legal = s.stands.legal;
      counts = record {
        places = s.stands.counts.places;
        epochs = s.stands.counts.epochs;
        sealed = s.stands.counts.sealed;
        open_epoch = s.stands.counts.open_epoch;
        eyes = λ x. (Contains-permutation (map named (eyes_of new)) (map held_of (posted board)) x on_board.eyes, Contains-permutation (map held_of (posted board)) (map named (eyes_of new)) x (IsPermutation-sym (map named (eyes_of new)) (map held_of (posted board)) on_board.eyes));
      };
      live = record { rows = s.stands.live.rows; are_rows = s.stands.live.are_rows; agrees = s.stands.live.agrees; no_longer = s.stands.live.no_longer };
      images = s.stands.images;
    };
    waiting = s.waiting;
    small = s.small;
    none_open = λ h. s.none_open (open_before h);
  })

  boarded_stands : (first : List Row) (e : ℕ) (history : List Commit) → Stands (value_of old entry kept) first e history → Stands (value_of new entry (boarded kept board shut)) first e history
  unfolding Stands
  boarded_stands first e history s = subst (λ t. StandsWhere (value_of new entry (boarded kept board shut)).room entry.told t first e history) (sym same.told) (on' entry.told old.told s)
    where
      on' : (x y : Option Told) → StandsWhere (value_of old entry kept).room x y first e history → StandsWhere (value_of new entry (boarded kept board shut)).room x y first e history
      on' None None s = tt
      on' None (Some b) s = tt
      on' (Some a) None s = tt
      on' (Some a) (Some b) s = boarded_told a b first e history s

  same_image : (value_of new entry (boarded kept board shut)).room.image ≡ (value_of old entry kept).room.image
  same_image = ap (option_map (λ (t : Told). t.bytes)) same.told

  boarded_becomes : Becomes (value_of old entry kept).room (value_of new entry (boarded kept board shut)).room
  boarded_becomes = record {
    region_len = same.region_len;
    regions = same.regions;
    told = ap is_some same_image;
    sealed = omega arith;
    places = omega arith;
    faults = same.no_lower.0;
    own_faults = same.no_lower.1;
    shut = λ h. record { shut = stays h; image = same_image; parts = refl; sealed = refl; places = refl };
    shut_by = failed;
    stuck = λ s. record {
      stuck = record {
        image = s.image;
        told = same_image ∙ s.told;
        is_chain = ap (λ n. chain n s.image) same.region_len ∙ s.is_chain;
        rows = s.rows;
        are_rows = subst (λ n. AreRowsOf n s.image kept.parts s.rows) (sym same.region_len) s.are_rows;
        none_waits = s.none_waits;
        none_retired = s.none_retired;
        few_free = s.few_free;
        all_live = s.all_live;
        no_merge = subst (λ n. NoNeighboursFit n s.image kept.parts) (sym same.region_len) s.no_merge;
      };
      parts = refl;
      sealed = refl;
      places = refl;
    };
  }

  pub boarded_keeps : Keeps (value_of old entry kept) (value_of new entry (boarded kept board shut))
  unfolding Stands
  boarded_keeps = record {
    stands = boarded_stands;
    inside = λ first e history s. subst (λ t. ShownInside (value_of old entry kept) old.told t first e history) (sym same.told) (inside_none (value_of old entry kept) first e history whole.entry.time s);
    becomes = boarded_becomes;
    time = time;
  }

  pub boarded_job : KeepsJob (value_of old entry kept).room (value_of new entry (boarded kept board shut)).room
  boarded_job = record { job = refl; held = λ job h. ap (λ image. held_for image job) same_image }

-- ---- seats

module _ (disk entry : Disk) (kept : Kept) (whole : IsWhole (value_of disk entry kept)) (seats : ℕ) (some : 1 ≤ seats) (few : seats ≤ 18) (empty : list_all is_empty kept.board ≡ true) where
  same_bytes : SameBytes disk disk
  same_bytes = record { regions = refl; region_len = refl; told = refl; unsynced = refl; no_lower = (omega arith, omega arith) }

  seats_board : AreOnBoard (value_of disk entry (boarded kept (replicate (3 * seats) None) kept.is_shut)).room
  seats_board = record {
    seats = (seats, some, few, length-replicate (3 * seats) None);
    eyes = subst (λ eyes. IsPermutation (map named (map (λ eye. (eye.number, eye.regions)) disk.eyes)) (map held_of eyes)) (empty_posted kept.board empty ∙ sym (none_posted (3 * seats))) whole.board.eyes;
    once = whole.board.once;
    given = whole.board.given;
    of_parts = whole.board.of_parts;
    shows = subst (AllByRecursion (λ (eye : OpenedEye). SameSeen eye.regions (option_map (λ (t : Told). t.bytes) disk.told) eye.told)) (sym (none_posted (3 * seats))) tt;
  }

  pub seats_whole : IsWhole (value_of disk entry (boarded kept (replicate (3 * seats) None) kept.is_shut))
  seats_whole = boarded_whole disk disk entry kept whole same_bytes whole.sound (replicate (3 * seats) None) kept.is_shut seats_board (λ h. h) (λ h. inl h)

  pub seats_keeps : Keeps (value_of disk entry kept) (value_of disk entry (boarded kept (replicate (3 * seats) None) kept.is_shut))
  seats_keeps = boarded_keeps disk disk entry kept whole same_bytes whole.sound (replicate (3 * seats) None) kept.is_shut seats_board (λ h. h) (λ h. inl h)

-- A room behind each answer of sealing.
use Rattle.std.proofs.Common.{◌≡◌, ℕ, zero, suc, ◌+◌, ◌*◌, ◌%◌, ◌<◌, ◌≤◌, true, false, not, ◌||◌, List, [], ◌∷◌, ◌++◌, length, map, Some, None, refl, sym, ap, subst, ◌∙◌, inl, inr, arith, append_assoc, eq-eqb}
use Rattle.std.specs.Prelude.{Option, fold, nat_eq, option_map, option_to_list, IfSome, All, Any, Contains, IsPermutation, IsTrue}
use Rattle.std.specs.List.{AllByRecursion, list_any}
use Rattle.std.proofs.lemmas.Bool.{le-leb, or_parts}
use Rattle.std.proofs.lemmas.List.Elements.{All-contains}
use Rattle.std.proofs.lemmas.List.Folds.{list_any-append}
use Rattle.std.proofs.lemmas.List.Sums.{fold-append}
use Rattle.std.proofs.lemmas.Map.Views.{list_any-from_Contains}
use Rattle.std.proofs.lemmas.Option.{IfSome_then}
use Rattle.fine_model.specs.declared.Part.{Part}
use Rattle.fine_model.specs.declared.law.OpenedEye.{OpenedEye}
use Rattle.fine_model.specs.RowBytes.{greatest, rows_len}
use Rattle.fine_model.specs.Boards.{posted, named, held_of}
use Rattle.fine_model.specs.Trees.{is_distinct}
use Rattle.fine_model.specs.declared.law.RoomState.{RoomState}
use Rattle.fine_model.specs.Chain.{chain_end, regions_of}
use Rattle.fine_model.specs.ChainLaws.{part_of}
use Rattle.fine_model.specs.Jobs.{job_left, job_regions}
use Rattle.fine_model.specs.Merge.{nodes_in}
use Rattle.fine_model.specs.Regions.{header_of}
use Rattle.fine_model.specs.Views.{SameSeen}
use Rattle.fine_model.proofs.Ordered.Nothing.{any_none}
use Rattle.fine_model.proofs.Ordered.Order.{all_map, filter_all}
use Rattle.fine_model.proofs.Ordered.Sets.{all_append}
use Rattle.fine_model.proofs.Ordered.Times.{times, times-append}
use Rattle.fine_model.proofs.Ordered.Zip.{all_left, all_right}
use Rattle.partition_index.specs.Parts.{LiesIn}
use Rattle.log_disk.specs.Disk.{Disk, Told, BothTold, HasRisen, SameBeside, IsSound, IsToldOf, region_of}
use Rattle.log_disk.specs.Moments.{ContinuesOn, IsLeft}
use Rattle.log_disk.proofs.Times.{continues_then}
use Rattle.epoch_room.specs.Epoch.{empty}
use Rattle.epoch_room.specs.Gate.{DirtiesOnly, KeepsBeside}
use Rattle.epoch_room.specs.Value.{Kept, all_regions, regions_outside, taken, value_of}
use Rattle.epoch_room.specs.Whole.{AreApart, AreOnBoard, FollowOn, HasEntry, HasGeometry, HoldsParts, IsJob, IsTaken, IsWhole, NamesWhole}
use Rattle.epoch_room.proofs.RegionSets.Beside.{regions_together}
use Rattle.epoch_room.proofs.Views.Boarding.{AreAlike, AreBeside, one_beside, still_shows, unnamed_posted}
use Rattle.log_partition.proofs.Costs.{cost_none}
use Rattle.epoch_room.proofs.RegionSets.Freeing.{job_regions_left, nat_alike}
use Rattle.epoch_room.proofs.OpenEpochs.Longer.{range_of}
use Rattle.epoch_room.proofs.RegionSets.Taken.{SameTimes, same_apart, same_outside, other_list}
use Rattle.epoch_room.proofs.Moved.{epoch_stays}

-- ---- ranges

follow_more : (parts : List Part) (p : Part) (next e : ℕ) → next ≡ e + 1 → p.header.range.first ≡ fold (λ (n : ℕ) (q : Part). q.header.range.last) e parts + 1 → p.header.range.first ≤ p.header.range.last → p.header.range.last ≤ greatest
    → FollowOn next parts → FollowOn next (parts ++ p ∷ [])
follow_more [] p next e is first order most follow = (first ∙ sym is, omega (arith, is, first, order), most, tt)
follow_more (q ∷ parts) p next e is first order most follow =
    (follow.0, follow.1, follow.2, follow_more parts p (q.header.range.last + 1) q.header.range.last refl first order most follow.3)

pub follow_next : (parts : List Part) (p : Part) → p.header.range.first ≡ chain_end parts + 1 → p.header.range.first ≤ p.header.range.last → p.header.range.last ≤ greatest → FollowOn 1 parts → FollowOn 1 (parts ++ p ∷ [])
follow_next parts p first order most follow = follow_more parts p 1 0 refl first order most follow

pub end_next : (parts : List Part) (p : Part) → chain_end (parts ++ p ∷ []) ≡ p.header.range.last
end_next parts p = fold-append (λ (n : ℕ) (q : Part). q.header.range.last) 0 parts (p ∷ [])

-- ---- names, with a part more

any_cons : {A : Type 0} (P : A → Type 0) (x : A) (xs : List A) → Any P xs → Any P (x ∷ xs)
any_cons P x xs any = (suc any.0, any.1, omega (arith, any.2), any.3, any.4)

any_insert : {A : Type 0} (P : A → Type 0) (xs : List A) (y : A) (ys : List A) → Any P (xs ++ ys) → Any P ((xs ++ y ∷ []) ++ ys)
any_insert P [] y ys any = any_cons P y ys any
any_insert P (x ∷ xs) y ys (zero, z, low, is, holds) = (zero, z, omega arith, is, holds)
any_insert P (x ∷ xs) y ys (suc k, z, low, is, holds) = any_cons P x ((xs ++ y ∷ []) ++ ys) (any_insert P xs y ys (k, z, omega (arith, low), is, holds))

pub names_more : (parts : List Part) (p : Part) (retired : List Part) (eye : ℕ × List ℕ) → NamesWhole (parts ++ retired) eye → NamesWhole ((parts ++ p ∷ []) ++ retired) eye
names_more parts p retired eye names =
    all_map (λ r. Any (λ q. Contains (regions_of q) r × AllByRecursion (Contains eye.1) (regions_of q)) (parts ++ retired)) (λ r. Any (λ q. Contains (regions_of q) r × AllByRecursion (Contains eye.1) (regions_of q)) ((parts ++ p ∷ []) ++ retired))
    (λ r any. any_insert (λ q. Contains (regions_of q) r × AllByRecursion (Contains eye.1) (regions_of q)) parts p retired any) eye.1 names

-- ---- a room on a disk that went on

pub still_geometry : (old new : Disk) → SameBeside old new → HasGeometry old → HasGeometry new
still_geometry old new same geometry = record {
  regions_low = omega (arith, same.regions, geometry.regions_low);
  regions_high = omega (arith, same.regions, geometry.regions_high);
  len_low = omega (arith, same.region_len, geometry.len_low);
  len_high = omega (arith, same.region_len, geometry.len_high);
  whole = ap (λ n. n % 1024) same.region_len ∙ geometry.whole;
}

pub risen_since : (a b c : ℕ) → a ≤ b → HasRisen b c → HasRisen a c
risen_since a b c low risen = grind (arith, low, risen)

-- nothing of it lies in a part, where all that is new lies in some regions beside them
pub still_clean : (old new : Disk) (regions : List ℕ) (parts : List Part) → DirtiesOnly regions old new → AreBeside regions parts → All (λ r. list_any (nat_eq r) (all_regions parts) ≡ false) old.unsynced
    → All (λ r. list_any (nat_eq r) (all_regions parts) ≡ false) new.unsynced
still_clean old new regions parts dirties beside clean k d h = elim (dirties k d h) [
  | inl was ↦ All-contains (λ r. list_any (nat_eq r) (all_regions parts) ≡ false) old.unsynced _ clean was
  | inr own ↦ beside _ (member regions _ own)
]
  where
    member : (xs : List ℕ) (n : ℕ) → Contains xs n → list_any (nat_eq n) xs ≡ true
    member xs n there = list_any-from_Contains nat_alike n xs there

pub no_parts_unsynced : (new : Disk) (parts : List Part) → new.unsynced ≡ [] → All (λ r. list_any (nat_eq r) (all_regions parts) ≡ false) new.unsynced
no_parts_unsynced new parts e = subst (All (λ r. list_any (nat_eq r) (all_regions parts) ≡ false)) (sym e) (λ k d h. absurd (omega (arith, h)))

-- as many regions before and after, and the same bytes in all but some
pub alike_told : (old new : Disk) (regions : List ℕ) → IsSound old → IsSound new → SameBeside old new → KeepsBeside regions old new → BothTold (AreAlike regions) old.told new.told
alike_told old new regions sound sound' same read = on old.told new.told read sound.told sound'.told
  where
    on : (a b : Option Told) → BothTold (λ a b. (r : ℕ) → list_any (nat_eq r) regions ≡ false → region_of b.bytes r ≡ region_of a.bytes r) a b → IfSome a (IsToldOf old) → IfSome b (IsToldOf new) → BothTold (AreAlike regions) a b
    on None None p s t = tt
    on None (Some b) p s t = absurd p
    on (Some a) None p s t = absurd p
    on (Some a) (Some b) p s t = (t.regions ∙ same.regions ∙ sym s.regions, p)

module _ (old new entry : Disk) (kept : Kept) (whole : IsWhole (value_of old entry kept)) (same : SameBeside old new) (sound : IsSound new) (time : ContinuesOn old new) (lower : (old.faults ≤ new.faults) × (old.own_faults ≤ new.own_faults))
    (regions : List ℕ) (beside : AreBeside regions (kept.parts ++ kept.retired)) (read : KeepsBeside regions old new) where
  abbrev eyes_of : Disk → List (ℕ × List ℕ)
  eyes_of disk = map (λ eye. (eye.number, eye.regions)) disk.eyes

  same_eyes : eyes_of new ≡ eyes_of old
  same_eyes = ap (map (λ eye. (eye.number, eye.regions))) same.eyes

  shows : AllByRecursion (λ (eye : OpenedEye). SameSeen eye.regions (option_map (λ (t : Told). t.bytes) new.told) eye.told) (posted kept.board)
  shows =
      still_shows regions old.told new.told (posted kept.board) (alike_told old new regions whole.sound sound same read)
      (unnamed_posted (value_of old entry kept).room whole.board regions beside) whole.board.shows

  -- the board of a room with these parts, on the disk as it is then
  pub moved_board : (kept' : Kept) → kept'.board ≡ kept.board → AllByRecursion (NamesWhole (kept'.parts ++ kept'.retired)) (eyes_of old) → AreOnBoard (value_of new entry kept').room
  moved_board kept' e names = record {
    seats = subst (λ b. (n : ℕ) × (1 ≤ n) × (n ≤ 18) × (length b ≡ 3 * n)) (sym e) whole.board.seats;
    eyes = subst (λ b. IsPermutation (map named (eyes_of new)) (map held_of (posted b))) (sym e) (subst (λ es. IsPermutation (map named es) (map held_of (posted kept.board))) (sym same_eyes) whole.board.eyes);
    once = subst (λ es. IsTrue (is_distinct (map (λ (eye : ℕ × List ℕ). eye.0) es))) (sym same_eyes) whole.board.once;
    given = subst (λ es. AllByRecursion (λ (eye : ℕ × List ℕ). Contains new.given eye.0) es) (sym same_eyes) (subst (λ ns. AllByRecursion (λ (eye : ℕ × List ℕ). Contains ns eye.0) (eyes_of old)) (sym same.given) whole.board.given);
    of_parts = subst (AllByRecursion (NamesWhole (kept'.parts ++ kept'.retired))) (sym same_eyes) names;
    shows = subst (λ b. AllByRecursion (λ (eye : OpenedEye). SameSeen eye.regions (option_map (λ (t : Told). t.bytes) new.told) eye.told) (posted b)) (sym e) shows;
  }

  pub moved_entry : (kept' : Kept) → (kept'.is_shut ≡ true → (HasRisen entry.own_faults new.own_faults × HasRisen entry.faults new.faults)) → HasEntry (value_of new entry kept')
  moved_entry kept' failed = record {
    regions = whole.entry.regions ∙ sym same.regions;
    region_len = whole.entry.region_len ∙ sym same.region_len;
    time = continues_then entry old new whole.entry.time time;
    no_lower = (let a = whole.entry.no_lower.0 in let b = lower.0 in omega (arith, a, b), let a = whole.entry.no_lower.1 in let b = lower.1 in omega (arith, a, b));
    failed = failed;
  }

  pub moved_job : (kept' : Kept) → kept'.job ≡ kept.job → kept'.parts ≡ kept.parts → IfSome kept'.job (IsJob (value_of new entry kept').room)
  moved_job kept' e parts =
      subst (λ j. IfSome j (IsJob (value_of new entry kept').room)) (sym e)
      (IfSome_then kept.job {P = IsJob (value_of old entry kept).room} {Q = IsJob (value_of new entry kept').room} whole.job
      (λ job is. record { before = is.before; after = is.after; neighbours = parts ∙ is.neighbours; untaken = is.untaken; is_taken = λ header h. subst (λ n. IsTaken n job header) (sym same.region_len) (is.is_taken header h) }))

  pub moved_lie : (parts : List Part) → AllByRecursion (λ p. LiesIn old.region_len p.header) parts → AllByRecursion (λ p. LiesIn new.region_len p.header) parts
  moved_lie parts lie = subst (λ n. AllByRecursion (λ (p : Part). LiesIn n p.header) parts) (sym same.region_len) lie

  -- nothing but the disk is another
  pub moved_whole : kept.is_shut ≡ false → DirtiesOnly regions old new → IfSome new.told (IsLeft (λ image. HoldsParts new.region_len image kept.parts kept.retired)) → IsWhole (value_of new entry kept)
  moved_whole open_room dirties held = record {
    geometry = still_geometry old new same whole.geometry;
    sound = sound;
    of_disk = refl;
    in_chain = whole.in_chain;
    ends = whole.ends;
    lie = moved_lie (kept.parts ++ kept.retired) whole.lie;
    apart = subst (λ n. AreApart n (taken (value_of old entry kept).room kept.target)) (sym same.regions) whole.apart;
    free = whole.free ∙ ap (λ n. regions_outside n (taken (value_of old entry kept).room kept.target)) (sym same.regions);
    rising = whole.rising;
    board = moved_board kept refl whole.board.of_parts;
    epoch = epoch_stays (value_of old entry kept) (value_of new entry kept) whole.epoch same.region_len whole.epoch.none whole.epoch.some whole.epoch.epoch;
    job = moved_job kept refl refl;
    entry = moved_entry kept (λ h. absurd (cc));
    lost = whole.lost;
    unsynced = λ l. still_clean old new regions (kept.parts ++ kept.retired) dirties beside (whole.unsynced l);
    told = λ l. held;
  }

-- ---- what a room keeps behind an answer

-- the disk failed: the target is lost
abbrev pub shut_kept : Kept → ℕ → Kept
shut_kept kept region = record kept { lost = region ∷ []; target = None; is_shut = true }

-- the epoch was sealed as a part
abbrev pub own_part : Kept → ℕ → Part
own_part kept region = part_of region (header_of (range_of kept.sealed) kept.epoch.rows)

abbrev pub ended_kept : Kept → ℕ → ℕ → Kept
ended_kept kept region most = record kept { parts = kept.parts ++ own_part kept region ∷ []; target = None; epoch = empty most; sealed = kept.sealed + 1 }

-- ---- the target of an open epoch

module _ (old entry : Disk) (kept : Kept) (whole : IsWhole (value_of old entry kept)) (region : ℕ) (at : kept.target ≡ Some region) (open_room : kept.is_shut ≡ false) where
  pub none_lost : kept.lost ≡ []
  none_lost = whole.lost open_room

  abbrev pub rest : List ℕ
  rest = job_left (value_of old entry kept).room ++ (kept.lost ++ all_regions (kept.parts ++ kept.retired))

  pub taken_is : taken (value_of old entry kept).room kept.target ≡ region ∷ rest
  taken_is = ap (λ t. option_to_list t ++ rest) at

  apart_is : AreApart old.regions (region ∷ rest)
  apart_is = subst (AreApart old.regions) taken_is whole.apart

  pub target_there : region < old.regions
  target_there = apart_is.below.0

  not_rest : list_any (nat_eq region) rest ≡ false
  not_rest = other_list old.regions (region ∷ []) rest region apart_is (ap (λ b. b || false) (eq-eqb region region refl))

  behind_job : list_any (nat_eq region) (kept.lost ++ all_regions (kept.parts ++ kept.retired)) ≡ false
  behind_job = (or_parts (list_any (nat_eq region) (job_left (value_of old entry kept).room)) _ (sym (list_any-append (nat_eq region) (job_left (value_of old entry kept).room) _) ∙ not_rest)).1

  pub target_beside : list_any (nat_eq region) (all_regions (kept.parts ++ kept.retired)) ≡ false
  target_beside = (or_parts (list_any (nat_eq region) kept.lost) _ (sym (list_any-append (nat_eq region) kept.lost _) ∙ behind_job)).1

  pub not_job : list_any (nat_eq region) (job_regions kept.job) ≡ false
  not_job = subst (λ rs. list_any (nat_eq region) rs ≡ false) left_all (or_parts (list_any (nat_eq region) (job_left (value_of old entry kept).room)) _ (sym (list_any-append (nat_eq region) (job_left (value_of old entry kept).room) _) ∙ not_rest)).0
    where
      left_all : job_left (value_of old entry kept).room ≡ job_regions kept.job
      left_all = job_regions_left (value_of old entry kept) whole none_lost

module _ (old new entry : Disk) (kept : Kept) (whole : IsWhole (value_of old entry kept)) (same : SameBeside old new) (sound : IsSound new) (time : ContinuesOn old new) (lower : (old.faults ≤ new.faults) × (old.own_faults ≤ new.own_faults))
    (region : ℕ) (at : kept.target ≡ Some region) (open_room : kept.is_shut ≡ false) (some : 1 ≤ kept.epoch.waiting) (read : KeepsBeside (region ∷ []) old new) where
  abbrev room_of : Disk → Kept → RoomState
  room_of disk k = (value_of disk entry k).room

  pub beside_target : AreBeside (region ∷ []) (kept.parts ++ kept.retired)
  beside_target = one_beside region (kept.parts ++ kept.retired) (target_beside old entry kept whole region at open_room)

  -- the disk failed: the target is lost
  abbrev shut : Kept
  shut = shut_kept kept region

  shut_left : job_left (room_of new shut) ≡ job_regions kept.job
  shut_left = filter_all (λ r. not (nat_eq r region || false)) (job_regions kept.job) (all_map (λ r. nat_eq region r ≡ false) (λ r. not (nat_eq r region || false) ≡ true) (λ r h. turned region r h) (job_regions kept.job) (any_none (nat_eq region) (job_regions kept.job) (not_job old entry kept whole region at open_room)))
    where
      turned : (m n : ℕ) → nat_eq m n ≡ false → not (nat_eq n m || false) ≡ true
      turned m n h = grind (arith, h)

  shut_times : SameTimes (taken (value_of old entry kept).room kept.target) (taken (room_of new shut) None)
  shut_times n =
      let l = job_regions_left (value_of old entry kept) whole (none_lost old entry kept whole region at open_room) in
      let job : times n (job_left (value_of old entry kept).room) ≡ times n (job_left (room_of new shut)) = ap (times n) (l ∙ sym shut_left) in
      let parts : List ℕ = all_regions (kept.parts ++ kept.retired) in
      let a = ap (times n) (taken_is old entry kept whole region at open_room) ∙ times-append n (region ∷ []) (rest old entry kept whole region at open_room) in
      let b = times-append n (job_left (value_of old entry kept).room) (kept.lost ++ parts) in
      let c = ap (λ lost. times n (lost ++ parts)) (none_lost old entry kept whole region at open_room) in
      let d = times-append n (job_left (room_of new shut)) (region ∷ parts) in
      let e = times-append n (region ∷ []) parts in
      omega (arith, a, b, c, d, e, job)

  pub shut_whole : HasRisen old.faults new.faults → HasRisen old.own_faults new.own_faults → IsWhole (value_of new entry shut)
  shut_whole risen own = record {
    geometry = still_geometry old new same whole.geometry;
    sound = sound;
    of_disk = refl;
    in_chain = whole.in_chain;
    ends = whole.ends;
    lie = moved_lie old new entry kept whole same sound time lower (region ∷ []) beside_target read (kept.parts ++ kept.retired) whole.lie;
    apart = subst (λ n. AreApart n (taken (room_of new shut) None)) (sym same.regions) (same_apart old.regions (taken (value_of old entry kept).room kept.target) (taken (room_of new shut) None) shut_times whole.apart);
    free = whole.free ∙ same_outside old.regions (taken (value_of old entry kept).room kept.target) (taken (room_of new shut) None) shut_times ∙ ap (λ n. regions_outside n (taken (room_of new shut) None)) (sym same.regions);
    rising = whole.rising;
    board = moved_board old new entry kept whole same sound time lower (region ∷ []) beside_target read shut refl whole.board.of_parts;
    epoch = epoch_stays (value_of old entry kept) (value_of new entry shut) whole.epoch same.region_len (λ h. absurd (omega (arith, h, some))) (λ l. absurd (let e : ◌≡◌ {A = List ℕ} (region ∷ []) [] = l in cc)) whole.epoch.epoch;
    job = moved_job old new entry kept whole same sound time lower (region ∷ []) beside_target read shut refl refl;
    entry = moved_entry old new entry kept whole same sound time lower (region ∷ []) beside_target read shut
        (λ h. (risen_since entry.own_faults old.own_faults new.own_faults whole.entry.no_lower.1 own, risen_since entry.faults old.faults new.faults whole.entry.no_lower.0 risen));
    lost = λ h. absurd (let e : true ≡ false = h in cc);
    unsynced = λ l. absurd (let e : ◌≡◌ {A = List ℕ} (region ∷ []) [] = l in cc);
    told = λ l. absurd (let e : ◌≡◌ {A = List ℕ} (region ∷ []) [] = l in cc);
  }

  -- the epoch was sealed
  abbrev own : Part
  own = own_part kept region

  abbrev ended : ℕ → Kept
  ended most = ended_kept kept region most

  ended_times : (most : ℕ) → SameTimes (taken (value_of old entry kept).room kept.target) (taken (room_of new (ended most)) None)
  ended_times most n =
      let j : List ℕ = job_left (value_of old entry kept).room in
      let a = ap (times n) (taken_is old entry kept whole region at open_room) ∙ times-append n (region ∷ []) (rest old entry kept whole region at open_room) in
      let b = times-append n j (kept.lost ++ all_regions (kept.parts ++ kept.retired)) in
      let c = times-append n kept.lost (all_regions (kept.parts ++ kept.retired)) in
      let d = ap (times n) (regions_together kept.parts kept.retired) ∙ times-append n (all_regions kept.parts) (all_regions kept.retired) in
      let e = times-append n j (kept.lost ++ all_regions ((kept.parts ++ own ∷ []) ++ kept.retired)) in
      let f = times-append n kept.lost (all_regions ((kept.parts ++ own ∷ []) ++ kept.retired)) in
      let g = ap (times n) (regions_together (kept.parts ++ own ∷ []) kept.retired) ∙ times-append n (all_regions (kept.parts ++ own ∷ [])) (all_regions kept.retired) in
      let h = ap (times n) (regions_together kept.parts (own ∷ [])) ∙ times-append n (all_regions kept.parts) (region ∷ []) in
      omega (arith, a, b, c, d, e, f, g, h)

  pub ended_whole : new.unsynced ≡ [] → (most : ℕ) → IfSome new.told (IsLeft (λ image. HoldsParts new.region_len image (kept.parts ++ own ∷ []) kept.retired)) → IsWhole (value_of new entry (ended most))
  ended_whole synced most held =
      let lies : LiesIn old.region_len own.header = record {
        large = omega (arith, whole.geometry.len_low);
        small = whole.geometry.len_high;
        listed = refl;
        counted = refl;
        lies = le-leb (41 + (rows_len kept.epoch.rows + 14 * length (nodes_in kept.epoch.rows))) old.region_len (omega (arith, whole.epoch.costs, whole.epoch.within));
      } in
      record {
        geometry = still_geometry old new same whole.geometry;
        sound = sound;
        of_disk = refl;
        in_chain = record { follow = follow_next kept.parts own (ap (λ n. n + 1) whole.ends) (omega arith) (whole.epoch.epoch some) whole.in_chain.follow };
        ends = sym (end_next kept.parts own);
        lie = moved_lie old new entry kept whole same sound time lower (region ∷ []) beside_target read ((kept.parts ++ own ∷ []) ++ kept.retired)
            (all_append (λ (p : Part). LiesIn old.region_len p.header) (kept.parts ++ own ∷ []) kept.retired
            (all_append (λ (p : Part). LiesIn old.region_len p.header) kept.parts (own ∷ []) (all_left (λ (p : Part). LiesIn old.region_len p.header) kept.parts kept.retired whole.lie) (lies, tt))
            (all_right (λ (p : Part). LiesIn old.region_len p.header) kept.parts kept.retired whole.lie));
        apart = subst (λ n. AreApart n (taken (room_of new (ended most)) None)) (sym same.regions) (same_apart old.regions (taken (value_of old entry kept).room kept.target) (taken (room_of new (ended most)) None) (ended_times most) whole.apart);
        free = whole.free ∙ same_outside old.regions (taken (value_of old entry kept).room kept.target) (taken (room_of new (ended most)) None) (ended_times most) ∙ ap (λ n. regions_outside n (taken (room_of new (ended most)) None)) (sym same.regions);
        rising = whole.rising;
        board = moved_board old new entry kept whole same sound time lower (region ∷ []) beside_target read (ended most) refl
            (all_map (NamesWhole (kept.parts ++ kept.retired)) (NamesWhole ((kept.parts ++ own ∷ []) ++ kept.retired)) (names_more kept.parts own kept.retired) (value_of old entry kept).room.eyes whole.board.of_parts);
        epoch = record {
          none = λ h. (refl, refl, refl);
          some = λ l h. absurd (omega (arith, h));
          fits = tt;
          costs = omega (arith, cost_none);
          within = omega (arith, whole.epoch.within, same.region_len);
          entries = omega arith;
          places = whole.epoch.places;
          epoch = λ h. absurd (omega (arith, h));
        };
        job = IfSome_then kept.job {P = IsJob (value_of old entry kept).room} {Q = IsJob (room_of new (ended most))} whole.job (λ job is. record {
          before = is.before;
          after = is.after ++ own ∷ [];
          neighbours = ap (λ ps. ps ++ own ∷ []) is.neighbours ∙ append_assoc is.before (job.older ∷ job.newer ∷ is.after) (own ∷ []);
          untaken = is.untaken;
          is_taken = λ header h. subst (λ n. IsTaken n job header) (sym same.region_len) (is.is_taken header h);
        });
        entry = moved_entry old new entry kept whole same sound time lower (region ∷ []) beside_target read (ended most) (λ h. absurd (cc));
        lost = whole.lost;
        unsynced = λ l. no_parts_unsynced new ((kept.parts ++ own ∷ []) ++ kept.retired) synced;
        told = λ l. held;
      }

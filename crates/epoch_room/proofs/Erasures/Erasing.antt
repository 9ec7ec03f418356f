-- A room of which retired parts are erased.
use Rattle.std.proofs.Common.{◌≡◌, ◌≢◌, ℕ, zero, suc, ◌+◌, ◌/◌, ◌%◌, ◌<◌, ◌==◌, Bool, true, false, cond, not, ◌||◌, List, [], ◌∷◌, ◌++◌, length, map, Some, None, refl, sym, ap, subst, ◌∙◌, inl, arith, true≢false}
use Rattle.std.specs.Prelude.{Option, IfSome, Any, Contains, IsPermutation, IsTrue, nat_eq, option_map, option_to_list, slice_index, take}
use Rattle.std.specs.List.{AllByRecursion, list_any}
use Rattle.std.proofs.lemmas.Bool.{false_from_ne_true, not-true, or_parts}
use Rattle.std.proofs.lemmas.List.Elements.{All-from_recursion, recursion_from_All}
use Rattle.std.proofs.lemmas.List.Folds.{list_any-append}
use Rattle.std.proofs.lemmas.List.Sorted.{All-permutation, IsPermutation-sym}
use Rattle.std.proofs.lemmas.Map.Views.{list_any-from_Contains}
use Rattle.std.proofs.lemmas.Option.{IfSome_then}
use Rattle.fine_model.specs.declared.Part.{Part}
use Rattle.fine_model.specs.declared.Job.{Job}
use Rattle.fine_model.specs.declared.Row.{Row}
use Rattle.fine_model.specs.declared.law.OpenedEye.{OpenedEye}
use Rattle.fine_model.specs.Becomes.{Becomes}
use Rattle.fine_model.specs.Boards.{Buffer, first_from, held_of, named, names_region, naming_of, posted, set_of}
use Rattle.fine_model.specs.Chain.{regions_of}
use Rattle.fine_model.specs.History.{Commit}
use Rattle.fine_model.specs.Headline.{ShowsSome}
use Rattle.fine_model.specs.Jobs.{KeepsJob, held_for, job_left, job_regions}
use Rattle.fine_model.specs.Room.{HoldsLive}
use Rattle.fine_model.specs.Regions.{Image, HasHeader, is_sealed, region_of}
use Rattle.fine_model.specs.Trees.{is_distinct}
use Rattle.fine_model.proofs.Ordered.Nothing.{all_at, each_there}
use Rattle.fine_model.proofs.Ordered.Order.{all_map, filter_all}
use Rattle.fine_model.proofs.Ordered.Sets.{all_append, all_filter, all_pass}
use Rattle.fine_model.proofs.Ordered.Times.{absent_times, times, times-append, times-none, times_absent}
use Rattle.fine_model.proofs.Ordered.Zip.{all_left, all_right}
use Rattle.partition_hold.proofs.Bits.{among}
use Rattle.partition_index.specs.Parts.{LiesIn}
use Rattle.log_disk.specs.Disk.{BothTold, CountsOwn, Disk, HasRisen, IsImageNow, IsToldOf, IsUnseen, OpenEye, Told}
use Rattle.log_disk.specs.Moments.{IsLeft, LeavesOnly}
use Rattle.log_disk.proofs.Moments.{synced_now}
use Rattle.log_disk.proofs.Steps.{both_weaker}
use Rattle.log_disk.proofs.Times.{continues_then}
use Rattle.epoch_room.specs.Closing.{DiffersAtGates, IsAtGates, ReadsClosed, TouchesGates, closed_gate}
use Rattle.epoch_room.specs.Erasing.{led_by, without}
use Rattle.epoch_room.specs.Meaning.{Keeps}
use Rattle.epoch_room.specs.Value.{Kept, all_regions, regions_outside, taken, value_of}
use Rattle.epoch_room.specs.Whole.{AreApart, AreOnBoard, HoldsParts, IsJob, IsTaken, IsWhole, NamesWhole}
use Rattle.epoch_room.proofs.OpenEpochs.Behind.{as_told, both_and, some_behind}
use Rattle.epoch_room.proofs.RegionSets.Beside.{regions_together}
use Rattle.epoch_room.proofs.Views.Boarding.{AreAlike, still_shows}
use Rattle.epoch_room.proofs.RegionSets.Bodies.{holds_still}
use Rattle.epoch_room.proofs.OpenEpochs.Ending.{no_parts_unsynced, risen_since, still_geometry}
use Rattle.epoch_room.proofs.RegionSets.Freeing.{job_regions_left, job_apart, nat_alike}
use Rattle.epoch_room.proofs.Erasures.GateImages.{LeadsBeside, ShowsStill, gates_still}
use Rattle.epoch_room.proofs.Erasures.LedParts.{fewer_apart, free_more, lead_apart, lead_gone, lead_in, lead_led, lead_left, led_times, left_rising, set_times}
use Rattle.epoch_room.proofs.RegionSets.Taken.{SameTimes, any_times, apart_back, other_list, same_apart, same_outside}
use Rattle.epoch_room.proofs.Moved.{becomes_open, epoch_stays}
use Rattle.epoch_room.proofs.Carrying.{still_inside, still_stands}

-- ---- what the board does not name

none_first : (test : Buffer → Bool) (at : ℕ) (board : List Buffer) → first_from test at board ≡ None → AllByRecursion (λ b. test b ≡ false) board
none_first test at [] none = tt
none_first test at (b ∷ board) none = by (test b) refl none (λ h. none_first test (at + 1) board h)
  where
    by : (s : Bool) → test b ≡ s → cond {A = Option ℕ} s (Some at) (first_from test (at + 1) board) ≡ None → (first_from test (at + 1) board ≡ None → AllByRecursion (λ b. test b ≡ false) board) → (test b ≡ false) × AllByRecursion (λ b. test b ≡ false) board
    by true e h rest = absurd (let c : ◌≡◌ {A = Option ℕ} (Some at) None = h in cc)
    by false e h rest = (e, rest h)

not_named : (board : List Buffer) (r : ℕ) → naming_of board r ≡ None → AllByRecursion (λ b. names_region r b ≡ false) board
not_named board r none = none_first (names_region r) 0 board (by (first_from (names_region r) 0 board) none)
  where
    by : (o : Option ℕ) → ◌≡◌ {A = Option (ℕ × ℕ)} (option_map (λ at. (1 + at / 3, at % 3)) o) None → o ≡ None
    by None h = refl
    by (Some n) h = absurd (let c : ◌≡◌ {A = Option (ℕ × ℕ)} (Some (1 + n / 3, n % 3)) None = h in cc)

-- no eye on the board names one of these regions
abbrev pub NamesNone : List ℕ → List OpenedEye → Type 0
NamesNone leads eyes = AllByRecursion (λ eye. AllByRecursion (λ r. list_any (nat_eq r) eye.regions ≡ false) leads) eyes

pub names_none : (board : List Buffer) (leads : List ℕ) → AllByRecursion (λ r. naming_of board r ≡ None) leads → NamesNone leads (posted board)
names_none board leads none = each board (all_map (λ r. naming_of board r ≡ None) (λ r. AllByRecursion (λ b. names_region r b ≡ false) board) (λ r h. not_named board r h) leads none)
  where
    each : (bs : List Buffer) → AllByRecursion (λ r. AllByRecursion (λ b. names_region r b ≡ false) bs) leads → NamesNone leads (posted bs)
    each [] all = tt
    each (None ∷ bs) all = each bs (all_map (λ r. AllByRecursion (λ b. names_region r b ≡ false) (None ∷ bs)) (λ r. AllByRecursion (λ b. names_region r b ≡ false) bs) (λ r h. h.1) leads all)
    each (Some eye ∷ bs) all = (
      all_map (λ r. AllByRecursion (λ b. names_region r b ≡ false) (Some eye ∷ bs)) (λ r. list_any (nat_eq r) eye.regions ≡ false) (λ r h. h.0) leads all,
      each bs (all_map (λ r. AllByRecursion (λ b. names_region r b ≡ false) (Some eye ∷ bs)) (λ r. AllByRecursion (λ b. names_region r b ≡ false) bs) (λ r h. h.1) leads all),
    )

-- so what it names are others
others_named : (leads : List ℕ) (regions : List ℕ) → AllByRecursion (λ r. list_any (nat_eq r) regions ≡ false) leads → AllByRecursion (λ q. list_any (nat_eq q) leads ≡ false) regions
others_named leads regions none = all_map (λ q. list_any (nat_eq q) regions ≡ true) (λ q. list_any (nat_eq q) leads ≡ false) one regions (each_there regions)
  where
    one : (q : ℕ) → list_any (nat_eq q) regions ≡ true → list_any (nat_eq q) leads ≡ false
    one q there = false_from_ne_true (list_any (nat_eq q) leads) (λ e. true≢false (sym there ∙ all_at (λ r. list_any (nat_eq r) regions ≡ false) q leads none e))

-- ---- names of parts that are left

any_cons : {A : Type 0} (P : A → Type 0) (x : A) (xs : List A) → Any P xs → Any P (x ∷ xs)
any_cons P x xs any = (suc any.0, any.1, omega (arith, any.2), any.3, any.4)

any_left : (Q : Part → Type 0) (leads : List ℕ) → ((p : Part) → Q p → list_any (nat_eq p.region) leads ≡ false) → (parts : List Part) → Any Q parts → Any Q (without leads parts)
any_left Q leads other [] any = absurd (let low = any.2 in omega (arith, low))
any_left Q leads other (p ∷ parts) (zero, z, low, is, h) = by (list_any (nat_eq p.region) leads) refl
  where
    by : (b : Bool) → list_any (nat_eq p.region) leads ≡ b → Any Q (cond (not b) (p ∷ without leads parts) (without leads parts))
    by true e = absurd (let s : p ≡ z = is in true≢false (sym e ∙ ap (λ (q : Part). list_any (nat_eq q.region) leads) s ∙ other z h))
    by false e = (zero, z, omega arith, is, h)
any_left Q leads other (p ∷ parts) (suc k, z, low, is, h) = by (list_any (nat_eq p.region) leads) (any_left Q leads other parts (k, z, omega (arith, low), is, h))
  where
    by : (b : Bool) → Any Q (without leads parts) → Any Q (cond (not b) (p ∷ without leads parts) (without leads parts))
    by true rest = rest
    by false rest = any_cons Q p (without leads parts) rest

any_left_of : (Q : Part → Type 0) (leads : List ℕ) → ((p : Part) → Q p → list_any (nat_eq p.region) leads ≡ false) → (live retired : List Part) → Any Q (live ++ retired) → Any Q (live ++ without leads retired)
any_left_of Q leads other [] retired any = any_left Q leads other retired any
any_left_of Q leads other (p ∷ live) retired (zero, z, low, is, h) = (zero, z, omega arith, is, h)
any_left_of Q leads other (p ∷ live) retired (suc k, z, low, is, h) = any_cons Q p (live ++ without leads retired) (any_left_of Q leads other live retired (k, z, omega (arith, low), is, h))

names_left : (leads : List ℕ) (live retired : List Part) (eye : ℕ × List ℕ) → AllByRecursion (λ r. list_any (nat_eq r) eye.1 ≡ false) leads → NamesWhole (live ++ retired) eye → NamesWhole (live ++ without leads retired) eye
names_left leads live retired eye none names =
    all_map (λ r. Any (λ p. Contains (regions_of p) r × AllByRecursion (Contains eye.1) (regions_of p)) (live ++ retired)) (λ r. Any (λ p. Contains (regions_of p) r × AllByRecursion (Contains eye.1) (regions_of p)) (live ++ without leads retired))
    (λ r any. any_left_of (λ p. Contains (regions_of p) r × AllByRecursion (Contains eye.1) (regions_of p)) leads (λ p h. other p h.1.0) live retired any) eye.1 names
  where
    other : (p : Part) → Contains eye.1 p.region → list_any (nat_eq p.region) leads ≡ false
    other p there = false_from_ne_true (list_any (nat_eq p.region) leads) (λ e. true≢false (sym (list_any-from_Contains nat_alike p.region eye.1 there) ∙ all_at (λ r. list_any (nat_eq r) eye.1 ≡ false) p.region leads none e))

-- ---- an image of which some gates were closed

module _ (region_len : ℕ) (leads : List ℕ) (live retired : List Part) (are : AllByRecursion (λ r. list_any (λ p. p.region == r) retired ≡ true) leads) (beside : AllByRecursion (λ r. list_any (nat_eq r) (all_regions live) ≡ false) leads) where
  lead_header : (image : Image) (r : ℕ) → AllByRecursion (λ p. HasHeader region_len image p.region p.header) retired → list_any (λ p. p.region == r) retired ≡ true → AllByRecursion (λ p. p.region ≢ r) live → LeadsBeside region_len image live r
  lead_header image r headers there apart = find retired headers there
    where
      find : (ps : List Part) → AllByRecursion (λ p. HasHeader region_len image p.region p.header) ps → list_any (λ p. p.region == r) ps ≡ true → LeadsBeside region_len image live r
      find [] hs h = absurd (true≢false (sym h))
      find (p ∷ ps) hs h = by (p.region == r) refl h (λ rest. find ps hs.1 rest)
        where
          is : (m n : ℕ) → (m == n) ≡ true → m ≡ n
          is m n e = grind (arith, e)

          by : (b : Bool) → (p.region == r) ≡ b → (b || list_any (λ q. q.region == r) ps) ≡ true → (list_any (λ q. q.region == r) ps ≡ true → LeadsBeside region_len image live r) → LeadsBeside region_len image live r
          by true e h rest = record { header = p.header; has_header = subst (λ n. HasHeader region_len image n p.header) (is p.region r e) hs.0; beside = apart }
          by false e h rest = rest h

  pub leads_beside : (image : Image) → HoldsParts region_len image live retired → AllByRecursion (LeadsBeside region_len image live) leads
  leads_beside image holds = each leads are beside
    where
      headers : AllByRecursion (λ p. HasHeader region_len image p.region p.header) retired
      headers = all_right (λ (p : Part). HasHeader region_len image p.region p.header) live retired holds.headers

      each : (rs : List ℕ) → AllByRecursion (λ r. list_any (λ p. p.region == r) retired ≡ true) rs → AllByRecursion (λ r. list_any (nat_eq r) (all_regions live) ≡ false) rs → AllByRecursion (LeadsBeside region_len image live) rs
      each [] a b = tt
      each (r ∷ rs) a b = (lead_header image r headers a.0 (lead_apart r live b.0), each rs a.1 b.1)

  pub still_at : (was image : Image) → HoldsParts region_len was live retired → DiffersAtGates leads was image → ShowsStill region_len leads was image live
  still_at was image holds differs = gates_still region_len leads was image live holds.is_chain differs (leads_beside was holds)

  not_live : (r : ℕ) → list_any (nat_eq r) leads ≡ true → list_any (λ p. p.region == r) live ≡ false
  not_live r there = none live (all_at (λ q. list_any (nat_eq q) (all_regions live) ≡ false) r leads beside there)
    where
      none : (ps : List Part) → list_any (nat_eq r) (all_regions ps) ≡ false → list_any (λ p. p.region == r) ps ≡ false
      none [] h = refl
      none (p ∷ ps) h =
          let both = or_parts (list_any (nat_eq r) (regions_of p)) (list_any (nat_eq r) (all_regions ps)) (sym (list_any-append (nat_eq r) (regions_of p) (all_regions ps)) ∙ h) in
          ap (λ b. b || list_any (λ q. q.region == r) ps) (turned r p.region (or_parts (nat_eq r p.region) _ both.0).0) ∙ none ps both.1
        where
          turned : (m n : ℕ) → nat_eq m n ≡ false → (n == m) ≡ false
          turned m n e = grind (arith, e)

  live_other : AllByRecursion (λ p. list_any (nat_eq p.region) leads ≡ false) live
  live_other = each live (λ r there. not_live r there)
    where
      itself : (n : ℕ) → (n == n) ≡ true
      itself n = grind arith

      each : (ps : List Part) → ((r : ℕ) → list_any (nat_eq r) leads ≡ true → list_any (λ p. p.region == r) ps ≡ false) → AllByRecursion (λ p. list_any (nat_eq p.region) leads ≡ false) ps
      each [] h = tt
      each (p ∷ ps) h = (
        false_from_ne_true (list_any (nat_eq p.region) leads) (λ e. true≢false (sym (itself p.region) ∙ (or_parts (p.region == p.region) (list_any (λ q. q.region == p.region) ps) (h p.region e)).0)),
        each ps (λ r there. (or_parts (p.region == r) (list_any (λ q. q.region == r) ps) (h r there)).1),
      )

  -- once all of them are closed, the others are the parts
  pub held_erased : (was image : Image) → HoldsParts region_len was live retired → DiffersAtGates leads was image → AllByRecursion (λ r. take 1 (region_of image r) ≡ closed_gate) leads → HoldsParts region_len image live (without leads retired)
  held_erased was image holds differs closed =
      let still = still_at was image holds differs in
      record {
        is_chain = still.is_chain;
        leads = λ r h. by r (list_any (nat_eq r) leads) refl (subst (λ n. r < n) differs.as_many h);
        headers =
            all_append (λ p. HasHeader region_len image p.region p.header) live (without leads retired)
            (kept live live_other (all_left (λ (p : Part). HasHeader region_len was p.region p.header) live retired holds.headers))
            (kept (without leads retired) (passes retired) (all_filter (λ (p : Part). HasHeader region_len was p.region p.header) (λ p. not (list_any (nat_eq p.region) leads)) retired (all_right (λ (p : Part). HasHeader region_len was p.region p.header) live retired holds.headers)));
      }
    where
      shut_gate : (bytes : List ℕ) → take 1 bytes ≡ closed_gate → is_sealed bytes ≡ false
      shut_gate [] e = refl
      shut_gate (x ∷ bytes) e = let h : x ≡ 0 = ap (λ xs. slice_index xs 0) e in ap (λ n. n == 167) h

      by : (r : ℕ) (b : Bool) → list_any (nat_eq r) leads ≡ b → r < length was → is_sealed (region_of image r) ≡ list_any (λ p. p.region == r) (live ++ without leads retired)
      by r true e low =
          shut_gate (region_of image r) (all_at (λ q. take 1 (region_of image q) ≡ closed_gate) r leads closed e)
          ∙ sym (list_any-append (λ p. p.region == r) live (without leads retired) ∙ ap (λ b. b || list_any (λ p. p.region == r) (without leads retired)) (not_live r e) ∙ lead_gone r leads retired e)
      by r false e low =
          ap is_sealed (differs.others r e) ∙ holds.leads r low ∙ list_any-append (λ p. p.region == r) live retired
          ∙ ap (λ b. list_any (λ p. p.region == r) live || b) (sym (lead_left r leads retired e)) ∙ sym (list_any-append (λ p. p.region == r) live (without leads retired))

      passes : (ps : List Part) → AllByRecursion (λ p. list_any (nat_eq p.region) leads ≡ false) (without leads ps)
      passes ps = all_map (λ p. not (list_any (nat_eq p.region) leads) ≡ true) (λ p. list_any (nat_eq p.region) leads ≡ false) (λ p h. not-true (list_any (nat_eq p.region) leads) h) (without leads ps) (all_pass (λ p. not (list_any (nat_eq p.region) leads)) ps)

      kept : (ps : List Part) → AllByRecursion (λ p. list_any (nat_eq p.region) leads ≡ false) ps → AllByRecursion (λ p. HasHeader region_len was p.region p.header) ps → AllByRecursion (λ p. HasHeader region_len image p.region p.header) ps
      kept [] a b = tt
      kept (p ∷ ps) a b = ((still_at was image holds differs).headers p.region p.header a.0 b.0, kept ps a.1 b.1)

-- ---- the room

module _ (old entry : Disk) (kept : Kept) (whole : IsWhole (value_of old entry kept)) (open_room : kept.is_shut ≡ false) where
  abbrev held : List ℕ
  held = all_regions (kept.parts ++ kept.retired)

  abbrev left : List ℕ
  left = job_left (value_of old entry kept).room

  pub nothing_lost : kept.lost ≡ []
  nothing_lost = whole.lost open_room

  held_apart : AreApart old.regions held
  held_apart =
      apart_back old.regions kept.lost held
      (apart_back old.regions left (kept.lost ++ held) (apart_back old.regions (option_to_list kept.target) (left ++ (kept.lost ++ held)) whole.apart))

  pub retired_apart : AreApart old.regions (all_regions kept.parts ++ all_regions kept.retired)
  retired_apart = subst (AreApart old.regions) (regions_together kept.parts kept.retired) held_apart

  pub retired_below : AllByRecursion (λ r. r < old.regions) (all_regions kept.retired)
  retired_below = all_right (λ r. r < old.regions) (all_regions kept.parts) (all_regions kept.retired) retired_apart.below

  module _ (leads : List ℕ) (are : AllByRecursion (λ r. list_any (λ p. p.region == r) kept.retired ≡ true) leads) where
    pub leads_below : AllByRecursion (λ r. r < old.regions) leads
    leads_below = all_map (λ r. list_any (λ p. p.region == r) kept.retired ≡ true) (λ r. r < old.regions) (λ r h. all_at (λ n. n < old.regions) r (all_regions kept.retired) retired_below (lead_in r kept.retired h)) leads are

    leads_small : AllByRecursion (λ r. r < 64) leads
    leads_small = all_map (λ r. r < old.regions) (λ r. r < 64) (λ r h. let m = whole.geometry.regions_high in omega (arith, h, m)) leads leads_below

    -- no live part has a region that leads a retired one
    pub leads_beside_live : AllByRecursion (λ r. list_any (nat_eq r) (all_regions kept.parts) ≡ false) leads
    leads_beside_live = all_map (λ r. list_any (λ p. p.region == r) kept.retired ≡ true) (λ r. list_any (nat_eq r) (all_regions kept.parts) ≡ false) (λ r h. one r (lead_in r kept.retired h)) leads are
      where
        one : (r : ℕ) → list_any (nat_eq r) (all_regions kept.retired) ≡ true → list_any (nat_eq r) (all_regions kept.parts) ≡ false
        one r there = false_from_ne_true (list_any (nat_eq r) (all_regions kept.parts)) (λ e. true≢false (sym there ∙ other_list old.regions (all_regions kept.parts) (all_regions kept.retired) r retired_apart e))

    module _ (unnamed : NamesNone leads (posted kept.board)) where
      abbrev eyes_of : Disk → List (ℕ × List ℕ)
      eyes_of disk = map (λ eye. (eye.number, eye.regions)) disk.eyes

      -- nor does an open eye name one
      eyes_other : AllByRecursion (λ eye. AllByRecursion (λ r. list_any (nat_eq r) eye.1 ≡ false) leads) (eyes_of old)
      eyes_other = unset (eyes_of old) (recursion_from_All P (map named (eyes_of old)) (All-permutation P (map held_of (posted kept.board)) (map named (eyes_of old)) (IsPermutation-sym (map named (eyes_of old)) (map held_of (posted kept.board)) whole.board.eyes) (All-from_recursion P (map held_of (posted kept.board)) (mapped (posted kept.board) unnamed))))
        where
          P : ℕ × List ℕ → Type 0
          P eye = AllByRecursion (λ r. list_any (nat_eq r) eye.1 ≡ false) leads

          mapped : (es : List OpenedEye) → NamesNone leads es → AllByRecursion P (map held_of es)
          mapped [] all = tt
          mapped (e ∷ es) all = (all.0, mapped es all.1)

          both : (rs : List ℕ) (regions : List ℕ) → AllByRecursion (λ r. r < 64) rs → AllByRecursion (λ r. list_any (nat_eq r) (set_of regions) ≡ false) rs → AllByRecursion (λ r. list_any (nat_eq r) regions ≡ false) rs
          both [] regions a b = tt
          both (r ∷ rs) regions a b = (sym (among (λ n. list_any (nat_eq n) regions) r a.0) ∙ b.0, both rs regions a.1 b.1)

          unset : (hs : List (ℕ × List ℕ)) → AllByRecursion P (map named hs) → AllByRecursion P hs
          unset [] all = tt
          unset (h ∷ hs) all = (both leads h.1 leads_small all.0, unset hs all.1)

      pub leads_unseen : AllByRecursion (IsUnseen old) leads
      leads_unseen = each leads (λ r there. one r there)
        where
          one : (r : ℕ) → list_any (nat_eq r) leads ≡ true → IsUnseen old r
          one r there = All-from_recursion (λ (eye : OpenEye). Contains eye.regions r → ⊥) old.eyes (eyes old.eyes eyes_other)
            where
              eyes : (es : List OpenEye) → AllByRecursion (λ (eye : ℕ × List ℕ). AllByRecursion (λ r. list_any (nat_eq r) eye.1 ≡ false) leads) (map (λ (eye : OpenEye). (eye.number, eye.regions)) es) → AllByRecursion (λ (eye : OpenEye). Contains eye.regions r → ⊥) es
              eyes [] all = tt
              eyes (e ∷ es) all = (λ in'. true≢false (sym (list_any-from_Contains nat_alike r e.regions in') ∙ all_at (λ q. list_any (nat_eq q) e.regions ≡ false) r leads all.0 there), eyes es all.1)

          each : (rs : List ℕ) → ((r : ℕ) → list_any (nat_eq r) rs ≡ true → IsUnseen old r) → AllByRecursion (IsUnseen old) rs
          each rs h = all_map (λ r. list_any (nat_eq r) rs ≡ true) (IsUnseen old) h rs (each_there rs)

      module _ (new : Disk) (run : TouchesGates leads old new) (some : leads ≢ []) (failed : Type 0) (counts : CountsOwn failed old new) where
        abbrev gone : List ℕ
        gone = all_regions (led_by leads kept.retired)

        abbrev rest : List Part
        rest = without leads kept.retired

        -- the room behind the call
        abbrev erased : List ℕ → List ℕ → Bool → Kept
        erased free lost shut = record kept { retired = rest; free = free; lost = lost; is_shut = shut }

        same_eyes : eyes_of new ≡ eyes_of old
        same_eyes = ap (map (λ eye. (eye.number, eye.regions))) run.beside.eyes

        names_others : AllByRecursion (λ eye. AllByRecursion (λ q. list_any (nat_eq q) leads ≡ false) eye.regions) (posted kept.board)
        names_others = all_map (λ eye. AllByRecursion (λ r. list_any (nat_eq r) eye.regions ≡ false) leads) (λ eye. AllByRecursion (λ q. list_any (nat_eq q) leads ≡ false) eye.regions) (λ eye h. others_named leads eye.regions h) (posted kept.board) unnamed

        alike : BothTold (AreAlike leads) old.told new.told
        alike = both_weaker (λ a b. DiffersAtGates leads a.bytes b.bytes) (AreAlike leads) (λ a b d. (d.as_many, d.others)) old.told new.told run.read

        still_named : AllByRecursion (NamesWhole (kept.parts ++ rest)) (eyes_of old)
        still_named = each (eyes_of old) eyes_other whole.board.of_parts
          where
            each : (hs : List (ℕ × List ℕ)) → AllByRecursion (λ eye. AllByRecursion (λ r. list_any (nat_eq r) eye.1 ≡ false) leads) hs → AllByRecursion (NamesWhole (kept.parts ++ kept.retired)) hs → AllByRecursion (NamesWhole (kept.parts ++ rest)) hs
            each [] a b = tt
            each (h ∷ hs) a b = (names_left leads kept.parts kept.retired h a.0 b.0, each hs a.1 b.1)

        board : (free lost : List ℕ) (shut : Bool) → AreOnBoard (value_of new entry (erased free lost shut)).room
        board free lost shut = record {
          seats = whole.board.seats;
          eyes = subst (λ es. IsPermutation (map named es) (map held_of (posted kept.board))) (sym same_eyes) whole.board.eyes;
          once = subst (λ es. IsTrue (is_distinct (map (λ (e : ℕ × List ℕ). e.0) es))) (sym same_eyes) whole.board.once;
          given = subst (λ es. AllByRecursion (λ (e : ℕ × List ℕ). Contains new.given e.0) es) (sym same_eyes) (subst (λ ns. AllByRecursion (λ (e : ℕ × List ℕ). Contains ns e.0) (eyes_of old)) (sym run.beside.given) whole.board.given);
          of_parts = subst (AllByRecursion (NamesWhole (kept.parts ++ rest))) (sym same_eyes) still_named;
          shows = still_shows leads old.told new.told (posted kept.board) alike names_others whole.board.shows;
        }

        -- ---- the regions

        old_times : (n : ℕ) → times n (taken (value_of old entry kept).room kept.target) ≡ times n gone + times n (option_to_list kept.target ++ (left ++ (kept.lost ++ all_regions (kept.parts ++ rest))))
        old_times n =
            let t : List ℕ = option_to_list kept.target in
            let a = times-append n t (left ++ (kept.lost ++ held)) in
            let b = times-append n left (kept.lost ++ held) in
            let c = times-append n kept.lost held in
            let d = ap (times n) (regions_together kept.parts kept.retired) ∙ times-append n (all_regions kept.parts) (all_regions kept.retired) in
            let e = led_times n leads kept.retired in
            let a' = times-append n t (left ++ (kept.lost ++ all_regions (kept.parts ++ rest))) in
            let b' = times-append n left (kept.lost ++ all_regions (kept.parts ++ rest)) in
            let c' = times-append n kept.lost (all_regions (kept.parts ++ rest)) in
            let d' = ap (times n) (regions_together kept.parts rest) ∙ times-append n (all_regions kept.parts) (all_regions rest) in
            omega (arith, a, b, c, d, e, a', b', c', d')

        gone_apart : AreApart old.regions gone
        gone_apart = fewer_apart old.regions (taken (value_of old entry kept).room kept.target) gone (λ n. let e = old_times n in omega (arith, e)) whole.apart

        new_apart : AreApart old.regions (option_to_list kept.target ++ (left ++ (kept.lost ++ all_regions (kept.parts ++ rest))))
        new_apart = fewer_apart old.regions (taken (value_of old entry kept).room kept.target) (option_to_list kept.target ++ (left ++ (kept.lost ++ all_regions (kept.parts ++ rest)))) (λ n. let e = old_times n in omega (arith, e)) whole.apart

        pub freed : set_of (kept.free ++ gone) ≡ regions_outside old.regions (option_to_list kept.target ++ (left ++ (kept.lost ++ all_regions (kept.parts ++ rest))))
        freed =
            ap (λ free. set_of (free ++ gone)) whole.free
            ∙ free_more old.regions (taken (value_of old entry kept).room kept.target) (option_to_list kept.target ++ (left ++ (kept.lost ++ all_regions (kept.parts ++ rest)))) gone whole.geometry.regions_high whole.apart old_times

        job_other : AllByRecursion (λ r. list_any (nat_eq r) held ≡ false) left
        job_other = all_map (λ r. list_any (nat_eq r) left ≡ true) (λ r. list_any (nat_eq r) held ≡ false) (λ r h. (job_apart (value_of old entry kept) whole nothing_lost r h).0) left (each_there left)

        all_job : left ≡ job_regions kept.job
        all_job = job_regions_left (value_of old entry kept) whole nothing_lost

        -- what is written for a merge lies elsewhere
        job_beside : AllByRecursion (λ r. list_any (nat_eq r) leads ≡ false) (job_regions kept.job)
        job_beside = subst (AllByRecursion (λ r. list_any (nat_eq r) leads ≡ false)) all_job (all_map (λ r. list_any (nat_eq r) held ≡ false) (λ r. list_any (nat_eq r) leads ≡ false) one left job_other)
          where
            one : (r : ℕ) → list_any (nat_eq r) held ≡ false → list_any (nat_eq r) leads ≡ false
            one r none = false_from_ne_true (list_any (nat_eq r) leads) (λ e. true≢false (sym (lead_in r kept.retired (all_at (λ q. list_any (λ p. p.region == q) kept.retired ≡ true) r leads are e)) ∙ apart))
              where
                apart : list_any (nat_eq r) (all_regions kept.retired) ≡ false
                apart = (or_parts (list_any (nat_eq r) (all_regions kept.parts)) (list_any (nat_eq r) (all_regions kept.retired)) (sym (ap (list_any (nat_eq r)) (regions_together kept.parts kept.retired) ∙ list_any-append (nat_eq r) (all_regions kept.parts) (all_regions kept.retired)) ∙ none)).1

        -- ---- what the disk tells

        abbrev Holds : Image → Type 0
        Holds image = HoldsParts old.region_len image kept.parts kept.retired

        record Run (a b : Told) : Type 0 where
          told : IsToldOf old a
          told' : IsToldOf new b
          left_now : IsLeft Holds a
          read : DiffersAtGates leads a.bytes b.bytes
          leaves : LeavesOnly (IsAtGates leads a) a b

        runs : BothTold Run old.told new.told
        runs = on' old.told new.told run.read run.leaves whole.sound.told run.sound.told (whole.told nothing_lost)
          where
            on' : (y z : Option Told) → BothTold (λ a b. DiffersAtGates leads a.bytes b.bytes) y z → BothTold (λ a b. LeavesOnly (IsAtGates leads a) a b) y z → IfSome y (IsToldOf old) → IfSome z (IsToldOf new) → IfSome y (IsLeft Holds) → BothTold Run y z
            on' None None p q s t h = tt
            on' None (Some b) p q s t h = absurd p
            on' (Some a) None p q s t h = absurd p
            on' (Some a) (Some b) p q s t h = record { told = s; told' = t; left_now = h; read = p; leaves = q }

        still : (was image : Image) → Holds was → DiffersAtGates leads was image → ShowsStill old.region_len leads was image kept.parts
        still was image holds differs = still_at old.region_len leads kept.parts kept.retired are leads_beside_live was image holds differs

        shows_at : (a b : Told) → Run a b → (first : List Row) (history : List Commit) (low high : ℕ) → ((was : Image) → IsImageNow a was → ShowsSome old.region_len first history low high was) → (image : Image) → IsAtGates leads a image → ShowsSome old.region_len first history low high image
        shows_at a b r first history low high shown image at =
            let s = shown at.was at.is_was in
            record { e = s.e; rows = s.rows; shows = (still at.was image (r.left_now at.was at.is_was) at.differs).shown s.e s.rows s.shows; from = s.from; to = s.to; agrees = s.agrees }

        live : (free lost : List ℕ) (shut : Bool) (a b : Told) → Run a b → (log : List Row) → HoldsLive (value_of old entry kept).room a.bytes log → HoldsLive (record (value_of old entry kept).room { retired = rest; free = free; lost = lost; is_shut = shut }) b.bytes log
        live free lost shut a b r log h = record { rows = h.rows; are_rows = (still a.bytes b.bytes (r.left_now a.bytes r.told.image) r.read).rows h.rows h.are_rows; agrees = h.agrees; no_longer = h.no_longer }

        becomes : (free lost : List ℕ) (shut : Bool) → (shut ≡ true → HasRisen old.own_faults new.own_faults × HasRisen old.faults new.faults) → Becomes (value_of old entry kept).room (value_of new entry (erased free lost shut)).room
        becomes free lost shut risen = becomes_open old new kept (erased free lost shut) run.beside counts.no_lower (as_told Run old.told new.told runs) open_room (omega arith) refl risen (λ s. absurd (none leads some are s.none_retired))
          where
            none : (rs : List ℕ) → rs ≢ [] → AllByRecursion (λ r. list_any (λ p. p.region == r) kept.retired ≡ true) rs → kept.retired ≡ [] → ⊥
            none [] ne all e = ne refl
            none (r ∷ rs) ne all e = true≢false (sym all.0 ∙ ap (λ (ps : List Part). list_any (λ p. p.region == r) ps) e)

        pub erased_keeps : (free lost : List ℕ) (shut : Bool) → (shut ≡ true → HasRisen old.own_faults new.own_faults × HasRisen old.faults new.faults) → Keeps (value_of old entry kept) (value_of new entry (erased free lost shut))
        erased_keeps free lost shut risen = record {
          stands = still_stands old new entry kept whole open_room run.beside Run runs (IsAtGates leads) (λ a b r. r.leaves) shows_at (live free lost shut);
          inside = still_inside old new entry kept whole open_room run.beside Run runs (IsAtGates leads) (λ a b r. r.leaves) shows_at;
          becomes = becomes free lost shut risen;
          time = run.time;
        }

        pub erased_job : (free lost : List ℕ) (shut : Bool) → KeepsJob (value_of old entry kept).room (value_of new entry (erased free lost shut)).room
        erased_job free lost shut = record { job = refl; held = one }
          where
            one : (job : Job) → kept.job ≡ Some job → held_for (option_map (λ (t : Told). t.bytes) new.told) job ≡ held_for (option_map (λ (t : Told). t.bytes) old.told) job
            one job is =
                holds_still leads job old.told new.told (subst (λ o. AllByRecursion (λ r. list_any (nat_eq r) leads ≡ false) (job_regions o)) is job_beside)
                (both_weaker (λ a b. DiffersAtGates leads a.bytes b.bytes) (λ a b. (r : ℕ) → list_any (nat_eq r) leads ≡ false → region_of b.bytes r ≡ region_of a.bytes r) (λ a b d. d.others) old.told new.told run.read)

        -- ---- all of it

        abbrev taken_then : List ℕ → List ℕ → Bool → List ℕ
        taken_then free lost shut = taken (value_of new entry (erased free lost shut)).room kept.target

        all_of : (free lost : List ℕ) (shut : Bool) → AreApart old.regions (taken_then free lost shut) → free ≡ regions_outside old.regions (taken_then free lost shut)
            → (shut ≡ true → HasRisen old.own_faults new.own_faults × HasRisen old.faults new.faults) → (shut ≡ false → lost ≡ []) → (lost ≡ [] → new.unsynced ≡ [])
            → (lost ≡ [] → IfSome new.told (IsLeft (λ image. HoldsParts new.region_len image kept.parts rest))) → IsWhole (value_of new entry (erased free lost shut))
        all_of free lost shut apart is_free risen open_then synced told = record {
          geometry = still_geometry old new run.beside whole.geometry;
          sound = run.sound;
          of_disk = refl;
          in_chain = whole.in_chain;
          ends = whole.ends;
          lie = subst (λ n. AllByRecursion (λ (p : Part). LiesIn n p.header) (kept.parts ++ rest)) (sym run.beside.region_len)
              (all_append (λ (p : Part). LiesIn old.region_len p.header) kept.parts rest (all_left (λ (p : Part). LiesIn old.region_len p.header) kept.parts kept.retired whole.lie)
              (all_filter (λ (p : Part). LiesIn old.region_len p.header) (λ p. not (list_any (nat_eq p.region) leads)) kept.retired (all_right (λ (p : Part). LiesIn old.region_len p.header) kept.parts kept.retired whole.lie)));
          apart = subst (λ n. AreApart n (taken_then free lost shut)) (sym run.beside.regions) apart;
          free = is_free ∙ ap (λ n. regions_outside n (taken_then free lost shut)) (sym run.beside.regions);
          rising = left_rising leads kept.retired whole.rising;
          board = board free lost shut;
          epoch = epoch_stays (value_of old entry kept) (value_of new entry (erased free lost shut)) whole.epoch run.beside.region_len whole.epoch.none (λ l. whole.epoch.some nothing_lost) whole.epoch.epoch;
          job = IfSome_then kept.job {P = IsJob (value_of old entry kept).room} {Q = IsJob (value_of new entry (erased free lost shut)).room} whole.job
              (λ job is. record { before = is.before; after = is.after; neighbours = is.neighbours; untaken = is.untaken; is_taken = λ header h. subst (λ n. IsTaken n job header) (sym run.beside.region_len) (is.is_taken header h) });
          entry = record {
            regions = whole.entry.regions ∙ sym run.beside.regions;
            region_len = whole.entry.region_len ∙ sym run.beside.region_len;
            time = continues_then entry old new whole.entry.time run.time;
            no_lower = (let a = whole.entry.no_lower.0 in let b = counts.no_lower.0 in omega (arith, a, b), let a = whole.entry.no_lower.1 in let b = counts.no_lower.1 in omega (arith, a, b));
            failed = λ h. (risen_since entry.own_faults old.own_faults new.own_faults whole.entry.no_lower.1 (risen h).0, risen_since entry.faults old.faults new.faults whole.entry.no_lower.0 (risen h).1);
          };
          lost = open_then;
          unsynced = λ l. no_parts_unsynced new (kept.parts ++ rest) (synced l);
          told = told;
        }

        -- all gates are closed and durable: the regions are free
        pub erased_whole : new.unsynced ≡ [] → ReadsClosed leads old new → IsWhole (value_of new entry (erased (set_of (kept.free ++ gone)) kept.lost kept.is_shut))
        erased_whole synced closed =
            all_of (set_of (kept.free ++ gone)) kept.lost kept.is_shut new_apart freed (λ h. absurd (cc)) whole.lost (λ l. synced)
            (λ l. some_behind (IsLeft (λ image. HoldsParts new.region_len image kept.parts rest)) old.told new.told (both_and Run (λ a b. AllByRecursion (λ r. take 1 (region_of b.bytes r) ≡ closed_gate) leads) old.told new.told runs closed) one)
          where
            one : (a b : Told) → Run a b × AllByRecursion (λ r. take 1 (region_of b.bytes r) ≡ closed_gate) leads → IsLeft (λ image. HoldsParts new.region_len image kept.parts rest) b
            one a b r image now =
                let is : image ≡ b.bytes = synced_now new b b image r.0.told' (inl (synced, refl)) now in
                subst (λ (i : Image). HoldsParts new.region_len i kept.parts rest) (sym is)
                (subst (λ n. HoldsParts n b.bytes kept.parts rest) (sym run.beside.region_len)
                (held_erased old.region_len leads kept.parts kept.retired are leads_beside_live a.bytes b.bytes (r.0.left_now a.bytes r.0.told.image) r.0.read r.1))

        -- the disk failed: they are lost
        pub lost_now : set_of (kept.lost ++ gone) ≡ set_of gone
        lost_now = ap (λ lost. set_of (lost ++ gone)) nothing_lost

        abbrev lost_then : List ℕ
        lost_then = set_of (kept.lost ++ gone)

        left_then : job_left (value_of new entry (erased kept.free lost_then true)).room ≡ job_regions kept.job
        left_then = filter_all (λ r. not (list_any (nat_eq r) lost_then)) (job_regions kept.job) (subst (AllByRecursion (λ r. not (list_any (nat_eq r) lost_then) ≡ true)) all_job (all_map (λ r. list_any (nat_eq r) held ≡ false) (λ r. not (list_any (nat_eq r) lost_then) ≡ true) one left job_other))
          where
            one : (r : ℕ) → list_any (nat_eq r) held ≡ false → not (list_any (nat_eq r) lost_then) ≡ true
            one r none = ap not (ap (list_any (nat_eq r)) lost_now ∙ any_times r (set_of gone) gone (set_times old.regions gone whole.geometry.regions_high gone_apart r) ∙ times_absent r gone (let z = absent_times r held none in let d = ap (times r) (regions_together kept.parts kept.retired) ∙ times-append r (all_regions kept.parts) (all_regions kept.retired) in let e = led_times r leads kept.retired in omega (arith, z, d, e)))

        shut_times : SameTimes (taken (value_of old entry kept).room kept.target) (taken_then kept.free lost_then true)
        shut_times n =
            let t : List ℕ = option_to_list kept.target in
            let o = old_times n in
            let z = ap (times n) nothing_lost ∙ times-none n in
            let a = times-append n t (left ++ (kept.lost ++ all_regions (kept.parts ++ rest))) in
            let b = times-append n left (kept.lost ++ all_regions (kept.parts ++ rest)) in
            let c = times-append n kept.lost (all_regions (kept.parts ++ rest)) in
            let j : times n left ≡ times n (job_left (value_of new entry (erased kept.free lost_then true)).room) = ap (times n) (all_job ∙ sym left_then) in
            let a' = times-append n t (job_left (value_of new entry (erased kept.free lost_then true)).room ++ (lost_then ++ all_regions (kept.parts ++ rest))) in
            let b' = times-append n (job_left (value_of new entry (erased kept.free lost_then true)).room) (lost_then ++ all_regions (kept.parts ++ rest)) in
            let c' = times-append n lost_then (all_regions (kept.parts ++ rest)) in
            let s = ap (times n) lost_now ∙ set_times old.regions gone whole.geometry.regions_high gone_apart n in
            omega (arith, o, z, a, b, c, j, a', b', c', s)

        pub shut_whole : HasRisen old.faults new.faults → HasRisen old.own_faults new.own_faults → (lost_then ≡ [] → ⊥) → IsWhole (value_of new entry (erased kept.free lost_then true))
        shut_whole risen own lost_some =
            all_of kept.free lost_then true (same_apart old.regions (taken (value_of old entry kept).room kept.target) (taken_then kept.free lost_then true) shut_times whole.apart)
            (whole.free ∙ same_outside old.regions (taken (value_of old entry kept).room kept.target) (taken_then kept.free lost_then true) shut_times) (λ h. (own, risen)) (λ h. absurd (let e : true ≡ false = h in cc)) (λ l. absurd (lost_some l)) (λ l. absurd (lost_some l))

        -- some region is lost
        pub lost_some : lost_then ≡ [] → ⊥
        lost_some e = by leads refl
          where
            by : (rs : List ℕ) → leads ≡ rs → ⊥
            by [] is = some is
            by (r ∷ rs) is =
                let there : list_any (nat_eq r) leads ≡ true = subst (λ l. list_any (nat_eq r) l ≡ true) (sym is) (each_there (r ∷ rs)).0 in
                let within = lead_in r (led_by leads kept.retired) (lead_led r leads kept.retired there (all_at (λ q. list_any (λ p. p.region == q) kept.retired ≡ true) r leads are there)) in
                let none : times r gone ≡ 0 = sym (set_times old.regions gone whole.geometry.regions_high gone_apart r) ∙ ap (times r) (sym lost_now ∙ e) ∙ times-none r in
                true≢false (sym within ∙ times_absent r gone none)

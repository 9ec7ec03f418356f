-- A job whose part is sealed: what is known before, and what an image shows meanwhile.
use Rattle.std.proofs.Common.{◌≡◌, ◌≢◌, ◌⊎◌, ℕ, ◌+◌, ◌-◌, ◌<◌, ◌≤◌, ◌||◌, false, true, List, [], ◌∷◌, ◌++◌, length, take, Some, None, refl, sym, ap, subst, ◌∙◌, inl, inr, arith, eq-eqb, length-take}
use Rattle.std.specs.Prelude.{Option, nat_eq, option_map, slice_get}
use Rattle.std.specs.List.{AllByRecursion, list_any}
use Rattle.fine_model.specs.declared.Header.{Header}
use Rattle.fine_model.specs.declared.Job.{Job}
use Rattle.fine_model.specs.declared.Mark.TheVariants as mark
use Rattle.fine_model.specs.declared.Part.{Part}
use Rattle.fine_model.specs.declared.Row.{Row}
use Rattle.fine_model.specs.Becomes.{IsStuck}
use Rattle.fine_model.specs.Chain.{AreRowsOf, free_regions, is_free, regions_of}
use Rattle.fine_model.specs.ChainLaws.{DiffersAt, DiffersBehind, ShowsAlike, part_of}
use Rattle.fine_model.specs.Headline.{ShowsSome}
use Rattle.fine_model.specs.History.{Commit}
use Rattle.fine_model.specs.Regions.{Image, HasHeader, body_in, continuations, header_bytes, is_sealed, region_of}
use Rattle.fine_model.specs.RowBytes.{greatest}
use Rattle.fine_model.proofs.Chain.Closed.{closed_law}
use Rattle.fine_model.proofs.Ordered.Nothing.{all_at, each_there}
use Rattle.fine_model.proofs.Ordered.Order.{all_map, first_of_both}
use Rattle.fine_model.proofs.Chain.Replaced.{rows_split}
use Rattle.log_disk.specs.Disk.{BothTold, Disk, IsImageNow, IsToldOf, IsUnseen, SameOutside, Told, with_bytes}
use Rattle.log_disk.specs.Moments.{IsLeft}
use Rattle.log_partition.specs.Written.{IsGood}
use Rattle.partition_index.specs.Placing.{HasRoomFor}
use Rattle.partition_index.proofs.BodyPlaces.{start_small}
use Rattle.epoch_room.specs.Gate.{IsAtGate, IsSealing}
use Rattle.epoch_room.specs.MergeSealing.{IsWrittenOut, WritesMerged}
use Rattle.epoch_room.specs.Value.{Kept, value_of}
use Rattle.epoch_room.specs.Whole.{FollowOn, HasRegions, HoldsParts, IsJob, IsTaken, IsWhole}
use Rattle.epoch_room.proofs.OpenEpochs.BehindGates.{torn_alike}
use Rattle.epoch_room.proofs.Views.Boarding.{AreBeside, one_beside}
use Rattle.epoch_room.proofs.Counting.{regions_of_header}
use Rattle.epoch_room.proofs.RegionSets.Freeing.{as_many, free_there, held_now}
use Rattle.epoch_room.proofs.OpenEpochs.Holding.{free_of}
use Rattle.epoch_room.proofs.Merges.MergeFits.{first_at, fits_free, second_at}
use Rattle.epoch_room.proofs.Merges.MergedHeaders.{header_long, mark_later, taken_good}
use Rattle.epoch_room.proofs.Merges.OpenedOver.{sealed_body, shown_over}
use Rattle.epoch_room.proofs.Merges.Retired.{follow_range}
use Rattle.std.proofs.lemmas.Bool.{not-true}
use Rattle.epoch_room.proofs.OpenEpochs.Torn.{HasClosed, HasOpened, at_gate, torn_closed}
use Rattle.epoch_room.proofs.Merges.Written.{is_job, own_apart, own_below, own_beside, own_once, own_place, own_taken}
use Rattle.fine_model.specs.Jobs.{held_by, held_for}
use Rattle.fine_model.proofs.Ordered.Zip.{all_left, all_right}

-- a part is opened over an image, and its body is what it was there
pub record IsOver (region_len : ℕ) (job : Job) (header : Header) (base image : Image) : Type 0 where
  pub opened : HasOpened job.target (header_bytes region_len header) base image
  pub body : body_in image job.target header ≡ body_in base job.target header

-- an image of before shows the same
pub record IsLikeBefore (region_len : ℕ) (before : Told) (image : Image) : Type 0 where
  pub was : Image
  pub is_was : IsImageNow before was
  pub alike : ShowsAlike region_len was image

middle : (P : Part → Type 0) (before : List Part) (older newer : Part) (after : List Part) → AllByRecursion P (before ++ older ∷ newer ∷ after) → P older × P newer
middle P before older newer after all = let rest = all_right P before (older ∷ newer ∷ after) all in (rest.0, rest.1.0)

-- what is held of a job is told by its body
pub held_same : {Run : Told → Told → Type 0} (job : Job) (header : Header) → job.header ≡ Some header → (y z : Option Told) → BothTold Run y z → ((a b : Told) → Run a b → body_in b.bytes job.target header ≡ body_in a.bytes job.target header)
    → held_for (option_map (λ (t : Told). t.bytes) z) job ≡ held_for (option_map (λ (t : Told). t.bytes) y) job
held_same job header has None None r body = refl
held_same job header has None (Some b) r body = absurd r
held_same job header has (Some a) None r body = absurd r
held_same job header has (Some a) (Some b) r body = ap (λ h. Some (held_by b.bytes job.target job.written h)) has ∙ ap (λ bytes. Some (take job.written bytes)) (body a b r) ∙ ap (λ h. Some (held_by a.bytes job.target job.written h)) (sym has)

module _ (old entry : Disk) (kept : Kept) (whole : IsWhole (value_of old entry kept)) (open_room : kept.is_shut ≡ false) (job : Job) (out : kept.job ≡ Some job) (header : Header) (has : job.header ≡ Some header)
    (written : IsWrittenOut (value_of old entry kept).room job header) where
  abbrev rs : List ℕ
  rs = regions_of (part_of job.target header)

  abbrev pub as_job : IsJob (value_of old entry kept).room job
  as_job = is_job old entry kept whole open_room job out header has

  taken : IsTaken old.region_len job header
  taken = own_taken old entry kept whole open_room job out header has

  has_regions : HasRegions (part_of job.target header)
  has_regions = regions_of_header old.region_len (part_of job.target header) taken.lies

  beside : AreBeside rs (kept.parts ++ kept.retired)
  beside = own_beside old entry kept whole open_room job out header has

  below : AllByRecursion (λ r. r < old.regions) rs
  below = own_below old entry kept whole open_room job out header has

  pub lead_there : job.target < old.regions
  lead_there = below.0

  pub lead_beside : AreBeside (job.target ∷ []) (kept.parts ++ kept.retired)
  lead_beside = one_beside job.target (kept.parts ++ kept.retired) (beside job.target (ap (λ b. b || list_any (nat_eq job.target) (continuations header)) (eq-eqb job.target job.target refl)))

  pub lead_unseen : IsUnseen old job.target
  lead_unseen = (own_place old entry kept whole open_room job out header has).unseen 0 0 (omega arith)

  pub bytes_long : 1 + length (header_bytes old.region_len header) ≤ old.region_len
  bytes_long = let l = header_long old.region_len header taken.lies.listed in let s = start_small header.mark in let g = taken.lies.large in omega (arith, l, s, g)

  pub later_mark : header.mark ≢ mark.One
  later_mark = mark_later old.region_len job header taken

  ranges : (1 ≤ job.older.header.range.first) × (job.older.header.range.first ≤ job.newer.header.range.last) × (job.newer.header.range.last ≤ greatest)
  ranges = follow_range as_job.before job.older job.newer as_job.after 1 (omega arith) (subst (λ ps. FollowOn 1 ps) as_job.neighbours whole.in_chain.follow)

  pub good : IsGood old.region_len old.regions job.target header
  good = taken_good old.region_len old.regions job header taken whole.geometry.regions_high has_regions (own_apart old entry kept whole open_room job out header has).distinct below
      (subst (λ r. (1 ≤ r.first) × (r.first ≤ r.last) × (r.last ≤ greatest)) (sym taken.range) ranges)

  abbrev Holds : Image → Type 0
  Holds image = HoldsParts old.region_len image kept.parts kept.retired

  -- the parts of an image, with the two neighbours
  pub holds_both : (image : Image) → Holds image → HoldsParts old.region_len image (as_job.before ++ job.older ∷ job.newer ∷ as_job.after) kept.retired
  holds_both image holds = subst (λ ps. HoldsParts old.region_len image ps kept.retired) as_job.neighbours holds

  pub all_free : (image : Image) → length image ≡ old.regions → Holds image → AllByRecursion (λ r. is_free image r ≡ true) rs
  all_free image long holds =
      all_map (λ r. list_any (nat_eq r) rs ≡ true) (λ r. is_free image r ≡ true)
      (λ r there. let low = all_at (λ q. q < old.regions) r rs below there in free_of old.region_len image kept.parts kept.retired r holds (omega (arith, low, long)) (beside r there)) rs (each_there rs)

  -- what the disk tells of both parts was written out
  pub written_now : (image : Image) → (value_of old entry kept).room.image ≡ Some image → (o n : List Row) → AreRowsOf old.region_len image (job.older ∷ []) o → AreRowsOf old.region_len image (job.newer ∷ []) n → WritesMerged image job header o n
  written_now image told o n of_older of_newer =
      let holds = held_now (value_of old entry kept) whole (whole.lost open_room) image told in
      let both = middle (λ p. HasHeader old.region_len image p.region p.header) as_job.before job.older job.newer as_job.after
      (all_left (λ (p : Part). HasHeader old.region_len image p.region p.header) (as_job.before ++ job.older ∷ job.newer ∷ as_job.after) kept.retired (holds_both image holds.1).headers) in
      written o n (record { image = image; is_told = told; headers = (both.0, tt); are_rows = of_older }) (record { image = image; is_told = told; headers = (both.1, tt); are_rows = of_newer })

  -- ---- such a room can take something

  pub not_stuck : IsStuck (value_of old entry kept).room → ⊥
  not_stuck s =
      let holds = held_now (value_of old entry kept) whole (whole.lost open_room) s.image s.told in
      let rows = subst (λ ps. AreRowsOf old.region_len s.image ps s.rows) as_job.neighbours s.are_rows in
      let a = rows_split old.region_len s.image as_job.before (job.older ∷ job.newer ∷ as_job.after) s.rows rows in
      let b = rows_split old.region_len s.image (job.older ∷ []) (job.newer ∷ as_job.after) a.second a.of_back in
      let c = rows_split old.region_len s.image (job.newer ∷ []) as_job.after b.second b.of_back in
      let many = as_many rs (free_regions s.image) (own_once old entry kept whole open_room job out header has) (λ n there.
      let low = all_at (λ q. q < old.regions) n rs below there in
      free_there s.image n (omega (arith, low, holds.0)) (all_at (λ r. is_free s.image r ≡ true) n rs (all_free s.image holds.0 holds.1) there)) in
      let long : length rs ≡ header.regions = let l = length-take (header.regions - 1) header.more in let h = has_regions in omega (arith, l, h.low, h.high, h.more) in
      s.no_merge b.first c.first
      (record {
        at = length as_job.before;
        a = job.older;
        b = job.newer;
        is_a = subst (λ ps. slice_get ps (length as_job.before) ≡ Some job.older) (sym as_job.neighbours) (first_at as_job.before job.older job.newer as_job.after);
        is_b = subst (λ ps. slice_get ps (length as_job.before + 1) ≡ Some job.newer) (sym as_job.neighbours) (second_at as_job.before job.older job.newer as_job.after);
        older_rows = b.of_front;
        newer_rows = c.of_front;
      })
      (fits_free old.region_len s.image job header taken has_regions b.first c.first (written_now s.image s.told b.first c.first b.of_front c.of_front) (length (free_regions s.image)) (omega (arith, many, long)))

  -- ---- images while the part is sealed

  module _ (a : Told) (told : IsToldOf old a) (left : IsLeft Holds a) (is_now : (value_of old entry kept).room.image ≡ Some a.bytes) where
    long_now : (was : Image) → IsImageNow a was → length was ≡ old.regions
    long_now was now = now.regions ∙ sym told.image.regions ∙ told.regions

    pub room_for : HasRoomFor old.region_len a.bytes (part_of job.target header)
    room_for = record {
      lies = taken.lies;
      apart = (own_apart old entry kept whole open_room job out header has).distinct;
      long = all_map (λ r. r < old.regions) (λ r. (r < length a.bytes) × (length (region_of a.bytes r) ≡ old.region_len)) (λ r h. (let l = told.regions in omega (arith, h, l), told.lengths r h)) rs below;
    }

    there : job.target < length a.bytes
    there = let l = told.regions in omega (arith, lead_there, l)

    pub long : 1 + length (header_bytes old.region_len header) ≤ length (region_of a.bytes job.target)
    long = let l = told.lengths job.target lead_there in omega (arith, bytes_long, l)

    pub alike_torn : (was image : Image) → IsImageNow a was → DiffersBehind (job.target ∷ []) was image → ShowsAlike old.region_len was image
    alike_torn was image now differs = torn_alike old.region_len old.regions kept.parts kept.retired (job.target ∷ []) lead_beside (lead_there, tt) was image (long_now was now) (left was now) differs

    lead_free : (was : Image) → IsImageNow a was → is_free was job.target ≡ true
    lead_free was now = (all_free was (long_now was now) (left was now)).0

    alike_closed : (image : Image) → HasClosed job.target a.bytes image → ShowsAlike old.region_len a.bytes image
    alike_closed image closed = closed_law old.region_len job.target a.bytes image (record { differs = closed.differs; free = lead_free a.bytes told.image; closed = closed.closed })

    pub over_gate : (image : Image) → SameOutside job.target 0 1 (with_bytes a.bytes job.target 1 (header_bytes old.region_len header)) image → HasOpened job.target (header_bytes old.region_len header) a.bytes image → IsOver old.region_len job header a.bytes image
    over_gate image same opened = record { opened = opened; body = sealed_body old.region_len a.bytes image (part_of job.target header) (header_bytes old.region_len header) room_for (header_long old.region_len header taken.lies.listed) same }

    -- while a gate is opened
    pub at_gate_is : (image : Image) → IsAtGate job.target (λ was. was ≡ with_bytes a.bytes job.target 1 (header_bytes old.region_len header)) image → ShowsAlike old.region_len a.bytes image ⊎ IsOver old.region_len job header a.bytes image
    at_gate_is image at =
        let same = subst (λ (i : Image). SameOutside job.target 0 1 i image) at.is_was at.same in
        elim (at_gate job.target (header_bytes old.region_len header) a.bytes there long image same) as (λ _. ShowsAlike old.region_len a.bytes image ⊎ IsOver old.region_len job header a.bytes image) [
          | inl closed ↦ inl (alike_closed image closed)
          | inr opened ↦ inr (over_gate image same opened)
        ]

    pub sealing_is : (image : Image) → IsSealing job.target (header_bytes old.region_len header) a image → IsLikeBefore old.region_len a image ⊎ IsOver old.region_len job header a.bytes image
    sealing_is image (inl torn) = inl (record { was = torn.was; is_was = torn.is_was; alike = alike_torn torn.was image torn.is_was torn.differs })
    sealing_is image (inr at) = elim (at_gate_is image at) as (λ _. IsLikeBefore old.region_len a image ⊎ IsOver old.region_len job header a.bytes image) [
      | inl alike ↦ inl (record { was = a.bytes; is_was = told.image; alike = alike })
      | inr over ↦ inr over
    ]

    -- what a read gives then, which differs in the lead alone
    pub read_is : (image : Image) → DiffersAt job.target a.bytes image → IsSealing job.target (header_bytes old.region_len header) a image → ShowsAlike old.region_len a.bytes image ⊎ IsOver old.region_len job header a.bytes image
    unfolding is_free
    read_is image differs (inl torn) = inl (alike_closed image (record { differs = differs; closed = (torn_closed job.target torn.was image (shut torn.was torn.is_was) torn.differs).closed }))
      where
        shut : (was : Image) → IsImageNow a was → is_sealed (region_of was job.target) ≡ false
        shut was now = not-true _ (first_of_both _ _ (lead_free was now)).0
    read_is image differs (inr at) = at_gate_is image at

    over_shows : (image : Image) → IsOver old.region_len job header a.bytes image → (first : List Row) (history : List Commit) (low high : ℕ) → ShowsSome old.region_len first history low high a.bytes → ShowsSome old.region_len first history low high image
    over_shows image over first history low high s =
        shown_over old.region_len a.bytes job header has as_job.before job.older job.newer as_job.after kept.retired (subst (λ n. IsGood old.region_len n job.target header) (sym told.regions) good) later_mark taken.range
        (holds_both a.bytes (left a.bytes told.image)) (all_free a.bytes told.regions (left a.bytes told.image)) image over.opened over.body (written_now a.bytes is_now) first history low high s

    -- each image shows what one of before showed
    pub sealing_shows : (first : List Row) (history : List Commit) (low high : ℕ) → ((was : Image) → IsImageNow a was → ShowsSome old.region_len first history low high was)
        → (image : Image) → IsSealing job.target (header_bytes old.region_len header) a image → ShowsSome old.region_len first history low high image
    sealing_shows first history low high shown image sealing = elim (sealing_is image sealing) as (λ _. ShowsSome old.region_len first history low high image) [
      | inl before ↦
          let s = shown before.was before.is_was in
          record { e = s.e; rows = s.rows; shows = before.alike.shown s.e s.rows s.shows; from = s.from; to = s.to; agrees = s.agrees }
      | inr over ↦ over_shows image over first history low high (shown a.bytes told.image)
    ]

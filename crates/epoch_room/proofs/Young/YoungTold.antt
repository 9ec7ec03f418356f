-- What is known once the rows of the youngest parts are spelled: they may be sealed.
use Rattle.std.proofs.Common.{◌≡◌, ℕ, List, [], ◌∷◌, ◌++◌, ◌-◌, ◌<◌, drop, length, take, Some, None, Ok, Err, Result, refl, sym, ap, subst, ◌∙◌, inl, inr, arith, length-drop, length-take, take-append-drop}
use Rattle.std.specs.Prelude.{IfNone, IfSome, IsErrOf, Option, slice_get}
use Rattle.std.specs.List.{AllByRecursion}
use Rattle.fine_model.specs.declared.Part.{Part}
use Rattle.fine_model.specs.declared.Range.{Range}
use Rattle.fine_model.specs.declared.Row.{Row}
use Rattle.fine_model.specs.Chain.{chain_end}
use Rattle.fine_model.specs.Regions.{HasHeader, header_of}
use Rattle.fine_model.proofs.Ordered.Zip.{all_left, all_right}
use Rattle.log_disk.specs.Disk.{Disk, IsToldOf, OnlyFails, Told}
use Rattle.log_disk.specs.declared.refusal.DiskRefusal.{DiskRefusal}
use Rattle.log_disk.specs.declared.refusal.DiskRefusal.TheVariants as refusal
use Rattle.log_disk.specs.Moments.{IsLeft}
use Rattle.log_partition.specs.Encoding.{AreRowsAt, IsEncoded}
use Rattle.log_partition.specs.declared.encoding.Partition.{Partition}
use Rattle.node_record.specs.declared.key.RowAt.{RowAt}
use Rattle.row_gathering.specs.Gathering.{AreGathered, Declines, GathersRows, OnlyReads}
use Rattle.row_gathering.specs.declared.gathering.Gathered.{Gathered}
use Rattle.epoch_room.specs.Gathering.{DeclinesYoung, WereGathered, range_over, young_at}
use Rattle.epoch_room.specs.Value.{Kept, RoomValue, value_of}
use Rattle.epoch_room.specs.Whole.{HoldsParts, IsWhole}
use Rattle.epoch_room.specs.Youngest.{CanSealYoung}
use Rattle.epoch_room.proofs.Merges.MergeFits.{first_at}
use Rattle.epoch_room.proofs.Young.YoungKept.{CanGather}
use Rattle.epoch_room.proofs.Young.YoungParts.{AreTwo, are_two, end_young}

module _ (old entry : Disk) (kept : Kept) (whole : IsWhole (value_of old entry kept)) (at region : ℕ) (gathered : Gathered) (s : CanSealYoung (value_of old entry kept) at region gathered) where
  pub two : AreTwo (drop at kept.parts)
  two = are_two kept.parts at s.several

  split : kept.parts ≡ take at kept.parts ++ two.oldest ∷ two.newer
  split = sym (take-append-drop at kept.parts) ∙ ap (λ ps. take at kept.parts ++ ps) two.is

  lowest : kept.free ≡ region ∷ drop 1 kept.free
  lowest = by kept.free s.lowest
    where
      by : (free : List ℕ) → slice_get free 0 ≡ Some region → free ≡ region ∷ drop 1 free
      by [] is = absurd (let e : ◌≡◌ {A = Option ℕ} None (Some region) = is in cc)
      by (r ∷ free) is = ap (λ n. n ∷ free) (some_is r region is)
        where
          some_is : (m n : ℕ) → ◌≡◌ {A = Option ℕ} (Some m) (Some n) → m ≡ n
          some_is m n e = cc

  -- the part at the place is the oldest one
  oldest_is : (p : Part) → slice_get kept.parts at ≡ Some p → p ≡ two.oldest
  oldest_is p is = by two.newer two.several split
    where
      long : length (take at kept.parts) ≡ at
      long = let m = s.several in omega (arith, length-take at kept.parts, m)

      some_is : (a b : Part) → ◌≡◌ {A = Option Part} (Some a) (Some b) → a ≡ b
      some_is a b e = cc

      by : (newer : List Part) → (newer ≡ [] → ⊥) → kept.parts ≡ take at kept.parts ++ two.oldest ∷ newer → p ≡ two.oldest
      by [] several joined = absurd (several refl)
      by (q ∷ newer) several joined =
          some_is p two.oldest
          (sym is ∙ ap (slice_get kept.parts) (sym long) ∙ ap (λ ps. slice_get ps (length (take at kept.parts))) joined ∙ first_at (take at kept.parts) two.oldest q newer)

  range_is : (p : Part) → slice_get kept.parts at ≡ Some p → record { first = p.header.range.first; last = kept.sealed } ≡ range_over two.oldest two.newer
  range_is p is =
      let same = oldest_is p is in
      let last = whole.ends ∙ ap chain_end split ∙ end_young (take at kept.parts) two.oldest two.newer in
      λ i. record { first = (same i).header.range.first; last = last i }

  -- where the disk tells its bytes, the rows are those of these parts
  told : IfSome old.told (λ t. AreGathered old.region_len t.bytes (two.oldest ∷ two.newer) s.gathers.rows)
  told = by old.told whole.sound.told (whole.told (whole.lost s.open_room)) s.gathers.told
    where
      by : (t : Option Told) → IfSome t (IsToldOf old) → IfSome t (IsLeft (λ image. HoldsParts old.region_len image kept.parts kept.retired))
          → IfSome t (λ told. AllByRecursion (λ p. HasHeader old.region_len told.bytes p.region p.header) (drop at kept.parts) → AreGathered old.region_len told.bytes (drop at kept.parts) s.gathers.rows)
          → IfSome t (λ told. AreGathered old.region_len told.bytes (two.oldest ∷ two.newer) s.gathers.rows)
      by None h l g = tt
      by (Some t) h l g =
          let headers = all_left (λ (p : Part). HasHeader old.region_len t.bytes p.region p.header) kept.parts kept.retired (l t.bytes h.image).headers in
          subst (λ ps. AreGathered old.region_len t.bytes ps s.gathers.rows) two.is
          (g (all_right (λ (p : Part). HasHeader old.region_len t.bytes p.region p.header) (take at kept.parts) (drop at kept.parts)
          (subst (AllByRecursion (λ (p : Part). HasHeader old.region_len t.bytes p.region p.header)) (sym (take-append-drop at kept.parts)) headers)))

  module _ (p : Part) (n : ℕ) (bytes : List ℕ) (keys : List RowAt) (partition : Partition) (spelled : List ℕ) (is : slice_get kept.parts at ≡ Some p) (len : n ≡ old.region_len) (bytes_are : bytes ≡ gathered.bytes.items) (keys_are : keys ≡ gathered.keys.items)
      (encoded : (rows : List Row) → AreRowsAt n bytes keys rows → IsEncoded n (record { first = p.header.range.first; last = kept.sealed }) rows partition) (words : spelled ≡ partition.bytes.items) where
    encodes : IsEncoded old.region_len (range_over two.oldest two.newer) s.gathers.rows partition
    encodes =
        let rows = s.gathers.rows in
        let at_keys = subst (λ ks. AreRowsAt old.region_len gathered.bytes.items ks rows) (sym keys_are) s.gathers.at in
        let at_bytes = subst (λ bs. AreRowsAt old.region_len bs keys rows) (sym bytes_are) at_keys in
        let made = encoded rows (subst (λ m. AreRowsAt m bytes keys rows) (sym len) at_bytes) in
        subst (λ (r : Range). IsEncoded old.region_len r rows partition) (range_is p is) (subst (λ m. IsEncoded m (record { first = p.header.range.first; last = kept.sealed }) rows partition) len made)

    pub can_gather : CanGather old entry kept (take at kept.parts) two.oldest two.newer region (drop 1 kept.free) s.gathers.rows spelled
    can_gather = record {
      whole = whole;
      open_room = s.open_room;
      no_job = s.no_job;
      split = split;
      several = two.several;
      lowest = lowest;
      ordered = s.gathers.ordered;
      fit = s.gathers.fit;
      within = s.gathers.at.within;
      spelled = words ∙ encodes.bytes;
      gathered = told;
    }

    pub same_header : partition.header ≡ header_of (range_over two.oldest two.newer) s.gathers.rows
    same_header = encodes.header

-- ---- why the parts are gathered, or not

pub were_gathered : (value : RoomValue) (at region : ℕ) (gathered : Gathered) → CanSealYoung value at region gathered → (from : ℕ) → at ≡ young_at from value.room.parts → WereGathered from value
were_gathered value at region gathered s from is = record {
  several = let many = s.several in omega (arith, many, length-drop (young_at from value.room.parts) value.room.parts, is);
  gathered = gathered;
  gathers = subst (λ n. GathersRows value.disk (drop n value.room.parts) gathered) is s.gathers;
}

pub too_few : (value : RoomValue) (from n at : ℕ) → n ≡ length value.room.parts → at ≡ young_at from value.room.parts → n - at < 2 → DeclinesYoung from value
too_few value from n at long is few = inl (omega (arith, few, long, is, length-drop (young_at from value.room.parts) value.room.parts))

pub none_free : (value : RoomValue) (from : ℕ) (free : List ℕ) (lowest : Option ℕ) → free ≡ value.room.free → lowest ≡ slice_get free 0 → lowest ≡ None → DeclinesYoung from value
none_free value from free lowest same is none = inr (inl (sym same ∙ by free (sym is ∙ none)))
  where
    by : (rs : List ℕ) → slice_get rs 0 ≡ None → rs ≡ []
    by [] e = refl
    by (r ∷ rs) e = absurd (let h : ◌≡◌ {A = Option ℕ} (Some r) None = e in cc)

pub not_gathered : (value : RoomValue) (from at : ℕ) (parts : List Part) (found : Option Gathered) → parts ≡ drop at value.room.parts → at ≡ young_at from value.room.parts → found ≡ None → IfNone found (Declines value.disk parts) → DeclinesYoung from value
not_gathered value from at parts found same is none declines =
    let why = subst (λ (f : Option Gathered). IfNone f (Declines value.disk parts)) none declines in
    inr (inr (subst (Declines value.disk) (same ∙ ap (λ n. drop n value.room.parts) is) why))

-- ---- the disk behind the reads

reads_still : {failed : Type 0} (old new : Disk) → OnlyReads failed old new → (failed → ⊥) → new ≡ old
reads_still old new o fine =
    let counts = o.counts.else_same fine in
    λ i. record {
      regions = o.beside.regions i;
      region_len = o.beside.region_len i;
      told = o.told i;
      unsynced = o.unsynced i;
      eyes = o.beside.eyes i;
      given = o.beside.given i;
      faults = counts.0 i;
      own_faults = counts.1 i;
    }

pub read_all : {A : Type 0} (result : Result A DiskRefusal) (a : A) (old new : Disk) → OnlyReads (IsErrOf result refusal.Failed) old new → result ≡ Ok a → new ≡ old
read_all {A} result a old new o is = reads_still old new o (λ f. let h : ◌≡◌ {A = Result A DiskRefusal} (Ok a) (Err refusal.Failed) = sym is ∙ f in cc)

pub read_none : {A : Type 0} (result : Result A DiskRefusal) (r : DiskRefusal) (old new : Disk) → OnlyReads (IsErrOf result refusal.Failed) old new → result ≡ Err r → r ≡ refusal.NoMemory → new ≡ old
read_none {A} result r old new o is e =
    reads_still old new o (λ f. let h : ◌≡◌ {A = Result A DiskRefusal} (Err refusal.NoMemory) (Err refusal.Failed) = sym (is ∙ ap (λ (x : DiskRefusal). Err x) e) ∙ f in cc)

pub read_failed : {A : Type 0} (result : Result A DiskRefusal) (r : DiskRefusal) (old new : Disk) → OnlyReads (IsErrOf result refusal.Failed) old new → result ≡ Err r → r ≡ refusal.Failed → OnlyFails old new
read_failed result r old new o is e =
    let f = is ∙ ap (λ (x : DiskRefusal). Err x) e in
    record {
      told = o.told;
      unsynced = o.unsynced;
      beside = o.beside;
      counts = record { faults = λ u. o.counts.faults f; own_faults = λ u. o.counts.own_faults f; no_lower = o.counts.no_lower; else_same = λ none. absurd (none tt) };
    }

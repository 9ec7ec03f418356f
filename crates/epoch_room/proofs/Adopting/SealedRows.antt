-- Rows are written behind closed gates, and then the lead is sealed.
use Rattle.std.proofs.Common.{◌≡◌, ℕ, ◌+◌, ◌<◌, ◌≤◌, ◌||◌, Bool, true, false, List, [], ◌∷◌, length, drop, Some, None, Ok, Err, Result, refl, sym, ap, subst, inl, inr, arith, eq-eqb, length-append}
use Rattle.std.specs.Prelude.{Option, IfSome, IsErrOf, OnOk, nat_eq}
use Rattle.std.specs.List.{list_any}
use Rattle.fine_model.specs.declared.Part.{Part}
use Rattle.fine_model.specs.declared.Row.{Row}
use Rattle.fine_model.specs.Chain.{regions_of}
use Rattle.fine_model.specs.ChainLaws.{DiffersBehind}
use Rattle.fine_model.specs.Regions.{Image, body_bytes, body_in, body_len, continuations, header_bytes, index_bytes, region_of}
use Rattle.fine_model.specs.RowBytes.{rows_bytes}
use Rattle.fine_model.proofs.Chain.Grammar.{rows_long}
use Rattle.log_disk.specs.Disk.{BothTold, CountsOwn, Disk, IsSound, IsToldOf, SameBeside, SameOutside, Told, clock_of, with_bytes}
use Rattle.log_disk.specs.Moments.{ContinuesOn, LeavesOnly}
use Rattle.log_disk.specs.declared.refusal.DiskRefusal.{DiskRefusal}
use Rattle.log_disk.specs.declared.refusal.DiskRefusal.TheVariants as refusal
use Rattle.log_disk.proofs.Moments.{leaves_then, leaves_weaker, now_since}
use Rattle.log_disk.proofs.Steps.{both_then, both_weaker}
use Rattle.log_disk.proofs.Writes.{same_outside_written}
use Rattle.log_partition.proofs.Indexed.{index_long}
use Rattle.partition_index.specs.Placing.{HasBody}
use Rattle.partition_index.proofs.BodyPlaces.{start_small}
use Rattle.epoch_room.specs.BodyWrites.{HasPlace}
use Rattle.epoch_room.specs.Gate.{gate, DirtiesOnly, HasBytes, IsBehind, IsSealing, IsUngated, KeepsBeside, LeavesBehind, LeavesSealing, ReadsBehind}
use Rattle.epoch_room.specs.RowWrites.{AreCounted, HasBodyOf, HasPart, IsSealingRows, SealsRows, WritesRows}
use Rattle.epoch_room.proofs.OpenEpochs.Behind.{both_and}
use Rattle.epoch_room.proofs.Merges.BodyPieces.{differs_then, leaves_behind_then, reads_none, reads_then}
use Rattle.epoch_room.proofs.OpenEpochs.Gates.{behind}
use Rattle.epoch_room.proofs.Merges.LongBodies.{AreAmong, differs_among, dirties_among, leaves_among, reads_among}
use Rattle.epoch_room.proofs.Merges.MergedHeaders.{header_long}
use Rattle.epoch_room.proofs.RegionSets.Touching.{beside_then, touches_then}

-- the body of rows is as long as a header that counts them tells
pub body_counted : (p : Part) (rows : List Row) → AreCounted p.header rows → length (body_bytes rows) ≡ body_len p.header
body_counted p rows counted = omega (arith, length-append (rows_bytes rows) (index_bytes rows), rows_long rows, index_long rows, counted.area, counted.nodes)

pub body_within : (p : Part) (rows : List Row) → AreCounted p.header rows → 0 + length (body_bytes rows) ≤ body_len p.header
body_within p rows counted = omega (arith, body_counted p rows counted)

-- the header lies before the body
pub header_fits : (p : Part) (old : Disk) → HasPlace old p → 1 + length (header_bytes old.region_len p.header) ≤ old.region_len
header_fits p old place = let l = header_long old.region_len p.header place.lies.listed in let s = start_small p.header.mark in let g = place.lies.large in omega (arith, l, s, g)

reads_beside : (regions : List ℕ) (old new : Disk) → ReadsBehind regions old new → KeepsBeside regions old new
reads_beside regions old new read =
    both_weaker (λ a b. DiffersBehind regions a.bytes b.bytes) (λ a b. (r : ℕ) → list_any (nat_eq r) regions ≡ false → region_of b.bytes r ≡ region_of a.bytes r) (λ a b d. d.others) old.told new.told read

-- the body was not all written
pub seals_refused : (p : Part) (rows : List Row) (e : DiskRefusal) (old new : Disk) → WritesRows p (body_bytes rows) (Err e) old new → SealsRows p rows (Err e) old new
seals_refused p rows e old new w = record {
  touches = w.touches;
  read = reads_beside (regions_of p) old new w.read;
  leaves =
      both_weaker (λ a b. LeavesOnly (IsBehind (regions_of p) a) a b) (λ a b. LeavesOnly (IsSealingRows old.region_len p rows a) a b)
      (λ a b run. leaves_weaker (IsBehind (regions_of p) a) (IsSealingRows old.region_len p rows a) a b (λ image is. inl is) run) old.told new.told w.leaves;
  synced = tt;
  sealed = tt;
  torn = λ f. w.leaves;
  behind = λ f. w.read;
}

-- ---- the body was written, and the lead was to be sealed

module _ (p : Part) (rows : List Row) (old mid new : Disk) (place : HasPlace old p) {u : Unit {0}} (w : WritesRows p (body_bytes rows) (Ok u) old mid) (result : Result (Unit {0}) DiskRefusal) where
  abbrev rs : List ℕ
  rs = regions_of p

  abbrev header : List ℕ
  header = header_bytes old.region_len p.header

  lead_among : AreAmong (p.region ∷ []) rs
  lead_among = (ap (λ b. b || list_any (nat_eq p.region) (continuations p.header)) (eq-eqb p.region p.region refl), tt)

  body_at : (a b : Told) → HasBody p 0 (body_bytes rows) a.bytes b.bytes → HasBodyOf p rows a.bytes b.bytes
  body_at a b is = record { differs = is.differs; rest = drop (0 + length (body_bytes rows)) (body_in a.bytes p.region p.header); body = is.body }

  one : (a b c : Told) → HasBody p 0 (body_bytes rows) a.bytes b.bytes × LeavesOnly (IsBehind rs a) a b → LeavesOnly (IsSealing p.region header b) b c → LeavesOnly (IsSealingRows old.region_len p rows a) a c
  one a b c first second =
      leaves_then (IsSealingRows old.region_len p rows a) a b c (leaves_weaker (IsBehind rs a) (IsSealingRows old.region_len p rows a) a b (λ image is. inl is) first.1)
      (leaves_weaker (IsSealing p.region header b) (IsSealingRows old.region_len p rows a) b c passes second)
    where
      passes : (image : Image) → IsSealing p.region header b image → IsSealingRows old.region_len p rows a image
      passes image (inl torn) =
          let was = first.1.each torn.was (now_since (clock_of a) b torn.was first.1.later torn.is_was) in
          inl (record { was = was.was; is_was = was.is_was; differs = differs_then rs was.was torn.was image was.differs (differs_among (p.region ∷ []) rs lead_among torn.was image torn.differs) })
      passes image (inr at) =
          inr (record { base = b.bytes; has_body = body_at a b first.0; same = subst (λ (i : Image). SameOutside p.region 0 1 i image) at.is_was at.same })

  module _ (same : SameBeside mid new) (counts : CountsOwn (IsErrOf result refusal.Failed) mid new) (sound : IsSound new) (time : ContinuesOn mid new) (dirties : DirtiesOnly (p.region ∷ []) mid new)
      (read : KeepsBeside (p.region ∷ []) mid new) (leaves : LeavesSealing p.region header mid new) (synced : OnOk result (new.unsynced ≡ []))
      (bytes : OnOk result (HasBytes (λ image. with_bytes (with_bytes image p.region 1 header) p.region 0 gate) mid new)) (ungated : IsErrOf result refusal.NoMemory → IsUngated p.region header mid new)
      (untouched : IsErrOf result refusal.NoMemory → LeavesBehind (p.region ∷ []) mid new) where
    read_more : KeepsBeside rs mid new
    read_more =
        both_weaker (λ a b. (r : ℕ) → list_any (nat_eq r) (p.region ∷ []) ≡ false → region_of b.bytes r ≡ region_of a.bytes r) (λ a b. (r : ℕ) → list_any (nat_eq r) rs ≡ false → region_of b.bytes r ≡ region_of a.bytes r)
        (λ a b others r h. others r (not_lead r h)) mid.told new.told read
      where
        not_lead : (r : ℕ) → list_any (nat_eq r) rs ≡ false → list_any (nat_eq r) (p.region ∷ []) ≡ false
        not_lead r h = first (nat_eq r p.region) (list_any (nat_eq r) (continuations p.header)) h
          where
            first : (a b : Bool) → (a || b) ≡ false → (a || false) ≡ false
            first true b e = e
            first false b e = refl

    sealed_at : (r : Result (Unit {0}) DiskRefusal) → OnOk r (HasBytes (λ image. with_bytes (with_bytes image p.region 1 header) p.region 0 gate) mid new)
        → (BothTold (λ a b. HasBody p 0 (body_bytes rows) a.bytes b.bytes) old.told mid.told) → OnOk r (BothTold (HasPart old.region_len p rows) old.told new.told)
    sealed_at (Err e) b d = tt
    sealed_at (Ok v) b d =
        both_then (λ x y. HasBody p 0 (body_bytes rows) x.bytes y.bytes) (λ x y. y.bytes ≡ with_bytes (with_bytes x.bytes p.region 1 header) p.region 0 gate) (HasPart old.region_len p rows)
        (λ x y z body is. record { base = y.bytes; has_body = body_at x y body; bytes = is }) old.told mid.told new.told d b

    lead_reads : IsUngated p.region header mid new → ReadsBehind rs mid new
    lead_reads (inl is) = reads_none rs mid new (ap (λ (d : Disk). d.told) is)
    lead_reads (inr some) = reads_among (p.region ∷ []) rs lead_among mid new (on' mid.told new.told some.1 w.sound.told)
      where
        on' : (y z : Option Told) → BothTold (λ a b. b.bytes ≡ with_bytes a.bytes p.region 1 header) y z → IfSome y (IsToldOf mid) → BothTold (λ a b. DiffersBehind (p.region ∷ []) a.bytes b.bytes) y z
        on' None None q h = tt
        on' None (Some b) q h = absurd q
        on' (Some a) None q h = absurd q
        on' (Some a) (Some b) q h =
            let low : p.region < mid.regions = let l = place.there.0 in omega (arith, l, w.beside.regions) in
            let there : p.region < length a.bytes = omega (arith, low, h.regions) in
            let room : 1 + length header ≤ length (region_of a.bytes p.region) = omega (arith, header_fits p old place, h.lengths p.region low, w.beside.region_len) in
            subst (λ (i : Image). DiffersBehind (p.region ∷ []) a.bytes i) (sym q) (behind p.region 1 (1 + length header) a.bytes (with_bytes a.bytes p.region 1 header) (omega arith) (same_outside_written a.bytes p.region 1 header there room))

    pub seals_then : SealsRows p rows result old new
    seals_then = record {
      touches = touches_then w.touches (record { beside = same; counts = counts; sound = sound; time = time; dirties = dirties_among (p.region ∷ []) rs lead_among mid new dirties }) (λ f. let h : ◌≡◌ {A = Result (Unit {0}) DiskRefusal} (Ok u) (Err refusal.Failed) = f in cc);
      read = beside_then rs old mid new (reads_beside rs old mid w.read) read_more;
      leaves =
          both_then (λ x y. HasBody p 0 (body_bytes rows) x.bytes y.bytes × LeavesOnly (IsBehind rs x) x y) (λ x y. LeavesOnly (IsSealing p.region header x) x y) (λ x y. LeavesOnly (IsSealingRows old.region_len p rows x) x y) one
          old.told mid.told new.told (both_and (λ x y. HasBody p 0 (body_bytes rows) x.bytes y.bytes) (λ x y. LeavesOnly (IsBehind rs x) x y) old.told mid.told w.done w.leaves) leaves;
      synced = synced;
      sealed = sealed_at result bytes w.done;
      torn = λ e. leaves_behind_then rs old mid new w.leaves (leaves_among (p.region ∷ []) rs lead_among mid new (untouched e));
      behind = λ e. reads_then rs old mid new w.read (lead_reads (ungated e));
    }

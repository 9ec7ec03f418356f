-- What a crash leaves while a gate is opened, and while a region is sealed.
use Rattle.std.proofs.Common.{◌≡◌, ◌≢◌, ℕ, zero, suc, ◌+◌, ◌≤◌, false, List, [], ◌∷◌, length, take, Some, None, Result, Err, refl, sym, ap, subst, ◌∙◌, inl, inr, arith}
use Rattle.std.specs.Prelude.{Option, IfSome, All, Contains, nat_eq, ◌||◌}
use Rattle.std.proofs.lemmas.Bool.{cases_eq}
use Rattle.log_disk.specs.Disk.{Image, Told, Disk, OpenEye, region_of, BothTold, SameOutside, HasGoneOn, HasSynced, IsToldOf, IsSound, IsUnseen, IsImageNow, Writes, Syncs, with_bytes, unsynced_too, span_of}
use Rattle.log_disk.specs.Moments.{LeavesOnly, IsLeft}
use Rattle.log_disk.proofs.Moments.{leaves_none, leaves_more, leaves_then, leaves_weaker}
use Rattle.log_disk.proofs.Steps.{both_then, both_weaker}
use Rattle.log_disk.proofs.Calls.{left_write, left_sync}
use Rattle.log_disk.proofs.Sound.{sound_write}
use Rattle.log_disk.proofs.Writes.{same_outside_same}
use Rattle.log_disk.specs.declared.refusal.DiskRefusal.{DiskRefusal}
use Rattle.log_disk.specs.declared.refusal.DiskRefusal.TheVariants as refusal
use Rattle.fine_model.specs.ChainLaws.{DiffersBehind}
use Rattle.epoch_room.specs.Gate.{gate, IsBehind, IsAtGate, IsOpening, IsSealing, LeavesOpening, LeavesSealing, LeavesBehind, LeavesNow, HasBytes}
use Rattle.epoch_room.proofs.RegionSets.Telling.{both_told}

-- no eye names the region on a disk that has the same eyes
pub still_unseen : (region : ℕ) (old new : Disk) → new.eyes ≡ old.eyes → IsUnseen old region → IsUnseen new region
still_unseen region old new e unseen = subst (λ (eyes : List OpenEye). All (λ eye. Contains eye.regions region → ⊥) eyes) (sym e) unseen

-- what equals an image differs from it nowhere
outside_equal : (r from end : ℕ) (old new : Image) → new ≡ old → SameOutside r from end old new
outside_equal r from end old new e = subst (λ (image : Image). SameOutside r from end old image) (sym e) (same_outside_same r from end old)

-- an image that a read gave, but for the gate
at_gate : (region : ℕ) (bytes image : Image) → SameOutside region 0 1 bytes image → IsAtGate region (λ was. was ≡ bytes) image
at_gate region bytes image same = record { was = bytes; is_was = refl; same = same }

-- what differs in a range behind the gate
pub behind : (region from end : ℕ) (old new : Image) → 1 ≤ from → SameOutside region from end old new → DiffersBehind (region ∷ []) old new
behind region from end old new low same = record {
  as_many = same.regions;
  others = λ r h. same.others r (other r region h);
  lengths = same.lengths;
  gates = λ r. elim (cases_eq r region) as (λ _. take 1 (region_of new r) ≡ take 1 (region_of old r)) [
    | inl here ↦ subst (λ n. take 1 (region_of new n) ≡ take 1 (region_of old n)) (sym here) (front from (region_of new region) (region_of old region) low same.before)
    | inr there ↦ ap (take 1) (same.others r there)
  ];
}
  where
    other : (m n : ℕ) → (nat_eq m n || false) ≡ false → m ≢ n
    other m n h = grind (arith, h)

    front : (n : ℕ) (xs ys : List ℕ) → 1 ≤ n → take n xs ≡ take n ys → take 1 xs ≡ take 1 ys
    front zero xs ys h e = absurd (omega (arith, h))
    front (suc n) [] [] h e = refl
    front (suc n) [] (y ∷ ys) h e = ap (take 1) e
    front (suc n) (x ∷ xs) [] h e = ap (take 1) e
    front (suc n) (x ∷ xs) (y ∷ ys) h e = ap (take 1) e

-- ---- opening a gate

module _ (region : ℕ) (disk : Disk) (a b : Told) (told : IsToldOf disk a) (synced : HasSynced disk a b) where
  same_bytes : b.bytes ≡ a.bytes
  same_bytes = elim synced [ inl nothing ↦ ap (λ (t : Told). t.bytes) nothing.1 | inr some ↦ some.1 ]

  left_now : IsLeft (λ image. image ≡ a.bytes) b
  left_now image is = left_sync disk a b told synced image is ∙ same_bytes

  told_synced : LeavesOnly (IsOpening region a) a b
  told_synced =
      elim synced [
        | inl nothing ↦ subst (λ (t : Told). LeavesOnly (IsOpening region a) a t) (sym nothing.1) (leaves_none (IsOpening region a) a (λ image is. inl is))
        | inr some ↦ leaves_more (IsOpening region a) a a b _ (leaves_none (IsOpening region a) a (λ image is. inl is)) some.2 (λ image is. inr (at_gate region a.bytes image (outside_equal region 0 1 a.bytes image (left_now image is))))
      ]

  told_begun : (c : Told) → HasGoneOn b c (unsynced_too b.present (span_of region 0 1)) → LeavesOnly (IsOpening region a) a c
  told_begun c gone =
      leaves_more (IsOpening region a) a b c _ told_synced gone (λ image is.
      let torn = left_write (λ i. i ≡ a.bytes) region 0 1 b c left_now gone image is in
      inr (at_gate region a.bytes image (subst (λ (i : Image). SameOutside region 0 1 i image) torn.1 torn.2)))

  told_opened : (disk' : Disk) (c d : Told) → HasGoneOn b c (unsynced_too b.present (span_of region 0 1)) → SameOutside region 0 1 b.bytes c.bytes → IsToldOf disk' c → HasSynced disk' c d
      → LeavesOnly (IsOpening region a) a d
  told_opened disk' c d gone outside told' synced' =
      elim synced' [
        | inl nothing ↦ subst (λ (t : Told). LeavesOnly (IsOpening region a) a t) (sym nothing.1) (told_begun c gone)
        | inr some ↦ leaves_more (IsOpening region a) a c d _ (told_begun c gone) some.2 (λ image is.
            let bytes : image ≡ c.bytes = left_sync disk' c d told' (inr some) image is ∙ some.1 in
            inr (at_gate region a.bytes image (subst (λ (i : Image). SameOutside region 0 1 a.bytes i) (sym bytes) (subst (λ (i : Image). SameOutside region 0 1 i c.bytes) same_bytes outside))))
      ]

module _ (region : ℕ) (start synced : Disk) (sound : IsSound start) (first : Syncs start synced) where
  first_told : BothTold (λ a b. IsToldOf start a × HasSynced start a b) start.told synced.told
  first_told = both_told (IsToldOf start) (HasSynced start) start.told synced.told first.time sound.told

  pub opening_synced : LeavesOpening region start synced
  opening_synced = both_weaker (λ a b. IsToldOf start a × HasSynced start a b) (λ x y. LeavesOnly (IsOpening region x) x y) (λ a b p. told_synced region start a b p.0 p.1) start.told synced.told first_told

  pub opening_begun : {failed : Type 0} (begun : Disk) → Writes region 0 gate failed synced begun → LeavesOpening region start begun
  opening_begun begun w =
      both_then (λ a b. IsToldOf start a × HasSynced start a b) (λ x y. HasGoneOn x y (unsynced_too x.present (span_of region 0 1))) (λ x y. LeavesOnly (IsOpening region x) x y) (λ a b c p q. told_begun region start a b p.0 p.1 c q)
      start.told synced.told begun.told first_told w.time

  pub opening_done : {failed : Type 0} (begun done : Disk) → Writes region 0 gate failed synced begun → IsSound begun → Syncs begun done → LeavesOpening region start done
  opening_done begun done w sound' second = on start.told synced.told begun.told done.told first.time w.time w.outside second.time sound.told sound'.told
    where
      on : (a b c d : Option Told) → BothTold (HasSynced start) a b → BothTold (λ x y. HasGoneOn x y (unsynced_too x.present (span_of region 0 1))) b c
          → BothTold (λ x y. SameOutside region 0 1 x.bytes y.bytes) b c → BothTold (HasSynced begun) c d → IfSome a (IsToldOf start) → IfSome c (IsToldOf begun)
          → BothTold (λ x y. LeavesOnly (IsOpening region x) x y) a d
      on None None None None p q o r h k = tt
      on None None None (Some d) p q o r h k = absurd r
      on None None (Some c) d p q o r h k = absurd q
      on None (Some b) c d p q o r h k = absurd p
      on (Some a) None c d p q o r h k = absurd p
      on (Some a) (Some b) None d p q o r h k = absurd q
      on (Some a) (Some b) (Some c) None p q o r h k = absurd r
      on (Some a) (Some b) (Some c) (Some d) p q o r h k = told_opened region start a b h p begun c d q o k r

-- where the gate was not written: what was told before, synced
pub now_synced : (start synced : Disk) → IsSound start → Syncs start synced → LeavesNow start synced
now_synced start synced sound s = on start.told synced.told s.time sound.told
  where
    one : (a b : Told) → HasSynced start a b → IsToldOf start a → LeavesOnly (IsImageNow a) a b
    one a b (inl nothing) h = subst (λ (t : Told). LeavesOnly (IsImageNow a) a t) (sym nothing.1) (leaves_none (IsImageNow a) a (λ image is. is))
    one a b (inr some) h =
        leaves_more (IsImageNow a) a a b _ (leaves_none (IsImageNow a) a (λ image is. is)) some.2 (λ image is.
        let bytes : image ≡ a.bytes = left_sync start a b h (inr some) image is ∙ some.1 in subst (IsImageNow a) (sym bytes) h.image)

    on : (a b : Option Told) → BothTold (HasSynced start) a b → IfSome a (IsToldOf start) → BothTold (λ x y. LeavesOnly (IsImageNow x) x y) a b
    on None None p h = tt
    on None (Some b) p h = absurd p
    on (Some a) None p h = absurd p
    on (Some a) (Some b) p h = one a b p h

pub now_same : (start old new : Disk) → new.told ≡ old.told → LeavesNow start old → LeavesNow start new
now_same start old new e leaves = subst (BothTold (λ x y. LeavesOnly (IsImageNow x) x y) start.told) (sym e) leaves

-- a call that told nothing new
pub opening_same : (region : ℕ) (start old new : Disk) → new.told ≡ old.told → LeavesOpening region start old → LeavesOpening region start new
opening_same region start old new e leaves = subst (BothTold (λ x y. LeavesOnly (IsOpening region x) x y) start.told) (sym e) leaves

pub opening_none : (region : ℕ) (start new : Disk) → new.told ≡ start.told → LeavesOpening region start new
opening_none region start new e = subst (BothTold (λ x y. LeavesOnly (IsOpening region x) x y) start.told) (sym e) (each start.told)
  where
    each : (a : Option Told) → BothTold (λ x y. LeavesOnly (IsOpening region x) x y) a a
    each None = tt
    each (Some a) = leaves_none (IsOpening region a) a (λ image is. inl is)

-- ---- sealing a region

module _ (region : ℕ) (bytes : List ℕ) (disk : Disk) (a : Told) where
  -- an image of before is one that differs nowhere
  still_behind : (image : Image) → IsImageNow a image → IsBehind (region ∷ []) a image
  still_behind image now = record { was = image; is_was = now; differs = record { as_many = refl; others = λ r h. refl; lengths = λ r. refl; gates = λ r. refl } }

  still : (image : Image) → IsImageNow a image → IsSealing region bytes a image
  still image now = inl (still_behind image now)

  torn_behind : (b : Told) → HasGoneOn a b (unsynced_too a.present (span_of region 1 (length bytes))) → IsLeft (IsBehind (region ∷ []) a) b
  torn_behind b gone image is =
      let torn = left_write (IsImageNow a) region 1 (length bytes) a b (λ i now. now) gone image is in
      record { was = torn.0; is_was = torn.1; differs = behind region 1 (1 + length bytes) torn.0 image (omega arith) torn.2 }

  first_left : LeavesOnly (IsSealing region bytes a) a a
  first_left = leaves_none (IsSealing region bytes a) a still

  torn_now : (b : Told) → HasGoneOn a b (unsynced_too a.present (span_of region 1 (length bytes))) → IsLeft (IsSealing region bytes a) b
  torn_now b gone image is = inl (torn_behind b gone image is)

  torn_left : (b : Told) → HasGoneOn a b (unsynced_too a.present (span_of region 1 (length bytes))) → LeavesOnly (IsSealing region bytes a) a b
  torn_left b gone = leaves_more (IsSealing region bytes a) a a b _ first_left gone (torn_now b gone)

  gated_left : (b c : Told) → HasGoneOn a b (unsynced_too a.present (span_of region 1 (length bytes))) → b.bytes ≡ with_bytes a.bytes region 1 bytes → LeavesOnly (IsOpening region b) b c
      → LeavesOnly (IsSealing region bytes a) a c
  gated_left b c gone written opening =
      leaves_then (IsSealing region bytes a) a b c (torn_left b gone) (leaves_weaker (IsOpening region b) (IsSealing region bytes a) b c weaker opening)
    where
      weaker : (image : Image) → IsOpening region b image → IsSealing region bytes a image
      weaker image (inl now) = torn_now b gone image now
      weaker image (inr at) = inr (record { was = at.was; is_was = at.is_was ∙ written; same = at.same })

module _ (region : ℕ) (bytes : List ℕ) (start : Disk) where
  pub sealing_none : (new : Disk) → new.told ≡ start.told → LeavesSealing region bytes start new
  sealing_none new e = subst (BothTold (λ x y. LeavesOnly (IsSealing region bytes x) x y) start.told) (sym e) (each start.told)
    where
      each : (a : Option Told) → BothTold (λ x y. LeavesOnly (IsSealing region bytes x) x y) a a
      each None = tt
      each (Some a) = first_left region bytes start a

  pub sealing_torn : {failed : Type 0} (begun : Disk) → Writes region 1 bytes failed start begun → LeavesSealing region bytes start begun
  sealing_torn begun w = both_weaker _ (λ x y. LeavesOnly (IsSealing region bytes x) x y) (λ a b gone. torn_left region bytes start a b gone) start.told begun.told w.time

  pub sealing_gated : {failed : Type 0} (begun done : Disk) → Writes region 1 bytes failed start begun → (failed → ⊥) → LeavesOpening region begun done → LeavesSealing region bytes start done
  sealing_gated begun done w ok opening = on start.told begun.told done.told w.time (w.written ok) opening
    where
      on : (a b c : Option Told) → BothTold (λ x y. HasGoneOn x y (unsynced_too x.present (span_of region 1 (length bytes)))) a b → BothTold (λ x y. y.bytes ≡ with_bytes x.bytes region 1 bytes) a b
          → BothTold (λ x y. LeavesOnly (IsOpening region x) x y) b c → BothTold (λ x y. LeavesOnly (IsSealing region bytes x) x y) a c
      on None None None p q r = tt
      on None None (Some c) p q r = absurd r
      on None (Some b) c p q r = absurd p
      on (Some a) None c p q r = absurd p
      on (Some a) (Some b) None p q r = absurd r
      on (Some a) (Some b) (Some c) p q r = gated_left region bytes start a b c p q r

  -- where the gate was not written
  pub behind_none : (new : Disk) → new.told ≡ start.told → LeavesBehind (region ∷ []) start new
  behind_none new e = subst (BothTold (λ x y. LeavesOnly (IsBehind (region ∷ []) x) x y) start.told) (sym e) (each start.told)
    where
      each : (a : Option Told) → BothTold (λ x y. LeavesOnly (IsBehind (region ∷ []) x) x y) a a
      each None = tt
      each (Some a) = leaves_none (IsBehind (region ∷ []) a) a (still_behind region bytes start a)

  pub behind_gated : {failed : Type 0} (begun done : Disk) → Writes region 1 bytes failed start begun → LeavesNow begun done → LeavesBehind (region ∷ []) start done
  behind_gated begun done w opening =
      both_then (λ x y. HasGoneOn x y (unsynced_too x.present (span_of region 1 (length bytes)))) (λ x y. LeavesOnly (IsImageNow x) x y) (λ x y. LeavesOnly (IsBehind (region ∷ []) x) x y) one start.told begun.told done.told w.time opening
    where
      one : (a b c : Told) → HasGoneOn a b (unsynced_too a.present (span_of region 1 (length bytes))) → LeavesOnly (IsImageNow b) b c → LeavesOnly (IsBehind (region ∷ []) a) a c
      one a b c gone run =
          let P : Image → Type 0 = IsBehind (region ∷ []) a in
          let torn : IsLeft P b = torn_behind region bytes start a b gone in
          leaves_then P a b c (leaves_more P a a b _ (leaves_none P a (still_behind region bytes start a)) gone torn) (leaves_weaker (IsImageNow b) P b c torn run)

  -- what a read gives once it is written, and its gate is opened, or is not
  pub written_then : {failed : Type 0} (then' : Image → Image) (begun done : Disk) → Writes region 1 bytes failed start begun → (failed → ⊥) → HasBytes then' begun done
      → HasBytes (λ image. then' (with_bytes image region 1 bytes)) start done
  written_then then' begun done w ok after = on start.told begun.told done.told (w.written ok) after
    where
      on : (a b c : Option Told) → BothTold (λ x y. y.bytes ≡ with_bytes x.bytes region 1 bytes) a b → BothTold (λ x y. y.bytes ≡ then' x.bytes) b c → BothTold (λ x y. y.bytes ≡ then' (with_bytes x.bytes region 1 bytes)) a c
      on None None None p q = tt
      on None None (Some c) p q = absurd q
      on None (Some b) c p q = absurd p
      on (Some a) None c p q = absurd p
      on (Some a) (Some b) None p q = absurd q
      on (Some a) (Some b) (Some c) p q = q ∙ ap then' p

-- ---- a write that was refused: it was begun and failed, or it took no memory

abbrev Refusal : Type 0
Refusal = Result (Unit {0}) DiskRefusal

module _ (region at : ℕ) (bytes : List ℕ) (old new : Disk) {failed : Type 0} where
  pub by_refusal : (P : Type 0) (e : DiskRefusal) → (◌≢◌ {A = Refusal} (Err e) (Err refusal.NoMemory) → Writes region at bytes failed old new)
      → (◌≡◌ {A = Refusal} (Err e) (Err refusal.NoMemory) → new ≡ old) → (Writes region at bytes failed old new → P) → (new ≡ old → P) → P
  by_refusal P refusal.Failed begun no_memory f s = f (begun (λ h. cc))
  by_refusal P refusal.NoMemory begun no_memory f s = s (no_memory refl)

  pub still_sound : (e : DiskRefusal) → (◌≢◌ {A = Refusal} (Err e) (Err refusal.NoMemory) → Writes region at bytes failed old new)
      → (◌≡◌ {A = Refusal} (Err e) (Err refusal.NoMemory) → new ≡ old) → IsSound old → IsSound new
  still_sound e begun no_memory sound = by_refusal (IsSound new) e begun no_memory (λ w. sound_write w sound) (λ same. subst IsSound (sym same) sound)

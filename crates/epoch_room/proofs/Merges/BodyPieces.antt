-- Bytes of a body are written in one region, and in two.
use Rattle.std.proofs.Common.{◌≡◌, ◌≢◌, ℕ, zero, suc, ◌+◌, ◌-◌, ◌*◌, ◌/◌, ◌%◌, ◌<◌, ◌≤◌, ◌||◌, true, false, List, [], ◌∷◌, ◌++◌, length, take, drop, Some, None, Ok, Err, Result, refl, sym, ap, subst, ◌∙◌, inl, inr, arith, append_assoc, length-append, length-take, true≢false, eq-eqb}
use Rattle.std.specs.Prelude.{Option, IfSome, All, Contains, IsErr, IsErrOf, OnOk, min, nat_eq}
use Rattle.std.specs.List.{AllByRecursion, list_any}
use Rattle.std.proofs.lemmas.Bool.{cases_lt, eqb-true, or_right}
use Rattle.std.proofs.lemmas.List.{take_at, drop_at, drop-drop, take-take, take-append-drop}
use Rattle.std.proofs.lemmas.Nat.{div-add-mod', mod-mul-add}
use Rattle.std.proofs.lemmas.List.Elements.{All-contains}
use Rattle.std.proofs.lemmas.Map.Views.{Contains-from_any, list_any-from_Contains}
use Rattle.fine_model.specs.declared.Header.{Header}
use Rattle.fine_model.specs.declared.Mark.{Mark}
use Rattle.fine_model.specs.declared.Mark.TheVariants as mark
use Rattle.fine_model.specs.declared.Part.{Part}
use Rattle.fine_model.specs.ChainLaws.{DiffersBehind}
use Rattle.fine_model.specs.Chain.{regions_of}
use Rattle.fine_model.specs.Regions.{Image, body_in, body_start, place_of, body_len}
use Rattle.fine_model.proofs.Ordered.Nothing.{all_at}
use Rattle.fine_model.proofs.Ordered.Order.{all_map}
use Rattle.log_disk.specs.Disk.{Disk, Told, BothTold, HasGoneOn, IsImageNow, IsSound, IsToldOf, IsUnseen, OpenEye, SameOutside, Writes, clock_of, region_of, span_of, unsynced_too, with_bytes}
use Rattle.log_disk.specs.Moments.{ContinuesOn, LeavesOnly}
use Rattle.log_disk.specs.declared.refusal.DiskRefusal.{DiskRefusal}
use Rattle.log_disk.specs.declared.refusal.DiskRefusal.TheVariants as refusal
use Rattle.log_disk.proofs.Calls.{left_write}
use Rattle.log_disk.proofs.Moments.{leaves_more, leaves_none, leaves_then, leaves_weaker, now_since}
use Rattle.log_disk.proofs.Sound.{sound_write}
use Rattle.log_disk.proofs.Steps.{both_same, both_then, both_weaker}
use Rattle.log_disk.proofs.Times.{continues_none, continues_write}
use Rattle.partition_index.specs.Parts.{LiesIn}
use Rattle.partition_index.specs.Placing.{HasBody, HasRoomFor}
use Rattle.partition_index.proofs.BodyPlaces.{body_long, high_place, low_place, place_more}
use Rattle.partition_index.proofs.Placed.{place_named, placed}
use Rattle.epoch_room.specs.BodyWrites.{HasPlace, KeepsFront, WritesBody, lying_in}
use Rattle.epoch_room.specs.Gate.{DirtiesOnly, IsBehind, LeavesBehind, ReadsBehind}
use Rattle.epoch_room.proofs.RegionSets.Freeing.{nat_alike}
use Rattle.epoch_room.proofs.OpenEpochs.Gates.{behind}
use Rattle.epoch_room.proofs.RegionSets.Touching.{dirties_more, dirties_none, first_is, own_region, touches_then, touches_wider}
use Rattle.epoch_room.proofs.RegionSets.Telling.{both_told}

-- ---- images that differ behind the gates of regions

pub differs_none : (regions : List ℕ) (image : Image) → DiffersBehind regions image image
differs_none regions image = record { as_many = refl; others = λ r h. refl; lengths = λ r. refl; gates = λ r. refl }

pub differs_then : (regions : List ℕ) (a b c : Image) → DiffersBehind regions a b → DiffersBehind regions b c → DiffersBehind regions a c
differs_then regions a b c first second = record {
  as_many = second.as_many ∙ first.as_many;
  others = λ r h. second.others r h ∙ first.others r h;
  lengths = λ r. second.lengths r ∙ first.lengths r;
  gates = λ r. second.gates r ∙ first.gates r;
}

differs_wider : (region : ℕ) (regions : List ℕ) (a b : Image) → list_any (nat_eq region) regions ≡ true → DiffersBehind (region ∷ []) a b → DiffersBehind regions a b
differs_wider region regions a b there differs = record {
  as_many = differs.as_many;
  others = λ r h. differs.others r (other r region h (λ e. true≢false (sym there ∙ ap (λ n. list_any (nat_eq n) regions) (sym e) ∙ h)));
  lengths = differs.lengths;
  gates = differs.gates;
}
  where
    other : (m n : ℕ) → list_any (nat_eq m) regions ≡ false → m ≢ n → (nat_eq m n || false) ≡ false
    other m n h ne = unequal m n ne
      where
        unequal : (m n : ℕ) → m ≢ n → (nat_eq m n || false) ≡ false
        unequal m n ne = grind (arith, ne)

-- ---- what a crash leaves

module _ (regions : List ℕ) where
  still_behind : (a : Told) (image : Image) → IsImageNow a image → IsBehind regions a image
  still_behind a image now = record { was = image; is_was = now; differs = differs_none regions image }

  pub leaves_behind_none : (old new : Disk) → new.told ≡ old.told → LeavesBehind regions old new
  leaves_behind_none old new e = both_same (λ x y. LeavesOnly (IsBehind regions x) x y) (λ a. leaves_none (IsBehind regions a) a (still_behind a)) old.told new.told e

  pub leaves_behind_then : (old mid new : Disk) → LeavesBehind regions old mid → LeavesBehind regions mid new → LeavesBehind regions old new
  leaves_behind_then old mid new first second =
      both_then (λ x y. LeavesOnly (IsBehind regions x) x y) (λ x y. LeavesOnly (IsBehind regions x) x y) (λ x y. LeavesOnly (IsBehind regions x) x y) one old.told mid.told new.told first second
    where
      one : (a b c : Told) → LeavesOnly (IsBehind regions a) a b → LeavesOnly (IsBehind regions b) b c → LeavesOnly (IsBehind regions a) a c
      one a b c f s = leaves_then (IsBehind regions a) a b c f (leaves_weaker (IsBehind regions b) (IsBehind regions a) b c (λ image is.
          let was = f.each is.was (now_since (clock_of a) b is.was f.later is.is_was) in
          record { was = was.was; is_was = was.is_was; differs = differs_then regions was.was is.was image was.differs is.differs }) s)

  leaves_behind_write : {failed : Type 0} (region at : ℕ) (bytes : List ℕ) (old new : Disk) → list_any (nat_eq region) regions ≡ true → 1 ≤ at → Writes region at bytes failed old new → LeavesBehind regions old new
  leaves_behind_write region at bytes old new there low w =
      both_weaker (λ a b. HasGoneOn a b (unsynced_too a.present (span_of region at (length bytes)))) (λ a b. LeavesOnly (IsBehind regions a) a b) one old.told new.told w.time
    where
      one : (a b : Told) → HasGoneOn a b (unsynced_too a.present (span_of region at (length bytes))) → LeavesOnly (IsBehind regions a) a b
      one a b gone = leaves_more (IsBehind regions a) a a b _ (leaves_none (IsBehind regions a) a (still_behind a)) gone (λ image is.
          let torn = left_write (IsImageNow a) region at (length bytes) a b (λ i now. now) gone image is in
          record { was = torn.0; is_was = torn.1; differs = differs_wider region regions torn.0 image there (behind region at (at + length bytes) torn.0 image low torn.2) })

  -- ---- what a read gives

  abbrev Reads : Told → Told → Type 0
  Reads a b = DiffersBehind regions a.bytes b.bytes

  pub reads_none : (old new : Disk) → new.told ≡ old.told → ReadsBehind regions old new
  reads_none old new e = both_same Reads (λ a. differs_none regions a.bytes) old.told new.told e

  pub reads_then : (old mid new : Disk) → ReadsBehind regions old mid → ReadsBehind regions mid new → ReadsBehind regions old new
  reads_then old mid new first second = both_then Reads Reads Reads (λ a b c f g. differs_then regions a.bytes b.bytes c.bytes f g) old.told mid.told new.told first second

  reads_write : {failed : Type 0} (region at : ℕ) (bytes : List ℕ) (old new : Disk) → list_any (nat_eq region) regions ≡ true → 1 ≤ at → Writes region at bytes failed old new → ReadsBehind regions old new
  reads_write region at bytes old new there low w =
      both_weaker (λ a b. SameOutside region at (at + length bytes) a.bytes b.bytes) Reads (λ a b same. differs_wider region regions a.bytes b.bytes there (behind region at (at + length bytes) a.bytes b.bytes low same)) old.told new.told w.outside

-- ---- a piece

start_low : (m : Mark) → 1 ≤ body_start m
start_low mark.One = omega arith
start_low mark.Two = omega arith
start_low mark.Three = omega arith

module _ (p : Part) (at : ℕ) (bytes : List ℕ) (old : Disk) (place : HasPlace old p) (some : 1 ≤ length bytes) (within : at + length bytes ≤ body_len p.header) where
  abbrev at_region : ℕ
  at_region = (place_of old.region_len p.region p.header at).region

  abbrev at_byte : ℕ
  at_byte = (place_of old.region_len p.region p.header at).at

  named : Contains (regions_of p) (place_of old.region_len p.region p.header at).region
  named = place_named old.region_len p at place.lies (omega (arith, some, within))

  low : 1 ≤ (place_of old.region_len p.region p.header at).at
  low = elim (cases_lt at (old.region_len - body_start p.header.mark)) [
    | inl l ↦ subst (λ q. 1 ≤ q.at) (sym (low_place old.region_len p.region p.header at l)) (let s = start_low p.header.mark in omega (arith, s))
    | inr h ↦ subst (λ q. 1 ≤ q.at) (sym (high_place old.region_len p.region p.header at (omega (arith, h)))) (omega arith)
  ]

  room_for : (a : Told) → IsToldOf old a → HasRoomFor old.region_len a.bytes p
  room_for a told = record {
    lies = place.lies;
    apart = place.apart;
    long = all_map (λ r. r < old.regions) (λ r. (r < length a.bytes) × (length (region_of a.bytes r) ≡ old.region_len)) (λ r l. (let m = told.regions in omega (arith, l, m), told.lengths r l)) (regions_of p) place.there;
  }

  written : (fits : (place_of old.region_len p.region p.header at).at + length bytes ≤ old.region_len) {failed : Type 0} (new : Disk) → Writes (place_of old.region_len p.region p.header at).region (place_of old.region_len p.region p.header at).at bytes failed old new
      → (failed → ⊥) → BothTold (λ a b. HasBody p at bytes a.bytes b.bytes) old.told new.told
  written fits new w ok = on' old.told new.told (w.written ok) place.sound.told
    where
      on' : (x y : Option Told)
          → BothTold (λ a b. b.bytes ≡ with_bytes a.bytes (place_of old.region_len p.region p.header at).region (place_of old.region_len p.region p.header at).at bytes) x y → IfSome x (IsToldOf old)
          → BothTold (λ a b. HasBody p at bytes a.bytes b.bytes) x y
      on' None None q h = tt
      on' None (Some b) q h = absurd q
      on' (Some a) None q h = absurd q
      on' (Some a) (Some b) q h = subst (λ i. HasBody p at bytes a.bytes i) (sym q) (placed old.region_len a.bytes p at bytes (room_for a h) within fits)

  pub piece_unseen : IsUnseen old (place_of old.region_len p.region p.header at).region
  piece_unseen = All-contains (IsUnseen old) (regions_of p) _ place.unseen named

  pub piece_begun : (fits : (place_of old.region_len p.region p.header at).at + length bytes ≤ old.region_len) (new : Disk) (result : Result (Unit {0}) DiskRefusal)
      → Writes (place_of old.region_len p.region p.header at).region (place_of old.region_len p.region p.header at).at bytes (IsErrOf result refusal.Failed) old new
      → (IsErrOf result refusal.NoMemory → ⊥) → WritesBody ((place_of old.region_len p.region p.header at).region ∷ []) p at bytes result old new
  piece_begun fits new result w begun = record {
    touches = record {
      beside = w.beside;
      counts = w.counts;
      sound = sound_write w place.sound;
      time = continues_write w;
      dirties = dirties_more (at_region ∷ []) old new at_region (first_is at_region) w.unsynced;
    };
    read = reads_write (at_region ∷ []) at_region at_byte bytes old new (own_region at_region) low w;
    leaves = leaves_behind_write (at_region ∷ []) at_region at_byte bytes old new (own_region at_region) low w;
    done = ok result refl;
    some = λ f. some;
    kept = λ e. absurd (begun e);
  }
    where
      ok : (r : Result (Unit {0}) DiskRefusal) → result ≡ r → OnOk r (BothTold (λ a b. HasBody p at bytes a.bytes b.bytes) old.told new.told)
      ok (Ok u) e = written fits new w (λ f. let h : ◌≡◌ {A = Result (Unit {0}) DiskRefusal} (Ok u) (Err refusal.Failed) = sym e ∙ f in cc)
      ok (Err r) e = tt

-- nothing was written
pub piece_none : (regions : List ℕ) (p : Part) (at : ℕ) (bytes : List ℕ) (old new : Disk) (result : Result (Unit {0}) DiskRefusal) → IsSound old → 1 ≤ length bytes → new ≡ old → IsErrOf result refusal.NoMemory → WritesBody regions p at bytes result old new
piece_none regions p at bytes old new result sound some same none = record {
  touches = record {
    beside = record { regions = ap (λ (d : Disk). d.regions) same; region_len = ap (λ (d : Disk). d.region_len) same; eyes = ap (λ (d : Disk). d.eyes) same; given = ap (λ (d : Disk). d.given) same };
    counts = record {
      faults = λ f. absurd (not_both f);
      own_faults = λ f. absurd (not_both f);
      no_lower = (let e : new.faults ≡ old.faults = ap (λ (d : Disk). d.faults) same in omega (arith, e), let e : new.own_faults ≡ old.own_faults = ap (λ (d : Disk). d.own_faults) same in omega (arith, e));
      else_same = λ f. (ap (λ (d : Disk). d.faults) same, ap (λ (d : Disk). d.own_faults) same);
    };
    sound = subst IsSound (sym same) sound;
    time = subst (ContinuesOn old) (sym same) (continues_none old);
    dirties = dirties_none regions old new (ap (λ (d : Disk). d.unsynced) same);
  };
  read = reads_none regions old new (ap (λ (d : Disk). d.told) same);
  leaves = leaves_behind_none regions old new (ap (λ (d : Disk). d.told) same);
  done = ok result none;
  some = λ f. some;
  kept = λ e. front_none p at old new (ap (λ (d : Disk). d.told) same);
}
  where
    not_both : IsErrOf result refusal.Failed → ⊥
    not_both f = let h : ◌≡◌ {A = Result (Unit {0}) DiskRefusal} (Err refusal.NoMemory) (Err refusal.Failed) = sym none ∙ f in cc

    ok : (r : Result (Unit {0}) DiskRefusal) → IsErrOf r refusal.NoMemory → OnOk r (BothTold (λ a b. HasBody p at bytes a.bytes b.bytes) old.told new.told)
    ok (Ok u) e = absurd (let h : ◌≡◌ {A = Result (Unit {0}) DiskRefusal} (Ok u) (Err refusal.NoMemory) = e in cc)
    ok (Err r) e = tt

    front_none : (p : Part) (at : ℕ) (old new : Disk) → new.told ≡ old.told → KeepsFront p at old new
    front_none p at old new e = both_same (λ a b. take at (body_in b.bytes p.region p.header) ≡ take at (body_in a.bytes p.region p.header)) (λ a. refl) old.told new.told e

as_failed : {F G : Type 0} {region at : ℕ} {bytes : List ℕ} {old new : Disk} → (G → F) → (F → G) → Writes region at bytes F old new → Writes region at bytes G old new
as_failed back forth w = record {
  unsynced = w.unsynced;
  beside = w.beside;
  counts = record {
    faults = λ g. w.counts.faults (back g);
    own_faults = λ g. w.counts.own_faults (back g);
    no_lower = w.counts.no_lower;
    else_same = λ n. w.counts.else_same (λ f. n (forth f));
  };
  time = w.time;
  outside = w.outside;
  written = λ n. w.written (λ f. n (forth f));
}

-- what a write of a piece does, by its answer
pub piece_of : (p : Part) (at : ℕ) (bytes : List ℕ) (old : Disk) (place : HasPlace old p) (some : 1 ≤ length bytes) (within : at + length bytes ≤ body_len p.header)
    (fits : (place_of old.region_len p.region p.header at).at + length bytes ≤ old.region_len) (new : Disk) (result : Result (Unit {0}) DiskRefusal) (region from : ℕ)
    → region ≡ (place_of old.region_len p.region p.header at).region → from ≡ (place_of old.region_len p.region p.header at).at
    → (result ≢ Err refusal.NoMemory → Writes region from bytes (IsErr result) old new) → (IsErrOf result refusal.NoMemory → new ≡ old) → WritesBody ((place_of old.region_len p.region p.header at).region ∷ []) p at bytes result old new
piece_of p at bytes old place some within fits new result region from r f begun none = by result begun none
  where
    at_place : {failed : Type 0} → Writes region from bytes failed old new → Writes (place_of old.region_len p.region p.header at).region (place_of old.region_len p.region p.header at).at bytes failed old new
    at_place {failed} w = subst (λ n. Writes n (place_of old.region_len p.region p.header at).at bytes failed old new) r (subst (λ n. Writes region n bytes failed old new) f w)

    by : (s : Result (Unit {0}) DiskRefusal) → (s ≢ Err refusal.NoMemory → Writes region from bytes (IsErr s) old new) → (IsErrOf s refusal.NoMemory → new ≡ old) → WritesBody ((place_of old.region_len p.region p.header at).region ∷ []) p at bytes s old new
    by (Ok u) b n =
        piece_begun p at bytes old place some within fits new (Ok u)
        (as_failed {F = IsErr {T = Unit {0}} {E = DiskRefusal} (Ok u)} {G = IsErrOf {T = Unit {0}} (Ok u) refusal.Failed} (λ e. absurd (let q : ◌≡◌ {A = Result (Unit {0}) DiskRefusal} (Ok u) (Err refusal.Failed) = e in cc)) (λ e. absurd (true≢false (sym e))) (at_place (b (λ e. cc))))
        (λ e. let q : ◌≡◌ {A = Result (Unit {0}) DiskRefusal} (Ok u) (Err refusal.NoMemory) = e in cc)
    by (Err refusal.Failed) b n =
        piece_begun p at bytes old place some within fits new (Err refusal.Failed) (as_failed {F = IsErr {T = Unit {0}} {E = DiskRefusal} (Err refusal.Failed)} {G = IsErrOf {T = Unit {0}} (Err refusal.Failed) refusal.Failed} (λ e. refl) (λ e. refl) (at_place (b (λ e. cc))))
        (λ e. let q : ◌≡◌ {A = Result (Unit {0}) DiskRefusal} (Err refusal.Failed) (Err refusal.NoMemory) = e in cc)
    by (Err refusal.NoMemory) b n = piece_none ((place_of old.region_len p.region p.header at).region ∷ []) p at bytes old new (Err refusal.NoMemory) place.sound some (n refl) refl

-- ---- no bytes

pub body_none : (regions : List ℕ) (p : Part) (at : ℕ) (bytes : List ℕ) (old : Disk) → IsSound old → length bytes ≡ 0 → WritesBody regions p at bytes (Ok tt) old old
body_none regions p at bytes old sound none = record {
  touches = record {
    beside = record { regions = refl; region_len = refl; eyes = refl; given = refl };
    counts = record { faults = λ f. absurd (bad f); own_faults = λ f. absurd (bad f); no_lower = (omega arith, omega arith); else_same = λ f. (refl, refl) };
    sound = sound;
    time = continues_none old;
    dirties = dirties_none regions old old refl;
  };
  read = reads_none regions old old refl;
  leaves = leaves_behind_none regions old old refl;
  done = both_same (λ a b. HasBody p at bytes a.bytes b.bytes) same old.told old.told refl;
  some = λ f. absurd (true≢false (sym f));
  kept = λ e. absurd (let h : ◌≡◌ {A = Result (Unit {0}) DiskRefusal} (Ok tt) (Err refusal.NoMemory) = e in cc);
}
  where
    bad : IsErrOf {T = Unit {0}} (Ok tt) refusal.Failed → ⊥
    bad f = let h : ◌≡◌ {A = Result (Unit {0}) DiskRefusal} (Ok tt) (Err refusal.Failed) = f in cc

    empty : (xs : List ℕ) → length xs ≡ 0 → xs ≡ []
    empty [] e = refl
    empty (x ∷ xs) e = absurd (omega (arith, e))

    same : (a : Told) → HasBody p at bytes a.bytes a.bytes
    same a = record {
      differs = differs_none (regions_of p) a.bytes;
      body = sym (ap (λ bs. take at (body_in a.bytes p.region p.header) ++ (bs ++ drop (at + length bs) (body_in a.bytes p.region p.header))) (empty bytes none) ∙ plain at (body_in a.bytes p.region p.header));
    }
      where
        plain : (n : ℕ) (xs : List ℕ) → take n xs ++ drop (n + 0) xs ≡ xs
        plain n xs = let e : n + 0 ≡ n = omega arith in ap (λ m. take n xs ++ drop m xs) e ∙ take-append-drop n xs

-- ---- more regions

differs_among : (region : ℕ) (regions : List ℕ) → list_any (nat_eq region) regions ≡ true → (old new : Disk) → ReadsBehind (region ∷ []) old new → ReadsBehind regions old new
differs_among region regions there old new read =
    both_weaker (λ a b. DiffersBehind (region ∷ []) a.bytes b.bytes) (λ a b. DiffersBehind regions a.bytes b.bytes) (λ a b differs. differs_wider region regions a.bytes b.bytes there differs) old.told new.told read

leaves_among : (region : ℕ) (regions : List ℕ) → list_any (nat_eq region) regions ≡ true → (old new : Disk) → LeavesBehind (region ∷ []) old new → LeavesBehind regions old new
leaves_among region regions there old new leaves =
    both_weaker (λ a b. LeavesOnly (IsBehind (region ∷ []) a) a b) (λ a b. LeavesOnly (IsBehind regions a) a b)
    (λ a b run. leaves_weaker (IsBehind (region ∷ []) a) (IsBehind regions a) a b (λ image is. record { was = is.was; is_was = is.is_was; differs = differs_wider region regions is.was image there is.differs }) run) old.told new.told leaves

dirties_among : (region : ℕ) (regions : List ℕ) → list_any (nat_eq region) regions ≡ true → (old new : Disk) → DirtiesOnly (region ∷ []) old new → DirtiesOnly regions old new
dirties_among region regions there old new dirties k d h = elim (dirties k d h) [
  | inl was ↦ inl was
  | inr own ↦ inr (Contains-from_any (λ x y e. eqb-true x y e) _ regions
      (all_at (λ q. list_any (nat_eq q) regions ≡ true) _ (region ∷ []) (there, tt) (list_any-from_Contains nat_alike _ (region ∷ []) own)))
]

-- what was written in one region was written in no other than some among which it is
pub body_among : {result : Result (Unit {0}) DiskRefusal} (region : ℕ) (regions : List ℕ) → list_any (nat_eq region) regions ≡ true → (p : Part) (at : ℕ) (bytes : List ℕ) (old new : Disk)
    → WritesBody (region ∷ []) p at bytes result old new → WritesBody regions p at bytes result old new
body_among region regions there p at bytes old new w = record {
  touches = touches_wider w.touches (dirties_among region regions there old new w.dirties);
  read = differs_among region regions there old new w.read;
  leaves = leaves_among region regions there old new w.leaves;
  done = w.done;
  some = w.some;
  kept = w.kept;
}

-- ---- where bytes of a body lie

pub first_lies : (region_len lead : ℕ) (header : Header) (at n : ℕ) → 1 ≤ n → list_any (nat_eq (place_of region_len lead header at).region) (lying_in region_len lead header at n) ≡ true
first_lies region_len lead header at zero some = absurd (omega (arith, some))
first_lies region_len lead header at (suc n) some = ap (λ b. b || list_any (nat_eq (place_of region_len lead header at).region) ((place_of region_len lead header (at + n)).region ∷ [])) (eq-eqb (place_of region_len lead header at).region (place_of region_len lead header at).region refl)

-- the last bytes, if they do not pass the end of the region in which they begin
pub last_lies : (region_len lead : ℕ) (header : Header) (at k m : ℕ) → 70 < region_len → 1 ≤ m → (place_of region_len lead header (at + k)).at + m ≤ region_len
    → list_any (nat_eq (place_of region_len lead header (at + k)).region) (lying_in region_len lead header at (k + m)) ≡ true
last_lies region_len lead header at k zero large some within = absurd (omega (arith, some))
last_lies region_len lead header at k (suc m) large some within =
    subst (λ n. list_any (nat_eq (place_of region_len lead header (at + k)).region) (lying_in region_len lead header at n) ≡ true) (let e : suc (k + m) ≡ k + suc m = omega arith in e)
    (subst (λ r. list_any (nat_eq r) (lying_in region_len lead header at (suc (k + m))) ≡ true) same (second (place_of region_len lead header at).region (place_of region_len lead header (at + (k + m))).region))
  where
    same : (place_of region_len lead header (at + (k + m))).region ≡ (place_of region_len lead header (at + k)).region
    same = ap (λ n. (place_of region_len lead header n).region) (let e : at + (k + m) ≡ at + k + m = omega arith in e) ∙ ap (λ q. q.region) (place_more region_len lead header (at + k) m large (omega (arith, within)))

    second : (x y : ℕ) → list_any (nat_eq y) (x ∷ y ∷ []) ≡ true
    second x y = or_right (nat_eq y x) (list_any (nat_eq y) (y ∷ [])) (own_region y)

-- what holds of each region of a part's body holds of those in which bytes of it lie
pub all_lying : (P : ℕ → Type 0) (region_len lead : ℕ) (header : Header) (at n : ℕ) → at + n ≤ body_len header → ((k : ℕ) → k < body_len header → P (place_of region_len lead header k).region)
    → AllByRecursion P (lying_in region_len lead header at n)
all_lying P region_len lead header at zero within each = tt
all_lying P region_len lead header at (suc n) within each = (each at (omega (arith, within)), (each (at + n) (omega (arith, within)), tt))

-- ---- two pieces

module _ (regions : List ℕ) (p : Part) (at : ℕ) (front back : List ℕ) (old mid new : Disk) (place : HasPlace old p) (within : at + length (front ++ back) ≤ body_len p.header) where
  long : (a : Told) → IsToldOf old a → at + length (front ++ back) ≤ length (body_in a.bytes p.region p.header)
  long a told =
      let l = body_long old.region_len a.bytes p place.lies (all_map (λ r. r < old.regions) (λ r. length (region_of a.bytes r) ≡ old.region_len) told.lengths (regions_of p) place.there) in
      omega (arith, l, within)

  joined : (x y z : List ℕ) → at + length front ≤ length x → y ≡ take at x ++ (front ++ drop (at + length front) x)
      → z ≡ take (at + length front) y ++ (back ++ drop (at + length front + length back) y) → z ≡ take at x ++ ((front ++ back) ++ drop (at + length (front ++ back)) x)
  joined x y z l e f =
      let first : List ℕ = take at x ++ front in
      let n : at + length front ≡ length first = omega (arith, length-append (take at x) front, length-take at x, l) in
      let split : y ≡ first ++ drop (at + length front) x = e ∙ sym (append_assoc (take at x) front (drop (at + length front) x)) in
      let head : take (at + length front) y ≡ first = ap (take (at + length front)) split ∙ take_at first (drop (at + length front) x) (at + length front) (sym n) in
      let tail : drop (at + length front) y ≡ drop (at + length front) x = ap (drop (at + length front)) split ∙ drop_at first (drop (at + length front) x) (at + length front) (sym n) in
      let last : drop (at + length front + length back) y ≡ drop (at + length (front ++ back)) x =
      sym (beyond y) ∙ ap (drop (length back)) tail ∙ beyond x
      ∙ ap (λ m. drop m x) (let q : at + length front + length back ≡ at + length (front ++ back) = omega (arith, length-append front back) in q) in
      f ∙ ap (λ h. h ++ (back ++ drop (at + length front + length back) y)) head ∙ ap (λ t. first ++ (back ++ t)) last
      ∙ append_assoc (take at x) front (back ++ drop (at + length (front ++ back)) x) ∙ ap (λ t. take at x ++ t) (sym (append_assoc front back (drop (at + length (front ++ back)) x)))
    where
      beyond : (xs : List ℕ) → drop (length back) (drop (at + length front) xs) ≡ drop (at + length front + length back) xs
      beyond xs = drop-drop (length back) (at + length front) xs

  pub still_place : {result : Result (Unit {0}) DiskRefusal} → WritesBody regions p at front result old mid → HasPlace mid p
  still_place first = record {
    sound = first.sound;
    lies = subst (λ n. LiesIn n p.header) (sym first.beside.region_len) place.lies;
    apart = place.apart;
    there = subst (λ n. AllByRecursion (λ r. r < n) (regions_of p)) (sym first.beside.regions) place.there;
    unseen = subst (λ (eyes : List OpenEye). All (λ r. All (λ eye. Contains eye.regions r → ⊥) eyes) (regions_of p)) (sym first.beside.eyes) place.unseen;
  }

  pub pieces : (result : Result (Unit {0}) DiskRefusal) {u : Unit {0}} → WritesBody regions p at front (Ok u) old mid → WritesBody regions p (at + length front) back result mid new → WritesBody regions p at (front ++ back) result old new
  pieces result {u} first second = record {
    touches = touches_then first.touches second.touches (λ f. let h : ◌≡◌ {A = Result (Unit {0}) DiskRefusal} (Ok u) (Err refusal.Failed) = f in cc);
    read = reads_then regions old mid new first.read second.read;
    leaves = leaves_behind_then regions old mid new first.leaves second.leaves;
    done = ok result second.done;
    some = λ f. (let l = second.some f in omega (arith, l, length-append front back));
    kept = λ e. both_then (λ a b. IsToldOf old a × HasBody p at front a.bytes b.bytes) (λ a b. take (at + length front) (body_in b.bytes p.region p.header) ≡ take (at + length front) (body_in a.bytes p.region p.header)) (λ a b. take at (body_in b.bytes p.region p.header) ≡ take at (body_in a.bytes p.region p.header)) front_kept old.told mid.told new.told first_told (second.kept e);
  }
    where
      first_told : BothTold (λ a b. IsToldOf old a × HasBody p at front a.bytes b.bytes) old.told mid.told
      first_told = both_told (IsToldOf old) (λ a b. HasBody p at front a.bytes b.bytes) old.told mid.told first.done place.sound.told

      both : (a b c : Told) → IsToldOf old a × HasBody p at front a.bytes b.bytes → HasBody p (at + length front) back b.bytes c.bytes → HasBody p at (front ++ back) a.bytes c.bytes
      both a b c q r =
          let l = long a q.0 in
          record {
            differs = differs_then (regions_of p) a.bytes b.bytes c.bytes q.1.differs r.differs;
            body = joined (body_in a.bytes p.region p.header) (body_in b.bytes p.region p.header) (body_in c.bytes p.region p.header) (omega (arith, l, length-append front back)) q.1.body r.body;
          }

      ok : (s : Result (Unit {0}) DiskRefusal) → OnOk s (BothTold (λ a b. HasBody p (at + length front) back a.bytes b.bytes) mid.told new.told) → OnOk s (BothTold (λ a b. HasBody p at (front ++ back) a.bytes b.bytes) old.told new.told)
      ok (Ok v) done = both_then (λ a b. IsToldOf old a × HasBody p at front a.bytes b.bytes) (λ b c. HasBody p (at + length front) back b.bytes c.bytes) (λ a c. HasBody p at (front ++ back) a.bytes c.bytes) both old.told mid.told new.told first_told done
      ok (Err r) done = tt

      front_kept : (a b c : Told) → IsToldOf old a × HasBody p at front a.bytes b.bytes → take (at + length front) (body_in c.bytes p.region p.header) ≡ take (at + length front) (body_in b.bytes p.region p.header)
          → take at (body_in c.bytes p.region p.header) ≡ take at (body_in a.bytes p.region p.header)
      front_kept a b c q r =
          let l = long a q.0 in
          let x : List ℕ = body_in a.bytes p.region p.header in
          let y : List ℕ = body_in b.bytes p.region p.header in
          let z : List ℕ = body_in c.bytes p.region p.header in
          let n : at ≡ length (take at x) = omega (arith, length-take at x, l) in
          let front_of : (zs : List ℕ) → take at (take (at + length front) zs) ≡ take at zs = λ zs. take-take at (at + length front) zs (omega arith) in
          sym (front_of z) ∙ ap (take at) r ∙ front_of y ∙ ap (take at) q.1.body ∙ take_at (take at x) (front ++ drop (at + length front) x) at (sym n)

-- ---- where the second piece begins

pub next_row : (region_len : ℕ) (lead : ℕ) (header : Header) (at n : ℕ) → 70 < region_len → (place_of region_len lead header at).at + n ≡ region_len → (place_of region_len lead header (at + n)).at ≡ 1
next_row region_len lead header at n large end = elim (cases_lt at (region_len - body_start header.mark)) [
  | inl l ↦
      let e : body_start header.mark + at + n ≡ region_len = ap (λ q. q.at + n) (sym (low_place region_len lead header at l)) ∙ end in
      let z : at + n - (region_len - body_start header.mark) ≡ 0 = omega (arith, e, l) in
      ap (λ q. q.at) (high_place region_len lead header (at + n) (omega (arith, e, l))) ∙ ap (λ m. 1 + m % (region_len - 1)) z ∙ none (region_len - 1) (omega (arith, large))
  | inr h ↦
      let b : ℕ = at - (region_len - body_start header.mark) in
      let w : ℕ = region_len - 1 in
      let e : 1 + b % w + n ≡ region_len = ap (λ q. q.at + n) (sym (high_place region_len lead header at (omega (arith, h)))) ∙ end in
      let k : at + n - (region_len - body_start header.mark) ≡ b + n = omega (arith, h) in
      let r : b + n ≡ (b / w + 1) * w + 0 = rows b w n (omega (arith, e, large)) in
      ap (λ q. q.at) (high_place region_len lead header (at + n) (omega (arith, h))) ∙ ap (λ m. 1 + m % w) (k ∙ r) ∙ ap (λ m. 1 + m) (mod-mul-add (b / w + 1) w 0 (omega (arith, large)))
]
  where
    none : (w : ℕ) → 1 ≤ w → 1 + 0 % w ≡ 1
    none w some = ap (λ k. 1 + k % w) (nothing w) ∙ ap (λ m. 1 + m) (mod-mul-add 0 w 0 (omega (arith, some)))
      where
        nothing : (w : ℕ) → 0 ≡ 0 * w + 0
        nothing w = grind arith

    rows : (b w n : ℕ) → b % w + n ≡ w → b + n ≡ (b / w + 1) * w + 0
    rows b w n e = omega (arith, e, div-add-mod' b w, step (b / w) w)
      where
        step : (q w : ℕ) → (q + 1) * w ≡ q * w + w
        step q w = grind arith

-- ---- the call's exits

pub refused_body : (regions : List ℕ) (p : Part) (at : ℕ) (xs ys : List ℕ) (e : DiskRefusal) (old new : Disk) → length xs ≤ length ys → WritesBody regions p at xs (Err e) old new → WritesBody regions p at ys (Err e) old new
refused_body regions p at xs ys e old new few w = record {
  touches = w.touches;
  read = w.read;
  leaves = w.leaves;
  done = tt;
  some = λ f. (let l = w.some f in omega (arith, l, few));
  kept = w.kept;
}

-- the second piece begins a region, and fits it
pub fits_second : (region_len lead : ℕ) (header : Header) (at n room : ℕ) (front back : List ℕ) → 70 < region_len → (place_of region_len lead header at).at < region_len → room ≡ region_len - (place_of region_len lead header at).at
    → length front ≡ min room n → length front + length back ≡ n → 1 ≤ length back → n < region_len → (place_of region_len lead header (at + length front)).at + length back ≤ region_len
fits_second region_len lead header at n room front back large low is long both some few =
    let e = next_row region_len lead header at (length front) large (omega (arith, low, is, long, both, some)) in
    omega (arith, e, both, few, front_some)
  where
    front_some : 1 ≤ length front
    front_some = omega (arith, low, is, long, both, some)

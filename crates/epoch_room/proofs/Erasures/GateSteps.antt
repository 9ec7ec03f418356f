-- What closing gates leaves, step by step.
use Rattle.std.proofs.Common.{◌≡◌, ◌≢◌, ℕ, zero, suc, ◌+◌, ◌<◌, ◌≤◌, false, ◌||◌, List, [], ◌∷◌, ◌++◌, length, take, drop, get_or, Ok, Err, Result, refl, sym, ap, subst, ◌∙◌, inl, inr, arith}
use Rattle.std.specs.Prelude.{Option, IsErrOf, nat_eq}
use Rattle.std.specs.List.{AllByRecursion, list_any}
use Rattle.std.proofs.lemmas.Bool.{cases_eq, or_parts}
use Rattle.std.proofs.lemmas.List.{append-nil, append_assoc, get_or-set_other, take_more}
use Rattle.std.proofs.lemmas.Option.{unwrap_or-slice_get}
use Rattle.fine_model.proofs.Ordered.Order.{all_map}
use Rattle.fine_model.proofs.Ordered.Sets.{all_append}
use Rattle.std.proofs.lemmas.List.Folds.{list_any-append}
use Rattle.log_disk.specs.Disk.{Image, Told, Disk, region_of, BothTold, CountsOwn, HasRisen, SameOutside, HasGoneOn, HasSynced, IsToldOf, IsSound, OnlyFails, SameBeside, Syncs, Writes, clock_of, with_bytes, unsynced_too, span_of}
use Rattle.log_disk.specs.Moments.{LeavesOnly, IsLeft}
use Rattle.log_disk.proofs.Moments.{leaves_more, leaves_none, leaves_weaker, now_since}
use Rattle.log_disk.proofs.Calls.{left_write, left_sync}
use Rattle.log_disk.proofs.Sound.{sound_failure, sound_sync, sound_write}
use Rattle.log_disk.proofs.Steps.{both_same, both_weaker, both_then}
use Rattle.log_disk.proofs.Writes.{region_of-set_same}
use Rattle.log_disk.proofs.Times.{continues_none, continues_sync, continues_then, continues_told, continues_write}
use Rattle.log_disk.specs.declared.refusal.DiskRefusal.{DiskRefusal}
use Rattle.log_disk.specs.declared.refusal.DiskRefusal.TheVariants as refusal
use Rattle.epoch_room.specs.Closing.{BeginsGates, ClosesGates, WritesGates, DiffersAtGates, IsAtGates, LeavesClosing, ReadsButGates, ReadsClosed, TouchesGates, closed_gate}
use Rattle.epoch_room.proofs.RegionSets.Telling.{both_told}

-- ---- images

pub differs_none : (regions : List ℕ) (image : Image) → DiffersAtGates regions image image
differs_none regions image = record { as_many = refl; others = λ r h. refl; lengths = λ r. refl; behind = λ r. refl }

-- the gate of one region more
pub differs_more : (regions : List ℕ) (region : ℕ) (a b c : Image) → DiffersAtGates regions a b → SameOutside region 0 1 b c → DiffersAtGates (regions ++ region ∷ []) a c
differs_more regions region a b c d same = record {
  as_many = same.regions ∙ d.as_many;
  others = λ r h.
      let both = or_parts (list_any (nat_eq r) regions) (list_any (nat_eq r) (region ∷ [])) (sym (list_any-append (nat_eq r) regions (region ∷ [])) ∙ h) in
      same.others r (apart r region both.1) ∙ d.others r both.0;
  lengths = λ r. same.lengths r ∙ d.lengths r;
  behind = λ r. elim (cases_eq r region) as (λ _. drop 1 (region_of c r) ≡ drop 1 (region_of a r)) [
    | inl here ↦ subst (λ n. drop 1 (region_of c n) ≡ drop 1 (region_of b n)) (sym here) same.after ∙ d.behind r
    | inr there ↦ ap (drop 1) (same.others r there) ∙ d.behind r
  ];
}
  where
    apart : (m n : ℕ) → (nat_eq m n || false) ≡ false → m ≢ n
    apart m n h = grind (arith, h)

-- what may differ at some gates may differ at more
differs_wider : (regions more : List ℕ) (a b : Image) → DiffersAtGates regions a b → DiffersAtGates (regions ++ more) a b
differs_wider regions more a b d = record {
  as_many = d.as_many;
  others = λ r h. d.others r (or_parts (list_any (nat_eq r) regions) (list_any (nat_eq r) more) (sym (list_any-append (nat_eq r) regions more) ∙ h)).0;
  lengths = d.lengths;
  behind = d.behind;
}

wider_image : (regions more : List ℕ) (a : Told) (image : Image) → IsAtGates regions a image → IsAtGates (regions ++ more) a image
wider_image regions more a image at = record { was = at.was; is_was = at.is_was; differs = differs_wider regions more at.was image at.differs }

pub reads_none : (regions : List ℕ) (disk : Disk) → ReadsButGates regions disk disk
reads_none regions disk = both_same (λ a b. DiffersAtGates regions a.bytes b.bytes) (λ a. differs_none regions a.bytes) disk.told disk.told refl

pub reads_wider : (regions more : List ℕ) (old new : Disk) → ReadsButGates regions old new → ReadsButGates (regions ++ more) old new
reads_wider regions more old new read =
    both_weaker (λ a b. DiffersAtGates regions a.bytes b.bytes) (λ a b. DiffersAtGates (regions ++ more) a.bytes b.bytes) (λ a b d. differs_wider regions more a.bytes b.bytes d) old.told new.told read

pub beside_none : (disk : Disk) → SameBeside disk disk
beside_none disk = record { regions = refl; region_len = refl; eyes = refl; given = refl }

-- ---- one call more

told_none : (regions : List ℕ) (a : Told) → LeavesOnly (IsAtGates regions a) a a
told_none regions a = leaves_none (IsAtGates regions a) a (λ image now. record { was = image; is_was = now; differs = differs_none regions image })

pub closing_none : (regions : List ℕ) (disk : Disk) → LeavesClosing regions disk disk
closing_none regions disk = both_same (λ a b. LeavesOnly (IsAtGates regions a) a b) (λ a. told_none regions a) disk.told disk.told refl

pub closing_wider : (regions more : List ℕ) (old new : Disk) → LeavesClosing regions old new → LeavesClosing (regions ++ more) old new
closing_wider regions more old new leaves =
    both_weaker (λ a b. LeavesOnly (IsAtGates regions a) a b) (λ a b. LeavesOnly (IsAtGates (regions ++ more) a) a b) (λ a b run. leaves_weaker (IsAtGates regions a) (IsAtGates (regions ++ more) a) a b (λ image at. wider_image regions more a image at) run)
    old.told new.told leaves

told_written : (regions : List ℕ) (region : ℕ) (a m b : Told) → LeavesOnly (IsAtGates regions a) a m → HasGoneOn m b (unsynced_too m.present (span_of region 0 1)) → LeavesOnly (IsAtGates (regions ++ region ∷ []) a) a b
told_written regions region a m b run gone =
    leaves_more (IsAtGates (regions ++ region ∷ []) a) a m b _ (leaves_weaker (IsAtGates regions a) (IsAtGates (regions ++ region ∷ []) a) a m (λ image at. wider_image regions (region ∷ []) a image at) run) gone now
  where
    earlier : IsLeft (IsAtGates regions a) m
    earlier image now = run.each image (now_since (clock_of a) m image run.later now)

    now : IsLeft (IsAtGates (regions ++ region ∷ []) a) b
    now image is =
        let torn = left_write (IsAtGates regions a) region 0 1 m b earlier gone image is in
        let at = torn.1 in
        record { was = at.was; is_was = at.is_was; differs = differs_more regions region at.was torn.0 image at.differs torn.2 }

told_synced : (regions : List ℕ) (disk : Disk) (a m b : Told) → LeavesOnly (IsAtGates regions a) a m → IsToldOf disk m → HasSynced disk m b → LeavesOnly (IsAtGates regions a) a b
told_synced regions disk a m b run told (inl nothing) = subst (λ (t : Told). LeavesOnly (IsAtGates regions a) a t) (sym nothing.1) run
told_synced regions disk a m b run told (inr some) =
    leaves_more (IsAtGates regions a) a m b _ run some.2 (λ image is.
    let bytes : image ≡ m.bytes = left_sync disk m b told (inr some) image is ∙ some.1 in
    subst (IsAtGates regions a) (sym bytes) (run.each m.bytes (now_since (clock_of a) m m.bytes run.later told.image)))

-- ---- gates that were touched

pub touches_none : (disk : Disk) → IsSound disk → TouchesGates [] disk disk
touches_none disk sound = record {
  beside = beside_none disk;
  sound = sound;
  time = continues_none disk;
  read = reads_none [] disk;
  leaves = closing_none [] disk;
}

same_then : (old mid new : Disk) → SameBeside old mid → SameBeside mid new → SameBeside old new
same_then old mid new a b = record { regions = b.regions ∙ a.regions; region_len = b.region_len ∙ a.region_len; eyes = b.eyes ∙ a.eyes; given = b.given ∙ a.given }

module _ (regions : List ℕ) (old mid new : Disk) (run : TouchesGates regions old mid) where
  pub touches_more : {failed : Type 0} (region : ℕ) → Writes region 0 closed_gate failed mid new → TouchesGates (regions ++ region ∷ []) old new
  touches_more {failed} region w = record {
    beside = same_then old mid new run.beside w.beside;
    sound = sound_write w run.sound;
    time = continues_then old mid new run.time (continues_write w);
    read = both_then (λ a b. DiffersAtGates regions a.bytes b.bytes) (λ a b. SameOutside region 0 1 a.bytes b.bytes) (λ a b. DiffersAtGates (regions ++ region ∷ []) a.bytes b.bytes) (λ a b c d same. differs_more regions region a.bytes b.bytes c.bytes d same)
        old.told mid.told new.told run.read w.outside;
    leaves = both_then (λ a b. LeavesOnly (IsAtGates regions a) a b) (λ a b. HasGoneOn a b (unsynced_too a.present (span_of region 0 1))) (λ a b. LeavesOnly (IsAtGates (regions ++ region ∷ []) a) a b) (λ a b c d gone. told_written regions region a b c d gone)
        old.told mid.told new.told run.leaves w.time;
  }

  synced_read : (a b : Told) → HasSynced mid a b → b.bytes ≡ a.bytes
  synced_read a b (inl nothing) = ap (λ (t : Told). t.bytes) nothing.1
  synced_read a b (inr some) = some.1

  pub touches_synced : Syncs mid new → TouchesGates regions old new
  touches_synced s = record {
    beside = same_then old mid new run.beside s.beside;
    sound = sound_sync s run.sound;
    time = continues_then old mid new run.time (continues_sync s);
    read = both_then (λ a b. DiffersAtGates regions a.bytes b.bytes) (HasSynced mid) (λ a b. DiffersAtGates regions a.bytes b.bytes) (λ a b c d h. subst (DiffersAtGates regions a.bytes) (sym (synced_read b c h)) d)
        old.told mid.told new.told run.read s.time;
    leaves = both_then (λ a b. LeavesOnly (IsAtGates regions a) a b) (λ a b. IsToldOf mid a × HasSynced mid a b) (λ a b. LeavesOnly (IsAtGates regions a) a b) (λ a b c p q. told_synced regions mid a b c p q.0 q.1) old.told mid.told new.told
        run.leaves (both_told (IsToldOf mid) (HasSynced mid) mid.told new.told s.time run.sound.told);
  }

  pub closed_synced : ReadsClosed regions old mid → Syncs mid new → ReadsClosed regions old new
  closed_synced closed s =
      both_then (λ a b. AllByRecursion (λ r. take 1 (region_of b.bytes r) ≡ closed_gate) regions) (HasSynced mid) (λ a b. AllByRecursion (λ r. take 1 (region_of b.bytes r) ≡ closed_gate) regions)
      (λ a b c all h. subst (λ (i : Image). AllByRecursion (λ r. take 1 (region_of i r) ≡ closed_gate) regions) (sym (synced_read b c h)) all) old.told mid.told new.told closed s.time

  pub touches_failed : OnlyFails mid new → TouchesGates regions old new
  touches_failed f = record {
    beside = same_then old mid new run.beside f.beside;
    sound = sound_failure f run.sound;
    time = continues_then old mid new run.time (continues_told mid new f.told);
    read = subst (λ (t : Option Told). BothTold (λ a b. DiffersAtGates regions a.bytes b.bytes) old.told t) (sym f.told) run.read;
    leaves = subst (λ (t : Option Told). BothTold (λ a b. LeavesOnly (IsAtGates regions a) a b) old.told t) (sym f.told) run.leaves;
  }

-- ---- gates that are closed

pub closed_none : (disk : Disk) → ReadsClosed [] disk disk
closed_none disk = both_same (λ a b. AllByRecursion (λ r. take 1 (region_of b.bytes r) ≡ closed_gate) []) (λ a. tt) disk.told disk.told refl

module _ (region : ℕ) (image : Image) (there : region < length image) where
  abbrev written : Image
  written = with_bytes image region 0 closed_gate

  own_closed : take 1 (region_of written region) ≡ closed_gate
  own_closed = ap (take 1) (region_of-set_same image region (take 0 (region_of image region) ++ closed_gate ++ drop 1 (region_of image region)) there)

  still_closed : (r : ℕ) → take 1 (region_of image r) ≡ closed_gate → take 1 (region_of written r) ≡ closed_gate
  still_closed r h = elim (cases_eq r region) as (λ _. take 1 (region_of written r) ≡ closed_gate) [
    | inl here ↦ subst (λ n. take 1 (region_of written n) ≡ closed_gate) (sym here) own_closed
    | inr other ↦
        ap (take 1)
        (unwrap_or-slice_get written r [] ∙ get_or-set_other image region r (take 0 (region_of image region) ++ closed_gate ++ drop 1 (region_of image region)) [] other ∙ sym (unwrap_or-slice_get image r []))
        ∙ h
  ]

pub closed_more : (regions : List ℕ) (region : ℕ) (old mid new : Disk) → IsSound mid → region < mid.regions → ReadsClosed regions old mid → BothTold (λ a b. b.bytes ≡ with_bytes a.bytes region 0 closed_gate) mid.told new.told → ReadsClosed (regions ++ region ∷ []) old new
closed_more regions region old mid new sound there closed written' =
    both_then (λ a b. AllByRecursion (λ r. take 1 (region_of b.bytes r) ≡ closed_gate) regions) (λ a b. IsToldOf mid a × (b.bytes ≡ with_bytes a.bytes region 0 closed_gate)) (λ a b. AllByRecursion (λ r. take 1 (region_of b.bytes r) ≡ closed_gate) (regions ++ region ∷ [])) one
    old.told mid.told new.told closed (both_told (IsToldOf mid) (λ a b. b.bytes ≡ with_bytes a.bytes region 0 closed_gate) mid.told new.told written' sound.told)
  where
    one : (a b c : Told) → AllByRecursion (λ r. take 1 (region_of b.bytes r) ≡ closed_gate) regions → IsToldOf mid b × (c.bytes ≡ with_bytes b.bytes region 0 closed_gate) → AllByRecursion (λ r. take 1 (region_of c.bytes r) ≡ closed_gate) (regions ++ region ∷ [])
    one a b c p q =
        let told = q.0 in
        let low : region < length b.bytes = omega (arith, there, told.regions) in
        subst (λ (i : Image). AllByRecursion (λ r. take 1 (region_of i r) ≡ closed_gate) (regions ++ region ∷ [])) (sym q.1)
        (all_append (λ r. take 1 (region_of (with_bytes b.bytes region 0 closed_gate) r) ≡ closed_gate) regions (region ∷ [])
        (all_map (λ r. take 1 (region_of b.bytes r) ≡ closed_gate) (λ r. take 1 (region_of (with_bytes b.bytes region 0 closed_gate) r) ≡ closed_gate) (λ r h. still_closed region b.bytes low r h) regions p)
        (own_closed region b.bytes low, tt))

-- ---- the first gates of a list

pub record Begun (leads : List ℕ) (k : ℕ) (old new : Disk) : Type 0 where
  pub touches : TouchesGates (take k leads) old new
  pub counts : (new.faults ≡ old.faults) × (new.own_faults ≡ old.own_faults)
  pub closed : ReadsClosed (take k leads) old new
  pub none : k ≡ 0 → new ≡ old
  pub unsynced : new.unsynced ≡ old.unsynced ++ take k leads

pub begun_none : (leads : List ℕ) (disk : Disk) → IsSound disk → Begun leads 0 disk disk
begun_none leads disk sound = record { touches = touches_none disk sound; counts = (refl, refl); closed = closed_none disk; none = λ h. refl; unsynced = sym (append-nil disk.unsynced) }

abbrev Refusal : Type 0
Refusal = Result (Unit {0}) DiskRefusal

module _ (leads : List ℕ) (k : ℕ) (old mid new : Disk) (so_far : Begun leads k old mid) where
  module _ (low : k < length leads) {failed : Type 0} (w : Writes (get_or leads k 0) 0 closed_gate failed mid new) where
    next_touches : TouchesGates (take (k + 1) leads) old new
    next_touches = subst (λ rs. TouchesGates rs old new) (sym (take_more leads k 0 low)) (touches_more (take k leads) old mid new so_far.touches (get_or leads k 0) w)

    next_unsynced : new.unsynced ≡ old.unsynced ++ take (k + 1) leads
    next_unsynced = w.unsynced ∙ ap (λ rs. rs ++ get_or leads k 0 ∷ []) so_far.unsynced ∙ append_assoc old.unsynced (take k leads) (get_or leads k 0 ∷ []) ∙ ap (λ rs. old.unsynced ++ rs) (sym (take_more leads k 0 low))

    pub begun_more : (failed → ⊥) → get_or leads k 0 < mid.regions → Begun leads (k + 1) old new
    begun_more fine there = record {
      touches = next_touches;
      counts = ((w.counts.else_same fine).0 ∙ so_far.counts.0, (w.counts.else_same fine).1 ∙ so_far.counts.1);
      closed = subst (λ rs. ReadsClosed rs old new) (sym (take_more leads k 0 low)) (closed_more (take k leads) (get_or leads k 0) old mid new so_far.touches.sound there so_far.closed (w.written fine));
      none = λ h. absurd (omega (arith, h));
      unsynced = next_unsynced;
    }

    pub begun_failed : failed → WritesGates leads (k + 1) (Err refusal.Failed) old new
    begun_failed f = record {
      unsynced = next_unsynced;
      gates = record {
        few = omega (arith, low);
        touches = next_touches;
        counts = record {
          faults = λ h. subst (λ n. HasRisen n new.faults) so_far.counts.0 (w.counts.faults f);
          own_faults = λ h. subst (λ n. HasRisen n new.own_faults) so_far.counts.1 (w.counts.own_faults f);
          no_lower = (let l = w.counts.no_lower.0 in let e = so_far.counts.0 in omega (arith, l, e), let l = w.counts.no_lower.1 in let e = so_far.counts.1 in omega (arith, l, e));
          else_same = λ n. absurd (n refl);
        };
        all = tt;
        some = λ h. omega arith;
        more = λ h. absurd (let e : ◌≡◌ {A = Refusal} (Err refusal.Failed) (Err refusal.NoMemory) = h in cc);
        closed = λ n. absurd (n refl);
        none = λ h. absurd (omega (arith, h));
      };
    }

  still_counts : (result : Refusal) → (IsErrOf result refusal.Failed → ⊥) → CountsOwn (IsErrOf result refusal.Failed) old mid
  still_counts result fine = record {
    faults = λ f. absurd (fine f);
    own_faults = λ f. absurd (fine f);
    no_lower = (let e = so_far.counts.0 in omega (arith, e), let e = so_far.counts.1 in omega (arith, e));
    else_same = λ n. so_far.counts;
  }

  pub begun_memory : k < length leads → new ≡ mid → WritesGates leads k (Err refusal.NoMemory) old new
  begun_memory low same = subst (λ (d : Disk). WritesGates leads k (Err refusal.NoMemory) old d) (sym same) (record {
    unsynced = so_far.unsynced;
    gates = record {
      few = omega (arith, low);
      touches = so_far.touches;
      counts = still_counts (Err refusal.NoMemory) (λ h. let e : ◌≡◌ {A = Refusal} (Err refusal.NoMemory) (Err refusal.Failed) = h in cc);
      all = tt;
      some = λ h. absurd (let e : ◌≡◌ {A = Refusal} (Err refusal.NoMemory) (Err refusal.Failed) = h in cc);
      more = λ h. low;
      closed = λ n. so_far.closed;
      none = so_far.none;
    };
  })

pub begun_all : (leads : List ℕ) (k : ℕ) (old new : Disk) → Begun leads k old new → k ≡ length leads → WritesGates leads (length leads) (Ok tt) old new
begun_all leads k old new so_far is = subst (λ n. WritesGates leads n (Ok tt) old new) is (record {
  unsynced = so_far.unsynced;
  gates = record {
    few = omega (arith, is);
    touches = so_far.touches;
    counts = still_counts leads k old new new so_far (Ok tt) (λ h. let e : ◌≡◌ {A = Refusal} (Ok tt) (Err refusal.Failed) = h in cc);
    all = is;
    some = λ h. absurd (let e : ◌≡◌ {A = Refusal} (Ok tt) (Err refusal.Failed) = h in cc);
    more = λ h. absurd (let e : ◌≡◌ {A = Refusal} (Ok tt) (Err refusal.NoMemory) = h in cc);
    closed = λ n. so_far.closed;
    none = so_far.none;
  };
})

-- what holds of each number of a list holds of that at a place
pub all_there : (P : ℕ → Type 0) (xs : List ℕ) (k : ℕ) → k < length xs → AllByRecursion P xs → P (get_or xs k 0)
all_there P [] k low all = absurd (omega (arith, low))
all_there P (x ∷ xs) zero low all = all.0
all_there P (x ∷ xs) (suc k) low all = all_there P xs k (omega (arith, low)) all.1

-- a failure is no want of memory
pub failed_other : (r : DiskRefusal) → r ≡ refusal.Failed → ◌≡◌ {A = Refusal} (Err r) (Err refusal.NoMemory) → ⊥
failed_other r f e = let h : ◌≡◌ {A = Refusal} (Err refusal.Failed) (Err refusal.NoMemory) = ap (λ (x : DiskRefusal). Err x) (sym f) ∙ e in cc

-- ---- the sync behind them

module _ (leads : List ℕ) (k : ℕ) (result : Refusal) (old mid new : Disk) (writes : WritesGates leads k result old mid) (some : k ≡ 0 → ⊥) where
  abbrev gates : BeginsGates leads k result old mid
  gates = writes.gates

  pub closes_ok : Syncs mid new → (IsErrOf result refusal.Failed → ⊥) → ClosesGates leads k result old new
  closes_ok s fine = record {
    gates = record {
      few = gates.few;
      touches = touches_synced (take k leads) old mid new gates.touches s;
      counts = record {
        faults = λ f. absurd (fine f);
        own_faults = λ f. absurd (fine f);
        no_lower = (let e = gates.counts.no_lower.0 in let f = s.counts.0 in omega (arith, e, f), let e = gates.counts.no_lower.1 in let f = s.counts.1 in omega (arith, e, f));
        else_same = λ n. (s.counts.0 ∙ (gates.counts.else_same n).0, s.counts.1 ∙ (gates.counts.else_same n).1);
      };
      all = gates.all;
      some = gates.some;
      more = gates.more;
      closed = λ n. closed_synced (take k leads) old mid new gates.touches (gates.closed n) s;
      none = λ h. absurd (some h);
    };
    synced = λ n h. s.unsynced;
    unsynced = λ f. absurd (fine f);
  }

  risen_later : (a b c : ℕ) → a ≤ b → HasRisen b c → HasRisen a c
  risen_later a b c low r = grind (arith, low, r)

  pub closes_failed : OnlyFails mid new → ClosesGates leads k (Err refusal.Failed) old new
  closes_failed f = record {
    gates = record {
      few = gates.few;
      touches = touches_failed (take k leads) old mid new gates.touches f;
      counts = record {
        faults = λ h. risen_later old.faults mid.faults new.faults gates.counts.no_lower.0 (f.counts.faults tt);
        own_faults = λ h. risen_later old.own_faults mid.own_faults new.own_faults gates.counts.no_lower.1 (f.counts.own_faults tt);
        no_lower = (let e = gates.counts.no_lower.0 in let g = f.counts.no_lower.0 in omega (arith, e, g), let e = gates.counts.no_lower.1 in let g = f.counts.no_lower.1 in omega (arith, e, g));
        else_same = λ n. absurd (n refl);
      };
      all = tt;
      some = λ h. above k some;
      more = λ h. absurd (let e : ◌≡◌ {A = Refusal} (Err refusal.Failed) (Err refusal.NoMemory) = h in cc);
      closed = λ n. absurd (n refl);
      none = λ h. absurd (some h);
    };
    synced = λ n h. absurd (n refl);
    unsynced = λ h. f.unsynced ∙ writes.unsynced;
  }
    where
      above : (n : ℕ) → (n ≡ 0 → ⊥) → 1 ≤ n
      above zero none = absurd (none refl)
      above (suc n) none = omega arith

-- What calls of a disk touch: which regions become unsynced, and where a read gives the same.
use Rattle.std.proofs.Common.{◌≡◌, ◌≢◌, ◌⊎◌, ℕ, zero, suc, ◌+◌, true, false, Result, Err, List, [], ◌∷◌, ◌++◌, length, refl, sym, ap, subst, ◌∙◌, inl, inr, arith, true≢false, eq-eqb}
use Rattle.std.specs.Prelude.{nat_eq, All, Contains, ◌||◌}
use Rattle.std.specs.List.{list_any}
use Rattle.std.proofs.lemmas.List.Elements.{All-append, All-contains, All-contains_itself, Contains-append_right}
use Rattle.log_disk.specs.Disk.{Disk, HasRisen, HasSynced, SameOutside, Syncs, Told, Writes, region_of}
use Rattle.log_disk.proofs.Steps.{both_same, both_weaker, both_then}
use Rattle.log_disk.specs.Moments.{ContinuesOn}
use Rattle.log_disk.specs.declared.refusal.DiskRefusal.{DiskRefusal}
use Rattle.log_disk.specs.declared.refusal.DiskRefusal.TheVariants as refusal
use Rattle.log_disk.proofs.Times.{continues_then, continues_told, continues_write}
use Rattle.epoch_room.specs.Gate.{DirtiesOnly, KeepsBeside, TouchesOnly}
use Rattle.epoch_room.proofs.OpenEpochs.Gates.{by_refusal}

-- ---- what a read gives

abbrev AreAlike : List ℕ → Told → Told → Type 0
AreAlike regions a b = (r : ℕ) → list_any (nat_eq r) regions ≡ false → region_of b.bytes r ≡ region_of a.bytes r

pub beside_told : (regions : List ℕ) (old new : Disk) → new.told ≡ old.told → KeepsBeside regions old new
beside_told regions old new e = both_same (AreAlike regions) (λ a r h. refl) old.told new.told e

pub beside_then : (regions : List ℕ) (old mid new : Disk) → KeepsBeside regions old mid → KeepsBeside regions mid new → KeepsBeside regions old new
beside_then regions old mid new first second = both_then (AreAlike regions) (AreAlike regions) (AreAlike regions) (λ a b c f g r h. g r h ∙ f r h) old.told mid.told new.told first second

pub beside_write : {r at : ℕ} {bytes : List ℕ} {failed : Type 0} {old new : Disk} (regions : List ℕ) → list_any (nat_eq r) regions ≡ true → Writes r at bytes failed old new → KeepsBeside regions old new
beside_write {r} {at} {bytes} {failed} {old} {new} regions there w =
    both_weaker (λ a b. SameOutside r at (at + length bytes) a.bytes b.bytes) (AreAlike regions) (λ a b same q h. same.others q (λ e. true≢false (sym there ∙ ap (λ n. list_any (nat_eq n) regions) (sym e) ∙ h))) old.told new.told w.outside

pub beside_sync : {old new : Disk} (regions : List ℕ) → Syncs old new → KeepsBeside regions old new
beside_sync {old} {new} regions s = both_weaker (HasSynced old) (AreAlike regions) one old.told new.told s.time
  where
    one : (a b : Told) → HasSynced old a b → AreAlike regions a b
    one a b (inl nothing) r h = ap (λ (t : Told). region_of t.bytes r) nothing.1
    one a b (inr some) r h = ap (λ i. region_of i r) some.1

-- ---- what is unsynced

pub dirties_none : (regions : List ℕ) (old new : Disk) → new.unsynced ≡ old.unsynced → DirtiesOnly regions old new
dirties_none regions old new e = subst (All (λ r. Contains old.unsynced r ⊎ Contains regions r)) (sym e) (λ k d h. inl (All-contains_itself old.unsynced k d h))

pub dirties_synced : (regions : List ℕ) (old new : Disk) → new.unsynced ≡ [] → DirtiesOnly regions old new
dirties_synced regions old new e = subst (All (λ r. Contains old.unsynced r ⊎ Contains regions r)) (sym e) (λ k d h. absurd (omega (arith, h)))

pub dirties_more : (regions : List ℕ) (old new : Disk) (region : ℕ) → Contains regions region → new.unsynced ≡ old.unsynced ++ region ∷ [] → DirtiesOnly regions old new
dirties_more regions old new region there e =
    subst (All (λ r. Contains old.unsynced r ⊎ Contains regions r)) (sym e)
    (All-append (λ r. Contains old.unsynced r ⊎ Contains regions r) old.unsynced (region ∷ []) (λ k d h. inl (All-contains_itself old.unsynced k d h)) one)
  where
    one : All (λ r. Contains old.unsynced r ⊎ Contains regions r) (region ∷ [])
    one zero d h = inr there
    one (suc k) d h = absurd (omega (arith, h))

-- once all was synced, the regions alone are unsynced
pub dirties_anew : (regions : List ℕ) (old mid new : Disk) (region : ℕ) → Contains regions region → mid.unsynced ≡ [] → new.unsynced ≡ mid.unsynced ++ region ∷ [] → DirtiesOnly regions old new
dirties_anew regions old mid new region there synced e =
    subst (All (λ r. Contains old.unsynced r ⊎ Contains regions r)) (sym (e ∙ ap (λ rs. rs ++ region ∷ []) synced)) one
  where
    one : All (λ r. Contains old.unsynced r ⊎ Contains regions r) (region ∷ [])
    one zero d h = inr there
    one (suc k) d h = absurd (omega (arith, h))

-- a call and one behind it
pub dirties_then : (regions : List ℕ) (old mid new : Disk) → DirtiesOnly regions old mid → DirtiesOnly regions mid new → DirtiesOnly regions old new
dirties_then regions old mid new first second k d h = elim (second k d h) [
  | inl was ↦ All-contains (λ r. Contains old.unsynced r ⊎ Contains regions r) mid.unsynced _ first was
  | inr own ↦ inr own
]

pub first_is : (region : ℕ) → Contains (region ∷ []) region
first_is region = (0, omega arith, refl)

-- what was written last is among what is unsynced
pub last_is : (before now : List ℕ) (region : ℕ) → now ≡ before ++ region ∷ [] → Contains now region
last_is before now region is = subst (λ rs. Contains rs region) (sym is) (Contains-append_right before (region ∷ []) region (first_is region))

pub own_region : (region : ℕ) → list_any (nat_eq region) (region ∷ []) ≡ true
own_region region = ap (λ b. b || false) (eq-eqb region region refl)

-- ---- a write that was refused

abbrev Refusal : Type 0
Refusal = Result (Unit {0}) DiskRefusal

module _ (region at : ℕ) (bytes : List ℕ) (old new : Disk) {failed : Type 0} where
  pub refused_time : (e : DiskRefusal) → (◌≢◌ {A = Refusal} (Err e) (Err refusal.NoMemory) → Writes region at bytes failed old new) → (◌≡◌ {A = Refusal} (Err e) (Err refusal.NoMemory) → new ≡ old) → ContinuesOn old new
  refused_time e begun no_memory = by_refusal region at bytes old new (ContinuesOn old new) e begun no_memory (λ w. continues_write w) (λ same. continues_told old new (ap (λ (d : Disk). d.told) same))

  pub refused_beside : (e : DiskRefusal) → (◌≢◌ {A = Refusal} (Err e) (Err refusal.NoMemory) → Writes region at bytes failed old new) → (◌≡◌ {A = Refusal} (Err e) (Err refusal.NoMemory) → new ≡ old) → KeepsBeside (region ∷ []) old new
  refused_beside e begun no_memory =
      by_refusal region at bytes old new (KeepsBeside (region ∷ []) old new) e begun no_memory (λ w. beside_write (region ∷ []) (own_region region) w) (λ same. beside_told (region ∷ []) old new (ap (λ (d : Disk). d.told) same))

  pub refused_dirties : (e : DiskRefusal) → (◌≢◌ {A = Refusal} (Err e) (Err refusal.NoMemory) → Writes region at bytes failed old new) → (◌≡◌ {A = Refusal} (Err e) (Err refusal.NoMemory) → new ≡ old) → DirtiesOnly (region ∷ []) old new
  refused_dirties e begun no_memory =
      by_refusal region at bytes old new (DirtiesOnly (region ∷ []) old new) e begun no_memory (λ w. dirties_more (region ∷ []) old new region (first_is region) w.unsynced) (λ same. dirties_none (region ∷ []) old new (ap (λ (d : Disk). d.unsynced) same))

pub refused_synced : (old new : Disk) → new ≡ old → old.unsynced ≡ [] → new.unsynced ≡ []
refused_synced old new same synced = ap (λ (d : Disk). d.unsynced) same ∙ synced

-- ---- of two calls, and among more regions

pub touches_wider : {some all : List ℕ} {failed : Type 0} {old new : Disk} → TouchesOnly some failed old new → DirtiesOnly all old new → TouchesOnly all failed old new
touches_wider t dirties = record { beside = t.beside; counts = t.counts; sound = t.sound; time = t.time; dirties = dirties }

pub touches_then : {regions : List ℕ} {failed failed' : Type 0} {old mid new : Disk} → TouchesOnly regions failed old mid → TouchesOnly regions failed' mid new → (failed → ⊥) → TouchesOnly regions failed' old new
touches_then {regions} {failed} {failed'} {old} {mid} {new} first second fine = record {
  beside = record {
    regions = second.beside.regions ∙ first.beside.regions;
    region_len = second.beside.region_len ∙ first.beside.region_len;
    eyes = second.beside.eyes ∙ first.beside.eyes;
    given = second.beside.given ∙ first.beside.given;
  };
  counts = record {
    faults = λ f. subst (λ n. HasRisen n new.faults) still.0 (second.counts.faults f);
    own_faults = λ f. subst (λ n. HasRisen n new.own_faults) still.1 (second.counts.own_faults f);
    no_lower = (let a = second.counts.no_lower.0 in let b = still.0 in omega (arith, a, b), let a = second.counts.no_lower.1 in let b = still.1 in omega (arith, a, b));
    else_same = λ f. ((second.counts.else_same f).0 ∙ still.0, (second.counts.else_same f).1 ∙ still.1);
  };
  sound = second.sound;
  time = continues_then old mid new first.time second.time;
  dirties = dirties_then regions old mid new first.dirties second.dirties;
}
  where
    still : (mid.faults ≡ old.faults) × (mid.own_faults ≡ old.own_faults)
    still = first.counts.else_same fine

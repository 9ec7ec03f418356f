-- What holds of a disk at each moment is kept by its calls.
use Rattle.std.proofs.Common.{◌≡◌, ℕ, ◌+◌, ◌<◌, List, [], ◌∷◌, ◌++◌, length, map, Some, None, refl, sym, ap, subst, ◌∙◌, inl, inr}
use Rattle.std.specs.Prelude.{Option, IfSome, not, ◌==◌}
use Rattle.std.proofs.lemmas.List.{map_push}
use Rattle.log_disk.specs.Disk.{Image, region_of, Span, Moment, IsImageAt, Told, Disk, OpenEye, BothTold, SameOutside, HasGoneOn, HasSynced, IsToldOf, AreNumbered, IsSound, SameBeside, new_disk, told_anew, Eye, Reads, Writes, Syncs, OnlyFails, Opens, Closes, unsynced_too, span_of}
use Rattle.log_disk.proofs.InMemory.{synced_is_image}
use Rattle.log_disk.proofs.Numbers.{numbered_none, numbered_opens, numbered_closes}
use Rattle.log_disk.proofs.Writes.{image_after}

told_of_same : (old new : Disk) (told : Told) → new.regions ≡ old.regions → new.region_len ≡ old.region_len → new.unsynced ≡ old.unsynced → IsToldOf old told → IsToldOf new told
told_of_same old new told regions len unsynced is = record {
  regions = is.regions ∙ sym regions;
  lengths = λ r h. is.lengths r (subst (λ n. r < n) regions h) ∙ sym len;
  image = is.image;
  unsynced = is.unsynced ∙ sym unsynced;
}

-- what is told stays as it was
told_same : (old new : Disk) → new.told ≡ old.told → new.regions ≡ old.regions → new.region_len ≡ old.region_len → new.unsynced ≡ old.unsynced → IfSome old.told (IsToldOf old) → IfSome new.told (IsToldOf new)
told_same old new told regions len unsynced is = subst (λ t. IfSome t (IsToldOf new)) (sym told) (each old.told is)
  where
    each : (t : Option Told) → IfSome t (IsToldOf old) → IfSome t (IsToldOf new)
    each None h = tt
    each (Some t) h = told_of_same old new t regions len unsynced h

-- and the eyes do
eyes_same : (old new : Disk) → new.eyes ≡ old.eyes → new.given ≡ old.given → AreNumbered old.eyes old.given → AreNumbered new.eyes new.given
eyes_same old new eyes given are = subst (λ es. AreNumbered es new.given) (sym eyes) (subst (AreNumbered old.eyes) (sym given) are)

-- a call that changes nothing that is told, and no eye, as one that fails
pub sound_same : (old new : Disk) → new.told ≡ old.told → SameBeside old new → new.unsynced ≡ old.unsynced → IsSound old → IsSound new
sound_same old new told beside unsynced sound = record {
  told = told_same old new told beside.regions beside.region_len unsynced sound.told;
  eyes = eyes_same old new beside.eyes beside.given sound.eyes;
}

-- a write that was begun
pub sound_write : {r at : ℕ} {bytes : List ℕ} {failed : Type 0} {old new : Disk} → Writes r at bytes failed old new → IsSound old → IsSound new
sound_write {r} {at} {bytes} {failed} {old} {new} w sound = record { told = each old.told new.told w.time w.outside sound.told; eyes = eyes_same old new w.beside.eyes w.beside.given sound.eyes }
  where
    each : (a b : Option Told) → BothTold (λ x y. HasGoneOn x y (unsynced_too x.present (span_of r at (length bytes)))) a b
        → BothTold (λ x y. SameOutside r at (at + length bytes) x.bytes y.bytes) a b → IfSome a (IsToldOf old) → IfSome b (IsToldOf new)
    each None None t o h = tt
    each None (Some b) t o h = absurd t
    each (Some a) None t o h = absurd t
    each (Some a) (Some b) t o h = record {
      regions = o.regions ∙ h.regions ∙ sym w.beside.regions;
      lengths = λ q k. o.lengths q ∙ h.lengths q (subst (λ n. q < n) w.beside.regions k) ∙ sym w.beside.region_len;
      image = subst (λ m. IsImageAt m b.bytes) (sym t.1) (image_after a.present a.bytes b.bytes r at (at + length bytes) o h.image);
      unsynced =
          ap (λ (m : Moment). map (λ (span : Span). span.region) m.unsynced) t.1 ∙ map_push (λ (span : Span). span.region) a.present.unsynced (span_of r at (length bytes))
          ∙ ap (λ xs. xs ++ r ∷ []) h.unsynced ∙ sym w.unsynced;
    }

-- a sync that succeeded
pub sound_sync : {old new : Disk} → Syncs old new → IsSound old → IsSound new
sound_sync {old} {new} s sound = record { told = each old.told new.told s.time sound.told; eyes = eyes_same old new s.beside.eyes s.beside.given sound.eyes }
  where
    one : (a b : Told) → HasSynced old a b → IsToldOf old a → IsToldOf new b
    one a b (inl nothing) h = subst (IsToldOf new) (sym nothing.1) (told_of_same old new a s.beside.regions s.beside.region_len (s.unsynced ∙ sym nothing.0) h)
    one a b (inr some) h = record {
      regions = ap length some.1 ∙ h.regions ∙ sym s.beside.regions;
      lengths = λ q k. ap (λ i. length (region_of i q)) some.1 ∙ h.lengths q (subst (λ n. q < n) s.beside.regions k) ∙ sym s.beside.region_len;
      image = subst (λ m. IsImageAt m b.bytes) (sym some.2.1) (synced_is_image a.bytes b.bytes [] some.1);
      unsynced = ap (λ (m : Moment). map (λ (span : Span). span.region) m.unsynced) some.2.1 ∙ sym s.unsynced;
    }

    each : (a b : Option Told) → BothTold (HasSynced old) a b → IfSome a (IsToldOf old) → IfSome b (IsToldOf new)
    each None None t h = tt
    each None (Some b) t h = absurd t
    each (Some a) None t h = absurd t
    each (Some a) (Some b) t h = one a b t h

pub sound_read : {r at : ℕ} {out : List ℕ} {failed : Type 0} {old new : Disk} → Reads r at out failed old new → IsSound old → IsSound new
sound_read {old = old} {new = new} reads = sound_same old new reads.told reads.beside reads.unsynced

pub sound_failure : {old new : Disk} → OnlyFails old new → IsSound old → IsSound new
sound_failure {old} {new} fails = sound_same old new fails.told fails.beside fails.unsynced

pub sound_opens : {regions : List ℕ} {eye : Eye} {old new : Disk} → Opens regions eye old new → IsSound old → IsSound new
sound_opens {regions} {eye} {old} {new} o sound = record {
  told = told_same old new o.told o.others.0 o.others.1 o.others.2 sound.told;
  eyes =
      subst (λ es. AreNumbered es new.given) (sym o.listed)
      (subst (AreNumbered (old.eyes ++ record { number = eye.number; regions = regions } ∷ [])) (sym o.given)
      (numbered_opens old.eyes old.given (record { number = eye.number; regions = regions }) o.is_new sound.eyes));
}

pub sound_closes : {eye : Eye} {old new : Disk} → Closes eye old new → IsSound old → IsSound new
sound_closes {eye} {old} {new} c sound = record {
  told = told_same old new c.told c.others.0 c.others.1 c.others.2 sound.told;
  eyes =
      subst (λ es. AreNumbered es new.given) (sym c.listed)
      (subst (AreNumbered _) (sym c.given) (numbered_closes old.eyes old.given (λ (e : OpenEye). not (e.number == eye.number)) sound.eyes));
}

-- a disk that is new
pub sound_silent : (regions len : ℕ) → IsSound (new_disk regions len None)
sound_silent regions len = record { told = tt; eyes = numbered_none [] }

pub sound_new : (regions len : ℕ) (image : Image) → length image ≡ regions → ((r : ℕ) → r < regions → length (region_of image r) ≡ len) → IsSound (new_disk regions len (Some (told_anew image)))
sound_new regions len image count lengths = record {
  told = record { regions = count; lengths = lengths; image = synced_is_image image image [] refl; unsynced = refl };
  eyes = numbered_none [];
}

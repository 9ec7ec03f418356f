-- The moments of a disk, which go on to be the first ones.
use Rattle.std.proofs.Common.{◌≡◌, ℕ, ◌≤◌, List, [], ◌∷◌, ◌++◌, length, drop, refl, sym, ap, subst, ◌∙◌, arith}
use Rattle.std.specs.Prelude.{Any}
use Rattle.std.proofs.lemmas.List.{append-nil, append_assoc, length-append, drop-append-le}
use Rattle.log_disk.specs.Disk.{Image, Moment, Told, Disk, HasGoneOn, IsImageAt, IsImageSince, Writes, Syncs, clock_of}
use Rattle.log_disk.specs.Moments.{Continues, ContinuesOn}
use Rattle.log_disk.proofs.Writes.{any_left}
use Rattle.log_disk.proofs.Steps.{both_same, both_sync, both_weaker, both_then}

same : (told : Told) → Continues told told
same told = record { more = []; moments = sym (append-nil (told.past ++ told.present ∷ [])) }

gone_on : (old new : Told) (moment : Moment) → HasGoneOn old new moment → Continues old new
gone_on old new moment gone = record { more = new.present ∷ []; moments = ap (λ past. past ++ new.present ∷ []) gone.0 }

joined : (old mid new : Told) → Continues old mid → Continues mid new → Continues old new
joined old mid new first second = record {
  more = first.more ++ second.more;
  moments = second.moments ∙ ap (λ ms. ms ++ second.more) first.moments ∙ append_assoc (old.past ++ old.present ∷ []) first.more second.more;
}

-- a call that changes nothing that is told, and no call
pub continues_told : (old new : Disk) → new.told ≡ old.told → ContinuesOn old new
continues_told old new e = both_same Continues same old.told new.told e

pub continues_none : (disk : Disk) → ContinuesOn disk disk
continues_none disk = both_same Continues same disk.told disk.told refl

-- two runs
pub continues_then : (old mid new : Disk) → ContinuesOn old mid → ContinuesOn mid new → ContinuesOn old new
continues_then old mid new first second = both_then Continues Continues Continues joined old.told mid.told new.told first second

pub continues_write : {r at : ℕ} {bytes : List ℕ} {failed : Type 0} {old new : Disk} → Writes r at bytes failed old new → ContinuesOn old new
continues_write {old = old} {new = new} w = both_weaker _ Continues (λ a b gone. gone_on a b _ gone) old.told new.told w.time

pub continues_sync : {old new : Disk} → Syncs old new → ContinuesOn old new
continues_sync s = both_sync Continues same gone_on s

-- the clock, and the images since one of its values
pub continued_later : (old new : Told) → Continues old new → clock_of old ≤ clock_of new
continued_later old new on =
    omega (arith, ap length on.moments, length-append new.past (new.present ∷ []), length-append (old.past ++ old.present ∷ []) on.more, length-append old.past (old.present ∷ []))

pub continued_kept : (old new : Told) → Continues old new → (clock : ℕ) (image : Image) → clock ≤ clock_of old → IsImageSince clock old image → IsImageSince clock new image
continued_kept old new on clock image h since =
    subst (Any (λ moment. IsImageAt moment image))
    (sym (ap (drop clock) on.moments ∙ drop-append-le clock (old.past ++ old.present ∷ []) on.more (omega (arith, h, length-append old.past (old.present ∷ [])))))
    (any_left (λ moment. IsImageAt moment image) (drop clock (old.past ++ old.present ∷ [])) on.more since)

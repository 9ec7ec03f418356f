-- What is known where rows may be appended.
use Rattle.std.proofs.Common.{◌≡◌, ℕ, ◌+◌, ◌<◌, ◌≤◌, ◌==◌, Bool, true, false, cond, ◌&&◌, length, refl, arith}
use Rattle.std.specs.Prelude.{nat_lt, nat_le, min}
use Rattle.std.proofs.lemmas.Bool.{or_parts}
use Rattle.std.proofs.lemmas.Grind.{common_steps}
use Rattle.fine_model.specs.RowBytes.{greatest}
use Rattle.fine_model.specs.declared.law.RoomState.{RoomState}
use Rattle.epoch_room.specs.Fitting.{fit_of, need_alone, need_in_epoch, is_spent, is_full, one_taken}
use Rattle.epoch_room.specs.declared.answers.Fit.{Fit}
use Rattle.epoch_room.specs.declared.answers.Fit.TheVariants as fit

pub record MayAppend (room : RoomState) (cost : ℕ) : Type 0 where
  pub open_room : room.is_shut ≡ false
  pub epoch : room.sealed + 1 ≤ greatest
  pub place : room.places < greatest
  pub room_for : 41 + room.used + cost ≤ room.region_len
  pub free : room.waiting ≡ 0 → 2 ≤ length room.free + one_taken room.job

five : (a b c d e : Bool) (v w x y z : Fit) → (v ≡ fit.Fits → ⊥) → (w ≡ fit.Fits → ⊥) → (x ≡ fit.Fits → ⊥) → (y ≡ fit.Fits → ⊥) → (z ≡ fit.Fits → ⊥)
    → cond a v (cond b w (cond c x (cond d y (cond e z fit.Fits)))) ≡ fit.Fits → (a ≡ false) × (b ≡ false) × (d ≡ false) × (e ≡ false)
five true b c d e v w x y z nv nw nx ny nz h = absurd (nv h)
five false true c d e v w x y z nv nw nx ny nz h = absurd (nw h)
five false false true d e v w x y z nv nw nx ny nz h = absurd (nx h)
five false false false true e v w x y z nv nw nx ny nz h = absurd (ny h)
five false false false false true v w x y z nv nw nx ny nz h = absurd (nz h)
five false false false false false v w x y z nv nw nx ny nz h = (refl, refl, refl, refl)

pub may_append : (room : RoomState) (cost : ℕ) → room.region_len ≤ 67108864 → fit_of room cost ≡ fit.Fits → MayAppend room cost
unfolding fit_of
may_append room cost small fits =
    let all = five room.is_shut (is_spent room) (nat_lt room.region_len (need_alone cost)) (is_full room) (nat_lt room.region_len (need_in_epoch room cost)) _ _ _ _ _
    (λ h. cc) (λ h. cc) (λ h. cc) (λ h. cc) (λ h. cc) fits in
    let numbers = or_parts (nat_lt greatest (room.sealed + 1)) (nat_le greatest room.places) all.1 in
    record {
      open_room = all.0;
      epoch = grind (arith, numbers.0);
      place = grind (arith, numbers.1);
      room_for = fits_within (41 + room.used + cost) room.region_len small all.3;
      free = λ none. two room.waiting (length room.free + one_taken room.job) none all.2;
    }
  where
    fits_within : (n len : ℕ) → len ≤ 67108864 → nat_lt len (min n 18446744073709551615) ≡ false → n ≤ len
    fits_within n len small h = grind (arith, h)

    two : (waiting free : ℕ) → waiting ≡ 0 → ((waiting == 0) && nat_lt free 2) ≡ false → 2 ≤ free
    two waiting free e h = grind (arith, common_steps, e, h)

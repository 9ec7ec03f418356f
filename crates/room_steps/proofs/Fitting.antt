-- What a fit says of a room.
use Rattle.std.proofs.Common.{◌≡◌, ◌∙◌, ℕ, zero, suc, ◌+◌, ◌<◌, ◌≤◌, ◌==◌, ◌&&◌, ◌||◌, cond, min, Bool, true, false, inl, inr, length, None, refl, sym, ap, subst, arith, true≢false}
use Rattle.std.specs.Prelude.{nat_le, nat_lt}
use Rattle.fine_model.specs.declared.law.RoomState.{RoomState}
use Rattle.fine_model.specs.RowBytes.{greatest, short_header}
use Rattle.epoch_room.specs.Fitting.{fit_of, is_full, is_spent, need_alone, need_in_epoch, one_taken}
use Rattle.epoch_room.specs.Value.{RoomValue}
use Rattle.epoch_room.specs.Whole.{IsWhole}
use Rattle.epoch_room.specs.declared.answers.Fit.{Fit}
use Rattle.epoch_room.specs.declared.answers.Fit.TheVariants as fit
use Rattle.epoch_room.proofs.Counting.{sealed_most}
use Rattle.room_steps.specs.Merging.{is_epoch_full}
use Rattle.run_laws.specs.Needs.{HasNoRegion}
use Rattle.room_steps.specs.Steps.{IsSpent}

-- the tests that led to an answer
pub record Alone (room : RoomState) (cost : ℕ) : Type 0 where
  pub opened : room.is_shut ≡ false
  pub left : is_spent room ≡ false
  pub alone : nat_lt room.region_len (need_alone cost) ≡ false

abbrev pub Tests : RoomState → ℕ → Fit → Type 0
Tests room cost fit.Fits = Alone room cost × (is_full room ≡ false)
Tests room cost (fit.Shut epoch) = room.is_shut ≡ true
Tests room cost (fit.Number epoch place) = (room.is_shut ≡ false) × (is_spent room ≡ true)
Tests room cost (fit.TooLarge need most) = (room.is_shut ≡ false) × (nat_lt room.region_len (need_alone cost) ≡ true)
Tests room cost (fit.Full free live retired) = Alone room cost × (is_full room ≡ true)
Tests room cost (fit.EpochFull need most) = Alone room cost × (nat_lt room.region_len (need_in_epoch room cost) ≡ true)

pub tests : (room : RoomState) (cost : ℕ) → Tests room cost (fit_of room cost)
unfolding fit_of
tests room cost =
    by room.is_shut (is_spent room) (nat_lt room.region_len (need_alone cost)) (is_full room) (nat_lt room.region_len (need_in_epoch room cost)) refl refl refl refl refl (fit.Shut _) (fit.Number _ _) (fit.TooLarge _ _) (fit.Full _ _ _)
    (fit.EpochFull _ _) (λ h. h) (λ h. h) (λ h. h) (λ h. h) (λ h. h)
  where
    by : (a b c d e : Bool) → room.is_shut ≡ a → is_spent room ≡ b → nat_lt room.region_len (need_alone cost) ≡ c → is_full room ≡ d → nat_lt room.region_len (need_in_epoch room cost) ≡ e → (v w x y z : Fit)
        → (room.is_shut ≡ true → Tests room cost v) → ((room.is_shut ≡ false) × (is_spent room ≡ true) → Tests room cost w) → ((room.is_shut ≡ false) × (nat_lt room.region_len (need_alone cost) ≡ true) → Tests room cost x)
        → (Alone room cost × (is_full room ≡ true) → Tests room cost y) → (Alone room cost × (nat_lt room.region_len (need_in_epoch room cost) ≡ true) → Tests room cost z)
        → Tests room cost (cond a v (cond b w (cond c x (cond d y (cond e z fit.Fits)))))
    by true b c d e pa pb pc pd pe v w x y z tv tw tx ty tz = tv pa
    by false true c d e pa pb pc pd pe v w x y z tv tw tx ty tz = tw (pa, pb)
    by false false true d e pa pb pc pd pe v w x y z tv tw tx ty tz = tx (pa, pc)
    by false false false true e pa pb pc pd pe v w x y z tv tw tx ty tz = ty (record { opened = pa; left = pb; alone = pc }, pd)
    by false false false false true pa pb pc pd pe v w x y z tv tw tx ty tz = tz (record { opened = pa; left = pb; alone = pc }, pe)
    by false false false false false pa pb pc pd pe v w x y z tv tw tx ty tz = (record { opened = pa; left = pb; alone = pc }, pd)

pub tests_of : (room : RoomState) (cost : ℕ) (f : Fit) → fit_of room cost ≡ f → Tests room cost f
tests_of room cost f is = subst (Tests room cost) is (tests room cost)

-- ---- what each test says

-- the rows alone need more than a region has
pub is_large : (len cost : ℕ) → nat_lt len (need_alone cost) ≡ true → len < short_header + cost
is_large len cost h = grind (arith, h)

not_large : (len cost : ℕ) → len ≤ 67108864 → nat_lt len (need_alone cost) ≡ false → len < short_header + cost → ⊥
not_large len cost small h large = grind (arith, small, h, large)

region_small : (value : RoomValue) → IsWhole value → value.room.region_len ≤ 67108864
region_small value whole = let e = ap (λ (r : RoomState). r.region_len) whole.of_disk in let h = whole.geometry.len_high in omega (arith, e, h)

pub alone_fits : (value : RoomValue) (cost : ℕ) → IsWhole value → nat_lt value.room.region_len (need_alone cost) ≡ false → value.room.region_len < short_header + cost → ⊥
alone_fits value cost whole h large = not_large value.room.region_len cost (region_small value whole) h large

pub is_spent_by : (value : RoomValue) → IsWhole value → is_spent value.room ≡ true → IsSpent value.room
is_spent_by value whole spent = by (nat_lt greatest (value.room.sealed + 1)) (nat_le greatest value.room.places) refl refl spent
  where
    by : (a b : Bool) → nat_lt greatest (value.room.sealed + 1) ≡ a → nat_le greatest value.room.places ≡ b → (a || b) ≡ true → IsSpent value.room
    by true b e f h = inl (let most = sealed_most value whole in grind (arith, e, most))
    by false true e f h = inr (let most = whole.epoch.places in grind (arith, f, most))
    by false false e f h = absurd (true≢false (sym h))

both : (waiting free : ℕ) → ((waiting == 0) && nat_lt free 2) ≡ true → (waiting ≡ 0) × (free < 2)
both waiting free h = by (waiting == 0) (nat_lt free 2) refl refl h
  where
    by : (a b : Bool) → (waiting == 0) ≡ a → nat_lt free 2 ≡ b → (a && b) ≡ true → (waiting ≡ 0) × (free < 2)
    by true true e f h = (grind (arith, e), grind (arith, f))
    by true false e f h = absurd (true≢false (sym h))
    by false b e f h = absurd (true≢false (sym h))

pub no_region : (room : RoomState) → room.job ≡ None → is_full room ≡ true → HasNoRegion room
no_region room none full =
    let h = both room.waiting (length room.free + one_taken room.job) full in record { none_waits = h.0; few_free = (let l = h.1 in omega (arith, l)) }

-- where there is none, no rows fit
pub none_fit : (room : RoomState) (cost : ℕ) → room.job ≡ None → HasNoRegion room → fit_of room cost ≡ fit.Fits → ⊥
none_fit room cost none h fits = true≢false (sym full ∙ (tests_of room cost fit.Fits fits).1)
  where
    zero_is : (n : ℕ) → n ≡ 0 → (n == 0) ≡ true
    zero_is n e = grind (arith, e)

    few_is : (n k : ℕ) → n < 2 → k ≡ 0 → nat_lt (n + k) 2 ≡ true
    few_is n k low e = grind (arith, low, e)

    full : is_full room ≡ true
    full = ap (λ b. b && nat_lt (length room.free + one_taken room.job) 2) (zero_is room.waiting h.none_waits) ∙ few_is (length room.free) (one_taken room.job) h.few_free (ap one_taken none)

-- where numbers are left, the last epoch is not sealed yet
pub not_last : (room : RoomState) → is_spent room ≡ false → room.sealed ≡ greatest → ⊥
not_last room left last = by (nat_lt greatest (room.sealed + 1)) refl left
  where
    above : (n : ℕ) → n ≡ greatest → nat_lt greatest (n + 1) ≡ false → ⊥
    above n e h = grind (arith, e, h)

    by : (b : Bool) → nat_lt greatest (room.sealed + 1) ≡ b → (b || nat_le greatest room.places) ≡ false → ⊥
    by true e h = true≢false h
    by false e h = above room.sealed last e

-- the rows leave too little of the region of what waits
pub is_long : (room : RoomState) (cost : ℕ) → nat_lt room.region_len (need_in_epoch room cost) ≡ true → room.region_len < short_header + room.used + cost
is_long room cost h = by room.region_len room.used cost h
  where
    by : (len used cost : ℕ) → nat_lt len (min (short_header + used + cost) 18446744073709551615) ≡ true → len < short_header + used + cost
    by len used cost h = grind (arith, h)

-- ---- where nothing waits

none_used : (value : RoomValue) → IsWhole value → value.room.waiting ≡ 0 → value.room.used ≡ 0
none_used value whole none = (whole.epoch.none none).2

as_alone : (len used cost : ℕ) → used ≡ 0 → nat_lt len (min (short_header + cost) 18446744073709551615) ≡ false → nat_lt len (min (short_header + used + cost) 18446744073709551615) ≡ false
as_alone len used cost none h = grind (arith, none, h)

pub in_epoch_fits : (value : RoomValue) (cost : ℕ) → IsWhole value → value.room.waiting ≡ 0 → nat_lt value.room.region_len (need_alone cost) ≡ false → nat_lt value.room.region_len (need_in_epoch value.room cost) ≡ false
in_epoch_fits value cost whole none h = as_alone value.room.region_len value.room.used cost (none_used value whole none) h

-- the open epoch is not why rows do not fit
pub not_by_epoch : (value : RoomValue) (cost : ℕ) → IsWhole value → value.room.waiting ≡ 0 → nat_lt value.room.region_len (need_alone cost) ≡ false → is_epoch_full (fit_of value.room cost) ≡ false
not_by_epoch value cost whole none h = by (fit_of value.room cost) (tests value.room cost)
  where
    by : (f : Fit) → Tests value.room cost f → is_epoch_full f ≡ false
    by fit.Fits t = refl
    by (fit.Shut epoch) t = refl
    by (fit.Number epoch place) t = refl
    by (fit.TooLarge need most) t = refl
    by (fit.Full free live retired) t = refl
    by (fit.EpochFull need most) t = absurd (true≢false (sym t.1 ∙ in_epoch_fits value cost whole none h))

-- what the open epoch is why of
pub by_epoch : (room : RoomState) (cost : ℕ) → is_epoch_full (fit_of room cost) ≡ true → Alone room cost
by_epoch room cost full = by (fit_of room cost) (tests room cost) full
  where
    by : (f : Fit) → Tests room cost f → is_epoch_full f ≡ true → Alone room cost
    by fit.Fits t e = absurd (true≢false (sym e))
    by (fit.Shut epoch) t e = absurd (true≢false (sym e))
    by (fit.Number epoch place) t e = absurd (true≢false (sym e))
    by (fit.TooLarge need most) t e = absurd (true≢false (sym e))
    by (fit.Full free live retired) t e = absurd (true≢false (sym e))
    by (fit.EpochFull need most) t e = t.0

-- then some entry waits
pub some_wait : (value : RoomValue) (cost : ℕ) → IsWhole value → is_epoch_full (fit_of value.room cost) ≡ true → 1 ≤ value.room.waiting
some_wait value cost whole full = by value.room.waiting refl
  where
    by : (n : ℕ) → value.room.waiting ≡ n → 1 ≤ n
    by zero none = absurd (true≢false (sym full ∙ not_by_epoch value cost whole none (by_epoch value.room cost full).alone))
    by (suc n) some = omega arith

-- ---- rows that fit

chosen : (a b c d e : Bool) (v w x y z : Fit) → a ≡ false → b ≡ false → c ≡ false → d ≡ false → e ≡ false → cond a v (cond b w (cond c x (cond d y (cond e z fit.Fits)))) ≡ fit.Fits
chosen true b c d e v w x y z pa pb pc pd pe = absurd (true≢false pa)
chosen false true c d e v w x y z pa pb pc pd pe = absurd (true≢false pb)
chosen false false true d e v w x y z pa pb pc pd pe = absurd (true≢false pc)
chosen false false false true e v w x y z pa pb pc pd pe = absurd (true≢false pd)
chosen false false false false true v w x y z pa pb pc pd pe = absurd (true≢false pe)
chosen false false false false false v w x y z pa pb pc pd pe = refl

pub all_fits : (room : RoomState) (cost : ℕ) → Alone room cost → is_full room ≡ false → nat_lt room.region_len (need_in_epoch room cost) ≡ false → fit_of room cost ≡ fit.Fits
unfolding fit_of
all_fits room cost a full epoch =
    chosen room.is_shut (is_spent room) (nat_lt room.region_len (need_alone cost)) (is_full room) (nat_lt room.region_len (need_in_epoch room cost)) _ _ _ _ _ a.opened a.left a.alone full epoch

pub enough_free : (room : RoomState) → 2 ≤ length room.free → is_full room ≡ false
enough_free room free = by (room.waiting == 0) (nat_lt (length room.free + one_taken room.job) 2) (enough (length room.free) (one_taken room.job) free)
  where
    enough : (n k : ℕ) → 2 ≤ n → nat_lt (n + k) 2 ≡ false
    enough n k h = grind (arith, h)

    by : (a b : Bool) → b ≡ false → (a && b) ≡ false
    by true b e = e
    by false b e = refl

-- the same numbers, and the same length of regions
pub alone_still : (old new : RoomState) (cost : ℕ) → new.is_shut ≡ false → new.sealed ≡ old.sealed → new.places ≡ old.places → new.region_len ≡ old.region_len → Alone old cost → Alone new cost
alone_still old new cost opened sealed places len a = record {
  opened = opened;
  left = ap (λ n. nat_lt greatest (n + 1) || nat_le greatest new.places) sealed ∙ ap (λ n. nat_lt greatest (old.sealed + 1) || nat_le greatest n) places ∙ a.left;
  alone = ap (λ n. nat_lt n (need_alone cost)) len ∙ a.alone;
}

-- What the room's answer to rows says of its numbers.
use Rattle.std.proofs.Common.{◌≡◌, ◌⊎◌, ◌∙◌, ℕ, ◌+◌, ◌<◌, ◌≤◌, ◌==◌, ◌&&◌, ◌||◌, cond, min, Bool, true, false, inl, inr, length, refl, sym, subst, arith, true≢false}
use Rattle.std.specs.Prelude.{nat_le, nat_lt}
use Rattle.fine_model.specs.declared.law.RoomState.{RoomState}
use Rattle.fine_model.specs.RowBytes.{greatest, short_header}
use Rattle.epoch_room.specs.Fitting.{fit_of, is_full, is_spent, need_alone, need_in_epoch, one_taken}
use Rattle.epoch_room.specs.declared.answers.Fit.{Fit}
use Rattle.epoch_room.specs.declared.answers.Fit.TheVariants as fit
use Rattle.lane_laws.specs.Lanes.{IsSpentAt}

-- the tests that led to an answer
pub record Alone (room : RoomState) (cost : ℕ) : Type 0 where
  pub opened : room.is_shut ≡ false
  pub left : is_spent room ≡ false
  pub alone : nat_lt room.region_len (need_alone cost) ≡ false

abbrev pub Tests : RoomState → ℕ → Fit → Type 0
Tests room cost fit.Fits = Alone room cost
Tests room cost (fit.Shut epoch) = room.is_shut ≡ true
Tests room cost (fit.Number epoch place) = is_spent room ≡ true
Tests room cost (fit.TooLarge need most) = nat_lt room.region_len (need_alone cost) ≡ true
Tests room cost (fit.Full free live retired) = Alone room cost × (is_full room ≡ true)
Tests room cost (fit.EpochFull need most) = Alone room cost × (nat_lt room.region_len (need_in_epoch room cost) ≡ true)

tests : (room : RoomState) (cost : ℕ) → Tests room cost (fit_of room cost)
unfolding fit_of
tests room cost =
    by room.is_shut (is_spent room) (nat_lt room.region_len (need_alone cost)) (is_full room) (nat_lt room.region_len (need_in_epoch room cost)) refl refl refl refl refl (fit.Shut _) (fit.Number _ _) (fit.TooLarge _ _) (fit.Full _ _ _)
    (fit.EpochFull _ _) (λ h. h) (λ h. h) (λ h. h) (λ h. h) (λ h. h)
  where
    by : (a b c d e : Bool) → room.is_shut ≡ a → is_spent room ≡ b → nat_lt room.region_len (need_alone cost) ≡ c → is_full room ≡ d → nat_lt room.region_len (need_in_epoch room cost) ≡ e → (v w x y z : Fit)
        → (room.is_shut ≡ true → Tests room cost v) → (is_spent room ≡ true → Tests room cost w) → (nat_lt room.region_len (need_alone cost) ≡ true → Tests room cost x)
        → (Alone room cost × (is_full room ≡ true) → Tests room cost y) → (Alone room cost × (nat_lt room.region_len (need_in_epoch room cost) ≡ true) → Tests room cost z)
        → Tests room cost (cond a v (cond b w (cond c x (cond d y (cond e z fit.Fits)))))
    by true b c d e pa pb pc pd pe v w x y z tv tw tx ty tz = tv pa
    by false true c d e pa pb pc pd pe v w x y z tv tw tx ty tz = tw pb
    by false false true d e pa pb pc pd pe v w x y z tv tw tx ty tz = tx pc
    by false false false true e pa pb pc pd pe v w x y z tv tw tx ty tz = ty (record { opened = pa; left = pb; alone = pc }, pd)
    by false false false false true pa pb pc pd pe v w x y z tv tw tx ty tz = tz (record { opened = pa; left = pb; alone = pc }, pe)
    by false false false false false pa pb pc pd pe v w x y z tv tw tx ty tz = record { opened = pa; left = pb; alone = pc }

pub tests_of : (room : RoomState) (cost : ℕ) (f : Fit) → fit_of room cost ≡ f → Tests room cost f
tests_of room cost f is = subst (Tests room cost) is (tests room cost)

-- ---- what each test says

-- the rows alone need more than a region has, or no more
pub is_large : (len cost : ℕ) → nat_lt len (need_alone cost) ≡ true → len < short_header + cost
is_large len cost h = grind (arith, h)

pub fits_alone : (len cost : ℕ) → len ≤ 67108864 → nat_lt len (need_alone cost) ≡ false → short_header + cost ≤ len
fits_alone len cost small h = grind (arith, small, h)

-- the rows leave too little of the region of what waits
pub is_long : (room : RoomState) (cost : ℕ) → nat_lt room.region_len (need_in_epoch room cost) ≡ true → room.region_len < short_header + room.used + cost
is_long room cost h = by room.region_len room.used cost h
  where
    by : (len used cost : ℕ) → nat_lt len (min (short_header + used + cost) 18446744073709551615) ≡ true → len < short_header + used + cost
    by len used cost h = grind (arith, h)

-- nothing waits in a room that is full
pub none_waits : (room : RoomState) → is_full room ≡ true → room.waiting ≡ 0
none_waits room full = by (room.waiting == 0) refl full
  where
    zero_is : (n : ℕ) → (n == 0) ≡ true → n ≡ 0
    zero_is n h = grind (arith, h)

    by : (a : Bool) → (room.waiting == 0) ≡ a → (a && nat_lt (length room.free + one_taken room.job) 2) ≡ true → room.waiting ≡ 0
    by true e h = zero_is room.waiting e
    by false e h = absurd (true≢false (sym h))

above : (n : ℕ) → nat_lt greatest (n + 1) ≡ true → greatest ≤ n
above n h = grind (arith, h)

below : (n : ℕ) → nat_lt greatest (n + 1) ≡ false → n < greatest
below n h = grind (arith, h)

reached : (n : ℕ) → nat_le greatest n ≡ true → greatest ≤ n
reached n h = grind (arith, h)

-- the numbers of epochs or of places are at their limit, or some are left
pub spent : (room : RoomState) → is_spent room ≡ true → IsSpentAt room
spent room is = by (nat_lt greatest (room.sealed + 1)) refl is
  where
    by : (a : Bool) → nat_lt greatest (room.sealed + 1) ≡ a → (a || nat_le greatest room.places) ≡ true → IsSpentAt room
    by true e h = inl (above room.sealed e)
    by false e h = inr (reached room.places h)

pub some_left : (room : RoomState) → is_spent room ≡ false → room.sealed < greatest
some_left room not = by (nat_lt greatest (room.sealed + 1)) refl not
  where
    by : (a : Bool) → nat_lt greatest (room.sealed + 1) ≡ a → (a || nat_le greatest room.places) ≡ false → room.sealed < greatest
    by true e h = absurd (true≢false h)
    by false e h = below room.sealed e

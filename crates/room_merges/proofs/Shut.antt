-- What `fit` says of a shut room.
use Rattle.std.proofs.Common.{◌≡◌, ℕ, Bool, true, false, refl, sym}
use Rattle.std.specs.Prelude.{if◌then◌else◌}
use Rattle.fine_model.specs.declared.law.RoomState.{RoomState}
use Rattle.epoch_room.specs.Fitting.{fit_of}
use Rattle.epoch_room.specs.declared.answers.Fit.{Fit}
use Rattle.epoch_room.specs.declared.answers.Fit.TheVariants as fit

-- no other reason is told as that one
never : (a b d e : Bool) (epoch sealed place need room free live retired more : ℕ)
    → (if a then fit.Number sealed place else (if b then fit.TooLarge need room else (if d then fit.Full free live retired else (if e then fit.EpochFull more room else fit.Fits)))) ≡ fit.Shut epoch → ⊥
never true b d e epoch sealed place need room free live retired more is = cc
never false true d e epoch sealed place need room free live retired more is = cc
never false false true e epoch sealed place need room free live retired more is = cc
never false false false true epoch sealed place need room free live retired more is = cc
never false false false false epoch sealed place need room free live retired more is = cc

pub shut_epoch : (room : RoomState) (cost epoch : ℕ) → fit_of room cost ≡ fit.Shut epoch → (room.is_shut ≡ true) × (epoch ≡ room.sealed)
unfolding fit_of
shut_epoch room cost epoch is = by room.is_shut _ (never _ _ _ _ epoch _ _ _ _ _ _ _ _) refl is
  where
    same : (m n : ℕ) → fit.Shut m ≡ fit.Shut n → m ≡ n
    same m n is = cc

    by : (s : Bool) (rest : Fit) → (rest ≡ fit.Shut epoch → ⊥) → room.is_shut ≡ s → (if s then fit.Shut room.sealed else rest) ≡ fit.Shut epoch → (room.is_shut ≡ true) × (epoch ≡ room.sealed)
    by true rest none e is = (e, sym (same room.sealed epoch is))
    by false rest none e is = absurd (none is)

pub not_shut : (room : RoomState) (cost : ℕ) → ((epoch : ℕ) → fit_of room cost ≡ fit.Shut epoch → ⊥) → room.is_shut ≡ false
unfolding fit_of
not_shut room cost none = by room.is_shut _ none refl
  where
    by : (s : Bool) (rest : Fit) → ((epoch : ℕ) → (if s then fit.Shut room.sealed else rest) ≡ fit.Shut epoch → ⊥) → room.is_shut ≡ s → room.is_shut ≡ false
    by true rest none e = absurd (none room.sealed refl)
    by false rest none e = e

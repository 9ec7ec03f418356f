-- What a mailbox's number says of its buffer, and where words lie.
use Rattle.std.proofs.Common.{◌≡◌, ℕ, suc, ◌+◌, ◌-◌, ◌*◌, ◌/◌, ◌%◌, ◌<◌, ◌≤◌, nat_eq, Bool, true, false, refl, ap, arith}
use Rattle.fine_places.specs.History.{room}
use Rattle.fine_boxes.specs.Boxes.{bit, mailbox, published_word}

pub fresh_is : (r b : ℕ) (f : Bool) → r ≡ 2 * b + bit f → nat_eq (r % 2) 1 ≡ f
fresh_is r b true e = let odd : r % 2 ≡ 1 = (omega arith) in ap (λ n. nat_eq n 1) odd
fresh_is r b false e = let even : r % 2 ≡ 0 = (omega arith) in ap (λ n. nat_eq n 1) even

pub half_is : (r b : ℕ) (f : Bool) → r ≡ 2 * b + bit f → r / 2 ≡ b
half_is r b true e = omega arith
half_is r b false e = omega arith

pub few_is : (r b : ℕ) (f : Bool) → r ≡ 2 * b + bit f → b < 3 → r < 6
few_is r b true e lt = omega arith
few_is r b false e lt = omega arith

pub word_within : (number seats words : ℕ) → 0 < number → number ≤ seats → suc (suc room) + seats ≤ words → mailbox (number - 1) < words
unfolding mailbox
word_within number seats words pos le wide = omega arith

pub published_is : 257 ≡ published_word
unfolding published_word room
published_is = refl

pub published_in : (seats words : ℕ) → suc (suc room) + seats ≤ words → 257 < words
unfolding room
published_in seats words wide = omega arith

pub next_number : (number : ℕ) → 0 < number → number ≡ suc (number - 1)
next_number number pos = omega arith

pub seat_within : (number seats : ℕ) → 0 < number → number ≤ seats → number - 1 < seats
seat_within number seats pos le = omega arith

-- The faults that were counted in turns, over all seats, and against what the last room counts.
use Rattle.std.proofs.Common.{◌≡◌, ◌≢◌, ◌⊎◌, ℕ, zero, suc, ◌+◌, ◌<◌, ◌≤◌, ◌==◌, cond, List, [], ◌∷◌, ◌++◌, map, length, sum_by, refl, sym, ap, ◌∙◌, inl, inr, ⊎_elim, arith, eq-eqb}
use Rattle.std.specs.Prelude.{All, IsPermutation, if◌then◌else◌}
use Rattle.std.specs.List.{range_with_len}
use Rattle.std.proofs.lemmas.Bool.Decides.{eqb_tells}
use Rattle.std.proofs.lemmas.List.Elements.{All-head, All-tail}
use Rattle.std.proofs.lemmas.List.Sums.{sum_by-cons}
use Rattle.std.proofs.lemmas.List.Sorted.{sum_by-IsPermutation}
use mathlib.Core.Option.{some}
use lib.ListN.{get_elem?}
use Rattle.fine_model.specs.Faults.{last_count}
use Rattle.fine_model.specs.declared.law.RoomState.{RoomState}
use Rattle.fine_places.specs.declared.model.Placed.{Placed}
use Rattle.fine_places.specs.History.{by_seat}
use Rattle.fine_hall.specs.declared.turn.Turn.{Turn}
use Rattle.fine_hall.specs.Turns.{failed_in, failed_of, room_after, RoomsGoOn}
use Rattle.fine_hall.proofs.Since.{since_law}

-- ---- sums

module _ {A : Type 0} where
  pub sum_none : (l : List A) → sum_by (λ a. 0) l ≡ 0
  sum_none [] = refl
  sum_none (a ∷ l) = let s = sum_by-cons (λ (a : A). 0) a l in let t = sum_none l in omega arith

  pub sum_both : (f g : A → ℕ) (l : List A) → sum_by (λ a. f a + g a) l ≡ sum_by f l + sum_by g l
  sum_both f g [] = refl
  sum_both f g (a ∷ l) = let s = sum_by-cons (λ a. f a + g a) a l in let m = sum_by-cons f a l in let n = sum_by-cons g a l in let t = sum_both f g l in omega arith

  pub sum_same_each : (f g : A → ℕ) (l : List A) → ((i : ℕ) (a : A) → get_elem? l i ≡ some a → f a ≡ g a) → sum_by f l ≡ sum_by g l
  sum_same_each f g [] each = refl
  sum_same_each f g (a ∷ l) each = let m = sum_by-cons f a l in let n = sum_by-cons g a l in let h = each 0 a refl in let t = sum_same_each f g l (λ i b e. each (suc i) b e) in omega arith

  pub sum_mapped : {B : Type 0} (g : B → ℕ) (f : A → B) (l : List A) → sum_by g (map f l) ≡ sum_by (λ a. g (f a)) l
  sum_mapped g f [] = refl
  sum_mapped g f (a ∷ l) = let m = sum_by-cons g (f a) (map f l) in let n = sum_by-cons (λ a. g (f a)) a l in let t = sum_mapped g f l in omega arith

-- ---- a number among all numbers

pub no_hit : (n s m : ℕ) → s ≢ m → (if s == m then n else 0) ≡ 0
no_hit n s m ne = ⊎_elim (λ is. absurd (ne is.1)) (λ is. ap (λ b. cond b n 0) is.0) (eqb_tells s m)

pub hit : (n s m : ℕ) → s ≡ m → (if s == m then n else 0) ≡ n
hit n s m e = ap (λ b. cond b n 0) (eq-eqb s m e)

missed : (n s a k : ℕ) → s < a → sum_by (λ m. if s == m then n else 0) (range_with_len a k) ≡ 0
missed n s a zero lt = refl
missed n s a (suc k) lt = let c = sum_by-cons (λ m. if s == m then n else 0) a (range_with_len (a + 1) k) in let h = no_hit n s a (λ e. omega arith) in let t = missed n s (a + 1) k (omega arith) in omega arith

pub found : (n s a k : ℕ) → a ≤ s → s < a + k → sum_by (λ m. if s == m then n else 0) (range_with_len a k) ≡ n
found n s a zero le lt = absurd (omega arith)
found n s a (suc k) le lt = let c = sum_by-cons (λ m. if s == m then n else 0) a (range_with_len (a + 1) k) in ⊎_elim
    (λ is. let h = hit n s a is.1 in let t = missed n s (a + 1) k (let e = is.1 in omega arith) in omega arith)
    (λ is. let h = no_hit n s a is.1 in let t = found n s (a + 1) k (let ne = is.1 in omega arith) (omega arith) in omega arith)
    (eqb_tells s a)

-- ---- what failed in turns

-- how often calls failed in all turns
abbrev pub failed_in_all : RoomState → List (Placed Turn) → ℕ
failed_in_all before [] = 0
failed_in_all before (t ∷ turns) = failed_in before t.item + failed_in_all t.item.room turns

-- the counts that were given back in all turns
abbrev pub returned_in_all : List (Placed Turn) → ℕ
returned_in_all turns = sum_by (λ t. t.item.returned) turns

-- what failed in the turns of each seat is what failed in all turns, where all turns are of these seats
pub failed_by_number : (seats : ℕ) (before : RoomState) (turns : List (Placed Turn)) → All (λ t. (0 < t.seat) × (t.seat ≤ seats)) turns → sum_by (λ n. failed_of n before turns) (range_with_len 1 seats) ≡ failed_in_all before turns
failed_by_number seats before [] all = sum_none (range_with_len 1 seats)
failed_by_number seats before (t ∷ ts) all =
    let h = All-head (λ (t : Placed Turn). (0 < t.seat) × (t.seat ≤ seats)) t ts all in
    let s = sum_both (λ n. if t.seat == n then failed_in before t.item else 0) (λ n. failed_of n t.item.room ts) (range_with_len 1 seats) in
    let own = found (failed_in before t.item) t.seat 1 seats (let a = h.0 in omega arith) (let b = h.1 in omega arith) in
    let rest = failed_by_number seats t.item.room ts (All-tail (λ (t : Placed Turn). (0 < t.seat) × (t.seat ≤ seats)) t ts all) in
    omega arith

-- and so over what has these numbers, each once
pub failed_all : {A : Type 0} (number : A → ℕ) (seats : ℕ) (before : RoomState) (turns : List (Placed Turn)) (l : List A) → All (λ t. (0 < t.seat) × (t.seat ≤ seats)) turns → IsPermutation (map number l) (range_with_len 1 seats)
    → sum_by (λ a. failed_of (number a) before turns) l ≡ failed_in_all before turns
failed_all number seats before turns l all same =
    sym (sum_mapped (λ n. failed_of n before turns) number l) ∙ sym (sum_by-IsPermutation (λ n. failed_of n before turns) (map number l) (range_with_len 1 seats) same) ∙ failed_by_number seats before turns all

not_empty : (u : Placed Turn) (l : List (Placed Turn)) → u ∷ l ≡ [] → ⊥
not_empty u l e = let n = ap length e in absurd (omega arith)

-- in turns of others nothing failed of a seat
pub failed_of_none : (seat : ℕ) (before : RoomState) (more : List (Placed Turn)) → by_seat seat more ≡ [] → failed_of seat before more ≡ 0
failed_of_none seat before [] none = refl
failed_of_none seat before (u ∷ more) none = ⊎_elim
    (λ is. absurd (not_empty u (by_seat seat more) (ap (λ b. cond b (u ∷ by_seat seat more) (by_seat seat more)) (sym is.0) ∙ none)))
    (λ is. let z = ap (λ b. cond b (failed_in before u.item) 0) is.0 in let t = failed_of_none seat u.item.room more (ap (λ b. cond b (u ∷ by_seat seat more) (by_seat seat more)) (sym is.0) ∙ none) in omega arith)
    (eqb_tells u.seat seat)

pub failed_of_more : (seat : ℕ) (before : RoomState) (a more : List (Placed Turn)) → by_seat seat more ≡ [] → failed_of seat before (a ++ more) ≡ failed_of seat before a
failed_of_more seat before [] more none = failed_of_none seat before more none
failed_of_more seat before (u ∷ a) more none = ap (λ n. (if u.seat == seat then failed_in before u.item else 0) + n) (failed_of_more seat u.item.room a more none)

-- ---- what the last room counts

-- The last room counts no more than the first, what was given back, and what failed.
pub faults_high : (before : RoomState) (turns : List (Placed Turn)) → (room_after before turns).faults ≤ (before.faults + returned_in_all turns) + failed_in_all before turns
faults_high before [] = omega arith
faults_high before (t ∷ ts) = let s = sum_by-cons (λ (t : Placed Turn). t.item.returned) t ts in let h = faults_high t.item.room ts in omega arith

-- And it counts no less, unless its count stands at its last value.
pub faults_low : (before : RoomState) (turns : List (Placed Turn)) → RoomsGoOn before turns → ((before.faults + returned_in_all turns) + failed_in_all before turns ≤ (room_after before turns).faults) ⊎ (last_count ≤ (room_after before turns).faults)
faults_low before [] r = inl (omega arith)
faults_low before (t ∷ ts) r = ⊎_elim
    (λ exact. ⊎_elim
    (λ low. inl (let s = sum_by-cons (λ (t : Placed Turn). t.item.returned) t ts in omega arith))
    (λ last. inr last)
    (faults_low t.item.room ts r.1))
    (λ last. inr (let up = (since_law t.item.room [] ts r.1).faults in omega arith))
    r.0.counted

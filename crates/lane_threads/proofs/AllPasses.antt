-- The passes of all seats, with that of the seat 1 behind the others.
use Rattle.std.proofs.Common.{◌≡◌, ℕ, zero, suc, ◌+◌, List, [], ◌∷◌, ◌++◌, length, map, refl, sym, ap, ◌∙◌, subst, arith}
use Rattle.std.specs.Prelude.{IsPermutation}
use Rattle.std.specs.List.{range_with_len}
use Rattle.std.proofs.lemmas.List.Sorted.{IsPermutation-append_comm}
use mathlib.Core.Option.{some, some-injective, some-ne-none}
use lib.ListN.{get_elem?}
use Rattle.fine_hall.specs.Halls.{AreAll, HallOf}
use Rattle.node_cache.specs.Cache.{Cache}
use Rattle.partition_hold.specs.Views.{ViewValue}
use Rattle.epoch_room.specs.Value.{RoomValue}
use Rattle.hall_rooms.specs.Rooms.{IsIdle, RoomPass}
use Rattle.lane_runs.specs.Rest.{AreOthers, IsFirst}

-- an item of a list with one more at its end
pub at_end_or : {A : Type 0} (l : List A) (a : A) (P : ℕ → A → Type 0) → ((i : ℕ) (x : A) → get_elem? l i ≡ some x → P i x) → P (length l) a → (i : ℕ) (x : A) → get_elem? (l ++ a ∷ []) i ≡ some x → P i x
at_end_or [] a P each last zero x at = subst (P 0) (some-injective a x at) last
at_end_or [] a P each last (suc i) x at = absurd (some-ne-none x (sym at))
at_end_or (y ∷ l) a P each last zero x at = each 0 x at
at_end_or (y ∷ l) a P each last (suc i) x at = at_end_or l a (λ n. P (suc n)) (λ n z there. each (suc n) z there) last i x at

pub last_there : {A : Type 0} (l : List A) (a : A) → get_elem? (l ++ a ∷ []) (length l) ≡ some a
last_there [] a = refl
last_there (x ∷ l) a = last_there l a

pub before_last : {A : Type 0} (l : List A) (a : A) (k : ℕ) (x : A) → get_elem? l k ≡ some x → get_elem? (l ++ a ∷ []) k ≡ some x
before_last [] a k x is = absurd (some-ne-none x (sym is))
before_last (y ∷ l) a zero x is = is
before_last (y ∷ l) a (suc k) x is = before_last l a k x is

-- what has the numbers from n on
numbers_from : (n : ℕ) (others : List RoomPass) → ((i : ℕ) (p : RoomPass) → get_elem? others i ≡ some p → p.number ≡ i + n) → map (λ (p : RoomPass). p.number) others ≡ range_with_len n (length others)
numbers_from n [] each = refl
numbers_from n (p ∷ others) each =
    let head : p.number ≡ n = (let e = each 0 p refl in omega (arith, e)) in
    let rest : map (λ (p : RoomPass). p.number) others ≡ range_with_len (n + 1) (length others) = numbers_from (n + 1) others (λ i q at. let e = each (suc i) q at in omega (arith, e)) in
    λ k. head k ∷ rest k

map_end : (others : List RoomPass) (first : RoomPass) → map (λ (p : RoomPass). p.number) (others ++ first ∷ []) ≡ map (λ (p : RoomPass). p.number) others ++ first.number ∷ []
map_end [] first = refl
map_end (p ∷ others) first = ap (λ l. p.number ∷ l) (map_end others first)

module _ {Q : Type 0} (hall : HallOf RoomValue Cache ViewValue Q) (first : RoomPass) (others : List RoomPass) (f : IsFirst hall first) (o : AreOthers hall others) where
  pub are_all : (seats : ℕ) → length others + 1 ≡ seats → AreAll seats (others ++ first ∷ [])
  are_all seats count =
      let list : map (λ (p : RoomPass). p.number) (others ++ first ∷ []) ≡ range_with_len 2 (length others) ++ 1 ∷ [] = map_end others first ∙ ((λ k. numbers_from 2 others o.numbers k ++ f.number k ∷ [])) in
      let long : seats ≡ suc (length others) = (omega (arith, count)) in
      subst (λ (l : List ℕ). IsPermutation l (range_with_len 1 seats)) (sym list)
      (subst (λ n. IsPermutation (range_with_len 2 (length others) ++ 1 ∷ []) (range_with_len 1 n)) (sym long) (IsPermutation-append_comm (range_with_len 2 (length others)) (1 ∷ [])))

  pub all_idle : (i : ℕ) (p : RoomPass) → get_elem? (others ++ first ∷ []) i ≡ some p → IsIdle hall p
  all_idle i p at = at_end_or others first (λ n q. IsIdle hall q) o.idle f.idle i p at

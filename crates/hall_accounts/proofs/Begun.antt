-- The passes of a new hall.
use Rattle.std.proofs.Common.{◌≡◌, ℕ, zero, suc, None, List, [], ◌∷◌, ◌++◌, length, map, sym, ap, ◌∙◌, subst, arith, All}
use Rattle.std.specs.Prelude.{get_or, slice_index_or, IsPermutation}
use Rattle.std.specs.List.{range_with_len}
use Rattle.std.proofs.lemmas.List.Elements.{All-head, All-tail}
use Rattle.std.proofs.lemmas.List.{length-append}
use Rattle.std.proofs.lemmas.List.Sorted.{IsPermutation-refl}
use mathlib.Core.Option.{some, some-injective, some-ne-none}
use lib.ListN.{get_elem?}
use Rattle.fine_model.specs.declared.law.RoomState.{RoomState}
use Rattle.node_cache.specs.Cache.{Cache}
use Rattle.partition_hold.specs.Views.{ViewValue, state_of}
use Rattle.epoch_room.specs.Value.{RoomValue}
use Rattle.fine_places.proofs.Elements.{elem_at}
use Rattle.fine_hall.specs.declared.pass.Pass.{Pass}
use Rattle.fine_hall.specs.Halls.{AreAll, HallOf}
use Rattle.fine_hall.specs.Opening.{HandedOut}
use Rattle.fine_hall.proofs.Handed.{handed_law, handed_idle}
use Rattle.hall_rooms.specs.Opening.{OpensHall}
use Rattle.hall_rooms.specs.Rooms.{RoomPass, beginning_of}
use Rattle.hall_accounts.specs.Going.{IsAtRest}
use Rattle.hall_accounts.specs.Halls.{AreFresh}

-- a list of two, by what was popped off
pub two_of : {A : Type 0} (l rest less : List A) (a b : A) → length l ≡ 2 → l ≡ rest ++ b ∷ [] → rest ≡ less ++ a ∷ [] → l ≡ a ∷ b ∷ []
two_of {A} l rest less a b long e f = by less e f
  where
    by : (less : List A) → l ≡ rest ++ b ∷ [] → rest ≡ less ++ a ∷ [] → l ≡ a ∷ b ∷ []
    by [] e f = e ∙ ap (λ (r : List A). r ++ b ∷ []) f
    by (x ∷ less) e f =
        let m = ap length e ∙ length-append rest (b ∷ []) in
        let n = ap length f ∙ length-append (x ∷ less) (a ∷ []) in
        absurd (omega (arith, m, n, long))

pub first_of_two : {A : Type 0} (P : A → Type 0) (l : List A) (a b : A) → l ≡ a ∷ b ∷ [] → All P l → P a
first_of_two P l a b e all = All-head P a (b ∷ []) (subst (All P) e all)

pub second_of_two : {A : Type 0} (P : A → Type 0) (l : List A) (a b : A) → l ≡ a ∷ b ∷ [] → All P l → P b
second_of_two P l a b e all = All-head P b [] (All-tail P a (b ∷ []) (subst (All P) e all))

module _ {Q : Type 0} (hall : HallOf RoomValue Cache ViewValue Q) (fronts : List ViewValue) (passes : List RoomPass) (out : HandedOut state_of hall.table.shared.table_id (beginning_of hall) fronts passes) where
  pub all_idle : (beginning_of hall).room.job ≡ None → All (IsAtRest hall) passes
  all_idle none i d lt = record { idle = handed_idle state_of hall.table.shared.table_id (beginning_of hall) fronts passes none out i (get_or passes i d) (elem_at passes i d lt) }

  pub all_there : length passes ≡ (beginning_of hall).seats → AreAll (beginning_of hall).seats passes
  all_there long = handed_law state_of hall.table.shared.table_id (beginning_of hall) fronts passes long out

  pub all_fresh : (seats : ℕ) → (beginning_of hall).seats ≡ seats → AreFresh seats passes
  all_fresh seats is = record {
    numbers = λ i p at. let h = out i p at in let a = h.number in let b = h.fresh.numbered in omega (arith, a, b, is);
    none = λ i p at. (out i p at).fresh.mine_none;
  }

-- a hall on a room without a merge begins without one
pub no_job : {Q : Type 0} (hall : HallOf RoomValue Cache ViewValue Q) (room : RoomValue) (seats : ℕ) → room.room.job ≡ None → OpensHall room seats (beginning_of hall) → (beginning_of hall).room.job ≡ None
no_job hall room seats none opens = ap (λ (r : RoomState). r.job) opens.room ∙ none

-- the passes of two seats are all
pub both_there : {V : Type 0} (n : ℕ) (a b : Pass V) (l : List (Pass V)) → n ≡ 2 → l ≡ a ∷ b ∷ [] → a.number ≡ 1 → b.number ≡ 2 → AreAll n l
both_there {V} n a b l two is e f =
    let numbers : map (λ (p : Pass V). p.number) l ≡ 1 ∷ 2 ∷ [] = ap (map (λ (p : Pass V). p.number)) is ∙ (λ i. e i ∷ f i ∷ []) in
    subst (λ (m : List ℕ). IsPermutation m (range_with_len 1 n)) (sym numbers) (subst (λ k. IsPermutation (1 ∷ 2 ∷ []) (range_with_len 1 k)) (sym two) (IsPermutation-refl (1 ∷ 2 ∷ [])))

pub first_is : {A : Type 0} (l : List A) (d a : A) → get_elem? l 0 ≡ some a → slice_index_or l 0 d ≡ a
first_is [] d a e = absurd (some-ne-none a (sym e))
first_is (x ∷ l) d a e = some-injective x a e

pub one_case : {A : Type 0} (a : A) (l : List A) (P : A → Type 0) → l ≡ a ∷ [] → P a → (i : ℕ) (p : A) → get_elem? l i ≡ some p → P p
one_case {A} a l P is pa i p at = go i (ap (λ (m : List A). get_elem? m i) (sym is) ∙ at)
  where
    go : (i : ℕ) → get_elem? (a ∷ []) i ≡ some p → P p
    go zero e = subst P (some-injective a p e) pa
    go (suc n) e = absurd (some-ne-none p (sym e))

-- nothing is said of a list of none
pub no_case : {A : Type 0} (l : List A) (P : A → Type 0) → l ≡ [] → (i : ℕ) (p : A) → get_elem? l i ≡ some p → P p
no_case {A} l P is i p at = absurd (some-ne-none p (sym (ap (λ (m : List A). get_elem? m i) (sym is) ∙ at)))

pub all_back : {V : Type 0} (n : ℕ) (before after : List (Pass V)) → map (λ (p : Pass V). p.number) after ≡ map (λ (p : Pass V). p.number) before → AreAll n before → AreAll n after
all_back n before after same = subst (λ (l : List ℕ). IsPermutation l (range_with_len 1 n)) (sym same)

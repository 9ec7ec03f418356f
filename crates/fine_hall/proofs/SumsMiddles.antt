-- The middles that lie in the slots of a table that ended, in the order of seats.
use Rattle.std.proofs.Common.{◌≡◌, ◌≢◌, ℕ, zero, suc, ◌+◌, ◌*◌, ◌<◌, List, [], ◌∷◌, ◌++◌, length, Option, Some, None, refl, sym, ap, ◌∙◌, ⊎_elim, arith, append_assoc, length-append}
use mathlib.Core.Option.{some, some-ne-none}
use lib.ListN.{get_elem?}
use Rattle.fine_model.specs.declared.law.OpenedEye.{OpenedEye}
use Rattle.fine_model.specs.declared.law.ViewState.{ViewState}
use Rattle.fine_places.specs.declared.model.Placed.{Placed}
use Rattle.fine_places.specs.History.{room}
use Rattle.fine_places.proofs.Lists.{some_same, snoc_at}
use Rattle.fine_boxes.specs.Boxes.{Cell, slot}
use Rattle.fine_boxes.specs.Cells.{one_of_three}
use Rattle.fine_boxes.specs.Ends.{EndsSeat}
use Rattle.fine_hall.specs.declared.law.Load.{Load}
use Rattle.fine_hall.specs.declared.law.Load.TheVariants as load
use Rattle.fine_hall.specs.declared.turn.Turn.{Turn}
use Rattle.fine_hall.specs.Laws.{view_in}

-- what is a view in a slot
pub view_is : {R B V : Type 0} (view : V → ViewState) (thing : Load R B V) (w : ViewState) → view_in view thing ≡ Some w → (v : V) × (thing ≡ load.View v) × (view v ≡ w)
view_is view (load.View v) w e = (v, refl, some_same (view v) w e)
view_is view (load.Room r entry epoch backs) w e = absurd (grind arith)
view_is view (load.Bucket b) w e = absurd (grind arith)

module _ {V : Type 0} (found : ℕ → List V) (gathered : ℕ → List V) (none : gathered 0 ≡ []) (more : (n : ℕ) → gathered (suc n) ≡ gathered n ++ found n) where
  -- one of three slots has something
  in_three : (i m : ℕ) (v : V) → m < 3 → found (3 * i + m) ≡ v ∷ [] → ((j : ℕ) → j < 3 → j ≢ m → found (3 * i + j) ≡ []) → (found (3 * i + 0) ++ found (3 * i + 1)) ++ found (3 * i + 2) ≡ v ∷ []
  in_three i zero v lt is others = λ k. (is k ++ others 1 (omega arith) (λ e. omega arith) k) ++ others 2 (omega arith) (λ e. omega arith) k
  in_three i (suc zero) v lt is others = λ k. (others 0 (omega arith) (λ e. omega arith) k ++ is k) ++ others 2 (omega arith) (λ e. omega arith) k
  in_three i (suc (suc zero)) v lt is others = λ k. (others 0 (omega arith) (λ e. omega arith) k ++ others 1 (omega arith) (λ e. omega arith) k) ++ is k
  in_three i (suc (suc (suc m))) v lt is others = absurd (omega arith)

  three_more : (i : ℕ) → gathered (3 * suc i) ≡ gathered (3 * i) ++ ((found (3 * i + 0) ++ found (3 * i + 1)) ++ found (3 * i + 2))
  three_more i =
      let a : 3 * suc i ≡ suc (suc (suc (3 * i))) = omega arith in
      let b : suc (3 * i) ≡ 3 * i + 1 = omega arith in
      let c : suc (suc (3 * i)) ≡ 3 * i + 2 = omega arith in
      let d : 3 * i ≡ 3 * i + 0 = omega arith in
      ap gathered a ∙ more (suc (suc (3 * i)))
      ∙ ap (λ l. l ++ found (suc (suc (3 * i)))) (more (suc (3 * i)) ∙ ap (λ l. l ++ found (suc (3 * i))) (more (3 * i)))
      ∙ (λ k. ((gathered (3 * i) ++ found (d k)) ++ found (b k)) ++ found (c k))
      ∙ ap (λ l. l ++ found (3 * i + 2)) (append_assoc (gathered (3 * i)) (found (3 * i + 0)) (found (3 * i + 1)))
      ∙ append_assoc (gathered (3 * i)) (found (3 * i + 0) ++ found (3 * i + 1)) (found (3 * i + 2))

  module _ (view : V → ViewState) (ahead : ℕ → ViewState) where
    -- the three slots of each seat have one view, which is that seat's
    pub middles_of_three : (n : ℕ) → ((i : ℕ) → i < n → (v : V) × ((found (3 * i + 0) ++ found (3 * i + 1)) ++ found (3 * i + 2) ≡ v ∷ []) × (view v ≡ ahead i))
        → (length (gathered (3 * n)) ≡ n) × ((i : ℕ) (v : V) → get_elem? (gathered (3 * n)) i ≡ some v → view v ≡ ahead i)
    middles_of_three zero each = (ap length none, λ i v at. absurd (some-ne-none v (sym at ∙ ap (λ l. get_elem? l i) none)))
    middles_of_three (suc n) each =
        let h = middles_of_three n (λ i lt. each i (omega arith)) in
        let e = each n (omega arith) in
        let is : gathered (3 * suc n) ≡ gathered (3 * n) ++ e.0 ∷ [] = three_more n ∙ ap (λ l. gathered (3 * n) ++ l) e.1 in (
          ap length is ∙ length-append (gathered (3 * n)) (e.0 ∷ []) ∙ (let l = h.0 in omega arith),
          λ i v at. ⊎_elim
              (λ before. h.1 i v before)
              (λ last. ap view (sym last.1) ∙ (e.2 ∙ ap ahead (sym (last.0 ∙ h.0))))
              (snoc_at (gathered (3 * n)) e.0 v i (sym (ap (λ l. get_elem? l i) is) ∙ at)),
        )

-- A table that ended, where the slot of each seat's front is empty too.
module _ {R B V : Type 0} (view : V → ViewState) (slots : List (Option (Load R B V))) (found : ℕ → List V) (gathered : ℕ → List V)
    (a_view : (k : ℕ) (v : V) → get_elem? slots (suc room + k) ≡ some (Some (load.View v)) → found k ≡ v ∷ []) (no_view : (k : ℕ) → get_elem? slots (suc room + k) ≡ some None → found k ≡ [])
    (none : gathered 0 ≡ []) (more : (n : ℕ) → gathered (suc n) ≡ gathered n ++ found n)
    (tells : List (Placed Turn) → ViewState → Type 0) (board : List (Option OpenedEye)) (sealed p : ℕ) (log : List (Placed Turn)) (cells : ℕ → Cell) where
  at_slot : (i j : ℕ) (o : Option (Load R B V)) → get_elem? slots (slot i j) ≡ some o → get_elem? slots (suc room + (3 * i + j)) ≡ some o
  unfolding slot
  at_slot i j o e = e

  seat_of : (i : ℕ) → EndsSeat (view_in view) tells board sealed p log slots i (cells i) → get_elem? slots (slot i (cells i).front) ≡ some None
      → (v : V) × ((found (3 * i + 0) ++ found (3 * i + 1)) ++ found (3 * i + 2) ≡ v ∷ []) × (view v ≡ (cells i).ahead)
  seat_of i s front = let w = view_is view s.thing (cells i).ahead s.is_middle in (
    w.0,
    in_three found gathered none more i (cells i).middle w.0 s.apart.middle_in
        (a_view (3 * i + (cells i).middle) w.0 (at_slot i (cells i).middle (Some (load.View w.0)) (s.there ∙ ap (λ (t : Load R B V). some (Some t)) w.1)))
        (λ j lt ne. no_view (3 * i + j) (at_slot i j None (⊎_elim
        (λ e. ap (λ m. get_elem? slots (slot i m)) e ∙ front)
        (λ rest. ⊎_elim (λ e. absurd (ne e)) (λ e. ap (λ m. get_elem? slots (slot i m)) e ∙ s.empty_back) rest)
        (one_of_three (cells i) s.apart j lt)))),
    w.2,
  )

  -- What was gathered from the slots of so many seats is their middles.
  pub middles_gathered : (n : ℕ) → ((i : ℕ) → i < n → EndsSeat (view_in view) tells board sealed p log slots i (cells i)) → ((i : ℕ) → i < n → get_elem? slots (slot i (cells i).front) ≡ some None)
      → (length (gathered (3 * n)) ≡ n) × ((i : ℕ) (v : V) → get_elem? (gathered (3 * n)) i ≡ some v → view v ≡ (cells i).ahead)
  middles_gathered n each fronts = middles_of_three found gathered none more view (λ i. (cells i).ahead) n (λ i lt. seat_of i (each i lt) (fronts i lt))

-- The numbers of all passes at the end of a hall, and that the board names exactly the views that came back.
use Rattle.std.proofs.Common.{◌≡◌, ◌≢◌, ◌⊎◌, ℕ, zero, suc, ◌+◌, ◌-◌, ◌*◌, ◌<◌, ◌≤◌, ◌==◌, List, [], ◌∷◌, ◌++◌, map, length, sum_by, slice_get, Option, Some, refl, sym, ap, ◌∙◌, subst, inl, inr, ⊎_elim, arith}
use Rattle.std.specs.Prelude.{if◌then◌else◌}
use Rattle.std.specs.List.{AllByRecursion, filter_map, cons_option, range_with_len}
use Rattle.std.proofs.lemmas.Bool.Decides.{eqb_tells}
use Rattle.std.proofs.lemmas.List.Sums.{sum_by-cons}
use Rattle.std.proofs.lemmas.List.Sorted.{sum_by-IsPermutation}
use mathlib.Core.Option.{some, some-ne-none, some-injective}
use lib.ListN.{get_elem?}
use Rattle.atomic_table.proofs.Lists.{at_map, at_longer}
use Rattle.fine_model.specs.declared.law.OpenedEye.{OpenedEye}
use Rattle.fine_model.specs.declared.law.ViewState.{ViewState}
use Rattle.fine_places.proofs.Lists.{decide, some_same}
use Rattle.fine_boxes.specs.Boxes.{Cell, Apart, named}
use Rattle.fine_boxes.specs.Cells.{named_front, named_middle, named_none}
use Rattle.fine_hall.specs.declared.pass.Pass.{Pass}
use Rattle.fine_hall.specs.Halls.{AreAll, AreAllOnBoard}
use Rattle.fine_hall.proofs.Laying.{no_slot}
use Rattle.fine_hall.proofs.Sums.{found, hit, no_hit, sum_mapped}

-- ---- counting

module _ {A : Type 0} (f : A → ℕ) where
  some_counts : (l : List A) → 0 < sum_by f l → (i : ℕ) × (a : A) × (get_elem? l i ≡ some a) × (0 < f a)
  some_counts [] lt = absurd (omega arith)
  some_counts (a ∷ l) lt = let c = sum_by-cons f a l in ⊎_elim
      (λ (e : f a ≡ 0). let t = some_counts l (omega arith) in (suc t.0, t.1, t.2, t.3))
      (λ (ne : f a ≢ 0). (0, a, refl, (omega arith)))
      (decide (f a) 0)

  one_counts : (l : List A) (i : ℕ) (a : A) → get_elem? l i ≡ some a → f a ≤ sum_by f l
  one_counts [] i a at = absurd (some-ne-none a (sym at))
  one_counts (x ∷ l) zero a at = let c = sum_by-cons f x l in let e = ap f (some-injective x a at) in omega arith
  one_counts (x ∷ l) (suc i) a at = let c = sum_by-cons f x l in let t = one_counts l i a at in omega arith

  two_count : (l : List A) (i j : ℕ) (a b : A) → i ≢ j → get_elem? l i ≡ some a → get_elem? l j ≡ some b → f a + f b ≤ sum_by f l
  two_count [] i j a b ne at at' = absurd (some-ne-none a (sym at))
  two_count (x ∷ l) zero zero a b ne at at' = absurd (ne refl)
  two_count (x ∷ l) zero (suc j) a b ne at at' = let c = sum_by-cons f x l in let e = ap f (some-injective x a at) in let t = one_counts l j b at' in omega arith
  two_count (x ∷ l) (suc i) zero a b ne at at' = let c = sum_by-cons f x l in let e = ap f (some-injective x b at') in let t = one_counts l i a at in omega arith
  two_count (x ∷ l) (suc i) (suc j) a b ne at at' = let c = sum_by-cons f x l in let t = two_count l i j a b (λ e. ne (ap suc e)) at at' in omega arith

is_hit : (n m : ℕ) → 0 < (if n == m then 1 else 0) → m ≡ n
is_hit n m lt = ⊎_elim (λ is. sym is.1) (λ is. absurd (let z = no_hit 1 n m is.1 in omega arith)) (eqb_tells n m)

module _ {V : Type 0} (seats : ℕ) (passes : List (Pass V)) (all : AreAll seats passes) where
  abbrev has : ℕ → Pass V → ℕ
  has n p = if n == p.number then 1 else 0

  has_one : (n : ℕ) → 0 < n → n ≤ seats → sum_by (has n) passes ≡ 1
  has_one n pos le = sym (sum_mapped (λ m. if n == m then 1 else 0) (λ (p : Pass V). p.number) passes)
      ∙ (sym (sum_by-IsPermutation (λ m. if n == m then 1 else 0) (map (λ (p : Pass V). p.number) passes) (range_with_len 1 seats) all) ∙ found 1 n 1 seats (omega arith) (omega arith))

  -- each number has a pass, and one alone
  pub of_number : (n : ℕ) → 0 < n → n ≤ seats → (i : ℕ) × (p : Pass V) × (get_elem? passes i ≡ some p) × (p.number ≡ n)
  of_number n pos le = let one = has_one n pos le in let t = some_counts (has n) passes (omega arith) in (t.0, t.1, t.2, is_hit n t.1.number t.3)

  pub one_place : (i j : ℕ) (p q : Pass V) → get_elem? passes i ≡ some p → get_elem? passes j ≡ some q → p.number ≡ q.number → 0 < p.number → p.number ≤ seats → i ≡ j
  one_place i j p q at at' e pos le = ⊎_elim (λ is. is) (λ (ne : i ≢ j). absurd (
      let one = has_one p.number pos le in let two = two_count (has p.number) passes i j p q ne at at' in
      let a = hit 1 p.number p.number refl in let b = hit 1 p.number q.number e in omega arith)) (decide i j)

-- ---- the fronts of passes

module _ {V : Type 0} where
  abbrev pub HasOne : Pass V → Type 0
  HasOne p = (v : V) × (p.front ≡ Some v)

  front_first : (p : Pass V) (ps : List (Pass V)) (h : HasOne p) → filter_map (λ q. q.front) (p ∷ ps) ≡ h.0 ∷ filter_map (λ q. q.front) ps
  front_first p ps h = ap (λ o. cons_option o (filter_map (λ (q : Pass V). q.front) ps)) h.1

  pub front_at : (ps : List (Pass V)) → AllByRecursion HasOne ps → (i : ℕ) (v : V) → get_elem? (filter_map (λ q. q.front) ps) i ≡ some v → (p : Pass V) × (get_elem? ps i ≡ some p) × (p.front ≡ Some v)
  front_at [] h i v at = absurd (some-ne-none v (sym at))
  front_at (p ∷ ps) h zero v at = (p, refl, h.0.1 ∙ ap Some (some-injective h.0.0 v (sym (ap (λ l. get_elem? l 0) (front_first p ps h.0)) ∙ at)))
  front_at (p ∷ ps) h (suc i) v at = front_at ps h.1 i v (sym (ap (λ l. get_elem? l (suc i)) (front_first p ps h.0)) ∙ at)

  pub front_there : (ps : List (Pass V)) → AllByRecursion HasOne ps → (i : ℕ) (p : Pass V) (v : V) → get_elem? ps i ≡ some p → p.front ≡ Some v → get_elem? (filter_map (λ q. q.front) ps) i ≡ some v
  front_there [] h i p v at e = absurd (some-ne-none p (sym at))
  front_there (q ∷ ps) h zero p v at e = ap (λ l. get_elem? l 0) (front_first q ps h.0) ∙ ap some (some_same h.0.0 v (sym h.0.1 ∙ (ap (λ (r : Pass V). r.front) (some-injective q p at) ∙ e)))
  front_there (q ∷ ps) h (suc i) p v at e = ap (λ l. get_elem? l (suc i)) (front_first q ps h.0) ∙ front_there ps h.1 i p v at e

-- ---- two lists, one after the other

module _ {A : Type 0} where
  in_either : (a b : List A) (k : ℕ) (x : A) → get_elem? (a ++ b) k ≡ some x → (get_elem? a k ≡ some x) ⊎ ((j : ℕ) × (k ≡ length a + j) × (get_elem? b j ≡ some x))
  in_either [] b k x at = inr (k, (omega arith), at)
  in_either (y ∷ a) b zero x at = inl at
  in_either (y ∷ a) b (suc k) x at = ⊎_elim (λ l. inl l) (λ r. inr (r.0, (let e = r.1 in omega arith), r.2)) (in_either a b k x at)

  in_right : (a b : List A) (j : ℕ) (x : A) → get_elem? b j ≡ some x → get_elem? (a ++ b) (length a + j) ≡ some x
  in_right [] b j x at = let e : 0 + j ≡ j = omega arith in ap (get_elem? b) e ∙ at
  in_right (y ∷ a) b j x at = let e : suc (length a) + j ≡ suc (length a + j) = omega arith in ap (get_elem? (y ∷ (a ++ b))) e ∙ in_right a b j x at

  mapped_at : {B : Type 0} (f : A → B) (l : List A) (i : ℕ) (b : B) → get_elem? (map f l) i ≡ some b → (a : A) × (get_elem? l i ≡ some a) × (f a ≡ b)
  mapped_at f [] i b at = absurd (some-ne-none b (sym at))
  mapped_at f (x ∷ l) zero b at = (x, refl, some-injective (f x) b at)
  mapped_at f (x ∷ l) (suc i) b at = mapped_at f l i b at

  pub all_from : (P : A → Type 0) (l : List A) → ((i : ℕ) (a : A) → get_elem? l i ≡ some a → P a) → AllByRecursion P l
  all_from P [] f = tt
  all_from P (x ∷ l) f = (f 0 x refl, all_from P l (λ i a at. f (suc i) a at))

  pub all_at : (P : A → Type 0) (l : List A) (i : ℕ) (a : A) → AllByRecursion P l → get_elem? l i ≡ some a → P a
  all_at P [] i a p at = absurd (some-ne-none a (sym at))
  all_at P (x ∷ l) zero a p at = subst P (some-injective x a at) p.0
  all_at P (x ∷ l) (suc i) a p at = all_at P l i a p.1 at

  pub at_within : (l : List A) (i : ℕ) (a : A) → get_elem? l i ≡ some a → i < length l
  at_within [] i a at = absurd (some-ne-none a (sym at))
  at_within (x ∷ l) zero a at = omega arith
  at_within (x ∷ l) (suc i) a at = let t = at_within l i a at in omega arith

  pub is_at : (l : List A) (i : ℕ) → i < length l → (a : A) × (get_elem? l i ≡ some a)
  is_at [] i lt = absurd (omega arith)
  is_at (x ∷ l) zero lt = (x, refl)
  is_at (x ∷ l) (suc i) lt = is_at l i (let less : i < length l = omega arith in less)

  got_within : (l : List A) (q : ℕ) (a : A) → slice_get l q ≡ Some a → q < length l
  got_within [] q a e = absurd (no_slot a e)
  got_within (x ∷ l) zero a e = omega arith
  got_within (x ∷ l) (suc q) a e = let t = got_within l q a e in omega arith

≤_or_< : (a b : ℕ) → (a ≤ b) ⊎ (b < a)
≤_or_< a b = ⊎_elim (λ (e : b - a + a ≡ b). inl (omega arith)) (λ (e : b - a + a ≢ b). inr (omega arith)) (decide (b - a + a) b)

by_three : (n q : ℕ) → q < 3 * n → (i : ℕ) × (j : ℕ) × (i < n) × (j < 3) × (q ≡ 3 * i + j)
by_three zero q lt = absurd (omega arith)
by_three (suc n) q lt = ⊎_elim
    (λ (le : 3 * n ≤ q). (n, q - 3 * n, (omega arith), (omega arith), (omega arith)))
    (λ (less : q < 3 * n). let t = by_three n q less in (t.0, t.1, (let l = t.2 in omega arith), t.3, t.4))
    (≤_or_< (3 * n) q)

-- ---- the board

-- a view is in a buffer of a seat, and has the eye that the board names there
pub record Boards (seats : ℕ) (buffer : ℕ → ℕ) (eye : ℕ → OpenedEye) (v : ViewState) : Type 0 where
  pub i : ℕ
  pub within : i < seats
  pub seat : v.seat ≡ suc i
  pub at : v.buffer ≡ buffer i
  pub same : v.eye ≡ eye i

abbrev pub BoardsFront : ℕ → (ℕ → Cell) → ViewState → Type 0
BoardsFront seats cells v = Boards seats (λ i. (cells i).front) (λ i. (cells i).shown.eye) v

abbrev pub BoardsMiddle : ℕ → (ℕ → Cell) → ViewState → Type 0
BoardsMiddle seats cells v = Boards seats (λ i. (cells i).middle) (λ i. (cells i).ahead.eye) v

module _ {V : Type 0} (view : V → ViewState) (seats : ℕ) (board : List (Option OpenedEye)) (cells : ℕ → Cell) (fronts middles : List V)
    (long : length board ≡ 3 * seats) (names : (i j : ℕ) → i < seats → j < 3 → slice_get board (3 * i + j) ≡ Some (named (cells i) j)) (apart : (i : ℕ) → i < seats → Apart (cells i))
    (is_front : (k : ℕ) (v : V) → get_elem? fronts k ≡ some v → BoardsFront seats cells (view v))
    (one_front : (k l : ℕ) (v w : V) → get_elem? fronts k ≡ some v → get_elem? fronts l ≡ some w → (view v).seat ≡ (view w).seat → k ≡ l)
    (each_front : (i : ℕ) → i < seats → (k : ℕ) × (v : V) × (get_elem? fronts k ≡ some v) × ((view v).seat ≡ suc i))
    (is_middle : (i : ℕ) (v : V) → get_elem? middles i ≡ some v → BoardsMiddle seats cells (view v) × ((view v).seat ≡ suc i))
    (each_middle : length middles ≡ seats) where
  abbrev OnBoard : ViewState → Type 0
  OnBoard v = (0 < v.seat) × (v.buffer < 3) × (slice_get board (3 * (v.seat - 1) + v.buffer) ≡ Some (Some v.eye))

  front_on : (v : ViewState) → BoardsFront seats cells v → OnBoard v
  front_on v b = let a = apart b.i b.within in let s = b.seat in let t = b.at in let less = a.front_in in
      let place : 3 * (v.seat - 1) + v.buffer ≡ 3 * b.i + (cells b.i).front = omega arith in
      ((omega arith), (omega arith), ap (slice_get board) place ∙ (names b.i (cells b.i).front b.within less ∙ ap Some (named_front (cells b.i) (cells b.i).front refl ∙ ap Some (sym b.same))))

  middle_on : (v : ViewState) → BoardsMiddle seats cells v → OnBoard v
  middle_on v b = let a = apart b.i b.within in let s = b.seat in let t = b.at in let less = a.middle_in in
      let place : 3 * (v.seat - 1) + v.buffer ≡ 3 * b.i + (cells b.i).middle = omega arith in
      ((omega arith), (omega arith), ap (slice_get board) place ∙ (names b.i (cells b.i).middle b.within less ∙ ap Some (named_middle (cells b.i) (cells b.i).middle (λ e. a.front_middle (sym e)) refl ∙ ap Some (sym b.same))))

  -- a front and a middle of one seat are in two buffers
  not_both : (v w : ViewState) → BoardsFront seats cells v → BoardsMiddle seats cells w → v.seat ≡ w.seat → v.buffer ≢ w.buffer
  not_both v w b m s e = let p = b.seat in let q = m.seat in let is : b.i ≡ m.i = omega arith in
      (apart m.i m.within).front_middle (ap (λ i. (cells i).front) (sym is) ∙ (sym b.at ∙ (e ∙ m.at)))

  abbrev IsPlace : ℕ → ViewState → Type 0
  IsPlace k s = (v : V) × (view v ≡ s) × ((get_elem? fronts k ≡ some v) ⊎ ((j : ℕ) × (k ≡ length fronts + j) × (get_elem? middles j ≡ some v)))

  where_is : (k : ℕ) (s : ViewState) → get_elem? (map view (fronts ++ middles)) k ≡ some s → IsPlace k s
  where_is k s at = let m = mapped_at view (fronts ++ middles) k s at in (m.0, m.2, in_either fronts middles k m.0 m.1)

  same_place : (k l : ℕ) (s t : ViewState) → IsPlace k s → IsPlace l t → s.seat ≡ t.seat → s.buffer ≡ t.buffer → k ≡ l
  same_place k l s t a b seat buffer =
      let seats_same : (view a.0).seat ≡ (view b.0).seat = ap (λ (u : ViewState). u.seat) a.1 ∙ (seat ∙ ap (λ (u : ViewState). u.seat) (sym b.1)) in
      let buffers_same : (view a.0).buffer ≡ (view b.0).buffer = ap (λ (u : ViewState). u.buffer) a.1 ∙ (buffer ∙ ap (λ (u : ViewState). u.buffer) (sym b.1)) in
      ⊎_elim
      (λ f. ⊎_elim
      (λ h. one_front k l a.0 b.0 f h seats_same)
      (λ m. absurd (not_both (view a.0) (view b.0) (is_front k a.0 f) (is_middle m.0 b.0 m.2).0 seats_same buffers_same))
      b.2)
      (λ m. ⊎_elim
      (λ h. absurd (not_both (view b.0) (view a.0) (is_front l b.0 h) (is_middle m.0 a.0 m.2).0 (sym seats_same) (sym buffers_same)))
      (λ n. let p = (is_middle m.0 a.0 m.2).1 in let q = (is_middle n.0 b.0 n.2).1 in let e = m.1 in let f = n.1 in omega arith)
      b.2)
      a.2

  abbrev Names : ℕ → Type 0
  Names q = (k : ℕ) × (s : ViewState) × (get_elem? (map view (fronts ++ middles)) k ≡ some s) × (q ≡ 3 * (s.seat - 1) + s.buffer)

  front_named : (i j q : ℕ) → i < seats → q ≡ 3 * i + j → j ≡ (cells i).front → Names q
  front_named i j q lt is e = let f = each_front i lt in let b = is_front f.0 f.1 f.2 in let s = b.seat in let t = f.3 in
      let same : b.i ≡ i = omega arith in let at = b.at ∙ ap (λ n. (cells n).front) same in
      (f.0, view f.1, at_map view (fronts ++ middles) f.0 f.1 (at_longer fronts middles f.0 f.1 f.2), (omega arith))

  middle_named : (i j q : ℕ) → i < seats → q ≡ 3 * i + j → j ≡ (cells i).middle → Names q
  middle_named i j q lt is e = let m = is_at middles i (omega arith) in let b = is_middle i m.0 m.1 in let s = b.0.seat in let t = b.1 in
      let same : b.0.i ≡ i = omega arith in let at = b.0.at ∙ ap (λ n. (cells n).middle) same in
      (length fronts + i, view m.0, at_map view (fronts ++ middles) (length fronts + i) m.0 (in_right fronts middles i m.0 m.1), (omega arith))

  not_back : (i j : ℕ) (eye : OpenedEye) → i < seats → j < 3 → slice_get board (3 * i + j) ≡ Some (Some eye) → j ≢ (cells i).front → j ≢ (cells i).middle → ⊥
  not_back i j eye lt less e f m = no_slot eye (sym (named_none (cells i) j f m) ∙ some_same _ _ (sym (names i j lt less) ∙ e))

  pub are_on_board : AreAllOnBoard board (map view (fronts ++ middles))
  are_on_board = record {
    each = all_from OnBoard (map view (fronts ++ middles)) (λ k s at. let p = where_is k s at in subst OnBoard p.1 (⊎_elim
        (λ f. front_on (view p.0) (is_front k p.0 f))
        (λ m. middle_on (view p.0) (is_middle m.0 p.0 m.2).0)
        p.2));
    apart = λ k l s t at at' seat buffer. same_place k l s t (where_is k s at) (where_is l t at') seat buffer;
    only = λ q eye e. let t = by_three seats q (let lt = got_within board q (Some eye) e in omega arith) in
        let there = ap (slice_get board) (sym t.4) ∙ e in ⊎_elim
        (λ f. front_named t.0 t.1 q t.2 t.4 f)
        (λ (nf : t.1 ≢ (cells t.0).front). ⊎_elim
        (λ m. middle_named t.0 t.1 q t.2 t.4 m)
        (λ (nm : t.1 ≢ (cells t.0).middle). absurd (not_back t.0 t.1 eye t.2 t.3 there nf nm))
        (decide t.1 (cells t.0).middle))
        (decide t.1 (cells t.0).front);
  }

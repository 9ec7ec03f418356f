-- Boards that name views, as these are made and taken back.
use Rattle.std.proofs.Common.{◌≡◌, ◌≢◌, ◌⊎◌, inl, inr, ⊎_elim, ℕ, zero, suc, ◌+◌, ◌-◌, ◌*◌, ◌<◌, true, List, [], ◌∷◌, ◌++◌, map, length, reverse, take, append-nil, Option, Some, None, refl, sym, ap, ◌∙◌, subst, arith}
use Rattle.std.specs.Prelude.{slice_get, slice_set}
use Rattle.std.specs.List.{AllByRecursion, list_all}
use Rattle.std.proofs.lemmas.List.{map-append, reverse-append, reverse-reverse}
use Rattle.std.proofs.lemmas.List.Sums.{sum_by_push}
use mathlib.Core.Option.{some, some-injective, some-ne-none}
use lib.ListN.{get_elem?}
use Rattle.fine_places.proofs.Lists.{decide, some_same}
use Rattle.fine_boxes.specs.Lists.{get_set_else}
use Rattle.fine_model.specs.declared.law.OpenedEye.{OpenedEye}
use Rattle.fine_model.specs.declared.law.ViewState.{ViewState}
use Rattle.fine_model.specs.Boards.{Buffer, buffer_at, is_empty}
use Rattle.partition_hold.specs.Views.{ViewValue, opened, state_of}
use Rattle.epoch_room.specs.Value.{RoomValue}
use Rattle.epoch_room.specs.Whole.{IsWhole}
use Rattle.epoch_room.proofs.OpenEpochs.Behind.{keeps_none}
use Rattle.epoch_room.proofs.Joining.{keeps_then}
use Rattle.fine_hall.specs.Halls.{AreAllOnBoard}
use Rattle.hall_rooms.specs.Boards.{Names, TakesBackAll, faults_of, with_views}

-- ---- lists

pub snoc_reversed : {A : Type 0} (l : List A) (a : A) → reverse (l ++ a ∷ []) ≡ a ∷ reverse l
snoc_reversed l a = reverse-append l (a ∷ [])

-- a list from which nothing could be popped
pub none_left : {A : Type 0} (l m : List A) (n : ℕ) → n ≡ 0 → l ≡ m ++ [] → m ≡ take (n - 1) l → l ≡ []
none_left l m n none is rest = is ∙ (append-nil m ∙ (rest ∙ ap (λ k. take k l) (let e : n - 1 ≡ 0 = omega (arith, none) in e)))

no_item : {A : Type 0} {P : Type 0} (a : A) → ◌≡◌ {A = Option A} None (Some a) → P
no_item a e = absurd (let x = e in cc)

-- what was set is there, and once it is emptied the list is as it was
pub set_there : {A : Type 0} (l : List A) (at : ℕ) (was x : A) → slice_get l at ≡ Some was → slice_get (slice_set l at x) at ≡ Some x
set_there [] at was x is = no_item was is
set_there (b ∷ l) zero was x is = refl
set_there (b ∷ l) (suc at) was x is = set_there l at was x is

pub set_back : {A : Type 0} (l : List A) (at : ℕ) (was x : A) → slice_get l at ≡ Some was → slice_set (slice_set l at x) at was ≡ l
set_back [] at was x is = refl
set_back (b ∷ l) zero was x is = ap (λ c. c ∷ l) (sym (some_same b was is))
set_back (b ∷ l) (suc at) was x is = ap (λ m. b ∷ m) (set_back l at was x is)

-- ---- a view more

-- a board on which a view was posted names it, and then the rest
pub names_more : (board : List Buffer) (v : ViewValue) (views : List ViewValue) → slice_get board (buffer_at v.seat v.buffer) ≡ Some None → Names board views → Names (slice_set board (buffer_at v.seat v.buffer) (Some (opened v.eye))) (v ∷ views)
names_more board v views empty names = (
  set_there board (buffer_at v.seat v.buffer) None (Some (opened v.eye)) empty,
  subst (λ b. Names b views) (sym (set_back board (buffer_at v.seat v.buffer) None (Some (opened v.eye)) empty)) names,
)

-- the last one is named, and once it is taken back the rest are
pub names_last : (board : List Buffer) (left more others : List ViewValue) (v : ViewValue) → left ≡ more ++ v ∷ [] → Names board (reverse left ++ others) → Names board (v ∷ (reverse more ++ others))
names_last board left more others v is names = subst (λ l. Names board (l ++ others)) (ap reverse is ∙ snoc_reversed more v) names

pub names_less : (board new : List Buffer) (left more others : List ViewValue) (v : ViewValue) → left ≡ more ++ v ∷ [] → new ≡ slice_set board (buffer_at v.seat v.buffer) None → Names board (reverse left ++ others) → Names new (reverse more ++ others)
names_less board new left more others v is emptied names = subst (λ b. Names b (reverse more ++ others)) (sym emptied) (names_last board left more others v is names).1

-- ---- all views of a hall

-- the view at an index of a list with one more behind
at_front : {A : Type 0} (l : List A) (a b : A) (i : ℕ) → get_elem? l i ≡ some b → get_elem? (l ++ a ∷ []) i ≡ some b
at_front [] a b i e = absurd (some-ne-none b (sym e))
at_front (x ∷ l) a b zero e = e
at_front (x ∷ l) a b (suc i) e = at_front l a b i e

at_last : {A : Type 0} (l : List A) (a : A) → get_elem? (l ++ a ∷ []) (length l) ≡ some a
at_last [] a = refl
at_last (x ∷ l) a = at_last l a

pub within : {A : Type 0} (l : List A) (b : A) (i : ℕ) → get_elem? l i ≡ some b → i < length l
within [] b i e = absurd (some-ne-none b (sym e))
within (x ∷ l) b zero e = omega arith
within (x ∷ l) b (suc i) e = let h = within l b i e in omega (arith, h)

pub snoc_at : {A : Type 0} (l : List A) (a b : A) (j : ℕ) → get_elem? (l ++ a ∷ []) j ≡ some b → (get_elem? l j ≡ some b) ⊎ ((j ≡ length l) × (a ≡ b))
snoc_at [] a b zero e = inr (refl, some-injective a b e)
snoc_at [] a b (suc j) e = absurd (some-ne-none b (sym e))
snoc_at (x ∷ xs) a b zero e = inl e
snoc_at (x ∷ xs) a b (suc j) e = ⊎_elim (λ p. inl p) (λ p. inr (ap suc p.0, p.1)) (snoc_at xs a b j e)

all_last : {A : Type 0} (P : A → Type 0) (l : List A) (a : A) → AllByRecursion P (l ++ a ∷ []) → AllByRecursion P l × P a
all_last P [] a h = (tt, h.0)
all_last P (x ∷ l) a h = let t = all_last P l a h.1 in ((h.0, t.0), t.1)

all_at : {A : Type 0} (P : A → Type 0) (l : List A) (a : A) (i : ℕ) → AllByRecursion P l → get_elem? l i ≡ some a → P a
all_at P [] a i h e = absurd (some-ne-none a (sym e))
all_at P (x ∷ l) a zero h e = subst P (some-injective x a e) h.0
all_at P (x ∷ l) a (suc i) h e = all_at P l a i h.1 e

-- an index of the board is that of one seat and one of its buffers
pub place_alike : (s t b c : ℕ) → 0 < s → 0 < t → b < 3 → c < 3 → 3 * (s - 1) + b ≡ 3 * (t - 1) + c → (s ≡ t) × (b ≡ c)
place_alike s t b c ps pt lb lc e = (omega (arith, ps, pt, lb, lc, e), omega (arith, ps, pt, lb, lc, e))

abbrev Posted : List Buffer → ViewState → Type 0
Posted board v = (0 < v.seat) × (v.buffer < 3) × (slice_get board (3 * (v.seat - 1) + v.buffer) ≡ Some (Some v.eye))

none_on : (board : List Buffer) → ((q : ℕ) (eye : OpenedEye) → slice_get board q ≡ Some (Some eye) → ⊥) → list_all is_empty board ≡ true
none_on [] none = refl
none_on (None ∷ board) none = none_on board (λ q eye e. none (suc q) eye e)
none_on (Some eye ∷ board) none = absurd (none 0 eye refl)

-- the last view is taken back
module _ (board : List Buffer) (l : List ViewState) (v : ViewState) (a : AreAllOnBoard board (l ++ v ∷ [])) where
  abbrev slot : ℕ
  slot = 3 * (v.seat - 1) + v.buffer

  pub own : Posted board v
  own = (all_last (Posted board) l v a.each).1

  own_last : get_elem? (l ++ v ∷ []) (length l) ≡ some v
  own_last = at_last l v

  -- no other view stands in its buffer
  other : (i : ℕ) (w : ViewState) → get_elem? l i ≡ some w → 3 * (w.seat - 1) + w.buffer ≢ slot
  other i w at e =
      let p = all_at (Posted board) l w i (all_last (Posted board) l v a.each).0 at in
      let s = place_alike w.seat v.seat w.buffer v.buffer p.0 own.0 p.1 own.1 e in
      let j = a.apart i (length l) w v (at_front l v w i at) own_last s.0 s.1 in
      let lt = within l w i at in
      absurd (omega (arith, j, lt))

  each_left : (m : List ViewState) → ((i : ℕ) (w : ViewState) → get_elem? m i ≡ some w → 3 * (w.seat - 1) + w.buffer ≢ slot) → AllByRecursion (Posted board) m → AllByRecursion (Posted (slice_set board slot None)) m
  each_left [] apart h = tt
  each_left (w ∷ m) apart h = ((h.0.0, h.0.1, get_set_else board slot (3 * (w.seat - 1) + w.buffer) None (apart 0 w refl) ∙ h.0.2), each_left m (λ i u at. apart (suc i) u at) h.1)

  only_left : (q : ℕ) (eye : OpenedEye) → slice_get (slice_set board slot None) q ≡ Some (Some eye) → (i : ℕ) × (w : ViewState) × (get_elem? l i ≡ some w) × (q ≡ 3 * (w.seat - 1) + w.buffer)
  only_left q eye e = ⊎_elim (λ is. absurd (emptied (subst (λ n. slice_get (slice_set board slot None) n ≡ Some (Some eye)) is e))) elsewhere (decide q slot)
    where
      emptied : slice_get (slice_set board slot None) slot ≡ Some (Some eye) → ⊥
      emptied f = let g = sym (set_there board slot (Some v.eye) None own.2) ∙ f in let h = some_same None (Some eye) g in no_item eye h

      elsewhere : q ≢ slot → (i : ℕ) × (w : ViewState) × (get_elem? l i ≡ some w) × (q ≡ 3 * (w.seat - 1) + w.buffer)
      elsewhere ne =
          let o = a.only q eye (sym (get_set_else board slot q None ne) ∙ e) in
          ⊎_elim (λ at. (o.0, o.1, at, o.3)) (λ last. absurd (ne (o.3 ∙ ap (λ (w : ViewState). 3 * (w.seat - 1) + w.buffer) (sym last.1)))) (snoc_at l v o.1 o.0 o.2)

  pub left : AreAllOnBoard (slice_set board slot None) l
  left = record {
    each = each_left l other (all_last (Posted board) l v a.each).0;
    apart = λ i j w u at_w at_u seat buffer. a.apart i j w u (at_front l v w i at_w) (at_front l v u j at_u) seat buffer;
    only = only_left;
  }

-- a board that names all views of a hall names them in any order, the last one first
pub named_from : (board : List Buffer) (newest : List ViewValue) → AreAllOnBoard board (map state_of (reverse newest)) → Names board newest
named_from board [] a = none_on board (λ q eye e. let o = a.only q eye e in some-ne-none o.1 (sym o.2))
named_from board (v ∷ newest) a =
    let b = subst (AreAllOnBoard board) split a in
    ((own board (map state_of (reverse newest)) (state_of v) b).2, named_from (slice_set board (buffer_at v.seat v.buffer) None) newest (left board (map state_of (reverse newest)) (state_of v) b))
  where
    split : map state_of (reverse (v ∷ newest)) ≡ map state_of (reverse newest) ++ state_of v ∷ []
    split = ap (map state_of) (reverse-append (v ∷ []) newest) ∙ map-append state_of (reverse newest) (v ∷ [])

pub names_all : (board : List Buffer) (views : List ViewValue) → AreAllOnBoard board (map state_of views) → Names board (reverse views ++ [])
names_all board views a = subst (Names board) (sym (append-nil (reverse views))) (named_from board (reverse views) (subst (λ l. AreAllOnBoard board (map state_of l)) (sym (reverse-reverse views)) a))

-- ---- taking back

pub back_none : (room : RoomValue) → IsWhole room → TakesBackAll 0 room room
back_none room whole = record { room = refl; target = refl; entry = refl; keeps = keeps_none room whole; high = omega arith; low = inl (omega arith) }

pub back_then : (n m : ℕ) (a b c : RoomValue) → TakesBackAll n a b → TakesBackAll m b c → TakesBackAll (n + m) a c
back_then n m a b c first second = record {
  room = second.room ∙ ap (λ r. with_views r c.room) first.room;
  target = second.target ∙ first.target;
  entry = second.entry ∙ first.entry;
  keeps = keeps_then a b c first.keeps second.keeps;
  high = let f = first.high in let s = second.high in omega (arith, f, s);
  low = ⊎_elim (λ f. ⊎_elim (λ s. inl (omega (arith, f, s))) (λ s. inr s) second.low) (λ f. inr (let up = second.keeps.becomes.faults in omega (arith, f, up))) first.low;
}

-- what was taken back so far of these views
pub record BackSoFar (all left : List ViewValue) (old now : RoomValue) : Type 0 where
  pub back : ℕ
  pub sum : back + faults_of left ≡ faults_of all
  pub same : TakesBackAll back old now

pub back_first : (all : List ViewValue) (room : RoomValue) → IsWhole room → BackSoFar all all room room
back_first all room whole = record { back = 0; sum = omega arith; same = back_none room whole }

pub back_next : (all left more : List ViewValue) (v : ViewValue) (old now new : RoomValue) → left ≡ more ++ v ∷ [] → BackSoFar all left old now → TakesBackAll v.eye.faults now new → BackSoFar all more old new
back_next all left more v old now new is s t = record {
  back = s.back + v.eye.faults;
  sum = let a = s.sum in let b = ap faults_of is ∙ sum_by_push (λ (w : ViewValue). w.eye.faults) more v in omega (arith, a, b);
  same = back_then s.back v.eye.faults old now new s.same t;
}

pub back_done : (all left : List ViewValue) (old now : RoomValue) → left ≡ [] → BackSoFar all left old now → TakesBackAll (faults_of all) old now
back_done all left old now none s = subst (λ n. TakesBackAll n old now) (let a = s.sum in let b = ap faults_of none in omega (arith, a, b)) s.same

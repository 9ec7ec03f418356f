-- Which buffer of a seat is which, where words and slots lie, and what the board names.
use Rattle.std.proofs.Common.{◌≡◌, ◌≢◌, ◌⊎◌, ℕ, suc, ◌+◌, ◌*◌, ◌<◌, eqb, cond, List, length, slice_get, set, Bool, true, false, Option, Some, None, sym, refl, ap, ◌∙◌, subst, inl, inr, ⊎_elim, arith, eq-eqb, ne_eqb, true≢false, length-set}
use Rattle.std.proofs.lemmas.Bool.{cond-true, cond-false}
use mathlib.Core.Path.{Path}
use native.Mathlib.Decide.{ℕ_discrete}
use Rattle.fine_model.specs.declared.law.OpenedEye.{OpenedEye}
use Rattle.fine_places.specs.History.{room}
use Rattle.fine_boxes.specs.Boxes.{Cell, Apart, named, mailbox, slot, published_word}
use Rattle.fine_places.proofs.Lists.{decide}
use Rattle.fine_boxes.specs.Lists.{get_set_here, get_set_else}

abbrev pick : {P : Type 0} → Dec P → Cell → Cell → Cell
pick (yes _) a b = a
pick (no _) a b = b

-- one seat's cell is another
pub put : (ℕ → Cell) → ℕ → Cell → ℕ → Cell
put cells i c j = pick (ℕ_discrete j i) c (cells j)

pub put_here : (cells : ℕ → Cell) (i j : ℕ) (c : Cell) → j ≡ i → Path Cell (put cells i c j) c
unfolding put
put_here cells i j c e = go (ℕ_discrete j i)
  where
    go : (d : Dec (j ≡ i)) → Path Cell (pick d c (cells j)) c
    go (yes _) = refl
    go (no n) = absurd (n e)

pub put_else : (cells : ℕ → Cell) (i j : ℕ) (c : Cell) → j ≢ i → Path Cell (put cells i c j) (cells j)
unfolding put
put_else cells i j c ne = go (ℕ_discrete j i)
  where
    go : (d : Dec (j ≡ i)) → Path Cell (pick d c (cells j)) (cells j)
    go (yes e) = absurd (ne e)
    go (no _) = refl

-- what holds of the new cell and of all others
pub by_cell : (count : ℕ) (cells : ℕ → Cell) (i : ℕ) (c : Cell) (P : ℕ → Cell → Type 0) → P i c → ((j : ℕ) → j < count → j ≢ i → P j (cells j)) → (j : ℕ) → j < count → P j (put cells i c j)
by_cell count cells i c P here other j lt = ⊎_elim
    (λ (e : j ≡ i). subst (λ (d : Cell). P j d) (sym (put_here cells i j c e)) (subst (λ (k : ℕ). P k c) (sym e) here))
    (λ (ne : j ≢ i). subst (λ (d : Cell). P j d) (sym (put_else cells i j c ne)) (other j lt ne))
    (decide j i)

-- what the new cell has as the old one
pub put_same : {A : Type 0} (F : Cell → A) (cells : ℕ → Cell) (i : ℕ) (c : Cell) → F c ≡ F (cells i) → (j : ℕ) → F (put cells i c j) ≡ F (cells j)
put_same F cells i c e j = ⊎_elim
    (λ (q : j ≡ i). ap F (put_here cells i j c q) ∙ (e ∙ ap (λ (k : ℕ). F (cells k)) (sym q)))
    (λ (q : j ≢ i). ap F (put_else cells i j c q))
    (decide j i)

-- ---- words and slots

pub box_not_room : (i : ℕ) → mailbox i ≢ room
unfolding mailbox
box_not_room i e = omega arith

pub box_not_published : (i : ℕ) → mailbox i ≢ published_word
unfolding mailbox published_word
box_not_published i e = omega arith

pub published_not_room : published_word ≢ room
unfolding published_word
published_not_room e = omega arith

pub boxes_apart : (i j : ℕ) → i ≢ j → mailbox i ≢ mailbox j
unfolding mailbox
boxes_apart i j ne e = ne (omega arith)

pub box_within : (i count : ℕ) → i < count → mailbox i < suc (suc room) + count
unfolding mailbox
box_within i count lt = omega arith

pub published_within : (count : ℕ) → published_word < suc (suc room) + count
unfolding published_word
published_within count = omega arith

pub box_behind : (i : ℕ) → room < mailbox i
unfolding mailbox
box_behind i = omega arith

pub published_behind : room < published_word
unfolding published_word
published_behind = omega arith

pub slot_not_room : (i j : ℕ) → room ≢ slot i j
unfolding slot
slot_not_room i j e = omega arith

pub slot_behind : (i j : ℕ) → room < slot i j
unfolding slot
slot_behind i j = omega arith

-- slots of two seats, or two buffers of one, differ
pub seats_apart : (i j a b : ℕ) → i ≢ j → a < 3 → b < 3 → slot i a ≢ slot j b
unfolding slot
seats_apart i j a b ne la lb e = ne (omega arith)

pub buffers_apart : (i a b : ℕ) → a ≢ b → slot i a ≢ slot i b
unfolding slot
buffers_apart i a b ne e = ne (omega arith)

pub slot_within : (i a count : ℕ) → i < count → a < 3 → slot i a < suc room + 3 * count
unfolding slot
slot_within i a count lt la = omega arith

-- ---- the board

pub named_front : (c : Cell) (j : ℕ) → j ≡ c.front → named c j ≡ Some c.shown.eye
named_front c j e = cond-true (eqb j c.front) (Some c.shown.eye) (cond (eqb j c.middle) (Some c.ahead.eye) None) (eq-eqb j c.front e)

pub named_middle : (c : Cell) (j : ℕ) → j ≢ c.front → j ≡ c.middle → named c j ≡ Some c.ahead.eye
named_middle c j ne e = cond-false (eqb j c.front) (Some c.shown.eye) (cond (eqb j c.middle) (Some c.ahead.eye) None) (ne_eqb j c.front ne)
    ∙ cond-true (eqb j c.middle) (Some c.ahead.eye) None (eq-eqb j c.middle e)

pub named_none : (c : Cell) (j : ℕ) → j ≢ c.front → j ≢ c.middle → named c j ≡ None
named_none c j ne other = cond-false (eqb j c.front) (Some c.shown.eye) (cond (eqb j c.middle) (Some c.ahead.eye) None) (ne_eqb j c.front ne)
    ∙ cond-false (eqb j c.middle) (Some c.ahead.eye) None (ne_eqb j c.middle other)

-- the three buffers of a seat are all
pub one_of_three : (c : Cell) → Apart c → (j : ℕ) → j < 3 → (j ≡ c.front) ⊎ (j ≡ c.middle) ⊎ (j ≡ c.back)
one_of_three c a j lt = ⊎_elim (λ e. inl e) (λ (n : j ≢ c.front). ⊎_elim (λ e. inr (inl e)) (λ (m : j ≢ c.middle). inr (inr (third n m))) (decide j c.middle)) (decide j c.front)
  where
    third : j ≢ c.front → j ≢ c.middle → j ≡ c.back
    third n m = let f = a.front_in in let g = a.middle_in in let h = a.back_in in let fm = a.front_middle in let fb = a.front_back in let mb = a.middle_back in omega arith

-- the front and the middle were exchanged: the board names the same
pub named_swapped : (d c : Cell) → Apart d → c.front ≡ d.middle → c.middle ≡ d.front → c.shown.eye ≡ d.ahead.eye → c.ahead.eye ≡ d.shown.eye → (j : ℕ) → j < 3 → named d j ≡ named c j
named_swapped d c a front middle shown ahead j lt = ⊎_elim
    (λ (e : j ≡ d.front). named_front d j e ∙ (ap Some (sym ahead) ∙ sym (named_middle c j (λ z. a.front_middle (sym e ∙ (z ∙ front))) (e ∙ sym middle))))
    (λ rest. ⊎_elim
    (λ (e : j ≡ d.middle). named_middle d j (λ z. a.front_middle (sym z ∙ e)) e ∙ (ap Some (sym shown) ∙ sym (named_front c j (e ∙ sym front))))
    (λ (e : j ≡ d.back). named_none d j (λ z. a.front_back (sym z ∙ e)) (λ z. a.middle_back (sym z ∙ e)) ∙ sym (named_none c j (λ z. a.middle_back (sym (z ∙ front) ∙ e)) (λ z. a.front_back (sym (z ∙ middle) ∙ e))))
    rest)
    (one_of_three d a j lt)

some_none : {A : Type 0} (a : A) (o : Option A) → o ≡ Some a → o ≢ None
some_none a o e f = absurd (not_none a (sym e ∙ f))
  where
    test : {A : Type 0} → Option A → Bool
    test None = false
    test (Some b) = true

    not_none : {A : Type 0} (a : A) → Some a ≢ None
    not_none a e = true≢false (ap test e)

-- a buffer of a seat that the board leaves empty is the back one
pub empty_is_back : (c : Cell) → Apart c → (j : ℕ) → j < 3 → named c j ≡ None → j ≡ c.back
empty_is_back c a j lt none = ⊎_elim
    (λ (e : j ≡ c.front). absurd (some_none c.shown.eye (named c j) (named_front c j e) none))
    (λ rest. ⊎_elim (λ (e : j ≡ c.middle). absurd (some_none c.ahead.eye (named c j) (named_middle c j (λ z. a.front_middle (sym z ∙ e)) e) none)) (λ e. e) rest)
    (one_of_three c a j lt)

pub back_is_empty : (c : Cell) → Apart c → (j : ℕ) → j ≡ c.back → named c j ≡ None
back_is_empty c a j e = named_none c j (λ z. a.front_back (sym z ∙ e)) (λ z. a.middle_back (sym z ∙ e))

-- the back became the middle, and the middle the back: the board names the new eye there, and leaves the old middle's buffer empty
pub named_posted : (board : List (Option OpenedEye)) (i count : ℕ) (d c : Cell) → Apart d → i < count → length board ≡ 3 * count → c.front ≡ d.front → c.shown.eye ≡ d.shown.eye → c.middle ≡ d.back → c.back ≡ d.middle
    → ((j : ℕ) → j < 3 → slice_get board (3 * i + j) ≡ Some (named d j)) → (j : ℕ) → j < 3
    → slice_get (set (set board (3 * i + c.middle) (Some c.ahead.eye)) (3 * i + c.back) None) (3 * i + j) ≡ Some (named c j)
named_posted board i count d c a lt long front shown middle back was j le =
    let new : List (Option OpenedEye) = set board (3 * i + c.middle) (Some c.ahead.eye) in
    let else_old : j ≢ c.back → slice_get (set new (3 * i + c.back) None) (3 * i + j) ≡ slice_get new (3 * i + j) = λ ne. get_set_else new (3 * i + c.back) (3 * i + j) None (λ e. ne (omega arith)) in
    let else_new : j ≢ c.middle → slice_get new (3 * i + j) ≡ slice_get board (3 * i + j) = λ ne. get_set_else board (3 * i + c.middle) (3 * i + j) (Some c.ahead.eye) (λ e. ne (omega arith)) in
    ⊎_elim
    (λ (e : j ≡ d.front). else_old (λ z. a.front_middle (sym e ∙ (z ∙ back))) ∙ (else_new (λ z. a.front_back (sym e ∙ (z ∙ middle)))
    ∙ (was j le ∙ ap Some (named_front d j e ∙ (ap Some (sym shown) ∙ sym (named_front c j (e ∙ sym front)))))))
    (λ rest. ⊎_elim
    (λ (e : j ≡ d.middle). let is : j ≡ c.back = e ∙ sym back in
    let here : slice_get (set new (3 * i + c.back) None) (3 * i + j) ≡ Some None = ap (λ (k : ℕ). slice_get (set new (3 * i + c.back) None) (3 * i + k)) is
    ∙ get_set_here new (3 * i + c.back) None (let n = length-set board (3 * i + c.middle) (Some c.ahead.eye) in omega arith) in
    here ∙ ap Some (sym (named_none c j (λ z. a.front_middle (sym (z ∙ front) ∙ e)) (λ z. a.middle_back (sym e ∙ (z ∙ middle))))))
    (λ (e : j ≡ d.back). let is : j ≡ c.middle = e ∙ sym middle in
    else_old (λ z. a.middle_back (sym (z ∙ back) ∙ e)) ∙ (ap (λ (k : ℕ). slice_get new (3 * i + k)) is
    ∙ (get_set_here board (3 * i + c.middle) (Some c.ahead.eye) (omega arith) ∙ ap Some (sym (named_middle c j (λ z. a.front_back (sym (z ∙ front) ∙ e)) is)))))
    rest)
    (one_of_three d a j le)

pub boxes_same : (i j : ℕ) → mailbox i ≡ mailbox j → i ≡ j
unfolding mailbox
boxes_same i j e = omega arith

pub slots_same : (i j a b : ℕ) → i ≡ j → slot i a ≡ slot j b → a ≡ b
unfolding slot
slots_same i j a b e f = omega arith

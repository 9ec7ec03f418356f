-- What stays of the rule of the mailboxes when one seat's mailbox, slots and cell change, and what one seat knows.
use Rattle.std.proofs.Common.{◌≡◌, ◌≢◌, ◌⊎◌, ℕ, suc, ◌<◌, List, length, slice_index, set, Option, sym, ap, ◌∙◌, subst, inl, inr, ⊎_elim, arith, length-set, get_or-set_other}
use mathlib.Core.Option.{some}
use lib.ListN.{get_elem?}
use Rattle.atomic_table.specs.Table.{State}
use Rattle.atomic_table.proofs.Lists.{at_set}
use Rattle.fine_model.specs.declared.law.OpenedEye.{OpenedEye}
use Rattle.fine_model.specs.declared.law.ViewState.{ViewState}
use Rattle.fine_places.specs.declared.model.Placed.{Placed}
use Rattle.fine_places.specs.declared.model.View.{View}
use Rattle.fine_places.specs.History.{room, Owned}
use Rattle.fine_places.specs.Places.{Holds, Homes}
use Rattle.fine_places.specs.Beside.{Around}
use Rattle.fine_boxes.specs.declared.model.BoxNote.{BoxNote}
use Rattle.fine_boxes.specs.declared.model.TurnNote.{TurnNote}
use Rattle.fine_boxes.specs.declared.model.Reads.{Reads}
use Rattle.fine_boxes.specs.Boxes.{Cell, BoxOk, NoteOk, TurnOk, ViewOk, Keeps, mailbox, slot, published_word, given_by, beginning}
use Rattle.fine_places.proofs.Lists.{decide}
use Rattle.fine_boxes.specs.Lists.{all_both}
use Rattle.fine_boxes.specs.Cells.{box_not_room, box_not_published, boxes_apart, slot_not_room, seats_apart}
use Rattle.fine_boxes.specs.Boxing.{box_changed, note_changed, notes_owned}

-- a seat other than one holds the room, or the room is at home
abbrev pub Elsewhere : {T X N : Type 0} → State (Option T) (View X N (Reads N)) → ℕ → Type 0
Elsewhere {T} {X} {N} s id = ((j : ℕ) × (u : View X N (Reads N)) × (j ≢ id) × (get_elem? s.views j ≡ some u) × Holds u.places room) ⊎ (slice_index s.words room ≡ 0)

-- who holds the room is the only one
pub alone : {T X N : Type 0} (p : ℕ) (log : List (Placed N)) (s : State (Option T) (View X N (Reads N))) → Around p log s → (id : ℕ) (v : View X N (Reads N)) → get_elem? s.views id ≡ some v → Holds v.places room → ¬ Elsewhere s id
alone p log s a id v at held else = ⊎_elim
    (λ o. o.2 (a.one_holder o.0 id room o.1 v o.3 at o.4 held))
    (λ z. let pos = a.busy id room v at held in absurd (omega arith))
    else

module _ {T X N : Type 0} (seats : X → ℕ) (view : T → Option ViewState) (board : T → List (Option OpenedEye)) (sealed : T → ℕ) (backs : T → List ℕ)
    (shows : X → List (Placed N) → ViewState → Type 0) (above : ℕ → N → Type 0) (returned : N → ℕ) (x : X) where
  abbrev pub St : Type 0
  St = State (Option T) (View X N (Reads N))

  abbrev pub Kept : ℕ → List (Placed N) → St → Type 0
  Kept p log s = Keeps seats view board sealed backs shows above returned x p log s

  -- The mailbox and the slots of the seat i + 1 change, its cell, which becomes that of cs, and what the seat id knows.
  pub boxes_moved : (p : ℕ) (log : List (Placed N)) (s : St) (r : Kept p log s) (id : ℕ) (v w : View X N (Reads N)) → get_elem? s.views id ≡ some v
      → (i n : ℕ) → i < seats x → (hs : Homes T) (cs : ℕ → Cell) → ((j : ℕ) → j ≢ i → cs j ≡ r.cells j) → length hs ≡ length s.homes
      → ((k : ℕ) → ((a : ℕ) → a < 3 → k ≢ slot i a) → get_elem? hs k ≡ get_elem? s.homes k)
      → BoxOk view (shows x) p log (set s.words (mailbox i) n) hs i (cs i)
      → ((j : ℕ) (u : View X N (Reads N)) → j ≢ id → get_elem? s.views j ≡ some u → (m : BoxNote N) → Owned u.places.shares m.seat → m.seat ≡ suc i
      → NoteOk (seats x) above r.cells log s.homes m → NoteOk (seats x) above cs log hs m)
      → ((t : TurnNote) → Elsewhere s id → TurnOk (seats x) returned p r.cells log s.homes (given_by s.views) t → TurnOk (seats x) returned p cs log hs (given_by (set s.views id w)) t)
      → ViewOk (seats x) above returned p cs log hs (given_by (set s.views id w)) w
      → Kept p log record { words = set s.words (mailbox i) n; homes = hs; views = set s.views id w }
  boxes_moved p log s r id v w at i n near hs cs else long far box same turns own =
      let ws : List ℕ = set s.words (mailbox i) n in
      let vs : List (View X N (Reads N)) = set s.views id w in
      let word : (k : ℕ) → k ≢ mailbox i → slice_index ws k ≡ slice_index s.words k = λ k ne. get_or-set_other s.words (mailbox i) k n 0 ne in
      let other : (j a : ℕ) → j ≢ i → a < 3 → get_elem? hs (slot j a) ≡ get_elem? s.homes (slot j a) = λ j a ne la. far (slot j a) (λ b lb. seats_apart j i a b ne la lb) in
      let room_word : slice_index ws room ≡ slice_index s.words room = word room (λ e. box_not_room i (sym e)) in
      let note : (j : ℕ) (u : View X N (Reads N)) → j ≢ id → get_elem? s.views j ≡ some u → (m : BoxNote N) → Owned u.places.shares m.seat → NoteOk (seats x) above r.cells log s.homes m → NoteOk (seats x) above cs log hs m
      = λ j u ne at' m o q. ⊎_elim
      (λ (e : q.i ≡ i). same j u ne at' m o (q.number ∙ ap suc e) q)
      (λ (other_seat : q.i ≢ i). let is = else q.i other_seat in
      note_changed (seats x) above r.cells cs log log s.homes hs m q (ap (λ (d : Cell). d.shown) is) (λ f. ap (λ (d : Cell). d.fresh) is ∙ f) (λ k h. h)
      (λ e. ap (λ (d : Cell). get_elem? hs (slot q.i d.front)) is ∙ (other q.i (r.cells q.i).front other_seat (r.each_box q.i q.here.within).apart.front_in ∙ e)))
      (decide q.i i) in
      let seat : (j : ℕ) (u : View X N (Reads N)) → j ≢ id → get_elem? s.views j ≡ some u → ViewOk (seats x) above returned p cs log hs (given_by vs) u = λ j u ne at'. let k = r.each_view j u at' in record {
        numbers = k.numbers;
        notes = all_both (λ m o q. note j u ne at' m o q) u.beside.notes (notes_owned u.beside.notes u.places.shares k.numbers) k.notes;
        turning = λ h. let q = k.turning h in record { turn = q.turn; is = q.is; ok = turns q.turn (inl (j, u, ne, at', h)) q.ok };
      } in
      record {
        cells = cs;
        wide = length-set s.words (mailbox i) n ∙ r.wide;
        deep = long ∙ r.deep;
        published = word published_word (λ e. box_not_published i (sym e)) ∙ r.published;
        each_box = λ j lt. ⊎_elim
            (λ (e : j ≡ i). subst (λ (k : ℕ). BoxOk view (shows x) p log ws hs k (cs k)) (sym e) box)
            (λ (ne : j ≢ i). subst (λ (d : Cell). BoxOk view (shows x) p log ws hs j d) (sym (else j ne))
            (box_changed view (shows x) p p log log s.words ws s.homes hs j (r.cells j) (r.each_box j lt) (word (mailbox j) (boxes_apart j i ne)) (λ a la _. other j a ne la) (λ h. h) (λ h. h) (λ h. h)))
            (decide j i);
        each_view = λ j u e. ⊎_elim (λ t. subst (λ (z : View X N (Reads N)). ViewOk (seats x) above returned p cs log hs (given_by vs) z) t.1 own) (λ t. seat j u t.0 t.1) (at_set s.views id j w u e);
        home = λ z. let z' : slice_index s.words room ≡ 0 = sym room_word ∙ z in let h = r.home z' in record {
          thing = h.thing;
          there = far room (λ a _. slot_not_room i a) ∙ h.there;
          ok = turns (beginning board sealed backs h.thing) (inr z') h.ok;
        };
      }

-- The published number is written by who holds the room, and read by any seat.
use Rattle.std.proofs.Common.{◌≡◌, ◌≢◌, ℕ, ◌<◌, ◌≤◌, List, map, slice_index, set, Bool, true, Option, Some, sym, refl, ap, ◌∙◌, subst, inl, inr, ⊎_elim, arith, le_refl, length-set, get_or-set_same, get_or-set_other}
use Rattle.std.specs.List.{AllByRecursion}
use mathlib.Core.Option.{some}
use lib.ListN.{get_elem?}
use Rattle.atomic_table.specs.Table.{keeps}
use Rattle.atomic_table.proofs.Lists.{at_set}
use Rattle.fine_model.specs.declared.law.OpenedEye.{OpenedEye}
use Rattle.fine_model.specs.declared.law.ViewState.{ViewState}
use Rattle.fine_places.specs.declared.model.Placed.{Placed}
use Rattle.fine_places.specs.declared.model.View.{View}
use Rattle.fine_places.specs.History.{room}
use Rattle.fine_places.specs.Places.{Holds, knowing}
use Rattle.fine_places.specs.Telling.{Sees}
use Rattle.fine_places.specs.Beside.{GoesBeside}
use Rattle.fine_boxes.specs.declared.model.TurnNote.{TurnNote}
use Rattle.fine_boxes.specs.declared.model.Reads.{Reads}
use Rattle.fine_boxes.specs.Boxes.{BoxState, Reaches, NoteOk, TurnOk, ViewOk, Keeps, beginning, mailbox, published_word, given_by, given_of}
use Rattle.fine_boxes.specs.Steps.{PublishesStep, ReadsStep}
use Rattle.fine_places.proofs.Lists.{some_same}
use Rattle.fine_boxes.specs.Lists.{sum_same}
use Rattle.fine_boxes.specs.Cells.{box_not_published, published_not_room, published_within}
use Rattle.fine_boxes.specs.Boxing.{box_changed, turn_kept}
use Rattle.fine_boxes.proofs.Keeping.{Elsewhere, alone}
use Rattle.fine_boxes.proofs.Looking.{rises, sees_all}
use Rattle.fine_boxes.specs.Placing.{own_turn}

module _ {T X N : Type 0} (seats : X → ℕ) (view : T → Option ViewState) (board : T → List (Option OpenedEye)) (sealed : T → ℕ) (backs : T → List ℕ)
    (shows : X → List (Placed N) → ViewState → Type 0) (above : ℕ → N → Type 0) (returned : N → ℕ) (x : X) where
  abbrev Kept : ℕ → List (Placed N) → BoxState T X N → Type 0
  Kept p log s = Keeps seats view board sealed backs shows above returned x p log s

  -- The word of the published number becomes q, up to which all boxes reach, and a seat learns of the places.
  number_moved : (p q n : ℕ) (log : List (Placed N)) (s : BoxState T X N) (r : Kept p log s) → (id : ℕ) (v w : View X N (Reads N)) → get_elem? s.views id ≡ some v → n ≡ q → w.beside ≡ v.beside → w.places.shares ≡ v.places.shares → w.places.held ≡ v.places.held
      → ((i : ℕ) → i < seats x → Reaches (r.cells i) p → Reaches (r.cells i) q)
      → ((t : TurnNote) → Elsewhere s id → TurnOk (seats x) returned p r.cells log s.homes (given_by s.views) t → q ≤ t.top)
      → ((t : TurnNote) → Holds v.places room → v.beside.turn ≡ Some t → TurnOk (seats x) returned p r.cells log s.homes (given_by s.views) t → q ≤ t.top)
      → Kept q log record { words = set s.words published_word n; homes = s.homes; views = set s.views id w }
  number_moved p q n log s r id v w at is same shares held reach turns own =
      let ws : List ℕ = set s.words published_word n in
      let vs : List (View X N (Reads N)) = set s.views id w in
      let word : (k : ℕ) → k ≢ published_word → slice_index ws k ≡ slice_index s.words k = λ k ne. get_or-set_other s.words published_word k n 0 ne in
      let total : given_by vs ≡ given_by s.views = sum_same (λ z. given_of z.beside) s.views id v w at (ap given_of same) in
      let k = r.each_view id v at in
      let room_word = word room (λ e. published_not_room (sym e)) in
      let turn : (t : TurnNote) → TurnOk (seats x) returned p r.cells log s.homes (given_by s.views) t → q ≤ t.top → TurnOk (seats x) returned q r.cells log s.homes (given_by vs) t = λ t ok le.
      turn_kept (seats x) returned p q r.cells log s.homes s.homes (given_by s.views) (given_by vs) t t.out ok.emptied le total ok in
      let mine : ViewOk (seats x) above returned q r.cells log s.homes (given_by vs) w = record {
        numbers = ap (λ (y : Reads N). map (λ m. m.seat) y.notes) same ∙ (k.numbers ∙ ap (map (λ z. z.seat)) (sym shares));
        notes = subst (λ (y : Reads N). AllByRecursion (NoteOk (seats x) above r.cells log s.homes) y.notes) (sym same) k.notes;
        turning = λ h. let hold = subst (λ (l : List Bool). get_elem? l room ≡ some true) held h in let t = k.turning hold in
            record { turn = t.turn; is = ap (λ (y : Reads N). y.turn) same ∙ t.is; ok = turn t.turn t.ok (own t.turn hold t.is t.ok) };
      } in
      let other : (j : ℕ) (u : View X N (Reads N)) → j ≢ id → get_elem? s.views j ≡ some u → ViewOk (seats x) above returned q r.cells log s.homes (given_by vs) u = λ j u ne at'. let o = r.each_view j u at' in record {
        numbers = o.numbers;
        notes = o.notes;
        turning = λ h. let t = o.turning h in record { turn = t.turn; is = t.is; ok = turn t.turn t.ok (turns t.turn (inl (j, u, ne, at', h)) t.ok) };
      } in
      record {
        cells = r.cells;
        wide = length-set s.words published_word n ∙ r.wide;
        deep = r.deep;
        published = get_or-set_same s.words published_word n 0 (let l = r.wide in let h = published_within (seats x) in omega arith) ∙ is;
        each_box = λ i lt. box_changed view (shows x) p q log log s.words ws s.homes s.homes i (r.cells i) (r.each_box i lt) (word (mailbox i) (box_not_published i)) (λ _ _ _. refl) (λ h. h) (λ h. h) (reach i lt);
        each_view = λ j u e. ⊎_elim (λ t. subst (λ (z : View X N (Reads N)). ViewOk (seats x) above returned q r.cells log s.homes (given_by vs) z) t.1 mine) (λ t. other j u t.0 t.1) (at_set s.views id j w u e);
        home = λ z. let z' : slice_index s.words room ≡ 0 = sym room_word ∙ z in let h = r.home z' in record {
          thing = h.thing;
          there = h.there;
          ok = turn (beginning board sealed backs h.thing) h.ok (turns (beginning board sealed backs h.thing) (inr z') h.ok);
        };
      }

  module _ (legal : X → List (Placed N) → Type 0) (touches : ℕ → N → Bool) (slots id : ℕ) where
    pub publishes : PublishesStep (Keeps seats view board sealed backs shows above returned) legal touches seats view shows x slots id
    publishes v c t e held is rise some_seat every p log s r a deep at small about sees =
        let q = own_turn seats view board sealed backs shows above returned x p log s r id v at held t is in
        let known : v.places.published ≡ p = (a.holder id v at held).1 in
        let top : e ≤ t.top = (let l = every 0 some_seat in let h = q.posted_below 0 some_seat in omega arith) in
        let w : View X N (Reads N) = record { places = record v.places { published = e }; beside = v.beside } in (
          e,
          w,
          keeps,
          rises p e log v.places v.places.seen e (omega arith) (inr held) (inl refl) (le_refl e, rise, λ _. refl),
          tt,
          tt,
          number_moved p e e log s r id v w at refl refl refl refl
              (λ i lt _. let h = q.reaches i lt in let l = every i lt in record { fresh = λ f. (let g = h.fresh f in omega arith); stale = λ f. (let g = h.stale f in omega arith) })
              (λ u else _. absurd (alone p log s a id v at held else))
              (λ u _ also _. subst (λ (z : TurnNote). e ≤ z.top) (some_same t u (sym is ∙ also)) top),
          (refl, refl, top),
        )

    pub reads : ReadsStep (Keeps seats view board sealed backs shows above returned) legal touches seats view shows x slots id
    reads v c p log s r a deep at small about sees =
        let found : ℕ = slice_index s.words published_word in
        let known = a.published id v at in
        let is : found ≡ p = r.published in
        let w : View X N (Reads N) = record { places = knowing v.places log found; beside = v.beside } in (
          p,
          w,
          keeps,
          subst (λ (n : ℕ). GoesBeside p p log v.places (knowing v.places log n)) (sym is) (sees_all p log v.places known),
          tt,
          tt,
          number_moved p p found log s r id v w at is refl refl refl (λ _ _ h. h) (λ t _ ok. ok.published) (λ t _ _ ok. ok.published),
          (log, (omega arith), (λ z e. subst (λ (n : ℕ). Sees legal touches z n v.places log) (sym is) (subst (λ (y : X). Sees legal touches y p v.places log) (sym (about z e)) sees)), refl, refl),
        )

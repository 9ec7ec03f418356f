-- A seat looks at its mailbox, and puts the empty slot of its front home.
use Rattle.std.proofs.Common.{slice_get, Some, ◌≡◌, ◌≢◌, ◌⊎◌, ℕ, suc, ◌+◌, ◌*◌, ◌<◌, ◌≤◌, List, [], ◌∷◌, map, length, slice_index, set, Bool, true, false, Option, None, sum_by, sym, refl, ap, ◌∙◌, subst, inl, inr, ⊎_elim, arith, le_refl, length-set, true≢false}
use Rattle.std.proofs.lemmas.List.{set-get_or}
use Rattle.std.specs.List.{AllByRecursion}
use mathlib.Core.Option.{some, none}
use lib.ListN.{get_elem?}
use Rattle.atomic_table.specs.Table.{keeps, takes, gives}
use Rattle.atomic_table.proofs.Lists.{set_else, set_here}
use Rattle.fine_model.specs.declared.law.OpenedEye.{OpenedEye}
use Rattle.fine_model.specs.declared.law.ViewState.{ViewState}
use Rattle.fine_places.specs.declared.model.Placed.{Placed}
use Rattle.fine_places.specs.declared.model.Known.{Known}
use Rattle.fine_places.specs.declared.model.View.{View}
use Rattle.fine_places.specs.History.{room, Owned}
use Rattle.fine_places.specs.Places.{Holds, Homes, Emptied, knowing}
use Rattle.fine_places.specs.Telling.{Sees}
use Rattle.fine_places.specs.Beside.{Around, GoesBeside}
use Rattle.fine_boxes.specs.declared.model.BoxNote.{BoxNote}
use Rattle.fine_boxes.specs.declared.model.TurnNote.{TurnNote}
use Rattle.fine_boxes.specs.declared.model.Reads.{Reads}
use Rattle.fine_boxes.specs.Boxes.{BoxState, Cell, NoteHere, NoteOk, Keeps, bit, mailbox, slot, given_by, given_of}
use Rattle.fine_boxes.specs.Telling.{IsNamed, with_note, looking, landing, Looked}
use Rattle.fine_boxes.specs.Steps.{LooksStep, LandsStep}
use Rattle.fine_boxes.specs.Placing.{own_turn}
use Rattle.fine_places.proofs.Lists.{decide, bool_cases}
use Rattle.fine_boxes.specs.Lists.{sum_same}
use Rattle.fine_boxes.specs.Cells.{named_front, slot_behind, slot_within, seats_apart, buffers_apart}
use Rattle.fine_boxes.specs.Boxing.{box_changed, note_here, notes_owned, turn_homes}
use Rattle.fine_boxes.proofs.Keeping.{boxes_moved}

-- what a step tells that changes what the seat saw, and the published number that it knows
pub rises : {X N : Type 0} (p q : ℕ) (log : List (Placed N)) (v : Known X N) (seen : List (Placed N)) (n : ℕ) → p ≤ q → (q ≡ p) ⊎ Holds v room → (seen ≡ v.seen) ⊎ (seen ≡ log)
    → (n ≤ q) × (v.published ≤ n) × (Holds v room → n ≡ q) → GoesBeside p q log v (knowing v seen n)
rises p q log v seen n rise raised is published = record { rise = rise; raised = raised; seen = is; published = published; about = refl; shares = refl; fronts = refl; held = refl; found = refl; moving = refl }

-- what a step tells that only sees
pub sees_all : {X N : Type 0} (p : ℕ) (log : List (Placed N)) (v : Known X N) → v.published ≤ p → GoesBeside p p log v (knowing v log p)
sees_all p log v le = rises p p log v log p (le_refl p) (inl refl) (inr refl) (le_refl p, le, λ _. refl)

pub sees_none : {X N : Type 0} (p : ℕ) (log : List (Placed N)) (v : Known X N) → v.published ≤ p → (Holds v room → v.published ≡ p) → GoesBeside p p log v v
sees_none p log v le held = rises p p log v v.seen v.published (le_refl p) (inl refl) (inl refl) (le, le_refl v.published, held)

module _ {T X N : Type 0} (seats : X → ℕ) (view : T → Option ViewState) (board : T → List (Option OpenedEye)) (sealed : T → ℕ) (backs : T → List ℕ)
    (shows : X → List (Placed N) → ViewState → Type 0) (above : ℕ → N → Type 0) (returned : N → ℕ) (x : X) where
  abbrev Kept : ℕ → List (Placed N) → BoxState T X N → Type 0
  Kept p log s = Keeps seats view board sealed backs shows above returned x p log s

  -- the one note of a seat
  pub own_note : (p : ℕ) (log : List (Placed N)) (s : BoxState T X N) (r : Kept p log s) (id : ℕ) (v : View X N (Reads N)) → get_elem? s.views id ≡ some v → (m : BoxNote N) (i : ℕ) → v.beside.notes ≡ m ∷ [] → m.seat ≡ suc i
      → NoteHere (seats x) above r.cells log s.homes i m
  own_note p log s r id v at m i is number = note_here (seats x) above r.cells log s.homes i m number (subst (AllByRecursion (NoteOk (seats x) above r.cells log s.homes)) is (r.each_view id v at).notes).0

  -- no other seat has this number
  pub no_other : (p : ℕ) (log : List (Placed N)) (s : BoxState T X N) (r : Kept p log s) → Around p log s → (id : ℕ) (v : View X N (Reads N)) → get_elem? s.views id ≡ some v → (m : BoxNote N) (i : ℕ) → v.beside.notes ≡ m ∷ [] → m.seat ≡ suc i
      → (j : ℕ) (u : View X N (Reads N)) → j ≢ id → get_elem? s.views j ≡ some u → (k : BoxNote N) → Owned u.places.shares k.seat → k.seat ≢ suc i
  no_other p log s r a id v at m i is number j u ne at' k o e = ne (a.apart j id (suc i) u v at' at (subst (Owned u.places.shares) e o)
      (subst (Owned v.places.shares) number (subst (AllByRecursion (λ m. Owned v.places.shares m.seat)) is (notes_owned v.beside.notes v.places.shares (r.each_view id v at).numbers)).0))

  -- its front is in the buffer that the rule has for it
  front_buffer : (p : ℕ) (log : List (Placed N)) (s : BoxState T X N) (r : Kept p log s) (m : BoxNote N) (i : ℕ) → NoteHere (seats x) above r.cells log s.homes i m → m.front.buffer ≡ (r.cells i).front
  front_buffer p log s r m i o = ap (λ (u : ViewState). u.buffer) (sym o.front) ∙ (r.each_box i o.within).front_at.buffer

  -- The own slot of the front, or none, is moved, and the own note changes, but not what it says of the front.
  front_moved : (p : ℕ) (log : List (Placed N)) (s : BoxState T X N) (r : Kept p log s) → Around p log s → (id : ℕ) (v w : View X N (Reads N)) → get_elem? s.views id ≡ some v → (m m' : BoxNote N) (i : ℕ) → v.beside.notes ≡ m ∷ [] → m.seat ≡ suc i
      → (hs : Homes T) → length hs ≡ length s.homes → ((k : ℕ) → k ≢ slot i (r.cells i).front → get_elem? hs k ≡ get_elem? s.homes k)
      → w.beside ≡ with_note v.beside m' → w.places.shares ≡ v.places.shares → w.places.held ≡ v.places.held → m'.seat ≡ m.seat → m'.given_up ≡ m.given_up → NoteHere (seats x) above r.cells log hs i m'
      → Kept p log record { words = set s.words (mailbox i) (slice_index s.words (mailbox i)); homes = hs; views = set s.views id w }
  front_moved p log s r a id v w at m m' i is number hs long far beside shares held seat same_given now =
      let o = own_note p log s r id v at m i is number in
      let d : Cell = r.cells i in
      let b = r.each_box i o.within in
      let k = r.each_view id v at in
      let notes : w.beside.notes ≡ m' ∷ [] = ap (λ (y : Reads N). y.notes) beside in
      let total : given_by (set s.views id w) ≡ given_by s.views = sum_same (λ u. given_of u.beside) s.views id v w at
      (ap (sum_by (λ m. m.given_up)) notes ∙ (ap (λ n. 0 + n) same_given ∙ ap (sum_by (λ m. m.given_up)) (sym is))) in
      let backs_stay : (j : ℕ) → j < seats x → Emptied s.homes (slot j (r.cells j).back) → Emptied hs (slot j (r.cells j).back) = λ j lt e. far (slot j (r.cells j).back)
      (⊎_elim (λ (q : j ≡ i). subst (λ (n : ℕ). slot n (r.cells n).back ≢ slot i d.front) (sym q) (buffers_apart i d.back d.front (λ z. b.apart.front_back (sym z))))
      (λ (ne : j ≢ i). seats_apart j i (r.cells j).back d.front ne (r.each_box j lt).apart.back_in b.apart.front_in) (decide j i)) ∙ e in
      boxes_moved seats view board sealed backs shows above returned x p log s r id v w at i (slice_index s.words (mailbox i)) o.within hs r.cells (λ j ne. refl) long
      (λ n ne. far n (ne d.front b.apart.front_in))
      (box_changed view (shows x) p p log log s.words (set s.words (mailbox i) (slice_index s.words (mailbox i))) s.homes hs i d b (ap (λ (ws : List ℕ). slice_index ws (mailbox i)) (set-get_or s.words (mailbox i) 0))
      (λ e le q. far (slot i e) (buffers_apart i e d.front (λ z. b.apart.front_middle (sym z ∙ q)))) (λ h. h) (λ h. h) (λ h. h))
      (λ j u ne at' n owned e q. absurd (no_other p log s r a id v at m i is number j u ne at' n owned e))
      (λ t _ q. turn_homes (seats x) returned p r.cells log s.homes hs (given_by s.views) (given_by (set s.views id w)) t backs_stay total q)
      (record {
        numbers = ap (map (λ m. m.seat)) notes ∙ (ap (λ n. n ∷ []) seat ∙ (ap (map (λ m. m.seat)) (sym is) ∙ (k.numbers ∙ ap (map (λ s. s.seat)) (sym shares))));
        notes = subst (AllByRecursion (NoteOk (seats x) above r.cells log hs)) (sym notes) (record { i = i; number = seat ∙ number; here = now }, tt);
        turning = λ h. let q = k.turning (subst (λ (l : List Bool). get_elem? l room ≡ some true) held h) in
            record { turn = q.turn; is = ap (λ (y : Reads N). y.turn) beside ∙ q.is; ok = turn_homes (seats x) returned p r.cells log s.homes hs (given_by s.views) (given_by (set s.views id w)) q.turn backs_stay total q.ok };
      })

  -- in a turn of the seat the board names its front
  pub front_named : (p : ℕ) (log : List (Placed N)) (s : BoxState T X N) (r : Kept p log s) (id : ℕ) (v : View X N (Reads N)) → get_elem? s.views id ≡ some v → Holds v.places room → (t : TurnNote) → v.beside.turn ≡ Some t
      → (m : BoxNote N) (i : ℕ) → NoteHere (seats x) above r.cells log s.homes i m → IsNamed t i m.front
  front_named p log s r id v at held t turn m i o =
      let q = own_turn seats view board sealed backs shows above returned x p log s r id v at held t turn in
      let d : Cell = r.cells i in
      let b = r.each_box i o.within in
      let names : slice_get t.board (3 * i + d.shown.buffer) ≡ Some (Some d.shown.eye) = ap (λ j. slice_get t.board (3 * i + j)) b.front_at.buffer ∙ (q.names i d.front o.within b.apart.front_in ∙ ap Some (named_front d d.front refl)) in
      subst (IsNamed t i) o.front (names, (q.below i o.within).0)

  module _ (legal : X → List (Placed N) → Type 0) (touches : ℕ → N → Bool) (slots id : ℕ) where
    pub looks : LooksStep (Keeps seats view board sealed backs shows above returned) legal touches seats view shows x slots id
    looks v c m i is number inside p log s r a deep at small about sees =
        let o = own_note p log s r id v at m i is number in
        let d : Cell = r.cells i in
        let b = r.each_box i o.within in
        let buffer = front_buffer p log s r m i o in
        let home : ℕ = slot i m.front.buffer in
        let known = a.published id v at in
        let tell : (fresh : Bool) → d.fresh ≡ fresh → Looked legal touches shows m fresh v (record { places = knowing v.places log p; beside = with_note v.beside (looking m fresh) }) = λ fresh e. record {
          log = log;
          published = p;
          no_earlier = known;
          places = refl;
          beside = refl;
          sees = λ z q. subst (λ (y : X). Sees legal touches y p v.places log × (fresh ≡ false → shows y log m.front × (p ≤ m.front.upto))) (sym (about z q))
              (sees, λ stale. (subst (shows x log) o.front b.front_shows, subst (λ (u : ViewState). p ≤ u.upto) o.front (b.reaches.stale (e ∙ stale))));
          on_board = λ t j held turn own. front_named p log s r id v at held t turn m j (own_note p log s r id v at m j is own);
        } in
        ⊎_elim
        (λ (fresh : d.fresh ≡ true).
        let w : View X N (Reads N) = record { places = knowing v.places log p; beside = with_note v.beside (looking m true) } in
        let empty : Emptied s.homes home = ap (λ j. get_elem? s.homes (slot i j)) buffer ∙ o.emptied inside in (
          p,
          w,
          takes home None,
          sees_all p log v.places known,
          slot_behind i m.front.buffer,
          empty,
          front_moved p log s r a id v w at m (looking m true) i is number (set s.homes home none) (length-set s.homes home none)
              (λ k ne. set_else s.homes home k none (λ e. ne (e ∙ ap (slot i) buffer))) refl refl refl refl refl
              (record { within = o.within; front = o.front; found = λ _. fresh; marks = o.marks; first = o.first; emptied = λ e. absurd (true≢false e) }),
          (d.middle, true, b.word ∙ ap (λ f. 2 * d.middle + bit f) fresh, b.apart.middle_in, tell true fresh, refl),
        ))
        (λ (stale : d.fresh ≡ false).
        let w : View X N (Reads N) = record { places = knowing v.places log p; beside = with_note v.beside (looking m false) } in (
          p,
          w,
          keeps,
          sees_all p log v.places known,
          tt,
          tt,
          front_moved p log s r a id v w at m (looking m false) i is number s.homes refl (λ k _. refl) refl refl refl refl refl
              (record { within = o.within; front = o.front; found = λ e. absurd (true≢false (sym e)); marks = o.marks; first = o.first; emptied = λ _. o.emptied inside }),
          (d.middle, false, b.word ∙ ap (λ f. 2 * d.middle + bit f) stale, b.apart.middle_in, tell false stale, refl),
        ))
        (bool_cases d.fresh)

    pub lands : LandsStep (Keeps seats view board sealed backs shows above returned) legal touches seats view shows x slots id
    lands v c m i is number inside p log s r a deep at small about sees =
        let o = own_note p log s r id v at m i is number in
        let buffer = front_buffer p log s r m i o in
        let home : ℕ = slot i m.front.buffer in
        let w : View X N (Reads N) = record { places = v.places; beside = with_note v.beside (landing m) } in
        let near : home < length s.homes = (let l = r.deep in let h = slot_within i (r.cells i).front (seats x) o.within (r.each_box i o.within).apart.front_in in let e = ap (slot i) buffer in omega arith) in (
          p,
          w,
          gives,
          sees_none p log v.places (a.published id v at) (λ h. (a.holder id v at h).1),
          tt,
          tt,
          front_moved p log s r a id v w at m (landing m) i is number (set s.homes home (some None)) (length-set s.homes home (some None))
              (λ k ne. set_else s.homes home k (some None) (λ e. ne (e ∙ ap (slot i) buffer))) refl refl refl refl refl
              (record { within = o.within; front = o.front; found = o.found; marks = o.marks; first = o.first; emptied = λ _. ap (λ j. get_elem? (set s.homes home (some None)) (slot i j)) (sym buffer) ∙ set_here s.homes home (some None) near }),
          (refl, refl),
        )

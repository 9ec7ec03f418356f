-- Each step is allowed by the rule of a table whose places keep the mailboxes beside them, and tells what it tells.
use Rattle.std.proofs.Common.{◌≡◌, ℕ, suc, ◌+◌, ◌*◌, ◌<◌, ◌≤◌, List, [], ◌∷◌, slice_index, Bool, true, false, Option, Some, None, if◌then◌else◌, sym, refl, ap, ◌∙◌, subst, arith}
use mathlib.Core.Option.{none}
use Rattle.atomic_table.specs.Table.{State, Me, step, Allows}
use Rattle.fine_model.specs.declared.law.OpenedEye.{OpenedEye}
use Rattle.fine_model.specs.declared.law.ViewState.{ViewState}
use Rattle.fine_model.specs.Views.{counting}
use Rattle.fine_places.specs.declared.model.Placed.{Placed}
use Rattle.fine_places.specs.declared.model.View.{View}
use Rattle.fine_places.specs.History.{room}
use Rattle.fine_places.specs.Places.{Holds, Rules, knowing}
use Rattle.fine_places.specs.Telling.{Sees}
use Rattle.fine_places.specs.Beside.{IsBehind, AllowsBeside}
use Rattle.fine_places.proofs.Behind.{beside_allows}
use Rattle.fine_places.proofs.Lists.{same_head, some_same}
use Rattle.fine_boxes.specs.declared.model.BoxNote.{BoxNote}
use Rattle.fine_boxes.specs.declared.model.TurnNote.{TurnNote}
use Rattle.fine_boxes.specs.declared.model.Reads.{Reads}
use Rattle.fine_boxes.specs.Boxes.{Keeps, ShowsAnyway, bit, mailbox, slot, published_word}
use Rattle.fine_boxes.specs.Telling.{Looked, Refreshed, FetchedBack, MayPost, Posted, with_note, landing}
use Rattle.fine_boxes.specs.Plays.{looked, swapped, landed, fetched_back, posted, landed_back, published, read}
use Rattle.fine_boxes.specs.Lists.{first_same, same_place}
use Rattle.fine_boxes.specs.Cells.{box_behind, slot_behind, published_behind, boxes_same, slots_same}
use Rattle.fine_boxes.proofs.Looking.{looks, lands}
use Rattle.fine_boxes.proofs.Refreshing.{swaps}
use Rattle.fine_boxes.proofs.Posting.{fetches_back, posts, lands_back}
use Rattle.fine_boxes.proofs.Publishing.{publishes, reads}

same_number : (n i j : ℕ) → n ≡ suc i → n ≡ suc j → i ≡ j
same_number n i j e f = omega arith

same_count : (v : ViewState) (a b : ℕ) → Some (counting v a) ≡ Some (counting v b) → a ≡ b
same_count v a b e = ap (λ (u : ViewState). u.faults) (some_same (counting v a) (counting v b) e)

module _ {T X N : Type 0} (stands : X → ℕ → ℕ → T → List (Placed N) → Type 0) (legal : X → List (Placed N) → Type 0) (numbers : X → ℕ) (touches : ℕ → N → Bool)
    (grows : (y : X) (k a b : ℕ) (thing : T) (log : List (Placed N)) → k < room → a ≤ b → stands y k a thing log → stands y k b thing log)
    (seats : X → ℕ) (view : T → Option ViewState) (board : T → List (Option OpenedEye)) (sealed : T → ℕ) (backs : T → List ℕ)
    (shows : X → List (Placed N) → ViewState → Type 0) (above : ℕ → N → Type 0) (returned : N → ℕ) (x : X) (slots id : ℕ) where
  abbrev M : Type 0
  M = Me (Option T) (View X N (Reads N))

  abbrev Kept : X → ℕ → List (Placed N) → State (Option T) (View X N (Reads N)) → Type 0
  Kept = Keeps seats view board sealed backs shows above returned

  -- the step is allowed
  abbrev May : M → ℕ → (ℕ → ℕ) → (ℕ → M → Type 0) → Type 0
  May me k f told = Allows (Rules stands legal numbers touches Kept x) slots id me k f told

  -- a step behind the places that keeps the mailboxes, and what follows from what it tells
  lifts : (me : M) (i : ℕ) (f : ℕ → ℕ) (tells told : ℕ → M → Type 0) → room < i → IsBehind me.1 → AllowsBeside legal touches Kept x slots id me i f tells → ((r : ℕ) (after : M) → tells r after → told r after)
      → May me i f told
  lifts me i f tells told far behind act more = beside_allows stands legal numbers touches grows Kept x slots id me i f told far behind
      (λ p log s k a deep at small about sees. let g = act p log s k a deep at small about sees in (g.0, g.1, g.2, g.3, g.4, g.5, g.6, more _ _ g.7))

  none_in_hand : (c : List (ℕ × Option T)) → c ≡ [] → IsBehind c
  none_in_hand c e = subst IsBehind (sym e) tt

  pub look_allowed : (me : M) (m : BoxNote N) (i : ℕ) → me.0.beside.notes ≡ m ∷ [] → m.seat ≡ suc i → m.is_out ≡ false → me.1 ≡ []
      → (k : ℕ) → k ≡ mailbox i → May me k (λ n. n) (looked legal touches view shows (step slots k 0 0 none) me)
  look_allowed me m i is number inside still k e = subst (λ (j : ℕ). May me j (λ n. n) (looked legal touches view shows (step slots j 0 0 none) me)) (sym e) (lifts me (mailbox i) (λ n. n) _ (looked legal touches view shows (step slots (mailbox i) 0 0 none) me) (box_behind i) (none_in_hand me.1 still) (looks seats view board sealed backs shows above returned x legal touches slots id me.0 me.1 m i is number inside)
      (λ r after g m' i' is' number'.
      let em : m ≡ m' = first_same m m' [] [] (sym is ∙ is') in
      let ei : i ≡ i' = same_number m.seat i i' number (ap (λ (z : BoxNote N). z.seat) em ∙ number') in
      subst (λ (z : BoxNote N × ℕ). (middle : ℕ) × (fresh : Bool) × (r ≡ 2 * middle + bit fresh) × (middle < 3) × Looked legal touches shows z.0 fresh me.0 after.0 × (after.1 ≡ (if fresh then (slot z.1 z.0.front.buffer, None) ∷ me.1 else me.1))) (λ k. (em k, ei k)) g))

  pub swap_allowed : ShowsAnyway shows → (me : M) (m : BoxNote N) (i n b h : ℕ) (v : View X N (Reads N)) (y : T) → me ≡ (v, (h, Some y) ∷ []) → h ≡ slot i b → v.beside.notes ≡ m ∷ [] → m.seat ≡ suc i → m.front.buffer ≡ b → m.found_fresh ≡ true → m.is_out ≡ true → view y ≡ Some (counting m.front n)
      → (k : ℕ) → k ≡ mailbox i → May me k (λ _. 2 * b) (swapped legal touches view shows (step slots k (2 * b) 0 none) me)
  swap_allowed anyway me m i n b h v y whole there is number buffer fresh out shown k e = subst (λ (j : ℕ). May me j (λ _. 2 * b) (swapped legal touches view shows (step slots j (2 * b) 0 none) me)) (sym e) (subst (λ (z : M). May z (mailbox i) (λ _. 2 * b) (swapped legal touches view shows (step slots (mailbox i) (2 * b) 0 none) z)) (sym (whole ∙ ap (λ (j : ℕ). (v, (j, Some y) ∷ [])) there))
      (subst (λ (c : ℕ). May (v, (slot i c, Some y) ∷ []) (mailbox i) (λ _. 2 * c) (swapped legal touches view shows (step slots (mailbox i) (2 * c) 0 none) (v, (slot i c, Some y) ∷ []))) buffer
      (lifts (v, (slot i m.front.buffer, Some y) ∷ []) (mailbox i) (λ _. 2 * m.front.buffer) _ (swapped legal touches view shows (step slots (mailbox i) (2 * m.front.buffer) 0 none) (v, (slot i m.front.buffer, Some y) ∷ [])) (box_behind i) (slot_behind i m.front.buffer, tt)
      (swaps seats view board sealed backs shows above returned anyway x legal touches slots id v y [] m i n is number fresh out shown)
      (λ r after g m' i' n' y' is' number' shown' hand.
      let em : m ≡ m' = first_same m m' [] [] (sym is ∙ is') in
      let ei : i ≡ i' = same_number m.seat i i' number (ap (λ (z : BoxNote N). z.seat) em ∙ number') in
      let es : slot i m.front.buffer ≡ slot i' m'.front.buffer = (λ k. slot (ei k) (em k).front.buffer) in
      let ey : y ≡ y' = some_same y y' (same_head _ (slot i m.front.buffer) (Some y) (Some y') [] [] refl (hand ∙ ap (λ (k : ℕ). (k, Some y') ∷ []) (sym es))) in
      let en : n ≡ n' = same_count m.front n n' (sym shown ∙ (ap view ey ∙ (shown' ∙ ap (λ (z : BoxNote N). Some (counting z.front n')) (sym em)))) in
      subst (λ (q : BoxNote N × ℕ × ℕ). (z : T) × (new : ViewState) × (view z ≡ Some new) × (r ≡ 2 * new.buffer + 1) × Refreshed legal touches shows q.0 q.2 new v after.0 × (after.1 ≡ (slot q.1 new.buffer, Some z) ∷ [])) (λ k. (em k, ei k, en k)) g))))

  pub land_allowed : (me : M) (m : BoxNote N) (i : ℕ) (v : View X N (Reads N)) (h : ℕ) → me ≡ (v, (h, None) ∷ []) → h ≡ slot i m.front.buffer → v.beside.notes ≡ m ∷ [] → m.seat ≡ suc i → m.is_out ≡ true
      → (k : ℕ) → k ≡ mailbox i → May me k (λ n. n) (landed (step slots k 0 0 none) me)
  land_allowed me m i v h whole there is number out k e = subst (λ (j : ℕ). May me j (λ n. n) (landed (step slots j 0 0 none) me)) (sym e) (subst (λ (z : M). May z (mailbox i) (λ n. n) (landed (step slots (mailbox i) 0 0 none) z)) (sym (whole ∙ ap (λ (j : ℕ). (v, (j, None) ∷ [])) there))
      (lifts (v, (slot i m.front.buffer, None) ∷ []) (mailbox i) (λ n. n) _ (landed (step slots (mailbox i) 0 0 none) (v, (slot i m.front.buffer, None) ∷ [])) (box_behind i) (slot_behind i m.front.buffer, tt)
      (lands seats view board sealed backs shows above returned x legal touches slots id v [] m i is number out)
      (λ r after (g : (after.0 ≡ record { places = v.places; beside = with_note v.beside (landing m) }) × (after.1 ≡ [])) m' is'. let em : m ≡ m' = first_same m m' [] [] (sym is ∙ is') in (g.0 ∙ ap (λ (z : BoxNote N). record { places = v.places; beside = with_note v.beside (landing z) }) em, g.1))))

  pub fetch_back_allowed : (me : M) (t : TurnNote) (i : ℕ) → Holds me.0.places room → me.0.beside.turn ≡ Some t → t.out ≡ None → i < seats x → me.1 ≡ []
      → (k : ℕ) → k ≡ mailbox i → May me k (λ n. n) (fetched_back (step slots k 0 0 none) me)
  fetch_back_allowed me t i held is home near still k e = subst (λ (j : ℕ). May me j (λ n. n) (fetched_back (step slots j 0 0 none) me)) (sym e) (lifts me (mailbox i) (λ n. n) _ (fetched_back (step slots (mailbox i) 0 0 none) me) (box_behind i) (none_in_hand me.1 still)
      (fetches_back seats view board sealed backs shows above returned x legal touches slots id me.0 me.1 t i held is home near)
      (λ r after g t' i' is' word.
      let et : t ≡ t' = some_same t t' (sym is ∙ is') in
      let ei : i ≡ i' = boxes_same i i' word in
      subst (λ (z : TurnNote × ℕ). FetchedBack z.0 z.1 me.0 after.0 × (after.1 ≡ (slot z.1 (slice_index z.0.backs z.1), None) ∷ me.1)) (λ k. (et k, ei k)) g))

  pub post_allowed : (me : M) (t : TurnNote) (i b h : ℕ) (v : View X N (Reads N)) (y : T) (new : ViewState) → me ≡ (v, (h, Some y) ∷ []) → h ≡ slot i b → new.buffer ≡ b → i < seats x → Holds v.places room → v.beside.turn ≡ Some t → t.out ≡ Some i → view y ≡ Some new → MayPost shows x t i v.places.seen new
      → (k : ℕ) → k ≡ mailbox i → May me k (λ _. 2 * b + 1) (posted view (step slots k (2 * b + 1) 0 none) me)
  post_allowed me t i b h v y new whole there buffer near held is out shown may k e = subst (λ (j : ℕ). May me j (λ _. 2 * b + 1) (posted view (step slots j (2 * b + 1) 0 none) me)) (sym e) (subst (λ (z : M). May z (mailbox i) (λ _. 2 * b + 1) (posted view (step slots (mailbox i) (2 * b + 1) 0 none) z)) (sym (whole ∙ ap (λ (j : ℕ). (v, (j, Some y) ∷ [])) there))
      (subst (λ (c : ℕ). May (v, (slot i c, Some y) ∷ []) (mailbox i) (λ _. 2 * c + 1) (posted view (step slots (mailbox i) (2 * c + 1) 0 none) (v, (slot i c, Some y) ∷ []))) buffer
      (lifts (v, (slot i new.buffer, Some y) ∷ []) (mailbox i) (λ _. 2 * new.buffer + 1) _ (posted view (step slots (mailbox i) (2 * new.buffer + 1) 0 none) (v, (slot i new.buffer, Some y) ∷ [])) (box_behind i) (slot_behind i new.buffer, tt)
      (posts seats view board sealed backs shows above returned x legal touches slots id v y new [] t i near held is out shown may)
      (λ r after g t' i' y' new' is' out' shown' hand.
      let et : t ≡ t' = some_same t t' (sym is ∙ is') in
      let ei : i ≡ i' = some_same i i' (sym out ∙ (ap (λ (z : TurnNote). z.out) et ∙ out')) in
      let eb : new.buffer ≡ new'.buffer = slots_same i i' new.buffer new'.buffer ei (same_place (slot i new.buffer) (slot i' new'.buffer) (Some y) (Some y') [] [] hand) in
      let ey : y ≡ y' = some_same y y' (same_head _ (slot i new.buffer) (Some y) (Some y') [] [] refl (hand ∙ (λ k. (slot (sym ei k) (sym eb k), Some y') ∷ []))) in
      let en : new ≡ new' = some_same new new' (sym shown ∙ (ap view ey ∙ shown')) in
      subst (λ (q : TurnNote × ℕ × ViewState). (z : T) × (old : ViewState) × (fresh : Bool) × (view z ≡ Some old) × (r ≡ 2 * old.buffer + bit fresh) × Posted q.0 q.1 q.2 old v after.0 × (after.1 ≡ (slot q.1 old.buffer, Some z) ∷ [])) (λ k. (et k, ei k, en k)) g))))

  pub land_back_allowed : (me : M) (t : TurnNote) (i : ℕ) (v : View X N (Reads N)) (h : ℕ) → me ≡ (v, (h, None) ∷ []) → h ≡ slot i (slice_index t.backs i) → i < seats x → Holds v.places room → v.beside.turn ≡ Some t → t.out ≡ Some i
      → (k : ℕ) → k ≡ mailbox i → May me k (λ n. n) (landed_back (step slots k 0 0 none) me)
  land_back_allowed me t i v h whole there near held is out k e = subst (λ (j : ℕ). May me j (λ n. n) (landed_back (step slots j 0 0 none) me)) (sym e) (subst (λ (z : M). May z (mailbox i) (λ n. n) (landed_back (step slots (mailbox i) 0 0 none) z)) (sym (whole ∙ ap (λ (j : ℕ). (v, (j, None) ∷ [])) there))
      (lifts (v, (slot i (slice_index t.backs i), None) ∷ []) (mailbox i) (λ n. n) _ (landed_back (step slots (mailbox i) 0 0 none) (v, (slot i (slice_index t.backs i), None) ∷ [])) (box_behind i) (slot_behind i (slice_index t.backs i), tt)
      (lands_back seats view board sealed backs shows above returned x legal touches slots id v [] t i near held is out)
      (λ r after (g : (after.0 ≡ record { places = v.places; beside = record v.beside { turn = Some (record t { out = None }) } }) × (after.1 ≡ [])) t' is'. let et : t ≡ t' = some_same t t' (sym is ∙ is') in (g.0 ∙ ap (λ (z : TurnNote). record { places = v.places; beside = record v.beside { turn = Some (record z { out = None }) } }) et, g.1))))

  pub publish_allowed : (me : M) (t : TurnNote) (number : ℕ) → Holds me.0.places room → me.0.beside.turn ≡ Some t → me.0.places.published ≤ number → 0 < seats x → ((i : ℕ) → i < seats x → number ≤ slice_index t.posted i) → me.1 ≡ []
      → (k : ℕ) → k ≡ published_word → May me k (λ _. number) (λ _. published (step slots k number 0 none) me number)
  publish_allowed me t number held is rise some_seat every still k e = subst (λ (j : ℕ). May me j (λ _. number) (λ _. published (step slots j number 0 none) me number)) (sym e) (lifts me published_word (λ _. number) _ (λ _. published (step slots published_word number 0 none) me number) published_behind (none_in_hand me.1 still)
      (publishes seats view board sealed backs shows above returned x legal touches slots id me.0 me.1 t number held is rise some_seat every)
      (λ r after (g : (after.0 ≡ record { places = record me.0.places { published = number }; beside = me.0.beside }) × (after.1 ≡ me.1) × (number ≤ t.top)). (record { is = g.0; top = λ t' is'. subst (λ (z : TurnNote). number ≤ z.top) (some_same t t' (sym is ∙ is')) g.2 }, g.1)))

  pub read_allowed : (me : M) → me.1 ≡ [] → (k : ℕ) → k ≡ published_word → May me k (λ n. n) (read legal touches (step slots k 0 0 none) me)
  read_allowed me still k e = subst (λ (j : ℕ). May me j (λ n. n) (read legal touches (step slots j 0 0 none) me)) (sym e) (lifts me published_word (λ n. n) _ (read legal touches (step slots published_word 0 0 none) me) published_behind (none_in_hand me.1 still) (reads seats view board sealed backs shows above returned x legal touches slots id me.0 me.1)
      (λ r after (g : (log : List (Placed N)) × (me.0.places.published ≤ r) × ((z : X) → me.0.places.about ≡ Some z → Sees legal touches z r me.0.places log) × (after.0 ≡ record { places = knowing me.0.places log r; beside = me.0.beside }) × (after.1 ≡ me.1)). (record { log = g.0; no_earlier = g.1; places = ap (λ (z : View X N (Reads N)). z.places) g.3; beside = ap (λ (z : View X N (Reads N)). z.beside) g.3; sees = g.2 }, g.4)))

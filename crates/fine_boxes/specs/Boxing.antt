-- What stays of each record of the rule when words, slots, cells or the history change: one lemma for each record.
use Rattle.std.proofs.Common.{◌≡◌, ◌≢◌, ℕ, suc, ◌+◌, ◌*◌, ◌<◌, ◌≤◌, List, [], ◌∷◌, ◌++◌, map, length, slice_index, slice_get, true, Option, Some, sum_by, sym, refl, ap, ◌∙◌, subst, inl, inr, arith, append_assoc}
use Rattle.std.specs.List.{AllByRecursion}
use lib.ListN.{get_elem?}
use Rattle.fine_model.specs.declared.law.ViewState.{ViewState}
use Rattle.fine_places.specs.declared.model.Placed.{Placed}
use Rattle.fine_places.specs.declared.model.Share.{Share}
use Rattle.fine_places.specs.History.{room, Owned}
use Rattle.fine_places.specs.Places.{Homes, Emptied}
use Rattle.fine_boxes.specs.declared.model.BoxNote.{BoxNote}
use Rattle.fine_boxes.specs.declared.model.Mark.{Mark}
use Rattle.fine_boxes.specs.declared.model.TurnNote.{TurnNote}
use Rattle.fine_boxes.specs.Boxes.{Cell, Apart, Reaches, IsMark, BoxOk, NoteHere, NoteOk, TurnOk, mailbox, slot, named, sum_below, Lower}
use Rattle.fine_places.proofs.Lists.{all_map, all_append}
use Rattle.fine_boxes.specs.Lists.{first_same, rest_same}
use Rattle.fine_boxes.specs.Cells.{put, by_cell, slot_behind}

-- ---- mailboxes

module _ {T N : Type 0} (view : T → Option ViewState) (tells : List (Placed N) → ViewState → Type 0) where
  -- the word of a mailbox and its middle's slot are as they were, what its views show stands for another history, and they reach another number
  pub box_changed : (p q : ℕ) (log now : List (Placed N)) (ws ws' : List ℕ) (hs hs' : Homes T) (i : ℕ) (c : Cell) → BoxOk view tells p log ws hs i c
      → slice_index ws' (mailbox i) ≡ slice_index ws (mailbox i) → ((a : ℕ) → a < 3 → a ≡ c.middle → get_elem? hs' (slot i a) ≡ get_elem? hs (slot i a))
      → (tells log c.shown → tells now c.shown) → (tells log c.ahead → tells now c.ahead) → (Reaches c p → Reaches c q)
      → BoxOk view tells q now ws' hs' i c
  box_changed p q log now ws ws' hs hs' i c b word home shown ahead reach = record {
    apart = b.apart;
    word = word ∙ b.word;
    thing = b.thing;
    there = home c.middle b.apart.middle_in refl ∙ b.there;
    is_view = b.is_view;
    front_at = b.front_at;
    middle_at = b.middle_at;
    front_shows = shown b.front_shows;
    middle_shows = ahead b.middle_shows;
    later = b.later;
    clean = b.clean;
    reaches = reach b.reaches;
  }

-- ---- marks

module _ {N : Type 0} (above : ℕ → N → Type 0) where
  -- a history that grows by an item above the epochs of some marks
  pub mark_grows : (log : List (Placed N)) (t : Placed N) (top upto : ℕ) → Lower above → above top t.item → upto ≤ top → (k : Mark N) → IsMark above log upto k → IsMark above (log ++ t ∷ []) upto k
  mark_grows log t top upto lower is_above le k m = (
    record {
      more = m.0.more ++ t ∷ [];
      is_front = ap (λ l. l ++ t ∷ []) m.0.is_front ∙ append_assoc k.seen m.0.more (t ∷ []);
      later = all_append (λ u. above k.upto u.item) m.0.more (t ∷ []) m.0.later (lower k.upto top t.item (let a = m.1 in omega arith) is_above, tt);
    },
    m.1,
  )

  pub mark_later : (log : List (Placed N)) (a b : ℕ) → a ≤ b → (k : Mark N) → IsMark above log a k → IsMark above log b k
  mark_later log a b le k m = (m.0, let l = m.1 in omega arith)

-- ---- notes

module _ {T N : Type 0} (count : ℕ) (above : ℕ → N → Type 0) where
  pub note_changed : (cells cs : ℕ → Cell) (log now : List (Placed N)) (hs hs' : Homes T) (m : BoxNote N) (r : NoteOk count above cells log hs m)
      → (cs r.i).shown ≡ (cells r.i).shown → ((cells r.i).fresh ≡ true → (cs r.i).fresh ≡ true)
      → ((k : Mark N) → IsMark above log m.front.upto k → IsMark above now m.front.upto k)
      → (Emptied hs (slot r.i (cells r.i).front) → Emptied hs' (slot r.i (cs r.i).front))
      → NoteOk count above cs now hs' m
  note_changed cells cs log now hs hs' m r shown fresh mark home = record {
    i = r.i;
    number = r.number;
    here = record {
      within = r.here.within;
      front = shown ∙ r.here.front;
      found = λ f. fresh (r.here.found f);
      marks = all_map mark m.marks r.here.marks;
      first = r.here.first;
      emptied = λ o. home (r.here.emptied o);
    };
  }

  -- nothing changed but the history, and words and slots at the places
  pub notes_behind : (cells : ℕ → Cell) (log now : List (Placed N)) (hs hs' : Homes T) → ((k : ℕ) → room < k → get_elem? hs' k ≡ get_elem? hs k)
      → ((m : BoxNote N) → NoteOk count above cells log hs m → (k : Mark N) → IsMark above log m.front.upto k → IsMark above now m.front.upto k)
      → (ms : List (BoxNote N)) → AllByRecursion (NoteOk count above cells log hs) ms → AllByRecursion (NoteOk count above cells now hs') ms
  notes_behind cells log now hs hs' behind mark ms r = all_map
      (λ m n. note_changed cells cells log now hs hs' m n refl (λ f. f) (mark m n) (λ e. behind (slot n.i (cells n.i).front) (slot_behind n.i (cells n.i).front) ∙ e)) ms r

-- a note's number is one of the seat's
pub notes_owned : {N : Type 0} (ms : List (BoxNote N)) (ps : List (Share N)) → map (λ m. m.seat) ms ≡ map (λ s. s.seat) ps → AllByRecursion (λ m. Owned ps m.seat) ms
notes_owned [] ps e = tt
notes_owned (m ∷ ms) [] e = absurd (let n = ap length e in omega arith)
notes_owned (m ∷ ms) (p ∷ ps) e = (
  (p.mine, inl (sym (first_same m.seat p.seat (map (λ m. m.seat) ms) (map (λ s. s.seat) ps) e), refl)),
  all_map (λ m o. (o.0, inr o.1)) ms (notes_owned ms ps (rest_same m.seat p.seat (map (λ m. m.seat) ms) (map (λ s. s.seat) ps) e)),
)

-- what holds of the seat of a number, by its note
pub note_here : {T N : Type 0} (count : ℕ) (above : ℕ → N → Type 0) (cells : ℕ → Cell) (log : List (Placed N)) (homes : Homes T) (i : ℕ) (m : BoxNote N) → m.seat ≡ suc i → NoteOk count above cells log homes m → NoteHere count above cells log homes i m
note_here count above cells log homes i m number r = let e : r.i ≡ i = (let n = r.number in omega arith) in subst (λ (j : ℕ). NoteHere count above cells log homes j m) e r.here

-- ---- turns

module _ {T N : Type 0} (count : ℕ) (returned : N → ℕ) where
  -- Slots changed, but not the back ones that are then not in hand; another may be in hand, and another number, which is not above the top, be published.
  pub turn_kept : (p q : ℕ) (cells : ℕ → Cell) (log : List (Placed N)) (hs hs' : Homes T) (a b : ℕ) (t : TurnNote) (o : Option ℕ)
      → ((j : ℕ) → j < count → o ≢ Some j → Emptied hs' (slot j (cells j).back)) → q ≤ t.top → b ≡ a
      → TurnOk count returned p cells log hs a t → TurnOk count returned q cells log hs' b (record t { out = o })
  turn_kept p q cells log hs hs' a b t o emptied top same r = record {
    long = r.long;
    back = r.back;
    emptied = emptied;
    reaches = r.reaches;
    posted_below = r.posted_below;
    below = r.below;
    published = top;
    names = r.names;
    counts = r.counts ∙ sym same;
  }

  -- a back slot came into hand, or went home
  pub turn_out : (p : ℕ) (cells : ℕ → Cell) (log : List (Placed N)) (hs hs' : Homes T) (a b : ℕ) (t : TurnNote) (o : Option ℕ)
      → ((j : ℕ) → j < count → o ≢ Some j → Emptied hs' (slot j (cells j).back)) → b ≡ a
      → TurnOk count returned p cells log hs a t → TurnOk count returned p cells log hs' b (record t { out = o })
  turn_out p cells log hs hs' a b t o emptied same r = turn_kept p p cells log hs hs' a b t o emptied r.published same r

  -- slots changed, but not the back ones that the turn does not have in hand
  pub turn_homes : (p : ℕ) (cells : ℕ → Cell) (log : List (Placed N)) (hs hs' : Homes T) (a b : ℕ) (t : TurnNote)
      → ((j : ℕ) → j < count → Emptied hs (slot j (cells j).back) → Emptied hs' (slot j (cells j).back)) → b ≡ a
      → TurnOk count returned p cells log hs a t → TurnOk count returned p cells log hs' b t
  turn_homes p cells log hs hs' a b t home same r = turn_out p cells log hs hs' a b t t.out (λ j lt not_out. home j lt (r.emptied j lt not_out)) same r

  -- nothing changed but words and slots at the places
  pub turn_behind : (p : ℕ) (cells : ℕ → Cell) (log : List (Placed N)) (hs hs' : Homes T) (a b : ℕ) (t : TurnNote) → ((k : ℕ) → room < k → get_elem? hs' k ≡ get_elem? hs k) → b ≡ a
      → TurnOk count returned p cells log hs a t → TurnOk count returned p cells log hs' b t
  turn_behind p cells log hs hs' a b t behind same r = turn_homes p cells log hs hs' a b t (λ j lt e. behind (slot j (cells j).back) (slot_behind j (cells j).back) ∙ e) same r

  -- one seat's cell and slots changed, and what the turn records of this seat
  pub turn_put : (p : ℕ) (cells : ℕ → Cell) (log : List (Placed N)) (hs hs' : Homes T) (a b : ℕ) (t u : TurnNote) (i : ℕ) (c : Cell) → ((j : ℕ) → j < count → Apart (cells j))
      → TurnOk count returned p cells log hs a t
      → (length u.backs ≡ length t.backs) × (length u.posted ≡ length t.posted) × (length u.board ≡ length t.board) → t.top ≤ u.top
      → ((j e : ℕ) → j ≢ i → e < 3 → get_elem? hs' (slot j e) ≡ get_elem? hs (slot j e))
      → ((j : ℕ) → j ≢ i → slice_index u.backs j ≡ slice_index t.backs j) → ((j : ℕ) → j ≢ i → slice_index u.posted j ≡ slice_index t.posted j)
      → ((j e : ℕ) → j ≢ i → e < 3 → slice_get u.board (3 * j + e) ≡ slice_get t.board (3 * j + e)) → ((j : ℕ) → j ≢ i → u.out ≢ Some j → t.out ≢ Some j)
      → slice_index u.backs i ≡ c.back → (u.out ≢ Some i → Emptied hs' (slot i c.back)) → Reaches c (slice_index u.posted i) → slice_index u.posted i ≤ u.top
      → (c.shown.upto ≤ u.top) × (c.ahead.upto ≤ u.top) → ((e : ℕ) → e < 3 → slice_get u.board (3 * i + e) ≡ Some (named c e))
      → (sum_by (λ (e : Placed N). returned e.item) log + u.in_hand) + sum_below count (λ j. (put cells i c j).ahead.faults) ≡ b
      → TurnOk count returned p (put cells i c) log hs' b u
  turn_put p cells log hs hs' a b t u i c each r same top homes backs posted board outs back emptied reach posted_in below names counts = record {
    long = (subst (λ n. count ≤ n) (sym same.0) r.long.0, subst (λ n. count ≤ n) (sym same.1) r.long.1, same.2 ∙ r.long.2);
    back = by_cell count cells i c (λ j d. slice_index u.backs j ≡ d.back) back (λ j lt ne. backs j ne ∙ r.back j lt);
    emptied = by_cell count cells i c (λ j d. u.out ≢ Some j → Emptied hs' (slot j d.back)) emptied (λ j lt ne not_out. homes j (cells j).back ne (each j lt).back_in ∙ r.emptied j lt (outs j ne not_out));
    reaches = by_cell count cells i c (λ j d. Reaches d (slice_index u.posted j)) reach (λ j lt ne. subst (Reaches (cells j)) (sym (posted j ne)) (r.reaches j lt));
    posted_below = by_cell count cells i c (λ j d. slice_index u.posted j ≤ u.top) posted_in (λ j lt ne. let e = posted j ne in let l = r.posted_below j lt in omega arith);
    below = by_cell count cells i c (λ j d. (d.shown.upto ≤ u.top) × (d.ahead.upto ≤ u.top)) below (λ j lt ne. let l = r.below j lt in ((let l₀ = l.0 in omega arith), (let l₁ = l.1 in omega arith)));
    published = let l = r.published in omega arith;
    names = λ j e lt le. by_cell count cells i c (λ j d. slice_get u.board (3 * j + e) ≡ Some (named d e)) (names e le) (λ j lt ne. board j e ne le ∙ r.names j e lt le) j lt;
    counts = counts;
  }

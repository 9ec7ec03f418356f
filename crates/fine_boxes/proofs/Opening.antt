-- The rule of the mailboxes holds of a new table, and what it says of one that ended.
use Rattle.std.proofs.Common.{◌≡◌, ◌≢◌, ℕ, zero, suc, ◌+◌, ◌*◌, ◌<◌, ◌≤◌, List, [], ◌∷◌, ◌++◌, map, reverse, length, slice_get, slice_index, sum_by, false, Option, Some, None, sym, refl, ap, ◌∙◌, subst, arith, append_assoc, append-nil, true≢false, le_refl}
use Rattle.std.specs.List.{AllByRecursion}
use Rattle.std.proofs.lemmas.List.{reverse-append, map-append, length-map, length-replicate}
use Rattle.std.proofs.lemmas.List.Sums.{sum_by-cons}
use mathlib.Core.Option as maybe
use mathlib.Core.Option.{some, some-injective, some-ne-none}
use native.Mathlib.Decide.{dec_le}
use lib.ListN.{get_elem?}
use Rattle.atomic_table.specs.Table.{opening}
use Rattle.atomic_table.proofs.Lists.{at_map}
use Rattle.fine_model.specs.declared.law.OpenedEye.{OpenedEye}
use Rattle.fine_model.specs.declared.law.ViewState.{ViewState}
use Rattle.fine_places.specs.declared.model.Placed.{Placed}
use Rattle.fine_places.specs.declared.model.Share.{Share}
use Rattle.fine_places.specs.declared.model.View.{View}
use Rattle.fine_places.specs.History.{room}
use Rattle.fine_places.specs.Places.{opening_seat, shares_of}
use Rattle.fine_places.proofs.Lists.{none_held, all_append, zeros}
use Rattle.fine_boxes.specs.declared.model.BoxNote.{BoxNote}
use Rattle.fine_boxes.specs.declared.model.Reads.{Reads}
use Rattle.fine_boxes.specs.Boxes.{Cell, NoteOk, BoxOk, TurnOk, ViewOk, Keeps, beginning, note_of, first_notes, slot, named, sum_below, given_by}
use Rattle.fine_boxes.specs.Ends.{OpensSeat, Opens}

-- ---- lists

module _ {A : Type 0} where
  all_at : (P : A → Type 0) (l : List A) → ((i : ℕ) (a : A) → get_elem? l i ≡ some a → P a) → AllByRecursion P l
  all_at P [] each = tt
  all_at P (a ∷ l) each = (each 0 a refl, all_at P l (λ i b e. each (suc i) b e))

  all_reverse : (P : A → Type 0) (l : List A) → AllByRecursion P l → AllByRecursion P (reverse l)
  all_reverse P [] p = tt
  all_reverse P (a ∷ l) p = subst (AllByRecursion P) (sym (reverse-append (a ∷ []) l)) (all_append P (reverse l) (a ∷ []) (all_reverse P l p.1) (p.0, tt))

  at_within : (l : List A) (i : ℕ) (a : A) → get_elem? l i ≡ some a → i < length l
  at_within [] i a e = absurd (some-ne-none a (sym e))
  at_within (x ∷ xs) zero a e = omega arith
  at_within (x ∷ xs) (suc i) a e = let h = at_within xs i a e in omega arith

  sum_zero : (f : A → ℕ) (l : List A) → AllByRecursion (λ a. f a ≡ 0) l → sum_by f l ≡ 0
  sum_zero f [] p = refl
  sum_zero f (a ∷ l) p = let e = sum_by-cons f a l in let h = p.0 in let t = sum_zero f l p.1 in omega arith

  -- a sum of which one item alone is not 0
  pub sum_only : (f : A → ℕ) (l : List A) (i : ℕ) (a : A) → get_elem? l i ≡ some a → ((j : ℕ) (b : A) → j ≢ i → get_elem? l j ≡ some b → f b ≡ 0) → sum_by f l ≡ f a
  sum_only f [] i a e each = absurd (some-ne-none a (sym e))
  sum_only f (x ∷ xs) zero a e each = let s = sum_by-cons f x xs in let h = ap f (some-injective x a e) in
      let t = sum_zero f xs (all_at (λ b. f b ≡ 0) xs (λ j b q. each (suc j) b (λ z. omega arith) q)) in omega arith
  sum_only f (x ∷ xs) (suc i) a e each = let s = sum_by-cons f x xs in let h = each 0 x (λ z. omega arith) refl in
      let t = sum_only f xs i a e (λ j b ne q. each (suc j) b (λ z. ne (omega arith)) q) in omega arith

pub sum_below_zero : (n : ℕ) (f : ℕ → ℕ) → ((i : ℕ) → i < n → f i ≡ 0) → sum_below n f ≡ 0
sum_below_zero zero f each = refl
sum_below_zero (suc n) f each = let h = sum_below_zero n f (λ i lt. each i (omega arith)) in let t = each n (omega arith) in omega arith

-- the seats k + 1, k + 2 .. from the last, and then those from k down
abbrev numbers_down : (N : Type 0) → ℕ → List ℕ
numbers_down N k = map (λ (s : Share N). s.seat) (shares_of k)

seats_down : (N : Type 0) (fs : List ViewState) (k : ℕ) → ((i : ℕ) (f : ViewState) → get_elem? fs i ≡ some f → f.seat ≡ suc (k + i))
    → map (λ (m : BoxNote N). m.seat) (reverse (map note_of fs)) ++ numbers_down N k ≡ numbers_down N (k + length fs)
seats_down N [] k each = ap (numbers_down N) (omega arith)
seats_down N (f ∷ fs) k each =
    let first : f.seat ≡ suc k = each 0 f refl ∙ ap suc (omega arith) in
    let notes : List (BoxNote N) = reverse (map note_of fs) in
    ap (λ (l : List (BoxNote N)). map (λ (m : BoxNote N). m.seat) l ++ numbers_down N k) (reverse-append (note_of f ∷ []) (map note_of fs))
    ∙ (ap (λ (l : List ℕ). l ++ numbers_down N k) (map-append (λ (m : BoxNote N). m.seat) notes (note_of f ∷ []))
    ∙ (append_assoc (map (λ (m : BoxNote N). m.seat) notes) (f.seat ∷ []) (numbers_down N k)
    ∙ (ap (λ n. map (λ (m : BoxNote N). m.seat) notes ++ (n ∷ numbers_down N k)) first
    ∙ (seats_down N fs (suc k) (λ i g e. each (suc i) g e ∙ ap suc (omega arith)) ∙ ap (numbers_down N) (omega arith)))))

module _ {N : Type 0} where
  -- the notes of some fronts
  all_notes : (P : BoxNote N → Type 0) (fs : List ViewState) → ((i : ℕ) (f : ViewState) → get_elem? fs i ≡ some f → P (note_of f)) → AllByRecursion P (map note_of fs)
  all_notes P [] each = tt
  all_notes P (f ∷ fs) each = (each 0 f refl, all_notes P fs (λ i g e. each (suc i) g e))

-- ---- a new table

abbrev none_there : ViewState
none_there = record { seat = 0; buffer = 0; upto = 0; parts = []; region_len = 0; eye = record { number = 0; regions = []; told = None }; faults = 0 }

module _ {T X N : Type 0} (seats : X → ℕ) (fronts : X → List ViewState) (view : T → Option ViewState) (board : T → List (Option OpenedEye)) (sealed : T → ℕ) (backs : T → List ℕ)
    (shows : X → List (Placed N) → ViewState → Type 0) (above : ℕ → N → Type 0) (returned : N → ℕ) (x : X) (p : ℕ) (words : List ℕ) (slots : List (Option T)) (o : Opens seats fronts view board sealed backs shows x p words slots) where
  abbrev Seat : ℕ → Type 0
  Seat i = OpensSeat view (shows x []) (fronts x) (board o.home) (sealed o.home) (backs o.home) p words slots i

  abbrev cell_of : {i : ℕ} → Seat i → Cell
  cell_of s = record { front = 0; middle = 1; back = 2; fresh = false; shown = s.front; ahead = s.middle }

  abbrev nobody : Cell
  nobody = record { front = 0; middle = 1; back = 2; fresh = false; shown = none_there; ahead = none_there }

  pick : (i : ℕ) → Dec (suc i ≤ seats x) → Cell
  pick i (yes lt) = cell_of (o.each i lt)
  pick i (no _) = nobody

  cells : ℕ → Cell
  cells i = pick i (dec_le (suc i) (seats x))

  by_seat : (P : ℕ → Cell → Type 0) → ((i : ℕ) (s : Seat i) → P i (cell_of s)) → (i : ℕ) → i < seats x → P i (cells i)
  unfolding cells pick
  by_seat P each i lt = go (dec_le (suc i) (seats x))
    where
      go : (d : Dec (suc i ≤ seats x)) → P i (pick i d)
      go (yes le) = each i (o.each i le)
      go (no n) = absurd (n lt)

  abbrev homes : List (maybe.Option (Option T))
  homes = map some slots

  -- the mailbox and the middle of a seat
  box_opens : (i : ℕ) (s : Seat i) → BoxOk view (shows x) p [] words homes i (cell_of s)
  box_opens i s = record {
    apart = record { front_in = omega arith; middle_in = omega arith; back_in = omega arith; front_middle = λ e. omega arith; front_back = λ e. omega arith; middle_back = λ e. omega arith };
    word = s.word;
    thing = s.thing;
    there = at_map some slots (slot i 1) (Some s.thing) s.there;
    is_view = s.is_middle;
    front_at = s.front_at;
    middle_at = s.middle_at;
    front_shows = s.front_tells;
    middle_shows = s.middle_tells;
    later = λ e. absurd (true≢false (sym e));
    clean = λ e. absurd (true≢false (sym e));
    reaches = record { fresh = λ e. absurd (true≢false (sym e)); stale = λ _. s.front_upto.0 };
  }

  names_open : (i : ℕ) (s : Seat i) (j : ℕ) → j < 3 → slice_get (board o.home) (3 * i + j) ≡ Some (named (cell_of s) j)
  names_open i s zero lt = s.names_front
  names_open i s (suc zero) lt = s.names_middle
  names_open i s (suc (suc zero)) lt = s.names_back
  names_open i s (suc (suc (suc j))) lt = absurd (omega arith)

  note_opens : (i : ℕ) (f : ViewState) → get_elem? (fronts x) i ≡ some f → NoteOk (seats x) above cells [] homes (note_of f)
  note_opens i f e =
      let lt : i < seats x = (let h = at_within (fronts x) i f e in let c = o.count in omega arith) in
      let is : (s : Seat i) → s.front ≡ f = λ s. some-injective s.front f (sym s.is_front ∙ e) in record {
        i = i;
        number = ap (λ (u : ViewState). u.seat) (sym (is (o.each i lt))) ∙ (o.each i lt).front_at.seat;
        here = record {
          within = lt;
          front = by_seat (λ j c. j ≡ i → c.shown ≡ f) (λ j s q. some-injective s.front f (sym s.is_front ∙ (ap (get_elem? (fronts x)) q ∙ e))) i lt refl;
          found = λ q. absurd (true≢false (sym q));
          marks = ((record { more = []; is_front = refl; later = tt }, le_refl f.upto), tt);
          first = ([], [], refl);
          emptied = λ _. by_seat (λ j c. get_elem? homes (slot j c.front) ≡ some (some None)) (λ j s. at_map some slots (slot j 0) None s.empty.0) i lt;
        };
      }

  turn_opens : TurnOk (seats x) returned p cells [] homes 0 (beginning board sealed backs o.home)
  turn_opens = record {
    long = (o.long.0, subst (λ n. seats x ≤ n) (sym (length-replicate (length (backs o.home)) 0)) o.long.0, o.long.1);
    back = by_seat (λ i c. slice_index (backs o.home) i ≡ c.back) (λ i s. s.back);
    emptied = λ i lt _. by_seat (λ j c. get_elem? homes (slot j c.back) ≡ some (some None)) (λ j s. at_map some slots (slot j 2) None s.empty.1) i lt;
    reaches = λ i lt. let z = zeros (length (backs o.home)) i in record { fresh = λ _. omega arith; stale = λ _. omega arith };
    posted_below = λ i lt. let z = zeros (length (backs o.home)) i in omega arith;
    below = by_seat (λ i c. (c.shown.upto ≤ sealed o.home) × (c.ahead.upto ≤ sealed o.home)) (λ i s. (s.front_upto.1, s.middle_upto));
    published = o.below;
    names = λ i j lt le. by_seat (λ k c. slice_get (board o.home) (3 * k + j) ≡ Some (named c j)) (λ k s. names_open k s j le) i lt;
    counts = (let e = sum_below_zero (seats x) (λ i. (cells i).ahead.faults) (by_seat (λ i c. c.ahead.faults ≡ 0) (λ i s. s.clean)) in omega arith);
  }

  -- the first seat of a new table has all numbers
  pub boxes_open : (n q : ℕ) → n ≡ seats x → Keeps seats view board sealed backs shows above returned x p [] (opening words slots (record { places = opening_seat n q x; beside = first_notes (fronts x) }))
  boxes_open n q same =
      let v : View X N (Reads N) = record { places = opening_seat n q x; beside = first_notes (fronts x) } in
      let none_given : given_by (v ∷ []) ≡ 0 = (let e = sum_zero (λ (m : BoxNote N). m.given_up) v.beside.notes (all_reverse (λ (m : BoxNote N). m.given_up ≡ 0) (map note_of (fronts x)) (all_notes (λ (m : BoxNote N). m.given_up ≡ 0) (fronts x) (λ _ _ _. refl))) in omega arith) in record {
        cells = cells;
        wide = o.wide;
        deep = length-map slots some ∙ o.deep;
        published = o.number;
        each_box = λ i lt. by_seat (λ j c. BoxOk view (shows x) p [] words homes j c) box_opens i lt;
        each_view = λ j u e. let is = only v u j e in subst (λ (w : View X N (Reads N)). ViewOk (seats x) above returned p cells [] homes (given_by (v ∷ [])) w) is (record {
          numbers = sym (append-nil (map (λ m. m.seat) v.beside.notes)) ∙ (seats_down N (fronts x) 0 at_number ∙ ap (numbers_down N) (let e = o.count in omega arith));
          notes = all_reverse (NoteOk (seats x) above cells [] homes) (map note_of (fronts x)) (all_notes (NoteOk (seats x) above cells [] homes) (fronts x) note_opens);
          turning = λ h. absurd (none_held (suc room) room h);
        });
        home = λ _. record { thing = o.home; there = at_map some slots room (Some o.home) o.at_room; ok = subst (λ g. TurnOk (seats x) returned p cells [] homes g (beginning board sealed backs o.home)) (sym none_given) turn_opens };
      }
    where
      only : (v u : View X N (Reads N)) (j : ℕ) → get_elem? (v ∷ []) j ≡ some u → v ≡ u
      only v u zero e = some-injective v u e
      only v u (suc j) e = absurd (some-ne-none u (sym e))

      at_number : (i : ℕ) (f : ViewState) → get_elem? (fronts x) i ≡ some f → f.seat ≡ suc (0 + i)
      at_number i f e = let lt : i < seats x = (let h = at_within (fronts x) i f e in let c = o.count in omega arith) in let s = o.each i lt in
          ap (λ (u : ViewState). u.seat) (sym (some-injective s.front f (sym s.is_front ∙ e))) ∙ (s.front_at.seat ∙ ap suc (omega arith))

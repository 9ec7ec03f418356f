-- What is told as a hall ends.
use Rattle.std.proofs.Common.{◌≡◌, ℕ, suc, ◌+◌, ◌*◌, ◌<◌, ◌≤◌, List, [], ◌∷◌, ◌++◌, reverse, flat_map, map, length, Option, Some, None, refl, sym, ap, ◌∙◌, subst, inl, arith, append_assoc, append-nil, le_refl, le_trans}
use Rattle.std.specs.Prelude.{IsPermutation}
use Rattle.std.specs.List.{AllByRecursion, range_with_len}
use Rattle.std.proofs.lemmas.List.{reverse-reverse, length-map}
use Rattle.std.proofs.lemmas.List.FromFn.{length-range_with_len}
use Rattle.std.proofs.lemmas.List.Sorted.{IsPermutation-map, IsPermutation-reverse, IsPermutation-trans, length_permutation}
use mathlib.Core.List.{reverse-cons}
use mathlib.Core.Option.{some, some-injective}
use lib.ListN.{get_elem?}
use Rattle.atomic_table.specs.Seated.{TableId}
use Rattle.fine_model.specs.declared.Row.{Row}
use Rattle.fine_model.specs.declared.law.Origin.{Origin}
use Rattle.fine_model.specs.declared.law.RoomState.{RoomState}
use Rattle.fine_model.specs.declared.law.ViewState.{ViewState}
use Rattle.fine_model.specs.History.{Commit, upto}
use Rattle.fine_model.specs.Nodes.{Content}
use Rattle.fine_model.specs.Views.{counting}
use Rattle.fine_places.specs.declared.model.Placed.{Placed}
use Rattle.fine_places.specs.History as places
use Rattle.fine_places.specs.History.{most_seats, by_seat, touching, StartsWith, Owns, Owned}
use Rattle.fine_places.specs.Telling.{Ended}
use Rattle.fine_places.proofs.Lists.{some_same, all_append, owns_left, owns_right, all_map}
use Rattle.fine_boxes.specs.declared.model.BoxNote.{BoxNote}
use Rattle.fine_boxes.specs.declared.model.Mark.{Mark}
use Rattle.fine_boxes.specs.Boxes.{Keeps, slot}
use Rattle.fine_boxes.specs.Ends.{Ends, EndsNote}
use Rattle.fine_boxes.specs.Lists.{all_both}
use Rattle.fine_boxes.proofs.Ending.{boxes_end}
use Rattle.fine_hall.specs.declared.turn.Turn.{Turn}
use Rattle.fine_hall.specs.declared.law.Beginning.{Beginning}
use Rattle.fine_hall.specs.declared.law.Load.{Load}
use Rattle.fine_hall.specs.declared.law.Load.TheVariants as load
use Rattle.fine_hall.specs.declared.pass.Pass.{Pass}
use Rattle.fine_hall.specs.Turns.{commits, room_after, touches_bucket}
use Rattle.fine_hall.specs.Laws.{AreTurns, IsRoomFor, Stands, ShowsTurns, IsAbove, view_in, board_in, sealed_in, backs_in}
use Rattle.fine_hall.specs.Showing.{upto_more}
use Rattle.fine_hall.specs.Passes.{PassView, first_marks, known, reads, turns, own_turns, marks, HoldsNothing, LacksJob, IsPass}
use Rattle.fine_hall.specs.Halls.{AreAll, AreAllOnBoard, Closes}
use Rattle.fine_hall.specs.Ending.{fronts_of, Gathers, HoldsRoom, view_found, views_from}
use Rattle.fine_hall.proofs.Passing.{room_256}
use Rattle.fine_hall.proofs.Meaning.{found_room, not_bucket}
use Rattle.fine_hall.proofs.Turning.{none_own, keeps_job}
use Rattle.fine_hall.proofs.Gathering.{all_left}
use Rattle.fine_hall.proofs.Boarding.{HasOne, BoardsFront, of_number, one_place, front_at, front_there, all_from, all_at, at_within, are_on_board}
use Rattle.fine_hall.proofs.SumsMiddles.{middles_gathered}
use Rattle.fine_hall.proofs.SumsClosing.{CountsAll, views_backwards, given_backwards, closes_high, closes_low}

pub all_reverse : {A : Type 0} (P : A → Type 0) (l : List A) → AllByRecursion P l → AllByRecursion P (reverse l)
all_reverse P [] a = tt
all_reverse P (x ∷ l) a = subst (AllByRecursion P) (sym (reverse-cons x l)) (all_append P (reverse l) (x ∷ []) (all_reverse P l a.1) (a.0, tt))

-- items of no epoch up to one leave what is up to it
upto_front : (u : ℕ) (more log : List (Placed Turn)) → AllByRecursion (λ t. IsAbove u t.item) more → upto (commits (log ++ more)) u ≡ upto (commits log) u
upto_front u [] log a = ap (λ l. upto (commits l) u) (append-nil log)
upto_front u (t ∷ ts) log a = ap (λ l. upto (commits l) u) (sym (append_assoc log (t ∷ []) ts)) ∙ (upto_front u ts (log ++ t ∷ []) a.1 ∙ upto_more u log t a.0)

pub first_pass : {A : Type 0} (l : List A) → 0 < length l → (a : A) × (get_elem? l 0 ≡ some a)
first_pass [] lt = absurd (omega arith)
first_pass (a ∷ l) lt = (a, refl)

pub few_seats : (n : ℕ) → n ≤ most_seats → n ≤ 18
unfolding most_seats
few_seats n le = le

pub counted_words : (n words : ℕ) → words ≡ suc (suc places.room) + n → words ≡ 258 + n
unfolding places.room
counted_words n words e = e

pub enough_slots : (n slots count : ℕ) → suc places.room + 3 * n ≤ slots → count ≡ slots → 257 + 3 * n ≤ count
unfolding places.room
enough_slots n slots count le e = omega arith

-- ---- the passes

pub long_passes : {V : Type 0} (seats : ℕ) (passes : List (Pass V)) → AreAll seats passes → length passes ≡ seats
long_passes seats passes numbers = sym (length-map passes (λ (p : Pass _). p.number)) ∙ (sym (length_permutation (map (λ (p : Pass _). p.number) passes) (range_with_len 1 seats) numbers) ∙ length-range_with_len 1 seats)

module _ {V : Type 0} (view : V → ViewState) (z : TableId) (x : Beginning) where
  abbrev pub IsDone : Pass V → Type 0
  IsDone p = IsPass view z x p × HoldsNothing p × LacksJob x p

  owns_in : (done : List (Pass V)) → AllByRecursion IsDone done → AllByRecursion (λ p. Owns (flat_map (λ q. (known q).shares) done) p.number (own_turns p)) done
  owns_in [] ok = tt
  owns_in (p ∷ ps) ok = (
    owns_left (known p).shares (flat_map (λ (q : Pass V). (known q).shares) ps) p.number (own_turns p) (subst (λ ss. Owns ss p.number (own_turns p)) (sym ok.0.0.alone) (inl (refl, refl))),
    all_map (λ (q : Pass V) o. owns_right (known p).shares (flat_map (λ (r : Pass V). (known r).shares) ps) q.number (own_turns q) o) ps (owns_in ps ok.1),
  )

  notes_in : (P : BoxNote Turn → Type 0) (done : List (Pass V)) → AllByRecursion P (flat_map (λ q. (reads q).notes) done) → AllByRecursion (λ p. AllByRecursion P (reads p).notes) done
  notes_in P [] a = tt
  notes_in P (p ∷ ps) a = let t = all_left P (reads p).notes (flat_map (λ (q : Pass V). (reads q).notes) ps) a in (t.0, notes_in P ps t.1)

  module _ (passes done : List (Pass V)) (v : PassView) (ok : (i : ℕ) (p : Pass V) → get_elem? passes i ≡ some p → IsDone p) (numbers : AreAll x.seats passes) (is : passes ≡ reverse done) (g : Gathers done v) where
    backwards : done ≡ reverse passes
    backwards = sym (reverse-reverse done) ∙ ap reverse (sym is)

    all_done : AllByRecursion IsDone done
    all_done = subst (AllByRecursion IsDone) (sym backwards) (all_reverse IsDone passes (all_from IsDone passes ok))

    of_passes : (P : Pass V → Type 0) → AllByRecursion P done → (i : ℕ) (p : Pass V) → get_elem? passes i ≡ some p → P p
    of_passes P a i p at = all_at P passes i p (subst (AllByRecursion P) (sym is) (all_reverse P done a)) at

    done_numbers : AreAll x.seats done
    done_numbers = IsPermutation-trans _ _ _ (IsPermutation-map (λ (p : Pass V). p.number) done passes (subst (IsPermutation done) (sym is) (IsPermutation-reverse done))) numbers

    owns_done : AllByRecursion (λ p. Owns v.places.shares p.number (own_turns p)) done
    owns_done = subst (λ ss. AllByRecursion (λ (p : Pass V). Owns ss p.number (own_turns p)) done) (sym g.shares) (owns_in done all_done)

    -- the seat has the numbers of all
    pub owned : (n : ℕ) → 0 < n → n ≤ x.seats → Owned v.places.shares n
    owned n pos le = let t = of_number x.seats done done_numbers n pos le in
        (own_turns t.1, subst (λ m. Owns v.places.shares m (own_turns t.1)) t.3 (all_at (λ (p : Pass V). Owns v.places.shares p.number (own_turns p)) done t.0 t.1 owns_done t.2))

-- ---- the end

module _ {R B V : Type 0} (state : R → RoomState) (origin : R → Origin) (stands_for : R → List Row → ℕ → List Commit → Type 0) (bucket : B → ℕ) (cached : B → ℕ → Option (Content × ℕ)) (is_settled : B → Type 0) (view : V → ViewState) (z : TableId) (x : Beginning)
    (passes done : List (Pass V)) (v : PassView) (ok : (i : ℕ) (p : Pass V) → get_elem? passes i ≡ some p → IsDone view z x p) (numbers : AreAll x.seats passes) (is : passes ≡ reverse done) (g : Gathers done v) (some_pass : 0 < length passes)
    (id : ℕ) (slots : List (Option (Load R B V)))
    (e : Ended {T = Load R B V} (Stands state origin stands_for bucket cached is_settled) AreTurns (λ (y : Beginning). y.seats) touches_bucket (Keeps (λ (y : Beginning). y.seats) (view_in view) (board_in state) (sealed_in state) backs_in ShowsTurns IsAbove (λ (t : Turn). t.returned)) x id v slots) where
  abbrev all : List (Placed Turn)
  all = v.places.seen

  ends : Ends (λ (y : Beginning). y.seats) (view_in view) (board_in state) (sealed_in state) backs_in ShowsTurns IsAbove (λ (t : Turn). t.returned) x e.published all v slots
  ends = boxes_end (λ (y : Beginning). y.seats) (view_in view) (board_in state) (sealed_in state) backs_in ShowsTurns IsAbove (λ (t : Turn). t.returned) x e.published all e.state id v slots e.kept e.room_home e.there e.others e.homes

  -- the room lies in its slot
  room_thing : (l : Load R B V) → get_elem? slots places.room ≡ some (Some l) → Stands state origin stands_for bucket cached is_settled x places.room e.published l (touching touches_bucket places.room all) → (room : R) × HoldsRoom room slots
  room_thing (load.Room room entry epoch backs) at s = (room, (entry, epoch, backs, ap (get_elem? slots) room_256 ∙ at))
  room_thing (load.Bucket b) at s = absurd (not_bucket {V = V} state origin stands_for bucket cached is_settled x places.room e.published (load.Bucket b) b (touching touches_bucket places.room all) (λ i. places.room) (λ i. load.Bucket b) s)
  room_thing (load.View w) at s = absurd s

  pub room_in : (room : R) × HoldsRoom room slots
  room_in = let y = e.each places.room (le_refl places.room) in room_thing y.0 y.1 y.2

  module _ (room : R) (h : HoldsRoom room slots) where
    abbrev thing : Load R B V
    thing = load.Room room h.0 h.1 h.2

    in_slot : (l : Load R B V) → get_elem? slots places.room ≡ some (Some l) → l ≡ thing
    in_slot l at = some_same _ _ (some-injective _ _ (sym at ∙ (ap (get_elem? slots) (sym room_256) ∙ h.3)))

    stands : IsRoomFor state origin stands_for x e.published room all
    stands = let y = e.each places.room (le_refl places.room) in found_room state origin stands_for bucket cached is_settled x places.room e.published y.0 room h.0 h.1 h.2 all refl (in_slot y.0 y.1) y.2

    home_is : ends.home ≡ thing
    home_is = in_slot ends.home ends.at_room

    saw : AllByRecursion (λ (p : Pass V). StartsWith all (turns p)) done
    saw = g.saw all ([], sym (append-nil all)) e.fronts

    all_saw : (i : ℕ) (p : Pass V) → get_elem? passes i ≡ some p → StartsWith all (turns p)
    all_saw = of_passes view z x passes done v ok numbers is g (λ p. StartsWith all (turns p)) saw

    parts : (i : ℕ) (p : Pass V) → get_elem? passes i ≡ some p → own_turns p ≡ by_seat p.number all
    parts i p at = e.mine p.number (own_turns p) (of_passes view z x passes done v ok numbers is g (λ p. Owns v.places.shares p.number (own_turns p)) (owns_done view z x passes done v ok numbers is g) i p at)

    no_job : (state room).job ≡ None
    no_job =
        let first = first_pass passes some_pass in
        let bound = (ok 0 first.0 first.1).0.number in
        let t = of_number x.seats passes numbers 1 (omega arith) (omega arith) in
        let k = ok t.0 t.1 t.2 in
        let s = all_saw t.0 t.1 t.2 in
        let none = none_own t.1.number (turns t.1) s.0 all (own_turns t.1) s.1 k.0.own (parts t.0 t.1 t.2) in
        let kept = keeps_job x.room (turns t.1) s.0 (subst (AreTurns x) s.1 e.lawful).rooms (subst (λ n. by_seat n s.0 ≡ []) t.3 none) in
        ap (λ (r : RoomState). r.job) (stands.last ∙ ap (room_after x.room) s.1) ∙ (kept.job ∙ k.2 t.3)

    -- ---- what each pass has of its front

    abbrev EndsIn : BoxNote Turn → Type 0
    EndsIn = EndsNote x.seats IsAbove (sealed_in state ends.home) ends.cells all slots

    abbrev HasNotes : Pass V → Type 0
    HasNotes p = IsDone view z x p × AllByRecursion EndsIn (reads p).notes

    noted : AllByRecursion HasNotes done
    noted = all_both (λ (p : Pass V) a b. (a, b)) done (all_done view z x passes done v ok numbers is g) (notes_in view z x EndsIn done (subst (AllByRecursion EndsIn) g.notes ends.notes))

    note : (p : Pass V) (h : HasNotes p) → EndsIn h.0.0.front.note
    note p h = (subst (AllByRecursion EndsIn) h.0.0.front.one h.1).0

    note_number : (p : Pass V) (h : HasNotes p) → p.number ≡ suc (note p h).i
    note_number p h = sym h.0.0.front.seat ∙ (note p h).number

    have_fronts : AllByRecursion HasOne done
    have_fronts = all_map (λ (p : Pass V) h. (h.0.0.front.there, h.0.0.front.is_there)) done noted

    front_state : (p : Pass V) (h : HasNotes p) (w : V) → p.front ≡ Some w → view w ≡ counting h.0.0.front.note.front (view w).faults
    front_state p h w at = let f = h.0.0.front in subst (λ (u : V). view u ≡ counting f.note.front (view u).faults) (some_same f.there w (sym f.is_there ∙ at)) f.front

    seat_is : (p : Pass V) (h : HasNotes p) (w : V) → p.front ≡ Some w → (view w).seat ≡ p.number
    seat_is p h w at = ap (λ (u : ViewState). u.seat) (front_state p h w at) ∙ h.0.0.front.place.0

    boards : (p : Pass V) (h : HasNotes p) (w : V) → p.front ≡ Some w → BoardsFront x.seats ends.cells (view w)
    boards p h w at = let n = note p h in let s = front_state p h w at in record {
      i = n.i;
      within = n.within;
      seat = seat_is p h w at ∙ note_number p h;
      at = ap (λ (u : ViewState). u.buffer) s ∙ (ap (λ (u : ViewState). u.buffer) (sym n.front) ∙ (ends.each n.i n.within).front_at.buffer);
      same = ap (λ (u : ViewState). u.eye) s ∙ ap (λ (u : ViewState). u.eye) (sym n.front);
    }

    -- the pass of a front
    of_front : (k : ℕ) (w : V) → get_elem? (fronts_of done) k ≡ some w → (p : Pass V) × (get_elem? done k ≡ some p) × (p.front ≡ Some w) × HasNotes p
    of_front k w at = let t = front_at done have_fronts k w at in (t.0, t.1, t.2, all_at HasNotes done k t.0 noted t.1)

    of_seat : (i : ℕ) → i < x.seats → (k : ℕ) × (p : Pass V) × (get_elem? done k ≡ some p) × (p.number ≡ suc i) × HasNotes p
    of_seat i lt = let t = of_number x.seats done (done_numbers view z x passes done v ok numbers is g) (suc i) (omega arith) (omega arith) in (t.0, t.1, t.2, t.3, all_at HasNotes done t.0 t.1 noted t.2)

    -- ---- the middles

    empty_front : (i : ℕ) → i < x.seats → get_elem? slots (slot i (ends.cells i).front) ≡ some None
    empty_front i lt = let t = of_seat i lt in let n = note t.1 t.4 in let a = note_number t.1 t.4 in let b = t.3 in let same : n.i ≡ i = omega arith in
        subst (λ j. get_elem? slots (slot j (ends.cells j).front) ≡ some None) same
        (subst (λ j. get_elem? slots (slot n.i j) ≡ some None) (ap (λ (u : ViewState). u.buffer) (sym n.front) ∙ (ends.each n.i n.within).front_at.buffer) (n.emptied t.4.0.0.front.still.1))

    behind_room : 257 ≡ suc places.room
    behind_room = ap suc room_256

    abbrev pub middles : List V
    middles = views_from slots 257 (3 * x.seats)

    middles_are : (length middles ≡ x.seats) × ((i : ℕ) (w : V) → get_elem? middles i ≡ some w → view w ≡ (ends.cells i).ahead)
    middles_are = middles_gathered view slots (λ k. view_found (get_elem? slots (257 + k))) (views_from slots 257)
        (λ k w at. ap (λ n. view_found (get_elem? slots (n + k))) behind_room ∙ ap view_found at)
        (λ k at. ap (λ n. view_found (get_elem? slots (n + k))) behind_room ∙ ap view_found at)
        refl (λ n. refl) (ShowsTurns x) (board_in state ends.home) (sealed_in state ends.home) e.published all ends.cells x.seats ends.each empty_front

    -- ---- the board

    board_names : AreAllOnBoard (state room).board (map view (fronts_of done ++ middles))
    board_names = subst (λ l. AreAllOnBoard (board_in state l) (map view (fronts_of done ++ middles))) home_is
        (are_on_board view x.seats (board_in state ends.home) ends.cells (fronts_of done) middles ends.long.1 (λ i j lt less. (ends.each i lt).names j less) (λ i lt. (ends.each i lt).apart)
        (λ k w at. let t = of_front k w at in boards t.0 t.3 w t.2)
        (λ k l u w at at' same. let s = of_front k u at in let t = of_front l w at' in
        one_place x.seats done (done_numbers view z x passes done v ok numbers is g) k l s.0 t.0 s.1 t.1 (sym (seat_is s.0 s.3 u s.2) ∙ (same ∙ seat_is t.0 t.3 w t.2)) s.3.0.0.number.0 s.3.0.0.number.1)
        (λ i lt. let t = of_seat i lt in let f = t.4.0.0.front in (t.0, f.there, front_there done have_fronts t.0 t.1 f.there t.2 f.is_there, seat_is t.1 t.4 f.there f.is_there ∙ t.3))
        (λ i w at. let s = middles_are.1 i w at in let lt : i < x.seats = subst (λ n. i < n) middles_are.0 (at_within middles i w at) in let b = (ends.each i lt).middle_at in
        (record { i = i; within = lt; seat = ap (λ (u : ViewState). u.seat) s ∙ b.seat; at = ap (λ (u : ViewState). u.buffer) s ∙ b.buffer; same = ap (λ (u : ViewState). u.eye) s }, ap (λ (u : ViewState). u.seat) s ∙ b.seat))
        middles_are.0)

    -- ---- the fronts that each pass had

    abbrev Marked : Mark Turn → Type 0
    Marked k = (upto (commits all) k.upto ≡ upto (commits k.seen) k.upto) × (k.upto ≤ (state room).sealed)

    marked : AllByRecursion (λ (p : Pass V). AllByRecursion Marked (marks p)) done
    marked = all_map (λ (p : Pass V) h. let n = note p h in subst (AllByRecursion Marked) (ap first_marks (sym h.0.0.front.one))
        (all_map (λ (k : Mark Turn) m. (
          ap (λ l. upto (commits l) k.upto) m.0.is_front ∙ upto_front k.upto m.0.more k.seen m.0.later,
          (let le = m.1 in let top = n.upto in let home = ap (sealed_in state) home_is in omega arith),
        )) h.0.0.front.note.marks n.marks)) done noted

    -- ---- the counts

    counted : CountsAll view z x all passes (fronts_of done ++ middles) middles (λ i. (ends.cells i).ahead) v.beside
    counted = record {
      rooms = e.lawful.rooms;
      authors = e.authors;
      numbers = numbers;
      each = λ i p at. (ok i p at).0;
      parts = parts;
      saw = all_saw;
      views_are = views_backwards done passes middles is;
      middles_long = middles_are.0;
      middles_are = middles_are.1;
      counts = ends.counts;
      given = given_backwards done passes v.beside is g.notes;
    }

    pub closes : Closes state origin stands_for view x passes (fronts_of done ++ middles) room
    closes = record {
      all = all;
      lawful = e.lawful;
      published = e.published;
      no_earlier = of_passes view z x passes done v ok numbers is g (λ p. (known p).published ≤ e.published) (all_map (λ (p : Pass V) le. le_trans le e.no_earlier) done g.no_earlier);
      stood = stands;
      authors = e.authors;
      parts = parts;
      saw = all_saw;
      marks = of_passes view z x passes done v ok numbers is g (λ p. AllByRecursion Marked (marks p)) marked;
      middles = middles;
      views_are = views_backwards done passes middles is;
      on_board = board_names;
      no_job = no_job;
      high = closes_high view z x all passes (fronts_of done ++ middles) middles (λ i. (ends.cells i).ahead) v.beside counted (state room) stands.last;
      low = closes_low view z x all passes (fronts_of done ++ middles) middles (λ i. (ends.cells i).ahead) v.beside counted (state room) stands.last;
    }

    pub long_middles : length middles ≡ x.seats
    long_middles = middles_are.0

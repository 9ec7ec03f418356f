-- What the rule of the mailboxes asks of the steps at the places: at a bucket, at the room, and where a seat is split in two or joined.
use Rattle.std.proofs.Common.{◌≡◌, ℕ, suc, ◌+◌, ◌*◌, ◌<◌, ◌≤◌, List, [], ◌∷◌, ◌++◌, map, length, slice_get, slice_index, set, true, false, Option, Some, None, take, drop, sym, refl, ap, ◌∙◌, subst, ⊎_elim, arith, length-set, true≢false, get_or-set_same, get_or-set_other}
use Rattle.std.specs.List.{AllByRecursion}
use Rattle.std.proofs.lemmas.List.{map-append, length-replicate}
use Rattle.std.proofs.lemmas.List.Sums.{sum_by_push, sum_by-append}
use mathlib.Core.Option.{some, none, some-injective, some-ne-none}
use lib.ListN.{get_elem?}
use Rattle.atomic_table.specs.Table.{State}
use Rattle.atomic_table.proofs.Lists.{at_set, at_snoc, set_else, set_here}
use Rattle.fine_model.specs.declared.law.OpenedEye.{OpenedEye}
use Rattle.fine_model.specs.declared.law.ViewState.{ViewState}
use Rattle.fine_places.specs.declared.model.Placed.{Placed}
use Rattle.fine_places.specs.declared.model.Share.{Share}
use Rattle.fine_places.specs.declared.model.View.{View}
use Rattle.fine_places.specs.History.{room}
use Rattle.fine_places.specs.Places.{Holds, Homes, placed, grown, tail_of, head_of, without_first, only_first, joined, spent, giving}
use Rattle.fine_places.specs.Places as places
use Rattle.fine_places.specs.Beside.{Around, Stays, Takes, Gives, Splits, Joins}
use Rattle.fine_places.proofs.Lists.{none_held, some_same, not_some, all_map, all_append, set_at, zeros}
use Rattle.fine_boxes.specs.declared.model.BoxNote.{BoxNote}
use Rattle.fine_boxes.specs.declared.model.Mark.{Mark}
use Rattle.fine_boxes.specs.declared.model.TurnNote.{TurnNote}
use Rattle.fine_boxes.specs.declared.model.Reads.{Reads}
use Rattle.fine_boxes.specs.Boxes.{Cell, IsMark, NoteOk, TurnOk, ViewOk, AtHome, Keeps, Owes, Learns, ShowsMore, Lower, beginning, taking, given, cut_left, cut_right, both, nothing, mailbox, slot, given_by, given_of}
use Rattle.fine_boxes.specs.Lists.{first_same, rest_same, sum_set, sum_same, sum_cut, all_drop, all_take}
use Rattle.fine_boxes.specs.Cells.{box_behind, slot_behind, published_behind, back_is_empty, named_front}
use Rattle.fine_boxes.specs.Boxing.{box_changed, mark_grows, notes_behind, turn_behind}

-- ---- the numbers of notes and shares

module _ {N : Type 0} where
  abbrev note_seats : List (BoxNote N) → List ℕ
  note_seats ms = map (λ m. m.seat) ms

  abbrev share_seats : List (Share N) → List ℕ
  share_seats ps = map (λ p. p.seat) ps

  grown_seats : (e : Placed N) (ps : List (Share N)) → share_seats (grown e ps) ≡ share_seats ps
  grown_seats e [] = refl
  grown_seats e (p ∷ ps) = refl

  seats_left : (ms : List (BoxNote N)) (ps : List (Share N)) → note_seats ms ≡ share_seats ps → note_seats (drop 1 ms) ≡ share_seats (tail_of ps)
  seats_left [] [] e = refl
  seats_left [] (p ∷ ps) e = absurd (let n = ap length e in omega arith)
  seats_left (m ∷ ms) [] e = absurd (let n = ap length e in omega arith)
  seats_left (m ∷ ms) (p ∷ ps) e = rest_same m.seat p.seat (note_seats ms) (share_seats ps) e

  seats_right : (ms : List (BoxNote N)) (ps : List (Share N)) → note_seats ms ≡ share_seats ps → note_seats (take 1 ms) ≡ share_seats (head_of ps)
  seats_right [] [] e = refl
  seats_right [] (p ∷ ps) e = absurd (let n = ap length e in omega arith)
  seats_right (m ∷ ms) [] e = absurd (let n = ap length e in omega arith)
  seats_right (m ∷ ms) (p ∷ ps) e = ap (λ n. n ∷ []) (first_same m.seat p.seat (note_seats ms) (share_seats ps) e)

module _ {T X N : Type 0} (seats : X → ℕ) (view : T → Option ViewState) (board : T → List (Option OpenedEye)) (sealed : T → ℕ) (backs : T → List ℕ)
    (shows : X → List (Placed N) → ViewState → Type 0) (above : ℕ → N → Type 0) (returned : N → ℕ) where
  abbrev St : Type 0
  St = State (Option T) (View X N (Reads N))

  abbrev Kept : X → ℕ → List (Placed N) → St → Type 0
  Kept = Keeps seats view board sealed backs shows above returned

  -- the turn of who holds the room is so
  pub own_turn : (x : X) (p : ℕ) (log : List (Placed N)) (s : St) (r : Kept x p log s) (id : ℕ) (v : View X N (Reads N)) → get_elem? s.views id ≡ some v → Holds v.places room → (t : TurnNote) → v.beside.turn ≡ Some t
      → TurnOk (seats x) returned p r.cells log s.homes (given_by s.views) t
  own_turn x p log s r id v at held t is = let q = (r.each_view id v at).turning held in subst (TurnOk (seats x) returned p r.cells log s.homes (given_by s.views)) (some_same q.turn t (sym q.is ∙ is)) q.ok

  -- Words and slots of the places change, the history grows or not, and the views change.
  placed_moved : (x : X) (p : ℕ) (log now : List (Placed N)) (s : St) (r : Kept x p log s) (ws : List ℕ) (hs : Homes T) (vs : List (View X N (Reads N)))
      → length ws ≡ length s.words → length hs ≡ length s.homes
      → ((k : ℕ) → room < k → slice_index ws k ≡ slice_index s.words k) → ((k : ℕ) → room < k → get_elem? hs k ≡ get_elem? s.homes k)
      → ((i : ℕ) → i < seats x → (shows x log (r.cells i).shown → shows x now (r.cells i).shown) × (shows x log (r.cells i).ahead → shows x now (r.cells i).ahead))
      → ((j : ℕ) (u : View X N (Reads N)) → get_elem? vs j ≡ some u → ViewOk (seats x) above returned p r.cells now hs (given_by vs) u)
      → (slice_index ws room ≡ 0 → AtHome (seats x) board sealed backs returned p r.cells now hs (given_by vs))
      → Kept x p now record { words = ws; homes = hs; views = vs }
  placed_moved x p log now s r ws hs vs wide deep words homes told each home = record {
    cells = r.cells;
    wide = wide ∙ r.wide;
    deep = deep ∙ r.deep;
    published = words _ published_behind ∙ r.published;
    each_box = λ i lt. box_changed view (shows x) p p log now s.words ws s.homes hs i (r.cells i) (r.each_box i lt) (words (mailbox i) (box_behind i)) (λ a _ _. homes (slot i a) (slot_behind i a)) (told i lt).0 (told i lt).1 (λ h. h);
    each_view = each;
    home = home;
  }

  -- the view of a seat whose notes are as they were
  view_moved : (x : X) (p : ℕ) (cells : ℕ → Cell) (log now : List (Placed N)) (hs hs' : Homes T) (a b : ℕ) (v w : View X N (Reads N)) → ViewOk (seats x) above returned p cells log hs a v
      → w.beside.notes ≡ v.beside.notes → share_seats w.places.shares ≡ share_seats v.places.shares → ((k : ℕ) → room < k → get_elem? hs' k ≡ get_elem? hs k)
      → ((m : BoxNote N) → NoteOk (seats x) above cells log hs m → (k : Mark N) → IsMark above log m.front.upto k → IsMark above now m.front.upto k)
      → (Holds w.places room → (t : TurnNote) × (w.beside.turn ≡ Some t) × TurnOk (seats x) returned p cells now hs' b t)
      → ViewOk (seats x) above returned p cells now hs' b w
  view_moved x p cells log now hs hs' a b v w r notes shares behind mark turning = record {
    numbers = ap note_seats notes ∙ (r.numbers ∙ sym shares);
    notes = subst (AllByRecursion (NoteOk (seats x) above cells now hs')) (sym notes) (notes_behind (seats x) above cells log now hs hs' behind mark v.beside.notes r.notes);
    turning = λ h. let t = turning h in record { turn = t.0; is = t.1; ok = t.2 };
  }

  -- who held the room still does, with the same turn
  view_stays : (x : X) (p : ℕ) (cells : ℕ → Cell) (log : List (Placed N)) (hs hs' : Homes T) (a b : ℕ) (v w : View X N (Reads N)) → ViewOk (seats x) above returned p cells log hs a v
      → w.beside ≡ v.beside → share_seats w.places.shares ≡ share_seats v.places.shares → (Holds w.places room → Holds v.places room) → ((k : ℕ) → room < k → get_elem? hs' k ≡ get_elem? hs k) → b ≡ a
      → ViewOk (seats x) above returned p cells log hs' b w
  view_stays x p cells log hs hs' a b v w r same shares held behind total = view_moved x p cells log log hs hs' a b v w r (ap (λ (y : Reads N). y.notes) same) shares behind (λ _ _ _ h. h)
      (λ h. let t = r.turning (held h) in (t.turn, ap (λ (y : Reads N). y.turn) same ∙ t.is, turn_behind (seats x) returned p cells log hs hs' a b t.turn behind total t.ok))

  -- ---- a step at a bucket, or one that moves the room in or out of a slot

  pub boxes_stay : Stays Kept
  boxes_stay x p log s r a k n h id v w step le front =
      let z : View X N (Reads N) = record { places = w; beside = v.beside } in
      let vs : List (View X N (Reads N)) = set s.views id z in
      let ws : List ℕ = set s.words k n in
      let hs : Homes T = set s.homes k h in
      let near : k ≤ room = ⊎_elim (λ lt. omega arith) (λ e. let q = e.0 in omega arith) step.where_it_is in
      let total : given_by vs ≡ given_by s.views = sum_same (λ u. given_of u.beside) s.views id v z step.there refl in
      let behind : (j : ℕ) → room < j → get_elem? hs j ≡ get_elem? s.homes j = λ j lt. set_else s.homes k j h (λ e. omega arith) in
      placed_moved x p log log s r ws hs vs (length-set s.words k n) (length-set s.homes k h)
      (λ j lt. get_or-set_other s.words k j n 0 (λ e. omega arith)) behind (λ i lt. ((λ q. q), (λ q. q)))
      (λ j u e. ⊎_elim
      (λ t. subst (λ (y : View X N (Reads N)). ViewOk (seats x) above returned p r.cells log hs (given_by vs) y) t.1
      (view_stays x p r.cells log s.homes hs (given_by s.views) (given_by vs) v z (r.each_view id v step.there) refl (ap share_seats step.shares) (λ hold. sym step.same_room ∙ hold) behind total))
      (λ t. view_stays x p r.cells log s.homes hs (given_by s.views) (given_by vs) u u (r.each_view j u t.1) refl refl (λ hold. hold) behind total)
      (at_set s.views id j z u e))
      (λ zero. ⊎_elim
      (λ (lt : k < room). let o = r.home (sym (get_or-set_other s.words k room n 0 (λ e. omega arith)) ∙ zero) in record {
        thing = o.thing;
        there = set_else s.homes k room h (λ e. omega arith) ∙ o.there;
        ok = turn_behind (seats x) returned p r.cells log s.homes hs (given_by s.views) (given_by vs) (beginning board sealed backs o.thing) behind total o.ok;
      })
      (λ e. absurd (e.1 (sym e.2 ∙ (sym (get_or-set_same s.words room n 0 (let l = a.wide in omega arith)) ∙ (ap (λ j. slice_index (set s.words j n) room) (sym e.0) ∙ zero)))))
      step.where_it_is)

  -- ---- the room is taken

  -- what a seat learns of the room
  learns_boxes : (x : X) (p : ℕ) (log : List (Placed N)) (s : St) (r : Kept x p log s) (id : ℕ) (v : View X N (Reads N)) (thing : T) → get_elem? s.views id ≡ some v
      → TurnOk (seats x) returned p r.cells log s.homes (given_by s.views) (beginning board sealed backs thing) → Learns seats board sealed backs x v.beside thing
  learns_boxes x p log s r id v thing at o = record {
    fronts = all_map (λ m n. let b = r.each_box n.i n.here.within in let buffer : m.front.buffer ≡ (r.cells n.i).front = ap (λ (u : ViewState). u.buffer) (sym n.here.front) ∙ b.front_at.buffer in record {
      i = n.i;
      number = n.number;
      on_board = ap (λ j. slice_get (board thing) (3 * n.i + j)) buffer ∙ (o.names n.i (r.cells n.i).front n.here.within b.apart.front_in
          ∙ ap Some (named_front (r.cells n.i) (r.cells n.i).front refl ∙ ap (λ (u : ViewState). Some u.eye) n.here.front));
      upto = subst (λ (u : ViewState). u.upto ≤ sealed thing) n.here.front (o.below n.i n.here.within).0;
    }) v.beside.notes (r.each_view id v at).notes;
    long = (o.long.0, o.long.2);
    empty = λ i lt. let b = r.each_box i lt in let back = o.back i lt in (
      (let l = b.apart.back_in in omega arith),
      ap (λ j. slice_get (board thing) (3 * i + j)) back ∙ (o.names i (r.cells i).back lt b.apart.back_in ∙ ap Some (back_is_empty (r.cells i) b.apart (r.cells i).back refl)),
    );
  }

  pub boxes_take : Takes Kept (taking board sealed backs) (Learns seats board sealed backs)
  boxes_take x p log s r a n id v thing at owned pos vacant free there =
      let z : View X N (Reads N) = record { places = places.taking v.places room log p; beside = taking board sealed backs v.beside thing } in
      let vs : List (View X N (Reads N)) = set s.views id z in
      let ws : List ℕ = set s.words room n in
      let hs : Homes T = set s.homes room none in
      let h = r.home free in
      let is : h.thing ≡ thing = some_same h.thing thing (some-injective _ _ (some-injective _ _ (sym h.there ∙ there))) in
      let total : given_by vs ≡ given_by s.views = sum_same (λ u. given_of u.beside) s.views id v z at refl in
      let behind : (j : ℕ) → room < j → get_elem? hs j ≡ get_elem? s.homes j = λ j lt. set_else s.homes room j none (λ e. omega arith) in
      let o : TurnOk (seats x) returned p r.cells log s.homes (given_by s.views) (beginning board sealed backs thing) = subst (λ (y : T). TurnOk (seats x) returned p r.cells log s.homes (given_by s.views) (beginning board sealed backs y)) is h.ok in (
        placed_moved x p log log s r ws hs vs (length-set s.words room n) (length-set s.homes room none)
            (λ j lt. get_or-set_other s.words room j n 0 (λ e. omega arith)) behind (λ i lt. ((λ q. q), (λ q. q)))
            (λ j u e. ⊎_elim
            (λ t. subst (λ (y : View X N (Reads N)). ViewOk (seats x) above returned p r.cells log hs (given_by vs) y) t.1
            (view_moved x p r.cells log log s.homes hs (given_by s.views) (given_by vs) v z (r.each_view id v at) refl refl behind (λ _ _ _ q. q)
            (λ _. (beginning board sealed backs thing, refl, turn_behind (seats x) returned p r.cells log s.homes hs (given_by s.views) (given_by vs) (beginning board sealed backs thing) behind total o))))
            (λ t. view_moved x p r.cells log log s.homes hs (given_by s.views) (given_by vs) u u (r.each_view j u t.1) refl refl behind (λ _ _ _ q. q)
            (λ hold. absurd (let l = a.busy j room u t.1 hold in omega arith)))
            (at_set s.views id j z u e))
            (λ zero. absurd (let e = get_or-set_same s.words room n 0 (let l = a.wide in omega arith) in omega arith)),
        learns_boxes x p log s r id v thing at o,
      )

  -- ---- the room is given back

  module _ (more : ShowsMore shows above) (lower : Lower above) where
    -- what holds of the room at home once it was given back
    home_given : (x : X) (p : ℕ) (cells : ℕ → Cell) (log : List (Placed N)) (hs hs' : Homes T) (a b : ℕ) (t : TurnNote) (e : Placed N) (thing : T) → TurnOk (seats x) returned p cells log hs a t
        → t.out ≡ None → board thing ≡ t.board → backs thing ≡ t.backs → t.top ≤ sealed thing → returned e.item ≡ t.in_hand → ((k : ℕ) → room < k → get_elem? hs' k ≡ get_elem? hs k) → b ≡ a
        → TurnOk (seats x) returned p cells (log ++ e ∷ []) hs' b (beginning board sealed backs thing)
    home_given x p cells log hs hs' a b t e thing r out same_board same_backs top counted behind total = record {
      long = (
        subst (λ l. seats x ≤ length l) (sym same_backs) r.long.0,
        subst (λ n. seats x ≤ n) (sym (length-replicate (length (backs thing)) 0)) (subst (λ l. seats x ≤ length l) (sym same_backs) r.long.0),
        ap length same_board ∙ r.long.2,
      );
      back = λ i lt. ap (λ l. slice_index l i) same_backs ∙ r.back i lt;
      emptied = λ i lt _. behind (slot i (cells i).back) (slot_behind i (cells i).back) ∙ r.emptied i lt (not_some t.out i out);
      reaches = λ i lt. let z = zeros (length (backs thing)) i in record { fresh = λ _. omega arith; stale = λ _. omega arith };
      posted_below = λ i lt. let z = zeros (length (backs thing)) i in omega arith;
      below = λ i lt. let l = r.below i lt in ((let l₀ = l.0 in omega arith), (let l₁ = l.1 in omega arith));
      published = let l = r.published in omega arith;
      names = λ i j lt le. ap (λ l. slice_get l (3 * i + j)) same_board ∙ r.names i j lt le;
      counts = (let q = r.counts in let z = sum_by_push (λ (u : Placed N). returned u.item) log e in omega arith);
    }

    give_item : (x : X) (p : ℕ) (log : List (Placed N)) (s : St) → Around p log s → (id : ℕ) (v : View X N (Reads N)) (r : Kept x p v.places.seen s) (thing : T) (item : Option N) → get_elem? s.views id ≡ some v → Holds v.places room
        → Owes board sealed backs above returned x p v.places.seen item v.beside thing → (n : N) → item ≡ Some n
        → Kept x p (giving v.places room (Some n)).seen record { words = set s.words room 0; homes = set s.homes room (some (Some thing)); views = set s.views id (record { places = giving v.places room (Some n); beside = given v.beside }) }
    give_item x p log s a id v r thing item at held o n is =
        let z : View X N (Reads N) = record { places = giving v.places room (Some n); beside = given v.beside } in
        let vs : List (View X N (Reads N)) = set s.views id z in
        let ws : List ℕ = set s.words room 0 in
        let hs : Homes T = set s.homes room (some (Some thing)) in
        let e : Placed N = placed v.places.shares n in
        let seen : List (Placed N) = v.places.seen in
        let now : List (Placed N) = seen ++ e ∷ [] in
        let t : TurnNote = o.turn in
        let added : o.added ≡ n = some_same o.added n (sym o.item_is ∙ is) in
        let later : above t.top e.item = subst (above t.top) added o.later in
        let ok : TurnOk (seats x) returned p r.cells seen s.homes (given_by s.views) t = own_turn x p seen s r id v at held t o.is in
        let total : given_by vs ≡ given_by s.views = sum_same (λ u. given_of u.beside) s.views id v z at refl in
        let behind : (j : ℕ) → room < j → get_elem? hs j ≡ get_elem? s.homes j = λ j lt. set_else s.homes room j (some (Some thing)) (λ q. omega arith) in
        let mark : (m : BoxNote N) → NoteOk (seats x) above r.cells seen s.homes m → (k : Mark N) → IsMark above seen m.front.upto k → IsMark above now m.front.upto k = λ m q.
        mark_grows above seen e t.top m.front.upto lower later (subst (λ (u : ViewState). u.upto ≤ t.top) q.here.front (ok.below q.i q.here.within).0) in
        placed_moved x p seen now s r ws hs vs (length-set s.words room 0) (length-set s.homes room (some (Some thing)))
        (λ j lt. get_or-set_other s.words room j 0 0 (λ q. omega arith)) behind
        (λ i lt. (more x seen e (r.cells i).shown (lower (r.cells i).shown.upto t.top e.item (ok.below i lt).0 later), more x seen e (r.cells i).ahead (lower (r.cells i).ahead.upto t.top e.item (ok.below i lt).1 later)))
        (λ j u q. ⊎_elim
        (λ c. subst (λ (y : View X N (Reads N)). ViewOk (seats x) above returned p r.cells now hs (given_by vs) y) c.1
        (view_moved x p r.cells seen now s.homes hs (given_by s.views) (given_by vs) v z (r.each_view id v at) refl (grown_seats e v.places.shares) behind mark
        (λ hold. absurd (true≢false (some-injective _ _ (sym hold ∙ set_at v.places.held room true false held))))))
        (λ c. view_moved x p r.cells seen now s.homes hs (given_by s.views) (given_by vs) u u (r.each_view j u c.1) refl refl behind mark
        (λ hold. absurd (c.0 (a.one_holder j id room u v c.1 at hold held))))
        (at_set s.views id j z u q))
        (λ _. record {
          thing = thing;
          there = set_here s.homes room (some (Some thing)) (let l = a.deep in omega arith);
          ok = home_given x p r.cells seen s.homes hs (given_by s.views) (given_by vs) t e thing ok o.still o.board_is o.backs_is o.top (ap returned (sym added) ∙ o.counted) behind total;
        })

    pub boxes_give : Gives Kept (λ y thing. given y) (Owes board sealed backs above returned)
    boxes_give x p log s r a id v thing item at held seen o =
        subst (λ (i : Option N). Kept x p (giving v.places room i).seen record { words = set s.words room 0; homes = set s.homes room (some (Some thing)); views = set s.views id (record { places = giving v.places room i; beside = given v.beside }) })
        (sym o.item_is) (give_item x p log s a id v (subst (λ (l : List (Placed N)). Kept x p l s) (sym seen) r) thing item at held o o.added o.item_is)

  -- ---- seats

  pub boxes_split : Splits Kept cut_left cut_right
  boxes_split x p log s r a id n v at free shares =
      let y : View X N (Reads N) = record { places = without_first v.places; beside = cut_left v.beside } in
      let z : View X N (Reads N) = record { places = only_first v.places; beside = cut_right v.beside } in
      let vs : List (View X N (Reads N)) = set s.views id y ++ z ∷ [] in
      let k = r.each_view id v at in
      let total : given_by vs ≡ given_by s.views = (
      let e = sum_by-append (λ (u : View X N (Reads N)). given_of u.beside) (set s.views id y) (z ∷ []) in
      let f = sum_set (λ (u : View X N (Reads N)). given_of u.beside) s.views id v y at in
      let g = sum_cut (λ (m : BoxNote N). m.given_up) 1 v.beside.notes in
      omega arith) in
      placed_moved x p log log s r s.words s.homes vs refl refl (λ _ _. refl) (λ _ _. refl) (λ _ _. ((λ q. q), (λ q. q)))
      (λ j u e. ⊎_elim
      (λ d. ⊎_elim
      (λ t. subst (λ (w : View X N (Reads N)). ViewOk (seats x) above returned p r.cells log s.homes (given_by vs) w) t.1
      (record { numbers = seats_left v.beside.notes v.places.shares k.numbers; notes = all_drop (NoteOk (seats x) above r.cells log s.homes) 1 v.beside.notes k.notes; turning = λ hold. absurd (free room hold) }))
      (λ t. view_stays x p r.cells log s.homes s.homes (given_by s.views) (given_by vs) u u (r.each_view j u t.1) refl refl (λ hold. hold) (λ _ _. refl) total)
      (at_set s.views id j y u d))
      (λ t. subst (λ (w : View X N (Reads N)). ViewOk (seats x) above returned p r.cells log s.homes (given_by vs) w) t
      (record { numbers = seats_right v.beside.notes v.places.shares k.numbers; notes = all_take (NoteOk (seats x) above r.cells log s.homes) 1 v.beside.notes k.notes; turning = λ hold. absurd (none_held (suc room) room hold) }))
      (at_snoc (set s.views id y) z u j e))
      (λ zero. let o = r.home zero in record { thing = o.thing; there = o.there; ok = turn_behind (seats x) returned p r.cells log s.homes s.homes (given_by s.views) (given_by vs) (beginning board sealed backs o.thing) (λ _ _. refl) total o.ok })

  pub boxes_join : Joins Kept both nothing
  boxes_join x p log s r a id v other w at at' ne free free' =
      let y : View X N (Reads N) = record { places = joined v.places w.places; beside = both v.beside w.beside } in
      let z : View X N (Reads N) = record { places = spent; beside = nothing } in
      let vs : List (View X N (Reads N)) = set (set s.views id y) other z in
      let k = r.each_view id v at in
      let l = r.each_view other w at' in
      let total : given_by vs ≡ given_by s.views = (
      let e = sum_set (λ (u : View X N (Reads N)). given_of u.beside) (set s.views id y) other w z (set_else s.views id other y ne ∙ at') in
      let f = sum_set (λ (u : View X N (Reads N)). given_of u.beside) s.views id v y at in
      let g = sum_by-append (λ (m : BoxNote N). m.given_up) v.beside.notes w.beside.notes in
      omega arith) in
      placed_moved x p log log s r s.words s.homes vs refl refl (λ _ _. refl) (λ _ _. refl) (λ _ _. ((λ q. q), (λ q. q)))
      (λ j u e. ⊎_elim
      (λ t. subst (λ (q : View X N (Reads N)). ViewOk (seats x) above returned p r.cells log s.homes (given_by vs) q) t.1 (record { numbers = refl; notes = tt; turning = λ hold. absurd (some-ne-none _ (sym hold)) }))
      (λ c. ⊎_elim
      (λ t. subst (λ (q : View X N (Reads N)). ViewOk (seats x) above returned p r.cells log s.homes (given_by vs) q) t.1 (record {
        numbers = map-append (λ m. m.seat) v.beside.notes w.beside.notes ∙ ((λ i. k.numbers i ++ l.numbers i) ∙ sym (map-append (λ q. q.seat) v.places.shares w.places.shares));
        notes = all_append (NoteOk (seats x) above r.cells log s.homes) v.beside.notes w.beside.notes k.notes l.notes;
        turning = λ hold. absurd (free room hold);
      }))
      (λ t. view_stays x p r.cells log s.homes s.homes (given_by s.views) (given_by vs) u u (r.each_view j u t.1) refl refl (λ hold. hold) (λ _ _. refl) total)
      (at_set s.views id j y u c.1))
      (at_set (set s.views id y) other j z u e))
      (λ zero. let o = r.home zero in record { thing = o.thing; there = o.there; ok = turn_behind (seats x) returned p r.cells log s.homes s.homes (given_by s.views) (given_by vs) (beginning board sealed backs o.thing) (λ _ _. refl) total o.ok })

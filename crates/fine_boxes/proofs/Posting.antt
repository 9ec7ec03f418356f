-- Who holds the room posts a view to a seat: the back slot comes into hand, the view is posted, and the slot goes home.
use Rattle.std.proofs.Common.{◌≡◌, ◌≢◌, ℕ, suc, ◌+◌, ◌*◌, ◌<◌, ◌≤◌, List, length, slice_get, slice_index, set, Bool, true, Option, Some, None, sym, refl, ap, ◌∙◌, subst, ⊎_elim, arith, le_refl, length-set, true≢false, get_or-set_same, get_or-set_other}
use Rattle.std.proofs.lemmas.List.{set-get_or}
use mathlib.Core.Option.{some, none}
use mathlib.Core.Option as maybe
use lib.ListN.{get_elem?}
use Rattle.atomic_table.specs.Table.{gives, takes, chain}
use Rattle.atomic_table.proofs.Lists.{set_else, set_here}
use Rattle.fine_model.specs.declared.law.OpenedEye.{OpenedEye}
use Rattle.fine_model.specs.declared.law.ViewState.{ViewState}
use Rattle.fine_places.specs.declared.model.Placed.{Placed}
use Rattle.fine_places.specs.declared.model.View.{View}
use Rattle.fine_places.specs.History.{room}
use Rattle.fine_places.specs.Places.{Holds, Homes, Emptied}
use Rattle.fine_places.specs.Beside.{Around}
use Rattle.fine_boxes.specs.declared.model.BoxNote.{BoxNote}
use Rattle.fine_boxes.specs.declared.model.TurnNote.{TurnNote}
use Rattle.fine_boxes.specs.declared.model.Reads.{Reads}
use Rattle.fine_boxes.specs.Boxes.{BoxState, Cell, Apart, BoxOk, NoteOk, TurnOk, Keeps, mailbox, slot, named, given_by, given_of}
use Rattle.fine_boxes.specs.Telling.{posting}
use Rattle.fine_boxes.specs.Steps.{FetchesBackStep, PostsStep, LandsBackStep}
use Rattle.fine_places.proofs.Lists.{decide, all_map, not_some, some_inj, some_same}
use Rattle.fine_boxes.specs.Lists.{get_set_else, sum_same, sum_below_put}
use Rattle.fine_boxes.specs.Cells.{put, put_here, put_else, put_same, slot_behind, slot_within, seats_apart, buffers_apart, box_within, empty_is_back, back_is_empty, named_middle, named_posted}
use Rattle.fine_boxes.specs.Boxing.{box_changed, note_changed, turn_out, turn_put}
use Rattle.fine_boxes.specs.Placing.{own_turn}
use Rattle.fine_boxes.proofs.Keeping.{alone, boxes_moved}
use Rattle.fine_boxes.proofs.Looking.{sees_none}

-- the cell of a seat to which a view was posted
abbrev pub delivered : Cell → ViewState → Cell
delivered d new = record { front = d.front; middle = new.buffer; back = d.ahead.buffer; fresh = true; shown = d.shown; ahead = new }

-- the mailbox after it
pub box_posted : {T N : Type 0} (view : T → Option ViewState) (tells : List (Placed N) → ViewState → Type 0) (p : ℕ) (log : List (Placed N)) (words : List ℕ) (homes : Homes T) (i : ℕ) (d : Cell) (b : BoxOk view tells p log words homes i d)
    → (new : ViewState) (y : T) (hs : Homes T) → view y ≡ Some new → new.seat ≡ suc i → new.buffer ≡ d.back → tells log new → new.faults ≡ 0 → d.shown.upto ≤ new.upto → p ≤ new.upto → mailbox i < length words
    → get_elem? hs (slot i new.buffer) ≡ some (some (Some y))
    → BoxOk view tells p log (set words (mailbox i) (2 * new.buffer + 1)) hs i (delivered d new)
box_posted view tells p log words homes i d b new y hs is seat buffer told clean later reach near there = record {
  apart = record {
    front_in = b.apart.front_in;
    middle_in = (let l = b.apart.back_in in omega arith);
    back_in = (let e = b.middle_at.buffer in let l = b.apart.middle_in in omega arith);
    front_middle = λ e. b.apart.front_back (e ∙ buffer);
    front_back = λ e. b.apart.front_middle (e ∙ b.middle_at.buffer);
    middle_back = λ e. b.apart.middle_back (sym b.middle_at.buffer ∙ (sym e ∙ buffer));
  };
  word = get_or-set_same words (mailbox i) (2 * new.buffer + 1) 0 near;
  thing = y;
  there = there;
  is_view = is;
  front_at = b.front_at;
  middle_at = record { seat = seat; buffer = refl };
  front_shows = b.front_shows;
  middle_shows = told;
  later = λ _. later;
  clean = λ _. clean;
  reaches = record { fresh = λ _. reach; stale = λ e. absurd (true≢false e) };
}

-- the turn after it
pub turn_posted : {T N : Type 0} (count : ℕ) (returned : N → ℕ) (p : ℕ) (cells : ℕ → Cell) (log : List (Placed N)) (homes hs : Homes T) (a b : ℕ) (t : TurnNote) (i : ℕ) (new : ViewState) → i < count → ((j : ℕ) → j < count → Apart (cells j))
    → TurnOk count returned p cells log homes a t
    → t.out ≡ Some i → (cells i).ahead.buffer ≡ (cells i).middle → new.buffer ≡ (cells i).back → new.faults ≡ 0 → t.top ≤ new.upto
    → ((j e : ℕ) → j ≢ i → e < 3 → get_elem? hs (slot j e) ≡ get_elem? homes (slot j e)) → b ≡ a
    → TurnOk count returned p (put cells i (delivered (cells i) new)) log hs b (posting t i new.buffer new (cells i).ahead)
turn_posted count returned p cells log homes hs a b t i new near each r out middle buffer clean later other same =
    let d : Cell = cells i in
    let old : ViewState = d.ahead in
    let c : Cell = delivered d new in
    let l = r.long in
    let old_in : old.buffer < 3 = (let h = (each i near).middle_in in omega arith) in
    let new_in : new.buffer < 3 = (let h = (each i near).back_in in omega arith) in
    let board₁ : List (Option OpenedEye) = set t.board (3 * i + new.buffer) (Some new.eye) in
    let sums = sum_below_put count (λ j. (cells j).ahead.faults) (λ j. (put cells i c j).ahead.faults) i near (λ j lt ne. ap (λ (e : Cell). e.ahead.faults) (put_else cells i j c ne)) in
    let now : (put cells i c i).ahead.faults ≡ new.faults = ap (λ (e : Cell). e.ahead.faults) (put_here cells i i c refl) in
    let posted_now : slice_index (set t.posted i new.upto) i ≡ new.upto = get_or-set_same t.posted i new.upto 0 (let h = l.1 in omega arith) in
    turn_put count returned p cells log homes hs a b t (posting t i new.buffer new old) i c each r
    (length-set t.backs i old.buffer, length-set t.posted i new.upto, length-set board₁ (3 * i + old.buffer) None ∙ length-set t.board (3 * i + new.buffer) (Some new.eye)) later other
    (λ j ne. get_or-set_other t.backs i j old.buffer 0 ne) (λ j ne. get_or-set_other t.posted i j new.upto 0 ne)
    (λ j e ne lt. get_set_else board₁ (3 * i + old.buffer) (3 * j + e) None (λ z. ne (omega arith)) ∙ get_set_else t.board (3 * i + new.buffer) (3 * j + e) (Some new.eye) (λ z. ne (omega arith)))
    (λ j _ no_out. no_out)
    (get_or-set_same t.backs i old.buffer 0 (let h = l.0 in omega arith)) (λ no_out. absurd (no_out out))
    (record { fresh = λ _. (omega arith); stale = λ e. absurd (true≢false e) }) (omega arith)
    ((let h = (r.below i near).0 in omega arith), le_refl new.upto)
    (named_posted t.board i count d c (each i near) near l.2 refl refl buffer middle (λ j lt. r.names i j near lt))
    (let q = r.counts in omega arith)

module _ {T X N : Type 0} (seats : X → ℕ) (view : T → Option ViewState) (board : T → List (Option OpenedEye)) (sealed : T → ℕ) (backs : T → List ℕ)
    (shows : X → List (Placed N) → ViewState → Type 0) (above : ℕ → N → Type 0) (returned : N → ℕ) (x : X) where
  abbrev Kept : ℕ → List (Placed N) → BoxState T X N → Type 0
  Kept p log s = Keeps seats view board sealed backs shows above returned x p log s

  -- the view of a seat that records another turn
  abbrev turning : View X N (Reads N) → TurnNote → View X N (Reads N)
  turning v u = record { places = v.places; beside = record v.beside { turn = Some u } }

  -- the back slot of a seat is moved by who holds the room
  back_moved : (p : ℕ) (log : List (Placed N)) (s : BoxState T X N) (r : Kept p log s) → Around p log s → (id : ℕ) (v : View X N (Reads N)) → get_elem? s.views id ≡ some v → (i : ℕ) → i < seats x → Holds v.places room
      → (hs : Homes T) → length hs ≡ length s.homes → ((k : ℕ) → k ≢ slot i (r.cells i).back → get_elem? hs k ≡ get_elem? s.homes k)
      → (u : TurnNote) → TurnOk (seats x) returned p r.cells log hs (given_by s.views) u
      → Kept p log record { words = set s.words (mailbox i) (slice_index s.words (mailbox i)); homes = hs; views = set s.views id (turning v u) }
  back_moved p log s r a id v at i near held hs long far u ok =
      let d : Cell = r.cells i in
      let b = r.each_box i near in
      let k = r.each_view id v at in
      let total : given_by (set s.views id (turning v u)) ≡ given_by s.views = sum_same (λ z. given_of z.beside) s.views id v (turning v u) at refl in
      let note : (m : BoxNote N) → NoteOk (seats x) above r.cells log s.homes m → NoteOk (seats x) above r.cells log hs m = λ m q. note_changed (seats x) above r.cells r.cells log log s.homes hs m q refl (λ f. f) (λ _ h. h)
      (λ e. far (slot q.i (r.cells q.i).front) (⊎_elim
      (λ (z : q.i ≡ i). subst (λ (n : ℕ). slot n (r.cells n).front ≢ slot i d.back) (sym z) (buffers_apart i d.front d.back b.apart.front_back))
      (λ (ne : q.i ≢ i). seats_apart q.i i (r.cells q.i).front d.back ne (r.each_box q.i q.here.within).apart.front_in b.apart.back_in)
      (decide q.i i)) ∙ e) in
      boxes_moved seats view board sealed backs shows above returned x p log s r id v (turning v u) at i (slice_index s.words (mailbox i)) near hs r.cells (λ j ne. refl) long
      (λ n ne. far n (ne d.back b.apart.back_in))
      (box_changed view (shows x) p p log log s.words (set s.words (mailbox i) (slice_index s.words (mailbox i))) s.homes hs i d b (ap (λ (ws : List ℕ). slice_index ws (mailbox i)) (set-get_or s.words (mailbox i) 0))
      (λ e le q. far (slot i e) (buffers_apart i e d.back (λ z. b.apart.middle_back (sym q ∙ z)))) (λ h. h) (λ h. h) (λ h. h))
      (λ j z ne at' m owned e q. note m q)
      (λ t else q. absurd (alone p log s a id v at held else))
      (record {
        numbers = k.numbers;
        notes = all_map note v.beside.notes k.notes;
        turning = λ _. record { turn = u; is = refl; ok = subst (λ n. TurnOk (seats x) returned p r.cells log hs n u) (sym total) ok };
      })

  -- The back slot of a seat comes into hand, or goes home: what the turn has in hand then says which.
  back_put : (p : ℕ) (log : List (Placed N)) (s : BoxState T X N) (r : Kept p log s) → Around p log s → (id : ℕ) (v : View X N (Reads N)) → get_elem? s.views id ≡ some v → (i : ℕ) → i < seats x → Holds v.places room
      → (t : TurnNote) → TurnOk (seats x) returned p r.cells log s.homes (given_by s.views) t → (h : maybe.Option (Option T)) (o : Option ℕ)
      → (o ≢ Some i → Emptied (set s.homes (slot i (slice_index t.backs i)) h) (slot i (slice_index t.backs i))) → ((j : ℕ) → j ≢ i → o ≢ Some j → t.out ≢ Some j)
      → Kept p log record { words = set s.words (mailbox i) (slice_index s.words (mailbox i)); homes = set s.homes (slot i (slice_index t.backs i)) h; views = set s.views id (turning v (record t { out = o })) }
  back_put p log s r a id v at i near held t q h o here else =
      let home : ℕ = slot i (slice_index t.backs i) in
      let hs : Homes T = set s.homes home h in
      let back : slice_index t.backs i ≡ (r.cells i).back = q.back i near in
      let back_in : slice_index t.backs i < 3 = (let l = (r.each_box i near).apart.back_in in omega arith) in
      back_moved p log s r a id v at i near held hs (length-set s.homes home h) (λ k ne. set_else s.homes home k h (λ e. ne (e ∙ ap (slot i) back))) (record t { out = o })
      (turn_out (seats x) returned p r.cells log s.homes hs (given_by s.views) (given_by s.views) t o
      (λ j lt out. ⊎_elim
      (λ (e : j ≡ i). subst (λ (n : ℕ). Emptied hs (slot n (r.cells n).back)) (sym e) (ap (λ n. get_elem? hs (slot i n)) (sym back) ∙ here (subst (λ (n : ℕ). o ≢ Some n) e out)))
      (λ (ne : j ≢ i). set_else s.homes home (slot j (r.cells j).back) h (seats_apart j i (r.cells j).back (slice_index t.backs i) ne (r.each_box j lt).apart.back_in back_in) ∙ q.emptied j lt (else j ne out))
      (decide j i)) refl q)

  module _ (legal : X → List (Placed N) → Type 0) (touches : ℕ → N → Bool) (slots id : ℕ) where
    pub fetches_back : FetchesBackStep (Keeps seats view board sealed backs shows above returned) legal touches seats view shows x slots id
    fetches_back v c t i held is still near p log s r a deep at small about sees =
        let q = own_turn seats view board sealed backs shows above returned x p log s r id v at held t is in
        let d : Cell = r.cells i in
        let b = r.each_box i near in
        let back : slice_index t.backs i ≡ d.back = q.back i near in
        let home : ℕ = slot i (slice_index t.backs i) in
        let free : Emptied s.homes home = ap (λ j. get_elem? s.homes (slot i j)) back ∙ q.emptied i near (not_some t.out i still) in (
          p,
          turning v (record t { out = Some i }),
          takes home None,
          sees_none p log v.places (a.published id v at) (λ h. (a.holder id v at h).1),
          slot_behind i (slice_index t.backs i),
          free,
          back_put p log s r a id v at i near held t q none (Some i) (λ out. absurd (out refl)) (λ j _ _. not_some t.out j still),
          (
            record {
              places = refl;
              beside = refl;
              known = (let l = q.long.0 in omega arith);
              is_empty = ap (λ j. slice_get t.board (3 * i + j)) back ∙ (q.names i d.back near b.apart.back_in ∙ ap Some (back_is_empty d b.apart d.back refl));
              only = λ j lt e. empty_is_back d b.apart j lt (some_same (named d j) None (sym (q.names i j near lt) ∙ e)) ∙ sym back;
            },
            refl,
          ),
        )

    pub lands_back : LandsBackStep (Keeps seats view board sealed backs shows above returned) legal touches seats view shows x slots id
    lands_back v c t i near held is out p log s r a deep at small about sees =
        let q = own_turn seats view board sealed backs shows above returned x p log s r id v at held t is in
        let home : ℕ = slot i (slice_index t.backs i) in
        let back_in : slice_index t.backs i < 3 = (let e = q.back i near in let l = (r.each_box i near).apart.back_in in omega arith) in
        let within : home < length s.homes = (let l = r.deep in let h = slot_within i (slice_index t.backs i) (seats x) near back_in in omega arith) in (
          p,
          turning v (record t { out = None }),
          gives,
          sees_none p log v.places (a.published id v at) (λ h. (a.holder id v at h).1),
          tt,
          tt,
          back_put p log s r a id v at i near held t q (some None) None (λ _. set_here s.homes home (some None) within) (λ j ne _ e. ne (some_inj j i (sym e ∙ out))),
          (refl, refl),
        )

    pub posts : PostsStep (Keeps seats view board sealed backs shows above returned) legal touches seats view shows x slots id
    posts v y new c t i near held is out shows_y may p log s r a deep at small about sees =
        let q = own_turn seats view board sealed backs shows above returned x p log s r id v at held t is in
        let d : Cell = r.cells i in
        let b = r.each_box i near in
        let k = r.each_view id v at in
        let old : ViewState = d.ahead in
        let z : T = b.thing in
        let buffer : new.buffer ≡ d.back = empty_is_back d b.apart new.buffer may.within (some_same (named d new.buffer) None (sym (q.names i new.buffer near may.within) ∙ may.empty)) in
        let middle : old.buffer ≡ d.middle = b.middle_at.buffer in
        let old_in : old.buffer < 3 = (let l = b.apart.middle_in in omega arith) in
        let far : old.buffer ≢ new.buffer = λ e. b.apart.middle_back (sym middle ∙ (e ∙ buffer)) in
        let new_slot : ℕ = slot i new.buffer in
        let old_slot : ℕ = slot i old.buffer in
        let homes₁ : Homes T = set s.homes new_slot (some (Some y)) in
        let hs : Homes T = set homes₁ old_slot none in
        let u : TurnNote = posting t i new.buffer new old in
        let cell : Cell = delivered d new in
        let cs : ℕ → Cell = put r.cells i cell in
        let wide : mailbox i < length s.words = (let l = r.wide in let h = box_within i (seats x) near in omega arith) in
        let deep_in : new_slot < length s.homes = (let l = r.deep in let le = may.within in let h = slot_within i new.buffer (seats x) near le in omega arith) in
        let here : get_elem? hs new_slot ≡ some (some (Some y)) = set_else homes₁ old_slot new_slot none (buffers_apart i new.buffer old.buffer (λ e. far (sym e))) ∙ set_here s.homes new_slot (some (Some y)) deep_in in
        let other : (l : ℕ) → ((e : ℕ) → e < 3 → l ≢ slot i e) → get_elem? hs l ≡ get_elem? s.homes l = λ l ne. set_else homes₁ old_slot l none (ne old.buffer old_in) ∙ set_else s.homes new_slot l (some (Some y)) (ne new.buffer may.within) in
        let others : (j e : ℕ) → j ≢ i → e < 3 → get_elem? hs (slot j e) ≡ get_elem? s.homes (slot j e) = λ j e ne lt. other (slot j e) (λ f lf. seats_apart j i e f ne lt lf) in
        let front_stays : get_elem? hs (slot i d.front) ≡ get_elem? s.homes (slot i d.front) =
        set_else homes₁ old_slot (slot i d.front) none (buffers_apart i d.front old.buffer (λ e. b.apart.front_middle (e ∙ middle)))
        ∙ set_else s.homes new_slot (slot i d.front) (some (Some y)) (buffers_apart i d.front new.buffer (λ e. b.apart.front_back (e ∙ buffer))) in
        let total : given_by (set s.views id (turning v u)) ≡ given_by s.views = sum_same (λ z. given_of z.beside) s.views id v (turning v u) at refl in
        let note : (m : BoxNote N) → NoteOk (seats x) above r.cells log s.homes m → NoteOk (seats x) above cs log hs m = λ m n. note_changed (seats x) above r.cells cs log log s.homes hs m n
        (put_same (λ (e : Cell). e.shown) r.cells i cell refl n.i)
        (λ f. ⊎_elim (λ (e : n.i ≡ i). ap (λ (e : Cell). e.fresh) (put_here r.cells i n.i cell e)) (λ (ne : n.i ≢ i). ap (λ (e : Cell). e.fresh) (put_else r.cells i n.i cell ne) ∙ f) (decide n.i i))
        (λ _ h. h)
        (λ e. ap (λ j. get_elem? hs (slot n.i j)) (put_same (λ (e : Cell). e.front) r.cells i cell refl n.i) ∙ (⊎_elim
        (λ (e : n.i ≡ i). subst (λ (j : ℕ). get_elem? hs (slot j (r.cells j).front) ≡ get_elem? s.homes (slot j (r.cells j).front)) (sym e) front_stays)
        (λ (ne : n.i ≢ i). others n.i (r.cells n.i).front ne (r.each_box n.i n.here.within).apart.front_in)
        (decide n.i i) ∙ e)) in
        let whole : v.places.seen ≡ log = (a.holder id v at held).0 in
        let top = may.later in
        let below = (q.below i near).0 in
        let reach = q.published in (
          p,
          turning v u,
          chain gives (takes old_slot (Some z)),
          sees_none p log v.places (a.published id v at) (λ h. (a.holder id v at h).1),
          (tt, slot_behind i old.buffer),
          (tt, set_else s.homes new_slot old_slot (some (Some y)) (buffers_apart i old.buffer new.buffer far) ∙ (ap (λ j. get_elem? s.homes (slot i j)) middle ∙ b.there)),
          boxes_moved seats view board sealed backs shows above returned x p log s r id v (turning v u) at i (2 * new.buffer + 1) near hs cs (λ j ne. put_else r.cells i j cell ne)
              (length-set homes₁ old_slot none ∙ length-set s.homes new_slot (some (Some y))) other
              (subst (λ (e : Cell). BoxOk view (shows x) p log (set s.words (mailbox i) (2 * new.buffer + 1)) hs i e) (sym (put_here r.cells i i cell refl))
              (box_posted view (shows x) p log s.words s.homes i d b new y hs shows_y may.seat buffer (subst (λ (l : List (Placed N)). shows x l new) whole may.shown) may.clean (omega arith) (omega arith) wide here))
              (λ j w ne at' m owned e n. note m n)
              (λ t else n. absurd (alone p log s a id v at held else))
              (record {
                numbers = k.numbers;
                notes = all_map note v.beside.notes k.notes;
                turning = λ _. record {
                  turn = u;
                  is = refl;
                  ok = turn_posted (seats x) returned p r.cells log s.homes hs (given_by s.views) (given_by (set s.views id (turning v u))) t i new near (λ j lt. (r.each_box j lt).apart) q out middle buffer may.clean top others total;
                };
              }),
          (
            z,
            old,
            d.fresh,
            b.is_view,
            b.word ∙ (omega arith),
            record {
              places = refl;
              beside = refl;
              place = (b.middle_at.seat, old_in);
              on_board = ap (λ j. slice_get t.board (3 * i + j)) middle ∙ (q.names i d.middle near b.apart.middle_in ∙ ap Some (named_middle d d.middle (λ e. b.apart.front_middle (sym e)) refl));
              apart = far;
            },
            refl,
          ),
        )

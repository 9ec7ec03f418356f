-- A seat exchanges its front and its middle.
use Rattle.std.proofs.Common.{slice_get, ◌≡◌, ◌≢◌, ℕ, suc, ◌+◌, ◌*◌, ◌<◌, ◌≤◌, List, [], map, length, set, Bool, true, false, Option, Some, sum_by, sym, refl, ap, ◌∙◌, subst, arith, le_refl, length-set, true≢false, get_or-set_same, append-nil}
use mathlib.Core.Option.{some, none}
use lib.ListN.{get_elem?}
use Rattle.atomic_table.specs.Table.{gives, takes, chain}
use Rattle.atomic_table.proofs.Lists.{set_else, set_here}
use Rattle.fine_model.specs.declared.law.OpenedEye.{OpenedEye}
use Rattle.fine_model.specs.declared.law.ViewState.{ViewState}
use Rattle.fine_model.specs.Views.{counting}
use Rattle.fine_places.specs.declared.model.Placed.{Placed}
use Rattle.fine_places.specs.declared.model.View.{View}
use Rattle.fine_places.specs.Places.{Homes, knowing}
use Rattle.fine_places.specs.Telling.{Sees}
use Rattle.fine_boxes.specs.declared.model.TurnNote.{TurnNote}
use Rattle.fine_boxes.specs.declared.model.Reads.{Reads}
use Rattle.fine_boxes.specs.Boxes.{Cell, Apart, BoxOk, TurnOk, Keeps, ShowsAnyway, bit, mailbox, slot, given_by, given_of}
use Rattle.fine_boxes.specs.Telling.{IsNamed, with_note, refreshing}
use Rattle.fine_boxes.specs.Steps.{SwapsStep}
use Rattle.fine_boxes.specs.Placing.{own_turn}
use Rattle.fine_places.proofs.Lists.{all_map}
use Rattle.fine_boxes.specs.Lists.{sum_set, sum_below_put}
use Rattle.fine_boxes.specs.Cells.{put, put_here, put_else, slot_behind, slot_within, seats_apart, buffers_apart, box_within, named_middle, named_swapped}
use Rattle.fine_boxes.specs.Boxing.{mark_later, turn_put}
use Rattle.fine_boxes.proofs.Keeping.{boxes_moved}
use Rattle.fine_boxes.proofs.Looking.{own_note, no_other, sees_all}

-- the cell of a seat whose front and middle were exchanged: the new middle is the old front, whose count is another
abbrev pub swapped : Cell → ViewState → Cell
swapped d was = record { front = d.ahead.buffer; middle = was.buffer; back = d.back; fresh = false; shown = d.ahead; ahead = was }

-- the mailbox after it
pub box_swapped : {T N : Type 0} (view : T → Option ViewState) (tells : List (Placed N) → ViewState → Type 0) (p : ℕ) (log : List (Placed N)) (words : List ℕ) (homes : Homes T) (i : ℕ) (d : Cell) (b : BoxOk view tells p log words homes i d)
    → (was : ViewState) (y : T) (hs : Homes T) → view y ≡ Some was → was.seat ≡ suc i → was.buffer ≡ d.front → tells log was → d.fresh ≡ true → mailbox i < length words → get_elem? hs (slot i was.buffer) ≡ some (some (Some y))
    → BoxOk view tells p log (set words (mailbox i) (2 * was.buffer)) hs i (swapped d was)
box_swapped view tells p log words homes i d b was y hs is seat buffer told fresh near there = record {
  apart = record {
    front_in = (let e = b.middle_at.buffer in let l = b.apart.middle_in in omega arith);
    middle_in = (let l = b.apart.front_in in omega arith);
    back_in = b.apart.back_in;
    front_middle = λ e. b.apart.front_middle (sym buffer ∙ (sym e ∙ b.middle_at.buffer));
    front_back = λ e. b.apart.middle_back (sym b.middle_at.buffer ∙ e);
    middle_back = λ e. b.apart.front_back (sym buffer ∙ e);
  };
  word = get_or-set_same words (mailbox i) (2 * was.buffer) 0 near ∙ (omega arith);
  thing = y;
  there = there;
  is_view = is;
  front_at = record { seat = b.middle_at.seat; buffer = refl };
  middle_at = record { seat = seat; buffer = refl };
  front_shows = b.middle_shows;
  middle_shows = told;
  later = λ e. absurd (true≢false (sym e));
  clean = λ e. absurd (true≢false (sym e));
  reaches = record { fresh = λ e. absurd (true≢false (sym e)); stale = λ _. b.reaches.fresh fresh };
}

-- a turn of the room after it, whoever has it
pub turn_swapped : {T N : Type 0} (count : ℕ) (returned : N → ℕ) (p : ℕ) (cells : ℕ → Cell) (log : List (Placed N)) (homes hs : Homes T) (a b : ℕ) (t : TurnNote) (i : ℕ) (was : ViewState) → i < count → ((j : ℕ) → j < count → Apart (cells j))
    → TurnOk count returned p cells log homes a t
    → (cells i).fresh ≡ true → (cells i).ahead.faults ≡ 0 → (cells i).ahead.buffer ≡ (cells i).middle → was.buffer ≡ (cells i).front → was.eye ≡ (cells i).shown.eye → was.upto ≡ (cells i).shown.upto
    → ((j e : ℕ) → j ≢ i → e < 3 → get_elem? hs (slot j e) ≡ get_elem? homes (slot j e)) → get_elem? hs (slot i (cells i).back) ≡ get_elem? homes (slot i (cells i).back) → b ≡ a + was.faults
    → TurnOk count returned p (put cells i (swapped (cells i) was)) log hs b t
turn_swapped count returned p cells log homes hs a b t i was near each r fresh clean ahead front eye upto other back more =
    let d : Cell = cells i in
    let c : Cell = swapped d was in
    let sums = sum_below_put count (λ j. (cells j).ahead.faults) (λ j. (put cells i c j).ahead.faults) i near (λ j lt ne. ap (λ (e : Cell). e.ahead.faults) (put_else cells i j c ne)) in
    let now : (put cells i c i).ahead.faults ≡ was.faults = ap (λ (e : Cell). e.ahead.faults) (put_here cells i i c refl) in
    turn_put count returned p cells log homes hs a b t t i c each r (refl, refl, refl) (le_refl t.top) other (λ j _. refl) (λ j _. refl) (λ j e _ _. refl) (λ j _ out. out)
    (r.back i near) (λ out. back ∙ r.emptied i near out)
    (record { fresh = λ e. absurd (true≢false (sym e)); stale = λ _. (r.reaches i near).fresh fresh }) (r.posted_below i near)
    ((r.below i near).1, (let l = (r.below i near).0 in omega arith))
    (λ e lt. r.names i e near lt ∙ ap Some (named_swapped d c (each i near) ahead front refl eye e lt))
    (let q = r.counts in omega arith)

module _ {T X N : Type 0} (seats : X → ℕ) (view : T → Option ViewState) (board : T → List (Option OpenedEye)) (sealed : T → ℕ) (backs : T → List ℕ)
    (shows : X → List (Placed N) → ViewState → Type 0) (above : ℕ → N → Type 0) (returned : N → ℕ) (anyway : ShowsAnyway shows) (x : X) where
  module _ (legal : X → List (Placed N) → Type 0) (touches : ℕ → N → Bool) (slots id : ℕ) where
    pub swaps : SwapsStep (Keeps seats view board sealed backs shows above returned) legal touches seats view shows x slots id
    swaps v y c m i n is number found out shows_y p log s r a deep at small about sees =
        let o = own_note seats view board sealed backs shows above returned x p log s r id v at m i is number in
        let d : Cell = r.cells i in
        let b = r.each_box i o.within in
        let k = r.each_view id v at in
        let was : ViewState = counting m.front n in
        let new : ViewState = d.ahead in
        let fresh : d.fresh ≡ true = o.found found in
        let buffer : was.buffer ≡ d.front = ap (λ (u : ViewState). u.buffer) (sym o.front) ∙ b.front_at.buffer in
        let seat : was.seat ≡ suc i = ap (λ (u : ViewState). u.seat) (sym o.front) ∙ b.front_at.seat in
        let far : was.buffer ≢ new.buffer = λ e. b.apart.front_middle (sym buffer ∙ (e ∙ b.middle_at.buffer)) in
        let was_in : was.buffer < 3 = (let l = b.apart.front_in in omega arith) in
        let new_in : new.buffer < 3 = (let l = b.apart.middle_in in let e = b.middle_at.buffer in omega arith) in
        let old_slot : ℕ = slot i was.buffer in
        let new_slot : ℕ = slot i new.buffer in
        let homes₁ : Homes T = set s.homes old_slot (some (Some y)) in
        let hs : Homes T = set homes₁ new_slot none in
        let z : T = b.thing in
        let known = a.published id v at in
        let w : View X N (Reads N) = record { places = knowing v.places log p; beside = with_note v.beside (refreshing m new n log) } in
        let near : mailbox i < length s.words = (let l = r.wide in let h = box_within i (seats x) o.within in omega arith) in
        let deep_in : old_slot < length s.homes = (let l = r.deep in let h = slot_within i was.buffer (seats x) o.within was_in in omega arith) in
        let here : get_elem? hs old_slot ≡ some (some (Some y)) = set_else homes₁ new_slot old_slot none (buffers_apart i was.buffer new.buffer far) ∙ set_here s.homes old_slot (some (Some y)) deep_in in
        let other : (l : ℕ) → ((e : ℕ) → e < 3 → l ≢ slot i e) → get_elem? hs l ≡ get_elem? s.homes l = λ l ne. set_else homes₁ new_slot l none (ne new.buffer new_in) ∙ set_else s.homes old_slot l (some (Some y)) (ne was.buffer was_in) in
        let others : (j e : ℕ) → j ≢ i → e < 3 → get_elem? hs (slot j e) ≡ get_elem? s.homes (slot j e) = λ j e ne lt. other (slot j e) (λ f lf. seats_apart j i e f ne lt lf) in
        let back_stays : get_elem? hs (slot i d.back) ≡ get_elem? s.homes (slot i d.back) =
        set_else homes₁ new_slot (slot i d.back) none (buffers_apart i d.back new.buffer (λ e. b.apart.middle_back (sym b.middle_at.buffer ∙ sym e)))
        ∙ set_else s.homes old_slot (slot i d.back) (some (Some y)) (buffers_apart i d.back was.buffer (λ e. b.apart.front_back (sym buffer ∙ sym e))) in
        let total : given_by (set s.views id w) ≡ given_by s.views + n = (let q = sum_set (λ u. given_of u.beside) s.views id v w at in let e = ap (sum_by (λ m. m.given_up)) is in omega arith) in
        let told : shows x log was = anyway x log m.front n (subst (shows x log) o.front b.front_shows) in
        let turns : (t : TurnNote) → TurnOk (seats x) returned p r.cells log s.homes (given_by s.views) t → TurnOk (seats x) returned p (put r.cells i (swapped d was)) log hs (given_by (set s.views id w)) t = λ t q.
        turn_swapped (seats x) returned p r.cells log s.homes hs (given_by s.views) (given_by (set s.views id w)) t i was o.within (λ j lt. (r.each_box j lt).apart) q
        fresh (b.clean fresh) b.middle_at.buffer buffer (ap (λ (u : ViewState). u.eye) (sym o.front)) (ap (λ (u : ViewState). u.upto) (sym o.front)) others back_stays total in
        let up : m.front.upto ≤ new.upto = subst (λ (u : ViewState). u.upto ≤ new.upto) o.front (b.later fresh) in (
          p,
          w,
          chain gives (takes new_slot (Some z)),
          sees_all p log v.places known,
          (tt, slot_behind i new.buffer),
          (tt, set_else s.homes old_slot new_slot (some (Some y)) (buffers_apart i new.buffer was.buffer (λ e. far (sym e))) ∙ (ap (λ j. get_elem? s.homes (slot i j)) b.middle_at.buffer ∙ b.there)),
          boxes_moved seats view board sealed backs shows above returned x p log s r id v w at i (2 * was.buffer) o.within hs (put r.cells i (swapped d was)) (λ j ne. put_else r.cells i j (swapped d was) ne)
              (length-set homes₁ new_slot none ∙ length-set s.homes old_slot (some (Some y))) other
              (subst (λ (e : Cell). BoxOk view (shows x) p log (set s.words (mailbox i) (2 * was.buffer)) hs i e) (sym (put_here r.cells i i (swapped d was) refl))
              (box_swapped view (shows x) p log s.words s.homes i d b was y hs shows_y seat buffer told fresh near here))
              (λ j u ne at' q owned e. absurd (no_other seats view board sealed backs shows above returned x p log s r a id v at m i is number j u ne at' q owned e))
              (λ t _ q. turns t q)
              (record {
                numbers = ap (map (λ m. m.seat)) (sym is) ∙ k.numbers;
                notes = (
                  record {
                    i = i;
                    number = number;
                    here = record {
                      within = o.within;
                      front = ap (λ (e : Cell). e.shown) (put_here r.cells i i (swapped d was) refl);
                      found = λ e. absurd (true≢false (sym e));
                      marks = ((record { more = []; is_front = sym (append-nil log); later = tt }, le_refl new.upto), all_map (mark_later above log m.front.upto new.upto up) m.marks o.marks);
                      first = (log, m.marks, refl);
                      emptied = λ e. absurd (true≢false (sym out ∙ e));
                    };
                  },
                  tt,
                );
                turning = λ h. let q = k.turning h in record { turn = q.turn; is = q.is; ok = turns q.turn q.ok };
              }),
          (
            z,
            new,
            b.is_view,
            b.word ∙ (let e = b.middle_at.buffer in let f = ap bit fresh in omega arith),
            record {
              log = log;
              published = p;
              no_earlier = known;
              places = refl;
              beside = refl;
              place = (b.middle_at.seat ∙ sym number, new_in);
              clean = b.clean fresh;
              later = up;
              reaches = b.reaches.fresh fresh;
              sees = λ u e. subst (λ (q : X). Sees legal touches q p v.places log × shows q log new) (sym (about u e)) (sees, b.middle_shows);
              on_board = λ t j held turn own. let q = own_turn seats view board sealed backs shows above returned x p log s r id v at held t turn in
                  let same : j ≡ i = (omega arith) in
                  subst (λ (l : ℕ). IsNamed t l new) (sym same) (
                    ap (λ l. slice_get t.board (3 * i + l)) b.middle_at.buffer
                        ∙ (q.names i d.middle o.within b.apart.middle_in ∙ ap Some (named_middle d d.middle (λ e. b.apart.front_middle (sym e)) refl)),
                    (q.below i o.within).1,
                  );
            },
            refl,
          ),
        )

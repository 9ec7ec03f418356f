-- How the passes of a new hall are handed out.
use Rattle.std.proofs.Common.{◌≡◌, ℕ, suc, ◌+◌, ◌<◌, ◌≤◌, List, [], ◌∷◌, ◌++◌, map, reverse, take, drop, length, replicate, Some, None, false, refl, sym, ap, ◌∙◌, subst, ⊎_elim, arith, length-append, le_refl, zero-le}
use Rattle.std.proofs.lemmas.List.{map-append, reverse-append}
use mathlib.Core.Option.{some}
use lib.ListN.{get_elem?, length-replicate}
use Rattle.atomic_table.specs.Seated.{TableId}
use Rattle.atomic_table.proofs.Lists.{at_last, at_longer}
use Rattle.fine_model.specs.declared.law.ViewState.{ViewState}
use Rattle.fine_places.specs.declared.model.Known.{Known}
use Rattle.fine_places.specs.History as places
use Rattle.fine_places.specs.History.{most_seats, by_seat}
use Rattle.fine_places.specs.Places.{share, shares_of, without_first, only_first, tail_of, head_of}
use Rattle.fine_places.proofs.Lists.{none_held, replicate_at, snoc_at}
use Rattle.fine_boxes.specs.declared.model.BoxNote.{BoxNote}
use Rattle.fine_boxes.specs.declared.model.Reads.{Reads}
use Rattle.fine_boxes.specs.Boxes.{first_notes, note_of, cut_left, cut_right}
use Rattle.fine_hall.specs.declared.turn.Turn.{Turn}
use Rattle.fine_hall.specs.declared.law.Beginning.{Beginning}
use Rattle.fine_hall.specs.declared.pass.Pass.{Pass}
use Rattle.fine_hall.specs.Turns.{commits}
use Rattle.fine_hall.specs.Laws.{AreTurns, IsViewFor}
use Rattle.fine_hall.specs.Passes.{PassView, HasTable, first_mine, first_given, first_marks, first_looks, view_of, known, reads, turns, own_turns, front_of, HasFront, IsPass}
use Rattle.fine_hall.specs.Halls.{IsFreshView, IsFreshPass}
use Rattle.fine_hall.specs.Opening.{HandsOut, HandedOut}
use Rattle.fine_hall.proofs.Laying.{no_slot}
use Rattle.fine_hall.proofs.Passing.{known_is, reads_is, one_view}

abbrev K : Type 0
K = Known Beginning Turn

pub fresh_turns : (x : Beginning) → x.room.places ≡ 0 → AreTurns x []
unfolding commits
fresh_turns x none = record { legal = λ e first began. record { each = λ k c at. absurd (no_slot c at) }; rooms = tt; places = none }

-- a seat with the numbers n to 1, which saw, added and tried nothing
pub record Beginner (x : Beginning) (n : ℕ) (v : K) : Type 0 where
  pub about : v.about ≡ Some x
  pub shares : v.shares ≡ shares_of n
  pub seen : v.seen ≡ []
  pub held : v.held ≡ replicate (suc places.room) false
  pub found : v.found ≡ []
  pub moving : v.moving ≡ None
  pub published : v.published ≡ 0

pub keeps_rest : (x : Beginning) (n : ℕ) (v w : K) → w ≡ without_first v → Beginner x (suc n) v → Beginner x n w
keeps_rest x n v w e b = record {
  about = ap (λ (u : K). u.about) e ∙ b.about;
  shares = ap (λ (u : K). u.shares) e ∙ ap tail_of b.shares;
  seen = ap (λ (u : K). u.seen) e ∙ b.seen;
  held = ap (λ (u : K). u.held) e ∙ b.held;
  found = ap (λ (u : K). u.found) e ∙ b.found;
  moving = ap (λ (u : K). u.moving) e ∙ b.moving;
  published = ap (λ (u : K). u.published) e ∙ b.published;
}

-- what the seat of one number knows
pub record Single (x : Beginning) (n : ℕ) (v : K) : Type 0 where
  pub about : v.about ≡ Some x
  pub shares : v.shares ≡ share n [] ∷ []
  pub seen : v.seen ≡ []
  pub held : v.held ≡ replicate (suc places.room) false
  pub found : v.found ≡ []
  pub moving : v.moving ≡ None
  pub published : v.published ≡ 0

pub takes_first : (x : Beginning) (n : ℕ) (v w : K) → w ≡ only_first v → Beginner x (suc n) v → Single x (suc n) w
takes_first x n v w e b = record {
  about = ap (λ (u : K). u.about) e ∙ b.about;
  shares = ap (λ (u : K). u.shares) e ∙ ap head_of b.shares;
  seen = ap (λ (u : K). u.seen) e ∙ b.seen;
  held = ap (λ (u : K). u.held) e;
  found = ap (λ (u : K). u.found) e;
  moving = ap (λ (u : K). u.moving) e;
  published = ap (λ (u : K). u.published) e ∙ b.published;
}

pub last_one : (x : Beginning) (v : K) → Beginner x 1 v → Single x 1 v
last_one x v b = record { about = b.about; shares = b.shares; seen = b.seen; held = b.held; found = b.found; moving = b.moving; published = b.published }

-- the notes are in the order of the shares: the last front's first
pub notes_last : (fs : List ViewState) (f : ViewState) → reverse (map (note_of {N = Turn}) (fs ++ f ∷ [])) ≡ note_of f ∷ reverse (map note_of fs)
notes_last fs f = ap reverse (map-append note_of fs (f ∷ [])) ∙ reverse-append (map note_of fs) (note_of f ∷ [])

pub right_note : (y z : Reads Turn) (fs : List ViewState) (f : ViewState) → y ≡ first_notes (fs ++ f ∷ []) → z ≡ cut_right y → z.notes ≡ note_of f ∷ []
right_note y z fs f e is = ap (λ (r : Reads Turn). r.notes) is ∙ ap (take 1) (ap (λ (r : Reads Turn). r.notes) e ∙ notes_last fs f)

pub left_notes : (y z : Reads Turn) (fs : List ViewState) (f : ViewState) → y ≡ first_notes (fs ++ f ∷ []) → z ≡ cut_left y → z ≡ first_notes fs
left_notes y z fs f e is = is ∙ (ap cut_left e ∙ ap (λ (l : List (BoxNote Turn)). record { notes = drop 1 l; turn = None }) (notes_last fs f))

pub one_note : (y : Reads Turn) (f : ViewState) → y ≡ first_notes (f ∷ []) → y.notes ≡ note_of f ∷ []
one_note y f e = ap (λ (r : Reads Turn). r.notes) e

vacant : (n k : ℕ) → k < n → get_elem? (replicate n false) k ≡ some false
vacant n k lt = replicate_at n k false lt

module _ {V : Type 0} (view : V → ViewState) (z : TableId) (x : Beginning) (boxes : HasTable x.seats z) (none : x.room.places ≡ 0) (few : x.seats ≤ 18) where
  module _ (n : ℕ) (low : 0 < n) (high : n ≤ x.seats) (p : Pass V) (v : PassView) (front : V) (table : p.badge.table_id ≡ z) (views : p.badge.views ≡ v ∷ []) (number : p.number ≡ n) (is_front : p.front ≡ Some front) (buffer : p.buffer ≡ 0)
      (s : Single x n v.places) (notes : v.beside.notes ≡ note_of (view front) ∷ []) (f : IsFreshView x n 0 (view front)) where
    is : known p ≡ v.places
    is = known_is p v views

    mine_none : own_turns p ≡ []
    mine_none = ap (λ (u : K). first_mine u.shares) is ∙ ap first_mine s.shares

    seen_none : turns p ≡ []
    seen_none = ap (λ (u : K). u.seen) is ∙ s.seen

    notes_is : (reads p).notes ≡ note_of (view front) ∷ []
    notes_is = ap (λ (y : Reads Turn). y.notes) (reads_is p v views) ∙ notes

    first_front : HasFront view p
    first_front = record {
      note = note_of (view front);
      one = notes_is;
      seat = f.place.0 ∙ sym number;
      still = (refl, refl);
      there = front;
      is_there = is_front;
      front = refl;
      no_lower = le_refl (view front).faults;
      place = (f.place.0 ∙ sym number, f.place.1 ∙ sym buffer);
    }

    front_here : front_of view p ≡ view front
    front_here = ap (view_of view) is_front

    holds_none : (k : ℕ) → get_elem? (known p).held k ≡ get_elem? (replicate (suc places.room) false) k
    holds_none k = ap (λ (u : K). get_elem? u.held k) is ∙ ap (λ l. get_elem? l k) s.held

    pub first_pass : IsPass view z x p
    unfolding most_seats
    first_pass = record {
      table = table;
      one = one_view p v views;
      about = ap (λ (u : K). u.about) is ∙ s.about;
      still = ap (λ (u : K). u.moving) is ∙ s.moving;
      alone = ap (λ (u : K). u.shares) is ∙ (s.shares ∙ (λ i. share (sym number i) (sym mine_none i) ∷ []));
      wide = ap (λ (u : K). length u.held) is ∙ (ap length s.held ∙ length-replicate (suc places.room) false);
      few = few;
      boxes = boxes.0;
      words = boxes.1;
      number = subst (λ m. (0 < m) × (m ≤ x.seats)) (sym number) (low, high);
      lawful = subst (AreTurns x) (sym seen_none) (fresh_turns x none);
      own = mine_none ∙ ap (by_seat p.number) (sym seen_none);
      front = first_front;
      holder = λ h. absurd (none_held (suc places.room) places.room (sym (holds_none places.room) ∙ h));
    }

    pub fresh_pass : IsFreshPass view x n front p
    unfolding commits
    fresh_pass = record {
      numbered = number;
      seen_none = seen_none;
      mine_none = mine_none;
      found_none = ap (λ (u : K). u.found) is ∙ s.found;
      holds_none = λ k le. holds_none k ∙ vacant (suc places.room) k (let less : k < suc places.room = omega arith in less);
      none_published = ap (λ (u : K). u.published) is ∙ s.published;
      front_is = is_front;
      front_clean = f.clean;
      none_given = ap first_given notes_is;
      marked = ap first_marks notes_is;
      none_looked = ap first_looks notes_is;
      ahead = record {
        shows = subst (IsViewFor x (commits (turns p))) (sym front_here) (subst (λ ts. IsViewFor x (commits ts) (view front)) (sym seen_none) f.shows);
        reaches = subst (λ k. k ≤ (front_of view p).upto) (sym (ap (λ (u : K). u.published) is ∙ s.published)) zero-le;
      };
    }

  -- one more pass is handed out
  pub hands : (fronts before : List V) (front : V) (more : List V) (l l' : List (Pass V)) (p : Pass V) → l' ≡ l ++ p ∷ [] → fronts ≡ (before ++ front ∷ []) ++ more → suc (length before) + length l ≡ x.seats
      → IsPass view z x p → IsFreshPass view x (suc (length before)) front p → HandedOut view z x fronts l → HandedOut view z x fronts l'
  hands fronts before front more l l' p e f counted ok fresh h i q at = ⊎_elim (λ a. h i q a)
      (λ a. subst (HandsOut view z x fronts i) a.1 (record {
        is_pass = ok;
        n = length before;
        number = ap (λ j. suc (length before) + j) a.0 ∙ counted;
        front = front;
        is_front = ap (λ (m : List V). get_elem? m (length before)) f ∙ at_longer (before ++ front ∷ []) more (length before) front (at_last before front (length before) refl);
        fresh = fresh;
      }))
      (snoc_at l p q i (ap (λ (m : List (Pass V)). get_elem? m i) (sym e) ∙ at))

-- what is known before a pass is handed out, and of the front that it gets
pub front_at : {V : Type 0} (all before : List V) (front : V) (more : List V) → all ≡ (before ++ front ∷ []) ++ more → get_elem? all (length before) ≡ some front
front_at all before front more f = ap (λ (m : List _). get_elem? m (length before)) f ∙ at_longer (before ++ front ∷ []) more (length before) front (at_last before front (length before) refl)

pub longer_by : {V : Type 0} (l before : List V) (front : V) → l ≡ before ++ front ∷ [] → length l ≡ suc (length before)
longer_by l before front e = let n = ap length e ∙ length-append before (front ∷ []) in omega arith

-- a table for so many fronts is one for the seats of the hall
pub sized_for : (n m : ℕ) (z : TableId) → (1 ≤ n) × (n ≤ 18) × (n ≡ m) → HasTable n z → HasTable m z × (m ≤ 18)
sized_for n m z seats sized = (subst (λ k. HasTable k z) seats.2 sized, subst (λ k. k ≤ 18) seats.2 seats.1)

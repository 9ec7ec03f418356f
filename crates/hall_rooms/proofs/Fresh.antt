-- A hall begins: fresh buckets, and views on an empty board.
use Rattle.std.proofs.Common.{◌≡◌, ⊎_elim, ℕ, suc, zero, ◌+◌, ◌-◌, ◌*◌, ◌<◌, ◌≤◌, true, false, List, [], ◌∷◌, ◌++◌, map, take, drop, length, replicate, reverse, sum_by, Some, None, Err, refl, sym, ap, ◌∙◌, subst, arith, append-nil, append_assoc, length-append}
use Rattle.std.specs.Prelude.{IsSome, slice_get, slice_set, slice_range}
use Rattle.std.specs.List.{list_all}
use Rattle.std.proofs.Math.Seq.{drop-length}
use Rattle.std.proofs.lemmas.List.{map-append, reverse-append}
use Rattle.std.proofs.lemmas.List.Sums.{sum_by-append, sum_by-cons, sum_by_push}
use mathlib.Core.Option.{some, some-ne-none}
use lib.ListN.{get_elem?, length-map}
use Rattle.fine_model.specs.declared.law.RoomState.{RoomState}
use Rattle.fine_model.specs.declared.law.ViewState.{ViewState}
use Rattle.fine_model.specs.Boards.{Buffer, buffer_at, empty_of, first_from, is_empty}
use Rattle.fine_model.specs.Buckets.{Began}
use Rattle.fine_model.specs.Faults.{HasRisen}
use Rattle.node_cache.specs.Cache.{Cache, IsResting, kept_at}
use Rattle.partition_hold.specs.Views.{ViewValue, opened, state_of}
use Rattle.epoch_room.specs.Meaning.{Keeps, Stands, origin_of}
use Rattle.epoch_room.specs.Steps.{with_state}
use Rattle.epoch_room.specs.Value.{RoomValue}
use Rattle.epoch_room.specs.Whole.{IsWhole}
use Rattle.epoch_room.specs.declared.answers.RoomFault.{RoomFault}
use Rattle.epoch_room.specs.declared.answers.RoomFault.TheVariants as room_fault
use Rattle.epoch_room.proofs.OpenEpochs.Behind.{keeps_none}
use Rattle.epoch_room.proofs.Joining.{keeps_then}
use Rattle.epoch_room.proofs.Views.Viewing.{empty_is}
use Rattle.fine_places.proofs.Elements.{one_more}
use Rattle.fine_places.proofs.Lists.{some_same}
use Rattle.fine_hall.specs.declared.law.Beginning.{Beginning}
use Rattle.fine_hall.specs.Laws.{beginning}
use Rattle.fine_hall.specs.Halls.{AreFreshBuckets, IsFreshHall, IsFreshView, first_board}
use Rattle.hall_rooms.specs.Rooms.{bucket_number, room_state, room_log}
use Rattle.hall_rooms.specs.Boards.{Names, TakesBackAll, faults_of, with_views}
use Rattle.hall_rooms.specs.Views.{MakesView, MakesViewOr, with_eyes, with_faults}
use Rattle.hall_rooms.specs.Opening.{AreFresh, HandsBack, HasViews, LacksViews, MakesFronts, MakesMiddles, OpensHall, StandsAlone, WhyNoHall, front_board}
use Rattle.hall_rooms.proofs.Ended.{none_open}
use Rattle.hall_rooms.proofs.Naming.{back_then, names_more, snoc_at, snoc_reversed}
use Rattle.hall_rooms.proofs.Posted.{has_empty}

-- ---- lists

get_behind : {A : Type 0} (a b : List A) (n j : ℕ) → n ≡ length a + j → slice_get (a ++ b) n ≡ slice_get b j
get_behind [] b n j e = ap (slice_get b) (let z : n ≡ j = omega (arith, e) in z)
get_behind (x ∷ a) b zero j e = absurd (omega (arith, e))
get_behind (x ∷ a) b (suc n) j e = get_behind a b n j (omega (arith, e))

set_behind : {A : Type 0} (a b : List A) (n j : ℕ) (y : A) → n ≡ length a + j → slice_set (a ++ b) n y ≡ a ++ slice_set b j y
set_behind [] b n j y e = ap (λ k. slice_set b k y) (let z : n ≡ j = omega (arith, e) in z)
set_behind (x ∷ a) b zero j y e = absurd (omega (arith, e))
set_behind (x ∷ a) b (suc n) j y e = ap (λ l. x ∷ l) (set_behind a b n j y (omega (arith, e)))

drop_behind : {A : Type 0} (a b : List A) (n : ℕ) → n ≡ length a → drop n (a ++ b) ≡ b
drop_behind [] b n e = ap (λ k. drop k b) e
drop_behind (x ∷ a) b zero e = absurd (omega (arith, e))
drop_behind (x ∷ a) b (suc n) e = drop_behind a b n (omega (arith, e))

sum_reversed : {A : Type 0} (f : A → ℕ) (l : List A) → sum_by f (reverse l) ≡ sum_by f l
sum_reversed f [] = refl
sum_reversed f (a ∷ l) =
    let e = ap (sum_by f) (reverse-append (a ∷ []) l) ∙ sum_by_push f (reverse l) a in
    let h = sum_reversed f l in
    let c = sum_by-cons f a l in
    omega (arith, e, h, c)

-- ---- the buffers of a seat behind those of others

-- the board has the buffers of so many seats, and then these three
module _ (board before rest : List Buffer) (a b c : Buffer) (k : ℕ) (is : board ≡ before ++ (a ∷ b ∷ c ∷ rest)) (many : length before ≡ 3 * k) where
  range_is : slice_range board (3 * (k + 1 - 1)) (3 * (k + 1)) ≡ a ∷ b ∷ c ∷ []
  range_is =
      let from : 3 * (k + 1 - 1) ≡ length before = omega (arith, many) in
      let three : 3 * (k + 1) - 3 * (k + 1 - 1) ≡ 3 = omega arith in
      ap (λ l. slice_range l (3 * (k + 1 - 1)) (3 * (k + 1))) is ∙ ((λ i. take (three i) (drop_behind before (a ∷ b ∷ c ∷ rest) (3 * (k + 1 - 1)) from i)))

  pub at_seat : (j : ℕ) → slice_get board (buffer_at (k + 1) j) ≡ slice_get (a ∷ b ∷ c ∷ rest) j
  at_seat j = ap (λ l. slice_get l (buffer_at (k + 1) j)) is ∙ get_behind before (a ∷ b ∷ c ∷ rest) (buffer_at (k + 1) j) j (omega (arith, many))

  pub set_at_seat : (j : ℕ) (x : Buffer) → slice_set board (buffer_at (k + 1) j) x ≡ before ++ slice_set (a ∷ b ∷ c ∷ rest) j x
  set_at_seat j x = ap (λ l. slice_set l (buffer_at (k + 1) j) x) is ∙ set_behind before (a ∷ b ∷ c ∷ rest) (buffer_at (k + 1) j) j x (omega (arith, many))

  pub empty_at : empty_of board (k + 1) ≡ first_from is_empty 0 (a ∷ b ∷ c ∷ [])
  empty_at = ap (first_from is_empty 0) range_is

  pub long_at : 3 * (k + 1) ≤ length board
  long_at = let l = ap length is ∙ length-append before (a ∷ b ∷ c ∷ rest) in omega (arith, l, many)

-- ---- the boards

pub front_length : (fs : List ViewState) → length (front_board fs) ≡ 3 * length fs
front_length [] = refl
front_length (f ∷ fs) = let h = front_length fs in omega (arith, h)

front_more : (fs : List ViewState) (f : ViewState) → front_board (fs ++ f ∷ []) ≡ front_board fs ++ (Some f.eye ∷ None ∷ None ∷ [])
front_more [] f = refl
front_more (g ∷ fs) f = ap (λ l. Some g.eye ∷ None ∷ None ∷ l) (front_more fs f)

pub first_none : (fs : List ViewState) → first_board fs [] ≡ []
first_none [] = refl
first_none (f ∷ fs) = refl

first_length : (fs ms : List ViewState) → length ms ≤ length fs → length (first_board fs ms) ≡ 3 * length ms
first_length [] [] le = refl
first_length [] (m ∷ ms) le = absurd (omega (arith, le))
first_length (f ∷ fs) [] le = refl
first_length (f ∷ fs) (m ∷ ms) le = let h = first_length fs ms (omega (arith, le)) in omega (arith, h)

-- the next seat has a front and no middle
record NextMiddle (fs ms : List ViewState) : Type 0 where
  pub front : ViewState
  pub left : drop (length ms) fs ≡ front ∷ drop (suc (length ms)) fs
  pub more : (m : ViewState) → first_board fs (ms ++ m ∷ []) ≡ first_board fs ms ++ (Some front.eye ∷ Some m.eye ∷ None ∷ [])

next_middle : (fs ms : List ViewState) → length ms < length fs → NextMiddle fs ms
next_middle [] ms lt = absurd (omega (arith, lt))
next_middle (f ∷ fs) [] lt = record { front = f; left = refl; more = λ m. ap (λ l. Some f.eye ∷ Some m.eye ∷ None ∷ l) (first_none fs) }
next_middle (f ∷ fs) (m ∷ ms) lt = let n = next_middle fs ms (omega (arith, lt)) in record { front = n.front; left = n.left; more = λ k. ap (λ l. Some f.eye ∷ Some m.eye ∷ None ∷ l) (n.more k) }

pub all_none : (n : ℕ) → list_all is_empty (replicate n None) ≡ true
all_none zero = refl
all_none (suc n) = all_none n

-- ---- states

eyes_faults : (o n : RoomState) → n ≡ with_eyes o n → n ≡ with_faults o n
eyes_faults o n e = e ∙ (λ i. record (with_eyes o n) { is_shut = ap (λ (r : RoomState). r.is_shut) (sym e) i; faults = ap (λ (r : RoomState). r.faults) (sym e) i; own_faults = ap (λ (r : RoomState). r.own_faults) (sym e) i })

eyes_on : (o m n : RoomState) → m ≡ with_eyes o m → n ≡ with_eyes m n → n ≡ with_eyes o n
eyes_on o m n e f = f ∙ ap (λ r. with_eyes r n) e

-- ---- one view more

module _ (old mid new : RoomValue) (views : List ViewValue) (alone : StandsAlone old) (out : HasViews old mid views) (same : mid.room ≡ with_eyes old.room mid.room) (seat : ℕ) (v : ViewValue) (m : MakesView mid new seat v) where
  pub out_more : HasViews old new (v ∷ views)
  out_more = record {
    names = subst (λ b. Names b (v ∷ views)) board_is (names_more mid.room.board v views (subst (λ s. slice_get mid.room.board (buffer_at s v.buffer) ≡ Some None) (sym m.of_seat) (empty_is mid.room.board seat v.buffer m.buffer)) out.names);
    clean = let c = sum_by-cons (λ (w : ViewValue). w.eye.faults) v views in let a = m.clean in let b = out.clean in omega (arith, c, a, b);
    room = eyes_faults old.room new.room (eyes_on old.room mid.room new.room same m.room);
    target = m.leaves.target ∙ out.target;
    entry = m.leaves.entry ∙ out.entry;
    keeps = keeps_then old mid new out.keeps m.leaves.keeps;
  }
    where
      board_is : slice_set mid.room.board (buffer_at v.seat v.buffer) (Some (opened v.eye)) ≡ new.room.board
      board_is = ap (λ s. slice_set mid.room.board (buffer_at s v.buffer) (Some (opened v.eye))) m.of_seat ∙ sym m.board

  pub same_more : new.room ≡ with_eyes old.room new.room
  same_more = eyes_on old.room mid.room new.room same m.room

  pub fresh_one : (i buffer : ℕ) → seat ≡ i + 1 → v.buffer ≡ buffer → IsFreshView (beginning 0 (room_log old) old.room state_of []) (suc i) buffer (state_of v)
  fresh_one i buffer is at = record {
    place = (m.of_seat ∙ (let e : seat ≡ suc i = omega (arith, is) in e), at);
    upto = upto_is;
    clean = m.clean;
    shows = record {
      region_len = m.region_len ∙ ap (λ (r : RoomState). r.region_len) same;
      since = let e = upto_is in omega (arith, e);
      tells = λ e first b. m.tells e first [] (subst (λ l. Began l e first) (ap origin_of (sym out.entry)) b) (out.keeps.stands first e [] (alone e first b));
    };
  }
    where
      upto_is : v.upto ≡ old.room.sealed
      upto_is = m.upto ∙ ap (λ (r : RoomState). r.sealed) same

  pub fresh_more : (buffer : ℕ) (vs : List ViewValue) → seat ≡ length vs + 1 → v.buffer ≡ buffer → AreFresh old buffer vs → AreFresh old buffer (vs ++ v ∷ [])
  fresh_more buffer vs is at each i w e = ⊎_elim
      (λ was. each i w was)
      (λ last. subst (λ u. IsFreshView (beginning 0 (room_log old) old.room state_of []) (suc i) buffer (state_of u)) last.1 (fresh_one i buffer (let l = last.0 in omega (arith, is, l)) at))
      (snoc_at vs v w i e)

-- no view could be made
pub lacks_view : (old mid new : RoomValue) (views : List ViewValue) (seat : ℕ) (fault : RoomFault) → HasViews old mid views → mid.room ≡ with_eyes old.room mid.room → MakesViewOr mid new seat (Err fault) → LacksViews old new views fault
lacks_view old mid new views seat room_fault.Disk out same m = record {
  out = record {
    names = subst (λ b. Names b views) (sym m.board) out.names;
    clean = out.clean;
    room = m.room ∙ ap (λ r. with_faults r new.room) same;
    target = m.leaves.target ∙ out.target;
    entry = m.leaves.entry ∙ out.entry;
    keeps = keeps_then old mid new out.keeps m.leaves.keeps;
  };
  cause = (
    sym (ap (λ (r : RoomState). r.is_shut) same) ∙ m.was_open,
    m.is_shut,
    subst (λ n. HasRisen n new.room.faults) (ap (λ (r : RoomState). r.faults) same) m.faults,
    subst (λ n. HasRisen n new.room.own_faults) (ap (λ (r : RoomState). r.own_faults) same) m.own_faults,
  );
}
lacks_view old mid new views seat (room_fault.Shut epoch) out same m = subst (λ r. LacksViews old r views (room_fault.Shut epoch)) (sym m.2) (record {
  out = out;
  cause = (sym (ap (λ (r : RoomState). r.is_shut) same) ∙ m.0, m.1 ∙ ap (λ (r : RoomState). r.sealed) same, same);
})
lacks_view old mid new views seat room_fault.NoMemory out same m = subst (λ r. LacksViews old r views room_fault.NoMemory) (sym m.1) (record { out = out; cause = same })

-- ---- lists that a loop over the seats fills

-- The loop has come to a seat: there is a view for each one before it, of which this holds, and memory for all.
pub record Filling (so : List ViewValue → Type 0) (seats i : ℕ) (views : List ViewValue) (len capacity : ℕ) : Type 0 where
  pub made : so views
  pub long : length views ≡ i
  pub count : len ≡ i
  pub spare : seats ≤ capacity

pub filling_none : (so : List ViewValue → Type 0) (seats : ℕ) (views : List ViewValue) (len capacity : ℕ) → views ≡ [] → len ≡ length views → seats ≤ capacity → so [] → Filling so seats 0 views len capacity
filling_none so seats views len capacity none ok spare made = record { made = subst so (sym none) made; long = ap length none; count = ok ∙ ap length none; spare = spare }

pub filling_next : (so so' : List ViewValue → Type 0) (seats i : ℕ) (views views' : List ViewValue) (v : ViewValue) (len len' capacity capacity' : ℕ) → Filling so seats i views len capacity
    → views' ≡ views ++ v ∷ [] → len' ≡ len + 1 → capacity' ≡ capacity → so' (views ++ v ∷ []) → Filling so' seats (i + 1) views' len' capacity'
filling_next so so' seats i views views' v len len' capacity capacity' f is more same made =
    let n = one_more views views' v i len len' is f.long f.count more in
    record { made = subst so' (sym is) made; long = n.0; count = n.1; spare = let s = f.spare in omega (arith, s, same) }

-- ---- fronts

pub fronts_none : (room : RoomValue) (seats : ℕ) → IsWhole room → room.room.board ≡ replicate (3 * seats) None → MakesFronts room room seats []
fronts_none room seats whole board = record {
  out = record {
    names = ap (list_all is_empty) board ∙ all_none (3 * seats);
    clean = refl;
    room = refl;
    target = refl;
    entry = refl;
    keeps = keeps_none room whole;
  };
  same = refl;
  board = board ∙ (let e : 3 * seats ≡ 3 * (seats - 0) = omega arith in ap (λ n. replicate n None) e);
  fresh = λ i v e. absurd (some-ne-none v (sym e));
  is_open = λ some. absurd (omega (arith, some));
}

module _ (old mid : RoomValue) (seats : ℕ) (fronts : List ViewValue) (f : MakesFronts old mid seats fronts) (lt : length fronts < seats) where
  abbrev left : ℕ
  left = 3 * (seats - (length fronts + 1))

  three_left : mid.room.board ≡ front_board (map state_of fronts) ++ (None ∷ None ∷ None ∷ replicate left None)
  three_left =
      let e : 3 * (seats - length fronts) ≡ suc (suc (suc left)) = omega (arith, lt) in
      f.board ∙ ap (λ n. front_board (map state_of fronts) ++ replicate n None) e

  many : length (front_board (map state_of fronts)) ≡ 3 * length fronts
  many = front_length (map state_of fronts) ∙ ap (λ n. 3 * n) (length-map fronts state_of)

  front_long : 3 * (length fronts + 1) ≤ length mid.room.board
  front_long = long_at mid.room.board (front_board (map state_of fronts)) (replicate left None) None None None (length fronts) three_left many

  front_empty : IsSome (empty_of mid.room.board (length fronts + 1))
  front_empty = has_empty mid.room.board (length fronts + 1) 0 (omega arith) (omega arith) (at_seat mid.room.board (front_board (map state_of fronts)) (replicate left None) None None None (length fronts) three_left many 0)

  module _ (new : RoomValue) (alone : StandsAlone old) (v : ViewValue) (m : MakesView mid new (length fronts + 1) v) where
    buffer_is : v.buffer ≡ 0
    buffer_is = sym (some_same 0 v.buffer (sym (empty_at mid.room.board (front_board (map state_of fronts)) (replicate left None) None None None (length fronts) three_left many) ∙ m.buffer))

    board_is : new.room.board ≡ front_board (map state_of (fronts ++ v ∷ [])) ++ replicate (3 * (seats - length (fronts ++ v ∷ []))) None
    board_is =
        m.board
        ∙ (ap (λ b. slice_set mid.room.board (buffer_at (length fronts + 1) b) (Some (opened v.eye))) buffer_is
        ∙ (set_at_seat mid.room.board (front_board (map state_of fronts)) (replicate left None) None None None (length fronts) three_left many 0 (Some (opened v.eye))
        ∙ (sym (append_assoc (front_board (map state_of fronts)) (Some (opened v.eye) ∷ None ∷ None ∷ []) (replicate left None))
        ∙ (λ i. (sym (ap front_board (map-append state_of fronts (v ∷ [])) ∙ front_more (map state_of fronts) (state_of v))) i ++ replicate (3 * (seats - sym (length-append fronts (v ∷ [])) i)) None))))

    fronts_next : MakesFronts old new seats (fronts ++ v ∷ [])
    fronts_next = record {
      out = subst (HasViews old new) (sym (snoc_reversed fronts v)) (out_more old mid new (reverse fronts) alone f.out f.same (length fronts + 1) v m);
      same = same_more old mid new (reverse fronts) alone f.out f.same (length fronts + 1) v m;
      board = board_is;
      fresh = fresh_more old mid new (reverse fronts) alone f.out f.same (length fronts + 1) v m 0 fronts refl buffer_is f.fresh;
      is_open = λ _. sym (ap (λ (r : RoomState). r.is_shut) f.same) ∙ m.not_shut;
    }

-- the board has an empty buffer for the seat that comes next
pub front_room : (old mid : RoomValue) (seats i : ℕ) (fronts : List ViewValue) → MakesFronts old mid seats fronts → length fronts ≡ i → i < seats → (3 * (i + 1) ≤ length mid.room.board) × IsSome (empty_of mid.room.board (i + 1))
front_room old mid seats i fronts f long lt =
    let less : length fronts < seats = omega (arith, long, lt) in
    subst (λ n. (3 * (n + 1) ≤ length mid.room.board) × IsSome (empty_of mid.room.board (n + 1))) long (front_long old mid seats fronts f less, front_empty old mid seats fronts f less)

pub front_made : (old mid new : RoomValue) (seats i : ℕ) (fronts : List ViewValue) (v : ViewValue) → MakesFronts old mid seats fronts → length fronts ≡ i → i < seats → StandsAlone old → MakesView mid new (i + 1) v → MakesFronts old new seats (fronts ++ v ∷ [])
front_made old mid new seats i fronts v f long lt alone m = fronts_next old mid seats fronts f (omega (arith, long, lt)) new alone v (subst (λ n. MakesView mid new (n + 1) v) (sym long) m)

-- ---- middles

pub middles_none : (old mid : RoomValue) (seats : ℕ) (fronts : List ViewValue) → length fronts ≡ seats → MakesFronts old mid seats fronts → MakesMiddles old mid fronts []
middles_none old mid seats fronts long f = record {
  out = f.out;
  same = f.same;
  board =
      let e : 3 * (seats - length fronts) ≡ 0 = omega (arith, long) in
      f.board ∙ (ap (λ n. front_board (map state_of fronts) ++ replicate n None) e ∙ (append-nil (front_board (map state_of fronts)) ∙ ap (λ l. l ++ front_board (map state_of fronts)) (sym (first_none (map state_of fronts)))));
  fresh_fronts = f.fresh;
  fresh_middles = λ i v e. absurd (some-ne-none v (sym e));
}

module _ (old mid : RoomValue) (fronts middles : List ViewValue) (f : MakesMiddles old mid fronts middles) (lt : length middles < length fronts) where
  abbrev fs : List ViewState
  fs = map state_of fronts

  abbrev ms : List ViewState
  ms = map state_of middles

  ms_long : length ms ≡ length middles
  ms_long = length-map middles state_of

  next : NextMiddle fs ms
  next = next_middle fs ms (let a = ms_long in let b = length-map fronts state_of in omega (arith, lt, a, b))

  abbrev rest : List Buffer
  rest = front_board (drop (suc (length ms)) fs)

  three_next : mid.room.board ≡ first_board fs ms ++ (Some next.front.eye ∷ None ∷ None ∷ rest)
  three_next = f.board ∙ ap (λ l. first_board fs ms ++ front_board l) (ap (λ n. drop n fs) (sym ms_long) ∙ next.left)

  before_long : length (first_board fs ms) ≡ 3 * length middles
  before_long = first_length fs ms (let a = ms_long in let b = length-map fronts state_of in omega (arith, lt, a, b)) ∙ ap (λ n. 3 * n) ms_long

  middle_long : 3 * (length middles + 1) ≤ length mid.room.board
  middle_long = long_at mid.room.board (first_board fs ms) rest (Some next.front.eye) None None (length middles) three_next before_long

  middle_empty : IsSome (empty_of mid.room.board (length middles + 1))
  middle_empty = has_empty mid.room.board (length middles + 1) 1 (omega arith) (omega arith) (at_seat mid.room.board (first_board fs ms) rest (Some next.front.eye) None None (length middles) three_next before_long 1)

  module _ (new : RoomValue) (alone : StandsAlone old) (v : ViewValue) (m : MakesView mid new (length middles + 1) v) where
    buffer_one : v.buffer ≡ 1
    buffer_one = sym (some_same 1 v.buffer (sym (empty_at mid.room.board (first_board fs ms) rest (Some next.front.eye) None None (length middles) three_next before_long) ∙ m.buffer))

    board_next : new.room.board ≡ first_board fs (map state_of (middles ++ v ∷ [])) ++ front_board (drop (length (middles ++ v ∷ [])) fs)
    board_next =
        let more : suc (length ms) ≡ length (middles ++ v ∷ []) = (let a = ms_long in let b = length-append middles (v ∷ []) in omega (arith, a, b)) in
        m.board
        ∙ (ap (λ b. slice_set mid.room.board (buffer_at (length middles + 1) b) (Some (opened v.eye))) buffer_one
        ∙ (set_at_seat mid.room.board (first_board fs ms) rest (Some next.front.eye) None None (length middles) three_next before_long 1 (Some (opened v.eye))
        ∙ (sym (append_assoc (first_board fs ms) (Some next.front.eye ∷ Some (opened v.eye) ∷ None ∷ []) rest)
        ∙ (λ i. (sym (ap (first_board fs) (map-append state_of middles (v ∷ [])) ∙ next.more (state_of v))) i ++ front_board (drop (more i) fs)))))

    middles_next : MakesMiddles old new fronts (middles ++ v ∷ [])
    middles_next = record {
      out = subst (λ l. HasViews old new (l ++ reverse fronts)) (sym (snoc_reversed middles v)) (out_more old mid new (reverse middles ++ reverse fronts) alone f.out f.same (length middles + 1) v m);
      same = same_more old mid new (reverse middles ++ reverse fronts) alone f.out f.same (length middles + 1) v m;
      board = board_next;
      fresh_fronts = f.fresh_fronts;
      fresh_middles = fresh_more old mid new (reverse middles ++ reverse fronts) alone f.out f.same (length middles + 1) v m 1 middles refl buffer_one f.fresh_middles;
    }

-- and so it is once each seat has its front
pub middle_room : (old mid : RoomValue) (seats i : ℕ) (fronts middles : List ViewValue) → length fronts ≡ seats → MakesMiddles old mid fronts middles → length middles ≡ i → i < seats → (3 * (i + 1) ≤ length mid.room.board) × IsSome (empty_of mid.room.board (i + 1))
middle_room old mid seats i fronts middles many f long lt =
    let less : length middles < length fronts = omega (arith, many, long, lt) in
    subst (λ n. (3 * (n + 1) ≤ length mid.room.board) × IsSome (empty_of mid.room.board (n + 1))) long (middle_long old mid fronts middles f less, middle_empty old mid fronts middles f less)

pub middle_made : (old mid new : RoomValue) (seats i : ℕ) (fronts middles : List ViewValue) (v : ViewValue) → length fronts ≡ seats → MakesMiddles old mid fronts middles → length middles ≡ i → i < seats → StandsAlone old → MakesView mid new (i + 1) v
    → MakesMiddles old new fronts (middles ++ v ∷ [])
middle_made old mid new seats i fronts middles v many f long lt alone m = middles_next old mid fronts middles f (omega (arith, many, long, lt)) new alone v (subst (λ n. MakesView mid new (n + 1) v) (sym long) m)

-- ---- no hall

pub handed_back : (old room mid new : RoomValue) (fronts middles : List ViewValue) (fault : RoomFault) → LacksViews old room (reverse middles ++ reverse fronts) fault → TakesBackAll (faults_of middles) room mid → TakesBackAll (faults_of fronts) mid new → Names new.room.board [] → IsWhole new → HandsBack old new fault
handed_back old room mid new fronts middles fault l first second names whole = record {
  board = names;
  no_eyes = none_open new whole names;
  room = all.room ∙ (ap (λ r. with_views r new.room) l.out.room ∙ (λ i. record (with_faults old.room new.room) { given = given i; is_shut = shut i; own_faults = own i }));
  target = all.target ∙ l.out.target;
  entry = all.entry ∙ l.out.entry;
  keeps = keeps_then old room new l.out.keeps all.keeps;
  cause = caused fault l.cause;
}
  where
    all : TakesBackAll (faults_of middles + faults_of fronts) room new
    all = back_then (faults_of middles) (faults_of fronts) room mid new first second

    given : room.room.given ≡ new.room.given
    given = sym (ap (λ (r : RoomState). r.given) all.room)

    shut : room.room.is_shut ≡ new.room.is_shut
    shut = sym (ap (λ (r : RoomState). r.is_shut) all.room)

    own : room.room.own_faults ≡ new.room.own_faults
    own = sym (ap (λ (r : RoomState). r.own_faults) all.room)

    faults : new.room.faults ≡ room.room.faults
    faults =
        let s = sum_by-append (λ (w : ViewValue). w.eye.faults) (reverse middles) (reverse fronts) in
        let a = sum_reversed (λ (w : ViewValue). w.eye.faults) middles in
        let b = sum_reversed (λ (w : ViewValue). w.eye.faults) fronts in
        let c = l.out.clean in
        let h = all.high in
        let up = all.keeps.becomes.faults in
        omega (arith, s, a, b, c, h, up)

    eyes_still : room.room ≡ with_eyes old.room room.room → new.room ≡ with_eyes old.room new.room
    eyes_still e = all.room ∙ (ap (λ r. with_views r new.room) e ∙ (λ i. record (with_eyes old.room new.room) { given = given i; faults = (faults ∙ ap (λ (r : RoomState). r.faults) e) i }))

    caused : (fault : RoomFault) → WhyNoHall old.room room.room fault → WhyNoHall old.room new.room fault
    caused room_fault.Disk w = (w.0, sym shut ∙ w.1, subst (HasRisen old.room.faults) (sym faults) w.2, subst (HasRisen old.room.own_faults) own w.3)
    caused (room_fault.Shut epoch) w = (w.0, w.1, eyes_still w.2)
    caused room_fault.NoMemory w = eyes_still w

-- for want of memory, before any view was made
pub refused : (room : RoomValue) → IsWhole room → list_all is_empty room.room.board ≡ true → HandsBack room room room_fault.NoMemory
refused room whole empty = record {
  board = empty;
  no_eyes = none_open room whole empty;
  room = refl;
  target = refl;
  entry = refl;
  keeps = keeps_none room whole;
  cause = refl;
}

-- ---- the buckets

abbrev pub empty_bucket : ℕ → Cache
empty_bucket k = record { bucket = k; nodes = []; saved = [] }

pub next_bucket : (l l' : List Cache) (n : ℕ) → length l ≡ n → l' ≡ l ++ empty_bucket n ∷ [] → ((k : ℕ) (b : Cache) → get_elem? l k ≡ some b → b ≡ empty_bucket k) → (k : ℕ) (b : Cache) → get_elem? l' k ≡ some b → b ≡ empty_bucket k
next_bucket l l' n long is each k b at = ⊎_elim
    (λ old. each k b old)
    (λ new. sym new.1 ∙ ap empty_bucket (sym long ∙ sym new.0))
    (snoc_at l (empty_bucket n) b k (ap (λ (m : List Cache). get_elem? m k) (sym is) ∙ at))

pub fresh_buckets : (l : List Cache) → length l ≡ 256 → ((k : ℕ) (b : Cache) → get_elem? l k ≡ some b → b ≡ empty_bucket k) → AreFreshBuckets bucket_number kept_at IsResting l
fresh_buckets l long each = record {
  all = long;
  empty = λ k b at. let e = each k b at in (ap (λ (c : Cache). c.bucket) e, ap (λ (c : Cache). c.saved) e, λ n. ap (λ (c : Cache). kept_at c n) e);
}

-- ---- the hall

-- the room with an empty board for the seats
module _ (old mid : RoomValue) (board : List Buffer) (is : mid ≡ with_state old (record old.room { board = board })) (keeps : Keeps old mid) where
  pub alone_seated : StandsAlone old → StandsAlone mid
  alone_seated alone e first b = keeps.stands first e [] (alone e first (subst (λ d. Began (origin_of d) e first) (ap (λ (v : RoomValue). v.entry) is) b))

  caused_seated : (new : RoomState) (fault : RoomFault) → WhyNoHall (record old.room { board = board }) new fault → WhyNoHall old.room new fault
  caused_seated new room_fault.Disk w = w
  caused_seated new (room_fault.Shut epoch) w = w
  caused_seated new room_fault.NoMemory w = w

  pub lacks_seated : (new : RoomValue) (views : List ViewValue) (fault : RoomFault) → LacksViews mid new views fault → LacksViews old new views fault
  lacks_seated new views fault l = record {
    out = record {
      names = l.out.names;
      clean = l.out.clean;
      room = l.out.room ∙ ap (λ (v : RoomValue). with_faults v.room new.room) is;
      target = l.out.target ∙ ap (λ (v : RoomValue). v.target) is;
      entry = l.out.entry ∙ ap (λ (v : RoomValue). v.entry) is;
      keeps = keeps_then old mid new keeps l.out.keeps;
    };
    cause = caused_seated new.room fault (subst (λ (v : RoomValue). WhyNoHall v.room new.room fault) is l.cause);
  }

-- a front and a middle were made for each seat, in a room that was open and has an empty board for them
pub record MadeViews (old new : RoomValue) (seats : ℕ) (fronts middles : List ViewValue) : Type 0 where
  pub mid : RoomValue
  pub board : List Buffer
  pub is : mid ≡ with_state old (record old.room { board = board })
  pub keeps : Keeps old mid
  pub alone : StandsAlone old
  pub many : length fronts ≡ seats
  pub all : length middles ≡ seats
  pub opened : old.room.is_shut ≡ false
  pub made : MakesMiddles mid new fronts middles

pub made_views : (old mid room new : RoomValue) (board : List Buffer) (seats : ℕ) (fronts middles : List ViewValue) → mid ≡ with_state old (record old.room { board = board }) → Keeps old mid → 1 ≤ seats → StandsAlone old → (length fronts ≡ seats) × MakesFronts mid room seats fronts
    → ((old : RoomValue) (fronts : List ViewValue) → StandsAlone old → length fronts ≡ seats → MakesFronts old room seats fronts → (length middles ≡ seats) × MakesMiddles old new fronts middles) → MadeViews old new seats fronts middles
made_views old mid room new board seats fronts middles is keeps least alone f made =
    let many = f.0 in
    let m = made mid fronts (alone_seated old mid board is keeps alone) many f.1 in
    record { mid = mid; board = board; is = is; keeps = keeps; alone = alone; many = many; all = m.0; opened = sym (ap (λ (v : RoomValue). v.room.is_shut) is) ∙ f.1.is_open (omega (arith, many, least)); made = m.1 }

module _ (old new : RoomValue) (seats : ℕ) (fronts middles : List ViewValue) (v : MadeViews old new seats fronts middles) where
  abbrev x : Beginning
  x = beginning (length fronts) (room_log new) new.room state_of fronts

  room_is : new.room ≡ with_eyes old.room new.room
  room_is = v.made.same ∙ ap (λ (r : RoomValue). with_eyes r.room new.room) v.is

  entry_is : new.entry ≡ old.entry
  entry_is = v.made.out.entry ∙ ap (λ (r : RoomValue). r.entry) v.is

  fresh_for : (seat buffer : ℕ) (w : ViewValue) → IsFreshView (beginning 0 (room_log v.mid) v.mid.room state_of []) seat buffer (state_of w) → IsFreshView x seat buffer (state_of w)
  fresh_for seat buffer w f = record {
    place = f.place;
    upto = f.upto ∙ sym (ap (λ (r : RoomState). r.sealed) v.made.same);
    clean = f.clean;
    shows = record {
      region_len = f.shows.region_len ∙ sym (ap (λ (r : RoomState). r.region_len) v.made.same);
      since = let s = f.shows.since in let e = ap (λ (r : RoomState). r.sealed) v.made.same in omega (arith, s, e);
      tells = λ e first b. f.shows.tells e first (subst (λ d. Began (origin_of d) e first) v.made.out.entry b);
    };
  }

  pub fresh_hall : old.room.job ≡ None → old.room.places ≡ 0 → old.room.waiting ≡ 0 → IsFreshHall room_state state_of Stands x new fronts middles
  fresh_hall no_job no_place none_waits = record {
    stands = λ e first b. v.made.out.keeps.stands first e [] (alone_seated old v.mid v.board v.is v.keeps v.alone e first (subst (λ d. Began (origin_of d) e first) v.made.out.entry b));
    places = ap (λ (r : RoomState). r.places) room_is ∙ no_place;
    none_waits = ap (λ (r : RoomState). r.waiting) room_is ∙ none_waits;
    not_shut = ap (λ (r : RoomState). r.is_shut) room_is ∙ v.opened;
    no_job = ap (λ (r : RoomState). r.job) room_is ∙ no_job;
    board =
        let gone : drop (length middles) (map state_of fronts) ≡ [] = ap (λ n. drop n (map state_of fronts)) (v.all ∙ (sym v.many ∙ sym (length-map fronts state_of))) ∙ drop-length (map state_of fronts) in
        v.made.board ∙ (ap (λ l. first_board (map state_of fronts) (map state_of middles) ++ front_board l) gone ∙ append-nil (first_board (map state_of fronts) (map state_of middles)));
    each_front = λ i w at. fresh_for (suc i) 0 w (v.made.fresh_fronts i w at);
    each_middle = λ i w at. fresh_for (suc i) 1 w (v.made.fresh_middles i w at);
  }

  pub opens : OpensHall old seats x
  opens = record {
    seats_are = v.many;
    log = ap origin_of entry_is;
    room = room_is;
    becomes = (keeps_then old v.mid new v.keeps v.made.out.keeps).becomes;
    not_shut = ap (λ (r : RoomState). r.is_shut) room_is ∙ v.opened;
  }

  pub lacks_hall : LacksViews old new (reverse middles ++ reverse fronts) room_fault.NoMemory
  lacks_hall = lacks_seated old v.mid v.board v.is v.keeps new (reverse middles ++ reverse fronts) room_fault.NoMemory (record { out = v.made.out; cause = v.made.same })

-- what comes back of a hall that was not made is what was given
pub lacks_same : (old room other : RoomValue) (fronts fs middles ms : List ViewValue) → other ≡ room → fs ≡ fronts → ms ≡ middles → LacksViews old room (reverse middles ++ reverse fronts) room_fault.NoMemory → LacksViews old other (reverse ms ++ reverse fs) room_fault.NoMemory
lacks_same old room other fronts fs middles ms e f m l =
    subst (λ r. LacksViews old r (reverse ms ++ reverse fs) room_fault.NoMemory) (sym e) (subst (λ v. LacksViews old room (reverse ms ++ reverse v) room_fault.NoMemory) (sym f) (subst (λ v. LacksViews old room (reverse v ++ reverse fronts) room_fault.NoMemory) (sym m) l))

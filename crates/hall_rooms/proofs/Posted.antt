-- A view is posted to a seat, in a turn, and the old middle taken back.
use Rattle.std.proofs.Common.{◌≡◌, ◌≢◌, inl, inr, ⊎_elim, ℕ, suc, zero, ◌+◌, ◌-◌, ◌*◌, ◌<◌, ◌≤◌, false, List, [], ◌∷◌, ◌++◌, take, drop, length, Option, Some, None, Ok, Err, refl, sym, ap, ◌∙◌, subst, arith, append-nil, append_assoc, length-set, true≢false}
use Rattle.std.specs.Prelude.{Contains, IsSome, slice_get, slice_set, slice_index, slice_range}
use Rattle.std.proofs.lemmas.List.Elements.{Contains-append_left}
use Rattle.atomic_table.specs.Seated.{TableId}
use Rattle.fine_model.specs.declared.law.RoomState.{RoomState}
use Rattle.fine_model.specs.Becomes.{Becomes}
use Rattle.fine_model.specs.Boards.{Buffer, buffer_at, empty_of, first_from, is_empty, set_of}
use Rattle.fine_model.specs.Buckets.{Began}
use Rattle.fine_model.specs.Jobs.{KeepsJob, held_for}
use Rattle.fine_model.proofs.Histories.Goings.{becomes_on, job_on}
use Rattle.partition_hold.specs.Views.{ViewValue, opened, state_of}
use Rattle.epoch_room.specs.Meaning.{Stands}
use Rattle.epoch_room.specs.Value.{RoomValue, all_regions}
use Rattle.epoch_room.specs.declared.answers.RoomFault.{RoomFault}
use Rattle.epoch_room.specs.declared.answers.RoomFault.TheVariants as room_fault
use Rattle.epoch_room.proofs.Joining.{keeps_then}
use Rattle.epoch_room.proofs.Views.Viewing.{empty_is}
use Rattle.fine_boxes.specs.declared.model.TurnNote.{TurnNote}
use Rattle.fine_places.proofs.Elements.{least_more}
use Rattle.fine_places.proofs.Lists.{decide}
use Rattle.fine_boxes.specs.Lists.{get_set_else, get_set_here}
use Rattle.fine_boxes.specs.Telling.{posting}
use Rattle.fine_hall.specs.declared.law.Beginning.{Beginning}
use Rattle.fine_hall.specs.Turns.{added, room_after}
use Rattle.fine_hall.specs.Passes.{first_given, seen, turns, last_room, IsPass}
use Rattle.fine_hall.specs.Halls.{MayPost, Posts}
use Rattle.fine_hall.proofs.Counting.{counts_stay}
use Rattle.fine_hall.proofs.Since.{since_law}
use Rattle.hall_rooms.specs.Rooms.{RoomPass}
use Rattle.hall_rooms.specs.Boards.{TakesBackAll, with_views}
use Rattle.hall_rooms.specs.Views.{MakesView, MakesViewOr, with_faults}
use Rattle.hall_rooms.specs.Steps.{InTurn, IsCleanTurn, IsFailedTurn, LacksView, NoneFailed, PostedBelow, PostsEachOr, PostsOr, PostsTo, Stays}
use Rattle.hall_rooms.specs.Posting.{PostsFirst, with_posted}
use Rattle.hall_rooms.specs.Turning.{RenewsSeat, RenewsSeats}
use Rattle.hall_rooms.proofs.Naming.{place_alike}
use Rattle.hall_rooms.proofs.Turned.{goes, rises, some_failed}

-- ---- the empty buffer of a seat

get_take : {A : Type 0} (n : ℕ) (l : List A) (k : ℕ) (a : A) → k < n → slice_get l k ≡ Some a → slice_get (take n l) k ≡ Some a
get_take zero l k a lt e = absurd (omega (arith, lt))
get_take (suc n) [] k a lt e = e
get_take (suc n) (x ∷ l) zero a lt e = e
get_take (suc n) (x ∷ l) (suc k) a lt e = get_take n l k a (omega (arith, lt)) e

get_drop : {A : Type 0} (n : ℕ) (l : List A) (k : ℕ) (a : A) → slice_get l (n + k) ≡ Some a → slice_get (drop n l) k ≡ Some a
get_drop zero l k a e = let z : k ≡ 0 + k = omega arith in ap (slice_get l) z ∙ e
get_drop (suc n) [] k a e = e
get_drop (suc n) (x ∷ l) k a e = get_drop n l k a (let s : suc (n + k) ≡ suc n + k = omega arith in ap (slice_get (x ∷ l)) s ∙ e)

some_first : (at : ℕ) (l : List Buffer) (k : ℕ) → slice_get l k ≡ Some None → IsSome (first_from is_empty at l)
some_first at [] k e = absurd (let x : ◌≡◌ {A = Option Buffer} None (Some None) = e in cc)
some_first at (None ∷ l) k e = refl
some_first at (Some eye ∷ l) zero e = absurd (let x : ◌≡◌ {A = Option Buffer} (Some (Some eye)) (Some None) = e in cc)
some_first at (Some eye ∷ l) (suc k) e = some_first (at + 1) l k e

first_below : (at : ℕ) (l : List Buffer) (k : ℕ) → first_from is_empty at l ≡ Some k → k < at + length l
first_below at [] k e = absurd (let x : ◌≡◌ {A = Option ℕ} None (Some k) = e in cc)
first_below at (None ∷ l) k e = let x : at ≡ k = cc in omega (arith, x)
first_below at (Some eye ∷ l) k e = let h = first_below (at + 1) l k e in omega (arith, h)

take_few : {A : Type 0} (n : ℕ) (l : List A) → length (take n l) ≤ n
take_few zero l = omega arith
take_few (suc n) [] = omega arith
take_few (suc n) (x ∷ l) = let h = take_few n l in omega (arith, h)

pub has_empty : (board : List Buffer) (seat b : ℕ) → 1 ≤ seat → b < 3 → slice_get board (buffer_at seat b) ≡ Some None → IsSome (empty_of board seat)
has_empty board seat b some lt e = some_first 0 (slice_range board (3 * (seat - 1)) (3 * seat)) b (get_take (3 * seat - 3 * (seat - 1)) (drop (3 * (seat - 1)) board) b None (omega (arith, some, lt)) (get_drop (3 * (seat - 1)) board b None e))

pub empty_below : (board : List Buffer) (seat b : ℕ) → 1 ≤ seat → empty_of board seat ≡ Some b → b < 3
empty_below board seat b some e =
    let h = first_below 0 (slice_range board (3 * (seat - 1)) (3 * seat)) b e in
    let t = take_few (3 * seat - 3 * (seat - 1)) (drop (3 * (seat - 1)) board) in
    omega (arith, some, h, t)

module _ (x : Beginning) (p : RoomPass) (room : RoomValue) (t : TurnNote) (i : InTurn x room p t) (seat : ℕ) (least : 1 ≤ seat) (most : seat ≤ x.seats) where
  pub board_long : 3 * seat ≤ length room.room.board
  board_long = let l = i.is_turn.long.2 in let b = ap length i.may.board in omega (arith, l, b, most)

  pub some_empty : IsSome (empty_of room.room.board seat)
  some_empty =
      let e = i.is_turn.empty (seat - 1) (omega (arith, least, most)) in
      has_empty room.room.board seat (slice_index t.backs (seat - 1)) least e.0 (ap (λ l. slice_get l (buffer_at seat (slice_index t.backs (seat - 1)))) i.may.board ∙ e.1)

  -- ---- no view could be made

  pub lacks : (new : RoomValue) (fault : RoomFault) → MakesViewOr room new seat (Err fault) → InTurn x new p t × LacksView room new fault
  lacks new room_fault.Disk m = (
    goes x p p room new t t i refl refl refl i.is_turn m.leaves.keeps m.leaves.job m.leaves.entry (ap (λ (r : RoomState). r.places) m.room)
        (counts_stay x room.room new.room (seen p ++ added None 0) i.may.epochs (ap (λ (r : RoomState). r.sealed) m.room) (ap (λ (r : RoomState). r.waiting) m.room))
        (let a = i.may.top in let b = m.leaves.keeps.becomes.sealed in omega (arith, a, b)) (m.board ∙ i.may.board)
        (⊎_elim (λ low. inl (let up = m.leaves.keeps.becomes.faults in omega (arith, low, up))) (λ last. inr (let up = m.leaves.keeps.becomes.faults in omega (arith, last, up))) i.may.counted),
    (
      m.was_open,
      m.is_shut,
      rises room new m.faults,
      m.leaves.job,
      m.board,
      m.room,
    ),
  )
  lacks new (room_fault.Shut epoch) m = (subst (λ r. InTurn x r p t) (sym m.2) i, m)
  lacks new room_fault.NoMemory m = (subst (λ r. InTurn x r p t) (sym m.1) i, m)

  -- ---- a view was made

  module _ (z : TableId) (ok : IsPass state_of z x p) (mid : RoomValue) (v : ViewValue) (m : MakesView room mid seat v) where
    since : Becomes x.room room.room
    since = becomes_on x.room (last_room x p) room.room (since_law x.room [] (turns p) ok.lawful.rooms) i.may.becomes

    pub few : v.buffer < 3
    few = empty_below room.room.board seat v.buffer least m.buffer

    pub may_post : MayPost x seat t p (state_of v)
    may_post = record {
      seat_is = m.of_seat;
      empty = ap (λ l. slice_get l (buffer_at seat v.buffer)) (sym i.may.board) ∙ empty_is room.room.board seat v.buffer m.buffer;
      within = few;
      shows = record {
        region_len = m.region_len ∙ since.region_len;
        since = let a = since.sealed in let b = m.upto in omega (arith, a, b);
        tells = λ e first b. m.tells e first (seen p) (subst (λ l. Began l e first) (sym i.may.log) b) (subst (Stands room first e) (append-nil (seen p)) (i.may.stands e first b));
      };
      clean = m.clean;
      later = let a = i.may.top in let b = m.upto in omega (arith, a, b);
    }

    -- ---- and posted

    module _ (p' : RoomPass) (back : ViewValue) (number : p'.number ≡ p.number) (posts : Posts x seat t (state_of v) (state_of back) p p') where
      pub back_there : slice_get mid.room.board (buffer_at back.seat back.buffer) ≡ Some (Some (opened back.eye))
      back_there =
          ap (λ k. slice_get mid.room.board (buffer_at k back.buffer)) posts.old_seat
          ∙ (ap (λ l. slice_get l (buffer_at seat back.buffer)) m.board
          ∙ (get_set_else room.room.board (buffer_at seat v.buffer) (buffer_at seat back.buffer) (Some (opened v.eye)) (λ e. posts.apart (let a : back.buffer ≡ v.buffer = omega (arith, e) in a))
          ∙ (ap (λ l. slice_get l (buffer_at seat back.buffer)) i.may.board ∙ posts.on_board)))

      module _ (new : RoomValue) (emptied : new.room.board ≡ slice_set mid.room.board (buffer_at back.seat back.buffer) None) (b : TakesBackAll back.eye.faults mid new) where
        board_is : new.room.board ≡ slice_set (slice_set t.board (3 * (seat - 1) + v.buffer) (Some (opened v.eye))) (3 * (seat - 1) + back.buffer) None
        board_is = emptied ∙ ((λ j. slice_set (m.board j) (buffer_at (posts.old_seat j) back.buffer) None) ∙ ap (λ l. slice_set (slice_set l (buffer_at seat v.buffer) (Some (opened v.eye))) (buffer_at seat back.buffer) None) i.may.board)

        sealed_is : new.room.sealed ≡ room.room.sealed
        sealed_is = ap (λ (r : RoomState). r.sealed) b.room ∙ ap (λ (r : RoomState). r.sealed) m.room

        waiting_is : new.room.waiting ≡ room.room.waiting
        waiting_is = ap (λ (r : RoomState). r.waiting) b.room ∙ ap (λ (r : RoomState). r.waiting) m.room

        faults_are : mid.room.faults ≡ room.room.faults
        faults_are = ap (λ (r : RoomState). r.faults) m.room

        job_back : KeepsJob mid.room new.room
        job_back = record { job = ap (λ (r : RoomState). r.job) b.room; held = λ j is. ap (λ (r : RoomState). held_for r.image j) b.room }

        pub posted : PostsOr x seat t room new p p' (Ok tt)
        posted = (
          record {
            view = state_of v;
            back = state_of back;
            within = few;
            was_empty = empty_is room.room.board seat v.buffer m.buffer;
            upto = m.upto ∙ sym sealed_is;
            of_parts = ap set_of m.of_parts;
            is_new = m.is_new;
            posts = posts;
            turn = goes x p p' room new t (posting t (seat - 1) v.buffer (state_of v) (state_of back)) i posts.places.same_held posts.places.same_turns number posts.is_turn
                (keeps_then room mid new m.leaves.keeps b.keeps) (job_on room.room mid.room new.room m.leaves.job job_back) (b.entry ∙ m.leaves.entry) (ap (λ (r : RoomState). r.places) b.room ∙ ap (λ (r : RoomState). r.places) m.room)
                (counts_stay x room.room new.room (seen p ++ added None 0) i.may.epochs sealed_is waiting_is) (let a = m.upto in let s = sealed_is in omega (arith, a, s)) board_is
                (⊎_elim
                (λ low. ⊎_elim (λ was. inl (let f = faults_are in omega (arith, low, was, f))) (λ last. inr (let up = b.keeps.becomes.faults in let f = faults_are in omega (arith, last, up, f))) i.may.counted)
                (λ last. inr last)
                b.low);
            room = b.room ∙ (ap (λ r. with_views r new.room) m.room ∙ (λ j. record (with_posted room.room new.room) { given = ap (λ (r : RoomState). r.given) (sym b.room) j }));
            given = ap (λ (r : RoomState). r.given) b.room ∙ m.given;
            counted = let h = b.high in let f = faults_are in omega (arith, h, f);
          },
          m.not_shut,
        )

-- ---- posted to one seat more

module _ (x : Beginning) (i seat : ℕ) (is : seat ≡ i + 1) (lt : i < x.seats) (found : RoomState) (old new : RoomValue) (p p' : RoomPass) (b : PostedBelow x i found old p) (s : PostsTo x seat b.note old new p p') where
  box : seat - 1 ≡ i
  box = omega (arith, is)

  sealed_same : new.room.sealed ≡ old.room.sealed
  sealed_same = ap (λ (r : RoomState). r.sealed) s.room

  parts_same : new.room.parts ≡ old.room.parts
  parts_same = ap (λ (r : RoomState). r.parts) s.room

  last_same : last_room x p' ≡ last_room x p
  last_same = ap (room_after x.room) s.posts.places.same_turns

  abbrev slot : ℕ
  slot = 3 * (seat - 1) + s.view.buffer

  abbrev gone : ℕ
  gone = 3 * (seat - 1) + s.back.buffer

  long : slot < length b.note.board
  long = let l = b.turn.is_turn.long.2 in let w = s.within in omega (arith, l, w, is, lt)

  own_there : slice_get new.room.board slot ≡ Some (Some s.view.eye)
  own_there =
      ap (λ l. slice_get l slot) s.turn.may.board
      ∙ (get_set_else (slice_set b.note.board slot (Some s.view.eye)) gone slot None (λ e. s.posts.apart (let a : s.back.buffer ≡ s.view.buffer = omega (arith, e) in a))
      ∙ get_set_here b.note.board slot (Some s.view.eye) long)

  gone_there : slice_get new.room.board gone ≡ Some None
  gone_there =
      ap (λ l. slice_get l gone) s.turn.may.board
      ∙ get_set_here (slice_set b.note.board slot (Some s.view.eye)) gone None
      (let l = b.turn.is_turn.long.2 in let w = s.posts.within in let n = length-set b.note.board slot (Some s.view.eye) in omega (arith, l, w, n, is, lt))

  -- every other buffer is as it was
  elsewhere : (at : ℕ) → at ≢ slot → at ≢ gone → slice_get new.room.board at ≡ slice_get old.room.board at
  elsewhere at not_slot not_gone =
      ap (λ l. slice_get l at) s.turn.may.board
      ∙ (get_set_else (slice_set b.note.board slot (Some s.view.eye)) gone at None not_gone
      ∙ (get_set_else b.note.board slot at (Some s.view.eye) not_slot
      ∙ ap (λ l. slice_get l at) (sym b.turn.may.board)))

  other_seat : (k c : ℕ) → 1 ≤ k → k ≢ seat → c < 3 → slice_get new.room.board (buffer_at k c) ≡ slice_get old.room.board (buffer_at k c)
  other_seat k c least other few = elsewhere (buffer_at k c) (apart s.view.buffer s.within) (apart s.back.buffer s.posts.within)
    where
      apart : (d : ℕ) → d < 3 → buffer_at k c ≢ 3 * (seat - 1) + d
      apart d near e = other (place_alike k seat c d (omega (arith, least)) (omega (arith, is)) few near e).0

  is_new : Contains found.given s.view.eye.number → ⊥
  is_new had = s.is_new (subst (λ l. Contains l s.view.eye.number) (sym b.given.1) (Contains-append_left found.given b.given.0 s.view.eye.number had))

  own_seat : RenewsSeat found.given new.room.parts found.board new.room.board seat
  own_seat = record {
    view = record {
      buffer = s.view.buffer;
      within = s.within;
      eye = s.view.eye;
      on_board = own_there;
      of_parts = s.of_parts ∙ ap (λ ps. set_of (all_regions ps)) (sym parts_same);
      is_new = is_new;
    };
    was_empty = sym (b.board.others seat s.view.buffer (omega (arith, is)) s.within) ∙ s.was_empty;
    back = s.back.buffer;
    within = (s.posts.within, s.posts.apart);
    came_back = (s.back.eye, sym (b.board.others seat s.back.buffer (omega (arith, is)) s.posts.within) ∙ (ap (λ l. slice_get l gone) b.turn.may.board ∙ s.posts.on_board));
    emptied = gone_there;
    third = λ c few not_slot not_gone. elsewhere (buffer_at seat c) (λ e. not_slot (let a : c ≡ s.view.buffer = omega (arith, e) in a)) (λ e. not_gone (let a : c ≡ s.back.buffer = omega (arith, e) in a)) ∙ b.board.others seat c (omega (arith, is)) few;
  }

  seat_before : (k : ℕ) → 1 ≤ k → k < seat → RenewsSeat found.given old.room.parts found.board old.room.board k → RenewsSeat found.given new.room.parts found.board new.room.board k
  seat_before k least below v = record {
    view = record {
      buffer = v.view.buffer;
      within = v.view.within;
      eye = v.view.eye;
      on_board = same v.view.buffer v.view.within ∙ v.view.on_board;
      of_parts = v.view.of_parts ∙ ap (λ ps. set_of (all_regions ps)) (sym parts_same);
      is_new = v.view.is_new;
    };
    was_empty = v.was_empty;
    back = v.back;
    within = v.within;
    came_back = v.came_back;
    emptied = same v.back v.within.0 ∙ v.emptied;
    third = λ c few not_view not_back. same c few ∙ v.third c few not_view not_back;
  }
    where
      same : (c : ℕ) → c < 3 → slice_get new.room.board (buffer_at k c) ≡ slice_get old.room.board (buffer_at k c)
      same c few = other_seat k c least (λ e. absurd (omega (arith, below, e))) few

  pub posted_next : PostedBelow x (i + 1) found new p'
  posted_next = record {
    note = posting b.note (seat - 1) s.view.buffer s.view s.back;
    turn = s.turn;
    none_failed = let a = s.counted in let n = b.none_failed in let l = ap (λ (r : RoomState). r.faults) last_same in omega (arith, a, n, l);
    same = s.room ∙ ap (λ r. with_posted r new.room) b.same;
    given = (b.given.0 ++ s.view.eye.number ∷ [], s.given ∙ (ap (λ l. l ++ s.view.eye.number ∷ []) b.given.1 ∙ append_assoc found.given b.given.0 (s.view.eye.number ∷ [])));
    upto = λ j near. subst (λ k. new.room.sealed ≤ slice_index (slice_set b.note.posted k s.view.upto) j) (sym box)
        (least_more b.note.posted i s.view.upto new.room.sealed (let l = b.turn.is_turn.long.1 in omega (arith, lt, l)) (let u = s.upto in omega (arith, u)) (λ k below. let a = b.upto k below in let e = sealed_same in omega (arith, a, e)) j near);
    board = record {
      renewed = λ k least most. ⊎_elim
          (λ e. subst (RenewsSeat found.given new.room.parts found.board new.room.board) (sym e) own_seat)
          (λ ne. seat_before k least (omega (arith, most, is, ne)) (b.board.renewed k least (omega (arith, most, is, ne))))
          (decide k seat);
      others = λ k c above few. other_seat k c (omega (arith, above)) (λ e. absurd (omega (arith, above, e, is))) few ∙ b.board.others k c (omega (arith, above)) few;
    };
  }

-- ---- a loop over the seats

pub stays_posted : (x : Beginning) (seat : ℕ) (t : TurnNote) (old new : RoomValue) (p p' : RoomPass) → PostsTo x seat t old new p p' → Stays p p'
stays_posted x seat t old new p p' s = record {
  held = s.posts.places.same_held;
  turns = s.posts.places.same_turns;
  own = s.posts.places.same_own;
  no_earlier = let e = s.posts.places.same_published in omega (arith, e);
  front = s.posts.front;
  given_up = ap first_given s.posts.notes;
}

-- before the first seat
pub none_posted : (x : Beginning) (p : RoomPass) (room : RoomValue) → IsCleanTurn x room p → PostedBelow x 0 room.room room p
none_posted x p room c = record {
  note = c.note;
  turn = c.turn;
  none_failed = c.none_failed;
  same = refl;
  given = ([], sym (append-nil room.room.given));
  upto = λ i lt. absurd (omega (arith, lt));
  board = record { renewed = λ seat least most. absurd (omega (arith, least, most)); others = λ seat c above few. refl };
}

-- where the board, the eyes and the count of all faults alone are others, so are they with the counts and whether it is shut
pub faults_same : (a b : RoomState) → b ≡ with_posted a b → b ≡ with_faults a b
faults_same a b same = same ∙ (λ i. record (with_posted a b) { is_shut = ap (λ (r : RoomState). r.is_shut) (sym same) i; own_faults = ap (λ (r : RoomState). r.own_faults) (sym same) i })

-- a view could not be made for one of them
pub each_lacks : (x : Beginning) (i seat : ℕ) (first old new : RoomValue) (p p' : RoomPass) (fault : RoomFault) (b : PostedBelow x i first.room old p) → i < x.seats → (0 < i → old.room.is_shut ≡ false) → (i ≡ 0 → old ≡ first)
    → PostsOr x seat b.note old new p p' (Err fault) → PostsEachOr x first new p' (Err fault)
each_lacks x i seat first old new p p' room_fault.Disk b lt is_open at_first s = (
  subst (IsFailedTurn x new) (sym s.0) (record { note = b.note; turn = s.1; some_failed = some_failed x p old new b.note b.turn s.2.2 }),
  sym (ap (λ (r : RoomState). r.is_shut) b.same) ∙ s.2.0,
  s.2.1,
  record {
    upto = i;
    not_all = lt;
    same = s.2.5 ∙ ap (λ r. with_faults r new.room) b.same;
    board = subst (λ l. RenewsSeats i first.room.given new.room.parts first.room.board l) (sym s.2.4) (subst (λ ps. RenewsSeats i first.room.given ps first.room.board old.room.board) (sym (ap (λ (r : RoomState). r.parts) s.2.5)) b.board);
  },
)
each_lacks x i seat first old new p p' (room_fault.Shut epoch) b lt is_open at_first s = (
  subst (IsCleanTurn x new) (sym s.0) (record { note = b.note; turn = s.1; none_failed = subst (λ r. NoneFailed x r p b.note) (sym s.2.2) b.none_failed }),
  sym (ap (λ (r : RoomState). r.is_shut) b.same) ∙ s.2.0,
  s.2.1 ∙ ap (λ (r : RoomState). r.sealed) b.same,
  s.2.2 ∙ by i refl,
)
  where
    by : (n : ℕ) → i ≡ n → old ≡ first
    by zero e = at_first e
    by (suc n) e = absurd (true≢false (sym s.2.0 ∙ is_open (omega (arith, e))))
each_lacks x i seat first old new p p' room_fault.NoMemory b lt is_open at_first s = (
  subst (IsCleanTurn x new) (sym s.0) (record { note = b.note; turn = s.1; none_failed = subst (λ r. NoneFailed x r p b.note) (sym s.2.1) b.none_failed }),
  sym (ap (λ (r : RoomState). r.is_shut) b.same) ∙ s.2.0,
  ap (λ (r : RoomValue). r.room.is_shut) s.2.1 ∙ s.2.0,
  subst (λ (r : RoomValue). PostsFirst x.seats first.room r.room) (sym s.2.1) (record { upto = i; not_all = lt; same = faults_same first.room old.room b.same; board = b.board }),
)

-- How a turn of the room goes on.
use Rattle.std.proofs.Common.{◌≡◌, ◌⊎◌, inl, inr, ⊎_elim, ℕ, suc, zero, ◌+◌, ◌<◌, ◌≤◌, ◌==◌, true, false, List, [], ◌∷◌, ◌++◌, map, eq-eqb, None, Ok, Err, refl, sym, ap, ◌∙◌, subst, arith, append-nil, ne_eqb}
use Rattle.std.specs.Prelude.{Option, Some, if◌then◌else◌, nat_eq, nat_lt, not, ◌&&◌, ◌||◌, option_to_list}
use Rattle.std.specs.List.{list_any}
use lib.ListN.{get_elem?}
use Rattle.fine_places.specs.History as places
use Rattle.fine_places.proofs.Lists.{set_at}
use Rattle.fine_model.specs.declared.law.RoomState.{RoomState}
use Rattle.fine_model.specs.Becomes.{Becomes}
use Rattle.fine_model.specs.Boards.{set_of}
use Rattle.fine_model.specs.Faults.{HasRisen, last_count}
use Rattle.fine_model.specs.Jobs.{KeepsJob}
use Rattle.fine_model.proofs.Histories.Goings.{becomes_itself, becomes_on, job_itself, job_on}
use Rattle.log_disk.specs.Disk.{Disk, OpenEye, SameBeside}
use Rattle.epoch_room.specs.Meaning.{Keeps, Stands, origin_of}
use Rattle.epoch_room.specs.Steps.{Fails, KeepsCounts, SealsOr, Shuts, Steps, sealed_state, shut_state, next_part}
use Rattle.epoch_room.specs.Value.{RoomValue, on, taken}
use Rattle.epoch_room.specs.Whole.{IsWhole}
use Rattle.epoch_room.specs.Fitting.{counts_of}
use Rattle.epoch_room.specs.declared.answers.Counts.{Counts}
use Rattle.epoch_room.specs.declared.answers.RoomFault.{RoomFault}
use Rattle.epoch_room.specs.declared.answers.RoomFault.TheVariants as room_fault
use Rattle.epoch_room.proofs.Merges.JobRegions.{outside_any}
use Rattle.epoch_room.proofs.OpenEpochs.Behind.{keeps_none}
use Rattle.fine_boxes.specs.declared.model.TurnNote.{TurnNote}
use Rattle.fine_places.specs.declared.model.Placed.{Placed}
use Rattle.fine_hall.specs.declared.turn.Turn.{Turn}
use Rattle.fine_hall.specs.declared.law.Beginning.{Beginning}
use Rattle.fine_hall.specs.Turns.{added, commits, room_after}
use Rattle.fine_hall.specs.Laws.{CountsEpochs, IsRoomFor}
use Rattle.fine_hall.specs.Passes.{known, turns, seen, published, last_room, LacksPlace, IsHolder}
use Rattle.fine_hall.specs.Halls.{MayGiveRoom, TakesRoom}
use Rattle.fine_hall.proofs.Counting.{counts_sealed, counts_stay}
use Rattle.partition_hold.specs.Views.{state_of}
use Rattle.hall_rooms.proofs.Viewing.{either}
use Rattle.hall_rooms.specs.Rooms.{RoomPass, room_state, room_log}
use Rattle.hall_rooms.specs.Turning.{LosesTarget}
use Rattle.hall_rooms.specs.Steps.{BeginsTurn, InTurn, IsSealed, LeavesViews, Rises, SameEpochs, SealsWaitingOr, SomeFailed, Stays}

-- ---- a turn goes on

module _ (x : Beginning) (p p' : RoomPass) (room new : RoomValue) (t t' : TurnNote) (i : InTurn x room p t) (held : (known p').held ≡ (known p).held) (same : turns p' ≡ turns p) (number : p'.number ≡ p.number) (h : IsHolder x p' t') where
  over : (P : List (Placed Turn) → Type 0) → P (turns p) → P (turns p')
  over P a = subst P (sym same) a

  pub goes : Keeps room new → KeepsJob room.room new.room → new.entry ≡ room.entry → new.room.places ≡ room.room.places → CountsEpochs x new.room (seen p ++ added None 0) → t'.top ≤ new.room.sealed → new.room.board ≡ t'.board
      → ((last_room x p).faults + t'.in_hand ≤ new.room.faults) ⊎ (last_count ≤ new.room.faults) → InTurn x new p' t'
  goes keeps job entry as_many epochs top board counted = record {
    held = ap (λ l. get_elem? l places.room) held ∙ i.held;
    is_turn = h;
    may = record {
      log = ap origin_of entry ∙ i.may.log;
      stands = λ e first b. over (λ l. Stands new first e (commits l ++ added None 0)) (keeps.stands first e (seen p ++ added None 0) (i.may.stands e first b));
      becomes = over (λ l. Becomes (room_after x.room l) new.room) (becomes_on (last_room x p) room.room new.room i.may.becomes keeps.becomes);
      places = over (λ l. new.room.places ≡ (room_after x.room l).places) (as_many ∙ i.may.places);
      epochs = over (λ l. CountsEpochs x new.room (commits l ++ added None 0)) epochs;
      top = top;
      board = board;
      job = λ ne. over (λ l. KeepsJob (room_after x.room l) new.room) (job_on (last_room x p) room.room new.room (i.may.job (λ e. ne (number ∙ e))) job);
      counted = over (λ l. ((room_after x.room l).faults + t'.in_hand ≤ new.room.faults) ⊎ (last_count ≤ new.room.faults)) counted;
      commits = record {};
    };
  }

-- a step in a turn that posts no view, after which the epochs are counted on
pub stepped : (x : Beginning) (p : RoomPass) (room new : RoomValue) (t : TurnNote) → InTurn x room p t → LeavesViews room new → CountsEpochs x new.room (seen p ++ added None 0) → InTurn x new p t
stepped x p room new t i l epochs = goes x p p room new t t i refl refl refl i.is_turn l.keeps l.job l.entry l.places epochs (let a = i.may.top in let b = l.keeps.becomes.sealed in omega (arith, a, b)) (l.board ∙ i.may.board)
    (⊎_elim (λ low. inl (let up = l.keeps.becomes.faults in omega (arith, low, up))) (λ last. inr (let up = l.keeps.becomes.faults in omega (arith, last, up))) i.may.counted)

-- ---- its beginning

-- the room may be given back as it was taken
pub may_give_as_taken : (x : Beginning) (p₀ p : RoomPass) (room : RoomValue) → IsRoomFor room_state room_log Stands x (published p) room (turns p) → (t : TakesRoom state_of x room.room p₀ p) → MayGiveRoom room_state room_log Stands x room None 0 t.turn p
may_give_as_taken x p₀ p room r t = record {
  log = r.log;
  stands = λ e first b. subst (Stands room first e) nil (r.stands e first b);
  becomes = subst (λ s. Becomes s room.room) r.last (becomes_itself room.room);
  places = ap (λ (s : RoomState). s.places) r.last;
  epochs = subst (CountsEpochs x room.room) nil r.epochs;
  top = let e = t.top in omega (arith, e);
  board = sym t.board;
  job = λ ne. subst (λ s. KeepsJob s room.room) r.last (job_itself room.room);
  counted = inl (let e = ap (λ (s : RoomState). s.faults) r.last in let n = t.none_in_hand in omega (arith, e, n));
  commits = record {};
}
  where
    nil : seen p ≡ seen p ++ added None 0
    nil = sym (append-nil (seen p))

pub begins : (x : Beginning) (p₀ p : RoomPass) (room : RoomValue) → p.number ≡ p₀.number → LacksPlace p₀ places.room → IsRoomFor room_state room_log Stands x (published p) room (turns p) → TakesRoom state_of x room.room p₀ p → BeginsTurn x p₀ p room
begins x p₀ p room number free r t = record {
  number = number;
  free = free;
  takes = t;
  is_room = r;
  clean = record {
    note = t.turn;
    turn = record {
      held = ap (λ l. get_elem? l places.room) t.takes.held ∙ set_at (known p₀).held places.room false true free;
      is_turn = t.is_turn;
      may = may_give_as_taken x p₀ p room r t;
    };
    none_failed = let e = ap (λ (s : RoomState). s.faults) r.last in omega (arith, e);
  };
}

-- the room as it is changed in the turn is the one that was taken
pub begun_with : (x : Beginning) (p₀ p : RoomPass) (held room : RoomValue) → room ≡ held → BeginsTurn x p₀ p held → BeginsTurn x p₀ p room
begun_with x p₀ p held room is b = subst (BeginsTurn x p₀ p) (sym is) b

-- ---- counts

pub risen : (a b : ℕ) → HasRisen a b → (a < b) ⊎ (last_count ≤ b)
risen a b r = ⊎_elim (λ low. inl (grind (arith, r, low))) (λ high. inr (grind (arith, r, high))) (either (a + 1) last_count)

pub rises : (old new : RoomValue) → HasRisen old.room.faults new.room.faults → Rises old.room new.room
rises old new r = risen old.room.faults new.room.faults r

-- a call failed in a turn in which none had
pub some_failed : (x : Beginning) (p : RoomPass) (room new : RoomValue) (t : TurnNote) → InTurn x room p t → Rises room.room new.room → SomeFailed x new p t
some_failed x p room new t i r = ⊎_elim
    (λ up. ⊎_elim (λ low. inl (omega (arith, up, low))) (λ last. inr (omega (arith, up, last))) i.may.counted)
    (λ last. inr last)
    r

-- ---- what a call on the room left

abbrev Given : RoomState → List ℕ
Given r = r.given

module _ (old new : RoomValue) (whole : IsWhole old) (beside : SameBeside old.disk new.disk) (keeps : Keeps old new) (job : KeepsJob old.room new.room) (state : RoomState) (target : Option ℕ) (s : Steps state target old new) where
  -- no view came or went
  pub left_views : state.places ≡ old.room.places → state.board ≡ old.room.board → LeavesViews old new
  left_views places board = record {
    entry = s.entry;
    keeps = keeps;
    job = job;
    places = ap (λ (r : RoomState). r.places) s.room ∙ places;
    board = ap (λ (r : RoomState). r.board) s.room ∙ board;
    given = ap Given s.room ∙ (beside.given ∙ sym (ap Given whole.of_disk));
  }

  -- no call on the disk failed, or some did
  pub left_counts : KeepsCounts old.disk new.disk → new.room.faults ≡ old.room.faults
  left_counts counts = ap (λ (r : RoomState). r.faults) s.room ∙ (counts.faults ∙ sym (ap (λ (r : RoomState). r.faults) whole.of_disk))

  pub left_rises : Fails old.disk new.disk → Rises old.room new.room
  left_rises fails = rises old new (subst (λ n. HasRisen n new.room.faults) (sym (ap (λ (r : RoomState). r.faults) whole.of_disk)) (subst (HasRisen old.disk.faults) (sym (ap (λ (r : RoomState). r.faults) s.room)) fails.faults))

  -- beside what a read gives and the counts of faults, the room has this state
  pub left_but_read : (f : RoomState → RoomState) → ((d : Disk) → on state d ≡ f (on old.room d)) → new.room ≡ record (f old.room) { image = new.room.image; faults = new.room.faults; own_faults = new.room.own_faults }
  left_but_read f is = subst (λ (m : RoomState). m ≡ with_read (f old.room) m) (sym s.room) (one ∙ ap (λ (r : RoomState). with_read r x) (is old.disk ∙ ap f (sym whole.of_disk)))
    where
      with_read : RoomState → RoomState → RoomState
      with_read r m = record r { image = m.image; faults = m.faults; own_faults = m.own_faults }

      x : RoomState
      x = on state new.disk

      one : x ≡ with_read (on state old.disk) x
      one i = record x { region_len = s.region_len i; regions = s.regions i; eyes = map (λ (e : OpenEye). (e.number, e.regions)) (beside.eyes i); given = beside.given i }

  -- and where no call failed, beside what a read gives
  pub left_still : KeepsCounts old.disk new.disk → (f : RoomState → RoomState) → ((d : Disk) → on state d ≡ f (on old.room d)) → new.room ≡ record (f old.room) { image = new.room.image }
  left_still counts f is = subst (λ (m : RoomState). m ≡ record (f old.room) { image = m.image }) (sym s.room) (one ∙ ap (λ (r : RoomState). record r { image = x.image }) (is old.disk ∙ ap f (sym whole.of_disk)))
    where
      x : RoomState
      x = on state new.disk

      one : x ≡ record (on state old.disk) { image = x.image }
      one i = record x {
        region_len = s.region_len i;
        regions = s.regions i;
        eyes = map (λ (e : OpenEye). (e.number, e.regions)) (beside.eyes i);
        given = beside.given i;
        faults = counts.faults i;
        own_faults = counts.own_faults i;
      }

-- ---- sealing

module _ (old new : RoomValue) (whole : IsWhole old) (waits : old.room.waiting ≡ 0 → ⊥) (beside : SameBeside old.disk new.disk) (keeps : Keeps old new) (job : KeepsJob old.room new.room) where
  pub sealed_ok : (epoch : ℕ) → SealsOr old new (Ok epoch) → SealsWaitingOr old new (Ok tt)
  unfolding sealed_state next_part
  sealed_ok epoch s = (
    left_views old new whole beside keeps job _ _ s.2.1 refl refl,
    record {
      none_waits = ap (λ (r : RoomState). r.waiting) s.2.1.room;
      none_open = (ap (λ (r : RoomState). r.open_rows) s.2.1.room, ap (λ (r : RoomState). r.used) s.2.1.room);
      epoch = λ some. (next_part old, ap (λ (r : RoomState). r.parts) s.2.1.room, refl);
      sealed = ap (λ (r : RoomState). r.sealed) s.2.1.room ∙ sym (ap (λ b. if b then old.room.sealed else old.room.sealed + 1) (ne_eqb old.room.waiting 0 waits));
      is_shut = ap (λ (r : RoomState). r.is_shut) s.2.1.room;
      retired = ap (λ (r : RoomState). r.retired) s.2.1.room;
      free = (ap (λ (r : RoomState). r.free) s.2.1.room, ap (λ (r : RoomState). r.lost) s.2.1.room);
      faults = left_counts old new whole beside keeps job _ _ s.2.1 s.2.2;
    },
    (λ none. absurd (waits none)),
    λ _. s.2.0,
  )

  target_lost : Shuts old.room None (option_to_list old.target) old new → LosesTarget old.room new.room
  target_lost s = record {
    waits = waits;
    region = target.0;
    not_free = ap (list_any (nat_eq target.0)) whole.free ∙ (outside_any old.disk.regions (taken old.room old.target) target.0 ∙ ap (λ b. not b && nat_lt target.0 old.disk.regions) is_taken);
    none_lost = whole.lost s.0;
    same = left_but_read old new whole beside keeps job _ _ s.1 (λ r. shut_state r (target.0 ∷ [])) (λ d i. record (on (shut_state old.room []) d) { lost = set_of (option_to_list (target.1 i)) });
  }
    where
      target : (region : ℕ) × (old.target ≡ Some region)
      target = whole.epoch.some (whole.lost s.0) (omega (arith, waits))

      is_taken : list_any (nat_eq target.0) (taken old.room old.target) ≡ true
      is_taken = (λ i. list_any (nat_eq target.0) (taken old.room (target.1 i))) ∙ ap (λ b. b || list_any (nat_eq target.0) (taken old.room None)) (eq-eqb target.0 target.0 refl)

  pub sealed_err : (fault : RoomFault) → SealsOr old new (Err fault) → SealsWaitingOr old new (Err fault)
  sealed_err room_fault.Disk s = (
    left_views old new whole beside keeps job _ _ s.1 refl refl,
    (ap (λ (r : RoomState). r.sealed) s.1.room, ap (λ (r : RoomState). r.waiting) s.1.room),
    s.0,
    ap (λ (r : RoomState). r.is_shut) s.1.room,
    left_rises old new whole beside keeps job _ _ s.1 s.2,
    target_lost s,
  )
  sealed_err (room_fault.Shut epoch) s = s
  sealed_err room_fault.NoMemory s = (
    left_views old new whole beside keeps job _ _ s.1 refl refl,
    (ap (λ (r : RoomState). r.sealed) s.1.room, ap (λ (r : RoomState). r.waiting) s.1.room),
    ap (λ (r : RoomState). r.is_shut) s.1.room ∙ s.0,
    left_counts old new whole beside keeps job _ _ s.1 s.2,
    record { waits = waits; same = left_still old new whole beside keeps job _ _ s.1 s.2 (λ r. r) (λ d. refl) },
  )

-- the numbers that a room tells of itself
pub counted : (room : RoomState) (c : Counts) → c ≡ counts_of room → (c.waiting ≡ room.waiting) × (c.sealed ≡ room.sealed)
unfolding counts_of
counted room c is = (ap (λ (d : Counts). d.waiting) is, ap (λ (d : Counts). d.sealed) is)

pub leaves_none : (room : RoomValue) → IsWhole room → LeavesViews room room
leaves_none room whole = record { entry = refl; keeps = keeps_none room whole; job = job_itself room.room; places = refl; board = refl; given = refl }

-- nothing waits
pub none_sealed : (room : RoomValue) → IsWhole room → room.room.waiting ≡ 0 → SealsWaitingOr room room (Ok tt)
none_sealed room whole none = (
  leaves_none room whole,
  record {
    none_waits = none;
    none_open = let n = whole.epoch.none none in (n.1, n.2);
    sealed = sym (ap (λ n. if n == 0 then room.room.sealed else room.room.sealed + 1) none);
    epoch = λ some. absurd (some none);
    is_shut = refl;
    retired = refl;
    free = (refl, refl);
    faults = refl;
  },
  (λ _. refl),
  λ waits. absurd (waits none),
)

-- the epochs of a turn once what waited was sealed
pub epochs_sealed : (x : Beginning) (p : RoomPass) (old new : RoomValue) (t : TurnNote) → InTurn x old p t → IsSealed old.room new.room → CountsEpochs x new.room (seen p ++ added None 0)
epochs_sealed x p old new t i s = by old.room.waiting refl
  where
    by : (n : ℕ) → old.room.waiting ≡ n → CountsEpochs x new.room (seen p ++ added None 0)
    by zero is = counts_stay x old.room new.room (seen p ++ added None 0) i.may.epochs (s.sealed ∙ ap (λ n. if n == 0 then old.room.sealed else old.room.sealed + 1) is) (s.none_waits ∙ sym is)
    by (suc n) is = counts_sealed x old.room new.room (seen p ++ added None 0) i.may.epochs (omega (arith, is)) (s.sealed ∙ ap (λ b. if b then old.room.sealed else old.room.sealed + 1) (ne_eqb old.room.waiting 0 (λ none. omega (arith, is, none)))) s.none_waits

pub epochs_stay : (x : Beginning) (p : RoomPass) (old new : RoomValue) (t : TurnNote) → InTurn x old p t → SameEpochs old.room new.room → CountsEpochs x new.room (seen p ++ added None 0)
epochs_stay x p old new t i s = counts_stay x old.room new.room (seen p ++ added None 0) i.may.epochs s.0 s.1

-- ---- what stays of a pass

pub stays_none : (p : RoomPass) → Stays p p
stays_none p = record { held = refl; turns = refl; own = refl; no_earlier = omega arith; front = (refl, refl); given_up = refl }

pub stays_more : (p q r : RoomPass) → Stays p q → Stays q r → Stays p r
stays_more p q r s t = record {
  held = t.held ∙ s.held;
  turns = t.turns ∙ s.turns;
  own = t.own ∙ s.own;
  no_earlier = let a = s.no_earlier in let b = t.no_earlier in omega (arith, a, b);
  front = (t.front.0 ∙ s.front.0, t.front.1 ∙ s.front.1);
  given_up = t.given_up ∙ s.given_up;
}

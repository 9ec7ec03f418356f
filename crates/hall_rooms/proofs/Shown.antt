-- Views are posted to all seats in a turn, what waits being sealed before or not, and the turn ends.
use Rattle.std.proofs.Common.{◌≡◌, inl, inr, ℕ, suc, zero, ◌≤◌, false, true≢false, None, Ok, Err, refl, sym, ap, ◌∙◌, subst, arith}
use Rattle.std.specs.Prelude.{Result}
use lib.ListN.{get_elem?}
use Rattle.atomic_table.specs.Seated.{TableId}
use Rattle.fine_model.specs.declared.law.RoomState.{RoomState}
use Rattle.fine_model.proofs.Histories.Goings.{job_itself}
use Rattle.partition_hold.specs.Views.{state_of}
use Rattle.epoch_room.specs.Value.{RoomValue}
use Rattle.epoch_room.specs.Whole.{IsWhole}
use Rattle.epoch_room.specs.declared.answers.RoomFault.{RoomFault}
use Rattle.epoch_room.specs.declared.answers.RoomFault.TheVariants as room_fault
use Rattle.epoch_room.proofs.OpenEpochs.Behind.{keeps_none}
use Rattle.fine_places.specs.History as places
use Rattle.fine_places.proofs.Lists.{some_same}
use Rattle.fine_boxes.specs.declared.model.TurnNote.{TurnNote}
use Rattle.fine_hall.specs.declared.law.Beginning.{Beginning}
use Rattle.fine_hall.specs.Turns.{room_after}
use Rattle.fine_hall.specs.Passes.{first_given, published, IsHolder, IsPass}
use Rattle.fine_hall.specs.Halls.{GivesRoom, Publishes}
use Rattle.hall_rooms.specs.Rooms.{RoomPass}
use Rattle.hall_rooms.specs.Turning.{RenewsSeats, SealedAndPosted, SealsTurn, StopsPosting}
use Rattle.hall_rooms.specs.Views.{with_faults}
use Rattle.hall_rooms.specs.Making.{TurnsOn}
use Rattle.hall_rooms.specs.Posting.{PostsFirst, PostsTurn}
use Rattle.hall_rooms.specs.Steps.{BeginsTurn, InTurn, IsCleanTurn, PostsEachOr, PublishesOr, SealsWaitingOr, ShowsOr, Stays}
use Rattle.hall_rooms.proofs.GivenBack.{met_none, met_some}
use Rattle.hall_rooms.proofs.Posted.{faults_same}
use Rattle.hall_rooms.proofs.Renewing.{stays_on}
use Rattle.hall_rooms.proofs.Turned.{epochs_sealed, epochs_stay, goes, some_failed, stepped}

-- ---- sealing

pub sealed_clean : (x : Beginning) (p : RoomPass) (old mid : RoomValue) → IsCleanTurn x old p → SealsWaitingOr old mid (Ok tt) → IsCleanTurn x mid p
sealed_clean x p old mid c s = record {
  note = c.note;
  turn = stepped x p old mid c.note c.turn s.0 (epochs_sealed x p old mid c.note c.turn s.1);
  none_failed = let n = c.none_failed in let e = s.1.faults in omega (arith, n, e);
}

pub seal_fails : (x : Beginning) (p : RoomPass) (old mid : RoomValue) (fault : RoomFault) → IsCleanTurn x old p → SealsWaitingOr old mid (Err fault) → ShowsOr x old mid p (Err fault)
seal_fails x p old mid room_fault.Disk c s = (
  record { note = c.note; turn = stepped x p old mid c.note c.turn s.0 (epochs_stay x p old mid c.note c.turn s.1); some_failed = some_failed x p old mid c.note c.turn s.4 },
  s.2,
  s.3,
  inl s.5,
)
seal_fails x p old mid (room_fault.Shut epoch) c s = (subst (λ r. IsCleanTurn x r p) (sym s.2) c, s.0, s.1, s.2)
seal_fails x p old mid room_fault.NoMemory c s = (
  record { note = c.note; turn = stepped x p old mid c.note c.turn s.0 (epochs_stay x p old mid c.note c.turn s.1); none_failed = let n = c.none_failed in let e = s.3 in omega (arith, n, e) },
  s.2,
  inl s.4,
)

-- ---- posting

-- what waited is sealed, and the first seats have their views
sealed_posted : (n : ℕ) (old mid : RoomValue) (new : RoomState) → SealsWaitingOr old mid (Ok tt) → mid.room.is_shut ≡ false → new ≡ with_faults mid.room new → RenewsSeats n mid.room.given new.parts mid.room.board new.board → SealedAndPosted old.room new n
sealed_posted n old mid new s is_open same board = record {
  opened = sym s.1.is_shut ∙ is_open;
  parts = λ none. (ap (λ (r : RoomState). r.parts) same ∙ ap (λ (v : RoomValue). v.room.parts) (s.2 none), ap (λ (r : RoomState). r.image) same ∙ ap (λ (v : RoomValue). v.room.image) (s.2 none));
  epoch = λ some. let e = s.1.epoch some in (e.0, ap (λ (r : RoomState). r.parts) same ∙ e.1, e.2);
  none_waits = ap (λ (r : RoomState). r.waiting) same ∙ s.1.none_waits;
  none_open = (ap (λ (r : RoomState). r.open_rows) same ∙ s.1.none_open.0, ap (λ (r : RoomState). r.used) same ∙ s.1.none_open.1);
  sealed = ap (λ (r : RoomState). r.sealed) same ∙ s.1.sealed;
  places = ap (λ (r : RoomState). r.places) same ∙ s.0.places;
  retired = ap (λ (r : RoomState). r.retired) same ∙ s.1.retired;
  free = (ap (λ (r : RoomState). r.free) same ∙ s.1.free.0, ap (λ (r : RoomState). r.lost) same ∙ s.1.free.1);
  board = subst (λ g. RenewsSeats n g new.parts old.room.board new.board) s.0.given (subst (λ l. RenewsSeats n mid.room.given new.parts l new.board) s.0.board board);
}

stops_posting : (old mid : RoomValue) (new : RoomState) (seats : ℕ) → SealsWaitingOr old mid (Ok tt) → mid.room.is_shut ≡ false → PostsFirst seats mid.room new → StopsPosting old.room new seats
stops_posting old mid new seats s is_open f = (f.upto, f.not_all, sealed_posted f.upto old mid new s is_open f.same f.board)

-- a view could not be made for each seat
pub post_fails : (x : Beginning) (old new : RoomValue) (p' : RoomPass) (fault : RoomFault) → PostsEachOr x old new p' (Err fault) → PublishesOr x old new p' (Err fault)
post_fails x old new p' room_fault.Disk e = e
post_fails x old new p' (room_fault.Shut epoch) e = e
post_fails x old new p' room_fault.NoMemory e = e

-- what waited was sealed, and views were posted, or that came to no end
module _ (x : Beginning) (old mid new : RoomValue) (p' : RoomPass) (s : SealsWaitingOr old mid (Ok tt)) where
  pub shown : (r : Result ℕ RoomFault) → PublishesOr x mid new p' r → ShowsOr x old new p' r
  shown (Ok epoch) e = (e.0, e.2, e.3, ap (λ (r : RoomState). r.is_shut) e.4.same ∙ e.1, sealed_posted x.seats old mid new.room s e.1 (faults_same mid.room new.room e.4.same) e.4.board)
  shown (Err room_fault.Disk) e = (e.0, sym s.1.is_shut ∙ e.1, e.2, inr (stops_posting old mid new.room x.seats s e.1 e.3))
  shown (Err (room_fault.Shut epoch)) e = by old.room.waiting refl
    where
      same : mid ≡ old → ShowsOr x old new p' (Err (room_fault.Shut epoch))
      same is = (e.0, sym s.1.is_shut ∙ e.1, e.2 ∙ ap (λ (r : RoomValue). r.room.sealed) is, e.3 ∙ is)

      by : (n : ℕ) → old.room.waiting ≡ n → ShowsOr x old new p' (Err (room_fault.Shut epoch))
      by zero is = same (s.2 is)
      by (suc n) is = absurd (true≢false (sym (sym s.1.is_shut ∙ e.1) ∙ s.3 (λ none. absurd (omega (arith, is, none)))))
  shown (Err room_fault.NoMemory) e = (e.0, e.2, inr (stops_posting old mid new.room x.seats s e.1 e.3))

-- ---- publishing

module _ (x : Beginning) (new : RoomValue) (p' p'' : RoomPass) (z : TableId) (ok : IsPass state_of z x p'') (number : p''.number ≡ p'.number) (whole : IsWhole new) (epoch : ℕ) (s : Publishes epoch p' p'') where
  pub published_turn : (t : TurnNote) → InTurn x new p' t → InTurn x new p'' t
  published_turn t i =
      let had = ok.holder (ap (λ l. get_elem? l places.room) s.same_held ∙ i.held) in
      let same : had.0 ≡ t = some_same had.0 t (sym had.1.turn ∙ (ap (λ y. y.turn) s.views.reads ∙ i.is_turn.turn)) in
      goes x p' p'' new new t t i s.same_held s.same_turns number (subst (IsHolder x p'') same had.1) (keeps_none new whole) (job_itself new.room) refl refl i.may.epochs i.may.top i.may.board i.may.counted

  pub published_all : (old : RoomValue) → PostsEachOr x old new p' (Ok tt) → epoch ≡ new.room.sealed → PublishesOr x old new p'' (Ok epoch)
  published_all old posts is =
      let b = posts.0 in (
        record {
          note = b.note;
          turn = published_turn b.note b.turn;
          none_failed = let n = b.none_failed in let l = ap (λ ts. (room_after x.room ts).faults) s.same_turns in omega (arith, n, l);
        },
        sym (ap (λ (r : RoomState). r.is_shut) b.same) ∙ posts.1,
        is,
        s.now,
        record { same = b.same; board = b.board },
      )

pub stays_published : (epoch : ℕ) (p p' : RoomPass) → published p ≤ epoch → Publishes epoch p p' → Stays p p'
stays_published epoch p p' later s = record {
  held = s.same_held;
  turns = s.same_turns;
  own = s.same_own;
  no_earlier = let e = s.now in omega (arith, later, e);
  front = s.views.front;
  given_up = ap (λ y. first_given y.notes) s.views.reads;
}

-- ---- the end of a turn

-- whatever showing answers, the room may be given back
pub in_turn : (x : Beginning) (old new : RoomValue) (p' : RoomPass) (r : Result ℕ RoomFault) → ShowsOr x old new p' r → (t : TurnNote) × InTurn x new p' t
in_turn x old new p' (Ok epoch) s = (s.0.note, s.0.turn)
in_turn x old new p' (Err room_fault.Disk) s = (s.0.note, s.0.turn)
in_turn x old new p' (Err (room_fault.Shut epoch)) s = (s.0.note, s.0.turn)
in_turn x old new p' (Err room_fault.NoMemory) s = (s.0.note, s.0.turn)

-- and whatever posting does
pub in_posting : (x : Beginning) (old new : RoomValue) (p' : RoomPass) (r : Result ℕ RoomFault) → PublishesOr x old new p' r → (t : TurnNote) × InTurn x new p' t
in_posting x old new p' (Ok epoch) s = (s.0.note, s.0.turn)
in_posting x old new p' (Err room_fault.Disk) s = (s.0.note, s.0.turn)
in_posting x old new p' (Err (room_fault.Shut epoch)) s = (s.0.note, s.0.turn)
in_posting x old new p' (Err room_fault.NoMemory) s = (s.0.note, s.0.turn)

-- what a turn of showing did, once the room was given back
module _ (x : Beginning) (found new : RoomValue) (p p₁ q r : RoomPass) (begun : BeginsTurn x p p₁ found) (second : q.number ≡ p₁.number) (third : r.number ≡ q.number) (stays : Stays p₁ q) where
  abbrev on : TurnsOn x p₁ q
  on = stays_on x p₁ q second stays

  pub seals_turn : (answer : Result ℕ RoomFault) (s : ShowsOr x found new q answer) → GivesRoom new.room None 0 (in_turn x found new q answer s).0 q r → SealsTurn x found.room new.room p r answer
  unfolding in_turn
  seals_turn (Ok epoch) s gave = (s.1, gave.same_published ∙ s.2, s.3, s.4, met_none x found new p p₁ q r begun second third on s.0.note gave s.0.none_failed)
  seals_turn (Err room_fault.Disk) s gave = (s.1, s.2, s.3, met_some x found new p p₁ q r begun second third on s.0.note gave s.0.some_failed)
  seals_turn (Err (room_fault.Shut epoch)) s gave = (s.1, s.2, ap (λ (v : RoomValue). v.room) s.3, met_none x found new p p₁ q r begun second third on s.0.note gave s.0.none_failed)
  seals_turn (Err room_fault.NoMemory) s gave = (s.1, s.2, met_none x found new p p₁ q r begun second third on s.0.note gave s.0.none_failed)

  -- and what one did that seals nothing
  pub posts_turn : (answer : Result ℕ RoomFault) (s : PublishesOr x found new q answer) → GivesRoom new.room None 0 (in_posting x found new q answer s).0 q r → PostsTurn x found.room new.room p r answer
  unfolding in_posting
  posts_turn (Ok epoch) s gave = (s.1, s.2, gave.same_published ∙ s.3, s.4, met_none x found new p p₁ q r begun second third on s.0.note gave s.0.none_failed)
  posts_turn (Err room_fault.Disk) s gave = (s.1, s.2, s.3, met_some x found new p p₁ q r begun second third on s.0.note gave s.0.some_failed)
  posts_turn (Err (room_fault.Shut epoch)) s gave = (s.1, s.2, ap (λ (v : RoomValue). v.room) s.3, met_none x found new p p₁ q r begun second third on s.0.note gave s.0.none_failed)
  posts_turn (Err room_fault.NoMemory) s gave = (s.1, s.2, s.3, met_none x found new p p₁ q r begun second third on s.0.note gave s.0.none_failed)

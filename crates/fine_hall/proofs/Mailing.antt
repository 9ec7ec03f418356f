-- How a pass goes on as it reads the published number or writes it, and as it posts a view.
use Rattle.std.proofs.Common.{◌≡◌, ◌≢◌, ◌⊎◌, ℕ, ◌+◌, ◌-◌, ◌*◌, ◌<◌, ◌≤◌, [], ◌∷◌, length, set, slice_index, slice_get, Some, None, refl, sym, ap, ◌∙◌, subst, ⊎_elim, arith, le_refl, le_trans, length-set, get_or-set_other, get_or-set_same}
use lib.ListN.{get_elem?}
use Rattle.atomic_table.specs.Seated.{TableId}
use Rattle.fine_model.specs.declared.law.ViewState.{ViewState}
use Rattle.fine_places.specs.declared.model.Known.{Known}
use Rattle.fine_places.specs.History as places
use Rattle.fine_places.proofs.Lists.{decide}
use Rattle.fine_boxes.specs.declared.model.TurnNote.{TurnNote}
use Rattle.fine_boxes.specs.declared.model.Reads.{Reads}
use Rattle.fine_boxes.specs.Lists.{get_set_here, get_set_else}
use Rattle.fine_boxes.specs.Plays.{ReadIt, WroteIt, MayPublish}
use Rattle.fine_boxes.specs.Telling.{posting, Posted}
use Rattle.fine_hall.specs.declared.turn.Turn.{Turn}
use Rattle.fine_hall.specs.declared.law.Beginning.{Beginning}
use Rattle.fine_hall.specs.declared.pass.Pass.{Pass}
use Rattle.fine_hall.specs.Turns.{touches_bucket}
use Rattle.fine_hall.specs.Laws.{AreTurns}
use Rattle.fine_hall.specs.Passes.{PassView, known, reads, published, HasPlace, IsHolder, IsPass}
use Rattle.fine_hall.specs.Halls as halls
use Rattle.fine_hall.specs.Halls.{Publishes, Posts, MayPost}
use Rattle.fine_hall.proofs.Passing.{keeps_turns, keeps_known, known_is, reads_is, one_turn, keeps_front, keeps_holder, about, still, seeing_pass, steady_pass, sees_more, same_number}

module _ {V : Type 0} (view : V → ViewState) (z : TableId) (x : Beginning) (p : Pass V) (v : PassView) (ok : IsPass view z x p) (e : p.badge.views ≡ v ∷ [])
    (p' : Pass V) (v' : PassView) (e' : p'.badge.views ≡ v' ∷ []) (t' : p'.badge.table_id ≡ z) (n' : p'.number ≡ p.number) where
  -- ---- the published number is read

  module _ (front' : (p'.front ≡ p.front) × (p'.buffer ≡ p.buffer) × (p'.backs ≡ p.backs)) (number : ℕ) (r : ReadIt AreTurns touches_bucket number v v') where
    seen' : v'.places.seen ≡ r.log
    seen' = ap (λ (u : Known Beginning Turn). u.seen) r.places

    published' : v'.places.published ≡ number
    published' = ap (λ (u : Known Beginning Turn). u.published) r.places

    shares' : v'.places.shares ≡ v.places.shares
    shares' = ap (λ (u : Known Beginning Turn). u.shares) r.places

    same_reads : reads p' ≡ reads p
    same_reads = reads_is p' v' e' ∙ (r.beside ∙ sym (reads_is p v e))

    same_held : (known p').held ≡ (known p).held
    same_held = ap (λ (u : Known Beginning Turn). u.held) (known_is p' v' e' ∙ r.places) ∙ ap (λ (u : Known Beginning Turn). u.held) (sym (known_is p v e))

    pub reads_number : number ≡ published p'
    reads_number = sym (ap (λ (u : Known Beginning Turn). u.published) (known_is p' v' e') ∙ published')

    pub reading_pass : IsPass view z x p'
    reading_pass = seeing_pass view z x p v ok e p' v' e' n' r.log number (r.sees x (about view z x p v ok e)) r.no_earlier seen' published' shares' t'
        (ap (λ (u : Known Beginning Turn). u.about) r.places) (ap (λ (u : Known Beginning Turn). u.moving) r.places ∙ still view z x p v ok e) (ap (λ (u : Known Beginning Turn). length u.held) r.places)
        (keeps_front view p p' (ap (λ (y : Reads Turn). y.notes) same_reads) n' front'.0 front'.1 ok.front)
        (λ h. let h' : HasPlace p places.room = sym (ap (λ l. get_elem? l places.room) same_held) ∙ h in let t = ok.holder h' in
        (t.0, keeps_holder x p p' t.0 (ap (λ (y : Reads Turn). y.turn) same_reads) front'.2 (same_number view z x p v ok e p' v' e' n' r.log number (r.sees x (about view z x p v ok e)) r.no_earlier seen' published' shares' h') t.1))

    pub reads_it : halls.Reads p p'
    reads_it = record {
      sees = sees_more view z x p v ok e p' v' e' n' r.log number (r.sees x (about view z x p v ok e)) r.no_earlier seen' published' shares';
      same_held = same_held;
      found = ap (λ (u : Known Beginning Turn). u.found) (known_is p' v' e' ∙ r.places) ∙ ap (λ (u : Known Beginning Turn). u.found) (sym (known_is p v e));
      views = record { reads = same_reads; front = (front'.0, front'.1); backs = front'.2 };
    }

  -- ---- it is written

  module _ (front' : (p'.front ≡ p.front) × (p'.buffer ≡ p.buffer) × (p'.backs ≡ p.backs)) (number : ℕ) (r : WroteIt number v v') where
    wrote : known p' ≡ record (known p) { published = number }
    wrote = known_is p' v' e' ∙ (ap (λ (w : PassView). w.places) r.is ∙ ap (λ (u : Known Beginning Turn). record u { published = number }) (sym (known_is p v e)))

    reads_stay : reads p' ≡ reads p
    reads_stay = reads_is p' v' e' ∙ (ap (λ (w : PassView). w.beside) r.is ∙ sym (reads_is p v e))

    pub publishes : Publishes number p p'
    publishes = record {
      same_held = ap (λ (u : Known Beginning Turn). u.held) wrote;
      now = ap (λ (u : Known Beginning Turn). u.published) wrote;
      keeps = keeps_turns p p' _ refl refl refl wrote reads_stay front';
    }

    holds_on : (t : TurnNote) → IsHolder x p t → IsHolder x p' t
    holds_on t h = record {
      turn = ap (λ (y : Reads Turn). y.turn) reads_stay ∙ h.turn;
      backs = front'.2 ∙ h.backs;
      still = h.still;
      long = h.long;
      posted = h.posted;
      top = subst (λ n. n ≤ t.top) (sym publishes.now) (r.top t (ap (λ (y : Reads Turn). y.turn) (sym (reads_is p v e)) ∙ h.turn));
      empty = h.empty;
    }

    pub publishing_pass : IsPass view z x p'
    publishing_pass = steady_pass view z x p v ok e p' v' e' n' (record v.places { published = number }) (ap (λ (w : PassView). w.places) r.is) refl refl refl refl refl t'
        (keeps_front view p p' (ap (λ (y : Reads Turn). y.notes) reads_stay) n' front'.0 front'.1 ok.front)
        (λ h. let t = ok.holder (sym (ap (λ l. get_elem? l places.room) publishes.same_held) ∙ h) in (t.0, holds_on t.0 t.1))

pub may_publish : {V : Type 0} (x : Beginning) (p : Pass V) (v : PassView) (e : p.badge.views ≡ v ∷ []) (number : ℕ) (t : TurnNote) → IsHolder x p t → ((i : ℕ) → i < x.seats → number ≤ slice_index t.posted i) → MayPublish x.seats number v.beside
may_publish x p v e number t h all = record { turn = t; is = ap (λ (y : Reads Turn). y.turn) (sym (reads_is p v e)) ∙ h.turn; posted = all }

-- ---- a view is posted

module _ {V : Type 0} (view : V → ViewState) (z : TableId) (x : Beginning) (p : Pass V) (v : PassView) (ok : IsPass view z x p) (e : p.badge.views ≡ v ∷ [])
    (p' : Pass V) (v' : PassView) (e' : p'.badge.views ≡ v' ∷ []) (t' : p'.badge.table_id ≡ z) (n' : p'.number ≡ p.number) (seat : ℕ) (low : 1 ≤ seat) (high : seat ≤ x.seats)
    (t : TurnNote) (h : IsHolder x p t) (new old : ViewState) (may : MayPost x seat t p new) (r : Posted t (seat - 1) new old v v')
    (front' : (p'.front ≡ p.front) × (p'.buffer ≡ p.buffer)) (backs' : p'.backs ≡ set p.backs (seat - 1) old.buffer) where
  abbrev after : TurnNote
  after = posting t (seat - 1) new.buffer new old

  same_known : known p' ≡ known p
  same_known = known_is p' v' e' ∙ (r.places ∙ sym (known_is p v e))

  reads_after : reads p' ≡ record (reads p) { turn = Some after }
  reads_after = reads_is p' v' e' ∙ (r.beside ∙ ap (λ (y : Reads Turn). record y { turn = Some after }) (sym (reads_is p v e)))

  within : seat - 1 < x.seats
  within = omega (arith, low, high)

  one_back : (i : ℕ) → (i ≡ seat - 1) ⊎ (i ≢ seat - 1)
  one_back i = decide i (seat - 1)

  posted_after : (i : ℕ) → i < x.seats → slice_index after.posted i ≤ new.upto
  posted_after i lt = ⊎_elim
      (λ (is : i ≡ seat - 1). subst (λ n. n ≤ new.upto) (sym (ap (slice_index after.posted) is ∙ get_or-set_same t.posted (seat - 1) new.upto 0 (let long = h.long.1 in let w = within in omega arith))) (le_refl new.upto))
      (λ ne. subst (λ n. n ≤ new.upto) (sym (get_or-set_other t.posted (seat - 1) i new.upto 0 ne)) (le_trans (h.posted i lt) may.later))
      (one_back i)

  empty_here : (slice_index after.backs (seat - 1) < 3) × (slice_get after.board (3 * (seat - 1) + slice_index after.backs (seat - 1)) ≡ Some None)
  empty_here =
      let here : slice_index after.backs (seat - 1) ≡ old.buffer = get_or-set_same t.backs (seat - 1) old.buffer 0 (let long = h.long.0 in let w = within in omega arith) in
      let few = r.place.1 in
      let w = within in
      let long = length-set t.board (3 * (seat - 1) + new.buffer) (Some new.eye) ∙ h.long.2 in (
        subst (λ n. n < 3) (sym here) few,
        ap (λ n. slice_get after.board (3 * (seat - 1) + n)) here ∙ get_set_here (set t.board (3 * (seat - 1) + new.buffer) (Some new.eye)) (3 * (seat - 1) + old.buffer) None (omega (arith, few, w, long)),
      )

  empty_else : (i : ℕ) → i ≢ seat - 1 → i < x.seats → (slice_index after.backs i < 3) × (slice_get after.board (3 * i + slice_index after.backs i) ≡ Some None)
  empty_else i ne lt =
      let there : slice_index after.backs i ≡ slice_index t.backs i = get_or-set_other t.backs (seat - 1) i old.buffer 0 ne in
      let had = h.empty i lt in
      let few = had.0 in
      let o = r.place.1 in
      let n = may.within in (
        subst (λ n. n < 3) (sym there) few,
        ap (λ n. slice_get after.board (3 * i + n)) there
            ∙ (get_set_else (set t.board (3 * (seat - 1) + new.buffer) (Some new.eye)) (3 * (seat - 1) + old.buffer) (3 * i + slice_index t.backs i) None (λ is. ne (omega (arith, is, few, o)))
            ∙ (get_set_else t.board (3 * (seat - 1) + new.buffer) (3 * i + slice_index t.backs i) (Some new.eye) (λ is. ne (omega (arith, is, few, n))) ∙ had.1)),
      )

  pub holds_after : IsHolder x p' after
  holds_after = record {
    turn = ap (λ (y : Reads Turn). y.turn) reads_after;
    backs = backs' ∙ ap (λ l. set l (seat - 1) old.buffer) h.backs;
    still = h.still;
    long = (
      subst (λ n. x.seats ≤ n) (sym (length-set t.backs (seat - 1) old.buffer)) h.long.0,
      subst (λ n. x.seats ≤ n) (sym (length-set t.posted (seat - 1) new.upto)) h.long.1,
      length-set (set t.board (3 * (seat - 1) + new.buffer) (Some new.eye)) (3 * (seat - 1) + old.buffer) None ∙ (length-set t.board (3 * (seat - 1) + new.buffer) (Some new.eye) ∙ h.long.2),
    );
    posted = posted_after;
    top = subst (λ (u : Known Beginning Turn). u.published ≤ new.upto) (sym same_known) (le_trans h.top may.later);
    empty = λ i lt. ⊎_elim
        (λ (is : i ≡ seat - 1). subst (λ j. (slice_index after.backs j < 3) × (slice_get after.board (3 * j + slice_index after.backs j) ≡ Some None)) (sym is) empty_here)
        (λ ne. empty_else i ne lt)
        (one_back i);
  }

  pub posts : Posts x seat t new old p p'
  posts = record {
    places = keeps_known p p' (known p) same_known refl refl refl refl;
    found = ap (λ (u : Known Beginning Turn). u.found) same_known;
    front = front';
    notes = ap (λ (y : Reads Turn). y.notes) reads_after;
    is_turn = holds_after;
    old_seat = let s = r.place.0 in omega (arith, s, low);
    on_board = r.on_board;
    within = r.place.1;
    apart = r.apart;
  }

  pub posting_pass : IsPass view z x p'
  posting_pass = steady_pass view z x p v ok e p' v' e' n' v.places r.places refl refl refl refl refl t'
      (keeps_front view p p' (ap (λ (y : Reads Turn). y.notes) reads_after) n' front'.0 front'.1 ok.front)
      (λ _. (after, holds_after))

pub as_posted : (t : TurnNote) (i : ℕ) (new old told : ViewState) (v v' : PassView) → old ≡ told → Posted t i new told v v' → Posted t i new old v v'
as_posted t i new old told v v' same r = subst (λ (o : ViewState). Posted t i new o v v') (sym same) r

pub may_too : {V : Type 0} (x : Beginning) (seat : ℕ) (p : Pass V) (t u : TurnNote) (new : ViewState) → IsHolder x p t → IsHolder x p u → MayPost x seat t p new → MayPost x seat u p new
may_too x seat p t u new h g may = subst (λ (w : TurnNote). MayPost x seat w p new) (one_turn x p t u h g) may

-- How a pass goes on with the view that a step gives.
use Rattle.std.proofs.Common.{◌≡◌, ◌≢◌, ℕ, ◌<◌, ◌≤◌, true, false, List, [], ◌∷◌, ◌++◌, length, set, Some, None, refl, sym, ap, ◌∙◌, subst, inl, arith, append-nil, length-set}
use mathlib.Core.Option.{some}
use lib.ListN.{get_elem?}
use Rattle.atomic_table.specs.Seated.{TableId}
use Rattle.atomic_table.proofs.Lists.{set_else}
use Rattle.fine_model.specs.declared.law.ViewState.{ViewState}
use Rattle.fine_places.specs.declared.model.Placed.{Placed}
use Rattle.fine_places.specs.declared.model.Known.{Known}
use Rattle.fine_places.specs.History as places
use Rattle.fine_places.specs.History.{most_seats, touching, by_seat, Owns, Owned}
use Rattle.fine_places.specs.Places.{share, finding, Holds}
use Rattle.fine_places.specs.Telling.{at_room, Sees, TookIt, Finds, FoundHeld, IsSized}
use Rattle.fine_places.proofs.Lists.{at_room_elim, some_same, whole}
use Rattle.fine_boxes.specs.declared.model.TurnNote.{TurnNote}
use Rattle.fine_boxes.specs.declared.model.Reads.{Reads}
use Rattle.fine_hall.specs.declared.turn.Turn.{Turn}
use Rattle.fine_hall.specs.declared.law.Beginning.{Beginning}
use Rattle.fine_hall.specs.declared.pass.Pass.{Pass}
use Rattle.fine_hall.specs.Turns.{commits, touches_bucket}
use Rattle.fine_hall.specs.Laws.{AreTurns}
use Rattle.fine_hall.specs.Passes.{PassView, first_known, first_reads, first_mine, known, reads, turns, own_turns, published, found_held, HasPlace, LacksPlace, HasFront, IsHolder, IsPass}
use Rattle.fine_hall.specs.Halls.{SeesMore, KeepsPlaces, KeepsTurns, Takes, FindsHeld}
use Rattle.fine_hall.proofs.Bucket.{commits_touching}
use Rattle.fine_hall.proofs.Turning.{none_own}

-- ---- what a pass has of its view

module _ {V : Type 0} where
  pub known_is : (p : Pass V) (v : PassView) → p.badge.views ≡ v ∷ [] → known p ≡ v.places
  unfolding known
  known_is p v e = ap first_known e

  pub reads_is : (p : Pass V) (v : PassView) → p.badge.views ≡ v ∷ [] → reads p ≡ v.beside
  unfolding reads
  reads_is p v e = ap first_reads e

  pub one_view : (p : Pass V) (v : PassView) → p.badge.views ≡ v ∷ [] → p.badge.views ≡ record { places = known p; beside = reads p } ∷ []
  one_view p v e = e ∙ (λ i. record { places = sym (known_is p v e) i; beside = sym (reads_is p v e) i } ∷ [])

  pub lacks : (p : Pass V) (v : PassView) (k : ℕ) → p.badge.views ≡ v ∷ [] → LacksPlace p k → get_elem? v.places.held k ≡ some false
  lacks p v k e l = ap (λ (u : Known Beginning Turn). get_elem? u.held k) (sym (known_is p v e)) ∙ l

  pub has : (p : Pass V) (v : PassView) (k : ℕ) → p.badge.views ≡ v ∷ [] → HasPlace p k → Holds v.places k
  has p v k e h = subst (λ (u : Known Beginning Turn). Holds u k) (known_is p v e) h

  -- ---- what stays of a pass

  pub keeps_turns : (p p' : Pass V) (u : Known Beginning Turn) → u.seen ≡ turns p → first_mine u.shares ≡ own_turns p → u.found ≡ found_held p → known p' ≡ u → reads p' ≡ reads p
      → (p'.front ≡ p.front) × (p'.buffer ≡ p.buffer) × (p'.backs ≡ p.backs) → KeepsTurns p p'
  keeps_turns p p' u seen own found now same_reads front' = record {
    same_turns = ap (λ (w : Known Beginning Turn). w.seen) now ∙ seen;
    same_own = ap (λ (w : Known Beginning Turn). first_mine w.shares) now ∙ own;
    found = ap (λ (w : Known Beginning Turn). w.found) now ∙ found;
    views = record { reads = same_reads; front = (front'.0, front'.1); backs = front'.2 };
  }

  pub keeps_front : (view : V → ViewState) (p p' : Pass V) → (reads p').notes ≡ (reads p).notes → p'.number ≡ p.number → p'.front ≡ p.front → p'.buffer ≡ p.buffer → HasFront view p → HasFront view p'
  keeps_front view p p' notes number front buffer f = record {
    note = f.note;
    one = notes ∙ f.one;
    seat = f.seat ∙ sym number;
    still = f.still;
    there = f.there;
    is_there = front ∙ f.is_there;
    front = f.front;
    no_lower = f.no_lower;
    place = (f.place.0 ∙ sym number, f.place.1 ∙ sym buffer);
  }

  pub keeps_holder : (x : Beginning) (p p' : Pass V) (t : TurnNote) → (reads p').turn ≡ (reads p).turn → p'.backs ≡ p.backs → published p' ≡ published p → IsHolder x p t → IsHolder x p' t
  keeps_holder x p p' t turn backs number h = record {
    turn = turn ∙ h.turn;
    backs = backs ∙ h.backs;
    still = h.still;
    long = h.long;
    posted = h.posted;
    top = subst (λ n. n ≤ t.top) (sym number) h.top;
    empty = h.empty;
  }

  -- a pass has one turn
  pub one_turn : (x : Beginning) (p : Pass V) (t u : TurnNote) → IsHolder x p t → IsHolder x p u → t ≡ u
  one_turn x p t u h g = some_same t u (sym h.turn ∙ g.turn)

module _ {V : Type 0} (view : V → ViewState) (z : TableId) (x : Beginning) (p : Pass V) (v : PassView) (ok : IsPass view z x p) (e : p.badge.views ≡ v ∷ []) where
  was : v.places ≡ known p
  was = sym (known_is p v e)

  pub owns : Owns v.places.shares p.number (own_turns p)
  owns = subst (λ (u : Known Beginning Turn). Owns u.shares p.number (own_turns p)) (known_is p v e) (subst (λ ss. Owns ss p.number (own_turns p)) (sym ok.alone) (inl (refl, refl)))

  pub own : Owned v.places.shares p.number
  own = (own_turns p, owns)

  pub about : v.places.about ≡ Some x
  about = ap (λ (u : Known Beginning Turn). u.about) was ∙ ok.about

  pub still : v.places.moving ≡ None
  still = ap (λ (u : Known Beginning Turn). u.moving) was ∙ ok.still

  pub alone : v.places.shares ≡ share p.number (own_turns p) ∷ []
  alone = ap (λ (u : Known Beginning Turn). u.shares) was ∙ ok.alone

  pub seen_is : v.places.seen ≡ turns p
  seen_is = ap (λ (u : Known Beginning Turn). u.seen) was

  pub published_is : v.places.published ≡ published p
  published_is = ap (λ (u : Known Beginning Turn). u.published) was

  module _ (p' : Pass V) (v' : PassView) (e' : p'.badge.views ≡ v' ∷ []) (n' : p'.number ≡ p.number) where
    now : known p' ≡ v'.places
    now = known_is p' v' e'

    -- it is a pass again, with these turns of its own
    pub next_pass : (ms : List (Placed Turn)) → p'.badge.table_id ≡ z → v'.places.about ≡ v.places.about → v'.places.moving ≡ None → v'.places.shares ≡ share p.number ms ∷ [] → length v'.places.held ≡ length v.places.held
        → AreTurns x v'.places.seen → ms ≡ by_seat p.number v'.places.seen → HasFront view p' → (HasPlace p' places.room → (t : TurnNote) × IsHolder x p' t)
        → IsPass view z x p'
    next_pass ms table same idle shares wide lawful mine front holder =
        let own' : own_turns p' ≡ ms = ap (λ (u : Known Beginning Turn). first_mine u.shares) now ∙ ap first_mine shares in
        let seen' : v'.places.seen ≡ turns p' = ap (λ (u : Known Beginning Turn). u.seen) (sym now) in record {
          table = table;
          one = one_view p' v' e';
          about = ap (λ (u : Known Beginning Turn). u.about) now ∙ (same ∙ about);
          still = ap (λ (u : Known Beginning Turn). u.moving) now ∙ idle;
          alone = ap (λ (u : Known Beginning Turn). u.shares) now ∙ (shares ∙ (λ i. share (sym n' i) (sym own' i) ∷ []));
          wide = ap (λ (u : Known Beginning Turn). length u.held) now ∙ (wide ∙ (ap (λ (u : Known Beginning Turn). length u.held) was ∙ ok.wide));
          few = ok.few;
          boxes = ok.boxes;
          words = ok.words;
          number = subst (λ n. (0 < n) × (n ≤ x.seats)) (sym n') ok.number;
          lawful = subst (AreTurns x) seen' lawful;
          own = own' ∙ (mine ∙ (λ i. by_seat (sym n' i) (seen' i)));
          front = front;
          holder = holder;
        }

    -- and so it is with the turns that it had, where it knows what it knew, but for what it found held and the published number
    pub steady_pass : (k : Known Beginning Turn) → v'.places ≡ k → k.about ≡ v.places.about → k.moving ≡ v.places.moving → k.shares ≡ v.places.shares → k.held ≡ v.places.held → k.seen ≡ v.places.seen
        → p'.badge.table_id ≡ z → HasFront view p' → (HasPlace p' places.room → (t : TurnNote) × IsHolder x p' t) → IsPass view z x p'
    steady_pass k is same idle shares held seen table front holder =
        let log : v'.places.seen ≡ turns p = ap (λ (u : Known Beginning Turn). u.seen) is ∙ (seen ∙ seen_is) in
        next_pass (own_turns p) table (ap (λ (u : Known Beginning Turn). u.about) is ∙ same) (ap (λ (u : Known Beginning Turn). u.moving) is ∙ (idle ∙ still)) (ap (λ (u : Known Beginning Turn). u.shares) is ∙ (shares ∙ alone))
        (ap (λ (u : Known Beginning Turn). length u.held) is ∙ ap length held) (subst (AreTurns x) (sym log) ok.lawful) (ok.own ∙ ap (by_seat p.number) (sym log)) front holder

    -- ---- a step that sees the history

    module _ (log : List (Placed Turn)) (q : ℕ) (sees : Sees AreTurns touches_bucket x q v.places log) (later : v.places.published ≤ q) (seen' : v'.places.seen ≡ log) (published' : v'.places.published ≡ q) (shares' : v'.places.shares ≡ v.places.shares) where
      now_turns : turns p' ≡ log
      now_turns = ap (λ (u : Known Beginning Turn). u.seen) now ∙ seen'

      now_own : own_turns p' ≡ own_turns p
      now_own = ap (λ (u : Known Beginning Turn). first_mine u.shares) now ∙ (ap first_mine shares' ∙ ap (λ (u : Known Beginning Turn). first_mine u.shares) was)

      by_number : own_turns p ≡ by_seat p.number log
      by_number = sees.mine p.number (own_turns p) owns

      longer : log ≡ turns p ++ sees.longer.0
      longer = sees.longer.1 ∙ ap (λ l. l ++ sees.longer.0) seen_is

      pub same_number : HasPlace p places.room → published p' ≡ published p
      same_number h = ap (λ (u : Known Beginning Turn). u.published) now ∙ (published' ∙ (sym (sees.holder (has p v places.room e h)) ∙ published_is))

      pub sees_more : SeesMore p p'
      sees_more = record {
        longer = (sees.longer.0, now_turns ∙ longer, none_own p.number (turns p) sees.longer.0 log (own_turns p) longer ok.own by_number);
        same_own = now_own;
        kept = λ j near h. sym (commits_touching j near (turns p)) ∙ (ap (λ l. commits (touching touches_bucket j l)) (sym seen_is)
            ∙ (ap commits (sees.holds j (has p v j e h)) ∙ (ap (λ l. commits (touching touches_bucket j l)) (sym now_turns) ∙ commits_touching j near (turns p'))));
        whole = λ h. now_turns ∙ (sym (whole touches_bucket log) ∙ (sym (sees.holds places.room (has p v places.room e h)) ∙ (whole touches_bucket v.places.seen ∙ seen_is)));
        no_earlier = subst (λ n. n ≤ published p') published_is (subst (λ n. v.places.published ≤ n) (sym (ap (λ (u : Known Beginning Turn). u.published) now ∙ published')) later);
      }

      -- and it is a pass again
      pub seeing_pass : p'.badge.table_id ≡ z → v'.places.about ≡ v.places.about → v'.places.moving ≡ None → length v'.places.held ≡ length v.places.held → HasFront view p' → (HasPlace p' places.room → (t : TurnNote) × IsHolder x p' t)
          → IsPass view z x p'
      seeing_pass table same idle wide front holder =
          next_pass (own_turns p) table same idle (shares' ∙ alone) wide (subst (AreTurns x) (sym seen') sees.lawful) (by_number ∙ ap (by_seat p.number) (sym seen')) front holder

-- ---- taking

pub at_bucket : {A : Type 0} (k : ℕ) (a b : A) → k ≢ places.room → at_room k a b ≡ b
at_bucket k a b ne = at_room_elim k a b (λ z. z ≡ b) (λ is. absurd (ne is)) (λ _. refl)

pub at_the_room : {A : Type 0} (k : ℕ) (a b : A) → k ≡ places.room → at_room k a b ≡ a
at_the_room k a b is = at_room_elim k a b (λ z. z ≡ a) (λ _. refl) (λ ne. absurd (ne is))

module _ {T V : Type 0} (stands : Beginning → ℕ → ℕ → T → List (Placed Turn) → Type 0) (taken : Reads Turn → T → Reads Turn) (learns : Beginning → Reads Turn → T → Type 0) (view : V → ViewState) (z : TableId) (x : Beginning) (p p' : Pass V) (k : ℕ) (thing : T) (v v' : PassView)
    (ok : IsPass view z x p) (e : p.badge.views ≡ v ∷ []) (e' : p'.badge.views ≡ v' ∷ []) (t' : p'.badge.table_id ≡ z) (n' : p'.number ≡ p.number) (front' : (p'.front ≡ p.front) × (p'.buffer ≡ p.buffer)) (took : TookIt stands AreTurns touches_bucket taken learns k v thing v') where
  abbrev pub found : Finds stands AreTurns touches_bucket learns x k took.published thing v took.log
  found = took.found x (about view z x p v ok e)

  seen' : v'.places.seen ≡ took.log
  seen' = ap (λ (u : Known Beginning Turn). u.seen) took.places

  published' : v'.places.published ≡ took.published
  published' = ap (λ (u : Known Beginning Turn). u.published) took.places

  shares' : v'.places.shares ≡ v.places.shares
  shares' = ap (λ (u : Known Beginning Turn). u.shares) took.places

  pub sees_taken : SeesMore p p'
  sees_taken = sees_more view z x p v ok e p' v' e' n' took.log took.published found.sees took.no_earlier seen' published' shares'

  pub same_published : HasPlace p places.room → published p' ≡ published p
  same_published = same_number view z x p v ok e p' v' e' n' took.log took.published found.sees took.no_earlier seen' published' shares'

  held' : (known p').held ≡ set (known p).held k true
  held' = ap (λ (u : Known Beginning Turn). u.held) (known_is p' v' e' ∙ took.places) ∙ ap (λ (u : Known Beginning Turn). set u.held k true) (sym (known_is p v e))

  pub found' : found_held p' ≡ found_held p
  found' = ap (λ (u : Known Beginning Turn). u.found) (known_is p' v' e' ∙ took.places) ∙ ap (λ (u : Known Beginning Turn). u.found) (sym (known_is p v e))

  pub reads' : reads p' ≡ at_room k (taken (reads p) thing) (reads p)
  reads' = reads_is p' v' e' ∙ (took.beside ∙ ap (λ y. at_room k (taken y thing) y) (sym (reads_is p v e)))

  pub taking_pass : HasFront view p' → (HasPlace p' places.room → (t : TurnNote) × IsHolder x p' t) → IsPass view z x p'
  taking_pass = seeing_pass view z x p v ok e p' v' e' n' took.log took.published found.sees took.no_earlier seen' published' shares' t'
      (ap (λ (u : Known Beginning Turn). u.about) took.places) (ap (λ (u : Known Beginning Turn). u.moving) took.places)
      (ap (λ (u : Known Beginning Turn). length u.held) took.places ∙ length-set v.places.held k true)

  pub taken_keeps_front : (reads p').notes ≡ (reads p).notes → HasFront view p'
  taken_keeps_front notes = keeps_front view p p' notes n' front'.0 front'.1 ok.front

  pub takes_place : (reads p').notes ≡ (reads p).notes → (k < places.room → ((reads p').turn ≡ (reads p).turn) × (p'.backs ≡ p.backs)) → Takes k p p'
  takes_place notes turn = record {
    held = held';
    sees = sees_taken;
    tried = ([], found' ∙ sym (append-nil (found_held p)), λ _. refl);
    front = front';
    notes = notes;
    turn = turn;
  }

  pub stood : stands x k (published p') thing (touching touches_bucket k (turns p'))
  stood = subst (λ l. stands x k (published p') thing (touching touches_bucket k l)) (sym (ap (λ (u : Known Beginning Turn). u.seen) (known_is p' v' e') ∙ seen'))
      (subst (λ q. stands x k q thing (touching touches_bucket k took.log)) (sym (ap (λ (u : Known Beginning Turn). u.published) (known_is p' v' e') ∙ published')) found.stood)

  -- a bucket was taken
  module _ (near : k < places.room) (backs' : p'.backs ≡ p.backs) where
    same_reads : reads p' ≡ reads p
    same_reads = reads' ∙ at_bucket k (taken (reads p) thing) (reads p) (λ is. omega arith)

    same_room : HasPlace p' places.room → HasPlace p places.room
    same_room h = sym (ap (λ l. get_elem? l places.room) held' ∙ set_else (known p).held k places.room true (λ is. omega arith)) ∙ h

    pub bucket_pass : IsPass view z x p'
    bucket_pass = taking_pass (taken_keeps_front (ap (λ (y : Reads Turn). y.notes) same_reads))
        (λ h. let t = ok.holder (same_room h) in (t.0, keeps_holder x p p' t.0 (ap (λ (y : Reads Turn). y.turn) same_reads) backs' (same_published (same_room h)) t.1))

    pub takes_bucket : Takes k p p'
    takes_bucket = takes_place (ap (λ (y : Reads Turn). y.notes) same_reads) (λ _. (ap (λ (y : Reads Turn). y.turn) same_reads, backs'))

-- what was taken stood for some turns
pub stood_once : {T V : Type 0} (stands : Beginning → ℕ → ℕ → T → List (Placed Turn) → Type 0) (taken : Reads Turn → T → Reads Turn) (learns : Beginning → Reads Turn → T → Type 0) (view : V → ViewState) (z : TableId) (x : Beginning) (p : Pass V) (k : ℕ) (thing : T) (v v' : PassView)
    → IsPass view z x p → p.badge.views ≡ v ∷ [] → TookIt stands AreTurns touches_bucket taken learns k v thing v' → (q : ℕ) × (all : List (Placed Turn)) × stands x k q thing all
stood_once stands taken learns view z x p k thing v v' ok e took = (took.published, touching touches_bucket k took.log, (took.found x (about view z x p v ok e)).stood)

-- the room's place, as the program writes it
pub room_256 : 256 ≡ places.room
unfolding places.room
room_256 = refl

pub room_within : 256 ≤ places.room
unfolding places.room
room_within = omega arith

pub room_word : (z : TableId) → IsSized z → 256 < z.words
unfolding places.room
room_word z sized = let deep = sized.0 in omega (arith, deep)

pub room_is : {V : Type 0} (p : Pass V) → LacksPlace p places.room → LacksPlace p 256
room_is p l = subst (LacksPlace p) (sym room_256) l

pub has_room : {V : Type 0} (p : Pass V) → HasPlace p places.room → HasPlace p 256
has_room p h = subst (HasPlace p) (sym room_256) h

-- what a pass knows of the places stays, by what it then knows
pub keeps_known : {V : Type 0} (p p' : Pass V) (k : Known Beginning Turn) → known p' ≡ k → k.held ≡ (known p).held → k.seen ≡ (known p).seen → k.shares ≡ (known p).shares → k.published ≡ (known p).published → KeepsPlaces p p'
keeps_known p p' k is held seen shares published = record {
  same_held = ap (λ (u : Known Beginning Turn). u.held) is ∙ held;
  same_turns = ap (λ (u : Known Beginning Turn). u.seen) is ∙ seen;
  same_own = ap (λ (u : Known Beginning Turn). first_mine u.shares) is ∙ ap first_mine shares;
  same_published = ap (λ (u : Known Beginning Turn). u.published) is ∙ published;
}

-- ---- a conflict

pub fits_owner : (seats : Beginning → ℕ) (k owner : ℕ) (v v' : PassView) → FoundHeld seats k v owner v' → owner < 4294967296
unfolding most_seats
fits_owner seats k owner v v' f = let few = f.few in omega arith

module _ {V : Type 0} (view : V → ViewState) (z : TableId) (x : Beginning) (p p' : Pass V) (k owner : ℕ) (v v' : PassView) (ok : IsPass view z x p) (e : p.badge.views ≡ v ∷ []) (e' : p'.badge.views ≡ v' ∷ []) (t' : p'.badge.table_id ≡ z) (n' : p'.number ≡ p.number)
    (front' : (p'.front ≡ p.front) × (p'.buffer ≡ p.buffer) × (p'.backs ≡ p.backs)) (f : FoundHeld (λ (y : Beginning). y.seats) k v owner v') where
  tried : known p' ≡ finding (known p) k owner
  tried = known_is p' v' e' ∙ (f.places ∙ ap (λ (u : Known Beginning Turn). finding u k owner) (sym (known_is p v e)))

  reads_stay : reads p' ≡ reads p
  reads_stay = reads_is p' v' e' ∙ (f.beside ∙ sym (reads_is p v e))

  keeps_places : KeepsPlaces p p'
  keeps_places = keeps_known p p' (finding (known p) k owner) tried refl refl refl refl

  kept_pass : IsPass view z x p'
  kept_pass = steady_pass view z x p v ok e p' v' e' n' (finding v.places k owner) f.places refl refl refl refl refl t'
      (keeps_front view p p' (ap (λ (y : Reads Turn). y.notes) reads_stay) n' front'.0 front'.1 ok.front)
      (λ h. let t = ok.holder (sym (ap (λ l. get_elem? l places.room) keeps_places.same_held) ∙ h) in (t.0, keeps_holder x p p' t.0 (ap (λ (y : Reads Turn). y.turn) reads_stay) front'.2 keeps_places.same_published t.1))

  pub still_pass : IsPass view z x p' × (p'.number ≡ p.number)
  still_pass = (kept_pass, n')

  pub finds : FindsHeld x k owner p p'
  finds = record {
    tried = ap (λ (u : Known Beginning Turn). u.found) tried;
    somebody = f.somebody;
    another = λ is. f.another (subst (Owned v.places.shares) (sym is) (own view z x p v ok e));
    seat = f.seat x (about view z x p v ok e);
    places = keeps_places;
    views = record { reads = reads_stay; front = (front'.0, front'.1); backs = front'.2 };
  }

-- A turn of the room in which a transaction is committed, or refused.
use Rattle.std.proofs.Common.{◌≡◌, ◌≢◌, ⊎_elim, inl, ℕ, zero, suc, ◌+◌, ◌<◌, ◌≤◌, ◌==◌, ◌||◌, Bool, true, false, true≢false, List, [], ◌∷◌, ◌++◌, length, set, All, Option, Some, None, refl, sym, ap, ◌∙◌, subst, arith, append-nil, ne_eqb}
use Rattle.std.specs.List.{AllByRecursion, list_any}
use Rattle.std.proofs.lemmas.List.{length-append}
use mathlib.Core.Option.{some}
use lib.ListN.{get_elem?}
use Rattle.fine_places.specs.History as places
use Rattle.fine_places.proofs.Lists.{decide, set_at}
use Rattle.fine_model.specs.declared.Entry.{Entry}
use Rattle.fine_model.specs.declared.Row.{Row}
use Rattle.fine_model.specs.declared.law.RoomState.{RoomState}
use Rattle.fine_model.specs.Becomes.{Becomes}
use Rattle.fine_model.specs.Buckets.{Began}
use Rattle.fine_model.specs.History.{Commit, IsLegal}
use Rattle.fine_model.specs.Jobs.{KeepsJob}
use Rattle.fine_model.specs.Merge.{cost}
use Rattle.fine_model.proofs.Histories.Epochs.{epochs_below}
use Rattle.fine_model.proofs.Histories.Goings.{job_on}
use Rattle.fine_model.proofs.Histories.HistoryLaws.{IsLegal-push}
use Rattle.fine_model.proofs.Histories.Stated.{shown_small}
use Rattle.node_cache.specs.Cache.{Cache, evicted, settled}
use Rattle.txn_draft.specs.Drafts.{DraftValue, FitsDraft, blank, entry_of, is_here}
use Rattle.txn_draft.proofs.Lasting.{untouched_law}
use Rattle.txn_draft.proofs.Lawful.{next_law}
use Rattle.partition_hold.specs.Views.{state_of}
use Rattle.epoch_room.specs.Fitting.{fit_of}
use Rattle.epoch_room.specs.Meaning.{Stands, StandsForMore, origin_of}
use Rattle.epoch_room.specs.Steps.{appended}
use Rattle.epoch_room.specs.Value.{RoomValue}
use Rattle.epoch_room.specs.declared.answers.Fit.TheVariants as fit
use Rattle.epoch_room.specs.declared.answers.Stamp.{Stamp}
use Rattle.fine_hall.specs.declared.law.Beginning.{Beginning}
use Rattle.fine_hall.specs.Turns.{added, commits, in_bucket, is_call_in, is_in, room_after}
use Rattle.fine_hall.specs.Laws.{AreTurns, CountsEpochs, IsRoomFor}
use Rattle.fine_hall.specs.Passes.{first_given, known, turns, seen, published, last_room, HasPlace, LacksPlace, HoldsNothing}
use Rattle.fine_hall.specs.Halls.{GivesRoom, MayGiveRoom, Reads, SeesMore, TakesRoom, turn_of}
use Rattle.fine_hall.proofs.Counting.{counts_more}
use Rattle.fine_hall.proofs.Seeing.{sees_on}
use Rattle.fine_hall.proofs.Troubles.{sees_law, troubles_law}
use Rattle.fine_hall.proofs.Turning.{commits_one}
use Rattle.key_locks.specs.Locks.{LacksLock, HasLock, AreLocksOf, Releases}
use Rattle.key_locks.proofs.Held.{far, held_beside, lacks_place}
use Rattle.txn_engine.specs.declared.txn.CommitFault.{CommitFault}
use Rattle.txn_engine.specs.declared.txn.Committed.{Committed}
use Rattle.txn_engine.specs.declared.txn.Txn.{Txn}
use Rattle.txn_engine.specs.Faults.{refusal_of}
use Rattle.hall_rooms.specs.Rooms.{RoomPass, room_log, room_state}
use Rattle.hall_rooms.specs.Turning.{MeetsNone, TakesTurn}
use Rattle.txn_engine.specs.Txns.{CommitsCounted, GivesBack, HoldsNone, IsAnsweredOn, IsOpenOn, IsOpenTxn, IsRefused}
use Rattle.txn_engine.proofs.Held.{same_calls}
use Rattle.txn_engine.proofs.Open.{open_seen}
use Rattle.txn_engine.proofs.Releasing.{StandAt, gives_settled, locks_read}

-- ---- what a draft commits

or_false : (a b : Bool) → a ≡ false → b ≡ false → a || b ≡ false
or_false true b e f = absurd (true≢false e)
or_false false b e f = f

none_of : (k : ℕ) (rows : List Row) → AllByRecursion (λ row. row.node.bucket ≢ k) rows → list_any (λ row. row.node.bucket == k) rows ≡ false
none_of k [] all = refl
none_of k (row ∷ rows) all = or_false (row.node.bucket == k) (list_any (λ (r : Row). r.node.bucket == k) rows) (ne_eqb row.node.bucket k all.0) (none_of k rows all.1)

-- an entry of the draft is in no bucket but those of its calls
not_in : (d : DraftValue) (k : ℕ) → FitsDraft d → list_any (is_here k) d.calls ≡ false → is_in k (entry_of d) ≡ false
unfolding is_in
not_in d k fits none =
    or_false (list_any (is_call_in k) d.calls) (list_any (λ (row : Row). row.node.bucket == k) d.rows) (same_calls k d.calls ∙ none) (none_of k d.rows (untouched_law d (record { bucket = k; nodes = []; saved = [] }) fits none))

-- ---- what appending leaves as it was

module _ (old : RoomValue) (rows : List Row) where
  same_entry : (appended old rows).entry ≡ old.entry
  unfolding appended
  same_entry = refl

  same_sealed : (appended old rows).room.sealed ≡ old.room.sealed
  unfolding appended
  same_sealed = refl

  more_places : (appended old rows).room.places ≡ old.room.places + 1
  unfolding appended
  more_places = refl

  more_waiting : (appended old rows).room.waiting ≡ old.room.waiting + 1
  unfolding appended
  more_waiting = refl

  same_board : (appended old rows).room.board ≡ old.room.board
  unfolding appended
  same_board = refl

  same_faults : (appended old rows).room.faults ≡ old.room.faults
  unfolding appended
  same_faults = refl

-- a place that was taken and given back
set_back : (h : List Bool) (k : ℕ) → get_elem? h k ≡ some false → set (set h k true) k false ≡ h
set_back [] k e = refl
set_back (b ∷ h) zero e = let is : b ≡ false = cc in ap (λ y. y ∷ h) (sym is)
set_back (b ∷ h) (suc k) e = ap (λ l. b ∷ l) (set_back h k e)

-- ---- a turn

-- the published number was read, and the pass still lacks the room
pub free_read : (p p' : RoomPass) → Reads p p' → LacksPlace p places.room → LacksPlace p' places.room
free_read p p' read free = ap (λ l. get_elem? l places.room) read.same_held ∙ free

module _ (x : Beginning) (t : Txn) (p p₀ p₁ : RoomPass) (number₀ : p₀.number ≡ p.number) (number₁ : p₁.number ≡ p₀.number) (read : Reads p p₀) (before : AreTurns x (turns p)) (mid : AreTurns x (turns p₀)) (after : AreTurns x (turns p₁))
    (o : IsOpenTxn x t p) (free : LacksPlace p places.room) (r : RoomValue) (k : TakesRoom state_of x r.room p₀ p₁) (stands : IsRoomFor room_state room_log Stands x (published p₁) r (turns p₁)) where
  free_then : LacksPlace p₀ places.room
  free_then = free_read p p₀ read free

  sees : SeesMore p p₁
  sees = sees_on p p₀ p₁ number₀ (λ j low has. ap (λ l. get_elem? l j) read.same_held ∙ has) read.sees k.takes.sees

  pub locks₁ : AreLocksOf t.locks p₁
  locks₁ = held_beside t.locks p₀ p₁ true (locks_read x t p p₀ number₀ read o) k.takes.held

  pub open₁ : IsOpenOn x.log (published p₁) (seen p₁) t.draft t.locks
  open₁ = open_seen x p p₁ sees before after t.draft t.locks o.locks o.open_on

  pub held_room : HasPlace p₁ places.room
  held_room = ap (λ l. get_elem? l places.room) k.takes.held ∙ set_at (known p₀).held places.room false true free_then

  nil : seen p₁ ≡ seen p₁ ++ added None 0
  nil = sym (append-nil (seen p₁))

  -- ---- the room is given back

  module _ (entry : Option Entry) (epoch : ℕ) (room : RoomState) (p₂ : RoomPass) (number₂ : p₂.number ≡ p₁.number) (g : GivesRoom room entry epoch k.turn p₁ p₂) where
    pub seen_then : seen p₂ ≡ seen p₁ ++ added entry epoch
    seen_then = ap commits g.turns_more ∙ commits_one (turns p₁) (record { seat = p₁.number; item = turn_of entry epoch room k.turn.in_hand })

    pub the_turn : TakesTurn x r.room entry epoch room p p₂
    the_turn = record {
      one = record {
        others = sees.longer.0;
        not_own = sees.longer.2;
        kept = λ j low has. sees.kept j low has ∙ ap (λ l. in_bucket j (commits l)) sees.longer.1;
        found_is = stands.last ∙ ap (room_after x.room) sees.longer.1;
        found_job = λ one. job_on (last_room x p) (last_room x p₀) r.room ((sees_law state_of).job x p p₀ mid one read.sees) (k.same_job (number₀ ∙ one));
        returned = k.turn.in_hand;
        turns_more = g.turns_more ∙ (λ i. sees.longer.1 i ++ record { seat = (number₁ ∙ number₀) i; item = turn_of entry epoch room k.turn.in_hand } ∷ []);
        own_more = g.own_more ∙ (λ i. sees.same_own i ++ record { seat = (number₁ ∙ number₀) i; item = turn_of entry epoch room k.turn.in_hand } ∷ []);
        no_earlier = subst (λ n. published p ≤ n) (sym g.same_published) sees.no_earlier;
      };
      front = (g.front.0 ∙ (k.takes.front.0 ∙ read.views.front.0), g.front.1 ∙ (k.takes.front.1 ∙ read.views.front.1));
      given_same = ap first_given (g.notes ∙ (k.takes.notes ∙ ap (λ y. y.notes) read.views.reads));
    }

    pub meets_none : room.faults ≡ r.room.faults → MeetsNone x p p₂
    meets_none same =
        let law = troubles_law state_of x in
        let a = law.turn room entry epoch k.turn p₁ p₂ number₂ g in
        let b = (law.same p₀ p₁ number₁).takes places.room k.takes in
        let d = (law.same p p₀ number₀).reads read in
        let last = ap (λ (s : RoomState). s.faults) stands.last in
        let none = k.none_in_hand in
        omega (arith, a, b, d, last, none, same)

    pub locks_then : AreLocksOf t.locks p₂
    locks_then = held_beside t.locks p₁ p₂ false locks₁ g.held

    pub free_again : LacksPlace p₂ places.room
    free_again = ap (λ l. get_elem? l places.room) g.held ∙ set_at (known p₁).held places.room true false held_room

  -- ---- the transaction is refused

  pub open_refused : (p₂ : RoomPass) → p₂.number ≡ p₁.number → GivesRoom r.room None 0 k.turn p₁ p₂ → IsOpenTxn x t p₂
  open_refused p₂ number₂ g = record {
    locks = locks_then None 0 r.room p₂ number₂ g;
    open_on = subst (λ n. IsOpenOn x.log n (seen p₂) t.draft t.locks) (sym g.same_published) (subst (λ h. IsOpenOn x.log (published p₁) h t.draft t.locks) (nil ∙ sym (seen_then None 0 r.room p₂ number₂ g)) open₁);
  }

  pub refused : (p₂ : RoomPass) → p₂.number ≡ p₁.number → GivesRoom r.room None 0 k.turn p₁ p₂ → (cause : CommitFault) → fit_of r.room (cost t.draft.rows) ≡ refusal_of cause → IsRefused x t t p p₂ cause
  refused p₂ number₂ g cause is = record {
    room = r.room;
    turn = the_turn None 0 r.room p₂ number₂ g;
    is_cause = is;
    same = refl;
    held = g.held ∙ (ap (λ l. set l places.room false) (k.takes.held ∙ ap (λ l. set l places.room true) read.same_held) ∙ set_back (known p).held places.room free);
    meets = meets_none None 0 r.room p₂ number₂ g refl;
  }

  -- ---- it is committed

  module _ (ok : t.draft.failed ≡ false) (new : RoomValue) (is : new ≡ appended r t.draft.rows) (more : StandsForMore r new t.draft.rows) (becomes : Becomes r.room new.room) (job : KeepsJob r.room new.room) where
    abbrev epoch : ℕ
    epoch = r.room.sealed + 1

    abbrev commit : Commit
    commit = record { entry = entry_of t.draft; epoch = epoch }

    answers : IsAnsweredOn x.log (seen p₁) t.draft t.locks
    answers = open₁.answers ok

    pub epochs : All (λ (c : Commit). c.epoch ≤ epoch) (seen p₁)
    epochs = epochs_below x.room.sealed (seen p₁) r.room.sealed stands.epochs.follow stands.epochs.sealed

    legal : (e : ℕ) (first : List Row) → Began x.log e first → IsLegal first (seen p₁ ++ commit ∷ [])
    legal e first began =
        let was = after.legal e first began in
        IsLegal-push first (seen p₁) commit was (next_law first (seen p₁) t.draft epoch (shown_small x.log.region_len began.image e first began.shows) began.sound was epochs (answers.answered e first began))

    touched : (j : ℕ) → j < places.room → is_in j (entry_of t.draft) ≡ true → HasPlace p₁ j
    touched j low on = ⊎_elim
        (λ (a : LacksLock t.locks j × LacksPlace p₁ j). absurd (true≢false (sym on ∙ not_in t.draft j answers.fits (answers.here j (far j low) a.0))))
        (λ (a : ((b : Cache) × HasLock t.locks j b) × HasPlace p₁ j). a.1)
        (locks₁ j (far j low))

    at : (P : RoomState → Type 0) → P r.room → P (last_room x p₁)
    at P = subst P stands.last

    sealed_is : new.room.sealed ≡ r.room.sealed
    sealed_is = ap (λ (v : RoomValue). v.room.sealed) is ∙ same_sealed r t.draft.rows

    pub faults_are : new.room.faults ≡ r.room.faults
    faults_are = ap (λ (v : RoomValue). v.room.faults) is ∙ same_faults r t.draft.rows

    pub may_some : MayGiveRoom room_state room_log Stands x new (Some (entry_of t.draft)) epoch k.turn p₁
    may_some = record {
      log = ap (λ (v : RoomValue). origin_of v.entry) is ∙ (ap origin_of (same_entry r t.draft.rows) ∙ stands.log);
      stands = λ e first b. more first e (seen p₁) commit refl refl b.sound (legal e first b) (stands.stands e first b);
      becomes = at (λ s. Becomes s new.room) becomes;
      places = at (λ (s : RoomState). new.room.places ≡ s.places + 1) (ap (λ (v : RoomValue). v.room.places) is ∙ more_places r t.draft.rows);
      epochs = counts_more x r.room new.room (seen p₁) commit stands.epochs refl sealed_is (ap (λ (v : RoomValue). v.room.waiting) is ∙ more_waiting r t.draft.rows);
      top = let a = k.top in let b = sealed_is in omega (arith, a, b);
      board = ap (λ (v : RoomValue). v.room.board) is ∙ (same_board r t.draft.rows ∙ sym k.board);
      job = λ ne. at (λ s. KeepsJob s new.room) job;
      counted = inl (at (λ (s : RoomState). s.faults + k.turn.in_hand ≤ new.room.faults) (let n = k.none_in_hand in let f = faults_are in omega (arith, n, f)));
      commits = record { open_epoch = ap (λ n. n + 1) (sym sealed_is); legal = legal; touched = touched };
    }

    module _ (p₂ : RoomPass) (number₂ : p₂.number ≡ p₁.number) (g : GivesRoom new.room (Some (entry_of t.draft)) epoch k.turn p₁ p₂) where
      seen_now : seen p₂ ≡ seen p₁ ++ commit ∷ []
      seen_now = seen_then (Some (entry_of t.draft)) epoch new.room p₂ number₂ g

      -- the contents stand for the history with the entry
      pub stand_now : (locks : List (Option Cache)) → StandAt x (published p₁) (seen p₁ ++ commit ∷ []) locks → StandAt x (published p₂) (seen p₂) locks
      stand_now locks all = subst (λ n. StandAt x n (seen p₂) locks) (sym g.same_published) (subst (λ h. StandAt x (published p₁) h locks) (sym seen_now) all)

      pub committed : (keep : ℕ) (fits : fit_of r.room (cost t.draft.rows) ≡ fit.Fits) (t' : Txn) (p₃ : RoomPass) (locks : List (Option Cache)) (done : Committed) → p₃.number ≡ p₂.number → done.stamp ≡ record { place = r.room.places + 1; epoch = epoch }
          → t'.draft ≡ blank t.draft.lane t.draft.turn → AreLocksOf t'.locks p₃ → HoldsNone t'.locks → Releases locks t'.locks p₂ p₃ → (upto : ℕ) → upto ≡ published p₀ → GivesBack (λ b. evicted upto keep (settled done.stamp.epoch b)) t t'
          → done.entry ≡ entry_of t.draft → done.waiting ≡ new.room.waiting → CommitsCounted x keep t t' p p₃ done
      committed keep fits t' p₃ locks done number₃ stamped draft are none q upto is_upto gives entry waits =
          let turn = the_turn (Some (entry_of t.draft)) epoch new.room p₂ number₂ g in
          let stamp = done.stamp in
          record {
            commits = record {
              found = r.room;
              room = new.room;
              turn = subst (λ (s : Stamp). TakesTurn x r.room (Some (entry_of t.draft)) s.epoch new.room p p₃) (sym stamped) (record {
                one = record {
                  others = turn.others;
                  not_own = turn.not_own;
                  kept = turn.kept;
                  found_is = turn.found_is;
                  no_earlier = subst (λ n. published p ≤ n) (sym q.same_published) turn.no_earlier;
                  found_job = turn.found_job;
                  returned = turn.returned;
                  turns_more = q.same_turns ∙ turn.turns_more;
                  own_more = q.same_own ∙ turn.own_more;
                };
                front = (q.views.front.0 ∙ turn.front.0, q.views.front.1 ∙ turn.front.1);
                given_same = ap first_given (ap (λ y. y.notes) q.views.reads) ∙ turn.given_same;
              });
              fits = fits;
              appends = (r, refl, ap (λ (v : RoomValue). v.room) is);
              job = job;
              epoch = ap (λ (s : Stamp). s.epoch) stamped;
              place = ap (λ (s : Stamp). s.place) stamped ∙ (ap (λ n. n + 1) stands.places ∙ sym (ap (λ l. length (commits l)) q.same_turns ∙ (ap length seen_now ∙ length-append (seen p₁) (commit ∷ []))));
              blank_now = (draft, none);
              nothing = nothing;
              evicts = gives_settled keep stamp.epoch upto t t' p p₀ p₁ p₂ p₃ read is_upto k.takes.sees.no_earlier g.same_published q.same_published gives;
              meets = ((troubles_law state_of x).same p₂ p₃ number₃).turns_stay q.same_turns q.views ∙ meets_none (Some (entry_of t.draft)) epoch new.room p₂ number₂ g faults_are;
            };
            entry = entry;
            counts = subst (CountsEpochs x new.room) (sym (ap commits q.same_turns ∙ seen_now)) may_some.epochs;
            waits = waits;
          }
        where
          nothing : HoldsNothing p₃
          nothing j low = ⊎_elim
              (λ (same : j ≡ places.room). subst (LacksPlace p₃) (sym same) (q.room ∙ free_again (Some (entry_of t.draft)) epoch new.room p₂ number₂ g))
              (λ (other : j ≢ places.room). let near = far j (grind (arith, low, other)) in lacks_place t'.locks p₃ j near are (none j near))
              (decide j places.room)

-- A transaction that came to nothing so far: after turns of others, after a refusal of the room, and after a seal.
use Rattle.std.proofs.Common.{◌≡◌, ◌⊎◌, inl, inr, ⊎_elim, ℕ, ◌+◌, ◌<◌, ◌≤◌, ◌==◌, false, List, [], ◌∷◌, ◌++◌, length, None, Some, Ok, refl, sym, ap, ◌∙◌, subst, arith, append-nil, ne_eqb}
use Rattle.std.specs.Prelude.{count_by, if◌then◌else◌}
use Rattle.fine_model.specs.declared.Ending.TheVariants as ending
use Rattle.fine_model.specs.declared.Row.{Row}
use Rattle.fine_model.specs.declared.ScriptTxn.{ScriptTxn}
use Rattle.fine_model.specs.declared.law.RoomState.{RoomState}
use Rattle.fine_model.specs.Buckets.{Began}
use Rattle.fine_model.specs.Causes.{used_in}
use Rattle.fine_model.specs.History.{Commit, all_rows}
use Rattle.fine_model.specs.Merge.{cost}
use Rattle.fine_model.specs.Pushed.{all_pushed}
use Rattle.fine_model.specs.RowBytes.{greatest, longest_region, short_header}
use Rattle.epoch_room.specs.Fitting.{fit_of}
use Rattle.epoch_room.specs.declared.answers.Fit.TheVariants as fit
use Rattle.fine_hall.specs.declared.law.Beginning.{Beginning}
use Rattle.fine_hall.specs.Laws.{AreTurns}
use Rattle.fine_hall.specs.Passes.{last_room, mine, seen, turns}
use Rattle.fine_hall.specs.Turns.{commits}
use Rattle.fine_hall.proofs.Since.{since_law}
use Rattle.hall_rooms.specs.Rooms.{RoomPass}
use Rattle.hall_rooms.specs.Turning.{MeetsNone, SealsAndPosts, TakesTurn}
use Rattle.hall_rooms.proofs.Left.{last_is}
use Rattle.txn_engine.specs.declared.txn.CommitFault.{CommitFault}
use Rattle.txn_engine.specs.declared.txn.Txn.{Txn}
use Rattle.txn_engine.specs.Txns.{IsOpenTxn, IsRefused}
use Rattle.run_laws.specs.Needs.{Unsealed}
use Rattle.lane_laws.specs.Lanes.{InNeed, Owes}
use Rattle.lane_laws.specs.Quiet.{QuietBut}
use Rattle.txn_tries.specs.Turns.{AddsPlaced}
use Rattle.txn_tries.specs.Going.{AddsNone, IsCommittable, NeedsOn, OnlySees, Waits, txn_of}
use Rattle.txn_tries.proofs.Adding.{adds_on, meets_on, quiet_before, sees_adds, sees_open, sees_still, turn_adds, turn_open, turn_own, turn_seen, turn_still, unsealed_none}
use Rattle.txn_tries.proofs.Fits.{fits_alone, is_long, tests_of}
use Rattle.txn_tries.proofs.Needed.{SealsAll, need_seals, need_still, seal_does, seal_seen}

-- ---- one after another

module _ (group : ℕ) (txn : ScriptTxn) (x : Beginning) (p q r : RoomPass) (w : Waits group txn x p q) where
  before : (b : _) → AddsPlaced q r b → QuietBut p.number x.room (turns r) → QuietBut p.number x.room (turns q)
  before b two = quiet_before p q r w.number [] b w.adds two x

  of_q : QuietBut p.number x.room (turns r) → QuietBut q.number x.room (turns r)
  of_q = subst (λ n. QuietBut n x.room (turns r)) (sym w.number)

  pub needs_on : (b : _) → AddsPlaced q r b → (Q : List Row → Type 0) → NeedsOn group x q r (Owes txn x q) Q → NeedsOn group x p r (Owes txn x p) Q
  needs_on b two Q needs quiet few e first began n =
      let h = before b two quiet in
      needs (of_q quiet) (subst (λ (l : List Commit). length l < greatest) (sym (w.same_seen h)) few) e first began (w.needs h few e first began n)

  abbrev pub none_on : (Q : List Row → Type 0) → AddsNone group txn x q r Q → AddsNone group txn x p r Q
  none_on Q n = record { number = n.number ∙ w.number; adds = adds_on p q r w.number [] [] w.adds n.adds; mine_same = n.mine_same ∙ w.mine_same; needs = needs_on [] n.adds Q n.needs }

  pub waits_on : Waits group txn x q r → Waits group txn x p r
  waits_on v = record {
    none = none_on (Owes txn x r) v.none;
    meets = meets_on p q r w.number [] [] w.adds v.adds x w.meets v.meets;
    same_seen = λ quiet. v.same_seen (of_q quiet) ∙ w.same_seen (before [] v.adds quiet);
  }

-- ---- turns of others

owes_still : (txn : ScriptTxn) (x : Beginning) (p p' : RoomPass) (first : List Row) → Unsealed (last_room x p) (last_room x p') → seen p' ≡ seen p → Owes txn x p first → Owes txn x p' first
owes_still txn x p p' first u same o = record {
  commits = o.commits;
  rows = o.rows;
  pushed = subst (λ (h : List Commit). all_pushed (first ++ all_rows h) txn.calls ≡ Ok o.rows) (sym same) o.pushed;
  alone = o.alone;
  too_long = let e : used_in (last_room x p').sealed (seen p') ≡ used_in (last_room x p).sealed (seen p) = (λ i. used_in (u.sealed i) (same i)) in let h = o.too_long in omega (arith, e, h);
}

module _ (group : ℕ) (txn : ScriptTxn) (x : Beginning) (p p' : RoomPass) where
  -- what is needed is needed still
  pub still_needs : (Q : List Row → Type 0) → Unsealed (last_room x p) (last_room x p') × (seen p' ≡ seen p) → (first : List Row) → InNeed group x p (Owes txn x p first) → InNeed group x p' (Owes txn x p' first)
  still_needs Q st first n = need_still group x p p' st.0 st.1 (Owes txn x p first) (Owes txn x p' first) (owes_still txn x p p' first st.0 st.1) n

  pub sees_waits : OnlySees x p p' → Waits group txn x p p'
  sees_waits s = record {
    none = record {
      number = s.number;
      adds = sees_adds x p p' s.sees;
      mine_same = ap commits s.sees.same_own;
      needs = λ quiet few e first began n. still_needs (Owes txn x p') (sees_still x p p' s.sees quiet) first n;
    };
    meets = record { meets = s.meets; opened = sees_open x p p' s.sees };
    same_seen = λ quiet. (sees_still x p p' s.sees quiet).1;
  }

  -- ---- a turn without an entry

  module _ (found room : RoomState) (t : TakesTurn x found None 0 room p p') where
    pub turn_mine : mine p' ≡ mine p
    turn_mine = turn_own x found room None 0 p p' t.one ∙ append-nil (mine p)

    pub turn_quiet : QuietBut p.number x.room (turns p') → seen p' ≡ seen p
    turn_quiet quiet = turn_seen x found room None 0 p p' t.one ∙ (append-nil _ ∙ (turn_still x found room None 0 p p' t.one quiet).1)

    abbrev pub turn_none : p'.number ≡ p.number → (Q : List Row → Type 0) → NeedsOn group x p p' (Owes txn x p) Q → AddsNone group txn x p p' Q
    turn_none number Q needs = record { number = number; adds = turn_adds x found room None 0 p p' t.one [] refl; mine_same = turn_mine; needs = needs }

    pub turn_waits : p'.number ≡ p.number → MeetsNone x p p' → room.is_shut ≡ found.is_shut → NeedsOn group x p p' (Owes txn x p) (Owes txn x p') → Waits group txn x p p'
    turn_waits number meets shut needs = record {
      none = turn_none number (Owes txn x p') needs;
      meets = record { meets = meets; opened = turn_open x found room None 0 p p' t.one shut };
      same_seen = turn_quiet;
    }

  -- the room refused it, and was given back as it was found
  pub refused_waits : (t t' : Txn) (cause : CommitFault) → p'.number ≡ p.number → IsRefused x t t' p p' cause → Waits group txn x p p'
  refused_waits t t' cause number r = turn_waits r.room r.room r.turn number r.meets refl
      (λ quiet few e first began n. still_needs (Owes txn x p') (subst (Unsealed (last_room x p)) (sym (last_is x r.room None 0 r.room p p' r.turn.one)) (turn_still x r.room r.room None 0 p p' r.turn.one quiet).0, turn_quiet r.room r.room r.turn quiet) first n)

-- ---- a seal to make place

pub region_same : (x : Beginning) (p : RoomPass) → AreTurns x (turns p) → (last_room x p).region_len ≡ x.room.region_len
region_same x p lawful = (since_law x.room [] (turns p) lawful.rooms).region_len

module _ (group : ℕ) (x : Beginning) (t : Txn) (p p' : RoomPass) (number : p'.number ≡ p.number) (lawful : AreTurns x (turns p)) (small : x.room.region_len ≤ longest_region) (is_open : IsOpenTxn x t p) (may : IsCommittable t.draft)
    (need most epoch : ℕ) (full : fit_of (last_room x p) (cost t.draft.rows) ≡ fit.EpochFull need most) (s : SealsAndPosts x p p' (Ok epoch)) where
  owed : (first : List Row) (e : ℕ) → Began x.log e first → seen p' ≡ seen p → (last_room x p).used ≡ used_in ((last_room x p).sealed + 1) (seen p) → (last_room x p').sealed ≡ (last_room x p).sealed + 1 → Owes (txn_of t.draft) x p' first
  owed first e began same used next =
      let tests = tests_of (last_room x p) (cost t.draft.rows) (fit.EpochFull need most) full in
      let len = region_same x p lawful in
      record {
        commits = refl;
        rows = t.draft.rows;
        pushed = subst (λ (h : List Commit). all_pushed (first ++ all_rows h) t.draft.calls ≡ Ok t.draft.rows) (sym same) ((is_open.open_on.answers may.not_failed).answered e first began).is_pushed;
        alone = subst (λ (n : ℕ). short_header + cost t.draft.rows ≤ n) len (fits_alone (last_room x p).region_len (cost t.draft.rows) (subst (λ (n : ℕ). n ≤ longest_region) (sym len) small) tests.0.alone);
        too_long =
            let long = is_long (last_room x p) (cost t.draft.rows) tests.1 in
            let u : used_in (last_room x p').sealed (seen p') ≡ used_in ((last_room x p).sealed + 1) (seen p) = (λ i. used_in (next i) (same i)) in
            omega (arith, long, len, used, u);
      }

  pub seal_waits : Waits group (txn_of t.draft) x p p'
  seal_waits = turn_waits group (txn_of t.draft) x p p' s.found s.room s.turn number s.did.4 (s.did.2 ∙ sym s.did.3.opened)
      (λ quiet few e first began n.
      let same = seal_seen x p p' (Ok epoch) s quiet in
      need_seals group x p p' same (Owes (txn_of t.draft) x p first) (Owes (txn_of t.draft) x p' first) (λ u. owes_still (txn_of t.draft) x p p' first u same) n (seal_does x p p' (Ok epoch) s quiet)
      (λ all some. inr (owed first e began same n.used (all.sealed ∙ ap (λ b. if b then (last_room x p).sealed else (last_room x p).sealed + 1) (ne_eqb (last_room x p).waiting 0 (λ none. omega (arith, some, none)))))))

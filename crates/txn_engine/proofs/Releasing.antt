-- All buckets of a transaction are given back.
use Rattle.std.proofs.Common.{◌≡◌, ℕ, ◌<◌, ◌≤◌, false, List, [], ◌∷◌, ◌++◌, All, Option, refl, sym, ap, ◌∙◌, subst, arith}
use lib.ListN.{get_elem?}
use Rattle.fine_places.specs.History as places
use Rattle.fine_model.specs.History.{Commit, all_rows}
use Rattle.node_cache.specs.Cache.{Cache, after, before, evicted as evicted_of, settled, undone}
use Rattle.txn_draft.specs.Drafts.{DraftValue, blank}
use Rattle.txn_draft.specs.Standing.{IsLeft, StandsFor}
use Rattle.txn_draft.proofs.Lawful.{blank_law}
use Rattle.partition_hold.specs.Views.{state_of}
use Rattle.fine_hall.specs.declared.law.Beginning.{Beginning}
use Rattle.fine_hall.specs.Laws.{AreTurns}
use Rattle.fine_hall.specs.Passes.{turns, seen, published}
use Rattle.fine_hall.specs.Halls.{Reads}
use Rattle.fine_hall.proofs.Seeing.{sees_on}
use Rattle.fine_hall.proofs.Troubles.{troubles_law}
use Rattle.key_locks.specs.Locks.{HasLock, AreLocksOf, Releases}
use Rattle.key_locks.proofs.Held.{held_alike, lacks_place, not_both}
use Rattle.txn_engine.specs.declared.txn.Txn.{Txn}
use Rattle.hall_rooms.specs.Rooms.{RoomPass}
use Rattle.txn_engine.specs.Steps.{EachBecomes}
use Rattle.txn_engine.specs.Txns.{Aborts, GivesBack, GivesBackSettled, HoldsNone, IsAnsweredOn, IsOpenOn, IsOpenTxn}
use Rattle.txn_engine.proofs.Ending.{from_before, settled_stands, undone_stands}
use Rattle.txn_engine.proofs.Held.{legal_rows}
use Rattle.txn_engine.proofs.Open.{open_seen}
use Rattle.txn_engine.proofs.Taking.{sees_turns}

-- each content of a set stands for a history
abbrev pub StandAt : Beginning → ℕ → List Commit → List (Option Cache) → Type 0
StandAt x number history locks = (k : ℕ) (b : Cache) → k < 256 → HasLock locks k b → StandsFor x.log k number b history

module _ (f : Cache → Cache) (x : Beginning) (number evicted : ℕ) (history : List Commit) (d : DraftValue) (locks locks' : List (Option Cache)) (p : RoomPass) (are : AreLocksOf locks p) (o : IsOpenOn x.log number history d locks) (le : evicted ≤ number) where
  -- taken back, the contents stand for the history as before
  pub undone_all : EachBecomes f (λ b new. IsLeft evicted (before b) b new) locks locks' → StandAt x number history locks'
  undone_all e k y low h =
      let w = from_before f (λ b new. IsLeft evicted (before b) b new) locks locks' p are e k y low h in undone_stands f x.log number evicted history d k w.0 y (o.held k w.0 low w.1) le w.2 w.3

  -- settled, they stand for it with the commit
  pub settled_all : (c : Commit) → d.failed ≡ false → c.entry.rows ≡ d.rows → All (λ e. e.epoch ≤ c.epoch) history → (epoch : ℕ) → epoch ≡ c.epoch → EachBecomes f (λ b new. IsLeft evicted (after b epoch) b new) locks locks' → StandAt x number (history ++ c ∷ []) locks'
  settled_all c ok rows epochs epoch is e k y low h =
      let w = from_before f (λ b new. IsLeft evicted (after b epoch) b new) locks locks' p are e k y low h in
      settled_stands f x.log number evicted history d k w.0 y c (o.held k w.0 low w.1) ok rows epochs le w.2 (subst (λ n. IsLeft evicted (after w.0 n) w.0 (f w.0)) is w.3)

-- settled by the number that was read before the turn
pub gives_settled : (keep epoch number : ℕ) (t t' : Txn) (p p₀ p₁ p₂ p₃ : RoomPass) → Reads p p₀ → number ≡ published p₀ → published p₀ ≤ published p₁ → published p₂ ≡ published p₁ → published p₃ ≡ published p₂ → GivesBack (λ b. evicted_of number keep (settled epoch b)) t t'
    → GivesBackSettled keep epoch t t' p p₃
gives_settled keep epoch number t t' p p₀ p₁ p₂ p₃ read is later given still gives = record {
  upto = number;
  no_earlier = let n = read.sees.no_earlier in omega (arith, n, is);
  no_later = omega (arith, is, later, given, still);
  gives = gives;
}

-- nothing is left of the transaction
pub open_blank : (x : Beginning) (t : Txn) (p : RoomPass) (lane turn : ℕ) → t.draft ≡ blank lane turn → AreTurns x (turns p) → AreLocksOf t.locks p → HoldsNone t.locks → IsOpenTxn x t p
open_blank x t p lane turn is lawful are none = record {
  locks = are;
  open_on = record {
    held = λ k b low h. absurd (not_both t.locks k b (none k low) h);
    answers = λ _. subst (λ d. IsAnsweredOn x.log (seen p) d t.locks) (sym is) (record {
      fits = record { fit = tt; here = tt };
      here = λ k low empty. refl;
      answered = λ e first began. let rows = legal_rows x.log e first (seen p) began (lawful.legal e first began) in blank_law lane turn (first ++ all_rows (seen p)) rows.1 rows.0;
    });
  };
}

-- ---- an abort

module _ (x : Beginning) (t : Txn) (p p₁ : RoomPass) (number : p₁.number ≡ p.number) (reads : Reads p p₁) (o : IsOpenTxn x t p) where
  pub locks_read : AreLocksOf t.locks p₁
  locks_read = held_alike t.locks p p₁ o.locks (λ k low. ap (λ l. get_elem? l k) reads.same_held)

  pub open_read : AreTurns x (turns p) → AreTurns x (turns p₁) → IsOpenOn x.log (published p₁) (seen p₁) t.draft t.locks
  open_read before after = open_seen x p p₁ reads.sees before after t.draft t.locks o.locks o.open_on

  pub aborted : (keep upto : ℕ) (t' : Txn) (p₂ : RoomPass) (locks : List (Option Cache)) → p₂.number ≡ p₁.number → t'.draft ≡ blank t.draft.lane t.draft.turn → AreLocksOf t'.locks p₂ → HoldsNone t'.locks → Releases locks t'.locks p₁ p₂ → upto ≡ published p₁
      → GivesBack (λ b. evicted_of upto keep (undone b)) t t' → Aborts x keep t t' p p₂
  aborted keep upto t' p₂ locks next is are none r read gives = record {
    blank_now = (is, none);
    nothing = λ k low. lacks_place t'.locks p₂ k low are (none k low);
    evicts = subst (λ n. GivesBack (λ b. evicted_of n keep (undone b)) t t') (read ∙ sym r.same_published) gives;
    room = r.room ∙ ap (λ l. get_elem? l places.room) reads.same_held;
    sees = sees_on p p₁ p₂ number (λ k low has. ap (λ l. get_elem? l k) reads.same_held ∙ has) reads.sees (sees_turns p₁ p₂ r.same_turns r.same_own r.same_published);
    found = r.found ∙ reads.found;
    front = (r.views.front.0 ∙ reads.views.front.0, r.views.front.1 ∙ reads.views.front.1);
    meets = ((troubles_law state_of x).same p₁ p₂ next).turns_stay r.same_turns r.views ∙ ((troubles_law state_of x).same p p₁ number).reads reads;
  }

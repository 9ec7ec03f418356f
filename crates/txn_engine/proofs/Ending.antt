-- The contents of a set at the end of a transaction.
use Rattle.std.proofs.Common.{◌≡◌, ◌⊎◌, ⊎_elim, ℕ, zero, suc, replicate, ◌+◌, ◌<◌, ◌≤◌, true, false, List, [], ◌∷◌, ◌++◌, slice_get, nat_le, All, Option, Some, None, inl, inr, refl, sym, subst, arith}
use Rattle.std.proofs.lemmas.Bool.Decides.{leb_tells}
use Rattle.fine_model.specs.declared.law.Origin.{Origin}
use Rattle.fine_model.specs.History.{Commit, all_rows}
use Rattle.node_cache.specs.Cache.{Cache, after, before}
use Rattle.btree_nodes.specs.Trees.{Holds}
use Rattle.txn_draft.specs.Drafts.{DraftValue}
use Rattle.txn_draft.specs.Standing.{IsLeft, StandsFor}
use Rattle.txn_draft.specs.Uses.{IsUsed}
use Rattle.txn_draft.proofs.Lasting.{settle_law, undo_law}
use Rattle.key_locks.specs.Locks.{HasLock, LacksLock, AreLocksOf}
use Rattle.key_locks.proofs.Held.{not_both}
use Rattle.fine_hall.specs.Passes.{HasPlace, LacksPlace}
use Rattle.hall_rooms.specs.Rooms.{RoomPass}
use Rattle.std.specs.Borrow.{MutBor}
use denote.Param.Members.{Shared}
use Rattle.key_locks.specs.Slots.{EachBy, LeavesAt}
use Rattle.txn_engine.specs.Steps.{EachBecomes}
use Rattle.txn_engine.specs.declared.txn.Txn.{Txn}
use Rattle.txn_engine.specs.Txns.{GivesBack, IsHeld}
use Rattle.txn_engine.proofs.Open.{has_or_lacks, one_content}

pub less_or_at : (k at : ℕ) → k < at + 1 → (k < at) ⊎ (k ≡ at)
less_or_at k at lt = ⊎_elim (λ (h : (nat_le at k ≡ true) × (at ≤ k)). inr (omega (arith, lt, h.1))) (λ (h : (nat_le at k ≡ false) × (k < at)). inl h.1) (leb_tells at k)

-- what each call tells of its argument is told of what it left
pub left_by : {F T : Type 0} (g : Shared F (MutBor T × Unit {0}) (Unit {0} × (MutBor T × Unit {0}))) (f : F) (R : T → T → Type 0) → ((p q : MutBor T) → g.post f (p, tt) (tt, (q, tt)) → R p.now q.now) → (x y : T) → LeavesAt g f x y → R x y
left_by g f R by x y l = subst (R x) l.leaves (subst (λ z. R z l.left.now) l.shows (by l.shown l.left l.met))

module _ (f : Cache → Cache) (Left : Cache → Cache → Type 0) where
  -- what was done to each content made it into the other
  pub each_becomes : (P : Cache → Cache → Type 0) (locks locks' : List (Option Cache)) → EachBy P locks locks' → ((b y : Cache) → P b y → (y ≡ f b) × Left b y) → EachBecomes f Left locks locks'
  each_becomes P locks locks' e by = record {
    lacks = e.empty;
    each = λ k b low h.
        let w = e.filled k b h in
        let r = by b w.0 w.2 in
        (subst (HasLock locks' k) r.0 w.1, subst (Left b) r.0 r.1);
  }

  -- and so it was given back
  pub gives_back : (t t' : Txn) (locks : List (Option Cache)) → EachBecomes f Left t.locks locks → t'.given_back.value ≡ locks → GivesBack f t t'
  gives_back t t' locks e is = record {
    none = λ k low none. subst (λ l. LacksLock l k) (sym is) (e.lacks k none);
    each = λ k b low h. subst (λ l. HasLock l k (f b)) (sym is) (e.each k b low h).0;
  }

  -- a content of the set at the end was another before
  pub from_before : (locks locks' : List (Option Cache)) (p : RoomPass) → AreLocksOf locks p → EachBecomes f Left locks locks' → (k : ℕ) (y : Cache) → k < 256 → HasLock locks' k y → (b : Cache) × HasLock locks k b × (y ≡ f b) × Left b (f b)
  from_before locks locks' p are e k y low h = ⊎_elim
      (λ (none : LacksLock locks k). absurd (not_both locks' k y (e.lacks k none) h))
      (λ (some : (b : Cache) × HasLock locks k b). let now = e.each k some.0 low some.1 in (some.0, some.1, one_content locks' k y (f some.0) h now.0, now.1))
      (has_or_lacks locks p are k low)

  -- the set goes with its pass
  pub still_locks : (locks locks' : List (Option Cache)) (p : RoomPass) → AreLocksOf locks p → EachBecomes f Left locks locks' → AreLocksOf locks' p
  still_locks locks locks' p are e k low = by (are k low)
    where
      by : (LacksLock locks k × LacksPlace p k) ⊎ (((b : Cache) × HasLock locks k b) × HasPlace p k) → (LacksLock locks' k × LacksPlace p k) ⊎ (((b : Cache) × HasLock locks' k b) × HasPlace p k)
      by (inl x) = inl (e.lacks k x.0, x.1)
      by (inr x) = inr ((f x.0.0, (e.each k x.0.0 low x.0.1).0), x.1)

-- ---- what the contents stand for

-- taken back, a bucket stands for the history as before
pub undone_stands : (f : Cache → Cache) (log : Origin) (number evicted : ℕ) (history : List Commit) (d : DraftValue) (k : ℕ) (b y : Cache) → IsHeld log number history d k b → evicted ≤ number → y ≡ f b → IsLeft evicted (before b) b (f b) → StandsFor log k number y history
undone_stands f log number evicted history d k b y h le is left =
    subst (λ z. StandsFor log k number z history) (sym is) (undo_law log k h.low number evicted h.taken b (f b) history h.reached le h.stood h.undoes h.restores left)

-- settled, it stands for the history with the commit
pub settled_stands : (f : Cache → Cache) (log : Origin) (number evicted : ℕ) (history : List Commit) (d : DraftValue) (k : ℕ) (b y : Cache) (c : Commit) → IsHeld log number history d k b → d.failed ≡ false → c.entry.rows ≡ d.rows
    → All (λ e. e.epoch ≤ c.epoch) history → evicted ≤ number → y ≡ f b → IsLeft evicted (after b c.epoch) b (f b) → StandsFor log k number y (history ++ c ∷ [])
settled_stands f log number evicted history d k b y c h ok rows epochs le is left =
    subst (λ z. StandsFor log k number z (history ++ c ∷ [])) (sym is)
    (settle_law log k h.low number evicted h.taken b (f b) history c h.reached le epochs h.stood (subst (IsUsed h.low h.taken b) (sym rows) (h.used ok))
    (λ e first began. subst (Holds b (first ++ all_rows history)) (sym rows) (h.holds ok e first began)) left)

-- ---- a new set

pub slice_replicate : (n k : ℕ) → k < n → ◌≡◌ {A = Option (Option Cache)} (slice_get (replicate n None) k) (Some None)
slice_replicate zero k low = absurd (omega arith)
slice_replicate (suc n) zero low = refl
slice_replicate (suc n) (suc k) low = slice_replicate n k (omega arith)

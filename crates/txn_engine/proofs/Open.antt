-- An open transaction goes on as its pass sees more, takes buckets, or reads through its front.
use Rattle.std.proofs.Common.{◌≡◌, ◌⊎◌, ⊎_elim, ℕ, ◌<◌, true, false, true≢false, List, Option, Some, inl, inr, sym, ◌∙◌, subst}
use Rattle.std.specs.List.{list_any}
use Rattle.fine_model.specs.declared.Row.{Row}
use Rattle.fine_model.specs.Buckets.{Began, IsBucketFor}
use Rattle.fine_model.specs.History.{IsLegal}
use Rattle.node_cache.specs.Cache.{Cache, IsResting, kept_at}
use Rattle.txn_draft.specs.Drafts.{DraftValue, is_here}
use Rattle.fine_hall.specs.declared.law.Beginning.{Beginning}
use Rattle.fine_hall.specs.Laws.{AreTurns}
use Rattle.fine_hall.specs.Passes.{turns, seen, published, HasPlace, LacksPlace}
use Rattle.fine_hall.specs.Halls.{SeesMore}
use Rattle.key_locks.specs.Locks.{HasLock, LacksLock, AreLocksOf}
use Rattle.key_locks.proofs.Held.{not_both, has_place}
use Rattle.txn_engine.specs.declared.txn.Txn.{Txn}
use Rattle.hall_rooms.specs.Rooms.{RoomPass, bucket_number}
use Rattle.txn_engine.specs.Txns.{AreNumbered, IsAnsweredOn, IsHeld, IsOpenOn, IsOpenTxn}
use Rattle.txn_engine.proofs.Held.{answered_on, held_new, held_on}

pub has_or_lacks : (locks : List (Option Cache)) (p : RoomPass) → AreLocksOf locks p → (k : ℕ) → k < 256 → LacksLock locks k ⊎ ((b : Cache) × HasLock locks k b)
has_or_lacks locks p all k low = by (all k low)
  where
    by : (LacksLock locks k × LacksPlace p k) ⊎ (((b : Cache) × HasLock locks k b) × HasPlace p k) → LacksLock locks k ⊎ ((b : Cache) × HasLock locks k b)
    by (inl x) = inl x.0
    by (inr x) = inr x.0

pub one_content : (locks : List (Option Cache)) (k : ℕ) (b c : Cache) → HasLock locks k b → HasLock locks k c → b ≡ c
one_content locks k b c h i = let e : ◌≡◌ {A = Option (Option Cache)} (Some (Some b)) (Some (Some c)) = sym h ∙ i in cc

module _ (x : Beginning) (p p' : RoomPass) (sees : SeesMore p p') (before : AreTurns x (turns p)) (after : (e : ℕ) (first : List Row) → Began x.log e first → IsLegal first (seen p')) (d : DraftValue) (locks : List (Option Cache)) (are : AreLocksOf locks p) where
  -- a call is in a bucket that the pass holds
  places_of : IsAnsweredOn x.log (seen p) d locks → (k : ℕ) → k < 256 → list_any (is_here k) d.calls ≡ true → HasPlace p k
  places_of a k low on = ⊎_elim (λ (x : LacksLock locks k × LacksPlace p k). absurd (true≢false (sym on ∙ a.here k low x.0))) (λ (x : ((b : Cache) × HasLock locks k b) × HasPlace p k). x.1) (are k low)

  pub answers_on : IsAnsweredOn x.log (seen p) d locks → IsAnsweredOn x.log (seen p') d locks
  answers_on a = record { fits = a.fits; here = a.here; answered = λ e first began. answered_on x p p' sees before after d e first began (places_of a) (a.answered e first began) }

  -- the pass saw more
  pub open_legal : IsOpenOn x.log (published p) (seen p) d locks → IsOpenOn x.log (published p') (seen p') d locks
  open_legal o = record {
    held = λ k b low h. held_on x p p' sees k low (has_place locks p k b low are h) d b (o.held k b low h);
    answers = λ ok. answers_on (o.answers ok);
  }

  -- buckets were gathered
  pub gathered_legal : (locks' : List (Option Cache)) → ((k : ℕ) (b : Cache) → HasLock locks k b → HasLock locks' k b)
      → ((k : ℕ) (b : Cache) → k < 256 → HasLock locks' k b → HasLock locks k b ⊎ IsBucketFor bucket_number kept_at IsResting x.log k (published p') b (seen p')) → AreLocksOf locks' p' → IsOpenOn x.log (published p) (seen p) d locks → IsOpenOn x.log (published p') (seen p') d locks'
  gathered_legal locks' kept stands are' o = record { held = held; answers = λ ok. answers ok }
    where
      lacked : (k : ℕ) → k < 256 → LacksLock locks' k → LacksLock locks k
      lacked k low none = ⊎_elim (λ (x : LacksLock locks k × LacksPlace p k). x.0) (λ (x : ((b : Cache) × HasLock locks k b) × HasPlace p k). absurd (not_both locks' k x.0.0 none (kept k x.0.0 x.0.1))) (are k low)

      old : (k : ℕ) (b : Cache) → k < 256 → HasLock locks k b → IsHeld x.log (published p') (seen p') d k b
      old k b low h = held_on x p p' sees k low (has_place locks p k b low are h) d b (o.held k b low h)

      held : (k : ℕ) (b : Cache) → k < 256 → HasLock locks' k b → IsHeld x.log (published p') (seen p') d k b
      held k b low h = ⊎_elim
          (λ (was : HasLock locks k b). old k b low was)
          (λ (new : IsBucketFor bucket_number kept_at IsResting x.log k (published p') b (seen p')). ⊎_elim
          (λ (none : LacksLock locks k × LacksPlace p k). held_new x.log (published p') (seen p') d k b new (λ ok. let a = o.answers ok in (a.fits, a.here k low none.0)))
          (λ (some : ((c : Cache) × HasLock locks k c) × HasPlace p k). subst (IsHeld x.log (published p') (seen p') d k) (one_content locks' k some.0.0 b (kept k some.0.0 some.0.1) h) (old k some.0.0 low some.0.1))
          (are k low))
          (stands k b low h)

      answers : d.failed ≡ false → IsAnsweredOn x.log (seen p') d locks'
      answers ok = let a = answers_on (o.answers ok) in record { fits = a.fits; here = λ k low none. a.here k low (lacked k low none); answered = a.answered }

-- the same by the turns that the pass saw
module _ (x : Beginning) (p p' : RoomPass) (sees : SeesMore p p') (before : AreTurns x (turns p)) (after : AreTurns x (turns p')) (d : DraftValue) (locks : List (Option Cache)) (are : AreLocksOf locks p) where
  pub open_seen : IsOpenOn x.log (published p) (seen p) d locks → IsOpenOn x.log (published p') (seen p') d locks
  open_seen = open_legal x p p' sees before after.legal d locks are

  pub open_gathered : (locks' : List (Option Cache)) → ((k : ℕ) (b : Cache) → HasLock locks k b → HasLock locks' k b)
      → ((k : ℕ) (b : Cache) → k < 256 → HasLock locks' k b → HasLock locks k b ⊎ IsBucketFor bucket_number kept_at IsResting x.log k (published p') b (seen p')) → AreLocksOf locks' p' → IsOpenOn x.log (published p) (seen p) d locks → IsOpenOn x.log (published p') (seen p') d locks'
  open_gathered = gathered_legal x p p' sees before after.legal d locks are

-- each content is in the place of its number
pub numbered : (x : Beginning) (t : Txn) (p : RoomPass) → IsOpenTxn x t p → AreNumbered t.locks
numbered x t p o k b low h = let held = o.open_on.held k b low h in held.undoes.bucket ∙ held.stood.number

-- Want of memory, and what it leaves.
use Rattle.std.proofs.Common.{◌≡◌, ⊎_elim, ℕ, true, false, true≢false, List, Option, Result, Ok, Err, refl, sym, ap, ◌∙◌, le_refl}
use Rattle.fine_model.specs.declared.Call.{Call}
use Rattle.fine_model.specs.declared.FetchFault.TheVariants as fetch_fault
use Rattle.fine_model.specs.declared.law.Origin.{Origin}
use Rattle.fine_model.specs.History.{Commit}
use Rattle.node_cache.specs.Cache.{Cache}
use Rattle.btree_nodes.specs.declared.fault.TreeFault.{TreeFault}
use Rattle.btree_nodes.specs.declared.fault.TreeFault.TheVariants.{Source, Unfit, BucketFull, Number, NoMemory}
use Rattle.txn_draft.specs.Drafts.{DraftValue, is_scan}
use Rattle.partition_hold.specs.Views.{state_of}
use Rattle.fine_hall.specs.declared.law.Beginning.{Beginning}
use Rattle.fine_hall.specs.Passes.{troubles}
use Rattle.fine_hall.proofs.Seeing.{sees_itself}
use Rattle.hall_rooms.specs.Rooms.{RoomPass}
use Rattle.txn_engine.specs.declared.txn.Txn.{Txn}
use Rattle.txn_engine.specs.declared.txn.TxnFault.{TxnFault}
use Rattle.txn_engine.specs.declared.txn.TxnFault.TheVariants as fault
use Rattle.txn_engine.specs.Faults.{after_fault, fault_of}
use Rattle.txn_engine.specs.Laws.{RepliesLaw}
use Rattle.txn_engine.specs.Txns.{CallsOr, IsOpenOn, IsOpenTxn, KeepsCall, SeesCall, StaysFailed, is_conflict, wants_memory}
use Rattle.txn_engine.proofs.Answering.{either, lost_held}

-- a draft that is given up is open, with what undoing restores
failing_on : (log : Origin) (number : ℕ) (history : List Commit) (d : DraftValue) (locks : List (Option Cache)) → IsOpenOn log number history d locks → IsOpenOn log number history (record d { failed = true }) locks
failing_on log number history d locks o = record {
  held = λ k b low h. let w = o.held k b low h in lost_held log number history d (record d { failed = true }) k b b (refl, refl, refl) w w.undoes w.restores;
  answers = λ ok. absurd (true≢false ok);
}

pub open_fails : (x : Beginning) (f : TxnFault) (t : Txn) (p : RoomPass) → IsOpenTxn x t p → IsOpenTxn x (after_fault f t) p
open_fails x (fault.Conflict bucket owner) t p o = o
open_fails x fault.Disk t p o = o
open_fails x (fault.BadRow region at) t p o = o
open_fails x (fault.BadIndex region at) t p o = o
open_fails x (fault.Unfit id) t p o = o
open_fails x (fault.BucketFull next depth) t p o = o
open_fails x (fault.Number id) t p o = o
open_fails x fault.NoMemory t p o = record { locks = o.locks; open_on = failing_on _ _ _ t.draft t.locks o.open_on }

-- a fault of a tree is no conflict
pub no_conflict : (f : TreeFault) → is_conflict (Err (fault_of f)) ≡ false
no_conflict (Source fetch_fault.Failed) = refl
no_conflict (Source (fetch_fault.BadRow region at)) = refl
no_conflict (Source (fetch_fault.BadIndex region at)) = refl
no_conflict (Source fetch_fault.NoMemory) = refl
no_conflict (Unfit id) = refl
no_conflict (BucketFull next depth) = refl
no_conflict (Number id) = refl
no_conflict NoMemory = refl

-- a fault leaves the buckets and the rows of a transaction
pub after_same : (f : TxnFault) (t : Txn) → ((after_fault f t).locks ≡ t.locks) × ((after_fault f t).draft.rows ≡ t.draft.rows)
after_same (fault.Conflict bucket owner) t = (refl, refl)
after_same fault.Disk t = (refl, refl)
after_same (fault.BadRow region at) t = (refl, refl)
after_same (fault.BadIndex region at) t = (refl, refl)
after_same (fault.Unfit id) t = (refl, refl)
after_same (fault.BucketFull next depth) t = (refl, refl)
after_same (fault.Number id) t = (refl, refl)
after_same fault.NoMemory t = (refl, refl)

-- a fault that is not want of memory leaves a transaction
pub after_other : (f : TxnFault) (t : Txn) → (f ≡ fault.NoMemory → ⊥) → after_fault f t ≡ t
after_other (fault.Conflict bucket owner) t other = refl
after_other fault.Disk t other = refl
after_other (fault.BadRow region at) t other = refl
after_other (fault.BadIndex region at) t other = refl
after_other (fault.Unfit id) t other = refl
after_other (fault.BucketFull next depth) t other = refl
after_other (fault.Number id) t other = refl
after_other fault.NoMemory t other = absurd (other refl)

-- a call that was kept leaves a draft failed where it was
kept_failed : (c : Call) (d d' : DraftValue) → KeepsCall c d d' → d'.failed ≡ d.failed
kept_failed c d d' k = ⊎_elim (λ (on : is_scan c ≡ true). ap (λ (y : DraftValue). y.failed) (k.scan on).1.is) (λ (off : is_scan c ≡ false). ap (λ (y : DraftValue). y.failed) (k.one off).is) (either (is_scan c))

-- a transaction is failed after a call just where this wanted memory
pub answer_failed : (x : Beginning) (c : Call) (t t' : Txn) (p p' : RoomPass) (r : Result (Unit {0}) TxnFault) → t.draft.failed ≡ false → CallsOr x c t t' p p' r → t'.draft.failed ≡ wants_memory r
answer_failed x c t t' p p' (Ok done) ok h = kept_failed c t.draft t'.draft h.0 ∙ ok
answer_failed x c t t' p p' (Err (fault.Conflict bucket owner)) ok h = ap (λ (d : DraftValue). d.failed) h.0.0 ∙ ok
answer_failed x c t t' p p' (Err fault.Disk) ok h = ap (λ (d : DraftValue). d.failed) h.0 ∙ ok
answer_failed x c t t' p p' (Err (fault.BadRow region at)) ok h = ap (λ (d : DraftValue). d.failed) h.0.0 ∙ ok
answer_failed x c t t' p p' (Err (fault.BadIndex region at)) ok h = ap (λ (d : DraftValue). d.failed) h.0.0 ∙ ok
answer_failed x c t t' p p' (Err (fault.Unfit id)) ok h = ap (λ (d : DraftValue). d.failed) h.0.0 ∙ ok
answer_failed x c t t' p p' (Err (fault.BucketFull next depth)) ok h = ap (λ (d : DraftValue). d.failed) h.0.0 ∙ ok
answer_failed x c t t' p p' (Err (fault.Number id)) ok h = ap (λ (d : DraftValue). d.failed) h.0.0 ∙ ok
answer_failed x c t t' p p' (Err fault.NoMemory) ok h = h.lost.0

-- a call of a transaction that was failed
pub still_failed : (x : Beginning) (c : Call) (t : Txn) (p : RoomPass) → t.draft.failed ≡ true → CallsOr x c t t p p (Err fault.NoMemory)
still_failed x c t p failed = record { lost = (failed, refl, refl); takes = λ ok. absurd (true≢false (sym failed ∙ ok)) }

pub not_gone : (t t' : Txn) (p p' : RoomPass) (r : Result (Unit {0}) TxnFault) → t.draft.failed ≡ false → t.draft.failed ≡ true → StaysFailed t t' p p' r
not_gone t t' p p' r ok failed = absurd (true≢false (sym failed ∙ ok))

pub sees_still : (x : Beginning) (p : RoomPass) → SeesCall x p p
sees_still x p = record { sees = sees_itself p; held = λ k low has. has; room = refl; no_fewer = le_refl (troubles state_of x p) }

pub replies_law : RepliesLaw
replies_law x t p o ok e first began = ((o.open_on.answers ok).answered e first began).replies

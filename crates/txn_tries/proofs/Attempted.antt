-- The answers to a transaction's calls, as one answer to the transaction.
use Rattle.std.proofs.Common.{◌≡◌, ℕ, ◌<◌, List, inl, refl, sym, ◌∙◌, subst}
use Rattle.std.specs.List.{AllZip}
use Rattle.fine_model.specs.declared.Call.{Call}
use Rattle.fine_model.specs.declared.Ending.{Ending}
use Rattle.fine_model.specs.declared.Ending.TheVariants as ending
use Rattle.fine_model.specs.declared.Outcome.TheVariants as outcome
use Rattle.fine_model.specs.declared.ScriptTxn.{ScriptTxn}
use Rattle.fine_model.specs.declared.Why.{Why}
use Rattle.fine_model.specs.declared.Why.TheVariants as why
use Rattle.fine_model.specs.Store.{IsReplyTo}
use Rattle.node_cache.specs.Cache.{Cache}
use Rattle.partition_hold.specs.Views.{ViewValue}
use Rattle.epoch_room.specs.Value.{RoomValue}
use Rattle.txn_draft.specs.Drafts.{DraftValue, blank}
use Rattle.fine_hall.specs.declared.law.Beginning.{Beginning}
use Rattle.fine_hall.specs.Halls.{HallOf, SeesMore}
use Rattle.fine_hall.specs.Passes.{HoldsNothing}
use Rattle.fine_hall.proofs.Seeing.{sees_on}
use Rattle.hall_rooms.specs.Rooms.{RoomPass, beginning_of}
use Rattle.hall_rooms.specs.Turning.{MeetsNone}
use Rattle.txn_engine.specs.declared.txn.Txn.{Txn}
use Rattle.txn_engine.specs.declared.txn.TxnFault.{TxnFault}
use Rattle.txn_engine.specs.declared.txn.TxnFault.TheVariants as fault
use Rattle.txn_tries.specs.Answering.{AddsCalls, AnswersTxn, EndsWithout, IsAnswer, IsUndone, RefusesCalls, StopsCalls}
use Rattle.txn_tries.specs.Faults.{over_by, refused_as}
use Rattle.txn_tries.specs.Turns.{RefusedNow}
use Rattle.txn_tries.proofs.Refused.{refused_here, refused_later}

-- what a pass that holds nothing sees more, and then more again
pub sees_from_idle : (p q r : RoomPass) → q.number ≡ p.number → HoldsNothing p → SeesMore p q → SeesMore q r → SeesMore p r
sees_from_idle p q r number nothing one two = sees_on p q r number (λ k low has. absurd (let off = sym (nothing k low) ∙ has in cc)) one two

-- ---- all were answered

pub answered : (txn : ScriptTxn) (turn : ℕ) (d : DraftValue) → AddsCalls txn.calls (blank txn.lane turn) d → IsAnswer txn turn d
answered txn turn d a = record {
  lane = a.lane;
  turn_is = a.turn;
  calls = a.calls_more;
  may = record {
    replied = subst (λ (l : List Call). AllZip IsReplyTo l d.replies) (sym a.calls_more) (subst (AllZip IsReplyTo txn.calls) (sym a.replied.after) a.replied.each);
    not_failed = a.not_failed;
  };
}

-- ---- one was refused

refused_not_full : (a : Ending) (word : Why) → (word ≡ why.Full → ⊥) → refused_as a word ≡ outcome.Refused why.Full → ⊥
refused_not_full ending.Commit word not is = not (let e : outcome.Refused word ≡ outcome.Refused why.Full = is in cc)
refused_not_full ending.Abort word not is = let e : outcome.Aborted ≡ outcome.Refused why.Full = is in cc

module _ (x : Beginning) (txn : ScriptTxn) (p r : RoomPass) where
  -- an end by a refusal, or an abort where the script has it so
  refused_without : (a : Ending) (word : Why) → txn.ending ≡ a → (word ≡ why.Full → ⊥) → RefusedNow x p r txn.calls word → EndsWithout x txn p r (refused_as a word)
  refused_without ending.Commit word is not h = record { of = is; run = tt; none = tt; not_full = refused_not_full ending.Commit word not; cause = λ w same. subst (RefusedNow x p r txn.calls) (let e : outcome.Refused word ≡ outcome.Refused w = same in cc) h }
  refused_without ending.Abort word is not h = record { of = is; run = tt; none = tt; not_full = refused_not_full ending.Abort word not; cause = λ w same. absurd (let e : outcome.Aborted ≡ outcome.Refused w = same in cc) }

module _ {Q : Type 0} (hall : HallOf RoomValue Cache ViewValue Q) (txn : ScriptTxn) (turn : ℕ) (t : Txn) (p q r : RoomPass) (first : SeesMore p q) (sees : SeesMore q r) (met : MeetsNone (beginning_of hall) q r) (undone : IsUndone hall t p r) where
  abbrev x : Beginning
  x = beginning_of hall

  bucket_now : RefusesCalls x txn.calls q why.Bucket → RefusedNow x p r txn.calls why.Bucket
  bucket_now h = refused_later x p q r txn.calls why.Bucket sees.longer.0 sees.longer.1 (refused_here x p q first.longer.0 txn.calls why.Bucket first.longer.1 h)

  number_now : RefusesCalls x txn.calls q why.Number → RefusedNow x p r txn.calls why.Number
  number_now h = refused_later x p q r txn.calls why.Number sees.longer.0 sees.longer.1 (refused_here x p q first.longer.0 txn.calls why.Number first.longer.1 (λ e rows began. inl (h e rows began)))

  -- each refusal makes of the transaction what it says
  pub refused_answers : (f : TxnFault) → StopsCalls x txn.calls p q f → AnswersTxn hall txn turn t p r (over_by txn.ending f)
  refused_answers (fault.Conflict bucket owner) h = (undone, met ∙ h)
  refused_answers fault.Disk h = (undone, subst (λ n. 0 < n) (sym met) h)
  refused_answers (fault.BadRow region at) h = (undone, (met ∙ h.0, h.1, tt))
  refused_answers (fault.BadIndex region at) h = (undone, (met ∙ h.0, h.1, tt))
  refused_answers (fault.Unfit id) h = (undone, (met ∙ h.0, h.1, tt))
  refused_answers (fault.BucketFull next depth) h = (undone, (met ∙ h.0, refused_without x txn p r txn.ending why.Bucket refl (λ is. absurd cc) (bucket_now h.1)))
  refused_answers (fault.Number id) h = (undone, (met ∙ h.0, refused_without x txn p r txn.ending why.Number refl (λ is. absurd cc) (number_now h.1)))
  refused_answers fault.NoMemory h = (undone, tt)

-- One try after others that came to nothing.
use Rattle.std.proofs.Common.{◌≡◌, ℕ, Some, subst}
use Rattle.node_cache.specs.Cache.{Cache}
use Rattle.partition_hold.specs.Views.{ViewValue}
use Rattle.epoch_room.specs.Value.{RoomValue}
use Rattle.txn_draft.specs.Drafts.{DraftValue}
use Rattle.fine_model.specs.declared.ScriptTxn.{ScriptTxn}
use Rattle.fine_hall.specs.Halls.{HallOf}
use Rattle.hall_rooms.specs.Rooms.{RoomPass, beginning_of}
use Rattle.txn_engine.specs.declared.txn.Txn.{Txn}
use Rattle.txn_tries.specs.declared.committing.CommitEnd.{CommitEnd}
use Rattle.txn_tries.specs.declared.committing.CommitEnd.TheVariants as commit_end
use Rattle.txn_tries.specs.declared.turn.TurnEnd.{TurnEnd}
use Rattle.txn_tries.specs.Going.{Waits, txn_of}
use Rattle.txn_tries.specs.Committing.{FinishesTurn, IsPlaced, TriesToCommit, Unplaced}
use Rattle.txn_tries.proofs.Placed.{placed_after, runs_after}
use Rattle.txn_tries.proofs.Underway.{rest_of}
use Rattle.txn_tries.proofs.Unplaced.{unplaced_after}
use Rattle.txn_tries.proofs.Waiting.{waits_on}

module _ {Q : Type 0} (hall : HallOf RoomValue Cache ViewValue Q) (group : ℕ) (s t t' : Txn) (p q r : RoomPass) (same : t.draft ≡ s.draft) (w : Waits group (txn_of s.draft) (beginning_of hall) p q) where
  pub commit_after : (end : CommitEnd) → TriesToCommit hall group t t' q r (Some end) → TriesToCommit hall group s t' p r (Some end)
  commit_after (commit_end.Placed done) h = (
    rest_of hall q.number p.number t' r w.number h.0,
    placed_after group (txn_of s.draft) s.draft.turn (beginning_of hall) p q r w done (subst (λ (d : DraftValue). IsPlaced group (txn_of d) d.turn (beginning_of hall) q r done) same h.1),
  )
  commit_after (commit_end.Over end) h = (
    rest_of hall q.number p.number t' r w.number h.0,
    unplaced_after group (txn_of s.draft) (beginning_of hall) p q r end w (subst (λ (d : DraftValue). Unplaced group (txn_of d) (beginning_of hall) q r end) same h.1),
  )

  pub waits_after : Waits group (txn_of t.draft) (beginning_of hall) q r → Waits group (txn_of s.draft) (beginning_of hall) p r
  waits_after v = waits_on group (txn_of s.draft) (beginning_of hall) p q r w (subst (λ (d : DraftValue). Waits group (txn_of d) (beginning_of hall) q r) same v)

module _ {Q : Type 0} (hall : HallOf RoomValue Cache ViewValue Q) (group : ℕ) (txn : ScriptTxn) (turn : ℕ) (t : Txn) (p q r : RoomPass) (w : Waits group txn (beginning_of hall) p q) where
  pub turn_after : (end : TurnEnd) → FinishesTurn hall group txn turn t q r end → FinishesTurn hall group txn turn t p r end
  turn_after end f = record { rest = rest_of hall q.number p.number t r w.number f.rest; runs = runs_after group txn turn (beginning_of hall) p q r w end f.runs }

-- How a transaction's turn ends, from what its steps came to.
use Rattle.std.proofs.Common.{◌≡◌, ℕ, sym, subst}
use Rattle.fine_model.specs.declared.Ending.TheVariants as ending
use Rattle.fine_model.specs.declared.Outcome.TheVariants as outcome
use Rattle.fine_model.specs.declared.ScriptTxn.{ScriptTxn}
use Rattle.node_cache.specs.Cache.{Cache}
use Rattle.partition_hold.specs.Views.{ViewValue}
use Rattle.epoch_room.specs.Value.{RoomValue}
use Rattle.txn_draft.specs.Drafts.{DraftValue}
use Rattle.fine_hall.specs.Halls.{HallOf}
use Rattle.hall_rooms.specs.Rooms.{RoomPass, beginning_of}
use Rattle.hall_rooms.specs.Turning.{MeetsNone}
use Rattle.txn_engine.specs.declared.txn.Txn.{Txn}
use Rattle.txn_tries.specs.declared.turn.TurnEnd.{TurnEnd}
use Rattle.txn_tries.specs.declared.turn.TurnEnd.TheVariants as turn_end
use Rattle.txn_tries.specs.Going.{IsAtRest, OnlySees, Waits, txn_of}
use Rattle.txn_tries.specs.Answering.{IsAnswer, IsUndone, StopsTurn}
use Rattle.txn_tries.specs.Committing.{FinishesTurn, Unplaced}
use Rattle.txn_tries.proofs.Unplaced.{stops_unplaced, unplaced_runs}
use Rattle.txn_tries.proofs.Waiting.{sees_waits}

-- the transaction of a draft is the script's, where the script commits it
pub same_txn : (txn : ScriptTxn) (turn : ℕ) (d : DraftValue) → IsAnswer txn turn d → txn.ending ≡ ending.Commit → txn_of d ≡ txn
same_txn txn turn d a is = λ i. record { lane = a.lane i; calls = a.calls i; ending = sym is i }

module _ {Q : Type 0} (hall : HallOf RoomValue Cache ViewValue Q) (group : ℕ) (txn : ScriptTxn) (turn : ℕ) (t : Txn) (p r : RoomPass) where
  pub unplaced_finishes : (end : TurnEnd) → IsAtRest hall p.number t r → Unplaced group txn (beginning_of hall) p r end → FinishesTurn hall group txn turn t p r end
  unplaced_finishes end rest u = record { rest = rest; runs = unplaced_runs group txn turn (beginning_of hall) p r rest.idle.0.0.lawful end u }

  pub committed_finishes : (d : DraftValue) (end : TurnEnd) → IsAnswer txn turn d → txn.ending ≡ ending.Commit → FinishesTurn hall group (txn_of d) d.turn t p r end → FinishesTurn hall group txn turn t p r end
  committed_finishes d end a is f = subst (λ (u : ScriptTxn). FinishesTurn hall group u turn t p r end) (same_txn txn turn d a is) (subst (λ n. FinishesTurn hall group (txn_of d) n t p r end) a.turn_is f)

  module _ (u : IsUndone hall t p r) where
    seen_only : MeetsNone (beginning_of hall) p r → OnlySees (beginning_of hall) p r
    seen_only met = record { number = u.rest.idle.1; sees = u.sees; meets = met }

    -- the script aborts it
    pub aborted_finishes : MeetsNone (beginning_of hall) p r → txn.ending ≡ ending.Abort → FinishesTurn hall group txn turn t p r (turn_end.Done outcome.Aborted)
    aborted_finishes met is = unplaced_finishes (turn_end.Done outcome.Aborted) u.rest
        (sees_waits group txn (beginning_of hall) p r (seen_only met), record { of = is; run = tt; none = tt; not_full = λ same. cc; cause = λ word same. absurd cc })

    -- a refused call ended it
    pub stopped_finishes : (end : TurnEnd) → StopsTurn (beginning_of hall) txn p r end → FinishesTurn hall group txn turn t p r end
    stopped_finishes end s = unplaced_finishes end u.rest (stops_unplaced group txn (beginning_of hall) p r u.rest.idle.1 u.sees end s)

    -- it met a bucket that another seat held
    pub conflict_waits : MeetsNone (beginning_of hall) p r → Waits group txn (beginning_of hall) p r
    conflict_waits met = sees_waits group txn (beginning_of hall) p r (seen_only met)

-- What faults are told as.
use Rattle.std.specs.Prelude.{ℕ, ◌+◌, nat_lt, min, if◌then◌else◌, None}
use Rattle.fine_model.specs.declared.Damage.TheVariants as damage
use Rattle.fine_model.specs.declared.Ending.{Ending}
use Rattle.fine_model.specs.declared.Ending.TheVariants as ending
use Rattle.fine_model.specs.declared.Outcome.{Outcome}
use Rattle.fine_model.specs.declared.Outcome.TheVariants as outcome
use Rattle.fine_model.specs.declared.RunFault.{RunFault}
use Rattle.fine_model.specs.declared.RunFault.TheVariants as run_fault
use Rattle.fine_model.specs.declared.Why.{Why}
use Rattle.fine_model.specs.declared.Why.TheVariants as why
use Rattle.epoch_room.specs.declared.answers.RoomFault.{RoomFault}
use Rattle.epoch_room.specs.declared.answers.RoomFault.TheVariants as room_fault
use Rattle.txn_engine.specs.declared.txn.TxnFault.{TxnFault}
use Rattle.txn_engine.specs.declared.txn.TxnFault.TheVariants as fault
use Rattle.txn_tries.specs.declared.attempt.Answered.{Answered}
use Rattle.txn_tries.specs.declared.attempt.Answered.TheVariants as answered
use Rattle.txn_tries.specs.declared.turn.TurnEnd.{TurnEnd}
use Rattle.txn_tries.specs.declared.turn.TurnEnd.TheVariants as turn_end

-- a transaction that the script aborts is aborted, where another one is refused
abbrev pub refused_as : Ending → Why → Outcome
refused_as ending.Commit word = outcome.Refused word
refused_as ending.Abort word = outcome.Aborted

-- an end with a fault, where nothing was committed
abbrev pub ended_by : RunFault → TurnEnd
ended_by fault = turn_end.Ended None fault

abbrev pub ends_with : Ending → Why → TurnEnd
ends_with ending word = turn_end.Done (refused_as ending word)

abbrev pub over_with : TurnEnd → Answered
over_with end = answered.Over end

-- what a refused call makes of its transaction
abbrev pub over_by : Ending → TxnFault → Answered
over_by ending (fault.Conflict bucket owner) = answered.Conflict
over_by ending fault.Disk = answered.Over (ended_by run_fault.Disk)
over_by ending (fault.BadRow region at) = answered.Over (ended_by (run_fault.Damaged (damage.Region region at)))
over_by ending (fault.BadIndex region at) = answered.Over (ended_by (run_fault.Damaged (damage.Region region at)))
over_by ending (fault.Unfit id) = answered.Over (ended_by (run_fault.Damaged (damage.Node id)))
over_by ending (fault.BucketFull next depth) = answered.Over (ends_with ending why.Bucket)
over_by ending (fault.Number id) = answered.Over (ends_with ending why.Number)
over_by ending fault.NoMemory = answered.Over (ended_by run_fault.Memory)

-- what a fault of the room ends a lane with
abbrev pub fault_of : RoomFault → RunFault
fault_of room_fault.Disk = run_fault.Disk
fault_of (room_fault.Shut epoch) = run_fault.Disk
fault_of room_fault.NoMemory = run_fault.Memory

-- why rows of a cost are refused where the log is full, by the length of a region
abbrev pub why_on_full : ℕ → ℕ → Why
why_on_full cost region_len = if nat_lt region_len (min (cost + 41) 18446744073709551615) then why.Large else why.Full

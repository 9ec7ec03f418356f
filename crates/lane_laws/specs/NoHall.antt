-- A run for which no hall could be made.
use Rattle.std.specs.Prelude.{ℕ, false, List, length, replicate, Some}
use Rattle.fine_model.specs.declared.Options.{Options}
use Rattle.fine_model.specs.declared.Outcome.TheVariants as outcome
use Rattle.fine_model.specs.declared.Ran.{Ran}
use Rattle.fine_model.specs.declared.RunFault.{RunFault}
use Rattle.fine_model.specs.declared.RunFault.TheVariants as run_fault
use Rattle.fine_model.specs.declared.ScriptTxn.{ScriptTxn}
use Rattle.epoch_room.specs.Value.{RoomValue}
use Rattle.epoch_room.specs.Whole.{IsWhole}
use Rattle.epoch_room.specs.declared.answers.RoomFault.{RoomFault}
use Rattle.epoch_room.specs.declared.answers.RoomFault.TheVariants as room_fault
use Rattle.hall_rooms.specs.Opening.{HandsBack}
use Rattle.run_laws.specs.Runs.{IsReady, RunsLanes}

-- what a fault of a room is for a run
abbrev pub of_room : RoomFault → RunFault
of_room room_fault.Disk = run_fault.Disk
of_room (room_fault.Shut epoch) = run_fault.Disk
of_room room_fault.NoMemory = run_fault.Memory

-- no transaction was run, up to this epoch all is durable, and the fault is this one
abbrev pub not_run : List ScriptTxn → ℕ → RoomFault → Ran
not_run script sealed fault = record { outcomes = replicate (length script) outcome.NotRun; durable = sealed; fault = Some (of_room fault); unsealed = false }

-- Where no hall was made, the fault of its making is the run's, and nothing was run: that is a run.
abbrev pub NoHallLaw : Type 0
NoHallLaw =
    (script : List ScriptTxn) (options : Options) (old back : RoomValue) (fault : RoomFault) → IsReady old → IsWhole back → HandsBack old back fault → RunsLanes script options old back (not_run script back.room.sealed fault)

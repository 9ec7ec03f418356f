-- What a command and a run begin with.
use Rattle.std.specs.Prelude.{List}
use Rattle.command_words.specs.Words.{IsWithin}
use Rattle.command_words.specs.declared.command.Command.{Command as ReadCommand}
use Rattle.log_disk.specs.Disk.{Disk}
use Rattle.fine_model.specs.declared.ScriptTxn.{ScriptTxn}
use Rattle.fine_model.specs.Bounds.{FitsScript}
use Rattle.epoch_room.specs.Whole.{IsIdle}
use Rattle.reopen.specs.declared.chain.Chain.{Chain}
use Rattle.reopen.specs.Opening.{SeesChain}

-- a command's numbers are within their limits, and its disk is idle
pub record MayBegin (command : ReadCommand) (disk : Disk) : Type 0 where
  pub idle : IsIdle disk
  pub within : IsWithin command

-- a script may be run on an idle disk, behind the chain that was found there
pub record IsReadyToRun (script : List ScriptTxn) (disk : Disk) (found : Chain) : Type 0 where
  pub idle : IsIdle disk
  pub sees : SeesChain disk found
  pub fits : FitsScript script

-- What the reader of scripts answers.
use Rattle.std.specs.Prelude.{◌≡◌, ℕ, ◌≤◌, List, Result, Err, ⊤}
use Rattle.fine_model.specs.declared.ScriptTxn.{ScriptTxn}
use Rattle.fine_model.specs.Script.{Refusal, many, too_long, bad_line, script_of}
use Rattle.script_text.specs.declared.read.ScriptFault.{ScriptFault}
use Rattle.script_text.specs.declared.read.ScriptFault.TheVariants as script_fault

-- a fault is the refusal that was to be read, where it is one
abbrev pub IsRefusal : ScriptFault → Result (List ScriptTxn) Refusal → Type 0
IsRefusal (script_fault.Many line) read = read ≡ Err (many line)
IsRefusal (script_fault.TooLong line) read = read ≡ Err (too_long line)
IsRefusal (script_fault.Bad line) read = read ≡ Err (bad_line line)
IsRefusal script_fault.Read read = ⊤
IsRefusal script_fault.NoMemory read = ⊤

-- a fault is the first refusal of these bytes, where it is one
abbrev pub IsRefused : ScriptFault → List ℕ → Type 0
IsRefused fault bytes = IsRefusal fault (script_of bytes)

-- lines are numbered from 1
abbrev pub HasLine : ScriptFault → Type 0
HasLine (script_fault.Many line) = line ≡ 1000001
HasLine (script_fault.TooLong line) = (1 ≤ line) × (line ≤ 1000000)
HasLine (script_fault.Bad line) = (1 ≤ line) × (line ≤ 1000001)
HasLine script_fault.Read = ⊤
HasLine script_fault.NoMemory = ⊤

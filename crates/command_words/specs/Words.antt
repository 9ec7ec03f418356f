-- The command and the geometry that words spell.
use Rattle.std.specs.Prelude.{◌≡◌, ℕ, ◌%◌, ◌≤◌, List, map, slice_get, Option, option_and_then, String, string_bytes, ⊤}
use Rattle.std.specs.declared.alloc.Global.{Global}
use Rattle.fine_model.specs.declared.Options.{Options}
use Rattle.fine_model.specs.Words.{Command, run, dump, ranges, merge, gen, command_of, geometry_of}
use Rattle.fine_model.specs.RowBytes.{longest_region}
use Rattle.command_words.specs.declared.command.Command.{Command as ReadCommand}
use Rattle.command_words.specs.declared.command.Command.TheVariants as command

-- a command, in the words of the definitions
abbrev pub meant : ReadCommand → Command
meant (command.Run options) = run options
meant command.Dump = dump
meant command.Ranges = ranges
meant command.Merge = merge
meant (command.Gen start count lanes) = gen start count lanes

-- the command that words spell
abbrev pub command_in : List (String Global) → Option Command
command_in words = command_of (map string_bytes words)

-- the options of `run` are within their limits
pub record AreWithin (options : Options) : Type 0 where
  pub group : (1 ≤ options.group) × (options.group ≤ 100000)
  pub tries : (1 ≤ options.tries) × (options.tries ≤ 1000000)
  pub keep : (1 ≤ options.keep) × (options.keep ≤ 256)

-- the numbers of a command are within their limits
abbrev pub IsWithin : ReadCommand → Type 0
IsWithin (command.Run options) = AreWithin options
IsWithin command.Dump = ⊤
IsWithin command.Ranges = ⊤
IsWithin command.Merge = ⊤
IsWithin (command.Gen start count lanes) = (count ≤ 100000) × (1 ≤ lanes) × (lanes ≤ 16)

-- the geometry that the second word spells
abbrev pub geometry_in : List (String Global) → Option (ℕ × ℕ)
geometry_in words = option_and_then (λ word. geometry_of (string_bytes word)) (slice_get words 1)

-- 4 to 64 regions of 4 KiB to 64 MiB, in whole KiB
pub record IsGeometry (geometry : ℕ × ℕ) : Type 0 where
  pub regions : (4 ≤ geometry.0) × (geometry.0 ≤ 64)
  pub region_len : (4096 ≤ geometry.1) × (geometry.1 ≤ longest_region)
  pub whole_kib : geometry.1 % 1024 ≡ 0

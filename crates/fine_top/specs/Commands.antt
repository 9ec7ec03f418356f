-- What each command does, and what they all leave.
use Rattle.std.specs.Prelude.{◌≡◌, ℕ, ◌<◌, List, [], ◌∷◌, ◌++◌, Option, Some, None}
use Rattle.log_disk.specs.Disk.{Disk, Told, HasRisen}
use Rattle.log_disk.specs.Moments.{ContinuesOn}
use Rattle.fine_model.specs.declared.Options.{Options}
use Rattle.fine_model.specs.declared.Row.{Row}
use Rattle.fine_model.specs.Chain.{Shows}
use Rattle.fine_model.specs.Commands.{WordsTheorem}
use Rattle.fine_model.specs.Headline.{OneOf}
use Rattle.fine_model.specs.Trees.{IsSound}
use Rattle.fine_model.specs.Words.{Command, run, dump, ranges, merge, gen}
use Rattle.log_commands.specs.Ends.{Ends as EndsListing, MergesAnyWell, MergesWell, RangesWell}
use Rattle.log_commands.specs.Found.{FindsChain}
use Rattle.log_commands.specs.Merged.{MergesLog}
use Rattle.log_commands.specs.Dumps.{DumpsAny, DumpsWell, Ends as EndsDump}
use Rattle.fine_top.specs.Generating.{Ends as EndsGen, GensAny, GensWell, Numbers, numbers}
use Rattle.fine_top.specs.Opened.{IsOpenedLog, IsUnsoundLog}
use Rattle.fine_top.specs.Running.{Ends, IsRefused, LeavesBeside, OfTold, RunsAny, RunsWell, SpellsScript}

-- What a call is given and what it leaves, as far as a clause speaks of it: the script's bytes where the source tells them, the counts of faults of the source and of the output
-- before and after, the disk before and after, the status, and the output's bytes before and after.
pub record Seen : Type 0 where
  pub left : Option (List ℕ)
  pub source : ℕ × ℕ
  pub output : ℕ × ℕ
  pub old : Disk
  pub new : Disk
  pub status : ℕ
  pub was : Option (List ℕ)
  pub now : Option (List ℕ)

abbrev pub seen : Option (List ℕ) → ℕ × ℕ → ℕ × ℕ → Disk → Disk → ℕ → Option (List ℕ) → Option (List ℕ) → Seen
seen left source output old new status was now = record { left = left; source = source; output = output; old = old; new = new; status = status; was = was; now = now }

-- the statuses of a command, or of words that spell none
abbrev pub statuses_of : Option Command → List ℕ
statuses_of None = 1 ∷ 2 ∷ 5 ∷ []
statuses_of (Some (run options)) = 0 ∷ 1 ∷ 3 ∷ 4 ∷ 5 ∷ 6 ∷ 7 ∷ 8 ∷ []
statuses_of (Some dump) = 0 ∷ 1 ∷ 5 ∷ 6 ∷ 7 ∷ []
statuses_of (Some ranges) = 0 ∷ 1 ∷ 5 ∷ 6 ∷ 7 ∷ []
statuses_of (Some merge) = 0 ∷ 1 ∷ 5 ∷ 6 ∷ 7 ∷ []
statuses_of (Some (gen start count lanes)) = 0 ∷ 1 ∷ 5 ∷ 6 ∷ 7 ∷ 8 ∷ []

-- Words that spell no command: the disk is as it was, and where the output is told their theorem holds.
pub record RefusesWords (output : ℕ × ℕ) (old new : Disk) (status : ℕ) (was now : Option (List ℕ)) : Type 0 where
  pub same : new ≡ old
  pub holds : (first : List ℕ) → was ≡ Some first → (written : List ℕ) × (now ≡ Some (first ++ written)) × WordsTheorem (HasRisen output.0 output.1) (new ≡ old) status written

-- what the disk tells stays where a command writes nothing
abbrev pub IsReading : Command → Type 0
IsReading dump = Unit {0}
IsReading ranges = Unit {0}
IsReading _ = ⊥

-- What every command leaves. Status 4, 5 and 6 come only where the count of the source, the output, the disk rose, and where the disk's count is greater than it was, 1, 5 or 6 comes; 7 comes on a
-- log alone that is not sound; with 0 and 8 the chain was found.
pub record Leaves (command : Option Command) (s : Seen) : Type 0 where
  pub status_is : OneOf (statuses_of command) s.status
  pub source_failed : s.status ≡ 4 → HasRisen s.source.0 s.source.1
  pub output_failed : s.status ≡ 5 → HasRisen s.output.0 s.output.1
  pub disk_failed : s.status ≡ 6 → HasRisen s.old.faults s.new.faults
  pub disk_told : s.old.faults < s.new.faults → OneOf (1 ∷ 5 ∷ 6 ∷ []) s.status
  pub damaged : s.status ≡ 7 → IsUnsoundLog s.old
  pub opened : OneOf (0 ∷ 8 ∷ []) s.status → IsOpenedLog s.old
  pub untouched : OneOf (2 ∷ 3 ∷ 4 ∷ []) s.status → s.new ≡ s.old
  pub beside : LeavesBeside s.old s.new
  pub time : ContinuesOn s.old s.new
  pub still : (c : Command) → command ≡ Some c → IsReading c → s.new.told ≡ s.old.told

-- ---- each command by itself

pub record DoesRun (options : Options) (s : Seen) : Type 0 where
  pub ends : Ends options (HasRisen s.source.0 s.source.1) s.left s.old s.new s.status s.was s.now
  pub run : RunsWell options s.left s.source s.output s.old s.new s.status s.was s.now
  pub any : RunsAny s.left s.source s.output s.old s.new s.status s.was s.now
  pub script : s.status ≡ 3 → OfTold s.left IsRefused
  pub refused : OfTold s.left (λ bytes. IsRefused bytes → OneOf (1 ∷ 3 ∷ 4 ∷ 5 ∷ []) s.status)

pub record DoesRanges (s : Seen) : Type 0 where
  pub ends : EndsListing (FindsChain s.old s.new) s.status s.was s.now
  pub ranges : RangesWell s.output s.old s.new s.status s.was s.now

pub record DoesMerge (s : Seen) : Type 0 where
  pub ends : EndsListing (MergesLog s.old s.new) s.status s.was s.now
  pub merge : MergesWell s.output s.old s.new s.status s.was s.now
  pub any : MergesAnyWell s.output s.old s.new s.status s.was s.now

pub record DoesDump (s : Seen) : Type 0 where
  pub ends : EndsDump s.old s.new s.status s.was s.now
  pub dump : DumpsWell s.output s.old s.new s.status s.was s.now
  pub any : DumpsAny s.output s.old s.new s.status s.was s.now

pub record DoesGen (n : Numbers) (s : Seen) : Type 0 where
  pub ends : EndsGen n s.old s.new s.status s.was s.now
  pub gen : GensWell n s.output s.old s.new s.status s.was s.now
  pub any : GensAny n s.output s.old s.new s.status s.was s.now

-- what each command does
abbrev pub Own : Option Command → Seen → Type 0
Own None s = RefusesWords s.output s.old s.new s.status s.was s.now
Own (Some (run options)) s = DoesRun options s
Own (Some dump) s = DoesDump s
Own (Some ranges) s = DoesRanges s
Own (Some merge) s = DoesMerge s
Own (Some (gen start count lanes)) s = DoesGen (numbers start count lanes) s

pub record Does (command : Option Command) (s : Seen) : Type 0 where
  pub leaves : Leaves command s
  pub own : Own command s

-- ---- completeness

-- the script may be run, where the command reads one
abbrev pub HasScript : Option Command → Option (List ℕ) → Type 0
HasScript None left = ⊥
HasScript (Some (run options)) left = (bytes : List ℕ) × (left ≡ Some bytes) × SpellsScript bytes
HasScript (Some _) left = Unit {0}

-- the disk tells a sound log
pub record TellsSound (disk : Disk) : Type 0 where
  pub told : Told
  pub is_told : disk.told ≡ Some told
  pub e : ℕ
  pub rows : List Row
  pub shows : Shows disk.region_len told.bytes e rows
  pub sound : IsSound rows

-- no count of faults rose
pub record NoneRose (source output : ℕ × ℕ) (old new : Disk) : Type 0 where
  pub source_still : HasRisen source.0 source.1 → ⊥
  pub output_still : HasRisen output.0 output.1 → ⊥
  pub disk_still : HasRisen old.faults new.faults → ⊥

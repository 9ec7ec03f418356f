-- How `dump` ends, and its theorems where the disk tells its bytes and the output what was written.
use Rattle.std.specs.Prelude.{◌≡◌, ◌⊎◌, ℕ, ◌++◌, List, [], Option, Some, Result, Ok, Err}
use Rattle.log_disk.specs.Disk.{Disk, OnlyFails, Told}
use Rattle.fine_model.specs.declared.Damage.{Damage}
use Rattle.fine_model.specs.declared.Row.{Row}
use Rattle.fine_model.specs.declared.RunFault.{RunFault}
use Rattle.fine_model.specs.declared.RunFault.TheVariants as run_fault
use Rattle.fine_model.specs.Chain.{Shows, chain}
use Rattle.fine_model.specs.Commands.{DumpDamagedTheorem, DumpTheorem}
use Rattle.fine_model.specs.Damages.{IsUnsound}
use Rattle.fine_model.specs.Map.{Pair}
use Rattle.fine_model.specs.Regions.{Image}
use Rattle.fine_model.specs.Report.{dump}
use Rattle.fine_model.specs.Trees.{IsSound}
use Rattle.run_laws.specs.Law.{return_of, start_of}
use Rattle.reopen.specs.Opening.{IsSeen, OpensRoom}
use Rattle.script_text.specs.Streams.{Puts}
use Rattle.epoch_room.specs.Meaning.{StandsAtFirst}
use Rattle.epoch_room.specs.Value.{RoomValue}
use Rattle.epoch_room.specs.Whole.{IsWhole}
use Rattle.log_commands.specs.Ends.{status_of, text_by}
use Rattle.log_commands.specs.Maps.{AnswersRows, ReadsMap, tells_room}

-- ---- what was found

-- a chain of the log, by what was read of it, is damaged
pub record HasNoChain (disk : Disk) (what : Damage) : Type 0 where
  pub image : Image
  pub is_seen : IsSeen disk image
  pub damaged : chain disk.region_len image ≡ Err what

-- the log was opened, and its map was read in the room, whose disk is given back
pub record ReadsLog (old new : Disk) (found : Result (List Pair) RunFault) : Type 0 where
  pub room : RoomValue
  pub opens : OpensRoom old room
  pub whole : IsWhole room
  pub stands : StandsAtFirst room old.told
  pub behind : RoomValue
  pub of_disk : new ≡ behind.disk
  pub behind_whole : IsWhole behind
  pub reads : ReadsMap room behind found
  pub map : (rows : List Row) → tells_room room rows → AnswersRows rows found

-- or its chain was not found
abbrev pub FailsOpening : Disk → Disk → Result (List Pair) RunFault → Type 0
FailsOpening old new (Ok pairs) = ⊥
FailsOpening old new (Err run_fault.Memory) = new ≡ old
FailsOpening old new (Err run_fault.Disk) = OnlyFails old new
FailsOpening old new (Err (run_fault.Damaged what)) = (new ≡ old) × HasNoChain old what

abbrev pub FindsDump : Disk → Disk → Result (List Pair) RunFault → Type 0
FindsDump old new found = ReadsLog old new found ⊎ FailsOpening old new found

-- ---- what is printed

-- the text of what was found: the pairs', or the line of a fault
abbrev pub text_of : Result (List Pair) RunFault → List ℕ
text_of found = text_by dump found

-- What was found was printed: the whole text was written and the status is its own, or the output failed, a first part of the text was written, and the status is 5.
pub record Prints (found : Result (List Pair) RunFault) (status : ℕ) (was now : Option (List ℕ)) : Type 0 where
  pub status_is : (status ≡ 5) ⊎ (status ≡ status_of found)
  pub puts : Puts (text_of found) (status ≡ 5) was now

-- the map of a room was read and printed, and its disk given back
pub record EndsRoom (room : RoomValue) (new : Disk) (status : ℕ) (was now : Option (List ℕ)) : Type 0 where
  pub behind : RoomValue
  pub of_disk : new ≡ behind.disk
  pub whole : IsWhole behind
  pub found : Result (List Pair) RunFault
  pub reads : ReadsMap room behind found
  pub map : (rows : List Row) → tells_room room rows → AnswersRows rows found
  pub prints : Prints found status was now

-- how the command ended
pub record Ends (old new : Disk) (status : ℕ) (was now : Option (List ℕ)) : Type 0 where
  pub found : Result (List Pair) RunFault
  pub is_found : FindsDump old new found
  pub prints : Prints found status was now

-- ---- the theorems

-- On every sound log that the disk told at entry: its map is printed. Of the output the counts of faults before and after are known; those of a source matter to no status,
-- and are any.
pub record DumpsWell (output : ℕ × ℕ) (old new : Disk) (status : ℕ) (was now : Option (List ℕ)) : Type 0 where
  pub holds : (source : ℕ × ℕ) (first : List ℕ) (before : Told) (e : ℕ) (rows : List Row) → was ≡ Some first → old.told ≡ Some before → Shows old.region_len before.bytes e rows → IsSound rows
      → (after : Told) × (new.told ≡ Some after) × (written : List ℕ) × (now ≡ Some (first ++ written))
      × DumpTheorem (start_of [] old e rows) (return_of old new source output before after) (new.told ≡ old.told) status written

-- On every log that the disk told at entry, sound or not: the pairs that are found by the bytes at entry are printed, or damage that is there.
pub record DumpsAny (output : ℕ × ℕ) (old new : Disk) (status : ℕ) (was now : Option (List ℕ)) : Type 0 where
  pub holds : (source : ℕ × ℕ) (first : List ℕ) (before : Told) → was ≡ Some first → old.told ≡ Some before
      → (after : Told) × (new.told ≡ Some after) × (written : List ℕ) × (now ≡ Some (first ++ written))
      × DumpDamagedTheorem old.region_len before.bytes (return_of old new source output before after) (new.told ≡ old.told) status written

-- a log that the disk tells is not sound
abbrev pub IsUnsoundLog : Disk → Type 0
IsUnsoundLog disk = (before : Told) → disk.told ≡ Some before → IsUnsound disk.region_len before.bytes

-- what stands beside what the disk tells: the geometry, and no eye is open
pub record LeavesBeside (old new : Disk) : Type 0 where
  pub regions : new.regions ≡ old.regions
  pub region_len : new.region_len ≡ old.region_len
  pub no_eyes : new.eyes ≡ []

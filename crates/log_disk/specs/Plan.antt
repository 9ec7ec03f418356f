-- The plan of the calls of a disk that fail, and how many calls there were.
use Rattle.std.specs.Prelude.{ℕ, ◌+◌, Bool, ◌&&◌, ◌||◌, not, ◌==◌, nat_le, min, List, [], map, filter}
use Rattle.std.specs.List.{list_any}
use Rattle.log_disk.specs.Disk.{Disk, Eye, last_count}

-- Which calls fail: the numbers, from 1, of the reads, the writes, the syncs and the openings of eyes; pairs of an eye's number
-- and the number of a read of it; and the number, over the four kinds together, from which all fail, of which the last says never.
pub record Plan : Type 0 where
  pub reads : List ℕ
  pub writes : List ℕ
  pub syncs : List ℕ
  pub eyes : List ℕ
  pub eye_reads : List (ℕ × ℕ)
  pub stop : ℕ

-- how many calls of each kind there were, and of the four together
pub record Calls : Type 0 where
  pub reads : ℕ
  pub writes : ℕ
  pub syncs : ℕ
  pub eyes : ℕ
  pub all : ℕ

-- a disk with a plan, and an eye with the numbers of its reads that fail and of those that there were
pub record PlannedDisk : Type 0 where
  pub disk : Disk
  pub plan : Plan
  pub calls : Calls

pub record PlannedEye : Type 0 where
  pub eye : Eye
  pub fails : List ℕ
  pub reads : ℕ

abbrev pub no_faults : Plan
no_faults = record { reads = []; writes = []; syncs = []; eyes = []; eye_reads = []; stop = last_count }

abbrev pub no_calls : Calls
no_calls = record { reads = 0; writes = 0; syncs = 0; eyes = 0; all = 0 }

-- one call more, as a counter has it, and one of each kind
abbrev pub next : ℕ → ℕ
next calls = min (calls + 1) last_count

abbrev pub one_read : Calls → Calls
one_read calls = record { reads = next calls.reads; writes = calls.writes; syncs = calls.syncs; eyes = calls.eyes; all = next calls.all }

abbrev pub one_write : Calls → Calls
one_write calls = record { reads = calls.reads; writes = next calls.writes; syncs = calls.syncs; eyes = calls.eyes; all = next calls.all }

abbrev pub one_sync : Calls → Calls
one_sync calls = record { reads = calls.reads; writes = calls.writes; syncs = next calls.syncs; eyes = calls.eyes; all = next calls.all }

abbrev pub one_eye : Calls → Calls
one_eye calls = record { reads = calls.reads; writes = calls.writes; syncs = calls.syncs; eyes = next calls.eyes; all = next calls.all }

-- a number stands in a list
abbrev pub is_planned : List ℕ → ℕ → Bool
is_planned numbers call = list_any (λ n. n == call) numbers

-- a plan's `stop` has come, of which the last number says never
abbrev pub is_stopped : ℕ → ℕ → Bool
is_stopped stop calls = not (stop == last_count) && nat_le stop calls

-- the last call of a kind is one that fails
abbrev pub read_fails : Plan → Calls → Bool
read_fails plan calls = is_stopped plan.stop calls.all || is_planned plan.reads calls.reads

abbrev pub write_fails : Plan → Calls → Bool
write_fails plan calls = is_stopped plan.stop calls.all || is_planned plan.writes calls.writes

abbrev pub sync_fails : Plan → Calls → Bool
sync_fails plan calls = is_stopped plan.stop calls.all || is_planned plan.syncs calls.syncs

abbrev pub eye_fails : Plan → Calls → Bool
eye_fails plan calls = is_stopped plan.stop calls.all || is_planned plan.eyes calls.eyes

-- the numbers of the reads of an eye that fail
abbrev pub eye_reads_of : Plan → ℕ → List ℕ
eye_reads_of plan eye = map (λ p. p.1) (filter (λ p. p.0 == eye) plan.eye_reads)

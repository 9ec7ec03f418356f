-- How the lanes of a run ended.
use Rattle.std.specs.Prelude.{◌≡◌, ◌≢◌, ◌⊎◌, ℕ, ◌+◌, ◌-◌, ◌≤◌, nat_lt, Bool, true, false, if◌then◌else◌, is_some, List, [], ◌∷◌, ◌++◌, length, count_by, fold, replicate, slice_get, unwrap_or, Option, None, Some, Contains}
use Rattle.std.specs.List.{AllByRecursion, range_with_len}
use Rattle.fine_model.specs.declared.Outcome.{Outcome}
use Rattle.fine_model.specs.declared.Outcome.TheVariants as outcome
use Rattle.fine_model.specs.declared.RunFault.{RunFault}
use Rattle.fine_model.specs.declared.RunFault.TheVariants as run_fault
use Rattle.fine_model.specs.declared.ScriptTxn.{ScriptTxn}
use Rattle.fine_model.specs.Outcomes.{AllRun, lanes_not_run}

-- the lanes that a script may name are numbered from 1 on
abbrev pub most_lanes : ℕ
most_lanes = 16

abbrev pub IsLane : ℕ → Type 0
IsLane lane = (1 ≤ lane) × (lane ≤ most_lanes)

-- no lane has ended
abbrev pub none_ended : List (Option RunFault)
none_ended = replicate most_lanes None

-- the fault that ended a lane, if one did
abbrev pub fault_of : List (Option RunFault) → ℕ → Option RunFault
fault_of faults lane = unwrap_or (slice_get faults (lane - 1)) None

-- which of several faults a run tells: want of memory before a failed disk, and this before damage
abbrev pub rank : Option RunFault → ℕ
rank (Some run_fault.Memory) = 0
rank (Some run_fault.Disk) = 1
rank (Some (run_fault.Damaged what)) = 2
rank None = 3

abbrev pub sooner : Option RunFault → Option RunFault → Option RunFault
sooner a b = if nat_lt (rank b) (rank a) then b else a

-- of equal ones that of the lowest lane
unfoldable pub first_fault : List (Option RunFault) → Option RunFault
first_fault faults = fold sooner None faults

-- the faults of lanes, and after them one that ended none, if there is one
abbrev pub with_last : List (Option RunFault) → Option RunFault → List (Option RunFault)
with_last faults None = faults
with_last faults (Some fault) = faults ++ Some fault ∷ []

-- it is one of them, if any is told, and none would be told before it
pub record IsSoonest (faults : List (Option RunFault)) (told : Option RunFault) : Type 0 where
  pub among : (told ≡ None) ⊎ Contains faults told
  pub soonest : AllByRecursion (λ fault. rank told ≤ rank fault) faults

-- ---- what ended lanes leave

-- what was not run is of lanes that have ended
abbrev pub HaveEnded : List ScriptTxn → List Outcome → List (Option RunFault) → Type 0
HaveEnded script outcomes faults = (i : ℕ) (txn : ScriptTxn) → slice_get script i ≡ Some txn → slice_get outcomes i ≡ Some outcome.NotRun → is_some (fault_of faults txn.lane) ≡ true

abbrev pub is_disk : Option RunFault → Bool
is_disk (Some run_fault.Disk) = true
is_disk _ = false

-- how many lanes a failed disk has ended
abbrev pub lanes_failed : List (Option RunFault) → ℕ
lanes_failed faults = count_by (λ lane. is_disk (fault_of faults lane)) (range_with_len 1 most_lanes)

-- a lane has ended by a fault, and no other by it: a failed disk has ended at most one more
pub record EndsLane (old new : List (Option RunFault)) (lane : ℕ) (fault : RunFault) : Type 0 where
  pub ended : fault_of new lane ≡ Some fault
  pub others : (other : ℕ) → 1 ≤ other → other ≢ lane → fault_of new other ≡ fault_of old other
  pub counted : lanes_failed new ≤ lanes_failed old + (if is_disk (Some fault) then 1 else 0)

-- each fault that ended a lane has P
abbrev pub EndedBy : (RunFault → Type 0) → List (Option RunFault) → Type 0
EndedBy P faults = (fault : RunFault) → Contains faults (Some fault) → P fault

-- Where no lane has ended, all was run. Where none has but by a failed disk, no more lanes were cut short than it ended.
pub record CutShort (script : List ScriptTxn) (outcomes : List Outcome) (faults : List (Option RunFault)) : Type 0 where
  pub all_run : EndedBy (λ fault. ⊥) faults → AllRun outcomes
  pub few : EndedBy (λ fault. fault ≡ run_fault.Disk) faults → lanes_not_run script outcomes ≤ lanes_failed faults

abbrev pub CutShortLaw : Type 0
CutShortLaw = (script : List ScriptTxn) (outcomes : List Outcome) (faults : List (Option RunFault)) → length outcomes ≡ length script → HaveEnded script outcomes faults → CutShort script outcomes faults

-- What a fetch of a node from parts answers.
use Rattle.std.specs.Prelude.{◌≡◌, ℕ, ◌+◌, ◌≤◌, List, Result, IfOk, IsErrOf, MatchResult, Any}
use Rattle.std.specs.List.{AllByRecursion}
use Rattle.log_disk.specs.Disk.{Eye}
use Rattle.fine_model.specs.declared.FetchFault.{FetchFault}
use Rattle.fine_model.specs.declared.FetchFault.TheVariants as fetch_fault
use Rattle.fine_model.specs.declared.Node.{Node}
use Rattle.fine_model.specs.declared.NodeId.{NodeId}
use Rattle.fine_model.specs.declared.Part.{Part}
use Rattle.fine_model.specs.declared.Row.{Row}
use Rattle.fine_model.specs.Nodes.{content, rows_of}
use Rattle.fine_model.specs.RowBytes.{rows_len}
use Rattle.partition_index.specs.Parts.{IsSeen}
use Rattle.node_fetch.specs.Fetched.{IsReplayOf, HasBadRow, HasBadEntry, NoDamage, TellsParts, most_sought}

-- an eye sees all of some parts, over regions of this length
pub record SeesAll (eye : Eye) (region_len : ℕ) (parts : List Part) : Type 0 where
  pub seen : AllByRecursion (IsSeen eye) parts
  pub len : region_len ≡ eye.region_len

-- by what an eye gave, and by what it tells, this is what a fetch found, and what it took
pub record IsFetched (parts : List Part) (id : NodeId) (region_len : ℕ) (old new : Eye) (result : Result (Node × ℕ) FetchFault) : Type 0 where
  pub read : IfOk result (IsReplayOf old parts id)
  pub bad_row : (region at : ℕ) → IsErrOf result (fetch_fault.BadRow region at) → Any (λ p. HasBadRow old.told region_len p id (record { region = region; at = at })) parts
  pub bad_index : (region at : ℕ) → IsErrOf result (fetch_fault.BadIndex region at) → Any (λ p. HasBadEntry old.told region_len p (record { region = region; at = at })) parts
  pub exact : (rows : List Row) → TellsParts old parts rows → MatchResult result (λ found. found ≡ content rows id) NoDamage
  pub taken : (rows : List Row) → TellsParts old parts rows → new.taken ≤ old.taken + (most_sought parts + rows_len (rows_of id rows))

-- A view as a source of nodes.
use Rattle.std.specs.Prelude.{◌≡◌, ◌≤◌, List, Any}
use Rattle.log_disk.specs.Disk.{HasRisen}
use Rattle.fine_model.specs.declared.FetchFault.{FetchFault}
use Rattle.fine_model.specs.declared.FetchFault.TheVariants as fetch_fault
use Rattle.fine_model.specs.declared.NodeId.{NodeId}
use Rattle.fine_model.specs.declared.Row.{Row}
use Rattle.fine_model.specs.Views.{TellsRows}
use Rattle.node_cache.specs.Given.{Finds}
use Rattle.node_fetch.specs.Fetched.{HasBadEntry, HasBadRow, IsReplayOf}
use Rattle.partition_hold.specs.Views.{SameView, ViewValue, state_of}

-- the rows that a view tells
abbrev pub tells_rows : ViewValue → List Row → Type 0
tells_rows v rows = TellsRows (state_of v) rows

-- the contents that a view may find in a node: the replay of what was read of its parts
abbrev pub finds_in : ViewValue → Finds
finds_in v id found = IsReplayOf v.eye v.parts id found

-- a view some loads later
pub record IsLater (old new : ViewValue) : Type 0 where
  pub same : SameView old new
  pub no_lower : old.eye.faults ≤ new.eye.faults

-- and none of these loads failed
abbrev pub IsClean : ViewValue → ViewValue → Type 0
IsClean old new = new.eye.faults ≡ old.eye.faults

-- what a view tells is not in the grammar
abbrev pub TellsNone : ViewValue → Type 0
TellsNone v = (rows : List Row) → tells_rows v rows → ⊥

-- What a fault of a load says: a failure that the eye's count of faults rose, damage that a place of a part is bad by what was read and
-- that the view tells no rows.
abbrev pub Fails : ViewValue → FetchFault → ViewValue → Type 0
Fails old fetch_fault.Failed new = HasRisen old.eye.faults new.eye.faults
Fails old (fetch_fault.BadRow region at) new = TellsNone old × ((node : NodeId) × Any (λ p. HasBadRow old.eye.told old.region_len p node (record { region = region; at = at })) old.parts)
Fails old (fetch_fault.BadIndex region at) new = TellsNone old × Any (λ p. HasBadEntry old.eye.told old.region_len p (record { region = region; at = at })) old.parts
Fails old fetch_fault.NoMemory new = Unit {0}

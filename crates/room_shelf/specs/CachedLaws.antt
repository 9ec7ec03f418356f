-- What holds of the states of a source that loads no nodes: they are all the same, and its one fault is no damage.
use Rattle.std.proofs.Common.{◌≡◌, List, sym, subst}
use Rattle.fine_model.specs.declared.FetchFault.{FetchFault}
use Rattle.fine_model.specs.declared.FetchFault.TheVariants as fetch_fault
use Rattle.fine_model.specs.declared.NodeId.{NodeId}
use Rattle.fine_model.specs.declared.Row.{Row}
use Rattle.fine_model.specs.Nodes.{Content}
use Rattle.node_cache.specs.Given.{OnCleanFault}
use Rattle.partition_hold.specs.Sources.{finds_in, tells_rows}
use Rattle.epoch_room.specs.Value.{RoomValue}
use Rattle.room_shelf.specs.Shelves.{sight}

pub later_tells : (s t : RoomValue) (rows : List Row) → t ≡ s → tells_rows (sight s) rows → tells_rows (sight t) rows
later_tells s t rows l told = subst (λ r. tells_rows (sight r) rows) (sym l) told

pub tells_before : (s t : RoomValue) (rows : List Row) → t ≡ s → tells_rows (sight t) rows → tells_rows (sight s) rows
tells_before s t rows l told = subst (λ r. tells_rows (sight r) rows) l told

pub finds_before : (s t : RoomValue) (id : NodeId) (found : Content) → t ≡ s → finds_in (sight t) id found → finds_in (sight s) id found
finds_before s t id found l f = subst (λ r. finds_in (sight r) id found) l f

pub fails_told : (s t : RoomValue) (rows : List Row) (fault : FetchFault) → tells_rows (sight s) rows → fault ≡ fetch_fault.NoMemory → OnCleanFault fault ⊥
fails_told s t rows fault told f = subst (λ x. OnCleanFault x ⊥) (sym f) tt

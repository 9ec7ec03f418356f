-- The faults of a transaction.
use Rattle.std.specs.Prelude.{true}
use Rattle.fine_model.specs.declared.FetchFault.{FetchFault}
use Rattle.fine_model.specs.declared.FetchFault.TheVariants as fetch_fault
use Rattle.btree_nodes.specs.declared.fault.TreeFault.{TreeFault}
use Rattle.btree_nodes.specs.declared.fault.TreeFault.TheVariants as tree_fault
use Rattle.txn_engine.specs.declared.txn.TxnFault.{TxnFault}
use Rattle.txn_engine.specs.declared.txn.TxnFault.TheVariants as fault
use Rattle.txn_engine.specs.declared.txn.Txn.{Txn}
use Rattle.epoch_room.specs.declared.answers.Fit.{Fit}
use Rattle.epoch_room.specs.declared.answers.Fit.TheVariants as fit
use Rattle.txn_engine.specs.declared.txn.CommitFault.{CommitFault}
use Rattle.txn_engine.specs.declared.txn.CommitFault.TheVariants as commit_fault

-- what a fault of a source is for a transaction
abbrev pub source_fault : FetchFault → TxnFault
source_fault fetch_fault.Failed = fault.Disk
source_fault (fetch_fault.BadRow region at) = fault.BadRow region at
source_fault (fetch_fault.BadIndex region at) = fault.BadIndex region at
source_fault fetch_fault.NoMemory = fault.NoMemory

-- and one of a tree
abbrev pub fault_of : TreeFault → TxnFault
fault_of (tree_fault.Source failed) = source_fault failed
fault_of (tree_fault.Unfit id) = fault.Unfit id
fault_of (tree_fault.BucketFull next depth) = fault.BucketFull next depth
fault_of (tree_fault.Number id) = fault.Number id
fault_of tree_fault.NoMemory = fault.NoMemory

-- what want of memory makes of a transaction; another fault leaves it
abbrev pub after_fault : TxnFault → Txn → Txn
after_fault fault.NoMemory t = record t { draft = record t.draft { failed = true } }
after_fault _ t = t

-- what the room says where it refuses a commit so
abbrev pub refusal_of : CommitFault → Fit
refusal_of (commit_fault.Shut epoch) = fit.Shut epoch
refusal_of (commit_fault.Number epoch place) = fit.Number epoch place
refusal_of (commit_fault.TooLarge need room) = fit.TooLarge need room
refusal_of (commit_fault.Full free live retired) = fit.Full free live retired
refusal_of (commit_fault.EpochFull need room) = fit.EpochFull need room

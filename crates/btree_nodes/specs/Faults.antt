-- The faults of tree calls.
use Rattle.fine_model.specs.declared.FetchFault.{FetchFault}
use Rattle.fine_model.specs.declared.NodeId.{NodeId}
use Rattle.btree_nodes.specs.declared.fault.TreeFault.{TreeFault}
use Rattle.btree_nodes.specs.declared.fault.TreeFault.TheVariants.{Source, Unfit, BucketFull, Number, NoMemory}

-- what holds with each fault of a call that goes down a tree and changes nothing
abbrev pub OnFault : TreeFault → (FetchFault → Type 0) → (NodeId → Type 0) → Type 0 → Type 0
OnFault (Source fault) S U M = S fault
OnFault (Unfit id) S U M = U id
OnFault (BucketFull next depth) S U M = ⊥
OnFault (Number id) S U M = ⊥
OnFault NoMemory S U M = M

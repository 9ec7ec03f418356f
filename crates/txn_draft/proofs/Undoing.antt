-- What undoing leaves after any answer.
use Rattle.std.proofs.Common.{Ok, Err}
use Rattle.btree_nodes.specs.declared.fault.TreeFault.TheVariants.{Source, Unfit, BucketFull, Number, NoMemory}
use Rattle.txn_draft.specs.Undoing.{RestoresLaw, UndoesLaw}

pub restored : RestoresLaw
restored rows c d d' b (Ok done) h = h.1.restores
restored rows c d d' b (Err (Source f)) h = h.restores
restored rows c d d' b (Err (Unfit id)) h = absurd h
restored rows c d d' b (Err (BucketFull m depth)) h = h.2.restores
restored rows c d d' b (Err (Number id)) h = h.2.restores
restored rows c d d' b (Err NoMemory) h = h

pub undone : UndoesLaw
undone low taken b rows (Ok done) u = u.undoes
undone low taken b rows (Err (Source f)) u = u.undoes
undone low taken b rows (Err (Unfit id)) u = u.undoes
undone low taken b rows (Err (BucketFull m d)) u = u.undoes
undone low taken b rows (Err (Number id)) u = u.undoes
undone low taken b rows (Err NoMemory) u = u

use Rattle.std.proofs.Common.{◌∷◌, [], arith, length}
use Rattle.fine_model.specs.declared.Rec.TheVariants as rec
use Rattle.fine_model.specs.RowBytes.{body, pair_bytes}
use Rattle.node_record.proofs.Writing.{item_fits}
use Rattle.node_record.proofs.bodies.leaf.write.Goals as goal

pub write-requires-clause-room : goal.write-requires-clause-room
unfolding body
write-requires-clause-room c =
    item_fits pair_bytes _ _ (length c.args.pairs.now ∷ []) (body (rec.LeafImage c.args.pairs.now)) c.args.pairs.now _ c.loop-pair.pair-index c.pair-item.result c.as_slice-pair-items.ensures c.loop-pair-test.true c.pair-item.is c.requires.room (omega arith) c.loop-pair.invariant

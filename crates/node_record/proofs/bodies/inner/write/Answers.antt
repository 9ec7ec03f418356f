use Rattle.std.proofs.Common.{◌∷◌, arith, ap, length, length-append}
use Rattle.std.specs.List.{flat_map}
use Rattle.std.specs.Int.{to_be_bytes, w32}
use Rattle.std.proofs.lemmas.List.Folds.{length-flat_map-take}
use Rattle.fine_model.specs.declared.Rec.TheVariants as rec
use Rattle.fine_model.specs.RowBytes.{body, key_bytes}
use Rattle.node_record.proofs.Writing.{item_fits}
use Rattle.node_record.proofs.bodies.inner.write.Goals as goal

pub put-requires-in-loop-kid : goal.put-requires-in-loop-kid
unfolding body
put-requires-in-loop-kid c =
    omega (
      arith,
      length-flat_map-take (to_be_bytes w32) c.args.kids.now c.loop-kid.kid-index 0 (omega (arith, ap length c.as_slice-kid-items.ensures)),
      length-append (flat_map (to_be_bytes w32) c.args.kids.now) (flat_map key_bytes c.args.seps.now),
      c.loop-kid.invariant.len,
      c.loop-kid.invariant.room,
      c.requires.room,
    )

pub put_key-requires-clause-room : goal.put_key-requires-clause-room
unfolding body
put_key-requires-clause-room c =
    item_fits key_bytes _ _ (length c.args.seps.now ∷ flat_map (to_be_bytes w32) c.args.kids.now) (body (rec.InnerImage c.args.seps.now c.args.kids.now)) c.args.seps.now _ c.loop-key.key-index c.key-item.result c.as_slice-key-items.ensures c.loop-key-test.true c.key-item.is c.requires.room
    (omega (arith, length-append (flat_map (to_be_bytes w32) c.args.kids.now) (flat_map key_bytes c.args.seps.now))) c.loop-key.invariant

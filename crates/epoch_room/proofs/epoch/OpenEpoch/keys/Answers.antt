use Rattle.std.proofs.Common.{◌≡◌, length, ap, subst, ◌∙◌, arith}
use Rattle.std.specs.List.{AllByRecursion}
use Rattle.fine_model.specs.declared.Mark.TheVariants as mark
use Rattle.fine_model.specs.RowBytes.{FitsRow, rows_bytes, rows_len}
use Rattle.node_record.specs.Keys.{AreRows}
use Rattle.epoch_room.specs.Epoch.{Open}
use Rattle.epoch_room.proofs.OpenEpochs.Gathering.{area_is}
use Rattle.epoch_room.proofs.epoch.OpenEpoch.keys.Goals.{After-len}
use Rattle.epoch_room.proofs.epoch.OpenEpoch.keys.Goals as goal

-- the bytes are those of the rows
spelled : (c : After-len) → c.as_slice.result.now ≡ rows_bytes c.args.self.now.rows
spelled c = c.as_slice.ensures.value ∙ c.self.invariant.bytes ∙ ap (λ (o : Open). rows_bytes o.rows) c.self.view_is

are : (c : After-len) → AreRows c.as_slice.result.now c.args.self.now.rows
are c = record { spelled = spelled c; fit = subst (λ (o : Open). AllByRecursion (FitsRow mark.Two) o.rows) c.self.view_is c.self.invariant.fit }

pub keys_of-requires-clause-rows : goal.keys_of-requires-clause-rows
keys_of-requires-clause-rows c = (c.args.self.now.rows, are c)

pub keys_of-requires-clause-small : goal.keys_of-requires-clause-small
keys_of-requires-clause-small c =
    let long : length c.as_slice.result.now ≡ rows_len c.args.self.now.rows = ap length c.as_slice.ensures.value ∙ area_is c.self.inside c.self.invariant ∙ ap (λ (o : Open). rows_len o.rows) c.self.view_is in omega (arith, long, c.requires)

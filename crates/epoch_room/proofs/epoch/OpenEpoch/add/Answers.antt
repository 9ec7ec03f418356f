use Rattle.std.proofs.Common.{◌≡◌, ◌+◌, ◌++◌, length, ap, arith, ◌∙◌}
use Rattle.fine_model.specs.RowBytes.{rows_len}
use Rattle.fine_model.proofs.Chain.Grammar.{rows_long}
use Rattle.epoch_room.specs.Epoch.{Open}
use Rattle.epoch_room.specs.Gathered.{rows_in}
use Rattle.epoch_room.proofs.OpenEpochs.Gathering.{area_is, gathered_more}
use Rattle.epoch_room.proofs.epoch.OpenEpoch.add.Goals as goal

pub fill-requires : goal.fill-requires
fill-requires c =
    let old = c.self.inside in
    let area : length old.bytes.items ≡ rows_len (rows_in old) = area_is old c.self.invariant in
    let own : length c.bytes.result.now ≡ rows_len c.args.log.now = ap length c.bytes.ensures ∙ rows_long c.args.log.now in
    omega (arith, area, own, c.self.invariant.costs, c.self.invariant.room, c.requires.within, ap (λ (o : Open). o.used) c.self.view_is, ap (λ (o : Open). o.most) c.self.view_is)

pub invariant_of-self : goal.invariant_of-self
invariant_of-self c =
    let old = c.self.inside in
    gathered_more old _ c.of.result c.args.log.now c.self.invariant c.requires.rows (c.fill.ensures.items ∙ ap (λ xs. old.bytes.items ++ xs) c.bytes.ensures) c.push_reserved.ensures.items c.of.ensures
    (omega (arith, c.push_reserved.ensures.len, c.self.invariant.entries)) (ap (λ n. old.used + n) c.cost.ensures) (omega (arith, c.cost.ensures, c.requires.within, ap (λ (o : Open). o.used) c.self.view_is, ap (λ (o : Open). o.most) c.self.view_is))
    (omega (arith, c.fill.ensures.capacity, c.self.invariant.room)) (omega (arith, c.push_reserved.ensures.capacity, c.self.invariant.places))

use Rattle.std.proofs.Common.{List, ℕ, sym, subst}
use Rattle.node_record.specs.Keys.{AreKeysOf}
use Rattle.node_record.specs.declared.key.RowAt.{RowAt}
use Rattle.epoch_room.proofs.OpenEpochs.Partitions.{ArrangedAt, arranged_at, as_arranged}
use Rattle.epoch_room.proofs.partition.as_partition.Goals as goal

pub encode-requires-clause-rows : goal.encode-requires-clause-rows
encode-requires-clause-rows c =
    let are : AreKeysOf c.bytes.result.now c.args.epoch.now.rows c.in_ok-keys.field-0.items = subst (λ (bytes : List ℕ). AreKeysOf bytes c.args.epoch.now.rows c.in_ok-keys.field-0.items) (sym c.bytes.ensures) c.in_ok-keys.ensures in
    let a = arranged_at c.args.region_len c.bytes.result.now c.args.epoch.now.rows c.in_ok-keys.field-0.items c.sorted-keys.result.items are c.sorted-keys.ensures.permuted c.sorted-keys.ensures.sorted c.requires.within in
    let b : ArrangedAt c.args.region_len c.bytes.result.now c.args.epoch.now.rows c.as_slice.result.now = subst (λ (keys : List RowAt). ArrangedAt c.args.region_len c.bytes.result.now c.args.epoch.now.rows keys) (sym c.as_slice.ensures.value) a in
    (b.sorted, b.at)

pub returns : goal.returns
returns c =
    let are : AreKeysOf c.bytes.result.now c.args.epoch.now.rows c.in_ok-keys.field-0.items = subst (λ (bytes : List ℕ). AreKeysOf bytes c.args.epoch.now.rows c.in_ok-keys.field-0.items) (sym c.bytes.ensures) c.in_ok-keys.ensures in
    let a = arranged_at c.args.region_len c.bytes.result.now c.args.epoch.now.rows c.in_ok-keys.field-0.items c.sorted-keys.result.items are c.sorted-keys.ensures.permuted c.sorted-keys.ensures.sorted c.requires.within in
    let b : ArrangedAt c.args.region_len c.bytes.result.now c.args.epoch.now.rows c.as_slice.result.now = subst (λ (keys : List RowAt). ArrangedAt c.args.region_len c.bytes.result.now c.args.epoch.now.rows keys) (sym c.as_slice.ensures.value) a in
    as_arranged c.args.region_len c.args.range c.bytes.result.now c.args.epoch.now.rows c.as_slice.result.now c.encode.result b (c.encode.ensures b.sorted b.at)

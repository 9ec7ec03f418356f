use Rattle.std.proofs.Common.{◌-◌, ◌++◌, ◌∷◌, [], ◌∙◌, ap, take}
use Rattle.fine_model.specs.Boards.{set_of}
use Rattle.epoch_room.proofs.RegionSets.Added.{set_both}
use Rattle.epoch_room.proofs.led_parts.add_part.Goals as goal

pub returns : goal.returns
returns c =
    let more = c.args.part.now.header.more in
    set_both c.args.set.now (c.args.part.now.region ∷ []) (take (c.args.part.now.header.regions - 1) more) c.insert.new.self c.insert_all.new.self c.insert.ensures
    (c.insert_all.ensures ∙ ap (λ n. set_of (c.insert.new.self ++ take (n - 1) more)) c.from-behind.ensures)

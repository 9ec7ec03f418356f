use Rattle.std.proofs.Common.{◌++◌, ◌∷◌, [], ◌-◌, take, ap, ◌∙◌, append_assoc}
use Rattle.fine_model.specs.Boards.{set_of}
use Rattle.epoch_room.proofs.Merges.JobRegions.{set_more}
use Rattle.epoch_room.proofs.room.merge_sealing.lose_job.Goals as goal

pub returns : goal.returns
returns c =
    let more = c.args.header.now.more in
    let k = c.args.header.now.regions - 1 in
    c.insert_all.ensures ∙ ap (λ n. set_of (c.insert.new.self ++ take n more)) c.from.ensures ∙ ap (λ xs. set_of (xs ++ take k more)) c.insert.ensures
    ∙ set_more (c.args.lost.now ++ c.args.job.now.target ∷ []) (take k more) ∙ ap set_of (append_assoc c.args.lost.now (c.args.job.now.target ∷ []) (take k more))

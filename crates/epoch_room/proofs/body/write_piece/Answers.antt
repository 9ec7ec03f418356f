use Rattle.std.proofs.Common.{◌≡◌, sym, subst, ap, ◌∙◌}
use Rattle.log_disk.specs.Disk.{IsUnseen}
use Rattle.fine_model.specs.Regions.{place_of}
use Rattle.epoch_room.proofs.Merges.BodyPieces.{piece_of, piece_unseen}
use Rattle.epoch_room.proofs.body.write_piece.Goals as goal

pub write-requires-clause-unseen : goal.write-requires-clause-unseen
write-requires-clause-unseen g c =
    let old = g.D.LogDisk.state c.args.disk.now in
    let region : c.place_of-region.result.0 ≡ (place_of old.region_len c.args.part.now.region c.args.part.now.header c.args.at).region =
    c.place_of-region.ensures.region ∙ ap (λ n. (place_of n c.args.part.now.region c.args.part.now.header c.args.at).region) c.region_len.ensures.region_len in
    subst (IsUnseen old) (sym region) (piece_unseen c.args.part.now c.args.at c.args.bytes.now old c.requires.place c.requires.some c.requires.within)

pub returns : goal.returns
returns g c =
    let old = g.D.LogDisk.state c.args.disk.now in
    let new = g.D.LogDisk.state c.write.new.self in
    let region : c.place_of-region.result.0 ≡ (place_of old.region_len c.args.part.now.region c.args.part.now.header c.args.at).region =
    c.place_of-region.ensures.region ∙ ap (λ n. (place_of n c.args.part.now.region c.args.part.now.header c.args.at).region) c.region_len.ensures.region_len in
    let from : c.from.result ≡ (place_of old.region_len c.args.part.now.region c.args.part.now.header c.args.at).at =
    c.from.ensures ∙ c.place_of-region.ensures.place ∙ ap (λ n. (place_of n c.args.part.now.region c.args.part.now.header c.args.at).at) c.region_len.ensures.region_len in
    piece_of c.args.part.now c.args.at c.args.bytes.now old c.requires.place c.requires.some c.requires.within c.requires.in_region new c.write.result c.place_of-region.result.0 c.from.result region from c.write.ensures.begun c.write.ensures.no_memory

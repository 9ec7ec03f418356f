use Rattle.std.proofs.Common.{◌∙◌, None, ap}
use Rattle.std.specs.Prelude.{option_map, slice_set}
use Rattle.std.proofs.lemmas.List.{map-set}
use Rattle.fine_model.specs.Boards.{buffer_at}
use Rattle.partition_hold.specs.Boards.{held_of}
use Rattle.partition_hold.proofs.board.Board.returned.Goals as goal

pub returns : goal.returns
returns g c =
    map-set (option_map (held_of g.E.LogEye.state)) c.self.inside.buffers.items (buffer_at c.args.seat c.args.buffer) None
    ∙ ap (λ bs. slice_set bs (buffer_at c.args.seat c.args.buffer) None) c.self.view_is

use Rattle.fine_boxes.proofs.Allowing.{read_allowed}
use Rattle.fine_boxes.proofs.Numbers.{published_is, published_in}
use Rattle.fine_boxes.proofs.steps.published.Goals as goal

pub load-requires : goal.load-requires
load-requires g c = (
  c.requires.table.0,
  published_in _ _ c.requires.table.1.0,
  read_allowed _ _ _ _ g.L.PlaceLaw.grows _ _ _ _ _ _ _ _ _ _ _ c.args.seat.now.me c.requires.still _ published_is,
)

use Rattle.fine_boxes.proofs.Allowing.{publish_allowed}
use Rattle.fine_boxes.proofs.Numbers.{published_is, published_in}
use Rattle.fine_boxes.proofs.steps.publish.Goals as goal

pub store-requires : goal.store-requires
store-requires g c = let o = c.requires.may in (
  c.requires.table.0,
  published_in _ _ c.requires.table.1.0,
  publish_allowed _ _ _ _ g.L.PlaceLaw.grows _ _ _ _ _ _ _ _ _ _ _ c.args.seat.now.me o.turn c.args.number c.requires.held o.is c.requires.later c.requires.seats o.posted c.requires.still _ published_is,
)

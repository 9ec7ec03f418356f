use Rattle.std.proofs.Common.{[]}
use Rattle.fine_places.proofs.Seating.{opens}
use Rattle.fine_places.proofs.steps.open.Goals as goal

pub new-requires : goal.new-requires
new-requires g c = record {
  log = [];
  published = _;
  places = opens _ _ _ _ _ _ _ _ _ c.requires.counts.0 c.requires.counts.1 c.requires.seats c.requires.legal c.requires.free c.requires.stands;
  beside = c.requires.beside;
}

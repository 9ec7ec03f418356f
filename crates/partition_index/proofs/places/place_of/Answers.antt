use Rattle.partition_index.proofs.BodyPlaces.{names_region_at}
use Rattle.partition_index.proofs.places.place_of.Goals as goal

pub returns-clause-of_part : goal.returns-clause-of_part
returns-clause-of_part c =
    names_region_at c.args.region_len c.args.part.now c.args.at c.body_start-start.result c.from-at.result c.requires.lies c.requires.within c.body_start-start.ensures.is c.from-at.ensures c.if-at-in_lead.false

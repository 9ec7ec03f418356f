use Rattle.room_shelf.proofs.Viewed.{made_out, still_out}
use Rattle.room_shelf.proofs.shelf.view_of.Goals as goal

pub returns-in-Some : goal.returns-in-Some
returns-in-Some g c = still_out c.args.room.now c.args.out c.in-Some.view c.in-Some.is c.requires.shelf c.sealed-whole.ensures.whole c.parts-parts.ensures.whole

pub returns-in-Ok : goal.returns-in-Ok
returns-in-Ok g c =
    made_out c.args.room.now c.args.out c.view_for.new.self c.in-Ok.view c.in-None.is c.requires.shelf c.sealed-whole.ensures.whole c.sealed-made.ensures.whole c.parts-parts-in-Ok.ensures.whole c.in-Ok.ensures.room c.in-Ok.ensures.keeps

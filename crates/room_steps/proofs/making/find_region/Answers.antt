use Rattle.std.proofs.Common.{Bool, Ok, Result, ap, subst, ◌∙◌}
use Rattle.fine_model.specs.declared.RunFault.{RunFault}
use Rattle.room_shelf.specs.Shelves.{shelf}
use Rattle.room_steps.specs.Merging.{Frees}
use Rattle.room_steps.proofs.Rooms.{finding_failed, none_found, refused_at_once, region_found}
use Rattle.room_steps.proofs.making.find_region.Goals as goal

pub returns-then-full : goal.returns-then-full
returns-then-full g c = refused_at_once (shelf c.args.room.now c.args.out.now) c.requires.no_region c.args.full.now c.if-full.true c.requires.shelf c.sealed-whole.ensures.whole c.requires.no_job c.requires.opened

pub returns-then-found : goal.returns-then-found
returns-then-found g c =
    region_found (shelf c.args.room.now c.args.out.now) c.requires.no_region (shelf c.free_region.new.room c.free_region.new.out) c.args.full.now c.if-full.false
    (subst (λ (r : Result Bool RunFault). Frees (shelf c.args.room.now c.args.out.now) (shelf c.free_region.new.room c.free_region.new.out) r) (c.in-Ok.is ∙ ap (λ b. Ok b) c.if-found.true) c.free_region.ensures)

pub returns-else-found : goal.returns-else-found
returns-else-found g c =
    none_found (shelf c.args.room.now c.args.out.now) c.requires.no_region (shelf c.free_region.new.room c.free_region.new.out) c.args.full.now c.if-full.false
    (subst (λ (r : Result Bool RunFault). Frees (shelf c.args.room.now c.args.out.now) (shelf c.free_region.new.room c.free_region.new.out) r) (c.in-Ok.is ∙ ap (λ b. Ok b) c.if-found.false) c.free_region.ensures)

pub returns-in-Err : goal.returns-in-Err
returns-in-Err g c =
    finding_failed (shelf c.args.room.now c.args.out.now) c.requires.no_region (shelf c.free_region.new.room c.free_region.new.out) c.args.full.now c.in-Err.fault c.if-full.false
    (subst (λ (r : Result Bool RunFault). Frees (shelf c.args.room.now c.args.out.now) (shelf c.free_region.new.room c.free_region.new.out) r) c.in-Err.is c.free_region.ensures)

use Rattle.std.proofs.Common.{◌∙◌, Bool, Ok, Option, Result, ap, subst, sym, true≢false}
use Rattle.fine_model.specs.declared.RunFault.{RunFault}
use Rattle.fine_model.specs.declared.Why.{Why}
use Rattle.room_shelf.specs.Shelves.{ShelfValue, shelf}
use Rattle.room_steps.specs.Merging.{SealsIfFull, is_epoch_full}
use Rattle.room_steps.specs.Steps.{MakesRoom}
use Rattle.room_steps.proofs.Rooms.{FindsRoom, by_region, fits_at_once, large_at_once, none_there, not_by_sealed, open_there, room_failed, shut_at_once, spent_at_once, then_found}
use Rattle.room_steps.proofs.making.make_room.Given.{Over}
use Rattle.room_steps.proofs.making.make_room.Goals.{In-Ok}
use Rattle.room_steps.proofs.making.make_room.Goals as goal

-- the states at entry, and behind the seal
abbrev old : (g : Over) → In-Ok g → ShelfValue
old g c = shelf c.args.room.now c.args.out.now

abbrev mid : (g : Over) → In-Ok g → ShelfValue
mid g c = shelf c.seal_if_full.new.room c.seal_if_full.new.out

seals : (g : Over) (c : In-Ok g) → SealsIfFull c.args.cost (old g c) (mid g c) (Ok tt)
seals g c = subst (λ (r : Result (Unit {0}) RunFault). SealsIfFull c.args.cost (old g c) (mid g c) r) c.in-Ok.is c.seal_if_full.ensures

-- what was found behind the seal is made of the state at entry
found : (g : Over) (c : In-Ok g) (new : ShelfValue) (full : Bool) (result : Result (Option Why) RunFault) → FindsRoom c.args.cost (mid g c) new c.args.full.now full result → MakesRoom c.args.cost (old g c) new c.args.full.now full result
found g c new full result f = then_found c.args.cost (old g c) (mid g c) (seals g c) new c.args.full.now full result f

pub find_region-requires-clause-shelf : goal.find_region-requires-clause-shelf
find_region-requires-clause-shelf g c κs within = c.seal_if_full.ensures.leaves.shelf

pub find_region-requires-clause-no_job : goal.find_region-requires-clause-no_job
find_region-requires-clause-no_job g c κs within = c.seal_if_full.ensures.leaves.no_job

pub find_region-requires-clause-opened : goal.find_region-requires-clause-opened
find_region-requires-clause-opened g c κs within =
    let a = (goal.at.find_region-requires-clause-opened g c).In-Ok in
    open_there c.args.cost (mid g a) c.seal_if_full.ensures.leaves.shelf c.sealed-whole.ensures.whole c.seal_if_full.ensures.leaves.no_job c.args.full.now _ _ _ (sym c.fit.ensures ∙ c.in-Full.is)

pub find_region-requires-clause-no_region : goal.find_region-requires-clause-no_region
find_region-requires-clause-no_region g c κs within =
    let a = (goal.at.find_region-requires-clause-no_region g c).In-Ok in
    none_there c.args.cost (mid g a) c.seal_if_full.ensures.leaves.shelf c.sealed-whole.ensures.whole c.seal_if_full.ensures.leaves.no_job c.args.full.now _ _ _ (sym c.fit.ensures ∙ c.in-Full.is)

pub returns-in-Fits : goal.returns-in-Fits
returns-in-Fits g c =
    let a = (goal.at.returns-in-Fits g c).In-Ok in
    found g a _ _ _ (fits_at_once c.args.cost (mid g a) c.seal_if_full.ensures.leaves.shelf c.sealed-whole.ensures.whole c.seal_if_full.ensures.leaves.no_job c.args.full.now (sym c.fit.ensures ∙ c.in-Fits.is))

pub returns-in-Shut : goal.returns-in-Shut
returns-in-Shut g c =
    let a = (goal.at.returns-in-Shut g c).In-Ok in
    found g a _ _ _ (shut_at_once c.args.cost (mid g a) c.seal_if_full.ensures.leaves.shelf c.sealed-whole.ensures.whole c.seal_if_full.ensures.leaves.no_job c.args.full.now _ (sym c.fit.ensures ∙ c.in-Shut.is))

pub returns-in-Number : goal.returns-in-Number
returns-in-Number g c =
    let a = (goal.at.returns-in-Number g c).In-Ok in
    found g a _ _ _ (spent_at_once c.args.cost (mid g a) c.seal_if_full.ensures.leaves.shelf c.sealed-whole.ensures.whole c.seal_if_full.ensures.leaves.no_job c.args.full.now _ _ (sym c.fit.ensures ∙ c.in-Number.is))

pub returns-in-TooLarge : goal.returns-in-TooLarge
returns-in-TooLarge g c =
    let a = (goal.at.returns-in-TooLarge g c).In-Ok in
    found g a _ _ _ (large_at_once c.args.cost (mid g a) c.seal_if_full.ensures.leaves.shelf c.sealed-whole.ensures.whole c.seal_if_full.ensures.leaves.no_job c.args.full.now _ _ (sym c.fit.ensures ∙ c.in-TooLarge.is))

pub returns-in-EpochFull : goal.returns-in-EpochFull
returns-in-EpochFull g c =
    let a = (goal.at.returns-in-EpochFull g c).In-Ok in
    absurd (true≢false (sym (ap is_epoch_full (sym c.fit.ensures ∙ c.in-EpochFull.is)) ∙ not_by_sealed c.args.cost (old g a) (mid g a) (seals g a)))

pub returns-in-Full : goal.returns-in-Full
returns-in-Full g c =
    let a = (goal.at.returns-in-Full g c).In-Ok in
    found g a _ _ _ (by_region c.args.cost (mid g a) c.seal_if_full.ensures.leaves.shelf c.sealed-whole.ensures.whole c.seal_if_full.ensures.leaves.no_job c.args.full.now _ _ _ (sym c.fit.ensures ∙ c.in-Full.is)
    (shelf c.find_region.new.room c.find_region.new.out) c.find_region.new.full c.find_region.result c.find_region.ensures)

pub returns-in-Err : goal.returns-in-Err
returns-in-Err g c =
    room_failed c.args.cost (shelf c.args.room.now c.args.out.now) (shelf c.seal_if_full.new.room c.seal_if_full.new.out) c.args.full.now c.in-Err.fault
    (subst (λ (r : Result (Unit {0}) RunFault). SealsIfFull c.args.cost (shelf c.args.room.now c.args.out.now) (shelf c.seal_if_full.new.room c.seal_if_full.new.out) r) c.in-Err.is c.seal_if_full.ensures)

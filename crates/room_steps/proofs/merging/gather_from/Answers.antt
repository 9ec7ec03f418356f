use Rattle.std.proofs.Common.{◌≡◌, None, Ok, Result, true, ap, subst}
use Rattle.std.specs.List.{list_all}
use Rattle.fine_model.specs.Boards.{is_empty}
use Rattle.epoch_room.specs.Gathering.{GathersYoung as RoomGathers}
use Rattle.room_merges.specs.Near.{Empties}
use Rattle.room_merges.specs.declared.fault.MergeFault.{MergeFault}
use Rattle.room_shelf.specs.Shelves.{ShelfValue, shelf}
use Rattle.room_steps.proofs.Facts.{Rested, rested}
use Rattle.room_steps.proofs.Gatherings.{IsGathered, board_then, gathered_err, gathered_ok, job_then, then_erased, then_failed}
use Rattle.room_steps.proofs.merging.gather_from.Given.{Over}
use Rattle.room_steps.proofs.merging.gather_from.Goals.{In-Ok}
use Rattle.room_steps.proofs.merging.gather_from.Goals as goal

-- what gathering did
gathers : (g : Over) (c : In-Ok g) → RoomGathers c.args.from c.take_view.new.room c.gather-gathered.new.self (Ok c.in-Ok._done)
gathers g c = subst (RoomGathers c.args.from c.take_view.new.room c.gather-gathered.new.self) c.in-Ok.is (record { room = c.gather-gathered.ensures.room; read = c.gather-gathered.ensures.read; beside = c.gather-gathered.ensures.beside; keeps = c.gather-gathered.ensures.keeps })

-- the states at entry, as the view was taken back, and behind the gathering
abbrev old : (g : Over) → In-Ok g → ShelfValue
old g c = shelf c.args.room.now c.args.out.now

abbrev mid : (g : Over) → In-Ok g → ShelfValue
mid g c = shelf c.take_view.new.room c.take_view.new.out

abbrev done : (g : Over) → In-Ok g → ShelfValue
done g c = shelf c.gather-gathered.new.self c.take_view.new.out

rests : (g : Over) (c : In-Ok g) → Rested (old g c) (mid g c)
rests g c = rested (old g c) (mid g c) c.take_view.ensures c.requires.shelf c.requires.no_job c.sealed-rested.ensures.whole

no_job : (g : Over) (c : In-Ok g) → (done g c).room.room.job ≡ None
no_job g c = job_then (old g c) (mid g c) (done g c) (rests g c) c.take_view.ensures.none c.sealed-gathered.ensures.whole c.args.from _ (gathers g c)

empty_board : (g : Over) (c : In-Ok g) → list_all is_empty (done g c).room.room.board ≡ true
empty_board g c = board_then (old g c) (mid g c) (done g c) (rests g c) c.take_view.ensures.none c.sealed-gathered.ensures.whole c.args.from _ (gathers g c)

is_gathered : (g : Over) (c : In-Ok g) → IsGathered (old g c) (done g c)
is_gathered g c = gathered_ok (old g c) (mid g c) (done g c) (rests g c) c.take_view.ensures.none c.sealed-gathered.ensures.whole c.args.from c.in-Ok._done (gathers g c)

pub erase_retired-erased-requires-clause-no_job : goal.erase_retired-erased-requires-clause-no_job
erase_retired-erased-requires-clause-no_job g c κs within = no_job g (goal.at.erase_retired-erased-requires-clause-no_job g c).In-Ok

pub erase_retired-erased-requires-clause-board : goal.erase_retired-erased-requires-clause-board
erase_retired-erased-requires-clause-board g c κs within = empty_board g (goal.at.erase_retired-erased-requires-clause-board g c).In-Ok

pub returns-in-Ok-erased : goal.returns-in-Ok-erased
returns-in-Ok-erased g c =
    let a = (goal.at.returns-in-Ok-erased g c).In-Ok in
    then_erased (done g a) (shelf c.erase_retired-erased.new.room c.take_view.new.out) c.take_view.ensures.none c.take_view.ensures.none c.sealed-gathered.ensures.whole c.sealed-erased.ensures.whole (no_job g a) (empty_board g a) (old g a)
    (is_gathered g a) c.in-Ok-erased.field-0 (subst (λ (r : Result (Unit {0}) MergeFault). Empties c.gather-gathered.new.self c.erase_retired-erased.new.room r) c.in-Ok-erased.is c.erase_retired-erased.ensures)

pub returns-in-Err-erased : goal.returns-in-Err-erased
returns-in-Err-erased g c =
    let a = (goal.at.returns-in-Err-erased g c).In-Ok in
    then_failed (done g a) (shelf c.erase_retired-erased.new.room c.take_view.new.out) c.take_view.ensures.none c.take_view.ensures.none c.sealed-gathered.ensures.whole c.sealed-erased.ensures.whole (no_job g a) (empty_board g a) (old g a)
    (is_gathered g a) c.in-Err-erased.fault _ _ c.of_merge.ensures c.in-Err-erased.is c.erase_retired-erased.ensures (λ e. ap (λ v. shelf v c.take_view.new.out) e)

pub returns-in-Err : goal.returns-in-Err
returns-in-Err g c =
    let old = shelf c.args.room.now c.args.out.now in
    let mid = shelf c.take_view.new.room c.take_view.new.out in
    gathered_err old mid (shelf c.gather-gathered.new.self c.take_view.new.out) (rested old mid c.take_view.ensures c.requires.shelf c.requires.no_job c.sealed-rested.ensures.whole) c.take_view.ensures.none c.sealed-gathered.ensures.whole c.args.from
    c.in-Err.fault _ _ c.of_room.ensures c.in-Err.is
    (record { room = c.gather-gathered.ensures.room; read = c.gather-gathered.ensures.read; beside = c.gather-gathered.ensures.beside; keeps = c.gather-gathered.ensures.keeps }) (λ e. ap (λ v. shelf v c.take_view.new.out) e)

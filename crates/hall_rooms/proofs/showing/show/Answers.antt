-- What waits is sealed, posted to all seats, and published.
use Rattle.std.proofs.Common.{◌≡◌, ℕ, Err, sym, subst}
use Rattle.std.specs.Prelude.{Result}
use Rattle.std.proofs.lemmas.Result.{err_from_is_err_and}
use Rattle.epoch_room.specs.declared.answers.RoomFault.{RoomFault}
use Rattle.fine_model.proofs.Histories.Goings.{job_on}
use Rattle.hall_rooms.specs.Rooms.{beginning_of}
use Rattle.hall_rooms.specs.Steps.{ShowsOr}
use Rattle.hall_rooms.proofs.Shown.{seal_fails, sealed_clean, shown}
use Rattle.hall_rooms.proofs.showing.show.Goals as goal

pub returns-in_err-seal_waiting-clause-shows : goal.returns-in_err-seal_waiting-clause-shows
returns-in_err-seal_waiting-clause-shows g c =
    let fault = c.in_err-seal_waiting.field-0.0 in
    let p = err_from_is_err_and c.from_residual.result c.from_residual.ensures.1 in
    let e : ◌≡◌ {A = Result ℕ RoomFault} c.from_residual.result (Err fault) = cc (p.1, p.2) in
    subst (ShowsOr (beginning_of c.args.hall.now) c.args.room.now c.seal_waiting.new.room c.args.pass.now) (sym e) (seal_fails (beginning_of c.args.hall.now) c.args.pass.now c.args.room.now c.seal_waiting.new.room fault c.requires.turn c.in_err-seal_waiting.ensures)

pub post_and_publish-requires-clause-turn : goal.post_and_publish-requires-clause-turn
post_and_publish-requires-clause-turn g c κs within = sealed_clean (beginning_of c.args.hall.now) c.args.pass.now c.args.room.now c.seal_waiting.new.room c.requires.turn c.in_ok-seal_waiting.ensures

pub returns-clause-job : goal.returns-clause-job
returns-clause-job g c = job_on c.args.room.now.room c.seal_waiting.new.room.room c.post_and_publish.new.room.room c.in_ok-seal_waiting.ensures.0.job c.post_and_publish.ensures.job

pub returns-clause-shows : goal.returns-clause-shows
returns-clause-shows g c =
    shown (beginning_of c.args.hall.now) c.args.room.now c.seal_waiting.new.room c.post_and_publish.new.room c.post_and_publish.new.pass c.in_ok-seal_waiting.ensures c.post_and_publish.result c.post_and_publish.ensures.posts

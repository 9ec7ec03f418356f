-- One round: views are posted and taken, and what none names is erased.
use Rattle.std.proofs.Common.{arith}
use Rattle.hall_rooms.specs.Rooms.{beginning_of}
use Rattle.fine_model.proofs.Histories.Goings.{job_on}
use Rattle.hall_rooms.proofs.Clearing.{looks_job, post_stops, round_goes}
use Rattle.hall_rooms.proofs.Renewing.{go_stays, go_then, part_on}
use Rattle.hall_rooms.proofs.making.renew_and_erase.Goals as goal

pub refresh_all-requires-clause-part : goal.refresh_all-requires-clause-part
refresh_all-requires-clause-part g c κs within = part_on c.args.hall.now c.post_and_publish.new.room c.args.pass.now c.post_and_publish.new.pass c.args.others.now c.args.others.now (go_stays c.args.hall.now c.args.room.now c.args.pass.now c.post_and_publish.new.pass c.args.others.now c.requires.part c.post_and_publish.ensures.stays) c.in-Ok.ensures.posts.0

pub returns-in-Ok-clause-goes : goal.returns-in-Ok-clause-goes
returns-in-Ok-clause-goes g c =
    go_then c.args.hall.now c.args.pass.now c.post_and_publish.new.pass c.refresh_all.new.pass c.args.others.now c.args.others.now c.refresh_all.new.others
    (go_stays c.args.hall.now c.args.room.now c.args.pass.now c.post_and_publish.new.pass c.args.others.now c.requires.part c.post_and_publish.ensures.stays) c.refresh_all.ensures.goes

pub returns-in-Ok-clause-job : goal.returns-in-Ok-clause-job
returns-in-Ok-clause-job g c =
    job_on c.args.room.now.room c.post_and_publish.new.room.room c.erase_and_look.new.room.room c.post_and_publish.ensures.job (looks_job c.post_and_publish.new.room c.erase_and_look.new.room c.erase_and_look.result c.erase_and_look.ensures)

pub returns-in-Ok-clause-round : goal.returns-in-Ok-clause-round
returns-in-Ok-clause-round g c =
    let x = beginning_of c.args.hall.now in
    round_goes x c.args.room.now c.post_and_publish.new.room c.erase_and_look.new.room c.refresh_all.new.others c.refresh_all.new.pass c.in-Ok.ensures.posts.1 c.in-Ok.ensures.posts.4 c.refresh_all.ensures.turn (let a = c.in-Ok.ensures.posts.2 in let b = c.in-Ok.ensures.posts.3 in let least = c.refresh_all.ensures.goes.goes.no_earlier in let most = c.refresh_all.ensures.reaches in omega (arith, a, b, least, most)) c.refresh_all.ensures.ahead.0 c.refresh_all.ensures.ahead.1
    c.erase_and_look.result c.erase_and_look.ensures

pub returns-in-Err-clause-goes : goal.returns-in-Err-clause-goes
returns-in-Err-clause-goes g c = go_stays c.args.hall.now c.args.room.now c.args.pass.now c.post_and_publish.new.pass c.args.others.now c.requires.part c.post_and_publish.ensures.stays

pub returns-in-Err-clause-round : goal.returns-in-Err-clause-round
returns-in-Err-clause-round g c = post_stops (beginning_of c.args.hall.now) c.args.room.now c.args.room.now c.post_and_publish.new.room c.args.others.now c.post_and_publish.new.pass c.in-Err.fault c.in-Err.ensures.posts

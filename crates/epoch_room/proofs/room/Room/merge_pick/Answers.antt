use Rattle.std.proofs.Common.{◌≡◌, cond, None, sym, subst, ap, ◌∙◌}
use Rattle.std.specs.Prelude.{Option, IfSome, option_map}
use Rattle.fine_model.specs.declared.Job.{Job}
use Rattle.epoch_room.specs.Meaning.{Keeps}
use Rattle.epoch_room.specs.MergeSteps.{fresh_job, neighbours_from, picked, with_job}
use Rattle.epoch_room.specs.Value.{RoomValue, Kept, value_of}
use Rattle.epoch_room.specs.Whole.{IsWhole}
use Rattle.epoch_room.proofs.Merges.Picking.{picked_keeps, picked_untaken, picked_whole}
use Rattle.epoch_room.proofs.room.Room.merge_pick.Goals as goal

pub returns-clause-room : goal.returns-clause-room
returns-clause-room g c =
    let in' = c.self.inside in
    let old = g.D.LogDisk.state in'.disk in
    let entry = g.D.LogDisk.state in'.entry.value in
    let kept : Kept = record { parts = in'.parts; retired = in'.retired.items; free = in'.free; lost = in'.lost; target = in'.target; board = in'.board; job = in'.job; epoch = in'.epoch; sealed = in'.sealed; places = in'.places; is_shut = in'.is_shut } in
    let job : c.first_job-job.result ≡ picked (value_of old entry kept).room c.args.from = c.first_job-job.ensures ∙ ap (λ ps. cond in'.is_shut None (option_map fresh_job (neighbours_from c.args.from ps))) c.as_slice.ensures in
    ap (λ j. value_of old entry (record kept { job = j })) job ∙ ap (λ (v : RoomValue). with_job v (picked v.room c.args.from) v.room.free) c.self.view_is

pub invariant_of-self : goal.invariant_of-self
invariant_of-self g c =
    let whole : IsWhole c.args.self.now = subst IsWhole c.self.view_is c.self.invariant.0 in
    (subst IsWhole (sym (returns-clause-room g c)) (picked_whole c.args.self.now whole c.args.from c.requires.no_job), c.self.invariant.1, c.self.invariant.2)

pub returns-clause-keeps : goal.returns-clause-keeps
returns-clause-keeps g c =
    let whole : IsWhole c.args.self.now = subst IsWhole c.self.view_is c.self.invariant.0 in
    subst (Keeps c.args.self.now) (sym (returns-clause-room g c)) (picked_keeps c.args.self.now whole c.args.from c.requires.no_job)

pub returns-clause-untaken : goal.returns-clause-untaken
returns-clause-untaken g c =
    subst (λ (job : Option Job). IfSome job (λ j. j.header ≡ None)) (sym c.first_job-job.ensures) (picked_untaken c.self.inside.is_shut c.args.from c.as_slice.result.now)

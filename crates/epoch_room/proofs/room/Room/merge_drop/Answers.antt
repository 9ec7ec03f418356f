use Rattle.std.proofs.Common.{◌≡◌, ◌++◌, ◌<◌, List, ℕ, Some, None, not, sym, subst, ap, ◌∙◌}
use Rattle.std.specs.Prelude.{Option, filter, nat_eq}
use Rattle.std.specs.List.{AllByRecursion, list_any}
use Rattle.fine_model.specs.declared.Job.{Job}
use Rattle.fine_model.specs.Boards.{set_of}
use Rattle.fine_model.specs.Jobs.{job_regions}
use Rattle.epoch_room.specs.Meaning.{Keeps}
use Rattle.epoch_room.specs.MergeSteps.{free_dropped, with_job}
use Rattle.epoch_room.specs.Value.{RoomValue}
use Rattle.epoch_room.specs.Whole.{IsWhole}
use Rattle.epoch_room.proofs.Merges.Picking.{dropped_keeps, dropped_whole, free_set, job_below, job_counted}
use Rattle.epoch_room.proofs.Inside.{room_in}
use Rattle.epoch_room.proofs.room.Room.merge_drop.Goals as goal

pub free_job-requires-clause-few : goal.free_job-requires-clause-few
free_job-requires-clause-few g c =
    let whole : IsWhole c.args.self.now = subst IsWhole c.self.view_is c.self.invariant.0 in
    λ header is. job_counted c.args.self.now whole c.args.job c.requires.out header is

pub free_job-requires-clause-small : goal.free_job-requires-clause-small
free_job-requires-clause-small g c =
    let whole : IsWhole c.args.self.now = subst IsWhole c.self.view_is c.self.invariant.0 in
    subst (λ (j : Option Job). AllByRecursion (λ r. r < 64) (job_regions j)) c.requires.out (job_below c.args.self.now whole)

pub free_job-requires-clause-set : goal.free_job-requires-clause-set
free_job-requires-clause-set g c = free_set _ c.self.invariant.0

pub returns-clause-room : goal.returns-clause-room
returns-clause-room g c =
    let room = room_in g.D.LogDisk.state c.self.inside in
    let out : Some c.args.job ≡ c.self.inside.job = sym (ap (λ (v : RoomValue). v.room.job) c.self.view_is ∙ c.requires.out) in
    let free : c.free_job.new.free ≡ free_dropped room.room =
    c.free_job.ensures ∙ ap (λ (j : Option Job). set_of (c.self.inside.free ++ filter (λ r. not (list_any (nat_eq r) c.self.inside.lost)) (job_regions j))) out in
    ap (λ (xs : List ℕ). with_job room None xs) free ∙ ap (λ (v : RoomValue). with_job v None (free_dropped v.room)) c.self.view_is

pub invariant_of-self : goal.invariant_of-self
invariant_of-self g c =
    let whole : IsWhole c.args.self.now = subst IsWhole c.self.view_is c.self.invariant.0 in
    (subst IsWhole (sym (returns-clause-room g c)) (dropped_whole c.args.self.now whole), c.self.invariant.1, c.self.invariant.2)

pub returns-clause-keeps : goal.returns-clause-keeps
returns-clause-keeps g c =
    let whole : IsWhole c.args.self.now = subst IsWhole c.self.view_is c.self.invariant.0 in
    subst (Keeps c.args.self.now) (sym (returns-clause-room g c)) (dropped_keeps c.args.self.now whole)

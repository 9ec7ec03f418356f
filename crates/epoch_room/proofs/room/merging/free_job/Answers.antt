use Rattle.std.proofs.Common.{Bool, ◌≡◌, ◌-◌, ◌++◌, not, take, [], ◌∷◌, ℕ, sym, ap, subst, ◌∙◌}
use Rattle.std.specs.Prelude.{filter, nat_eq}
use Rattle.std.specs.List.{list_any}
use Rattle.fine_model.specs.Boards.{set_of}
use Rattle.fine_model.specs.Jobs.{taken_by}
use Rattle.partition_hold.proofs.Sets.{same_set}
use Rattle.epoch_room.proofs.Merges.JobRegions.{given_behind}
use Rattle.epoch_room.proofs.room.merging.free_job.Goals as goal

pub give_back-requires-in-Some-clause-set : goal.give_back-requires-in-Some-clause-set
give_back-requires-in-Some-clause-set c = subst (λ xs. set_of xs ≡ xs) (sym c.give_back.ensures) (same_set (λ region. list_any (nat_eq region) (c.args.free.now ++ filter (λ r. not (list_any (nat_eq r) c.args.lost.now)) (c.args.job.now.target ∷ []))))

pub returns-in-Some : goal.returns-in-Some
returns-in-Some c =
    let p : ℕ → Bool = λ r. not (list_any (nat_eq r) c.args.lost.now) in
    c.give_back-in-Some.ensures
    ∙ ap (λ n. set_of (c.give_back.new.free ++ filter p (take n c.in-Some.header.more))) c.from.ensures
    ∙ ap (λ xs. set_of (xs ++ filter p (take (c.in-Some.header.regions - 1) c.in-Some.header.more))) c.give_back.ensures
    ∙ given_behind p c.args.free.now c.args.job.now.target (take (c.in-Some.header.regions - 1) c.in-Some.header.more)
    ∙ ap (λ h. set_of (c.args.free.now ++ filter p (taken_by c.args.job.now.target h))) (sym c.in-Some.is)

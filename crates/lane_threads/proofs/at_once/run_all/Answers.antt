use Rattle.std.proofs.Common.{◌≡◌, ◌∙◌, refl, sym, subst, arith}
use Rattle.std.specs.Prelude.{vec_len}
use Rattle.lane_threads.specs.Workers.{CanAllRun}
use Rattle.lane_threads.proofs.Lent.{empty_is}
use Rattle.lane_threads.proofs.at_once.run_all.Goals as goal

pub returns-then-is_empty : goal.returns-then-is_empty
returns-then-is_empty g c =
    let none = c.is_empty.ensures in
    let yes = c.if-is_empty.true in
    let all = c.args.workers.ok in
    let zero : vec_len c.args.workers ≡ 0 = empty_is (vec_len c.args.workers) (sym none ∙ yes) in
    let many = all.0 in
    record { count = refl; each = λ i w lt. absurd (omega (arith, zero, many, lt)) }

pub run_at_once-requires-clause-workers : goal.run_at_once-requires-clause-workers
run_at_once-requires-clause-workers g c κs within = subst (λ l. CanAllRun c.args.hall.now c.args.script.now c.args.options.now.group l) (sym c.as_mut_slice.ensures.value) c.requires.workers

use Rattle.std.proofs.Common.{max, length, option_map, ap, ◌∙◌}
use Rattle.script_text.proofs.Summing.{sends_summary}
use Rattle.script_text.proofs.summary.say_summary.Goals as goal

pub returns : goal.returns
returns g c =
    sends_summary c.args.run.now.start c.args.run.now.lanes c.args.run.now.script.now c.args.run.now.outcomes.now (option_map (λ pairs. pairs.now) c.args.run.now.map) c.args.run.now.all_durable c.args.run.now.fault c.max.result _ _ _ _ _ _
    (c.max.ensures ∙ ap (λ n. max n (length c.args.run.now.outcomes.now)) c.len-2.ensures)
    (rw c.len.ensures at c.say_gen.ensures) c.say_counted.ensures c.say_found.ensures c.say_durable.ensures c.say_end.ensures

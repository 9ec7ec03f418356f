use Rattle.std.proofs.Common.{◌≡◌, ◌∙◌, [], ap, ap₂, codes, false}
use Rattle.std.proofs.lemmas.Result.{IfOk-weaker}
use Rattle.clap.specs.Built.{AddsSubcommand}
use Rattle.clap.specs.Simple.{App, app_of, with_subcommand}
use Rattle.clap.specs.Walk.{Rule, Text}
use Rattle.clap.specs.declared.builder.command.Command.{Command}
use Rattle.clap.specs.declared.builder.command.Command.TheViews.{out-Command}
use Rattle.command_words.specs.Program.{gen_shape, run_shape, shape_of_three}
use Rattle.command_words.proofs.program.program.Goals as goal

-- one more command
adds : (old sub new : Command) (a s : App) → AddsSubcommand old sub new → app_of old ≡ a → app_of sub ≡ s → (out-Command sub).has_globals ≡ false → app_of new ≡ with_subcommand a s.top
adds old sub new a s added is one local = added.shape local ∙ ap₂ with_subcommand is (ap (λ (x : App). x.top) one)

-- a command of three words
abbrev three : Text → Rule → Rule → Rule → App
three name first second third = record { top = shape_of_three name first second third; subs = [] }

pub returns : goal.returns
returns c =
    let run : app_of c.in_ok-run.run' ≡ record { top = run_shape; subs = [] } =
    c.in_ok-run.ensures.app ∙ (λ i. three (codes "run") (c.option_named.ensures.rule i) (c.option_named-2.ensures.rule i) (c.option_named-3.ensures.rule i)) in
    let generate : app_of c.in_ok-generate.generate ≡ record { top = gen_shape; subs = [] } =
    c.in_ok-generate.ensures.app ∙ (λ i. three (codes "gen") (c.number_named.ensures.rule i) (c.number_named-2.ensures.rule i) (c.number_named-3.ensures.rule i)) in
    let one = adds _ _ _ _ _ c.in_ok-subcommand.ensures c.top.ensures run c.in_ok-run.ensures.local in
    let two = adds _ _ _ _ _ c.in_ok-subcommand-2.ensures one c.new.ensures.app c.new.ensures.local in
    let three = adds _ _ _ _ _ c.in_ok-subcommand-3.ensures two c.new-2.ensures.app c.new-2.ensures.local in
    let four = adds _ _ _ _ _ c.in_ok-subcommand-4.ensures three c.new-3.ensures.app c.new-3.ensures.local in
    IfOk-weaker c.subcommand-5.result _ _ (λ r added. adds _ _ r _ _ added four generate c.in_ok-generate.ensures.local) c.subcommand-5.ensures

use Rattle.std.proofs.Common.{◌++◌, sym, ap, ◌∙◌, List, ℕ}
use Rattle.script_text.specs.Pages.{Gathered}
use Rattle.script_text.proofs.Paging.{sends_lost, sends_put}
use Rattle.script_text.proofs.page.Page.pass.Goals as goal

pub returns-then-self : goal.returns-then-self
returns-then-self g c =
    let lost = ap (λ (p : Gathered). p.failed) (sym c.self.view_is) ∙ c.if-self.true in
    sends_lost c.args.bytes.now _ _ _ _ lost lost

pub returns : goal.returns
returns g c =
    sends_put c.put.result _ c.args.bytes.now _ _ _ _ c.args.self.now _
    (ap (λ (p : Gathered). p.failed) (sym c.self.view_is) ∙ c.if-self.false)
    c.is_err-self-inside.ensures.value
    (ap (λ (p : Gathered). p.bytes) c.self.view_is ∙ c.requires)
    (sym (ap (λ (t : List ℕ). t ++ c.args.bytes.now) c.requires))
    c.put.ensures.puts c.put.ensures.counts

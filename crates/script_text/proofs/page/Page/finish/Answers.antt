use Rattle.std.proofs.Common.{sym, ap, ◌∙◌, Ok, Err, ℕ}
use Rattle.script_text.specs.Pages.{Gathered}
use Rattle.script_text.proofs.Paging.{finishes}
use Rattle.script_text.proofs.page.Page.finish.Goals as goal

pub returns-then-self : goal.returns-then-self
returns-then-self g c =
    finishes {T = ℕ} {E = ℕ} (Err 0) _ _ _ _ c.flush.ensures.empty (ap (λ (p : Gathered). p.failed) (sym c.self.view_is) ∙ c.if-self.true) c.flush.ensures.sends

pub returns-else-self : goal.returns-else-self
returns-else-self g c =
    finishes {T = ℕ} {E = ℕ} (Ok 0) _ _ _ _ c.flush.ensures.empty (ap (λ (p : Gathered). p.failed) (sym c.self.view_is) ∙ c.if-self.false) c.flush.ensures.sends

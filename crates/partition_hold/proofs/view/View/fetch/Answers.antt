use Rattle.std.proofs.Common.{◌+◌, ◌≤◌, sym, subst}
use Rattle.fine_model.specs.Nodes.{rows_of}
use Rattle.fine_model.specs.RowBytes.{rows_len}
use Rattle.fine_model.specs.Views.{TellsRows}
use Rattle.node_fetch.specs.Fetched.{most_sought}
use Rattle.partition_hold.specs.Views.{ViewValue, state_of}
use Rattle.partition_hold.proofs.ViewLemmas.{eye_again, view_tells}
use Rattle.partition_hold.proofs.view.View.fetch.Goals as goal

pub invariant_of-self : goal.invariant_of-self
invariant_of-self g c = eye_again _ (g.E.LogEye.state c.fetch.new.eye) c.fetch.ensures.eye.same c.self.invariant

pub returns-clause-exact : goal.returns-clause-exact
returns-clause-exact g c rows t =
    c.fetch.ensures.exact rows (view_tells _ rows c.self.invariant (subst (λ (v : ViewValue). TellsRows (state_of v) rows) (sym c.self.view_is) t))

pub returns-clause-taken : goal.returns-clause-taken
returns-clause-taken g c rows t =
    let P : ViewValue → Type 0 = λ v. (g.E.LogEye.state c.fetch.new.eye).taken ≤ v.eye.taken + (most_sought v.parts + rows_len (rows_of c.args.node rows)) in
    subst P c.self.view_is (c.fetch.ensures.taken rows (view_tells _ rows c.self.invariant (subst (λ (v : ViewValue). TellsRows (state_of v) rows) (sym c.self.view_is) t)))

-- What a pass keeps over one step and another it keeps over both.
use Rattle.std.proofs.Common.{refl, ◌∙◌}
use Rattle.fine_hall.specs.declared.pass.Pass.{Pass}
use Rattle.fine_hall.specs.Halls.{KeepsViews}

module _ {V : Type 0} where
  pub views_none : (p : Pass V) → KeepsViews p p
  views_none p = record { reads = refl; front = (refl, refl); backs = refl }

  pub views_more : (p q r : Pass V) → KeepsViews p q → KeepsViews q r → KeepsViews p r
  views_more p q r s t = record { reads = t.reads ∙ s.reads; front = (t.front.0 ∙ s.front.0, t.front.1 ∙ s.front.1); backs = t.backs ∙ s.backs }

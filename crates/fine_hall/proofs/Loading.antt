-- What a front leaves in the nodes of which no row is above the published epoch.
use Rattle.std.proofs.Common.{ℕ, Option, sym, ap, ◌∙◌}
use Rattle.fine_model.specs.declared.law.ViewState.{ViewState}
use Rattle.fine_model.specs.Nodes.{Content}
use Rattle.fine_model.specs.Buckets.{node_id}
use Rattle.fine_model.proofs.Merging.UpTo.{same_content}
use Rattle.fine_hall.specs.EngineLaws.{LoadLaw}

module _ {B V : Type 0} (bucket : B → ℕ) (cached : B → ℕ → Option (Content × ℕ)) (is_settled : B → Type 0) (view : V → ViewState) where
  pub load_law : LoadLaw bucket cached is_settled view
  load_law z x p b k pass ahead stands e first began =
      let s = ahead.shows.tells e first began in (
        s.0,
        s.1,
        λ n none whole. let same = same_content _ _ (node_id k n) first _ ahead.reaches (pass.lawful.legal e first began) (stands.absent n none) in
            s.2.same (node_id k n) (λ broken. whole (ap (λ (c : Content). c.0) (sym same) ∙ broken)) ∙ same,
      )

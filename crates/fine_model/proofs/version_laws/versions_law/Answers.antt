use Rattle.fine_model.proofs.Trees.Versions.{follow-append, follow-parts}
use Rattle.fine_model.proofs.Trees.CallVersions.{pushed_versions, legal_versions}
use Rattle.fine_model.proofs.version_laws.versions_law.Goals as goal

pub returns : goal.returns
returns c = record { pushed = pushed_versions; legal = legal_versions; both = follow-append; parts = follow-parts }

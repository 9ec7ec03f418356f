use Rattle.fine_model.proofs.Ordered.Arranged.{arranged_content, arranged_agrees}
use Rattle.fine_model.proofs.version_laws.arranged_law.Goals as goal

pub returns : goal.returns
returns c = record { content = arranged_content; agrees = arranged_agrees }

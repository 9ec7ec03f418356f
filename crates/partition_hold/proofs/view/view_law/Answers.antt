use Rattle.partition_hold.proofs.ViewLemmas.{view_each, view_names, view_part, view_tells}
use Rattle.partition_hold.proofs.view.view_law.Goals as goal

pub returns : goal.returns
returns c = record { tells = view_tells; each = view_each; part = view_part; names = view_names }

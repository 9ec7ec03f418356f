use Rattle.std.proofs.Common.{sym}
use Rattle.node_cache.proofs.StepLemmas.{changes}
use Rattle.node_cache.specs.Saves.{saved_in}
use Rattle.node_cache.proofs.changing.change_pair.Goals as goal

pub returns-in-Some-clause-change : goal.returns-in-Some-clause-change
returns-in-Some-clause-change c =
    changes c.change_kept.result c.args.nodes.now.entries _ (saved_in c.args.saved.now) (saved_in c.change_kept.new.saved) c.args.row.now c.in-Some.kept.now c.change_kept.new.kept (sym (c.in-Some.ensures).value) (c.get_mut.follows.holds _).0 c.change_kept.ensures.done c.change_kept.ensures.noted c.change_kept.ensures.err_kept c.change_kept.ensures.err_saved

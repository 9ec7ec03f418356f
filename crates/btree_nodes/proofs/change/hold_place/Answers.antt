use Rattle.std.proofs.Common.{◌≡◌, false, is_some, refl, sym, ap, ◌∙◌}
use Rattle.node_cache.specs.Cache.{cached}
use Rattle.node_cache.proofs.Loading.{copied_there, none_there}
use Rattle.btree_nodes.proofs.Pushed.{hold_saves, hold_held}
use Rattle.btree_nodes.proofs.change.hold_place.Goals as goal

pub returns-clause-saves : goal.returns-clause-saves
returns-clause-saves c =
    let b = c.args.bucket.now in
    let absent : is_some (cached b c.args.number) ≡ false = ap is_some (sym c.peek.ensures) ∙ copied_there c.peek.result ∙ sym c.if-is_some.ensures in
    hold_saves b c.save.new.self c.put_own.new.bucket c.args.number _ (none_there (cached b c.args.number) absent) (c.in_ok-save.ensures).saved c.save.ensures.before (c.in_ok-save.ensures).here c.put_own.result c.put_own.ensures.nodes c.put_own.ensures.here c.put_own.ensures.elsewhere c.put_own.ensures.err

pub returns-clause-held : goal.returns-clause-held
returns-clause-held c =
    let b = c.args.bucket.now in
    let absent : is_some (cached b c.args.number) ≡ false = ap is_some (sym c.peek.ensures) ∙ copied_there c.peek.result ∙ sym c.if-is_some.ensures in
    hold_held b c.save.new.self c.put_own.new.bucket c.args.number _ (none_there (cached b c.args.number) absent) (c.in_ok-save.ensures).saved c.save.ensures.before (c.in_ok-save.ensures).here c.put_own.result refl c.put_own.ensures.nodes c.put_own.ensures.here c.put_own.ensures.elsewhere

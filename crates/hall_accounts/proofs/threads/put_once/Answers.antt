use Rattle.std.proofs.Common.{sym, ap, ◌∙◌}
use Rattle.hall_accounts.specs.Doing.{commits_of}
use Rattle.hall_accounts.proofs.Doing.{mine_kept}
use Rattle.hall_accounts.proofs.threads.put_once.Goals as goal

pub returns : goal.returns
returns g c = let e = c.run-ended.ensures in (record { idle = e.idle.0; free = e.free; mine = mine_kept c.args.active.now.pass c.run-ended.new.pass c.reserve.new.self.items c.keep.new.kept.items c.run-ended.result (c.requires.mine ∙ ap commits_of (sym c.reserve.ensures.items)) c.run-ended.ensures.adds c.keep.ensures }, e.idle.1)

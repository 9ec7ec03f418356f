use Rattle.std.proofs.Common.{sym, ap, ◌∙◌}
use Rattle.hall_accounts.specs.Doing.{commits_of}
use Rattle.hall_accounts.proofs.Doing.{mine_kept}
use Rattle.hall_accounts.proofs.threads.try_once.Goals as goal

pub returns : goal.returns
returns g c = let e = c.transfer-ended.ensures in (record { idle = e.idle.0; free = e.free; mine = mine_kept c.args.active.now.pass c.transfer-ended.new.pass c.reserve.new.self.items c.keep.new.kept.items c.transfer-ended.result (c.requires.mine ∙ ap commits_of (sym c.reserve.ensures.items)) c.transfer-ended.ensures.adds c.keep.ensures }, e.idle.1)

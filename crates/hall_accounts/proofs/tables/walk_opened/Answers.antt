use Rattle.hall_accounts.proofs.Gone.{goes}
use Rattle.hall_accounts.proofs.tables.walk_opened.Goals as goal

pub walk-otherwise-requires : goal.walk-otherwise-requires
walk-otherwise-requires g c =
    let t = c.requires.two in
    let f = c.requires.free in
    record { one = (goes c.args.opened.hall c.args.txns.0 c.args.opened.one t.one f.0, t.numbers.0); two = (goes c.args.opened.hall c.args.txns.1 c.args.opened.two t.two f.1, t.numbers.1) }

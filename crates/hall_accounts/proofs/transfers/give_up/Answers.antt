use Rattle.hall_rooms.specs.Rooms.{beginning_of}
use Rattle.txn_engine.proofs.Idle.{aborts_idle}
use Rattle.hall_accounts.proofs.transfers.give_up.Goals as goal

pub returns : goal.returns
returns g c =
    let e = c.abort.ensures in
    let o = c.requires.going in
    let i = aborts_idle (beginning_of c.args.hall.now) c.args.keep c.args.txn.now c.abort.new.self c.args.pass.now c.abort.new.pass e.pass.1 e.pass.0.lawful e.aborts o.room o.job in
    record {
      idle = record { idle = (e.pass.0, i.0, i.1) };
      stays = (e.pass.1, e.aborts.sees.same_own);
      free = record { lane = c.args.txn.now.draft.lane; turn = c.args.txn.now.draft.turn; is_blank = e.aborts.blank_now.0; none = e.aborts.blank_now.1 };
    }

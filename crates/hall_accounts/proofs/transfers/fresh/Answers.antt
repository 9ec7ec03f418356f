use Rattle.hall_accounts.proofs.transfers.fresh.Goals as goal

pub returns-in-Ok : goal.returns-in-Ok
returns-in-Ok c = record { lane = c.args.lane; turn = 1; is_blank = c.in-Ok.ensures.draft; none = c.in-Ok.ensures.locks }

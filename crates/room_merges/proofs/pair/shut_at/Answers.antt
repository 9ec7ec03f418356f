use Rattle.std.proofs.Common.{sym, ◌∙◌}
use Rattle.room_merges.proofs.Pairing.{some_none, some_same}
use Rattle.room_merges.proofs.Shut.{not_shut, shut_epoch}
use Rattle.room_merges.proofs.pair.shut_at.Goals as goal

pub returns-in-Shut-clause-shut : goal.returns-in-Shut-clause-shut
returns-in-Shut-clause-shut g c =
    let is = shut_epoch c.args.room.now.room 0 c.in-Shut.epoch (sym c.fit.ensures ∙ c.in-Shut.is) in
    λ epoch same. (is.0, sym (some_same c.in-Shut.epoch epoch same) ∙ is.1)

pub returns : goal.returns
returns g c = record {
  shut = λ epoch is. absurd (some_none epoch (sym is));
  «open» = λ _. not_shut c.args.room.now.room 0 (λ epoch is. c.in_default.not-Shut epoch (c.fit.ensures ∙ is));
}

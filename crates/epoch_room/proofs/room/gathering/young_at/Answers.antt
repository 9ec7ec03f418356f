use Rattle.std.proofs.Common.{nat_le, not, arith}
use Rattle.std.proofs.lemmas.List.Sums.{prefix_len-le-length}
use Rattle.fine_model.specs.declared.Part.{Part}
use Rattle.epoch_room.proofs.room.gathering.young_at.Goals as goal

pub returns-clause-at : goal.returns-clause-at
returns-clause-at c = c.or_end.ensures (λ p. nat_le c.args.from p.header.range.first) c.position_young.ensures

pub returns-clause-most : goal.returns-clause-most
returns-clause-most c =
    let at = c.or_end.ensures (λ p. nat_le c.args.from p.header.range.first) c.position_young.ensures in
    let most = prefix_len-le-length (λ (p : Part). not (nat_le c.args.from p.header.range.first)) c.args.parts.now in
    omega (arith, at, most)

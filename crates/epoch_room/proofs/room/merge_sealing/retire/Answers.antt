use Rattle.std.proofs.Common.{◌≡◌, nat_lt, not, arith}
use Rattle.std.specs.List.{position_or_len}
use Rattle.std.proofs.lemmas.List.Sums.{prefix_len-le-length}
use Rattle.fine_model.specs.declared.Part.{Part}
use Rattle.epoch_room.proofs.room.merge_sealing.retire.Goals as goal

pub insert-inserted-requires : goal.insert-inserted-requires
insert-inserted-requires c =
    let at : c.or_end-at.result ≡ position_or_len (λ p. nat_lt c.args.part.region p.region) c.as_slice-slice.result.now = c.or_end-at.ensures (λ p. nat_lt c.args.part.region p.region) c.position_above.ensures in
    let most = prefix_len-le-length (λ (p : Part). not (nat_lt c.args.part.region p.region)) c.as_slice-slice.result.now in
    let long = c.as_slice-slice.ensures.len in
    omega (arith, at, most, long)

use Rattle.std.proofs.Common.{◌≡◌, ℕ, List, length, take, ap, arith, length-append}
use Rattle.std.specs.List.{flat_map}
use Rattle.std.specs.Int.{to_be_bytes, w32}
use Rattle.std.proofs.lemmas.List.{take_all}
use Rattle.fine_model.specs.RowBytes.{body, key_bytes}
use Rattle.node_record.proofs.Writing.{children_len}
use Rattle.node_record.proofs.bodies.inner.len.Goals as goal

pub returns-clause-is : goal.returns-clause-is
unfolding body
returns-clause-is c =
    let all : take c.loop-key.key-index c.args.seps.now ≡ c.args.seps.now = take_all c.loop-key.key-index c.args.seps.now (omega (arith, ap length c.as_slice-key-items.ensures)) in
    omega (arith, children_len c.args.kids.now, ap (λ (ks : List (List ℕ)). length (flat_map key_bytes ks)) all, length-append (flat_map (to_be_bytes w32) c.args.kids.now) (flat_map key_bytes c.args.seps.now))

use Rattle.std.proofs.Common.{◌+◌, ◌%◌, sym, ap, ◌∙◌, arith}
use Rattle.btree_nodes.proofs.Hashed.{hashed}
use Rattle.btree_nodes.proofs.hash.hash_of_eight.Goals as goal

pub returns : goal.returns
returns c low =
    hashed c.args.bytes.now c.first_word.result c.requires (λ i. let fits = c.type_inv.bytes i in omega (arith, fits)) c.first_word.ensures low
    ∙ ap (λ m. (low + m) % 256) (sym c.hash_of_word.ensures)

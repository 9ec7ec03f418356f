use Rattle.std.proofs.Common.{refl, ◌∙◌, arith}
use Rattle.btree_nodes.proofs.Hashed.{hashed_first}
use Rattle.btree_nodes.proofs.hash.hash_of_first.Goals as goal

pub returns : goal.returns
returns c = c.hash_of_word.ensures ∙ hashed_first c.args.key.now c.args.many c.first_word.result _ c.requires.long c.requires.many.0 c.requires.many.1 (λ i. let fits = c.type_inv.key i in omega (arith, fits)) c.first_word.ensures refl

use Rattle.std.proofs.Common.{◌∙◌, sym}
use Rattle.btree_nodes.proofs.Hashed.{bucket_low}
use Rattle.btree_nodes.proofs.hash.bucket_number.Goals as goal

pub returns-then-key-lt8 : goal.returns-then-key-lt8
returns-then-key-lt8 c = c.hash_behind.ensures ∙ sym (bucket_low c.args.key.now)

pub returns : goal.returns
returns c = c.hash_behind-2.ensures ∙ c.loop-left.invariant ∙ sym (bucket_low c.args.key.now)

use Rattle.std.proofs.Common.{rules}
use Rattle.btree_nodes.proofs.SumsNew.{added_soundly}
use Rattle.btree_nodes.proofs.adding.add_to.Goals as goal

pub returns-in_err-path-clause-change : goal.returns-in_err-path-clause-change
returns-in_err-path-clause-change g c = search rules

pub returns-in_err-path-clause-sound : goal.returns-in_err-path-clause-sound
returns-in_err-path-clause-sound g c =
    added_soundly _ _ _ c.args.bucket.now c.find_leaf.new.bucket c.args.log.now c.args.log.now c.args.key.now c.args.by _ _ c.requires.bucket (returns-in_err-path-clause-change g c)

pub returns-clause-change : goal.returns-clause-change
returns-clause-change g c = search rules

pub returns-clause-sound : goal.returns-clause-sound
returns-clause-sound g c =
    added_soundly _ _ _ c.args.bucket.now c.add_in.new.bucket c.args.log.now c.add_in.new.log c.args.key.now c.args.by _ c.add_in.result c.requires.bucket (returns-clause-change g c)

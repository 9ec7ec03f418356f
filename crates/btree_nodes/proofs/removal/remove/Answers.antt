use Rattle.std.proofs.Common.{rules}
use Rattle.btree_nodes.proofs.SoundCalls.{removed_soundly}
use Rattle.btree_nodes.proofs.removal.remove.Goals as goal

pub returns-in_err-path-clause-change : goal.returns-in_err-path-clause-change
returns-in_err-path-clause-change g c = search rules

pub returns-in_err-path-clause-sound : goal.returns-in_err-path-clause-sound
returns-in_err-path-clause-sound g c =
    removed_soundly _ _ _ c.args.bucket.now c.find_leaf.new.bucket c.args.log.now c.args.log.now c.args.key.now _ _ c.requires.bucket (returns-in_err-path-clause-change g c)

pub returns-clause-change : goal.returns-clause-change
returns-clause-change g c = search rules

pub returns-clause-sound : goal.returns-clause-sound
returns-clause-sound g c =
    removed_soundly _ _ _ c.args.bucket.now c.remove_at.new.bucket c.args.log.now c.remove_at.new.log c.args.key.now _ c.remove_at.result c.requires.bucket (returns-clause-change g c)

use Rattle.std.proofs.Common.{rules}
use Rattle.btree_nodes.proofs.SoundGrowth.{put_soundly}
use Rattle.btree_nodes.proofs.insertion.insert.Goals as goal

pub returns-in_err-path-clause-change : goal.returns-in_err-path-clause-change
returns-in_err-path-clause-change g c = search rules

pub returns-in_err-path-clause-sound : goal.returns-in_err-path-clause-sound
returns-in_err-path-clause-sound g c =
    put_soundly _ _ _ c.args.bucket.now c.find_leaf.new.bucket c.args.log.now c.args.log.now c.args.key.now c.args.value.now _ _ c.requires.bucket (returns-in_err-path-clause-change g c)

pub returns-clause-change : goal.returns-clause-change
returns-clause-change g c = search rules

pub returns-clause-sound : goal.returns-clause-sound
returns-clause-sound g c =
    put_soundly _ _ _ c.args.bucket.now c.put_at.new.bucket c.args.log.now c.put_at.new.log c.args.key.now c.args.value.now _ c.put_at.result c.requires.bucket (returns-clause-change g c)

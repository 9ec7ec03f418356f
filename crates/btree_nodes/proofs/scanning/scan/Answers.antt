use Rattle.std.proofs.Common.{Ok, Err, rules}
use Rattle.btree_nodes.proofs.SoundScans.{scans_soundly}
use Rattle.btree_nodes.proofs.scanning.scan.Goals as goal

pub returns-in-Ok-clause-answer : goal.returns-in-Ok-clause-answer
returns-in-Ok-clause-answer g c = search rules

pub returns-in-Ok-clause-sound : goal.returns-in-Ok-clause-sound
returns-in-Ok-clause-sound g c =
    scans_soundly _ _ _ c.args.bucket.now c.scan_from_head.new.bucket c.args.low.now c.args.high.now c.args.limit c.args.out.now c.scan_from_head.new.out (λ _. ⊥) (Ok tt) c.requires.bucket c.scan_from_head.ensures.loaded c.scan_from_head.ensures.on_walk (returns-in-Ok-clause-answer g c)

pub returns-in-Err-clause-answer : goal.returns-in-Err-clause-answer
returns-in-Err-clause-answer g c = search rules

pub returns-in-Err-clause-sound : goal.returns-in-Err-clause-sound
returns-in-Err-clause-sound g c =
    scans_soundly _ _ _ c.args.bucket.now c.scan_from_head.new.bucket c.args.low.now c.args.high.now c.args.limit c.args.out.now c.truncate.new.self _ (Err c.in-Err.fault) c.requires.bucket c.scan_from_head.ensures.loaded c.scan_from_head.ensures.on_walk (returns-in-Err-clause-answer g c)

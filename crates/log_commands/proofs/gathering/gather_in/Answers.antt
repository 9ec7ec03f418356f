use Rattle.std.proofs.Common.{subst, arith}
use Rattle.node_cache.specs.Cache.{Cache}
use Rattle.node_cache.specs.Given.{IsLoaded}
use Rattle.log_commands.proofs.Buckets.{gathers_one, scan_fault}
use Rattle.log_commands.proofs.gathering.gather_in.Goals as goal

-- with a fault
pub returns-clause-answer : goal.returns-clause-answer
returns-clause-answer g c =
    scan_fault (g.S.NodeSource.tells c.args.source.now) (g.S.NodeSource.finds c.args.source.now) (g.S.NodeSource.upper c.args.source.now) c.args.number c.scan.new.bucket _ c.requires.number
    (subst (λ (b : Cache). IsLoaded (g.S.NodeSource.tells c.args.source.now) (g.S.NodeSource.finds c.args.source.now) (g.S.NodeSource.upper c.args.source.now) b c.scan.new.bucket) c.new-bucket.ensures c.scan.ensures.loaded)
    c.in-Err.fault c.in-Err.ensures.answer

pub returns-then-len-clause-answer : goal.returns-then-len-clause-answer
returns-then-len-clause-answer g c =
    gathers_one (g.S.NodeSource.tells c.args.source.now) (g.S.NodeSource.finds c.args.source.now) (g.S.NodeSource.upper c.args.source.now) c.args.number c.scan.new.bucket c.args.pairs.now c.scan.new.out
    (subst (λ (b : Cache). IsLoaded (g.S.NodeSource.tells c.args.source.now) (g.S.NodeSource.finds c.args.source.now) (g.S.NodeSource.upper c.args.source.now) b c.scan.new.bucket) c.new-bucket.ensures c.scan.ensures.loaded)
    c.in-Ok.ensures.answer c.note_bucket.ensures (let e = c.len.ensures in let h = c.if-len.true in omega (arith, e, h))

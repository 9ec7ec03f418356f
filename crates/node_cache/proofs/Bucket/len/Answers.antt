use Rattle.std.proofs.Common.{subst}
use Rattle.node_cache.specs.Cache.{Cache, IsCache}
use Rattle.node_cache.proofs.Kept.{is_cache}
use Rattle.node_cache.specs.Saves.{saved_in}
use Rattle.node_cache.proofs.Bucket.len.Goals as goal

pub returns-clause-whole : goal.returns-clause-whole
returns-clause-whole c = subst (λ (b : Cache). IsCache b.nodes b.saved) c.self.view_is (is_cache c.self.inside.nodes.entries (saved_in c.self.inside.saved) c.self.invariant.kept)

use Rattle.std.proofs.Common.{◌≡◌, ◌∙◌, Err, false, is_some, rules, sym, ap, subst}
use Rattle.fine_model.specs.Nodes.{content}
use Rattle.node_cache.specs.Cache.{cached}
use Rattle.node_fetch.specs.Fetched.{IsReplayOf}
use Rattle.partition_hold.specs.Sources.{finds_in, tells_rows}
use Rattle.node_cache.proofs.Loading.{copied_there, put_loads}
use Rattle.partition_hold.proofs.SourceLemmas.{err_fails, fetch_fails}
use Rattle.partition_hold.proofs.source.ViewNodeSource.load.Goals as goal

pub returns-in_err-node-clause-fails : goal.returns-in_err-node-clause-fails
returns-in_err-node-clause-fails g c =
    let same : c.from_residual.result ≡ Err c.in_err-node.field-0.0 = search rules in
    let is : c.fetch.result ≡ Err c.in_err-node.field-0.0 = search rules in
    err_fails c.from_residual.result c.in_err-node.field-0.0 _ same
    (fetch_fails c.args.self.now c.fetch.new.self _ c.fetch.result c.in_err-node.field-0.0 (λ rows found. found ≡ content rows (record { bucket = c.bucket.result; number = c.args.number })) is
    c.fetch.ensures.eye.counts c.fetch.ensures.bad_row c.fetch.ensures.bad_index c.fetch.ensures.exact)

pub returns-in-Ok-clause-load : goal.returns-in-Ok-clause-load
returns-in-Ok-clause-load g c =
    let old = c.args.bucket.now in
    let done = (c.in-Ok.ensures) in
    let none : is_some (cached old c.args.number) ≡ false = ap is_some (sym c.peek.ensures) ∙ copied_there c.peek.result ∙ sym c.if-is_some.ensures in
    put_loads (tells_rows c.args.self.now) (finds_in c.args.self.now) c.args.self.now.upto c.args.number old _ _ none done.nodes done.here done.elsewhere
    (record {
      epoch = c.upto.ensures ∙ c.fetch.ensures.same.upto;
      found = subst (λ b. IsReplayOf c.args.self.now.eye c.args.self.now.parts (record { bucket = b; number = c.args.number }) (c.in_ok-node.node, c.in_ok-node.version)) c.bucket.ensures c.in_ok-node.ensures.read;
      same = λ rows told. c.in_ok-node.ensures.exact rows told ∙ ap (λ b. content rows (record { bucket = b; number = c.args.number })) c.bucket.ensures;
    })

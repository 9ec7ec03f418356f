use Rattle.std.proofs.Common.{rules, ◌≡◌, ◌≤◌, [], ◌∷◌, ◌++◌, List, append_assoc, sym, ap, subst, ◌∙◌, arith}
use Rattle.std.specs.List.{AllByRecursion}
use Rattle.fine_model.specs.declared.Row.{Row}
use Rattle.fine_model.specs.RowBytes.{FitsRec, greatest}
use Rattle.node_cache.specs.Given.{IsCached}
use Rattle.btree_nodes.specs.Changes.{Pushes, AreReady}
use Rattle.btree_nodes.proofs.Pushed.{push_first, rest_ready, same_buckets, saves_on, no_rows_left}
use Rattle.btree_nodes.proofs.LeafPush.{pushes_none}
use Rattle.btree_nodes.proofs.change.push_all.Goals as goal

pub loop-row-preserved : goal.loop-row-preserved
loop-row-preserved c =
    let a = c.loop-row.bucket in
    let b = c.push_any.new.bucket in
    let row = c.in-Some.row in
    let rest : List Row = c.next.new.self.rest.items in
    let whole : c.loop-row.row-iterator.rest.items ≡ row ∷ rest = c.in-Some.ensures.steps.0 in
    let done = c.in_ok-push_any.ensures in
    let old = c.loop-row.invariant in record {
      of_bucket = same_buckets a b rest c.push_any.ensures.saves.bucket (subst (AllByRecursion (λ r. r.node.bucket ≡ a.bucket)) whole old.of_bucket).1;
      ready = rest_ready a b row rest done.pushes done.there (subst (AreReady (IsCached a)) whole old.ready).1;
      recs = (subst (AllByRecursion (λ r. FitsRec r.rec × (r.version ≤ greatest))) whole old.recs).1;
      saves = saves_on c.args.bucket.now a b old.saves c.push_any.ensures.saves;
      pushes = λ n more. old.pushes n (subst (Pushes a n) (sym whole) (push_first a b n row rest done.pushes more));
      log = ap (λ (l : List Row). l ++ rest) done.log ∙ append_assoc c.loop-row.log (row ∷ []) rest ∙ ap (λ (l : List Row). c.loop-row.log ++ l) (sym whole) ∙ old.log;
    }

pub returns-clause-pushes : goal.returns-clause-pushes
returns-clause-pushes c =
    let b = c.loop-row.bucket in
    let none : c.loop-row.row-iterator.rest.items ≡ [] = let len = c.loop-row.row-iterator.rest.ok in let zero = c.in-None.ensures.steps.0 in no_rows_left c.loop-row.row-iterator.rest.items (omega (arith, len, zero)) in
    let all : c.into_iter-row-iterator.result.rest.items ≡ c.args.rows = search rules in
    subst (Pushes c.args.bucket.now b) all (c.loop-row.invariant.pushes b (subst (Pushes b b) (sym none) (pushes_none b)))

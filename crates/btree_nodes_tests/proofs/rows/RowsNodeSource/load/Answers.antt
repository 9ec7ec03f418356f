use Rattle.std.proofs.Common.{◌≡◌, ℕ, [], is_some, false, refl, sym, ap, ◌∙◌}
use Rattle.fine_model.specs.Nodes.{base, content, replay}
use Rattle.fine_model.specs.Trees.{nodes_of}
use Rattle.node_cache.specs.Cache.{cached}
use Rattle.node_cache.proofs.Loading.{copied_there, put_loads}
use Rattle.btree_nodes_tests.proofs.rows.RowsNodeSource.load.Goals as goal

no_rows : (bucket n : ℕ) → nodes_of [] bucket n ≡ base (record { bucket = bucket; number = n })
unfolding content replay
no_rows bucket n = refl

pub returns-in-Ok-put-clause-load : goal.returns-in-Ok-put-clause-load
returns-in-Ok-put-clause-load c =
    let old = c.args.bucket.now in
    let n = c.args.number in
    let source = c.args.self.now in
    let done = c.in-Ok-put.ensures in
    let none : is_some (cached old n) ≡ false = ap is_some (sym c.peek.ensures) ∙ copied_there c.peek.result ∙ sym c.if-is_some.ensures in
    put_loads (λ rows. (source.bytes.items ≡ []) × (rows ≡ [])) (λ id found. source.bytes.items ≡ [] → found ≡ base id) source.epoch n old _ _ none done.nodes done.here done.elsewhere (record {
      epoch = c.in-Ok.ensures.epoch;
      found = λ empty. c.in-Ok.ensures.first (c.as_slice.ensures.value ∙ empty);
      same = λ rows told. c.in-Ok.ensures.first (c.as_slice.ensures.value ∙ told.0) ∙ sym (no_rows old.bucket n) ∙ ap (λ r. nodes_of r old.bucket n) (sym told.1);
    })

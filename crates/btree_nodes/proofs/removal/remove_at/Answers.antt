use Rattle.std.proofs.Common.{◌≡◌, ◌≤◌, true, false, [], ◌∷◌, refl, sym, ap, subst, ◌∙◌, Ok, arith}
use Rattle.std.proofs.lemmas.Result.{err_from_is_err_and}
use Rattle.fine_model.specs.declared.Rec.TheVariants as rec
use Rattle.fine_model.specs.Pushed.{row_of}
use Rattle.fine_model.specs.Map.{has}
use Rattle.btree_nodes.specs.Trees.{pairs_in, FitsLog}
use Rattle.node_cache.proofs.Loading.{copied_there}
use Rattle.btree_nodes.proofs.LeafPush.{leaf_row, there_by, del_pushed, del_over, del_first, del_absent, leaf_fits}
use Rattle.btree_nodes.proofs.removal.remove_at.Goals as goal

pub returns-then-is_none : goal.returns-then-is_none
returns-then-is_none c =
    let b = c.args.bucket.now in
    let key = c.args.key.now in
    let absent : has (pairs_in b key) key ≡ false = sym (there_by b key c.args.path c.requires.path _ c.value_in.ensures) ∙ copied_there c.value_in.result ∙ c.if-is_none.ensures in
    record { outcome = (sym absent, record { here = c.requires.path.here; fit = c.requires.path.fit }, del_absent b key c.args.path c.requires.path c.args.log.now absent) }

pub returns-in_err-version : goal.returns-in_err-version
returns-in_err-version c =
    let b = c.args.bucket.now in
    let key = c.args.key.now in
    let there : has (pairs_in b key) key ≡ true = sym (there_by b key c.args.path c.requires.path _ c.value_in.ensures) ∙ copied_there c.value_in.result ∙ c.if-is_none.ensures in
    let over = (c.in_err-version.ensures) in
    let p = err_from_is_err_and c.from_residual.result c.from_residual.ensures.1 in
    record { outcome = rw (p.1, p.2, over.0) (del_over b key c.args.path c.requires.path there over.1, del_first b key c.args.path c.requires.path there over.1, record { here = c.requires.path.here; fit = c.requires.path.fit }, record { nodes = refl; rows = refl }) }

pub returns : goal.returns
returns c =
    let b = c.args.bucket.now in
    let key = c.args.key.now in
    let path = c.args.path in
    let there : has (pairs_in b key) key ≡ true = sym (there_by b key path c.requires.path _ c.value_in.ensures) ∙ copied_there c.value_in.result ∙ c.if-is_none.ensures in
    let version = (c.in_ok-version.ensures) in
    let same : c.row_of-row.result ≡ leaf_row b key path c.requires.path (rec.Del key) =
    c.row_of-row.ensures ∙ (λ i. row_of (c.bucket.ensures i) path.leaf (version.0 i) (rec.Del (c.in_ok-from_slice.ensures i))) in record {
      outcome = (
        sym there,
        record { here = c.requires.path.here; fit = c.requires.path.fit },
        record {
          rows = c.row_of-row.result ∷ [];
          is_pushed = del_pushed b key path c.requires.path there (subst (λ v. v ≤ 4611686018427387904) version.0 version.1) ∙ ap (λ row. Ok (row ∷ [])) (sym same);
          behind = (c.in_ok-push_pair.ensures).log;
          pushes = (c.in_ok-push_pair.ensures).pushes;
          fits = subst (λ row. FitsLog b.bucket (row ∷ [])) (sym same) (leaf_fits b key path c.requires.path (rec.Del key) c.requires.key (λ e. omega (arith, e)) (subst (λ v. v ≤ 4611686018427387904) version.0 version.1));
        },
      );
    }

use Rattle.std.proofs.Common.{◌≡◌, ◌≤◌, true, false, [], ◌∷◌, Ok, to_z-of_z, refl, sym, ap, subst, ◌∙◌, arith}
use Rattle.std.proofs.lemmas.Result.{err_from_is_err_and}
use Rattle.fine_model.specs.Map.{get, has}
use Rattle.fine_model.specs.NumberText.{number_text}
use Rattle.fine_model.specs.Pushed.{row_of, call_push, within_limits}
use Rattle.fine_model.specs.RowBytes.{FitsValue}
use Rattle.fine_model.specs.Store.{answer}
use Rattle.fine_model.specs.Trees.{pairs_of}
use Rattle.fine_model.specs.declared.Call.TheVariants as call
use Rattle.fine_model.specs.declared.FetchFault.{FetchFault}
use Rattle.fine_model.specs.declared.Rec.TheVariants as rec
use Rattle.fine_model.specs.declared.Reply.{Reply}
use Rattle.fine_model.specs.declared.Reply.TheVariants as reply
use Rattle.node_record.proofs.Texts.{test_from_fits}
use Rattle.node_cache.specs.Given.{given}
use Rattle.node_cache.proofs.Loading.{none_there, copied_there}
use Rattle.btree_nodes.specs.Calls.{is_sum}
use Rattle.btree_nodes.specs.Trees.{pairs_in, FitsLog}
use Rattle.btree_nodes.proofs.LeafPush.{leaf_row, leaf_fits, there_by}
use Rattle.btree_nodes.proofs.Paths.{path_pairs}
use Rattle.btree_nodes.proofs.Sums.{add_nothing, plus_pushed, plus_over, plus_first, answer_absent}
use Rattle.btree_nodes.proofs.SumsNew.{text_fits, pushed_new, fault_same}
use Rattle.btree_nodes.proofs.adding.add_in.Goals.{After-as_slice, After-reply_in-reply}
use Rattle.btree_nodes.proofs.adding.add_in.Goals as goal

-- the text that is set where the key is absent
text_is : (c : After-as_slice) → c.as_slice.result.now ≡ number_text c.args.by
text_is c = c.as_slice.ensures ∙ c.in_ok-text.ensures ∙ ap number_text (to_z-of_z c.ranges.by)

absent : (c : After-as_slice) → has (pairs_in c.args.bucket.now c.args.key.now) c.args.key.now ≡ false
absent c = sym (there_by c.args.bucket.now c.args.key.now c.args.path c.requires.path _ c.value_in.ensures) ∙ copied_there c.value_in.result ∙ c.if-is_none.ensures

-- what is pushed then is what setting it pushes
same_push : (c : After-as_slice) → call_push c.args.bucket.now.bucket (given c.args.bucket.now) (call.Add c.args.key.now c.args.by) ≡ call_push c.args.bucket.now.bucket (given c.args.bucket.now) (call.Put c.args.key.now c.as_slice.result.now)
same_push c =
    pushed_new c.args.bucket.now c.args.key.now c.args.by (absent c) (test_from_fits c.args.by c.ranges.by)
    ∙ ap (λ t. call_push c.args.bucket.now.bucket (given c.args.bucket.now) (call.Put c.args.key.now t)) (sym (text_is c))

pub put_at-requires-clause-value : goal.put_at-requires-clause-value
put_at-requires-clause-value c = subst FitsValue (sym (text_is (goal.at.put_at-requires-clause-value c).After-as_slice)) (text_fits c.args.by c.ranges.by)

pub returns-in_err-put_at : goal.returns-in_err-put_at
returns-in_err-put_at c =
    let b = c.args.bucket.now in
    let p = err_from_is_err_and c.from_residual-in_err-put_at.result c.from_residual-in_err-put_at.ensures.1 in
    record {
      outcome = rw (p.1, p.2)
          (fault_same b c.put_at.new.bucket c.args.log.now c.put_at.new.log c.args.key.now c.as_slice.result.now c.args.by (λ (u : Unit {0}). Unit {0}) (λ (r : Reply). r ≡ (answer (pairs_in b c.args.key.now) (call.Add c.args.key.now c.args.by)).0) (λ (f : FetchFault). ⊥)
          (same_push (goal.at.returns-in_err-put_at c).After-as_slice) c.in_err-put_at.field-0.0 (c.in_err-put_at.ensures).outcome);
    }

pub returns-then-is_none : goal.returns-then-is_none
returns-then-is_none c =
    let at = (goal.at.returns-then-is_none c).After-as_slice in
    let pairs = pairs_in c.args.bucket.now c.args.key.now in
    let done = (c.in_ok-put_at.ensures).outcome in record {
      outcome = (
        ap reply.Sum (to_z-of_z c.ranges.by) ∙ sym (answer_absent pairs c.args.key.now c.args.by (none_there (get pairs c.args.key.now) (absent at)) (test_from_fits c.args.by c.ranges.by)),
        done.1,
        record { rows = done.2.rows; is_pushed = ap within_limits (same_push at) ∙ done.2.is_pushed; behind = done.2.behind; pushes = done.2.pushes; fits = done.2.fits },
      );
    }

-- what is said of a key that is there
there : (c : After-reply_in-reply) → has (pairs_in c.args.bucket.now c.args.key.now) c.args.key.now ≡ true
there c = sym (there_by c.args.bucket.now c.args.key.now c.args.path c.requires.path _ c.value_in.ensures) ∙ copied_there c.value_in.result ∙ c.if-is_none.ensures

said : (c : After-reply_in-reply) → c.reply_in-reply.result ≡ (answer (pairs_in c.args.bucket.now c.args.key.now) (call.Add c.args.key.now c.args.by)).0
said c =
    c.reply_in-reply.ensures ∙ ap (λ z. (answer (pairs_of (given c.args.bucket.now c.args.path.leaf).0) (call.Add c.args.key.now z)).0) (to_z-of_z c.ranges.by)
    ∙ ap (λ m. (answer m (call.Add c.args.key.now c.args.by)).0) (sym (path_pairs c.args.bucket.now c.args.key.now c.args.path c.requires.path))

pub returns-then-not-is_sum : goal.returns-then-not-is_sum
returns-then-not-is_sum c =
    let is = c.requires.path in
    let said = said (goal.at.returns-then-not-is_sum c).After-reply_in-reply in
    record { outcome = (said, record { here = is.here; fit = is.fit }, add_nothing c.args.bucket.now c.args.key.now c.args.by c.args.path is c.args.log.now (sym (ap is_sum said) ∙ sym c.if-not-is_sum.ensures)) }

pub returns-in_err-version : goal.returns-in_err-version
returns-in_err-version c =
    let at = (goal.at.returns-in_err-version c).After-reply_in-reply in
    let is = c.requires.path in
    let sum = sym (ap is_sum (said at)) ∙ sym c.if-not-is_sum.ensures in
    let over = c.in_err-version.ensures in
    let p = err_from_is_err_and c.from_residual-in_err-version.result c.from_residual-in_err-version.ensures.1 in
    record {
      outcome = rw (p.1, p.2, over.0)
          (plus_over c.args.bucket.now c.args.key.now c.args.by c.args.path is (there at) sum over.1, plus_first c.args.bucket.now c.args.key.now c.args.by c.args.path is (there at) sum over.1, record { here = is.here; fit = is.fit }, record { nodes = refl; rows = refl });
    }

pub returns : goal.returns
returns c =
    let at = (goal.at.returns c).After-reply_in-reply in
    let b = c.args.bucket.now in
    let key = c.args.key.now in
    let path = c.args.path in
    let is = c.requires.path in
    let sum = sym (ap is_sum (said at)) ∙ sym c.if-not-is_sum.ensures in
    let version = c.in_ok-version.ensures in
    let small = subst (λ v. v ≤ 4611686018427387904) version.0 version.1 in
    let same : c.row_of-row.result ≡ leaf_row b key path is (rec.Plus key c.args.by) =
    c.row_of-row.ensures ∙ (λ i. row_of (c.bucket.ensures i) path.leaf (version.0 i) (rec.Plus (c.in_ok-from_slice.ensures i) (to_z-of_z c.ranges.by i))) in record {
      outcome = (
        said at,
        record { here = is.here; fit = is.fit },
        record {
          rows = c.row_of-row.result ∷ [];
          is_pushed = plus_pushed b key c.args.by path is (there at) sum small ∙ ap (λ row. Ok (row ∷ [])) (sym same);
          behind = c.in_ok-push_pair.ensures.log;
          pushes = c.in_ok-push_pair.ensures.pushes;
          fits = subst (λ row. FitsLog b.bucket (row ∷ [])) (sym same) (leaf_fits b key path is (rec.Plus key c.args.by) (c.requires.key, c.ranges.by) (λ e. omega (arith, e)) small);
        },
      );
    }

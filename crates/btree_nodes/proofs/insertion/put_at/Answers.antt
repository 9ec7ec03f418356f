use Rattle.std.proofs.Common.{◌≡◌, ◌≤◌, [], ◌∷◌, refl, sym, ap, subst, ◌∙◌, Ok, arith}
use Rattle.std.specs.Prelude.{IsTrue}
use Rattle.std.proofs.lemmas.Result.{err_from_is_err_and}
use Rattle.fine_model.specs.declared.Rec.TheVariants as rec
use Rattle.fine_model.specs.Pushed.{row_of}
use Rattle.fine_model.specs.Trees.{pairs_of}
use Rattle.node_cache.specs.Given.{given}
use Rattle.btree_nodes.specs.Growths.{has_room}
use Rattle.btree_nodes.specs.Trees.{FitsLog}
use Rattle.btree_nodes.proofs.LeafPush.{leaf_row, leaf_fits}
use Rattle.btree_nodes.proofs.PutLeaf.{put_one, put_over, put_first}
use Rattle.btree_nodes.proofs.PutRows.{put_grows, put_pushed, can_put, limits_outcome}
use Rattle.btree_nodes.proofs.insertion.put_at.Goals.{After-next_version}
use Rattle.btree_nodes.proofs.insertion.put_at.Goals as goal

-- the leaf has room for the key
room : (c : After-next_version) → IsTrue (has_room (pairs_of (given c.args.bucket.now c.args.path.leaf).0) c.args.key.now)
room c = sym c.has_room.ensures ∙ c.if-has_room.true

pub returns-in_err-version : goal.returns-in_err-version
returns-in_err-version c =
    let room = room (goal.at.returns-in_err-version c).After-next_version in
    let is = c.requires.path in
    let over = c.in_err-version.ensures in
    let p = err_from_is_err_and c.from_residual.result c.from_residual.ensures.1 in
    record {
      outcome = rw (p.1, p.2, over.0)
          (put_over c.args.bucket.now c.args.key.now c.args.value.now c.args.path is room over.1, put_first c.args.bucket.now c.args.key.now c.args.value.now c.args.path is room over.1, record { here = is.here; fit = is.fit }, record { nodes = refl; rows = refl });
    }

pub returns-then-has_room : goal.returns-then-has_room
returns-then-has_room c =
    let b = c.args.bucket.now in
    let key = c.args.key.now in
    let value = c.args.value.now in
    let path = c.args.path in
    let is = c.requires.path in
    let room = room (goal.at.returns-then-has_room c).After-next_version in
    let version = c.in_ok-version.ensures in
    let small = subst (λ v. v ≤ 4611686018427387904) version.0 version.1 in
    let same : c.row_of-row.result ≡ leaf_row b key path is (rec.Put key value) =
    c.row_of-row.ensures ∙ (λ i. row_of (c.bucket.ensures i) path.leaf (version.0 i) (rec.Put (c.in_ok-from_slice.ensures i) (c.in_ok-from_slice-2.ensures i))) in record {
      outcome = (
        tt,
        record { here = is.here; fit = is.fit },
        record {
          rows = c.row_of-row.result ∷ [];
          is_pushed = put_one b key value path is room small ∙ ap (λ row. Ok (row ∷ [])) (sym same);
          behind = c.in_ok-push_pair.ensures.log;
          pushes = c.in_ok-push_pair.ensures.pushes;
          fits = subst (λ row. FitsLog b.bucket (row ∷ [])) (sym same) (leaf_fits b key path is (rec.Put key value) (c.requires.key, c.requires.value) (λ e. omega (arith, e)) small);
        },
      );
    }

pub returns-in_err-test_limits : goal.returns-in_err-test_limits
returns-in_err-test_limits c =
    let same = put_grows c.args.bucket.now c.args.key.now c.args.value.now (c.requires.key, c.requires.value) c.args.path c.requires.path c.in_ok-push.push c.in_ok-below.below _ _ (c.in_ok-below.ensures).grown c.bucket-2.ensures c.version_of.ensures.is c.in_ok-push.ensures in
    let p = err_from_is_err_and c.from_residual-in_err-test_limits.result c.from_residual-in_err-test_limits.ensures.1 in
    record { outcome = rw (p.1, p.2) (limits_outcome c.args.bucket.now c.args.key.now c.args.value.now (c.requires.key, c.requires.value) c.args.path c.requires.path c.in_ok-push.push same c.args.log.now c.in_err-test_limits.field-0.0 (c.in_err-test_limits.ensures)) }

pub push_all-requires-clause-of_bucket : goal.push_all-requires-clause-of_bucket
push_all-requires-clause-of_bucket c =
    let same = put_grows c.args.bucket.now c.args.key.now c.args.value.now (c.requires.key, c.requires.value) c.args.path c.requires.path c.in_ok-push.push c.in_ok-below.below _ _ (c.in_ok-below.ensures).grown c.bucket-2.ensures c.version_of.ensures.is c.in_ok-push.ensures in
    (can_put c.args.bucket.now c.args.key.now c.args.value.now (c.requires.key, c.requires.value) c.args.path c.requires.path c.in_ok-push.push same (c.in_ok-test_limits.ensures)).of_bucket

pub push_all-requires-clause-ready : goal.push_all-requires-clause-ready
push_all-requires-clause-ready c =
    let same = put_grows c.args.bucket.now c.args.key.now c.args.value.now (c.requires.key, c.requires.value) c.args.path c.requires.path c.in_ok-push.push c.in_ok-below.below _ _ (c.in_ok-below.ensures).grown c.bucket-2.ensures c.version_of.ensures.is c.in_ok-push.ensures in
    (can_put c.args.bucket.now c.args.key.now c.args.value.now (c.requires.key, c.requires.value) c.args.path c.requires.path c.in_ok-push.push same (c.in_ok-test_limits.ensures)).ready

pub push_all-requires-clause-recs : goal.push_all-requires-clause-recs
push_all-requires-clause-recs c =
    let same = put_grows c.args.bucket.now c.args.key.now c.args.value.now (c.requires.key, c.requires.value) c.args.path c.requires.path c.in_ok-push.push c.in_ok-below.below _ _ (c.in_ok-below.ensures).grown c.bucket-2.ensures c.version_of.ensures.is c.in_ok-push.ensures in
    (can_put c.args.bucket.now c.args.key.now c.args.value.now (c.requires.key, c.requires.value) c.args.path c.requires.path c.in_ok-push.push same (c.in_ok-test_limits.ensures)).recs

pub returns : goal.returns
returns c =
    let same = put_grows c.args.bucket.now c.args.key.now c.args.value.now (c.requires.key, c.requires.value) c.args.path c.requires.path c.in_ok-push.push c.in_ok-below.below _ _ (c.in_ok-below.ensures).grown c.bucket-2.ensures c.version_of.ensures.is c.in_ok-push.ensures in record {
      outcome = (
        tt,
        record { here = c.requires.path.here; fit = c.requires.path.fit },
        record {
          rows = c.in_ok-push.push.rows;
          is_pushed = put_pushed c.args.bucket.now c.args.key.now c.args.value.now (c.requires.key, c.requires.value) c.args.path c.requires.path c.in_ok-push.push same (Ok c.in_ok-push.push.rows) (c.in_ok-test_limits.ensures);
          behind = c.in_ok-push_all.ensures.log;
          pushes = c.in_ok-push_all.ensures.pushes;
          fits = (can_put c.args.bucket.now c.args.key.now c.args.value.now (c.requires.key, c.requires.value) c.args.path c.requires.path c.in_ok-push.push same (c.in_ok-test_limits.ensures)).fits;
        },
      );
    }

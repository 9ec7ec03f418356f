-- One row of the leaf in which a key belongs.
use Rattle.std.proofs.Common.{◌≡◌, ℕ, ◌+◌, ◌<◌, ◌≤◌, nat_lt, true, false, ◌||◌, if◌then◌else◌, List, [], ◌∷◌, Option, Some, None, option_map, is_some, Ok, Err, refl, sym, ap, ◌∙◌, lt-ltb, append-nil, arith}
use Rattle.fine_model.specs.declared.Call.TheVariants as call
use Rattle.fine_model.specs.declared.Rec.{Rec}
use Rattle.fine_model.specs.declared.Rec.TheVariants as rec
use Rattle.fine_model.specs.declared.Row.{Row}
use Rattle.fine_model.specs.declared.Why.TheVariants as why
use Rattle.fine_model.specs.Map.{get, has}
use Rattle.fine_model.specs.Nodes.{replay}
use Rattle.fine_model.specs.Pushed.{Push, row_of, leaf_push, call_push, within_limits, nothing_pushed}
use Rattle.fine_model.specs.RowBytes.{greatest, kind, FitsRec}
use Rattle.fine_model.specs.Trees.{pairs_of}
use Rattle.fine_model.proofs.Trees.FitPushed.{kind_few}
use Rattle.node_cache.specs.Cache.{Cache, original}
use Rattle.btree_nodes.specs.declared.tree.Path.{Path}
use Rattle.node_cache.specs.Given.{given}
use Rattle.btree_nodes.specs.Trees.{IsPath, pairs_in, FitsLog, first_over}
use Rattle.btree_nodes.specs.Changes.{Pushes}
use Rattle.btree_nodes.specs.Calls.{pushed_in, IsDone}
use Rattle.btree_nodes.proofs.Paths.{key_bucket, path_pairs, path_leaf, not_lower}
use Rattle.btree_nodes.proofs.Changed.{saves_itself, or_false}

-- no rows change nothing
pub pushes_none : (b : Cache) → Pushes b b []
unfolding replay
pushes_none b = record { saves = saves_itself b b refl; saved = λ n. sym (or_false (is_some (original b n))); nodes = λ n. refl; kept = λ n h. h; named = tt; others = λ n none. refl; added = λ n none h. absurd (let e = none in nothing h e) }
  where
    nothing : {A : Type 0} {o : Option A} → is_some o ≡ true → o ≡ None → ⊥
    nothing h e = cc

-- one row, within the limits or not
module _ (next depth : ℕ) (low : next ≤ 1048576) (flat : depth ≤ 8) (row : Row) where
  pub one_within : row.version ≤ greatest → within_limits (record { rows = row ∷ []; next = next; depth = depth }) ≡ Ok (row ∷ [])
  unfolding within_limits
  one_within small =
      ap (λ t. if t || nat_lt 8 depth then Err why.Bucket else (if nat_lt greatest row.version || false then Err why.Number else Ok (row ∷ []))) (not_lower 1048576 next low)
      ∙ ap (λ t. if t then Err why.Bucket else (if nat_lt greatest row.version || false then Err why.Number else Ok (row ∷ []))) (not_lower 8 depth flat)
      ∙ ap (λ t. if t || false then Err why.Number else Ok (row ∷ [])) (not_lower greatest row.version small)

  pub one_over : greatest < row.version → within_limits (record { rows = row ∷ []; next = next; depth = depth }) ≡ Err why.Number
  unfolding within_limits
  one_over large =
      ap (λ t. if t || nat_lt 8 depth then Err why.Bucket else (if nat_lt greatest row.version || false then Err why.Number else Ok (row ∷ []))) (not_lower 1048576 next low)
      ∙ ap (λ t. if t then Err why.Bucket else (if nat_lt greatest row.version || false then Err why.Number else Ok (row ∷ []))) (not_lower 8 depth flat)
      ∙ ap (λ t. if t || false then Err why.Number else Ok (row ∷ [])) (lt-ltb greatest row.version large)

-- the first row whose version would pass the limit
pub one_first : (row : Row) → greatest < row.version → first_over (row ∷ []) ≡ Some row.node
one_first row large = ap (λ t. option_map (λ (r : Row). r.node) (if t then Some row else None)) (lt-ltb greatest row.version large)

module _ (b : Cache) (key : List ℕ) (path : Path) (is : IsPath b key path) where
  -- the row that a change of the key's leaf is
  abbrev pub leaf_row : Rec → Row
  leaf_row change = row_of b.bucket path.leaf ((given b path.leaf).1 + 1) change

  pub leaf_push_is : (change : Rec) → leaf_push b.bucket (given b) key change (given b 0).0 ≡ record { rows = leaf_row change ∷ []; next = path.next; depth = path.depth }
  unfolding leaf_push
  leaf_push_is change = ap (leaf_push b.bucket (given b) key change) is.head
      ∙ ap (λ n. let p : Push = record { rows = row_of b.bucket n ((given b n).1 + 1) change ∷ []; next = path.next; depth = path.depth } in p) (sym is.leaf)

  -- such a row is within the format's bounds, and of the bucket
  pub leaf_fits : (change : Rec) → FitsRec change → (kind change ≡ 1 → ⊥) → (given b path.leaf).1 + 1 ≤ greatest → FitsLog b.bucket (leaf_row change ∷ [])
  leaf_fits change fits other small =
      let place = path_leaf b key path is in
      let above = place.above in record {
        fit = (
          record {
            of_format = kind_few change;
            bucket = key_bucket b.bucket key is.of_key;
            number = place.small;
            head = (λ zero. absurd (omega (arith, above, zero)), λ one. absurd (other one));
            version_low = omega arith;
            version_high = small;
            rec = fits;
          },
          tt,
        );
        here = (refl, tt);
      }

  -- whether the key is there, by its leaf
  pub there_by : (o : Option (List ℕ)) → o ≡ get (pairs_of (given b path.leaf).0) key → is_some o ≡ has (pairs_in b key) key
  there_by o found = ap is_some (found ∙ ap (λ m. get m key) (sym (path_pairs b key path is)))

  del_push : has (pairs_in b key) key ≡ true → call_push b.bucket (given b) (call.Del key) ≡ record { rows = leaf_row (rec.Del key) ∷ []; next = path.next; depth = path.depth }
  unfolding call_push
  del_push there = ap (λ t. if t then leaf_push b.bucket (given b) key (rec.Del key) (given b 0).0 else nothing_pushed) there ∙ leaf_push_is (rec.Del key)

  pub del_pushed : has (pairs_in b key) key ≡ true → (given b path.leaf).1 + 1 ≤ greatest → pushed_in b (call.Del key) ≡ Ok (leaf_row (rec.Del key) ∷ [])
  del_pushed there small = ap within_limits (del_push there) ∙ one_within path.next path.depth is.small is.deep.1 (leaf_row (rec.Del key)) small

  pub del_over : has (pairs_in b key) key ≡ true → greatest < (given b path.leaf).1 + 1 → pushed_in b (call.Del key) ≡ Err why.Number
  del_over there large = ap within_limits (del_push there) ∙ one_over path.next path.depth is.small is.deep.1 (leaf_row (rec.Del key)) large

  pub del_first : has (pairs_in b key) key ≡ true → greatest < (given b path.leaf).1 + 1 → first_over (call_push b.bucket (given b) (call.Del key)).rows ≡ Some (leaf_row (rec.Del key)).node
  del_first there large = ap (λ (p : Push). first_over p.rows) (del_push there) ∙ one_first (leaf_row (rec.Del key)) large

  pub del_absent : (log : List Row) → has (pairs_in b key) key ≡ false → IsDone b b log log (call.Del key)
  unfolding call_push within_limits
  del_absent log absent = record {
    rows = [];
    is_pushed = ap (λ t. within_limits (if t then leaf_push b.bucket (given b) key (rec.Del key) (given b 0).0 else nothing_pushed)) absent;
    behind = sym (append-nil log);
    pushes = pushes_none b;
    fits = record { fit = tt; here = tt };
  }

-- What each call pushes leaves sound rows with the map of the answer, where this holds of what setting a pair pushes.
use Rattle.std.proofs.Common.{◌≡◌, ℕ, ◌+◌, ◌<◌, ◌==◌, nat_lt, Bool, true, false, cond, ◌||◌, IsTrue, List, [], ◌∷◌, ◌++◌, refl, sym, ap, ◌∙◌, subst, true≢false, arith, eq-eqb, Some, None, Ok, Err, ℤ, pos, ◌+ℤ◌, append-nil, is_some}
use Rattle.std.specs.Prelude.{Option, Result}
use Rattle.std.specs.List.{AllByRecursion, list_any}
use Rattle.fine_model.specs.Types.{Rec, Row, Node, Call, Reply, Write, Why}
use Rattle.fine_model.specs.Types.rec
use Rattle.fine_model.specs.Types.node
use Rattle.fine_model.specs.Types.call
use Rattle.fine_model.specs.Types.write
use Rattle.fine_model.specs.Types.reply
use Rattle.fine_model.specs.Types.why
use Rattle.fine_model.specs.Map.{Pair, get, has, set, unset, map_after}
use Rattle.fine_model.specs.NumberText.{number_text, number_of, is_i64}
use Rattle.fine_model.specs.Store.{number_at, sum_answer, add_answer, answer, after_call}
use Rattle.fine_model.specs.RowBytes.{greatest}
use Rattle.fine_model.specs.Nodes.{Content, added, changed, step_node}
use Rattle.fine_model.specs.Trees.{IsSound, nodes_of, bucket_of, pairs_of, map_of}
use Rattle.fine_model.specs.Pushed.{Push, nothing_pushed, set_push, leaf_push, pairs_beside, add_push, call_push, push_of, within_limits}
use Rattle.fine_model.specs.Laws.{is_small, AreSmall, HasMap, PushedLaw}
use Rattle.fine_model.proofs.Trees.Joined.{IsChange, set_is_change, unset_is_change}
use Rattle.fine_model.proofs.Trees.LeafUpdate.{IsLocal}
use Rattle.fine_model.proofs.Trees.LocalChange.{set_is_local, unset_is_local, Tree, tree_here, leaf, leaf_here, get_of_leaf, beside_leaf, leaf_row}
use Rattle.fine_model.proofs.Trees.Small.{small-append}

-- pushed rows that are defined are those of the push
pub ok_rows : (push : Push) (new : List Row) → within_limits push ≡ Ok new → push.rows ≡ new
unfolding within_limits
ok_rows push new is = by (nat_lt 1048576 push.next || nat_lt 8 push.depth) (list_any (λ row. nat_lt greatest row.version) push.rows) is
  where
    by : (b c : Bool) → cond {A = Result (List Row) Why} b (Err why.Bucket) (cond c (Err why.Number) (Ok push.rows)) ≡ Ok new → push.rows ≡ new
    by true c is = absurd (cc)
    by false true is = absurd (cc)
    by false false is = cc

-- what rows leave that were pushed in a tree
pub record Leaves (rows new : List Row) (m : List Pair) : Type 0 where
  pub has_map : HasMap (rows ++ new) m
  pub small : AllByRecursion (λ row. IsTrue (is_small row.rec)) new

plus_changes : (n : Node) (pairs : List Pair) (key : List ℕ) (z by : ℤ) (text : List ℕ) → n ≡ node.Leaf pairs → get pairs key ≡ Some text → number_of text ≡ Some z → is_i64 (z +ℤ by) ≡ true
    → changed n (rec.Plus key by) ≡ node.Leaf (set pairs key (number_text (z +ℤ by)))
unfolding changed added
plus_changes n pairs key z by text is got number fits =
    ap (λ m. changed m (rec.Plus key by)) is ∙ ap (added pairs key by) got ∙ rw number (ap (λ b. cond b (node.Leaf (set pairs key (number_text (z +ℤ by)))) node.Broken) fits)

-- the number of a key is a matter of what the key has
number_at_text : (m : List Pair) (key text : List ℕ) → get m key ≡ Some text → number_at m key ≡ number_of text
unfolding number_at
number_at_text m key text is = rw is refl

number_at_none : (m : List Pair) (key : List ℕ) → get m key ≡ None → number_at m key ≡ Some (pos 0)
unfolding number_at
number_at_none m key is = rw is refl

same_number : (m n : List Pair) (key : List ℕ) → get m key ≡ get n key → number_at m key ≡ number_at n key
same_number m n key same = by (get n key) refl
  where
    by : (o : Option (List ℕ)) → get n key ≡ o → number_at m key ≡ number_at n key
    by None e = number_at_none m key (same ∙ e) ∙ sym (number_at_none n key e)
    by (Some text) e = number_at_text m key text (same ∙ e) ∙ sym (number_at_text n key text e)

pub bucket_below : (key : List ℕ) → bucket_of key < 256
unfolding bucket_of
bucket_below key = omega arith

pub same_bucket : (key : List ℕ) → (bucket_of key == bucket_of key) ≡ true
same_bucket key = eq-eqb (bucket_of key) (bucket_of key) refl

abbrev pub SetLaw : Type 0
SetLaw = (rows : List Row) (key value : List ℕ) → AreSmall rows → IsSound rows
    → Leaves rows (set_push (bucket_of key) (nodes_of rows (bucket_of key)) (key, value) (nodes_of rows (bucket_of key) 0).0).rows (set (map_of rows) key value)

module _ (set_law : SetLaw) (rows : List Row) (small : AreSmall rows) (sound : IsSound rows) where
  nothing : Leaves rows [] (map_of rows)
  nothing = record { has_map = record { sound = subst IsSound (sym (append-nil rows)) sound; map = ap map_of (append-nil rows) }; small = tt }

  module _ (key : List ℕ) where
    abbrev bucket : ℕ
    bucket = bucket_of key

    abbrev old : ℕ → Content
    old = nodes_of rows bucket

    abbrev tree : Tree rows sound key bucket (bucket_below key) (same_bucket key)
    tree = tree_here rows sound key bucket (bucket_below key) (same_bucket key)

    abbrev at : ℕ
    at = leaf rows sound key bucket (bucket_below key) (same_bucket key) tree

    abbrev beside : List Pair
    beside = pairs_beside old key (old 0).0

    same_get : get (map_of rows) key ≡ get beside key
    same_get =
        get_of_leaf rows sound key bucket (bucket_below key) (same_bucket key) tree
        ∙ sym (ap (λ m. get m key) (beside_leaf rows sound key bucket (bucket_below key) (same_bucket key) tree))

    leaf_is : (old at).0 ≡ node.Leaf (pairs_of (old at).0)
    leaf_is = let h = leaf_here rows sound key bucket (bucket_below key) (same_bucket key) tree in h.is_leaf

    -- one row on the key's leaf
    one_row : (change : Rec) (f : List Pair → List Pair) → IsLocal bucket key f → IsChange key f → is_small change ≡ true → changed (old at).0 change ≡ node.Leaf (f (pairs_of (old at).0))
        → step_node (old at) ((old at).1 + 1) change ≡ cond ((old at).1 + 1 == (old at).1 + 1) (changed (old at).0 change) node.Broken
        → Leaves rows (leaf_push bucket old key change (old 0).0).rows (f (map_of rows))
    unfolding leaf_push
    one_row change f local is_change is changes steps =
        subst (λ head. Leaves rows (leaf_push bucket old key change head).rows (f (map_of rows))) (sym tree.is)
        (record {
          has_map = leaf_row rows sound key bucket (bucket_below key) (same_bucket key) tree change f local is_change
              (steps ∙ ap (λ b. cond b (changed (old at).0 change) node.Broken) (eq-eqb ((old at).1 + 1) ((old at).1 + 1) refl) ∙ changes);
          small = (is, tt);
        })

    del_row : Leaves rows (leaf_push bucket old key (rec.Del key) (old 0).0).rows (unset (map_of rows) key)
    unfolding changed
    del_row = one_row (rec.Del key) (λ m. unset m key) (unset_is_local bucket key) (unset_is_change key) refl (ap (λ n. changed n (rec.Del key)) leaf_is) refl

    del_leaves : Leaves rows (call_push bucket old (call.Del key)).rows (after_call (map_of rows) (call.Del key))
    unfolding call_push answer map_after
    del_leaves = by (has beside key) (has (map_of rows) key) (ap is_some same_get)
      where
        by : (b c : Bool) → c ≡ b
            → Leaves rows (cond b (leaf_push bucket old key (rec.Del key) (old 0).0) nothing_pushed).rows
            (map_after (map_of rows) (cond {A = Reply × List Write} c (reply.Removed, write.Unset key ∷ []) (reply.Absent, [])).1)
        by true true e = del_row
        by true false e = absurd (true≢false (sym e))
        by false true e = absurd (true≢false e)
        by false false e = nothing

    plus_row : (n by : ℤ) (text : List ℕ) → get beside key ≡ Some text → number_of text ≡ Some n → is_i64 (n +ℤ by) ≡ true
        → Leaves rows (leaf_push bucket old key (rec.Plus key by) (old 0).0).rows (set (map_of rows) key (number_text (n +ℤ by)))
    plus_row n by text is number fits =
        one_row (rec.Plus key by) (λ m. set m key (number_text (n +ℤ by))) (set_is_local bucket key (number_text (n +ℤ by))) (set_is_change key (number_text (n +ℤ by))) refl
        (plus_changes (old at).0 (pairs_of (old at).0) key n by text leaf_is
        (sym (ap (λ m. get m key) (beside_leaf rows sound key bucket (bucket_below key) (same_bucket key) tree)) ∙ is) number fits) refl

    -- a sum is one row where the key is there, and else what setting its text pushes
    sum_leaves : (by n : ℤ) → number_at beside key ≡ Some n → is_i64 (n +ℤ by) ≡ true
        → Leaves rows (add_push bucket old key by beside (write.Set key (number_text (n +ℤ by)) ∷ [])).rows (set (map_of rows) key (number_text (n +ℤ by)))
    unfolding add_push
    sum_leaves by n number fits = of (get beside key) refl
      where
        of : (o : Option (List ℕ)) → get beside key ≡ o
            → Leaves rows (cond (is_some o) (leaf_push bucket old key (rec.Plus key by) (old 0).0) (set_push bucket old (key, number_text (n +ℤ by)) (old 0).0)).rows (set (map_of rows) key (number_text (n +ℤ by)))
        of None e = set_law rows key (number_text (n +ℤ by)) small sound
        of (Some text) e = plus_row n by text e (sym (number_at_text beside key text e) ∙ number) fits

    add_leaves : (by : ℤ) → Leaves rows (call_push bucket old (call.Add key by)).rows (after_call (map_of rows) (call.Add key by))
    unfolding call_push answer map_after add_answer add_push sum_answer
    add_leaves by =
        subst (λ o. Leaves rows (add_push bucket old key by beside (add_answer key (number_at beside key) by).1).rows (map_after (map_of rows) (add_answer key o by).1))
        (sym (same_number (map_of rows) beside key same_get)) (of (number_at beside key) refl)
      where
        fits : (n : ℤ) → number_at beside key ≡ Some n → (b : Bool) → is_i64 (n +ℤ by) ≡ b
            → Leaves rows (add_push bucket old key by beside (cond {A = Reply × List Write} b (reply.Sum (n +ℤ by), write.Set key (number_text (n +ℤ by)) ∷ []) (reply.OutOfRange, [])).1).rows
            (map_after (map_of rows) (cond {A = Reply × List Write} b (reply.Sum (n +ℤ by), write.Set key (number_text (n +ℤ by)) ∷ []) (reply.OutOfRange, [])).1)
        fits n e true is = sum_leaves by n e is
        fits n e false is = nothing

        of : (o : Option ℤ) → number_at beside key ≡ o
            → Leaves rows (add_push bucket old key by beside (add_answer key o by).1).rows (map_after (map_of rows) (add_answer key o by).1)
        of None e = nothing
        of (Some n) e = fits n e (is_i64 (n +ℤ by)) refl

  call_leaves : (c : Call) → Leaves rows (push_of rows c).rows (after_call (map_of rows) c)
  unfolding push_of call_push answer map_after
  call_leaves (call.Get key) = nothing
  call_leaves (call.Put key value) = set_law rows key value small sound
  call_leaves (call.Del key) = del_leaves key
  call_leaves (call.Add key by) = add_leaves key by
  call_leaves (call.Scan low high limit) = nothing

-- the law of the pushed rows, from that of setting a pair
pub pushed_from_set : SetLaw → PushedLaw
pushed_from_set set_law rows new c small sound is =
    let l = call_leaves set_law rows small sound c in
    let e = ok_rows (push_of rows c) new is in
    record { has_map = subst (λ r. HasMap (rows ++ r) (after_call (map_of rows) c)) e l.has_map; small = small-append rows new small (subst (AllByRecursion (λ row. IsTrue (is_small row.rec))) e l.small) }

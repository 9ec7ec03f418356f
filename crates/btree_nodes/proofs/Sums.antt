-- Adding to a key that is there.
use Rattle.std.proofs.Common.{◌≡◌, ℕ, ◌+◌, ◌<◌, ◌≤◌, Bool, true, false, if◌then◌else◌, List, [], ◌∷◌, Option, Some, None, Ok, Err, ℤ, pos, ◌+ℤ◌, refl, sym, ap, ◌∙◌, true≢false, arith, append-nil}
use Rattle.std.proofs.lemmas.Int.{ints}
use Rattle.fine_model.specs.declared.Call.TheVariants as call
use Rattle.fine_model.specs.declared.Rec.TheVariants as rec
use Rattle.fine_model.specs.declared.Reply.{Reply}
use Rattle.fine_model.specs.declared.Reply.TheVariants as reply
use Rattle.fine_model.specs.declared.Row.{Row}
use Rattle.fine_model.specs.declared.Why.TheVariants as why
use Rattle.fine_model.specs.declared.Write.{Write}
use Rattle.fine_model.specs.declared.Write.TheVariants as write
use Rattle.fine_model.specs.Map.{Pair, get, has}
use Rattle.fine_model.specs.NumberText.{number_of, number_text, is_i64}
use Rattle.fine_model.specs.Pushed.{Push, call_push, add_push, leaf_push, set_push, within_limits}
use Rattle.fine_model.specs.RowBytes.{greatest}
use Rattle.fine_model.specs.Store.{answer, add_answer, sum_answer, number_at}
use Rattle.node_cache.specs.Cache.{Cache}
use Rattle.btree_nodes.specs.declared.tree.Path.{Path}
use Rattle.node_cache.specs.Given.{given}
use Rattle.btree_nodes.specs.Trees.{IsPath, pairs_in, first_over}
use Rattle.btree_nodes.specs.Calls.{is_sum, pushed_in, IsDone}
use Rattle.btree_nodes.proofs.LeafPush.{one_first, leaf_row, leaf_push_is, one_within, one_over, pushes_none}

pub answer_there : (m : List Pair) (key text : List ℕ) (by : ℤ) → get m key ≡ Some text → (answer m (call.Add key by)).0 ≡ (add_answer key (number_of text) by).0
unfolding answer number_at
answer_there m key text by is = rw is refl

pub answer_absent : (m : List Pair) (key : List ℕ) (by : ℤ) → get m key ≡ None → is_i64 by ≡ true → (answer m (call.Add key by)).0 ≡ reply.Sum by
unfolding answer number_at add_answer sum_answer
answer_absent m key by is fits =
    let same : pos 0 +ℤ by ≡ by = omega (arith, ints) in
    rw is (ap (λ z. (sum_answer key z).0) same ∙ ap (λ t. by_test t) fits)
  where
    both : Bool → Reply × List Write
    both t = if t then (reply.Sum by, write.Set key (number_text by) ∷ []) else (reply.OutOfRange, [])

    by_test : Bool → Reply
    by_test t = (both t).0

writes_none : (key : List ℕ) (o : Option ℤ) (by : ℤ) → is_sum (add_answer key o by).0 ≡ false → (add_answer key o by).1 ≡ []
unfolding add_answer sum_answer
writes_none key None by h = refl
writes_none key (Some n) by h = of (is_i64 (n +ℤ by)) h
  where
    both : Bool → Reply × List Write
    both t = if t then (reply.Sum (n +ℤ by), write.Set key (number_text (n +ℤ by)) ∷ []) else (reply.OutOfRange, [])

    of : (t : Bool) → is_sum (both t).0 ≡ false → (both t).1 ≡ []
    of true h = absurd (true≢false h)
    of false h = refl

writes_one : (key : List ℕ) (o : Option ℤ) (by : ℤ) → is_sum (add_answer key o by).0 ≡ true → (text : List ℕ) × ((add_answer key o by).1 ≡ write.Set key text ∷ [])
unfolding add_answer sum_answer
writes_one key None by h = absurd (true≢false (sym h))
writes_one key (Some n) by h = of (is_i64 (n +ℤ by)) h
  where
    both : Bool → Reply × List Write
    both t = if t then (reply.Sum (n +ℤ by), write.Set key (number_text (n +ℤ by)) ∷ []) else (reply.OutOfRange, [])

    of : (t : Bool) → is_sum (both t).0 ≡ true → (text : List ℕ) × ((both t).1 ≡ write.Set key text ∷ [])
    of true h = (number_text (n +ℤ by), refl)
    of false h = absurd (true≢false (sym h))

module _ (b : Cache) (key : List ℕ) (by : ℤ) (path : Path) (is : IsPath b key path) where
  pub add_nothing : (log : List Row) → is_sum (answer (pairs_in b key) (call.Add key by)).0 ≡ false → IsDone b b log log (call.Add key by)
  unfolding call_push answer within_limits add_push
  add_nothing log none = record {
    rows = [];
    is_pushed = ap (λ ws. within_limits (add_push b.bucket (given b) key by (pairs_in b key) ws)) (writes_none key (number_at (pairs_in b key) key) by none);
    behind = sym (append-nil log);
    pushes = pushes_none b;
    fits = record { fit = tt; here = tt };
  }

  plus_push : has (pairs_in b key) key ≡ true → is_sum (answer (pairs_in b key) (call.Add key by)).0 ≡ true → call_push b.bucket (given b) (call.Add key by) ≡ record { rows = leaf_row b key path is (rec.Plus key by) ∷ []; next = path.next; depth = path.depth }
  unfolding call_push answer add_push
  plus_push there sum =
      let w = writes_one key (number_at (pairs_in b key) key) by sum in
      ap (add_push b.bucket (given b) key by (pairs_in b key)) w.1
      ∙ ap (λ t. if t then leaf_push b.bucket (given b) key (rec.Plus key by) (given b 0).0 else set_push b.bucket (given b) (key, w.0) (given b 0).0) there
      ∙ leaf_push_is b key path is (rec.Plus key by)

  pub plus_pushed : has (pairs_in b key) key ≡ true → is_sum (answer (pairs_in b key) (call.Add key by)).0 ≡ true → (given b path.leaf).1 + 1 ≤ greatest → pushed_in b (call.Add key by) ≡ Ok (leaf_row b key path is (rec.Plus key by) ∷ [])
  plus_pushed there sum small = ap within_limits (plus_push there sum) ∙ one_within path.next path.depth is.small is.deep.1 (leaf_row b key path is (rec.Plus key by)) small

  pub plus_over : has (pairs_in b key) key ≡ true → is_sum (answer (pairs_in b key) (call.Add key by)).0 ≡ true → greatest < (given b path.leaf).1 + 1 → pushed_in b (call.Add key by) ≡ Err why.Number
  plus_over there sum large = ap within_limits (plus_push there sum) ∙ one_over path.next path.depth is.small is.deep.1 (leaf_row b key path is (rec.Plus key by)) large

  pub plus_first : has (pairs_in b key) key ≡ true → is_sum (answer (pairs_in b key) (call.Add key by)).0 ≡ true → greatest < (given b path.leaf).1 + 1 → first_over (call_push b.bucket (given b) (call.Add key by)).rows ≡ Some (leaf_row b key path is (rec.Plus key by)).node
  plus_first there sum large = ap (λ (p : Push). first_over p.rows) (plus_push there sum) ∙ one_first (leaf_row b key path is (rec.Plus key by)) large

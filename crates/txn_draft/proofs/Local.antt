-- That an answer depends on the buckets of its calls alone.
use Rattle.std.proofs.Common.{◌≡◌, ℕ, ◌==◌, true, List, [], ◌∷◌, ◌++◌, refl, sym, ap, ◌∙◌, subst, Result, Ok, Err, is_some, if◌then◌else◌, arith}
use Rattle.std.specs.Prelude.{filter, flat_map}
use Rattle.std.specs.List.{list_any, range_with_len}
use Rattle.std.proofs.lemmas.List.Elements.{filter-append}
use Rattle.fine_model.specs.declared.Call.{Call}
use Rattle.fine_model.specs.declared.Call.TheVariants as call
use Rattle.fine_model.specs.declared.NodeId.{NodeId}
use Rattle.fine_model.specs.declared.Row.{Row}
use Rattle.fine_model.specs.declared.Why.{Why}
use Rattle.fine_model.specs.declared.Write.TheVariants as write
use Rattle.fine_model.specs.declared.Reply.TheVariants as reply
use Rattle.fine_model.specs.Laws.{AreSmall, IsPushed}
use Rattle.fine_model.specs.Map.{Pair, get, from_pairs, map_after}
use Rattle.fine_model.specs.Nodes.{content, replay, rows_of, base}
use Rattle.fine_model.specs.Pushed.{pushed, all_pushed, push_of, call_push, within_limits, and_then, key_of, pairs_beside}
use Rattle.fine_model.specs.Store.{answer, replies_to, writes_of, value_answer, add_answer, number_at}
use Rattle.fine_model.specs.Trees.{IsSound, map_of, tree_map, pairs_from, nodes_of, bucket_of}
use Rattle.fine_model.proofs.Histories.Legal.{all_pushed_law}
use Rattle.fine_model.proofs.Trees.SetLaw.{pushed_law}
use Rattle.fine_model.proofs.Histories.Stated.{leaf_law}
use Rattle.txn_draft.specs.Drafts.{is_here}
use Rattle.txn_draft.specs.Laws.{SameIn, LocalLaw}
use Rattle.txn_draft.proofs.Answered.{own_here}

narrow : (id : NodeId) (rows : List Row) → rows_of id (filter (λ (row : Row). row.node.bucket == id.bucket) rows) ≡ rows_of id rows
narrow id [] = refl
narrow id (r ∷ rs) = grind (arith, narrow id rs)

rows_same : (a b : List Row) (id : NodeId) → filter (λ (row : Row). row.node.bucket == id.bucket) b ≡ filter (λ (row : Row). row.node.bucket == id.bucket) a → rows_of id b ≡ rows_of id a
rows_same a b id e = sym (narrow id b) ∙ (ap (rows_of id) e ∙ narrow id a)

nodes_same : (a b : List Row) (k : ℕ) → filter (λ (row : Row). row.node.bucket == k) b ≡ filter (λ (row : Row). row.node.bucket == k) a → nodes_of b k ≡ nodes_of a k
unfolding content
nodes_same a b k e = λ i n. replay (base (record { bucket = k; number = n })) (rows_same a b (record { bucket = k; number = n }) e i)

first_here : (c : Call) (cs : List Call) (k : ℕ) → is_here k c ≡ true → list_any (is_here k) (c ∷ cs) ≡ true
first_here c cs k e = grind (arith, e)

rest_here : (c : Call) (cs : List Call) (k : ℕ) → list_any (is_here k) cs ≡ true → list_any (is_here k) (c ∷ cs) ≡ true
rest_here c cs k e = grind (arith, e)

push_same : (a b : List Row) (c : Call) (cs : List Call) → SameIn (c ∷ cs) a b → pushed b c ≡ pushed a c
unfolding push_of
push_same a b c cs s = ap (λ nodes. within_limits (call_push (bucket_of (key_of c)) nodes c)) (nodes_same a b (bucket_of (key_of c)) (s.each (bucket_of (key_of c)) (first_here c cs (bucket_of (key_of c)) (own_here c))))

get_same : (a b : List Row) (key : List ℕ) → IsSound a → IsSound b → nodes_of b (bucket_of key) ≡ nodes_of a (bucket_of key) → get (map_of b) key ≡ get (map_of a) key
get_same a b key sa sb e = leaf_law b key sb ∙ (ap (λ nodes. get (pairs_beside nodes key (nodes 0).0) key) e ∙ sym (leaf_law a key sa))

map_same : (a b : List Row) → ((k : ℕ) → nodes_of b k ≡ nodes_of a k) → map_of b ≡ map_of a
unfolding map_of tree_map
map_same a b e = ap (λ trees. from_pairs (flat_map trees (range_with_len 0 256))) (λ i k. pairs_from (e k i) (e k i 0).0)

number_same : (m n : List Pair) (key : List ℕ) → get n key ≡ get m key → number_at n key ≡ number_at m key
unfolding number_at
number_same m n key e = grind (arith, e)

answer_same : (a b : List Row) (c : Call) (cs : List Call) → IsSound a → IsSound b → SameIn (c ∷ cs) a b → answer (map_of b) c ≡ answer (map_of a) c
unfolding answer
answer_same a b (call.Get key) cs sa sb s = ap (λ v. (value_answer v, [])) (get_same a b key sa sb (nodes_same a b (bucket_of key) (s.each (bucket_of key) (first_here (call.Get key) cs (bucket_of key) (own_here (call.Get key))))))
answer_same a b (call.Put key value) cs sa sb s = refl
answer_same a b (call.Del key) cs sa sb s = ap (λ v. if is_some v then (reply.Removed, write.Unset key ∷ []) else (reply.Absent, [])) (get_same a b key sa sb (nodes_same a b (bucket_of key) (s.each (bucket_of key) (first_here (call.Del key) cs (bucket_of key) (own_here (call.Del key))))))
answer_same a b (call.Add key by) cs sa sb s = ap (λ v. add_answer key v by) (number_same (map_of a) (map_of b) key (get_same a b key sa sb (nodes_same a b (bucket_of key) (s.each (bucket_of key) (first_here (call.Add key by) cs (bucket_of key) (own_here (call.Add key by)))))))
answer_same a b (call.Scan low high limit) cs sa sb s = ap (λ m. answer m (call.Scan low high limit)) (map_same a b (λ k. nodes_same a b k (s.each k (first_here (call.Scan low high limit) cs k refl))))

done_of : (r : Result (List Row) Why) (f : List Row → Result (List Row) Why) (new : List Row) → and_then r f ≡ Ok new → (own : List Row) × (r ≡ Ok own) × (f own ≡ Ok new)
done_of (Ok own) f new e = (own, refl, e)
done_of (Err why) f new e = absurd (let x : ◌≡◌ {A = Result (List Row) Why} (Err why) (Ok new) = e in cc)

same_more : (a b own : List Row) (c : Call) (cs : List Call) → SameIn (c ∷ cs) a b → SameIn cs (a ++ own) (b ++ own)
same_more a b own c cs s = record { each = λ k e. filter-append (λ (row : Row). row.node.bucket == k) b own ∙ (ap (λ rows. rows ++ filter (λ (row : Row). row.node.bucket == k) own) (s.each k (rest_here c cs k e)) ∙ sym (filter-append (λ (row : Row). row.node.bucket == k) a own)) }

record AnswersAlike (a b : List Row) (calls : List Call) (new : List Row) : Type 0 where
  replies : replies_to (map_of b) calls ≡ replies_to (map_of a) calls
  writes : writes_of (map_of b) calls ≡ writes_of (map_of a) calls
  pushes : all_pushed b calls ≡ Ok new

alike : (calls : List Call) (a b new : List Row) → AreSmall a → AreSmall b → IsSound a → IsSound b → SameIn calls a b → all_pushed a calls ≡ Ok new → AnswersAlike a b calls new
unfolding all_pushed replies_to writes_of
alike [] a b new ta tb sa sb s e = record { replies = refl; writes = refl; pushes = e }
alike (c ∷ cs) a b new ta tb sa sb s e =
    let first = done_of (pushed a c) (λ own. and_then (all_pushed (a ++ own) cs) (λ more. Ok (own ++ more))) new e in
    let rest = done_of (all_pushed (a ++ first.0) cs) (λ more. Ok (first.0 ++ more)) new first.2 in
    let own : List Row = first.0 in
    let pushed_b : pushed b c ≡ Ok own = push_same a b c cs s ∙ first.1 in
    let pa = pushed_law a own c ta sa first.1 in
    let pb = pushed_law b own c tb sb pushed_b in
    let more = alike cs (a ++ own) (b ++ own) rest.0 pa.small pb.small pa.has_map.sound pb.has_map.sound (same_more a b own c cs s) rest.1 in
    let ans = answer_same a b c cs sa sb s in
    let replies = sym (ap (λ m. replies_to m cs) pb.has_map.map) ∙ (more.replies ∙ ap (λ m. replies_to m cs) pa.has_map.map) in
    let writes = sym (ap (λ m. writes_of m cs) pb.has_map.map) ∙ (more.writes ∙ ap (λ m. writes_of m cs) pa.has_map.map) in
    record {
      replies = λ i. (ans i).0 ∷ replies i;
      writes = λ i. (ans i).1 ++ writes i;
      pushes = ap (λ r. and_then r (λ own. and_then (all_pushed (b ++ own) cs) (λ more. Ok (own ++ more)))) pushed_b ∙ (ap (λ r. and_then r (λ more. Ok (own ++ more))) more.pushes ∙ rest.2);
    }

pub local_law : LocalLaw
local_law a b d ta tb sa sb s answered =
    let same = alike d.calls a b d.rows ta tb sa sb s answered.is_pushed in
    let writes : d.writes ≡ writes_of (map_of b) d.calls = answered.writes ∙ sym same.writes in
    record {
      replies = answered.replies ∙ sym same.replies;
      writes = writes;
      is_pushed = same.pushes;
      leaves = subst (λ w. IsPushed b d.rows (map_after (map_of b) w)) (sym writes) (all_pushed_law b d.rows d.calls tb sb same.pushes);
    }

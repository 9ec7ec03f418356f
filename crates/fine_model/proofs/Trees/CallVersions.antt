-- The versions of all rows that calls push, and of the rows of a legal history.
use Rattle.std.proofs.Common.{◌≡◌, ℕ, zero, suc, ◌+◌, ◌≤◌, ◌==◌, Bool, true, false, cond, List, [], ◌∷◌, ◌++◌, length, take, slice_get, refl, sym, ap, ◌∙◌, subst, Some, None, Ok, Err, ℤ, ◌+ℤ◌, arith, append-nil}
use Rattle.std.specs.Prelude.{Option, Result}
use Rattle.std.proofs.lemmas.Grind.{flat_map-append}
use Rattle.fine_model.specs.Types.{Rec, Row, Node, Call, Reply, Write, Why}
use Rattle.fine_model.specs.Types.rec
use Rattle.fine_model.specs.Types.node
use Rattle.fine_model.specs.Types.call
use Rattle.fine_model.specs.Types.write
use Rattle.fine_model.specs.Types.reply
use Rattle.fine_model.specs.Map.{Pair, has}
use Rattle.fine_model.specs.NumberText.{number_text, is_i64}
use Rattle.fine_model.specs.Store.{number_at, sum_answer, add_answer, answer}
use Rattle.fine_model.specs.Nodes.{Content}
use Rattle.fine_model.specs.Trees.{whole, IsSound, bucket_of, nodes_of}
use Rattle.fine_model.specs.Pushed.{row_of, leaf_push, with_head, set_push, pairs_beside, add_push, call_push, push_of, pushed, all_pushed, and_then, nothing_pushed, Push}
use Rattle.fine_model.specs.History.{Commit, IsNext, IsLegal, all_rows}
use Rattle.fine_model.specs.Laws.{AreSmall}
use Rattle.fine_model.specs.VersionLaws.{VersionsFollow, PushedVersions, LegalVersions}
use Rattle.fine_model.proofs.Trees.Buckets.{HasTree, has_tree}
use Rattle.fine_model.proofs.Trees.CallLaw.{ok_rows, bucket_below, same_bucket}
use Rattle.fine_model.proofs.Trees.PushNodes.{push_other}
use Rattle.fine_model.proofs.Trees.SetLaw.{height, once, subtree, g, grows, some_next, mid, mid_head, mid_rest, pushed_law}
use Rattle.fine_model.proofs.Trees.Descent.{descend}
use Rattle.fine_model.proofs.Trees.Versions.{follow-append, Follows, leaf_follows, inner_follows}
use Rattle.fine_model.proofs.Histories.Legal.{taken, all_taken, legal_from}

module _ (rows : List Row) (key value : List ℕ) (small : AreSmall rows) (sound : IsSound rows)
    (t : HasTree (bucket_of key) (nodes_of rows (bucket_of key)) (nodes_of rows (bucket_of key) 0).0) where
  abbrev bucket : ℕ
  bucket = bucket_of key

  abbrev old : ℕ → Content
  old = nodes_of rows bucket

  unused : (n : ℕ) → t.next ≤ n → (old n).1 ≡ 0
  unused n above = let u = t.tree in ap (λ c. c.1) (u.unused n above)

  grown_follows : VersionsFollow rows (g rows key value small sound t).rows
  unfolding g
  grown_follows =
      descend rows bucket key value t.next (same_bucket key) small (Follows rows bucket key value t.next (same_bucket key) small unused)
      (leaf_follows rows bucket key value t.next (same_bucket key) small unused) (inner_follows rows bucket key value t.next (same_bucket key) small unused)
      (height rows key value small sound t) whole t.root (subtree rows key value small sound t) (same_bucket key) (once rows key value small sound t)

  head_follows : (s : Option (List ℕ × ℕ)) → VersionsFollow rows (with_head bucket (old 0).1 t.root t.next t.depth (g rows key value small sound t).rows (g rows key value small sound t).next s).rows
  unfolding with_head
  head_follows None = by ((g rows key value small sound t).next == t.next)
    where
      by : (b : Bool) → VersionsFollow rows (cond b (g rows key value small sound t).rows ((g rows key value small sound t).rows ++ row_of bucket 0 ((old 0).1 + 1) (rec.HeadImage t.root (g rows key value small sound t).next t.depth) ∷ []))
      by true = grown_follows
      by false = follow-append rows (g rows key value small sound t).rows _ grown_follows (ap (λ c. c.1 + 1) (sym (mid_head rows key value small sound t)), tt)
  head_follows (Some split) =
      follow-append rows (g rows key value small sound t).rows _ grown_follows (
        (let e : (mid rows key value small sound t fresh).1 ≡ 0 = ap (λ c. c.1) (mid_rest rows key value small sound t fresh (omega arith)) ∙ unused fresh ordered in omega (arith, e)),
        (
          ap (λ c. c.1 + 1) (sym (push_other bucket (rows ++ (g rows key value small sound t).rows) fresh 1 (rec.InnerImage (split.0 ∷ []) (t.root ∷ split.1 ∷ [])) 0 (λ e. let some = some_next rows key value small sound t in absurd (omega (arith, e, some, ordered)))
              ∙ mid_head rows key value small sound t)),
          tt,
        ),
      )
    where
      fresh : ℕ
      fresh = (g rows key value small sound t).next

      ordered : t.next ≤ (g rows key value small sound t).next
      ordered = let gr = grows rows key value small sound t in gr.ordered

  set_tree_follows : VersionsFollow rows (set_push bucket old (key, value) (old 0).0).rows
  unfolding set_push g height
  set_tree_follows = subst (λ n. VersionsFollow rows (set_push bucket old (key, value) n).rows) (sym t.is) (head_follows (g rows key value small sound t).split)

set_follows : (rows : List Row) (key value : List ℕ) → AreSmall rows → IsSound rows → VersionsFollow rows (set_push (bucket_of key) (nodes_of rows (bucket_of key)) (key, value) (nodes_of rows (bucket_of key) 0).0).rows
set_follows rows key value small sound =
    set_tree_follows rows key value small sound (has_tree (bucket_of key) (nodes_of rows (bucket_of key)) (nodes_of rows (bucket_of key) 0).0 (sound.fit (bucket_of key) (bucket_below key)))

leaf_row_follows : (rows : List Row) (bucket : ℕ) (key : List ℕ) (change : Rec) (head : Node) → VersionsFollow rows (leaf_push bucket (nodes_of rows bucket) key change head).rows
unfolding leaf_push
leaf_row_follows rows of key change (node.Head root next depth) = (refl, tt)
leaf_row_follows rows of key change (node.Leaf pairs) = tt
leaf_row_follows rows of key change (node.Inner seps kids) = tt
leaf_row_follows rows of key change node.Broken = tt

module _ (rows : List Row) (small : AreSmall rows) (sound : IsSound rows) where
  -- adding to a key pushes one row on its leaf, or what setting it pushes
  add_follows : (key : List ℕ) (by : ℤ) (pairs : List Pair) (o : Option ℤ) → VersionsFollow rows (add_push (bucket_of key) (nodes_of rows (bucket_of key)) key by pairs (add_answer key o by).1).rows
  unfolding add_push add_answer sum_answer
  add_follows key by pairs None = tt
  add_follows key by pairs (Some n) = fits (is_i64 (n +ℤ by))
    where
      there : (b : Bool) → VersionsFollow rows (cond {A = Push} b (leaf_push (bucket_of key) (nodes_of rows (bucket_of key)) key (rec.Plus key by) (nodes_of rows (bucket_of key) 0).0)
          (set_push (bucket_of key) (nodes_of rows (bucket_of key)) (key, number_text (n +ℤ by)) (nodes_of rows (bucket_of key) 0).0)).rows
      there true = leaf_row_follows rows (bucket_of key) key (rec.Plus key by) (nodes_of rows (bucket_of key) 0).0
      there false = set_follows rows key (number_text (n +ℤ by)) small sound

      fits : (b : Bool) → VersionsFollow rows (add_push (bucket_of key) (nodes_of rows (bucket_of key)) key by pairs (cond {A = Reply × List Write} b (reply.Sum (n +ℤ by), write.Set key (number_text (n +ℤ by)) ∷ []) (reply.OutOfRange, [])).1).rows
      fits true = there (has pairs key)
      fits false = tt

  call_follows : (c : Call) → VersionsFollow rows (push_of rows c).rows
  unfolding push_of call_push answer
  call_follows (call.Get key) = tt
  call_follows (call.Put key value) = set_follows rows key value small sound
  call_follows (call.Del key) = by (has (pairs_beside (nodes_of rows (bucket_of key)) key (nodes_of rows (bucket_of key) 0).0) key)
    where
      by : (b : Bool) → VersionsFollow rows (cond {A = Push} b (leaf_push (bucket_of key) (nodes_of rows (bucket_of key)) key (rec.Del key) (nodes_of rows (bucket_of key) 0).0) nothing_pushed).rows
      by true = leaf_row_follows rows (bucket_of key) key (rec.Del key) (nodes_of rows (bucket_of key) 0).0
      by false = tt
  call_follows (call.Add key by) =
      add_follows key by (pairs_beside (nodes_of rows (bucket_of key)) key (nodes_of rows (bucket_of key) 0).0) (number_at (pairs_beside (nodes_of rows (bucket_of key)) key (nodes_of rows (bucket_of key) 0).0) key)
  call_follows (call.Scan low high limit) = tt

pub pushed_versions : PushedVersions
unfolding all_pushed
pushed_versions rows new [] small sound is = let e : [] ≡ new = cc in subst (VersionsFollow rows) e tt
pushed_versions rows new (c ∷ cs) small sound is = by (pushed rows c) refl is (λ one more small' sound' is'. pushed_versions (rows ++ one) more cs small' sound' is')
  where
    by : (r : Result (List Row) Why) → pushed rows c ≡ r → and_then r (λ one. and_then (all_pushed (rows ++ one) cs) (λ more. Ok (one ++ more))) ≡ Ok new
        → ((one more : List Row) → AreSmall (rows ++ one) → IsSound (rows ++ one) → all_pushed (rows ++ one) cs ≡ Ok more → VersionsFollow (rows ++ one) more) → VersionsFollow rows new
    by (Err why) e is rest = absurd (cc)
    by (Ok one) e is rest = of (all_pushed (rows ++ one) cs) refl is
      where
        of : (r : Result (List Row) Why) → all_pushed (rows ++ one) cs ≡ r → and_then r (λ more. Ok (one ++ more)) ≡ Ok new → VersionsFollow rows new
        of (Err why) e' is' = absurd (cc)
        of (Ok more) e' is' =
            let p = pushed_law rows one c small sound e in let h = p.has_map in
            let joined : one ++ more ≡ new = cc in
            subst (VersionsFollow rows) joined
            (follow-append rows one more (subst (VersionsFollow rows) (ok_rows (push_of rows c) one e) (call_follows rows small sound c)) (rest one more p.small h.sound e'))

module _ (first : List Row) (small : AreSmall first) (sound : IsSound first) where
  versions_from : (history : List Commit) → IsLegal first history → (n : ℕ) → n ≤ length history → VersionsFollow first (all_rows (take n history))
  versions_from history legal zero h = tt
  versions_from history legal (suc n) h = by (taken history n (omega (arith, h))) (versions_from history legal n (omega (arith, h)))
    where
      by : (c : Commit) × (slice_get history n ≡ Some c) × (take (suc n) history ≡ take n history ++ c ∷ []) → VersionsFollow first (all_rows (take n history)) → VersionsFollow first (all_rows (take (suc n) history))
      by (c, is, more) before =
          let next : IsNext first (take n history) c = legal.each n c is in
          let p = legal_from first small sound history legal n (omega (arith, h)) in let m = p.has_map in
          subst (VersionsFollow first) (sym (ap all_rows more ∙ flat_map-append (λ d. d.entry.rows) (take n history) (c ∷ []) ∙ ap (λ rs. all_rows (take n history) ++ rs) (append-nil c.entry.rows)))
          (follow-append first (all_rows (take n history)) c.entry.rows before (pushed_versions (first ++ all_rows (take n history)) c.entry.rows c.entry.calls p.small m.sound next.rows))

pub legal_versions : LegalVersions
legal_versions first history small sound legal =
    subst (λ h. VersionsFollow first (all_rows h)) (all_taken history) (versions_from first small sound history legal (length history) (omega arith))

-- One call more behind calls that were answered.
use Rattle.std.proofs.Common.{◌≡◌, Bool, true, false, List, [], ◌∷◌, ◌++◌, Ok, refl, sym, ap, subst, ◌∙◌, append-nil, append_assoc, ◌||◌}
use Rattle.std.specs.List.{AllByRecursion, list_any}
use Rattle.std.specs.Option.{option_to_list}
use Rattle.std.proofs.lemmas.List.Folds.{list_any-append}
use Rattle.fine_model.specs.declared.Call.{Call}
use Rattle.fine_model.specs.declared.Call.TheVariants as call
use Rattle.fine_model.specs.declared.Row.{Row}
use Rattle.fine_model.specs.Laws.{IsPushed, HasMap, AreSmall}
use Rattle.fine_model.specs.Map.{Pair, map_after}
use Rattle.fine_model.specs.Pushed.{pushed, all_pushed, key_of}
use Rattle.fine_model.specs.Store.{answer, after_call, replies_to, writes_of}
use Rattle.fine_model.specs.Trees.{map_of, bucket_of}
use Rattle.fine_model.proofs.Trees.CallLaw.{same_bucket}
use Rattle.fine_model.proofs.Histories.HistoryLaws.{map_after-append}
use Rattle.fine_model.proofs.Ordered.Order.{all_map}
use Rattle.fine_model.proofs.Trees.PushedCalls.{pushed_last}
use Rattle.fine_model.proofs.Trees.SetLaw.{pushed_law}
use Rattle.fine_model.proofs.Ordered.Sets.{all_append}
use Rattle.btree_nodes.specs.Trees.{FitsLog}
use Rattle.txn_draft.specs.Drafts.{DraftValue, IsAnswered, FitsDraft, is_here, noted}
use Rattle.txn_draft.specs.Steps.{Made, IsMade}

-- the map after calls
abbrev after_calls : List Pair → List Call → List Pair
after_calls m cs = map_after m (writes_of m cs)

after_none : (m : List Pair) → after_calls m [] ≡ m
unfolding writes_of map_after
after_none m = refl

after_first : (m : List Pair) (c : Call) (cs : List Call) → after_calls m (c ∷ cs) ≡ after_calls (after_call m c) cs
unfolding writes_of map_after
after_first m c cs = map_after-append m (answer m c).1 (writes_of (after_call m c) cs)

replies_more : (m : List Pair) (cs : List Call) (c : Call) → replies_to m (cs ++ c ∷ []) ≡ replies_to m cs ++ (answer (after_calls m cs) c).0 ∷ []
unfolding replies_to
replies_more m [] c = ap (λ k. (answer k c).0 ∷ []) (sym (after_none m))
replies_more m (d ∷ ds) c = ap (λ rs. (answer m d).0 ∷ rs) (replies_more (after_call m d) ds c) ∙ ap (λ k. (answer m d).0 ∷ replies_to (after_call m d) ds ++ (answer k c).0 ∷ []) (sym (after_first m d ds))

writes_more : (m : List Pair) (cs : List Call) (c : Call) → writes_of m (cs ++ c ∷ []) ≡ writes_of m cs ++ (answer (after_calls m cs) c).1
unfolding writes_of
writes_more m [] c = append-nil (answer m c).1 ∙ ap (λ k. (answer k c).1) (sym (after_none m))
writes_more m (d ∷ ds) c =
    ap (λ ws. (answer m d).1 ++ ws) (writes_more (after_call m d) ds c)
    ∙ sym (append_assoc (answer m d).1 (writes_of (after_call m d) ds) (answer (after_calls (after_call m d) ds) c).1)
    ∙ ap (λ k. ((answer m d).1 ++ writes_of (after_call m d) ds) ++ (answer k c).1) (sym (after_first m d ds))

-- an answered draft goes on: the rows of one call more, its reply and its writes
pub answered_more : (rows own : List Row) (d d' : DraftValue) (c : Call) (made : Made) → IsAnswered rows d → d' ≡ noted (record d { rows = d'.rows }) c made.0 (option_to_list made.1) → d'.rows ≡ d.rows ++ own
    → pushed (rows ++ d.rows) c ≡ Ok own → IsMade (map_of (rows ++ d.rows)) c made → IsAnswered rows d'
answered_more rows own d d' c made a same behind one right = record {
  replies = ap (λ x. x.replies) same ∙ (λ i. a.replies i ++ reply_is i ∷ []) ∙ sym (replies_more m d.calls c) ∙ ap (replies_to m) (sym calls);
  writes = writes ∙ (λ i. a.writes i ++ wrote_is i) ∙ sym (writes_more m d.calls c) ∙ ap (writes_of m) (sym calls);
  is_pushed = ap (all_pushed rows) calls ∙ pushed_last rows d.rows own d.calls c a.is_pushed one ∙ ap Ok (sym behind);
  leaves = record {
    has_map = subst (λ rs. HasMap rs (map_after m d'.writes)) joined (subst (HasMap ((rows ++ d.rows) ++ own)) map_is next.has_map);
    small = subst AreSmall joined next.small;
  };
}
  where
    m : List Pair
    m = map_of rows

    calls : d'.calls ≡ d.calls ++ c ∷ []
    calls = ap (λ x. x.calls) same

    writes : d'.writes ≡ d.writes ++ option_to_list made.1
    writes = ap (λ x. x.writes) same

    now : map_of (rows ++ d.rows) ≡ after_calls m d.calls
    now = a.leaves.has_map.map ∙ ap (map_after m) a.writes

    reply_is : made.0 ≡ (answer (after_calls m d.calls) c).0
    reply_is = ap (λ p. p.0) right ∙ ap (λ k. (answer k c).0) now

    wrote_is : option_to_list made.1 ≡ (answer (after_calls m d.calls) c).1
    wrote_is = ap (λ p. p.1) right ∙ ap (λ k. (answer k c).1) now

    next : IsPushed (rows ++ d.rows) own (after_call (map_of (rows ++ d.rows)) c)
    next = pushed_law (rows ++ d.rows) own c a.leaves.small a.leaves.has_map.sound one

    joined : (rows ++ d.rows) ++ own ≡ rows ++ d'.rows
    joined = append_assoc rows d.rows own ∙ ap (λ rs. rows ++ rs) (sym behind)

    map_is : after_call (map_of (rows ++ d.rows)) c ≡ map_after m d'.writes
    map_is = (λ i. map_after (a.leaves.has_map.map i) (ap (λ p. p.1) (sym right) i)) ∙ sym (map_after-append m d.writes (option_to_list made.1)) ∙ ap (map_after m) (sym writes)

-- a call is in its own bucket
pub own_here : (c : Call) → is_here (bucket_of (key_of c)) c ≡ true
own_here (call.Get key) = same_bucket key
own_here (call.Put key value) = same_bucket key
own_here (call.Del key) = same_bucket key
own_here (call.Add key by) = same_bucket key
own_here (call.Scan low high limit) = refl

-- the rows of one call more fit too
pub fits_more : (own : List Row) (d d' : DraftValue) (c : Call) → d'.calls ≡ d.calls ++ c ∷ [] → d'.rows ≡ d.rows ++ own → FitsLog (bucket_of (key_of c)) own → FitsDraft d → FitsDraft d'
fits_more own d d' c calls rows new old = record {
  fit = subst (AllByRecursion _) (sym rows) (all_append _ d.rows own old.fit new.fit);
  here = subst (λ cs. AllByRecursion (λ row. list_any (is_here row.node.bucket) cs ≡ true) d'.rows) (sym calls) (subst (AllByRecursion (λ row. list_any (is_here row.node.bucket) (d.calls ++ c ∷ []) ≡ true)) (sym rows)
      (all_append (λ row. list_any (is_here row.node.bucket) (d.calls ++ c ∷ []) ≡ true) d.rows own
      (all_map (λ row. list_any (is_here row.node.bucket) d.calls ≡ true) (λ row. list_any (is_here row.node.bucket) (d.calls ++ c ∷ []) ≡ true) (λ row h. list_any-append (is_here row.node.bucket) d.calls (c ∷ []) ∙ ap (λ t. t || list_any (is_here row.node.bucket) (c ∷ [])) h) d.rows old.here)
      (all_map (λ row. row.node.bucket ≡ bucket_of (key_of c)) (λ row. list_any (is_here row.node.bucket) (d.calls ++ c ∷ []) ≡ true) (λ row h. last row h) own new.here)));
}
  where
    or_true : (a b : Bool) → b ≡ true → (a || b) ≡ true
    or_true true b e = refl
    or_true false b e = e

    last : (row : Row) → row.node.bucket ≡ bucket_of (key_of c) → list_any (is_here row.node.bucket) (d.calls ++ c ∷ []) ≡ true
    last row h = list_any-append (is_here row.node.bucket) d.calls (c ∷ []) ∙ or_true (list_any (is_here row.node.bucket) d.calls) (list_any (is_here row.node.bucket) (c ∷ [])) (ap (λ t. t || list_any (is_here row.node.bucket) []) (subst (λ k. is_here k c ≡ true) (sym h) (own_here c)))

-- What a bucket at rest serves once a transaction was settled there, while nothing in it is published.
use Rattle.std.proofs.Common.{◌≡◌, ◌≢◌, ⊎_elim, ℕ, ◌≤◌, ◌<◌, List, ◌++◌, Option, Some, None, is_some, option_map, Result, Ok, Err, refl, sym, ap, subst, ◌∙◌, true≢false, arith}
use Rattle.std.specs.Prelude.{IfSome, unwrap_or, if◌then◌else◌}
use Rattle.fine_model.specs.declared.Call.{Call}
use Rattle.fine_model.specs.declared.Node.TheVariants as node
use Rattle.fine_model.specs.declared.Row.{Row}
use Rattle.fine_model.specs.Nodes.{replay}
use Rattle.fine_model.specs.Trees.{nodes_of}
use Rattle.fine_model.proofs.Trees.NodeLaws.{content-append}
use Rattle.node_cache.specs.declared.cached.Cached.{Cached}
use Rattle.node_cache.specs.Cache.{Cache, cached, original, before, after}
use Rattle.node_cache.specs.Entries.{stamped}
use Rattle.btree_nodes.specs.declared.fault.TreeFault.{TreeFault}
use Rattle.btree_nodes.specs.Trees.{Serves, Holds, node_at}
use Rattle.btree_nodes.proofs.Loads.{none_or_some}
use Rattle.txn_draft.specs.Answers.{AnswersSoundly}
use Rattle.txn_draft.specs.Drafts.{DraftValue, IsAnswered}
use Rattle.open_txn_tests.specs.Twice.{AnsweredOr}
use Rattle.txn_draft.specs.Uses.{IsUsed}

-- with Ok the draft is answered
pub answered_or : (rows : List Row) (c : Call) (d d' : DraftValue) (b : Cache) (r : Result (Unit {0}) TreeFault) → AnswersSoundly rows c d d' b r → AnsweredOr r (IsAnswered rows d')
answered_or rows c d d' b (Ok done) h = h.0
answered_or rows c d d' b (Err fault) h = tt

module _ (published epoch low : ℕ) (taken b new : Cache) (log : List Row) (most : published < epoch) (above : published < low) (old : (n : ℕ) → IfSome (cached taken n) (λ kept. published < kept.epoch)) (used : IsUsed low taken b log)
    (bucket : new.bucket ≡ b.bucket) (kept : (n : ℕ) → IfSome (after b epoch n) (λ kept. published < kept.epoch → cached new n ≡ Some kept)) where
  -- what would be restored is not published
  late_before : (n : ℕ) → IfSome (before b n) (λ kept. published < kept.epoch)
  late_before n = ⊎_elim (λ none. late (before b n) (used.undoes.loaded n none)) (λ here. subst (λ o. IfSome o (λ kept. published < kept.epoch)) (sym (used.undoes.stays n here)) (old n)) (none_or_some (cached taken n))
    where
      late : (o : Option Cached) → IfSome o (λ kept. low ≤ kept.epoch) → IfSome o (λ kept. published < kept.epoch)
      late None h = tt
      late (Some k) h = omega (arith, above, h)

  -- so nothing is evicted
  was_none : (n : ℕ) → cached new n ≡ None → cached b n ≡ None
  was_none n none = by (cached b n) (original b n) refl refl
    where
      gone : {P : Type 0} (k : Cached) → cached new n ≡ Some k → P
      gone k is = absurd (true≢false (ap is_some (sym is ∙ none)))

      by : (o : Option Cached) (s : Option (Option Cached)) → cached b n ≡ o → original b n ≡ s → cached b n ≡ None
      by None s is saved = is
      by (Some k) (Some x) is saved =
          gone (stamped epoch k) (subst (λ o. IfSome o (λ kept. published < kept.epoch → cached new n ≡ Some kept)) (λ i. if is_some (saved i) then option_map (stamped epoch) (is i) else is i) (kept n) most)
      by (Some k) None is saved =
          gone k (subst (λ o. IfSome o (λ kept. published < kept.epoch → cached new n ≡ Some kept)) (λ i. if is_some (saved i) then option_map (stamped epoch) (is i) else is i) (kept n)
          (subst (λ o. IfSome o (λ kept. published < kept.epoch)) (λ i. unwrap_or (saved i) (is i)) (late_before n)))

  pub serves_settled : (tells : List Row → Type 0) (rows : List Row) → Serves tells b rows → Holds b rows log → Serves tells new (rows ++ log)
  unfolding replay
  serves_settled tells rows serves holds = record {
    known = serves.known;
    is_told = serves.is_told;
    each = λ n none fine. subst (λ k. nodes_of serves.known k n ≡ nodes_of (rows ++ log) k n) (sym bucket)
        (serves.each n (was_none n none) (subst (λ c. c.0 ≢ node.Broken) (same n (was_none n none)) (subst (λ k. (nodes_of (rows ++ log) k n).0 ≢ node.Broken) bucket fine)) ∙ sym (same n (was_none n none)));
  }
    where
      same : (n : ℕ) → cached b n ≡ None → nodes_of (rows ++ log) b.bucket n ≡ nodes_of rows b.bucket n
      same n none = content-append rows log (node_at b n) ∙ ap (replay (nodes_of rows b.bucket n)) (holds.others n none)

-- A generated script, transaction by transaction.
use Rattle.std.specs.List.{AllByRecursion}
use Rattle.std.proofs.Common.{◌≡◌, ℕ, suc, ◌+◌, ◌-◌, ◌/◌, ◌≤◌, ◌<◌, List, [], ◌∷◌, ◌++◌, length, sym, subst, ap, ◌∙◌, append_assoc, append-nil, arith}
use Rattle.std.proofs.lemmas.List.{length-append}
use Rattle.fine_model.specs.declared.ScriptTxn.{ScriptTxn}
use Rattle.fine_model.specs.Bounds.{FitsScript, FitsTxn}
use Rattle.fine_model.specs.Generator.{generated, next_state, txn_of, txns_from}
use Rattle.fine_model.proofs.Ordered.Sets.{all_append}
use Rattle.script_text.specs.Generating.{IsMade}

-- the first of those that are left
first_left : (count lanes i x : ℕ) → txns_from (suc count) lanes i x ≡ txn_of lanes i (next_state x / 8589934592) ∷ txns_from count lanes (i + 1) (next_state x)
unfolding txns_from
first_left count lanes i x = λ j. txn_of lanes i (next_state x / 8589934592) ∷ txns_from count lanes (i + 1) (next_state x)

pub starts : (start count lanes : ℕ) → IsMade start count lanes 0 [] start
starts start count lanes = record {
  within = omega arith;
  made = ap (λ n. txns_from n lanes 1 start) (omega arith);
  many = λ i. 0;
  fits = tt;
}

pub one_more : (start count lanes i : ℕ) (script more : List ScriptTxn) (x : ℕ) (txn : ScriptTxn) → i < count → IsMade start count lanes i script x → more ≡ script ++ txn ∷ []
    → txn ≡ txn_of lanes (i + 1) (next_state x / 8589934592) → FitsTxn txn → IsMade start count lanes (i + 1) more (next_state x)
one_more start count lanes i script more x txn below m is txn_is fits = record {
  within = omega (arith, below);
  made =
      let left : List ScriptTxn = txns_from (count - (i + 1)) lanes (i + 1 + 1) (next_state x) in
      let e : suc (count - (i + 1)) ≡ count - i = omega (arith, below) in
      ap (λ s. s ++ left) (is ∙ ap (λ t. script ++ t ∷ []) txn_is) ∙ append_assoc script (txn_of lanes (i + 1) (next_state x / 8589934592) ∷ []) left
      ∙ ap (λ s. script ++ s) (sym (first_left (count - (i + 1)) lanes (i + 1) x) ∙ ap (λ n. txns_from n lanes (i + 1) x) e) ∙ m.made;
  many = ap length is ∙ length-append script (txn ∷ []) ∙ ap (λ n. n + 1) m.many;
  fits = subst (AllByRecursion FitsTxn) (sym is) (all_append FitsTxn script (txn ∷ []) m.fits (fits, tt));
}

pub is_whole : (start count lanes : ℕ) (script : List ScriptTxn) (x i : ℕ) → count ≤ i → IsMade start count lanes i script x → script ≡ generated start count lanes
unfolding txns_from
is_whole start count lanes script x i end m =
    let none : count - i ≡ 0 = omega (arith, end) in
    sym (append-nil script) ∙ sym (ap (λ n. script ++ txns_from n lanes (i + 1) x) none) ∙ m.made

pub all_fit : (start count lanes : ℕ) (script : List ScriptTxn) (x i : ℕ) → count ≤ 100000 → IsMade start count lanes i script x → FitsScript script
all_fit start count lanes script x i few m = record {
  few = let n = m.many in let w = m.within in omega (arith, few, n, w);
  txns = m.fits;
}

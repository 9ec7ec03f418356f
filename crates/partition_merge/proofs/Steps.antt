-- Merging goes on behind the rows of the lowest node.
use Rattle.std.proofs.Common.{◌≡◌, ℕ, suc, ◌+◌, ◌<◌, ◌≤◌, Bool, true, false, cond, ◌||◌, IsTrue, List, [], ◌∷◌, ◌++◌, length, take, drop, Some, None, refl, sym, ap, ◌∙◌, subst, inl, inr, true≢false, arith, append_assoc, ◌-◌}
use Rattle.std.specs.Prelude.{Option}
use Rattle.std.proofs.lemmas.List.{length-drop}
use Rattle.std.proofs.lemmas.List.Elements.{filter-append}
use Rattle.fine_model.specs.declared.NodeId.{NodeId}
use Rattle.fine_model.specs.declared.Row.{Row}
use Rattle.fine_model.specs.Nodes.{is_node, rows_of, content}
use Rattle.fine_model.specs.Merge.{is_node_below, is_ordered, nodes_in, merged}
use Rattle.fine_model.proofs.Merging.NodesIn.{node_cases, is_node_below-self, is_node-self, same_node}
use Rattle.fine_model.proofs.Ordered.Lists.{all_drop}
use Rattle.fine_model.proofs.Merging.NodeOrder.{below-asym, below-other}
use Rattle.fine_model.proofs.Ordered.Order.{filter_all, filter_none, all_map}
use Rattle.fine_model.proofs.Ordered.Sets.{all_append}
use Rattle.fine_model.specs.RowBytes.{FitsRec}
use Rattle.fine_model.proofs.Merging.MergedRows.{content-merged}
use Rattle.partition_merge.specs.Merging.{FitRows, run_len, first_node, merged_of, StandsFor}
use Rattle.partition_index.proofs.RowOrder.{AllAbove, AllFrom, all_above, all_from, ordered_tail}
use Rattle.partition_merge.proofs.Nodes.{rest_of, names, merged_all, lowest_first}

-- the first rows are those of a node, and the others those of higher nodes
pub record Split (n : NodeId) (rows : List Row) (k : ℕ) : Type 0 where
  pub own : rows_of n rows ≡ take k rows
  pub rest : rest_of n rows ≡ drop k rows
  pub few : k ≤ length rows
  pub order : IsTrue (is_ordered (drop k rows))

split_more : (n : NodeId) (r : Row) (rows : List Row) (k : ℕ) → is_node n r.node ≡ true → Split n rows k → Split n (r ∷ rows) (suc k)
split_more n r rows k same s =
    let few : k ≤ length rows = s.few in
    record {
      own = ap (λ t. cond t (r ∷ rows_of n rows) (rows_of n rows)) same ∙ ap (λ xs. r ∷ xs) s.own;
      rest = ap (λ t. cond t (r ∷ rest_of n rows) (rest_of n rows)) (subst (λ k. is_node_below n k ≡ false) (same_node n r.node same) (is_node_below-self n)) ∙ s.rest;
      few = omega arith;
      order = s.order;
    }

split_none : (n : NodeId) (rows : List Row) → IsTrue (is_ordered rows) → AllAbove n rows → Split n rows 0
split_none n rows up above = record {
  own = filter_none (λ r. is_node n r.node) rows (all_map (λ r. is_node_below n r.node ≡ true) (λ r. is_node n r.node ≡ false) (λ r h. (below-other n r.node h).0) rows above);
  rest = filter_all (λ r. is_node_below n r.node) rows above;
  few = omega arith;
  order = up;
}

pub split_run : (n : NodeId) (rows : List Row) → IsTrue (is_ordered rows) → AllFrom n rows → Split n rows (run_len n rows)
split_run n [] up from = split_none n [] up tt
split_run n (r ∷ rows) up from = by (is_node n r.node) refl (split_run n rows (ordered_tail r rows up) from.1)
  where
    by : (t : Bool) → is_node n r.node ≡ t → Split n rows (run_len n rows) → Split n (r ∷ rows) (cond (is_node n r.node) (1 + run_len n rows) 0)
    by true e s =
        let one : 1 + run_len n rows ≡ suc (run_len n rows) = omega arith in
        subst (λ t. Split n (r ∷ rows) (cond t (1 + run_len n rows) 0)) (sym e) (subst (λ k. Split n (r ∷ rows) k) (sym one) (split_more n r rows (run_len n rows) e s))
    by false e s = subst (λ t. Split n (r ∷ rows) (cond t (1 + run_len n rows) 0)) (sym e) (elim (node_cases n r.node e) [
      | inl up_here ↦ split_none n (r ∷ rows) up (all_above n r rows up up_here.0)
      | inr down ↦ absurd (true≢false (sym down.0 ∙ from.0))
    ])

named_front : (n : NodeId) (older newer : List Row) → names n older ≡ true → names n (older ++ newer) ≡ true
named_front n [] newer h = absurd (true≢false (sym h))
named_front n (r ∷ older) newer h = by (is_node n r.node) (named_front n older newer) h
  where
    by : (t : Bool) → (names n older ≡ true → names n (older ++ newer) ≡ true) → (t || names n older) ≡ true → (t || names n (older ++ newer)) ≡ true
    by true rest h = refl
    by false rest h = rest h

named_back : (n : NodeId) (older newer : List Row) → names n newer ≡ true → names n (older ++ newer) ≡ true
named_back n [] newer h = h
named_back n (r ∷ older) newer h = by (is_node n r.node) (named_back n older newer h)
  where
    by : (t : Bool) → names n (older ++ newer) ≡ true → (t || names n (older ++ newer)) ≡ true
    by true rest = refl
    by false rest = rest

-- a node with which rows begin
is_head : (n : NodeId) (r : Row) → r.node ≡ n → is_node n r.node ≡ true
is_head n r same = subst (λ k. is_node n k ≡ true) (sym same) (is_node-self n)

pub named_head : (n : NodeId) (r : Row) (rows : List Row) → r.node ≡ n → names n (r ∷ rows) ≡ true
named_head n r rows same = ap (λ t. t || names n rows) (is_head n r same)

run_head : (n : NodeId) (r : Row) (rows : List Row) → r.node ≡ n → 0 < run_len n (r ∷ rows)
run_head n r rows same = let e : run_len n (r ∷ rows) ≡ 1 + run_len n rows = ap (λ t. cond t (1 + run_len n rows) 0) (is_head n r same) in omega (arith, e)

pub from_head : (n : NodeId) (r : Row) (rows : List Row) → IsTrue (is_ordered (r ∷ rows)) → r.node ≡ n → AllFrom n (r ∷ rows)
from_head n r rows up same = all_from n r rows up (subst (λ k. is_node_below k n ≡ false) (sym same) (is_node_below-self n))

-- a node that is the lowest of both lists
pub record Starts (n : NodeId) (older newer : List Row) : Type 0 where
  pub old_from : AllFrom n older
  pub new_from : AllFrom n newer
  pub named : names n (older ++ newer) ≡ true
  pub some : 0 < run_len n older + run_len n newer

inside : (a b : NodeId) → ◌≡◌ {A = Option NodeId} (Some a) (Some b) → a ≡ b
inside a b e = cc

pub starts : (n : NodeId) (older newer : List Row) → IsTrue (is_ordered older) → IsTrue (is_ordered newer) → first_node older newer ≡ Some n → Starts n older newer
starts n [] [] old_up new_up e = absurd (cc)
starts n [] (s ∷ newer) old_up new_up e =
    let same : s.node ≡ n = inside s.node n e in let run : 0 < run_len n (s ∷ newer) = run_head n s newer same in
    record { old_from = tt; new_from = from_head n s newer new_up same; named = named_head n s newer same; some = omega (arith, run) }
starts n (r ∷ older) [] old_up new_up e =
    let same : r.node ≡ n = inside r.node n e in let run : 0 < run_len n (r ∷ older) = run_head n r older same in
    record { old_from = from_head n r older old_up same; new_from = tt; named = named_front n (r ∷ older) [] (named_head n r older same); some = omega (arith, run) }
starts n (r ∷ older) (s ∷ newer) old_up new_up e = by (is_node_below s.node r.node) refl e
  where
    by : (t : Bool) → is_node_below s.node r.node ≡ t → ◌≡◌ {A = Option NodeId} (cond t (Some s.node) (Some r.node)) (Some n) → Starts n (r ∷ older) (s ∷ newer)
    by true below e =
        let same : s.node ≡ n = inside s.node n e in let run : 0 < run_len n (s ∷ newer) = run_head n s newer same in
        record {
          old_from = all_from n r older old_up (subst (λ k. is_node_below r.node k ≡ false) same (below-asym s.node r.node below));
          new_from = from_head n s newer new_up same;
          named = named_back n (r ∷ older) (s ∷ newer) (named_head n s newer same);
          some = omega (arith, run);
        }
    by false below e =
        let same : r.node ≡ n = inside r.node n e in let run : 0 < run_len n (r ∷ older) = run_head n r older same in
        record {
          old_from = from_head n r older old_up same;
          new_from = all_from n s newer new_up (subst (λ k. is_node_below s.node k ≡ false) same below);
          named = named_front n (r ∷ older) (s ∷ newer) (named_head n r older same);
          some = omega (arith, run);
        }

-- the lowest node's rows come first, and then what the others are merged into
pub next_node : (n : NodeId) (older newer : List Row) → IsTrue (is_ordered older) → IsTrue (is_ordered newer) → first_node older newer ≡ Some n
    → merged older newer ≡ merged_of n (take (run_len n older) older ++ take (run_len n newer) newer) ++ merged (drop (run_len n older) older) (drop (run_len n newer) newer)
unfolding merged
next_node n older newer old_up new_up first =
    let s = starts n older newer old_up new_up first in
    let a = split_run n older old_up s.old_from in
    let b = split_run n newer new_up s.new_from in
    let own : rows_of n (older ++ newer) ≡ take (run_len n older) older ++ take (run_len n newer) newer = filter-append (λ r. is_node n r.node) older newer ∙ ap (λ xs. xs ++ rows_of n newer) a.own ∙ ap (λ xs. take (run_len n older) older ++ xs) b.own in
    let rest : rest_of n (older ++ newer) ≡ drop (run_len n older) older ++ drop (run_len n newer) newer = filter-append (λ r. is_node_below n r.node) older newer ∙ ap (λ xs. xs ++ rest_of n newer) a.rest ∙ ap (λ xs. drop (run_len n older) older ++ xs) b.rest in
    lowest_first n (older ++ newer) (all_append (λ r. is_node_below r.node n ≡ false) older newer s.old_from s.new_from) s.named
    ∙ ap (λ xs. merged_of n xs ++ merged_all (rest_of n (older ++ newer))) own
    ∙ ap (λ xs. merged_of n (take (run_len n older) older ++ take (run_len n newer) newer) ++ merged_all xs) rest

-- with no rows left nothing is merged
pub no_node : (older newer : List Row) → first_node older newer ≡ None → merged older newer ≡ []
unfolding merged nodes_in
no_node [] [] e = refl
no_node [] (s ∷ newer) e = absurd (cc)
no_node (r ∷ older) [] e = absurd (cc)
no_node (r ∷ older) (s ∷ newer) e = by (is_node_below s.node r.node) e
  where
    by : (t : Bool) → ◌≡◌ {A = Option NodeId} (cond t (Some s.node) (Some r.node)) None → merged (r ∷ older) (s ∷ newer) ≡ []
    by true e = absurd (cc)
    by false e = absurd (cc)

-- both lists behind the rows of their lowest node
pub record GoesOn (older newer a b all out : List Row) : Type 0 where
  pub old_order : IsTrue (is_ordered a)
  pub new_order : IsTrue (is_ordered b)
  pub old_fit : FitRows a
  pub new_fit : FitRows b
  pub left : all ≡ out ++ merged a b
  pub smaller : length a + length b < length older + length newer

pub goes_on : (n : NodeId) (older newer a1 a b1 b all before out : List Row) (i j : ℕ) → IsTrue (is_ordered older) → IsTrue (is_ordered newer) → FitRows older → FitRows newer
    → first_node older newer ≡ Some n → i ≡ run_len n older → j ≡ run_len n newer → a1 ≡ take i older → a ≡ drop i older → b1 ≡ take j newer → b ≡ drop j newer
    → all ≡ before ++ merged older newer → out ≡ before ++ merged_of n (a1 ++ b1) → GoesOn older newer a b all out
goes_on n older newer a1 a b1 b all before out i j old_up new_up old_fit new_fit first is js a1s a2s b1s b2s left pushed =
    let s = starts n older newer old_up new_up first in
    let ka = split_run n older old_up s.old_from in
    let kb = split_run n newer new_up s.new_from in
    let a1e : a1 ≡ take (run_len n older) older = a1s ∙ ap (λ k. take k older) is in
    let ae : a ≡ drop (run_len n older) older = a2s ∙ ap (λ k. drop k older) is in
    let b1e : b1 ≡ take (run_len n newer) newer = b1s ∙ ap (λ k. take k newer) js in
    let be : b ≡ drop (run_len n newer) newer = b2s ∙ ap (λ k. drop k newer) js in
    let some : 0 < run_len n older + run_len n newer = s.some in
    let olds : run_len n older ≤ length older = ka.few in
    let news : run_len n newer ≤ length newer = kb.few in
    let la : length a ≡ length older - run_len n older = ap length ae ∙ length-drop (run_len n older) older in
    let lb : length b ≡ length newer - run_len n newer = ap length be ∙ length-drop (run_len n newer) newer in
    let own : merged_of n (take (run_len n older) older ++ take (run_len n newer) newer) ≡ merged_of n (a1 ++ b1) = ap (λ xs. merged_of n (xs ++ take (run_len n newer) newer)) (sym a1e) ∙ ap (λ xs. merged_of n (a1 ++ xs)) (sym b1e) in
    let rest : merged (drop (run_len n older) older) (drop (run_len n newer) newer) ≡ merged a b = ap (λ xs. merged xs (drop (run_len n newer) newer)) (sym ae) ∙ ap (λ xs. merged a xs) (sym be) in
    record {
      old_order = subst (λ xs. IsTrue (is_ordered xs)) (sym ae) ka.order;
      new_order = subst (λ xs. IsTrue (is_ordered xs)) (sym be) kb.order;
      old_fit = subst FitRows (sym ae) (all_drop (λ r. FitsRec r.rec) (run_len n older) older old_fit);
      new_fit = subst FitRows (sym be) (all_drop (λ r. FitsRec r.rec) (run_len n newer) newer new_fit);
      left =
          left ∙ ap (λ xs. before ++ xs) (next_node n older newer old_up new_up first ∙ ap (λ xs. xs ++ merged (drop (run_len n older) older) (drop (run_len n newer) newer)) own ∙ ap (λ xs. merged_of n (a1 ++ b1) ++ xs) rest)
          ∙ sym (append_assoc before (merged_of n (a1 ++ b1)) (merged a b)) ∙ ap (λ xs. xs ++ merged a b) (sym pushed);
      smaller = omega (arith, some, olds, news, la, lb);
    }

-- the merged rows stand for both lists
pub stands : (older newer rows : List Row) → rows ≡ merged older newer → StandsFor older newer rows
stands older newer rows e = record {
  same = λ before after id versions whole. ap (λ xs. content (before ++ (xs ++ after)) id) e ∙ content-merged before older newer after id versions whole;
}

-- What setting a pair pushes leaves sound rows, whose map has the pair set: the law of the pushed rows.
use Rattle.std.proofs.Common.{◌≡◌, ◌≢◌, ◌⊎◌, inl, inr, ℕ, zero, suc, ◌+◌, ◌-◌, ◌<◌, ◌≤◌, ◌==◌, Bool, true, false, cond, IsTrue, List, [], ◌∷◌, ◌++◌, length, refl, sym, ap, ◌∙◌, subst, true≢false, Some, None, arith, eqb-true, leb, append-nil, append_assoc}
use Rattle.std.specs.Prelude.{flat_map, Option}
use Rattle.std.specs.List.{AllByRecursion}
use Rattle.std.proofs.lemmas.Bool.{leb-true}
use Rattle.std.proofs.lemmas.Bool.Decides.{leb_tells}
use Rattle.fine_model.specs.Types.{Row, Node}
use Rattle.fine_model.specs.Types.rec
use Rattle.fine_model.specs.Types.node
use Rattle.fine_model.specs.Map.{set}
use Rattle.fine_model.specs.Nodes.{Content}
use Rattle.fine_model.specs.Trees.{Bounds, whole, AllBetween, is_key_within, is_leaf, IsInner, IsSubtree, IsTree, IsFitFrom, IsSound, kids_of, bucket_of, nodes_of, pairs_of, pairs_from, pairs_under, reached, is_distinct, tree_map, map_of}
use Rattle.fine_model.specs.Pushed.{Growth, row_of, child_for, grown_inner, growth, with_head, set_push}
use Rattle.fine_model.specs.Laws.{is_small, AreSmall, PushedLaw}
use Rattle.fine_model.proofs.Ordered.Sets.{all_append}
use Rattle.fine_model.proofs.Trees.Joined.{set_is_change}
use Rattle.fine_model.proofs.Trees.Buckets.{AreOfBucket, HasTree, has_tree, after_sound, after_map}
use Rattle.fine_model.proofs.Trees.Small.{is_small_node, small_content}
use Rattle.fine_model.proofs.Trees.CallLaw.{Leaves, SetLaw, bucket_below, same_bucket, pushed_from_set}
use Rattle.fine_model.proofs.Ordered.Times.{times, times-append, times-same, times-cons, times-none, distinct_times, times_distinct, below_times, times_below}
use Rattle.fine_model.proofs.Trees.Frame.{SameUnder, under_stays}
use Rattle.fine_model.proofs.Trees.Grown.{IsGrown, grown_more, GrownWhole, GrownSplit}
use Rattle.fine_model.proofs.Trees.PushNodes.{push_here, push_other}
use Rattle.fine_model.proofs.Trees.Grows.{GrownAs, Grows}
use Rattle.fine_model.proofs.Trees.GrowLeaf.{leaf_grows}
use Rattle.fine_model.proofs.Trees.GrowInner.{AreOnce, EachGrows, inner_grows}

small_pairs : (n : Node) → is_small_node n ≡ true → length (pairs_of n) ≤ 32
small_pairs (node.Leaf pairs) h = leb-true (length pairs) 32 h
small_pairs (node.Head root next depth) h = omega arith
small_pairs (node.Inner seps kids) h = omega arith
small_pairs node.Broken h = omega arith

pub reaches_itself : (height : ℕ) (nodes : ℕ → Content) (number : ℕ) → 1 ≤ times number (reached height nodes number)
unfolding reached
reaches_itself zero nodes number = let s = times-same number [] in omega (arith, s)
reaches_itself (suc height) nodes number = let s = times-same number (flat_map (reached height nodes) (kids_of (nodes number).0)) in omega (arith, s)

pub itself_low : (next height : ℕ) (nodes : ℕ → Content) (number : ℕ) → AreOnce next (reached height nodes number) → number < next
itself_low next height nodes number once = by (leb_tells next number)
  where
    by : ((leb next number ≡ true) × (next ≤ number)) ⊎ ((leb next number ≡ false) × (number < next)) → number < next
    by (inl h) = let o = once.below number h.1 in let s = reaches_itself height nodes number in absurd (omega (arith, o, s))
    by (inr h) = h.1

module _ (rows : List Row) (bucket : ℕ) (key value : List ℕ) (next : ℕ) (of_bucket : (bucket_of key == bucket) ≡ true) (small : AreSmall rows) where
  abbrev nodes : ℕ → Content
  nodes = nodes_of rows bucket

  pub small_node : (number : ℕ) → is_small_node (nodes number).0 ≡ true
  small_node number = small_content rows (record { bucket = bucket; number = number }) small

  grown_of : ℕ → ℕ → Node → Growth
  grown_of height number n =
      grown_inner bucket number (nodes number).1 n (growth height bucket nodes next (key, value) (child_for key n)).rows (growth height bucket nodes next (key, value) (child_for key n)).next
      (growth height bucket nodes next (key, value) (child_for key n)).split

  inner_of : (height : ℕ) → EachGrows rows bucket key value next of_bucket height → (bounds : Bounds) (number : ℕ) (n : Node) → (nodes number).0 ≡ n → IsInner (IsSubtree height bucket nodes) bounds n
      → is_key_within bucket bounds key ≡ true → AreOnce next (number ∷ flat_map (reached height nodes) (kids_of n)) → is_small_node n ≡ true → Grows rows bucket key value next (suc height) bounds number (grown_of height number n)
  unfolding grown_of
  inner_of height each bounds number (node.Inner seps kids) is inner within once few =
      inner_grows rows bucket key value next of_bucket height each bounds number seps kids is inner.0 inner.1 within (leb-true (length seps) 32 few) once
  inner_of height each bounds number (node.Head root next' depth) is inner within once few = absurd inner
  inner_of height each bounds number (node.Leaf pairs) is inner within once few = absurd inner
  inner_of height each bounds number node.Broken is inner within once few = absurd inner

  pub each_grows : (height : ℕ) → EachGrows rows bucket key value next of_bucket height
  unfolding IsSubtree reached growth grown_of
  each_grows zero bounds number subtree within once =
      leaf_grows rows bucket key value next bounds number subtree within (itself_low next zero nodes number once) (small_pairs (nodes number).0 (small_node number))
  each_grows (suc height) bounds number subtree within once = inner_of height (each_grows height) bounds number (nodes number).0 refl subtree within once (small_node number)

-- the nodes that a tree reaches are leaves and inner nodes
abbrev pub IsBody : Node → Type 0
IsBody (node.Leaf pairs) = Unit {0}
IsBody (node.Inner seps kids) = Unit {0}
IsBody _ = ⊥

module _ (bucket : ℕ) (nodes : ℕ → Content) where
  pub leaf_body : (bounds : Bounds) (n : Node) → is_leaf bucket bounds n ≡ true → IsBody n
  leaf_body bounds (node.Leaf pairs) h = tt
  leaf_body bounds (node.Inner seps kids) h = tt
  leaf_body bounds (node.Head root next depth) h = absurd (true≢false (sym h))
  leaf_body bounds node.Broken h = absurd (true≢false (sym h))

  pub inner_body : (P : Bounds → ℕ → Type 0) (bounds : Bounds) (n : Node) → IsInner P bounds n → IsBody n
  inner_body P bounds (node.Leaf pairs) h = tt
  inner_body P bounds (node.Inner seps kids) h = tt
  inner_body P bounds (node.Head root next depth) h = absurd h
  inner_body P bounds node.Broken h = absurd h

  in_kids : (P : Bounds → ℕ → Type 0) (f : ℕ → List ℕ) (n : ℕ) (each : (b : Bounds) (k : ℕ) → P b k → 1 ≤ times n (f k) → IsBody (nodes n).0) (bounds : Bounds) (seps : List (List ℕ)) (kids : List ℕ)
      → AllBetween P bounds seps kids → 1 ≤ times n (flat_map f kids) → IsBody (nodes n).0
  unfolding AllBetween
  in_kids P f n each bounds [] [] all here = absurd all
  in_kids P f n each bounds [] (k ∷ []) all here = each bounds k all (let a = times-append n (f k) [] in let z = times-none n in omega (arith, a, z, here))
  in_kids P f n each bounds [] (k ∷ k' ∷ kids) all here = absurd all
  in_kids P f n each bounds (s ∷ seps) [] all here = absurd all
  in_kids P f n each bounds (s ∷ seps) (k ∷ kids) all here = by (leb_tells 1 (times n (f k))) (in_kids P f n each (record { low = Some s; high = bounds.high }) seps kids all.1)
    where
      by : ((leb 1 (times n (f k)) ≡ true) × (1 ≤ times n (f k))) ⊎ ((leb 1 (times n (f k)) ≡ false) × (times n (f k) < 1)) → (1 ≤ times n (flat_map f kids) → IsBody (nodes n).0) → IsBody (nodes n).0
      by (inl h) rest = each _ k all.0 h.1
      by (inr h) rest = rest (let a = times-append n (f k) (flat_map f kids) in let l = h.1 in omega (arith, a, l, here))

  in_inner : (P : Bounds → ℕ → Type 0) (f : ℕ → List ℕ) (n : ℕ) (each : (b : Bounds) (k : ℕ) → P b k → 1 ≤ times n (f k) → IsBody (nodes n).0) (bounds : Bounds) (m : Node)
      → IsInner P bounds m → 1 ≤ times n (flat_map f (kids_of m)) → IsBody (nodes n).0
  in_inner P f n each bounds (node.Inner seps kids) inner here = in_kids P f n each bounds seps kids inner.1 here
  in_inner P f n each bounds (node.Leaf pairs) inner here = absurd inner
  in_inner P f n each bounds (node.Head root next depth) inner here = absurd inner
  in_inner P f n each bounds node.Broken inner here = absurd inner

  pub reached_body : (height : ℕ) (bounds : Bounds) (number : ℕ) → IsSubtree height bucket nodes bounds number → (n : ℕ) → 1 ≤ times n (reached height nodes number) → IsBody (nodes n).0
  unfolding IsSubtree reached
  reached_body zero bounds number subtree n here = by (times-cons n number [])
    where
      by : ((n ≡ number) × (times n (number ∷ []) ≡ times n [] + 1)) ⊎ ((n ≢ number) × (times n (number ∷ []) ≡ times n [])) → IsBody (nodes n).0
      by (inl h) = subst (λ k. IsBody (nodes k).0) (sym h.0) (leaf_body bounds (nodes number).0 subtree)
      by (inr h) = let z = times-none n in let e = h.1 in absurd (omega (arith, z, e, here))
  reached_body (suc height) bounds number subtree n here =
      by (times-cons n number (flat_map (reached height nodes) (kids_of (nodes number).0)))
      (in_inner (IsSubtree height bucket nodes) (reached height nodes) n (λ b k h i. reached_body height b k h n i) bounds (nodes number).0 subtree)
    where
      by : ((n ≡ number) × (times n (number ∷ flat_map (reached height nodes) (kids_of (nodes number).0)) ≡ times n (flat_map (reached height nodes) (kids_of (nodes number).0)) + 1))
          ⊎ ((n ≢ number) × (times n (number ∷ flat_map (reached height nodes) (kids_of (nodes number).0)) ≡ times n (flat_map (reached height nodes) (kids_of (nodes number).0))))
          → (1 ≤ times n (flat_map (reached height nodes) (kids_of (nodes number).0)) → IsBody (nodes n).0) → IsBody (nodes n).0
      by (inl h) rest = subst (λ k. IsBody (nodes k).0) (sym h.0) (inner_body (IsSubtree height bucket nodes) bounds (nodes number).0 subtree)
      by (inr h) rest = rest (let e = h.1 in omega (arith, e, here))

module _ (rows : List Row) (key value : List ℕ) (small : AreSmall rows) (sound : IsSound rows) where
  abbrev bucket : ℕ
  bucket = bucket_of key

  abbrev old : ℕ → Content
  old = nodes_of rows bucket

  module _ (t : HasTree bucket old (old 0).0) where
    unfoldable pub height : ℕ
    height = t.depth - 1

    pub once : AreOnce t.next (reached height old t.root)
    unfolding height
    once = let tree = t.tree in record { once = distinct_times (reached (t.depth - 1) old t.root) tree.distinct; below = below_times t.next (reached (t.depth - 1) old t.root) tree.below }

    pub subtree : IsSubtree height bucket old whole t.root
    unfolding height
    subtree = let tree = t.tree in tree.subtree

    unfoldable pub g : Growth
    g = growth height bucket old t.next (key, value) t.root

    pub grows : Grows rows bucket key value t.next height whole t.root g
    unfolding g
    grows = each_grows rows bucket key value t.next (same_bucket key) small height whole t.root subtree (same_bucket key) once

    pub head_out : times 0 (reached height old t.root) ≡ 0
    head_out = by (leb_tells 1 (times 0 (reached height old t.root)))
      where
        by : ((leb 1 (times 0 (reached height old t.root)) ≡ true) × (1 ≤ times 0 (reached height old t.root))) ⊎ ((leb 1 (times 0 (reached height old t.root)) ≡ false) × (times 0 (reached height old t.root) < 1)) → times 0 (reached height old t.root) ≡ 0
        by (inl h) = absurd (subst IsBody t.is (reached_body bucket old height whole t.root subtree 0 h.1))
        by (inr h) = let l = h.1 in omega (arith, l)

    pub some_next : 0 < t.next
    some_next = let l = itself_low t.next height old t.root once in omega (arith, l)

    abbrev pub mid : ℕ → Content
    mid = nodes_of (rows ++ g.rows) bucket

    -- a tree of the grown nodes
    tree_grown : (new : ℕ → Content) (root next depth h : ℕ) → IsSubtree h bucket new whole root → IsGrown t.next next (reached height old t.root) (reached h new root)
        → ((n : ℕ) → next ≤ n → new n ≡ old n) → 1 ≤ depth → depth - 1 ≡ h → IsTree bucket new root next depth
    tree_grown new root next depth h tree numbers rest deep is = record {
      deep = deep;
      subtree = subst (λ k. IsSubtree k bucket new whole root) (sym is) tree;
      distinct = subst (λ k. IsTrue (is_distinct (reached k new root))) (sym is) (times_distinct (reached h new root) (λ n. by n (leb_tells t.next n)));
      below = subst (λ k. AllByRecursion (λ number. number < next) (reached k new root)) (sym is)
          (times_below next (reached h new root) (λ n above. let a = numbers.high n above in let o = once.below n (let m = numbers.ordered in omega (arith, m, above)) in omega (arith, a, o)));
      unused = λ n above. let m = numbers.ordered in let u = t.tree in rest n above ∙ u.unused n (omega (arith, m, above));
    }
      where
        by : (n : ℕ) → ((leb t.next n ≡ true) × (t.next ≤ n)) ⊎ ((leb t.next n ≡ false) × (n < t.next)) → times n (reached h new root) ≤ 1
        by n (inl e) = let a = numbers.each n in let o = once.below n e.1 in omega (arith, a, o)
        by n (inr e) = let a = numbers.low n e.1 in let o = once.once n in omega (arith, a, o)

    -- the grown tree, with its head
    record TreeFacts (new : ℕ → Content) (root next depth : ℕ) : Type 0 where
      head : (new 0).0 ≡ node.Head root next depth
      tree : IsTree bucket new root next depth
      pairs : pairs_under (depth - 1) new root ≡ set (pairs_under height old t.root) key value

    finish : (all : List Row) (root next depth : ℕ) → AreOfBucket bucket all → AllByRecursion (λ row. IsTrue (is_small row.rec)) all
        → TreeFacts (nodes_of (rows ++ all) bucket) root next depth → Leaves rows all (set (map_of rows) key value)
    unfolding tree_map height
    finish all root next depth are are_small facts =
        let fit : IsFitFrom bucket (nodes_of (rows ++ all) bucket) (nodes_of (rows ++ all) bucket 0).0 = subst (IsFitFrom bucket (nodes_of (rows ++ all) bucket)) (sym facts.head) facts.tree in
        record {
          has_map = record {
            sound = after_sound rows sound all bucket (bucket_below key) are fit;
            map = after_map rows sound all bucket (bucket_below key) are fit key (λ m. set m key value) (same_bucket key) (set_is_change key value)
                (ap (pairs_from (nodes_of (rows ++ all) bucket)) facts.head ∙ facts.pairs ∙ ap (λ m. set m key value) (sym (ap (pairs_from old) t.is)));
          };
          small = are_small;
        }

    deep : 1 ≤ t.depth
    deep = let tree = t.tree in tree.deep

    pub mid_head : mid 0 ≡ old 0
    mid_head = let gr = grows.grown in gr.others 0 head_out (inl some_next)

    pub mid_rest : (n : ℕ) → g.next ≤ n → mid n ≡ old n
    mid_rest n above = let gr = grows.grown in let o = grows.ordered in gr.others n (once.below n (omega (arith, o, above))) (inr above)

    not_head : (ns : List ℕ) → IsGrown t.next g.next (reached height old t.root) ns → (n : ℕ) → 1 ≤ times n ns → n ≢ 0
    not_head ns numbers n here e = let l = numbers.low 0 some_next in let z = head_out in let s = ap (λ k. times k ns) e in absurd (omega (arith, l, z, s, here))

    not_next : (ns : List ℕ) → IsGrown t.next g.next (reached height old t.root) ns → (n : ℕ) → 1 ≤ times n ns → n ≢ g.next
    not_next ns numbers n here e =
        let l = numbers.high g.next (omega arith) in let z = once.below g.next grows.ordered in let s = ap (λ k. times k ns) e in absurd (omega (arith, l, z, s, here))

    -- nothing was split
    no_head : g.next ≡ t.next → GrownWhole bucket old mid key value t.next g.next height whole t.root → Leaves rows g.rows (set (map_of rows) key value)
    unfolding height
    no_head same w = finish g.rows t.root g.next t.depth grows.of_bucket grows.small (record {
      head = ap (λ c. c.0) mid_head ∙ t.is ∙ ap (λ n. node.Head t.root n t.depth) (sym same);
      tree = tree_grown mid t.root g.next t.depth height w.subtree w.numbers mid_rest deep refl;
      pairs = w.pairs;
    })

    abbrev version : ℕ
    version = (old 0).1

    -- nodes below the root were split: the head has the new next number
    new_head : GrownWhole bucket old mid key value t.next g.next height whole t.root
        → Leaves rows (g.rows ++ row_of bucket 0 (version + 1) (rec.HeadImage t.root g.next t.depth) ∷ []) (set (map_of rows) key value)
    unfolding height
    new_head w = finish (g.rows ++ head_row ∷ []) t.root g.next t.depth
        (all_append (λ row. row.node.bucket ≡ bucket) g.rows (head_row ∷ []) grows.of_bucket (refl, tt))
        (all_append (λ row. IsTrue (is_small row.rec)) g.rows (head_row ∷ []) grows.small (refl, tt))
        (subst (λ rs. TreeFacts (nodes_of rs bucket) t.root g.next t.depth) (append_assoc rows g.rows (head_row ∷ [])) (record {
          head = ap (λ c. c.0) (push_here bucket (rows ++ g.rows) 0 (version + 1) (rec.HeadImage t.root g.next t.depth));
          tree = tree_grown new t.root g.next t.depth height same.subtree (subst (IsGrown t.next g.next (reached height old t.root)) (sym same.same_reached) w.numbers)
              (λ n above. stay n (λ e. let s = some_next in let o = grows.ordered in absurd (omega (arith, s, o, above, e))) ∙ mid_rest n above) deep refl;
          pairs = same.same_pairs ∙ w.pairs;
        }))
      where
        head_row : Row
        head_row = row_of bucket 0 (version + 1) (rec.HeadImage t.root g.next t.depth)

        new : ℕ → Content
        new = nodes_of ((rows ++ g.rows) ++ row_of bucket 0 (version + 1) (rec.HeadImage t.root g.next t.depth) ∷ []) bucket

        stay : (n : ℕ) → n ≢ 0 → new n ≡ mid n
        stay n other = push_other bucket (rows ++ g.rows) 0 (version + 1) (rec.HeadImage t.root g.next t.depth) n other

        same : SameUnder bucket mid new height whole t.root
        same = under_stays bucket mid new height whole t.root w.subtree (λ n here. stay n (not_head (reached height mid t.root) w.numbers n here))

    -- the root was split: a new root stands above it
    module _ (sep : List ℕ) (right : ℕ) where
      abbrev root_row : Row
      root_row = row_of bucket g.next 1 (rec.InnerImage (sep ∷ []) (t.root ∷ right ∷ []))

      abbrev head_row : Row
      head_row = row_of bucket 0 (version + 1) (rec.HeadImage g.next (g.next + 1) (t.depth + 1))

      new_root : GrownSplit bucket old mid key value t.next g.next height whole t.root sep right → Leaves rows (g.rows ++ root_row ∷ head_row ∷ []) (set (map_of rows) key value)
      unfolding IsSubtree AllBetween reached pairs_under height
      new_root w = finish (g.rows ++ root_row ∷ head_row ∷ []) g.next (g.next + 1) (t.depth + 1)
          (all_append (λ row. row.node.bucket ≡ bucket) g.rows (root_row ∷ head_row ∷ []) grows.of_bucket (refl, (refl, tt)))
          (all_append (λ row. IsTrue (is_small row.rec)) g.rows (root_row ∷ head_row ∷ []) grows.small (refl, (refl, tt)))
          (subst (λ rs. TreeFacts (nodes_of rs bucket) g.next (g.next + 1) (t.depth + 1)) (append_assoc (rows ++ g.rows) (root_row ∷ []) (head_row ∷ []) ∙ append_assoc rows g.rows (root_row ∷ head_row ∷ [])) (record {
            head = ap (λ c. c.0) (push_here bucket first 0 (version + 1) (rec.HeadImage g.next (g.next + 1) (t.depth + 1)));
            tree = tree_grown new g.next (g.next + 1) (t.depth + 1) (suc height)
                (subst (IsInner (IsSubtree height bucket new) whole) (sym there) (refl, (left.subtree, right_same.subtree)))
                (grown_more t.next g.next (reached height old t.root) (reached height mid t.root ++ reached height mid right) (reached (suc height) new g.next) w.numbers (λ n. ap (times n) reached_is))
                (λ n above. stay n (λ e. let s = some_next in let o = grows.ordered in absurd (omega (arith, s, o, above, e))) (λ e. absurd (omega (arith, above, e)))
                ∙ mid_rest n (omega (arith, above))) (omega arith) (let d = deep in omega (arith, d));
            pairs = subst (λ h. pairs_under h new g.next ≡ set (pairs_under height old t.root) key value) (let d = deep in let e : suc height ≡ (t.depth + 1) - 1 = omega (arith, d) in e)
                (ap (λ n. flat_map (pairs_under height new) (kids_of n)) there ∙ ap (λ xs. pairs_under height new t.root ++ xs) (append-nil (pairs_under height new right))
                ∙ ap (λ xs. xs ++ pairs_under height new right) left.same_pairs ∙ ap (λ xs. pairs_under height mid t.root ++ xs) right_same.same_pairs ∙ w.pairs);
          }))
        where
          first : List Row
          first = (rows ++ g.rows) ++ row_of bucket g.next 1 (rec.InnerImage (sep ∷ []) (t.root ∷ right ∷ [])) ∷ []

          new : ℕ → Content
          new = nodes_of (((rows ++ g.rows) ++ row_of bucket g.next 1 (rec.InnerImage (sep ∷ []) (t.root ∷ right ∷ [])) ∷ []) ++ row_of bucket 0 (version + 1) (rec.HeadImage g.next (g.next + 1) (t.depth + 1)) ∷ []) bucket

          stay : (n : ℕ) → n ≢ 0 → n ≢ g.next → new n ≡ mid n
          stay n other other' =
              push_other bucket first 0 (version + 1) (rec.HeadImage g.next (g.next + 1) (t.depth + 1)) n other
              ∙ push_other bucket (rows ++ g.rows) g.next 1 (rec.InnerImage (sep ∷ []) (t.root ∷ right ∷ [])) n other'

          there : (new g.next).0 ≡ node.Inner (sep ∷ []) (t.root ∷ right ∷ [])
          there =
              ap (λ c. c.0) (push_other bucket first 0 (version + 1) (rec.HeadImage g.next (g.next + 1) (t.depth + 1)) g.next (λ e. let s = some_next in let o = grows.ordered in absurd (omega (arith, s, o, e))))
              ∙ ap (λ c. c.0) (push_here bucket (rows ++ g.rows) g.next 1 (rec.InnerImage (sep ∷ []) (t.root ∷ right ∷ [])))

          both : (n : ℕ) → 1 ≤ times n (reached height mid t.root ++ reached height mid right) → new n ≡ mid n
          both n here = stay n (not_head (reached height mid t.root ++ reached height mid right) w.numbers n here) (not_next (reached height mid t.root ++ reached height mid right) w.numbers n here)

          left : SameUnder bucket mid new height (record { low = None; high = Some sep }) t.root
          left = under_stays bucket mid new height (record { low = None; high = Some sep }) t.root w.left_tree
              (λ n here. both n (let a = times-append n (reached height mid t.root) (reached height mid right) in omega (arith, a, here)))

          right_same : SameUnder bucket mid new height (record { low = Some sep; high = None }) right
          right_same = under_stays bucket mid new height (record { low = Some sep; high = None }) right w.right_tree
              (λ n here. both n (let a = times-append n (reached height mid t.root) (reached height mid right) in omega (arith, a, here)))

          reached_is : reached (suc height) new g.next ≡ g.next ∷ (reached height mid t.root ++ reached height mid right)
          reached_is = ap (λ xs. g.next ∷ xs)
              (ap (λ n. flat_map (reached height new) (kids_of n)) there ∙ ap (λ xs. reached height new t.root ++ xs) (append-nil (reached height new right))
              ∙ ap (λ xs. xs ++ reached height new right) left.same_reached ∙ ap (λ xs. reached height mid t.root ++ xs) right_same.same_reached)

    head_leaves : (s : Option (List ℕ × ℕ)) → GrownAs bucket old key value t.next height whole t.root mid g.next s
        → Leaves rows (with_head bucket version t.root t.next t.depth g.rows g.next s).rows (set (map_of rows) key value)
    unfolding with_head
    head_leaves None w = by (g.next == t.next) refl
      where
        by : (b : Bool) → (g.next == t.next) ≡ b
            → Leaves rows (cond b g.rows (g.rows ++ row_of bucket 0 (version + 1) (rec.HeadImage t.root g.next t.depth) ∷ [])) (set (map_of rows) key value)
        by true e = no_head (eqb-true g.next t.next e) w
        by false e = new_head w
    head_leaves (Some split) w = new_root split.0 split.1 w

    tree_leaves : Leaves rows (set_push bucket old (key, value) (old 0).0).rows (set (map_of rows) key value)
    unfolding set_push g height
    tree_leaves = subst (λ n. Leaves rows (set_push bucket old (key, value) n).rows (set (map_of rows) key value)) (sym t.is) (head_leaves g.split (let gr = grows.grown in gr.outcome))

pub set_law : SetLaw
set_law rows key value small sound = tree_leaves rows key value small sound (has_tree (bucket_of key) (nodes_of rows (bucket_of key)) (nodes_of rows (bucket_of key) 0).0 (sound.fit (bucket_of key) (bucket_below key)))

-- The rows that a call pushes leave sound rows, with the map of the answer.
pub pushed_law : PushedLaw
pushed_law = pushed_from_set set_law

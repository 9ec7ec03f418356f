-- The nodes that rows name, counted row by row.
use Rattle.std.proofs.Common.{◌≡◌, ℕ, suc, ◌+◌, ◌<◌, Bool, true, false, cond, ◌||◌, IsTrue, List, [], ◌∷◌, ◌++◌, map, length, take, get_or, Option, Some, None, refl, sym, ap, ◌∙◌, subst, inl, inr, arith, length-append, true≢false}
use Rattle.std.specs.Prelude.{filter, if◌then◌else◌}
use Rattle.std.specs.List.{AllByRecursion, list_any}
use Rattle.std.proofs.lemmas.List.{take_more, map-append}
use Rattle.std.proofs.lemmas.List.Folds.{list_any-append}
use Rattle.std.proofs.lemmas.List.Sums.{sum_by-append}
use Rattle.fine_model.specs.declared.NodeId.{NodeId}
use Rattle.fine_model.specs.declared.Row.{Row}
use Rattle.fine_model.specs.Nodes.{is_node}
use Rattle.fine_model.specs.Merge.{is_node_below, nodes_in, encoded_len}
use Rattle.fine_model.specs.RowBytes.{row_len}
use Rattle.fine_model.proofs.Merging.NodesIn.{times, times-nodes_in, node_cases, is_node_below-self, is_node-self, same_node}
use Rattle.fine_model.proofs.Merging.NodeOrder.{below-trans, nodes_more}
use Rattle.fine_model.proofs.Ordered.Order.{all_map}
use Rattle.fine_model.proofs.Ordered.Sets.{all_append}
use Rattle.log_partition.specs.Encoding.{names, IsGreatestOf, greater}

-- nodes below one, the node as often as it stands there, and nodes above it
abbrev below_count : NodeId → List NodeId → ℕ
below_count id ids = length (filter (λ i. is_node_below i id) ids)

abbrev above_count : NodeId → List NodeId → ℕ
above_count id ids = length (filter (λ i. is_node_below id i) ids)

parted : (id : NodeId) (ids : List NodeId) → below_count id ids + length (times id ids) + above_count id ids ≡ length ids
parted id [] = omega arith
parted id (i ∷ ids) = by (is_node id i) refl (parted id ids)
  where
    lower : List NodeId
    lower = filter (λ j. is_node_below j id) ids

    higher : List NodeId
    higher = filter (λ j. is_node_below id j) ids

    counts : (a b c : Bool) → is_node_below i id ≡ a → is_node id i ≡ b → is_node_below id i ≡ c
        → length (cond a (i ∷ lower) lower) + length (cond b (i ∷ times id ids) (times id ids)) + length (cond c (i ∷ higher) higher) ≡ suc (length ids)
        → below_count id (i ∷ ids) + length (times id (i ∷ ids)) + above_count id (i ∷ ids) ≡ suc (length ids)
    counts a b c e f g h = rw (e, f, g) h

    by : (t : Bool) → is_node id i ≡ t → below_count id ids + length (times id ids) + above_count id ids ≡ length ids → below_count id (i ∷ ids) + length (times id (i ∷ ids)) + above_count id (i ∷ ids) ≡ suc (length ids)
    by true e rest =
        let same : id ≡ i = same_node id i e in
        let a : is_node_below i id ≡ false = subst (λ k. is_node_below k id ≡ false) same (is_node_below-self id) in
        let c : is_node_below id i ≡ false = subst (λ k. is_node_below id k ≡ false) same (is_node_below-self id) in
        counts false true false a e c (omega (arith, rest))
    by false e rest = elim (node_cases id i e) [
      | inl over ↦ counts false false true over.1 e over.0 (omega (arith, rest))
      | inr under ↦ counts true false false under.0 e under.1 (omega (arith, rest))
    ]

-- the nodes of a row more are one more, or as many where the rows name its node
pub count_more : (rows : List Row) (row : Row) → length (nodes_in (rows ++ row ∷ [])) ≡ length (nodes_in rows) + (if names row.node rows then 0 else 1)
count_more rows row = by (names row.node rows) refl
  where
    ids : List NodeId
    ids = nodes_in rows

    lower : List NodeId
    lower = filter (λ i. is_node_below i row.node) ids

    higher : List NodeId
    higher = filter (λ i. is_node_below row.node i) ids

    now : length (nodes_in (rows ++ row ∷ [])) ≡ length lower + suc (length higher)
    now = ap length (nodes_more rows row) ∙ length-append lower (row.node ∷ higher)

    by : (t : Bool) → names row.node rows ≡ t → length (nodes_in (rows ++ row ∷ [])) ≡ length (nodes_in rows) + (if names row.node rows then 0 else 1)
    by true e =
        let once : length (times row.node ids) ≡ 1 = ap length (times-nodes_in row.node rows ∙ ap (λ b. cond b (row.node ∷ []) []) e) in
        let more : (if names row.node rows then 0 else 1) ≡ 0 = ap (λ b. cond {A = ℕ} b 0 1) e in omega (arith, now, once, more, parted row.node ids)
    by false e =
        let never : length (times row.node ids) ≡ 0 = ap length (times-nodes_in row.node rows ∙ ap (λ b. cond b (row.node ∷ []) []) e) in
        let more : (if names row.node rows then 0 else 1) ≡ 1 = ap (λ b. cond {A = ℕ} b 0 1) e in omega (arith, now, never, more, parted row.node ids)

-- ---- the greatest node so far

-- what is above the greatest node is named by no row
pub above_all : (g id : NodeId) (rows : List Row) → AllByRecursion (λ r. is_node_below g r.node ≡ false) rows → is_node_below g id ≡ true → names id rows ≡ false
above_all g id [] all above = refl
above_all g id (r ∷ rows) all above = by (is_node id r.node) refl (above_all g id rows all.1 above)
  where
    by : (t : Bool) → is_node id r.node ≡ t → names id rows ≡ false → names id (r ∷ rows) ≡ false
    by true e rest = absurd (true≢false (sym (subst (λ k. is_node_below g k ≡ true) (same_node id r.node e) above) ∙ all.0))
    by false e rest = ap (λ b. b || names id rows) e ∙ rest

named_more : (id : NodeId) (rows : List Row) (row : Row) → names id (rows ++ row ∷ []) ≡ (names id rows || (is_node id row.node || false))
named_more id rows row = ap (list_any (is_node id)) (map-append (λ r. r.node) rows (row ∷ [])) ∙ list_any-append (is_node id) (map (λ r. r.node) rows) (row.node ∷ [])

or_true : (a : Bool) → (a || true) ≡ true
or_true true = refl
or_true false = refl

named_last : (rows : List Row) (row : Row) → IsTrue (names row.node (rows ++ row ∷ []))
named_last rows row = named_more row.node rows row ∙ ap (λ b. names row.node rows || (b || false)) (is_node-self row.node) ∙ or_true (names row.node rows)

pub greatest_more : (rows : List Row) (row : Row) (g : Option NodeId) → IsGreatestOf rows g → IsGreatestOf (rows ++ row ∷ []) (greater g row.node)
greatest_more rows row None none = (named_last rows row, subst (λ (rs : List Row). AllByRecursion (λ r. is_node_below row.node r.node ≡ false) (rs ++ row ∷ [])) (sym none) (is_node_below-self row.node, tt))
greatest_more rows row (Some g) is = by (is_node_below g row.node) refl
  where
    by : (t : Bool) → is_node_below g row.node ≡ t → IsGreatestOf (rows ++ row ∷ []) (cond (is_node_below g row.node) (Some row.node) (Some g))
    by true e =
        let upto : AllByRecursion (λ r. is_node_below row.node r.node ≡ false) rows = all_map (λ r. is_node_below g r.node ≡ false) (λ r. is_node_below row.node r.node ≡ false) (λ r h. over r h (is_node_below row.node r.node) refl) rows is.1 in
        subst (λ t. IsGreatestOf (rows ++ row ∷ []) (cond t (Some row.node) (Some g))) (sym e) (named_last rows row, all_append (λ r. is_node_below row.node r.node ≡ false) rows (row ∷ []) upto (is_node_below-self row.node, tt))
      where
        over : (r : Row) → is_node_below g r.node ≡ false → (t : Bool) → is_node_below row.node r.node ≡ t → is_node_below row.node r.node ≡ false
        over r h false f = f
        over r h true f = absurd (true≢false (sym (below-trans g row.node r.node e f) ∙ h))
    by false e =
        subst (λ t. IsGreatestOf (rows ++ row ∷ []) (cond t (Some row.node) (Some g))) (sym e)
        (named_more g rows row ∙ ap (λ b. b || (is_node g row.node || false)) is.0, all_append (λ r. is_node_below g r.node ≡ false) rows (row ∷ []) is.1 (e, tt))

-- ---- the length so far

pub len_more : (rows : List Row) (row : Row) (entry : ℕ) → entry ≡ (if names row.node rows then 0 else 14) → encoded_len (rows ++ row ∷ []) ≡ encoded_len rows + entry + row_len row
len_more rows row entry is = by (names row.node rows) refl
  where
    by : (t : Bool) → names row.node rows ≡ t → encoded_len (rows ++ row ∷ []) ≡ encoded_len rows + entry + row_len row
    by true e =
        let a : entry ≡ 0 = is ∙ ap (λ b. cond {A = ℕ} b 0 14) e in
        let b : (if names row.node rows then 0 else 1) ≡ 0 = ap (λ b. cond {A = ℕ} b 0 1) e in omega (arith, a, b, count_more rows row, sum_by-append row_len rows (row ∷ []))
    by false e =
        let a : entry ≡ 14 = is ∙ ap (λ b. cond {A = ℕ} b 0 14) e in
        let b : (if names row.node rows then 0 else 1) ≡ 1 = ap (λ b. cond {A = ℕ} b 0 1) e in omega (arith, a, b, count_more rows row, sum_by-append row_len rows (row ∷ []))

pub next_taken : (rows : List Row) (i : ℕ) (row : Row) → i < length rows → row ≡ get_or rows i row → take (i + 1) rows ≡ take i rows ++ row ∷ []
next_taken rows i row lt at = take_more rows i row lt ∙ ap (λ r. take i rows ++ r ∷ []) (sym at)

-- What a row more does to the bytes and to the nodes.
use Rattle.std.proofs.Common.{◌≡◌, ℕ, ◌+◌, ◌*◌, ◌≤◌, Bool, true, false, cond, List, [], ◌∷◌, ◌++◌, map, length, refl, sym, ap, ◌∙◌, subst, arith, append-nil, length-append, Ordering, Less, Equal, Greater, is_lt}
use Rattle.std.specs.Prelude.{filter, fold, flat_map}
use Rattle.std.specs.List.{AllByRecursion}
use Rattle.std.specs.List.Sorted.{IsStrictlySortedBy}
use Rattle.std.specs.Ordering.{ordering_reverse, match_ordering}
use Rattle.std.specs.BTreeSet.{insert_key}
use Rattle.std.proofs.lemmas.List.{map-append}
use Rattle.std.proofs.lemmas.List.Sums.{fold-append}
use Rattle.std.proofs.lemmas.Grind.{flat_map-append}
use Rattle.fine_model.specs.declared.NodeId.{NodeId}
use Rattle.fine_model.specs.declared.Row.{Row}
use Rattle.fine_model.specs.RowBytes.{row_bytes, rows_bytes, row_len, rows_len}
use Rattle.fine_model.specs.Merge.{node_cmp, is_node_below, with_node, nodes_in, cost}
use Rattle.fine_model.proofs.Merging.NodesIn.{nodes_total, exact_nodes, is_node_below-self}
use Rattle.fine_model.proofs.Ordered.Order.{filter_all, filter_none, all_map}
use Rattle.fine_model.proofs.Chain.Grammar.{row_long, rows_long}
use Rattle.private_log.specs.Kept.{rows_in, noted, AreNoted, many_nodes, IsKept}
use Rattle.private_log.specs.declared.PrivateLog.TheInside.{Inside}

-- a node below another is below each node that is above the other
below_all : (id x : NodeId) (xs : List NodeId) → node_cmp id x ≡ Less → AllByRecursion (λ y. node_cmp x y ≡ Less) xs → AllByRecursion (λ y. node_cmp id y ≡ Less) xs
below_all id x xs h above = all_map (λ y. node_cmp x y ≡ Less) (λ y. node_cmp id y ≡ Less) (λ y xy. nodes_total.trans id x y h xy) xs above

-- where all nodes are above one, none are below it, and all are kept above
lower_none : (id : NodeId) (xs : List NodeId) → AllByRecursion (λ y. node_cmp id y ≡ Less) xs → filter (λ i. is_node_below i id) xs ≡ []
lower_none id xs above = filter_none (λ i. is_node_below i id) xs (all_map (λ y. node_cmp id y ≡ Less) (λ y. is_node_below y id ≡ false) (λ y h. ap is_lt (nodes_total.antisymm y id ∙ ap ordering_reverse h)) xs above)

higher_all : (id : NodeId) (xs : List NodeId) → AllByRecursion (λ y. node_cmp id y ≡ Less) xs → filter (λ i. is_node_below id i) xs ≡ xs
higher_all id xs above = filter_all (λ i. is_node_below id i) xs (all_map (λ y. node_cmp id y ≡ Less) (λ y. is_node_below id y ≡ true) (λ y h. ap is_lt h) xs above)

-- a key that is put into a set in order is a node that is set among nodes in order
pub insert-with_node : (ids : List NodeId) (id : NodeId) → IsStrictlySortedBy node_cmp ids → insert_key node_cmp ids id ≡ with_node ids id
unfolding IsStrictlySortedBy
insert-with_node [] id sorted = refl
insert-with_node (x ∷ xs) id sorted = by (node_cmp id x) refl (nodes_total.antisymm x id) (insert-with_node xs id sorted.1)
  where
    putting : Ordering → List NodeId
    putting o = match_ordering o (id ∷ x ∷ xs) (x ∷ xs) (x ∷ insert_key node_cmp xs id)

    joined : Bool → List NodeId → Bool → List NodeId → List NodeId
    joined lower below higher above = cond lower (x ∷ below) below ++ id ∷ cond higher (x ∷ above) above

    set_at : (lower higher : Bool) → is_node_below x id ≡ lower → is_node_below id x ≡ higher → with_node (x ∷ xs) id ≡ joined lower (filter (λ i. is_node_below i id) xs) higher (filter (λ i. is_node_below id i) xs)
    set_at lower higher l h =
        ap (λ b. joined b (filter (λ i. is_node_below i id) xs) (is_node_below id x) (filter (λ i. is_node_below id i) xs)) l
        ∙ ap (λ b. joined lower (filter (λ i. is_node_below i id) xs) b (filter (λ i. is_node_below id i) xs)) h

    less : node_cmp id x ≡ Less → node_cmp x id ≡ ordering_reverse (node_cmp id x) → with_node (x ∷ xs) id ≡ id ∷ x ∷ xs
    less e back =
        let above : AllByRecursion (λ y. node_cmp id y ≡ Less) xs = below_all id x xs e sorted.0 in
        set_at false true (ap is_lt (back ∙ ap ordering_reverse e)) (ap is_lt e)
        ∙ ap (λ ys. ys ++ id ∷ x ∷ filter (λ i. is_node_below id i) xs) (lower_none id xs above)
        ∙ ap (λ ys. id ∷ x ∷ ys) (higher_all id xs above)

    equal : id ≡ x → with_node (x ∷ xs) id ≡ x ∷ xs
    equal same =
        let above : AllByRecursion (λ y. node_cmp id y ≡ Less) xs = subst (λ k. AllByRecursion (λ y. node_cmp k y ≡ Less) xs) (sym same) sorted.0 in
        set_at false false (subst (λ k. is_node_below x k ≡ false) (sym same) (is_node_below-self x)) (subst (λ k. is_node_below k x ≡ false) (sym same) (is_node_below-self x))
        ∙ ap (λ ys. ys ++ id ∷ filter (λ i. is_node_below id i) xs) (lower_none id xs above)
        ∙ ap (λ ys. id ∷ ys) (higher_all id xs above)
        ∙ ap (λ k. k ∷ xs) same

    greater : node_cmp id x ≡ Greater → node_cmp x id ≡ ordering_reverse (node_cmp id x) → with_node (x ∷ xs) id ≡ x ∷ with_node xs id
    greater e back = set_at true false (ap is_lt (back ∙ ap ordering_reverse e)) (ap is_lt e)

    by : (o : Ordering) → node_cmp id x ≡ o → node_cmp x id ≡ ordering_reverse (node_cmp id x) → insert_key node_cmp xs id ≡ with_node xs id → insert_key node_cmp (x ∷ xs) id ≡ with_node (x ∷ xs) id
    by Less e back rest = ap putting e ∙ sym (less e back)
    by Equal e back rest = ap putting e ∙ sym (equal (exact_nodes id x e))
    by Greater e back rest = ap putting e ∙ ap (λ ys. x ∷ ys) rest ∙ sym (greater e back)

-- the bytes of one row more
pub bytes_more : (rows : List Row) (row : Row) → rows_bytes (rows ++ row ∷ []) ≡ rows_bytes rows ++ row_bytes row
unfolding rows_bytes
bytes_more rows row = flat_map-append row_bytes rows (row ∷ []) ∙ ap (λ bytes. flat_map row_bytes rows ++ bytes) (append-nil (row_bytes row))

-- the nodes of one row more
pub nodes_more : (rows : List Row) (row : Row) → nodes_in (rows ++ row ∷ []) ≡ with_node (nodes_in rows) row.node
unfolding nodes_in
nodes_more rows row = ap (fold with_node []) (map-append (λ r. r.node) rows (row ∷ [])) ∙ fold-append with_node [] (map (λ r. r.node) rows) (row.node ∷ [])

-- a set has at most one key more
insert_few : (ids : List NodeId) (id : NodeId) → length (insert_key node_cmp ids id) ≤ length ids + 1
insert_few [] id = omega arith
insert_few (x ∷ xs) id = by (node_cmp id x) (insert_few xs id)
  where
    by : (o : Ordering) → length (insert_key node_cmp xs id) ≤ length xs + 1 → length (match_ordering o (id ∷ x ∷ xs) (x ∷ xs) (x ∷ insert_key node_cmp xs id)) ≤ length (x ∷ xs) + 1
    by Less rest = omega arith
    by Equal rest = omega arith
    by Greater rest = omega arith

-- with no rows there is nothing
pub kept_empty : (log : Inside) → log.bytes.items ≡ [] → log.nodes.keys ≡ [] → log.rows.items ≡ [] → IsStrictlySortedBy node_cmp log.nodes.keys → IsKept log
unfolding rows_bytes
kept_empty log bytes nodes rows order = record {
  bytes = bytes ∙ sym (ap rows_bytes rows);
  nodes = subst (λ rs. AreNoted log.nodes.keys rs (length log.bytes.items)) (sym rows) nodes;
  order = order;
}

-- the nodes of one row more
noted_more : (rows : List Row) (row : Row) (keys keys' : List NodeId) (long long' : ℕ) → AreNoted keys rows long → IsStrictlySortedBy node_cmp keys → keys' ≡ noted keys rows row.node → long' ≡ long + row_len row → AreNoted keys' (rows ++ row ∷ []) long'
unfolding nodes_in IsStrictlySortedBy
noted_more [] row keys keys' long long' kept order is longer = (is ∙ kept, omega (arith, longer))
noted_more (first ∷ []) row keys keys' long long' kept order is longer =
    let two : keys' ≡ nodes_in (first ∷ row ∷ []) = is ∙ insert-with_node (first.node ∷ []) row.node (tt, tt) in
    let most : length (insert_key node_cmp (first.node ∷ []) row.node) ≤ 2 = insert_few (first.node ∷ []) row.node in
    let more : length keys' ≡ length (insert_key node_cmp (first.node ∷ []) row.node) = ap length is in
    let enough = kept.1 in
    (two, omega (arith, longer, most, more, enough))
noted_more (first ∷ second ∷ rows) row keys keys' long long' kept order is longer =
    let most : length (insert_key node_cmp keys row.node) ≤ length keys + 1 = insert_few keys row.node in
    let more : length keys' ≡ length (insert_key node_cmp keys row.node) = ap length is in
    let enough = kept.1 in
    (is ∙ insert-with_node keys row.node order ∙ ap (λ ids. with_node ids row.node) kept.0 ∙ sym (nodes_more (first ∷ second ∷ rows) row), omega (arith, longer, most, more, enough))

-- a row more: its bytes are at the end, and its node is noted
pub kept_more : (old new : Inside) (row : Row) → IsKept old → new.bytes.items ≡ old.bytes.items ++ row_bytes row
    → new.nodes.keys ≡ noted old.nodes.keys (rows_in old) row.node → IsStrictlySortedBy node_cmp new.nodes.keys
    → rows_in new ≡ rows_in old ++ row ∷ [] → IsKept new
kept_more old new row kept bytes nodes order rows =
    let longer : length new.bytes.items ≡ length old.bytes.items + row_len row = ap length bytes ∙ length-append old.bytes.items (row_bytes row) ∙ ap (λ n. length old.bytes.items + n) (row_long row) in
    record {
      bytes = bytes ∙ ap (λ xs. xs ++ row_bytes row) kept.bytes ∙ sym (bytes_more (rows_in old) row) ∙ sym (ap rows_bytes rows);
      nodes = subst (λ rs. AreNoted new.nodes.keys rs (length new.bytes.items)) (sym rows) (noted_more (rows_in old) row old.nodes.keys new.nodes.keys (length old.bytes.items) (length new.bytes.items) kept.nodes kept.order nodes longer);
      order = order;
    }

-- what the rows cost, by the lengths of what is kept
pub cost_kept : (log : Inside) → IsKept log → (length log.bytes.items + 14 * many_nodes log.nodes.keys (rows_in log) ≡ cost (rows_in log)) × (19 * many_nodes log.nodes.keys (rows_in log) ≤ length log.bytes.items)
unfolding nodes_in
cost_kept log kept =
    let bytes : length log.bytes.items ≡ rows_len (rows_in log) = ap length kept.bytes ∙ rows_long (rows_in log) in
    let nodes = by (rows_in log) kept.nodes in
    let same = nodes.0 in (omega (arith, bytes, same), nodes.1)
  where
    by : (rows : List Row) → AreNoted log.nodes.keys rows (length log.bytes.items) → (many_nodes log.nodes.keys rows ≡ length (nodes_in rows)) × (19 * many_nodes log.nodes.keys rows ≤ length log.bytes.items)
    by [] noted = (refl, omega arith)
    by (row ∷ []) noted = let enough = noted.1 in (refl, omega (arith, enough))
    by (first ∷ second ∷ rows) noted = (ap length noted.0, noted.1)

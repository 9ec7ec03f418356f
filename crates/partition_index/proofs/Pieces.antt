-- The index of rows that stand node by node.
use Rattle.std.proofs.Common.{◌≡◌, ◌+◌, ◌≤◌, true, false, List, [], ◌∷◌, ◌++◌, map, length, refl, sym, ap, ◌∙◌, subst, arith, append_assoc, append-nil}
use Rattle.std.specs.Prelude.{filter, fold, flat_map}
use Rattle.std.specs.List.{AllByRecursion}
use Rattle.std.proofs.lemmas.List.{map-append}
use Rattle.std.proofs.lemmas.List.Elements.{filter-append}
use Rattle.std.proofs.lemmas.List.Sums.{fold-append, sum_by-append}
use Rattle.fine_model.specs.declared.NodeId.{NodeId}
use Rattle.fine_model.specs.declared.Row.{Row}
use Rattle.fine_model.specs.Nodes.{is_node, rows_of}
use Rattle.fine_model.specs.RowBytes.{row_len, rows_len}
use Rattle.fine_model.specs.Merge.{is_node_below, with_node, nodes_in}
use Rattle.fine_model.proofs.Merging.NodesIn.{is_node_below-self, is_node-self}
use Rattle.fine_model.proofs.Ordered.Order.{filter_all, filter_none, all_map}
use Rattle.partition_index.specs.Entries.{entry_for, bytes_of}
use Rattle.partition_index.specs.Index.{entries_of, IsNextNode, AreNextNodes, entry_at, entries_from, rows_in, NextNodeLaw, PiecesLaw}
use Rattle.partition_index.specs.declared.entries.IndexEntry.{IndexEntry}
use Rattle.partition_index.proofs.NodeOrder.{AllBelow, below-asym, below-other, with_above, with_last}
use Rattle.partition_index.proofs.Sorted.{nodes_all}
use Rattle.partition_index.proofs.Bytes.{index_is}

-- a node more, however many rows it has
same_nodes : (ids : List NodeId) (id : NodeId) (own : List Row) → AllBelow id ids → AllByRecursion (λ r. r.node ≡ id) own → fold with_node (ids ++ id ∷ []) (map (λ r. r.node) own) ≡ ids ++ id ∷ []
same_nodes ids id [] below all = refl
same_nodes ids id (r ∷ own) below all =
    ap (λ i. fold with_node (with_node (ids ++ id ∷ []) i) (map (λ r. r.node) own)) all.0 ∙ ap (λ xs. fold with_node xs (map (λ r. r.node) own)) (with_last ids id below) ∙ same_nodes ids id own below all.1

one_node : (ids : List NodeId) (id : NodeId) (own : List Row) → 1 ≤ length own → AllBelow id ids → AllByRecursion (λ r. r.node ≡ id) own → fold with_node ids (map (λ r. r.node) own) ≡ ids ++ id ∷ []
one_node ids id [] some below all = absurd (omega (arith, some))
one_node ids id (r ∷ own) some below all =
    ap (λ i. fold with_node (with_node ids i) (map (λ r. r.node) own)) all.0 ∙ ap (λ xs. fold with_node xs (map (λ r. r.node) own)) (with_above ids id below) ∙ same_nodes ids id own below all.1

module _ (rows : List Row) (id : NodeId) (own : List Row) (next : IsNextNode rows id own) where
  lower : AllBelow id (nodes_in rows)
  lower = nodes_all (λ i. is_node_below i id ≡ true) rows next.below

  nodes_now : nodes_in (rows ++ own) ≡ nodes_in rows ++ id ∷ []
  unfolding nodes_in
  nodes_now =
      ap (fold with_node []) (map-append (λ r. r.node) rows own) ∙ fold-append with_node [] (map (λ r. r.node) rows) (map (λ r. r.node) own)
      ∙ one_node (fold with_node [] (map (λ r. r.node) rows)) id own next.some lower next.all_own

  -- the entries of the lower nodes stay
  entry_stays : (j : NodeId) → is_node_below j id ≡ true → entry_for (rows ++ own) j ≡ entry_for rows j
  entry_stays j low =
      let none : filter (λ r. is_node_below r.node j) own ≡ [] = filter_none (λ r. is_node_below r.node j) own
      (all_map (λ r. r.node ≡ id) (λ r. is_node_below r.node j ≡ false) (λ r e. subst (λ k. is_node_below k j ≡ false) (sym e) (below-asym j id low)) own next.all_own) in
      let none' : rows_of j own ≡ [] = filter_none (λ r. is_node j r.node) own
      (all_map (λ r. r.node ≡ id) (λ r. is_node j r.node ≡ false) (λ r e. subst (λ k. is_node j k ≡ false) (sym e) (below-other j id low).0) own next.all_own) in
      let a = ap rows_len (filter-append (λ r. is_node_below r.node j) rows own ∙ ap (λ xs. filter (λ r. is_node_below r.node j) rows ++ xs) none ∙ append-nil (filter (λ r. is_node_below r.node j) rows)) in
      let b : length (rows_of j (rows ++ own)) ≡ length (rows_of j rows) = ap length (filter-append (λ r. is_node j r.node) rows own ∙ ap (λ xs. rows_of j rows ++ xs) none' ∙ append-nil (rows_of j rows)) in
      λ k. record { node = j; offset = a k; rows = b k }

  entries_stay : (ids : List NodeId) → AllBelow id ids → map (entry_for (rows ++ own)) ids ≡ map (entry_for rows) ids
  entries_stay [] below = refl
  entries_stay (j ∷ ids) below = let a = entry_stays j below.0 in let b = entries_stay ids below.1 in λ k. a k ∷ b k

  entry_now : entry_for (rows ++ own) id ≡ entry_at (rows_len rows) id own
  entry_now =
      let all : filter (λ r. is_node_below r.node id) rows ≡ rows = filter_all (λ r. is_node_below r.node id) rows next.below in
      let none : filter (λ r. is_node_below r.node id) own ≡ [] = filter_none (λ r. is_node_below r.node id) own
      (all_map (λ r. r.node ≡ id) (λ r. is_node_below r.node id ≡ false) (λ r e. subst (λ k. is_node_below k id ≡ false) (sym e) (is_node_below-self id)) own next.all_own) in
      let none' : rows_of id rows ≡ [] = filter_none (λ r. is_node id r.node) rows
      (all_map (λ r. is_node_below r.node id ≡ true) (λ r. is_node id r.node ≡ false) (λ r h. (below-other r.node id h).1) rows next.below) in
      let all' : rows_of id own ≡ own = filter_all (λ r. is_node id r.node) own
      (all_map (λ r. r.node ≡ id) (λ r. is_node id r.node ≡ true) (λ r e. subst (λ k. is_node id k ≡ true) (sym e) (is_node-self id)) own next.all_own) in
      let a : rows_len (filter (λ r. is_node_below r.node id) (rows ++ own)) ≡ rows_len rows = ap rows_len (filter-append (λ r. is_node_below r.node id) rows own ∙ (λ k. all k ++ none k) ∙ append-nil rows) in
      let b : length (rows_of id (rows ++ own)) ≡ length own = ap length (filter-append (λ r. is_node id r.node) rows own ∙ (λ k. none' k ++ all' k)) in
      λ k. record { node = id; offset = a k; rows = b k }

  entries_now : entries_of (rows ++ own) ≡ entries_of rows ++ entry_at (rows_len rows) id own ∷ []
  unfolding entries_of
  entries_now =
      ap (map (entry_for (rows ++ own))) nodes_now ∙ map-append (entry_for (rows ++ own)) (nodes_in rows) (id ∷ [])
      ∙ ap (λ es. es ++ entry_for (rows ++ own) id ∷ []) (entries_stay (nodes_in rows) lower) ∙ ap (λ e. map (entry_for rows) (nodes_in rows) ++ e ∷ []) entry_now

bytes_joined : (es fs : List IndexEntry) → flat_map bytes_of (es ++ fs) ≡ flat_map bytes_of es ++ flat_map bytes_of fs
bytes_joined [] fs = refl
bytes_joined (e ∷ es) fs = ap (λ t. bytes_of e ++ t) (bytes_joined es fs) ∙ sym (append_assoc (bytes_of e) (flat_map bytes_of es) (flat_map bytes_of fs))

pub next_node : NextNodeLaw
next_node rows id own next =
    let entry : IndexEntry = entry_at (rows_len rows) id own in
    record {
      nodes = nodes_now rows id own next;
      entries = entries_now rows id own next;
      bytes = sym (index_is (rows ++ own)) ∙ ap (flat_map bytes_of) (entries_now rows id own next) ∙ bytes_joined (entries_of rows) (entry ∷ [])
          ∙ (λ i. index_is rows i ++ append-nil (bytes_of entry) i);
    }

-- the nodes that follow on rows
pub record Follow (rows : List Row) (pieces : List (NodeId × List Row)) : Type 0 where
  pub nodes : nodes_in (rows ++ rows_in pieces) ≡ nodes_in rows ++ map (λ piece. piece.0) pieces
  pub entries : entries_of (rows ++ rows_in pieces) ≡ entries_of rows ++ entries_from (rows_len rows) pieces

follow : (rows : List Row) (pieces : List (NodeId × List Row)) → AreNextNodes rows pieces → Follow rows pieces
unfolding entries_from
follow rows [] are = record {
  nodes = ap nodes_in (append-nil rows) ∙ sym (append-nil (nodes_in rows));
  entries = ap entries_of (append-nil rows) ∙ sym (append-nil (entries_of rows));
}
follow rows (piece ∷ pieces) are =
    let next = next_node rows piece.0 piece.1 are.0 in
    let rest = follow (rows ++ piece.1) pieces are.1 in
    let cut : rows ++ (piece.1 ++ rows_in pieces) ≡ (rows ++ piece.1) ++ rows_in pieces = sym (append_assoc rows piece.1 (rows_in pieces)) in
    let len : rows_len (rows ++ piece.1) ≡ rows_len rows + rows_len piece.1 = sum_by-append row_len rows piece.1 in
    record {
      nodes = ap nodes_in cut ∙ rest.nodes ∙ ap (λ ids. ids ++ map (λ piece. piece.0) pieces) next.nodes ∙ append_assoc (nodes_in rows) (piece.0 ∷ []) (map (λ piece. piece.0) pieces);
      entries = ap entries_of cut ∙ rest.entries ∙ ap (λ es. es ++ entries_from (rows_len (rows ++ piece.1)) pieces) next.entries
          ∙ append_assoc (entries_of rows) (entry_at (rows_len rows) piece.0 piece.1 ∷ []) (entries_from (rows_len (rows ++ piece.1)) pieces)
          ∙ ap (λ n. entries_of rows ++ (entry_at (rows_len rows) piece.0 piece.1 ∷ entries_from n pieces)) len;
    }

pub in_pieces : PiecesLaw
unfolding entries_of nodes_in
in_pieces pieces are =
    let f = follow [] pieces are in
    record { nodes = f.nodes; entries = f.entries; bytes = sym (index_is (rows_in pieces)) ∙ ap (flat_map bytes_of) f.entries }

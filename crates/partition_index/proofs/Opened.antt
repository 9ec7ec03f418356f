-- The index of rows so far: the entries that are whole, and the last one.
use Rattle.std.proofs.Common.{◌≡◌, ◌⊎◌, ℕ, suc, ◌+◌, ◌<◌, ◌≤◌, get_or, take, drop, length-take, Bool, true, false, cond, not, IsTrue, List, [], ◌∷◌, ◌++◌, map, length, refl, sym, ap, ◌∙◌, subst, inl, inr, arith, append_assoc, Option, Some, None, Ordering, Less, Equal, Greater, is_lt, nat_cmp}
use Rattle.std.specs.Prelude.{IfSome}
use Rattle.std.specs.List.{AllByRecursion}
use Rattle.std.specs.Ordering.{ordering_then}
use Rattle.std.proofs.lemmas.Bool.{true≢false}
use Rattle.std.proofs.lemmas.List.{map-append, take_more, get_or-map}
use Rattle.std.proofs.lemmas.List.Sums.{length-filter, count_by-le-length, sum_by_more, sum_by-cons}
use Rattle.std.proofs.Math.Seq.{split_at}
use Rattle.fine_model.specs.declared.NodeId.{NodeId}
use Rattle.fine_model.specs.declared.Row.{Row}
use Rattle.fine_model.specs.Nodes.{is_node, rows_of}
use Rattle.fine_model.specs.RowBytes.{row_len, rows_len}
use Rattle.fine_model.specs.Merge.{node_cmp, is_node_below, is_row_below, with_node, nodes_in}
use Rattle.fine_model.proofs.Merging.NodesIn.{is_node_below-self, is_node-self, same_node}
use Rattle.fine_model.proofs.Ordered.Order.{all_map, first_of_both}
use Rattle.partition_index.specs.Entries.{entry_for}
use Rattle.partition_index.specs.Index.{is_rising, entries_of, opened, closed, first_of}
use Rattle.partition_index.specs.declared.entries.IndexEntry.{IndexEntry}
use Rattle.partition_index.specs.Indexer.{BuiltTo, IsBuilt}
use Rattle.partition_index.proofs.NodeOrder.{AllBelow, below-trans, below-asym, above_or_same, not_above_below, nodes_more, with_above, with_last, entries_kept, entry_counts, entry_begins}

pub built_index : (rows : List Row) (whole : List IndexEntry) (open_entry : Option IndexEntry) → IsBuilt rows whole open_entry → closed whole open_entry ≡ entries_of rows
unfolding entries_of nodes_in
built_index rows whole None b = b.1 ∙ sym (ap (λ rs. map (entry_for rs) (nodes_in rs)) b.0)
built_index rows whole (Some e) b =
    ap (λ xs. xs ++ e ∷ []) b.are ∙ ap (λ x. map (entry_for rows) b.below ++ x ∷ []) b.is
    ∙ sym (ap (map (entry_for rows)) b.nodes ∙ map-append (entry_for rows) b.below (e.node ∷ []))

not_lt : (o p : Ordering) → not (is_lt (ordering_then o p)) ≡ true → is_lt o ≡ false
not_lt Less p h = absurd (true≢false (sym h))
not_lt Equal p h = refl
not_lt Greater p h = refl

-- in rows that rise, no row's node is below that of the row before it
pub rising_at : (front : List Row) (r s : Row) (back : List Row) → IsTrue (is_rising (front ++ r ∷ s ∷ back)) → is_node_below s.node r.node ≡ false
rising_at [] r s back up = not_lt (node_cmp s.node r.node) (nat_cmp s.version r.version) (first_of_both (not (is_row_below s r)) (is_rising (s ∷ back)) up).0
rising_at (x ∷ []) r s back up = rising_at [] r s back (first_of_both (not (is_row_below r x)) (is_rising (r ∷ s ∷ back)) up).1
rising_at (x ∷ y ∷ front) r s back up = rising_at (y ∷ front) r s back (first_of_both (not (is_row_below y x)) (is_rising (y ∷ front ++ r ∷ s ∷ back)) up).1

all_more : (P : Row → Type 0) (rows : List Row) (row : Row) → AllByRecursion P rows → P row → AllByRecursion P (rows ++ row ∷ [])
all_more P [] row all here = (here, tt)
all_more P (r ∷ rows) row all here = (all.0, all_more P rows row all.1 here)

nodes_below_more : (id : NodeId) (ids : List NodeId) (i : NodeId) → AllBelow id ids → is_node_below i id ≡ true → AllBelow id (ids ++ i ∷ [])
nodes_below_more id [] i all here = (here, tt)
nodes_below_more id (j ∷ ids) i all here = (all.0, nodes_below_more id ids i all.1 here)

-- a row more of the last node
same_last : (rows : List Row) (row : Row) (whole : List IndexEntry) (e : IndexEntry) → BuiltTo rows whole e → e.node ≡ row.node
    → BuiltTo (rows ++ row ∷ []) whole (record { node = e.node; offset = e.offset; rows = e.rows + 1 })
same_last rows row whole e b same =
    let below_row : AllBelow row.node b.below = subst (λ k. AllBelow k b.below) same b.ascend in record {
      below = b.below;
      nodes = nodes_more rows row ∙ ap (λ ids. with_node ids row.node) b.nodes ∙ ap (with_node (b.below ++ e.node ∷ [])) (sym same) ∙ with_last b.below e.node b.ascend;
      ascend = b.ascend;
      upto = all_more (λ r. is_node_below e.node r.node ≡ false) rows row b.upto (subst (λ k. is_node_below e.node k ≡ false) same (is_node_below-self e.node));
      are = b.are ∙ sym (entries_kept rows row b.below below_row);
      is = ap (λ x. record { node = e.node; offset = x.offset; rows = x.rows + 1 }) b.is ∙ sym (entry_counts rows row e.node (sym same));
      front = rows;
      row = row;
      ends = refl;
      of_row = sym same;
    }

-- the first row of a node above all others
first_last : (rows : List Row) (row : Row) (whole : List IndexEntry) → (ids : List NodeId) → nodes_in rows ≡ ids → AllBelow row.node ids → whole ≡ map (entry_for rows) ids
    → AllByRecursion (λ r. is_node_below r.node row.node ≡ true) rows → BuiltTo (rows ++ row ∷ []) whole (first_of row.node (rows_len rows))
first_last rows row whole ids nodes below are under = record {
  below = ids;
  nodes = nodes_more rows row ∙ ap (λ xs. with_node xs row.node) nodes ∙ with_above ids row.node below;
  ascend = below;
  upto = all_more (λ r. is_node_below row.node r.node ≡ false) rows row (all_map (λ r. is_node_below r.node row.node ≡ true) (λ r. is_node_below row.node r.node ≡ false) (λ r h. below-asym r.node row.node h) rows under) (is_node_below-self row.node);
  are = are ∙ sym (entries_kept rows row ids below);
  is = sym (entry_begins rows row under);
  front = rows;
  row = row;
  ends = refl;
  of_row = refl;
}

other_last : (rows : List Row) (row : Row) (whole : List IndexEntry) (e : IndexEntry) → BuiltTo rows whole e → is_node_below e.node row.node ≡ true
    → BuiltTo (rows ++ row ∷ []) (whole ++ e ∷ []) (first_of row.node (rows_len rows))
other_last rows row whole e b above =
    first_last rows row (whole ++ e ∷ []) (b.below ++ e.node ∷ []) b.nodes
    (nodes_below_more row.node b.below e.node (all_map (λ i. is_node_below i e.node ≡ true) (λ i. is_node_below i row.node ≡ true) (λ i h. below-trans i e.node row.node h above) b.below b.ascend) above)
    (ap (λ xs. xs ++ e ∷ []) b.are ∙ ap (λ x. map (entry_for rows) b.below ++ x ∷ []) b.is ∙ sym (map-append (entry_for rows) b.below (e.node ∷ [])))
    (all_map (λ r. is_node_below e.node r.node ≡ false) (λ r. is_node_below r.node row.node ≡ true) (λ r h. not_above_below r.node e.node row.node h above) rows b.upto)

-- a row more
pub built_more : (rows : List Row) (row : Row) (back : List Row) (whole : List IndexEntry) (last : Option IndexEntry) → IsBuilt rows whole last → IsTrue (is_rising (rows ++ row ∷ back))
    → BuiltTo (rows ++ row ∷ []) (opened whole last row.node (rows_len rows)).0 (opened whole last row.node (rows_len rows)).1
unfolding nodes_in
built_more rows row back whole None b up =
    subst (λ rs. BuiltTo (rs ++ row ∷ []) whole (first_of row.node (rows_len rs))) (sym b.0) (first_last [] row whole [] refl tt b.1 tt)
built_more rows row back whole (Some e) b up = by (is_node e.node row.node) refl
  where
    up_here : IsTrue (is_rising (b.front ++ b.row ∷ row ∷ back))
    up_here = subst (λ rs. IsTrue (is_rising rs)) (ap (λ rs. rs ++ row ∷ back) b.ends ∙ append_assoc b.front (b.row ∷ []) (row ∷ back)) up

    not_below : is_node_below row.node e.node ≡ false
    not_below = subst (λ k. is_node_below row.node k ≡ false) b.of_row (rising_at b.front b.row row back up_here)

    after : Bool → List IndexEntry × IndexEntry
    after t = cond t (whole, record { node = e.node; offset = e.offset; rows = e.rows + 1 }) (whole ++ e ∷ [], first_of row.node (rows_len rows))

    by : (t : Bool) → is_node e.node row.node ≡ t → BuiltTo (rows ++ row ∷ []) (after (is_node e.node row.node)).0 (after (is_node e.node row.node)).1
    by true h = subst (λ t. BuiltTo (rows ++ row ∷ []) (after t).0 (after t).1) (sym h) (same_last rows row whole e b (same_node e.node row.node h))
    by false h = subst (λ t. BuiltTo (rows ++ row ∷ []) (after t).0 (after t).1) (sym h) (other_last rows row whole e b (above h (above_or_same e.node row.node not_below)))
      where
        above : is_node e.node row.node ≡ false → (is_node_below e.node row.node ≡ true) ⊎ (e.node ≡ row.node) → is_node_below e.node row.node ≡ true
        above f (inl p) = p
        above f (inr same) = absurd (true≢false (sym (subst (λ k. is_node e.node k ≡ true) same (is_node-self e.node)) ∙ f))

-- a row more, by its place among all rows
pub built_next : (rows : List Row) (i : ℕ) (row : Row) (whole whole' : List IndexEntry) (last : Option IndexEntry) (e : IndexEntry) (offset : ℕ) → i < length rows → row ≡ get_or rows i row → IsTrue (is_rising rows)
    → offset ≡ rows_len (take i rows) → IsBuilt (take i rows) whole last → (whole', e) ≡ opened whole last row.node offset → BuiltTo (take (i + 1) rows) whole' e
built_next rows i row whole whole' last e offset here is up o b next =
    let cut : rows ≡ take i rows ++ row ∷ drop (suc i) rows = split_at rows i row here ∙ ap (λ r. take i rows ++ r ∷ drop (suc i) rows) (sym is) in
    let more : take (i + 1) rows ≡ take i rows ++ row ∷ [] = take_more rows i row here ∙ ap (λ r. take i rows ++ r ∷ []) (sym is) in
    let built = built_more (take i rows) row (drop (suc i) rows) whole last b (subst (λ rs. IsTrue (is_rising rs)) cut up) in
    let at : BuiltTo (take i rows ++ row ∷ []) (opened whole last row.node offset).0 (opened whole last row.node offset).1 = subst (λ n. BuiltTo (take i rows ++ row ∷ []) (opened whole last row.node n).0 (opened whole last row.node n).1) (sym o) built in
    subst (λ rs. BuiltTo rs whole' e) (sym more) (subst (λ p. BuiltTo (take i rows ++ row ∷ []) p.0 p.1) (sym next) at)

-- there are no more rows than bytes of them
pub few_rows : (rows : List Row) → length rows ≤ rows_len rows
few_rows [] = omega arith
few_rows (r ∷ rows) = omega (arith, sum_by-cons row_len r rows, few_rows rows)

-- so the last entry has room for one more
pub last_counts : (rows : List Row) (i : ℕ) (whole : List IndexEntry) (last : Option IndexEntry) → i < length rows → rows_len rows < 4294967296 → IsBuilt (take i rows) whole last → IfSome last (λ e. e.rows < 4294967295)
last_counts rows i whole None here small b = tt
last_counts rows i whole (Some e) here small b =
    let counted : e.rows ≡ length (rows_of e.node (take i rows)) = ap (λ x. x.rows) b.is in
    omega (arith, few_rows rows, counted, length-filter (λ row. is_node e.node row.node) (take i rows), count_by-le-length (λ row. is_node e.node row.node) (take i rows), length-take i rows)

-- the bytes of a row more
pub offset_next : (rows : List Row) (lens : List ℕ) (i offset : ℕ) → i < length rows → lens ≡ map row_len rows → offset ≡ rows_len (take i rows) → offset + get_or lens i 0 ≡ rows_len (take (i + 1) rows)
offset_next [] lens i offset here l o = absurd (omega (arith, here))
offset_next (r ∷ rows) lens i offset here l o =
    let a = sum_by_more row_len (r ∷ rows) i r here in
    let b : get_or lens i 0 ≡ row_len (get_or (r ∷ rows) i r) = ap (λ ls. get_or ls i 0) l ∙ get_or-map row_len (r ∷ rows) i r 0 here in
    omega (arith, a, b, o)

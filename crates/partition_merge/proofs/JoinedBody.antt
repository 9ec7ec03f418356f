-- The body of joined lists of rows that are in order.
use Rattle.std.proofs.Common.{◌≡◌, inl, inr, ℕ, ◌+◌, ◌*◌, ◌<◌, ◌≤◌, min, true, false, Bool, ◌&&◌, ◌||◌, IsTrue, List, [], ◌∷◌, ◌++◌, length, Some, None, refl, sym, ap, ◌∙◌, subst, arith, true≢false, append-nil, append_assoc, length-append}
use Rattle.std.specs.Prelude.{Option, sum_by}
use Rattle.std.specs.List.{AllByRecursion}
use Rattle.std.proofs.lemmas.List.Sums.{sum_by-append, sum_by-cons}
use Rattle.fine_model.specs.declared.Mark.{Mark}
use Rattle.fine_model.specs.declared.Mark.TheVariants as mark
use Rattle.fine_model.specs.declared.NodeId.{NodeId}
use Rattle.fine_model.specs.declared.Row.{Row}
use Rattle.fine_model.specs.Merge.{is_node_below, is_ordered, merged, nodes_in}
use Rattle.fine_model.specs.Nodes.{is_node, rows_of}
use Rattle.fine_model.specs.Regions.{Image, body_bytes, index_bytes}
use Rattle.fine_model.specs.RowBytes.{FitsRow, row_len, rows_bytes, rows_len, index_entry}
use Rattle.fine_model.proofs.Merging.FitMerged.{merged_fits}
use Rattle.fine_model.proofs.Chain.Grammar.{rows_long}
use Rattle.fine_model.proofs.Merging.NodeOrder.{above_or_same, below-asym, below-trans}
use Rattle.fine_model.proofs.Merging.NodesIn.{is_node-self, is_node_below-self}
use Rattle.fine_model.proofs.Ordered.Order.{all_map, filter_all}
use Rattle.fine_model.proofs.Chain.Owning.{mark_fits}
use Rattle.fine_model.proofs.Ordered.Sets.{all_append}
use Rattle.fine_model.proofs.Ordered.Zip.{all_left}
use Rattle.partition_index.specs.Entries.{bytes_of}
use Rattle.partition_index.specs.Index.{entry_at}
use Rattle.partition_index.proofs.Opened.{few_rows}
use Rattle.partition_index.proofs.Pieces.{next_node}
use Rattle.partition_merge.specs.declared.merger.Measure.{Measure}
use Rattle.partition_merge.specs.declared.merger.Merger.{Merger}
use Rattle.partition_merge.specs.declared.merger.Source.{Source}
use Rattle.partition_merge.specs.Merging.{follows, last_node, merged_of}
use Rattle.partition_merge.specs.Mergers.{IsJoinOf, IsMeasureOf, JoinsAll, TakesRows, all_of, are_apart, measure_of}
use Rattle.partition_merge.specs.Joined.{IsJoinedBody, index_from}
use Rattle.partition_merge.proofs.Ascending.{last_own}
use Rattle.partition_merge.proofs.Joining.{AreOwn, entry_is, join_own, taken_own}
use Rattle.partition_merge.proofs.Nodes.{lowest_first, merged_all, names, rest_of}
use Rattle.partition_merge.proofs.ToldJoins.{merged_nothing, once_law}

-- some rows, all of one node
pub record HasNode (rows : List Row) : Type 0 where
  pub node : NodeId
  pub some : 1 ≤ length rows
  pub own : AreOwn node rows

pub joins_have : (known : Option Image) (m : Merger) (joins : List (List Row)) → JoinsAll known m joins → AllByRecursion HasNode joins
joins_have known m [] none = tt
joins_have known m (rows ∷ later) (next, older, newer, join, all) = (record { node = join.node; some = join.some; own = join_own known m next rows join }, joins_have known next later all)

-- ---- numbers

pub sum_len : (joins : List (List Row)) → sum_by rows_len joins ≡ rows_len (all_of joins)
sum_len [] = refl
sum_len (rows ∷ later) = omega (arith, sum_by-cons rows_len rows later, sum_len later, sum_by-append row_len rows (all_of later))

pub sum_rows : (joins : List (List Row)) → sum_by length joins ≡ length (all_of joins)
sum_rows [] = refl
sum_rows (rows ∷ later) = omega (arith, sum_by-cons length rows later, sum_rows later, length-append rows (all_of later))

-- ---- the index

-- rows of no higher node than one, or no rows
abbrev Under : Option NodeId → List Row → Type 0
Under None rows = rows ≡ []
Under (Some id) rows = AllByRecursion (λ r. is_node_below id r.node ≡ false) rows

below_next : (last : Option NodeId) (id : NodeId) (so_far rows : List Row) → Under last so_far → 1 ≤ length rows → AreOwn id rows → follows last rows ≡ true → AllByRecursion (λ r. is_node_below r.node id ≡ true) so_far
below_next None id so_far rows none some own up = subst (AllByRecursion (λ r. is_node_below r.node id ≡ true)) (sym none) tt
below_next (Some k) id so_far [] under some own up = absurd (omega (arith, some))
below_next (Some k) id so_far (row ∷ rows) under some own up =
    all_map (λ r. is_node_below k r.node ≡ false) (λ r. is_node_below r.node id ≡ true) each so_far under
  where
    over : is_node_below k id ≡ true
    over = subst (λ n. is_node_below k n ≡ true) own.0 up

    each : (r : Row) → is_node_below k r.node ≡ false → is_node_below r.node id ≡ true
    each r low = elim (above_or_same r.node k low) as (λ _. is_node_below r.node id ≡ true) [
      | inl below ↦ below-trans r.node k id below over
      | inr same ↦ subst (λ n. is_node_below n id ≡ true) (sym same) over
    ]

under_next : (id : NodeId) (so_far rows : List Row) → AllByRecursion (λ r. is_node_below r.node id ≡ true) so_far → AreOwn id rows → Under (Some id) (so_far ++ rows)
under_next id so_far rows below own =
    all_append (λ r. is_node_below id r.node ≡ false) so_far rows
    (all_map (λ r. is_node_below r.node id ≡ true) (λ r. is_node_below id r.node ≡ false) (λ r low. below-asym r.node id low) so_far below)
    (all_map (λ r. r.node ≡ id) (λ r. is_node_below id r.node ≡ false) (λ r same. subst (λ n. is_node_below id n ≡ false) (sym same) (is_node_below-self id)) rows own)

-- lists of higher and higher nodes behind rows have their entries behind the index of these
record Follows (so_far : List Row) (joins : List (List Row)) : Type 0 where
  bytes : index_bytes (so_far ++ all_of joins) ≡ index_bytes so_far ++ index_from (rows_len so_far) joins
  nodes : length (nodes_in (so_far ++ all_of joins)) ≡ length (nodes_in so_far) + length joins

pub both_true : (a b : Bool) → (a && b) ≡ true → (a ≡ true) × (b ≡ true)
both_true true b e = (refl, e)
both_true false b e = absurd (true≢false (sym e))

follow : (last : Option NodeId) (so_far : List Row) (joins : List (List Row)) → Under last so_far → AllByRecursion HasNode joins → are_apart last joins ≡ true → Follows so_far joins
follow last so_far [] under have apart = record {
  bytes = ap index_bytes (append-nil so_far) ∙ sym (append-nil (index_bytes so_far));
  nodes = omega (arith, ap (λ rows. length (nodes_in rows)) (append-nil so_far));
}
follow last so_far (rows ∷ later) under have apart =
    let h : HasNode rows = have.0 in
    let parts = both_true (follows last rows) (are_apart (last_node rows) later) apart in
    let below = below_next last h.node so_far rows under h.some h.own parts.0 in
    let next = next_node so_far h.node rows (record { some = h.some; all_own = h.own; below = below }) in
    let rest = follow (Some h.node) (so_far ++ rows) later (under_next h.node so_far rows below h.own) have.1 (subst (λ l. are_apart l later ≡ true) (last_own h.node rows h.some h.own) parts.1) in
    let cut : so_far ++ all_of (rows ∷ later) ≡ (so_far ++ rows) ++ all_of later = sym (append_assoc so_far rows (all_of later)) in
    let len : rows_len (so_far ++ rows) ≡ rows_len so_far + rows_len rows = sum_by-append row_len so_far rows in
    record {
      bytes = ap index_bytes cut ∙ rest.bytes ∙ ap (λ xs. xs ++ index_from (rows_len (so_far ++ rows)) later) next.bytes
          ∙ append_assoc (index_bytes so_far) (bytes_of (entry_at (rows_len so_far) h.node rows)) (index_from (rows_len (so_far ++ rows)) later)
          ∙ (λ t. index_bytes so_far ++ (sym (entry_is (rows_len so_far) h.node rows h.some h.own) t ++ index_from (len t) later));
      nodes = omega (arith, ap (λ xs. length (nodes_in xs)) cut, rest.nodes, ap length next.nodes, length-append (nodes_in so_far) (h.node ∷ []));
    }

pub index_joined : (joins : List (List Row)) → AllByRecursion HasNode joins → are_apart None joins ≡ true → (index_bytes (all_of joins) ≡ index_from 0 joins) × (length (nodes_in (all_of joins)) ≡ length joins)
unfolding index_bytes nodes_in
index_joined joins have apart = let f = follow None [] joins refl have apart in (f.bytes, (let none : length (nodes_in []) ≡ 0 = refl in omega (arith, f.nodes, none)))

-- ---- bounds

-- what the rows of a node are merged into are within bounds, where these are
names_own : (id : NodeId) (rows : List Row) → 1 ≤ length rows → AreOwn id rows → names id rows ≡ true
names_own id [] some own = absurd (omega (arith, some))
names_own id (row ∷ rows) some own = ap (λ t. t || names id rows) (subst (λ n. is_node id n ≡ true) (sym own.0) (is_node-self id))

merged_of_fits : (m : Mark) (id : NodeId) (own : List Row) → AreOwn id own → AllByRecursion (FitsRow m) own → AllByRecursion (FitsRow m) (merged_of id own)
unfolding merged
merged_of_fits m id own all fits = by own refl
  where
    some_fits : 1 ≤ length own → AllByRecursion (FitsRow m) (merged_of id own)
    some_fits some =
        let from = all_map (λ (r : Row). r.node ≡ id) (λ (r : Row). is_node_below r.node id ≡ false) (λ r same. subst (λ n. is_node_below n id ≡ false) (sym same) (is_node_below-self id)) own all in
        let mine : rows_of id own ≡ own = filter_all (λ (r : Row). is_node id r.node) own (all_map (λ (r : Row). r.node ≡ id) (λ (r : Row). is_node id r.node ≡ true) (λ r same. subst (λ n. is_node id n ≡ true) (sym same) (is_node-self id)) own all) in
        let whole : merged own [] ≡ merged_of id own ++ merged_all (rest_of id own) =
        ap merged_all (append-nil own) ∙ lowest_first id own from (names_own id own some all) ∙ ap (λ xs. merged_of id xs ++ merged_all (rest_of id own)) mine in
        all_left (FitsRow m) (merged_of id own) (merged_all (rest_of id own)) (subst (AllByRecursion (FitsRow m)) whole (merged_fits m own [] (all_append (FitsRow m) own [] fits tt)))

    by : (rows : List Row) → own ≡ rows → AllByRecursion (FitsRow m) (merged_of id own)
    by [] is = subst (λ rows. AllByRecursion (FitsRow m) (merged_of id rows)) (sym is) (subst (AllByRecursion (FitsRow m)) (sym (merged_nothing id)) tt)
    by (row ∷ rows) is = some_fits (omega (arith, ap length is))

module _ (wide : Mark) (widens : (m : Mark) (row : Row) → FitsRow m row → FitsRow wide row) where
  taken_fits : (known : Option Image) (id : NodeId) (before after : Source) (rows : List Row) → TakesRows known id before after rows → AllByRecursion (FitsRow wide) rows
  unfolding TakesRows
  taken_fits known id before after rows (inl passed) = subst (AllByRecursion (FitsRow wide)) (sym passed.none) tt
  taken_fits known id before after rows (inr some) =
      let h = some.holds in all_map (FitsRow before.part.header.mark) (FitsRow wide) (widens before.part.header.mark) rows h.holds.begins.fit

  join_fits : (known : Option Image) (before after : Merger) (rows : List Row) → IsJoinOf known before after rows → AllByRecursion (FitsRow wide) rows
  join_fits known before after rows j =
      subst (AllByRecursion (FitsRow wide)) (sym j.joined)
      (merged_of_fits wide j.node (j.older ++ j.newer)
      (all_append (λ r. r.node ≡ j.node) j.older j.newer (taken_own known j.node before.older after.older j.older j.of_older) (taken_own known j.node before.newer after.newer j.newer j.of_newer))
      (all_append (FitsRow wide) j.older j.newer (taken_fits known j.node before.older after.older j.older j.of_older) (taken_fits known j.node before.newer after.newer j.newer j.of_newer)))

  pub all_fit : (known : Option Image) (m : Merger) (joins : List (List Row)) → JoinsAll known m joins → AllByRecursion (FitsRow wide) (all_of joins)
  all_fit known m [] none = tt
  all_fit known m (rows ∷ later) (next, older, newer, join, all) = all_append (FitsRow wide) rows (all_of later) (join_fits known m next rows join) (all_fit known next later all)

-- ---- the law

-- a body that is as long as a measure says is that of what was measured, in order where it says so
pub record IsCounted (joins : List (List Row)) (measure : Measure) (bytes : List ℕ) : Type 0 where
  pub body : bytes ≡ body_bytes (all_of joins)
  pub ordered : IsTrue (is_ordered (all_of joins))
  pub apart : are_apart None joins ≡ true
  pub measured : measure ≡ measure_of (all_of joins)
  pub fit : AllByRecursion (FitsRow mark.Two) (all_of joins) × AllByRecursion (FitsRow mark.Three) (all_of joins)

pub counted : (image : Image) (start : Merger) (measure : Measure) (bytes : List ℕ) → IsMeasureOf (Some image) start measure → measure.ordered ≡ true → (b : IsJoinedBody (Some image) start bytes) → length bytes ≡ measure.area + index_entry * measure.nodes → IsCounted b.joins measure bytes
counted image start measure bytes m in_order b len =
    let same : m.joins ≡ b.joins = once_law image start m.joins b.joins m.all b.all in
    let have = joins_have (Some image) start b.joins b.all in
    let both = both_true (is_ordered (all_of b.joins)) (are_apart None b.joins) (ap (λ joins. is_ordered (all_of joins) && are_apart None joins) (sym same) ∙ sym m.ordered ∙ in_order) in
    let index = index_joined b.joins have both.1 in
    let all : length bytes ≡ rows_len (all_of b.joins) + length b.index = ap length b.made ∙ length-append (rows_bytes (all_of b.joins)) b.index ∙ ap (λ n. n + length b.index) (rows_long (all_of b.joins)) in
    let long = b.is_index.long in
    let area : measure.area ≡ min (rows_len (all_of b.joins)) 4294967295 = m.area ∙ ap (λ n. min n 4294967295) (ap (λ joins. sum_by rows_len joins) same ∙ sum_len b.joins) in
    let nodes : measure.nodes ≡ min (length b.joins) 4294967295 = m.nodes ∙ ap (λ joins. min (length joins) 4294967295) same in
    let rows : measure.rows ≡ min (length (all_of b.joins)) 4294967295 = m.rows ∙ ap (λ n. min n 4294967295) (ap (λ joins. sum_by length joins) same ∙ sum_rows b.joins) in
    let few = few_rows (all_of b.joins) in
    let a : measure.area ≡ rows_len (all_of b.joins) = omega (arith, len, all, long, area, nodes) in
    let n : measure.nodes ≡ length (nodes_in (all_of b.joins)) = omega (arith, len, all, long, area, nodes, index.1) in
    let small : rows_len (all_of b.joins) < 4294967296 = omega (arith, a, area) in
    let r : measure.rows ≡ length (all_of b.joins) = omega (arith, rows, few, small) in
    record {
      body = b.made ∙ ap (λ xs. rows_bytes (all_of b.joins) ++ xs) (b.is_index.entries small ∙ sym index.0);
      ordered = both.0;
      apart = both.1;
      measured = λ t. record { rows = r t; nodes = n t; area = a t; ordered = (in_order ∙ sym both.0) t };
      fit = (
        all_fit mark.Two (λ m row fits. (mark_fits m row fits).0) (Some image) start b.joins b.all,
        all_fit mark.Three (λ m row fits. (mark_fits m row fits).1) (Some image) start b.joins b.all,
      );
    }

-- The span of a node in a region in the grammar: it holds exactly the node's rows.
use Rattle.std.proofs.Common.{◌≡◌, ℕ, ◌+◌, ◌-◌, true, List, ◌++◌, take, drop, refl, sym, ap, ◌∙◌, subst, arith, append_assoc, append-nil, take_at, drop_at}
use Rattle.std.specs.List.{AllByRecursion}
use Rattle.std.proofs.lemmas.Grind.{flat_map-append}
use Rattle.log_disk.specs.Disk.{Eye}
use Rattle.fine_model.specs.declared.Header.{Header}
use Rattle.fine_model.specs.declared.NodeId.{NodeId}
use Rattle.fine_model.specs.declared.Part.{Part}
use Rattle.fine_model.specs.declared.Row.{Row}
use Rattle.fine_model.specs.Nodes.{is_node, rows_of}
use Rattle.fine_model.specs.RowBytes.{row_bytes, rows_bytes, rows_len, FitsRow}
use Rattle.fine_model.specs.Merge.{is_ordered}
use Rattle.fine_model.specs.Regions.{index_bytes, body_in, row_area}
use Rattle.fine_model.specs.Seek.{SpanHolds, span_bytes}
use Rattle.fine_model.proofs.Chain.Grammar.{rows_long}
use Rattle.fine_model.proofs.Merging.NodesIn.{same_node}
use Rattle.fine_model.proofs.Ordered.Order.{all_map}
use Rattle.fine_model.proofs.Ordered.Sets.{all_filter, all_pass}
use Rattle.partition_index.specs.Entries.{row_span_of}
use Rattle.partition_index.specs.Parts.{IsSeen}
use Rattle.partition_index.specs.Search.{TellsRows, span_for}
use Rattle.partition_index.proofs.Exact.{holds_rows}
use Rattle.partition_index.proofs.InGrammar.{HoldsRows}
use Rattle.partition_index.proofs.RowOrder.{parted, lower_than, higher_than}

bytes_append : (a b : List Row) → rows_bytes (a ++ b) ≡ rows_bytes a ++ rows_bytes b
unfolding rows_bytes
bytes_append a b = flat_map-append row_bytes a b

area_is : (header : Header) (body : List ℕ) (rows : List Row) → HoldsRows header body rows → row_area header body ≡ rows_bytes rows
area_is header body rows h =
    ap (take header.area) (h.spelled ∙ append_assoc (rows_bytes rows) (index_bytes rows) h.rest)
    ∙ take_at (rows_bytes rows) (index_bytes rows ++ h.rest) header.area (rows_long rows ∙ sym h.area)

span_is_own : (header : Header) (body : List ℕ) (rows : List Row) (id : NodeId) → HoldsRows header body rows → is_ordered rows ≡ true → span_bytes header body (row_span_of (span_for rows id)) ≡ rows_bytes (rows_of id rows)
span_is_own header body rows id h up =
    let low : List Row = lower_than id rows in
    let own : List Row = rows_of id rows in
    let high : List Row = higher_than id rows in
    let long : rows_len low + rows_len own - rows_len low ≡ rows_len own = omega arith in
    let pieces : row_area header body ≡ rows_bytes low ++ (rows_bytes own ++ rows_bytes high) =
    area_is header body rows h ∙ ap rows_bytes (parted id rows up) ∙ bytes_append low (own ++ high) ∙ ap (λ xs. rows_bytes low ++ xs) (bytes_append own high) in
    ap (λ xs. take (rows_len low + rows_len own - rows_len low) (drop (rows_len low) xs)) pieces
    ∙ ap (take (rows_len low + rows_len own - rows_len low)) (drop_at (rows_bytes low) (rows_bytes own ++ rows_bytes high) (rows_len low) (rows_long low))
    ∙ ap (λ n. take n (rows_bytes own ++ rows_bytes high)) long
    ∙ take_at (rows_bytes own) (rows_bytes high) (rows_len own) (rows_long own)

pub own_in_span : (eye : Eye) (p : Part) (rows : List Row) (id : NodeId) → IsSeen eye p → (t : TellsRows eye p rows) → SpanHolds p.header (body_in t.image p.region p.header) (row_span_of (span_for rows id)) id (rows_of id rows)
own_in_span eye p rows id seen t = record {
  begins = record {
    fit = all_filter (FitsRow p.header.mark) (λ r. is_node id r.node) rows (subst (λ h. AllByRecursion (FitsRow h.mark) rows) t.of_part t.sealed.rows_fit);
    of_node = all_map (λ r. is_node id r.node ≡ true) (λ r. r.node ≡ id) (λ r e. sym (same_node id r.node e)) (rows_of id rows) (all_pass (λ r. is_node id r.node) rows);
    spelled = span_is_own p.header (body_in t.image p.region p.header) rows id (holds_rows eye p rows seen t) t.sealed.ordered ∙ sym (append-nil (rows_bytes (rows_of id rows)));
    counted = omega arith;
  };
  all = refl;
}

-- Rows in another order.
use Rattle.std.proofs.Common.{◌≡◌, ◌+◌, ◌*◌, cond, List, [], ◌∷◌, map, length, sym, ap, ◌∙◌}
use Rattle.std.specs.Prelude.{IsPermutation}
use Rattle.std.proofs.lemmas.List.Elements.{All-from_recursion, recursion_from_All}
use Rattle.std.proofs.lemmas.List.Sorted.{sum_by-IsPermutation, list_any-IsPermutation, IsPermutation-map, All-permutation}
use Rattle.fine_model.specs.Types.{Row}
use Rattle.fine_model.specs.RowBytes.{row_len, rows_len, FitsRow}
use Rattle.fine_model.specs.Nodes.{is_node}
use Rattle.fine_model.specs.Merge.{nodes_in}
use Rattle.fine_model.specs.VersionLaws.{CostAlike, PermutedLaw}
use Rattle.fine_model.proofs.Merging.NodesIn.{times-nodes_in}
use Rattle.fine_model.proofs.Merging.NodesAscend.{nodes_ascend, same_nodes}

module _ (rows sorted : List Row) (p : IsPermutation rows sorted) where
  same_len : rows_len sorted ≡ rows_len rows
  same_len = sum_by-IsPermutation row_len rows sorted p

  same_nodes_in : nodes_in sorted ≡ nodes_in rows
  same_nodes_in =
      same_nodes (nodes_in sorted) (nodes_in rows) (nodes_ascend sorted) (nodes_ascend rows)
      (λ id. times-nodes_in id sorted
      ∙ ap (λ b. cond b (id ∷ []) []) (sym (list_any-IsPermutation (is_node id) (map (λ r. r.node) rows) (map (λ r. r.node) sorted) (IsPermutation-map (λ r. r.node) rows sorted p)))
      ∙ sym (times-nodes_in id rows))

  pub alike : CostAlike rows sorted
  alike = record {
    same_len = same_len;
    same_nodes = same_nodes_in;
    same_cost = ap (λ n. n + 14 * length (nodes_in sorted)) same_len ∙ ap (λ ids. rows_len rows + 14 * length ids) same_nodes_in;
    fit = λ mark all. recursion_from_All (FitsRow mark) sorted (All-permutation (FitsRow mark) rows sorted p (All-from_recursion (FitsRow mark) rows all));
  }

pub permuted_law : PermutedLaw
permuted_law = alike

-- Agreement of logs with merged rows, and runs of lists that are merged one after another.
use Rattle.std.proofs.Common.{◌≡◌, ◌≢◌, ◌||◌, List, [], ◌∷◌, ◌++◌, map, sym, ap, ◌∙◌, subst, arith, append-nil, append_assoc}
use Rattle.std.specs.Prelude.{flat_map}
use Rattle.std.specs.List.{AllByRecursion, list_any}
use Rattle.std.proofs.lemmas.List.{map-append}
use Rattle.std.proofs.lemmas.List.Folds.{list_any-append}
use Rattle.std.proofs.lemmas.List.Sums.{fold-append, sum_by-append}
use Rattle.fine_model.specs.Types.{NodeId, Row}
use Rattle.fine_model.specs.Types.mark
use Rattle.fine_model.specs.RowBytes.{row_len, rows_len, FitsRow}
use Rattle.fine_model.specs.Nodes.{is_node, Agrees}
use Rattle.fine_model.specs.Merge.{is_ordered, nodes_in, merged}
use Rattle.fine_model.specs.MergeSteps.{MergedAgrees, merged_run, run_rows, MergedRunLen, MergedRunOrder, MergedRunFits, MergedRunAgrees}
use Rattle.fine_model.proofs.Ordered.Order.{all_map}
use Rattle.fine_model.proofs.Ordered.Sets.{all_append}
use Rattle.fine_model.proofs.Ordered.Zip.{all_left, all_right}
use Rattle.fine_model.proofs.Merging.MergedRows.{content-merged}
use Rattle.fine_model.proofs.Merging.MergedLen.{names, nodes_alike, names_merged, merged_len}
use Rattle.fine_model.proofs.Merging.MergedOrder.{merged_order}
use Rattle.fine_model.proofs.Merging.FitMerged.{merged_fits}

pub merged_agrees : MergedAgrees
merged_agrees before older newer after log fits agrees = record {
  same = λ id whole.
      content-merged before older newer after id
      (all_map (FitsRow mark.Two) (λ row. row.version ≢ 0) (λ row f e. let low = f.version_low in absurd (omega (arith, low, e))) before fits)
      (λ broken. whole (ap (λ c. c.0) (sym (agrees.same id whole)) ∙ broken))
      ∙ agrees.same id whole;
}

-- the rows of a run, of which the first two lists are joined
regrouped : (first next : List Row) (more : List (List Row)) → run_rows first (next ∷ more) ≡ run_rows (first ++ next) more
regrouped first next more = sym (append_assoc first next (flat_map (λ rows. rows) more))

names_append : (id : NodeId) (xs ys : List Row) → names id (xs ++ ys) ≡ (names id xs || names id ys)
names_append id xs ys = ap (list_any (is_node id)) (map-append (λ r. r.node) xs ys) ∙ list_any-append (is_node id) (map (λ r. r.node) xs) (map (λ r. r.node) ys)

pub merged_run_len : MergedRunLen
unfolding merged_run
merged_run_len first [] = record {
  rows = let e = ap rows_len (append-nil first) in omega (arith, e);
  nodes = ap nodes_in (sym (append-nil first));
}
merged_run_len first (next ∷ more) =
    let rest = merged_run_len (merged first next) more in
    let here = merged_len first next in record {
      rows =
          let few = rest.rows in let short = here.rows in
          let a = sum_by-append row_len (merged first next) (flat_map (λ rows. rows) more) in
          let b = sum_by-append row_len first (next ++ flat_map (λ rows. rows) more) in
          let c = sum_by-append row_len next (flat_map (λ rows. rows) more) in omega (arith, few, short, a, b, c);
      nodes = rest.nodes ∙ nodes_alike (run_rows (merged first next) more) (run_rows first (next ∷ more))
          (λ id. names_append id (merged first next) (flat_map (λ rows. rows) more)
          ∙ ap (λ b. b || names id (flat_map (λ rows. rows) more)) (names_merged first next id)
          ∙ sym (ap (names id) (regrouped first next more) ∙ names_append id (first ++ next) (flat_map (λ rows. rows) more)));
    }

pub merged_run_fits : MergedRunFits
unfolding merged_run
merged_run_fits m first [] fits = subst (AllByRecursion (FitsRow m)) (append-nil first) fits
merged_run_fits m first (next ∷ more) fits =
    let all = subst (AllByRecursion (FitsRow m)) (regrouped first next more) fits in
    merged_run_fits m (merged first next) more
    (all_append (FitsRow m) (merged first next) (flat_map (λ rows. rows) more)
    (merged_fits m first next (all_left (FitsRow m) (first ++ next) (flat_map (λ rows. rows) more) all)) (all_right (FitsRow m) (first ++ next) (flat_map (λ rows. rows) more) all))

pub merged_run_agrees : MergedRunAgrees
unfolding merged_run
merged_run_agrees before first [] after log fits agrees = subst (λ rows. Agrees (before ++ (rows ++ after)) log) (append-nil first) agrees
merged_run_agrees before first (next ∷ more) after log fits agrees =
    merged_run_agrees before (merged first next) more after log fits
    (subst (λ rows. Agrees (before ++ rows) log) (sym (append_assoc (merged first next) (flat_map (λ rows. rows) more) after))
    (merged_agrees before first next (flat_map (λ rows. rows) more ++ after) log fits
    (subst (λ rows. Agrees (before ++ rows) log)
    (ap (λ rows. rows ++ after) (regrouped first next more) ∙ append_assoc (first ++ next) (flat_map (λ rows. rows) more) after) agrees)))

pub merged_run_order : MergedRunOrder
unfolding merged_run
merged_run_order first more last = ap is_ordered (fold-append merged first more (last ∷ [])) ∙ merged_order (merged_run first more) last

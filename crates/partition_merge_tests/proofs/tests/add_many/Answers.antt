use Rattle.std.proofs.Common.{◌≡◌, ℕ, ◌+◌, ◌<◌, true, ◌&&◌, List, [], ◌∷◌, ◌++◌, IsTrue, refl, sym, ap, ◌∙◌, subst, arith, rules}
use Rattle.std.specs.List.{AllByRecursion}
use Rattle.std.proofs.lemmas.Bool.Decides.{nat_tests}
use Rattle.fine_model.specs.declared.Row.{Row}
use Rattle.fine_model.specs.Merge.{is_row_below, is_ordered}
use Rattle.fine_model.specs.RowBytes.{FitsRec}
use Rattle.partition_merge.specs.Merging.{FitRows}
use Rattle.fine_model.proofs.Ordered.Sets.{all_append}
use Rattle.fine_model.proofs.Ordered.Order.{all_map, first_of_both}
use Rattle.partition_merge_tests.proofs.tests.add_many.Goals as goal

-- a row behind rows that are all below it
ordered_more : (rows : List Row) (row : Row) → IsTrue (is_ordered rows) → AllByRecursion (λ r. is_row_below r row ≡ true) rows → IsTrue (is_ordered (rows ++ row ∷ []))
ordered_more [] row up below = refl
ordered_more (a ∷ []) row up below = ap (λ t. t && true) below.0
ordered_more (a ∷ b ∷ rows) row up below =
    let s = first_of_both (is_row_below a b) (is_ordered (b ∷ rows)) up in
    ap (λ t. t && is_ordered (b ∷ (rows ++ row ∷ []))) s.0 ∙ ordered_more (b ∷ rows) row s.1 below.1

-- a row of a lower node of the same bucket stands below
row_below : (r row : Row) (i : ℕ) → r.node.bucket ≡ 97 → r.node.number < i → row.node.bucket ≡ 97 → row.node.number ≡ i → is_row_below r row ≡ true
row_below r row i a b c d = grind (arith, nat_tests)

pub loop-i-preserved : goal.loop-i-preserved
loop-i-preserved c =
    let kept = c.loop-i.invariant in
    let row = c.in_ok-row.row in
    let node = c.in_ok-row.ensures.node in
    let pushed : c.push.new.self ≡ c.loop-i.rows ++ row ∷ [] = search rules in
    let Low : Row → Type 0 = λ r. (r.node.bucket ≡ 97) × (r.node.number < c.args.puts.0 + c.loop-i.i) in
    let Lower : Row → Type 0 = λ r. (r.node.bucket ≡ 97) × (r.node.number < c.args.puts.0 + (c.loop-i.i + 1)) in
    let below : (r : Row) → Low r → is_row_below r row ≡ true = λ r h. row_below r row (c.args.puts.0 + c.loop-i.i) h.0 h.1 (ap (λ n. n.bucket) node) (ap (λ n. n.number) node) in
    record {
      order = subst (λ rows. IsTrue (is_ordered rows)) (sym pushed) (ordered_more c.loop-i.rows row kept.order (all_map Low (λ r. is_row_below r row ≡ true) below c.loop-i.rows kept.so_far));
      fit = subst FitRows (sym pushed) (all_append (λ r. FitsRec r.rec) c.loop-i.rows (row ∷ []) kept.fit (c.in_ok-row.ensures.rec, tt));
      so_far = subst (AllByRecursion Lower) (sym pushed)
          (all_append Lower c.loop-i.rows (row ∷ []) (all_map Low Lower (λ r h. (h.0, omega (arith, h.1))) c.loop-i.rows kept.so_far) ((ap (λ n. n.bucket) node, omega (arith, ap (λ n. n.number) node)), tt));
    }

use Rattle.std.proofs.Common.{◌≡◌, ◌∙◌, ap, sym, subst, Some, None, true, false, cond, ◌+ℤ◌, FitsSigned, w64, to_z, of_z, to_z-of_z, slice_set}
use Rattle.fine_model.specs.Map.{set}
use Rattle.fine_model.specs.Nodes.{with_sum}
use Rattle.fine_model.specs.NumberText.{number_of, number_text, is_i64}
use Rattle.fine_model.specs.declared.Node.TheVariants as node
use Rattle.fine_model.proofs.Trees.NodeBounds.{signed}
use Rattle.node_record.proofs.Changes.{get_there, get_absent, set_there, added_absent, added_text, added_sum, not_true}
use Rattle.node_record.proofs.Texts.{number_fits, test_from_fits}
use Rattle.node_record.proofs.leaves.add.Goals as goal

pub returns-in_default-clause-ok : goal.returns-in_default-clause-ok
returns-in_default-clause-ok c = added_absent c.args.pairs.now c.args.key.now c.args.by (get_absent c.args.key.now c.args.pairs.now c.in_default.field-0 c.in_default.ensures)

pub returns-in_default-number_of-clause-ok : goal.returns-in_default-number_of-clause-ok
returns-in_default-number_of-clause-ok c =
    let there = get_there c.args.key.now c.args.pairs.now c.in-Ok.i c.in-Ok.ensures c.at.result.now c.at.ensures in
    let none : number_of c.at.result.now.1 ≡ None = cc in
    added_text c.args.pairs.now c.args.key.now c.at.result.now.1 c.args.by there none

pub returns-in_default-checked_add-clause-ok : goal.returns-in_default-checked_add-clause-ok
returns-in_default-checked_add-clause-ok c =
    let there = get_there c.args.key.now c.args.pairs.now c.in-Ok.i c.in-Ok.ensures c.at.result.now c.at.ensures in
    let number : number_of c.at.result.now.1 ≡ Some c.in-Some.number = cc in
    let sum : with_sum c.args.pairs.now c.args.key.now (c.in-Some.number +ℤ c.args.by) ≡ node.Broken =
    let n = number_fits c.at.result.now.1 c.in-Some.number number in
    let whole : to_z w64 (of_z w64 c.in-Some.number) +ℤ to_z w64 (of_z w64 c.args.by) ≡ c.in-Some.number +ℤ c.args.by = λ j. to_z-of_z n j +ℤ to_z-of_z c.ranges.by j in
    let test : is_i64 (c.in-Some.number +ℤ c.args.by) ≡ false = not_true (is_i64 (c.in-Some.number +ℤ c.args.by)) (λ t. c.in_default-checked_add.ensures (subst (FitsSigned w64) (sym whole) (signed (c.in-Some.number +ℤ c.args.by) t))) in
    ap (λ b. cond b (node.Leaf (set c.args.pairs.now c.args.key.now (number_text (c.in-Some.number +ℤ c.args.by)))) node.Broken) test in
    sym sum ∙ added_sum c.args.pairs.now c.args.key.now c.at.result.now.1 c.args.by c.in-Some.number there number

pub returns-clause-ok : goal.returns-clause-ok
returns-clause-ok c =
    let there = get_there c.args.key.now c.args.pairs.now c.in-Ok.i c.in-Ok.ensures c.at.result.now c.at.ensures in
    let number : number_of c.at.result.now.1 ≡ Some c.in-Some.number = cc in
    let made = set_there c.args.key.now c.args.pairs.now c.in-Ok.i c.in-Ok.ensures (number_text c.in-Some-checked_add.sum) in
    let sum : with_sum c.args.pairs.now c.args.key.now (c.in-Some.number +ℤ c.args.by) ≡ node.Leaf c.replace-old.new.self =
    let n = number_fits c.at.result.now.1 c.in-Some.number number in
    let whole : to_z w64 (of_z w64 c.in-Some.number) +ℤ to_z w64 (of_z w64 c.args.by) ≡ c.in-Some.number +ℤ c.args.by = λ j. to_z-of_z n j +ℤ to_z-of_z c.ranges.by j in
    let equal : c.in-Some-checked_add.sum ≡ c.in-Some.number +ℤ c.args.by = c.in-Some-checked_add.ensures.1 ∙ whole in
    let test : is_i64 (c.in-Some.number +ℤ c.args.by) ≡ true = test_from_fits (c.in-Some.number +ℤ c.args.by) (subst (FitsSigned w64) whole c.in-Some-checked_add.ensures.0) in
    ap (λ b. cond b (node.Leaf (set c.args.pairs.now c.args.key.now (number_text (c.in-Some.number +ℤ c.args.by)))) node.Broken) test
    ∙ ap (λ m. node.Leaf (set c.args.pairs.now c.args.key.now (number_text m))) (sym equal)
    ∙ ap node.Leaf (sym (c.replace-old.ensures.items ∙ ap (slice_set c.args.pairs.now c.in-Ok.i) (λ j. (c.in_ok-copy.ensures j, (c.in_ok-number_text.ensures ∙ ap number_text (to_z-of_z (subst (FitsSigned w64) (sym c.in-Some-checked_add.ensures.1) c.in-Some-checked_add.ensures.0))) j)) ∙ made)) in
    sym sum ∙ added_sum c.args.pairs.now c.args.key.now c.at.result.now.1 c.args.by c.in-Some.number there number

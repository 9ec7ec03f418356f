use Rattle.std.proofs.Common.{◌∙◌, ◌&&◌, ap, option_copied, sym, refl}
use Rattle.std.specs.List.{list_all}
use Rattle.fine_model.specs.Trees.{is_from, is_up_to}
use Rattle.fine_model.proofs.Ordered.InOrder.{AreUp-from_ascending}
use Rattle.btree_nodes.proofs.InBounds.{both_ends, ends_below, starts_from}
use Rattle.btree_nodes.proofs.fitness.are_within.Goals as goal

pub returns-then-is_from : goal.returns-then-is_from
returns-then-is_from c =
    let pairs = c.args.pairs.now in
    let up = AreUp-from_ascending (λ p. p.0) pairs c.requires in
    let first = starts_from (λ p. p.0) (option_copied c.args.low) pairs c.in-Some.first.now c.as_slice.result.now c.is_from.result up c.in-Some.ensures.value c.as_slice.ensures c.is_from.ensures in
    let last = ends_below (λ p. p.0) (option_copied c.args.high) pairs c.in-Some-last.last.now c.as_slice-then-is_from.result.now c.is_up_to.result up c.in-Some-last.ensures.value c.as_slice-then-is_from.ensures c.is_up_to.ensures in
    ap (λ b. b && c.is_up_to.result) (sym c.if-is_from.true) ∙ both_ends (λ p. is_from (option_copied c.args.low) p.0) (λ p. is_up_to (option_copied c.args.high) p.0) pairs c.is_from.result c.is_up_to.result first last

pub returns-else-is_from : goal.returns-else-is_from
returns-else-is_from c =
    let pairs = c.args.pairs.now in
    let up = AreUp-from_ascending (λ p. p.0) pairs c.requires in
    let first = starts_from (λ p. p.0) (option_copied c.args.low) pairs c.in-Some.first.now c.as_slice.result.now c.is_from.result up c.in-Some.ensures.value c.as_slice.ensures c.is_from.ensures in
    let last = list_all (λ p. is_up_to (option_copied c.args.high) p.0) pairs in
    c.if-is_from.false ∙ ap (λ b. b && last) (sym c.if-is_from.false) ∙ both_ends (λ p. is_from (option_copied c.args.low) p.0) (λ p. is_up_to (option_copied c.args.high) p.0) pairs c.is_from.result last first refl

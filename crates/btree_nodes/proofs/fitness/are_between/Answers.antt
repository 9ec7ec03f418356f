use Rattle.std.proofs.Common.{◌≡◌, true, List, ℕ, subst, ◌∙◌, ◌&&◌, ap, option_copied, sym, refl}
use Rattle.std.specs.List.{list_all}
use Rattle.std.proofs.lemmas.List.{map-id}
use Rattle.fine_model.specs.Map.{is_ascending}
use Rattle.fine_model.specs.Trees.{is_above, is_up_to}
use Rattle.fine_model.proofs.Ordered.InOrder.{AreUp-from_ascending}
use Rattle.btree_nodes.proofs.InBounds.{both_ends, ends_below, starts_above}
use Rattle.btree_nodes.proofs.fitness.are_between.Goals as goal

pub returns-then-is_above : goal.returns-then-is_above
returns-then-is_above c =
    let seps = c.args.seps.now in
    let up = AreUp-from_ascending (λ k. k) seps (subst (λ (ks : List (List ℕ)). is_ascending ks ≡ true) (sym (map-id seps)) c.requires) in
    let first = starts_above (λ k. k) (option_copied c.args.low) seps c.in-Some.first.now c.as_slice.result.now c.is_above.result up c.in-Some.ensures.value c.as_slice.ensures c.is_above.ensures in
    let last = ends_below (λ k. k) (option_copied c.args.high) seps c.in-Some-last.last.now c.as_slice-then-is_above.result.now c.is_up_to.result up c.in-Some-last.ensures.value c.as_slice-then-is_above.ensures c.is_up_to.ensures in
    ap (λ b. b && c.is_up_to.result) (sym c.if-is_above.true) ∙ both_ends (λ p. is_above (option_copied c.args.low) p) (λ p. is_up_to (option_copied c.args.high) p) seps c.is_above.result c.is_up_to.result first last

pub returns-else-is_above : goal.returns-else-is_above
returns-else-is_above c =
    let seps = c.args.seps.now in
    let up = AreUp-from_ascending (λ k. k) seps (subst (λ (ks : List (List ℕ)). is_ascending ks ≡ true) (sym (map-id seps)) c.requires) in
    let first = starts_above (λ k. k) (option_copied c.args.low) seps c.in-Some.first.now c.as_slice.result.now c.is_above.result up c.in-Some.ensures.value c.as_slice.ensures c.is_above.ensures in
    let last = list_all (λ p. is_up_to (option_copied c.args.high) p) seps in
    c.if-is_above.false ∙ ap (λ b. b && last) (sym c.if-is_above.false) ∙ both_ends (λ p. is_above (option_copied c.args.low) p) (λ p. is_up_to (option_copied c.args.high) p) seps c.is_above.result last first refl

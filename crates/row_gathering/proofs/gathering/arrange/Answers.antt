-- A stable sort by node leaves each node its rows in their order; where they then do not ascend, they do in no order.
use Rattle.std.proofs.Common.{◌≡◌, ℕ, List, [], refl, rules, sym, ap, ◌∙◌, subst}
use Rattle.std.proofs.lemmas.List.Sorted.{answers_always}
use Rattle.fine_model.specs.declared.Row.{Row}
use Rattle.node_record.specs.Keys.{AreKeysOf, AreRows}
use Rattle.node_record.specs.declared.key.RowAt.{RowAt}
use Rattle.row_gathering.specs.Steps.{are_up, keys_from}
use Rattle.row_gathering.proofs.KeysFrom.{keys_are}
use Rattle.row_gathering.proofs.Sorting.{arranges, is_lower, keys_ranked, none_in_order}
use Rattle.row_gathering.proofs.gathering.arrange.Goals as goal

of_rows : (bytes : List ℕ) (rows : List Row) (keys : List RowAt) → AreRows bytes rows → keys ≡ keys_from 0 rows → AreKeysOf bytes rows keys
of_rows bytes rows keys are is = subst (AreKeysOf bytes rows) (sym is) (subst (λ xs. AreKeysOf xs rows (keys_from 0 rows)) (sym are.spelled) (keys_are [] 0 rows refl))

pub returns-then-not-ascend-clause-none : goal.returns-then-not-ascend-clause-none
returns-then-not-ascend-clause-none c rows are is =
    none_in_order c.args.bytes.items rows c.args.keys.items c.sort_by.new.self.items are (of_rows c.args.bytes.items rows c.args.keys.items are is)
    c.in_ok-sort_by.ensures.permutation (c.in_ok-sort_by.ensures.stable is_lower keys_ranked (answers_always _ _ _ (λ f a r f' k. search rules)))
    (c.in_ok-sort_by.ensures.sorted is_lower keys_ranked (answers_always _ _ _ (λ f a r f' k. search rules)))
    (ap are_up (sym c.as_slice.ensures.value) ∙ sym c.ascend.ensures ∙ c.if-not-ascend.true)

pub returns-clause-rows : goal.returns-clause-rows
returns-clause-rows c rows are is =
    arranges c.args.bytes.items rows c.args.keys.items c.sort_by.new.self.items are (of_rows c.args.bytes.items rows c.args.keys.items are is)
    c.in_ok-sort_by.ensures.permutation (c.in_ok-sort_by.ensures.stable is_lower keys_ranked (answers_always _ _ _ (λ f a r f' k. search rules)))
    (record { bytes = c.args.bytes; keys = c.sort_by.new.self }) refl refl
    (ap are_up (sym c.as_slice.ensures.value) ∙ sym c.ascend.ensures ∙ c.if-not-ascend.false)

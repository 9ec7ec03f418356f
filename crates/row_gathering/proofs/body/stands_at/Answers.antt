-- An index entry stands at a place where the bytes there spell its numbers.
use Rattle.std.proofs.Common.{◌≡◌, ℕ, ◌+◌, ◌-◌, List, take, drop, sym, ap, ◌∙◌, arith, subst}
use Rattle.node_record.proofs.Readers.{IsBytes, IsBytes-drop, IsBytes-take}
use Rattle.row_gathering.proofs.Spelled.{spells}
use Rattle.row_gathering.proofs.body.stands_at.Goals as goal

pub returns : goal.returns
returns c =
    let here : List ℕ = take 14 (drop c.args.at c.args.body.now) in
    let long : c.args.at + 14 - c.args.at ≡ 14 = omega arith in
    let read : c.copy_from_slice.new.self ≡ here = c.copy_from_slice.ensures.after ∙ ap (λ (n : ℕ). take n (drop c.args.at c.args.body.now)) long in
    let all : IsBytes c.args.body.now = λ i. omega (arith, c.type_inv.body i) in
    let fits : IsBytes c.copy_from_slice.new.self = subst IsBytes (sym read) (IsBytes-take 14 (drop c.args.at c.args.body.now) (IsBytes-drop c.args.at c.args.body.now all)) in
    let told = spells c.copy_from_slice.new.self c.entry_of.result c.args.entry.now c.copy_from_slice.ensures.len fits c.are_in_range.ensures c.entry_of.ensures in
    (λ good. sym read ∙ told.0 (sym c.eq.ensures ∙ good), λ same. c.eq.ensures ∙ told.1 (read ∙ same))

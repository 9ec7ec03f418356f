use Rattle.std.proofs.Common.{◌+◌, [], ◌∷◌, ◌++◌, drop, sym, ap, ◌∙◌, arith}
use Rattle.std.proofs.lemmas.List.{drop_all}
use Rattle.plain_model.proofs.Founds.{found_with, found_more, found_out, found_all, found_none}
use Rattle.plain_model.proofs.Steps.{drop-at}
use Rattle.plain_model.proofs.store.pairs_between.Goals as goal
use Rattle.plain_model.proofs.store.pairs_between.Goals.{then-len-limit+then-is_within+in_ok-copy+in_ok-push, else-len-limit, else-len-limit-via-then-len-limit+else-is_within, else-len-limit-via-else-len-limit}

pub loop-i-preserved : goal.loop-i-preserved
loop-i-preserved c =
    let low = c.args.low.now in
    let high = c.args.high.now in
    let limit = c.args.limit in
    let p = c.at-pair.result.now in
    let left = drop (c.loop-i.i + 1) c.args.pairs.now in
    let before = ap (found_with low high limit c.loop-i.found) (sym (drop-at c.args.pairs.now c.loop-i.i p c.at-pair.ensures)) ∙ c.loop-i.invariant in
    elim c.if-len-limit.branch [
      | then-len-limit+then-is_within+in_ok-copy+in_ok-push w ↦
          ap (λ found. found_with low high limit found left) (w.found-is ∙ w.in_ok-push.ensures.ok ∙ ap (λ q. c.loop-i.found ++ q ∷ []) w.in_ok-copy.ensures)
          ∙ found_more low high limit c.loop-i.found p left (omega arith) (sym w.is_within.ensures ∙ w.if-is_within.true)
          ∙ before
      | else-len-limit w ↦
          ap (λ found. found_with low high limit found left) w.found-is
          ∙ elim w.else-len-limit.branch [
            | else-len-limit-via-then-len-limit+else-is_within w' ↦ found_out low high limit c.loop-i.found p left (sym w'.is_within.ensures ∙ w'.if-is_within.false)
            | else-len-limit-via-else-len-limit w' ↦ found_all low high limit c.loop-i.found p left (omega arith)
          ]
          ∙ before
    ]

pub returns : goal.returns
returns c =
    sym (found_none c.args.low.now c.args.high.now c.args.limit c.loop-i.found (drop c.loop-i.i c.args.pairs.now) (drop_all c.loop-i.i c.args.pairs.now (omega arith)))
    ∙ c.loop-i.invariant

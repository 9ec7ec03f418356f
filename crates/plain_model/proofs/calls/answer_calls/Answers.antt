use Rattle.std.proofs.Common.{◌≡◌, ◌+◌, List, [], ◌∷◌, ◌++◌, drop, sym, ap, ◌∙◌, subst, append_assoc, append-nil, arith}
use Rattle.std.proofs.lemmas.List.{drop_all}
use Rattle.fine_model.specs.Map.{Pair, map_after}
use Rattle.fine_model.specs.declared.Call.{Call}
use Rattle.fine_model.specs.declared.Reply.{Reply}
use Rattle.fine_model.specs.declared.Write.{Write}
use Rattle.fine_model.specs.Store.{answer, after_call, replies_to, writes_of}
use Rattle.plain_model.specs.Place.{Ascends}
use Rattle.fine_model.proofs.Histories.HistoryLaws.{map_after-append}
use Rattle.plain_model.proofs.Steps.{drop-at}
use Rattle.plain_model.proofs.calls.answer_calls.Invariants.{Answered}
use Rattle.plain_model.proofs.calls.answer_calls.Goals as goal

-- one more call is answered
one_more : (first pairs pairs' : List Pair) (calls : List Call) (c : Call) (left : List Call) (replies : List Reply) (writes writes' : List Write)
    → Answered first pairs calls (c ∷ left) replies writes → Ascends pairs' → pairs' ≡ after_call pairs c → writes' ≡ writes ++ (answer pairs c).1
    → Answered first pairs' calls left (replies ++ (answer pairs c).0 ∷ []) writes'
unfolding replies_to writes_of
one_more first pairs pairs' calls c left replies writes writes' so_far order map wrote = record {
  order = order;
  replies_so_far =
      rw map (append_assoc replies ((answer pairs c).0 ∷ []) (replies_to (after_call pairs c) left) ∙ so_far.replies_so_far);
  writes_so_far =
      rw (map, wrote) (append_assoc writes (answer pairs c).1 (writes_of (after_call pairs c) left) ∙ so_far.writes_so_far);
  map_so_far =
      rw map (sym (map_after-append pairs (answer pairs c).1 (writes_of (after_call pairs c) left)) ∙ so_far.map_so_far);
}

pub loop-i-preserved : goal.loop-i-preserved
loop-i-preserved c =
    let so_far : Answered c.args.pairs.now c.loop-i.pairs c.args.calls.now (c.at.result.now ∷ drop (c.loop-i.i + 1) c.args.calls.now) c.loop-i.replies c.loop-i.writes =
    subst (λ left. Answered c.args.pairs.now c.loop-i.pairs c.args.calls.now left c.loop-i.replies c.loop-i.writes) (drop-at c.args.calls.now c.loop-i.i c.at.result.now c.at.ensures) c.loop-i.invariant in
    let pushed : c.push.new.self ≡ c.loop-i.replies ++ (answer c.loop-i.pairs c.at.result.now).0 ∷ [] =
    c.in_ok-push.ensures.ok ∙ ap (λ reply. c.loop-i.replies ++ reply ∷ []) c.in_ok-answer_call.ensures.reply in
    subst (λ replies. Answered c.args.pairs.now c.answer_call.new.pairs c.args.calls.now (drop (c.loop-i.i + 1) c.args.calls.now) replies c.answer_call.new.writes) (sym pushed)
    (one_more c.args.pairs.now c.loop-i.pairs c.answer_call.new.pairs c.args.calls.now c.at.result.now (drop (c.loop-i.i + 1) c.args.calls.now) c.loop-i.replies c.loop-i.writes c.answer_call.new.writes so_far c.in_ok-answer_call.ensures.order c.in_ok-answer_call.ensures.map c.in_ok-answer_call.ensures.writes)

pub returns-clause-replies : goal.returns-clause-replies
unfolding replies_to
returns-clause-replies c =
    sym (append-nil c.loop-i.replies) ∙ ap (λ left. c.loop-i.replies ++ replies_to c.loop-i.pairs left) (sym (drop_all c.loop-i.i c.args.calls.now (omega arith))) ∙ c.loop-i.invariant.replies_so_far

pub returns-clause-writes : goal.returns-clause-writes
unfolding writes_of
returns-clause-writes c =
    sym (append-nil c.loop-i.writes) ∙ ap (λ left. c.loop-i.writes ++ writes_of c.loop-i.pairs left) (sym (drop_all c.loop-i.i c.args.calls.now (omega arith))) ∙ c.loop-i.invariant.writes_so_far

pub returns-clause-map : goal.returns-clause-map
unfolding writes_of map_after
returns-clause-map c =
    ap (λ left. map_after c.loop-i.pairs (writes_of c.loop-i.pairs left)) (sym (drop_all c.loop-i.i c.args.calls.now (omega arith))) ∙ c.loop-i.invariant.map_so_far

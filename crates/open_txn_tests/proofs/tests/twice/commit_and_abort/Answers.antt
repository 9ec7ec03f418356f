use Rattle.std.proofs.Common.{◌≡◌, List, [], ◌∷◌, ◌++◌, Ok, arith, ap, ◌∙◌, subst, sym}
use Rattle.fine_model.specs.declared.Row.{Row}
use Rattle.fine_model.specs.Pushed.{all_pushed}
use Rattle.fine_model.specs.Store.{replies_to}
use Rattle.fine_model.specs.Trees.{map_of}
use Rattle.btree_nodes.specs.Trees.{Holds, Serves}
use Rattle.txn_draft.specs.Answers.{AnswersSoundly}
use Rattle.txn_draft.specs.Drafts.{IsAnswered, blank}
use Rattle.txn_draft.specs.Uses.{IsUsed}
use Rattle.open_txn_tests.specs.Twice.{AnsweredOr}
use Rattle.txn_draft.proofs.Undoing.{restored}
use Rattle.open_txn_tests.proofs.Taken.{answered_or, serves_settled}
use Rattle.txn_draft.proofs.Lawful.{blank_law, taken_law}
use Rattle.open_txn_tests.proofs.tests.twice.commit_and_abort.Goals as goal

pub answer-answer-requires-clause-bucket : goal.answer-answer-requires-clause-bucket
answer-answer-requires-clause-bucket g c = c.settle.ensures.number ∙ c.in_ok-answer.ensures.number ∙ c.requires.same

pub returns : goal.returns
returns g c = record {
  sound = λ rows serves holds small sound.
      let d = c.args.first.now in
      let d1 = c.answer.new.self in
      let is_blank : d ≡ blank c.requires.first.0 c.requires.first.1 = c.requires.first.2 in
      let then_blank : c.args.second.now ≡ blank c.requires.second.0 c.requires.second.1 = c.requires.second.2 in
      let b1 = c.answer.new.bucket in
      let b2 = c.settle.new.bucket in
      let none : d.rows ≡ [] = ap (λ x. x.rows) is_blank in
      let first = c.in_ok-answer.ensures.sound rows serves (subst (IsAnswered rows) (sym is_blank) (blank_law c.requires.first.0 c.requires.first.1 rows small sound)) (subst (Holds c.args.bucket.now rows) (sym none) holds) in
      let entry = c.take_entry-entry.result in
      let own : entry.rows ≡ d1.rows = ap (λ e. e.rows) c.take_entry-entry.ensures.entry in
      let calls : d1.calls ≡ c.args.call.now ∷ [] = ap (λ x. x.calls) c.in_ok-answer.ensures.kept.is ∙ ap (λ cs. cs ++ c.args.call.now ∷ []) (ap (λ x. x.calls) is_blank) in
      let used : IsUsed _ c.args.bucket.now b1 d1.rows = c.in_ok-answer.ensures.used (g.S.NodeSource.upper c.args.source.now) c.args.bucket.now
      (subst (IsUsed (g.S.NodeSource.upper c.args.source.now) c.args.bucket.now c.args.bucket.now) (sym none) (taken_law (g.S.NodeSource.upper c.args.source.now) c.args.bucket.now c.requires.resting)) (omega arith) in
      let then_holds : Holds b2 (rows ++ d1.rows) [] = c.settle.ensures.holds rows d1.rows first.1 in
      let then_serves : Serves _ b2 (rows ++ d1.rows) = serves_settled c.args.published c.args.epoch _ c.args.bucket.now b1 b2 d1.rows c.requires.later.0 c.requires.later.1 c.requires.kept used c.settle.ensures.number c.settle.ensures.kept
      (g.S.NodeSource.tells c.answer.new.source) rows (c.in_ok-answer.ensures.serves rows serves) first.1 in
      let second : AnswersSoundly (rows ++ d1.rows) c.args.next_call.now c.args.second.now c.answer-answer.new.self c.answer-answer.new.bucket c.answer-answer.result =
      c.answer-answer.ensures.sound (rows ++ d1.rows) then_serves
      (subst (IsAnswered (rows ++ d1.rows)) (sym then_blank) (blank_law c.requires.second.0 c.requires.second.1 (rows ++ d1.rows) first.0.leaves.small first.0.leaves.has_map.sound))
      (subst (Holds b2 (rows ++ d1.rows)) (sym (ap (λ x. x.rows) then_blank)) then_holds) in record {
        replies = ap (λ e. e.replies) c.take_entry-entry.ensures.entry ∙ first.0.replies ∙ ap (replies_to (map_of rows)) calls;
        pushes = ap (all_pushed rows) (sym calls) ∙ first.0.is_pushed ∙ ap Ok (sym own);
        answered = subst (λ (rs : List Row). AnsweredOr c.answer-answer.result (IsAnswered (rows ++ rs) c.answer-answer.new.self)) (sym own) (answered_or (rows ++ d1.rows) c.args.next_call.now c.args.second.now c.answer-answer.new.self c.answer-answer.new.bucket c.answer-answer.result second);
        holds = subst (λ (rs : List Row). Holds c.undo.new.bucket (rows ++ rs) []) (sym own) (c.undo.ensures.holds (rows ++ d1.rows) (restored (rows ++ d1.rows) c.args.next_call.now c.args.second.now c.answer-answer.new.self c.answer-answer.new.bucket c.answer-answer.result second));
      };
}

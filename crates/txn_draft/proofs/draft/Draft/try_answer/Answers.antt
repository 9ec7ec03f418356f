use Rattle.std.proofs.Common.{refl, Ok, Err}
use Rattle.fine_model.specs.declared.FetchFault.{FetchFault}
use Rattle.txn_draft.proofs.Tried.{tried_ok, tried_fault, opened}
use Rattle.txn_draft.proofs.draft.Draft.try_answer.Goals as goal

pub returns-in_ok-note-in-Ok-clause-tried : goal.returns-in_ok-note-in-Ok-clause-tried
returns-in_ok-note-in-Ok-clause-tried g c =
    let tells = g.S.NodeSource.tells c.args.source.now in
    let finds = g.S.NodeSource.finds c.args.source.now in
    let upper = g.S.NodeSource.upper c.args.source.now in
    let F : FetchFault → Type 0 = λ failed. g.S.NodeSource.fails c.args.source.now failed c.step.new.source in
    opened tells finds upper c.args.bucket.now c.step.new.bucket _ c.args.self.now c.note.new.self c.args.call.now F (Ok c.in_ok-note-in-Ok.field-0) c.self.view_is
    (tried_ok tells finds upper c.args.bucket.now c.step.new.bucket _ c.note.new.self c.args.call.now F c.in_ok-note-in-Ok.field-0 (c.in-Ok.reply, c.in-Ok.write) c.step.new.log c.in_ok-note-in-Ok.ensures.ok c.in-Ok.ensures.step)

pub returns-in-Err-clause-tried : goal.returns-in-Err-clause-tried
returns-in-Err-clause-tried g c =
    let tells = g.S.NodeSource.tells c.args.source.now in
    let finds = g.S.NodeSource.finds c.args.source.now in
    let upper = g.S.NodeSource.upper c.args.source.now in
    let F : FetchFault → Type 0 = λ failed. g.S.NodeSource.fails c.args.source.now failed c.step.new.source in
    opened tells finds upper c.args.bucket.now c.step.new.bucket _ c.args.self.now _ c.args.call.now F (Err c.in-Err.fault) c.self.view_is
    (tried_fault tells finds upper c.args.bucket.now c.step.new.bucket _ _ c.args.call.now F c.in-Err.fault refl c.in-Err.ensures.step)

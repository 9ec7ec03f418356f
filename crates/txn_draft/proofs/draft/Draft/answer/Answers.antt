use Rattle.fine_model.specs.declared.FetchFault.{FetchFault}
use Rattle.txn_draft.proofs.Tried.{failed_is, change_of, kept_of, left_of, fits_of, used_of, number_of, loads_of, fails_of, serves_of, sound_of}
use Rattle.txn_draft.proofs.draft.Draft.answer.Goals as goal

pub returns : goal.returns
returns g c =
    let tells = g.S.NodeSource.tells c.args.source.now in
    let finds = g.S.NodeSource.finds c.args.source.now in
    let upper = g.S.NodeSource.upper c.args.source.now in
    let b = c.args.bucket.now in
    let b' = c.try_answer-answer.new.bucket in
    let d = c.args.self.now in
    let d' = c.try_answer-answer.new.self in
    let call = c.args.call.now in
    let F : FetchFault → Type 0 = λ failed. g.S.NodeSource.fails c.args.source.now failed c.try_answer-answer.new.source in
    let r = c.try_answer-answer.result in
    let failed = failed_is _ d' c.failed_after-self-inside.result r c.self.view_is c.failed_after-self-inside.ensures in
    let tried = c.try_answer-answer.ensures.tried in record {
      later = c.try_answer-answer.ensures.later;
      clean = c.try_answer-answer.ensures.clean;
      change = change_of tells finds upper b b' d d' call F _ r failed tried;
      kept = kept_of tells finds upper b b' d d' call F _ r failed tried c.requires.bucket;
      left = left_of tells finds upper b b' d d' call F _ r failed tried c.try_answer-answer.ensures.place;
      fits = fits_of tells finds upper b b' d d' call F _ r failed tried c.requires.bucket;
      used = used_of tells finds upper b b' d d' call F _ r failed tried;
      number = number_of tells finds upper b b' d d' call F _ r failed tried;
      loads = loads_of tells finds upper b b' d d' call F _ r failed tried;
      serves = serves_of tells finds upper b b' d d' call F _ r failed tried _ (λ known. g.met.S.NodeSource.later_tells _ _ known c.try_answer-answer.ensures.later);
      fails = fails_of tells finds upper b b' d d' call F _ r failed tried;
      sound = sound_of tells finds upper b b' d d' call F _ r failed tried;
    }

use Rattle.std.proofs.Common.{ℕ, [], append-nil, ap, ◌∙◌, subst, sym}
use Rattle.fine_model.specs.declared.Reply.TheVariants as reply
use Rattle.txn_draft.specs.Drafts.{noted}
use Rattle.txn_draft.specs.Scans.{IsFirst, limit_of}
use Rattle.txn_draft.proofs.Answered.{fits_more}
use Rattle.txn_draft.proofs.Gathered.{found_answered}
use Rattle.txn_draft.proofs.draft.Draft.found.Goals as goal

pub returns-in-Ok-clause-sound : goal.returns-in-Ok-clause-sound
returns-in-Ok-clause-sound c = λ rows low high limit is a kept.
    found_answered rows low high limit c.args.self.now c.note.new.self c.args.scan.pairs c.first_of-pairs.result a kept
    (subst (λ (n : ℕ). IsFirst n c.args.scan.pairs c.first_of-pairs.result) (c.limit_of-limit.ensures ∙ ap limit_of is)
    (subst (λ pairs. IsFirst c.limit_of-limit.result pairs c.first_of-pairs.result) (ap (λ s. s.pairs) c.scan.view_is) c.first_of-pairs.ensures))
    (c.in-Ok.ensures.ok ∙ ap (λ k. noted c.args.self.now k (reply.Found c.first_of-pairs.result) []) is)

pub returns-in-Ok-clause-kept : goal.returns-in-Ok-clause-kept
returns-in-Ok-clause-kept c = record {
  first = c.first_of-pairs.result;
  is_first =
      subst (λ (n : ℕ). IsFirst n c.args.scan.pairs c.first_of-pairs.result) c.limit_of-limit.ensures
      (subst (λ pairs. IsFirst c.limit_of-limit.result pairs c.first_of-pairs.result) (ap (λ s. s.pairs) c.scan.view_is) c.first_of-pairs.ensures);
  is = c.in-Ok.ensures.ok;
}

pub returns-in-Ok-clause-fits : goal.returns-in-Ok-clause-fits
returns-in-Ok-clause-fits c = λ fits.
    fits_more [] c.args.self.now c.note.new.self c.args.call.now (ap (λ d. d.calls) c.in-Ok.ensures.ok) (ap (λ d. d.rows) c.in-Ok.ensures.ok ∙ sym (append-nil c.args.self.now.rows))
    (record { fit = tt; here = tt }) fits

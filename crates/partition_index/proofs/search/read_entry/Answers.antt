use Rattle.std.proofs.Common.{◌∙◌, subst}
use Rattle.std.proofs.lemmas.Bool.{false≢true}
use Rattle.fine_model.specs.Seek.{entry_place}
use Rattle.partition_index.specs.Search.{IsRangeAt}
use Rattle.partition_index.proofs.search.read_entry.Goals as goal

pub returns-clause-none : goal.returns-clause-none
returns-clause-none g c =
    let known = (g.E.LogEye.state c.args.eye.now).told in
    let p = c.args.part.now in
    let range : IsRangeAt known p (entry_place p.header c.args.i) c.read_body.new.out =
    subst (λ at. IsRangeAt known p at c.read_body.new.out) c.entry_place-at.ensures (c.read_body.ensures.bytes (λ f. false≢true (c.if-is_err.ensures.value ∙ f))) in
    c.entry_in.ensures.none known range

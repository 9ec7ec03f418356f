use Rattle.std.proofs.Common.{nat_eq, sym, ap, ◌∙◌}
use Rattle.std.specs.Map.{set_value}
use Rattle.std.proofs.lemmas.Map.Steps.{set_value_same}
use Rattle.node_cache.proofs.Kept.{on_err, whole_absent}
use Rattle.node_cache.proofs.original.keep_whole_in.Goals as goal

pub returns-in-Some-get_mut-clause-err : goal.returns-in-Some-get_mut-clause-err
returns-in-Some-get_mut-clause-err c =
    let es = c.args.saved.now.entries in
    let t = nat_eq c.args.number in
    on_err c.make_whole.result (λ same. (c.get_mut.follows.holds _).0 ∙ ap (set_value t es) same ∙ set_value_same t es c.in-Some-get_mut.original.now (sym (c.in-Some-get_mut.ensures).value)) c.make_whole.ensures.err

pub returns-in_default-clause-ok : goal.returns-in_default-clause-ok
returns-in_default-clause-ok c = sym (whole_absent (nat_eq c.args.number) c.args.saved.now.entries _ (sym (c.in_default.ensures).value) c.requires.stands)

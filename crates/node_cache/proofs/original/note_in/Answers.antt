use Rattle.std.proofs.Common.{◌≡◌, nat_eq, false, is_some, ◌++◌, [], ◌∷◌, sym, ap, ◌∙◌}
use Rattle.std.specs.Map.{lookup, set_value}
use Rattle.std.proofs.lemmas.Map.Steps.{set_value_same}
use Rattle.indexmap.proofs.CallerLemmas.{insert_entry-new}
use Rattle.node_cache.specs.declared.original.Original.TheVariants as original
use Rattle.node_cache.specs.Originals.{noted_at}
use Rattle.node_cache.proofs.Moved.{none_found}
use Rattle.node_cache.proofs.Kept.{on_err}
use Rattle.node_cache.proofs.original.note_in.Goals as goal

pub returns-in-Some-clause-err : goal.returns-in-Some-clause-err
returns-in-Some-clause-err c =
    let es = c.args.saved.now.entries in
    let t = nat_eq c.args.number in
    on_err c.add_change.result (λ same. (c.get_mut.follows.holds _).0 ∙ ap (set_value t es) same ∙ set_value_same t es c.in-Some.original.now (sym (c.in-Some.ensures).value)) c.add_change.ensures.err

pub returns-clause-ok : goal.returns-clause-ok
returns-clause-ok c =
    let es = c.args.saved.now.entries in
    let k = c.args.number in
    let absent : is_some (lookup (nat_eq k) es) ≡ false = sym c.contains_key.ensures ∙ c.if-contains_key.false in
    let none = none_found (lookup (nat_eq k) es) absent in
    (c.in-Ok.ensures).entries
    ∙ insert_entry-new nat_eq c.reserve.new.self k (original.Changed c.args.undo) (ap (lookup (nat_eq k)) c.reserve.ensures.entries ∙ none)
    ∙ ap (λ fs. fs ++ (k, original.Changed c.args.undo) ∷ []) c.reserve.ensures.entries
    ∙ sym (ap (λ o. noted_at o k c.args.undo es) none)

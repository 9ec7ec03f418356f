use Rattle.std.proofs.Common.{Some, nat_eq, refl, ◌∙◌}
use Rattle.std.specs.Map.{lookup}
use Rattle.std.proofs.lemmas.Bool.{cond-false}
use Rattle.indexmap.proofs.CallerLemmas.{insert_entry-new}
use Rattle.node_cache.proofs.Saves.{behind_first, none_behind, once_but, pushed_behind}
use Rattle.node_cache.proofs.saved.Saved.push.Goals as goal

pub returns-clause-ok : goal.returns-clause-ok
returns-clause-ok c =
    let s = c.args.self.now in
    let n = c.args.number in
    pushed_behind s.first s.others.entries c.insert.new.self.entries (n, c.args.original) ((c.in_ok-insert.ensures).entries ∙ insert_entry-new nat_eq s.others n c.args.original (none_behind n s c.requires.absent))

pub returns-clause-once : goal.returns-clause-once
returns-clause-once c =
    let s = c.args.self.now in
    let n = c.args.number in
    once_but n s _ c.requires.once refl (behind_first n s c.requires.absent) (c.in_ok-insert.ensures).unique (λ q differs. (c.in_ok-insert.ensures).updates.0 q ∙ cond-false (nat_eq n q) (Some c.args.original) (lookup (nat_eq q) s.others.entries) differs)

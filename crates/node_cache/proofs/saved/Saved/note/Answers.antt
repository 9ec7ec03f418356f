use Rattle.std.proofs.Common.{◌≡◌, false, IfSome, nat_eq, sym, ap, subst, ◌∙◌}
use Rattle.node_cache.proofs.Saves.{SameOthers, once_but, others_noted, unequal}
use Rattle.node_cache.proofs.saved.Saved.note.Goals as goal
use Rattle.node_cache.proofs.saved.Saved.note.Goals.{in-Some+else-number-first, in-None+else-is_empty}

pub returns-clause-once : goal.returns-clause-once
returns-clause-once c =
    let s = c.args.self.now in
    let n = c.args.number in
    let same = others_noted n c.args.undo c.match-self.self.others.entries c.note_in.new.saved.entries c.note_in.result c.note_in.ensures.ok c.note_in.ensures.err in
    elim c.match-self.branch [
      | in-Some+else-number-first w ↦ once_but n s _ c.requires.once (ap (λ m. m.first) w.self-is ∙ sym w.in-Some.is) (subst (λ f. IfSome f (λ p. nat_eq n p.0 ≡ false)) (sym w.in-Some.is) (unequal n w.in-Some.first w.if-number-first.false)) c.note_in.ensures.unique (subst (λ m. SameOthers n m.others.entries c.note_in.new.saved.entries) w.self-is same)
      | in-None+else-is_empty w ↦ once_but n s _ c.requires.once (ap (λ m. m.first) w.self-is) (subst (λ f. IfSome f (λ p. nat_eq n p.0 ≡ false)) (sym w.in-None.is) tt) c.note_in.ensures.unique (subst (λ m. SameOthers n m.others.entries c.note_in.new.saved.entries) w.self-is same)
    ]

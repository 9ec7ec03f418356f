use Rattle.std.proofs.Common.{◌≡◌, false, IfSome, nat_eq, sym, ap, subst, ◌∙◌}
use Rattle.node_cache.proofs.Saves.{SameOthers, once_but, others_whole, unequal}
use Rattle.node_cache.proofs.saved.Saved.keep_whole.Goals as goal
use Rattle.node_cache.proofs.saved.Saved.keep_whole.Goals.{in-Some+else-number-first, in_default}

pub returns-clause-once : goal.returns-clause-once
returns-clause-once c =
    let s = c.args.self.now in
    let n = c.args.number in
    let same = others_whole n c.match-self.self.others.entries c.keep_whole_in.new.saved.entries c.keep_whole_in.result c.keep_whole_in.ensures.ok c.keep_whole_in.ensures.err in
    elim c.match-self.branch [
      | in-Some+else-number-first w ↦ once_but n s _ c.requires.once (ap (λ m. m.first) w.self-is ∙ sym w.in-Some.is) (subst (λ f. IfSome f (λ p. nat_eq n p.0 ≡ false)) (sym w.in-Some.is) (unequal n w.in-Some.first w.if-number-first.false)) c.keep_whole_in.ensures.unique (subst (λ m. SameOthers n m.others.entries c.keep_whole_in.new.saved.entries) w.self-is same)
      | in_default w ↦ once_but n s _ c.requires.once (ap (λ m. m.first) w.self-is) (subst (λ f. IfSome f (λ p. nat_eq n p.0 ≡ false)) (sym w.in_default.is) tt) c.keep_whole_in.ensures.unique (subst (λ m. SameOthers n m.others.entries c.keep_whole_in.new.saved.entries) w.self-is same)
    ]

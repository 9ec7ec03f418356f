use Rattle.std.proofs.Common.{arith, refl, sym, subst}
use Rattle.std.specs.Prelude.{List}
use Rattle.std.specs.Vec.{with_items}
use Rattle.std.proofs.lemmas.List.{with_items_is}
use Rattle.node_cache.specs.Cache.{Cache, before, undone, evicted}
use Rattle.txn_draft.specs.Standing.{IsLeft}
use Rattle.open_txn.specs.Buckets.{BucketsValue}
use Rattle.open_txn.specs.Endings.{EndEach}
use Rattle.open_txn.proofs.Standing.{ended_are, ended_touched, left_each, undo_stands}
use Rattle.open_txn.proofs.buckets.Buckets.undo.Goals as goal

abbrev new : goal.After-self-1 → BucketsValue
new c = record { buckets = (with_items c.self.inside.buckets c.undo_touched.new.buckets).items; touched = c.undo_touched.new.touched }

abbrev old : goal.After-self-1 → BucketsValue
old c = record { buckets = c.self.inside.buckets.items; touched = c.self.inside.touched }

ended : (c : goal.After-self-1) → EndEach (λ b. evicted c.args.published c.args.keep (undone b)) (λ b new. IsLeft c.args.published (before b) b new) c.self.inside.touched c.self.inside.buckets.items (with_items c.self.inside.buckets c.undo_touched.new.buckets).items
ended c =
    let now = subst (λ (l : List Cache). EndEach (λ b. evicted c.args.published c.args.keep (undone b)) (λ b new. IsLeft c.args.published (before b) b new) c.self.inside.touched l c.undo_touched.new.buckets) c.deref_mut.ensures.value c.undo_touched.ensures.ends in
    let many = now.many in
    subst (λ (l : List Cache). EndEach (λ b. evicted c.args.published c.args.keep (undone b)) (λ b new. IsLeft c.args.published (before b) b new) c.self.inside.touched c.self.inside.buckets.items l)
    (sym (with_items_is c.self.inside.buckets c.undo_touched.new.buckets (omega (arith, many, c.self.inside.buckets.ok.0)))) now

pub returns-clause-stands : goal.returns-clause-stands
returns-clause-stands c = rw (← c.self.view_is) (undo_stands (λ b. evicted c.args.published c.args.keep (undone b)) (λ b new. IsLeft c.args.published (before b) b new) (old c) (new c) c.self.invariant (ended c) c.undo_touched.ensures.untouched c.args.published (λ b z left. left))

pub returns-clause-ends : goal.returns-clause-ends
returns-clause-ends c = rw (← c.self.view_is) (ended_touched (λ b. evicted c.args.published c.args.keep (undone b)) (λ b new. IsLeft c.args.published (before b) b new) (old c) (new c) c.self.invariant (ended c) c.undo_touched.ensures.untouched)

pub returns-clause-left : goal.returns-clause-left
returns-clause-left c = rw (← c.self.view_is) (left_each (λ b. evicted c.args.published c.args.keep (undone b)) (λ b new. IsLeft c.args.published (before b) b new) (old c) (new c) c.self.invariant (ended c) c.undo_touched.ensures.untouched c.args.published before (λ b z left. left))

pub returns-clause-whole : goal.returns-clause-whole
returns-clause-whole c = ended_are (λ b. evicted c.args.published c.args.keep (undone b)) (λ b new. IsLeft c.args.published (before b) b new) (old c) (new c) c.self.invariant (ended c) c.undo_touched.ensures.untouched (λ b. refl)

pub invariant_of-self : goal.invariant_of-self
invariant_of-self c = ended_are (λ b. evicted c.args.published c.args.keep (undone b)) (λ b new. IsLeft c.args.published (before b) b new) (old c) (new c) c.self.invariant (ended c) c.undo_touched.ensures.untouched (λ b. refl)

use Rattle.std.proofs.Common.{Bor, ◌≡◌, ◌+◌, ◌≤◌, List, ℕ, [], map, sym, subst, arith, eqb-true, length}
use Rattle.std.proofs.lemmas.List.{nil_from_length}
use Rattle.partition_merge.specs.Leaves.{LeadsTo}
use Rattle.partition_merge.proofs.Leaves.{changes_next}
use Rattle.partition_merge.proofs.leaf.change_all.Goals as goal

pub loop-left-preserved : goal.loop-left-preserved
loop-left-preserved c mark content more start =
    let show : Bor (List ℕ) → List ℕ = λ t. t.now in
    let moves : c.in-Some.next ≡ c.loop-left.version + 1 = omega (arith, c.if-next-version.false, c.if-next-version-ne1.false) in
    let no_image : 4 ≤ c.in-Some.kind = omega (arith, c.if-kind-lt-PUT.false) in
    let p = changes_next mark content more (map show c.loop-left.pairs) c.loop-left.left.now c.loop-left.version c.in-Some.kind c.in-Some.next c.in-Some.text.now c.in-Some.behind.now
    (c.loop-left.invariant mark content more start) c.in-Some.ensures.shorter c.in-Some.ensures.read no_image moves in
    p.leads (map show c.change.new.pairs) (c.in_ok-change.ensures p.pairs p.change p.leaf p.fits p.of_kind p.spelled c.if-not-branch.false)

pub returns : goal.returns
returns c mark content more start =
    let show : Bor (List ℕ) → List ℕ = λ t. t.now in
    let none : c.loop-left.left.now ≡ [] = nil_from_length c.loop-left.left.now (eqb-true (length c.loop-left.left.now) 0 (sym c.loop-left-test.ensures)) in
    subst (λ left. LeadsTo mark content (map show c.loop-left.pairs) c.loop-left.version left more) none (c.loop-left.invariant mark content more start)

use Rattle.std.proofs.Common.{rules, ◌≡◌, ◌++◌, ◌∷◌, []}
use Rattle.merge_policy.proofs.Gathered.{none_seen, seen_all, seen_more}
use Rattle.merge_policy.proofs.young.young_from.Goals as goal

pub loop-part-init : goal.loop-part-init
loop-part-init c = none_seen c.args.most c.args.parts.now

pub returns-then-most-behind : goal.returns-then-most-behind
returns-then-most-behind c =
    let is : c.loop-part.left.now ≡ c.in-Some.before.now ++ c.in-Some.part.now ∷ [] = search rules in
    seen_all c.args.most c.args.parts.now c.loop-part.left.now c.loop-part.behind c.loop-part.count c.loop-part.oldest c.loop-part.invariant c.in-Some.before.now c.in-Some.part.now is c.part_len-len.result c.part_len-len.ensures.is
    c.if-most-behind.true

pub loop-part-preserved : goal.loop-part-preserved
loop-part-preserved c =
    let is : c.loop-part.left.now ≡ c.in-Some.before.now ++ c.in-Some.part.now ∷ [] = search rules in
    seen_more c.args.most c.args.parts.now c.loop-part.left.now c.loop-part.behind c.loop-part.count c.loop-part.oldest c.loop-part.invariant c.in-Some.before.now c.in-Some.part.now is c.part_len-len.result c.part_len-len.ensures.is
    c.if-most-behind.false c.with_part-oldest.result c.with_part-oldest.ensures

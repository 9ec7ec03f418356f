use Rattle.std.proofs.Common.{◌≡◌, ◌<◌, arith, add-one, slice_get, length, Some}
use Rattle.std.proofs.lemmas.Option.{slice_get_within}
use Rattle.fine_model.specs.Map.{Pair}
use Rattle.fine_model.proofs.Ordered.Order.{below_more}
use Rattle.plain_model.proofs.store.place_of.Goals as goal

pub loop-i-preserved : goal.loop-i-preserved
loop-i-preserved c = record {
  within = omega arith;
  below = rw add-one (below_more c.args.key.now c.args.pairs.now c.loop-i.i c.at.result.now c.at.ensures c.loop-i.invariant.below (grind arith));
}

pub returns : goal.returns
returns c = record {
  within = c.loop-i.invariant.within;
  below = c.loop-i.invariant.below;
  here = λ (p : Pair) (is : slice_get c.args.pairs.now c.loop-i.i ≡ Some p). let h : c.loop-i.i < length c.args.pairs.now = slice_get_within c.args.pairs.now c.loop-i.i p is in absurd (omega arith);
}

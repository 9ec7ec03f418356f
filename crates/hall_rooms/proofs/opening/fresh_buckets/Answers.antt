use Rattle.std.proofs.Common.{◌∷◌, ◌++◌, [], ap, ◌∙◌, arith}
use Rattle.fine_places.proofs.Elements.{one_more}
use Rattle.hall_rooms.proofs.Fresh.{empty_bucket, fresh_buckets, next_bucket}
use Rattle.hall_rooms.proofs.opening.fresh_buckets.Goals as goal

pub loop-number-preserved : goal.loop-number-preserved
loop-number-preserved c =
    let i = c.loop-number.invariant in
    let p = c.push_reserved.ensures in
    let is = p.items ∙ ap (λ b. c.loop-number.buckets.items ++ b ∷ []) c.in_ok-new.ensures in
    let n = one_more c.loop-number.buckets.items c.push_reserved.new.self.items (empty_bucket c.loop-number.number) c.loop-number.number _ _ is i.long i.len p.len in
    record {
      len = n.1;
      long = n.0;
      room = let room = i.room in let cap = p.capacity in omega (arith, room, cap);
      each = next_bucket c.loop-number.buckets.items c.push_reserved.new.self.items c.loop-number.number i.long is i.each;
    }

pub returns : goal.returns
returns c = let i = c.loop-number.invariant in fresh_buckets c.loop-number.buckets.items (let long = i.long in omega (arith, long)) i.each

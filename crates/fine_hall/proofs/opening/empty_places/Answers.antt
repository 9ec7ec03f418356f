use Rattle.std.proofs.Common.{◌∷◌, ◌++◌, [], ap, sym, ◌∙◌, length, arith, length-append}
use Rattle.fine_hall.specs.Opening.{bucket_slot}
use Rattle.fine_hall.proofs.Laying.{last_mapped, empties, same_bucket_in}
use Rattle.fine_hall.proofs.opening.empty_places.Goals as goal

pub loop-bucket-preserved : goal.loop-bucket-preserved
loop-bucket-preserved g c =
    let i = c.loop-bucket.invariant.left in
    let t = last_mapped bucket_slot i.0 c.take_bucket.new.slots.items (bucket_slot c.in-Some.bucket) (sym i.1 ∙ c.in-Some.ensures) in
    let same = same_bucket_in c.in-Some.bucket t.1 t.4 in
    let whole = t.2 ∙ ap (λ b. t.0 ++ b ∷ []) (sym same) in
    let p = c.push_reserved.ensures in
    let few = i.3 in
    let long = ap length t.2 ∙ length-append t.0 (t.1 ∷ []) in
    let len = p.len in
    let cap = p.capacity in
    record { left = (t.0, t.3, empties [] _ i.0 t.0 c.in-Some.bucket c.loop-bucket.buckets.items c.push_reserved.new.self.items c.args.slots.items whole p.items i.2, (omega arith)) }

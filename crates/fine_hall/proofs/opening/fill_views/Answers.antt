use Rattle.std.proofs.Common.{◌∙◌, arith}
use Rattle.fine_hall.proofs.Laying.{fills_view}
use Rattle.fine_hall.proofs.opening.fill_views.Goals as goal

pub loop-view-preserved : goal.loop-view-preserved
loop-view-preserved g c =
    let i = c.loop-view.invariant in
    let a = c.push_reserved.ensures in
    let b = c.push_reserved-in-Some.ensures in
    let d = c.push_reserved-in-Some-2.ensures in
    let p = c.in-Some.ensures in
    let room = i.room in
    let la = a.len in
    let lb = b.len in
    let ld = d.len in
    let lp = p.len in
    record {
      filled = fills_view c.loop-view.middles.items c.pop.new.self.items c.in-Some.view c.loop-view.slots.items c.push_reserved.new.self.items c.push_reserved-in-Some.new.self.items c.push_reserved-in-Some-2.new.self.items _ p.items a.items b.items d.items i.filled;
      room = omega (arith, room, la, lb, ld, lp);
      same = (p.capacity ∙ i.same.0, d.capacity ∙ (b.capacity ∙ (a.capacity ∙ i.same.1)));
    }

use Rattle.std.proofs.Common.{◌≡◌, ◌∙◌, ◌+◌, ◌-◌, ◌++◌, ap, sym, arith, append_assoc, length-append, length}
use Rattle.std.specs.Slots.{slots_items, slots_filled, slots_len}
use mathlib.Core.Option.{some}
use lib.ListN.{get_elem?}
use Rattle.fine_hall.specs.Ending.{view_in_slot, views_from}
use Rattle.fine_hall.proofs.Gathering.{one_taken, taken_as, views_next, views_fit}
use Rattle.fine_hall.proofs.closing.take_views.Goals as goal

pub keep_view-requires : goal.keep_view-requires
keep_view-requires g c =
    let i = c.loop-k.invariant in
    let at : get_elem? (slots_items c.args.closed.now.slots) c.loop-k.k ≡ some c.take.result = ap (λ l. get_elem? l c.loop-k.k) (sym i.same.0) ∙ c.take.ensures.value in
    let fit = views_fit (slots_items c.args.closed.now.slots) c.args.from c.loop-k.k c.args.to c.take.result c.loop-k.auto.k c.loop-k-test.true at in
    let long = ap length i.views ∙ length-append c.args.back.now.items (views_from (slots_items c.args.closed.now.slots) c.args.from (c.loop-k.k - c.args.from)) in
    let spare = c.requires.spare in
    let room = i.room in
    let n = c.loop-k.back.ok in
    let m = c.args.back.now.ok in
    record { spare = omega (arith, fit, long, spare, room, n, m) }

pub loop-k-preserved : goal.loop-k-preserved
loop-k-preserved g c =
    let i = c.loop-k.invariant in
    let at : get_elem? (slots_items c.args.closed.now.slots) c.loop-k.k ≡ some c.take.result = ap (λ l. get_elem? l c.loop-k.k) (sym i.same.0) ∙ c.take.ensures.value in
    let o = c.take.ensures.others in record {
      taken = taken_as _ _ _ _ (c.loop-k.k + 1) o.1 o.2 (one_taken (slots_filled c.loop-k.closed.slots) (slots_len c.loop-k.closed.slots) c.loop-k.k i.taken);
      same = (o.0 ∙ i.same.0, o.2 ∙ i.same.1);
      views = c.keep_view.ensures.view ∙ (ap (λ l. l ++ view_in_slot c.take.result) i.views
          ∙ (append_assoc c.args.back.now.items (views_from (slots_items c.args.closed.now.slots) c.args.from (c.loop-k.k - c.args.from)) (view_in_slot c.take.result)
          ∙ ap (λ l. c.args.back.now.items ++ l) (sym (views_next (slots_items c.args.closed.now.slots) c.args.from c.loop-k.k c.take.result c.loop-k.auto.k at))));
      room = c.keep_view.ensures.room ∙ i.room;
    }

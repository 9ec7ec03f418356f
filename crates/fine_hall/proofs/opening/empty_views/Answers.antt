use Rattle.std.proofs.Common.{◌≡◌, ◌∷◌, ◌++◌, List, Option, [], length, refl, ap, sym, ◌∙◌, arith, append-nil, length-append}
use Rattle.std.proofs.Common.{reverse}
use Rattle.std.proofs.lemmas.List.{length-reverse}
use Rattle.std.proofs.lemmas.Grind.{common_steps}
use Rattle.fine_hall.specs.declared.law.Load.{Load}
use Rattle.fine_hall.specs.Opening.{laid_views}
use Rattle.fine_hall.proofs.Laying.{last_of, none_of, unfold_last, empties_view}
use Rattle.fine_hall.proofs.opening.empty_views.Goals as goal

pub loop-init : goal.loop-init
loop-init g c = let r = c.requires.slots in let none = c.requires.emptied in record {
  left = (r.0, r.1, r.2, r.2 ∙ ap (λ l. r.0 ++ laid_views l) (sym (append-nil r.1) ∙ (λ i. r.1 ++ reverse (sym none.0 i))), (let n = r.3 in omega arith));
  counted = let e = ap length none.0 in grind (arith, common_steps);
  long = ap length none.0;
  room = (none.1, refl);
}

pub take_view-requires : goal.take_view-requires
take_view-requires g c = let i = c.loop.invariant.left in let n = i.4 in let more = c.loop-test.true in let l = last_of i.1 (omega arith) in
    (i.0 ++ laid_views l.0, l.1, i.2 ∙ (ap (λ (m : List g.row.V.Denot). i.0 ++ laid_views m) l.2 ∙ unfold_last i.0 l.0 l.1))

pub push_reserved-requires : goal.push_reserved-requires
push_reserved-requires g c = let n = c.loop.invariant.counted in let room = c.loop.invariant.room.0 in let more = c.loop-test.true in omega arith

pub loop-preserved : goal.loop-preserved
loop-preserved g c = let i = c.loop.invariant.left in let n = i.4 in let more = c.loop-test.true in let l = last_of i.1 (omega arith) in
    let p = c.push_reserved.ensures in
    let t = empties_view i.0 c.loop.slots.items c.take_view.new.slots.items c.args.slots.items i.1 l.0 l.1 c.take_view.result c.loop.middles.items c.push_reserved.new.self.items l.2 i.2 c.take_view.ensures p.items i.3 in
    let long = ap length l.2 ∙ length-append l.0 (l.1 ∷ []) in
    let counted = c.loop.invariant.counted in
    let room = c.loop.invariant.room.0 in
    let len = p.len in
    let cap = p.capacity in
    record {
      left = (i.0, l.0, t.0, t.1, (omega arith));
      counted = omega arith;
      long = let n = ap length p.items ∙ length-append c.loop.middles.items (c.take_view.result ∷ []) in let m = c.loop.invariant.long in omega arith;
      room = ((omega arith), refl);
    }

pub returns : goal.returns
returns g c = let i = c.loop.invariant.left in let n = i.4 in let done = c.loop-test.false in
    let none : i.1 ≡ [] = none_of i.1 (omega arith) in
    let slots : c.loop.slots.items ≡ i.0 = i.2 ∙ (ap (λ (m : List g.row.V.Denot). i.0 ++ laid_views m) none ∙ append-nil i.0) in
    let all = i.3 ∙ ap (λ (m : List g.row.V.Denot). i.0 ++ laid_views (m ++ reverse c.loop.middles.items)) none in
    let r = c.reverse.ensures in
    record {
      slots = all ∙ (ap (λ (m : List (Option (Load g.row.R.Denot g.row.B.Denot g.row.V.Denot))). m ++ laid_views (reverse c.loop.middles.items)) (sym slots) ∙ ap (λ (m : List g.row.V.Denot). c.loop.slots.items ++ laid_views m) (sym r.items));
      count = ap length r.items ∙ (length-reverse c.loop.middles.items ∙ (c.loop.invariant.long ∙ (let m = ap length none in omega arith)));
    }

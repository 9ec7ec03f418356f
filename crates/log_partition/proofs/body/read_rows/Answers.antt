use Rattle.std.proofs.Common.{◌<◌, ◌∷◌, [], List, length, take, refl, sym, ap, ◌∙◌, subst, arith, length-append, length-take}
use Rattle.fine_model.specs.declared.Row.{Row}
use Rattle.log_partition.specs.Bodies.{ReadSoFar}
use Rattle.log_partition.proofs.RowsRead.{none_read, read_more, bad_row, unordered_row}
use Rattle.log_partition.proofs.body.read_rows.Goals as goal

pub loop-init : goal.loop-init
loop-init c =
    let area = take c.args.header.now.area c.args.body.now in
    record {
      long = omega (arith, c.requires, length-take c.args.header.now.area c.args.body.now);
      is_area = refl;
      count = ap length c.new-rows.ensures;
      so_far = subst (λ (rs : List Row). ReadSoFar c.args.header.now.mark area rs 0) (sym c.new-rows.ensures) (none_read c.args.header.now.mark area);
    }

pub returns-in-Err-Bad-clause-err : goal.returns-in-Err-Bad-clause-err
returns-in-Err-Bad-clause-err c =
    let few : length c.loop.rows < c.args.header.now.rows = omega (arith, c.loop.invariant.count) in
    let fault = rw c.in-Err-Bad.field-0-is at c.in-Err-Bad.ensures.bad in
    bad_row c.args.header.now c.args.body.now c.loop.rows c.loop.at c.loop.invariant.so_far few fault.1

pub returns-then-not-is_next-clause-err : goal.returns-then-not-is_next-clause-err
returns-then-not-is_next-clause-err c =
    let few : length c.loop.rows < c.args.header.now.rows = omega (arith, c.loop.invariant.count) in
    unordered_row c.args.header.now c.args.body.now c.loop.rows c.loop.at c.in-Ok.found.0 c.in-Ok.found.1 c.loop.invariant.so_far few c.in-Ok.ensures.found (sym c.is_next.ensures ∙ c.if-not-is_next.true)

pub loop-preserved : goal.loop-preserved
loop-preserved c = record {
  long = c.loop.invariant.long;
  is_area = c.loop.invariant.is_area;
  count = omega (arith, ap length c.in_ok-push.ensures.ok, length-append c.loop.rows (c.in-Ok.found.0 ∷ []), c.loop.invariant.count);
  so_far = subst (λ (rs : List Row). ReadSoFar c.args.header.now.mark (take c.args.header.now.area c.args.body.now) rs c.in-Ok.found.1) (sym c.in_ok-push.ensures.ok)
      (read_more c.args.header.now.mark (take c.args.header.now.area c.args.body.now) c.loop.rows c.loop.at c.in-Ok.found.0 c.in-Ok.found.1 c.loop.invariant.so_far c.in-Ok.ensures.found (sym c.is_next.ensures ∙ c.if-not-is_next.false));
}

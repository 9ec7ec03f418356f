-- Row by row, by their frames.
use Rattle.std.proofs.Common.{◌≡◌, ◌≢◌, ◌+◌, ◌-◌, length, refl, sym, ◌∙◌, arith, length-take, eqb-true}
use Rattle.std.proofs.lemmas.Bool.{eqb-false}
use Rattle.fine_model.specs.Regions.{row_area}
use Rattle.fine_model.specs.RowBytes.{row_len}
use Rattle.node_record.specs.declared.key.RowAt.{RowAt}
use Rattle.row_gathering.proofs.FoundRows.{found_all, found_more, found_none, more_left, no_row, not_next}
use Rattle.row_gathering.proofs.body.find_rows.Goals as goal

pub loop-init : goal.loop-init
loop-init c = record {
  long = omega (arith, c.requires.long, length-take c.args.header.now.area c.args.body.now);
  is_area = refl;
  found = found_none c.args.header.now c.args.body.now c.args.start c.args.keys.now.items;
}

pub returns-in_default-clause-bad : goal.returns-in_default-clause-bad
returns-in_default-clause-bad c _ =
    no_row c.args.header.now c.args.body.now c.args.start c.args.keys.now.items c.loop.keys.items c.loop.last c.loop.counter c.loop.at c.loop.invariant.found (omega arith) c.in_default.ensures.bad

pub returns-then-not-is_next-clause-bad : goal.returns-then-not-is_next-clause-bad
returns-then-not-is_next-clause-bad c _ =
    let found = c.in-Ok.ensures.found in
    not_next c.args.header.now c.args.body.now c.args.start c.args.keys.now.items c.loop.keys.items c.loop.last
    (record { node = c.in-Ok.frame.node; version = c.in-Ok.frame.version; at = c.args.start + c.loop.at; len = c.in-Ok.frame.end - c.loop.at })
    c.loop.counter c.loop.at c.in-Ok.frame.end found.row c.loop.invariant.found (omega arith) found.is_row found.is_of.node found.is_of.version (sym c.is_next.ensures ∙ c.if-not-is_next.true)

pub loop-preserved : goal.loop-preserved
loop-preserved c =
    let found = c.in-Ok.ensures.found in
    let len : c.in-Ok.frame.end - c.loop.at ≡ row_len found.row = omega (arith, found.is_row.ends) in
    let key : RowAt = record { node = c.in-Ok.frame.node; version = c.in-Ok.frame.version; at = c.args.start + c.loop.at; len = c.in-Ok.frame.end - c.loop.at } in
    record {
      long = c.loop.invariant.long;
      is_area = refl;
      found = found_more c.args.header.now c.args.body.now c.args.start c.args.keys.now.items c.loop.keys.items c.push.new.self.items c.loop.last key c.loop.counter c.loop.at c.in-Ok.frame.end found.row c.loop.invariant.found found.is_row
          (λ i. record { node = found.is_of.node i; version = found.is_of.version i; at = c.args.start + c.loop.at; len = len i }) (sym c.is_next.ensures ∙ c.if-not-is_next.false) c.in_ok-push.ensures.items;
    }

pub returns-clause-good : goal.returns-clause-good
returns-clause-good c end =
    let all : c.loop.at ≡ length (row_area c.args.header.now c.args.body.now) = eqb-true c.loop.at (length (row_area c.args.header.now c.args.body.now)) end in
    found_all c.args.header.now c.args.body.now c.args.start c.args.keys.now.items c.loop.keys.items c.loop.last c.loop.counter c.loop.at c.loop.invariant.found (omega arith) c.loop.invariant.long (omega (arith, all))

pub returns-clause-bad : goal.returns-clause-bad
returns-clause-bad c other =
    let differ : c.loop.at ≢ length (row_area c.args.header.now c.args.body.now) = eqb-false c.loop.at (length (row_area c.args.header.now c.args.body.now)) other in
    more_left c.args.header.now c.args.body.now c.args.start c.args.keys.now.items c.loop.keys.items c.loop.last c.loop.counter c.loop.at c.loop.invariant.found (omega arith) (omega (arith, differ, c.loop.invariant.found.so_far.within))

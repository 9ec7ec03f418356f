use Rattle.std.proofs.Common.{◌≢◌, inl, arith}
use Rattle.fine_model.specs.declared.Part.{Part}
use Rattle.row_gathering.proofs.Bodies.{any_at, no_part}
use Rattle.row_gathering.proofs.gathering.bodies_len.Goals as goal

pub returns-then-part-ne1-clause-none : goal.returns-then-part-ne1-clause-none
returns-then-part-ne1-clause-none c = inl (any_at (λ (p : Part). p.header.regions ≢ 1) c.args.parts.now c.loop-part.part-index no_part (omega arith) c.if-part-ne1.true)

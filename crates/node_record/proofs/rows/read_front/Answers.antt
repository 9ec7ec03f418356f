use Rattle.std.proofs.Common.{drop, refl, arith, length-drop}
use Rattle.node_record.proofs.Readers.{IsBytes-drop}
use Rattle.node_record.proofs.RowLaws.{front_short}
use Rattle.node_record.proofs.rows.read_front.Goals as goal

pub returns-then-bytes-start-lt-ROW_FRONT : goal.returns-then-bytes-start-lt-ROW_FRONT
returns-then-bytes-start-lt-ROW_FRONT c =
    let bytes = c.args.bytes.now in
    (refl, front_short c.args.mark (drop c.args.start bytes) (IsBytes-drop c.args.start bytes (λ i. omega (arith, c.type_inv.bytes i))) (omega (arith, length-drop c.args.start bytes, c.if-bytes-start-lt-ROW_FRONT.true)))

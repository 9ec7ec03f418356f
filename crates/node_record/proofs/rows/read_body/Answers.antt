use Rattle.std.proofs.Common.{ap, sym, ◌∙◌, drop, Some, arith, to_z-of_z}
use Rattle.fine_model.specs.declared.Rec.TheVariants as rec
use Rattle.node_record.specs.Reading.{body_at}
use Rattle.node_record.proofs.Readers.{IsBytes-drop}
use Rattle.node_record.proofs.RowsRead.{plus_takes}
use Rattle.node_record.proofs.rows.read_body.Goals as goal

pub returns-in_ok-key-in-8 : goal.returns-in_ok-key-in-8
unfolding body_at
returns-in_ok-key-in-8 c =
    let read = c.in_ok-key-in-8.ensures (λ key child. rec.Link key child) in
    (read.0, ap (λ k. body_at k (drop c.args.at c.args.bytes.now)) c.in-8.is ∙ read.1)

pub returns-in_ok-key-in-9 : goal.returns-in_ok-key-in-9
unfolding body_at
returns-in_ok-key-in-9 c =
    let read = c.in_ok-key-in-9.ensures (λ key by. rec.Plus key by) in
    let whole = plus_takes (drop c.args.at c.args.bytes.now) (rec.Plus c.in_ok-key-in-9.key c.in_ok-key-in-9.by) (drop c.in_ok-key-in-9.end c.args.bytes.now) (IsBytes-drop c.args.at c.args.bytes.now (λ i. omega (arith, c.type_inv.bytes i))) read.1 in (
      read.0,
      ap (λ k. body_at k (drop c.args.at c.args.bytes.now)) c.in-9.is ∙ read.1 ∙ ap (λ by. Some (rec.Plus c.in_ok-key-in-9.key by, drop c.in_ok-key-in-9.end c.args.bytes.now)) (sym (to_z-of_z whole.fits.1)),
    )

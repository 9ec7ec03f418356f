use Rattle.std.proofs.Common.{◌∙◌, ◌+◌, ◌≡◌, ap, arith}
use Rattle.std.specs.Int.{from_be_bytes, w16, w32, w64}
use Rattle.fine_model.specs.RowBytes.{row_len}
use Rattle.node_record.proofs.Fronts.{read_bucket, read_number, read_version, read_len, len_small, spelled_at}
use Rattle.node_record.proofs.key.front_at.Goals as goal

pub overflow_add-result : goal.overflow_add-result
overflow_add-result c =
    let len = c.from_be_bytes-4.ensures ∙ ap (from_be_bytes w32) c.part-4.ensures ∙ read_len c.args.bytes.now c.args.at c.requires.0 c.requires.1 in
    omega (arith, len, len_small c.args.bytes.now c.args.at c.requires.0 c.requires.1)

pub returns-clause-key : goal.returns-clause-key
returns-clause-key c row starts =
    let bytes = c.args.bytes.now in
    let len : 19 + c.from_be_bytes-4.result ≡ row_len row = ap (λ n. 19 + n) (c.from_be_bytes-4.ensures ∙ ap (from_be_bytes w32) c.part-4.ensures ∙ read_len bytes c.args.at row starts) in
    let bucket = c.from_be_bytes.ensures ∙ ap (from_be_bytes w16) c.part.ensures ∙ read_bucket bytes c.args.at row starts in
    let number = c.from_be_bytes-2.ensures ∙ ap (from_be_bytes w32) c.part-2.ensures ∙ read_number bytes c.args.at row starts in
    record {
      node = λ i. record { bucket = bucket i; number = number i };
      version = c.from_be_bytes-3.ensures ∙ ap (from_be_bytes w64) c.part-3.ensures ∙ read_version bytes c.args.at row starts;
      len = len;
      within = omega (arith, len, starts.within);
      spelled = spelled_at bytes c.args.at (19 + c.from_be_bytes-4.result) row starts len;
    }

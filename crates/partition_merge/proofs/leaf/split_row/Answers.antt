use Rattle.std.proofs.Common.{◌∙◌, ap}
use Rattle.std.specs.Int.{from_be_bytes, w32, w64}
use Rattle.partition_merge.proofs.Leaves.{row_split}
use Rattle.partition_merge.proofs.leaf.split_row.Goals as goal

pub returns-clause-read : goal.returns-clause-read
returns-clause-read c mark row rest fits is =
    row_split mark row rest c.args.bytes.now c.in_ok-front.front.now c.in_ok-front.rest.now c.in_ok-body.body.now c.in_ok-body.behind.now c.from_be_bytes-version.result c.from_be_bytes-len.result fits is
    c.in_ok-front.ensures.cases.1 c.in_ok-front.ensures.cases.2
    (c.from_be_bytes-version.ensures ∙ ap (from_be_bytes w64) c.part.ensures) (c.from_be_bytes-len.ensures ∙ ap (from_be_bytes w32) c.part-2.ensures)
    c.in_ok-body.ensures.cases.1 c.in_ok-body.ensures.cases.2

use Rattle.std.proofs.Common.{◌≡◌, take, rules, get_or}
use Rattle.std.specs.Int.{from_be_bytes, w16}
use Rattle.partition_merge.proofs.Leaves.{pair_split}
use Rattle.partition_merge.proofs.leaf.split_pair.Goals as goal

pub returns-clause-read : goal.returns-clause-read
returns-clause-read c pair rest fits is =
    let first : c.in_ok-key_end.field-0.now ≡ get_or c.args.bytes.now 0 0 = search rules in
    let chunk : c.from_be_bytes-len.result ≡ from_be_bytes w16 (take 2 c.in_ok-value.value.now) = search rules in
    pair_split pair rest c.args.bytes.now c.in_ok-value.value.now c.in_ok-pair.pair.now c.in_ok-pair.behind.now c.in_ok-key_end.field-0.now c.from_be_bytes-len.result fits is
    first c.in_ok-value.ensures.cases.2 chunk
    c.in_ok-pair.ensures.cases.1 c.in_ok-pair.ensures.cases.2

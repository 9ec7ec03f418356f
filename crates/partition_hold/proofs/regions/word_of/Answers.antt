use Rattle.std.proofs.Common.{◌<◌, take, ◌∙◌, ap, sym}
use Rattle.std.specs.Prelude.{nat_eq, slice_index_or}
use Rattle.std.specs.List.{list_any}
use Rattle.std.proofs.lemmas.List.{take_more}
use Rattle.partition_hold.proofs.Bits.{all_next, bit_more}
use Rattle.partition_hold.proofs.regions.word_of.Goals as goal

pub loop-region-preserved : goal.loop-region-preserved
loop-region-preserved c =
    let l = c.loop-region in
    let next = all_next (λ region. region < 64) c.args.regions.now l.region-index c.loop-region-test.true l.invariant.small in
    record {
      small = next.1;
      bits = λ r small.
          bit_more l.word (slice_index_or c.args.regions.now l.region-index 0) r (take l.region-index c.args.regions.now) next.0 (l.invariant.bits r small)
          ∙ ap (list_any (nat_eq r)) (sym (take_more c.args.regions.now l.region-index 0 c.loop-region-test.true));
    }

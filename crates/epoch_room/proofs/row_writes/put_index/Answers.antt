use Rattle.std.proofs.Common.{◌++◌, List, ℕ, ap, ◌∙◌, arith}
use Rattle.std.specs.Prelude.{flat_map}
use Rattle.std.proofs.lemmas.List.{take_all}
use Rattle.log_partition.proofs.RowsRead.{rises}
use Rattle.partition_index.specs.Entries.{bytes_of}
use Rattle.partition_index.proofs.Bytes.{index_is}
use Rattle.epoch_room.proofs.row_writes.put_index.Goals as goal

pub build-requires-clause-order : goal.build-requires-clause-order
build-requires-clause-order c = rises c.args.rows.now c.requires.ordered

pub returns : goal.returns
returns c =
    c.loop-entry.invariant
    ∙ ap (λ (xs : List ℕ). c.args.out.now.items ++ xs)
    (ap (λ es. flat_map bytes_of es) (take_all c.loop-entry.entry-index c.deref-entry-items.result.now (omega (arith, c.loop-entry-test.false)) ∙ c.deref-entry-items.ensures.value ∙ c.in_ok-entries.ensures) ∙ index_is c.args.rows.now)

use Rattle.std.proofs.lemmas.Nat.{from_be_bytes-to_be_bytes_2, from_be_bytes-to_be_bytes_4}
use Rattle.partition_index.specs.Entries.{bytes_of}
use Rattle.partition_index.proofs.entries.entry_law.Goals as goal

pub returns : goal.returns
unfolding bytes_of
returns c entry bucket number offset rows = λ i. record {
  node = record { bucket = from_be_bytes-to_be_bytes_2 entry.node.bucket bucket i; number = from_be_bytes-to_be_bytes_4 entry.node.number number i };
  offset = from_be_bytes-to_be_bytes_4 entry.offset offset i;
  rows = from_be_bytes-to_be_bytes_4 entry.rows rows i;
}

use Rattle.std.proofs.Common.{◌≡◌, length}
use Rattle.node_fetch.specs.Spans.{ReadSoFar}
use Rattle.node_fetch.proofs.span.rows_in.Given as goal

abbrev pub invariant-loop : goal.invariant-loop
invariant-loop l = record {
  count : length l.rows ≡ l.counter;
  so_far : ReadSoFar l.mark l.bytes l.node l.rows l.at;
}

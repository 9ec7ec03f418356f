use Rattle.std.proofs.Common.{◌≡◌, Ok}
use Rattle.partition_hold.specs.Sources.{IsClean, IsLater}
use Rattle.txn_engine.specs.Reads.{EachWalks, GathersBelow}
use Rattle.txn_engine.specs.Steps.{AreRead, GathersMore}
use Rattle.txn_engine.proofs.scans.gather_all.Given as goal

abbrev pub invariant-loop-bucket : goal.invariant-loop-bucket
invariant-loop-bucket g l = record {
  later : IsLater l.initial.front l.front;
  clean : IsClean l.initial.front l.front;
  next : l.scan.next ≡ l.bucket;
  read : AreRead l.bucket l.initial.front l.front l.initial.locks l.locks;
  walks : EachWalks l.bucket l.initial.front l.initial.locks l.locks l.low l.high l.limit (Ok tt);
  finds : GathersBelow l.bucket l.locks l.low l.high l.limit l.initial.scan.pairs l.scan.pairs;
  more : GathersMore l.initial.front l.initial.locks l.low l.high l.limit l.initial.scan l.scan;
}

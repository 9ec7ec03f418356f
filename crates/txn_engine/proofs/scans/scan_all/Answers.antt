use Rattle.std.proofs.Common.{subst}
use Rattle.btree_nodes.specs.declared.fault.TreeFault.TheVariants.{NoMemory}
use Rattle.txn_draft.specs.Scans.{ScanValue}
use Rattle.txn_engine.specs.Reads.{GathersBelow}
use Rattle.txn_engine.proofs.Reading.{traced_found, traced_halted, walks_lost}
use Rattle.txn_engine.proofs.Scanning.{scan_found, scan_halted}
use Rattle.txn_engine.proofs.scans.scan_all.Goals as goal

pub returns-in-Ok : goal.returns-in-Ok
returns-in-Ok g c =
    let e = c.in-Ok.ensures in
    record {
      later = c.gather_all.ensures.later;
      clean = c.in_default.ensures.clean;
      fails = tt;
      scans = scan_found c.args.front.now c.gather_all.new.front c.args.locks.now c.gather_all.new.locks c.args.draft.now c.found.new.self c.args.call.now c.args.low.now c.args.high.now c.args.limit c.new-scan.result c.gather_all.new.scan
          c.new-scan.ensures c.in_default.ensures.gathers e.kept e.fits (λ rows a kept. e.sound rows c.args.low.now c.args.high.now c.args.limit c.requires.scan a kept);
      traces = traced_found c.args.front.now c.args.locks.now c.gather_all.new.locks c.args.draft.now c.found.new.self c.args.call.now c.args.low.now c.args.high.now c.args.limit c.requires.scan c.requires.held c.gather_all.new.scan.pairs c.in_default.ensures.walks
          (subst (λ (x : ScanValue). GathersBelow 256 c.gather_all.new.locks c.args.low.now c.args.high.now c.args.limit x.pairs c.gather_all.new.scan.pairs) c.new-scan.ensures c.in_default.ensures.finds) e.kept;
    }

pub returns-in-Err : goal.returns-in-Err
returns-in-Err g c = record {
  later = c.gather_all.ensures.later;
  clean = c.in-Err.ensures.clean;
  fails = c.in-Err.ensures.fails;
  scans = scan_halted c.args.front.now c.gather_all.new.front c.args.locks.now c.gather_all.new.locks c.args.draft.now c.args.call.now c.args.low.now c.args.high.now c.args.limit c.new-scan.result c.gather_all.new.scan c.in-Err.fault c.requires.scan c.in-Err.ensures.gathers;
  traces = traced_halted c.args.front.now c.args.locks.now c.gather_all.new.locks c.args.draft.now c.args.draft.now c.args.call.now c.args.low.now c.args.high.now c.args.limit c.requires.scan c.requires.held c.in-Err.fault c.in-Err.ensures.walks;
}

pub returns-in-Err-found-clause-traces : goal.returns-in-Err-found-clause-traces
returns-in-Err-found-clause-traces g c = traced_halted c.args.front.now c.args.locks.now c.gather_all.new.locks c.args.draft.now c.found.new.self c.args.call.now c.args.low.now c.args.high.now c.args.limit c.requires.scan c.requires.held NoMemory
    (walks_lost c.args.front.now c.args.locks.now c.gather_all.new.locks c.args.low.now c.args.high.now c.args.limit c.in_default.ensures.walks)

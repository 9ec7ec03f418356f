use Rattle.std.proofs.Common.{◌∷◌, [], ap, refl, subst, sym}
use Rattle.fine_model.specs.declared.Call.{Call}
use Rattle.btree_nodes.specs.declared.fault.TreeFault.TheVariants.{NoMemory}
use Rattle.txn_draft.specs.Scans.{KeepsFound, ScanValue}
use Rattle.open_txn.specs.Steps.{Advances, Gathers, Refuses}
use Rattle.open_txn.specs.Traces.{AddsDone, StopsAt}
use Rattle.open_txn.proofs.Scanned.{scan_found, scan_halted, scan_lost}
use Rattle.open_txn.proofs.WalkedThrough.{scan_done, scan_stops, scan_stops_lost}
use Rattle.open_txn.proofs.scanning.scan_all.Goals as goal

pub returns-in-Ok : goal.returns-in-Ok
returns-in-Ok g c =
    let is = c.requires.scan in
    let tells = g.S.NodeSource.tells c.args.source.now in
    let tells' = g.S.NodeSource.tells c.gather_all.new.source in
    let finds = g.S.NodeSource.finds c.args.source.now in
    let upper = g.S.NodeSource.upper c.args.source.now in
    let d = c.args.draft.now in
    let d' = c.found.new.self in
    let s = c.gather_all.new.scan in
    let keeps = c.in-Ok.ensures.kept in
    record {
      later = c.gather_all.ensures.later;
      clean = c.in_default.ensures.clean;
      fails = tt;
      place = (ap (λ x. x.lane) keeps.is, ap (λ x. x.turn) keeps.is);
      advances = subst (λ (k : Call). Advances tells tells' upper c.args.buckets.now c.gather_all.new.buckets d d' (k ∷ [])) (sym is)
          (scan_found tells tells' upper c.args.buckets.now c.gather_all.new.buckets d c.args.low.now c.args.high.now c.args.limit d' s c.requires.open c.in_default.ensures.next
          (subst (λ (s₀ : ScanValue). Gathers tells tells' upper c.args.buckets.now c.gather_all.new.buckets c.args.low.now c.args.high.now c.args.limit s₀ s) c.new-scan.ensures c.in_default.ensures.gathers)
          (subst (λ (k : Call). KeepsFound k s.pairs d d') is keeps) c.in-Ok.ensures.fits c.in-Ok.ensures.rows (λ rows a kept. c.in-Ok.ensures.sound rows c.args.low.now c.args.high.now c.args.limit is a kept));
      refuses = tt;
      does = subst (λ (k : Call). AddsDone tells finds upper (k ∷ []) d.rows d'.rows c.args.buckets.now c.gather_all.new.buckets) (sym is)
          (scan_done tells finds upper c.args.low.now c.args.high.now c.args.limit c.args.buckets.now c.gather_all.new.buckets d.rows d'.rows c.in-Ok.ensures.rows c.in_default.ensures.scans);
      stops = tt;
    }

pub returns-in-Err : goal.returns-in-Err
returns-in-Err g c =
    let tells = g.S.NodeSource.tells c.args.source.now in
    let tells' = g.S.NodeSource.tells c.gather_all.new.source in
    let finds = g.S.NodeSource.finds c.args.source.now in
    let upper = g.S.NodeSource.upper c.args.source.now in
    record {
      later = c.gather_all.ensures.later;
      clean = c.in-Err.ensures.clean;
      fails = c.in-Err.ensures.fails;
      place = (refl, refl);
      advances = tt;
      refuses = λ more. subst (λ (k : Call). Refuses tells upper c.args.buckets.now c.gather_all.new.buckets c.args.draft.now (k ∷ more) c.in-Err.fault) (sym c.requires.scan)
          (scan_halted tells tells' upper c.args.buckets.now c.gather_all.new.buckets c.args.draft.now c.args.low.now c.args.high.now c.args.limit c.in-Err.fault more c.in-Err.ensures.halts);
      does = tt;
      stops = λ more. subst (λ (k : Call). StopsAt tells finds upper (k ∷ more) c.in-Err.fault c.args.buckets.now c.gather_all.new.buckets) (sym c.requires.scan)
          (scan_stops tells finds upper c.args.low.now c.args.high.now c.args.limit c.args.buckets.now c.gather_all.new.buckets c.in-Err.fault more c.in-Err.ensures.cut_off);
    }

pub returns-in-Err-found : goal.returns-in-Err-found
returns-in-Err-found g c =
    let tells = g.S.NodeSource.tells c.args.source.now in
    let tells' = g.S.NodeSource.tells c.gather_all.new.source in
    let finds = g.S.NodeSource.finds c.args.source.now in
    let upper = g.S.NodeSource.upper c.args.source.now in
    let s = c.gather_all.new.scan in
    record {
      later = c.gather_all.ensures.later;
      clean = c.in_default.ensures.clean;
      fails = tt;
      place = (c.in-Err-found.ensures.left.1, c.in-Err-found.ensures.left.2);
      advances = tt;
      refuses = λ more. subst (λ (k : Call). Refuses tells upper c.args.buckets.now c.gather_all.new.buckets c.args.draft.now (k ∷ more) NoMemory) (sym c.requires.scan)
          (scan_lost tells tells' upper c.args.buckets.now c.gather_all.new.buckets c.args.draft.now c.args.low.now c.args.high.now c.args.limit s more
          (subst (λ (s₀ : ScanValue). Gathers tells tells' upper c.args.buckets.now c.gather_all.new.buckets c.args.low.now c.args.high.now c.args.limit s₀ s) c.new-scan.ensures c.in_default.ensures.gathers));
      does = tt;
      stops = λ more. subst (λ (k : Call). StopsAt tells finds upper (k ∷ more) NoMemory c.args.buckets.now c.gather_all.new.buckets) (sym c.requires.scan)
          (scan_stops_lost tells finds upper c.args.low.now c.args.high.now c.args.limit c.args.buckets.now c.gather_all.new.buckets more c.in_default.ensures.scans);
    }

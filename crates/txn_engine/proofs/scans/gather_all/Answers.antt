use Rattle.std.proofs.Common.{◌≡◌, ◌+◌, ◌<◌, ◌≤◌, ◌∙◌, refl, subst, Ok, Err, arith}
use Rattle.open_txn.proofs.Advanced.{clean_from, fails_from}
use Rattle.partition_hold.specs.SourceLaws.{later_itself, later_on, clean_itself, clean_on, fails_earlier}
use Rattle.partition_hold.specs.Sources.{Fails, IsClean}
use Rattle.txn_engine.specs.Reads.{EachWalks, GathersBelow}
use Rattle.txn_engine.proofs.Reading.{gathers_none, walks_none}
use Rattle.txn_engine.proofs.Scanning.{gathered_cause, gathered_finds, gathered_halt, gathered_more, gathered_unfit, gathered_walks, has_here, ok_names_none, read_more, read_none, read_to_end}
use Rattle.txn_engine.proofs.scans.gather_all.Goals as goal

pub loop-bucket-init : goal.loop-bucket-init
loop-bucket-init g c = record {
  later = later_itself c.args.front.now;
  clean = clean_itself c.args.front.now;
  next = c.requires.next;
  read = read_none c.args.front.now c.args.locks.now;
  walks = walks_none c.args.front.now c.args.locks.now c.args.low.now c.args.high.now c.args.limit;
  finds = gathers_none c.args.locks.now c.args.low.now c.args.high.now c.args.limit c.args.scan.now.pairs;
  more = λ rows log served kept. kept;
}

pub gather_in-requires-clause-next : goal.gather_in-requires-clause-next
gather_in-requires-clause-next g c = c.loop-bucket.invariant.next

pub gather_in-requires-clause-held : goal.gather_in-requires-clause-held
gather_in-requires-clause-held g c =
    let low : c.loop-bucket.bucket < 256 = omega (arith, c.loop-bucket-test.true) in
    let inv = c.loop-bucket.invariant in
    has_here c.args.front.now c.loop-bucket.front c.loop-bucket.bucket c.args.locks.now c.loop-bucket.locks inv.later inv.read c.requires.held low

pub loop-bucket-preserved : goal.loop-bucket-preserved
loop-bucket-preserved g c =
    let inv = c.loop-bucket.invariant in
    let e = c.in_default.ensures in
    let low : c.loop-bucket.bucket < 256 = omega (arith, c.loop-bucket-test.true) in record {
      later = later_on c.args.front.now c.loop-bucket.front c.gather_in.new.front inv.later e.later;
      clean = clean_on c.args.front.now c.loop-bucket.front c.gather_in.new.front inv.clean e.clean;
      next = e.next;
      read = read_more c.args.front.now c.loop-bucket.front c.loop-bucket.bucket c.args.locks.now c.loop-bucket.locks inv.later inv.read c.requires.held c.gather_in.new.front low c.gather_in.new.locks c.args.low.now c.args.high.now c.args.limit
          c.args.scan.now c.loop-bucket.scan c.gather_in.new.scan _ e.later e.gathers;
      walks = gathered_walks c.args.front.now c.loop-bucket.front c.loop-bucket.bucket c.args.locks.now c.loop-bucket.locks inv.later inv.read c.requires.held c.gather_in.new.front low c.gather_in.new.locks c.args.low.now c.args.high.now c.args.limit
          c.args.scan.now c.loop-bucket.scan c.gather_in.new.scan _ e.later e.gathers inv.walks _ refl;
      finds = gathered_finds c.args.front.now c.loop-bucket.front c.loop-bucket.bucket c.args.locks.now c.loop-bucket.locks inv.later inv.read c.requires.held c.gather_in.new.front low c.gather_in.new.locks c.args.low.now c.args.high.now c.args.limit
          c.args.scan.now c.loop-bucket.scan c.gather_in.new.scan _ e.later e.gathers inv.walks _ refl inv.finds;
      more = gathered_more c.args.front.now c.loop-bucket.front c.loop-bucket.bucket c.args.locks.now c.loop-bucket.locks inv.later inv.read c.requires.held c.gather_in.new.front low c.gather_in.new.locks c.args.low.now c.args.high.now c.args.limit
          c.args.scan.now c.loop-bucket.scan c.gather_in.new.scan _ e.later e.gathers _ refl inv.more;
    }

pub returns : goal.returns
returns g c =
    let inv = c.loop-bucket.invariant in
    let all : c.loop-bucket.bucket ≡ 256 = omega (arith, c.loop-bucket-test.false, c.loop-bucket.auto.bucket-end) in
    let most : c.loop-bucket.bucket ≤ 256 = omega (arith, all) in record {
      later = inv.later;
      clean = inv.clean;
      fails = tt;
      gathers = record { read = read_to_end c.loop-bucket.bucket c.args.front.now c.loop-bucket.front c.args.locks.now c.loop-bucket.locks most inv.later inv.read; next = inv.next ∙ all; more = inv.more; unfit = λ id is. absurd (ok_names_none id is); cause = tt };
      walks = subst (λ n. EachWalks n c.args.front.now c.args.locks.now c.loop-bucket.locks c.args.low.now c.args.high.now c.args.limit (Ok tt)) all inv.walks;
      finds = subst (λ n. GathersBelow n c.loop-bucket.locks c.args.low.now c.args.high.now c.args.limit c.args.scan.now.pairs c.loop-bucket.scan.pairs) all inv.finds;
    }

pub returns-in-Err : goal.returns-in-Err
returns-in-Err g c =
    let inv = c.loop-bucket.invariant in
    let e = c.in-Err.ensures in
    let low : c.loop-bucket.bucket < 256 = omega (arith, c.loop-bucket-test.true) in
    let most : c.loop-bucket.bucket + 1 ≤ 256 = omega (arith, low) in
    let now = c.gather_in.new.front in
    let later = later_on c.args.front.now c.loop-bucket.front now inv.later e.later in
    let read = read_more c.args.front.now c.loop-bucket.front c.loop-bucket.bucket c.args.locks.now c.loop-bucket.locks inv.later inv.read c.requires.held now low c.gather_in.new.locks c.args.low.now c.args.high.now c.args.limit
    c.args.scan.now c.loop-bucket.scan c.gather_in.new.scan (Err c.in-Err.fault) e.later e.gathers in record {
      later = later;
      clean = clean_from {A = Unit {0}} (IsClean c.loop-bucket.front now) (IsClean c.args.front.now now) (Err c.in-Err.fault) (λ h. clean_on c.args.front.now c.loop-bucket.front now inv.clean h) e.clean;
      fails = fails_from (λ failed. Fails c.loop-bucket.front failed now) (λ failed. Fails c.args.front.now failed now) c.in-Err.fault (λ failed h. fails_earlier c.args.front.now c.loop-bucket.front now failed inv.later h) e.fails;
      gathers = record {
        read = read_to_end (c.loop-bucket.bucket + 1) c.args.front.now now c.args.locks.now c.gather_in.new.locks most later read;
        next = tt;
        more = tt;
        unfit = gathered_unfit c.args.front.now c.loop-bucket.front c.loop-bucket.bucket c.args.locks.now c.loop-bucket.locks inv.later inv.read c.requires.held now low c.gather_in.new.locks c.args.low.now c.args.high.now c.args.limit
            c.args.scan.now c.loop-bucket.scan c.gather_in.new.scan (Err c.in-Err.fault) e.later e.gathers;
        cause = gathered_cause c.args.front.now c.loop-bucket.front c.loop-bucket.bucket c.args.locks.now c.loop-bucket.locks inv.later inv.read c.requires.held now low c.gather_in.new.locks c.args.low.now c.args.high.now c.args.limit
            c.args.scan.now c.loop-bucket.scan c.gather_in.new.scan (Err c.in-Err.fault) e.later e.gathers c.in-Err.fault refl;
      };
      walks = gathered_halt c.args.front.now c.loop-bucket.front c.loop-bucket.bucket c.args.locks.now c.loop-bucket.locks inv.later inv.read c.requires.held now low c.gather_in.new.locks c.args.low.now c.args.high.now c.args.limit
          c.args.scan.now c.loop-bucket.scan c.gather_in.new.scan (Err c.in-Err.fault) e.later e.gathers inv.walks c.in-Err.fault refl;
      finds = tt;
    }

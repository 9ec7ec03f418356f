use Rattle.std.proofs.Common.{◌≡◌, ◌∙◌, Err, arith}
use Rattle.open_txn.proofs.Advanced.{clean_from, fails_from}
use Rattle.open_txn.proofs.Scanned.{gathers_none, gathers_on, halts_on}
use Rattle.open_txn.proofs.WalkedThrough.{below_all, below_none, below_on, cut_on}
use Rattle.open_txn.proofs.scanning.gather_all.Goals as goal

pub loop-at-init : goal.loop-at-init
loop-at-init g c = (
  g.met.S.NodeSource.later_itself _,
  g.met.S.NodeSource.clean_itself _,
  c.requires.next,
  gathers_none (g.S.NodeSource.tells c.args.source.now) (g.S.NodeSource.upper c.args.source.now) c.args.buckets.now c.args.low.now c.args.high.now c.args.limit c.args.scan.now,
  below_none (g.S.NodeSource.tells c.args.source.now) (g.S.NodeSource.finds c.args.source.now) (g.S.NodeSource.upper c.args.source.now) c.args.low.now c.args.high.now c.args.limit c.args.buckets.now,
)

pub loop-at-preserved : goal.loop-at-preserved
loop-at-preserved g c =
    let inv = c.loop-at.invariant in
    let same = g.met.S.NodeSource.later_upper _ _ inv.0 in (
      g.met.S.NodeSource.later_on _ _ _ inv.0 c.in_default.ensures.later,
      g.met.S.NodeSource.clean_on _ _ _ inv.1 c.in_default.ensures.clean,
      c.in_default.ensures.next,
      gathers_on _ _ _ _ same _ _ _ _ _ _ _ inv.3 _ _ _ c.in_default.ensures.gathers,
      below_on _ _ _ _ _ _ (λ rows. g.met.S.NodeSource.later_tells _ _ rows inv.0) (λ id found. g.met.S.NodeSource.finds_before _ _ id found inv.0) same _ _ _ _ c.args.buckets.now c.loop-at.buckets c.gather_in.new.buckets inv.4 c.in_default.ensures.scans,
    )

pub returns : goal.returns
returns g c =
    let inv = c.loop-at.invariant in
    let all : c.loop-at.at ≡ 256 = omega (arith, c.loop-at-test.false, c.loop-at.auto.at-end) in
    record {
      later = inv.0;
      clean = inv.1;
      fails = tt;
      next = inv.2 ∙ all;
      gathers = inv.3;
      halts = tt;
      cut_off = tt;
      scans = below_all (g.S.NodeSource.tells c.args.source.now) (g.S.NodeSource.finds c.args.source.now) (g.S.NodeSource.upper c.args.source.now) c.loop-at.at c.args.low.now c.args.high.now c.args.limit c.args.buckets.now c.loop-at.buckets all inv.4;
    }

pub returns-in-Err : goal.returns-in-Err
returns-in-Err g c =
    let inv = c.loop-at.invariant in
    let same = g.met.S.NodeSource.later_upper _ _ inv.0 in
    let now = c.gather_in.new.source in
    record {
      later = g.met.S.NodeSource.later_on _ _ _ inv.0 c.gather_in.ensures.later;
      clean = clean_from {A = Unit {0}} (g.S.NodeSource.clean c.loop-at.source now) (g.S.NodeSource.clean c.args.source.now now) (Err c.in-Err.fault) (λ h. g.met.S.NodeSource.clean_on _ _ _ inv.1 h) c.in-Err.ensures.clean;
      fails = fails_from (λ failed. g.S.NodeSource.fails c.loop-at.source failed now) (λ failed. g.S.NodeSource.fails c.args.source.now failed now) c.in-Err.fault (λ failed h. g.met.S.NodeSource.fails_earlier _ _ _ failed inv.0 h) c.in-Err.ensures.fails;
      next = tt;
      gathers = tt;
      halts = halts_on _ _ _ _ same _ _ _ _ _ _ _ inv.3 _ _ c.in-Err.ensures.halts;
      scans = tt;
      cut_off = cut_on _ _ _ _ _ _ (λ rows. g.met.S.NodeSource.later_tells _ _ rows inv.0) (λ id found. g.met.S.NodeSource.finds_before _ _ id found inv.0) same _ _ _ _ c.args.buckets.now c.loop-at.buckets c.gather_in.new.buckets inv.4 _ c.loop-at-test.true c.in-Err.ensures.cut_off;
    }

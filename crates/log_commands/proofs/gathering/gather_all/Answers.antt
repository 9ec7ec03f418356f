use Rattle.std.proofs.Common.{List, subst, sym}
use Rattle.fine_model.specs.Map.{Pair}
use Rattle.log_commands.specs.Reading.{Gathers}
use Rattle.log_commands.proofs.Gathered.{gathers_more, gathers_none, one_before}
use Rattle.log_commands.proofs.gathering.gather_all.Goals as goal

pub loop-number-init : goal.loop-number-init
loop-number-init g c = (
  g.met.S.NodeSource.later_itself _,
  g.met.S.NodeSource.clean_itself _,
  subst (λ (pairs : List Pair). Gathers (g.S.NodeSource.tells c.args.source.now) (g.S.NodeSource.finds c.args.source.now) 0 pairs) (sym c.new-pairs.ensures)
      (gathers_none (g.S.NodeSource.tells c.args.source.now) (g.S.NodeSource.finds c.args.source.now)),
)

pub loop-number-preserved : goal.loop-number-preserved
loop-number-preserved g c =
    let inv = c.loop-number.invariant in
    let start = c.args.source.now in
    let mid = c.loop-number.source in (
      g.met.S.NodeSource.later_on _ _ _ inv.0 c.in_default.ensures.later,
      g.met.S.NodeSource.clean_on _ _ _ inv.1 c.in_default.ensures.clean,
      gathers_more (g.S.NodeSource.tells start) (g.S.NodeSource.finds start) c.loop-number.number c.loop-number.pairs c.gather_in.new.pairs inv.2
          (one_before (g.S.NodeSource.tells start) (g.S.NodeSource.tells mid) (g.S.NodeSource.finds start) (g.S.NodeSource.finds mid) (λ rows told. g.met.S.NodeSource.later_tells _ _ rows inv.0 told)
          (λ id found h. g.met.S.NodeSource.finds_before _ _ id found inv.0 h) c.loop-number.number c.loop-number.pairs c.gather_in.new.pairs c.in_default.ensures.answer),
    )

use Rattle.std.proofs.Common.{◌<◌}
use Rattle.epoch_room.proofs.RegionSets.Added.{drop_next}
use Rattle.epoch_room.proofs.Erasures.AllErased.{unheld_more}
use Rattle.epoch_room.proofs.led_parts.unheld_leads.Goals as goal

pub loop-part-preserved : goal.loop-part-preserved
loop-part-preserved g c = record {
  small = drop_next (λ p. p.region < 64) c.args.parts.now c.loop-part.part-index c.loop-part-test.true c.loop-part.invariant.small;
  leads = unheld_more c.args.board.now c.args.parts.now c.loop-part.part-index _ c.loop-part.leads.items c.push_unheld.new.leads.items c.loop-part-test.true c.loop-part.invariant.leads c.in_ok-push_unheld.ensures;
}

-- The parts of a script are as many as its lanes, so few.
use Rattle.std.proofs.Common.{◌≤◌, List, length, ap, ◌∙◌, sym, arith}
use Rattle.fine_model.specs.declared.ScriptTxn.{ScriptTxn}
use Rattle.lane_threads.specs.declared.worker.Part.{Part}
use Rattle.lane_threads.specs.Means.{AreNewParts}
use Rattle.lane_threads.proofs.LanesOf.{lanes_few}
use Rattle.lane_threads.proofs.Mapped.{mapped_long}

pub few_parts : (script : List ScriptTxn) (parts : List Part) → AreNewParts script parts → length parts ≤ 16
few_parts script parts new = let few = lanes_few script in let same = sym (ap length new.lanes) ∙ mapped_long (λ (p : Part). p.lane.lane) parts in omega (arith, few, same)

-- The plan that a disk in memory keeps, and its counts of calls, as contracts see them.
use Rattle.log_disk.specs.declared.mem.plan.FaultPlan.{FaultPlan}
use Rattle.log_disk.specs.declared.mem.plan.Schedule.{Schedule}
use Rattle.log_disk.specs.Plan.{Plan, Calls}

abbrev pub plan_of : FaultPlan → Plan
plan_of plan = record { reads = plan.reads.items; writes = plan.writes.items; syncs = plan.syncs.items; eyes = plan.eyes.items; eye_reads = plan.eye_reads.items; stop = plan.stop }

abbrev pub calls_of : Schedule → Calls
calls_of schedule = record { reads = schedule.reads; writes = schedule.writes; syncs = schedule.syncs; eyes = schedule.eyes; all = schedule.all }

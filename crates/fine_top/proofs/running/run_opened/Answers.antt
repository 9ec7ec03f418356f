-- A run on a log that was opened, or want of memory for its room.
use Rattle.std.proofs.Common.{refl, sym, subst}
use Rattle.fine_model.specs.declared.RunFault.TheVariants as run_fault
use Rattle.fine_model.specs.declared.Reason.TheVariants as reason
use Rattle.fine_top.specs.Running.{early, ran, text_of, IsRunOf}
use Rattle.fine_top.proofs.Between.{run_from}
use Rattle.fine_top.proofs.running.run_opened.Goals as goal

pub returns-in-Ok-clause-ends : goal.returns-in-Ok-clause-ends
unfolding text_of
returns-in-Ok-clause-ends g c =
    let d = g.D.LogDisk.state c.args.disk in
    let script = c.args.opened.script in
    rw c.number-status.ensures (record {
      ended = ran script c.in-Ok.ran;
      is_end = (refl, subst (λ x. IsRunOf c.args.options.now d x script c.in-Ok.ran) (sym c.into_disk.ensures.disk) (run_from c.args.options.now script d c.args.opened.chain c.in-Ok.ran c.in-Ok.room c.in-Ok.ensures.ok c.requires.ready.sees));
      status_is = c.print_report.ensures.status;
      printed = c.print_report.ensures.puts;
    })

pub returns-in-Err-clause-ends : goal.returns-in-Err-clause-ends
unfolding text_of
returns-in-Err-clause-ends g c = rw c.number.ensures (record {
  ended = early (reason.Fault run_fault.Memory);
  is_end = (refl, c.in-Err.ensures.err);
  status_is = c.print_no_memory.ensures.status;
  printed = c.print_no_memory.ensures.puts;
})

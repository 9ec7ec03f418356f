-- A chain that was found and printed, or the line of a fault.
use Rattle.std.proofs.Common.{List, Ok, Err, ◌≡◌, subst}
use Rattle.fine_model.specs.declared.Part.{Part}
use Rattle.fine_model.specs.Report.{ranges}
use Rattle.script_text.specs.Streams.{Puts}
use Rattle.log_commands.proofs.commands.print_found.Goals as goal

pub returns-in-Ok-clause-ends : goal.returns-in-Ok-clause-ends
returns-in-Ok-clause-ends g c = rw c.number.ensures (record {
  found = Ok c.in-Ok.chain.parts;
  is_found = c.in-Ok.ensures.ok.1;
  status_is = c.print_chain.ensures.status;
  printed = subst (λ (parts : List Part). Puts (ranges parts) (c.print_chain.result ≡ 5) (g.K.Sink.written c.args.out.now) (g.K.Sink.written c.print_chain.new.out)) c.as_slice.ensures c.print_chain.ensures.puts;
})

pub returns-in-Err-clause-ends : goal.returns-in-Err-clause-ends
returns-in-Err-clause-ends g c = rw c.number-in-Err.ensures (record {
  found = Err c.in-Err.fault;
  is_found = c.in-Err.ensures.err;
  status_is = c.print_fault.ensures.status;
  printed = c.print_fault.ensures.puts;
})

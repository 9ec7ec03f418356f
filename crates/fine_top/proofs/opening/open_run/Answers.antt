-- What was opened is a script that may be run.
use Rattle.fine_top.proofs.opening.open_run.Goals as goal

pub returns-in-Ok-find_chain-clause-ok : goal.returns-in-Ok-find_chain-clause-ok
returns-in-Ok-find_chain-clause-ok g c = record {
  spelled = c.in-Ok.ensures.script;
  sees = c.in-Ok-find_chain.ensures.ok.0;
  fits = c.in-Ok.ensures.fits;
}

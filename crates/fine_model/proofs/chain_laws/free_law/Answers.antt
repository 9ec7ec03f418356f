use Rattle.fine_model.proofs.Chain.Free.{free_law}
use Rattle.fine_model.proofs.Chain.ChainFacts.{free_of_chain}
use Rattle.fine_model.proofs.chain_laws.free_law.Goals as goal

pub returns : goal.returns
returns c = record { each = free_law; chain = free_of_chain }

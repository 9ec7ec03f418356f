use Rattle.open_txn.proofs.TraceLaws.{number_law, refused_law, saved_law}
use Rattle.open_txn.proofs.Traced.{behind_law}
use Rattle.open_txn.proofs.laws.traces_law.Goals as goal

pub returns : goal.returns
returns g c =
    let tells = g.S.NodeSource.tells in
    let finds = g.S.NodeSource.finds in
    let upper = g.S.NodeSource.upper in
    record {
      behind = λ s. behind_law (tells s) (finds s) (upper s);
      number = λ s. number_law (tells s) (finds s) (upper s);
      saved = λ s. saved_law (tells s) (finds s) (upper s);
      refused = λ s. refused_law (tells s) (finds s) (upper s);
    }

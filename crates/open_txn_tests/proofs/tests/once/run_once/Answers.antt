use Rattle.open_txn_tests.proofs.Ended.{run_settled, stands_undone}
use Rattle.open_txn_tests.proofs.tests.once.run_once.Goals as goal

pub returns-then-commits : goal.returns-then-commits
returns-then-commits g c = record {
  run = λ log history ready.
      run_settled log c.args.published c.args.epoch (g.S.NodeSource.upper c.args.source.now) c.requires.draft.0 c.requires.draft.1 (g.S.NodeSource.tells c.args.source.now) c.args.bucket.now c.answer.new.bucket c.settle.new.bucket
      c.args.draft.now c.answer.new.self c.args.call.now history c.requires.draft.2 c.requires.upper ready c.answer.result c.answer.ensures.sound c.answer.ensures.used
      c.take_entry-entry.result c.in-Ok.field-0 c.in-Ok.is c.take_entry-entry.ensures.entry
      (record { bucket = c.settle.ensures.number; resting = c.settle.ensures.resting; same = c.settle.ensures.same; kept = c.settle.ensures.kept });
}

pub returns-else-commits : goal.returns-else-commits
returns-else-commits g c = record {
  run = λ log history ready. record {
    stands = stands_undone log c.args.published c.args.epoch (g.S.NodeSource.upper c.args.source.now) c.requires.draft.0 c.requires.draft.1 (g.S.NodeSource.tells c.args.source.now) c.args.bucket.now c.answer.new.bucket c.undo.new.bucket
        c.args.draft.now c.answer.new.self c.args.call.now history c.requires.draft.2 c.requires.upper ready c.answer.result c.answer.ensures.sound c.answer.ensures.used
        (record { bucket = c.undo.ensures.number; resting = c.undo.ensures.resting; same = c.undo.ensures.same; kept = c.undo.ensures.kept });
    follows = λ e first began. tt;
  };
}

pub returns-in-Err : goal.returns-in-Err
returns-in-Err g c = record {
  run = λ log history ready. record {
    stands = stands_undone log c.args.published c.args.epoch (g.S.NodeSource.upper c.args.source.now) c.requires.draft.0 c.requires.draft.1 (g.S.NodeSource.tells c.args.source.now) c.args.bucket.now c.answer.new.bucket c.undo-in-Err.new.bucket
        c.args.draft.now c.answer.new.self c.args.call.now history c.requires.draft.2 c.requires.upper ready c.answer.result c.answer.ensures.sound c.answer.ensures.used
        (record { bucket = c.undo-in-Err.ensures.number; resting = c.undo-in-Err.ensures.resting; same = c.undo-in-Err.ensures.same; kept = c.undo-in-Err.ensures.kept });
    follows = λ e first began. tt;
  };
}

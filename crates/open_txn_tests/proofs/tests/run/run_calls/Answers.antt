use Rattle.std.proofs.Common.{ap, le_refl, refl, subst, sym}
use Rattle.fine_model.specs.declared.Entry.{Entry}
use Rattle.open_txn.specs.Opened.{Follows}
use Rattle.open_txn.proofs.Ended.{abort_law, follows_law}
use Rattle.open_txn_tests.specs.Committed.{commit_of}
use Rattle.open_txn_tests.proofs.tests.run.run_calls.Goals as goal

pub returns-then-commits : goal.returns-then-commits
returns-then-commits g c = record {
  run = λ log low history ready most epochs.
      let o = c.in-Ok.ensures.open log low history ready in
      let d = c.answer_all.new.draft in
      let entry = c.take_entry-entry.result in record {
        stand = c.settle.ensures.stands log low c.args.published history c.args.buckets.now d (commit_of entry c.args.epoch) o (ap (λ e. e.rows) c.take_entry-entry.ensures.entry) refl epochs most (le_refl c.args.published);
        follows = λ e first began legal. subst (λ (x : Entry). Follows first history (commit_of x c.args.epoch)) (sym c.take_entry-entry.ensures.entry) (follows_law log low e c.args.epoch first history c.args.buckets.now c.answer_all.new.buckets d o began legal epochs);
      };
}

pub returns-else-commits : goal.returns-else-commits
returns-else-commits g c = record {
  run = λ log low history ready most epochs. record {
    stand = c.undo.ensures.stands log low c.args.published history c.args.buckets.now (abort_law log low history c.args.buckets.now c.answer_all.new.buckets c.answer_all.new.draft (c.in-Ok.ensures.open log low history ready)) most (le_refl c.args.published);
    follows = λ e first began legal. tt;
  };
}

pub returns-in-Err : goal.returns-in-Err
returns-in-Err g c = record {
  run = λ log low history ready most epochs. record {
    stand = c.undo-in-Err.ensures.stands log low c.args.published history c.args.buckets.now (c.in-Err.ensures.refused log low history ready).to_undo most (le_refl c.args.published);
    follows = λ e first began legal. tt;
  };
}

-- What one transaction leaves of a bucket that stands for a history.
use Rattle.std.proofs.Common.{◌≡◌, ℕ, ◌≤◌, List, [], ◌++◌, Some, Result, Ok, sym, ap, subst, le_refl}
use Rattle.fine_model.specs.declared.Call.{Call}
use Rattle.fine_model.specs.declared.Entry.{Entry}
use Rattle.fine_model.specs.declared.Row.{Row}
use Rattle.fine_model.specs.declared.law.Origin.{Origin}
use Rattle.fine_model.specs.Buckets.{Began}
use Rattle.fine_model.specs.History.{Commit, all_rows}
use Rattle.fine_model.proofs.Histories.Legal.{legal_map}
use Rattle.node_cache.specs.Cache.{Cache, after, before}
use Rattle.btree_nodes.specs.declared.fault.TreeFault.{TreeFault}
use Rattle.btree_nodes.specs.Trees.{Holds, Serves}
use Rattle.txn_draft.specs.Answers.{AnswersSoundly}
use Rattle.txn_draft.specs.Drafts.{DraftValue, IsAnswered, blank, entry_of}
use Rattle.txn_draft.specs.Standing.{IsLeft, StandsFor}
use Rattle.txn_draft.specs.Uses.{IsUsed, UsedAfter}
use Rattle.open_txn_tests.specs.Committed.{commit_of}
use Rattle.open_txn_tests.specs.Once.{IsReady, IsRun}
use Rattle.txn_draft.proofs.Lasting.{holds_law, serves_law, settle_law, undo_law}
use Rattle.txn_draft.proofs.Lawful.{blank_law, next_law, taken_law}
use Rattle.txn_draft.proofs.Undoing.{restored, undone}

module _ (log : Origin) (published epoch upper lane turn : ℕ) (tells : List Row → Type 0) (old b new : Cache) (d d' : DraftValue) (c : Call) (history : List Commit) (is_blank : d ≡ blank lane turn) (most : published ≤ upper)
    (ready : IsReady log published epoch tells upper old history) (r : Result (Unit {0}) TreeFault)
    (answers : (rows : List Row) → Serves tells old rows → IsAnswered rows d → Holds old rows d.rows → AnswersSoundly rows c d d' b r)
    (used : (low : ℕ) (taken : Cache) → IsUsed low taken old d.rows → low ≤ upper → UsedAfter low taken b d'.rows r) where
  none_yet : d.rows ≡ []
  none_yet = ap (λ x. x.rows) is_blank

  at_first : IsUsed published old old d.rows
  at_first = subst (IsUsed published old old) (sym none_yet) (taken_law published old ready.stands.settled)

  used_now : UsedAfter published old b d'.rows r
  used_now = used published old at_first most

  answers_now : (e : ℕ) (first : List Row) → Began log e first → AnswersSoundly (first ++ all_rows history) c d d' b r
  answers_now e first began =
      let told = ready.told e first began in
      let legal = legal_map first history told.small began.sound told.legal in
      answers (first ++ all_rows history)
      (serves_law (λ (s : Unit {0}). tells) tt log old.bucket published upper e old old d.rows first told.known history began told.legal ready.stands at_first most told.is_told told.agrees)
      (subst (IsAnswered (first ++ all_rows history)) (sym is_blank) (blank_law lane turn (first ++ all_rows history) legal.small legal.has_map.sound))
      (subst (Holds old (first ++ all_rows history)) (sym none_yet) (holds_law log old.bucket published e old first history began ready.stands))

  -- taken back
  pub stands_undone : IsLeft published (before b) b new → StandsFor log old.bucket published new history
  stands_undone left = undo_law log old.bucket published published published old b new history (le_refl published) (le_refl published) ready.stands
      (undone published old b d'.rows r used_now) (λ e first began. restored (first ++ all_rows history) c d d' b r (answers_now e first began)) left

  -- committed
  pub run_settled : (entry : Entry) (done : Unit {0}) → r ≡ Ok done → entry ≡ entry_of d' → IsLeft published (after b epoch) b new → IsRun log old.bucket published epoch new history (Ok (Some entry))
  run_settled entry done ok is left = subst (λ (x : Entry). IsRun log old.bucket published epoch new history (Ok (Some x))) (sym is) (record {
    stands = settle_law log old.bucket published published published old b new history (commit_of (entry_of d') epoch) (le_refl published) (le_refl published) ready.epochs ready.stands
        (subst (λ (x : Result (Unit {0}) TreeFault). UsedAfter published old b d'.rows x) ok used_now) (λ e first began. (answered e first began).1) left;
    follows = λ e first began. let told = ready.told e first began in next_law first history d' epoch told.small began.sound told.legal ready.epochs (answered e first began).0;
  })
    where
      answered : (e : ℕ) (first : List Row) → Began log e first → IsAnswered (first ++ all_rows history) d' × Holds b (first ++ all_rows history) d'.rows
      answered e first began = subst (λ (x : Result (Unit {0}) TreeFault). AnswersSoundly (first ++ all_rows history) c d d' b x) ok (answers_now e first began)

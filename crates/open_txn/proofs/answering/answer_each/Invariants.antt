use Rattle.std.proofs.Common.{◌≡◌, take}
use Rattle.open_txn.specs.Steps.{Advances}
use Rattle.open_txn.specs.Traces.{AddsDone}
use Rattle.open_txn.proofs.answering.answer_each.Given as goal

abbrev pub invariant-loop-call : goal.invariant-loop-call
invariant-loop-call g l =
    g.S.NodeSource.later l.initial.source l.source × g.S.NodeSource.clean l.initial.source l.source × (l.draft.lane ≡ l.initial.draft.lane) × (l.draft.turn ≡ l.initial.draft.turn)
    × Advances (g.S.NodeSource.tells l.initial.source) (g.S.NodeSource.tells l.source) (g.S.NodeSource.upper l.initial.source) l.initial.buckets l.buckets l.initial.draft l.draft (take l.call-index l.calls)
    × AddsDone (g.S.NodeSource.tells l.initial.source) (g.S.NodeSource.finds l.initial.source) (g.S.NodeSource.upper l.initial.source) (take l.call-index l.calls) l.initial.draft.rows l.draft.rows l.initial.buckets l.buckets

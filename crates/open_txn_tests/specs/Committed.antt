-- What a transaction commits, or nothing.
use Rattle.std.specs.Prelude.{ℕ, List, [], ◌∷◌, ◌++◌, Option, Some, Result, Ok}
use Rattle.fine_model.specs.declared.Entry.{Entry}
use Rattle.fine_model.specs.History.{Commit}
use Rattle.btree_nodes.specs.declared.fault.TreeFault.{TreeFault}

abbrev pub commit_of : Entry → ℕ → Commit
commit_of entry epoch = record { entry = entry; epoch = epoch }

-- what was committed is behind a history
abbrev pub longer : List Commit → ℕ → Result (Option Entry) TreeFault → List Commit
longer history epoch (Ok (Some entry)) = history ++ commit_of entry epoch ∷ []
longer history epoch _ = history

-- P of what was committed
abbrev pub IfCommitted : (Commit → Type 0) → ℕ → Result (Option Entry) TreeFault → Type 0
IfCommitted P epoch (Ok (Some entry)) = P (commit_of entry epoch)
IfCommitted P epoch _ = Unit {0}

-- What a writer leaves: the text at the end, and no less room.
use Rattle.std.specs.Prelude.{◌≡◌, ℕ, ◌+◌, ◌≤◌, List, ◌∷◌, ◌++◌, length, vec_len, vec_capacity}
use Rattle.std.specs.Global.{Vec}
use Rattle.std.specs.Int.{to_be_bytes, w16, w32, w64}
use Rattle.fine_model.specs.declared.Row.{Row}

pub record Appends (old new : Vec ℕ) (text : List ℕ) : Type 0 where
  pub items : new.items ≡ old.items ++ text
  pub len : vec_len new ≡ vec_len old + length text
  pub room : vec_capacity old ≤ vec_capacity new

-- what stands before the body: the kind, the node, the version and the body's length
unfoldable pub front : ℕ → Row → ℕ → List ℕ
front kind row len = kind ∷ to_be_bytes w16 row.node.bucket ++ to_be_bytes w32 row.node.number ++ to_be_bytes w64 row.version ++ to_be_bytes w32 len

-- The standard streams as contracts see them: how often a call has failed, and what the library was asked for.
use Rattle.std.specs.Prelude.{ℕ, ◌+◌, List, Option, min}
use Rattle.fine_model.specs.Faults.{last_count}

-- one call of the library more; the count stands still at its last value
abbrev pub one_call_more : ℕ → ℕ
one_call_more calls = min (calls + 1) last_count

-- A stream: how many calls have failed, and how many were made on its reader or writer. Of the last of these, for how many bytes
-- it was, and how many were read or written, or None where it failed. And the bytes that the reader has left, or that the
-- writer holds, where it tells them.
pub record StreamState : Type 0 where
  pub faults : ℕ
  pub calls : ℕ
  pub asked : ℕ
  pub done : Option ℕ
  pub told : Option (List ℕ)

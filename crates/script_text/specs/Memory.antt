-- A source and a sink in memory, as contracts see them. Calls are counted from 1 on, and the numbers of those that are to fail are told.
use Rattle.std.specs.Prelude.{ℕ, List, Contains}
use Rattle.script_text.specs.Console.{one_call_more}

-- a source: the bytes that are left, which calls are to fail, how many were made, and how many of them failed
pub record Holding : Type 0 where
  pub bytes : List ℕ
  pub fails : List ℕ
  pub calls : ℕ
  pub faults : ℕ

-- a sink: what was written, for how many bytes in all it has room, which calls are to fail, how many were made, and how many of them failed
pub record Filling : Type 0 where
  pub bytes : List ℕ
  pub room : ℕ
  pub fails : List ℕ
  pub calls : ℕ
  pub faults : ℕ

-- the call that comes next is to fail
abbrev pub IsToFail : List ℕ → ℕ → Type 0
IsToFail fails calls = Contains fails (one_call_more calls)

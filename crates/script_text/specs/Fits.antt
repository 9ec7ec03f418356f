-- What was read of a script lies within the bounds of scripts.
use Rattle.std.specs.Prelude.{ℕ, ◌<◌, ◌≤◌, List, length, IfSome, ⊤}
use Rattle.std.specs.List.{AllByRecursion}
use Rattle.fine_model.specs.declared.Call.{Call}
use Rattle.fine_model.specs.Bounds.{FitsCall, FitsScript}
use Rattle.fine_model.specs.Script.{Reading, Line, skipped, begins, calls, ends, faulty}
use Rattle.script_text.specs.declared.grammar.Arguments.{Arguments}
use Rattle.script_text.specs.declared.grammar.Arguments.TheVariants as arguments

-- the lane and the calls of a transaction that is open
pub record FitsOpen (t : ℕ × List Call) : Type 0 where
  pub lane : (1 ≤ t.0) × (t.0 ≤ 16)
  pub few : length t.1 ≤ 10000
  pub calls : AllByRecursion FitsCall t.1

pub record FitsReading (r : Reading) : Type 0 where
  pub done : FitsScript r.done
  -- there is room for the one that is open
  pub started : IfSome r.open_txn (λ t. FitsOpen t × (length r.done < 100000))

-- a lane or a call that a line says
abbrev pub FitsLine : Line → Type 0
FitsLine skipped = ⊤
FitsLine (begins lane) = (1 ≤ lane) × (lane ≤ 16)
FitsLine (calls call) = FitsCall call
FitsLine (ends ending) = ⊤
FitsLine faulty = ⊤

-- no word is empty
abbrev pub AreWords : Arguments → Type 0
AreWords arguments.Zero = ⊤
AreWords (arguments.One a) = 0 < length a.now
AreWords (arguments.Two a b) = (0 < length a.now) × (0 < length b.now)
AreWords (arguments.Three a b c) = (0 < length a.now) × (0 < length b.now) × (0 < length c.now)
AreWords arguments.More = ⊤

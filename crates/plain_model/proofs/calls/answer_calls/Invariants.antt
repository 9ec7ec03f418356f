use Rattle.std.proofs.Common.{◌≡◌, ◌++◌, drop}
use Rattle.std.specs.Prelude.{List}
use Rattle.fine_model.specs.Map.{Pair, map_after}
use Rattle.fine_model.specs.declared.Call.{Call}
use Rattle.fine_model.specs.declared.Reply.{Reply}
use Rattle.fine_model.specs.declared.Write.{Write}
use Rattle.fine_model.specs.Store.{replies_to, writes_of}
use Rattle.plain_model.specs.Place.{Ascends}
use Rattle.plain_model.proofs.calls.answer_calls.Given as goal

-- what was answered so far, and the answers to the calls that are left, are the answers to all
pub record Answered (first pairs : List Pair) (calls left : List Call) (replies : List Reply) (writes : List Write) : Type 0 where
  pub order : Ascends pairs
  pub replies_so_far : replies ++ replies_to pairs left ≡ replies_to first calls
  pub writes_so_far : writes ++ writes_of pairs left ≡ writes_of first calls
  pub map_so_far : map_after pairs (writes_of pairs left) ≡ map_after first (writes_of first calls)

abbrev pub invariant-loop-i : goal.invariant-loop-i
invariant-loop-i l = Answered l.fn.pairs l.pairs l.calls (drop l.i l.calls) l.replies l.writes

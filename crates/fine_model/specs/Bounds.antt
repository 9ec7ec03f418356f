-- The bounds of what a script holds.
use Rattle.std.specs.Prelude.{◌≤◌, List, length, FitsSigned}
use Rattle.std.specs.List.{AllByRecursion}
use Rattle.std.specs.Int.{w64}
use Rattle.fine_model.specs.Types.{Call, ScriptTxn}
use Rattle.fine_model.specs.Types.call
use Rattle.fine_model.specs.RowBytes.{FitsKey, FitsValue}

-- the keys, the value, the number and the limit of a call are within their bounds
abbrev pub FitsCall : Call → Type 0
FitsCall (call.Get key) = FitsKey key
FitsCall (call.Put key value) = FitsKey key × FitsValue value
FitsCall (call.Del key) = FitsKey key
FitsCall (call.Add key by) = FitsKey key × FitsSigned w64 by
FitsCall (call.Scan low high limit) = FitsKey low × FitsKey high × (limit ≤ 10000)

-- a transaction of one of 16 lanes, with at most 10000 calls
pub record FitsTxn (txn : ScriptTxn) : Type 0 where
  pub lane : (1 ≤ txn.lane) × (txn.lane ≤ 16)
  pub few : length txn.calls ≤ 10000
  pub calls : AllByRecursion FitsCall txn.calls

-- at most 100000 transactions
pub record FitsScript (script : List ScriptTxn) : Type 0 where
  pub few : length script ≤ 100000
  pub txns : AllByRecursion FitsTxn script

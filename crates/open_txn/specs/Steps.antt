-- Calls over all buckets, without the history that these stand for.
use Rattle.std.specs.Prelude.{All, ◌≡◌, ◌<◌, ◌≤◌, ◌&&◌, not, ℕ, Bool, true, false, List, ◌++◌}
use Rattle.std.specs.List.{AllByRecursion, AllZip}
use Rattle.fine_model.specs.declared.Call.{Call}
use Rattle.fine_model.specs.declared.Reply.{Reply}
use Rattle.fine_model.specs.declared.Row.{Row}
use Rattle.fine_model.specs.Map.{Pair, is_below}
use Rattle.fine_model.specs.ScanLaws.{IsKept, times_of}
use Rattle.fine_model.specs.Store.{IsReplyTo}
use Rattle.fine_model.specs.Trees.{IsSound, bucket_of}
use Rattle.btree_nodes.specs.declared.fault.TreeFault.{TreeFault}
use Rattle.btree_nodes.specs.Faults.{OnFault}
use Rattle.txn_draft.specs.Drafts.{DraftValue, FitsDraft, IsAnswered}
use Rattle.txn_draft.specs.Scans.{ScanValue}
use Rattle.open_txn.specs.Buckets.{BucketsValue, HoldAll, RestoreAll, ServeAll}
use Rattle.open_txn.specs.Opened.{HasCause, UndoAll, UseAll, TouchesOf}

-- For some rows: a source serves each bucket, each holds what they and the draft's rows leave, and the draft is answered on them.
pub record IsServed (tells : List Row → Type 0) (rows : List Row) (v : BucketsValue) (d : DraftValue) : Type 0 where
  pub serves : ServeAll tells rows v
  pub holds : HoldAll rows d.rows v
  pub answered : IsAnswered rows d

-- replies behind others, one for each of some calls
pub record AddsReplies (calls : List Call) (old new : List Reply) : Type 0 where
  pub replies : List Reply
  pub behind : new ≡ old ++ replies
  pub each : AllZip IsReplyTo calls replies

-- calls were answered, behind those that were before
pub record Advances (tells tells' : List Row → Type 0) (upper : ℕ) (old new : BucketsValue) (d d' : DraftValue) (calls : List Call) : Type 0 where
  pub not_failed : d'.failed ≡ false
  pub behind : d'.calls ≡ d.calls ++ calls
  pub replied : AddsReplies calls d.replies d'.replies
  pub fits : FitsDraft d → FitsDraft d'
  pub uses : (low : ℕ) (taken : BucketsValue) → UseAll low taken old d.rows → low ≤ upper → UseAll low taken new d'.rows
  pub served : (rows : List Row) → IsServed tells rows old d → IsServed tells' rows new d'
  pub touches : TouchesOf calls old new

-- one of them was refused
pub record Refuses (tells : List Row → Type 0) (upper : ℕ) (old new : BucketsValue) (d : DraftValue) (calls : List Call) (fault : TreeFault) : Type 0 where
  pub undoes : (low : ℕ) (taken : BucketsValue) → UseAll low taken old d.rows → low ≤ upper → UndoAll low taken new
  pub restores : (rows : List Row) → IsServed tells rows old d → RestoreAll rows new
  pub cause : (rows : List Row) → IsServed tells rows old d → HasCause rows (d.calls ++ calls) fault
  pub touches : TouchesOf calls old new

-- ---- scans

-- a key is in a range
abbrev pub is_inside : List ℕ → List ℕ → Pair → Bool
is_inside low high p = not (is_below p.0 low) && is_below p.0 high

-- The pairs that a scan found in the buckets below a number, on every disk: of its range, of these buckets, and no key twice.
pub record AreFound (low high : List ℕ) (next : ℕ) (pairs : List Pair) : Type 0 where
  pub inside : All (λ p. is_inside low high p ≡ true) pairs
  pub of_buckets : AllByRecursion (λ p. bucket_of p.0 < next) pairs
  pub once : (key : List ℕ) → times_of key pairs ≤ 1

-- some buckets more were gone through
pub record Gathers (tells tells' : List Row → Type 0) (upper : ℕ) (old new : BucketsValue) (low high : List ℕ) (limit : ℕ) (s s' : ScanValue) : Type 0 where
  pub found : AreFound low high s.next s.pairs → AreFound low high s'.next s'.pairs
  pub uses : (least : ℕ) (taken : BucketsValue) (rows : List Row) → UseAll least taken old rows → least ≤ upper → UseAll least taken new rows
  pub serves : (rows : List Row) → ServeAll tells rows old → ServeAll tells' rows new
  pub holds : (rows log : List Row) → ServeAll tells rows old → HoldAll rows log old → IsSound (rows ++ log) → HoldAll rows log new
  pub kept : (rows log : List Row) → ServeAll tells rows old → HoldAll rows log old → IsSound (rows ++ log) → IsKept (rows ++ log) low high limit s.next s.pairs → IsKept (rows ++ log) low high limit s'.next s'.pairs

-- a bucket could not be gone through
pub record Halts (tells : List Row → Type 0) (upper : ℕ) (old new : BucketsValue) (fault : TreeFault) : Type 0 where
  pub uses : (least : ℕ) (taken : BucketsValue) (rows : List Row) → UseAll least taken old rows → least ≤ upper → UseAll least taken new rows
  pub holds : (rows log : List Row) → ServeAll tells rows old → HoldAll rows log old → IsSound (rows ++ log) → HoldAll rows log new
  pub cause : (rows log : List Row) → ServeAll tells rows old → HoldAll rows log old → IsSound (rows ++ log) → OnFault fault (λ _. Unit {0}) (λ _. ⊥) (Unit {0})

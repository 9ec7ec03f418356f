-- An open transaction: the entry that it is to become.
use Rattle.std.specs.Prelude.{◌≡◌, ℕ, ◌==◌, Bool, true, false, List, [], ◌∷◌, ◌++◌, Ok}
use Rattle.std.specs.List.{AllByRecursion, list_any}
use Rattle.fine_model.specs.declared.Call.{Call}
use Rattle.fine_model.specs.declared.Call.TheVariants as call
use Rattle.fine_model.specs.declared.Entry.{Entry}
use Rattle.fine_model.specs.declared.Mark.TheVariants as mark
use Rattle.fine_model.specs.declared.Reply.{Reply}
use Rattle.fine_model.specs.declared.Row.{Row}
use Rattle.fine_model.specs.declared.Write.{Write}
use Rattle.fine_model.specs.Laws.{IsPushed}
use Rattle.fine_model.specs.Map.{map_after}
use Rattle.fine_model.specs.Pushed.{all_pushed, key_of}
use Rattle.fine_model.specs.RowBytes.{FitsRow}
use Rattle.fine_model.specs.Store.{replies_to, writes_of}
use Rattle.fine_model.specs.Trees.{map_of, bucket_of}
use Rattle.btree_nodes.specs.Trees.{FitsLog}

-- `failed`: a call answered want of memory. The lists say nothing then, and what was done to buckets is to be undone.
pub record DraftValue : Type 0 where
  pub lane : ℕ
  pub turn : ℕ
  pub calls : List Call
  pub replies : List Reply
  pub writes : List Write
  pub rows : List Row
  pub failed : Bool

abbrev pub blank : ℕ → ℕ → DraftValue
blank lane turn = record { lane = lane; turn = turn; calls = []; replies = []; writes = []; rows = []; failed = false }

abbrev pub entry_of : DraftValue → Entry
entry_of d = record { lane = d.lane; turn = d.turn; calls = d.calls; replies = d.replies; writes = d.writes; rows = d.rows }

-- The calls so far are answered as the store answers them on top of rows; the rows are those that they push, in their order, and both
-- together are sound.
pub record IsAnswered (rows : List Row) (d : DraftValue) : Type 0 where
  pub replies : d.replies ≡ replies_to (map_of rows) d.calls
  pub writes : d.writes ≡ writes_of (map_of rows) d.calls
  pub is_pushed : all_pushed rows d.calls ≡ Ok d.rows
  pub leaves : IsPushed rows d.rows (map_after (map_of rows) d.writes)

-- a call is in the bucket of its key; a scan is in all of them
abbrev pub is_here : ℕ → Call → Bool
is_here bucket (call.Scan low high limit) = true
is_here bucket c = bucket_of (key_of c) == bucket

-- rows are within the format's bounds, and in buckets of the calls
pub record FitsDraft (d : DraftValue) : Type 0 where
  pub fit : AllByRecursion (FitsRow mark.Two) d.rows
  pub here : AllByRecursion (λ row. list_any (is_here row.node.bucket) d.calls ≡ true) d.rows

-- a call, its reply and what it writes stand behind what was kept
abbrev pub noted : DraftValue → Call → Reply → List Write → DraftValue
noted d c reply wrote = record d { calls = d.calls ++ c ∷ []; replies = d.replies ++ reply ∷ []; writes = d.writes ++ wrote }

-- and the rows that it pushed, behind those that were there: they fit the format and are of its bucket
pub record Keeps (c : Call) (old new : DraftValue) : Type 0 where
  pub reply : Reply
  pub wrote : List Write
  pub own : List Row
  pub is : new ≡ noted (record old { rows = old.rows ++ own }) c reply wrote
  pub fits : FitsLog (bucket_of (key_of c)) own

-- want of memory leaves a draft failed, with its lane and its number in the script
abbrev pub IsLost : DraftValue → DraftValue → Type 0
IsLost old new = (new.failed ≡ true) × (new.lane ≡ old.lane) × (new.turn ≡ old.turn)

-- a call is no scan
abbrev pub is_scan : Call → Bool
is_scan (call.Scan low high limit) = true
is_scan _ = false

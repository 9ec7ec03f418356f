-- Laws of open transactions.
use Rattle.std.specs.Prelude.{◌≡◌, ℕ, ◌<◌, ◌++◌, true, false, List, Result}
use Rattle.std.specs.List.{list_any}
use lib.ListN.{get_elem?}
use Rattle.fine_model.specs.declared.Row.{Row}
use Rattle.fine_model.specs.declared.law.RoomState.{RoomState}
use Rattle.fine_model.specs.Buckets.{Began}
use Rattle.fine_model.specs.History.{all_rows}
use Rattle.txn_draft.specs.Drafts.{DraftValue, IsAnswered, blank, is_here}
use Rattle.epoch_room.specs.declared.answers.RoomFault.{RoomFault}
use Rattle.epoch_room.specs.declared.answers.Stamp.{Stamp}
use Rattle.room_merges.specs.declared.fault.MergeFault.{MergeFault}
use Rattle.fine_hall.specs.declared.law.Beginning.{Beginning}
use Rattle.fine_hall.specs.Laws.{AreTurns}
use Rattle.fine_places.specs.History as places
use Rattle.fine_hall.specs.Passes.{known, turns, seen, HasPlace, LacksPlace, HoldsNothing, LacksJob}
use Rattle.fine_hall.specs.Halls.{SeesMore}
use Rattle.hall_rooms.specs.declared.making.Space.{Space}
use Rattle.hall_rooms.specs.Making.{AddsTurn, TriesRoom}
use Rattle.hall_rooms.specs.Posting.{ShowsViews}
use Rattle.hall_rooms.specs.Turning.{SealsAndPosts}
use Rattle.hall_rooms.specs.Rooms.{RoomPass}
use Rattle.txn_engine.specs.declared.txn.CommitFault.{CommitFault}
use Rattle.txn_engine.specs.declared.txn.Txn.{Txn}
use Rattle.txn_engine.specs.Txns.{Aborts, AreReplies, Commits, HoldsNone, IsOpenTxn, IsRefused}

-- What a draft answered on all that a pass saw is its answer on what the pass sees more, where the pass holds the buckets of its calls.
abbrev pub LocalLaw : Type 0
LocalLaw =
    (x : Beginning) (p p' : RoomPass) (d : DraftValue) (e : ℕ) (first : List Row) → SeesMore p p' → AreTurns x (turns p) → AreTurns x (turns p') → Began x.log e first
    → ((k : ℕ) → k < 256 → list_any (is_here k) d.calls ≡ true → HasPlace p k) → IsAnswered (first ++ all_rows (seen p)) d → IsAnswered (first ++ all_rows (seen p')) d

-- The replies of an open transaction that is not failed are the store's to its calls, on all that its pass saw.
abbrev pub RepliesLaw : Type 0
RepliesLaw = (x : Beginning) (t : Txn) (p : RoomPass) → IsOpenTxn x t p → t.draft.failed ≡ false → AreReplies x t p

-- a new transaction is open on a pass that holds no bucket
abbrev pub BeginsLaw : Type 0
BeginsLaw =
    (x : Beginning) (t : Txn) (p : RoomPass) (lane turn : ℕ) → t.draft ≡ blank lane turn → HoldsNone t.locks → AreTurns x (turns p) → ((k : ℕ) → k < 256 → LacksPlace p k) → IsOpenTxn x t p

-- an open one is open on all that the pass sees more, where that holds the same buckets
abbrev pub SeenLaw : Type 0
SeenLaw =
    (x : Beginning) (t : Txn) (p p' : RoomPass) → SeesMore p p' → AreTurns x (turns p) → AreTurns x (turns p') → ((k : ℕ) → k < 256 → get_elem? (known p').held k ≡ get_elem? (known p).held k) → IsOpenTxn x t p → IsOpenTxn x t p'

-- So it is over a turn of its pass without an entry, in which that kept what it held, as in one that made room.
abbrev pub TurnLaw : Type 0
TurnLaw =
    (x : Beginning) (t : Txn) (p p' : RoomPass) (found room : RoomState) → AddsTurn x found room p p' → AreTurns x (turns p) → AreTurns x (turns p') → LacksPlace p places.room → IsOpenTxn x t p → IsOpenTxn x t p'

-- over one that tried to make room, whatever it came to
abbrev pub TriesLaw : Type 0
TriesLaw =
    (x : Beginning) (t : Txn) (p p' : RoomPass) (from : ℕ) (r : Result Space MergeFault) → TriesRoom x from p p' r → AreTurns x (turns p) → AreTurns x (turns p') → LacksPlace p places.room → IsOpenTxn x t p → IsOpenTxn x t p'

-- over one that sealed what waits, or tried to
abbrev pub SealsLaw : Type 0
SealsLaw =
    (x : Beginning) (t : Txn) (p p' : RoomPass) (r : Result ℕ RoomFault) → SealsAndPosts x p p' r → AreTurns x (turns p) → AreTurns x (turns p') → LacksPlace p places.room → IsOpenTxn x t p → IsOpenTxn x t p'

-- and over one that posted views alone, or tried to
abbrev pub ShowsLaw : Type 0
ShowsLaw =
    (x : Beginning) (t : Txn) (p p' : RoomPass) (r : Result ℕ RoomFault) → ShowsViews x p p' r → AreTurns x (turns p) → AreTurns x (turns p') → LacksPlace p places.room → IsOpenTxn x t p → IsOpenTxn x t p'

-- Whatever such a pass holds, no merge is out behind a turn that made room, and none behind one that sealed or posted where none was before.
abbrev pub TriesNoJob : Type 0
TriesNoJob = (x : Beginning) (p p' : RoomPass) (from : ℕ) (r : Result Space MergeFault) → TriesRoom x from p p' r → LacksJob x p'

abbrev pub SealsNoJob : Type 0
SealsNoJob = (x : Beginning) (p p' : RoomPass) (r : Result ℕ RoomFault) → p'.number ≡ p.number → SealsAndPosts x p p' r → LacksJob x p → LacksJob x p'

abbrev pub ShowsNoJob : Type 0
ShowsNoJob = (x : Beginning) (p p' : RoomPass) (r : Result ℕ RoomFault) → p'.number ≡ p.number → ShowsViews x p p' r → LacksJob x p → LacksJob x p'

-- ---- what a pass has out

abbrev pub CommitsIdle : Type 0
CommitsIdle = (x : Beginning) (keep : ℕ) (t t' : Txn) (p p' : RoomPass) (stamp : Stamp) → p'.number ≡ p.number → Commits x keep t t' p p' stamp → LacksJob x p → HoldsNothing p' × LacksJob x p'

abbrev pub RefusedJob : Type 0
RefusedJob = (x : Beginning) (t t' : Txn) (p p' : RoomPass) (cause : CommitFault) → p'.number ≡ p.number → IsRefused x t t' p p' cause → LacksJob x p → LacksJob x p'

abbrev pub AbortsIdle : Type 0
AbortsIdle = (x : Beginning) (keep : ℕ) (t t' : Txn) (p p' : RoomPass) → p'.number ≡ p.number → AreTurns x (turns p') → Aborts x keep t t' p p' → LacksPlace p places.room → LacksJob x p → HoldsNothing p' × LacksJob x p'

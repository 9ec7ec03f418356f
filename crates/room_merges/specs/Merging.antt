-- What is read through a view on the board, and what the room asks of a merged body.
use Rattle.std.specs.Prelude.{◌≡◌, ℕ, ◌+◌, ◌<◌, true, List, [], ◌∷◌, ◌++◌, length, Contains, Option, Some, option_map}
use Rattle.fine_model.specs.declared.Header.{Header}
use Rattle.fine_model.specs.declared.Job.{Job}
use Rattle.fine_model.specs.declared.Part.{Part}
use Rattle.fine_model.specs.declared.Row.{Row}
use Rattle.fine_model.specs.Jobs.{KeepsJob, held_for}
use Rattle.fine_model.specs.Merge.{cost, merged}
use Rattle.fine_model.specs.Regions.{Image, body_bytes}
use Rattle.fine_model.specs.RowBytes.{rows_len}
use Rattle.fine_model.specs.Views.{TellsRowsOf}
use Rattle.log_disk.specs.Disk.{Eye}
use Rattle.partition_index.specs.Search.{TellsRows as TellsPart}
use Rattle.partition_merge.specs.declared.merger.Measure.{Measure}
use Rattle.partition_merge.specs.declared.merger.Merger.{Merger}
use Rattle.partition_merge.specs.Blocks.{BlocksValue, IsAhead}
use Rattle.partition_merge.specs.Joined.{IsJoined, IsJoinedBody}
use Rattle.partition_merge.specs.Mergers.{at_front, measure_of}
use Rattle.partition_hold.specs.Views.{IsView, SameView, ViewValue}
use Rattle.epoch_room.specs.MergeSealing.{IsWrittenOut}
use Rattle.epoch_room.specs.Returns.{IsPosted}
use Rattle.epoch_room.specs.Value.{RoomValue}
use Rattle.epoch_room.specs.Whole.{IsWhole}

-- a view is out: its eye stands on the board of a whole room
pub record IsOut (value : RoomValue) (view : ViewValue) : Type 0 where
  pub whole : IsWhole value
  pub is_view : IsView view
  pub posted : IsPosted value.room view
  pub region_len : view.region_len ≡ value.room.region_len

-- the view's eye tells these rows of a part, in the grammar
abbrev pub EyeTells : ViewValue → Part → List Row → Type 0
EyeTells view p rows = TellsRowsOf view.eye.told view.region_len (p ∷ []) rows

-- so of all rows that the view's eye tells of two parts
abbrev pub OfTold : ViewValue → Part → Part → (List Row → List Row → Type 0) → Type 0
OfTold view older newer P = (a b : List Row) → EyeTells view older a → EyeTells view newer b → P a b

-- so of the bytes that the view's eye tells, in the grammar or not
abbrev pub OfBytes : ViewValue → (Image → Type 0) → Type 0
OfBytes view P = (image : Image) → view.eye.told ≡ Some image → P image

-- what a read of the disk tells of a part of a view that is out, its eye tells too
abbrev pub ShownByEye : Type 0
ShownByEye =
    (value : RoomValue) (view : ViewValue) (p : Part) (rows : List Row) → IsOut value view → Contains view.parts p
    → TellsRowsOf value.room.image value.room.region_len (p ∷ []) rows → EyeTells view p rows

-- ---- the measure

-- a measure is that of the merged rows
abbrev pub Measures : ViewValue → Part → Part → Measure → Type 0
Measures view older newer measure = OfTold view older newer (λ a b. measure ≡ measure_of (merged a b))

-- so is one that is exact wherever the eye tells both parts and the merged rows have fewer than 2^32 bytes
abbrev pub MeasureIsTold : Type 0
MeasureIsTold =
    (view : ViewValue) (older newer : Part) (measure : Measure) → IsView view → Contains view.parts older → Contains view.parts newer
    → ((a b : List Row) → TellsPart view.eye older a → TellsPart view.eye newer b → rows_len (merged a b) < 4294967296 → measure ≡ measure_of (merged a b))
    → Measures view older newer measure

-- ---- the blocks

-- between two blocks: what was handed out of the body of the merged rows stands in the job's target, and the job counts it
abbrev pub IsBetween : RoomValue → ViewValue → BlocksValue → Job → Type 0
IsBetween value view blocks job =
    OfTold view job.older job.newer (λ a b. (handed : List ℕ) × IsAhead view.eye blocks handed a b × (held_for value.room.image job ≡ Some handed) × (length handed ≡ job.written))

-- the body of the merged rows stands in the job's target
abbrev pub HoldsBody : RoomValue → ViewValue → Job → Type 0
HoldsBody value view job = OfTold view job.older job.newer (λ a b. held_for value.room.image job ≡ Some (body_bytes (merged a b)))

-- a job that has written nothing, and blocks that begin with none
abbrev pub BlocksBegin : Type 0
BlocksBegin =
    (value : RoomValue) (view : ViewValue) (blocks : BlocksValue) (job : Job) → IsOut value view
    → Contains view.parts job.older → Contains view.parts job.newer → job.written ≡ 0
    → ((eye : Eye) (a b : List Row) → TellsPart eye job.older a → TellsPart eye job.newer b → rows_len (merged a b) < 4294967296 → IsAhead eye blocks [] a b)
    → IsBetween value view blocks job

-- the job counts as many bytes as the merged rows and their index have
abbrev pub CountsBody : ViewValue → Job → Type 0
CountsBody view job = OfTold view job.older job.newer (λ a b. job.written ≡ cost (merged a b))

-- a block that was handed out is written behind those before it
abbrev pub BlocksGoOn : Type 0
BlocksGoOn =
    (old new : RoomValue) (view view' : ViewValue) (blocks blocks' : BlocksValue) (job job' : Job) → SameView view view'
    → job'.older ≡ job.older → job'.newer ≡ job.newer → job'.written ≡ job.written + length blocks'.block
    → ((handed : List ℕ) (a b : List Row) → IsAhead view.eye blocks handed a b → IsAhead view'.eye blocks' (handed ++ blocks'.block) a b)
    → held_for new.room.image job' ≡ option_map (λ held. held ++ blocks'.block) (held_for old.room.image job)
    → IsBetween old view blocks job → IsBetween new view' blocks' job'

-- all blocks were handed out
abbrev pub BlocksEnd : Type 0
BlocksEnd =
    (value : RoomValue) (view view' : ViewValue) (blocks : BlocksValue) (job : Job) → SameView view view'
    → ((handed : List ℕ) (a b : List Row) → IsAhead view.eye blocks handed a b → handed ≡ body_bytes (merged a b))
    → IsBetween value view blocks job → HoldsBody value view' job × CountsBody view' job

-- ---- the blocks, whatever is read

-- a merger of the parts of a job, at their front, as the view reads them
abbrev pub merger_of : ViewValue → Job → Merger
merger_of view job = at_front job.older job.newer view.region_len

-- bytes stand in the job's target, and the job counts them
abbrev pub StandsIn : RoomValue → Job → List ℕ → Type 0
StandsIn value job bytes = (held_for value.room.image job ≡ Some bytes) × (length bytes ≡ job.written)

-- between two blocks: what was handed out stands in the job's target, made of the lists of rows that were joined so far
abbrev pub IsJoining : RoomValue → ViewValue → BlocksValue → Job → Type 0
IsJoining value view blocks job = OfBytes view (λ image. (handed : List ℕ) × IsJoined (Some image) (merger_of view job) blocks handed × StandsIn value job handed)

-- the body of all joined lists of rows stands in the job's target
abbrev pub HoldsJoined : RoomValue → ViewValue → Job → Type 0
HoldsJoined value view job = OfBytes view (λ image. (bytes : List ℕ) × IsJoinedBody (Some image) (merger_of view job) bytes × StandsIn value job bytes)

-- as it begins, goes on with a block, and ends
abbrev pub JoiningBegins : Type 0
JoiningBegins =
    (value : RoomValue) (view : ViewValue) (blocks : BlocksValue) (job : Job) (region_len : ℕ) → IsOut value view → job.written ≡ 0 → region_len ≡ view.region_len
    → ((known : Option Image) → IsJoined known (at_front job.older job.newer region_len) blocks []) → IsJoining value view blocks job

abbrev pub JoiningGoesOn : Type 0
JoiningGoesOn =
    (old new : RoomValue) (view view' : ViewValue) (blocks blocks' : BlocksValue) (job job' : Job) → SameView view view'
    → job'.older ≡ job.older → job'.newer ≡ job.newer → job'.written ≡ job.written + length blocks'.block
    → ((start : Merger) (handed : List ℕ) → IsJoined view.eye.told start blocks handed → IsJoined view.eye.told start blocks' (handed ++ blocks'.block))
    → held_for new.room.image job' ≡ option_map (λ held. held ++ blocks'.block) (held_for old.room.image job)
    → IsJoining old view blocks job → IsJoining new view' blocks' job'

abbrev pub JoiningEnds : Type 0
JoiningEnds =
    (value : RoomValue) (view view' : ViewValue) (blocks : BlocksValue) (job : Job) → SameView view view'
    → ((start : Merger) (handed : List ℕ) → IsJoined view.eye.told start blocks handed → IsJoinedBody view.eye.told start handed)
    → IsJoining value view blocks job → HoldsJoined value view' job

-- ---- while others have turns

-- what is said of a room, and of a job that is out of it, lasts as long as the calls on the room are not the merger's
abbrev pub LastsFor : Job → (RoomValue → Type 0) → Type 0
LastsFor job P = (old new : RoomValue) → old.room.job ≡ Some job → KeepsJob old.room new.room → P old → P new

-- between two blocks, and once the whole body stands in the job's target
abbrev pub WritingLasts : Type 0
WritingLasts =
    ((view : ViewValue) (blocks : BlocksValue) (job : Job) → LastsFor job (λ value. IsBetween value view blocks job))
    × ((view : ViewValue) (job : Job) → LastsFor job (λ value. HoldsBody value view job))

-- and so, whatever is read
abbrev pub JoiningLasts : Type 0
JoiningLasts =
    ((view : ViewValue) (blocks : BlocksValue) (job : Job) → LastsFor job (λ value. IsJoining value view blocks job))
    × ((view : ViewValue) (job : Job) → LastsFor job (λ value. HoldsJoined value view job))

-- ---- the end

-- a header counts what a measure does
pub record CountsAs (header : Header) (measure : Measure) : Type 0 where
  pub rows : header.rows ≡ measure.rows
  pub nodes : header.nodes ≡ measure.nodes
  pub area : header.area ≡ measure.area

-- the body of rows in order, which the header counts, is written out, as sealing asks
abbrev pub BodyIsWritten : Type 0
BodyIsWritten =
    (value : RoomValue) (view : ViewValue) (job : Job) (header : Header) (measure : Measure) → IsOut value view
    → Contains view.parts job.older → Contains view.parts job.newer → CountsAs header measure → measure.ordered ≡ true
    → Measures view job.older job.newer measure → HoldsBody value view job → IsWrittenOut value.room job header

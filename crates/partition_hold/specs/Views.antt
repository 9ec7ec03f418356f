-- A view as contracts see it.
use Rattle.std.specs.Prelude.{◌≡◌, ◌<◌, ◌≤◌, ℕ, List, [], ◌∷◌, ◌++◌, Contains}
use Rattle.std.specs.List.{AllByRecursion}
use Rattle.log_disk.specs.Disk.{Eye}
use Rattle.fine_model.specs.declared.Part.{Part}
use Rattle.fine_model.specs.declared.Row.{Row}
use Rattle.fine_model.specs.declared.law.OpenedEye.{OpenedEye}
use Rattle.fine_model.specs.declared.law.ViewState.{ViewState}
use Rattle.fine_model.specs.Chain.{regions_of}
use Rattle.fine_model.specs.Boards.{set_of}
use Rattle.fine_model.specs.Views.{TellsRows, TellsRowsOf}
use Rattle.fine_model.specs.RowBytes.{most_in_log}
use Rattle.partition_index.specs.Parts.{IsSeen, SameEye}
use Rattle.partition_index.specs.Search.{TellsRows as TellsPart}
use Rattle.node_fetch.specs.Fetched.{TellsParts}

-- the eye, the parts that are read through it, the last epoch that they hold, the place on the board, and the length of the regions
pub record ViewValue : Type 0 where
  pub eye : Eye
  pub parts : List Part
  pub upto : ℕ
  pub seat : ℕ
  pub buffer : ℕ
  pub region_len : ℕ

-- what holds of every view: its eye sees each part, and has regions below 64 of this length; seats are from 1 on, and each has three buffers
pub record IsView (v : ViewValue) : Type 0 where
  pub seen : AllByRecursion (IsSeen v.eye) v.parts
  pub long : v.region_len ≡ v.eye.region_len
  pub small : AllByRecursion (λ r. r < most_in_log) v.eye.regions
  pub place : (1 ≤ v.seat) × (v.buffer < 3)

-- an eye as the board has it
abbrev pub opened : Eye → OpenedEye
opened eye = record { number = eye.number; regions = set_of eye.regions; told = eye.told }

-- a view as a hall sees it
abbrev pub state_of : ViewValue → ViewState
state_of v = record { seat = v.seat; buffer = v.buffer; upto = v.upto; parts = v.parts; region_len = v.region_len; eye = opened v.eye; faults = v.eye.faults }

-- the same view, but for the counts of its eye
pub record SameView (old new : ViewValue) : Type 0 where
  pub eye : SameEye old.eye new.eye
  pub parts : new.parts ≡ old.parts
  pub upto : new.upto ≡ old.upto
  pub place : (new.seat ≡ old.seat) × (new.buffer ≡ old.buffer)
  pub region_len : new.region_len ≡ old.region_len

-- what a view tells is what its eye tells of its parts
abbrev pub ViewTells : Type 0
ViewTells = (v : ViewValue) (rows : List Row) → IsView v → TellsRows (state_of v) rows → TellsParts v.eye v.parts rows

-- an eye tells each of some parts, and these are their rows in order
abbrev pub TellsEach : Eye → List Part → List Row → Type 0
TellsEach eye [] rows = rows ≡ []
TellsEach eye (p ∷ parts) rows = (own more : List Row) × (rows ≡ own ++ more) × TellsPart eye p own × TellsEach eye parts more

-- and each of its parts
abbrev pub ViewTellsEach : Type 0
ViewTellsEach = (v : ViewValue) (rows : List Row) → IsView v → TellsRows (state_of v) rows → TellsEach v.eye v.parts rows

-- what a view tells of one part is what its eye tells of that part
abbrev pub ViewTellsPart : Type 0
ViewTellsPart = (v : ViewValue) (p : Part) (rows : List Row) → IsView v → TellsRowsOf v.eye.told v.region_len (p ∷ []) rows → TellsPart v.eye p rows

-- the eye of a view names all regions of its parts, also as the board has it
abbrev pub ViewNames : Type 0
ViewNames = (v : ViewValue) → IsView v → AllByRecursion (λ p. AllByRecursion (Contains (set_of v.eye.regions)) (regions_of p)) v.parts

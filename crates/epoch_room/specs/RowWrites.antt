-- What sealing rows as one part does to a disk.
use Rattle.std.specs.Prelude.{◌≡◌, ◌⊎◌, ℕ, ◌+◌, List, [], ◌++◌, length, IsErrOf, IsTrue, OnOk, Result, Ok, Err}
use Rattle.std.specs.List.{AllByRecursion}
use Rattle.fine_model.specs.declared.Header.{Header}
use Rattle.fine_model.specs.declared.Mark.TheVariants as mark
use Rattle.fine_model.specs.declared.Part.{Part}
use Rattle.fine_model.specs.declared.Row.{Row}
use Rattle.fine_model.specs.Chain.{regions_of}
use Rattle.fine_model.specs.ChainLaws.{DiffersBehind}
use Rattle.fine_model.specs.Merge.{is_ordered, nodes_in}
use Rattle.fine_model.specs.Regions.{body_bytes, body_in, header_bytes}
use Rattle.fine_model.specs.RowBytes.{FitsRow, rows_len}
use Rattle.log_disk.specs.Disk.{BothTold, Disk, Image, SameOutside, Told, with_bytes}
use Rattle.log_disk.specs.Moments.{LeavesOnly}
use Rattle.log_disk.specs.declared.refusal.DiskRefusal.{DiskRefusal}
use Rattle.log_disk.specs.declared.refusal.DiskRefusal.TheVariants as refusal
use Rattle.partition_index.specs.Placing.{HasBody}
use Rattle.epoch_room.specs.BodyWrites.{WritesBody}
use Rattle.epoch_room.specs.Gate.{IsBehind, KeepsBeside, LeavesBehind, ReadsBehind, TouchesOnly, gate}

-- rows in order, which a header counts
pub record AreCounted (header : Header) (own : List Row) : Type 0 where
  pub ordered : IsTrue (is_ordered own)
  pub fit : AllByRecursion (FitsRow mark.Two) own
  pub rows : header.rows ≡ length own
  pub nodes : header.nodes ≡ length (nodes_in own)
  pub area : header.area ≡ rows_len own

-- What writing all bytes of a part's body does. Whatever it answers, it touches no region but the part's, behind the gates that were there.
pub record WritesRows (p : Part) (bytes : List ℕ) (result : Result (Unit {0}) DiskRefusal) (old new : Disk) : Type 0 where
  pub touches : TouchesOnly (regions_of p) (IsErrOf result refusal.Failed) old new
  pub open touches use *
  pub read : ReadsBehind (regions_of p) old new
  pub leaves : LeavesBehind (regions_of p) old new
  pub done : OnOk result (BothTold (λ a b. HasBody p 0 bytes a.bytes b.bytes) old.told new.told)

-- the front of a block was written, and the rest waits
pub record WritesFront (p : Part) (at : ℕ) (old_block new_block : List ℕ) (next : ℕ) (old new : Disk) : Type 0 where
  pub front : List ℕ
  pub split : front ++ new_block ≡ old_block
  pub place : next ≡ at + length front
  pub run : WritesBody (regions_of p) p at front (Ok tt) old new

-- a block was written and is empty, or waits until it is full
abbrev pub WritesFull : Part → ℕ → List ℕ → List ℕ → Result ℕ DiskRefusal → Disk → Disk → Type 0
WritesFull p at old_block new_block (Ok next) old new = WritesFront p at old_block new_block next old new
WritesFull p at old_block new_block (Err e) old new = WritesBody (regions_of p) p at old_block (Err e) old new

-- an image whose part has the body of these rows, and that differs from another one behind the gates of the part's regions alone
pub record HasBodyOf (p : Part) (rows : List Row) (old new : Image) : Type 0 where
  pub differs : DiffersBehind (regions_of p) old new
  pub rest : List ℕ
  pub body : body_in new p.region p.header ≡ body_bytes rows ++ rest

-- such an image with the header in the lead, and any byte at its gate
pub record IsGated (region_len : ℕ) (p : Part) (rows : List Row) (before : Told) (image : Image) : Type 0 where
  pub base : Image
  pub has_body : HasBodyOf p rows before.bytes base
  pub same : SameOutside p.region 0 1 (with_bytes base p.region 1 (header_bytes region_len p.header)) image

-- while rows are sealed: torn behind the gates that were there, or all written, with any byte at the gate of the lead
abbrev pub IsSealingRows : ℕ → Part → List Row → Told → Image → Type 0
IsSealingRows region_len p rows before image = IsBehind (regions_of p) before image ⊎ IsGated region_len p rows before image

-- all is written, and the gate is open
pub record HasPart (region_len : ℕ) (p : Part) (rows : List Row) (before after : Told) : Type 0 where
  pub base : Image
  pub has_body : HasBodyOf p rows before.bytes base
  pub bytes : after.bytes ≡ with_bytes (with_bytes base p.region 1 (header_bytes region_len p.header)) p.region 0 gate

-- Whatever it answers, it touches no region but the part's. After want of memory nothing differs but behind the gates that were there.
pub record SealsRows (p : Part) (rows : List Row) (result : Result (Unit {0}) DiskRefusal) (old new : Disk) : Type 0 where
  pub touches : TouchesOnly (regions_of p) (IsErrOf result refusal.Failed) old new
  pub open touches use *
  pub read : KeepsBeside (regions_of p) old new
  pub leaves : BothTold (λ a b. LeavesOnly (IsSealingRows old.region_len p rows a) a b) old.told new.told
  pub synced : OnOk result (new.unsynced ≡ [])
  pub sealed : OnOk result (BothTold (HasPart old.region_len p rows) old.told new.told)
  pub torn : IsErrOf result refusal.NoMemory → LeavesBehind (regions_of p) old new
  pub behind : IsErrOf result refusal.NoMemory → ReadsBehind (regions_of p) old new

-- Sources whose rows and entries are read ahead.
use Rattle.std.specs.Prelude.{ℕ, ◌+◌, ◌<◌, ◌≤◌}
use Rattle.fine_model.specs.Regions.{Image, body_in}
use Rattle.fine_model.specs.Seek.{entry_at, entry_place}
use Rattle.partition_merge.specs.declared.merger.Merger.{Merger}
use Rattle.partition_merge.specs.declared.merger.Source.{Source}
use Rattle.partition_merge.specs.Mergers.{kept_count}
use Rattle.partition_merge.specs.Windows.{unread_len}

-- Neither window is ahead of what is asked for next: the next entry that is not kept, and the rows of the next node, which lie where an
-- image has its entry. So no byte is read twice.
pub record IsInOrder (image : Image) (source : Source) : Type 0 where
  pub index : source.ahead.index.from ≤ entry_place source.part.header (source.next + kept_count source.head)
  pub rows : source.next < source.part.header.nodes → source.ahead.rows.from ≤ (entry_at source.part.header (body_in image source.part.region source.part.header) source.next).offset

-- so of both sources of a merger
pub record AreInOrder (image : Image) (merger : Merger) : Type 0 where
  pub older : IsInOrder image merger.older
  pub newer : IsInOrder image merger.newer

-- how many bytes were not yet read of a source, and of both of a merger
abbrev pub bytes_left : Source → ℕ
bytes_left source = unread_len source.part source.ahead

abbrev pub both_bytes_left : Merger → ℕ
both_bytes_left merger = bytes_left merger.older + bytes_left merger.newer

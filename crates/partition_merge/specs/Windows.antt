-- Windows on the body of a part: bytes of it that were read before they are asked for.
use Rattle.std.specs.Prelude.{ℕ, ◌+◌, ◌-◌, ◌≤◌, IfSome, Option, None, List, [], length, max}
use Rattle.fine_model.specs.declared.Part.{Part}
use Rattle.fine_model.specs.Regions.{Image, body_len}
use Rattle.partition_index.specs.Search.{IsEntryAt, IsRangeAt}
use Rattle.partition_merge.specs.declared.through.NumberedEntry.{NumberedEntry}

-- bytes of a body, from an offset on
pub record WindowValue : Type 0 where
  pub from : ℕ
  pub bytes : List ℕ

-- the offset behind a window
abbrev pub window_end : WindowValue → ℕ
window_end window = window.from + length window.bytes

-- A window has bytes of a part's body, as far as an eye tells it, none of which lies behind the end of what is read through it.
pub record HoldsWindow (known : Option Image) (part : Part) (end : ℕ) (window : WindowValue) : Type 0 where
  pub within : window_end window ≤ end
  pub range : IsRangeAt known part window.from window.bytes

-- what was read of a part before it is asked for: of its rows, of its index, and an entry of the index
pub record AheadValue : Type 0 where
  pub rows : WindowValue
  pub index : WindowValue
  pub next : Option NumberedEntry

-- nothing was
abbrev pub no_window : WindowValue
no_window = record { from = 0; bytes = [] }

abbrev pub nothing_ahead : AheadValue
nothing_ahead = record { rows = no_window; index = no_window; next = None }

-- both windows have bytes of the part's body, and the entry is that of its number
pub record HoldsAhead (known : Option Image) (part : Part) (ahead : AheadValue) : Type 0 where
  pub rows : HoldsWindow known part part.header.area ahead.rows
  pub index : HoldsWindow known part (body_len part.header) ahead.index
  pub next : IfSome ahead.next (λ n. IsEntryAt known part n.number n.entry)

-- how many bytes of the rows of a part lie behind a window, and how many of its index
abbrev pub rows_left : Part → WindowValue → ℕ
rows_left part window = part.header.area - window_end window

abbrev pub index_left : Part → WindowValue → ℕ
index_left part window = body_len part.header - max part.header.area (window_end window)

-- how many bytes of a part were not yet read, where its rows and its index are each read from front to back
abbrev pub unread_len : Part → AheadValue → ℕ
unread_len part ahead = rows_left part ahead.rows + index_left part ahead.index

-- What a look into the index and a fetch of one node find, also in regions that are not in the grammar.
use Rattle.std.specs.Prelude.{◌≡◌, ◌≢◌, ◌⊎◌, ℕ, ◌+◌, ◌-◌, ◌*◌, ◌/◌, ◌<◌, ◌≤◌, zero, suc, nat_le, nat_lt, Bool, true, ◌&&◌, if◌then◌else◌, List, [], ◌∷◌, ◌++◌, length, take, drop, Option, None, Some, Result, Ok, Err}
use Rattle.std.specs.List.{AllByRecursion}
use Rattle.std.specs.Int.{w16, w32, w64, leading_zeros}
use Rattle.fine_model.specs.Types.{NodeId, Row, Header}
use Rattle.fine_model.specs.Merge.{is_node_below}
use Rattle.fine_model.specs.RowBytes.{node_numbers, rows_bytes, rows_len, FitsRow, index_entry}
use Rattle.fine_model.specs.Regions.{number_in, row_area}

-- an index entry as its bytes say
pub record IndexEntry : Type 0 where
  pub node : NodeId
  pub offset : ℕ
  pub rows : ℕ

-- where the i-th index entry starts in the body
abbrev pub entry_place : Header → ℕ → ℕ
entry_place header i = header.area + index_entry * i

-- the index entry at a place
abbrev pub entry_of : List ℕ → ℕ → IndexEntry
entry_of body at = record {
  node = record { bucket = number_in w16 at body; number = number_in w32 (at + 2) body };
  offset = number_in w32 (at + 6) body;
  rows = number_in w32 (at + 10) body;
}

-- the i-th index entry
abbrev pub entry_at : Header → List ℕ → ℕ → IndexEntry
entry_at header body i = entry_of body (entry_place header i)

-- an entry may stand behind this header
abbrev pub is_entry : Header → IndexEntry → Bool
is_entry header e =
    nat_le e.node.bucket 255 && nat_lt e.node.number node_numbers && nat_lt e.offset header.area
    && nat_le 1 e.rows && nat_le e.rows header.rows

-- the rows of a node in the row area, from an offset up to an end
pub record RowSpan : Type 0 where
  pub at : ℕ
  pub end : ℕ
  pub rows : ℕ

-- the offset behind the span of the i-th entry
abbrev pub span_end : Header → List ℕ → ℕ → ℕ
span_end header body i = if nat_lt (i + 1) header.nodes then (entry_at header body (i + 1)).offset else header.area

-- the next entry, where there is one, may stand there
abbrev pub is_followed : Header → List ℕ → ℕ → Bool
is_followed header body i = if nat_lt (i + 1) header.nodes then is_entry header (entry_at header body (i + 1)) else true

-- The span of the i-th entry, or the place in the body of the entry that is bad: itself, the next one, or itself where its span is empty.
unfoldable pub span_at : Header → List ℕ → ℕ → Result RowSpan ℕ
span_at header body i =
    if is_entry header (entry_at header body i)
    then (if is_followed header body i
    then (if nat_lt (entry_at header body i).offset (span_end header body i)
    then Ok (record { at = (entry_at header body i).offset; end = span_end header body i; rows = (entry_at header body i).rows })
    else Err (entry_place header i))
    else Err (entry_place header (i + 1)))
    else Err (entry_place header i)

-- the number in the middle of two
abbrev pub middle_of : ℕ → ℕ → ℕ
middle_of low high = low + (high - low) / 2

-- What a search by halves comes to by the i-th entry: this one is bad, or it names a lower node, and the search goes on above it, or a higher one, and it goes on
-- below, or it is the one that was sought.
abbrev pub turn_at : Header → List ℕ → NodeId → ℕ → Result (Option ℕ) ℕ → Result (Option ℕ) ℕ → Result (Option ℕ) ℕ
turn_at header body id i above below =
    if is_entry header (entry_at header body i)
    then (if is_node_below (entry_at header body i).node id then above
    else (if is_node_below id (entry_at header body i).node then below
    else Ok (Some i)))
    else Err (entry_place header i)

-- the same from the middle of the numbers from one up to another, in so many turns at most
unfoldable pub entry_between : ℕ → Header → List ℕ → NodeId → ℕ → ℕ → Result (Option ℕ) ℕ
entry_between zero header body id low high = Ok None
entry_between (suc turns) header body id low high =
    if nat_lt low high
    then turn_at header body id (middle_of low high) (entry_between turns header body id (middle_of low high + 1) high) (entry_between turns header body id low (middle_of low high))
    else Ok None

-- The number of the entry of a node that a look into an index finds, none, or the place in the body of the bad entry that it meets. In the grammar the order of the nodes
-- decides this; in other bytes, where a node may be named by some entries and yet miss where it ought to stand, the way of the search alone does, so that the way is told here.
abbrev pub sought_entry : Header → List ℕ → NodeId → Result (Option ℕ) ℕ
sought_entry header body id = entry_between header.nodes header body id 0 header.nodes

-- the bytes of a span
abbrev pub span_bytes : Header → List ℕ → RowSpan → List ℕ
span_bytes header body span = take (span.end - span.at) (drop span.at (row_area header body))

-- the front of a span is these rows of the node, and more follows
pub record SpanBegins (header : Header) (body : List ℕ) (span : RowSpan) (id : NodeId) (rows : List Row) (rest : List ℕ) : Type 0 where
  pub fit : AllByRecursion (FitsRow header.mark) rows
  pub of_node : AllByRecursion (λ row. row.node ≡ id) rows
  pub spelled : span_bytes header body span ≡ rows_bytes rows ++ rest
  pub counted : length rows ≤ span.rows

-- a span is exactly these rows of the node
pub record SpanHolds (header : Header) (body : List ℕ) (span : RowSpan) (id : NodeId) (rows : List Row) : Type 0 where
  pub begins : SpanBegins header body span id rows []
  pub all : length rows ≡ span.rows

-- the place in the body where, behind the good rows of a span, none stands that goes on, or bytes are left behind the last one
pub record IsBadInSpan (header : Header) (body : List ℕ) (span : RowSpan) (id : NodeId) (at : ℕ) : Type 0 where
  pub rows : List Row
  pub rest : List ℕ
  pub good : SpanBegins header body span id rows rest
  pub place : at ≡ span.at + rows_len rows
  pub unfinished : (length rows < span.rows) ⊎ (rest ≢ [])
  pub last : (row : Row) (more : List ℕ) → SpanBegins header body span id (rows ++ row ∷ []) more → ⊥

-- how many binary digits a number has, and how many bytes one look into an index may take
abbrev pub binary_digits : ℕ → ℕ
binary_digits n = 64 - leading_zeros w64 n

-- how many bytes one look into an index may take
abbrev pub most_taken : ℕ → ℕ
most_taken nodes = index_entry * (binary_digits nodes + 1)

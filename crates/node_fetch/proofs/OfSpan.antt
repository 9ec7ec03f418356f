-- What holds of the rows that the bytes of a span spell, and what a stop among them blames.
use Rattle.std.proofs.Common.{◌≡◌, ℕ, ◌+◌, ◌-◌, ◌≤◌, List, length, sym, ◌∙◌}
use Rattle.std.specs.Prelude.{Option}
use Rattle.log_disk.specs.Disk.{Eye}
use Rattle.fine_model.specs.declared.FetchFault.{FetchFault}
use Rattle.fine_model.specs.declared.FetchFault.TheVariants as fetch_fault
use Rattle.fine_model.specs.declared.NodeId.{NodeId}
use Rattle.fine_model.specs.declared.Part.{Part}
use Rattle.fine_model.specs.declared.Row.{Row}
use Rattle.fine_model.specs.Nodes.{rows_of}
use Rattle.fine_model.specs.Regions.{Image, Place, place_of}
use Rattle.fine_model.specs.Seek.{IsBadInSpan}
use Rattle.partition_index.specs.declared.entries.Span.{Span}
use Rattle.partition_index.specs.Entries.{row_span_of}
use Rattle.partition_index.specs.Parts.{IsSeen}
use Rattle.partition_index.specs.Search.{IsRangeAt, TellsRows, span_for}
use Rattle.node_fetch.specs.Spans.{ReadsAll, IsStop}
use Rattle.node_fetch.specs.Fetched.{HoldsRows, IsBadRowOf, row_fault}
use Rattle.node_fetch.proofs.SpanLaws.{all_held, stop_is_bad}
use Rattle.node_fetch.proofs.Told.{IsRead, range_read, read_own, read_well}

module _ (p : Part) (id : NodeId) (span : Span) (bytes : List ℕ) (long : length bytes ≡ span.end - span.at) (order : span.at ≤ span.end) (within : span.end ≤ p.header.area) where
  -- the rows that were read
  pub held : (known : Option Image) → IsRangeAt known p span.at bytes → (rows : List Row) → ReadsAll p.header.mark bytes id span.rows rows → HoldsRows known p id span rows
  held known range rows read =
      let r = range_read known p span bytes range long order within in
      record {
        body = r.body;
        is_body = r.is_body;
        holds = all_held p.header r.body (row_span_of span) id bytes r.is_read rows read;
        long = sym read.so_far.place ∙ long;
      }

  pub exact : (eye : Eye) (rows : List Row) → IsSeen eye p → IsRangeAt eye.told p span.at bytes → TellsRows eye p rows → span ≡ span_for rows id → (own : List Row) → ReadsAll p.header.mark bytes id span.rows own → own ≡ rows_of id rows
  exact eye rows seen range t is own read = read_own eye p span id rows seen t is own (held eye.told range own read)

  -- the bytes, as those of a body
  read_back : (known : Option Image) → IsRangeAt known p span.at bytes → IsRead known p span bytes
  read_back known range = range_read known p span bytes range long order within

  bad : (known : Option Image) (range : IsRangeAt known p span.at bytes) (at : ℕ) → IsStop p.header.mark bytes id span.rows at → IsBadInSpan p.header (read_back known range).body (row_span_of span) id (span.at + at)
  bad known range at stop =
      let r = read_back known range in
      stop_is_bad p.header r.body (row_span_of span) id bytes r.is_read at stop

  pub blamed : (region_len : ℕ) (known : Option Image) → IsRangeAt known p span.at bytes → (at : ℕ) → IsStop p.header.mark bytes id span.rows at → (fault : FetchFault) → fault ≡ row_fault (place_of region_len p.region p.header (span.at + at))
      → (region place : ℕ) → fault ≡ fetch_fault.BadRow region place → IsBadRowOf known region_len p id span (record { region = region; at = place })
  blamed region_len known range at stop fault is region place told =
      let stands : Place = place_of region_len p.region p.header (span.at + at) in
      let same : ◌≡◌ {A = FetchFault} (fetch_fault.BadRow stands.region stands.at) (fetch_fault.BadRow region place) = sym is ∙ told in
      let r : stands.region ≡ region = cc in
      let a : stands.at ≡ place = cc in
      let back = read_back known range in
      record { at = span.at + at; stands = λ i. record { region = sym r i; at = sym a i }; body = back.body; is_body = back.is_body; is_bad = bad known range at stop }

  -- rows in the grammar are all read
  pub never_stops : (eye : Eye) (rows : List Row) → IsSeen eye p → IsRangeAt eye.told p span.at bytes → TellsRows eye p rows → span ≡ span_for rows id → (at : ℕ) → IsStop p.header.mark bytes id span.rows at → ⊥
  never_stops eye rows seen range t is at stop =
      let back = read_back eye.told range in
      read_well eye p span id rows seen t is back.body (span.at + at) back.is_body (bad eye.told range at stop)

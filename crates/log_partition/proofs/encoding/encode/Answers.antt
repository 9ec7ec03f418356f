use Rattle.std.proofs.Common.{◌++◌, length, sym, ap, ◌∙◌, arith, length-append}
use Rattle.fine_model.specs.RowBytes.{rows_bytes}
use Rattle.fine_model.proofs.Chain.Grammar.{rows_long}
use Rattle.log_partition.proofs.Fields.{first_forty, forty_long}
use Rattle.log_partition.proofs.Keyed.{in_bounds}
use Rattle.log_partition.proofs.Written.{whole_partition}
use Rattle.log_partition.proofs.encoding.encode.Goals as goal

pub slice_bounds-put-end-2 : goal.slice_bounds-put-end-2
slice_bounds-put-end-2 c =
    let rows = c.requires.rows.0 in
    let at = in_bounds c.args.region_len c.args.bytes.now c.args.keys.now rows c.requires.rows.1 c.requires.region_len in
    sym (forty_long c.args.region_len c.header_for-header.result c.header_bytes.result (ap (λ h. h.mark) (c.header_for-header.ensures c.args.bytes.now rows at)) c.header_bytes.ensures)

pub put-requires : goal.put-requires
put-requires c =
    let rows = c.requires.rows.0 in
    let at = in_bounds c.args.region_len c.args.bytes.now c.args.keys.now rows c.requires.rows.1 c.requires.region_len in
    let long = forty_long c.args.region_len c.header_for-header.result c.header_bytes.result (ap (λ h. h.mark) (c.header_for-header.ensures c.args.bytes.now rows at)) c.header_bytes.ensures in
    omega (arith, long, ap length c.in_ok-out.ensures.items, c.in_ok-out.ensures.capacity)

pub put_rows-requires : goal.put_rows-requires
put_rows-requires c =
    let rows = c.requires.rows.0 in
    let at = in_bounds c.args.region_len c.args.bytes.now c.args.keys.now rows c.requires.rows.1 c.requires.region_len in
    let header = c.header_for-header.ensures c.args.bytes.now rows at in
    let long = forty_long c.args.region_len c.header_for-header.result c.header_bytes.result (ap (λ h. h.mark) header) c.header_bytes.ensures in
    let front = ap length c.put.ensures.items ∙ length-append c.in_ok-out.out.items _ in
    (rows, at.are, omega (arith, long, front, ap (λ h. h.area) header, ap length c.in_ok-out.ensures.items, c.in_ok-out.ensures.capacity, c.put.ensures.capacity))

pub put_index-bytes-requires : goal.put_index-bytes-requires
put_index-bytes-requires c =
    let rows = c.requires.rows.0 in
    let at = in_bounds c.args.region_len c.args.bytes.now c.args.keys.now rows c.requires.rows.1 c.requires.region_len in
    let header = c.header_for-header.ensures c.args.bytes.now rows at in
    let long = forty_long c.args.region_len c.header_for-header.result c.header_bytes.result (ap (λ h. h.mark) header) c.header_bytes.ensures in
    let front = ap length c.put.ensures.items ∙ length-append c.in_ok-out.out.items _ in
    let middle = ap length (c.put_rows.ensures.items rows at.are) ∙ length-append c.put.new.out.items (rows_bytes rows) in
    record {
      bytes = c.args.bytes.now;
      rows = rows;
      at = at;
      room = omega (arith, long, front, middle, rows_long rows, ap (λ h. h.area) header, ap (λ h. h.nodes) header, ap length c.in_ok-out.ensures.items, c.in_ok-out.ensures.capacity, c.put.ensures.capacity, c.put_rows.ensures.capacity);
    }

pub returns : goal.returns
returns c rows given =
    let at = in_bounds c.args.region_len c.args.bytes.now c.args.keys.now rows given c.requires.region_len in
    let header = c.header_for-header.ensures c.args.bytes.now rows at in
    record {
      header = header;
      bytes = whole_partition c.args.region_len c.args.range rows c.header_for-header.result c.in_ok-out.out.items c.put.new.out.items c.put_rows.new.out.items c.put_index-bytes.result.items
          c.in_ok-out.ensures.items header (c.put.ensures.items ∙ ap (λ t. c.in_ok-out.out.items ++ t) (first_forty c.args.region_len c.header_for-header.result c.header_bytes.result (ap (λ h. h.mark) header) c.header_bytes.ensures))
          (c.put_rows.ensures.items rows at.are) (c.put_index-bytes.ensures c.args.bytes.now rows at);
    }

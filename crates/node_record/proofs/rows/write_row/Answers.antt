-- Behind the front there is room for the body, and both make the row.
use Rattle.std.proofs.Common.{◌+◌, ◌≤◌, ◌++◌, List, ℕ, ap, ◌∙◌, arith, vec_len, vec_capacity}
use Rattle.fine_model.specs.RowBytes.{row_bytes, row_len}
use Rattle.node_record.proofs.Writing.{room_behind, whole_row}
use Rattle.node_record.proofs.rows.write_row.Goals as goal

pub write_body-requires-clause-room : goal.write_body-requires-clause-room
write_body-requires-clause-room c =
    let room : vec_len c.reserve.new.self + row_len c.args.row.now ≤ vec_capacity c.reserve.new.self = omega (arith, c.in_ok-reserve.ensures.ok, c.row_len-len.ensures.is) in
    room_behind c.args.row.now c.reserve.new.self c.write_front.new.out _ _ room c.write_front.ensures

pub returns-clause-ok : goal.returns-clause-ok
returns-clause-ok c =
    whole_row c.args.row.now c.reserve.new.self c.write_front.new.out c.write_body.new.out _ c.row_len-len.result c.kind_of.ensures c.row_len-len.ensures.is c.write_front.ensures c.write_body.ensures
    ∙ ap (λ (t : List ℕ). t ++ row_bytes c.args.row.now) c.reserve.ensures.items

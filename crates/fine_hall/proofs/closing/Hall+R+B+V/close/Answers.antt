use Rattle.std.proofs.Common.{◌≡◌, ◌*◌, ◌++◌, ap, ◌∙◌, arith, length, append_assoc}
use Rattle.std.specs.Slots.{slots_items, slots_len}
use Rattle.fine_hall.specs.Halls.{begun}
use Rattle.fine_hall.specs.Ending.{fronts_of, views_from}
use Rattle.fine_hall.proofs.Leaving.{first_pass, few_seats, enough_slots, long_passes, owned, room_in, closes, long_middles}
use Rattle.fine_hall.proofs.closing.Hall+R+B+V.close.Goals as goal

pub gather-seat-requires-clause-passes : goal.gather-seat-requires-clause-passes
gather-seat-requires-clause-passes g c κs within = λ i p at. let r = c.requires.passes i p at in (r.0, r.1)

pub gather-seat-requires-clause-spare : goal.gather-seat-requires-clause-spare
gather-seat-requires-clause-spare g c κs within =
    let n : length c.args.passes.items ≡ c.args.self.table.shared.key.seats = long_passes c.args.self.table.shared.key.seats c.args.passes.items c.requires.all in
    let spare = c.requires.spare in let ok = c.args.passes.ok in omega (arith, n, spare, ok)

pub shut-requires-clause-all : goal.shut-requires-clause-all
shut-requires-clause-all g c = let a = c.gather-seat.ensures.all in
    owned g.V.ViewLaw.state c.args.self.table.shared.table_id (begun g.R.RoomLaw.state g.R.RoomLaw.origin g.V.ViewLaw.state c.args.self) c.args.passes.items a.done c.gather-seat.result.me.0 c.requires.passes c.requires.all a.all a.gathers

pub unload-requires-clause-counts : goal.unload-requires-clause-counts
unload-requires-clause-counts g c =
    let seats = c.args.self.table.shared.key.seats in
    let n : length c.args.passes.items ≡ seats = long_passes seats c.args.passes.items c.requires.all in
    let ok = c.args.passes.ok in let len = c.len-seats.ensures in
    let is : c.len-seats.result ≡ seats = omega (arith, n, ok, len) in
    let first = first_pass c.args.passes.items c.requires.some_pass in
    let pass = (c.requires.passes 0 first.0 first.1).0 in
    let counts = c.shut.ensures.counts in
    let few = few_seats seats pass.few in
    let enough = enough_slots seats c.args.self.table.shared.table_id.slots (slots_len c.shut.result.slots) pass.boxes.1 counts.0 in
    ((omega (arith, is, few)), (omega (arith, is, enough)), counts.2)

pub unload-requires-clause-room : goal.unload-requires-clause-room
unload-requires-clause-room g c = let a = c.gather-seat.ensures.all in
    room_in g.R.RoomLaw.state g.R.RoomLaw.origin g.R.RoomLaw.stands_for g.B.BucketLaw.bucket g.B.BucketLaw.cached g.B.BucketLaw.is_settled g.V.ViewLaw.state c.args.self.table.shared.table_id (begun g.R.RoomLaw.state g.R.RoomLaw.origin g.V.ViewLaw.state c.args.self)
    c.args.passes.items a.done c.gather-seat.result.me.0 c.requires.passes c.requires.all a.all a.gathers c.requires.some_pass c.gather-seat.result.id (slots_items c.shut.result.slots) c.shut.ensures.ended

pub unload-requires-clause-spare : goal.unload-requires-clause-spare
unload-requires-clause-spare g c = let a = c.gather-seat.ensures.all in
    let r = room_in g.R.RoomLaw.state g.R.RoomLaw.origin g.R.RoomLaw.stands_for g.B.BucketLaw.bucket g.B.BucketLaw.cached g.B.BucketLaw.is_settled g.V.ViewLaw.state c.args.self.table.shared.table_id (begun g.R.RoomLaw.state g.R.RoomLaw.origin g.V.ViewLaw.state c.args.self)
    c.args.passes.items a.done c.gather-seat.result.me.0 c.requires.passes c.requires.all a.all a.gathers c.requires.some_pass c.gather-seat.result.id (slots_items c.shut.result.slots) c.shut.ensures.ended in
    let long = long_middles g.R.RoomLaw.state g.R.RoomLaw.origin g.R.RoomLaw.stands_for g.B.BucketLaw.bucket g.B.BucketLaw.cached g.B.BucketLaw.is_settled g.V.ViewLaw.state c.args.self.table.shared.table_id (begun g.R.RoomLaw.state g.R.RoomLaw.origin g.V.ViewLaw.state c.args.self)
    c.args.passes.items a.done c.gather-seat.result.me.0 c.requires.passes c.requires.all a.all a.gathers c.requires.some_pass c.gather-seat.result.id (slots_items c.shut.result.slots) c.shut.ensures.ended r.0 r.1 in
    let seats = c.args.self.table.shared.key.seats in
    let n : length c.args.passes.items ≡ seats = long_passes seats c.args.passes.items c.requires.all in
    let ok = c.args.passes.ok in let len = c.len-seats.ensures in
    let is : c.len-seats.result ≡ seats = omega (arith, n, ok, len) in
    let same = ap (λ k. length (views_from (slots_items c.shut.result.slots) 257 (3 * k))) is in
    let room = c.gather-seat.ensures.room in
    let spare = c.requires.spare in
    omega (arith, long, same, room, spare, n, ok)

pub returns : goal.returns
returns g c = let a = c.gather-seat.ensures.all in
    let all = closes g.R.RoomLaw.state g.R.RoomLaw.origin g.R.RoomLaw.stands_for g.B.BucketLaw.bucket g.B.BucketLaw.cached g.B.BucketLaw.is_settled g.V.ViewLaw.state c.args.self.table.shared.table_id (begun g.R.RoomLaw.state g.R.RoomLaw.origin g.V.ViewLaw.state c.args.self)
    c.args.passes.items a.done c.gather-seat.result.me.0 c.requires.passes c.requires.all a.all a.gathers c.requires.some_pass c.gather-seat.result.id (slots_items c.shut.result.slots) c.shut.ensures.ended c.unload.result c.unload.ensures.room in
    let seats = c.args.self.table.shared.key.seats in
    let n : length c.args.passes.items ≡ seats = long_passes seats c.args.passes.items c.requires.all in
    let ok = c.args.passes.ok in let len = c.len-seats.ensures in
    let is : c.len-seats.result ≡ seats = omega (arith, n, ok, len) in record {
      closes = (
        fronts_of a.done ++ views_from (slots_items c.shut.result.slots) 257 (3 * seats),
        c.unload.ensures.views ∙ ((λ i. a.fronts i ++ views_from (slots_items c.shut.result.slots) 257 (3 * is i)) ∙ append_assoc c.args.back.now.items (fronts_of a.done) (views_from (slots_items c.shut.result.slots) 257 (3 * seats))),
        all,
      );
      capacity = c.unload.ensures.capacity ∙ c.gather-seat.ensures.room.0;
    }

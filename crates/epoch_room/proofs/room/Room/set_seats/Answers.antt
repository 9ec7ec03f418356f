use Rattle.std.proofs.Common.{List, ◌≡◌, ◌*◌, subst, ap, ◌∙◌, true, None}
use Rattle.std.specs.Prelude.{replicate}
use Rattle.std.specs.List.{list_all}
use Rattle.fine_model.specs.Boards.{Buffer, is_empty}
use Rattle.epoch_room.specs.Meaning.{Keeps}
use Rattle.epoch_room.specs.Value.{RoomValue, value_of}
use Rattle.epoch_room.specs.Whole.{IsWhole}
use Rattle.epoch_room.proofs.OpenEpochs.Behind.{keeps_none}
use Rattle.epoch_room.proofs.Views.Seating.{seats_keeps, seats_whole}
use Rattle.epoch_room.proofs.Inside.{Ends, ends, kept_in, room_in}
use Rattle.epoch_room.proofs.room.Room.set_seats.Given.{Over}
use Rattle.epoch_room.proofs.room.Room.set_seats.Goals as goal

pub returns-in_err-self-inside-clause-keeps : goal.returns-in_err-self-inside-clause-keeps
returns-in_err-self-inside-clause-keeps g c = keeps_none c.args.self.now (subst IsWhole c.self.view_is c.self.invariant.0)

-- the room with so many seats
seated : (g : Over) (c : goal.After-drop-self-inside g) → Ends Keeps c.args.self.now (room_in g.D.LogDisk.state (record c.self.inside { board = c.in_ok-self-inside.field-0 }))
seated g c =
    let empty : list_all is_empty c.self.inside.board ≡ true = ap (λ (v : RoomValue). list_all is_empty v.room.board) c.self.view_is ∙ c.requires.board in
    let made : c.in_ok-self-inside.field-0 ≡ replicate (3 * c.args.seats) None = c.in_ok-self-inside.ensures in
    let whole = seats_whole (g.D.LogDisk.state c.self.inside.disk) (g.D.LogDisk.state c.self.inside.entry.value) (kept_in c.self.inside) c.self.invariant.0 c.args.seats c.requires.some c.requires.few empty in
    ends Keeps c.self.view_is (ap (λ (b : List Buffer). value_of (g.D.LogDisk.state c.self.inside.disk) (g.D.LogDisk.state c.self.inside.entry.value) (record (kept_in c.self.inside) { board = b })) made)
    (whole, seats_keeps (g.D.LogDisk.state c.self.inside.disk) (g.D.LogDisk.state c.self.inside.entry.value) (kept_in c.self.inside) c.self.invariant.0 c.args.seats c.requires.some c.requires.few empty)

pub invariant_of-self : goal.invariant_of-self
invariant_of-self g c = ((seated g c).0, c.self.invariant.1, c.self.invariant.2)

pub returns-clause-keeps : goal.returns-clause-keeps
returns-clause-keeps g c = (seated g c).1

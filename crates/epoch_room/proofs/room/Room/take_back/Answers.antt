use Rattle.std.proofs.Common.{◌≡◌, List, Some, None, sym, subst, ap, ◌∙◌}
use Rattle.std.specs.Prelude.{Any, slice_get, slice_set}
use Rattle.fine_model.specs.Boards.{buffer_at}
use Rattle.log_disk.specs.Disk.{Closes, Eye, OpenEye}
use Rattle.partition_hold.specs.Views.{opened}
use Rattle.epoch_room.specs.Meaning.{Keeps}
use Rattle.epoch_room.specs.Value.{RoomValue, value_of}
use Rattle.epoch_room.proofs.Views.Returning.{open_there, returned_keeps, returned_whole}
use Rattle.epoch_room.proofs.Inside.{Ends, ends, kept_in, room_in}
use Rattle.epoch_room.proofs.room.Room.take_back.Given.{Over}
use Rattle.epoch_room.proofs.room.Room.take_back.Goals.{After-into_eye}
use Rattle.epoch_room.proofs.room.Room.take_back.Goals as goal

-- the view's eye is on the board
posted : (g : Over) (c : After-into_eye g) → slice_get c.self.inside.board (buffer_at c.args.view.seat c.args.view.buffer) ≡ Some (Some (opened c.args.view.eye))
posted g c = ap (λ (v : RoomValue). slice_get v.room.board (buffer_at c.args.view.seat c.args.view.buffer)) c.self.view_is ∙ c.requires.posted

pub close-requires : goal.close-requires
close-requires g c =
    there (g.D.LogDisk.state c.self.inside.disk).eyes (g.D.Eye.LogEye.state c.into_eye.result) c.args.view.eye c.into_eye.ensures (open_there (g.D.LogDisk.state c.self.inside.disk) (g.D.LogDisk.state c.self.inside.disk) (g.D.LogDisk.state c.self.inside.entry.value) (kept_in c.self.inside) c.self.invariant.0 c.args.view (posted g (goal.at.close-requires g c).After-into_eye))
  where
    there : (eyes : List OpenEye) (a b : Eye) → a ≡ b → Any (λ (eye : OpenEye). eye.number ≡ b.number) eyes → Any (λ (eye : OpenEye). eye.number ≡ a.number) eyes
    there eyes a b e any = subst (λ (x : Eye). Any (λ (eye : OpenEye). eye.number ≡ x.number) eyes) (sym e) any

-- the room without the view
returned : (g : Over) (c : goal.After-close g) → Ends Keeps c.args.self.now (room_in g.D.LogDisk.state (record c.self.inside { disk = c.close.new.self; board = c.returned.new.self }))
returned g c =
    let posted = posted g (goal.at.invariant_of-self g c).After-into_eye in
    let closes = subst (λ (x : Eye). Closes x (g.D.LogDisk.state c.self.inside.disk) (g.D.LogDisk.state c.close.new.self)) c.into_eye.ensures c.close.ensures in
    let board : c.returned.new.self ≡ slice_set c.self.inside.board (buffer_at c.args.view.seat c.args.view.buffer) None = c.returned.ensures ∙ (λ i. slice_set c.self.inside.board (buffer_at (c.seat.ensures.seat i) (c.buffer.ensures.buffer i)) None) in
    ends Keeps c.self.view_is (λ i. value_of (g.D.LogDisk.state c.close.new.self) (g.D.LogDisk.state c.self.inside.entry.value) (record (kept_in c.self.inside) { board = board i }))
    (returned_whole (g.D.LogDisk.state c.self.inside.disk) _ (g.D.LogDisk.state c.self.inside.entry.value) (kept_in c.self.inside) c.self.invariant.0 c.args.view posted closes, returned_keeps (g.D.LogDisk.state c.self.inside.disk) _ (g.D.LogDisk.state c.self.inside.entry.value) (kept_in c.self.inside) c.self.invariant.0 c.args.view posted closes)

pub invariant_of-self : goal.invariant_of-self
invariant_of-self g c = ((returned g c).0, c.self.invariant.1 ∙ sym c.close.ensures.others.1, c.self.invariant.2)

pub returns-clause-keeps : goal.returns-clause-keeps
returns-clause-keeps g c = (returned g c).1

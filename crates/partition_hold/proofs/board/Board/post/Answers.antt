use Rattle.std.proofs.Common.{◌≡◌, ◌∙◌, Some, sym, ap, subst}
use Rattle.std.specs.Prelude.{option_map, slice_set, IsSome}
use Rattle.std.proofs.lemmas.List.{map-set}
use Rattle.fine_model.specs.declared.law.OpenedEye.{OpenedEye}
use Rattle.fine_model.specs.Boards.{buffer_at, empty_of, set_of}
use Rattle.partition_hold.specs.Boards.{held_of}
use Rattle.partition_hold.specs.declared.board.Held.{Held}
use Rattle.partition_hold.specs.Views.{opened}
use Rattle.partition_hold.proofs.Bits.{lowest}
use Rattle.partition_hold.proofs.board.Board.post.Goals as goal

pub unwrap-buffer-requires : goal.unwrap-buffer-requires
unwrap-buffer-requires g c =
    let state = g.E.LogEye.state in
    let found : empty_of c.args.self.now c.args.seat ≡ c.first_empty.result =
    lowest (held_of state) c.self.inside.buffers.items c.args.self.now c.deref.result.now c.args.seat c.first_empty.result c.requires.seat c.self.view_is c.deref.ensures.value c.first_empty.ensures.first in
    subst IsSome found c.requires.empty

pub returns-clause-lowest : goal.returns-clause-lowest
returns-clause-lowest g c =
    let state = g.E.LogEye.state in
    lowest (held_of state) c.self.inside.buffers.items c.args.self.now c.deref.result.now c.args.seat c.first_empty.result c.requires.seat c.self.view_is c.deref.ensures.value c.first_empty.ensures.first
    ∙ c.unwrap-buffer.ensures

pub returns-clause-filled : goal.returns-clause-filled
returns-clause-filled g c =
    let state = g.E.LogEye.state in
    let at = buffer_at c.args.seat c.unwrap-buffer.result in
    let regions : c.of.result ≡ set_of (state c.args.eye.now).regions = c.of.ensures ∙ sym (ap set_of c.requires.of_eye) in
    let told = ap (λ e. (state e).told) c.of-2.ensures in
    let held : Held g.row.E.Denot = record { eye = c.number.result; regions = c.of.result; seen = c.of-2.result } in
    let same : ◌≡◌ {A = OpenedEye} (held_of state held) (opened (state c.args.eye.now)) = λ i. record { number = c.number.ensures i; regions = regions i; told = told i } in
    map-set (option_map (held_of state)) c.self.inside.buffers.items at (Some held)
    ∙ ap (λ bs. slice_set bs at (Some (held_of state held))) c.self.view_is
    ∙ ap (λ eye. slice_set c.args.self.now at (Some eye)) same

-- The eyes of a room whose board is empty.
use Rattle.std.proofs.Common.{◌≡◌, true, List, [], length, map, sym, ap, ◌∙◌, subst}
use Rattle.std.specs.Prelude.{IsPermutation}
use Rattle.std.specs.List.{list_all}
use Rattle.std.proofs.lemmas.List.{length-map, nil_from_length}
use Rattle.std.proofs.lemmas.List.Sorted.{length_permutation}
use Rattle.log_disk.specs.Disk.{OpenEye}
use Rattle.fine_model.specs.declared.law.RoomState.{RoomState}
use Rattle.fine_model.specs.Boards.{held_of, is_empty, named}
use Rattle.epoch_room.specs.Value.{RoomValue}
use Rattle.epoch_room.specs.Whole.{IsWhole}
use Rattle.epoch_room.proofs.Views.Seating.{empty_posted}

-- no eye is open on the disk of a room with an empty board
pub no_eyes : (room : RoomValue) → IsWhole room → list_all is_empty room.room.board ≡ true → room.disk.eyes ≡ []
no_eyes room whole board = nil_from_length room.disk.eyes (sym (long room.disk.eyes) ∙ none)
  where
    long : (eyes : List OpenEye) → length (map named (map (λ (eye : OpenEye). (eye.number, eye.regions)) eyes)) ≡ length eyes
    long eyes = length-map (map (λ (eye : OpenEye). (eye.number, eye.regions)) eyes) named ∙ length-map eyes (λ (eye : OpenEye). (eye.number, eye.regions))

    none : length (map named (map (λ (eye : OpenEye). (eye.number, eye.regions)) room.disk.eyes)) ≡ 0
    none = ap (λ (x : RoomState). length (map named x.eyes)) (sym whole.of_disk)
        ∙ sym (length_permutation (map named room.room.eyes) (map held_of []) (subst (λ held. IsPermutation (map named room.room.eyes) (map held_of held)) (empty_posted room.room.board board) whole.board.eyes))

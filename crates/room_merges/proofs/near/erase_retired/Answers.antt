use Rattle.std.proofs.Common.{◌≡◌, ℕ, Result, subst}
use Rattle.std.specs.Prelude.{OnOk}
use Rattle.epoch_room.specs.Erasing.{ErasesAllOr, held}
use Rattle.epoch_room.specs.declared.answers.RoomFault.{RoomFault}
use Rattle.room_merges.proofs.Through.{emptied, not_emptied}
use Rattle.room_merges.proofs.near.erase_retired.Goals as goal

pub returns-in-Ok : goal.returns-in-Ok
returns-in-Ok g c =
    emptied c.args.room.now c.erase_all.new.self c.counts-counts.ensures.whole c.requires.no_job c.requires.board c.erase_all.ensures.keeps c.erase_all.ensures.read c.in-Ok._erased tt
    (subst (λ (r : Result ℕ RoomFault). OnOk r (c.erase_all.new.self.room.retired ≡ held c.args.room.now.room)) c.in-Ok.is c.erase_all.ensures.left)
    (subst (λ (r : Result ℕ RoomFault). ErasesAllOr c.args.room.now c.erase_all.new.self r) c.in-Ok.is c.erase_all.ensures.room)

pub returns-in-Err : goal.returns-in-Err
returns-in-Err g c =
    not_emptied c.args.room.now c.erase_all.new.self c.counts-counts.ensures.whole c.requires.no_job c.requires.board c.erase_all.ensures.keeps c.erase_all.ensures.read c.in-Err.fault
    (subst (λ (r : Result ℕ RoomFault). ErasesAllOr c.args.room.now c.erase_all.new.self r) c.in-Err.is c.erase_all.ensures.room)

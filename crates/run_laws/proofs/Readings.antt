-- What the body on one thread reads through a view of what is sealed.
use Rattle.std.proofs.Common.{◌≡◌, ◌∙◌, ℕ, false, List, [], ◌++◌, Option, Some, None, refl, sym, ap, subst}
use Rattle.fine_model.specs.declared.Row.{Row}
use Rattle.fine_model.specs.Buckets.{Began}
use Rattle.fine_model.specs.History.{Commit, IsLegal, all_rows, upto}
use Rattle.fine_model.specs.Nodes.{Agrees}
use Rattle.fine_model.proofs.Histories.Epochs.{legal_of}
use Rattle.log_disk.specs.Disk.{BothTold, Told}
use Rattle.log_disk.specs.Moments.{Continues}
use Rattle.partition_hold.specs.Views.{ViewValue}
use Rattle.epoch_room.specs.Meaning.{Stands, origin_of}
use Rattle.epoch_room.specs.Value.{RoomValue}
use Rattle.room_shelf.specs.Shelves.{shelf, tells_log}
use Rattle.room_shelf.proofs.Loading.{log_law, tells_law}
use Rattle.run_laws.specs.Reading.{LegalLaw, SeesLaw, UnsoundLaw}
use Rattle.run_laws.specs.SoFar.{GoesOn}
use Rattle.run_laws.proofs.Runs.{image_told, told_of}

-- on a log that was told, the live parts of an open room tell what is sealed
told_now : (entry room : RoomValue) (out : Option ViewValue) (history : List Commit) → GoesOn entry room history → room.room.is_shut ≡ false → (first : List Row) (e : ℕ) → Began (origin_of entry.entry) e first → Stands entry first e []
    → (rows : List Row) × tells_log (shelf room out) rows × Agrees rows (first ++ all_rows (upto history room.room.sealed))
told_now entry room out history g open_room first e began stands = by room.disk.told refl
  where
    again : (before : Told) × (room.entry.told ≡ Some before)
    again = image_told room.entry began.image (ap (λ d. (origin_of d).image) g.same_entry ∙ began.told)

    by : (t : Option Told) → room.disk.told ≡ t → (rows : List Row) × tells_log (shelf room out) rows × Agrees rows (first ++ all_rows (upto history room.room.sealed))
    by None is = absurd (subst (λ t. BothTold Continues (Some again.0) t) is (subst (λ t. BothTold Continues t room.disk.told) again.1 g.whole.entry.time))
    by (Some after) is = log_law room out again.0 after first e history g.whole open_room again.1 is (g.stands first e began stands)

pub sees_law : SeesLaw
sees_law entry room view history g shows first e began stands =
    let now = told_now entry room None history g shows.opened first e began stands in
    (now.0, tells_law room None view now.0 shows now.1, subst (λ n. Agrees now.0 (first ++ all_rows (upto history n))) (sym shows.upto) now.2)

pub legal_law : LegalLaw
legal_law entry room history g first e began stands = by room.disk.told refl
  where
    again : (before : Told) × (room.entry.told ≡ Some before)
    again = image_told room.entry began.image (ap (λ d. (origin_of d).image) g.same_entry ∙ began.told)

    by : (t : Option Told) → room.disk.told ≡ t → IsLegal first history
    by None is = absurd (subst (λ t. BothTold Continues (Some again.0) t) is (subst (λ t. BothTold Continues t room.disk.told) again.1 g.whole.entry.time))
    by (Some after) is = legal_of first history (told_of room again.0 after first e history again.1 is (g.stands first e began stands)).stands.legal

pub unsound_law : UnsoundLaw
unsound_law entry room out history g open_room none first e began stands = let now = told_now entry room out history g open_room first e began stands in none now.0 now.1

use Rattle.std.proofs.Common.{◌≡◌, true, refl, sym, ap, subst, ◌∙◌}
use Rattle.std.specs.List.{list_all}
use Rattle.fine_model.specs.Boards.{is_empty}
use Rattle.log_disk.specs.Crash.{IsCrashOf}
use Rattle.log_disk.specs.Disk.{Disk}
use Rattle.run_laws.proofs.NoEyes.{no_eyes}
use Rattle.room_merges_tests.proofs.Idle.{idle_again}
use Rattle.room_merges_tests.proofs.stops.crash.Goals as goal

pub into_disk-disk-requires-clause-board : goal.into_disk-disk-requires-clause-board
into_disk-disk-requires-clause-board c = λ _. subst (λ b. list_all is_empty b ≡ true) (sym c.requires.board) refl

pub crashed-requires : goal.crashed-requires
crashed-requires c =
    ap (λ (d : Disk). d.eyes) c.into_disk-disk.ensures.disk
    ∙ no_eyes c.args.room c.into_disk-disk.ensures.whole (subst (λ b. list_all is_empty b ≡ true) (sym c.requires.board) refl)

pub returns-in-Ok : goal.returns-in-Ok
returns-in-Ok c =
    idle_again c.args.room c.as_slice.result.now c.in-Ok.disk.disk c.into_disk-disk.ensures.whole
    (subst (λ (d : Disk). IsCrashOf d c.as_slice.result.now c.in-Ok.disk.disk) c.into_disk-disk.ensures.disk c.in-Ok.ensures.crash)

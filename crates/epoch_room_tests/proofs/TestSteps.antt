-- What calls leave as it was, and what a job has once it took regions: the steps of tests.
use Rattle.std.proofs.Common.{◌≡◌, ℕ, ◌+◌, ◌*◌, Bool, true, false, List, [], ◌∷◌, None, Some, Ok, Err, Result, sym, ap, subst, ◌∙◌, arith, true≢false}
use Rattle.std.specs.Prelude.{Option, IfSome, is_some, option_map, slice_get, slice_set, if◌then◌else◌}
use Rattle.fine_model.specs.declared.Header.{Header}
use Rattle.fine_model.specs.declared.Job.{Job}
use Rattle.fine_model.specs.declared.Part.{Part}
use Rattle.fine_model.specs.declared.Row.{Row}
use Rattle.fine_model.specs.declared.law.OpenedEye.{OpenedEye}
use Rattle.fine_model.specs.declared.law.RoomState.{RoomState}
use Rattle.fine_model.specs.Boards.{Buffer, buffer_at, set_of}
use Rattle.fine_model.specs.Regions.{Image, body_len}
use Rattle.partition_hold.specs.Views.{SameView, ViewValue, opened}
use Rattle.partition_merge.specs.declared.merger.Measure.{Measure}
use Rattle.epoch_room.specs.Erasing.{ErasesOr}
use Rattle.epoch_room.specs.MergeSealing.{IsWrittenOut, SealsJobOr, WritesMerged, merged_state}
use Rattle.epoch_room.specs.MergeSteps.{fresh_job, header_over, job_after, neighbours_from, picked, written_on}
use Rattle.epoch_room.specs.Value.{RoomValue}
use Rattle.epoch_room.specs.declared.answers.EraseFault.{EraseFault}
use Rattle.epoch_room.specs.declared.answers.EraseFault.TheVariants as erase_fault
use Rattle.epoch_room.specs.declared.answers.RoomFault.{RoomFault}
use Rattle.epoch_room.specs.declared.answers.RoomFault.TheVariants as room_fault

-- ---- taking regions

-- nothing is written for a job that was picked
pub picked_fresh : (room : RoomState) (from : ℕ) (job : Job) → picked room from ≡ Some job → job.written ≡ 0
picked_fresh room from job is = by room.is_shut (neighbours_from from room.parts) is
  where
    by : (b : Bool) (o : Option (Part × Part)) → ◌≡◌ {A = Option Job} (if b then None else option_map fresh_job o) (Some job) → job.written ≡ 0
    by true o e = absurd (let f : ◌≡◌ {A = Option Job} None (Some job) = e in cc)
    by false None e = absurd (let f : ◌≡◌ {A = Option Job} None (Some job) = e in cc)
    by false (Some two) e = let f : fresh_job two ≡ job = cc in ap (λ (j : Job). j.written) (sym f)

module _ (job job' : Job) (measure : Measure) (free : List ℕ) where
  -- its body is as long as the measure says
  pub taken_long : (o : Option ℕ) (n : ℕ) → job' ≡ job_after job measure free o → is_some o ≡ true → job.written ≡ 0 → measure.area + 14 * measure.nodes ≡ n → IfSome job'.header (λ header. job'.written + n ≡ body_len header)
  unfolding header_over
  taken_long None n e h none long = absurd (true≢false (sym h))
  taken_long (Some k) n e h none long = subst (λ (j : Job). IfSome j.header (λ header. j.written + n ≡ body_len header)) (sym e) (omega (arith, none, long))

-- ---- sealing

-- nothing is asked of what was written where the disk does not tell its bytes
pub nothing_asked : (room : RoomState) (job : Job) (header : Option Header) → is_some room.image ≡ false → IfSome header (IsWrittenOut room job)
nothing_asked room job None untold = tt
nothing_asked room job (Some header) untold = λ older newer a b. absurd (true≢false (sym (ap is_some a.is_told) ∙ untold))

-- sealing a merged part leaves the board
pub sealed_board : (old new : RoomValue) (job : Job) (header : Option Header) (result : Result (Unit {0}) (RoomFault × Job)) (u : Unit {0}) → result ≡ Ok u → is_some header ≡ true
    → IfSome header (λ h. SealsJobOr old new job h result) → new.room.board ≡ old.room.board
unfolding merged_state
sealed_board old new job None result u e some is = absurd (true≢false (sym some))
sealed_board old new job (Some header) result u e some is = ap (λ (r : RoomState). r.board) (subst (SealsJobOr old new job header) e is).1.1.room

-- ---- erasing, and views

-- erasing leaves the board
pub erased_board : (region : ℕ) (old new : RoomValue) (result : Result (Unit {0}) EraseFault) → ErasesOr region old new result → new.room.board ≡ old.room.board
erased_board region old new (Ok u) is = ap (λ (r : RoomState). r.board) is.2.1.room
erased_board region old new (Err (erase_fault.Held seat buffer)) is = ap (λ (v : RoomValue). v.room.board) is.2
erased_board region old new (Err erase_fault.Disk) is = ap (λ (r : RoomState). r.board) is.2.1.room
erased_board region old new (Err (erase_fault.Shut epoch)) is = ap (λ (v : RoomValue). v.room.board) is.2
erased_board region old new (Err erase_fault.NoMemory) is = ap (λ (v : RoomValue). v.room.board) is.2

-- a view that was read stands on the board as it stood
same_opened : (old new : ViewValue) → SameView old new → opened new.eye ≡ opened old.eye
same_opened old new same = λ i. record { number = same.eye.number i; regions = set_of (same.eye.regions i); told = same.eye.told i }

module _ (board : List Buffer) (old new : ViewValue) (same : SameView old new) (place : (old.seat ≡ 1) × (old.buffer ≡ 0)) (is : board ≡ Some (opened old.eye) ∷ None ∷ None ∷ []) where
  at_first : buffer_at new.seat new.buffer ≡ 0
  at_first = λ i. buffer_at ((same.place.0 ∙ place.0) i) ((same.place.1 ∙ place.1) i)

  pub still_posted : slice_get board (buffer_at new.seat new.buffer) ≡ Some (Some (opened new.eye))
  still_posted = (λ i. slice_get (is i) (at_first i)) ∙ ap (λ (eye : OpenedEye). Some (Some eye)) (sym (same_opened old new same))

  pub back_again : slice_set board (buffer_at new.seat new.buffer) None ≡ None ∷ None ∷ None ∷ []
  back_again = λ i. slice_set (is i) (at_first i) None

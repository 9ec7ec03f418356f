-- A merge that stays out while epochs are sealed: what each step leaves for the next one.
use Rattle.std.proofs.Common.{◌≡◌, ℕ, true, false, List, [], ◌∷◌, None, Some, Ok, Err, Result, refl, sym, ap, subst, ◌∙◌}
use Rattle.std.specs.Prelude.{Contains, IfSome, Option, is_some, slice_get, slice_set}
use Rattle.fine_model.specs.declared.Header.{Header}
use Rattle.fine_model.specs.declared.Job.{Job}
use Rattle.fine_model.specs.declared.law.OpenedEye.{OpenedEye}
use Rattle.fine_model.specs.declared.law.RoomState.{RoomState}
use Rattle.fine_model.specs.Boards.{Buffer, buffer_at, empty_of}
use Rattle.fine_model.specs.Regions.{body_len}
use Rattle.fine_model.proofs.Histories.Goings.{job_on}
use Rattle.partition_hold.specs.Views.{SameView, ViewValue, opened}
use Rattle.partition_merge.specs.Blocks.{BlocksValue}
use Rattle.partition_merge.specs.declared.merger.Measure.{Measure}
use Rattle.epoch_room.specs.MergeSealing.{IsWrittenOut, SealsJobOr, merged_state}
use Rattle.epoch_room.specs.MergeSteps.{free_after, job_after, regions_for_job, with_job}
use Rattle.epoch_room.specs.Returns.{IsPosted}
use Rattle.epoch_room.specs.Meaning.{Keeps}
use Rattle.epoch_room.specs.Value.{RoomValue}
use Rattle.epoch_room.specs.Views.{Views, ViewsOr}
use Rattle.epoch_room.specs.Whole.{IsWhole}
use Rattle.epoch_room.specs.declared.answers.RoomFault.{RoomFault}
use Rattle.epoch_room.specs.declared.answers.RoomFault.TheVariants as room_fault
use Rattle.partition_hold.specs.Views.{IsView}
use Rattle.partition_merge.specs.Mergers.{measure_of}
use Rattle.fine_model.specs.Merge.{merged}
use Rattle.room_merges.specs.Merging.{Measures}
use Rattle.room_merges.specs.Pairs.{measure_in}
use Rattle.room_merges.specs.Work.{IsWriting, StepsOr, WritesNext}
use Rattle.room_merges.specs.declared.body.Progress.{Progress}
use Rattle.room_merges.specs.declared.body.Progress.TheVariants as progress
use Rattle.room_merges.specs.declared.fault.MergeFault.{MergeFault}
use Rattle.room_merges.specs.declared.fault.MergeFault.TheVariants as merge_fault
use Rattle.room_merges.proofs.Pairing.{ready, written_out}
use Rattle.room_merges.proofs.Working.{of_same, posted_then, same_opened, turns_last}
use Rattle.room_merges_tests.specs.Turns.{AreOut, HadTurns, IsAt, IsOutWith, IsPicked, IsTaken, IsUnderway, IsWritten, Merges}

-- ---- the view

module _ (value : RoomValue) (view : ViewValue) (at : IsAt value view) where
  first : buffer_at view.seat view.buffer ≡ 0
  first = λ i. buffer_at (at.place.0 i) (at.place.1 i)

  pub posted : IsPosted value.room view
  posted = λ i. slice_get (at.board i) (first i)

  -- once it came back
  pub back : slice_set value.room.board (buffer_at view.seat view.buffer) None ≡ None ∷ None ∷ None ∷ []
  back = λ i. slice_set (at.board i) (first i) None

pub at_then : (a b : RoomValue) (v w : ViewValue) → b.room.board ≡ a.room.board → b.room.region_len ≡ a.room.region_len → SameView v w → IsAt a v → IsAt b w
at_then a b v w board len same at = record {
  place = (same.place.0 ∙ at.place.0, same.place.1 ∙ at.place.1);
  board = board ∙ at.board ∙ ap (λ (eye : OpenedEye). Some eye ∷ None ∷ None ∷ []) (sym (same_opened v w same));
  region_len = same.region_len ∙ at.region_len ∙ sym len;
}

pub views_at : (old new : RoomValue) (view : ViewValue) → old.room.board ≡ None ∷ None ∷ None ∷ [] → Keeps old new → Views old new 1 view → IsAt new view
views_at old new view empty keeps made =
    let lowest : ◌≡◌ {A = Option ℕ} (Some 0) (Some view.buffer) = ap (λ (b : List Buffer). empty_of b 1) (sym empty) ∙ made.buffer in
    let is_first : view.buffer ≡ 0 = cc in
    record {
      place = (made.of_seat, is_first);
      board = ap (λ (r : RoomState). r.board) made.posts.1.room ∙ (λ i. slice_set (empty i) (buffer_at 1 (is_first i)) (Some (opened view.eye)));
      region_len = made.region_len ∙ sym keeps.becomes.region_len;
    }

-- ---- the job

pub takes : (old new : RoomValue) (view view' : ViewValue) (job job' : Job) (header : Header) (measure : Measure) → SameView view view' → Measures view job.older job.newer measure
    → true ≡ is_some (regions_for_job old.room measure) → job' ≡ job_after job measure old.room.free (regions_for_job old.room measure)
    → new ≡ with_job old (Some job') (free_after old.room.free (regions_for_job old.room measure)) → job'.header ≡ Some header → IsPicked old view job → IsTaken new view' job' header
takes old new view view' job job' header measure same measured some job_is new_is has was =
    let at = was.with_view.at in
    let has_older : Contains view'.parts job.older = subst (λ ps. Contains ps job.older) (sym same.parts) was.with_view.older in
    let has_newer : Contains view'.parts job.newer = subst (λ ps. Contains ps job.newer) (sym same.parts) was.with_view.newer in
    let r = (ready old new view' job job' header measure some job_is new_is has was.opened was.fresh has_older has_newer
    (posted_then old.room old.room view view' refl same (posted old view at)) (same.region_len ∙ at.region_len)
    (of_same view view' job job same refl refl (λ a b. measure ≡ measure_of (merged a b)) measured)).is in
    record {
      with_view = record {
        at = at_then old new view view' (ap (λ (v : RoomValue). v.room.board) new_is) (ap (λ (v : RoomValue). v.room.region_len) new_is) same at;
        out = r.out;
        older = r.older;
        newer = r.newer;
      };
      opened = r.opened;
      taken = has;
      none = r.none;
      measured = r.measured;
    }

pub begun : (value : RoomValue) (view : ViewValue) (blocks : BlocksValue) (job : Job) (header : Header) → IsWriting value view blocks job → IsTaken value view job header → IsUnderway value view blocks job header
begun value view blocks job header writing was = record { with_view = was.with_view; opened = was.opened; taken = was.taken; measured = was.measured; writing = writing }

pub underway_out : (value : RoomValue) (view : ViewValue) (job : Job) (blocks : BlocksValue) (header : Header) → IsUnderway value view blocks job header → AreOut value view job
underway_out value view job blocks header was = record { at = was.with_view.at; out = was.with_view.out }

-- ---- a block

module _ (header : Header) (old new : RoomValue) (view view' : ViewValue) (blocks blocks' : BlocksValue) (job job' : Job) (was : IsUnderway old view blocks job header) where
  goes_on : new.room.board ≡ old.room.board → new.room.region_len ≡ old.room.region_len → SameView view view' → IsAt new view'
  goes_on board len same = at_then old new view view' board len same was.with_view.at

  -- what is out stays out, whatever the answer
  still_out : {A : Type 0} (result : Result A MergeFault) → StepsOr (Some job') old.room.free old new result → SameView view view' → AreOut new view' job'
  still_out (Ok a) stays same = record { at = goes_on (ap (λ (r : RoomState). r.board) stays.room) stays.keeps.becomes.region_len same; out = ap (λ (r : RoomState). r.job) stays.room }
  still_out (Err (merge_fault.Fetch fault)) stays same = record { at = goes_on (ap (λ (r : RoomState). r.board) stays.room) stays.keeps.becomes.region_len same; out = ap (λ (r : RoomState). r.job) stays.room }
  still_out (Err (merge_fault.Room room_fault.NoMemory)) stays same = record { at = goes_on (ap (λ (r : RoomState). r.board) stays.room) stays.keeps.becomes.region_len same; out = ap (λ (r : RoomState). r.job) stays.room }
  still_out (Err (merge_fault.Room room_fault.Disk)) falls same = record { at = goes_on (ap (λ (r : RoomState). r.board) falls.room) falls.keeps.becomes.region_len same; out = ap (λ (r : RoomState). r.job) falls.room }
  still_out (Err (merge_fault.Room (room_fault.Shut epoch))) none same = absurd none

  pub turn_stopped : (result : Result Progress MergeFault) → WritesNext header old new view view' blocks' job job' result → AreOut new view' job'
  turn_stopped result next = still_out result next.room next.looks.same

  has_both : (result : Result Progress MergeFault) → WritesNext header old new view view' blocks' job job' result → IsOutWith new view' job'
  has_both result next =
      let same = next.looks.same in
      let out = turn_stopped result next in
      record {
        at = out.at;
        out = out.out;
        older = subst (λ ps. Contains ps job'.older) (sym same.parts) (subst (Contains view.parts) (sym (ap (λ (j : Job). j.older) next.same)) was.with_view.older);
        newer = subst (λ ps. Contains ps job'.newer) (sym same.parts) (subst (Contains view.parts) (sym (ap (λ (j : Job). j.newer) next.same)) was.with_view.newer);
      }

  still_measured : (result : Result Progress MergeFault) → WritesNext header old new view view' blocks' job job' result → Measures view' job'.older job'.newer (measure_in header)
  still_measured result next =
      of_same view view' job job' next.looks.same (ap (λ (j : Job). j.older) next.same) (ap (λ (j : Job). j.newer) next.same) (λ a b. measure_in header ≡ measure_of (merged a b)) was.measured

  pub turn_written : WritesNext header old new view view' blocks' job job' (Ok progress.Written) → IsUnderway new view' blocks' job' header
  turn_written next = record {
    with_view = has_both (Ok progress.Written) next;
    opened = ap (λ (r : RoomState). r.is_shut) next.room.room ∙ was.opened;
    taken = ap (λ (j : Job). j.header) next.same ∙ was.taken;
    measured = still_measured (Ok progress.Written) next;
    writing = next.next.2;
  }

  pub turn_ended : job'.written ≡ body_len header → WritesNext header old new view view' blocks' job job' (Ok progress.Ended) → IsWritten new view' job' header
  turn_ended total next = record {
    with_view = has_both (Ok progress.Ended) next;
    taken = ap (λ (j : Job). j.header) next.same ∙ was.taken;
    total = total;
    measured = still_measured (Ok progress.Ended) next;
    body = next.next.0;
  }

-- ---- turns of others

-- nobody had one
pub no_turns : (a : RoomValue) → HadTurns a a
no_turns a = record { board = refl; region_len = refl; job = record { job = refl; held = λ job is. refl } }

pub turns_on : (a b c : RoomValue) → HadTurns a b → HadTurns b c → HadTurns a c
turns_on a b c p q = record { board = q.board ∙ p.board; region_len = q.region_len ∙ p.region_len; job = job_on a.room b.room c.room p.job q.job }

-- what is out is out still, and what is underway too, where the room is open
module _ (old new : RoomValue) (view : ViewValue) (job : Job) (turns : HadTurns old new) where
  pub turned_out : AreOut old view job → AreOut new view job
  turned_out was = record {
    at = record { place = was.at.place; board = turns.board ∙ was.at.board; region_len = was.at.region_len ∙ sym turns.region_len };
    out = turns.job.job ∙ was.out;
  }

  pub turned_stopped : (blocks : BlocksValue) (header : Header) → IsUnderway old view blocks job header → AreOut new view job
  turned_stopped blocks header was = turned_out (underway_out old view job blocks header was)

  pub turned : (blocks : BlocksValue) (header : Header) → new.room.is_shut ≡ false → IsUnderway old view blocks job header → IsUnderway new view blocks job header
  turned blocks header opened was =
      let out = turned_stopped blocks header was in
      record {
        with_view = record { at = out.at; out = out.out; older = was.with_view.older; newer = was.with_view.newer };
        opened = opened;
        taken = was.taken;
        measured = was.measured;
        writing = turns_last view blocks job old new turns.region_len was.with_view.out turns.job was.writing;
      }

-- ---- sealing and erasing

pub may_seal : (value : RoomValue) (view : ViewValue) (job : Job) (header : Header) → IsWhole value → IsView view → IsWritten value view job header → IfSome job.header (IsWrittenOut value.room job)
may_seal value view job header whole is_view was =
    subst (λ (o : Option Header). IfSome o (IsWrittenOut value.room job)) (sym was.taken)
    (written_out value view job header (record { whole = whole; is_view = is_view; posted = posted value view was.with_view.at; region_len = was.with_view.at.region_len })
    was.with_view.older was.with_view.newer was.measured was.body)

pub sealed_or : (old new : RoomValue) (view : ViewValue) (job : Job) (header : Header) (result : Result (Unit {0}) (RoomFault × Job)) → Keeps old new → IfSome job.header (λ h. SealsJobOr old new job h result)
    → IsWritten old view job header → Merges new view job result
unfolding merged_state
sealed_or old new view job header result keeps seals was = by result (subst (λ (o : Option Header). IfSome o (λ h. SealsJobOr old new job h result)) was.taken seals)
  where
    at_new : new.room.board ≡ old.room.board → IsAt new view
    at_new board = let at = was.with_view.at in record { place = at.place; board = board ∙ at.board; region_len = at.region_len ∙ sym keeps.becomes.region_len }

    by : (r : Result (Unit {0}) (RoomFault × Job)) → SealsJobOr old new job header r → Merges new view job r
    by (Ok u) sealed = (at_new (ap (λ (r : RoomState). r.board) sealed.1.1.room), ap (λ (r : RoomState). r.job) sealed.1.1.room)
    by (Err (room_fault.Disk, _)) (is, (opened, steps, fails)) = record { at = at_new (ap (λ (r : RoomState). r.board) steps.room); out = ap (λ (r : RoomState). r.job) steps.room ∙ was.with_view.out }
    by (Err (room_fault.Shut epoch, _)) (is, (shut, which, same)) = record { at = at_new (ap (λ (v : RoomValue). v.room.board) same); out = ap (λ (v : RoomValue). v.room.job) same ∙ was.with_view.out }
    by (Err (room_fault.NoMemory, _)) (is, ((opened, steps, counts), kept, ungated)) = record { at = at_new (ap (λ (r : RoomState). r.board) steps.room); out = ap (λ (r : RoomState). r.job) steps.room ∙ was.with_view.out }

-- a job that came home leaves the view out
pub dropped : (old new : RoomValue) (view : ViewValue) (job : Job) (free : List ℕ) → new ≡ with_job old None free → AreOut old view job → IsAt new view × (new.room.job ≡ None)
dropped old new view job free is was = (
  record { place = was.at.place; board = ap (λ (v : RoomValue). v.room.board) is ∙ was.at.board; region_len = was.at.region_len ∙ sym (ap (λ (v : RoomValue). v.room.region_len) is) },
  ap (λ (v : RoomValue). v.room.job) is,
)

-- making a view that is refused leaves the board
pub unviewed : (old new : RoomValue) (seat : ℕ) (fault : RoomFault) → ViewsOr old new seat (Err fault) → new.room.board ≡ old.room.board
unviewed old new seat room_fault.Disk is = ap (λ (r : RoomState). r.board) is.0.1.room
unviewed old new seat (room_fault.Shut epoch) is = ap (λ (v : RoomValue). v.room.board) is.2
unviewed old new seat room_fault.NoMemory is = ap (λ (v : RoomValue). v.room.board) is.1

-- From a job whose body is written to the merge of two neighbours.
use Rattle.std.proofs.Common.{◌≡◌, ℕ, ◌<◌, ◌≤◌, Bool, true, false, List, drop, length, Some, None, Ok, Err, inl, inr, refl, sym, ap, subst, ◌∙◌, true≢false}
use Rattle.std.proofs.lemmas.Bool.{le-leb}
use Rattle.std.specs.Prelude.{if◌then◌else◌, nat_le, Contains, IsErrOf, OnOk, is_some, Option, Result, option_map}
use Rattle.fine_model.specs.declared.FetchFault.{FetchFault}
use Rattle.fine_model.specs.declared.FetchFault.TheVariants as fetch_fault
use Rattle.fine_model.specs.declared.Header.{Header}
use Rattle.fine_model.specs.declared.Job.{Job}
use Rattle.fine_model.specs.declared.Part.{Part}
use Rattle.fine_model.specs.declared.Row.{Row}
use Rattle.fine_model.specs.declared.law.RoomState.{RoomState}
use Rattle.fine_model.specs.Jobs.{held_for}
use Rattle.fine_model.specs.Merge.{FitsFree, cost, merged, regions_for}
use Rattle.fine_model.specs.Regions.{body_bytes, body_len}
use Rattle.fine_model.specs.RowBytes.{rows_len}
use Rattle.log_disk.specs.Disk.{Disk}
use Rattle.log_disk.proofs.Times.{continues_then}
use Rattle.node_fetch.specs.Fetched.{NoDamage}
use Rattle.partition_index.specs.Parts.{CountsFaults}
use Rattle.partition_index.specs.Search.{TellsRows as TellsPart}
use Rattle.partition_hold.specs.SourceLaws.{same_itself}
use Rattle.partition_hold.specs.Views.{SameView, ViewValue}
use Rattle.partition_merge.specs.declared.merger.Measure.{Measure}
use Rattle.partition_merge.specs.declared.merger.Merger.{Merger}
use Rattle.partition_merge.specs.Joined.{IsJoinedBody}
use Rattle.partition_merge.specs.Mergers.{BlamesEntry, BlamesRow, IsMeasureOf, at_front, measure_of, newer_part, older_part}
use Rattle.partition_merge.proofs.JoinedFinds.{measured_law}
use Rattle.epoch_room.specs.Meaning.{Keeps}
use Rattle.epoch_room.specs.MergeSealing.{IsWrittenOut, SealsJobOr, merged_state}
use Rattle.epoch_room.specs.MergeSteps.{free_after, free_dropped, fresh_job, header_over, if_enough, job_after, measured_len, neighbours_from, picked, regions_for_job, regions_needed, taken_job, with_job}
use Rattle.epoch_room.specs.Returns.{IsPosted}
use Rattle.epoch_room.specs.Steps.{Does, Fails}
use Rattle.epoch_room.specs.Value.{RoomValue, on, regions_outside, taken}
use Rattle.epoch_room.specs.Whole.{IsWhole}
use Rattle.epoch_room.specs.declared.answers.RoomFault.{RoomFault}
use Rattle.epoch_room.specs.declared.answers.RoomFault.TheVariants as room_fault
use Rattle.epoch_room.proofs.Joining.{keeps_then}
use Rattle.room_merges.specs.declared.fault.MergeFault.{MergeFault}
use Rattle.room_merges.specs.declared.fault.MergeFault.TheVariants as merge_fault
use Rattle.room_merges.specs.Merging.{EyeTells, HoldsBody, HoldsJoined, IsOut, Measures, OfTold}
use Rattle.room_merges.specs.Pairs.{IsReady, AreTried, IsPartSealed, IsPassedOver, IsRefused, LosesPart, MergesJob, MergesMeasured, MergesPair, SealsPart, StaysAsIs, WritesPart, header_for, job_for, measure_in}
use Rattle.room_merges.specs.Work.{FallsShut, LosesFor, RefusesOr, StaysOpen, WritesAll, same_job}
use Rattle.room_merges.proofs.Chained.{body_is_written, told_before, told_of}
use Rattle.room_merges.proofs.Working.{all_lost, blamed, falls_then, looks_refused, looks_sound, looks_then, of_same, refuses_then, stays_itself, stays_then, view_back}

pub some_none : {A : Type 0} (x : A) → Some x ≡ None → ⊥
some_none x is = cc

pub some_same : {A : Type 0} (x y : A) → Some x ≡ Some y → x ≡ y
some_same x y is = cc

-- what an eye tells of the parts of a job, of which more was written
of_job : (view : ViewValue) (job job' : Job) (P : List Row → List Row → Type 0) → job' ≡ same_job job job'.written → OfTold view job'.older job'.newer P → OfTold view job.older job.newer P
of_job view job job' P same of_told =
    subst (λ p. OfTold view p job.newer P) (ap (λ (j : Job). j.older) same) (subst (λ p. OfTold view job'.older p P) (ap (λ (j : Job). j.newer) same) of_told)

-- ---- sealing

-- a job that is written to its end
full : (job : Job) (header : Header) → job.written ≡ body_len header → job ≡ same_job job (body_len header)
full job header total = ap (same_job job) total

part_sealed : (header : Header) (old new : RoomValue) (view : ViewValue) (job : Job) (u : Unit {0}) → job.written ≡ body_len header → Keeps old new → HoldsBody old view job → HoldsJoined old view job
    → SealsJobOr old new job header (Ok u) → IsPartSealed header old new view job
part_sealed header old new view job u total keeps holds joined (synced, does, held) = record {
  synced = synced;
  room = subst (λ j. Does (merged_state old.room j header) old.target old new) (full job header total) does;
  body = λ a b older_told newer_told. ap (held_for new.room.image) (sym (full job header total)) ∙ held ∙ holds a b older_told newer_told;
  joined = λ image told. let was = joined image told in (was.0, was.1, (ap (held_for new.room.image) (sym (full job header total)) ∙ held ∙ was.2.0, was.2.1 ∙ total));
  keeps = keeps;
}

pub seals : (header : Header) (old new : RoomValue) (view : ViewValue) (job : Job) (u : Unit {0}) → job.header ≡ Some header → job.written ≡ body_len header → Keeps old new → HoldsBody old view job → HoldsJoined old view job
    → SealsJobOr old new job header (Ok u) → SealsPart header old new view job (Ok u)
seals header old new view job u taken total keeps holds joined sealed = part_sealed header old new view job u total keeps holds joined sealed

pub seal_refused : (header : Header) (old new : RoomValue) (view : ViewValue) (job : Job) (fault : RoomFault) (back : Job) → old.room.job ≡ Some job → old.room.is_shut ≡ false → Keeps old new
    → SealsJobOr old new job header (Err (fault, back)) → SealsPart header old new view job (Err fault)
seal_refused header old new view job room_fault.Disk back out open_room keeps (is, (opened_room, steps, fails)) = record {
  room = steps.room ∙ (λ i. on (record old.room { job = out i; lost = sym (ap (λ (r : RoomState). r.lost) steps.room) i; is_shut = true }) new.disk);
  target = steps.target;
  entry = steps.entry;
  fails = fails;
  loses = all_lost new.room.region_len job new.room.lost (ap (λ (r : RoomState). r.lost) steps.room);
  keeps = keeps;
}
seal_refused header old new view job (room_fault.Shut epoch) back out open_room keeps (is, (was_shut, which, same)) = absurd (true≢false (sym was_shut ∙ open_room))
seal_refused header old new view job room_fault.NoMemory back out open_room keeps (is, ((opened_room, steps, counts), kept, ungated)) = record {
  room = steps.room ∙ ap (λ (j : Option Job). on (record old.room { job = j }) new.disk) out;
  target = steps.target;
  entry = steps.entry;
  counts = counts;
  keeps = keeps;
}

-- what sealing asks, through a view that is out
pub written_out : (value : RoomValue) (view : ViewValue) (job : Job) (header : Header) → IsOut value view → Contains view.parts job.older → Contains view.parts job.newer
    → Measures view job.older job.newer (measure_in header) → HoldsBody value view job → IsWrittenOut value.room job header
written_out value view job header out older newer measured holds =
    body_is_written value view job header (measure_in header) out older newer (record { rows = refl; nodes = refl; area = refl }) refl measured holds

-- ---- writing, and then sealing

-- what was done behind a step that leaves the room open
does_later : (header : Header) (j : Job) (job : Option Job) (a b c : RoomValue) → IsWhole a → StaysOpen job a.room.free a b → Does (merged_state b.room j header) b.target b c
    → Does (merged_state a.room j header) a.target a c
unfolding merged_state
does_later header j job a b c whole first (opened_room, steps, counts) = (
  sym (ap (λ (r : RoomState). r.is_shut) first.room) ∙ opened_room,
  record {
    room = steps.room ∙ ap (λ (r : RoomState). on (merged_state r j header) c.disk) first.room;
    target = steps.target ∙ first.target;
    entry = steps.entry ∙ first.entry;
    regions = steps.regions ∙ sym (ap (λ (r : RoomState). r.regions) first.room) ∙ first.keeps.becomes.regions ∙ ap (λ (r : RoomState). r.regions) whole.of_disk;
    region_len = steps.region_len ∙ sym (ap (λ (r : RoomState). r.region_len) first.room) ∙ first.keeps.becomes.region_len ∙ ap (λ (r : RoomState). r.region_len) whole.of_disk;
    time = continues_then a.disk b.disk c.disk first.keeps.time steps.time;
  },
  record { faults = counts.faults ∙ first.counts.faults; own_faults = counts.own_faults ∙ first.counts.own_faults },
)

module _ (header : Header) (old mid new : RoomValue) (view view' : ViewValue) (job job' : Job) where
  pub still_measured : SameView view view' → job' ≡ same_job job job'.written → Measures view job.older job.newer (measure_in header) → Measures view' job'.older job'.newer (measure_in header)
  still_measured same is measured =
      of_same view view' job job' same (ap (λ (j : Job). j.older) is) (ap (λ (j : Job). j.newer) is) (λ a b. measure_in header ≡ measure_of (merged a b)) measured

  -- the body was written and the part was sealed
  pub part_joined : (u : Unit {0}) → IsWhole old → WritesAll header old mid view view' job job' (Ok true) → SealsPart header mid new view' job' (Ok u) → WritesPart header old new view view' job job' (Ok true)
  part_joined u whole wrote sealed =
      let same : same_job job' (body_len header) ≡ same_job job (body_len header) = ap (λ (j : Job). same_job j (body_len header)) wrote.same in
      record {
        part = record {
          synced = sealed.synced;
          room = subst (λ j. Does (merged_state old.room j header) old.target old new) same (does_later header (same_job job' (body_len header)) (Some job') old mid new whole wrote.room sealed.room);
          body = of_job view' job job' (λ a b. held_for new.room.image (same_job job (body_len header)) ≡ Some (body_bytes (merged a b))) wrote.same
              (subst (λ j. OfTold view' job'.older job'.newer (λ a b. held_for new.room.image j ≡ Some (body_bytes (merged a b)))) same sealed.body);
          joined = subst (HoldsJoined new view') same sealed.joined;
          keeps = keeps_then old mid new wrote.room.keeps sealed.keeps;
        };
        same = wrote.same;
        looks = looks_sound view view' (Ok true) wrote.looks.same (wrote.looks.counts.else_same (λ failed. cc)) (λ failed. cc);
      }

  -- it was written, and not sealed
  pub part_unsealed : (fault : RoomFault) → WritesAll header old mid view view' job job' (Ok true) → SealsPart header mid new view' job' (Err fault) → WritesPart header old new view view' job job' (Err (merge_fault.Room fault))
  part_unsealed fault wrote refused = record {
    part = (
      subst (λ free. RefusesOr (Some job') free old new (merge_fault.Room fault)) (ap (λ (r : RoomState). r.free) wrote.room.room)
          (refuses_then (Some job') (Some job') old.room.free mid.room.free old mid new (merge_fault.Room fault) wrote.room refused),
      tt,
    );
    same = wrote.same;
    looks = looks_sound view view' (Err (merge_fault.Room fault)) wrote.looks.same (wrote.looks.counts.else_same (λ failed. cc)) (λ failed. cc);
  }

  -- the merged rows have not as many bytes as the header says
  pub part_unwritten : WritesAll header old new view view' job job' (Ok false) → WritesPart header old new view view' job job' (Ok false)
  part_unwritten wrote = record { part = (wrote.room, of_job view' job job' (λ a b. cost (merged a b) ≡ body_len header → ⊥) wrote.same wrote.all); same = wrote.same; looks = wrote.looks }

  -- writing was refused
  pub part_refused : (fault : MergeFault) → WritesAll header old new view view' job job' (Err fault) → WritesPart header old new view view' job job' (Err fault)
  part_refused fault wrote = record { part = (wrote.room, wrote.all); same = wrote.same; looks = wrote.looks }

-- ---- taking regions

below : (k n : ℕ) → k ≤ n → nat_le k n ≡ true
below = le-leb

module _ (room : RoomState) (a b : List Row) where
  -- merged rows that fit have their regions
  pub fit_taken : (fits : FitsFree room.region_len (length room.free) a b) → regions_for_job room (measure_of (merged a b)) ≡ Some fits.regions
  unfolding regions_for
  fit_taken fits =
      subst (λ o. (if o then if_enough (length room.free) (regions_needed room.region_len (cost (merged a b))) else None) ≡ Some fits.regions) (sym fits.ordered)
      (ap (if_enough (length room.free)) fits.needed ∙ subst (λ e. (if e then Some fits.regions else None) ≡ Some fits.regions) (sym (below fits.regions (length room.free) fits.enough)) refl)

-- regions are taken for rows in order alone
in_order : (room : RoomState) (measure : Measure) (regions : ℕ) → regions_for_job room measure ≡ Some regions → measure.ordered ≡ true
in_order room measure regions = by measure.ordered
  where
    by : (o : Bool) → (if o then if_enough (length room.free) (regions_needed room.region_len (measured_len measure)) else None) ≡ Some regions → o ≡ true
    by true is = refl
    by false is = absurd (some_none regions (sym is))

pub none_taken : (old new : RoomValue) (view : ViewValue) (job job' : Job) (measure : Measure) → IsWhole old → old.room.job ≡ Some job → Measures view job.older job.newer measure
    → regions_for_job old.room measure ≡ None → job' ≡ job_after job measure old.room.free (regions_for_job old.room measure)
    → new ≡ with_job old (Some job') (free_after old.room.free (regions_for_job old.room measure)) → MergesMeasured measure old new view view (job.older, job.newer) job' (Ok false)
none_taken old new view job job' measure whole out measured none job_is room_is =
    let is : job' ≡ job = job_is ∙ ap (job_after job measure old.room.free) none in
    let stays : new ≡ old =
    room_is ∙ (λ i. with_job old (Some (is i)) (free_after old.room.free (none i))) ∙ ap (λ (j : Option Job). with_job old j old.room.free) (sym out) in
    record {
      job = (
        subst (λ (v : RoomValue). StaysOpen (Some job') v.room.free old v) (sym stays) (subst (λ j. StaysOpen (Some j) old.room.free old old) (sym is) (stays_itself old (Some job) whole out)),
        λ a b older_told newer_told fits.
            some_none fits.regions (sym (fit_taken old.room a b fits) ∙ ap (regions_for_job old.room) (sym (measured a b older_told newer_told)) ∙ none),
        inl none,
      );
      looks = looks_sound view view (Ok false) (same_itself view) refl (λ failed. cc);
    }

-- what a refusal leaves free
refused_free : (job : Option Job) (free : List ℕ) (old new : RoomValue) (fault : MergeFault) → RefusesOr job free old new fault → RefusesOr job new.room.free old new fault
refused_free job free old new (merge_fault.Fetch fault) stays = subst (λ f. StaysOpen job f old new) (sym (ap (λ (r : RoomState). r.free) stays.room)) stays
refused_free job free old new (merge_fault.Room room_fault.NoMemory) stays = subst (λ f. StaysOpen job f old new) (sym (ap (λ (r : RoomState). r.free) stays.room)) stays
refused_free job free old new (merge_fault.Room room_fault.Disk) falls = subst (λ f. FallsShut job f old new) (sym (ap (λ (r : RoomState). r.free) falls.room)) falls
refused_free job free old new (merge_fault.Room (room_fault.Shut epoch)) none = absurd none

-- a job of two parts takes so many of the free regions, and its part is written and sealed
module _ (old : RoomValue) (two : Part × Part) (measure : Measure) (regions : ℕ) where
  abbrev job_taken : Job
  job_taken = taken_job (fresh_job two) measure regions old.room.free

  abbrev room_taken : RoomValue
  room_taken = with_job old (Some job_taken) (drop regions old.room.free)

  takes : IsWhole old → Keeps old room_taken → StaysOpen (Some job_taken) (drop regions old.room.free) old room_taken
  takes whole keeps = record {
    room = ap (λ (r : RoomState). record r { job = Some job_taken; free = drop regions old.room.free }) whole.of_disk;
    target = refl;
    entry = refl;
    counts = record { faults = refl; own_faults = refl };
    keeps = keeps;
  }

  sealed_taken : (new : RoomValue) (view view' : ViewValue) (job' : Job) → Keeps old room_taken → regions_for_job old.room measure ≡ Some regions
      → WritesPart (header_for two measure regions old.room.free) room_taken new view view' job_taken job' (Ok true) → MergesMeasured measure old new view view' two job' (Ok true)
  unfolding header_over merged_state
  sealed_taken new view view' job' keeps is wrote =
      let part = wrote.part in
      let steps = part.room.1 in
      record {
        job = record {
          regions = regions;
          taken = is;
          ordered = in_order old.room measure regions is;
          synced = part.synced;
          room = (
            part.room.0,
            record { room = steps.room; target = steps.target; entry = steps.entry; regions = steps.regions; region_len = steps.region_len; time = steps.time },
            part.room.2,
          );
          body = part.body;
          joined = part.joined;
          keeps = keeps_then old room_taken new keeps part.keeps;
        };
        looks = wrote.looks;
      }

  unsealed_taken : (new : RoomValue) (view view' : ViewValue) (job' : Job) → IsWhole old → Keeps old room_taken → Measures view two.0 two.1 measure
      → WritesPart (header_for two measure regions old.room.free) room_taken new view view' job_taken job' (Ok false) → MergesMeasured measure old new view view' two job' (Ok false)
  unfolding header_over
  unsealed_taken new view view' job' whole keeps measured wrote =
      let stays = stays_then (Some job_taken) (Some job') (drop regions old.room.free) (drop regions old.room.free) old room_taken new (takes whole keeps) wrote.part.0 in
      let untold : OfTold view' two.0 two.1 (λ a b. ⊥) =
      λ a b older_told newer_told.
      wrote.part.1 a b older_told newer_told
      (sym (ap measured_len (measured a b (told_before view view' two.0 a wrote.looks.same older_told) (told_before view view' two.1 b wrote.looks.same newer_told)))) in
      record {
        job = (
          subst (λ f. StaysOpen (Some job') f old new) (sym (ap (λ (r : RoomState). r.free) stays.room)) stays,
          λ a b older_told newer_told fits. untold a b older_told newer_told,
          inr untold,
        );
        looks = wrote.looks;
      }

  refused_taken : (new : RoomValue) (view view' : ViewValue) (job' : Job) (fault : MergeFault) → IsWhole old → Keeps old room_taken → regions_for_job old.room measure ≡ Some regions
      → WritesPart (header_for two measure regions old.room.free) room_taken new view view' job_taken job' (Err fault) → MergesMeasured measure old new view view' two job' (Err fault)
  refused_taken new view view' job' fault whole keeps is wrote = record {
    job = (
      refused_free (Some job') (drop regions old.room.free) old new fault
          (refuses_then (Some job_taken) (Some job') (drop regions old.room.free) (drop regions old.room.free) old room_taken new fault (takes whole keeps) wrote.part.0),
      wrote.part.1,
      λ disk. record { regions = regions; taken = is; same = wrote.same },
    );
    looks = wrote.looks;
  }

  part_taken : (new : RoomValue) (view view' : ViewValue) (job' : Job) (result : Result Bool MergeFault) → IsWhole old → Keeps old room_taken → Measures view two.0 two.1 measure
      → regions_for_job old.room measure ≡ Some regions → WritesPart (header_for two measure regions old.room.free) room_taken new view view' job_taken job' result
      → MergesMeasured measure old new view view' two job' result
  part_taken new view view' job' (Ok true) whole keeps measured is wrote = sealed_taken new view view' job' keeps is wrote
  part_taken new view view' job' (Ok false) whole keeps measured is wrote = unsealed_taken new view view' job' whole keeps measured wrote
  part_taken new view view' job' (Err fault) whole keeps measured is wrote = refused_taken new view view' job' fault whole keeps is wrote

-- regions were taken for a job
pub record Ready (header : Header) (old mid : RoomValue) (view : ViewValue) (job job' : Job) (measure : Measure) : Type 0 where
  pub regions : ℕ
  pub found : regions_for_job old.room measure ≡ Some regions
  pub is : IsReady header mid view job'

found_some : (found : Option ℕ) → true ≡ is_some found → (k : ℕ) × (found ≡ Some k)
found_some None is = absurd (true≢false is)
found_some (Some k) is = (k, refl)

pub found_none : (found : Option ℕ) → false ≡ is_some found → found ≡ None
found_none None is = refl
found_none (Some k) is = absurd (true≢false (sym is))

-- a job that took regions has a header
pub has_header : (job job' : Job) (measure : Measure) (free : List ℕ) (found : Option ℕ) → true ≡ is_some found → job' ≡ job_after job measure free found → job'.header ≡ None → ⊥
has_header job job' measure free None some is none = true≢false some
has_header job job' measure free (Some k) some is none = some_none (header_over job measure k free) (sym (ap (λ (j : Job). j.header) is) ∙ none)

pub ready : (old mid : RoomValue) (view : ViewValue) (job job' : Job) (header : Header) (measure : Measure) → true ≡ is_some (regions_for_job old.room measure)
    → job' ≡ job_after job measure old.room.free (regions_for_job old.room measure) → mid ≡ with_job old (Some job') (free_after old.room.free (regions_for_job old.room measure))
    → job'.header ≡ Some header → old.room.is_shut ≡ false → job ≡ fresh_job (job.older, job.newer) → Contains view.parts job.older → Contains view.parts job.newer
    → IsPosted old.room view → view.region_len ≡ old.room.region_len → Measures view job.older job.newer measure → Ready header old mid view job job' measure
unfolding header_over
ready old mid view job job' header measure some job_is mid_is has opened fresh older newer posted region_len measured =
    let k = found_some (regions_for_job old.room measure) some in
    let is : job' ≡ taken_job job measure k.0 old.room.free = job_is ∙ ap (job_after job measure old.room.free) k.1 in
    let head : header_over job measure k.0 old.room.free ≡ header = some_same (header_over job measure k.0 old.room.free) header (sym (ap (λ (j : Job). j.header) is) ∙ has) in
    let o : job'.older ≡ job.older = ap (λ (j : Job). j.older) is in
    let n : job'.newer ≡ job.newer = ap (λ (j : Job). j.newer) is in
    let ordered = in_order old.room measure k.0 k.1 in
    record {
      regions = k.0;
      found = k.1;
      is = record {
        out = ap (λ (v : RoomValue). v.room.job) mid_is;
        opened = ap (λ (v : RoomValue). v.room.is_shut) mid_is ∙ opened;
        none = ap (λ (j : Job). j.written) is ∙ ap (λ (j : Job). j.written) fresh;
        older = subst (Contains view.parts) (sym o) older;
        newer = subst (Contains view.parts) (sym n) newer;
        posted = subst (λ (v : RoomValue). IsPosted v.room view) (sym mid_is) posted;
        region_len = region_len ∙ sym (ap (λ (v : RoomValue). v.room.region_len) mid_is);
        measured = λ a b older_told newer_told.
            let same : measure ≡ measure_of (merged a b) = measured a b (subst (λ p. EyeTells view p a) o older_told) (subst (λ p. EyeTells view p b) n newer_told) in
            let as_header : measure_in (header_over job measure k.0 old.room.free) ≡ measure = λ i. record { rows = measure.rows; nodes = measure.nodes; area = measure.area; ordered = sym ordered i } in
            ap measure_in (sym head) ∙ as_header ∙ same;
        taken = has;
      };
    }

-- so of any job and room that are these
pub measured_part : (old mid new : RoomValue) (view view' : ViewValue) (job taken_for job' : Job) (header : Header) (measure : Measure) (regions : ℕ) (result : Result Bool MergeFault)
    → IsWhole old → Keeps old mid → Measures view job.older job.newer measure → job ≡ fresh_job (job.older, job.newer) → regions_for_job old.room measure ≡ Some regions
    → taken_for ≡ job_after job measure old.room.free (regions_for_job old.room measure) → mid ≡ with_job old (Some taken_for) (free_after old.room.free (regions_for_job old.room measure))
    → taken_for.header ≡ Some header → WritesPart header mid new view view' taken_for job' result → MergesMeasured measure old new view view' (job.older, job.newer) job' result
measured_part old mid new view view' job taken_for job' header measure regions result whole keeps measured fresh is job_is mid_is has wrote =
    let two : Part × Part = (job.older, job.newer) in
    let job_at : taken_for ≡ job_taken old two measure regions =
    job_is ∙ ap (job_after job measure old.room.free) is ∙ ap (λ (j : Job). taken_job j measure regions old.room.free) fresh in
    let mid_at : mid ≡ room_taken old two measure regions =
    mid_is ∙ (λ i. with_job old (Some (job_at i)) (free_after old.room.free (is i))) in
    let header_at : header ≡ header_for two measure regions old.room.free =
    some_same header (header_for two measure regions old.room.free) (sym has ∙ ap (λ (j : Job). j.header) job_at) in
    part_taken old two measure regions new view view' job' result whole (subst (Keeps old) mid_at keeps) measured is
    (subst (λ h. WritesPart h (room_taken old two measure regions) new view view' (job_taken old two measure regions) job' result) header_at
    (subst (λ (m : RoomValue). WritesPart header m new view view' (job_taken old two measure regions) job' result) mid_at
    (subst (λ j. WritesPart header mid new view view' j job' result) job_at wrote)))

-- ---- measuring

on_ok : {A E X : Type 0} (result : Result A E) → X → OnOk result X
on_ok (Ok answer) x = x
on_ok (Err fault) x = tt

pub job_measured : (old new : RoomValue) (view seen view' : ViewValue) (two : Part × Part) (job' : Job) (measure : Measure) (result : Result Bool MergeFault) → SameView view seen → seen.eye.faults ≡ view.eye.faults
    → IsMeasureOf view.eye.told (at_front two.0 two.1 view.region_len) measure → Measures view two.0 two.1 measure → MergesMeasured measure old new seen view' two job' result → MergesJob old new view view' two job' result
job_measured old new view seen view' two job' measure result same steady read measured done = record {
  measure = measure;
  read = on_ok result read;
  measured = on_ok result measured;
  read_before = λ _. read;
  job = done.job;
  looks = looks_then view seen view' result same steady done.looks;
}

pub job_unmeasured : (value : RoomValue) (view view' : ViewValue) (merger : Merger) (job : Job) (fault : FetchFault) → IsOut value view → value.room.job ≡ Some job → Contains view.parts job.older → Contains view.parts job.newer
    → merger ≡ at_front job.older job.newer view.region_len → SameView view view' → CountsFaults (IsErrOf {T = Measure} (Err fault) fetch_fault.Failed) view.eye view'.eye
    → ((region at : ℕ) → IsErrOf {T = Measure} (Err fault) (fetch_fault.BadRow region at) → BlamesRow view.eye.told merger (record { region = region; at = at }))
    → ((region at : ℕ) → IsErrOf {T = Measure} (Err fault) (fetch_fault.BadIndex region at) → BlamesEntry view.eye.told merger (record { region = region; at = at }))
    → ((a b : List Row) → TellsPart view.eye (older_part merger) a → TellsPart view.eye (newer_part merger) b → rows_len (merged a b) < 4294967296 → NoDamage fault)
    → MergesJob value value view view' (job.older, job.newer) job (Err (merge_fault.Fetch fault))
job_unmeasured value view view' merger job fault out is_out has_older has_newer is same counts row entry exact =
    let o : older_part merger ≡ job.older = ap older_part is in
    let n : newer_part merger ≡ job.newer = ap newer_part is in
    record {
      measure = record { rows = 0; nodes = 0; area = 0; ordered = true };
      read = tt;
      measured = tt;
      read_before = λ failed. absurd (let e : ◌≡◌ {A = Result Bool MergeFault} (Err (merge_fault.Fetch fault)) (Err (merge_fault.Room room_fault.Disk)) = failed in cc);
      job = (
        stays_itself value (Some job) out.whole is_out,
        blamed view view' merger job.older job.newer fault same (ap (λ (m : Merger). m.region_len) is) o n
            (λ region at bad. row region at (ap (λ f. Err f) bad)) (λ region at bad. entry region at (ap (λ f. Err f) bad))
            (of_same view view' job job same refl refl (λ a b. NoDamage fault)
            (told_of view job.older job.newer (λ a b. NoDamage fault) out.is_view has_older has_newer
            (λ a b p q. exact a b (subst (λ part. TellsPart view.eye part a) (sym o) p) (subst (λ part. TellsPart view.eye part b) (sym n) q)))),
        λ disk. absurd (let e : ◌≡◌ {A = MergeFault} (merge_fault.Fetch fault) (merge_fault.Room room_fault.Disk) = disk in cc),
      );
      looks = looks_refused {A = Measure} {B = Bool} view view' fault same counts;
    }

-- ---- picking

pub pick_found : (room : RoomState) (from : ℕ) (job : Job) → room.is_shut ≡ false → picked room from ≡ Some job
    → (neighbours_from from room.parts ≡ Some (job.older, job.newer)) × (job ≡ fresh_job (job.older, job.newer))
pick_found room from job opened is =
    by (neighbours_from from room.parts) (subst (λ s. (if s then None else option_map fresh_job (neighbours_from from room.parts)) ≡ Some job) opened is)
  where
    by : (found : Option (Part × Part)) → option_map fresh_job found ≡ Some job → (found ≡ Some (job.older, job.newer)) × (job ≡ fresh_job (job.older, job.newer))
    by None at = absurd (some_none job (sym at))
    by (Some two) at = let e : fresh_job two ≡ job = some_same (fresh_job two) job at in (λ i. Some ((e i).older, (e i).newer), sym e ∙ (λ i. fresh_job ((e i).older, (e i).newer)))

pub pick_none : (room : RoomState) (from : ℕ) → room.is_shut ≡ false → picked room from ≡ None → neighbours_from from room.parts ≡ None
pick_none room from opened is =
    by (neighbours_from from room.parts) (subst (λ s. (if s then None else option_map fresh_job (neighbours_from from room.parts)) ≡ None) opened is)
  where
    by : (found : Option (Part × Part)) → option_map fresh_job found ≡ None → found ≡ None
    by None at = refl
    by (Some two) at = absurd (some_none (fresh_job two) at)

-- a job was picked
pub picked_open : (old mid : RoomValue) (job : Job) → IsWhole old → mid ≡ with_job old (Some job) old.room.free → Keeps old mid → StaysOpen (Some job) old.room.free old mid
picked_open old mid job whole is keeps = subst (λ (m : RoomValue). Keeps old m → StaysOpen (Some job) old.room.free old m) (sym is) stays keeps
  where
    stays : Keeps old (with_job old (Some job) old.room.free) → StaysOpen (Some job) old.room.free old (with_job old (Some job) old.room.free)
    stays keeps = record {
      room = ap (λ (r : RoomState). record r { job = Some job }) whole.of_disk;
      target = refl;
      entry = refl;
      counts = record { faults = refl; own_faults = refl };
      keeps = keeps;
    }

-- ---- giving a job up

given_up_room : (room : RoomState) (free : List ℕ) (mid new : RoomValue) → mid.room ≡ room → new ≡ with_job mid None free → new.room ≡ record room { job = None; free = free }
given_up_room room free mid new first is = ap (λ (v : RoomValue). v.room) is ∙ ap (λ (r : RoomState). record r { job = None; free = free }) first

stays_given_up : (job : Job) (free : List ℕ) (old mid new : RoomValue) → StaysOpen (Some job) free old mid → new ≡ with_job mid None (free_dropped mid.room) → Keeps mid new
    → StaysOpen None (free_dropped mid.room) old new
stays_given_up job free old mid new first is keeps = record {
  room = given_up_room _ (free_dropped mid.room) mid new first.room is ∙ ap (λ (d : Disk). on (record old.room { job = None; free = free_dropped mid.room }) d) (sym (ap (λ (v : RoomValue). v.disk) is));
  target = ap (λ (v : RoomValue). v.target) is ∙ first.target;
  entry = ap (λ (v : RoomValue). v.entry) is ∙ first.entry;
  counts = record { faults = ap (λ (v : RoomValue). v.disk.faults) is ∙ first.counts.faults; own_faults = ap (λ (v : RoomValue). v.disk.own_faults) is ∙ first.counts.own_faults };
  keeps = keeps_then old mid new first.keeps keeps;
}

falls_given_up : (job : Job) (free : List ℕ) (old mid new : RoomValue) → FallsShut (Some job) free old mid → new ≡ with_job mid None (free_dropped mid.room) → Keeps mid new
    → FallsShut None (free_dropped mid.room) old new
falls_given_up job free old mid new first is keeps = record {
  room = given_up_room _ (free_dropped mid.room) mid new first.room is ∙ (λ i. on (record old.room { job = None; free = free_dropped mid.room; lost = sym (ap (λ (v : RoomValue). v.room.lost) is) i; is_shut = true }) (sym (ap (λ (v : RoomValue). v.disk) is) i));
  target = ap (λ (v : RoomValue). v.target) is ∙ first.target;
  entry = ap (λ (v : RoomValue). v.entry) is ∙ first.entry;
  fails = subst (λ (d : Disk). Fails old.disk d) (sym (ap (λ (v : RoomValue). v.disk) is)) first.fails;
  loses = tt;
  keeps = keeps_then old mid new first.keeps keeps;
}

-- no job is out, before and after, so what is free is what it was: both times it is the regions outside of the same ones
free_as_was : (old new : RoomValue) (free : List ℕ) → old.room.job ≡ None → IsWhole old → IsWhole new → StaysOpen None free old new → free ≡ old.room.free
free_as_was old new free none whole whole' stays =
    let regions : new.disk.regions ≡ old.disk.regions = sym (ap (λ (r : RoomState). r.regions) whole'.of_disk) ∙ stays.keeps.becomes.regions ∙ ap (λ (r : RoomState). r.regions) whole.of_disk in
    sym (ap (λ (r : RoomState). r.free) stays.room)
    ∙ whole'.free
    ∙ (λ i. regions_outside (regions i) (taken (stays.room i) (stays.target i)))
    ∙ ap (λ (j : Option Job). regions_outside old.disk.regions (taken (record old.room { job = j }) old.target)) (sym none)
    ∙ sym whole.free

-- what a pair is tried on: no job was out, and the first two neighbours are the job's
pub record Tries (from : ℕ) (old mid : RoomValue) (view : ViewValue) (job : Job) : Type 0 where
  pub none : old.room.job ≡ None
  pub opened : old.room.is_shut ≡ false
  pub out : IsOut old view
  pub first : neighbours_from from old.room.parts ≡ Some (job.older, job.newer)
  pub is : mid ≡ with_job old (Some job) old.room.free
  pub keeps : Keeps old mid

pub tries_from : (from : ℕ) (old mid : RoomValue) (view : ViewValue) (job : Job) → old.room.job ≡ None → old.room.is_shut ≡ false → IsOut old view → picked old.room from ≡ Some job
    → mid ≡ with_job old (picked old.room from) old.room.free → Keeps old mid → Tries from old mid view job
tries_from from old mid view job none opened out found is keeps = record {
  none = none;
  opened = opened;
  out = out;
  first = (pick_found old.room from job opened found).0;
  is = is ∙ ap (λ j. with_job old j old.room.free) found;
  keeps = keeps;
}

-- a job that was refused is out
pub refused_out : (job : Job) (free : List ℕ) (old new : RoomValue) (fault : MergeFault) → RefusesOr (Some job) free old new fault → new.room.job ≡ Some job
refused_out job free old new (merge_fault.Fetch fault) stays = ap (λ (r : RoomState). r.job) stays.room
refused_out job free old new (merge_fault.Room room_fault.NoMemory) stays = ap (λ (r : RoomState). r.job) stays.room
refused_out job free old new (merge_fault.Room room_fault.Disk) falls = ap (λ (r : RoomState). r.job) falls.room
refused_out job free old new (merge_fault.Room (room_fault.Shut epoch)) none = absurd none

-- a job was given up
pub record GivesUp (new last : RoomValue) : Type 0 where
  pub is : last ≡ with_job new None (free_dropped new.room)
  pub keeps : Keeps new last
  pub whole : IsWhole last

-- from the room before to that with no job again, once the job was given up
up_open : (old new last : RoomValue) (job : Job) (free : List ℕ) → old.room.job ≡ None → old.room.is_shut ≡ false → IsWhole old → StaysOpen (Some job) free old new → GivesUp new last → StaysAsIs old last
up_open old new last job free none opened whole stays up =
    let given = stays_given_up job free old new last stays up.is up.keeps in
    record { opened = opened; stays = subst (λ f. StaysOpen None f old last) (free_as_was old last (free_dropped new.room) none whole up.whole given) given }

module _ (from : ℕ) (old mid : RoomValue) (view : ViewValue) (job : Job) (tries : Tries from old mid view job) where
  was_picked : StaysOpen (Some job) old.room.free old mid
  was_picked = picked_open old mid job tries.out.whole tries.is tries.keeps

  -- all that is tried is the job's two
  same_two : (two : Part × Part) → AreTried from old view two → (job.older, job.newer) ≡ two
  same_two two tried = some_same (job.older, job.newer) two (sym tries.first ∙ tried.first)

  told_back : (view' : ViewValue) → SameView view view' → (P : List Row → List Row → Type 0) → OfTold view' job.older job.newer P → OfTold view job.older job.newer P
  told_back view' same P of_told = of_same view' view job job (view_back view view' same) refl refl P of_told

  -- the view has not both
  pub pair_lacked : (last : RoomValue) → (Contains view.parts job.older → Contains view.parts job.newer → ⊥) → GivesUp mid last → MergesPair from old last view view (Ok false)
  pair_lacked last lacks up =
      let none : (two : Part × Part) → AreTried from old view two → ⊥ =
      λ two tried. lacks
      (subst (λ (t : Part × Part). Contains view.parts t.0) (sym (same_two two tried)) tried.older)
      (subst (λ (t : Part × Part). Contains view.parts t.1) (sym (same_two two tried)) tried.newer) in
      record {
        room = record {
          room = up_open old mid last job old.room.free tries.none tries.opened tries.out.whole was_picked up;
          read = λ two tried. absurd (none two tried);
          none = λ two tried. absurd (none two tried);
        };
        looks = looks_sound view view (Ok false) (same_itself view) refl (λ failed. cc);
      }

  later_open : (new last : RoomValue) (job' : Job) → StaysOpen (Some job') new.room.free mid new → GivesUp new last → StaysAsIs old last
  later_open new last job' stays up =
      up_open old new last job' new.room.free tries.none tries.opened tries.out.whole (stays_then (Some job) (Some job') old.room.free new.room.free old mid new was_picked stays) up

  later_shut : (new last : RoomValue) (job' : Job) → FallsShut (Some job') new.room.free mid new → GivesUp new last → FallsShut None last.room.free old last
  later_shut new last job' falls up =
      let given = falls_given_up job' new.room.free old new last (falls_then (Some job) (Some job') old.room.free new.room.free old mid new was_picked falls) up.is up.keeps in
      subst (λ f. FallsShut None f old last) (sym (ap (λ (r : RoomState). r.free) given.room)) given

  -- the two were merged
  pub pair_merged : (new : RoomValue) (view' : ViewValue) (job' : Job) → Contains view.parts job.older → Contains view.parts job.newer → MergesJob mid new view view' (job.older, job.newer) job' (Ok true) → MergesPair from old new view view' (Ok true)
  unfolding merged_state
  pair_merged new view' job' older newer done =
      let m = subst (λ (v : RoomValue). MergesJob v new view view' (job.older, job.newer) job' (Ok true)) tries.is done in
      let keeps = subst (Keeps old) tries.is tries.keeps in
      let part = m.job in
      let steps = part.room.1 in
      record {
        room = record {
          two = (job.older, job.newer);
          tried = record { first = tries.first; older = older; newer = newer };
          measure = m.measure;
          regions = part.regions;
          read = m.read;
          taken = part.taken;
          ordered = part.ordered;
          measured = m.measured;
          synced = part.synced;
          room = (
            part.room.0,
            record { room = steps.room; target = steps.target; entry = steps.entry; regions = steps.regions; region_len = steps.region_len; time = steps.time },
            part.room.2,
          );
          body = told_back view' m.looks.same (λ a b. held_for new.room.image (job_for (job.older, job.newer) m.measure part.regions old.room.free) ≡ Some (body_bytes (merged a b))) part.body;
          joined = λ image told.
              let was = part.joined image (m.looks.same.eye.told ∙ told) in
              let read : IsMeasureOf (Some image) (at_front job.older job.newer view.region_len) m.measure = subst (λ known. IsMeasureOf known (at_front job.older job.newer view.region_len) m.measure) told m.read in
              let body : IsJoinedBody (Some image) (at_front job.older job.newer view.region_len) was.0 = subst (λ n. IsJoinedBody (Some image) (at_front job.older job.newer n) was.0) m.looks.same.region_len was.1 in
              (was.0, measured_law image job.older job.newer view.region_len m.measure was.0 read part.ordered body was.2.1, was.2.0);
          keeps = keeps_then old (with_job old (Some job) old.room.free) new keeps part.keeps;
        };
        looks = done.looks;
      }

  -- they were not
  pub pair_unmerged : (new last : RoomValue) (view' : ViewValue) (job' : Job) → Contains view.parts job.older → Contains view.parts job.newer → MergesJob mid new view view' (job.older, job.newer) job' (Ok false) → GivesUp new last → MergesPair from old last view view' (Ok false)
  pair_unmerged new last view' job' older newer done up =
      let m = subst (λ (v : RoomValue). MergesJob v new view view' (job.older, job.newer) job' (Ok false)) tries.is done in
      let none : OfTold view job.older job.newer (λ a b. FitsFree old.room.region_len (length old.room.free) a b → ⊥) =
      told_back view' m.looks.same (λ a b. FitsFree old.room.region_len (length old.room.free) a b → ⊥) m.job.1 in
      record {
        room = record {
          room = later_open new last job' done.job.0 up;
          read = λ two tried. subst (λ (t : Part × Part). IsPassedOver old view t.0 t.1) (same_two two tried) (m.measure, m.read, why m.measure m.job.2);
          none = λ two tried. subst (λ (t : Part × Part). OfTold view t.0 t.1 (λ a b. FitsFree old.room.region_len (length old.room.free) a b → ⊥)) (same_two two tried) none;
        };
        looks = done.looks;
      }
    where
      why : (measure : Measure) → IsRefused old.room view' job.older job.newer measure → IsRefused old.room view job.older job.newer measure
      why measure (inl none) = inl none
      why measure (inr untold) = inr (told_back view' done.looks.same (λ a b. ⊥) untold)

  -- that was refused
  pub pair_refused : (new last : RoomValue) (view' : ViewValue) (job' : Job) (fault : MergeFault) → Contains view.parts job.older → Contains view.parts job.newer → MergesJob mid new view view' (job.older, job.newer) job' (Err fault) → GivesUp new last
      → MergesPair from old last view view' (Err fault)
  pair_refused new last view' job' (merge_fault.Fetch fault) older newer done up = record {
    room = record { room = later_open new last job' done.job.0 up; two = (job.older, job.newer); tried = record { first = tries.first; older = older; newer = newer }; blames = done.job.1 };
    looks = done.looks;
  }
  pair_refused new last view' job' (merge_fault.Room room_fault.NoMemory) older newer done up = record { room = later_open new last job' done.job.0 up; looks = done.looks }
  pair_refused new last view' job' (merge_fault.Room room_fault.Disk) older newer done up = record {
    room = (tries.opened, later_shut new last job' done.job.0 up, lost_part);
    looks = done.looks;
  }
    where
      lost_part : LosesPart from old last view
      lost_part =
          let m = subst (λ (v : RoomValue). MergesJob v new view view' (job.older, job.newer) job' (Err (merge_fault.Room room_fault.Disk))) tries.is done in
          let taken = m.job.2 refl in
          let falls = done.job.0 in
          let len : new.room.region_len ≡ old.room.region_len = falls.keeps.becomes.region_len ∙ ap (λ (v : RoomValue). v.room.region_len) tries.is in
          record {
            two = (job.older, job.newer);
            tried = record { first = tries.first; older = older; newer = newer };
            measure = m.measure;
            read = m.read_before refl;
            job = job';
            taken = record { regions = taken.regions; taken = taken.taken; same = taken.same };
            lost = subst (λ l. LosesFor old.room.region_len (Some job') l) (sym (ap (λ (v : RoomValue). v.room.lost) up.is)) (subst (λ n. LosesFor n (Some job') new.room.lost) len falls.loses);
          }
  pair_refused new last view' job' (merge_fault.Room (room_fault.Shut epoch)) older newer done up = absurd done.job.0

-- ---- no neighbours, and a shut room

pub pair_none : (from : ℕ) (old new : RoomValue) (view : ViewValue) → old.room.job ≡ None → old.room.is_shut ≡ false → IsWhole old → neighbours_from from old.room.parts ≡ None → new ≡ old
    → MergesPair from old new view view (Ok false)
pair_none from old new view none opened whole first is =
    let no_two : (two : Part × Part) → AreTried from old view two → ⊥ = λ two tried. some_none two (sym tried.first ∙ first) in
    record {
      room = record {
        room = record { opened = opened; stays = subst (λ (v : RoomValue). StaysOpen None old.room.free old v) (sym is) (stays_itself old None whole none) };
        read = λ two tried. absurd (no_two two tried);
        none = λ two tried. absurd (no_two two tried);
      };
      looks = looks_sound view view (Ok false) (same_itself view) refl (λ failed. cc);
    }

pub pair_shut : (from epoch : ℕ) (value : RoomValue) (view : ViewValue) → value.room.is_shut ≡ true → epoch ≡ value.room.sealed → MergesPair from value value view view (Err (merge_fault.Room (room_fault.Shut epoch)))
pair_shut from epoch value view shut is = record {
  room = (shut, is, refl);
  looks = looks_sound view view (Err (merge_fault.Room (room_fault.Shut epoch))) (same_itself view) refl (λ failed. cc);
}

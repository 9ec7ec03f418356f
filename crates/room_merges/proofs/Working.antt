-- The steps of a merge, one after another.
use Rattle.std.proofs.Common.{◌≡◌, ◌⊎◌, ℕ, ◌+◌, ◌<◌, ◌≤◌, ◌++◌, Bool, true, false, List, [], length, length-append, None, Some, Ok, Err, inl, inr, refl, sym, ap, subst, ◌∙◌, arith, true≢false}
use Rattle.std.specs.Prelude.{Contains, IfSome, IsErrOf, Option, Result, slice_get}
use Rattle.fine_model.specs.declared.FetchFault.{FetchFault}
use Rattle.fine_model.specs.declared.FetchFault.TheVariants as fetch_fault
use Rattle.fine_model.specs.declared.Header.{Header}
use Rattle.fine_model.specs.declared.Job.{Job}
use Rattle.fine_model.specs.declared.Part.{Part}
use Rattle.fine_model.specs.declared.Row.{Row}
use Rattle.fine_model.specs.declared.law.OpenedEye.{OpenedEye}
use Rattle.fine_model.specs.declared.law.RoomState.{RoomState}
use Rattle.fine_model.specs.Boards.{Buffer, buffer_at, set_of}
use Rattle.fine_model.specs.Jobs.{held_for, job_regions}
use Rattle.fine_model.specs.Merge.{cost, merged}
use Rattle.fine_model.specs.Regions.{Image, Place, body_len}
use Rattle.fine_model.specs.RowBytes.{rows_len}
use Rattle.log_disk.specs.Disk.{Eye, HasRisen}
use Rattle.node_fetch.specs.Fetched.{HasBadEntry, HasBadRow, NoDamage}
use Rattle.partition_hold.specs.SourceLaws.{same_itself, same_on}
use Rattle.partition_hold.specs.Views.{SameView, ViewValue, opened}
use Rattle.partition_index.specs.Parts.{CountsFaults}
use Rattle.partition_index.specs.Search.{TellsRows as TellsPart}
use Rattle.partition_merge.specs.declared.merger.Merger.{Merger}
use Rattle.partition_merge.specs.Blocks.{BlocksValue, Gives, IsAhead, IsAtStart, SameBlocks}
use Rattle.partition_merge.specs.Joined.{GivesJoined, IsJoined}
use Rattle.partition_merge.specs.Mergers.{AreKept, BlamesEntry, BlamesRow, at_front, newer_part, older_part}
use Rattle.partition_merge.proofs.Lengths.{handed_len}
use Rattle.epoch_room.specs.Meaning.{Keeps}
use Rattle.epoch_room.specs.MergeSteps.{WritesOr, touched}
use Rattle.epoch_room.specs.Returns.{IsPosted}
use Rattle.epoch_room.specs.Value.{RoomValue, on}
use Rattle.epoch_room.specs.Whole.{IsWhole}
use Rattle.epoch_room.specs.declared.answers.RoomFault.{RoomFault}
use Rattle.epoch_room.specs.declared.answers.RoomFault.TheVariants as room_fault
use Rattle.epoch_room.proofs.OpenEpochs.Behind.{keeps_none}
use Rattle.epoch_room.proofs.Joining.{keeps_then}
use Rattle.room_merges.specs.declared.body.Progress.{Progress}
use Rattle.room_merges.specs.declared.body.Progress.TheVariants as progress
use Rattle.room_merges.specs.declared.fault.MergeFault.{MergeFault}
use Rattle.room_merges.specs.declared.fault.MergeFault.TheVariants as merge_fault
use Rattle.room_merges.specs.Merging.{EyeTells, IsOut, OfTold}
use Rattle.room_merges.specs.Work.{AllOr, BlamedBy, Blames, FallsShut, IsLosing, IsWriting, Looks, LosesFor, RefusesOr, StaysOpen, StepsOr, TurnsLast, WritesAll, WritesBlock, WritesNext, same_job}
use Rattle.room_merges.proofs.Chained.{blocks_begin, blocks_end, blocks_go_on, joining_begins, joining_ends, joining_goes_on, joining_lasts, told_before, writing_lasts}

-- what holds of a value that is there
pub some_of : {A : Type 0} (o : Option A) (x : A) (P : A → Type 0) → o ≡ Some x → IfSome o P → P x
some_of o x P is holds = subst (λ o. IfSome o P) is holds

-- ---- the room

pub stays_itself : (value : RoomValue) (job : Option Job) → IsWhole value → value.room.job ≡ job → StaysOpen job value.room.free value value
stays_itself value job whole is = record {
  room = whole.of_disk ∙ ap (λ (j : Option Job). on (record value.room { job = j }) value.disk) is;
  target = refl;
  entry = refl;
  counts = record { faults = refl; own_faults = refl };
  keeps = keeps_none value whole;
}

pub stays_then : (j k : Option Job) (f g : List ℕ) (a b c : RoomValue) → StaysOpen j f a b → StaysOpen k g b c → StaysOpen k g a c
stays_then j k f g a b c first second = record {
  room = second.room ∙ ap (λ (r : RoomState). on (record r { job = k; free = g }) c.disk) first.room;
  target = second.target ∙ first.target;
  entry = second.entry ∙ first.entry;
  counts = record { faults = second.counts.faults ∙ first.counts.faults; own_faults = second.counts.own_faults ∙ first.counts.own_faults };
  keeps = keeps_then a b c first.keeps second.keeps;
}

pub falls_then : (j k : Option Job) (f g : List ℕ) (a b c : RoomValue) → StaysOpen j f a b → FallsShut k g b c → FallsShut k g a c
falls_then j k f g a b c first second = record {
  room = second.room ∙ ap (λ (r : RoomState). on (record r { job = k; free = g; lost = c.room.lost; is_shut = true }) c.disk) first.room;
  target = second.target ∙ first.target;
  entry = second.entry ∙ first.entry;
  fails = record {
    faults = subst (λ n. HasRisen n c.disk.faults) first.counts.faults second.fails.faults;
    own_faults = subst (λ n. HasRisen n c.disk.own_faults) first.counts.own_faults second.fails.own_faults;
    no_lower = (subst (λ n. n ≤ c.disk.faults) first.counts.faults second.fails.no_lower.0, subst (λ n. n ≤ c.disk.own_faults) first.counts.own_faults second.fails.no_lower.1);
  };
  loses = second.loses;
  keeps = keeps_then a b c first.keeps second.keeps;
}

-- all regions of a job are lost
pub all_lost : (region_len : ℕ) (job : Job) (lost : List ℕ) → lost ≡ set_of (job_regions (Some job)) → LosesFor region_len (Some job) lost
all_lost region_len job lost is = by job.header
  where
    by : (o : Option Header) → IfSome o (IsLosing region_len job lost)
    by None = tt
    by (Some header) = inr is

pub refuses_then : (j k : Option Job) (f g : List ℕ) (a b c : RoomValue) (fault : MergeFault) → StaysOpen j f a b → RefusesOr k g b c fault → RefusesOr k g a c fault
refuses_then j k f g a b c (merge_fault.Fetch fault) first second = stays_then j k f g a b c first second
refuses_then j k f g a b c (merge_fault.Room room_fault.NoMemory) first second = stays_then j k f g a b c first second
refuses_then j k f g a b c (merge_fault.Room room_fault.Disk) first second = falls_then j k f g a b c first second
refuses_then j k f g a b c (merge_fault.Room (room_fault.Shut epoch)) first second = absurd second

pub steps_then : {A : Type 0} (j k : Option Job) (f g : List ℕ) (a b c : RoomValue) (result : Result A MergeFault) → StaysOpen j f a b → StepsOr k g b c result → StepsOr k g a c result
steps_then j k f g a b c (Ok answer) first second = stays_then j k f g a b c first second
steps_then j k f g a b c (Err fault) first second = refuses_then j k f g a b c fault first second

-- ---- the view

-- the same view, the other way round
pub view_back : (v w : ViewValue) → SameView v w → SameView w v
view_back v w s = record {
  eye = record { number = sym s.eye.number; regions = sym s.eye.regions; region_len = sym s.eye.region_len; told = sym s.eye.told };
  parts = sym s.parts;
  upto = sym s.upto;
  place = (sym s.place.0, sym s.place.1);
  region_len = sym s.region_len;
}

pub same_opened : (v w : ViewValue) → SameView v w → opened w.eye ≡ opened v.eye
same_opened v w same = λ i. record { number = same.eye.number i; regions = set_of (same.eye.regions i); told = same.eye.told i }

-- the view stays on the board, whatever else a step does
pub posted_then : (a b : RoomState) (v w : ViewValue) → b.board ≡ a.board → SameView v w → IsPosted a v → IsPosted b w
posted_then a b v w board same posted =
    ap (λ (bs : List Buffer). slice_get bs (buffer_at w.seat w.buffer)) board
    ∙ ap (λ n. slice_get a.board (buffer_at n w.buffer)) same.place.0
    ∙ ap (λ n. slice_get a.board (buffer_at v.seat n)) same.place.1
    ∙ posted
    ∙ ap (λ (eye : OpenedEye). Some (Some eye)) (sym (same_opened v w same))

-- no read failed so far, and the answer of the next look is that of both
pub looks_then : {A : Type 0} (u v w : ViewValue) (result : Result A MergeFault) → SameView u v → v.eye.faults ≡ u.eye.faults → Looks v w result → Looks u w result
looks_then u v w result same steady looks = record {
  same = same_on u v w same looks.same;
  counts = record {
    rises = λ failed. subst (λ n. HasRisen n w.eye.faults) steady (looks.counts.rises failed);
    no_lower = subst (λ n. n ≤ w.eye.faults) steady looks.counts.no_lower;
    else_same = λ none. looks.counts.else_same none ∙ steady;
  };
}

-- no read failed
pub looks_sound : {A : Type 0} (v w : ViewValue) (result : Result A MergeFault) → SameView v w → w.eye.faults ≡ v.eye.faults
    → (IsErrOf result (merge_fault.Fetch fetch_fault.Failed) → ⊥) → Looks v w result
looks_sound v w result same steady none = record {
  same = same;
  counts = record { rises = λ failed. absurd (none failed); no_lower = omega (arith, steady); else_same = λ _. steady };
}

-- a read was refused
pub looks_refused : {A B : Type 0} (v w : ViewValue) (fault : FetchFault) → SameView v w → CountsFaults (IsErrOf {T = A} (Err fault) fetch_fault.Failed) v.eye w.eye
    → Looks {A = B} v w (Err (merge_fault.Fetch fault))
looks_refused v w fault same counts = record {
  same = same;
  counts = record {
    rises = λ failed. counts.rises cc;
    no_lower = counts.no_lower;
    else_same = λ none. counts.else_same (λ failed. none cc);
  };
}

-- ---- blame

blamed_row : (known known' : Option Image) (m m' : Merger) (place : Place) → known' ≡ known → m'.region_len ≡ m.region_len → older_part m' ≡ older_part m → newer_part m' ≡ newer_part m
    → BlamesRow known m place → BlamesRow known' m' place
blamed_row known known' m m' place told len older newer blames = record {
  node = blames.node;
  is_bad =
      subst (λ k. HasBadRow k m'.region_len (older_part m') blames.node place ⊎ HasBadRow k m'.region_len (newer_part m') blames.node place) (sym told)
      (subst (λ n. HasBadRow known n (older_part m') blames.node place ⊎ HasBadRow known n (newer_part m') blames.node place) (sym len)
      (subst (λ p. HasBadRow known m.region_len p blames.node place ⊎ HasBadRow known m.region_len (newer_part m') blames.node place) (sym older)
      (subst (λ p. HasBadRow known m.region_len (older_part m) blames.node place ⊎ HasBadRow known m.region_len p blames.node place) (sym newer) blames.is_bad)));
}

blamed_entry : (known known' : Option Image) (m m' : Merger) (place : Place) → known' ≡ known → m'.region_len ≡ m.region_len → older_part m' ≡ older_part m → newer_part m' ≡ newer_part m
    → BlamesEntry known m place → BlamesEntry known' m' place
blamed_entry known known' m m' place told len older newer blames = record {
  is_bad =
      subst (λ k. HasBadEntry k m'.region_len (older_part m') place ⊎ HasBadEntry k m'.region_len (newer_part m') place) (sym told)
      (subst (λ n. HasBadEntry known n (older_part m') place ⊎ HasBadEntry known n (newer_part m') place) (sym len)
      (subst (λ p. HasBadEntry known m.region_len p place ⊎ HasBadEntry known m.region_len (newer_part m') place) (sym older)
      (subst (λ p. HasBadEntry known m.region_len (older_part m) place ⊎ HasBadEntry known m.region_len p place) (sym newer) blames.is_bad)));
}

-- so of the view as it was before
pub blames_back : (view view' : ViewValue) (older newer : Part) (fault : MergeFault) → SameView view view' → BlamedBy view' older newer fault → BlamedBy view older newer fault
blames_back view view' older newer (merge_fault.Room fault) same blames = tt
blames_back view view' older newer (merge_fault.Fetch fetch_fault.Failed) same blames = tt
blames_back view view' older newer (merge_fault.Fetch (fetch_fault.BadRow region at)) same blames = (
  blamed_row view'.eye.told view.eye.told (at_front older newer view'.region_len) (at_front older newer view.region_len) (record { region = region; at = at }) (sym same.eye.told) (sym same.region_len) refl refl blames.0,
  λ a b older_told newer_told. blames.1 a b (told_before view' view older a (view_back view view' same) older_told) (told_before view' view newer b (view_back view view' same) newer_told),
)
blames_back view view' older newer (merge_fault.Fetch (fetch_fault.BadIndex region at)) same blames = (
  blamed_entry view'.eye.told view.eye.told (at_front older newer view'.region_len) (at_front older newer view.region_len) (record { region = region; at = at }) (sym same.eye.told) (sym same.region_len) refl refl blames.0,
  λ a b older_told newer_told. blames.1 a b (told_before view' view older a (view_back view view' same) older_told) (told_before view' view newer b (view_back view view' same) newer_told),
)
blames_back view view' older newer (merge_fault.Fetch fetch_fault.NoMemory) same blames = tt

-- what a merger of two parts blames; where the eye tells both, nothing is damaged
pub blamed : (view view' : ViewValue) (m : Merger) (older newer : Part) (fault : FetchFault) → SameView view view' → m.region_len ≡ view.region_len → older_part m ≡ older → newer_part m ≡ newer
    → ((region at : ℕ) → fault ≡ fetch_fault.BadRow region at → BlamesRow view.eye.told m (record { region = region; at = at }))
    → ((region at : ℕ) → fault ≡ fetch_fault.BadIndex region at → BlamesEntry view.eye.told m (record { region = region; at = at }))
    → OfTold view' older newer (λ a b. NoDamage fault) → Blames view' older newer fault
blamed view view' m older newer fetch_fault.Failed same len o n row entry sound = tt
blamed view view' m older newer (fetch_fault.BadRow region at) same len o n row entry sound = (
  blamed_row view.eye.told view'.eye.told m (at_front older newer view'.region_len) (record { region = region; at = at }) same.eye.told (same.region_len ∙ sym len) (sym o) (sym n) (row region at refl),
  sound,
)
blamed view view' m older newer (fetch_fault.BadIndex region at) same len o n row entry sound = (
  blamed_entry view.eye.told view'.eye.told m (at_front older newer view'.region_len) (record { region = region; at = at }) same.eye.told (same.region_len ∙ sym len) (sym o) (sym n) (entry region at refl),
  sound,
)
blamed view view' m older newer fetch_fault.NoMemory same len o n row entry sound = tt

-- ---- a block

pub block_too_long : (header : Header) (block : List ℕ) (value : RoomValue) (job : Job) → IsWhole value → value.room.job ≡ Some job → body_len header < job.written + length block
    → WritesBlock header block value value job job (Ok progress.TooLong)
block_too_long header block value job whole out over = record { room = stays_itself value (Some job) whole out; same = refl; wrote = (over, refl, refl) }

pub block_written : (header : Header) (block : List ℕ) (old new : RoomValue) (job job' : Job) (u : Unit {0}) → job.written + length block ≤ body_len header → Keeps old new
    → WritesOr block old new job job' header (Ok u) → WritesBlock header block old new job job' (Ok progress.Written)
block_written header block old new job job' u fits keeps (is, (opened_room, steps, counts), held) = record {
  room = record {
    room = steps.room ∙ ap (λ (j : Job). on (record old.room { job = Some j }) new.disk) (sym is);
    target = steps.target;
    entry = steps.entry;
    counts = counts;
    keeps = keeps;
  };
  same = is ∙ ap (same_job job) (sym (ap (λ (j : Job). j.written) is));
  wrote = (
    ap (λ (j : Job). j.written) is,
    (let grown = ap (λ (j : Job). j.written) is in omega (arith, grown, fits)),
    ap (held_for new.room.image) is ∙ held,
  );
}

pub block_refused : (header : Header) (block : List ℕ) (old new : RoomValue) (job job' : Job) (fault : RoomFault) → old.room.job ≡ Some job → old.room.is_shut ≡ false → job.header ≡ Some header
    → 1 ≤ length block → Keeps old new
    → WritesOr block old new job job' header (Err fault) → WritesBlock header block old new job job' (Err (merge_fault.Room fault))
block_refused header block old new job job' room_fault.Disk out open_room taken some keeps (is, (opened_room, steps, fails)) = record {
  room = record {
    room = steps.room ∙ (λ i. on (record old.room { job = (out ∙ ap (λ (j : Job). Some j) (sym is)) i; lost = sym (ap (λ (r : RoomState). r.lost) steps.room) i; is_shut = true }) new.disk);
    target = steps.target;
    entry = steps.entry;
    fails = fails;
    loses =
        subst (λ (j : Job). LosesFor new.room.region_len (Some j) new.room.lost) (sym is)
        (subst (λ (o : Option Header). IfSome o (IsLosing new.room.region_len job new.room.lost)) (sym taken)
        (inl (length block, some, ap (λ (r : RoomState). r.lost) steps.room ∙ ap (λ n. set_of (touched n job header (length block))) (sym keeps.becomes.region_len))));
    keeps = keeps;
  };
  same = is ∙ ap (same_job job) (sym (ap (λ (j : Job). j.written) is));
  wrote = is;
}
block_refused header block old new job job' (room_fault.Shut epoch) out open_room taken some keeps (is, (was_shut, which, same)) = absurd (true≢false (sym was_shut ∙ open_room))
block_refused header block old new job job' room_fault.NoMemory out open_room taken some keeps (is, (opened_room, steps, counts), kept) = record {
  room = record {
    room = steps.room ∙ ap (λ (j : Option Job). on (record old.room { job = j }) new.disk) (out ∙ ap (λ (j : Job). Some j) (sym is));
    target = steps.target;
    entry = steps.entry;
    counts = counts;
    keeps = keeps;
  };
  same = is ∙ ap (same_job job) (sym (ap (λ (j : Job). j.written) is));
  wrote = is;
}

-- ---- the next block

-- what an eye tells of the parts of the same job
module _ (view view' : ViewValue) (job job' : Job) (same : SameView view view') (older : job'.older ≡ job.older) (newer : job'.newer ≡ job.newer) where
  pub of_same : (P : List Row → List Row → Type 0) → OfTold view job.older job.newer P → OfTold view' job'.older job'.newer P
  of_same P of_told a b older_told newer_told =
      of_told a b (told_before view view' job.older a same (subst (λ p. EyeTells view' p a) older older_told)) (told_before view view' job.newer b same (subst (λ p. EyeTells view' p b) newer newer_told))

pub next_ended : (header : Header) (value : RoomValue) (view view' : ViewValue) (blocks blocks' : BlocksValue) (job : Job) → IsWhole value → value.room.job ≡ Some job
    → SameView view view' → view'.eye.faults ≡ view.eye.faults → ((handed : List ℕ) (a b : List Row) → IsAhead view.eye blocks handed a b → Gives view'.eye blocks' handed a b false)
    → ((start : Merger) (handed : List ℕ) → IsJoined view.eye.told start blocks handed → GivesJoined view.eye.told start blocks' handed false)
    → IsWriting value view blocks job → WritesNext header value value view view' blocks' job job (Ok progress.Ended)
next_ended header value view view' blocks blocks' job whole out same steady ends joined was = record {
  room = stays_itself value (Some job) whole out;
  looks = looks_sound view view' (Ok progress.Ended) same steady (λ failed. cc);
  same = refl;
  next = let body = blocks_end value view view' blocks job same ends was.between in (body.0, body.1, joining_ends value view view' blocks job same joined was.joining);
  left = (refl, refl);
}

-- a block was taken through the view, and no read failed
pub record Takes (view view' : ViewValue) (blocks blocks' : BlocksValue) : Type 0 where
  pub same : SameView view view'
  pub steady : view'.eye.faults ≡ view.eye.faults
  pub alike : SameBlocks blocks blocks'
  pub kept : AreKept view.eye.told blocks'.merger
  pub some : 1 ≤ length blocks'.block
  pub gives : (handed : List ℕ) (a b : List Row) → IsAhead view.eye blocks handed a b → IsAhead view'.eye blocks' (handed ++ blocks'.block) a b
  pub joined : (start : Merger) (handed : List ℕ) → IsJoined view.eye.told start blocks handed → IsJoined view.eye.told start blocks' (handed ++ blocks'.block)

pub next_written : (header : Header) (old new : RoomValue) (view view' : ViewValue) (blocks blocks' : BlocksValue) (job job' : Job) (result : Result Progress MergeFault) → Takes view view' blocks blocks'
    → IsWriting old view blocks job → WritesBlock header blocks'.block old new job job' result → WritesNext header old new view view' blocks' job job' result
next_written header old new view view' blocks blocks' job job' (Ok progress.Written) takes was done = record {
  room = done.room;
  looks = looks_sound view view' (Ok progress.Written) takes.same takes.steady (λ failed. cc);
  same = done.same;
  next = (
    (let some = takes.some in let grown = done.wrote.0 in omega (arith, some, grown)),
    done.wrote.1,
    record {
      older = takes.alike.older ∙ was.older ∙ sym (ap (λ (j : Job). j.older) done.same);
      newer = takes.alike.newer ∙ was.newer ∙ sym (ap (λ (j : Job). j.newer) done.same);
      region_len = takes.alike.region_len ∙ was.region_len ∙ sym takes.same.region_len;
      few = (let most = takes.alike.most in let few = was.few in let len = done.room.keeps.becomes.region_len in omega (arith, most, few, len));
      kept = subst (λ told. AreKept told blocks'.merger) (sym takes.same.eye.told) takes.kept;
      between = blocks_go_on old new view view' blocks blocks' job job' takes.same (ap (λ (j : Job). j.older) done.same) (ap (λ (j : Job). j.newer) done.same) done.wrote.0 takes.gives done.wrote.2 was.between;
      joining = joining_goes_on old new view view' blocks blocks' job job' takes.same (ap (λ (j : Job). j.older) done.same) (ap (λ (j : Job). j.newer) done.same) done.wrote.0 takes.joined done.wrote.2 was.joining;
    },
  );
  left = tt;
}
next_written header old new view view' blocks blocks' job job' (Ok progress.TooLong) takes was done = record {
  room = done.room;
  looks = looks_sound view view' (Ok progress.TooLong) takes.same takes.steady (λ failed. cc);
  same = done.same;
  next = of_same view view' job job' takes.same (ap (λ (j : Job). j.older) done.same) (ap (λ (j : Job). j.newer) done.same) (λ a b. body_len header < cost (merged a b))
      (λ a b older_told newer_told.
      let before = was.between a b older_told newer_told in
      let most = handed_len view'.eye blocks' (before.0 ++ blocks'.block) a b (takes.gives before.0 a b before.1) in
      let over = done.wrote.0 in
      let counted = before.3 in
      omega (arith, most, over, counted, length-append before.0 blocks'.block));
  left = (done.wrote.1, done.wrote.2);
}
next_written header old new view view' blocks blocks' job job' (Ok progress.Ended) takes was done = absurd done.wrote
next_written header old new view view' blocks blocks' job job' (Err (merge_fault.Room fault)) takes was done = record {
  room = done.room;
  looks = looks_sound view view' (Err (merge_fault.Room fault)) takes.same takes.steady (λ failed. cc);
  same = done.same;
  next = tt;
  left = done.wrote;
}
next_written header old new view view' blocks blocks' job job' (Err (merge_fault.Fetch fault)) takes was done = absurd done.wrote

pub next_refused : (header : Header) (value : RoomValue) (view view' : ViewValue) (blocks blocks' : BlocksValue) (job : Job) (fault : FetchFault) → IsWhole value → value.room.job ≡ Some job
    → SameView view view' → CountsFaults (IsErrOf {T = Bool} (Err fault) fetch_fault.Failed) view.eye view'.eye
    → ((region at : ℕ) → fault ≡ fetch_fault.BadRow region at → BlamesRow view.eye.told blocks.merger (record { region = region; at = at }))
    → ((region at : ℕ) → fault ≡ fetch_fault.BadIndex region at → BlamesEntry view.eye.told blocks.merger (record { region = region; at = at }))
    → ((handed : List ℕ) (a b : List Row) → IsAhead view.eye blocks handed a b → NoDamage fault)
    → IsWriting value view blocks job → WritesNext header value value view view' blocks' job job (Err (merge_fault.Fetch fault))
next_refused header value view view' blocks blocks' job fault whole out same counts row entry sound was = record {
  room = stays_itself value (Some job) whole out;
  looks = looks_refused {A = Bool} {B = Progress} view view' fault same counts;
  same = refl;
  next = blamed view view' blocks.merger job.older job.newer fault same was.region_len was.older was.newer row entry
      (of_same view view' job job same refl refl (λ a b. NoDamage fault) (λ a b older_told newer_told. let before = was.between a b older_told newer_told in sound before.0 a b before.1));
  left = refl;
}

-- ---- while others have turns

pub turns_last : TurnsLast
turns_last view blocks job old new len out keeps was = record {
  older = was.older;
  newer = was.newer;
  region_len = was.region_len;
  few = (let few = was.few in omega (arith, few, len));
  kept = was.kept;
  between = writing_lasts.0 view blocks job old new out keeps was.between;
  joining = joining_lasts.0 view blocks job old new out keeps was.joining;
}

-- ---- all blocks

-- so far the body is written, and nothing was refused
pub record Writing (header : Header) (old new : RoomValue) (view view' : ViewValue) (blocks' : BlocksValue) (job job' : Job) : Type 0 where
  pub room : StaysOpen (Some job') old.room.free old new
  pub unmoved : SameView view view'
  pub steady : view'.eye.faults ≡ view.eye.faults
  pub same : job' ≡ same_job job job'.written
  pub within : job'.written ≤ body_len header
  pub writing : IsWriting new view' blocks' job'

pub none_written : (header : Header) (value : RoomValue) (view : ViewValue) (blocks : BlocksValue) (job : Job) → IsWhole value → value.room.job ≡ Some job → job.written ≤ body_len header → IsWriting value view blocks job
    → Writing header value value view view blocks job job
none_written header value view blocks job whole out within writing =
    record { room = stays_itself value (Some job) whole out; unmoved = same_itself view; steady = refl; same = refl; within = within; writing = writing }

module _ (header : Header) (old mid new : RoomValue) (view seen view' : ViewValue) (blocks blocks' : BlocksValue) (job before job' : Job) where
  one_more : {A : Type 0} (result : Result A MergeFault) → Writing header old mid view seen blocks job before → StepsOr (Some job') mid.room.free mid new result → StepsOr (Some job') old.room.free old new result
  one_more result so_far next =
      subst (λ free. StepsOr (Some job') free old new result) (ap (λ (r : RoomState). r.free) so_far.room.room)
      (steps_then (Some before) (Some job') old.room.free mid.room.free old mid new result so_far.room next)

  still : Writing header old mid view seen blocks job before → job' ≡ same_job before job'.written → job' ≡ same_job job job'.written
  still so_far same = same ∙ ap (λ (j : Job). same_job j job'.written) so_far.same

  pub more_written : Writing header old mid view seen blocks job before → WritesNext header mid new seen view' blocks' before job' (Ok progress.Written) → Writing header old new view view' blocks' job job'
  more_written so_far next = record {
    room = one_more (Ok progress.Written) so_far next.room;
    unmoved = same_on view seen view' so_far.unmoved next.looks.same;
    steady = next.looks.counts.else_same (λ failed. cc) ∙ so_far.steady;
    same = still so_far next.same;
    within = next.next.1;
    writing = next.next.2;
  }

  pub all_written : (is_whole : Bool) → (is_whole ≡ true → job'.written ≡ body_len header) → (is_whole ≡ false → job'.written ≡ body_len header → ⊥)
      → Writing header old mid view seen blocks job before → WritesNext header mid new seen view' blocks' before job' (Ok progress.Ended) → WritesAll header old new view view' job job' (Ok is_whole)
  all_written is_whole total less so_far next = record {
    room = one_more (Ok is_whole) so_far next.room;
    looks = looks_sound view view' (Ok is_whole) (same_on view seen view' so_far.unmoved next.looks.same) (next.looks.counts.else_same (λ failed. cc) ∙ so_far.steady) (λ failed. cc);
    same = still so_far next.same;
    all = by is_whole total less;
  }
    where
      by : (is_whole : Bool) → (is_whole ≡ true → job'.written ≡ body_len header) → (is_whole ≡ false → job'.written ≡ body_len header → ⊥) → AllOr header new view' job job' (Ok is_whole)
      by true total less = (next.next.0, total refl, next.next.2)
      by false total less = λ a b older_told newer_told is. less refl (next.next.1 a b older_told newer_told ∙ is)

  pub too_long : Writing header old mid view seen blocks job before → WritesNext header mid new seen view' blocks' before job' (Ok progress.TooLong) → WritesAll header old new view view' job job' (Ok false)
  too_long so_far next = record {
    room = one_more (Ok false) so_far next.room;
    looks = looks_sound view view' (Ok false) (same_on view seen view' so_far.unmoved next.looks.same) (next.looks.counts.else_same (λ failed. cc) ∙ so_far.steady) (λ failed. cc);
    same = still so_far next.same;
    all = λ a b older_told newer_told is. (let over = next.next a b older_told newer_told in omega (arith, over, is));
  }

  pub not_written : (fault : MergeFault) → Writing header old mid view seen blocks job before → WritesNext header mid new seen view' blocks' before job' (Err fault) → WritesAll header old new view view' job job' (Err fault)
  not_written fault so_far next = record {
    room = one_more {A = Bool} (Err fault) so_far next.room;
    looks = looks_then';
    same = still so_far next.same;
    all = subst (λ p. BlamedBy view' p job.newer fault) (ap (λ (j : Job). j.older) so_far.same) (subst (λ p. BlamedBy view' before.older p fault) (ap (λ (j : Job). j.newer) so_far.same) next.next);
  }
    where
      looks_then' : Looks {A = Bool} view view' (Err fault)
      looks_then' = looks_then view seen view' (Err fault) so_far.unmoved so_far.steady (record { same = next.looks.same; counts = record { rises = λ failed. next.looks.counts.rises cc; no_lower = next.looks.counts.no_lower; else_same = λ none. next.looks.counts.else_same (λ failed. none cc) } })

-- ---- the first block

-- regions are long
pub long_regions : (value : RoomValue) → IsWhole value → 4096 ≤ value.room.region_len
long_regions value whole = (let low = whole.geometry.len_low in let len = ap (λ (r : RoomState). r.region_len) whole.of_disk in omega (arith, low, len))

pub begins : (value : RoomValue) (view : ViewValue) (blocks : BlocksValue) (job : Job) (region_len most : ℕ) → IsOut value view → Contains view.parts job.older → Contains view.parts job.newer
    → job.written ≡ 0 → region_len ≡ value.room.region_len → most < region_len → IsAtStart job.older job.newer region_len most blocks → ((known : Option Image) → AreKept known blocks.merger)
    → ((eye : Eye) (a b : List Row) → TellsPart eye job.older a → TellsPart eye job.newer b → rows_len (merged a b) < 4294967296 → IsAhead eye blocks [] a b)
    → ((known : Option Image) → IsJoined known (at_front job.older job.newer region_len) blocks []) → IsWriting value view blocks job
begins value view blocks job region_len most out has_older has_newer none is_len few at kept ahead joined = record {
  older = ap older_part at.merger;
  newer = ap newer_part at.merger;
  region_len = ap (λ (m : Merger). m.region_len) at.merger ∙ is_len ∙ sym out.region_len;
  few = (let most_is = at.most_is in omega (arith, most_is, few, is_len));
  kept = kept view.eye.told;
  between = blocks_begin value view blocks job out has_older has_newer none ahead;
  joining = joining_begins value view blocks job region_len out none (is_len ∙ sym out.region_len) joined;
}

pub none_allocated : (header : Header) (value : RoomValue) (view : ViewValue) (job : Job) → IsWhole value → value.room.job ≡ Some job → WritesAll header value value view view job job (Err (merge_fault.Room room_fault.NoMemory))
none_allocated header value view job whole out = record {
  room = stays_itself value (Some job) whole out;
  looks = looks_sound view view (Err (merge_fault.Room room_fault.NoMemory)) (same_itself view) refl (λ failed. cc);
  same = refl;
  all = tt;
}

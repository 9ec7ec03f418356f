-- From the board and the view to a body that is written out.
use Rattle.std.proofs.Common.{◌≡◌, ℕ, ◌<◌, List, [], ◌∷◌, ◌++◌, length, length-append, Some, None, refl, sym, ap, subst, ◌∙◌, arith}
use Rattle.std.specs.Prelude.{Option, Contains, option_map}
use Rattle.std.specs.List.{AllByRecursion}
use Rattle.std.proofs.lemmas.List.Elements.{All-contains, All-from_recursion}
use Rattle.fine_model.specs.declared.Header.{Header}
use Rattle.fine_model.specs.declared.Job.{Job}
use Rattle.fine_model.specs.declared.Part.{Part}
use Rattle.fine_model.specs.declared.Row.{Row}
use Rattle.fine_model.specs.Boards.{buffer_at, set_of}
use Rattle.fine_model.specs.Chain.{regions_of}
use Rattle.fine_model.specs.Jobs.{held_by, held_for}
use Rattle.fine_model.specs.Merge.{cost, merged}
use Rattle.fine_model.proofs.Chain.Grammar.{rows_long}
use Rattle.fine_model.specs.Regions.{Image, body_bytes, index_bytes}
use Rattle.fine_model.specs.RowBytes.{rows_bytes, rows_len}
use Rattle.fine_model.specs.Views.{SameSeen, TellsRowsOf}
use Rattle.fine_model.proofs.Chain.Owning.{tells_alike}
use Rattle.log_partition.proofs.Indexed.{index_long}
use Rattle.partition_index.specs.Parts.{IsSeen}
use Rattle.partition_index.specs.Search.{TellsRows as TellsPart}
use Rattle.partition_merge.specs.declared.merger.Measure.{Measure}
use Rattle.partition_merge.specs.Joined.{IsJoined, IsJoinedBody}
use Rattle.partition_merge.specs.Mergers.{at_front, measure_of}
use Rattle.partition_merge.proofs.Lengths.{merged_small}
use Rattle.partition_hold.specs.Views.{IsView, SameView, ViewValue, opened}
use Rattle.partition_hold.proofs.ViewLemmas.{view_names, view_part}
use Rattle.epoch_room.proofs.Views.Boarding.{board_shows}
use Rattle.room_merges.specs.Merging.{BlocksBegin, BlocksEnd, BlocksGoOn, BodyIsWritten, EyeTells, JoiningBegins, JoiningEnds, JoiningGoesOn, JoiningLasts, MeasureIsTold, OfTold, ShownByEye, WritingLasts, merger_of}

pub shown_by_eye : ShownByEye
shown_by_eye value view p rows out there tells =
    let shows = board_shows value (buffer_at view.seat view.buffer) (opened view.eye) out.whole out.posted in
    let named : AllByRecursion (Contains (set_of view.eye.regions)) (regions_of p) =
    All-contains (λ (q : Part). AllByRecursion (Contains (set_of view.eye.regions)) (regions_of q)) view.parts p (All-from_recursion _ view.parts (view_names view out.is_view)) there in
    subst (λ n. TellsRowsOf view.eye.told n (p ∷ []) rows) (sym out.region_len)
    (tells_alike (set_of view.eye.regions) value.room.image view.eye.told value.room.region_len (p ∷ []) rows shows (named, tt) tells)

seen_part : (view : ViewValue) (p : Part) → IsView view → Contains view.parts p → IsSeen view.eye p
seen_part view p is there = All-contains (IsSeen view.eye) view.parts p (All-from_recursion _ view.parts is.seen) there

-- what is exact wherever the eye tells both parts of a view, and their merged rows have fewer than 2^32 bytes
pub told_of : (view : ViewValue) (older newer : Part) (P : List Row → List Row → Type 0) → IsView view → Contains view.parts older → Contains view.parts newer
    → ((a b : List Row) → TellsPart view.eye older a → TellsPart view.eye newer b → rows_len (merged a b) < 4294967296 → P a b) → OfTold view older newer P
told_of view older newer P is has_older has_newer exact a b older_told newer_told =
    let p = view_part view older a is older_told in
    let q = view_part view newer b is newer_told in
    exact a b p q (merged_small view.eye older newer a b (seen_part view older is has_older) (seen_part view newer is has_newer) p q)

pub measure_is_told : MeasureIsTold
measure_is_told view older newer measure is has_older has_newer exact = told_of view older newer (λ a b. measure ≡ measure_of (merged a b)) is has_older has_newer exact

-- where an eye tells its bytes, so does the disk
image_told : (regions : List ℕ) (known told : Option Image) (image : Image) → SameSeen regions known told → told ≡ Some image → (shown : Image) × (known ≡ Some shown)
image_told regions (Some shown) told image same is = (shown, refl)
image_told regions None None image same is = absurd cc
image_told regions None (Some other) image same is = absurd same

none_held : (known : Option Image) (shown : Image) (job : Job) → known ≡ Some shown → job.written ≡ 0 → (held : List ℕ) × (held_for known job ≡ Some held) × (held ≡ [])
none_held known shown job is none = (
  held_by shown job.target job.written job.header,
  ap (λ k. held_for k job) is,
  ap (λ n. held_by shown job.target n job.header) none ∙ by job.header,
)
  where
    by : (header : Option Header) → held_by shown job.target 0 header ≡ []
    by None = refl
    by (Some header) = refl

pub blocks_begin : BlocksBegin
blocks_begin value view blocks job out has_older has_newer none ahead a b older_told newer_told =
    let p = view_part view job.older a out.is_view older_told in
    let q = view_part view job.newer b out.is_view newer_told in
    let small = merged_small view.eye job.older job.newer a b (seen_part view job.older out.is_view has_older) (seen_part view job.newer out.is_view has_newer) p q in
    let shows = board_shows value (buffer_at view.seat view.buffer) (opened view.eye) out.whole out.posted in
    let shown = image_told (set_of view.eye.regions) value.room.image view.eye.told older_told.image shows older_told.is_told in
    let held = none_held value.room.image shown.0 job shown.1 none in
    ([], ahead view.eye a b p q small, held.1 ∙ ap (λ bytes. Some bytes) held.2, sym none)

-- what the eye of a view tells, it told before
pub told_before : (view view' : ViewValue) (p : Part) (rows : List Row) → SameView view view' → EyeTells view' p rows → EyeTells view p rows
told_before view view' p rows same tells =
    subst (λ n. TellsRowsOf view.eye.told n (p ∷ []) rows) same.region_len (subst (λ told. TellsRowsOf told view'.region_len (p ∷ []) rows) same.eye.told tells)

pub blocks_go_on : BlocksGoOn
blocks_go_on old new view view' blocks blocks' job job' same older newer more gives held between a b older_told newer_told =
    let was = between a b
    (told_before view view' job.older a same (subst (λ p. EyeTells view' p a) older older_told))
    (told_before view view' job.newer b same (subst (λ p. EyeTells view' p b) newer newer_told)) in (
      was.0 ++ blocks'.block,
      gives was.0 a b was.1,
      held ∙ ap (λ h. option_map (λ bytes. bytes ++ blocks'.block) h) was.2,
      omega (arith, length-append was.0 blocks'.block, was.3, more),
    )

body_long : (rows : List Row) → length (body_bytes rows) ≡ cost rows
body_long rows = omega (arith, length-append (rows_bytes rows) (index_bytes rows), rows_long rows, index_long rows)

pub blocks_end : BlocksEnd
blocks_end value view view' blocks job same ends between = (
  λ a b older_told newer_told.
      let was = between a b (told_before view view' job.older a same older_told) (told_before view view' job.newer b same newer_told) in
      was.2 ∙ ap (λ bytes. Some bytes) (ends was.0 a b was.1),
  λ a b older_told newer_told.
      let was = between a b (told_before view view' job.older a same older_told) (told_before view view' job.newer b same newer_told) in
      sym was.3 ∙ ap length (ends was.0 a b was.1) ∙ body_long (merged a b),
)

-- ---- whatever is read

pub joining_begins : JoiningBegins
joining_begins value view blocks job region_len out none len joined image told =
    let shows = board_shows value (buffer_at view.seat view.buffer) (opened view.eye) out.whole out.posted in
    let shown = image_told (set_of view.eye.regions) value.room.image view.eye.told image shows told in
    let held = none_held value.room.image shown.0 job shown.1 none in
    ([], subst (λ n. IsJoined (Some image) (at_front job.older job.newer n) blocks []) len (joined (Some image)), (held.1 ∙ ap (λ bytes. Some bytes) held.2, sym none))

pub joining_goes_on : JoiningGoesOn
joining_goes_on old new view view' blocks blocks' job job' same older newer more gives held joining image told =
    let before : view.eye.told ≡ Some image = sym same.eye.told ∙ told in
    let was = joining image before in
    let start : merger_of view job ≡ merger_of view' job' = λ i. at_front (sym older i) (sym newer i) (sym same.region_len i) in
    let next : IsJoined (Some image) (merger_of view job) blocks' (was.0 ++ blocks'.block) =
    subst (λ known. IsJoined known (merger_of view job) blocks' (was.0 ++ blocks'.block)) before
    (gives (merger_of view job) was.0 (subst (λ known. IsJoined known (merger_of view job) blocks was.0) (sym before) was.1)) in (
      was.0 ++ blocks'.block,
      subst (λ m. IsJoined (Some image) m blocks' (was.0 ++ blocks'.block)) start next,
      (held ∙ ap (λ h. option_map (λ bytes. bytes ++ blocks'.block) h) was.2.0, (let long = was.2.1 in omega (arith, length-append was.0 blocks'.block, long, more))),
    )

pub joining_ends : JoiningEnds
joining_ends value view view' blocks job same ends joining image told =
    let before : view.eye.told ≡ Some image = sym same.eye.told ∙ told in
    let was = joining image before in
    let start : merger_of view job ≡ merger_of view' job = λ i. at_front job.older job.newer (sym same.region_len i) in
    let all : IsJoinedBody (Some image) (merger_of view job) was.0 =
    subst (λ known. IsJoinedBody known (merger_of view job) was.0) before (ends (merger_of view job) was.0 (subst (λ known. IsJoined known (merger_of view job) blocks was.0) (sym before) was.1)) in
    (was.0, subst (λ m. IsJoinedBody (Some image) m was.0) start all, was.2)

-- ---- while others have turns

pub writing_lasts : WritingLasts
writing_lasts = (
  λ view blocks job old new out keeps between a b older_told newer_told.
      let was = between a b older_told newer_told in (was.0, was.1, keeps.held job out ∙ was.2, was.3),
  λ view job old new out keeps holds a b older_told newer_told. keeps.held job out ∙ holds a b older_told newer_told,
)

pub joining_lasts : JoiningLasts
joining_lasts = (
  λ view blocks job old new out keeps joining image told.
      let was = joining image told in (was.0, was.1, (keeps.held job out ∙ was.2.0, was.2.1)),
  λ view job old new out keeps joined image told.
      let was = joined image told in (was.0, was.1, (keeps.held job out ∙ was.2.0, was.2.1)),
)

pub body_is_written : BodyIsWritten
body_is_written value view job header measure out has_older has_newer counts ordered measures holds a b a_told b_told =
    let older_told = shown_by_eye value view job.older a out has_older a_told in
    let newer_told = shown_by_eye value view job.newer b out has_newer b_told in
    let is = measures a b older_told newer_told in
    record {
      ordered = sym (ap (λ (m : Measure). m.ordered) is) ∙ ordered;
      written = subst (λ image. held_for image job ≡ Some (body_bytes (merged a b))) a_told.is_told (holds a b older_told newer_told);
      rows = counts.rows ∙ ap (λ (m : Measure). m.rows) is;
      nodes = counts.nodes ∙ ap (λ (m : Measure). m.nodes) is;
      area = counts.area ∙ ap (λ (m : Measure). m.area) is;
    }

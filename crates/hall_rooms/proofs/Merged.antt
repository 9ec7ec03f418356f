-- A turn in which the first neighbours that fit are merged.
use Rattle.std.proofs.Common.{◌≡◌, inl, inr, ⊎_elim, ℕ, ◌≤◌, Bool, true, false, List, [], ◌∷◌, drop, Option, Some, None, Result, Ok, Err, refl, sym, ap, ◌∙◌, subst, arith}
use Rattle.std.specs.Prelude.{Contains, slice_get, slice_set}
use Rattle.fine_model.specs.declared.FetchFault.TheVariants as fetch_fault
use Rattle.fine_model.specs.declared.Job.{Job}
use Rattle.fine_model.specs.declared.law.RoomState.{RoomState}
use Rattle.fine_model.specs.Boards.{Buffer, buffer_at}
use Rattle.fine_model.specs.Buckets.{Began}
use Rattle.fine_model.specs.ChainLaws.{part_of}
use Rattle.fine_model.specs.Faults.{HasRisen}
use Rattle.fine_model.specs.History.{Commit}
use Rattle.fine_model.specs.Jobs.{KeepsJob}
use Rattle.fine_model.specs.Views.{TellsRowsOf}
use Rattle.fine_model.specs.declared.Part.{Part}
use Rattle.fine_model.specs.declared.Row.{Row}
use Rattle.partition_hold.specs.Views.{IsView, SameView, ViewValue, opened, state_of}
use Rattle.epoch_room.specs.Meaning.{Stands}
use Rattle.epoch_room.specs.MergeSealing.{merged_state, replaced, retire}
use Rattle.epoch_room.specs.MergeSteps.{neighbours_from}
use Rattle.epoch_room.specs.Returns.{IsPosted}
use Rattle.epoch_room.specs.Value.{RoomValue}
use Rattle.epoch_room.specs.Whole.{IsWhole}
use Rattle.epoch_room.specs.declared.answers.RoomFault.{RoomFault}
use Rattle.epoch_room.specs.declared.answers.RoomFault.TheVariants as room_fault
use Rattle.epoch_room.proofs.OpenEpochs.Behind.{keeps_none}
use Rattle.epoch_room.proofs.Joining.{keeps_then}
use Rattle.epoch_room.proofs.Views.Viewing.{empty_is}
use Rattle.room_merges.specs.declared.fault.MergeFault.{MergeFault}
use Rattle.room_merges.specs.declared.fault.MergeFault.TheVariants as merge_fault
use Rattle.room_merges.specs.Merging.{EyeTells, IsOut, OfTold}
use Rattle.room_merges.specs.Near.{NoneFitNow, StandIn, TriesAll}
use Rattle.room_merges.specs.Pairs.{header_for, job_for}
use Rattle.room_merges.proofs.Chained.{shown_by_eye, told_before}
use Rattle.room_merges.proofs.Nearing.{has_newer, has_older, regions_same}
use Rattle.room_merges.proofs.PartRows.{own_told}
use Rattle.room_merges.proofs.Through.{none_fits, still_posted, tries_rest}
use Rattle.room_merges.proofs.Working.{view_back}
use Rattle.fine_hall.specs.declared.law.Beginning.{Beginning}
use Rattle.fine_hall.specs.Passes.{LacksJob}
use Rattle.fine_hall.specs.Halls.{GivesRoom, TakesRoom}
use Rattle.hall_rooms.specs.Rooms.{RoomPass, room_log}
use Rattle.hall_rooms.specs.Boards.{TakesBackAll}
use Rattle.hall_rooms.specs.Views.{MakesView, MakesViewOr}
use Rattle.hall_rooms.specs.Steps.{BeginsTurn, InTurn, IsCleanTurn, Rises}
use Rattle.hall_rooms.specs.Turning.{MeetsNone, MeetsSome, NotBegan}
use Rattle.hall_rooms.specs.Merging.{Failing, LeavesBoard, MergesNext, MergesNextOr, MergesThroughOr, OnDamage, SameChain, StandsForNone}
use Rattle.hall_rooms.proofs.Naming.{set_back, set_there}
use Rattle.hall_rooms.proofs.GivenBack.{met_none, met_some}
use Rattle.hall_rooms.proofs.Renewing.{turns_none}
use Rattle.hall_rooms.proofs.Turned.{epochs_stay, goes, risen, rises, some_failed}

-- ---- a view that is made for it

-- the view stands on the board of the room on which it was made, and is out
module _ (old made : RoomValue) (view : ViewValue) (m : MakesView old made 1 view) where
  was_empty : slice_get old.room.board (buffer_at 1 view.buffer) ≡ Some None
  was_empty = empty_is old.room.board 1 view.buffer m.buffer

  pub posted_there : IsPosted made.room view
  posted_there =
      ap (λ n. slice_get made.room.board (buffer_at n view.buffer)) m.of_seat
      ∙ (ap (λ l. slice_get l (buffer_at 1 view.buffer)) m.board ∙ set_there old.room.board (buffer_at 1 view.buffer) None (Some (opened view.eye)) was_empty)

  pub made_open : made.room.is_shut ≡ false
  made_open = ap (λ (r : RoomState). r.is_shut) m.room ∙ m.not_shut

  pub made_len : view.region_len ≡ made.room.region_len
  made_len = m.region_len ∙ sym (ap (λ (r : RoomState). r.region_len) m.room)

  -- once it is taken back, the board is as it was
  emptied : (seen : ViewValue) → SameView view seen → (board : List Buffer) → board ≡ made.room.board → slice_set board (buffer_at seen.seat seen.buffer) None ≡ old.room.board
  emptied seen same board is =
      (λ i. slice_set ((is ∙ m.board) i) (buffer_at ((same.place.0 ∙ m.of_seat) i) (same.place.1 i)) None)
      ∙ set_back old.room.board (buffer_at 1 view.buffer) None (Some (opened view.eye)) was_empty

-- ---- what merging neighbours leaves

pub any_leaves : (from : ℕ) (made tried : RoomValue) (view seen : ViewValue) (r : Result Bool MergeFault) → TriesAll from made tried view seen r → LeavesBoard made tried
any_leaves from made tried view seen r tries =
    let s = tries_rest from made tried view seen r tries in
    record { entry = s.entry; keeps = s.keeps; no_job = s.job; places = s.places; board = s.board; epochs = (s.sealed, s.waiting) }

-- no call of the disk failed
as_often : (state : RoomState) (old new : RoomValue) → IsWhole old → new.room ≡ state → state.faults ≡ new.disk.faults → new.disk.faults ≡ old.disk.faults → new.room.faults ≡ old.room.faults
as_often state old new whole is count same = ap (λ (r : RoomState). r.faults) is ∙ (count ∙ (same ∙ sym (ap (λ (r : RoomState). r.faults) whole.of_disk)))

-- some did
more_often : (state : RoomState) (old new : RoomValue) → IsWhole old → new.room ≡ state → state.faults ≡ new.disk.faults → HasRisen old.disk.faults new.disk.faults → Rises old.room new.room
more_often state old new whole is count up =
    rises old new (subst (λ n. HasRisen n new.room.faults) (sym (ap (λ (r : RoomState). r.faults) whole.of_disk)) (subst (HasRisen old.disk.faults) (sym (ap (λ (r : RoomState). r.faults) is ∙ count)) up))

-- ---- the view was made, neighbours were tried, and it was taken back

module _ (from : ℕ) (old made tried new : RoomValue) (view seen : ViewValue) (makes : MakesView old made 1 view) (whole : IsWhole made) (back : TakesBackAll seen.eye.faults tried new) where
  made_faults : made.room.faults ≡ old.room.faults
  made_faults = ap (λ (r : RoomState). r.faults) makes.room

  -- ---- faults

  steady : seen.eye.faults ≡ view.eye.faults → tried.room.faults ≡ made.room.faults → new.room.faults ≤ old.room.faults
  steady same none = let h = back.high in let c = makes.clean in let f = made_faults in omega (arith, h, c, f, same, none)

  read_failed : HasRisen view.eye.faults seen.eye.faults → made.room.faults ≤ tried.room.faults → Rises old.room new.room
  read_failed up least = ⊎_elim
      (λ more. ⊎_elim (λ low. inl (let f = made_faults in omega (arith, more, low, f, least))) (λ last. inr last) back.low)
      (λ full. ⊎_elim (λ low. inr (omega (arith, full, low))) (λ last. inr last) back.low)
      (risen view.eye.faults seen.eye.faults up)

  call_failed : Rises made.room tried.room → Rises old.room new.room
  call_failed up = let least = back.keeps.becomes.faults in let f = made_faults in ⊎_elim (λ more. inl (omega (arith, more, least, f))) (λ last. inr (omega (arith, last, least))) up

  pub counted : (r : Result Bool MergeFault) → TriesAll from made tried view seen r → Failing r (Rises old.room new.room) (new.room.faults ≤ old.room.faults)
  counted (Ok true) t = let m = t.room.2 in steady (t.looks.counts.else_same (λ e. cc)) (as_often _ made tried whole m.merges.room.1.room refl (m.merges.room.2.faults ∙ m.stays.counts.faults))
  counted (Ok false) t = steady (t.looks.counts.else_same (λ e. cc)) (as_often _ made tried whole t.room.0.room refl t.room.0.counts.faults)
  counted (Err (merge_fault.Fetch fetch_fault.Failed)) t = read_failed (t.looks.counts.rises refl) t.room.0.keeps.becomes.faults
  counted (Err (merge_fault.Fetch (fetch_fault.BadRow region at))) t = steady (t.looks.counts.else_same (λ e. cc)) (as_often _ made tried whole t.room.0.room refl t.room.0.counts.faults)
  counted (Err (merge_fault.Fetch (fetch_fault.BadIndex region at))) t = steady (t.looks.counts.else_same (λ e. cc)) (as_often _ made tried whole t.room.0.room refl t.room.0.counts.faults)
  counted (Err (merge_fault.Fetch fetch_fault.NoMemory)) t = steady (t.looks.counts.else_same (λ e. cc)) (as_often _ made tried whole t.room.0.room refl t.room.0.counts.faults)
  counted (Err (merge_fault.Room room_fault.NoMemory)) t = steady (t.looks.counts.else_same (λ e. cc)) (as_often _ made tried whole t.room.room refl t.room.counts.faults)
  counted (Err (merge_fault.Room room_fault.Disk)) t = call_failed (more_often _ made tried whole t.room.0.room refl t.room.0.fails.faults)
  counted (Err (merge_fault.Room (room_fault.Shut epoch))) t = absurd t.room

  -- ---- the whole step

  pub leaves : SameView view seen → LeavesBoard made tried → new.room.board ≡ slice_set tried.room.board (buffer_at seen.seat seen.buffer) None → LeavesBoard old new
  leaves same l board = record {
    entry = back.entry ∙ (l.entry ∙ makes.leaves.entry);
    keeps = keeps_then old made new makes.leaves.keeps (keeps_then made tried new l.keeps back.keeps);
    no_job = ap (λ (r : RoomState). r.job) back.room ∙ l.no_job;
    places = ap (λ (r : RoomState). r.places) back.room ∙ (l.places ∙ ap (λ (r : RoomState). r.places) makes.room);
    board = board ∙ emptied old made view makes seen same tried.room.board l.board;
    epochs = (
      ap (λ (r : RoomState). r.sealed) back.room ∙ (l.epochs.0 ∙ ap (λ (r : RoomState). r.sealed) makes.room),
      ap (λ (r : RoomState). r.waiting) back.room ∙ (l.epochs.1 ∙ ap (λ (r : RoomState). r.waiting) makes.room),
    );
  }

  open_still : tried.room.is_shut ≡ false → (old.room.is_shut ≡ false) × (new.room.is_shut ≡ false)
  open_still unshut = (makes.not_shut, ap (λ (r : RoomState). r.is_shut) back.room ∙ unshut)

  same_chain : (state : RoomState) → tried.room ≡ state → state.parts ≡ made.room.parts → state.retired ≡ made.room.retired → state.free ≡ made.room.free → state.lost ≡ made.room.lost → SameChain old.room new.room
  same_chain state is parts retired free lost = record {
    parts = ap (λ (r : RoomState). r.parts) back.room ∙ (ap (λ (r : RoomState). r.parts) is ∙ (parts ∙ ap (λ (r : RoomState). r.parts) makes.room));
    retired = ap (λ (r : RoomState). r.retired) back.room ∙ (ap (λ (r : RoomState). r.retired) is ∙ (retired ∙ ap (λ (r : RoomState). r.retired) makes.room));
    free = (
      ap (λ (r : RoomState). r.free) back.room ∙ (ap (λ (r : RoomState). r.free) is ∙ (free ∙ ap (λ (r : RoomState). r.free) makes.room)),
      ap (λ (r : RoomState). r.lost) back.room ∙ (ap (λ (r : RoomState). r.lost) is ∙ (lost ∙ ap (λ (r : RoomState). r.lost) makes.room)),
    );
  }

  -- ---- what a read of the disk gives, the view told

  parts_seen : tried.room.parts ≡ made.room.parts → SameView view seen → new.room.parts ≡ seen.parts
  parts_seen parts same = ap (λ (r : RoomState). r.parts) back.room ∙ (parts ∙ (ap (λ (r : RoomState). r.parts) makes.room ∙ (sym makes.parts ∙ sym same.parts)))

  shown : IsWhole tried → IsView seen → (r : Result Bool MergeFault) → TriesAll from made tried view seen r → tried.room.parts ≡ made.room.parts
      → (p : Part) (rows : List Row) → Contains new.room.parts p → TellsRowsOf new.room.image new.room.region_len (p ∷ []) rows → EyeTells view p rows
  shown middle is_view r t parts p rows there tells =
      let still = still_posted from made tried view seen (posted_there old made view makes) (made_len old made view makes) r t in
      let out : IsOut tried seen = record { whole = middle; is_view = is_view; posted = still.0; region_len = still.1 } in
      told_before view seen p rows t.looks.same
      (shown_by_eye tried seen p rows out (subst (λ ps. Contains ps p) (parts_seen parts t.looks.same) there)
      (subst (λ (s : RoomState). TellsRowsOf s.image s.region_len (p ∷ []) rows) back.room tells))

  none_fit : IsWhole tried → IsWhole new → IsView seen → TriesAll from made tried view seen (Ok false) → NoneFitNow new
  none_fit middle last is_view t =
      let s = t.room.0 in
      none_fits new made view last (ap (λ (r : RoomState). r.is_shut) back.room ∙ (ap (λ (r : RoomState). r.is_shut) s.room ∙ made_open old made view makes))
      (ap (λ (r : RoomState). r.parts) back.room ∙ ap (λ (r : RoomState). r.parts) s.room) (ap (λ (r : RoomState). r.free) back.room ∙ ap (λ (r : RoomState). r.free) s.room)
      (ap (λ (r : RoomState). r.region_len) back.room ∙ s.keeps.becomes.region_len) (shown middle is_view (Ok false) t (ap (λ (r : RoomState). r.parts) s.room)) t.room.1

  -- ---- damage

  -- the view tells both of two neighbours, where the log at entry was told and sound
  not_both : (two : Part × Part) → StandIn made.room.parts two → OfTold view two.0 two.1 (λ a b. ⊥) → StandsForNone old
  not_both two stand none e rows history began stands =
      let told = makes.tells e rows history began stands in
      let are : view.parts ≡ made.room.parts = makes.parts ∙ sym (ap (λ (r : RoomState). r.parts) makes.room) in
      let a = own_told view.eye.told view.region_len view.parts two.0 told.0 told.1 (subst (λ ps. Contains ps two.0) (sym are) (has_older made.room.parts two stand)) in
      let b = own_told view.eye.told view.region_len view.parts two.1 told.0 told.1 (subst (λ ps. Contains ps two.1) (sym are) (has_newer made.room.parts two stand)) in
      none a.0 b.0 a.1 b.1

  damaged : SameView view seen → (two : Part × Part) → StandIn made.room.parts two → OfTold seen two.0 two.1 (λ a b. ⊥) → StandsForNone old
  damaged same two stand none =
      not_both two stand (λ a b older newer. none a b (told_before seen view two.0 a (view_back view seen same) older) (told_before seen view two.1 b (view_back view seen same) newer))

  damage : (r : Result Bool MergeFault) → TriesAll from made tried view seen r → OnDamage r (StandsForNone old)
  damage (Ok merged) t = tt
  damage (Err (merge_fault.Fetch fetch_fault.Failed)) t = tt
  damage (Err (merge_fault.Fetch (fetch_fault.BadRow region at))) t = let b = t.room.1 in damaged t.looks.same b.two b.stand b.blames.1
  damage (Err (merge_fault.Fetch (fetch_fault.BadIndex region at))) t = let b = t.room.1 in damaged t.looks.same b.two b.stand b.blames.1
  damage (Err (merge_fault.Fetch fetch_fault.NoMemory)) t = tt
  damage (Err (merge_fault.Room fault)) t = tt

  -- ---- two were merged

  next_two : TriesAll from made tried view seen (Ok true) → MergesNext old.room new.room
  unfolding merged_state
  next_two t =
      let some = t.room.2 in
      let m = some.merges in
      let were : some.mid.room.parts ≡ old.room.parts = ap (λ (r : RoomState). r.parts) some.stays.room ∙ ap (λ (r : RoomState). r.parts) makes.room in
      let free : some.mid.room.free ≡ old.room.free = ap (λ (r : RoomState). r.free) some.stays.room ∙ ap (λ (r : RoomState). r.free) makes.room in
      let gone : some.mid.room.retired ≡ old.room.retired = ap (λ (r : RoomState). r.retired) some.stays.room ∙ ap (λ (r : RoomState). r.retired) makes.room in
      let len : some.mid.room.region_len ≡ old.room.region_len = some.stays.keeps.becomes.region_len ∙ ap (λ (r : RoomState). r.region_len) makes.room in
      record {
        two = m.two;
        at = t.room.0;
        first = subst (λ ps. neighbours_from t.room.0 ps ≡ Some m.two) were m.tried.first;
        measure = m.measure;
        ordered = m.ordered;
        regions = m.regions;
        taken = sym (regions_same old.room some.mid.room m.measure len free) ∙ m.taken;
        parts =
            ap (λ (r : RoomState). r.parts) back.room
            ∙ (ap (λ (r : RoomState). r.parts) m.room.1.room
            ∙ (λ i. replaced m.two.0.region (part_of (job_for m.two m.measure m.regions (free i)).target (header_for m.two m.measure m.regions (free i))) (were i)));
        retired = ap (λ (r : RoomState). r.retired) back.room ∙ (ap (λ (r : RoomState). r.retired) m.room.1.room ∙ ap (λ ps. retire m.two.1 (retire m.two.0 ps)) gone);
        free = ap (λ (r : RoomState). r.free) back.room ∙ (ap (λ (r : RoomState). r.free) m.room.1.room ∙ ap (drop m.regions) free);
      }

  -- ---- whatever was answered

  merges : IsWhole tried → IsWhole new → IsView seen → (r : Result Bool MergeFault) → TriesAll from made tried view seen r → MergesNextOr old new r
  unfolding merged_state
  merges middle last is_view (Ok true) t = let m = t.room.2.merges in (open_still (ap (λ (r : RoomState). r.is_shut) m.room.1.room ∙ m.room.0), next_two t)
  merges middle last is_view (Ok false) t =
      let s = t.room.0 in
      (open_still (ap (λ (r : RoomState). r.is_shut) s.room ∙ made_open old made view makes), same_chain _ s.room refl refl refl refl, none_fit middle last is_view t)
  merges middle last is_view (Err (merge_fault.Fetch fault)) t = let s = t.room.0 in (open_still (ap (λ (r : RoomState). r.is_shut) s.room ∙ made_open old made view makes), same_chain _ s.room refl refl refl refl)
  merges middle last is_view (Err (merge_fault.Room room_fault.NoMemory)) t = let s = t.room in (open_still (ap (λ (r : RoomState). r.is_shut) s.room ∙ made_open old made view makes), same_chain _ s.room refl refl refl refl)
  merges middle last is_view (Err (merge_fault.Room room_fault.Disk)) t = let s = t.room.0 in (
    makes.not_shut,
    ap (λ (r : RoomState). r.is_shut) back.room ∙ ap (λ (r : RoomState). r.is_shut) s.room,
    ap (λ (r : RoomState). r.parts) back.room ∙ (ap (λ (r : RoomState). r.parts) s.room ∙ ap (λ (r : RoomState). r.parts) makes.room),
    ap (λ (r : RoomState). r.retired) back.room ∙ (ap (λ (r : RoomState). r.retired) s.room ∙ ap (λ (r : RoomState). r.retired) makes.room),
  )
  merges middle last is_view (Err (merge_fault.Room (room_fault.Shut epoch))) t = absurd t.room

  pub through : IsWhole tried → IsWhole new → IsView seen → (r : Result Bool MergeFault) → TriesAll from made tried view seen r → new.room.board ≡ slice_set tried.room.board (buffer_at seen.seat seen.buffer) None → MergesThroughOr from old new r
  through middle last is_view r t board = record {
    leaves = leaves t.looks.same (any_leaves from made tried view seen r t) board;
    how = inl (record { made = made; view = view; makes = makes; tried = tried; seen = seen; tries = t; back = back });
    merges = merges middle last is_view r t;
    damage = damage r t;
    counted = counted r t;
  }

-- the view is posted still, once neighbours were tried through it
pub still_there : (from : ℕ) (old made tried : RoomValue) (view seen : ViewValue) → MakesView old made 1 view → (r : Result Bool MergeFault) → TriesAll from made tried view seen r → IsPosted tried.room seen
still_there from old made tried view seen makes r t = (still_posted from made tried view seen (posted_there old made view makes) (made_len old made view makes) r t).0

-- ---- no view could be made

stays_board : (room : RoomValue) → IsWhole room → room.room.job ≡ None → LeavesBoard room room
stays_board room whole none = record { entry = refl; keeps = keeps_none room whole; no_job = none; places = refl; board = refl; epochs = (refl, refl) }

pub no_view : (from : ℕ) (old new : RoomValue) → IsWhole old → old.room.job ≡ None → (fault : RoomFault) → MakesViewOr old new 1 (Err fault) → MergesThroughOr from old new (Err (merge_fault.Room fault))
no_view from old new whole none room_fault.Disk m = record {
  leaves = record {
    entry = m.leaves.entry;
    keeps = m.leaves.keeps;
    no_job = ap (λ (r : RoomState). r.job) m.room ∙ none;
    places = ap (λ (r : RoomState). r.places) m.room;
    board = m.board;
    epochs = (ap (λ (r : RoomState). r.sealed) m.room, ap (λ (r : RoomState). r.waiting) m.room);
  };
  how = inr (record { fault = room_fault.Disk; is = refl; why = m });
  merges = (m.was_open, m.is_shut, ap (λ (r : RoomState). r.parts) m.room, ap (λ (r : RoomState). r.retired) m.room);
  damage = tt;
  counted = rises old new m.faults;
}
no_view from old new whole none (room_fault.Shut epoch) m = record {
  leaves = subst (LeavesBoard old) (sym m.2) (stays_board old whole none);
  how = inr (record { fault = room_fault.Shut epoch; is = refl; why = m });
  merges = (m.0, m.1, m.2);
  damage = tt;
  counted = let e = ap (λ (v : RoomValue). v.room.faults) m.2 in omega (arith, e);
}
no_view from old new whole none room_fault.NoMemory m = record {
  leaves = subst (LeavesBoard old) (sym m.1) (stays_board old whole none);
  how = inr (record { fault = room_fault.NoMemory; is = refl; why = m });
  merges = (
    (m.0, ap (λ (v : RoomValue). v.room.is_shut) m.1 ∙ m.0),
    record {
      parts = ap (λ (v : RoomValue). v.room.parts) m.1;
      retired = ap (λ (v : RoomValue). v.room.retired) m.1;
      free = (ap (λ (v : RoomValue). v.room.free) m.1, ap (λ (v : RoomValue). v.room.lost) m.1);
    },
  );
  damage = tt;
  counted = let e = ap (λ (v : RoomValue). v.room.faults) m.1 in omega (arith, e);
}

-- ---- damage in a turn

pub on_damage : (r : Result Bool MergeFault) (P Q : Type 0) → (P → Q) → OnDamage r P → OnDamage r Q
on_damage (Ok merged) P Q to d = tt
on_damage (Err (merge_fault.Fetch fetch_fault.Failed)) P Q to d = tt
on_damage (Err (merge_fault.Fetch (fetch_fault.BadRow region at))) P Q to d = to d
on_damage (Err (merge_fault.Fetch (fetch_fault.BadIndex region at))) P Q to d = to d
on_damage (Err (merge_fault.Fetch fetch_fault.NoMemory)) P Q to d = tt
on_damage (Err (merge_fault.Room fault)) P Q to d = tt

-- a room of a log that began stands for a history of it
pub not_begun : (x : Beginning) (value : RoomValue) (history : List Commit) → room_log value ≡ x.log → ((e : ℕ) (first : List Row) → Began x.log e first → Stands value first e history) → StandsForNone value → NotBegan x
not_begun x value history log stands none e first b = none e first history (subst (λ o. Began o e first) (sym log) b) (stands e first b)

-- ---- the turn

pub no_jobs : (a b : RoomState) → a.job ≡ None → b.job ≡ None → KeepsJob a b
no_jobs a b none still = record { job = still ∙ sym none; held = λ j is. absurd (let e : ◌≡◌ {A = Option Job} None (Some j) = sym none ∙ is in cc) }

-- the merge of the seat 1 is not out as its pass takes the room
pub none_out : (x : Beginning) (room : RoomState) (p q : RoomPass) → TakesRoom state_of x room p q → p.number ≡ 1 → LacksJob x p → room.job ≡ None
none_out x room p q taken one lacks = (taken.same_job one).job ∙ lacks one

-- whatever merging answers, the room may be given back
pub may_merge : (x : Beginning) (from : ℕ) (old new : RoomValue) (p : RoomPass) (c : IsCleanTurn x old p) (r : Result Bool MergeFault) → old.room.job ≡ None → MergesThroughOr from old new r → InTurn x new p c.note
may_merge x from old new p c r none m =
    let l = m.leaves in
    let i = c.turn in
    let up = l.keeps.becomes.faults in
    goes x p p old new c.note c.note i refl refl refl i.is_turn l.keeps (no_jobs old.room new.room none l.no_job) l.entry l.places (epochs_stay x p old new c.note i l.epochs) (let a = i.may.top in let b = l.keeps.becomes.sealed in omega (arith, a, b))
    (l.board ∙ i.may.board)
    (⊎_elim (λ low. inl (omega (arith, low, up))) (λ last. inr (omega (arith, last, up))) i.may.counted)

module _ (x : Beginning) (found new : RoomValue) (p q r : RoomPass) (b : BeginsTurn x p q found) (third : r.number ≡ q.number) (gave : GivesRoom new.room None 0 b.clean.note q r) where
  up_met : Rises found.room new.room → MeetsSome x p r
  up_met up = met_some x found new p q q r b refl third (turns_none x q) b.clean.note gave (some_failed x q found new b.clean.note b.clean.turn up)

  least_met : new.room.faults ≤ found.room.faults → MeetsNone x p r
  least_met least = met_none x found new p q q r b refl third (turns_none x q) b.clean.note gave (let n = b.clean.none_failed in omega (arith, n, least))

  pub meets : (answer : Result Bool MergeFault) → Failing answer (Rises found.room new.room) (new.room.faults ≤ found.room.faults) → Failing answer (MeetsSome x p r) (MeetsNone x p r)
  meets (Ok merged) least = least_met least
  meets (Err (merge_fault.Fetch fetch_fault.Failed)) up = up_met up
  meets (Err (merge_fault.Fetch (fetch_fault.BadRow region at))) least = least_met least
  meets (Err (merge_fault.Fetch (fetch_fault.BadIndex region at))) least = least_met least
  meets (Err (merge_fault.Fetch fetch_fault.NoMemory)) least = least_met least
  meets (Err (merge_fault.Room room_fault.Disk)) up = up_met up
  meets (Err (merge_fault.Room room_fault.NoMemory)) least = least_met least
  meets (Err (merge_fault.Room (room_fault.Shut epoch))) least = least_met least

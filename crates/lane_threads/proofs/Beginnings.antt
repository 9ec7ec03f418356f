-- How the lanes of a new hall begin.
use Rattle.std.proofs.Common.{◌≡◌, ◌≢◌, inl, ℕ, suc, ◌+◌, ◌<◌, ◌≤◌, ◌==◌, List, [], ◌∷◌, length, Some, refl, sym, ap, subst, ◌∙◌, arith}
use Rattle.std.specs.Prelude.{count_by, slice_get, slice_index_or}
use Rattle.std.specs.List.{AllByRecursion}
use Rattle.std.proofs.lemmas.Option.{none-some, slice_get_within}
use Rattle.fine_model.specs.declared.ScriptTxn.{ScriptTxn}
use Rattle.fine_model.specs.declared.law.RoomState.{RoomState}
use Rattle.fine_model.specs.Causes.{used_in}
use Rattle.fine_model.specs.History.{Commit}
use Rattle.fine_model.specs.Outcomes.{AtMostEach}
use Rattle.node_cache.specs.Cache.{Cache}
use Rattle.partition_hold.specs.Views.{ViewValue, state_of}
use Rattle.epoch_room.specs.Value.{RoomValue}
use Rattle.fine_places.specs.declared.model.Placed.{Placed}
use Rattle.fine_hall.specs.declared.law.Beginning.{Beginning}
use Rattle.fine_hall.specs.declared.turn.Turn.{Turn}
use Rattle.fine_hall.specs.Halls.{HallOf}
use Rattle.fine_hall.specs.Laws.{CountsEpochs}
use Rattle.fine_hall.specs.Opening.{HandedOut}
use Rattle.fine_hall.specs.Passes.{last_room, mine, seen, turns, view_of}
use Rattle.fine_hall.specs.Turns.{commits, failed_of, room_after}
use Rattle.hall_rooms.specs.Opening.{OpensHall}
use Rattle.hall_rooms.specs.Rooms.{RoomPass, beginning_of}
use Rattle.run_laws.specs.Needs.{AreSealedInNeed}
use Rattle.run_laws.specs.Runs.{IsReady, IsReplied}
use Rattle.lane_laws.specs.Lanes.{AreFewIn, HasFull, HasMet, HasOutcomes, InNeed, LaneSoFar, places_in}
use Rattle.lane_laws.specs.Placing.{placed_by}
use Rattle.lane_laws.specs.Quiet.{OpenOf}
use Rattle.lane_laws.proofs.Places.{places_are}
use Rattle.lane_runs.specs.Lane.{new_lane}
use Rattle.lane_threads.specs.declared.worker.Part.{Part}
use Rattle.lane_threads.specs.declared.worker.Worker.{Worker}
use Rattle.lane_threads.specs.Beginning.{AreNewPasses, BeginsFresh, GetPasses, IsNewPass}
use Rattle.lane_threads.specs.Means.{AreNewParts}
use Rattle.lane_threads.specs.Workers.{CanAllRun}
use Rattle.lane_threads.proofs.JoinedThreads.{at_or}

-- ---- the hall

-- its room is one in which nothing waits
pub begins_fresh : (old : RoomValue) (seats : ℕ) (x : Beginning) → IsReady old → OpensHall old seats x → BeginsFresh x
begins_fresh old seats x ready opens = record {
  no_job = ap (λ (r : RoomState). r.job) opens.room ∙ ready.no_job;
  none_wait = ap (λ (r : RoomState). r.waiting) opens.room ∙ ready.none_waits;
  none_used = ap (λ (r : RoomState). r.used) opens.room ∙ (ready.whole.epoch.none ready.none_waits).2;
  none_placed = ap (λ (r : RoomState). r.places) opens.room ∙ ready.no_place;
}

module _ {Q : Type 0} (hall : HallOf RoomValue Cache ViewValue Q) (fronts : List ViewValue) (passes : List RoomPass) (fresh : BeginsFresh (beginning_of hall)) (long : length passes ≡ (beginning_of hall).seats)
    (out : HandedOut state_of hall.table.shared.table_id (beginning_of hall) fronts passes) where
  -- its passes saw nothing and met no fault
  pub new_passes : AreNewPasses hall passes
  new_passes i n p at below =
      let h = out i p at in
      let f = h.fresh in
      let number = h.number in
      let same : h.n ≡ n = omega (arith, number, below, long) in
      let failed : failed_of p.number (beginning_of hall).room (turns p) ≡ 0 = ap (failed_of p.number (beginning_of hall).room) f.seen_none in
      let front = ap (λ (v : _). (view_of state_of v).faults) f.front_is ∙ f.front_clean in
      let given = f.none_given in
      record {
        idle = (h.is_pass, f.holds_none, λ one. ap (λ (l : List (Placed Turn)). (room_after (beginning_of hall).room l).job) f.seen_none ∙ fresh.no_job);
        numbered = (let m = f.numbered in omega (arith, m, same));
        seen_none = f.seen_none;
        mine_none = f.mine_none;
        clean = omega (arith, failed, front, given);
      }

-- ---- a lane

-- each place of a lane is one of the script
within_of : (script : List ScriptTxn) (lane : ℕ) → AllByRecursion (λ i. i < length script) (places_in script lane)
within_of script lane = all_by (λ i. i < length script) (places_in script lane) (λ j i at. let t = places_are script lane j i at in slice_get_within script i t.0 t.1)
  where
    all_by : (P : ℕ → Type 0) (l : List ℕ) → ((j i : ℕ) → slice_get l j ≡ Some i → P i) → AllByRecursion P l
    all_by P [] each = tt
    all_by P (i ∷ l) each = (each 0 i refl, all_by P l (λ j k at. each (suc j) k at))

module _ {Q : Type 0} (hall : HallOf RoomValue Cache ViewValue Q) (script : List ScriptTxn) (lane group n : ℕ) (p : RoomPass) (fresh : BeginsFresh (beginning_of hall)) (some_group : 1 ≤ group) (new : IsNewPass hall n p) where
  none_seen : seen p ≡ []
  unfolding commits
  none_seen = ap commits new.seen_none

  none_mine : mine p ≡ []
  unfolding commits
  none_mine = ap commits new.mine_none

  same_room : last_room (beginning_of hall) p ≡ (beginning_of hall).room
  same_room = ap (room_after (beginning_of hall).room) new.seen_none

  has_none : HasOutcomes (beginning_of hall) [] script p (new_lane script lane)
  has_none = record {
    at = refl;
    done = record {
      count = omega arith;
      within = within_of script lane;
      each = λ j i txn next at is out. absurd (none-some next out);
      places = ap (placed_by p.number 0) new.seen_none;
      numbered = λ j i place c at out. absurd (none-some _ out);
    };
    replied = subst (λ (l : List Commit). AllByRecursion IsReplied l) (sym none_mine) tt;
    refused = λ j i txn word at is out. absurd (none-some _ out);
    full_last = λ j m place c out. absurd (none-some _ out);
  }

  few_of_none : AreFewIn group (beginning_of hall) p (new_lane script lane)
  few_of_none = record {
    most = subst (λ (l : List Commit). AtMostEach group l) (sym none_mine) (λ e. omega arith);
    open_epoch = λ goes_on. let none = ap (count_by (λ (c : Commit). c.epoch == (last_room (beginning_of hall) p).sealed + 1)) none_mine in omega (arith, none, some_group);
  }

  in_need : (P : Type 0) → InNeed group (beginning_of hall) p P
  in_need P = record {
    each = subst (λ (l : List Commit). AreSealedInNeed (beginning_of hall).room.region_len group (beginning_of hall).room.sealed l) (sym none_seen) (λ e next above found. absurd (none-some next found));
    used = ap (λ (r : RoomState). r.used) same_room ∙ (fresh.none_used ∙ sym (ap (used_in ((last_room (beginning_of hall) p).sealed + 1)) none_seen));
    counts = subst (λ (r : RoomState). CountsEpochs (beginning_of hall) r (seen p)) (sym same_room)
        (subst (λ (l : List Commit). CountsEpochs (beginning_of hall) (beginning_of hall).room l) (sym none_seen) (record { follow = tt; sealed = refl; waiting = fresh.none_wait }));
    ends = λ none above. absurd (let s = ap (λ (r : RoomState). r.sealed) same_room in omega (arith, s, above));
  }

  met_none : HasMet (beginning_of hall) p (new_lane script lane)
  met_none = record {
    clean = inl new.clean;
    opened = inl (subst (λ (l : List (Placed Turn)). OpenOf p.number (beginning_of hall).room l) (sym new.seen_none) tt);
    failed = λ c. absurd (let low = c.1 in omega (arith, low));
    unsound = λ what c. absurd (let low = c.1 in omega (arith, low));
    one = omega arith;
  }

  new_lane_so_far : n ≢ 1 → LaneSoFar hall script group p (new_lane script lane)
  new_lane_so_far other = record {
    idle = new.idle;
    seat = λ one. other (sym new.numbered ∙ one);
    runs = record {
      has = has_none;
      few = few_of_none;
      needs = λ quiet e first began. record { so_far = in_need _; full = λ j i txn is. absurd (none-some _ is.0) };
    };
    met = met_none;
  }

-- ---- the workers

pub new_workers : {Q D E : Type 0} (hall : HallOf RoomValue Cache ViewValue Q) (script : List ScriptTxn) (group : ℕ) (parts : List Part) (workers : List (Worker D E))
    → BeginsFresh (beginning_of hall) → 1 ≤ group → AreNewParts script parts → GetPasses hall parts workers → CanAllRun hall script group workers
new_workers hall script group parts workers fresh some_group new gets = λ i w low.
    let v = slice_index_or workers i w in
    let at = at_or workers i w low in
    let part = new.each i v.part (gets.same i v at) in
    record {
      so_far = subst (λ l. LaneSoFar hall script group v.pass l) (sym part.0) (new_lane_so_far hall script v.part.lane.lane group (i + 2) v.pass fresh some_group (gets.each i v at) (λ one. omega (arith, one)));
      none_full = λ full. let f = subst HasFull part.0 full in none-some _ f.1;
      blank = part.1;
    }

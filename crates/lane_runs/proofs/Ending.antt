-- The rest of a lane as it begins, and at its end.
use Rattle.std.proofs.Common.{◌≡◌, ◌≢◌, ◌⊎◌, inl, inr, ℕ, ◌<◌, ◌≤◌, Bool, true, false, List, [], ◌∷◌, ◌++◌, length, Option, Some, None, refl, sym, ap, subst, ◌∙◌, ⊎_elim, arith, append-nil, le_refl, true≢false}
use Rattle.std.specs.Prelude.{is_some, option_to_list, slice_get}
use Rattle.std.proofs.lemmas.Option.{none-some, slice_get-get_or}
use mathlib.Core.Option.{some}
use lib.ListN.{get_elem?}
use Rattle.fine_model.specs.declared.RunFault.{RunFault}
use Rattle.fine_model.specs.declared.RunFault.TheVariants as run_fault
use Rattle.fine_model.specs.declared.ScriptTxn.{ScriptTxn}
use Rattle.node_cache.specs.Cache.{Cache}
use Rattle.partition_hold.specs.Views.{ViewValue}
use Rattle.epoch_room.specs.Value.{RoomValue}
use Rattle.fine_places.proofs.Elements.{read_at}
use Rattle.fine_hall.specs.Halls.{HallOf}
use Rattle.fine_hall.specs.Passes.{turns}
use Rattle.hall_rooms.specs.Rooms.{RoomPass, beginning_of}
use Rattle.hall_rooms.proofs.Renewing.{renews_none}
use Rattle.lane_laws.specs.Lanes.{GoesOn, HasFull, LaneValue}
use Rattle.lane_runs.specs.Lane.{next_of}
use Rattle.lane_runs.specs.Rest.{AreOthers, IsAside, IsFirst, RunsRest}
use Rattle.lane_runs.specs.Resting.{FullSoFar, RestSoFar}
use Rattle.lane_runs.specs.Steps.{IsNextOf, StandsNext}
use Rattle.lane_runs.proofs.Lists.{all_at, item_at}
use Rattle.lane_runs.proofs.Meeting.{none_of}

module _ {Q : Type 0} (hall : HallOf RoomValue Cache ViewValue Q) (script : List ScriptTxn) (group at : ℕ) where
  -- nothing was done yet
  pub rest_begins : (first : RoomPass) (others : List RoomPass) (own : RoomPass) (w : LaneValue) → IsFirst hall first → AreOthers hall others → get_elem? others at ≡ some own → IsAside (beginning_of hall) first script group own w
      → RestSoFar hall script group at first first others others w
  rest_begins first others own w f o is a = record {
    first_is = f;
    others_are = o;
    many = refl;
    saw = ([], sym (append-nil (turns first)));
    renews = λ i p ne there. (p, there, renews_none (beginning_of hall) p);
    own = own;
    own_is = is;
    runs = a.runs;
    meets = record {
      no_lower = inl (omega arith);
      clean = inl (refl, a.clean);
      opened = inl ((λ o. o), a.opened);
      failed = λ there. absurd (none_of w a.goes_on run_fault.Disk there);
      unsound = λ what there. absurd (none_of w a.goes_on (run_fault.Damaged what) there);
      one = let n = ap length a.goes_on in omega (arith, n);
    };
  }

  module _ (first first' : RoomPass) (others others' : List RoomPass) (w : LaneValue) (s : RestSoFar hall script group at first first' others others' w) where
    -- the lane's own pass is there
    pub own_there : at < length others'
    own_there = (read_at others' at s.own s.own s.own_is).0

    -- a lane that goes on and has a next transaction
    pub stands_next : (ended : Option RunFault) (i : ℕ) → w.work.left ≡ option_to_list ended → is_some ended ≡ false → next_of w ≡ Some i → StandsNext script w i
    stands_next None i left none next = record { goes_on = left; next_at = next; within = all_at (λ i. i < length script) w.work.at s.runs.has.done.within (length w.work.done) i next }
    stands_next (Some fault) i left none next = absurd (true≢false none)

    -- all was done, or a fault ended it
    pub rest_ends : (GoesOn w → length w.work.done ≡ length w.work.at) → RunsRest hall script group at first first' others others' w
    rest_ends finished = record {
      first_is = s.first_is;
      others_are = (s.others_are, s.many);
      saw = s.saw;
      renews = s.renews;
      own = s.own;
      own_is = s.own_is;
      done = record { runs = s.runs; finished = finished };
      meets = s.meets;
    }

    pub ended_by_fault : (ended : Option RunFault) → w.work.left ≡ option_to_list ended → is_some ended ≡ true → GoesOn w → length w.work.done ≡ length w.work.at
    ended_by_fault None left some_ on = absurd (true≢false (sym some_))
    ended_by_fault (Some fault) left some_ on = absurd (let n = ap length (sym on ∙ left) in omega (arith, n))

    pub ended_by_last : next_of w ≡ None → GoesOn w → length w.work.done ≡ length w.work.at
    ended_by_last none on = ⊎_elim
        (λ lt. let here = item_at w.work.at (length w.work.done) lt in absurd (none-some here.0 (sym none ∙ here.1)))
        (λ ge. let c = s.runs.has.done.count in omega (arith, ge, c))
        (which (length w.work.done) (length w.work.at))
      where
        which : (a b : ℕ) → (a < b) ⊎ (b ≤ a)
        which a b = grind arith

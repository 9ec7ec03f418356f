-- Steps of the room on one thread.
use Rattle.std.proofs.Common.{◌≡◌, ◌≢◌, ℕ, ◌+◌, ◌<◌, ◌≤◌, ◌==◌, ◌&&◌, cond, Bool, true, false, List, [], ◌∷◌, ◌++◌, length, Option, Some, None, Ok, Err, refl, sym, ap, ◌∙◌, subst, arith}
use Rattle.std.specs.Prelude.{Result, count_by, option_map}
use Rattle.std.proofs.lemmas.List.Sums.{sum_by-cons, sum_by_push}
use Rattle.fine_model.specs.declared.RunFault.{RunFault}
use Rattle.fine_model.specs.declared.law.RoomState.{RoomState}
use Rattle.fine_model.specs.Becomes.{Becomes, IsStuck}
use Rattle.fine_model.specs.History.{Commit}
use Rattle.fine_model.specs.Outcomes.{EpochsFollow}
use Rattle.fine_model.specs.Room.{IsSealedUpTo}
use Rattle.fine_model.proofs.Histories.Epochs.{follows_on, none_wait, seals, waiting_push}
use Rattle.fine_model.proofs.Histories.Goings.{becomes_on}
use Rattle.log_disk.specs.Disk.{BothTold, Told}
use Rattle.log_disk.specs.Moments.{Continues}
use Rattle.epoch_room.specs.Meaning.{Keeps, origin_of}
use Rattle.epoch_room.specs.Steps.{SealsOr, Steps, appended, sealed_state}
use Rattle.epoch_room.specs.Value.{RoomValue}
use Rattle.epoch_room.specs.Whole.{IsWhole}
use Rattle.epoch_room.specs.declared.answers.RoomFault.{RoomFault}
use Rattle.epoch_room.specs.declared.answers.RoomFault.TheVariants as room_fault
use Rattle.epoch_room.proofs.Stuck.{stuck_law}
use Rattle.run_laws.specs.Going.{CommitsLaw, FewEnd, FewLess, FewMore, FewWait, FullLaw, LaterLaw, SealsLaw, StaysLaw}
use Rattle.run_laws.specs.Lanes.{EndsLane, IsLane, fault_of}
use Rattle.run_laws.specs.SoFar.{GoesOn}
use Rattle.run_laws.proofs.Runs.{image_told, told_of}

-- ---- the room

module _ (old new : RoomValue) (whole : IsWhole old) (whole_new : IsWhole new) (becomes : Becomes old.room new.room) where
  regions_same : new.disk.regions ≡ old.disk.regions
  regions_same = sym (ap (λ (r : RoomState). r.regions) whole_new.of_disk) ∙ becomes.regions ∙ ap (λ (r : RoomState). r.regions) whole.of_disk

  len_same : new.disk.region_len ≡ old.disk.region_len
  len_same = sym (ap (λ (r : RoomState). r.region_len) whole_new.of_disk) ∙ becomes.region_len ∙ ap (λ (r : RoomState). r.region_len) whole.of_disk

pub later_law : LaterLaw
later_law old new out view l = record {
  entry = l.entry;
  job = ap (λ (r : RoomState). r.job) l.room;
  sealed = ap (λ (r : RoomState). r.sealed) l.room;
  places = ap (λ (r : RoomState). r.places) l.room;
  waiting = ap (λ (r : RoomState). r.waiting) l.room;
  stands = l.stands;
  becomes = l.becomes;
}

pub stays_law : StaysLaw
stays_law entry old new history g whole s = record {
  regions = regions_same old new g.whole whole s.becomes ∙ g.regions;
  region_len = len_same old new g.whole whole s.becomes ∙ g.region_len;
  same_entry = s.entry ∙ g.same_entry;
  no_job = s.job ∙ g.no_job;
  has = record {
    whole = whole;
    epochs = g.epochs;
    sealed = subst (λ n. IsSealedUpTo entry.room.sealed history n) (sym s.sealed) g.sealed;
    places = s.places ∙ g.places;
    waiting = s.waiting ∙ g.waiting ∙ ap (λ n. count_by (λ c. c.epoch == n + 1) history) (sym s.sealed);
    stands = λ first e began stands. s.stands first e history (g.stands first e began stands);
  };
  becomes = becomes_on entry.room old.room new.room g.becomes s.becomes;
}

long : (xs : List Commit) (c : Commit) → length (xs ++ c ∷ []) ≡ length xs + 1
long [] c = omega arith
long (x ∷ xs) c = let h = long xs c in omega (arith, h)

appended_job : (value : RoomValue) (c : Commit) → (appended value c.entry.rows).room.job ≡ value.room.job
unfolding appended
appended_job value c = refl

appended_sealed : (value : RoomValue) (c : Commit) → (appended value c.entry.rows).room.sealed ≡ value.room.sealed
unfolding appended
appended_sealed value c = refl

appended_places : (value : RoomValue) (c : Commit) → (appended value c.entry.rows).room.places ≡ value.room.places + 1
unfolding appended
appended_places value c = refl

appended_waiting : (value : RoomValue) (c : Commit) → (appended value c.entry.rows).room.waiting ≡ value.room.waiting + 1
unfolding appended
appended_waiting value c = refl

appended_entry : (value : RoomValue) (c : Commit) → (appended value c.entry.rows).entry ≡ value.entry
unfolding appended
appended_entry value c = refl

pub commits_law : CommitsLaw
commits_law entry old new history c g whole s = record {
  regions = regions_same old new g.whole whole s.becomes ∙ g.regions;
  region_len = len_same old new g.whole whole s.becomes ∙ g.region_len;
  same_entry = ap (λ (v : RoomValue). v.entry) s.room ∙ appended_entry old c ∙ g.same_entry;
  no_job = ap (λ (v : RoomValue). v.room.job) s.room ∙ appended_job old c ∙ g.no_job;
  has = record {
    whole = whole;
    epochs = next.0;
    sealed = subst (λ n. IsSealedUpTo entry.room.sealed (history ++ c ∷ []) n) (sym sealed) next.1;
    places = let a = ap (λ (v : RoomValue). v.room.places) s.room ∙ appended_places old c in let b = g.places in let l = long history c in omega (arith, a, b, l);
    waiting =
        let a = ap (λ (v : RoomValue). v.room.waiting) s.room ∙ appended_waiting old c in
        let b = g.waiting in
        let w = waiting_push history c (old.room.sealed + 1) s.epoch in
        let n = ap (λ k. count_by (λ (d : Commit). d.epoch == k + 1) (history ++ c ∷ [])) sealed in
        omega (arith, a, b, w, n);
    stands = λ first e began stands. s.stands first e history c refl s.epoch began.sound (s.legal first e began stands) (g.stands first e began stands);
  };
  becomes = becomes_on entry.room old.room new.room g.becomes s.becomes;
}
  where
    sealed : new.room.sealed ≡ old.room.sealed
    sealed = ap (λ (v : RoomValue). v.room.sealed) s.room ∙ appended_sealed old c

    next : EpochsFollow entry.room.sealed (history ++ c ∷ []) × IsSealedUpTo entry.room.sealed (history ++ c ∷ []) old.room.sealed
    next = follows_on entry.room.sealed old.room.sealed history c g.epochs g.sealed s.epoch

sealed_is : (value : RoomValue) → (sealed_state value).sealed ≡ value.room.sealed + 1
unfolding sealed_state
sealed_is value = refl

places_is : (value : RoomValue) → (sealed_state value).places ≡ value.room.places
unfolding sealed_state
places_is value = refl

waiting_is : (value : RoomValue) → (sealed_state value).waiting ≡ 0
unfolding sealed_state
waiting_is value = refl

-- a state with what its disk gives keeps its numbers
module _ (state : RoomState) (old new : RoomValue) (target : Option ℕ) (steps : Steps state target old new) where
  sealed_of : new.room.sealed ≡ state.sealed
  sealed_of = ap (λ (r : RoomState). r.sealed) steps.room

  places_of : new.room.places ≡ state.places
  places_of = ap (λ (r : RoomState). r.places) steps.room

  waiting_of : new.room.waiting ≡ state.waiting
  waiting_of = ap (λ (r : RoomState). r.waiting) steps.room

module _ (entry old new : RoomValue) (history : List Commit) (g : GoesOn entry old history) (whole : IsWhole new) (some : 1 ≤ old.room.waiting) (keeps : Keeps old new) (job : new.room.job ≡ old.room.job) where
  stayed : new.entry ≡ old.entry → new.room.sealed ≡ old.room.sealed → new.room.places ≡ old.room.places → new.room.waiting ≡ old.room.waiting → GoesOn entry new history
  stayed e s p w = stays_law entry old new history g whole (record { entry = e; job = job; sealed = s; places = p; waiting = w; stands = keeps.stands; becomes = keeps.becomes })

  was_sealed : new.entry ≡ old.entry → new.room.sealed ≡ old.room.sealed + 1 → new.room.places ≡ old.room.places → new.room.waiting ≡ 0 → GoesOn entry new history
  was_sealed e s p w = record {
    regions = regions_same old new g.whole whole keeps.becomes ∙ g.regions;
    region_len = len_same old new g.whole whole keeps.becomes ∙ g.region_len;
    same_entry = e ∙ g.same_entry;
    no_job = job ∙ g.no_job;
    has = record {
      whole = whole;
      epochs = g.epochs;
      sealed = subst (λ n. IsSealedUpTo entry.room.sealed history n) (sym s) (seals entry.room.sealed history old.room.sealed g.epochs g.sealed (let h = g.waiting in omega (arith, some, h)));
      places = p ∙ g.places;
      waiting = w ∙ none_wait entry.room.sealed history old.room.sealed g.epochs g.sealed ∙ ap (λ n. count_by (λ (c : Commit). c.epoch == n + 1) history) (sym s);
      stands = λ first e began stands. keeps.stands first e history (g.stands first e began stands);
    };
    becomes = becomes_on entry.room old.room new.room g.becomes keeps.becomes;
  }

  by : (result : Result ℕ RoomFault) → SealsOr old new result → GoesOn entry new history
  by (Ok epoch) s =
      let steps = s.2.1 in
      was_sealed steps.entry (sealed_of (sealed_state old) old new None steps ∙ sealed_is old) (places_of (sealed_state old) old new None steps ∙ places_is old) (waiting_of (sealed_state old) old new None steps ∙ waiting_is old)
  by (Err room_fault.Disk) s =
      let steps = s.1 in stayed steps.entry (ap (λ (r : RoomState). r.sealed) steps.room) (ap (λ (r : RoomState). r.places) steps.room) (ap (λ (r : RoomState). r.waiting) steps.room)
  by (Err (room_fault.Shut epoch)) s =
      let same = s.2 in stayed (ap (λ (v : RoomValue). v.entry) same) (ap (λ (v : RoomValue). v.room.sealed) same) (ap (λ (v : RoomValue). v.room.places) same) (ap (λ (v : RoomValue). v.room.waiting) same)
  by (Err room_fault.NoMemory) s =
      let steps = s.1 in stayed steps.entry (ap (λ (r : RoomState). r.sealed) steps.room) (ap (λ (r : RoomState). r.places) steps.room) (ap (λ (r : RoomState). r.waiting) steps.room)

pub seals_law : SealsLaw
seals_law entry old new history result g whole some s keeps job = by entry old new history g whole some keeps job result s

-- ---- a log that is stuck

pub full_law : FullLaw
full_law entry room history g lost none_waits none_retired few none_fit first e began stands = by room.disk.told refl
  where
    again : (before : Told) × (room.entry.told ≡ Some before)
    again = image_told room.entry began.image (ap (λ d. (origin_of d).image) g.same_entry ∙ began.told)

    by : (t : Option Told) → room.disk.told ≡ t → IsStuck room.room
    by None is = absurd (subst (λ t. BothTold Continues (Some again.0) t) is (subst (λ t. BothTold Continues t room.disk.told) again.1 g.whole.entry.time))
    by (Some after) is =
        let s = told_of room again.0 after first e history again.1 is (g.stands first e began stands) in
        let image : room.room.image ≡ Some after.bytes = ap (λ (x : RoomState). x.image) g.whole.of_disk ∙ ap (option_map (λ (t : Told). t.bytes)) is in
        stuck_law room after.bytes s.stands.live.rows g.whole (record {
          none_lost = lost;
          told = image;
          are_rows = s.stands.live.are_rows;
          none_waits = none_waits;
          none_retired = none_retired;
          no_job = g.no_job;
          few_free = few;
          no_merge = none_fit after.bytes image;
        })

-- ---- how few entries of a lane wait

abbrev of : ℕ → ℕ → List Commit → ℕ
of lane e history = count_by (λ c. (c.entry.lane == lane) && (c.epoch == e)) history

within : (lane e : ℕ) (history : List Commit) → of lane e history ≤ count_by (λ c. c.epoch == e) history
within lane e [] = omega arith
within lane e (c ∷ history) =
    let a = sum_by-cons (λ (d : Commit). cond ((d.entry.lane == lane) && (d.epoch == e)) 1 0) c history in
    let b = sum_by-cons (λ (d : Commit). cond (d.epoch == e) 1 0) c history in
    let h = one (c.entry.lane == lane) (c.epoch == e) in
    let rest = within lane e history in
    omega (arith, a, b, h, rest)
  where
    one : (p q : Bool) → cond (p && q) 1 0 ≤ cond q 1 0
    one true q = omega arith
    one false true = omega arith
    one false false = omega arith

pub few_wait : FewWait
few_wait group sealed ended history most low = record { most = most; open_epoch = λ lane is none. let h = within lane (sealed + 1) history in omega (arith, h, low) }

push : (lane e : ℕ) (history : List Commit) (c : Commit) → of lane e (history ++ c ∷ []) ≡ of lane e history + cond ((c.entry.lane == lane) && (c.epoch == e)) 1 0
push lane e history c = sum_by_push (λ (d : Commit). cond ((d.entry.lane == lane) && (d.epoch == e)) 1 0) history c

is_eq : (n m : ℕ) → (n == m) ≡ true → n ≡ m
is_eq n m h = grind (arith, h)

-- a commit of another lane or epoch adds nothing
adds_one : (p q : Bool) → cond (p && q) 1 0 ≤ 1
adds_one true true = omega arith
adds_one true false = omega arith
adds_one false q = omega arith

pub few_more : FewMore
few_more group sealed ended history c few is none epoch lane e = by (c.entry.lane == lane) (c.epoch == e) refl refl
  where
    by : (p q : Bool) → (c.entry.lane == lane) ≡ p → (c.epoch == e) ≡ q → of lane e (history ++ c ∷ []) ≤ group
    by true true a b =
        let here : of c.entry.lane (sealed + 1) history < group = few.open_epoch c.entry.lane is none in
        let there : of lane e history < group = subst (λ n. of n e history < group) (is_eq c.entry.lane lane a) (subst (λ n. of c.entry.lane n history < group) (sym epoch ∙ is_eq c.epoch e b) here) in
        let p = push lane e history c in
        let o = adds_one (c.entry.lane == lane) (c.epoch == e) in
        omega (arith, there, p, o)
    by true false a b =
        let p = push lane e history c in let z : cond ((c.entry.lane == lane) && (c.epoch == e)) 1 0 ≡ 0 = ap {B = ℕ} (λ x. cond ((c.entry.lane == lane) && x) 1 0) b ∙ ap {B = ℕ} (λ x. cond (x && false) 1 0) a in
        let m = few.most lane e in omega (arith, p, z, m)
    by false q a b =
        let p = push lane e history c in let z : cond ((c.entry.lane == lane) && (c.epoch == e)) 1 0 ≡ 0 = ap {B = ℕ} (λ x. cond (x && (c.epoch == e)) 1 0) a in
        let m = few.most lane e in omega (arith, p, z, m)

-- a lane that has not ended now had not before, and is not the one that ended
still : (ended after : List (Option RunFault)) (lane other : ℕ) (fault : RunFault) → EndsLane ended after lane fault → IsLane other → fault_of after other ≡ None → (other ≢ lane) × (fault_of ended other ≡ None)
still ended after lane other fault ends is none = (apart, sym (ends.others other is.0 apart) ∙ none)
  where
    apart : other ≢ lane
    apart same = absurd (let e : ◌≡◌ {A = Option RunFault} None (Some fault) = sym none ∙ ap (fault_of after) same ∙ ends.ended in cc)

pub few_less : FewLess
few_less group sealed ended after history lane fault few ends = record { most = few.most; open_epoch = λ other is none. few.open_epoch other is (still ended after lane other fault ends is none).1 }

pub few_end : FewEnd
few_end group sealed ended after history c fault few is none epoch ends = record {
  most = few_more group sealed ended history c few is none epoch;
  open_epoch = λ other here left. by other here (still ended after c.entry.lane other fault ends here left);
}
  where
    by : (other : ℕ) → IsLane other → (other ≢ c.entry.lane) × (fault_of ended other ≡ None) → of other (sealed + 1) (history ++ c ∷ []) < group
    by other here (apart, was) = at (c.entry.lane == other) refl
      where
        at : (p : Bool) → (c.entry.lane == other) ≡ p → of other (sealed + 1) (history ++ c ∷ []) < group
        at true a = absurd (apart (sym (is_eq c.entry.lane other a)))
        at false a =
            let p = push other (sealed + 1) history c in let z : cond ((c.entry.lane == other) && (c.epoch == sealed + 1)) 1 0 ≡ 0 = ap {B = ℕ} (λ x. cond (x && (c.epoch == sealed + 1)) 1 0) a in
            let m = few.open_epoch other here was in omega (arith, p, z, m)

-- How the fault of a run of lanes is told.
use Rattle.std.proofs.Common.{◌≡◌, ◌⊎◌, inl, inr, ⊎_elim, ℕ, ◌+◌, ◌-◌, ◌<◌, ◌≤◌, cond, is_some, true, List, [], ◌∷◌, ◌++◌, length, Option, Some, None, refl, sym, ap, ◌∙◌, subst, arith}
use Rattle.std.specs.Prelude.{Contains, count_by, get_or, option_map, slice_get, replicate}
use Rattle.std.specs.List.{range_with_len}
use Rattle.std.proofs.lemmas.List.{append-nil, append_assoc, get_or-append-add, length-append}
use Rattle.std.proofs.lemmas.List.Elements.{All-contains, All-from_recursion, Contains-append_left, Contains-push, Contains-push_cases}
use Rattle.std.proofs.lemmas.List.Sums.{get_or-le-sum_by, sum_by-append, sum_by-cons}
use Rattle.std.proofs.lemmas.Option.{none-some, same_Some, slice_get-get_or, slice_get-map, slice_get_within, unwrap_or-slice_get}
use Rattle.fine_model.specs.declared.Damage.{Damage}
use Rattle.fine_model.specs.declared.Options.{Options}
use Rattle.fine_model.specs.declared.Outcome.{Outcome}
use Rattle.fine_model.specs.declared.Outcome.TheVariants as outcome
use Rattle.fine_model.specs.declared.Ran.{Ran}
use Rattle.fine_model.specs.declared.RunFault.{RunFault}
use Rattle.fine_model.specs.declared.RunFault.TheVariants as run_fault
use Rattle.fine_model.specs.declared.ScriptTxn.{ScriptTxn}
use Rattle.fine_model.specs.declared.law.Origin.{Origin}
use Rattle.fine_model.specs.Buckets.{Began}
use Rattle.fine_model.specs.Faults.{HasRisen, last_count}
use Rattle.fine_model.specs.Outcomes.{AllRun, HasRun, lanes_not_run}
use Rattle.fine_model.specs.Report.{all_outcomes}
use Rattle.fine_hall.specs.declared.law.Beginning.{Beginning}
use Rattle.hall_rooms.specs.Rooms.{RoomPass}
use Rattle.epoch_room.specs.Value.{RoomValue}
use Rattle.epoch_room.proofs.OpenEpochs.Ending.{risen_since}
use Rattle.run_laws.specs.Lanes.{CutShort, HaveEnded, IsSoonest, fault_of, first_fault, is_disk, lanes_failed, most_lanes, rank, with_last}
use Rattle.run_laws.specs.Runs.{OfSound, OwnRose, TellsFault}
use Rattle.run_laws.proofs.CutShort.{cut_short_law}
use Rattle.run_laws.proofs.Soonest.{is_soonest}
use Rattle.lane_laws.specs.Joined.{LanesJoined}
use Rattle.lane_laws.specs.Lanes.{GoesOn, LaneValue}
use Rattle.lane_laws.proofs.Places.{place_of}
use Rattle.lane_laws.proofs.Rooms as rooms

-- ---- the fault that is told of several

module _ (faults : List (Option RunFault)) where
  abbrev fault : Option RunFault
  fault = first_fault faults

  soon : IsSoonest faults fault
  soon = is_soonest faults

  -- the told fault is one of them
  pub is_among : (f : RunFault) → first_fault faults ≡ Some f → Contains faults (Some f)
  is_among f is = ⊎_elim (λ none. absurd (none-some f (sym none ∙ is))) (λ there. subst (Contains faults) is there) soon.among

  most : (o : Option RunFault) → Contains faults o → rank fault ≤ rank o
  most o there = All-contains (λ p. rank fault ≤ rank p) faults o (All-from_recursion (λ p. rank fault ≤ rank p) faults soon.soonest) there

  -- want of memory is told before all others
  pub memory_told : Contains faults (Some run_fault.Memory) → first_fault faults ≡ Some run_fault.Memory
  memory_told there = by fault refl
    where
      by : (o : Option RunFault) → fault ≡ o → fault ≡ Some run_fault.Memory
      by None is = let h = most (Some run_fault.Memory) there in let e : rank fault ≡ 3 = ap rank is in absurd (omega (arith, h, e))
      by (Some run_fault.Memory) is = is
      by (Some run_fault.Disk) is = let h = most (Some run_fault.Memory) there in let e : rank fault ≡ 1 = ap rank is in absurd (omega (arith, h, e))
      by (Some (run_fault.Damaged what)) is = let h = most (Some run_fault.Memory) there in let e : rank fault ≡ 2 = ap rank is in absurd (omega (arith, h, e))

  -- a failed disk is told, unless memory ran out too
  pub disk_told : Contains faults (Some run_fault.Disk) → (first_fault faults ≡ Some run_fault.Disk) ⊎ (first_fault faults ≡ Some run_fault.Memory)
  disk_told there = by fault refl
    where
      by : (o : Option RunFault) → fault ≡ o → (fault ≡ Some run_fault.Disk) ⊎ (fault ≡ Some run_fault.Memory)
      by None is = let h = most (Some run_fault.Disk) there in let e : rank fault ≡ 3 = ap rank is in absurd (omega (arith, h, e))
      by (Some run_fault.Memory) is = inr is
      by (Some run_fault.Disk) is = inl is
      by (Some (run_fault.Damaged what)) is = let h = most (Some run_fault.Disk) there in let e : rank fault ≡ 2 = ap rank is in absurd (omega (arith, h, e))

  -- where none is told there is none
  pub none_told : first_fault faults ≡ None → (f : RunFault) → Contains faults (Some f) → ⊥
  none_told is f there = by f (subst (λ o. rank o ≤ rank (Some f)) is (most (Some f) there))
    where
      by : (f : RunFault) → 3 ≤ rank (Some f) → ⊥
      by run_fault.Memory h = omega (arith, h)
      by run_fault.Disk h = omega (arith, h)
      by (run_fault.Damaged what) h = omega (arith, h)

-- ---- with one more, which ended no lane

pub last_or : (faults : List (Option RunFault)) (last : Option RunFault) (f : RunFault) → Contains (with_last faults last) (Some f) → Contains faults (Some f) ⊎ (last ≡ Some f)
last_or faults None f there = inl there
last_or faults (Some g) f there = Contains-push_cases faults (Some g) (Some f) there

pub with_others : (faults : List (Option RunFault)) (last o : Option RunFault) → Contains faults o → Contains (with_last faults last) o
with_others faults None o there = there
with_others faults (Some g) o there = Contains-append_left faults (Some g ∷ []) o there

pub with_this : (faults : List (Option RunFault)) (last : Option RunFault) (f : RunFault) → last ≡ Some f → Contains (with_last faults last) (Some f)
with_this faults None f is = absurd (none-some f is)
with_this faults (Some g) f is = subst (Contains (faults ++ Some g ∷ [])) is (Contains-push faults (Some g))

-- ---- how many a failed disk ended

abbrev one : Option RunFault → ℕ
one o = cond (is_disk o) 1 0

disk_counts : (faults : List (Option RunFault)) → Contains faults (Some run_fault.Disk) → 1 ≤ count_by is_disk faults
disk_counts faults (k, lt, is) = subst (λ o. one o ≤ count_by is_disk faults) is (get_or-le-sum_by one faults k (Some run_fault.Disk) lt)

fault_at : (before left : List (Option RunFault)) (f : Option RunFault) (a : ℕ) → a ≡ length before + 1 → fault_of (before ++ f ∷ left) a ≡ f
fault_at before left f a at =
    let same : a - 1 ≡ length before + 0 = omega (arith, at) in
    unwrap_or-slice_get (before ++ f ∷ left) (a - 1) None ∙ (ap (λ n. get_or (before ++ f ∷ left) n None) same ∙ get_or-append-add before (f ∷ left) 0 None)

-- counted by the numbers of lanes, or one after the other
counted : (before left : List (Option RunFault)) (a : ℕ) → a ≡ length before + 1 → count_by (λ lane. is_disk (fault_of (before ++ left) lane)) (range_with_len a (length left)) ≡ count_by is_disk left
counted before [] a at = refl
counted before (f ∷ left) a at =
    let c = sum_by-cons (λ lane. one (fault_of (before ++ f ∷ left) lane)) a (range_with_len (a + 1) (length left)) in
    let d = sum_by-cons one f left in
    let here : one (fault_of (before ++ f ∷ left) a) ≡ one f = ap one (fault_at before left f a at) in
    let long = length-append before (f ∷ []) in
    let rest : count_by (λ lane. is_disk (fault_of (before ++ f ∷ left) lane)) (range_with_len (a + 1) (length left)) ≡ count_by is_disk left =
    subst (λ l. count_by (λ lane. is_disk (fault_of l lane)) (range_with_len (a + 1) (length left)) ≡ count_by is_disk left) (append_assoc before (f ∷ []) left)
    (counted (before ++ f ∷ []) left (a + 1) (omega (arith, at, long))) in
    omega (arith, c, d, here, rest)

pub failed_are : (faults : List (Option RunFault)) → length faults ≡ most_lanes → lanes_failed faults ≡ count_by is_disk faults
failed_are faults count = subst (λ n. count_by (λ lane. is_disk (fault_of faults lane)) (range_with_len 1 n) ≡ count_by is_disk faults) count (counted [] faults 1 (omega arith))

-- ---- outcomes

is_run : (o : Outcome) → HasRun o → o ≡ outcome.NotRun → ⊥
is_run o ran is = subst HasRun is ran

module _ (x : Beginning) (script : List ScriptTxn) (options : Options) (old back new : RoomValue) (passes : List RoomPass) (workers : List LaneValue) (ended : List (Option RunFault)) (merger last : Option RunFault) (ran : Ran)
    (j : LanesJoined x script options old back new passes workers ended merger last ran) where
  -- the faults of lanes and that of the merger, and with them that of the last seal
  abbrev pub of_threads : List (Option RunFault)
  of_threads = ended ++ merger ∷ []

  abbrev pub of_all : List (Option RunFault)
  of_all = with_last of_threads last

  -- ---- what was not run

  pub as_told : all_outcomes script ran.outcomes ≡ ran.outcomes
  as_told = ap (λ n. ran.outcomes ++ replicate n outcome.NotRun) none ∙ append-nil ran.outcomes
    where
      none : length script - length ran.outcomes ≡ 0
      none = let c = j.outcomes.count in omega (arith, c)

  -- a lane that goes on ran each of its transactions
  lane_ran : (k : ℕ) (w : LaneValue) → slice_get workers k ≡ Some w → GoesOn w → (i : ℕ) (txn : ScriptTxn) → slice_get script i ≡ Some txn → txn.lane ≡ w.lane → slice_get ran.outcomes i ≡ Some outcome.NotRun → ⊥
  lane_ran k w there goes i txn is of_lane not_run =
      let (m, p, at, number, done) = j.lanes k w there in
      let at_place = place_of script w.lane i txn is of_lane in
      let place : slice_get w.work.at at_place.0 ≡ Some i = ap (λ l. slice_get l at_place.0) done.has.at ∙ at_place.1 in
      let few = slice_get_within w.work.at at_place.0 i place in
      let long = done.finished goes in
      let next = get_or w.work.done at_place.0 outcome.NotRun in
      let told : slice_get w.work.done at_place.0 ≡ Some next = slice_get-get_or w.work.done at_place.0 outcome.NotRun (omega (arith, few, long)) in
      let has_run = (done.has.done.each at_place.0 i txn next place is told).1 in
      let has_outcome = j.outcomes.done i next (record { work = k; place = at_place.0; is = w.work; there = slice_get-map (λ (v : LaneValue). v.work) workers k ∙ ap (option_map (λ (v : LaneValue). v.work)) there; at = place; done = told }) in
      is_run next has_run (same_Some next outcome.NotRun (sym has_outcome ∙ not_run))

  pub have_ended : HaveEnded script ran.outcomes ended
  have_ended i txn is not_run = by (fault_of ended txn.lane) refl
    where
      by : (o : Option RunFault) → fault_of ended txn.lane ≡ o → is_some (fault_of ended txn.lane) ≡ true
      by (Some f) told = ap is_some told
      by None told =
          let (k, w, there, of_lane) = j.workers_are.every i txn is in
          absurd (lane_ran k w there (j.are_ended.goes_on k w there (ap (fault_of ended) of_lane ∙ told)) i txn is (sym of_lane) not_run)

  pub cut : CutShort script ran.outcomes ended
  cut = cut_short_law script ran.outcomes ended j.outcomes.count have_ended

  -- ---- what is told

  told_by_thread : (o : Option RunFault) → Contains of_threads o → Contains of_all o
  told_by_thread o there = with_others of_threads last o there

  told_by_lane : (o : Option RunFault) → Contains ended o → Contains of_all o
  told_by_lane o there = told_by_thread o (Contains-append_left ended (merger ∷ []) o there)

  pub told_last : (f : RunFault) → last ≡ Some f → Contains of_all (Some f)
  told_last f is = with_this of_threads last f is

  among : (f : RunFault) → ran.fault ≡ Some f → Contains of_threads (Some f) ⊎ (last ≡ Some f)
  among f is = last_or of_threads last f (is_among of_all f (sym j.fault ∙ is))

  pub memory_is : Contains of_all (Some run_fault.Memory) → ran.fault ≡ Some run_fault.Memory
  memory_is there = j.fault ∙ memory_told of_all there

  pub disk_is : Contains of_all (Some run_fault.Disk) → (ran.fault ≡ Some run_fault.Disk) ⊎ (ran.fault ≡ Some run_fault.Memory)
  disk_is there = ⊎_elim (λ is. inl (j.fault ∙ is)) (λ is. inr (j.fault ∙ is)) (disk_told of_all there)

  pub none_is : ran.fault ≡ None → (f : RunFault) → Contains of_all (Some f) → ⊥
  none_is is f there = none_told of_all (sym j.fault ∙ is) f there

  pub none_by_thread : ran.fault ≡ None → (f : RunFault) → Contains of_threads (Some f) → ⊥
  none_by_thread is f there = none_is is f (told_by_thread (Some f) there)

  pub all_run : ran.fault ≡ None → AllRun (all_outcomes script ran.outcomes)
  all_run is = subst AllRun (sym as_told) (cut.all_run (λ f there. none_is is f (told_by_lane (Some f) there)))

  -- ---- a failed disk

  risen_by : Contains of_threads (Some run_fault.Disk) ⊎ (last ≡ Some run_fault.Disk) → HasRisen old.disk.faults new.disk.faults
  risen_by (inl there) = ⊎_elim
      (λ few. ⊎_elim
      (λ le. let c = disk_counts of_threads there in rooms.risen_more old.disk.faults new.disk.faults (omega (arith, few, le, c)))
      (λ le. rooms.risen_last old.disk.faults new.disk.faults le)
      (rooms.counted_low x script options old back new passes workers ended merger last ran j))
      (rooms.saw_risen x script options old back new passes workers ended merger last ran j) j.joined.at_most
  risen_by (inr is) = risen_since old.disk.faults back.disk.faults new.disk.faults (rooms.old_lower x script options old back new passes workers ended merger last ran j) (j.seals.failed is).0

  only_risen : ran.fault ≡ Some run_fault.Disk → HasRisen old.disk.faults new.disk.faults
  only_risen is = risen_by (among run_fault.Disk is)

  where_risen : old.disk.faults < new.disk.faults → (ran.fault ≡ Some run_fault.Disk) ⊎ (ran.fault ≡ Some run_fault.Memory)
  where_risen more = ⊎_elim
      (λ none. ⊎_elim
      (λ same. let high = rooms.counted_high x script options old back new passes workers ended merger last ran j in absurd (omega (arith, none, same, high, more)))
      (λ is. disk_is (told_last run_fault.Disk is))
      j.seals.clean)
      (λ either. ⊎_elim (λ there. disk_is (told_by_thread (Some run_fault.Disk) there)) (λ there. inr (memory_is (told_by_thread (Some run_fault.Memory) there))) either)
      j.joined.clean

  -- ---- damage

  damaged : (what : Damage) → ran.fault ≡ Some (run_fault.Damaged what) → Contains of_threads (Some (run_fault.Damaged what))
  damaged what is = ⊎_elim (λ there. there) (λ by_seal. absurd (j.seals.undamaged what by_seal)) (among (run_fault.Damaged what) is)

  -- no thread tells damage of a sound log
  none_damaged : (what : Damage) → Contains of_threads (Some (run_fault.Damaged what)) → OfSound old (λ first e. ⊥)
  none_damaged what there first e began stands = (j.joined.unsound what there).0 e first (subst (λ (log : Origin). Began log e first) (sym j.opens.log) began)

  -- ---- each lane that was cut short

  of_disk : ran.fault ≡ Some run_fault.Disk → OfSound old (λ first e. (f : RunFault) → Contains ended (Some f) → f ≡ run_fault.Disk)
  of_disk is first e began stands run_fault.Memory there = same_Some run_fault.Memory run_fault.Disk (sym (memory_is (told_by_lane (Some run_fault.Memory) there)) ∙ is)
  of_disk is first e began stands run_fault.Disk there = refl
  of_disk is first e began stands (run_fault.Damaged what) there = absurd (none_damaged what (Contains-append_left ended (merger ∷ []) (Some (run_fault.Damaged what)) there) first e began stands)

  failed_few : lanes_failed ended ≤ count_by is_disk of_threads
  failed_few = let a = failed_are ended j.are_ended.count in let b = sum_by-append one ended (merger ∷ []) in omega (arith, a, b)

  abbrev HasCalls : ℕ → Type 0
  HasCalls lanes = (lanes ≤ new.disk.faults - old.disk.faults) ⊎ (last_count ≤ new.disk.faults)

  enough : (lanes : ℕ) → lanes ≤ count_by is_disk of_threads → ¬ OwnRose old new → HasCalls lanes
  enough lanes few not = ⊎_elim
      (λ most. ⊎_elim (λ le. inl (omega (arith, few, most, le))) inr (rooms.counted_low x script options old back new passes workers ended merger last ran j))
      (λ saw. ⊎_elim (λ both. absurd (not both.0)) inr (rooms.saw_shut x script options old back new passes workers ended merger last ran j saw))
      j.joined.at_most

  one_each : ran.fault ≡ Some run_fault.Disk → ¬ OwnRose old new → OfSound old (λ first e. HasCalls (lanes_not_run script (all_outcomes script ran.outcomes)))
  one_each is not first e began stands =
      let few = cut.few (of_disk is first e began stands) in
      let all = failed_few in
      enough (lanes_not_run script (all_outcomes script ran.outcomes)) (subst (λ os. lanes_not_run script os ≤ count_by is_disk of_threads) (sym as_told) (omega (arith, few, all))) not

  pub tells : TellsFault script (all_outcomes script ran.outcomes) old new ran.fault
  tells = record {
    only_risen = only_risen;
    where_risen = where_risen;
    no_lower = rooms.no_lower x script options old back new passes workers ended merger last ran j;
    unsound = λ what is. none_damaged what (damaged what is);
    placed = λ what is. (j.joined.unsound what (damaged what is)).1;
    one_each = one_each;
  }

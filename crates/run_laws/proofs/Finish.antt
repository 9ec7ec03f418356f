-- That the body on one thread gives a run.
use Rattle.std.proofs.Common.{◌≡◌, ◌⊎◌, inl, inr, ⊎_elim, ℕ, zero, suc, ◌+◌, ◌-◌, ◌≤◌, ◌==◌, Bool, true, false, List, [], ◌∷◌, ◌++◌, length, refl, sym, ap, ◌∙◌, subst, Option, Some, None, le_refl, arith}
use Rattle.std.specs.Prelude.{Contains, option_map, take, replicate}
use Rattle.std.specs.List.{AllByRecursion}
use Rattle.std.proofs.lemmas.List.{append-nil, take_all}
use Rattle.std.proofs.lemmas.List.Sums.{length-filter}
use Rattle.log_disk.specs.Disk.{Told}
use Rattle.fine_model.specs.declared.Options.{Options}
use Rattle.fine_model.specs.declared.Outcome.{Outcome}
use Rattle.fine_model.specs.declared.Outcome.TheVariants as outcome
use Rattle.fine_model.specs.declared.Row.{Row}
use Rattle.fine_model.specs.declared.RunFault.{RunFault}
use Rattle.fine_model.specs.declared.RunFault.TheVariants as run_fault
use Rattle.fine_model.specs.declared.ScriptTxn.{ScriptTxn}
use Rattle.fine_model.specs.declared.law.Origin.{Origin}
use Rattle.fine_model.specs.declared.law.RoomState.{RoomState}
use Rattle.fine_model.specs.Buckets.{Began}
use Rattle.fine_model.specs.Causes.{HaveCauses, IsFullInNeed}
use Rattle.fine_model.specs.Faults.{HasRisen, last_count}
use Rattle.fine_model.specs.History.{Commit, last_epoch}
use Rattle.fine_model.specs.Outcomes.{AllRun, AreOutcomes, lanes_not_run}
use Rattle.fine_model.specs.Report.{all_outcomes}
use Rattle.fine_model.proofs.Histories.Epochs.{all_sealed}
use Rattle.epoch_room.specs.Meaning.{Stands, StandsTold, origin_of}
use Rattle.epoch_room.specs.Value.{RoomValue}
use Rattle.run_laws.specs.Lanes.{CutShort, HaveEnded, IsSoonest, first_fault, lanes_failed, rank}
use Rattle.run_laws.specs.Runs.{IsReady, IsToSeal, OfSound, OwnRose, RunsScript}
use Rattle.run_laws.specs.SoFar.{Finished, FinishedLaw}
use Rattle.run_laws.specs.Turns.{commits_of}
use Rattle.run_laws.proofs.Caused.{causes_law}
use Rattle.run_laws.proofs.CutShort.{cut_short_law}
use Rattle.run_laws.proofs.Runs.{image_told, told_of}
use Rattle.run_laws.proofs.NoEyes.{no_eyes}
use Rattle.run_laws.proofs.Soonest.{is_soonest}
use Rattle.run_laws.proofs.Turns.{in_turn_law}

-- what holds of all holds of one of them
at_one : (P : Option RunFault → Type 0) (faults : List (Option RunFault)) (x : Option RunFault) → AllByRecursion P faults → Contains faults x → P x
at_one P [] x all (k, within, is) = absurd (omega (arith, within))
at_one P (f ∷ faults) x all (zero, within, is) = subst P is all.0
at_one P (f ∷ faults) x all (suc k, within, is) = at_one P faults x all.1 (k, omega (arith, within), is)

module _ (script : List ScriptTxn) (options : Options) (entry room : RoomValue) (done : List Outcome) (ended told : List (Option RunFault)) (unsealed : Bool) (ready : IsReady entry) (f : Finished script options entry room done ended told) where
  abbrev history : List Commit
  history = commits_of done

  abbrev fault : Option RunFault
  fault = first_fault told

  soon : IsSoonest told fault
  soon = is_soonest told

  -- a fault that is told is one of them
  among : (x : RunFault) → fault ≡ Some x → Contains told (Some x)
  among x is = ⊎_elim (λ none. absurd (let e : ◌≡◌ {A = Option RunFault} None (Some x) = sym none ∙ is in cc)) (λ there. subst (Contains told) is there) soon.among

  most : (x : Option RunFault) → Contains told x → rank fault ≤ rank x
  most x there = at_one (λ y. rank fault ≤ rank y) told x soon.soonest there

  -- with want of memory among them it is told; a failed disk is told unless memory ran out too
  memory_told : Contains told (Some run_fault.Memory) → fault ≡ Some run_fault.Memory
  memory_told there = by fault refl
    where
      by : (o : Option RunFault) → fault ≡ o → fault ≡ Some run_fault.Memory
      by None is = let h = most (Some run_fault.Memory) there in let e : rank fault ≡ 3 = ap rank is in absurd (omega (arith, h, e))
      by (Some run_fault.Memory) is = is
      by (Some run_fault.Disk) is = let h = most (Some run_fault.Memory) there in let e : rank fault ≡ 1 = ap rank is in absurd (omega (arith, h, e))
      by (Some (run_fault.Damaged what)) is = let h = most (Some run_fault.Memory) there in let e : rank fault ≡ 2 = ap rank is in absurd (omega (arith, h, e))

  disk_told : Contains told (Some run_fault.Disk) → (fault ≡ Some run_fault.Disk) ⊎ (fault ≡ Some run_fault.Memory)
  disk_told there = by fault refl
    where
      by : (o : Option RunFault) → fault ≡ o → (fault ≡ Some run_fault.Disk) ⊎ (fault ≡ Some run_fault.Memory)
      by None is = let h = most (Some run_fault.Disk) there in let e : rank fault ≡ 3 = ap rank is in absurd (omega (arith, h, e))
      by (Some run_fault.Memory) is = inr is
      by (Some run_fault.Disk) is = inl is
      by (Some (run_fault.Damaged what)) is = let h = most (Some run_fault.Disk) there in let e : rank fault ≡ 2 = ap rank is in absurd (omega (arith, h, e))

  either : Contains told (Some run_fault.Disk) ⊎ Contains told (Some run_fault.Memory) → (fault ≡ Some run_fault.Disk) ⊎ (fault ≡ Some run_fault.Memory)
  either (inl there) = disk_told there
  either (inr there) = inr (memory_told there)

  none_told : fault ≡ None → (x : RunFault) → Contains told (Some x) → ⊥
  none_told is x there = by x (subst (λ o. rank o ≤ rank (Some x)) is (most (Some x) there))
    where
      by : (x : RunFault) → 3 ≤ rank (Some x) → ⊥
      by run_fault.Memory h = omega (arith, h)
      by run_fault.Disk h = omega (arith, h)
      by (run_fault.Damaged what) h = omega (arith, h)

  -- ---- outcomes

  as_told : all_outcomes script done ≡ done
  as_told = ap (λ n. done ++ replicate n outcome.NotRun) none ∙ append-nil done
    where
      none : length script - length done ≡ 0
      none = let c = f.so_far.count in omega (arith, c)

  whole_script : take (length script) script ≡ script
  whole_script = take_all (length script) script (le_refl (length script))

  outcomes : AreOutcomes script entry.room.sealed done history
  outcomes = subst (λ s. AreOutcomes s entry.room.sealed done history) whole_script
      (in_turn_law (take (length script) script) entry.room.sealed done f.so_far.each f.so_far.numbered f.so_far.last_ones f.goes_on.epochs)

  cut : CutShort script done ended
  cut = cut_short_law script done ended f.so_far.count (subst (λ s. HaveEnded s done ended) whole_script f.so_far.ends)

  -- ---- the room

  image_is : room.room.image ≡ option_map (λ (t : Told). t.bytes) room.disk.told
  image_is = ap (λ (x : RoomState). x.image) f.goes_on.whole.of_disk

  len : room.room.region_len ≡ entry.room.region_len
  len = ap (λ (x : RoomState). x.region_len) f.goes_on.whole.of_disk ∙ f.goes_on.region_len ∙ sym (ap (λ (x : RoomState). x.region_len) ready.whole.of_disk)

  stands_told : (after : Told) (first : List Row) (e : ℕ) (began : Began (origin_of entry.entry) e first) → room.disk.told ≡ Some after → Stands room first e history → (before : Told) × StandsTold room.room before after first e history
  stands_told after first e began last stands =
      let again = image_told room.entry began.image (ap (λ (o : Origin). o.image) (ap origin_of f.goes_on.same_entry) ∙ began.told) in
      (again.0, told_of room again.0 after first e history again.1 last stands)

  caused : (after : Told) → room.disk.told ≡ Some after → OfSound entry (λ first e. HaveCauses entry.room.region_len first after.bytes script done history room.room.sealed)
  caused after last first e began stands =
      let s = (stands_told after first e began last (f.goes_on.stands first e began stands)).1 in
      subst (λ n. HaveCauses n first after.bytes script done history room.room.sealed) len
      (causes_law script done room.room after.bytes first e f.so_far.numbered (f.refused first e began stands) f.none_behind s.stands.counts.epochs s.stands.counts.sealed f.goes_on.waiting
      (image_is ∙ ap (option_map (λ (t : Told). t.bytes)) last) s.stands.live)

  -- a room that is shut is told, and was shut by a failure of the disk's own
  own_rose : room.room.is_shut ≡ true → OwnRose entry room
  unfolding origin_of
  own_rose shut = subst (λ n. HasRisen n room.disk.own_faults) (ap (λ (o : Origin). o.own_faults) (ap origin_of f.goes_on.same_entry) ∙ ap (λ d. d.own_faults) (sym ready.at_entry)) (f.goes_on.whole.entry.failed shut).0

  all_sealed_if : IsToSeal entry room fault → room.room.sealed ≡ last_epoch entry.room.sealed history
  all_sealed_if to = all_sealed entry.room.sealed history room.room.sealed f.goes_on.sealed (sym (length-filter (λ (c : Commit). c.epoch == room.room.sealed + 1) history ∙ sym f.goes_on.waiting ∙ none_waits))
    where
      not_memory : ¬ Contains told (Some run_fault.Memory)
      not_memory there = ⊎_elim (λ is. let e : ◌≡◌ {A = Option RunFault} None (Some run_fault.Memory) = sym is ∙ memory_told there in cc) (λ (both : (fault ≡ Some run_fault.Memory → ⊥) × (OwnRose entry room → ⊥)). both.0 (memory_told there)) to

      open_now : (b : Bool) → room.room.is_shut ≡ b → room.room.is_shut ≡ false
      open_now false is = is
      open_now true is = absurd (⊎_elim (λ none. ⊎_elim (λ there. none_told none run_fault.Disk there) (λ there. none_told none run_fault.Memory there) (f.tells.shut is)) (λ (both : (fault ≡ Some run_fault.Memory → ⊥) × (OwnRose entry room → ⊥)). both.1 (own_rose is)) to)

      none_waits : room.room.waiting ≡ 0
      none_waits = f.sealed (open_now room.room.is_shut refl) not_memory

  -- ---- faults

  by_disk : ¬ OwnRose entry room → fault ≡ Some run_fault.Disk → OfSound entry (λ first e. (lanes_not_run script done ≤ room.disk.faults - entry.disk.faults) ⊎ (last_count ≤ room.disk.faults))
  by_disk not is first e began stands = by f.tells.failed
    where
      of_disk : (x : RunFault) → Contains told (Some x) → x ≡ run_fault.Disk
      of_disk run_fault.Memory there = let e : ◌≡◌ {A = Option RunFault} (Some run_fault.Disk) (Some run_fault.Memory) = sym is ∙ memory_told there in cc
      of_disk run_fault.Disk there = refl
      of_disk (run_fault.Damaged what) there = absurd (f.tells.unsound what there first e began stands)

      by : OwnRose entry room ⊎ (lanes_failed ended + entry.disk.faults ≤ room.disk.faults) ⊎ (last_count ≤ room.disk.faults) → (lanes_not_run script done ≤ room.disk.faults - entry.disk.faults) ⊎ (last_count ≤ room.disk.faults)
      by (inl rose) = absurd (not rose)
      by (inr (inl few)) = let h = cut.few (λ x there. of_disk x (f.tells.all x there)) in inl (omega (arith, few, h))
      by (inr (inr high)) = inr high

  low : entry.disk.faults ≤ room.disk.faults
  unfolding origin_of
  low = subst (λ n. n ≤ room.disk.faults) (ap (λ (o : Origin). o.faults) (ap origin_of f.goes_on.same_entry) ∙ ap (λ d. d.faults) (sym ready.at_entry)) f.goes_on.whole.entry.no_lower.0

  own_low : entry.disk.own_faults ≤ room.disk.own_faults
  unfolding origin_of
  own_low = subst (λ n. n ≤ room.disk.own_faults) (ap (λ (o : Origin). o.own_faults) (ap origin_of f.goes_on.same_entry) ∙ ap (λ d. d.own_faults) (sym ready.at_entry)) f.goes_on.whole.entry.no_lower.1

  ran : RunsScript script options entry room (record { outcomes = done; durable = room.room.sealed; fault = fault; unsealed = unsealed })
  ran = record {
    history = history;
    adds = record {
      has = f.goes_on.has;
      beside = record { regions = f.goes_on.regions; region_len = f.goes_on.region_len; no_eyes = no_eyes room f.goes_on.whole f.board; board = f.board; no_job = f.goes_on.no_job; origin = ap origin_of f.goes_on.same_entry };
    };
    outcomes = subst (λ os. AreOutcomes script entry.room.sealed os history) (sym as_told) outcomes;
    each_told = inl f.so_far.count;
    replied = f.so_far.replied;
    all_run = λ none. subst AllRun (sym as_told) (cut.all_run (λ x there. none_told none x (f.tells.all x there)));
    few_each = f.few;
    in_need = λ one first e began stands. f.in_need one;
    last_need = λ one first e began stands.
        subst (λ os. IsFullInNeed entry.room.region_len options.group entry.room.sealed first script os history) (sym as_told) (f.last_need one first e began stands);
    durable = refl;
    all_durable = all_sealed_if;
    causes = λ after last first e began stands. subst (λ os. HaveCauses entry.room.region_len first after.bytes script os history room.room.sealed) (sym as_told) (caused after last first e began stands);
    fault = record {
      only_risen = λ is. f.tells.only_risen (among run_fault.Disk is);
      where_risen = λ risen. either (f.tells.where_risen risen);
      no_lower = (low, own_low);
      unsound = λ what is. f.tells.unsound what (among (run_fault.Damaged what) is);
      placed = λ what is. f.tells.placed what (among (run_fault.Damaged what) is);
      one_each = λ is not first e began stands. subst (λ os. (lanes_not_run script os ≤ room.disk.faults - entry.disk.faults) ⊎ (last_count ≤ room.disk.faults)) (sym as_told) (by_disk not is first e began stands);
    };
  }

pub finished_law : FinishedLaw
finished_law script options entry room done ended told unsealed ready f = ran script options entry room done ended told unsealed ready f

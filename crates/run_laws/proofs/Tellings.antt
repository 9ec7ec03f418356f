-- What faults of the body on one thread tell, step by step.
use Rattle.std.proofs.Common.{◌≡◌, ◌⊎◌, inl, inr, ⊎_elim, ℕ, zero, suc, ◌+◌, ◌-◌, ◌<◌, ◌≤◌, min, Bool, true, false, List, [], ◌∷◌, ◌++◌, length, Option, Some, None, refl, sym, ap, ◌∙◌, subst, arith}
use Rattle.std.specs.Prelude.{Contains, nat_le, slice_get, slice_set, unwrap_or}
use Rattle.fine_model.specs.declared.RunFault.{RunFault}
use Rattle.fine_model.specs.declared.RunFault.TheVariants as run_fault
use Rattle.fine_model.specs.Damages.{IsPlaceOrNode}
use Rattle.fine_model.specs.Faults.{HasRisen, last_count}
use Rattle.fine_model.specs.History.{Commit}
use Rattle.epoch_room.specs.Meaning.{origin_of}
use Rattle.epoch_room.specs.Value.{RoomValue}
use Rattle.room_shelf.specs.Shelves.{IsCountOf}
use Rattle.run_laws.specs.Lanes.{lanes_failed}
use Rattle.run_laws.specs.Runs.{IsReady, OwnRose}
use Rattle.run_laws.specs.SoFar.{AreTold, GoesOn}
use Rattle.run_laws.specs.Told.{MoreBeside, MoreByLane, TellsMore, ToldMore, ToldOne, ToldStays}

-- ---- one fault more

abbrev Faults : Type 0
Faults = List (Option RunFault)

pub more_beside : MoreBeside
more_beside told fault = record { there = there told; stays = λ other is_there. stays told other is_there; only = λ other is_there. only told other is_there }
  where
    later : (x : Option RunFault) (faults : Faults) (other : RunFault) → Contains faults (Some other) → Contains (x ∷ faults) (Some other)
    later x faults other (k, within, is) = (suc k, omega (arith, within), is)

    there : (faults : Faults) → Contains (faults ++ Some fault ∷ []) (Some fault)
    there [] = (0, omega arith, refl)
    there (x ∷ faults) = later x (faults ++ Some fault ∷ []) fault (there faults)

    stays : (faults : Faults) (other : RunFault) → Contains faults (Some other) → Contains (faults ++ Some fault ∷ []) (Some other)
    stays [] other (k, within, is) = absurd (omega (arith, within))
    stays (x ∷ faults) other (zero, within, is) = (0, omega arith, is)
    stays (x ∷ faults) other (suc k, within, is) = later x (faults ++ Some fault ∷ []) other (stays faults other (k, omega (arith, within), is))

    only : (faults : Faults) (other : RunFault) → Contains (faults ++ Some fault ∷ []) (Some other) → Contains faults (Some other) ⊎ (other ≡ fault)
    only [] other (zero, within, is) = inr (let e : ◌≡◌ {A = Option RunFault} (Some fault) (Some other) = is in cc)
    only [] other (suc k, within, is) = absurd (omega (arith, within))
    only (x ∷ faults) other (zero, within, is) = inl (0, omega arith, is)
    only (x ∷ faults) other (suc k, within, is) = ⊎_elim (λ h. inl (later x faults other h)) (λ e. inr e) (only faults other (k, omega (arith, within), is))

-- by the place in the list
put_there : (faults : Faults) (at : ℕ) (fault : RunFault) → at < length faults → Contains (slice_set faults at (Some fault)) (Some fault)
put_there [] at fault low = absurd (omega (arith, low))
put_there (x ∷ faults) zero fault low = (0, omega arith, refl)
put_there (x ∷ faults) (suc at) fault low = let h = put_there faults at fault (omega (arith, low)) in (suc h.0, (let w = h.1 in omega (arith, w)), h.2)

put_stays : (faults : Faults) (at : ℕ) (fault other : RunFault) → ((was : RunFault) → slice_get faults at ≡ Some (Some was) → ⊥) → Contains faults (Some other) → Contains (slice_set faults at (Some fault)) (Some other)
put_stays [] at fault other none there = there
put_stays (x ∷ faults) zero fault other none (zero, within, is) = absurd (none other (ap Some is))
put_stays (x ∷ faults) zero fault other none (suc k, within, is) = (suc k, within, is)
put_stays (x ∷ faults) (suc at) fault other none (zero, within, is) = (0, omega arith, is)
put_stays (x ∷ faults) (suc at) fault other none (suc k, within, is) = let h = put_stays faults at fault other none (k, omega (arith, within), is) in (suc h.0, (let w = h.1 in omega (arith, w)), h.2)

put_only : (faults : Faults) (at : ℕ) (fault other : RunFault) → Contains (slice_set faults at (Some fault)) (Some other) → Contains faults (Some other) ⊎ (other ≡ fault)
put_only [] at fault other there = inl there
put_only (x ∷ faults) zero fault other (zero, within, is) = inr (let e : ◌≡◌ {A = Option RunFault} (Some fault) (Some other) = is in cc)
put_only (x ∷ faults) zero fault other (suc k, within, is) = inl (suc k, within, is)
put_only (x ∷ faults) (suc at) fault other (zero, within, is) = inl (0, omega arith, is)
put_only (x ∷ faults) (suc at) fault other (suc k, within, is) = by (put_only faults at fault other (k, omega (arith, within), is))
  where
    by : Contains faults (Some other) ⊎ (other ≡ fault) → Contains (x ∷ faults) (Some other) ⊎ (other ≡ fault)
    by (inl h) = inl (suc h.0, (let w = h.1 in omega (arith, w)), h.2)
    by (inr e) = inr e

pub more_by_lane : MoreByLane
more_by_lane ended lane fault long is none = record {
  there = put_there ended (lane - 1) fault (let a = is.0 in let b = is.1 in omega (arith, a, b, long));
  stays = λ other there. put_stays ended (lane - 1) fault other not there;
  only = λ other there. put_only ended (lane - 1) fault other there;
}
  where
    not : (was : RunFault) → slice_get ended (lane - 1) ≡ Some (Some was) → ⊥
    not was at = absurd (let e : ◌≡◌ {A = Option RunFault} None (Some was) = sym none ∙ ap (λ o. unwrap_or o None) at in cc)

-- ---- nothing failed

own_later : (a b c : ℕ) → HasRisen a b → b ≤ c → HasRisen a c
own_later a b c r low = grind (arith, r, low)

still_low : (e count now : ℕ) → IsCountOf count now → min e last_count ≤ count → min e last_count ≤ now
still_low e count now (inl same) low = omega (arith, same, low)
still_low e count now (inr same) low = grind (arith, same, low)

still_risen : (e count now : ℕ) → IsCountOf count now → HasRisen e count → HasRisen e now
still_risen e count now (inl same) r = subst (HasRisen e) (sym same) r
still_risen e count now (inr same) r = grind (arith, same, r)

was_higher : (e count now : ℕ) → IsCountOf count now → e < now → e < count
was_higher e count now (inl same) high = omega (arith, same, high)
was_higher e count now (inr same) high = grind (arith, same, high)

still_few : (few count now : ℕ) → IsCountOf count now → few ≤ count → (few ≤ now) ⊎ (last_count ≤ now)
still_few few count now (inl same) low = inl (omega (arith, same, low))
still_few few count now (inr same) low = by (nat_le count last_count) refl
  where
    by : (t : Bool) → nat_le count last_count ≡ t → (few ≤ now) ⊎ (last_count ≤ now)
    by true h = inl (grind (arith, same, low, h))
    by false h = inr (grind (arith, same, h))

still_last : (count now : ℕ) → IsCountOf count now → last_count ≤ count → last_count ≤ now
still_last count now (inl same) high = omega (arith, same, high)
still_last count now (inr same) high = grind (arith, same, high)

pub told_stays : ToldStays
told_stays entry old new count now ended told same own shut t = record {
  lanes = t.lanes;
  low = still_low entry.disk.faults count now same t.low;
  all = t.all;
  failed = by t.failed;
  only_risen = λ there. still_risen entry.disk.faults count now same (t.only_risen there);
  where_risen = λ risen. t.where_risen (was_higher entry.disk.faults count now same risen);
  shut = λ is. t.shut (sym shut ∙ is);
  unsound = t.unsound;
  placed = t.placed;
}
  where
    by : OwnRose entry old ⊎ (lanes_failed ended + entry.disk.faults ≤ count) ⊎ (last_count ≤ count) → OwnRose entry new ⊎ (lanes_failed ended + entry.disk.faults ≤ now) ⊎ (last_count ≤ now)
    by (inl rose) = inl (own_later entry.disk.own_faults old.disk.own_faults new.disk.own_faults rose own)
    by (inr (inl few)) = inr (still_few (lanes_failed ended + entry.disk.faults) count now same few)
    by (inr (inr high)) = inr (inr (still_last count now same high))

-- ---- a fault more

risen_on : (e count now : ℕ) → min e last_count ≤ count → HasRisen count now → HasRisen e now
risen_on e count now low r = grind (arith, low, r)

risen_later : (e count now : ℕ) → HasRisen e count → count ≤ now → HasRisen e now
risen_later e count now r low = grind (arith, r, low)

risen_total : (e d now : ℕ) → HasRisen e d → min d last_count ≤ now → HasRisen e now
risen_total e d now r low = grind (arith, r, low)

one_more_failed : (a b e count now : ℕ) → a ≤ b + 1 → b + e ≤ count → HasRisen count now → (a + e ≤ now) ⊎ (last_count ≤ now)
one_more_failed a b e count now more few r = by (nat_le last_count now) refl
  where
    by : (t : Bool) → nat_le last_count now ≡ t → (a + e ≤ now) ⊎ (last_count ≤ now)
    by true h = inr (grind (arith, h))
    by false h = inl (grind (arith, h, more, few, r))

module _ (entry old new : RoomValue) (count now : ℕ) (ended after told more : Faults) (history : List Commit) (ready : IsReady entry) (t : AreTold entry old count ended told) where
  -- a room that is shut was shut by a failure of the disk's own
  own_rose : GoesOn entry new history → new.room.is_shut ≡ true → OwnRose entry new
  unfolding origin_of
  own_rose g shut = subst (λ n. HasRisen n new.disk.own_faults) (ap (λ d. (origin_of d).own_faults) g.same_entry ∙ ap (λ d. d.own_faults) (sym ready.at_entry)) (g.whole.entry.failed shut).0

  all_rose : GoesOn entry new history → new.room.is_shut ≡ true → HasRisen entry.disk.faults new.disk.faults
  unfolding origin_of
  all_rose g shut = subst (λ n. HasRisen n new.disk.faults) (ap (λ d. (origin_of d).faults) g.same_entry ∙ ap (λ d. d.faults) (sym ready.at_entry)) (g.whole.entry.failed shut).1

  low_now : count ≤ now → min entry.disk.faults last_count ≤ now
  low_now low = let a = t.low in omega (arith, a, low)

  -- without a failed disk, what was told of lanes stays
  as_before : lanes_failed after ≤ lanes_failed ended + 0 → count ≤ now → old.disk.own_faults ≤ new.disk.own_faults
      → OwnRose entry old ⊎ (lanes_failed ended + entry.disk.faults ≤ count) ⊎ (last_count ≤ count) → OwnRose entry new ⊎ (lanes_failed after + entry.disk.faults ≤ now) ⊎ (last_count ≤ now)
  as_before few low own (inl rose) = inl (own_later entry.disk.own_faults old.disk.own_faults new.disk.own_faults rose own)
  as_before few low own (inr (inl h)) = inr (inl (omega (arith, few, low, h)))
  as_before few low own (inr (inr h)) = inr (inr (omega (arith, low, h)))

  by_disk : lanes_failed after ≤ lanes_failed ended + 1 → count ≤ now → old.disk.own_faults ≤ new.disk.own_faults → HasRisen count now
      → OwnRose entry old ⊎ (lanes_failed ended + entry.disk.faults ≤ count) ⊎ (last_count ≤ count) → OwnRose entry new ⊎ (lanes_failed after + entry.disk.faults ≤ now) ⊎ (last_count ≤ now)
  by_disk few low own rose (inl r) = inl (own_later entry.disk.own_faults old.disk.own_faults new.disk.own_faults r own)
  by_disk few low own rose (inr (inl h)) = inr (one_more_failed (lanes_failed after) (lanes_failed ended) entry.disk.faults count now few h rose)
  by_disk few low own rose (inr (inr h)) = inr (inr (omega (arith, low, h)))

  -- what is told beside the one that was added was told before
  other_told : (it : RunFault) → TellsMore told more it → (other : RunFault) → (other ≡ it → ⊥) → Contains more (Some other) → Contains told (Some other)
  other_told it adds other not there = ⊎_elim (λ h. h) (λ e. absurd (not e)) (adds.only other there)

  told_more_by : (fault : RunFault) → ToldOne entry old new count now ended after told more history fault → AreTold entry new now after more
  told_more_by run_fault.Disk s = record {
    lanes = s.lanes;
    low = low_now s.no_lower.0;
    all = s.all;
    failed = failed s.cause;
    only_risen = λ there. rises s.cause;
    where_risen = λ risen. inl s.adds.there;
    shut = λ is. inl s.adds.there;
    unsound = λ what there. t.unsound what (other_told run_fault.Disk s.adds (run_fault.Damaged what) (λ e. let x = e in cc) there);
    placed = λ what there. t.placed what (other_told run_fault.Disk s.adds (run_fault.Damaged what) (λ e. let x = e in cc) there);
  }
    where
      failed : HasRisen count now ⊎ (new.room.is_shut ≡ true) → OwnRose entry new ⊎ (lanes_failed after + entry.disk.faults ≤ now) ⊎ (last_count ≤ now)
      failed (inl rose) = by_disk s.counted s.no_lower.0 s.no_lower.1 rose t.failed
      failed (inr shut) = inl (own_rose s.goes_on shut)

      rises : HasRisen count now ⊎ (new.room.is_shut ≡ true) → HasRisen entry.disk.faults now
      rises (inl rose) = risen_on entry.disk.faults count now t.low rose
      rises (inr shut) = risen_total entry.disk.faults new.disk.faults now (all_rose s.goes_on shut) s.is_total
  told_more_by run_fault.Memory s = record {
    lanes = s.lanes;
    low = low_now s.no_lower.0;
    all = s.all;
    failed = as_before s.counted s.no_lower.0 s.no_lower.1 t.failed;
    only_risen = λ there. risen_later entry.disk.faults count now (t.only_risen (other_told run_fault.Memory s.adds run_fault.Disk (λ e. let x = e in cc) there)) s.no_lower.0;
    where_risen = λ risen. inr s.adds.there;
    shut = λ is. inr s.adds.there;
    unsound = λ what there. t.unsound what (other_told run_fault.Memory s.adds (run_fault.Damaged what) (λ e. let x = e in cc) there);
    placed = λ what there. t.placed what (other_told run_fault.Memory s.adds (run_fault.Damaged what) (λ e. let x = e in cc) there);
  }
  told_more_by (run_fault.Damaged it) s = record {
    lanes = s.lanes;
    low = low_now s.no_lower.0;
    all = s.all;
    failed = as_before s.counted s.no_lower.0 s.no_lower.1 t.failed;
    only_risen = λ there. risen_later entry.disk.faults count now (t.only_risen (other_told (run_fault.Damaged it) s.adds run_fault.Disk (λ e. let x = e in cc) there)) s.no_lower.0;
    where_risen = λ risen. kept_told (t.where_risen (subst (λ n. entry.disk.faults < n) s.cause.0 risen));
    shut = λ is. kept_told (t.shut (sym s.cause.1 ∙ is));
    unsound = λ what there. ⊎_elim (λ h. t.unsound what h) (λ e. s.cause.3) (s.adds.only (run_fault.Damaged what) there);
    placed = λ what there. ⊎_elim (λ h. t.placed what h) (λ e. subst IsPlaceOrNode (let x : run_fault.Damaged what ≡ run_fault.Damaged it = e in cc) s.cause.2) (s.adds.only (run_fault.Damaged what) there);
  }
    where
      kept_told : Contains told (Some run_fault.Disk) ⊎ Contains told (Some run_fault.Memory) → Contains more (Some run_fault.Disk) ⊎ Contains more (Some run_fault.Memory)
      kept_told (inl h) = inl (s.adds.stays run_fault.Disk h)
      kept_told (inr h) = inr (s.adds.stays run_fault.Memory h)

pub told_more : ToldMore
told_more entry old new count now ended after told more history fault ready t s = told_more_by entry old new count now ended after told more history ready t fault s

-- That a run of lanes is a run in the words of the theorems.
use Rattle.std.proofs.Common.{◌≡◌, ◌⊎◌, inl, inr, ⊎_elim, ℕ, ◌+◌, ◌-◌, ◌<◌, ◌≤◌, nat_le, Bool, true, false, List, [], refl, sym, ap, ◌∙◌, subst, Option, Some, None, Ok, Result, if◌then◌else◌, arith}
use Rattle.std.specs.Prelude.{IfSome, option_map}
use Rattle.std.specs.List.{list_any}
use Rattle.std.proofs.lemmas.Bool.Decides.{leb_tells}
use Rattle.log_disk.specs.Disk.{Disk, Told, IsImageNow, IsImageSince, IsToldOf, clock_of}
use Rattle.log_disk.specs.Moments.{IsLeft}
use Rattle.fine_model.specs.declared.Damage.{Damage}
use Rattle.fine_model.specs.declared.Options.{Options}
use Rattle.fine_model.specs.declared.Outcome.{Outcome}
use Rattle.fine_model.specs.declared.Part.{Part}
use Rattle.fine_model.specs.declared.Ran.{Ran}
use Rattle.fine_model.specs.declared.Row.{Row}
use Rattle.fine_model.specs.declared.RunFault.{RunFault}
use Rattle.fine_model.specs.declared.RunFault.TheVariants as run_fault
use Rattle.fine_model.specs.declared.ScriptTxn.{ScriptTxn}
use Rattle.fine_model.specs.declared.law.RoomState.{RoomState}
use Rattle.fine_model.specs.Buckets.{Began}
use Rattle.fine_model.specs.Causes.{HaveCauses, IsFullInNeed}
use Rattle.fine_model.specs.Chain.{Shows, chain, chain_end}
use Rattle.fine_model.specs.Faults.{HasRisen, last_count}
use Rattle.fine_model.specs.Headline.{FailsSound, HasStatus, ShowsSome}
use Rattle.fine_model.specs.History.{Commit, last_epoch}
use Rattle.fine_model.specs.Outcomes.{AreOutcomes, IsOneLane, is_refused}
use Rattle.fine_model.specs.Report.{all_outcomes}
use Rattle.fine_model.specs.Trees.{IsSound}
use Rattle.fine_model.proofs.Histories.Epochs.{legal_of, sealed_from, sealed_least}
use Rattle.epoch_room.specs.Meaning.{Stands, StandsAtFirst, StandsTold, StandsWhere, origin_of}
use Rattle.epoch_room.specs.Value.{RoomValue, made}
use Rattle.epoch_room.specs.Whole.{HoldsParts}
use Rattle.run_laws.specs.Law.{BehindLaw, DoneLaw, ReadyLaw, RunLaw, StatusLaw, return_of}
use Rattle.run_laws.specs.Runs.{IsReady, IsToSeal, OwnRose, RunsScript}
use Rattle.run_laws.proofs.Few.{few_of_one}

-- ---- what a room stands for, where its disk tells its bytes

pub told_of : (room : RoomValue) (before after : Told) (first : List Row) (e : ℕ) (history : List Commit) → room.entry.told ≡ Some before → room.disk.told ≡ Some after → Stands room first e history → StandsTold room.room before after first e history
unfolding Stands
told_of room before after first e history a b s = subst (λ t. StandsWhere room.room (Some before) t first e history) b (subst (λ t. StandsWhere room.room t room.disk.told first e history) a s)

-- a disk whose image is told tells it, and its clock is that of what is told
told_by : (o : Option Told) (image : List (List ℕ)) → option_map (λ (t : Told). t.bytes) o ≡ Some image → (t : Told) × (o ≡ Some t)
told_by None image e = absurd (let x : ◌≡◌ {A = Option (List (List ℕ))} None (Some image) = e in cc)
told_by (Some t) image e = (t, refl)

image_of : (d : Disk) (t : Told) → d.told ≡ Some t → (origin_of d).image ≡ Some t.bytes
unfolding origin_of
image_of d t e = ap (option_map (λ (t : Told). t.bytes)) e

clock_is : (d : Disk) (t : Told) → d.told ≡ Some t → (origin_of d).clock ≡ clock_of t
unfolding origin_of
clock_is d t e = ap (λ o. (origin_of (record d { told = o })).clock) e

pub image_told : (d : Disk) (image : List (List ℕ)) → (origin_of d).image ≡ Some image → (t : Told) × (d.told ≡ Some t)
unfolding origin_of
image_told d image e = told_by d.told image e

began_of : (d : Disk) (before : Told) (e : ℕ) (first : List Row) → d.told ≡ Some before → Shows d.region_len before.bytes e first → IsSound first → Began (origin_of d) e first
unfolding origin_of
began_of d before e first told shows sound = record { image = before.bytes; told = ap (option_map (λ (t : Told). t.bytes)) told; shows = shows; sound = sound }

ok_same : (a b : List Part) → ◌≡◌ {A = Result (List Part) Damage} (Ok a) (Ok b) → a ≡ b
ok_same a b e = cc

-- ---- counts

-- a count that has risen is greater, or stands at its last value
rose : (a b : ℕ) → HasRisen a b → (1 ≤ b - a) ⊎ (last_count ≤ b)
rose a b risen = ⊎_elim (λ (is : (nat_le (a + 1) b ≡ true) × (a + 1 ≤ b)). let h = is.1 in inl (omega (arith, h))) (λ (is : (nat_le (a + 1) b ≡ false) × (b < a + 1)). let h = is.1 in inr (omega (arith, h, risen))) (leb_tells (a + 1) b)

-- ---- statuses

no_six : (b : Bool) → ◌≡◌ {A = ℕ} 6 (if b then 8 else 0) → ⊥
no_six true e = omega (arith, e)
no_six false e = omega (arith, e)

-- statuses 0 and 8 come with no fault, and 6 with a failed disk
none_of : (status : ℕ) (os : List Outcome) (fault : Option RunFault) → HasStatus status os fault → (status ≡ 0) ⊎ (status ≡ 8) → fault ≡ None
none_of status os None h e = refl
none_of status os (Some run_fault.Memory) h (inl e) = absurd (omega (arith, h, e))
none_of status os (Some run_fault.Memory) h (inr e) = absurd (omega (arith, h, e))
none_of status os (Some run_fault.Disk) h (inl e) = absurd (omega (arith, h, e))
none_of status os (Some run_fault.Disk) h (inr e) = absurd (omega (arith, h, e))
none_of status os (Some (run_fault.Damaged what)) h (inl e) = absurd (omega (arith, h, e))
none_of status os (Some (run_fault.Damaged what)) h (inr e) = absurd (omega (arith, h, e))

disk_of : (status : ℕ) (os : List Outcome) (fault : Option RunFault) → HasStatus status os fault → status ≡ 6 → fault ≡ Some run_fault.Disk
disk_of status os None h e = absurd (no_six (list_any is_refused os) (sym e ∙ h))
disk_of status os (Some run_fault.Memory) h e = absurd (omega (arith, h, e))
disk_of status os (Some run_fault.Disk) h e = refl
disk_of status os (Some (run_fault.Damaged what)) h e = absurd (omega (arith, h, e))

told_by_status : (status : ℕ) (os : List Outcome) (fault : Option RunFault) → HasStatus status os fault → (fault ≡ Some run_fault.Disk) ⊎ (fault ≡ Some run_fault.Memory) → (status ≡ 1) ⊎ (status ≡ 6)
told_by_status status os fault has (inl is) = inr (subst (HasStatus status os) is has)
told_by_status status os fault has (inr is) = inl (subst (HasStatus status os) is has)

not_memory : (fault : Option RunFault) → fault ≡ Some run_fault.Disk → fault ≡ Some run_fault.Memory → ⊥
not_memory fault a b = let e : ◌≡◌ {A = Option RunFault} (Some run_fault.Disk) (Some run_fault.Memory) = sym a ∙ b in cc

-- ---- a run on a log that the disk told

module _ (script : List ScriptTxn) (options : Options) (old new : RoomValue) (ran : Ran) (r : RunsScript script options old new ran) (before : Told) (ready : IsReady old) (told : old.disk.told ≡ Some before) where
  abbrev outcomes : List Outcome
  outcomes = all_outcomes script ran.outcomes

  entry : old.entry.told ≡ Some before
  entry = ap (λ d. d.told) (sym ready.at_entry) ∙ told

  len : old.room.region_len ≡ old.disk.region_len
  len = ap (λ (x : RoomState). x.region_len) ready.whole.of_disk

  len_now : new.room.region_len ≡ old.disk.region_len
  len_now = ap (λ (x : RoomState). x.region_len) r.adds.whole.of_disk ∙ r.adds.beside.region_len

  low : old.room.sealed ≤ ran.durable
  low = subst (λ d. old.room.sealed ≤ d) (sym r.durable) (sealed_from old.room.sealed new.room.sealed r.history r.adds.epochs r.adds.sealed)

  -- that log is sound
  module _ (after : Told) (first : List Row) (e : ℕ) (last : new.disk.told ≡ Some after) (shows : Shows old.disk.region_len before.bytes e first) (sound : IsSound first) where
    began : Began (origin_of old.entry) e first
    began = subst (λ d. Began (origin_of d) e first) ready.at_entry (began_of old.disk before e first told shows sound)

    stands : Stands old first e []
    stands = ready.stands first e began

    sealed : old.room.sealed ≡ e
    sealed = (told_of old before before first e [] entry told stands).stands.counts.sealed

    again : (t : Told) × (new.entry.told ≡ Some t)
    again = image_told new.entry before.bytes (ap (λ o. o.image) r.adds.beside.origin ∙ image_of old.entry before entry)

    clock : clock_of again.0 ≡ clock_of before
    clock = sym (clock_is new.entry again.0 again.1) ∙ (ap (λ o. o.clock) r.adds.beside.origin ∙ clock_is old.entry before entry)

    now : StandsTold new.room again.0 after first e r.history
    now = told_of new again.0 after first e r.history again.1 last (r.adds.stands first e began stands)

    every_image : (image : List (List ℕ)) → IsImageSince (clock_of before) after image → ShowsSome old.disk.region_len first r.history e (last_epoch e r.history) image
    every_image image since = subst (λ n. ShowsSome n first r.history e (last_epoch e r.history) image) len_now
        (now.stands.images.every_image image (subst (λ c. IsImageSince c after image) (sym clock) since))

    on_return : (image : List (List ℕ)) → IsImageNow after image → ShowsSome old.disk.region_len first r.history ran.durable (last_epoch e r.history) image
    on_return image is = subst (λ n. ShowsSome n first r.history ran.durable (last_epoch e r.history) image) len_now
        (subst (λ d. ShowsSome new.room.region_len first r.history d (last_epoch e r.history) image) (sym r.durable) (now.stands.images.now_sealed image is))

    caused : HaveCauses old.disk.region_len first after.bytes script outcomes r.history ran.durable
    caused = subst (λ n. HaveCauses n first after.bytes script outcomes r.history ran.durable) len (r.causes after last first e began stands)

    last_need : IsOneLane script → IsFullInNeed old.disk.region_len options.group e first script outcomes r.history
    last_need one = subst (λ n. IsFullInNeed n options.group e first script outcomes r.history) len
        (subst (λ n. IsFullInNeed old.room.region_len options.group n first script outcomes r.history) sealed (r.last_need one first e began stands))

    durable_to : IsToSeal old new ran.fault → ran.durable ≡ last_epoch e r.history
    durable_to to = subst (λ n. ran.durable ≡ last_epoch n r.history) sealed (r.all_durable to)

    failed : (source output : ℕ × ℕ) (fault : RunFault) → ran.fault ≡ Some fault → FailsSound (return_of old.disk new.disk source output before after) fault
    failed source output run_fault.Memory is = tt
    failed source output run_fault.Disk is = rose old.disk.faults new.disk.faults (r.fault.only_risen is)
    failed source output (run_fault.Damaged what) is = r.fault.unsound what is first e began stands

    to_seal : (status : ℕ) → HasStatus status outcomes ran.fault → ((status ≡ 6) × OwnRose old new → ⊥) → (status ≡ 0) ⊎ (status ≡ 6) ⊎ (status ≡ 8) → IsToSeal old new ran.fault
    to_seal status has not (inl none) = inl (none_of status outcomes ran.fault has (inl none))
    to_seal status has not (inr (inl six)) = inr (not_memory ran.fault (disk_of status outcomes ran.fault has six), λ rose. not (six, rose))
    to_seal status has not (inr (inr eight)) = inl (none_of status outcomes ran.fault has (inr eight))

  -- the log has a chain
  module _ (parts : List Part) (is_chain : chain old.disk.region_len before.bytes ≡ Ok parts) where
    ends_at : old.room.sealed ≡ chain_end parts
    ends_at = ready.whole.ends ∙ ap chain_end (ok_same old.room.parts parts (sym (held before.bytes is_told.image).is_chain ∙ is_chain))
      where
        is_told : IsToldOf old.disk before
        is_told = subst (λ o. IfSome o (IsToldOf old.disk)) told ready.whole.sound.told

        held : IsLeft (λ image. HoldsParts old.disk.region_len image old.room.parts old.room.retired) before
        held = subst (λ o. IfSome o (IsLeft (λ image. HoldsParts old.disk.region_len image old.room.parts old.room.retired))) told (ready.whole.told (ready.whole.lost ready.not_shut))

-- ---- the laws

pub ready_law : ReadyLaw
unfolding origin_of
ready_law disk live retired whole at_first = record {
  whole = whole;
  at_entry = refl;
  not_shut = refl;
  board = refl;
  no_job = refl;
  no_place = refl;
  none_waits = refl;
  stands = λ first e began.
      let t = told_by disk.told began.image began.told in
      subst (StandsAtFirst (made disk live retired)) t.1 at_first e first (subst (λ image. Shows disk.region_len image e first) (same began.image t.0 (ap (option_map (λ (x : Told). x.bytes)) (sym t.1) ∙ began.told)) began.shows);
}
  where
    same : (image : List (List ℕ)) (t : Told) → ◌≡◌ {A = Option (List (List ℕ))} (Some t.bytes) (Some image) → image ≡ t.bytes
    same image t e = cc

pub run_law : RunLaw
run_law script options old new ran r source output before after first e ready told last shows sound = record {
  run = record {
    one_history = subst (λ n. AreOutcomes script n (all_outcomes script ran.outcomes) r.history) (sealed script options old new ran r before ready told after first e last shows sound) r.outcomes;
    legal = legal_of first r.history (now script options old new ran r before ready told after first e last shows sound).stands.legal;
    every_image = every_image script options old new ran r before ready told after first e last shows sound;
    on_return = on_return script options old new ran r before ready told after first e last shows sound;
    from_entry = subst (λ n. n ≤ ran.durable) (sealed script options old new ran r before ready told after first e last shows sound) (low script options old new ran r before ready told);
  };
  caused = caused script options old new ran r before ready told after first e last shows sound;
  few_each = λ one. few_of_one script (all_outcomes script ran.outcomes) old.room.sealed options.group r.history one r.outcomes r.few_each;
  last_need = last_need script options old new ran r before ready told after first e last shows sound;
  failed = failed script options old new ran r before ready told after first e last shows sound source output;
  all_run = r.all_run;
  all_durable = λ none. durable_to script options old new ran r before ready told after first e last shows sound (inl none);
}

pub done_law : DoneLaw
done_law script options old new ran r source output before after first e status ready told last shows sound has ends = record {
  all_run = λ ok. r.all_run (none_of status (all_outcomes script ran.outcomes) ran.fault has ok);
  all_durable = λ not. durable_to script options old new ran r before ready told after first e last shows sound (to_seal script options old new ran r before ready told after first e last shows sound status has not ends);
  one_each = λ six not. r.fault.one_each (disk_of status (all_outcomes script ran.outcomes) ran.fault has six) not first e
      (began script options old new ran r before ready told after first e last shows sound) (stands script options old new ran r before ready told after first e last shows sound);
}

pub behind_law : BehindLaw
behind_law script options old new ran r before parts ready told is_chain =
    let at = ends_at script options old new ran r before ready told parts is_chain in
    record {
      outcomes = subst (λ n. AreOutcomes script n (all_outcomes script ran.outcomes) r.history) at r.outcomes;
      durable = record {
        from_entry = subst (λ n. n ≤ ran.durable) at (low script options old new ran r before ready told);
        to_last = subst (λ n. ran.durable ≤ last_epoch n r.history) at (subst (λ d. d ≤ last_epoch old.room.sealed r.history) (sym r.durable) (sealed_least old.room.sealed new.room.sealed r.history r.adds.sealed));
        all = λ none. r.all_durable (inl none) ∙ ap (λ n. last_epoch n r.history) at;
      };
      all_run = r.all_run;
      unsound = λ what is e first shows sound.
          let began = subst (λ d. Began (origin_of d) e first) ready.at_entry (began_of old.disk before e first told shows sound) in
          r.fault.unsound what is first e began (ready.stands first e began);
      placed = r.fault.placed;
    }

pub status_law : StatusLaw
status_law script options old new ran r status has = record {
  disk = λ six. rose old.disk.faults new.disk.faults (r.fault.only_risen (disk_of status (all_outcomes script ran.outcomes) ran.fault has six));
  told = λ risen. told_by_status status (all_outcomes script ran.outcomes) ran.fault has (r.fault.where_risen (omega (arith, risen)));
}

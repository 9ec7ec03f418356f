-- Where the live parts of a room come from behind one merge.
use Rattle.std.proofs.Common.{◌≡◌, ◌∙◌, ℕ, true, false, List, [], ◌∷◌, ◌++◌, inl, inr, Ok, Err, sym, ap, subst, arith, true≢false}
use Rattle.std.specs.Prelude.{Bool, Contains, Result}
use Rattle.std.proofs.lemmas.List.Elements.{Contains-append_left, Contains-append_right}
use Rattle.fine_model.specs.declared.Part.{Part}
use Rattle.fine_model.specs.Chain.{regions_of}
use Rattle.fine_model.specs.Views.{SameSeen, TellsRowsOf}
use Rattle.epoch_room.specs.Value.{RoomValue}
use Rattle.epoch_room.specs.Whole.{IsWhole}
use Rattle.epoch_room.specs.declared.answers.RoomFault.TheVariants as room_fault
use Rattle.room_merges.specs.declared.fault.MergeFault.{MergeFault}
use Rattle.room_merges.specs.declared.fault.MergeFault.TheVariants as merge_fault
use Rattle.room_merges.specs.Live.{KeepsLive}
use Rattle.room_merges.specs.Near.{Empties, KeepsRest, MergesFirst, MergesNear, SameOrErased}
use Rattle.room_steps.proofs.Stepping.{parts_are, parts_were, same_length, shown, stays}
use Rattle.log_commands.specs.Origins.{AreFrom, IsMadeOf}
use Rattle.log_commands.proofs.Origins.{from_merge, from_same}

module _ (old new : RoomValue) (was : IsWhole old) (whole : IsWhole new) where
  abbrev AllFrom : Type 0
  AllFrom = AreFrom old.room.region_len old.room.image new.room.image old.room.parts new.room.parts

  stayed : KeepsLive old new → new.room.parts ≡ old.room.parts → AllFrom
  stayed live same =
      subst (AreFrom old.room.region_len old.room.image new.room.image old.room.parts) (sym same)
      (from_same old.room.region_len old.room.image new.room.image old.room.parts (λ p there. live.each p there (subst (λ ps. Contains ps p) (sym same) there)))

  -- one part stands where two neighbours did, and all others are as they were
  replaced : (before : List Part) (older newer part : Part) (after : List Part) → old.room.parts ≡ before ++ older ∷ newer ∷ after → new.room.parts ≡ before ++ part ∷ after
      → ((p : Part) → Contains (before ++ older ∷ newer ∷ after) p → Contains (before ++ part ∷ after) p → SameSeen (regions_of p) old.room.image new.room.image)
      → IsMadeOf old.room.region_len old.room.image new.room.image (older ∷ newer ∷ []) part → AllFrom
  replaced before older newer part after were are stays made =
      subst (λ ps. AreFrom old.room.region_len old.room.image new.room.image ps new.room.parts) (sym were)
      (subst (AreFrom old.room.region_len old.room.image new.room.image (before ++ older ∷ newer ∷ after)) (sym are)
      (from_merge old.room.region_len old.room.image new.room.image before older newer part after (λ p there. stays p (in_front p (older ∷ newer ∷ after) there) (in_front p (part ∷ after) there))
      (λ p there. stays p (in_back p (older ∷ newer ∷ []) there) (in_back p (part ∷ []) there)) made))
    where
      in_front : (p : Part) (more : List Part) → Contains before p → Contains (before ++ more) p
      in_front p more there = Contains-append_left before more p there

      in_back : (p : Part) (more : List Part) → Contains after p → Contains (before ++ (more ++ after)) p
      in_back p more there = Contains-append_right before (more ++ after) p (Contains-append_right more after p there)

  merged_two : (from : ℕ) → KeepsRest old new → KeepsLive old new → (erased : RoomValue) → Empties old erased (Ok tt) → MergesFirst from erased new → AllFrom
  merged_two from k live erased e f =
      replaced f.merged.stand.before f.merged.two.0 f.merged.two.1 f.merged.part f.merged.stand.after (parts_were old new was whole from k live erased e f) (parts_are old new was whole from k live erased e f)
      (stays old new was whole from k live erased e f) (record {
        several = omega arith;
        first = ap (λ r. r.first) f.merged.range;
        last = ap (λ r. r.last) f.merged.range;
        good = λ image is.
            let eye = shown old new was whole from k live erased e f image is in
            let joined = f.tells eye.0 eye.1 in
            (joined.rows, subst (λ n. TellsRowsOf new.room.image n (f.merged.part ∷ []) joined.rows) (same_length old new was whole k) joined.told);
      })

  erased_or : (from : ℕ) → KeepsRest old new → KeepsLive old new → SameOrErased from old new → AllFrom
  erased_or from k live (inl same) = stayed live same
  erased_or from k live (inr merged) = merged_two from k live merged.1.erased merged.1.erases merged.1.merges

  -- the live parts behind a merge, whatever it answered
  pub live_from : (from : ℕ) → old.room.is_shut ≡ false → (result : Result Bool MergeFault) → MergesNear from old new result → AllFrom
  live_from from opened (Ok true) m = merged_two from m.rest m.live m.near.3.erased m.near.3.erases m.near.3.merges
  live_from from opened (Ok false) m = stayed m.live m.near.1
  live_from from opened (Err (merge_fault.Fetch fault)) m = stayed m.live m.near.1
  live_from from opened (Err (merge_fault.Room room_fault.NoMemory)) m = erased_or from m.rest m.live m.near.1
  live_from from opened (Err (merge_fault.Room room_fault.Disk)) m = erased_or from m.rest m.live m.near.1
  live_from from opened (Err (merge_fault.Room (room_fault.Shut epoch))) m = absurd (true≢false (sym m.near.0 ∙ opened))

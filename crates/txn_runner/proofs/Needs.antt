-- What epochs were sealed for, by the steps of a transaction.
use Rattle.std.proofs.Common.{◌≡◌, ◌⊎◌, inl, inr, ⊎_elim, ℕ, ◌+◌, ◌<◌, ◌≤◌, ◌==◌, true, false, List, [], ◌∷◌, ◌++◌, length, refl, sym, ap, ◌∙◌, subst, true≢false, Option, Some, None, Ok, Err, arith}
use Rattle.std.specs.Prelude.{Result, count_by}
use Rattle.std.proofs.lemmas.Bool.{cases_lt}
use Rattle.std.proofs.lemmas.List.Sums.{length-filter}
use Rattle.fine_model.specs.declared.Row.{Row}
use Rattle.fine_model.specs.declared.RunFault.{RunFault}
use Rattle.fine_model.specs.declared.RunFault.TheVariants as run_fault
use Rattle.fine_model.specs.declared.Why.{Why}
use Rattle.fine_model.specs.declared.Why.TheVariants as why
use Rattle.fine_model.specs.declared.law.RoomState.{RoomState}
use Rattle.fine_model.specs.Causes.{HadNeedBefore, used_in}
use Rattle.fine_model.specs.History.{Commit, last_epoch}
use Rattle.fine_model.specs.Merge.{cost}
use Rattle.fine_model.specs.Outcomes.{EpochsFollow}
use Rattle.fine_model.specs.RowBytes.{greatest, short_header}
use Rattle.fine_model.proofs.Histories.Epochs.{all_sealed, last_open}
use Rattle.fine_model.proofs.Histories.HistoryLaws.{last_epoch-from}
use Rattle.epoch_room.specs.Fitting.{fit_of}
use Rattle.epoch_room.specs.Steps.{appended}
use Rattle.epoch_room.specs.Value.{RoomValue}
use Rattle.epoch_room.specs.declared.answers.Fit.{Fit}
use Rattle.epoch_room.specs.declared.answers.Fit.TheVariants as fit
use Rattle.room_shelf.specs.Shelves.{ShelfValue}
use Rattle.room_steps.specs.Merging.{is_epoch_full}
use Rattle.room_steps.specs.Steps.{ByFit, MakesOr}
use Rattle.room_steps.proofs.Fitting.{Alone, alone_fits, is_long, no_region, not_last, some_wait, tests_of}
use Rattle.run_laws.specs.Needs.{EndsInNeed, HadNeed, HasNoRegion, IsInNeed, IsSealed, Unsealed}
use Rattle.run_laws.specs.SoFar.{GoesOn}
use Rattle.run_laws.proofs.Needs.{need_commits, need_ends, need_sealed, need_stays, need_still}
use Rattle.txn_runner.specs.Body.{Body, shelf_of}
use Rattle.txn_runner.specs.Steps.{MakesPlace, Reads, SealsOn, WasInNeed}
use Rattle.txn_runner.proofs.Full as flags
use Rattle.txn_runner.proofs.Full.{sealed_or}

appended_waiting : (value : RoomValue) (c : Commit) → (appended value c.entry.rows).room.waiting ≡ value.room.waiting + 1
unfolding appended
appended_waiting value c = refl

-- where all of a history is sealed, something was sealed for it
sealed_above : (e sealed : ℕ) (history : List Commit) → EpochsFollow e history → sealed ≡ last_epoch e history → (history ≡ []) ⊎ (e < sealed)
sealed_above e sealed [] follow is = inl refl
sealed_above e sealed (c ∷ cs) follow is = inr (let low = last_epoch-from c.epoch cs follow.1 in let first = follow.0 in omega (arith, low, first, is))

module _ (group : ℕ) (entry : RoomValue) (history : List Commit) where
  -- loads leave all of it
  pub read : (old new : Body) → Reads old new → WasInNeed group entry old history → WasInNeed group entry new history
  read old new r w = (
    need_stays group entry old.room new.room old.full new.full history w.0 still (λ now. let n = w.0.no_region (sym r.full ∙ now) in record {
      none_waits = still.waiting ∙ n.none_waits;
      few_free = subst (λ (s : RoomState). length s.free < 2) (sym r.later.room) n.few_free;
    }),
    need_still group entry old.room new.room old.full new.full history w.1 still (λ was. r.full ∙ was),
  )
    where
      still : Unsealed old.room.room new.room.room
      still = record { sealed = ap (λ (s : RoomState). s.sealed) r.later.room; waiting = ap (λ (s : RoomState). s.waiting) r.later.room; used = ap (λ (s : RoomState). s.used) r.later.room }

  -- ---- room for rows

  module _ (need : ℕ) (old made : Body) (result : Result (Option Why) RunFault) (m : MakesPlace need old made result) (g : GoesOn entry old.room history) where
    goes_made : GoesOn entry made.room history
    goes_made = m.makes.leaves.goes_on entry history g

    -- what waits was sealed only where it leaves too little of its region for the rows
    abbrev Long : Type 0
    Long = old.room.room.region_len < short_header + old.room.room.used + need

    seal_or : Unsealed old.room.room made.room.room ⊎ (IsSealed old.room.room made.room.room × Long)
    seal_or = by (fit_of old.room.room need) refl (sealed_or old.full (shelf_of old) (shelf_of made) result (fit_of old.room.room need) m.makes.by_fit) m.makes.by_fit
      where
        only : (f : Fit) → fit_of old.room.room need ≡ f → ByFit old.full (shelf_of old) (shelf_of made) result f → IsSealed old.room.room made.room.room → Long
        only fit.Fits is b s = absurd (let e = ap (λ (x : ShelfValue). x.room.room.sealed) b.0 in let t = s.sealed in omega (arith, e, t))
        only (fit.Shut epoch) is b s = absurd (let e = ap (λ (x : ShelfValue). x.room.room.sealed) b.0 in let t = s.sealed in omega (arith, e, t))
        only (fit.Number epoch place) is b s = absurd (let e = ap (λ (x : ShelfValue). x.room.room.sealed) b.0 in let t = s.sealed in omega (arith, e, t))
        only (fit.TooLarge needed most) is b s = absurd (let e = ap (λ (x : ShelfValue). x.room.room.sealed) b.0 in let t = s.sealed in omega (arith, e, t))
        only (fit.Full free live retired) is b s = absurd (let e = b.0.sealed in let t = s.sealed in omega (arith, e, t))
        only (fit.EpochFull needed most) is b s = is_long old.room.room need (tests_of old.room.room need (fit.EpochFull needed most) is).1

        by : (f : Fit) → fit_of old.room.room need ≡ f → Unsealed old.room.room made.room.room ⊎ IsSealed old.room.room made.room.room → ByFit old.full (shelf_of old) (shelf_of made) result f
            → Unsealed old.room.room made.room.room ⊎ (IsSealed old.room.room made.room.room × Long)
        by f is (inl u) b = inl u
        by f is (inr s) b = inr (s, only f is b s)

    module _ (n : IsInNeed group entry old.room old.full history) where
      stays_full : made.full ≡ true → HasNoRegion made.room.room
      stays_full = flags.has_none need old made result m g.whole n.no_region

      pub made_in_need : IsInNeed group entry made.room made.full history
      made_in_need = ⊎_elim (λ u. need_stays group entry old.room made.room old.full made.full history n u stays_full)
          (λ (s : IsSealed old.room.room made.room.room × Long). need_sealed group entry old.room made.room old.full made.full history n s.0 goes_made stays_full) seal_or

      -- where the rows are refused, none can follow, or nothing was done
      pub refused_ends : (word : Why) → MakesOr need (shelf_of old) (shelf_of made) old.full made.full (Ok (Some word)) → made.room.room.places < greatest → EndsInNeed group entry old.room old.full history → EndsInNeed group entry made.room made.full history
      refused_ends why.Large is places ends = subst (λ full. EndsInNeed group entry made.room full history) (sym is.2) (subst (λ (s : ShelfValue). EndsInNeed group entry s.room old.full history) (sym is.0) ends)
      refused_ends why.Number is places ends = λ none above. ⊎_elim (λ last. inr (inr last)) (λ spent. absurd (omega (arith, spent, places))) is.1
      refused_ends why.Bucket is places ends = absurd is
      refused_ends why.Full is places ends = λ none above. inr (inl is.3)

      -- what waited was sealed for the rows
      had_some : 1 ≤ old.room.room.waiting → Long → (rows : List Row) → cost rows ≡ need → HadNeedBefore entry.room.region_len group entry.room.sealed history rows
      had_some some long rows costs = inr (inr (subst (λ e. entry.room.region_len < short_header + used_in e history + cost rows) (sym last)
          (let l : old.room.room.region_len ≡ entry.room.region_len = g.becomes.region_len in let k = costs in let used = n.used in omega (arith, long, l, k, used))))
        where
          last : last_epoch entry.room.sealed history ≡ old.room.room.sealed + 1
          last = last_open entry.room.sealed old.room.room.sealed history g.epochs g.sealed
              (subst (λ many. 1 ≤ many) (g.waiting ∙ sym (length-filter (λ (c : Commit). c.epoch == old.room.room.sealed + 1) history)) some)

      -- or nothing waited
      had_none : old.room.room.waiting ≡ 0 → (old.room.room.sealed ≡ greatest → ⊥) → old.full ≡ false → EndsInNeed group entry old.room old.full history → (rows : List Row)
          → HadNeedBefore entry.room.region_len group entry.room.sealed history rows
      had_none none not_greatest not ends rows = by (sealed_above entry.room.sealed old.room.room.sealed history g.epochs last)
        where
          last : old.room.room.sealed ≡ last_epoch entry.room.sealed history
          last = all_sealed entry.room.sealed history old.room.room.sealed g.sealed (sym (length-filter (λ (c : Commit). c.epoch == old.room.room.sealed + 1) history ∙ sym g.waiting ∙ none))

          of_need : (group ≤ count_by (λ (c : Commit). c.epoch == old.room.room.sealed) history) ⊎ (old.full ≡ true) ⊎ (old.room.room.sealed ≡ greatest) → HadNeedBefore entry.room.region_len group entry.room.sealed history rows
          of_need (inl enough) = inr (inl (subst (λ e. group ≤ count_by (λ (c : Commit). c.epoch == e) history) last enough))
          of_need (inr (inl full)) = absurd (true≢false (sym full ∙ not))
          of_need (inr (inr top)) = absurd (not_greatest top)

          by : (history ≡ []) ⊎ (entry.room.sealed < old.room.room.sealed) → HadNeedBefore entry.room.region_len group entry.room.sealed history rows
          by (inl nothing) = inl nothing
          by (inr above) = of_need (ends none above)

      -- the rows fit a region alone
      fits_alone : Alone old.room.room need → (rows : List Row) → cost rows ≡ need → short_header + cost rows ≤ entry.room.region_len
      fits_alone a rows costs = by (cases_lt old.room.room.region_len (short_header + need))
        where
          by : (old.room.room.region_len < short_header + need) ⊎ (short_header + need ≤ old.room.room.region_len) → short_header + cost rows ≤ entry.room.region_len
          by (inl long) = absurd (alone_fits old.room need g.whole a.alone long)
          by (inr fits) = let l : old.room.room.region_len ≡ entry.room.region_len = g.becomes.region_len in let k = costs in omega (arith, l, k, fits)

      -- where it is refused as full first, the epoch before was sealed in need
      pub had_need : result ≡ Ok (Some why.Full) → old.full ≡ false → EndsInNeed group entry old.room old.full history → (rows : List Row) → cost rows ≡ need
          → (short_header + cost rows ≤ entry.room.region_len) × HadNeedBefore entry.room.region_len group entry.room.sealed history rows
      had_need is not ends rows costs = by (fit_of old.room.room need) refl m.makes.by_fit
        where
          by : (f : Fit) → fit_of old.room.room need ≡ f → ByFit old.full (shelf_of old) (shelf_of made) result f
              → (short_header + cost rows ≤ entry.room.region_len) × HadNeedBefore entry.room.region_len group entry.room.sealed history rows
          by fit.Fits f b = absurd (let x : ◌≡◌ {A = Result (Option Why) RunFault} (Ok (Some why.Full)) (Ok None) = sym is ∙ b.1 in cc)
          by (fit.Shut epoch) f b = absurd (let x : ◌≡◌ {A = Result (Option Why) RunFault} (Ok (Some why.Full)) (Err run_fault.Disk) = sym is ∙ b.1 in cc)
          by (fit.Number epoch place) f b = absurd (let x : ◌≡◌ {A = Result (Option Why) RunFault} (Ok (Some why.Full)) (Ok (Some why.Number)) = sym is ∙ b.1 in cc)
          by (fit.TooLarge needed most) f b = absurd (let x : ◌≡◌ {A = Result (Option Why) RunFault} (Ok (Some why.Full)) (Ok (Some why.Large)) = sym is ∙ b.1 in cc)
          by (fit.Full free live retired) f b =
              let t = tests_of old.room.room need (fit.Full free live retired) f in (fits_alone t.0 rows costs, had_none (no_region old.room.room g.no_job t.1).none_waits (not_last old.room.room t.0.left) not ends rows)
          by (fit.EpochFull needed most) f b =
              let t = tests_of old.room.room need (fit.EpochFull needed most) f in
              (fits_alone t.0 rows costs, had_some (some_wait old.room need g.whole (ap is_epoch_full f)) (is_long old.room.room need t.1) rows costs)

      -- where they fit, the log was not full
      module _ (ok : MakesOr need (shelf_of old) (shelf_of made) old.full made.full (Ok None)) where
        was_not : old.full ≡ true → ⊥
        was_not = flags.was_not need old made result m g.whole n.no_region ok

        len : old.room.room.region_len ≡ entry.room.region_len
        len = g.becomes.region_len

        -- the epoch before had its need, where the rows begin the next one
        behind : EndsInNeed group entry old.room old.full history → (c : Commit) → cost c.entry.rows ≡ need → made.room.room.waiting ≡ 0 → entry.room.sealed < made.room.room.sealed
            → HadNeed entry.room.region_len group history made.room.room.sealed c
        behind ends c costs none above = by seal_or
          where
            by : Unsealed old.room.room made.room.room ⊎ (IsSealed old.room.room made.room.room × Long) → HadNeed entry.room.region_len group history made.room.room.sealed c
            by (inl u) = subst (λ e. HadNeed entry.room.region_len group history e c) (sym u.sealed)
                (⊎_elim (λ group_full. inl group_full) (⊎_elim (λ was. absurd (was_not was)) (λ last. absurd (not_last made.room.room (tests_of made.room.room need fit.Fits ok.1).0.left (u.sealed ∙ last))))
                (ends (sym u.waiting ∙ none) (subst (λ e. entry.room.sealed < e) u.sealed above)))
            by (inr (s, long)) = subst (λ e. HadNeed entry.room.region_len group history e c) (sym s.sealed) (inr (let l = len in let k = costs in let used = n.used in omega (arith, long, l, k, used)))

        pub committed : (new : Body) (c : Commit) → cost c.entry.rows ≡ need → new.room ≡ appended made.room c.entry.rows → new.full ≡ made.full → c.epoch ≡ made.room.room.sealed + 1 → EndsInNeed group entry old.room old.full history
            → WasInNeed group entry new (history ++ c ∷ [])
        committed new c costs is same at ends = (
          subst (λ full. IsInNeed group entry new.room full (history ++ c ∷ [])) (sym same)
              (need_commits group entry made.room new.room made.full history c made_in_need goes_made is at (flags.not_full need old made result m g.whole n.no_region ok) (behind ends c costs)),
          λ none. absurd (let more = ap (λ (r : RoomValue). r.room.waiting) is ∙ appended_waiting made.room c in omega (arith, none, more)),
        )

  -- ---- a seal

  module _ (old new : Body) (on : SealsOn entry old new history) (n : IsInNeed group entry old.room old.full history) (some : 1 ≤ old.room.room.waiting) where
    not_then : new.full ≡ true → HasNoRegion new.room.room
    not_then now = absurd (let none = (n.no_region (sym on.full ∙ now)).none_waits in omega (arith, none, some))

    pub sealed_or_not : Unsealed old.room.room new.room.room ⊎ IsSealed old.room.room new.room.room → IsInNeed group entry new.room new.full history
    sealed_or_not (inl u) = need_stays group entry old.room new.room old.full new.full history n u not_then
    sealed_or_not (inr s) = need_sealed group entry old.room new.room old.full new.full history n s on.goes.room not_then

    pub group_ends : GoesOn entry old.room history → group ≤ old.room.room.waiting → IsSealed old.room.room new.room.room → EndsInNeed group entry new.room new.full history
    group_ends g enough s = need_ends group entry old.room new.room new.full history g enough s

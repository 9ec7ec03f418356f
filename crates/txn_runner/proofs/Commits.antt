-- What a commit leaves, and what is left where it is refused.
use Rattle.std.proofs.Common.{◌≡◌, inl, inr, ⊎_elim, ℕ, ◌+◌, ◌<◌, ◌≤◌, false, List, [], ◌∷◌, ◌++◌, length, refl, sym, ap, ◌∙◌, subst, true≢false, Option, Some, None, Ok, Err, arith}
use Rattle.std.specs.Prelude.{All, Result}
use Rattle.fine_model.specs.declared.Outcome.{Outcome}
use Rattle.fine_model.specs.declared.Outcome.TheVariants as outcome
use Rattle.fine_model.specs.declared.Row.{Row}
use Rattle.fine_model.specs.declared.RunFault.{RunFault}
use Rattle.fine_model.specs.declared.Why.{Why}
use Rattle.fine_model.specs.declared.Why.TheVariants as why
use Rattle.fine_model.specs.History.{Commit, all_rows}
use Rattle.fine_model.specs.Merge.{cost}
use Rattle.fine_model.specs.RowBytes.{greatest}
use Rattle.fine_model.proofs.Histories.Epochs.{epochs_below}
use Rattle.fine_model.proofs.Histories.Goings.{becomes_on}
use Rattle.txn_draft.specs.Drafts.{DraftValue, entry_of}
use Rattle.log_disk.specs.Disk.{Disk}
use Rattle.partition_hold.specs.Views.{ViewValue}
use Rattle.epoch_room.specs.Meaning.{origin_of}
use Rattle.epoch_room.specs.Steps.{appended}
use Rattle.epoch_room.specs.Value.{RoomValue}
use Rattle.room_shelf.specs.Shelves.{IsShelf, ShelfValue}
use Rattle.room_shelf.specs.Shelves.{count_of as count_seen}
use Rattle.open_txn.specs.Buckets.{BucketsValue, StandAll}
use Rattle.open_txn.specs.Opened.{AbortLaw, FollowsLaw, IsOpen, IsToUndo}
use Rattle.room_steps.specs.Steps.{MakesOr}
use Rattle.run_laws.specs.Going.{Commits}
use Rattle.run_laws.specs.Needs.{EndsInNeed, IsInNeed}
use Rattle.run_laws.specs.Runs.{IsReady, OfSound}
use Rattle.run_laws.specs.SoFar.{AreFewSoFar, AreTold, GoesOn, KeepsFlag}
use Rattle.run_laws.specs.Turns.{RefusesBehind}
use Rattle.run_laws.proofs.Going.{commits_law}
use Rattle.run_laws.proofs.Readings.{legal_law}
use Rattle.run_laws.proofs.Tellings.{told_stays}
use Rattle.txn_runner.specs.Body.{Body, Goes, IsGoing, Stand, count_of, shelf_of}
use Rattle.txn_runner.specs.Steps.{Appends, HadNeedOf, IsEndOf, Leaves, LeavesFault, LeavesWell, MakesPlace, MarksFull, TakesBack, TellsWith, TriesToCommit, WasInNeed}
use Rattle.txn_runner.proofs.Full as flags
use Rattle.txn_runner.proofs.Making as making
use Rattle.txn_runner.proofs.Needs as needs
use Rattle.txn_runner.proofs.Steady.{same_history}

-- ---- what is left of a body with an entry more

pub appended_shelf : (room : RoomValue) (rows : List Row) (view : Option ViewValue) → IsShelf room.room view → IsShelf (appended room rows).room view
unfolding appended
appended_shelf room rows None s = s
appended_shelf room rows (Some view) s = record { seat = s.seat; upto = s.upto; parts = s.parts; region_len = s.region_len; opened = s.opened; posted = s.posted; alone = s.alone }

appended_sealed : (room : RoomValue) (rows : List Row) → (appended room rows).room.sealed ≡ room.room.sealed
unfolding appended
appended_sealed room rows = refl

appended_shut : (room : RoomValue) (rows : List Row) → (appended room rows).room.is_shut ≡ room.room.is_shut
unfolding appended
appended_shut room rows = refl

appended_disk : (room : RoomValue) (rows : List Row) → (appended room rows).disk ≡ room.disk
unfolding appended
appended_disk room rows = refl

module _ (abort : AbortLaw) (follows : FollowsLaw) (group : ℕ) (old made : Body) (d : DraftValue) (some : 1 ≤ group) where
  -- ---- it is committed

  module _ (m : MakesPlace (cost d.rows) old made (Ok None)) (new : Body) (next : Outcome) (a : Appends d made new next) (entry : RoomValue) (history : List Commit) (low : ℕ) (taken : BucketsValue)
      (ready : IsReady entry) (g : IsGoing group entry old history) (since : low ≤ old.room.room.sealed) (open_now : IsOpen (origin_of entry.entry) low history taken old.buckets d) where
    abbrev c : Commit
    c = record { entry = entry_of d; epoch = made.room.room.sealed + 1 }

    goes_made : Goes entry made history
    goes_made = making.goes group (cost d.rows) old made some (Ok None) m entry history ready g

    few_made : AreFewSoFar group made.room.room.sealed made.ended history
    few_made = making.few group (cost d.rows) old made some (Ok None) m entry history ready g

    told_made : AreTold entry made.room (count_of made) made.ended made.ended
    told_made = making.told group (cost d.rows) old made some (Ok None) m entry history ready g None m.makes.makes

    below : All (λ (b : Commit). b.epoch ≤ made.room.room.sealed + 1) history
    below = epochs_below entry.room.sealed history made.room.room.sealed goes_made.room.epochs goes_made.room.sealed

    open_made : IsOpen (origin_of entry.entry) low history taken made.buckets d
    open_made = subst (λ now. IsOpen (origin_of entry.entry) low history taken now d) (sym (ap (λ (b : Body). b.buckets) m.rest)) open_now

    commits : Commits entry made.room new.room history c
    commits = record {
      room = a.room;
      epoch = refl;
      stands = a.stands;
      becomes = a.becomes;
      legal = λ first e began stands.
          (follows (origin_of entry.entry) low e (made.room.room.sealed + 1) first history taken made.buckets d open_made began (legal_law entry made.room history goes_made.room first e began stands) below).legal;
    }

    on : GoesOn entry new.room (history ++ c ∷ [])
    on = commits_law entry made.room new.room history c goes_made.room a.whole commits

    sealed : new.room.room.sealed ≡ made.room.room.sealed
    sealed = ap (λ (r : RoomValue). r.room.sealed) a.room ∙ appended_sealed made.room d.rows

    view_same : new.view ≡ made.view
    view_same = ap (λ (b : Body). b.view) a.rest

    shelf_now : IsShelf new.room.room new.view
    shelf_now = subst (IsShelf new.room.room) (sym view_same) (subst (λ (r : RoomValue). IsShelf r.room made.view) (sym a.room) (appended_shelf made.room d.rows made.view goes_made.view))

    full_made : new.full ≡ made.full
    full_made = ap (λ (b : Body). b.full) a.rest

    not_full : made.full ≡ false
    not_full = flags.not_full (cost d.rows) old made (Ok None) m g.goes.room.whole g.goes.no_region m.makes.makes

    goes_new : Goes entry new (history ++ c ∷ [])
    goes_new = record {
      room = on;
      no_region = λ full. absurd (true≢false (sym full ∙ full_made ∙ not_full));
      stuck = λ full. absurd (true≢false (sym full ∙ full_made ∙ not_full));
      view = shelf_now;
    }

    ended_made : new.ended ≡ made.ended
    ended_made = ap (λ (b : Body). b.ended) a.rest

    few_new : AreFewSoFar group new.room.room.sealed new.ended history
    few_new = subst (λ n. AreFewSoFar group n new.ended history) (sym sealed) (subst (λ ended. AreFewSoFar group made.room.room.sealed ended history) (sym ended_made) few_made)

    disk : new.room.disk ≡ made.room.disk
    disk = ap (λ (r : RoomValue). r.disk) a.room ∙ appended_disk made.room d.rows

    count_same : count_of new ≡ count_of made
    count_same = ap (λ (x : Disk). x.faults + count_seen new.view) disk ∙ ap (λ v. made.room.disk.faults + count_seen v) view_same

    told_new : AreTold entry new.room (count_of new) new.ended new.ended
    told_new = subst (λ ended. AreTold entry new.room (count_of new) ended ended) (sym ended_made)
        (told_stays entry made.room new.room (count_of made) (count_of new) made.ended made.ended (inl count_same) (let e = ap (λ x. x.own_faults) disk in omega (arith, e))
        (ap (λ (r : RoomValue). r.room.is_shut) a.room ∙ appended_shut made.room d.rows) told_made)

    leaves_new : Leaves group entry old new history (c ∷ [])
    leaves_new = record { goes = goes_new; few = few_new; becomes = becomes_on old.room.room made.room.room new.room.room m.makes.leaves.becomes a.becomes; ended = ended_made ∙ ap (λ (b : Body). b.ended) m.rest }

    all_new : StandAll (origin_of entry.entry) new.room.room.sealed new.buckets (history ++ c ∷ [])
    all_new =
        let same = sealed in
        let grew = m.makes.leaves.becomes.sealed in
        a.buckets (origin_of entry.entry) low new.room.room.sealed history taken d c open_made refl refl below (omega (arith, same, grew, since)) (omega (arith, same))

    in_need_new : WasInNeed group entry old history → WasInNeed group entry new (history ++ c ∷ [])
    in_need_new n = needs.committed group entry history (cost d.rows) old made (Ok None) m g.goes.room n.0 m.makes.makes new c refl a.room full_made refl n.1

    place : made.room.room.places + 1 ≡ length history + 1
    place = let p = goes_made.room.places in omega (arith, p)

    marks : MarksFull group entry old new history d.calls (outcome.Committed (made.room.room.places + 1) (made.room.room.sealed + 1) (entry_of d))
    marks = record {
      flag = flags.flag_committed (cost d.rows) old made (Ok None) m g.goes.room.whole g.goes.no_region m.makes.makes (made.room.room.places + 1) (made.room.room.sealed + 1) (entry_of d) new.full full_made;
      full_need = λ (e : outcome.Committed _ _ _ ≡ outcome.Refused why.Full). absurd (let x = e in cc);
    }

    pub committed : LeavesWell group entry old new history (c ∷ []) × IsEndOf entry history d new (outcome.Committed (made.room.room.places + 1) (made.room.room.sealed + 1) (entry_of d))
        × MarksFull group entry old new history d.calls (outcome.Committed (made.room.room.places + 1) (made.room.room.sealed + 1) (entry_of d))
    committed = (record { leaves = leaves_new; stand = all_new; in_need = in_need_new; told = told_new }, (place, (let e = sealed in omega (arith, e)), refl), marks)

  pub commits_it : MakesPlace (cost d.rows) old made (Ok None) → (new : Body) (next : Outcome) → Appends d made new next → TriesToCommit group old new d (Ok next)
  commits_it m new next a = subst (λ o. TriesToCommit group old new d (Ok o)) (sym a.is) (λ entry history low taken ready g since open_now. committed m new next a entry history low taken ready g since open_now)

  -- ---- it is taken back

  module _ (result : Result (Option Why) RunFault) (m : MakesPlace (cost d.rows) old made result) (new : Body) (back : TakesBack made new) (entry : RoomValue) (history : List Commit) (low : ℕ) (taken : BucketsValue)
      (ready : IsReady entry) (g : IsGoing group entry old history) (since : low ≤ old.room.room.sealed) (open_now : IsOpen (origin_of entry.entry) low history taken old.buckets d) where
    to_undo : IsToUndo (origin_of entry.entry) low history taken made.buckets
    to_undo = subst (IsToUndo (origin_of entry.entry) low history taken) (sym (ap (λ (b : Body). b.buckets) m.rest)) (abort (origin_of entry.entry) low history taken old.buckets d open_now)

    room_same : new.room ≡ made.room
    room_same = ap (λ (b : Body). b.room) back.rest

    all_back : StandAll (origin_of entry.entry) new.room.room.sealed new.buckets history
    all_back =
        let same = ap (λ (r : RoomValue). r.room.sealed) room_same in
        let grew = m.makes.leaves.becomes.sealed in
        back.buckets (origin_of entry.entry) low new.room.room.sealed history taken to_undo (omega (arith, same, grew, since)) (omega (arith, same))

    goes_then : Goes entry made history
    goes_then = making.goes group (cost d.rows) old made some result m entry history ready g

    leaves_made : Leaves group entry old made history []
    leaves_made = making.leaves group (cost d.rows) old made some result m entry history ready g

    leaves_with : (buckets : BucketsValue) → Leaves group entry old (record made { buckets = buckets }) history []
    leaves_with buckets = record {
      goes = record { room = leaves_made.goes.room; no_region = leaves_made.goes.no_region; stuck = leaves_made.goes.stuck; view = leaves_made.goes.view };
      few = leaves_made.few;
      becomes = leaves_made.becomes;
      ended = leaves_made.ended;
    }

    leaves_back : Leaves group entry old new history []
    leaves_back = subst (λ b. Leaves group entry old b history []) (sym back.rest) (leaves_with new.buckets)

    full_same : new.full ≡ made.full
    full_same = ap (λ (b : Body). b.full) back.rest

    in_need_back : WasInNeed group entry old history → IsInNeed group entry new.room new.full history
    in_need_back n = subst (λ full. IsInNeed group entry new.room full history) (sym full_same) (subst (λ (r : RoomValue). IsInNeed group entry r made.full history) (sym room_same)
        (needs.made_in_need group entry history (cost d.rows) old made result m g.goes.room n.0))

    ends_back : made.room.room.places < greatest → (word : Why) → MakesOr (cost d.rows) (shelf_of old) (shelf_of made) old.full made.full (Ok (Some word)) → WasInNeed group entry old history → EndsInNeed group entry new.room new.full history
    ends_back some_place word makes n = subst (λ full. EndsInNeed group entry new.room full history) (sym full_same) (subst (λ (r : RoomValue). EndsInNeed group entry r made.full history) (sym room_same)
        (needs.refused_ends group entry history (cost d.rows) old made result m g.goes.room n.0 word makes some_place n.1))

    -- for a reason that the definitions have too
    reason : made.room.room.places < greatest → (word : Why) → MakesOr (cost d.rows) (shelf_of old) (shelf_of made) old.full made.full (Ok (Some word))
        → OfSound entry (λ first e. RefusesBehind made.room.room (first ++ all_rows history) d.calls word)
    reason some_place why.Large is first e began stands =
        (d.rows, (open_now.answered e first began).is_pushed, let r = is.1 in let same = ap (λ (s : ShelfValue). s.room.room.region_len) is.0 in omega (arith, r, same))
    reason some_place why.Number is first e began stands = ⊎_elim (λ spent. inr spent) (λ spent. absurd (omega (arith, spent, some_place))) is.1
    reason some_place why.Bucket is first e began stands = absurd is
    reason some_place why.Full is first e began stands = goes_then.stuck is.3 first e began stands

    -- the rows are those that the calls push
    had_need : result ≡ Ok (Some why.Full) → old.full ≡ false → WasInNeed group entry old history → HadNeedOf group entry history d.calls
    had_need is not n first e began stands =
        let had = needs.had_need group entry history (cost d.rows) old made result m g.goes.room n.0 is not n.1 d.rows refl in (d.rows, (open_now.answered e first began).is_pushed, had.0, had.1)

    marks_refused : (word : Why) → result ≡ Ok (Some word) → MakesOr (cost d.rows) (shelf_of old) (shelf_of made) old.full made.full (Ok (Some word)) → MarksFull group entry old new history d.calls (outcome.Refused word)
    marks_refused word is makes = record {
      flag = subst (λ full. KeepsFlag old.full full (outcome.Refused word)) (sym full_same) (flags.flag_refused (cost d.rows) old made result m word makes);
      full_need = λ (e : outcome.Refused word ≡ outcome.Refused why.Full). let same : word ≡ why.Full = (let x = e in cc) in had_need (is ∙ ap (λ w. Ok (Some w)) same);
    }

    pub refused : old.room.room.places < greatest → (word : Why) → result ≡ Ok (Some word)
        → LeavesWell group entry old new history [] × IsEndOf entry history d new (outcome.Refused word) × MarksFull group entry old new history d.calls (outcome.Refused word)
    refused some_place word is = (
      record {
        leaves = leaves_back;
        stand = same_history (Stand entry new) history all_back;
        in_need = λ n. same_history (WasInNeed group entry new) history (in_need_back n, ends_back (let p = m.makes.leaves.places in omega (arith, p, some_place)) word makes n);
        told = subst (λ (b : Body). AreTold entry b.room (count_of b) b.ended b.ended) (sym back.rest) (making.told group (cost d.rows) old made some result m entry history ready g (Some word) makes);
      },
      subst (λ (r : RoomValue). OfSound entry (λ first e. RefusesBehind r.room (first ++ all_rows history) d.calls word)) (sym room_same)
          (reason (let p = m.makes.leaves.places in omega (arith, p, some_place)) word makes),
      marks_refused word is makes,
    )
      where
        makes : MakesOr (cost d.rows) (shelf_of old) (shelf_of made) old.full made.full (Ok (Some word))
        makes = subst (MakesOr (cost d.rows) (shelf_of old) (shelf_of made) old.full made.full) is m.makes.makes

    pub failed : (fault : RunFault) → result ≡ Err fault → LeavesFault group entry old new history fault
    failed fault is = record {
      leaves = leaves_back;
      stand = all_back;
      in_need = in_need_back;
      told = subst (λ (b : Body). TellsWith entry b fault) (sym back.rest)
          (making.told_fault group (cost d.rows) old made some result m entry history ready g fault makes);
      full = full_same ∙ makes.1;
    }
      where
        makes : MakesOr (cost d.rows) (shelf_of old) (shelf_of made) old.full made.full (Err fault)
        makes = subst (MakesOr (cost d.rows) (shelf_of old) (shelf_of made) old.full made.full) is m.makes.makes

  pub refuses_it : old.room.room.places < greatest → (word : Why) → MakesPlace (cost d.rows) old made (Ok (Some word)) → (new : Body) → TakesBack made new → TriesToCommit group old new d (Ok (outcome.Refused word))
  refuses_it some_place word m new back entry history low taken ready g since open_now = refused (Ok (Some word)) m new back entry history low taken ready g since open_now some_place word refl

  pub fails_it : (fault : RunFault) → MakesPlace (cost d.rows) old made (Err fault) → (new : Body) → TakesBack made new → TriesToCommit group old new d (Err fault)
  fails_it fault m new back entry history low taken ready g since open_now = failed (Err fault) m new back entry history low taken ready g since open_now fault refl

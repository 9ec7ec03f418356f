-- Reading the map of a room through a view that is made and taken back.
use Rattle.std.proofs.Common.{◌≡◌, ◌⊎◌, inl, inr, ℕ, true, List, Some, None, Result, Ok, Err, sym, ap, subst, ◌∙◌, arith, true≢false}
use Rattle.std.specs.Prelude.{Any}
use Rattle.std.specs.List.{AllByRecursion}
use Rattle.log_disk.specs.Disk.{HasRisen}
use Rattle.fine_model.specs.declared.Damage.TheVariants as damage
use Rattle.fine_model.specs.declared.FetchFault.{FetchFault}
use Rattle.fine_model.specs.declared.FetchFault.TheVariants as fetch_fault
use Rattle.fine_model.specs.declared.NodeId.{NodeId}
use Rattle.fine_model.specs.declared.Part.{Part}
use Rattle.fine_model.specs.declared.Row.{Row}
use Rattle.fine_model.specs.declared.RunFault.{RunFault}
use Rattle.fine_model.specs.declared.RunFault.TheVariants as run_fault
use Rattle.fine_model.specs.declared.law.RoomState.{RoomState}
use Rattle.fine_model.specs.Map.{Pair}
use Rattle.fine_model.specs.Nodes.{Content}
use Rattle.fine_model.specs.Views.{TellsRowsOf}
use Rattle.fine_model.proofs.Histories.Goings.{becomes_on}
use Rattle.btree_nodes.specs.declared.fault.TreeFault.{TreeFault}
use Rattle.btree_nodes.specs.declared.fault.TreeFault.TheVariants.{Source, Unfit, BucketFull, Number, NoMemory}
use Rattle.btree_nodes.specs.Calls.{OnCleanAnswer}
use Rattle.node_fetch.specs.Fetched.{HasBadEntry, HasBadRow, IsReplayOf}
use Rattle.partition_index.specs.Parts.{IsSeen}
use Rattle.partition_hold.specs.Sources as source
use Rattle.partition_hold.specs.Sources.{finds_in, tells_rows}
use Rattle.partition_hold.specs.Views.{IsView, ViewValue}
use Rattle.epoch_room.specs.Value.{RoomValue}
use Rattle.epoch_room.specs.Whole.{IsWhole}
use Rattle.room_shelf.specs.Shelves.{HasView, IsCountOf, IsLater, IsShelf, LacksView, ReadsOn, Rests, SeesLive, ShelfValue, WhyNone, seen_as, shelf, total}
use Rattle.room_steps.specs.Merging.{of_fetch}
use Rattle.room_shelf.proofs.Loading.{reads_law, shows_out, tells_law}
use Rattle.log_commands.specs.Reading.{ReadsAll}
use Rattle.log_commands.specs.Maps.{AnswersMap, AnswersRows, IsNamed, IsWell, LooksOn, ReadsMap, finds_by, tells_room, told_as}
use Rattle.log_commands.proofs.Gathered.{all_before, unfit_before}

-- a shelf some loads later, and some more
later_on : (a b c : ShelfValue) → IsLater a b → IsLater b c → IsLater a c
later_on a b c p q = record {
  room = q.room ∙ ap (λ (r : RoomState). seen_as r c.room.room) p.room;
  target = q.target ∙ p.target;
  entry = q.entry ∙ p.entry;
  told = q.told ∙ p.told;
  regions = q.regions ∙ p.regions;
  region_len = q.region_len ∙ p.region_len;
  stands = λ first e history s. q.stands first e history (p.stands first e history s);
  becomes = becomes_on a.room.room b.room.room c.room.room p.becomes q.becomes;
}

-- a count that rose, and was then taken over
still_risen : (a b now : ℕ) → HasRisen a b → IsCountOf b now → HasRisen a now
still_risen a b now risen (inl same) = let r = risen in omega (arith, r, same)
still_risen a b now risen (inr least) = let r = risen in grind (arith, r, least)

module _ (old made : RoomValue) (view read : ViewValue) (whole_view : IsView view) (has : HasView old None made view) (later : source.IsLater view read) (new : RoomValue) (rests : Rests made (Some read) new) where
  on : ReadsOn old None made view read
  on = reads_law old None made view read has later

  -- the view's parts are the room's
  parts_are : view.parts ≡ old.room.parts
  parts_are = has.is_out.parts ∙ ap (λ (r : RoomState). r.parts) has.later.room

  len_is : view.region_len ≡ old.room.region_len
  len_is = has.is_out.region_len ∙ ap (λ (r : RoomState). r.region_len) has.later.room

  looks : LooksOn old.room view.eye
  looks = record { sees = sees; seen = subst (AllByRecursion (IsSeen view.eye)) parts_are whole_view.seen }
    where
      seen_live : SeesLive (seen_as old.room made.room) view.eye
      seen_live = subst (λ (r : RoomState). SeesLive r view.eye) has.later.room has.sees

      sees : SeesLive old.room view.eye
      sees = record { regions = seen_live.regions; same = seen_live.same; named = seen_live.named; region_len = seen_live.region_len }

  tell : (rows : List Row) → tells_room old rows → tells_rows view rows
  tell rows told = tells_law made None view rows (shows_out made.room view has.is_out has.sees) (subst (λ (r : RoomState). TellsRowsOf r.image r.region_len r.parts rows) (sym has.later.room) told)

  find : (id : NodeId) (c : Content) → finds_in view id c → finds_by old.room view.eye id c
  find id c found = subst (λ (ps : List Part). IsReplayOf view.eye ps id c) parts_are found

  well : source.IsClean view read → IsWell old new
  well clean = record {
    faults = subst (λ n. IsCountOf n new.disk.faults) (let e = (on.has clean).clean.count in omega (arith, e)) rests.count;
    own_faults = rests.own ∙ on.own;
    shut = rests.shut ∙ on.shut;
  }

  named_row : (region at : ℕ) (id : NodeId) → Any (λ p. HasBadRow view.eye.told view.region_len p id (record { region = region; at = at })) view.parts → IsNamed old (damage.Region region at)
  named_row region at id bad = (
    view.eye,
    looks,
    inl (
      id,
      subst (λ n. Any (λ p. HasBadRow view.eye.told n p id (record { region = region; at = at })) old.room.parts) len_is
          (subst (Any (λ p. HasBadRow view.eye.told view.region_len p id (record { region = region; at = at }))) parts_are bad),
    ),
  )

  named_entry : (region at : ℕ) → Any (λ p. HasBadEntry view.eye.told view.region_len p (record { region = region; at = at })) view.parts → IsNamed old (damage.Region region at)
  named_entry region at bad = (
    view.eye,
    looks,
    inr (subst (λ n. Any (λ p. HasBadEntry view.eye.told n p (record { region = region; at = at })) old.room.parts) len_is
        (subst (Any (λ p. HasBadEntry view.eye.told view.region_len p (record { region = region; at = at }))) parts_are bad)),
  )

  answers : (r : Result (List Pair) TreeFault) → OnCleanAnswer r (source.IsClean view read) → ReadsAll (tells_rows view) (finds_in view) (λ fault. source.Fails view fault read) r → AnswersMap old new (told_as r)
  answers (Ok pairs) clean found =
      (well clean, record { opened = sym has.clean.shut ∙ has.is_out.opened; eye = view.eye; looks = looks; found = all_before (tells_room old) (tells_rows view) (finds_by old.room view.eye) (finds_in view) tell find pairs found })
  answers (Err (Source fetch_fault.Failed)) clean fails = by (on.fails fetch_fault.Failed fails)
    where
      by : HasRisen (total (shelf old None)) (total (shelf made (Some read))) ⊎ (made.room.is_shut ≡ true) → HasRisen old.disk.faults new.disk.faults ⊎ (old.room.is_shut ≡ true)
      by (inl risen) = inl (subst (λ n. HasRisen n new.disk.faults) (let e : total (shelf old None) ≡ old.disk.faults = omega arith in e) (still_risen (total (shelf old None)) (total (shelf made (Some read))) new.disk.faults risen rests.count))
      by (inr shut) = absurd (true≢false (sym shut ∙ on.is_out.opened))
  answers (Err (Source (fetch_fault.BadRow region at))) clean fails = (well clean, λ rows told sound. fails.0 rows (tell rows told), named_row region at fails.1.0 fails.1.1)
  answers (Err (Source (fetch_fault.BadIndex region at))) clean fails = (well clean, λ rows told sound. fails.0 rows (tell rows told), named_entry region at fails.1)
  answers (Err (Source fetch_fault.NoMemory)) clean fails = tt
  answers (Err (Unfit id)) clean meets =
      let m = unfit_before (tells_room old) (tells_rows view) (finds_by old.room view.eye) (finds_in view) tell find id meets in (well clean, m.none_sound, (view.eye, looks, m))
  answers (Err (BucketFull next depth)) clean none = absurd none
  answers (Err (Number id)) clean none = absurd none
  answers (Err NoMemory) clean none = tt

  -- the map was read, or a fault came
  pub reads : (r : Result (List Pair) TreeFault) → OnCleanAnswer r (source.IsClean view read) → ReadsAll (tells_rows view) (finds_in view) (λ fault. source.Fails view fault read) r → ReadsMap old new (told_as r)
  reads r clean answer = record {
    board = rests.board;
    later = later_on (shelf old None) (shelf made (Some read)) (shelf new None) on.later rests.later;
    answer = answers r clean answer;
  }

-- no view could be made
pub reads_none : (old new : RoomValue) (fault : FetchFault) → IsWhole old → IsWhole new → LacksView old None new fault → ReadsMap old new (Err (of_fetch fault))
reads_none old new fault whole whole_new lacks = record { board = lacks.board; later = lacks.later; answer = by fault lacks.why }
  where
    counted : (room : RoomValue) → IsWhole room → room.room.faults ≡ room.disk.faults
    counted room w = ap (λ (r : RoomState). r.faults) w.of_disk

    by : (fault : FetchFault) → WhyNone fault old new → AnswersMap old new (Err (of_fetch fault))
    by fetch_fault.Failed shut = of (lacks.later.becomes.shut_by shut)
      where
        of : (old.room.is_shut ≡ true) ⊎ (HasRisen old.room.own_faults new.room.own_faults × HasRisen old.room.faults new.room.faults) → HasRisen old.disk.faults new.disk.faults ⊎ (old.room.is_shut ≡ true)
        of (inl was) = inr was
        of (inr risen) = inl (subst (λ n. HasRisen n new.disk.faults) (counted old whole) (subst (HasRisen old.room.faults) (counted new whole_new) risen.1))
    by fetch_fault.NoMemory why = tt
    by (fetch_fault.BadRow region at) why = absurd why
    by (fetch_fault.BadIndex region at) why = absurd why

-- of rows that are told
pub answers_rows : (old new : RoomValue) (r : Result (List Pair) RunFault) → ReadsMap old new r → (rows : List Row) → tells_room old rows → AnswersRows rows r
answers_rows old new (Ok pairs) r rows told = r.answer.1.found.map rows told
answers_rows old new (Err run_fault.Memory) r rows told = tt
answers_rows old new (Err run_fault.Disk) r rows told = tt
answers_rows old new (Err (run_fault.Damaged what)) r rows told = r.answer.1 rows told

-- a view that was read through is out still
pub read_out : (old made : RoomValue) (view read : ViewValue) → HasView old None made view → source.IsLater view read → IsShelf made.room (Some read)
read_out old made view read has later = (reads_law old None made view read has later).is_out

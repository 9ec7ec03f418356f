-- What answering the calls of a transaction leaves.
use Rattle.std.proofs.Common.{◌≡◌, ◌≢◌, refl, inl, inr, ℕ, ◌+◌, ◌<◌, ◌≤◌, min, false, List, [], ◌++◌, length, sym, ap, ◌∙◌, subst, Option, Some, None, Ok, Err, arith}
use Rattle.std.specs.Prelude.{Result, if◌then◌else◌}
use Rattle.fine_model.specs.declared.Call.{Call}
use Rattle.fine_model.specs.declared.Damage.{Damage}
use Rattle.fine_model.specs.declared.Damage.TheVariants as damage
use Rattle.fine_model.specs.declared.FetchFault.{FetchFault}
use Rattle.fine_model.specs.declared.FetchFault.TheVariants as fetch_fault
use Rattle.fine_model.specs.declared.Row.{Row}
use Rattle.fine_model.specs.declared.RunFault.{RunFault}
use Rattle.fine_model.specs.declared.RunFault.TheVariants as run_fault
use Rattle.fine_model.specs.declared.Why.{Why}
use Rattle.fine_model.specs.declared.Why.TheVariants as why
use Rattle.fine_model.specs.declared.law.RoomState.{RoomState}
use Rattle.fine_model.specs.Buckets.{Began}
use Rattle.fine_model.specs.Damages.{IsPlaceOrNode}
use Rattle.fine_model.specs.Faults.{last_count}
use Rattle.fine_model.specs.History.{Commit, all_rows, upto}
use Rattle.fine_model.specs.Nodes.{Agrees}
use Rattle.btree_nodes.specs.Calls.{OnCleanAnswer}
use Rattle.btree_nodes.specs.declared.fault.TreeFault.{TreeFault}
use Rattle.btree_nodes.specs.declared.fault.TreeFault.TheVariants.{BucketFull, NoMemory, Number, Source, Unfit}
use Rattle.txn_draft.specs.Answers.{FailsBy}
use Rattle.txn_draft.specs.Drafts.{DraftValue}
use Rattle.partition_hold.specs.Sources as source
use Rattle.partition_hold.specs.Sources.{tells_rows}
use Rattle.partition_hold.specs.Views.{ViewValue}
use Rattle.epoch_room.specs.Meaning.{Stands, origin_of}
use Rattle.epoch_room.specs.Value.{RoomValue, all_regions}
use Rattle.epoch_room.specs.Whole.{IsWhole}
use Rattle.epoch_room.proofs.Views.Viewing.{all_parts}
use Rattle.room_merges.proofs.Living.{seen_itself}
use Rattle.room_shelf.specs.Shelves.{Fails, IsClean, IsLater, IsShelf, LacksView, ReadsOn, ShowsLog, TellsNone, shelf, sight, total}
use Rattle.room_shelf.proofs.Loading.{reads_law, shows_out}
use Rattle.room_shelf.proofs.Viewed.{later_itself}
use Rattle.open_txn.specs.Buckets.{BucketsValue, StandAll}
use Rattle.open_txn.specs.Opened as opened
use Rattle.open_txn.specs.Opened.{AnswersCalls, IsOpen, IsRefusal, TellsHistory}
use Rattle.room_steps.specs.Laws.{TellsNow}
use Rattle.run_laws.specs.Lanes.{is_disk, lanes_failed}
use Rattle.run_laws.specs.Runs.{IsReady, OfSound}
use Rattle.run_laws.specs.SoFar.{AreFewSoFar, AreTold, GoesOn}
use Rattle.run_laws.specs.Told.{HasCause}
use Rattle.run_laws.specs.Turns.{RefusesBehind}
use Rattle.run_laws.proofs.Going.{later_law, stays_law}
use Rattle.run_laws.proofs.Readings.{legal_law, sees_law, unsound_law}
use Rattle.run_laws.proofs.Tellings.{told_more, told_stays}
use Rattle.txn_runner.specs.Body.{Body, Goes, IsBetween, Stand, count_of, shelf_of}
use Rattle.txn_runner.specs.Steps.{Answers, Behind, Looks, Reads, TakesBack, TellsWith, of_fetch, of_tree}

-- ---- what loads leave

sealed_same : (old new : Body) → IsLater (shelf_of old) (shelf_of new) → new.room.room.sealed ≡ old.room.room.sealed
sealed_same old new l = ap (λ (r : RoomState). r.sealed) l.room

room_on : (entry : RoomValue) (old new : Body) (history : List Commit) → GoesOn entry old.room history → IsWhole new.room → IsLater (shelf_of old) (shelf_of new) → GoesOn entry new.room history
room_on entry old new history g whole l = stays_law entry old.room new.room history g whole (later_law old.room new.room old.view new.view l)

own_low : (old new : Body) → IsWhole old.room → IsWhole new.room → IsLater (shelf_of old) (shelf_of new) → old.room.disk.own_faults ≤ new.room.disk.own_faults
own_low old new whole whole_new l = let a = l.becomes.own_faults in
    let e = ap (λ (r : RoomState). r.own_faults) whole.of_disk in let f = ap (λ (r : RoomState). r.own_faults) whole_new.of_disk in omega (arith, a, e, f)

-- the body goes on as it was
pub goes_later : (entry : RoomValue) (old new : Body) (history : List Commit) → Goes entry old history → Reads old new → Goes entry new history
goes_later entry old new history g r = record {
  room = room_on entry old new history g.room r.whole r.later;
  no_region = λ full. let n = g.no_region (sym r.full ∙ full) in record {
    none_waits = ap (λ (s : RoomState). s.waiting) r.later.room ∙ n.none_waits;
    few_free = subst (λ (s : RoomState). length s.free < 2) (sym r.later.room) n.few_free;
  };
  stuck = λ full first e began stands. (r.later.becomes.stuck (g.stuck (sym r.full ∙ full) first e began stands)).stuck;
  view = r.shelf;
}

pub few_later : (group : ℕ) (old new : Body) (history : List Commit) → AreFewSoFar group old.room.room.sealed old.ended history → Reads old new → AreFewSoFar group new.room.room.sealed new.ended history
few_later group old new history few r = subst (λ n. AreFewSoFar group n new.ended history) (sym (sealed_same old new r.later)) (subst (λ ended. AreFewSoFar group old.room.room.sealed ended history) (sym r.ended) few)

pub told_later : (entry : RoomValue) (old new : Body) (history : List Commit) → Goes entry old history → AreTold entry old.room (count_of old) old.ended old.ended → Reads old new → IsClean (shelf_of old) (shelf_of new)
    → AreTold entry new.room (count_of new) new.ended new.ended
told_later entry old new history g t r clean = subst (λ ended. AreTold entry new.room (count_of new) ended ended) (sym r.ended)
    (told_stays entry old.room new.room (count_of old) (count_of new) old.ended old.ended (inl clean.count) (own_low old new g.room.whole r.whole r.later) clean.shut t)

-- the buckets too, where they are the same
pub stand_later : (entry : RoomValue) (old new : Body) (history : List Commit) → Stand entry old history → IsLater (shelf_of old) (shelf_of new) → new.buckets ≡ old.buckets → Stand entry new history
stand_later entry old new history s l same =
    subst (λ n. StandAll (origin_of entry.entry) n new.buckets history) (sym (sealed_same old new l)) (subst (λ b. StandAll (origin_of entry.entry) old.room.room.sealed b history) (sym same) s)

-- a fault is told, by its cause
total_least : (a b : ℕ) → min a last_count ≤ a + b
total_least a b = grind arith

pub told_with : (entry : RoomValue) (old new : Body) (history : List Commit) (fault : RunFault) → IsReady entry → Goes entry old history → AreTold entry old.room (count_of old) old.ended old.ended → Reads old new
    → count_of old ≤ count_of new → HasCause entry old.room new.room (count_of old) (count_of new) fault → TellsWith entry new fault
told_with entry old new history fault ready g t r low cause after more adds = told_more entry old.room new.room (count_of old) (count_of new) old.ended after old.ended more history fault ready t (record {
  goes_on = room_on entry old new history g.room r.whole r.later;
  cause = cause;
  adds = (subst (λ ended. TellsNow ended after ended more fault) r.ended adds).adds;
  lanes = adds.lanes;
  counted = subst (λ ended. lanes_failed after ≤ lanes_failed ended + (if is_disk (Some fault) then 1 else 0)) r.ended adds.counted;
  all = adds.all;
  no_lower = (low, own_low old new g.room.whole r.whole r.later);
  is_total = least new.view;
})
  where
    least : (v : Option ViewValue) → min new.room.disk.faults last_count ≤ total (shelf new.room v)
    least None = total_least new.room.disk.faults 0
    least (Some view) = total_least new.room.disk.faults view.eye.faults

-- ---- no view could be made

no_view_cause : (entry : RoomValue) (old : Body) (room : RoomValue) (fault : FetchFault) → LacksView old.room old.view room fault → HasCause entry old.room room (count_of old) (total (shelf room None)) (of_fetch fault)
no_view_cause entry old room fetch_fault.Failed l = inr l.why
no_view_cause entry old room fetch_fault.NoMemory l = tt
no_view_cause entry old room (fetch_fault.BadRow region at) l = absurd l.why
no_view_cause entry old room (fetch_fault.BadIndex region at) l = absurd l.why

pub lacks_view : (group : ℕ) (old new : Body) (d : DraftValue) (calls : List Call) (fault : FetchFault) → Looks old new (Err fault) → Answers group old new d calls (Err (of_fetch fault))
lacks_view group old new d calls fault l = (
  reads,
  λ entry history ready b. (stand_later entry old new history b.stand reads.later buckets, told_with entry old new history (of_fetch fault) ready b.going.goes b.going.told reads low (cause entry)),
)
  where
    none : new.view ≡ None
    none = ap (λ (x : Body). x.view) l.rest

    buckets : new.buckets ≡ old.buckets
    buckets = ap (λ (x : Body). x.buckets) l.rest

    reads : Reads old new
    reads = record {
      full = ap (λ (x : Body). x.full) l.rest;
      ended = ap (λ (x : Body). x.ended) l.rest;
      whole = l.whole;
      shelf = subst (IsShelf new.room.room) (sym none) l.room.board;
      later = subst (λ v. IsLater (shelf_of old) (shelf new.room v)) (sym none) l.room.later;
    }

    low : count_of old ≤ count_of new
    low = subst (λ v. count_of old ≤ total (shelf new.room v)) (sym none) l.room.no_lower

    cause : (entry : RoomValue) → HasCause entry old.room new.room (count_of old) (count_of new) (of_fetch fault)
    cause entry = subst (λ v. HasCause entry old.room new.room (count_of old) (total (shelf new.room v)) (of_fetch fault)) (sym none) (no_view_cause entry old new.room fault l.room)

-- ---- calls were answered

-- What calls were answered through: a view that shows what is sealed, with what a clean load and a fault of it say. Between them only the shelf changed.
pub record Through (old seen : Body) (view : ViewValue) (Clean : Type 0) (Failing : FetchFault → Type 0) : Type 0 where
  pub reads : Reads old seen
  pub buckets : seen.buckets ≡ old.buckets
  pub shows : ShowsLog seen.room.room view
  pub shut : seen.room.room.is_shut ≡ old.room.room.is_shut
  pub no_lower : count_of old ≤ count_of seen
  pub clean : Clean → IsClean (shelf_of old) (shelf_of seen)
  pub fails : (fault : FetchFault) → Failing fault → Fails (shelf_of old) fault (shelf_of seen)

-- a view that is out
pub through_view : (old mid : Body) (view read : ViewValue) → Looks old mid (Ok view) → source.IsLater view read → Through old (record mid { view = Some read }) view (source.IsClean view read) (λ fault. source.Fails view fault read)
through_view old mid view read looks later = record {
  reads = record { full = ap (λ (x : Body). x.full) looks.rest; ended = ap (λ (x : Body). x.ended) looks.rest; whole = looks.whole; shelf = on_shelf.is_out; later = on_shelf.later };
  buckets = ap (λ (x : Body). x.buckets) looks.rest;
  shows = shows_out mid.room.room view looks.room.is_out looks.room.sees;
  shut = on_shelf.shut;
  no_lower = on_shelf.no_lower;
  clean = λ clean. (on_shelf.has clean).clean;
  fails = on_shelf.fails;
}
  where
    on_shelf : ReadsOn old.room old.view mid.room view read
    on_shelf = reads_law old.room old.view mid.room view read looks.room later

-- what a view of an open room would show
sight_shows : (room : RoomValue) → room.room.is_shut ≡ false → ShowsLog room.room (sight room)
sight_shows room open_room = record {
  upto = refl;
  parts = refl;
  region_len = refl;
  opened = open_room;
  sees = record { regions = all_regions room.room.parts; same = seen_itself (all_regions room.room.parts) room.room.image; named = all_parts room.room.parts; region_len = refl };
}

-- the nodes that are cached alone
pub through_cached : (old : Body) (Clean : Type 0) → IsWhole old.room → IsShelf old.room.room old.view → old.room.room.is_shut ≡ false → Through old old (sight old.room) Clean (λ fault. fault ≡ fetch_fault.NoMemory)
through_cached old Clean whole on_shelf open_room = record {
  reads = record { full = refl; ended = refl; whole = whole; shelf = on_shelf; later = later_itself (shelf_of old) };
  buckets = refl;
  shows = sight_shows old.room open_room;
  shut = refl;
  no_lower = omega arith;
  clean = λ clean. record { count = refl; own = refl; shut = refl };
  fails = λ fault is. subst (λ f. Fails (shelf_of old) f (shelf_of old)) (sym is) tt;
}

module _ (old seen : Body) (view : ViewValue) (Clean : Type 0) (Failing : FetchFault → Type 0) (through : Through old seen view Clean Failing) where
  -- the body that was read, with other buckets
  abbrev with_buckets : BucketsValue → Body
  with_buckets buckets = record seen { buckets = buckets }

  reads_with : (buckets : BucketsValue) → Reads old (with_buckets buckets)
  reads_with buckets = let r = through.reads in record { full = r.full; ended = r.ended; whole = r.whole; shelf = r.shelf; later = r.later }

  -- what the view tells of the history
  tells : (entry : RoomValue) (history : List Commit) → IsReady entry → Goes entry old history → (e : ℕ) (first : List Row) → Began (origin_of entry.entry) e first → TellsHistory (tells_rows view) view.upto first history
  tells entry history ready g e first began = record { legal = legal_law entry seen.room history on first e began stands; known = rows.0; is_told = rows.1; agrees = rows.2 }
    where
      stands : Stands entry first e []
      stands = ready.stands first e began

      on : GoesOn entry seen.room history
      on = room_on entry old seen history g.room through.reads.whole through.reads.later

      rows : (rows : List Row) × tells_rows view rows × Agrees rows (first ++ all_rows (upto history view.upto))
      rows = sees_law entry seen.room view history on through.shows first e began stands

  -- the buckets, which stand for the history up to what is sealed
  is_ready : (entry : RoomValue) (history : List Commit) → IsReady entry → Goes entry old history → Stand entry old history → opened.IsReady (tells_rows view) view.upto (origin_of entry.entry) old.room.room.sealed seen.buckets history
  is_ready entry history ready g stand = record {
    stand = subst (λ b. StandAll (origin_of entry.entry) old.room.room.sealed b history) (sym through.buckets) stand;
    most = let e : view.upto ≡ old.room.room.sealed = through.shows.upto ∙ sealed_same old seen through.reads.later in omega (arith, e);
    told = tells entry history ready g;
  }

  open_old : old.room.room.is_shut ≡ false
  open_old = sym through.shut ∙ through.shows.opened

  module _ (now : BucketsValue) (d : DraftValue) (calls : List Call) where
    -- all were answered
    pub answered : (group : ℕ) → Clean → AnswersCalls calls d
        → ((log : _) (low : ℕ) (history : List Commit) → opened.IsReady (tells_rows view) view.upto log low seen.buckets history → IsOpen log low history seen.buckets now d)
        → Answers group old (with_buckets now) d calls (Ok None)
    answered group clean answers open_now = (
      reads_with now,
      through.clean clean,
      answers,
      λ entry history ready b. (seen.buckets, open_now (origin_of entry.entry) old.room.room.sealed history (is_ready entry history ready b.going.goes b.stand)),
    )

    -- one was refused, and what was done is taken back
    module _ (new : Body) (back : TakesBack (with_buckets now) new) (fault : TreeFault)
        (refused : (log : _) (low : ℕ) (history : List Commit) → opened.IsReady (tells_rows view) view.upto log low seen.buckets history → IsRefusal log low history seen.buckets now calls fault) where
      as_read : new ≡ with_buckets new.buckets
      as_read = back.rest

      reads_back : Reads old new
      reads_back = subst (Reads old) (sym as_read) (reads_with new.buckets)

      shelf_is : shelf_of new ≡ shelf_of seen
      shelf_is = ap shelf_of as_read

      room_is : new.room ≡ seen.room
      room_is = ap (λ (x : Body). x.room) as_read

      refusal : (entry : RoomValue) (history : List Commit) → IsReady entry → Goes entry old history → Stand entry old history → IsRefusal (origin_of entry.entry) old.room.room.sealed history seen.buckets now calls fault
      refusal entry history ready g stand = refused (origin_of entry.entry) old.room.room.sealed history (is_ready entry history ready g stand)

      pub stand_back : (entry : RoomValue) (history : List Commit) → IsReady entry → Goes entry old history → Stand entry old history → Stand entry new history
      stand_back entry history ready g stand =
          let same = sealed_same old new reads_back.later in
          let low : old.room.room.sealed ≤ new.room.room.sealed = omega (arith, same) in
          let evicts : seen.room.room.sealed ≤ new.room.room.sealed = let e = ap (λ (x : RoomValue). x.room.sealed) room_is in omega (arith, e) in
          back.buckets (origin_of entry.entry) old.room.room.sealed new.room.room.sealed history seen.buckets (refusal entry history ready g stand).to_undo low evicts

      -- for a reason that the definitions have
      by_reason : (group : ℕ) (word : Why) → word ≢ why.Full → Clean → ((entry : RoomValue) (history : List Commit) → IsReady entry → Goes entry old history → Stand entry old history
          → OfSound entry (λ first e. RefusesBehind new.room.room (first ++ all_rows history) calls word)) → Answers group old new d calls (Ok (Some word))
      by_reason group word not clean why_not = (
        reads_back,
        subst (IsClean (shelf_of old)) (sym shelf_is) (through.clean clean),
        not,
        λ entry history ready b. (stand_back entry history ready b.going.goes b.stand, why_not entry history ready b.going.goes b.stand),
      )

      -- by a fault
      by_fault : (group : ℕ) (told : RunFault) → ((entry : RoomValue) (history : List Commit) → IsReady entry → Goes entry old history → Stand entry old history → HasCause entry old.room new.room (count_of old) (count_of new) told)
          → Answers group old new d calls (Err told)
      by_fault group told cause = (
        reads_back,
        λ entry history ready b. (stand_back entry history ready b.going.goes b.stand, told_with entry old new history told ready b.going.goes b.going.told reads_back low (cause entry history ready b.going.goes b.stand)),
      )
        where
          low : count_of old ≤ count_of new
          low = subst (λ s. count_of old ≤ total s) (sym shelf_is) through.no_lower

      -- damage, which no failed call told
      by_damage : (group : ℕ) (what : Damage) → IsPlaceOrNode what → Clean → ((entry : RoomValue) (history : List Commit) → IsReady entry → Goes entry old history → Stand entry old history → OfSound entry (λ first e. ⊥))
          → Answers group old new d calls (Err (run_fault.Damaged what))
      by_damage group what placed clean unsound = by_fault group (run_fault.Damaged what) (λ entry history ready g stand. (is_clean.count, is_clean.shut, placed, unsound entry history ready g stand))
        where
          is_clean : IsClean (shelf_of old) (shelf_of new)
          is_clean = subst (IsClean (shelf_of old)) (sym shelf_is) (through.clean clean)

      bad : TellsNone (shelf_of old) → (entry : RoomValue) (history : List Commit) → Goes entry old history → OfSound entry (λ first e. ⊥)
      bad none entry history g = unsound_law entry old.room old.view history g.room open_old none

      pub takes_back : (group : ℕ) → OnCleanAnswer {A = Unit {0}} (Err fault) Clean → FailsBy Failing fault → Answers group old new d calls (of_tree fault)
      takes_back = by fault refused
        where
          by : (f : TreeFault) → ((log : _) (low : ℕ) (history : List Commit) → opened.IsReady (tells_rows view) view.upto log low seen.buckets history → IsRefusal log low history seen.buckets now calls f)
              → (group : ℕ) → OnCleanAnswer {A = Unit {0}} (Err f) Clean → FailsBy Failing f → Answers group old new d calls (of_tree f)
          by (BucketFull next depth) refuses group clean fails = by_reason group why.Bucket (λ (e : why.Bucket ≡ why.Full). let x = e in cc) clean (λ entry history ready g stand first e began stands.
              (refuses (origin_of entry.entry) old.room.room.sealed history (is_ready entry history ready g stand)).cause e first began)
          by (Number id) refuses group clean fails = by_reason group why.Number (λ (e : why.Number ≡ why.Full). let x = e in cc) clean (λ entry history ready g stand first e began stands.
              inl ((refuses (origin_of entry.entry) old.room.room.sealed history (is_ready entry history ready g stand)).cause e first began))
          by (Unfit id) refuses group clean fails = by_damage group (damage.Node id) tt clean (λ entry history ready g stand first e began stands.
              (refuses (origin_of entry.entry) old.room.room.sealed history (is_ready entry history ready g stand)).cause e first began)
          by NoMemory refuses group clean fails = by_fault group run_fault.Memory (λ entry history ready g stand. tt)
          by (Source fetch_fault.NoMemory) refuses group clean fails = by_fault group run_fault.Memory (λ entry history ready g stand. tt)
          by (Source fetch_fault.Failed) refuses group clean fails = by_fault group run_fault.Disk (λ entry history ready g stand.
              subst (λ s. Fails (shelf_of old) fetch_fault.Failed s) (sym shelf_is) (through.fails fetch_fault.Failed fails))
          by (Source (fetch_fault.BadRow region at)) refuses group clean fails = by_damage group (damage.Region region at) tt clean (λ entry history ready g stand. bad (through.fails (fetch_fault.BadRow region at) fails).0 entry history g)
          by (Source (fetch_fault.BadIndex region at)) refuses group clean fails = by_damage group (damage.Region region at) tt clean (λ entry history ready g stand. bad (through.fails (fetch_fault.BadIndex region at) fails).0 entry history g)

-- ---- the nodes that are cached did not do

-- what is answered from a body with other buckets, which stand for the same history, is answered from this one
pub answers_from : (group : ℕ) (old : Body) (buckets : BucketsValue) (new : Body) (d : DraftValue) (calls : List Call) (result : Result (Option Why) RunFault) → Behind group old (λ entry history. Stand entry (record old { buckets = buckets }) history)
    → Answers group (record old { buckets = buckets }) new d calls result → Answers group old new d calls result
answers_from group old buckets new d calls result stands = by result
  where
    reads_from : Reads (record old { buckets = buckets }) new → Reads old new
    reads_from r = record { full = r.full; ended = r.ended; whole = r.whole; shelf = r.shelf; later = r.later }

    between : (entry : RoomValue) (history : List Commit) → IsReady entry → IsBetween group entry old history → IsBetween group entry (record old { buckets = buckets }) history
    between entry history ready b = record {
      going = record { goes = record { room = b.going.goes.room; no_region = b.going.goes.no_region; stuck = b.going.goes.stuck; view = b.going.goes.view }; few = b.going.few; told = b.going.told };
      stand = stands entry history ready b;
    }

    by : (r : Result (Option Why) RunFault) → Answers group (record old { buckets = buckets }) new d calls r → Answers group old new d calls r
    by (Ok None) a = (reads_from a.0, a.1, a.2, λ entry history ready b. a.3 entry history ready (between entry history ready b))
    by (Ok (Some word)) a = (reads_from a.0, a.1, a.2, λ entry history ready b. a.3 entry history ready (between entry history ready b))
    by (Err fault) a = (reads_from a.0, λ entry history ready b. a.1 entry history ready (between entry history ready b))

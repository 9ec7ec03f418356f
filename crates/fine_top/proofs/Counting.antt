-- What a generated run and its reading were, between two states of the disk.
use Rattle.std.proofs.Common.{◌≡◌, ◌⊎◌, inl, inr, ℕ, zero, suc, ◌+◌, ◌<◌, ◌≤◌, ◌==◌, Bool, true, false, cond, List, ◌++◌, length, refl, sym, ap, ◌∙◌, subst, Option, Some, None, Result, Ok, Err, arith, append-nil}
use Rattle.std.specs.List.{list_all, list_any}
use Rattle.std.proofs.Math.Nat.{min-le_left}
use Rattle.log_disk.specs.Disk.{BothTold, Disk, HasRisen, Told}
use Rattle.log_disk.specs.Moments.{Continues, ContinuesOn}
use Rattle.fine_model.specs.declared.Damage.{Damage}
use Rattle.fine_model.specs.declared.Damage.TheVariants as damage_of
use Rattle.fine_model.specs.declared.Options.{Options}
use Rattle.fine_model.specs.declared.Outcome.{Outcome}
use Rattle.fine_model.specs.declared.Reason.TheVariants as reason
use Rattle.fine_model.specs.declared.Row.{Row}
use Rattle.fine_model.specs.declared.RunFault.{RunFault}
use Rattle.fine_model.specs.declared.RunFault.TheVariants as run_fault
use Rattle.fine_model.specs.declared.Ran.{Ran}
use Rattle.fine_model.specs.declared.ScriptTxn.{ScriptTxn}
use Rattle.fine_model.specs.declared.law.RoomState.{RoomState}
use Rattle.fine_model.specs.Boards.{is_empty}
use Rattle.fine_model.specs.Chain.{Shows}
use Rattle.fine_model.specs.Commands.{are_durable, summary}
use Rattle.fine_model.specs.Damages.{IsPlaceOrNode}
use Rattle.fine_model.specs.Faults.{last_count}
use Rattle.fine_model.specs.Generator.{next_state, txns_from}
use Rattle.fine_model.specs.Headline.{HasStatus}
use Rattle.fine_model.specs.History.{Commit, all_rows, last_epoch, map_at}
use Rattle.fine_model.specs.Map.{Pair}
use Rattle.fine_model.specs.Nodes.{Agrees}
use Rattle.fine_model.specs.Outcomes.{is_refused}
use Rattle.fine_model.specs.Report.{all_outcomes, fault_lines, reason_bytes}
use Rattle.fine_model.specs.Trees.{IsSound, map_of}
use Rattle.fine_model.proofs.Histories.HistoryLaws.{upto-last}
use Rattle.fine_model.proofs.Histories.Legal.{legal_map}
use Rattle.fine_model.proofs.Trees.TreeLaws.{IsSound-Agrees, map_of-Agrees}
use Rattle.epoch_room.specs.Meaning.{Stands, StandsTold}
use Rattle.epoch_room.specs.Value.{RoomValue, made}
use Rattle.epoch_room.specs.Whole.{IsWhole}
use Rattle.log_commands.specs.Ends.{fault_status}
use Rattle.log_commands.specs.Found.{FindsChain}
use Rattle.log_commands.specs.Maps.{AnswersMap, AnswersRows, IsNamed, ReadsMap, tells_room}
use Rattle.reopen.specs.declared.chain.Chain.{Chain}
use Rattle.reopen.specs.Opening.{SeesChain}
use Rattle.room_shelf.specs.Shelves.{IsCountOf}
use Rattle.room_shelf.proofs.Loading.{log_law}
use Rattle.run_laws.proofs.Runs.{told_of}
use Rattle.run_laws.proofs.NoEyes.{no_eyes}
use Rattle.fine_top.specs.Generating.{CountsRun, counted, counted_text, early, Ends, EndsGenerated, IsCounted, LacksMemory, Numbers, OpensGen, PrintsCounted, ReadsEnd, default_options, numbers, script_by, text_of}
use Rattle.fine_top.specs.declared.opening.Opened.{Opened}
use Rattle.fine_top.specs.Opened.{IsUnsoundLog}
use Rattle.fine_top.specs.Running.{IsRunBehind, IsRunOf, IsRunOn, LeavesBeside, RunsFrom, run_status}
use Rattle.script_text.specs.Streams.{Puts}
use Rattle.fine_top.proofs.Durable.{all_durable}
use Rattle.fine_top.proofs.Between.{began, behind_of, on_from, run_from, stood}
use Rattle.fine_top.proofs.Entries.{risen_same, tells_same}

-- a run without a fault stays one of the log, whatever calls fail behind it: nothing of it depends on the counts then
pub on_read : (old mid new : Disk) (before after : Told) (script : List ScriptTxn) (ran : Ran) (history : List Commit) (e : ℕ) (rows : List Row) → ran.fault ≡ None → IsRunOn default_options old mid before after script ran history e rows
    → IsRunOn default_options old new before after script ran history e rows
on_read old mid new before after script ran history e rows none on = record {
  run = λ source output. let r = on.run source output in record { run = r.run; caused = r.caused; few_each = r.few_each; last_need = r.last_need; failed = λ fault is. absurd (not_both fault is); all_run = r.all_run; all_durable = r.all_durable };
  done = λ source output status has one. let d = on.done source output status has one in record {
    all_run = d.all_run;
    all_durable = λ not. (on.run source output).all_durable none;
    one_each = λ six. absurd (not_six status (subst (HasStatus status (all_outcomes script ran.outcomes)) none has) six);
  };
  in_need = on.in_need;
}
  where
    not_both : (fault : RunFault) → ran.fault ≡ Some fault → ⊥
    not_both fault is = let x : ◌≡◌ {A = Option RunFault} None (Some fault) = sym none ∙ is in cc

    not_six : (status : ℕ) → HasStatus status (all_outcomes script ran.outcomes) None → status ≡ 6 → ⊥
    not_six status has six = by (list_any is_refused (all_outcomes script ran.outcomes)) has six
      where
        by : (b : Bool) → status ≡ cond {A = ℕ} b 8 0 → status ≡ 6 → ⊥
        by true h six = omega (arith, h, six)
        by false h six = omega (arith, h, six)

module _ (n : Numbers) (script : List ScriptTxn) (same : script ≡ script_by n) (disk : Disk) (chain : Chain) (ran : Ran) (room : RoomValue) (r : RunsFrom default_options script disk chain ran room) (sees : SeesChain disk chain) where
  run : IsRunOf default_options disk room.disk script ran
  run = run_from default_options script disk chain ran room r sees

  abbrev history : List Commit
  history = r.runs.history

  entry_told : (before : Told) → disk.told ≡ Some before → room.entry.told ≡ Some before
  entry_told before is = tells_same room.entry disk r.runs.adds.beside.origin ∙ is

  -- ---- what the room tells behind the run

  module _ (before after : Told) (e : ℕ) (rows : List Row) (old_is : disk.told ≡ Some before) (mid_is : room.disk.told ≡ Some after) (shows : Shows disk.region_len before.bytes e rows) (sound : IsSound rows) where
    on : IsRunOn default_options disk room.disk before after script ran history e rows
    on = on_from default_options script disk chain ran room r before after e rows old_is mid_is shows sound

    stands : Stands room rows e history
    stands =
        r.runs.adds.stands rows e (began disk chain.parts chain.retired r.whole r.stood before e rows old_is shows sound) (stood disk chain.parts chain.retired r.whole r.stood before e rows old_is shows sound)

    s : StandsTold room.room before after rows e history
    s = told_of room before after rows e history (entry_told before old_is) mid_is stands

    -- the rows of the live parts, where all is sealed: sound, with the map of the log with its history
    read_rows : ran.fault ≡ None → room.room.is_shut ≡ false → (live : List Row) × tells_room room live × IsSound live × (map_of live ≡ map_at rows history)
    read_rows none opened =
        let now = log_law room None before after rows e history r.runs.adds.whole opened (entry_told before old_is) mid_is stands in
        let w = on.run (0, 0) (0, 0) in
        let last : last_epoch e history ≤ room.room.sealed = let a = w.all_durable none in let b = r.runs.durable in omega (arith, a, b) in
        let all = upto-last e room.room.sealed history s.stands.counts.epochs last in
        let agrees : Agrees now.0 (rows ++ all_rows history) = subst (λ h. Agrees now.0 (rows ++ all_rows h)) all now.2 in
        let p = legal_map rows history s.small sound w.run.legal in (
          now.0,
          now.1,
          IsSound-Agrees now.0 (rows ++ all_rows history) agrees p.has_map.sound,
          map_of-Agrees now.0 (rows ++ all_rows history) agrees p.has_map.sound ∙ p.has_map.map,
        )

  -- ---- what reading leaves

  module _ (new : RoomValue) (whole : IsWhole new) (found : Result (List Pair) RunFault) (reads : ReadsEnd ran.fault room new found) where
    -- by how the run ended
    parted : {P : Type 0} → ((fault : RunFault) → ran.fault ≡ Some fault → found ≡ Err fault → new ≡ room → P)
        → (ran.fault ≡ None → found ≡ Err run_fault.Disk → room.room.is_shut ≡ true → new ≡ room → P)
        → (ran.fault ≡ None → room.room.is_shut ≡ false → ReadsMap room new found → ((live : List Row) → tells_room room live → AnswersRows live found) → P) → P
    parted {P} faulty shut read = by ran.fault refl reads
      where
        by : (f : Option RunFault) → ran.fault ≡ f → ReadsEnd f room new found → P
        by (Some fault) is (found_is, same) = faulty fault is found_is same
        by None is (inl (found_is, is_shut, same)) = shut is found_is is_shut same
        by None is (inr (opened, map_read, answers)) = read is opened map_read answers

    told_same : new.disk.told ≡ room.disk.told
    told_same = parted (λ f is found_is same. ap (λ (x : RoomValue). x.disk.told) same) (λ none found_is shut same. ap (λ (x : RoomValue). x.disk.told) same) (λ none opened m answers. m.later.told)

    pub board : list_all is_empty room.room.board ≡ true → list_all is_empty new.room.board ≡ true
    board empty = parted (λ f is found_is same. subst (λ (x : RoomValue). list_all is_empty x.room.board ≡ true) (sym same) empty) (λ none found_is shut same. subst (λ (x : RoomValue). list_all is_empty x.room.board ≡ true) (sym same) empty)
        (λ none opened m answers. m.board)

    beside : LeavesBeside disk new.disk
    beside = record {
      regions = parted (λ f is found_is same. ap (λ (x : RoomValue). x.disk.regions) same) (λ none found_is shut same. ap (λ (x : RoomValue). x.disk.regions) same) (λ none opened m answers. m.later.regions) ∙ run.beside.regions;
      region_len = parted (λ f is found_is same. ap (λ (x : RoomValue). x.disk.region_len) same) (λ none found_is shut same. ap (λ (x : RoomValue). x.disk.region_len) same) (λ none opened m answers. m.later.region_len) ∙ run.beside.region_len;
      no_eyes = no_eyes new whole (board r.runs.adds.beside.board);
    }

    time : ContinuesOn disk new.disk
    time = subst (λ t. BothTold Continues disk.told t) (sym told_same) run.time

    fault_is : (fault : RunFault) → ran.fault ≡ Some fault → found ≡ Err fault
    fault_is fault is = parted (λ f at found_is same. found_is ∙ ap (λ (x : RunFault). Err x) (same_fault f at)) (λ none found_is shut same. absurd (not_both none)) (λ none opened m answers. absurd (not_both none))
      where
        same_fault : (f : RunFault) → ran.fault ≡ Some f → f ≡ fault
        same_fault f at = let x : ◌≡◌ {A = Option RunFault} (Some f) (Some fault) = sym at ∙ is in cc

        not_both : ran.fault ≡ None → ⊥
        not_both none = let x : ◌≡◌ {A = Option RunFault} None (Some fault) = sym none ∙ is in cc

    -- ---- the counts of faults

    -- a run without a fault met none
    not_risen : ran.fault ≡ None → disk.faults < room.disk.faults → ⊥
    not_risen none rose = by (run.where_risen rose)
      where
        by : (ran.fault ≡ Some run_fault.Disk) ⊎ (ran.fault ≡ Some run_fault.Memory) → ⊥
        by (inl is) = let x : ◌≡◌ {A = Option RunFault} None (Some run_fault.Disk) = sym none ∙ is in cc
        by (inr is) = let x : ◌≡◌ {A = Option RunFault} None (Some run_fault.Memory) = sym none ∙ is in cc

    only_risen : found ≡ Err run_fault.Disk → HasRisen disk.faults new.disk.faults
    only_risen is = parted (λ f at found_is same. by_run f at found_is same) (λ none found_is shut same. by_shut shut same) (λ none opened m answers. by_read opened m)
      where
        by_run : (f : RunFault) → ran.fault ≡ Some f → found ≡ Err f → new ≡ room → HasRisen disk.faults new.disk.faults
        by_run f at found_is same =
            let x : ◌≡◌ {A = Result (List Pair) RunFault} (Err f) (Err run_fault.Disk) = sym found_is ∙ is in
            let disk_is : f ≡ run_fault.Disk = cc in
            subst (λ (x : RoomValue). HasRisen disk.faults x.disk.faults) (sym same) (run.only_risen (at ∙ ap (λ (y : RunFault). Some y) disk_is))

        by_shut : room.room.is_shut ≡ true → new ≡ room → HasRisen disk.faults new.disk.faults
        by_shut shut same = subst (λ (x : RoomValue). HasRisen disk.faults x.disk.faults) (sym same) (risen_same room.entry disk room.disk r.runs.adds.beside.origin (r.runs.adds.whole.entry.failed shut).1)

        by_read : room.room.is_shut ≡ false → ReadsMap room new found → HasRisen disk.faults new.disk.faults
        by_read opened m = failed (subst (AnswersMap room new) is m.answer)
          where
            failed : HasRisen room.disk.faults new.disk.faults ⊎ (room.room.is_shut ≡ true) → HasRisen disk.faults new.disk.faults
            failed (inl rose) = let low = r.runs.fault.no_lower.0 in omega (arith, rose, low)
            failed (inr shut) = absurd (let x : true ≡ false = sym shut ∙ opened in cc)

    where_risen : disk.faults < new.disk.faults → (found ≡ Err run_fault.Disk) ⊎ (found ≡ Err run_fault.Memory)
    where_risen rose = parted (λ f at found_is same. by_run f at found_is same) (λ none found_is shut same. inl found_is) (λ none opened m answers. by_read none found refl m.answer)
      where
        by_run : (f : RunFault) → ran.fault ≡ Some f → found ≡ Err f → new ≡ room → (found ≡ Err run_fault.Disk) ⊎ (found ≡ Err run_fault.Memory)
        by_run f at found_is same = of_run (run.where_risen (subst (λ (x : RoomValue). disk.faults < x.disk.faults) same rose))
          where
            of_run : (ran.fault ≡ Some run_fault.Disk) ⊎ (ran.fault ≡ Some run_fault.Memory) → (found ≡ Err run_fault.Disk) ⊎ (found ≡ Err run_fault.Memory)
            of_run (inl is) = inl (fault_is run_fault.Disk is)
            of_run (inr is) = inr (fault_is run_fault.Memory is)

        well : ran.fault ≡ None → IsCountOf room.disk.faults new.disk.faults → ⊥
        well none (inl is) = not_risen none (omega (arith, is, rose))
        well none (inr is) = not_risen none (let low = min-le_left room.disk.faults last_count in omega (arith, is, rose, low))

        by_read : ran.fault ≡ None → (answer : Result (List Pair) RunFault) → found ≡ answer → AnswersMap room new answer → (found ≡ Err run_fault.Disk) ⊎ (found ≡ Err run_fault.Memory)
        by_read none (Ok pairs) is a = absurd (well none a.0.faults)
        by_read none (Err run_fault.Memory) is a = inr is
        by_read none (Err run_fault.Disk) is a = inl is
        by_read none (Err (run_fault.Damaged what)) is a = absurd (well none a.0.faults)

    -- ---- a log that was told

    mid_told : (before after : Told) → new.disk.told ≡ Some after → room.disk.told ≡ Some after
    mid_told before after is = sym told_same ∙ is

    not_disk : (what : Damage) → found ≡ Err (run_fault.Damaged what) → found ≡ Err run_fault.Disk → ⊥
    not_disk what is found_is = let x : ◌≡◌ {A = Result (List Pair) RunFault} (Err run_fault.Disk) (Err (run_fault.Damaged what)) = sym found_is ∙ is in let y : run_fault.Disk ≡ run_fault.Damaged what = cc in cc

    unsound : (what : Damage) → found ≡ Err (run_fault.Damaged what) → IsUnsoundLog disk
    unsound what is before old_is e rows shows sound = parted (λ f at found_is same. by_run f at found_is) (λ none found_is shut same. absurd (not_disk what is found_is)) (λ none opened m answers. by_read none opened answers)
      where
        by_run : (f : RunFault) → ran.fault ≡ Some f → found ≡ Err f → ⊥
        by_run f at found_is =
            let x : ◌≡◌ {A = Result (List Pair) RunFault} (Err f) (Err (run_fault.Damaged what)) = sym found_is ∙ is in
            let damaged : f ≡ run_fault.Damaged what = cc in
            run.unsound what (at ∙ ap (λ (y : RunFault). Some y) damaged) before old_is e rows shows sound

        by_read : ran.fault ≡ None → room.room.is_shut ≡ false → ((live : List Row) → tells_room room live → AnswersRows live found) → ⊥
        by_read none opened answers = by room.disk.told refl
          where
            by : (t : Option Told) → room.disk.told ≡ t → ⊥
            by None at = absurd (subst (λ t. BothTold Continues (Some before) t) at (subst (λ t. BothTold Continues t room.disk.told) old_is run.time))
            by (Some after) at = let live = read_rows before after e rows old_is at shows sound none opened in subst (AnswersRows live.0) is (answers live.0 live.1) live.2

    -- a fault of reading names a row or an index entry, which stand at a place, or a node
    place_or_node : (what : Damage) → IsNamed room what → IsPlaceOrNode what
    place_or_node (damage_of.Region region at) h = tt
    place_or_node (damage_of.Gap after region) h = absurd h
    place_or_node (damage_of.Overlap region other) h = absurd h
    place_or_node (damage_of.Node id) h = tt

    placed : (what : Damage) → found ≡ Err (run_fault.Damaged what) → IsPlaceOrNode what
    placed what is = parted (λ f at found_is same. by_run f at found_is) (λ none found_is shut same. absurd (not_disk what is found_is)) (λ none opened m answers. place_or_node what (subst (AnswersMap room new) is m.answer).2)
      where
        by_run : (f : RunFault) → ran.fault ≡ Some f → found ≡ Err f → IsPlaceOrNode what
        by_run f at found_is =
            let x : ◌≡◌ {A = Result (List Pair) RunFault} (Err f) (Err (run_fault.Damaged what)) = sym found_is ∙ is in
            let damaged : f ≡ run_fault.Damaged what = cc in
            run.placed what (at ∙ ap (λ (y : RunFault). Some y) damaged)

    counted_on : (before after : Told) (e : ℕ) (rows : List Row) → disk.told ≡ Some before → new.disk.told ≡ Some after → Shows disk.region_len before.bytes e rows → IsSound rows
        → IsRunOn default_options disk new.disk before after script ran history e rows × ((pairs : List Pair) → found ≡ Ok pairs → pairs ≡ map_at rows history)
    counted_on before after e rows old_is new_is shows sound =
        let mid_is = mid_told before after new_is in
        let here = on before after e rows old_is mid_is shows sound in (
          parted (λ f at found_is same. subst (λ (x : RoomValue). IsRunOn default_options disk x.disk before after script ran history e rows) (sym same) here)
              (λ none found_is shut same. on_read disk room.disk new.disk before after script ran history e rows none here) (λ none opened m answers. on_read disk room.disk new.disk before after script ran history e rows none here),
          λ pairs is. parted (λ f at found_is same. absurd (not_err pairs f is found_is)) (λ none found_is shut same. absurd (not_err pairs run_fault.Disk is found_is)) (λ none opened m answers.
              let live = read_rows before after e rows old_is mid_is shows sound none opened in subst (AnswersRows live.0) is (answers live.0 live.1) ∙ live.3),
        )
      where
        not_err : (pairs : List Pair) (f : RunFault) → found ≡ Ok pairs → found ≡ Err f → ⊥
        not_err pairs f ok err = let x : ◌≡◌ {A = Result (List Pair) RunFault} (Ok pairs) (Err f) = sym ok ∙ err in cc

    -- ---- all of it

    counted_script : (script_is : script ≡ script_by n) → IsCounted n disk new.disk ran (room.room.waiting == 0) found
    counted_script script_is = record {
      chain = chain;
      sees = sees;
      history = history;
      behind = subst (λ s. IsRunBehind default_options chain.parts s ran history) script_is (behind_of disk chain.parts chain.retired r.whole r.stood room script default_options ran r.runs.run);
      durable_is = all_durable (made disk chain.parts chain.retired).room.sealed room.room.sealed room.room.waiting history r.runs.adds.epochs r.runs.adds.sealed r.runs.adds.waiting ∙ ap (are_durable history) (sym r.runs.durable);
      fault_is = fault_is;
      beside = beside;
      time = time;
      only_risen = only_risen;
      where_risen = where_risen;
      unsound = unsound;
      placed = placed;
      told = λ before after e rows old_is new_is shows sound.
          let c = counted_on before after e rows old_is new_is shows sound in record { on = subst (λ s. IsRunOn default_options disk new.disk before after s ran history e rows) script_is c.0; map = c.1 };
    }

    pub counted_of : IsCounted n disk new.disk ran (room.room.waiting == 0) found
    counted_of = counted_script same

-- ---- the steps of the call

-- what reading the map leaves of a room: no view and no merge is out
pub read_board : (fault : Option RunFault) (room behind : RoomValue) (found : Result (List Pair) RunFault) → list_all is_empty room.room.board ≡ true → ReadsEnd fault room behind found → list_all is_empty behind.room.board ≡ true
read_board (Some fault) room behind found board reads = subst (λ (x : RoomValue). list_all is_empty x.room.board ≡ true) (sym reads.1) board
read_board None room behind found board (inl shut) = subst (λ (x : RoomValue). list_all is_empty x.room.board ≡ true) (sym shut.2) board
read_board None room behind found board (inr reads) = reads.1.board

pub read_job : (fault : Option RunFault) (room behind : RoomValue) (found : Result (List Pair) RunFault) → room.room.job ≡ None → ReadsEnd fault room behind found → behind.room.job ≡ None
read_job (Some fault) room behind found none reads = ap (λ (x : RoomValue). x.room.job) reads.1 ∙ none
read_job None room behind found none (inl shut) = ap (λ (x : RoomValue). x.room.job) shut.2 ∙ none
read_job None room behind found none (inr reads) = ap (λ (x : RoomState). x.job) reads.1.later.room ∙ none

-- a generated script has as many transactions as were asked for
many_from : (count lanes i x : ℕ) → length (txns_from count lanes i x) ≡ count
unfolding txns_from
many_from zero lanes i x = refl
many_from (suc count) lanes i x = ap suc (many_from count lanes (i + 1) (next_state x))

pub many_generated : (n : Numbers) → length (script_by n) ≡ n.count
many_generated n = many_from n.count n.lanes 1 n.start

-- how a call ended whose script was run, or for which there was no memory
pub ends_generated : (n : Numbers) (opened : Opened) (old new : Disk) (status : ℕ) (was now : Option (List ℕ)) → OpensGen n old opened → EndsGenerated n opened old new status was now → Ends n old new status was now
unfolding text_of
ends_generated n opened old new status was now opens (inl c) = record {
  ended = counted c.ran (c.room.room.waiting == 0) c.counts.found;
  is_end = subst (λ (d : Disk). IsCounted n old d c.ran (c.room.room.waiting == 0) c.counts.found) (sym c.counts.of_disk)
      (counted_of n opened.script opens.generates old opened.chain c.ran c.room c.runs opens.sees c.counts.behind c.counts.whole c.counts.found c.counts.reads);
  status_is = c.counts.prints.status_is;
  printed = subst (λ s. Puts (counted_text n (all_outcomes s c.ran.outcomes) (c.room.room.waiting == 0) c.counts.found) (status ≡ 5) was now) opens.generates c.counts.prints.puts;
}
ends_generated n opened old new status was now opens (inr lacks) = record { ended = early run_fault.Memory; is_end = lacks.same; status_is = lacks.status_is; printed = lacks.puts }

-- with the number of the script's transactions in place of the count that was asked for
pub same_numbers : (start count lanes : ℕ) (script : List ScriptTxn) → script ≡ script_by (numbers start count lanes) → numbers start (length script) lanes ≡ numbers start count lanes
same_numbers start count lanes script is = ap (λ k. numbers start k lanes) (ap (λ (s : List ScriptTxn). length s) is ∙ many_generated (numbers start count lanes))

pub run_counted : (n : Numbers) (script : List ScriptTxn) (ran : Ran) (room behind : RoomValue) (new : Disk) (status : ℕ) (was now : Option (List ℕ)) (found : Result (List Pair) RunFault) (waiting : ℕ) (outcomes : List Outcome)
    → IsWhole behind → new ≡ behind.disk → ReadsEnd ran.fault room behind found → waiting ≡ room.room.waiting → outcomes ≡ ran.outcomes → PrintsCounted n script outcomes (waiting == 0) found status was now → CountsRun n script ran room new status was now
run_counted n script ran room behind new status was now found waiting outcomes whole of_disk reads is_waiting are prints = record {
  behind = behind;
  whole = whole;
  of_disk = of_disk;
  found = found;
  reads = reads;
  prints = subst (λ os. PrintsCounted n script os (room.room.waiting == 0) found status was now) are (subst (λ w. PrintsCounted n script outcomes (w == 0) found status was now) is_waiting prints);
}

pub lacks_memory : (old new : Disk) (status : ℕ) (was now : Option (List ℕ)) → new ≡ old → (status ≡ 5) ⊎ (status ≡ 1) → Puts (reason_bytes (reason.Fault run_fault.Memory)) (status ≡ 5) was now → LacksMemory old new status was now
unfolding reason_bytes
lacks_memory old new status was now same is puts = record { same = same; status_is = is; puts = puts }

pub generated_runs : (n : Numbers) (opened : Opened) (old new : Disk) (status : ℕ) (was now : Option (List ℕ)) (options : Options) (ran : Ran) (room : RoomValue) → options ≡ default_options → RunsFrom options opened.script old opened.chain ran room
    → CountsRun n opened.script ran room new status was now → EndsGenerated n opened old new status was now
generated_runs n opened old new status was now options ran room are runs counts = inl (record { ran = ran; room = room; runs = subst (λ o. RunsFrom o opened.script old opened.chain ran room) are runs; counts = counts })

pub gen_ends : (start count lanes : ℕ) (opened : Opened) (old mid new : Disk) (status : ℕ) (was now : Option (List ℕ)) → OpensGen (numbers start count lanes) old opened → mid ≡ old
    → EndsGenerated (numbers start (length opened.script) lanes) opened mid new status was now → Ends (numbers start count lanes) old new status was now
gen_ends start count lanes opened old mid new status was now opens same ends =
    ends_generated (numbers start count lanes) opened old new status was now opens
    (subst (λ n. EndsGenerated n opened old new status was now) (same_numbers start count lanes opened.script opens.generates) (subst (λ d. EndsGenerated (numbers start (length opened.script) lanes) opened d new status was now) same ends))

pub early_ends : (n : Numbers) (old new : Disk) (status : ℕ) (was now : Option (List ℕ)) (fault : RunFault) → FindsChain old new (Err fault) → (status ≡ 5) ⊎ (status ≡ fault_status fault) → Puts (reason_bytes (reason.Fault fault)) (status ≡ 5) was now → Ends n old new status was now
unfolding text_of reason_bytes
early_ends n old new status was now fault finds is puts = record { ended = early fault; is_end = finds; status_is = is; printed = puts }

-- ---- what is printed

module _ (start lanes : ℕ) (script : List ScriptTxn) (outcomes : List Outcome) (all_durable : Bool) (found : Result (List Pair) RunFault) (status : ℕ) (was now : Option (List ℕ)) where
  pub prints_map : (pairs : List Pair) → found ≡ Ok pairs → (status ≡ 5) ⊎ (status ≡ run_status outcomes None)
      → Puts (summary start (length script) lanes (all_outcomes script outcomes) (Some pairs) all_durable ++ fault_lines None) (status ≡ 5) was now → PrintsCounted (numbers start (length script) lanes) script outcomes all_durable found status was now
  unfolding fault_lines
  prints_map pairs is one puts =
      subst (λ f. PrintsCounted (numbers start (length script) lanes) script outcomes all_durable f status was now) (sym is)
      (let whole : List ℕ = summary start (length script) lanes (all_outcomes script outcomes) (Some pairs) all_durable in
      let p : Puts whole (status ≡ 5) was now = subst (λ text. Puts text (status ≡ 5) was now) (append-nil whole) puts in
      let r : PrintsCounted (numbers start (length script) lanes) script outcomes all_durable (Ok pairs) status was now = record { status_is = one; puts = p } in r)

  pub prints_fault : (fault : RunFault) → found ≡ Err fault → (status ≡ 5) ⊎ (status ≡ run_status outcomes (Some fault))
      → Puts (summary start (length script) lanes (all_outcomes script outcomes) None all_durable ++ fault_lines (Some fault)) (status ≡ 5) was now → PrintsCounted (numbers start (length script) lanes) script outcomes all_durable found status was now
  unfolding fault_lines
  prints_fault fault is one puts = subst (λ f. PrintsCounted (numbers start (length script) lanes) script outcomes all_durable f status was now) (sym is) (let r : PrintsCounted (numbers start (length script) lanes) script outcomes all_durable (Err fault) status was now = record { status_is = one; puts = puts } in r)

-- A run on a room that was made on a disk is a run between the disk's states.
use Rattle.std.proofs.Common.{◌≡◌, ℕ, List, Some, [], option_map, ap, subst, inl, refl, sym, ◌≤◌}
use Rattle.log_disk.specs.Disk.{Disk, Told}
use Rattle.fine_model.specs.declared.Options.{Options}
use Rattle.fine_model.specs.declared.Part.{Part}
use Rattle.fine_model.specs.declared.Ran.{Ran}
use Rattle.fine_model.specs.declared.Row.{Row}
use Rattle.fine_model.specs.declared.ScriptTxn.{ScriptTxn}
use Rattle.fine_model.specs.Buckets.{Began}
use Rattle.fine_model.specs.Chain.{Shows, chain_end}
use Rattle.fine_model.specs.Trees.{IsSound}
use Rattle.fine_model.specs.History.{last_epoch}
use Rattle.fine_model.specs.Room.{IsSealedUpTo}
use Rattle.fine_model.proofs.Histories.Epochs.{sealed_from, sealed_least}
use Rattle.epoch_room.specs.Meaning.{Stands, StandsAtFirst, origin_of}
use Rattle.epoch_room.specs.Value.{RoomValue, made}
use Rattle.epoch_room.specs.Whole.{IsWhole}
use Rattle.run_laws.specs.Needs.{AreSealedInNeed}
use Rattle.run_laws.specs.Runs.{IsReady, RunsLanes, RunsScript}
use Rattle.run_laws.proofs.Runs.{done_law, ready_law, run_law, told_of}
use Rattle.reopen.specs.declared.chain.Chain.{Chain}
use Rattle.reopen.specs.Opening.{SeesChain}
use Rattle.fine_top.specs.Running.{IsRunBehind, IsRunOf, IsRunOn, RunsFrom}
use Rattle.fine_top.proofs.Entries.{continues_same}

module _ (disk : Disk) (live retired : List Part) (whole : IsWhole (made disk live retired)) (stands : StandsAtFirst (made disk live retired) disk.told) where
  pub ready : IsReady (made disk live retired)
  ready = ready_law disk live retired whole stands

  -- a sound log that the disk told, for which the room stands with no history
  module _ (before : Told) (e : ℕ) (rows : List Row) (told : disk.told ≡ Some before) (shows : Shows disk.region_len before.bytes e rows) (sound : IsSound rows) where
    pub began : Began (origin_of disk) e rows
    unfolding origin_of
    began = record { image = before.bytes; told = ap (option_map (λ (t : Told). t.bytes)) told; shows = shows; sound = sound }

    pub stood : Stands (made disk live retired) rows e []
    stood = ready.stands rows e began

    ends_at : chain_end live ≡ e
    ends_at = (told_of (made disk live retired) before before rows e [] told told stood).stands.counts.sealed

  module _ (new : RoomValue) (script : List ScriptTxn) (options : Options) (ran : Ran) (r : RunsScript script options (made disk live retired) new ran) where
    pub behind_of : IsRunBehind options live script ran r.history
    behind_of = record {
      outcomes = r.outcomes;
      replied = r.replied;
      few_each = r.few_each;
      durable = record {
        from_entry = subst (λ d. chain_end live ≤ d) (sym r.durable) (sealed_from (chain_end live) new.room.sealed r.history r.adds.epochs r.adds.sealed);
        to_last = subst (λ d. d ≤ last_epoch (chain_end live) r.history) (sym r.durable) (sealed_least (chain_end live) new.room.sealed r.history r.adds.sealed);
        all = λ none. r.all_durable (inl none);
      };
      all_but_last = subst (IsSealedUpTo (chain_end live) r.history) (sym r.durable) r.adds.sealed;
      all_run = r.all_run;
    }

    -- on a sound log that the disk told it is a run on this log
    pub on_of : (before after : Told) (e : ℕ) (rows : List Row) → disk.told ≡ Some before → new.disk.told ≡ Some after → Shows disk.region_len before.bytes e rows → IsSound rows → IsRunOn options disk new.disk before after script ran r.history e rows
    on_of before after e rows old_is new_is shows sound = record {
      run = λ source output. run_law script options (made disk live retired) new ran r source output before after rows e ready old_is new_is shows sound;
      done = λ source output status has one. done_law script options (made disk live retired) new ran r source output before after rows e status ready old_is new_is shows sound has one;
      in_need = λ one. subst (λ n. AreSealedInNeed disk.region_len options.group n r.history) (ends_at before e rows old_is shows sound)
          (r.in_need one rows e (began before e rows old_is shows sound) (stood before e rows old_is shows sound));
    }

    run_of : (found : Chain) → found.parts ≡ live → SeesChain disk found → IsRunOf options disk new.disk script ran
    run_of found are sees = record {
      found = found;
      sees = sees;
      history = r.history;
      behind = subst (λ parts. IsRunBehind options parts script ran r.history) (sym are) behind_of;
      beside = record { regions = r.adds.beside.regions; region_len = r.adds.beside.region_len; no_eyes = r.adds.beside.no_eyes };
      time = continues_same new.entry disk new.disk r.adds.beside.origin r.adds.whole.entry.time;
      only_risen = r.fault.only_risen;
      where_risen = r.fault.where_risen;
      unsound = λ what is before told e rows shows sound. r.fault.unsound what is rows e (began before e rows told shows sound) (stood before e rows told shows sound);
      placed = r.fault.placed;
      told = on_of;
    }

pub run_from : (options : Options) (script : List ScriptTxn) (disk : Disk) (found : Chain) (ran : Ran) (room : RoomValue) → RunsFrom options script disk found ran room → SeesChain disk found → IsRunOf options disk room.disk script ran
run_from options script disk found ran room r sees = run_of disk found.parts found.retired r.whole r.stood room script options ran r.runs.run found refl sees

-- on a sound log that the disk told it is a run on this log
pub on_from : (options : Options) (script : List ScriptTxn) (disk : Disk) (found : Chain) (ran : Ran) (room : RoomValue) (r : RunsFrom options script disk found ran room) (before after : Told) (e : ℕ) (rows : List Row)
    → disk.told ≡ Some before → room.disk.told ≡ Some after → Shows disk.region_len before.bytes e rows → IsSound rows → IsRunOn options disk room.disk before after script ran r.runs.history e rows
on_from options script disk found ran room r = on_of disk found.parts found.retired r.whole r.stood room script options ran r.runs.run

-- ---- a room that was made

pub ready_of : (disk : Disk) (live retired : List Part) (room : RoomValue) → room ≡ made disk live retired → IsWhole room → StandsAtFirst room disk.told → IsReady room
ready_of disk live retired room is whole stands = subst IsReady (sym is) (ready disk live retired (subst IsWhole is whole) (subst (λ r. StandsAtFirst r disk.told) is stands))

pub runs_from : (options : Options) (script : List ScriptTxn) (disk : Disk) (found : Chain) (ran : Ran) (room behind : RoomValue) → room ≡ made disk found.parts found.retired → IsWhole room → StandsAtFirst room disk.told
    → RunsLanes script options room behind ran → RunsFrom options script disk found ran behind
runs_from options script disk found ran room behind is whole stands by = record {
  whole = subst IsWhole is whole;
  stood = subst (λ r. StandsAtFirst r disk.told) is stands;
  runs = subst (λ (r : RoomValue). RunsLanes script options r behind ran) is by;
}

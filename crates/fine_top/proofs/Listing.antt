-- What `ranges` and `merge` leave, from how they ended.
use Rattle.std.proofs.Common.{◌≡◌, ◌⊎◌, inl, inr, ℕ, ◌<◌, List, [], ◌∷◌, option_map, ap, ◌∙◌, sym, subst, Option, Some, Result, Ok, Err, arith}
use Rattle.log_disk.specs.Disk.{Disk, HasRisen}
use Rattle.fine_model.specs.declared.Part.{Part}
use Rattle.fine_model.specs.declared.RunFault.{RunFault}
use Rattle.fine_model.specs.declared.RunFault.TheVariants as run_fault
use Rattle.fine_model.specs.Headline.{OneOf}
use Rattle.fine_model.specs.Map.{Pair}
use Rattle.fine_model.specs.Words.{Command, dump, merge}
use Rattle.command_words.specs.Words.{meant}
use Rattle.command_words.specs.declared.command.Command.{Command as ReadCommand}
use Rattle.log_disk.specs.Moments.{ContinuesOn}
use Rattle.log_commands.specs.Dumps.{DumpsAny, DumpsWell, Ends as EndsDump, FindsDump, IsUnsoundLog as DumpUnsound, LeavesBeside as DumpBeside}
use Rattle.log_disk.proofs.Times.{continues_told}
use Rattle.log_commands.specs.Ends.{Ends, MergesAnyWell, MergesWell, status_of}
use Rattle.log_commands.specs.Found.{FindsChain}
use Rattle.log_commands.specs.Merged.{KeepsLog, MergesLog, ShowsNone}
use Rattle.fine_top.specs.Commands.{Does, IsReading, Leaves, Seen, seen, statuses_of}
use Rattle.fine_top.specs.Opened.{IsOpenedLog, IsUnsoundLog}
use Rattle.fine_top.specs.Running.{LeavesBeside}
use Rattle.fine_top.proofs.Chainless.{unsound}

-- ---- the chain alone

pub finds_beside : (old new : Disk) → old.eyes ≡ [] → (found : Result (List Part) RunFault) → FindsChain old new found → LeavesBeside old new
finds_beside old new none (Ok parts) f = record { regions = ap (λ (d : Disk). d.regions) f.0; region_len = ap (λ (d : Disk). d.region_len) f.0; no_eyes = ap (λ (d : Disk). d.eyes) f.0 ∙ none }
finds_beside old new none (Err run_fault.Memory) f = record { regions = ap (λ (d : Disk). d.regions) f; region_len = ap (λ (d : Disk). d.region_len) f; no_eyes = ap (λ (d : Disk). d.eyes) f ∙ none }
finds_beside old new none (Err run_fault.Disk) f = record { regions = f.beside.regions; region_len = f.beside.region_len; no_eyes = f.beside.eyes ∙ none }
finds_beside old new none (Err (run_fault.Damaged what)) f = record { regions = ap (λ (d : Disk). d.regions) f.0; region_len = ap (λ (d : Disk). d.region_len) f.0; no_eyes = ap (λ (d : Disk). d.eyes) f.0 ∙ none }

pub finds_unsound : (old new : Disk) (found : Result (List Part) RunFault) → FindsChain old new found → status_of found ≡ 7 → IsUnsoundLog old
finds_unsound old new (Ok parts) f is = absurd (omega (arith, is))
finds_unsound old new (Err run_fault.Memory) f is = absurd (omega (arith, is))
finds_unsound old new (Err run_fault.Disk) f is = absurd (omega (arith, is))
finds_unsound old new (Err (run_fault.Damaged what)) f is = unsound old what f.1

-- ---- the pairs

dump_opened : (old new : Disk) (found : Result (List Pair) RunFault) → FindsDump old new found → status_of found ≡ 0 → IsOpenedLog old
dump_opened old new (Ok pairs) (inl reads) is = (reads.opens.found.parts, record { image = reads.opens.sees.image; is_seen = reads.opens.sees.is_seen; is = reads.opens.sees.is_chain })
dump_opened old new (Ok pairs) (inr none) is = absurd none
dump_opened old new (Err run_fault.Memory) f is = absurd (omega (arith, is))
dump_opened old new (Err run_fault.Disk) f is = absurd (omega (arith, is))
dump_opened old new (Err (run_fault.Damaged what)) f is = absurd (omega (arith, is))

-- ---- with merging

merged_opened : (old new : Disk) (found : Result (List Part) RunFault) → MergesLog old new found → status_of found ≡ 0 → IsOpenedLog old
merged_opened old new (Ok parts) m is = (m.merges.before, m.merges.was)
merged_opened old new (Err run_fault.Memory) m is = absurd (omega (arith, is))
merged_opened old new (Err run_fault.Disk) m is = absurd (omega (arith, is))
merged_opened old new (Err (run_fault.Damaged what)) m is = absurd (omega (arith, is))

-- a call that ends with status 0 or 8 found a chain, where what was found with status 0 tells one
opened_by : (old : Disk) (status found : ℕ) → OneOf (0 ∷ 1 ∷ 5 ∷ 6 ∷ 7 ∷ []) status → (status ≡ 5) ⊎ (status ≡ found) → (found ≡ 0 → IsOpenedLog old) → OneOf (0 ∷ 8 ∷ []) status → IsOpenedLog old
opened_by old status found known (inl five) opens ok = absurd (grind (arith, five, ok))
opened_by old status found known (inr is) opens (inl zero) = opens (sym is ∙ zero)
opened_by old status found known (inr is) opens (inr (inl eight)) = absurd (grind (arith, known, eight))
opened_by old status found known (inr is) opens (inr (inr none)) = absurd none

-- ---- what is left

-- a command writes nothing where one that is equal writes nothing
pub reads_too : (command c : Command) → ◌≡◌ {A = Option Command} (Some command) (Some c) → IsReading c → IsReading command
reads_too command c is reads = let same : command ≡ c = cc in subst IsReading (sym same) reads

-- what a command leaves that neither reads a script nor runs one
leaves_by : (command : Command) (left : Option (List ℕ)) (source output : ℕ × ℕ) (old new : Disk) (status found : ℕ) (was now : Option (List ℕ)) → OneOf (statuses_of (Some command)) status → OneOf (0 ∷ 1 ∷ 5 ∷ 6 ∷ 7 ∷ []) status → (status ≡ 5 → HasRisen output.0 output.1)
    → (status ≡ 6 → HasRisen old.faults new.faults) → (old.faults < new.faults → OneOf (1 ∷ 5 ∷ 6 ∷ []) status) → (status ≡ 7 → IsUnsoundLog old) → (status ≡ 5) ⊎ (status ≡ found) → (found ≡ 0 → IsOpenedLog old)
    → LeavesBeside old new → ContinuesOn old new → (IsReading command → new.told ≡ old.told) → Leaves (Some command) (seen left source output old new status was now)
leaves_by command left source output old new status found was now status_is known output_failed disk_failed disk_told damaged is_found opens beside time still = record {
  status_is = status_is;
  source_failed = λ four. absurd (grind (arith, known, four));
  output_failed = output_failed;
  disk_failed = disk_failed;
  disk_told = disk_told;
  damaged = damaged;
  opened = opened_by old status found known is_found opens;
  untouched = λ early. absurd (grind (arith, known, early));
  beside = beside;
  time = time;
  still = λ c is reads. still (reads_too command c is reads);
}

-- ---- both

module _ (left : Option (List ℕ)) (source output : ℕ × ℕ) (old new : Disk) (status : ℕ) (was now : Option (List ℕ)) (output_failed : status ≡ 5 → HasRisen output.0 output.1) (known : OneOf (0 ∷ 1 ∷ 5 ∷ 6 ∷ 7 ∷ []) status)
    (disk_told : old.faults < new.faults → OneOf (5 ∷ 6 ∷ []) status) where
  told : old.faults < new.faults → OneOf (1 ∷ 5 ∷ 6 ∷ []) status
  told rose = inr (disk_told rose)

  pub merge_does : (ends : Ends (MergesLog old new) status was now) → MergesWell output old new status was now → MergesAnyWell output old new status was now → (status ≡ 6 → HasRisen old.faults new.faults) → (status ≡ 7 → ShowsNone old) → KeepsLog old new
      → Does (Some merge) (seen left source output old new status was now)
  merge_does ends well any failed shows_none keeps = record {
    leaves = leaves_by merge left source output old new status (status_of ends.found) was now known known output_failed failed told (λ seven before is e rows shows sound. shows_none seven before e rows is shows) ends.status_is
        (merged_opened old new ends.found ends.is_found) (record { regions = keeps.regions; region_len = keeps.region_len; no_eyes = keeps.no_eyes }) keeps.time (λ reads. absurd reads);
    own = record { ends = ends; merge = well; any = any };
  }

-- ---- reading all pairs

module _ (left : Option (List ℕ)) (source output : ℕ × ℕ) (old new : Disk) (status : ℕ) (was now : Option (List ℕ)) (output_failed : status ≡ 5 → HasRisen output.0 output.1) (known : OneOf (0 ∷ 1 ∷ 5 ∷ 6 ∷ 7 ∷ []) status) where
  pub dump_does : (ends : EndsDump old new status was now) → DumpsWell output old new status was now → DumpsAny output old new status was now → (status ≡ 6 → HasRisen old.faults new.faults) → (old.faults < new.faults → OneOf (1 ∷ 5 ∷ 6 ∷ []) status)
      → (status ≡ 7 → DumpUnsound old) → new.told ≡ old.told → DumpBeside old new → Does (Some dump) (seen left source output old new status was now)
  dump_does ends well any failed told unsound still beside = record {
    leaves = leaves_by dump left source output old new status (status_of ends.found) was now known known output_failed failed told unsound ends.prints.status_is (dump_opened old new ends.found ends.is_found)
        (record { regions = beside.regions; region_len = beside.region_len; no_eyes = beside.no_eyes }) (continues_told old new still) (λ reads. still);
    own = record { ends = ends; dump = well; any = any };
  }

-- ---- the command that was read

pub as_meant : (command expected : ReadCommand) (s : Seen) → command ≡ expected → Does (Some (meant expected)) s → Does (Some (meant command)) s
as_meant command expected s is d = subst (λ c. Does (Some (meant c)) s) (sym is) d

pub as_read : (found expected : Option ReadCommand) (command : Option Command) (s : Seen) → option_map meant found ≡ command → found ≡ expected → Does (option_map meant expected) s → Does command s
as_read found expected command s of is d = subst (λ k. Does k s) (ap (option_map meant) (sym is) ∙ of) d

-- A call that ends before its command is begun: for words that spell none, or for want of memory.
use Rattle.std.proofs.Common.{◌≡◌, ◌⊎◌, inl, inr, ℕ, List, [], ◌∷◌, ◌++◌, refl, Option, Some, None, Err, arith}
use Rattle.log_disk.specs.Disk.{Disk, HasRisen, IsSound as IsSoundDisk}
use Rattle.log_disk.proofs.Times.{continues_none}
use Rattle.epoch_room.specs.Whole.{IsIdle}
use Rattle.fine_model.specs.declared.Options.{Options}
use Rattle.fine_model.specs.declared.Reason.TheVariants as reason
use Rattle.fine_model.specs.declared.RunFault.TheVariants as run_fault
use Rattle.fine_model.specs.Commands.{WordsTheorem}
use Rattle.fine_model.specs.Headline.{IsFrontOf, OneOf}
use Rattle.fine_model.specs.Report.{fault_line, reason_bytes, words_line}
use Rattle.fine_model.specs.Words.{Command, dump, gen, merge, ranges, run}
use Rattle.reopen.specs.declared.fault.OpenFault.TheVariants as open_fault
use Rattle.log_commands.specs.Ends.{Ends as EndsListing}
use Rattle.log_commands.specs.Found.{FindsChain}
use Rattle.log_commands.specs.Merged.{MergesLog}
use Rattle.log_commands.proofs.AnyTheorem.{merges_any}
use Rattle.log_commands.proofs.Logs.{unopened}
use Rattle.log_commands.proofs.MergeTheorem.{merges_well}
use Rattle.log_commands.proofs.Ranges.{ranges_well}
use Rattle.script_text.specs.Streams.{Puts}
use Rattle.fine_top.specs.Commands.{Does, Leaves, Own, seen, statuses_of}
use Rattle.log_commands.specs.Dumps.{Ends as EndsDump}
use Rattle.log_commands.proofs.Dumped.{dumps_any, dumps_well}
use Rattle.fine_top.specs.Generating.{Ends as EndsGen, Numbers, numbers, early as gen_early, text_of as gen_text}
use Rattle.fine_top.specs.Running.{Ends, early, text_of}
use Rattle.fine_top.proofs.Generated.{gens_well}
use Rattle.fine_top.proofs.AnyLog.{runs_any}
use Rattle.fine_top.proofs.GeneratedAny.{gens_any}
use Rattle.fine_top.proofs.Theorem.{runs_well}
use Rattle.log_commands.proofs.Printed.{wrote_all, wrote_front}

module _ (left : Option (List ℕ)) (source output : ℕ × ℕ) (disk : Disk) (status : ℕ) (was now : Option (List ℕ)) (no_eyes : disk.eyes ≡ []) (output_failed : status ≡ 5 → HasRisen output.0 output.1) where
  -- the disk is as it was
  leaves : (command : Option Command) → OneOf (statuses_of command) status → OneOf (1 ∷ 2 ∷ 5 ∷ []) status → Leaves command (seen left source output disk disk status was now)
  leaves command is few = record {
    status_is = is;
    source_failed = λ four. absurd (grind (arith, few, four));
    output_failed = output_failed;
    disk_failed = λ six. absurd (grind (arith, few, six));
    disk_told = λ rose. absurd (omega (arith, rose));
    damaged = λ seven. absurd (grind (arith, few, seven));
    opened = λ ok. absurd (grind (arith, few, ok));
    untouched = λ early. refl;
    beside = record { regions = refl; region_len = refl; no_eyes = no_eyes };
    time = continues_none disk;
    still = λ c is reads. refl;
  }

  abbrev PrintsLine : List ℕ → Type 0
  PrintsLine first = (written : List ℕ) × (now ≡ Some (first ++ written)) × WordsTheorem (HasRisen output.0 output.1) (disk ≡ disk) status written

  -- the output failed behind a first part of a line
  line_cut : (line first : List ℕ) → Puts line (status ≡ 5) was now → was ≡ Some first → status ≡ 5 → ((written : List ℕ) → IsFrontOf written line → IsFrontOf written words_line ⊎ IsFrontOf written (fault_line run_fault.Memory)) → PrintsLine first
  line_cut line first puts was_is five is_line =
      let w = wrote_front line (status ≡ 5) was now first puts was_is in (
        w.0,
        w.1,
        record {
          disk = refl;
          words = λ h. absurd (omega (arith, five, h));
          memory = λ h. absurd (omega (arith, five, h));
          cut_short = λ h. is_line w.0 w.2;
          output = output_failed;
          others = inr (inr (inl five));
        },
      )

  -- ---- words that spell no command

  pub refuses_words : (status ≡ 5) ⊎ (status ≡ 2) → Puts (reason_bytes reason.Words) (status ≡ 5) was now → Does None (seen left source output disk disk status was now)
  unfolding reason_bytes
  refuses_words is puts = record { leaves = leaves None (few is) (few is); own = record { same = refl; holds = λ first was_is. by is first was_is } }
    where
      few : (status ≡ 5) ⊎ (status ≡ 2) → OneOf (1 ∷ 2 ∷ 5 ∷ []) status
      few (inl five) = inr (inr (inl five))
      few (inr two) = inr (inl two)

      by : (status ≡ 5) ⊎ (status ≡ 2) → (first : List ℕ) → was ≡ Some first → PrintsLine first
      by (inl five) first was_is = line_cut words_line first puts was_is five (λ written front. inl front)
      by (inr two) first was_is = (
        words_line,
        wrote_all words_line (status ≡ 5) was now first puts (λ five. omega (arith, five, two)) was_is,
        record {
          disk = refl;
          words = λ h. refl;
          memory = λ h. absurd (omega (arith, two, h));
          cut_short = λ h. absurd (omega (arith, two, h));
          output = output_failed;
          others = few (inr two);
        },
      )

  -- ---- want of memory

  module _ (idle : IsIdle disk) (sound : IsSoundDisk disk) (is : (status ≡ 5) ⊎ (status ≡ 1)) (puts : Puts (fault_line run_fault.Memory) (status ≡ 5) was now) where
    few : OneOf (1 ∷ 2 ∷ 5 ∷ []) status
    few = elim is as (λ _. OneOf (1 ∷ 2 ∷ 5 ∷ []) status) [ inl five ↦ inr (inr (inl five)) | inr one ↦ inl one ]

    listed : OneOf (0 ∷ 1 ∷ 5 ∷ 6 ∷ 7 ∷ []) status
    listed = elim is as (λ _. OneOf (0 ∷ 1 ∷ 5 ∷ 6 ∷ 7 ∷ []) status) [ inl five ↦ inr (inr (inl five)) | inr one ↦ inr (inl one) ]

    generates : OneOf (0 ∷ 1 ∷ 5 ∷ 6 ∷ 7 ∷ 8 ∷ []) status
    generates = elim is as (λ _. OneOf (0 ∷ 1 ∷ 5 ∷ 6 ∷ 7 ∷ 8 ∷ []) status) [ inl five ↦ inr (inr (inl five)) | inr one ↦ inr (inl one) ]

    runs : OneOf (0 ∷ 1 ∷ 3 ∷ 4 ∷ 5 ∷ 6 ∷ 7 ∷ 8 ∷ []) status
    runs = elim is as (λ _. OneOf (0 ∷ 1 ∷ 3 ∷ 4 ∷ 5 ∷ 6 ∷ 7 ∷ 8 ∷ []) status) [ inl five ↦ inr (inr (inr (inr (inl five)))) | inr one ↦ inr (inl one) ]

    no_words : (first : List ℕ) → was ≡ Some first → PrintsLine first
    no_words first was_is = by is
      where
        by : (status ≡ 5) ⊎ (status ≡ 1) → PrintsLine first
        by (inl five) = line_cut (fault_line run_fault.Memory) first puts was_is five (λ written front. inr front)
        by (inr one) = (
          fault_line run_fault.Memory,
          wrote_all (fault_line run_fault.Memory) (status ≡ 5) was now first puts (λ five. omega (arith, five, one)) was_is,
          record {
            disk = refl;
            words = λ h. absurd (omega (arith, one, h));
            memory = λ h. refl;
            cut_short = λ h. absurd (omega (arith, one, h));
            output = output_failed;
            others = inl one;
          },
        )

    run_ends : (options : Options) → Ends options (HasRisen source.0 source.1) left disk disk status was now
    unfolding text_of reason_bytes
    run_ends options = record { ended = early (reason.Fault run_fault.Memory); is_end = (tt, record { failed = λ x. absurd cc; same = λ x. refl }); status_is = is; printed = puts }

    ranges_ends : EndsListing (FindsChain disk disk) status was now
    ranges_ends = record { found = Err run_fault.Memory; is_found = refl; status_is = is; printed = puts }

    merge_ends : EndsListing (MergesLog disk disk) status was now
    merge_ends = record { found = Err run_fault.Memory; is_found = unopened disk disk idle sound open_fault.NoMemory (λ none. absurd none) (λ x. absurd cc) (λ x. refl); status_is = is; printed = puts }

    dump_ends : EndsDump disk disk status was now
    dump_ends = record { found = Err run_fault.Memory; is_found = inr refl; prints = record { status_is = is; puts = puts } }

    gen_ends : (n : Numbers) → EndsGen n disk disk status was now
    unfolding gen_text
    gen_ends n = record { ended = gen_early run_fault.Memory; is_end = refl; status_is = is; printed = puts }

    own : (command : Option Command) → Own command (seen left source output disk disk status was now)
    own None = record { same = refl; holds = no_words }
    own (Some (run options)) = record {
      ends = run_ends options;
      run = runs_well options source output left disk disk status was now (λ four. absurd (grind (arith, few, four))) output_failed sound idle.synced (run_ends options);
      any = runs_any options source output left disk disk status was now (λ four. absurd (grind (arith, few, four))) output_failed (run_ends options);
      script = λ three. absurd (grind (arith, few, three));
      refused = λ bytes left_is refused. elim is as (λ _. OneOf (1 ∷ 3 ∷ 4 ∷ 5 ∷ []) status) [ inl five ↦ inr (inr (inr (inl five))) | inr one ↦ inl one ];
    }
    own (Some dump) = record { ends = dump_ends; dump = dumps_well output disk disk status was now output_failed dump_ends; any = dumps_any output disk disk status was now output_failed dump_ends }
    own (Some ranges) = record { ends = ranges_ends; ranges = ranges_well output disk disk status was now output_failed ranges_ends }
    own (Some merge) = record { ends = merge_ends; merge = merges_well disk disk status was now merge_ends output output_failed sound; any = merges_any disk disk status was now merge_ends output output_failed }
    own (Some (gen start count lanes)) = record { ends = gen_ends (numbers start count lanes); gen = gens_well (numbers start count lanes) output disk disk status was now output_failed idle sound (gen_ends (numbers start count lanes)); any = gens_any (numbers start count lanes) output disk disk status was now output_failed idle.no_eyes (gen_ends (numbers start count lanes)) }

    pub lacks_memory : (command : Option Command) → Does command (seen left source output disk disk status was now)
    lacks_memory None = record { leaves = leaves None few few; own = own None }
    lacks_memory (Some (run options)) = record { leaves = leaves (Some (run options)) runs few; own = own (Some (run options)) }
    lacks_memory (Some dump) = record { leaves = leaves (Some dump) listed few; own = own (Some dump) }
    lacks_memory (Some ranges) = record { leaves = leaves (Some ranges) listed few; own = own (Some ranges) }
    lacks_memory (Some merge) = record { leaves = leaves (Some merge) listed few; own = own (Some merge) }
    lacks_memory (Some (gen start count lanes)) = record { leaves = leaves (Some (gen start count lanes)) generates few; own = own (Some (gen start count lanes)) }

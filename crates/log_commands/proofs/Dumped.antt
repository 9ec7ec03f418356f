-- What `dump` printed and left, from how it ended.
use Rattle.std.proofs.Common.{◌≡◌, ◌⊎◌, inl, inr, ℕ, ◌-◌, ◌<◌, ◌≤◌, true, false, List, [], ◌∷◌, Option, Some, Result, Ok, Err, refl, sym, ap, subst, ◌∙◌, arith, true≢false}
use Rattle.std.specs.Prelude.{IfSome}
use Rattle.log_disk.specs.Disk.{Disk, HasRisen, OnlyFails, Told}
use Rattle.fine_model.specs.declared.Damage.{Damage}
use Rattle.fine_model.specs.declared.Damage.TheVariants as damage
use Rattle.fine_model.specs.declared.Part.{Part}
use Rattle.fine_model.specs.declared.Row.{Row}
use Rattle.fine_model.specs.declared.RunFault.{RunFault}
use Rattle.fine_model.specs.declared.RunFault.TheVariants as run_fault
use Rattle.fine_model.specs.Chain.{Shows, chain}
use Rattle.fine_model.specs.Commands.{FindsPairs}
use Rattle.fine_model.specs.Damages.{IsDamage, IsDamageOf, IsUnsound}
use Rattle.fine_model.specs.Headline.{MayFail, OneOf}
use Rattle.fine_model.specs.Map.{Pair}
use Rattle.fine_model.specs.Report.{dump}
use Rattle.fine_model.specs.Trees.{map_of}
use Rattle.epoch_room.specs.Value.{RoomValue}
use Rattle.epoch_room.specs.Whole.{IsIdle, IsWhole}
use Rattle.epoch_room.specs.Meaning.{StandsAtFirst}
use Rattle.reopen.specs.Opening.{OpensRoom, TellsDamage}
use Rattle.reopen.specs.declared.fault.OpenFault.{OpenFault}
use Rattle.reopen.specs.declared.fault.OpenFault.TheVariants as fault
use Rattle.room_shelf.specs.Shelves.{IsCountOf}
use Rattle.run_laws.specs.Law.{return_of}
use Rattle.run_laws.proofs.NoEyes.{no_eyes}
use Rattle.log_commands.specs.Ends.{status_of}
use Rattle.log_commands.specs.Found.{open_fault}
use Rattle.log_commands.proofs.Printed.{printed, risen_by}
use Rattle.log_commands.specs.Dumps.{DumpsAny, DumpsWell, Ends, EndsRoom, FindsDump, HasNoChain, IsUnsoundLog, LeavesBeside, Prints, ReadsLog}
use Rattle.log_commands.proofs.Found.{finds_pairs, is_chain, is_damage, shown_told, shows_none}

-- ---- the disk, whatever was found

-- a count that is as it was, or at its last value, is no greater
not_greater : (old now : ℕ) → IsCountOf old now → 1 ≤ now - old → ⊥
not_greater old now (inl same) rise = omega (arith, same, rise)
not_greater old now (inr least) rise = absurd (grind (arith, least, rise))

module _ (old new : Disk) where
  -- what a room that was opened, and read, says of the disk
  module _ (found : Result (List Pair) RunFault) (r : ReadsLog old new found) where
    disk_is : r.room.disk ≡ old
    disk_is = ap (λ (v : RoomValue). v.disk) r.opens.is_made

    told_still : new.told ≡ old.told
    told_still = ap (λ (d : Disk). d.told) r.of_disk ∙ r.reads.later.told ∙ ap (λ (d : Disk). d.told) disk_is

    was_open : r.room.room.is_shut ≡ false
    was_open = ap (λ (v : RoomValue). v.room.is_shut) r.opens.is_made

    count_is : IsCountOf r.room.disk.faults r.behind.disk.faults → IsCountOf old.faults new.faults
    count_is c = subst (λ (d : Disk). IsCountOf old.faults d.faults) (sym r.of_disk) (subst (λ (d : Disk). IsCountOf d.faults r.behind.disk.faults) disk_is c)

    rose_is : HasRisen r.room.disk.faults r.behind.disk.faults → HasRisen old.faults new.faults
    rose_is h = subst (λ (d : Disk). HasRisen old.faults d.faults) (sym r.of_disk) (subst (λ (d : Disk). HasRisen d.faults r.behind.disk.faults) disk_is h)

  still : (found : Result (List Pair) RunFault) → FindsDump old new found → new.told ≡ old.told
  still found (inl r) = told_still found r
  still (Ok pairs) (inr none) = absurd none
  still (Err run_fault.Memory) (inr same) = ap (λ (d : Disk). d.told) same
  still (Err run_fault.Disk) (inr f) = f.told
  still (Err (run_fault.Damaged what)) (inr f) = ap (λ (d : Disk). d.told) f.0

  disk_rose : FindsDump old new (Err run_fault.Disk) → HasRisen old.faults new.faults
  disk_rose (inl r) = by r.reads.answer
    where
      by : HasRisen r.room.disk.faults r.behind.disk.faults ⊎ (r.room.room.is_shut ≡ true) → HasRisen old.faults new.faults
      by (inl risen) = rose_is (Err run_fault.Disk) r risen
      by (inr shut) = absurd (true≢false (sym shut ∙ was_open (Err run_fault.Disk) r))
  disk_rose (inr f) = f.counts.faults tt

  none_rose : (pairs : List Pair) → FindsDump old new (Ok pairs) → 1 ≤ new.faults - old.faults → ⊥
  none_rose pairs (inl r) rise = not_greater old.faults new.faults (count_is (Ok pairs) r r.reads.answer.0.faults) rise
  none_rose pairs (inr none) rise = none

  none_rose_damaged : (what : Damage) → FindsDump old new (Err (run_fault.Damaged what)) → 1 ≤ new.faults - old.faults → ⊥
  none_rose_damaged what (inl r) rise = not_greater old.faults new.faults (count_is (Err (run_fault.Damaged what)) r r.reads.answer.0.faults) rise
  none_rose_damaged what (inr f) rise = let e = ap (λ (d : Disk). d.faults) f.0 in omega (arith, e, rise)

  -- ---- where the disk tells its bytes

  module _ (before : Told) (is_before : old.told ≡ Some before) where
    chain_seen : (what : Damage) → HasNoChain old what → chain old.region_len before.bytes ≡ Err what
    chain_seen what h = subst (λ i. chain old.region_len i ≡ Err what) (subst (λ o. IfSome o (λ (told : Told). h.image ≡ told.bytes)) is_before h.is_seen.told) h.damaged

    abbrev AnyText : List ℕ → Type 0
    AnyText text = (parts : List Part) × (m : List Pair) × (chain old.region_len before.bytes ≡ Ok parts) × FindsPairs old.region_len before.bytes parts m × (text ≡ dump m)

    any_text : (pairs : List Pair) → FindsDump old new (Ok pairs) → AnyText (dump pairs)
    any_text pairs (inl r) = (r.room.room.parts, pairs, is_chain old before is_before r.room r.opens r.whole, finds_pairs old before is_before r.room r.opens r.whole pairs r.reads.answer.1, refl)
    any_text pairs (inr none) = absurd none

    any_damage : (what : Damage) → FindsDump old new (Err (run_fault.Damaged what)) → IsDamage old.region_len before.bytes (IsDamageOf old.region_len before.bytes) what
    any_damage what (inl r) = inr (r.room.room.parts, is_chain old before is_before r.room r.opens r.whole, is_damage old before is_before r.room r.opens r.whole what r.reads.answer.2)
    any_damage what (inr f) = inl (chain_seen what f.1)

    unsound : (what : Damage) → FindsDump old new (Err (run_fault.Damaged what)) → IsUnsound old.region_len before.bytes
    unsound what (inl r) e rows shows sound = r.reads.answer.1 rows (shown_told old before is_before r.room r.opens r.whole e rows shows) sound
    unsound what (inr f) e rows shows sound = shows_none old.region_len before.bytes what (chain_seen what f.1) e rows shows sound

    sound_text : (e : ℕ) (rows : List Row) → Shows old.region_len before.bytes e rows → (pairs : List Pair) → FindsDump old new (Ok pairs) → dump pairs ≡ dump (map_of rows)
    sound_text e rows shows pairs (inl r) = ap dump (r.map rows (shown_told old before is_before r.room r.opens r.whole e rows shows))
    sound_text e rows shows pairs (inr none) = absurd none

    fault_may : (source output : ℕ × ℕ) (P : Damage → Type 0) → ((what : Damage) → FindsDump old new (Err (run_fault.Damaged what)) → P what) → (fault : RunFault) → FindsDump old new (Err fault)
        → MayFail (return_of old new source output before before) P fault
    fault_may source output P damaged run_fault.Memory f = tt
    fault_may source output P damaged run_fault.Disk f = risen_by old.faults new.faults (disk_rose f)
    fault_may source output P damaged (run_fault.Damaged what) f = damaged what f

-- the theorem on sound logs
pub dumps_well : (output : ℕ × ℕ) (old new : Disk) (status : ℕ) (was now : Option (List ℕ)) → (status ≡ 5 → HasRisen output.0 output.1) → Ends old new status was now → DumpsWell output old new status was now
dumps_well output old new status was now rose ends = record {
  holds = λ source first before e rows was_is is_before shows sound.
      let same = still old new ends.found ends.is_found in
      let p = printed (List Pair) dump (return_of old new source output before before) (λ what. ⊥) (λ text. text ≡ dump (map_of rows)) (FindsDump old new) status was now first was_is
      (λ pairs f. sound_text old new before is_before e rows shows pairs f)
      (λ fault f. fault_may old new before is_before source output (λ what. ⊥) (λ what h. unsound old new before is_before what h e rows shows sound) fault f)
      (λ pairs f r. none_rose old new pairs f r) (λ what f r. none_rose_damaged old new what f r) rose ends.found ends.is_found ends.prints.status_is ends.prints.puts in
      (before, same ∙ is_before, p.0, p.1, record { disk = same; printed = p.2 });
}

-- a fault of a status
status_seven : (found : Result (List Pair) RunFault) (status : ℕ) → status ≡ status_of found → status ≡ 7 → (what : Damage) × (found ≡ Err (run_fault.Damaged what))
status_seven (Ok pairs) status s e = absurd (omega (arith, s, e))
status_seven (Err run_fault.Memory) status s e = absurd (omega (arith, s, e))
status_seven (Err run_fault.Disk) status s e = absurd (omega (arith, s, e))
status_seven (Err (run_fault.Damaged what)) status s e = (what, refl)

pub unsound_log : (old new : Disk) (status : ℕ) (was now : Option (List ℕ)) → Ends old new status was now → status ≡ 7 → IsUnsoundLog old
unsound_log old new status was now ends seven before is_before = by ends.prints.status_is
  where
    by : (status ≡ 5) ⊎ (status ≡ status_of ends.found) → IsUnsound old.region_len before.bytes
    by (inl five) = absurd (omega (arith, five, seven))
    by (inr s) = let d = status_seven ends.found status s seven in unsound old new before is_before d.0 (subst (FindsDump old new) d.1 ends.is_found)

-- and on every log
pub dumps_any : (output : ℕ × ℕ) (old new : Disk) (status : ℕ) (was now : Option (List ℕ)) → (status ≡ 5 → HasRisen output.0 output.1) → Ends old new status was now → DumpsAny output old new status was now
dumps_any output old new status was now rose ends = record {
  holds = λ source first before was_is is_before.
      let same = still old new ends.found ends.is_found in
      let p = printed (List Pair) dump (return_of old new source output before before) (IsDamage old.region_len before.bytes (IsDamageOf old.region_len before.bytes)) (AnyText old new before is_before) (FindsDump old new) status was now first was_is
      (λ pairs f. any_text old new before is_before pairs f)
      (λ fault f. fault_may old new before is_before source output (IsDamage old.region_len before.bytes (IsDamageOf old.region_len before.bytes)) (λ what h. any_damage old new before is_before what h) fault f)
      (λ pairs f r. none_rose old new pairs f r) (λ what f r. none_rose_damaged old new what f r) rose ends.found ends.is_found ends.prints.status_is ends.prints.puts in
      (before, same ∙ is_before, p.0, p.1, record { disk = same; unsound = λ seven. unsound_log old new status was now ends seven before is_before; printed = p.2 });
}

-- ---- the other clauses

pub still_told : (old new : Disk) (status : ℕ) (was now : Option (List ℕ)) → Ends old new status was now → new.told ≡ old.told
still_told old new status was now ends = still old new ends.found ends.is_found

pub disk_failed : (old new : Disk) (status : ℕ) (was now : Option (List ℕ)) → Ends old new status was now → status ≡ 6 → HasRisen old.faults new.faults
disk_failed old new status was now ends six = by ends.found ends.is_found ends.prints.status_is
  where
    by : (found : Result (List Pair) RunFault) → FindsDump old new found → (status ≡ 5) ⊎ (status ≡ status_of found) → HasRisen old.faults new.faults
    by found f (inl five) = absurd (omega (arith, five, six))
    by (Ok pairs) f (inr s) = absurd (omega (arith, s, six))
    by (Err run_fault.Memory) f (inr s) = absurd (omega (arith, s, six))
    by (Err run_fault.Disk) f (inr s) = disk_rose old new f
    by (Err (run_fault.Damaged what)) f (inr s) = absurd (omega (arith, s, six))

pub disk_told : (old new : Disk) (status : ℕ) (was now : Option (List ℕ)) → Ends old new status was now → old.faults < new.faults → OneOf (1 ∷ 5 ∷ 6 ∷ []) status
disk_told old new status was now ends more = by ends.found ends.is_found ends.prints.status_is
  where
    by : (found : Result (List Pair) RunFault) → FindsDump old new found → (status ≡ 5) ⊎ (status ≡ status_of found) → OneOf (1 ∷ 5 ∷ 6 ∷ []) status
    by found f (inl five) = inr (inl five)
    by (Ok pairs) f (inr s) = absurd (none_rose old new pairs f (omega (arith, more)))
    by (Err run_fault.Memory) f (inr s) = inl s
    by (Err run_fault.Disk) f (inr s) = inr (inr (inl s))
    by (Err (run_fault.Damaged what)) f (inr s) = absurd (none_rose_damaged old new what f (omega (arith, more)))

pub known : (old new : Disk) (status : ℕ) (was now : Option (List ℕ)) → Ends old new status was now → OneOf (0 ∷ 1 ∷ 5 ∷ 6 ∷ 7 ∷ []) status
known old new status was now ends = by ends.found ends.prints.status_is
  where
    by : (found : Result (List Pair) RunFault) → (status ≡ 5) ⊎ (status ≡ status_of found) → OneOf (0 ∷ 1 ∷ 5 ∷ 6 ∷ 7 ∷ []) status
    by found (inl five) = inr (inr (inl five))
    by (Ok pairs) (inr s) = inl s
    by (Err run_fault.Memory) (inr s) = inr (inl s)
    by (Err run_fault.Disk) (inr s) = inr (inr (inr (inl s)))
    by (Err (run_fault.Damaged what)) (inr s) = inr (inr (inr (inr (inl s))))

pub beside : (old new : Disk) (status : ℕ) (was now : Option (List ℕ)) → IsIdle old → Ends old new status was now → LeavesBeside old new
beside old new status was now idle ends = by ends.found ends.is_found
  where
    as_was : new ≡ old → LeavesBeside old new
    as_was same = record { regions = ap (λ (d : Disk). d.regions) same; region_len = ap (λ (d : Disk). d.region_len) same; no_eyes = ap (λ (d : Disk). d.eyes) same ∙ idle.no_eyes }

    by : (found : Result (List Pair) RunFault) → FindsDump old new found → LeavesBeside old new
    by found (inl r) = record {
      regions = ap (λ (d : Disk). d.regions) r.of_disk ∙ r.reads.later.regions ∙ ap (λ (d : Disk). d.regions) (disk_is old new found r);
      region_len = ap (λ (d : Disk). d.region_len) r.of_disk ∙ r.reads.later.region_len ∙ ap (λ (d : Disk). d.region_len) (disk_is old new found r);
      no_eyes = ap (λ (d : Disk). d.eyes) r.of_disk ∙ no_eyes r.behind r.behind_whole r.reads.board;
    }
    by (Ok pairs) (inr none) = absurd none
    by (Err run_fault.Memory) (inr same) = as_was same
    by (Err run_fault.Disk) (inr f) = record { regions = f.beside.regions; region_len = f.beside.region_len; no_eyes = f.beside.eyes ∙ idle.no_eyes }
    by (Err (run_fault.Damaged what)) (inr f) = as_was f.0

-- ---- how it ended

-- the damage that a fault of opening tells is that of the chain
told_damage : (answer : Result (List Part) Damage) (told what : Damage) → ◌≡◌ {A = Option Damage} (Some told) (Some what) → answer ≡ Err what → answer ≡ Err told
told_damage answer told what e is = let same : what ≡ told = cc in is ∙ ap (λ (d : Damage). Err d) same

pub unopened : (old new : Disk) (why : OpenFault) → TellsDamage old why → (why ≡ fault.Disk → OnlyFails old new) → ((why ≡ fault.Disk → ⊥) → new ≡ old) → FindsDump old new (Err (open_fault why))
unopened old new fault.Disk tells failed same = inr (failed refl)
unopened old new fault.NoMemory tells failed same = inr (same (λ e. absurd (let x = e in cc)))
unopened old new (fault.BadRegion region at) tells failed same =
    let t = tells tt in inr (same (λ e. absurd (let x = e in cc)), record { image = t.image; is_seen = t.is_seen; damaged = told_damage (chain old.region_len t.image) (damage.Region region at) t.tells.0 t.tells.1 t.tells.2 })
unopened old new (fault.Gap after region) tells failed same =
    let t = tells tt in inr (same (λ e. absurd (let x = e in cc)), record { image = t.image; is_seen = t.is_seen; damaged = told_damage (chain old.region_len t.image) (damage.Gap after region) t.tells.0 t.tells.1 t.tells.2 })
unopened old new (fault.Overlap region other) tells failed same =
    let t = tells tt in inr (same (λ e. absurd (let x = e in cc)), record { image = t.image; is_seen = t.is_seen; damaged = told_damage (chain old.region_len t.image) (damage.Overlap region other) t.tells.0 t.tells.1 t.tells.2 })

pub ends_read : (old new : Disk) (room : RoomValue) (status : ℕ) (was now : Option (List ℕ)) → OpensRoom old room → StandsAtFirst room old.told → IsWhole room → EndsRoom room new status was now → Ends old new status was now
ends_read old new room status was now opens stands whole ends = record {
  found = ends.found;
  is_found = inl (record { room = room; opens = opens; whole = whole; stands = stands; behind = ends.behind; of_disk = ends.of_disk; behind_whole = ends.whole; reads = ends.reads; map = ends.map });
  prints = ends.prints;
}

pub ends_unopened : (old new : Disk) (why : OpenFault) (status : ℕ) (was now : Option (List ℕ)) → FindsDump old new (Err (open_fault why)) → Prints (Err (open_fault why)) status was now → Ends old new status was now
ends_unopened old new why status was now found prints = record { found = Err (open_fault why); is_found = found; prints = prints }

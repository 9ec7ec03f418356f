-- What merging leaves of a disk: where its log was not opened, and behind the room that was made on it.
use Rattle.std.proofs.Common.{◌≡◌, ◌∙◌, ℕ, List, [], inl, inr, Option, Some, None, Result, Ok, Err, refl, sym, ap, subst, arith}
use Rattle.std.specs.Prelude.{Contains, IfSome, option_map}
use Rattle.std.proofs.lemmas.List.Elements.{All-contains, All-from_recursion}
use Rattle.log_disk.specs.Disk.{BothTold, Disk, IsImageSince, IsSound as IsSoundDisk, IsToldOf, OnlyFails, Told, clock_of}
use Rattle.log_disk.specs.Moments.{Continues, ContinuesOn}
use Rattle.log_disk.proofs.Moments.{only_now}
use Rattle.log_disk.proofs.Steps.{all_synced}
use Rattle.log_disk.proofs.Times.{continues_told}
use Rattle.fine_model.specs.declared.Damage.{Damage}
use Rattle.fine_model.specs.declared.Damage.TheVariants as damage
use Rattle.fine_model.specs.declared.Part.{Part}
use Rattle.fine_model.specs.declared.Row.{Row}
use Rattle.fine_model.specs.declared.RunFault.{RunFault}
use Rattle.fine_model.specs.declared.RunFault.TheVariants as run_fault
use Rattle.fine_model.specs.declared.law.RoomState.{RoomState}
use Rattle.fine_model.specs.Chain.{Shows, chain, regions_of}
use Rattle.fine_model.specs.Nodes.{Agrees}
use Rattle.fine_model.specs.Regions.{Image}
use Rattle.fine_model.proofs.Chain.ChainFacts.{Fact, facts}
use Rattle.fine_model.proofs.Trees.NodeLaws.{Agrees-refl}
use Rattle.fine_model.proofs.Chain.ReadChain.{ReadChain, read_chain}
use Rattle.damage_laws.specs.Made.{AreMadeOf}
use Rattle.damage_laws.specs.Places.{IsUnchanged}
use Rattle.epoch_room.specs.Meaning.{Stands, StandsAtFirst}
use Rattle.epoch_room.specs.Steps.{KeepsCounts}
use Rattle.epoch_room.specs.Value.{RoomValue, made}
use Rattle.epoch_room.specs.Whole.{IsIdle}
use Rattle.epoch_room.proofs.Standing.{nothing_more}
use Rattle.reopen.specs.Opening.{OpensRoom, TellsDamage}
use Rattle.reopen.specs.declared.fault.OpenFault.{OpenFault}
use Rattle.reopen.specs.declared.fault.OpenFault.TheVariants as fault
use Rattle.room_shelf.proofs.Loading.{log_law}
use Rattle.run_laws.proofs.NoEyes.{no_eyes}
use Rattle.run_laws.proofs.Runs.{told_of}
use Rattle.room_steps.proofs.JoinedMade.{own_made}
use Rattle.log_commands.specs.Ends.{Ends}
use Rattle.log_commands.specs.Found.{SeesLog, open_fault}
use Rattle.log_commands.specs.Merged.{EndsRoom, GoesOn, HasFailed, KeepsLog, MergesAll, MergesLog, MergesOr, found_in, image_of}
use Rattle.log_commands.specs.Origins.{AreFrom}
use Rattle.room_merges.proofs.Living.{seen_itself}
use Rattle.log_commands.proofs.Blamed.{may_name}
use Rattle.log_commands.proofs.Ranges.{told_chain}
use Rattle.log_commands.proofs.Live.{merged_log}

same_some : (a b : Told) (o : Option Told) → o ≡ Some a → o ≡ Some b → b ≡ a
same_some a b o is_a is_b = let e : ◌≡◌ {A = Option Told} (Some a) (Some b) = sym is_a ∙ is_b in cc

-- the damage that a fault tells is that of the chain
told_damage : (answer : Result (List Part) Damage) (told what : Damage) → ◌≡◌ {A = Option Damage} (Some told) (Some what) → answer ≡ Err what → answer ≡ Err told
told_damage answer told what e is = let same : what ≡ told = cc in is ∙ ap (λ (d : Damage). Err d) same

is_told_of : (disk : Disk) (before : Told) → IsSoundDisk disk → disk.told ≡ Some before → IsToldOf disk before
is_told_of disk before sound is = subst (λ o. IfSome o (IsToldOf disk)) is sound.told

-- ---- a log that was not opened

module _ (old new : Disk) (idle : IsIdle old) (sound : IsSoundDisk old) where
  -- what the disk tells is what it told
  still_shows : new.told ≡ old.told → (before after : Told) (e : ℕ) (rows : List Row) → old.told ≡ Some before → new.told ≡ Some after → Shows old.region_len before.bytes e rows
      → (image : Image) → IsImageSince (clock_of before) after image → (shown : List Row) × Shows old.region_len image e shown × Agrees shown rows
  still_shows still before after e rows is_before is_after shows image since =
      let same : after ≡ before = same_some before after old.told is_before (sym still ∙ is_after) in
      let now : image ≡ before.bytes = all_synced old before image (is_told_of old before sound is_before) idle.synced (only_now before image (subst (λ (t : Told). IsImageSince (clock_of before) t image) same since)) in
      (rows, subst (λ i. Shows old.region_len i e rows) (sym now) shows, Agrees-refl rows)

  keeps_same : new ≡ old → KeepsLog old new
  keeps_same same = record {
    regions = ap (λ (d : Disk). d.regions) same;
    region_len = ap (λ (d : Disk). d.region_len) same;
    no_eyes = ap (λ (d : Disk). d.eyes) same ∙ idle.no_eyes;
    time = continues_told old new (ap (λ (d : Disk). d.told) same);
    begun = inr (inl same);
    every_image = still_shows (ap (λ (d : Disk). d.told) same);
  }

  keeps_failed : OnlyFails old new → KeepsLog old new
  keeps_failed f = record {
    regions = f.beside.regions;
    region_len = f.beside.region_len;
    no_eyes = f.beside.eyes ∙ idle.no_eyes;
    time = continues_told old new f.told;
    begun = inr (inr f);
    every_image = still_shows f.told;
  }

  same_counts : new ≡ old → KeepsCounts old new
  same_counts same = record { faults = ap (λ (d : Disk). d.faults) same; own_faults = ap (λ (d : Disk). d.own_faults) same }

  pub unopened : (why : OpenFault) → TellsDamage old why → (why ≡ fault.Disk → OnlyFails old new) → ((why ≡ fault.Disk → ⊥) → new ≡ old) → MergesLog old new (Err (open_fault why))
  unopened fault.Disk tells failed same =
      let f = failed refl in record { keeps = keeps_failed f; merges = record { rises = f.counts.faults tt; no_lower = f.counts.no_lower } }
  unopened fault.NoMemory tells failed same = let s = same (λ e. absurd (let x = e in cc)) in record { keeps = keeps_same s; merges = same_counts s }
  unopened (fault.BadRegion region at) tells failed same =
      let s = same (λ e. absurd (let x = e in cc)) in let t = tells tt in
      record { keeps = keeps_same s; merges = (same_counts s, inl (s, record { image = t.image; is_seen = t.is_seen; is = told_damage (chain old.region_len t.image) (damage.Region region at) t.tells.0 t.tells.1 t.tells.2 })) }
  unopened (fault.Gap after region) tells failed same =
      let s = same (λ e. absurd (let x = e in cc)) in let t = tells tt in
      record { keeps = keeps_same s; merges = (same_counts s, inl (s, record { image = t.image; is_seen = t.is_seen; is = told_damage (chain old.region_len t.image) (damage.Gap after region) t.tells.0 t.tells.1 t.tells.2 })) }
  unopened (fault.Overlap region other) tells failed same =
      let s = same (λ e. absurd (let x = e in cc)) in let t = tells tt in
      record { keeps = keeps_same s; merges = (same_counts s, inl (s, record { image = t.image; is_seen = t.is_seen; is = told_damage (chain old.region_len t.image) (damage.Overlap region other) t.tells.0 t.tells.1 t.tells.2 })) }

-- ---- a room that was made on the disk

-- the parts of a chain have their headers, so they are unchanged
chain_headers : (region_len : ℕ) (image : Image) (parts : List Part) → chain region_len image ≡ Ok parts → (p : Part) → Contains parts p → IsUnchanged region_len image image p
chain_headers region_len image parts is p there =
    let fact = All-contains (Fact region_len image all) parts p (All-from_recursion (Fact region_len image all) parts (facts region_len image parts c)) there in record { header = fact.has; same = seen_itself (regions_of p) (Some image) }
  where
    c : ReadChain region_len image parts
    c = read_chain region_len image parts is

    all : List Part
    all = c.all

module _ (old : Disk) (room : RoomValue) (opens : OpensRoom old room) (first : StandsAtFirst room old.told) (new : RoomValue) (goes : GoesOn room new) where
  of_made : {A : Type 0} (f : RoomValue → A) → f room ≡ f (made old opens.found.parts opens.found.retired)
  of_made f = ap f opens.is_made

  disk_is : room.disk ≡ old
  disk_is = of_made (λ (r : RoomValue). r.disk)

  entry_is : new.entry ≡ old
  entry_is = goes.entry ∙ of_made (λ (r : RoomValue). r.entry)

  len_is : new.disk.region_len ≡ old.region_len
  len_is = sym goes.whole.entry.region_len ∙ ap (λ (d : Disk). d.region_len) entry_is

  room_len : new.room.region_len ≡ old.region_len
  room_len = ap (λ (r : RoomState). r.region_len) goes.whole.of_disk ∙ len_is

  first_len : room.room.region_len ≡ old.region_len
  first_len = of_made (λ (r : RoomValue). r.room.region_len)

  time : ContinuesOn old new.disk
  time = subst (λ (d : Disk). ContinuesOn d new.disk) entry_is goes.whole.entry.time

  was : SeesLog old (Ok opens.found.parts)
  was = record { image = opens.sees.image; is_seen = opens.sees.is_seen; is = opens.sees.is_chain }

  image_is : new.room.image ≡ image_of new.disk
  image_is = ap (λ (r : RoomState). r.image) goes.whole.of_disk

  -- the live parts come from those of the chain that was found
  from : AreFrom old.region_len (image_of old) (image_of new.disk) opens.found.parts new.room.parts
  from =
      subst (λ (o : Option Image). AreFrom old.region_len (image_of old) o opens.found.parts new.room.parts) image_is
      (subst (λ (r : RoomValue). AreFrom r.room.region_len r.room.image new.room.image r.room.parts new.room.parts) opens.is_made goes.from)

  told_from : (first last : Told) → old.told ≡ Some first → new.disk.told ≡ Some last → AreFrom old.region_len (Some first.bytes) (Some last.bytes) opens.found.parts new.room.parts
  told_from first last is_first is_last =
      subst (λ (o : Option Image). AreFrom old.region_len o (Some last.bytes) opens.found.parts new.room.parts) (ap (option_map (λ (t : Told). t.bytes)) is_first)
      (subst (λ (o : Option Image). AreFrom old.region_len (image_of old) o opens.found.parts new.room.parts) (ap (option_map (λ (t : Told). t.bytes)) is_last) from)

  -- and are made of them
  made_of : (first last : Told) → old.told ≡ Some first → new.disk.told ≡ Some last → AreMadeOf old.region_len first.bytes last.bytes opens.found.parts [] new.room.parts
  made_of first last is_first is_last =
      let at_first : room.room.image ≡ Some first.bytes = of_made (λ (r : RoomValue). r.room.image) ∙ ap (option_map (λ (t : Told). t.bytes)) is_first in
      let at_last : new.room.image ≡ Some last.bytes = image_is ∙ ap (option_map (λ (t : Told). t.bytes)) is_last in
      let start : AreMadeOf room.room.region_len first.bytes first.bytes opens.found.parts [] room.room.parts =
      subst (λ (r : RoomValue). AreMadeOf r.room.region_len first.bytes first.bytes opens.found.parts [] r.room.parts) (sym opens.is_made)
      (own_made old.region_len first.bytes opens.found.parts (chain_headers old.region_len first.bytes opens.found.parts (told_chain old (Ok opens.found.parts) first is_first was))) in
      subst (λ n. AreMadeOf n first.bytes last.bytes opens.found.parts [] new.room.parts) first_len (goes.makes first.bytes first.bytes last.bytes opens.found.parts [] at_first at_last start)

  module _ (before : Told) (e : ℕ) (rows : List Row) (is_before : old.told ≡ Some before) (shows : Shows old.region_len before.bytes e rows) where
    stands : Stands new rows e []
    stands =
        let at_first : StandsAtFirst room (Some before) = subst (λ o. StandsAtFirst room o) is_before first in
        goes.keeps.stands rows e [] (at_first e rows (subst (λ n. Shows n before.bytes e rows) (sym first_len) shows))

    entry_told : new.entry.told ≡ Some before
    entry_told = ap (λ (d : Disk). d.told) entry_is ∙ is_before

    every : (after : Told) → new.disk.told ≡ Some after → (image : Image) → IsImageSince (clock_of before) after image → (shown : List Row) × Shows old.region_len image e shown × Agrees shown rows
    every after is_after image since =
        let s = (told_of new before after rows e [] entry_told is_after stands).stands.images.every_image image since in
        let same : s.e ≡ e = let a = s.from in let b = s.to in omega (arith, a, b) in
        (s.rows, subst (λ n. Shows n image e s.rows) room_len (subst (λ k. Shows new.room.region_len image k s.rows) same s.shows), subst (Agrees s.rows) (nothing_more rows s.e) s.agrees)

    -- the disk tells on return what it told at entry
    after_told : (t : Option Told) → new.disk.told ≡ t → (after : Told) × (new.disk.told ≡ Some after)
    after_told None is = absurd (subst (λ t. BothTold Continues (Some before) t) is (subst (λ t. BothTold Continues t new.disk.told) is_before time))
    after_told (Some after) is = (after, is)

  keeps : KeepsLog old new.disk
  keeps = record {
    regions = sym goes.whole.entry.regions ∙ ap (λ (d : Disk). d.regions) entry_is;
    region_len = len_is;
    no_eyes = no_eyes new goes.whole goes.none_out;
    time = time;
    begun = inl (opens.found.parts, was);
    every_image = λ before after e rows is_before is_after shows image since. every before e rows is_before shows after is_after image since;
  }

  counts_from : KeepsCounts room.disk new.disk → KeepsCounts old new.disk
  counts_from c = subst (λ (d : Disk). KeepsCounts d new.disk) disk_is c

  merges : (result : Result (Unit {0}) RunFault) → MergesAll room new result → MergesOr old new.disk (found_in new result)
  merges (Ok u) m = record {
    before = opens.found.parts;
    was = was;
    ends = sym goes.whole.ends ∙ goes.sealed ∙ of_made (λ (r : RoomValue). r.room.sealed);
    from = from;
    made = made_of;
    room = new;
    whole = goes.whole;
    of_disk = refl;
    of_room = refl;
    none_merge = m.all.1;
    counts = counts_from m.all.0.counts;
    told = λ after is. merged_log new after.bytes goes.whole (record {
      none_lost = goes.whole.lost m.all.0.opened;
      told = image_is ∙ ap (option_map (λ (t : Told). t.bytes)) is;
      none_waits = goes.waiting ∙ of_made (λ (r : RoomValue). r.room.waiting);
      none_retired = m.all.1.none_retired;
      no_job = goes.job;
    }) m.all.1.none_fit;
  }
  merges (Err run_fault.Memory) m = counts_from m.all
  merges (Err run_fault.Disk) m = subst (λ (d : Disk). HasFailed d new.disk) disk_is m.all
  merges (Err (run_fault.Damaged what)) m = (
    counts_from m.all.0.counts,
    inr (record {
      before = opens.found.parts;
      was = was;
      room = new;
      of_disk = refl;
      names = m.all.1;
      shows_none = λ before e rows is_before shows.
          let after = after_told before e rows is_before shows new.disk.told refl in
          let live = log_law new None before after.0 rows e [] goes.whole m.all.0.opened (entry_told before e rows is_before shows) after.1 (stands before e rows is_before shows) in
          m.all.1.none_told live.0 live.1;
      told = λ first last is_first is_last.
          may_name old.region_len first.bytes last.bytes opens.found.parts new goes.whole m.all.0.opened (image_is ∙ ap (option_map (λ (t : Told). t.bytes)) is_last) len_is room_len
          (told_from first last is_first is_last) what m.all.1;
    }),
  )

pub ends_log : (old : Disk) (room : RoomValue) → OpensRoom old room → StandsAtFirst room old.told → (disk : Disk) (status : ℕ) (was now : Option (List ℕ)) → EndsRoom room disk status was now → Ends (MergesLog old disk) status was now
ends_log old room opens first disk status earlier now ends = record {
  found = found_in ends.new ends.merged;
  is_found = subst (λ (d : Disk). MergesLog old d (found_in ends.new ends.merged)) (sym ends.of_disk) (record {
    keeps = keeps old room opens first ends.new ends.merges.goes_on;
    merges = merges old room opens first ends.new ends.merges.goes_on ends.merged ends.merges;
  });
  status_is = ends.prints.status_is;
  printed = ends.prints.printed;
}

-- A room whose merge was not sealed, for want of memory or since an earlier call had failed.
use Rattle.std.proofs.Common.{◌≡◌, ℕ, ◌+◌, ◌<◌, ◌≤◌, true, false, [], ◌∷◌, ◌++◌, length, Some, None, Err, refl, sym, ap, subst, ◌∙◌, inl, inr, arith, true≢false}
use Rattle.std.specs.Prelude.{Option, IfSome, nat_eq, option_map}
use Rattle.std.specs.List.{list_any}
use Rattle.fine_model.specs.declared.Header.{Header}
use Rattle.fine_model.specs.declared.Job.{Job}
use Rattle.fine_model.specs.ChainLaws.{DiffersBehind, part_of}
use Rattle.fine_model.specs.Jobs.{held_for, KeepsJob}
use Rattle.fine_model.specs.Regions.{Image, body_in, header_bytes, region_of}
use Rattle.log_disk.specs.Disk.{BothTold, CountsOwn, Disk, IsSound, IsToldOf, SameBeside, Told, with_bytes}
use Rattle.log_disk.specs.Moments.{ContinuesOn, IsLeft}
use Rattle.log_disk.proofs.Writes.{same_outside_written}
use Rattle.partition_index.proofs.Placed.{front_stays}
use Rattle.epoch_room.specs.Gate.{DirtiesOnly, IsUngated, KeepsBeside, LeavesBehind, LeavesSealing, ReadsBehind}
use Rattle.epoch_room.specs.MergeSealing.{IsWrittenOut, SealsJob}
use Rattle.epoch_room.specs.Value.{Kept, RoomValue, value_of}
use Rattle.epoch_room.specs.Whole.{HoldsParts, IsWhole}
use Rattle.epoch_room.specs.declared.answers.RoomFault.TheVariants as room_fault
use Rattle.epoch_room.proofs.OpenEpochs.Behind.{keeps_none, same_beside}
use Rattle.epoch_room.proofs.Views.Boarding.{AreBeside}
use Rattle.epoch_room.proofs.OpenEpochs.Ending.{moved_whole}
use Rattle.epoch_room.proofs.OpenEpochs.Gates.{behind, sealing_none}
use Rattle.epoch_room.proofs.Merges.MergedHeaders.{header_long}
use Rattle.epoch_room.proofs.Merges.SealingJobs.{held_same, lead_beside, lead_there, long, room_for}
use Rattle.epoch_room.proofs.RegionSets.Touching.{dirties_none}
use Rattle.epoch_room.proofs.Merges.Writing.{still_held, written_keeps}
use Rattle.epoch_room.proofs.Merges.Written.{own_taken}
use Rattle.epoch_room.proofs.Moved.{does}

module _ (old entry : Disk) (kept : Kept) (whole : IsWhole (value_of old entry kept)) (open_room : kept.is_shut ≡ false) (job : Job) (out : kept.job ≡ Some job) (header : Header) (has : job.header ≡ Some header)
    (written : IsWrittenOut (value_of old entry kept).room job header) (new : Disk) (same : SameBeside old new) (sound : IsSound new) (time : ContinuesOn old new) (failed : Type 0) (counts : CountsOwn failed old new)
    (read : KeepsBeside (job.target ∷ []) old new) (leaves : LeavesSealing job.target (header_bytes old.region_len header) old new) (ungated : IsUngated job.target (header_bytes old.region_len header) old new)
    (untouched : LeavesBehind (job.target ∷ []) old new) where
  abbrev Holds : Image → Type 0
  Holds image = HoldsParts old.region_len image kept.parts kept.retired

  -- what a read gives then: nothing else, or the header behind the gate, and the body that was there
  record IsUnsealed (a b : Told) : Type 0 where
    differs : DiffersBehind (job.target ∷ []) a.bytes b.bytes
    body : body_in b.bytes job.target header ≡ body_in a.bytes job.target header

  unsealed : BothTold IsUnsealed old.told new.told
  unsealed = by ungated
    where
      itself : (y : Option Told) → BothTold IsUnsealed y y
      itself None = tt
      itself (Some a) = record { differs = record { as_many = refl; others = λ r h. refl; lengths = λ r. refl; gates = λ r. refl }; body = refl }

      on' : (y z : Option Told) → option_map (λ (t : Told). t.bytes) old.told ≡ option_map (λ (t : Told). t.bytes) y → IfSome y (IsToldOf old) → IfSome y (IsLeft Holds)
          → BothTold (λ a b. b.bytes ≡ with_bytes a.bytes job.target 1 (header_bytes old.region_len header)) y z → BothTold IsUnsealed y z
      on' None None e s h p = tt
      on' None (Some b) e s h p = absurd p
      on' (Some a) None e s h p = absurd p
      on' (Some a) (Some b) e s h p =
          let there : job.target < length a.bytes = let t = lead_there old entry kept whole open_room job out header has written in let l = s.regions in omega (arith, t, l) in
          let room : 1 + length (header_bytes old.region_len header) ≤ length (region_of a.bytes job.target) = long old entry kept whole open_room job out header has written a s h e in
          let taken = own_taken old entry kept whole open_room job out header has in
          record {
            differs = subst (λ (i : Image). DiffersBehind (job.target ∷ []) a.bytes i) (sym p)
                (behind job.target 1 (1 + length (header_bytes old.region_len header)) a.bytes (with_bytes a.bytes job.target 1 (header_bytes old.region_len header)) (omega arith)
                (same_outside_written a.bytes job.target 1 (header_bytes old.region_len header) there room));
            body = ap (λ (i : Image). body_in i job.target header) p
                ∙ front_stays old.region_len a.bytes (part_of job.target header) 1 (header_bytes old.region_len header) (room_for old entry kept whole open_room job out header has written a s h e)
                (let l = header_long old.region_len header taken.lies.listed in omega (arith, l));
          }

      by : IsUngated job.target (header_bytes old.region_len header) old new → BothTold IsUnsealed old.told new.told
      by (inl is) = subst (λ (d : Disk). BothTold IsUnsealed old.told d.told) (sym is) (itself old.told)
      by (inr some) = on' old.told new.told refl whole.sound.told (whole.told (whole.lost open_room)) some.1

  reads : ReadsBehind (job.target ∷ []) old new
  reads = on' old.told new.told unsealed
    where
      on' : (y z : Option Told) → BothTold IsUnsealed y z → BothTold (λ a b. DiffersBehind (job.target ∷ []) a.bytes b.bytes) y z
      on' None None u = tt
      on' None (Some b) u = absurd u
      on' (Some a) None u = absurd u
      on' (Some a) (Some b) u = u.differs

  held_still : held_for (option_map (λ (t : Told). t.bytes) new.told) job ≡ held_for (option_map (λ (t : Told). t.bytes) old.told) job
  held_still = held_same job header has old.told new.told unsealed (λ a b u. u.body)

  keeps_job : KeepsJob (value_of old entry kept).room (value_of new entry kept).room
  keeps_job = record { job = refl; held = λ other e. subst (λ (j : Job). held_for (option_map (λ (t : Told). t.bytes) new.told) j ≡ held_for (option_map (λ (t : Told). t.bytes) old.told) j) (some_is job other (sym out ∙ e)) held_still }
    where
      some_is : (x y : Job) → ◌≡◌ {A = Option Job} (Some x) (Some y) → x ≡ y
      some_is x y e = cc

  beside : AreBeside (job.target ∷ []) (kept.parts ++ kept.retired)
  beside = lead_beside old entry kept whole open_room job out header has written

  pub open_whole : DirtiesOnly (job.target ∷ []) old new → IsWhole (value_of new entry kept)
  open_whole dirties =
      moved_whole old new entry kept whole same sound time counts.no_lower (job.target ∷ []) beside read open_room dirties
      (still_held old new entry kept whole open_room (job.target ∷ []) beside (lead_there old entry kept whole open_room job out header has written, tt) same sound time failed counts reads untouched)

  pub seals_memory : (failed → ⊥) → DirtiesOnly (job.target ∷ []) old new → SealsJob (value_of old entry kept) (value_of new entry kept) job header (Err (room_fault.NoMemory, job))
  seals_memory fine dirties = record {
    room = (
      refl,
      (
        does _ _ open_room refl refl refl same time counts fine,
        keeps_job,
        ungated,
      ),
    );
    beside = same;
    read = read;
    dirties = dirties;
    leaves = leaves;
    bytes = tt;
    keeps = written_keeps old new entry kept whole open_room (job.target ∷ []) beside (lead_there old entry kept whole open_room job out header has written, tt) same sound time failed counts reads untouched kept.job kept.lost kept.is_shut
        (λ h. absurd (true≢false (sym h ∙ open_room)));
  }

-- a room that was shut before
pub seals_none : (value : RoomValue) (job : Job) (header : Header) → IsWhole value → value.room.is_shut ≡ true → SealsJob value value job header (Err (room_fault.Shut value.room.sealed, job))
seals_none value job header whole shut = record {
  room = (refl, (shut, refl, refl));
  beside = same_beside value.disk;
  read = itself value.disk.told;
  dirties = dirties_none (job.target ∷ []) value.disk value.disk refl;
  leaves = sealing_none job.target (header_bytes value.room.region_len header) value.disk value.disk refl;
  bytes = tt;
  keeps = keeps_none value whole;
}
  where
    itself : (y : Option Told) → BothTold (λ a b. (r : ℕ) → list_any (nat_eq r) (job.target ∷ []) ≡ false → region_of b.bytes r ≡ region_of a.bytes r) y y
    itself None = tt
    itself (Some a) = λ r h. refl

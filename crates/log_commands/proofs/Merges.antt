-- What merging once, and merging on, leave of a room.
use Rattle.std.proofs.Common.{◌≡◌, ◌⊎◌, ℕ, ◌∙◌, true, false, List, [], inl, inr, None, Ok, Err, refl, sym, subst, arith, true≢false}
use Rattle.std.specs.Prelude.{Bool, Result}
use Rattle.std.specs.List.{list_all}
use Rattle.log_disk.specs.Disk.{HasRisen}
use Rattle.fine_model.specs.declared.Damage.TheVariants as damage
use Rattle.fine_model.specs.declared.FetchFault.{FetchFault}
use Rattle.fine_model.specs.declared.FetchFault.TheVariants as fetch_fault
use Rattle.fine_model.specs.declared.Row.{Row}
use Rattle.fine_model.specs.declared.RunFault.{RunFault}
use Rattle.fine_model.specs.declared.RunFault.TheVariants as run_fault
use Rattle.fine_model.specs.Boards.{Buffer, is_empty}
use Rattle.fine_model.specs.Chain.{regions_of}
use Rattle.epoch_room.specs.Value.{RoomValue}
use Rattle.epoch_room.specs.Whole.{IsWhole}
use Rattle.epoch_room.specs.declared.answers.RoomFault.TheVariants as room_fault
use Rattle.room_merges.specs.declared.fault.MergeFault.{MergeFault}
use Rattle.room_merges.specs.declared.fault.MergeFault.TheVariants as merge_fault
use Rattle.room_merges.specs.Near.{BlamedFirst, IsReadRefused, MergesNear}
use Rattle.fine_model.specs.Views.{TellsRowsOf}
use Rattle.room_merges.proofs.Living.{seen_itself, seen_then}
use Rattle.room_merges.proofs.Through.{rest_itself, rest_then}
use Rattle.room_steps.specs.Merging.{of_merge}
use Rattle.room_steps.proofs.MadeOn.{makes_on}
use Rattle.room_steps.proofs.Merges.{tells_none}
use Rattle.room_steps.proofs.Stepping.{makes_same, near_lives, same_length, told_then}
use Rattle.log_commands.specs.Origins.{AreFrom}
use Rattle.log_commands.proofs.Origins.{from_same, from_then}
use Rattle.log_commands.proofs.Stepping.{live_from}
use Rattle.log_commands.specs.Merged.{FaultOf, GoesOn, IsMerging, IsWell, MergesAll, MergesOnce}

-- ---- one merge

module _ (old new : RoomValue) (opened : old.room.is_shut ≡ false) (board : list_all is_empty old.room.board ≡ true) (was : IsWhole old) (whole : IsWhole new) where
  goes : (result : Result Bool MergeFault) → MergesNear 1 old new result → GoesOn old new
  goes result m = let k = m.rest in record {
    whole = whole;
    none_out = subst (λ (b : List Buffer). list_all is_empty b ≡ true) (sym k.board) board;
    rest = k;
    region_len = same_length old new was whole k;
    told = m.live.told;
    from = live_from old new was whole 1 opened result m;
    makes = (near_lives old new was whole 1 result m).makes;
  }

  -- a read was refused, and no call failed
  refused_well : (fault : FetchFault) → IsReadRefused old new fault → (fault ≡ fetch_fault.Failed → ⊥) → IsWell old new
  refused_well fault refused not_failed = record { counts = record { faults = refused.else_same not_failed; own_faults = refused.own_faults }; opened = refused.stays }

  pub merged_once : (merged : Bool) → MergesNear 1 old new (Ok merged) → MergesOnce old new (Ok merged)
  merged_once true m = record { goes_on = goes (Ok true) m; once = (record { counts = m.near.0.counts; opened = m.near.0.stays }, m.near.1.less) }
  merged_once false m = record { goes_on = goes (Ok false) m; once = (record { counts = m.near.0.counts; opened = m.near.0.stays }, record { none_retired = m.near.2; none_fit = m.near.3; in_vain = m.near.4 }) }

  -- a place that was read is bad
  bad_once : (fault : FetchFault) (region at : ℕ) → (fault ≡ fetch_fault.BadRow region at) ⊎ (fault ≡ fetch_fault.BadIndex region at) → IsReadRefused old new fault → (fault ≡ fetch_fault.Failed → ⊥) → BlamedFirst 1 new fault
      → ((rows : List Row) → TellsRowsOf new.room.image new.room.region_len new.room.parts rows → ⊥) → FaultOf old new (run_fault.Damaged (damage.Region region at))
  bad_once fault region at of_read refused not_failed blamed none_told = (
    refused_well fault refused not_failed,
    record { read = record { region = region; at = at; is = refl; fault = fault; of_read = of_read }; blamed = blamed; none_told = none_told },
  )

  pub fault_once : (fault : MergeFault) → MergesNear 1 old new (Err fault) → MergesOnce old new (Err (of_merge fault))
  fault_once (merge_fault.Room room_fault.Disk) m = record { goes_on = goes (Err (merge_fault.Room room_fault.Disk)) m; once = record { rises = m.near.0.fails.faults; no_lower = m.near.0.fails.no_lower } }
  fault_once (merge_fault.Room (room_fault.Shut epoch)) m = absurd (true≢false (sym m.near.0 ∙ opened))
  fault_once (merge_fault.Room room_fault.NoMemory) m = record { goes_on = goes (Err (merge_fault.Room room_fault.NoMemory)) m; once = m.near.0.counts }
  fault_once (merge_fault.Fetch fetch_fault.Failed) m = record {
    goes_on = goes (Err (merge_fault.Fetch fetch_fault.Failed)) m;
    once = record { rises = m.near.0.rises refl; no_lower = (m.near.0.no_lower, let e = m.near.0.own_faults in omega (arith, e)) };
  }
  fault_once (merge_fault.Fetch (fetch_fault.BadRow region at)) m = record {
    goes_on = goes (Err (merge_fault.Fetch (fetch_fault.BadRow region at))) m;
    once = bad_once (fetch_fault.BadRow region at) region at (inl refl) m.near.0 (λ e. absurd (let x = e in cc)) m.near.3 (tells_none old new (fetch_fault.BadRow region at) m.near.0 m.near.0.blames.blames.1);
  }
  fault_once (merge_fault.Fetch (fetch_fault.BadIndex region at)) m = record {
    goes_on = goes (Err (merge_fault.Fetch (fetch_fault.BadIndex region at))) m;
    once = bad_once (fetch_fault.BadIndex region at) region at (inr refl) m.near.0 (λ e. absurd (let x = e in cc)) m.near.3 (tells_none old new (fetch_fault.BadIndex region at) m.near.0 m.near.0.blames.blames.1);
  }
  fault_once (merge_fault.Fetch fetch_fault.NoMemory) m = record { goes_on = goes (Err (merge_fault.Fetch fetch_fault.NoMemory)) m; once = (refused_well fetch_fault.NoMemory m.near.0 (λ e. absurd (let x = e in cc))).counts }

-- ---- merging on

goes_on : (a b c : RoomValue) → GoesOn a b → GoesOn b c → GoesOn a c
goes_on a b c p q = record {
  whole = q.whole;
  none_out = q.none_out;
  rest = rest_then a b c p.rest q.rest;
  region_len = q.region_len ∙ p.region_len;
  told = seen_then [] a.room.image b.room.image c.room.image p.told q.told;
  from = from_then a.room.region_len a.room.image b.room.image c.room.image p.told a.room.parts b.room.parts c.room.parts p.from
      (subst (λ n. AreFrom n b.room.image c.room.image b.room.parts c.room.parts) p.region_len q.from);
  makes = makes_on a b c [] [] p.region_len (λ first is_first. told_then a.room.image b.room.image first p.told is_first) p.makes q.makes;
}

well_on : (a b c : RoomValue) → IsWell a b → IsWell b c → IsWell a c
well_on a b c p q = record { counts = record { faults = q.counts.faults ∙ p.counts.faults; own_faults = q.counts.own_faults ∙ p.counts.own_faults }; opened = q.opened }

fault_on : (a b c : RoomValue) (fault : RunFault) → IsWell a b → FaultOf b c fault → FaultOf a c fault
fault_on a b c run_fault.Memory p q = record { faults = q.faults ∙ p.counts.faults; own_faults = q.own_faults ∙ p.counts.own_faults }
fault_on a b c run_fault.Disk p q = record {
  rises = subst (λ n. HasRisen n c.disk.faults) p.counts.faults q.rises;
  no_lower = ((let e = p.counts.faults in let h = q.no_lower.0 in omega (arith, e, h)), (let e = p.counts.own_faults in let h = q.no_lower.1 in omega (arith, e, h)));
}
fault_on a b c (run_fault.Damaged what) p q = (well_on a b c p q.0, q.1)

pub merging_itself : (room : RoomValue) → IsWhole room → room.room.job ≡ None → list_all is_empty room.room.board ≡ true → room.room.is_shut ≡ false → IsMerging room room
merging_itself room whole no_job board opened = record {
  goes_on = record {
    whole = whole;
    none_out = board;
    rest = rest_itself room whole no_job;
    region_len = refl;
    told = seen_itself [] room.room.image;
    from = from_same room.room.region_len room.room.image room.room.image room.room.parts (λ p there. seen_itself (regions_of p) room.room.image);
    makes = makes_same room room refl refl;
  };
  well = record { counts = record { faults = refl; own_faults = refl }; opened = opened };
}

module _ (a b c : RoomValue) (p : IsMerging a b) where
  pub merging_on : MergesOnce b c (Ok true) → IsMerging a c
  merging_on m = record { goes_on = goes_on a b c p.goes_on m.goes_on; well = well_on a b c p.well m.once.0 }

  pub none_fitted : MergesOnce b c (Ok false) → MergesAll a c (Ok tt)
  none_fitted m = record { goes_on = goes_on a b c p.goes_on m.goes_on; all = (well_on a b c p.well m.once.0, m.once.1) }

  pub merging_failed : (fault : RunFault) → MergesOnce b c (Err fault) → MergesAll a c (Err fault)
  merging_failed fault m = record { goes_on = goes_on a b c p.goes_on m.goes_on; all = fault_on a b c fault p.well m.once }

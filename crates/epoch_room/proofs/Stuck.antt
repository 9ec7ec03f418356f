-- A room in which nothing waits and no neighbours fit can take nothing any more.
use Rattle.std.proofs.Common.{◌≡◌, Ok, arith, subst, sym}
use Rattle.fine_model.specs.Causes.{NoneFit}
use Rattle.fine_model.specs.Chain.{chain}
use Rattle.epoch_room.specs.Stuck.{StuckLaw}
use Rattle.epoch_room.proofs.RegionSets.Clear.{IsClear, all_live, free_is, now, same_len}

pub stuck_law : StuckLaw
stuck_law value image rows whole nothing =
    let clear : IsClear value image = record { none_lost = nothing.none_lost; told = nothing.told; none_waits = nothing.none_waits; none_retired = nothing.none_retired; no_job = nothing.no_job } in record {
      image = image;
      told = nothing.told;
      is_chain = subst (λ n. chain n image ≡ Ok value.room.parts) (sym (same_len value image whole clear)) (now value image whole clear).1.is_chain;
      rows = rows;
      are_rows = nothing.are_rows;
      none_waits = nothing.none_waits;
      none_retired = nothing.none_retired;
      few_free = let f = free_is value image whole clear in let l = nothing.few_free in omega (arith, f, l);
      all_live = all_live value image whole clear;
      no_merge = subst (NoneFit value.room.region_len image value.room.parts) (sym (free_is value image whole clear)) nothing.no_merge;
    }

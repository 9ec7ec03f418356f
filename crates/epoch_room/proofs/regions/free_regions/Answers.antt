use Rattle.std.proofs.Common.{◌≡◌, ◌+◌, ◌++◌, ◌∷◌, [], not, true, false, ap, sym, refl, ◌∙◌, append-nil, arith}
use Rattle.std.specs.Prelude.{filter, nat_eq}
use Rattle.std.specs.List.{list_any, range_with_len}
use Rattle.fine_model.specs.Boards.{set_of}
use Rattle.epoch_room.specs.Value.{all_regions}
use Rattle.epoch_room.proofs.RegionSets.Beside.{beside_pushed}
use Rattle.epoch_room.proofs.RegionSets.FreeSets.{set_below}
use Rattle.epoch_room.proofs.regions.free_regions.Goals as goal
use Rattle.epoch_room.proofs.regions.free_regions.Goals.{then-is_beside, else-is_beside}

pub loop-region-preserved : goal.loop-region-preserved
loop-region-preserved c =
    let n = c.loop-region.region in
    let live = c.args.live.now in
    let retired = c.args.retired.now in
    elim c.if-is_beside.branch [
      | then-is_beside w ↦
          let grown : c.loop-region.free ++ n ∷ [] ≡ filter (λ r. not (list_any (nat_eq r) (all_regions (live ++ retired)))) (range_with_len 0 (n + 1)) =
          beside_pushed n live retired true (sym w.if-is_beside.true ∙ c.is_beside.ensures) c.loop-region.free (c.loop-region.free ++ n ∷ []) c.loop-region.invariant refl in
          w.free-is ∙ w.insert.ensures ∙ ap set_of grown ∙ set_below (λ r. not (list_any (nat_eq r) (all_regions (live ++ retired)))) (n + 1) (omega (arith, c.loop-region-test.true, c.requires.few))
      | else-is_beside w ↦
          beside_pushed n live retired false (sym w.if-is_beside.false ∙ c.is_beside.ensures) c.loop-region.free c.if-is_beside.free c.loop-region.invariant (w.free-is ∙ sym (append-nil c.loop-region.free))
    ]

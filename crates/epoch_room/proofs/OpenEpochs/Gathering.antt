-- What the open epoch keeps, with no entry and with one more.
use Rattle.std.proofs.Common.{◌≡◌, ◌+◌, ◌≤◌, List, [], ◌∷◌, ◌++◌, length, sym, ap, subst, ◌∙◌, arith, append-nil, vec_len, vec_capacity}
use Rattle.std.specs.Prelude.{flat_map}
use Rattle.std.specs.List.{AllByRecursion}
use Rattle.std.specs.declared.snapshot.Snapshot.{Snapshot}
use Rattle.std.proofs.lemmas.Grind.{flat_map-append}
use Rattle.fine_model.specs.declared.Row.{Row}
use Rattle.fine_model.specs.declared.Mark.TheVariants as mark
use Rattle.fine_model.specs.RowBytes.{row_bytes, rows_bytes, rows_len, FitsRow}
use Rattle.fine_model.specs.Merge.{cost}
use Rattle.fine_model.proofs.Chain.Grammar.{rows_long}
use Rattle.fine_model.proofs.Ordered.Sets.{all_append}
use Rattle.epoch_room.specs.Gathered.{rows_in, IsGathered}
use Rattle.epoch_room.specs.declared.epoch.OpenEpoch.TheInside.{Inside}
use Rattle.log_partition.proofs.Costs.{cost_together, cost_none}

abbrev logs_rows : List (Snapshot (List Row)) → List Row
logs_rows logs = flat_map (λ (kept : Snapshot (List Row)). kept.value) logs

bytes_together : (a b : List Row) → rows_bytes (a ++ b) ≡ rows_bytes a ++ rows_bytes b
unfolding rows_bytes
bytes_together a b = flat_map-append row_bytes a b

pub area_is : (epoch : Inside) → IsGathered epoch → length epoch.bytes.items ≡ rows_len (rows_in epoch)
area_is epoch kept = ap length kept.bytes ∙ rows_long (rows_in epoch)

pub gathered_none : (epoch : Inside) → epoch.bytes.items ≡ [] → epoch.logs.items ≡ [] → epoch.waiting ≡ vec_len epoch.logs → epoch.used ≡ 0
    → epoch.most ≤ vec_capacity epoch.bytes → 4611686018427387904 ≤ vec_capacity epoch.logs → IsGathered epoch
unfolding rows_bytes
gathered_none epoch bytes logs entries used room places =
    let rows : rows_in epoch ≡ [] = ap logs_rows logs in
    record {
      bytes = bytes ∙ sym (ap rows_bytes rows);
      fit = subst (AllByRecursion (FitsRow mark.Two)) (sym rows) tt;
      costs = omega (arith, ap cost rows, cost_none, used);
      within = omega (arith, used);
      entries = entries;
      room = room;
      places = places;
    }

-- the rows of one log more
pub rows_more : (old new : List (Snapshot (List Row))) (kept : Snapshot (List Row)) (rows : List Row) → new ≡ old ++ kept ∷ [] → kept.value ≡ rows → logs_rows new ≡ logs_rows old ++ rows
rows_more old new kept rows more same =
    ap logs_rows more ∙ flat_map-append (λ (k : Snapshot (List Row)). k.value) old (kept ∷ []) ∙ ap (λ xs. logs_rows old ++ xs) (append-nil kept.value ∙ same)

pub gathered_more : (old new : Inside) (kept : Snapshot (List Row)) (rows : List Row) → IsGathered old → AllByRecursion (FitsRow mark.Two) rows
    → new.bytes.items ≡ old.bytes.items ++ rows_bytes rows → new.logs.items ≡ old.logs.items ++ kept ∷ [] → kept.value ≡ rows
    → new.waiting ≡ vec_len new.logs → new.used ≡ old.used + cost rows → new.used ≤ new.most → new.most ≤ vec_capacity new.bytes → 4611686018427387904 ≤ vec_capacity new.logs → IsGathered new
gathered_more old new kept rows is fit bytes logs same entries used within room places =
    let more : rows_in new ≡ rows_in old ++ rows = rows_more old.logs.items new.logs.items kept rows logs same in
    record {
      bytes = bytes ∙ ap (λ xs. xs ++ rows_bytes rows) is.bytes ∙ sym (bytes_together (rows_in old) rows) ∙ sym (ap rows_bytes more);
      fit = subst (AllByRecursion (FitsRow mark.Two)) (sym more) (all_append (FitsRow mark.Two) (rows_in old) rows is.fit fit);
      costs = omega (arith, ap cost more, cost_together (rows_in old) rows, is.costs, used);
      within = within;
      entries = entries;
      room = room;
      places = places;
    }

-- How long merged rows are, and what was handed out of their body.
use Rattle.std.proofs.Common.{◌≡◌, ℕ, ◌-◌, ◌*◌, ◌≤◌, Bool, true, false, List, [], ◌∷◌, length, refl, sym, ap, subst, arith, length-append}
use Rattle.std.specs.Prelude.{flat_map}
use Rattle.std.proofs.lemmas.Nat.{mul-le}
use Rattle.std.proofs.lemmas.List.Sums.{sum_by-append}
use Rattle.log_disk.specs.Disk.{Eye}
use Rattle.fine_model.specs.declared.Header.{Header}
use Rattle.fine_model.specs.declared.NodeId.{NodeId}
use Rattle.fine_model.specs.declared.Part.{Part}
use Rattle.fine_model.specs.declared.Row.{Row}
use Rattle.fine_model.specs.Merge.{cost, merged, nodes_in}
use Rattle.fine_model.specs.Regions.{entry_bytes, index_bytes}
use Rattle.fine_model.specs.RowBytes.{row_len, rows_bytes, rows_len}
use Rattle.fine_model.proofs.Chain.Grammar.{rows_long}
use Rattle.fine_model.proofs.Merging.MergedLen.{merged_len}
use Rattle.partition_index.specs.Parts.{IsSeen, LiesIn}
use Rattle.partition_index.specs.Search.{TellsRows}
use Rattle.partition_index.proofs.BodyPlaces.{laid}
use Rattle.partition_merge.specs.Blocks.{HandedLen, MergedSmall, made_of}
use Rattle.partition_merge.proofs.Ahead.{all_made}

-- ---- the index

entry_long : (rows : List Row) (id : NodeId) → length (entry_bytes rows id) ≡ 14
unfolding entry_bytes
entry_long rows id = refl

entries_long : (rows : List Row) (ids : List NodeId) → length (flat_map (entry_bytes rows) ids) ≡ 14 * length ids
entries_long rows [] = refl
entries_long rows (id ∷ ids) = omega (arith, entries_long rows ids, entry_long rows id, length-append (entry_bytes rows id) (flat_map (entry_bytes rows) ids))

index_long : (rows : List Row) → length (index_bytes rows) ≡ 14 * length (nodes_in rows)
unfolding index_bytes
index_long rows = entries_long rows (nodes_in rows)

-- ---- what was handed out

pub handed_len : HandedLen
handed_len eye v handed a b i = omega (arith, length-append handed v.waiting, ap length i.made, most v.is_whole refl)
  where
    most : (t : Bool) → v.is_whole ≡ t → length (made_of t i.so_far) ≤ cost (merged a b)
    most true whole =
        subst (λ rows. length (made_of true i.so_far) ≤ cost rows) (sym (all_made eye v handed a b i whole))
        (omega (arith, length-append (rows_bytes i.so_far) (index_bytes i.so_far), rows_long i.so_far, index_long i.so_far))
    most false opened =
        omega (arith, rows_long i.so_far, ap rows_len i.together, sum_by-append row_len i.so_far (merged i.left_older i.left_newer))

-- ---- merged rows

area_most : (region_len : ℕ) (header : Header) → LiesIn region_len header → header.area ≤ 536870912
area_most region_len header l =
    let r = laid region_len header l in
    let small = l.small in
    let most = mul-le (header.regions - 1) (region_len - 1) 7 67108864 (omega (arith, r.few)) (omega arith) in
    omega (arith, r.room, most)

told_most : (eye : Eye) (p : Part) (rows : List Row) → IsSeen eye p → TellsRows eye p rows → rows_len rows ≤ 536870912
told_most eye p rows seen t = omega (arith, t.sealed.of_rows.2, ap (λ (h : Header). h.area) t.of_part, area_most eye.region_len p.header seen.lies)

pub merged_small : MergedSmall
merged_small eye p q a b seen_p seen_q tells_p tells_q = omega (arith, (merged_len a b).rows, told_most eye p a seen_p tells_p, told_most eye q b seen_q tells_q)

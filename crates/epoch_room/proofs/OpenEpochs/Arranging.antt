-- The open epoch's rows, arranged by node and version.
use Rattle.std.proofs.Common.{◌≡◌, ℕ, zero, suc, ◌+◌, ◌<◌, not, ◌&&◌, true, false, IsTrue, List, [], ◌∷◌, length, refl, sym, ap, ◌∙◌, subst, arith, get_or, nat_cmp, is_lt}
use Rattle.std.specs.Prelude.{IsSortedBy}
use Rattle.std.specs.Ordering.{ordering_then}
use Rattle.std.specs.Cmp.{IsTotalOrder, IsStrictWeakOrder}
use Rattle.std.proofs.lemmas.Cmp.{nat_cmp_total, on_total, then_total}
use Rattle.std.proofs.lemmas.List.MinMax.{ranks_by}
use Rattle.fine_model.specs.declared.Row.{Row}
use Rattle.fine_model.specs.Merge.{node_cmp, is_row_below, is_ordered}
use Rattle.fine_model.specs.VersionLaws.{VersionsFollow, HaveSameRows}
use Rattle.fine_model.proofs.Ordered.Arranged.{lower_law, ordered_law}
use Rattle.fine_model.proofs.Merging.NodesIn.{nodes_total}
use Rattle.fine_model.proofs.Merging.Unstable.{unstable_law}
use Rattle.node_record.specs.Keys.{IsKeyOf, AreKeysOf, is_key_below}
use Rattle.node_record.specs.declared.key.RowAt.{RowAt}
use Rattle.partition_index.specs.Index.{is_rising}
use Rattle.log_partition.proofs.Keyed.{no_key, as_many}
use Rattle.epoch_room.specs.Partition.{IsArranged}

keys_total : IsTotalOrder (λ (a b : RowAt). ordering_then (node_cmp a.node b.node) (nat_cmp a.version b.version))
keys_total = then_total (on_total (λ k. k.node) nodes_total) (on_total (λ k. k.version) nat_cmp_total)

pub keys_ranked : IsStrictWeakOrder is_key_below
keys_ranked = ranks_by keys_total (λ k. k)

-- arranged rows rise
pub rising : (rows : List Row) → IsSortedBy is_row_below rows → is_rising rows ≡ true
rising [] sorted = refl
rising (a ∷ []) sorted = refl
rising (a ∷ b ∷ rows) sorted =
    let e : (k : ℕ) → suc k + 1 ≡ suc (k + 1) = λ k. omega arith in
    ap (λ t. not t && is_rising (b ∷ rows)) (sorted 0 a (omega arith) (omega arith))
    ∙ rising (b ∷ rows) (λ k d low high. subst (λ n. is_row_below (get_or (a ∷ b ∷ rows) n d) (get_or (b ∷ rows) k d) ≡ false) (e k) (sorted (suc k) d (omega arith) (omega (arith, high))))

-- ---- rows by their keys

key_at : (bytes : List ℕ) (rows : List Row) (keys : List RowAt) (i : ℕ) (r : Row) (k : RowAt) → AreKeysOf bytes rows keys → i < length rows → IsKeyOf bytes (get_or rows i r) (get_or keys i k)
key_at bytes [] keys i r k are here = absurd (omega (arith, here))
key_at bytes (x ∷ rs) [] i r k are here = elim are [ ]
key_at bytes (x ∷ rs) (y ∷ ks) zero r k are here = are.0
key_at bytes (x ∷ rs) (y ∷ ks) (suc i) r k are here = key_at bytes rs ks i r k are.1 (omega (arith, here))

below_alike : (bytes : List ℕ) (r s : Row) (k l : RowAt) → IsKeyOf bytes r k → IsKeyOf bytes s l → is_row_below r s ≡ is_key_below k l
below_alike bytes r s k l a b i = is_lt (ordering_then (node_cmp (sym a.node i) (sym b.node i)) (nat_cmp (sym a.version i) (sym b.version i)))

-- rows whose keys are sorted are sorted
pub rows_sorted : (bytes : List ℕ) (rows : List Row) (keys : List RowAt) → AreKeysOf bytes rows keys → IsSortedBy is_key_below keys → IsSortedBy is_row_below rows
rows_sorted bytes rows keys are sorted i d low high =
    let long = as_many bytes rows keys are in
    below_alike bytes (get_or rows (i + 1) d) (get_or rows i d) (get_or keys (i + 1) no_key) (get_or keys i no_key) (key_at bytes rows keys (i + 1) d no_key are high) (key_at bytes rows keys i d no_key are (omega (arith, high)))
    ∙ sorted i no_key low (omega (arith, long, high))

-- where the versions follow, arranging the rows leaves each node its rows
pub same_rows : (before rows sorted : List Row) → VersionsFollow before rows → IsArranged rows sorted → HaveSameRows rows sorted
same_rows before rows sorted follow arranged = unstable_law before rows sorted follow arranged.permuted arranged.sorted

-- and they are in the order of a partition
pub arranged_order : (before rows sorted : List Row) → VersionsFollow before rows → IsArranged rows sorted → IsTrue (is_ordered sorted)
arranged_order before rows sorted follow arranged = ordered_law before rows sorted follow (same_rows before rows sorted follow arranged) (lower_law sorted arranged.sorted)

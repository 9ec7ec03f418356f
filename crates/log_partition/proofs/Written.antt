-- What is written, piece by piece, is the partition.
use Rattle.std.proofs.Common.{◌≡◌, ℕ, List, [], ◌++◌, ap, ◌∙◌, append_assoc}
use Rattle.fine_model.specs.declared.Header.{Header}
use Rattle.fine_model.specs.declared.Range.{Range}
use Rattle.fine_model.specs.declared.Row.{Row}
use Rattle.fine_model.specs.RowBytes.{rows_bytes}
use Rattle.fine_model.specs.Regions.{header_of, header_bytes, index_bytes, partition_bytes}

pub whole_partition : (region_len : ℕ) (range : Range) (rows : List Row) (header : Header) (empty front middle all : List ℕ) → empty ≡ [] → header ≡ header_of range rows
    → front ≡ empty ++ header_bytes region_len header → middle ≡ front ++ rows_bytes rows → all ≡ middle ++ index_bytes rows → all ≡ partition_bytes region_len range rows
unfolding partition_bytes
whole_partition region_len range rows header empty front middle all none h a b c =
    let head : List ℕ = header_bytes region_len (header_of range rows) in
    let first : front ≡ head = a ∙ ap (λ t. t ++ header_bytes region_len header) none ∙ ap (header_bytes region_len) h in
    c ∙ ap (λ t. t ++ index_bytes rows) (b ∙ ap (λ t. t ++ rows_bytes rows) first) ∙ append_assoc head (rows_bytes rows) (index_bytes rows)

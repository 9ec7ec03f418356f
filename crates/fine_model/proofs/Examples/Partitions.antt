-- Rows and partitions as bytes.
use Rattle.std.proofs.Common.{◌≡◌, ℕ, List, [], ◌∷◌, None, Ok, Err, refl, map, replicate}
use Rattle.std.specs.Prelude.{codes}
use Rattle.fine_model.specs.Types.{Row, Part}
use Rattle.fine_model.specs.Types.rec
use Rattle.fine_model.specs.Types.damage
use Rattle.fine_model.specs.Types.mark
use Rattle.fine_model.specs.RowBytes.{row_bytes, row_len, body, rows_bytes}
use Rattle.fine_model.specs.Merge.{merged, encoded_len, nodes_in, merged_node, merged_into}
use Rattle.fine_model.specs.Regions.{partition_bytes, sealed_gate, header_in, header_bytes, index_bytes, entry_bytes, bad_field, header_tests, header_at}
use Rattle.fine_model.specs.Chain.{chain_of, fault_beside, taken, longest_at}
use Rattle.fine_model.specs.Pushed.{row_of}
use Rattle.fine_model.proofs.Examples.Splits.{upper}
use Rattle.fine_model.specs.Map.{set}
use Rattle.fine_model.specs.Nodes.{content, replay, step, changed}

-- a partition with one row
pub one_row : sealed_gate ∷ partition_bytes 4194304 (record { first = 1; last = 1 }) (row_of 97 1 1 (rec.Put (codes "a") (codes "1")) ∷ [])
    ≡ 0xa7 ∷ 0x46 ∷ 0x4c ∷ 0x50 ∷ 0x32 ∷ 0x00 ∷ 0x00 ∷ 0x00 ∷ 0x00 ∷ 0x00 ∷ 0x40 ∷ 0x00 ∷ 0x00 ∷ 0x00 ∷ 0x00 ∷ 0x00 ∷ 0x00 ∷ 0x00 ∷ 0x00 ∷ 0x00 ∷ 0x01 ∷ 0x00 ∷ 0x00 ∷ 0x00 ∷ 0x00 ∷ 0x00 ∷ 0x00 ∷ 0x00 ∷ 0x01 ∷ 0x00 ∷ 0x00 ∷ 0x00 ∷ 0x01 ∷ 0x00 ∷ 0x00 ∷ 0x00 ∷ 0x01 ∷ 0x00 ∷ 0x00 ∷ 0x00 ∷ 0x18 ∷ 0x04 ∷ 0x00 ∷ 0x61 ∷ 0x00 ∷ 0x00 ∷ 0x00 ∷ 0x01 ∷ 0x00 ∷ 0x00 ∷ 0x00 ∷ 0x00 ∷ 0x00 ∷ 0x00 ∷ 0x00 ∷ 0x01 ∷ 0x00 ∷ 0x00 ∷ 0x00 ∷ 0x05 ∷ 0x01 ∷ 0x61 ∷ 0x00 ∷ 0x01 ∷ 0x31 ∷ 0x00 ∷ 0x61 ∷ 0x00 ∷ 0x00 ∷ 0x00 ∷ 0x01 ∷ 0x00 ∷ 0x00 ∷ 0x00 ∷ 0x00 ∷ 0x00 ∷ 0x00 ∷ 0x00 ∷ 0x01 ∷ []
unfolding partition_bytes header_bytes nodes_in body rows_bytes row_bytes index_bytes entry_bytes
one_row = refl

-- two puts of a node become its image
pub two_puts : merged (row_of 97 1 1 (rec.Put (codes "a") (codes "1")) ∷ []) (row_of 97 1 2 (rec.Put (codes "a") (codes "2")) ∷ [])
    ≡ row_of 97 1 2 (rec.LeafImage ((codes "a", codes "2") ∷ [])) ∷ []
unfolding merged nodes_in merged_node merged_into content replay step changed set body
two_puts = refl

pub leaf_image : row_bytes (row_of 97 1 2 (rec.LeafImage ((codes "a", codes "2") ∷ [])))
    ≡ 0x02 ∷ 0x00 ∷ 0x61 ∷ 0x00 ∷ 0x00 ∷ 0x00 ∷ 0x01 ∷ 0x00 ∷ 0x00 ∷ 0x00 ∷ 0x00 ∷ 0x00 ∷ 0x00 ∷ 0x00 ∷ 0x02 ∷ 0x00 ∷ 0x00 ∷ 0x00 ∷ 0x06 ∷ 0x01 ∷ 0x01 ∷ 0x61 ∷ 0x00 ∷ 0x01 ∷ 0x32 ∷ []
unfolding row_bytes body
leaf_image = refl

-- the rows of the first split, in their order in the partition
abbrev split : List Row
split = row_of 64 0 1 (rec.HeadImage 3 4 2) ∷ row_of 64 1 33 (rec.CutLeaf (codes "BBAaAaAaAa")) ∷ row_of 64 1 34 (rec.Put (codes "AaAaAaAaC#") (codes "1"))
    ∷ row_of 64 2 1 (rec.LeafImage upper) ∷ row_of 64 3 1 (rec.InnerImage (codes "BBAaAaAaAa" ∷ []) (1 ∷ 2 ∷ [])) ∷ []

pub split_head : row_bytes (row_of 64 0 1 (rec.HeadImage 3 4 2)) ≡ 0x01 ∷ 0x00 ∷ 0x40 ∷ 0x00 ∷ 0x00 ∷ 0x00 ∷ 0x00 ∷ 0x00 ∷ 0x00 ∷ 0x00 ∷ 0x00 ∷ 0x00 ∷ 0x00 ∷ 0x00 ∷ 0x01 ∷ 0x00 ∷ 0x00 ∷ 0x00 ∷ 0x09 ∷ 0x00 ∷ 0x00 ∷ 0x00 ∷ 0x03 ∷ 0x00 ∷ 0x00 ∷ 0x00 ∷ 0x04 ∷ 0x02 ∷ []
unfolding row_bytes body
split_head = refl

pub split_cut : row_bytes (row_of 64 1 33 (rec.CutLeaf (codes "BBAaAaAaAa"))) ≡ 0x06 ∷ 0x00 ∷ 0x40 ∷ 0x00 ∷ 0x00 ∷ 0x00 ∷ 0x01 ∷ 0x00 ∷ 0x00 ∷ 0x00 ∷ 0x00 ∷ 0x00 ∷ 0x00 ∷ 0x00 ∷ 0x21 ∷ 0x00 ∷ 0x00 ∷ 0x00 ∷ 0x0b ∷ 0x0a ∷ 0x42 ∷ 0x42 ∷ 0x41 ∷ 0x61 ∷ 0x41 ∷ 0x61 ∷ 0x41 ∷ 0x61 ∷ 0x41 ∷ 0x61 ∷ []
unfolding row_bytes body
split_cut = refl

pub split_put : row_bytes (row_of 64 1 34 (rec.Put (codes "AaAaAaAaC#") (codes "1"))) ≡ 0x04 ∷ 0x00 ∷ 0x40 ∷ 0x00 ∷ 0x00 ∷ 0x00 ∷ 0x01 ∷ 0x00 ∷ 0x00 ∷ 0x00 ∷ 0x00 ∷ 0x00 ∷ 0x00 ∷ 0x00 ∷ 0x22 ∷ 0x00 ∷ 0x00 ∷ 0x00 ∷ 0x0e ∷ 0x0a ∷ 0x41 ∷ 0x61 ∷ 0x41 ∷ 0x61 ∷ 0x41 ∷ 0x61 ∷ 0x41 ∷ 0x61 ∷ 0x43 ∷ 0x23 ∷ 0x00 ∷ 0x01 ∷ 0x31 ∷ []
unfolding row_bytes body
split_put = refl

pub split_root : row_bytes (row_of 64 3 1 (rec.InnerImage (codes "BBAaAaAaAa" ∷ []) (1 ∷ 2 ∷ []))) ≡ 0x03 ∷ 0x00 ∷ 0x40 ∷ 0x00 ∷ 0x00 ∷ 0x00 ∷ 0x03 ∷ 0x00 ∷ 0x00 ∷ 0x00 ∷ 0x00 ∷ 0x00 ∷ 0x00 ∷ 0x00 ∷ 0x01 ∷ 0x00 ∷ 0x00 ∷ 0x00 ∷ 0x14 ∷ 0x01 ∷ 0x00 ∷ 0x00 ∷ 0x00 ∷ 0x01 ∷ 0x00 ∷ 0x00 ∷ 0x00 ∷ 0x02 ∷ 0x0a ∷ 0x42 ∷ 0x42 ∷ 0x41 ∷ 0x61 ∷ 0x41 ∷ 0x61 ∷ 0x41 ∷ 0x61 ∷ 0x41 ∷ 0x61 ∷ []
unfolding row_bytes body
split_root = refl

pub split_lens : map row_len split ≡ 28 ∷ 30 ∷ 33 ∷ 244 ∷ 39 ∷ []
unfolding body
split_lens = refl

pub split_len : encoded_len split ≡ 471
unfolding body nodes_in
split_len = refl

-- parts without rows
abbrev part : ℕ → ℕ → ℕ → Part
part region first last = record { region = region; header = record { mark = mark.Two; range = record { first = first; last = last }; rows = 0; nodes = 0; area = 0; regions = 1; more = replicate 7 0 } }

pub longest_first : chain_of (part 0 1 2 ∷ part 1 1 3 ∷ part 2 1 6 ∷ []) ≡ Ok (part 2 1 6 ∷ [])
unfolding chain_of fault_beside taken longest_at
longest_first = refl

pub overlap : chain_of (part 0 1 3 ∷ part 1 2 5 ∷ []) ≡ Err (damage.Overlap 1 0)
unfolding chain_of fault_beside taken longest_at
overlap = refl

pub gap : chain_of (part 0 1 3 ∷ part 1 5 5 ∷ []) ≡ Err (damage.Gap 3 1)
unfolding chain_of fault_beside taken longest_at
gap = refl

pub in_a_row : chain_of (part 0 3 3 ∷ part 2 1 2 ∷ []) ≡ Ok (part 2 1 2 ∷ part 0 3 3 ∷ [])
unfolding chain_of fault_beside taken longest_at
in_a_row = refl

-- another mark, and a closed gate
pub other_mark : header_in 4096 8 0 (0xa7 ∷ codes "FLPX") ≡ Err 1
unfolding header_in bad_field header_tests header_at
other_mark = refl

pub closed_gate : header_in 4096 8 0 (0x37 ∷ codes "FLP1") ≡ Ok None
unfolding header_in
closed_gate = refl

-- Worked examples at the limits.
use Rattle.std.proofs.Common.{◌≡◌, ℕ, List, [], ◌∷◌, ◌++◌, Some, None, Ok, Err, refl, map, replicate}
use Rattle.std.specs.Prelude.{codes, Option}
use Rattle.std.specs.Fmt.{digits}
use Rattle.std.specs.List.{range_with_len}
use Rattle.fine_model.specs.Types.{NodeId, Row}
use Rattle.fine_model.specs.Types.rec
use Rattle.fine_model.specs.Types.why
use Rattle.fine_model.specs.Types.call
use Rattle.fine_model.specs.Types.ending
use Rattle.fine_model.specs.Map.{set, unset, get, between}
use Rattle.fine_model.specs.RowBytes.{body, greatest}
use Rattle.fine_model.specs.Nodes.{changed, step, replay, content}
use Rattle.fine_model.specs.Trees.{bucket_of, tree_map, pairs_under}
use Rattle.fine_model.specs.Pushed.{row_of, within_limits, push_of, call_push, set_push, growth, grown_leaf, split_leaf, grown_inner, with_head}
use Rattle.fine_model.specs.Merge.{cost, encoded_len, nodes_in}
use lib.Count.{count_leading_zeros}
use Rattle.fine_model.specs.Seek.{most_taken}
use Rattle.fine_model.specs.Paths.{first_unfit, unfit_under, unfit_from, first_unfit_between, unfit_between, scan_from}
use Rattle.fine_model.specs.Script.{script_of, script_from, lines, line_added, meaning, pieces, without_return, said, bad_line}
use Rattle.fine_model.proofs.Examples.Splits.{keys}

-- a put of a key with one byte and a value with 256, on a leaf
abbrev pub long_put : ℕ → Row
long_put bucket = row_of bucket 1 1 (rec.Put (bucket ∷ []) (replicate 256 118))

-- eight such puts in eight buckets, and sixteen
pub cost_of_eight : cost (map long_put (range_with_len 97 8)) ≡ 2344
unfolding body nodes_in
cost_of_eight = refl

pub len_of_sixteen : encoded_len (map long_put (range_with_len 97 16)) ≡ 4729
unfolding body nodes_in
len_of_sixteen = refl

-- a key of 64 bytes and a value of 256 are read, and one byte more is not
pub longest_put : script_of (codes "txn 1" ++ 10 ∷ codes "put " ++ replicate 64 107 ++ 32 ∷ replicate 256 118 ++ 10 ∷ codes "commit")
    ≡ Ok (record { lane = 1; calls = call.Put (replicate 64 107) (replicate 256 118) ∷ []; ending = ending.Commit } ∷ [])
unfolding script_of script_from lines line_added meaning pieces without_return said digits
longest_put = refl

pub long_key : script_of (codes "txn 1" ++ 10 ∷ codes "put " ++ replicate 65 107 ++ 32 ∷ replicate 256 118 ++ 10 ∷ codes "commit") ≡ Err (bad_line 2)
unfolding script_of script_from lines line_added meaning pieces without_return said digits
long_key = refl

pub long_value : script_of (codes "txn 1" ++ 10 ∷ codes "put " ++ replicate 64 107 ++ 32 ∷ replicate 257 118 ++ 10 ∷ codes "commit") ≡ Err (bad_line 2)
unfolding script_of script_from lines line_added meaning pieces without_return said digits
long_value = refl

-- a bucket whose numbers are used up, with a full leaf
abbrev full_bucket : List Row
full_bucket = row_of 64 0 1 (rec.HeadImage 1 1048576 1) ∷ row_of 64 1 1 (rec.LeafImage (map (λ k. (k, codes "1")) keys)) ∷ []

pub no_numbers : within_limits (push_of full_bucket (call.Put (codes "AaAaAaAaC#") (codes "1"))) ≡ Err why.Bucket
unfolding bucket_of set get changed step replay content within_limits push_of call_push set_push growth grown_leaf split_leaf grown_inner with_head
no_numbers = refl

-- a version at its end
pub no_versions : within_limits (push_of (row_of 97 1 greatest (rec.LeafImage []) ∷ []) (call.Put (codes "a") (codes "1"))) ≡ Err why.Number
unfolding bucket_of set get changed step replay content within_limits push_of call_push set_push growth grown_leaf split_leaf grown_inner with_head
no_versions = refl

-- a head that says depth 2 over a leaf
pub leaf_too_high : first_unfit (row_of 97 0 1 (rec.HeadImage 1 2 2) ∷ []) (codes "a") ≡ Some (record { bucket = 97; number = 1 })
unfolding bucket_of changed step replay content unfit_under unfit_from
leaf_too_high = refl

pub nothing_unfit : first_unfit full_bucket (codes "AaAaAaAaC#") ≡ None
unfolding bucket_of changed step replay content unfit_under unfit_from
nothing_unfit = refl

-- a scan finds the same, and looks at nothing where it wants nothing
pub scan_too_high : first_unfit_between (row_of 97 0 1 (rec.HeadImage 1 2 2) ∷ []) 97 (codes "a") (codes "z") 5 ≡ Some (record { bucket = 97; number = 1 })
unfolding bucket_of changed step replay content unfit_between scan_from
scan_too_high = refl

pub scan_of_none : first_unfit_between (row_of 97 0 1 (rec.HeadImage 1 2 2) ∷ []) 97 (codes "a") (codes "z") 0 ≡ None
unfolding bucket_of changed step replay content unfit_between scan_from
scan_of_none = refl

-- a tree of depth 2 whose second leaf is no leaf: a scan meets it that goes behind the separator, and still wants pairs there
abbrev half_tree : List Row
half_tree =
    row_of 97 0 1 (rec.HeadImage 3 4 2) ∷ row_of 97 1 1 (rec.LeafImage ((codes "a", codes "1") ∷ []))
    ∷ row_of 97 2 1 (rec.InnerImage [] (1 ∷ [])) ∷ row_of 97 3 1 (rec.InnerImage (codes "b" ∷ []) (1 ∷ 2 ∷ [])) ∷ []

abbrev scan_of_half : List ℕ → ℕ → Option NodeId
scan_of_half high limit = first_unfit_between half_tree 97 (codes "a") high limit

pub scans_of_half : scan_of_half (codes "b") 5 ∷ scan_of_half (codes "c") 1 ∷ scan_of_half (codes "c") 2 ∷ [] ≡ None ∷ None ∷ Some (record { bucket = 97; number = 2 }) ∷ []
unfolding bucket_of changed step replay content unfit_between scan_from between
scans_of_half = refl

-- the pairs of a tree after two puts of a key and a deletion of another
pub pairs_of_tree : tree_map (row_of 97 1 1 (rec.Put (codes "a") (codes "1")) ∷ row_of 97 1 2 (rec.Put (codes "a") (codes "2")) ∷ row_of 97 1 3 (rec.Del (codes "b")) ∷ []) 97 ≡ (codes "a", codes "2") ∷ []
unfolding tree_map pairs_under changed step replay content set unset
pairs_of_tree = refl

-- a look into an index of no, 4, 5, 8 and 1000 entries
pub looks : map most_taken (0 ∷ 4 ∷ 5 ∷ 8 ∷ 1000 ∷ []) ≡ 14 ∷ 56 ∷ 56 ∷ 70 ∷ 154 ∷ []
unfolding count_leading_zeros
looks = refl

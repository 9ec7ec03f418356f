-- The path of a key, or of a range of keys, from the head of a tree down, and the first node on it that is not fit.
use Rattle.std.specs.Prelude.{ℕ, zero, suc, ◌+◌, ◌-◌, ◌==◌, nat_lt, nat_le, Bool, false, ◌&&◌, if◌then◌else◌, List, [], ◌∷◌, length, filter, not, slice_get, slice_index, Option, Some, None, option_map, Result, Ok, Err}
use Rattle.std.specs.List.{list_all}
use Rattle.fine_model.specs.Types.{NodeId, Node, Row}
use Rattle.fine_model.specs.Types.node
use Rattle.fine_model.specs.Map.{is_below, between}
use Rattle.fine_model.specs.Nodes.{Content}
use Rattle.fine_model.specs.Trees.{Bounds, whole, is_above, is_up_to, is_leaf, are_separators, nodes_of, bucket_of, kids_of, pairs_of}

-- an inner node as its own content shows it: separators in order within the bounds, one child more, each below next
abbrev pub is_inner : Bounds → ℕ → Node → Bool
is_inner bounds next (node.Inner seps kids) =
    are_separators bounds seps && (length kids == length seps + 1) && list_all (λ kid. nat_lt kid next) kids
is_inner bounds next _ = false

-- the place among separators in whose child a key belongs
abbrev pub place_among : List ℕ → List (List ℕ) → ℕ
place_among key seps = length (filter (λ sep. not (is_below key sep)) seps)

-- the bounds of the child at a place
abbrev pub bounds_at : Bounds → List (List ℕ) → ℕ → Bounds
bounds_at bounds seps zero = record { low = bounds.low; high = or_else (slice_get seps zero) bounds.high }
  where
    or_else : Option (List ℕ) → Option (List ℕ) → Option (List ℕ)
    or_else None b = b
    or_else (Some a) b = Some a
bounds_at bounds seps (suc i) = record { low = slice_get seps i; high = or_else (slice_get seps (suc i)) bounds.high }
  where
    or_else : Option (List ℕ) → Option (List ℕ) → Option (List ℕ)
    or_else None b = b
    or_else (Some a) b = Some a

-- the separators of an inner node
abbrev pub seps_of : Node → List (List ℕ)
seps_of (node.Inner seps kids) = seps
seps_of _ = []

-- the child at a place
abbrev pub kid_at : Node → ℕ → ℕ
kid_at (node.Inner seps kids) i = slice_index kids i
kid_at _ i = 0

-- the first node on a key's path from a number down that is not fit
unfoldable pub unfit_from : ℕ → ℕ → (ℕ → Content) → ℕ → List ℕ → Bounds → ℕ → Option ℕ
unfit_from zero bucket nodes next key bounds number = if is_leaf bucket bounds (nodes number).0 then None else Some number
unfit_from (suc height) bucket nodes next key bounds number =
    if is_inner bounds next (nodes number).0
    then unfit_from height bucket nodes next key (bounds_at bounds (seps_of (nodes number).0) (place_among key (seps_of (nodes number).0))) (kid_at (nodes number).0 (place_among key (seps_of (nodes number).0)))
    else Some number

-- the first number on a key's path that is not fit, from the head on
unfoldable pub unfit_under : ℕ → (ℕ → Content) → List ℕ → Node → Option ℕ
unfit_under bucket nodes key (node.Head root next depth) =
    if nat_lt root next && nat_le 1 depth then unfit_from (depth - 1) bucket nodes next key whole root else Some 0
unfit_under bucket nodes key _ = Some 0

-- the first node on a key's path that is not fit, from the head of its bucket down
abbrev pub first_unfit : List Row → List ℕ → Option NodeId
first_unfit rows key =
    option_map (λ number. record { bucket = bucket_of key; number = number }) (unfit_under (bucket_of key) (nodes_of rows (bucket_of key)) key (nodes_of rows (bucket_of key) 0).0)

-- a child holds keys of a range from low on and below high
abbrev pub meets : List ℕ → List ℕ → Bounds → Bool
meets low high bounds = is_up_to bounds.high low && is_above bounds.low high

-- What a scan makes of the children of a node, from the left: how many pairs it still wants, or the first number that is not
-- fit. It looks at the children that hold keys of its range, as long as it wants more.
abbrev pub scan_kids : (Bounds → ℕ → ℕ → Result ℕ ℕ) → List ℕ → List ℕ → Bounds → List (List ℕ) → List ℕ → ℕ → Result ℕ ℕ
scan_kids below low high bounds seps [] wanted = Ok wanted
scan_kids below low high bounds [] (kid ∷ kids) wanted = if meets low high bounds && not (wanted == 0) then below bounds kid wanted else Ok wanted
scan_kids below low high bounds (sep ∷ seps) (kid ∷ kids) wanted =
    go_on (if meets low high (record { low = bounds.low; high = Some sep }) && not (wanted == 0) then below (record { low = bounds.low; high = Some sep }) kid wanted else Ok wanted)
    (scan_kids below low high (record { low = Some sep; high = bounds.high }) seps kids)
  where
    go_on : Result ℕ ℕ → (ℕ → Result ℕ ℕ) → Result ℕ ℕ
    go_on (Err number) rest = Err number
    go_on (Ok left) rest = rest left

-- what a scan makes of a subtree, each node before its children
unfoldable pub scan_from : ℕ → ℕ → (ℕ → Content) → ℕ → List ℕ → List ℕ → Bounds → ℕ → ℕ → Result ℕ ℕ
scan_from zero bucket nodes next low high bounds number wanted =
    if is_leaf bucket bounds (nodes number).0 then Ok (wanted - length (between low high (pairs_of (nodes number).0))) else Err number
scan_from (suc height) bucket nodes next low high bounds number wanted =
    if is_inner bounds next (nodes number).0
    then scan_kids (scan_from height bucket nodes next low high) low high bounds (seps_of (nodes number).0) (kids_of (nodes number).0) wanted
    else Err number

-- A scan of an empty range, or of no pairs, looks at the head alone.
unfoldable pub unfit_between : ℕ → (ℕ → Content) → List ℕ → List ℕ → ℕ → Node → Option ℕ
unfit_between bucket nodes low high limit (node.Head root next depth) =
    if nat_lt root next && nat_le 1 depth
    then (if is_below low high && not (limit == 0) then of_scan (scan_from (depth - 1) bucket nodes next low high whole root limit) else None)
    else Some 0
  where
    of_scan : Result ℕ ℕ → Option ℕ
    of_scan (Ok left) = None
    of_scan (Err number) = Some number
unfit_between bucket nodes low high limit _ = Some 0

-- the first node that is not fit on the path of a scan of a bucket, from its head down and from the left
abbrev pub first_unfit_between : List Row → ℕ → List ℕ → List ℕ → ℕ → Option NodeId
first_unfit_between rows bucket low high limit =
    option_map (λ number. record { bucket = bucket; number = number }) (unfit_between bucket (nodes_of rows bucket) low high limit (nodes_of rows bucket 0).0)

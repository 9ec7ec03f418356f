-- The numbers that a scan visits, in its order.
use Rattle.std.specs.Prelude.{ℕ, zero, suc, ◌-◌, ◌==◌, nat_lt, nat_le, ◌&&◌, not, if◌then◌else◌, List, [], ◌∷◌, ◌++◌, Some, Result, Ok, Err}
use Rattle.fine_model.specs.declared.Node.{Node}
use Rattle.fine_model.specs.declared.Node.TheVariants as node
use Rattle.fine_model.specs.Map.{is_below}
use Rattle.fine_model.specs.Nodes.{Content}
use Rattle.fine_model.specs.Paths.{is_inner, meets, scan_from, seps_of}
use Rattle.fine_model.specs.Trees.{Bounds, whole, kids_of}
use Rattle.node_cache.specs.Cache.{Cache}
use Rattle.node_cache.specs.Given.{given}
use Rattle.btree_nodes.specs.Trees.{LoadsAmong}

-- What a scan visits of the children of a node, from left to right: those that hold keys of its range, each before what lies below it,
-- as long as it wants more pairs and meets no node that is not fit.
abbrev pub visited_kids : (Bounds → ℕ → ℕ → Result ℕ ℕ) → (Bounds → ℕ → ℕ → List ℕ) → List ℕ → List ℕ → Bounds → List (List ℕ) → List ℕ → ℕ → List ℕ
visited_kids below visits low high bounds seps [] wanted = []
visited_kids below visits low high bounds [] (kid ∷ kids) wanted = if meets low high bounds && not (wanted == 0) then visits bounds kid wanted else []
visited_kids below visits low high bounds (sep ∷ seps) (kid ∷ kids) wanted =
    (if meets low high (record { low = bounds.low; high = Some sep }) && not (wanted == 0) then visits (record { low = bounds.low; high = Some sep }) kid wanted else [])
    ++ go_on (if meets low high (record { low = bounds.low; high = Some sep }) && not (wanted == 0) then below (record { low = bounds.low; high = Some sep }) kid wanted else Ok wanted)
    (visited_kids below visits low high (record { low = Some sep; high = bounds.high }) seps kids)
  where
    go_on : Result ℕ ℕ → (ℕ → List ℕ) → List ℕ
    go_on (Err number) rest = []
    go_on (Ok left) rest = rest left

-- what it visits of a subtree
unfoldable pub visited_from : ℕ → ℕ → (ℕ → Content) → ℕ → List ℕ → List ℕ → Bounds → ℕ → ℕ → List ℕ
visited_from zero bucket nodes next low high bounds number wanted = number ∷ []
visited_from (suc height) bucket nodes next low high bounds number wanted =
    number ∷ (if is_inner bounds next (nodes number).0
    then visited_kids (scan_from height bucket nodes next low high) (visited_from height bucket nodes next low high) low high bounds (seps_of (nodes number).0) (kids_of (nodes number).0) wanted
    else [])

-- and from a head down: where the range is empty, or no pair is wanted, the head alone
unfoldable pub visited_between : ℕ → (ℕ → Content) → List ℕ → List ℕ → ℕ → Node → List ℕ
visited_between bucket nodes low high limit (node.Head root next depth) =
    0 ∷ (if (nat_lt root next && nat_le 1 depth) && (is_below low high && not (limit == 0))
    then visited_from (depth - 1) bucket nodes next low high whole root limit
    else [])
visited_between bucket nodes low high limit _ = 0 ∷ []

-- the same by what a bucket gives
abbrev pub walk_in : Cache → List ℕ → List ℕ → ℕ → List ℕ
walk_in b low high limit = visited_between b.bucket (given b) low high limit (given b 0).0

-- what was loaded is what a scan of a range visits
abbrev pub LoadsOnWalk : Cache → Cache → List ℕ → List ℕ → ℕ → Type 0
LoadsOnWalk old new low high limit = LoadsAmong old new (walk_in new low high limit)

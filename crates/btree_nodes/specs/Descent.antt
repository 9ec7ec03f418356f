-- The way from a node down to the leaf in which a key belongs.
use Rattle.std.specs.Prelude.{◌≡◌, ℕ, ◌-◌, ◌==◌, nat_lt, if◌then◌else◌, ◌<◌, true, List, Option, Some, None, slice_get, IfSome}
use Rattle.fine_model.specs.declared.Node.{Node}
use Rattle.fine_model.specs.Nodes.{Content}
use Rattle.fine_model.specs.Paths.{is_inner, place_among, bounds_at, seps_of, kid_at}
use Rattle.fine_model.specs.Trees.{Bounds}
use Rattle.node_cache.specs.Cache.{Cache}
use Rattle.btree_nodes.specs.declared.descent.Sep.{Sep}
use Rattle.btree_nodes.specs.declared.descent.Step.{Step}
use Rattle.node_cache.specs.Given.{IsCached}

-- the separator at a place, which bounds a subtree; no place is no bound
abbrev pub bound_at : (ℕ → Content) → Option Sep → Option (List ℕ)
bound_at nodes None = None
bound_at nodes (Some sep) = slice_get (seps_of (nodes sep.number).0) sep.place

abbrev pub bounds_by : (ℕ → Content) → Option Sep → Option Sep → Bounds
bounds_by nodes low high = record { low = bound_at nodes low; high = bound_at nodes high }

-- the nodes whose separators bound a subtree are cached
abbrev pub AreKept : Cache → Option Sep → Type 0
AreKept b sep = IfSome sep (λ at. IsCached b at.number)

-- the bounds of the child at a place of a node's separators
abbrev pub low_of : ℕ → ℕ → Option Sep → Option Sep
low_of number place low =
    if place == 0 then low else Some (record { number = number; place = place - 1 })

abbrev pub high_of : ℕ → ℕ → ℕ → Option Sep → Option Sep
high_of number place many high =
    if nat_lt place many then Some (record { number = number; place = place }) else high

-- one step down: the child in which the key belongs, and its bounds
pub record IsStep (nodes : ℕ → Content) (next : ℕ) (key : List ℕ) (bounds : Bounds) (n : Node) (step : Step) : Type 0 where
  pub good : is_inner bounds next n ≡ true
  pub number : step.number ≡ kid_at n (place_among key (seps_of n))
  pub small : step.number < next
  pub within : bounds_by nodes step.low step.high ≡ bounds_at bounds (seps_of n) (place_among key (seps_of n))

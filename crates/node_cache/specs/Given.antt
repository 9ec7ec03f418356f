-- What a bucket gives, and what loads from a source leave in it.
use Rattle.std.specs.Prelude.{◌≡◌, ◌≢◌, ℕ, List, None, option_map, unwrap_or, IsSome, IfSome, Result, Ok, Err, ◌⊎◌, [], ◌∷◌, ◌++◌}
use Rattle.fine_model.specs.declared.FetchFault.{FetchFault}
use Rattle.fine_model.specs.declared.FetchFault.TheVariants as fetch_fault
use Rattle.fine_model.specs.declared.NodeId.{NodeId}
use Rattle.fine_model.specs.declared.Row.{Row}
use Rattle.fine_model.specs.declared.Node.TheVariants as node
use Rattle.fine_model.specs.Nodes.{Content}
use Rattle.fine_model.specs.Trees.{nodes_of}
use Rattle.node_cache.specs.declared.cached.Cached.{Cached}
use Rattle.node_cache.specs.Cache.{Cache, cached}

-- the content of each node as the bucket has it; where it has none, a broken one
unfoldable pub given : Cache → ℕ → Content
given b n = unwrap_or (option_map (λ kept. (kept.node, kept.version)) (cached b n)) (node.Broken, 0)

-- a node is cached
abbrev pub IsCached : Cache → ℕ → Type 0
IsCached b n = IsSome (cached b n)

-- the contents of nodes that a source may find
abbrev pub Finds : Type 1
Finds = NodeId → Content → Type 0

-- a node as a source gives it: a content that it finds, and what each list of rows that the source tells leaves there, a broken node included
pub record IsFetched (tells : List Row → Type 0) (finds : Finds) (upper bucket number : ℕ) (kept : Cached) : Type 0 where
  pub epoch : kept.epoch ≡ upper
  pub found : finds (record { bucket = bucket; number = number }) (kept.node, kept.version)
  pub same : (rows : List Row) → tells rows → (kept.node, kept.version) ≡ nodes_of rows bucket number

-- A bucket before and after a load of a number: nothing is changed but that this node may be cached then, as the source gives it.
pub record IsLoad (tells : List Row → Type 0) (finds : Finds) (upper number : ℕ) (old new : Cache) : Type 0 where
  pub bucket : new.bucket ≡ old.bucket
  pub saved : new.saved ≡ old.saved
  pub others : (n : ℕ) → n ≢ number → cached new n ≡ cached old n
  pub stays : IsCached old number → cached new number ≡ cached old number
  pub fetched : cached old number ≡ None → IfSome (cached new number) (IsFetched tells finds upper old.bucket number)
  -- a node that is loaded is the last used, and the others stay in their order
  pub order : (new.nodes ≡ old.nodes) ⊎ ((kept : Cached) × (new.nodes ≡ old.nodes ++ (number, kept) ∷ []))

-- A bucket before and after loads: each node that was cached stays as it was, each other one is as the source gives it.
pub record IsLoaded (tells : List Row → Type 0) (finds : Finds) (upper : ℕ) (old new : Cache) : Type 0 where
  pub bucket : new.bucket ≡ old.bucket
  pub saved : new.saved ≡ old.saved
  pub stays : (n : ℕ) → IsCached old n → cached new n ≡ cached old n
  pub fetched : (n : ℕ) → cached old n ≡ None → IfSome (cached new n) (IsFetched tells finds upper old.bucket n)

-- the same nodes are cached
abbrev pub SameNodes : Cache → Cache → Type 0
SameNodes old new = (n : ℕ) → cached new n ≡ cached old n

-- with every fault but a failure and want of memory: a bad row or a bad index is no failure
abbrev pub OnCleanFault : FetchFault → Type 0 → Type 0
OnCleanFault fetch_fault.Failed P = Unit {0}
OnCleanFault fetch_fault.NoMemory P = Unit {0}
OnCleanFault _ P = P

-- and with a load that went well
abbrev pub OnCleanLoad : {A : Type 0} → Result A FetchFault → Type 0 → Type 0
OnCleanLoad (Ok a) P = P
OnCleanLoad (Err fault) P = OnCleanFault fault P

-- What a scan gathers bucket by bucket.
use Rattle.std.specs.Prelude.{◌≡◌, ◌⊎◌, ℕ, List, [], take}
use Rattle.fine_model.specs.declared.Call.{Call}
use Rattle.fine_model.specs.declared.Call.TheVariants as call
use Rattle.fine_model.specs.declared.Reply.TheVariants as reply
use Rattle.fine_model.specs.Map.{Pair}
use Rattle.fine_model.specs.ScanLaws.{IsSorted}
use Rattle.node_cache.specs.Cache.{Cache}
use Rattle.btree_nodes.specs.Calls.{IsFoundBetween}
use Rattle.txn_draft.specs.Drafts.{DraftValue, noted}

-- the pairs so far, and how many buckets were gone through
pub record ScanValue : Type 0 where
  pub pairs : List Pair
  pub next : ℕ

-- the first pairs in the order of their keys
pub record IsFirst (limit : ℕ) (pairs first : List Pair) : Type 0 where
  pub found : List Pair
  pub sorted : IsSorted pairs found
  pub is : first ≡ take limit found

-- all of them, or the first ones
abbrev pub IsCut : ℕ → List Pair → List Pair → Type 0
IsCut limit pairs left = (left ≡ pairs) ⊎ IsFirst limit pairs left

-- how many pairs a call wants
abbrev pub limit_of : Call → ℕ
limit_of (call.Scan low high limit) = limit
limit_of _ = 0

-- the first pairs of a range in a bucket are put behind those so far, and then maybe the first ones of all are kept alone
pub record IsGathered (b : Cache) (low high : List ℕ) (limit : ℕ) (old new : List Pair) : Type 0 where
  pub longer : List Pair
  pub found : IsFoundBetween b low high limit old longer
  pub cut : IsCut limit longer new

-- a scan stands behind the calls that were kept, with the first pairs that it wants
pub record KeepsFound (c : Call) (pairs : List Pair) (old new : DraftValue) : Type 0 where
  pub first : List Pair
  pub is_first : IsFirst (limit_of c) pairs first
  pub is : new ≡ noted old c (reply.Found first) []

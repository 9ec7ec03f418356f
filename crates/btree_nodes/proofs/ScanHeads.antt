-- A scan from the head of a tree on.
use Rattle.std.proofs.Common.{◌≡◌, ◌≢◌, ne_eqb, ℕ, ◌-◌, ◌==◌, nat_lt, nat_le, Bool, true, false, ◌&&◌, not, List, ◌++◌, take, Option, Some, None, Result, Ok, Err, is_some, refl, sym, ap, ◌∙◌, true≢false, append-nil, lt-ltb, le-leb}
use Rattle.fine_model.specs.declared.FetchFault.{FetchFault}
use Rattle.fine_model.specs.declared.Node.{Node}
use Rattle.fine_model.specs.declared.Node.TheVariants as node
use Rattle.fine_model.specs.Map.{Pair, is_below, between}
use Rattle.fine_model.specs.Nodes.{Content}
use Rattle.fine_model.specs.Paths.{scan_from, unfit_between}
use Rattle.fine_model.specs.Trees.{whole}
use Rattle.node_cache.specs.Cache.{Cache}
use Rattle.btree_nodes.specs.declared.fault.TreeFault.{TreeFault}
use Rattle.btree_nodes.specs.declared.fault.TreeFault.TheVariants.{Source, Unfit, BucketFull, Number, NoMemory}
use Rattle.btree_nodes.specs.Faults.{OnFault}
use Rattle.node_cache.specs.Given.{given, IsCached}
use Rattle.btree_nodes.specs.Trees.{HeadIs, pairs_met, pairs_between}
use Rattle.btree_nodes.specs.Scans.{IsScanned, ScansFrom}
use Rattle.btree_nodes.specs.Calls.{IsFirstUnfitBetween, IsFoundBetween}
use Rattle.btree_nodes.proofs.Paths.{SaysHead, not_lower}
use Rattle.btree_nodes.proofs.Takes.{none_taken}

-- a range that is not empty, of which some pairs are wanted
pub is_wanted : (low high : List ℕ) (limit : ℕ) → is_below low high ≡ true → limit ≢ 0 → (is_below low high && not (limit == 0)) ≡ true
is_wanted low high limit below some = λ i. below i && not (ne_eqb limit 0 some i)

module _ (bucket : ℕ) (nodes : ℕ → Content) (low high : List ℕ) (limit root next depth : ℕ) where
  abbrev pub Opens : Type 0
  Opens = (nat_lt root next && nat_le 1 depth) ≡ true

  abbrev pub scanned : Result ℕ ℕ
  scanned = scan_from (depth - 1) bucket nodes next low high whole root limit

  abbrev pub wants : Bool
  wants = is_below low high && not (limit == 0)

  abbrev pub unfit : Option ℕ
  unfit = unfit_between bucket nodes low high limit (node.Head root next depth)

  pub opens_or_not : Opens → wants ≡ false → unfit ≡ None
  unfolding unfit_between
  opens_or_not head none = rw (head, none) refl

  pub fit_through : Opens → wants ≡ true → (left : ℕ) → scanned ≡ Ok left → unfit ≡ None
  unfolding unfit_between
  fit_through head some left is = rw (head, some, is) refl

  pub unfit_at : Opens → wants ≡ true → (n : ℕ) → scanned ≡ Err n → unfit ≡ Some n
  unfolding unfit_between
  unfit_at head some n is = rw (head, some, is) refl

  closed : (nat_lt root next && nat_le 1 depth) ≡ false → unfit ≡ Some 0
  unfolding unfit_between
  closed shut = rw shut refl

  pub opened : unfit ≡ None → Opens
  opened fit = by (nat_lt root next && nat_le 1 depth) refl
    where
      by : (t : Bool) → (nat_lt root next && nat_le 1 depth) ≡ t → (nat_lt root next && nat_le 1 depth) ≡ true
      by true e = e
      by false e = absurd (true≢false (sym (ap is_some (closed e)) ∙ ap is_some fit))

  pub goes_through : Opens → wants ≡ true → unfit ≡ None → (left : ℕ) × (scanned ≡ Ok left)
  goes_through head some fit = by scanned refl
    where
      by : (r : Result ℕ ℕ) → scanned ≡ r → (left : ℕ) × (scanned ≡ Ok left)
      by (Ok left) e = (left, e)
      by (Err n) e = absurd (true≢false (sym (ap is_some (unfit_at head some n e)) ∙ ap is_some fit))

-- a node that is no head, or whose root is not below next
pub no_head : (bucket : ℕ) (nodes : ℕ → Content) (low high : List ℕ) (limit : ℕ) (n : Node) → HeadIs n None → unfit_between bucket nodes low high limit n ≡ Some 0
unfolding unfit_between
no_head bucket nodes low high limit (node.Head root next depth) is = rw (not_lower root next is) refl
no_head bucket nodes low high limit (node.Leaf pairs) is = refl
no_head bucket nodes low high limit (node.Inner seps kids) is = refl
no_head bucket nodes low high limit node.Broken is = refl

module _ (b : Cache) (low high : List ℕ) (limit root next depth : ℕ) (says : SaysHead (given b 0).0 root next depth) where
  pub open_head : Opens b.bucket (given b) low high limit root next depth
  open_head = (λ i. lt-ltb root next says.below i && le-leb 1 depth says.deep.0 i)

module _ (b : Cache) (low high : List ℕ) (limit root next depth : ℕ) (here : IsCached b 0) (says : SaysHead (given b 0).0 root next depth) where
  from_head : unfit_between b.bucket (given b) low high limit (given b 0).0 ≡ unfit b.bucket (given b) low high limit root next depth
  from_head = ap (unfit_between b.bucket (given b) low high limit) says.is

  pairs_from_head : pairs_between (given b) low high (given b 0).0 ≡ between low high (pairs_met (depth - 1) (given b) low high whole root)
  unfolding pairs_between
  pairs_from_head = ap (pairs_between (given b) low high) says.is

  -- nothing is wanted
  pub found_none : (old : List Pair) → wants b.bucket (given b) low high limit root next depth ≡ false → IsFoundBetween b low high limit old old
  found_none old none = record {
    here = here;
    fit = from_head ∙ opens_or_not b.bucket (given b) low high limit root next depth (open_head b low high limit root next depth says) none;
    behind = sym (append-nil old) ∙ ap (λ (xs : List Pair). old ++ xs) (sym (ap (take limit) pairs_from_head ∙ none_taken low high limit (pairs_met (depth - 1) (given b) low high whole root) none));
  }

  pub found_all : (left : ℕ) (old new : List Pair) → wants b.bucket (given b) low high limit root next depth ≡ true → IsScanned b (depth - 1) next low high whole root limit left old new → IsFoundBetween b low high limit old new
  found_all left old new some scan = record {
    here = here;
    fit = from_head ∙ fit_through b.bucket (given b) low high limit root next depth (open_head b low high limit root next depth says) some left scan.fit;
    behind = scan.taken.is ∙ ap (λ (xs : List Pair). old ++ take limit xs) (sym pairs_from_head);
  }

  pub fault_of_scan : (old new : List Pair) (F G : FetchFault → Type 0) → ((f : FetchFault) → F f → G f) → wants b.bucket (given b) low high limit root next depth ≡ true → (e : TreeFault)
      → ScansFrom b (depth - 1) next low high whole root limit old new F (Err e) → OnFault e G (IsFirstUnfitBetween b low high limit) (Unit {0})
  fault_of_scan old new F G on some (Source f) h = on f h
  fault_of_scan old new F G on some (Unfit id) h = record { of_bucket = h.of_bucket; first = from_head ∙ unfit_at b.bucket (given b) low high limit root next depth (open_head b low high limit root next depth says) some id.number h.first; there = h.there }
  fault_of_scan old new F G on some (BucketFull m d) h = h
  fault_of_scan old new F G on some (Number id) h = h
  fault_of_scan old new F G on some NoMemory h = tt

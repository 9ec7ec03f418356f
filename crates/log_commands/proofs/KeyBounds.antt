-- Keys of the format lie between the empty key and bytes that stand behind every key.
use Rattle.std.proofs.Common.{◌≡◌, ℕ, ◌≤◌, Bool, true, false, cond, not, ◌&&◌, List, [], ◌∷◌, length, refl, arith}
use Rattle.std.specs.List.{AllByRecursion}
use Rattle.std.proofs.lemmas.Bool.{and_parts}
use Rattle.fine_model.specs.declared.Node.{Node}
use Rattle.fine_model.specs.declared.Node.TheVariants as node
use Rattle.fine_model.specs.BoundLaws.{FitsNode}
use Rattle.fine_model.specs.Map.{Pair, is_below, between}
use Rattle.fine_model.specs.Paths.{seps_of}
use Rattle.fine_model.specs.RowBytes.{FitsKey, FitsPair}
use Rattle.fine_model.specs.ScanLaws.{AreBytes}
use Rattle.fine_model.specs.Trees.{pairs_of}
use Rattle.fine_model.proofs.Ordered.KeptPairs.{pairs_fit_node, whole_range}
use Rattle.fine_model.proofs.Ordered.Parts.{all_both}
use Rattle.log_commands.specs.Reading.{HasByteKeys, behind_keys}

-- a pair whose key is within the format's bounds, and of bytes
abbrev pub IsShort : Pair → Type 0
IsShort p = (length p.0 ≤ 64) × AreBytes p.0

-- a separator stands before some keys, and does not stand behind all
abbrev pub IsWithin : List ℕ → Type 0
IsWithin sep = (is_below [] sep ≡ true) × (is_below sep behind_keys ≡ true)

pub short_below : (key : List ℕ) → length key ≤ 64 → AreBytes key → is_below key behind_keys ≡ true
unfolding between
short_below key short bytes = by (not (is_below key []) && is_below key behind_keys) refl (whole_range ((key, []) ∷ []) ((short, bytes), tt))
  where
    by : (t : Bool) → (not (is_below key []) && is_below key behind_keys) ≡ t → cond {A = List Pair} t ((key, []) ∷ []) [] ≡ (key, []) ∷ [] → is_below key behind_keys ≡ true
    by true e same = (and_parts (not (is_below key [])) (is_below key behind_keys) e).1
    by false e same = absurd cc

pub first_below : (key : List ℕ) → 1 ≤ length key → is_below [] key ≡ true
first_below [] some = absurd (omega (arith, some))
first_below (b ∷ key) some = refl

leaf_bytes : (n : Node) → HasByteKeys n → AllByRecursion (λ p. AreBytes p.0) (pairs_of n)
leaf_bytes (node.Leaf pairs) bytes = bytes
leaf_bytes (node.Head root next depth) bytes = tt
leaf_bytes (node.Inner seps kids) bytes = tt
leaf_bytes node.Broken bytes = tt

pub leaf_short : (n : Node) → FitsNode n → HasByteKeys n → AllByRecursion IsShort (pairs_of n)
leaf_short n fits bytes = all_both FitsPair (λ p. AreBytes p.0) IsShort (λ p f b. (f.0.1, b)) (pairs_of n) (pairs_fit_node n fits) (leaf_bytes n bytes)

pub seps_within : (n : Node) → FitsNode n → HasByteKeys n → AllByRecursion IsWithin (seps_of n)
seps_within (node.Inner seps kids) fits bytes =
    all_both FitsKey AreBytes IsWithin (λ sep f b. (first_below sep f.0, short_below sep f.1 b)) seps fits.3 bytes
seps_within (node.Leaf pairs) fits bytes = tt
seps_within (node.Head root next depth) fits bytes = tt
seps_within node.Broken fits bytes = tt

-- A line feed among the first bytes of a chunk.
use Rattle.std.proofs.Common.{◌≡◌, ℕ, zero, suc, ◌<◌, ◌≤◌, List, [], ◌∷◌, ◌++◌, length, take, drop, ap, arith, slice_index}
use Rattle.script_text.specs.Reading.{MovesLine}

feeds : (len most : ℕ) (chunk : List ℕ) → len < length (take most chunk) → drop len (take most chunk) ≡ 10 ∷ drop (suc len) (take most chunk)
    → chunk ≡ take len (take most chunk) ++ 10 ∷ [] ++ drop (suc len) chunk
feeds len zero chunk lt e = absurd (omega arith)
feeds len (suc most) [] lt e = absurd (omega arith)
feeds zero (suc most) (b ∷ rest) lt e = ap (λ (c : ℕ). c ∷ rest) (ap (λ (l : List ℕ). slice_index l 0) e)
feeds (suc len) (suc most) (b ∷ rest) lt e = ap (λ (r : List ℕ). b ∷ r) (feeds len most rest (omega arith) e)

pub moves : (len most end : ℕ) (front chunk line line' chunk' : List ℕ) → front ≡ take most chunk → len ≤ length front → (len ≡ length front → ⊥) → drop len front ≡ 10 ∷ drop (suc len) front
    → end ≡ suc len → line' ≡ line ++ take len front → chunk' ≡ drop end chunk → MovesLine (10 ∷ []) line line' chunk chunk'
moves len most end front chunk line line' chunk' f le ne e n l c =
    let lt : len < length (take most chunk) = rw (← f) (omega arith) in
    (take len front, l, rw (c, n, f) (feeds len most chunk lt (rw (← f) e)))

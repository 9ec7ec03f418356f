-- A log without rows is sound, and a log of zeros has no partition.
use Rattle.std.proofs.Common.{◌≡◌, ℕ, zero, suc, ◌+◌, ◌≤◌, false, [], length, Ok, refl, ap, ◌∙◌, arith, le_refl, ne_eqb}
use Rattle.std.specs.Prelude.{if◌then◌else◌, replicate}
use Rattle.fine_model.specs.Types.node
use Rattle.fine_model.specs.Nodes.{content, replay}
use Rattle.fine_model.specs.Regions.{is_sealed, region_of}
use Rattle.fine_model.specs.Chain.{apart, chain, chain_of, parts_from, taken}
use Rattle.fine_model.specs.Pushed.{and_then}
use Rattle.fine_model.specs.Trees.{IsSound, IsSubtree, reached, is_distinct, nodes_of}
use Rattle.fine_model.proofs.Chain.Headers.{header_closed}
use Rattle.fine_model.proofs.Chain.Images.{parts_none}

unused : (bucket n : ℕ) → 2 ≤ n → nodes_of [] bucket n ≡ (node.Leaf [], 0)
unfolding content replay
unused bucket n least = ap (λ b. if b then (node.Head 1 2 1, 0) else (node.Leaf [], 0)) (ne_eqb n 0 (λ e. omega (arith, e, least)))

pub none_sound : IsSound []
unfolding content replay IsSubtree reached is_distinct
none_sound = record { fit = λ bucket low. record { deep = le_refl 1; subtree = refl; distinct = refl; below = (omega arith, tt); unused = unused bucket } }

-- ---- regions of zeros

pub zero_gate : (len : ℕ) → is_sealed (replicate len 0) ≡ false
zero_gate zero = refl
zero_gate (suc len) = refl

pub zero_region : (regions len r : ℕ) → is_sealed (region_of (replicate regions (replicate len 0)) r) ≡ false
zero_region zero len r = refl
zero_region (suc regions) len zero = zero_gate len
zero_region (suc regions) len (suc r) = zero_region regions len r

no_parts : (region_len regions len region k : ℕ) → parts_from region_len regions region (replicate k (replicate len 0)) ≡ Ok []
unfolding parts_from
no_parts region_len regions len region zero = refl
no_parts region_len regions len region (suc k) =
    parts_none region_len regions region (replicate len 0) (replicate k (replicate len 0)) (header_closed region_len regions region (replicate len 0) (zero_gate len)) ∙ no_parts region_len regions len (region + 1) k

pub no_chain : (region_len regions len : ℕ) → chain region_len (replicate regions (replicate len 0)) ≡ Ok []
unfolding chain apart chain_of taken
no_chain region_len regions len = ap (λ r. and_then (and_then r apart) chain_of) (no_parts region_len (length (replicate regions (replicate len 0))) len 0 regions)

use Rattle.std.proofs.Common.{◌≡◌, ℕ, zero, suc, Bool, true, false, get_or, replicate, if◌then◌else◌, nat_lt, ◌-◌, refl, ap}
use Rattle.node_cache.proofs.marks.Marks.new.Goals as goal

none : (k n : ℕ) → get_or (replicate k false) n false ≡ false
none zero n = refl
none (suc k) zero = refl
none (suc k) (suc n) = none k n

either : (b x y : Bool) → x ≡ false → y ≡ false → (if b then x else y) ≡ false
either true x y p q = p
either false x y p q = q

-- src/marks.rt:41:5
pub returns : goal.returns
returns c n = either (nat_lt n 64) _ _ (none 64 n) (ap (λ marks. get_or marks (n - 64) false) c.new.ensures.items)

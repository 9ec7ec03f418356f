-- What a bucket ends as, once a borrow of one of its nodes has ended.
use Rattle.std.specs.Prelude.{◌≡◌, ℕ, Result, ⊤}
use Rattle.std.specs.Borrow.{Fml, MutBor, LendsIfOk, follows_so}
use mathlib.Core.Option.{none}
use Rattle.node_cache.specs.Cache.{Cache, touched, rewritten}
use Rattle.node_cache.specs.declared.cached.Cached.{Cached}
use Rattle.node_cache.specs.contracts.cached.Cached as kept
use Rattle.node_cache.specs.contracts.Bucket as bucket

-- the number is the last used
abbrev pub EndsTouched : MutBor Cache → ℕ → Fml
EndsTouched c number = follows_so bucket.the_row bucket.the_row c.ghost_name none (λ _ _. ⊤) (λ n. n ≡ touched c.now number)

-- the number has what is written last through r, and after an error nothing is changed
abbrev pub LendsNode : {E : Type 0} → MutBor Cache → ℕ → Result (MutBor Cached) E → Fml
LendsNode c number r = LendsIfOk bucket.the_row kept.the_row c r (rewritten c.now number) c.now

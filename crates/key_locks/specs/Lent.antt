-- What a set ends as, once a borrow of one of its contents has ended.
use Rattle.std.specs.Prelude.{ℕ, List, Option, Some, slice_set}
use Rattle.std.specs.Borrow.{Lends, LendsIf, Fml, RattleType, MutBor}
use Rattle.std.specs.contracts.option.Option as option
use Rattle.key_locks.specs.contracts.LockSet.{the_row}
use Rattle.key_locks.specs.contracts.slots.Slots as slots

-- the bucket has what is written last through r, and where it is not held nothing is changed
abbrev pub LendsBucket : (T : RattleType) → MutBor (List (Option T.Denot)) → ℕ → Option (MutBor T.Denot) → Fml
LendsBucket T s k r = LendsIf (the_row T) T s r (λ w. slice_set s.now k (Some w)) s.now

-- the same of a place
abbrev pub LendsPlace : (T : RattleType) → MutBor (List (Option T.Denot)) → ℕ → Option (MutBor T.Denot) → Fml
LendsPlace T s k r = LendsIf (slots.the_row T) T s r (λ w. slice_set s.now k (Some w)) s.now

-- and of one that is filled
abbrev pub LendsValue : (T : RattleType) → MutBor (List (Option T.Denot)) → ℕ → MutBor T.Denot → Fml
LendsValue T s k r = Lends (slots.the_row T) T s r (λ w. slice_set s.now k (Some w))

-- and of what is in it
abbrev pub LendsFilled : (T : RattleType) → MutBor (Option T.Denot) → MutBor T.Denot → Fml
LendsFilled T s r = Lends (option.the_row T) T s r (λ w. Some w)

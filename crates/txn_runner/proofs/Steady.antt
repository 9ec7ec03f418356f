-- What steps of the room leave of a body that goes on.
use Rattle.std.proofs.Common.{◌≡◌, ◌⊎◌, inl, inr, ℕ, ◌≤◌, List, [], ◌++◌, sym, subst, Option, arith}
use Rattle.std.proofs.lemmas.List.{append-nil}
use Rattle.fine_model.specs.declared.RunFault.{RunFault}
use Rattle.fine_model.specs.History.{Commit}
use Rattle.fine_model.proofs.Histories.Goings.{buckets_on}
use Rattle.node_cache.specs.Cache.{Cache, IsResting, kept_at}
use Rattle.epoch_room.specs.Meaning.{origin_of}
use Rattle.epoch_room.specs.Value.{RoomValue}
use Rattle.open_txn.specs.Buckets.{BucketsValue, StandAll}
use Rattle.run_laws.specs.Needs.{IsSealed, Unsealed}
use Rattle.run_laws.specs.Runs.{AreFewOfLanes}
use Rattle.run_laws.specs.SoFar.{AreFewSoFar, GoesOn}
use Rattle.run_laws.proofs.Going.{few_wait}

-- ---- the buckets

-- they stand for a history while a later epoch is published
pub stand_on : (entry : RoomValue) (p q : ℕ) (b : BucketsValue) (history : List Commit) → p ≤ q → StandAll (origin_of entry.entry) p b history → StandAll (origin_of entry.entry) q b history
stand_on entry p q b history low s = record {
  many = s.many;
  untouched = s.untouched;
  each = λ k c is. buckets_on (λ (x : Cache). x.bucket) kept_at IsResting (origin_of entry.entry) k p q c history low (s.each k c is);
}

-- ---- few wait

-- where nothing waits, each lane may commit
pub few_none : (group : ℕ) (entry room : RoomValue) (ended : List (Option RunFault)) (history : List Commit) → 1 ≤ group → GoesOn entry room history → room.room.waiting ≡ 0 → AreFewOfLanes group history → AreFewSoFar group room.room.sealed ended history
few_none group entry room ended history some g none few = few_wait group room.room.sealed ended history few (let w = g.waiting in omega (arith, some, none, w))

pub few_by : (group : ℕ) (entry old room : RoomValue) (ended : List (Option RunFault)) (history : List Commit) → 1 ≤ group → GoesOn entry room history → Unsealed old.room room.room ⊎ IsSealed old.room room.room
    → AreFewSoFar group old.room.sealed ended history → AreFewSoFar group room.room.sealed ended history
few_by group entry old room ended history some g (inl same) few = subst (λ n. AreFewSoFar group n ended history) (sym same.sealed) few
few_by group entry old room ended history some g (inr sealed) few = few_none group entry room ended history some g sealed.waiting few.most

-- with nothing committed the history is as it was
pub same_history : (P : List Commit → Type 0) (history : List Commit) → P history → P (history ++ [])
same_history P history is = subst P (sym (append-nil history)) is

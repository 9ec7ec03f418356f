use Rattle.std.proofs.Common.{◌≡◌, ◌+◌, ◌<◌, ◌≤◌, ℕ, slice_index, length}
use Rattle.fine_hall.proofs.opening.first_words.Given as goal

abbrev pub invariant-loop-k : goal.invariant-loop-k
invariant-loop-k l = record {
  places : (k : ℕ) → k < 258 → slice_index l.words k ≡ 0;
  long : length l.words ≡ 276;
  from : 258 ≤ l.k;
  boxes : (i : ℕ) → 258 + i < l.k → slice_index l.words (258 + i) ≡ 2;
}

use Rattle.std.proofs.Common.{◌≡◌, ◌+◌, ◌<◌, ℕ, slice_index, set, ap, ◌∙◌, ⊎_elim, arith, length-set, get_or-set_other, get_or-set_same}
use lib.ListN.{length-replicate}
use Rattle.fine_places.proofs.Lists.{decide, zeros}
use Rattle.fine_hall.proofs.opening.first_words.Goals as goal

pub loop-k-init : goal.loop-k-init
loop-k-init c = record { places = λ k lt. zeros 276 k; long = length-replicate {A = ℕ} 276 0; from = omega arith; boxes = λ i lt. absurd (omega arith) }

pub loop-k-preserved : goal.loop-k-preserved
loop-k-preserved c = let i = c.loop-k.invariant in let from = i.from in let long = i.long in let more = c.loop-k-test.true in record {
  places = λ k lt. get_or-set_other c.loop-k.words c.loop-k.k k 2 0 (λ e. omega arith) ∙ i.places k lt;
  long = length-set c.loop-k.words c.loop-k.k 2 ∙ i.long;
  from = omega arith;
  boxes = λ j lt. ⊎_elim
      (λ (e : 258 + j ≡ c.loop-k.k). ap (slice_index (set c.loop-k.words c.loop-k.k 2)) e ∙ get_or-set_same c.loop-k.words c.loop-k.k 2 0 (omega arith))
      (λ ne. get_or-set_other c.loop-k.words c.loop-k.k (258 + j) 2 0 ne ∙ i.boxes j (let less : 258 + j < c.loop-k.k = omega arith in less))
      (decide (258 + j) c.loop-k.k);
}

use Rattle.std.proofs.Common.{ℕ, Option, Some, length, ap, ◌∙◌, arith, slice_index}
use Rattle.std.proofs.lemmas.List.{length-replicate}
use lib.ListN.{get_elem?}
use Rattle.fine_places.specs.History.{room, most_seats}
use Rattle.fine_places.proofs.Lists.{replicate_at, zeros}
use Rattle.fine_boxes_tests.proofs.places.opened.Goals as goal

pub open-opened-requires-clause-counts : goal.open-opened-requires-clause-counts
unfolding room
open-opened-requires-clause-counts c =
    let w = ap length (c.as_slice.ensures.value ∙ c.in_ok-words.ensures) ∙ length-replicate {A = ℕ} 257 0 in
    let t = ap length (c.in_ok-things.ensures) ∙ length-replicate {A = Option ℕ} 257 (Some 7) in (omega arith, omega arith)

pub open-opened-requires-clause-seats : goal.open-opened-requires-clause-seats
unfolding most_seats
open-opened-requires-clause-seats c = (omega arith, omega arith)

pub open-opened-requires-clause-free : goal.open-opened-requires-clause-free
open-opened-requires-clause-free c = λ k le. ap (λ l. slice_index l k) (c.as_slice.ensures.value ∙ c.in_ok-words.ensures) ∙ zeros 257 k

pub open-opened-requires-clause-stands : goal.open-opened-requires-clause-stands
unfolding room
open-opened-requires-clause-stands c = λ k le. (7, ap (λ l. get_elem? l k) (c.in_ok-things.ensures) ∙ replicate_at 257 k (Some 7) (omega arith), tt)

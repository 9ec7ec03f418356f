use Rattle.std.proofs.Common.{Bool, ◌<◌, ◌≡◌, ◌++◌, cond, not, take, List, [], ◌∷◌, ℕ, sym, ap, subst, ◌∙◌}
use Rattle.std.specs.Prelude.{filter, nat_eq, slice_index_or}
use Rattle.std.specs.List.{list_any}
use Rattle.std.proofs.lemmas.List.{take_more}
use Rattle.fine_model.specs.Boards.{set_of}
use Rattle.partition_hold.proofs.Bits.{all_next}
use Rattle.partition_hold.proofs.Sets.{same_set}
use Rattle.epoch_room.proofs.Merges.JobRegions.{given_more}
use Rattle.epoch_room.proofs.room.merging.give_back.Goals as goal

pub give_one_back-requires-clause-set : goal.give_one_back-requires-clause-set
give_one_back-requires-clause-set c =
    let l = c.loop-region in
    let so_far : List ℕ = c.args.free.now ++ filter (λ r. not (list_any (nat_eq r) c.args.lost.now)) (take l.region-index c.args.regions.now) in
    subst (λ xs. set_of xs ≡ xs) (sym l.invariant.free) (same_set (λ region. list_any (nat_eq region) so_far))

pub loop-region-preserved : goal.loop-region-preserved
loop-region-preserved c =
    let l = c.loop-region in
    let p : ℕ → Bool = λ r. not (list_any (nat_eq r) c.args.lost.now) in
    let r = slice_index_or c.args.regions.now l.region-index 0 in
    let next = all_next (λ region. region < 64) c.args.regions.now l.region-index c.loop-region-test.true l.invariant.small in
    record {
      small = next.1;
      free =
          c.give_one_back.ensures ∙ ap (λ xs. set_of (xs ++ cond (p r) (r ∷ []) [])) l.invariant.free
          ∙ given_more p c.args.free.now (take l.region-index c.args.regions.now) r
          ∙ ap (λ xs. set_of (c.args.free.now ++ filter p xs)) (sym (take_more c.args.regions.now l.region-index 0 c.loop-region-test.true));
    }

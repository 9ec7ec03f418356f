-- Pairs stay in order.
use Rattle.std.proofs.Common.{◌≡◌, ℕ, true, false, List, sym, subst}
use Rattle.fine_model.specs.Map.{Pair, is_below, pairs_below, pairs_above, set, unset}
use Rattle.fine_model.proofs.Trees.Among.{ascending-append}
use Rattle.fine_model.proofs.Ordered.Order.{is_below-asym, all_map}
use Rattle.fine_model.proofs.Ordered.Sets.{ascending-set, ascending-filter, all_pass}
use Rattle.plain_model.specs.Place.{Ascends}

pub set_ascends : (pairs new : List Pair) (key value : List ℕ) → Ascends pairs → new ≡ set pairs key value → Ascends new
set_ascends pairs new key value up is = subst Ascends (sym is) (record { keys = ascending-set pairs key value up.keys })

pub unset_ascends : (pairs new : List Pair) (key : List ℕ) → Ascends pairs → new ≡ unset pairs key → Ascends new
unfolding unset
unset_ascends pairs new key up is = subst Ascends (sym is) (record {
  keys =
      ascending-append key (pairs_below key pairs) (pairs_above key pairs)
      (ascending-filter (λ p. is_below p.0 key) pairs up.keys)
      (ascending-filter (λ p. is_below key p.0) pairs up.keys)
      (all_pass (λ p. is_below p.0 key) pairs)
      (all_map (λ p. is_below key p.0 ≡ true) (λ p. is_below p.0 key ≡ false) (λ p h. is_below-asym key p.0 h) (pairs_above key pairs) (all_pass (λ p. is_below key p.0) pairs));
})

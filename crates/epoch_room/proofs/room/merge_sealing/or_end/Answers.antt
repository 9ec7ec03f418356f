use Rattle.std.proofs.Common.{◌≡◌, ◌≤◌, ℕ, cond, length, Some, None, ap, ◌∙◌, arith}
use Rattle.std.specs.Prelude.{unwrap_or, nat_lt, not}
use Rattle.std.specs.List.{position_or_len}
use Rattle.std.proofs.lemmas.List.Sums.{prefix_len-le-length}
use Rattle.epoch_room.proofs.room.merge_sealing.or_end.Goals as goal

-- a place among so many, or their number, is the place where it is no higher
place_or_all : (place many : ℕ) → place ≤ many → unwrap_or (cond (nat_lt place many) (Some place) None) many ≡ place
place_or_all place many most = grind (arith, most)

pub returns : goal.returns
returns c p is = c.unwrap_or.ensures ∙ ap (λ place. unwrap_or place (length c.args.parts.now)) is ∙ place_or_all (position_or_len p c.args.parts.now) (length c.args.parts.now) (prefix_len-le-length (λ x. not (p x)) c.args.parts.now)

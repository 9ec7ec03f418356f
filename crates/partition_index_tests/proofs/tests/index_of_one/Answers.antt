use Rattle.std.proofs.Common.{◌≡◌, ◌≤◌, ◌∷◌, [], ◌++◌, ℕ, List, length, arith, ap, refl}
use Rattle.std.specs.Prelude.{vec_capacity}
use Rattle.fine_model.specs.declared.Row.{Row}
use Rattle.fine_model.specs.declared.Rec.TheVariants as rec
use Rattle.fine_model.specs.Merge.{nodes_in}
use Rattle.fine_model.specs.RowBytes.{body, rows_len}
use Rattle.partition_index_tests.proofs.tests.index_of_one.Goals as goal

-- the deletion of a key of one byte
row : Row
row = record { node = record { bucket = 97; number = 1 }; version = 1; rec = rec.Del (97 ∷ []) }

one_node : length (nodes_in ([] ++ row ∷ [])) ≡ 1
unfolding nodes_in row
one_node = refl

few : rows_len ([] ++ row ∷ []) ≡ 21
unfolding row body
few = refl

pub feed-requires : goal.feed-requires
unfolding row body
feed-requires c = record {
  before = c.in_ok-with_capacity.field-0.items;
  rows = [];
  row = row;
  so_far = c.new-indexer.ensures.starts;
  of_node = refl;
  of_len = refl;
  rising = refl;
  small = omega (arith, few);
  room = omega (arith, one_node, ap length c.in_ok-with_capacity.ensures.items, c.in_ok-with_capacity.ensures.capacity, c.new-indexer.ensures.capacity);
}

use Rattle.std.proofs.Common.{◌≤◌, ◌∷◌, [], List, ℕ, refl, arith}
use Rattle.fine_model.specs.declared.Row.{Row}
use Rattle.fine_model.specs.declared.Rec.TheVariants as rec
use Rattle.fine_model.specs.Merge.{nodes_in, encoded_len}
use Rattle.fine_model.specs.RowBytes.{body, row_bytes}
use Rattle.log_partition_tests.proofs.tests.encoded.Goals as goal

-- a key of one byte, put in the first version of a leaf
put : ℕ → Row
put key = record { node = record { bucket = key; number = 1 }; version = 1; rec = rec.Put (key ∷ []) (49 ∷ []) }

rows : List Row
rows = put 97 ∷ put 98 ∷ []

room : encoded_len rows ≤ 4194304
unfolding nodes_in rows put body
room = omega arith

pub encode-requires-clause-rows : goal.encode-requires-clause-rows
unfolding put rows body row_bytes
encode-requires-clause-rows c = (
  rows,
  record {
    are = (record { node = refl; version = refl; len = refl; within = omega arith; spelled = refl }, (record { node = refl; version = refl; len = refl; within = omega arith; spelled = refl }, tt));
    rising = refl;
    within = room;
  },
)

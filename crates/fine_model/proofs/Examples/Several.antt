-- Partitions over several regions.
use Rattle.std.proofs.Common.{◌≡◌, ℕ, ◌+◌, ◌<◌, List, [], ◌∷◌, ◌++◌, map, take, drop, replicate, refl, None, Some, Ok, Err, arith}
use Rattle.std.specs.Prelude.{codes}
use Rattle.std.specs.Fmt.{digits}
use Rattle.std.specs.List.{range_with_len}
use Rattle.fine_model.specs.Types.{Row, Header, Part}
use Rattle.fine_model.specs.Types.rec
use Rattle.fine_model.specs.Types.mark
use Rattle.fine_model.specs.Types.damage
use Rattle.fine_model.specs.RowBytes.{row_bytes, rows_bytes, body, FitsRow}
use Rattle.fine_model.specs.Merge.{cost, nodes_in, regions_for}
use Rattle.fine_model.specs.Regions.{Image, long_header_of, header_bytes, entry_bytes, index_bytes, body_bytes, body_in, place_of, header_at, header_tests, bad_field, header_in, HasHeader, sealed, IsRegion}
use Rattle.fine_model.specs.Chain.{parts_from, bad_continuation, apart, chain, chain_of, taken, longest_at, fault_beside, is_free, free_regions}
use Rattle.fine_model.specs.Pushed.{row_of}
use Rattle.fine_model.specs.Report.{ranges}
use Rattle.fine_model.proofs.Examples.Limits.{long_put}

-- the rows of eight puts each from two and from three transactions
abbrev sixteen : List Row
sixteen = map long_put (range_with_len 97 16)

abbrev twenty_four : List Row
twenty_four = map long_put (range_with_len 97 24)

-- their bodies behind a header over several regions, which are two of 4096 bytes
pub len_of_two : 70 + cost sixteen ≡ 4758
unfolding body nodes_in
len_of_two = refl

pub len_of_three : 70 + cost twenty_four ≡ 7102
unfolding body nodes_in
len_of_three = refl

pub needs_two : regions_for 4096 sixteen ≡ Some 2
unfolding regions_for body nodes_in
needs_two = refl

pub still_two : regions_for 4096 twenty_four ≡ Some 2
unfolding regions_for body nodes_in
still_two = refl

pub needs_one : regions_for 4096 (map long_put (range_with_len 97 8)) ≡ Some 1
unfolding regions_for body nodes_in
needs_one = refl

-- and no number of regions up to eight is enough for the rows in regions of 500
pub needs_too_many : regions_for 500 sixteen ≡ None
unfolding regions_for body nodes_in
needs_too_many = refl

-- the first merge goes to regions 3 and 4, the second to 0 and 1
abbrev in_three : Header
in_three = long_header_of (record { first = 1; last = 2 }) sixteen (4 ∷ [])

abbrev in_zero : Header
in_zero = long_header_of (record { first = 1; last = 3 }) twenty_four (1 ∷ [])

pub bytes_in_three : header_bytes 4096 in_three ≡ 0x46 ∷ 0x4c ∷ 0x50 ∷ 0x33 ∷ 0x00 ∷ 0x00 ∷ 0x00 ∷ 0x00 ∷ 0x00 ∷ 0x00 ∷ 0x10 ∷ 0x00 ∷ 0x00 ∷ 0x00 ∷ 0x00 ∷ 0x00 ∷ 0x00 ∷ 0x00 ∷ 0x00 ∷ 0x01 ∷ 0x00 ∷ 0x00 ∷ 0x00 ∷ 0x00 ∷ 0x00 ∷ 0x00 ∷ 0x00 ∷ 0x02 ∷ 0x00 ∷ 0x00 ∷ 0x00 ∷ 0x10 ∷ 0x00 ∷ 0x00 ∷ 0x00 ∷ 0x10 ∷ 0x00 ∷ 0x00 ∷ 0x11 ∷ 0x70 ∷ 0x02 ∷ 0x00 ∷ 0x00 ∷ 0x00 ∷ 0x04 ∷ 0x00 ∷ 0x00 ∷ 0x00 ∷ 0x00 ∷ 0x00 ∷ 0x00 ∷ 0x00 ∷ 0x00 ∷ 0x00 ∷ 0x00 ∷ 0x00 ∷ 0x00 ∷ 0x00 ∷ 0x00 ∷ 0x00 ∷ 0x00 ∷ 0x00 ∷ 0x00 ∷ 0x00 ∷ 0x00 ∷ 0x00 ∷ 0x00 ∷ 0x00 ∷ 0x00 ∷ []
unfolding header_bytes body nodes_in
bytes_in_three = refl

pub bytes_in_zero : header_bytes 4096 in_zero ≡ 0x46 ∷ 0x4c ∷ 0x50 ∷ 0x33 ∷ 0x00 ∷ 0x00 ∷ 0x00 ∷ 0x00 ∷ 0x00 ∷ 0x00 ∷ 0x10 ∷ 0x00 ∷ 0x00 ∷ 0x00 ∷ 0x00 ∷ 0x00 ∷ 0x00 ∷ 0x00 ∷ 0x00 ∷ 0x01 ∷ 0x00 ∷ 0x00 ∷ 0x00 ∷ 0x00 ∷ 0x00 ∷ 0x00 ∷ 0x00 ∷ 0x03 ∷ 0x00 ∷ 0x00 ∷ 0x00 ∷ 0x18 ∷ 0x00 ∷ 0x00 ∷ 0x00 ∷ 0x18 ∷ 0x00 ∷ 0x00 ∷ 0x1a ∷ 0x28 ∷ 0x02 ∷ 0x00 ∷ 0x00 ∷ 0x00 ∷ 0x01 ∷ 0x00 ∷ 0x00 ∷ 0x00 ∷ 0x00 ∷ 0x00 ∷ 0x00 ∷ 0x00 ∷ 0x00 ∷ 0x00 ∷ 0x00 ∷ 0x00 ∷ 0x00 ∷ 0x00 ∷ 0x00 ∷ 0x00 ∷ 0x00 ∷ 0x00 ∷ 0x00 ∷ 0x00 ∷ 0x00 ∷ 0x00 ∷ 0x00 ∷ 0x00 ∷ 0x00 ∷ []
unfolding header_bytes body nodes_in
bytes_in_zero = refl

pub read_in_zero : header_in 4096 8 0 (0xa7 ∷ 0x46 ∷ 0x4c ∷ 0x50 ∷ 0x33 ∷ 0x00 ∷ 0x00 ∷ 0x00 ∷ 0x00 ∷ 0x00 ∷ 0x00 ∷ 0x10 ∷ 0x00 ∷ 0x00 ∷ 0x00 ∷ 0x00 ∷ 0x00 ∷ 0x00 ∷ 0x00 ∷ 0x00 ∷ 0x01 ∷ 0x00 ∷ 0x00 ∷ 0x00 ∷ 0x00 ∷ 0x00 ∷ 0x00 ∷ 0x00 ∷ 0x03 ∷ 0x00 ∷ 0x00 ∷ 0x00 ∷ 0x18 ∷ 0x00 ∷ 0x00 ∷ 0x00 ∷ 0x18 ∷ 0x00 ∷ 0x00 ∷ 0x1a ∷ 0x28 ∷ 0x02 ∷ 0x00 ∷ 0x00 ∷ 0x00 ∷ 0x01 ∷ 0x00 ∷ 0x00 ∷ 0x00 ∷ 0x00 ∷ 0x00 ∷ 0x00 ∷ 0x00 ∷ 0x00 ∷ 0x00 ∷ 0x00 ∷ 0x00 ∷ 0x00 ∷ 0x00 ∷ 0x00 ∷ 0x00 ∷ 0x00 ∷ 0x00 ∷ 0x00 ∷ 0x00 ∷ 0x00 ∷ 0x00 ∷ 0x00 ∷ 0x00 ∷ 0x00 ∷ []) ≡ Ok (Some in_zero)
unfolding header_in bad_field header_tests header_at body nodes_in
read_in_zero = refl

-- an entry that names the lead, one that names no region of the disk, one that names an earlier one, and one that is unused
pub names_the_lead : header_in 4096 8 0 (0xa7 ∷ header_bytes 4096 (long_header_of (record { first = 1; last = 3 }) twenty_four (0 ∷ []))) ≡ Err 42
unfolding header_in bad_field header_tests header_at header_bytes body nodes_in
names_the_lead = refl

pub names_none : header_in 4096 8 0 (0xa7 ∷ header_bytes 4096 (long_header_of (record { first = 1; last = 3 }) twenty_four (8 ∷ []))) ≡ Err 42
unfolding header_in bad_field header_tests header_at header_bytes body nodes_in
names_none = refl

pub names_unused : header_in 4096 8 0 (0xa7 ∷ header_bytes 4096 (record { mark = mark.Three; range = in_zero.range; rows = 24; nodes = 24; area = 6696; regions = 2; more = 1 ∷ 0 ∷ 0 ∷ 5 ∷ 0 ∷ 0 ∷ 0 ∷ [] })) ≡ Err 54
unfolding header_in bad_field header_tests header_at header_bytes body nodes_in
names_unused = refl

-- more regions than the body needs, and a number of regions that is none
pub one_too_many : header_in 4096 8 0 (0xa7 ∷ header_bytes 4096 (long_header_of (record { first = 1; last = 3 }) twenty_four (1 ∷ 2 ∷ []))) ≡ Err 37
unfolding header_in bad_field header_tests header_at header_bytes body nodes_in
one_too_many = refl

pub names_twice : header_in 2600 8 0 (0xa7 ∷ header_bytes 2600 (long_header_of (record { first = 1; last = 3 }) twenty_four (1 ∷ 1 ∷ []))) ≡ Err 46
unfolding header_in bad_field header_tests header_at header_bytes body nodes_in
names_twice = refl

pub only_one : header_in 4096 8 0 (0xa7 ∷ header_bytes 4096 (long_header_of (record { first = 1; last = 3 }) twenty_four [])) ≡ Err 41
unfolding header_in bad_field header_tests header_at header_bytes body nodes_in
only_one = refl

-- places of a body: the last one in the lead, and the first and the last one of a continuation
pub in_the_lead : place_of 4096 0 in_zero 4025 ≡ record { region = 0; at = 4095 }
unfolding place_of
in_the_lead = refl

pub behind_the_lead : place_of 4096 0 in_zero 4026 ≡ record { region = 1; at = 1 }
unfolding place_of
behind_the_lead = refl

pub at_the_end : place_of 4096 0 in_zero 8120 ≡ record { region = 1; at = 4095 }
unfolding place_of
at_the_end = refl

-- three rows in two regions of 100 bytes, of a disk with four
abbrev three : List Row
three = row_of 97 1 1 (rec.Put (codes "a") (codes "1")) ∷ row_of 98 1 1 (rec.Put (codes "b") (codes "1")) ∷ row_of 99 1 1 (rec.Put (codes "c") (codes "1")) ∷ []

abbrev small : Header
small = long_header_of (record { first = 1; last = 1 }) three (2 ∷ [])

abbrev small_image : Image
small_image =
    (0xa7 ∷ header_bytes 100 small ++ take 30 (body_bytes three)) ∷ replicate 100 0 ∷ (0x37 ∷ drop 30 (body_bytes three) ++ replicate 15 0) ∷ replicate 100 0 ∷ []

pub has_small : HasHeader 100 small_image 0 small
unfolding header_in bad_field header_tests header_at header_bytes rows_bytes row_bytes index_bytes entry_bytes body nodes_in
has_small = refl

pub body_of_small : body_in small_image 0 small ≡ body_bytes three ++ replicate 15 0
unfolding body_in header_bytes rows_bytes row_bytes index_bytes entry_bytes body nodes_in
body_of_small = refl

-- a put of a letter is within the bounds of rows
fits_put : (bucket : ℕ) → bucket < 256 → FitsRow mark.Three (row_of bucket 1 1 (rec.Put (bucket ∷ []) (codes "1")))
fits_put bucket h = record {
  of_format = omega arith;
  bucket = h;
  number = omega arith;
  head = (λ e. absurd (omega (arith, e)), λ e. absurd (omega (arith, e)));
  version_low = omega arith;
  version_high = omega arith;
  rec = ((omega arith, omega arith), (omega arith, omega arith));
}

pub sealed_small : IsRegion 100 small_image 0 (sealed (record { first = 1; last = 1 }) three)
sealed_small = record {
  header = small;
  has_header = has_small;
  of_range = refl;
  of_rows = (refl, refl, refl);
  rows_fit = (fits_put 97 (omega arith), (fits_put 98 (omega arith), (fits_put 99 (omega arith), tt)));
  ordered = refl;
  spelled = (replicate 15 0, body_of_small);
}

pub chain_of_small : chain 100 small_image ≡ Ok (record { region = 0; header = small } ∷ [])
unfolding chain parts_from apart bad_continuation chain_of taken longest_at fault_beside header_in bad_field header_tests header_at header_bytes rows_bytes row_bytes index_bytes entry_bytes body nodes_in
chain_of_small = refl

pub free_beside_small : free_regions small_image ≡ 1 ∷ 3 ∷ []
unfolding is_free header_at header_bytes rows_bytes row_bytes index_bytes entry_bytes body nodes_in
free_beside_small = refl

-- a continuation that is sealed itself, and one that a lower region names
abbrev lead : ℕ → List ℕ → Part
lead region more = record { region = region; header = long_header_of (record { first = 1; last = 1 }) [] more }

pub sealed_itself : apart (lead 0 (1 ∷ 3 ∷ []) ∷ lead 3 (2 ∷ []) ∷ []) ≡ Err (damage.Region 0 46)
unfolding apart bad_continuation nodes_in
sealed_itself = refl

pub named_lower : apart (lead 0 (1 ∷ 2 ∷ []) ∷ lead 3 (4 ∷ 2 ∷ []) ∷ []) ≡ Err (damage.Region 3 46)
unfolding apart bad_continuation nodes_in
named_lower = refl

-- what is printed of the second merge
pub printed_in_zero : ranges (record { region = 0; header = in_zero } ∷ []) ≡ codes "range 1 3 region 0 rows 24" ++ 10 ∷ codes "end 3" ++ 10 ∷ []
unfolding ranges digits nodes_in body
printed_in_zero = refl

-- A counter's addition as its own record.
use Rattle.std.proofs.Common.{◌≡◌, ◌≢◌, ℕ, ◌≤◌, List, [], ◌∷◌, ◌++◌, length, take, replicate, pos, negsuc, Some, Ok, refl, ap, ◌∙◌, inl, inr, arith, append_assoc}
use Rattle.std.specs.Prelude.{codes}
use Rattle.std.specs.Fmt.{digits}
use Rattle.fine_model.specs.Types.{Rec, Row, Mark, Header}
use Rattle.fine_model.specs.Types.rec
use Rattle.fine_model.specs.Types.node
use Rattle.fine_model.specs.Types.call
use Rattle.fine_model.specs.Types.mark
use Rattle.fine_model.specs.NumberText.{number_text, number_of}
use Rattle.fine_model.specs.Map.{get, set, map_after}
use Rattle.fine_model.specs.Store.{answer, add_answer, number_at, sum_answer}
use Rattle.fine_model.specs.RowBytes.{row_bytes, row_len, rows_len, body, rows_bytes, kind, greatest, last_kind, FitsRec, FitsRow}
use Rattle.fine_model.specs.Nodes.{added, changed, step, replay, content}
use Rattle.fine_model.specs.Trees.{bucket_of}
use Rattle.fine_model.specs.Pushed.{row_of, leaf_for, split_leaf, grown_leaf, split_inner, grown_inner, growth, with_head, set_push, leaf_push, pairs_beside, add_push, call_push, push_of, within_limits, pushed, all_pushed}
use Rattle.fine_model.specs.Merge.{merged, nodes_in, merged_node, merged_into}
use Rattle.fine_model.specs.Regions.{header_of, partition_bytes, header_in, header_at, header_bytes, body_bytes, body_in, index_bytes, entry_bytes, bad_field, header_tests, place_of, bad, sealed, IsRegion}
use Rattle.fine_model.specs.Report.{ranges}
use Rattle.fine_model.proofs.Chain.Spelling.{row_spelling}

-- a log in which a counter stands at 5
abbrev five : Row
five = row_of 99 1 1 (rec.Put (codes "c") (codes "5"))

abbrev plus_two : Row
plus_two = row_of 99 1 2 (rec.Plus (codes "c") (pos 2))

-- an addition to a key that is there is one row with the number
pub added_there : pushed (five ∷ []) (call.Add (codes "c") (pos 2)) ≡ Ok (plus_two ∷ [])
unfolding digits number_text number_of get set map_after answer add_answer number_at sum_answer added changed step replay content bucket_of leaf_for split_leaf grown_leaf split_inner grown_inner growth with_head set_push leaf_push pairs_beside add_push call_push push_of within_limits all_pushed
added_there = refl

-- to an absent key it is a row with the sum's text
pub added_new : pushed [] (call.Add (codes "c") (pos 2)) ≡ Ok (row_of 99 1 1 (rec.Put (codes "c") (codes "2")) ∷ [])
unfolding digits number_text number_of get set map_after answer add_answer number_at sum_answer added changed step replay content bucket_of leaf_for split_leaf grown_leaf split_inner grown_inner growth with_head set_push leaf_push pairs_beside add_push call_push push_of within_limits all_pushed
added_new = refl

-- and to a text that is no number it is nothing
pub added_to_text : pushed (row_of 99 1 1 (rec.Put (codes "c") (codes "x")) ∷ []) (call.Add (codes "c") (pos 2)) ≡ Ok []
unfolding digits number_text number_of get set map_after answer add_answer number_at sum_answer added changed step replay content bucket_of leaf_for split_leaf grown_leaf split_inner grown_inner growth with_head set_push leaf_push pairs_beside add_push call_push push_of within_limits all_pushed
added_to_text = refl

-- two calls in order, each on top of the rows before it
pub added_twice : all_pushed [] (call.Add (codes "c") (pos 5) ∷ call.Get (codes "c") ∷ call.Add (codes "c") (pos 2) ∷ []) ≡ Ok (five ∷ plus_two ∷ [])
unfolding digits number_text number_of get set map_after answer add_answer number_at sum_answer added changed step replay content bucket_of leaf_for split_leaf grown_leaf split_inner grown_inner growth with_head set_push leaf_push pairs_beside add_push call_push push_of within_limits all_pushed
added_twice = refl

pub leaves_seven : content (five ∷ plus_two ∷ []) (record { bucket = 99; number = 1 }) ≡ (node.Leaf ((codes "c", codes "7") ∷ []), 2)
unfolding digits number_text number_of get set map_after answer add_answer number_at sum_answer added changed step replay content bucket_of leaf_for split_leaf grown_leaf split_inner grown_inner growth with_head set_push leaf_push pairs_beside add_push call_push push_of within_limits all_pushed
leaves_seven = refl

-- a sum outside of 64 bits, and an absent key, break the leaf
pub too_much : content (five ∷ row_of 99 1 2 (rec.Plus (codes "c") (pos 9223372036854775803)) ∷ []) (record { bucket = 99; number = 1 }) ≡ (node.Broken, 2)
unfolding digits number_text number_of get set map_after answer add_answer number_at sum_answer added changed step replay content bucket_of leaf_for split_leaf grown_leaf split_inner grown_inner growth with_head set_push leaf_push pairs_beside add_push call_push push_of within_limits all_pushed
too_much = refl

pub nothing_there : content (row_of 99 1 1 (rec.Plus (codes "c") (pos 2)) ∷ []) (record { bucket = 99; number = 1 }) ≡ (node.Broken, 1)
unfolding digits number_text number_of get set map_after answer add_answer number_at sum_answer added changed step replay content bucket_of leaf_for split_leaf grown_leaf split_inner grown_inner growth with_head set_push leaf_push pairs_beside add_push call_push push_of within_limits all_pushed
nothing_there = refl

pub plus_bytes : row_bytes plus_two ≡ 0x09 ∷ 0x00 ∷ 0x63 ∷ 0x00 ∷ 0x00 ∷ 0x00 ∷ 0x01 ∷ 0x00 ∷ 0x00 ∷ 0x00 ∷ 0x00 ∷ 0x00 ∷ 0x00 ∷ 0x00 ∷ 0x02 ∷ 0x00 ∷ 0x00 ∷ 0x00 ∷ 0x0a ∷ 0x01 ∷ 0x63 ∷ 0x00 ∷ 0x00 ∷ 0x00 ∷ 0x00 ∷ 0x00 ∷ 0x00 ∷ 0x00 ∷ 0x02 ∷ []
unfolding row_bytes body
plus_bytes = refl

pub plus_len : row_len plus_two ≡ 29
unfolding body
plus_len = refl

pub minus_bytes : body (rec.Plus (codes "c") (negsuc 0)) ≡ 0x01 ∷ 0x63 ∷ 0xff ∷ 0xff ∷ 0xff ∷ 0xff ∷ 0xff ∷ 0xff ∷ 0xff ∷ 0xff ∷ []
unfolding body
minus_bytes = refl

-- the two rows are longer than the leaf's image, and merge into it
abbrev seven : Row
seven = row_of 99 1 2 (rec.LeafImage ((codes "c", codes "7") ∷ []))

pub merged_to_seven : merged (five ∷ []) (plus_two ∷ []) ≡ seven ∷ []
unfolding merged nodes_in merged_node merged_into content replay step changed added digits number_text number_of get set body
merged_to_seven = refl

pub seven_bytes : row_bytes seven ≡ 0x02 ∷ 0x00 ∷ 0x63 ∷ 0x00 ∷ 0x00 ∷ 0x00 ∷ 0x01 ∷ 0x00 ∷ 0x00 ∷ 0x00 ∷ 0x00 ∷ 0x00 ∷ 0x00 ∷ 0x00 ∷ 0x02 ∷ 0x00 ∷ 0x00 ∷ 0x00 ∷ 0x06 ∷ 0x01 ∷ 0x01 ∷ 0x63 ∷ 0x00 ∷ 0x01 ∷ 0x37 ∷ []
unfolding row_bytes body
seven_bytes = refl

-- A partition of the first format: its rows and its index stand behind the other mark.
abbrev old_header : Mark → List Row → Header
old_header m rows = record { mark = m; range = record { first = 1; last = 1 }; rows = length rows; nodes = length (nodes_in rows); area = rows_len rows; regions = 1; more = replicate 7 0 }

abbrev old_bytes : Mark → List Row → List ℕ
old_bytes m rows = 0xa7 ∷ header_bytes 500 (old_header m rows) ++ body_bytes rows

pub old_is_read : header_in 500 4 0 (old_bytes mark.One (five ∷ [])) ≡ Ok (Some (old_header mark.One (five ∷ [])))
unfolding header_in header_at bad_field header_tests header_bytes rows_bytes row_bytes index_bytes entry_bytes body nodes_in
old_is_read = refl

-- a row of node 1 that changes its leaf may stand in a format that has its kind
fits_leaf_row : (m : Mark) (version : ℕ) (change : Rec) → kind change ≤ last_kind m → kind change ≢ 1 → 1 ≤ version → version ≤ greatest → FitsRec change → FitsRow m (row_of 99 1 version change)
fits_leaf_row m version change of_format other low high fits = record {
  of_format = of_format;
  bucket = omega arith;
  number = omega arith;
  head = (λ e. absurd (omega (arith, e)), λ e. absurd (other e));
  version_low = low;
  version_high = high;
  rec = fits;
}

fits_five : FitsRow mark.One five
fits_five = fits_leaf_row mark.One 1 (rec.Put (codes "c") (codes "5")) (omega arith) (λ e. omega (arith, e)) (omega arith) (omega arith) ((omega arith, omega arith), (omega arith, omega arith))

fits_plus : FitsRow mark.Two plus_two
fits_plus = fits_leaf_row mark.Two 2 (rec.Plus (codes "c") (pos 2)) (omega arith) (λ e. omega (arith, e)) (omega arith) (omega arith) ((omega arith, omega arith), omega arith)

-- a region of one row is sealed where its header is read, and its body
seals_row : (m : Mark) (row : Row) → FitsRow m row → header_in 500 1 0 (old_bytes m (row ∷ [])) ≡ Ok (Some (old_header m (row ∷ []))) → body_in (old_bytes m (row ∷ []) ∷ []) 0 (old_header m (row ∷ [])) ≡ body_bytes (row ∷ []) ++ []
    → IsRegion 500 (old_bytes m (row ∷ []) ∷ []) 0 (sealed (record { first = 1; last = 1 }) (row ∷ []))
seals_row m row fits is_read spelled = record {
  header = old_header m (row ∷ []);
  has_header = is_read;
  of_range = refl;
  of_rows = (refl, refl, refl);
  rows_fit = (fits, tt);
  ordered = refl;
  spelled = ([], spelled);
}

-- it is sealed
pub old_is_sealed : IsRegion 500 (old_bytes mark.One (five ∷ []) ∷ []) 0 (sealed (record { first = 1; last = 1 }) (five ∷ []))
unfolding header_in header_at bad_field header_tests header_bytes rows_bytes row_bytes index_bytes entry_bytes body nodes_in body_in
old_is_sealed = seals_row mark.One five fits_five refl refl

-- a row that the first format allows, the others allow too
pub fits_later : (row : Row) → FitsRow mark.One row → FitsRow mark.Two row
fits_later row f = record {
  of_format = omega (arith, f.of_format);
  bucket = f.bucket;
  number = f.number;
  head = f.head;
  version_low = f.version_low;
  version_high = f.version_high;
  rec = f.rec;
}

-- no row of the first format is spelled as an addition is
no_addition : (row : Row) (more : List ℕ) → FitsRow mark.One row → row_bytes plus_two ++ [] ≡ row_bytes row ++ more → ⊥
no_addition row more f e =
    let same = row_spelling mark.Two plus_two row [] more fits_plus (fits_later row f) e in
    let nine : 9 ≡ kind row.rec = ap (λ r. kind r.rec) same.0 in
    omega (arith, nine, f.of_format)

-- An addition in a partition of the first format is bad at its start.
pub old_without_additions : IsRegion 500 (old_bytes mark.One (plus_two ∷ []) ∷ []) 0 (bad 0 41)
unfolding header_in header_at bad_field header_tests header_bytes rows_bytes row_bytes index_bytes entry_bytes body nodes_in body_in place_of
old_without_additions = inr (record {
  header = old_header mark.One (plus_two ∷ []);
  has_header = refl;
  at = 0;
  is_bad = inl (record {
    rows = [];
    rest = row_bytes plus_two;
    good = record { fit = tt; ordered = refl; spelled = refl; counted = omega arith };
    place = refl;
    unfinished = inl (omega arith);
    last = λ row more begins. no_addition row more begins.fit.0 (begins.spelled ∙ append_assoc (row_bytes row) [] more);
  });
  stands = refl;
})

-- and in one of the second it is sealed
pub new_with_additions : IsRegion 500 (old_bytes mark.Two (plus_two ∷ []) ∷ []) 0 (sealed (record { first = 1; last = 1 }) (plus_two ∷ []))
unfolding header_in header_at bad_field header_tests header_bytes rows_bytes row_bytes index_bytes entry_bytes body nodes_in body_in
new_with_additions = seals_row mark.Two plus_two fits_plus refl refl

-- the merged partition of both epochs: its mark, and what is printed of it
pub merged_mark : take 4 (partition_bytes 4096 (record { first = 1; last = 2 }) (seven ∷ [])) ≡ codes "FLP2"
unfolding partition_bytes header_bytes body nodes_in rows_bytes row_bytes index_bytes entry_bytes
merged_mark = refl

pub merged_printed : ranges (record { region = 2; header = header_of (record { first = 1; last = 2 }) (seven ∷ []) } ∷ [])
    ≡ codes "range 1 2 region 2 rows 1" ++ 10 ∷ codes "end 2" ++ 10 ∷ []
unfolding ranges digits nodes_in body
merged_printed = refl

-- reads, scans and deletions of absent keys push nothing, and a deletion of a key that is there one row
pub read_nothing : all_pushed (five ∷ []) (call.Get (codes "c") ∷ call.Scan (codes "a") (codes "z") 9 ∷ call.Del (codes "b") ∷ []) ≡ Ok []
unfolding digits number_text number_of get set map_after answer add_answer number_at sum_answer added changed step replay content bucket_of leaf_for split_leaf grown_leaf split_inner grown_inner growth with_head set_push leaf_push pairs_beside add_push call_push push_of within_limits all_pushed
read_nothing = refl

pub deleted_there : pushed (five ∷ []) (call.Del (codes "c")) ≡ Ok (row_of 99 1 2 (rec.Del (codes "c")) ∷ [])
unfolding digits number_text number_of get set map_after answer add_answer number_at sum_answer added changed step replay content bucket_of leaf_for split_leaf grown_leaf split_inner grown_inner growth with_head set_push leaf_push pairs_beside add_push call_push push_of within_limits all_pushed
deleted_there = refl

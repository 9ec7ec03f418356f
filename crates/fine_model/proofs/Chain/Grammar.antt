-- A region is closed, bad or sealed, and no two of these.
use Rattle.std.proofs.Common.{◌≡◌, ◌≢◌, ◌⊎◌, ℕ, ◌+◌, ◌*◌, ◌<◌, ◌≤◌, true, ◌&&◌, List, [], ◌∷◌, ◌++◌, length, take, drop, Some, Ok, Err, refl, sym, ap, ◌∙◌, subst, inl, inr, arith, append_assoc, append-nil, length-append, take_at, drop_at}
use Rattle.std.specs.Prelude.{Result, Option, flat_map}
use Rattle.std.specs.List.{AllByRecursion}
use Rattle.std.proofs.lemmas.List.Sums.{sum_by-cons}
use Rattle.std.proofs.lemmas.Bool.{and_parts}
use Rattle.fine_model.specs.Types.{NodeId, Row, Range, Mark, Header}
use Rattle.fine_model.specs.RowBytes.{row_bytes, row_len, rows_bytes, rows_len, FitsRow}
use Rattle.fine_model.specs.Merge.{is_row_below, is_ordered, nodes_in}
use Rattle.fine_model.specs.Regions.{Image, body_in, body_bytes, index_bytes, entry_bytes, row_area, index_area, BeginsWithRows, IsBadRow, IsBadEntry, IsRegion, bad, sealed}
use Rattle.fine_model.proofs.Chain.Spelling.{row_spelling}
use Rattle.fine_model.proofs.Ordered.Zip.{all_left}

-- the bytes of a row, and of rows, are as many as their lengths say
pub row_long : (row : Row) → length (row_bytes row) ≡ row_len row
unfolding row_bytes
row_long row = omega arith

pub rows_long : (rows : List Row) → length (rows_bytes rows) ≡ rows_len rows
unfolding rows_bytes
rows_long [] = refl
rows_long (row ∷ rows) =
    let rest : length (flat_map row_bytes rows) ≡ rows_len rows = rows_long rows in
    let both_long : length (flat_map row_bytes (row ∷ rows)) ≡ length (row_bytes row) + length (flat_map row_bytes rows) = length-append (row_bytes row) (flat_map row_bytes rows) in
    both_long ∙ ap (λ n. n + length (flat_map row_bytes rows)) (row_long row) ∙ ap (λ n. row_len row + n) rest ∙ sym (sum_by-cons row_len row rows)

pub entries_long : (rows : List Row) (ids : List NodeId) → length (flat_map (entry_bytes rows) ids) ≡ 14 * length ids
unfolding entry_bytes
entries_long rows [] = refl
entries_long rows (id ∷ ids) = omega (arith, entries_long rows ids, length-append (entry_bytes rows id) (flat_map (entry_bytes rows) ids))

-- rows that are spelled at the front of others are the front of these
pub rows_begin : (mark : Mark) (front rows : List Row) (x y : List ℕ) → length front ≤ length rows → AllByRecursion (FitsRow mark) front → AllByRecursion (FitsRow mark) rows
    → rows_bytes front ++ x ≡ rows_bytes rows ++ y → (more : List Row) × (rows ≡ front ++ more) × (x ≡ rows_bytes more ++ y)
unfolding rows_bytes
rows_begin mark [] rows x y long f g e = (rows, refl, e)
rows_begin mark (a ∷ front) [] x y long f g e = absurd (omega (arith, long))
rows_begin mark (a ∷ front) (b ∷ rows) x y long f g e =
    let s = row_spelling mark a b (flat_map row_bytes front ++ x) (flat_map row_bytes rows ++ y) f.0 g.0
    (sym (append_assoc (row_bytes a) (flat_map row_bytes front) x) ∙ e ∙ append_assoc (row_bytes b) (flat_map row_bytes rows) y) in
    let rest = rows_begin mark front rows x y (omega (arith, long)) f.1 g.1 s.1 in
    (rest.0, (λ i. sym s.0 i ∷ rest.1 i), rest.2)

pub ordered_front : (front more : List Row) → is_ordered (front ++ more) ≡ true → is_ordered front ≡ true
ordered_front [] more e = refl
ordered_front (a ∷ []) more e = refl
ordered_front (a ∷ b ∷ front) more e =
    let s = and_parts (is_row_below a b) (is_ordered (b ∷ (front ++ more))) e in
    ap (λ x. x && is_ordered (b ∷ front)) s.0 ∙ ordered_front (b ∷ front) more s.1

pub rows_bytes-append : (a b : List Row) → rows_bytes (a ++ b) ≡ rows_bytes a ++ rows_bytes b
unfolding rows_bytes
rows_bytes-append [] b = refl
rows_bytes-append (row ∷ a) b = ap (λ x. row_bytes row ++ x) (rows_bytes-append a b) ∙ sym (append_assoc (row_bytes row) (flat_map row_bytes a) (flat_map row_bytes b))

-- some first rows of all of them, which are not unfinished where they are all
pub all_finished : (rows good : List Row) (rest : List ℕ) (count : ℕ) → count ≡ length rows → rows ≡ good ++ [] → rest ≡ [] → (length good < count) ⊎ (rest ≢ []) → ⊥
all_finished rows good rest count counts all none (inl fewer) = let long = ap length (all ∙ append-nil good) in omega (arith, fewer, long, counts)
all_finished rows good rest count counts all none (inr left) = left none

-- and with the next row, where there is one, are first rows again
pub record Following (mark : Mark) (rows front others : List Row) : Type 0 where
  pub whole : rows ≡ front ++ others
  pub fit : AllByRecursion (FitsRow mark) front
  pub spelled : rows_bytes rows ≡ rows_bytes front ++ rows_bytes others
  pub counted : length front ≤ length rows

pub following : (mark : Mark) (rows good : List Row) (row : Row) (others : List Row) → rows ≡ good ++ row ∷ others → AllByRecursion (FitsRow mark) rows → Following mark rows (good ++ row ∷ []) others
following mark rows good row others all fit = record {
  whole = whole;
  fit = all_left (FitsRow mark) (good ++ row ∷ []) others (subst (AllByRecursion (FitsRow mark)) whole fit);
  spelled = ap rows_bytes whole ∙ rows_bytes-append (good ++ row ∷ []) others;
  counted = let long = ap length whole in omega (arith, long, length-append (good ++ row ∷ []) others);
}
  where
    whole : rows ≡ (good ++ row ∷ []) ++ others
    whole = all ∙ sym (append_assoc good (row ∷ []) others)

module _ (header : Header) (bytes : List ℕ) (rows : List Row) (rest : List ℕ) (counts : (header.rows ≡ length rows) × (header.nodes ≡ length (nodes_in rows)) × (header.area ≡ rows_len rows)) (fit : AllByRecursion (FitsRow header.mark) rows) (ordered : is_ordered rows ≡ true) (spelled : bytes ≡ body_bytes rows ++ rest) where
  area : row_area header bytes ≡ rows_bytes rows
  area =
      ap (take header.area) (spelled ∙ append_assoc (rows_bytes rows) (index_bytes rows) rest)
      ∙ take_at (rows_bytes rows) (index_bytes rows ++ rest) header.area (rows_long rows ∙ sym counts.2)

  index : index_area header bytes ≡ index_bytes rows
  unfolding index_bytes
  index =
      ap (λ x. take (14 * header.nodes) (drop header.area x)) (spelled ∙ append_assoc (rows_bytes rows) (index_bytes rows) rest)
      ∙ ap (take (14 * header.nodes)) (drop_at (rows_bytes rows) (index_bytes rows ++ rest) header.area (rows_long rows ∙ sym counts.2))
      ∙ take_at (index_bytes rows) rest (14 * header.nodes) (entries_long rows (nodes_in rows) ∙ ap (λ n. 14 * n) (sym counts.1))

  -- good rows are the front of all rows
  front : (good : List Row) (more : List ℕ) → BeginsWithRows header bytes good more → (others : List Row) × (rows ≡ good ++ others) × (more ≡ rows_bytes others ++ [])
  front good more b = rows_begin header.mark good rows more [] (omega (arith, b.counted, counts.0)) b.fit fit (sym b.spelled ∙ area ∙ sym (append-nil (rows_bytes rows)))

  no_bad_row : (at : ℕ) → IsBadRow header bytes at → ⊥
  unfolding rows_bytes
  no_bad_row at b = by (front b.rows b.rest b.good)
    where
      by : (others : List Row) × (rows ≡ b.rows ++ others) × (b.rest ≡ rows_bytes others ++ []) → ⊥
      by ([], all, none) = all_finished rows b.rows b.rest header.rows counts.0 all none b.unfinished
      by (row ∷ others, all, more) =
          let f = following header.mark rows b.rows row others all fit in
          b.last row (rows_bytes others) (record {
            fit = f.fit;
            ordered = ordered_front (b.rows ++ row ∷ []) others (ap is_ordered (sym f.whole) ∙ ordered);
            spelled = area ∙ f.spelled;
            counted = let c = f.counted in omega (arith, c, counts.0);
          })

  no_bad_entry : (at : ℕ) → IsBadEntry header bytes at → ⊥
  no_bad_entry at b = by (front b.rows [] b.good)
    where
      by : (others : List Row) × (rows ≡ b.rows ++ others) × ([] ≡ rows_bytes others ++ []) → ⊥
      by ([], all, none) =
          let same : rows ≡ b.rows = all ∙ append-nil b.rows in
          elim b.bad as (λ _. ⊥) [
            | inl other ↦ other (ap (take (14 * (b.entry + 1))) (index ∙ ap index_bytes same))
            | inr fewer ↦ let long = ap (λ r. length (nodes_in r)) same in omega (arith, fewer.0, fewer.1, counts.1, long)
          ]
      by (row ∷ others, all, none) = let long = ap length all in omega (arith, long, b.all, counts.0, length-append b.rows (row ∷ others))

-- what is sealed is not bad
pub sealed_not_bad : (region_len : ℕ) (image : Image) (lead region at : ℕ) (range : Range) (rows : List Row)
    → IsRegion region_len image lead (sealed range rows) → IsRegion region_len image lead (bad region at) → ⊥
sealed_not_bad region_len image lead region at range rows s (inl field) =
    let e : ◌≡◌ {A = Result (Option Header) ℕ} (Ok (Some s.header)) (Err at) = sym s.has_header ∙ field.1 in cc
sealed_not_bad region_len image lead region at range rows s (inr b) =
    let e : ◌≡◌ {A = Result (Option Header) ℕ} (Ok (Some b.header)) (Ok (Some s.header)) = sym b.has_header ∙ s.has_header in
    let same : b.header ≡ s.header = cc in
    elim b.is_bad as (λ _. ⊥) [
      | inl row ↦ no_bad_row s.header (body_in image lead s.header) rows s.spelled.0 s.of_rows s.rows_fit s.ordered s.spelled.1 b.at (subst (λ h. IsBadRow h (body_in image lead h) b.at) same row)
      | inr entry ↦ no_bad_entry s.header (body_in image lead s.header) rows s.spelled.0 s.of_rows s.rows_fit s.ordered s.spelled.1 b.at (subst (λ h. IsBadEntry h (body_in image lead h) b.at) same entry)
    ]

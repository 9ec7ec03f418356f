-- An index, entry by entry.
use Rattle.std.proofs.Common.{◌≡◌, ◌≢◌, ℕ, zero, suc, ◌+◌, ◌-◌, ◌*◌, ◌<◌, ◌≤◌, List, [], ◌∷◌, ◌++◌, length, take, drop, get_or, refl, sym, ap, ◌∙◌, inl, inr, arith, length-append, length-take, length-drop, take_at, drop_at}
use Rattle.std.specs.Prelude.{flat_map}
use Rattle.std.proofs.Math.Seq.{take-add}
use Rattle.std.proofs.lemmas.List.{drop-drop, take_all, take-take, length-map}
use Rattle.fine_model.specs.declared.Header.{Header}
use Rattle.fine_model.specs.declared.Row.{Row}
use Rattle.fine_model.specs.Merge.{nodes_in}
use Rattle.fine_model.specs.Regions.{index_bytes, index_area, IsBadEntry, body_len}
use Rattle.fine_model.proofs.Chain.Spelling.{split_same}
use Rattle.partition_index.specs.Entries.{bytes_of, entry_for}
use Rattle.partition_index.specs.Index.{entries_of}
use Rattle.partition_index.specs.declared.entries.IndexEntry.{IndexEntry}
use Rattle.partition_index.proofs.Bytes.{index_is as bytes_are}
use Rattle.log_partition.specs.Bodies.{AreTheRows, IsTheIndex}

-- what an index has behind its end
abbrev pub no_entry : IndexEntry
no_entry = record { node = record { bucket = 0; number = 0 }; offset = 0; rows = 0 }

pub index_is : (rows : List Row) → index_bytes rows ≡ flat_map bytes_of (entries_of rows)
index_is rows = sym (bytes_are rows)

entry_long : (e : IndexEntry) → length (bytes_of e) ≡ 14
unfolding bytes_of
entry_long e = refl

entries_long : (es : List IndexEntry) → length (flat_map bytes_of es) ≡ 14 * length es
entries_long [] = refl
entries_long (e ∷ es) = omega (arith, entries_long es, entry_long e, length-append (bytes_of e) (flat_map bytes_of es))

pub entries_count : (rows : List Row) → length (entries_of rows) ≡ length (nodes_in rows)
unfolding entries_of
entries_count rows = length-map (nodes_in rows) (entry_for rows)

pub index_long : (rows : List Row) → length (index_bytes rows) ≡ 14 * length (nodes_in rows)
index_long rows = ap length (index_is rows) ∙ entries_long (entries_of rows) ∙ ap (λ n. 14 * n) (entries_count rows)

piece : (es : List IndexEntry) (i : ℕ) (d : IndexEntry) → i < length es → take 14 (drop (14 * i) (flat_map bytes_of es)) ≡ bytes_of (get_or es i d)
piece [] i d lt = absurd (omega (arith, lt))
piece (e ∷ es) zero d lt = take_at (bytes_of e) (flat_map bytes_of es) 14 (entry_long e)
piece (e ∷ es) (suc i) d lt =
    let k : 14 * suc i ≡ 14 + 14 * i = omega arith in
    ap (λ n. take 14 (drop n (bytes_of e ++ flat_map bytes_of es))) k ∙ ap (take 14) (sym (drop-drop (14 * i) 14 (bytes_of e ++ flat_map bytes_of es)))
    ∙ ap (λ xs. take 14 (drop (14 * i) xs)) (drop_at (bytes_of e) (flat_map bytes_of es) 14 (entry_long e)) ∙ piece es i d (omega (arith, lt))

-- one entry more of two indexes
one_more : (xs ys : List ℕ) (i : ℕ) → take (14 * i) xs ≡ take (14 * i) ys → take 14 (drop (14 * i) xs) ≡ take 14 (drop (14 * i) ys) → take (14 * (i + 1)) xs ≡ take (14 * (i + 1)) ys
one_more xs ys i e f =
    let k : 14 * (i + 1) ≡ 14 * i + 14 = omega arith in
    ap (λ n. take n xs) k ∙ take-add (14 * i) 14 xs ∙ (λ j. e j ++ f j) ∙ sym (take-add (14 * i) 14 ys) ∙ sym (ap (λ n. take n ys) k)

one_less : (xs ys : List ℕ) (i : ℕ) → take (14 * i) xs ≡ take (14 * i) ys → take (14 * (i + 1)) xs ≡ take (14 * (i + 1)) ys → take 14 (drop (14 * i) xs) ≡ take 14 (drop (14 * i) ys)
one_less xs ys i e f =
    let k : 14 * (i + 1) ≡ 14 * i + 14 = omega arith in
    let g : take (14 * i) xs ++ take 14 (drop (14 * i) xs) ≡ take (14 * i) ys ++ take 14 (drop (14 * i) ys) = sym (take-add (14 * i) 14 xs) ∙ sym (ap (λ n. take n xs) k) ∙ f ∙ ap (λ n. take n ys) k ∙ take-add (14 * i) 14 ys in
    (split_same (take (14 * i) xs) (take (14 * i) ys) (take 14 (drop (14 * i) xs)) (take 14 (drop (14 * i) ys)) (ap length e) g).1

module _ (header : Header) (body : List ℕ) (rows : List Row) (long : length body ≡ body_len header) where
  area_is : index_area header body ≡ drop header.area body
  area_is = take_all (14 * header.nodes) (drop header.area body) (omega (arith, long, length-drop header.area body))

  area_long : length (index_area header body) ≡ 14 * header.nodes
  area_long = ap length area_is ∙ (let n : length (drop header.area body) ≡ 14 * header.nodes = omega (arith, long, length-drop header.area body) in n)

  entry_there : (i : ℕ) → take 14 (drop (14 * i) (index_area header body)) ≡ take 14 (drop (header.area + 14 * i) body)
  entry_there i = ap (λ xs. take 14 (drop (14 * i) xs)) area_is ∙ ap (take 14) (drop-drop (14 * i) header.area body)

  entry_wanted : (i : ℕ) (d : IndexEntry) → i < length (entries_of rows) → take 14 (drop (14 * i) (index_bytes rows)) ≡ bytes_of (get_or (entries_of rows) i d)
  entry_wanted i d lt = ap (λ xs. take 14 (drop (14 * i) xs)) (index_is rows) ∙ piece (entries_of rows) i d lt

  pub good_entry : (i : ℕ) (d : IndexEntry) → i < length (entries_of rows) → take (14 * i) (index_area header body) ≡ take (14 * i) (index_bytes rows) → take 14 (drop (header.area + 14 * i) body) ≡ bytes_of (get_or (entries_of rows) i d)
      → take (14 * (i + 1)) (index_area header body) ≡ take (14 * (i + 1)) (index_bytes rows)
  good_entry i d lt before same = one_more (index_area header body) (index_bytes rows) i before (entry_there i ∙ same ∙ sym (entry_wanted i d lt))

  -- the entry at a place is bad where the entries up to it are not those that are wanted
  bad_entry : (i : ℕ) → AreTheRows header body rows → i < header.nodes → take (14 * i) (index_area header body) ≡ take (14 * i) (index_bytes rows)
      → take (14 * (i + 1)) (index_area header body) ≢ take (14 * (i + 1)) (index_bytes rows) → IsBadEntry header body (header.area + 14 * i)
  bad_entry i r there before differ = record { rows = rows; good = r.good; all = r.all; entry = i; there = there; place = refl; before = before; bad = inl differ }

  pub other_entry : (i : ℕ) (d : IndexEntry) → AreTheRows header body rows → i < length (entries_of rows) → i < header.nodes → take (14 * i) (index_area header body) ≡ take (14 * i) (index_bytes rows)
      → (take 14 (drop (header.area + 14 * i) body) ≡ bytes_of (get_or (entries_of rows) i d) → ⊥) → IsBadEntry header body (header.area + 14 * i)
  other_entry i d r lt there before other =
      bad_entry i r there before (λ same. other (sym (entry_there i) ∙ one_less (index_area header body) (index_bytes rows) i before same ∙ entry_wanted i d lt))

  pub no_node_left : (i : ℕ) → AreTheRows header body rows → i ≡ length (entries_of rows) → i < header.nodes → take (14 * i) (index_area header body) ≡ take (14 * i) (index_bytes rows) → IsBadEntry header body (header.area + 14 * i)
  no_node_left i r end there before =
      bad_entry i r there before
      (λ same. let n = ap length same in omega (arith, n, end, there, area_long, index_long rows, entries_count rows, length-take (14 * (i + 1)) (index_area header body), length-take (14 * (i + 1)) (index_bytes rows)))

  pub node_left : (i : ℕ) → AreTheRows header body rows → i ≡ header.nodes → 0 < i → i < length (entries_of rows) → take (14 * i) (index_area header body) ≡ take (14 * i) (index_bytes rows) → IsBadEntry header body (header.area + 14 * (i - 1))
  node_left i r end some more before =
      let less : 14 * (i - 1) ≤ 14 * i = omega arith in record {
        rows = rows;
        good = r.good;
        all = r.all;
        entry = i - 1;
        there = omega (arith, end, some);
        place = refl;
        before = sym (take-take (14 * (i - 1)) (14 * i) (index_area header body) less) ∙ ap (take (14 * (i - 1))) before ∙ take-take (14 * (i - 1)) (14 * i) (index_bytes rows) less;
        bad = inr (omega (arith, end, some), omega (arith, more, some, entries_count rows));
      }

  pub whole_index : (i : ℕ) → i ≡ header.nodes → i ≡ length (entries_of rows) → take (14 * i) (index_area header body) ≡ take (14 * i) (index_bytes rows) → IsTheIndex header body rows
  whole_index i end count before = record {
    nodes = sym end ∙ count ∙ entries_count rows;
    index = sym (take_all (14 * i) (index_area header body) (omega (arith, end, area_long))) ∙ before ∙ take_all (14 * i) (index_bytes rows) (omega (arith, count, entries_count rows, index_long rows));
  }

none_named : (rows : List Row) → length rows ≡ 0 → length (nodes_in rows) ≡ 0
unfolding nodes_in
none_named [] e = refl
none_named (row ∷ rows) e = absurd (omega (arith, e))

-- where nodes are named, the header counts some
pub some_named : (header : Header) (body : List ℕ) (rows : List Row) → AreTheRows header body rows → (header.nodes ≡ 0 → header.rows ≡ 0) → header.nodes < length (entries_of rows) → 0 < header.nodes
some_named header body rows r some more = by header.nodes refl
  where
    by : (n : ℕ) → header.nodes ≡ n → 0 < header.nodes
    by zero e = absurd (omega (arith, none_named rows (r.all ∙ some e), entries_count rows, more))
    by (suc n) e = omega (arith, e)

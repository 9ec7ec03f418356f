-- The index of a region in the grammar.
use Rattle.std.proofs.Common.{◌≡◌, ◌⊎◌, ℕ, zero, suc, ◌+◌, ◌*◌, ◌^◌, ◌<◌, ◌≤◌, ◌==◌, Bool, true, false, cond, List, [], ◌∷◌, ◌++◌, length, get_or, take, drop, refl, sym, ap, ◌∙◌, subst, inl, inr, arith, append_assoc, take_at, drop_at, Ok}
use Rattle.std.specs.Prelude.{filter, flat_map, nat_lt}
use Rattle.std.specs.List.{AllByRecursion}
use Rattle.std.proofs.lemmas.Bool.{lt-ltb, le-ltb, cases_lt}
use Rattle.std.proofs.lemmas.Bool.Decides.{nat_tests}
use Rattle.std.proofs.lemmas.Nat.{from_be_bytes-to_be_bytes_2, from_be_bytes-to_be_bytes_4}
use Rattle.std.proofs.lemmas.List.{drop-drop}
use Rattle.std.proofs.lemmas.List.Sums.{sum_by-cons, length-filter, count_by-le-length}
use Rattle.fine_model.specs.declared.Header.{Header}
use Rattle.fine_model.specs.declared.NodeId.{NodeId}
use Rattle.fine_model.specs.declared.Row.{Row}
use Rattle.fine_model.specs.Nodes.{is_node, rows_of}
use Rattle.fine_model.specs.RowBytes.{row_len, rows_len, rows_bytes}
use Rattle.fine_model.specs.Merge.{is_node_below, nodes_in}
use Rattle.fine_model.specs.Regions.{body_bytes, entry_bytes, index_bytes}
use Rattle.fine_model.specs.Seek.{entry_of, entry_at, entry_place, is_entry, span_at, span_end, is_followed}
use Rattle.fine_model.proofs.Chain.Grammar.{rows_long}
use Rattle.fine_model.proofs.Merging.NodesIn.{is_node-self, is_node_below-self}
use Rattle.fine_model.proofs.Ordered.Order.{filter_all}
use Rattle.partition_index.specs.Entries.{model_of, entry_for, row_span_of}
use Rattle.partition_index.specs.Search.{span_for}
use Rattle.partition_index.proofs.Entry.{entry_from, span_good}
use Rattle.partition_index.proofs.NodeOrder.{below-asym, below-other, offset_of}
use Rattle.partition_index.proofs.Opened.{few_rows}
use Rattle.partition_index.proofs.Sorted.{Stands, Ascend, nodes_ascend, ascend_at, row_stands, all_nodes, has_rows}

-- a header and a body of these rows
pub record HoldsRows (header : Header) (body : List ℕ) (rows : List Row) : Type 0 where
  pub counted : header.rows ≡ length rows
  pub nodes : header.nodes ≡ length (nodes_in rows)
  pub area : header.area ≡ rows_len rows
  pub small : rows_len rows < 4294967296
  pub fit : AllByRecursion (λ r. (r.node.bucket < 256) × (r.node.number < 1048576)) rows
  pub rest : List ℕ
  pub spelled : body ≡ body_bytes rows ++ rest

-- ---- the tests of nodes by their places

place_below : (ids : List NodeId) (k i : ℕ) (d : NodeId) → Ascend ids → k < length ids → i < length ids → is_node_below (get_or ids k d) (get_or ids i d) ≡ nat_lt k i
place_below ids k i d up a b = by (cases_lt k i)
  where
    by : (k < i) ⊎ (i ≤ k) → is_node_below (get_or ids k d) (get_or ids i d) ≡ nat_lt k i
    by (inl low) = ascend_at ids k i d up low b ∙ sym (lt-ltb k i low)
    by (inr high) = same (cases_lt i k) ∙ sym (le-ltb k i high)
      where
        same : (i < k) ⊎ (k ≤ i) → is_node_below (get_or ids k d) (get_or ids i d) ≡ false
        same (inl above) = below-asym (get_or ids i d) (get_or ids k d) (ascend_at ids i k d up above a)
        same (inr low) = let e : k ≡ i = omega arith in ap (λ n. is_node_below (get_or ids n d) (get_or ids i d)) e ∙ is_node_below-self (get_or ids i d)

place_is : (ids : List NodeId) (k i : ℕ) (d : NodeId) → Ascend ids → k < length ids → i < length ids → is_node (get_or ids i d) (get_or ids k d) ≡ (k == i)
place_is ids k i d up a b = by (cases_lt k i) (cases_lt i k)
  where
    other : (k == i) ≡ (k == i)
    other = refl

    by : (k < i) ⊎ (i ≤ k) → (i < k) ⊎ (k ≤ i) → is_node (get_or ids i d) (get_or ids k d) ≡ (k == i)
    by (inl low) y = (below-other (get_or ids k d) (get_or ids i d) (ascend_at ids k i d up low b)).1 ∙ let e : false ≡ (k == i) = grind (arith, nat_tests) in e
    by (inr x) (inl above) = (below-other (get_or ids i d) (get_or ids k d) (ascend_at ids i k d up above a)).0 ∙ let e : false ≡ (k == i) = grind (arith, nat_tests) in e
    by (inr x) (inr y) =
        let e : k ≡ i = omega arith in
        ap (λ n. is_node (get_or ids i d) (get_or ids n d)) e ∙ is_node-self (get_or ids i d) ∙ let t : true ≡ (k == i) = grind (arith, nat_tests) in t

-- ---- the bytes of rows by their nodes

-- a test is true where exactly one of two is
abbrev Parts : Bool → Bool → Bool → Type 0
Parts p q s = ((p ≡ true) × (q ≡ false) × (s ≡ true)) ⊎ ((p ≡ false) × (q ≡ true) × (s ≡ true)) ⊎ ((p ≡ false) × (q ≡ false) × (s ≡ false))

sum_parts : (p q s : Row → Bool) (rows : List Row) → AllByRecursion (λ r. Parts (p r) (q r) (s r)) rows → rows_len (filter s rows) ≡ rows_len (filter p rows) + rows_len (filter q rows)
sum_parts p q s [] all = omega arith
sum_parts p q s (r ∷ rows) all = by (sum_parts p q s rows all.1) all.0
  where
    f : (Row → Bool) → Bool → ℕ
    f t b = rows_len (cond b (r ∷ filter t rows) (filter t rows))

    one : (t : Row → Bool) → rows_len (r ∷ filter t rows) ≡ row_len r + rows_len (filter t rows)
    one t = sum_by-cons row_len r (filter t rows)

    by : rows_len (filter s rows) ≡ rows_len (filter p rows) + rows_len (filter q rows) → Parts (p r) (q r) (s r) → f s (s r) ≡ f p (p r) + f q (q r)
    by rest (inl h) = let e : f s true ≡ f p true + f q false = omega (arith, one s, one p, rest) in ap (f s) h.2 ∙ e ∙ sym (λ i. f p (h.0 i) + f q (h.1 i))
    by rest (inr (inl h)) = let e : f s true ≡ f p false + f q true = omega (arith, one s, one q, rest) in ap (f s) h.2 ∙ e ∙ sym (λ i. f p (h.0 i) + f q (h.1 i))
    by rest (inr (inr h)) = let e : f s false ≡ f p false + f q false = rest in ap (f s) h.2 ∙ e ∙ sym (λ i. f p (h.0 i) + f q (h.1 i))

all_from_at : (P : Row → Type 0) (rows : List Row) → ((i : ℕ) (d : Row) → i < length rows → P (get_or rows i d)) → AllByRecursion P rows
all_from_at P [] at = tt
all_from_at P (r ∷ rows) at = (at 0 r (omega arith), all_from_at P rows (λ i d h. at (suc i) d (omega (arith, h))))

-- Where the rows of a node end, those of the next one begin.
pub next_offset : (rows : List Row) (i : ℕ) (d : NodeId) → i + 1 < length (nodes_in rows)
    → offset_of rows (get_or (nodes_in rows) (i + 1) d) ≡ offset_of rows (get_or (nodes_in rows) i d) + rows_len (rows_of (get_or (nodes_in rows) i d) rows)
next_offset rows i d here =
    sum_parts (λ r. is_node_below r.node (get_or ids i d)) (λ r. is_node (get_or ids i d) r.node) (λ r. is_node_below r.node (get_or ids (i + 1) d)) rows
    (all_from_at P rows (λ j e h. parts (get_or rows j e).node (row_stands rows j e h)))
  where
    ids : List NodeId
    ids = nodes_in rows

    P : Row → Type 0
    P r = Parts (is_node_below r.node (get_or ids i d)) (is_node (get_or ids i d) r.node) (is_node_below r.node (get_or ids (i + 1) d))

    tests : (k : ℕ) → Parts (nat_lt k i) (k == i) (nat_lt k (i + 1))
    tests k = elim (cases_lt k i) as (λ _. Parts (nat_lt k i) (k == i) (nat_lt k (i + 1))) [
      | inl low ↦ let e : (k == i) ≡ false = grind (arith, nat_tests) in inl (lt-ltb k i low, e, lt-ltb k (i + 1) (omega arith))
      | inr high ↦ elim (cases_lt i k) as (λ _. Parts (nat_lt k i) (k == i) (nat_lt k (i + 1))) [
        | inl above ↦ let e : (k == i) ≡ false = grind (arith, nat_tests) in inr (inr (le-ltb k i high, e, le-ltb k (i + 1) (omega arith)))
        | inr low ↦ let e : (k == i) ≡ true = grind (arith, nat_tests) in inr (inl (le-ltb k i high, e, lt-ltb k (i + 1) (omega arith)))
      ]
    ]

    parts : (id : NodeId) → Stands id ids → Parts (is_node_below id (get_or ids i d)) (is_node (get_or ids i d) id) (is_node_below id (get_or ids (i + 1) d))
    parts id s =
        let a : is_node_below id (get_or ids i d) ≡ nat_lt s.at i = sym (ap (λ n. is_node_below n (get_or ids i d)) (s.is d)) ∙ place_below ids s.at i d (nodes_ascend rows) s.there (omega arith) in
        let b : is_node (get_or ids i d) id ≡ (s.at == i) = sym (ap (λ n. is_node (get_or ids i d) n) (s.is d)) ∙ place_is ids s.at i d (nodes_ascend rows) s.there (omega arith) in
        let c : is_node_below id (get_or ids (i + 1) d) ≡ nat_lt s.at (i + 1) = sym (ap (λ n. is_node_below n (get_or ids (i + 1) d)) (s.is d)) ∙ place_below ids s.at (i + 1) d (nodes_ascend rows) s.there here in
        subst (λ x. Parts x (is_node (get_or ids i d) id) (is_node_below id (get_or ids (i + 1) d))) (sym a)
        (subst (λ y. Parts (nat_lt s.at i) y (is_node_below id (get_or ids (i + 1) d))) (sym b) (subst (λ z. Parts (nat_lt s.at i) (s.at == i) z) (sym c) (tests s.at)))

-- Behind the rows of the last node there are none.
pub last_offset : (rows : List Row) (i : ℕ) (d : NodeId) → i + 1 ≡ length (nodes_in rows)
    → rows_len rows ≡ offset_of rows (get_or (nodes_in rows) i d) + rows_len (rows_of (get_or (nodes_in rows) i d) rows)
last_offset rows i d last =
    sym (ap rows_len (filter_all (λ r. true) rows (all_from_at (λ r. true ≡ true) rows (λ j e h. refl))))
    ∙ sum_parts (λ r. is_node_below r.node (get_or ids i d)) (λ r. is_node (get_or ids i d) r.node) (λ r. true) rows
    (all_from_at P rows (λ j e h. parts (get_or rows j e).node (row_stands rows j e h)))
  where
    ids : List NodeId
    ids = nodes_in rows

    P : Row → Type 0
    P r = Parts (is_node_below r.node (get_or ids i d)) (is_node (get_or ids i d) r.node) true

    tests : (k : ℕ) → k < length ids → Parts (nat_lt k i) (k == i) true
    tests k there = elim (cases_lt k i) as (λ _. Parts (nat_lt k i) (k == i) true) [
      | inl low ↦ let e : (k == i) ≡ false = grind (arith, nat_tests) in inl (lt-ltb k i low, e, refl)
      | inr high ↦ let e : k ≡ i = omega arith in let t : (k == i) ≡ true = grind (arith, nat_tests) in inr (inl (le-ltb k i high, t, refl))
    ]

    parts : (id : NodeId) → Stands id ids → Parts (is_node_below id (get_or ids i d)) (is_node (get_or ids i d) id) true
    parts id s =
        let a : is_node_below id (get_or ids i d) ≡ nat_lt s.at i = sym (ap (λ n. is_node_below n (get_or ids i d)) (s.is d)) ∙ place_below ids s.at i d (nodes_ascend rows) s.there (omega arith) in
        let b : is_node (get_or ids i d) id ≡ (s.at == i) = sym (ap (λ n. is_node (get_or ids i d) n) (s.is d)) ∙ place_is ids s.at i d (nodes_ascend rows) s.there (omega arith) in
        subst (λ x. Parts x (is_node (get_or ids i d) id) true) (sym a) (subst (λ y. Parts (nat_lt s.at i) y true) (sym b) (tests s.at s.there))

-- ---- entries and spans

filter_len : (p : Row → Bool) (rows : List Row) → rows_len (filter p rows) ≤ rows_len rows
filter_len p [] = omega arith
filter_len p (r ∷ rows) = by (p r) (filter_len p rows)
  where
    by : (t : Bool) → rows_len (filter p rows) ≤ rows_len rows → rows_len (cond t (r ∷ filter p rows) (filter p rows)) ≤ rows_len (r ∷ rows)
    by true rest = omega (arith, rest, sum_by-cons row_len r rows, sum_by-cons row_len r (filter p rows))
    by false rest = omega (arith, rest, sum_by-cons row_len r rows)

entry_long : (rows : List Row) (id : NodeId) → length (entry_bytes rows id) ≡ 14
unfolding entry_bytes
entry_long rows id = refl

-- pieces of one length
piece_at : (f : NodeId → List ℕ) (ids : List NodeId) (rest : List ℕ) (i : ℕ) (d : NodeId) → ((id : NodeId) → length (f id) ≡ 14) → i < length ids → take 14 (drop (14 * i) (flat_map f ids ++ rest)) ≡ f (get_or ids i d)
piece_at f [] rest i d long here = absurd (omega (arith, here))
piece_at f (id ∷ ids) rest zero d long here = ap (take 14) (append_assoc (f id) (flat_map f ids) rest) ∙ take_at (f id) (flat_map f ids ++ rest) 14 (long id)
piece_at f (id ∷ ids) rest (suc i) d long here =
    let e : 14 * suc i ≡ 14 + 14 * i = omega arith in
    ap (λ n. take 14 (drop n (f id ++ flat_map f ids ++ rest))) e ∙ ap (take 14) (sym (drop-drop (14 * i) 14 (f id ++ flat_map f ids ++ rest)))
    ∙ ap (λ xs. take 14 (drop (14 * i) (drop 14 xs))) (append_assoc (f id) (flat_map f ids) rest)
    ∙ ap (λ xs. take 14 (drop (14 * i) xs)) (drop_at (f id) (flat_map f ids ++ rest) 14 (long id))
    ∙ piece_at f ids rest i d long (omega (arith, here))

-- an entry's fields from its bytes
entry_again : (rows : List Row) (id : NodeId) → id.bucket < 2 ^ 16 → id.number < 2 ^ 32 → offset_of rows id < 2 ^ 32 → length (rows_of id rows) < 2 ^ 32 → entry_of (entry_bytes rows id) 0 ≡ model_of (entry_for rows id)
unfolding entry_bytes
entry_again rows id a b c e = λ i. record {
  node = record { bucket = from_be_bytes-to_be_bytes_2 id.bucket a i; number = from_be_bytes-to_be_bytes_4 id.number b i };
  offset = from_be_bytes-to_be_bytes_4 (offset_of rows id) c i;
  rows = from_be_bytes-to_be_bytes_4 (length (rows_of id rows)) e i;
}

-- the bytes of a node's rows begin among the others, and end there
pub within_rows : (rows : List Row) (i : ℕ) (d : NodeId) → i < length (nodes_in rows) → offset_of rows (get_or (nodes_in rows) i d) + rows_len (rows_of (get_or (nodes_in rows) i d) rows) ≤ rows_len rows
within_rows rows i d here = by (cases_lt (i + 1) (length (nodes_in rows)))
  where
    by : (i + 1 < length (nodes_in rows)) ⊎ (length (nodes_in rows) ≤ i + 1) → offset_of rows (get_or (nodes_in rows) i d) + rows_len (rows_of (get_or (nodes_in rows) i d) rows) ≤ rows_len rows
    by (inl more) = omega (arith, next_offset rows i d more, filter_len (λ r. is_node_below r.node (get_or (nodes_in rows) (i + 1) d)) rows)
    by (inr last) = omega (arith, last_offset rows i d (omega arith))

module _ (header : Header) (body : List ℕ) (rows : List Row) (h : HoldsRows header body rows) where
  abbrev node_at : ℕ → NodeId → NodeId
  node_at i d = get_or (nodes_in rows) i d

  fits_at : (i : ℕ) (d : NodeId) → i < header.nodes → ((node_at i d).bucket < 256) × ((node_at i d).number < 1048576)
  fits_at i d here = all_nodes (λ id. (id.bucket < 256) × (id.number < 1048576)) rows i d h.fit (omega (arith, here, h.nodes))

  few_at : (i : ℕ) (d : NodeId) → length (rows_of (node_at i d) rows) ≤ length rows
  few_at i d = omega (arith, length-filter (λ row. is_node (node_at i d) row.node) rows, count_by-le-length (λ row. is_node (node_at i d) row.node) rows)

  pub entry_is : (i : ℕ) (d : NodeId) → i < header.nodes → entry_at header body i ≡ model_of (entry_for rows (node_at i d))
  unfolding index_bytes
  entry_is i d here =
      let there : i < length (nodes_in rows) = omega (arith, here, h.nodes) in
      let area : length (rows_bytes rows) ≡ header.area = rows_long rows ∙ sym h.area in
      let cut : drop header.area body ≡ index_bytes rows ++ h.rest =
      ap (drop header.area) h.spelled ∙ ap (drop header.area) (append_assoc (rows_bytes rows) (index_bytes rows) h.rest) ∙ drop_at (rows_bytes rows) (index_bytes rows ++ h.rest) header.area area in
      let bytes : take 14 (drop (entry_place header i) body) ≡ entry_bytes rows (node_at i d) =
      ap (take 14) (sym (drop-drop (14 * i) header.area body)) ∙ ap (λ xs. take 14 (drop (14 * i) xs)) cut ∙ piece_at (entry_bytes rows) (nodes_in rows) h.rest i d (entry_long rows) there in
      let fit = fits_at i d here in
      let few = few_at i d in
      let some = few_rows rows in
      let small = h.small in
      entry_from body (entry_place header i) ∙ ap (λ xs. entry_of xs 0) bytes
      ∙ entry_again rows (node_at i d) (omega (arith, fit.0)) (omega (arith, fit.1)) (omega (arith, within_rows rows i d there)) (omega arith)

  pub entry_stands : (i : ℕ) (d : NodeId) → i < header.nodes → is_entry header (model_of (entry_for rows (node_at i d))) ≡ true
  entry_stands i d here =
      let there : i < length (nodes_in rows) = omega (arith, here, h.nodes) in
      let fit = fits_at i d here in
      let few = few_at i d in
      let some = has_rows rows i d there in
      let long = few_rows (rows_of (node_at i d) rows) in
      let within = within_rows rows i d there in
      let area = h.area in
      let counted = h.counted in
      sound (node_at i d) (offset_of rows (node_at i d)) (length (rows_of (node_at i d) rows)) fit.0 fit.1 (omega arith) some (omega arith)
    where
      sound : (id : NodeId) (offset n : ℕ) → id.bucket < 256 → id.number < 1048576 → offset < header.area → 1 ≤ n → n ≤ header.rows → is_entry header (record { node = id; offset = offset; rows = n }) ≡ true
      sound id offset n a b c e f = grind (arith, nat_tests)

  pub end_is : (i : ℕ) (d : NodeId) → i < header.nodes → span_end header body i ≡ offset_of rows (node_at i d) + rows_len (rows_of (node_at i d) rows)
  end_is i d here = by (cases_lt (i + 1) header.nodes)
    where
      by : (i + 1 < header.nodes) ⊎ (header.nodes ≤ i + 1) → span_end header body i ≡ offset_of rows (node_at i d) + rows_len (rows_of (node_at i d) rows)
      by (inl more) = rw (lt-ltb (i + 1) header.nodes more) (ap (λ e. e.offset) (entry_is (i + 1) d more) ∙ next_offset rows i d (omega (arith, more, h.nodes)))
      by (inr last) = rw (le-ltb (i + 1) header.nodes last) (h.area ∙ last_offset rows i d (omega (arith, last, here, h.nodes)))

  followed_is : (i : ℕ) (d : NodeId) → is_followed header body i ≡ true
  followed_is i d = by (cases_lt (i + 1) header.nodes)
    where
      by : (i + 1 < header.nodes) ⊎ (header.nodes ≤ i + 1) → is_followed header body i ≡ true
      by (inl more) = rw (lt-ltb (i + 1) header.nodes more) (ap (is_entry header) (entry_is (i + 1) d more) ∙ entry_stands (i + 1) d more)
      by (inr last) = rw (le-ltb (i + 1) header.nodes last) refl

  -- each entry of the index has the span of its node
  pub span_is : (i : ℕ) (d : NodeId) → i < header.nodes → span_at header body i ≡ Ok (row_span_of (span_for rows (node_at i d)))
  span_is i d here =
      let entry = entry_is i d here in
      let end = end_is i d here in
      let there : i < length (nodes_in rows) = omega (arith, here, h.nodes) in
      let some = has_rows rows i d there in
      let long = few_rows (rows_of (node_at i d) rows) in
      let up : offset_of rows (node_at i d) < offset_of rows (node_at i d) + rows_len (rows_of (node_at i d) rows) = omega arith in
      span_good header body i (ap (is_entry header) entry ∙ entry_stands i d here) (followed_is i d)
      (ap (λ e. nat_lt e.offset (span_end header body i)) entry ∙ ap (nat_lt (offset_of rows (node_at i d))) end ∙ lt-ltb (offset_of rows (node_at i d)) (offset_of rows (node_at i d) + rows_len (rows_of (node_at i d) rows)) up)
      ∙ λ k. Ok (record { at = (entry k).offset; end = end k; rows = (entry k).rows })

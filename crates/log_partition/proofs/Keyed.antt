-- Rows that lie in bytes where their keys say, one after the other.
use Rattle.std.proofs.Common.{◌≡◌, ℕ, zero, suc, ◌+◌, ◌-◌, ◌*◌, ◌<◌, ◌≤◌, Bool, true, false, cond, not, IsTrue, List, [], ◌∷◌, ◌++◌, length, take, drop, refl, sym, ap, ◌∙◌, subst, arith, append_assoc, append-nil, length-append, Option, Some, None}
use Rattle.std.specs.Prelude.{flat_map, option_map, if◌then◌else◌, slice_index_or}
use Rattle.std.proofs.lemmas.List.{length-take}
use Rattle.std.proofs.lemmas.List.Sums.{sum_by_push, sum_by-take-le}
use Rattle.std.proofs.lemmas.Grind.{flat_map-append}
use Rattle.fine_model.specs.declared.NodeId.{NodeId}
use Rattle.fine_model.specs.declared.Row.{Row}
use Rattle.fine_model.specs.Nodes.{is_node}
use Rattle.fine_model.specs.RowBytes.{row_bytes, row_len, rows_bytes, rows_len}
use Rattle.fine_model.specs.Merge.{is_row_below, nodes_in, encoded_len}
use Rattle.fine_model.proofs.Chain.Grammar.{row_long}
use Rattle.fine_model.proofs.Ordered.Order.{first_of_both}
use Rattle.node_record.specs.Keys.{IsKeyOf, AreKeysOf}
use Rattle.node_record.specs.declared.key.RowAt.{RowAt}
use Rattle.partition_index.specs.Index.{is_rising, opened, closed, first_of}
use Rattle.partition_index.specs.Indexer.{IsBuilt, BuiltTo, IndexerValue, Indexes, HasNext}
use Rattle.partition_index.specs.declared.entries.IndexEntry.{IndexEntry}
use Rattle.partition_index.proofs.Opened.{built_more, built_index}
use Rattle.fine_model.proofs.Merging.NodesIn.{same_node}
use Rattle.log_partition.specs.Encoding.{is_last, AreRowsAt}
use Rattle.log_partition.proofs.Counted.{count_more}
use Rattle.log_partition.proofs.Indexed.{entries_count}
use Rattle.log_partition.proofs.Sealed.{and_true as both_true, nodes_few, rows_most}

-- what stands behind the last key
abbrev pub no_key : RowAt
no_key = record { node = record { bucket = 0; number = 0 }; version = 0; at = 0; len = 0 }

pub as_many : (bytes : List ℕ) (rows : List Row) (keys : List RowAt) → AreKeysOf bytes rows keys → length rows ≡ length keys
as_many bytes [] [] are = refl
as_many bytes [] (k ∷ ks) are = elim are [ ]
as_many bytes (r ∷ rs) [] are = elim are [ ]
as_many bytes (r ∷ rs) (k ∷ ks) are = ap suc (as_many bytes rs ks are.1)

-- the row of a key, behind those of the keys before it
pub record NextRow (bytes : List ℕ) (rows : List Row) (i : ℕ) (key : RowAt) : Type 0 where
  pub row : Row
  pub back : List Row
  pub of_key : IsKeyOf bytes row key
  pub all : rows ≡ take i rows ++ row ∷ back
  pub more : take (i + 1) rows ≡ take i rows ++ row ∷ []

pub next_row : (bytes : List ℕ) (rows : List Row) (keys : List RowAt) (i : ℕ) (d : RowAt) → AreKeysOf bytes rows keys → i < length keys → NextRow bytes rows i (slice_index_or keys i d)
next_row bytes [] [] i d are here = absurd (omega (arith, here))
next_row bytes [] (k ∷ ks) i d are here = elim are [ ]
next_row bytes (r ∷ rs) [] i d are here = elim are [ ]
next_row bytes (r ∷ rs) (k ∷ ks) zero d are here = record { row = r; back = rs; of_key = are.0; all = refl; more = refl }
next_row bytes (r ∷ rs) (k ∷ ks) (suc i) d are here =
    let next = next_row bytes rs ks i d are.1 (omega (arith, here)) in
    let e : suc i + 1 ≡ suc (i + 1) = omega arith in
    record { row = next.row; back = next.back; of_key = next.of_key; all = ap (λ xs. r ∷ xs) next.all; more = ap (λ n. take n (r ∷ rs)) e ∙ ap (λ xs. r ∷ xs) next.more }

-- the bytes of a row more, and their number
pub bytes_more : (rows : List Row) (row : Row) → rows_bytes (rows ++ row ∷ []) ≡ rows_bytes rows ++ row_bytes row
unfolding rows_bytes
bytes_more rows row = flat_map-append row_bytes rows (row ∷ []) ∙ ap (λ bytes. flat_map row_bytes rows ++ bytes) (append-nil (row_bytes row))

-- ---- how many nodes rows name that are gone over one by one

pub record Counted (rows : List Row) (nodes : ℕ) (last : Option NodeId) : Type 0 where
  pub whole : List IndexEntry
  pub entry : Option IndexEntry
  pub built : IsBuilt rows whole entry
  pub count : nodes ≡ length (closed whole entry)
  pub node : last ≡ option_map (λ (e : IndexEntry). e.node) entry

pub counted_none : Counted [] 0 None
counted_none = record { whole = []; entry = None; built = (refl, refl); count = refl; node = refl }

pub counted_all : (rows : List Row) (nodes : ℕ) (last : Option NodeId) → Counted rows nodes last → nodes ≡ length (nodes_in rows)
counted_all rows nodes last c = c.count ∙ ap length (built_index rows c.whole c.entry c.built) ∙ entries_count rows

pub counted_more : (rows : List Row) (row : Row) (back : List Row) (nodes : ℕ) (last : Option NodeId) → Counted rows nodes last → IsTrue (is_rising (rows ++ row ∷ back))
    → Counted (rows ++ row ∷ []) (nodes + (if is_last last row.node then 0 else 1)) (Some row.node)
counted_more rows row back nodes last c rising = by c.entry c.built c.count c.node
  where
    by : (entry : Option IndexEntry) → IsBuilt rows c.whole entry → nodes ≡ length (closed c.whole entry) → last ≡ option_map (λ (e : IndexEntry). e.node) entry
        → Counted (rows ++ row ∷ []) (nodes + (if is_last last row.node then 0 else 1)) (Some row.node)
    by None built count node = record {
      whole = c.whole;
      entry = Some (first_of row.node (rows_len rows));
      built = built_more rows row back c.whole None built rising;
      count = omega (arith, count, ap (λ l. cond {A = ℕ} (is_last l row.node) 0 1) node, length-append c.whole (first_of row.node (rows_len rows) ∷ []));
      node = refl;
    }
    by (Some e) built count node = on (is_node e.node row.node) refl
      where
        more : BuiltTo (rows ++ row ∷ []) (opened c.whole (Some e) row.node (rows_len rows)).0 (opened c.whole (Some e) row.node (rows_len rows)).1
        more = built_more rows row back c.whole (Some e) built rising

        after : Bool → List IndexEntry × IndexEntry
        after t = cond t (c.whole, record { node = e.node; offset = e.offset; rows = e.rows + 1 }) (c.whole ++ e ∷ [], first_of row.node (rows_len rows))

        counted : IndexEntry → IndexEntry
        counted entry = record { node = entry.node; offset = entry.offset; rows = entry.rows + 1 }

        on : (t : Bool) → is_node e.node row.node ≡ t → Counted (rows ++ row ∷ []) (nodes + (if is_last last row.node then 0 else 1)) (Some row.node)
        on true same = record {
          whole = c.whole;
          entry = Some (record { node = e.node; offset = e.offset; rows = e.rows + 1 });
          built = subst (λ t. BuiltTo (rows ++ row ∷ []) (after t).0 (after t).1) same more;
          count = omega (arith, count, ap (λ l. cond {A = ℕ} (is_last l row.node) 0 1) node, ap (λ t. cond {A = ℕ} t 0 1) same, length-append c.whole (e ∷ []), length-append c.whole (counted e ∷ []));
          node = ap Some (sym (same_node e.node row.node same));
        }
        on false same = record {
          whole = c.whole ++ e ∷ [];
          entry = Some (first_of row.node (rows_len rows));
          built = subst (λ t. BuiltTo (rows ++ row ∷ []) (after t).0 (after t).1) same more;
          count = omega (arith, count, ap (λ l. cond {A = ℕ} (is_last l row.node) 0 1) node, ap (λ t. cond {A = ℕ} t 0 1) same, length-append (c.whole ++ e ∷ []) (first_of row.node (rows_len rows) ∷ []));
          node = refl;
        }

-- rows that come before others name no more nodes than all of them
pub nodes_before : (front back : List Row) → length (nodes_in front) ≤ length (nodes_in (front ++ back))
nodes_before front [] = omega (arith, ap (λ rs. length (nodes_in rs)) (append-nil front))
nodes_before front (row ∷ back) = omega (arith, count_more front row, nodes_before (front ++ row ∷ []) back, ap (λ rs. length (nodes_in rs)) (append_assoc front (row ∷ []) back))

-- the front of rows that rise does
front_rises : (front : List Row) (row : Row) (back : List Row) → IsTrue (is_rising (front ++ row ∷ back)) → IsTrue (is_rising (front ++ row ∷ []))
front_rises [] row back rising = refl
front_rises (a ∷ []) row back rising = both_true (not (is_row_below row a)) true (first_of_both (not (is_row_below row a)) (is_rising (row ∷ back)) rising).0 refl
front_rises (a ∷ b ∷ front) row back rising =
    let both = first_of_both (not (is_row_below b a)) (is_rising (b ∷ front ++ row ∷ back)) rising in both_true (not (is_row_below b a)) (is_rising (b ∷ front ++ row ∷ [])) both.0 (front_rises (b ∷ front) row back both.1)

-- the bytes between two places
abbrev pub part_of : List ℕ → RowAt → List ℕ
part_of bytes key = take (key.at + key.len - key.at) (drop key.at bytes)

-- what fits a region fits the greatest one
pub in_bounds : (region_len : ℕ) (bytes : List ℕ) (keys : List RowAt) (rows : List Row) → AreRowsAt region_len bytes keys rows → region_len ≤ 67108864 → AreRowsAt 67108864 bytes keys rows
in_bounds region_len bytes keys rows at small = record { are = at.are; rising = at.rising; within = omega (arith, at.within, small) }

-- ---- a key more

at_most_one : (t : Bool) → (if t then 0 else 1) ≤ 1
at_most_one true = omega arith
at_most_one false = omega arith

-- the nodes that are counted, and those that a row more brings, are few
pub nodes_small : (rows : List Row) (i nodes : ℕ) (last : Option NodeId) (id : NodeId) → Counted (take i rows) nodes last → encoded_len rows ≤ 67108864 → nodes + (if is_last last id then 0 else 1) ≤ 67108864
nodes_small rows i nodes last id c small = omega (arith, at_most_one (is_last last id), counted_all (take i rows) nodes last c, nodes_few (take i rows), length-take i rows, rows_most rows, small)

module _ (bytes : List ℕ) (rows : List Row) (keys : List RowAt) (i : ℕ) (d : RowAt) (are : AreKeysOf bytes rows keys) (here : i < length keys) where
  next : NextRow bytes rows i (slice_index_or keys i d)
  next = next_row bytes rows keys i d are here

  pub part_within : (slice_index_or keys i d).at + (slice_index_or keys i d).len ≤ length bytes
  part_within = next.of_key.within

  pub len_more : rows_len (take i rows) + (slice_index_or keys i d).len ≡ rows_len (take (i + 1) rows)
  len_more = omega (arith, ap rows_len next.more, sum_by_push row_len (take i rows) next.row, next.of_key.len)

  pub len_within : rows_len (take (i + 1) rows) ≤ rows_len rows
  len_within = sum_by-take-le row_len rows (i + 1)

  part_is : part_of bytes (slice_index_or keys i d) ≡ row_bytes next.row
  part_is =
      let e : (slice_index_or keys i d).at + (slice_index_or keys i d).len - (slice_index_or keys i d).at ≡ (slice_index_or keys i d).len = omega arith in
      ap (λ n. take n (drop (slice_index_or keys i d).at bytes)) e ∙ next.of_key.spelled

  pub part_long : length (part_of bytes (slice_index_or keys i d)) ≡ (slice_index_or keys i d).len
  part_long = ap length part_is ∙ row_long next.row ∙ sym next.of_key.len

  pub put_more : (before : List ℕ)
      → (before ++ rows_bytes (take i rows)) ++ part_of bytes (slice_index_or keys i d) ≡ before ++ rows_bytes (take (i + 1) rows)
  put_more before =
      ap (λ xs. (before ++ rows_bytes (take i rows)) ++ xs) part_is ∙ append_assoc before (rows_bytes (take i rows)) (row_bytes next.row)
      ∙ ap (λ xs. before ++ xs) (sym (bytes_more (take i rows) next.row) ∙ sym (ap rows_bytes next.more))

  rising_here : IsTrue (is_rising rows) → IsTrue (is_rising (take i rows ++ next.row ∷ next.back))
  rising_here rising = subst (λ rs. IsTrue (is_rising rs)) next.all rising

  pub counted_next : (nodes : ℕ) (last : Option NodeId) → IsTrue (is_rising rows) → Counted (take i rows) nodes last
      → Counted (take (i + 1) rows) (nodes + (if is_last last (slice_index_or keys i d).node then 0 else 1)) (Some (slice_index_or keys i d).node)
  counted_next nodes last rising c =
      let more = counted_more (take i rows) next.row next.back nodes last c (rising_here rising) in
      let named = subst (λ id. Counted (take i rows ++ next.row ∷ []) (nodes + (if is_last last id then 0 else 1)) (Some id)) (sym next.of_key.node) more in
      subst (λ rs. Counted rs (nodes + (if is_last last (slice_index_or keys i d).node then 0 else 1)) (Some (slice_index_or keys i d).node)) (sym next.more) named

  rising_more : IsTrue (is_rising rows) → IsTrue (is_rising (take i rows ++ next.row ∷ []))
  rising_more rising = front_rises (take i rows) next.row next.back (rising_here rising)

  -- it may be fed to the index
  pub has_next : (before : List ℕ) (v : IndexerValue) → IsTrue (is_rising rows) → encoded_len rows ≤ 67108864 → Indexes before (take i rows) v → length before + 14 * length (nodes_in rows) ≤ v.capacity
      → HasNext v (slice_index_or keys i d).node (slice_index_or keys i d).len
  has_next before v rising small so_far room = record {
    before = before;
    rows = take i rows;
    row = next.row;
    so_far = so_far;
    of_node = sym next.of_key.node;
    of_len = sym next.of_key.len;
    rising = rising_more rising;
    small = omega (arith, ap rows_len next.more, len_within, small);
    room = omega (arith, nodes_before (take i rows ++ next.row ∷ []) next.back, ap (λ rs. length (nodes_in rs)) (append_assoc (take i rows) (next.row ∷ []) next.back), ap (λ rs. length (nodes_in rs)) next.all, room);
  }

  pub fed_next : (before : List ℕ) (v w : IndexerValue)
      → ((before : List ℕ) (rs : List Row) (row : Row) → Indexes before rs v → row.node ≡ (slice_index_or keys i d).node → row_len row ≡ (slice_index_or keys i d).len → IsTrue (is_rising (rs ++ row ∷ [])) → Indexes before (rs ++ row ∷ []) w)
      → IsTrue (is_rising rows) → Indexes before (take i rows) v → Indexes before (take (i + 1) rows) w
  fed_next before v w feeds rising so_far =
      subst (λ rs. Indexes before rs w) (sym next.more) (feeds before (take i rows) next.row so_far (sym next.of_key.node) (sym next.of_key.len) (rising_more rising))

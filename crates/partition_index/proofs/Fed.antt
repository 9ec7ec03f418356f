-- What a row more does to an index that is written entry by entry.
use Rattle.std.proofs.Common.{◌≡◌, ℕ, ◌+◌, ◌*◌, ◌<◌, ◌≤◌, Bool, true, false, cond, IsTrue, List, [], ◌∷◌, ◌++◌, length, refl, sym, ap, ◌∙◌, subst, arith, append_assoc, append-nil, length-append, Option, Some, None}
use Rattle.std.specs.Prelude.{flat_map, IfSome}
use Rattle.std.proofs.lemmas.List.{length-map}
use Rattle.std.proofs.lemmas.List.Sums.{sum_by_push, length-filter, count_by-le-length}
use Rattle.fine_model.specs.declared.NodeId.{NodeId}
use Rattle.fine_model.specs.declared.Row.{Row}
use Rattle.fine_model.specs.Nodes.{is_node, rows_of}
use Rattle.fine_model.specs.RowBytes.{row_len, rows_len}
use Rattle.fine_model.specs.Merge.{nodes_in}
use Rattle.fine_model.specs.Regions.{index_bytes}
use Rattle.partition_index.specs.Entries.{bytes_of, entry_for}
use Rattle.partition_index.specs.Index.{is_rising, opened, closed, first_of}
use Rattle.partition_index.specs.Indexer.{BuiltTo, IsBuilt, IndexerValue, Indexes, HasNext}
use Rattle.partition_index.specs.declared.entries.IndexEntry.{IndexEntry}
use Rattle.partition_index.proofs.Bytes.{index_is}
use Rattle.partition_index.proofs.Opened.{built_more, built_index, few_rows}

-- what is put behind the whole entries does not depend on them
opened_front : (whole : List IndexEntry) (last : Option IndexEntry) (id : NodeId) (offset : ℕ) → (opened whole last id offset).0 ≡ whole ++ (opened [] last id offset).0
opened_front whole None id offset = sym (append-nil whole)
opened_front whole (Some e) id offset = by (is_node e.node id)
  where
    by : (t : Bool) → (cond {A = List IndexEntry × IndexEntry} t (whole, record { node = e.node; offset = e.offset; rows = e.rows + 1 }) (whole ++ e ∷ [], first_of id offset)).0
        ≡ whole ++ (cond {A = List IndexEntry × IndexEntry} t ([], record { node = e.node; offset = e.offset; rows = e.rows + 1 }) (e ∷ [], first_of id offset)).0
    by true = sym (append-nil whole)
    by false = refl

opened_last : (whole : List IndexEntry) (last : Option IndexEntry) (id : NodeId) (offset : ℕ) → (opened whole last id offset).1 ≡ (opened [] last id offset).1
opened_last whole None id offset = refl
opened_last whole (Some e) id offset = by (is_node e.node id)
  where
    by : (t : Bool) → (cond {A = List IndexEntry × IndexEntry} t (whole, record { node = e.node; offset = e.offset; rows = e.rows + 1 }) (whole ++ e ∷ [], first_of id offset)).1
        ≡ (cond {A = List IndexEntry × IndexEntry} t ([], record { node = e.node; offset = e.offset; rows = e.rows + 1 }) (e ∷ [], first_of id offset)).1
    by true = refl
    by false = refl

bytes_behind : (xs ys : List IndexEntry) → flat_map bytes_of (xs ++ ys) ≡ flat_map bytes_of xs ++ flat_map bytes_of ys
bytes_behind [] ys = refl
bytes_behind (x ∷ xs) ys = ap (λ zs. bytes_of x ++ zs) (bytes_behind xs ys) ∙ sym (append_assoc (bytes_of x) (flat_map bytes_of xs) (flat_map bytes_of ys))

fourteen : (e : IndexEntry) → length (bytes_of e) ≡ 14
unfolding bytes_of
fourteen e = refl

bytes_long : (es : List IndexEntry) → length (flat_map bytes_of es) ≡ 14 * length es
bytes_long [] = refl
bytes_long (e ∷ es) = omega (arith, length-append (bytes_of e) (flat_map bytes_of es), fourteen e, bytes_long es)

-- the value behind a row more
abbrev pub fed : IndexerValue → NodeId → ℕ → IndexerValue
fed v id len = record { bytes = v.bytes ++ flat_map bytes_of (opened [] v.last id v.offset).0; capacity = v.capacity; last = Some (opened [] v.last id v.offset).1; offset = v.offset + len }

built_on : (rows : List Row) (row : Row) (v : IndexerValue) (whole : List IndexEntry) → IsBuilt rows whole v.last → v.offset ≡ rows_len rows → IsTrue (is_rising (rows ++ row ∷ []))
    → BuiltTo (rows ++ row ∷ []) (whole ++ (opened [] v.last row.node v.offset).0) (opened [] v.last row.node v.offset).1
built_on rows row v whole built at rising =
    let b = built_more rows row [] whole v.last built rising in
    let c : BuiltTo (rows ++ row ∷ []) (opened whole v.last row.node v.offset).0 (opened whole v.last row.node v.offset).1 =
    subst (λ n. BuiltTo (rows ++ row ∷ []) (opened whole v.last row.node n).0 (opened whole v.last row.node n).1) (sym at) b in
    let d : BuiltTo (rows ++ row ∷ []) (whole ++ (opened [] v.last row.node v.offset).0) (opened whole v.last row.node v.offset).1 =
    subst (λ es. BuiltTo (rows ++ row ∷ []) es (opened whole v.last row.node v.offset).1) (opened_front whole v.last row.node v.offset) c in
    subst (λ e. BuiltTo (rows ++ row ∷ []) (whole ++ (opened [] v.last row.node v.offset).0) e) (opened_last whole v.last row.node v.offset) d

pub fed_indexes : (before : List ℕ) (rows : List Row) (row : Row) (v : IndexerValue) (id : NodeId) (len : ℕ) → Indexes before rows v → row.node ≡ id → row_len row ≡ len → IsTrue (is_rising (rows ++ row ∷ []))
    → Indexes before (rows ++ row ∷ []) (fed v id len)
fed_indexes before rows row v id len so_far node spelled rising =
    subst (λ i. Indexes before (rows ++ row ∷ []) (fed v i len)) node
    (subst (λ n. Indexes before (rows ++ row ∷ []) (fed v row.node n)) spelled
    (record {
      whole = so_far.whole ++ (opened [] v.last row.node v.offset).0;
      bytes = ap (λ xs. xs ++ flat_map bytes_of (opened [] v.last row.node v.offset).0) so_far.bytes
          ∙ append_assoc before (flat_map bytes_of so_far.whole) (flat_map bytes_of (opened [] v.last row.node v.offset).0)
          ∙ ap (λ xs. before ++ xs) (sym (bytes_behind so_far.whole (opened [] v.last row.node v.offset).0));
      built = built_on rows row v so_far.whole so_far.built so_far.offset rising;
      offset = ap (λ n. n + row_len row) so_far.offset ∙ sym (sum_by_push row_len rows row);
    }))

-- a value of which all but the capacity is the same
pub indexes_alike : (before : List ℕ) (rows : List Row) (v w : IndexerValue) → Indexes before rows v → w.bytes ≡ v.bytes → w.last ≡ v.last → w.offset ≡ v.offset → Indexes before rows w
indexes_alike before rows v w so_far bytes last offset = record {
  whole = so_far.whole;
  bytes = bytes ∙ so_far.bytes;
  built = subst (IsBuilt rows so_far.whole) (sym last) so_far.built;
  offset = offset ∙ so_far.offset;
}

-- a row more of the last node can be counted
pub next_counts : (v : IndexerValue) (id : NodeId) (len : ℕ) → HasNext v id len → IfSome v.last (λ e. e.rows < 4294967295)
next_counts v id len next = by v.last next.so_far.built
  where
    by : (last : Option IndexEntry) → IsBuilt next.rows next.so_far.whole last → IfSome last (λ e. e.rows < 4294967295)
    by None b = tt
    by (Some e) b =
        let counted : e.rows ≡ length (rows_of e.node next.rows) = ap (λ x. x.rows) b.is in
        omega (arith, few_rows next.rows, counted, sum_by_push row_len next.rows next.row, length-filter (λ row. is_node e.node row.node) next.rows, count_by-le-length (λ row. is_node e.node row.node) next.rows, next.small)

-- the last entry has room behind the bytes
pub next_room : (v : IndexerValue) (id : NodeId) (len : ℕ) → HasNext v id len → length (fed v id len).bytes + 14 ≤ v.capacity
unfolding nodes_in
next_room v id len next =
    let more = fed_indexes next.before next.rows next.row v id len next.so_far next.of_node next.of_len next.rising in
    let b = more.built in
    let count : length (nodes_in (next.rows ++ next.row ∷ [])) ≡ length b.below + 1 = ap length b.nodes ∙ length-append b.below _ in
    let entries : length more.whole ≡ length b.below = ap length b.are ∙ length-map b.below (entry_for (next.rows ++ next.row ∷ [])) in
    let long : length (fed v id len).bytes ≡ length next.before + 14 * length more.whole = ap length more.bytes ∙ length-append next.before (flat_map bytes_of more.whole) ∙ ap (λ n. length next.before + n) (bytes_long more.whole) in
    omega (arith, count, entries, long, next.room)

-- with the last entry behind them the bytes are those of the index
pub closed_bytes : (before : List ℕ) (rows : List Row) (v : IndexerValue) → Indexes before rows v → v.bytes ++ flat_map bytes_of (closed [] v.last) ≡ before ++ index_bytes rows
closed_bytes before rows v so_far =
    ap (λ xs. xs ++ flat_map bytes_of (closed [] v.last)) so_far.bytes ∙ append_assoc before (flat_map bytes_of so_far.whole) (flat_map bytes_of (closed [] v.last))
    ∙ ap (λ xs. before ++ xs) (sym (bytes_behind so_far.whole (closed [] v.last)) ∙ ap (flat_map bytes_of) (front so_far.whole v.last ∙ built_index rows so_far.whole v.last so_far.built) ∙ index_is rows)
  where
    front : (whole : List IndexEntry) (last : Option IndexEntry) → whole ++ closed [] last ≡ closed whole last
    front whole None = append-nil whole
    front whole (Some e) = refl

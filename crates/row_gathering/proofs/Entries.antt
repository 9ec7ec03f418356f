-- An index that is tested entry by entry, as it follows from the keys of the rows.
use Rattle.std.proofs.Common.{◌≡◌, ◌≢◌, ⊎_elim, ℕ, ◌+◌, ◌-◌, ◌*◌, ◌<◌, ◌≤◌, Bool, true, false, cond, IsTrue, List, [], ◌∷◌, ◌++◌, length, take, get_or, Option, Some, None, refl, sym, ap, ◌∙◌, subst, inr, arith, append_assoc, append-nil, length-append, replicate}
use Rattle.std.specs.Prelude.{IfSome, slice_index_or}
use Rattle.std.proofs.Math.Seq.{get_or-append_seam}
use Rattle.std.proofs.lemmas.Bool.{cases_lt}
use Rattle.std.proofs.lemmas.List.{length-replicate, take_all}
use Rattle.std.proofs.lemmas.List.Sums.{sum_by-take-le, sum_by_push}
use Rattle.std.proofs.lemmas.Option.{same_Some}
use Rattle.fine_model.specs.declared.Header.{Header}
use Rattle.fine_model.specs.declared.NodeId.{NodeId}
use Rattle.fine_model.specs.declared.Row.{Row}
use Rattle.fine_model.specs.Nodes.{is_node}
use Rattle.fine_model.specs.Regions.{IsBadItem, body_len, index_area, index_bytes}
use Rattle.fine_model.specs.RowBytes.{row_len, rows_bytes, rows_len}
use Rattle.log_partition.specs.Bodies.{AreTheRows, IsTheIndex}
use Rattle.log_partition.proofs.Indexed.{good_entry, no_entry, no_node_left, node_left, other_entry, some_named, whole_index}
use Rattle.log_partition.proofs.Keyed.{NextRow, as_many, no_key, next_row}
use Rattle.log_partition.proofs.RowsRead.{rises}
use Rattle.node_record.specs.Keys.{AreKeysOf}
use Rattle.node_record.specs.declared.key.RowAt.{RowAt}
use Rattle.partition_index.specs.Entries.{bytes_of}
use Rattle.partition_index.specs.Index.{closed, entries_of, first_of, is_rising, opened}
use Rattle.partition_index.specs.Indexer.{BuiltTo, IsBuilt}
use Rattle.partition_index.specs.declared.entries.IndexEntry.{IndexEntry}
use Rattle.partition_index.proofs.Opened.{built_index, built_more, last_counts}
use Rattle.row_gathering.specs.Steps.{IndexedSoFar, Passes, StandsIn, keys_from}
use Rattle.row_gathering.proofs.KeysFrom.{keys_are}

-- ---- the whole entries are the first ones

-- a row more leaves the whole entries, and may put one behind them
opened_behind : (whole : List IndexEntry) (last : Option IndexEntry) (id : NodeId) (offset : ℕ) → (more : List IndexEntry) × ((opened whole last id offset).0 ≡ whole ++ more)
opened_behind whole None id offset = ([], sym (append-nil whole))
opened_behind whole (Some e) id offset = by (is_node e.node id)
  where
    by : (t : Bool) → (more : List IndexEntry) × ((cond {A = List IndexEntry × IndexEntry} t (whole, record { node = e.node; offset = e.offset; rows = e.rows + 1 }) (whole ++ e ∷ [], first_of id offset)).0 ≡ whole ++ more)
    by true = ([], sym (append-nil whole))
    by false = (e ∷ [], refl)

closed_behind : (whole : List IndexEntry) (last : Option IndexEntry) → whole ++ closed [] last ≡ closed whole last
closed_behind whole None = append-nil whole
closed_behind whole (Some e) = refl

whole_first : (back rows : List Row) (whole : List IndexEntry) (last : Option IndexEntry) → IsBuilt rows whole last → IsTrue (is_rising (rows ++ back)) → (more : List IndexEntry) × (entries_of (rows ++ back) ≡ whole ++ more)
whole_first [] rows whole last b up = (closed [] last, ap entries_of (append-nil rows) ∙ sym (built_index rows whole last b) ∙ sym (closed_behind whole last))
whole_first (row ∷ back) rows whole last b up =
    let e : (rows ++ row ∷ []) ++ back ≡ rows ++ row ∷ back = append_assoc rows (row ∷ []) back in
    let next : List IndexEntry × IndexEntry = opened whole last row.node (rows_len rows) in
    let behind = opened_behind whole last row.node (rows_len rows) in
    let rest = whole_first back (rows ++ row ∷ []) next.0 (Some next.1) (built_more rows row back whole last b up) (subst (λ rs. IsTrue (is_rising rs)) (sym e) up) in
    (behind.0 ++ rest.0, ap entries_of (sym e) ∙ rest.1 ∙ ap (λ es. es ++ rest.0) behind.1 ∙ append_assoc whole behind.0 rest.0)

-- an entry is that of its number
pub record IsWanted (rows : List Row) (i : ℕ) (e : IndexEntry) : Type 0 where
  pub there : i < length (entries_of rows)
  pub is : get_or (entries_of rows) i no_entry ≡ e

wanted : (rows : List Row) (whole more : List IndexEntry) (e : IndexEntry) (i : ℕ) → i ≡ length whole → entries_of rows ≡ (whole ++ e ∷ []) ++ more → IsWanted rows i e
wanted rows whole more e i number are =
    let all : entries_of rows ≡ whole ++ e ∷ more = are ∙ append_assoc whole (e ∷ []) more in
    record {
      there = omega (arith, number, ap length all, length-append whole (e ∷ more));
      is = ap (λ n. get_or (entries_of rows) n no_entry) number ∙ ap (λ es. get_or es (length whole) no_entry) all ∙ get_or-append_seam whole e more no_entry;
    }

-- all rows were gone over
pub rows_all : (start : ℕ) (rows : List Row) (keys : List RowAt) (count : ℕ) → keys ≡ keys_from start rows → length keys ≤ count → take count rows ≡ rows
rows_all start rows keys count is end = take_all count rows (omega (
  arith,
  end,
  as_many (replicate start 0 ++ rows_bytes rows) rows keys
      (subst (AreKeysOf (replicate start 0 ++ rows_bytes rows) rows) (sym is) (keys_are (replicate start 0) start rows (sym (length-replicate start 0)))),
))

-- ---- an entry more

module _ (header : Header) (body : List ℕ) (rows : List Row) (long : length body ≡ body_len header) (are : AreTheRows header body rows) where
  rising : IsTrue (is_rising rows)
  rising = rises rows are.good.ordered

  pub indexed_none : IndexedSoFar header body rows 0 0 None 0
  indexed_none = record { whole = []; built = (refl, refl); number = refl; there = omega arith; same = refl; place = refl }

  stands_same : (i : ℕ) (e : IndexEntry) → IsWanted rows i e → take (14 * i) (index_area header body) ≡ take (14 * i) (index_bytes rows) → StandsIn header body i e
      → take (14 * (i + 1)) (index_area header body) ≡ take (14 * (i + 1)) (index_bytes rows)
  stands_same i e w before stands = good_entry header body rows long i no_entry w.there before (stands.1 ∙ ap bytes_of (sym w.is))

  -- where an entry does not stand, something of the body is bad
  stands_not : (i : ℕ) (e : IndexEntry) → IsWanted rows i e → i ≤ header.nodes → take (14 * i) (index_area header body) ≡ take (14 * i) (index_bytes rows) → (StandsIn header body i e → ⊥)
      → (header.nodes ≡ 0 → header.rows ≡ 0) → (at : ℕ) × IsBadItem header body at
  stands_not i e w most before other some = ⊎_elim
      (λ here. (header.area + 14 * i, inr (other_entry header body rows long i no_entry are w.there here before (λ same. other (here, same ∙ ap bytes_of w.is)))))
      (λ end.
      let last : i ≡ header.nodes = omega (arith, end, most) in
      let some' : 0 < header.nodes = some_named header body rows are some (omega (arith, last, w.there)) in
      (header.area + 14 * (i - 1), inr (node_left header body rows long i are last (omega (arith, last, some')) w.there before)))
      (cases_lt i header.nodes)

  module _ (start : ℕ) (keys : List RowAt) (count i : ℕ) (last : Option IndexEntry) (offset : ℕ) (is : keys ≡ keys_from start rows) (here : count < length keys) (s : IndexedSoFar header body rows count i last offset) where
    abbrev pub key : RowAt
    key = slice_index_or keys count no_key

    are_keys : AreKeysOf (replicate start 0 ++ rows_bytes rows) rows keys
    are_keys = subst (AreKeysOf (replicate start 0 ++ rows_bytes rows) rows) (sym is) (keys_are (replicate start 0) start rows (sym (length-replicate start 0)))

    next : NextRow (replicate start 0 ++ rows_bytes rows) rows count (slice_index_or keys count no_key)
    next = next_row (replicate start 0 ++ rows_bytes rows) rows keys count no_key are_keys here

    abbrev pub after : List IndexEntry × IndexEntry
    after = opened s.whole last key.node offset

    up_here : IsTrue (is_rising (take count rows ++ next.row ∷ next.back))
    up_here = subst (λ rs. IsTrue (is_rising rs)) next.all rising

    built_here : BuiltTo (take count rows ++ next.row ∷ []) after.0 after.1
    built_here =
        subst (λ id. BuiltTo (take count rows ++ next.row ∷ []) (opened s.whole last id offset).0 (opened s.whole last id offset).1) (sym next.of_key.node)
        (subst (λ n. BuiltTo (take count rows ++ next.row ∷ []) (opened s.whole last next.row.node n).0 (opened s.whole last next.row.node n).1) (sym s.place)
        (built_more (take count rows) next.row next.back s.whole last s.built up_here))

    wanted_here : (e : IndexEntry) → s.whole ++ e ∷ [] ≡ after.0 → IsWanted rows i e
    wanted_here e ended =
        let joined : (take count rows ++ next.row ∷ []) ++ next.back ≡ rows = append_assoc (take count rows) (next.row ∷ []) next.back ∙ sym next.all in
        let first = whole_first next.back (take count rows ++ next.row ∷ []) after.0 (Some after.1) built_here (subst (λ rs. IsTrue (is_rising rs)) (sym joined) rising) in
        wanted rows s.whole first.0 e i s.number (ap entries_of (sym joined) ∙ first.1 ∙ ap (λ es. es ++ first.0) (sym ended))

    pub indexed_more : (done : Option IndexEntry) (n : ℕ) (e : IndexEntry) (end : ℕ) → closed s.whole done ≡ after.0 → Passes header body i done (Some n) → e ≡ after.1 → end ≡ offset + key.len
        → IndexedSoFar header body rows (count + 1) n (Some e) end
    indexed_more done n e end ended passed is_last is_end = by done ended passed
      where
        built : (whole : List IndexEntry) → whole ≡ after.0 → IsBuilt (take (count + 1) rows) whole (Some e)
        built whole same = subst (λ rs. BuiltTo rs whole e) (sym next.more)
            (subst (λ es. BuiltTo (take count rows ++ next.row ∷ []) es e) (sym same) (subst (BuiltTo (take count rows ++ next.row ∷ []) after.0) (sym is_last) built_here))

        place : end ≡ rows_len (take (count + 1) rows)
        place = omega (arith, is_end, s.place, ap rows_len next.more, sum_by_push row_len (take count rows) next.row, next.of_key.len)

        by : (done : Option IndexEntry) → closed s.whole done ≡ after.0 → Passes header body i done (Some n) → IndexedSoFar header body rows (count + 1) n (Some e) end
        by None same passes =
            let as_before : n ≡ i = same_Some n i passes in
            record {
              whole = s.whole;
              built = built s.whole same;
              number = as_before ∙ s.number;
              there = omega (arith, as_before, s.there);
              same = subst (λ m. take (14 * m) (index_area header body) ≡ take (14 * m) (index_bytes rows)) (sym as_before) s.same;
              place = place;
            }
        by (Some entry) same passes = record {
          whole = s.whole ++ entry ∷ [];
          built = built (s.whole ++ entry ∷ []) same;
          number = omega (arith, passes.0, s.number, length-append s.whole (entry ∷ []));
          there = omega (arith, passes.0, passes.1.0);
          same = subst (λ m. take (14 * m) (index_area header body) ≡ take (14 * m) (index_bytes rows)) (sym passes.0) (stands_same i entry (wanted_here entry same) s.same passes.1);
          place = place;
        }

    pub not_indexed : (done : Option IndexEntry) → closed s.whole done ≡ after.0 → Passes header body i done None → (header.nodes ≡ 0 → header.rows ≡ 0) → (at : ℕ) × IsBadItem header body at
    not_indexed None ended passes some = absurd (let e : ◌≡◌ {A = Option ℕ} None (Some i) = passes in cc)
    not_indexed (Some entry) ended passes some = stands_not i entry (wanted_here entry ended) s.there s.same passes some

    -- what the calls ask
    pub counts : rows_len rows < 4294967296 → IfSome last (λ e. e.rows < 4294967295)
    counts small = last_counts rows count s.whole last (omega (arith, here, as_many (replicate start 0 ++ rows_bytes rows) rows keys are_keys)) small s.built

    pub offset_small : offset + key.len ≤ rows_len rows
    offset_small = omega (arith, s.place, ap rows_len next.more, sum_by_push row_len (take count rows) next.row, next.of_key.len, sum_by-take-le row_len rows (count + 1))

  -- ---- all entries

  module _ (i count : ℕ) (last : Option IndexEntry) (offset : ℕ) (s : IndexedSoFar header body rows count i last offset) (all : take count rows ≡ rows) where
    entries : entries_of rows ≡ closed s.whole last
    entries = ap entries_of (sym all) ∙ sym (built_index (take count rows) s.whole last s.built)

    wanted_last : (e : IndexEntry) → closed s.whole last ≡ s.whole ++ e ∷ [] → IsWanted rows i e
    wanted_last e is = wanted rows s.whole [] e i s.number (entries ∙ is ∙ sym (append-nil (s.whole ++ e ∷ [])))

    record PassedAll (n : ℕ) : Type 0 where
      pub there : n ≤ header.nodes
      pub counted : n ≡ length (entries_of rows)
      pub same : take (14 * n) (index_area header body) ≡ take (14 * n) (index_bytes rows)

    passed_all : (n : ℕ) → Passes header body i last (Some n) → PassedAll n
    passed_all n = by last refl
      where
        by : (o : Option IndexEntry) → last ≡ o → Passes header body i o (Some n) → PassedAll n
        by None none passes =
            let as_before : n ≡ i = same_Some n i passes in
            record {
              there = omega (arith, as_before, s.there);
              counted = omega (arith, as_before, s.number, ap length (entries ∙ ap (closed s.whole) none));
              same = subst (λ m. take (14 * m) (index_area header body) ≡ take (14 * m) (index_bytes rows)) (sym as_before) s.same;
            }
        by (Some e) some passes = record {
          there = omega (arith, passes.0, passes.1.0);
          counted = omega (arith, passes.0, s.number, ap length (entries ∙ ap (closed s.whole) some), length-append s.whole (e ∷ []));
          same = subst (λ m. take (14 * m) (index_area header body) ≡ take (14 * m) (index_bytes rows)) (sym passes.0) (stands_same i e (wanted_last e (ap (closed s.whole) some)) s.same passes.1);
        }

    pub index_is : (n : ℕ) → Passes header body i last (Some n) → n ≡ header.nodes → IsTheIndex header body rows
    index_is n passes end = let p = passed_all n passes in whole_index header body rows long n end p.counted p.same

    pub fewer_nodes : (n : ℕ) → Passes header body i last (Some n) → n ≢ header.nodes → (at : ℕ) × IsBadItem header body at
    fewer_nodes n passes other =
        let p = passed_all n passes in
        (header.area + 14 * n, inr (no_node_left header body rows long n are p.counted (omega (arith, p.there, other)) p.same))

    pub last_not : Passes header body i last None → (header.nodes ≡ 0 → header.rows ≡ 0) → (at : ℕ) × IsBadItem header body at
    last_not = by last refl
      where
        by : (o : Option IndexEntry) → last ≡ o → Passes header body i o None → (header.nodes ≡ 0 → header.rows ≡ 0) → (at : ℕ) × IsBadItem header body at
        by None none passes some = absurd (let e : ◌≡◌ {A = Option ℕ} None (Some i) = passes in cc)
        by (Some e) is passes some = stands_not i e (wanted_last e (ap (closed s.whole) is)) s.there s.same passes some

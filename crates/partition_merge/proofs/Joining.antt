-- What blocks hand out, whatever is read: the lists of rows that were joined so far.
use Rattle.std.proofs.Common.{◌≡◌, ℕ, ◌+◌, ◌<◌, ◌≤◌, min, true, false, cond, not, ◌==◌, Bool, List, [], ◌∷◌, ◌++◌, length, take, drop, Some, None, refl, sym, ap, ◌∙◌, subst, arith, eqb-true, append-nil, append_assoc, length-append, true≢false, inl, inr}
use Rattle.std.specs.Prelude.{Option}
use Rattle.std.specs.List.{AllByRecursion}
use Rattle.std.proofs.lemmas.List.{take-append-drop}
use Rattle.std.proofs.lemmas.List.Sums.{sum_by-append}
use Rattle.fine_model.specs.declared.NodeId.{NodeId}
use Rattle.fine_model.specs.declared.Rec.{Rec}
use Rattle.fine_model.specs.declared.Row.{Row}
use Rattle.fine_model.specs.Merge.{image_of, merged_into}
use Rattle.fine_model.specs.Nodes.{base, replay}
use Rattle.fine_model.specs.Regions.{Image}
use Rattle.fine_model.specs.RowBytes.{row_len, rows_bytes, rows_len, index_entry}
use Rattle.fine_model.proofs.Chain.Grammar.{rows_long, rows_bytes-append}
use Rattle.fine_model.proofs.Ordered.Sets.{all_append}
use Rattle.partition_index.specs.Entries.{bytes_of}
use Rattle.partition_index.specs.Index.{entry_at}
use Rattle.partition_index.proofs.Opened.{few_rows}
use Rattle.partition_merge.specs.declared.merger.Merger.{Merger}
use Rattle.partition_merge.specs.declared.merger.Source.{Source}
use Rattle.partition_merge.specs.Merging.{merged_of}
use Rattle.partition_merge.specs.Mergers.{IsJoinOf, JoinsAll, TakesRows, all_of, both_left, newer_part, older_part}
use Rattle.partition_merge.specs.Blocks.{BlocksValue}
use Rattle.partition_merge.specs.Joined.{GivesJoined, IsJoined, IsJoinedBody, entry_of, index_from, index_out}
use Rattle.partition_merge.proofs.Ahead.{HasEntry, filled}
use Rattle.partition_merge.proofs.Ascending.{all_pushed}

-- ---- rows of one node

abbrev pub AreOwn : NodeId → List Row → Type 0
AreOwn id rows = AllByRecursion (λ r. r.node ≡ id) rows

-- what the rows of a node are merged into are rows of it
pub merged_own : (id : NodeId) (own : List Row) → AreOwn id own → AreOwn id (merged_of id own)
unfolding merged_of merged_into
merged_own id own all = by (image_of (replay (base id) own).0)
  where
    choice : (row : Row) (t : Bool) → row.node ≡ id → AreOwn id (cond t (row ∷ []) own)
    choice row true same = (same, tt)
    choice row false same = all

    by : (image : Option Rec) → AreOwn id (merged_into id own (replay (base id) own).1 image)
    by None = all
    by (Some image) = choice (record { node = id; version = (replay (base id) own).1; rec = image }) _ refl

-- so are those that are read of a part
pub taken_own : (known : Option Image) (id : NodeId) (before after : Source) (rows : List Row) → TakesRows known id before after rows → AreOwn id rows
unfolding TakesRows
taken_own known id before after rows (inl passed) = subst (AreOwn id) (sym passed.none) tt
taken_own known id before after rows (inr some) = let h = some.holds in h.holds.begins.of_node

pub join_own : (known : Option Image) (before after : Merger) (rows : List Row) (j : IsJoinOf known before after rows) → AreOwn j.node rows
join_own known before after rows j =
    subst (AreOwn j.node) (sym j.joined)
    (merged_own j.node (j.older ++ j.newer)
    (all_append (λ r. r.node ≡ j.node) j.older j.newer (taken_own known j.node before.older after.older j.older j.of_older) (taken_own known j.node before.newer after.newer j.newer j.of_newer)))

-- ---- the index

pub entry_is : (offset : ℕ) (id : NodeId) (rows : List Row) → 1 ≤ length rows → AreOwn id rows → entry_of offset rows ≡ bytes_of (entry_at offset id rows)
entry_is offset id [] some own = absurd (omega (arith, some))
entry_is offset id (row ∷ rows) some own = ap (λ n. bytes_of (entry_at offset n (row ∷ rows))) own.0

pub index_pushed : (offset : ℕ) (joins : List (List Row)) (rows : List Row) → index_from offset (joins ++ rows ∷ []) ≡ index_from offset joins ++ entry_of (offset + rows_len (all_of joins)) rows
index_pushed offset [] rows = append-nil (entry_of offset rows) ∙ ap (λ n. entry_of n rows) (let e : offset ≡ offset + rows_len (all_of []) = omega arith in e)
index_pushed offset (own ∷ joins) rows =
    let len : rows_len (all_of (own ∷ joins)) ≡ rows_len own + rows_len (all_of joins) = sum_by-append row_len own (all_of joins) in
    let same : offset + rows_len own + rows_len (all_of joins) ≡ offset + rows_len (all_of (own ∷ joins)) = omega (arith, len) in
    ap (λ xs. entry_of offset own ++ xs) (index_pushed (offset + rows_len own) joins rows) ∙ sym (append_assoc (entry_of offset own) (index_from (offset + rows_len own) joins) (entry_of (offset + rows_len own + rows_len (all_of joins)) rows))
    ∙ ap (λ n. (entry_of offset own ++ index_from (offset + rows_len own) joins) ++ entry_of n rows) same

-- ---- where nothing was handed out

pub start_joined : (known : Option Image) (start : Merger) (v : BlocksValue) → v.merger ≡ start → v.waiting ≡ [] → v.index ≡ [] → v.offset ≡ 0 → v.is_whole ≡ false → IsJoined known start v []
unfolding rows_bytes
start_joined known start v same waiting index offset whole = record {
  joins = [];
  goes_on = λ later all. subst (λ m. JoinsAll known m later) same all;
  index = [];
  is_index = record { long = refl; entries = λ small. refl };
  made = waiting ∙ sym (ap (λ t. index_out t []) whole);
  own_index = λ e. index;
  offset = offset;
  none_left = λ e. absurd (true≢false (sym e ∙ whole));
}

module _ (known : Option Image) (start : Merger) where
  -- all that was handed out before the next node's rows wait
  handed_is : (v : BlocksValue) (handed : List ℕ) (i : IsJoined known start v handed) → v.waiting ≡ [] → v.is_whole ≡ false → handed ≡ rows_bytes (all_of i.joins)
  handed_is v handed i none opened =
      sym (append-nil handed) ∙ ap (λ xs. handed ++ xs) (sym none) ∙ i.made ∙ ap (λ t. rows_bytes (all_of i.joins) ++ index_out t i.index) opened ∙ append-nil (rows_bytes (all_of i.joins))

  -- ---- the rows of a node more

  pub more_joined : (v w : BlocksValue) (handed after : List ℕ) (rows : List Row) → IsJoined known start v handed → v.waiting ≡ [] → v.is_whole ≡ false
      → older_part w.merger ≡ older_part v.merger → newer_part w.merger ≡ newer_part v.merger → IsJoinOf known v.merger w.merger rows
      → after ++ w.waiting ≡ handed ++ rows_bytes rows → w.is_whole ≡ false → HasEntry v.index w.index v.offset rows → length w.index ≡ length v.index + index_entry
      → w.offset ≡ min (v.offset + min (length (rows_bytes rows)) 4294967295) 4294967295 → IsJoined known start w after
  more_joined v w handed after rows i none opened older newer join spelled opened_still entry longer offset =
      let own = join_own known v.merger w.merger rows join in
      let len : rows_len (all_of (i.joins ++ rows ∷ [])) ≡ rows_len (all_of i.joins) + rows_len rows = ap rows_len (all_pushed i.joins rows) ∙ sum_by-append row_len (all_of i.joins) rows in
      let count : length (i.joins ++ rows ∷ []) ≡ length i.joins + 1 = length-append i.joins (rows ∷ []) in
      let was : length v.index ≡ length i.index = ap length (i.own_index opened) in
      let long = i.is_index.long in
      let at = i.offset in
      record {
        joins = i.joins ++ rows ∷ [];
        goes_on = λ later all. subst (JoinsAll known start) (sym (append_assoc i.joins (rows ∷ []) later)) (i.goes_on (rows ∷ later) (w.merger, older, newer, join, all));
        index = w.index;
        is_index = record {
          long = omega (arith, longer, was, long, count);
          entries = λ small.
              let before : rows_len (all_of i.joins) < 4294967296 = omega (arith, small, len) in
              let here : v.offset ≡ rows_len (all_of i.joins) = omega (arith, at, before) in
              entry join.node own (omega (arith, small, len, few_rows rows))
              ∙ (λ k. (i.own_index opened ∙ i.is_index.entries before) k ++ bytes_of (entry_at (here k) join.node rows))
              ∙ ap (λ xs. index_from 0 i.joins ++ xs) (sym (entry_is (rows_len (all_of i.joins)) join.node rows join.some own))
              ∙ ap (λ n. index_from 0 i.joins ++ entry_of n rows) (let e : rows_len (all_of i.joins) ≡ 0 + rows_len (all_of i.joins) = omega arith in e)
              ∙ sym (index_pushed 0 i.joins rows);
        };
        made = spelled ∙ ap (λ xs. xs ++ rows_bytes rows) (handed_is v handed i none opened) ∙ sym (rows_bytes-append (all_of i.joins) rows)
            ∙ ap rows_bytes (sym (all_pushed i.joins rows)) ∙ sym (append-nil (rows_bytes (all_of (i.joins ++ rows ∷ [])))) ∙ ap (λ t. rows_bytes (all_of (i.joins ++ rows ∷ [])) ++ index_out t w.index) (sym opened_still);
        own_index = λ e. refl;
        offset = omega (arith, offset, at, len, rows_long rows);
        none_left = λ e. absurd (true≢false (sym e ∙ opened_still));
      }

  -- ---- all nodes

  pub whole_joined : (v w : BlocksValue) (handed : List ℕ) → IsJoined known start v handed → v.waiting ≡ [] → v.is_whole ≡ false → w.merger ≡ v.merger → both_left v.merger ≡ 0
      → w.waiting ≡ v.index → w.is_whole ≡ true → w.offset ≡ v.offset → IsJoined known start w handed
  whole_joined v w handed i none opened merger left waiting whole offset = record {
    joins = i.joins;
    goes_on = λ later all. i.goes_on later (subst (λ m. JoinsAll known m later) merger all);
    index = i.index;
    is_index = i.is_index;
    made = ap (λ xs. handed ++ xs) (waiting ∙ i.own_index opened) ∙ ap (λ xs. xs ++ i.index) (handed_is v handed i none opened) ∙ ap (λ t. rows_bytes (all_of i.joins) ++ index_out t i.index) (sym whole);
    own_index = λ e. absurd (true≢false (sym whole ∙ e));
    offset = offset ∙ i.offset;
    none_left = λ e. ap both_left merger ∙ left;
  }

  -- all of the body was handed out
  pub all_joined : (v : BlocksValue) (handed : List ℕ) → IsJoined known start v handed → v.is_whole ≡ true → v.waiting ≡ [] → IsJoinedBody known start handed
  all_joined v handed i whole none = record {
    joins = i.joins;
    all = subst (JoinsAll known start) (append-nil i.joins) (i.goes_on [] (i.none_left whole));
    index = i.index;
    is_index = i.is_index;
    made = sym (append-nil handed) ∙ ap (λ xs. handed ++ xs) (sym none) ∙ i.made ∙ ap (λ t. rows_bytes (all_of i.joins) ++ index_out t i.index) whole;
  }

  -- ---- a block

  -- where only what waits is moved into the block, or out of it
  moved_joined : (v : BlocksValue) (block waiting handed after : List ℕ) → after ++ waiting ≡ handed ++ v.waiting → IsJoined known start v handed → IsJoined known start (record v { block = block; waiting = waiting }) after
  moved_joined v block waiting handed after same i = record {
    joins = i.joins;
    goes_on = i.goes_on;
    index = i.index;
    is_index = i.is_index;
    made = same ∙ i.made;
    own_index = i.own_index;
    offset = i.offset;
    none_left = i.none_left;
  }

  -- with its block emptied
  pub cleared_joined : (v w : BlocksValue) (handed : List ℕ) → w ≡ record v { block = [] } → IsJoined known start v handed → IsJoined known start w (handed ++ w.block)
  cleared_joined v w handed is i = subst (λ (x : BlocksValue). IsJoined known start x (handed ++ x.block)) (sym is) (moved_joined v [] v.waiting handed (handed ++ []) (ap (λ xs. xs ++ v.waiting) (append-nil handed)) i)

  -- what waits goes on to a block that has room for n bytes
  pub filled_joined : (v w : BlocksValue) (before handed : List ℕ) (n : ℕ) → w ≡ filled v n → v.block ≡ before → IsJoined known start v (handed ++ before) → IsJoined known start w (handed ++ w.block)
  filled_joined v w before handed n is block i =
      subst (λ (x : BlocksValue). IsJoined known start x (handed ++ x.block)) (sym is)
      (moved_joined v (v.block ++ take n v.waiting) (drop n v.waiting) (handed ++ before) (handed ++ (v.block ++ take n v.waiting))
      (ap (λ xs. xs ++ drop n v.waiting) (sym (append_assoc handed v.block (take n v.waiting))) ∙ append_assoc (handed ++ v.block) (take n v.waiting) (drop n v.waiting)
      ∙ ap (λ xs. (handed ++ v.block) ++ xs) (take-append-drop n v.waiting) ∙ ap (λ xs. (handed ++ xs) ++ v.waiting) block) i)

  -- a block that is not empty, or the end of all
  pub gives_joined : (v : BlocksValue) (handed : List ℕ) (none : Bool) → IsJoined known start v (handed ++ v.block) → none ≡ (length v.block == 0) → (none ≡ true → (v.waiting ≡ []) × (v.is_whole ≡ true)) → GivesJoined known start v handed (not none)
  gives_joined v handed false i is ended = i
  gives_joined v handed true i is ended =
      let e = ended refl in
      let nothing : v.block ≡ [] = empty v.block (sym is) in
      let here : handed ++ v.block ≡ handed = ap (λ xs. handed ++ xs) nothing ∙ append-nil handed in
      subst (IsJoinedBody known start) here (all_joined v (handed ++ v.block) i e.1 e.0)
    where
      empty : (xs : List ℕ) → (length xs == 0) ≡ true → xs ≡ []
      empty [] e = refl
      empty (x ∷ xs) e = absurd (omega (arith, eqb-true (length (x ∷ xs)) 0 e))

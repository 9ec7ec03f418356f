-- The body of merged rows, as far as it was handed out.
use Rattle.std.proofs.Common.{◌≡◌, ℕ, ◌+◌, ◌*◌, ◌-◌, ◌<◌, ◌≤◌, min, true, false, cond, not, ◌==◌, Bool, ◌||◌, ◌⊎◌, inl, inr, nat_le, length-take, List, [], ◌∷◌, ◌++◌, length, take, drop, refl, sym, ap, ◌∙◌, subst, arith, eqb-true, append-nil, append_assoc, length-append, true≢false}
use Rattle.std.specs.Prelude.{filter}
use Rattle.std.specs.List.{AllByRecursion}
use Rattle.std.proofs.lemmas.List.{take-append-drop, drop_all}
use Rattle.std.proofs.lemmas.Nat.{mul-le}
use Rattle.std.proofs.lemmas.List.Sums.{sum_by-append}
use Rattle.std.proofs.lemmas.List.Elements.{filter-append}
use Rattle.log_disk.specs.Disk.{Eye}
use Rattle.fine_model.specs.declared.NodeId.{NodeId}
use Rattle.fine_model.specs.declared.Row.{Row}
use Rattle.fine_model.specs.Nodes.{is_node, rows_of}
use Rattle.fine_model.specs.RowBytes.{row_len, rows_bytes, rows_len}
use Rattle.fine_model.specs.Regions.{body_bytes, index_bytes}
use Rattle.fine_model.specs.Merge.{is_node_below, merged, merged_node, nodes_in}
use Rattle.fine_model.proofs.Chain.Grammar.{rows_long, rows_bytes-append}
use Rattle.fine_model.proofs.Merging.MergedRows.{rows_of-merged}
use Rattle.fine_model.proofs.Merging.NodesIn.{same_node}
use Rattle.fine_model.proofs.Ordered.Order.{all_map}
use Rattle.fine_model.proofs.Ordered.Sets.{all_append, all_filter, all_pass}
use Rattle.partition_index.specs.Entries.{bytes_of}
use Rattle.partition_index.specs.Index.{entry_at}
use Rattle.partition_index.proofs.Pieces.{next_node}
use Rattle.partition_index.proofs.Opened.{few_rows}
use Rattle.partition_merge.specs.Blocks.{BlocksValue, Gives, IsAhead, SameBlocks, made_of, steps_left}
use Rattle.partition_merge.specs.Mergers.{StandsAt, HandsOut, behind}
use Rattle.partition_merge.proofs.Nodes.{names}
use Rattle.partition_merge.proofs.Steps.{starts, no_node}

-- ---- lists of rows

-- what a merger hands out are rows of one node
pub own_node : (n : NodeId) (a b rows : List Row) → rows ≡ merged_node (a ++ b) n → AllByRecursion (λ r. r.node ≡ n) rows
own_node n a b rows is =
    subst (AllByRecursion (λ r. r.node ≡ n)) (sym (is ∙ sym (rows_of-merged n a b)))
    (all_map (λ r. is_node n r.node ≡ true) (λ r. r.node ≡ n) (λ r e. sym (same_node n r.node e)) (rows_of n (merged a b)) (all_pass (λ r. is_node n r.node) (merged a b)))

pub below_named : (k n : NodeId) (rows : List Row) → AllByRecursion (λ s. is_node_below k s.node ≡ true) rows → names n rows ≡ true → is_node_below k n ≡ true
below_named k n [] all e = absurd (true≢false (sym e))
below_named k n (s ∷ rows) all e = by (is_node n s.node) refl e (below_named k n rows all.1)
  where
    by : (t : Bool) → is_node n s.node ≡ t → (t || names n rows) ≡ true → (names n rows ≡ true → is_node_below k n ≡ true) → is_node_below k n ≡ true
    by true h e later = subst (λ m. is_node_below k m ≡ true) (sym (same_node n s.node h)) all.0
    by false h e later = later e

-- ---- where nothing was handed out

pub at_start : (eye : Eye) (v : BlocksValue) (a b : List Row) → StandsAt eye v.merger a b → rows_len (merged a b) < 4294967296 → v.waiting ≡ [] → v.index ≡ [] → v.offset ≡ 0 → v.is_whole ≡ false → IsAhead eye v [] a b
unfolding rows_bytes index_bytes nodes_in
at_start eye v a b stands small waiting index offset whole = record {
  small = small;
  so_far = [];
  left_older = a;
  left_newer = b;
  stands = stands;
  together = refl;
  below = tt;
  made = waiting ∙ sym (ap (λ t. made_of t []) whole);
  none_left = λ e. absurd (true≢false (sym e ∙ whole));
  index = λ e. index;
  offset = offset;
}

-- ---- the rows of a node more

-- an index has the entry of a node's rows behind what stood there
abbrev pub HasEntry : List ℕ → List ℕ → ℕ → List Row → Type 0
HasEntry old new offset rows = (id : NodeId) → AllByRecursion (λ r. r.node ≡ id) rows → length rows < 4294967296 → new ≡ old ++ bytes_of (entry_at offset id rows)

pub more_ahead : (eye later : Eye) (v w : BlocksValue) (handed after : List ℕ) (a b rows : List Row) (i : IsAhead eye v handed a b) → v.waiting ≡ [] → v.is_whole ≡ false → HandsOut later w.merger i.left_older i.left_newer rows
    → 1 ≤ length rows → after ++ w.waiting ≡ handed ++ rows_bytes rows → w.is_whole ≡ false → HasEntry v.index w.index v.offset rows → w.offset ≡ min (v.offset + min (length (rows_bytes rows)) 4294967295) 4294967295
    → IsAhead later w after a b
more_ahead eye later v w handed after a b rows i none opened h some spelled opened_still entry offset =
    let n = h.node in
    let lo = i.left_older in
    let ln = i.left_newer in
    let left = behind n lo ++ behind n ln in
    let rest : filter (λ r. is_node_below n r.node) (lo ++ ln) ≡ left = filter-append (λ r. is_node_below n r.node) lo ln in
    let begin = starts n lo ln i.stands.of_older.is_left.ordered i.stands.of_newer.is_left.ordered h.first in
    let own = own_node n lo ln rows h.is_merged in
    let under : AllByRecursion (λ r. is_node_below r.node n ≡ true) i.so_far =
    all_map (λ r. AllByRecursion (λ s. is_node_below r.node s.node ≡ true) (lo ++ ln)) (λ r. is_node_below r.node n ≡ true) (λ r all. below_named r.node n (lo ++ ln) all begin.named) i.so_far i.below in
    let whole : merged a b ≡ (i.so_far ++ rows) ++ merged (behind n lo) (behind n ln) =
    i.together ∙ ap (λ xs. i.so_far ++ xs) h.together ∙ sym (append_assoc i.so_far rows (merged (behind n lo) (behind n ln))) in
    let len : rows_len (i.so_far ++ rows) ≡ rows_len i.so_far + rows_len rows = sum_by-append row_len i.so_far rows in
    let bytes : rows_len i.so_far + rows_len rows < 4294967296 =
    let all : rows_len (merged a b) ≡ rows_len (i.so_far ++ rows) + rows_len (merged (behind n lo) (behind n ln)) = ap rows_len whole ∙ sum_by-append row_len (i.so_far ++ rows) (merged (behind n lo) (behind n ln)) in
    omega (arith, all, len, i.small) in
    let next = next_node i.so_far n rows (record { some = some; all_own = own; below = under }) in
    let made : handed ≡ rows_bytes i.so_far = sym (append-nil handed) ∙ ap (λ xs. handed ++ xs) (sym none) ∙ i.made ∙ ap (λ t. made_of t i.so_far) opened in
    record {
      small = i.small;
      so_far = i.so_far ++ rows;
      left_older = behind n lo;
      left_newer = behind n ln;
      stands = h.left;
      together = whole;
      below = all_append (λ r. AllByRecursion (λ s. is_node_below r.node s.node ≡ true) left) i.so_far rows
          (all_map (λ r. AllByRecursion (λ s. is_node_below r.node s.node ≡ true) (lo ++ ln)) (λ r. AllByRecursion (λ s. is_node_below r.node s.node ≡ true) left)
          (λ r all. subst (AllByRecursion (λ s. is_node_below r.node s.node ≡ true)) rest (all_filter (λ s. is_node_below r.node s.node ≡ true) (λ s. is_node_below n s.node) (lo ++ ln) all)) i.so_far i.below)
          (all_map (λ r. r.node ≡ n) (λ r. AllByRecursion (λ s. is_node_below r.node s.node ≡ true) left)
          (λ r same. subst (λ k. AllByRecursion (λ s. is_node_below k s.node ≡ true) left) (sym same) (subst (AllByRecursion (λ s. is_node_below n s.node ≡ true)) rest (all_pass (λ s. is_node_below n s.node) (lo ++ ln)))) rows own);
      made = spelled ∙ ap (λ xs. xs ++ rows_bytes rows) made ∙ sym (rows_bytes-append i.so_far rows) ∙ sym (ap (λ t. made_of t (i.so_far ++ rows)) opened_still);
      none_left = λ e. absurd (true≢false (sym e ∙ opened_still));
      index = λ e.
          entry n own (omega (arith, bytes, few_rows rows)) ∙ ap (λ xs. xs ++ bytes_of (entry_at v.offset n rows)) (i.index opened)
          ∙ ap (λ k. index_bytes i.so_far ++ bytes_of (entry_at k n rows)) i.offset ∙ sym next.bytes;
      offset = omega (arith, offset, i.offset, len, bytes, rows_long rows);
    }

-- ---- all nodes

pub whole_ahead : (eye later : Eye) (v w : BlocksValue) (handed : List ℕ) (a b : List Row) (i : IsAhead eye v handed a b) → v.waiting ≡ [] → v.is_whole ≡ false
    → (i.left_older ≡ []) × (i.left_newer ≡ []) × StandsAt later w.merger i.left_older i.left_newer → w.waiting ≡ v.index → w.is_whole ≡ true → w.offset ≡ v.offset → IsAhead later w handed a b
whole_ahead eye later v w handed a b i none opened ends waiting whole offset =
    let made : handed ≡ rows_bytes i.so_far = sym (append-nil handed) ∙ ap (λ xs. handed ++ xs) (sym none) ∙ i.made ∙ ap (λ t. made_of t i.so_far) opened in
    record {
      small = i.small;
      so_far = i.so_far;
      left_older = i.left_older;
      left_newer = i.left_newer;
      stands = ends.2;
      together = i.together;
      below = i.below;
      made = ap (λ xs. handed ++ xs) (waiting ∙ i.index opened) ∙ ap (λ xs. xs ++ index_bytes i.so_far) made ∙ sym (ap (λ t. made_of t i.so_far) whole);
      none_left = λ e. (ends.0, ends.1);
      index = λ e. absurd (true≢false (sym whole ∙ e));
      offset = offset ∙ i.offset;
    }

-- all rows were made into bytes
pub all_made : (eye : Eye) (v : BlocksValue) (handed : List ℕ) (a b : List Row) → (i : IsAhead eye v handed a b) → v.is_whole ≡ true → merged a b ≡ i.so_far
all_made eye v handed a b i whole =
    let ends = i.none_left whole in
    let nothing : merged i.left_older i.left_newer ≡ [] = (λ j. merged (ends.0 j) (ends.1 j)) ∙ no_node [] [] refl in
    i.together ∙ ap (λ xs. i.so_far ++ xs) nothing ∙ append-nil i.so_far

-- all of the body was handed out
pub all_ahead : (eye : Eye) (v : BlocksValue) (handed : List ℕ) (a b : List Row) → IsAhead eye v handed a b → v.is_whole ≡ true → v.waiting ≡ [] → handed ≡ body_bytes (merged a b)
all_ahead eye v handed a b i whole none =
    let all = all_made eye v handed a b i whole in
    sym (append-nil handed) ∙ ap (λ xs. handed ++ xs) (sym none) ∙ i.made ∙ ap (λ t. made_of t i.so_far) whole ∙ sym (ap body_bytes all)

-- what waits goes on to the block
pub moved_ahead : (eye : Eye) (v w : BlocksValue) (handed : List ℕ) (a b : List Row) (n : ℕ) → IsAhead eye v (handed ++ v.block) a b → w.merger ≡ v.merger → w.is_whole ≡ v.is_whole → w.index ≡ v.index → w.offset ≡ v.offset
    → w.block ≡ v.block ++ take n v.waiting → w.waiting ≡ drop n v.waiting → IsAhead eye w (handed ++ w.block) a b
moved_ahead eye v w handed a b n i merger whole index offset block waiting = record {
  small = i.small;
  so_far = i.so_far;
  left_older = i.left_older;
  left_newer = i.left_newer;
  stands = subst (λ m. StandsAt eye m i.left_older i.left_newer) (sym merger) i.stands;
  together = i.together;
  below = i.below;
  made = (λ j. (handed ++ block j) ++ waiting j) ∙ ap (λ xs. xs ++ drop n v.waiting) (sym (append_assoc handed v.block (take n v.waiting))) ∙ append_assoc (handed ++ v.block) (take n v.waiting) (drop n v.waiting)
      ∙ ap (λ xs. (handed ++ v.block) ++ xs) (take-append-drop n v.waiting) ∙ i.made ∙ ap (λ t. made_of t i.so_far) (sym whole);
  none_left = λ e. i.none_left (sym whole ∙ e);
  index = λ e. index ∙ i.index (sym whole ∙ e);
  offset = offset ∙ i.offset;
}

-- with its block emptied
pub cleared_ahead : (eye : Eye) (v w : BlocksValue) (handed : List ℕ) (a b : List Row) → w ≡ record v { block = [] } → IsAhead eye v handed a b → IsAhead eye w (handed ++ w.block) a b
cleared_ahead eye v w handed a b is i =
    subst (λ (x : BlocksValue). IsAhead eye x (handed ++ x.block) a b) (sym is)
    (record {
      small = i.small;
      so_far = i.so_far;
      left_older = i.left_older;
      left_newer = i.left_newer;
      stands = i.stands;
      together = i.together;
      below = i.below;
      made = ap (λ xs. xs ++ v.waiting) (append-nil handed) ∙ i.made;
      none_left = i.none_left;
      index = i.index;
      offset = i.offset;
    })

-- what waits goes on to a block that has room for n bytes
abbrev pub filled : BlocksValue → ℕ → BlocksValue
filled v n = record v { block = v.block ++ take n v.waiting; waiting = drop n v.waiting }

pub filled_ahead : (eye : Eye) (v w : BlocksValue) (before handed : List ℕ) (a b : List Row) (n : ℕ) → w ≡ filled v n → v.block ≡ before → IsAhead eye v (handed ++ before) a b → IsAhead eye w (handed ++ w.block) a b
filled_ahead eye v w before handed a b n is block i =
    moved_ahead eye v w handed a b n (subst (λ xs. IsAhead eye v (handed ++ xs) a b) (sym block) i) (ap (λ (x : BlocksValue). x.merger) is) (ap (λ (x : BlocksValue). x.is_whole) is) (ap (λ (x : BlocksValue). x.index) is)
    (ap (λ (x : BlocksValue). x.offset) is) (ap (λ (x : BlocksValue). x.block) is) (ap (λ (x : BlocksValue). x.waiting) is)

pub filled_same : (u v w : BlocksValue) (n : ℕ) → SameBlocks u v → w ≡ filled v n → SameBlocks u w
filled_same u v w n same is = subst (SameBlocks u) (sym is) (record { older = same.older; newer = same.newer; region_len = same.region_len; most = same.most })

pub filled_few : (v w : BlocksValue) (most : ℕ) → length v.block ≤ v.most → v.most ≡ most → w ≡ filled v (v.most - length v.block) → (length w.block ≤ w.most) × (w.most ≡ most)
filled_few v w most few same is =
    let len : length w.block ≡ length v.block + min (v.most - length v.block) (length v.waiting) = ap (λ (x : BlocksValue). length x.block) is ∙ length-append v.block (take (v.most - length v.block) v.waiting) ∙ ap (λ n. length v.block + n) (length-take (v.most - length v.block) v.waiting) in
    let at : w.most ≡ v.most = ap (λ (x : BlocksValue). x.most) is in (omega (arith, len, at, few), at ∙ same)

pub filled_ended : (v w : BlocksValue) (n : ℕ) → w ≡ filled v n → (v.waiting ≡ []) × (v.is_whole ≡ true) → (w.waiting ≡ []) × (w.is_whole ≡ true)
filled_ended v w n is ended = (ap (λ (x : BlocksValue). x.waiting) is ∙ ap (drop n) ended.0 ∙ drop_all n [] (omega arith), ap (λ (x : BlocksValue). x.is_whole) is ∙ ended.1)

-- ---- what a step leaves

falls : (s t m l n k w : ℕ) (more : Bool) → l < m → l ≤ n → n ≤ m → k ≡ n + min (m - n) w → t ≤ s → (more ≡ true → (1 ≤ w) ⊎ (t < s)) → t * (m + 1) + (m - k) + cond more 1 0 < s * (m + 1) + (m - l) + 1
falls s t m l n k w false room longer within is fewer moves = let all : t * (m + 1) ≤ s * (m + 1) = mul-le t (m + 1) s (m + 1) fewer (omega arith) in omega (arith, all, is, room, longer, within)
falls s t m l n k w true room longer within is fewer moves = by (moves refl)
  where
    by : (1 ≤ w) ⊎ (t < s) → t * (m + 1) + (m - k) + 1 < s * (m + 1) + (m - l) + 1
    by (inl some) = let all : t * (m + 1) ≤ s * (m + 1) = mul-le t (m + 1) s (m + 1) fewer (omega arith) in omega (arith, all, is, room, longer, within, some)
    by (inr less) =
        let all : (t + 1) * (m + 1) ≤ s * (m + 1) = mul-le (t + 1) (m + 1) s (m + 1) (omega (arith, less)) (omega arith) in
        let one : (t + 1) * (m + 1) ≡ t * (m + 1) + (m + 1) = omega arith in omega (arith, all, one, is, room, longer, within)

pub step_falls : (u v w : BlocksValue) (was more full : Bool) → was ≡ true → full ≡ nat_le u.most (length u.block) → full ≡ false → length u.block ≤ length v.block → length v.block ≤ v.most → v.most ≡ u.most → steps_left v ≤ steps_left u
    → (more ≡ true → (1 ≤ length v.waiting) ⊎ (steps_left v < steps_left u)) → w ≡ filled v (v.most - length v.block)
    → steps_left w * (w.most + 1) + (w.most - length w.block) + cond more 1 0 < steps_left u * (u.most + 1) + (u.most - length u.block) + cond was 1 0
step_falls u v w was more full goes test room longer few most fewer moves is =
    let below : length u.block < u.most = not_full (nat_le u.most (length u.block)) refl (sym test ∙ room) in
    let len : length w.block ≡ length v.block + min (v.most - length v.block) (length v.waiting) = ap (λ (x : BlocksValue). length x.block) is ∙ length-append v.block (take (v.most - length v.block) v.waiting) ∙ ap (λ n. length v.block + n) (length-take (v.most - length v.block) v.waiting) in
    let at : length w.block ≡ length v.block + min (u.most - length v.block) (length v.waiting) = len ∙ (λ i. length v.block + min (most i - length v.block) (length v.waiting)) in
    let within : length v.block ≤ u.most = omega (arith, few, most) in
    let same : w.most ≡ u.most = ap (λ (x : BlocksValue). x.most) is ∙ most in
    let steps : steps_left w ≡ steps_left v = ap steps_left is in
    let less = falls (steps_left u) (steps_left v) u.most (length u.block) (length v.block) (length w.block) (length v.waiting) more below longer within at fewer moves in
    subst (λ t. steps_left w * (w.most + 1) + (w.most - length w.block) + cond more 1 0 < steps_left u * (u.most + 1) + (u.most - length u.block) + cond t 1 0) (sym goes)
    (subst (λ n. n * (w.most + 1) + (w.most - length w.block) + cond more 1 0 < steps_left u * (u.most + 1) + (u.most - length u.block) + 1) (sym steps)
    (subst (λ n. steps_left v * (n + 1) + (n - length w.block) + cond more 1 0 < steps_left u * (u.most + 1) + (u.most - length u.block) + 1) (sym same) less))
  where
    not_full : (t : Bool) → nat_le u.most (length u.block) ≡ t → t ≡ false → length u.block < u.most
    not_full true e f = absurd (true≢false f)
    not_full false e f = grind (arith, e)

-- a block that is not empty, or the end of all
pub gives : (eye : Eye) (v : BlocksValue) (handed : List ℕ) (a b : List Row) (none : Bool) → IsAhead eye v (handed ++ v.block) a b → none ≡ (length v.block == 0) → (none ≡ true → (v.waiting ≡ []) × (v.is_whole ≡ true)) → Gives eye v handed a b (not none)
gives eye v handed a b false i is ended = i
gives eye v handed a b true i is ended =
    let e = ended refl in
    let nothing : v.block ≡ [] = empty v.block (sym is) in
    sym (append-nil handed) ∙ ap (λ xs. handed ++ xs) (sym nothing) ∙ all_ahead eye v (handed ++ v.block) a b i e.1 e.0
  where
    empty : (xs : List ℕ) → (length xs == 0) ≡ true → xs ≡ []
    empty [] e = refl
    empty (x ∷ xs) e = absurd (omega (arith, eqb-true (length (x ∷ xs)) 0 e))

-- a block that is full has a byte
pub full_not_empty : (most n : ℕ) (full none : Bool) → 1 ≤ most → full ≡ nat_le most n → full ≡ true → none ≡ (n == 0) → none ≡ true → ⊥
full_not_empty most n full none some f full_is e none_is =
    let all : nat_le most n ≡ true = sym f ∙ full_is in
    let nothing : n ≡ 0 = eqb-true n 0 (sym e ∙ none_is) in grind (arith, all, nothing, some)

pub at_most : (most n : ℕ) (full : Bool) → n ≤ most → full ≡ nat_le most n → full ≡ true → n ≡ most
at_most most n full few f is = let all : nat_le most n ≡ true = sym f ∙ is in grind (arith, all, few)

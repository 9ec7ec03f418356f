-- The numbers of merged rows, as far as they were handed out.
use Rattle.std.proofs.Common.{◌≡◌, ℕ, suc, ◌+◌, ◌<◌, ◌≤◌, min, true, false, cond, Bool, ◌&&◌, IsTrue, Some, None, inl, inr, subst, true≢false, List, [], ◌∷◌, ◌++◌, length, map, refl, sym, ap, ◌∙◌, arith, append-nil, append_assoc, length-append}
use Rattle.std.specs.Prelude.{filter, fold, Option}
use Rattle.std.specs.List.{AllByRecursion}
use Rattle.std.proofs.lemmas.List.{length-map}
use Rattle.std.proofs.lemmas.List.Sums.{sum_by-append}
use Rattle.std.proofs.lemmas.List.Elements.{filter-append}
use Rattle.log_disk.specs.Disk.{Eye}
use Rattle.fine_model.specs.declared.NodeId.{NodeId}
use Rattle.fine_model.specs.declared.Row.{Row}
use Rattle.fine_model.specs.RowBytes.{row_len, rows_len}
use Rattle.fine_model.specs.Merge.{is_node_below, is_ordered, with_node, nodes_in, merged}
use Rattle.fine_model.proofs.Merging.MergedLen.{merged_len}
use Rattle.fine_model.proofs.Ordered.Sets.{all_append, all_pass}
use Rattle.fine_model.proofs.Merging.NodeOrder.{below-asym}
use Rattle.partition_index.proofs.Opened.{few_rows}
use Rattle.partition_merge.specs.Merging.{first_node, follows, last_node}
use Rattle.partition_merge.specs.declared.merger.Measure.{Measure}
use Rattle.partition_merge.specs.declared.merger.Merger.{Merger}
use Rattle.fine_model.specs.declared.Part.{Part}
use Rattle.fine_model.specs.Regions.{Image, Place}
use Rattle.node_fetch.specs.Fetched.{HasBadRow}
use Rattle.partition_merge.specs.Mergers.{StandsAt, HandsOut, BlamesRow, older_part, newer_part, behind, measure_of, IsCounted}
use Rattle.partition_merge.proofs.Nodes.{rest_of, nodes_first}
use Rattle.partition_merge.proofs.Steps.{starts, no_node}
use Rattle.partition_merge.proofs.Ascending.{AreOver, ordered_joined, follows_over, last_joined, last_own}
use Rattle.partition_merge.proofs.Ahead.{own_node}

abbrev greatest : ℕ
greatest = 4294967295

-- what was handed out so far is counted
pub record Measured (eye : Eye) (pass : Merger) (older newer : List Row) (last : Option NodeId) (measure : Measure) : Type 0 where
  pub left_older : List Row
  pub left_newer : List Row
  pub stands : StandsAt eye pass left_older left_newer
  pub out : List Row
  pub whole : merged older newer ≡ out ++ merged left_older left_newer
  pub rows : measure.rows ≡ min (length out) greatest
  pub area : measure.area ≡ min (rows_len out) greatest
  pub steps : ℕ
  pub nodes : measure.nodes ≡ min steps greatest
  pub all_nodes : length (nodes_in (older ++ newer)) ≡ steps + length (nodes_in (left_older ++ left_newer))
  pub ordered : measure.ordered ≡ is_ordered out
  pub last_is : last ≡ last_node out
  pub over : AreOver last (left_older ++ left_newer)

pub none_measured : (eye : Eye) (pass : Merger) (older newer : List Row) (last : Option NodeId) (measure : Measure) → last ≡ None → measure.rows ≡ 0 → measure.nodes ≡ 0 → measure.area ≡ 0 → measure.ordered ≡ true → StandsAt eye pass older newer
    → Measured eye pass older newer last measure
none_measured eye pass older newer last measure none rows nodes area ordered at = record {
  left_older = older;
  left_newer = newer;
  stands = at;
  out = [];
  whole = refl;
  rows = rows;
  area = area;
  steps = 0;
  nodes = nodes;
  all_nodes = omega arith;
  ordered = ordered;
  last_is = none;
  over = subst (λ l. AreOver l (older ++ newer)) (sym none) tt;
}

-- one node less is left
fewer_nodes : (n : NodeId) (a b : List Row) → IsTrue (is_ordered a) → IsTrue (is_ordered b) → first_node a b ≡ Some n → length (nodes_in (a ++ b)) ≡ 1 + length (nodes_in (behind n a ++ behind n b))
fewer_nodes n a b a_up b_up first =
    let s = starts n a b a_up b_up first in
    let nodes = nodes_first n (a ++ b) (all_append (λ r. is_node_below r.node n ≡ false) a b s.old_from s.new_from) s.named in
    let rest : length (nodes_in (rest_of n (a ++ b))) ≡ length (nodes_in (behind n a ++ behind n b)) = ap (λ xs. length (nodes_in xs)) (filter-append (λ r. is_node_below n r.node) a b) in
    let all = ap length nodes in omega (arith, all, rest)

-- ---- how many nodes rows name

none_named : length (nodes_in ([] ++ [])) ≡ 0
unfolding nodes_in
none_named = refl

-- rows name no more nodes than there are rows
lower_higher : (id : NodeId) (ids : List NodeId) → length (filter (λ i. is_node_below i id) ids) + length (filter (λ i. is_node_below id i) ids) ≤ length ids
lower_higher id [] = omega arith
lower_higher id (i ∷ ids) = by (is_node_below i id) (is_node_below id i) refl refl (lower_higher id ids)
  where
    low : List NodeId
    low = filter (λ j. is_node_below j id) ids

    high : List NodeId
    high = filter (λ j. is_node_below id j) ids

    by : (a b : Bool) → is_node_below i id ≡ a → is_node_below id i ≡ b → length low + length high ≤ length ids → length (cond a (i ∷ low) low) + length (cond b (i ∷ high) high) ≤ suc (length ids)
    by true true e f rest = absurd (true≢false (sym f ∙ below-asym i id e))
    by true false e f rest = omega (arith, rest)
    by false true e f rest = omega (arith, rest)
    by false false e f rest = omega (arith, rest)

fold_few : (acc ids : List NodeId) → length (fold with_node acc ids) ≤ length acc + length ids
fold_few acc [] = omega arith
fold_few acc (i ∷ ids) = omega (arith, fold_few (with_node acc i) ids, length-append (filter (λ j. is_node_below j i) acc) (i ∷ filter (λ j. is_node_below i j) acc), lower_higher i acc)

nodes_few : (rows : List Row) → length (nodes_in rows) ≤ length rows
unfolding nodes_in
nodes_few rows = omega (arith, fold_few [] (map (λ r. r.node) rows), length-map rows (λ r. r.node))

-- ---- how many nodes are counted

pub few_more : (nodes more left later most : ℕ) → nodes + left ≤ most → later < left → more ≡ min (nodes + 1) greatest → more + later ≤ most
few_more nodes more left later most few fewer is = omega (arith, few, fewer, is)

-- ---- numbers that are 0 together

pub nothing_counted : (measure : Measure) → measure.rows ≡ 0 → measure.nodes ≡ 0 → measure.area ≡ 0 → IsCounted measure
nothing_counted measure r n a = record { few = omega (arith, r, n); nodes = (λ e. r, λ e. n); area = (λ e. r, λ e. a) }

pub more_counted : (measure now : Measure) (rows : List Row) → IsCounted measure → 1 ≤ length rows
    → now.rows ≡ min (measure.rows + length rows) greatest → now.nodes ≡ min (measure.nodes + 1) greatest → now.area ≡ min (measure.area + rows_len rows) greatest → IsCounted now
more_counted measure now rows was some r n a =
    let few = few_rows rows in
    let lower = was.few in
    record {
      few = omega (arith, r, n, lower, some);
      nodes = (λ e. absurd (omega (arith, e, n)), λ e. absurd (omega (arith, e, r, some)));
      area = (λ e. absurd (omega (arith, e, a, few, some)), λ e. absurd (omega (arith, e, r, some)));
    }

pub more_measured : (eye later : Eye) (pass next : Merger) (older newer rows : List Row) (last behind_key : Option NodeId) (measure now : Measure) → (m : Measured eye pass older newer last measure) → HandsOut later next m.left_older m.left_newer rows
    → now.rows ≡ min (measure.rows + length rows) greatest → now.nodes ≡ min (measure.nodes + 1) greatest → now.area ≡ min (measure.area + rows_len rows) greatest → now.ordered ≡ (measure.ordered && (follows last rows && is_ordered rows)) → behind_key ≡ last_node rows → 1 ≤ length rows → Measured later next older newer behind_key now
more_measured eye later pass next older newer rows last behind_key measure now m h r n a o key some = record {
  left_older = behind h.node m.left_older;
  left_newer = behind h.node m.left_newer;
  stands = h.left;
  out = m.out ++ rows;
  whole = m.whole ∙ ap (λ xs. m.out ++ xs) h.together ∙ sym (append_assoc m.out rows (merged (behind h.node m.left_older) (behind h.node m.left_newer)));
  rows = omega (arith, r, m.rows, length-append m.out rows);
  area = omega (arith, a, m.area, sum_by-append row_len m.out rows);
  steps = m.steps + 1;
  nodes = omega (arith, n, m.nodes);
  all_nodes = omega (arith, m.all_nodes, fewer_nodes h.node m.left_older m.left_newer m.stands.of_older.is_left.ordered m.stands.of_newer.is_left.ordered h.first);
  ordered = o ∙ (λ i. m.ordered i && (up i && is_ordered rows)) ∙ sym (ordered_joined m.out rows (sym (ap (λ l. follows l rows) m.last_is) ∙ up));
  last_is = key ∙ sym (last_joined m.out rows some);
  over = subst (λ l. AreOver l (behind h.node m.left_older ++ behind h.node m.left_newer)) (sym (key ∙ last_own h.node rows some own))
      (all_append (λ r. is_node_below h.node r.node ≡ true) (behind h.node m.left_older) (behind h.node m.left_newer) (all_pass (λ r. is_node_below h.node r.node) m.left_older) (all_pass (λ r. is_node_below h.node r.node) m.left_newer));
}
  where
    own : AllByRecursion (λ r. r.node ≡ h.node) rows
    own = own_node h.node m.left_older m.left_newer rows h.is_merged

    up : follows last rows ≡ true
    up = follows_over last h.node rows (m.left_older ++ m.left_newer) m.over (starts h.node m.left_older m.left_newer m.stands.of_older.is_left.ordered m.stands.of_newer.is_left.ordered h.first).named own

pub all_measured : (eye : Eye) (pass : Merger) (older newer : List Row) (last : Option NodeId) (measure : Measure) → (m : Measured eye pass older newer last measure) → m.left_older ≡ [] → m.left_newer ≡ [] → rows_len (merged older newer) < 4294967296 → measure ≡ measure_of (merged older newer)
all_measured eye pass older newer last measure m none_old none_new small =
    let nothing : merged m.left_older m.left_newer ≡ [] = (λ i. merged (none_old i) (none_new i)) ∙ no_node [] [] refl in
    let all : merged older newer ≡ m.out = m.whole ∙ ap (λ xs. m.out ++ xs) nothing ∙ append-nil m.out in
    let no_nodes : length (nodes_in (m.left_older ++ m.left_newer)) ≡ 0 = (λ i. length (nodes_in (none_old i ++ none_new i))) ∙ none_named in
    let nodes : length (nodes_in (merged older newer)) ≡ m.steps = ap length (merged_len older newer).nodes ∙ omega (arith, m.all_nodes, no_nodes) in
    let bytes : rows_len m.out < 4294967296 = subst (λ xs. rows_len xs < 4294967296) all small in
    let few = few_rows m.out in
    let few_nodes = nodes_few (merged older newer) in
    let long = ap length all in
    let len = ap rows_len all in
    let r : measure.rows ≡ length (merged older newer) = omega (arith, m.rows, few, bytes, long) in
    let n : measure.nodes ≡ length (nodes_in (merged older newer)) = omega (arith, m.nodes, nodes, few_nodes, few, bytes, long) in
    let a : measure.area ≡ rows_len (merged older newer) = omega (arith, m.area, bytes, len) in
    let o : measure.ordered ≡ is_ordered (merged older newer) = m.ordered ∙ sym (ap is_ordered all) in
    λ i. record { rows = r i; nodes = n i; area = a i; ordered = o i }

-- what is blamed is told by the parts alone
pub blames_row : (known now : Option Image) (a b : Merger) (place : Place) → now ≡ known → older_part a ≡ older_part b → newer_part a ≡ newer_part b → a.region_len ≡ b.region_len → BlamesRow now a place → BlamesRow known b place
blames_row known now a b place told older newer len h = record {
  node = h.node;
  is_bad = elim h.is_bad [
    | inl bad ↦ inl (by (older_part a) (older_part b) older bad)
    | inr bad ↦ inr (by (newer_part a) (newer_part b) newer bad)
  ];
}
  where
    by : (p q : Part) → p ≡ q → HasBadRow now a.region_len p h.node place → HasBadRow known b.region_len q h.node place
    by p q same bad = subst (λ k. HasBadRow k b.region_len q h.node place) told (subst (λ n. HasBadRow now n q h.node place) len (subst (λ r. HasBadRow now a.region_len r h.node place) same bad))

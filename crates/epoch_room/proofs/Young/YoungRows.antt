-- Rows of the youngest parts, gathered for one: what is said of all parts stays so, and a room with such parts can take something.
use Rattle.std.proofs.Common.{◌≡◌, ◌≢◌, ℕ, ◌+◌, ◌≤◌, ◌&&◌, Bool, true, false, cond, IsTrue, List, [], ◌∷◌, ◌++◌, length, Some, None, refl, sym, ap, subst, ◌∙◌, arith, append_assoc}
use Rattle.std.specs.Prelude.{Option}
use Rattle.std.specs.List.{list_all}
use Rattle.std.proofs.lemmas.Bool.{and_parts, le-leb}
use Rattle.std.proofs.lemmas.List.Elements.{filter-append}
use Rattle.std.proofs.lemmas.List.Sums.{sum_by-append}
use Rattle.fine_model.specs.declared.NodeId.{NodeId}
use Rattle.fine_model.specs.declared.Part.{Part}
use Rattle.fine_model.specs.declared.Rec.{Rec}
use Rattle.fine_model.specs.declared.Row.{Row}
use Rattle.fine_model.specs.Causes.{NoneFit}
use Rattle.fine_model.specs.Chain.{AreRowsOf}
use Rattle.fine_model.specs.Merge.{cost, encoded_len, fits_in, image_of, is_ordered, is_row_below, merged, merged_into, merged_node, nodes_in, regions_for}
use Rattle.fine_model.specs.Nodes.{Agrees, content, is_node, rows_of}
use Rattle.fine_model.specs.Regions.{Image}
use Rattle.fine_model.specs.RowBytes.{row_len, rows_len}
use Rattle.fine_model.specs.VersionLaws.{CostAlike, HaveSameRows}
use Rattle.fine_model.proofs.Ordered.Arranged.{arranged_content}
use Rattle.fine_model.proofs.Chain.Grammar.{ordered_front}
use Rattle.fine_model.proofs.Merging.MergedLen.{merged_len}
use Rattle.fine_model.proofs.Merging.MergedOrder.{merged_order}
use Rattle.fine_model.proofs.Trees.NodeLaws.{Agrees-trans}
use Rattle.fine_model.proofs.Ordered.Permuted.{permuted_law}
use Rattle.fine_model.proofs.Chain.Replaced.{rows_split}
use Rattle.fine_model.proofs.Chain.Unique.{AreRowsOf-unique}
use Rattle.log_partition.proofs.Keyed.{nodes_before}
use Rattle.partition_index.proofs.RowOrder.{higher_than, lower_than, parted}
use Rattle.row_gathering.specs.Gathering.{AreGathered}
use Rattle.epoch_room.proofs.Merges.MergeFits.{find_least, first_at, second_at}

-- ---- the rows of a node, in order

ordered_back : (front more : List Row) → is_ordered (front ++ more) ≡ true → is_ordered more ≡ true
ordered_back [] more h = h
ordered_back (r ∷ []) [] h = refl
ordered_back (r ∷ []) (s ∷ more) h = (and_parts (is_row_below r s) (is_ordered (s ∷ more)) h).1
ordered_back (r ∷ s ∷ front) more h = ordered_back (s ∷ front) more (and_parts (is_row_below r s) (is_ordered (s ∷ front ++ more)) h).1

-- the rows of one node among rows in order are in order
of_node : (id : NodeId) (rows : List Row) → is_ordered rows ≡ true → is_ordered (rows_of id rows) ≡ true
of_node id rows h =
    ordered_front (rows_of id rows) (higher_than id rows)
    (ordered_back (lower_than id rows) (rows_of id rows ++ higher_than id rows) (subst (λ rs. is_ordered rs ≡ true) (parted id rows h) h))

into_ordered : (id : NodeId) (own : List Row) (version : ℕ) (o : Option Rec) → is_ordered own ≡ true → is_ordered (merged_into id own version o) ≡ true
unfolding merged_into
into_ordered id own version o h = by o
  where
    chosen : (b : Bool) (row : Row) → is_ordered (cond b (row ∷ []) own) ≡ true
    chosen true row = refl
    chosen false row = h

    by : (o : Option Rec) → is_ordered (merged_into id own version o) ≡ true
    by None = h
    by (Some image) = chosen _ _

all_true : (p : NodeId → Bool) (ids : List NodeId) → ((id : NodeId) → p id ≡ true) → list_all p ids ≡ true
all_true p [] each = refl
all_true p (id ∷ ids) each = ap (λ b. b && list_all p ids) (each id) ∙ all_true p ids each

-- ---- rows that some parts have, and the gathered ones

module _ (rows own : List Row) (same : HaveSameRows own rows) (alike : CostAlike own rows) (ordered : is_ordered rows ≡ true) where
  -- of the first two parts the merged rows are in order, and no longer
  module _ (o n rest : List Row) (is : own ≡ o ++ (n ++ rest)) where
    joined : own ≡ (o ++ n) ++ rest
    joined = is ∙ sym (append_assoc o n rest)

    two_ordered : (id : NodeId) → is_ordered (rows_of id (o ++ n)) ≡ true
    two_ordered id =
        ordered_front (rows_of id (o ++ n)) (rows_of id rest)
        (subst (λ rs. is_ordered rs ≡ true) (same.of_each id ∙ ap (rows_of id) joined ∙ filter-append (λ row. is_node id row.node) (o ++ n) rest) (of_node id rows ordered))

    node_ordered : (id : NodeId) → is_ordered (merged_node (o ++ n) id) ≡ true
    unfolding merged_node
    node_ordered id = into_ordered id (rows_of id (o ++ n)) (content (o ++ n) id).1 (image_of (content (o ++ n) id).0) (two_ordered id)

    pub merged_ordered : IsTrue (is_ordered (merged o n))
    merged_ordered = merged_order o n ∙ all_true (λ id. is_ordered (merged_node (o ++ n) id)) (nodes_in (o ++ n)) node_ordered

    pub merged_fits : (region_len : ℕ) → encoded_len rows ≤ region_len → regions_for region_len (merged o n) ≡ Some 1
    unfolding regions_for
    merged_fits region_len within = find_least (λ k. fits_in region_len k (cost (merged o n))) 1 8 1 (omega arith) (omega arith) fits (λ i low high. absurd (omega (arith, low, high)))
      where
        less : cost (merged o n) ≤ cost rows
        less =
            let l = merged_len o n in
            let a = sum_by-append row_len (o ++ n) rest in
            let b = sum_by-append row_len o n in
            omega (arith, l.rows, ap length l.nodes, a, b, ap rows_len joined, ap (λ rs. length (nodes_in rs)) joined, nodes_before (o ++ n) rest, alike.same_cost)

        fits : fits_in region_len 1 (cost (merged o n)) ≡ true
        fits = le-leb (41 + cost (merged o n)) region_len (omega (arith, less, within))

  -- a log agrees with the rows before and the gathered ones, as with the own ones
  pub young_agrees : (first log : List Row) → Agrees (first ++ own) log → Agrees (first ++ rows) log
  young_agrees first log agrees = Agrees-trans log (first ++ own) (first ++ rows) (record { same = λ id whole. arranged_content first own rows same id }) agrees

  pub young_no_longer : (first : List Row) → rows_len (first ++ rows) ≡ rows_len (first ++ own)
  young_no_longer first = let a = sum_by-append row_len first rows in let b = sum_by-append row_len first own in omega (arith, a, b, alike.same_len)

module _ (region_len : ℕ) (image : Image) (before : List Part) (oldest : Part) (newer : List Part) (rows : List Row) (gathered : AreGathered region_len image (oldest ∷ newer) rows) where
  pub alike : CostAlike gathered.own rows
  alike = permuted_law gathered.own rows gathered.permuted

  -- where one region is free, two neighbours fit
  pub some_fit : newer ≢ [] → is_ordered rows ≡ true → encoded_len rows ≤ region_len → (free : ℕ) → 1 ≤ free → NoneFit region_len image (before ++ oldest ∷ newer) free → ⊥
  some_fit several ordered within free enough none = by newer several gathered.own gathered.are_rows gathered.same alike none
    where
      by : (ps : List Part) → ps ≢ [] → (own : List Row) → AreRowsOf region_len image (oldest ∷ ps) own → HaveSameRows own rows → CostAlike own rows → NoneFit region_len image (before ++ oldest ∷ ps) free → ⊥
      by [] some own are same costs none = some refl
      by (q ∷ ps) some own are same costs none =
          let b = rows_split region_len image (oldest ∷ []) (q ∷ ps) own are in
          let c = rows_split region_len image (q ∷ []) ps b.second b.of_back in
          let is : own ≡ b.first ++ (c.first ++ c.second) = b.joined ∙ ap (λ rs. b.first ++ rs) c.joined in
          none b.first c.first
          (record {
            at = length before;
            a = oldest;
            b = q;
            is_a = first_at before oldest q ps;
            is_b = second_at before oldest q ps;
            older_rows = b.of_front;
            newer_rows = c.of_front;
          })
          (record {
            ordered = merged_ordered rows own same costs ordered b.first c.first c.second is;
            regions = 1;
            needed = merged_fits rows own same costs ordered b.first c.first c.second is region_len within;
            enough = enough;
          })

  -- the rows of a chain that these parts end
  pub record AreJoined (all : List Row) : Type 0 where
    pub first : List Row
    pub joined : all ≡ first ++ gathered.own
    pub of_before : AreRowsOf region_len image before first

  pub are_joined : (all : List Row) → AreRowsOf region_len image (before ++ oldest ∷ newer) all → AreJoined all
  are_joined all are =
      let a = rows_split region_len image before (oldest ∷ newer) all are in
      record { first = a.first; joined = a.joined ∙ ap (λ rs. a.first ++ rs) (AreRowsOf-unique region_len image (oldest ∷ newer) a.second gathered.own a.of_back gathered.are_rows); of_before = a.of_front }

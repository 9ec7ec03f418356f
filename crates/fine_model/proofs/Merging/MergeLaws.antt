-- Merging changes nothing of later replay, at each node that is not left broken.
use Rattle.std.proofs.Common.{◌≡◌, ◌≢◌, ◌⊎◌, ℕ, ◌+◌, ◌==◌, Bool, true, false, cond, ◌&&◌, ◌||◌, List, [], ◌∷◌, ◌++◌, refl, sym, ap, ◌∙◌, inl, inr, true≢false, arith, eqb-true, ne_eqb, nat_le}
use Rattle.fine_model.specs.Types.{NodeId, Rec, Row, Node}
use Rattle.fine_model.specs.Types.rec
use Rattle.fine_model.specs.Types.node
use Rattle.fine_model.specs.RowBytes.{row_len, rows_len}
use Rattle.fine_model.specs.Nodes.{Content, base, changed, changed_from, step_node, step, replay}
use Rattle.fine_model.specs.Merge.{image_of, is_image, starts_afresh, merged_into}
use Rattle.fine_model.proofs.Trees.NodeLaws.{replay-append, replay_broken}
use Rattle.fine_model.proofs.Ordered.Order.{first_of_both}

-- a first version behind another version breaks the node
late_first : (c : Content) (version : ℕ) (change : Rec) → (version == 1) ≡ true → c.1 ≢ 0 → changed_from c version change ≡ node.Broken
late_first c version change first behind =
    ap (λ b. cond b (changed c.0 change) node.Broken) (ne_eqb version (c.1 + 1) (λ e. let one : version ≡ 1 = eqb-true version 1 first in behind (omega arith)))

-- what a node was before a row that needs nothing before it: as it began, or of some version
abbrev pub IsBase : NodeId → Content → Type 0
IsBase id c = (c ≡ base id) ⊎ (c.1 ≢ 0)

fresh_step : (id : NodeId) (c : Content) (version : ℕ) (change : Rec) → (is_image change || (version == 1)) ≡ true → IsBase id c
    → (step_node c version change ≡ step_node (base id) version change) ⊎ (step_node c version change ≡ node.Broken)
fresh_step id c version (rec.HeadImage root next depth) fresh from = inl refl
fresh_step id c version (rec.LeafImage pairs) fresh from = inl refl
fresh_step id c version (rec.InnerImage seps kids) fresh from = inl refl
fresh_step id c version change fresh (inl e) = inl (ap (λ x. step_node x version change) e)
fresh_step id c version change fresh (inr n) = inr (late_first c version change fresh n)

-- rows that start afresh leave what they leave in the node's base, or break it
pub fresh_rows : (id : NodeId) (rows : List Row) (c : Content) → starts_afresh rows ≡ true → IsBase id c
    → (replay c rows ≡ replay (base id) rows) ⊎ ((replay c rows).0 ≡ node.Broken)
unfolding replay step
fresh_rows id [] c fresh from = absurd (true≢false (sym fresh))
fresh_rows id (row ∷ rows) c fresh from = by (fresh_step id c row.version row.rec fresh from)
  where
    swap : ((replay c (row ∷ rows)).0 ≡ node.Broken) ⊎ (replay c (row ∷ rows) ≡ replay (base id) (row ∷ rows)) → (replay c (row ∷ rows) ≡ replay (base id) (row ∷ rows)) ⊎ ((replay c (row ∷ rows)).0 ≡ node.Broken)
    swap (inl b) = inr b
    swap (inr e) = inl e

    by : (step_node c row.version row.rec ≡ step_node (base id) row.version row.rec) ⊎ (step_node c row.version row.rec ≡ node.Broken) → (replay c (row ∷ rows) ≡ replay (base id) (row ∷ rows)) ⊎ ((replay c (row ∷ rows)).0 ≡ node.Broken)
    by (inl e) = inl (ap (λ n. replay (n, row.version) rows) e)
    by (inr broken) = swap (replay_broken rows (step c row) (step (base id) row) broken)

-- One row of a node's image in place of its rows: in any content it leaves what they leave in the node's base.
pub record IsImage (id : NodeId) (own rows : List Row) : Type 0 where
  pub row : Row
  pub is : rows ≡ row ∷ []
  pub fresh : starts_afresh own ≡ true
  pub stands : (c : Content) → replay c (row ∷ []) ≡ replay (base id) own

-- what a node's rows become is these rows, or its image
pub rows_or_image : (id : NodeId) (own : List Row)
    → (merged_into id own (replay (base id) own).1 (image_of (replay (base id) own).0) ≡ own) ⊎ IsImage id own (merged_into id own (replay (base id) own).1 (image_of (replay (base id) own).0))
unfolding step replay merged_into
rows_or_image id own = by (replay (base id) own).0 refl
  where
    b : Content
    b = replay (base id) own

    image_row : Rec → Row
    image_row image = record { node = id; version = b.1; rec = image }

    shorter : Rec → Bool
    shorter image = nat_le (row_len (image_row image)) (rows_len own)

    with : (image : Rec) → ((c : Content) → step c (image_row image) ≡ b) → (test : Bool) → (starts_afresh own && shorter image) ≡ test
        → (cond test (image_row image ∷ []) own ≡ own) ⊎ IsImage id own (cond test (image_row image ∷ []) own)
    with image stands true passed = inr (record { row = image_row image; is = refl; fresh = (first_of_both (starts_afresh own) (shorter image) passed).0; stands = stands })
    with image stands false passed = inl refl

    by : (n : Node) → b.0 ≡ n → (merged_into id own b.1 (image_of n) ≡ own) ⊎ IsImage id own (merged_into id own b.1 (image_of n))
    by (node.Head root next depth) is = with (rec.HeadImage root next depth) (λ c. ap (λ m. (m, b.1)) (sym is)) (starts_afresh own && shorter (rec.HeadImage root next depth)) refl
    by (node.Leaf pairs) is = with (rec.LeafImage pairs) (λ c. ap (λ m. (m, b.1)) (sym is)) (starts_afresh own && shorter (rec.LeafImage pairs)) refl
    by (node.Inner seps kids) is = with (rec.InnerImage seps kids) (λ c. ap (λ m. (m, b.1)) (sym is)) (starts_afresh own && shorter (rec.InnerImage seps kids)) refl
    by node.Broken is = inl refl

-- a node's merged rows leave what its rows leave, whatever rows follow
pub replay-merged_into : (id : NodeId) (own later : List Row) (c : Content) → IsBase id c → (replay c (own ++ later)).0 ≢ node.Broken
    → replay c (merged_into id own (replay (base id) own).1 (image_of (replay (base id) own).0) ++ later) ≡ replay c (own ++ later)
unfolding step replay
replay-merged_into id own later c from whole = by (rows_or_image id own)
  where
    b : Content
    b = replay (base id) own

    same : (replay c own ≡ b) ⊎ ((replay c own).0 ≡ node.Broken) → replay b later ≡ replay (replay c own) later
    same (inl e) = ap (λ x. replay x later) (sym e)
    same (inr broken) = still (replay_broken later (replay c own) b broken)
      where
        still : ((replay (replay c own) later).0 ≡ node.Broken) ⊎ (replay (replay c own) later ≡ replay b later) → replay b later ≡ replay (replay c own) later
        still (inl broke) = absurd (whole (ap (λ x. x.0) (replay-append c own later) ∙ broke))
        still (inr e) = sym e

    by : (merged_into id own b.1 (image_of b.0) ≡ own) ⊎ IsImage id own (merged_into id own b.1 (image_of b.0)) → replay c (merged_into id own b.1 (image_of b.0) ++ later) ≡ replay c (own ++ later)
    by (inl e) = ap (λ rows. replay c (rows ++ later)) e
    by (inr i) = ap (λ rows. replay c (rows ++ later)) i.is ∙ ap (λ x. replay x later) (i.stands c) ∙ same (fresh_rows id own c i.fresh from) ∙ sym (replay-append c own later)

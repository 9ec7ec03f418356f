-- When the image of a node stands for its rows.
use Rattle.std.proofs.Common.{◌≡◌, ℕ, ◌+◌, ◌-◌, ◌<◌, ◌≤◌, Bool, true, false, cond, ◌&&◌, List, [], ◌∷◌, ◌++◌, Some, None, refl, sym, ap, ◌∙◌, arith, nat_le, true≢false}
use Rattle.std.specs.Prelude.{Option}
use Rattle.std.proofs.lemmas.List.Sums.{sum_by-append}
use Rattle.fine_model.specs.declared.NodeId.{NodeId}
use Rattle.fine_model.specs.declared.Rec.{Rec}
use Rattle.fine_model.specs.declared.Rec.TheVariants as rec
use Rattle.fine_model.specs.declared.Row.{Row}
use Rattle.fine_model.specs.RowBytes.{row_len, rows_len}
use Rattle.fine_model.specs.Nodes.{Content, base, replay, step, step_node}
use Rattle.fine_model.specs.Merge.{image_of, is_image, starts_afresh, merged_into}
use Rattle.std.proofs.lemmas.Bool.{lt-leb, le-leb}
use Rattle.fine_model.proofs.Trees.NodeLaws.{replay-append}
use Rattle.partition_merge.specs.Merging.{merged_of}

-- rows that need something before them stay
pub stay_stale : (id : NodeId) (own : List Row) → starts_afresh own ≡ false → merged_of id own ≡ own
unfolding merged_of merged_into
stay_stale id own stale = by (image_of (replay (base id) own).0)
  where
    by : (image : Option Rec) → merged_into id own (replay (base id) own).1 image ≡ own
    by None = refl
    by (Some image) = ap (λ b. cond (b && nat_le (row_len (record { node = id; version = (replay (base id) own).1; rec = image })) (rows_len own)) (record { node = id; version = (replay (base id) own).1; rec = image } ∷ []) own) stale

-- the two lists are replayed one after the other
pub replayed : (id : NodeId) (older newer : List Row) (a b c : Content) → a ≡ base id → b ≡ replay a older → c ≡ replay b newer → c ≡ replay (base id) (older ++ newer)
replayed id older newer a b c first second third = third ∙ ap (λ x. replay x newer) (second ∙ ap (λ x. replay x older) first) ∙ sym (replay-append (base id) older newer)

as_replayed : (id : NodeId) (own : List Row) (c : Content) → c ≡ replay (base id) own → merged_of id own ≡ merged_into id own c.1 (image_of c.0)
unfolding merged_of
as_replayed id own c e = ap (λ x. merged_into id own x.1 (image_of x.0)) (sym e)

-- rows that leave the node broken stay
pub stay_broken : (id : NodeId) (own : List Row) (c : Content) → c ≡ replay (base id) own → image_of c.0 ≡ None → merged_of id own ≡ own
unfolding merged_into
stay_broken id own c e none = as_replayed id own c e ∙ ap (merged_into id own c.1) none

-- rows whose image is longer stay
pub stay_short : (id : NodeId) (own : List Row) (c : Content) (image : Rec) → c ≡ replay (base id) own → image_of c.0 ≡ Some image
    → nat_le (row_len (record { node = id; version = c.1; rec = image })) (rows_len own) ≡ false → merged_of id own ≡ own
unfolding merged_into
stay_short id own c image e is longer = as_replayed id own c e ∙ ap (merged_into id own c.1) is ∙ by (starts_afresh own)
  where
    row : Row
    row = record { node = id; version = c.1; rec = image }

    by : (t : Bool) → cond (t && nat_le (row_len row) (rows_len own)) (row ∷ []) own ≡ own
    by true = ap (λ b. cond b (row ∷ []) own) longer
    by false = refl

-- the image stands for rows that start afresh and are no shorter
pub fold_to : (id : NodeId) (own : List Row) (c : Content) (image : Rec) → c ≡ replay (base id) own → image_of c.0 ≡ Some image → starts_afresh own ≡ true
    → nat_le (row_len (record { node = id; version = c.1; rec = image })) (rows_len own) ≡ true → merged_of id own ≡ record { node = id; version = c.1; rec = image } ∷ []
unfolding merged_into
fold_to id own c image e is fresh shorter =
    as_replayed id own c e ∙ ap (merged_into id own c.1) is ∙ ap (λ t. cond (t && nat_le (row_len row) (rows_len own)) (row ∷ []) own) fresh ∙ ap (λ b. cond b (row ∷ []) own) shorter
  where
    row : Row
    row = record { node = id; version = c.1; rec = image }

-- what is left of a length after both lists says whether the length is above theirs
pub above_both : (len : ℕ) (older newer : List Row) (x y : ℕ) → x ≡ len - rows_len older → y ≡ x - rows_len newer → 0 < y → nat_le len (rows_len (older ++ newer)) ≡ false
above_both len older newer x y first second some =
    let total : rows_len (older ++ newer) ≡ rows_len older + rows_len newer = sum_by-append row_len older newer in
    let h : rows_len (older ++ newer) < len = omega (arith, total, first, second, some) in lt-leb len (rows_len (older ++ newer)) h

pub within_both : (len : ℕ) (older newer : List Row) (x y : ℕ) → x ≡ len - rows_len older → y ≡ x - rows_len newer → y ≤ 0 → nat_le len (rows_len (older ++ newer)) ≡ true
within_both len older newer x y first second none =
    let total : rows_len (older ++ newer) ≡ rows_len older + rows_len newer = sum_by-append row_len older newer in
    let h : len ≤ rows_len (older ++ newer) = omega (arith, total, first, second, none) in le-leb len (rows_len (older ++ newer)) h

-- the image row in the form in which it was made
pub fold_row : (id : NodeId) (own : List Row) (c : Content) (row : Row) → c ≡ replay (base id) own → image_of c.0 ≡ Some row.rec → row.node ≡ id → row.version ≡ c.1
    → starts_afresh own ≡ true → nat_le (row_len row) (rows_len own) ≡ true → merged_of id own ≡ row ∷ []
fold_row id own c row e is same version fresh shorter = fold_to id own c row.rec e is fresh shorter ∙ ap (λ r. r ∷ []) made
  where
    made : record { node = id; version = c.1; rec = row.rec } ≡ row
    made = λ k. record { node = sym same k; version = sym version k; rec = row.rec }

-- the image of an image is the same change
image_kept : (change : Rec) (c : Content) (version : ℕ) → is_image change ≡ true → image_of (step_node c version change) ≡ Some change
image_kept (rec.HeadImage root next depth) c version e = refl
image_kept (rec.LeafImage pairs) c version e = refl
image_kept (rec.InnerImage seps kids) c version e = refl
image_kept (rec.Put key value) c version e = absurd (true≢false (sym e))
image_kept (rec.Del key) c version e = absurd (true≢false (sym e))
image_kept (rec.CutLeaf key) c version e = absurd (true≢false (sym e))
image_kept (rec.Plus key by) c version e = absurd (true≢false (sym e))
image_kept (rec.CutInner key) c version e = absurd (true≢false (sym e))
image_kept (rec.Link key child) c version e = absurd (true≢false (sym e))

-- one image of the node stands for itself, folded or not
pub stay_image : (id : NodeId) (row : Row) → row.node ≡ id → is_image row.rec ≡ true → merged_of id (row ∷ []) ≡ row ∷ []
unfolding merged_into step replay
stay_image id row same image =
    as_replayed id (row ∷ []) _ refl ∙ ap (merged_into id (row ∷ []) row.version) (image_kept row.rec (base id) row.version image) ∙ by (starts_afresh (row ∷ []) && nat_le (row_len made) (rows_len (row ∷ [])))
  where
    made : Row
    made = record { node = id; version = row.version; rec = row.rec }

    by : (t : Bool) → cond t (made ∷ []) (row ∷ []) ≡ row ∷ []
    by true = λ k. record { node = sym same k; version = row.version; rec = row.rec } ∷ []
    by false = refl

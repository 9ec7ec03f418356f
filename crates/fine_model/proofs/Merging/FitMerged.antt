-- Merged rows are within bounds.
use Rattle.std.proofs.Common.{◌≡◌, ◌≢◌, ◌⊎◌, inl, inr, ℕ, ◌+◌, ◌<◌, ◌≤◌, ◌==◌, nat_le, Bool, true, false, cond, not, ◌&&◌, ◌↔◌, List, [], ◌∷◌, ◌++◌, Option, Some, None, refl, sym, ap, ◌∙◌, subst, arith, eqb-true, eq-eqb, ne_eqb}
use Rattle.std.specs.Prelude.{flat_map, bytes_eq, length, take, drop, ℤ, ◌+ℤ◌, IfSome}
use Rattle.std.specs.List.{AllByRecursion, list_any}
use Rattle.std.proofs.lemmas.Bool.{cases_eq}
use Rattle.fine_model.specs.Types.{NodeId, Rec, Row, Node, Mark}
use Rattle.fine_model.specs.Types.rec
use Rattle.fine_model.specs.Types.node
use Rattle.fine_model.specs.Types.mark
use Rattle.fine_model.specs.Map.{Pair, get, set}
use Rattle.fine_model.specs.NumberText.{number_of, number_text, is_i64}
use Rattle.fine_model.specs.RowBytes.{greatest, kind, last_kind, row_len, rows_len, FitsRec, FitsRow}
use Rattle.fine_model.specs.Nodes.{Content, base, added, keys_below, keys_above, changed, step_node, step, replay, is_node, rows_of, content}
use Rattle.fine_model.specs.Merge.{image_of, starts_afresh, merged_into, merged_node, merged, nodes_in}
use Rattle.fine_model.specs.BoundLaws.{MergedFits}
use Rattle.fine_model.proofs.Merging.NodesIn.{same_node}
use Rattle.fine_model.proofs.Ordered.Parts.{all_both}
use Rattle.fine_model.proofs.Ordered.Sets.{all_filter, all_append, all_pass}
use Rattle.fine_model.proofs.Trees.NodeBounds.{node_fits}

-- ---- heads

abbrev is_head : Node → Bool
is_head (node.Head root next depth) = true
is_head _ = false

no_head_if : (b : Bool) (n : Node) → is_head n ≡ false → is_head (cond b n node.Broken) ≡ false
no_head_if true n h = h
no_head_if false n h = refl

added_no_head : (pairs : List Pair) (key : List ℕ) (by : ℤ) (o : Option (List ℕ)) → is_head (added pairs key by o) ≡ false
unfolding added
added_no_head pairs key n None = refl
added_no_head pairs key n (Some text) = by (number_of text) refl
  where
    by : (z : Option ℤ) → number_of text ≡ z → is_head (added pairs key n (Some text)) ≡ false
    by None e = rw e refl
    by (Some z) e = rw e (no_head_if (is_i64 (z +ℤ n)) (node.Leaf (set pairs key (number_text (z +ℤ n)))) refl)

-- no change makes a head
changed_no_head : (n : Node) (change : Rec) → is_head (changed n change) ≡ false
unfolding changed
changed_no_head (node.Leaf pairs) (rec.Put key value) = no_head_if (nat_le (length (set pairs key value)) 32) (node.Leaf (set pairs key value)) refl
changed_no_head (node.Leaf pairs) (rec.Del key) = refl
changed_no_head (node.Leaf pairs) (rec.CutLeaf key) = refl
changed_no_head (node.Leaf pairs) (rec.Plus key by) = added_no_head pairs key by (get pairs key)
changed_no_head (node.Inner seps kids) (rec.CutInner key) = refl
changed_no_head (node.Inner seps kids) (rec.Link key child) =
    no_head_if (not (list_any (bytes_eq key) seps) && nat_le (length seps + 1) 32)
    (node.Inner (keys_below key seps ++ key ∷ keys_above key seps) (take (length (keys_below key seps) + 1) kids ++ child ∷ drop (length (keys_below key seps) + 1) kids)) refl
changed_no_head _ _ = refl

-- a row leaves a head where its change is a head's image, and only there
head_kind : (old : Content) (version : ℕ) (change : Rec) → is_head (step_node old version change) ≡ (kind change == 1)
head_kind old version (rec.HeadImage root next depth) = refl
head_kind old version (rec.LeafImage pairs) = refl
head_kind old version (rec.InnerImage seps kids) = refl
head_kind old version change = no_head_if (version == old.1 + 1) (changed old.0 change) (changed_no_head old.0 change)

-- ---- what rows within bounds leave in their node

module _ (m : Mark) (id : NodeId) where
  -- a row of the node, within bounds
  abbrev IsOwn : Row → Type 0
  IsOwn row = FitsRow m row × (row.node ≡ id)

  -- a version within bounds, and a head where the node is number 0, and only there
  record Left (c : Content) : Type 0 where
    low : 1 ≤ c.1
    high : c.1 ≤ greatest
    head : is_head c.0 ≡ (id.number == 0)

  one_row : (old : Content) (row : Row) → IsOwn row → Left (step old row)
  unfolding step
  one_row old row own =
      let f = own.0 in
      record { low = f.version_low; high = f.version_high; head = head_kind old row.version row.rec ∙ same f.head (ap (λ n. n.number) own.1) (cases_eq row.node.number 0) }
    where
      same : (row.node.number ≡ 0) ↔ (kind row.rec ≡ 1) → row.node.number ≡ id.number → (row.node.number ≡ 0) ⊎ (row.node.number ≢ 0) → (kind row.rec == 1) ≡ (id.number == 0)
      same iff e (inl zero_) = eq-eqb (kind row.rec) 1 (iff.0 zero_) ∙ sym (eq-eqb id.number 0 (sym e ∙ zero_))
      same iff e (inr other) = ne_eqb (kind row.rec) 1 (λ k. other (iff.1 k)) ∙ sym (ne_eqb id.number 0 (λ z. other (e ∙ z)))

  all_rows : (rows : List Row) (old : Content) → AllByRecursion IsOwn rows → Left old → Left (replay old rows)
  unfolding replay
  all_rows [] old own left = left
  all_rows (row ∷ rows) old own left = all_rows rows (step old row) own.1 (one_row old row own.0)

  some_rows : (row : Row) (rows : List Row) (old : Content) → AllByRecursion IsOwn (row ∷ rows) → Left (replay old (row ∷ rows))
  unfolding replay
  some_rows row rows old own = all_rows rows (step old row) own.1 (one_row old row own.0)

  few : (k : ℕ) → k ≤ 8 → k ≤ last_kind m
  few k h = by m
    where
      by : (m : Mark) → k ≤ last_kind m
      by mark.One = h
      by mark.Two = omega (arith, h)
      by mark.Three = omega (arith, h)

  abbrev Kind : Node → Rec → Type 0
  Kind n image = (kind image ≤ last_kind m) × (is_head n ≡ (kind image == 1))

  image_kind : (n : Node) (image : Rec) → image_of n ≡ Some image → Kind n image
  image_kind (node.Head root next depth) image is = let e : rec.HeadImage root next depth ≡ image = cc in subst (Kind (node.Head root next depth)) e (few 1 (omega arith), refl)
  image_kind (node.Leaf pairs) image is = let e : rec.LeafImage pairs ≡ image = cc in subst (Kind (node.Leaf pairs)) e (few 2 (omega arith), refl)
  image_kind (node.Inner seps kids) image is = let e : rec.InnerImage seps kids ≡ image = cc in subst (Kind (node.Inner seps kids)) e (few 3 (omega arith), refl)
  image_kind node.Broken image is = absurd cc

  -- the image of what they leave is a row within bounds
  image_fits : (row : Row) (rows : List Row) (image : Rec) → AllByRecursion IsOwn (row ∷ rows) → image_of (replay (base id) (row ∷ rows)).0 ≡ Some image → FitsRec image
      → FitsRow m (record { node = id; version = (replay (base id) (row ∷ rows)).1; rec = image })
  image_fits row rows image own is fits =
      let l = some_rows row rows (base id) own in
      let k = image_kind (replay (base id) (row ∷ rows)).0 image is in
      let f = own.0.0 in
      let same : (id.number == 0) ≡ (kind image == 1) = sym l.head ∙ k.1 in record {
        of_format = k.0;
        bucket = subst (λ n. n.bucket < 256) own.0.1 f.bucket;
        number = subst (λ n. n.number < 1048576) own.0.1 f.number;
        head = (λ e. eqb-true (kind image) 1 (sym same ∙ eq-eqb id.number 0 e), λ e. eqb-true id.number 0 (same ∙ eq-eqb (kind image) 1 e));
        version_low = l.low;
        version_high = l.high;
        rec = fits;
      }

-- ---- merged rows

flat_all : {A B : Type 0} (P : B → Type 0) (f : A → List B) (each : (x : A) → AllByRecursion P (f x)) (xs : List A) → AllByRecursion P (flat_map f xs)
flat_all P f each [] = tt
flat_all P f each (x ∷ xs) = all_append P (f x) (flat_map f xs) (each x) (flat_all P f each xs)

module _ (m : Mark) (rows : List Row) (fits : AllByRecursion (FitsRow m) rows) (id : NodeId) where
  kept : AllByRecursion (FitsRow m) (rows_of id rows)
  kept = all_filter (FitsRow m) (λ row. is_node id row.node) rows fits

  own : AllByRecursion (IsOwn m id) (rows_of id rows)
  own = all_both (FitsRow m) (λ row. is_node id row.node ≡ true) (IsOwn m id) (λ row f e. (f, sym (same_node id row.node e))) (rows_of id rows) kept (all_pass (λ row. is_node id row.node) rows)

  merged_fits_in : (some : List Row) → some ≡ rows_of id rows → (o : Option Rec) → image_of (content rows id).0 ≡ o → AllByRecursion (FitsRow m) (merged_into id some (content rows id).1 o)
  unfolding merged_into content
  merged_fits_in some is None e = subst (AllByRecursion (FitsRow m)) (sym is) kept
  merged_fits_in [] is (Some image) e = tt
  merged_fits_in (row ∷ more) is (Some image) e = by (starts_afresh (row ∷ more) && nat_le (row_len whole) (rows_len (row ∷ more)))
    where
      whole : Row
      whole = record { node = id; version = (content rows id).1; rec = image }

      left : content rows id ≡ replay (base id) (row ∷ more)
      left = ap (replay (base id)) (sym is)

      image_row : FitsRow m (record { node = id; version = (content rows id).1; rec = image })
      image_row =
          subst (λ v. FitsRow m (record { node = id; version = v; rec = image })) (ap (λ c. c.1) (sym left))
          (image_fits m id row more image (subst (AllByRecursion (IsOwn m id)) (sym is) own) (sym (ap (λ c. image_of c.0) left) ∙ e)
          (subst (λ o. IfSome o FitsRec) e (node_fits m rows id fits)))

      by : (b : Bool) → AllByRecursion (FitsRow m) (cond b (whole ∷ []) (row ∷ more))
      by true = (image_row, tt)
      by false = subst (AllByRecursion (FitsRow m)) (sym is) kept

  merged_node_fits : AllByRecursion (FitsRow m) (merged_node rows id)
  unfolding merged_node
  merged_node_fits = merged_fits_in (rows_of id rows) refl (image_of (content rows id).0) refl

pub merged_fits : MergedFits
unfolding merged
merged_fits m older newer fits = flat_all (FitsRow m) (merged_node (older ++ newer)) (merged_node_fits m (older ++ newer) fits) (nodes_in (older ++ newer))

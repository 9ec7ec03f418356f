-- What setting a pair pushes from a node down is within bounds.
use Rattle.std.proofs.Common.{◌≡◌, ◌≢◌, ℕ, zero, suc, ◌+◌, ◌<◌, ◌≤◌, ◌==◌, nat_lt, Bool, true, false, cond, ◌||◌, ◌↔◌, List, [], ◌∷◌, ◌++◌, length, drop, slice_get, refl, sym, ap, subst, Option, Some, None, arith}
use Rattle.std.specs.Prelude.{unwrap_or}
use Rattle.std.specs.List.{AllByRecursion}
use Rattle.std.proofs.lemmas.Bool.{or_parts, ltb-false}
use Rattle.std.proofs.lemmas.List.{length-drop}
use Rattle.fine_model.specs.Types.{Rec, Row, Node}
use Rattle.fine_model.specs.Types.rec
use Rattle.fine_model.specs.Types.node
use Rattle.fine_model.specs.Map.{Pair, is_below, has}
use Rattle.fine_model.specs.RowBytes.{kind, FitsKey, FitsPair, FitsChild, FitsRec}
use Rattle.fine_model.specs.Nodes.{Content}
use Rattle.fine_model.specs.Trees.{bucket_of, nodes_of, pairs_of}
use Rattle.fine_model.specs.Pushed.{row_of, key_at, child_for, Growth, grown_leaf, split_leaf, split_inner, grown_inner, growth}
use Rattle.fine_model.specs.Laws.{AreSmall}
use Rattle.fine_model.specs.BoundLaws.{FitsNode}
use Rattle.fine_model.proofs.Ordered.Order.{ascending-drop}
use Rattle.fine_model.proofs.Ordered.Zip.{all_right}
use Rattle.fine_model.proofs.Ordered.Sets.{all_append}
use Rattle.fine_model.proofs.Ordered.Parts.{Parted, parted, key_at-is}
use Rattle.fine_model.proofs.Ordered.InOrder.{AreUp-drop}
use Rattle.fine_model.proofs.Ordered.Lists.{all_drop}
use Rattle.fine_model.proofs.Trees.NodeBounds.{up_from, ascending_keys}
use Rattle.fine_model.proofs.Trees.SetLaw.{IsBody}
use Rattle.fine_model.proofs.Trees.Descent.{IsAbove}

-- a row within bounds but for the greatest version
pub record IsPushable (row : Row) : Type 0 where
  pub bucket : row.node.bucket < 256
  pub number : row.node.number < 1048576
  pub head : (row.node.number ≡ 0) ↔ (kind row.rec ≡ 1)
  pub version : 1 ≤ row.version
  pub rec : FitsRec row.rec

abbrev pub ArePushable : List Row → Type 0
ArePushable rows = AllByRecursion IsPushable rows

-- the separator and the number of a split
abbrev pub FitsSplit : Option (List ℕ × ℕ) → Type 0
FitsSplit None = Unit {0}
FitsSplit (Some split) = FitsKey split.0 × FitsChild split.1

-- the item at a place of items that each fit
pub item_fits : {A : Type 0} (P : A → Type 0) (n : ℕ) (xs : List A) (p : Parted n xs) → AllByRecursion P xs → P p.item
item_fits P n xs p all = (all_right P p.front (p.item ∷ p.back) (subst (AllByRecursion P) p.is all)).0

pub pairs_fit : (n : Node) → FitsNode n → FitsRec (rec.LeafImage (pairs_of n))
pairs_fit (node.Leaf pairs) fits = fits
pairs_fit (node.Head root next depth) fits = (omega arith, tt, refl)
pairs_fit (node.Inner seps kids) fits = (omega arith, tt, refl)
pairs_fit node.Broken fits = (omega arith, tt, refl)

pub drop_leaf : (n : ℕ) (pairs : List Pair) → FitsRec (rec.LeafImage pairs) → FitsRec (rec.LeafImage (drop n pairs))
drop_leaf n pairs fits = let l = length-drop n pairs in let f = fits.0 in (omega (arith, l, f), all_drop FitsPair n pairs fits.1, ascending-drop n pairs fits.2)

pub drop_inner : (n : ℕ) (seps : List (List ℕ)) (kids : List ℕ) → n ≤ length seps → FitsRec (rec.InnerImage seps kids) → FitsRec (rec.InnerImage (drop n seps) (drop n kids))
drop_inner n seps kids few fits =
    let l = length-drop n seps in let k = length-drop n kids in let a = fits.0 in let b = fits.1 in (
      omega (arith, l, a),
      omega (arith, l, k, b, few),
      all_drop FitsChild n kids fits.2,
      all_drop FitsKey n seps fits.3,
      ascending_keys (drop n seps) (AreUp-drop (λ k. k) n seps (up_from seps fits.4)),
    )

module _ (bucket : ℕ) (small_bucket : bucket < 256) where
  -- a row of a node that is no head
  pub body_row : (number version : ℕ) (change : Rec) → FitsChild number → 1 ≤ version → kind change ≢ 1 → FitsRec change → IsPushable (row_of bucket number version change)
  body_row number version change child low other fits = record {
    bucket = small_bucket;
    number = child.1;
    head = (λ z. let c = child.0 in absurd (omega (arith, c, z)), λ k. absurd (other k));
    version = low;
    rec = fits;
  }

  pub split_rows : (number next version : ℕ) (image cut last : Rec) (left : Bool) → FitsChild number → FitsChild next → kind image ≢ 1 → kind cut ≢ 1 → kind last ≢ 1 → FitsRec image → FitsRec cut → FitsRec last
      → ArePushable (row_of bucket next 1 image ∷ row_of bucket number (version + 1) cut ∷ cond left (row_of bucket number (version + 2) last) (row_of bucket next 2 last) ∷ [])
  split_rows number next version image cut last left here there no_image no_cut no_last i c l = (body_row next 1 image there (omega arith) no_image i, (body_row number (version + 1) cut here (omega arith) no_cut c, (by left, tt)))
    where
      by : (b : Bool) → IsPushable (cond b (row_of bucket number (version + 2) last) (row_of bucket next 2 last))
      by true = body_row number (version + 2) last here (omega arith) no_last l
      by false = body_row next 2 last there (omega arith) no_last l

pub record FitsGrowth (g : Growth) : Type 0 where
  pub rows : ArePushable g.rows
  pub split : FitsSplit g.split

module _ (rows : List Row) (key value : List ℕ) (next : ℕ) (small : AreSmall rows) (pair : FitsPair (key, value)) (some : 1 ≤ next)
    (nodes_fit : (number : ℕ) → FitsNode (nodes_of rows (bucket_of key) number).0) (head : IsBody (nodes_of rows (bucket_of key) 0).0 → ⊥) (small_bucket : bucket_of key < 256) (same : (bucket_of key == bucket_of key) ≡ true) where
  abbrev bucket : ℕ
  bucket = bucket_of key

  abbrev old : ℕ → Content
  old = nodes_of rows bucket

  -- as long as the numbers last
  abbrev pub Fits : ℕ → ℕ → Type 0
  Fits height number = (growth height bucket old next (key, value) number).next ≤ 1048576 → FitsGrowth (growth height bucket old next (key, value) number)

  number_fits : (number : ℕ) → IsBody (old number).0 → number < 1048576 → FitsChild number
  number_fits number body low = (by number refl, low)
    where
      by : (n : ℕ) → number ≡ n → 1 ≤ number
      by zero e = absurd (head (subst (λ k. IsBody (old k).0) e body))
      by (suc n) e = omega (arith, e)

  pub leaf_fits : (number : ℕ) → number < next → IsBody (old number).0 → Fits zero number
  unfolding growth grown_leaf split_leaf
  leaf_fits number low body = by (has pairs key || nat_lt (length pairs) 32) refl
    where
      pairs : List Pair
      pairs = pairs_of (old number).0

      fits : FitsRec (rec.LeafImage pairs)
      fits = pairs_fit (old number).0 (nodes_fit number)

      by : (b : Bool) → (has pairs key || nat_lt (length pairs) 32) ≡ b
          → (cond {A = Growth} b (record { rows = row_of bucket number ((old number).1 + 1) (rec.Put key value) ∷ []; next = next; split = None }) (split_leaf bucket number (old number).1 next (key, value) pairs (key_at pairs 16))).next ≤ 1048576
          → FitsGrowth (cond {A = Growth} b (record { rows = row_of bucket number ((old number).1 + 1) (rec.Put key value) ∷ []; next = next; split = None }) (split_leaf bucket number (old number).1 next (key, value) pairs (key_at pairs 16)))
      by true e enough = record { rows = (body_row bucket small_bucket number ((old number).1 + 1) (rec.Put key value) (number_fits number body (omega (arith, low, enough))) (omega arith) (λ k. absurd (omega (arith, k))) pair, tt); split = tt }
      by false e enough =
          let many = ltb-false (length pairs) 32 (or_parts (has pairs key) (nat_lt (length pairs) 32) e).1 in
          let p = parted 16 pairs (omega (arith, many)) in
          let sep : FitsKey (key_at pairs 16) = subst FitsKey (sym (key_at-is pairs 16 p.item p.at)) (item_fits FitsPair 16 pairs p fits.1).0 in
          let fresh : FitsChild next = (some, omega (arith, enough)) in
          record {
            rows = split_rows bucket small_bucket number next (old number).1 (rec.LeafImage (drop 16 pairs)) (rec.CutLeaf (key_at pairs 16)) (rec.Put key value) (is_below key (key_at pairs 16))
                (number_fits number body (omega (arith, low, enough))) fresh (λ k. absurd (omega (arith, k))) (λ k. absurd (omega (arith, k))) (λ k. absurd (omega (arith, k))) (drop_leaf 16 pairs fits) sep pair;
            split = (sep, fresh);
          }

  module _ (height number child : ℕ) (above : IsAbove rows bucket key value next same small height number child)
      (below : (growth height bucket old next (key, value) child).next ≤ 1048576 → FitsGrowth (growth height bucket old next (key, value) child)) where
    abbrev b : Growth
    b = growth height bucket old next (key, value) child

    inner_node_fits : (n : Node) → FitsNode n → (s : Option (List ℕ × ℕ)) → b.split ≡ s → (grown_inner bucket number (old number).1 n b.rows b.next s).next ≤ 1048576 → FitsGrowth (grown_inner bucket number (old number).1 n b.rows b.next s)
    unfolding grown_inner split_inner
    inner_node_fits (node.Inner seps kids) fits (Some split) is enough = by (nat_lt (length seps) 32) refl enough
      where
        here : b.next ≤ 1048576 → FitsChild number
        here enough = let low = above.low in let ordered = above.ordered in number_fits number above.body (omega (arith, low, ordered, enough))

        by : (t : Bool) → nat_lt (length seps) 32 ≡ t
            → (cond {A = Growth} t (record { rows = b.rows ++ row_of bucket number ((old number).1 + 1) (rec.Link split.0 split.1) ∷ []; next = b.next; split = None })
            (split_inner bucket number (old number).1 seps kids (unwrap_or (slice_get seps 16) []) b.rows b.next split.0 split.1)).next ≤ 1048576
            → FitsGrowth (cond {A = Growth} t (record { rows = b.rows ++ row_of bucket number ((old number).1 + 1) (rec.Link split.0 split.1) ∷ []; next = b.next; split = None })
            (split_inner bucket number (old number).1 seps kids (unwrap_or (slice_get seps 16) []) b.rows b.next split.0 split.1))
        by true e enough =
            let w = below enough in
            let s : FitsKey split.0 × FitsChild split.1 = subst FitsSplit is w.split in
            record {
              rows = all_append IsPushable b.rows _ w.rows (body_row bucket small_bucket number ((old number).1 + 1) (rec.Link split.0 split.1) (here enough) (omega arith) (λ k. absurd (omega (arith, k))) s, tt);
              split = tt;
            }
        by false e enough =
            let many = ltb-false (length seps) 32 e in
            let w = below (omega (arith, enough)) in
            let s : FitsKey split.0 × FitsChild split.1 = subst FitsSplit is w.split in
            let p = parted 16 seps (omega (arith, many)) in
            let middle : FitsKey (unwrap_or (slice_get seps 16) []) = subst FitsKey (sym (ap (λ o. unwrap_or o []) p.at)) (item_fits FitsKey 16 seps p fits.3) in
            let fresh : FitsChild b.next = (let ordered = above.ordered in omega (arith, some, ordered), omega (arith, enough)) in
            record {
              rows = all_append IsPushable b.rows _ w.rows
                  (split_rows bucket small_bucket number b.next (old number).1 (rec.InnerImage (drop 17 seps) (drop 17 kids)) (rec.CutInner (unwrap_or (slice_get seps 16) [])) (rec.Link split.0 split.1)
                  (is_below split.0 (unwrap_or (slice_get seps 16) [])) (here (omega (arith, enough))) fresh (λ k. absurd (omega (arith, k))) (λ k. absurd (omega (arith, k))) (λ k. absurd (omega (arith, k)))
                  (drop_inner 17 seps kids (omega (arith, many)) fits) middle s);
              split = (middle, fresh);
            }
    inner_node_fits (node.Inner seps kids) fits None is enough = let w = below enough in record { rows = w.rows; split = tt }
    inner_node_fits (node.Head root next' depth) fits s is enough = let w = below enough in record { rows = w.rows; split = tt }
    inner_node_fits (node.Leaf pairs) fits s is enough = let w = below enough in record { rows = w.rows; split = tt }
    inner_node_fits node.Broken fits s is enough = let w = below enough in record { rows = w.rows; split = tt }

  pub inner_fits : (height number : ℕ) → IsAbove rows bucket key value next same small height number (child_for key (old number).0) → Fits height (child_for key (old number).0) → Fits (suc height) number
  unfolding growth
  inner_fits height number above below =
      inner_node_fits height number (child_for key (old number).0) above below (old number).0 (nodes_fit number) (growth height bucket old next (key, value) (child_for key (old number).0)).split refl

-- Laws that follow at once from what stands in other files.
use Rattle.std.proofs.Common.{◌≡◌, ◌≢◌, ℕ, ◌-◌, ◌≤◌, true, List, [], ◌∷◌, refl, sym, ap, ◌∙◌, subst, arith, le-leb, length}
use Rattle.std.specs.Prelude.{IsTrue}
use Rattle.std.specs.List.{AllByRecursion}
use Rattle.fine_model.specs.Types.{Rec, Row, Node, Part}
use Rattle.fine_model.specs.Types.rec
use Rattle.fine_model.specs.Types.node
use Rattle.fine_model.specs.Map.{get}
use Rattle.fine_model.specs.RowBytes.{FitsRec, FitsRow}
use Rattle.fine_model.specs.Nodes.{Content}
use Rattle.fine_model.specs.Regions.{Image}
use Rattle.fine_model.specs.Chain.{AreRowsOf}
use Rattle.fine_model.specs.Trees.{whole, nodes_of, reached, numbers_from, tree_numbers, bucket_of}
use Rattle.fine_model.specs.Laws.{RowLaw, ShownSmall, SmallLaw, WholeLaw, LeafLaw, is_small}
use Rattle.fine_model.proofs.Ordered.Order.{all_map}
use Rattle.fine_model.proofs.Ordered.Sets.{all_append}
use Rattle.fine_model.proofs.Chain.Spelling.{row_spelling}
use Rattle.fine_model.proofs.Trees.Buckets.{HasTree, has_tree}
use Rattle.fine_model.proofs.Trees.LocalChange.{tree_here, get_of_leaf, beside_leaf}
use Rattle.fine_model.proofs.Trees.CallLaw.{bucket_below, same_bucket}
use Rattle.fine_model.proofs.Ordered.Times.{times, times-same, times-tail}
use Rattle.fine_model.proofs.Trees.SetLaw.{IsBody, reached_body}

pub row_law : RowLaw
row_law mark bytes row row' rest rest' a b = row_spelling mark row row' rest rest' a.fits b.fits (sym a.spelled ∙ b.spelled)

fits_small : (change : Rec) → FitsRec change → is_small change ≡ true
fits_small (rec.LeafImage pairs) fits = le-leb (length pairs) 32 fits.0
fits_small (rec.InnerImage seps kids) fits = le-leb (length seps) 32 fits.0
fits_small _ fits = refl

pub small_law : SmallLaw
small_law mark row fits = fits_small row.rec fits.rec

parts_small : (region_len : ℕ) (image : Image) (parts : List Part) (rows : List Row) → AreRowsOf region_len image parts rows → AllByRecursion (λ row. IsTrue (is_small row.rec)) rows
unfolding AreRowsOf
parts_small region_len image [] rows are = subst (AllByRecursion (λ row. IsTrue (is_small row.rec))) (sym are) tt
parts_small region_len image (p ∷ parts) rows (own, more, is, sealed, rest) =
    let small = all_map (FitsRow sealed.header.mark) (λ row. IsTrue (is_small row.rec)) (λ row fits. small_law sealed.header.mark row fits) own sealed.rows_fit in
    subst (AllByRecursion (λ row. IsTrue (is_small row.rec))) (sym is) (all_append (λ row. IsTrue (is_small row.rec)) own more small (parts_small region_len image parts more rest))

pub shown_small : ShownSmall
shown_small region_len image e rows shows = record { each = parts_small region_len image shows.parts rows shows.are_rows }

pub leaf_law : LeafLaw
leaf_law rows key sound =
    let t = tree_here rows sound key (bucket_of key) (bucket_below key) (same_bucket key) in
    get_of_leaf rows sound key (bucket_of key) (bucket_below key) (same_bucket key) t
    ∙ sym (ap (λ m. get m key) (beside_leaf rows sound key (bucket_of key) (bucket_below key) (same_bucket key) t))

all_times : (P : ℕ → Type 0) (ns : List ℕ) → ((n : ℕ) → 1 ≤ times n ns → P n) → AllByRecursion P ns
all_times P [] each = tt
all_times P (n ∷ ns) each =
    (each n (let s = times-same n ns in omega (arith, s)), all_times P ns (λ m here. each m (let t = times-tail m n ns in omega (arith, t, here))))

body_whole : (n : Node) → IsBody n → n ≢ node.Broken
body_whole n body broken = subst IsBody broken body

pub whole_law : WholeLaw
unfolding tree_numbers
whole_law rows bucket sound h = by (has_tree bucket nodes (nodes 0).0 (sound.fit bucket h))
  where
    nodes : ℕ → Content
    nodes = nodes_of rows bucket

    by : HasTree bucket (nodes_of rows bucket) (nodes_of rows bucket 0).0 → AllByRecursion (λ number. (nodes_of rows bucket number).0 ≢ node.Broken) (numbers_from (nodes_of rows bucket) (nodes_of rows bucket 0).0)
    by t =
        let tree = t.tree in
        subst (AllByRecursion (λ number. (nodes_of rows bucket number).0 ≢ node.Broken)) (sym (ap (numbers_from (nodes_of rows bucket)) t.is)) (
          (λ broken. let e = t.is in absurd (cc)),
          all_times (λ number. (nodes_of rows bucket number).0 ≢ node.Broken) (reached (t.depth - 1) (nodes_of rows bucket) t.root)
              (λ n here. body_whole (nodes_of rows bucket n).0 (reached_body bucket (nodes_of rows bucket) (t.depth - 1) whole t.root tree.subtree n here)),
        )

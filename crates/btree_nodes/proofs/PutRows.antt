-- The rows that setting a key pushes in a tree may be pushed.
use Rattle.std.proofs.Common.{◌≡◌, ℕ, ◌+◌, ◌-◌, ◌<◌, ◌≤◌, ◌==◌, nat_lt, nat_le, Bool, true, false, cond, ◌&&◌, List, [], ◌∷◌, ◌++◌, Option, Some, None, Result, Ok, Err, inr, refl, sym, ap, subst, ◌∙◌, arith}
use Rattle.std.specs.Prelude.{IfSome}
use Rattle.std.specs.List.{AllByRecursion}
use Rattle.fine_model.specs.declared.Call.TheVariants as call
use Rattle.fine_model.specs.declared.Rec.TheVariants as rec
use Rattle.fine_model.specs.declared.Row.{Row}
use Rattle.fine_model.specs.declared.Why.{Why}
use Rattle.fine_model.specs.declared.Why.TheVariants as why
use Rattle.fine_model.specs.Paths.{unfit_from, unfit_under}
use Rattle.fine_model.specs.Pushed.{Growth, Push, row_of, growth, with_head, set_push, call_push, within_limits}
use Rattle.fine_model.specs.RowBytes.{greatest, FitsKey, FitsPair, FitsChild, FitsRec, FitsRow}
use Rattle.fine_model.specs.declared.Mark.TheVariants as mark
use Rattle.fine_model.specs.Trees.{whole}
use Rattle.fine_model.proofs.Ordered.Order.{all_map}
use Rattle.fine_model.proofs.Ordered.Parts.{all_both}
use Rattle.fine_model.proofs.Ordered.Sets.{all_append}
use Rattle.node_record.specs.Bounds.{FitsNode}
use Rattle.node_cache.specs.Cache.{Cache}
use Rattle.btree_nodes.specs.declared.tree.Path.{Path}
use Rattle.node_cache.specs.Given.{given, IsCached}
use Rattle.btree_nodes.specs.Changes.{AreReady}
use Rattle.btree_nodes.specs.Trees.{IsPath, FitsLog, HeadSays, first_over}
use Rattle.btree_nodes.specs.declared.growth.Growth.{Growth as Below}
use Rattle.btree_nodes.specs.declared.insertion.Push.{Push as Rows}
use Rattle.btree_nodes.specs.declared.fault.TreeFault.{TreeFault}
use Rattle.btree_nodes.specs.declared.fault.TreeFault.TheVariants.{Source, Unfit, BucketFull, Number, NoMemory}
use Rattle.btree_nodes.specs.Growths.{grown_of, pushed_of, Limits}
use Rattle.btree_nodes.specs.Calls.{pushed_in, Outcome}
use Rattle.btree_nodes.proofs.Paths.{key_bucket}
use Rattle.btree_nodes.proofs.Sound.{passed}
use Rattle.btree_nodes.proofs.GrowthFits.{ready_append, growth_ready, node_fits, IsGood, one_good, FitsGrowth, growth_good}
use Rattle.fine_model.proofs.Trees.FitPushed.{within, kind_few}

-- rows that may be pushed
pub record CanPush (b : Cache) (rows : List Row) : Type 0 where
  pub of_bucket : AllByRecursion (λ row. row.node.bucket ≡ b.bucket) rows
  pub ready : AreReady (IsCached b) rows
  pub recs : AllByRecursion (λ row. FitsRec row.rec × (row.version ≤ greatest)) rows
  pub fits : FitsLog b.bucket rows

module _ (b : Cache) (key value : List ℕ) (pair : FitsPair (key, value)) (path : Path) (is : IsPath b key path) where
  abbrev g : Growth
  g = growth (path.depth - 1) b.bucket (given b) path.next (key, value) path.root

  abbrev over : Option (List ℕ × ℕ) → Push
  over s = with_head b.bucket (given b 0).1 path.root path.next path.depth g.rows g.next s

  abbrev pub put_rows : Push
  put_rows = over g.split

  pub put_is : pushed_in b (call.Put key value) ≡ within_limits put_rows
  unfolding call_push set_push
  put_is = ap (λ n. within_limits (set_push b.bucket (given b) (key, value) n)) is.head

  head_fits : FitsRec (rec.HeadImage path.root path.next path.depth)
  head_fits = subst FitsNode is.head (node_fits b 0)

  way_fit : unfit_from (path.depth - 1) b.bucket (given b) path.next key whole path.root ≡ None
  unfolding unfit_under
  way_fit = (passed (nat_lt path.root path.next && nat_le 1 path.depth) (unfit_from (path.depth - 1) b.bucket (given b) path.next key whole path.root) 0 (sym (ap (unfit_under b.bucket (given b) key) is.head) ∙ is.fit)).1

  below_ready : AreReady (IsCached b) g.rows
  below_ready = growth_ready b path.next key value (path.depth - 1) whole path.root way_fit

  below_good : FitsGrowth b.bucket path.next g
  below_good = let h = head_fits in let n = h.1 in growth_good b.bucket path.next (omega (arith, n)) key value pair (given b) (node_fits b) is.small path.root path.next path.depth is.head (path.depth - 1) whole path.root is.below way_fit

  over_ready : (s : Option (List ℕ × ℕ)) → AreReady (IsCached b) (over s).rows
  unfolding with_head
  over_ready (Some split) = ready_append (IsCached b) g.rows _ below_ready (inr refl, (inr refl, tt))
  over_ready None = by (g.next == path.next)
    where
      by : (t : Bool) → AreReady (IsCached b) (cond t g.rows (g.rows ++ row_of b.bucket 0 ((given b 0).1 + 1) (rec.HeadImage path.root g.next path.depth) ∷ []))
      by true = below_ready
      by false = ready_append (IsCached b) g.rows _ below_ready (inr refl, tt)

  head_good : (root next depth : ℕ) → FitsRec (rec.HeadImage root next depth) → IsGood b.bucket (row_of b.bucket 0 ((given b 0).1 + 1) (rec.HeadImage root next depth))
  head_good root next depth h = record { of_bucket = refl; number = omega arith; head = (λ e. refl, λ e. refl); version = omega arith; rec = h }

  over_good : (s : Option (List ℕ × ℕ)) → g.split ≡ s → (over s).next ≤ 1048576 → (over s).depth ≤ 8 → AllByRecursion (IsGood b.bucket) (over s).rows
  unfolding with_head
  over_good None e enough few = by (g.next == path.next)
    where
      by : (t : Bool) → AllByRecursion (IsGood b.bucket) (cond t g.rows (g.rows ++ row_of b.bucket 0 ((given b 0).1 + 1) (rec.HeadImage path.root g.next path.depth) ∷ []))
      by true = below_good.rows enough
      by false =
          let h = head_fits in let n = h.1 in let o = below_good.ordered in
          all_append (IsGood b.bucket) g.rows _ (below_good.rows enough) (head_good path.root g.next path.depth (h.0, omega (arith, n, o), enough, h.3, h.4), tt)
  over_good (Some split) e enough few =
      let w = below_good in
      let low : g.next ≤ 1048576 = omega (arith, enough) in
      let s : FitsKey split.0 × FitsChild split.1 = subst (λ o. IfSome o (λ s. FitsKey s.0 × FitsChild s.1)) e (w.split low) in
      let h = head_fits in let n = h.1 in let o = w.ordered in
      let child : FitsChild g.next = (omega (arith, n, o), omega (arith, enough)) in
      all_append (IsGood b.bucket) g.rows _ (w.rows low) (
        one_good b.bucket g.next 1 (rec.InnerImage (split.0 ∷ []) (path.root ∷ split.1 ∷ [])) (omega arith) (record { above = child.0; small = child.1 }) (λ e. omega (arith, e)) (omega arith, omega arith, (h.0, (s.1, tt)), (s.0, tt), refl),
        (head_good g.next (g.next + 1) (path.depth + 1) (child, omega (arith, n, o), enough, omega arith, few), tt),
      )

  pub can_push : (rows : List Row) → within_limits put_rows ≡ Ok rows → CanPush b rows
  can_push rows ok =
      let w = within put_rows rows ok in
      let good = over_good g.split refl w.next w.depth in
      subst (CanPush b) w.rows (record {
        of_bucket = all_map (IsGood b.bucket) (λ row. row.node.bucket ≡ b.bucket) (λ row p. p.of_bucket) put_rows.rows good;
        ready = over_ready g.split;
        recs = all_both (IsGood b.bucket) (λ row. row.version ≤ greatest) (λ row. FitsRec row.rec × (row.version ≤ greatest)) (λ row p v. (p.rec, v)) put_rows.rows good w.versions;
        fits = record {
          fit = all_both (IsGood b.bucket) (λ row. row.version ≤ greatest) (FitsRow mark.Two)
              (λ row p v. record { of_format = kind_few row.rec; bucket = subst (λ (k : ℕ). k < 256) (sym p.of_bucket) (key_bucket b.bucket key is.of_key); number = p.number; head = p.head; version_low = p.version; version_high = v; rec = p.rec }) put_rows.rows good w.versions;
          here = all_map (IsGood b.bucket) (λ row. row.node.bucket ≡ b.bucket) (λ row p. p.of_bucket) put_rows.rows good;
        };
      })

  -- with what grew below the root
  pub put_grows : (p : Rows) (below : Below) (bucket version : ℕ) → grown_of below ≡ g → bucket ≡ b.bucket → version ≡ (given b 0).1
      → pushed_of p ≡ with_head bucket version path.root path.next path.depth below.rows below.next below.split → pushed_of p ≡ put_rows
  put_grows p below bucket version grown of is_version made =
      made ∙ (λ i. with_head (of i) (is_version i) path.root path.next path.depth (grown i).rows (grown i).next (grown i).split)

  module _ (p : Rows) (same : pushed_of p ≡ put_rows) where
    push_is : call_push b.bucket (given b) (call.Put key value) ≡ pushed_of p
    unfolding call_push set_push
    push_is = ap (λ n. set_push b.bucket (given b) (key, value) n) is.head ∙ sym same

    pub put_pushed : (r : Result (List Row) Why) → within_limits (pushed_of p) ≡ r → pushed_in b (call.Put key value) ≡ r
    put_pushed r e = put_is ∙ ap within_limits (sym same) ∙ e

    pub can_put : within_limits (pushed_of p) ≡ Ok p.rows → CanPush b p.rows
    can_put e = can_push p.rows (ap within_limits (sym same) ∙ e)

    -- a limit would be passed
    pub limits_outcome : (log : List Row) (e : TreeFault) → Limits p path (Err e) → Outcome {A = Unit {0}} b b log log (call.Put key value) (λ u. Unit {0}) (λ f. ⊥) (Err e)
    limits_outcome log (BucketFull next depth) h = (put_pushed (Err why.Bucket) h.0, subst (λ n. HeadSays n next depth) (sym is.head) (h.1, h.2), record { here = is.here; fit = is.fit }, record { nodes = refl; rows = refl })
    limits_outcome log (Number id) h = (put_pushed (Err why.Number) h.0, ap (λ (k : Push). first_over k.rows) push_is ∙ h.1, record { here = is.here; fit = is.fit }, record { nodes = refl; rows = refl })
    limits_outcome log (Source f) h = absurd h
    limits_outcome log (Unfit id) h = absurd h
    limits_outcome log NoMemory h = absurd h

-- The versions of pushed rows follow on those before.
use Rattle.std.proofs.Common.{◌≡◌, ◌≢◌, ℕ, zero, suc, ◌+◌, ◌<◌, ◌≤◌, ◌==◌, nat_lt, Bool, true, false, cond, ◌||◌, List, [], ◌∷◌, ◌++◌, refl, sym, ap, ◌∙◌, subst, Some, None, arith, append_assoc, append-nil}
use Rattle.std.specs.Prelude.{Option, length, drop, slice_get, unwrap_or}
use Rattle.fine_model.specs.Types.{Rec, Row, Node}
use Rattle.fine_model.specs.Types.rec
use Rattle.fine_model.specs.Types.node
use Rattle.fine_model.specs.Map.{is_below, has}
use Rattle.fine_model.specs.Nodes.{Content}
use Rattle.fine_model.specs.Trees.{bucket_of, nodes_of, pairs_of}
use Rattle.fine_model.specs.Pushed.{row_of, child_for, Growth, grown_leaf, split_leaf, split_inner, grown_inner, growth, key_at}
use Rattle.fine_model.specs.Laws.{AreSmall}
use Rattle.fine_model.specs.VersionLaws.{VersionsFollow, FollowBoth, FollowParts}
use Rattle.fine_model.proofs.Trees.PushNodes.{push_here, push_other}
use Rattle.fine_model.proofs.Trees.SetLaw.{IsBody}
use Rattle.fine_model.proofs.Trees.Descent.{IsAbove}

-- rows that follow, and more rows that follow on both
pub follow-append : FollowBoth
follow-append before [] b first more = subst (λ rows. VersionsFollow rows b) (append-nil before) more
follow-append before (row ∷ a) b first more = (first.0, follow-append (before ++ row ∷ []) a b first.1 (subst (λ rows. VersionsFollow rows b) (sym (append_assoc before (row ∷ []) a)) more))

pub follow-parts : FollowParts
follow-parts before [] b follow = (tt, subst (λ rows. VersionsFollow rows b) (sym (append-nil before)) follow)
follow-parts before (row ∷ a) b follow =
    let rest = follow-parts (before ++ row ∷ []) a b follow.1 in ((follow.0, rest.0), subst (λ rows. VersionsFollow rows b) (append_assoc before (row ∷ []) a) rest.1)

-- the three rows of a split
module _ (rows : List Row) (bucket number fresh version : ℕ) (apart : number ≢ fresh) (is_fresh : (nodes_of rows bucket fresh).1 ≡ 0) (is_version : (nodes_of rows bucket number).1 ≡ version) where
  pub split_follows : (image cut last : Rec) (left : Bool)
      → VersionsFollow rows (row_of bucket fresh 1 image ∷ row_of bucket number (version + 1) cut ∷ cond left (row_of bucket number (version + 2) last) (row_of bucket fresh 2 last) ∷ [])
  split_follows image cut last left = (omega (arith, is_fresh), (ap (λ n. n + 1) (sym (ap (λ c. c.1) (push_other bucket rows fresh 1 image number apart) ∙ is_version)), by left))
    where
      first : List Row
      first = rows ++ row_of bucket fresh 1 image ∷ []

      by : (b : Bool) → VersionsFollow ((rows ++ row_of bucket fresh 1 image ∷ []) ++ row_of bucket number (version + 1) cut ∷ []) (cond b (row_of bucket number (version + 2) last) (row_of bucket fresh 2 last) ∷ [])
      by true =
          let e : version + 1 ≡ (nodes_of (first ++ row_of bucket number (version + 1) cut ∷ []) bucket number).1 = sym (ap (λ c. c.1) (push_here bucket first number (version + 1) cut)) in (omega (arith, e), tt)
      by false =
          let e : (nodes_of (first ++ row_of bucket number (version + 1) cut ∷ []) bucket fresh).1 ≡ 1 =
          ap (λ c. c.1) (push_other bucket first number (version + 1) cut fresh (λ e. apart (sym e)) ∙ push_here bucket rows fresh 1 image) in (omega (arith, e), tt)

module _ (rows : List Row) (bucket : ℕ) (key value : List ℕ) (next : ℕ) (of_bucket : (bucket_of key == bucket) ≡ true) (small : AreSmall rows)
    (unused : (n : ℕ) → next ≤ n → (nodes_of rows bucket n).1 ≡ 0) where
  abbrev old : ℕ → Content
  old = nodes_of rows bucket

  abbrev pub Follows : ℕ → ℕ → Type 0
  Follows height number = VersionsFollow rows (growth height bucket old next (key, value) number).rows

  pub leaf_follows : (number : ℕ) → number < next → IsBody (old number).0 → Follows zero number
  unfolding growth grown_leaf split_leaf
  leaf_follows number low body = by (has pairs key || nat_lt (length pairs) 32)
    where
      pairs : List (List ℕ × List ℕ)
      pairs = pairs_of (old number).0

      by : (b : Bool) → VersionsFollow rows (cond {A = Growth} b (record { rows = row_of bucket number ((old number).1 + 1) (rec.Put key value) ∷ []; next = next; split = None }) (split_leaf bucket number (old number).1 next (key, value) pairs (key_at pairs 16))).rows
      by true = (refl, tt)
      by false = split_follows rows bucket number next (old number).1 (λ e. absurd (omega (arith, e, low))) (unused next (omega arith)) refl (rec.LeafImage (drop 16 pairs)) (rec.CutLeaf (key_at pairs 16)) (rec.Put key value) (is_below key (key_at pairs 16))

  module _ (height number child : ℕ) (above : IsAbove rows bucket key value next of_bucket small height number child) (below : VersionsFollow rows (growth height bucket old next (key, value) child).rows) where
    abbrev b : Growth
    b = growth height bucket old next (key, value) child

    version_stays : (nodes_of (rows ++ b.rows) bucket number).1 ≡ (old number).1
    version_stays = ap (λ c. c.1) above.stays

    inner_node_follows : (n : Node) (s : Option (List ℕ × ℕ)) → VersionsFollow rows (grown_inner bucket number (old number).1 n b.rows b.next s).rows
    unfolding grown_inner split_inner
    inner_node_follows (node.Inner seps kids) (Some split) = by (nat_lt (length seps) 32)
      where
        by : (t : Bool) → VersionsFollow rows (cond {A = Growth} t (record { rows = b.rows ++ row_of bucket number ((old number).1 + 1) (rec.Link split.0 split.1) ∷ []; next = b.next; split = None })
            (split_inner bucket number (old number).1 seps kids (unwrap_or (slice_get seps 16) []) b.rows b.next split.0 split.1)).rows
        by true = follow-append rows b.rows (row_of bucket number ((old number).1 + 1) (rec.Link split.0 split.1) ∷ []) below (ap (λ v. v + 1) (sym version_stays), tt)
        by false =
            let low = above.low in let ordered = above.ordered in let fresh = above.fresh in
            follow-append rows b.rows _ below
            (split_follows (rows ++ b.rows) bucket number b.next (old number).1 (λ e. absurd (omega (arith, e, low, ordered))) (ap (λ c. c.1) fresh ∙ unused b.next ordered) version_stays
            (rec.InnerImage (drop 17 seps) (drop 17 kids)) (rec.CutInner (unwrap_or (slice_get seps 16) [])) (rec.Link split.0 split.1) (is_below split.0 (unwrap_or (slice_get seps 16) [])))
    inner_node_follows (node.Inner seps kids) None = below
    inner_node_follows (node.Head root next' depth) s = below
    inner_node_follows (node.Leaf pairs) s = below
    inner_node_follows node.Broken s = below

  pub inner_follows : (height number : ℕ) → IsAbove rows bucket key value next of_bucket small height number (child_for key (old number).0) → Follows height (child_for key (old number).0) → Follows (suc height) number
  unfolding growth
  inner_follows height number above below =
      inner_node_follows height number (child_for key (old number).0) above below (old number).0 (growth height bucket old next (key, value) (child_for key (old number).0)).split

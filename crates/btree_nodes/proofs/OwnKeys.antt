-- All keys of a fit leaf are of the bucket, and a change of its pairs by no key but one of the bucket keeps that.
use Rattle.std.proofs.Common.{◌≡◌, ℕ, ℤ, ◌+ℤ◌, zero, suc, ◌+◌, ◌==◌, nat_le, Bool, true, false, ◌&&◌, if◌then◌else◌, cond, List, [], ◌∷◌, ◌++◌, length, Option, None, Some, option_map, unwrap_or, IfSome, eq-eqb, refl, sym, ap, subst, ◌∙◌}
use Rattle.std.specs.Bool.{OnTrue}
use Rattle.std.specs.List.{list_all}
use Rattle.fine_model.specs.declared.Node.{Node}
use Rattle.fine_model.specs.declared.Node.TheVariants as node
use Rattle.fine_model.specs.declared.Rec.{Rec}
use Rattle.fine_model.specs.declared.Rec.TheVariants as rec
use Rattle.fine_model.specs.declared.Row.{Row}
use Rattle.fine_model.specs.Map.{Pair, get, set, unset, is_ascending, is_below, pairs_below, pairs_above}
use Rattle.fine_model.specs.Nodes.{Content, added, changed, step_node, step, replay, is_node}
use Rattle.fine_model.specs.NumberText.{number_of, number_text, is_i64}
use Rattle.fine_model.specs.Paths.{is_inner, place_among, bounds_at, seps_of, kid_at, unfit_from}
use Rattle.fine_model.specs.Pushed.{leaf_for}
use Rattle.fine_model.specs.RowBytes.{most_in_node}
use Rattle.fine_model.specs.Trees.{Bounds, bucket_of, is_key_within, is_leaf, is_from, is_up_to}
use Rattle.fine_model.proofs.Ordered.Order.{keys_of, first_of_both, all_map}
use Rattle.fine_model.proofs.Ordered.Sets.{list_all-from, list_all-set, all_from_list_all, all_filter, all_append}
use Rattle.node_cache.specs.declared.cached.Cached.{Cached}
use Rattle.node_cache.specs.Cache.{Cache, cached}
use Rattle.node_cache.specs.Given.{given}
use Rattle.node_cache.specs.Marked.{HasOwnKeys}
use Rattle.btree_nodes.specs.Changes.{IsOwnChange, Pushes}
use Rattle.btree_nodes.specs.Trees.{node_at}
use Rattle.btree_nodes.proofs.Sound.{passed}
use Rattle.btree_nodes.proofs.Ways.{child_is}

-- ---- a fit leaf

pub own_leaf : (bucket : ℕ) (bounds : Bounds) (n : Node) → is_leaf bucket bounds n ≡ true → HasOwnKeys bucket n
own_leaf bucket bounds (node.Leaf pairs) fit =
    list_all-from (λ p. bucket_of p.0 == bucket) pairs
    (all_map (λ p. is_key_within bucket bounds p.0 ≡ true) (λ p. (bucket_of p.0 == bucket) ≡ true)
    (λ p h. (first_of_both (is_up_to bounds.high p.0) (bucket_of p.0 == bucket) (first_of_both (is_from bounds.low p.0) (is_up_to bounds.high p.0 && (bucket_of p.0 == bucket)) h).1).1)
    pairs (all_from_list_all (λ p. is_key_within bucket bounds p.0) pairs (first_of_both (is_ascending (keys_of pairs)) _ fit).1))
own_leaf bucket bounds (node.Head root next depth) fit = refl
own_leaf bucket bounds (node.Inner seps kids) fit = refl
own_leaf bucket bounds node.Broken fit = refl

-- the leaf at the end of a fit way
pub own_end : (nodes : ℕ → Content) (bucket next : ℕ) (key : List ℕ) (height : ℕ) (bounds : Bounds) (number : ℕ) → unfit_from height bucket nodes next key bounds number ≡ None → HasOwnKeys bucket (nodes (leaf_for height nodes key number)).0
unfolding unfit_from leaf_for
own_end nodes bucket next key zero bounds number fit = own_leaf bucket bounds (nodes number).0 (passed (is_leaf bucket bounds (nodes number).0) None number fit).0
own_end nodes bucket next key (suc height) bounds number fit =
    let seps = seps_of (nodes number).0 in
    let kid = kid_at (nodes number).0 (place_among key seps) in
    let p = passed (is_inner bounds next (nodes number).0) (unfit_from height bucket nodes next key (bounds_at bounds seps (place_among key seps)) kid) number fit in
    subst (λ k. HasOwnKeys bucket (nodes (leaf_for height nodes key k)).0) (sym (child_is key (nodes number).0)) (own_end nodes bucket next key height (bounds_at bounds seps (place_among key seps)) kid p.1)

-- as it is cached
pub own_cached : (b : Cache) (number : ℕ) → HasOwnKeys b.bucket (given b number).0 → IfSome (cached b number) (λ kept. HasOwnKeys b.bucket kept.node)
unfolding given
own_cached b number = by (cached b number)
  where
    by : (o : Option Cached) → HasOwnKeys b.bucket (unwrap_or {T = Content} (option_map (λ kept. (kept.node, kept.version)) o) (node.Broken, 0)).0 → IfSome o (λ kept. HasOwnKeys b.bucket kept.node)
    by None own = tt
    by (Some kept) own = own

pub own_given : (b : Cache) (number : ℕ) → IfSome (cached b number) (λ kept. HasOwnKeys b.bucket kept.node) → HasOwnKeys b.bucket (given b number).0
unfolding given
own_given b number = by (cached b number)
  where
    by : (o : Option Cached) → IfSome o (λ kept. HasOwnKeys b.bucket kept.node) → HasOwnKeys b.bucket (unwrap_or {T = Content} (option_map (λ kept. (kept.node, kept.version)) o) (node.Broken, 0)).0
    by None own = refl
    by (Some kept) own = own

-- ---- a change of pairs

module _ (bucket : ℕ) where
  abbrev is_own : Pair → Bool
  is_own p = bucket_of p.0 == bucket

  -- a key of the bucket
  own_key : (key value : List ℕ) → bucket ≡ bucket_of key → is_own (key, value) ≡ true
  own_key key value is = eq-eqb (bucket_of key) bucket (sym is)

  own_if : (b : Bool) (n : Node) → HasOwnKeys bucket n → HasOwnKeys bucket (if b then n else node.Broken)
  own_if true n own = own
  own_if false n own = refl

  own_set : (pairs : List Pair) (key value : List ℕ) → list_all is_own pairs ≡ true → bucket ≡ bucket_of key → list_all is_own (set pairs key value) ≡ true
  own_set pairs key value own is = list_all-set is_own pairs key value own (own_key key value is)

  own_unset : (pairs : List Pair) (key : List ℕ) → list_all is_own pairs ≡ true → list_all is_own (unset pairs key) ≡ true
  unfolding unset
  own_unset pairs key own =
      let each = all_from_list_all is_own pairs own in
      list_all-from is_own (pairs_below key pairs ++ pairs_above key pairs)
      (all_append (λ x. is_own x ≡ true) (pairs_below key pairs) (pairs_above key pairs) (all_filter (λ x. is_own x ≡ true) (λ q. is_below q.0 key) pairs each) (all_filter (λ x. is_own x ≡ true) (λ q. is_below key q.0) pairs each))

  own_added : (pairs : List Pair) (key : List ℕ) (by : ℤ) (text : Option (List ℕ)) → list_all is_own pairs ≡ true → bucket ≡ bucket_of key → HasOwnKeys bucket (added pairs key by text)
  unfolding added
  own_added pairs key by None own is = refl
  own_added pairs key by (Some text) own is = onto (number_of text) refl
    where
      onto : (n : Option ℤ) → number_of text ≡ n → HasOwnKeys bucket (added pairs key by (Some text))
      onto None e = rw e refl
      onto (Some n) e = rw e (own_if (is_i64 (n +ℤ by)) (node.Leaf (set pairs key (number_text (n +ℤ by)))) (own_set pairs key (number_text (n +ℤ by)) own is))

  own_put : (n : Node) (key value : List ℕ) → HasOwnKeys bucket n → bucket ≡ bucket_of key → HasOwnKeys bucket (changed n (rec.Put key value))
  unfolding changed
  own_put (node.Leaf pairs) key value own is = own_if (nat_le (length (set pairs key value)) most_in_node) (node.Leaf (set pairs key value)) (own_set pairs key value own is)
  own_put (node.Head root next depth) key value own is = refl
  own_put (node.Inner seps kids) key value own is = refl
  own_put node.Broken key value own is = refl

  own_del : (n : Node) (key : List ℕ) → HasOwnKeys bucket n → HasOwnKeys bucket (changed n (rec.Del key))
  unfolding changed
  own_del (node.Leaf pairs) key own = own_unset pairs key own
  own_del (node.Head root next depth) key own = refl
  own_del (node.Inner seps kids) key own = refl
  own_del node.Broken key own = refl

  own_cut : (n : Node) (key : List ℕ) → HasOwnKeys bucket n → HasOwnKeys bucket (changed n (rec.CutLeaf key))
  unfolding changed
  own_cut (node.Leaf pairs) key own = list_all-from is_own (pairs_below key pairs) (all_filter (λ x. is_own x ≡ true) (λ q. is_below q.0 key) pairs (all_from_list_all is_own pairs own))
  own_cut (node.Head root next depth) key own = refl
  own_cut (node.Inner seps kids) key own = refl
  own_cut node.Broken key own = refl

  own_plus : (n : Node) (key : List ℕ) (by : ℤ) → HasOwnKeys bucket n → bucket ≡ bucket_of key → HasOwnKeys bucket (changed n (rec.Plus key by))
  unfolding changed
  own_plus (node.Leaf pairs) key by own is = own_added pairs key by (get pairs key) own is
  own_plus (node.Head root next depth) key by own is = refl
  own_plus (node.Inner seps kids) key by own is = refl
  own_plus node.Broken key by own is = refl

  own_step : (old : Content) (row : Row) → HasOwnKeys bucket old.0 → IsOwnChange bucket row.rec → HasOwnKeys bucket (step old row).0
  unfolding step
  own_step old row own is = after row.rec is
    where
      after : (change : Rec) → IsOwnChange bucket change → HasOwnKeys bucket (step_node old row.version change)
      after (rec.Put key value) is = own_if (row.version == old.1 + 1) (changed old.0 (rec.Put key value)) (own_put old.0 key value own is)
      after (rec.Del key) is = own_if (row.version == old.1 + 1) (changed old.0 (rec.Del key)) (own_del old.0 key own)
      after (rec.Plus key by) is = own_if (row.version == old.1 + 1) (changed old.0 (rec.Plus key by)) (own_plus old.0 key by own is)
      after (rec.CutLeaf key) is = own_if (row.version == old.1 + 1) (changed old.0 (rec.CutLeaf key)) (own_cut old.0 key own)
      after (rec.HeadImage root next depth) is = absurd is
      after (rec.LeafImage image) is = is
      after (rec.InnerImage seps kids) is = absurd is
      after (rec.CutInner key) is = absurd is
      after (rec.Link key child) is = absurd is

-- a pushed change of one pair
pub own_pushed : (old new : Cache) (row : Row) → row.node.bucket ≡ old.bucket → Pushes old new (row ∷ []) → IsOwnChange old.bucket row.rec
    → HasOwnKeys old.bucket (given old row.node.number).0 → HasOwnKeys new.bucket (given new row.node.number).0
unfolding replay
own_pushed old new row of pushes is own =
    let k = row.node.number in
    let mine : is_node (node_at old k) row.node ≡ true = ap (λ b. b && (k == k)) (eq-eqb old.bucket row.node.bucket (sym of)) ∙ eq-eqb k k refl in
    let step_is : given new k ≡ step (given old k) row = pushes.nodes k ∙ ap (λ b. replay (given old k) (cond b (row ∷ []) [])) mine in
    subst (λ bucket. HasOwnKeys bucket (given new k).0) (sym pushes.saves.bucket) (subst (λ (c : Content). HasOwnKeys old.bucket c.0) (sym step_is) (own_step old.bucket (given old k) row own is))

-- and so what was known of the leaf's keys stays known
pub own_again : (known : Bool) (old new : Cache) (row : Row) → row.node.bucket ≡ old.bucket → Pushes old new (row ∷ []) → IsOwnChange old.bucket row.rec
    → OnTrue known (IfSome (cached old row.node.number) (λ kept. HasOwnKeys old.bucket kept.node)) → OnTrue known (HasOwnKeys new.bucket (given new row.node.number).0)
own_again true old new row of pushes is own = own_pushed old new row of pushes is (own_given old row.node.number own)
own_again false old new row of pushes is own = tt

-- where it is known too that the change brings no other key
pub own_still : (known : Bool) (old new : Cache) (row : Row) → row.node.bucket ≡ old.bucket → Pushes old new (row ∷ []) → OnTrue known (IsOwnChange old.bucket row.rec)
    → OnTrue known (IfSome (cached old row.node.number) (λ kept. HasOwnKeys old.bucket kept.node)) → OnTrue known (HasOwnKeys new.bucket (given new row.node.number).0)
own_still true old new row of pushes is own = own_again true old new row of pushes is own
own_still false old new row of pushes is own = tt

-- On sound rows, setting a key pushes by what the bucket gives what it pushes in the rows' tree.
use Rattle.std.proofs.Common.{◌≡◌, ◌≢◌, ℕ, zero, suc, ◌-◌, List, ◌++◌, None, Result, sym, ap, subst, ◌∙◌}
use Rattle.fine_model.specs.declared.Call.TheVariants as call
use Rattle.fine_model.specs.declared.FetchFault.{FetchFault}
use Rattle.fine_model.specs.declared.Node.TheVariants as node
use Rattle.fine_model.specs.declared.Row.{Row}
use Rattle.fine_model.specs.Nodes.{Content}
use Rattle.fine_model.specs.Paths.{is_inner, place_among, bounds_at, seps_of, kid_at, unfit_from}
use Rattle.fine_model.specs.Pushed.{child_for, grown_leaf, grown_inner, growth, with_head, set_push, call_push, push_of}
use Rattle.fine_model.specs.Trees.{Bounds, whole, is_leaf, pairs_of, bucket_of, IsSound}
use Rattle.node_cache.specs.Cache.{Cache}
use Rattle.node_cache.specs.Given.{Finds, given, IsCached}
use Rattle.btree_nodes.specs.Trees.{unfit_in, Serves, Holds}
use Rattle.btree_nodes.specs.declared.fault.TreeFault.{TreeFault}
use Rattle.btree_nodes.specs.Calls.{IsChange, SoundOutcome}
use Rattle.btree_nodes.proofs.OnWays.{holds_on_way}
use Rattle.btree_nodes.proofs.SoundCalls.{outcome_soundly}
use Rattle.btree_nodes.proofs.Ways.{child_is}
use Rattle.btree_nodes.proofs.Sound.{cached_of_whole, leaf_whole, inner_whole, passed, rest, theirs, sound_head, head_same, from_root, holds_agrees}

module _ (b : Cache) (nodes : ℕ → Content) (agrees : (n : ℕ) → IsCached b n → (nodes n).0 ≢ node.Broken → given b n ≡ nodes n) (bucket next : ℕ) (key value : List ℕ) where
  growth_same : (height : ℕ) (bounds : Bounds) (number : ℕ) → unfit_from height bucket nodes next key bounds number ≡ None → unfit_from height bucket (given b) next key bounds number ≡ None
      → growth height bucket (given b) next (key, value) number ≡ growth height bucket nodes next (key, value) number
  unfolding unfit_from growth
  growth_same zero bounds number fit fit' =
      let leaf = leaf_whole bucket bounds (nodes number).0 (passed (is_leaf bucket bounds (nodes number).0) None number fit).0 in
      let here = cached_of_whole b number (leaf_whole bucket bounds (given b number).0 (passed (is_leaf bucket bounds (given b number).0) None number fit').0) in
      ap (λ c. grown_leaf bucket number c.1 next (key, value) (pairs_of c.0)) (agrees number here leaf)
  growth_same (suc height) bounds number fit fit' =
      let there = passed (is_inner bounds next (nodes number).0) (rest b nodes agrees bucket next key height nodes bounds (nodes number).0) number fit in
      let here = passed (is_inner bounds next (given b number).0) (rest b nodes agrees bucket next key height (given b) bounds (given b number).0) number fit' in
      let same = agrees number (cached_of_whole b number (inner_whole bounds next (given b number).0 here.0)) (inner_whole bounds next (nodes number).0 there.0) in
      let kid = kid_at (nodes number).0 (place_among key (seps_of (nodes number).0)) in
      let below = growth_same height (bounds_at bounds (seps_of (nodes number).0) (place_among key (seps_of (nodes number).0))) kid there.1 (subst (λ n. rest b nodes agrees bucket next key height (given b) bounds n.0 ≡ None) same here.1) in
      let mine : child_for key (given b number).0 ≡ kid = child_is key (given b number).0 ∙ ap (λ n. kid_at n.0 (place_among key (seps_of n.0))) same in
      let theirs : child_for key (nodes number).0 ≡ kid = child_is key (nodes number).0 in
      let all : growth height bucket (given b) next (key, value) (child_for key (given b number).0) ≡ growth height bucket nodes next (key, value) (child_for key (nodes number).0) =
      ap (growth height bucket (given b) next (key, value)) mine ∙ below ∙ ap (growth height bucket nodes next (key, value)) (sym theirs) in
      λ i. grown_inner bucket number (same i).1 (same i).0 (all i).rows (all i).next (all i).split

module _ (rows : List Row) (key value : List ℕ) (sound : IsSound rows) (b : Cache) (of_key : b.bucket ≡ bucket_of key) (agrees : (n : ℕ) → IsCached b n → (theirs rows key n).0 ≢ node.Broken → given b n ≡ theirs rows key n) where
  pub sound_set_push : IsCached b 0 → unfit_in b key ≡ None → set_push (bucket_of key) (given b) (key, value) (given b 0).0 ≡ set_push (bucket_of key) (theirs rows key) (key, value) (theirs rows key 0).0
  unfolding set_push
  sound_set_push here fit =
      let h = sound_head rows key sound in
      let same = head_same rows key sound b of_key agrees here in
      let all = growth_same b (theirs rows key) agrees (bucket_of key) h.next key value (h.depth - 1) whole h.root h.fit (sym (from_root rows key sound b of_key agrees here) ∙ fit) in
      ap (set_push (bucket_of key) (given b) (key, value)) (ap (λ n. n.0) same ∙ h.is)
      ∙ (λ i. with_head (bucket_of key) (same i).1 h.root h.next h.depth (all i).rows (all i).next (all i).split)
      ∙ ap (set_push (bucket_of key) (theirs rows key) (key, value)) (sym h.is)

-- setting pushes the same
pub put_same : (rows log : List Row) (mid : Cache) (key value : List ℕ) → IsSound (rows ++ log) → mid.bucket ≡ bucket_of key → Holds mid rows log → IsCached mid 0 → unfit_in mid key ≡ None
    → push_of (rows ++ log) (call.Put key value) ≡ call_push mid.bucket (given mid) (call.Put key value)
unfolding push_of call_push
put_same rows log mid key value sound of_key holds here fit =
    sym (sound_set_push (rows ++ log) key value sound mid of_key (holds_agrees mid rows log key of_key holds) here fit)
    ∙ ap (λ k. set_push k (given mid) (key, value) (given mid 0).0) (sym of_key)

-- setting a key on sound rows
pub put_soundly : (tells : List Row → Type 0) (finds : Finds) (upper : ℕ) (old new : Cache) (log log' : List Row) (key value : List ℕ) (F : FetchFault → Type 0) (r : Result (Unit {0}) TreeFault) → old.bucket ≡ bucket_of key
    → IsChange tells finds upper old new log log' (call.Put key value) (λ mid u. Unit {0}) F r
    → (rows : List Row) → Serves tells old rows → Holds old rows log → IsSound (rows ++ log) → SoundOutcome rows log log' new (call.Put key value) (λ u. Unit {0}) r
put_soundly tells finds upper old new log log' key value F r of_key change rows serves holds sound =
    let of_key' = change.loaded.bucket ∙ of_key in
    let holds' = holds_on_way tells finds upper rows log old change.mid key of_key sound change.loaded change.on_way serves holds in
    outcome_soundly rows log log' change.mid new (call.Put key value) (λ u. Unit {0}) (λ u. Unit {0}) F sound of_key' holds'
    (λ reached. put_same rows log change.mid key value sound of_key' holds' reached.here reached.fit)
    (λ u reached is. tt) r change.outcome

-- Rows that are pushed one after the other.
use Rattle.std.proofs.Common.{◌≡◌, ◌≢◌, ◌⊎◌, inl, inr, ⊎_elim, ℕ, nat_eq, Bool, true, false, ◌||◌, append_assoc, List, [], ◌∷◌, ◌++◌, Option, Some, None, is_some, Result, Ok, Err, refl, sym, ap, subst, ◌∙◌, true≢false, length, ◌<◌, arith}
use Rattle.std.specs.Prelude.{IsSome, OnOk, OnErr, unwrap_or}
use Rattle.std.specs.List.{AllByRecursion}
use Rattle.std.specs.Map.{keys_of, remove_entry}
use Rattle.fine_model.specs.declared.Node.TheVariants as node
use Rattle.fine_model.specs.declared.Row.{Row}
use Rattle.fine_model.specs.Nodes.{Content, replay, step, rows_of}
use Rattle.fine_model.proofs.Trees.NodeLaws.{image_forgets, replay-append, rows_of-append}
use Rattle.node_cache.specs.declared.cached.Cached.{Cached}
use Rattle.node_cache.specs.Cache.{Cache, cached, original, before, saving, with_node, IsSaved}
use Rattle.node_cache.specs.Given.{given, IsCached}
use Rattle.fine_model.proofs.Ordered.Order.{all_map}
use Rattle.fine_model.proofs.Ordered.Sets.{all_append}
use Rattle.btree_nodes.specs.Trees.{node_at}
use Rattle.btree_nodes.specs.Changes.{Saves, is_named, Pushes, HoldsPlace, IsReady, AreReady}
use Rattle.btree_nodes.proofs.Loads.{none_or_some, same_or_not}
use Rattle.btree_nodes.proofs.Changed.{rows_here, rows_else, content_of, given_of, unchanged, saves_saved, saving_saved}
use Rattle.node_cache.proofs.Loading.{remove_absent}
use Rattle.btree_nodes.proofs.LastUsed.{keys_behind}
use Rattle.btree_nodes.proofs.Steps.{given_is}

pub saves_on : (a b c : Cache) → Saves a b → Saves b c → Saves a c
saves_on a b c first second = record {
  bucket = second.bucket ∙ first.bucket;
  originals = λ n h. second.originals n (ap is_some (first.originals n h) ∙ h) ∙ first.originals n h;
  before = λ n. second.before n ∙ first.before n;
  changed = λ n. ⊎_elim (λ h. inl h)
      (λ same. ⊎_elim (λ h. inl (ap is_some (second.originals n h) ∙ h)) (λ same'. inr (same ∙ same')) (first.changed n))
      (second.changed n);
  order = record { added = first.order.added ++ second.order.added; is = second.order.is ∙ ap (λ ks. ks ++ second.order.added) first.order.is ∙ append_assoc (keys_of a.nodes) first.order.added second.order.added };
}

or_assoc : (a b c : Bool) → ((a || b) || c) ≡ (a || (b || c))
or_assoc true b c = refl
or_assoc false b c = refl

named_append : (n : ℕ) (rows more : List Row) → is_named n (rows ++ more) ≡ (is_named n rows || is_named n more)
named_append n [] more = refl
named_append n (row ∷ rows) more = ap (λ t. nat_eq row.node.number n || t) (named_append n rows more) ∙ sym (or_assoc (nat_eq row.node.number n) (is_named n rows) (is_named n more))

-- some rows, and then more
pub pushes_on : (a b c : Cache) (rows more : List Row) → Pushes a b rows → Pushes b c more → Pushes a c (rows ++ more)
unfolding replay
pushes_on a b c rows more first second = record {
  saves = saves_on a b c first.saves second.saves;
  nodes = λ n. second.nodes n ∙ (λ i. replay (first.nodes n i) (rows_of (record { bucket = first.saves.bucket i; number = n }) more)) ∙ sym (both n (given a n));
  saved = λ n. second.saved n ∙ ap (λ t. t || is_named n more) (first.saved n) ∙ or_assoc (is_some (original a n)) (is_named n rows) (is_named n more) ∙ ap (λ t. is_some (original a n) || t) (sym (named_append n rows more));
  kept = λ n h. second.kept n (first.kept n h);
  named = all_append (λ row. IsSaved c row.node.number × IsCached c row.node.number) rows more
      (all_map (λ row. IsSaved b row.node.number × IsCached b row.node.number) (λ row. IsSaved c row.node.number × IsCached c row.node.number)
      (λ row h. (ap is_some (second.saves.originals row.node.number h.0) ∙ h.0, second.kept row.node.number h.1)) rows first.named) second.named;
  others = λ n none. rows_of-append (node_at a n) rows more
      ∙ (λ i. first.others n (was_none n none (cached b n) refl) i ++ (ap (λ k. rows_of (record { bucket = k; number = n }) more) (sym first.saves.bucket) ∙ second.others n none) i);
  added = λ n none here x y. both n x ∙ ⊎_elim
      (λ gone. ap (λ k. replay k (rows_of (node_at a n) more)) (ap (replay x) (first.others n gone)) ∙ later n gone here x y ∙ ap (λ k. replay k (rows_of (node_at a n) more)) (sym (ap (replay y) (first.others n gone))))
      (λ there. ap (λ k. replay k (rows_of (node_at a n) more)) (first.added n none there x y))
      (none_or_some (cached b n)) ∙ sym (both n y);
}
  where
    both : (n : ℕ) (x : Content) → replay x (rows_of (node_at a n) (rows ++ more)) ≡ replay (replay x (rows_of (node_at a n) rows)) (rows_of (node_at a n) more)
    both n x = ap (replay x) (rows_of-append (node_at a n) rows more) ∙ replay-append x (rows_of (node_at a n) rows) (rows_of (node_at a n) more)

    later : (n : ℕ) → cached b n ≡ None → IsCached c n → (x y : Content) → replay x (rows_of (node_at a n) more) ≡ replay y (rows_of (node_at a n) more)
    later n gone here x y = subst (λ k. replay x (rows_of (record { bucket = k; number = n }) more) ≡ replay y (rows_of (record { bucket = k; number = n }) more)) first.saves.bucket (second.added n gone here x y)

    was_none : (n : ℕ) → cached c n ≡ None → (o : Option Cached) → cached b n ≡ o → cached b n ≡ None
    was_none n none None is = is
    was_none n none (Some kept) is = absurd (true≢false (sym (second.kept n (ap is_some is)) ∙ ap is_some none))

-- a row on a node whose place is held, which was there or is made by the row
pub pushes_held : (a b c : Cache) (row : Row) → row.node.bucket ≡ a.bucket → IsReady (IsCached a) row → HoldsPlace a b row.node.number → Pushes b c (row ∷ []) → Pushes a c (row ∷ [])
unfolding replay
pushes_held a b c row of_bucket ready held pushes = record {
  saves = saves_on a b c held.saves pushes.saves;
  nodes = λ n. pushes.nodes n ∙ (λ i. replay (held.given n i) (rows_of (record { bucket = held.saves.bucket i; number = n }) (row ∷ [])));
  kept = λ n h. pushes.kept n (⊎_elim (λ same. subst (IsCached b) (sym same) held.there) (λ other. ap is_some (held.others n other) ∙ h) (same_or_not n row.node.number));
  saved = λ n. pushes.saved n ∙ by_held n held.saved;
  named = pushes.named;
  others = λ n none. ap (λ k. rows_of (record { bucket = k; number = n }) (row ∷ [])) (sym held.saves.bucket) ∙ pushes.others n none;
  added = λ n none here x y. ⊎_elim
      (λ same. subst (λ m. replay x (rows_of (node_at a m) (row ∷ [])) ≡ replay y (rows_of (node_at a m) (row ∷ []))) (sym same)
      (ap (replay x) (rows_here a row of_bucket) ∙ image (subst (λ m. cached a m ≡ None) same none) x y ∙ sym (ap (replay y) (rows_here a row of_bucket))))
      (λ other. absurd (true≢false (sym here ∙ ap is_some (gone n other none))))
      (same_or_not n row.node.number);
}
  where
    twice : (s t : Bool) → ((s || t) || (t || false)) ≡ (s || (t || false))
    twice true t = refl
    twice false true = refl
    twice false false = refl

    by_held : (n : ℕ) → ((k : ℕ) → is_some (original b k) ≡ is_some (original a k)) ⊎ ((k : ℕ) → is_some (original b k) ≡ (is_some (original a k) || nat_eq row.node.number k))
        → (is_some (original b n) || is_named n (row ∷ [])) ≡ (is_some (original a n) || is_named n (row ∷ []))
    by_held n (inl same) = ap (λ t. t || is_named n (row ∷ [])) (same n)
    by_held n (inr more) = ap (λ t. t || is_named n (row ∷ [])) (more n) ∙ twice (is_some (original a n)) (nat_eq row.node.number n)

    image : cached a row.node.number ≡ None → (x y : Content) → step x row ≡ step y row
    image none x y = ⊎_elim (λ there. absurd (true≢false (sym there ∙ ap is_some none))) (λ is. image_forgets x y row is) ready

    gone : (n : ℕ) → n ≢ row.node.number → cached a n ≡ None → cached c n ≡ None
    gone n other none = by (cached c n) refl
      where
        apart : ◌≡◌ {A = Content} (node.Broken, 0) (node.Leaf [], 0) → ⊥
        apart e = let e' = ap (λ (x : Content). x.0) e in cc

        by : (o : Option Cached) → cached c n ≡ o → cached c n ≡ None
        by None is = is
        by (Some kept) is = absurd (apart (ap (replay (node.Broken, 0)) (sym (rows_else b row n other)) ∙ pushes.added n (held.others n other ∙ none) (ap is_some is) (node.Broken, 0) (node.Leaf [], 0) ∙ ap (replay (node.Leaf [], 0)) (rows_else b row n other)))

-- what is ready stays ready as more nodes are there
pub ready_more : (K L : ℕ → Type 0) → ((n : ℕ) → K n → L n) → (rows : List Row) → AreReady K rows → AreReady L rows
ready_more K L on [] ready = tt
ready_more K L on (row ∷ rows) ready = (⊎_elim (λ k. inl (on row.node.number k)) (λ i. inr i) ready.0, ready_more (λ n. K n ⊎ (n ≡ row.node.number)) (λ n. L n ⊎ (n ≡ row.node.number)) (λ n h. ⊎_elim (λ k. inl (on n k)) (λ e. inr e) h) rows ready.1)

-- ---- a place that is held

module _ (b m new : Cache) (k : ℕ) (kept : Cached) (was : cached b k ≡ None) (saved : m ≡ saving b k) (same_before : (n : ℕ) → before m n ≡ before b n) (is_saved : IsSaved m k)
    (put : new ≡ with_node m k kept) (here : cached new k ≡ Some kept) (elsewhere : (n : ℕ) → n ≢ k → cached new n ≡ cached m n) where
  put_order : keys_of new.nodes ≡ keys_of m.nodes ++ k ∷ []
  put_order = ap (λ c. keys_of c.nodes) put ∙ keys_behind (remove_entry (nat_eq k) m.nodes) k kept ∙ ap (λ (es : List (ℕ × Cached)). keys_of es ++ k ∷ []) (remove_absent k m.nodes (unchanged b m k saved k ∙ was))

  put_saves : Saves m new
  put_saves = record {
    order = record { added = k ∷ []; is = put_order };
    bucket = ap (λ c. c.bucket) put;
    originals = λ n h. ap (λ c. original c n) put;
    before = λ n. ⊎_elim
        (λ same. subst (λ q. before new q ≡ before m q) (sym same) (at_saved (original m k) is_saved refl))
        (λ other. (λ i. unwrap_or (original (put i) n) (elsewhere n other i)))
        (same_or_not n k);
    changed = λ n. ⊎_elim (λ same. inl (subst (IsSaved new) (sym same) (ap (λ c. is_some (original c k)) put ∙ is_saved))) (λ other. inr (elsewhere n other)) (same_or_not n k);
  }
    where
      at_saved : (o : Option (Option Cached)) → IsSome o → original m k ≡ o → before new k ≡ before m k
      at_saved None h is = absurd (true≢false (sym h))
      at_saved (Some o) h is = ap (λ s. unwrap_or s (cached new k)) (ap (λ c. original c k) put ∙ is) ∙ ap (λ s. unwrap_or s (cached m k)) (sym is)

  pub place_saves : Saves b new
  place_saves = saves_on b m new (saves_saved b m k saved same_before) put_saves

  pub place_held : ◌≡◌ {A = Content} (kept.node, kept.version) (node.Broken, 0) → HoldsPlace b new k
  place_held broken = record {
    there = ap is_some here;
    given = λ n. ⊎_elim
        (λ same. subst (λ q. given new q ≡ given b q) (sym same) (given_is new k kept here ∙ broken ∙ sym (given_of b k ∙ ap content_of was)))
        (λ other. given_of new n ∙ ap content_of (elsewhere n other ∙ unchanged b m k saved n) ∙ sym (given_of b n))
        (same_or_not n k);
    others = λ n other. elsewhere n other ∙ unchanged b m k saved n;
    saves = place_saves;
    saved = inr (λ q. ap (λ c. is_some (original c q)) put ∙ ap (λ c. is_some (original c q)) saved ∙ saving_saved b k q);
  }

-- a place is held, or memory runs out
module _ (b m new : Cache) (k : ℕ) (kept : Cached) (was : cached b k ≡ None) (saved : m ≡ saving b k) (same_before : (n : ℕ) → before m n ≡ before b n) (is_saved : IsSaved m k) where
  pub hold_saves : {A E : Type 0} (r : Result A E) → OnOk r (new ≡ with_node m k kept) → OnOk r (cached new k ≡ Some kept) → OnOk r ((n : ℕ) → n ≢ k → cached new n ≡ cached m n) → OnErr r (new ≡ m) → Saves b new
  hold_saves (Ok a) put here elsewhere err = place_saves b m new k kept was saved same_before is_saved put here elsewhere
  hold_saves (Err e) put here elsewhere err = subst (Saves b) (sym err) (saves_saved b m k saved same_before)

  pub hold_held : {A E : Type 0} (r : Result A E) → ◌≡◌ {A = Content} (kept.node, kept.version) (node.Broken, 0) → OnOk r (new ≡ with_node m k kept) → OnOk r (cached new k ≡ Some kept) → OnOk r ((n : ℕ) → n ≢ k → cached new n ≡ cached m n) → OnOk r (HoldsPlace b new k)
  hold_held (Ok a) broken put here elsewhere = place_held b m new k kept was saved same_before is_saved put here elsewhere broken
  hold_held (Err e) broken put here elsewhere = tt

-- nothing is pushed by no rows, and all rows are pushed by the first and the others
pub push_first : (a b c : Cache) (row : Row) (rows : List Row) → Pushes a b (row ∷ []) → Pushes b c rows → Pushes a c (row ∷ rows)
push_first a b c row rows first second = pushes_on a b c (row ∷ []) rows first second

pub rest_ready : (a b : Cache) (row : Row) (rows : List Row) → Pushes a b (row ∷ []) → IsCached b row.node.number → AreReady (λ n. IsCached a n ⊎ (n ≡ row.node.number)) rows → AreReady (IsCached b) rows
rest_ready a b row rows pushes here ready = ready_more (λ n. IsCached a n ⊎ (n ≡ row.node.number)) (IsCached b) (λ n h. ⊎_elim (pushes.kept n) (λ e. subst (IsCached b) (sym e) here) h) rows ready

pub same_buckets : (a b : Cache) (rows : List Row) → b.bucket ≡ a.bucket → AllByRecursion (λ row. row.node.bucket ≡ a.bucket) rows → AllByRecursion (λ row. row.node.bucket ≡ b.bucket) rows
same_buckets a b rows same h = subst (λ k. AllByRecursion (λ row. row.node.bucket ≡ k) rows) (sym same) h

-- no rows are left
pub no_rows_left : (rows : List Row) → length rows < 1 → rows ≡ []
no_rows_left [] few = refl
no_rows_left (x ∷ xs) few = absurd (omega arith)

-- A row that is done to a node.
use Rattle.std.proofs.Common.{◌≡◌, ◌≢◌, inl, inr, ⊎_elim, ℕ, ◌≤◌, ◌==◌, Bool, true, false, cond, ◌&&◌, ◌||◌, if◌then◌else◌, nat_eq, eq-eqb, ne_eqb, List, [], ◌∷◌, ◌++◌, Option, Some, None, is_some, Result, Ok, Err, refl, sym, ap, subst, ◌∙◌, true≢false, append-nil}
use Rattle.std.specs.Prelude.{IsSome, OnOk, OnErr, unwrap_or, option_map}
use Rattle.std.specs.Cmp.{nat_eq_equiv}
use Rattle.std.specs.Map.{keys_of, lookup}
use Rattle.std.proofs.lemmas.Map.{lookup-set_value, keys-set_value}
use Rattle.std.proofs.lemmas.Map.Steps.{set_value_same}
use Rattle.fine_model.specs.declared.list.NoMemory.{NoMemory}
use Rattle.fine_model.specs.declared.Node.{Node}
use Rattle.fine_model.specs.declared.Node.TheVariants as node
use Rattle.fine_model.specs.declared.Row.{Row}
use Rattle.fine_model.specs.Nodes.{Content, replay, step, rows_of}
use Rattle.fine_model.specs.RowBytes.{greatest}
use Rattle.node_cache.specs.declared.cached.Cached.{Cached}
use Rattle.node_cache.specs.Cache.{Cache, cached, original, before, rewritten, saving, IsSaved}
use Rattle.node_cache.specs.Given.{given, IsCached}
use Rattle.node_cache.specs.Changing.{IsPairChange}
use Rattle.node_cache.proofs.Equal.{same_kept}
use Rattle.node_cache.proofs.Kept.{saving_before, saving_here}
use Rattle.btree_nodes.specs.Trees.{node_at}
use Rattle.btree_nodes.specs.Changes.{Saves, IsChanged, is_named, Pushes}
use Rattle.btree_nodes.proofs.Steps.{given_is}
use Rattle.btree_nodes.proofs.Loads.{same_or_not}

pub of_ok : {A E : Type 0} {P : Type 0} (r : Result A E) → P → OnOk r P
of_ok (Ok a) p = p
of_ok (Err e) p = tt

pub on_ok : {A E : Type 0} {P Q : Type 0} (r : Result A E) → (P → Q) → OnOk r P → OnOk r Q
on_ok (Ok a) f h = f h
on_ok (Err e) f h = tt

pub was_changed : (b : Cache) (row : Row) (kept now : Cached) → cached b row.node.number ≡ Some kept → (now.node, now.version) ≡ step (kept.node, kept.version) row → IsChanged b (rewritten b row.node.number now) row
unfolding step
was_changed b row kept now found is = record {
  kept = now;
  is = refl;
  same = is ∙ ap (λ c. step c row) (sym (given_is b row.node.number kept found));
}

-- the version is one that was there, or the row's
pub still_in_range : (r : Result (Unit {0}) NoMemory) (n m : Node) (v w : ℕ) (row : Row) → OnOk r ((m, w) ≡ step (n, v) row) → OnErr r (w ≡ v) → v ≤ greatest → row.version ≤ greatest → w ≤ greatest
unfolding step
still_in_range (Ok u) n m v w row ok err low small = subst (λ (k : ℕ). k ≤ greatest) (sym (ap (λ (c : Content). c.1) ok)) small
still_in_range (Err e) n m v w row ok err low small = subst (λ (k : ℕ). k ≤ greatest) (sym err) low

pub was_not : (b : Cache) (row : Row) (kept now : Cached) → cached b row.node.number ≡ Some kept → (r : Result (Unit {0}) NoMemory) → OnErr r (now.node ≡ kept.node) → OnErr r (now.version ≡ kept.version) → now.epoch ≡ kept.epoch
    → OnErr r (rewritten b row.node.number now ≡ b)
was_not b row kept now found (Ok u) same same' epoch = tt
was_not b row kept now found (Err e) same same' epoch =
    ap (rewritten b row.node.number) (same_kept now kept same same' epoch) ∙ (λ i. record { bucket = b.bucket; nodes = set_value_same (nat_eq row.node.number) b.nodes kept found i; saved = b.saved })

-- ---- a node that is saved, and then changed

found_before : (q : ℕ) (es fs : List (ℕ × Option Cached)) → IsSome (lookup (nat_eq q) es) → lookup (nat_eq q) (es ++ fs) ≡ lookup (nat_eq q) es
found_before q [] fs h = absurd (true≢false (sym h))
found_before q (e ∷ es) fs h = by (nat_eq q e.0) h (found_before q es fs)
  where
    by : (b : Bool) → IsSome (cond b (Some e.1) (lookup (nat_eq q) es)) → (IsSome (lookup (nat_eq q) es) → lookup (nat_eq q) (es ++ fs) ≡ lookup (nat_eq q) es)
        → cond b (Some e.1) (lookup (nat_eq q) (es ++ fs)) ≡ cond b (Some e.1) (lookup (nat_eq q) es)
    by true h rest = refl
    by false h rest = rest h

saving_original : (b : Cache) (k q : ℕ) → IsSaved b q → original (saving b k) q ≡ original b q
saving_original b k q h = by (is_some (original b k))
  where
    by : (t : Bool) → original (if t then b else record b { saved = b.saved ++ (k, cached b k) ∷ [] }) q ≡ original b q
    by true = refl
    by false = found_before q b.saved ((k, cached b k) ∷ []) h

pub or_false : (t : Bool) → (t || false) ≡ t
or_false true = refl
or_false false = refl

or_here : (s t : Bool) → s ≡ true → s ≡ (s || t)
or_here true t e = refl
or_here false t e = absurd (true≢false (sym e))

found_behind : (k q : ℕ) (o : Option Cached) (es : List (ℕ × Option Cached)) → is_some (lookup (nat_eq q) (es ++ (k, o) ∷ [])) ≡ (is_some (lookup (nat_eq q) es) || nat_eq q k)
found_behind k q o [] = by (nat_eq q k)
  where
    by : (t : Bool) → is_some (cond t (Some o) None) ≡ t
    by true = refl
    by false = refl
found_behind k q o (e ∷ es) = by (nat_eq q e.0) (found_behind k q o es)
  where
    by : (t : Bool) → is_some (lookup (nat_eq q) (es ++ (k, o) ∷ [])) ≡ (is_some (lookup (nat_eq q) es) || nat_eq q k)
        → is_some (cond t (Some e.1) (lookup (nat_eq q) (es ++ (k, o) ∷ []))) ≡ (is_some (cond t (Some e.1) (lookup (nat_eq q) es)) || nat_eq q k)
    by true rest = refl
    by false rest = rest

eq_swap : (k q : ℕ) → nat_eq q k ≡ nat_eq k q
eq_swap k q = ⊎_elim (λ same. eq-eqb q k same ∙ sym (eq-eqb k q (sym same))) (λ other. ne_eqb q k other ∙ sym (ne_eqb k q (λ e. other (sym e)))) (same_or_not q k)

-- what is saved once a number was
pub saving_saved : (b : Cache) (k q : ℕ) → is_some (original (saving b k) q) ≡ (is_some (original b q) || nat_eq k q)
saving_saved b k q = by (is_some (original b k)) refl
  where
    by : (t : Bool) → is_some (original b k) ≡ t → is_some (original (if t then b else record b { saved = b.saved ++ (k, cached b k) ∷ [] }) q) ≡ (is_some (original b q) || nat_eq k q)
    by true e = ⊎_elim
        (λ same. or_here (is_some (original b q)) (nat_eq k q) (ap (λ n. is_some (original b n)) same ∙ e))
        (λ other. sym (or_false (is_some (original b q))) ∙ ap (λ t. is_some (original b q) || t) (sym (ne_eqb k q (λ e. other (sym e)))))
        (same_or_not q k)
    by false e = found_behind k q (cached b k) b.saved ∙ ap (λ t. is_some (original b q) || t) (eq_swap k q)

pub saving_same : (b : Cache) (k : ℕ) → ((saving b k).bucket ≡ b.bucket) × ((saving b k).nodes ≡ b.nodes)
saving_same b k = by (is_some (original b k))
  where
    with_it : Bool → Cache
    with_it t = if t then b else record b { saved = b.saved ++ (k, cached b k) ∷ [] }

    by : (t : Bool) → ((with_it t).bucket ≡ b.bucket) × ((with_it t).nodes ≡ b.nodes)
    by true = (refl, refl)
    by false = (refl, refl)

-- what is cached once a node was changed in its place
pub rewritten_cached : (b : Cache) (k : ℕ) (kept : Cached) → IsCached b k → (q : ℕ) → cached (rewritten b k kept) q ≡ cond (nat_eq k q) (Some kept) (cached b q)
rewritten_cached b k kept here q = lookup-set_value nat_eq_equiv (nat_eq k) (nat_eq_equiv.congr k) q kept b.nodes here

abbrev pub content_of : Option Cached → Content
content_of o = unwrap_or (option_map (λ kept. (kept.node, kept.version)) o) (node.Broken, 0)

pub given_of : (b : Cache) (n : ℕ) → given b n ≡ content_of (cached b n)
unfolding given
given_of b n = refl

-- the rows of a node, where one row was pushed
pub rows_here : (b : Cache) (row : Row) → row.node.bucket ≡ b.bucket → rows_of (node_at b row.node.number) (row ∷ []) ≡ row ∷ []
rows_here b row of_bucket = ap (λ t. cond t (row ∷ []) []) (ap (λ t. t && (row.node.number == row.node.number)) (eq-eqb b.bucket row.node.bucket (sym of_bucket)) ∙ eq-eqb row.node.number row.node.number refl)

pub rows_else : (b : Cache) (row : Row) (n : ℕ) → n ≢ row.node.number → rows_of (node_at b n) (row ∷ []) ≡ []
rows_else b row n other = ap (λ t. cond t (row ∷ []) []) (and_false (b.bucket == row.node.bucket) (n == row.node.number) (ne_eqb n row.node.number other))
  where
    and_false : (s t : Bool) → t ≡ false → (s && t) ≡ false
    and_false true t e = e
    and_false false t e = refl

module _ (b m new : Cache) (row : Row) (of_bucket : row.node.bucket ≡ b.bucket) (here : IsCached b row.node.number)
    (saved : m ≡ saving b row.node.number) (kept_before : (n : ℕ) → before m n ≡ before b n) (is_saved : IsSaved m row.node.number) (changed : IsChanged m new row) where
  k : ℕ
  k = row.node.number

  same_cached : (q : ℕ) → cached m q ≡ cached b q
  same_cached q = ap (lookup (nat_eq q)) (ap (λ c. c.nodes) saved ∙ (saving_same b row.node.number).1)

  now : (q : ℕ) → cached new q ≡ cond (nat_eq row.node.number q) (Some changed.kept) (cached b q)
  now q = ap (λ c. cached c q) changed.is ∙ rewritten_cached m row.node.number changed.kept (ap is_some (same_cached row.node.number) ∙ here) q ∙ ap (cond (nat_eq row.node.number q) (Some changed.kept)) (same_cached q)

  now_here : cached new row.node.number ≡ Some changed.kept
  now_here = now row.node.number ∙ ap (λ t. cond t (Some changed.kept) (cached b row.node.number)) (eq-eqb row.node.number row.node.number refl)

  now_else : (q : ℕ) → q ≢ row.node.number → cached new q ≡ cached b q
  now_else q other = now q ∙ ap (λ t. cond t (Some changed.kept) (cached b q)) (ne_eqb row.node.number q (λ e. other (sym e)))

  same_original : (q : ℕ) → original new q ≡ original m q
  same_original q = ap (λ c. original c q) changed.is

  one_saves : Saves b new
  one_saves = record {
    bucket = ap (λ c. c.bucket) changed.is ∙ ap (λ c. c.bucket) saved ∙ (saving_same b row.node.number).0;
    originals = λ q h. same_original q ∙ ap (λ c. original c q) saved ∙ saving_original b row.node.number q h;
    before = λ q. ⊎_elim
        (λ same. subst (λ n. before new n ≡ before b n) (sym same) (at_saved (original m row.node.number) is_saved refl ∙ kept_before row.node.number))
        (λ other. (λ i. unwrap_or (same_original q i) ((now_else q other ∙ sym (same_cached q)) i)) ∙ kept_before q)
        (same_or_not q row.node.number);
    order = record { added = []; is = ap (λ c. keys_of c.nodes) changed.is ∙ keys-set_value (nat_eq row.node.number) m.nodes changed.kept ∙ ap (λ c. keys_of c.nodes) saved ∙ ap (λ (es : List (ℕ × Cached)). keys_of es) (saving_same b row.node.number).1 ∙ sym (append-nil (keys_of b.nodes)) };
    changed = λ q. ⊎_elim (λ same. inl (subst (IsSaved new) (sym same) (ap is_some (same_original row.node.number) ∙ is_saved))) (λ other. inr (now_else q other)) (same_or_not q row.node.number);
  }
    where
      at_saved : (o : Option (Option Cached)) → IsSome o → original m row.node.number ≡ o → before new row.node.number ≡ before m row.node.number
      at_saved None h is = absurd (true≢false (sym h))
      at_saved (Some o) h is = ap (λ s. unwrap_or s (cached new row.node.number)) (same_original row.node.number ∙ is) ∙ ap (λ s. unwrap_or s (cached m row.node.number)) (sym is)

  now_saved : (q : ℕ) → is_some (original new q) ≡ (is_some (original b q) || is_named q (row ∷ []))
  now_saved q = ap is_some (same_original q) ∙ ap (λ c. is_some (original c q)) saved ∙ saving_saved b row.node.number q ∙ ap (λ t. is_some (original b q) || t) (sym (or_false (nat_eq row.node.number q)))

  pub pushed_one : Pushes b new (row ∷ [])
  unfolding replay
  pushed_one = record {
    saves = one_saves;
    saved = now_saved;
    nodes = λ q. ⊎_elim
        (λ same. subst (λ n. given new n ≡ replay (given b n) (rows_of (node_at b n) (row ∷ []))) (sym same)
        (given_is new row.node.number changed.kept now_here ∙ changed.same ∙ ap (λ c. step c row) (given_of m row.node.number ∙ ap content_of (same_cached row.node.number) ∙ sym (given_of b row.node.number))
        ∙ ap (replay (given b row.node.number)) (sym (rows_here b row of_bucket))))
        (λ other. given_of new q ∙ ap content_of (now_else q other) ∙ sym (given_of b q) ∙ ap (replay (given b q)) (sym (rows_else b row q other)))
        (same_or_not q row.node.number);
    kept = λ q h. ⊎_elim (λ same. subst (IsCached new) (sym same) (ap is_some now_here)) (λ other. ap is_some (now_else q other) ∙ h) (same_or_not q row.node.number);
    named = ((ap is_some (same_original row.node.number) ∙ is_saved, ap is_some now_here), tt);
    others = λ q none. ⊎_elim (λ same. absurd (true≢false (ap is_some (sym now_here ∙ subst (λ n. cached new n ≡ None) same none)))) (λ other. rows_else b row q other) (same_or_not q row.node.number);
    added = λ q none h. ⊎_elim (λ same. absurd (true≢false (sym here ∙ ap is_some (subst (λ n. cached b n ≡ None) same none)))) (λ other. absurd (true≢false (sym h ∙ ap is_some (now_else q other ∙ none)))) (same_or_not q row.node.number);
  }

-- nothing is changed
pub saves_itself : (b new : Cache) → new ≡ b → Saves b new
saves_itself b new same = record {
  bucket = ap (λ c. c.bucket) same;
  originals = λ n h. ap (λ c. original c n) same;
  before = λ n. ap (λ c. before c n) same;
  changed = λ n. inr (ap (λ c. cached c n) same);
  order = record { added = []; is = ap (λ c. keys_of c.nodes) same ∙ sym (append-nil (keys_of b.nodes)) };
}

module _ (b m : Cache) (k : ℕ) (saved : m ≡ saving b k) where
  pub unchanged : (q : ℕ) → cached m q ≡ cached b q
  unchanged q = ap (lookup (nat_eq q)) (ap (λ c. c.nodes) saved ∙ (saving_same b k).1)

  -- a node is saved
  pub saves_saved : ((n : ℕ) → before m n ≡ before b n) → Saves b m
  saves_saved kept_before = record {
    bucket = ap (λ c. c.bucket) saved ∙ (saving_same b k).0;
    originals = λ q h. ap (λ c. original c q) saved ∙ saving_original b k q h;
    before = kept_before;
    changed = λ q. inr (unchanged q);
    order = record { added = []; is = ap (λ c. keys_of c.nodes) saved ∙ ap (λ (es : List (ℕ × Cached)). keys_of es) (saving_same b k).1 ∙ sym (append-nil (keys_of b.nodes)) };
  }

  -- and then a row is done to it, or memory runs out
  pub saves_then : (new : Cache) (row : Row) (r : Result (Unit {0}) NoMemory) → row.node.number ≡ k → row.node.bucket ≡ b.bucket → IsCached b k → ((n : ℕ) → before m n ≡ before b n) → IsSaved m k → OnOk r (IsChanged m new row) → OnErr r (new ≡ m) → Saves b new
  saves_then new row (Err e) same of_bucket here kept_before is_saved ok err = subst (Saves b) (sym err) (saves_saved kept_before)
  saves_then new row (Ok u) same of_bucket here kept_before is_saved ok err =
      (pushed_one b m new row of_bucket (subst (IsCached b) (sym same) here) (saved ∙ ap (saving b) (sym same)) kept_before (subst (IsSaved m) (sym same) is_saved) ok).saves

-- a pair of a leaf was changed, as a row says
pub pair_pushed : (b new : Cache) (row : Row) → row.node.bucket ≡ b.bucket → IsCached b row.node.number → IsPairChange b new row → Pushes b new (row ∷ [])
pair_pushed b new row of_bucket here change =
    let there : cached (saving b row.node.number) row.node.number ≡ Some change.kept = ap (lookup (nat_eq row.node.number)) (saving_same b row.node.number).1 ∙ change.there in
    let changed : IsChanged (saving b row.node.number) new row =
    subst (λ c. IsChanged (saving b row.node.number) c row) (sym change.is) (was_changed (saving b row.node.number) row change.kept change.now there change.made) in
    pushed_one b (saving b row.node.number) new row of_bucket here refl (λ q. saving_before b row.node.number q) (saving_here b row.node.number) changed

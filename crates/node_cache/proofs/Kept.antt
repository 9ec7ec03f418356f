-- What holds of a bucket, and how it stays.
use Rattle.std.proofs.Common.{◌≡◌, ℕ, Bool, true, false, cond, if◌then◌else◌, Result, Ok, Err, OnErr, List, [], ◌∷◌, ◌++◌, Option, Some, None, option_map, unwrap_or, is_some, IsSome, IfSome, IsSomeAnd, nat_eq, eq-eqb, eqb-true, true≢false, refl, sym, ap, subst, ◌∙◌}
use Rattle.std.specs.List.{IsDistinct}
use Rattle.std.specs.Map.{keys_of, lookup, remove_entry, set_value}
use Rattle.std.specs.Option.{option_to_list}
use Rattle.std.proofs.lemmas.Bool.{cond-true, cond-false}
use Rattle.std.proofs.lemmas.Map.{keys-set_value}
use Rattle.std.proofs.lemmas.Map.Steps.{set_value_same}
use Rattle.node_cache.specs.declared.cached.Cached.{Cached}
use Rattle.node_cache.specs.declared.original.Original.{Original}
use Rattle.node_cache.specs.declared.original.Original.TheVariants as original
use Rattle.node_cache.specs.Cache.{Cache, cached, original as was_saved, before, saving, IsSaved}
use Rattle.node_cache.specs.Entries.{restored}
use Rattle.node_cache.specs.Originals.{original_of, originals, made_whole, whole_at, ChangedAt, Stands, IsKept}
use Rattle.node_cache.proofs.Moved.{none_found}
use Rattle.node_cache.specs.Cache.{IsCache}
use Rattle.node_cache.proofs.Restored.{IsLast, is_last, found_last}

abbrev Nodes : Type 0
Nodes = List (ℕ × Cached)

abbrev Saved : Type 0
Saved = List (ℕ × Original)

pub on_err : {A E P Q : Type 0} (r : Result A E) → (P → Q) → OnErr r P → OnErr r Q
on_err (Ok a) f h = tt
on_err (Err e) f h = f h

pub with_err : {A E P : Type 0} (r : Result A E) → P → OnErr r P
with_err (Ok a) h = tt
with_err (Err e) h = h

-- ---- look-ups

apart : (k q : ℕ) → nat_eq k q ≡ false → nat_eq q k ≡ false
apart k q differs = by (nat_eq q k) refl
  where
    by : (b : Bool) → nat_eq q k ≡ b → b ≡ false
    by true same = absurd (true≢false (sym (eq-eqb k q (sym (eqb-true q k same))) ∙ differs))
    by false other = refl

apart_from : (k q : ℕ) → nat_eq k q ≡ false → (n : ℕ) → nat_eq k n ≡ true → nat_eq q n ≡ false
apart_from k q differs n same = subst (λ m. nat_eq q m ≡ false) (eqb-true k n same) (apart k q differs)

module _ {X : Type 0} (k q : ℕ) (differs : nat_eq k q ≡ false) where
  -- another number is found as before
  pub other_set : (es : List (ℕ × X)) (w : X) → lookup (nat_eq q) (set_value (nat_eq k) es w) ≡ lookup (nat_eq q) es
  other_set [] w = refl
  other_set (e ∷ es) w = by (nat_eq k e.0) refl (other_set es w)
    where
      by : (b : Bool) → nat_eq k e.0 ≡ b → lookup (nat_eq q) (set_value (nat_eq k) es w) ≡ lookup (nat_eq q) es
          → lookup (nat_eq q) (cond b ((e.0, w) ∷ es) (e ∷ set_value (nat_eq k) es w)) ≡ lookup (nat_eq q) (e ∷ es)
      by true same rest = cond-false (nat_eq q e.0) (Some w) (lookup (nat_eq q) es) (apart_from k q differs e.0 same) ∙ sym (cond-false (nat_eq q e.0) (Some e.1) (lookup (nat_eq q) es) (apart_from k q differs e.0 same))
      by false other rest = ap (cond (nat_eq q e.0) (Some e.1)) rest

  pub other_removed : (es : List (ℕ × X)) → lookup (nat_eq q) (remove_entry (nat_eq k) es) ≡ lookup (nat_eq q) es
  other_removed [] = refl
  other_removed (e ∷ es) = by (nat_eq k e.0) refl (other_removed es)
    where
      by : (b : Bool) → nat_eq k e.0 ≡ b → lookup (nat_eq q) (remove_entry (nat_eq k) es) ≡ lookup (nat_eq q) es
          → lookup (nat_eq q) (cond b es (e ∷ remove_entry (nat_eq k) es)) ≡ lookup (nat_eq q) (e ∷ es)
      by true same rest = sym (cond-false (nat_eq q e.0) (Some e.1) (lookup (nat_eq q) es) (apart_from k q differs e.0 same))
      by false other rest = ap (cond (nat_eq q e.0) (Some e.1)) rest

  pub other_pushed : (es : List (ℕ × X)) (v : X) → lookup (nat_eq q) (es ++ (k, v) ∷ []) ≡ lookup (nat_eq q) es
  other_pushed [] v = cond-false (nat_eq q k) (Some v) None (apart k q differs)
  other_pushed (e ∷ es) v = ap (cond (nat_eq q e.0) (Some e.1)) (other_pushed es v)

pub other_restored : (k q : ℕ) → nat_eq k q ≡ false → (o : Option Cached) (es : Nodes) → lookup (nat_eq q) (restored (nat_eq k) o es) ≡ lookup (nat_eq q) es
other_restored k q differs None es = other_removed k q differs es
other_restored k q differs (Some kept) es = other_set k q differs es kept

pub same_set : {X : Type 0} (t : ℕ → Bool) (es : List (ℕ × X)) (w : X) → IsSome (lookup t es) → lookup t (set_value t es w) ≡ Some w
same_set t [] w there = absurd (true≢false (sym there))
same_set t (e ∷ es) w there = by (t e.0) refl there (same_set t es w)
  where
    by : (b : Bool) → t e.0 ≡ b → IsSome (cond b (Some e.1) (lookup t es)) → (IsSome (lookup t es) → lookup t (set_value t es w) ≡ Some w) → lookup t (cond b ((e.0, w) ∷ es) (e ∷ set_value t es w)) ≡ Some w
    by true same there rest = cond-true (t e.0) (Some w) (lookup t es) same
    by false other there rest = cond-false (t e.0) (Some e.1) (lookup t (set_value t es w)) other ∙ rest there

-- ---- originals

pub lookup_originals : (t : ℕ → Bool) (es : Saved) → lookup t (originals es) ≡ option_map original_of (lookup t es)
lookup_originals t [] = refl
lookup_originals t (e ∷ es) = by (t e.0) (lookup_originals t es)
  where
    by : (b : Bool) → lookup t (originals es) ≡ option_map original_of (lookup t es) → cond b (Some (original_of e.1)) (lookup t (originals es)) ≡ option_map original_of (cond b (Some e.1) (lookup t es))
    by true rest = refl
    by false rest = rest

keys_originals : (es : Saved) → keys_of (originals es) ≡ keys_of es
keys_originals [] = refl
keys_originals (e ∷ es) = ap (λ ks. e.0 ∷ ks) (keys_originals es)

pub originals_set : (t : ℕ → Bool) (es : Saved) (o : Original) → originals (set_value t es o) ≡ set_value t (originals es) (original_of o)
originals_set t [] o = refl
originals_set t (e ∷ es) o = by (t e.0) (originals_set t es o)
  where
    by : (b : Bool) → originals (set_value t es o) ≡ set_value t (originals es) (original_of o)
        → originals (cond b ((e.0, o) ∷ es) (e ∷ set_value t es o)) ≡ cond b ((e.0, original_of o) ∷ originals es) ((e.0, original_of e.1) ∷ set_value t (originals es) (original_of o))
    by true rest = refl
    by false rest = ap (λ l. (e.0, original_of e.1) ∷ l) rest

pub originals_pushed : (es : Saved) (k : ℕ) (o : Original) → originals (es ++ (k, o) ∷ []) ≡ originals es ++ (k, original_of o) ∷ []
originals_pushed [] k o = refl
originals_pushed (e ∷ es) k o = ap (λ l. (e.0, original_of e.1) ∷ l) (originals_pushed es k o)

pub originals_none : (es : Saved) → originals es ≡ [] → es ≡ []
originals_none [] none = refl
originals_none (e ∷ es) none = cc

-- what is found once the last one was taken off
pub finds_originals : (saved rest : Saved) (k : ℕ) → ((q : ℕ) → lookup (nat_eq q) rest ≡ cond (nat_eq k q) None (lookup (nat_eq q) saved)) → (q : ℕ) → lookup (nat_eq q) (originals rest) ≡ cond (nat_eq k q) None (lookup (nat_eq q) (originals saved))
finds_originals saved rest k finds q =
    lookup_originals (nat_eq q) rest ∙ ap (option_map original_of) (finds q) ∙ by (nat_eq k q) ∙ ap (cond (nat_eq k q) None) (sym (lookup_originals (nat_eq q) saved))
  where
    by : (b : Bool) → option_map original_of (cond b None (lookup (nat_eq q) saved)) ≡ cond b None (option_map original_of (lookup (nat_eq q) saved))
    by true = refl
    by false = refl

-- ---- what holds of a bucket

is_there : (P : Cached → Type 0) (found : Option Cached) → IsSomeAnd found P → IsSome found
is_there P None h = absurd h
is_there P (Some kept) h = refl

pub stands_changed : (o : Original) (found : Option Cached) → Stands o found → IfSome found (ChangedAt o)
stands_changed o None stands = tt
stands_changed (original.Whole kept) (Some now) stands = tt
stands_changed (original.Changed undo) (Some now) stands = stands

whole_stands : (o : Original) (found found' : Option Cached) → Stands o found → (IsSome found → IsSome found') → Stands (made_whole o) found'
whole_stands (original.Whole None) found found' stands still = tt
whole_stands (original.Whole (Some kept)) found found' stands still = still stands
whole_stands (original.Changed undo) found found' stands still = still (is_there _ found stands)

pub is_cache : (nodes : Nodes) (saved : Saved) → IsKept nodes saved → IsCache nodes (originals saved)
is_cache nodes saved kept = record {
  distinct = kept.distinct;
  once = subst (IsDistinct nat_eq) (sym (keys_originals saved)) kept.once;
  there = λ q was h. by (lookup (nat_eq q) saved) (lookup (nat_eq q) nodes) (kept.stands q) was (sym (lookup_originals (nat_eq q) saved) ∙ h);
}
  where
    by : (o : Option Original) (found : Option Cached) → IfSome o (λ o. Stands o found) → (was : Cached) → option_map original_of o ≡ Some (Some was) → IsSome found
    by None found stands was h = cc
    by (Some (original.Whole None)) found stands was h = cc
    by (Some (original.Whole (Some kept))) found stands was h = stands
    by (Some (original.Changed undo)) found stands was h = is_there _ found stands

pub fresh : (nodes : Nodes) (saved : Saved) → saved ≡ [] → IsDistinct nat_eq (keys_of nodes) → IsKept nodes saved
unfolding IsDistinct
fresh nodes saved none distinct = record {
  distinct = distinct;
  once = subst (λ s. IsDistinct nat_eq (keys_of s)) (sym none) tt;
  stands = λ q. subst (λ s. IfSome (lookup (nat_eq q) s) (λ o. Stands o (lookup (nat_eq q) nodes))) (sym none) tt;
}

-- all but one number are as before
pub stands_but : (k : ℕ) (nodes nodes' : Nodes) (saved saved' : Saved) → IsKept nodes saved → ((q : ℕ) → nat_eq k q ≡ false → lookup (nat_eq q) nodes' ≡ lookup (nat_eq q) nodes)
    → ((q : ℕ) → nat_eq k q ≡ false → lookup (nat_eq q) saved' ≡ lookup (nat_eq q) saved) → IfSome (lookup (nat_eq k) saved') (λ o. Stands o (lookup (nat_eq k) nodes'))
    → (q : ℕ) → IfSome (lookup (nat_eq q) saved') (λ o. Stands o (lookup (nat_eq q) nodes'))
stands_but k nodes nodes' saved saved' kept same same' here q = by (nat_eq k q) refl
  where
    by : (b : Bool) → nat_eq k q ≡ b → IfSome (lookup (nat_eq q) saved') (λ o. Stands o (lookup (nat_eq q) nodes'))
    by true equal = subst (λ n. IfSome (lookup (nat_eq n) saved') (λ o. Stands o (lookup (nat_eq n) nodes'))) (eqb-true k q equal) here
    by false differs =
        subst (λ s. IfSome s (λ o. Stands o (lookup (nat_eq q) nodes'))) (sym (same' q differs))
        (subst (λ found. IfSome (lookup (nat_eq q) saved) (λ o. Stands o found)) (sym (same q differs)) (kept.stands q))

-- ---- an original that is kept whole

whole_none : (t : ℕ → Bool) (es : Saved) → lookup t es ≡ None → whole_at t es ≡ es
whole_none t es none = ap (λ o. unwrap_or (option_map (λ o. set_value t es (made_whole o)) o) es) none

whole_some : (t : ℕ → Bool) (es : Saved) (o : Original) → lookup t es ≡ Some o → whole_at t es ≡ set_value t es (made_whole o)
whole_some t es o some = ap (λ o. unwrap_or (option_map (λ o. set_value t es (made_whole o)) o) es) some

-- where nothing is cached, an original is whole
pub whole_absent : (t : ℕ → Bool) (es : Saved) (found : Option Cached) → found ≡ None → IfSome (lookup t es) (λ o. Stands o found) → whole_at t es ≡ es
whole_absent t es found none stands = by (lookup t es) refl stands
  where
    same : (o : Original) → Stands o found → made_whole o ≡ o
    same (original.Whole kept) h = refl
    same (original.Changed undo) h = absurd (true≢false (sym (is_there _ found h) ∙ ap is_some none))

    by : (o : Option Original) → lookup t es ≡ o → IfSome o (λ o. Stands o found) → whole_at t es ≡ es
    by None is h = whole_none t es is
    by (Some o) is h = whole_some t es o is ∙ ap (set_value t es) (same o h) ∙ set_value_same t es o is

pub originals_whole : (t : ℕ → Bool) (es : Saved) → originals (whole_at t es) ≡ originals es
originals_whole t es = by (lookup t es) refl
  where
    by : (o : Option Original) → lookup t es ≡ o → originals (whole_at t es) ≡ originals es
    by None is = ap originals (whole_none t es is)
    by (Some o) is = ap originals (whole_some t es o is) ∙ originals_set t es (made_whole o) ∙ set_value_same t (originals es) (original_of o) (lookup_originals t es ∙ ap (option_map original_of) is)

-- an original that is kept whole is the same one
pub still_saved : (k : ℕ) (es es' : Saved) → es' ≡ whole_at (nat_eq k) es → originals es' ≡ originals es
still_saved k es es' is = ap originals is ∙ originals_whole (nat_eq k) es

keys_whole : (t : ℕ → Bool) (es : Saved) → keys_of (whole_at t es) ≡ keys_of es
keys_whole t es = by (lookup t es) refl
  where
    by : (o : Option Original) → lookup t es ≡ o → keys_of (whole_at t es) ≡ keys_of es
    by None is = ap keys_of (whole_none t es is)
    by (Some o) is = ap keys_of (whole_some t es o is) ∙ keys-set_value t es (made_whole o)

pub other_whole : (k q : ℕ) → nat_eq k q ≡ false → (es : Saved) → lookup (nat_eq q) (whole_at (nat_eq k) es) ≡ lookup (nat_eq q) es
other_whole k q differs es = by (lookup (nat_eq k) es) refl
  where
    by : (o : Option Original) → lookup (nat_eq k) es ≡ o → lookup (nat_eq q) (whole_at (nat_eq k) es) ≡ lookup (nat_eq q) es
    by None is = ap (lookup (nat_eq q)) (whole_none (nat_eq k) es is)
    by (Some o) is = ap (lookup (nat_eq q)) (whole_some (nat_eq k) es o is) ∙ other_set k q differs es (made_whole o)

-- then the node may be any other
pub kept_whole : (k : ℕ) (nodes nodes' : Nodes) (saved : Saved) → IsKept nodes saved → IsDistinct nat_eq (keys_of nodes') → (IsSome (lookup (nat_eq k) nodes) → IsSome (lookup (nat_eq k) nodes'))
    → ((q : ℕ) → nat_eq k q ≡ false → lookup (nat_eq q) nodes' ≡ lookup (nat_eq q) nodes) → IsKept nodes' (whole_at (nat_eq k) saved)
kept_whole k nodes nodes' saved kept distinct still same = record {
  distinct = distinct;
  once = subst (IsDistinct nat_eq) (sym (keys_whole (nat_eq k) saved)) kept.once;
  stands = stands_but k nodes nodes' saved (whole_at (nat_eq k) saved) kept same (λ q differs. other_whole k q differs saved) (here (lookup (nat_eq k) saved) refl (kept.stands k));
}
  where
    here : (o : Option Original) → lookup (nat_eq k) saved ≡ o → IfSome o (λ o. Stands o (lookup (nat_eq k) nodes)) → IfSome (lookup (nat_eq k) (whole_at (nat_eq k) saved)) (λ o. Stands o (lookup (nat_eq k) nodes'))
    here None is h = subst (λ s. IfSome s (λ o. Stands o (lookup (nat_eq k) nodes'))) (sym (ap (lookup (nat_eq k)) (whole_none (nat_eq k) saved is) ∙ is)) tt
    here (Some o) is h =
        subst (λ s. IfSome s (λ o. Stands o (lookup (nat_eq k) nodes'))) (sym (ap (lookup (nat_eq k)) (whole_some (nat_eq k) saved o is) ∙ same_set (nat_eq k) saved (made_whole o) (ap is_some is)))
        (whole_stands o (lookup (nat_eq k) nodes) (lookup (nat_eq k) nodes') h still)

pub kept_set : (k : ℕ) (nodes : Nodes) (saved : Saved) (w : Cached) → IsKept nodes saved → IsKept (set_value (nat_eq k) nodes w) (whole_at (nat_eq k) saved)
kept_set k nodes saved w kept = kept_whole k nodes (set_value (nat_eq k) nodes w) saved kept (subst (IsDistinct nat_eq) (sym (keys-set_value (nat_eq k) nodes w)) kept.distinct) (λ there. ap is_some (same_set (nat_eq k) nodes w there)) (λ q differs. other_set k q differs nodes w)

-- ---- an original that was taken off

pub popped_here : (saved rest : Saved) (k : ℕ) (o : Original) → saved ≡ rest ++ (k, o) ∷ [] → ((q : ℕ) → lookup (nat_eq q) rest ≡ cond (nat_eq k q) None (lookup (nat_eq q) saved)) → lookup (nat_eq k) saved ≡ Some o
popped_here saved rest k o whole finds = ap (lookup (nat_eq k)) whole ∙ found_last rest k o (finds k ∙ cond-true (nat_eq k k) None (lookup (nat_eq k) saved) (eq-eqb k k refl))

pub popped_stands : (saved rest : Saved) (k : ℕ) (o : Option Cached) (nodes nodes' : Nodes) → ((q : ℕ) → lookup (nat_eq q) rest ≡ cond (nat_eq k q) None (lookup (nat_eq q) saved)) → nodes' ≡ restored (nat_eq k) o nodes
    → ((q : ℕ) → IfSome (lookup (nat_eq q) saved) (λ o. Stands o (lookup (nat_eq q) nodes))) → (q : ℕ) → IfSome (lookup (nat_eq q) rest) (λ o. Stands o (lookup (nat_eq q) nodes'))
popped_stands saved rest k o nodes nodes' finds is stands q = subst (λ s. IfSome s (λ o. Stands o (lookup (nat_eq q) nodes'))) (sym (finds q)) (by (nat_eq k q) refl)
  where
    by : (b : Bool) → nat_eq k q ≡ b → IfSome (cond b None (lookup (nat_eq q) saved)) (λ o. Stands o (lookup (nat_eq q) nodes'))
    by true same = tt
    by false differs = subst (λ found. IfSome (lookup (nat_eq q) saved) (λ o. Stands o found)) (sym (ap (lookup (nat_eq q)) is ∙ other_restored k q differs o nodes)) (stands q)

-- it was the last one
pub last_popped : (saved rest : Saved) (k : ℕ) (o : Original) (popped : Option (ℕ × Original)) → saved ≡ rest ++ option_to_list popped → popped ≡ Some (k, o)
    → ((q : ℕ) → lookup (nat_eq q) rest ≡ cond (nat_eq k q) None (lookup (nat_eq q) saved)) → IsLast (originals saved) (originals rest) k (original_of o)
last_popped saved rest k o popped whole is finds =
    is_last (originals saved) (originals rest) k (original_of o) (ap originals (whole ∙ ap (λ r. rest ++ option_to_list r) is) ∙ originals_pushed rest k o) (finds_originals saved rest k finds)

-- ---- a number that is saved

pub is_some_originals : (t : ℕ → Bool) (es : Saved) → is_some (lookup t (originals es)) ≡ is_some (lookup t es)
is_some_originals t es = ap is_some (lookup_originals t es) ∙ by (lookup t es)
  where
    by : (o : Option Original) → is_some (option_map original_of o) ≡ is_some o
    by None = refl
    by (Some o) = refl

pub saving_here : (c : Cache) (k : ℕ) → IsSaved (saving c k) k
saving_here c k = by (is_some (was_saved c k)) refl
  where
    by : (b : Bool) → is_some (was_saved c k) ≡ b → IsSaved (if b then c else record c { saved = c.saved ++ (k, cached c k) ∷ [] }) k
    by true there = there
    by false absent = ap is_some (found_last c.saved k (cached c k) (none_found _ absent))

pub saving_before : (c : Cache) (k q : ℕ) → before (saving c k) q ≡ before c q
saving_before c k q = by (is_some (was_saved c k)) refl
  where
    here : is_some (was_saved c k) ≡ false → before (record c { saved = c.saved ++ (k, cached c k) ∷ [] }) k ≡ before c k
    here absent = ap (λ o. unwrap_or o (cached c k)) (found_last c.saved k (cached c k) (none_found _ absent)) ∙ sym (ap (λ o. unwrap_or o (cached c k)) (none_found (was_saved c k) absent))

    at : (b : Bool) → nat_eq k q ≡ b → is_some (was_saved c k) ≡ false → before (record c { saved = c.saved ++ (k, cached c k) ∷ [] }) q ≡ before c q
    at true equal absent = subst (λ n. before (record c { saved = c.saved ++ (k, cached c k) ∷ [] }) n ≡ before c n) (eqb-true k q equal) (here absent)
    at false differs absent = ap (λ o. unwrap_or o (cached c q)) (other_pushed k q differs c.saved (cached c k))

    by : (b : Bool) → is_some (was_saved c k) ≡ b → before (if b then c else record c { saved = c.saved ++ (k, cached c k) ∷ [] }) q ≡ before c q
    by true there = refl
    by false absent = at (nat_eq k q) refl absent

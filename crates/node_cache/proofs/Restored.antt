-- Saved nodes, put back or stamped one after the other.
use Rattle.std.proofs.Common.{◌≡◌, ℕ, Bool, true, false, cond, if◌then◌else◌, List, [], ◌∷◌, ◌++◌, map, Option, Some, None, option_map, unwrap_or, is_some, nat_eq, eq-eqb, eqb-true, refl, sym, ap, ◌∙◌, subst, true≢false}
use Rattle.std.specs.List.{filter_map, cons_option, IsDistinct, AllByRecursion}
use Rattle.std.specs.Map.{keys_of, lookup, remove_entry, set_value}
use Rattle.std.proofs.lemmas.Bool.{cond-true, cond-false}
use Rattle.node_cache.specs.declared.cached.Cached.{Cached}
use Rattle.node_cache.specs.Cache.{IsCache}
use Rattle.node_cache.specs.Entries.{stamped, restored, as_saved, stamped_at, settled_entry}

abbrev Saved : Type 0
Saved = List (ℕ × Option Cached)

-- the last of the saved numbers, and those before it
pub record IsLast (saved rest : Saved) (k : ℕ) (o : Option Cached) : Type 0 where
  pub here : lookup (nat_eq k) saved ≡ Some o
  pub gone : lookup (nat_eq k) rest ≡ None
  pub others : (q : ℕ) → nat_eq k q ≡ false → lookup (nat_eq q) rest ≡ lookup (nat_eq q) saved

pub found_last : {X : Type 0} (rest : List (ℕ × X)) (k : ℕ) (o : X) → lookup (nat_eq k) rest ≡ None → lookup (nat_eq k) (rest ++ (k, o) ∷ []) ≡ Some o
found_last [] k o none = cond-true (nat_eq k k) (Some o) None (eq-eqb k k refl)
found_last (e ∷ es) k o none = by (nat_eq k e.0) none (found_last es k o)
  where
    by : (b : Bool) → cond b (Some e.1) (lookup (nat_eq k) es) ≡ None → (lookup (nat_eq k) es ≡ None → lookup (nat_eq k) (es ++ (k, o) ∷ []) ≡ Some o)
        → cond b (Some e.1) (lookup (nat_eq k) (es ++ (k, o) ∷ [])) ≡ Some o
    by true n rest = cc
    by false n rest = rest n

pub is_last : (saved rest : Saved) (k : ℕ) (o : Option Cached) → saved ≡ rest ++ (k, o) ∷ [] → ((q : ℕ) → lookup (nat_eq q) rest ≡ cond (nat_eq k q) None (lookup (nat_eq q) saved)) → IsLast saved rest k o
is_last saved rest k o e finds =
    let gone = finds k ∙ cond-true (nat_eq k k) None (lookup (nat_eq k) saved) (eq-eqb k k refl) in
    record {
      here = ap (lookup (nat_eq k)) e ∙ found_last rest k o gone;
      gone = gone;
      others = λ q n. finds q ∙ cond-false (nat_eq k q) None (lookup (nat_eq q) saved) n;
    }

module _ (saved rest : Saved) (k : ℕ) (o : Option Cached) (last : IsLast saved rest k o) where
  -- the number of an entry is another one
  same_other : (e : ℕ × Cached) → nat_eq k e.0 ≡ false → lookup (nat_eq e.0) rest ≡ lookup (nat_eq e.0) saved
  same_other e n = last.others e.0 n

  there_gone : (n : ℕ) → nat_eq k n ≡ true → lookup (nat_eq n) rest ≡ None
  there_gone n same = ap (λ m. lookup (nat_eq m) rest) (sym (eqb-true k n same)) ∙ last.gone

  there_here : (n : ℕ) → nat_eq k n ≡ true → lookup (nat_eq n) saved ≡ Some o
  there_here n same = ap (λ m. lookup (nat_eq m) saved) (sym (eqb-true k n same)) ∙ last.here

  -- what differs from a number differs from its equal
  apart_of : (n : ℕ) (ns : List ℕ) → nat_eq k n ≡ true → AllByRecursion (λ m. nat_eq n m ≡ false) ns → AllByRecursion (λ m. nat_eq k m ≡ false) ns
  apart_of n ns same apart = subst (λ j. AllByRecursion (λ m. nat_eq j m ≡ false) ns) (sym (eqb-true k n same)) apart

  -- behind a number that stands once
  same_behind : (es : List (ℕ × Cached)) → AllByRecursion (λ n. nat_eq k n ≡ false) (keys_of es) → filter_map (as_saved rest) es ≡ filter_map (as_saved saved) es
  same_behind [] apart = refl
  same_behind (e ∷ es) apart = (λ i. cons_option (option_map (λ kept. (e.0, kept)) (unwrap_or (same_other e apart.0 i) (Some e.1))) (same_behind es apart.1 i))

  pub restored_one : (es : List (ℕ × Cached)) → IsDistinct nat_eq (keys_of es) → filter_map (as_saved rest) (restored (nat_eq k) o es) ≡ filter_map (as_saved saved) es
  unfolding IsDistinct
  restored_one es distinct = by o refl es distinct
    where
      absent : (fs : List (ℕ × Cached)) → o ≡ None → IsDistinct nat_eq (keys_of fs) → filter_map (as_saved rest) (remove_entry (nat_eq k) fs) ≡ filter_map (as_saved saved) fs
      absent [] e d = refl
      absent (f ∷ fs) e d = here (nat_eq k f.0) refl (absent fs e d.1)
        where
          here : (b : Bool) → nat_eq k f.0 ≡ b → filter_map (as_saved rest) (remove_entry (nat_eq k) fs) ≡ filter_map (as_saved saved) fs
              → filter_map (as_saved rest) (cond b fs (f ∷ remove_entry (nat_eq k) fs)) ≡ filter_map (as_saved saved) (f ∷ fs)
          here true same later =
              same_behind fs (apart_of f.0 (keys_of fs) same d.0)
              ∙ (λ i. cons_option (option_map (λ kept. (f.0, kept)) (unwrap_or ((ap Some (sym e) ∙ sym (there_here f.0 same)) i) (Some f.1))) (filter_map (as_saved saved) fs))
          here false other later = (λ i. cons_option (option_map (λ kept. (f.0, kept)) (unwrap_or (same_other f other i) (Some f.1))) (later i))

      present : (kept : Cached) (fs : List (ℕ × Cached)) → o ≡ Some kept → IsDistinct nat_eq (keys_of fs) → filter_map (as_saved rest) (set_value (nat_eq k) fs kept) ≡ filter_map (as_saved saved) fs
      present kept [] e d = refl
      present kept (f ∷ fs) e d = here (nat_eq k f.0) refl (present kept fs e d.1)
        where
          here : (b : Bool) → nat_eq k f.0 ≡ b → filter_map (as_saved rest) (set_value (nat_eq k) fs kept) ≡ filter_map (as_saved saved) fs
              → filter_map (as_saved rest) (cond b ((f.0, kept) ∷ fs) (f ∷ set_value (nat_eq k) fs kept)) ≡ filter_map (as_saved saved) (f ∷ fs)
          here true same later =
              (λ i. cons_option (option_map (λ c. (f.0, c)) (unwrap_or (there_gone f.0 same i) (Some kept))) (same_behind fs (apart_of f.0 (keys_of fs) same d.0) i))
              ∙ (λ i. cons_option (option_map (λ c. (f.0, c)) (unwrap_or ((ap Some (sym e) ∙ sym (there_here f.0 same)) i) (Some f.1))) (filter_map (as_saved saved) fs))
          here false other later = (λ i. cons_option (option_map (λ c. (f.0, c)) (unwrap_or (same_other f other i) (Some f.1))) (later i))

      by : (p : Option Cached) → o ≡ p → (fs : List (ℕ × Cached)) → IsDistinct nat_eq (keys_of fs) → filter_map (as_saved rest) (restored (nat_eq k) p fs) ≡ filter_map (as_saved saved) fs
      by None e fs d = absent fs e d
      by (Some kept) e fs d = present kept fs e d

  same_stamps : (epoch : ℕ) (es : List (ℕ × Cached)) → AllByRecursion (λ n. nat_eq k n ≡ false) (keys_of es) → map (settled_entry epoch rest) es ≡ map (settled_entry epoch saved) es
  same_stamps epoch [] apart = refl
  same_stamps epoch (e ∷ es) apart = (λ i. (if is_some (same_other e apart.0 i) then (e.0, stamped epoch e.1) else e) ∷ same_stamps epoch es apart.1 i)

  pub stamped_one : (epoch : ℕ) (es : List (ℕ × Cached)) → IsDistinct nat_eq (keys_of es) → map (settled_entry epoch rest) (stamped_at (nat_eq k) epoch es) ≡ map (settled_entry epoch saved) es
  unfolding IsDistinct
  stamped_one epoch [] d = refl
  stamped_one epoch (f ∷ fs) d = here (nat_eq k f.0) refl (stamped_one epoch fs d.1)
    where
      here : (b : Bool) → nat_eq k f.0 ≡ b → map (settled_entry epoch rest) (stamped_at (nat_eq k) epoch fs) ≡ map (settled_entry epoch saved) fs
          → map (settled_entry epoch rest) (cond b ((f.0, stamped epoch f.1) ∷ fs) (f ∷ stamped_at (nat_eq k) epoch fs)) ≡ map (settled_entry epoch saved) (f ∷ fs)
      here true same later =
          (λ i. (if is_some (there_gone f.0 same i) then (f.0, stamped epoch f.1) else (f.0, stamped epoch f.1)) ∷ same_stamps epoch fs (apart_of f.0 (keys_of fs) same d.0) i)
          ∙ (λ i. (if is_some (sym (there_here f.0 same) i) then (f.0, stamped epoch f.1) else f) ∷ map (settled_entry epoch saved) fs)
      here false other later = (λ i. (if is_some (same_other f other i) then (f.0, stamped epoch f.1) else f) ∷ later i)

-- nothing is saved
pub none_saved : (es : List (ℕ × Cached)) → filter_map (as_saved []) es ≡ es
none_saved [] = refl
none_saved (e ∷ es) = ap (λ l. e ∷ l) (none_saved es)

pub none_stamped : (epoch : ℕ) (es : List (ℕ × Cached)) → map (settled_entry epoch []) es ≡ es
none_stamped epoch [] = refl
none_stamped epoch (e ∷ es) = ap (λ l. e ∷ l) (none_stamped epoch es)

-- a value that was written back with another epoch
pub stamped_there : (t : ℕ → Bool) (epoch : ℕ) (es : List (ℕ × Cached)) (kept : Cached) → lookup t es ≡ Some kept → set_value t es (stamped epoch kept) ≡ stamped_at t epoch es
stamped_there t epoch [] kept h = cc
stamped_there t epoch (e ∷ es) kept h = by (t e.0) h (stamped_there t epoch es kept)
  where
    by : (b : Bool) → cond b (Some e.1) (lookup t es) ≡ Some kept → (lookup t es ≡ Some kept → set_value t es (stamped epoch kept) ≡ stamped_at t epoch es)
        → cond b ((e.0, stamped epoch kept) ∷ es) (e ∷ set_value t es (stamped epoch kept)) ≡ cond b ((e.0, stamped epoch e.1) ∷ es) (e ∷ stamped_at t epoch es)
    by true same later = let one : e.1 ≡ kept = cc in ap (λ c. (e.0, stamped epoch c) ∷ es) (sym one)
    by false none later = ap (λ l. e ∷ l) (later none)

pub stamped_nowhere : (t : ℕ → Bool) (epoch : ℕ) (es : List (ℕ × Cached)) → lookup t es ≡ None → stamped_at t epoch es ≡ es
stamped_nowhere t epoch [] h = refl
stamped_nowhere t epoch (e ∷ es) h = by (t e.0) h (stamped_nowhere t epoch es)
  where
    by : (b : Bool) → cond b (Some e.1) (lookup t es) ≡ None → (lookup t es ≡ None → stamped_at t epoch es ≡ es) → cond b ((e.0, stamped epoch e.1) ∷ es) (e ∷ stamped_at t epoch es) ≡ e ∷ es
    by true none later = cc
    by false none later = ap (λ l. e ∷ l) (later none)

pub set_nowhere : (t : ℕ → Bool) (es : List (ℕ × Cached)) (kept : Cached) → lookup t es ≡ None → set_value t es kept ≡ es
set_nowhere t [] kept h = refl
set_nowhere t (e ∷ es) kept h = by (t e.0) h (set_nowhere t es kept)
  where
    by : (b : Bool) → cond b (Some e.1) (lookup t es) ≡ None → (lookup t es ≡ None → set_value t es kept ≡ es) → cond b ((e.0, kept) ∷ es) (e ∷ set_value t es kept) ≡ e ∷ es
    by true none later = cc
    by false none later = ap (λ l. e ∷ l) (later none)

-- what is found of a number behind nodes none of which has it
gone : (saved : Saved) (q : ℕ) (es : List (ℕ × Cached)) → AllByRecursion (λ m. nat_eq q m ≡ false) (keys_of es) → lookup (nat_eq q) (filter_map (as_saved saved) es) ≡ None
gone saved q [] apart = refl
gone saved q (e ∷ es) apart = by (as_saved_value) (gone saved q es apart.1)
  where
    as_saved_value : Option Cached
    as_saved_value = unwrap_or (lookup (nat_eq e.0) saved) (Some e.1)

    by : (o : Option Cached) → lookup (nat_eq q) (filter_map (as_saved saved) es) ≡ None → lookup (nat_eq q) (cons_option (option_map (λ kept. (e.0, kept)) o) (filter_map (as_saved saved) es)) ≡ None
    by None rest = rest
    by (Some kept) rest = cond-false (nat_eq q e.0) (Some kept) (lookup (nat_eq q) (filter_map (as_saved saved) es)) apart.0 ∙ rest

-- what is found of a number once all is restored: what was saved of it, where it is cached now
abbrev found : Saved → ℕ → Option Cached → Option Cached
found saved q None = None
found saved q (Some kept) = unwrap_or (lookup (nat_eq q) saved) (Some kept)

lookup_restored : (saved : Saved) (q : ℕ) (es : List (ℕ × Cached)) → IsDistinct nat_eq (keys_of es) → lookup (nat_eq q) (filter_map (as_saved saved) es) ≡ found saved q (lookup (nat_eq q) es)
unfolding IsDistinct
lookup_restored saved q [] d = refl
lookup_restored saved q (e ∷ es) d = by (nat_eq q e.0) refl (lookup_restored saved q es d.1)
  where
    rest : List (ℕ × Cached)
    rest = filter_map (as_saved saved) es

    same : nat_eq q e.0 ≡ true → (o : Option Cached) → lookup (nat_eq q) (cons_option (option_map (λ kept. (e.0, kept)) o) rest) ≡ o
    same equal None = gone saved q es (subst (λ j. AllByRecursion (λ m. nat_eq j m ≡ false) (keys_of es)) (sym (eqb-true q e.0 equal)) d.0)
    same equal (Some kept) = cond-true (nat_eq q e.0) (Some kept) (lookup (nat_eq q) rest) equal

    other : nat_eq q e.0 ≡ false → (o : Option Cached) → lookup (nat_eq q) (cons_option (option_map (λ kept. (e.0, kept)) o) rest) ≡ lookup (nat_eq q) rest
    other differs None = refl
    other differs (Some kept) = cond-false (nat_eq q e.0) (Some kept) (lookup (nat_eq q) rest) differs

    by : (b : Bool) → nat_eq q e.0 ≡ b → lookup (nat_eq q) rest ≡ found saved q (lookup (nat_eq q) es)
        → lookup (nat_eq q) (filter_map (as_saved saved) (e ∷ es)) ≡ found saved q (cond b (Some e.1) (lookup (nat_eq q) es))
    by true equal later = same equal (unwrap_or (lookup (nat_eq e.0) saved) (Some e.1)) ∙ ap (λ n. unwrap_or (lookup (nat_eq n) saved) (Some e.1)) (sym (eqb-true q e.0 equal))
    by false differs later = other differs (unwrap_or (lookup (nat_eq e.0) saved) (Some e.1)) ∙ later

-- what is found of each number once all is restored
pub finds_restored : (saved : Saved) (es : List (ℕ × Cached)) → IsCache es saved → (q : ℕ) → lookup (nat_eq q) (filter_map (as_saved saved) es) ≡ unwrap_or (lookup (nat_eq q) saved) (lookup (nat_eq q) es)
finds_restored saved es is q = lookup_restored saved q es is.distinct ∙ by (lookup (nat_eq q) es) refl (lookup (nat_eq q) saved) refl
  where
    by : (o : Option Cached) → lookup (nat_eq q) es ≡ o → (s : Option (Option Cached)) → lookup (nat_eq q) saved ≡ s → found saved q o ≡ unwrap_or s o
    by (Some kept) here s at = ap (λ r. unwrap_or r (Some kept)) at
    by None here None at = refl
    by None here (Some None) at = refl
    by None here (Some (Some kept)) at = absurd (true≢false (sym (is.there q kept at) ∙ ap is_some here))

-- and once all that was saved has an epoch
pub finds_stamped : (epoch : ℕ) (saved : Saved) (q : ℕ) (es : List (ℕ × Cached)) → lookup (nat_eq q) (map (settled_entry epoch saved) es) ≡ (if is_some (lookup (nat_eq q) saved) then option_map (stamped epoch) (lookup (nat_eq q) es) else lookup (nat_eq q) es)
finds_stamped epoch saved q [] = nothing (is_some (lookup (nat_eq q) saved))
  where
    nothing : (b : Bool) → ◌≡◌ {A = Option Cached} None (if b then option_map (stamped epoch) None else None)
    nothing true = refl
    nothing false = refl
finds_stamped epoch saved q (e ∷ es) = by (nat_eq q e.0) refl (finds_stamped epoch saved q es)
  where
    rest : List (ℕ × Cached)
    rest = map (settled_entry epoch saved) es

    same : nat_eq q e.0 ≡ true → (b : Bool) → lookup (nat_eq q) ((if b then (e.0, stamped epoch e.1) else e) ∷ rest) ≡ (if b then Some (stamped epoch e.1) else Some e.1)
    same equal true = cond-true (nat_eq q e.0) (Some (stamped epoch e.1)) (lookup (nat_eq q) rest) equal
    same equal false = cond-true (nat_eq q e.0) (Some e.1) (lookup (nat_eq q) rest) equal

    other : nat_eq q e.0 ≡ false → (b : Bool) → lookup (nat_eq q) ((if b then (e.0, stamped epoch e.1) else e) ∷ rest) ≡ lookup (nat_eq q) rest
    other differs true = cond-false (nat_eq q e.0) (Some (stamped epoch e.1)) (lookup (nat_eq q) rest) differs
    other differs false = cond-false (nat_eq q e.0) (Some e.1) (lookup (nat_eq q) rest) differs

    by : (b : Bool) → nat_eq q e.0 ≡ b → lookup (nat_eq q) rest ≡ (if is_some (lookup (nat_eq q) saved) then option_map (stamped epoch) (lookup (nat_eq q) es) else lookup (nat_eq q) es)
        → lookup (nat_eq q) (map (settled_entry epoch saved) (e ∷ es))
        ≡ (if is_some (lookup (nat_eq q) saved) then option_map (stamped epoch) (cond b (Some e.1) (lookup (nat_eq q) es)) else cond b (Some e.1) (lookup (nat_eq q) es))
    by true equal later = same equal (is_some (lookup (nat_eq e.0) saved)) ∙ ap (λ n. if is_some (lookup (nat_eq n) saved) then Some (stamped epoch e.1) else Some e.1) (sym (eqb-true q e.0 equal))
    by false differs later = other differs (is_some (lookup (nat_eq e.0) saved)) ∙ later

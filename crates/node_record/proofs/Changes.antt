-- What a change leaves at the place of its key.
use Rattle.std.proofs.Common.{◌≡◌, ℕ, suc, ◌+◌, ◌<◌, ◌≤◌, Bool, true, false, cond, List, [], ◌∷◌, ◌++◌, length, take, drop, slice_get, slice_set, Option, Some, None, ℤ, ◌+ℤ◌, refl, sym, ap, subst, ◌∙◌, true≢false, arith, take-append-drop, leb}
use Rattle.std.specs.Prelude.{filter, find, bytes_eq}
use Rattle.std.specs.List.{AllByRecursion, list_any, insert, remove}
use Rattle.std.proofs.lemmas.List.{length-take, take_at, set_split}
use Rattle.std.proofs.lemmas.Bool.{le-leb}
use Rattle.std.proofs.lemmas.Slice.Eq.{bytes_eq-Decides}
use Rattle.fine_model.specs.Map.{Pair, is_below, get, set, pairs_above}
use Rattle.fine_model.specs.Nodes.{linked, added, with_sum, keys_below, keys_above}
use Rattle.fine_model.specs.NumberText.{number_of}
use Rattle.fine_model.specs.declared.Node.TheVariants as node
use Rattle.fine_model.proofs.Ordered.Order.{is_below-self, all_map}
use Rattle.fine_model.proofs.Ordered.Nothing.{finds_none, none_any}
use Rattle.fine_model.proofs.Ordered.Sets.{all_append, all_pass}
use Rattle.node_record.specs.Places.{StandsAt, BelongsAt}
use Rattle.node_record.proofs.Ordered.{at_drop}

pub not_true : (b : Bool) → (b ≡ true → ⊥) → b ≡ false
not_true true h = absurd (h refl)
not_true false h = refl

-- keys of which one is below the other differ
pub below_differs : (a b : List ℕ) → is_below a b ≡ true → bytes_eq a b ≡ false
below_differs a b low = not_true (bytes_eq a b) (λ same. true≢false (sym low ∙ ap (λ k. is_below k b) ((bytes_eq-Decides a b).0 same) ∙ is_below-self b))

pub above_differs : (a b : List ℕ) → is_below b a ≡ true → bytes_eq a b ≡ false
above_differs a b low = not_true (bytes_eq a b) (λ same. true≢false (sym low ∙ ap (is_below b) ((bytes_eq-Decides a b).0 same) ∙ is_below-self b))

find_behind : {A : Type 0} (p : A → Bool) (front : List A) (x : A) (back : List A) → AllByRecursion (λ y. p y ≡ false) front → p x ≡ true → find p (front ++ x ∷ back) ≡ Some x
find_behind p [] x back all here = ap (λ b. cond b (Some x) (find p back)) here
find_behind p (y ∷ front) x back all here = ap (λ b. cond b (Some y) (find p (front ++ x ∷ back))) all.0 ∙ find_behind p front x back all.1 here

any_behind : {A : Type 0} (p : A → Bool) (front : List A) (x : A) (back : List A) → AllByRecursion (λ y. p y ≡ false) front → p x ≡ true → list_any p (front ++ x ∷ back) ≡ true
any_behind p [] x back all here = rw here refl
any_behind p (y ∷ front) x back all here = rw all.0 (any_behind p front x back all.1 here)

module _ {A : Type 0} (name : A → List ℕ) (key : List ℕ) (xs : List A) (i : ℕ) where
  pub absent : BelongsAt name key xs i → (P : A → Type 0) → ((x : A) → is_below (name x) key ≡ true → P x) → ((x : A) → is_below key (name x) ≡ true → P x) → AllByRecursion P xs
  absent at P low high =
      let front : AllByRecursion P (take i xs) = subst (AllByRecursion P) at.lower (all_map (λ x. is_below (name x) key ≡ true) P low (filter (λ x. is_below (name x) key) xs) (all_pass (λ x. is_below (name x) key) xs)) in
      let back : AllByRecursion P (drop i xs) = subst (AllByRecursion P) at.higher (all_map (λ x. is_below key (name x) ≡ true) P high (filter (λ x. is_below key (name x)) xs) (all_pass (λ x. is_below key (name x)) xs)) in
      subst (AllByRecursion P) (take-append-drop i xs) (all_append P (take i xs) (drop i xs) front back)

  pub before : StandsAt name key xs i → (P : A → Type 0) → ((x : A) → is_below (name x) key ≡ true → P x) → AllByRecursion P (take i xs)
  before at P low = subst (AllByRecursion P) at.lower (all_map (λ x. is_below (name x) key ≡ true) P low (filter (λ x. is_below (name x) key) xs) (all_pass (λ x. is_below (name x) key) xs))

  pub around : (x : A) → slice_get xs i ≡ Some x → xs ≡ take i xs ++ x ∷ drop (suc i) xs
  around x is = sym (take-append-drop i xs) ∙ ap (λ (ys : List A). take i xs ++ ys) (at_drop name xs i x is)

-- ---- pairs

module _ (key : List ℕ) (pairs : List Pair) (i : ℕ) where
  pub get_absent : BelongsAt (λ p. p.0) key pairs i → get pairs key ≡ None
  unfolding get
  get_absent at = rw (finds_none (λ p. bytes_eq p.0 key) pairs (absent (λ p. p.0) key pairs i at (λ p. bytes_eq p.0 key ≡ false) (λ p h. below_differs p.0 key h) (λ p h. above_differs p.0 key h))) refl

  pub get_there : StandsAt (λ p. p.0) key pairs i → (p : Pair) → slice_get pairs i ≡ Some p → get pairs key ≡ Some p.1
  unfolding get
  get_there at p is =
      let same : ◌≡◌ {A = Option Pair} (Some at.here.0) (Some p) = sym at.here.1 ∙ is in
      let item : at.here.0 ≡ p = cc in
      let equal : p.0 ≡ key = ap (λ (q : Pair). q.0) (sym item) ∙ at.here.2 in
      let found : find (λ q. bytes_eq q.0 key) pairs ≡ Some p =
      ap (find (λ q. bytes_eq q.0 key)) (around (λ q. q.0) key pairs i p is)
      ∙ find_behind (λ q. bytes_eq q.0 key) (take i pairs) p (drop (suc i) pairs) (before (λ q. q.0) key pairs i at (λ q. bytes_eq q.0 key ≡ false) (λ q h. below_differs q.0 key h)) ((bytes_eq-Decides p.0 key).1 equal) in
      rw found refl

  pub set_there : StandsAt (λ p. p.0) key pairs i → (value : List ℕ) → slice_set pairs i (key, value) ≡ set pairs key value
  unfolding set
  set_there at value = set_split pairs i (key, value) at.within ∙ sym (ap (λ (xs : List Pair). xs ++ (key, value) ∷ pairs_above key pairs) at.lower ∙ ap (λ (xs : List Pair). take i pairs ++ (key, value) ∷ xs) at.higher)

pub added_absent : (pairs : List Pair) (key : List ℕ) (by : ℤ) → get pairs key ≡ None → node.Broken ≡ added pairs key by (get pairs key)
unfolding added
added_absent pairs key by none = sym (ap (added pairs key by) none)

pub added_text : (pairs : List Pair) (key text : List ℕ) (by : ℤ) → get pairs key ≡ Some text → number_of text ≡ None → node.Broken ≡ added pairs key by (get pairs key)
unfolding added
added_text pairs key text by there none = sym (ap (added pairs key by) there ∙ rw none refl)

pub added_sum : (pairs : List Pair) (key text : List ℕ) (by n : ℤ) → get pairs key ≡ Some text → number_of text ≡ Some n → with_sum pairs key (n +ℤ by) ≡ added pairs key by (get pairs key)
unfolding added
added_sum pairs key text by n there number = sym (ap (added pairs key by) there ∙ rw number refl)

-- ---- separators

pub link_there : (key : List ℕ) (seps : List (List ℕ)) (kids : List ℕ) (child i : ℕ) → StandsAt (λ k. k) key seps i → node.Broken ≡ linked seps kids key child
link_there key seps kids child i at =
    let same : bytes_eq key at.here.0 ≡ true = (bytes_eq-Decides key at.here.0).1 (sym at.here.2) in
    let found : list_any (bytes_eq key) seps ≡ true =
    ap (list_any (bytes_eq key)) (around (λ k. k) key seps i at.here.0 at.here.1)
    ∙ any_behind (bytes_eq key) (take i seps) at.here.0 (drop (suc i) seps) (before (λ k. k) key seps i at (λ k. bytes_eq key k ≡ false) (λ k h. above_differs key k h)) same in
    rw found refl

pub link_absent : (key : List ℕ) (seps : List (List ℕ)) (kids : List ℕ) (child i : ℕ) → BelongsAt (λ k. k) key seps i → length seps < 32 → node.Inner (insert seps i key) (insert kids (i + 1) child) ≡ linked seps kids key child
link_absent key seps kids child i at few =
    let none : list_any (bytes_eq key) seps ≡ false = none_any (bytes_eq key) seps (absent (λ k. k) key seps i at (λ k. bytes_eq key k ≡ false) (λ k h. above_differs key k h) (λ k h. below_differs key k h)) in
    let low : keys_below key seps ≡ take i seps = at.lower in
    let high : keys_above key seps ≡ drop i seps = at.higher in
    let long : length (take i seps) ≡ i = omega (arith, length-take i seps, at.within) in
    let room : leb (length seps + 1) 32 ≡ true = le-leb (length seps + 1) 32 (omega arith) in
    rw (none, room, low, high, long) refl

-- what was inserted is removed again
pub remove_inserted : {A : Type 0} (xs : List A) (i : ℕ) (x : A) → i ≤ length xs → remove (insert xs i x) i ≡ xs
remove_inserted xs i x within =
    let long : length (take i xs) ≡ i = omega (arith, length-take i xs) in
    let front : take i (take i xs ++ x ∷ drop i xs) ≡ take i xs = take_at (take i xs) (x ∷ drop i xs) i long in
    let back : drop (suc i) (take i xs ++ x ∷ drop i xs) ≡ drop i xs = ap (λ n. drop (suc n) (take i xs ++ x ∷ drop i xs)) (sym long) ∙ drop_one (take i xs) x (drop i xs) in
    ap (λ ys. ys ++ drop (suc i) (insert xs i x)) front ∙ ap (λ ys. take i xs ++ ys) back ∙ take-append-drop i xs
  where
    drop_one : {A : Type 0} (front : List A) (x : A) (back : List A) → drop (suc (length front)) (front ++ x ∷ back) ≡ back
    drop_one [] x back = refl
    drop_one (y ∷ front) x back = drop_one front x back

-- Lists by what stands at an index, histories, and shares.
use Rattle.std.proofs.Common.{◌≡◌, ◌≢◌, ◌⊎◌, ℕ, zero, suc, ◌<◌, ◌≤◌, nat_lt, List, [], ◌∷◌, ◌++◌, length, slice_index, filter, set, cond, replicate, Bool, true, false, Option, Some, None, sym, refl, ap, ◌∙◌, subst, inl, inr, ⊎_elim, arith, append-nil, true≢false, eqb, eq-eqb, ne_eqb}
use Rattle.std.proofs.lemmas.Bool.{cond-true, cond-false, le-ltb, lt-ltb}
use Rattle.std.proofs.lemmas.List.{length-append}
use Rattle.std.specs.List.{AllByRecursion}
use Rattle.std.proofs.lemmas.List.Elements.{filter-append}
use mathlib.Core.Option.{some, some-injective, some-ne-none}
use native.Mathlib.Decide.{ℕ_discrete, dec_le}
use lib.ListN.{get_elem?}
use Rattle.fine_places.specs.declared.model.Placed.{Placed}
use Rattle.fine_places.specs.declared.model.Share.{Share}
use Rattle.fine_places.specs.History.{room, touching, StartsWith, longer, Owns}
use Rattle.fine_places.specs.Places.{shares_of}
use Rattle.fine_places.specs.Telling.{at_room}

pub decide : (a b : ℕ) → (a ≡ b) ⊎ (a ≢ b)
decide a b = go (ℕ_discrete a b)
  where
    go : Dec (a ≡ b) → (a ≡ b) ⊎ (a ≢ b)
    go (yes e) = inl e
    go (no n) = inr n

pub bool_cases : (b : Bool) → (b ≡ true) ⊎ (b ≡ false)
bool_cases true = inl refl
bool_cases false = inr refl

pub some_inj : (a b : ℕ) → Some a ≡ Some b → a ≡ b
some_inj a b e = grind arith

pub not_some : (o : Option ℕ) (a : ℕ) → o ≡ None → o ≢ Some a
not_some o a e f = grind arith

second : {A : Type 0} → A → List (ℕ × A) → A
second a [] = a
second a (x ∷ xs) = x.1

pub same_head : {A : Type 0} (l : List (ℕ × A)) (k : ℕ) (a b : A) (c d : List (ℕ × A)) → l ≡ (k, a) ∷ c → l ≡ (k, b) ∷ d → a ≡ b
unfolding second
same_head l k a b c d e e' = ap (second a) (sym e ∙ e')

unwrap : {A : Type 0} → A → Option A → A
unwrap a None = a
unwrap a (Some b) = b

pub some_same : {A : Type 0} (a b : A) → Some a ≡ Some b → a ≡ b
unfolding unwrap
some_same a b e = ap (unwrap a) e

module _ {A : Type 0} where
  pub set_at : (l : List A) (i : ℕ) (a b : A) → get_elem? l i ≡ some a → get_elem? (set l i b) i ≡ some b
  set_at [] i a b e = absurd (some-ne-none a (sym e))
  set_at (x ∷ xs) zero a b e = refl
  set_at (x ∷ xs) (suc i) a b e = set_at xs i a b e

  pub is_there : (l : List A) (i : ℕ) → i < length l → (a : A) × (get_elem? l i ≡ some a)
  is_there [] i h = absurd (omega arith)
  is_there (x ∷ xs) zero h = (x, refl)
  is_there (x ∷ xs) (suc i) h = is_there xs i (omega arith)

  pub snoc_at : (l : List A) (a b : A) (j : ℕ) → get_elem? (l ++ a ∷ []) j ≡ some b → (get_elem? l j ≡ some b) ⊎ ((j ≡ length l) × (a ≡ b))
  snoc_at [] a b zero e = inr (refl, some-injective a b e)
  snoc_at [] a b (suc j) e = absurd (some-ne-none b (sym e))
  snoc_at (x ∷ xs) a b zero e = inl e
  snoc_at (x ∷ xs) a b (suc j) e = ⊎_elim (λ p. inl p) (λ p. inr (ap suc p.0, p.1)) (snoc_at xs a b j e)

  -- the first at the room, the second elsewhere
  pub at_room_elim : (k : ℕ) (a b : A) (P : A → Type 0) → (k ≡ room → P a) → (k ≢ room → P b) → P (at_room k a b)
  unfolding at_room
  at_room_elim k a b P here else = ⊎_elim
      (λ e. subst P (sym (cond-true (eqb k room) a b (eq-eqb k room e))) (here e))
      (λ ne. subst P (sym (cond-false (eqb k room) a b (ne_eqb k room ne))) (else ne))
      (decide k room)

-- ---- what holds of each element

pub all_map : {A : Type 0} {P Q : A → Type 0} → ((a : A) → P a → Q a) → (l : List A) → AllByRecursion P l → AllByRecursion Q l
all_map f [] all = tt
all_map f (a ∷ l) all = (f a all.0, all_map f l all.1)

pub all_append : {A : Type 0} (P : A → Type 0) (l m : List A) → AllByRecursion P l → AllByRecursion P m → AllByRecursion P (l ++ m)
all_append P [] m p q = q
all_append P (a ∷ l) m p q = (p.0, all_append P l m p.1 q)

-- ---- histories

-- an item that a test refuses is not kept
pub filter_last : {A : Type 0} (test : A → Bool) (log : List A) (e : A) → test e ≡ false → filter test (log ++ e ∷ []) ≡ filter test log
filter_last test log e off = filter-append test log (e ∷ []) ∙ ap (λ b. filter test log ++ cond b (e ∷ []) []) off ∙ append-nil (filter test log)

pub filter_more : {A : Type 0} (test : A → Bool) (log : List A) (e : A) → test e ≡ true → filter test (log ++ e ∷ []) ≡ filter test log ++ e ∷ []
filter_more test log e on = filter-append test log (e ∷ []) ∙ ap (λ b. filter test log ++ cond b (e ∷ []) []) on

-- a history that begins with itself whole
whole_front : {A : Type 0} (log a m : List A) → log ≡ a ++ m → length log ≤ length a → a ≡ log
whole_front log a [] e le = sym (e ∙ append-nil a)
whole_front log a (x ∷ m) e le = let n = ap length e ∙ length-append a (x ∷ m) in absurd (omega arith)

pub longer_starts : {N : Type 0} (log a b : List (Placed N)) → StartsWith log a → StartsWith log b → StartsWith log (longer a b)
unfolding longer
longer_starts log a b p q = ⊎_elim
    (λ on. subst (StartsWith log) (sym (cond-true (nat_lt (length a) (length b)) b a on)) q)
    (λ off. subst (StartsWith log) (sym (cond-false (nat_lt (length a) (length b)) b a off)) p)
    (bool_cases (nat_lt (length a) (length b)))

-- the longer of two fronts, of which one is the whole, is the whole
pub longer_whole : {N : Type 0} (log a b : List (Placed N)) → StartsWith log a → StartsWith log b → (a ≡ log) ⊎ (b ≡ log) → longer a b ≡ log
unfolding longer
longer_whole log a b p q one = go (dec_le (length b) (length a))
  where
    go : Dec (length b ≤ length a) → longer a b ≡ log
    go (yes le) = cond-false (nat_lt (length a) (length b)) b a (le-ltb (length a) (length b) le)
        ∙ ⊎_elim (λ e. e) (λ e. let n = ap length e in whole_front log a p.0 p.1 (omega arith)) one
    go (no not) = let lt : length a < length b = omega arith in cond-true (nat_lt (length a) (length b)) b a (lt-ltb (length a) (length b) lt)
        ∙ ⊎_elim (λ e. let n = ap length e in let m = ap length q.1 ∙ length-append b q.0 in absurd (omega arith)) (λ e. e) one

-- every item touches the room
pub whole : {N : Type 0} (touches : ℕ → N → Bool) (log : List (Placed N)) → touching touches room log ≡ log
unfolding room
whole touches [] = refl
whole touches (e ∷ es) = ap (λ l. e ∷ l) (whole touches es)

-- ---- shares

module _ {N : Type 0} where
  pub owns_append : (a b : List (Share N)) (n : ℕ) (ms : List (Placed N)) → Owns (a ++ b) n ms → Owns a n ms ⊎ Owns b n ms
  owns_append [] b n ms o = inr o
  owns_append (p ∷ ps) b n ms o = ⊎_elim (λ x. inl (inl x)) (λ x. ⊎_elim (λ y. inl (inr y)) (λ y. inr y) (owns_append ps b n ms x)) o

  pub owns_left : (a b : List (Share N)) (n : ℕ) (ms : List (Placed N)) → Owns a n ms → Owns (a ++ b) n ms
  owns_left [] b n ms o = absurd o
  owns_left (p ∷ ps) b n ms o = ⊎_elim (λ x. inl x) (λ x. inr (owns_left ps b n ms x)) o

  pub owns_right : (a b : List (Share N)) (n : ℕ) (ms : List (Placed N)) → Owns b n ms → Owns (a ++ b) n ms
  owns_right [] b n ms o = o
  owns_right (p ∷ ps) b n ms o = inr (owns_right ps b n ms o)

  pub owned_first : (n m : ℕ) (ms : List (Placed N)) → Owns (shares_of n) m ms → (ms ≡ []) × (0 < m) × (m ≤ n)
  owned_first zero m ms o = absurd o
  owned_first (suc n) m ms o = ⊎_elim (λ x. let e = x.0 in (sym x.1, (omega arith), (omega arith))) (λ x. let h = owned_first n m ms x in let le = h.2 in (h.0, h.1, (omega arith))) o

-- all numbers up to n have a share at the start
pub owns_each : (N : Type 0) (n m : ℕ) → 0 < m → m ≤ n → Owns {N = N} (shares_of n) m []
owns_each N zero m pos le = absurd (omega arith)
owns_each N (suc n) m pos le = ⊎_elim (λ (e : m ≡ suc n). inl (sym e, refl)) (λ (ne : m ≢ suc n). inr (owns_each N n m pos (omega arith))) (decide m (suc n))

pub none_held : (n k : ℕ) → ¬ (get_elem? (replicate n false) k ≡ some true)
none_held zero k e = some-ne-none _ (sym e)
none_held (suc n) zero e = true≢false (sym (some-injective _ _ e))
none_held (suc n) (suc k) e = none_held n k e

-- ---- lists of one value

pub replicate_at : {A : Type 0} (n k : ℕ) (a : A) → k < n → get_elem? (replicate n a) k ≡ some a
replicate_at zero k a lt = absurd (omega arith)
replicate_at (suc n) zero a lt = refl
replicate_at (suc n) (suc k) a lt = replicate_at n k a (omega arith)

pub zeros : (n k : ℕ) → slice_index (replicate n 0) k ≡ 0
zeros zero k = refl
zeros (suc n) zero = refl
zeros (suc n) (suc k) = zeros n k

-- A room of which a view was made.
use Rattle.std.proofs.Common.{◌≡◌, ℕ, zero, suc, ◌+◌, ◌-◌, ◌*◌, ◌≤◌, Bool, true, false, List, [], ◌∷◌, ◌++◌, map, take, drop, Some, None, refl, sym, ap, subst, ◌∙◌, arith, append_assoc, true≢false}
use Rattle.std.specs.Prelude.{Option, Any, Contains, IsPermutation, nat_eq, slice_get, slice_range, slice_set, ◌||◌}
use Rattle.std.specs.List.{AllByRecursion, list_any}
use Rattle.std.proofs.lemmas.List.{map-append}
use Rattle.std.proofs.lemmas.List.Folds.{list_any-append}
use Rattle.std.proofs.lemmas.List.Sorted.{IsPermutation-append, IsPermutation-append_comm, IsPermutation-append_right, IsPermutation-refl, IsPermutation-trans}
use Rattle.std.proofs.lemmas.Bool.{or_right}
use Rattle.std.proofs.lemmas.Map.Views.{list_any-from_Contains, Contains-from_any}
use Rattle.std.proofs.lemmas.Bool.{eqb-true}
use Rattle.fine_model.specs.declared.Part.{Part}
use Rattle.fine_model.specs.declared.law.OpenedEye.{OpenedEye}
use Rattle.fine_model.specs.Boards.{Buffer, buffer_at, empty_of, first_from, is_empty, posted, named, held_of}
use Rattle.fine_model.specs.Chain.{regions_of}
use Rattle.fine_model.specs.Trees.{is_distinct}
use Rattle.fine_model.proofs.Ordered.Nothing.{each_there}
use Rattle.fine_model.proofs.Ordered.Order.{all_map}
use Rattle.fine_model.proofs.Ordered.Sets.{all_append}
use Rattle.fine_model.proofs.Ordered.Times.{times, times-append, absent_times, distinct_times, times_distinct}
use Rattle.epoch_room.specs.Value.{all_regions}
use Rattle.epoch_room.specs.Whole.{NamesWhole}
use Rattle.epoch_room.proofs.RegionSets.Freeing.{nat_alike}

-- ---- buffers

get_take : {A : Type 0} (n : ℕ) (xs : List A) (k : ℕ) (x : A) → slice_get (take n xs) k ≡ Some x → slice_get xs k ≡ Some x
get_take {A} zero xs k x is = absurd (let e : ◌≡◌ {A = Option A} None (Some x) = is in cc)
get_take (suc n) [] k x is = is
get_take (suc n) (y ∷ ys) zero x is = is
get_take (suc n) (y ∷ ys) (suc k) x is = get_take n ys k x is

get_drop : {A : Type 0} (a : ℕ) (xs : List A) (k : ℕ) (x : A) → slice_get (drop a xs) k ≡ Some x → slice_get xs (a + k) ≡ Some x
get_drop zero xs k x is = let e : 0 + k ≡ k = omega arith in ap (slice_get xs) e ∙ is
get_drop {A} (suc a) [] k x is = absurd (let e : ◌≡◌ {A = Option A} None (Some x) = is in cc)
get_drop (suc a) (y ∷ ys) k x is = let e : suc a + k ≡ suc (a + k) = omega arith in ap (slice_get (y ∷ ys)) e ∙ get_drop a ys k x is

first_is_empty : (at : ℕ) (buffers : List Buffer) (k : ℕ) → first_from is_empty at buffers ≡ Some k → (i : ℕ) × (k ≡ at + i) × (slice_get buffers i ≡ Some None)
first_is_empty at [] k is = absurd (let e : ◌≡◌ {A = Option ℕ} None (Some k) = is in cc)
first_is_empty at (None ∷ buffers) k is = (0, (let e : at ≡ k = cc in omega (arith, e)), refl)
first_is_empty at (Some eye ∷ buffers) k is = let h = first_is_empty (at + 1) buffers k is in (suc h.0, (let e = h.1 in omega (arith, e)), h.2)

-- the lowest empty buffer of a seat is empty
pub empty_is : (board : List Buffer) (seat buffer : ℕ) → empty_of board seat ≡ Some buffer → slice_get board (buffer_at seat buffer) ≡ Some None
empty_is board seat buffer is =
    let h = first_is_empty 0 (slice_range board (3 * (seat - 1)) (3 * seat)) buffer is in
    let e : h.0 ≡ buffer = let k = h.1 in omega (arith, k) in
    get_drop (3 * (seat - 1)) board buffer None (subst (λ i. slice_get (drop (3 * (seat - 1)) board) i ≡ Some None) e (get_take (3 * seat - 3 * (seat - 1)) (drop (3 * (seat - 1)) board) h.0 None h.2))

-- the eyes before a buffer and behind it
pub record SplitsAt (board : List Buffer) (at : ℕ) (x : OpenedEye) : Type 0 where
  pub front : List OpenedEye
  pub back : List OpenedEye
  pub was : posted board ≡ front ++ back
  pub is : posted (slice_set board at (Some x)) ≡ front ++ x ∷ back

pub splits_at : (board : List Buffer) (at : ℕ) (x : OpenedEye) → slice_get board at ≡ Some None → SplitsAt board at x
splits_at [] at x is = absurd (let e : ◌≡◌ {A = Option Buffer} None (Some None) = is in cc)
splits_at (None ∷ board) zero x is = record { front = []; back = posted board; was = refl; is = refl }
splits_at (None ∷ board) (suc at) x is = let s = splits_at board at x is in record { front = s.front; back = s.back; was = s.was; is = s.is }
splits_at (Some eye ∷ board) zero x is = absurd (let e : ◌≡◌ {A = Option Buffer} (Some (Some eye)) (Some None) = is in cc)
splits_at (Some eye ∷ board) (suc at) x is =
    let s = splits_at board at x is in record { front = eye ∷ s.front; back = s.back; was = ap (λ es. eye ∷ es) s.was; is = ap (λ es. eye ∷ es) s.is }

-- the eyes on the disk and on the board, with one more
pub one_more : (eyes : List (ℕ × List ℕ)) (eye : ℕ × List ℕ) (x : OpenedEye) (front back : List OpenedEye) → named eye ≡ held_of x → IsPermutation (map named eyes) (map held_of (front ++ back))
    → IsPermutation (map named (eyes ++ eye ∷ [])) (map held_of (front ++ x ∷ back))
one_more eyes eye x front back same was =
    subst (λ ys. IsPermutation (map named (eyes ++ eye ∷ [])) ys) (sym (map-append held_of front (x ∷ back)))
    (subst (λ xs. IsPermutation xs (map held_of front ++ held_of x ∷ map held_of back)) (sym (map-append named eyes (eye ∷ []) ∙ ap (λ n. map named eyes ++ n ∷ []) same))
    (IsPermutation-trans (map named eyes ++ held_of x ∷ []) ((map held_of front ++ map held_of back) ++ held_of x ∷ []) (map held_of front ++ held_of x ∷ map held_of back)
    (IsPermutation-append (map named eyes) (map held_of front ++ map held_of back) (held_of x ∷ []) (held_of x ∷ []) (subst (IsPermutation (map named eyes)) (map-append held_of front back) was) (IsPermutation-refl (held_of x ∷ [])))
    (subst (λ xs. IsPermutation xs (map held_of front ++ held_of x ∷ map held_of back)) (sym (append_assoc (map held_of front) (map held_of back) (held_of x ∷ [])))
    (IsPermutation-append_right (map held_of front) (map held_of back ++ held_of x ∷ []) (held_of x ∷ map held_of back) (IsPermutation-append_comm (map held_of back) (held_of x ∷ []))))))

-- ---- numbers

one_distinct : (n : ℕ) → is_distinct (n ∷ []) ≡ true
unfolding is_distinct
one_distinct n = refl

-- a number that was not given is new among those given
pub new_number : (given : List ℕ) (eyes : List (ℕ × List ℕ)) (n : ℕ) → AllByRecursion (λ eye. Contains given eye.0) eyes → (Contains given n → ⊥) → is_distinct (map (λ (eye : ℕ × List ℕ). eye.0) eyes) ≡ true
    → (regions : List ℕ) → is_distinct (map (λ (eye : ℕ × List ℕ). eye.0) (eyes ++ (n, regions) ∷ [])) ≡ true
new_number given eyes n all new distinct regions =
    ap is_distinct (map-append (λ (eye : ℕ × List ℕ). eye.0) eyes ((n, regions) ∷ []))
    ∙ times_distinct (map (λ (eye : ℕ × List ℕ). eye.0) eyes ++ n ∷ []) (λ m. each m (nat_eq m n) refl)
  where
    none : (es : List (ℕ × List ℕ)) → AllByRecursion (λ eye. Contains given eye.0) es → list_any (nat_eq n) (map (λ (eye : ℕ × List ℕ). eye.0) es) ≡ false
    none [] all = refl
    none (e ∷ es) all = by (nat_eq n e.0) refl (none es all.1)
      where
        by : (b : Bool) → nat_eq n e.0 ≡ b → list_any (nat_eq n) (map (λ (eye : ℕ × List ℕ). eye.0) es) ≡ false → (b || list_any (nat_eq n) (map (λ (eye : ℕ × List ℕ). eye.0) es)) ≡ false
        by true h rest = absurd (new (subst (Contains given) (sym (eqb-true n e.0 h)) all.0))
        by false h rest = rest

    each : (m : ℕ) (b : Bool) → nat_eq m n ≡ b → times m (map (λ (eye : ℕ × List ℕ). eye.0) eyes ++ n ∷ []) ≤ 1
    each m true h =
        let e = eqb-true m n h in
        let z = absent_times m (map (λ (eye : ℕ × List ℕ). eye.0) eyes) (subst (λ k. list_any (nat_eq k) (map (λ (eye : ℕ × List ℕ). eye.0) eyes) ≡ false) (sym e) (none eyes all)) in
        let o = distinct_times (n ∷ []) (one_distinct n) m in
        let t = times-append m (map (λ (eye : ℕ × List ℕ). eye.0) eyes) (n ∷ []) in omega (arith, z, o, t)
    each m false h =
        let d = distinct_times (map (λ (eye : ℕ × List ℕ). eye.0) eyes) distinct m in
        let z = absent_times m (n ∷ []) (ap (λ b. b || false) h) in
        let t = times-append m (map (λ (eye : ℕ × List ℕ). eye.0) eyes) (n ∷ []) in omega (arith, d, z, t)

-- ---- names

contains_left : (xs ys : List ℕ) (n : ℕ) → Contains xs n → Contains (xs ++ ys) n
contains_left xs ys n there = Contains-from_any (λ x y e. eqb-true x y e) n (xs ++ ys) (list_any-append (nat_eq n) xs ys ∙ ap (λ b. b || list_any (nat_eq n) ys) (list_any-from_Contains nat_alike n xs there))

pub given_more : (given : List ℕ) (n : ℕ) (eyes : List (ℕ × List ℕ)) → AllByRecursion (λ eye. Contains given eye.0) eyes → (regions : List ℕ) → AllByRecursion (λ eye. Contains (given ++ n ∷ []) eye.0) (eyes ++ (n, regions) ∷ [])
given_more given n eyes all regions =
    all_append (λ eye. Contains (given ++ n ∷ []) eye.0) eyes ((n, regions) ∷ []) (all_map (λ eye. Contains given eye.0) (λ eye. Contains (given ++ n ∷ []) eye.0) (λ eye h. contains_left given (n ∷ []) eye.0 h) eyes all)
    (Contains-from_any (λ x y e. eqb-true x y e) n (given ++ n ∷ []) (list_any-append (nat_eq n) given (n ∷ []) ∙ or_right (list_any (nat_eq n) given) (list_any (nat_eq n) (n ∷ [])) (one_there n)), tt)
  where
    one_there : (n : ℕ) → list_any (nat_eq n) (n ∷ []) ≡ true
    one_there n = (each_there (n ∷ [])).0

-- a list that has all regions of parts has those of each
each_part : (some : List ℕ) (parts : List Part) → ((r : ℕ) → list_any (nat_eq r) (all_regions parts) ≡ true → Contains some r) → AllByRecursion (λ p. AllByRecursion (Contains some) (regions_of p)) parts
each_part some [] has = tt
each_part some (p ∷ parts) has = (
  all_map (λ r. list_any (nat_eq r) (regions_of p) ≡ true) (Contains some) (λ r h. has r (list_any-append (nat_eq r) (regions_of p) (all_regions parts) ∙ ap (λ b. b || list_any (nat_eq r) (all_regions parts)) h)) (regions_of p) (each_there (regions_of p)),
  each_part some parts (λ r h. has r (list_any-append (nat_eq r) (regions_of p) (all_regions parts) ∙ or_right (list_any (nat_eq r) (regions_of p)) (list_any (nat_eq r) (all_regions parts)) h)),
)

pub all_parts : (parts : List Part) → AllByRecursion (λ p. AllByRecursion (Contains (all_regions parts)) (regions_of p)) parts
all_parts parts = each_part (all_regions parts) parts (λ r h. Contains-from_any (λ x y e. eqb-true x y e) r (all_regions parts) h)

any_there : {A : Type 0} (P : A → Type 0) (x : A) (xs : List A) → Any P xs → Any P (x ∷ xs)
any_there P x xs any = (suc any.0, any.1, omega (arith, any.2), any.3, any.4)

any_front : {A : Type 0} (P : A → Type 0) (xs ys : List A) → Any P xs → Any P (xs ++ ys)
any_front P [] ys any = absurd (let low = any.2 in omega (arith, low))
any_front P (x ∷ xs) ys (zero, y, low, is, h) = (zero, y, omega arith, is, h)
any_front P (x ∷ xs) ys (suc k, y, low, is, h) = any_there P x (xs ++ ys) (any_front P xs ys (k, y, omega (arith, low), is, h))

in_part : (some : List ℕ) (parts : List Part) (r : ℕ) → AllByRecursion (λ p. AllByRecursion (Contains some) (regions_of p)) parts → list_any (nat_eq r) (all_regions parts) ≡ true
    → Any (λ p. Contains (regions_of p) r × AllByRecursion (Contains some) (regions_of p)) parts
in_part some [] r all there = absurd (true≢false (sym there))
in_part some (p ∷ parts) r all there = by (list_any (nat_eq r) (regions_of p)) refl (sym (list_any-append (nat_eq r) (regions_of p) (all_regions parts)) ∙ there) (λ h. in_part some parts r all.1 h)
  where
    by : (b : Bool) → list_any (nat_eq r) (regions_of p) ≡ b → (list_any (nat_eq r) (regions_of p) || list_any (nat_eq r) (all_regions parts)) ≡ true → (list_any (nat_eq r) (all_regions parts) ≡ true → Any (λ q. Contains (regions_of q) r × AllByRecursion (Contains some) (regions_of q)) parts)
        → Any (λ q. Contains (regions_of q) r × AllByRecursion (Contains some) (regions_of q)) (p ∷ parts)
    by true e h rest = (zero, p, omega arith, refl, (Contains-from_any (λ x y e. eqb-true x y e) r (regions_of p) e, all.0))
    by false e h rest = any_there (λ q. Contains (regions_of q) r × AllByRecursion (Contains some) (regions_of q)) p parts (rest (ap (λ b. b || list_any (nat_eq r) (all_regions parts)) (sym e) ∙ h))

-- an eye on all regions of parts names them wholly
pub names_all : (number : ℕ) (parts retired : List Part) → NamesWhole (parts ++ retired) (number, all_regions parts)
names_all number parts retired =
    all_map (λ r. list_any (nat_eq r) (all_regions parts) ≡ true) (λ r. Any (λ p. Contains (regions_of p) r × AllByRecursion (Contains (all_regions parts)) (regions_of p)) (parts ++ retired))
    (λ r h. any_front (λ p. Contains (regions_of p) r × AllByRecursion (Contains (all_regions parts)) (regions_of p)) parts retired (in_part (all_regions parts) parts r (all_parts parts) h)) (all_regions parts) (each_there (all_regions parts))

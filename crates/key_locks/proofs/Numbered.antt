-- Places and the numbers of those that are filled, as one changes.
use Rattle.std.proofs.Common.{◌≡◌, ◌≢◌, ◌⊎◌, ⊎_elim, inl, inr, ℕ, zero, suc, ◌+◌, ◌<◌, ◌≤◌, List, [], ◌∷◌, ◌++◌, length, replicate, Option, Some, None, slice_get, slice_set, slice_index_or, refl, sym, ap, ◌∙◌, subst, arith}
use Rattle.std.proofs.lemmas.List.{length-append}
use Rattle.fine_model.proofs.Ordered.Times.{times, times-none, times-append, times-same, times-other, times-tail}
use Rattle.fine_places.proofs.Lists.{decide}
use Rattle.key_locks.proofs.Held.{get_same, get_else}
use Rattle.key_locks.specs.Slots.{IsFilled, IsEmpty, here, number_filled, AreCounted, AreNumbered, ChangesAt, Empties, EachBy}

is_some : {A : Type 0} → Option A → ℕ
is_some None = 0
is_some (Some a) = 1

some_of : {A : Type 0} → A → Option A → A
some_of a None = a
some_of a (Some b) = b

pub no_items : (numbers : List ℕ) → length numbers ≡ 0 → numbers ≡ []
no_items [] e = refl
no_items (n ∷ numbers) e = absurd (omega (arith, e))

size_of_none : (T : Type 0) (n : ℕ) → length (replicate {A = Option T} n None) ≡ n
size_of_none T zero = refl
size_of_none T (suc n) = ap suc (size_of_none T n)

nowhere : (T : Type 0) (n k : ℕ) → here (slice_get (replicate {A = Option T} n None) k) ≡ 0
unfolding here
nowhere T zero k = refl
nowhere T (suc n) zero = refl
nowhere T (suc n) (suc k) = nowhere T n k

no_filled : (T : Type 0) (n : ℕ) → number_filled (replicate {A = Option T} n None) ≡ 0
unfolding number_filled
no_filled T zero = refl
no_filled T (suc n) = no_filled T n

-- a number behind the list
times_behind : (k n : ℕ) (numbers : List ℕ) → ((k ≡ n) × (times k (numbers ++ n ∷ []) ≡ times k numbers + 1)) ⊎ ((k ≢ n) × (times k (numbers ++ n ∷ []) ≡ times k numbers))
times_behind k n numbers = let a = times-append k numbers (n ∷ []) in let z = times-none k in ⊎_elim
    (λ (e : k ≡ n). inl (e, let s : times k (n ∷ []) ≡ times k [] + 1 = subst (λ j. times k (j ∷ []) ≡ times k [] + 1) e (times-same k []) in omega (arith, a, s, z)))
    (λ (ne : k ≢ n). inr (ne, let o = times-other k n [] ne in omega (arith, a, o, z)))
    (decide k n)

module _ {T : Type 0} where
  set_length : (l : List (Option T)) (k : ℕ) (b : Option T) → length (slice_set l k b) ≡ length l
  set_length [] k b = refl
  set_length (x ∷ xs) zero b = refl
  set_length (x ∷ xs) (suc k) b = ap suc (set_length xs k b)

  here_filled : (l : List (Option T)) (k : ℕ) (x : T) → IsFilled l k x → here (slice_get l k) ≡ 1
  unfolding here
  here_filled l k x e = ap here e

  here_empty : (l : List (Option T)) (k : ℕ) → IsEmpty l k → here (slice_get l k) ≡ 0
  unfolding here
  here_empty l k e = ap here e

  here_at_most : (o : Option (Option T)) → here o ≤ 1
  unfolding here
  here_at_most None = omega arith
  here_at_most (Some None) = omega arith
  here_at_most (Some (Some x)) = omega arith

  found : (o : Option (Option T)) → 1 ≤ here o → (x : T) × (o ≡ Some (Some x))
  unfolding here
  found None h = absurd (omega (arith, h))
  found (Some None) h = absurd (omega (arith, h))
  found (Some (Some x)) h = (x, refl)

  none_found : (l : List (Option T)) (k : ℕ) → k < length l → here (slice_get l k) ≡ 0 → IsEmpty l k
  unfolding here
  none_found [] k low h = absurd (omega (arith, low))
  none_found (None ∷ l) zero low h = refl
  none_found (Some x ∷ l) zero low h = absurd (omega (arith, h))
  none_found (y ∷ l) (suc k) low h = none_found l k (omega (arith, low)) h

  filled_within : (l : List (Option T)) (k : ℕ) (x : T) → IsFilled l k x → k < length l
  unfolding is_some
  filled_within [] k x e = absurd (let n = ap is_some e in omega arith)
  filled_within (y ∷ l) zero x e = omega arith
  filled_within (y ∷ l) (suc k) x e = let r = filled_within l k x e in omega (arith, r)

  one_value : (l : List (Option T)) (k : ℕ) (x y : T) → IsFilled l k x → IsFilled l k y → x ≡ y
  unfolding some_of
  one_value l k x y e f = ap (λ o. some_of x (some_of None o)) (sym e ∙ f)

  not_both : (l : List (Option T)) (k : ℕ) (x : T) → IsEmpty l k → IsFilled l k x → ⊥
  not_both l k x e f = let a = here_empty l k e in let b = here_filled l k x f in omega (arith, a, b)

  -- ---- how many are filled

  more_filled : (l : List (Option T)) (k : ℕ) (x : T) → IsEmpty l k → number_filled (slice_set l k (Some x)) ≡ number_filled l + 1
  unfolding number_filled here is_some
  more_filled [] k x e = absurd (let n = ap is_some e in omega arith)
  more_filled (None ∷ l) zero x e = omega arith
  more_filled (Some y ∷ l) zero x e = absurd (let n = ap here e in omega (arith, n))
  more_filled (None ∷ l) (suc k) x e = more_filled l k x e
  more_filled (Some y ∷ l) (suc k) x e = let r = more_filled l k x e in omega (arith, r)

  fewer_filled : (l : List (Option T)) (k : ℕ) (x : T) → IsFilled l k x → number_filled (slice_set l k None) + 1 ≡ number_filled l
  unfolding number_filled here is_some
  fewer_filled [] k x e = absurd (let n = ap is_some e in omega arith)
  fewer_filled (None ∷ l) zero x e = absurd (let n = ap here e in omega (arith, n))
  fewer_filled (Some y ∷ l) zero x e = omega arith
  fewer_filled (None ∷ l) (suc k) x e = fewer_filled l k x e
  fewer_filled (Some y ∷ l) (suc k) x e = let r = fewer_filled l k x e in omega (arith, r)

  as_filled : (l m : List (Option T)) → length m ≡ length l → ((k : ℕ) → here (slice_get m k) ≡ here (slice_get l k)) → number_filled m ≡ number_filled l
  unfolding number_filled here
  as_filled [] [] size same = refl
  as_filled [] (y ∷ m) size same = absurd (omega (arith, size))
  as_filled (x ∷ l) [] size same = absurd (omega (arith, size))
  as_filled (x ∷ l) (y ∷ m) size same = by x y (same 0) (as_filled l m (omega (arith, size)) (λ k. same (suc k)))
    where
      by : (a b : Option T) → here (Some b) ≡ here (Some a) → number_filled m ≡ number_filled l → number_filled (b ∷ m) ≡ number_filled (a ∷ l)
      by None None e rest = rest
      by None (Some b) e rest = absurd (omega (arith, e))
      by (Some a) None e rest = absurd (omega (arith, e))
      by (Some a) (Some b) e rest = omega (arith, rest)

  at_most_filled : (l : List (Option T)) → number_filled l ≤ length l
  unfolding number_filled
  at_most_filled [] = omega arith
  at_most_filled (None ∷ l) = let r = at_most_filled l in omega (arith, r)
  at_most_filled (Some x ∷ l) = let r = at_most_filled l in omega (arith, r)

  not_all_filled : (l : List (Option T)) (k : ℕ) → IsEmpty l k → number_filled l < length l
  unfolding number_filled here is_some
  not_all_filled [] k e = absurd (let n = ap is_some e in omega arith)
  not_all_filled (Some y ∷ l) zero e = absurd (let n = ap here e in omega (arith, n))
  not_all_filled (None ∷ l) zero e = let r = at_most_filled l in omega (arith, r)
  not_all_filled (None ∷ l) (suc k) e = let r = not_all_filled l k e in omega (arith, r)
  not_all_filled (Some y ∷ l) (suc k) e = let r = not_all_filled l k e in omega (arith, r)

  -- ---- the list of numbers goes with the places

  none_filled : (n : ℕ) → n ≡ 256 → (room : ℕ) → room ≡ 256 → AreNumbered {T = T} (replicate n None) [] room
  none_filled n is room reserved = record { all = size_of_none T n ∙ is; once = λ k. times-none k ∙ sym (nowhere T n k); as_many = sym (no_filled T n); reserved = reserved }

  pub new_numbered : (n : ℕ) (places : List (Option T)) (numbers : List ℕ) (room : ℕ) → n ≡ 256 → places ≡ replicate n None → numbers ≡ [] → room ≡ 256 → AreNumbered places numbers room
  new_numbered n places numbers room is all none reserved = subst (λ l. AreNumbered {T = T} l numbers room) (sym all) (subst (λ m. AreNumbered {T = T} (replicate n None) m room) (sym none) (none_filled n is room reserved))

  pub space_left : (places : List (Option T)) (numbers : List ℕ) (room k : ℕ) → AreNumbered places numbers room → IsEmpty places k → length numbers < room
  space_left places numbers room k are e = let n = not_all_filled places k e in let m = are.as_many in let a = are.all in let r = are.reserved in omega (arith, n, m, a, r)

  pub filled_one : (places : List (Option T)) (numbers : List ℕ) (room k : ℕ) (x : T) → AreNumbered places numbers room → IsEmpty places k → AreNumbered (slice_set places k (Some x)) (numbers ++ k ∷ []) room
  filled_one places numbers room k x are e = record {
    all = set_length places k (Some x) ∙ are.all;
    once = λ j. ⊎_elim
        (λ (s : (j ≡ k) × (times j (numbers ++ k ∷ []) ≡ times j numbers + 1)).
        let was : times j numbers ≡ 0 = are.once j ∙ here_empty places j (subst (IsEmpty places) (sym s.0) e) in
        let now : here (slice_get (slice_set places k (Some x)) j) ≡ 1 = here_filled (slice_set places k (Some x)) j x (ap (slice_get (slice_set places k (Some x))) s.0 ∙ get_same places k None (Some x) e) in
        let t = s.1 in omega (arith, was, now, t))
        (λ (o : (j ≢ k) × (times j (numbers ++ k ∷ []) ≡ times j numbers)). o.1 ∙ (are.once j ∙ ap here (sym (get_else places k j (Some x) o.0))))
        (times_behind j k numbers);
    as_many = let a = length-append numbers (k ∷ []) in let m = are.as_many in let n = more_filled places k x e in omega (arith, a, m, n);
    reserved = are.reserved;
  }

  -- the last number is that of a filled place
  pub last_filled : (places : List (Option T)) (numbers : List ℕ) (room k : ℕ) → AreNumbered places (numbers ++ k ∷ []) room → (x : T) × IsFilled places k x
  last_filled places numbers room k are = found (slice_get places k) (let o = are.once k in let a = times-append k numbers (k ∷ []) in let s = times-same k [] in omega (arith, o, a, s))

  pub emptied_one : (places : List (Option T)) (numbers : List ℕ) (room k : ℕ) (x : T) → AreNumbered places (numbers ++ k ∷ []) room → IsFilled places k x → AreNumbered (slice_set places k None) numbers room
  emptied_one places numbers room k x are e = record {
    all = set_length places k None ∙ are.all;
    once = λ j. ⊎_elim
        (λ (s : (j ≡ k) × (times j (numbers ++ k ∷ []) ≡ times j numbers + 1)).
        let was : times j (numbers ++ k ∷ []) ≡ 1 = are.once j ∙ here_filled places j x (subst (λ i. IsFilled places i x) (sym s.0) e) in
        let now : here (slice_get (slice_set places k None) j) ≡ 0 = here_empty (slice_set places k None) j (ap (slice_get (slice_set places k None)) s.0 ∙ get_same places k (Some x) None e) in
        let t = s.1 in omega (arith, was, now, t))
        (λ (o : (j ≢ k) × (times j (numbers ++ k ∷ []) ≡ times j numbers)). sym o.1 ∙ (are.once j ∙ ap here (sym (get_else places k j None o.0))))
        (times_behind j k numbers);
    as_many = let a = length-append numbers (k ∷ []) in let m = are.as_many in let n = fewer_filled places k x e in omega (arith, a, m, n);
    reserved = are.reserved;
  }

  pub empties : (places : List (Option T)) (numbers : List ℕ) (room k : ℕ) (x : T) → AreNumbered places (numbers ++ k ∷ []) room → IsFilled places k x → Empties places (slice_set places k None) k x
  empties places numbers room k x are e = record {
    within = let l = filled_within places k x e in let a = are.all in omega (arith, l, a);
    was = e;
    gone = refl;
    fewer = let n = fewer_filled places k x e in omega (arith, n);
  }

  -- without a number, all places are empty
  pub all_empty : (places : List (Option T)) (room k : ℕ) → AreNumbered places [] room → k < 256 → IsEmpty places k
  all_empty places room k are low = none_found places k (let a = are.all in omega (arith, a, low)) (sym (are.once k) ∙ times-none k)

  -- the numbers stay where the places filled stay
  pub same_filled : (places places' : List (Option T)) (numbers : List ℕ) (room : ℕ) → AreNumbered places numbers room → length places' ≡ length places → ((k : ℕ) → here (slice_get places' k) ≡ here (slice_get places k)) → AreNumbered places' numbers room
  same_filled places places' numbers room are size same = record { all = size ∙ are.all; once = λ k. are.once k ∙ sym (same k); as_many = are.as_many ∙ sym (as_filled places places' size same); reserved = are.reserved }

  pub rewritten_one : (places : List (Option T)) (numbers : List ℕ) (room k : ℕ) (x y : T) → AreNumbered places numbers room → IsFilled places k x → AreNumbered (slice_set places k (Some y)) numbers room
  rewritten_one places numbers room k x y are e = same_filled places (slice_set places k (Some y)) numbers room are (set_length places k (Some y))
      (λ j. ⊎_elim
      (λ (s : j ≡ k). here_filled (slice_set places k (Some y)) j y (ap (slice_get (slice_set places k (Some y))) s ∙ get_same places k (Some x) (Some y) e) ∙ sym (here_filled places j x (subst (λ i. IsFilled places i x) (sym s) e)))
      (λ (o : j ≢ k). ap here (get_else places k j (Some y) o))
      (decide j k))

  past : (l : List (Option T)) (j : ℕ) → length l ≤ j → here (slice_get l j) ≡ 0
  unfolding here
  past [] j h = refl
  past (y ∷ l) zero h = absurd (omega (arith, h))
  past (y ∷ l) (suc j) h = past l j (omega (arith, h))

  behind : (l : List (Option T)) (j : ℕ) → slice_get l j ≡ None → length l ≤ j
  unfolding is_some
  behind [] j e = omega arith
  behind (y ∷ l) zero e = absurd (let n = ap is_some e in omega (arith, n))
  behind (y ∷ l) (suc j) e = let r = behind l j e in omega (arith, r)

  -- ---- as the calls have it

  same_place : (l now : List (Option T)) (j k : ℕ) (o : Option (Option T)) → l ≡ now → j ≡ k → slice_get now k ≡ o → slice_get l j ≡ o
  same_place l now j k o e f h = (λ i. slice_get (e i) (f i)) ∙ h

  pub space_now : (l now : List (Option T)) (numbers : List ℕ) (len room k : ℕ) → AreNumbered l numbers room → l ≡ now → IsEmpty now k → len ≡ length numbers → len < room
  space_now l now numbers len room k are is e size = let s = space_left l numbers room k are (same_place l now k k (Some None) is refl e) in omega (arith, s, size)

  pub filled_now : (l now : List (Option T)) (numbers numbers' : List ℕ) (room room' j k : ℕ) (x : T) → AreNumbered l numbers room → l ≡ now → IsEmpty now k → j ≡ k → numbers' ≡ numbers ++ k ∷ [] → room' ≡ room → AreNumbered (slice_set l j (Some x)) numbers' room'
  filled_now l now numbers numbers' room room' j k x are is e same behind capacity =
      subst (λ i. AreNumbered (slice_set l i (Some x)) numbers' room') (sym same)
      (subst (λ m. AreNumbered (slice_set l k (Some x)) m room') (sym behind)
      (subst (AreNumbered (slice_set l k (Some x)) (numbers ++ k ∷ [])) (sym capacity) (filled_one l numbers room k x are (same_place l now k k (Some None) is refl e))))

  read_filled : (l : List (Option T)) (k : ℕ) (x : T) (d : Option T) → IsFilled l k x → slice_index_or l k d ≡ Some x
  unfolding is_some some_of
  read_filled [] k x d e = absurd (let n = ap is_some e in omega arith)
  read_filled (y ∷ l) zero x d e = ap (some_of None) e
  read_filled (y ∷ l) (suc k) x d e = read_filled l k x d e

  pub value_there : (l now : List (Option T)) (j k : ℕ) (x y : T) (d : Option T) → l ≡ now → j ≡ k → IsFilled now k x → d ≡ slice_index_or l j d → d ≡ Some y → IsFilled now k y
  value_there l now j k x y d is same h read value = h ∙ ap Some (sym (read_filled now k x d h) ∙ (sym (λ i. slice_index_or (is i) (same i) d) ∙ (sym read ∙ value)))

  listed : (l : List (Option T)) (numbers numbers' : List ℕ) (room n : ℕ) → AreNumbered l numbers room → numbers ≡ numbers' ++ n ∷ [] → (x : T) × IsFilled l n x
  listed l numbers numbers' room n are is = last_filled l numbers' room n (subst (λ m. AreNumbered l m room) is are)

  pub never_none : (l : List (Option T)) (numbers numbers' : List ℕ) (room n j : ℕ) (d : Option T) → AreNumbered l numbers room → numbers ≡ numbers' ++ n ∷ [] → j ≡ n → d ≡ slice_index_or l j d → None ≡ d → ⊥
  unfolding is_some
  never_none l numbers numbers' room n j d are is same read none =
      let f = listed l numbers numbers' room n are is in
      let e = ap is_some (none ∙ (read ∙ (ap (λ i. slice_index_or l i d) same ∙ read_filled l n f.0 d f.1))) in
      omega (arith, e)

  pub emptied_now : (l : List (Option T)) (numbers numbers' : List ℕ) (room room' n j : ℕ) (o : Option T) → AreNumbered l numbers room → numbers ≡ numbers' ++ n ∷ [] → j ≡ n → o ≡ None → room' ≡ room → AreNumbered (slice_set l j o) numbers' room'
  emptied_now l numbers numbers' room room' n j o are is same none capacity =
      let f = listed l numbers numbers' room n are is in
      subst (λ i. AreNumbered (slice_set l i o) numbers' room') (sym same)
      (subst (λ y. AreNumbered (slice_set l n y) numbers' room') (sym none)
      (subst (AreNumbered (slice_set l n None) numbers') (sym capacity) (emptied_one l numbers' room n f.0 (subst (λ m. AreNumbered l m room) is are) f.1)))

  pub emptied_is : (l now : List (Option T)) (numbers numbers' : List ℕ) (room n j i : ℕ) (o d : Option T) (x : T) → AreNumbered l numbers room → l ≡ now → numbers ≡ numbers' ++ n ∷ [] → j ≡ n → i ≡ n → o ≡ None → d ≡ slice_index_or l j d → Some x ≡ d
      → Empties now (slice_set l j o) i x
  unfolding some_of
  emptied_is l now numbers numbers' room n j i o d x are is_now is same again none read value =
      let f = listed l numbers numbers' room n are is in
      let e : Some x ≡ Some f.0 = value ∙ (read ∙ (ap (λ i. slice_index_or l i d) same ∙ read_filled l n f.0 d f.1)) in
      let eq : x ≡ f.0 = ap (some_of x) e in
      let here_is = subst (λ y. IsFilled l n y) (sym eq) f.1 in
      subst (λ a. Empties a (slice_set l j o) i x) is_now
      (subst (λ a. Empties l (slice_set l a o) i x) (sym same)
      (subst (λ y. Empties l (slice_set l n y) i x) (sym none)
      (subst (λ a. Empties l (slice_set l n None) a x) (sym again) (empties l numbers' room n x (subst (λ m. AreNumbered l m room) is are) here_is))))

  pub all_empty_now : (l now : List (Option T)) (numbers : List ℕ) (room len : ℕ) → AreNumbered l numbers room → l ≡ now → len ≡ length numbers → len ≡ 0 → (k : ℕ) → k < 256 → IsEmpty now k
  all_empty_now l now numbers room len are is size none k low = ap (λ m. slice_get m k) (sym is) ∙ all_empty l room k (subst (λ m. AreNumbered l m room) (no_items numbers (sym size ∙ none)) are) low

  pub rewritten_now : (l now : List (Option T)) (numbers : List ℕ) (room j k : ℕ) (x y : T) (o : Option T) → AreNumbered l numbers room → l ≡ now → IsFilled now k x → j ≡ k → o ≡ Some y → AreNumbered (slice_set l j o) numbers room
  rewritten_now l now numbers room j k x y o are is h same value =
      subst (λ i. AreNumbered (slice_set l i o) numbers room) (sym same)
      (subst (λ z. AreNumbered (slice_set l k z) numbers room) (sym value) (rewritten_one l numbers room k x y are (same_place l now k k (Some (Some x)) is refl h)))

  -- ---- each of them

  -- Those whose numbers are left are as they were, and the others were changed.
  pub record SoFar (P : T → T → Type 0) (left : List ℕ) (places places' : List (Option T)) : Type 0 where
    pub size : length places' ≡ length places
    pub once : (k : ℕ) → times k left ≤ here (slice_get places k)
    pub empty : (k : ℕ) → IsEmpty places k → IsEmpty places' k
    pub stays : (k : ℕ) (x : T) → 1 ≤ times k left → IsFilled places k x → IsFilled places' k x
    pub done : (k : ℕ) (x : T) → times k left ≡ 0 → IsFilled places k x → (y : T) × IsFilled places' k y × P x y

  module _ (P : T → T → Type 0) where
    pub none_done : (numbers : List ℕ) (places : List (Option T)) → AreCounted numbers places → SoFar P numbers places places
    none_done numbers places are = record {
      size = refl;
      once = λ k. let e = are k in omega (arith, e);
      empty = λ k e. e;
      stays = λ k x h e. e;
      done = λ k x none e. absurd (let a = are k in let b = here_filled places k x e in omega (arith, a, b, none));
    }

    pub next_filled : (n j : ℕ) (left whole : List ℕ) (places now : List (Option T)) → SoFar P whole places now → whole ≡ n ∷ left → j ≡ n → (x : T) × IsFilled now j x
    next_filled n j left whole places now so_far is same =
        let s = times-same n left in
        let t = ap (times n) is in
        let at_least : 1 ≤ times n whole = omega (arith, s, t) in
        let f = found (slice_get places n) (let a = so_far.once n in omega (arith, a, at_least)) in
        (f.0, ap (slice_get now) same ∙ so_far.stays n f.0 at_least f.1)

    each_more : (n : ℕ) (left : List ℕ) (places now : List (Option T)) (x y : T) → SoFar P (n ∷ left) places now → IsFilled now n x → P x y → SoFar P left places (slice_set now n (Some y))
    each_more n left places now x y so_far h p = record {
      size = set_length now n (Some y) ∙ so_far.size;
      once = λ k. let a = so_far.once k in let t = times-tail k n left in omega (arith, a, t);
      empty = λ k e. ⊎_elim
          (λ (s : k ≡ n). absurd (not_both now n x (subst (IsEmpty now) s (so_far.empty k e)) h))
          (λ (o : k ≢ n). get_else now n k (Some y) o ∙ so_far.empty k e)
          (decide k n);
      stays = λ k z more e. ⊎_elim
          (λ (s : k ≡ n). absurd (let m : 1 ≤ times n left = subst (λ j. 1 ≤ times j left) s more in let a = so_far.once n in let b = here_at_most (slice_get places n) in let t = times-same n left in omega (arith, m, a, b, t)))
          (λ (o : k ≢ n). get_else now n k (Some y) o ∙ so_far.stays k z (let t = times-tail k n left in omega (arith, t, more)) e)
          (decide k n);
      done = λ k z none e. ⊎_elim
          (λ (s : k ≡ n).
          let t = times-same n left in
          let same : z ≡ x = one_value now n z x (so_far.stays n z (omega (arith, t)) (subst (λ j. IsFilled places j z) s e)) h in
          (y, ap (slice_get (slice_set now n (Some y))) s ∙ get_same now n (Some x) (Some y) h, subst (λ v. P v y) (sym same) p))
          (λ (o : k ≢ n). let d = so_far.done k z (times-other k n left o ∙ none) e in (d.0, get_else now n k (Some y) o ∙ d.1, d.2))
          (decide k n);
    }

    pub one_changed : (n j : ℕ) (left whole : List ℕ) (places now now' : List (Option T)) → SoFar P whole places now → whole ≡ n ∷ left → j ≡ n → ChangesAt P j now now' → SoFar P left places now'
    one_changed n j left whole places now now' so_far is same c =
        subst (SoFar P left places) (sym (c.is ∙ ap (λ i. slice_set now i (Some c.new)) same))
        (each_more n left places now c.old c.new (subst (λ m. SoFar P m places now) is so_far) (subst (λ i. IsFilled now i c.old) same c.was) c.by)

    pub all_changed : (left : List ℕ) (places now : List (Option T)) → SoFar P left places now → left ≡ [] → EachBy P places now
    all_changed left places now so_far none = record { empty = so_far.empty; filled = λ k x e. so_far.done k x (ap (times k) none ∙ times-none k) e }

    -- the same places are filled
    pub each_filled : (places now : List (Option T)) → length now ≡ length places → EachBy P places now → (k : ℕ) → here (slice_get now k) ≡ here (slice_get places k)
    each_filled places now size by k = go (slice_get places k) refl
      where
        go : (o : Option (Option T)) → slice_get places k ≡ o → here (slice_get now k) ≡ here (slice_get places k)
        go None e = let b = behind places k e in past now k (omega (arith, b, size)) ∙ sym (past places k b)
        go (Some None) e = here_empty now k (by.empty k e) ∙ sym (here_empty places k e)
        go (Some (Some x)) e = let f = by.filled k x e in here_filled now k f.0 f.1 ∙ sym (here_filled places k x e)

    pub still_numbered : (places now : List (Option T)) (numbers : List ℕ) (room : ℕ) → AreNumbered places numbers room → length now ≡ length places → EachBy P places now → AreNumbered now numbers room
    still_numbered places now numbers room are size by = same_filled places now numbers room are size (each_filled places now size by)

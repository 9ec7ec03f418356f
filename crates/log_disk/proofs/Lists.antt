-- Lists that are seen through a function, and what holds of all or some of their elements.
use Rattle.std.proofs.Common.{◌≡◌, ℕ, ◌+◌, ◌<◌, Bool, true, false, cond, List, [], ◌∷◌, ◌++◌, length, get_or, take, set, map, refl, sym, ap, ◌∙◌, arith}
use Rattle.std.specs.Prelude.{Contains, filter}
use Rattle.std.specs.List.{AllByRecursion}
use Rattle.std.proofs.lemmas.List.{map-set, set-get_or, take-map, map_more, map_push, take_more_set, get_or_append_left, get_or_push, length-append}

-- an element of the first of two lists, and the last
pub contains_left : {A : Type 0} (xs ys : List A) (x : A) → Contains xs x → Contains (xs ++ ys) x
contains_left xs ys x in' = (in'.0, omega (arith, in'.1, length-append xs ys), get_or_append_left xs ys x in'.0 in'.1 ∙ in'.2)

pub contains_last : {A : Type 0} (xs : List A) (x : A) → Contains (xs ++ x ∷ []) x
contains_last xs x = (length xs, omega (arith, length-append xs (x ∷ [])), get_or_push xs x x (length xs) refl)

module _ {A : Type 0} (P : A → Type 0) where
  -- one more element, a weaker fact, and fewer elements
  pub all_push : (xs : List A) (x : A) → AllByRecursion P xs → P x → AllByRecursion P (xs ++ x ∷ [])
  all_push [] x all p = (p, tt)
  all_push (y ∷ xs) x all p = (all.0, all_push xs x all.1 p)

  pub all_weaker : (Q : A → Type 0) → ((x : A) → P x → Q x) → (xs : List A) → AllByRecursion P xs → AllByRecursion Q xs
  all_weaker Q each [] all = tt
  all_weaker Q each (x ∷ xs) all = (each x all.0, all_weaker Q each xs all.1)

  pub all_filter : (p : A → Bool) (xs : List A) → AllByRecursion P xs → AllByRecursion P (filter p xs)
  all_filter p [] all = tt
  all_filter p (x ∷ xs) all = by (p x) (filter p xs) (all_filter p xs all.1)
    where
      by : (b : Bool) (ys : List A) → AllByRecursion P ys → AllByRecursion P (cond b (x ∷ ys) ys)
      by true ys rest = (all.0, rest)
      by false ys rest = rest

-- another element in place of one that looks the same
pub map_set_same : {A B : Type 0} (f : A → B) (xs : List A) (i : ℕ) (x d : A) → f x ≡ f (get_or xs i d) → map f (set xs i x) ≡ map f xs
map_set_same f xs i x d same =
    map-set f xs i x ∙ ap (set (map f xs) i) same ∙ sym (map-set f xs i (get_or xs i d)) ∙ ap (map f) (set-get_or xs i d)

-- One more element was written, so that g sees of it what f saw before.
pub map_take_set : {A B : Type 0} (f g : A → B) (xs : List A) (all : List B) (i : ℕ) (x d : A) → i < length xs → map f xs ≡ all
    → map g (take i xs) ≡ take i all → g x ≡ f (get_or xs i d) → map g (take (i + 1) (set xs i x)) ≡ take (i + 1) all
map_take_set f g xs all i x d in' same sofar now =
    ap (map g) (take_more_set xs i x in') ∙ map_push g (take i xs) x
    ∙ ap (λ front. front ++ g x ∷ []) (sofar ∙ ap (take i) (sym same) ∙ take-map f i xs)
    ∙ ap (λ z. map f (take i xs) ++ z ∷ []) now
    ∙ sym (map_more f xs i d in') ∙ sym (take-map f (i + 1) xs) ∙ ap (take (i + 1)) same

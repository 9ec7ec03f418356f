-- Lists cut at a place, and pairs and keys in order round it.
use Rattle.std.proofs.Common.{◌≡◌, ℕ, zero, suc, ◌<◌, true, List, [], ◌∷◌, ◌++◌, length, drop, slice_get, refl, ap, ◌∙◌, Some, arith, inr, option_map}
use Rattle.std.specs.Prelude.{unwrap_or}
use Rattle.std.specs.List.{AllByRecursion}
use Rattle.std.proofs.lemmas.Option.{slice_get-map}
use Rattle.fine_model.specs.Map.{Pair, is_below, is_ascending}
use Rattle.fine_model.specs.Pushed.{key_at}
use Rattle.fine_model.proofs.Ordered.Order.{AllBelow, AllAbove, keys_of, above_first}
use Rattle.fine_model.proofs.Ordered.Sets.{ascending-tail}
use Rattle.fine_model.proofs.Trees.Among.{tail_ascends, all_above_first}
use Rattle.fine_model.proofs.Ordered.Zip.{all_right}

-- a list round the item at a place
pub record Parted {A : Type 0} (n : ℕ) (xs : List A) : Type 0 where
  pub front : List A
  pub item : A
  pub back : List A
  pub is : xs ≡ front ++ item ∷ back
  pub many : length front ≡ n
  pub at : slice_get xs n ≡ Some item
  pub dropped : drop n xs ≡ item ∷ back
  pub dropped_more : drop (suc n) xs ≡ back

pub parted : {A : Type 0} (n : ℕ) (xs : List A) → n < length xs → Parted n xs
parted n [] h = absurd (omega (arith, h))
parted zero (x ∷ xs) h = record { front = []; item = x; back = xs; is = refl; many = refl; at = refl; dropped = refl; dropped_more = refl }
parted (suc n) (x ∷ xs) h =
    let p = parted n xs (omega (arith, h)) in
    record { front = x ∷ p.front; item = p.item; back = p.back; is = ap (λ ys. x ∷ ys) p.is; many = ap suc p.many; at = p.at; dropped = p.dropped; dropped_more = p.dropped_more }

pub key_at-is : (pairs : List Pair) (n : ℕ) (p : Pair) → slice_get pairs n ≡ Some p → key_at pairs n ≡ p.0
key_at-is pairs n p is = ap (λ o. unwrap_or o []) (slice_get-map (λ q. q.0) pairs n ∙ ap (option_map (λ q. q.0)) is)

-- ascending pairs round one
pub front_below : (front : List Pair) (p : Pair) (back : List Pair) → is_ascending (keys_of (front ++ p ∷ back)) ≡ true → AllBelow p.0 front
front_below [] p back up = tt
front_below (x ∷ front) p back up =
    let a = all_right (λ q. is_below x.0 q.0 ≡ true) front (p ∷ back) (above_first x.0 x (front ++ p ∷ back) up (inr refl)) in
    (a.0, front_below front p back (ascending-tail x (front ++ p ∷ back) up))

pub ascending_behind : (front : List Pair) (p : Pair) (back : List Pair) → is_ascending (keys_of (front ++ p ∷ back)) ≡ true → is_ascending (keys_of (p ∷ back)) ≡ true
ascending_behind [] p back up = up
ascending_behind (x ∷ front) p back up = ascending_behind front p back (ascending-tail x (front ++ p ∷ back) up)

pub back_above : (front : List Pair) (p : Pair) (back : List Pair) → is_ascending (keys_of (front ++ p ∷ back)) ≡ true → AllAbove p.0 back
back_above front p back up = above_first p.0 p back (ascending_behind front p back up) (inr refl)

-- ascending keys round one
pub keys_front : (front : List (List ℕ)) (k : List ℕ) (back : List (List ℕ)) → is_ascending (front ++ k ∷ back) ≡ true → AllByRecursion (λ s. is_below s k ≡ true) front
keys_front [] k back up = tt
keys_front (x ∷ front) k back up =
    let a = all_right (λ s. is_below x s ≡ true) front (k ∷ back) (all_above_first x (front ++ k ∷ back) up) in
    (a.0, keys_front front k back (tail_ascends x (front ++ k ∷ back) up))

pub all_both : {A : Type 0} (P Q R : A → Type 0) (join : (x : A) → P x → Q x → R x) (xs : List A) → AllByRecursion P xs → AllByRecursion Q xs → AllByRecursion R xs
all_both P Q R join [] ps qs = tt
all_both P Q R join (x ∷ xs) ps qs = (join x ps.0 qs.0, all_both P Q R join xs ps.1 qs.1)

-- What lists that are equal begin with, and go on with.
use Rattle.std.proofs.Common.{◌≡◌, List, [], ◌∷◌}

pub head_same : {A : Type 0} (x y : A) (xs ys : List A) → x ∷ xs ≡ y ∷ ys → x ≡ y
head_same x y xs ys e = cc

pub tail_same : {A : Type 0} (x y : A) (xs ys : List A) → x ∷ xs ≡ y ∷ ys → xs ≡ ys
tail_same x y xs ys e = cc

pub not_empty : {A : Type 0} (x : A) (xs : List A) → x ∷ xs ≡ [] → ⊥
not_empty x xs e = cc

-- What the origin of a log tells of the disk that it is of.
use Rattle.std.proofs.Common.{◌≡◌, ℕ, List, [], ◌∷◌, ◌++◌, Option, Some, None, refl, ap, subst}
use Rattle.std.specs.Prelude.{map, option_map}
use Rattle.log_disk.specs.Disk.{BothTold, Disk, HasRisen, Moment, Span, Told}
use Rattle.log_disk.specs.Moments.{Continues, ContinuesOn}
use Rattle.fine_model.specs.declared.law.Moment.{Moment as OriginMoment}
use Rattle.fine_model.specs.declared.law.Origin.{Origin}
use Rattle.epoch_room.specs.Meaning.{at_origin, moments_of, origin_of, span_at_origin}

-- a function that keeps elements apart keeps lists apart
apart : {A B : Type 0} (f : A → B) → ((x y : A) → f x ≡ f y → x ≡ y) → (xs ys : List A) → map f xs ≡ map f ys → xs ≡ ys
apart f one [] [] e = refl
apart {A} {B} f one [] (y ∷ ys) e = absurd (let x : ◌≡◌ {A = List B} [] (f y ∷ map f ys) = e in cc)
apart {A} {B} f one (x ∷ xs) [] e = absurd (let x : ◌≡◌ {A = List B} (f x ∷ map f xs) [] = e in cc)
apart {A} {B} f one (x ∷ xs) (y ∷ ys) e =
    let first : f x ≡ f y = cc in
    let rest : map f xs ≡ map f ys = cc in
    let heads : x ≡ y = one x y first in
    let tails : xs ≡ ys = apart f one xs ys rest in
    λ i. heads i ∷ tails i

-- so is it with the last element of a list
none_more : {A : Type 0} (ys : List A) (b : A) → [] ≡ ys ++ b ∷ [] → ⊥
none_more {A} [] b e = let x : ◌≡◌ {A = List A} [] (b ∷ []) = e in cc
none_more {A} (y ∷ ys) b e = let x : ◌≡◌ {A = List A} [] (y ∷ (ys ++ b ∷ [])) = e in cc

last_apart : {A : Type 0} (xs ys : List A) (a b : A) → xs ++ a ∷ [] ≡ ys ++ b ∷ [] → (xs ≡ ys) × (a ≡ b)
last_apart {A} [] [] a b e = let last : a ≡ b = cc in (refl, last)
last_apart {A} [] (y ∷ ys) a b e = absurd (let rest : [] ≡ ys ++ b ∷ [] = cc in none_more ys b rest)
last_apart {A} (x ∷ xs) [] a b e = absurd (let rest : [] ≡ xs ++ a ∷ [] = cc in none_more xs a rest)
last_apart {A} (x ∷ xs) (y ∷ ys) a b e =
    let first : x ≡ y = cc in
    let rest : xs ++ a ∷ [] ≡ ys ++ b ∷ [] = cc in
    let both = last_apart xs ys a b rest in
    (λ i. first i ∷ both.0 i, both.1)

-- ---- moments in the words of the model

span_same : (x y : Span) → span_at_origin x ≡ span_at_origin y → x ≡ y
span_same x y e = λ i. record { region = (e i).region; from = (e i).from; end = (e i).end }

moment_same : (x y : Moment) → at_origin x ≡ at_origin y → x ≡ y
moment_same x y e = let spans : x.unsynced ≡ y.unsynced = apart span_at_origin span_same x.unsynced y.unsynced (λ i. (e i).unsynced) in λ i. record { synced = (e i).synced; unsynced = spans i }

told_moments : (s t : Told) → s.bytes ≡ t.bytes → moments_of s ≡ moments_of t → s ≡ t
told_moments s t bytes moments =
    let both = last_apart s.past t.past s.present t.present (apart at_origin moment_same (s.past ++ s.present ∷ []) (t.past ++ t.present ∷ []) moments) in
    λ i. record { bytes = bytes i; past = both.0 i; present = both.1 i }

told_by : (s t : Option Told) → option_map (λ (x : Told). x.bytes) s ≡ option_map (λ (x : Told). x.bytes) t → option_map moments_of s ≡ option_map moments_of t → s ≡ t
told_by None None bytes moments = refl
told_by None (Some t) bytes moments = absurd (let x : ◌≡◌ {A = Option (List (List ℕ))} None (Some t.bytes) = bytes in cc)
told_by (Some s) None bytes moments = absurd (let x : ◌≡◌ {A = Option (List (List ℕ))} (Some s.bytes) None = bytes in cc)
told_by (Some s) (Some t) bytes moments =
    let same_bytes : s.bytes ≡ t.bytes = one_image s.bytes t.bytes bytes in
    let same_moments : moments_of s ≡ moments_of t = one_list (moments_of s) (moments_of t) moments in
    ap (λ (x : Told). Some x) (told_moments s t same_bytes same_moments)
  where
    one_image : (a b : List (List ℕ)) → ◌≡◌ {A = Option (List (List ℕ))} (Some a) (Some b) → a ≡ b
    one_image a b e = cc

    one_list : (a b : List OriginMoment) → ◌≡◌ {A = Option (List OriginMoment)} (Some a) (Some b) → a ≡ b
    one_list a b e = cc

-- ---- two disks of one origin

-- they tell the same
pub tells_same : (a b : Disk) → origin_of a ≡ origin_of b → a.told ≡ b.told
unfolding origin_of
tells_same a b e = told_by a.told b.told (ap (λ (o : Origin). o.image) e) (ap (λ (o : Origin). o.moments) e)

-- a disk that goes on from the one goes on from the other
pub continues_same : (a b now : Disk) → origin_of a ≡ origin_of b → ContinuesOn a now → ContinuesOn b now
continues_same a b now e on = subst (λ t. BothTold Continues t now.told) (tells_same a b e) on

-- and a count that rose since the one rose since the other
pub risen_same : (a b now : Disk) → origin_of a ≡ origin_of b → HasRisen a.faults now.faults → HasRisen b.faults now.faults
unfolding origin_of
risen_same a b now e rose = subst (λ n. HasRisen n now.faults) (ap (λ (o : Origin). o.faults) e) rose

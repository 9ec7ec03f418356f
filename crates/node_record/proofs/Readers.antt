-- What is read is spelled so, and what is spelled so is read: the laws of readers, and of readers made of others.
use Rattle.std.proofs.Common.{◌≡◌, ℕ, zero, suc, ◌+◌, ◌^◌, ◌<◌, ◌≤◌, Bool, true, false, cond, ltb, List, [], ◌∷◌, ◌++◌, length, get_or, take, drop, Option, Some, None, refl, sym, ap, subst, ◌∙◌, append_assoc, take-append-drop, arith, inl, inr, length-append}
use Rattle.std.specs.List.{flat_map, AllByRecursion}
use Rattle.std.specs.Int.{Width, w16, w32, w64, byte_len, from_be_bytes, to_be_bytes}
use Rattle.std.proofs.lemmas.Bool.{cases_lt, ltb-false, le-ltb}
use Rattle.std.proofs.lemmas.List.{take_at, drop_at, length-take, get_or-drop, get_or-take, get_or_past}
use Rattle.std.proofs.lemmas.List.Concat.{flat_map-cons}
use Rattle.std.proofs.lemmas.Nat.{be_bytes_2, be_bytes_4, be_bytes_8, from_be_bytes-to_be_bytes_2, from_be_bytes-to_be_bytes_4, from_be_bytes-to_be_bytes_8}
use Rattle.node_record.specs.Reading.{◌>>=◌, only, text_at, byte_at, number_at, items_at}

abbrev pub IsBytes : List ℕ → Type 0
IsBytes bytes = (i : ℕ) → get_or bytes i 0 < 256

pub IsBytes-drop : (n : ℕ) (bytes : List ℕ) → IsBytes bytes → IsBytes (drop n bytes)
IsBytes-drop n bytes h i = rw get_or-drop (h (n + i))

pub IsBytes-take : (n : ℕ) (bytes : List ℕ) → IsBytes bytes → IsBytes (take n bytes)
IsBytes-take n bytes h i =
    elim (cases_lt i n) [
      | inl lt ↦ rw (get_or-take n bytes i 0 lt) (h i)
      | inr le ↦ rw (get_or_past (take n bytes) i 0 (omega (arith, length-take n bytes))) (omega arith)
    ]

-- the value of a step that did not fail
pub bind_some : {A B : Type 0} (r : Option A) (f : A → Option B) (y : B) → (r >>= f) ≡ Some y → (x : A) × (r ≡ Some x) × (f x ≡ Some y)
bind_some (Some x) f y e = (x, refl, e)
bind_some None f y e = absurd cc

-- a value and the bytes behind it
abbrev pub found : {A : Type 0} → A → List ℕ → Option (A × List ℕ)
found x rest = Some (x, rest)

abbrev made : {A : Type 0} → A → Option A
made x = Some x

pub some_is : {A : Type 0} (x y : A) → made x ≡ made y → x ≡ y
some_is x y e = cc

-- a test that was passed
pub only_some : {A : Type 0} (test : A → Bool) (r : Option (A × List ℕ)) (y : A × List ℕ) → only test r ≡ Some y → (r ≡ Some y) × (test y.0 ≡ true)
only_some {A} test (Some x) y e = by (test x.0) refl e
  where
    by : (b : Bool) → test x.0 ≡ b → cond b (Some x) None ≡ Some y → (made x ≡ Some y) × (test y.0 ≡ true)
    by true is e = let same : x ≡ y = some_is x y e in (e, subst (λ (z : A × List ℕ). test z.0 ≡ true) same is)
    by false is e = absurd cc
only_some test None y e = absurd cc

pub only_again : {A : Type 0} (test : A → Bool) (x : A) (rest : List ℕ) (r : Option (A × List ℕ)) → r ≡ Some (x, rest) → test x ≡ true → only test r ≡ Some (x, rest)
only_again {A} test x rest r is passed = ap (λ (read : Option (A × List ℕ)). only test read) is ∙ ap (λ b. cond b (made (x, rest)) None) passed

-- what a reader took from the front
pub record Takes (bytes text rest : List ℕ) : Type 0 where
  pub parts : bytes ≡ text ++ rest
  pub rest_fits : IsBytes rest

pub Takes-then : (a x b y c : List ℕ) → Takes a x b → Takes b y c → Takes a (x ++ y) c
Takes-then a x b y c p q = record { parts = p.parts ∙ ap (λ (t : List ℕ). x ++ t) q.parts ∙ sym (append_assoc x y c); rest_fits = q.rest_fits }

-- A reader of what f spells, within bounds.
pub record IsReader {A : Type 0} (one : List ℕ → Option (A × List ℕ)) (f : A → List ℕ) (P : A → Type 0) : Type 0 where
  pub takes : (bytes : List ℕ) (x : A) (rest : List ℕ) → IsBytes bytes → one bytes ≡ Some (x, rest) → Takes bytes (f x) rest × P x
  pub again : (x : A) (rest : List ℕ) → P x → one (f x ++ rest) ≡ Some (x, rest)

-- ---- texts and numbers

pub text_takes : (n : ℕ) (bytes text rest : List ℕ) → IsBytes bytes → text_at n bytes ≡ Some (text, rest) → Takes bytes text rest × (length text ≡ n) × IsBytes text
text_takes n bytes text rest fits e = by (ltb (length bytes) n) refl e
  where
    by : (b : Bool) → ltb (length bytes) n ≡ b → cond b None (found (take n bytes) (drop n bytes)) ≡ Some (text, rest) → Takes bytes text rest × (length text ≡ n) × IsBytes text
    by true is e = absurd cc
    by false is e =
        let same = some_is (take n bytes, drop n bytes) (text, rest) e in
        let long : n ≤ length bytes = ltb-false (length bytes) n is in
        subst (λ (x : List ℕ × List ℕ). Takes bytes x.0 x.1 × (length x.0 ≡ n) × IsBytes x.0) same
        (record { parts = sym (take-append-drop n bytes); rest_fits = IsBytes-drop n bytes fits }, omega (arith, length-take n bytes), IsBytes-take n bytes fits)

pub text_again : (text rest : List ℕ) (n : ℕ) → length text ≡ n → text_at n (text ++ rest) ≡ Some (text, rest)
text_again text rest n len =
    let long : ltb (length (text ++ rest)) n ≡ false = le-ltb _ _ (omega (arith, length-append text rest)) in
    rw (long, take_at text rest n len, drop_at text rest n len) refl

one_byte : (text : List ℕ) → length text ≡ 1 → text ≡ get_or text 0 0 ∷ []
one_byte [] len = absurd (omega arith)
one_byte (b ∷ []) len = refl
one_byte (b ∷ c ∷ text) len = absurd (omega arith)

pub byte_reader : IsReader byte_at (λ b. b ∷ []) (λ b. b < 256)
unfolding byte_at
byte_reader = record {
  takes = λ bytes b rest fits e.
      let s = bind_some (text_at 1 bytes) (λ t. Some (get_or t.0 0 0, t.1)) (b, rest) e in
      let t = text_takes 1 bytes s.0.0 s.0.1 fits s.1 in
      let same = some_is (get_or s.0.0 0 0, s.0.1) (b, rest) s.2 in
      subst (λ (x : ℕ × List ℕ). Takes bytes (x.0 ∷ []) x.1 × (x.0 < 256)) same (subst (λ (u : List ℕ). Takes bytes u s.0.1) (one_byte s.0.0 t.1) t.0, t.2 0);
  again = λ b rest h. ap (λ (r : Option (List ℕ × List ℕ)). r >>= λ t. made (get_or t.0 0 0, t.1)) (text_again (b ∷ []) rest 1 refl);
}

pub record IsWide (w : Width) (limit : ℕ) : Type 0 where
  pub len : (n : ℕ) → length (to_be_bytes w n) ≡ byte_len w
  pub back : (bytes : List ℕ) → length bytes ≡ byte_len w → IsBytes bytes → to_be_bytes w (from_be_bytes w bytes) ≡ bytes
  pub again : (n : ℕ) → n < limit → from_be_bytes w (to_be_bytes w n) ≡ n
  pub below : (bytes : List ℕ) → IsBytes bytes → from_be_bytes w bytes < limit

wide16 : IsWide w16 (2 ^ 16)
wide16 = record {
  len = λ n. refl;
  back = λ bytes len fits. be_bytes_2 bytes _ len fits refl;
  again = λ n lt. from_be_bytes-to_be_bytes_2 n lt;
  below = λ bytes fits. omega (arith, fits 0, fits 1);
}

wide32 : IsWide w32 (2 ^ 32)
wide32 = record {
  len = λ n. refl;
  back = λ bytes len fits. be_bytes_4 bytes _ len fits refl;
  again = λ n lt. from_be_bytes-to_be_bytes_4 n lt;
  below = λ bytes fits. omega (arith, fits 0, fits 1, fits 2, fits 3);
}

wide64 : IsWide w64 (2 ^ 64)
wide64 = record {
  len = λ n. refl;
  back = λ bytes len fits. be_bytes_8 bytes _ len fits refl;
  again = λ n lt. from_be_bytes-to_be_bytes_8 n lt;
  below = λ bytes fits. omega (arith, fits 0, fits 1, fits 2, fits 3, fits 4, fits 5, fits 6, fits 7);
}

number_reader : (w : Width) (limit : ℕ) → IsWide w limit → IsReader (number_at w) (to_be_bytes w) (λ n. n < limit)
unfolding number_at
number_reader w limit wide = record {
  takes = λ bytes n rest fits e.
      let s = bind_some (text_at (byte_len w) bytes) (λ t. Some (from_be_bytes w t.0, t.1)) (n, rest) e in
      let t = text_takes (byte_len w) bytes s.0.0 s.0.1 fits s.1 in
      let same = some_is (from_be_bytes w s.0.0, s.0.1) (n, rest) s.2 in
      subst (λ (x : ℕ × List ℕ). Takes bytes (to_be_bytes w x.0) x.1 × (x.0 < limit)) same (subst (λ (u : List ℕ). Takes bytes u s.0.1) (sym (wide.back s.0.0 t.1 t.2)) t.0, wide.below s.0.0 t.2);
  again = λ n rest lt. ap (λ (r : Option (List ℕ × List ℕ)). r >>= λ t. made (from_be_bytes w t.0, t.1)) (text_again (to_be_bytes w n) rest (byte_len w) (wide.len n)) ∙ ap (λ (m : ℕ). made (m, rest)) (wide.again n lt);
}

pub reader_16 : IsReader (number_at w16) (to_be_bytes w16) (λ n. n < 2 ^ 16)
reader_16 = number_reader w16 (2 ^ 16) wide16

pub reader_32 : IsReader (number_at w32) (to_be_bytes w32) (λ n. n < 2 ^ 32)
reader_32 = number_reader w32 (2 ^ 32) wide32

pub reader_64 : IsReader (number_at w64) (to_be_bytes w64) (λ n. n < 2 ^ 64)
reader_64 = number_reader w64 (2 ^ 64) wide64

-- ---- readers made of others

module _ {A : Type 0} (one : List ℕ → Option (A × List ℕ)) (f : A → List ℕ) (P : A → Type 0) (is : IsReader one f P) where
  -- what passes a test, and that of which Q says the same
  pub only_reader : (test : A → Bool) (Q : A → Type 0) → ((x : A) → P x → test x ≡ true → Q x) → ((x : A) → Q x → P x × (test x ≡ true)) → IsReader (λ bytes. only test (one bytes)) f Q
  only_reader test Q to from = record {
    takes = λ bytes x rest fits e.
        let s = only_some test (one bytes) (x, rest) e in
        let t = is.takes bytes x rest fits s.0 in
        (t.0, to x t.1 s.1);
    again = λ x rest h. only_again test x rest (one (f x ++ rest)) (is.again x rest (from x h).0) (from x h).1;
  }

  -- so many, one after the other
  pub items_take : (n : ℕ) (bytes : List ℕ) (xs : List A) (rest : List ℕ) → IsBytes bytes → items_at one n bytes ≡ Some (xs, rest) → Takes bytes (flat_map f xs) rest × (length xs ≡ n) × AllByRecursion P xs
  unfolding items_at
  items_take zero bytes xs rest fits e =
      subst (λ (y : List A × List ℕ). Takes bytes (flat_map f y.0) y.1 × (length y.0 ≡ 0) × AllByRecursion P y.0) (some_is ([], bytes) (xs, rest) e) (record { parts = refl; rest_fits = fits }, refl, tt)
  items_take (suc n) bytes xs rest fits e =
      let a = bind_some (one bytes) (λ first. items_at one n first.1 >>= λ others. Some (first.0 ∷ others.0, others.1)) (xs, rest) e in
      let b = bind_some (items_at one n a.0.1) (λ others. Some (a.0.0 ∷ others.0, others.1)) (xs, rest) a.2 in
      let first = is.takes bytes a.0.0 a.0.1 fits a.1 in
      let second = items_take n a.0.1 b.0.0 b.0.1 first.0.rest_fits b.1 in
      let both = Takes-then bytes (f a.0.0) a.0.1 (flat_map f b.0.0) b.0.1 first.0 second.0 in
      subst (λ (y : List A × List ℕ). Takes bytes (flat_map f y.0) y.1 × (length y.0 ≡ suc n) × AllByRecursion P y.0) (some_is (a.0.0 ∷ b.0.0, b.0.1) (xs, rest) b.2)
      (rw flat_map-cons both, ap suc second.1, (first.1, second.2))

  pub items_again : (xs : List A) (rest : List ℕ) → AllByRecursion P xs → items_at one (length xs) (flat_map f xs ++ rest) ≡ Some (xs, rest)
  unfolding items_at
  items_again [] rest fits = refl
  items_again (x ∷ xs) rest fits =
      let regrouped : flat_map f (x ∷ xs) ++ rest ≡ f x ++ (flat_map f xs ++ rest) = ap (λ (t : List ℕ). t ++ rest) (flat_map-cons f x xs) ∙ append_assoc (f x) (flat_map f xs) rest in
      ap (items_at one (suc (length xs))) regrouped ∙ rw (is.again x (flat_map f xs ++ rest) fits.0, items_again xs rest fits.1) refl

-- a value made of what is read
pub record Made {A C : Type 0} (f : A → List ℕ) (P : A → Type 0) (make : A → C) (bytes : List ℕ) (x : C) (rest : List ℕ) : Type 0 where
  pub part : A
  pub takes : Takes bytes (f part) rest
  pub fits : P part
  pub is : x ≡ make part

pub map_takes : {A C : Type 0} (one : List ℕ → Option (A × List ℕ)) (f : A → List ℕ) (P : A → Type 0) (make : A → C) → IsReader one f P → (bytes : List ℕ) (x : C) (rest : List ℕ) → IsBytes bytes
    → (one bytes >>= λ a. found (make a.0) a.1) ≡ Some (x, rest) → Made f P make bytes x rest
map_takes {A} {C} one f P make is bytes x rest fits e =
    let a = bind_some (one bytes) (λ a. found (make a.0) a.1) (x, rest) e in
    let t = is.takes bytes a.0.0 a.0.1 fits a.1 in
    let same = some_is (make a.0.0, a.0.1) (x, rest) a.2 in
    record {
      part = a.0.0;
      takes = subst (λ (y : C × List ℕ). Takes bytes (f a.0.0) y.1) same t.0;
      fits = t.1;
      is = sym (ap (λ (y : C × List ℕ). y.0) same);
    }

pub map_again : {A C : Type 0} (one : List ℕ → Option (A × List ℕ)) (f : A → List ℕ) (P : A → Type 0) (make : A → C) → IsReader one f P → (a : A) (rest : List ℕ) → P a → (one (f a ++ rest) >>= λ a. found (make a.0) a.1) ≡ Some (make a, rest)
map_again {A} one f P make is a rest fits = ap (λ (r : Option (A × List ℕ)). r >>= λ a. found (make a.0) a.1) (is.again a rest fits)

-- one, and then another
abbrev pub pair_of : {A B : Type 0} → (List ℕ → Option (A × List ℕ)) → (List ℕ → Option (B × List ℕ)) → List ℕ → Option ((A × B) × List ℕ)
pair_of one two bytes = one bytes >>= λ a. two a.1 >>= λ b. Some ((a.0, b.0), b.1)

pub pair_reader : {A B : Type 0} (one : List ℕ → Option (A × List ℕ)) (f : A → List ℕ) (P : A → Type 0) (two : List ℕ → Option (B × List ℕ)) (g : B → List ℕ) (Q : B → Type 0) → IsReader one f P → IsReader two g Q
    → IsReader (pair_of one two) (λ x. f x.0 ++ g x.1) (λ x. P x.0 × Q x.1)
pair_reader {A} {B} one f P two g Q is is' = record {
  takes = λ bytes x rest fits e.
      let a = bind_some (one bytes) (λ a. two a.1 >>= λ b. Some ((a.0, b.0), b.1)) (x, rest) e in
      let b = bind_some (two a.0.1) (λ b. Some ((a.0.0, b.0), b.1)) (x, rest) a.2 in
      let first = is.takes bytes a.0.0 a.0.1 fits a.1 in
      let second = is'.takes a.0.1 b.0.0 b.0.1 first.0.rest_fits b.1 in
      subst (λ (y : (A × B) × List ℕ). Takes bytes (f y.0.0 ++ g y.0.1) y.1 × (P y.0.0 × Q y.0.1)) (some_is ((a.0.0, b.0.0), b.0.1) (x, rest) b.2)
      (Takes-then bytes (f a.0.0) a.0.1 (g b.0.0) b.0.1 first.0 second.0, (first.1, second.1));
  again = λ x rest fits.
      let last : A × List ℕ → Option ((A × B) × List ℕ) = λ a. two a.1 >>= λ b. Some ((a.0, b.0), b.1) in
      let end : B × List ℕ → Option ((A × B) × List ℕ) = λ b. Some ((x.0, b.0), b.1) in
      ap (λ (t : List ℕ). one t >>= last) (append_assoc (f x.0) (g x.1) rest) ∙ ap (λ (r : Option (A × List ℕ)). r >>= last) (is.again x.0 (g x.1 ++ rest) fits.0) ∙ ap (λ (r : Option (B × List ℕ)). r >>= end) (is'.again x.1 rest fits.1);
}

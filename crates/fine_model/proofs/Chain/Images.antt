-- Images that differ in one region, and their parts.
use Rattle.std.proofs.Common.{◌≡◌, ◌≢◌, ℕ, zero, suc, ◌+◌, ◌<◌, ◌≤◌, nat_eq, Bool, false, ◌&&◌, ◌||◌, List, [], ◌∷◌, ◌++◌, length, refl, sym, ap, ◌∙◌, subst, Some, None, Ok, Err, arith}
use Rattle.std.specs.Prelude.{Option, Result, unwrap_or}
use Rattle.std.specs.List.{list_any}
use Rattle.std.proofs.lemmas.Option.{slice_get_past}
use Rattle.std.proofs.lemmas.List.Folds.{list_any-append}
use Rattle.fine_model.specs.Types.{Header, Part, Damage}
use Rattle.fine_model.specs.Types.damage
use Rattle.fine_model.specs.Pushed.{and_then}
use Rattle.fine_model.specs.Regions.{Image, region_of, is_sealed, continuations, header_at, header_in}
use Rattle.fine_model.specs.Chain.{parts_from}
use Rattle.fine_model.specs.ChainLaws.{part_of}
use Rattle.fine_model.proofs.Chain.Headers.{header_closed}

-- ---- two images round the region in which they differ

pub record Split (region : ℕ) (old new : Image) : Type 0 where
  pub front : Image
  pub before : List ℕ
  pub after : List ℕ
  pub back : Image
  pub old_is : old ≡ front ++ before ∷ back
  pub new_is : new ≡ front ++ after ∷ back
  pub at : length front ≡ region

same_images : (old new : Image) → length new ≡ length old → ((i : ℕ) → region_of new i ≡ region_of old i) → new ≡ old
same_images [] [] long each = refl
same_images [] (n ∷ ns) long each = absurd (omega (arith, long))
same_images (o ∷ os) [] long each = absurd (omega (arith, long))
same_images (o ∷ os) (n ∷ ns) long each = let h = each 0 in let t = same_images os ns (omega (arith, long)) (λ i. each (suc i)) in λ k. h k ∷ t k

shifted : (region : ℕ) (o n : List ℕ) (os ns : Image) → n ≡ o → Split region os ns → Split (suc region) (o ∷ os) (n ∷ ns)
shifted region o n os ns same s = record {
  front = o ∷ s.front;
  before = s.before;
  after = s.after;
  back = s.back;
  old_is = ap (λ xs. o ∷ xs) s.old_is;
  new_is = λ k. same k ∷ s.new_is k;
  at = ap suc s.at;
}

pub split : (region : ℕ) (old new : Image) → length new ≡ length old → ((other : ℕ) → other ≢ region → region_of new other ≡ region_of old other) → region < length old → Split region old new
split region [] new long others there = absurd (omega (arith, there))
split region (o ∷ os) [] long others there = absurd (omega (arith, long))
split zero (o ∷ os) (n ∷ ns) long others there =
    let t = same_images os ns (omega (arith, long)) (λ i. others (suc i) (λ e. absurd (omega (arith, e)))) in
    record { front = []; before = o; after = n; back = os; old_is = refl; new_is = ap (λ xs. n ∷ xs) t; at = refl }
split (suc region) (o ∷ os) (n ∷ ns) long others there =
    shifted region o n os ns (others 0 (λ e. absurd (omega (arith, e)))) (split region os ns (omega (arith, long)) (λ i other. others (suc i) (λ e. other (omega (arith, e)))) (omega (arith, there)))

pub past : (image : Image) (region : ℕ) → length image ≤ region → region_of image region ≡ []
past image region h = ap (λ o. unwrap_or o []) (slice_get_past image region h)

region_at : (front : Image) (x : List ℕ) (back : Image) (region : ℕ) → length front ≡ region → region_of (front ++ x ∷ back) region ≡ x
region_at [] x back zero is = refl
region_at [] x back (suc region) is = absurd (omega (arith, is))
region_at (f ∷ front) x back zero is = absurd (omega (arith, is))
region_at (f ∷ front) x back (suc region) is = region_at front x back region (omega (arith, is))

-- what the region holds in each
pub before_is : (region : ℕ) (old new : Image) (s : Split region old new) → region_of old region ≡ s.before
before_is region old new s = ap (λ x. region_of x region) s.old_is ∙ region_at s.front s.before s.back region s.at

pub after_is : (region : ℕ) (old new : Image) (s : Split region old new) → region_of new region ≡ s.after
after_is region old new s = ap (λ x. region_of x region) s.new_is ∙ region_at s.front s.after s.back region s.at

-- ---- the parts of an image

pub and_then_ok : {A B E : Type 0} (r : Result A E) (f : A → Result B E) (b : B) → and_then r f ≡ Ok b → (a : A) × (r ≡ Ok a) × (f a ≡ Ok b)
and_then_ok (Ok a) f b is = (a, refl, is)
and_then_ok (Err e) f b is = absurd cc

module _ (region_len regions : ℕ) where
  abbrev pub header : ℕ → List ℕ → Result (Option Header) ℕ
  header k bytes = header_in region_len regions k bytes

  pub parts_none : (k : ℕ) (bytes : List ℕ) (image : Image) → header k bytes ≡ Ok None → parts_from region_len regions k (bytes ∷ image) ≡ parts_from region_len regions (k + 1) image
  unfolding parts_from
  parts_none k bytes image is = rw is refl

  pub parts_bad : (k at : ℕ) (bytes : List ℕ) (image : Image) → header k bytes ≡ Err at → parts_from region_len regions k (bytes ∷ image) ≡ Err (damage.Region k at)
  unfolding parts_from
  parts_bad k at bytes image is = rw is refl

  pub parts_good : (k : ℕ) (bytes : List ℕ) (h : Header) (image : Image) → header k bytes ≡ Ok (Some h)
      → parts_from region_len regions k (bytes ∷ image) ≡ and_then (parts_from region_len regions (k + 1) image) (λ parts. Ok (part_of k h ∷ parts))
  unfolding parts_from
  parts_good k bytes h image is = rw is refl

  -- a part by a number that is the region's
  part_named : (k region : ℕ) (h : Header) (parts : List Part) → k ≡ region → part_of k h ∷ parts ≡ part_of region h ∷ parts
  part_named k region h parts e = ap (λ n. part_of n h ∷ parts) e

  -- The parts of an image, where some are gone and others come at a place in the list of them.
  pub record Exchanged (k : ℕ) (now : Image) (gone come parts : List Part) : Type 0 where
    pub left : List Part
    pub right : List Part
    pub were : parts ≡ left ++ (gone ++ right)
    pub are : parts_from region_len regions k now ≡ Ok (left ++ (come ++ right))

  -- the region before them is the same in both images
  exchanged_behind : (k : ℕ) (f : List ℕ) (was now : Image) (gone come parts : List Part) → parts_from region_len regions k (f ∷ was) ≡ Ok parts
      → ((ps : List Part) → parts_from region_len regions (k + 1) was ≡ Ok ps → Exchanged (k + 1) now gone come ps) → Exchanged k (f ∷ now) gone come parts
  exchanged_behind k f was now gone come parts is rest = by (header k f) refl
    where
      by : (r : Result (Option Header) ℕ) → header k f ≡ r → Exchanged k (f ∷ now) gone come parts
      by (Err at) e = absurd (let c : ◌≡◌ {A = Result (List Part) Damage} (Err (damage.Region k at)) (Ok parts) = sym (parts_bad k at f was e) ∙ is in cc)
      by (Ok None) e =
          let m = rest parts (sym (parts_none k f was e) ∙ is) in
          record { left = m.left; right = m.right; were = m.were; are = parts_none k f now e ∙ m.are }
      by (Ok (Some g)) e =
          let o = and_then_ok (parts_from region_len regions (k + 1) was) (λ ps. Ok (part_of k g ∷ ps)) parts (sym (parts_good k f g was e) ∙ is) in
          let c = o.2 in
          let whole : part_of k g ∷ o.0 ≡ parts = cc in
          let m = rest o.0 o.1 in
          record {
            left = part_of k g ∷ m.left;
            right = m.right;
            were = sym whole ∙ ap (λ ps. part_of k g ∷ ps) m.were;
            are = parts_good k f g now e ∙ ap (λ r. and_then r (λ ps. Ok (part_of k g ∷ ps))) m.are;
          }

  -- the parts with one more, which is the region's
  abbrev pub OneMore : ℕ → ℕ → Image → List ℕ → Image → Header → List Part → Type 0
  OneMore k region front y back h parts = Exchanged k (front ++ y ∷ back) [] (part_of region h ∷ []) parts

  pub parts_sealed : (k region : ℕ) (front : Image) (x y : List ℕ) (back : Image) (h : Header) (parts : List Part) → k + length front ≡ region → is_sealed x ≡ false → header region y ≡ Ok (Some h)
      → parts_from region_len regions k (front ++ x ∷ back) ≡ Ok parts → OneMore k region front y back h parts
  parts_sealed k region [] x y back h parts at closed good is =
      let e : k ≡ region = omega (arith, at) in record {
        left = [];
        right = parts;
        were = refl;
        are = parts_good k y h back (subst (λ n. header n y ≡ Ok (Some h)) (sym e) good)
            ∙ ap (λ r. and_then r (λ ps. Ok (part_of k h ∷ ps))) (sym (parts_none k x back (header_closed region_len regions k x closed)) ∙ is)
            ∙ ap Ok (part_named k region h parts e);
      }
  parts_sealed k region (f ∷ front) x y back h parts at closed good is =
      exchanged_behind k f (front ++ x ∷ back) (front ++ y ∷ back) [] (part_of region h ∷ []) parts is (λ ps was. parts_sealed (k + 1) region front x y back h ps (omega (arith, at)) closed good was)

  -- the parts without the region's, once its gate is closed
  abbrev pub OneFewer : ℕ → ℕ → Image → List ℕ → Image → Header → List Part → Type 0
  OneFewer k region front y back h parts = Exchanged k (front ++ y ∷ back) (part_of region h ∷ []) [] parts

  pub parts_unsealed : (k region : ℕ) (front : Image) (x y : List ℕ) (back : Image) (h : Header) (parts : List Part) → k + length front ≡ region → is_sealed y ≡ false → header region x ≡ Ok (Some h)
      → parts_from region_len regions k (front ++ x ∷ back) ≡ Ok parts → OneFewer k region front y back h parts
  parts_unsealed k region [] x y back h parts at closed good is =
      let e : k ≡ region = omega (arith, at) in
      let o = and_then_ok (parts_from region_len regions (k + 1) back) (λ ps. Ok (part_of k h ∷ ps)) parts (sym (parts_good k x h back (subst (λ n. header n x ≡ Ok (Some h)) (sym e) good)) ∙ is) in
      let c = o.2 in
      let whole : part_of k h ∷ o.0 ≡ parts = cc in
      record { left = []; right = o.0; were = sym whole ∙ part_named k region h o.0 e; are = parts_none k y back (header_closed region_len regions k y closed) ∙ o.1 }
  parts_unsealed k region (f ∷ front) x y back h parts at closed good is =
      exchanged_behind k f (front ++ x ∷ back) (front ++ y ∷ back) (part_of region h ∷ []) [] parts is (λ ps was. parts_unsealed (k + 1) region front x y back h ps (omega (arith, at)) closed good was)

-- ---- the regions that sealed ones name

abbrev pub names : ℕ → List ℕ → Bool
names region bytes = is_sealed bytes && list_any (nat_eq region) (continuations (header_at bytes))

-- regions that name nothing in both images change nothing of what is named
pub named_alike : (region : ℕ) (front : Image) (x y : List ℕ) (back : Image) → names region x ≡ false → names region y ≡ false → list_any (names region) (front ++ x ∷ back) ≡ list_any (names region) (front ++ y ∷ back)
named_alike region front x y back no_x no_y =
    list_any-append (names region) front (x ∷ back) ∙ ap (λ b. list_any (names region) front || (b || list_any (names region) back)) (no_x ∙ sym no_y)
    ∙ sym (list_any-append (names region) front (y ∷ back))

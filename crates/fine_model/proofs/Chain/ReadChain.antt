-- A chain that was read: the sealed parts of an image, that they share no region, and the walk over them.
use Rattle.std.proofs.Common.{◌≡◌, ℕ, suc, ◌+◌, ◌*◌, ◌≤◌, false, List, [], ◌∷◌, length, refl, sym, ap, ◌∙◌, subst, Some, None, Ok, Err, arith}
use Rattle.std.specs.Prelude.{Option, Result, find, filter_map, option_map}
use Rattle.std.specs.List.{AllByRecursion, enumerate_from}
use Rattle.fine_model.specs.Types.{Header, Part, Damage}
use Rattle.fine_model.specs.Types.damage
use Rattle.fine_model.specs.Pushed.{and_then}
use Rattle.fine_model.specs.Regions.{Image, region_of, continuations, header_in, HasHeader}
use Rattle.fine_model.specs.Chain.{parts_from, first_fault, is_taken_from, bad_continuation, apart, chain_of, chain}
use Rattle.fine_model.specs.ChainLaws.{part_of}
use Rattle.fine_model.proofs.Ordered.Order.{all_map}
use Rattle.fine_model.proofs.Ordered.Nothing.{none_found, finds_none, map_none, none_kept, keeps_none}
use Rattle.fine_model.proofs.Chain.Headers.{good, in_order}
use Rattle.fine_model.proofs.Chain.Images.{and_then_ok, parts_none, parts_bad, parts_good}
use Rattle.fine_model.proofs.Chain.Chains.{no_fault, Walked, walked, walks}

pub record ReadChain (region_len : ℕ) (image : Image) (parts : List Part) : Type 0 where
  pub all : List Part
  pub are : parts_from region_len (length image) 0 image ≡ Ok all
  pub disjoint : AllByRecursion (λ p. bad_continuation all p ≡ None) all
  pub walk : Walked all parts

pub read_chain : (region_len : ℕ) (image : Image) (parts : List Part) → chain region_len image ≡ Ok parts → ReadChain region_len image parts
unfolding chain apart
read_chain region_len image parts is =
    let o = and_then_ok (and_then (parts_from region_len (length image) 0 image) apart) chain_of parts is in
    let i = and_then_ok (parts_from region_len (length image) 0 image) apart o.0 o.1 in
    let n = no_fault (filter_map (bad_continuation i.0) i.0) i.0 o.0 i.2 in
    record { all = i.0; are = i.1; disjoint = none_kept (bad_continuation i.0) i.0 n.0; walk = walked i.0 parts (ap chain_of n.1 ∙ o.2) }

pub chain_read : (region_len : ℕ) (image : Image) (parts : List Part) → ReadChain region_len image parts → chain region_len image ≡ Ok parts
unfolding chain apart
chain_read region_len image parts r =
    ap (λ x. and_then (and_then x apart) chain_of) r.are
    ∙ ap (λ ds. and_then (first_fault ds r.all) chain_of) (keeps_none (bad_continuation r.all) r.all r.disjoint) ∙ walks r.all parts r.walk

-- ---- the header of each part

-- where a part stands among regions that are counted from a number on
record Stands (region_len regions k : ℕ) (image : Image) (p : Part) : Type 0 where
  place : ℕ
  region : p.region ≡ k + place
  has : header_in region_len regions p.region (region_of image place) ≡ Ok (Some p.header)

stand : (region_len regions k : ℕ) (image : Image) (parts : List Part) → parts_from region_len regions k image ≡ Ok parts → AllByRecursion (Stands region_len regions k image) parts
unfolding parts_from
stand region_len regions k [] parts is = let e : [] ≡ parts = cc in subst (AllByRecursion (Stands region_len regions k [])) e tt
stand region_len regions k (bytes ∷ image) parts is = by (header_in region_len regions k bytes) refl (λ ps was. stand region_len regions (k + 1) image ps was)
  where
    deeper : (ps : List Part) → AllByRecursion (Stands region_len regions (k + 1) image) ps → AllByRecursion (Stands region_len regions k (bytes ∷ image)) ps
    deeper ps all = all_map (Stands region_len regions (k + 1) image) (Stands region_len regions k (bytes ∷ image))
        (λ p s. let at = s.region in record { place = suc s.place; region = omega (arith, at); has = s.has }) ps all

    by : (r : Result (Option Header) ℕ) → header_in region_len regions k bytes ≡ r
        → ((ps : List Part) → parts_from region_len regions (k + 1) image ≡ Ok ps → AllByRecursion (Stands region_len regions (k + 1) image) ps) → AllByRecursion (Stands region_len regions k (bytes ∷ image)) parts
    by (Err at) e rest = absurd (let c : ◌≡◌ {A = Result (List Part) Damage} (Err (damage.Region k at)) (Ok parts) = sym (parts_bad region_len regions k at bytes image e) ∙ is in cc)
    by (Ok None) e rest = deeper parts (rest parts (sym (parts_none region_len regions k bytes image e) ∙ is))
    by (Ok (Some h)) e rest =
        let o = and_then_ok (parts_from region_len regions (k + 1) image) (λ ps. Ok (part_of k h ∷ ps)) parts (sym (parts_good region_len regions k bytes h image e) ∙ is) in
        let c = o.2 in
        let whole : part_of k h ∷ o.0 ≡ parts = cc in
        subst (AllByRecursion (Stands region_len regions k (bytes ∷ image))) whole (record { place = 0; region = omega arith; has = e }, deeper o.0 (rest o.0 o.1))

-- each part has its header
pub have_headers : (region_len : ℕ) (image : Image) (parts : List Part) → parts_from region_len (length image) 0 image ≡ Ok parts → AllByRecursion (λ p. HasHeader region_len image p.region p.header) parts
have_headers region_len image parts is =
    all_map (Stands region_len (length image) 0 image) (λ p. HasHeader region_len image p.region p.header)
    (λ p s. let at = s.region in let e : s.place ≡ p.region = omega (arith, at) in subst (λ n. header_in region_len (length image) p.region (region_of image n) ≡ Ok (Some p.header)) e s.has)
    parts (stand region_len (length image) 0 image parts is)

pub header_ordered : (region_len : ℕ) (image : Image) (p : Part) → HasHeader region_len image p.region p.header → p.header.range.first ≤ p.header.range.last
header_ordered region_len image p has =
    in_order region_len (length image) p.region (region_of image p.region) p.header (good region_len (length image) p.region (region_of image p.region) p.header has)

-- ---- continuations that are taken from no part

values : {A : Type 0} (P : A → Type 0) (n : ℕ) (xs : List A) → AllByRecursion (λ e. P e.1) (enumerate_from n xs) → AllByRecursion P xs
values P n [] all = tt
values P n (x ∷ xs) all = (all.0, values P (n + 1) xs all.1)

counted : {A : Type 0} (P : A → Type 0) (n : ℕ) (xs : List A) → AllByRecursion P xs → AllByRecursion (λ e. P e.1) (enumerate_from n xs)
counted P n [] all = tt
counted P n (x ∷ xs) all = (all.0, counted P (n + 1) xs all.1)

pub own : (parts : List Part) (p : Part) → bad_continuation parts p ≡ None → AllByRecursion (λ region. is_taken_from parts p region ≡ false) (continuations p.header)
unfolding bad_continuation
own parts p none =
    values (λ region. is_taken_from parts p region ≡ false) 0 (continuations p.header)
    (none_found (λ e. is_taken_from parts p e.1) (enumerate_from 0 (continuations p.header)) (map_none (λ e. damage.Region p.region (42 + 4 * e.0)) (find (λ e. is_taken_from parts p e.1) (enumerate_from 0 (continuations p.header))) none))

pub none_bad : (parts : List Part) (p : Part) → AllByRecursion (λ region. is_taken_from parts p region ≡ false) (continuations p.header) → bad_continuation parts p ≡ None
unfolding bad_continuation
none_bad parts p all =
    ap (option_map (λ e. damage.Region p.region (42 + 4 * e.0)))
    (finds_none (λ e. is_taken_from parts p e.1) (enumerate_from 0 (continuations p.header)) (counted (λ region. is_taken_from parts p region ≡ false) 0 (continuations p.header) all))

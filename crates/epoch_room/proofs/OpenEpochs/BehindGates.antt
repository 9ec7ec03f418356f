-- Images that differ behind the gates of regions which are in no part show the same.
use Rattle.std.proofs.Common.{◌≡◌, ◌∙◌, ℕ, suc, ◌+◌, ◌<◌, true, cond, List, [], ◌∷◌, ◌++◌, length, take, refl, sym, ap, subst, arith}
use Rattle.std.specs.Prelude.{nat_eq, count_by}
use Rattle.std.specs.List.{AllByRecursion, list_any}
use Rattle.std.proofs.lemmas.List.Sums.{sum_by-cons}
use Rattle.fine_model.specs.declared.Part.{Part}
use Rattle.fine_model.specs.Causes.{NoNeighboursFit}
use Rattle.fine_model.specs.Chain.{is_free}
use Rattle.fine_model.specs.ChainLaws.{DiffersBehind, ShowsAlike}
use Rattle.fine_model.specs.Merge.{FitsFree}
use Rattle.fine_model.specs.Regions.{HasHeader, Image, is_sealed, region_of}
use Rattle.fine_model.proofs.Chain.Closed.{behind_law}
use Rattle.fine_model.proofs.Ordered.Nothing.{all_at, each_there}
use Rattle.fine_model.proofs.Ordered.Order.{all_map}
use Rattle.epoch_room.specs.Whole.{HoldsParts}
use Rattle.epoch_room.proofs.Views.Boarding.{AreBeside}
use Rattle.epoch_room.proofs.OpenEpochs.Holding.{free_of}

-- the first byte tells whether a region is sealed
same_first : (xs ys : List ℕ) → take 1 ys ≡ take 1 xs → is_sealed ys ≡ is_sealed xs
same_first [] [] e = refl
same_first [] (y ∷ ys) e = absurd (cc)
same_first (x ∷ xs) [] e = absurd (cc)
same_first (x ∷ xs) (y ∷ ys) e = let h : y ≡ x = cc in ap (λ n. is_sealed (n ∷ [])) h

differs_back : (regions : List ℕ) (a b : Image) → DiffersBehind regions a b → DiffersBehind regions b a
differs_back regions a b d = record { as_many = sym d.as_many; others = λ r h. sym (d.others r h); lengths = λ r. sym (d.lengths r); gates = λ r. sym (d.gates r) }

abbrev if_sealed : List ℕ → ℕ
if_sealed bytes = cond {A = ℕ} (is_sealed bytes) 1 0

-- as many are sealed
same_count : (xs ys : Image) → length ys ≡ length xs → ((r : ℕ) → is_sealed (region_of ys r) ≡ is_sealed (region_of xs r)) → count_by is_sealed ys ≡ count_by is_sealed xs
same_count [] [] long same = refl
same_count [] (y ∷ ys) long same = absurd (omega (arith, long))
same_count (x ∷ xs) [] long same = absurd (omega (arith, long))
same_count (x ∷ xs) (y ∷ ys) long same =
    let first : is_sealed y ≡ is_sealed x = same 0 in
    let rest = same_count xs ys (omega (arith, long)) (λ r. same (suc r)) in
    sum_by-cons (λ bytes. if_sealed bytes) y ys ∙ ap (λ b. cond {A = ℕ} b 1 0 + count_by is_sealed ys) first ∙ ap (λ n. if_sealed x + n) rest ∙ sym (sum_by-cons (λ bytes. if_sealed bytes) x xs)

-- what one of two images shows, the other one shows too
pub record StaysSame (region_len : ℕ) (a b : Image) : Type 0 where
  pub forth : ShowsAlike region_len a b
  pub back : ShowsAlike region_len b a
  pub sealed : count_by is_sealed b ≡ count_by is_sealed a

module _ (region_len most : ℕ) (live retired : List Part) (regions : List ℕ) (beside : AreBeside regions (live ++ retired)) (below : AllByRecursion (λ r. r < most) regions) (was image : Image) (long : length was ≡ most) (holds : HoldsParts region_len was live retired) (differs : DiffersBehind regions was image) where
  all_free : AllByRecursion (λ r. is_free was r ≡ true) regions
  all_free =
      all_map (λ r. list_any (nat_eq r) regions ≡ true) (λ r. is_free was r ≡ true)
      (λ r there. let low = all_at (λ q. q < most) r regions below there in free_of region_len was live retired r holds (omega (arith, low, long)) (beside r there)) regions (each_there regions)

  pub torn_alike : ShowsAlike region_len was image
  torn_alike = behind_law region_len regions was image differs all_free

  pub torn_same : StaysSame region_len was image
  torn_same = record {
    forth = torn_alike;
    back = behind_law region_len regions image was (differs_back regions was image differs)
        (all_map (λ r. is_free was r ≡ true) (λ r. is_free image r ≡ true) (λ r free. torn_alike.same_free r ∙ free) regions all_free);
    sealed = same_count was image differs.as_many (λ r. same_first (region_of was r) (region_of image r) (differs.gates r));
  }

  -- torn behind the gates, it holds the same parts
  pub torn_holds : HoldsParts region_len image live retired
  torn_holds = record {
    is_chain = torn_alike.same_chain ∙ holds.is_chain;
    leads = λ r h. same_first (region_of was r) (region_of image r) (differs.gates r) ∙ holds.leads r (subst (λ n. r < n) differs.as_many h);
    headers = all_map (λ p. HasHeader region_len was p.region p.header) (λ p. HasHeader region_len image p.region p.header) (λ p h. torn_alike.headers p.region p.header h) (live ++ retired) holds.headers;
  }

-- and no neighbours fit, where none did
pub still_none_fit : (region_len : ℕ) (a b : Image) (parts : List Part) → StaysSame region_len a b → NoNeighboursFit region_len a parts → NoNeighboursFit region_len b parts
still_none_fit region_len a b parts same none older newer near fits =
    none older newer (record { at = near.at; a = near.a; b = near.b; is_a = near.is_a; is_b = near.is_b; older_rows = same.back.rows (near.a ∷ []) older near.older_rows; newer_rows = same.back.rows (near.b ∷ []) newer near.newer_rows })
    (subst (λ free. FitsFree region_len (length free) older newer) same.forth.same_regions fits)

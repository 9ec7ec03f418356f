-- An image while a region is sealed: its gate is closed, or behind an open gate all is written.
use Rattle.std.proofs.Common.{◌≡◌, ◌⊎◌, ℕ, ◌+◌, ◌<◌, ◌≤◌, ◌==◌, ◌||◌, Bool, true, false, List, [], ◌∷◌, ◌++◌, length, take, drop, set, refl, sym, ap, ◌∙◌, inl, inr, arith, append_assoc, true≢false}
use Rattle.std.specs.Prelude.{slice_index, nat_eq, ◌≢◌}
use Rattle.std.proofs.lemmas.Bool.{eqb-true}
use Rattle.std.proofs.lemmas.Option.{unwrap_or-slice_get}
use Rattle.std.proofs.lemmas.List.{get_or-set_same}
use Rattle.fine_model.specs.Regions.{Image, region_of, is_sealed, sealed_gate}
use Rattle.fine_model.specs.ChainLaws.{DiffersAt, DiffersBehind}
use Rattle.log_disk.specs.Disk.{SameOutside, with_bytes}
use Rattle.log_disk.proofs.Writes.{same_outside_written}
use Rattle.epoch_room.specs.Gate.{gate}

-- one region alone may differ, and its gate is closed
pub record HasClosed (region : ℕ) (base image : Image) : Type 0 where
  pub differs : DiffersAt region base image
  pub closed : is_sealed (region_of image region) ≡ false

-- or its gate is open, and these bytes stand behind it
pub record HasOpened (region : ℕ) (bytes : List ℕ) (base image : Image) : Type 0 where
  pub differs : DiffersAt region base image
  pub rest : List ℕ
  pub spelled : region_of image region ≡ (sealed_gate ∷ bytes) ++ rest

front_is : (xs : List ℕ) → 1 ≤ length xs → xs ≡ slice_index xs 0 ∷ drop 1 xs
front_is [] h = absurd (omega (arith, h))
front_is (x ∷ xs) h = refl

first_one : (xs ys : List ℕ) → 1 ≤ length xs → drop 1 (take 1 xs ++ ys) ≡ ys
first_one [] ys h = absurd (omega (arith, h))
first_one (x ∷ xs) ys h = refl

-- torn behind the gate that was there
pub torn_closed : (region : ℕ) (base image : Image) → is_sealed (region_of base region) ≡ false → DiffersBehind (region ∷ []) base image → HasClosed region base image
torn_closed region base image closed differs = record {
  differs = record { as_many = differs.as_many; others = λ r h. differs.others r (other r region h) };
  closed = ap (λ b. b == sealed_gate) (first (region_of image region) (region_of base region) (differs.gates region)) ∙ closed;
}
  where
    other : (m n : ℕ) → m ≢ n → (nat_eq m n || false) ≡ false
    other m n h = grind (arith, h)

    first : (xs ys : List ℕ) → take 1 xs ≡ take 1 ys → slice_index xs 0 ≡ slice_index ys 0
    first [] [] e = refl
    first [] (y ∷ ys) e = absurd (let h : ◌≡◌ {A = List ℕ} [] (y ∷ []) = e in cc)
    first (x ∷ xs) [] e = absurd (let h : ◌≡◌ {A = List ℕ} (x ∷ []) [] = e in cc)
    first (x ∷ xs) (y ∷ ys) e = ap (λ zs. slice_index zs 0) e

module _ (region : ℕ) (bytes : List ℕ) (base : Image) (there : region < length base) (long : 1 + length bytes ≤ length (region_of base region)) where
  written_same : SameOutside region 1 (1 + length bytes) base (with_bytes base region 1 bytes)
  written_same = same_outside_written base region 1 bytes there long

  written_is : region_of (with_bytes base region 1 bytes) region ≡ take 1 (region_of base region) ++ bytes ++ drop (1 + length bytes) (region_of base region)
  written_is =
      let new : List ℕ = take 1 (region_of base region) ++ bytes ++ drop (1 + length bytes) (region_of base region) in
      unwrap_or-slice_get (set base region new) region [] ∙ get_or-set_same base region new [] there

  -- all written, with any byte at the gate
  pub at_gate : (image : Image) → SameOutside region 0 1 (with_bytes base region 1 bytes) image → HasClosed region base image ⊎ HasOpened region bytes base image
  at_gate image same = by (is_sealed (region_of image region)) refl
    where
      differs : DiffersAt region base image
      differs = record { as_many = same.regions ∙ written_same.regions; others = λ other h. same.others other h ∙ written_same.others other h }

      behind : drop 1 (region_of image region) ≡ bytes ++ drop (1 + length bytes) (region_of base region)
      behind =
          same.after ∙ ap (drop 1) (written_is ∙ append_assoc (take 1 (region_of base region)) bytes (drop (1 + length bytes) (region_of base region)))
          ∙ first_one (region_of base region) (bytes ++ drop (1 + length bytes) (region_of base region)) (omega (arith, long))

      some : 1 ≤ length (region_of image region)
      some = omega (arith, same.lengths region, written_same.lengths region, long)

      by : (b : Bool) → is_sealed (region_of image region) ≡ b → HasClosed region base image ⊎ HasOpened region bytes base image
      by false e = inl (record { differs = differs; closed = e })
      by true e = inr (record {
        differs = differs;
        rest = drop (1 + length bytes) (region_of base region);
        spelled =
            front_is (region_of image region) some ∙ ap (λ b. b ∷ drop 1 (region_of image region)) (eqb-true (slice_index (region_of image region) 0) sealed_gate e) ∙ ap (λ xs. sealed_gate ∷ xs) behind;
      })

  -- and at last with the gate open
  pub sealed_bytes : HasOpened region bytes base (with_bytes (with_bytes base region 1 bytes) region 0 gate)
  sealed_bytes = elim (at_gate final same) as (λ _. HasOpened region bytes base final) [ inl shut ↦ absurd (true≢false (sym opened ∙ shut.closed)) | inr is ↦ is ]
    where
      written : Image
      written = with_bytes base region 1 bytes

      final : Image
      final = with_bytes (with_bytes base region 1 bytes) region 0 gate

      there' : region < length (with_bytes base region 1 bytes)
      there' = omega (arith, written_same.regions, there)

      long' : 0 + length gate ≤ length (region_of (with_bytes base region 1 bytes) region)
      long' = omega (arith, written_same.lengths region, long)

      same : SameOutside region 0 1 (with_bytes base region 1 bytes) (with_bytes (with_bytes base region 1 bytes) region 0 gate)
      same = same_outside_written (with_bytes base region 1 bytes) region 0 gate there' long'

      final_is : region_of (with_bytes (with_bytes base region 1 bytes) region 0 gate) region ≡ sealed_gate ∷ drop 1 (region_of (with_bytes base region 1 bytes) region)
      final_is =
          let new : List ℕ = sealed_gate ∷ drop 1 (region_of (with_bytes base region 1 bytes) region) in
          unwrap_or-slice_get (set (with_bytes base region 1 bytes) region new) region [] ∙ get_or-set_same (with_bytes base region 1 bytes) region new [] there'

      opened : is_sealed (region_of (with_bytes (with_bytes base region 1 bytes) region 0 gate) region) ≡ true
      opened = ap is_sealed final_is

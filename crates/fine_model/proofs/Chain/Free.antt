-- Free regions are in no partition, so that a change in one leaves each partition.
use Rattle.std.proofs.Common.{◌≡◌, ◌⊎◌, inl, inr, ℕ, ◌<◌, ◌≤◌, nat_eq, true, false, ◌&&◌, ◌||◌, not, List, [], ◌∷◌, ◌++◌, length, drop, refl, sym, ap, ◌∙◌, subst, true≢false, eq-eqb, ne_eqb}
use Rattle.std.specs.Prelude.{flat_map}
use Rattle.std.specs.List.{AllByRecursion, list_any}
use Rattle.std.proofs.lemmas.Bool.{cases_lt, and_parts, not-true, or_parts, false_from_ne_true}
use Rattle.std.proofs.lemmas.Option.{unwrap_or-slice_get}
use Rattle.std.proofs.lemmas.List.Folds.{list_any_at}
use Rattle.fine_model.specs.Types.{Row, Range, Header, Part}
use Rattle.fine_model.specs.Regions.{Image, region_of, is_sealed, continuations, header_at, header_in, body_start, body_in, HasHeader, IsSealed}
use Rattle.fine_model.specs.Chain.{is_free, AreRowsOf}
use Rattle.fine_model.specs.ChainLaws.{DiffersAt, FreeLaw}
use Rattle.fine_model.proofs.Ordered.Order.{all_map}
use Rattle.fine_model.proofs.Ordered.Nothing.{any_none}
use Rattle.fine_model.proofs.Chain.Headers.{good}
use Rattle.fine_model.proofs.Chain.Images.{past, names}

-- what is_free says
pub free_parts : (image : Image) (region : ℕ) → is_free image region ≡ true → (is_sealed (region_of image region) ≡ false) × (list_any (names region) image ≡ false)
unfolding is_free
free_parts image region free =
    let both = and_parts (not (is_sealed (region_of image region))) (not (list_any (names region) image)) free in
    (not-true (is_sealed (region_of image region)) both.0, not-true (list_any (names region) image) both.1)

-- a sealed region is a region of the disk
pub sealed_there : (image : Image) (lead : ℕ) → is_sealed (region_of image lead) ≡ true → lead < length image
sealed_there image lead is_open = by (cases_lt lead (length image))
  where
    by : (lead < length image) ⊎ (length image ≤ lead) → lead < length image
    by (inl h) = h
    by (inr h) = absurd (true≢false (sym is_open ∙ ap is_sealed (past image lead h)))

-- what a sealed region names is named
pub named : (image : Image) (region lead : ℕ) → is_sealed (region_of image lead) ≡ true → list_any (nat_eq region) (continuations (header_at (region_of image lead))) ≡ true → list_any (names region) image ≡ true
named image region lead is_open there =
    list_any_at (names region) image lead [] (sealed_there image lead is_open)
    (subst (λ bytes. names region bytes ≡ true) (unwrap_or-slice_get image lead []) (ap (λ b. b && list_any (nat_eq region) (continuations (header_at (region_of image lead)))) is_open ∙ there))

pub free_law : FreeLaw
free_law region_len image region lead header free has =
    let g = good region_len (length image) lead (region_of image lead) header has in
    let f = free_parts image region free in
    ap (λ b. b || list_any (nat_eq region) (continuations header)) (ne_eqb region lead (λ e. true≢false (sym g.is_open ∙ ap (λ k. is_sealed (region_of image k)) (sym e) ∙ f.0)))
    ∙ false_from_ne_true (list_any (nat_eq region) (continuations header))
    (λ there. true≢false (sym (named image region lead g.is_open (ap (λ h. list_any (nat_eq region) (continuations h)) g.read ∙ there)) ∙ f.1))

-- ---- a change in a free region

alike_bodies : (f g : ℕ → List ℕ) (regions : List ℕ) → AllByRecursion (λ region. f region ≡ g region) regions → flat_map f regions ≡ flat_map g regions
alike_bodies f g [] all = refl
alike_bodies f g (r ∷ regions) all = ap (λ xs. xs ++ flat_map f regions) all.0 ∙ ap (λ xs. g r ++ xs) (alike_bodies f g regions all.1)

module _ (region_len region : ℕ) (old new : Image) (d : DiffersAt region old new) where
  other_region : (other : ℕ) → nat_eq region other ≡ false → region_of new other ≡ region_of old other
  other_region other apart = d.others other (λ e. true≢false (sym (eq-eqb region other (sym e)) ∙ apart))

  -- a partition without the region
  abbrev pub IsWithout : ℕ → Header → Type 0
  IsWithout lead header = list_any (nat_eq region) (lead ∷ continuations header) ≡ false

  pub header_stays : (lead : ℕ) (header : Header) → IsWithout lead header → HasHeader region_len old lead header → HasHeader region_len new lead header
  header_stays lead header without has =
      let apart = or_parts (nat_eq region lead) (list_any (nat_eq region) (continuations header)) without in
      ap (λ n. header_in region_len n lead (region_of new lead)) d.as_many ∙ ap (header_in region_len (length old) lead) (other_region lead apart.0) ∙ has

  body_stays : (lead : ℕ) (header : Header) → IsWithout lead header → body_in new lead header ≡ body_in old lead header
  unfolding body_in
  body_stays lead header without =
      let apart = or_parts (nat_eq region lead) (list_any (nat_eq region) (continuations header)) without in
      ap (λ bytes. drop (body_start header.mark) bytes ++ flat_map (λ r. drop 1 (region_of new r)) (continuations header)) (other_region lead apart.0)
      ∙ ap (λ bytes. drop (body_start header.mark) (region_of old lead) ++ bytes)
      (alike_bodies (λ r. drop 1 (region_of new r)) (λ r. drop 1 (region_of old r)) (continuations header)
      (all_map (λ r. nat_eq region r ≡ false) (λ r. drop 1 (region_of new r) ≡ drop 1 (region_of old r)) (λ r h. ap (drop 1) (other_region r h)) (continuations header) (any_none (nat_eq region) (continuations header) apart.1)))

  pub sealed_stays : (lead : ℕ) (range : Range) (rows : List Row) (s : IsSealed region_len old lead range rows) → IsWithout lead s.header → IsSealed region_len new lead range rows
  sealed_stays lead range rows s without = record {
    header = s.header;
    has_header = header_stays lead s.header without s.has_header;
    of_range = s.of_range;
    of_rows = s.of_rows;
    rows_fit = s.rows_fit;
    ordered = s.ordered;
    spelled = (s.spelled.0, body_stays lead s.header without ∙ s.spelled.1);
  }

  module _ (free : is_free old region ≡ true) where
    pub header_kept : (lead : ℕ) (header : Header) → HasHeader region_len old lead header → HasHeader region_len new lead header
    header_kept lead header has = header_stays lead header (free_law region_len old region lead header free has) has

    pub sealed_kept : (lead : ℕ) (range : Range) (rows : List Row) → IsSealed region_len old lead range rows → IsSealed region_len new lead range rows
    sealed_kept lead range rows s = sealed_stays lead range rows s (free_law region_len old region lead s.header free s.has_header)

    pub rows_kept : (parts : List Part) (rows : List Row) → AreRowsOf region_len old parts rows → AreRowsOf region_len new parts rows
    unfolding AreRowsOf
    rows_kept [] rows are = are
    rows_kept (p ∷ parts) rows are = (are.0, are.1, are.2, sealed_kept p.region p.header.range are.0 are.3, rows_kept parts are.1 are.4)

-- Images that differ at the gates of retired parts show the same.
use Rattle.std.proofs.Common.{◌≡◌, ◌≢◌, ℕ, suc, ◌<◌, Bool, true, false, ◌||◌, List, [], ◌∷◌, length, drop, set, Ok, refl, sym, ap, subst, ◌∙◌, inl, inr, arith, true≢false}
use Rattle.std.specs.Prelude.{nat_eq}
use Rattle.std.specs.List.{AllByRecursion, list_any}
use Rattle.std.proofs.lemmas.Bool.{cases_eq, eqb-true, or_parts}
use Rattle.std.proofs.lemmas.List.{length-set, get_or-set_other}
use Rattle.std.proofs.lemmas.Option.{unwrap_or-slice_get}
use Rattle.fine_model.specs.declared.Header.{Header}
use Rattle.fine_model.specs.declared.Row.{Row}
use Rattle.fine_model.specs.declared.Part.{Part}
use Rattle.fine_model.specs.Regions.{Image, region_of, is_sealed, sealed_gate, HasHeader}
use Rattle.fine_model.specs.Chain.{AreRowsOf, Shows, chain}
use Rattle.fine_model.specs.ChainLaws.{IsFreed}
use Rattle.fine_model.proofs.Chain.Free.{sealed_there}
use Rattle.fine_model.proofs.Chain.Freed.{freed_law}
use Rattle.fine_model.proofs.Chain.Headers.{good}
use Rattle.log_disk.proofs.Writes.{region_of-set_same}
use Rattle.epoch_room.specs.Closing.{DiffersAtGates}

-- what an image shows of the parts of a chain, another one shows too; and its headers, but for those of some regions
pub record ShowsStill (region_len : ℕ) (leads : List ℕ) (old new : Image) (parts : List Part) : Type 0 where
  pub is_chain : chain region_len new ≡ Ok parts
  pub headers : (lead : ℕ) (header : Header) → list_any (nat_eq lead) leads ≡ false → HasHeader region_len old lead header → HasHeader region_len new lead header
  pub rows : (rows : List Row) → AreRowsOf region_len old parts rows → AreRowsOf region_len new parts rows
  pub shown : (e : ℕ) (rows : List Row) → Shows region_len old e rows → Shows region_len new e rows

-- a region is the lead of a partition, and of none of these parts
pub record LeadsBeside (region_len : ℕ) (image : Image) (parts : List Part) (lead : ℕ) : Type 0 where
  pub header : Header
  pub has_header : HasHeader region_len image lead header
  pub beside : AllByRecursion (λ p. p.region ≢ lead) parts

-- of two sealed regions with the same behind the gate, each byte is the same
sealed_same : (xs ys : List ℕ) → is_sealed xs ≡ true → is_sealed ys ≡ true → drop 1 xs ≡ drop 1 ys → xs ≡ ys
sealed_same [] ys a b e = absurd (true≢false (sym a))
sealed_same (x ∷ xs) [] a b e = absurd (true≢false (sym b))
sealed_same (x ∷ xs) (y ∷ ys) a b e =
    let p : x ≡ sealed_gate = eqb-true x sealed_gate a in
    let q : y ≡ sealed_gate = eqb-true y sealed_gate b in
    ap (λ z. z ∷ xs) (p ∙ sym q) ∙ ap (λ zs. y ∷ zs) e

header_sealed : (region_len : ℕ) (image : Image) (lead : ℕ) (header : Header) → HasHeader region_len image lead header → is_sealed (region_of image lead) ≡ true
header_sealed region_len image lead header has = (good region_len (length image) lead (region_of image lead) header has).is_open

other_than : (r lead : ℕ) → r ≢ lead → nat_eq r lead ≡ false
other_than r lead ne = grind (arith, ne)

-- one region less in which they may differ
fewer_gates : (lead : ℕ) (leads : List ℕ) (old new : Image) → DiffersAtGates (lead ∷ leads) old new → region_of new lead ≡ region_of old lead → DiffersAtGates leads old new
fewer_gates lead leads old new d same = record {
  as_many = d.as_many;
  others = λ r h. elim (cases_eq r lead) as (λ _. region_of new r ≡ region_of old r) [
    | inl is ↦ subst (λ n. region_of new n ≡ region_of old n) (sym is) same
    | inr ne ↦ d.others r (ap (λ b. b || list_any (nat_eq r) leads) (other_than r lead ne) ∙ h)
  ];
  lengths = d.lengths;
  behind = d.behind;
}

again_gates : (lead : ℕ) (leads : List ℕ) (old new : Image) → DiffersAtGates (lead ∷ leads) old new → list_any (nat_eq lead) leads ≡ true → DiffersAtGates leads old new
again_gates lead leads old new d there = record {
  as_many = d.as_many;
  others = λ r h. d.others r (ap (λ b. b || list_any (nat_eq r) leads) (other_than r lead (λ is. true≢false (sym there ∙ ap (λ n. list_any (nat_eq n) leads) (sym is) ∙ h))) ∙ h);
  lengths = d.lengths;
  behind = d.behind;
}

module _ (region_len lead : ℕ) (leads : List ℕ) (old new : Image) (parts : List Part) (is_chain : chain region_len old ≡ Ok parts) (differs : DiffersAtGates (lead ∷ leads) old new) (own : LeadsBeside region_len old parts lead) (shut : is_sealed (region_of new lead) ≡ false) where
  there : lead < length old
  there = sealed_there old lead (header_sealed region_len old lead own.header own.has_header)

  abbrev mid : Image
  mid = set old lead (region_of new lead)

  mid_long : length mid ≡ length old
  mid_long = length-set old lead (region_of new lead)

  mid_own : region_of mid lead ≡ region_of new lead
  mid_own = region_of-set_same old lead (region_of new lead) there

  mid_other : (r : ℕ) → r ≢ lead → region_of mid r ≡ region_of old r
  mid_other r ne = unwrap_or-slice_get mid r [] ∙ get_or-set_other old lead r (region_of new lead) [] ne ∙ sym (unwrap_or-slice_get old r [])

  freed : IsFreed region_len lead old mid parts own.header
  freed = freed_law region_len lead old mid parts own.header (record { differs = record { as_many = mid_long; others = mid_other }; is_chain = is_chain; has_header = own.has_header; beside = own.beside; closed = ap is_sealed mid_own ∙ shut })

  mid_gates : DiffersAtGates leads mid new
  mid_gates = record {
    as_many = differs.as_many ∙ sym mid_long;
    others = λ r h. elim (cases_eq r lead) as (λ _. region_of new r ≡ region_of mid r) [
      | inl is ↦ subst (λ n. region_of new n ≡ region_of mid n) (sym is) (sym mid_own)
      | inr ne ↦ differs.others r (ap (λ b. b || list_any (nat_eq r) leads) (other_than r lead ne) ∙ h) ∙ sym (mid_other r ne)
    ];
    lengths = λ r. elim (cases_eq r lead) as (λ _. length (region_of new r) ≡ length (region_of mid r)) [
      | inl is ↦ subst (λ n. length (region_of new n) ≡ length (region_of mid n)) (sym is) (ap length (sym mid_own))
      | inr ne ↦ differs.lengths r ∙ ap length (sym (mid_other r ne))
    ];
    behind = λ r. elim (cases_eq r lead) as (λ _. drop 1 (region_of new r) ≡ drop 1 (region_of mid r)) [
      | inl is ↦ subst (λ n. drop 1 (region_of new n) ≡ drop 1 (region_of mid n)) (sym is) (ap (drop 1) (sym mid_own))
      | inr ne ↦ differs.behind r ∙ ap (drop 1) (sym (mid_other r ne))
    ];
  }

  mid_leads : (some : List ℕ) → list_any (nat_eq lead) some ≡ false → AllByRecursion (LeadsBeside region_len old parts) some → AllByRecursion (LeadsBeside region_len mid parts) some
  mid_leads [] none all = tt
  mid_leads (l ∷ some) none all =
      let both = or_parts (nat_eq lead l) (list_any (nat_eq lead) some) none in
      (record { header = all.0.header; has_header = freed.headers l all.0.header (apart lead l both.0) all.0.has_header; beside = all.0.beside }, mid_leads some both.1 all.1)
    where
      apart : (m n : ℕ) → nat_eq m n ≡ false → n ≢ m
      apart m n e = grind (arith, e)

  then_still : ShowsStill region_len leads mid new parts → ShowsStill region_len (lead ∷ leads) old new parts
  then_still rest = record {
    is_chain = rest.is_chain;
    headers = λ l header h has. let both = or_parts (nat_eq l lead) (list_any (nat_eq l) leads) h in rest.headers l header both.1 (freed.headers l header (apart l lead both.0) has);
    rows = λ rows are. rest.rows rows (freed.rows rows are);
    shown = λ e rows shows. rest.shown e rows (freed.shown e rows shows);
  }
    where
      apart : (m n : ℕ) → nat_eq m n ≡ false → m ≢ n
      apart m n e = grind (arith, e)

more_leads : (region_len lead : ℕ) (leads : List ℕ) (old new : Image) (parts : List Part) → ShowsStill region_len leads old new parts → ShowsStill region_len (lead ∷ leads) old new parts
more_leads region_len lead leads old new parts still = record {
  is_chain = still.is_chain;
  headers = λ l header h has. still.headers l header (or_parts (nat_eq l lead) (list_any (nat_eq l) leads) h).1 has;
  rows = still.rows;
  shown = still.shown;
}

same_regions : (old new : Image) → DiffersAtGates [] old new → (r : ℕ) → region_of new r ≡ region_of old r
same_regions old new d r = d.others r refl

-- images with the same regions are the same
same_image : (old new : Image) → length new ≡ length old → ((r : ℕ) → region_of new r ≡ region_of old r) → new ≡ old
same_image [] [] long same = refl
same_image [] (x ∷ new) long same = absurd (omega (arith, long))
same_image (x ∷ old) [] long same = absurd (omega (arith, long))
same_image (x ∷ old) (y ∷ new) long same = ap (λ z. z ∷ new) (same 0) ∙ ap (λ zs. x ∷ zs) (same_image old new (omega (arith, long)) (λ r. same (suc r)))

-- whichever of these gates are closed, the chain, its rows and all that is shown stay
pub gates_still : (region_len : ℕ) (leads : List ℕ) (old new : Image) (parts : List Part) → chain region_len old ≡ Ok parts → DiffersAtGates leads old new → AllByRecursion (LeadsBeside region_len old parts) leads → ShowsStill region_len leads old new parts
gates_still region_len [] old new parts is_chain differs own =
    subst (λ (i : Image). ShowsStill region_len [] old i parts) (sym (same_image old new differs.as_many (same_regions old new differs)))
    (record { is_chain = is_chain; headers = λ lead header h has. has; rows = λ rows are. are; shown = λ e rows shows. shows })
gates_still region_len (lead ∷ leads) old new parts is_chain differs own =
    by (list_any (nat_eq lead) leads) refl (is_sealed (region_of new lead)) refl (λ d. gates_still region_len leads old new parts is_chain d own.1)
    (λ mid chained d all. gates_still region_len leads mid new parts chained d all)
  where
    by : (b : Bool) → list_any (nat_eq lead) leads ≡ b → (s : Bool) → is_sealed (region_of new lead) ≡ s → (DiffersAtGates leads old new → ShowsStill region_len leads old new parts)
        → ((mid : Image) → chain region_len mid ≡ Ok parts → DiffersAtGates leads mid new → AllByRecursion (LeadsBeside region_len mid parts) leads → ShowsStill region_len leads mid new parts)
        → ShowsStill region_len (lead ∷ leads) old new parts
    by true e s f same rest = more_leads region_len lead leads old new parts (same (again_gates lead leads old new differs e))
    by false e true f same rest =
        more_leads region_len lead leads old new parts
        (same (fewer_gates lead leads old new differs (sealed_same (region_of new lead) (region_of old lead) f (header_sealed region_len old lead own.0.header own.0.has_header) (differs.behind lead))))
    by false e false f same rest =
        then_still region_len lead leads old new parts is_chain differs own.0 f
        (rest (set old lead (region_of new lead)) (freed region_len lead leads old new parts is_chain differs own.0 f).same_chain (mid_gates region_len lead leads old new parts is_chain differs own.0 f)
        (mid_leads region_len lead leads old new parts is_chain differs own.0 f leads e own.1))

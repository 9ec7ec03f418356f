-- The gate of a partition beside the chain is closed.
use Rattle.std.proofs.Common.{◌≡◌, ◌≢◌, ◌⊎◌, inl, inr, ℕ, zero, suc, ◌+◌, ◌≤◌, ◌==◌, nat_eq, nat_lt, Bool, true, false, not, ◌&&◌, ◌||◌, List, [], ◌∷◌, ◌++◌, length, get_or, refl, sym, ap, ◌∙◌, subst, Some, None, Ok, Err, arith, true≢false, eqb-true, eq-eqb, ne_eqb}
use Rattle.std.specs.Prelude.{Option, Result, filter}
use Rattle.std.specs.List.{AllByRecursion, list_any, range_with_len}
use Rattle.std.proofs.lemmas.Bool.{cases_eq, cases_order, and_parts, and_left, and_right, or_parts, or_right, or_from, false_from_ne_true}
use Rattle.std.proofs.lemmas.Option.{unwrap_or-slice_get}
use Rattle.std.proofs.lemmas.List.Elements.{filter_agree}
use Rattle.fine_model.specs.Types.{Row, Range, Header, Part, Damage}
use Rattle.fine_model.specs.Types.damage
use Rattle.fine_model.specs.Regions.{Image, region_of, is_sealed, continuations, header_at, bad_field, header_in, HasHeader, IsSealed}
use Rattle.fine_model.specs.Chain.{parts_from, is_taken_from, bad_continuation, regions_of, taken, fault_beside, chain, is_free, free_regions, AreRowsOf, Shows}
use Rattle.fine_model.specs.ChainLaws.{DiffersAt, part_of, IsClosedBeside, IsFreed, FreedLaw, AreRetired, IsErased, ErasedLaw}
use Rattle.fine_model.proofs.Ordered.Order.{all_map}
use Rattle.fine_model.proofs.Ordered.Parts.{all_both}
use Rattle.fine_model.proofs.Ordered.Zip.{all_left, all_right}
use Rattle.fine_model.proofs.Ordered.Sets.{all_append}
use Rattle.fine_model.proofs.Ordered.Nothing.{any_none, none_any}
use Rattle.fine_model.proofs.Chain.Headers.{Good, good, header_good, header_bad}
use Rattle.fine_model.proofs.Chain.Images.{Split, split, before_is, after_is, and_then_ok, parts_none, parts_bad, parts_good, OneFewer, parts_unsealed, names, named_alike}
use Rattle.fine_model.proofs.Chain.Free.{sealed_there, header_stays, sealed_stays}
use Rattle.fine_model.proofs.Chain.Chains.{Walked}
use Rattle.fine_model.proofs.Chain.ReadChain.{ReadChain, read_chain, chain_read, have_headers, header_ordered, own, none_bad}
use Rattle.fine_model.proofs.Chain.ChainFacts.{Fact, no_lead, no_lower, all_facts}
use Rattle.fine_model.proofs.Chain.Fewer.{walk_fewer}

-- ---- each sealed region has its part

record PartAt (P : Part → Type 0) (region_len regions k : ℕ) (image : Image) (i : ℕ) : Type 0 where
  part : Part
  holds : P part
  region : part.region ≡ k + i
  has : header_in region_len regions part.region (region_of image i) ≡ Ok (Some part.header)

-- a sealed region's header is not none
not_none : (region_len regions k : ℕ) (bytes : List ℕ) → is_sealed bytes ≡ true → header_in region_len regions k bytes ≡ Ok None → ⊥
unfolding header_in
not_none region_len regions k bytes is_open is = by (bad_field region_len regions k bytes) refl
  where
    by : (o : Option ℕ) → bad_field region_len regions k bytes ≡ o → ⊥
    by None e = let c : ◌≡◌ {A = Result (Option Header) ℕ} (Ok (Some (header_at bytes))) (Ok None) = sym (header_good region_len regions k bytes is_open e) ∙ is in absurd cc
    by (Some at) e = let c : ◌≡◌ {A = Result (Option Header) ℕ} (Err at) (Ok None) = sym (header_bad region_len regions k at bytes is_open e) ∙ is in absurd cc

module _ (P : Part → Type 0) (region_len regions : ℕ) where
  deeper : (k : ℕ) (bytes : List ℕ) (image : Image) (j : ℕ) → PartAt P region_len regions (k + 1) image j → PartAt P region_len regions k (bytes ∷ image) (suc j)
  deeper k bytes image j f = let at = f.region in record { part = f.part; holds = f.holds; region = omega (arith, at); has = f.has }

  part_at : (k : ℕ) (image : Image) (parts : List Part) → parts_from region_len regions k image ≡ Ok parts → AllByRecursion P parts
      → (i : ℕ) → is_sealed (region_of image i) ≡ true → PartAt P region_len regions k image i
  part_at k [] parts is all i is_open = absurd (true≢false (sym is_open))
  part_at k (bytes ∷ image) parts is all i is_open =
      by (header_in region_len regions k bytes) refl i is_open (λ ps was each j opens. part_at (k + 1) image ps was each j opens)
    where
      by : (r : Result (Option Header) ℕ) → header_in region_len regions k bytes ≡ r → (i : ℕ) → is_sealed (region_of (bytes ∷ image) i) ≡ true
          → ((ps : List Part) → parts_from region_len regions (k + 1) image ≡ Ok ps → AllByRecursion P ps → (j : ℕ) → is_sealed (region_of image j) ≡ true → PartAt P region_len regions (k + 1) image j)
          → PartAt P region_len regions k (bytes ∷ image) i
      by (Err at) e i opens rest = absurd (let c : ◌≡◌ {A = Result (List Part) Damage} (Err (damage.Region k at)) (Ok parts) = sym (parts_bad region_len regions k at bytes image e) ∙ is in cc)
      by (Ok None) e zero opens rest = absurd (not_none region_len regions k bytes opens e)
      by (Ok None) e (suc j) opens rest = deeper k bytes image j (rest parts (sym (parts_none region_len regions k bytes image e) ∙ is) all j opens)
      by (Ok (Some h)) e i opens rest =
          let o = and_then_ok (parts_from region_len regions (k + 1) image) (λ ps. Ok (part_of k h ∷ ps)) parts (sym (parts_good region_len regions k bytes h image e) ∙ is) in
          let c = o.2 in
          let whole : part_of k h ∷ o.0 ≡ parts = cc in
          let each = subst (AllByRecursion P) (sym whole) all in
          of i opens each.0 (λ j opens'. rest o.0 o.1 each.1 j opens')
        where
          of : (i : ℕ) → is_sealed (region_of (bytes ∷ image) i) ≡ true → P (part_of k h) → ((j : ℕ) → is_sealed (region_of image j) ≡ true → PartAt P region_len regions (k + 1) image j) → PartAt P region_len regions k (bytes ∷ image) i
          of zero opens' here more = record { part = part_of k h; holds = here; region = omega arith; has = e }
          of (suc j) opens' here more = deeper k bytes image j (more j opens')

-- a place where a test passes
any_place : {A : Type 0} (p : A → Bool) (xs : List A) (d : A) → list_any p xs ≡ true → (k : ℕ) × (p (get_or xs k d) ≡ true)
any_place p [] d there = absurd (true≢false (sym there))
any_place {A} p (x ∷ xs) d there = by (p x) refl there (any_place p xs d)
  where
    by : (b : Bool) → p x ≡ b → (b || list_any p xs) ≡ true → (list_any p xs ≡ true → (k : ℕ) × (p (get_or xs k d) ≡ true)) → (k : ℕ) × (p (get_or (x ∷ xs) k d) ≡ true)
    by true e h rest = (0, e)
    by false e h rest = let r = rest h in (suc r.0, r.1)

fewer : {A : Type 0} (P : A → Type 0) (left : List A) (x : A) (right : List A) → AllByRecursion P (left ++ x ∷ right) → AllByRecursion P (left ++ right)
fewer P left x right all = all_append P left right (all_left P left (x ∷ right) all) (all_right P left (x ∷ right) all).1

any_fewer : {A : Type 0} (p : A → Bool) (left : List A) (x : A) (right : List A) → list_any p (left ++ x ∷ right) ≡ false → list_any p (left ++ right) ≡ false
any_fewer p left x right none =
    none_any p (left ++ right) (fewer (λ y. p y ≡ false) left x right (any_none p (left ++ x ∷ right) none))

-- ---- the law

module _ (region_len region : ℕ) (old new : Image) (parts : List Part) (header : Header) (s : IsClosedBeside region_len region old new parts header) (c : ReadChain region_len old parts) where
  abbrev part : Part
  part = part_of region header

  is_good : Good region_len (length old) region (region_of old region) header
  is_good = good region_len (length old) region (region_of old region) header s.has_header

  -- the part of a sealed region, with what is known of it
  abbrev Known : Part → Type 0
  Known = Fact region_len old c.all

  part_of_region : (r : ℕ) → is_sealed (region_of old r) ≡ true → (p : Part) × Known p × (p.region ≡ r)
  part_of_region r is_open =
      let f = part_at Known region_len (length old) 0 old c.all c.are (all_facts region_len old parts c) r is_open in let at = f.region in (f.part, f.holds, omega (arith, at))

  same_header : (p : Part) → Known p → (r : ℕ) → p.region ≡ r → (h : Header) → HasHeader region_len old r h → p.header ≡ h
  same_header p f r e h has =
      let x : ◌≡◌ {A = Result (Option Header) ℕ} (Ok (Some p.header)) (Ok (Some h)) = sym f.has ∙ ap (λ k. header_in region_len (length old) k (region_of old k)) e ∙ has in cc

  known : Known part
  known =
      let g = is_good in let f = part_of_region region g.is_open in
      let e = same_header f.0 f.1 region f.2 header s.has_header in
      let at = f.2 in
      let same : f.0 ≡ part = λ i. record { region = at i; header = e i } in subst Known same f.1

  -- a partition in another region does not name the region
  without : (lead : ℕ) (h : Header) → lead ≢ region → HasHeader region_len old lead h → list_any (nat_eq region) (lead ∷ continuations h) ≡ false
  without lead h other has =
      or_from (nat_eq region lead) (list_any (nat_eq region) (continuations h)) (ne_eqb region lead (λ e. other (sym e)))
      (false_from_ne_true (list_any (nat_eq region) (continuations h)) (λ there.
      let g = good region_len (length old) lead (region_of old lead) h has in let f = part_of_region lead g.is_open in
      no_lead region_len old c.all f.0 part f.1 known (ap (λ x. list_any (nat_eq region) (continuations x)) (same_header f.0 f.1 lead f.2 h has) ∙ there)))

  headers_stay : (lead : ℕ) (h : Header) → lead ≢ region → HasHeader region_len old lead h → HasHeader region_len new lead h
  headers_stay lead h other has = header_stays region_len region old new s.differs lead h (without lead h other has) has

  leads_stay : (lead : ℕ) (range : Range) (rows : List Row) → lead ≢ region → IsSealed region_len old lead range rows → IsSealed region_len new lead range rows
  leads_stay lead range rows other sealed = sealed_stays region_len region old new s.differs lead range rows sealed (without lead sealed.header other sealed.has_header)

  rows_stay_of : (ps : List Part) (rows : List Row) → AllByRecursion (λ p. p.region ≢ region) ps → AreRowsOf region_len old ps rows → AreRowsOf region_len new ps rows
  unfolding AreRowsOf
  rows_stay_of [] rows others are = are
  rows_stay_of (p ∷ ps) rows others are = (are.0, are.1, are.2, leads_stay p.region p.header.range are.0 others.0 are.3, rows_stay_of ps are.1 others.1 are.4)

  -- ---- free regions

  differs : DiffersAt region old new
  differs = s.differs

  round_region : Split region old new
  round_region = let d = s.differs in let g = is_good in split region old new d.as_many d.others (sealed_there old region g.is_open)

  -- a region that the partition does not have is as free as before
  other_alike : (i : Split region old new) (r : ℕ) → nat_eq r region ≡ false → list_any (nat_eq r) (continuations header) ≡ false → is_free new r ≡ is_free old r
  unfolding is_free
  other_alike i r apart absent =
      let g = is_good in
      ap (λ b. not b && not (list_any (names r) new)) (ap is_sealed (differs.others r (λ e. true≢false (sym (eq-eqb r region e) ∙ apart))))
      ∙ ap (λ b. not (is_sealed (region_of old r)) && not b)
      (ap (list_any (names r)) i.new_is
      ∙ named_alike r i.front i.after i.before i.back (and_left (is_sealed i.after) (list_any (nat_eq r) (continuations (header_at i.after))) (ap is_sealed (sym (after_is region old new i)) ∙ s.closed))
      (and_right (is_sealed i.before) (list_any (nat_eq r) (continuations (header_at i.before))) (ap (λ x. list_any (nat_eq r) (continuations (header_at x))) (sym (before_is region old new i)) ∙ ap (λ h. list_any (nat_eq r) (continuations h)) g.read ∙ absent))
      ∙ ap (list_any (names r)) (sym i.old_is))

  abbrev IsIn : ℕ → Type 0
  IsIn r = (r ≡ region) ⊎ (list_any (nat_eq r) (continuations header) ≡ true)

  -- a region of the partition is closed
  now_closed : (r : ℕ) → IsIn r → is_sealed (region_of new r) ≡ false
  now_closed r (inl e) = ap (λ k. is_sealed (region_of new k)) e ∙ s.closed
  now_closed r (inr there) = false_from_ne_true (is_sealed (region_of new r)) (λ is_open. by is_open (cases_eq r region))
    where
      by : is_sealed (region_of new r) ≡ true → (r ≡ region) ⊎ (r ≢ region) → ⊥
      by is_open (inl e) = true≢false (sym is_open ∙ ap (λ k. is_sealed (region_of new k)) e ∙ s.closed)
      by is_open (inr other) =
          let f = part_of_region r (ap is_sealed (sym (differs.others r other)) ∙ is_open) in
          no_lead region_len old c.all part f.0 known f.1 (ap (λ k. list_any (nat_eq k) (continuations header)) f.2 ∙ there)

  -- and no sealed region names it
  none_names : (r : ℕ) → IsIn r → list_any (names r) new ≡ false
  none_names r in_it = false_from_ne_true (list_any (names r) new) (λ named. by (any_place (names r) new [] named))
    where
      by : (k : ℕ) × (names r (get_or new k []) ≡ true) → ⊥
      by (k, e) =
          let b = and_parts (is_sealed (region_of new k)) (list_any (nat_eq r) (continuations (header_at (region_of new k)))) (ap (names r) (unwrap_or-slice_get new k []) ∙ e) in
          of b.0 b.1 (cases_eq k region)
        where
          of : is_sealed (region_of new k) ≡ true → list_any (nat_eq r) (continuations (header_at (region_of new k))) ≡ true → (k ≡ region) ⊎ (k ≢ region) → ⊥
          of is_open there (inl same) = true≢false (sym is_open ∙ ap (λ n. is_sealed (region_of new n)) same ∙ s.closed)
          of is_open there (inr other) =
              let was : region_of new k ≡ region_of old k = differs.others k other in
              let f = part_of_region k (ap is_sealed (sym was) ∙ is_open) in
              let p = f.0 in let fact = f.1 in
              let g = good region_len (length old) p.region (region_of old p.region) p.header fact.has in
              let named : list_any (nat_eq r) (continuations p.header) ≡ true =
              ap (λ h. list_any (nat_eq r) (continuations h)) (sym g.read) ∙ ap (λ n. list_any (nat_eq r) (continuations (header_at (region_of old n)))) f.2 ∙ ap (λ x. list_any (nat_eq r) (continuations (header_at x))) (sym was) ∙ there in
              shared p fact (λ e. other (sym f.2 ∙ e)) named in_it
            where
              shared : (p : Part) → Known p → p.region ≢ region → list_any (nat_eq r) (continuations p.header) ≡ true → IsIn r → ⊥
              shared p fact other' named (inl e) = no_lead region_len old c.all p part fact known (ap (λ n. list_any (nat_eq n) (continuations p.header)) (sym e) ∙ named)
              shared p fact other' named (inr there') = elim (cases_order p.region region) as (λ _. ⊥) [
                | inl e ↦ other' e
                | inr (inl lower) ↦ no_lower region_len old c.all part p known fact lower r there' named
                | inr (inr lower) ↦ no_lower region_len old c.all p part fact known lower r named there'
              ]

  freed : (r : ℕ) → IsIn r → is_free new r ≡ true
  unfolding is_free
  freed r in_it = ap (λ b. not b && not (list_any (names r) new)) (now_closed r in_it) ∙ ap not (none_names r in_it)

  free_now : (r : ℕ) → (b d : Bool) → nat_eq r region ≡ b → list_any (nat_eq r) (continuations header) ≡ d → is_free new r ≡ (is_free old r || (b || d))
  unfolding is_free
  free_now r false false e f = other_alike round_region r e f ∙ or_false (is_free old r)
    where
      or_false : (b : Bool) → b ≡ (b || false)
      or_false true = refl
      or_false false = refl
  free_now r true d e f = freed r (inl (eqb-true r region e)) ∙ sym (or_right (is_free old r) true refl)
  free_now r false true e f = freed r (inr f) ∙ sym (or_right (is_free old r) true refl)

  regions_now : free_regions new ≡ filter (λ r. is_free old r || list_any (nat_eq r) (regions_of part)) (range_with_len 0 (length old))
  regions_now =
      ap (λ n. filter (is_free new) (range_with_len 0 n)) differs.as_many
      ∙ filter_agree (is_free new) (λ r. is_free old r || list_any (nat_eq r) (regions_of part)) (λ r. free_now r (nat_eq r region) (list_any (nat_eq r) (continuations header)) refl refl) (range_with_len 0 (length old))

  -- ---- the chain

  module _ (i : Split region old new) (less : OneFewer region_len (length old) 0 region i.front i.after i.back header c.all) where
    abbrev few : List Part
    few = less.left ++ less.right

    now : parts_from region_len (length new) 0 new ≡ Ok few
    now = ap (λ n. parts_from region_len n 0 new) differs.as_many ∙ ap (parts_from region_len (length old) 0) i.new_is ∙ less.are

    each_fewer : (P : Part → Type 0) → AllByRecursion P c.all → AllByRecursion P few
    each_fewer P all = fewer P less.left part less.right (subst (AllByRecursion P) less.were all)

    still_own : (q : Part) → bad_continuation c.all q ≡ None → bad_continuation few q ≡ None
    still_own q none =
        none_bad few q (all_map (λ r. is_taken_from (less.left ++ part ∷ less.right) q r ≡ false) (λ r. is_taken_from few q r ≡ false)
        (λ r h. let b = or_parts (list_any (λ p. p.region == r) (less.left ++ part ∷ less.right)) (list_any (λ p. nat_lt p.region q.region && list_any (nat_eq r) (continuations p.header)) (less.left ++ part ∷ less.right)) h in
        or_from (list_any (λ p. p.region == r) few) (list_any (λ p. nat_lt p.region q.region && list_any (nat_eq r) (continuations p.header)) few)
        (any_fewer (λ p. p.region == r) less.left part less.right b.0) (any_fewer (λ p. nat_lt p.region q.region && list_any (nat_eq r) (continuations p.header)) less.left part less.right b.1))
        (continuations q.header) (own (less.left ++ part ∷ less.right) q (subst (λ ps. bad_continuation ps q ≡ None) less.were none)))

    walked_now : Walked few parts
    walked_now =
        let w = c.walk in record {
          walk = walk_fewer less.left less.right part parts
              (each_fewer (λ q. q.header.range.first ≤ q.header.range.last)
              (all_map (λ q. HasHeader region_len old q.region q.header) (λ q. q.header.range.first ≤ q.header.range.last) (λ q has. header_ordered region_len old q has) c.all (have_headers region_len old c.all c.are)))
              s.beside (subst (λ ps. taken (length ps) ps 1 ≡ parts) less.were w.walk);
          faultless = each_fewer (λ q. fault_beside parts q ≡ None) w.faultless;
        }

    chain_now : chain region_len new ≡ Ok parts
    chain_now = chain_read region_len new parts (record {
      all = few;
      are = now;
      disjoint = all_map (λ q. bad_continuation c.all q ≡ None) (λ q. bad_continuation few q ≡ None) still_own few (each_fewer (λ q. bad_continuation c.all q ≡ None) c.disjoint);
      walk = walked_now;
    })

  chain_stays : chain region_len new ≡ Ok parts
  chain_stays =
      let i = round_region in
      chain_now i (parts_unsealed region_len (length old) 0 region i.front i.before i.after i.back header c.all (let a = i.at in omega (arith, a)) (ap is_sealed (sym (after_is region old new i)) ∙ s.closed)
      (ap (header_in region_len (length old) region) (sym (before_is region old new i)) ∙ s.has_header)
      (sym (ap (parts_from region_len (length old) 0) i.old_is) ∙ c.are))

  shown_stays : (e : ℕ) (rows : List Row) → Shows region_len old e rows → Shows region_len new e rows
  shown_stays e rows shows =
      let same : ◌≡◌ {A = Result (List Part) Damage} (Ok shows.parts) (Ok parts) = sym shows.is_chain ∙ s.is_chain in
      let are : shows.parts ≡ parts = cc in record {
        parts = shows.parts;
        is_chain = chain_stays ∙ sym same;
        ends = shows.ends;
        are_rows = rows_stay_of shows.parts rows (subst (AllByRecursion (λ p. p.region ≢ region)) (sym are) s.beside) shows.are_rows;
      }

  pub is_freed : IsFreed region_len region old new parts header
  is_freed = record {
    same_chain = chain_stays;
    freed = λ r. free_now r (nat_eq r region) (list_any (nat_eq r) (continuations header)) refl refl;
    regions = regions_now;
    headers = headers_stay;
    leads = leads_stay;
    rows = λ rows are. rows_stay_of parts rows s.beside are;
    shown = shown_stays;
  }

pub freed_law : FreedLaw
freed_law region_len region old new parts header s = is_freed region_len region old new parts header s (read_chain region_len old parts s.is_chain)

-- ---- one of several

module _ (region_len : ℕ) (old new : Image) (parts left : List Part) (erased : Part) (right : List Part) (s : IsErased region_len old new parts left erased right) where
  was : AreRetired region_len old parts (left ++ erased ∷ right)
  was = s.retired

  of_one : (P : Part → Type 0) → AllByRecursion P (left ++ erased ∷ right) → P erased
  of_one P all = (all_right P left (erased ∷ right) all).0

  freed_one : IsFreed region_len erased.region old new parts erased.header
  freed_one = let w = was in freed_law region_len erased.region old new parts erased.header (record {
    differs = s.differs;
    is_chain = w.is_chain;
    has_header = of_one (λ p. HasHeader region_len old p.region p.header) w.headers;
    beside = of_one (λ other. AllByRecursion (λ p. p.region ≢ other.region) parts) w.beside;
    closed = s.closed;
  })

  others_retired : AreRetired region_len new parts (left ++ right)
  others_retired =
      let w = was in let f = freed_one in record {
        is_chain = f.same_chain;
        headers = all_both (λ p. p.region ≢ erased.region) (λ p. HasHeader region_len old p.region p.header) (λ p. HasHeader region_len new p.region p.header) (λ p other has. f.headers p.region p.header other has) (left ++ right)
            s.once (fewer (λ p. HasHeader region_len old p.region p.header) left erased right w.headers);
        beside = fewer (λ other. AllByRecursion (λ p. p.region ≢ other.region) parts) left erased right w.beside;
      }

pub erased_law : ErasedLaw
erased_law region_len old new parts left erased right s =
    record { retired = others_retired region_len old new parts left erased right s; freed = freed_one region_len old new parts left erased right s }

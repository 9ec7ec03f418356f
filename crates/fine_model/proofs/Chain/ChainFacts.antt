-- What holds of the parts of each chain.
use Rattle.std.proofs.Common.{◌≡◌, ◌≢◌, ◌⊎◌, inl, inr, ℕ, zero, suc, ◌+◌, ◌<◌, ◌≤◌, ◌==◌, nat_eq, nat_lt, Bool, true, false, ◌&&◌, not, List, [], ◌∷◌, length, refl, sym, ap, ◌∙◌, subst, Some, None, Ok, arith, true≢false, eq-eqb, lt-ltb}
use Rattle.std.specs.Prelude.{Option, Result, flat_map}
use Rattle.std.specs.List.{AllByRecursion, list_any}
use Rattle.std.proofs.lemmas.Bool.{or_left, or_right, cases_Bool, cases_order, and_right}
use Rattle.fine_model.specs.Types.{Header, Part}
use Rattle.fine_model.specs.Regions.{Image, region_of, is_sealed, continuations, header_in, HasHeader}
use Rattle.fine_model.specs.Chain.{regions_of, is_taken_from, bad_continuation, is_free}
use Rattle.fine_model.specs.ChainLaws.{PartsFollow, IsPart, IsChain, ChainLaw, FreeOfChain}
use Rattle.fine_model.proofs.Ordered.Order.{all_map}
use Rattle.fine_model.proofs.Ordered.Parts.{all_both}
use Rattle.fine_model.proofs.Ordered.Nothing.{any_flat, all_at, each_there}
use Rattle.fine_model.proofs.Ordered.Times.{times, times-none, times-append, times-cons, times_distinct, absent_times}
use Rattle.fine_model.proofs.Chain.Headers.{Good, good, own_regions}
use Rattle.fine_model.proofs.Chain.Images.{names}
use Rattle.fine_model.proofs.Chain.Free.{sealed_there, named, free_law}
use Rattle.fine_model.proofs.Chain.Chains.{taken_all, taken_follow}
use Rattle.fine_model.proofs.Chain.ReadChain.{ReadChain, read_chain, have_headers, header_ordered, own}

any_here : (n : ℕ) (ns : List ℕ) → 1 ≤ times n ns → list_any (nat_eq n) ns ≡ true
any_here n ns here = elim (cases_Bool (list_any (nat_eq n) ns)) as (λ _. list_any (nat_eq n) ns ≡ true) [
  | inl e ↦ e
  | inr e ↦ let z = absent_times n ns e in absurd (omega (arith, z, here))
]

first_or : (n m : ℕ) (ns : List ℕ) → 1 ≤ times n (m ∷ ns) → (n ≡ m) ⊎ (list_any (nat_eq n) ns ≡ true)
first_or n m ns here = elim (times-cons n m ns) as (λ _. (n ≡ m) ⊎ (list_any (nat_eq n) ns ≡ true)) [
  | inl h ↦ inl h.0
  | inr h ↦ let e = h.1 in inr (any_here n ns (omega (arith, e, here)))
]

-- ---- parts among others

-- a test that passes a part finds one
abbrev pub In : List Part → Part → Type 0
In all p = (test : Part → Bool) → test p ≡ true → list_any test all ≡ true

all_in : (all : List Part) → AllByRecursion (In all) all
all_in [] = tt
all_in (p ∷ all) = (
  λ test passes. or_left (test p) (list_any test all) passes,
  all_map (In all) (In (p ∷ all)) (λ q h test passes. or_right (test p) (list_any test all) (h test passes)) all (all_in all),
)

module _ (region_len : ℕ) (image : Image) (all : List Part) where
  pub record Fact (p : Part) : Type 0 where
    pub has : HasHeader region_len image p.region p.header
    pub own : AllByRecursion (λ region. is_taken_from all p region ≡ false) (continuations p.header)
    pub here : In all p
    pub once : (n : ℕ) → times n (regions_of p) ≤ 1

  -- a part's continuations are no leads, and no continuations of parts in lower regions
  pub no_lead : (p q : Part) → Fact p → Fact q → list_any (nat_eq q.region) (continuations p.header) ≡ true → ⊥
  no_lead p q f g there =
      true≢false (sym (or_left (list_any (λ s. s.region == q.region) all) (list_any (λ s. nat_lt s.region p.region && list_any (nat_eq q.region) (continuations s.header)) all)
      (g.here (λ s. s.region == q.region) (eq-eqb q.region q.region refl)))
      ∙ all_at (λ region. is_taken_from all p region ≡ false) q.region (continuations p.header) f.own there)

  pub no_lower : (p q : Part) → Fact p → Fact q → q.region < p.region → (n : ℕ) → list_any (nat_eq n) (continuations p.header) ≡ true → list_any (nat_eq n) (continuations q.header) ≡ true → ⊥
  no_lower p q f g lower n there both =
      true≢false (sym (or_right (list_any (λ s. s.region == n) all) (list_any (λ s. nat_lt s.region p.region && list_any (nat_eq n) (continuations s.header)) all)
      (g.here (λ s. nat_lt s.region p.region && list_any (nat_eq n) (continuations s.header)) (ap (λ b. b && list_any (nat_eq n) (continuations q.header)) (lt-ltb q.region p.region lower) ∙ both)))
      ∙ all_at (λ region. is_taken_from all p region ≡ false) n (continuations p.header) f.own there)

  -- parts with two leads share no region
  pub sharing : (p q : Part) → Fact p → Fact q → p.region ≢ q.region → (n : ℕ) → 1 ≤ times n (regions_of p) → 1 ≤ times n (regions_of q) → ⊥
  sharing p q f g differ n in_p in_q = by (first_or n p.region (continuations p.header) in_p) (first_or n q.region (continuations q.header) in_q)
    where
      by : (n ≡ p.region) ⊎ (list_any (nat_eq n) (continuations p.header) ≡ true) → (n ≡ q.region) ⊎ (list_any (nat_eq n) (continuations q.header) ≡ true) → ⊥
      by (inl a) (inl b) = differ (sym a ∙ b)
      by (inl a) (inr b) = no_lead q p g f (subst (λ k. list_any (nat_eq k) (continuations q.header) ≡ true) a b)
      by (inr a) (inl b) = no_lead p q f g (subst (λ k. list_any (nat_eq k) (continuations p.header) ≡ true) b a)
      by (inr a) (inr b) = elim (cases_order p.region q.region) as (λ _. ⊥) [
        | inl e ↦ differ e
        | inr (inl lower) ↦ no_lower q p g f lower n b a
        | inr (inr lower) ↦ no_lower p q f g lower n a b
      ]

  -- and so do parts that begin at two epochs
  apart : (p q : Part) → Fact p → Fact q → p.header.range.first ≢ q.header.range.first → (n : ℕ) → 1 ≤ times n (regions_of p) → 1 ≤ times n (regions_of q) → ⊥
  apart p q f g differ = sharing p q f g same_lead
    where
      same_lead : p.region ≡ q.region → ⊥
      same_lead e =
          let h : ◌≡◌ {A = Result (Option Header) ℕ} (Ok (Some p.header)) (Ok (Some q.header)) =
          sym f.has ∙ ap (λ r. header_in region_len (length image) r (region_of image r)) e ∙ g.has in
          let same : p.header ≡ q.header = cc in differ (ap (λ h. h.range.first) same)

  none_later : (p : Part) → Fact p → (n : ℕ) → 1 ≤ times n (regions_of p) → (e : ℕ) (parts : List Part) → p.header.range.first ≤ e → PartsFollow e parts → AllByRecursion Fact parts → times n (flat_map regions_of parts) ≡ 0
  none_later p f n here e [] before follow facts = times-none n
  none_later p f n here e (q ∷ parts) before follow facts =
      let first = follow.0 in let ordered = follow.1 in
      let rest = none_later p f n here q.header.range.last parts (omega (arith, before, first, ordered)) follow.2 facts.1 in
      times-append n (regions_of q) (flat_map regions_of parts) ∙ ap (λ k. times n (regions_of q) + k) rest
      ∙ by (times n (regions_of q)) refl
    where
      by : (k : ℕ) → times n (regions_of q) ≡ k → times n (regions_of q) + 0 ≡ 0
      by zero e' = omega (arith, e')
      by (suc k) e' = let first = follow.0 in absurd (apart p q f facts.0 (λ same. absurd (omega (arith, same, first, before))) n here (omega (arith, e')))

  once_each : (e : ℕ) (parts : List Part) → PartsFollow e parts → AllByRecursion Fact parts → (n : ℕ) → times n (flat_map regions_of parts) ≤ 1
  once_each e [] follow facts n = let z = times-none n in omega (arith, z)
  once_each e (p ∷ parts) follow facts n = by (times n (regions_of p)) refl (times-append n (regions_of p) (flat_map regions_of parts)) (once_each p.header.range.last parts follow.2 facts.1 n)
    where
      by : (k : ℕ) → times n (regions_of p) ≡ k → times n (flat_map regions_of (p ∷ parts)) ≡ times n (regions_of p) + times n (flat_map regions_of parts)
          → times n (flat_map regions_of parts) ≤ 1 → times n (flat_map regions_of (p ∷ parts)) ≤ 1
      by zero e' joined rest = omega (arith, e', joined, rest)
      by (suc k) e' joined rest =
          let f = facts.0 in
          let one = f.once n in
          let none = none_later p f n (omega (arith, e')) p.header.range.last parts follow.1 follow.2 facts.1 in omega (arith, one, joined, none)

-- ---- the law

module _ (region_len : ℕ) (image : Image) (parts : List Part) (c : ReadChain region_len image parts) where
  headers : AllByRecursion (λ p. HasHeader region_len image p.region p.header) c.all
  headers = have_headers region_len image c.all c.are

  kept : (P : Part → Type 0) → AllByRecursion P c.all → AllByRecursion P parts
  kept P all = let w = c.walk in subst (AllByRecursion P) w.walk (taken_all P (length c.all) c.all 1 all)

  is_good : (p : Part) → HasHeader region_len image p.region p.header → Good region_len (length image) p.region (region_of image p.region) p.header
  is_good p has = good region_len (length image) p.region (region_of image p.region) p.header has

  pub all_facts : AllByRecursion (Fact region_len image c.all) c.all
  all_facts =
      all_both (λ p. HasHeader region_len image p.region p.header) (λ p. (bad_continuation c.all p ≡ None) × In c.all p) (Fact region_len image c.all)
      (λ p has h. let o = own_regions region_len (length image) p.region (region_of image p.region) p.header (is_good p has) in record { has = has; own = own c.all p h.0; here = h.1; once = o.once })
      c.all headers
      (all_both (λ p. bad_continuation c.all p ≡ None) (In c.all) (λ p. (bad_continuation c.all p ≡ None) × In c.all p) (λ p none here. (none, here)) c.all c.disjoint (all_in c.all))

  pub facts : AllByRecursion (Fact region_len image c.all) parts
  facts = kept (Fact region_len image c.all) all_facts

  follow : PartsFollow 0 parts
  follow =
      let w = c.walk in
      subst (PartsFollow 0) w.walk
      (taken_follow (length c.all) c.all 0 (all_map (λ p. HasHeader region_len image p.region p.header) (λ p. p.header.range.first ≤ p.header.range.last) (λ p has. header_ordered region_len image p has) c.all headers))

  -- no region of a part is free
  lead_taken : (region : ℕ) → is_sealed (region_of image region) ≡ true → is_free image region ≡ false
  unfolding is_free
  lead_taken region is_open = ap (λ b. not b && not (list_any (names region) image)) is_open

  named_taken : (region : ℕ) → list_any (names region) image ≡ true → is_free image region ≡ false
  unfolding is_free
  named_taken region there = and_right (not (is_sealed (region_of image region))) (not (list_any (names region) image)) (ap not there)

  part_of_image : (p : Part) → HasHeader region_len image p.region p.header → IsPart region_len image p
  part_of_image p has =
      let g = is_good p has in
      let o = own_regions region_len (length image) p.region (region_of image p.region) p.header g in record {
        has_header = has;
        regions = (
          (sealed_there image p.region g.is_open, lead_taken p.region g.is_open),
          all_both (λ r. r < length image) (λ r. list_any (nat_eq r) (continuations p.header) ≡ true) (λ r. (r < length image) × (is_free image r ≡ false))
              (λ r low there. (low, named_taken r (named image r p.region g.is_open (ap (λ h. list_any (nat_eq r) (continuations h)) g.read ∙ there)))) (continuations p.header)
              o.there (each_there (continuations p.header)),
        );
      }

  pub each_part : AllByRecursion (IsPart region_len image) c.all
  each_part = all_map (λ p. HasHeader region_len image p.region p.header) (IsPart region_len image) part_of_image c.all headers

  is_chain : IsChain region_len image parts
  is_chain = record {
    follow = follow;
    each = kept (IsPart region_len image) each_part;
    distinct = times_distinct (flat_map regions_of parts) (once_each region_len image c.all 0 parts follow facts);
  }

  free_of : (region : ℕ) → is_free image region ≡ true → list_any (nat_eq region) (flat_map regions_of parts) ≡ false
  free_of region free =
      any_flat (nat_eq region) regions_of parts
      (kept (λ p. list_any (nat_eq region) (regions_of p) ≡ false)
      (all_map (λ p. HasHeader region_len image p.region p.header) (λ p. list_any (nat_eq region) (regions_of p) ≡ false) (λ p has. free_law region_len image region p.region p.header free has) c.all headers))

pub chain_law : ChainLaw
chain_law region_len image parts is = is_chain region_len image parts (read_chain region_len image parts is)

pub free_of_chain : FreeOfChain
free_of_chain region_len image region parts free is = free_of region_len image parts (read_chain region_len image parts is) region free

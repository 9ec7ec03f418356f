-- The law of a free region that takes the place of neighbours on the chain.
use Rattle.std.proofs.Common.{◌≡◌, ◌≢◌, ℕ, ◌+◌, ◌≤◌, ◌<◌, List, [], ◌∷◌, ◌++◌, length, refl, sym, ap, ◌∙◌, subst, None, Ok, arith, length-append, append_assoc}
use Rattle.std.specs.Prelude.{flat_map}
use Rattle.std.specs.List.{AllByRecursion}
use Rattle.std.proofs.lemmas.Bool.{cases_eq}
use Rattle.std.proofs.lemmas.List.Sums.{fold-append}
use Rattle.std.proofs.lemmas.Grind.{flat_map-append}
use Rattle.fine_model.specs.Types.{Row, Header, Part}
use Rattle.fine_model.specs.Regions.{Image, continuations, HasHeader, IsSealed}
use Rattle.fine_model.specs.Chain.{regions_of, chain_end, fault_beside, chain, AreRowsOf}
use Rattle.fine_model.specs.ChainLaws.{part_of, PartsFollow, IsPart, IsChain, AreRetired, IsOpenedOver, ReplaceLaw, RowsSplit, RowsJoin}
use Rattle.fine_model.proofs.Ordered.Order.{all_map}
use Rattle.fine_model.proofs.Ordered.Sets.{all_append}
use Rattle.fine_model.proofs.Ordered.Zip.{all_left, all_right}
use Rattle.fine_model.proofs.Ordered.Times.{times, times-append, times-same, distinct_times}
use Rattle.fine_model.proofs.Chain.Free.{header_kept, sealed_kept, rows_kept}
use Rattle.fine_model.proofs.Chain.Chains.{follow_end, Walked, end_from}
use Rattle.fine_model.proofs.Chain.Sealing.{round}
use Rattle.fine_model.proofs.Chain.ChainFacts.{chain_law}
use Rattle.fine_model.proofs.Chain.ReadChain.{header_ordered}
use Rattle.fine_model.proofs.Chain.Opened.{IsOpened, Inserted, inserted, lead_free, free_now, left_now, still_retired}
use Rattle.fine_model.proofs.Chain.Replacing.{walk_ends, walk_replaced, taken_walks, no_fault_itself, no_fault_now}

-- ---- rows of parts

pub rows_split : RowsSplit
unfolding AreRowsOf
rows_split region_len image [] back rows are = record { first = []; second = rows; joined = refl; of_front = refl; of_back = are }
rows_split region_len image (p ∷ front) back rows are =
    let rest = rows_split region_len image front back are.1 are.4 in record {
      first = are.0 ++ rest.first;
      second = rest.second;
      joined = are.2 ∙ ap (λ more. are.0 ++ more) rest.joined ∙ sym (append_assoc are.0 rest.first rest.second);
      of_front = (are.0, rest.first, refl, are.3, rest.of_front);
      of_back = rest.of_back;
    }

pub rows_join : RowsJoin
unfolding AreRowsOf
rows_join region_len image [] back a b of_front of_back = subst (λ none. AreRowsOf region_len image back (none ++ b)) (sym of_front) of_back
rows_join region_len image (p ∷ front) back a b of_front of_back =
    (of_front.0, of_front.1 ++ b, ap (λ rows. rows ++ b) of_front.2 ∙ append_assoc of_front.0 of_front.1 b, of_front.3, rows_join region_len image front back of_front.1 b of_front.4 of_back)

-- ---- leads apart

lead_counts : (p : Part) → 1 ≤ times p.region (regions_of p)
lead_counts p = let s = times-same p.region (continuations p.header) in omega (arith, s)

-- the lead of each part is among the regions of all
leads_there : (parts : List Part) → AllByRecursion (λ p. 1 ≤ times p.region (flat_map regions_of parts)) parts
leads_there [] = tt
leads_there (p ∷ parts) = (
  (let a = times-append p.region (regions_of p) (flat_map regions_of parts) in let s = lead_counts p in omega (arith, a, s)),
  all_map (λ q. 1 ≤ times q.region (flat_map regions_of parts)) (λ q. 1 ≤ times q.region (flat_map regions_of (p ∷ parts)))
      (λ q h. let a = times-append q.region (regions_of p) (flat_map regions_of parts) in omega (arith, a, h)) parts (leads_there parts),
)

-- a region that no part has is no part's lead
no_lead : (n : ℕ) (parts : List Part) → times n (flat_map regions_of parts) ≡ 0 → AllByRecursion (λ p. p.region ≢ n) parts
no_lead n [] none = tt
no_lead n (p ∷ parts) none =
    let a = times-append n (regions_of p) (flat_map regions_of parts) in (
      λ e. let here = lead_counts p in let same : times p.region (regions_of p) ≡ times n (regions_of p) = ap (λ k. times k (regions_of p)) e in absurd (omega (arith, here, same, a, none)),
      no_lead n parts (omega (arith, a, none)),
    )

-- of parts of which no region stands twice, those in the middle have leads that the others do not have
apart_round : (before run after : List Part) → ((n : ℕ) → times n (flat_map regions_of (before ++ (run ++ after))) ≤ 1)
    → AllByRecursion (λ u. AllByRecursion (λ p. p.region ≢ u.region) before × AllByRecursion (λ p. p.region ≢ u.region) after) run
apart_round before run after once =
    all_map (λ u. 1 ≤ times u.region (flat_map regions_of run)) (λ u. AllByRecursion (λ p. p.region ≢ u.region) before × AllByRecursion (λ p. p.region ≢ u.region) after)
    (λ u here.
    let n = u.region in
    let o = once n in
    let whole : times n (flat_map regions_of (before ++ (run ++ after))) ≡ times n (flat_map regions_of before) + (times n (flat_map regions_of run) + times n (flat_map regions_of after)) =
    ap (times n) (flat_map-append regions_of before (run ++ after)) ∙ times-append n (flat_map regions_of before) (flat_map regions_of (run ++ after))
    ∙ ap (λ k. times n (flat_map regions_of before) + k) (ap (times n) (flat_map-append regions_of run after) ∙ times-append n (flat_map regions_of run) (flat_map regions_of after)) in
    (no_lead n before (omega (arith, o, whole, here)), no_lead n after (omega (arith, o, whole, here))))
    run (leads_there run)

-- ---- the law

module _ (region_len region : ℕ) (old new : Image) (before : List Part) (oldest : Part) (newer after : List Part) (header : Header)
    (s : IsOpenedOver region_len region old new before oldest newer after header) where
  abbrev part : Part
  part = part_of region header

  abbrev run : List Part
  run = oldest ∷ newer

  abbrev was : List Part
  was = before ++ (run ++ after)

  abbrev now : List Part
  now = before ++ part ∷ after

  opened : IsOpened region_len region old new header
  opened = record { differs = s.differs; free = s.free; has_header = s.has_header }

  ordered : header.range.first ≤ header.range.last
  ordered = header_ordered region_len new part s.has_header

  facts : IsChain region_len old was
  facts = chain_law region_len old was s.is_chain

  first : header.range.first ≡ oldest.header.range.first
  first = ap (λ r. r.first) s.range

  last : header.range.last ≡ end_from oldest.header.range.last newer
  last = ap (λ r. r.last) s.range

  -- the neighbours follow on some epoch
  run_follows : (e : ℕ) (before : List Part) → PartsFollow e (before ++ (run ++ after)) → (f : ℕ) × PartsFollow f (run ++ after)
  run_follows e [] follow = (e, follow)
  run_follows e (q ∷ before) follow = run_follows q.header.range.last before follow.2

  front_follows : (e : ℕ) (xs ys : List Part) → PartsFollow e (xs ++ ys) → PartsFollow e xs
  front_follows e [] ys follow = tt
  front_follows e (x ∷ xs) ys follow = (follow.0, follow.1, front_follows x.header.range.last xs ys follow.2)

  epoch : (f : ℕ) × PartsFollow f (run ++ after)
  epoch = let k = facts in run_follows 0 before k.follow

  -- the new part ends later than the first neighbour
  longer : oldest.header.range.last < header.range.last
  longer = let k = epoch.1 in by newer s.several last k.2
    where
      by : (ps : List Part) → ps ≢ [] → header.range.last ≡ end_from oldest.header.range.last ps → PartsFollow oldest.header.range.last (ps ++ after) → oldest.header.range.last < header.range.last
      by [] some is follow = absurd (some refl)
      by (q ∷ ps) some is follow =
          let f = follow.0 in let o = follow.1 in
          let ends = (follow_end q.header.range.last ps (front_follows q.header.range.last ps after follow.2)).0 in omega (arith, f, o, ends, is)

  same_end : chain_end now ≡ chain_end was
  same_end =
      fold-append (λ e p. p.header.range.last) 0 before (part ∷ after) ∙ ap (λ e. end_from e after) last
      ∙ sym (fold-append (λ e p. p.header.range.last) oldest.header.range.last newer after) ∙ sym (fold-append (λ e p. p.header.range.last) 0 before (run ++ after))

  module _ (i : Inserted region_len region old new header (before ++ (run ++ after))) where
    abbrev few : List Part
    few = i.left ++ i.right

    abbrev all : List Part
    all = i.left ++ part ∷ i.right

    walked_now : Walked all now
    walked_now =
        let w = i.walk in
        let k = facts in
        let ends = walk_ends few was i.ordered w.walk in
        let walk = walk_replaced i.left i.right part oldest newer after first last longer ordered 0 before k.follow ends.0 in
        let short = ends.1 in
        let a = length-append i.left (part ∷ i.right) in let b = length-append i.left i.right in
        let c = length-append before (part ∷ after) in let d = length-append before (run ++ after) in let e = length-append newer after in
        let f = epoch.1.0 in
        let clean = no_fault_now before run after part epoch.0 (first ∙ f) last (front_follows epoch.0 run after epoch.1) same_end in record {
          walk = taken_walks all 0 now (length all) walk.1 (omega (arith, short, a, b, c, d, e));
          faultless = round (λ q. fault_beside now q ≡ None) i.left part i.right
              (all_map (λ q. fault_beside was q ≡ None) (λ q. fault_beside now q ≡ None) clean few w.faultless)
              (no_fault_itself before run after part epoch.0 (first ∙ f) last (front_follows epoch.0 run after epoch.1) same_end);
        }

  chain_now : chain region_len new ≡ Ok now
  chain_now = let i = inserted region_len region old new header opened was s.is_chain in i.now now (walked_now i)

  retired_now : (others : List Part) → AreRetired region_len old was others → AreRetired region_len new now (run ++ others)
  retired_now others r =
      let k = facts in
      still_retired region_len region old new header opened now (run ++ others) chain_now
      (all_append (λ p. HasHeader region_len old p.region p.header) run others
      (all_map (IsPart region_len old) (λ p. HasHeader region_len old p.region p.header) (λ p is. is.has_header) run (all_left (IsPart region_len old) run after (all_right (IsPart region_len old) before (run ++ after) k.each)))
      r.headers)
      (all_append (λ other. (region ≢ other.region → AllByRecursion (λ p. p.region ≢ other.region) now)) run others
      (all_map (λ u. AllByRecursion (λ p. p.region ≢ u.region) before × AllByRecursion (λ p. p.region ≢ u.region) after) (λ other. (region ≢ other.region → AllByRecursion (λ p. p.region ≢ other.region) now))
      (λ u apart new_one. all_append (λ p. p.region ≢ u.region) before (part ∷ after) apart.0 (new_one, apart.1)) run (apart_round before run after (distinct_times (flat_map regions_of was) k.distinct)))
      (all_map (λ other. AllByRecursion (λ p. p.region ≢ other.region) was) (λ other. (region ≢ other.region → AllByRecursion (λ p. p.region ≢ other.region) now))
      (λ other apart new_one. all_append (λ p. p.region ≢ other.region) before (part ∷ after) (all_left (λ p. p.region ≢ other.region) before (run ++ after) apart)
      (new_one, all_right (λ p. p.region ≢ other.region) run after (all_right (λ p. p.region ≢ other.region) before (run ++ after) apart))) others r.beside))

  rows_now : (a b own : List Row) → AreRowsOf region_len old before a → AreRowsOf region_len old after b → IsSealed region_len new region header.range own → AreRowsOf region_len new now (a ++ (own ++ b))
  unfolding AreRowsOf
  rows_now a b own of_before of_after sealed =
      rows_join region_len new before (part ∷ after) a (own ++ b) (rows_kept region_len region old new s.differs (lead_free region_len region old new header opened) before a of_before)
      (own, b, refl, sealed, rows_kept region_len region old new s.differs (lead_free region_len region old new header opened) after b of_after)

pub replace_law : ReplaceLaw
replace_law region_len region old new before oldest newer after header s = record {
  is_chain = chain_now region_len region old new before oldest newer after header s;
  same_end = same_end region_len region old new before oldest newer after header s;
  retired = retired_now region_len region old new before oldest newer after header s;
  taken = λ r. free_now region_len region old new header (opened region_len region old new before oldest newer after header s) r (cases_eq r region);
  left = left_now region_len region old new header (opened region_len region old new before oldest newer after header s);
  headers = header_kept region_len region old new s.differs (let f = s.free in f.0);
  leads = sealed_kept region_len region old new s.differs (let f = s.free in f.0);
  rows = rows_now region_len region old new before oldest newer after header s;
}

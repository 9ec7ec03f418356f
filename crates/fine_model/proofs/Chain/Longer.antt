-- The law of a free region that is sealed next.
use Rattle.std.proofs.Common.{◌≡◌, ℕ, suc, ◌≤◌, ◌≢◌, List, [], ◌∷◌, ◌++◌, length, refl, sym, ap, ◌∙◌, subst, None, Ok, arith, length-append, append-nil, append_assoc}
use Rattle.std.specs.Prelude.{Result}
use Rattle.std.specs.List.{AllByRecursion}
use Rattle.std.proofs.lemmas.Bool.{cases_eq}
use Rattle.std.proofs.lemmas.List.Sums.{fold-append}
use Rattle.fine_model.specs.Types.{Row, Header, Part, Damage}
use Rattle.fine_model.specs.Regions.{Image, IsSealed}
use Rattle.fine_model.specs.Chain.{taken, chain_end, fault_beside, chain, AreRowsOf, Shows}
use Rattle.fine_model.specs.ChainLaws.{part_of, PartsFollow, IsSealedNext, SealLaw, AreRetired}
use Rattle.fine_model.proofs.Ordered.Order.{all_map}
use Rattle.fine_model.proofs.Ordered.Sets.{all_append}
use Rattle.fine_model.proofs.Ordered.Parts.{all_both}
use Rattle.fine_model.proofs.Chain.Free.{header_kept, sealed_kept, rows_kept}
use Rattle.fine_model.proofs.Chain.Chains.{taken_follow, Walked, begins_before}
use Rattle.fine_model.proofs.Chain.Sealing.{round, taken_more, itself, no_fault_beside}
use Rattle.fine_model.proofs.Chain.ReadChain.{header_ordered}
use Rattle.fine_model.proofs.Chain.Opened.{IsOpened, Inserted, inserted, lead_free, free_now, left_now, still_retired}

-- rows of parts, and those of one part more
pub rows_more : (region_len : ℕ) (image : Image) (parts : List Part) (p : Part) (rows own : List Row) → AreRowsOf region_len image parts rows → IsSealed region_len image p.region p.header.range own
    → AreRowsOf region_len image (parts ++ p ∷ []) (rows ++ own)
unfolding AreRowsOf
rows_more region_len image [] p rows own are s = (own, [], ap (λ rs. rs ++ own) are ∙ sym (append-nil own), s, refl)
rows_more region_len image (q ∷ parts) p rows own are s =
    (are.0, are.1 ++ own, ap (λ rs. rs ++ own) are.2 ∙ append_assoc are.0 are.1 own, are.3, rows_more region_len image parts p are.1 own are.4 s)

module _ (region_len region : ℕ) (old new : Image) (parts : List Part) (header : Header) (s : IsSealedNext region_len region old new parts header) where
  abbrev part : Part
  part = part_of region header

  opened : IsOpened region_len region old new header
  opened = record { differs = s.differs; free = s.free; has_header = s.has_header }

  part_ordered : header.range.first ≤ header.range.last
  part_ordered = header_ordered region_len new part s.has_header

  module _ (i : Inserted region_len region old new header parts) where
    abbrev few : List Part
    few = i.left ++ i.right

    abbrev all : List Part
    all = i.left ++ part ∷ i.right

    follow : PartsFollow 0 parts
    follow = let w = i.walk in subst (PartsFollow 0) w.walk (taken_follow (length few) few 0 i.ordered)

    low : AllByRecursion (λ q. q.header.range.first ≤ chain_end parts) few
    low =
        let w = i.walk in
        all_both (λ q. q.header.range.first ≤ q.header.range.last) (λ q. fault_beside parts q ≡ None) (λ q. q.header.range.first ≤ chain_end parts) (begins_before parts follow) few i.ordered w.faultless

    as_many : length all ≡ suc (length few)
    as_many = let a = length-append i.left (part ∷ i.right) in let b = length-append i.left i.right in omega (arith, a, b)

    walked_now : Walked all (parts ++ part ∷ [])
    walked_now =
        let w = i.walk in record {
          walk = ap (λ n. taken n all 1) as_many ∙ taken_more i.left i.right part (chain_end parts) s.next part_ordered low (length few) 0 (ap chain_end w.walk) ∙ ap (λ ps. ps ++ part ∷ []) w.walk;
          faultless = round (λ q. fault_beside (parts ++ part ∷ []) q ≡ None) i.left part i.right
              (all_both (λ q. q.header.range.first ≤ chain_end parts) (λ q. fault_beside parts q ≡ None) (λ q. fault_beside (parts ++ part ∷ []) q ≡ None)
              (no_fault_beside parts part s.next part_ordered) few low w.faultless)
              (itself parts part s.next part_ordered);
        }

  longer_chain : chain region_len new ≡ Ok (parts ++ part ∷ [])
  longer_chain = let i = inserted region_len region old new header opened parts s.is_chain in i.now (parts ++ part ∷ []) (walked_now i)

  rows_now : (rows own : List Row) → AreRowsOf region_len old parts rows → IsSealed region_len new region header.range own → AreRowsOf region_len new (parts ++ part ∷ []) (rows ++ own)
  rows_now rows own are sealed = rows_more region_len new parts part rows own (rows_kept region_len region old new s.differs (lead_free region_len region old new header opened) parts rows are) sealed

  shown_now : (e : ℕ) (rows own : List Row) → Shows region_len old e rows → IsSealed region_len new region header.range own → Shows region_len new header.range.last (rows ++ own)
  shown_now e rows own shows sealed =
      let same : ◌≡◌ {A = Result (List Part) Damage} (Ok shows.parts) (Ok parts) = sym shows.is_chain ∙ s.is_chain in
      let are : shows.parts ≡ parts = cc in record {
        parts = parts ++ part ∷ [];
        is_chain = longer_chain;
        ends = sym (fold-append (λ e q. q.header.range.last) 0 parts (part ∷ []));
        are_rows = rows_now rows own (subst (λ ps. AreRowsOf region_len old ps rows) are shows.are_rows) sealed;
      }

  retired_now : (others : List Part) → AreRetired region_len old parts others → AreRetired region_len new (parts ++ part ∷ []) others
  retired_now others r =
      still_retired region_len region old new header opened (parts ++ part ∷ []) others longer_chain r.headers
      (all_map (λ other. AllByRecursion (λ p. p.region ≢ other.region) parts) (λ other. (region ≢ other.region → AllByRecursion (λ p. p.region ≢ other.region) (parts ++ part ∷ [])))
      (λ other apart new_one. all_append (λ p. p.region ≢ other.region) parts (part ∷ []) apart (new_one, tt)) others r.beside)

pub seal_law : SealLaw
seal_law region_len region old new parts header s = record {
  is_chain = longer_chain region_len region old new parts header s;
  taken = λ r. free_now region_len region old new header (opened region_len region old new parts header s) r (cases_eq r region);
  left = left_now region_len region old new header (opened region_len region old new parts header s);
  headers = header_kept region_len region old new s.differs (let f = s.free in f.0);
  leads = sealed_kept region_len region old new s.differs (let f = s.free in f.0);
  rows = rows_now region_len region old new parts header s;
  shown = shown_now region_len region old new parts header s;
  retired = retired_now region_len region old new parts header s;
}
